-- Arguments in brackets behind an object of a class: only their number is looked at, and default members pass them on.
use Rattle.std.proofs.Common.{◌≡◌, ℕ, zero, suc, ◌-◌, ◌==◌, Bool, true, false, ◌||◌, ◌&&◌, not, List, [], ◌∷◌, length, is_some, if◌then◌else◌, Option, Some, None, refl, sym, ap, ◌∙◌, arith}
use Rattle.std.specs.List.{list_all}
use Rattle.vba_values.specs.Types.{Declared}
use Rattle.vba_values.specs.Types as type
use Rattle.bound_project.specs.Parameters.{has_parameters, without_last}
use Rattle.bound_project.specs.Project.{Class, Declarations, Member, is_variable, is_procedure, is_property, Parameter, Procedure, class_at, procedure_at}
use Rattle.vba_meaning.specs.Defaults.{most_passed}
use Rattle.bound_declarations.specs.constant_values.specs.declared_names.specs.binder.specs.Classes.{class_in}
use Rattle.bound_forms.specs.ClassDefaults.{breaks, class_led, class_let, class_set, field_type, known_or, led_by, let_by, member_led, member_let, member_set, not_said, other_led, other_let, other_set, procedure_led, property_let, property_set, reader_let, reader_set, result_let, set_by, written_by}
use Rattle.bound_forms.specs.ClassDefaults as plain
use Rattle.bound_forms.specs.Terms.{Given, has_names, may_lack, takes, takes_named}
use Rattle.class_defaults.specs.Known.{Passes, on, ends, passed_by}
use Rattle.class_defaults.specs.Items.{ArePlain, led_on, let_on, member_leads, member_lets, member_sets, plainly, procedure_leads, property_lets, property_sets, reader_lets, reader_sets, set_on, setter_passes, takes_many, unset_rule}

-- ---- arguments that are all written, without names

pub all_plain : (n : ℕ) → ArePlain n (plainly n)
all_plain zero = tt
all_plain (suc n) = ((refl, refl), all_plain n)

pub plain_long : (n : ℕ) (gs : List Given) → ArePlain n gs → length gs ≡ n
plain_long zero [] h = refl
plain_long zero (g ∷ gs) h = absurd h
plain_long (suc n) [] h = absurd h
plain_long (suc n) (g ∷ gs) h = let e : length gs ≡ n = plain_long n gs h.1 in omega (arith, e)

pub plain_names : (n : ℕ) (gs : List Given) → ArePlain n gs → has_names gs ≡ false
plain_names zero [] h = refl
plain_names zero (g ∷ gs) h = absurd h
plain_names (suc n) [] h = absurd h
plain_names (suc n) (g ∷ gs) h = ap (λ (b : Bool). b || has_names gs) h.0.0 ∙ plain_names n gs h.1

pub plainly_long : (n : ℕ) → length (plainly n) ≡ n
plainly_long n = plain_long n (plainly n) (all_plain n)

many_or_more : (many named written lacks rest others : Bool) → named ≡ false → written ≡ true → rest ≡ others → (if many then not named else (written || lacks) && rest) ≡ (many || others)
many_or_more true named written lacks rest others n w r = ap (λ (b : Bool). not b) n
many_or_more false named written lacks rest others n w r = ap (λ (b : Bool). (b || lacks) && rest) w ∙ r

-- what parameters take of them their number says
pub takes_plain : (ps : List Parameter) (n : ℕ) (gs : List Given) → ArePlain n gs → takes ps gs ≡ takes_many ps n
takes_plain ps zero [] h = refl
takes_plain ps zero (g ∷ gs) h = absurd h
takes_plain ps (suc n) [] h = absurd h
takes_plain [] (suc n) (g ∷ gs) h = refl
takes_plain (p ∷ ps) (suc n) (g ∷ gs) h =
    let by_place : Bool = if p.many then not (has_names (g ∷ gs)) else (is_some g.term || may_lack p) && takes ps gs in
    ap (λ (b : Bool). if b then takes_named (Some (p ∷ ps)) (g ∷ gs) else by_place) h.0.0
    ∙ many_or_more p.many (has_names (g ∷ gs)) (is_some g.term) (may_lack p) (takes ps gs) (takes_many ps n) (plain_names (suc n) (g ∷ gs) h) h.0.1 (takes_plain ps n gs h.1)

pub takes_plainly : (ps : List Parameter) (n : ℕ) → takes ps (plainly n) ≡ takes_many ps n
takes_plainly ps n = takes_plain ps n (plainly n) (all_plain n)

same_takes : (ps : List Parameter) (n : ℕ) (gs : List Given) → ArePlain n gs → takes ps gs ≡ takes ps (plainly n)
same_takes ps n gs h = takes_plain ps n gs h ∙ sym (takes_plainly ps n)

same_long : (n : ℕ) (gs : List Given) → ArePlain n gs → length gs ≡ length (plainly n)
same_long n gs h = plain_long n gs h ∙ sym (plainly_long n)

pub takes_no_more : (ps : List Parameter) (n : ℕ) → n ≡ 0 → takes_many ps n ≡ list_all may_lack ps
takes_no_more ps n h = rw h refl

pub takes_one_more : (p : Parameter) (ps : List Parameter) (n : ℕ) → (n ≡ 0 → ⊥) → takes_many (p ∷ ps) n ≡ (p.many || takes_many ps (n - 1))
takes_one_more p ps zero h = absurd (h refl)
takes_one_more p ps (suc n) h = let e : suc n - 1 ≡ n = omega arith in rw e refl

pub takes_none_left : (n : ℕ) → (n ≡ 0 → ⊥) → takes_many [] n ≡ false
takes_none_left zero h = absurd (h refl)
takes_none_left (suc n) h = refl

-- ---- one by one: a procedure takes them, or passes them on

ends_or_on : (b : Bool) (pass : Declared → plain.Known) (found : plain.Known) (of : Declared) → passed_by pass (if b then ends found else on of) ≡ (if b then found else pass of)
ends_or_on true pass found of = refl
ends_or_on false pass found of = refl

ends_or_others : (b : Bool) (pass : Declared → plain.Known) (found : plain.Known) (others : Passes) → passed_by pass (if b then ends found else others) ≡ (if b then found else passed_by pass others)
ends_or_others true pass found others = refl
ends_or_others false pass found others = refl

pub procedure_takes : (p : Procedure) (n : ℕ) (ps : List Parameter) (of : Declared) (found : plain.Known) → ps ≡ p.parameters → of ≡ p.result.of → has_parameters ps ≡ true → found ≡ known_or (takes_many ps n) 25 of
    → ends found ≡ procedure_leads p (plainly n)
procedure_takes p n ps of found same of_is has is =
    let there : has_parameters p.parameters ≡ true = ap has_parameters (sym same) ∙ has in
    let many : takes_many ps n ≡ takes p.parameters (plainly n) = ap (λ (l : List Parameter). takes_many l n) same ∙ sym (takes_plainly p.parameters n) in
    ap ends is ∙ ap (λ (b : Bool). ends (known_or b 25 of)) many ∙ ap (λ (u : Declared). ends (known_or (takes p.parameters (plainly n)) 25 u)) of_is
    ∙ sym (ap (λ (b : Bool). if b then ends (known_or (takes p.parameters (plainly n)) 25 p.result.of) else on p.result.of) there)

pub procedure_passes : (p : Procedure) (n : ℕ) (ps : List Parameter) (of : Declared) → ps ≡ p.parameters → of ≡ p.result.of → has_parameters ps ≡ false → on of ≡ procedure_leads p (plainly n)
procedure_passes p n ps of same of_is has =
    let there : has_parameters p.parameters ≡ false = ap has_parameters (sym same) ∙ has in
    ap on of_is ∙ sym (ap (λ (b : Bool). if b then ends (known_or (takes p.parameters (plainly n)) 25 p.result.of) else on p.result.of) there)

pub result_takes : (d : Declarations) (p : Procedure) (n : ℕ) (ps : List Parameter) (of : Declared) (found : plain.Known) → ps ≡ p.parameters → of ≡ p.result.of → takes_many ps n ≡ true → found ≡ written_by d most_passed of
    → found ≡ result_let d p (plainly n)
result_takes d p n ps of found same of_is many is =
    let there : takes p.parameters (plainly n) ≡ true = takes_plainly p.parameters n ∙ ap (λ (l : List Parameter). takes_many l n) (sym same) ∙ many in
    is ∙ ap (written_by d most_passed) of_is ∙ sym (ap (λ (b : Bool). if b then written_by d most_passed p.result.of else breaks 25) there)

pub result_refuses : (d : Declarations) (p : Procedure) (n : ℕ) (ps : List Parameter) → ps ≡ p.parameters → takes_many ps n ≡ false → breaks 25 ≡ result_let d p (plainly n)
result_refuses d p n ps same many =
    let there : takes p.parameters (plainly n) ≡ false = takes_plainly p.parameters n ∙ ap (λ (l : List Parameter). takes_many l n) (sym same) ∙ many in
    sym (ap (λ (b : Bool). if b then written_by d most_passed p.result.of else breaks 25) there)

pub reader_lets_here : (d : Declarations) (p : Procedure) (n : ℕ) (ps : List Parameter) (found : plain.Known) → ps ≡ p.parameters → has_parameters ps ≡ true → found ≡ result_let d p (plainly n) → ends found ≡ reader_lets d p (plainly n)
reader_lets_here d p n ps found same has is =
    let there : has_parameters p.parameters ≡ true = ap has_parameters (sym same) ∙ has in
    ap ends is ∙ sym (ap (λ (b : Bool). if b then ends (result_let d p (plainly n)) else on p.result.of) there)

pub reader_lets_on : (d : Declarations) (p : Procedure) (n : ℕ) (ps : List Parameter) (of : Declared) → ps ≡ p.parameters → of ≡ p.result.of → has_parameters ps ≡ false → on of ≡ reader_lets d p (plainly n)
reader_lets_on d p n ps of same of_is has =
    let there : has_parameters p.parameters ≡ false = ap has_parameters (sym same) ∙ has in
    ap on of_is ∙ sym (ap (λ (b : Bool). if b then ends (result_let d p (plainly n)) else on p.result.of) there)

pub setter_takes : (p : Procedure) (n : ℕ) (ps : List Parameter) (others : Passes) (found : plain.Known) → ps ≡ without_last p.parameters → has_parameters ps ≡ true → found ≡ known_or (takes_many ps n) 25 type.variant
    → ends found ≡ setter_passes p others (plainly n)
setter_takes p n ps others found same has is =
    let there : has_parameters (without_last p.parameters) ≡ true = ap has_parameters (sym same) ∙ has in
    let many : takes_many ps n ≡ takes (without_last p.parameters) (plainly n) = ap (λ (l : List Parameter). takes_many l n) same ∙ sym (takes_plainly (without_last p.parameters) n) in
    ap ends is ∙ ap (λ (b : Bool). ends (known_or b 25 type.variant)) many ∙ sym (ap (λ (b : Bool). if b then ends (known_or (takes (without_last p.parameters) (plainly n)) 25 type.variant) else others) there)

pub setter_passes_on : (p : Procedure) (n : ℕ) (ps : List Parameter) (others : Passes) → ps ≡ without_last p.parameters → has_parameters ps ≡ false → others ≡ setter_passes p others (plainly n)
setter_passes_on p n ps others same has =
    let there : has_parameters (without_last p.parameters) ≡ false = ap has_parameters (sym same) ∙ has in
    sym (ap (λ (b : Bool). if b then ends (known_or (takes (without_last p.parameters) (plainly n)) 25 type.variant) else others) there)

pub reader_sets_here : (p : Procedure) (n : ℕ) (ps : List Parameter) (takes_them : Bool) (found : plain.Known) → ps ≡ p.parameters → has_parameters ps ≡ true → takes_them ≡ takes_many ps n → found ≡ unset_rule takes_them
    → ends found ≡ reader_sets p (plainly n)
reader_sets_here p n ps takes_them found same has many is =
    let there : has_parameters p.parameters ≡ true = ap has_parameters (sym same) ∙ has in
    let taken : takes_them ≡ takes p.parameters (plainly n) = many ∙ ap (λ (l : List Parameter). takes_many l n) same ∙ sym (takes_plainly p.parameters n) in
    ap ends is ∙ ap (λ (b : Bool). ends (unset_rule b)) taken ∙ sym (ap (λ (b : Bool). if b then ends (unset_rule (takes p.parameters (plainly n))) else on p.result.of) there)

pub reader_sets_on : (p : Procedure) (n : ℕ) (ps : List Parameter) (of : Declared) → ps ≡ p.parameters → of ≡ p.result.of → has_parameters ps ≡ false → on of ≡ reader_sets p (plainly n)
reader_sets_on p n ps of same of_is has =
    let there : has_parameters p.parameters ≡ false = ap has_parameters (sym same) ∙ has in
    ap on of_is ∙ sym (ap (λ (b : Bool). if b then ends (unset_rule (takes p.parameters (plainly n))) else on p.result.of) there)

-- ---- what a class passes on says what is known of it

pub leads_passed : (pass : Declared → plain.Known) (d : Declarations) (c : Class) (m : Option Member) (gs : List Given) → passed_by pass (member_leads d c m gs) ≡ member_led pass d c m gs
leads_passed pass d c None gs = refl
leads_passed pass d c (Some (is_variable i makes)) gs = refl
leads_passed pass d c (Some (is_procedure p)) gs =
    let q = procedure_at d p in ends_or_on (has_parameters q.parameters) pass (known_or (takes q.parameters gs) 25 q.result.of) q.result.of
leads_passed pass d c (Some (is_property (Some p) lets sets)) gs =
    let q = procedure_at d p in ends_or_on (has_parameters q.parameters) pass (known_or (takes q.parameters gs) 25 q.result.of) q.result.of
leads_passed pass d c (Some (is_property None lets sets)) gs = refl

property_lets_passed : (pass : Declared → plain.Known) (d : Declarations) (reads : Option ℕ) (gs : List Given) → passed_by pass (property_lets d reads gs) ≡ property_let pass d reads gs
property_lets_passed pass d None gs = refl
property_lets_passed pass d (Some p) gs = let q = procedure_at d p in ends_or_on (has_parameters q.parameters) pass (result_let d q gs) q.result.of

pub lets_passed : (pass : Declared → plain.Known) (d : Declarations) (c : Class) (m : Option Member) (gs : List Given) → passed_by pass (member_lets d c m gs) ≡ member_let pass d c m gs
lets_passed pass d c None gs = refl
lets_passed pass d c (Some (is_variable i makes)) gs = refl
lets_passed pass d c (Some (is_procedure p)) gs = let q = procedure_at d p in ends_or_on (has_parameters q.parameters) pass (result_let d q gs) q.result.of
lets_passed pass d c (Some (is_property reads None sets)) gs = property_lets_passed pass d reads gs
lets_passed pass d c (Some (is_property reads (Some p) sets)) gs =
    let front = without_last (procedure_at d p).parameters in
    ends_or_others (has_parameters front) pass (known_or (takes front gs) 25 type.variant) (property_lets d reads gs)
    ∙ ap (λ (k : plain.Known). if has_parameters front then known_or (takes front gs) 25 type.variant else k) (property_lets_passed pass d reads gs)

unset_is : (b : Bool) → unset_rule b ≡ (if b then breaks 27 else breaks 25)
unset_is true = refl
unset_is false = refl

reader_sets_passed : (pass : Declared → plain.Known) (p : Procedure) (gs : List Given) → passed_by pass (reader_sets p gs) ≡ reader_set pass p gs
reader_sets_passed pass p gs =
    ends_or_on (has_parameters p.parameters) pass (unset_rule (takes p.parameters gs)) p.result.of
    ∙ ap (λ (k : plain.Known). if has_parameters p.parameters then k else pass p.result.of) (unset_is (takes p.parameters gs))

property_sets_passed : (pass : Declared → plain.Known) (d : Declarations) (reads : Option ℕ) (gs : List Given) → passed_by pass (property_sets d reads gs) ≡ property_set pass d reads gs
property_sets_passed pass d None gs = refl
property_sets_passed pass d (Some p) gs = reader_sets_passed pass (procedure_at d p) gs

pub sets_passed : (pass : Declared → plain.Known) (d : Declarations) (c : Class) (m : Option Member) (gs : List Given) → passed_by pass (member_sets d c m gs) ≡ member_set pass d c m gs
sets_passed pass d c None gs = refl
sets_passed pass d c (Some (is_variable i makes)) gs = refl
sets_passed pass d c (Some (is_procedure p)) gs = reader_sets_passed pass (procedure_at d p) gs
sets_passed pass d c (Some (is_property reads lets None)) gs = property_sets_passed pass d reads gs
sets_passed pass d c (Some (is_property reads lets (Some p))) gs =
    let front = without_last (procedure_at d p).parameters in
    ends_or_others (has_parameters front) pass (known_or (takes front gs) 25 type.variant) (property_sets d reads gs)
    ∙ ap (λ (k : plain.Known). if has_parameters front then known_or (takes front gs) 25 type.variant else k) (property_sets_passed pass d reads gs)

-- ---- through so many default members

led_class : (d : Declarations) (gs : List Given) (left number : ℕ) → member_led (λ of. led_on d gs left of) d (class_at d number) (class_at d number).default gs ≡ led_by d gs left (type.class number)
led_class d gs zero number = refl
led_class d gs (suc left) number = refl

pub led_step : (d : Declarations) (gs : List Given) (left number : ℕ) (k : plain.Known) (w : Passes) → w ≡ member_leads d (class_at d number) (class_at d number).default gs → k ≡ passed_by (λ of. led_on d gs left of) w
    → k ≡ led_by d gs left (type.class number)
led_step d gs left number k w e f =
    f ∙ ap (passed_by (λ of. led_on d gs left of)) e ∙ leads_passed (λ of. led_on d gs left of) d (class_at d number) (class_at d number).default gs ∙ led_class d gs left number

led_other_first : (d : Declarations) (gs : List Given) (of : Declared) → class_in of ≡ None → led_by d gs 0 of ≡ other_led of gs
led_other_first d gs (type.class n) h = let e : Some n ≡ None = h in absurd cc
led_other_first d gs of h = refl

led_other_later : (d : Declarations) (gs : List Given) (left : ℕ) (of : Declared) → class_in of ≡ None → led_by d gs (suc left) of ≡ other_led of gs
led_other_later d gs left (type.class n) h = let e : Some n ≡ None = h in absurd cc
led_other_later d gs left of h = refl

pub led_other : (d : Declarations) (gs : List Given) (left : ℕ) (of : Declared) → class_in of ≡ None → led_by d gs left of ≡ other_led of gs
led_other d gs zero of h = led_other_first d gs of h
led_other d gs (suc left) of h = led_other_later d gs left of h

pub led_no_more : (d : Declarations) (gs : List Given) (left : ℕ) (of : Declared) → left ≡ 0 → breaks 25 ≡ led_on d gs left of
led_no_more d gs left of h = rw h refl

pub led_more : (d : Declarations) (gs : List Given) (left : ℕ) (of : Declared) → (left ≡ 0 → ⊥) → led_by d gs (left - 1) of ≡ led_on d gs left of
led_more d gs zero of h = absurd (h refl)
led_more d gs (suc left) of h = let e : suc left - 1 ≡ left = omega arith in rw e refl

let_class : (d : Declarations) (gs : List Given) (left number : ℕ) → member_let (λ of. let_on d gs left of) d (class_at d number) (class_at d number).default gs ≡ let_by d gs left (type.class number)
let_class d gs zero number = refl
let_class d gs (suc left) number = refl

pub let_step : (d : Declarations) (gs : List Given) (left number : ℕ) (k : plain.Known) (w : Passes) → w ≡ member_lets d (class_at d number) (class_at d number).default gs → k ≡ passed_by (λ of. let_on d gs left of) w
    → k ≡ let_by d gs left (type.class number)
let_step d gs left number k w e f =
    f ∙ ap (passed_by (λ of. let_on d gs left of)) e ∙ lets_passed (λ of. let_on d gs left of) d (class_at d number) (class_at d number).default gs ∙ let_class d gs left number

let_other_first : (d : Declarations) (gs : List Given) (of : Declared) → class_in of ≡ None → let_by d gs 0 of ≡ other_let d of gs
let_other_first d gs (type.class n) h = let e : Some n ≡ None = h in absurd cc
let_other_first d gs of h = refl

let_other_later : (d : Declarations) (gs : List Given) (left : ℕ) (of : Declared) → class_in of ≡ None → let_by d gs (suc left) of ≡ other_let d of gs
let_other_later d gs left (type.class n) h = let e : Some n ≡ None = h in absurd cc
let_other_later d gs left of h = refl

pub let_other : (d : Declarations) (gs : List Given) (left : ℕ) (of : Declared) → class_in of ≡ None → let_by d gs left of ≡ other_let d of gs
let_other d gs zero of h = let_other_first d gs of h
let_other d gs (suc left) of h = let_other_later d gs left of h

pub let_no_more : (d : Declarations) (gs : List Given) (left : ℕ) (of : Declared) → left ≡ 0 → breaks 25 ≡ let_on d gs left of
let_no_more d gs left of h = rw h refl

pub let_more : (d : Declarations) (gs : List Given) (left : ℕ) (of : Declared) → (left ≡ 0 → ⊥) → let_by d gs (left - 1) of ≡ let_on d gs left of
let_more d gs zero of h = absurd (h refl)
let_more d gs (suc left) of h = let e : suc left - 1 ≡ left = omega arith in rw e refl

set_class : (d : Declarations) (gs : List Given) (left number : ℕ) → member_set (λ of. set_on d gs left of) d (class_at d number) (class_at d number).default gs ≡ set_by d gs left (type.class number)
set_class d gs zero number = refl
set_class d gs (suc left) number = refl

pub set_step : (d : Declarations) (gs : List Given) (left number : ℕ) (k : plain.Known) (w : Passes) → w ≡ member_sets d (class_at d number) (class_at d number).default gs → k ≡ passed_by (λ of. set_on d gs left of) w
    → k ≡ set_by d gs left (type.class number)
set_step d gs left number k w e f =
    f ∙ ap (passed_by (λ of. set_on d gs left of)) e ∙ sets_passed (λ of. set_on d gs left of) d (class_at d number) (class_at d number).default gs ∙ set_class d gs left number

set_other_first : (d : Declarations) (gs : List Given) (of : Declared) → class_in of ≡ None → set_by d gs 0 of ≡ other_set of gs
set_other_first d gs (type.class n) h = let e : Some n ≡ None = h in absurd cc
set_other_first d gs of h = refl

set_other_later : (d : Declarations) (gs : List Given) (left : ℕ) (of : Declared) → class_in of ≡ None → set_by d gs (suc left) of ≡ other_set of gs
set_other_later d gs left (type.class n) h = let e : Some n ≡ None = h in absurd cc
set_other_later d gs left of h = refl

pub set_other : (d : Declarations) (gs : List Given) (left : ℕ) (of : Declared) → class_in of ≡ None → set_by d gs left of ≡ other_set of gs
set_other d gs zero of h = set_other_first d gs of h
set_other d gs (suc left) of h = set_other_later d gs left of h

pub set_no_more : (d : Declarations) (gs : List Given) (left : ℕ) (of : Declared) → left ≡ 0 → breaks 25 ≡ set_on d gs left of
set_no_more d gs left of h = rw h refl

pub set_more : (d : Declarations) (gs : List Given) (left : ℕ) (of : Declared) → (left ≡ 0 → ⊥) → set_by d gs (left - 1) of ≡ set_on d gs left of
set_more d gs zero of h = absurd (h refl)
set_more d gs (suc left) of h = let e : suc left - 1 ≡ left = omega arith in rw e refl

-- ---- only their number is looked at

same_led_procedure : (pass after : Declared → plain.Known) (p : Procedure) (n : ℕ) (gs : List Given) → ArePlain n gs → ((of : Declared) → pass of ≡ after of) → procedure_led pass p gs ≡ procedure_led after p (plainly n)
same_led_procedure pass after p n gs h same =
    ap (λ (b : Bool). if has_parameters p.parameters then known_or b 25 p.result.of else pass p.result.of) (same_takes p.parameters n gs h)
    ∙ ap (λ (k : plain.Known). if has_parameters p.parameters then known_or (takes p.parameters (plainly n)) 25 p.result.of else k) (same p.result.of)

same_led_member : (pass after : Declared → plain.Known) (d : Declarations) (c : Class) (m : Option Member) (n : ℕ) (gs : List Given) → ArePlain n gs → ((of : Declared) → pass of ≡ after of)
    → member_led pass d c m gs ≡ member_led after d c m (plainly n)
same_led_member pass after d c None n gs h same = refl
same_led_member pass after d c (Some (is_variable i makes)) n gs h same = same (field_type c i)
same_led_member pass after d c (Some (is_procedure p)) n gs h same = same_led_procedure pass after (procedure_at d p) n gs h same
same_led_member pass after d c (Some (is_property (Some p) lets sets)) n gs h same = same_led_procedure pass after (procedure_at d p) n gs h same
same_led_member pass after d c (Some (is_property None lets sets)) n gs h same = refl

same_led_other : (of : Declared) (n : ℕ) (gs : List Given) → ArePlain n gs → other_led of gs ≡ other_led of (plainly n)
same_led_other type.collection n gs h = ap (λ (m : ℕ). known_or (m == 1) 25 type.variant) (same_long n gs h)
same_led_other type.range n gs h = ap (λ (m : ℕ). known_or (m == 2) 25 type.range) (same_long n gs h)
same_led_other of n gs h = refl

same_result : (d : Declarations) (p : Procedure) (n : ℕ) (gs : List Given) → ArePlain n gs → result_let d p gs ≡ result_let d p (plainly n)
same_result d p n gs h = ap (λ (b : Bool). if b then written_by d most_passed p.result.of else breaks 25) (same_takes p.parameters n gs h)

same_let_reader : (pass after : Declared → plain.Known) (d : Declarations) (p : Procedure) (n : ℕ) (gs : List Given) → ArePlain n gs → ((of : Declared) → pass of ≡ after of) → reader_let pass d p gs ≡ reader_let after d p (plainly n)
same_let_reader pass after d p n gs h same =
    ap (λ (k : plain.Known). if has_parameters p.parameters then k else pass p.result.of) (same_result d p n gs h)
    ∙ ap (λ (k : plain.Known). if has_parameters p.parameters then result_let d p (plainly n) else k) (same p.result.of)

same_let_property : (pass after : Declared → plain.Known) (d : Declarations) (reads : Option ℕ) (n : ℕ) (gs : List Given) → ArePlain n gs → ((of : Declared) → pass of ≡ after of)
    → property_let pass d reads gs ≡ property_let after d reads (plainly n)
same_let_property pass after d None n gs h same = refl
same_let_property pass after d (Some p) n gs h same = same_let_reader pass after d (procedure_at d p) n gs h same

same_setter : (p : Procedure) (one other : plain.Known) (n : ℕ) (gs : List Given) → ArePlain n gs → one ≡ other
    → (if has_parameters (without_last p.parameters) then known_or (takes (without_last p.parameters) gs) 25 type.variant else one)
    ≡ (if has_parameters (without_last p.parameters) then known_or (takes (without_last p.parameters) (plainly n)) 25 type.variant else other)
same_setter p one other n gs h same =
    let front = without_last p.parameters in
    ap (λ (b : Bool). if has_parameters front then known_or b 25 type.variant else one) (same_takes front n gs h)
    ∙ ap (λ (k : plain.Known). if has_parameters front then known_or (takes front (plainly n)) 25 type.variant else k) same

same_let_member : (pass after : Declared → plain.Known) (d : Declarations) (c : Class) (m : Option Member) (n : ℕ) (gs : List Given) → ArePlain n gs → ((of : Declared) → pass of ≡ after of)
    → member_let pass d c m gs ≡ member_let after d c m (plainly n)
same_let_member pass after d c None n gs h same = refl
same_let_member pass after d c (Some (is_variable i makes)) n gs h same = same (field_type c i)
same_let_member pass after d c (Some (is_procedure p)) n gs h same = same_let_reader pass after d (procedure_at d p) n gs h same
same_let_member pass after d c (Some (is_property reads None sets)) n gs h same = same_let_property pass after d reads n gs h same
same_let_member pass after d c (Some (is_property reads (Some p) sets)) n gs h same =
    same_setter (procedure_at d p) (property_let pass d reads gs) (property_let after d reads (plainly n)) n gs h (same_let_property pass after d reads n gs h same)

same_let_other : (d : Declarations) (of : Declared) (n : ℕ) (gs : List Given) → ArePlain n gs → other_let d of gs ≡ other_let d of (plainly n)
same_let_other d (type.array_of of) n gs h = refl
same_let_other d of n gs h = same_led_other of n gs h

same_set_reader : (pass after : Declared → plain.Known) (p : Procedure) (n : ℕ) (gs : List Given) → ArePlain n gs → ((of : Declared) → pass of ≡ after of) → reader_set pass p gs ≡ reader_set after p (plainly n)
same_set_reader pass after p n gs h same =
    ap (λ (b : Bool). if has_parameters p.parameters then (if b then breaks 27 else breaks 25) else pass p.result.of) (same_takes p.parameters n gs h)
    ∙ ap (λ (k : plain.Known). if has_parameters p.parameters then (if takes p.parameters (plainly n) then breaks 27 else breaks 25) else k) (same p.result.of)

same_set_property : (pass after : Declared → plain.Known) (d : Declarations) (reads : Option ℕ) (n : ℕ) (gs : List Given) → ArePlain n gs → ((of : Declared) → pass of ≡ after of)
    → property_set pass d reads gs ≡ property_set after d reads (plainly n)
same_set_property pass after d None n gs h same = refl
same_set_property pass after d (Some p) n gs h same = same_set_reader pass after (procedure_at d p) n gs h same

same_set_member : (pass after : Declared → plain.Known) (d : Declarations) (c : Class) (m : Option Member) (n : ℕ) (gs : List Given) → ArePlain n gs → ((of : Declared) → pass of ≡ after of)
    → member_set pass d c m gs ≡ member_set after d c m (plainly n)
same_set_member pass after d c None n gs h same = refl
same_set_member pass after d c (Some (is_variable i makes)) n gs h same = same (field_type c i)
same_set_member pass after d c (Some (is_procedure p)) n gs h same = same_set_reader pass after (procedure_at d p) n gs h same
same_set_member pass after d c (Some (is_property reads lets None)) n gs h same = same_set_property pass after d reads n gs h same
same_set_member pass after d c (Some (is_property reads lets (Some p))) n gs h same =
    same_setter (procedure_at d p) (property_set pass d reads gs) (property_set after d reads (plainly n)) n gs h (same_set_property pass after d reads n gs h same)

same_set_other : (of : Declared) (n : ℕ) (gs : List Given) → ArePlain n gs → other_set of gs ≡ other_set of (plainly n)
same_set_other type.collection n gs h = ap (λ (m : ℕ). if m == 1 then breaks 27 else breaks 25) (same_long n gs h)
same_set_other type.range n gs h = ap (λ (m : ℕ). if m == 2 then breaks 27 else breaks 25) (same_long n gs h)
same_set_other of n gs h = refl

same_led_by : (d : Declarations) (n : ℕ) (gs : List Given) → ArePlain n gs → (left : ℕ) (of : Declared) → led_by d gs left of ≡ led_by d (plainly n) left of
same_led_by d n gs h zero (type.class number) = same_led_member (λ of. breaks 25) (λ of. breaks 25) d (class_at d number) (class_at d number).default n gs h (λ of. refl)
same_led_by d n gs h (suc left) (type.class number) =
    same_led_member (λ of. led_by d gs left of) (λ of. led_by d (plainly n) left of) d (class_at d number) (class_at d number).default n gs h (λ of. same_led_by d n gs h left of)
same_led_by d n gs h left of = same_led_other of n gs h

pub whole_led : (d : Declarations) (number n : ℕ) (k : plain.Known) → k ≡ led_by d (plainly n) most_passed (type.class number) → (gs : List Given) → ArePlain n gs → class_led d number gs ≡ k
whole_led d number n k is gs h =
    ap (λ (b : Bool). if b then not_said else led_by d gs most_passed (type.class number)) (plain_names n gs h) ∙ same_led_by d n gs h most_passed (type.class number) ∙ sym is

same_let_by : (d : Declarations) (n : ℕ) (gs : List Given) → ArePlain n gs → (left : ℕ) (of : Declared) → let_by d gs left of ≡ let_by d (plainly n) left of
same_let_by d n gs h zero (type.class number) = same_let_member (λ of. breaks 25) (λ of. breaks 25) d (class_at d number) (class_at d number).default n gs h (λ of. refl)
same_let_by d n gs h (suc left) (type.class number) =
    same_let_member (λ of. let_by d gs left of) (λ of. let_by d (plainly n) left of) d (class_at d number) (class_at d number).default n gs h (λ of. same_let_by d n gs h left of)
same_let_by d n gs h left of = same_let_other d of n gs h

pub whole_let : (d : Declarations) (number n : ℕ) (k : plain.Known) → k ≡ let_by d (plainly n) most_passed (type.class number) → (gs : List Given) → ArePlain n gs → class_let d number gs ≡ k
whole_let d number n k is gs h =
    ap (λ (b : Bool). if b then not_said else let_by d gs most_passed (type.class number)) (plain_names n gs h) ∙ same_let_by d n gs h most_passed (type.class number) ∙ sym is

same_set_by : (d : Declarations) (n : ℕ) (gs : List Given) → ArePlain n gs → (left : ℕ) (of : Declared) → set_by d gs left of ≡ set_by d (plainly n) left of
same_set_by d n gs h zero (type.class number) = same_set_member (λ of. breaks 25) (λ of. breaks 25) d (class_at d number) (class_at d number).default n gs h (λ of. refl)
same_set_by d n gs h (suc left) (type.class number) =
    same_set_member (λ of. set_by d gs left of) (λ of. set_by d (plainly n) left of) d (class_at d number) (class_at d number).default n gs h (λ of. same_set_by d n gs h left of)
same_set_by d n gs h left of = same_set_other of n gs h

pub whole_set : (d : Declarations) (number n : ℕ) (k : plain.Known) → k ≡ set_by d (plainly n) most_passed (type.class number) → (gs : List Given) → ArePlain n gs → class_set d number gs ≡ k
whole_set d number n k is gs h =
    ap (λ (b : Bool). if b then not_said else set_by d gs most_passed (type.class number)) (plain_names n gs h) ∙ same_set_by d n gs h most_passed (type.class number) ∙ sym is
