-- Arguments that members take, told by their names.
use Rattle.std.proofs.Common.{◌≡◌, ◌≢◌, ℕ, zero, suc, ◌-◌, ◌≤◌, Bor, Bool, true, false, ◌||◌, ◌&&◌, ◌==◌, not, List, [], ◌∷◌, length, take, drop, get_or, Option, Some, None, is_some, if◌then◌else◌, refl, sym, ap, ◌∙◌, arith, rules, tests}
use Rattle.std.proofs.lemmas.List.{take_all}
use Rattle.vba_words.specs.declared.identifier.Identifier.{Identifier}
use Rattle.bound_calls.specs.declared.term.Shape.{Shape}
use Rattle.bound_calls.specs.Shapes.{shape_given, shapes_given}
use Rattle.std.specs.List.{list_any}
use Rattle.std.specs.Prelude.{nat_lt, option_map, option_and_then}
use Rattle.bound_project.specs.Expressions.{ByName}
use Rattle.vba_meaning.specs.ByName as by
use Rattle.vba_meaning.specs.ByName.{given_once, is_parameter, parameter_named, parameters_given}
use Rattle.vba_meaning.proofs.Named.{fits_once, given_more}
use Rattle.bound_calls.specs.bound_declarations.specs.constant_values.specs.declared_names.specs.binder.specs.Options.{from_two}
use Rattle.bound_calls.specs.bound_forms.specs.Terms.{Given, HostMember, all_named, by_name_from, given_by_name, has_names}
use Rattle.bound_calls.specs.bound_forms.specs.Operands.{is_item_name}
use Rattle.bound_calls.specs.bound_forms.specs.ExpressionsBound.{has_item, is_add, known_parameters, member_takes, takes_arguments}
use Rattle.bound_members.specs.Shapes.{all_given, any_given, begins_plain, by_one, is_item, is_item_called, item_given, names_from, one_given, takes_named}
use Rattle.bound_members.proofs.Naming.{by_name, names_of}

-- ---- arguments that all have names

once_none : (before : ℕ) (o : Option ℕ) → given_once before o None ≡ None
once_none before None = refl
once_none before (Some p) = refl

one_none : (xs : List (List ℕ)) (before : ℕ) (name : Option (List ℕ)) → one_given xs before name None ≡ None
one_none xs before None = refl
one_none xs before (Some name) = once_none before (parameter_named 0 xs name)

abbrev given_so : List (List ℕ) → (before : ℕ) → Option (List (List ℕ)) → Option (List ℕ)
given_so xs before names = option_and_then (parameters_given xs before) names

abbrev with_name : Option (List ℕ) → Option (List (List ℕ)) → Option (List (List ℕ))
with_name name names = from_two (λ x xs. x ∷ xs) name names

one_is : (xs : List (List ℕ)) (before : ℕ) (name : Option (List ℕ)) (names : Option (List (List ℕ))) → one_given xs before name (given_so xs before names) ≡ given_so xs before (with_name name names)
one_is xs before None names = refl
one_is xs before (Some name) None = once_none before (parameter_named 0 xs name)
one_is xs before (Some name) (Some names) = refl

all_is : (xs : List (List ℕ)) (before : ℕ) (gs : List Given) → all_given xs before gs ≡ given_so xs before (all_named (names_of gs))
all_is xs before [] = refl
all_is xs before (g ∷ gs) = ap (λ r. one_given xs before g.name r) (all_is xs before gs) ∙ one_is xs before g.name (all_named (names_of gs))

-- ---- arguments of which the last ones have names

abbrev taken_by : List (List ℕ) → Option ByName → Bool
taken_by xs o = is_some (option_and_then (λ (b : ByName). if is_some (parameters_given xs b.before b.names) then Some b else None) o)

some_if : {X : Type 0} → (o : Option X) (b : ByName) → is_some o ≡ is_some (if is_some o then Some b else None)
some_if None b = refl
some_if (Some x) b = refl

some_taken : (xs : List (List ℕ)) (before : ℕ) (names : Option (List (List ℕ))) → is_some (given_so xs before names) ≡ taken_by xs (option_map (λ l. by_name before l) names)
some_taken xs before None = refl
some_taken xs before (Some names) = some_if (parameters_given xs before names) (by_name before names)

abbrev from_here : List (List ℕ) → (before : ℕ) → Given → List Given → Option (List ℕ) → Bool
from_here xs before g gs name = if is_some name then is_some (all_given xs before (g ∷ gs)) else names_from xs (suc before) gs

names_at : (xs : List (List ℕ)) (before : ℕ) (g : Given) (gs : List Given) (name : Option (List ℕ)) → g.name ≡ name → names_from xs (suc before) gs ≡ taken_by xs (by_name_from (suc before) (names_of gs))
    → names_from xs before (g ∷ gs) ≡ taken_by xs (by_name_from before (names_of (g ∷ gs)))
names_at xs before g gs None e r = ap (λ o. from_here xs before g gs o) e ∙ r ∙ sym (ap (λ o. taken_by xs (by_name_from before (o ∷ names_of gs))) e)
names_at xs before g gs (Some x) e r =
    ap (λ o. from_here xs before g gs o) e ∙ ap (λ (o : Option (List ℕ)). is_some o) (all_is xs before (g ∷ gs)) ∙ some_taken xs before (all_named (names_of (g ∷ gs)))
    ∙ ap (λ o. taken_by xs (option_map (λ l. by_name before l) (all_named (o ∷ names_of gs)))) e ∙ sym (ap (λ o. taken_by xs (by_name_from before (o ∷ names_of gs))) e)

names_are : (xs : List (List ℕ)) (before : ℕ) (gs : List Given) → names_from xs before gs ≡ taken_by xs (by_name_from before (names_of gs))
names_are xs before [] = refl
names_are xs before (g ∷ gs) = names_at xs before g gs g.name refl (names_are xs (suc before) gs)

-- ---- an item among them

abbrev names_or : Option (List (List ℕ)) → List (List ℕ)
names_or None = []
names_or (Some names) = names

items_called : (gs : List Given) → list_any is_item gs ≡ list_any is_item_called (names_of gs)
items_called [] = refl
items_called (g ∷ gs) = ap (λ b. is_item_called g.name || b) (items_called gs)

-- of arguments that all have names
item_at : (name : Option (List ℕ)) (rest : Option (List (List ℕ))) (ns : List (List ℕ)) (others : Bool) → with_name name rest ≡ Some ns → ((ms : List (List ℕ)) → rest ≡ Some ms → list_any is_item_name ms ≡ others)
    → list_any is_item_name ns ≡ (is_item_called name || others)
item_at None rest ns others h r = let e : ◌≡◌ {A = Option (List (List ℕ))} None (Some ns) = h in absurd cc
item_at (Some x) None ns others h r = let e : ◌≡◌ {A = Option (List (List ℕ))} None (Some ns) = h in absurd cc
item_at (Some x) (Some ms) ns others h r = ap (λ o. list_any is_item_name (names_or o)) (sym h) ∙ ap (λ b. is_item_name x || b) (r ms refl)

all_called : (names : List (Option (List ℕ))) (ns : List (List ℕ)) → all_named names ≡ Some ns → list_any is_item_name ns ≡ list_any is_item_called names
all_called [] ns h = ap (λ o. list_any is_item_name (names_or o)) (sym h)
all_called (name ∷ names) ns h = item_at name (all_named names) ns (list_any is_item_called names) h (λ ms e. all_called names ms e)

abbrev before_or : Option ByName → ℕ
before_or None = 0
before_or (Some b) = b.before

abbrev by_or : Option ByName → List (List ℕ)
by_or None = []
by_or (Some b) = b.names

abbrev named_at : (before : ℕ) → Option (List (List ℕ)) → Option ByName
named_at before names = option_map (λ l. by_name before l) names

-- behind an argument without a name
more_than_none : (n : ℕ) → (suc n == 0) ≡ false
more_than_none n = grind arith

behind_one : (k : ℕ) (names : Option (List (List ℕ))) (b : ByName) → named_at (suc k) names ≡ Some b → (b.before == 0) ≡ false
behind_one k None b h = let e : ◌≡◌ {A = Option ByName} None (Some b) = h in absurd cc
behind_one k (Some ns) b h = ap (λ o. before_or o == 0) (sym h) ∙ more_than_none k

behind_first : (k : ℕ) (names : List (Option (List ℕ))) (b : ByName) → by_name_from (suc k) names ≡ Some b → (b.before == 0) ≡ false
behind_first k [] b h = behind_one k (all_named []) b h
behind_first k (None ∷ names) b h = behind_first (suc k) names b h
behind_first k (Some x ∷ names) b h = behind_one k (all_named (Some x ∷ names)) b h

-- from the first one on
from_start : (names : List (Option (List ℕ))) (o : Option (List (List ℕ))) (b : ByName) → all_named names ≡ o → named_at 0 o ≡ Some b → (not (b.before == 0) || list_any is_item_name b.names) ≡ list_any is_item_called names
from_start names None b is h = let e : ◌≡◌ {A = Option ByName} None (Some b) = h in absurd cc
from_start names (Some ns) b is h = ap (λ o. not (before_or o == 0) || list_any is_item_name (by_or o)) (sym h) ∙ all_called names ns is

abbrev plain_start : List (Option (List ℕ)) → Bool
plain_start [] = false
plain_start (name ∷ names) = not (is_some name)

has_item_by : (names : List (Option (List ℕ))) (b : ByName) → by_name_from 0 names ≡ Some b → (not (b.before == 0) || list_any is_item_name b.names) ≡ (plain_start names || list_any is_item_called names)
has_item_by [] b h = from_start [] (all_named []) b refl h
has_item_by (None ∷ names) b h = ap (λ c. not c || list_any is_item_name b.names) (behind_first 0 names b h)
has_item_by (Some x ∷ names) b h = from_start (Some x ∷ names) (all_named (Some x ∷ names)) b refl h

plain_is : (gs : List Given) → plain_start (names_of gs) ≡ begins_plain gs
plain_is [] = refl
plain_is (g ∷ gs) = refl

item_by : (adds : Bool) (gs : List Given) (b : ByName) → given_by_name gs ≡ Some b → (not adds || (not (b.before == 0) || list_any is_item_name b.names)) ≡ item_given adds gs
item_by adds gs b h =
    ap (λ c. not adds || c) (has_item_by (names_of gs) b h ∙ ap (λ c. c || list_any is_item_called (names_of gs)) (plain_is gs) ∙ ap (λ c. begins_plain gs || c) (sym (items_called gs)))

abbrev taken_with : List (List ℕ) → (ByName → Bool) → Option ByName → Bool
taken_with xs item o = is_some (option_and_then (λ (b : ByName). if is_some (parameters_given xs b.before b.names) && item b then Some b else None) o)

both_if : (x q : Bool) (b : ByName) → is_some (if x && q then Some b else None) ≡ (is_some (if x then Some b else None) && q)
both_if true true b = refl
both_if true false b = refl
both_if false q b = refl

with_item : (xs : List (List ℕ)) (item : ByName → Bool) (o : Option ByName) (q : Bool) → ((b : ByName) → o ≡ Some b → item b ≡ q) → taken_with xs item o ≡ (taken_by xs o && q)
with_item xs item None q h = refl
with_item xs item (Some b) q h = ap (λ c. is_some (if is_some (parameters_given xs b.before b.names) && c then Some b else None)) (h b refl) ∙ both_if (is_some (parameters_given xs b.before b.names)) q b

-- ---- whether a member takes them, by its parts

pub takes_some : (name : List ℕ) (greatest : ℕ) (adds : Bool) (gs : List Given) → greatest ≢ 0 → takes_named name (Some greatest) adds gs ≡ (names_from (known_parameters name (Some greatest)) 0 gs && item_given adds gs)
takes_some name zero adds gs h = absurd (h refl)
takes_some name (suc k) adds gs h = refl

takes_by : (m : HostMember) (o : Option ℕ) (gs : List Given)
    → member_takes (record m { greatest = o }) gs ≡ (takes_arguments (record m { greatest = o }) (length gs) && (not (has_names gs) || takes_named m.name o (is_add (record m { greatest = o })) gs))
takes_by m None gs = refl
takes_by m (Some zero) gs = refl
takes_by m (Some (suc k)) gs =
    let x : HostMember = record m { greatest = Some (suc k) } in
    let xs : List (List ℕ) = known_parameters m.name (Some (suc k)) in
    let item : Bool = item_given (is_add x) gs in
    let by_names : taken_with xs (λ b. has_item x b) (given_by_name gs) ≡ (names_from xs 0 gs && item) =
    with_item xs (λ b. has_item x b) (given_by_name gs) item (λ b h. item_by (is_add x) gs b h) ∙ ap (λ c. c && item) (sym (names_are xs 0 gs)) in
    ap (λ b. takes_arguments x (length gs) && (not (has_names gs) || b)) by_names

pub member_is_taken : (m : HostMember) (gs : List Given) → member_takes m gs ≡ (takes_arguments m (length gs) && (not (has_names gs) || takes_named m.name m.greatest (is_add m) gs))
member_is_taken m gs = takes_by m m.greatest gs

-- ---- a parameter is given one of them

any_at : (xs : List (List ℕ)) (number : ℕ) (name : Option (List ℕ)) (rest : Option (List (List ℕ))) (names : List (List ℕ)) (others : Bool) → with_name name rest ≡ Some names
    → ((ns : List (List ℕ)) → rest ≡ Some ns → others ≡ by.any_given xs number ns) → (by_one xs number name || others) ≡ by.any_given xs number names
any_at xs number None rest names others h r = let e : ◌≡◌ {A = Option (List (List ℕ))} None (Some names) = h in absurd cc
any_at xs number (Some x) None names others h r = let e : ◌≡◌ {A = Option (List (List ℕ))} None (Some names) = h in absurd cc
any_at xs number (Some x) (Some ns) names others h r =
    ap (λ b. is_parameter number (parameter_named 0 xs x) || b) (r ns refl) ∙ ap (λ o. by.any_given xs number (names_or o)) h

any_is : (xs : List (List ℕ)) (number : ℕ) (gs : List Given) (names : List (List ℕ)) → all_named (names_of gs) ≡ Some names → any_given xs number gs ≡ by.any_given xs number names
any_is xs number [] names h = ap (λ o. by.any_given xs number (names_or o)) h
any_is xs number (g ∷ gs) names h = any_at xs number g.name (all_named (names_of gs)) names (any_given xs number gs) h (λ ns e. any_is xs number gs ns e)

not_less : (a b : ℕ) → b ≤ a → nat_lt a b ≡ false
not_less a b h = search (rules, tests)

-- one more whose parameter isn't given another
one_at : (xs : List (List ℕ)) (before number : ℕ) (gs : List Given) (name : List ℕ) (here : Bool) (names : Option (List (List ℕ))) → before ≤ number → Some number ≡ parameter_named 0 xs name
    → is_some (all_given xs before gs) ≡ true → here ≡ any_given xs number gs → all_named (names_of gs) ≡ names → not here ≡ is_some (one_given xs before (Some name) (all_given xs before gs))
one_at xs before number gs name here None behind own all any e =
    let none : false ≡ true = sym (ap (λ (o : Option (List ℕ)). is_some o) (all_is xs before gs ∙ ap (λ n. given_so xs before n) e)) ∙ all in
    absurd cc
one_at xs before number gs name here (Some names) behind own all any e =
    let given : all_given xs before gs ≡ parameters_given xs before names = all_is xs before gs ∙ ap (λ n. given_so xs before n) e in
    let some : is_some (parameters_given xs before names) ≡ true = ap (λ (o : Option (List ℕ)). is_some o) (sym given) ∙ all in
    let all_fit : is_some (parameters_given xs before (name ∷ names)) ≡ not (by.any_given xs number names) =
    given_more xs before name names ∙ ap (λ o. fits_once xs before o (is_some (parameters_given xs before names)) names) (sym own)
    ∙ ap (λ b. if nat_lt number before || not b then false else not (by.any_given xs number names)) some ∙ ap (λ b. if b || false then false else not (by.any_given xs number names)) (not_less number before behind) in
    ap (λ b. not b) (any ∙ any_is xs number gs names e) ∙ sym all_fit ∙ ap (λ o. is_some (given_once before (parameter_named 0 xs name) o)) (sym given)

pub one_more_taken : (xs : List (List ℕ)) (before number : ℕ) (gs : List Given) (name : List ℕ) (here : Bool) → before ≤ number → Some number ≡ parameter_named 0 xs name → is_some (all_given xs before gs) ≡ true → here ≡ any_given xs number gs
    → not here ≡ is_some (one_given xs before (Some name) (all_given xs before gs))
one_more_taken xs before number gs name here behind own all any = one_at xs before number gs name here (all_named (names_of gs)) behind own all any refl

-- ---- whether a member takes them

counted : (m : HostMember) (gs : List Given) (count : ℕ) (takes : Bool) → count ≡ length gs → takes ≡ takes_arguments m count → member_takes m gs ≡ (takes && (not (has_names gs) || takes_named m.name m.greatest (is_add m) gs))
counted m gs count takes long is = member_is_taken m gs ∙ ap (λ b. b && (not (has_names gs) || takes_named m.name m.greatest (is_add m) gs)) (ap (λ n. takes_arguments m n) (sym long) ∙ sym is)

pub takes_other : (m : HostMember) (gs : List Given) (count : ℕ) (takes : Bool) → count ≡ length gs → takes ≡ takes_arguments m count → takes ≡ false → false ≡ member_takes m gs
takes_other m gs count takes long is h = sym (counted m gs count takes long is ∙ ap (λ b. b && (not (has_names gs) || takes_named m.name m.greatest (is_add m) gs)) h)

pub takes_unnamed : (m : HostMember) (gs : List Given) (count : ℕ) (takes named : Bool) → count ≡ length gs → takes ≡ takes_arguments m count → takes ≡ true → named ≡ has_names gs → named ≡ false → true ≡ member_takes m gs
takes_unnamed m gs count takes named long is h names k =
    sym (counted m gs count takes long is ∙ ap (λ b. b && (not (has_names gs) || takes_named m.name m.greatest (is_add m) gs)) h ∙ ap (λ b. not b || takes_named m.name m.greatest (is_add m) gs) (sym names ∙ k))

pub takes_all_named : (m : HostMember) (gs : List Given) (count : ℕ) (takes named fit : Bool) → count ≡ length gs → takes ≡ takes_arguments m count → takes ≡ true → named ≡ has_names gs → named ≡ true
    → fit ≡ takes_named m.name m.greatest (is_add m) gs → fit ≡ member_takes m gs
takes_all_named m gs count takes named fit long is h names k fits =
    fits ∙ sym (counted m gs count takes long is ∙ ap (λ b. b && (not (has_names gs) || takes_named m.name m.greatest (is_add m) gs)) h ∙ ap (λ b. not b || takes_named m.name m.greatest (is_add m) gs) (sym names ∙ k))

-- ---- the first one of the arguments of code

pub one_more_shape : (xs : List (List ℕ)) (before number : ℕ) (ss : List Shape) (s : Shape) (x : Bor Identifier) (here : Bool) → 1 ≤ length ss → s ≡ get_or ss 0 s → s.name ≡ Some x → before ≤ number → Some number ≡ parameter_named 0 xs x.now.name
    → is_some (all_given xs before (shapes_given (take (length ss - 1) (drop 1 ss)))) ≡ true → here ≡ any_given xs number (shapes_given (take (length ss - 1) (drop 1 ss))) → not here ≡ is_some (all_given xs before (shapes_given ss))
one_more_shape xs before number [] s x here some is name behind own given any = absurd (omega (arith, some))
one_more_shape xs before number (r ∷ ss) s x here some is name behind own given any =
    let all : take (length (r ∷ ss) - 1) ss ≡ ss = take_all (length (r ∷ ss) - 1) ss (omega arith) in
    let named : (shape_given r).name ≡ Some x.now.name =
    ap (λ (y : Shape). (shape_given y).name) (sym is) ∙ ap (λ o. option_map (λ (y : Identifier). y.name) (option_map (λ (y : Bor Identifier). y.now) o)) name in
    let given' : is_some (all_given xs before (shapes_given ss)) ≡ true = ap (λ l. is_some (all_given xs before (shapes_given l))) (sym all) ∙ given in
    let any' : here ≡ any_given xs number (shapes_given ss) = any ∙ ap (λ l. any_given xs number (shapes_given l)) all in
    one_more_taken xs before number (shapes_given ss) x.now.name here behind own given' any' ∙ ap (λ o. is_some (one_given xs before o (all_given xs before (shapes_given ss)))) (sym named)
