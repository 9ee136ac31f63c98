-- Names of arguments: which ones came, and how arguments are given by them.
use Rattle.std.proofs.Common.{◌≡◌, ◌≢◌, ℕ, zero, suc, ◌+◌, ◌==◌, ◌≤◌, Bool, true, false, ◌&&◌, ◌||◌, not, if◌then◌else◌, List, [], ◌∷◌, ◌++◌, map, take, length, Option, Some, None, is_some, refl, sym, ap, subst, ◌∙◌, arith, append_assoc, ne_eqb}
use Rattle.std.proofs.lemmas.List.{map-append, length-map, length-take-le, take_all}
use Rattle.std.proofs.lemmas.Slice.Eq.{bytes_eq-Decides}
use Rattle.std.specs.Prelude.{option_and_then, option_map}
use Rattle.std.specs.List.{list_any}
use Rattle.vba_base.specs.declared.place.Place.{Place}
use Rattle.bound_project.specs.Expressions.{ByName, Exprs, also}
use Rattle.bound_project.specs.Expressions as bound
use Rattle.bound_project.specs.Lists.{exprs_of}
use Rattle.bound_calls.specs.bound_declarations.specs.constant_values.specs.declared_names.specs.binder.specs.Options.{from_two}
use Rattle.bound_calls.specs.bound_forms.specs.Terms.{Given, all_named, by_name_from, given_by_name, has_names, listed_values}
use Rattle.bound_calls.specs.bound_forms.specs.Terms as terms
use Rattle.bound_calls.specs.bound_forms.specs.ExpressionsBound.{are_named_right, names_taken, takes_names}
use Rattle.bound_calls.specs.Standing.{AllGiven, GivenIs, NamesCame, missing_given, missing_value, nameless}
use Rattle.bound_members.specs.Names.{is_next}

-- ---- values that were pushed for arguments

pub value_is : (value : terms.Term → Place → Option bound.Expr) (name : Option (List ℕ)) (t : terms.Term) (place : Place) (e : bound.Expr) → value t place ≡ Some e → GivenIs value (record { name = name; term = Some t; place = place }) e
value_is value name t place e h = record { is = λ gs. ap (λ (o : Option bound.Expr). from_two also o (listed_values value gs)) h }

pub missing_is : (value : terms.Term → Place → Option bound.Expr) → GivenIs value missing_given missing_value
missing_is value = record { is = λ gs. refl }

pub given_listed : (value : terms.Term → Place → Option bound.Expr) (gs : List Given) (es : List bound.Expr) → AllGiven value gs es → listed_values value gs ≡ Some (exprs_of es)
given_listed value [] [] h = refl
given_listed value [] (e ∷ es) h = absurd h
given_listed value (g ∷ gs) [] h = absurd h
given_listed value (g ∷ gs) (e ∷ es) h = h.0.is gs ∙ ap (λ (o : Option Exprs). from_two also (Some e) o) (given_listed value gs es h.1)

pub given_more : (value : terms.Term → Place → Option bound.Expr) (gs : List Given) (es : List bound.Expr) (g : Given) (e : bound.Expr) → AllGiven value gs es → GivenIs value g e → AllGiven value (gs ++ g ∷ []) (es ++ e ∷ [])
given_more value [] [] g e h k = (k, tt)
given_more value [] (f ∷ es) g e h k = absurd h
given_more value (f ∷ gs) [] g e h k = absurd h
given_more value (f ∷ gs) (d ∷ es) g e h k = (h.0, given_more value gs es g e h.1 k)

pub given_long : (value : terms.Term → Place → Option bound.Expr) (gs : List Given) (es : List bound.Expr) → AllGiven value gs es → length gs ≡ length es
given_long value [] [] h = refl
given_long value [] (e ∷ es) h = absurd h
given_long value (g ∷ gs) [] h = absurd h
given_long value (g ∷ gs) (e ∷ es) h = omega (arith, given_long value gs es h.1)

-- ---- names that came

abbrev pub names_of : List Given → List (Option (List ℕ))
names_of gs = map (λ (g : Given). g.name) gs

abbrev pub all_some : List (List ℕ) → List (Option (List ℕ))
all_some names = map (λ (x : List ℕ). Some x) names

pub none_came : (names : List (List ℕ)) → NamesCame names 0 []
none_came names = record { unnamed = 0; are = refl; there = omega arith }

nameless_more : (n : ℕ) → (nameless n ++ []) ++ None ∷ [] ≡ nameless (suc n) ++ []
nameless_more zero = refl
nameless_more (suc n) = ap (λ (l : List (Option (List ℕ))). None ∷ l) (nameless_more n)

-- one more without a name, where none has come
pub unnamed_more : (names : List (List ℕ)) (named : ℕ) (gs : List Given) (g : Given) → named ≡ 0 → g.name ≡ None → NamesCame names named gs → NamesCame names 0 (gs ++ g ∷ [])
unnamed_more names named gs g z none n =
    let first : names_of gs ≡ nameless n.unnamed ++ all_some (take 0 names) = n.are ∙ ap (λ (k : ℕ). nameless n.unnamed ++ all_some (take k names)) z in
    record {
      unnamed = suc n.unnamed;
      are = map-append (λ (x : Given). x.name) gs (g ∷ []) ∙ ap (λ (l : List (Option (List ℕ))). l ++ g.name ∷ []) first ∙ ap (λ (o : Option (List ℕ)). (nameless n.unnamed ++ []) ++ o ∷ []) none ∙ nameless_more n.unnamed;
      there = omega arith;
    }

next_taken : (names : List (List ℕ)) (i : ℕ) (x : List ℕ) → is_next names i x ≡ true → (take (suc i) names ≡ take i names ++ x ∷ []) × (suc i ≤ length names)
next_taken [] i x h = let e : false ≡ true = h in absurd cc
next_taken (y ∷ ys) zero x h = (ap (λ (z : List ℕ). z ∷ []) ((bytes_eq-Decides y x).0 h), omega arith)
next_taken (y ∷ ys) (suc i) x h = let r = next_taken ys i x h in (ap (λ (l : List (List ℕ)). y ∷ l) r.0, omega (arith, r.1))

-- one more with the name that is next
pub named_more : (names : List (List ℕ)) (named more : ℕ) (gs : List Given) (g : Given) (x : List ℕ) → more ≡ named + 1 → is_next names named x ≡ true → g.name ≡ Some x → NamesCame names named gs → NamesCame names more (gs ++ g ∷ [])
named_more names named more gs g x m next is n =
    let r = next_taken names named x next in
    let last : suc named ≡ more = omega (arith, m) in
    record {
      unnamed = n.unnamed;
      are = map-append (λ (y : Given). y.name) gs (g ∷ []) ∙ ap (λ (l : List (Option (List ℕ))). l ++ g.name ∷ []) n.are ∙ ap (λ (o : Option (List ℕ)). (nameless n.unnamed ++ all_some (take named names)) ++ o ∷ []) is
          ∙ append_assoc (nameless n.unnamed) (all_some (take named names)) (Some x ∷ []) ∙ ap (λ (l : List (Option (List ℕ))). nameless n.unnamed ++ l) (sym (map-append (λ (y : List ℕ). Some y) (take named names) (x ∷ [])))
          ∙ ap (λ (l : List (List ℕ)). nameless n.unnamed ++ all_some l) (sym r.0) ∙ ap (λ (k : ℕ). nameless n.unnamed ++ all_some (take k names)) last;
      there = omega (arith, m, r.1);
    }

-- ---- whether there are names

names_any : (gs : List Given) → has_names gs ≡ list_any (λ (o : Option (List ℕ)). is_some o) (names_of gs)
names_any [] = refl
names_any (g ∷ gs) = ap (λ (b : Bool). is_some g.name || b) (names_any gs)

nameless_any : (n : ℕ) (names : List (Option (List ℕ))) → list_any (λ (o : Option (List ℕ)). is_some o) (nameless n ++ names) ≡ list_any (λ (o : Option (List ℕ)). is_some o) names
nameless_any zero names = refl
nameless_any (suc n) names = nameless_any n names

take_nothing : (n : ℕ) → all_some (take n []) ≡ []
take_nothing zero = refl
take_nothing (suc n) = refl

-- where none were told none has one
pub none_named : (named : ℕ) (gs : List Given) → NamesCame [] named gs → has_names gs ≡ false
none_named named gs n =
    names_any gs ∙ ap (λ (l : List (Option (List ℕ))). list_any (λ (o : Option (List ℕ)). is_some o) l) (n.are ∙ ap (λ (l : List (Option (List ℕ))). nameless n.unnamed ++ l) (take_nothing named)) ∙ nameless_any n.unnamed []

-- where none came none has one
pub zero_named : (names : List (List ℕ)) (named : ℕ) (gs : List Given) → named ≡ 0 → NamesCame names named gs → has_names gs ≡ false
zero_named names named gs z n =
    names_any gs ∙ ap (λ (l : List (Option (List ℕ))). list_any (λ (o : Option (List ℕ)). is_some o) l) (n.are ∙ ap (λ (k : ℕ). nameless n.unnamed ++ all_some (take k names)) z) ∙ nameless_any n.unnamed []

some_any : (names : List (List ℕ)) → length names ≢ 0 → list_any (λ (o : Option (List ℕ)). is_some o) (all_some names) ≡ true
some_any [] h = absurd (h refl)
some_any (x ∷ xs) h = refl

-- ---- how arguments are given by names

all_are : (names : List (List ℕ)) → all_named (all_some names) ≡ Some names
all_are [] = refl
all_are (x ∷ xs) = ap (λ (o : Option (List (List ℕ))). from_two (λ y ys. y ∷ ys) (Some x) o) (all_are xs)

abbrev pub by_name : ℕ → List (List ℕ) → ByName
by_name before names = record { before = before; names = names }

from_first : (k : ℕ) (names : List (List ℕ)) → by_name_from k (all_some names) ≡ Some (by_name k names)
from_first k [] = refl
from_first k (x ∷ xs) = ap (λ (o : Option (List (List ℕ))). option_map (λ ys. by_name k ys) o) (all_are (x ∷ xs))

from_names : (k plain : ℕ) (names : List (List ℕ)) → by_name_from k (nameless plain ++ all_some names) ≡ Some (by_name (k + plain) names)
from_names k zero names = let e : k ≡ k + 0 = omega arith in from_first k names ∙ ap (λ (n : ℕ). Some (by_name n names)) e
from_names k (suc plain) names = let e : suc k + plain ≡ k + suc plain = omega arith in from_names (suc k) plain names ∙ ap (λ (n : ℕ). Some (by_name n names)) e

nameless_long : (n : ℕ) (l : List (Option (List ℕ))) → length (nameless n ++ l) ≡ n + length l
nameless_long zero l = let e : length l ≡ 0 + length l = omega arith in e
nameless_long (suc n) l = omega (arith, nameless_long n l)

-- where all names came that were told
came_names : (names : List (List ℕ)) (named : ℕ) (gs : List Given) → named ≡ length names → (n : NamesCame names named gs) → names_of gs ≡ nameless n.unnamed ++ all_some names
came_names names named gs all n = n.are ∙ ap (λ (l : List (List ℕ)). nameless n.unnamed ++ all_some l) (take_all named names (omega (arith, all)))

pub came_given : (names : List (List ℕ)) (named before : ℕ) (gs : List Given) → named ≡ length names → length gs ≡ before + named → NamesCame names named gs → given_by_name gs ≡ Some (record { before = before; names = names })
came_given names named before gs all count n =
    let are = came_names names named gs all n in
    let long : length gs ≡ n.unnamed + length names =
    sym (length-map gs (λ (g : Given). g.name)) ∙ ap (λ (l : List (Option (List ℕ))). length l) are ∙ nameless_long n.unnamed (all_some names) ∙ ap (λ (k : ℕ). n.unnamed + k) (length-map names (λ (x : List ℕ). Some x)) in
    let first : 0 + n.unnamed ≡ before = omega (arith, long, count, all) in
    ap (λ (l : List (Option (List ℕ))). by_name_from 0 l) are ∙ from_names 0 n.unnamed names ∙ ap (λ (k : ℕ). Some (by_name k names)) first

pub came_named : (names : List (List ℕ)) (named : ℕ) (gs : List Given) → named ≢ 0 → named ≡ length names → NamesCame names named gs → has_names gs ≡ true
came_named names named gs some all n =
    let N : ℕ → Type 0 = λ (k : ℕ). k ≢ 0 in
    names_any gs ∙ ap (λ (l : List (Option (List ℕ))). list_any (λ (o : Option (List ℕ)). is_some o) l) (came_names names named gs all n) ∙ nameless_any n.unnamed (all_some names) ∙ some_any names (subst N all some)

-- where some came some have one
pub some_named : (names : List (List ℕ)) (named : ℕ) (gs : List Given) → named ≢ 0 → NamesCame names named gs → has_names gs ≡ true
some_named names named gs some n =
    let long : length (take named names) ≡ named = length-take-le named names n.there in
    let N : ℕ → Type 0 = λ (k : ℕ). k ≢ 0 in
    names_any gs ∙ ap (λ (l : List (Option (List ℕ))). list_any (λ (o : Option (List ℕ)). is_some o) l) n.are ∙ nameless_any n.unnamed (all_some (take named names)) ∙ some_any (take named names) (subst N (sym long) some)

twice_not : (b : Bool) → not b ≡ false → b ≡ true
twice_not true h = refl
twice_not false h = let e : true ≡ false = h in absurd cc

last_true : (b : Bool) → (b || true) ≡ true
last_true true = refl
last_true false = refl

-- the names of a member that arguments have
pub names_are_taken : (m : terms.HostMember) (by : ByName) (gs : List Given) → given_by_name gs ≡ Some by → takes_names m by ≡ true → names_taken m gs ≡ Some by
names_are_taken m by gs h takes = ap (λ (o : Option ByName). option_and_then (λ (how : ByName). if takes_names m how then Some how else None) o) h ∙ ap (λ (b : Bool). if b then Some by else None) takes

-- arguments that have names have those of the member
pub named_right : (m : terms.HostMember) (by : ByName) (names : List (List ℕ)) (named : ℕ) (gs : List Given) → given_by_name gs ≡ Some by → NamesCame names named gs → (not (named == 0) && not (takes_names m by)) ≡ false → are_named_right m gs ≡ true
named_right m by names zero gs h n right = ap (λ (b : Bool). not b || is_some (names_taken m gs)) (zero_named names zero gs refl n)
named_right m by names (suc k) gs h n right =
    let some : (suc k == 0) ≡ false = ne_eqb (suc k) 0 (λ (e : suc k ≡ 0). omega (arith, e)) in
    let misnamed : not (takes_names m by) ≡ false = ap (λ (b : Bool). not b && not (takes_names m by)) (sym some) ∙ right in
    ap (λ (o : Option ByName). not (has_names gs) || is_some o) (names_are_taken m by gs h (twice_not (takes_names m by) misnamed)) ∙ last_true (not (has_names gs))
