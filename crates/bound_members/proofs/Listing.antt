-- Values and numbers that were pushed for arguments in brackets.
use Rattle.std.proofs.Common.{◌≡◌, ℕ, ◌+◌, false, ◌||◌, List, [], ◌∷◌, ◌++◌, map, length, Option, Some, None, is_some, refl, sym, ap, subst, ◌∙◌, arith, append_assoc, append-nil}
use Rattle.std.specs.Prelude.{suc}
use Rattle.vba_base.specs.declared.place.Place.{Place}
use Rattle.bound_project.specs.Expressions.{Exprs, no_exprs, also, given_count}
use Rattle.bound_project.specs.Expressions as bound
use Rattle.bound_project.specs.Lists.{above, exprs_of}
use Rattle.bound_project.proofs.Lists.{exprs_are}
use Rattle.bound_project.specs.Pieces.{Piece, an_expr, exprs_off}
use Rattle.bound_calls.specs.bound_declarations.specs.constant_values.specs.declared_names.specs.binder.specs.Options.{from_two}
use Rattle.bound_calls.specs.bound_forms.specs.Terms.{Given, has_names, listed_values}
use Rattle.bound_calls.specs.bound_forms.specs.Terms as terms
use Rattle.bound_calls.specs.class_defaults.specs.Items.{ArePlain}
use Rattle.bound_calls.specs.Standing.{NumberIs, AllNumbers, ValueIs, AllListed, missing_given, missing_value}

one_listed : (value : terms.Term → Place → Option bound.Expr) (given : Option (List ℕ)) (t : terms.Term) (place : Place) (e : bound.Expr) (gs : List Given) → value t place ≡ Some e
    → listed_values value (record { name = given; term = Some t; place = place } ∷ gs) ≡ from_two also (Some e) (listed_values value gs)
one_listed value given t place e gs h = ap (λ (o : Option bound.Expr). from_two also o (listed_values value gs)) h

-- a value that is given, and one that isn't
pub value_given : (value : terms.Term → Place → Option bound.Expr) (t : terms.Term) (place : Place) (e : bound.Expr) → value t place ≡ Some e → ValueIs value (record { name = None; term = Some t; place = place }) e
value_given value t place e h = record { no_name = refl; is = λ gs. one_listed value None t place e gs h }

pub value_missing : (value : terms.Term → Place → Option bound.Expr) → ValueIs value missing_given missing_value
value_missing value = record { no_name = refl; is = λ gs. refl }

pub every_listed : (value : terms.Term → Place → Option bound.Expr) (gs : List Given) (es : List bound.Expr) → AllListed value gs es → listed_values value gs ≡ Some (exprs_of es)
every_listed value [] [] h = refl
every_listed value [] (e ∷ es) h = absurd h
every_listed value (g ∷ gs) [] h = absurd h
every_listed value (g ∷ gs) (e ∷ es) h = h.0.is gs ∙ ap (λ (o : Option Exprs). from_two also (Some e) o) (every_listed value gs es h.1)

pub listed_more : (value : terms.Term → Place → Option bound.Expr) (gs : List Given) (es : List bound.Expr) (g : Given) (e : bound.Expr) → AllListed value gs es → ValueIs value g e
    → AllListed value (gs ++ g ∷ []) (es ++ e ∷ [])
listed_more value [] [] g e h k = (k, tt)
listed_more value [] (f ∷ es) g e h k = absurd h
listed_more value (f ∷ gs) [] g e h k = absurd h
listed_more value (f ∷ gs) (d ∷ es) g e h k = (h.0, listed_more value gs es g e h.1 k)

pub listed_nameless : (value : terms.Term → Place → Option bound.Expr) (gs : List Given) (es : List bound.Expr) → AllListed value gs es → has_names gs ≡ false
listed_nameless value [] es h = refl
listed_nameless value (g ∷ gs) [] h = absurd h
listed_nameless value (g ∷ gs) (e ∷ es) h = ap (λ (o : Option (List ℕ)). is_some o || has_names gs) h.0.no_name ∙ listed_nameless value gs es h.1

pub listed_long : (value : terms.Term → Place → Option bound.Expr) (gs : List Given) (es : List bound.Expr) → AllListed value gs es → length gs ≡ length es
listed_long value [] [] h = refl
listed_long value [] (e ∷ es) h = absurd h
listed_long value (g ∷ gs) [] h = absurd h
listed_long value (g ∷ gs) (e ∷ es) h = omega (arith, listed_long value gs es h.1)

-- numbers are values
number_listed : (value : terms.Term → Place → Option bound.Expr) (g : Given) (e : bound.Expr) → NumberIs value g e → ValueIs value g e
number_listed value g e h = record {
  no_name = h.no_name;
  is = λ gs.
      let P : Option terms.Term → Type 0 = λ (o : Option terms.Term). listed_values value (record { name = g.name; term = o; place = g.place } ∷ gs) ≡ from_two also (Some e) (listed_values value gs) in
      subst P (sym h.given) (one_listed value g.name h.term g.place e gs h.is);
}

pub numbers_listed : (value : terms.Term → Place → Option bound.Expr) (gs : List Given) (es : List bound.Expr) → AllNumbers value gs es → AllListed value gs es
numbers_listed value [] [] h = tt
numbers_listed value [] (e ∷ es) h = absurd h
numbers_listed value (g ∷ gs) [] h = absurd h
numbers_listed value (g ∷ gs) (e ∷ es) h = (number_listed value g e h.0, numbers_listed value gs es h.1)

pub all_listed : (value : terms.Term → Place → Option bound.Expr) (gs : List Given) (es : List bound.Expr) → AllNumbers value gs es → listed_values value gs ≡ Some (exprs_of es)
all_listed value gs es h = every_listed value gs es (numbers_listed value gs es h)

pub no_names : (value : terms.Term → Place → Option bound.Expr) (gs : List Given) (es : List bound.Expr) → AllNumbers value gs es → has_names gs ≡ false
no_names value gs es h = listed_nameless value gs es (numbers_listed value gs es h)

-- they are all written, without names
pub plain_numbers : (value : terms.Term → Place → Option bound.Expr) (gs : List Given) (es : List bound.Expr) → AllNumbers value gs es → ArePlain (length es) gs
plain_numbers value [] [] h = tt
plain_numbers value [] (e ∷ es) h = absurd h
plain_numbers value (g ∷ gs) [] h = absurd h
plain_numbers value (g ∷ gs) (e ∷ es) h =
    ((ap (λ (o : Option (List ℕ)). is_some o) h.0.no_name, ap (λ (o : Option terms.Term). is_some o) h.0.given), plain_numbers value gs es h.1)

pub numbers_more : (value : terms.Term → Place → Option bound.Expr) (gs : List Given) (es : List bound.Expr) (g : Given) (e : bound.Expr) → AllNumbers value gs es → NumberIs value g e
    → AllNumbers value (gs ++ g ∷ []) (es ++ e ∷ [])
numbers_more value [] [] g e h k = (k, tt)
numbers_more value [] (f ∷ es) g e h k = absurd h
numbers_more value (f ∷ gs) [] g e h k = absurd h
numbers_more value (f ∷ gs) (d ∷ es) g e h k = (h.0, numbers_more value gs es g e h.1 k)

-- ---- how many are written

-- one more that is written, and one that isn't
pub one_written : (made : bound.Expr) (es : List bound.Expr) (n m : ℕ) → m ≡ n + 1 → ((more : List bound.Expr) → given_count (exprs_of (es ++ more)) ≡ n + given_count (exprs_of more)) → ((rest : Exprs) → given_count (also made rest) ≡ suc (given_count rest))
    → (more : List bound.Expr) → given_count (exprs_of ((es ++ made ∷ []) ++ more)) ≡ m + given_count (exprs_of more)
one_written made es n m c h k more =
    let q = given_count (exprs_of more) in
    let last : n + suc q ≡ m + q = omega (arith, c) in
    ap (λ (l : List bound.Expr). given_count (exprs_of l)) (append_assoc es (made ∷ []) more) ∙ h (made ∷ more) ∙ ap (λ (i : ℕ). n + i) (k (exprs_of more)) ∙ last

pub none_written : (es : List bound.Expr) (n : ℕ) → ((more : List bound.Expr) → given_count (exprs_of (es ++ more)) ≡ n + given_count (exprs_of more))
    → (more : List bound.Expr) → given_count (exprs_of ((es ++ missing_value ∷ []) ++ more)) ≡ n + given_count (exprs_of more)
none_written es n h more = ap (λ (l : List bound.Expr). given_count (exprs_of l)) (append_assoc es (missing_value ∷ []) more) ∙ h (missing_value ∷ more)

pub all_written : (es : List bound.Expr) (n : ℕ) → ((more : List bound.Expr) → given_count (exprs_of (es ++ more)) ≡ n + given_count (exprs_of more)) → given_count (exprs_of es) ≡ n
all_written es n h =
    let last : n + 0 ≡ n = omega arith in
    ap (λ (l : List bound.Expr). given_count (exprs_of l)) (sym (append-nil es)) ∙ h [] ∙ last

-- the values that a last node takes
pub taken_off : (count : ℕ) (made : List bound.Expr) (ps between : List Piece) → count ≡ length made → ps ≡ above (map an_expr made) between → exprs_off count ps no_exprs ≡ Some (exprs_of made, between)
taken_off count made ps between c p =
    ap (λ (m : ℕ). exprs_off m ps no_exprs) c ∙ ap (λ (st : List Piece). exprs_off (length made) st no_exprs) p ∙ exprs_are made between
