-- Arguments without names bind from the front to the back.
use Rattle.std.proofs.Common.{◌≡◌, ℕ, suc, ◌<◌, ◌≤◌, ◌==◌, Bool, true, false, ◌||◌, List, [], ◌∷◌, ◌++◌, Option, Some, refl, sym, ap, subst, ◌∙◌, arith, eq-eqb, ne_eqb}
use Rattle.std.specs.List.{list_any}
use Rattle.vba_base.specs.declared.place.Place.{Place}
use Rattle.vba_values.specs.Types.{Declared}
use Rattle.bound_project.specs.Expressions.{Args}
use Rattle.bound_project.specs.Expressions as bound
use Rattle.bound_project.specs.Pieces.{Argument}
use Rattle.bound_project.specs.Lists.{args_of}
use Rattle.bound_project.specs.Project.{Parameter}
use Rattle.bound_forms.specs.Terms.{Term, Given, Item, taken_by, not_given_to, by_position, left_over, built, are_apart, has_names, bound_arguments}
use Rattle.bound_calls.specs.Passing.{Taken, AllTaken, AllLeft}

-- what parameters take, by their numbers from a number on
abbrev items_from : (Declared → Term → Place → Option bound.Expr) → ℕ → List Parameter → List Given → List Item
items_from value n ps [] = []
items_from value n [] (g ∷ gs) = []
items_from value n (p ∷ ps) (g ∷ gs) = record { parameter = n; add = taken_by value p g } ∷ items_from value (suc n) ps gs

-- the parameters from a number on to which nothing is given
abbrev pub rest_from : ℕ → List Parameter → List Item
rest_from n [] = []
rest_from n (p ∷ ps) = record { parameter = n; add = not_given_to p } ∷ rest_from (suc n) ps

abbrev left_from : ℕ → List Parameter → List Given → List Item
left_from n ps [] = rest_from n ps
left_from n [] (g ∷ gs) = []
left_from n (p ∷ ps) (g ∷ gs) = left_from (suc n) ps gs

-- is an argument for a parameter there?
abbrev pub is_for : ℕ → List Item → Bool
is_for number is = list_any (λ (i : Item). i.parameter == number) is

pub other_number : (m n : ℕ) → m < n → (n == m) ≡ false
other_number m n lt = ne_eqb n m (λ (e : n ≡ m). omega (arith, e))

none_before : (value : Declared → Term → Place → Option bound.Expr) (m n : ℕ) (ps : List Parameter) (gs : List Given) → m < n → is_for m (items_from value n ps gs) ≡ false
none_before value m n ps [] lt = refl
none_before value m n [] (g ∷ gs) lt = refl
none_before value m n (p ∷ ps) (g ∷ gs) lt =
    ap (λ (b : Bool). b || is_for m (items_from value (suc n) ps gs)) (other_number m n lt) ∙ none_before value m (suc n) ps gs (omega arith)

apart : (value : Declared → Term → Place → Option bound.Expr) (n : ℕ) (ps : List Parameter) (gs : List Given) → are_apart (items_from value n ps gs) ≡ true
apart value n ps [] = refl
apart value n [] (g ∷ gs) = refl
apart value n (p ∷ ps) (g ∷ gs) = rw (none_before value n (suc n) ps gs (omega arith)) (apart value (suc n) ps gs)

-- nothing is given to the parameters from a number on
pub rest_is : (all : List Item) (n : ℕ) (ps : List Parameter) → ((k : ℕ) → n ≤ k → is_for k all ≡ false) → left_over n ps all ≡ rest_from n ps
rest_is all n [] h = refl
rest_is all n (p ∷ ps) h = rw (h n (omega arith)) (ap (λ l. record { parameter = n; add = not_given_to p } ∷ l) (rest_is all (suc n) ps (λ k le. h k (omega arith))))

left_is : (value : Declared → Term → Place → Option bound.Expr) (all : List Item) (n : ℕ) (ps : List Parameter) (gs : List Given) (xs : List Argument) (left : List Parameter) → AllTaken value ps gs xs left
    → ((k : ℕ) → n ≤ k → is_for k all ≡ is_for k (items_from value n ps gs)) → left_over n ps all ≡ left_from n ps gs
left_is value all n ps [] xs left t h = rest_is all n ps h
left_is value all n [] (g ∷ gs) xs left t h = refl
left_is value all n (p ∷ ps) (g ∷ gs) [] left t h = absurd t
left_is value all n (p ∷ ps) (g ∷ gs) (x ∷ xs) left t h =
    let here : is_for n all ≡ true = h n (omega arith) ∙ ap (λ (b : Bool). b || is_for n (items_from value (suc n) ps gs)) (eq-eqb n n refl) in
    let behind : (k : ℕ) → suc n ≤ k → is_for k all ≡ is_for k (items_from value (suc n) ps gs) =
    λ k le. h k (omega arith) ∙ ap (λ (b : Bool). b || is_for k (items_from value (suc n) ps gs)) (ne_eqb n k (λ (e : n ≡ k). omega (arith, e))) in
    rw here (left_is value all (suc n) ps gs xs left t.1 behind)

positions : (value : Declared → Term → Place → Option bound.Expr) (n : ℕ) (ps : List Parameter) (gs : List Given) (xs : List Argument) (left : List Parameter) → AllTaken value ps gs xs left
    → by_position value n ps gs ≡ Some (items_from value n ps gs)
positions value n ps [] xs left t = refl
positions value n [] (g ∷ gs) xs left t = absurd t
positions value n (p ∷ ps) (g ∷ gs) [] left t = absurd t
positions value n (p ∷ ps) (g ∷ gs) (x ∷ xs) left t = rw (t.0.no_name, t.0.no_list, positions value (suc n) ps gs xs left t.1) refl

pub built_rest : (n : ℕ) (ps : List Parameter) (xs : List Argument) → AllLeft ps xs → built (rest_from n ps) ≡ Some (args_of xs)
built_rest n [] [] h = refl
built_rest n [] (x ∷ xs) h = absurd h
built_rest n (p ∷ ps) [] h = absurd h
built_rest n (p ∷ ps) (x ∷ xs) h = rw (built_rest (suc n) ps xs h.1) (h.0 (args_of xs))

built_all : (value : Declared → Term → Place → Option bound.Expr) (n : ℕ) (ps : List Parameter) (gs : List Given) (xs : List Argument) (left : List Parameter) (ds : List Argument) → AllTaken value ps gs xs left → AllLeft left ds
    → built (items_from value n ps gs ++ left_from n ps gs) ≡ Some (args_of (xs ++ ds))
built_all value n ps [] [] left ds t h = built_rest n ps ds (subst (λ l. AllLeft l ds) (sym t) h)
built_all value n ps [] (x ∷ xs) left ds t h = absurd t
built_all value n [] (g ∷ gs) xs left ds t h = absurd t
built_all value n (p ∷ ps) (g ∷ gs) [] left ds t h = absurd t
built_all value n (p ∷ ps) (g ∷ gs) (x ∷ xs) left ds t h = rw (built_all value (suc n) ps gs xs left ds t.1 h) (t.0.makes (args_of (xs ++ ds)))

pub nameless : (value : Declared → Term → Place → Option bound.Expr) (ps : List Parameter) (gs : List Given) (xs : List Argument) (left : List Parameter) → AllTaken value ps gs xs left → has_names gs ≡ false
nameless value ps [] xs left t = refl
nameless value [] (g ∷ gs) xs left t = absurd t
nameless value (p ∷ ps) (g ∷ gs) [] left t = absurd t
nameless value (p ∷ ps) (g ∷ gs) (x ∷ xs) left t = rw t.0.no_name (nameless value ps gs xs left t.1)

pub bound_by : (value : Declared → Term → Place → Option bound.Expr) (ps : List Parameter) (gs : List Given) (is lefts : List Item) (args : Args) → by_position value 0 ps gs ≡ Some is → are_apart is ≡ true → left_over 0 ps is ≡ lefts
    → built (is ++ lefts) ≡ Some args → has_names gs ≡ false → bound_arguments value ps gs ≡ Some args
bound_by value ps gs is lefts args a b c d e = rw (a, b, c, d, e) refl

-- the arguments of a call: those that are given, and what the other parameters have
pub arguments_bound : (value : Declared → Term → Place → Option bound.Expr) (ps : List Parameter) (gs : List Given) (xs : List Argument) (left : List Parameter) (ds : List Argument) → AllTaken value ps gs xs left → AllLeft left ds
    → bound_arguments value ps gs ≡ Some (args_of (xs ++ ds))
arguments_bound value ps gs xs left ds t h =
    let is = items_from value 0 ps gs in
    bound_by value ps gs is (left_from 0 ps gs) (args_of (xs ++ ds)) (positions value 0 ps gs xs left t) (apart value 0 ps gs) (left_is value is 0 ps gs xs left t (λ k le. refl)) (built_all value 0 ps gs xs left ds t h)
    (nameless value ps gs xs left t)

-- one more argument
pub taken_push : (value : Declared → Term → Place → Option bound.Expr) (ps : List Parameter) (gs : List Given) (xs : List Argument) (p : Parameter) (left : List Parameter) (g : Given) (x : Argument) → AllTaken value ps gs xs (p ∷ left)
    → Taken value p g x → AllTaken value ps (gs ++ g ∷ []) (xs ++ x ∷ []) left
taken_push value ps [] [] p left g x t h = subst (λ l. AllTaken value l (g ∷ []) (x ∷ []) left) (sym t) (h, refl)
taken_push value ps [] (y ∷ xs) p left g x t h = absurd t
taken_push value [] (f ∷ gs) xs p left g x t h = absurd t
taken_push value (q ∷ ps) (f ∷ gs) [] p left g x t h = absurd t
taken_push value (q ∷ ps) (f ∷ gs) (y ∷ xs) p left g x t h = (t.0, taken_push value ps gs xs p left g x t.1 h)
