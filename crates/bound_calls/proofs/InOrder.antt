-- Arguments with names bind for the parameters that they name; the others have what they have when nothing is given.
use Rattle.std.proofs.Common.{◌≡◌, ℕ, zero, suc, ◌+◌, ◌==◌, Bool, true, false, ◌||◌, ◌&&◌, not, List, [], ◌∷◌, ◌++◌, length, Option, Some, None, is_some, if◌then◌else◌, refl, sym, ap, subst, ◌∙◌, arith}
use Rattle.std.specs.Prelude.{option_and_then}
use Rattle.std.specs.List.{list_any}
use Rattle.vba_base.specs.declared.place.Place.{Place}
use Rattle.vba_values.specs.Types.{Declared}
use Rattle.bound_project.specs.Expressions.{Args, no_args, in_order}
use Rattle.bound_project.specs.Expressions as bound
use Rattle.bound_project.specs.Pieces.{Argument, with_argument}
use Rattle.bound_project.specs.Lists.{args_before, args_of}
use Rattle.bound_project.specs.Project.{Parameter}
use Rattle.bound_forms.specs.Terms.{Term, Given, Item, taken_by, not_given_to, parameter_named, cons_if, named_item, by_names, by_position, left_over, built, place_among, order_from, are_apart, has_names, bound_arguments}
use Rattle.bound_calls.specs.Passing.{AllTaken, AllLeft}
use Rattle.bound_calls.specs.InOrder.{is_there, place_in, all_apart, counted_from, places_from, other_numbers, others, numbers_given, numbers_pushed, AllNamedTaken}

-- ---- lists of numbers, with one more

counted_more : (n c : ℕ) → counted_from n (c + 1) ≡ counted_from n c ++ (n + c) ∷ []
counted_more n zero = let e : n ≡ n + 0 = omega arith in ap (λ m. m ∷ []) e
counted_more n (suc c) =
    let a : suc c + 1 ≡ suc (c + 1) = omega arith in
    let b : suc n + c ≡ n + suc c = omega arith in
    ap (λ m. counted_from n m) a ∙ ap (λ l. n ∷ l) (counted_more (suc n) c ∙ ap (λ m. counted_from (suc n) c ++ m ∷ []) b)

places_more : (n c : ℕ) (ks : List ℕ) → places_from n (c + 1) ks ≡ places_from n c ks ++ place_in (n + c) ks ∷ []
places_more n zero ks = let e : n ≡ n + 0 = omega arith in ap (λ m. place_in m ks ∷ []) e
places_more n (suc c) ks =
    let a : suc c + 1 ≡ suc (c + 1) = omega arith in
    let b : suc n + c ≡ n + suc c = omega arith in
    ap (λ m. places_from n m ks) a ∙ ap (λ l. place_in n ks ∷ l) (places_more (suc n) c ks ∙ ap (λ m. places_from (suc n) c ks ++ place_in m ks ∷ []) b)

pub counted_push : (c : ℕ) → counted_from 0 (c + 1) ≡ counted_from 0 c ++ c ∷ []
counted_push c = let e : 0 + c ≡ c = omega arith in counted_more 0 c ∙ ap (λ m. counted_from 0 c ++ m ∷ []) e

pub places_push : (c : ℕ) (ks : List ℕ) → places_from 0 (c + 1) ks ≡ places_from 0 c ks ++ place_in c ks ∷ []
places_push c ks = let e : 0 + c ≡ c = omega arith in places_more 0 c ks ∙ ap (λ m. places_from 0 c ks ++ place_in m ks ∷ []) e

-- ---- items by the numbers of their parameters

abbrev pub numbers_in : List Item → List ℕ
numbers_in [] = []
numbers_in (i ∷ is) = i.parameter ∷ numbers_in is

numbers_append : (is js : List Item) → numbers_in (is ++ js) ≡ numbers_in is ++ numbers_in js
numbers_append [] js = refl
numbers_append (i ∷ is) js = ap (λ l. i.parameter ∷ l) (numbers_append is js)

pub any_there : (n : ℕ) (is : List Item) → list_any (λ (i : Item). i.parameter == n) is ≡ is_there n (numbers_in is)
any_there n [] = refl
any_there n (i ∷ is) = ap (λ b. (i.parameter == n) || b) (any_there n is)

pub apart_is : (is : List Item) → are_apart is ≡ all_apart (numbers_in is)
apart_is [] = refl
apart_is (i ∷ is) =
    ap (λ b. not b && are_apart is) (any_there i.parameter is) ∙ ap (λ b. not (is_there i.parameter (numbers_in is)) && b) (apart_is is)

place_is : (n : ℕ) (is : List Item) → place_among n is ≡ place_in n (numbers_in is)
place_is n [] = refl
place_is n (i ∷ is) = ap (λ m. if i.parameter == n then 0 else suc m) (place_is n is)

order_is : (n : ℕ) (ps : List Parameter) (is : List Item) → order_from n ps is ≡ places_from n (length ps) (numbers_in is)
order_is n [] is = refl
order_is n (p ∷ ps) is = ap (λ m. m ∷ order_from (suc n) ps is) (place_is n is) ∙ ap (λ l. place_in n (numbers_in is) ∷ l) (order_is (suc n) ps is)

-- ---- parameters to which nothing is given

abbrev pub none_for : ℕ → Parameter → Item
none_for n p = record { parameter = n; add = not_given_to p }

abbrev pub left_by : ℕ → List Parameter → List ℕ → List Item
left_by n [] ks = []
left_by n (p ∷ ps) ks = if is_there n ks then left_by (suc n) ps ks else none_for n p ∷ left_by (suc n) ps ks

pub left_over_is : (n : ℕ) (ps : List Parameter) (is : List Item) → left_over n ps is ≡ left_by n ps (numbers_in is)
left_over_is n [] is = refl
left_over_is n (p ∷ ps) is =
    ap (λ b. if b then left_over (suc n) ps is else none_for n p ∷ left_over (suc n) ps is) (any_there n is)
    ∙ ap (λ l. if is_there n (numbers_in is) then l else none_for n p ∷ l) (left_over_is (suc n) ps is)

numbers_first : (n : ℕ) (p : Parameter) (is : List Item) (ks : List ℕ) (b : Bool) → numbers_in is ≡ ks → numbers_in (if b then is else none_for n p ∷ is) ≡ (if b then ks else n ∷ ks)
numbers_first n p is ks true h = h
numbers_first n p is ks false h = ap (λ l. n ∷ l) h

numbers_left : (n : ℕ) (ps : List Parameter) (ks : List ℕ) → numbers_in (left_by n ps ks) ≡ other_numbers n (length ps) ks
numbers_left n [] ks = refl
numbers_left n (p ∷ ps) ks = numbers_first n p (left_by (suc n) ps ks) (other_numbers (suc n) (length ps) ks) (is_there n ks) (numbers_left (suc n) ps ks)

built_first : (n : ℕ) (p : Parameter) (ps : List Parameter) (is : List Item) (b : Bool) → ((xs : List Argument) → AllLeft ps xs → built is ≡ Some (args_of xs))
    → (ds : List Argument) → AllLeft (if b then ps else p ∷ ps) ds → built (if b then is else none_for n p ∷ is) ≡ Some (args_of ds)
built_first n p ps is true f ds h = f ds h
built_first n p ps is false f [] h = absurd h
built_first n p ps is false f (x ∷ ds) h = ap (λ o. option_and_then (not_given_to p) o) (f ds h.1) ∙ h.0 (args_of ds)

built_left : (n : ℕ) (ps : List Parameter) (ks : List ℕ) (ds : List Argument) → AllLeft (others n ps ks) ds → built (left_by n ps ks) ≡ Some (args_of ds)
built_left n [] ks [] h = refl
built_left n [] ks (x ∷ ds) h = absurd h
built_left n (p ∷ ps) ks ds h = built_first n p (others (suc n) ps ks) (left_by (suc n) ps ks) (is_there n ks) (λ xs k. built_left (suc n) ps ks xs k) ds h

-- ---- what is given

-- items that were found: their numbers, and what they add
record ItemsMade (found : Option (List Item)) (ks : List ℕ) (xs : List Argument) : Type 0 where
  pub items : List Item
  pub is : found ≡ Some items
  pub numbers_are : numbers_in items ≡ ks
  pub builds : (more : List Item) (args : Args) → built more ≡ Some args → built (items ++ more) ≡ Some (args_before xs args)

named_made : (value : Declared → Term → Place → Option bound.Expr) (n : ℕ) (ps : List Parameter) (gs : List Given) (ks : List ℕ) (xs : List Argument) → AllNamedTaken value n ps gs ks xs → ItemsMade (by_names value n ps gs) ks xs
named_made value n ps [] [] [] h = record { items = []; is = refl; numbers_are = refl; builds = λ more args b. b }
named_made value n ps [] [] (x ∷ xs) h = absurd h
named_made value n ps [] (k ∷ ks) xs h = absurd h
named_made value n ps (g ∷ gs) [] xs h = absurd h
named_made value n ps (g ∷ gs) (k ∷ ks) [] h = absurd h
named_made value n ps (g ∷ gs) (k ∷ ks) (x ∷ xs) h =
    let m = named_made value n ps gs ks xs h.1 in
    let i : Item = record { parameter = k; add = taken_by value h.0.parameter g } in
    record {
      items = i ∷ m.items;
      is =
          ap (λ o. cons_if (option_and_then (λ fold. named_item value g (parameter_named n ps fold)) o) (by_names value n ps gs)) h.0.has_name
          ∙ ap (λ o. cons_if (named_item value g o) (by_names value n ps gs)) h.0.found ∙ ap (λ o. cons_if (Some i) o) m.is;
      numbers_are = ap (λ l. k ∷ l) m.numbers_are;
      builds = λ more args b. ap (λ o. option_and_then (taken_by value h.0.parameter g) o) (m.builds more args b) ∙ h.0.makes (args_before xs args);
    }

-- where the first argument has a name
names_begin : (value : Declared → Term → Place → Option bound.Expr) (n : ℕ) (ps : List Parameter) (g : Given) (gs : List Given) (ks : List ℕ) (xs : List Argument) → AllNamedTaken value n ps (g ∷ gs) ks xs
    → by_position value n ps (g ∷ gs) ≡ by_names value n ps (g ∷ gs)
names_begin value n ps g gs [] xs h = absurd h
names_begin value n ps g gs (k ∷ ks) [] h = absurd h
names_begin value n [] g gs (k ∷ ks) (x ∷ xs) h = let e : ◌≡◌ {A = Option (ℕ × Parameter)} None (Some (k, h.0.parameter)) = h.0.found in absurd cc
names_begin value n (p ∷ ps) g gs (k ∷ ks) (x ∷ xs) h = rw h.0.has_name refl

all_made : (value : Declared → Term → Place → Option bound.Expr) (n : ℕ) (ps : List Parameter) (gs : List Given) (xs : List Argument) (left : List Parameter) (m : ℕ) (g : Given) (ns : List Given) (ks : List ℕ) (ys : List Argument)
    → m ≡ n + length xs → AllTaken value ps gs xs left → AllNamedTaken value m left (g ∷ ns) ks ys → ItemsMade (by_position value n ps (gs ++ g ∷ ns)) (counted_from n (length xs) ++ ks) (xs ++ ys)
all_made value n ps [] [] left m g ns ks ys e t h =
    let same : m ≡ n = omega (arith, e) in
    let k : AllNamedTaken value n ps (g ∷ ns) ks ys = subst (λ l. AllNamedTaken value n l (g ∷ ns) ks ys) (sym t) (subst (λ i. AllNamedTaken value i left (g ∷ ns) ks ys) same h) in
    let r = named_made value n ps (g ∷ ns) ks ys k in
    record { items = r.items; is = names_begin value n ps g ns ks ys k ∙ r.is; numbers_are = r.numbers_are; builds = r.builds }
all_made value n ps [] (x ∷ xs) left m g ns ks ys e t h = absurd t
all_made value n [] (f ∷ gs) xs left m g ns ks ys e t h = absurd t
all_made value n (p ∷ ps) (f ∷ gs) [] left m g ns ks ys e t h = absurd t
all_made value n (p ∷ ps) (f ∷ gs) (x ∷ xs) left m g ns ks ys e t h =
    let r = all_made value (suc n) ps gs xs left m g ns ks ys (omega (arith, e)) t.1 h in
    let i : Item = record { parameter = n; add = taken_by value p f } in
    record {
      items = i ∷ r.items;
      is = rw (t.0.no_name, t.0.no_list, r.is) refl;
      numbers_are = ap (λ l. n ∷ l) r.numbers_are;
      builds = λ more args b. ap (λ o. option_and_then (taken_by value p f) o) (r.builds more args b) ∙ t.0.makes (args_before (xs ++ ys) args);
    }

names_there : (value : Declared → Term → Place → Option bound.Expr) (n : ℕ) (left : List Parameter) (gs : List Given) (g : Given) (ns : List Given) (ks : List ℕ) (ys : List Argument) → AllNamedTaken value n left (g ∷ ns) ks ys
    → has_names (gs ++ g ∷ ns) ≡ true
names_there value n left [] g ns [] ys h = absurd h
names_there value n left [] g ns (k ∷ ks) [] h = absurd h
names_there value n left [] g ns (k ∷ ks) (y ∷ ys) h = ap (λ o. is_some o || has_names ns) h.0.has_name
names_there value n left (f ∷ gs) g ns ks ys h = ap (λ b. is_some f.name || b) (names_there value n left gs g ns ks ys h) ∙ or_true (is_some f.name)
  where
    or_true : (b : Bool) → (b || true) ≡ true
    or_true true = refl
    or_true false = refl

args_append : (xs ys : List Argument) (args : Args) → args_before (xs ++ ys) args ≡ args_before xs (args_before ys args)
args_append [] ys args = refl
args_append (x ∷ xs) ys args = ap (λ a. with_argument x a) (args_append xs ys args)

bound_by : (value : Declared → Term → Place → Option bound.Expr) (ps : List Parameter) (gs : List Given) (is : List Item) (args : Args) (order : List ℕ) → by_position value 0 ps gs ≡ Some is → are_apart is ≡ true
    → built (is ++ left_over 0 ps is) ≡ Some args → has_names gs ≡ true → order_from 0 ps (is ++ left_over 0 ps is) ≡ order → bound_arguments value ps gs ≡ Some (in_order order args)
bound_by value ps gs is args order a b c d e = rw (a, b, c, d, e) refl

-- the arguments of a call of which the last ones have names
pub named_bound : (value : Declared → Term → Place → Option bound.Expr) (ps : List Parameter) (gs : List Given) (xs : List Argument) (left : List Parameter) (g : Given) (ns : List Given) (ks : List ℕ) (ys ds : List Argument) → AllTaken value ps gs xs left
    → AllNamedTaken value (length xs) left (g ∷ ns) ks ys → all_apart (numbers_given (length xs) ks) ≡ true → AllLeft (others 0 ps (numbers_given (length xs) ks)) ds
    → bound_arguments value ps (gs ++ g ∷ ns) ≡ Some (in_order (places_from 0 (length ps) (numbers_pushed (length ps) (numbers_given (length xs) ks))) (args_of ((xs ++ ys) ++ ds)))
named_bound value ps gs xs left g ns ks ys ds t h apart rest =
    let r = all_made value 0 ps gs xs left (length xs) g ns ks ys (omega arith) t h in
    let all = numbers_given (length xs) ks in
    let lefts : left_over 0 ps r.items ≡ left_by 0 ps all = left_over_is 0 ps r.items ∙ ap (λ l. left_by 0 ps l) r.numbers_are in
    let numbers : numbers_in (r.items ++ left_over 0 ps r.items) ≡ numbers_pushed (length ps) all =
    numbers_append r.items (left_over 0 ps r.items) ∙ ap (λ l. l ++ numbers_in (left_over 0 ps r.items)) r.numbers_are ∙ ap (λ l. all ++ numbers_in l) lefts ∙ ap (λ l. all ++ l) (numbers_left 0 ps all) in
    bound_by value ps (gs ++ g ∷ ns) r.items (args_of ((xs ++ ys) ++ ds)) (places_from 0 (length ps) (numbers_pushed (length ps) all)) r.is (apart_is r.items ∙ ap (λ l. all_apart l) r.numbers_are ∙ apart)
    (r.builds (left_over 0 ps r.items) (args_of ds) (ap (λ l. built l) lefts ∙ built_left 0 ps all ds rest) ∙ ap (λ a. Some a) (sym (args_append (xs ++ ys) ds no_args)))
    (names_there value (length xs) left gs g ns ks ys h) (order_is 0 ps (r.items ++ left_over 0 ps r.items) ∙ ap (λ l. places_from 0 (length ps) l) numbers)
