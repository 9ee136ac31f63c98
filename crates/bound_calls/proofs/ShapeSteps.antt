-- Arguments by their shapes, read from the left: what is found of them so far.
use Rattle.std.proofs.Common.{◌≡◌, ℕ, ◌<◌, ◌+◌, Bor, Bool, true, false, ◌&&◌, not, List, [], ◌∷◌, ◌++◌, map, length, get_or, take, drop, Option, Some, None, if◌then◌else◌, append_assoc, refl, sym, ap, subst, ◌∙◌}
use Rattle.std.proofs.lemmas.List.{drop_more, map_more, map_push}
use Rattle.std.specs.Prelude.{bytes_eq, option_map}
use Rattle.bound_project.specs.declared.declarations.Parameter.{Parameter as ParameterHere}
use Rattle.bound_project.specs.View.{parameter_view}
use Rattle.bound_project.specs.Project.{Parameter}
use Rattle.bound_forms.specs.Terms.{all_but}
use Rattle.bound_calls.specs.declared.term.Shape.{Shape}
use Rattle.bound_calls.specs.declared.term.Item.{Item}
use Rattle.bound_calls.specs.declared.term.Item.TheVariants as item
use Rattle.bound_calls.specs.Shapes.{Removes, with_shape, with_shapes}

-- ---- arguments on the stack

pub shapes_more : (ss : List Shape) (s : Shape) (xs : List Item) → with_shapes (ss ++ s ∷ []) xs ≡ with_shapes ss (with_shape (Some s) xs)
shapes_more [] s xs = refl
shapes_more (s' ∷ ss) s xs = ap (λ l. item.Shape s' ∷ l) (shapes_more ss s xs)

-- ---- all parameters but the one with a name

behind_both : (others : List Parameter) (p : Parameter) (o : Option (List Parameter)) → option_map (λ l. others ++ l) (option_map (λ l. p ∷ l) o) ≡ option_map (λ l. (others ++ p ∷ []) ++ l) o
behind_both others p None = refl
behind_both others p (Some l) = ap (λ r. Some r) (sym (append_assoc others (p ∷ []) l))

abbrev is_named_so : Parameter → List ℕ → Bool
is_named_so p fold = not p.many && bytes_eq p.name.fold fold

abbrev one_less : Parameter → List Parameter → List ℕ → Bool → Option (List Parameter)
one_less p ps fold b = if b then Some ps else option_map (λ others. p ∷ others) (all_but ps fold)

pub removes_found : (others ps all : List Parameter) (p : Parameter) (fold : List ℕ) → is_named_so p fold ≡ true → Removes false others (p ∷ ps) all fold → Removes true others ps all fold
removes_found others ps all p fold h r = r ∙ ap (λ b. option_map (λ l. others ++ l) (one_less p ps fold b)) h

pub removes_kept : (others ps all : List Parameter) (p : Parameter) (fold : List ℕ) → is_named_so p fold ≡ false → Removes false others (p ∷ ps) all fold → Removes false (others ++ p ∷ []) ps all fold
removes_kept others ps all p fold h r = r ∙ ap (λ b. option_map (λ l. others ++ l) (one_less p ps fold b)) h ∙ behind_both others p (all_but ps fold)

pub removes_rest : (others ps all : List Parameter) (p : Parameter) (fold : List ℕ) → Removes true others (p ∷ ps) all fold → Removes true (others ++ p ∷ []) ps all fold
removes_rest others ps all p fold r = r ∙ ap (λ l. Some l) (sym (append_assoc others (p ∷ []) ps))

-- ---- parameters, each by itself

abbrev pub own_view : Bor ParameterHere → Parameter
own_view x = parameter_view x.now

pub each_next : (all : List ParameterHere) (i : ℕ) (p : ParameterHere) (each new : List (Bor ParameterHere)) (x : Bor ParameterHere) → i < length all → p ≡ get_or all i p → x.now ≡ p → new ≡ each ++ x ∷ []
    → map own_view each ≡ map parameter_view (take i all) → map own_view new ≡ map parameter_view (take (i + 1) all)
each_next all i p each new x lt is here news h =
    ap (λ l. map own_view l) news ∙ map_push own_view each x ∙ ap (λ l. l ++ own_view x ∷ []) h ∙ ap (λ q. map parameter_view (take i all) ++ parameter_view q ∷ []) (here ∙ is) ∙ sym (map_more parameter_view all i p lt)

all_here : (all : List (Bor ParameterHere)) (i : ℕ) (x : Bor ParameterHere) → i < length all → x ≡ get_or all i x → map own_view (drop i all) ≡ own_view x ∷ map own_view (drop (i + 1) all)
all_here all i x lt is = ap (λ l. map own_view l) (drop_more all i x lt ∙ ap (λ y. y ∷ drop (i + 1) all) (sym is))

abbrev pub IsBut : Bool → (others behind all : List (Bor ParameterHere)) → (fold : List ℕ) → Type 0
IsBut found others behind all fold = Removes found (map own_view others) (map own_view behind) (map own_view all) fold

but_at : (all : List (Bor ParameterHere)) (i : ℕ) (x : Bor ParameterHere) (others : List (Bor ParameterHere)) (found is_so : Bool) (fold : List ℕ) → i < length all → x ≡ get_or all i x → found ≡ is_so → IsBut found others (drop i all) all fold
    → Removes is_so (map own_view others) (own_view x ∷ map own_view (drop (i + 1) all)) (map own_view all) fold
but_at all i x others found is_so fold lt is f h =
    let A : List Parameter → Type 0 = λ l. Removes found (map own_view others) l (map own_view all) fold in
    let B : Bool → Type 0 = λ b. Removes b (map own_view others) (own_view x ∷ map own_view (drop (i + 1) all)) (map own_view all) fold in
    subst B f (subst A (all_here all i x lt is) h)

but_now : (all : List (Bor ParameterHere)) (i : ℕ) (x : Bor ParameterHere) (others new : List (Bor ParameterHere)) (after is_so : Bool) (fold : List ℕ) → after ≡ is_so → new ≡ others ++ x ∷ []
    → Removes is_so (map own_view others ++ own_view x ∷ []) (map own_view (drop (i + 1) all)) (map own_view all) fold → IsBut after new (drop (i + 1) all) all fold
but_now all i x others new after is_so fold a n h =
    let A : List Parameter → Type 0 = λ l. Removes is_so l (map own_view (drop (i + 1) all)) (map own_view all) fold in
    let B : Bool → Type 0 = λ b. Removes b (map own_view new) (map own_view (drop (i + 1) all)) (map own_view all) fold in
    subst B (sym a) (subst A (sym (ap (λ l. map own_view l) n ∙ map_push own_view others x)) h)

pub but_rest : (all : List (Bor ParameterHere)) (i : ℕ) (x : Bor ParameterHere) (others new : List (Bor ParameterHere)) (found after : Bool) (fold : List ℕ) → i < length all → x ≡ get_or all i x → found ≡ true → after ≡ found → new ≡ others ++ x ∷ []
    → IsBut found others (drop i all) all fold → IsBut after new (drop (i + 1) all) all fold
but_rest all i x others new found after fold lt is f a n h =
    but_now all i x others new after true fold (a ∙ f) n (removes_rest (map own_view others) (map own_view (drop (i + 1) all)) (map own_view all) (own_view x) fold (but_at all i x others found true fold lt is f h))

pub but_kept : (all : List (Bor ParameterHere)) (i : ℕ) (x : Bor ParameterHere) (others new : List (Bor ParameterHere)) (found after : Bool) (fold : List ℕ) → i < length all → x ≡ get_or all i x → found ≡ false → after ≡ found → new ≡ others ++ x ∷ []
    → is_named_so (own_view x) fold ≡ false → IsBut found others (drop i all) all fold → IsBut after new (drop (i + 1) all) all fold
but_kept all i x others new found after fold lt is f a n other h =
    but_now all i x others new after false fold (a ∙ f) n (removes_kept (map own_view others) (map own_view (drop (i + 1) all)) (map own_view all) (own_view x) fold other (but_at all i x others found false fold lt is f h))

pub but_found : (all : List (Bor ParameterHere)) (i : ℕ) (x : Bor ParameterHere) (others new : List (Bor ParameterHere)) (found after : Bool) (fold : List ℕ) → i < length all → x ≡ get_or all i x → found ≡ false → after ≡ true → new ≡ others
    → is_named_so (own_view x) fold ≡ true → IsBut found others (drop i all) all fold → IsBut after new (drop (i + 1) all) all fold
but_found all i x others new found after fold lt is f a n so h =
    let A : List (Bor ParameterHere) → Type 0 = λ l. IsBut true l (drop (i + 1) all) all fold in
    let B : Bool → Type 0 = λ b. IsBut b new (drop (i + 1) all) all fold in
    subst B (sym a) (subst A (sym n) (removes_found (map own_view others) (map own_view (drop (i + 1) all)) (map own_view all) (own_view x) fold so (but_at all i x others found false fold lt is f h)))
