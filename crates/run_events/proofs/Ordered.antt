-- The links of a source, object by object.
use Rattle.std.proofs.Common.{◌≡◌, ℕ, suc, ◌+◌, ◌-◌, ◌<◌, ◌≤◌, Bool, true, false, cond, not, List, [], ◌∷◌, ◌++◌, length, map, take, drop, get_or, refl, sym, ap, ◌∙◌, arith}
use Rattle.std.specs.Prelude.{◌==◌, ◌||◌, nat_lt, Option, Some, None, option_map}
use Rattle.std.specs.List.{filter, list_any}
use Rattle.std.proofs.lemmas.List.{drop-map, drop_more}
use Rattle.std.proofs.Math.Dec.{eqb-suc-zero}
use Rattle.vba_values.specs.declared.object.ObjRef.{ObjRef}
use Rattle.vba_values.specs.Objects.{same_object}
use Rattle.vba_events.specs.declared.linked.Linked.{Linked}
use Rattle.vba_events.specs.Links.{links_of}
use Rattle.vba_events.specs.Order.{insert_link, in_order}
use Rattle.vba_events.proofs.Order.{any_order, filter_append, filter_order}
use Rattle.bound_project.specs.Project.{Declarations}
use Rattle.vba_meaning.specs.Memory.{Memory, Object}
use Rattle.vba_meaning.specs.Events.{due, link_of, links_in, links_from, sinks}
use Rattle.run_memory.specs.declared.memory.Object.{Object as Held}
use Rattle.run_memory.specs.View.{object_view}
use Rattle.run_events.specs.Sought.{any_linked, any_numbered, due_from, inserted_all, inserted_links, is_set_to, place_among}

-- links put among others
order_append : (ls ks : List Linked) → in_order (ls ++ ks) ≡ inserted_links ls (in_order ks)
order_append [] ks = refl
order_append (l ∷ ls) ks = ap (insert_link l) (order_append ls ks)

pub inserted_append : (ls js ks : List Linked) → inserted_links (ls ++ js) ks ≡ inserted_links ls (inserted_links js ks)
inserted_append [] js ks = refl
inserted_append (l ∷ ls) js ks = ap (insert_link l) (inserted_append ls js ks)

-- those of one object come among those of the objects behind it
pub sinks_step : (source : ObjRef) (n : ℕ) (b : Option Object) (bs : List (Option Object))
    → in_order (links_of source (links_from n (b ∷ bs))) ≡ inserted_all source n b (in_order (links_of source (links_from (suc n) bs)))
sinks_step source n None bs = refl
sinks_step source n (Some b) bs =
    ap in_order (filter_append (λ l. same_object source l.source) (links_in n b b.set_numbers) (links_from (suc n) bs))
    ∙ order_append (links_of source (links_in n b b.set_numbers)) (links_of source (links_from (suc n) bs))

-- all of them
pub sinks_are : (source : ObjRef) (m : Memory) → sinks source m ≡ in_order (links_of source (links_from 0 m.objects))
sinks_are source m = filter_order (λ l. same_object source l.source) (links_from 0 m.objects)

-- ---- the place of a link

place_first : (n : ℕ) (l : Linked) (ls : List Linked) → nat_lt n l.number ≡ true → place_among n (l ∷ ls) ≡ 0
place_first n l ls h = rw h refl

place_later : (n : ℕ) (l : Linked) (ls : List Linked) → nat_lt n l.number ≡ false → place_among n (l ∷ ls) ≡ suc (place_among n ls)
place_later n l ls h = rw h refl

pub place_goes_on : (n : ℕ) (all : List Linked) (i : ℕ) (l : Linked) → i < length all → l ≡ get_or all i l → false ≡ nat_lt n l.number → place_among n (drop i all) ≡ suc (place_among n (drop (i + 1) all))
place_goes_on n all i l more here h =
    ap (λ (ls : List Linked). place_among n ls) (drop_more all i l more ∙ ap (λ (k : Linked). k ∷ drop (i + 1) all) (sym here)) ∙ place_later n l (drop (i + 1) all) (sym h)

pub place_ends : (n : ℕ) (all : List Linked) (i : ℕ) (l : Linked) → i < length all → l ≡ get_or all i l → true ≡ nat_lt n l.number → place_among n (drop i all) ≡ 0
place_ends n all i l more here h =
    ap (λ (ls : List Linked). place_among n ls) (drop_more all i l more ∙ ap (λ (k : Linked). k ∷ drop (i + 1) all) (sym here)) ∙ place_first n l (drop (i + 1) all) (sym h)

pub place_within : (n : ℕ) (ls : List Linked) → place_among n ls ≤ length ls
place_within n [] = omega arith
place_within n (l ∷ ls) = by_test (nat_lt n l.number) (place_within n ls) where
  by_test : (b : Bool) → place_among n ls ≤ length ls → cond b 0 (suc (place_among n ls)) ≤ suc (length ls)
  by_test true h = omega arith
  by_test false h = omega arith

pub inserted_at : (x : Linked) (ls : List Linked) → insert_link x ls ≡ take (place_among x.number ls) ls ++ x ∷ drop (place_among x.number ls) ls
inserted_at x [] = refl
inserted_at x (l ∷ ls) = by_test (nat_lt x.number l.number) (inserted_at x ls) where
  by_test : (b : Bool) → insert_link x ls ≡ take (place_among x.number ls) ls ++ x ∷ drop (place_among x.number ls) ls
      → cond b (x ∷ l ∷ ls) (l ∷ insert_link x ls) ≡ take (cond b 0 (suc (place_among x.number ls))) (l ∷ ls) ++ x ∷ drop (cond b 0 (suc (place_among x.number ls))) (l ∷ ls)
  by_test true h = refl
  by_test false h = ap (λ (ks : List Linked). l ∷ ks) h

-- the same of an object that is reached from behind
pub next_links : (source : ObjRef) (n : ℕ) (all : List (Option Held)) (h : Option Held) (ls js : List Linked) → 0 < n → n ≤ length all → h ≡ get_or all (n - 1) h
    → ls ≡ in_order (links_of source (links_from n (drop n (map (option_map object_view) all)))) → js ≡ inserted_all source (n - 1) (option_map object_view h) ls
    → js ≡ in_order (links_of source (links_from (n - 1) (drop (n - 1) (map (option_map object_view) all))))
next_links source n all h ls js some within is found added =
    let k = n - 1 in
    let f : Option Held → Option Object = λ (o : Option Held). option_map object_view o in
    let bs = map f all in
    let lt : k < length all = omega (arith, some, within) in
    let one : k + 1 ≡ n = omega (arith, some) in
    let next : n ≡ suc k = omega (arith, some) in
    let left : drop k bs ≡ f h ∷ drop n bs =
    drop-map f k all ∙ ap (λ (l : List (Option Held)). map f l) (drop_more all k h lt) ∙ ap (λ (o : Option Held). f o ∷ map f (drop (k + 1) all)) (sym is)
    ∙ ap (λ (l : List (Option Object)). f h ∷ l) (sym (drop-map f (k + 1) all)) ∙ ap (λ (i : ℕ). f h ∷ drop i bs) one in
    added ∙ ap (λ (l : List Linked). inserted_all source k (f h) l) (found ∙ ap (λ (i : ℕ). in_order (links_of source (links_from i (drop n bs)))) next)
    ∙ sym (sinks_step source k (f h) (drop n bs)) ∙ ap (λ (l : List (Option Object)). in_order (links_of source (links_from k l))) (sym left)

-- those of one variable, and of the others
pub entries_step : (source : ObjRef) (n : ℕ) (b : Object) (e : ℕ × Option ℕ) (es : List (ℕ × Option ℕ)) (ks : List Linked)
    → inserted_links (links_of source (links_in n b (e ∷ es))) ks ≡ inserted_links (links_of source (link_of n b e.0 e.1)) (inserted_links (links_of source (links_in n b es)) ks)
entries_step source n b e es ks =
    ap (λ ls. inserted_links ls ks) (filter_append (λ l. same_object source l.source) (link_of n b e.0 e.1) (links_in n b es))
    ∙ inserted_append (links_of source (link_of n b e.0 e.1)) (links_of source (links_in n b es)) ks

-- ---- whether there are any

pub any_append : (p : Linked → Bool) (ls ks : List Linked) → list_any p (ls ++ ks) ≡ (list_any p ls || list_any p ks)
any_append p [] ks = refl
any_append p (l ∷ ls) ks = ap (λ b. p l || b) (any_append p ls ks) ∙ joined (p l) (list_any p ls) (list_any p ks) where
  joined : (a b c : Bool) → (a || (b || c)) ≡ ((a || b) || c)
  joined true b c = refl
  joined false b c = refl

some_left : (p : Linked → Bool) (ls : List Linked) → not (length (filter p ls) == 0) ≡ list_any p ls
some_left p [] = refl
some_left p (l ∷ ls) = by_test (p l) (some_left p ls) where
  by_test : (b : Bool) → not (length (filter p ls) == 0) ≡ list_any p ls → not (length (cond b (l ∷ filter p ls) (filter p ls)) == 0) ≡ (b || list_any p ls)
  by_test true h = ap not (eqb-suc-zero (length (filter p ls)))
  by_test false h = h

in_entries : (source : ObjRef) (n : ℕ) (b : Object) (es : List (ℕ × Option ℕ)) → list_any (λ l. same_object source l.source) (links_in n b es) ≡ any_numbered source b es
in_entries source n b [] = refl
in_entries source n b ((i, None) ∷ es) = in_entries source n b es
in_entries source n b ((i, Some k) ∷ es) = ap (λ t. is_set_to source b (i, Some k) || t) (in_entries source n b es)

in_objects : (source : ObjRef) (n : ℕ) (bs : List (Option Object)) → list_any (λ l. same_object source l.source) (links_from n bs) ≡ any_linked source bs
in_objects source n [] = refl
in_objects source n (None ∷ bs) = in_objects source (suc n) bs
in_objects source n (Some b ∷ bs) =
    any_append (λ l. same_object source l.source) (links_in n b b.set_numbers) (links_from (suc n) bs)
    ∙ ap (λ t. t || list_any (λ l. same_object source l.source) (links_from (suc n) bs)) (in_entries source n b b.set_numbers)
    ∙ ap (λ t. any_numbered source b b.set_numbers || t) (in_objects source (suc n) bs)

pub has_some : (source : ObjRef) (m : Memory) → not (length (sinks source m) == 0) ≡ any_linked source m.objects
has_some source m =
    some_left (λ l. same_object source l.source) (in_order (links_from 0 m.objects))
    ∙ any_order (λ l. same_object source l.source) (links_from 0 m.objects)
    ∙ in_objects source 0 m.objects

-- ---- handlers

-- the next link has none, and is taken off
pub popped : (d : Declarations) (e : ℕ) (l : Linked) (ls : List Linked) (m : Memory) → due d e l m ≡ None → due_from d e (l ∷ ls) m ≡ due_from d e ls m
popped d e l ls m h = rw h refl

pub popped_some : (d : Declarations) (e p : ℕ) (l : Linked) (ls : List Linked) (m : Memory) → due d e l m ≡ Some p → due_from d e (l ∷ ls) m ≡ Some ((l.sink, p), ls)
popped_some d e p l ls m h = rw h refl
