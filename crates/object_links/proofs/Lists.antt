-- Links of objects, as one of them changes.
use Rattle.std.proofs.Common.{◌≡◌, ℕ, zero, suc, ◌+◌, ◌<◌, Bool, true, false, cond, not, List, [], ◌∷◌, ◌++◌, Option, Some, None, refl, sym, ap, ◌∙◌, subst, arith}
use Rattle.std.specs.Prelude.{◌==◌, ◌&&◌, nat_eq, nat_lt, if◌then◌else◌, slice_get, slice_index_or, slice_set}
use Rattle.std.specs.List.{filter}
use Rattle.std.proofs.lemmas.Bool.{eqb-true, eqb-false, eq-eqb}
use Rattle.std.proofs.lemmas.List.{get_or-set_other}
use Rattle.vba_values.specs.declared.object.ObjRef.{ObjRef}
use Rattle.vba_values.specs.Val.{Val, empty}
use Rattle.vba_events.specs.declared.linked.Linked.{Linked}
use Rattle.vba_events.specs.Links.{is_of_field, without_field}
use Rattle.vba_events.specs.Order.{insert_link, in_order, AllBelow}
use Rattle.vba_events.proofs.Order.{order_more, filter_append}
use Rattle.vba_meaning.specs.Memory.{Object, object_or}
use Rattle.vba_meaning.specs.Effects.{renumbered}
use Rattle.vba_meaning.specs.Events.{source_of, link_of, links_in, links_from}
use Rattle.object_links.specs.Stored.{sourced, object_id}

-- the object of a number
abbrev pub at_number : List (Option Object) → ℕ → Object
at_number bs o = object_or (slice_index_or bs o None)

-- ---- tests

pub apart_test : (a b : ℕ) → (a ≡ b → ⊥) → (a == b) ≡ false
apart_test a b h = by_test (a == b) refl where
  by_test : (t : Bool) → (a == b) ≡ t → t ≡ false
  by_test true e = absurd (h (eqb-true a b e))
  by_test false e = refl

and_no : (b : Bool) → (b && false) ≡ false
and_no true = refl
and_no false = refl

-- a link of another object, or of another variable
other_sink : (n k i : ℕ) (l : Linked) → l.sink.0 ≡ k → (k ≡ n → ⊥) → is_of_field (object_id n) i l ≡ false
other_sink n k i l e h = ap (λ b. b && nat_eq i l.field) (apart_test n l.sink.0 (λ f. h (sym e ∙ sym f)))

other_field : (n i : ℕ) (l : Linked) → (i ≡ l.field → ⊥) → is_of_field (object_id n) i l ≡ false
other_field n i l h = ap (λ b. nat_eq n l.sink.0 && b) (apart_test i l.field h) ∙ and_no (nat_eq n l.sink.0)

own_field : (n i : ℕ) (l : Linked) → l.sink.0 ≡ n → l.field ≡ i → is_of_field (object_id n) i l ≡ true
own_field n i l e f = ap (λ b. b && nat_eq i l.field) (eq-eqb n l.sink.0 (sym e)) ∙ eq-eqb i l.field (sym f)

-- ---- lists of links

abbrev pub AllLinks : (Linked → Type 0) → List Linked → Type 0
AllLinks P [] = Unit {0}
AllLinks P (l ∷ ls) = P l × AllLinks P ls

all_append : (P : Linked → Type 0) (ls ks : List Linked) → AllLinks P ls → AllLinks P ks → AllLinks P (ls ++ ks)
all_append P [] ks h g = g
all_append P (l ∷ ls) ks h g = (h.0, all_append P ls ks h.1 g)

pub below_append : (x : ℕ) (ls ks : List Linked) → AllBelow x ls → AllBelow x ks → AllBelow x (ls ++ ks)
below_append x [] ks h g = g
below_append x (l ∷ ls) ks h g = (h.0, below_append x ls ks h.1 g)

-- a test that all of them pass leaves none out
all_pass : (p : Linked → Bool) (ls : List Linked) → AllLinks (λ l. p l ≡ true) ls → filter p ls ≡ ls
all_pass p [] h = refl
all_pass p (l ∷ ls) h = ap (λ b. cond b (l ∷ filter p ls) (filter p ls)) h.0 ∙ ap (λ ks. l ∷ ks) (all_pass p ls h.1)

-- none of them is of the variable
pub all_kept : (n i : ℕ) (ls : List Linked) → AllLinks (λ l. is_of_field (object_id n) i l ≡ false) ls → without_field (object_id n) i ls ≡ ls
all_kept n i ls h = all_pass (λ l. not (is_of_field (object_id n) i l)) ls (passing ls h) where
  passing : (ks : List Linked) → AllLinks (λ l. is_of_field (object_id n) i l ≡ false) ks → AllLinks (λ l. not (is_of_field (object_id n) i l) ≡ true) ks
  passing [] g = tt
  passing (k ∷ ks) g = (ap not g.0, passing ks g.1)

none_sourced : (s : ObjRef) (n i : ℕ) (ls : List Linked) → AllLinks (λ l. is_of_field (object_id n) i l ≡ false) ls → sourced s (object_id n) i ls ≡ ls
none_sourced s n i [] h = refl
none_sourced s n i (l ∷ ls) h =
    ap (λ b. (if b then record { source = s; sink = l.sink; field = l.field; number = l.number } else l) ∷ sourced s (object_id n) i ls) h.0 ∙ ap (λ ks. l ∷ ks) (none_sourced s n i ls h.1)

-- sources have nothing to do with the order
abbrev source_in : (s : ObjRef) (n i : ℕ) → Linked → Linked
source_in s n i l = if is_of_field (object_id n) i l then record { source = s; sink = l.sink; field = l.field; number = l.number } else l

sourced_append : (s : ObjRef) (n i : ℕ) (ls ks : List Linked) → sourced s (object_id n) i (ls ++ ks) ≡ sourced s (object_id n) i ls ++ sourced s (object_id n) i ks
sourced_append s n i [] ks = refl
sourced_append s n i (l ∷ ls) ks = ap (λ js. source_in s n i l ∷ js) (sourced_append s n i ls ks)

same_number : (s : ObjRef) (n i : ℕ) (l : Linked) → (source_in s n i l).number ≡ l.number
same_number s n i l = by_test (is_of_field (object_id n) i l) where
  by_test : (b : Bool) → (if b then record { source = s; sink = l.sink; field = l.field; number = l.number } else l).number ≡ l.number
  by_test true = refl
  by_test false = refl

insert_sourced : (s : ObjRef) (n i : ℕ) (l : Linked) (ks : List Linked) → insert_link (source_in s n i l) (sourced s (object_id n) i ks) ≡ sourced s (object_id n) i (insert_link l ks)
insert_sourced s n i l [] = refl
insert_sourced s n i l (k ∷ ks) =
    ap (λ x. cond (nat_lt x (source_in s n i k).number) (source_in s n i l ∷ source_in s n i k ∷ sourced s (object_id n) i ks) (source_in s n i k ∷ insert_link (source_in s n i l) (sourced s (object_id n) i ks))) (same_number s n i l)
    ∙ ap (λ x. cond (nat_lt l.number x) (source_in s n i l ∷ source_in s n i k ∷ sourced s (object_id n) i ks) (source_in s n i k ∷ insert_link (source_in s n i l) (sourced s (object_id n) i ks))) (same_number s n i k)
    ∙ by_test (nat_lt l.number k.number) (insert_sourced s n i l ks) where
      by_test : (b : Bool) → insert_link (source_in s n i l) (sourced s (object_id n) i ks) ≡ sourced s (object_id n) i (insert_link l ks)
          → cond b (source_in s n i l ∷ source_in s n i k ∷ sourced s (object_id n) i ks) (source_in s n i k ∷ insert_link (source_in s n i l) (sourced s (object_id n) i ks))
          ≡ sourced s (object_id n) i (cond b (l ∷ k ∷ ks) (k ∷ insert_link l ks))
      by_test true h = refl
      by_test false h = ap (λ js. source_in s n i k ∷ js) h

pub order_sourced : (s : ObjRef) (n i : ℕ) (ls : List Linked) → in_order (sourced s (object_id n) i ls) ≡ sourced s (object_id n) i (in_order ls)
order_sourced s n i [] = refl
order_sourced s n i (l ∷ ls) = ap (λ ks. insert_link (source_in s n i l) ks) (order_sourced s n i ls) ∙ insert_sourced s n i l (in_order ls)

-- one link more, with the greatest number, behind others
pub order_behind : (x : Linked) (ls ks js : List Linked) → AllBelow x.number ls → in_order ks ≡ in_order js ++ x ∷ [] → in_order (ls ++ ks) ≡ in_order (ls ++ js) ++ x ∷ []
order_behind x [] ks js h e = e
order_behind x (l ∷ ls) ks js h e = order_more l x (ls ++ ks) (ls ++ js) h.0 (order_behind x ls ks js h.1 e)

-- ---- the links of one object

abbrev pub own_links : ℕ → Object → List Linked
own_links n b = links_in n b b.set_numbers

one_sink : (n : ℕ) (b : Object) (i : ℕ) (x : Option ℕ) → AllLinks (λ l. l.sink.0 ≡ n) (link_of n b i x)
one_sink n b i None = tt
one_sink n b i (Some k) = (refl, tt)

pub own_sinks : (n : ℕ) (b : Object) (es : List (ℕ × Option ℕ)) → AllLinks (λ l. l.sink.0 ≡ n) (links_in n b es)
own_sinks n b [] = tt
own_sinks n b (e ∷ es) = all_append (λ l. l.sink.0 ≡ n) (link_of n b e.0 e.1) (links_in n b es) (one_sink n b e.0 e.1) (own_sinks n b es)

-- numbers from one on
pub from_sinks : (k : ℕ) (bs : List (Option Object)) (n : ℕ) → n < k → AllLinks (λ l. l.sink.0 ≡ n → ⊥) (links_from k bs)
from_sinks k [] n lt = tt
from_sinks k (None ∷ bs) n lt = from_sinks (suc k) bs n (omega (arith, lt))
from_sinks k (Some b ∷ bs) n lt = all_append (λ l. l.sink.0 ≡ n → ⊥) (own_links k b) (links_from (suc k) bs) (apart (own_links k b) (own_sinks k b b.set_numbers)) (from_sinks (suc k) bs n (omega (arith, lt))) where
  apart : (ls : List Linked) → AllLinks (λ l. l.sink.0 ≡ k) ls → AllLinks (λ l. l.sink.0 ≡ n → ⊥) ls
  apart [] h = tt
  apart (l ∷ ls) h = (λ e. absurd (omega (arith, lt, e, h.0)), apart ls h.1)

pub none_of : (n i : ℕ) (ls : List Linked) → AllLinks (λ l. l.sink.0 ≡ n → ⊥) ls → AllLinks (λ l. is_of_field (object_id n) i l ≡ false) ls
none_of n i [] h = tt
none_of n i (l ∷ ls) h = (other_sink n l.sink.0 i l refl h.0, none_of n i ls h.1)

pub others_of : (n k i : ℕ) (b : Object) (es : List (ℕ × Option ℕ)) → (k ≡ n → ⊥) → AllLinks (λ l. is_of_field (object_id n) i l ≡ false) (links_in k b es)
others_of n k i b es h = by_list (links_in k b es) (own_sinks k b es) where
  by_list : (ls : List Linked) → AllLinks (λ l. l.sink.0 ≡ k) ls → AllLinks (λ l. is_of_field (object_id n) i l ≡ false) ls
  by_list [] g = tt
  by_list (l ∷ ls) g = (other_sink n k i l g.0 h, by_list ls g.1)

-- ---- an object that has the same links takes the place of one

pub set_same : (k n o : ℕ) (bs : List (Option Object)) (b : Object) → n ≡ k + o → own_links n b ≡ own_links n (at_number bs o) → links_from k (slice_set bs o (Some b)) ≡ links_from k bs
set_same k n zero [] b e h = refl
set_same k n (suc o) [] b e h = refl
set_same k n zero (None ∷ bs) b e h = let is : n ≡ k = omega (arith, e) in ap (λ ls. ls ++ links_from (suc k) bs) (subst (λ j. own_links j b ≡ []) is h)
set_same k n zero (Some c ∷ bs) b e h = let is : n ≡ k = omega (arith, e) in ap (λ ls. ls ++ links_from (suc k) bs) (subst (λ j. own_links j b ≡ own_links j c) is h)
set_same k n (suc o) (None ∷ bs) b e h = set_same (suc k) n o bs b (omega (arith, e)) h
set_same k n (suc o) (Some c ∷ bs) b e h = ap (λ ls. own_links k c ++ ls) (set_same (suc k) n o bs b (omega (arith, e)) h)

-- ---- a variable takes a value

-- an entry of a variable, and one of another
field_link : (n i : ℕ) (b : Object) (v old : Val) (j : ℕ) (x : Option ℕ) → slice_get b.fields i ≡ Some old
    → link_of n (record b { fields = slice_set b.fields i v }) j x ≡ sourced (source_of v) (object_id n) i (link_of n b j x)
field_link n i b v old j None e = refl
field_link n i b v old j (Some x) e = by_test (i == j) refl where
  link : ObjRef → Linked
  link s = record { source = s; sink = object_id n; field = j; number = x }

  here : Val → ℕ → ObjRef
  here w q = source_of (slice_index_or (slice_set b.fields q w) j empty)

  within : (vs : List Val) (q : ℕ) → slice_get vs q ≡ Some old → slice_index_or (slice_set vs q v) q empty ≡ v
  within [] zero f = absurd cc
  within [] (suc q) f = absurd cc
  within (w ∷ vs) zero f = refl
  within (w ∷ vs) (suc q) f = within vs q f

  by_test : (t : Bool) → (i == j) ≡ t → link (source_of (slice_index_or (slice_set b.fields i v) j empty)) ∷ [] ≡ sourced (source_of v) (object_id n) i (link (source_of (slice_index_or b.fields j empty)) ∷ [])
  by_test true f =
      let is : i ≡ j = eqb-true i j f in
      let own : is_of_field (object_id n) i (link (source_of (slice_index_or b.fields j empty))) ≡ true = own_field n i (link (source_of (slice_index_or b.fields j empty))) refl (sym is) in
      ap (λ q. link (source_of (slice_index_or (slice_set b.fields i v) q empty)) ∷ []) (sym is) ∙ ap (λ w. link (source_of w) ∷ []) (within b.fields i e)
      ∙ ap (λ t. (if t then link (source_of v) else link (source_of (slice_index_or b.fields j empty))) ∷ []) (sym own)
  by_test false f =
      let apart : j ≡ i → ⊥ = λ g. eqb-false i j f (sym g) in
      let other : is_of_field (object_id n) i (link (source_of (slice_index_or b.fields j empty))) ≡ false = other_field n i (link (source_of (slice_index_or b.fields j empty))) (λ g. apart (sym g)) in
      ap (λ w. link (source_of w) ∷ []) (get_or-set_other b.fields i j v empty apart)
      ∙ ap (λ t. (if t then link (source_of v) else link (source_of (slice_index_or b.fields j empty))) ∷ []) (sym other)

field_links : (n i : ℕ) (b : Object) (v old : Val) (es : List (ℕ × Option ℕ)) → slice_get b.fields i ≡ Some old
    → links_in n (record b { fields = slice_set b.fields i v }) es ≡ sourced (source_of v) (object_id n) i (links_in n b es)
field_links n i b v old [] e = refl
field_links n i b v old (x ∷ es) e =
    ap (λ ls. ls ++ links_in n (record b { fields = slice_set b.fields i v }) es) (field_link n i b v old x.0 x.1 e)
    ∙ ap (λ ls. sourced (source_of v) (object_id n) i (link_of n b x.0 x.1) ++ ls) (field_links n i b v old es e)
    ∙ sym (sourced_append (source_of v) n i (link_of n b x.0 x.1) (links_in n b es))

pub field_set : (k n o i : ℕ) (bs : List (Option Object)) (v old : Val) → n ≡ k + o → slice_get (at_number bs o).fields i ≡ Some old
    → links_from k (slice_set bs o (Some (record (at_number bs o) { fields = slice_set (at_number bs o).fields i v }))) ≡ sourced (source_of v) (object_id n) i (links_from k bs)
field_set k n zero zero [] v old e h = absurd cc
field_set k n zero (suc i) [] v old e h = absurd cc
field_set k n (suc o) zero [] v old e h = absurd cc
field_set k n (suc o) (suc i) [] v old e h = absurd cc
field_set k n zero zero (None ∷ bs) v old e h = absurd cc
field_set k n zero (suc i) (None ∷ bs) v old e h = absurd cc
field_set k n zero i (Some b ∷ bs) v old e h =
    let is : n ≡ k = omega (arith, e) in
    let more : sourced (source_of v) (object_id k) i (links_from (suc k) bs) ≡ links_from (suc k) bs = none_sourced (source_of v) k i (links_from (suc k) bs) (none_of k i (links_from (suc k) bs) (from_sinks (suc k) bs k (omega arith))) in
    subst (λ j. own_links k (record b { fields = slice_set b.fields i v }) ++ links_from (suc k) bs ≡ sourced (source_of v) (object_id j) i (own_links k b ++ links_from (suc k) bs)) (sym is)
    (ap (λ ls. ls ++ links_from (suc k) bs) (field_links k i b v old b.set_numbers h) ∙ ap (λ ls. sourced (source_of v) (object_id k) i (own_links k b) ++ ls) (sym more)
    ∙ sym (sourced_append (source_of v) k i (own_links k b) (links_from (suc k) bs)))
field_set k n (suc o) i (None ∷ bs) v old e h = field_set (suc k) n o i bs v old (omega (arith, e)) h
field_set k n (suc o) i (Some c ∷ bs) v old e h =
    let apart : k ≡ n → ⊥ = λ f. absurd (omega (arith, e, f)) in
    ap (λ ls. own_links k c ++ ls) (field_set (suc k) n o i bs v old (omega (arith, e)) h)
    ∙ ap (λ ls. ls ++ sourced (source_of v) (object_id n) i (links_from (suc k) bs)) (sym (none_sourced (source_of v) n i (own_links k c) (others_of n k i c c.set_numbers apart)))
    ∙ sym (sourced_append (source_of v) n i (own_links k c) (links_from (suc k) bs))

-- ---- a variable has no number any more

pub without_append : (n i : ℕ) (ls ks : List Linked) → without_field (object_id n) i (ls ++ ks) ≡ without_field (object_id n) i ls ++ without_field (object_id n) i ks
without_append n i ls ks = filter_append (λ l. not (is_of_field (object_id n) i l)) ls ks

-- an entry of another variable keeps its link
pub other_entry : (n i : ℕ) (b : Object) (j : ℕ) (x : Option ℕ) → (j ≡ i → ⊥) → AllLinks (λ l. is_of_field (object_id n) i l ≡ false) (link_of n b j x)
other_entry n i b j None h = tt
other_entry n i b j (Some x) h = (other_field n i (record { source = source_of (slice_index_or b.fields j empty); sink = object_id n; field = j; number = x }) (λ e. h (sym e)), tt)

pub own_entry : (n i : ℕ) (b : Object) (j : ℕ) (x : Option ℕ) → j ≡ i → without_field (object_id n) i (link_of n b j x) ≡ []
own_entry n i b j None h = refl
own_entry n i b j (Some x) h =
    let l : Linked = record { source = source_of (slice_index_or b.fields j empty); sink = object_id n; field = j; number = x } in ap (λ t. cond (not t) (l ∷ []) []) (own_field n i l refl h)

off_links : (n i : ℕ) (b : Object) (es : List (ℕ × Option ℕ)) → links_in n b (renumbered i None es) ≡ without_field (object_id n) i (links_in n b es)
off_links n i b [] = refl
off_links n i b ((j, x) ∷ es) = by_test (j == i) refl (off_links n i b es) ∙ sym (without_append n i (link_of n b j x) (links_in n b es)) where
  by_test : (t : Bool) → (j == i) ≡ t → links_in n b (renumbered i None es) ≡ without_field (object_id n) i (links_in n b es)
      → link_of n b j (if t then None else x) ++ links_in n b (renumbered i None es) ≡ without_field (object_id n) i (link_of n b j x) ++ without_field (object_id n) i (links_in n b es)
  by_test true f more = more ∙ ap (λ ls. ls ++ without_field (object_id n) i (links_in n b es)) (sym (own_entry n i b j x (eqb-true j i f)))
  by_test false f more =
      ap (λ ls. link_of n b j x ++ ls) more
      ∙ ap (λ ls. ls ++ without_field (object_id n) i (links_in n b es)) (sym (all_kept n i (link_of n b j x) (other_entry n i b j x (eqb-false j i f))))

pub number_off : (k n o i : ℕ) (bs : List (Option Object)) → n ≡ k + o
    → links_from k (slice_set bs o (Some (record (at_number bs o) { set_numbers = renumbered i None (at_number bs o).set_numbers }))) ≡ without_field (object_id n) i (links_from k bs)
number_off k n zero i [] e = refl
number_off k n (suc o) i [] e = refl
number_off k n zero i (None ∷ bs) e =
    let is : n ≡ k = omega (arith, e) in
    subst (λ j. links_from (suc k) bs ≡ without_field (object_id j) i (links_from (suc k) bs)) (sym is) (sym (all_kept k i (links_from (suc k) bs) (none_of k i (links_from (suc k) bs) (from_sinks (suc k) bs k (omega arith)))))
number_off k n zero i (Some b ∷ bs) e =
    let is : n ≡ k = omega (arith, e) in
    let more : without_field (object_id k) i (links_from (suc k) bs) ≡ links_from (suc k) bs = all_kept k i (links_from (suc k) bs) (none_of k i (links_from (suc k) bs) (from_sinks (suc k) bs k (omega arith))) in
    subst (λ j. links_in k (record b { set_numbers = renumbered i None b.set_numbers }) (renumbered i None b.set_numbers) ++ links_from (suc k) bs ≡ without_field (object_id j) i (own_links k b ++ links_from (suc k) bs)) (sym is)
    (ap (λ ls. ls ++ links_from (suc k) bs) (same_fields k b (renumbered i None b.set_numbers) ∙ off_links k i b b.set_numbers) ∙ ap (λ ls. without_field (object_id k) i (own_links k b) ++ ls) (sym more)
    ∙ sym (without_append k i (own_links k b) (links_from (suc k) bs)))
  where
    same_fields : (j : ℕ) (c : Object) (es : List (ℕ × Option ℕ)) → links_in j (record c { set_numbers = renumbered i None c.set_numbers }) es ≡ links_in j c es
    same_fields j c [] = refl
    same_fields j c ((x, None) ∷ es) = same_fields j c es
    same_fields j c ((x, Some y) ∷ es) = ap (λ ls. record { source = source_of (slice_index_or c.fields x empty); sink = object_id j; field = x; number = y } ∷ ls) (same_fields j c es)
number_off k n (suc o) i (None ∷ bs) e = number_off (suc k) n o i bs (omega (arith, e))
number_off k n (suc o) i (Some c ∷ bs) e =
    let apart : k ≡ n → ⊥ = λ f. absurd (omega (arith, e, f)) in
    ap (λ ls. own_links k c ++ ls) (number_off (suc k) n o i bs (omega (arith, e)))
    ∙ ap (λ ls. ls ++ without_field (object_id n) i (links_from (suc k) bs)) (sym (all_kept n i (own_links k c) (others_of n k i c c.set_numbers apart)))
    ∙ sym (without_append n i (own_links k c) (links_from (suc k) bs))
