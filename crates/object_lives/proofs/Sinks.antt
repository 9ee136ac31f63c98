-- The object of a link that still stands is there.
use Rattle.std.proofs.Common.{◌≡◌, ℕ, suc, ◌+◌, Bool, true, false, List, [], ◌∷◌, ◌++◌, Option, Some, None, refl, sym, subst, arith}
use Rattle.std.specs.Prelude.{◌||◌, ◌&&◌, cond, nat_eq, nat_lt, if◌then◌else◌}
use Rattle.std.proofs.lemmas.Bool.{eqb-true}
use Rattle.vba_events.specs.declared.linked.Linked.{Linked}
use Rattle.vba_events.specs.Links.{is_of_field, same_link, stands}
use Rattle.vba_events.specs.Order.{insert_link, in_order}
use Rattle.vba_values.specs.Objects.{same_object}
use Rattle.bound_project.specs.Project.{Declarations, class_at}
use Rattle.vba_meaning.specs.Memory.{Memory, Object, object_at}
use Rattle.vba_meaning.specs.Events.{link_of, links_in, links_from, links, handler_in, due}
use Rattle.object_lives.proofs.Near.{Present}

first_true : (x y : Bool) → (x && y) ≡ true → x ≡ true
first_true true y e = refl
first_true false y e = absurd cc

second_true : (x y : Bool) → (x && y) ≡ true → y ≡ true
second_true true y e = e
second_true false y e = absurd cc

-- the objects of links are so
abbrev AllSinks : (ℕ → Type 0) → List Linked → Type 0
AllSinks P [] = Unit {0}
AllSinks P (l ∷ ls) = P l.sink.0 × AllSinks P ls

append_sinks : (P : ℕ → Type 0) (xs ys : List Linked) → AllSinks P xs → AllSinks P ys → AllSinks P (xs ++ ys)
append_sinks P [] ys h k = k
append_sinks P (x ∷ xs) ys h k = (h.0, append_sinks P xs ys h.1 k)

insert_sinks : (P : ℕ → Type 0) (l : Linked) (ls : List Linked) → P l.sink.0 → AllSinks P ls → AllSinks P (insert_link l ls)
insert_sinks P l [] h k = (h, tt)
insert_sinks P l (first ∷ rest) h k = by_test (nat_lt l.number first.number) (insert_sinks P l rest h k.1) where
  by_test : (b : Bool) → AllSinks P (insert_link l rest) → AllSinks P (cond b (l ∷ first ∷ rest) (first ∷ insert_link l rest))
  by_test true more = (h, k)
  by_test false more = (k.0, more)

order_sinks : (P : ℕ → Type 0) (ls : List Linked) → AllSinks P ls → AllSinks P (in_order ls)
order_sinks P [] h = tt
order_sinks P (l ∷ ls) h = insert_sinks P l (in_order ls) h.0 (order_sinks P ls h.1)

link_sinks : (P : ℕ → Type 0) (o : ℕ) (b : Object) (i : ℕ) (n : Option ℕ) → P o → AllSinks P (link_of o b i n)
link_sinks P o b i None h = tt
link_sinks P o b i (Some n) h = (h, tt)

object_sinks : (P : ℕ → Type 0) (o : ℕ) (b : Object) (es : List (ℕ × Option ℕ)) → P o → AllSinks P (links_in o b es)
object_sinks P o b [] h = tt
object_sinks P o b (e ∷ es) h = append_sinks P (link_of o b e.0 e.1) (links_in o b es) (link_sinks P o b e.0 e.1 h) (object_sinks P o b es h)

-- a number from one on is that of an object that is there
memory_sinks : (P : ℕ → Type 0) (o : ℕ) (bs : List (Option Object)) → ((i : ℕ) → Present bs i → P (o + i)) → AllSinks P (links_from o bs)
memory_sinks P o [] h = tt
memory_sinks P o (None ∷ bs) h = memory_sinks P (suc o) bs (λ i p. subst P (omega arith) (h (suc i) p))
memory_sinks P o (Some b ∷ bs) h =
    append_sinks P (links_in o b b.set_numbers) (links_from (suc o) bs) (object_sinks P o b b.set_numbers (subst P (omega arith) (h 0 tt)))
    (memory_sinks P (suc o) bs (λ i p. subst P (omega arith) (h (suc i) p)))

stands_sink : (P : ℕ → Type 0) (l : Linked) (ls : List Linked) → AllSinks P ls → stands l ls ≡ true → P l.sink.0
stands_sink P l [] h e = absurd cc
stands_sink P l (k ∷ ls) h e = by_test (same_link l k) refl e (λ y. stands_sink P l ls h.1 y) where
  by_test : (b : Bool) → same_link l k ≡ b → (b || stands l ls) ≡ true → (stands l ls ≡ true → P l.sink.0) → P l.sink.0
  by_test true x y more =
      let of_field : is_of_field l.sink l.field k ≡ true = first_true (is_of_field l.sink l.field k) (nat_eq l.number k.number) (second_true (same_object l.source k.source) _ x) in
      let same : l.sink.0 ≡ k.sink.0 = eqb-true l.sink.0 k.sink.0 (first_true (nat_eq l.sink.0 k.sink.0) (nat_eq l.field k.field) of_field) in
      subst P (sym same) h.0
  by_test false x y more = more y

-- whose handler is called
pub due_there : (d : Declarations) (e : ℕ) (l : Linked) (m : Memory) (p : ℕ) → due d e l m ≡ Some p → Present m.objects l.sink.0
due_there d e l m p h = by_test (stands l (links m)) refl h where
  by_test : (b : Bool) → stands l (links m) ≡ b → (if b then handler_in (class_at d (object_at m l.sink.0).class).handlers l.field e else None) ≡ Some p → Present m.objects l.sink.0
  by_test true x y = stands_sink (Present m.objects) l (links m) (order_sinks (Present m.objects) (links_from 0 m.objects) (memory_sinks (Present m.objects) 0 m.objects (λ i q. subst (Present m.objects) (omega arith) q))) x
  by_test false x y = absurd cc
