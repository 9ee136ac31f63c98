-- Whether a link stands is told by its object.
use Rattle.std.proofs.Common.{◌≡◌, ℕ, zero, suc, ◌+◌, Bool, true, false, List, [], ◌∷◌, refl, sym, ap, ◌∙◌, arith}
use Rattle.std.specs.Prelude.{◌&&◌, ◌||◌, nat_eq, Option, Some, None, slice_index_or}
use Rattle.std.specs.List.{list_any}
use Rattle.std.proofs.lemmas.Bool.{eqb-true, eq-eqb, ne_eqb}
use Rattle.vba_values.specs.Objects.{same_object}
use Rattle.vba_events.specs.declared.linked.Linked.{Linked}
use Rattle.vba_events.specs.Links.{same_link, stands}
use Rattle.vba_events.proofs.Order.{any_order}
use Rattle.vba_meaning.specs.Memory.{Memory, Object}
use Rattle.vba_meaning.specs.Events.{links, links_in, links_from}
use Rattle.run_events.specs.Sought.{has_number, is_numbered, source_in, stands_in}
use Rattle.run_events.proofs.Ordered.{any_append}

and_no : (b : Bool) → (b && false) ≡ false
and_no true = refl
and_no false = refl

-- one entry of the link's own object
entry_is : (l : Linked) (o : ℕ) (b : Object) (i n : ℕ) → l.sink.0 ≡ o
    → (same_object l.source (source_in b i) && ((nat_eq l.sink.0 o && nat_eq l.field i) && nat_eq l.number n)) ≡ (same_object l.source (source_in b l.field) && (nat_eq l.field i && nat_eq l.number n))
entry_is l o b i n e = by_field (nat_eq l.field i) refl where
  own : nat_eq l.sink.0 o ≡ true
  own = eq-eqb l.sink.0 o e

  by_field : (t : Bool) → nat_eq l.field i ≡ t
      → (same_object l.source (source_in b i) && ((nat_eq l.sink.0 o && nat_eq l.field i) && nat_eq l.number n)) ≡ (same_object l.source (source_in b l.field) && (nat_eq l.field i && nat_eq l.number n))
  by_field true f =
      ap (λ t. same_object l.source (source_in b i) && ((t && nat_eq l.field i) && nat_eq l.number n)) own
      ∙ ap (λ j. same_object l.source (source_in b j) && (nat_eq l.field i && nat_eq l.number n)) (sym (eqb-true l.field i f))
  by_field false f =
      ap (λ t. same_object l.source (source_in b i) && ((nat_eq l.sink.0 o && t) && nat_eq l.number n)) f
      ∙ ap (λ t. same_object l.source (source_in b i) && (t && nat_eq l.number n)) (and_no (nat_eq l.sink.0 o))
      ∙ and_no (same_object l.source (source_in b i))
      ∙ sym (ap (λ t. same_object l.source (source_in b l.field) && (t && nat_eq l.number n)) f ∙ and_no (same_object l.source (source_in b l.field)))

and_or : (a b c : Bool) → ((a && b) || (a && c)) ≡ (a && (b || c))
and_or true b c = refl
and_or false b c = refl

-- all of them
own_are : (l : Linked) (o : ℕ) (b : Object) (es : List (ℕ × Option ℕ)) → l.sink.0 ≡ o → list_any (same_link l) (links_in o b es) ≡ (same_object l.source (source_in b l.field) && has_number l.field l.number es)
own_are l o b [] e = sym (and_no (same_object l.source (source_in b l.field)))
own_are l o b ((i, None) ∷ es) e = own_are l o b es e
own_are l o b ((i, Some n) ∷ es) e =
    ap (λ t. t || list_any (same_link l) (links_in o b es)) (entry_is l o b i n e)
    ∙ ap (λ t. (same_object l.source (source_in b l.field) && is_numbered l.field l.number (i, Some n)) || t) (own_are l o b es e)
    ∙ and_or (same_object l.source (source_in b l.field)) (is_numbered l.field l.number (i, Some n)) (has_number l.field l.number es)

-- another object has none
others_are : (l : Linked) (o : ℕ) (b : Object) (es : List (ℕ × Option ℕ)) → (l.sink.0 ≡ o → ⊥) → list_any (same_link l) (links_in o b es) ≡ false
others_are l o b [] h = refl
others_are l o b ((i, None) ∷ es) h = others_are l o b es h
others_are l o b ((i, Some n) ∷ es) h =
    ap (λ t. (same_object l.source (source_in b i) && ((t && nat_eq l.field i) && nat_eq l.number n)) || list_any (same_link l) (links_in o b es)) (ne_eqb l.sink.0 o h)
    ∙ ap (λ t. t || list_any (same_link l) (links_in o b es)) (and_no (same_object l.source (source_in b i)))
    ∙ others_are l o b es h

behind_are : (l : Linked) (n : ℕ) (bs : List (Option Object)) → ((k : ℕ) → l.sink.0 ≡ n + k → ⊥) → list_any (same_link l) (links_from n bs) ≡ false
behind_are l n [] h = refl
behind_are l n (None ∷ bs) h = behind_are l (suc n) bs (λ k e. h (suc k) (omega (arith, e)))
behind_are l n (Some b ∷ bs) h =
    any_append (same_link l) (links_in n b b.set_numbers) (links_from (suc n) bs)
    ∙ ap (λ t. t || list_any (same_link l) (links_from (suc n) bs)) (others_are l n b b.set_numbers (λ e. h 0 (omega (arith, e))))
    ∙ behind_are l (suc n) bs (λ k e. h (suc k) (omega (arith, e)))

-- the object with the link's number among those from a number on
from_are : (l : Linked) (n i : ℕ) (bs : List (Option Object)) → l.sink.0 ≡ n + i → list_any (same_link l) (links_from n bs) ≡ stands_in l (slice_index_or bs i None)
from_are l n i [] e = refl
from_are l n zero (None ∷ bs) e = behind_are l (suc n) bs (λ k f. absurd (omega (arith, e, f)))
from_are l n zero (Some b ∷ bs) e =
    any_append (same_link l) (links_in n b b.set_numbers) (links_from (suc n) bs)
    ∙ ap (λ t. t || list_any (same_link l) (links_from (suc n) bs)) (own_are l n b b.set_numbers (omega (arith, e)))
    ∙ ap (λ t. stands_in l (Some b) || t) (behind_are l (suc n) bs (λ k f. absurd (omega (arith, e, f))))
    ∙ or_no (stands_in l (Some b))
  where
    or_no : (b : Bool) → (b || false) ≡ b
    or_no true = refl
    or_no false = refl
from_are l n (suc i) (None ∷ bs) e = from_are l (suc n) i bs (omega (arith, e))
from_are l n (suc i) (Some b ∷ bs) e =
    any_append (same_link l) (links_in n b b.set_numbers) (links_from (suc n) bs)
    ∙ ap (λ t. t || list_any (same_link l) (links_from (suc n) bs)) (others_are l n b b.set_numbers (λ f. absurd (omega (arith, e, f))))
    ∙ from_are l (suc n) i bs (omega (arith, e))

pub stands_there : (l : Linked) (m : Memory) → stands l (links m) ≡ stands_in l (slice_index_or m.objects l.sink.0 None)
stands_there l m = any_order (same_link l) (links_from 0 m.objects) ∙ from_are l 0 l.sink.0 m.objects (omega arith)
