-- What stays rising.
use Rattle.std.proofs.Common.{ℕ, ◌+◌, ◌≤◌, Bool, true, false, cond, List, [], ◌∷◌, ◌++◌, arith}
use Rattle.std.specs.List.{filter}
use Rattle.vba_events.specs.declared.linked.Linked.{Linked}
use Rattle.vba_events.specs.Rising.{RiseFrom}

lower : (m n next : ℕ) (links : List Linked) → m ≤ n → RiseFrom n next links → RiseFrom m next links
lower m n next [] le h = omega (arith, le, h)
lower m n next (l ∷ ls) le h = (omega (arith, le, h.0), h.1)

pub rise_filter : (p : Linked → Bool) (low next : ℕ) (links : List Linked) → RiseFrom low next links → RiseFrom low next (filter p links)
rise_filter p low next [] h = h
rise_filter p low next (l ∷ ls) h = by_test (p l) (rise_filter p (l.number + 1) next ls h.1) where
  by_test : (b : Bool) → RiseFrom (l.number + 1) next (filter p ls) → RiseFrom low next (cond b (l ∷ filter p ls) (filter p ls))
  by_test true r = (h.0, r)
  by_test false r = lower low (l.number + 1) next (filter p ls) (omega (arith, h.0)) r

pub rise_more : (low : ℕ) (x : Linked) (links : List Linked) → RiseFrom low x.number links → RiseFrom low (x.number + 1) (links ++ x ∷ [])
rise_more low x [] h = (h, omega arith)
rise_more low x (l ∷ ls) h = (h.0, rise_more (l.number + 1) x ls h.1)
