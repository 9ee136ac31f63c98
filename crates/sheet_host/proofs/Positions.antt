-- Positions by rows and columns, and the pages that have them.
use Rattle.std.proofs.Common.{◌≡◌, ℕ, ◌<◌, true, T, refl, sym, ap, subst, arith}
use Rattle.std.specs.Ordering.{is_eq, ordering_then, nat_cmp}
use Rattle.std.specs.Cmp.{IsTotalOrder, then_total, on_total, nat_cmp_total, nat_cmp_is, ranked, tied_itself}
use Rattle.std.specs.BTreeMap.{is_at}
use Rattle.std.specs.FinMap.{IsAntisymmetric}
use Rattle.std.specs.declared.cmp.Ordering.{Ordering}
use Rattle.std.specs.declared.cmp.Ordering.TheVariants.{Less, Equal, Greater}
use Rattle.std.proofs.lemmas.Map.Lookups.{exact_pairs, exact_unsigned}
use Rattle.sheet_host.specs.Pages.{page_of}
use Rattle.sheet_host.specs.Sheets.{Position, position_cmp}

pub position_total : IsTotalOrder position_cmp
position_total = then_total (on_total (λ p. p.0) nat_cmp_total) (on_total (λ p. p.1) nat_cmp_total)

-- positions that compare as equal are the same
pub same_position : IsAntisymmetric position_cmp
same_position = exact_pairs nat_cmp nat_cmp exact_unsigned exact_unsigned

tied : (o : Ordering) → is_eq o ≡ true → o ≡ Equal
tied Less e = absurd (subst T (sym e) tt)
tied Equal e = refl
tied Greater e = absurd (subst T (sym e) tt)

pub at_same : (p q : Position) → is_at (position_cmp p) q ≡ true → p ≡ q
at_same p q e = same_position p q (tied (position_cmp p q) e)

pub at_number : (m n : ℕ) → is_at (nat_cmp m) n ≡ true → m ≡ n
at_number m n e = ranked m n Equal (sym (tied (nat_cmp m n) e))

pub number_less : (m n : ℕ) → nat_cmp m n ≡ Less → m < n
number_less m n e = ranked m n Less (sym e)

-- an earlier row comes first
pub row_less : (p q : Position) → p.0 < q.0 → position_cmp p q ≡ Less
row_less p q e = ap (λ o. ordering_then o (nat_cmp p.1 q.1)) (sym (nat_cmp_is p.0 q.0 Less e))

-- and so does an earlier page
pub page_less : (p q : Position) → page_of p.0 < page_of q.0 → position_cmp p q ≡ Less
page_less p q e = row_less p q (omega arith)

pub number_at : (m n : ℕ) → m ≡ n → is_at (nat_cmp m) n ≡ true
number_at m n e = ap is_eq (sym (nat_cmp_is m n Equal e))

pub position_at : (p : Position) → is_at (position_cmp p) p ≡ true
position_at p = ap is_eq (tied_itself position_total p)

pub number_equal : (m n : ℕ) → nat_cmp m n ≡ Equal → m ≡ n
number_equal m n e = ranked m n Equal (sym e)
