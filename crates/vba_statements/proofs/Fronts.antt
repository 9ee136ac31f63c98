-- What tokens begin with.
use Rattle.std.proofs.Common.{◌≡◌, ◌≤◌, List, [], ◌∷◌, length, get_or, drop, sym, ap, arith}
use Rattle.vba_words.specs.declared.reading.ReadToken.{ReadToken}

-- tokens begin with their first
pub begins_with : (ts : List ReadToken) (t : ReadToken) → 1 ≤ length ts → t ≡ get_or ts 0 t → ts ≡ t ∷ drop 1 ts
begins_with [] t some first = absurd (omega arith)
begins_with (u ∷ ts) t some first = ap (λ v. v ∷ ts) (sym first)
