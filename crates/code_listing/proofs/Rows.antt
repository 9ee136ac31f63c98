-- The definitions on worked rows.
use Rattle.std.specs.Fmt.{digits}
use Rattle.std.specs.Prelude.{◌≡◌, [], ◌∷◌, codes, pos, negsuc, true, false}
use Rattle.std.proofs.Common.{refl}
use Rattle.vba_values.specs.declared.types.WholeKind.TheVariants.{Integer, Long}
use Rattle.vba_values.specs.Val.{whole, text}
use Rattle.pcode.specs.Instructions.{Begin, Push, Branch, Leave}
use Rattle.code_listing.specs.Listing.{lines_from}

row_lines : lines_from 0 (Leave ∷ Begin 3 ∷ []) ≡ codes "0 64 0 0\n1 0 3 0\n"
unfolding digits
row_lines = refl

-- a constant by its kind and its size, without its sign
row_constants :
    lines_from 9 (Push (whole Integer (pos 300)) ∷ Push (whole Long (negsuc 4)) ∷ Push (text (codes "abc")) ∷ []) ≡ codes "9 1 2 300\n10 1 3 5\n11 1 8 3\n"
unfolding digits
row_constants = refl

-- first where True leads
row_branches : lines_from 5 (Branch true 7 8 ∷ Branch false 7 8 ∷ []) ≡ codes "5 61 7 8\n6 61 8 7\n"
unfolding digits
row_branches = refl
