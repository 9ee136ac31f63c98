-- The parts of a procedure: those up to its end.
use Rattle.std.proofs.Common.{◌≡◌, ℕ, zero, suc, ◌+◌, ◌<◌, ◌≤◌, Bool, true, false, List, [], ◌∷◌, length, take, drop, get_or, refl, sym, ap, ◌∙◌, arith}
use Rattle.std.proofs.lemmas.List.{drop_more}
use Rattle.vba_tree.specs.Tree.{procedure_end}
use Rattle.module_parts.specs.View.{part_view, parts_view}
use Rattle.module_parts.specs.declared.part.Part.{Part}
use Rattle.vba_module.specs.Parts as parts
use Rattle.binder.specs.Declarations.{body_of}
use Rattle.declared_names.specs.Entries.{is_procedure_end}

-- one part more, and the end
body_more : (p : parts.Part) (ps : List parts.Part) → is_procedure_end p ≡ false → body_of (p ∷ ps) ≡ p ∷ body_of ps
body_more (parts.whole_line (procedure_end e)) ps h = let wrong : true ≡ false = h in absurd cc
body_more p ps h = refl

body_stops : (p : parts.Part) (ps : List parts.Part) → is_procedure_end p ≡ true → body_of (p ∷ ps) ≡ []
body_stops (parts.whole_line (procedure_end e)) ps h = refl
body_stops p ps h = let wrong : false ≡ true = h in absurd cc

pub body_goes_on : (all : List Part) (index : ℕ) (part : Part) → index < length all → part ≡ get_or all index part → false ≡ is_procedure_end (part_view part)
    → length (body_of (parts_view (drop index all))) ≡ suc (length (body_of (parts_view (drop (index + 1) all))))
body_goes_on all index part more here h =
    ap (λ ps. length (body_of (parts_view ps))) (drop_more all index part more ∙ ap (λ p. p ∷ drop (index + 1) all) (sym here))
    ∙ ap length (body_more (part_view part) (parts_view (drop (index + 1) all)) (sym h))

pub body_ends : (all : List Part) (index : ℕ) (part : Part) → index < length all → part ≡ get_or all index part → true ≡ is_procedure_end (part_view part)
    → length (body_of (parts_view (drop index all))) ≡ 0
body_ends all index part more here h =
    ap (λ ps. length (body_of (parts_view ps))) (drop_more all index part more ∙ ap (λ p. p ∷ drop (index + 1) all) (sym here))
    ∙ ap length (body_stops (part_view part) (parts_view (drop (index + 1) all)) (sym h))

prefix_at : (b : Bool) (p : Part) (ps : List Part) → is_procedure_end (part_view p) ≡ b
    → parts_view (take (length (body_of (parts_view ps))) ps) ≡ body_of (parts_view ps)
    → parts_view (take (length (body_of (parts_view (p ∷ ps)))) (p ∷ ps)) ≡ body_of (parts_view (p ∷ ps))
prefix_at true p ps h before = rw (body_stops (part_view p) (parts_view ps) h) refl
prefix_at false p ps h before = rw (body_more (part_view p) (parts_view ps) h) (ap (λ qs. part_view p ∷ qs) before)

pub body_is : (all : List Part) → parts_view (take (length (body_of (parts_view all))) all) ≡ body_of (parts_view all)
body_is [] = refl
body_is (p ∷ ps) = prefix_at (is_procedure_end (part_view p)) p ps refl (body_is ps)

fits_at : (b : Bool) (p : Part) (ps : List Part) → is_procedure_end (part_view p) ≡ b
    → length (body_of (parts_view ps)) ≤ length ps
    → length (body_of (parts_view (p ∷ ps))) ≤ length (p ∷ ps)
fits_at true p ps h before = rw (body_stops (part_view p) (parts_view ps) h) (omega arith)
fits_at false p ps h before = rw (body_more (part_view p) (parts_view ps) h) (omega arith)

pub body_fits : (all : List Part) → length (body_of (parts_view all)) ≤ length all
body_fits [] = omega arith
body_fits (p ∷ ps) = fits_at (is_procedure_end (part_view p)) p ps refl (body_fits ps)
