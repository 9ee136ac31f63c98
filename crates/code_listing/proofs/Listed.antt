-- The lines of instructions, one more at a time.
use Rattle.std.proofs.Common.{◌≡◌, ◌∙◌, ℕ, suc, ◌+◌, ◌<◌, List, [], ◌∷◌, ◌++◌, length, take, map, get_or, ap, sym, append_assoc, arith}
use Rattle.std.proofs.lemmas.List.{append-nil, length-map, length-take-le, map-append, take_more}
use Rattle.pcode.specs.declared.instr.Instr.{Instr}
use Rattle.pcode.specs.Instructions as plain
use Rattle.code_listing.specs.Listing.{line_of, lines_from, listed}

-- the lines of instructions and of others behind them
lines-append : (address : ℕ) (a b : List plain.Instr) → lines_from address (a ++ b) ≡ lines_from address a ++ lines_from (address + length a) b
lines-append address [] b = let e : address ≡ address + 0 = omega arith in ap (λ k. lines_from k b) e
lines-append address (i ∷ a) b =
    let e : address + 1 + length a ≡ address + suc (length a) = omega arith in
    ap (λ text. line_of address (listed i) ++ text) (lines-append (address + 1) a b ∙ ap (λ k. lines_from (address + 1) a ++ lines_from k b) e)
    ∙ sym (append_assoc (line_of address (listed i)) (lines_from (address + 1) a) (lines_from (address + suc (length a)) b))

-- the lines up to an instruction, and its own
pub one_more : (f : Instr → plain.Instr) (instrs : List Instr) (address : ℕ) (d : Instr) → address < length instrs
    → lines_from 0 (map f (take address instrs)) ++ line_of address (listed (f (get_or instrs address d))) ≡ lines_from 0 (map f (take (address + 1) instrs))
one_more f instrs address d within =
    let i = f (get_or instrs address d) in
    let size : 0 + length (map f (take address instrs)) ≡ address =
    omega (arith, length-map (take address instrs) f, length-take-le address instrs (omega (arith, within))) in
    ap (λ text. lines_from 0 (map f (take address instrs)) ++ text) (sym (append-nil (line_of address (listed i))))
    ∙ ap (λ k. lines_from 0 (map f (take address instrs)) ++ (line_of k (listed i) ++ [])) (sym size)
    ∙ sym (lines-append 0 (map f (take address instrs)) (i ∷ []))
    ∙ ap (lines_from 0) (sym (map-append f (take address instrs) (get_or instrs address d ∷ [])))
    ∙ ap (λ is. lines_from 0 (map f is)) (sym (take_more instrs address d within))
