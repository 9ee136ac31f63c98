-- What parts do to what is sought, by the depth, and whatever Exits stand in them.
use Rattle.std.proofs.Common.{◌≡◌, ℕ, Bool, List, [], ◌∷◌, refl, ap}
use Rattle.vba_module.specs.Blocks.{Role, opens, divides, closes, stands}
use Rattle.vba_module.specs.Parts.{Part}
use Rattle.module_parts.specs.Brackets.{IsRole}
use Rattle.module_parts.specs.declared.bracket.Bracket.{Bracket}
use Rattle.module_parts.specs.declared.bracket.Bracket.TheVariants as bracket
use Rattle.binder.specs.Numbering.{Sought, here, an_arm, behind_block, behind_kind, Step, step, Opened, awaited, opened_behind}
use Rattle.statement_numbers.specs.Behind.{awaited_after}
use Rattle.statement_numbers.specs.View.{role_view}

-- Exits in a part change nothing
stands_alike : (what : Sought) (around : List Bool) (role : Role) (k : ℕ) → IsRole bracket.Stands role → step what around role k ≡ step what around (stands []) k
stands_alike here around (stands exits) k is = refl
stands_alike (an_arm d) around (stands exits) k is = refl
stands_alike (behind_block d) around (stands exits) k is = refl
stands_alike (behind_kind wanted d) around (stands exits) k is = refl
stands_alike what around (opens kind) k is = absurd is
stands_alike what around (divides kind is_last) k is = absurd is
stands_alike what around (closes kind) k is = absurd is

pub same_step : (what : Sought) (around : List Bool) (b : Bracket) (role : Role) (k : ℕ) → IsRole b role → step what around role k ≡ step what around (role_view b) k
same_step what around (bracket.Opens kind) role k is = ap (λ r. step what around r k) is
same_step what around (bracket.Divides kind is_last) role k is = ap (λ r. step what around r k) is
same_step what around (bracket.Closes kind) role k is = ap (λ r. step what around r k) is
same_step what around bracket.Stands role k is = stands_alike what around role k is

-- Exits in a part open nothing
pub same_opened : (part : Part) (b : Bracket) (role : Role) (n : ℕ) (rest : List Part) (around : List Opened)
    → IsRole b role → opened_behind part role n rest around ≡ opened_behind part (role_view b) n rest around
same_opened part (bracket.Opens kind) role n rest around is = ap (λ r. opened_behind part r n rest around) is
same_opened part (bracket.Divides kind is_last) role n rest around is = ap (λ r. opened_behind part r n rest around) is
same_opened part (bracket.Closes kind) role n rest around is = ap (λ r. opened_behind part r n rest around) is
same_opened part bracket.Stands (stands exits) n rest around is = refl
same_opened part bracket.Stands (opens kind) n rest around is = absurd is
same_opened part bracket.Stands (divides kind is_last) n rest around is = absurd is
same_opened part bracket.Stands (closes kind) n rest around is = absurd is

-- the first arms that are awaited behind a part
pub awaited-opened_behind : (part : Part) (role : Role) (n : ℕ) (rest : List Part) (around : List Opened)
    → awaited (opened_behind part role n rest around) ≡ awaited_after role (awaited around)
awaited-opened_behind part (opens kind) n rest around = refl
awaited-opened_behind part (closes kind) n rest [] = refl
awaited-opened_behind part (closes kind) n rest (o ∷ around) = refl
awaited-opened_behind part (divides kind is_last) n rest [] = refl
awaited-opened_behind part (divides kind is_last) n rest (o ∷ around) = refl
awaited-opened_behind part (stands exits) n rest around = refl
