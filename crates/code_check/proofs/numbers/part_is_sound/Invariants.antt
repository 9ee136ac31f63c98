use Rattle.std.proofs.Common.{ℕ, ◌<◌, ◌≤◌}
use Rattle.pcode.specs.View.{code_view}
use Rattle.code_check.specs.Questions.{SoundAt}
use Rattle.code_check.proofs.numbers.part_is_sound.Given as goal

abbrev pub invariant-loop-address : goal.invariant-loop-address
invariant-loop-address l = (pc : ℕ) → l.initial.address ≤ pc → pc < l.address → SoundAt (code_view l.code) l.procedure pc
