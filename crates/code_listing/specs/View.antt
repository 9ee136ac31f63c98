-- Serves the code: a line as the code holds it, and the kind of an instruction as the code holds it.
use Rattle.std.specs.Prelude.{ℕ}
use Rattle.bound_project.specs.Pieces.{Tables}
use Rattle.pcode.specs.View.{instr_view}
use Rattle.pcode.specs.declared.instr.Instr.{Instr}
use Rattle.code_listing.specs.declared.lines.Line as own
use Rattle.code_listing.specs.Listing.{Line, listed}

abbrev pub line_view : own.Line → Line
line_view l = record { op = l.op; first = l.first; second = l.second }

-- the number of the kind
abbrev pub kind_of : Tables → Instr → ℕ
kind_of t i = (listed (instr_view t i)).op
