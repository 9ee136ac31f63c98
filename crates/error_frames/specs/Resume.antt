-- Where Resume goes on, and what it leaves.
use Rattle.std.specs.Prelude.{Option, Some, None, IsSome, unwrap_or, Result, Ok, Err}
use Rattle.vba_values.specs.declared.fault.Bad.{Bad}
use Rattle.vba_values.specs.declared.fault.Bad.TheVariants.{Raise}
use Rattle.error_frames.specs.declared.frame.At.{At}
use Rattle.error_frames.specs.declared.frame.FrameErrors.{FrameErrors}
use Rattle.error_frames.specs.declared.frame.ResumeKind.{ResumeKind}
use Rattle.error_frames.specs.declared.frame.ResumeKind.TheVariants as kind

-- Resume without error
abbrev pub resume_without_error : Bad
resume_without_error = Raise 20

-- where an active handler stands, the statement that failed is kept
abbrev pub IsKept : FrameErrors → Type 0
IsKept frame = IsSome frame.active → IsSome frame.failed

-- the frame after its handler ended
abbrev pub ended : FrameErrors → FrameErrors
ended frame = record frame { active = None; failed = None }

-- where the run goes on: at the statement that failed, after it, or at the label
abbrev pub target : ResumeKind → At → At → At
target kind.Again failed next = failed
target kind.Next failed next = next
target (kind.Label label) failed next = label

-- what Resume answers, by the active handler and the kept statement; the statement is there where a handler is active
abbrev pub answer : Option At → Option At → ResumeKind → At → Result At Bad
answer None failed kind next = Err resume_without_error
answer (Some handler) failed kind next = Ok (target kind (unwrap_or failed next) next)

-- the frame that Resume leaves: without an active handler nothing changes
abbrev pub after_resume_by : Option At → FrameErrors → FrameErrors
after_resume_by None frame = frame
after_resume_by (Some handler) frame = ended frame

-- the frame that Resume leaves
abbrev pub after_resume : FrameErrors → FrameErrors
after_resume frame = after_resume_by frame.active frame
