-- Who takes an error: the table of a frame's policy and its active handler.
use Rattle.std.specs.Prelude.{Option, Some, None}
use Rattle.error_frames.specs.declared.frame.At.{At}
use Rattle.error_frames.specs.declared.frame.Policy.{Policy}
use Rattle.error_frames.specs.declared.frame.Policy.TheVariants as policy
use Rattle.error_frames.specs.declared.frame.Taken.{Taken}
use Rattle.error_frames.specs.declared.frame.Taken.TheVariants as taken
use Rattle.error_frames.specs.declared.frame.FrameErrors.{FrameErrors}

-- who takes an error, by the policy, the active handler and the statement after the one that failed
abbrev pub decision : Policy → Option At → At → Taken
decision policy.Default None next = taken.PassOn
decision policy.Default (Some handler) next = taken.PassOn
decision (policy.Handler label) None next = taken.Handler label
decision (policy.Handler label) (Some handler) next = taken.PassOn
decision policy.ResumeNext None next = taken.Next next
decision policy.ResumeNext (Some handler) next = taken.PassOn

-- a frame that was just entered
abbrev pub entered : FrameErrors
entered = record { policy = policy.Default; active = None; failed = None }

-- the frame after an error of this statement was taken so: only a handler changes it
abbrev pub after_take : FrameErrors → At → Taken → FrameErrors
after_take frame failed (taken.Next next) = frame
after_take frame failed (taken.Handler label) = record frame { active = Some label; failed = Some failed }
after_take frame failed taken.PassOn = frame
