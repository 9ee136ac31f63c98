-- Sequences of calls of a frame, and what they leave.
use Rattle.std.specs.Prelude.{List, [], ◌∷◌}
use Rattle.error_frames.specs.declared.frame.At.{At}
use Rattle.error_frames.specs.declared.frame.FrameErrors.{FrameErrors}
use Rattle.error_frames.specs.declared.frame.Policy.{Policy}
use Rattle.error_frames.specs.declared.frame.ResumeKind.{ResumeKind}
use Rattle.error_frames.specs.Decision.{decision, after_take}
use Rattle.error_frames.specs.Resume.{ended, after_resume}

-- a call of a frame, with what it is given
pub data Call : Type 0 where
  Set : Policy → Call
  EndHandler : Call
  Take : At → At → Call
  Resume : ResumeKind → At → Call

-- the frame after a call
abbrev pub after_call : FrameErrors → Call → FrameErrors
after_call frame (Set policy) = record frame { policy = policy }
after_call frame EndHandler = ended frame
after_call frame (Take failed next) = after_take frame failed (decision frame.policy frame.active next)
after_call frame (Resume kind next) = after_resume frame

-- the frame after the calls, one after the other
abbrev pub after_calls : FrameErrors → List Call → FrameErrors
after_calls frame [] = frame
after_calls frame (call ∷ calls) = after_calls (after_call frame call) calls

-- the call leaves an active handler active: it sets the policy or takes an error
abbrev pub KeepsHandler : Call → Type 0
KeepsHandler (Set policy) = Unit {0}
KeepsHandler EndHandler = ⊥
KeepsHandler (Take failed next) = Unit {0}
KeepsHandler (Resume kind next) = ⊥

-- the call ends an active handler
abbrev pub EndsHandler : Call → Type 0
EndsHandler (Set policy) = ⊥
EndsHandler EndHandler = Unit {0}
EndsHandler (Take failed next) = ⊥
EndsHandler (Resume kind next) = Unit {0}

-- the call leaves the policy
abbrev pub KeepsPolicy : Call → Type 0
KeepsPolicy (Set policy) = ⊥
KeepsPolicy EndHandler = Unit {0}
KeepsPolicy (Take failed next) = Unit {0}
KeepsPolicy (Resume kind next) = Unit {0}

-- each call of the list is so
abbrev pub Each : (Call → Type 0) → List Call → Type 0
Each P [] = Unit {0}
Each P (call ∷ calls) = P call × Each P calls
