-- What stays over many calls of a frame.
use Rattle.std.proofs.Common.{◌≡◌, List, [], ◌∷◌, Option, Some, None, refl, ap, ◌∙◌}
use Rattle.error_frames.specs.declared.frame.At.{At}
use Rattle.error_frames.specs.declared.frame.FrameErrors.{FrameErrors}
use Rattle.error_frames.specs.declared.frame.Policy.{Policy}
use Rattle.error_frames.specs.declared.frame.Policy.TheVariants as policy
use Rattle.error_frames.specs.declared.frame.Taken.TheVariants as taken
use Rattle.error_frames.specs.Calls.{Call, Set, EndHandler, Take, Resume, after_call, after_calls, Each, KeepsHandler, KeepsPolicy}
use Rattle.error_frames.specs.Decision.{decision, after_take}
use Rattle.error_frames.specs.Resume.{after_resume_by}

-- with an active handler every policy passes on
active_passes : (policy : Policy) (handler next : At) → decision policy (Some handler) next ≡ taken.PassOn
active_passes policy.Default handler next = refl
active_passes (policy.Handler label) handler next = refl
active_passes policy.ResumeNext handler next = refl

-- at Default every error is passed on
default_passes : (active : Option At) (next : At) → decision policy.Default active next ≡ taken.PassOn
default_passes None next = refl
default_passes (Some handler) next = refl

-- a handler stays active
active_stays : (frame : FrameErrors) (handler : At) (calls : List Call) → frame.active ≡ Some handler → Each KeepsHandler calls → (after_calls frame calls).active ≡ Some handler
active_stays frame handler [] is keep = is
active_stays frame handler (Set policy ∷ calls) is keep = active_stays (after_call frame (Set policy)) handler calls is keep.1
active_stays frame handler (EndHandler ∷ calls) is keep = absurd keep.0
active_stays frame handler (Resume kind next ∷ calls) is keep = absurd keep.0
active_stays frame handler (Take failed next ∷ calls) is keep =
    let same : after_call frame (Take failed next) ≡ frame =
    ap (λ active. after_take frame failed (decision frame.policy active next)) is ∙ ap (λ answer. after_take frame failed answer) (active_passes frame.policy handler next) in
    active_stays (after_call frame (Take failed next)) handler calls (ap (λ later. later.active) same ∙ is) keep.1

-- a frame with an active handler passes on after the calls
pub handler_passes_on : (frame : FrameErrors) (handler : At) (calls : List Call) (next : At) → frame.active ≡ Some handler → Each KeepsHandler calls
    → decision (after_calls frame calls).policy (after_calls frame calls).active next ≡ taken.PassOn
handler_passes_on frame handler calls next is keep =
    let later = after_calls frame calls in
    ap (λ active. decision later.policy active next) (active_stays frame handler calls is keep) ∙ active_passes later.policy handler next

-- Resume leaves the policy
resume_policy : (active : Option At) (frame : FrameErrors) → (after_resume_by active frame).policy ≡ frame.policy
resume_policy None frame = refl
resume_policy (Some handler) frame = refl

-- the policy stays Default
default_stays : (frame : FrameErrors) (calls : List Call) → frame.policy ≡ policy.Default → Each KeepsPolicy calls → (after_calls frame calls).policy ≡ policy.Default
default_stays frame [] is keep = is
default_stays frame (Set policy ∷ calls) is keep = absurd keep.0
default_stays frame (EndHandler ∷ calls) is keep = default_stays (after_call frame EndHandler) calls is keep.1
default_stays frame (Resume kind next ∷ calls) is keep =
    default_stays (after_call frame (Resume kind next)) calls (resume_policy frame.active frame ∙ is) keep.1
default_stays frame (Take failed next ∷ calls) is keep =
    let same : after_call frame (Take failed next) ≡ frame =
    ap (λ policy. after_take frame failed (decision policy frame.active next)) is ∙ ap (λ answer. after_take frame failed answer) (default_passes frame.active next) in
    default_stays (after_call frame (Take failed next)) calls (ap (λ later. later.policy) same ∙ is) keep.1

-- a frame at Default passes on after the calls
pub default_passes_on : (frame : FrameErrors) (calls : List Call) (next : At) → frame.policy ≡ policy.Default → Each KeepsPolicy calls
    → decision (after_calls frame calls).policy (after_calls frame calls).active next ≡ taken.PassOn
default_passes_on frame calls next is keep =
    let later = after_calls frame calls in
    ap (λ policy. decision policy later.active next) (default_stays frame calls is keep) ∙ default_passes later.active next
