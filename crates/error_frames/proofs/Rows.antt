-- The tables, checked on calls that are written out.
use Rattle.std.specs.Prelude.{◌≡◌, [], ◌∷◌, Some, None, Ok, Err, refl}
use Rattle.error_frames.specs.declared.frame.At.{At}
use Rattle.error_frames.specs.declared.frame.Policy.TheVariants as policy
use Rattle.error_frames.specs.declared.frame.ResumeKind.TheVariants as kind
use Rattle.error_frames.specs.Calls.{Set, EndHandler, Take, Resume, after_calls}
use Rattle.error_frames.specs.Decision.{entered}
use Rattle.error_frames.specs.Resume.{answer, resume_without_error}

abbrev label : At
label = record { 0 = 90 }

abbrev first : At
first = record { 0 = 1 }

abbrev second : At
second = record { 0 = 2 }

abbrev third : At
third = record { 0 = 3 }

-- a handler takes the first error; the second one changes nothing, and neither does On Error but for the policy
handler_taken : after_calls entered (Take first second ∷ Set (policy.Handler label) ∷ Take first second ∷ Take second third ∷ Set policy.ResumeNext ∷ [])
    ≡ record { policy = policy.ResumeNext; active = Some label; failed = Some first }
handler_taken = refl

-- Resume ends the handler; then Resume Next takes errors and keeps none
handler_ended : after_calls entered (Set (policy.Handler label) ∷ Take first second ∷ Resume kind.Next second ∷ Set policy.ResumeNext ∷ Take second third ∷ [])
    ≡ record { policy = policy.ResumeNext; active = None; failed = None }
handler_ended = refl

-- Resume, Resume Next and Resume label of an error of the first statement, and Resume without a handler
resumed_again : answer (Some label) (Some first) kind.Again second ≡ Ok first
resumed_again = refl

resumed_next : answer (Some label) (Some first) kind.Next second ≡ Ok second
resumed_next = refl

resumed_at_label : answer (Some label) (Some first) (kind.Label third) second ≡ Ok third
resumed_at_label = refl

not_resumed : answer None None kind.Again second ≡ Err resume_without_error
not_resumed = refl

-- On Error GoTo -1 lets the handler take again
taken_again : after_calls entered (Set (policy.Handler label) ∷ Take first second ∷ EndHandler ∷ Take third first ∷ [])
    ≡ record { policy = policy.Handler label; active = Some label; failed = Some third }
taken_again = refl
