-- The steps of a command, put together.
use Rattle.std.proofs.Common.{◌≡◌, ℕ, List, sym, subst, ◌∙◌, inl, inr}
use Rattle.std.specs.Prelude.{◌⊎◌, Option}
use Rattle.vba_base.proofs.Causes.{adds_prefix_whole, adds_prefix_none}
use Rattle.vba_base.specs.Causes.{Adds, AddsPrefix}
use Rattle.vba_cli.specs.declared.status.Status.{Status}
use Rattle.vba_cli.specs.declared.status.Status.TheVariants.{Ended, Faulted, Usage, Refused, Stopped, Going, ReadFault, WriteFault, BadList, TooLong, BadBook, NotBuilt, NoMemory}
use Rattle.command_words.specs.Words.{Command}
use Rattle.vba_cli.specs.Answer.{err_of}
use Rattle.vba_cli.specs.Named.{Named}
use Rattle.vba_cli.specs.Steps.{Puts, Tells}

-- a sink that took nothing took a prefix of any bytes
pub none_prefix : (old new : Option (List ℕ)) (bytes : List ℕ) → new ≡ old → AddsPrefix old new bytes
none_prefix old new bytes same = subst (λ after. AddsPrefix old after bytes) (sym same) (adds_prefix_none old bytes)

-- the status was told by its own line
told_whole : (command : Option Command) (l : Named) (performed result : Status) (old new : Option (List ℕ)) (faults_old faults_new : ℕ) →
    result ≡ performed → faults_new ≡ faults_old → Adds old new (err_of command l result) → Tells command l performed result old new faults_old faults_new
told_whole command l performed Ended old new fo fn is same added = (is, same, added)
told_whole command l performed (Faulted number place) old new fo fn is same added = (is, same, added)
told_whole command l performed Usage old new fo fn is same added = (is, same, added)
told_whole command l performed Going old new fo fn is same added = (is, same, added)
told_whole command l performed (ReadFault number) old new fo fn is same added = (is, same, added)
told_whole command l performed WriteFault old new fo fn is same added = inl (sym is, same, added)
told_whole command l performed (BadList line) old new fo fn is same added = (is, same, added)
told_whole command l performed (TooLong number) old new fo fn is same added = (is, same, added)
told_whole command l performed (Refused refusal) old new fo fn is same added = (is, same, added)
told_whole command l performed (Stopped why place) old new fo fn is same added = (is, same, added)
told_whole command l performed (BadBook sheet fault) old new fo fn is same added = (is, same, added)
told_whole command l performed (NotBuilt place) old new fo fn is same added = (is, same, added)
told_whole command l performed NoMemory old new fo fn is same added =
    (same, record { of_status = NoMemory; part = adds_prefix_whole old new (err_of command l NoMemory) added })

-- want of memory was told by the line for it
told_want : (command : Option Command) (l : Named) (performed : Status) (old new : Option (List ℕ)) (faults_old faults_new : ℕ) →
    faults_new ≡ faults_old → (of_status : Status) → AddsPrefix old new (err_of command l of_status) → Tells command l performed NoMemory old new faults_old faults_new
told_want command l performed old new fo fn same of_status part = (same, record { of_status = of_status; part = part })

-- the put of a status's own line, or of the one for want of memory, tells the status
pub told_by : (command : Option Command) (l : Named) (performed status result : Status) (old new : Option (List ℕ)) (faults_old faults_new : ℕ) →
    (status ≡ performed) ⊎ (status ≡ NoMemory) → Puts (err_of command l status) status result old new faults_old faults_new → Tells command l performed result old new faults_old faults_new
told_by command l performed status result old new fo fn which puts =
    elim puts [
      | inl whole ↦
          elim which [
            | inl is ↦ told_whole command l performed result old new fo fn (whole.0 ∙ is) whole.1 (subst (λ s. Adds old new (err_of command l s)) (sym whole.0) whole.2)
            | inr want ↦
                subst (λ s. Tells command l performed s old new fo fn) (sym (whole.0 ∙ want))
                (told_want command l performed old new fo fn whole.1 status (adds_prefix_whole old new (err_of command l status) whole.2))
          ]
      | inr part ↦
          elim part [
            | inl failed ↦
                subst (λ s. Tells command l performed s old new fo fn) (sym failed.0) (inr (failed.1, record { of_status = status; part = failed.2 }))
            | inr want ↦
                subst (λ s. Tells command l performed s old new fo fn) (sym want.0) (told_want command l performed old new fo fn want.1 status want.2)
          ]
    ]
