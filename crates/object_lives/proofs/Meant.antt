-- The machine that counts does what a project means, since it does what the machine does that looks.
use Rattle.std.proofs.Common.{◌≡◌, ℕ, sym, ap, ◌∙◌, subst}
use Rattle.sheet_host.specs.Books.{Sheets}
use Rattle.bound_project.specs.Project.{Project}
use Rattle.vba_meaning.specs.Meaning.{Run, meaning}
use Rattle.pcode.specs.Machine.{Done}
use Rattle.pcode.specs.Layout.{code_of}
use Rattle.simulation.proofs.Whole.{means}
use Rattle.object_counts.specs.Balance.{Balanced, BalancedAt, fin_of, RunCounts}
use Rattle.object_counts.specs.Counting.{Outcome, Running, Finished, Jammed, run_counted}
use Rattle.object_counts.proofs.Whole.{run_counts}
use Rattle.object_lives.specs.Meant.{EndsAs, CountsMean}

-- an outcome that is a run's end but for its counts
ends_as : (r : Outcome) (run : Run) → fin_of r ≡ Done run.ending run.state run.events → BalancedAt r → EndsAs r run
ends_as (Running counts c) run e b = absurd cc
ends_as (Finished counts x s es) run e b =
    let h : Done x s es ≡ Done run.ending run.state run.events = e in
    let same : s ≡ run.state = cc in
    record { counts = counts; ended = cc; right = subst (λ t. Balanced counts t.memory) same b }
ends_as Jammed run e b = absurd cc

module _ (pr : Project) (book : Sheets) (bound : ℕ) where
  counted : (steps : ℕ) → RunCounts (code_of pr) book bound steps
  counted steps = run_counts (code_of pr) bound book steps

  pub counts_mean : CountsMean pr book bound
  counts_mean =
      let m = means pr book bound in
      record {
        ends = (m.ends.0, ends_as (run_counted (code_of pr) book bound m.ends.0) (meaning pr book bound) ((counted m.ends.0).same ∙ m.ends.1) (counted m.ends.0).balanced);
        only = λ steps counts e s es h.
            (let c = counted steps in
            ends_as (Finished counts e s es) (meaning pr book bound) (m.only steps e s es (sym c.same ∙ ap fin_of h)) (subst (λ r. BalancedAt r) h c.balanced));
        never_stuck = λ steps h. m.never_stuck steps (sym (counted steps).same ∙ ap fin_of h);
      }
