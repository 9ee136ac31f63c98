use Rattle.std.proofs.Common.{drop, map, ap, sym, ◌∙◌}
use Rattle.std.specs.Prelude.{◌||◌}
use Rattle.vba_meaning.specs.References.{objects_kept}
use Rattle.run_memory.specs.View.{kept_at_view}
use Rattle.run_memory.specs.Referred.{occurs}
use Rattle.run_memory.proofs.Referred.{rest_is, keeps_first}
use Rattle.run_memory.proofs.looks.+any_kept_refers.Goals as goal

pub returns-then-kept_refers : goal.returns-then-kept_refers
returns-then-kept_refers t c =
    let o = c.args.object in
    let xs = c.args.keeps.now in
    let rest = occurs o (objects_kept (map kept_at_view (drop 1 xs))) in
    c.if-kept_refers.true
    ∙ sym (keeps_first o xs c.first-item.result c.in-len1-up.len_at_least c.first-item.is ∙ ap (λ b. b || rest) (sym c.kept_refers.ensures ∙ c.if-kept_refers.true))

pub returns-else-kept_refers : goal.returns-else-kept_refers
returns-else-kept_refers t c =
    let o = c.args.object in
    let xs = c.args.keeps.now in
    let rest = occurs o (objects_kept (map kept_at_view (drop 1 xs))) in
    c.any_kept_refers.ensures
    ∙ ap (λ ys. occurs o (objects_kept (map kept_at_view ys))) (rest_is xs)
    ∙ sym (keeps_first o xs c.first-item.result c.in-len1-up.len_at_least c.first-item.is ∙ ap (λ b. b || rest) (sym c.kept_refers.ensures ∙ c.if-kept_refers.false))
