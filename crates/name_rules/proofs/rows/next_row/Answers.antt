use Rattle.std.proofs.Common.{[], ◌∷◌, ◌++◌, ℕ, Bool, List, refl, ap, ◌∙◌}
use Rattle.std.specs.Prelude.{◌==◌, ◌||◌, Vec}
use Rattle.std.specs.List.{list_any}
use Rattle.std.specs.declared.alloc.Global.{Global}
use Rattle.name_rules.specs.Rows.{told, next_row}
use Rattle.name_rules.proofs.Gathered.{collected}
use Rattle.name_rules.proofs.rows.next_row.Goals as goal

pub loop-held-preserved : goal.loop-held-preserved
loop-held-preserved c =
    collected (λ types. next_row types c.args.to c.args.row.now) (λ (held : List ℕ). list_any (λ n. (n == c.args.to) || told c.args.row.now n) held ∷ [])
    (λ held others. refl) (λ (v : Vec ℕ Global). v.items) c.loop-held.next.items c.push_answer.new.row.items _
    c.args.types.now c.loop-held.held-index c.held-item.result c.loop-held-test.true c.held-item.is (c.in_ok-push_answer.ensures ∙ ap (λ (b : Bool). c.loop-held.next.items ++ b ∷ []) (c.leads_by.ensures ∙ ap (list_any (λ n. (n == c.args.to) || told c.args.row.now n)) c.as_slice.ensures.value))
    c.loop-held.invariant
