use Rattle.std.proofs.Common.{Bor, map}
use Rattle.vba_words.specs.declared.identifier.Identifier.{Identifier}
use Rattle.constant_values.specs.declared_names.specs.binder.specs.Declarations.{Local}
use Rattle.said_parts.specs.View.{all_said, said_view}
use Rattle.name_rules.specs.Naming.{declared_in}
use Rattle.name_rules.proofs.DeclaredHere.{named_append}
use Rattle.name_rules.proofs.Gathered.{collected_all}
use Rattle.name_rules.proofs.names_of.push_all_declared.Goals as goal

pub loop-one-preserved : goal.loop-one-preserved
loop-one-preserved c =
    collected_all (λ said. map (λ (m : Local). m.name) (declared_in (all_said said))) (λ one. map (λ (m : Local). m.name) (declared_in (said_view one)))
    (λ one others. named_append (said_view one) (all_said others))
    (map (λ (x : Bor Identifier). x.now) c.loop-one.names.items) (map (λ (x : Bor Identifier). x.now) c.push_declared.new.names.items) _
    c.args.said.now c.loop-one.one-index c.one-item.result c.loop-one-test.true c.one-item.is c.in_ok-push_declared.ensures c.loop-one.invariant
