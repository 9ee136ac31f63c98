use Rattle.std.proofs.Common.{Bor, map}
use Rattle.std.specs.Prelude.{flat_map}
use Rattle.vba_words.specs.declared.identifier.Identifier.{Identifier}
use Rattle.constant_values.specs.declared_names.specs.binder.specs.Declarations.{Local}
use Rattle.constant_values.specs.declared_names.specs.binder.specs.Said.{said_in_part}
use Rattle.constant_values.specs.declared_names.specs.module_parts.specs.View.{part_view, parts_view}
use Rattle.name_rules.specs.Naming.{declared_in}
use Rattle.name_rules.proofs.DeclaredHere.{named_append}
use Rattle.name_rules.proofs.Gathered.{collected_all}
use Rattle.name_rules.proofs.names_of.push_names_of_body.Goals as goal

pub loop-part-preserved : goal.loop-part-preserved
loop-part-preserved c =
    let static = c.args.is_static in
    collected_all (λ parts. map (λ (m : Local). m.name) (declared_in (flat_map (said_in_part static) (parts_view parts))))
    (λ part. map (λ (m : Local). m.name) (declared_in (said_in_part static (part_view part))))
    (λ part others. named_append (said_in_part static (part_view part)) (flat_map (said_in_part static) (parts_view others)))
    (map (λ (x : Bor Identifier). x.now) c.loop-part.names.items) (map (λ (x : Bor Identifier). x.now) c.push_names_of_part.new.names.items) _
    c.args.parts.now c.loop-part.part-index c.part-item.result c.loop-part-test.true c.part-item.is c.in_ok-push_names_of_part.ensures c.loop-part.invariant
