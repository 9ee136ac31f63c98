use Rattle.std.proofs.Common.{rules}
use Rattle.std.specs.Vec.Iter.{into_iter_items}
use Rattle.module_tree.proofs.Taken.{read_from, part_fits, part_read, end_bracketed, end_same}
use Rattle.module_tree.proofs.bracketing.bracket.Goals as goal

pub parts-init : goal.parts-init
parts-init g c =
    read_from g.P.Bracketed.view _ _ _ _ c.new.ensures.items c.new-2.ensures.items c.into_iter-part-iterator.ensures.into_iter_gives.0 c.requires

pub take-requires : goal.take-requires
take-requires g c = part_fits g.P.Bracketed.view _ c.parts.progress _ _ _ c.in-Some.ensures.steps.0 c.parts.invariant

pub parts-preserved : goal.parts-preserved
parts-preserved g c =
    part_read g.P.Bracketed.view _ c.parts.progress c.in_ok-progress.progress _ _ _ c.in-Some.ensures.steps.0 c.in_ok-progress.ensures c.parts.invariant

pub returns-clause-bracketed : goal.returns-clause-bracketed
returns-clause-bracketed g c =
    end_bracketed g.P.Bracketed.view _ c.parts.progress (into_iter_items c.parts.part-iterator) (search rules) c.parts.invariant

pub returns-clause-parts : goal.returns-clause-parts
returns-clause-parts g c =
    end_same g.P.Bracketed.view _ c.parts.progress (into_iter_items c.parts.part-iterator) (search rules) c.parts.invariant
