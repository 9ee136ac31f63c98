use Rattle.std.proofs.Common.{rules}
use Rattle.module_tree.proofs.Seeing.{divides_one}
use Rattle.module_tree.proofs.progress.divide.Goals as goal

pub unwrap-before-requires : goal.unwrap-before-requires
unwrap-before-requires g c = c.pop.ensures.variant.1 (let some = divides_one g.P.Bracketed.view c.args.progress.frames.items _ _ _ c.requires in search rules)
