use Rattle.std.proofs.Common.{ap, []}
use Rattle.bound_project.specs.Statements.{print}
use Rattle.bound_project.specs.Bodies.{whole}
use Rattle.bound_project.proofs.Lists.{prints_are}
use Rattle.bound_project.proofs.laws.prints_show_their_items.Goals as goal

pub returns : goal.returns
returns c = λ t ends items. ap (λ o. whole o (λ ps. print ps ends)) (prints_are items [])
