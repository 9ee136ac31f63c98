use Rattle.std.proofs.Common.{refl, inl}
use Rattle.vba_cli.specs.declared.status.Status.TheVariants.{NoMemory}
use Rattle.vba_cli.specs.Named.{nothing_named}
use Rattle.vba_cli.proofs.Steps.{told_by}
use Rattle.vba_cli.proofs.cli.tell_want.Goals as goal

pub returns : goal.returns
returns g c = λ command. told_by command nothing_named NoMemory NoMemory c.put_line.result _ _ _ _ (inl refl) c.put_line.ensures
