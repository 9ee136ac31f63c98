use Rattle.std.proofs.Common.{sym}
use Rattle.std.proofs.lemmas.Option.{IfSome_then}
use Rattle.bound_project.specs.View.{declarations_view}
use Rattle.statement_terms.proofs.WrittenTargets.{class_is_known}
use Rattle.statement_terms.proofs.targets.written_known.Goals as goal

pub returns-in-Some : goal.returns-in-Some
returns-in-Some c = class_is_known (declarations_view c.args.declared.now) c.args.ending c.in-Some.class c.class_written.result (sym c.in-Some.ensures) c.class_written.ensures

pub host_known-requires : goal.host_known-requires
host_known-requires c = sym c.in-None.ensures

pub returns-in-None : goal.returns-in-None
returns-in-None c = IfSome_then c.host_known.result c.host_known.ensures (λ found h. h (declarations_view c.args.declared.now))
