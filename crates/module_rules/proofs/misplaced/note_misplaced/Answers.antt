use Rattle.module_rules.specs.Seen.{before_view}
use Rattle.module_rules.proofs.misplaced.note_misplaced.Goals as goal

pub returns-in-Procedure : goal.returns-in-Procedure
returns-in-Procedure c = rw c.in-Procedure.is (c.note_in_procedure.ensures c.args.is_class (before_view c.args.before.now))

pub returns-in-Enum : goal.returns-in-Enum
returns-in-Enum c = rw c.in-Enum.is (c.note_in_enum.ensures c.args.is_class (before_view c.args.before.now))

pub returns-in-Type : goal.returns-in-Type
returns-in-Type c = rw c.in-Type.is (c.note_in_type.ensures c.args.is_class (before_view c.args.before.now))
