use Rattle.bound_project.specs.View.{declarations_view}
use Rattle.run_late.proofs.ways.way_of.Goals as goal

pub returns-in-Reading : goal.returns-in-Reading
returns-in-Reading c = λ v m.
    rw (c.in-Property.is, c.in-Reading.is) (c.read_way.ensures (declarations_view c.args.declared.now) c.args.given c.in-Property.lets c.in-Property.sets v m)

pub returns-in-Assigning : goal.returns-in-Assigning
returns-in-Assigning c = λ v m. rw (c.in-Property.is, c.in-Assigning.is) (c.let_way.ensures v m c.in-Property.sets)

pub returns-in-Setting : goal.returns-in-Setting
returns-in-Setting c = λ v m. rw (c.in-Property.is, c.in-Setting.is) (c.set_way.ensures v m)
