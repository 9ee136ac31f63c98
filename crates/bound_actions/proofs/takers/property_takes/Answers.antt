use Rattle.std.proofs.Common.{subst, sym}
use Rattle.bound_terms.specs.bound_accesses.specs.bound_names.specs.bound_members.specs.bound_calls.specs.declared.term.Property.{Property}
use Rattle.bound_terms.specs.bound_accesses.specs.bound_names.specs.bound_members.specs.bound_calls.specs.declared.term.Term.TheVariants as term
use Rattle.bound_terms.specs.bound_accesses.specs.bound_names.specs.View.{env_view}
use Rattle.bound_actions.specs.Behind.{TakesType}
use Rattle.bound_actions.proofs.Takings.{let_takes, none_takes, writer_property}
use Rattle.bound_actions.proofs.takers.property_takes.Goals as goal

pub property_given-requires-clause-writer : goal.property_given-requires-clause-writer
property_given-requires-clause-writer c = c.in-Some.ensures.writer

pub returns-in_ok-given-in-Some : goal.returns-in_ok-given-in-Some
returns-in_ok-given-in-Some c =
    let env = env_view c.args.env in
    let w = c.in-Some.writer in
    let g = c.in_ok-given-in-Some in
    let P : Property → Type 0 = λ (p : Property). TakesType env p g.given.of in
    subst P (writer_property c.args.property w c.in-Some.ensures.is) (let_takes env w g.given g._front.now c.in-Some.ensures.writer g.ensures)

pub returns-in-None : goal.returns-in-None
returns-in-None c = none_takes (env_view c.args.env) c.args.property c.in-None.ensures
