use Rattle.std.proofs.Common.{Option, sym, ap, subst, ◌∙◌}
use Rattle.std.specs.Prelude.{Some}
use Rattle.vba_base.specs.declared.place.Place.{Place}
use Rattle.vba_words.specs.declared.identifier.Identifier.{Identifier}
use Rattle.bound_project.specs.DraftView.{draft_view}
use Rattle.bound_project.specs.Expressions.{no_exprs}
use Rattle.bound_project.specs.Statements as to
use Rattle.bound_terms.specs.bound_accesses.specs.bound_names.specs.bound_members.specs.bound_calls.specs.bound_forms.specs.Terms.{broken_rule}
use Rattle.bound_terms.specs.bound_accesses.specs.bound_names.specs.bound_members.specs.bound_calls.specs.bound_forms.specs.StatementsBound as plain
use Rattle.bound_terms.specs.bound_accesses.specs.bound_names.specs.View.{env_view}
use Rattle.statement_nodes.specs.statement_numbers.specs.View.{standing_view}
use Rattle.statement_nodes.specs.Pushed.{ActionPushed}
use Rattle.statement_nodes.proofs.Broken.{other_named, same_named}
use Rattle.statement_nodes.proofs.Ended.{plainly}
use Rattle.bound_lines.proofs.for_lines.bind_next.Goals as goal

pub returns-then-is_other : goal.returns-then-is_other
returns-then-is_other c =
    let around = (standing_view c.args.standing).around in
    let name = c.args.counter.now in
    let action = plain.next_action (env_view c.args.env) around in
    let k = c.in_ok-broken.broken in
    let d = draft_view c.args.draft.now in
    let e = draft_view c.mark.new.draft in
    let other = ap (λ (o : Option Identifier). plain.is_other_name name o) (sym c.loop_name-own.ensures) ∙ sym c.is_other_name-is_other.ensures ∙ c.if-is_other.true in
    let P : Place → Type 0 = λ (p : Place). ActionPushed k (Some (to.evaluate (broken_rule 29 p no_exprs))) d e in
    other_named k (plain.name_place name) (plain.is_other_name name (plain.loop_name around)) action d e other (subst P c.name_place.ensures c.in_ok-broken.ensures)

pub returns : goal.returns
returns c =
    let around = (standing_view c.args.standing).around in
    let name = c.args.counter.now in
    let action = plain.next_action (env_view c.args.env) around in
    let k = c.in_ok-kind.kind in
    let d = draft_view c.args.draft.now in
    let same = ap (λ (o : Option Identifier). plain.is_other_name name o) (sym c.loop_name-own.ensures) ∙ sym c.is_other_name-is_other.ensures ∙ c.if-is_other.false in
    same_named k (plain.name_place name) (plain.is_other_name name (plain.loop_name around)) action d d same
    (plainly k action d c.requires.empty c.in_ok-kind.ensures.alone c.in_ok-kind.ensures.is)
