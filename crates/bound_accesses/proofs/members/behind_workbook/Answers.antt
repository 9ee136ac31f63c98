use Rattle.bound_project.specs.DraftView.{draft_view}
use Rattle.std.proofs.Common.{sym, subst, ◌∙◌}
use Rattle.bound_names.specs.bound_members.specs.bound_calls.specs.bound_forms.specs.Terms as plain
use Rattle.bound_names.specs.bound_members.specs.bound_calls.specs.declared.term.Term.{Term}
use Rattle.bound_names.specs.bound_members.specs.bound_calls.specs.declared.term.Term.TheVariants as term
use Rattle.bound_accesses.specs.Fields.{MakesBehind}
use Rattle.bound_accesses.proofs.Fielding.{behind_book, behind_workbook}
use Rattle.bound_accesses.proofs.members.behind_workbook.Goals as goal

pub returns-then-names_sheets : goal.returns-then-names_sheets
returns-then-names_sheets c = λ env.
    behind_workbook env c.args.place c.args.dot c.args.ending c.args.member.now (draft_view c.args.draft.now) c.sheets_value.result c.requires.book c.requires.other c.requires.class c.sheets_value.ensures (sym c.names_sheets.ensures ∙ c.if-names_sheets.true)

pub returns : goal.returns
returns c =
    let d = draft_view c.args.draft.now in
    let e = draft_view c.push_node.new.draft in
    let P : Term → Type 0 = λ (t : Term). (env : plain.Env) → MakesBehind env c.args.place c.args.dot (term.Value c.args.ending) c.args.member.now d e t in
    subst P (sym c.unknown_term.ensures)
    (λ env. behind_book env c.args.place c.args.dot c.args.ending c.args.member.now d e c.requires.book c.requires.other c.requires.class (sym c.names_sheets.ensures ∙ c.if-names_sheets.false) c.in_ok-push_node.ensures)
