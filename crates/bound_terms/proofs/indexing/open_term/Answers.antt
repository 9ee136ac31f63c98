use Rattle.std.proofs.Common.{sym, subst}
use Rattle.std.specs.Prelude.{IfOk}
use Rattle.std.proofs.lemmas.Result.{IfOk-weaker}
use Rattle.bound_project.specs.DraftView.{draft_view}
use Rattle.bound_accesses.specs.bound_names.specs.View.{env_view}
use Rattle.bound_accesses.specs.bound_names.specs.bound_members.specs.bound_calls.specs.declared.term.Term.{Term}
use Rattle.bound_accesses.specs.bound_names.specs.bound_members.specs.bound_calls.specs.declared.term.Item.{Item}
use Rattle.bound_accesses.specs.bound_names.specs.bound_members.specs.bound_calls.specs.declared.term.Item.TheVariants as item
use Rattle.bound_accesses.specs.bound_names.specs.bound_members.specs.bound_calls.specs.declared.term.Term.TheVariants as term
use Rattle.bound_accesses.specs.bound_names.specs.bound_members.specs.bound_calls.specs.Indexing.{OpensTerm}
use Rattle.bound_terms.proofs.Refused.{clear_untaken, error_untaken}
use Rattle.bound_terms.proofs.indexing.open_term.Goals as goal

pub returns-in-Function : goal.returns-in-Function
returns-in-Function c =
    let d = draft_view c.args.draft.now in
    let P : Term → Type 0 = λ (t : Term). OpensTerm (env_view c.args.env) c.args.tree t d d (item.Function c.open_function.result) in
    subst P (sym c.in-Function.is) (c.open_function.ensures (env_view c.args.env) d)

pub returns-in-Place : goal.returns-in-Place
returns-in-Place c =
    let P : Term → Type 0 = λ (t : Term). IfOk c.open_indexed.result (λ i. OpensTerm (env_view c.args.env) c.args.tree t (draft_view c.args.draft.now) (draft_view c.open_indexed.new.draft) i) in
    subst P (sym c.in-Place.is) c.open_indexed.ensures

pub returns-in-Routine : goal.returns-in-Routine
returns-in-Routine c =
    let P : Term → Type 0 = λ (t : Term). IfOk c.open_routine.result (λ i. OpensTerm (env_view c.args.env) c.args.tree t (draft_view c.args.draft.now) (draft_view c.open_routine.new.draft) i) in
    subst P (sym c.in-Routine.is) c.open_routine.ensures

pub returns-in-Err : goal.returns-in-Err
returns-in-Err c =
    let d = draft_view c.args.draft.now in
    let P : Term → Type 0 = λ (t : Term). IfOk c.open_none.result (λ i. OpensTerm (env_view c.args.env) c.args.tree t d d i) in
    let Q : (i : Item) → Type 0 = λ (i : Item). OpensTerm (env_view c.args.env) c.args.tree term.Err d d i in
    subst P (sym c.in-Err.is) (IfOk-weaker c.open_none.result _ _ (λ i o. subst Q (sym o) (error_untaken (env_view c.args.env) c.args.tree d)) c.open_none.ensures)

pub returns-in-ErrClear : goal.returns-in-ErrClear
returns-in-ErrClear c =
    let d = draft_view c.args.draft.now in
    let P : Term → Type 0 = λ (t : Term). IfOk c.open_none-in-ErrClear.result (λ i. OpensTerm (env_view c.args.env) c.args.tree t d d i) in
    let Q : (i : Item) → Type 0 = λ (i : Item). OpensTerm (env_view c.args.env) c.args.tree term.ErrClear d d i in
    subst P (sym c.in-ErrClear.is) (IfOk-weaker c.open_none-in-ErrClear.result _ _ (λ i o. subst Q (sym o) (clear_untaken (env_view c.args.env) c.args.tree d)) c.open_none-in-ErrClear.ensures)
