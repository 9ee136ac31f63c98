use Rattle.std.proofs.Common.{Bool, Option, subst, ◌∙◌}
use Rattle.bound_project.specs.declared.declared_type.DeclaredType.{DeclaredType}
use Rattle.bound_terms.specs.bound_accesses.specs.bound_names.specs.bound_members.specs.bound_calls.specs.declared.term.Receiver.{Receiver}
use Rattle.bound_terms.specs.bound_accesses.specs.bound_names.specs.bound_members.specs.bound_calls.specs.declared.term.Term.{Term}
use Rattle.bound_terms.specs.bound_accesses.specs.bound_names.specs.bound_members.specs.bound_calls.specs.Standing.{TermNamed}
use Rattle.std.proofs.lemmas.Result.{IfOk-weaker}
use Rattle.vba_expression.specs.View.{view}
use Rattle.bound_project.specs.DraftView.{draft_view}
use Rattle.bound_terms.specs.bound_accesses.specs.bound_names.specs.View.{env_view}
use Rattle.bound_actions.specs.NoTargets.{IsSub, TypesProperty}
use Rattle.bound_actions.proofs.SetTargets.{other_member, sets_bare_member, sets_bare_property, sets_bare_routine, sets_bare_sheet, sets_bare_sub, sets_other, sets_property_bare}
use Rattle.bound_actions.proofs.setting.set_bare.Goals as goal

pub let_bare-requires-clause-writer : goal.let_bare-requires-clause-writer
let_bare-requires-clause-writer c = c.in-Some.ensures.writer

pub returns-then-is_sub : goal.returns-then-is_sub
returns-then-is_sub c =
    let d = draft_view c.args.draft.now in
    let f = draft_view c.tree_of.new.draft in
    let e = draft_view c.refuse_target.new.draft in
    let A : Bool → Type 0 = λ (b : Bool). IsSub c.in_ok-tree.tree.term b in
    IfOk-weaker c.refuse_target.result _ _
    (λ k r. sets_bare_sub c.args.set_word (env_view c.args.env) (view c.args.place.now) c.in_ok-tree.tree d f e k c.requires.bare (subst A c.if-is_sub.true c.is_sub.ensures) c.in_ok-tree.ensures r) c.refuse_target.ensures

pub returns-in-Some : goal.returns-in-Some
returns-in-Some c =
    let d = draft_view c.args.draft.now in
    let f = draft_view c.tree_of.new.draft in
    let e = draft_view c.let_bare.new.draft in
    IfOk-weaker c.let_bare.result _ _
    (λ k h. sets_property_bare c.args.set_word (env_view c.args.env) (view c.args.place.now) c.in_ok-tree.tree c.in-Some.setter d f e k c.requires.bare
    (λ env t y ps below s. c.is_sub.ensures env t y ps below s ∙ c.if-is_sub.false) c.in_ok-tree.ensures c.in-Some.ensures h) c.let_bare.ensures

pub returns-in-Some-2 : goal.returns-in-Some-2
returns-in-Some-2 c =
    let d = draft_view c.args.draft.now in
    let f = draft_view c.tree_of.new.draft in
    let e = draft_view c.set_property.new.draft in
    let T : Option (Receiver × DeclaredType) → Type 0 = λ (o : Option (Receiver × DeclaredType)). TypesProperty (env_view c.args.env) c.in_ok-tree.tree.term o in
    let A : Bool → Type 0 = λ (b : Bool). IsSub c.in_ok-tree.tree.term b in
    IfOk-weaker c.set_property.result _ _
    (λ k s. sets_bare_property c.args.set_word (env_view c.args.env) (view c.args.place.now) c.in_ok-tree.tree c.in-Some-2.receiver c.in-Some-2.of d f e k c.requires.bare (subst A c.if-is_sub.false c.is_sub.ensures) c.in_default.ensures
    (subst T c.in-Some-2.is c.in_ok-receiver.ensures) c.in_ok-tree.ensures s) c.set_property.ensures

pub returns-in-Routine : goal.returns-in-Routine
returns-in-Routine c =
    let d = draft_view c.args.draft.now in
    let f = draft_view c.tree_of.new.draft in
    let e = draft_view c.set_routine.new.draft in
    let T : Option (Receiver × DeclaredType) → Type 0 = λ (o : Option (Receiver × DeclaredType)). TypesProperty (env_view c.args.env) c.in_ok-tree.tree.term o in
    let A : Bool → Type 0 = λ (b : Bool). IsSub c.in_ok-tree.tree.term b in
    IfOk-weaker c.set_routine.result _ _
    (λ k s. sets_bare_routine c.args.set_word (env_view c.args.env) (view c.args.place.now) c.in_ok-tree.tree c.in-Routine.routine d f e k c.requires.bare c.in-Routine.is (subst A c.if-is_sub.false c.is_sub.ensures) c.in_default.ensures
    (subst T c.in_default-2.is c.in_ok-receiver.ensures) c.in_ok-tree.ensures s) c.set_routine.ensures

pub returns-in-HostMember : goal.returns-in-HostMember
returns-in-HostMember c =
    let d = draft_view c.args.draft.now in
    let f = draft_view c.tree_of.new.draft in
    let e = draft_view c.set_bare_member.new.draft in
    IfOk-weaker c.set_bare_member.result _ _
    (λ k s. sets_bare_member c.args.set_word (env_view c.args.env) (view c.args.place.now) c.in_ok-tree.tree c.in-HostMember.member d f e k c.requires.bare c.in-HostMember.is c.in_ok-tree.ensures s) c.set_bare_member.ensures

pub set_bare_member-requires : goal.set_bare_member-requires
set_bare_member-requires c =
    let N : Term → Type 0 = λ (x : Term). TermNamed (draft_view c.tree_of.new.draft).tables x in
    subst N c.in-HostMember.is c.in_ok-tree.ensures.named

pub returns-in-SheetMember : goal.returns-in-SheetMember
returns-in-SheetMember c =
    let d = draft_view c.args.draft.now in
    let f = draft_view c.tree_of.new.draft in
    let e = draft_view c.set_sheet_member.new.draft in
    IfOk-weaker c.set_sheet_member.result _ _
    (λ k s. sets_bare_sheet c.args.set_word (env_view c.args.env) (view c.args.place.now) c.in_ok-tree.tree c.in-SheetMember.member d f e k c.requires.bare c.in-SheetMember.is c.in_ok-tree.ensures s) c.set_sheet_member.ensures

pub set_sheet_member-requires : goal.set_sheet_member-requires
set_sheet_member-requires c =
    let N : Term → Type 0 = λ (x : Term). TermNamed (draft_view c.tree_of.new.draft).tables x in
    subst N c.in-SheetMember.is c.in_ok-tree.ensures.named

pub set_term-requires : goal.set_term-requires
set_term-requires c = c.in_ok-tree.ensures.named

pub returns-in_default-term : goal.returns-in_default-term
returns-in_default-term c =
    let d = draft_view c.args.draft.now in
    let f = draft_view c.tree_of.new.draft in
    let e = draft_view c.set_term.new.draft in
    let T : Option (Receiver × DeclaredType) → Type 0 = λ (o : Option (Receiver × DeclaredType)). TypesProperty (env_view c.args.env) c.in_ok-tree.tree.term o in
    let A : Bool → Type 0 = λ (b : Bool). IsSub c.in_ok-tree.tree.term b in
    IfOk-weaker c.set_term.result _ _
    (λ k s. sets_other c.args.set_word (env_view c.args.env) (view c.args.place.now) c.in_ok-tree.tree d f e k c.requires.bare (other_member c.in_ok-tree.tree.term c.in_default-term.not-HostMember c.in_default-term.not-SheetMember)
    c.in_default-term.not-Routine (subst A c.if-is_sub.false c.is_sub.ensures) c.in_default.ensures (subst T c.in_default-2.is c.in_ok-receiver.ensures) c.in_ok-tree.ensures s) c.set_term.ensures
