use Rattle.std.proofs.Common.{◌≡◌, ℕ, List, Some, None, sym, subst, ◌∙◌}
use Rattle.bound_project.specs.DraftView.{draft_view}
use Rattle.bound_calls.specs.bound_forms.specs.Members.{member_in}
use Rattle.bound_members.specs.Kinds.{kind_view}
use Rattle.bound_members.specs.Members.{found_member}
use Rattle.bound_members.proofs.Finding.{finds_none}
use Rattle.bound_members.proofs.members.find_member.Goals as goal

pub returns-in_ok-member-in-Some : goal.returns-in_ok-member-in-Some
returns-in_ok-member-in-Some c =
    let A : List ℕ → Type 0 = λ (l : List ℕ). member_in (kind_view c.args.kind) l ≡ Some (found_member l c.in-Some.known) in
    c.in_ok-member-in-Some.ensures c.args.kind (subst A c.units.ensures (sym c.in-Some.ensures))

pub returns-in-None : goal.returns-in-None
returns-in-None c =
    let A : List ℕ → Type 0 = λ (l : List ℕ). member_in (kind_view c.args.kind) l ≡ None in
    finds_none c.args.kind c.args.name (draft_view c.args.draft.now) (sym c.is_workbook.ensures ∙ c.if-is_workbook.false) (subst A c.units.ensures (sym c.in-None.ensures))
