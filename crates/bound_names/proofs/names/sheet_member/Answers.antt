use Rattle.std.proofs.Common.{ℕ, List, Option, subst}
use Rattle.bound_project.specs.DraftView.{draft_view}
use Rattle.bound_members.specs.bound_calls.specs.declared.term.HostMember.{HostMember}
use Rattle.bound_members.specs.declared.kinds.HostKind.TheVariants as kind
use Rattle.bound_members.specs.Members.{Finds, FindsMember}
use Rattle.bound_names.proofs.UnknownTerms.{sheet_leaf}
use Rattle.bound_names.proofs.names.sheet_member.Goals as goal

pub returns : goal.returns
returns c =
    let d = draft_view c.args.draft.now in
    let e = draft_view c.find_member.new.draft in
    let A : List ℕ → Type 0 = λ (l : List ℕ). FindsMember kind.Sheet l d e c.in-Some.member in
    let B : Option HostMember → Type 0 = λ (o : Option HostMember). Finds kind.Sheet c.in_ok-text.text d e o in
    λ env. sheet_leaf c.args.name.now.name d e c.in-Some.member (subst A c.in_ok-text.ensures (subst B c.in-Some.is c.in_ok-member.ensures)) env
