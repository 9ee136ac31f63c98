-- What is told of members that there aren't, and members of the active sheet.
use Rattle.std.proofs.Common.{◌≡◌, ℕ, List, ◌∷◌, ap, refl}
use Rattle.vba_base.specs.declared.place.Place.{Place}
use Rattle.vba_values.specs.Types as type
use Rattle.bound_project.specs.declared.node.NodeKind.TheVariants as kinds
use Rattle.bound_project.specs.Expressions.{active_sheet, marked, no_exprs, also}
use Rattle.bound_project.specs.Expressions as bound
use Rattle.bound_project.specs.Pieces.{Piece, Tables, an_expr, put_kind}
use Rattle.bound_project.specs.Project.{nowhere}
use Rattle.bound_project.specs.Drafts.{Drafted}
use Rattle.bound_members.specs.bound_calls.specs.bound_forms.specs.Terms.{Env, expression_of}
use Rattle.bound_members.specs.bound_calls.specs.bound_forms.specs.Terms as plain
use Rattle.bound_members.specs.bound_calls.specs.bound_forms.specs.Members.{object_member, unknown_member}
use Rattle.bound_members.specs.bound_calls.specs.declared.term.HostMember.{HostMember}
use Rattle.bound_members.specs.bound_calls.specs.declared.term.Term.TheVariants as term
use Rattle.bound_members.specs.bound_calls.specs.Standing.{TermStands}
use Rattle.bound_members.specs.bound_calls.specs.Steps.{MakesLeaf}
use Rattle.bound_members.specs.declared.kinds.HostKind.TheVariants as declared_kind
use Rattle.bound_members.specs.Members.{FindsMember}
use Rattle.bound_names.specs.ClassMembers.{unknown_term}

-- what is told of a value that was pushed and has no such member
pub unknown_stands : (env : Env) (t : Tables) (dot : Place) (e : bound.Expr) (x : plain.Term) (ps below : List Piece) → x ≡ unknown_member dot e → ps ≡ an_expr e ∷ below → TermStands env t (unknown_term dot) x ps below
unknown_stands env t dot e x ps below h p = record {
  made = marked (record { rule = 34; place = dot }) (also e no_exprs);
  is = h;
  ends = λ n. ap (λ (st : List Piece). put_kind t n (kinds.Marked (record { rule = 34; place = dot }) 1) st) p;
}

-- a member of the active sheet
pub sheet_leaf : (fold : List ℕ) (d e : Drafted) (m : HostMember) → FindsMember declared_kind.Sheet fold d e m → (env : Env) → MakesLeaf env d e (term.SheetMember m) (object_member nowhere nowhere active_sheet type.worksheet fold)
sheet_leaf fold d e m f env = record {
  grown = f.grown;
  pieces = f.pieces;
  named = f.named;
  stands = λ ps. (f.is nowhere (expression_of active_sheet nowhere type.worksheet), refl);
}
