-- What the object is that a value gives.
use Rattle.std.proofs.Common.{◌≡◌, true, ◌∷◌, Option, Some, None, sym, ap, subst, ◌∙◌}
use Rattle.std.specs.Prelude.{IfSome, option_map}
use Rattle.vba_values.specs.declared.object.HostRef.{HostRef}
use Rattle.bound_project.specs.declared.node.NodeKind.{NodeKind}
use Rattle.bound_project.specs.declared.node.NodeKind.TheVariants as node
use Rattle.bound_project.specs.Expressions as bound
use Rattle.bound_project.specs.Pieces.{expr_of, put_kind}
use Rattle.bound_project.specs.View.{declared_view}
use Rattle.bound_calls.specs.bound_forms.specs.Operands.{host_kind, kind_by_type, kind_of_object}
use Rattle.bound_calls.specs.declared.term.Ending.{Ending}
use Rattle.bound_calls.proofs.LastNodes.{any_node}
use Rattle.bound_members.specs.declared.kinds.HostKind.{HostKind}
use Rattle.bound_calls.specs.References.{is_typed_kind}
use Rattle.bound_calls.proofs.TypedNodes.{object_made, typed_made}
use Rattle.bound_members.specs.Kinds.{EndingOfKind, kind_view}

pub host_ending : (e : Ending) (r : HostRef) (o : Option HostKind) → e.kind ≡ node.HostObject r → option_map kind_view o ≡ kind_of_object r → IfSome o (λ k. EndingOfKind e k)
host_ending e r None is h = tt
host_ending e r (Some k) is h = λ t made ps below ends.
    let P : NodeKind → Type 0 = λ (x : NodeKind). put_kind t any_node x ps ≡ expr_of any_node made ∷ below in
    ap (λ (z : bound.Node). host_kind z (declared_view e.of)) (object_made any_node made r ps below (subst P is (ends any_node))) ∙ sym h

-- by its type
pub typed_ending : (e : Ending) (o : Option HostKind) → is_typed_kind e.kind ≡ true → option_map kind_view o ≡ kind_by_type (declared_view e.of) → IfSome o (λ k. EndingOfKind e k)
typed_ending e None is h = tt
typed_ending e (Some k) is h = λ t made ps below ends. typed_made t any_node e.kind made ps below is (ends any_node) (declared_view e.of) ∙ sym h
