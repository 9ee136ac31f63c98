use Rattle.std.proofs.Common.{◌≡◌, Bool, Option, Some, None, sym, ◌∙◌}
use Rattle.std.specs.Prelude.{IfSome, option_map}
use Rattle.bound_project.specs.declared.declared_type.DeclaredType.{DeclaredType}
use Rattle.bound_project.specs.DraftView.{draft_view}
use Rattle.bound_project.specs.Pieces.{Tables}
use Rattle.bound_project.specs.View.{declared_view}
use Rattle.bound_members.specs.bound_calls.specs.bound_forms.specs.Operands.{element_type}
use Rattle.bound_members.specs.bound_calls.specs.declared.term.Ending.{Ending}
use Rattle.bound_members.specs.bound_calls.specs.References.{NoInstance}
use Rattle.bound_members.specs.bound_calls.proofs.LastNodes.{no_instance}
use Rattle.bound_operands.specs.Indexing.{HasElements}
use Rattle.bound_operands.proofs.indexing.indexed_type.Goals as goal

has_elements : (has : Bool) (t : Tables) (e : Ending) (o : Option DeclaredType) → NoInstance has t e → option_map declared_view o ≡ element_type (declared_view e.of) → IfSome o (λ of. HasElements has t e of)
has_elements has t e None none h = tt
has_elements has t e (Some of) none h = record { none = none; element_is = sym h }

pub returns : goal.returns
returns c =
    let t = (draft_view c.args.draft.now).tables in
    has_elements c.args.has_class t c.args.whole c.element_type.result (no_instance c.args.has_class t c.args.whole (sym c.may_be_instance.ensures ∙ c.if-may_be_instance.false)) c.element_type.ensures
