-- Procedures that are read.
use Rattle.std.proofs.Common.{◌≡◌, ℕ, Bool, true, false, Option, Some, None, if◌then◌else◌, refl, sym, ap, ◌∙◌, subst}
use Rattle.std.specs.Prelude.{slice_get}
use Rattle.bound_project.specs.Drafts.{Drafted}
use Rattle.bound_members.specs.bound_calls.specs.bound_declarations.specs.constant_values.specs.declared_names.specs.binder.specs.Declarations.{Written}
use Rattle.bound_members.specs.bound_calls.specs.bound_declarations.specs.constant_values.specs.declared_names.specs.binder.specs.Scopes.{Space}
use Rattle.bound_members.specs.bound_calls.specs.bound_forms.specs.Terms.{Env, a_routine, a_method, expression_of}
use Rattle.bound_members.specs.bound_calls.specs.bound_declarations.specs.constant_values.specs.declared_names.specs.binder.specs.Signatures.{reader, is_property, procedure_with, is_get}
use Rattle.bound_members.specs.bound_calls.specs.bound_declarations.specs.constant_values.specs.declared_names.specs.View.{space_view, written_view}
use Rattle.bound_members.specs.bound_calls.specs.declared.term.Property.{Property}
use Rattle.bound_members.specs.bound_calls.specs.declared.term.Routine.{Routine}
use Rattle.bound_members.specs.bound_calls.specs.declared.term.Term.TheVariants as term
use Rattle.bound_members.specs.bound_calls.specs.Steps.{MakesLeaf}
use Rattle.bound_members.specs.bound_calls.proofs.Growing.{grown_same}
use Rattle.bound_names.specs.Callee.{IsProperty, Reading, MakesRoutine}
use Rattle.bound_names.specs.Properties.{property_with}
use Rattle.bound_project.specs.declared.declared_type.DeclaredType.{DeclaredType}
use Rattle.bound_project.specs.Project.{nowhere}
use Rattle.bound_project.specs.View.{declared_view}
use Rattle.bound_project.specs.Expressions.{this}
use Rattle.vba_values.specs.Types.{Declared}
use Rattle.bound_members.specs.bound_calls.specs.bound_declarations.specs.constant_values.specs.declared_names.specs.binder.specs.Classes.{own_class}
use Rattle.bound_members.specs.bound_calls.specs.bound_forms.specs.ExpressionsBound.{own_object}
use Rattle.bound_members.specs.bound_calls.specs.declared.term.Receiver.{Receiver}
use Rattle.bound_members.specs.bound_calls.specs.declared.term.Receiver.TheVariants as receiver
use Rattle.bound_members.specs.bound_calls.specs.declared.term.Term.{Term}
use Rattle.bound_members.specs.bound_calls.specs.Standing.{IsReceiver, ReceiverStands}
use Rattle.bound_names.specs.declared.properties.Part.TheVariants as part

pub routine_reads : (env : Env) (called_of : Receiver) (space : Space) (number : ℕ) (written : Written) (read : ℕ × Written) (r : Routine) → reader env.scope space number written ≡ Some read → Reading env called_of space written read r
    → MakesRoutine env called_of space number written (term.Routine r)
routine_reads env called_of space number written read r reads h = record {
  named = λ t. tt;
  stands = λ t base ps below is pushed. record {
    routine = record {
      base = base;
      space = space;
      number = number;
      written = written;
      read = read;
      is = refl;
      received = subst (λ (q : Receiver). IsReceiver q base) (sym h.receiver_is) is;
      reads = reads;
      procedure_is = h.procedure_is;
      parameters_are = h.parameters_are;
      of_is = h.of_is;
      space_is = h.space_is;
      written_is = h.written_is;
      placed = h.placed;
    };
    pushed = subst (λ (q : Receiver). ReceiverStands q base ps below) (sym h.receiver_is) pushed;
  };
}

-- a procedure that is no property
pub plain_procedure : (env : Env) (called_of : Receiver) (space : Space) (number : ℕ) (written : Written) (r : Routine) → is_property written.kind ≡ false → Reading env called_of space written (number, written) r
    → MakesRoutine env called_of space number written (term.Routine r)
plain_procedure env called_of space number written r h k =
    routine_reads env called_of space number written (number, written) r (ap (λ (b : Bool). if b then procedure_with env.scope is_get space written.name else Some (number, written)) h) k

-- a property that has a Get, and one that has none
read_property : (env : Env) (space : Space) (number : ℕ) (written : Written) (found : Option (ℕ × Written)) → is_property written.kind ≡ true → found ≡ property_with part.Get env.scope space written.name
    → reader env.scope space number written ≡ found
read_property env space number written found h is = ap (λ (b : Bool). if b then procedure_with env.scope is_get space written.name else Some (number, written)) h ∙ sym is

pub property_read : (env : Env) (called_of : Receiver) (space : Space) (written : Written) (read : ℕ × Written) (r : Routine) → Some read ≡ property_with part.Get env.scope space written.name → Reading env called_of space written read r
    → IsProperty env called_of space written (term.Routine r)
property_read env called_of space written read r found k h number = routine_reads env called_of space number written read r (read_property env space number written (Some read) h found) k

pub property_unread : (env : Env) (p : Property) → None ≡ property_with part.Get env.scope (space_view p.space.now) (written_view p.written).name → slice_get env.scope.spaces (space_view p.space.now).number ≡ Some (space_view p.space.now)
    → IsProperty env p.receiver (space_view p.space.now) (written_view p.written) (term.Property p)
property_unread env p found placed h number = record {
  named = λ t. tt;
  stands = λ t base ps below is pushed. record {
    property = record { base = base; number = number; is = refl; received = is; placed = placed; pushed = pushed };
    unread = read_property env (space_view p.space.now) number (written_view p.written) None h found;
  };
}

-- ---- leaves

-- a procedure of a standard module
pub module_leaf : (env : Env) (space : Space) (number : ℕ) (written : Written) (x : Term) (d : Drafted) → MakesRoutine env receiver.Module space number written x → MakesLeaf env d d x (a_routine space number written)
module_leaf env space number written x d m = record { grown = grown_same d; pieces = refl; named = m.named d.tables; stands = λ ps. m.stands d.tables None ps ps tt refl }

-- one of the own object
pub own_leaf : (env : Env) (of : DeclaredType) (space : Space) (number : ℕ) (written : Written) (x : Term) (d : Drafted) → declared_view of ≡ own_class env.scope → MakesRoutine env (receiver.Own of) space number written x
    → MakesLeaf env d d x (a_method (own_object env) space number written)
own_leaf env of space number written x d is m = record {
  grown = grown_same d;
  pieces = refl;
  named = m.named d.tables;
  stands = λ ps. m.stands d.tables (Some (own_object env)) ps ps (ap (λ (u : Declared). expression_of this nowhere u) (sym is)) refl;
}
