-- Two kinds are one exactly where they stand for one.
use Rattle.std.proofs.Common.{◌≡◌, true, false, refl, ap}
use Rattle.vba_tree.specs.declared.procedure.ProcedureKind.{ProcedureKind}
use Rattle.vba_tree.specs.declared.procedure.ProcedureKind.TheVariants as procedure_kind
use Rattle.vba_module.specs.Blocks.{same_procedure, same_kind}
use Rattle.module_parts.specs.Brackets.{kind_view}
use Rattle.module_parts.specs.declared.bracket.BlockKind.{BlockKind}
use Rattle.module_parts.specs.declared.bracket.BlockKind.TheVariants as kind

same_procedure_itself : (a : ProcedureKind) → same_procedure a a ≡ true
same_procedure_itself procedure_kind.Sub = refl
same_procedure_itself procedure_kind.Function = refl
same_procedure_itself procedure_kind.Property = refl

same_kind_itself : (a : BlockKind) → same_kind (kind_view a) (kind_view a) ≡ true
same_kind_itself (kind.Procedure procedure) = same_procedure_itself procedure
same_kind_itself kind.Enum = refl
same_kind_itself kind.Type = refl
same_kind_itself kind.If = refl
same_kind_itself kind.Select = refl
same_kind_itself kind.For = refl
same_kind_itself kind.Do = refl
same_kind_itself kind.While = refl
same_kind_itself kind.With = refl

pub one_kind : (a b : BlockKind) → a ≡ b → same_kind (kind_view a) (kind_view b) ≡ true
one_kind a b same = rw (same) (same_kind_itself b)

other_procedure : (a b : ProcedureKind) → (a ≡ b → ⊥) → same_procedure a b ≡ false
other_procedure procedure_kind.Sub procedure_kind.Sub apart = absurd (apart refl)
other_procedure procedure_kind.Function procedure_kind.Function apart = absurd (apart refl)
other_procedure procedure_kind.Property procedure_kind.Property apart = absurd (apart refl)
other_procedure a b apart = refl

pub other_kind : (a b : BlockKind) → (a ≡ b → ⊥) → same_kind (kind_view a) (kind_view b) ≡ false
other_kind (kind.Procedure a) (kind.Procedure b) apart = other_procedure a b (λ same. apart (ap kind.Procedure same))
other_kind kind.Enum kind.Enum apart = absurd (apart refl)
other_kind kind.Type kind.Type apart = absurd (apart refl)
other_kind kind.If kind.If apart = absurd (apart refl)
other_kind kind.Select kind.Select apart = absurd (apart refl)
other_kind kind.For kind.For apart = absurd (apart refl)
other_kind kind.Do kind.Do apart = absurd (apart refl)
other_kind kind.While kind.While apart = absurd (apart refl)
other_kind kind.With kind.With apart = absurd (apart refl)
other_kind a b apart = refl
