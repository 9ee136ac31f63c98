-- An operator of one operand in the place of one of two is a comparison that never holds.
use Rattle.std.proofs.Common.{◌≡◌, Bool, true, false, refl}
use Rattle.std.specs.Prelude.{Result, Ok, Err, if◌then◌else◌}
use Rattle.std.specs.declared.cmp.Ordering.{Ordering}
use Rattle.std.specs.declared.cmp.Ordering.TheVariants.{Less, Equal, Greater}
use Rattle.vba_values.specs.declared.fault.Bad.{Bad}
use Rattle.vba_values.specs.declared.types.OpKind.{OpKind}
use Rattle.vba_values.specs.declared.types.OpKind.TheVariants as op
use Rattle.vba_values.specs.declared.types.Compare.{Compare}
use Rattle.vba_values.specs.Types.{Declared}
use Rattle.vba_values.specs.Val.{Val, null}
use Rattle.vba_values.specs.Comparison.{answer_of}
use Rattle.vba_values.specs.Operators.{binary_of, has_two_operands}
use Rattle.pcode_vm.specs.Odd.{without_truth}

abbrev pub truthless : Result Val Bad → Result Val Bad
truthless (Ok v) = Ok (without_truth v)
truthless (Err bad) = Err bad

neg_answer : (a b : Bool) (bad : Bad) (r : Result Ordering Bad)
    → (if a then Err bad else if b then Ok null else answer_of op.Neg r) ≡ truthless (if a then Err bad else if b then Ok null else answer_of op.Eq r)
neg_answer true b bad r = refl
neg_answer false true bad r = refl
neg_answer false false bad (Ok Less) = refl
neg_answer false false bad (Ok Equal) = refl
neg_answer false false bad (Ok Greater) = refl
neg_answer false false bad (Err other) = refl

not_answer : (a b : Bool) (bad : Bad) (r : Result Ordering Bad)
    → (if a then Err bad else if b then Ok null else answer_of op.Not r) ≡ truthless (if a then Err bad else if b then Ok null else answer_of op.Eq r)
not_answer true b bad r = refl
not_answer false true bad r = refl
not_answer false false bad (Ok Less) = refl
not_answer false false bad (Ok Equal) = refl
not_answer false false bad (Ok Greater) = refl
not_answer false false bad (Err other) = refl

pub odd_binary : (o : OpKind) (l : Val) (ld : Declared) (r : Val) (rd : Declared) (c : Compare) → has_two_operands o ≡ false
    → binary_of o l ld r rd c ≡ truthless (binary_of op.Eq l ld r rd c)
odd_binary op.Neg l ld r rd c h = neg_answer _ _ _ _
odd_binary op.Not l ld r rd c h = not_answer _ _ _ _
odd_binary op.Add l ld r rd c h = absurd cc
odd_binary op.Sub l ld r rd c h = absurd cc
odd_binary op.Mul l ld r rd c h = absurd cc
odd_binary op.IntDiv l ld r rd c h = absurd cc
odd_binary op.Mod l ld r rd c h = absurd cc
odd_binary op.Divide l ld r rd c h = absurd cc
odd_binary op.Power l ld r rd c h = absurd cc
odd_binary op.Join l ld r rd c h = absurd cc
odd_binary op.Eq l ld r rd c h = absurd cc
odd_binary op.Ne l ld r rd c h = absurd cc
odd_binary op.Lt l ld r rd c h = absurd cc
odd_binary op.Le l ld r rd c h = absurd cc
odd_binary op.Gt l ld r rd c h = absurd cc
odd_binary op.Ge l ld r rd c h = absurd cc
odd_binary op.And l ld r rd c h = absurd cc
odd_binary op.Or l ld r rd c h = absurd cc
odd_binary op.Xor l ld r rd c h = absurd cc
odd_binary op.Eqv l ld r rd c h = absurd cc
odd_binary op.Imp l ld r rd c h = absurd cc
