use Rattle.std.proofs.Common.{rules, ◌≡◌, subst, sym, MatchOption, IsFalse, ◌*ℤ◌}
use Rattle.vba_values.specs.Whole.{fits}
use Rattle.vba_values.specs.declared.types.WholeKind.TheVariants as kind
use Rattle.vba_values.proofs.OtherOperators.{other_multiplies}
use Rattle.vba_values.proofs.arithmetic.exact.Goals as goal

pub returns-in_default : goal.returns-in_default
returns-in_default c =
    let told : MatchOption c.checked_mul.result (IsFalse (fits kind.LongLong (c.args.left *ℤ c.args.right))) (λ number. number ≡ c.args.left *ℤ c.args.right) = search rules in
    subst (λ z. MatchOption c.checked_mul.result (IsFalse (fits kind.LongLong z)) (λ number. number ≡ z))
    (sym (other_multiplies c.args.op c.args.left c.args.right c.in_default.not-Add c.in_default.not-Sub)) told
