use Rattle.std.proofs.Common.{None, cond, ap, sym, ◌∙◌}
use Rattle.pcode.specs.WellFormed.{path_off}
use Rattle.code_check.specs.Effects.{takes_off, values_off}
use Rattle.code_check.specs.View.{operands_view}
use Rattle.code_check.proofs.operands.Operands.take.Goals as goal

pub returns-then-take_any : goal.returns-then-take_any
returns-then-take_any c = λ go.
    ap (λ t. takes_off t (operands_view c.args.self.now) go) c.in-CountedAndValues.is
    ∙ c.take_any.ensures (λ js. values_off c.in-CountedAndValues.values js go)
    ∙ ap (λ b. cond b (values_off c.in-CountedAndValues.values (operands_view c.take_any.new.self) go) None) c.if-take_any.true
    ∙ c.take_values-then-take_any.ensures go

pub returns-else-take_any : goal.returns-else-take_any
returns-else-take_any c = λ go.
    ap (λ t. takes_off t (operands_view c.args.self.now) go) c.in-CountedAndValues.is
    ∙ c.take_any.ensures (λ js. values_off c.in-CountedAndValues.values js go)
    ∙ ap (λ b. cond b (values_off c.in-CountedAndValues.values (operands_view c.take_any.new.self) go) None) c.if-take_any.false
    ∙ sym (ap (λ b. cond b (go (operands_view c.take_any.new.self)) None) c.if-take_any.false)

pub returns-then-take_any-2 : goal.returns-then-take_any-2
returns-then-take_any-2 c = λ go.
    ap (λ t. takes_off t (operands_view c.args.self.now) go) c.in-CountedPathAndValues.is
    ∙ c.take_any-in-CountedPathAndValues.ensures (λ js. path_off js (λ is. values_off c.in-CountedPathAndValues.values is go))
    ∙ ap (λ b. cond b (path_off (operands_view c.take_any-in-CountedPathAndValues.new.self) (λ is. values_off c.in-CountedPathAndValues.values is go)) None) c.if-take_any-2.true
    ∙ c.take_path_and_values-then-take_any-2.ensures go

pub returns-else-take_any-2 : goal.returns-else-take_any-2
returns-else-take_any-2 c = λ go.
    ap (λ t. takes_off t (operands_view c.args.self.now) go) c.in-CountedPathAndValues.is
    ∙ c.take_any-in-CountedPathAndValues.ensures (λ js. path_off js (λ is. values_off c.in-CountedPathAndValues.values is go))
    ∙ ap (λ b. cond b (path_off (operands_view c.take_any-in-CountedPathAndValues.new.self) (λ is. values_off c.in-CountedPathAndValues.values is go)) None) c.if-take_any-2.false
    ∙ sym (ap (λ b. cond b (go (operands_view c.take_any-in-CountedPathAndValues.new.self)) None) c.if-take_any-2.false)
