use Rattle.std.proofs.Common.{ℕ, ◌==◌, Bool, ◌&&◌, Some, None, if◌then◌else◌, sym, ap, ◌∙◌}
use Rattle.std.proofs.lemmas.List.{length-map}
use Rattle.bound_members.specs.bound_calls.specs.bound_forms.specs.Operands.{are_places}
use Rattle.bound_members.specs.bound_calls.specs.Shapes.{shape_given, shapes_given}
use Rattle.bound_operands.proofs.untaken.led_rule.Goals as goal

pub returns : goal.returns
returns c =
    c.rule_if.ensures ∙ ap (λ (b : Bool). if b && (c.in_ok-long.long == c.args.count) then Some c.args.rule else None) c.are_places-are_numbers.ensures
    ∙ ap (λ (n : ℕ). if are_places (shapes_given c.args.shapes.now) && (n == c.args.count) then Some c.args.rule else None) (c.in_ok-long.ensures ∙ sym (length-map c.args.shapes.now shape_given))
