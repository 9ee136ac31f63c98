use Rattle.std.proofs.Common.{◌≡◌, ℕ, List, length, ap, ◌∙◌, arith}
use Rattle.std.proofs.lemmas.List.{length-map}
use Rattle.bound_project.specs.DraftView.{draft_view}
use Rattle.bound_calls.specs.bound_forms.specs.ExpressionsBound.{is_add}
use Rattle.bound_calls.specs.Shapes.{shape_given, shapes_given}
use Rattle.bound_calls.specs.Standing.{member_is}
use Rattle.bound_members.specs.Shapes.{takes_named}
use Rattle.bound_members.proofs.NamesTaken.{takes_all_named, takes_other, takes_unnamed}
use Rattle.bound_members.proofs.taking.member_takes.Goals as goal

pub returns-then-not-takes_arguments : goal.returns-then-not-takes_arguments
returns-then-not-takes_arguments c =
    let t = (draft_view c.args.draft.now).tables in
    let gs = shapes_given c.args.shapes.now in
    let long : c.in-Ok.count ≡ length gs = omega (arith, c.in-Ok.ensures, length-map c.args.shapes.now shape_given) in
    takes_other (member_is t c.args.member) gs c.in-Ok.count c.takes_arguments.result long (c.takes_arguments.ensures t) c.if-not-takes_arguments.true

pub returns-then-not-has_names : goal.returns-then-not-has_names
returns-then-not-has_names c =
    let t = (draft_view c.args.draft.now).tables in
    let gs = shapes_given c.args.shapes.now in
    let long : c.in-Ok.count ≡ length gs = omega (arith, c.in-Ok.ensures, length-map c.args.shapes.now shape_given) in
    takes_unnamed (member_is t c.args.member) gs c.in-Ok.count c.takes_arguments.result c.has_names.result long (c.takes_arguments.ensures t) c.if-not-takes_arguments.false c.has_names.ensures c.if-not-has_names.true

pub returns : goal.returns
returns c =
    let t = (draft_view c.args.draft.now).tables in
    let gs = shapes_given c.args.shapes.now in
    let m = c.args.member in
    let long : c.in-Ok.count ≡ length gs = omega (arith, c.in-Ok.ensures, length-map c.args.shapes.now shape_given) in
    takes_all_named (member_is t m) gs c.in-Ok.count c.takes_arguments.result c.has_names.result c.takes_named.result long (c.takes_arguments.ensures t) c.if-not-takes_arguments.false c.has_names.ensures c.if-not-has_names.false
    (c.takes_named.ensures t ∙ ap (λ (n : List ℕ). takes_named n m.greatest (is_add (member_is t m)) gs) c.name.ensures)
