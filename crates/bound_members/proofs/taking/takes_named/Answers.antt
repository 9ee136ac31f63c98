use Rattle.std.proofs.Common.{◌≡◌, ◌≢◌, ℕ, ◌&&◌, Bool, List, Option, Some, refl, sym, ap, ◌∙◌}
use Rattle.bound_calls.specs.bound_forms.specs.ExpressionsBound.{is_add}
use Rattle.bound_calls.specs.Shapes.{shapes_given}
use Rattle.bound_calls.specs.Standing.{member_is}
use Rattle.bound_members.specs.Shapes.{item_given, names_from, takes_named}
use Rattle.bound_members.proofs.NamesTaken.{takes_some}
use Rattle.bound_members.proofs.taking.takes_named.Goals as goal

pub returns-then-names_taken : goal.returns-then-names_taken
returns-then-names_taken c = λ t.
    let gs = shapes_given c.args.shapes.now in
    let name : List ℕ = c.args.name.now in
    let adds : Bool = is_add (member_is t c.args.member) in
    let some : c.in-Some.greatest ≢ 0 = λ none.
    let is : c.args.member.greatest ≡ Some 0 = c.in-Some.is ∙ ap (λ (n : ℕ). Some n) none in
    c.in-Some.greatest-test.1 (rw is refl) in
    c.item_given.ensures t ∙ ap (λ b. b && item_given adds gs) (sym c.if-names_taken.true ∙ c.names_taken.ensures ∙ ap (λ (xs : List (List ℕ)). names_from xs 0 gs) c.known_parameters.ensures.names)
    ∙ sym (takes_some name c.in-Some.greatest adds gs some) ∙ ap (λ (o : Option ℕ). takes_named name o adds gs) (sym c.in-Some.is)
