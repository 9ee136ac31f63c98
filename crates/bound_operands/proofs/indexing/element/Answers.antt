use Rattle.std.proofs.Common.{sym, subst}
use Rattle.bound_members.specs.bound_calls.specs.Indexing.{EndsIndexed}
use Rattle.bound_members.specs.bound_calls.specs.declared.term.Term.{Term}
use Rattle.bound_operands.proofs.ElementEnds.{ends_place, ends_place_along, ends_value, ends_value_along, ends_variable}
use Rattle.bound_operands.proofs.indexing.element.Goals as goal

pub returns-in-Variable : goal.returns-in-Variable
returns-in-Variable c =
    let E : Term → Type 0 = λ (t : Term). EndsIndexed c.args.indexed t in subst E (sym c.place_element.ensures) (ends_variable c.args.indexed c.in-Variable.variable c.in-Variable.is c.requires.some c.requires.fits)

pub returns-in-Place : goal.returns-in-Place
returns-in-Place c =
    let E : Term → Type 0 = λ (t : Term). EndsIndexed c.args.indexed t in subst E (sym c.place_element-in-Place.ensures) (ends_place c.args.indexed c.in-Place.is c.requires.some c.requires.fits)

pub returns-in-Value : goal.returns-in-Value
returns-in-Value c = ends_value c.args.indexed c.in-Value.is c.requires.some

pub returns-in-PlaceAlong : goal.returns-in-PlaceAlong
returns-in-PlaceAlong c =
    let E : Term → Type 0 = λ (t : Term). EndsIndexed c.args.indexed t in subst E (sym c.place_element-in-PlaceAlong.ensures) (ends_place_along c.args.indexed c.in-PlaceAlong.is c.requires.some)

pub returns-in-ValueAlong : goal.returns-in-ValueAlong
returns-in-ValueAlong c = ends_value_along c.args.indexed c.in-ValueAlong.is c.requires.some

pub place_led-requires-clause-led : goal.place_led-requires-clause-led
place_led-requires-clause-led c = c.in-PlaceLed.is

pub value_led-requires-clause-led : goal.value_led-requires-clause-led
value_led-requires-clause-led c = c.in-ValueLed.is
