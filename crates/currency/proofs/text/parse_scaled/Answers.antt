use Rattle.std.proofs.Common.{◌≡◌, ap, ◌∙◌, ℕ, Err}
use Rattle.std.specs.Prelude.{min}
use Rattle.currency.specs.declared.cut.Cut.{Cut}
use Rattle.currency.specs.declared.text.ParseFault.TheVariants.{NotNumber, OutOfRange}
use Rattle.currency.specs.Cut.{greatest, rounded_size}
use Rattle.currency.specs.NumberText.{signed}
use Rattle.currency.specs.Parsed.{ranged_numeral, parsed}
use Rattle.currency.specs.Range.{ranged}
use Rattle.currency.specs.View.{numeral_of}
use Rattle.currency.proofs.ParsedLaws.{ranged_cut, parsed-not_number}
use Rattle.currency.proofs.text.parse_scaled.Goals as goal
use Rattle.currency.proofs.text.parse_scaled.Goals.{After-signed}

parsed_is : (c : After-signed) → c.signed.result ≡ parsed c.args.places c.args.text.now
parsed_is c =
    let n = numeral_of c.in-Some.numeral in
    let places = c.args.places in
    let size = λ (cut : Cut). min (rounded_size cut.size cut.rest) greatest in
    c.signed.ensures
    ∙ ap (λ (k : ℕ). ranged OutOfRange (signed n.negative k)) (c.rounded.ensures ∙ ap size c.of.ensures)
    ∙ ranged_cut OutOfRange places n
    ∙ ap (ranged_numeral places) c.in-Some.ensures.number

pub returns-in-Some-clause-number : goal.returns-in-Some-clause-number
returns-in-Some-clause-number c = parsed_is c

pub returns-in-Some-clause-not_number : goal.returns-in-Some-clause-not_number
returns-in-Some-clause-not_number c = parsed-not_number c.args.places c.args.text.now c.signed.result (parsed_is c)

pub returns-in-None-clause-not_number : goal.returns-in-None-clause-not_number
returns-in-None-clause-not_number c =
    parsed-not_number c.args.places c.args.text.now (Err NotNumber) (ap (ranged_numeral c.args.places) c.in-None.ensures.number)
