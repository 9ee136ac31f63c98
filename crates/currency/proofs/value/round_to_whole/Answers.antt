use Rattle.std.proofs.Common.{◌≡◌, ap, ◌∙◌, FitsSigned, arith, rules, w64, lit<}
use Rattle.std.specs.Int.{w128}
use Rattle.std.proofs.lemmas.Int.{ints, to_z-of_z}
use Rattle.currency.specs.HalfEven.{half_even}
use Rattle.currency.proofs.HalfEvenLaws.{half_even-fits}
use Rattle.currency.proofs.value.round_to_whole.Goals as goal
use Rattle.currency.proofs.value.round_to_whole.Goals.{After-half_even}

result_is : (c : After-half_even) → c.half_even.result ≡ half_even c.args.value 10000
result_is c =
    let held : FitsSigned w64 c.value.inside.count = search rules in
    let wide : FitsSigned w128 c.from.result = search rules in
    c.half_even.ensures
    ∙ ap (λ z. half_even z 10000) (to_z-of_z w128 c.from.result wide ∙ c.from.ensures ∙ to_z-of_z w64 c.value.inside.count held ∙ c.value.view_is)

result_fits : (c : After-half_even) → FitsSigned w64 c.half_even.result
result_fits c =
    let held : FitsSigned w64 c.args.value = rw (← c.value.view_is) (search rules) in
    rw (result_is c) (half_even-fits w64 c.args.value 10000 (lit< tt) held)

pub overflow_cast-result : goal.overflow_cast-result
overflow_cast-result c = omega (arith, ints, result_fits c)

pub returns : goal.returns
returns c = omega (arith, ints, result_fits c, result_is c)
