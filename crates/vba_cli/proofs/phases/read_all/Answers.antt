use Rattle.std.proofs.Common.{◌≡◌, ◌∙◌, suc, [], ◌∷◌, length, map, sym, ap, subst, arith, length-append}
use Rattle.std.proofs.lemmas.List.{map-append}
use Rattle.vba_cli.specs.Program.{each, module_of}
use Rattle.vba_cli.specs.Programs.{kept_view, module_view, modules_view}
use Rattle.vba_cli.proofs.Each.{EachGoesOn, each_more, each_refused, gives_by}
use Rattle.vba_cli.proofs.phases.read_all.Goals as goal

pub returns-in_err-read_one : goal.returns-in_err-read_one
returns-in_err-read_one c =
    let all = map kept_view c.args.kept.now in
    let left = map kept_view c.in-Some.rest.now in
    let first = kept_view c.in-Some.first.now in
    let modules = map module_view c.loop-first.modules.items in
    let number = suc (length c.loop-first.modules.items) in
    let on : EachGoesOn module_of all (first ∷ left) modules number =
    subst (λ ks. EachGoesOn module_of all ks modules number) (ap (map kept_view) c.in-Some.ensures.cases.0) c.loop-first.invariant in
    gives_by modules_view c.from_residual.result c.in_err-read_one.field-0.0 (module_of number first) (each module_of 1 all) c.from_residual.ensures.1 (c.in_err-read_one.ensures number)
    (λ refusal is. each_refused module_of all left first modules number refusal on is)

pub loop-first-preserved : goal.loop-first-preserved
loop-first-preserved c =
    let all = map kept_view c.args.kept.now in
    let left = map kept_view c.in-Some.rest.now in
    let first = kept_view c.in-Some.first.now in
    let old = c.loop-first.modules.items in
    let modules = map module_view old in
    let number = suc (length old) in
    let read = c.in_ok-read_one.field-0 in
    let on : EachGoesOn module_of all (first ∷ left) modules number =
    subst (λ ks. EachGoesOn module_of all ks modules number) (ap (map kept_view) c.in-Some.ensures.cases.0) c.loop-first.invariant in
    let items = c.in_ok-push.ensures.items in
    let more : suc number ≡ suc (length c.push.new.self.items) = omega (arith, ap length items, length-append old (read ∷ [])) in
    subst (λ k. EachGoesOn module_of all left (map module_view c.push.new.self.items) k) more
    (subst (λ ms. EachGoesOn module_of all left ms (suc number)) (sym (ap (map module_view) items ∙ map-append module_view old (read ∷ [])))
    (each_more module_of all left first (module_view read) modules number on (c.in_ok-read_one.ensures number)))
