use Rattle.std.proofs.Common.{◌≡◌, ◌++◌, ℕ, List, map, take, drop, sym, ap, ◌∙◌, Bor}
use Rattle.std.proofs.lemmas.List.{drop-map}
use Rattle.std.proofs.lemmas.Result.{IfOk-weaker}
use Rattle.vba_values.specs.Val.{Val}
use Rattle.vba_values.specs.View.{view}
use Rattle.vba_meaning.specs.ByName.{in_parameter_order}
use Rattle.vba_meaning.specs.Effects.{slot_values}
use Rattle.run_memory.specs.declared.frame.Slot.{Slot}
use Rattle.run_memory.specs.View.{slot_view}
use Rattle.run_host.specs.ByName.{by_name_view, given_names, names_of, values_named}
use Rattle.run_host.proofs.Named.{ordered}
use Rattle.run_host.proofs.by_name.in_parameter_order.Goals as goal

pub returns : goal.returns
returns c =
    let by = by_name_view c.args.names in
    let n = c.args.names.before in
    let parameters = c.names_of_member-parameters.result.now in
    let xs : List (List ℕ) = map (λ w. w.now) parameters in
    let slots = c.args.slots.now in
    let order = names_of c.args.names.constants.now c.given_order-order.result.now in
    let values : List Slot → List Val = λ (l : List Slot). slot_values (map slot_view l) in
    let behind = c.split_slots.result.1.now in
    let given : values c.in_ok-given.given.items ≡ values_named xs n (drop n xs) (given_names xs by) (values (drop n slots)) =
    c.in_ok-given.ensures ∙ ap (λ (l : List (Bor (List ℕ))). values_named xs n (map (λ w. w.now) l) order (values behind)) c.names_from-left.ensures
    ∙ ap (λ (l : List (List ℕ)). values_named xs n l order (values behind)) (sym (drop-map (λ w. w.now) n parameters))
    ∙ ap (λ (o : List (List ℕ)). values_named xs n (drop n xs) o (values behind)) c.given_order-order.ensures
    ∙ ap (λ (l : List Slot). values_named xs n (drop n xs) (given_names xs by) (values l)) c.split_slots.ensures.behind in
    let made : values c.split_slots.result.0.now ++ values c.in_ok-given.given.items ≡ in_parameter_order (view c.args.base.now) c.args.name.now by (values slots) =
    ap (λ (l : List Slot). values l ++ values c.in_ok-given.given.items) c.split_slots.ensures.before ∙ ap (λ (l : List Val). values (take n slots) ++ l) given
    ∙ ordered (view c.args.base.now) c.args.name.now by xs slots c.names_of_member-parameters.ensures.names in
    IfOk-weaker c.with_copies.result _ _ (λ all h. h ∙ made) c.with_copies.ensures
