use Rattle.std.proofs.Common.{◌≡◌, Bool, true, false, ◌&&◌, not, sym, ap, ◌∙◌}
use Rattle.declared_names.specs.binder.specs.Signatures.{is_property}
use Rattle.bound_terms.specs.bound_accesses.specs.bound_names.specs.bound_members.specs.bound_calls.specs.bound_forms.specs.Targets.{is_sub_kind}
use Rattle.bound_actions.proofs.NoTargets.{sub_kind}
use Rattle.bound_actions.proofs.no_targets.is_sub_kind.Goals as goal

pub returns-then-not-gives_value : goal.returns-then-not-gives_value
returns-then-not-gives_value c =
    ap (λ (b : Bool). not b) c.is_property.ensures ∙ sym (ap (λ (b : Bool). not b && not (is_property c.args.words)) (sym c.gives_value.ensures ∙ c.if-not-gives_value.true)) ∙ sub_kind c.args.words

pub returns-else-not-gives_value : goal.returns-else-not-gives_value
returns-else-not-gives_value c =
    let p : not c.gives_value.result ≡ false = ap (λ (b : Bool). not b) c.if-not-gives_value.false in
    let q : false ≡ is_sub_kind c.args.words = sym (ap (λ (b : Bool). not b && not (is_property c.args.words)) (sym c.gives_value.ensures ∙ c.if-not-gives_value.false)) ∙ sub_kind c.args.words in
    cc
