use Rattle.std.proofs.Common.{◌≡◌, ℕ, Bool, true, false, List, sym, ap, subst, ◌∙◌}
use Rattle.std.specs.Prelude.{bytes_eq, codes, if◌then◌else◌}
use Rattle.vba_base.specs.declared.place.Place.{Place}
use Rattle.vba_values.specs.Types as type
use Rattle.bound_project.specs.Expressions.{err_value, err_number, err_source, err_description, no_exprs}
use Rattle.bound_names.specs.bound_members.specs.bound_calls.specs.bound_forms.specs.Terms.{Term, a_value, broken_value, err_raise, err_clear}
use Rattle.bound_names.specs.bound_members.specs.bound_calls.specs.bound_forms.specs.Members.{err_member}
use Rattle.bound_names.specs.bound_members.specs.bound_calls.specs.Steps.{MakesLeaf}
use Rattle.bound_names.proofs.NamedTerms.{leaf_as}
use Rattle.bound_accesses.proofs.members.err_member.Goals as goal

-- what Err tells, and what is asked next
abbrev number : Term
number = a_value (err_value err_number) type.long

abbrev source : Term
source = a_value (err_value err_source) type.text

abbrev description : Term
description = a_value (err_value err_description) type.text

abbrev behind_raise : Place → List ℕ → Term
behind_raise dot x = if bytes_eq x (codes "clear") then err_clear else broken_value 34 dot no_exprs

abbrev behind_description : Place → List ℕ → Term
behind_description dot x = if bytes_eq x (codes "raise") then err_raise else behind_raise dot x

abbrev behind_source : Place → List ℕ → Term
behind_source dot x = if bytes_eq x (codes "description") then description else behind_description dot x

abbrev behind_number : Place → List ℕ → Term
behind_number dot x = if bytes_eq x (codes "source") then source else behind_source dot x

number_is : (dot : Place) (x : List ℕ) → bytes_eq x (codes "number") ≡ true → err_member dot x ≡ number
number_is dot x a = ap (λ (b : Bool). if b then number else behind_number dot x) a

source_is : (dot : Place) (x : List ℕ) → bytes_eq x (codes "number") ≡ false → bytes_eq x (codes "source") ≡ true → err_member dot x ≡ source
source_is dot x a b = ap (λ (k : Bool). if k then number else behind_number dot x) a ∙ ap (λ (k : Bool). if k then source else behind_source dot x) b

-- neither its number nor its source
behind_both : (dot : Place) (x : List ℕ) → bytes_eq x (codes "number") ≡ false → bytes_eq x (codes "source") ≡ false → err_member dot x ≡ behind_source dot x
behind_both dot x a b = ap (λ (k : Bool). if k then number else behind_number dot x) a ∙ ap (λ (k : Bool). if k then source else behind_source dot x) b

description_is : (dot : Place) (x : List ℕ) → bytes_eq x (codes "number") ≡ false → bytes_eq x (codes "source") ≡ false → bytes_eq x (codes "description") ≡ true → err_member dot x ≡ description
description_is dot x a b e = behind_both dot x a b ∙ ap (λ (k : Bool). if k then description else behind_description dot x) e

none_is : (dot : Place) (x : List ℕ) → bytes_eq x (codes "number") ≡ false → bytes_eq x (codes "source") ≡ false → bytes_eq x (codes "description") ≡ false → bytes_eq x (codes "raise") ≡ false → bytes_eq x (codes "clear") ≡ false
    → err_member dot x ≡ broken_value 34 dot no_exprs
none_is dot x a b e f g =
    behind_both dot x a b ∙ ap (λ (k : Bool). if k then description else behind_description dot x) e ∙ ap (λ (k : Bool). if k then err_raise else behind_raise dot x) f
    ∙ ap (λ (k : Bool). if k then err_clear else broken_value 34 dot no_exprs) g

pub returns-then-is_word : goal.returns-then-is_word
returns-then-is_word c =
    let x = c.units-text.result.now in
    λ env d.
    let A : List ℕ → Type 0 = λ (y : List ℕ). MakesLeaf env d d c.err_value.result (err_member c.args.dot y) in
    subst A c.units-text.ensures (leaf_as env d d c.err_value.result number (err_member c.args.dot x) (sym (number_is c.args.dot x (sym c.is_word.ensures ∙ c.if-is_word.true))) (c.err_value.ensures env d))

pub returns-then-is_word-2 : goal.returns-then-is_word-2
returns-then-is_word-2 c =
    let x = c.units-text.result.now in
    λ env d.
    let A : List ℕ → Type 0 = λ (y : List ℕ). MakesLeaf env d d c.err_value-then-is_word-2.result (err_member c.args.dot y) in
    subst A c.units-text.ensures
    (leaf_as env d d c.err_value-then-is_word-2.result source (err_member c.args.dot x) (sym (source_is c.args.dot x (sym c.is_word.ensures ∙ c.if-is_word.false) (sym c.is_word-else-is_word.ensures ∙ c.if-is_word-2.true)))
    (c.err_value-then-is_word-2.ensures env d))

pub returns-then-is_word-3 : goal.returns-then-is_word-3
returns-then-is_word-3 c =
    let x = c.units-text.result.now in
    λ env d.
    let A : List ℕ → Type 0 = λ (y : List ℕ). MakesLeaf env d d c.err_value-then-is_word-3.result (err_member c.args.dot y) in
    subst A c.units-text.ensures
    (leaf_as env d d c.err_value-then-is_word-3.result description (err_member c.args.dot x)
    (sym (description_is c.args.dot x (sym c.is_word.ensures ∙ c.if-is_word.false) (sym c.is_word-else-is_word.ensures ∙ c.if-is_word-2.false) (sym c.is_word-else-is_word-2.ensures ∙ c.if-is_word-3.true)))
    (c.err_value-then-is_word-3.ensures env d))

pub returns-else-is_word-5 : goal.returns-else-is_word-5
returns-else-is_word-5 c =
    let x = c.units-text.result.now in
    λ env d.
    let A : List ℕ → Type 0 = λ (y : List ℕ). MakesLeaf env d d c.no_err_member.result (err_member c.args.dot y) in
    subst A c.units-text.ensures
    (leaf_as env d d c.no_err_member.result (broken_value 34 c.args.dot no_exprs) (err_member c.args.dot x)
    (sym (none_is c.args.dot x (sym c.is_word.ensures ∙ c.if-is_word.false) (sym c.is_word-else-is_word.ensures ∙ c.if-is_word-2.false) (sym c.is_word-else-is_word-2.ensures ∙ c.if-is_word-3.false)
    (sym c.is_word-else-is_word-3.ensures ∙ c.if-is_word-4.false) (sym c.is_word-else-is_word-4.ensures ∙ c.if-is_word-5.false)))
    (c.no_err_member.ensures env d))
