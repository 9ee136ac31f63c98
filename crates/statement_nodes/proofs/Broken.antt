-- Statements that break a static rule.
use Rattle.std.proofs.Common.{◌≡◌, ℕ, Bool, true, false, ◌||◌, List, [], ◌∷◌, refl, ◌∙◌, sym, ap, subst}
use Rattle.std.specs.Prelude.{Option, Some, not, if◌then◌else◌, option_map, option_and_then}
use Rattle.vba_base.specs.declared.place.Place.{Place}
use Rattle.bound_project.specs.declared.declared_type.DeclaredType.{DeclaredType}
use Rattle.bound_project.specs.declared.declared_type.DeclaredType.TheVariants.{ArrayOf, Plain}
use Rattle.bound_project.specs.declared.declared_type.ElementType.{ElementType}
use Rattle.bound_project.specs.declared.declared_type.ElementType.TheVariants as element
use Rattle.bound_project.specs.declared.declared_type.ElementType.TheVariants.{Variant}
use Rattle.bound_project.specs.declared.node.NodeKind.TheVariants as node
use Rattle.bound_project.specs.declared.statement.ActionKind.{ActionKind}
use Rattle.bound_project.specs.declared.statement.ActionKind.TheVariants as kind
use Rattle.bound_project.specs.declared.variable.Variable.{Variable}
use Rattle.bound_project.specs.Expressions as bound
use Rattle.bound_project.specs.Expressions.{no_exprs, also}
use Rattle.bound_project.specs.Statements as to
use Rattle.bound_project.specs.Statements.{Action}
use Rattle.bound_project.specs.Pieces.{an_expr, put}
use Rattle.bound_project.specs.Bodies.{action_of}
use Rattle.bound_project.specs.Drafts.{Drafted}
use Rattle.bound_project.specs.View.{declared_view, element_view, variable_view}
use Rattle.vba_values.specs.Types.{Declared}
use Rattle.bound_calls.specs.bound_declarations.specs.constant_values.specs.declared_names.specs.binder.specs.Constants.{is_variant}
use Rattle.bound_calls.specs.bound_declarations.specs.constant_values.specs.declared_names.specs.binder.specs.Types.{is_object}
use Rattle.bound_calls.specs.bound_declarations.specs.constant_values.specs.declared_names.specs.binder.specs.Numbering.{Opened, Standing}
use Rattle.bound_calls.specs.bound_forms.specs.Terms.{Env, broken_rule}
use Rattle.bound_calls.specs.bound_forms.specs.Operands.{place_told}
use Rattle.bound_calls.specs.bound_forms.specs.ExpressionsBound.{bound_as_given}
use Rattle.bound_calls.specs.bound_forms.specs.StatementsBound.{if_broken, cannot_count, is_counting, goes_over, for_each_of, walked, line_of, counter_of, loop_name, loop_variable}
use Rattle.vba_words.specs.declared.identifier.Identifier.{Identifier}
use Rattle.vba_expression.specs.Tree.{Expr}
use Rattle.vba_tree.specs.Tree.{StepClause}
use Rattle.bound_calls.specs.Calls.{node_of}
use Rattle.statement_nodes.specs.Pushed.{ActionPushed}
use Rattle.statement_nodes.specs.Actions.{GroupPushed, Walks, counted_in, for_in}

pub rule_marked : (rule : ℕ) (place : Place) (d e : Drafted) → d.pieces ≡ []
    → e ≡ record d { pieces = put d.tables (node_of (node.Marked (record { rule = rule; place = place }) 0) place (Plain Variant)) d.pieces }
    → ActionPushed kind.Evaluate (Some (to.evaluate (broken_rule rule place no_exprs))) d e
rule_marked rule place d e empty is =
    let P : Drafted → Type 0 = λ x. ActionPushed kind.Evaluate (Some (to.evaluate (broken_rule rule place no_exprs))) d x in
    let n = node_of (node.Marked (record { rule = rule; place = place }) 0) place (Plain Variant) in
    subst P (sym is) (record {
      statements = refl;
      bodies = refl;
      named = tt;
      made = to.evaluate (broken_rule rule place no_exprs);
      is = refl;
      fits = ap (λ ps. action_of d.tables kind.Evaluate (put d.tables n ps)) empty;
    })

-- ---- the variables of loops

-- a For with a variable that can't count
cannot : (x : bound.Variable) (named : Option bound.Variable) (k : ActionKind) (place : Place) (counted : Option Action) (d e : Drafted) → Some x ≡ named → is_counting x.of ≡ false
    → ActionPushed k (Some (to.evaluate (broken_rule 29 place no_exprs))) d e → ActionPushed k (if_broken (cannot_count named) 29 place counted) d e
cannot x named k place counted d e name counts h =
    let is : if_broken (cannot_count named) 29 place counted ≡ Some (to.evaluate (broken_rule 29 place no_exprs)) =
    ap (λ o. if_broken (cannot_count o) 29 place counted) (sym name) ∙ ap (λ b. if_broken (not b) 29 place counted) counts in
    subst (λ o. ActionPushed k o d e) (sym is) h

-- a For with one that can
can : (x : bound.Variable) (named : Option bound.Variable) (k : ActionKind) (place : Place) (counted : Option bound.Variable → Option Action) (d e : Drafted) → Some x ≡ named → is_counting x.of ≡ true
    → ActionPushed k (counted (Some x)) d e → ActionPushed k (if_broken (cannot_count named) 29 place (counted named)) d e
can x named k place counted d e name counts h =
    let is : if_broken (cannot_count named) 29 place (counted named) ≡ counted (Some x) =
    ap (λ o. if_broken (cannot_count o) 29 place (counted o)) (sym name) ∙ ap (λ b. if_broken (not b) 29 place (counted (Some x))) counts in
    subst (λ o. ActionPushed k o d e) (sym is) h

pub for_counted : (env : Env) (s : Standing) (x : Identifier) (start limit : Expr) (step : Option StepClause) (v : bound.Variable) (k : ActionKind) (d e : Drafted) → Some v ≡ loop_variable env x → is_counting v.of ≡ true
    → ActionPushed k (counted_in env s (Some v) start limit step) d e → ActionPushed k (for_in env s x start limit step) d e
for_counted env s x start limit step v k d e name counts h = can v (loop_variable env x) k x.token.place (λ o. counted_in env s o start limit step) d e name counts h

pub for_broken : (env : Env) (s : Standing) (x : Identifier) (start limit : Expr) (step : Option StepClause) (v : bound.Variable) (k : ActionKind) (d e : Drafted) → Some v ≡ loop_variable env x → is_counting v.of ≡ false
    → ActionPushed k (Some (to.evaluate (broken_rule 29 x.token.place no_exprs))) d e → ActionPushed k (for_in env s x start limit step) d e
for_broken env s x start limit step v k d e name counts h = cannot v (loop_variable env x) k x.token.place (counted_in env s (loop_variable env x) start limit step) d e name counts h

-- what a For Each goes over, by its type
plain_over : (control : Declared) (of : ElementType) → goes_over control (element_view of) ≡ (is_variant control || is_object control)
plain_over control element.Boolean = refl
plain_over control of = refl

pub over_array : (control : Declared) (group : DeclaredType) (of : ElementType) (found : Bool) → group ≡ ArrayOf of → found ≡ is_variant control → found ≡ goes_over control (declared_view group)
over_array control group of found is found_is = found_is ∙ sym (ap (λ (g : DeclaredType). goes_over control (declared_view g)) is)

pub over_plain : (control : Declared) (group : DeclaredType) (of : ElementType) (found : Bool) → group ≡ Plain of → found ≡ (is_variant control || is_object control) → found ≡ goes_over control (declared_view group)
over_plain control group of found is found_is = found_is ∙ sym (ap (λ (g : DeclaredType). goes_over control (declared_view g)) is ∙ plain_over control of)

-- a For Each with a variable that may go over its group, and with one that may not
each_made : (env : Env) (named : Option bound.Variable) (group : Expr) (place at : Place) (first behind : ℕ) (x : bound.Variable) (made : bound.Expr) (fits : Bool) → Some x ≡ named → bound_as_given env group ≡ Some made
    → goes_over x.of (bound.operand_type made) ≡ fits
    → option_and_then (λ (v : bound.Variable). option_map (for_each_of env v place at first behind) (bound_as_given env group)) named
    ≡ Some (if fits then to.for_each x (walked env at made) first behind else to.evaluate (broken_rule 29 place (also made no_exprs)))
each_made env named group place at first behind x made fits name is goes =
    ap (λ o. option_and_then (λ (v : bound.Variable). option_map (for_each_of env v place at first behind) (bound_as_given env group)) o) (sym name)
    ∙ ap (λ o. option_map (for_each_of env x place at first behind) o) is
    ∙ ap (λ b. Some (if b then to.for_each x (walked env at made) first behind else to.evaluate (broken_rule 29 place (also made no_exprs)))) goes

pub each_goes : (env : Env) (control : Variable) (named : Option bound.Variable) (group : Expr) (of : DeclaredType) (place at : Place) (may : Bool) (first behind : ℕ) (d e g : Drafted)
    → d.pieces ≡ [] → Some (variable_view control) ≡ named → GroupPushed env group of at (Some may) d e → goes_over (declared_view control.of) (declared_view of) ≡ true → Walks may of at e g
    → ActionPushed (kind.ForEach control first behind) (option_and_then (λ v. option_map (for_each_of env v place (place_told group) first behind) (bound_as_given env group)) named) d g
each_goes env control named group of place at may first behind d e g empty name t goes w =
    let v = t.pushed in
    let found = λ (p : Place). option_and_then (λ (x : bound.Variable). option_map (for_each_of env x place p first behind) (bound_as_given env group)) named in
    let P : Place → Type 0 = λ (p : Place). ActionPushed (kind.ForEach control first behind) (found p) d g in
    subst P t.place_is (record {
      statements = w.same.statements ∙ v.same.statements;
      bodies = w.same.bodies ∙ v.same.bodies;
      named = tt;
      made = to.for_each (variable_view control) (walked env at v.pushed.made) first behind;
      is = each_made env named group place at first behind (variable_view control) v.pushed.made true name v.pushed.is (ap (λ u. goes_over (declared_view control.of) u) v.pushed.operand ∙ goes);
      fits =
          ap (action_of g.tables (kind.ForEach control first behind))
          (w.stands env v.pushed.made d.pieces t.may_is v.pushed.operand v.pushed.on_top ∙ ap (λ ps. an_expr (walked env at v.pushed.made) ∷ ps) empty);
    })

pub each_stays : (env : Env) (control : Variable) (named : Option bound.Variable) (group : Expr) (of : DeclaredType) (place at : Place) (may : Option Bool) (first behind : ℕ) (d e g : Drafted)
    → d.pieces ≡ [] → Some (variable_view control) ≡ named → GroupPushed env group of at may d e → goes_over (declared_view control.of) (declared_view of) ≡ false
    → g ≡ record e { pieces = put e.tables (node_of (node.Marked (record { rule = 29; place = place }) 1) place (Plain Variant)) e.pieces }
    → ActionPushed kind.Evaluate (option_and_then (λ v. option_map (for_each_of env v place (place_told group) first behind) (bound_as_given env group)) named) d g
each_stays env control named group of place at may first behind d e g empty name t goes is =
    let v = t.pushed in
    let n = node_of (node.Marked (record { rule = 29; place = place }) 1) place (Plain Variant) in
    let found = option_and_then (λ (x : bound.Variable). option_map (for_each_of env x place (place_told group) first behind) (bound_as_given env group)) named in
    let P : Drafted → Type 0 = λ x. ActionPushed kind.Evaluate found d x in
    subst P (sym is) (record {
      statements = v.same.statements;
      bodies = v.same.bodies;
      named = tt;
      made = to.evaluate (broken_rule 29 place (also v.pushed.made no_exprs));
      is = each_made env named group place (place_told group) first behind (variable_view control) v.pushed.made false name v.pushed.is (ap (λ u. goes_over (declared_view control.of) u) v.pushed.operand ∙ goes);
      fits = ap (λ ps. action_of e.tables kind.Evaluate (put e.tables n ps)) (v.pushed.on_top ∙ ap (λ ps. an_expr v.pushed.made ∷ ps) empty);
    })

-- ---- the name behind Next

pub loop_named : (around os : List Opened) (o : Opened) (name : Option Identifier) → around ≡ o ∷ os → name ≡ option_and_then counter_of (line_of o.line) → name ≡ loop_name around
loop_named around os o name opened is = is ∙ sym (ap (λ (l : List Opened). loop_name l) opened)

-- it is another one
pub other_named : (k : ActionKind) (place : Place) (other : Bool) (action : Option Action) (d e : Drafted) → other ≡ true → ActionPushed k (Some (to.evaluate (broken_rule 29 place no_exprs))) d e
    → ActionPushed k (if_broken other 29 place action) d e
other_named k place other action d e is h = subst (λ b. ActionPushed k (if_broken b 29 place action) d e) (sym is) h

pub same_named : (k : ActionKind) (place : Place) (other : Bool) (action : Option Action) (d e : Drafted) → other ≡ false → ActionPushed k action d e → ActionPushed k (if_broken other 29 place action) d e
same_named k place other action d e is h = subst (λ b. ActionPushed k (if_broken b 29 place action) d e) (sym is) h
