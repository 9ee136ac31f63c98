-- What the nodes of a statement say is what is added.
use Rattle.std.proofs.Common.{◌≡◌, ℕ, pos, Bool, true, List, [], ◌∷◌, ◌++◌, refl, ◌∙◌, sym, ap}
use Rattle.std.specs.Prelude.{Option, Some, is_some, option_map}
use Rattle.vba_base.specs.declared.place.Place.{Place}
use Rattle.vba_values.specs.declared.types.Compare.{Compare}
use Rattle.vba_values.specs.declared.types.WholeKind.TheVariants as kind_of_whole
use Rattle.vba_values.specs.Types as type
use Rattle.vba_values.specs.Val.{Val, whole as whole_value}
use Rattle.bound_project.specs.declared.declared_type.DeclaredType.{DeclaredType}
use Rattle.bound_project.specs.declared.declared_type.DeclaredType.TheVariants.{Plain}
use Rattle.bound_project.specs.declared.declared_type.ElementType.TheVariants as element
use Rattle.bound_project.specs.declared.variable.Variable.{Variable}
use Rattle.bound_project.specs.declared.statement.ActionKind.{ActionKind}
use Rattle.bound_project.specs.declared.statement.ActionKind.TheVariants as kind
use Rattle.bound_project.specs.Expressions as bound
use Rattle.bound_project.specs.Expressions.{expr, constant, operand_type, Prints}
use Rattle.bound_project.specs.Statements.{Action, Tests, Resizes, Arrays}
use Rattle.bound_project.specs.Statements as to
use Rattle.bound_project.specs.Pieces.{Tables, Piece, an_expr, as_operand, prints_off, tests_off, resizes_off, arrays_off}
use Rattle.bound_project.specs.Bodies.{action_of, action_or, handling_view, whole}
use Rattle.bound_project.specs.Drafts.{Drafted, ActionNamed, statement_of}
use Rattle.bound_project.specs.View.{declared_view, variable_view}
use Rattle.bound_calls.specs.bound_declarations.specs.constant_values.specs.declared_names.specs.binder.specs.Options.{from_two}
use Rattle.bound_calls.specs.bound_declarations.specs.constant_values.specs.declared_names.specs.binder.specs.Constants.{compare_in}
use Rattle.bound_calls.specs.bound_declarations.specs.constant_values.specs.declared_names.specs.binder.specs.Numbering.{Opened, Standing}
use Rattle.bound_calls.specs.bound_forms.specs.Terms.{Within, Env}
use Rattle.bound_calls.specs.bound_forms.specs.StatementsBound.{Around, with_or, within, integer, one_statement, simple_action, env_at, for_action, next_action, line_of, loop_variable, selected}
use Rattle.bound_calls.specs.bound_declarations.specs.constant_values.specs.declared_names.specs.binder.specs.Blocks.{header_of}
use Rattle.bound_calls.specs.bound_forms.specs.ExpressionsBound.{bound_operand}
use Rattle.vba_lexer.specs.declared.token.Token.{Token}
use Rattle.vba_words.specs.declared.identifier.Identifier.{Identifier}
use Rattle.vba_expression.specs.Tree.{Expr}
use Rattle.vba_tree.specs.Tree as tree
use Rattle.vba_tree.specs.Tree.{Simple, BlockLine}
use Rattle.bound_calls.specs.Steps.{Binds}
use Rattle.statement_nodes.specs.Pushed.{ActionPushed}
use Rattle.statement_nodes.specs.Actions.{is_alone, done_alone, KindFits, OperandIs, Selects, ValuePushed, ForValues, simple_in}
use Rattle.statement_nodes.specs.Reads.{Read}
use Rattle.statement_nodes.specs.Walks.{Added}
use Rattle.statement_nodes.proofs.Rounds.{no_object}

-- a statement that was pushed may be added
pub kind_fits : (k : ActionKind) (found : Option Action) (d e : Drafted) → ActionPushed k found d e → KindFits k e
kind_fits k found d e h = record { named = h.named; fits = ap is_some h.fits }

-- and then it is
pub ended : (k : ActionKind) (found : Option Action) (base d e : Drafted) (place : Place) (next : ℕ) → ActionPushed k found base d
    → e ≡ record d { pieces = []; statements = d.statements ++ statement_of d.tables k d.pieces place next ∷ [] }
    → Added (one_statement place next found) base e
ended k found base d e place next p is = record {
  made = record { action = p.made; place = place; next = next } ∷ [];
  is = ap (one_statement place next) p.is;
  statements =
      ap (λ (x : Drafted). x.statements) is
      ∙ (ap (λ (a : Option Action). d.statements ++ record { action = action_or a; place = place; next = next } ∷ []) p.fits
      ∙ ap (λ xs. xs ++ record { action = p.made; place = place; next = next } ∷ []) p.statements);
  bodies = ap (λ (x : Drafted). x.bodies) is ∙ p.bodies;
  pieces = ap (λ (x : Drafted). x.pieces) is;
}

alone_pushed : (k : ActionKind) (a : Action) (found : Option Action) (d : Drafted) → d.pieces ≡ [] → ActionNamed d.tables k → ((t : Tables) → action_of t k [] ≡ Some a)
    → found ≡ Some a → ActionPushed k found d d
alone_pushed k a found d empty named fits is = record {
  statements = refl;
  bodies = refl;
  named = named;
  made = a;
  is = is;
  fits = ap (action_of d.tables k) empty ∙ fits d.tables;
}

-- a statement without expressions
pub plainly : (k : ActionKind) (found : Option Action) (d : Drafted) → d.pieces ≡ [] → is_alone k ≡ true → found ≡ done_alone k → ActionPushed k found d d
plainly (kind.GoTo n) found d empty alone is = alone_pushed (kind.GoTo n) (to.go_to n) found d empty tt (λ t. refl) is
plainly (kind.GoSub n) found d empty alone is = alone_pushed (kind.GoSub n) (to.go_sub n) found d empty tt (λ t. refl) is
plainly kind.Return found d empty alone is = alone_pushed kind.Return to.return_sub found d empty tt (λ t. refl) is
plainly (kind.ExitTo n) found d empty alone is = alone_pushed (kind.ExitTo n) (to.exit_to n) found d empty tt (λ t. refl) is
plainly (kind.OnError h) found d empty alone is = alone_pushed (kind.OnError h) (to.on_error (handling_view h)) found d empty tt (λ t. refl) is
plainly kind.EndHandler found d empty alone is = alone_pushed kind.EndHandler to.end_handler found d empty tt (λ t. refl) is
plainly kind.ResumeAgain found d empty alone is = alone_pushed kind.ResumeAgain to.resume_again found d empty tt (λ t. refl) is
plainly kind.ResumeNext found d empty alone is = alone_pushed kind.ResumeNext to.resume_next found d empty tt (λ t. refl) is
plainly (kind.ResumeAt n) found d empty alone is = alone_pushed (kind.ResumeAt n) (to.resume_at n) found d empty tt (λ t. refl) is
plainly kind.Stop found d empty alone is = alone_pushed kind.Stop to.stop found d empty tt (λ t. refl) is
plainly kind.End found d empty alone is = alone_pushed kind.End to.end_run found d empty tt (λ t. refl) is
plainly (kind.Next x header first) found d empty alone is =
    alone_pushed (kind.Next x header first) (to.next (variable_view x) header first) found d empty tt (λ t. refl) is
plainly (kind.NextEach x header first) found d empty alone is =
    alone_pushed (kind.NextEach x header first) (to.next_each (variable_view x) header first) found d empty tt (λ t. refl) is
plainly (kind.ExitEach header n) found d empty alone is = alone_pushed (kind.ExitEach header n) (to.exit_each header n) found d empty tt (λ t. refl) is
plainly (kind.EndWith header) found d empty alone is = alone_pushed (kind.EndWith header) (to.end_with header) found d empty tt (λ t. refl) is
plainly k found d empty alone is = absurd cc

-- a statement that goes on elsewhere
pub gone_to : (go : ℕ) (d : Drafted) → d.pieces ≡ [] → ActionPushed (kind.GoTo go) (Some (to.go_to go)) d d
gone_to go d empty = alone_pushed (kind.GoTo go) (to.go_to go) (Some (to.go_to go)) d empty tt (λ t. refl) refl

-- ---- values

pub value_pushed : (found : Option bound.Expr) (of : DeclaredType) (d e : Drafted) → Binds found d e (Some of) → ValuePushed found of d e
value_pushed found of d e b = record { same = record { statements = b.grown.statements; bodies = b.grown.bodies }; pushed = b.pushed }

-- a value that has its type as an operand stays itself
pub as_operand_itself : (of : DeclaredType) (x : bound.Expr) → operand_type x ≡ declared_view of → as_operand of x ≡ x
as_operand_itself of (expr node place written operand) same = ap (λ o. expr node place written o) (sym same)

-- the step of a For without one, and a low bound that isn't written
pub integer_pushed : (place : Place) (n : ℕ) (v : Val) (d e : Drafted) (t : Tables) → v ≡ whole_value kind_of_whole.Integer (pos n)
    → e ≡ record d { tables = t; pieces = an_expr (expr (constant v) place type.integer type.integer) ∷ d.pieces }
    → ValuePushed (Some (integer place n)) (Plain element.Integer) d e
integer_pushed place n v d e t value is = record {
  same = record { statements = ap (λ (x : Drafted). x.statements) is; bodies = ap (λ (x : Drafted). x.bodies) is };
  pushed = record {
    made = integer place n;
    is = refl;
    operand = refl;
    on_top =
        ap (λ (x : Drafted). x.pieces) is
        ∙ ap (λ (x : Val). an_expr (expr (constant x) place type.integer type.integer) ∷ d.pieces) value;
  };
}

-- ---- statements of one value

pub test_pushed : (sense : Bool) (go other : ℕ) (found : Option bound.Expr) (of : DeclaredType) (d e : Drafted) → d.pieces ≡ [] → ValuePushed found of d e
    → ActionPushed (kind.Test sense go other) (option_map (λ c. to.test sense c go other) found) d e
test_pushed sense go other found of d e empty v = record {
  statements = v.same.statements;
  bodies = v.same.bodies;
  named = tt;
  made = to.test sense v.pushed.made go other;
  is = ap (option_map (λ c. to.test sense c go other)) v.pushed.is;
  fits = ap (action_of e.tables (kind.Test sense go other)) (v.pushed.on_top ∙ ap (λ ps. an_expr v.pushed.made ∷ ps) empty);
}

pub select_pushed : (first : ℕ) (found : Option bound.Expr) (of : DeclaredType) (d e : Drafted) → d.pieces ≡ [] → ValuePushed found of d e
    → ActionPushed (kind.Select first) (option_map (λ v. to.select v first) found) d e
select_pushed first found of d e empty v = record {
  statements = v.same.statements;
  bodies = v.same.bodies;
  named = tt;
  made = to.select v.pushed.made first;
  is = ap (option_map (λ c. to.select c first)) v.pushed.is;
  fits = ap (action_of e.tables (kind.Select first)) (v.pushed.on_top ∙ ap (λ ps. an_expr v.pushed.made ∷ ps) empty);
}

-- ---- For and Next

for_made : (env : Env) (named : Option bound.Variable) (x : bound.Variable) (compare : Compare) (start last step : Option bound.Expr) (last_at : Place) (step_at : Option Place) (a b c : bound.Expr) (first behind : ℕ)
    → Some x ≡ named → compare ≡ compare_in env.scope → start ≡ Some a → last ≡ Some b → step ≡ Some c
    → for_action named env start last step last_at step_at first behind ≡ Some (to.for_to x compare a b c last_at step_at first behind)
for_made env named x compare start last step last_at step_at a b c first behind name same from until by = rw (← name, from, until, by, ← same)

pub for_pushed : (env : Env) (counter : Variable) (named : Option bound.Variable) (compare : Compare) (start last step : Option bound.Expr) (to_type by : DeclaredType)
    (last_at last_told : Place) (step_at step_told : Option Place) (first behind : ℕ) (d g : Drafted)
    → d.pieces ≡ [] → Some (variable_view counter) ≡ named → compare ≡ compare_in env.scope → ForValues start last step to_type by d g → last_at ≡ last_told → step_at ≡ step_told
    → ActionPushed (kind.For counter compare to_type by last_at step_at first behind) (for_action named env start last step last_told step_told first behind) d g
for_pushed env counter named compare start last step to_type by last_at last_told step_at step_told first behind d g empty name same v told stepped =
    let a = v.start_pushed in
    let b = v.last_pushed in
    let c = v.step_pushed in
    let e = v.behind_start in
    let f = v.behind_last in
    let a_is : e.pieces ≡ an_expr a.pushed.made ∷ [] = a.pushed.on_top ∙ ap (λ ps. an_expr a.pushed.made ∷ ps) empty in
    let b_is : f.pieces ≡ an_expr b.pushed.made ∷ an_expr a.pushed.made ∷ [] = b.pushed.on_top ∙ ap (λ ps. an_expr b.pushed.made ∷ ps) a_is in
    let c_is : g.pieces ≡ an_expr c.pushed.made ∷ an_expr b.pushed.made ∷ an_expr a.pushed.made ∷ [] = c.pushed.on_top ∙ ap (λ ps. an_expr c.pushed.made ∷ ps) b_is in
    record {
      statements = c.same.statements ∙ (b.same.statements ∙ a.same.statements);
      bodies = c.same.bodies ∙ (b.same.bodies ∙ a.same.bodies);
      named = tt;
      made = to.for_to (variable_view counter) compare a.pushed.made b.pushed.made c.pushed.made last_told step_told first behind;
      is = for_made env named (variable_view counter) compare start last step last_told step_told a.pushed.made b.pushed.made c.pushed.made first behind name same a.pushed.is b.pushed.is c.pushed.is;
      fits =
          ap (action_of g.tables (kind.For counter compare to_type by last_at step_at first behind)) c_is
          ∙ (ap (λ x. Some (to.for_to (variable_view counter) compare a.pushed.made x (as_operand by c.pushed.made) last_at step_at first behind)) (as_operand_itself to_type b.pushed.made b.pushed.operand)
          ∙ (ap (λ x. Some (to.for_to (variable_view counter) compare a.pushed.made b.pushed.made x last_at step_at first behind)) (as_operand_itself by c.pushed.made c.pushed.operand)
          ∙ (ap (λ p. Some (to.for_to (variable_view counter) compare a.pushed.made b.pushed.made c.pushed.made p step_at first behind)) told
          ∙ ap (λ p. Some (to.for_to (variable_view counter) compare a.pushed.made b.pushed.made c.pushed.made last_told p first behind)) stepped)));
    }

-- Next of the innermost block, which is a For
pub next_done : (env : Env) (around os : List Opened) (o : Opened) (for_word equal to_word : Token) (x : Identifier) (start limit : Expr) (step : Option tree.StepClause) (v : bound.Variable)
    → around ≡ o ∷ os → line_of o.line ≡ Some (tree.for_line for_word x equal start to_word limit step) → Some v ≡ loop_variable env x
    → next_action env around ≡ Some (to.next v o.header o.first)
next_done env around os o for_word equal to_word x start limit step v is opened named = rw (is, opened, ← named)

-- Next of the innermost block, which is a For Each
pub next_each_done : (env : Env) (around os : List Opened) (o : Opened) (for_word each_word in_word : Token) (x : Identifier) (group : Expr) (v : bound.Variable)
    → around ≡ o ∷ os → line_of o.line ≡ Some (tree.for_each for_word each_word x in_word group) → Some v ≡ loop_variable env x
    → next_action env around ≡ Some (to.next_each v o.header o.first)
next_each_done env around os o for_word each_word in_word x group v is opened named = rw (is, opened, ← named)

-- ---- Case

-- the scope of a Case is that of its Select Case
select_env : (env : Env) (a : Around) (s : Standing) (os : List Opened) (o : Opened) (select_word case_word : Token) (e : Expr)
    → env ≡ env_at a s → s.around ≡ o ∷ os → line_of o.line ≡ Some (tree.select_case select_word case_word e)
    → record a.env { within = within a.env os } ≡ env
select_env env a s os o select_word case_word e placed is line =
    let outside : within a.env (o ∷ os) ≡ within a.env os = ap (λ (x : Option Expr). with_or x a.env o.header (within a.env os)) (no_object o.line select_word case_word e line) in
    sym (placed ∙ ap (λ (w : Option Within). record a.env { within = w }) (ap (within a.env) is ∙ outside))

selected_is : (env : Env) (a : Around) (s : Standing) (e : Expr) → env ≡ env_at a s → (x : Selects s.around e) → selected a s.around ≡ bound_operand env e
selected_is env a s e placed x =
    rw (x.is, x.opened) (ap (λ here. bound_operand here e) (select_env env a s x.outside x.header x.select_word x.case_word e placed x.is x.opened))

pub selected_operand : (env : Env) (a : Around) (s : Standing) (e : Expr) (of : DeclaredType) → env ≡ env_at a s → Selects s.around e → OperandIs (bound_operand env e) of
    → OperandIs (selected a s.around) of
selected_operand env a s e of placed x o = record { value = o.value; is = selected_is env a s e placed x ∙ o.is; operand = o.operand }

pub operand_is : (found : Option bound.Expr) (of : DeclaredType) (d f : Drafted) → ValuePushed found of d f → OperandIs found of
operand_is found of d f v = record { value = v.pushed.made; is = v.pushed.is; operand = v.pushed.operand }

case_made : (env : Env) (a : Around) (os : List Opened) (tests : Option Tests) (header : ℕ) (of : DeclaredType) (compare : Compare) (first other : ℕ) (x : bound.Expr) (ts : Tests)
    → selected a os ≡ Some x → operand_type x ≡ declared_view of → tests ≡ Some ts → header ≡ header_of os → compare ≡ compare_in env.scope
    → from_two (λ v us. to.case_of us (header_of os) (operand_type v) (compare_in env.scope) first other) (selected a os) tests
    ≡ Some (to.case_of ts header (declared_view of) compare first other)
case_made env a os tests header of compare first other x ts found operand is header_is same =
    ap (λ o. from_two (λ v us. to.case_of us (header_of os) (operand_type v) (compare_in env.scope) first other) o tests) found
    ∙ (ap (λ o. from_two (λ v us. to.case_of us (header_of os) (operand_type v) (compare_in env.scope) first other) (Some x) o) is
    ∙ (ap (λ t. Some (to.case_of ts (header_of os) t (compare_in env.scope) first other)) operand
    ∙ (ap (λ n. Some (to.case_of ts n (declared_view of) (compare_in env.scope) first other)) (sym header_is)
    ∙ ap (λ c. Some (to.case_of ts header (declared_view of) c first other)) (sym same))))

pub case_pushed : (env : Env) (a : Around) (os : List Opened) (tests : Option Tests) (count header : ℕ) (of : DeclaredType) (compare : Compare) (first other : ℕ) (d e : Drafted)
    → d.pieces ≡ [] → OperandIs (selected a os) of → Read Tests tests_off tests (Some to.no_tests) count d e → header ≡ header_of os → compare ≡ compare_in env.scope
    → ActionPushed (kind.Case count header of compare first other)
    (from_two (λ v ts. to.case_of ts (header_of os) (operand_type v) (compare_in env.scope) first other) (selected a os) tests) d e
case_pushed env a os tests count header of compare first other d e empty s r header_is same =
    let ts = r.make to.no_tests in
    let taken : tests_off count e.pieces to.no_tests ≡ Some (ts, []) = r.taken to.no_tests ∙ ap (λ ps. Some (ts, ps)) empty in
    record {
      statements = r.same.statements;
      bodies = r.same.bodies;
      named = tt;
      made = to.case_of ts header (declared_view of) compare first other;
      is = case_made env a os tests header of compare first other s.value ts s.is s.operand r.is header_is same;
      fits = ap (λ found. whole found (λ us. to.case_of us header (declared_view of) compare first other)) taken;
    }

-- ---- Debug.Print, ReDim and Erase

-- items that are all that is there
items_pushed : (A : Type 0) (off : ℕ → List Piece → A → Option (A × List Piece)) (none : A) (go : A → Action) (k : ActionKind) (found : Option A) (count : ℕ) (d e : Drafted)
    → ActionNamed e.tables k → action_of e.tables k e.pieces ≡ whole (off count e.pieces none) go → d.pieces ≡ [] → Read A off found (Some none) count d e
    → ActionPushed k (option_map go found) d e
items_pushed A off none go k found count d e named fits empty r =
    let taken : off count e.pieces none ≡ Some (r.make none, []) = r.taken none ∙ ap (λ (ps : List Piece). Some (r.make none, ps)) empty in
    record {
      statements = r.same.statements;
      bodies = r.same.bodies;
      named = named;
      made = go (r.make none);
      is = ap (option_map go) r.is;
      fits = fits ∙ ap (λ (x : Option (A × List Piece)). whole x go) taken;
    }

pub print_pushed : (ends : Bool) (prints : Option Prints) (count : ℕ) (d e : Drafted) → d.pieces ≡ [] → Read Prints prints_off prints (Some bound.no_prints) count d e
    → ActionPushed (kind.Print count ends) (option_map (λ ps. to.print ps ends) prints) d e
print_pushed ends prints count d e empty r =
    items_pushed Prints prints_off bound.no_prints (λ ps. to.print ps ends) (kind.Print count ends) prints count d e tt refl empty r

pub redim_pushed : (preserve : Bool) (arrays : Option Resizes) (count : ℕ) (d e : Drafted) → d.pieces ≡ [] → Read Resizes resizes_off arrays (Some to.no_resizes) count d e
    → ActionPushed (kind.ReDim preserve count) (option_map (to.redim preserve) arrays) d e
redim_pushed preserve arrays count d e empty r =
    items_pushed Resizes resizes_off to.no_resizes (to.redim preserve) (kind.ReDim preserve count) arrays count d e tt refl empty r

pub erase_pushed : (arrays : Option Arrays) (count : ℕ) (d e : Drafted) → d.pieces ≡ [] → Read Arrays arrays_off arrays (Some to.no_arrays) count d e
    → ActionPushed (kind.Erase count) (option_map to.erase arrays) d e
erase_pushed arrays count d e empty r = items_pushed Arrays arrays_off to.no_arrays to.erase (kind.Erase count) arrays count d e tt refl empty r

-- ---- a statement by the scope of its part

by_scope : (a : Around) (s : Standing) (x : Simple) → simple_action a s x ≡ simple_in (env_at a s) a s x
by_scope a s (tree.block_line line) = by_line a s line
  where
    by_line : (a : Around) (s : Standing) (line : BlockLine) → simple_action a s (tree.block_line line) ≡ simple_in (env_at a s) a s (tree.block_line line)
    by_line a s (tree.if_line w e t) = refl
    by_line a s (tree.else_if_line w e t) = refl
    by_line a s (tree.else_line w) = refl
    by_line a s (tree.end_if w i) = refl
    by_line a s (tree.select_case w c e) = refl
    by_line a s (tree.case_line w ts) = refl
    by_line a s (tree.case_else w e) = refl
    by_line a s (tree.end_select w e) = refl
    by_line a s (tree.for_line f x q st t l sp) = refl
    by_line a s (tree.for_each f e x i g) = refl
    by_line a s (tree.next_line n x) = refl
    by_line a s (tree.do_line d c) = refl
    by_line a s (tree.loop_line l c) = refl
    by_line a s (tree.while_line w e) = refl
    by_line a s (tree.wend w) = refl
    by_line a s (tree.with_line w e) = refl
    by_line a s (tree.end_with e w) = refl
by_scope a s x = refl

pub in_scope : (env : Env) (a : Around) (s : Standing) (x : Simple) → env ≡ env_at a s → simple_action a s x ≡ simple_in env a s x
in_scope env a s x placed = by_scope a s x ∙ ap (λ here. simple_in here a s x) (sym placed)
