-- Functions of the library: what their names are, and calls of them.
use Rattle.std.proofs.Common.{Bor, ◌≡◌, ℕ, suc, ◌+◌, ◌==◌, Bool, true, false, ◌&&◌, ◌||◌, not, is_some, List, [], ◌∷◌, ◌++◌, map, length, Option, Some, None, option_map, refl, sym, ap, subst, ◌∙◌, arith, length-append, ne_eqb}
use Rattle.std.specs.Prelude.{ℤ, pos}
use Rattle.std.proofs.lemmas.List.{map-append}
use Rattle.vba_base.specs.declared.place.Place.{Place}
use Rattle.vba_base.specs.declared.place.Refusal.{Refusal}
use Rattle.vba_lexer.specs.declared.token.Token.{Token}
use Rattle.vba_words.specs.declared.identifier.Identifier.{Identifier}
use Rattle.vba_expression.specs.Tree.{Expr, Args, missing}
use Rattle.vba_expression.specs.Tree as tree
use Rattle.vba_expression.specs.Nodes as nodes
use Rattle.vba_expression.specs.Nodes.{behind_node}
use Rattle.vba_expression.specs.declared.node.ExpressionNode.TheVariants as node
use Rattle.vba_values.specs.declared.types.Compare.{Compare}
use Rattle.vba_values.specs.Types.{Declared}
use Rattle.vba_values.specs.Types as type
use Rattle.vba_lib.specs.declared.function.LibraryFunction.{LibraryFunction}
use Rattle.vba_lib.specs.Library.{declared_of}
use Rattle.bound_project.specs.declared.declared_type.DeclaredType.{DeclaredType}
use Rattle.bound_project.specs.declared.node.Node.{Node}
use Rattle.bound_project.specs.declared.node.NodeKind.{NodeKind}
use Rattle.bound_project.specs.declared.declared_type.DeclaredType.TheVariants.{Plain}
use Rattle.bound_project.specs.declared.declared_type.ElementType.TheVariants as element
use Rattle.bound_project.specs.Project.{nowhere}
use Rattle.bound_project.specs.declared.node.NodeKind.TheVariants as kinds
use Rattle.bound_project.specs.declared.declarations.Declarations.{Declarations}
use Rattle.bound_project.specs.View.{declarations_view, declared_view, base_view}
use Rattle.bound_project.specs.Expressions.{Exprs, also, library, marked}
use Rattle.bound_project.specs.Expressions as bound
use Rattle.bound_project.specs.Lists.{above, exprs_of}
use Rattle.bound_project.proofs.Lists.{above_push}
use Rattle.bound_project.specs.Pieces.{Piece, an_expr, of_found, expr_of, put}
use Rattle.bound_project.specs.Drafts.{Drafted}
use Rattle.bound_members.specs.bound_calls.specs.bound_declarations.specs.constant_values.specs.declared_names.specs.binder.specs.Constants.{compare_in}
use Rattle.bound_members.specs.bound_calls.specs.bound_declarations.specs.constant_values.specs.declared_names.specs.binder.specs.Options.{from_two}
use Rattle.bound_members.specs.bound_calls.specs.bound_forms.specs.Terms.{Env, Given, a_value, broken_call, given_to, has_names}
use Rattle.bound_members.specs.bound_calls.specs.bound_forms.specs.Terms as terms
use Rattle.bound_members.specs.bound_calls.specs.bound_forms.specs.ClassDefaults.{declared_in}
use Rattle.bound_members.specs.bound_calls.specs.bound_forms.specs.Operands.{first_given, function_takes, function_value, has_start, if_there, is_wrong, lacks_needed, needs, takes_count, place_told, term_or}
use Rattle.bound_members.specs.bound_calls.specs.bound_forms.specs.Members.{item_of}
use Rattle.bound_members.specs.bound_calls.specs.bound_forms.specs.ExpressionsBound.{callee, function_called, function_values, givens, indexed, taken_as, taking, term_of}
use Rattle.bound_members.specs.bound_calls.specs.declared.term.Function.{Function}
use Rattle.bound_members.specs.bound_calls.specs.declared.term.FunctionCall.{FunctionCall}
use Rattle.bound_members.specs.bound_calls.specs.declared.term.Term.{Term}
use Rattle.bound_members.specs.bound_calls.specs.declared.term.Term.TheVariants as term
use Rattle.bound_members.specs.bound_calls.specs.declared.term.Tree.{Tree}
use Rattle.bound_members.specs.bound_calls.specs.declared.term.Item.{Item}
use Rattle.bound_members.specs.bound_calls.specs.declared.term.Item.TheVariants as items
use Rattle.bound_operands.specs.declared.functions.Taking.{Taking}
use Rattle.bound_operands.specs.Functions.{AddsNamedValue, EndsFunction, PushesMarked, PushesTaken, call_takes, taking_view}
use Rattle.bound_members.specs.bound_calls.specs.Indexing.{AddsArgument, AddsMissing, Closes, OpensTerm}
use Rattle.bound_members.specs.bound_calls.specs.Steps.{Goes}
use Rattle.bound_members.specs.bound_calls.specs.Standing.{AllValues, ArgumentIs, FunctionIs, FunctionStands, PushedIs, Stands, AllNamed, Base, base_number, missing_given, missing_value}
use Rattle.bound_members.specs.bound_calls.proofs.Growing.{all_named, grown_pieces, grown_same, grown_twice, stands_grows}
use Rattle.bound_members.specs.bound_calls.proofs.CallSteps.{tree_ended}
use Rattle.bound_members.specs.bound_calls.specs.Calls.{ArgumentIs as PushedFor, MarksGiven, node_of}
use Rattle.bound_members.specs.bound_calls.specs.Taking.{broken_ending, told_type}
use Rattle.bound_members.specs.bound_calls.proofs.Lacking.{told_view}
use Rattle.bound_members.proofs.Listing.{taken_off}

-- ---- arguments begin

abbrev pub opened_function : Tree → Function → FunctionCall
opened_function x f = record { place = x.place; function = f; count = 0; is_wrong = false; is_started = true }

pub opens_function : (env : Env) (x : Tree) (f : Function) (d : Drafted) → OpensTerm env x (term.Function f) d d (items.Function (opened_function x f))
opens_function env x f d = record {
  grown = grown_same d;
  named = tt;
  stands = λ tree others is below base at h s. (below, (record { function_is = h.0; place_is = at; made = []; values = tt; wrong_is = refl; first_is = refl; count_is = refl; on_top = h.1 }, s));
}

-- ---- one more value

-- a value that was pushed as a function takes it, and marked
pub marks_taken : (how : Taking) (x : Tree) (of after : DeclaredType) (d m e : Drafted) → PushesTaken how x d m of → MarksGiven type.variant false x.place of m e after → PushesMarked how x d e
marks_taken how x of after d m e t g = record {
  grown = grown_twice d m e t.grown g.grown;
  stands = λ env tree below h.
      let found = taken_as env (taking_view how) (term_of env tree) (place_told tree) in
      let P : Place → Type 0 = λ (place : Place). PushedIs after (option_map (given_to type.variant false place) found) e.pieces below in
      let p = subst P h.place_is (g.stands found below (t.stands env tree below h)) in
      record { made = p.made; is = p.is; on_top = p.on_top };
}

-- values with one more
values_more : (env : Env) (f : LibraryFunction) (i : ℕ) (gs : List Given) (es : List bound.Expr) (g : Given) (e : bound.Expr) (n : ℕ) → n ≡ i + length es → AllValues env f i gs es → ArgumentIs env f n g e
    → AllValues env f i (gs ++ g ∷ []) (es ++ e ∷ [])
values_more env f i [] [] g e n c h k = let same : n ≡ i = omega (arith, c) in (subst (λ m. ArgumentIs env f m g e) same k, tt)
values_more env f i [] (d ∷ es) g e n c h k = absurd h
values_more env f i (o ∷ gs) [] g e n c h k = absurd h
values_more env f i (o ∷ gs) (d ∷ es) g e n c h k = (h.0, values_more env f (suc i) gs es g e n (omega (arith, c)) h.1 k)

values_long : (env : Env) (f : LibraryFunction) (i : ℕ) (gs : List Given) (es : List bound.Expr) → AllValues env f i gs es → length gs ≡ length es
values_long env f i [] [] h = refl
values_long env f i [] (e ∷ es) h = absurd h
values_long env f i (g ∷ gs) [] h = absurd h
values_long env f i (g ∷ gs) (e ∷ es) h = omega (arith, values_long env f (suc i) gs es h.1)

-- ---- what one more argument says of whether a function takes them

or_assoc : (a b c : Bool) → ((a || b) || c) ≡ (a || (b || c))
or_assoc true b c = refl
or_assoc false b c = refl

or_false : (a : Bool) → (a || false) ≡ a
or_false true = refl
or_false false = refl

or_true : (a : Bool) → (a || true) ≡ true
or_true true = refl
or_true false = refl

or_crossed : (a b c d : Bool) → ((a || c) || (b || d)) ≡ ((a || b) || (c || d))
or_crossed true b c d = refl
or_crossed false true true d = refl
or_crossed false true false d = refl
or_crossed false false c d = refl

names_more : (gs : List Given) (g : Given) → has_names (gs ++ g ∷ []) ≡ (has_names gs || is_some g.name)
names_more [] g = or_false (is_some g.name)
names_more (o ∷ gs) g = ap (λ (b : Bool). is_some o.name || b) (names_more gs g) ∙ sym (or_assoc (is_some o.name) (has_names gs) (is_some g.name))

lacks_more : (f : LibraryFunction) (i n : ℕ) (gs : List Given) (g : Given) → n ≡ i + length gs → lacks_needed f i (gs ++ g ∷ []) ≡ (lacks_needed f i gs || (not (is_some g.term) && needs f n))
lacks_more f i n [] g c =
    let same : i ≡ n = omega (arith, c) in or_false (not (is_some g.term) && needs f i) ∙ ap (λ (k : ℕ). not (is_some g.term) && needs f k) same
lacks_more f i n (o ∷ gs) g c =
    let first = not (is_some o.term) && needs f i in
    ap (λ (b : Bool). first || b) (lacks_more f (suc i) n gs g (omega (arith, c))) ∙ sym (or_assoc first (lacks_needed f (suc i) gs) (not (is_some g.term) && needs f n))

wrong_more : (f : LibraryFunction) (n : ℕ) (gs : List Given) (g : Given) → n ≡ length gs → is_wrong f (gs ++ g ∷ []) ≡ (is_wrong f gs || (is_some g.name || (not (is_some g.term) && needs f n)))
wrong_more f n gs g c =
    let one = is_some g.name in
    let other = not (is_some g.term) && needs f n in
    let from : n ≡ 0 + length gs = omega (arith, c) in
    ap (λ (b : Bool). b || lacks_needed f 0 (gs ++ g ∷ [])) (names_more gs g) ∙ ap (λ (b : Bool). (has_names gs || one) || b) (lacks_more f 0 n gs g from)
    ∙ or_crossed (has_names gs) (lacks_needed f 0 gs) one other

-- one that is written
first_written : (gs : List Given) (g : Given) → is_some g.term ≡ true → first_given (gs ++ g ∷ []) ≡ first_given gs
first_written [] g h = h
first_written (o ∷ gs) g h = refl

-- one that isn't
first_missing : (gs : List Given) (n : ℕ) → n ≡ length gs → first_given (gs ++ missing_given ∷ []) ≡ (first_given gs && not (n == 0))
first_missing [] n c = sym (ap (λ (k : ℕ). not (k == 0)) c)
first_missing (o ∷ gs) n c =
    let some : (n == 0) ≡ false = ap (λ (k : ℕ). k == 0) c ∙ ne_eqb (length (o ∷ gs)) 0 (λ (e : length (o ∷ gs) ≡ 0). omega (arith, e)) in
    sym (ap (λ (b : Bool). is_some o.term && not b) some ∙ and_true (is_some o.term))
  where
    and_true : (b : Bool) → (b && true) ≡ b
    and_true true = refl
    and_true false = refl

-- ---- one more value on the stack

-- a value that was pushed as the function takes it
pushed_is : (env : Env) (x : FunctionCall) (how : Taking) (g : Given) (v : Expr) {ps below : List Piece}
    (m : PushedFor (option_map (given_to type.variant false (place_told v)) (taken_as env (taking_view how) (term_of env v) (place_told v))) ps below)
    → taking_view how ≡ taking x.function.function x.count → g.term ≡ Some (term_of env v) → g.place ≡ place_told v → ArgumentIs env x.function.function x.count g m.made
pushed_is env x how g v m w term place =
    let f = x.function.function in
    let found : option_map (given_to type.variant false (place_told v)) (taken_as env (taking f x.count) (term_of env v) (place_told v)) ≡ Some m.made =
    ap (λ t. option_map (given_to type.variant false (place_told v)) (taken_as env t (term_of env v) (place_told v))) (sym w) ∙ m.is in
    let G : Given → Type 0 = λ (o : Given). (gs : List Given) → function_values env f x.count (o ∷ gs) ≡ from_two also (Some m.made) (function_values env f (suc x.count) gs) in
    let here : Given = record { name = g.name; term = Some (term_of env v); place = place_told v } in
    let same : here ≡ g = sym (ap (λ (t : Option terms.Term). record g { term = t }) term ∙ ap (λ (p : Place). record { name = g.name; term = Some (term_of env v); place = p }) place) in
    record { is = subst G same (λ gs. ap (λ (o : Option bound.Expr). from_two also o (function_values env f (suc x.count) gs)) found) }

-- a call with one more value that was pushed
value_more : (env : Env) (x z : FunctionCall) (base : Expr) (args more : Args) (g : Given) (made : bound.Expr) (ps between below : List Piece) → z.place ≡ x.place → z.function ≡ x.function → z.count ≡ x.count + 1
    → givens env more ≡ givens env args ++ g ∷ [] → is_wrong x.function.function (givens env args ++ g ∷ []) ≡ z.is_wrong → first_given (givens env args ++ g ∷ []) ≡ z.is_started
    → ArgumentIs env x.function.function x.count g made → FunctionStands env x base args between below → ps ≡ an_expr made ∷ between → FunctionStands env z base more ps below
value_more env x z base args more g made ps between below place function c given wrong first k s top =
    let G : List Given → Type 0 = λ (l : List Given). AllValues env x.function.function 0 l (s.made ++ made ∷ []) in
    let V : Function → Type 0 = λ (f : Function). AllValues env f.function 0 (givens env more) (s.made ++ made ∷ []) in
    let W : Function → Type 0 = λ (f : Function). is_wrong f.function (givens env more) ≡ z.is_wrong in
    let I : Function → Type 0 = λ (f : Function). FunctionIs env f (callee env base (term_of env base)) in
    record {
      function_is = subst I (sym function) s.function_is;
      place_is = place ∙ s.place_is;
      made = s.made ++ made ∷ [];
      values = subst V (sym function) (subst G (sym given) (values_more env x.function.function 0 (givens env args) s.made g made x.count (omega (arith, s.count_is)) s.values k));
      wrong_is = subst W (sym function) (ap (λ (l : List Given). is_wrong x.function.function l) given ∙ wrong);
      first_is = ap first_given given ∙ first;
      count_is = omega (arith, c, s.count_is, length-append s.made (made ∷ []));
      on_top = top ∙ ap (λ (ps : List Piece). an_expr made ∷ ps) s.on_top ∙ sym (above_push (map an_expr s.made) (an_expr made) below) ∙ ap (λ (ps : List Piece). above ps below) (sym (map-append an_expr s.made (made ∷ [])));
    }

values_counted : (env : Env) (x : FunctionCall) (base : Expr) (args : Args) (ps below : List Piece) → FunctionStands env x base args ps below → x.count ≡ length (givens env args)
values_counted env x base args ps below s = omega (arith, s.count_is, values_long env x.function.function 0 (givens env args) s.made s.values)

valued : (env : Env) (x : FunctionCall) (y : Tree) (how : Taking) (count : ℕ) (comma : Option Token) (xs : List Item) (d e : Drafted) → count ≡ x.count + 1 → taking_view how ≡ taking x.function.function x.count
    → PushesMarked how y d e → AllNamed d.tables xs → (is : List nodes.Item) (base : Base) → Stands env d.tables (items.Tree y ∷ items.Function x ∷ xs) is d.pieces base
    → Stands env e.tables (items.Function (record x { count = count }) ∷ xs) (behind_node (node.PlainArgument comma) is) e.pieces base
valued env x y how count comma xs d e c w p k [] base h = absurd h
valued env x y how count comma xs d e c w p k (nodes.arguments args ∷ is) base h = absurd h
valued env x y how count comma xs d e c w p k (nodes.tree v ∷ []) base h = absurd h.1.1
valued env x y how count comma xs d e c w p k (nodes.tree v ∷ nodes.tree z ∷ is) base h = absurd h.1.1
valued env x y how count comma xs d e c w p k (nodes.tree v ∷ nodes.arguments args ∷ []) base h = absurd h.1.1
valued env x y how count comma xs d e c w p k (nodes.tree v ∷ nodes.arguments args ∷ nodes.arguments more ∷ is) base h = absurd h.1.1
valued env x y how count comma xs d e c w p k (nodes.tree v ∷ nodes.arguments args ∷ nodes.tree b ∷ is) base h =
    let low = h.1.1 in
    let s = low.1.0 in
    let m = p.stands env v h.0 h.1.0 in
    let g : Given = record { name = None; term = Some (term_of env v); place = place_told v } in
    let f = x.function.function in
    let gs = givens env args in (
      low.0,
      (
        value_more env x (record x { count = count }) b args (tree.plain args comma v) g m.made e.pieces h.0 low.0 refl refl c refl
            (wrong_more f x.count gs g (values_counted env x b args h.0 low.0 s) ∙ or_false (is_wrong f gs) ∙ s.wrong_is) (first_written gs g refl ∙ s.first_is) (pushed_is env x how g v m w refl refl) s m.on_top,
        stands_grows env d.tables e.tables p.grown.tables xs k is low.0 base low.1.1,
      ),
    )

pub adds_value : (x : FunctionCall) (y : Tree) (how : Taking) (count : ℕ) (d e : Drafted) → count ≡ x.count + 1 → taking_view how ≡ taking x.function.function x.count
    → PushesMarked how y d e → AddsArgument (items.Function x) y d e (items.Function (record x { count = count }))
adds_value x y how count d e c w p = record { grown = p.grown; named = tt; stands = λ env comma xs is base k h. valued env x y how count comma xs d e c w p k is base h }

-- one more value, which has a name
named_value : (env : Env) (x : FunctionCall) (y : Tree) (how : Taking) (count : ℕ) (comma : Option Token) (name : Identifier) (mark : Token) (xs : List Item) (d e : Drafted) → count ≡ x.count + 1
    → taking_view how ≡ taking x.function.function x.count → PushesMarked how y d e → AllNamed d.tables xs → (is : List nodes.Item) (base : Base)
    → Stands env d.tables (items.Tree y ∷ items.Function x ∷ xs) is d.pieces base
    → Stands env e.tables (items.Function (record x { count = count; is_wrong = true }) ∷ xs) (behind_node (node.NamedArgument comma name mark) is) e.pieces base
named_value env x y how count comma name mark xs d e c w p k [] base h = absurd h
named_value env x y how count comma name mark xs d e c w p k (nodes.arguments args ∷ is) base h = absurd h
named_value env x y how count comma name mark xs d e c w p k (nodes.tree v ∷ []) base h = absurd h.1.1
named_value env x y how count comma name mark xs d e c w p k (nodes.tree v ∷ nodes.tree z ∷ is) base h = absurd h.1.1
named_value env x y how count comma name mark xs d e c w p k (nodes.tree v ∷ nodes.arguments args ∷ []) base h = absurd h.1.1
named_value env x y how count comma name mark xs d e c w p k (nodes.tree v ∷ nodes.arguments args ∷ nodes.arguments more ∷ is) base h = absurd h.1.1
named_value env x y how count comma name mark xs d e c w p k (nodes.tree v ∷ nodes.arguments args ∷ nodes.tree b ∷ is) base h =
    let low = h.1.1 in
    let s = low.1.0 in
    let m = p.stands env v h.0 h.1.0 in
    let g : Given = record { name = Some name.name; term = Some (term_of env v); place = place_told v } in
    let f = x.function.function in
    let gs = givens env args in (
      low.0,
      (
        value_more env x (record x { count = count; is_wrong = true }) b args (tree.named args comma name mark v) g m.made e.pieces h.0 low.0 refl refl c refl
            (wrong_more f x.count gs g (values_counted env x b args h.0 low.0 s) ∙ or_true (is_wrong f gs)) (first_written gs g refl ∙ s.first_is) (pushed_is env x how g v m w refl refl) s m.on_top,
        stands_grows env d.tables e.tables p.grown.tables xs k is low.0 base low.1.1,
      ),
    )

pub adds_named_value : (x : FunctionCall) (y : Tree) (how : Taking) (count : ℕ) (d e : Drafted) → count ≡ x.count + 1 → taking_view how ≡ taking x.function.function x.count
    → PushesMarked how y d e → AddsNamedValue x y d e (record x { count = count; is_wrong = true })
adds_named_value x y how count d e c w p = record { grown = p.grown; stands = λ env comma name mark xs is base k h. named_value env x y how count comma name mark xs d e c w p k is base h }

-- on the stack
pub goes_to_function : (env : Env) (x : Tree) (c z : FunctionCall) (xs new : List Item) (name : Identifier) (comma : Option Token) (mark : Token) (d e : Drafted) → new ≡ items.Function z ∷ xs → AllNamed d.tables (items.Tree x ∷ items.Function c ∷ xs)
    → AddsNamedValue c x d e z → Goes env d (items.Tree x ∷ items.Function c ∷ xs) e new (behind_node (node.NamedArgument comma name mark))
goes_to_function env x c z xs new name comma mark d e n k a =
    let B : List Item → Type 0 = λ (l : List Item). Goes env d (items.Tree x ∷ items.Function c ∷ xs) e l (behind_node (node.NamedArgument comma name mark)) in
    subst B (sym n) (record {
      grown = a.grown;
      named = (tt, all_named d.tables e.tables a.grown.tables xs k.1.1);
      stands = λ is base h. a.stands env comma name mark xs is base k.1.1 h;
    })

-- one more value, which isn't written
abbrev missing_node : Node
missing_node = node_of kinds.NotGiven nowhere (Plain element.Variant)

-- the call behind it
abbrev skipping : FunctionCall → ℕ → FunctionCall
skipping x count = record x { count = count; is_wrong = x.is_wrong || needs x.function.function x.count; is_started = x.is_started && not (x.count == 0) }

skipped : (env : Env) (x : FunctionCall) (count : ℕ) (comma : Option Token) (xs : List Item) (d : Drafted) → count ≡ x.count + 1 → (is : List nodes.Item) (base : Base) → Stands env d.tables (items.Function x ∷ xs) is d.pieces base
    → Stands env d.tables (items.Function (skipping x count) ∷ xs) (behind_node (node.MissingArgument comma) is) (put d.tables missing_node d.pieces) base
skipped env x count comma xs d c [] base h = absurd h
skipped env x count comma xs d c (nodes.tree z ∷ is) base h = absurd h
skipped env x count comma xs d c (nodes.arguments args ∷ []) base h = absurd h
skipped env x count comma xs d c (nodes.arguments args ∷ nodes.arguments more ∷ is) base h = absurd h
skipped env x count comma xs d c (nodes.arguments args ∷ nodes.tree b ∷ is) base h =
    let s = h.1.0 in
    let f = x.function.function in
    let gs = givens env args in
    let counted = values_counted env x b args d.pieces h.0 s in (
      h.0,
      (
        value_more env x (skipping x count) b args (missing args comma) missing_given missing_value (put d.tables missing_node d.pieces) d.pieces h.0 refl refl c refl
            (wrong_more f x.count gs missing_given counted ∙ ap (λ (w : Bool). w || needs f x.count) s.wrong_is) (first_missing gs x.count counted ∙ ap (λ (w : Bool). w && not (x.count == 0)) s.first_is) (record { is = λ gs. refl }) s refl,
        h.1.1,
      ),
    )

pub misses_value : (x : FunctionCall) (count : ℕ) (d e : Drafted) → count ≡ x.count + 1 → e ≡ record d { pieces = put d.tables missing_node d.pieces } → AddsMissing (items.Function x) d e (items.Function (skipping x count))
misses_value x count d e c eq =
    let P : Drafted → Type 0 = λ (z : Drafted). AddsMissing (items.Function x) d z (items.Function (skipping x count)) in
    subst P (sym eq) (record { grown = grown_pieces d (put d.tables missing_node d.pieces); named = tt; stands = λ env comma xs is base k h. skipped env x count comma xs d c is base h })

-- ---- what a function makes of its arguments

base_is : (one : Bool) → pos (base_number one) ≡ base_view one
base_is true = refl
base_is false = refl

all_valued : (env : Env) (f : LibraryFunction) (i : ℕ) (gs : List Given) (es : List bound.Expr) → AllValues env f i gs es → function_values env f i gs ≡ Some (exprs_of es)
all_valued env f i [] [] h = refl
all_valued env f i [] (e ∷ es) h = absurd h
all_valued env f i (g ∷ gs) [] h = absurd h
all_valued env f i (g ∷ gs) (e ∷ es) h = h.0.is gs ∙ ap (λ (o : Option Exprs). from_two also (Some e) o) (all_valued env f (suc i) gs es h.1)

-- whether a function takes them, by what the call knows
takes_them : (env : Env) (x : FunctionCall) (base : Expr) (args : Args) (ps below : List Piece) → FunctionStands env x base args ps below → function_takes x.function.function (givens env args) ≡ call_takes x
takes_them env x base args ps below s =
    let f = x.function.function in
    let gs = givens env args in
    ap (λ (w : Bool). not w && (takes_count f (length gs) && has_start f (length gs) (first_given gs))) s.wrong_is
    ∙ ap (λ (b : Bool). not x.is_wrong && (takes_count f (length gs) && has_start f (length gs) b)) s.first_is
    ∙ ap (λ (n : ℕ). not x.is_wrong && (takes_count f n && has_start f n x.is_started)) (sym (values_counted env x base args ps below s))

-- what is made of arguments, by whether a function takes them
valued_call : (env : Env) (place : Place) (f : LibraryFunction) (text_form : Bool) (base : ℕ) (takes : Bool) (gs : List Given) (es : List bound.Expr) → function_takes f gs ≡ takes → AllValues env f 0 gs es
    → function_called env place f text_form base gs ≡ function_value env place f text_form base takes (exprs_of es)
valued_call env place f text_form base takes gs es is values =
    let made : Bool → Option Exprs → terms.Term = λ (b : Bool) (o : Option Exprs). if_there (option_map (function_value env place f text_form base b) o) in
    ap (λ (b : Bool). made b (function_values env f 0 gs)) is ∙ ap (made takes) (all_valued env f 0 gs es values)

called_is : (env : Env) (place : Place) (f : LibraryFunction) (text_form one : Bool) (compare : Compare) (of : DeclaredType) (gs : List Given) (es : List bound.Expr) → compare ≡ compare_in env.scope → function_takes f gs ≡ true
    → declared_view of ≡ declared_of f text_form → AllValues env f 0 gs es
    → function_called env place f text_form (base_number one) gs ≡ a_value (library f text_form (exprs_of es) compare (base_view one)) (declared_view of)
called_is env place f text_form one compare of gs es c takes typed values =
    valued_call env place f text_form (base_number one) true gs es takes values
    ∙ ap (λ (k : Compare). a_value (library f text_form (exprs_of es) k (pos (base_number one))) (declared_of f text_form)) (sym c)
    ∙ ap (λ (z : ℤ). a_value (library f text_form (exprs_of es) compare z) (declared_of f text_form)) (base_is one)
    ∙ ap (λ (u : Declared). a_value (library f text_form (exprs_of es) compare (base_view one)) u) (sym typed)

abbrev pub kind_of : FunctionCall → NodeKind
kind_of x = kinds.Library x.function.function x.function.is_text_form x.count x.function.compare x.function.is_base_one

pub ends_function : (x : FunctionCall) (of : DeclaredType) → call_takes x ≡ true → declared_view of ≡ declared_of x.function.function x.function.is_text_form
    → EndsFunction x (term.Value (record { kind = kind_of x; of = of }))
ends_function x of takes typed = record {
  named = λ t. tt;
  stands = λ env t e args ps below s.
      let f = x.function in
      let gs = givens env args in
      let A : terms.Term → Type 0 = λ (z : terms.Term). indexed env (place_told e) (item_of env (place_told e) z) gs ≡ a_value (library f.function f.is_text_form (exprs_of s.made) f.compare (base_view f.is_base_one)) (declared_view of) in
      record {
        made = library f.function f.is_text_form (exprs_of s.made) f.compare (base_view f.is_base_one);
        is = subst A (sym s.function_is.is)
            (ap (λ (z : terms.Term). term_or z terms.no_term) (called_is env (place_told e) f.function f.is_text_form f.is_base_one f.compare of gs s.made s.function_is.compare_is (takes_them env x e args ps below s ∙ takes) typed s.values));
        ends = λ n.
            ap (λ (o : Option (Exprs × List Piece)). of_found (λ (xs : Exprs). expr_of n (library f.function f.is_text_form xs f.compare (base_view f.is_base_one))) o) (taken_off x.count s.made ps below s.count_is s.on_top);
      };
}

-- a function that doesn't take them
pub ends_untaken : (x : FunctionCall) (of : DeclaredType) → call_takes x ≡ false → declared_view of ≡ declared_of x.function.function x.function.is_text_form → EndsFunction x (term.Value (broken_ending 25 x.place of x.count))
ends_untaken x of takes typed = record {
  named = λ t. tt;
  stands = λ env t e args ps below s.
      let f = x.function in
      let gs = givens env args in
      let place = place_told e in
      let broken : Refusal = record { rule = 25; place = x.place } in
      let u = declared_view (told_type of) in
      let A : terms.Term → Type 0 = λ (z : terms.Term). indexed env place (item_of env place z) gs ≡ a_value (marked (record { rule = 25; place = place }) (exprs_of s.made)) u in
      let B : Place → Type 0 = λ (p : Place). indexed env place (item_of env place (callee env e (term_of env e))) gs ≡ a_value (marked (record { rule = 25; place = p }) (exprs_of s.made)) u in
      record {
        made = marked broken (exprs_of s.made);
        is = subst B (sym s.place_is) (subst A (sym s.function_is.is)
            (ap (λ (z : terms.Term). term_or z terms.no_term) (valued_call env place f.function f.is_text_form (base_number f.is_base_one) false gs s.made (takes_them env x e args ps below s ∙ takes) s.values)
            ∙ ap (λ (v : Declared). broken_call 25 place v (exprs_of s.made)) (sym typed) ∙ ap (λ (v : Declared). a_value (marked (record { rule = 25; place = place }) (exprs_of s.made)) v) (sym (told_view of))));
        ends = λ n. ap (λ (o : Option (Exprs × List Piece)). of_found (λ (xs : Exprs). expr_of n (marked broken xs)) o) (taken_off x.count s.made ps below s.count_is s.on_top);
      };
}

-- ---- arguments end

abbrev pub ended_function : FunctionCall → Term → Bor Declarations → Tree
ended_function x y known = record { place = x.place; name = None; dotted = None; term = y; declared = known }

ended_stands : (env : Env) (x : FunctionCall) (y : Term) (known : Bor Declarations) → declared_in env.scope ≡ declarations_view known.now → (left right : Token) (xs : List Item) (d : Drafted) → EndsFunction x y → (is : List nodes.Item) (base : Base) → Stands env d.tables (items.Function x ∷ xs) is d.pieces base
    → Stands env d.tables (items.Tree (ended_function x y known) ∷ xs) (behind_node (node.Index left right) is) d.pieces base
ended_stands env x y known w left right xs d m [] base h = absurd h
ended_stands env x y known w left right xs d m (nodes.tree v ∷ is) base h = absurd h
ended_stands env x y known w left right xs d m (nodes.arguments args ∷ []) base h = absurd h
ended_stands env x y known w left right xs d m (nodes.arguments args ∷ nodes.arguments more ∷ is) base h = absurd h
ended_stands env x y known w left right xs d m (nodes.arguments args ∷ nodes.tree b ∷ is) base h = (
  h.0,
  (tree_ended env d.tables y x.place known w b args left right d.pieces h.0 h.1.0.place_is (m.stands env d.tables b args d.pieces h.0 h.1.0), h.1.1),
)

pub closes_function : (x : FunctionCall) (y : Term) (known : Bor Declarations) (d : Drafted) → EndsFunction x y → Closes (declarations_view known.now) (items.Function x) d d (ended_function x y known)
closes_function x y known d m = record { grown = grown_same d; named = m.named d.tables; stands = λ env w left right xs is base k h. ended_stands env x y known w left right xs d m is base h }
