-- The places of a statement are those of its nodes, and its own behind them.
use Rattle.std.proofs.Common.{◌≡◌, Bool, true, false, cond, ℕ, zero, suc, List, [], ◌∷◌, ◌++◌, map, Option, Some, None, refl, sym, ap, subst, ◌∙◌, append_assoc}
use Rattle.std.specs.Prelude.{IsSome, flat_map}
use Rattle.std.proofs.lemmas.Bool.{false≢true}
use Rattle.std.proofs.lemmas.List.{append-nil}
use Rattle.vba_base.specs.declared.place.Place.{Place}
use Rattle.vba_base.specs.declared.place.Refusal.{Refusal}
use Rattle.vba_values.specs.declared.types.OpKind.{OpKind}
use Rattle.vba_values.specs.Types.{Declared}
use Rattle.bound_project.specs.declared.statement.ActionKind.{ActionKind}
use Rattle.bound_project.specs.declared.statement.ActionKind.TheVariants as kind
use Rattle.bound_project.specs.declared.statement.StatementNode.{StatementNode}
use Rattle.bound_project.specs.declared.node.Node.{Node}
use Rattle.bound_project.specs.declared.node.LateUse.TheVariants.{Assigning, Setting}
use Rattle.bound_project.specs.declared.project.Body.{Body}
use Rattle.bound_project.specs.declared.project.Project.{Project}
use Rattle.bound_project.specs.View.{declared_view}
use Rattle.bound_project.specs.Expressions.{Expr, Exprs, no_exprs, Lvalue, Args, no_args, Given, none_given, Prints, no_prints, shown, zone, operand_type}
use Rattle.bound_project.specs.Statements.{Tests, no_tests, test_is, test_range, Resizes, no_resizes, resize, Arrays, no_arrays, an_array, Action, assign_member}
use Rattle.bound_project.specs.Statements as plain
use Rattle.bound_project.specs.Pieces.{Piece, an_expr, a_place, a_member, an_object, a_late, Sought, is_member, is_late, name_in, sought_in, exprs_off, given_off, a_value_shown, a_zone, a_test_is, a_test_range, a_resize, an_erased, Tables, prints_off, tests_off, resizes_off, arrays_off, arguments_off, pieces}
use Rattle.bound_project.specs.Bodies.{whole, one_value, one_place, behind_object, behind_value, member_found, item_found, element_found, late_found, alone, action_of, action_or, part, statement_view, StatementFits, AllFit, BodiesFit, Fits, body_view, tables_of, project_view}
use Rattle.static_rules.specs.Broken.{double_at, broken, place_broken, args_broken, given_broken, list_broken, prints_broken, range_broken, tests_broken, resizes_broken, arrays_broken, loop_broken, action_broken, body_broken, least_of, first_broken}
use Rattle.static_rules.specs.Scan.{selected_type, nodes_places, loop_places, statement_places, statements_places, bodies_places}
use Rattle.static_rules.proofs.Pieces.{found_in, AllThere, ExprsOff, exprs_are, ArgsOff, args_are, GivenOff, given_are, one, two}
use Rattle.static_rules.proofs.Nodes.{as_two, nodes_add}

-- ---- lists of a statement off the stack

abbrev PrintsOff : (selected : Declared) → List Piece → Prints → Option (Prints × List Piece) → Type 0
PrintsOff selected st acc None = Unit {0}
PrintsOff selected st acc (Some (ps, rest)) = (found_in selected rest ++ prints_broken ps ≡ found_in selected st ++ prints_broken acc) × (AllThere rest → AllThere st)

prints_shown : (selected : Declared) (e : Expr) (st : List Piece) (acc : Prints) (o : Option (Prints × List Piece)) → PrintsOff selected st (shown e acc) o → PrintsOff selected (a_value_shown e ∷ st) acc o
prints_shown selected e st acc None h = tt
prints_shown selected e st acc (Some (ps, rest)) h = (h.0 ∙ sym (append_assoc (found_in selected st) (broken e) (prints_broken acc)), λ there. (tt, h.1 there))

prints_zone : (selected : Declared) (st : List Piece) (acc : Prints) (o : Option (Prints × List Piece)) → PrintsOff selected st (zone acc) o → PrintsOff selected (a_zone ∷ st) acc o
prints_zone selected st acc None h = tt
prints_zone selected st acc (Some (ps, rest)) h = (h.0 ∙ ap (λ c. c ++ prints_broken acc) (sym (append-nil (found_in selected st))), λ there. (tt, h.1 there))

prints_are : (selected : Declared) (n : ℕ) (st : List Piece) (acc : Prints) → PrintsOff selected st acc (prints_off n st acc)
prints_are selected zero st acc = (refl, λ there. there)
prints_are selected (suc n) (a_value_shown e ∷ st) acc = prints_shown selected e st acc (prints_off n st (shown e acc)) (prints_are selected n st (shown e acc))
prints_are selected (suc n) (a_zone ∷ st) acc = prints_zone selected st acc (prints_off n st (zone acc)) (prints_are selected n st (zone acc))
prints_are selected (suc n) st acc = tt

abbrev TestsOff : (selected : Declared) → List Piece → Tests → Option (Tests × List Piece) → Type 0
TestsOff selected st acc None = Unit {0}
TestsOff selected st acc (Some (ts, rest)) = (found_in selected rest ++ tests_broken selected ts ≡ found_in selected st ++ tests_broken selected acc) × (AllThere rest → AllThere st)

tests_is : (selected : Declared) (o : OpKind) (at : Place) (e : Expr) (st : List Piece) (acc : Tests) (found : Option (Tests × List Piece))
    → TestsOff selected st (test_is o at e acc) found → TestsOff selected (a_test_is o at e ∷ st) acc found
tests_is selected o at e st acc None h = tt
tests_is selected o at e st acc (Some (ts, rest)) h =
    (h.0 ∙ sym (append_assoc (found_in selected st) (broken e ++ double_at at o selected (operand_type e)) (tests_broken selected acc)), λ there. (tt, h.1 there))

tests_range : (selected : Declared) (a b : Expr) (a_at b_at : Place) (st : List Piece) (acc : Tests) (found : Option (Tests × List Piece))
    → TestsOff selected st (test_range a b a_at b_at acc) found → TestsOff selected (a_test_range a b a_at b_at ∷ st) acc found
tests_range selected a b a_at b_at st acc None h = tt
tests_range selected a b a_at b_at st acc (Some (ts, rest)) h =
    (h.0 ∙ sym (append_assoc (found_in selected st) (broken a ++ (broken b ++ range_broken selected a b a_at b_at)) (tests_broken selected acc)), λ there. (tt, h.1 there))

tests_are : (selected : Declared) (n : ℕ) (st : List Piece) (acc : Tests) → TestsOff selected st acc (tests_off n st acc)
tests_are selected zero st acc = (refl, λ there. there)
tests_are selected (suc n) (a_test_is o at e ∷ st) acc = tests_is selected o at e st acc (tests_off n st (test_is o at e acc)) (tests_are selected n st (test_is o at e acc))
tests_are selected (suc n) (a_test_range a b a_at b_at ∷ st) acc =
    tests_range selected a b a_at b_at st acc (tests_off n st (test_range a b a_at b_at acc)) (tests_are selected n st (test_range a b a_at b_at acc))
tests_are selected (suc n) st acc = tt

abbrev ResizesOff : (selected : Declared) → List Piece → Resizes → Option (Resizes × List Piece) → Type 0
ResizesOff selected st acc None = Unit {0}
ResizesOff selected st acc (Some (rs, rest)) = (found_in selected rest ++ resizes_broken rs ≡ found_in selected st ++ resizes_broken acc) × (AllThere rest → AllThere st)

resizes_more : (selected : Declared) (x : Lvalue) (es : Exprs) (of : Option Declared) (st : List Piece) (acc : Resizes) (found : Option (Resizes × List Piece))
    → ResizesOff selected st (resize x es of acc) found → ResizesOff selected (a_resize x es of ∷ st) acc found
resizes_more selected x es of st acc None h = tt
resizes_more selected x es of st acc (Some (rs, rest)) h =
    (h.0 ∙ sym (append_assoc (found_in selected st) (place_broken x ++ list_broken es) (resizes_broken acc)), λ there. (tt, h.1 there))

resizes_are : (selected : Declared) (n : ℕ) (st : List Piece) (acc : Resizes) → ResizesOff selected st acc (resizes_off n st acc)
resizes_are selected zero st acc = (refl, λ there. there)
resizes_are selected (suc n) (a_resize x es of ∷ st) acc = resizes_more selected x es of st acc (resizes_off n st (resize x es of acc)) (resizes_are selected n st (resize x es of acc))
resizes_are selected (suc n) st acc = tt

abbrev ArraysOff : (selected : Declared) → List Piece → Arrays → Option (Arrays × List Piece) → Type 0
ArraysOff selected st acc None = Unit {0}
ArraysOff selected st acc (Some (xs, rest)) = (found_in selected rest ++ arrays_broken xs ≡ found_in selected st ++ arrays_broken acc) × (AllThere rest → AllThere st)

arrays_more : (selected : Declared) (x : Lvalue) (st : List Piece) (acc : Arrays) (found : Option (Arrays × List Piece)) → ArraysOff selected st (an_array x acc) found → ArraysOff selected (an_erased x ∷ st) acc found
arrays_more selected x st acc None h = tt
arrays_more selected x st acc (Some (xs, rest)) h = (h.0 ∙ sym (append_assoc (found_in selected st) (place_broken x) (arrays_broken acc)), λ there. (tt, h.1 there))

arrays_are : (selected : Declared) (n : ℕ) (st : List Piece) (acc : Arrays) → ArraysOff selected st acc (arrays_off n st acc)
arrays_are selected zero st acc = (refl, λ there. there)
arrays_are selected (suc n) (an_erased x ∷ st) acc = arrays_more selected x st acc (arrays_off n st (an_array x acc)) (arrays_are selected n st (an_array x acc))
arrays_are selected (suc n) st acc = tt

-- ---- what is made of the pieces of a statement

-- the places of the action that was made, if one was
abbrev Made : (selected : Declared) → (own : List Refusal) → List Piece → Option Action → Type 0
Made selected own st None = Unit {0}
Made selected own st (Some a) = (action_broken a ≡ found_in selected st ++ own) × AllThere st

value_made : (selected : Declared) (go : Expr → Action) → ((e : Expr) → action_broken (go e) ≡ broken e) → (st : List Piece) → Made selected [] st (one_value st go)
value_made selected go h (an_expr e ∷ []) = (h e ∙ sym (append-nil (broken e)), (tt, tt))
value_made selected go h st = tt

place_made : (selected : Declared) (go : Lvalue → Action) → ((x : Lvalue) → action_broken (go x) ≡ place_broken x) → (st : List Piece) → Made selected [] st (one_place st go)
place_made selected go h (a_place x ∷ []) = (h x ∙ sym (append-nil (place_broken x)), (tt, tt))
place_made selected go h st = tt

alone_made : (selected : Declared) (a : Action) → action_broken a ≡ [] → (st : List Piece) → Made selected [] st (alone st a)
alone_made selected a h [] = (h, tt)
alone_made selected a h (p ∷ st) = tt

prints_made : (selected : Declared) (go : Prints → Action) → ((ps : Prints) → action_broken (go ps) ≡ prints_broken ps)
    → (st : List Piece) (found : Option (Prints × List Piece)) → PrintsOff selected st no_prints found → Made selected [] st (whole found go)
prints_made selected go h st None off = tt
prints_made selected go h st (Some (ps, [])) off = (h ps ∙ off.0, off.1 tt)
prints_made selected go h st (Some (ps, p ∷ rest)) off = tt

args_made : (selected : Declared) (go : Args → Action) → ((args : Args) → action_broken (go args) ≡ args_broken args)
    → (st : List Piece) (found : Option (Args × List Piece)) → ArgsOff selected st no_args found → Made selected [] st (whole found go)
args_made selected go h st None off = tt
args_made selected go h st (Some (args, [])) off = (h args ∙ off.0, off.1 tt)
args_made selected go h st (Some (args, p ∷ rest)) off = tt

-- arguments behind a value
behind_made : (selected : Declared) (go : Args → Expr → Action) → ((args : Args) (e : Expr) → action_broken (go args e) ≡ broken e ++ args_broken args)
    → (st : List Piece) (found : Option (Args × List Piece)) → ArgsOff selected st no_args found → Made selected [] st (behind_value found go)
behind_made selected go h st None off = tt
behind_made selected go h st (Some (args, an_expr e ∷ [])) off = (h args e ∙ off.0, off.1 (tt, tt))
behind_made selected go h st (Some (args, rest)) off = tt

-- arguments of a procedure of an object, behind a value
object_made : (selected : Declared) (go : Expr → Args → Expr → Action) → ((base : Expr) (args : Args) (e : Expr) → action_broken (go base args e) ≡ broken e ++ (broken base ++ args_broken args))
    → (st : List Piece) (found : Option (Args × List Piece)) → ArgsOff selected st no_args found → Made selected [] st (behind_object found go)
object_made selected go h st None off = tt
object_made selected go h st (Some (args, an_object base ∷ an_expr e ∷ [])) off =
    (h base args e ∙ sym (append_assoc (broken e) (broken base) (args_broken args)) ∙ off.0, off.1 (tt, (tt, tt)))
object_made selected go h st (Some (args, rest)) off = tt

-- an assignment to a member: arguments behind the member that was looked for, behind a value
assigned_if : (selected : Declared) (name other : List ℕ) (given : ℕ) (es : Exprs) (base e : Expr) (st : List Piece)
    → ExprsOff selected st no_exprs (Some (es, a_member base other given ∷ an_expr e ∷ [])) → (b : Bool) → Made selected [] st (cond b (Some (assign_member base name es e)) None)
assigned_if selected name other given es base e st off true = (sym (append_assoc (broken e) (broken base) (list_broken es)) ∙ off.0, off.1 (tt, (tt, tt)))
assigned_if selected name other given es base e st off false = tt

member_made : (selected : Declared) (name : List ℕ) (st : List Piece) (found : Option (Exprs × List Piece)) → ExprsOff selected st no_exprs found → Made selected [] st (member_found name found)
member_made selected name st None off = tt
member_made selected name st (Some (es, a_member base other given ∷ an_expr e ∷ [])) off = assigned_if selected name other given es base e st off (is_member name other given es)
member_made selected name st (Some (es, rest)) off = tt

-- an assignment to an item: numbers behind the value of which they mean one, behind a value
item_made : (selected : Declared) (st : List Piece) (found : Option (Exprs × List Piece)) → ExprsOff selected st no_exprs found → Made selected [] st (item_found found)
item_made selected st None off = tt
item_made selected st (Some (es, an_expr base ∷ an_expr e ∷ [])) off = (sym (append_assoc (broken e) (broken base) (list_broken es)) ∙ off.0, off.1 (tt, (tt, tt)))
item_made selected st (Some (es, rest)) off = tt

-- an assignment to what numbers lead to from a place, behind a value
element_made : (selected : Declared) (go : Lvalue → Exprs → Expr → Action) → ((x : Lvalue) (es : Exprs) (e : Expr) → action_broken (go x es e) ≡ broken e ++ (place_broken x ++ list_broken es))
    → (st : List Piece) (found : Option (Exprs × List Piece)) → ExprsOff selected st no_exprs found → Made selected [] st (element_found go found)
element_made selected go h st None off = tt
element_made selected go h st (Some (es, a_place x ∷ an_expr e ∷ [])) off = (h x es e ∙ sym (append_assoc (broken e) (place_broken x) (list_broken es)) ∙ off.0, off.1 (tt, (tt, tt)))
element_made selected go h st (Some (es, rest)) off = tt

-- an assignment to a late-bound member: its arguments behind the object that was looked at for it, behind a value
late_if_made : (selected : Declared) (go : Expr → Given → Expr → Action) (other : Sought) (given : Given) (base e : Expr) → action_broken (go base given e) ≡ broken e ++ (broken base ++ given_broken given)
    → (st : List Piece) → GivenOff selected st none_given (Some (given, a_late base other ∷ an_expr e ∷ [])) → (b : Bool) → Made selected [] st (cond b (Some (go base given e)) None)
late_if_made selected go other given base e h st off true = (h ∙ sym (append_assoc (broken e) (broken base) (given_broken given)) ∙ off.0, off.1 (tt, (tt, tt)))
late_if_made selected go other given base e h st off false = tt

late_made : (selected : Declared) (s : Sought) (go : Expr → Given → Expr → Action)
    → ((base : Expr) (given : Given) (e : Expr) → action_broken (go base given e) ≡ broken e ++ (broken base ++ given_broken given))
    → (st : List Piece) (found : Option (Given × List Piece)) → GivenOff selected st none_given found → Made selected [] st (late_found s go found)
late_made selected s go h st None off = tt
late_made selected s go h st (Some (given, a_late base other ∷ an_expr e ∷ [])) off = late_if_made selected go other given base e (h base given e) st off (is_late s other given)
late_made selected s go h st (Some (given, rest)) off = tt

tests_made : (selected : Declared) (go : Tests → Action) → ((ts : Tests) → action_broken (go ts) ≡ tests_broken selected ts)
    → (st : List Piece) (found : Option (Tests × List Piece)) → TestsOff selected st no_tests found → Made selected [] st (whole found go)
tests_made selected go h st None off = tt
tests_made selected go h st (Some (ts, [])) off = (h ts ∙ off.0, off.1 tt)
tests_made selected go h st (Some (ts, p ∷ rest)) off = tt

resizes_made : (selected : Declared) (go : Resizes → Action) → ((rs : Resizes) → action_broken (go rs) ≡ resizes_broken rs)
    → (st : List Piece) (found : Option (Resizes × List Piece)) → ResizesOff selected st no_resizes found → Made selected [] st (whole found go)
resizes_made selected go h st None off = tt
resizes_made selected go h st (Some (rs, [])) off = (h rs ∙ off.0, off.1 tt)
resizes_made selected go h st (Some (rs, p ∷ rest)) off = tt

arrays_made : (selected : Declared) (go : Arrays → Action) → ((xs : Arrays) → action_broken (go xs) ≡ arrays_broken xs)
    → (st : List Piece) (found : Option (Arrays × List Piece)) → ArraysOff selected st no_arrays found → Made selected [] st (whole found go)
arrays_made selected go h st None off = tt
arrays_made selected go h st (Some (xs, [])) off = (h xs ∙ off.0, off.1 tt)
arrays_made selected go h st (Some (xs, p ∷ rest)) off = tt

-- ---- the actions

-- the type of the value of its Select Case
abbrev selected_of : ActionKind → Declared
selected_of k = declared_view (selected_type k)

action_made : (t : Tables) (k : ActionKind) (st : List Piece) → Made (selected_of k) (loop_places k) st (action_of t k st)
action_made t kind.Assign (a_place x ∷ an_expr e ∷ []) = (sym (append-nil (broken e ++ place_broken x)), (tt, (tt, tt)))
action_made t kind.Assign st = tt
action_made t (kind.AssignItem count) st =
    let of = selected_of (kind.AssignItem count) in
    item_made of st (exprs_off count st no_exprs) (exprs_are of count st no_exprs)
action_made t kind.Set (a_place x ∷ an_expr e ∷ []) = (sym (append-nil (broken e ++ place_broken x)), (tt, (tt, tt)))
action_made t kind.Set st = tt
action_made t kind.AssignDefault (an_expr x ∷ an_expr e ∷ []) = (sym (append-nil (broken e ++ broken x)), (tt, (tt, tt)))
action_made t kind.AssignDefault st = tt
action_made t (kind.AssignMember m count) st =
    let of = selected_of (kind.AssignMember m count) in
    member_made of (name_in t m) st (exprs_off count st no_exprs) (exprs_are of count st no_exprs)
action_made t kind.SetMember (an_expr x ∷ an_expr e ∷ []) = (sym (append-nil (broken e ++ broken x)), (tt, (tt, tt)))
action_made t kind.SetMember st = tt
action_made t kind.AssignThrough (an_expr x ∷ an_expr e ∷ []) = (sym (append-nil (broken e ++ broken x)), (tt, (tt, tt)))
action_made t kind.AssignThrough st = tt
action_made t (kind.AssignElement count) st =
    let of = selected_of (kind.AssignElement count) in
    element_made of _ (λ x es e. refl) st (exprs_off count st no_exprs) (exprs_are of count st no_exprs)
action_made t (kind.SetElement count) st =
    let of = selected_of (kind.SetElement count) in
    element_made of _ (λ x es e. refl) st (exprs_off count st no_exprs) (exprs_are of count st no_exprs)
action_made t (kind.AssignLate m) st =
    let of = selected_of (kind.AssignLate m) in
    let s = sought_in t Assigning m in
    late_made of s _ (λ base given e. refl) st (given_off s m.arguments st none_given) (given_are of s m.arguments st none_given)
action_made t (kind.SetLate m) st =
    let of = selected_of (kind.SetLate m) in
    let s = sought_in t Setting m in
    late_made of s _ (λ base given e. refl) st (given_off s m.arguments st none_given) (given_are of s m.arguments st none_given)
action_made t kind.Evaluate st = value_made (selected_of kind.Evaluate) _ (λ e. refl) st
action_made t (kind.LetProperty q count of) st =
    let selected = selected_of (kind.LetProperty q count of) in
    behind_made selected _ (λ args e. refl) st (arguments_off count st no_args) (args_are selected count st no_args)
action_made t (kind.LetPropertyInOrder q count order of) st =
    let selected = selected_of (kind.LetPropertyInOrder q count order of) in
    behind_made selected _ (λ args e. refl) st (arguments_off count st no_args) (args_are selected count st no_args)
action_made t (kind.SetProperty q count of) st =
    let selected = selected_of (kind.SetProperty q count of) in
    behind_made selected _ (λ args e. refl) st (arguments_off count st no_args) (args_are selected count st no_args)
action_made t (kind.SetPropertyInOrder q count order of) st =
    let selected = selected_of (kind.SetPropertyInOrder q count order of) in
    behind_made selected _ (λ args e. refl) st (arguments_off count st no_args) (args_are selected count st no_args)
action_made t (kind.LetMethod q count of) st =
    let selected = selected_of (kind.LetMethod q count of) in
    object_made selected _ (λ base args e. refl) st (arguments_off count st no_args) (args_are selected count st no_args)
action_made t (kind.LetMethodInOrder q count order of) st =
    let selected = selected_of (kind.LetMethodInOrder q count order of) in
    object_made selected _ (λ base args e. refl) st (arguments_off count st no_args) (args_are selected count st no_args)
action_made t (kind.SetMethod q count of) st =
    let selected = selected_of (kind.SetMethod q count of) in
    object_made selected _ (λ base args e. refl) st (arguments_off count st no_args) (args_are selected count st no_args)
action_made t (kind.SetMethodInOrder q count order of) st =
    let selected = selected_of (kind.SetMethodInOrder q count order of) in
    object_made selected _ (λ base args e. refl) st (arguments_off count st no_args) (args_are selected count st no_args)
action_made t (kind.RaiseEvent event count) st =
    let of = selected_of (kind.RaiseEvent event count) in
    args_made of _ (λ args. refl) st (arguments_off count st no_args) (args_are of count st no_args)
action_made t (kind.RaiseEventInOrder event count order) st =
    let of = selected_of (kind.RaiseEventInOrder event count order) in
    args_made of _ (λ args. refl) st (arguments_off count st no_args) (args_are of count st no_args)
action_made t (kind.Print count ends) st =
    let of = selected_of (kind.Print count ends) in
    prints_made of _ (λ ps. refl) st (prints_off count st no_prints) (prints_are of count st no_prints)
action_made t (kind.Raise count) st =
    let of = selected_of (kind.Raise count) in
    args_made of _ (λ args. refl) st (arguments_off count st no_args) (args_are of count st no_args)
action_made t (kind.RaiseInOrder count order) st =
    let of = selected_of (kind.RaiseInOrder count order) in
    args_made of _ (λ args. refl) st (arguments_off count st no_args) (args_are of count st no_args)
action_made t (kind.Test sense to other) st = value_made (selected_of (kind.Test sense to other)) _ (λ e. refl) st
action_made t (kind.GoTo to) st = alone_made (selected_of (kind.GoTo to)) _ refl st
action_made t (kind.For x compare last step last_at step_at first behind) (an_expr c ∷ an_expr b ∷ an_expr a ∷ []) = (
  ap (λ l. broken a ++ l) (as_two last step b c (λ d e. loop_broken (declared_view x.of) d e last_at step_at))
      ∙ two (broken a) (broken b) (broken c) (loop_broken (declared_view x.of) (declared_view last) (declared_view step) last_at step_at) _ refl,
  (tt, (tt, (tt, tt))),
)
action_made t (kind.For x compare last step last_at step_at first behind) st = tt
action_made t (kind.Next x header first) st = alone_made (selected_of (kind.Next x header first)) _ refl st
action_made t (kind.ForEach x first behind) st = value_made (selected_of (kind.ForEach x first behind)) _ (λ e. refl) st
action_made t (kind.NextEach x header first) st = alone_made (selected_of (kind.NextEach x header first)) _ refl st
action_made t (kind.ExitEach header to) st = alone_made (selected_of (kind.ExitEach header to)) _ refl st
action_made t (kind.Select first) st = value_made (selected_of (kind.Select first)) _ (λ e. refl) st
action_made t (kind.Case count header of compare first other) st =
    tests_made (declared_view of) _ (λ ts. refl) st (tests_off count st no_tests) (tests_are (declared_view of) count st no_tests)
action_made t (kind.ReDim preserve count) st =
    let of = selected_of (kind.ReDim preserve count) in
    resizes_made of _ (λ rs. refl) st (resizes_off count st no_resizes) (resizes_are of count st no_resizes)
action_made t (kind.Erase count) st =
    let of = selected_of (kind.Erase count) in
    arrays_made of _ (λ xs. refl) st (arrays_off count st no_arrays) (arrays_are of count st no_arrays)
action_made t kind.WithPlace st = place_made (selected_of kind.WithPlace) _ (λ x. refl) st
action_made t kind.WithValue st = value_made (selected_of kind.WithValue) _ (λ e. refl) st
action_made t (kind.EndWith header) st = alone_made (selected_of (kind.EndWith header)) _ refl st
action_made t (kind.GoSub to) st = alone_made (selected_of (kind.GoSub to)) _ refl st
action_made t kind.Return st = alone_made (selected_of kind.Return) _ refl st
action_made t (kind.ExitTo end) st = alone_made (selected_of (kind.ExitTo end)) _ refl st
action_made t (kind.OnError handling) st = alone_made (selected_of (kind.OnError handling)) _ refl st
action_made t kind.EndHandler st = alone_made (selected_of kind.EndHandler) _ refl st
action_made t kind.ClearErr st = alone_made (selected_of kind.ClearErr) _ refl st
action_made t kind.ResumeAgain st = alone_made (selected_of kind.ResumeAgain) _ refl st
action_made t kind.ResumeNext st = alone_made (selected_of kind.ResumeNext) _ refl st
action_made t (kind.ResumeAt to) st = alone_made (selected_of (kind.ResumeAt to)) _ refl st
action_made t kind.Stop st = alone_made (selected_of kind.Stop) _ refl st
action_made t kind.End st = alone_made (selected_of kind.End) _ refl st

-- ---- statements, bodies and projects

action_found : (t : Tables) (k : ActionKind) (ns : List Node) (o : Option Action) → action_of t k (pieces t ns) ≡ o → IsSome o
    → nodes_places (selected_type k) ns ++ loop_places k ≡ action_broken (action_or o)
action_found t k ns None e h = absurd (false≢true h)
action_found t k ns (Some a) e h =
    let m : Made (selected_of k) (loop_places k) (pieces t ns) (Some a) = subst (λ o. Made (selected_of k) (loop_places k) (pieces t ns) o) e (action_made t k (pieces t ns)) in
    sym (m.0 ∙ ap (λ c. c ++ loop_places k) (nodes_add t (selected_type k) ns [] m.1).0)

statement_found : (t : Tables) (ns : List Node) (s : StatementNode) → StatementFits t ns s → statement_places ns s ≡ action_broken (statement_view t ns s).action
statement_found t ns s h =
    let own = part ns s.first_node s.nodes in
    action_found t s.action own (action_of t s.action (pieces t own)) refl h.1

statements_found : (t : Tables) (ns : List Node) (ss : List StatementNode) → AllFit t ns ss
    → statements_places ns ss ≡ flat_map (λ (s : plain.Statement). action_broken s.action) (map (statement_view t ns) ss)
statements_found t ns [] h = refl
statements_found t ns (s ∷ ss) h =
    ap (λ c. c ++ statements_places ns ss) (statement_found t ns s h.0)
    ∙ ap (λ c. action_broken (statement_view t ns s).action ++ c) (statements_found t ns ss h.1)

bodies_found : (t : Tables) (bs : List Body) → BodiesFit t bs → bodies_places bs ≡ flat_map body_broken (map (body_view t) bs)
bodies_found t [] h = refl
bodies_found t (b ∷ bs) h =
    ap (λ c. c ++ bodies_places bs) (statements_found t b.nodes.items b.statements.items h.0)
    ∙ ap (λ c. body_broken (body_view t b) ++ c) (bodies_found t bs h.1)

pub project_found : (pr : Project) → Fits pr → least_of None (bodies_places pr.bodies.items) ≡ first_broken (project_view pr)
project_found pr fits = ap (λ c. least_of None c) (bodies_found (tables_of pr) pr.bodies.items fits)
