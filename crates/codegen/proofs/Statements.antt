-- The code of a statement is the instructions of what stands before its nodes, of its nodes, and of what stands behind.
use Rattle.std.proofs.Common.{◌≡◌, Bool, ℕ, zero, suc, ◌+◌, true, false, List, [], ◌∷◌, ◌++◌, length, map, Option, Some, None, refl, sym, ap, subst, ◌∙◌, arith, append_assoc}
use Rattle.std.specs.Prelude.{slice_index, IsSome, if◌then◌else◌}
use Rattle.vba_base.specs.declared.place.Place.{Place}
use Rattle.vba_values.specs.declared.types.Compare.{Compare}
use Rattle.vba_values.specs.declared.types.OpKind.{OpKind}
use Rattle.vba_values.specs.Types.{Declared}
use Rattle.vba_values.specs.Val.{Val}
use Rattle.bound_project.specs.declared.declared_type.DeclaredType.{DeclaredType}
use Rattle.bound_project.specs.declared.statement.Handling.TheVariants.{PassedOn, Skipped, HandledAt}
use Rattle.bound_project.specs.declared.statement.ActionKind.{ActionKind}
use Rattle.bound_project.specs.declared.statement.ActionKind.TheVariants as kind
use Rattle.bound_project.specs.declared.statement.StatementNode.{StatementNode}
use Rattle.bound_project.specs.declared.node.LateUse.TheVariants.{Assigning, Setting}
use Rattle.bound_project.specs.declared.node.Node.{Node}
use Rattle.bound_project.specs.View.{declared_view, variable_view}
use Rattle.bound_project.specs.Expressions.{Expr, Exprs, no_exprs, given_count, Lvalue, Args, no_args, Given, none_given, Prints, no_prints, shown, zone, operand_type}
use Rattle.bound_project.specs.Statements.{Tests, no_tests, test_is, test_range, Resizes, no_resizes, resize, Arrays, no_arrays, an_array, Action, assign_item, assign_member}
use Rattle.bound_project.specs.Pieces.{Piece, an_expr, a_place, a_member, an_object, a_late, Sought, which_there, is_member, is_late, name_of, name_in, sought_in, exprs_off, given_off, a_value_shown, a_zone, a_test_is, a_test_range, a_resize, an_erased, Tables, order_in, prints_off, tests_off, resizes_off, arrays_off, arguments_off, pieces}
use Rattle.bound_project.specs.Bodies.{whole, one_value, one_place, behind_value, behind_object, member_found, item_found, element_found, late_found, alone, action_of, action_or, part, statement_view, StatementFits, AllFit, BodiesFit, body_view}
use Rattle.bound_project.specs.declared.project.Body.{Body}
use Rattle.std.proofs.lemmas.Bool.{false≢true}
use Rattle.std.proofs.lemmas.List.{length-map}
use Rattle.pcode.specs.Layout.{statement_length, body_length, addresses, entries_of, body_code, bodies_code}
use Rattle.pcode.specs.Instructions as plain
use Rattle.pcode.specs.Code.{Entry, count, prints_count, expr_code, place_code, args_code, prints_code, resizes_code, erases_code, tests_code, action_code, statement_code, list_code, list_count}
use Rattle.pcode.specs.View.{instr_view}
use Rattle.pcode.proofs.LateCode.{late_let_code, late_set_code}
use Rattle.codegen.specs.declared.node.Around.{Around}
use Rattle.codegen.specs.declared.node.Added.{Added}
use Rattle.codegen.specs.Emission.{Row, around_of, before_instrs, work_instrs, end_instr, nodes_instrs, action_instrs, statement_instrs, statement_size, body_size, body_instrs, row_in, bodies_instrs, row_of, table_of}
use Rattle.codegen.proofs.Pieces.{find_code, codes, AllThere, ExprsOff, exprs_are, ArgsOff, args_are, append_none, one, two, member_code}
use Rattle.codegen.proofs.Late.{given_list, GivenOff, given_are, late_parts}
use Rattle.codegen.proofs.Nodes.{Grown, same_two, sought_seen, map_append, nodes_emit}

-- ---- lists of a statement off the stack

abbrev PrintsOff : Around → ℕ → List Piece → Prints → Option (Prints × List Piece) → Type 0
PrintsOff around n st acc None = Unit {0}
PrintsOff around n st acc (Some (ps, rest)) =
    (codes around rest ++ prints_code ps ≡ codes around st ++ prints_code acc) × (prints_count ps ≡ n + prints_count acc) × (AllThere rest → AllThere st)

prints_shown : (around : Around) (n : ℕ) (e : Expr) (st : List Piece) (acc : Prints) (o : Option (Prints × List Piece)) → PrintsOff around n st (shown e acc) o → PrintsOff around (suc n) (a_value_shown e ∷ st) acc o
prints_shown around n e st acc None h = tt
prints_shown around n e st acc (Some (ps, rest)) h =
    (h.0 ∙ one (codes around st) (expr_code e ++ plain.ShowText ∷ []) (prints_code acc) _ (sym (append_assoc (expr_code e) (plain.ShowText ∷ []) (prints_code acc))), omega (arith, h.1), λ there. (tt, h.2 there))

prints_zone : (around : Around) (n : ℕ) (st : List Piece) (acc : Prints) (o : Option (Prints × List Piece)) → PrintsOff around n st (zone acc) o → PrintsOff around (suc n) (a_zone ∷ st) acc o
prints_zone around n st acc None h = tt
prints_zone around n st acc (Some (ps, rest)) h = (h.0 ∙ one (codes around st) _ (prints_code acc) _ refl, omega (arith, h.1), λ there. (tt, h.2 there))

prints_are : (around : Around) (n : ℕ) (st : List Piece) (acc : Prints) → PrintsOff around n st acc (prints_off n st acc)
prints_are around zero st acc = (refl, omega arith, λ there. there)
prints_are around (suc n) (a_value_shown e ∷ st) acc = prints_shown around n e st acc (prints_off n st (shown e acc)) (prints_are around n st (shown e acc))
prints_are around (suc n) (a_zone ∷ st) acc = prints_zone around n st acc (prints_off n st (zone acc)) (prints_are around n st (zone acc))
prints_are around (suc n) st acc = tt

-- what stands around the tests of a Case
abbrev case_around : Row → (header : ℕ) → DeclaredType → Compare → (first : ℕ) → Around
case_around row header of compare first = record { header = header; of = of; compare = compare; to = slice_index row first; preserve = false }

abbrev tests_in : Row → (header : ℕ) → DeclaredType → Compare → (first other : ℕ) → Tests → List plain.Instr
tests_in row header of compare first other ts = tests_code (λ i. slice_index row i) ts header (declared_view of) compare first other

abbrev TestsOff : Row → (header : ℕ) → DeclaredType → Compare → (first other : ℕ) → List Piece → Tests → Option (Tests × List Piece) → Type 0
TestsOff row header of compare first other st acc None = Unit {0}
TestsOff row header of compare first other st acc (Some (ts, rest)) =
    (codes (case_around row header of compare first) rest ++ tests_in row header of compare first other ts
    ≡ codes (case_around row header of compare first) st ++ tests_in row header of compare first other acc) × (AllThere rest → AllThere st)

tests_is : (row : Row) (header : ℕ) (of : DeclaredType) (compare : Compare) (first other : ℕ) (o : OpKind) (at : Place) (e : Expr) (st : List Piece) (acc : Tests) (found : Option (Tests × List Piece))
    → TestsOff row header of compare first other st (test_is o at e acc) found → TestsOff row header of compare first other (a_test_is o at e ∷ st) acc found
tests_is row header of compare first other o at e st acc None h = tt
tests_is row header of compare first other o at e st acc (Some (ts, rest)) h =
    let after = tests_in row header of compare first other acc in
    let fits = plain.IfFits o compare (declared_view of) (operand_type e) (slice_index row first) in (
      h.0 ∙ one (codes (case_around row header of compare first) st) (plain.Selected header ∷ plain.Plain ∷ (expr_code e ++ fits ∷ [])) after _
          (ap (λ c. plain.Selected header ∷ plain.Plain ∷ c) (sym (append_assoc (expr_code e) (fits ∷ []) after))),
      λ there. (tt, h.1 there),
    )

tests_range : (row : Row) (header : ℕ) (of : DeclaredType) (compare : Compare) (first other : ℕ) (a b : Expr) (a_at b_at : Place) (st : List Piece) (acc : Tests) (found : Option (Tests × List Piece))
    → TestsOff row header of compare first other st (test_range a b a_at b_at acc) found → TestsOff row header of compare first other (a_test_range a b a_at b_at ∷ st) acc found
tests_range row header of compare first other a b a_at b_at st acc None h = tt
tests_range row header of compare first other a b a_at b_at st acc (Some (ts, rest)) h =
    let after = tests_in row header of compare first other acc in
    let fits = plain.IfBetween compare (declared_view of) (operand_type a) (operand_type b) (slice_index row first) in (
      h.0 ∙ one (codes (case_around row header of compare first) st) (plain.Selected header ∷ plain.Plain ∷ (expr_code a ++ (expr_code b ++ fits ∷ []))) after _
          (ap (λ c. plain.Selected header ∷ plain.Plain ∷ c)
          (ap (λ c. expr_code a ++ c) (sym (append_assoc (expr_code b) (fits ∷ []) after)) ∙ sym (append_assoc (expr_code a) (expr_code b ++ fits ∷ []) after))),
      λ there. (tt, h.1 there),
    )

tests_are : (row : Row) (header : ℕ) (of : DeclaredType) (compare : Compare) (first other n : ℕ) (st : List Piece) (acc : Tests) → TestsOff row header of compare first other st acc (tests_off n st acc)
tests_are row header of compare first other zero st acc = (refl, λ there. there)
tests_are row header of compare first other (suc n) (a_test_is o at e ∷ st) acc =
    tests_is row header of compare first other o at e st acc (tests_off n st (test_is o at e acc)) (tests_are row header of compare first other n st (test_is o at e acc))
tests_are row header of compare first other (suc n) (a_test_range a b a_at b_at ∷ st) acc =
    tests_range row header of compare first other a b a_at b_at st acc (tests_off n st (test_range a b a_at b_at acc)) (tests_are row header of compare first other n st (test_range a b a_at b_at acc))
tests_are row header of compare first other (suc n) st acc = tt

abbrev ResizesOff : Around → List Piece → Resizes → Option (Resizes × List Piece) → Type 0
ResizesOff around st acc None = Unit {0}
ResizesOff around st acc (Some (rs, rest)) = (codes around rest ++ resizes_code around.preserve rs ≡ codes around st ++ resizes_code around.preserve acc) × (AllThere rest → AllThere st)

resizes_more : (around : Around) (x : Lvalue) (es : Exprs) (of : Option Declared) (st : List Piece) (acc : Resizes) (found : Option (Resizes × List Piece))
    → ResizesOff around st (resize x es of acc) found → ResizesOff around (a_resize x es of ∷ st) acc found
resizes_more around x es of st acc None h = tt
resizes_more around x es of st acc (Some (rs, rest)) h =
    let after = resizes_code around.preserve acc in
    let work = plain.Redim around.preserve of (list_count es) in (
      h.0 ∙ one (codes around st) (place_code x ++ (list_code es ++ work ∷ [])) after _
          (ap (λ c. place_code x ++ c) (sym (append_assoc (list_code es) (work ∷ []) after)) ∙ sym (append_assoc (place_code x) (list_code es ++ work ∷ []) after)),
      λ there. (tt, h.1 there),
    )

resizes_are : (around : Around) (n : ℕ) (st : List Piece) (acc : Resizes) → ResizesOff around st acc (resizes_off n st acc)
resizes_are around zero st acc = (refl, λ there. there)
resizes_are around (suc n) (a_resize x es of ∷ st) acc = resizes_more around x es of st acc (resizes_off n st (resize x es of acc)) (resizes_are around n st (resize x es of acc))
resizes_are around (suc n) st acc = tt

abbrev ArraysOff : Around → List Piece → Arrays → Option (Arrays × List Piece) → Type 0
ArraysOff around st acc None = Unit {0}
ArraysOff around st acc (Some (xs, rest)) = (codes around rest ++ erases_code xs ≡ codes around st ++ erases_code acc) × (AllThere rest → AllThere st)

arrays_more : (around : Around) (x : Lvalue) (st : List Piece) (acc : Arrays) (found : Option (Arrays × List Piece)) → ArraysOff around st (an_array x acc) found → ArraysOff around (an_erased x ∷ st) acc found
arrays_more around x st acc None h = tt
arrays_more around x st acc (Some (xs, rest)) h =
    (h.0 ∙ one (codes around st) (place_code x ++ plain.EraseAt ∷ []) (erases_code acc) _ (sym (append_assoc (place_code x) (plain.EraseAt ∷ []) (erases_code acc))), λ there. (tt, h.1 there))

arrays_are : (around : Around) (n : ℕ) (st : List Piece) (acc : Arrays) → ArraysOff around st acc (arrays_off n st acc)
arrays_are around zero st acc = (refl, λ there. there)
arrays_are around (suc n) (an_erased x ∷ st) acc = arrays_more around x st acc (arrays_off n st (an_array x acc)) (arrays_are around n st (an_array x acc))
arrays_are around (suc n) st acc = tt

-- ---- what is made of the pieces of a statement

-- the code of the action that was made, if one was
abbrev Made : Around → (Action → List plain.Instr) → (front back : List plain.Instr) → List Piece → Option Action → Type 0
Made around code front back st None = Unit {0}
Made around code front back st (Some a) = (code a ≡ front ++ (codes around st ++ back)) × AllThere st

value_made : (around : Around) (code : Action → List plain.Instr) (front back : List plain.Instr) (go : Expr → Action) → ((e : Expr) → code (go e) ≡ front ++ (expr_code e ++ back))
    → (st : List Piece) → Made around code front back st (one_value st go)
value_made around code front back go h (an_expr e ∷ []) = (h e, (tt, tt))
value_made around code front back go h st = tt

place_made : (around : Around) (code : Action → List plain.Instr) (back : List plain.Instr) (go : Lvalue → Action) → ((x : Lvalue) → code (go x) ≡ place_code x ++ back)
    → (st : List Piece) → Made around code [] back st (one_place st go)
place_made around code back go h (a_place x ∷ []) = (h x, (tt, tt))
place_made around code back go h st = tt

alone_made : (around : Around) (code : Action → List plain.Instr) (back : List plain.Instr) (a : Action) → code a ≡ back → (st : List Piece) → Made around code [] back st (alone st a)
alone_made around code back a h [] = (h, tt)
alone_made around code back a h (p ∷ st) = tt

-- all that was there
all_there : (around : Around) (st : List Piece) (c back : List plain.Instr) → c ≡ codes around st ++ [] → c ++ back ≡ codes around st ++ back
all_there around st c back h = ap (λ x. x ++ back) (h ∙ append_none (codes around st))

prints_made : (around : Around) (code : Action → List plain.Instr) (back : ℕ → List plain.Instr) (go : Prints → Action) → ((ps : Prints) → code (go ps) ≡ prints_code ps ++ back (prints_count ps))
    → (n : ℕ) (st : List Piece) (found : Option (Prints × List Piece)) → PrintsOff around n st no_prints found → Made around code [] (back n) st (whole found go)
prints_made around code back go h n st None off = tt
prints_made around code back go h n st (Some (ps, [])) off =
    let k : prints_count ps ≡ n = omega (arith, off.1) in
    (h ps ∙ all_there around st (prints_code ps) (back (prints_count ps)) off.0 ∙ ap (λ m. codes around st ++ back m) k, off.2 tt)
prints_made around code back go h n st (Some (ps, p ∷ rest)) off = tt

args_made : (around : Around) (code : Action → List plain.Instr) (back : ℕ → List plain.Instr) (go : Args → Action) → ((args : Args) → code (go args) ≡ args_code args ++ back (count args))
    → (n : ℕ) (st : List Piece) (found : Option (Args × List Piece)) → ArgsOff around n st no_args found → Made around code [] (back n) st (whole found go)
args_made around code back go h n st None off = tt
args_made around code back go h n st (Some (args, [])) off =
    let k : count args ≡ n = omega (arith, off.1) in
    (h args ∙ all_there around st (args_code args) (back (count args)) off.0 ∙ ap (λ m. codes around st ++ back m) k, off.2 tt)
args_made around code back go h n st (Some (args, p ∷ rest)) off = tt

-- arguments behind a value
behind_made : (around : Around) (code : Action → List plain.Instr) (back : ℕ → List plain.Instr) (go : Args → Expr → Action)
    → ((args : Args) (e : Expr) → code (go args e) ≡ (expr_code e ++ args_code args) ++ back (count args))
    → (n : ℕ) (st : List Piece) (found : Option (Args × List Piece)) → ArgsOff around n st no_args found → Made around code [] (back n) st (behind_value found go)
behind_made around code back go h n st None off = tt
behind_made around code back go h n st (Some (args, an_expr e ∷ [])) off =
    let k : count args ≡ n = omega (arith, off.1) in
    (h args e ∙ all_there around st (expr_code e ++ args_code args) (back (count args)) off.0 ∙ ap (λ m. codes around st ++ back m) k, off.2 (tt, tt))
behind_made around code back go h n st (Some (args, rest)) off = tt

-- arguments of a procedure of an object, behind a value
method_made : (around : Around) (code : Action → List plain.Instr) (back : ℕ → List plain.Instr) (go : Expr → Args → Expr → Action)
    → ((base : Expr) (args : Args) (e : Expr) → code (go base args e) ≡ expr_code e ++ (expr_code base ++ plain.ObjectThere ∷ (args_code args ++ back (count args))))
    → (n : ℕ) (st : List Piece) (found : Option (Args × List Piece)) → ArgsOff around n st no_args found → Made around code [] (back n) st (behind_object found go)
method_made around code back go h n st None off = tt
method_made around code back go h n st (Some (args, an_object base ∷ an_expr e ∷ [])) off =
    let k : count args ≡ n = omega (arith, off.1) in
    let looked = plain.ObjectThere ∷ [] in
    let last = args_code args ++ back (count args) in
    let front = expr_code e ++ (expr_code base ++ looked) in
    let parted : expr_code e ++ (expr_code base ++ (looked ++ last)) ≡ front ++ last
    = ap (λ c. expr_code e ++ c) (sym (append_assoc (expr_code base) looked last)) ∙ sym (append_assoc (expr_code e) (expr_code base ++ looked) last) in (
      h base args e ∙ parted ∙ sym (append_assoc front (args_code args) (back (count args)))
          ∙ all_there around st (front ++ args_code args) (back (count args)) off.0 ∙ ap (λ m. codes around st ++ back m) k,
      off.2 (tt, (tt, tt)),
    )
method_made around code back go h n st (Some (args, rest)) off = tt

-- an assignment to a member: arguments behind the member that was looked for, behind a value
assigned_if : (around : Around) (code : Action → List plain.Instr) (back : List plain.Instr) (name other : List ℕ) (given : ℕ) (es : Exprs) (base e : Expr)
    → code (assign_member base name es e) ≡ expr_code e ++ (expr_code base ++ plain.MemberThere name (given_count es) ∷ (list_code es ++ back)) → (n : ℕ) (st : List Piece)
    → ExprsOff around n st no_exprs (Some (es, a_member base other given ∷ an_expr e ∷ [])) → (b : Bool) → is_member name other given es ≡ b
    → Made around code [] back st (if b then Some (assign_member base name es e) else None)
assigned_if around code back name other given es base e h n st off true k =
    let looked = plain.MemberThere name (given_count es) ∷ [] in
    let parted : expr_code base ++ (looked ++ (list_code es ++ back)) ≡ (expr_code base ++ looked) ++ (list_code es ++ back) = sym (append_assoc (expr_code base) looked (list_code es ++ back)) in
    let there : (expr_code e ++ (expr_code base ++ looked)) ++ list_code es ≡ codes around st ++ [] = ap (λ c. (expr_code e ++ c) ++ list_code es) (member_code name other given es base k) ∙ off.0 in
    (h ∙ two (expr_code e) (expr_code base ++ looked) (list_code es) back _ parted ∙ all_there around st ((expr_code e ++ (expr_code base ++ looked)) ++ list_code es) back there, off.2 (tt, (tt, tt)))
assigned_if around code back name other given es base e h n st off false k = tt

member_made : (around : Around) (code : Action → List plain.Instr) (back : ℕ → List plain.Instr) (name : List ℕ)
    → ((base e : Expr) (es : Exprs) → code (assign_member base name es e) ≡ expr_code e ++ (expr_code base ++ plain.MemberThere name (given_count es) ∷ (list_code es ++ back (list_count es))))
    → (n : ℕ) (st : List Piece) (found : Option (Exprs × List Piece)) → ExprsOff around n st no_exprs found → Made around code [] (back n) st (member_found name found)
member_made around code back name h n st None off = tt
member_made around code back name h n st (Some (es, a_member base other given ∷ an_expr e ∷ [])) off =
    let k : list_count es ≡ n = omega (arith, off.1) in
    assigned_if around code (back n) name other given es base e (h base e es ∙ ap (λ m. expr_code e ++ (expr_code base ++ plain.MemberThere name (given_count es) ∷ (list_code es ++ back m))) k)
    n st off (is_member name other given es) refl
member_made around code back name h n st (Some (es, rest)) off = tt

-- an assignment to an item: numbers behind the value of which they mean one, behind a value
item_made : (around : Around) (code : Action → List plain.Instr) (back : ℕ → List plain.Instr)
    → ((base e : Expr) (es : Exprs) → code (assign_item base es e) ≡ expr_code e ++ (expr_code base ++ (list_code es ++ back (list_count es))))
    → (n : ℕ) (st : List Piece) (found : Option (Exprs × List Piece)) → ExprsOff around n st no_exprs found → Made around code [] (back n) st (item_found found)
item_made around code back h n st None off = tt
item_made around code back h n st (Some (es, an_expr base ∷ an_expr e ∷ [])) off =
    let k : list_count es ≡ n = omega (arith, off.1) in (
      h base e es ∙ two (expr_code e) (expr_code base) (list_code es) (back (list_count es)) _ refl
          ∙ all_there around st ((expr_code e ++ expr_code base) ++ list_code es) (back (list_count es)) off.0 ∙ ap (λ m. codes around st ++ back m) k,
      off.2 (tt, (tt, tt)),
    )
item_made around code back h n st (Some (es, rest)) off = tt

-- an assignment to what numbers lead to from a place, behind a value
element_made : (around : Around) (code : Action → List plain.Instr) (back : ℕ → List plain.Instr) (go : Lvalue → Exprs → Expr → Action)
    → ((x : Lvalue) (e : Expr) (es : Exprs) → code (go x es e) ≡ expr_code e ++ (place_code x ++ (list_code es ++ back (list_count es))))
    → (n : ℕ) (st : List Piece) (found : Option (Exprs × List Piece)) → ExprsOff around n st no_exprs found → Made around code [] (back n) st (element_found go found)
element_made around code back go h n st None off = tt
element_made around code back go h n st (Some (es, a_place x ∷ an_expr e ∷ [])) off =
    let k : list_count es ≡ n = omega (arith, off.1) in (
      h x e es ∙ two (expr_code e) (place_code x) (list_code es) (back (list_count es)) _ refl
          ∙ all_there around st ((expr_code e ++ place_code x) ++ list_code es) (back (list_count es)) off.0 ∙ ap (λ m. codes around st ++ back m) k,
      off.2 (tt, (tt, tt)),
    )
element_made around code back go h n st (Some (es, rest)) off = tt

-- an assignment to a late-bound member: its arguments behind the object that was looked at for it, behind a value
late_if_made : (around : Around) (code : Action → List plain.Instr) (back : List plain.Instr) (s other : Sought) (go : Expr → Given → Expr → Action) (given : Given) (base e : Expr)
    → (s.given ≡ which_there given → code (go base given e) ≡ expr_code e ++ (expr_code base ++ (find_code s ++ (given_list s given 0 ++ back)))) → (n : ℕ) (st : List Piece)
    → GivenOff around s n st none_given (Some (given, a_late base other ∷ an_expr e ∷ [])) → (b : Bool) → is_late s other given ≡ b
    → Made around code [] back st (if b then Some (go base given e) else None)
late_if_made around code back s other go given base e h n st off true k =
    let parts = late_parts s other given k in
    let list = given_list s given 0 in
    let parted : expr_code base ++ (find_code s ++ (list ++ back)) ≡ (expr_code base ++ find_code s) ++ (list ++ back) = sym (append_assoc (expr_code base) (find_code s) (list ++ back)) in
    let there : (expr_code e ++ (expr_code base ++ find_code s)) ++ list ≡ codes around st ++ [] = ap (λ x. (expr_code e ++ (expr_code base ++ find_code x)) ++ list) parts.0 ∙ off.0 in
    (h parts.1 ∙ two (expr_code e) (expr_code base ++ find_code s) list back _ parted ∙ all_there around st ((expr_code e ++ (expr_code base ++ find_code s)) ++ list) back there, off.1 (tt, (tt, tt)))
late_if_made around code back s other go given base e h n st off false k = tt

late_made : (around : Around) (code : Action → List plain.Instr) (back : List plain.Instr) (s : Sought) (go : Expr → Given → Expr → Action)
    → ((base e : Expr) (given : Given) → s.given ≡ which_there given → code (go base given e) ≡ expr_code e ++ (expr_code base ++ (find_code s ++ (given_list s given 0 ++ back))))
    → (n : ℕ) (st : List Piece) (found : Option (Given × List Piece)) → GivenOff around s n st none_given found → Made around code [] back st (late_found s go found)
late_made around code back s go h n st None off = tt
late_made around code back s go h n st (Some (given, a_late base other ∷ an_expr e ∷ [])) off = late_if_made around code back s other go given base e (h base e given) n st off (is_late s other given) refl
late_made around code back s go h n st (Some (given, rest)) off = tt

tests_made : (row : Row) (header : ℕ) (of : DeclaredType) (compare : Compare) (first other : ℕ) (code : Action → List plain.Instr) (go : Tests → Action)
    → ((ts : Tests) → code (go ts) ≡ tests_in row header of compare first other ts)
    → (st : List Piece) (found : Option (Tests × List Piece)) → TestsOff row header of compare first other st no_tests found
    → Made (case_around row header of compare first) code [] (plain.Finish (slice_index row other) ∷ []) st (whole found go)
tests_made row header of compare first other code go h st None off = tt
tests_made row header of compare first other code go h st (Some (ts, [])) off = (h ts ∙ off.0, off.1 tt)
tests_made row header of compare first other code go h st (Some (ts, p ∷ rest)) off = tt

resizes_made : (around : Around) (code : Action → List plain.Instr) (back : List plain.Instr) (go : Resizes → Action) → ((rs : Resizes) → code (go rs) ≡ resizes_code around.preserve rs ++ back)
    → (st : List Piece) (found : Option (Resizes × List Piece)) → ResizesOff around st no_resizes found → Made around code [] back st (whole found go)
resizes_made around code back go h st None off = tt
resizes_made around code back go h st (Some (rs, [])) off = (h rs ∙ all_there around st (resizes_code around.preserve rs) back off.0, off.1 tt)
resizes_made around code back go h st (Some (rs, p ∷ rest)) off = tt

arrays_made : (around : Around) (code : Action → List plain.Instr) (back : List plain.Instr) (go : Arrays → Action) → ((xs : Arrays) → code (go xs) ≡ erases_code xs ++ back)
    → (st : List Piece) (found : Option (Arrays × List Piece)) → ArraysOff around st no_arrays found → Made around code [] back st (whole found go)
arrays_made around code back go h st None off = tt
arrays_made around code back go h st (Some (xs, [])) off = (h xs ∙ all_there around st (erases_code xs) back off.0, off.1 tt)
arrays_made around code back go h st (Some (xs, p ∷ rest)) off = tt

-- ---- the actions

abbrev entry : Row → Entry
entry row i = slice_index row i

abbrev front : Tables → ℕ → ActionKind → List plain.Instr
front u i k = map (instr_view u) (before_instrs i k)

abbrev back : Tables → Tables → Added → Row → (p i next : ℕ) → ActionKind → List plain.Instr
back t u added row p i next k = map (instr_view u) (work_instrs added t.orders i next k ++ end_instr t.orders row p next k ∷ [])

abbrev ActionMade : Tables → Tables → Added → Row → (p i next : ℕ) → ActionKind → List Piece → Option Action → Type 0
ActionMade t u added row p i next k st o = Made (around_of row k) (action_code (entry row) p i next) (front u i k) (back t u added row p i next k) st o

action_made : (t u : Tables) (added : Added) → Grown t u added → (row : Row) (p i next : ℕ) (k : ActionKind) (st : List Piece) → ActionMade t u added row p i next k st (action_of t k st)
action_made t u added g row p i next kind.Assign (a_place x ∷ an_expr e ∷ []) = (sym (append_assoc (expr_code e) (place_code x) _), (tt, (tt, tt)))
action_made t u added g row p i next kind.Assign st = tt
action_made t u added g row p i next (kind.AssignItem count) st =
    let k = kind.AssignItem count in
    item_made (around_of row k) (action_code (entry row) p i next) (λ n. plain.StoreItem n ∷ plain.Finish (slice_index row next) ∷ []) (λ base e es. refl)
    count st (exprs_off count st no_exprs) (exprs_are (around_of row k) count st no_exprs)
action_made t u added g row p i next kind.Set (a_place x ∷ an_expr e ∷ []) = (sym (append_assoc (expr_code e) (place_code x) _), (tt, (tt, tt)))
action_made t u added g row p i next kind.Set st = tt
action_made t u added g row p i next kind.AssignDefault (an_expr x ∷ an_expr e ∷ []) = (sym (append_assoc (expr_code e) (expr_code x) _), (tt, (tt, tt)))
action_made t u added g row p i next kind.AssignDefault st = tt
action_made t u added g row p i next (kind.AssignMember m count) st =
    let k = kind.AssignMember m count in
    subst (λ (v : Val). Made (around_of row k) (action_code (entry row) p i next) [] (plain.StoreMember (name_of v) count ∷ plain.Finish (slice_index row next) ∷ []) st (action_of t k st)) (sym (g.constant m))
    (member_made (around_of row k) (action_code (entry row) p i next) (λ n. plain.StoreMember (name_in t m) n ∷ plain.Finish (slice_index row next) ∷ []) (name_in t m) (λ base e es. refl)
    count st (exprs_off count st no_exprs) (exprs_are (around_of row k) count st no_exprs))
action_made t u added g row p i next kind.SetMember (an_expr x ∷ an_expr e ∷ []) = (sym (append_assoc (expr_code e) (expr_code x) _), (tt, (tt, tt)))
action_made t u added g row p i next kind.SetMember st = tt
action_made t u added g row p i next kind.AssignThrough (an_expr x ∷ an_expr e ∷ []) = (sym (append_assoc (expr_code e) (expr_code x) _), (tt, (tt, tt)))
action_made t u added g row p i next kind.AssignThrough st = tt
action_made t u added g row p i next (kind.AssignElement count) st =
    let k = kind.AssignElement count in
    element_made (around_of row k) (action_code (entry row) p i next) (λ n. plain.LetElement n ∷ plain.Drop ∷ plain.Finish (slice_index row next) ∷ []) _ (λ x e es. refl)
    count st (exprs_off count st no_exprs) (exprs_are (around_of row k) count st no_exprs)
action_made t u added g row p i next (kind.SetElement count) st =
    let k = kind.SetElement count in
    element_made (around_of row k) (action_code (entry row) p i next) (λ n. plain.SetElement n ∷ plain.Drop ∷ plain.Finish (slice_index row next) ∷ []) _ (λ x e es. refl)
    count st (exprs_off count st no_exprs) (exprs_are (around_of row k) count st no_exprs)
action_made t u added g row p i next (kind.AssignLate m) st =
    let k = kind.AssignLate m in
    let s = sought_in t Assigning m in
    let last : Sought → List plain.Instr = λ x. plain.LetLate x.name x.by x.given ∷ plain.Drop ∷ plain.Finish (slice_index row next) ∷ [] in
    subst (λ (x : Sought). Made (around_of row k) (action_code (entry row) p i next) [] (last x) st (action_of t k st)) (sym (sought_seen t u added g Assigning m))
    (late_made (around_of row k) (action_code (entry row) p i next) (last s) s _
    (λ base e given same. late_let_code (entry row) p i next base e s.name s.by given s.given same)
    m.arguments st (given_off s m.arguments st none_given) (given_are (around_of row k) s m.arguments st none_given))
action_made t u added g row p i next (kind.SetLate m) st =
    let k = kind.SetLate m in
    let s = sought_in t Setting m in
    let last : Sought → List plain.Instr = λ x. plain.SetLate x.name x.by x.given ∷ plain.Drop ∷ plain.Finish (slice_index row next) ∷ [] in
    subst (λ (x : Sought). Made (around_of row k) (action_code (entry row) p i next) [] (last x) st (action_of t k st)) (sym (sought_seen t u added g Setting m))
    (late_made (around_of row k) (action_code (entry row) p i next) (last s) s _
    (λ base e given same. late_set_code (entry row) p i next base e s.name s.by given s.given same)
    m.arguments st (given_off s m.arguments st none_given) (given_are (around_of row k) s m.arguments st none_given))
action_made t u added g row p i next kind.Evaluate st = value_made (around_of row kind.Evaluate) (action_code (entry row) p i next) [] _ _ (λ e. refl) st
action_made t u added g row p i next (kind.LetProperty q count of) st =
    behind_made (around_of row (kind.LetProperty q count of)) (action_code (entry row) p i next) (λ n. back t u added row p i next (kind.LetProperty q n of)) _ (λ args e. sym (append_assoc (expr_code e) (args_code args) _)) count st (arguments_off count st no_args) (args_are (around_of row (kind.LetProperty q count of)) count st no_args)
action_made t u added g row p i next (kind.LetPropertyInOrder q n order of) st =
    let k = kind.LetPropertyInOrder q n order of in
    let o = order_in t order in
    let after = plain.Lift (length o) ∷ plain.Plain ∷ plain.Fit (declared_view of) ∷ plain.Call q (suc (length o)) ∷ plain.Drop ∷ plain.Finish (slice_index row next) ∷ [] in
    subst (λ (l : List ℕ). Made (around_of row k) (action_code (entry row) p i next) [] (plain.Reorder l n ∷ after) st (action_of t k st)) (sym (g.order order))
    (behind_made (around_of row k) (action_code (entry row) p i next) (λ m. plain.Reorder o m ∷ after) _
    (λ args e. ap (λ c. expr_code e ++ c) (append_assoc (args_code args) (plain.Reorder o (count args) ∷ []) after) ∙ sym (append_assoc (expr_code e) (args_code args) (plain.Reorder o (count args) ∷ after)))
    n st (arguments_off n st no_args) (args_are (around_of row (kind.LetPropertyInOrder q n order of)) n st no_args))
action_made t u added g row p i next (kind.SetProperty q count of) st =
    behind_made (around_of row (kind.SetProperty q count of)) (action_code (entry row) p i next) (λ n. back t u added row p i next (kind.SetProperty q n of)) _ (λ args e. sym (append_assoc (expr_code e) (args_code args) _)) count st (arguments_off count st no_args) (args_are (around_of row (kind.SetProperty q count of)) count st no_args)
action_made t u added g row p i next (kind.SetPropertyInOrder q n order of) st =
    let k = kind.SetPropertyInOrder q n order of in
    let o = order_in t order in
    let after = plain.Lift (length o) ∷ plain.FitObject (declared_view of) ∷ plain.Call q (suc (length o)) ∷ plain.Drop ∷ plain.Finish (slice_index row next) ∷ [] in
    subst (λ (l : List ℕ). Made (around_of row k) (action_code (entry row) p i next) [] (plain.Reorder l n ∷ after) st (action_of t k st)) (sym (g.order order))
    (behind_made (around_of row k) (action_code (entry row) p i next) (λ m. plain.Reorder o m ∷ after) _
    (λ args e. ap (λ c. expr_code e ++ c) (append_assoc (args_code args) (plain.Reorder o (count args) ∷ []) after) ∙ sym (append_assoc (expr_code e) (args_code args) (plain.Reorder o (count args) ∷ after)))
    n st (arguments_off n st no_args) (args_are (around_of row (kind.SetPropertyInOrder q n order of)) n st no_args))
action_made t u added g row p i next (kind.LetMethod q count of) st =
    method_made (around_of row (kind.LetMethod q count of)) (action_code (entry row) p i next) (λ n. back t u added row p i next (kind.LetMethod q n of)) _ (λ base args e. refl) count st (arguments_off count st no_args) (args_are (around_of row (kind.LetMethod q count of)) count st no_args)
action_made t u added g row p i next (kind.LetMethodInOrder q n order of) st =
    let k = kind.LetMethodInOrder q n order of in
    let o = order_in t order in
    let after = plain.Lift (suc (length o)) ∷ plain.Plain ∷ plain.Fit (declared_view of) ∷ plain.CallOf q (suc (length o)) ∷ plain.Drop ∷ plain.Finish (slice_index row next) ∷ [] in
    subst (λ (l : List ℕ). Made (around_of row k) (action_code (entry row) p i next) [] (plain.Reorder l n ∷ after) st (action_of t k st)) (sym (g.order order))
    (method_made (around_of row k) (action_code (entry row) p i next) (λ m. plain.Reorder o m ∷ after) _
    (λ base args e. ap (λ c. expr_code e ++ (expr_code base ++ plain.ObjectThere ∷ c)) (append_assoc (args_code args) (plain.Reorder o (count args) ∷ []) after))
    n st (arguments_off n st no_args) (args_are (around_of row k) n st no_args))
action_made t u added g row p i next (kind.SetMethod q count of) st =
    method_made (around_of row (kind.SetMethod q count of)) (action_code (entry row) p i next) (λ n. back t u added row p i next (kind.SetMethod q n of)) _ (λ base args e. refl) count st (arguments_off count st no_args) (args_are (around_of row (kind.SetMethod q count of)) count st no_args)
action_made t u added g row p i next (kind.SetMethodInOrder q n order of) st =
    let k = kind.SetMethodInOrder q n order of in
    let o = order_in t order in
    let after = plain.Lift (suc (length o)) ∷ plain.FitObject (declared_view of) ∷ plain.CallOf q (suc (length o)) ∷ plain.Drop ∷ plain.Finish (slice_index row next) ∷ [] in
    subst (λ (l : List ℕ). Made (around_of row k) (action_code (entry row) p i next) [] (plain.Reorder l n ∷ after) st (action_of t k st)) (sym (g.order order))
    (method_made (around_of row k) (action_code (entry row) p i next) (λ m. plain.Reorder o m ∷ after) _
    (λ base args e. ap (λ c. expr_code e ++ (expr_code base ++ plain.ObjectThere ∷ c)) (append_assoc (args_code args) (plain.Reorder o (count args) ∷ []) after))
    n st (arguments_off n st no_args) (args_are (around_of row k) n st no_args))
action_made t u added g row p i next (kind.RaiseEvent event count) st =
    args_made (around_of row (kind.RaiseEvent event count)) (action_code (entry row) p i next) (λ n. back t u added row p i next (kind.RaiseEvent event n)) _ (λ args. refl) count st (arguments_off count st no_args) (args_are (around_of row (kind.RaiseEvent event count)) count st no_args)
action_made t u added g row p i next (kind.RaiseEventInOrder event n order) st =
    let k = kind.RaiseEventInOrder event n order in
    let o = order_in t order in
    let after = plain.RaiseEvent event (length o) ∷ plain.Finish (slice_index row next) ∷ [] in
    subst (λ (l : List ℕ). Made (around_of row k) (action_code (entry row) p i next) [] (plain.Reorder l n ∷ after) st (action_of t k st)) (sym (g.order order))
    (args_made (around_of row k) (action_code (entry row) p i next) (λ m. plain.Reorder o m ∷ after) _ (λ args. append_assoc (args_code args) (plain.Reorder o (count args) ∷ []) after) n st (arguments_off n st no_args) (args_are (around_of row k) n st no_args))
action_made t u added g row p i next (kind.Print count ends) st =
    prints_made (around_of row (kind.Print count ends)) (action_code (entry row) p i next) (λ n. back t u added row p i next (kind.Print n ends)) _ (λ ps. refl) count st (prints_off count st no_prints) (prints_are (around_of row (kind.Print count ends)) count st no_prints)
action_made t u added g row p i next (kind.Raise count) st =
    args_made (around_of row (kind.Raise count)) (action_code (entry row) p i next) (λ n. back t u added row p i next (kind.Raise n)) _ (λ args. refl) count st (arguments_off count st no_args) (args_are (around_of row (kind.Raise count)) count st no_args)
action_made t u added g row p i next (kind.RaiseInOrder n order) st =
    let k = kind.RaiseInOrder n order in
    let o = order_in t order in
    let after = plain.Throw (length o) ∷ [] in
    subst (λ (l : List ℕ). Made (around_of row k) (action_code (entry row) p i next) [] (plain.Reorder l n ∷ after) st (action_of t k st)) (sym (g.order order))
    (args_made (around_of row k) (action_code (entry row) p i next) (λ m. plain.Reorder o m ∷ after) _ (λ args. append_assoc (args_code args) (plain.Reorder o (count args) ∷ []) after) n st (arguments_off n st no_args) (args_are (around_of row k) n st no_args))
action_made t u added g row p i next (kind.Test sense to other) st = value_made (around_of row (kind.Test sense to other)) (action_code (entry row) p i next) [] _ _ (λ e. refl) st
action_made t u added g row p i next (kind.GoTo to) st = alone_made (around_of row (kind.GoTo to)) (action_code (entry row) p i next) _ _ refl st
action_made t u added g row p i next (kind.For x compare last step last_at step_at first behind) (an_expr c ∷ an_expr b ∷ an_expr a ∷ []) =
    (ap (λ x. plain.LoopOff i ∷ x) (two (expr_code a) (expr_code b) (expr_code c) _ _ (same_two last step b c (λ d e. plain.LoopOn (variable_view x) i compare d e ∷ plain.Branch true (slice_index row first) (slice_index row behind) ∷ []))), (tt, (tt, (tt, tt))))
action_made t u added g row p i next (kind.For x compare last step last_at step_at first behind) st = tt
action_made t u added g row p i next (kind.Next x header first) st = alone_made (around_of row (kind.Next x header first)) (action_code (entry row) p i next) _ _ refl st
action_made t u added g row p i next (kind.ForEach x first behind) st = value_made (around_of row (kind.ForEach x first behind)) (action_code (entry row) p i next) (plain.EachOff i ∷ []) _ _ (λ e. refl) st
action_made t u added g row p i next (kind.NextEach x header first) st = alone_made (around_of row (kind.NextEach x header first)) (action_code (entry row) p i next) _ _ refl st
action_made t u added g row p i next (kind.ExitEach header to) st = alone_made (around_of row (kind.ExitEach header to)) (action_code (entry row) p i next) _ _ refl st
action_made t u added g row p i next (kind.Select first) st = value_made (around_of row (kind.Select first)) (action_code (entry row) p i next) [] _ _ (λ e. refl) st
action_made t u added g row p i next (kind.Case n header of compare first other) st =
    tests_made row header of compare first other (action_code (entry row) p i next) _ (λ ts. refl) st (tests_off n st no_tests) (tests_are row header of compare first other n st no_tests)
action_made t u added g row p i next (kind.ReDim preserve n) st = resizes_made (around_of row (kind.ReDim preserve n)) (action_code (entry row) p i next) _ _ (λ rs. refl) st (resizes_off n st no_resizes) (resizes_are (around_of row (kind.ReDim preserve n)) n st no_resizes)
action_made t u added g row p i next (kind.Erase n) st = arrays_made (around_of row (kind.Erase n)) (action_code (entry row) p i next) _ _ (λ xs. refl) st (arrays_off n st no_arrays) (arrays_are (around_of row (kind.Erase n)) n st no_arrays)
action_made t u added g row p i next kind.WithPlace st = place_made (around_of row kind.WithPlace) (action_code (entry row) p i next) _ _ (λ x. refl) st
action_made t u added g row p i next kind.WithValue st = value_made (around_of row kind.WithValue) (action_code (entry row) p i next) [] _ _ (λ e. refl) st
action_made t u added g row p i next (kind.EndWith header) st = alone_made (around_of row (kind.EndWith header)) (action_code (entry row) p i next) _ _ refl st
action_made t u added g row p i next (kind.GoSub to) st = alone_made (around_of row (kind.GoSub to)) (action_code (entry row) p i next) _ _ refl st
action_made t u added g row p i next kind.Return st = alone_made (around_of row kind.Return) (action_code (entry row) p i next) _ _ refl st
action_made t u added g row p i next (kind.ExitTo end) st = alone_made (around_of row (kind.ExitTo end)) (action_code (entry row) p i next) _ _ refl st
action_made t u added g row p i next (kind.OnError PassedOn) st = alone_made (around_of row (kind.OnError PassedOn)) (action_code (entry row) p i next) _ _ refl st
action_made t u added g row p i next (kind.OnError Skipped) st = alone_made (around_of row (kind.OnError Skipped)) (action_code (entry row) p i next) _ _ refl st
action_made t u added g row p i next (kind.OnError (HandledAt to)) st = alone_made (around_of row (kind.OnError (HandledAt to))) (action_code (entry row) p i next) _ _ refl st
action_made t u added g row p i next kind.EndHandler st = alone_made (around_of row kind.EndHandler) (action_code (entry row) p i next) _ _ refl st
action_made t u added g row p i next kind.ClearErr st = alone_made (around_of row kind.ClearErr) (action_code (entry row) p i next) _ _ refl st
action_made t u added g row p i next kind.ResumeAgain st = alone_made (around_of row kind.ResumeAgain) (action_code (entry row) p i next) _ _ refl st
action_made t u added g row p i next kind.ResumeNext st = alone_made (around_of row kind.ResumeNext) (action_code (entry row) p i next) _ _ refl st
action_made t u added g row p i next (kind.ResumeAt to) st = alone_made (around_of row (kind.ResumeAt to)) (action_code (entry row) p i next) _ _ refl st
action_made t u added g row p i next kind.Stop st = alone_made (around_of row kind.Stop) (action_code (entry row) p i next) _ _ refl st
action_made t u added g row p i next kind.End st = alone_made (around_of row kind.End) (action_code (entry row) p i next) _ _ refl st

-- ---- statements

-- with what the nodes before it were
action_seen : (t u : Tables) (added : Added) → Grown t u added → (row : Row) (p i next : ℕ) (k : ActionKind) (ns : List Node) (o : Option Action) → action_of t k (pieces t ns) ≡ o → IsSome o
    → map (instr_view u) (action_instrs added t.orders row p i next k ns) ≡ action_code (entry row) p i next (action_or o)
action_seen t u added g row p i next k ns None e h = absurd (false≢true h)
action_seen t u added g row p i next k ns (Some a) e h =
    let m : ActionMade t u added row p i next k (pieces t ns) (Some a) = subst (λ o. ActionMade t u added row p i next k (pieces t ns) o) e (action_made t u added g row p i next k (pieces t ns)) in
    let n = nodes_emit t u added g (around_of row k) ns [] m.1 in
    let mid = nodes_instrs added t.orders (around_of row k) ns in
    let last = work_instrs added t.orders i next k ++ end_instr t.orders row p next k ∷ [] in
    map_append (instr_view u) (before_instrs i k) (mid ++ last) ∙ ap (λ c. front u i k ++ c) (map_append (instr_view u) mid last ∙ ap (λ c. c ++ back t u added row p i next k) (sym n.0)) ∙ sym m.0

pub statement_seen : (t u : Tables) (added : Added) → Grown t u added → (row : Row) (p : ℕ) (ns : List Node) (i : ℕ) (s : StatementNode) → StatementFits t ns s
    → map (instr_view u) (statement_instrs added t.orders row p ns i s) ≡ statement_code (entry row) p i (statement_view t ns s)
statement_seen t u added g row p ns i s h =
    ap (λ c. plain.Begin i ∷ c) (action_seen t u added g row p i s.next s.action (part ns s.first_node s.nodes) (action_of t s.action (pieces t (part ns s.first_node s.nodes))) refl h.1)

pub body_seen : (t u : Tables) (added : Added) → Grown t u added → (row : Row) (p : ℕ) (ns : List Node) (i : ℕ) (ss : List StatementNode) → AllFit t ns ss
    → map (instr_view u) (body_instrs added t.orders row p ns i ss) ≡ body_code (entry row) p i (map (statement_view t ns) ss)
body_seen t u added g row p ns i [] h = refl
body_seen t u added g row p ns i (s ∷ ss) h =
    map_append (instr_view u) (statement_instrs added t.orders row p ns i s) (body_instrs added t.orders row p ns (suc i) ss)
    ∙ ap (λ c. c ++ map (instr_view u) (body_instrs added t.orders row p ns (suc i) ss)) (statement_seen t u added g row p ns i s h.0)
    ∙ ap (λ c. statement_code (entry row) p i (statement_view t ns s) ++ c) (body_seen t u added g row p ns (suc i) ss h.1)

pub bodies_seen : (t u : Tables) (added : Added) → Grown t u added → (table : List (List ℕ)) (p : ℕ) (bs : List Body) → BodiesFit t bs
    → map (instr_view u) (bodies_instrs added t.orders table p bs) ≡ bodies_code table p (map (body_view t) bs)
bodies_seen t u added g table p [] h = refl
bodies_seen t u added g table p (b ∷ bs) h =
    let row = row_in table p in
    map_append (instr_view u) (body_instrs added t.orders row p b.nodes.items 0 b.statements.items) (bodies_instrs added t.orders table (suc p) bs)
    ∙ ap (λ c. c ++ map (instr_view u) (bodies_instrs added t.orders table (suc p) bs)) (body_seen t u added g row p b.nodes.items 0 b.statements.items h.0)
    ∙ ap (λ c. body_code (entry row) p 0 (map (statement_view t b.nodes.items) b.statements.items) ++ c) (bodies_seen t u added g table (suc p) bs h.1)

-- ---- addresses

size_seen : (t u : Tables) (added : Added) → Grown t u added → (ns : List Node) (s : StatementNode) → StatementFits t ns s → statement_size added t.orders ns s ≡ statement_length (statement_view t ns s)
size_seen t u added g ns s h =
    sym (length-map (statement_instrs added t.orders [] 0 ns 0 s) (instr_view u)) ∙ ap length (statement_seen t u added g [] 0 ns 0 s h)

sizes_seen : (t u : Tables) (added : Added) → Grown t u added → (ns : List Node) (ss : List StatementNode) → AllFit t ns ss → body_size added t.orders ns ss ≡ body_length (map (statement_view t ns) ss)
sizes_seen t u added g ns [] h = refl
sizes_seen t u added g ns (s ∷ ss) h = ap (λ m. m + body_size added t.orders ns ss) (size_seen t u added g ns s h.0) ∙ ap (λ m. statement_length (statement_view t ns s) + m) (sizes_seen t u added g ns ss h.1)

row_seen : (t u : Tables) (added : Added) → Grown t u added → (base : ℕ) (ns : List Node) (ss : List StatementNode) → AllFit t ns ss
    → row_of added t.orders base ns ss ≡ addresses base (map (statement_view t ns) ss)
row_seen t u added g base ns [] h = refl
row_seen t u added g base ns (s ∷ ss) h =
    ap (λ r. base ∷ r) (ap (λ m. row_of added t.orders (base + m) ns ss) (size_seen t u added g ns s h.0) ∙ row_seen t u added g (base + statement_length (statement_view t ns s)) ns ss h.1)

pub table_seen : (t u : Tables) (added : Added) → Grown t u added → (base : ℕ) (bs : List Body) → BodiesFit t bs → table_of added t.orders base bs ≡ entries_of base (map (body_view t) bs)
table_seen t u added g base [] h = refl
table_seen t u added g base (b ∷ bs) h =
    ap (λ r. r ∷ table_of added t.orders (base + body_size added t.orders b.nodes.items b.statements.items) bs) (row_seen t u added g base b.nodes.items b.statements.items h.0)
    ∙ ap (λ r. addresses base (map (statement_view t b.nodes.items) b.statements.items) ∷ r)
    (ap (λ m. table_of added t.orders (base + m) bs) (sizes_seen t u added g b.nodes.items b.statements.items h.0) ∙ table_seen t u added g (base + body_length (map (statement_view t b.nodes.items) b.statements.items)) bs h.1)
