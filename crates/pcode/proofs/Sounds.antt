-- The numbers in the code of a whole project name what is there, and so that code is well-formed.
use Rattle.std.proofs.Common.{◌≡◌, ℕ, zero, suc, ◌+◌, ◌-◌, ◌<◌, ◌≤◌, Bool, List, [], ◌∷◌, ◌++◌, length, Some, drop, refl, sym, ap, ◌∙◌, subst, arith, length-append}
use Rattle.std.specs.Prelude.{slice_get, slice_index}
use Rattle.std.proofs.lemmas.List.{length-map}
use Rattle.std.proofs.lemmas.Option.{same_Some}
use Rattle.vba_values.specs.declared.types.Compare.{Compare}
use Rattle.vba_values.specs.Types.{Declared}
use Rattle.bound_project.specs.Expressions.{Expr, expr, Node, not_given, constant, load, load_made, element_value, field_value, unary, binary, call, err_value, default_of, default_if_any, enumerated, same, is_type, library, bound_of, host_object, active_sheet, ByName, host_member, named_member, this, new_object, method, late_member, late_item, Lvalue, variable, item, element, field, kept_place, object_field, as_new, element_along, late_field, value_place, Args, no_args, by_place, by_copy, by_default, by_list, in_order, Given, none_given, place_given, expr_given, Exprs, no_exprs, also, Prints, no_prints, shown, zone, marked}
use Rattle.bound_project.specs.Statements.{Handling, passed_on, skipped, handled_at, Resizes, no_resizes, resize, Arrays, no_arrays, an_array, Tests, no_tests, test_is, test_range, Action, assign, assign_item, set, assign_default, assign_member, set_member, assign_through, assign_element, set_element, assign_late, set_late, evaluate, let_property, set_property, let_method, set_method, raise_event, print, raise, test, go_to, for_to, next, for_each, next_each, exit_each, select, case_of, redim, erase, with_place, with_value, end_with, go_sub, return_sub, exit_to, on_error, end_handler, clear_err, resume_again, resume_next, resume_at, stop, end_run, Statement}
use Rattle.bound_project.specs.Project.{Project, Body, statements_at, statements_or, next_or}
use Rattle.bound_project.specs.Whole.{All, HasProcedure, HasStatement, HasTarget, argument_count, WholeExpr, WholeNode, WholePlace, WholeArgs, WholeGiven, WholeExprs, WholePrints, WholeTests, WholeResizes, WholeArrays, WholeHandling, WholeAction, WholeStatement, WholeBodies, IsWhole}
use Rattle.vba_meaning.specs.Effects.{policy_of}
use Rattle.vba_meaning.specs.LateBound.{Use, reading, assigning, setting, which_given}
use Rattle.pcode.specs.Instructions.{Instr, Begin, list_or}
use Rattle.pcode.specs.Code.{count, expr_code, node_code, place_code, args_code, list_code, prints_code, resizes_code, erases_code, given_code, Entry, tests_code, action_code, statement_code}
use Rattle.pcode.specs.Layout.{addresses, statement_length, body_length, body_code, bodies_code, entries_of, entry_in, code_of, HasStatement as Stands-at}
use Rattle.pcode.specs.WellFormed.{IsStatement, IsTarget, Leads, HasPolicy, Sound, first_address, WellFormed}
use Rattle.pcode.proofs.Lays.{len_body, laid}
use Rattle.pcode.proofs.Ways.{find_operands}

-- as many addresses as statements
addresses_count : (base : ℕ) (ls : List Statement) → length (addresses base ls) ≡ length ls
addresses_count base [] = refl
addresses_count base (l ∷ ls) = ap suc (addresses_count (base + statement_length l) ls)

entries_count : (base : ℕ) (bs : List Body) (p : ℕ) → length (list_or (slice_get (entries_of base bs) p)) ≡ length (statements_or (slice_get bs p))
entries_count base [] p = refl
entries_count base (b ∷ bs) zero = addresses_count base b.statements
entries_count base (b ∷ bs) (suc p) = entries_count (base + body_length b.statements) bs p

tables_count : (base : ℕ) (bs : List Body) → length (entries_of base bs) ≡ length bs
tables_count base [] = refl
tables_count base (b ∷ bs) = ap suc (tables_count (base + body_length b.statements) bs)

same_count : (args : Args) → argument_count args ≡ count args
same_count no_args = refl
same_count (by_place x args) = ap suc (same_count args)
same_count (by_copy e of args) = ap suc (same_count args)
same_count (by_default v args) = ap suc (same_count args)
same_count (by_list es args) = ap suc (same_count args)
same_count (in_order order args) = refl

module _ (pr : Project) (p : ℕ) where
  abbrev Sounds : List Instr → Type 0
  Sounds is = All (Sound (code_of pr) p) is

  both : (a b : List Instr) → Sounds a → Sounds b → Sounds (a ++ b)
  both [] b h k = k
  both (i ∷ a) b h k = (h.0, both a b h.1 k)

  abbrev entry : Entry
  entry = entry_in (entries_of 1 pr.bodies) p

  counted : length (statements_at pr p) ≡ length (list_or (slice_get (entries_of 1 pr.bodies) p))
  counted = sym (entries_count 1 pr.bodies p)

  statement_is : (i : ℕ) → HasStatement pr p i → IsStatement (code_of pr) p i
  statement_is i h = subst (λ n. i < n) counted h

  target_is : (i : ℕ) → HasTarget pr p i → IsTarget (code_of pr) p i
  target_is i h = subst (λ n. i ≤ n) counted h

  leads : (i : ℕ) → HasTarget pr p i → Leads (code_of pr) p (entry i)
  leads i h = (i, target_is i h, refl)

  called : (q : ℕ) (args : Args) → HasProcedure pr.declared q (argument_count args) → HasProcedure pr.declared q (count args)
  called q args h = subst (λ n. HasProcedure pr.declared q n) (same_count args) h

  called_with_value : (q : ℕ) (args : Args) → HasProcedure pr.declared q (suc (argument_count args)) → HasProcedure pr.declared q (suc (count args))
  called_with_value q args h = subst (λ n. HasProcedure pr.declared q (suc n)) (same_count args) h

  mutual
    expr_sound : (e : Expr) → WholeExpr pr p e → Sounds (expr_code e)
    expr_sound (expr node place of operand) h = node_sound node h

    node_sound : (e : Node) → WholeNode pr p e → Sounds (node_code e)
    node_sound not_given h = (tt, tt)
    node_sound (constant v) h = (h, tt)
    node_sound (load x) h = both (place_code x) _ (place_sound x h) (tt, tt)
    node_sound (load_made x) h = both (place_code x) _ (place_sound x h) (tt, (tt, (tt, (tt, tt))))
    node_sound (element_value e es) h = both (expr_code e) _ (expr_sound e h.0) (both (list_code es) _ (list_sound es h.1) (tt, tt))
    node_sound (field_value e i) h = both (expr_code e) _ (expr_sound e h) (tt, tt)
    node_sound (unary o a) h = both (expr_code a) _ (expr_sound a h) (tt, tt)
    node_sound (binary o compare a b) h = both (expr_code a) _ (expr_sound a h.0) (both (expr_code b) _ (expr_sound b h.1) (tt, tt))
    node_sound (call q args) h = both (args_code args) _ (args_sound args h.0) (called q args h.1, tt)
    node_sound (err_value member) h = (tt, tt)
    node_sound (default_of e) h = both (expr_code e) _ (expr_sound e h) (tt, tt)
    node_sound (default_if_any e) h = both (expr_code e) _ (expr_sound e h) (tt, tt)
    node_sound (enumerated e) h = both (expr_code e) _ (expr_sound e h) (tt, tt)
    node_sound active_sheet h = (tt, tt)
    node_sound (named_member e name by es) h = both (expr_code e) _ (expr_sound e h.0) (tt, both (list_code es) _ (list_sound es h.1) (tt, tt))
    node_sound (host_member e name es) h = both (expr_code e) _ (expr_sound e h.0) (tt, both (list_code es) _ (list_sound es h.1) (tt, tt))
    node_sound this h = (tt, tt)
    node_sound (new_object c) h = (tt, (tt, tt))
    node_sound (method e q args) h = both (expr_code e) _ (expr_sound e h.0) (tt, both (args_code args) _ (args_sound args h.1.0) (called q args h.1.1, tt))
    node_sound (late_member e name by given) h = both (expr_code e) _ (expr_sound e h.0) (tt, both (given_code given reading name by (which_given given) 0) _ (given_sound given reading name by (which_given given) 0 h.1) (tt, tt))
    node_sound (late_item e es) h = both (expr_code e) _ (expr_sound e h.0) (both (list_code es) _ (list_sound es h.1) (tt, tt))
    node_sound (same a b) h = both (expr_code a) _ (expr_sound a h.0) (both (expr_code b) _ (expr_sound b h.1) (tt, tt))
    node_sound (is_type e of) h = both (expr_code e) _ (expr_sound e h.0) (h.1, tt)
    node_sound (marked broken es) h = both (list_code es) _ (list_sound es h) (tt, tt)
    node_sound (library f text_form es compare base) h = both (list_code es) _ (list_sound es h) (tt, tt)
    node_sound (bound_of upper x z) h = both (place_code x) _ (place_sound x h) (tt, tt)
    node_sound (host_object reference) h = (tt, tt)

    place_sound : (x : Lvalue) → WholePlace pr p x → Sounds (place_code x)
    place_sound (variable x) h = (h, tt)
    place_sound (item x es) h = both (list_code es) _ (list_sound es h.0) (h.1, (tt, tt))
    place_sound (element x es) h = both (place_code x) _ (place_sound x h.0) (both (list_code es) _ (list_sound es h.1) (tt, tt))
    place_sound (field x i of bounded) h = both (place_code x) _ (place_sound x h.0) (h.1, tt)
    place_sound (kept_place i) h = (statement_is i h, tt)
    place_sound (object_field e i of bounded) h = both (expr_code e) _ (expr_sound e h.0) (h.1, tt)
    place_sound (as_new c x) h = both (place_code x) _ (place_sound x h) (tt, tt)
    place_sound (late_field e name) h = both (expr_code e) _ (expr_sound e h) (tt, tt)
    place_sound (value_place e) h = both (expr_code e) _ (expr_sound e h) (tt, tt)
    place_sound (element_along x es) h = both (place_code x) _ (place_sound x h.0) (both (list_code es) _ (list_sound es h.1) (tt, tt))

    args_sound : (args : Args) → WholeArgs pr p args → Sounds (args_code args)
    args_sound no_args h = tt
    args_sound (by_place x args) h = both (place_code x) _ (place_sound x h.0) (tt, args_sound args h.1)
    args_sound (by_copy e of args) h = both (expr_code e) _ (expr_sound e h.0) (h.1.0, args_sound args h.1.1)
    args_sound (by_default v args) h = (h.0, args_sound args h.1)
    args_sound (by_list es args) h = both (list_code es) _ (list_sound es h.0) (tt, args_sound args h.1)
    args_sound (in_order order args) h = both (args_code args) _ (args_sound args h.0) (subst (λ n. All (λ i. i < n) order) (same_count args) h.1, tt)

    given_sound : (given : Given) (aim : Use) (name : List ℕ) (by : ByName) (gs : List Bool) (i : ℕ) → WholeGiven pr p given → Sounds (given_code given aim name by gs i)
    given_sound none_given aim name by gs i h = tt
    given_sound (place_given x given) aim name by gs i h = both (place_code x) _ (place_sound x h.0) (tt, given_sound given aim name by gs (suc i) h.1)
    given_sound (expr_given e given) aim name by gs i h = both (expr_code e) _ (expr_sound e h.0) (tt, given_sound given aim name by gs (suc i) h.1)

    list_sound : (es : Exprs) → WholeExprs pr p es → Sounds (list_code es)
    list_sound no_exprs h = tt
    list_sound (also e es) h = both (expr_code e) _ (expr_sound e h.0) (list_sound es h.1)

  prints_sound : (ps : Prints) → WholePrints pr p ps → Sounds (prints_code ps)
  prints_sound no_prints h = tt
  prints_sound (shown e ps) h = both (expr_code e) _ (expr_sound e h.0) (tt, prints_sound ps h.1)
  prints_sound (zone ps) h = (tt, prints_sound ps h)

  tests_sound : (ts : Tests) (header : ℕ) (of : Declared) (compare : Compare) (most none : ℕ) → WholeTests pr p ts → HasStatement pr p header → HasTarget pr p most → HasTarget pr p none
      → Sounds (tests_code entry ts header of compare most none)
  tests_sound no_tests header of compare most none h a b c = (leads none c, tt)
  tests_sound (test_is o at e ts) header of compare most none h a b c =
      (statement_is header a, (tt, both (expr_code e) _ (expr_sound e h.0) (leads most b, tests_sound ts header of compare most none h.1 a b c)))
  tests_sound (test_range x y x_at y_at ts) header of compare most none h a b c =
      (statement_is header a, (tt, both (expr_code x) _ (expr_sound x h.0) (both (expr_code y) _ (expr_sound y h.1.0) (leads most b, tests_sound ts header of compare most none h.1.1 a b c))))

  resizes_sound : (preserve : Bool) (rs : Resizes) → WholeResizes pr p rs → Sounds (resizes_code preserve rs)
  resizes_sound preserve no_resizes h = tt
  resizes_sound preserve (resize x bounds of rs) h =
      both (place_code x) _ (place_sound x h.0) (both (list_code bounds) _ (list_sound bounds h.1.0) (h.1.1.0, resizes_sound preserve rs h.1.1.1))

  erases_sound : (xs : Arrays) → WholeArrays pr p xs → Sounds (erases_code xs)
  erases_sound no_arrays h = tt
  erases_sound (an_array x xs) h = both (place_code x) _ (place_sound x h.0) (tt, erases_sound xs h.1)

  handling_sound : (h : Handling) → WholeHandling pr p h → HasPolicy (code_of pr) p (policy_of h)
  handling_sound passed_on h = tt
  handling_sound skipped h = tt
  handling_sound (handled_at i) h = target_is i h

  action_sound : (a : Action) (i k : ℕ) → IsStatement (code_of pr) p i → HasTarget pr p k → WholeAction pr p a → Sounds (action_code entry p i k a)
  action_sound (assign x e) i k own on h = both (expr_code e) _ (expr_sound e h.0) (both (place_code x) _ (place_sound x h.1) (tt, (leads k on, tt)))
  action_sound (assign_item base es e) i k own on h =
      both (expr_code e) _ (expr_sound e h.0) (both (expr_code base) _ (expr_sound base h.1.0) (both (list_code es) _ (list_sound es h.1.1) (tt, (leads k on, tt))))
  action_sound (set x e) i k own on h = both (expr_code e) _ (expr_sound e h.0) (both (place_code x) _ (place_sound x h.1) (tt, (leads k on, tt)))
  action_sound (assign_default x e) i k own on h = both (expr_code e) _ (expr_sound e h.0) (both (expr_code x) _ (expr_sound x h.1) (tt, (leads k on, tt)))
  action_sound (assign_member base name es e) i k own on h =
      both (expr_code e) _ (expr_sound e h.0) (both (expr_code base) _ (expr_sound base h.1.0) (tt, both (list_code es) _ (list_sound es h.1.1) (tt, (leads k on, tt))))
  action_sound (set_member base e) i k own on h = both (expr_code e) _ (expr_sound e h.0) (both (expr_code base) _ (expr_sound base h.1) (tt, (leads k on, tt)))
  action_sound (assign_through x e) i k own on h = both (expr_code e) _ (expr_sound e h.0) (both (expr_code x) _ (expr_sound x h.1) (tt, (tt, (leads k on, tt))))
  action_sound (assign_element x es e) i k own on h =
      both (expr_code e) _ (expr_sound e h.0) (both (place_code x) _ (place_sound x h.1.0) (both (list_code es) _ (list_sound es h.1.1) (tt, (tt, (leads k on, tt)))))
  action_sound (set_element x es e) i k own on h =
      both (expr_code e) _ (expr_sound e h.0) (both (place_code x) _ (place_sound x h.1.0) (both (list_code es) _ (list_sound es h.1.1) (tt, (tt, (leads k on, tt)))))
  action_sound (assign_late base name by given e) i k own on h =
      both (expr_code e) _ (expr_sound e h.0) (both (expr_code base) _ (expr_sound base h.1.0) (
        tt,
        both (given_code given assigning name by (which_given given) 0) _ (given_sound given assigning name by (which_given given) 0 h.1.1) (tt, (tt, (leads k on, tt))),
      ))
  action_sound (set_late base name by given e) i k own on h =
      both (expr_code e) _ (expr_sound e h.0) (both (expr_code base) _ (expr_sound base h.1.0) (
        tt,
        both (given_code given setting name by (which_given given) 0) _ (given_sound given setting name by (which_given given) 0 h.1.1) (tt, (tt, (leads k on, tt))),
      ))
  action_sound (evaluate e) i k own on h = both (expr_code e) _ (expr_sound e h) (tt, (leads k on, tt))
  action_sound (let_property q args e of) i k own on h =
      both (expr_code e) _ (expr_sound e h.0) (both (args_code args) _ (args_sound args h.1.0) (tt, (tt, (h.1.1.0, (called_with_value q args h.1.1.1, (tt, (leads k on, tt)))))))
  action_sound (set_property q args e of) i k own on h =
      both (expr_code e) _ (expr_sound e h.0) (both (args_code args) _ (args_sound args h.1.0) (tt, (h.1.1.0, (called_with_value q args h.1.1.1, (tt, (leads k on, tt))))))
  action_sound (let_method base q args e of) i k own on h =
      both (expr_code e) _ (expr_sound e h.0) (both (expr_code base) _ (expr_sound base h.1.0) (
        tt,
        both (args_code args) _ (args_sound args h.1.1.0)
            (tt, (tt, (h.1.1.1.0, (called_with_value q args h.1.1.1.1, (tt, (leads k on, tt)))))),
      ))
  action_sound (set_method base q args e of) i k own on h =
      both (expr_code e) _ (expr_sound e h.0) (both (expr_code base) _ (expr_sound base h.1.0) (
        tt,
        both (args_code args) _ (args_sound args h.1.1.0)
            (tt, (h.1.1.1.0, (called_with_value q args h.1.1.1.1, (tt, (leads k on, tt))))),
      ))
  action_sound (raise_event e args) i k own on h = both (args_code args) _ (args_sound args h) (tt, (leads k on, tt))
  action_sound (print ps ends) i k own on h = both (prints_code ps) _ (prints_sound ps h) (tt, (leads k on, tt))
  action_sound (raise args) i k own on h = both (args_code args) _ (args_sound args h) (tt, tt)
  action_sound (test sense e to other) i k own on h = both (expr_code e) _ (expr_sound e h.0) ((leads to h.1.0, leads other h.1.1), tt)
  action_sound (go_to to) i k own on h = (leads to h, tt)
  action_sound (for_to x compare a b c last_at step_at most none) i k own on h = (
    own,
    both (expr_code a) _ (expr_sound a h.0) (both (expr_code b) _ (expr_sound b h.1.0) (both (expr_code c) _ (expr_sound c h.1.1.0)
        ((h.1.1.1.0, own), ((leads most h.1.1.1.1.0, leads none h.1.1.1.1.1), tt)))),
  )
  action_sound (next x header most) i k own on h = ((h.0, statement_is header h.1.0), ((leads most h.1.1, leads k on), tt))
  action_sound (for_each x e most none) i k own on h =
      (own, both (expr_code e) _ (expr_sound e h.0) (own, ((h.1.0, own), ((leads most h.1.1.0, leads none h.1.1.1), tt))))
  action_sound (next_each x header most) i k own on h = ((h.0, statement_is header h.1.0), ((leads most h.1.1, leads k on), tt))
  action_sound (exit_each header to) i k own on h = (statement_is header h.0, (leads to h.1, tt))
  action_sound (select e most) i k own on h = both (expr_code e) _ (expr_sound e h.0) (own, (leads most h.1, tt))
  action_sound (case_of ts header of compare most none) i k own on h = tests_sound ts header of compare most none h.0 h.1.0 h.1.1.0 h.1.1.1
  action_sound (redim preserve rs) i k own on h = both (resizes_code preserve rs) _ (resizes_sound preserve rs h) (leads k on, tt)
  action_sound (erase xs) i k own on h = both (erases_code xs) _ (erases_sound xs h) (leads k on, tt)
  action_sound (with_place x) i k own on h = both (place_code x) _ (place_sound x h) (own, (leads k on, tt))
  action_sound (with_value e) i k own on h = both (expr_code e) _ (expr_sound e h) (own, (leads k on, tt))
  action_sound (end_with header) i k own on h = (statement_is header h, (leads k on, tt))
  action_sound (go_sub to) i k own on h = (target_is k on, (leads to h, tt))
  action_sound return_sub i k own on h = (refl, tt)
  action_sound (exit_to to) i k own on h = (tt, (leads to h, tt))
  action_sound (on_error a) i k own on h = (handling_sound a h, (leads k on, tt))
  action_sound end_handler i k own on h = (tt, (leads k on, tt))
  action_sound clear_err i k own on h = (tt, (leads k on, tt))
  action_sound resume_again i k own on h = (refl, tt)
  action_sound resume_next i k own on h = (refl, tt)
  action_sound (resume_at to) i k own on h = ((refl, target_is to h), tt)
  action_sound stop i k own on h = (tt, (leads k on, tt))
  action_sound end_run i k own on h = (tt, tt)

  body_sound : (ls : List Statement) (i : ℕ) → i + length ls ≡ length (statements_at pr p) → All (WholeStatement pr p) ls → Sounds (body_code entry p i ls)
  body_sound [] i e h = tt
  body_sound (l ∷ ls) i e h =
      let own : IsStatement (code_of pr) p i = statement_is i (omega (arith, e)) in
      both (statement_code entry p i l) _ (own, action_sound l.action i l.next own h.0.1 h.0.0) (body_sound ls (suc i) (omega (arith, e)) h.1)

  next_fits : (ls : List Statement) (i d : ℕ) → All (WholeStatement pr p) ls → HasTarget pr p d → HasTarget pr p (next_or (slice_get ls i) d)
  next_fits [] i d h on = on
  next_fits (l ∷ ls) zero d h on = h.0.1
  next_fits (l ∷ ls) (suc i) d h on = next_fits ls i d h.1 on

-- the numbers of each body's instructions are sound
abbrev SoundBodies : Project → (procedure : ℕ) → List Body → Type 0
SoundBodies pr p [] = Unit {0}
SoundBodies pr p (b ∷ bs) = All (Sound (code_of pr) p) (body_code (entry_in (entries_of 1 pr.bodies) p) p 0 b.statements) × SoundBodies pr (suc p) bs

bodies_sound : (pr : Project) (p : ℕ) (bs : List Body) → ((q : ℕ) → slice_get pr.bodies (p + q) ≡ slice_get bs q) → WholeBodies pr p bs → SoundBodies pr p bs
bodies_sound pr p [] found h = tt
bodies_sound pr p (b ∷ bs) found h =
    let z : p + 0 ≡ p = omega arith in
    let e : slice_get pr.bodies p ≡ Some b = ap (slice_get pr.bodies) (sym z) ∙ found 0 in
    let len : length b.statements ≡ length (statements_at pr p) = ap (λ o. length (statements_or o)) (sym e) in (
      body_sound pr p b.statements 0 (omega (arith, len)) h.0,
      bodies_sound pr (suc p) bs (λ q. (let s : suc p + q ≡ p + suc q = omega arith in ap (slice_get pr.bodies) s ∙ found (suc q))) h.1,
    )

bodies_at : (pr : Project) (q : ℕ) (bs : List Body) (p : ℕ) → WholeBodies pr q bs → All (WholeStatement pr (q + p)) (statements_or (slice_get bs p))
bodies_at pr q [] p h = tt
bodies_at pr q (b ∷ bs) zero h = let z : q ≡ q + 0 = omega arith in subst (λ n. All (WholeStatement pr n) b.statements) z h.0
bodies_at pr q (b ∷ bs) (suc p) h = let e : suc q + p ≡ q + suc p = omega arith in subst (λ n. All (WholeStatement pr n) (statements_or (slice_get bs p))) e (bodies_at pr (suc q) bs p h.1)

-- ---- which addresses are of a procedure

-- how many instructions bodies have
abbrev bodies_length : List Body → ℕ
bodies_length [] = 0
bodies_length (b ∷ bs) = body_length b.statements + bodies_length bs

len_bodies : (t : List (List ℕ)) (p : ℕ) (bs : List Body) → length (bodies_code t p bs) ≡ bodies_length bs
len_bodies t p [] = refl
len_bodies t p (b ∷ bs) =
    length-append (body_code (entry_in t p) p 0 b.statements) (bodies_code t (suc p) bs) ∙ omega (arith, len_body (entry_in t p) p 0 b.statements, len_bodies t (suc p) bs)

-- an address is of a procedure, by the addresses of statements and the end of the code
abbrev IsOfBody : (entries : List (List ℕ)) → (end p pc : ℕ) → Type 0
IsOfBody t end p pc = (0 < length (list_or (slice_get t p))) × (slice_index (list_or (slice_get t p)) 0 ≤ pc) × (pc < first_address (drop (suc p) t) end)

-- bodies begin at their first address
first_of : (ls : List Statement) (base end : ℕ) (t : ℕ → List (List ℕ)) → ((n : ℕ) → n ≡ base + body_length ls → first_address (t n) end ≡ n)
    → first_address (addresses base ls ∷ t (base + body_length ls)) end ≡ base
first_of [] base end t further = let e : base + body_length [] ≡ base = omega arith in further (base + body_length []) refl ∙ e
first_of (l ∷ ls) base end t further = refl

first_is : (bs : List Body) (base end : ℕ) → end ≡ base + bodies_length bs → first_address (entries_of base bs) end ≡ base
first_is [] base end e = omega (arith, e)
first_is (b ∷ bs) base end e = first_of b.statements base end (λ n. entries_of n bs) (λ n h. first_is bs n end (omega (arith, e, h)))

-- the addresses of a body's statements
address_low : (ls : List Statement) (base i : ℕ) → i < length (addresses base ls) → base ≤ slice_index (addresses base ls) i
address_low [] base i h = absurd (omega arith)
address_low (l ∷ ls) base zero h = omega arith
address_low (l ∷ ls) base (suc i) h = omega (arith, address_low ls (base + statement_length l) i (omega arith))

address_high : (ls : List Statement) (base i : ℕ) → i < length (addresses base ls) → slice_index (addresses base ls) i < base + body_length ls
address_high [] base i h = absurd (omega arith)
address_high (l ∷ ls) base zero h = omega arith
address_high (l ∷ ls) base (suc i) h = omega (arith, address_high ls (base + statement_length l) i (omega arith))

first_low : (ls : List Statement) (base i : ℕ) → i < length (addresses base ls) → slice_index (addresses base ls) 0 ≤ slice_index (addresses base ls) i
first_low [] base i h = absurd (omega arith)
first_low (l ∷ ls) base i h = address_low (l ∷ ls) base i h

table_low : (bs : List Body) (base p : ℕ) → 0 < length (list_or (slice_get (entries_of base bs) p)) → base ≤ slice_index (list_or (slice_get (entries_of base bs) p)) 0
table_low [] base p h = absurd (omega arith)
table_low (b ∷ bs) base zero h = address_low b.statements base 0 h
table_low (b ∷ bs) base (suc p) h = omega (arith, table_low bs (base + body_length b.statements) p h)

statement_in : (bs : List Body) (base end p i : ℕ) → end ≡ base + bodies_length bs → i < length (list_or (slice_get (entries_of base bs) p))
    → IsOfBody (entries_of base bs) end p (slice_index (list_or (slice_get (entries_of base bs) p)) i)
statement_in [] base end p i e h = absurd (omega arith)
statement_in (b ∷ bs) base end zero i e h = (
  omega arith,
  first_low b.statements base i h,
  omega (arith, address_high b.statements base i h, first_is bs (base + body_length b.statements) end (omega (arith, e))),
)
statement_in (b ∷ bs) base end (suc p) i e h = statement_in bs (base + body_length b.statements) end p i (omega (arith, e)) h

-- what stands in two lists in a row
in_front : (a b : List Instr) (k : ℕ) → k < length a → slice_get (a ++ b) k ≡ slice_get a k
in_front [] b k h = absurd (omega arith)
in_front (i ∷ a) b zero h = refl
in_front (i ∷ a) b (suc k) h = in_front a b k (omega arith)

in_back : (a b : List Instr) (k m : ℕ) → m ≡ length a + k → slice_get (a ++ b) m ≡ slice_get b k
in_back [] b k m e = let z : m ≡ k = omega (arith, e) in ap (slice_get b) z
in_back (i ∷ a) b k zero e = absurd (omega (arith, e))
in_back (i ∷ a) b k (suc m) e = in_back a b k m (omega (arith, e))

all_at : (P : Instr → Type 0) (is : List Instr) (k : ℕ) (i : Instr) → All P is → slice_get is k ≡ Some i → P i
all_at P [] k i h e = absurd cc
all_at P (j ∷ is) zero i h e = subst P (same_Some j i e) h.0
all_at P (j ∷ is) (suc k) i h e = all_at P is k i h.1 e

-- the numbers of the instructions at a procedure's addresses are sound
instr_sound : (pr : Project) (q : ℕ) (bs : List Body) (base end p k : ℕ) (i : Instr) → end ≡ base + bodies_length bs → SoundBodies pr q bs → IsOfBody (entries_of base bs) end p (base + k)
    → slice_get (bodies_code (entries_of 1 pr.bodies) q bs) k ≡ Some i → Sound (code_of pr) (q + p) i
instr_sound pr q [] base end p k i e sound of at = absurd cc
instr_sound pr q (b ∷ bs) base end zero k i e sound of at =
    let is = body_code (entry_in (entries_of 1 pr.bodies) q) q 0 b.statements in
    let len : length is ≡ body_length b.statements = len_body (entry_in (entries_of 1 pr.bodies) q) q 0 b.statements in
    let low : k < length is = omega (arith, of.2, len, first_is bs (base + body_length b.statements) end (omega (arith, e))) in
    let z : q ≡ q + 0 = omega arith in
    subst (λ n. Sound (code_of pr) n i) z (all_at (Sound (code_of pr) q) is k i sound.0 (sym (in_front is _ k low) ∙ at))
instr_sound pr q (b ∷ bs) base end (suc p) k i e sound of at =
    let is = body_code (entry_in (entries_of 1 pr.bodies) q) q 0 b.statements in
    let size = body_length b.statements in
    let len : length is ≡ size = len_body (entry_in (entries_of 1 pr.bodies) q) q 0 b.statements in
    let high : size ≤ k = omega (arith, of.1, table_low bs (base + size) p of.0) in
    let same : base + k ≡ base + size + (k - size) = omega arith in
    let behind : k ≡ length is + (k - size) = omega (arith, len) in
    let s : suc q + p ≡ q + suc p = omega arith in
    subst (λ n. Sound (code_of pr) n i) s
    (instr_sound pr (suc q) bs (base + size) end p (k - size) i (omega (arith, e)) sound.1 (subst (λ n. IsOfBody (entries_of (base + size) bs) end p n) same of) (sym (in_back is _ (k - size) k behind) ∙ at))

-- a statement begins at its address
entry_begins : (is : List Instr) (table : Entry) (p i k : ℕ) (ls : List Statement) → k < length ls → Stands-at is table p i (slice_get ls k) → slice_get is (table i) ≡ Some (Begin i)
entry_begins is table p i k [] h stands = absurd (omega arith)
entry_begins is table p i zero (l ∷ ls) h stands = stands.0
entry_begins is table p i (suc k) (l ∷ ls) h stands = entry_begins is table p i k ls (omega arith) stands

at_sound : (pr : Project) (p pc : ℕ) (i : Instr) → SoundBodies pr 0 pr.bodies → IsOfBody (entries_of 1 pr.bodies) (length (code_of pr).instrs) p pc → slice_get (code_of pr).instrs pc ≡ Some i → Sound (code_of pr) p i
at_sound pr p zero i sound of at = absurd (omega (arith, of.1, table_low pr.bodies 1 p of.0))
at_sound pr p (suc k) i sound of at =
    let z : 0 + p ≡ p = omega arith in
    let s : suc k ≡ 1 + k = omega arith in
    let e : length (code_of pr).instrs ≡ 1 + bodies_length pr.bodies = omega (arith, len_bodies (entries_of 1 pr.bodies) 0 pr.bodies) in
    subst (λ n. Sound (code_of pr) n i) z
    (instr_sound pr 0 pr.bodies 1 (length (code_of pr).instrs) p k i e sound (subst (λ n. IsOfBody (entries_of 1 pr.bodies) (length (code_of pr).instrs) p n) s of) at)

-- the code of a whole project is well-formed
pub well_formed : (pr : Project) → IsWhole pr → WellFormed (code_of pr)
well_formed pr whole =
    let t = entries_of 1 pr.bodies in
    let code = code_of pr in
    let lays = laid pr in
    let end : length code.instrs ≡ 1 + bodies_length pr.bodies = omega (arith, len_bodies t 0 pr.bodies) in
    let all_whole = λ (p : ℕ). (let z : 0 + p ≡ p = omega arith in subst (λ n. All (WholeStatement pr n) (statements_at pr p)) z (bodies_at pr 0 pr.bodies p whole.statements)) in
    let own = λ (p i : ℕ) (h : IsStatement code p i). (let k : i < length (statements_at pr p) = subst (λ n. i < n) (sym (counted pr p)) h in k) in
    let tables = tables_count 1 pr.bodies ∙ whole.bodies in
    record {
      leave = refl;
      first = first_is pr.bodies 1 (length code.instrs) end;
      operands = find_operands pr;
      sound = λ p pc i of at. at_sound pr p pc i (bodies_sound pr 0 pr.bodies (λ q. (let z : 0 + q ≡ q = omega arith in ap (slice_get pr.bodies) z)) whole.statements) of at;
      entries = λ p i h. (entry_begins code.instrs (entry_in t p) p i i (statements_at pr p) (own p i h) (lays.statement p i), statement_in pr.bodies 1 (length code.instrs) p i end h);
      starts = λ p. lays.start p;
      nexts = λ p i h. subst (λ n. IsTarget code p n) (sym (lays.next p i))
          (target_is pr p _ (next_fits pr p (statements_at pr p) i i (all_whole p) (let k : i < length (statements_at pr p) = own p i h in omega (arith, k))));
      counted = (length-map t (λ es. slice_index es 0) ∙ tables, tables);
      ends = whole.ends;
      begin = whole.begin;
    }
