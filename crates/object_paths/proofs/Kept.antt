-- The code of a project keeps only places that stay as long as their frame, where its With blocks keep none of another
-- object.
use Rattle.std.proofs.Common.{◌≡◌, ℕ, zero, suc, Bool, true, false, List, [], ◌∷◌, ◌++◌, length, Option, Some, None, refl, ap, ◌∙◌, subst, append_assoc}
use Rattle.std.specs.Prelude.{◌&&◌, not, slice_get}
use Rattle.vba_values.specs.declared.types.Compare.{Compare}
use Rattle.vba_values.specs.Types.{Declared}
use Rattle.bound_project.specs.Expressions.{Expr, expr, Node, not_given, constant, load, load_made, element_value, field_value, unary, binary, call, err_value, default_of, default_if_any, enumerated, same, is_type, library, bound_of, host_object, active_sheet, ByName, host_member, named_member, this, new_object, method, late_member, late_item, Lvalue, variable, item, element, field, kept_place, object_field, as_new, element_along, late_field, value_place, Args, no_args, by_place, by_copy, by_default, by_list, in_order, Given, none_given, place_given, expr_given, Exprs, no_exprs, also, Prints, no_prints, shown, zone, marked}
use Rattle.bound_project.specs.Statements.{Resizes, no_resizes, resize, Arrays, no_arrays, an_array, Tests, no_tests, test_is, test_range, Action, assign, assign_item, set, assign_default, assign_member, set_member, assign_through, assign_element, set_element, assign_late, set_late, evaluate, let_property, set_property, let_method, set_method, raise_event, print, raise, test, go_to, for_to, next, for_each, next_each, exit_each, select, case_of, redim, erase, with_place, with_value, end_with, go_sub, return_sub, exit_to, on_error, end_handler, clear_err, resume_again, resume_next, resume_at, stop, end_run, Statement}
use Rattle.bound_project.specs.Project.{Project, Body}
use Rattle.bound_project.specs.Whole.{All}
use Rattle.vba_meaning.specs.Memory.{path, rest}
use Rattle.vba_meaning.specs.LateBound.{Use, reading, assigning, setting, which_given}
use Rattle.pcode.specs.Instructions.{Instr, KeepPath, ShowText}
use Rattle.pcode.specs.Code.{count, list_count, expr_code, node_code, place_code, args_code, list_code, prints_code, resizes_code, erases_code, given_code, Entry, tests_code, action_code, statement_code}
use Rattle.pcode.specs.Layout.{body_code, bodies_code, entries_of, entry_in, code_of}
use Rattle.object_lives.proofs.Firmness.{flag, rests, pads, passed, firm_at}
use Rattle.object_lives.proofs.Held.{FirmBy}
use Rattle.object_lives.proofs.Near.{block_reach}
use Rattle.object_lives.proofs.Lived.{KeepsFirm}
use Rattle.object_paths.specs.Blocks.{is_of_object, KeepsOwn, BlocksKeepOwn}

-- ---- what is kept along a code

abbrev keeps_it : Instr → List Bool → Bool
keeps_it (KeepPath i) fl = flag fl
keeps_it i fl = true

abbrev kept_all : List Instr → List Bool → Bool
kept_all [] fl = true
kept_all (i ∷ is) fl = keeps_it i fl && kept_all is (passed i fl)

-- so many operands on top and off again
rests_rest : (n : ℕ) (fl : List Bool) → rests n (rest fl) ≡ rest (rests n fl)
rests_rest zero fl = refl
rests_rest (suc n) fl = rests_rest n (rest fl)

rests_pads : (n : ℕ) (fl : List Bool) → rests n (pads n fl) ≡ fl
rests_pads zero fl = refl
rests_pads (suc n) fl = rests_rest n (pads n (false ∷ fl)) ∙ ap (λ gl. rest gl) (rests_pads n (false ∷ fl))

-- instructions lead from operands to operands, and to the end of a statement
record Gives (is : List Instr) (fl gl : List Bool) : Type 0 where
  by : (more : List Instr) → kept_all (is ++ more) fl ≡ kept_all more gl

record Closes (is : List Instr) (fl : List Bool) : Type 0 where
  by : (more : List Instr) → kept_all (is ++ more) fl ≡ kept_all more []

then_gives : (a b : List Instr) {fl gl hl : List Bool} → Gives a fl gl → Gives b gl hl → Gives (a ++ b) fl hl
then_gives a b {fl} {gl} {hl} g h = record { by = λ more. ap (λ l. kept_all l fl) (append_assoc a b more) ∙ g.by (b ++ more) ∙ h.by more }

then_closes : (a b : List Instr) {fl gl : List Bool} → Gives a fl gl → Closes b gl → Closes (a ++ b) fl
then_closes a b {fl} {gl} g h = record { by = λ more. ap (λ l. kept_all l fl) (append_assoc a b more) ∙ g.by (b ++ more) ∙ h.by more }

-- the first instruction takes counted operands
settles : (n : ℕ) (fl : List Bool) (f : List Bool → List Bool) (more : List Instr) → kept_all more (f (rests n (pads n fl))) ≡ kept_all more (f fl)
settles n fl f more = ap (λ gl. kept_all more (f gl)) (rests_pads n fl)

mutual
  expr_gives : (e : Expr) (fl : List Bool) → Gives (expr_code e) fl (false ∷ fl)
  expr_gives (expr node place of operand) fl = node_gives node fl

  node_gives : (e : Node) (fl : List Bool) → Gives (node_code e) fl (false ∷ fl)
  node_gives not_given fl = record { by = λ more. refl }
  node_gives (constant v) fl = record { by = λ more. refl }
  node_gives (load x) fl = then_gives (place_code x) _ (place_gives x fl) (record { by = λ more. refl })
  node_gives (load_made x) fl = then_gives (place_code x) _ (place_gives x fl) (record { by = λ more. refl })
  node_gives (element_value e es) fl =
      then_gives (expr_code e) _ (expr_gives e fl) (then_gives (list_code es) _ (list_gives es (false ∷ fl)) (record { by = λ more. settles (list_count es) (false ∷ fl) (λ gl. false ∷ rest gl) more }))
  node_gives (field_value e i) fl = then_gives (expr_code e) _ (expr_gives e fl) (record { by = λ more. refl })
  node_gives (unary o a) fl = then_gives (expr_code a) _ (expr_gives a fl) (record { by = λ more. refl })
  node_gives (binary o compare a b) fl = then_gives (expr_code a) _ (expr_gives a fl) (then_gives (expr_code b) _ (expr_gives b (false ∷ fl)) (record { by = λ more. refl }))
  node_gives (call p args) fl = then_gives (args_code args) _ (args_give args fl) (record { by = λ more. settles (count args) fl (λ gl. false ∷ gl) more })
  node_gives (err_value member) fl = record { by = λ more. refl }
  node_gives (default_of e) fl = then_gives (expr_code e) _ (expr_gives e fl) (record { by = λ more. refl })
  node_gives (default_if_any e) fl = then_gives (expr_code e) _ (expr_gives e fl) (record { by = λ more. refl })
  node_gives (enumerated e) fl = then_gives (expr_code e) _ (expr_gives e fl) (record { by = λ more. refl })
  node_gives active_sheet fl = record { by = λ more. refl }
  node_gives (named_member e name how es) fl =
      then_gives (expr_code e) _ (expr_gives e fl) (record {
        by = λ more. (then_gives (list_code es) _ (list_gives es (false ∷ false ∷ fl)) (record { by = λ end. settles (list_count es) (false ∷ false ∷ fl) (λ gl. false ∷ rest (rest gl)) end })).by more;
      })
  node_gives (host_member e name es) fl =
      then_gives (expr_code e) _ (expr_gives e fl) (record {
        by = λ more. (then_gives (list_code es) _ (list_gives es (false ∷ false ∷ fl)) (record { by = λ end. settles (list_count es) (false ∷ false ∷ fl) (λ gl. false ∷ rest (rest gl)) end })).by more;
      })
  node_gives this fl = record { by = λ more. refl }
  node_gives (new_object c) fl = record { by = λ more. refl }
  node_gives (method e q args) fl =
      then_gives (expr_code e) _ (expr_gives e fl) (record {
        by = λ more. (then_gives (args_code args) _ (args_give args (false ∷ fl)) (record { by = λ end. settles (count args) (false ∷ fl) (λ gl. false ∷ rest gl) end })).by more;
      })
  node_gives (late_member e name how given) fl =
      then_gives (expr_code e) _ (expr_gives e fl) (record {
        by = λ more. (then_gives (given_code given reading name how (which_given given) 0) _ (given_gives given reading name how (which_given given) 0 (false ∷ false ∷ fl))
            (record { by = λ end. settles (length (which_given given)) (false ∷ false ∷ fl) (λ gl. false ∷ rest (rest gl)) end })).by more;
      })
  node_gives (late_item e es) fl =
      then_gives (expr_code e) _ (expr_gives e fl) (then_gives (list_code es) _ (list_gives es (false ∷ fl)) (record { by = λ more. settles (list_count es) (false ∷ fl) (λ gl. false ∷ rest gl) more }))
  node_gives (same a b) fl = then_gives (expr_code a) _ (expr_gives a fl) (then_gives (expr_code b) _ (expr_gives b (false ∷ fl)) (record { by = λ more. refl }))
  node_gives (is_type e of) fl = then_gives (expr_code e) _ (expr_gives e fl) (record { by = λ more. refl })
  node_gives (marked broken es) fl = then_gives (list_code es) _ (list_gives es fl) (record { by = λ more. settles (list_count es) fl (λ gl. false ∷ gl) more })
  node_gives (library f text_form es compare base) fl = then_gives (list_code es) _ (list_gives es fl) (record { by = λ more. settles (list_count es) fl (λ gl. false ∷ gl) more })
  node_gives (bound_of upper x z) fl = then_gives (place_code x) _ (place_gives x fl) (record { by = λ more. refl })
  node_gives (host_object reference) fl = record { by = λ more. refl }

  place_gives : (x : Lvalue) (fl : List Bool) → Gives (place_code x) fl (not (is_of_object x) ∷ fl)
  place_gives (variable x) fl = record { by = λ more. refl }
  place_gives (item x es) fl = then_gives (list_code es) _ (list_gives es fl) (record { by = λ more. settles (list_count es) fl (λ gl. true ∷ gl) more })
  place_gives (element x es) fl =
      then_gives (place_code x) _ (place_gives x fl) (then_gives (list_code es) _ (list_gives es (not (is_of_object x) ∷ fl)) (record { by = λ more. settles (list_count es) (not (is_of_object x) ∷ fl) (λ gl. flag gl ∷ rest gl) more }))
  place_gives (field x i of bounded) fl = then_gives (place_code x) _ (place_gives x fl) (record { by = λ more. refl })
  place_gives (kept_place i) fl = record { by = λ more. refl }
  place_gives (object_field e i of bounded) fl = then_gives (expr_code e) _ (expr_gives e fl) (record { by = λ more. refl })
  place_gives (as_new c x) fl = then_gives (place_code x) _ (place_gives x fl) (record { by = λ more. refl })
  place_gives (late_field e name) fl = then_gives (expr_code e) _ (expr_gives e fl) (record { by = λ more. refl })
  place_gives (value_place e) fl = then_gives (expr_code e) _ (expr_gives e fl) (record { by = λ more. refl })
  place_gives (element_along x es) fl =
      then_gives (place_code x) _ (place_gives x fl) (then_gives (list_code es) _ (list_gives es (not (is_of_object x) ∷ fl)) (record { by = λ more. settles (list_count es) (not (is_of_object x) ∷ fl) (λ gl. flag gl ∷ rest gl) more }))

  args_give : (args : Args) (fl : List Bool) → Gives (args_code args) fl (pads (count args) fl)
  args_give no_args fl = record { by = λ more. refl }
  args_give (by_place x args) fl = then_gives (place_code x) _ (place_gives x fl) (record { by = λ more. (args_give args (false ∷ fl)).by more })
  args_give (by_copy e of args) fl = then_gives (expr_code e) _ (expr_gives e fl) (record { by = λ more. (args_give args (false ∷ fl)).by more })
  args_give (by_default v args) fl = record { by = λ more. (args_give args (false ∷ fl)).by more }
  args_give (by_list es args) fl =
      then_gives (list_code es) _ (list_gives es fl) (record { by = λ more. settles (list_count es) fl (λ gl. false ∷ gl) (args_code args ++ more) ∙ (args_give args (false ∷ fl)).by more })
  args_give (in_order order args) fl = then_gives (args_code args) _ (args_give args fl) (record { by = λ more. settles (count args) fl (λ gl. pads (length order) gl) more })

  given_gives : (given : Given) (aim : Use) (name : List ℕ) (how : ByName) (gs : List Bool) (i : ℕ) (fl : List Bool) → Gives (given_code given aim name how gs i) fl (pads (length (which_given given)) fl)
  given_gives none_given aim name how gs i fl = record { by = λ more. refl }
  given_gives (place_given x given) aim name how gs i fl = then_gives (place_code x) _ (place_gives x fl) (record { by = λ more. (given_gives given aim name how gs (suc i) (false ∷ fl)).by more })
  given_gives (expr_given e given) aim name how gs i fl = then_gives (expr_code e) _ (expr_gives e fl) (record { by = λ more. (given_gives given aim name how gs (suc i) (false ∷ fl)).by more })

  list_gives : (es : Exprs) (fl : List Bool) → Gives (list_code es) fl (pads (list_count es) fl)
  list_gives no_exprs fl = record { by = λ more. refl }
  list_gives (also e es) fl = then_gives (expr_code e) _ (expr_gives e fl) (list_gives es (false ∷ fl))

-- what is printed ends where nothing is told of operands any more
prints_kept : (ps : Prints) (fl : List Bool) (more : List Instr) (b : Bool) → ((gl : List Bool) → kept_all more gl ≡ b) → kept_all (prints_code ps ++ more) fl ≡ b
prints_kept no_prints fl more b h = h fl
prints_kept (shown e ps) fl more b h =
    ap (λ l. kept_all l fl) (append_assoc (expr_code e) (ShowText ∷ prints_code ps) more) ∙ (expr_gives e fl).by (ShowText ∷ prints_code ps ++ more) ∙ prints_kept ps [] more b h
prints_kept (zone ps) fl more b h = prints_kept ps (false ∷ fl) more b h

tests_close : (entry : Entry) (ts : Tests) (header : ℕ) (of : Declared) (compare : Compare) (most none : ℕ) (fl : List Bool) → Closes (tests_code entry ts header of compare most none) fl
tests_close entry no_tests header of compare most none fl = record { by = λ more. refl }
tests_close entry (test_is o at e ts) header of compare most none fl =
    record { by = λ more. (then_closes (expr_code e) _ (expr_gives e (false ∷ [])) (record { by = λ end. (tests_close entry ts header of compare most none []).by end })).by more }
tests_close entry (test_range a b a_at b_at ts) header of compare most none fl =
    record { by = λ more. (then_closes (expr_code a) _ (expr_gives a (false ∷ [])) (then_closes (expr_code b) _ (expr_gives b (false ∷ false ∷ [])) (record { by = λ end. (tests_close entry ts header of compare most none []).by end }))).by more }

resizes_give : (preserve : Bool) (rs : Resizes) → Gives (resizes_code preserve rs) [] []
resizes_give preserve no_resizes = record { by = λ more. refl }
resizes_give preserve (resize x bounds of rs) =
    then_gives (place_code x) _ (place_gives x []) (then_gives (list_code bounds) _ (list_gives bounds (not (is_of_object x) ∷ [])) (record { by = λ more. (resizes_give preserve rs).by more }))

erases_give : (xs : Arrays) → Gives (erases_code xs) [] []
erases_give no_arrays = record { by = λ more. refl }
erases_give (an_array x xs) = then_gives (place_code x) _ (place_gives x []) (record { by = λ more. (erases_give xs).by more })

-- an expression and what stands behind it, and arguments, numbers
with_value_of : (e : Expr) (fl : List Bool) (is : List Instr) → Closes is (false ∷ fl) → Closes (expr_code e ++ is) fl
with_value_of e fl is h = then_closes (expr_code e) is (expr_gives e fl) h

action_closes : (entry : Entry) (p i k : ℕ) (a : Action) → KeepsOwn a → Closes (action_code entry p i k a) []
action_closes entry p i k (assign x e) h = with_value_of e [] _ (then_closes (place_code x) _ (place_gives x (false ∷ [])) (record { by = λ more. refl }))
action_closes entry p i k (assign_item base es e) h =
    with_value_of e [] _ (with_value_of base (false ∷ []) _ (then_closes (list_code es) _ (list_gives es (false ∷ false ∷ [])) (record { by = λ more. refl })))
action_closes entry p i k (set x e) h = with_value_of e [] _ (then_closes (place_code x) _ (place_gives x (false ∷ [])) (record { by = λ more. refl }))
action_closes entry p i k (assign_default x e) h = with_value_of e [] _ (with_value_of x (false ∷ []) _ (record { by = λ more. refl }))
action_closes entry p i k (assign_member base name es e) h =
    with_value_of e [] _ (with_value_of base (false ∷ []) _ (record { by = λ more. (then_closes (list_code es) _ (list_gives es (false ∷ false ∷ false ∷ [])) (record { by = λ end. refl })).by more }))
action_closes entry p i k (set_member base e) h = with_value_of e [] _ (with_value_of base (false ∷ []) _ (record { by = λ more. refl }))
action_closes entry p i k (assign_through x e) h = with_value_of e [] _ (with_value_of x (false ∷ []) _ (record { by = λ more. refl }))
action_closes entry p i k (assign_element x es e) h =
    with_value_of e [] _ (then_closes (place_code x) _ (place_gives x (false ∷ [])) (then_closes (list_code es) _ (list_gives es (not (is_of_object x) ∷ false ∷ [])) (record { by = λ more. refl })))
action_closes entry p i k (set_element x es e) h =
    with_value_of e [] _ (then_closes (place_code x) _ (place_gives x (false ∷ [])) (then_closes (list_code es) _ (list_gives es (not (is_of_object x) ∷ false ∷ [])) (record { by = λ more. refl })))
action_closes entry p i k (assign_late base name how given e) h =
    with_value_of e [] _ (with_value_of base (false ∷ []) _ (record {
      by = λ more. (then_closes (given_code given assigning name how (which_given given) 0) _ (given_gives given assigning name how (which_given given) 0 (false ∷ false ∷ false ∷ [])) (record { by = λ end. refl })).by more;
    }))
action_closes entry p i k (set_late base name how given e) h =
    with_value_of e [] _ (with_value_of base (false ∷ []) _ (record {
      by = λ more. (then_closes (given_code given setting name how (which_given given) 0) _ (given_gives given setting name how (which_given given) 0 (false ∷ false ∷ false ∷ [])) (record { by = λ end. refl })).by more;
    }))
action_closes entry p i k (evaluate e) h = with_value_of e [] _ (record { by = λ more. refl })
action_closes entry p i k (let_property q args e of) h = with_value_of e [] _ (then_closes (args_code args) _ (args_give args (false ∷ [])) (record { by = λ more. refl }))
action_closes entry p i k (set_property q args e of) h = with_value_of e [] _ (then_closes (args_code args) _ (args_give args (false ∷ [])) (record { by = λ more. refl }))
action_closes entry p i k (let_method base q args e of) h =
    with_value_of e [] _ (with_value_of base (false ∷ []) _ (record { by = λ more. (then_closes (args_code args) _ (args_give args (false ∷ false ∷ [])) (record { by = λ end. refl })).by more }))
action_closes entry p i k (set_method base q args e of) h =
    with_value_of e [] _ (with_value_of base (false ∷ []) _ (record { by = λ more. (then_closes (args_code args) _ (args_give args (false ∷ false ∷ [])) (record { by = λ end. refl })).by more }))
action_closes entry p i k (raise_event e args) h = then_closes (args_code args) _ (args_give args []) (record { by = λ more. refl })
action_closes entry p i k (print ps ends) h =
    record { by = λ more. ap (λ l. kept_all l []) (append_assoc (prints_code ps) _ more) ∙ prints_kept ps [] _ (kept_all more []) (λ gl. refl) }
action_closes entry p i k (raise args) h = then_closes (args_code args) _ (args_give args []) (record { by = λ more. refl })
action_closes entry p i k (test sense e to other) h = with_value_of e [] _ (record { by = λ more. refl })
action_closes entry p i k (go_to to) h = record { by = λ more. refl }
action_closes entry p i k (for_to x compare a b c last_at step_at most none) h =
    record { by = λ more. (with_value_of a [] _ (with_value_of b (false ∷ []) _ (with_value_of c (false ∷ false ∷ []) _ (record { by = λ end. refl })))).by more }
action_closes entry p i k (next x header most) h = record { by = λ more. refl }
action_closes entry p i k (for_each x e most none) h = record { by = λ more. (with_value_of e [] _ (record { by = λ end. refl })).by more }
action_closes entry p i k (next_each x header most) h = record { by = λ more. refl }
action_closes entry p i k (exit_each header to) h = record { by = λ more. refl }
action_closes entry p i k (select e most) h = with_value_of e [] _ (record { by = λ more. refl })
action_closes entry p i k (case_of ts header of compare most none) h = tests_close entry ts header of compare most none []
action_closes entry p i k (redim preserve rs) h = then_closes (resizes_code preserve rs) _ (resizes_give preserve rs) (record { by = λ more. refl })
action_closes entry p i k (erase xs) h = then_closes (erases_code xs) _ (erases_give xs) (record { by = λ more. refl })
action_closes entry p i k (with_place x) h = then_closes (place_code x) _ (place_gives x []) (record { by = λ more. ap (λ b. not b && kept_all more []) h })
action_closes entry p i k (with_value e) h = with_value_of e [] _ (record { by = λ more. refl })
action_closes entry p i k (end_with header) h = record { by = λ more. refl }
action_closes entry p i k (go_sub to) h = record { by = λ more. refl }
action_closes entry p i k return_sub h = record { by = λ more. refl }
action_closes entry p i k (exit_to to) h = record { by = λ more. refl }
action_closes entry p i k (on_error handling) h = record { by = λ more. refl }
action_closes entry p i k end_handler h = record { by = λ more. refl }
action_closes entry p i k clear_err h = record { by = λ more. refl }
action_closes entry p i k resume_again h = record { by = λ more. refl }
action_closes entry p i k resume_next h = record { by = λ more. refl }
action_closes entry p i k (resume_at to) h = record { by = λ more. refl }
action_closes entry p i k stop h = record { by = λ more. refl }
action_closes entry p i k end_run h = record { by = λ more. refl }

body_closes : (entry : Entry) (p i : ℕ) (ls : List Statement) (more : List Instr) → All (λ l. KeepsOwn l.action) ls → kept_all (body_code entry p i ls ++ more) [] ≡ kept_all more []
body_closes entry p i [] more h = refl
body_closes entry p i (l ∷ ls) more h =
    ap (λ is. kept_all is []) (append_assoc (statement_code entry p i l) (body_code entry p (suc i) ls) more) ∙
    (action_closes entry p i l.next l.action h.0).by (body_code entry p (suc i) ls ++ more) ∙ body_closes entry p (suc i) ls more h.1

bodies_close : (t : List (List ℕ)) (p : ℕ) (bs : List Body) → All (λ b. All (λ l. KeepsOwn l.action) b.statements) bs → kept_all (bodies_code t p bs) [] ≡ true
bodies_close t p [] h = refl
bodies_close t p (b ∷ bs) h = body_closes (entry_in t p) p 0 b.statements (bodies_code t (suc p) bs) h.0 ∙ bodies_close t (suc p) bs h.1

-- ---- what is kept at an address

both_true : (b c : Bool) → (b && c) ≡ true → (b ≡ true) × (c ≡ true)
both_true true c e = (refl, e)
both_true false c e = absurd cc

kept_at_address : (is : List Instr) (fl : List Bool) (pc i : ℕ) → kept_all is fl ≡ true → slice_get is pc ≡ Some (KeepPath i) → flag (firm_at is fl pc) ≡ true
kept_at_address [] fl pc i h e = absurd cc
kept_at_address (j ∷ is) fl zero i h e = this_one j e (both_true (keeps_it j fl) (kept_all is (passed j fl)) h).0 where
  instr_or : Option Instr → Instr
  instr_or None = j
  instr_or (Some k) = k

  this_one : (j : Instr) → Some j ≡ Some (KeepPath i) → keeps_it j fl ≡ true → flag fl ≡ true
  this_one j e k = subst (λ x. keeps_it x fl ≡ true) (ap (λ o. instr_or o) e) k
kept_at_address (j ∷ is) fl (suc pc) i h e = kept_at_address is (passed j fl) pc i (both_true (keeps_it j fl) (kept_all is (passed j fl)) h).1 e

-- a project's code keeps places that stay
pub project_keeps : (pr : Project) → BlocksKeepOwn pr → KeepsFirm true (code_of pr)
project_keeps pr h pc i is m q f =
    subst (λ b. FirmBy b (block_reach true m) (path q)) (kept_at_address (code_of pr).instrs [] pc i (bodies_close (entries_of 1 pr.bodies) 0 pr.bodies h) is) f
