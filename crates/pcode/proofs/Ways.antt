-- The code of every whole project is well-formed.
use Rattle.std.proofs.Common.{◌≡◌, ℕ, suc, ◌+◌, Bool, List, [], ◌∷◌, ◌++◌, length, Option, Some, refl, ap, ◌∙◌, arith, append_assoc}
use Rattle.std.proofs.lemmas.List.{append-nil}
use Rattle.vba_values.specs.declared.types.Compare.{Compare}
use Rattle.vba_values.specs.Types.{Declared}
use Rattle.bound_project.specs.Expressions.{Expr, expr, Node, not_given, constant, load, load_made, element_value, field_value, unary, binary, call, err_value, default_of, default_if_any, enumerated, same, is_type, library, bound_of, host_object, active_sheet, ByName, host_member, named_member, this, new_object, method, late_member, late_item, Lvalue, variable, item, element, field, kept_place, object_field, as_new, element_along, late_field, value_place, Args, no_args, by_place, by_copy, by_default, by_list, in_order, Given, none_given, place_given, expr_given, Exprs, no_exprs, also, Prints, no_prints, shown, zone, marked}
use Rattle.bound_project.specs.Statements.{Resizes, no_resizes, resize, Arrays, no_arrays, an_array, Tests, no_tests, test_is, test_range, Action, assign, assign_item, set, assign_default, assign_member, set_member, assign_through, assign_element, set_element, assign_late, set_late, evaluate, let_property, set_property, let_method, set_method, raise_event, print, raise, test, go_to, for_to, next, for_each, next_each, exit_each, select, case_of, redim, erase, with_place, with_value, end_with, go_sub, return_sub, exit_to, on_error, end_handler, clear_err, resume_again, resume_next, resume_at, stop, end_run, Statement}
use Rattle.bound_project.specs.Project.{Project, Body}
use Rattle.vba_meaning.specs.LateBound.{Use, reading, assigning, setting, which_given}
use Rattle.pcode.specs.Instructions.{Instr, Plain, Fit, FitObject, Call, CallOf, Drop, Finish}
use Rattle.pcode.specs.Code.{count, list_count, prints_count, expr_code, node_code, place_code, args_code, list_code, prints_code, resizes_code, erases_code, given_code, Entry, tests_code, action_code, statement_code}
use Rattle.pcode.specs.Layout.{body_code, bodies_code, entries_of, entry_in, code_of}
use Rattle.pcode.specs.WellFormed.{Kind, a_value, a_path, Way, no_way, brings, value_off, taken_off, brings_value, kinds_pushed, kinds_reordered, along_rest, along_all}

-- ---- operands that are taken off

taken : (xs : List Kind) (m : ℕ) (ks ys : List Kind) (go : List Kind → List Kind → Option Way) → taken_off (length xs + m) (kinds_pushed xs ks) ys go ≡ taken_off m ks (xs ++ ys) go
taken [] m ks ys go = let e : 0 + m ≡ m = omega arith in ap (λ k. taken_off k ks ys go) e
taken (x ∷ xs) m ks ys go =
    let e : length (x ∷ xs) + m ≡ length xs + suc m = omega arith in
    ap (λ k. taken_off k (kinds_pushed xs (x ∷ ks)) ys go) e ∙ taken xs (suc m) (x ∷ ks) ys go

all_off : (xs : List Kind) (n : ℕ) (ks : List Kind) (go : List Kind → List Kind → Option Way) → length xs ≡ n → taken_off n (kinds_pushed xs ks) [] go ≡ go xs ks
all_off xs n ks go len =
    let e : n ≡ length xs + 0 = omega (arith, len) in
    let nil : xs ++ [] ≡ xs = simp append-nil in
    ap (λ k. taken_off k (kinds_pushed xs ks) [] go) e ∙ taken xs 0 ks [] go ∙ ap (λ ys. go ys ks) nil

one_more_off : (xs : List Kind) (n : ℕ) (y : Kind) (ks : List Kind) (go : List Kind → List Kind → Option Way) → length xs ≡ n → taken_off (suc n) (y ∷ kinds_pushed xs ks) [] go ≡ go (xs ++ y ∷ []) ks
one_more_off xs n y ks go len =
    let e : n ≡ length xs + 0 = omega (arith, len) in
    ap (λ k. taken_off k (kinds_pushed xs ks) (y ∷ []) go) e ∙ taken xs 0 ks (y ∷ []) go

-- ---- instructions that lead from operands to operands, and to the end of a statement

record Gives (is : List Instr) (ks js : List Kind) : Type 0 where
  by : (rest : List Instr) → along_all (is ++ rest) (brings ks) ≡ along_all rest (brings js)

record Closes (is : List Instr) (ks : List Kind) : Type 0 where
  by : (rest : List Instr) → along_all (is ++ rest) (brings ks) ≡ along_all rest no_way

then_gives : (a b : List Instr) {ks js is : List Kind} → Gives a ks js → Gives b js is → Gives (a ++ b) ks is
then_gives a b {ks} {js} {is} g h = record { by = λ rest. ap (λ l. along_all l (brings ks)) (append_assoc a b rest) ∙ g.by (b ++ rest) ∙ h.by rest }

then_closes : (a b : List Instr) {ks js : List Kind} → Gives a ks js → Closes b js → Closes (a ++ b) ks
then_closes a b {ks} {js} g h = record { by = λ rest. ap (λ l. along_all l (brings ks)) (append_assoc a b rest) ∙ g.by (b ++ rest) ∙ h.by rest }

-- the first instruction takes counted operands
counts : (xs : List Kind) (n : ℕ) (ks : List Kind) (go : List Kind → List Kind → Option Way) (more : List Instr) (w : Option Way) → length xs ≡ n → along_rest (go xs ks) (along_all more) ≡ w
    → along_rest (taken_off n (kinds_pushed xs ks) [] go) (along_all more) ≡ w
counts xs n ks go more w len h = ap (λ o. along_rest o (along_all more)) (all_off xs n ks go len) ∙ h

-- the kinds of arguments, of numbers and of what is printed
abbrev args_kinds : Args → List Kind
args_kinds no_args = []
args_kinds (by_place x args) = a_path ∷ args_kinds args
args_kinds (by_copy e of args) = a_value ∷ args_kinds args
args_kinds (by_default v args) = a_value ∷ args_kinds args
args_kinds (by_list es args) = a_value ∷ args_kinds args
args_kinds (in_order order args) = kinds_reordered order (args_kinds args)

abbrev list_kinds : Exprs → List Kind
list_kinds no_exprs = []
list_kinds (also e es) = a_value ∷ list_kinds es

abbrev prints_kinds : Prints → List Kind
prints_kinds no_prints = []
prints_kinds (shown e ps) = a_value ∷ prints_kinds ps
prints_kinds (zone ps) = a_value ∷ prints_kinds ps

abbrev given_kinds : Given → List Kind
given_kinds none_given = []
given_kinds (place_given x given) = a_path ∷ given_kinds given
given_kinds (expr_given e given) = a_value ∷ given_kinds given

given_counted : (given : Given) → length (given_kinds given) ≡ length (which_given given)
given_counted none_given = refl
given_counted (place_given x given) = ap suc (given_counted given)
given_counted (expr_given e given) = ap suc (given_counted given)

reordered_count : (order : List ℕ) (xs : List Kind) → length (kinds_reordered order xs) ≡ length order
reordered_count [] xs = refl
reordered_count (i ∷ order) xs = ap suc (reordered_count order xs)

args_count : (args : Args) → length (args_kinds args) ≡ count args
args_count no_args = refl
args_count (by_place x args) = ap suc (args_count args)
args_count (by_copy e of args) = ap suc (args_count args)
args_count (by_default v args) = ap suc (args_count args)
args_count (by_list es args) = ap suc (args_count args)
args_count (in_order order args) = reordered_count order (args_kinds args)

lists_count : (es : Exprs) → length (list_kinds es) ≡ list_count es
lists_count no_exprs = refl
lists_count (also e es) = ap suc (lists_count es)

prints_counted : (ps : Prints) → length (prints_kinds ps) ≡ prints_count ps
prints_counted no_prints = refl
prints_counted (shown e ps) = ap suc (prints_counted ps)
prints_counted (zone ps) = ap suc (prints_counted ps)

mutual
  expr_gives : (e : Expr) (ks : List Kind) → Gives (expr_code e) ks (a_value ∷ ks)
  expr_gives (expr node place of operand) ks = node_gives node ks

  node_gives : (e : Node) (ks : List Kind) → Gives (node_code e) ks (a_value ∷ ks)
  node_gives not_given ks = record { by = λ rest. refl }
  node_gives (constant v) ks = record { by = λ rest. refl }
  node_gives (load x) ks = then_gives (place_code x) _ (place_gives x ks) (record { by = λ rest. refl })
  node_gives (load_made x) ks = then_gives (place_code x) _ (place_gives x ks) (record { by = λ rest. refl })
  node_gives (element_value e es) ks =
      then_gives (expr_code e) _ (expr_gives e ks) (then_gives (list_code es) _ (list_gives es (a_value ∷ ks)) (record { by = λ rest. counts (list_kinds es) _ _ _ rest _ (lists_count es) refl }))
  node_gives (field_value e i) ks = then_gives (expr_code e) _ (expr_gives e ks) (record { by = λ rest. refl })
  node_gives (unary o a) ks = then_gives (expr_code a) _ (expr_gives a ks) (record { by = λ rest. refl })
  node_gives (binary o compare a b) ks = then_gives (expr_code a) _ (expr_gives a ks) (then_gives (expr_code b) _ (expr_gives b (a_value ∷ ks)) (record { by = λ rest. refl }))
  node_gives (call p args) ks = then_gives (args_code args) _ (args_give args ks) (record { by = λ rest. counts (args_kinds args) _ _ _ rest _ (args_count args) refl })
  node_gives (err_value member) ks = record { by = λ rest. refl }
  node_gives (default_of e) ks = then_gives (expr_code e) _ (expr_gives e ks) (record { by = λ rest. refl })
  node_gives (default_if_any e) ks = then_gives (expr_code e) _ (expr_gives e ks) (record { by = λ rest. refl })
  node_gives (enumerated e) ks = then_gives (expr_code e) _ (expr_gives e ks) (record { by = λ rest. refl })
  node_gives active_sheet ks = record { by = λ rest. refl }
  node_gives (named_member e name by es) ks =
      then_gives (expr_code e) _ (expr_gives e ks) (record { by = λ rest. (then_gives (list_code es) _ (list_gives es (a_value ∷ a_value ∷ ks)) (record { by = λ more. counts (list_kinds es) _ _ _ more _ (lists_count es) refl })).by rest })
  node_gives (host_member e name es) ks =
      then_gives (expr_code e) _ (expr_gives e ks) (record { by = λ rest. (then_gives (list_code es) _ (list_gives es (a_value ∷ a_value ∷ ks)) (record { by = λ more. counts (list_kinds es) _ _ _ more _ (lists_count es) refl })).by rest })
  node_gives this ks = record { by = λ rest. refl }
  node_gives (new_object c) ks = record { by = λ rest. refl }
  node_gives (method e q args) ks =
      then_gives (expr_code e) _ (expr_gives e ks) (record { by = λ rest. (then_gives (args_code args) _ (args_give args (a_value ∷ ks)) (record { by = λ more. counts (args_kinds args) _ _ _ more _ (args_count args) refl })).by rest })
  node_gives (late_member e name by given) ks =
      then_gives (expr_code e) _ (expr_gives e ks) (record {
        by = λ rest. (then_gives (given_code given reading name by (which_given given) 0) _ (given_gives given reading name by (which_given given) 0 (a_value ∷ a_value ∷ ks)) (record { by = λ more. counts (given_kinds given) _ _ _ more _ (given_counted given) refl })).by rest;
      })
  node_gives (late_item e es) ks =
      then_gives (expr_code e) _ (expr_gives e ks) (then_gives (list_code es) _ (list_gives es (a_value ∷ ks)) (record { by = λ rest. counts (list_kinds es) _ _ _ rest _ (lists_count es) refl }))
  node_gives (same a b) ks = then_gives (expr_code a) _ (expr_gives a ks) (then_gives (expr_code b) _ (expr_gives b (a_value ∷ ks)) (record { by = λ rest. refl }))
  node_gives (is_type e of) ks = then_gives (expr_code e) _ (expr_gives e ks) (record { by = λ rest. refl })
  node_gives (marked broken es) ks = then_gives (list_code es) _ (list_gives es ks) (record { by = λ rest. counts (list_kinds es) _ _ _ rest _ (lists_count es) refl })
  node_gives (library f text_form es compare base) ks = then_gives (list_code es) _ (list_gives es ks) (record { by = λ rest. counts (list_kinds es) _ _ _ rest _ (lists_count es) refl })
  node_gives (bound_of upper x z) ks = then_gives (place_code x) _ (place_gives x ks) (record { by = λ rest. refl })
  node_gives (host_object reference) ks = record { by = λ rest. refl }

  place_gives : (x : Lvalue) (ks : List Kind) → Gives (place_code x) ks (a_path ∷ ks)
  place_gives (variable x) ks = record { by = λ rest. refl }
  place_gives (item x es) ks = then_gives (list_code es) _ (list_gives es ks) (record { by = λ rest. counts (list_kinds es) _ _ _ rest _ (lists_count es) refl })
  place_gives (element x es) ks =
      then_gives (place_code x) _ (place_gives x ks) (then_gives (list_code es) _ (list_gives es (a_path ∷ ks)) (record { by = λ rest. counts (list_kinds es) _ _ _ rest _ (lists_count es) refl }))
  place_gives (field x i of bounded) ks = then_gives (place_code x) _ (place_gives x ks) (record { by = λ rest. refl })
  place_gives (kept_place i) ks = record { by = λ rest. refl }
  place_gives (object_field e i of bounded) ks = then_gives (expr_code e) _ (expr_gives e ks) (record { by = λ rest. refl })
  place_gives (as_new c x) ks = then_gives (place_code x) _ (place_gives x ks) (record { by = λ rest. refl })
  place_gives (late_field e name) ks = then_gives (expr_code e) _ (expr_gives e ks) (record { by = λ rest. refl })
  place_gives (value_place e) ks = then_gives (expr_code e) _ (expr_gives e ks) (record { by = λ rest. refl })
  place_gives (element_along x es) ks =
      then_gives (place_code x) _ (place_gives x ks) (then_gives (list_code es) _ (list_gives es (a_path ∷ ks)) (record { by = λ rest. counts (list_kinds es) _ _ _ rest _ (lists_count es) refl }))

  args_give : (args : Args) (ks : List Kind) → Gives (args_code args) ks (kinds_pushed (args_kinds args) ks)
  args_give no_args ks = record { by = λ rest. refl }
  args_give (by_place x args) ks = then_gives (place_code x) _ (place_gives x ks) (record { by = λ rest. (args_give args (a_path ∷ ks)).by rest })
  args_give (by_copy e of args) ks = then_gives (expr_code e) _ (expr_gives e ks) (record { by = λ rest. (args_give args (a_value ∷ ks)).by rest })
  args_give (by_default v args) ks = record { by = λ rest. (args_give args (a_value ∷ ks)).by rest }
  args_give (by_list es args) ks =
      then_gives (list_code es) _ (list_gives es ks) (record { by = λ rest. counts (list_kinds es) _ _ _ (args_code args ++ rest) _ (lists_count es) ((args_give args (a_value ∷ ks)).by rest) })
  args_give (in_order order args) ks = then_gives (args_code args) _ (args_give args ks) (record { by = λ rest. counts (args_kinds args) _ _ _ rest _ (args_count args) refl })

  given_gives : (given : Given) (aim : Use) (name : List ℕ) (by : ByName) (gs : List Bool) (i : ℕ) (ks : List Kind) → Gives (given_code given aim name by gs i) ks (kinds_pushed (given_kinds given) ks)
  given_gives none_given aim name how gs i ks = record { by = λ rest. refl }
  given_gives (place_given x given) aim name how gs i ks = then_gives (place_code x) _ (place_gives x ks) (record { by = λ rest. (given_gives given aim name how gs (suc i) (a_path ∷ ks)).by rest })
  given_gives (expr_given e given) aim name how gs i ks = then_gives (expr_code e) _ (expr_gives e ks) (record { by = λ rest. (given_gives given aim name how gs (suc i) (a_value ∷ ks)).by rest })

  list_gives : (es : Exprs) (ks : List Kind) → Gives (list_code es) ks (kinds_pushed (list_kinds es) ks)
  list_gives no_exprs ks = record { by = λ rest. refl }
  list_gives (also e es) ks = then_gives (expr_code e) _ (expr_gives e ks) (list_gives es (a_value ∷ ks))

prints_give : (ps : Prints) (ks : List Kind) → Gives (prints_code ps) ks (kinds_pushed (prints_kinds ps) ks)
prints_give no_prints ks = record { by = λ rest. refl }
prints_give (shown e ps) ks = then_gives (expr_code e) _ (expr_gives e ks) (record { by = λ rest. (prints_give ps (a_value ∷ ks)).by rest })
prints_give (zone ps) ks = record { by = λ rest. (prints_give ps (a_value ∷ ks)).by rest }

tests_close : (entry : Entry) (ts : Tests) (header : ℕ) (of : Declared) (compare : Compare) (most none : ℕ) → Closes (tests_code entry ts header of compare most none) []
tests_close entry no_tests header of compare most none = record { by = λ rest. refl }
tests_close entry (test_is o at e ts) header of compare most none =
    record { by = λ rest. (then_closes (expr_code e) _ (expr_gives e (a_value ∷ [])) (record { by = λ rest. (tests_close entry ts header of compare most none).by rest })).by rest }
tests_close entry (test_range a b a_at b_at ts) header of compare most none =
    record { by = λ rest. (then_closes (expr_code a) _ (expr_gives a (a_value ∷ [])) (then_closes (expr_code b) _ (expr_gives b (a_value ∷ a_value ∷ [])) (record { by = λ rest. (tests_close entry ts header of compare most none).by rest }))).by rest }

resizes_give : (preserve : Bool) (rs : Resizes) → Gives (resizes_code preserve rs) [] []
resizes_give preserve no_resizes = record { by = λ rest. refl }
resizes_give preserve (resize x bounds of rs) =
    then_gives (place_code x) _ (place_gives x []) (then_gives (list_code bounds) _ (list_gives bounds (a_path ∷ []))
    (record { by = λ rest. counts (list_kinds bounds) _ _ _ (resizes_code preserve rs ++ rest) _ (lists_count bounds) ((resizes_give preserve rs).by rest) }))

erases_give : (xs : Arrays) → Gives (erases_code xs) [] []
erases_give no_arrays = record { by = λ rest. refl }
erases_give (an_array x xs) = then_gives (place_code x) _ (place_gives x []) (record { by = λ rest. (erases_give xs).by rest })

action_closes : (entry : Entry) (p i k : ℕ) (a : Action) → Closes (action_code entry p i k a) []
action_closes entry p i k (assign x e) = then_closes (expr_code e) _ (expr_gives e []) (then_closes (place_code x) _ (place_gives x (a_value ∷ [])) (record { by = λ rest. refl }))
action_closes entry p i k (assign_item base es e) =
    then_closes (expr_code e) _ (expr_gives e []) (then_closes (expr_code base) _ (expr_gives base (a_value ∷ [])) (then_closes (list_code es) _ (list_gives es (a_value ∷ a_value ∷ []))
    (record { by = λ rest. counts (list_kinds es) _ _ _ (Finish (entry k) ∷ rest) _ (lists_count es) refl })))
action_closes entry p i k (set x e) = then_closes (expr_code e) _ (expr_gives e []) (then_closes (place_code x) _ (place_gives x (a_value ∷ [])) (record { by = λ rest. refl }))
action_closes entry p i k (assign_default x e) = then_closes (expr_code e) _ (expr_gives e []) (then_closes (expr_code x) _ (expr_gives x (a_value ∷ [])) (record { by = λ rest. refl }))
action_closes entry p i k (assign_member base name es e) =
    then_closes (expr_code e) _ (expr_gives e []) (then_closes (expr_code base) _ (expr_gives base (a_value ∷ [])) (record {
      by = λ rest. (then_closes (list_code es) _ (list_gives es (a_value ∷ a_value ∷ a_value ∷ [])) (record { by = λ more. counts (list_kinds es) _ _ _ (Finish (entry k) ∷ more) _ (lists_count es) refl })).by rest;
    }))
action_closes entry p i k (set_member base e) = then_closes (expr_code e) _ (expr_gives e []) (then_closes (expr_code base) _ (expr_gives base (a_value ∷ [])) (record { by = λ rest. refl }))
action_closes entry p i k (assign_through x e) = then_closes (expr_code e) _ (expr_gives e []) (then_closes (expr_code x) _ (expr_gives x (a_value ∷ [])) (record { by = λ rest. refl }))
action_closes entry p i k (assign_element x es e) =
    then_closes (expr_code e) _ (expr_gives e []) (then_closes (place_code x) _ (place_gives x (a_value ∷ [])) (then_closes (list_code es) _ (list_gives es (a_path ∷ a_value ∷ []))
    (record { by = λ rest. counts (list_kinds es) _ _ _ (Drop ∷ Finish (entry k) ∷ rest) _ (lists_count es) refl })))
action_closes entry p i k (set_element x es e) =
    then_closes (expr_code e) _ (expr_gives e []) (then_closes (place_code x) _ (place_gives x (a_value ∷ [])) (then_closes (list_code es) _ (list_gives es (a_path ∷ a_value ∷ []))
    (record { by = λ rest. counts (list_kinds es) _ _ _ (Drop ∷ Finish (entry k) ∷ rest) _ (lists_count es) refl })))
action_closes entry p i k (assign_late base name how given e) =
    then_closes (expr_code e) _ (expr_gives e []) (then_closes (expr_code base) _ (expr_gives base (a_value ∷ [])) (record {
      by = λ rest. (then_closes (given_code given assigning name how (which_given given) 0) _ (given_gives given assigning name how (which_given given) 0 (a_value ∷ a_value ∷ a_value ∷ []))
          (record { by = λ more. counts (given_kinds given) _ _ _ (Drop ∷ Finish (entry k) ∷ more) _ (given_counted given) refl })).by rest;
    }))
action_closes entry p i k (set_late base name how given e) =
    then_closes (expr_code e) _ (expr_gives e []) (then_closes (expr_code base) _ (expr_gives base (a_value ∷ [])) (record {
      by = λ rest. (then_closes (given_code given setting name how (which_given given) 0) _ (given_gives given setting name how (which_given given) 0 (a_value ∷ a_value ∷ a_value ∷ []))
          (record { by = λ more. counts (given_kinds given) _ _ _ (Drop ∷ Finish (entry k) ∷ more) _ (given_counted given) refl })).by rest;
    }))
action_closes entry p i k (evaluate e) = then_closes (expr_code e) _ (expr_gives e []) (record { by = λ rest. refl })
action_closes entry p i k (let_property q args e of) =
    then_closes (expr_code e) _ (expr_gives e []) (then_closes (args_code args) _ (args_give args (a_value ∷ []))
    (record { by = λ rest. counts (args_kinds args) _ _ _ (Plain ∷ Fit of ∷ Call q (suc (count args)) ∷ Drop ∷ Finish (entry k) ∷ rest) _ (args_count args) (ap (λ o. along_rest o (along_all (Drop ∷ Finish (entry k) ∷ rest))) (one_more_off (args_kinds args) (count args) a_value [] (λ xs js. brings_value js) (args_count args))) }))
action_closes entry p i k (set_property q args e of) =
    then_closes (expr_code e) _ (expr_gives e []) (then_closes (args_code args) _ (args_give args (a_value ∷ []))
    (record { by = λ rest. counts (args_kinds args) _ _ _ (FitObject of ∷ Call q (suc (count args)) ∷ Drop ∷ Finish (entry k) ∷ rest) _ (args_count args) (ap (λ o. along_rest o (along_all (Drop ∷ Finish (entry k) ∷ rest))) (one_more_off (args_kinds args) (count args) a_value [] (λ xs js. brings_value js) (args_count args))) }))
action_closes entry p i k (let_method base q args e of) =
    then_closes (expr_code e) _ (expr_gives e []) (then_closes (expr_code base) _ (expr_gives base (a_value ∷ [])) (record {
      by = λ more. (then_closes (args_code args) _ (args_give args (a_value ∷ a_value ∷ []))
          (record { by = λ rest. counts (a_value ∷ args_kinds args) _ (a_value ∷ []) _ (Plain ∷ Fit of ∷ CallOf q (suc (count args)) ∷ Drop ∷ Finish (entry k) ∷ rest) _ (ap suc (args_count args)) (ap (λ o. along_rest o (along_all (Drop ∷ Finish (entry k) ∷ rest))) (one_more_off (args_kinds args) (count args) a_value (a_value ∷ []) (λ xs js. value_off js brings_value) (args_count args))) })).by more;
    }))
action_closes entry p i k (set_method base q args e of) =
    then_closes (expr_code e) _ (expr_gives e []) (then_closes (expr_code base) _ (expr_gives base (a_value ∷ [])) (record {
      by = λ more. (then_closes (args_code args) _ (args_give args (a_value ∷ a_value ∷ []))
          (record { by = λ rest. counts (a_value ∷ args_kinds args) _ (a_value ∷ []) _ (FitObject of ∷ CallOf q (suc (count args)) ∷ Drop ∷ Finish (entry k) ∷ rest) _ (ap suc (args_count args)) (ap (λ o. along_rest o (along_all (Drop ∷ Finish (entry k) ∷ rest))) (one_more_off (args_kinds args) (count args) a_value (a_value ∷ []) (λ xs js. value_off js brings_value) (args_count args))) })).by more;
    }))
action_closes entry p i k (raise_event e args) = then_closes (args_code args) _ (args_give args []) (record { by = λ rest. counts (args_kinds args) _ _ _ (Finish (entry k) ∷ rest) _ (args_count args) refl })
action_closes entry p i k (print ps ends) = then_closes (prints_code ps) _ (prints_give ps []) (record { by = λ rest. counts (prints_kinds ps) _ _ _ (Finish (entry k) ∷ rest) _ (prints_counted ps) refl })
action_closes entry p i k (raise args) = then_closes (args_code args) _ (args_give args []) (record { by = λ rest. counts (args_kinds args) _ _ _ rest _ (args_count args) refl })
action_closes entry p i k (test sense e to other) = then_closes (expr_code e) _ (expr_gives e []) (record { by = λ rest. refl })
action_closes entry p i k (go_to to) = record { by = λ rest. refl }
action_closes entry p i k (for_to x compare a b c last_at step_at most none) =
    record { by = λ rest. (then_closes (expr_code a) _ (expr_gives a []) (then_closes (expr_code b) _ (expr_gives b (a_value ∷ [])) (then_closes (expr_code c) _ (expr_gives c (a_value ∷ a_value ∷ [])) (record { by = λ rest. refl })))).by rest }
action_closes entry p i k (next x header most) = record { by = λ rest. refl }
action_closes entry p i k (for_each x e most none) = record { by = λ rest. (then_closes (expr_code e) _ (expr_gives e []) (record { by = λ rest. refl })).by rest }
action_closes entry p i k (next_each x header most) = record { by = λ rest. refl }
action_closes entry p i k (exit_each header to) = record { by = λ rest. refl }
action_closes entry p i k (select e most) = then_closes (expr_code e) _ (expr_gives e []) (record { by = λ rest. refl })
action_closes entry p i k (case_of ts header of compare most none) = tests_close entry ts header of compare most none
action_closes entry p i k (redim preserve rs) = then_closes (resizes_code preserve rs) _ (resizes_give preserve rs) (record { by = λ rest. refl })
action_closes entry p i k (erase xs) = then_closes (erases_code xs) _ (erases_give xs) (record { by = λ rest. refl })
action_closes entry p i k (with_place x) = then_closes (place_code x) _ (place_gives x []) (record { by = λ rest. refl })
action_closes entry p i k (with_value e) = then_closes (expr_code e) _ (expr_gives e []) (record { by = λ rest. refl })
action_closes entry p i k (end_with header) = record { by = λ rest. refl }
action_closes entry p i k (go_sub to) = record { by = λ rest. refl }
action_closes entry p i k return_sub = record { by = λ rest. refl }
action_closes entry p i k (exit_to to) = record { by = λ rest. refl }
action_closes entry p i k (on_error h) = record { by = λ rest. refl }
action_closes entry p i k end_handler = record { by = λ rest. refl }
action_closes entry p i k clear_err = record { by = λ rest. refl }
action_closes entry p i k resume_again = record { by = λ rest. refl }
action_closes entry p i k resume_next = record { by = λ rest. refl }
action_closes entry p i k (resume_at to) = record { by = λ rest. refl }
action_closes entry p i k stop = record { by = λ rest. refl }
action_closes entry p i k end_run = record { by = λ rest. refl }

body_closes : (entry : Entry) (p i : ℕ) (ls : List Statement) (rest : List Instr) → along_all (body_code entry p i ls ++ rest) no_way ≡ along_all rest no_way
body_closes entry p i [] rest = refl
body_closes entry p i (l ∷ ls) rest =
    ap (λ is. along_all is no_way) (append_assoc (statement_code entry p i l) (body_code entry p (suc i) ls) rest) ∙
    (action_closes entry p i l.next l.action).by (body_code entry p (suc i) ls ++ rest) ∙ body_closes entry p (suc i) ls rest

bodies_close : (t : List (List ℕ)) (p : ℕ) (bs : List Body) → along_all (bodies_code t p bs) no_way ≡ Some no_way
bodies_close t p [] = refl
bodies_close t p (b ∷ bs) = body_closes (entry_in t p) p 0 b.statements (bodies_code t (suc p) bs) ∙ bodies_close t (suc p) bs

-- the operands of the code of a project
pub find_operands : (pr : Project) → along_all (code_of pr).instrs no_way ≡ Some no_way
find_operands pr = bodies_close (entries_of 1 pr.bodies) 0 pr.bodies
