-- What it is that a project is whole: each number in it names what is there, and its constants need no place of their
-- own. The number behind a procedure's last statement is its end.
use Rattle.std.specs.Prelude.{◌≡◌, ℕ, suc, ◌+◌, ◌<◌, ◌≤◌, List, [], ◌∷◌, length, Option, Some, None, slice_index_or}
use Rattle.vba_values.specs.declared.object.ObjRef.TheVariants.{Nothing}
use Rattle.vba_values.specs.Types.{Declared}
use Rattle.vba_values.specs.Types as type
use Rattle.vba_values.specs.Val.{Val, empty, null, missing, boolean, whole, currency, text, object}
use Rattle.bound_project.specs.Expressions.{Storage, local, shared, own, Variable, Expr, expr, Node, not_given, constant, load, load_made, element_value, field_value, unary, binary, call, err_value, default_of, default_if_any, enumerated, same, is_type, library, bound_of, host_object, active_sheet, host_member, named_member, this, new_object, method, late_member, late_item, Lvalue, variable, item, element, field, kept_place, object_field, as_new, element_along, late_field, value_place, Args, no_args, by_place, by_copy, by_default, by_list, in_order, Given, none_given, place_given, expr_given, Exprs, no_exprs, also, Prints, no_prints, shown, zone, marked}
use Rattle.bound_project.specs.Statements.{Handling, passed_on, skipped, handled_at, Resizes, no_resizes, resize, Arrays, no_arrays, an_array, Tests, no_tests, test_is, test_range, Action, assign, assign_item, set, assign_default, assign_member, set_member, assign_through, assign_element, set_element, assign_late, set_late, evaluate, let_property, set_property, let_method, set_method, raise_event, print, raise, test, go_to, for_to, next, for_each, next_each, exit_each, select, case_of, redim, erase, with_place, with_value, end_with, go_sub, return_sub, exit_to, on_error, end_handler, clear_err, resume_again, resume_next, resume_at, stop, end_run, Statement}
use Rattle.bound_project.specs.Project.{Handler, Member, is_variable, is_procedure, is_property, Class, Declarations, Body, Project, no_declaration, no_event, procedure_at, class_at, statements_at}

-- each item of a list is so
abbrev pub All : {A : Type 0} → (A → Type 0) → List A → Type 0
All P [] = Unit {0}
All P (x ∷ xs) = P x × All P xs

abbrev pub IfThere : {A : Type 0} → (A → Type 0) → Option A → Type 0
IfThere P None = Unit {0}
IfThere P (Some x) = P x

-- what a constant is: Empty, Null, Missing, a Boolean, a number, a text or Nothing
abbrev pub IsConstant : Val → Type 0
IsConstant empty = Unit {0}
IsConstant null = Unit {0}
IsConstant missing = Unit {0}
IsConstant (boolean b) = Unit {0}
IsConstant (whole k z) = Unit {0}
IsConstant (currency count) = Unit {0}
IsConstant (text units) = Unit {0}
IsConstant (object Nothing) = Unit {0}
IsConstant other = ⊥

-- a declared type names a class or a Type that is there; classes count from 1
abbrev pub HasType : Declarations → Declared → Type 0
HasType d (type.class c) = c ≤ length d.classes
HasType d (type.udt t) = t < length d.types
HasType d (type.array_of of) = HasType d of
HasType d of = Unit {0}

-- the variables of a procedure's frame: the result, its own ones, its parameters
abbrev pub variable_count : Declarations → (procedure : ℕ) → ℕ
variable_count d p = suc (length (procedure_at d p).locals + length (procedure_at d p).parameters)

abbrev pub HasStorage : Declarations → (procedure : ℕ) → Storage → Type 0
HasStorage d p (local i) = i < variable_count d p
HasStorage d p (shared i) = i < length d.shared
HasStorage d p (own i) = Unit {0}

abbrev pub HasVariable : Declarations → (procedure : ℕ) → Variable → Type 0
HasVariable d p x = HasStorage d p x.storage × HasType d x.of

-- a procedure that is there, with as many arguments as it has parameters
abbrev pub HasProcedure : Declarations → (procedure arguments : ℕ) → Type 0
HasProcedure d p n = (p < length d.procedures) × (n ≡ length (procedure_at d p).parameters)

-- a statement of a procedure, and a place to go on at, which may be the procedure's end
abbrev pub HasStatement : Project → (procedure statement : ℕ) → Type 0
HasStatement pr p i = i < length (statements_at pr p)

abbrev pub HasTarget : Project → (procedure statement : ℕ) → Type 0
HasTarget pr p i = i ≤ length (statements_at pr p)

-- how many arguments there are
abbrev pub argument_count : Args → ℕ
argument_count no_args = 0
argument_count (by_place x args) = suc (argument_count args)
argument_count (by_copy e of args) = suc (argument_count args)
argument_count (by_default v args) = suc (argument_count args)
argument_count (by_list es args) = suc (argument_count args)
argument_count (in_order order args) = length order

-- ---- expressions

abbrev mutual
  pub WholeExpr : Project → (procedure : ℕ) → Expr → Type 0
  WholeExpr pr p (expr node place of operand) = WholeNode pr p node

  pub WholeNode : Project → (procedure : ℕ) → Node → Type 0
  WholeNode pr p not_given = Unit {0}
  WholeNode pr p (constant v) = IsConstant v
  WholeNode pr p (load x) = WholePlace pr p x
  WholeNode pr p (load_made x) = WholePlace pr p x
  WholeNode pr p (element_value e es) = WholeExpr pr p e × WholeExprs pr p es
  WholeNode pr p (field_value e i) = WholeExpr pr p e
  WholeNode pr p (unary o a) = WholeExpr pr p a
  WholeNode pr p (binary o compare a b) = WholeExpr pr p a × WholeExpr pr p b
  WholeNode pr p (call q args) = WholeArgs pr p args × HasProcedure pr.declared q (argument_count args)
  WholeNode pr p (err_value member) = Unit {0}
  WholeNode pr p (default_of e) = WholeExpr pr p e
  WholeNode pr p (default_if_any e) = WholeExpr pr p e
  WholeNode pr p (enumerated e) = WholeExpr pr p e
  WholeNode pr p (same a b) = WholeExpr pr p a × WholeExpr pr p b
  WholeNode pr p (is_type e of) = WholeExpr pr p e × HasType pr.declared of
  WholeNode pr p (library f text_form es compare base) = WholeExprs pr p es
  WholeNode pr p (marked broken es) = WholeExprs pr p es
  WholeNode pr p (bound_of upper x z) = WholePlace pr p x
  WholeNode pr p (host_object reference) = Unit {0}
  WholeNode pr p active_sheet = Unit {0}
  WholeNode pr p (host_member e name es) = WholeExpr pr p e × WholeExprs pr p es
  WholeNode pr p (named_member e name by es) = WholeExpr pr p e × WholeExprs pr p es
  WholeNode pr p this = Unit {0}
  WholeNode pr p (new_object class) = Unit {0}
  WholeNode pr p (method e q args) = WholeExpr pr p e × (WholeArgs pr p args × HasProcedure pr.declared q (argument_count args))
  WholeNode pr p (late_member e name by given) = WholeExpr pr p e × WholeGiven pr p given
  WholeNode pr p (late_item e es) = WholeExpr pr p e × WholeExprs pr p es

  pub WholePlace : Project → (procedure : ℕ) → Lvalue → Type 0
  WholePlace pr p (variable x) = HasVariable pr.declared p x
  WholePlace pr p (item x es) = WholeExprs pr p es × HasVariable pr.declared p x
  WholePlace pr p (element x es) = WholePlace pr p x × WholeExprs pr p es
  WholePlace pr p (field x i of bounded) = WholePlace pr p x × HasType pr.declared of
  WholePlace pr p (kept_place header) = HasStatement pr p header
  WholePlace pr p (object_field e i of bounded) = WholeExpr pr p e × HasType pr.declared of
  WholePlace pr p (as_new c x) = WholePlace pr p x
  WholePlace pr p (element_along x es) = WholePlace pr p x × WholeExprs pr p es
  WholePlace pr p (late_field e name) = WholeExpr pr p e
  WholePlace pr p (value_place e) = WholeExpr pr p e

  pub WholeArgs : Project → (procedure : ℕ) → Args → Type 0
  WholeArgs pr p no_args = Unit {0}
  WholeArgs pr p (by_place x args) = WholePlace pr p x × WholeArgs pr p args
  WholeArgs pr p (by_copy e of args) = WholeExpr pr p e × (HasType pr.declared of × WholeArgs pr p args)
  WholeArgs pr p (by_default v args) = IsConstant v × WholeArgs pr p args
  WholeArgs pr p (by_list es args) = WholeExprs pr p es × WholeArgs pr p args
  WholeArgs pr p (in_order order args) = WholeArgs pr p args × All (λ i. i < argument_count args) order

  pub WholeGiven : Project → (procedure : ℕ) → Given → Type 0
  WholeGiven pr p none_given = Unit {0}
  WholeGiven pr p (place_given x given) = WholePlace pr p x × WholeGiven pr p given
  WholeGiven pr p (expr_given e given) = WholeExpr pr p e × WholeGiven pr p given

  pub WholeExprs : Project → (procedure : ℕ) → Exprs → Type 0
  WholeExprs pr p no_exprs = Unit {0}
  WholeExprs pr p (also e es) = WholeExpr pr p e × WholeExprs pr p es

-- ---- statements

abbrev pub WholePrints : Project → (procedure : ℕ) → Prints → Type 0
WholePrints pr p no_prints = Unit {0}
WholePrints pr p (shown e ps) = WholeExpr pr p e × WholePrints pr p ps
WholePrints pr p (zone ps) = WholePrints pr p ps

abbrev pub WholeTests : Project → (procedure : ℕ) → Tests → Type 0
WholeTests pr p no_tests = Unit {0}
WholeTests pr p (test_is o at e ts) = WholeExpr pr p e × WholeTests pr p ts
WholeTests pr p (test_range a b a_at b_at ts) = WholeExpr pr p a × (WholeExpr pr p b × WholeTests pr p ts)

abbrev pub WholeResizes : Project → (procedure : ℕ) → Resizes → Type 0
WholeResizes pr p no_resizes = Unit {0}
WholeResizes pr p (resize x bounds of rs) = WholePlace pr p x × (WholeExprs pr p bounds × (IfThere (HasType pr.declared) of × WholeResizes pr p rs))

abbrev pub WholeArrays : Project → (procedure : ℕ) → Arrays → Type 0
WholeArrays pr p no_arrays = Unit {0}
WholeArrays pr p (an_array x xs) = WholePlace pr p x × WholeArrays pr p xs

abbrev pub WholeHandling : Project → (procedure : ℕ) → Handling → Type 0
WholeHandling pr p passed_on = Unit {0}
WholeHandling pr p skipped = Unit {0}
WholeHandling pr p (handled_at i) = HasTarget pr p i

abbrev pub WholeAction : Project → (procedure : ℕ) → Action → Type 0
WholeAction pr p (assign x e) = WholeExpr pr p e × WholePlace pr p x
WholeAction pr p (assign_item base es e) = WholeExpr pr p e × (WholeExpr pr p base × WholeExprs pr p es)
WholeAction pr p (set x e) = WholeExpr pr p e × WholePlace pr p x
WholeAction pr p (assign_default x e) = WholeExpr pr p e × WholeExpr pr p x
WholeAction pr p (assign_member base name es e) = WholeExpr pr p e × (WholeExpr pr p base × WholeExprs pr p es)
WholeAction pr p (set_member base e) = WholeExpr pr p e × WholeExpr pr p base
WholeAction pr p (assign_through target e) = WholeExpr pr p e × WholeExpr pr p target
WholeAction pr p (assign_element x es e) = WholeExpr pr p e × (WholePlace pr p x × WholeExprs pr p es)
WholeAction pr p (set_element x es e) = WholeExpr pr p e × (WholePlace pr p x × WholeExprs pr p es)
WholeAction pr p (assign_late base name by given e) = WholeExpr pr p e × (WholeExpr pr p base × WholeGiven pr p given)
WholeAction pr p (set_late base name by given e) = WholeExpr pr p e × (WholeExpr pr p base × WholeGiven pr p given)
WholeAction pr p (evaluate e) = WholeExpr pr p e
WholeAction pr p (let_property q args e of) = WholeExpr pr p e × (WholeArgs pr p args × (HasType pr.declared of × HasProcedure pr.declared q (suc (argument_count args))))
WholeAction pr p (set_property q args e of) = WholeExpr pr p e × (WholeArgs pr p args × (HasType pr.declared of × HasProcedure pr.declared q (suc (argument_count args))))
WholeAction pr p (let_method base q args e of) =
    WholeExpr pr p e × (WholeExpr pr p base × (WholeArgs pr p args × (HasType pr.declared of × HasProcedure pr.declared q (suc (argument_count args)))))
WholeAction pr p (set_method base q args e of) =
    WholeExpr pr p e × (WholeExpr pr p base × (WholeArgs pr p args × (HasType pr.declared of × HasProcedure pr.declared q (suc (argument_count args)))))
WholeAction pr p (raise_event event args) = WholeArgs pr p args
WholeAction pr p (print ps ends) = WholePrints pr p ps
WholeAction pr p (raise args) = WholeArgs pr p args
WholeAction pr p (test sense e to other) = WholeExpr pr p e × (HasTarget pr p to × HasTarget pr p other)
WholeAction pr p (go_to to) = HasTarget pr p to
WholeAction pr p (for_to x compare a b c last_at step_at first behind) =
    WholeExpr pr p a × (WholeExpr pr p b × (WholeExpr pr p c × (HasVariable pr.declared p x × (HasTarget pr p first × HasTarget pr p behind))))
WholeAction pr p (next x header first) = HasVariable pr.declared p x × (HasStatement pr p header × HasTarget pr p first)
WholeAction pr p (for_each x e first behind) = WholeExpr pr p e × (HasVariable pr.declared p x × (HasTarget pr p first × HasTarget pr p behind))
WholeAction pr p (next_each x header first) = HasVariable pr.declared p x × (HasStatement pr p header × HasTarget pr p first)
WholeAction pr p (exit_each header to) = HasStatement pr p header × HasTarget pr p to
WholeAction pr p (select e first) = WholeExpr pr p e × HasTarget pr p first
WholeAction pr p (case_of ts header of compare first other) = WholeTests pr p ts × (HasStatement pr p header × (HasTarget pr p first × HasTarget pr p other))
WholeAction pr p (redim preserve rs) = WholeResizes pr p rs
WholeAction pr p (erase xs) = WholeArrays pr p xs
WholeAction pr p (with_place x) = WholePlace pr p x
WholeAction pr p (with_value e) = WholeExpr pr p e
WholeAction pr p (end_with header) = HasStatement pr p header
WholeAction pr p (go_sub to) = HasTarget pr p to
WholeAction pr p return_sub = Unit {0}
WholeAction pr p (exit_to to) = HasTarget pr p to
WholeAction pr p (on_error h) = WholeHandling pr p h
WholeAction pr p end_handler = Unit {0}
WholeAction pr p clear_err = Unit {0}
WholeAction pr p resume_again = Unit {0}
WholeAction pr p resume_next = Unit {0}
WholeAction pr p (resume_at to) = HasTarget pr p to
WholeAction pr p stop = Unit {0}
WholeAction pr p end_run = Unit {0}

abbrev pub WholeStatement : Project → (procedure : ℕ) → Statement → Type 0
WholeStatement pr p l = WholeAction pr p l.action × HasTarget pr p l.next

-- ---- projects

abbrev pub WholeBodies : Project → (procedure : ℕ) → List Body → Type 0
WholeBodies pr p [] = Unit {0}
WholeBodies pr p (b ∷ bs) = All (WholeStatement pr p) b.statements × WholeBodies pr (suc p) bs

-- a member's variable is one of the class's, and its procedures are there
abbrev pub WholeMember : Declarations → (fields : ℕ) → Member → Type 0
WholeMember d n (is_variable i makes) = (i < n) × IfThere (λ c. c ≤ length d.classes) makes
WholeMember d n (is_procedure p) = p < length d.procedures
WholeMember d n (is_property reads lets sets) =
    IfThere (λ p. p < length d.procedures) reads × (IfThere (λ p. p < length d.procedures) lets × IfThere (λ p. p < length d.procedures) sets)

-- a handler names its variable, and takes what its event gives: Change one argument, an event of a class its parameters
abbrev pub HandlesEvent : Declarations → Declared → Handler → Type 0
HandlesEvent d type.worksheet h = (h.event ≡ 0) × HasProcedure d h.procedure 1
HandlesEvent d (type.class c) h = (h.event < length (class_at d c).events) × HasProcedure d h.procedure (length (slice_index_or (class_at d c).events h.event no_event).parameters)
HandlesEvent d of h = ⊥

abbrev pub WholeHandler : Declarations → Class → Handler → Type 0
WholeHandler d c h = (h.field < length c.fields) × HandlesEvent d (slice_index_or c.fields h.field no_declaration).of h

abbrev pub WholeClass : Declarations → Class → Type 0
WholeClass d c =
    IfThere (λ p. p < length d.procedures) c.initialize × (IfThere (λ p. p < length d.procedures) c.terminate ×
    (All (λ x. WholeMember d (length c.fields) x.member) c.members × (IfThere (WholeMember d (length c.fields)) c.default ×
    (IfThere (WholeMember d (length c.fields)) c.enumerator × (All (λ i. i < length c.fields) c.with_events × All (WholeHandler d c) c.handlers)))))

-- a project is whole: a body for each procedure, numbers that name what is there, and a procedure to begin with
pub record IsWhole (pr : Project) : Type 0 where
  pub bodies : length pr.bodies ≡ length pr.declared.procedures
  pub statements : WholeBodies pr 0 pr.bodies
  pub ends : All (WholeClass pr.declared) pr.declared.classes
  pub begin : pr.startup < length pr.declared.procedures
