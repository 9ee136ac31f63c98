-- How many variables modules share, and the first statics of procedures.
use Rattle.std.proofs.Common.{◌≡◌, ℕ, zero, suc, ◌+◌, ◌<◌, ◌==◌, Bool, true, false, List, [], ◌∷◌, ◌++◌, map, refl, sym, ap, ◌∙◌, subst, length, take, drop, if◌then◌else◌, append_assoc, append-nil, length-append, eq-eqb, arith}
use Rattle.std.specs.Prelude.{Option, Some, None, slice_get}
use Rattle.std.proofs.lemmas.Bool.{ne_eqb}
use Rattle.std.proofs.lemmas.List.{take_at}
use Rattle.vba_words.specs.declared.identifier.Identifier.{Identifier}
use Rattle.bound_project.specs.Project.{Declaration}
use Rattle.bound_declarations.specs.constant_values.specs.declared_names.specs.binder.specs.Projects.{numbered}
use Rattle.bound_declarations.specs.constant_values.specs.declared_names.specs.binder.specs.Constants.{home}
use Rattle.bound_declarations.specs.constant_values.specs.declared_names.specs.binder.specs.Declarations.{Written, What, a_variable, a_constant, an_enum, a_member, a_type, an_event, a_procedure, Entry, Own, the_result, a_parameter, a_local, a_local_constant, an_array, undeclared, Local}
use Rattle.bound_declarations.specs.constant_values.specs.declared_names.specs.binder.specs.Scopes.{Space, Scope, is_same}
use Rattle.bound_declarations.specs.constant_values.specs.declared_names.specs.binder.specs.Names.{scope_in, locals_of}
use Rattle.bound_declarations.specs.constant_values.specs.declared_names.specs.binder.specs.Storage.{is_static, is_variable, declarations_if, module_declarations, static_declarations, first_static, shared_before, shared_from, shared_of}
use Rattle.bound_declarations.specs.constant_values.specs.declared_names.specs.binder.specs.Types.{counted}
use Rattle.bound_declarations.specs.constant_values.specs.Rounds.{AreNumbered}
use Rattle.project_tables.specs.declared.rows.ProcedureRow.{ProcedureRow}
use Rattle.project_tables.specs.Rows.{Row, row_of, row_view, AreRowsOf}
use Rattle.project_tables.specs.Steps.{row_at, rows_from, own_variables, statics_of}

-- ---- a variable has one declaration

one_static : (s : Scope) (x : Identifier) (o : Own) (ls : List Local)
    → length (declarations_if is_static s (record { name = x; own = o } ∷ ls))
    ≡ (let b : Bool = is_static (record { name = x; own = o }) in (if b then 1 else 0) + length (declarations_if is_static s ls))
one_static s x (the_result p) ls = omega arith
one_static s x (a_parameter p) ls = omega arith
one_static s x (a_local v true) ls = omega arith
one_static s x (a_local v false) ls = omega arith
one_static s x (a_local_constant c) ls = omega arith
one_static s x (an_array clause true) ls = omega arith
one_static s x (an_array clause false) ls = omega arith
one_static s x (undeclared true) ls = omega arith
one_static s x (undeclared false) ls = omega arith

statics_counted : (s : Scope) (ls : List Local) → length (declarations_if is_static s ls) ≡ counted is_static ls
statics_counted s [] = refl
statics_counted s (l ∷ ls) = one_static s l.name l.own ls ∙ ap (λ n. (if is_static l then 1 else 0) + n) (statics_counted s ls)

one_variable : (s : Scope) (x : Identifier) (public : Bool) (w : What) (es : List Entry)
    → length (module_declarations s (record { name = x; is_public = public; what = w } ∷ es))
    ≡ (let b : Bool = is_variable (record { name = x; is_public = public; what = w }) in (if b then 1 else 0) + length (module_declarations s es))
one_variable s x public (a_variable v) es = omega arith
one_variable s x public (a_constant c) es = omega arith
one_variable s x public an_enum es = omega arith
one_variable s x public (a_member value steps) es = omega arith
one_variable s x public (a_type fields) es = omega arith
one_variable s x public (an_event ps) es = omega arith
one_variable s x public (a_procedure p) es = omega arith

variables_counted : (s : Scope) (es : List Entry) → length (module_declarations s es) ≡ counted is_variable es
variables_counted s [] = refl
variables_counted s (e ∷ es) = one_variable s e.name e.is_public e.what es ∙ ap (λ n. (if is_variable e then 1 else 0) + n) (variables_counted s es)

-- ---- what a module shares

statics_more : (s : Scope) (number : ℕ) (x : Identifier) (public : Bool) (w : What) (es : List Entry)
    → length (static_declarations s es) ≡ statics_of (map (row_of s) (numbered (suc number) es))
    → length (static_declarations s (record { name = x; is_public = public; what = w } ∷ es))
    ≡ statics_of (map (row_of s) (numbered number (record { name = x; is_public = public; what = w } ∷ es)))
statics_more s number x public (a_variable v) es h = h
statics_more s number x public (a_constant c) es h = h
statics_more s number x public an_enum es h = h
statics_more s number x public (a_member value steps) es h = h
statics_more s number x public (a_type fields) es h = h
statics_more s number x public (an_event ps) es h = h
statics_more s number x public (a_procedure p) es h =
    length-append (declarations_if is_static (scope_in s p) (locals_of s p)) (static_declarations s es)
    ∙ ap (λ n. n + length (static_declarations s es)) (statics_counted (scope_in s p) (locals_of s p))
    ∙ ap (λ n. counted is_static (locals_of s p) + n) h

statics_numbered : (s : Scope) (number : ℕ) (es : List Entry) → length (static_declarations s es) ≡ statics_of (map (row_of s) (numbered number es))
statics_numbered s number [] = refl
statics_numbered s number (e ∷ es) = statics_more s number e.name e.is_public e.what es (statics_numbered s (suc number) es)

variables_shared : (s : Scope) (is_class : Bool) (es : List Entry)
    → (let n : ℕ = (if is_class then 0 else counted is_variable es) in n) ≡ length (if is_class then [] else module_declarations s es)
variables_shared s true es = refl
variables_shared s false es = sym (variables_counted s es)

pub shared_length : (s : Scope) (rows : List ProcedureRow) (variables statics : ℕ) → AreRowsOf s rows → variables ≡ own_variables s.here
    → statics ≡ statics_of (map row_view rows) → variables + statics ≡ length (shared_of s)
shared_length s rows variables statics are is_variables is_statics =
    let own : variables ≡ length (if s.here.source.is_class then [] else module_declarations s s.here.entries) =
    is_variables ∙ variables_shared s s.here.source.is_class s.here.entries in
    let others : statics ≡ length (static_declarations s s.here.entries) =
    is_statics ∙ ap statics_of are.rows_are ∙ sym (statics_numbered s 0 s.here.entries) in
    ap (λ n. n + statics) own ∙ ap (λ n. length (if s.here.source.is_class then [] else module_declarations s s.here.entries) + n) others
    ∙ sym (length-append (if s.here.source.is_class then [] else module_declarations s s.here.entries) (static_declarations s s.here.entries))

-- ---- the first statics of procedures

-- how many statics an entry has
abbrev statics_at : Scope → What → ℕ
statics_at s (a_procedure p) = counted is_static (locals_of s p)
statics_at s w = 0

walk_bare : (s : Scope) (first : ℕ) (F : ℕ × Written → Row) (ps : List (ℕ × Written)) → rows_from s (first + 0) ps ≡ map F ps → rows_from s first ps ≡ map F ps
walk_bare s first F ps h = let e : first + 0 ≡ first = omega arith in subst (λ (n : ℕ). rows_from s n ps ≡ map F ps) e h

statics_front : (s : Scope) (x : Identifier) (public : Bool) (w : What) (xs ys : List Entry)
    → static_declarations s (xs ++ ys) ≡ static_declarations s xs ++ static_declarations s ys
    → static_declarations s (record { name = x; is_public = public; what = w } ∷ (xs ++ ys))
    ≡ static_declarations s (record { name = x; is_public = public; what = w } ∷ xs) ++ static_declarations s ys
statics_front s x public (a_variable v) xs ys h = h
statics_front s x public (a_constant c) xs ys h = h
statics_front s x public an_enum xs ys h = h
statics_front s x public (a_member value steps) xs ys h = h
statics_front s x public (a_type fields) xs ys h = h
statics_front s x public (an_event ps) xs ys h = h
statics_front s x public (a_procedure p) xs ys h =
    ap (λ (ds : List Declaration). declarations_if is_static (scope_in s p) (locals_of s p) ++ ds) h
    ∙ sym (append_assoc (declarations_if is_static (scope_in s p) (locals_of s p)) (static_declarations s xs) (static_declarations s ys))

statics_append : (s : Scope) (xs ys : List Entry) → static_declarations s (xs ++ ys) ≡ static_declarations s xs ++ static_declarations s ys
statics_append s [] ys = refl
statics_append s (e ∷ xs) ys = statics_front s e.name e.is_public e.what xs ys (statics_append s xs ys)

statics_one : (s : Scope) (x : Identifier) (public : Bool) (w : What)
    → length (static_declarations s (record { name = x; is_public = public; what = w } ∷ [])) ≡ statics_at s w
statics_one s x public (a_variable v) = refl
statics_one s x public (a_constant c) = refl
statics_one s x public an_enum = refl
statics_one s x public (a_member value steps) = refl
statics_one s x public (a_type fields) = refl
statics_one s x public (an_event ps) = refl
statics_one s x public (a_procedure p) =
    ap length (append-nil (declarations_if is_static (scope_in s p) (locals_of s p))) ∙ statics_counted (scope_in s p) (locals_of s p)

statics_next : (s : Scope) (base : ℕ) (before : List Entry) (e : Entry)
    → base + length (static_declarations s (before ++ e ∷ [])) ≡ (base + length (static_declarations s before)) + statics_at s e.what
statics_next s base before e =
    let both = ap length (statics_append s before (e ∷ [])) ∙ length-append (static_declarations s before) (static_declarations s (e ∷ [])) in
    let one : length (static_declarations s (e ∷ [])) ≡ statics_at s e.what = statics_one s e.name e.is_public e.what in
    omega arith

walk_at : (s : Scope) (first number : ℕ) (F : ℕ × Written → Row) (x : Identifier) (public : Bool) (w : What) (rest : List Entry)
    → ((p : Written) → row_at s first (number, p) ≡ F (number, p))
    → rows_from s (first + statics_at s w) (numbered (suc number) rest) ≡ map F (numbered (suc number) rest)
    → rows_from s first (numbered number (record { name = x; is_public = public; what = w } ∷ rest))
    ≡ map F (numbered number (record { name = x; is_public = public; what = w } ∷ rest))
walk_at s first number F x public (a_variable v) rest here h = walk_bare s first F (numbered (suc number) rest) h
walk_at s first number F x public (a_constant c) rest here h = walk_bare s first F (numbered (suc number) rest) h
walk_at s first number F x public an_enum rest here h = walk_bare s first F (numbered (suc number) rest) h
walk_at s first number F x public (a_member value steps) rest here h = walk_bare s first F (numbered (suc number) rest) h
walk_at s first number F x public (a_type fields) rest here h = walk_bare s first F (numbered (suc number) rest) h
walk_at s first number F x public (an_event ps) rest here h = walk_bare s first F (numbered (suc number) rest) h
walk_at s first number F x public (a_procedure p) rest here h = λ k. here p k ∷ h k

-- a procedure with the first that the entries before it give
abbrev row_behind : Scope → ℕ → List Entry → ℕ × Written → Row
row_behind s base all p = row_at s (base + length (static_declarations s (take p.0 all))) p

walk : (s : Scope) (base number : ℕ) (all before rest : List Entry) → all ≡ before ++ rest → length before ≡ number
    → rows_from s (base + length (static_declarations s before)) (numbered number rest) ≡ map (row_behind s base all) (numbered number rest)
walk s base number all before [] is at = refl
walk s base number all before (e ∷ rest) is at =
    let taken : take number all ≡ before = ap (take number) is ∙ take_at before (e ∷ rest) number at in
    let longer : length (before ++ e ∷ []) ≡ suc number = omega (arith, length-append before (e ∷ [])) in
    walk_at s (base + length (static_declarations s before)) number (row_behind s base all) e.name e.is_public e.what rest
    (λ p. ap (λ (es : List Entry). row_at s (base + length (static_declarations s es)) (number, p)) (sym taken))
    (subst (λ (n : ℕ). rows_from s n (numbered (suc number) rest) ≡ map (row_behind s base all) (numbered (suc number) rest))
    (statics_next s base before e) (walk s base (suc number) all (before ++ e ∷ []) rest (is ∙ sym (append_assoc before (e ∷ []) rest)) longer))

-- the procedures of a module
pub rows_numbered : (s : Scope) (first : ℕ) → first ≡ shared_before s s.spaces s.here + own_variables s.here
    → rows_from s first (numbered 0 s.here.entries) ≡ map (row_of s) (numbered 0 s.here.entries)
rows_numbered s first is =
    let base : ℕ = shared_before s s.spaces s.here + own_variables s.here in
    let e : first ≡ base + 0 = omega arith in
    ap (λ (n : ℕ). rows_from s n (numbered 0 s.here.entries)) e ∙ walk s base 0 s.here.entries [] s.here.entries refl refl

-- ---- how many are shared before a module

abbrev pub AreNumberedFrom : ℕ → List Space → Type 0
AreNumberedFrom from spaces = (i : ℕ) (space : Space) → slice_get spaces i ≡ Some space → space.number ≡ i + from

before_from : (s : Scope) (from i : ℕ) (spaces : List Space) (here : Space) → AreNumberedFrom from spaces → here.number ≡ i + from
    → shared_before s spaces here ≡ length (shared_from s (take i spaces))
before_from s from zero [] here numbered is = refl
before_from s from (suc i) [] here numbered is = refl
before_from s from zero (space ∷ spaces) here numbered is =
    let at : space.number ≡ 0 + from = numbered 0 space refl in
    let same : is_same space here ≡ true = eq-eqb space.number here.number (omega arith) in
    rw same refl
before_from s from (suc i) (space ∷ spaces) here numbered is =
    let at : space.number ≡ 0 + from = numbered 0 space refl in
    let other : is_same space here ≡ false = ne_eqb space.number here.number (λ e. omega arith) in
    let behind : here.number ≡ i + suc from = omega arith in
    let others : AreNumberedFrom (suc from) spaces = (λ j other h. let e = numbered (suc j) other h in omega arith) in
    rw other (ap (λ n. length (shared_of (home s space)) + n) (before_from s (suc from) i spaces here others behind)
    ∙ sym (length-append (shared_of (home s space)) (shared_from s (take i spaces))))

pub before_counted : (s : Scope) (spaces : List Space) (here : Space) → AreNumbered spaces
    → shared_before s spaces here ≡ length (shared_from s (take here.number spaces))
before_counted s spaces here numbered =
    before_from s 0 here.number spaces here (λ i space h. let e = numbered i space h in omega arith) (omega arith)

shared_append : (s : Scope) (xs ys : List Space) → shared_from s (xs ++ ys) ≡ shared_from s xs ++ shared_from s ys
shared_append s [] ys = refl
shared_append s (space ∷ xs) ys =
    ap (λ (ds : List Declaration). shared_of (home s space) ++ ds) (shared_append s xs ys)
    ∙ sym (append_assoc (shared_of (home s space)) (shared_from s xs) (shared_from s ys))

-- one module more
pub before_more : (s : Scope) (xs : List Space) (space : Space) → length (shared_from s (xs ++ space ∷ [])) ≡ length (shared_from s xs) + length (shared_of (home s space))
before_more s xs space =
    let both = ap length (shared_append s xs (space ∷ [])) ∙ length-append (shared_from s xs) (shared_from s (space ∷ [])) in
    let one : length (shared_from s (space ∷ [])) ≡ length (shared_of (home s space)) = ap length (append-nil (shared_of (home s space))) in
    omega arith
