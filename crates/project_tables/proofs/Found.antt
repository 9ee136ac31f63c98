-- The parameters of procedures, and how many variables are shared before a module.
use Rattle.std.proofs.Common.{◌≡◌, ℕ, zero, suc, ◌+◌, ◌<◌, ◌==◌, Bool, true, false, List, [], ◌∷◌, ◌++◌, map, refl, sym, ap, ◌∙◌, length, take, drop, get_or, if◌then◌else◌, length-append, eq-eqb, arith}
use Rattle.std.specs.Prelude.{Option, Some, None, option_map, slice_get, Vec}
use Rattle.std.specs.declared.alloc.Global.{Global}
use Rattle.std.proofs.lemmas.Bool.{ne_eqb}
use Rattle.std.proofs.lemmas.List.{map-append}
use Rattle.std.proofs.lemmas.Option.{slice_get-map, get_or_from_slice_get}
use Rattle.vba_words.specs.declared.identifier.Identifier.{Identifier}
use Rattle.bound_project.specs.Project as bound
use Rattle.bound_declarations.specs.constant_values.specs.declared_names.specs.binder.specs.Projects.{numbered}
use Rattle.bound_declarations.specs.constant_values.specs.declared_names.specs.binder.specs.Constants.{home}
use Rattle.bound_declarations.specs.constant_values.specs.declared_names.specs.binder.specs.Declarations.{Written, What, a_variable, a_constant, an_enum, a_member, a_type, an_event, a_procedure, Entry}
use Rattle.bound_declarations.specs.constant_values.specs.declared_names.specs.binder.specs.Signatures.{parameters_in}
use Rattle.bound_declarations.specs.constant_values.specs.declared_names.specs.binder.specs.Names.{scope_of, scope_in}
use Rattle.bound_declarations.specs.constant_values.specs.declared_names.specs.binder.specs.Scopes.{Space, Scope}
use Rattle.bound_declarations.specs.constant_values.specs.declared_names.specs.binder.specs.Storage.{parameters_of, shared_before, shared_from, shared_of}
use Rattle.bound_declarations.specs.constant_values.specs.declared_names.specs.Outside.{the_outside}
use Rattle.bound_declarations.specs.constant_values.specs.declared_names.specs.View.{scope_view, space_view}
use Rattle.bound_declarations.specs.constant_values.specs.declared_names.specs.declared.scope.Scope.{Scope as ScopeHere}
use Rattle.project_tables.specs.declared.rows.ProcedureRow.{ProcedureRow}
use Rattle.project_tables.specs.declared.signing.Signature.{Signature}
use Rattle.project_tables.specs.declared.signing.Signatures.{Signatures}
use Rattle.project_tables.specs.Rows.{Row, row_of, row_view, AreRowsOf}
use Rattle.project_tables.specs.Signed.{Signed, signed_view, signed_lists, signed_of, signed_in, befores, whole_scope, AreSignatures}
use Rattle.project_tables.specs.Steps.{signed_row, parameters_at}
use Rattle.project_tables.proofs.Counts.{before_counted}

pub signed_push : (xs : List Signature) (x : Signature) → map signed_view (xs ++ x ∷ []) ≡ map signed_view xs ++ signed_view x ∷ []
signed_push xs x = map-append signed_view xs (x ∷ [])

pub signed_lists_push : (of : List (Vec Signature Global)) (xs : Vec Signature Global) → signed_lists (of ++ xs ∷ []) ≡ signed_lists of ++ map signed_view xs.items ∷ []
signed_lists_push of xs = map-append (λ (signed : Vec Signature Global). map signed_view signed.items) of (xs ∷ [])

-- ---- how many are shared before a module

before_at : (s : Scope) (before i : ℕ) (spaces : List Space)
    → get_or (befores s before spaces) i (before + length (shared_from s spaces)) ≡ before + length (shared_from s (take i spaces))
before_at s before zero [] = refl
before_at s before (suc i) [] = refl
before_at s before zero (space ∷ spaces) = omega arith
before_at s before (suc i) (space ∷ spaces) =
    let here : ℕ = length (shared_of (home s space)) in
    let all = length-append (shared_of (home s space)) (shared_from s spaces) in
    let some = length-append (shared_of (home s space)) (shared_from s (take i spaces)) in
    let e : before + length (shared_of (home s space) ++ shared_from s spaces) ≡ (before + here) + length (shared_from s spaces) = omega arith in
    let e' : (before + here) + length (shared_from s (take i spaces)) ≡ before + length (shared_of (home s space) ++ shared_from s (take i spaces)) = omega arith in
    ap (λ (n : ℕ). get_or (befores s (before + here) spaces) i n) e ∙ before_at s (before + here) i spaces ∙ e'

same_before : (scope : ScopeHere) (spaces : List Space) (here : Space)
    → shared_before (scope_view scope) spaces here ≡ shared_before (whole_scope (map space_view scope.spaces.now)) spaces here
same_before scope spaces here = refl

pub before_is : (signatures : Signatures) (scope : ScopeHere) (space : Space) (before : ℕ) → AreSignatures signatures (scope_view scope).spaces
    → before ≡ get_or signatures.before.items space.number signatures.total
    → before ≡ shared_before (scope_view scope) (scope_view scope).spaces space
before_is signatures scope space before are is =
    let spaces : List Space = map space_view scope.spaces.now in
    is
    ∙ ap (λ (bs : List ℕ). get_or bs space.number signatures.total) are.before
    ∙ ap (λ (n : ℕ). get_or (befores (whole_scope spaces) 0 spaces) space.number n) are.total
    ∙ ap (λ (n : ℕ). get_or (befores (whole_scope spaces) 0 spaces) space.number n) (let z : length (shared_from (whole_scope spaces) spaces) ≡ 0 + length (shared_from (whole_scope spaces) spaces) = omega arith in z)
    ∙ before_at (whole_scope spaces) 0 space.number spaces
    ∙ (let z : 0 + length (shared_from (whole_scope spaces) (take space.number spaces)) ≡ length (shared_from (whole_scope spaces) (take space.number spaces)) = omega arith in z)
    ∙ sym (before_counted (whole_scope spaces) spaces space are.numbered)
    ∙ sym (same_before scope spaces space)

-- ---- the parameters of a procedure

pub all_signed : (s : Scope) (ps : List (ℕ × Written)) → map (signed_row s) (map (row_of s) ps) ≡ map (signed_of s) ps
all_signed s [] = refl
all_signed s (p ∷ ps) = ap (λ xs. signed_of s p ∷ xs) (all_signed s ps)

-- those of the rows of a module
pub module_signed : (s : Scope) (rows : List ProcedureRow) → AreRowsOf s rows → map (signed_row s) (map row_view rows) ≡ signed_in s
module_signed s rows are = ap (map (signed_row s)) are.rows_are ∙ all_signed s (numbered 0 s.here.entries)

found_first : (s : Scope) (number : ℕ) (x : Identifier) (public : Bool) (what : What) (es : List Entry) (w : Written) → what ≡ a_procedure w
    → parameters_at (map (signed_of s) (numbered number (record { name = x; is_public = public; what = what } ∷ es))) number ≡ parameters_of (scope_in s w) w
found_first s number x public (a_variable v) es w is = absurd cc
found_first s number x public (a_constant c) es w is = absurd cc
found_first s number x public an_enum es w is = absurd cc
found_first s number x public (a_member value steps) es w is = absurd cc
found_first s number x public (a_type fields) es w is = absurd cc
found_first s number x public (an_event ps) es w is = absurd cc
found_first s number x public (a_procedure p) es w is =
    let same : p ≡ w = cc in
    let here : (number == number) ≡ true = eq-eqb number number refl in
    rw here (ap (λ (q : Written). parameters_of (scope_in s q) q) same)

found_behind : (s : Scope) (first number : ℕ) (x : Identifier) (public : Bool) (what : What) (es : List Entry) → (first ≡ number → ⊥)
    → parameters_at (map (signed_of s) (numbered first (record { name = x; is_public = public; what = what } ∷ es))) number
    ≡ parameters_at (map (signed_of s) (numbered (suc first) es)) number
found_behind s first number x public (a_variable v) es other = refl
found_behind s first number x public (a_constant c) es other = refl
found_behind s first number x public an_enum es other = refl
found_behind s first number x public (a_member value steps) es other = refl
found_behind s first number x public (a_type fields) es other = refl
found_behind s first number x public (an_event ps) es other = refl
found_behind s first number x public (a_procedure p) es other =
    let isnt : (first == number) ≡ false = ne_eqb first number other in rw isnt refl

found_in : (s : Scope) (first i number : ℕ) (es : List Entry) (e : Entry) (w : Written) → slice_get es i ≡ Some e → e.what ≡ a_procedure w → number ≡ i + first
    → parameters_at (map (signed_of s) (numbered first es)) number ≡ parameters_of (scope_in s w) w
found_in s first i number [] e w at is is_number = absurd cc
found_in s first zero number (x ∷ es) e w at is is_number =
    let same : x ≡ e = cc in
    let what : x.what ≡ a_procedure w = ap (λ (y : Entry). y.what) same ∙ is in
    let e' : first ≡ number = omega arith in
    ap (λ (n : ℕ). parameters_at (map (signed_of s) (numbered first (x ∷ es))) n) (sym e') ∙ found_first s first x.name x.is_public x.what es w what
found_in s first (suc i) number (x ∷ es) e w at is is_number =
    found_behind s first number x.name x.is_public x.what es (λ (h : first ≡ number). omega arith)
    ∙ found_in s (suc first) i number es e w at is (omega arith)

pub parameters_are : (signatures : Signatures) (scope : ScopeHere) (space : Space) (number : ℕ) (found : List Signed)
    → AreSignatures signatures (scope_view scope).spaces
    → found ≡ get_or (signed_lists signatures.of.items) space.number []
    → (e : Entry) (w : Written) → slice_get (scope_view scope).spaces space.number ≡ Some space → slice_get space.entries number ≡ Some e → e.what ≡ a_procedure w
    → parameters_at found number ≡ parameters_in (scope_view scope) space w
parameters_are signatures scope space number found are is e w there at what =
    let spaces : List Space = map space_view scope.spaces.now in
    let F : Space → List Signed = (λ (x : Space). signed_in (scope_of the_outside spaces x)) in
    let listed : get_or (map F spaces) space.number [] ≡ F space =
    get_or_from_slice_get (map F spaces) space.number (F space) [] (slice_get-map F spaces space.number ∙ ap (option_map F) there) in
    ap (λ (xs : List Signed). parameters_at xs number)
    (is ∙ ap (λ (xs : List (List Signed)). get_or xs space.number []) are.of ∙ listed)
    ∙ found_in (scope_of the_outside spaces space) 0 number number space.entries e w at what (omega arith)
