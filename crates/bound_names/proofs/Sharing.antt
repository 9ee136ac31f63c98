-- A variable of a module is the declaration with its number among those that the project shares.
use Rattle.std.proofs.Common.{◌≡◌, ℕ, zero, suc, ◌+◌, Bool, false, List, [], ◌∷◌, ◌++◌, map, take, length, Some, None, if◌then◌else◌, refl, sym, ap, subst, ◌∙◌, arith, length-append, true}
use Rattle.std.specs.Prelude.{slice_get, flat_map}
use Rattle.vba_words.specs.declared.identifier.Identifier.{Identifier}
use Rattle.vba_tree.specs.Tree.{Variable}
use Rattle.bound_project.specs.declared.declarations.Declarations.{Declarations}
use Rattle.bound_project.specs.Expressions.{Storage, shared}
use Rattle.bound_project.specs.Project.{Declaration, Class}
use Rattle.bound_project.specs.Project as project
use Rattle.bound_project.specs.View.{declaration_view, declarations_view}
use Rattle.bound_members.specs.bound_calls.specs.bound_declarations.specs.constant_values.specs.declared_names.specs.binder.specs.Projects.{declarations_of, class_of}
use Rattle.bound_members.specs.bound_calls.specs.bound_declarations.specs.constant_values.specs.declared_names.specs.binder.specs.Constants.{home}
use Rattle.bound_members.specs.bound_calls.specs.bound_declarations.specs.constant_values.specs.declared_names.specs.binder.specs.Declarations.{What, a_variable, a_constant, an_enum, a_member, a_type, an_event, a_procedure, Entry}
use Rattle.bound_members.specs.bound_calls.specs.bound_declarations.specs.constant_values.specs.declared_names.specs.binder.specs.Storage.{declared_variable, is_variable, module_declarations, module_storage, shared_before, shared_from, shared_of, static_declarations}
use Rattle.bound_members.specs.bound_calls.specs.bound_declarations.specs.constant_values.specs.declared_names.specs.binder.specs.Scopes.{Scope, Space}
use Rattle.bound_members.specs.bound_calls.specs.bound_declarations.specs.constant_values.specs.declared_names.specs.binder.specs.Types.{counted}
use Rattle.bound_members.specs.bound_calls.specs.bound_declarations.specs.constant_values.specs.Rounds.{AreNumbered}
use Rattle.bound_members.specs.bound_calls.specs.bound_declarations.specs.constant_values.specs.declared_names.specs.Outside.{the_outside}
use Rattle.bound_members.specs.bound_calls.specs.bound_declarations.specs.constant_values.specs.declared_names.specs.View.{scope_view}
use Rattle.bound_members.specs.bound_calls.specs.bound_declarations.specs.constant_values.specs.declared_names.specs.declared.scope.Scope.{Scope as ScopeHere}
use Rattle.project_tables.specs.Signed.{whole_scope}
use Rattle.project_tables.proofs.Counts.{before_counted}
use Rattle.bound_names.specs.declared.names.Shape.{Shape}
use Rattle.bound_names.specs.Owned.{SharedShape, IsShape}
use Rattle.bound_members.specs.bound_calls.specs.bound_declarations.specs.constant_values.specs.declared_names.specs.binder.specs.EventTables.{class_table}

-- ---- lists

in_front : {A : Type 0} (xs ys : List A) (i : ℕ) (x : A) → slice_get xs i ≡ Some x → slice_get (xs ++ ys) i ≡ Some x
in_front [] ys i x h = let e : None ≡ Some x = h in absurd cc
in_front (z ∷ xs) ys zero x h = h
in_front (z ∷ xs) ys (suc i) x h = in_front xs ys i x h

behind : {A : Type 0} (xs ys : List A) (n i : ℕ) (x : A) → n ≡ length xs + i → slice_get ys i ≡ Some x → slice_get (xs ++ ys) n ≡ Some x
behind [] ys n i x e h = let z : n ≡ i = omega (arith, e) in ap (λ (m : ℕ). slice_get ys m) z ∙ h
behind (z ∷ xs) ys zero i x e h = absurd (omega (arith, e))
behind (z ∷ xs) ys (suc n) i x e h = behind xs ys n i x (omega (arith, e)) h

-- ---- the variables of a module

first_variable : (s : Scope) (x : Identifier) (public : Bool) (w : What) (es : List Entry) (v : Variable) → w ≡ a_variable v
    → slice_get (module_declarations s (record { name = x; is_public = public; what = w } ∷ es)) 0 ≡ Some (declared_variable s v)
first_variable s x public (a_variable u) es v is = let same : u ≡ v = cc in ap (λ (z : Variable). Some (declared_variable s z)) same
first_variable s x public (a_constant c) es v is = absurd cc
first_variable s x public an_enum es v is = absurd cc
first_variable s x public (a_member value steps) es v is = absurd cc
first_variable s x public (a_type fields) es v is = absurd cc
first_variable s x public (an_event ps) es v is = absurd cc
first_variable s x public (a_procedure p) es v is = absurd cc

later_variable : (s : Scope) (x : Identifier) (public : Bool) (w : What) (es before : List Entry) (n : ℕ) (d : Declaration) → ((m : ℕ) → m ≡ counted is_variable before → slice_get (module_declarations s es) m ≡ Some d)
    → n ≡ counted is_variable (record { name = x; is_public = public; what = w } ∷ before) → slice_get (module_declarations s (record { name = x; is_public = public; what = w } ∷ es)) n ≡ Some d
later_variable s x public (a_variable u) es before n d h e =
    let z : n ≡ suc (counted is_variable before) = omega (arith, e) in
    ap (λ (m : ℕ). slice_get (module_declarations s (record { name = x; is_public = public; what = a_variable u } ∷ es)) m) z ∙ h (counted is_variable before) refl
later_variable s x public (a_constant c) es before n d h e = h n (omega (arith, e))
later_variable s x public an_enum es before n d h e = h n (omega (arith, e))
later_variable s x public (a_member value steps) es before n d h e = h n (omega (arith, e))
later_variable s x public (a_type fields) es before n d h e = h n (omega (arith, e))
later_variable s x public (an_event ps) es before n d h e = h n (omega (arith, e))
later_variable s x public (a_procedure p) es before n d h e = h n (omega (arith, e))

pub variable_at : (s : Scope) (es : List Entry) (number n : ℕ) (e : Entry) (v : Variable) → slice_get es number ≡ Some e → e.what ≡ a_variable v → n ≡ counted is_variable (take number es)
    → slice_get (module_declarations s es) n ≡ Some (declared_variable s v)
variable_at s [] number n e v at is c = let z : None ≡ Some e = at in absurd cc
variable_at s (x ∷ es) zero n e v at is c =
    let same : x ≡ e = cc in
    let what : x.what ≡ a_variable v = ap (λ (y : Entry). y.what) same ∙ is in
    let none : n ≡ 0 = c in
    ap (λ (m : ℕ). slice_get (module_declarations s (x ∷ es)) m) none ∙ first_variable s x.name x.is_public x.what es v what
variable_at s (x ∷ es) (suc number) n e v at is c =
    later_variable s x.name x.is_public x.what es (take number es) n (declared_variable s v) (λ (m : ℕ) (k : m ≡ counted is_variable (take number es)). variable_at s es number m e v at is k) c

-- ---- what modules share

module_shares : (s : Scope) (space : Space) (number : ℕ) (e : Entry) (v : Variable) → space.source.is_class ≡ false → slice_get space.entries number ≡ Some e → e.what ≡ a_variable v
    → slice_get (shared_of (home s space)) (counted is_variable (take number space.entries)) ≡ Some (declared_variable (home s space) v)
module_shares s space number e v class at is =
    let h : Scope = home s space in
    let k : ℕ = counted is_variable (take number space.entries) in
    let P : Bool → Type 0 = λ (b : Bool). slice_get ((if b then [] else module_declarations h space.entries) ++ static_declarations h space.entries) k ≡ Some (declared_variable h v) in
    subst P (sym class) (in_front (module_declarations h space.entries) (static_declarations h space.entries) k (declared_variable h v) (variable_at h space.entries number k e v at is refl))

space_at : (s : Scope) (spaces : List Space) (i n k : ℕ) (space : Space) (d : Declaration) → slice_get spaces i ≡ Some space → slice_get (shared_of (home s space)) k ≡ Some d → n ≡ length (shared_from s (take i spaces)) + k
    → slice_get (shared_from s spaces) n ≡ Some d
space_at s [] i n k space d at is c = let z : None ≡ Some space = at in absurd cc
space_at s (x ∷ xs) zero n k space d at is c =
    let same : x ≡ space = cc in
    let e : n ≡ k = omega (arith, c) in
    in_front (shared_of (home s x)) (shared_from s xs) n d (ap (λ (y : Space). slice_get (shared_of (home s y)) n) same ∙ ap (λ (m : ℕ). slice_get (shared_of (home s space)) m) e ∙ is)
space_at s (x ∷ xs) (suc i) n k space d at is c =
    let m : ℕ = length (shared_from s (take i xs)) + k in
    let all : length (shared_of (home s x) ++ shared_from s (take i xs)) ≡ length (shared_of (home s x)) + length (shared_from s (take i xs)) = length-append (shared_of (home s x)) (shared_from s (take i xs)) in
    let c' : n ≡ length (shared_of (home s x) ++ shared_from s (take i xs)) + k = c in
    behind (shared_of (home s x)) (shared_from s xs) n m d (omega (arith, c', all)) (space_at s xs i m k space d at is refl)

same_shared : (scope : ScopeHere) (spaces : List Space) → shared_from (whole_scope (scope_view scope).spaces) spaces ≡ shared_from (scope_view scope) spaces
same_shared scope [] = refl
same_shared scope (space ∷ spaces) = ap (λ (ds : List Declaration). shared_of (home (scope_view scope) space) ++ ds) (same_shared scope spaces)

pub shared_is : (scope : ScopeHere) (declared : Declarations) (space : Space) (number : ℕ) (e : Entry) (v : Variable) (kept : Storage) (x : Shape) → AreNumbered (scope_view scope).spaces
    → declarations_view declared ≡ declarations_of the_outside (whole_scope (scope_view scope).spaces) (scope_view scope).spaces → slice_get (scope_view scope).spaces space.number ≡ Some space
    → slice_get space.entries number ≡ Some e → space.source.is_class ≡ false → e.what ≡ a_variable v → kept ≡ module_storage (scope_view scope) space number → SharedShape (map declaration_view declared.shared.items) kept x
    → IsShape (declared_variable (home (scope_view scope) space) v).of (length (declared_variable (home (scope_view scope) space) v).bounds) x
shared_is scope declared space number e v kept x numbered is there at class what kept_is h =
    let s : Scope = scope_view scope in
    let k : ℕ = counted is_variable (take number space.entries) in
    let n : ℕ = shared_before s s.spaces space + k in
    let d : Declaration = declared_variable (home s space) v in
    let counted_is : n ≡ length (shared_from s (take space.number s.spaces)) + k = ap (λ (m : ℕ). m + k) (before_counted s s.spaces space numbered) in
    let law : slice_get (shared_from s s.spaces) n ≡ Some d = space_at s s.spaces space.number n k space d there (module_shares s space number e v class at what) counted_is in
    let list : map declaration_view declared.shared.items ≡ shared_from s s.spaces = ap (λ (z : project.Declarations). z.shared) is ∙ same_shared scope s.spaces in
    let number_is : h.number ≡ n = (let z : shared h.number ≡ shared n = sym h.kept_is ∙ kept_is in cc) in
    let found : Some h.declaration ≡ Some d = sym h.at ∙ ap (λ (l : List Declaration). slice_get l h.number) list ∙ ap (λ (m : ℕ). slice_get (shared_from s s.spaces) m) number_is ∙ law in
    let same : h.declaration ≡ d = cc in
    subst (λ (z : Declaration). IsShape z.of (length z.bounds) x) same h.shape

-- ---- the variables of a class

class_at_first : (s : Scope) (x : Space) (xs : List Space) (b : Bool) → x.source.is_class ≡ b
    → flat_map (λ o. class_of (home s o)) (x ∷ xs) ≡ (if b then class_table (home s x) ∷ flat_map (λ o. class_of (home s o)) xs else flat_map (λ o. class_of (home s o)) xs)
class_at_first s x xs true h = ap (λ (b : Bool). (if b then class_table (home s x) ∷ [] else []) ++ flat_map (λ o. class_of (home s o)) xs) h
class_at_first s x xs false h = ap (λ (b : Bool). (if b then class_table (home s x) ∷ [] else []) ++ flat_map (λ o. class_of (home s o)) xs) h

-- how many classes there are before a module
abbrev pub classes_before : List Space → ℕ
classes_before spaces = counted (λ (o : Space). o.source.is_class) spaces

pub class_there : (s : Scope) (spaces : List Space) (i n : ℕ) (space : Space) → slice_get spaces i ≡ Some space → space.source.is_class ≡ true → n ≡ classes_before (take i spaces)
    → slice_get (flat_map (λ o. class_of (home s o)) spaces) n ≡ Some (class_table (home s space))
class_there s [] i n space at class c = let z : None ≡ Some space = at in absurd cc
class_there s (x ∷ xs) zero n space at class c =
    let same : x ≡ space = cc in
    let e : n ≡ 0 = c in
    ap (λ (l : List Class). slice_get l n) (class_at_first s x xs true (ap (λ (y : Space). y.source.is_class) same ∙ class))
    ∙ ap (λ (m : ℕ). slice_get (class_table (home s x) ∷ flat_map (λ o. class_of (home s o)) xs) m) e ∙ ap (λ (y : Space). Some (class_table (home s y))) same
class_there s (x ∷ xs) (suc i) n space at class c = on x.source.is_class refl (λ m k. class_there s xs i m space at class k)
  where
    rest : List Class
    rest = flat_map (λ o. class_of (home s o)) xs

    on : (b : Bool) → x.source.is_class ≡ b → ((m : ℕ) → m ≡ classes_before (take i xs) → slice_get rest m ≡ Some (class_table (home s space))) → slice_get (flat_map (λ o. class_of (home s o)) (x ∷ xs)) n ≡ Some (class_table (home s space))
    on true h later =
        let m : ℕ = classes_before (take i xs) in
        let z : n ≡ 1 + m = c ∙ ap (λ (b : Bool). (if b then 1 else 0) + m) h in
        let e : n ≡ suc m = omega (arith, z) in
        ap (λ (l : List Class). slice_get l n) (class_at_first s x xs true h) ∙ ap (λ (k : ℕ). slice_get (class_table (home s x) ∷ rest) k) e ∙ later m refl
    on false h later =
        let m : ℕ = classes_before (take i xs) in
        let z : n ≡ 0 + m = c ∙ ap (λ (b : Bool). (if b then 1 else 0) + m) h in
        let e : n ≡ m = omega (arith, z) in
        ap (λ (l : List Class). slice_get l n) (class_at_first s x xs false h) ∙ later n e
