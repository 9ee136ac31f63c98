-- Variables and procedures of objects: what stands behind a dot behind an object of a class, and what a name means in a class.
use Rattle.std.proofs.Common.{◌≡◌, ℕ, zero, suc, ◌+◌, ◌==◌, Bool, true, false, ◌&&◌, not, List, [], ◌∷◌, ◌++◌, map, take, Option, Some, None, option_map, if◌then◌else◌, refl, sym, ap, subst, ◌∙◌, arith, eq-eqb}
use Rattle.std.specs.Prelude.{flat_map, length, slice_get, option_and_then, unwrap_or}
use Rattle.std.proofs.lemmas.Bool.{ne_eqb}
use Rattle.vba_base.specs.declared.place.Place.{Place}
use Rattle.vba_words.specs.declared.identifier.Identifier.{Identifier}
use Rattle.vba_tree.specs.Tree.{Variable}
use Rattle.vba_values.specs.Types.{Declared}
use Rattle.bound_project.specs.declared.declarations.Declarations.{Declarations}
use Rattle.bound_project.specs.declared.declared_type.DeclaredType.{DeclaredType}
use Rattle.bound_project.specs.declared.node.NodeKind.TheVariants as kinds
use Rattle.bound_project.specs.Expressions.{as_new, object_field}
use Rattle.bound_project.specs.Expressions as bound
use Rattle.bound_project.specs.Pieces.{Piece, a_place, of_value, put, put_kind}
use Rattle.bound_project.specs.Drafts.{Drafted}
use Rattle.bound_project.specs.Project.{Class, Declaration, class_numbered}
use Rattle.bound_project.specs.Project as project
use Rattle.bound_project.specs.View.{class_view, declarations_view, declared_view}
use Rattle.bound_members.specs.bound_calls.specs.bound_declarations.specs.constant_values.specs.declared_names.specs.binder.specs.Projects.{class_of, declarations_of}
use Rattle.bound_members.specs.bound_calls.specs.bound_declarations.specs.constant_values.specs.declared_names.specs.binder.specs.Classes.{class_space, field_number, found_at, made_by, member_entry}
use Rattle.bound_members.specs.bound_calls.specs.bound_declarations.specs.constant_values.specs.declared_names.specs.binder.specs.EventTables.{class_table, declared_events}
use Rattle.bound_members.specs.bound_calls.specs.bound_declarations.specs.constant_values.specs.declared_names.specs.binder.specs.Constants.{home}
use Rattle.bound_members.specs.bound_calls.specs.bound_declarations.specs.constant_values.specs.declared_names.specs.binder.specs.Declarations.{Entry, a_procedure, a_variable, Written}
use Rattle.bound_members.specs.bound_calls.specs.bound_forms.specs.Members.{class_member, made_place, object_term, unknown_member}
use Rattle.bound_members.specs.bound_calls.specs.bound_declarations.specs.constant_values.specs.declared_names.specs.binder.specs.Storage.{has_bounds, declared_variable, module_declarations}
use Rattle.bound_members.specs.bound_calls.specs.bound_declarations.specs.constant_values.specs.declared_names.specs.binder.specs.Scopes.{Scope, Space, first_at, is_same}
use Rattle.bound_members.specs.bound_calls.specs.bound_forms.specs.Terms.{Env}
use Rattle.bound_members.specs.bound_calls.specs.bound_forms.specs.Terms as terms
use Rattle.bound_members.specs.bound_calls.specs.bound_declarations.specs.constant_values.specs.declared_names.specs.binder.specs.Types.{class_number}
use Rattle.bound_members.specs.bound_calls.specs.bound_declarations.specs.constant_values.specs.Rounds.{AreNumbered}
use Rattle.bound_members.specs.bound_calls.specs.bound_declarations.specs.constant_values.specs.declared_names.specs.Outside.{the_outside}
use Rattle.bound_members.specs.bound_calls.specs.bound_declarations.specs.constant_values.specs.declared_names.specs.View.{scope_view}
use Rattle.bound_members.specs.bound_calls.specs.bound_declarations.specs.constant_values.specs.declared_names.specs.declared.scope.Scope.{Scope as ScopeHere}
use Rattle.project_tables.specs.Signed.{whole_scope}
use Rattle.bound_members.specs.bound_calls.specs.declared.term.Receiver.TheVariants as receiver
use Rattle.bound_members.specs.bound_calls.specs.declared.term.Term.{Term}
use Rattle.bound_members.specs.bound_calls.specs.declared.term.Term.TheVariants as term
use Rattle.bound_members.specs.bound_calls.specs.Calls.{node_of}
use Rattle.bound_members.specs.bound_calls.specs.Standing.{TermStands}
use Rattle.bound_members.specs.bound_calls.proofs.Growing.{grown_same, grown_pieces}
use Rattle.bound_names.specs.declared.names.Shape.{Shape}
use Rattle.bound_names.specs.Callee.{MakesRoutine}
use Rattle.bound_names.specs.ClassMembers.{MakesEntryOf, MakesMemberOf}
use Rattle.bound_names.specs.ClassMembers.{unknown_term}
use Rattle.bound_names.specs.Owned.{IsShape}
use Rattle.bound_names.proofs.UnknownTerms.{unknown_stands}
use Rattle.bound_names.proofs.Sharing.{class_there, classes_before, variable_at}

-- ---- what was found

-- what was found passes, and stands at its number in a list
record IsFound {A : Type 0} (test : A → Bool) (from : ℕ) (xs : List A) (f : ℕ × A) : Type 0 where
  passes : test f.1 ≡ true
  place : ℕ
  number_is : f.0 ≡ place + from
  there : slice_get xs place ≡ Some f.1

abbrev Found : {A : Type 0} → (A → Bool) → ℕ → List A → Option (ℕ × A) → Type 0
Found test from xs None = Unit {0}
Found test from xs (Some f) = IsFound test from xs f

found_later : {A : Type 0} (test : A → Bool) (from : ℕ) (x : A) (xs : List A) (r : Option (ℕ × A)) → Found test (suc from) xs r → Found test from (x ∷ xs) r
found_later test from x xs None h = tt
found_later test from x xs (Some f) h = record { passes = h.passes; place = suc h.place; number_is = (let e = h.number_is in omega arith); there = h.there }

first_found : {A : Type 0} (test : A → Bool) (from : ℕ) (xs : List A) → Found test from xs (first_at test from xs)
first_found test from [] = tt
first_found {A} test from (x ∷ xs) = at (test x) refl (first_found test (suc from) xs)
  where
    at : (b : Bool) → test x ≡ b → Found test (suc from) xs (first_at test (suc from) xs) → Found test from (x ∷ xs) (if b then Some (from, x) else first_at test (suc from) xs)
    at true k h = record { passes = k; place = 0; number_is = omega arith; there = refl }
    at false k h = found_later test from x xs (first_at test (suc from) xs) h

both_first : (a b : Bool) → (a && b) ≡ true → a ≡ true
both_first true b h = refl
both_first false b h = let e : false ≡ true = h in absurd cc

-- the class with a number is a module of the project
abbrev IsClassThere : List Space → Space → Type 0
IsClassThere spaces space = (slice_get spaces space.number ≡ Some space) × (space.source.is_class ≡ true)

space_found : (spaces : List Space) (number : ℕ) (space : Space) (r : Option (ℕ × Space)) → AreNumbered spaces → Found (λ (o : Space). o.source.is_class && (class_number spaces o == number)) 0 spaces r
    → option_map found_at r ≡ Some space → IsClassThere spaces space
space_found spaces number space None numbered h is = let e : None ≡ Some space = is in absurd cc
space_found spaces number space (Some (n, x)) numbered h is =
    let same : x ≡ space = cc in
    let at : x.number ≡ h.place = numbered h.place x h.there in
    let there : slice_get spaces x.number ≡ Some x = ap (λ (i : ℕ). slice_get spaces i) at ∙ h.there in
    subst (λ (o : Space). IsClassThere spaces o) same (there, both_first x.source.is_class (class_number spaces x == number) h.passes)

pub class_found : (spaces : List Space) (number : ℕ) (space : Space) → AreNumbered spaces → class_space spaces number ≡ Some space → IsClassThere spaces space
class_found spaces number space numbered is =
    let test = λ (o : Space). o.source.is_class && (class_number spaces o == number) in
    space_found spaces number space (first_at test 0 spaces) numbered (first_found test 0 spaces) is

entry_in : (test : Entry → Bool) (es : List Entry) (n : ℕ) (e : Entry) (r : Option (ℕ × Entry)) → Found test 0 es r → r ≡ Some (n, e) → slice_get es n ≡ Some e
entry_in test es n e None h is = absurd cc
entry_in test es n e (Some (m, x)) h is =
    let at : m ≡ h.place = (let k = h.number_is in omega arith) in
    let both : (m, x) ≡ (n, e) = cc in
    let number : m ≡ n = ap (λ (p : ℕ × Entry). p.0) both in
    let same : x ≡ e = ap (λ (p : ℕ × Entry). p.1) both in
    ap (λ (i : ℕ). slice_get es i) (sym number ∙ at) ∙ h.there ∙ ap (λ (o : Entry). Some o) same

-- ---- the variables of a class

abbrev AreNumberedFrom : ℕ → List Space → Type 0
AreNumberedFrom from spaces = (i : ℕ) (space : Space) → slice_get spaces i ≡ Some space → space.number ≡ i + from

class_counted : (from i : ℕ) (spaces : List Space) (space : Space) → AreNumberedFrom from spaces → slice_get spaces i ≡ Some space → space.source.is_class ≡ true → class_number spaces space ≡ suc (classes_before (take i spaces))
class_counted from i [] space numbered at class = let e : None ≡ Some space = at in absurd cc
class_counted from zero (x ∷ xs) space numbered at class =
    let same : x ≡ space = cc in
    let number : x.number ≡ space.number = ap (λ (o : Space). o.number) same in
    let is : is_same x space ≡ true = eq-eqb x.number space.number number in
    let own : x.source.is_class ≡ true = ap (λ (o : Space). o.source.is_class) same ∙ class in
    ap (λ (b : Bool). (if b then 1 else 0) + (if is_same x space then 0 else class_number xs space)) own ∙ ap (λ (b : Bool). 1 + (if b then 0 else class_number xs space)) is
class_counted from (suc i) (x ∷ xs) space numbered at class =
    let first : x.number ≡ 0 + from = numbered 0 x refl in
    let later : space.number ≡ suc i + from = numbered (suc i) space at in
    let other : is_same x space ≡ false = ne_eqb x.number space.number (λ e. omega (arith, first, later, e)) in
    let others : AreNumberedFrom (suc from) xs = (λ j o h. let e = numbered (suc j) o h in omega arith) in
    let rest : class_number xs space ≡ suc (classes_before (take i xs)) = class_counted (suc from) i xs space others at class in
    let n : ℕ = (if x.source.is_class then 1 else 0) in
    let m : ℕ = classes_before (take i xs) in
    let more : n + suc m ≡ suc (n + m) = omega arith in
    ap (λ (b : Bool). n + (if b then 0 else class_number xs space)) other ∙ ap (λ (k : ℕ). n + k) rest ∙ more

same_classes : (scope : ScopeHere) (spaces : List Space) → flat_map (λ (o : Space). class_of (home (whole_scope (scope_view scope).spaces) o)) spaces ≡ flat_map (λ (o : Space). class_of (home (scope_view scope) o)) spaces
same_classes scope [] = refl
same_classes scope (space ∷ spaces) = ap (λ (cs : List Class). (let one : List Class = class_of (home (scope_view scope) space) in one ++ cs)) (same_classes scope spaces)

-- the class with the number of a module's class is its table
pub table_found : (scope : ScopeHere) (declared : Declarations) (space : Space) (class : ℕ) (found : Class) → AreNumbered (scope_view scope).spaces
    → declarations_view declared ≡ declarations_of the_outside (whole_scope (scope_view scope).spaces) (scope_view scope).spaces → slice_get (scope_view scope).spaces space.number ≡ Some space
    → space.source.is_class ≡ true → class ≡ class_number (scope_view scope).spaces space → Some found ≡ class_numbered (declarations_view declared) class → found ≡ class_table (home (scope_view scope) space)
table_found scope declared space class found numbered is there own class_is found_is =
    let s : Scope = scope_view scope in
    let h : Scope = home s space in
    let n : ℕ = classes_before (take space.number s.spaces) in
    let count : class ≡ suc n = class_is ∙ class_counted 0 space.number s.spaces space (λ i o k. let z = numbered i o k in omega arith) there own in
    let all : map class_view declared.classes.items ≡ flat_map (λ (o : Space). class_of (home s o)) s.spaces = ap (λ (z : project.Declarations). z.classes) is ∙ same_classes scope s.spaces in
    let law : Some found ≡ Some (class_table h) =
    found_is ∙ ap (λ (m : ℕ). class_numbered (declarations_view declared) m) count ∙ ap (λ (l : List Class). slice_get l n) all
    ∙ class_there s s.spaces space.number n space there own refl in
    cc

-- the events of the class whose procedure runs
pub events_found : (scope : ScopeHere) (declared : Declarations) (class : ℕ) (found : Class) → AreNumbered (scope_view scope).spaces
    → declarations_view declared ≡ declarations_of the_outside (whole_scope (scope_view scope).spaces) (scope_view scope).spaces → slice_get (scope_view scope).spaces (scope_view scope).here.number ≡ Some (scope_view scope).here
    → (scope_view scope).here.source.is_class ≡ true → class ≡ class_number (scope_view scope).spaces (scope_view scope).here → Some found ≡ class_numbered (declarations_view declared) class
    → found.events ≡ declared_events (home (scope_view scope) (scope_view scope).here) (scope_view scope).here.entries
events_found scope declared class found numbered is there own class_is found_is =
    ap (λ (c : Class). c.events) (table_found scope declared (scope_view scope).here class found numbered is there own class_is found_is)

-- a variable of a class is the declaration with its number among those of the class
pub field_is : (scope : ScopeHere) (declared : Declarations) (space : Space) (number : ℕ) (e : Entry) (v : Variable) (class field : ℕ) (found : Class) (d : Declaration) (x : Shape) → AreNumbered (scope_view scope).spaces
    → declarations_view declared ≡ declarations_of the_outside (whole_scope (scope_view scope).spaces) (scope_view scope).spaces → slice_get (scope_view scope).spaces space.number ≡ Some space
    → slice_get space.entries number ≡ Some e → space.source.is_class ≡ true → e.what ≡ a_variable v → class ≡ class_number (scope_view scope).spaces space → field ≡ field_number space number
    → Some found ≡ class_numbered (declarations_view declared) class → Some d ≡ slice_get found.fields field → IsShape d.of (length d.bounds) x
    → IsShape (declared_variable (home (scope_view scope) space) v).of (length (declared_variable (home (scope_view scope) space) v).bounds) x
field_is scope declared space number e v class field found d x numbered is there at own what class_is number_is found_is d_is shape =
    let s : Scope = scope_view scope in
    let h : Scope = home s space in
    let table : found ≡ class_table h = table_found scope declared space class found numbered is there own class_is found_is in
    let fields : found.fields ≡ module_declarations h space.entries = ap (λ (c : Class). c.fields) table in
    let one : Some d ≡ Some (declared_variable h v) =
    d_is ∙ ap (λ (l : List Declaration). slice_get l field) fields ∙ ap (λ (m : ℕ). slice_get (module_declarations h space.entries) m) number_is ∙ variable_at h space.entries number (field_number space number) e v at what refl in
    let same : d ≡ declared_variable h v = cc in
    subst (λ (z : Declaration). IsShape z.of (length z.bounds) x) same shape

-- ---- a variable of an object that was pushed

variable_is : (env : Env) (base : bound.Expr) (space : Space) (number : ℕ) (name : Identifier) (public : Bool) (v : Variable) (field : ℕ) (made : Option ℕ) (x : Shape)
    → IsShape (declared_variable (home env.scope space) v).of (length (declared_variable (home env.scope space) v).bounds) x → field ≡ field_number space number → made ≡ made_by v.type_clause (declared_view x.of)
    → object_term env base space number (record { name = name; is_public = public; what = a_variable v }) ≡ made_place made (object_field base field (declared_view x.of) (not (x.bounds == 0))) (declared_view x.of) x.bounds false
variable_is env base space number name public v field made x shape number_is made_is =
    let d = declared_variable (home env.scope space) v in
    let n : ℕ = field_number space number in
    ap (λ (u : Declared). made_place (made_by v.type_clause u) (object_field base n u (has_bounds d)) u (length d.bounds) false) shape.of_is
    ∙ ap (λ (m : ℕ). made_place (made_by v.type_clause (declared_view x.of)) (object_field base n (declared_view x.of) (not (m == 0))) (declared_view x.of) m false) shape.bounds_are
    ∙ ap (λ (o : Option ℕ). made_place o (object_field base n (declared_view x.of) (not (x.bounds == 0))) (declared_view x.of) x.bounds false) (sym made_is)
    ∙ ap (λ (i : ℕ). made_place made (object_field base i (declared_view x.of) (not (x.bounds == 0))) (declared_view x.of) x.bounds false) (sym number_is)

pub variable_there : (env : Env) (space : Space) (number : ℕ) (name : Identifier) (public : Bool) (v : Variable) (field : ℕ) (x : Shape) (d : Drafted)
    → IsShape (declared_variable (home env.scope space) v).of (length (declared_variable (home env.scope space) v).bounds) x → field ≡ field_number space number → None ≡ made_by v.type_clause (declared_view x.of)
    → MakesEntryOf env space number (record { name = name; is_public = public; what = a_variable v }) d d (term.Place (kinds.ObjectField field x.of (not (x.bounds == 0))) x.of x.bounds false false)
variable_there env space number name public v field x d shape number_is made_is = record {
  grown = grown_same d;
  named = tt;
  stands = λ base below k. record {
    at = object_field base field (declared_view x.of) (not (x.bounds == 0));
    is = variable_is env base space number name public v field None x shape number_is made_is;
    ends = λ n. ap (λ (st : List Piece). of_value (λ (e : bound.Expr). a_place (object_field e field (declared_view x.of) (not (x.bounds == 0)))) st) k;
  };
}

pub variable_made : (env : Env) (space : Space) (number : ℕ) (name : Identifier) (public : Bool) (v : Variable) (field class : ℕ) (x : Shape) (place : Place) (d e : Drafted)
    → IsShape (declared_variable (home env.scope space) v).of (length (declared_variable (home env.scope space) v).bounds) x → field ≡ field_number space number → Some class ≡ made_by v.type_clause (declared_view x.of)
    → e ≡ record d { pieces = put d.tables (node_of (kinds.ObjectField field x.of (not (x.bounds == 0))) place x.of) d.pieces }
    → MakesEntryOf env space number (record { name = name; is_public = public; what = a_variable v }) d e (term.Place (kinds.AsNew class) x.of x.bounds false true)
variable_made env space number name public v field class x place d e shape number_is made_is eq =
    let node = node_of (kinds.ObjectField field x.of (not (x.bounds == 0))) place x.of in
    let P : Drafted → Type 0 = λ (z : Drafted). MakesEntryOf env space number (record { name = name; is_public = public; what = a_variable v }) d z (term.Place (kinds.AsNew class) x.of x.bounds false true) in
    subst P (sym eq) (record {
      grown = grown_pieces d (put d.tables node d.pieces);
      named = tt;
      stands = λ base below k. record {
        at = as_new class (object_field base field (declared_view x.of) (not (x.bounds == 0)));
        is = variable_is env base space number name public v field (Some class) x shape number_is made_is;
        ends = λ n. ap (λ (st : List Piece). put_kind d.tables n (kinds.AsNew class) (put d.tables node st)) k;
      };
    })

-- ---- a procedure of an object that was pushed

pub procedure_there : (env : Env) (of : DeclaredType) (space : Space) (number : ℕ) (name : Identifier) (public : Bool) (written : Written) (x : Term) (d : Drafted) → MakesRoutine env (receiver.Pushed of) space number written x
    → MakesEntryOf env space number (record { name = name; is_public = public; what = a_procedure written }) d d x
procedure_there env of space number name public written x d m = record {
  grown = grown_same d;
  named = m.named d.tables;
  stands = λ base below k. m.stands d.tables (Some base) d.pieces below tt k;
}

-- ---- behind a dot

pub member_of_entry : (env : Env) (dot : Place) (class : ℕ) (f : Identifier) (space : Space) (n : ℕ) (e : Entry) (d g : Drafted) (x : Term) → class_space env.scope.spaces class ≡ Some space → member_entry env.scope space f ≡ Some (n, e)
    → MakesEntryOf env space n e d g x → MakesMemberOf env dot class f d g x
member_of_entry env dot class f space n e d g x found entry m = record {
  grown = m.grown;
  named = m.named;
  stands = λ base below k.
      let In : Space → Option terms.Term = λ (o : Space). option_map (λ (h : ℕ × Entry). object_term env base o h.0 h.1) (member_entry env.scope o f) in
      let is : class_member env dot base class f ≡ object_term env base space n e =
      ap (λ (o : Option Space). unwrap_or (option_and_then In o) (unknown_member dot base)) found
      ∙ ap (λ (o : Option (ℕ × Entry)). unwrap_or (option_map (λ (h : ℕ × Entry). object_term env base space h.0 h.1) o) (unknown_member dot base)) entry in
      subst (λ (w : terms.Term). TermStands env g.tables x w g.pieces below) (sym is) (m.stands base below k);
}

-- the class has no such member
pub no_member : (env : Env) (dot : Place) (class : ℕ) (f : Identifier) (space : Space) (d : Drafted) → class_space env.scope.spaces class ≡ Some space → member_entry env.scope space f ≡ None → MakesMemberOf env dot class f d d (unknown_term dot)
no_member env dot class f space d found none = record {
  grown = grown_same d;
  named = tt;
  stands = λ base below k.
      let In : Space → Option terms.Term = λ (o : Space). option_map (λ (h : ℕ × Entry). object_term env base o h.0 h.1) (member_entry env.scope o f) in
      unknown_stands env d.tables dot base (class_member env dot base class f) d.pieces below
      (ap (λ (o : Option Space). unwrap_or (option_and_then In o) (unknown_member dot base)) found
      ∙ ap (λ (o : Option (ℕ × Entry)). unwrap_or (option_map (λ (h : ℕ × Entry). object_term env base space h.0 h.1) o) (unknown_member dot base)) none) k;
}

pub entry_found : (s : Scope) (space : Space) (f : Identifier) (n : ℕ) (e : Entry) → member_entry s space f ≡ Some (n, e) → slice_get space.entries n ≡ Some e
entry_found s space f n e is = entry_in _ space.entries n e (member_entry s space f) (first_found _ 0 space.entries) is
