-- Brackets behind properties without parameters, which are brackets behind what these give.
use Rattle.std.specs.Prelude.{MatchBool}
use Rattle.std.proofs.Common.{◌≡◌, ℕ, suc, ◌==◌, Bool, true, false, ◌&&◌, List, [], ◌∷◌, map, length, Option, Some, None, if◌then◌else◌, refl, sym, ap, ◌∙◌}
use Rattle.vba_base.specs.declared.place.Place.{Place}
use Rattle.vba_words.specs.declared.identifier.Identifier.{Identifier}
use Rattle.vba_tree.specs.Tree.{Parameter}
use Rattle.bound_project.specs.View.{parameter_view}
use Rattle.bound_project.specs.Expressions as bound
use Rattle.bound_project.specs.Pieces.{Piece, Tables}
use Rattle.bound_project.specs.Drafts.{Drafted}
use Rattle.declared_names.specs.binder.specs.Constants.{home}
use Rattle.declared_names.specs.binder.specs.Declarations.{Written, What, a_variable, a_constant, an_enum, a_member, a_type, an_event, a_procedure, Entry}
use Rattle.declared_names.specs.binder.specs.Names.{scope_in}
use Rattle.declared_names.specs.binder.specs.Scopes.{Space, Scope, first_at, is_named}
use Rattle.declared_names.specs.binder.specs.Storage.{bound_parameter, bound_parameters, takes_value}
use Rattle.bound_accesses.specs.bound_names.specs.bound_members.specs.bound_calls.specs.bound_forms.specs.Terms.{Env, Given, a_routine, a_method, routine_term}
use Rattle.bound_accesses.specs.bound_names.specs.bound_members.specs.bound_calls.specs.bound_forms.specs.Terms as terms
use Rattle.bound_accesses.specs.bound_names.specs.bound_members.specs.bound_calls.specs.bound_forms.specs.Operands.{bare_call, place_told}
use Rattle.bound_accesses.specs.bound_names.specs.bound_members.specs.bound_calls.specs.bound_forms.specs.Members.{item_of}
use Rattle.bound_accesses.specs.bound_names.specs.bound_members.specs.bound_calls.specs.bound_forms.specs.ExpressionsBound.{callee, indexes_value, term_of}
use Rattle.bound_accesses.specs.bound_names.specs.bound_members.specs.bound_calls.specs.bound_forms.specs.Targets.{value_before}
use Rattle.declared_names.specs.binder.specs.Signatures.{is_get, is_property, parameters_in, procedure_with, reader}
use Rattle.declared_names.specs.View.{written_view}
use Rattle.bound_accesses.specs.bound_names.specs.bound_members.specs.bound_calls.specs.declared.term.Ending.{Ending}
use Rattle.bound_accesses.specs.bound_names.specs.bound_members.specs.bound_calls.specs.declared.term.Item.{Item}
use Rattle.bound_accesses.specs.bound_names.specs.bound_members.specs.bound_calls.specs.declared.term.Routine.{Routine}
use Rattle.bound_accesses.specs.bound_names.specs.bound_members.specs.bound_calls.specs.declared.term.Term.TheVariants as term
use Rattle.bound_accesses.specs.bound_names.specs.bound_members.specs.bound_calls.specs.declared.term.Tree.{Tree}
use Rattle.bound_accesses.specs.bound_names.specs.bound_members.specs.bound_calls.specs.Indexing.{OpensTerm}
use Rattle.bound_accesses.specs.bound_names.specs.bound_members.specs.bound_calls.specs.Standing.{RoutineStands, TermStands}
use Rattle.bound_accesses.specs.bound_names.specs.bound_members.specs.bound_calls.specs.Taking.{CallsRoutine}
use Rattle.bound_accesses.specs.bound_names.specs.bound_members.specs.bound_calls.proofs.Growing.{grown_twice}
use Rattle.bound_operands.specs.Indexing.{IsBefore, OpensBehind}
use Rattle.bound_terms.specs.Indexing.{IndexesValue, NotIndexed}
use Rattle.bound_accesses.specs.bound_names.specs.Properties.{first_wanted, wants}
use Rattle.bound_accesses.specs.bound_names.proofs.Lookups.{property_found, with_entry}
use Rattle.declared_names.specs.binder.specs.Classes.{reaches}
use Rattle.bound_accesses.specs.bound_names.specs.declared.properties.Part.TheVariants as part

-- ---- the Get of a property

-- what was found passes
abbrev Passes : {A : Type 0} → (A → Bool) → Option (ℕ × A) → Type 0
Passes test None = Unit {0}
Passes test (Some f) = test f.1 ≡ true

passes : {A : Type 0} (test : A → Bool) (from : ℕ) (xs : List A) → Passes test (first_at test from xs)
passes test from [] = tt
passes {A} test from (x ∷ xs) = at (test x) refl (first_at test (suc from) xs) (passes test (suc from) xs)
  where
    at : (b : Bool) → test x ≡ b → (r : Option (ℕ × A)) → Passes test r → Passes test (if b then Some (from, x) else r)
    at true is r h = is
    at false is r h = h

last_holds : (a b c : Bool) → (a && (b && c)) ≡ true → c ≡ true
last_holds true true c h = h
last_holds true false c h = let e : false ≡ true = h in absurd cc
last_holds false b c h = let e : false ≡ true = h in absurd cc

wanted_get : (w : What) (n : ℕ) (x : Identifier) (public : Bool) (read : ℕ × Written) → wants part.Get w ≡ true → with_entry (Some (n, record { name = x; is_public = public; what = w })) ≡ Some read → is_get read.1.kind ≡ true
wanted_get (a_procedure p) n x public read h found =
    let e : Some (n, p) ≡ Some read = found in
    let same : (n, p) ≡ read = cc in
    ap (λ (f : ℕ × Written). is_get f.1.kind) (sym same) ∙ h
wanted_get (a_variable v) n x public read h found = let e : false ≡ true = h in absurd cc
wanted_get (a_constant c) n x public read h found = let e : false ≡ true = h in absurd cc
wanted_get an_enum n x public read h found = let e : false ≡ true = h in absurd cc
wanted_get (a_member value steps) n x public read h found = let e : false ≡ true = h in absurd cc
wanted_get (a_type fields) n x public read h found = let e : false ≡ true = h in absurd cc
wanted_get (an_event ps) n x public read h found = let e : false ≡ true = h in absurd cc

found_get : (s : Scope) (space : Space) (x : Identifier) (read : ℕ × Written) → procedure_with s is_get space x ≡ Some read → is_get read.1.kind ≡ true
found_get s space x read h =
    let test : Entry → Bool = λ (e : Entry). is_named x.name e.name && (reaches s space e && wants part.Get e.what) in
    at (first_wanted part.Get s space x) (passes test 0 space.entries) (property_found part.Get s space x ∙ h)
  where
    at : (o : Option (ℕ × Entry)) → Passes (λ (e : Entry). is_named x.name e.name && (reaches s space e && wants part.Get e.what)) o → with_entry o ≡ Some read → is_get read.1.kind ≡ true
    at None p h = let e : None ≡ Some read = h in absurd cc
    at (Some f) p h = wanted_get f.1.what f.0 f.1.name f.1.is_public read (last_holds (is_named x.name f.1.name) (reaches s space f.1) (wants part.Get f.1.what) p) h

-- what is read of a property is a Get
pub read_get : (s : Scope) (space : Space) (number : ℕ) (w : Written) (read : ℕ × Written) → is_property w.kind ≡ true → reader s space number w ≡ Some read → is_get read.1.kind ≡ true
read_get s space number w read property reads =
    found_get s space w.name read (sym (ap (λ (b : Bool). if b then procedure_with s is_get space w.name else Some (number, w)) property) ∙ reads)

-- without parameters none are written
pub none_written : (s : Scope) (takes : Bool) (ps : List Parameter) → bound_parameters s takes ps ≡ [] → (length ps == 0) ≡ true
none_written s takes [] h = refl
none_written s takes (p ∷ []) h = let e : bound_parameter s takes p ∷ [] ≡ [] = h in absurd cc
none_written s takes (p ∷ q ∷ ps) h = let e : bound_parameter s false p ∷ bound_parameters s takes (q ∷ ps) ≡ [] = h in absurd cc

-- ---- what brackets stand behind

-- a property without parameters before brackets is what it gives
pub property_before : (env : Env) (place : Place) (base : Option bound.Expr) (space : Space) (number : ℕ) (w : Written) (read : ℕ × Written) (g : Given) (gs : List Given) → reader env.scope space number w ≡ Some read → is_get read.1.kind ≡ true
    → parameters_in env.scope space read.1 ≡ [] → value_before env place (g ∷ gs) (routine_term base space number w) ≡ item_of env place (bare_call env base space number w)
property_before env place None space number w read g gs reads get none =
    let zero : (length read.1.parameters == 0) ≡ true = none_written (scope_in (home env.scope space) read.1) (takes_value read.1.kind) read.1.parameters none in
    let indexes : indexes_value read.1 (g ∷ gs) ≡ true = ap (λ (b : Bool). b && length read.1.parameters == 0) get ∙ zero in rw (reads, indexes) refl
property_before env place (Some b) space number w read g gs reads get none =
    let zero : (length read.1.parameters == 0) ≡ true = none_written (scope_in (home env.scope space) read.1) (takes_value read.1.kind) read.1.parameters none in
    let indexes : indexes_value read.1 (g ∷ gs) ≡ true = ap (λ (c : Bool). c && length read.1.parameters == 0) get ∙ zero in rw (reads, indexes) refl

-- ---- arguments begin

pub indexes : (r : Routine) (b : Bool) → b ≡ is_property (written_view r.written).kind → r.parameters.now ≡ [] → MatchBool b (IndexesValue r) (NotIndexed r)
indexes r true is none = record { property = sym is; none = none }
indexes r false is none = λ v. let e : false ≡ true = is ∙ v.property in absurd cc

-- a procedure is one term, so what it is called of is one, too
same_routine : (one other : Option bound.Expr) (s t : Space) (m n : ℕ) (v w : Written) → routine_term one s m v ≡ routine_term other t n w → (env : Env) → bare_call env one s m v ≡ bare_call env other t n w
same_routine None None s t m n v w h env =
    let e : a_routine s m v ≡ a_routine t n w = h in
    let space_is : s ≡ t = cc in
    let number_is : m ≡ n = cc in
    let written_is : v ≡ w = cc in
    ap (λ (x : Space). bare_call env None x m v) space_is ∙ ap (λ (k : ℕ). bare_call env None t k v) number_is ∙ ap (λ (x : Written). bare_call env None t n x) written_is
same_routine None (Some b) s t m n v w h env = let e : a_routine s m v ≡ a_method b t n w = h in absurd cc
same_routine (Some a) None s t m n v w h env = let e : a_method a s m v ≡ a_routine t n w = h in absurd cc
same_routine (Some a) (Some b) s t m n v w h env =
    let e : a_method a s m v ≡ a_method b t n w = h in
    let base_is : a ≡ b = cc in
    let space_is : s ≡ t = cc in
    let number_is : m ≡ n = cc in
    let written_is : v ≡ w = cc in
    ap (λ (x : bound.Expr). bare_call env (Some x) s m v) base_is ∙ ap (λ (x : Space). bare_call env (Some b) x m v) space_is ∙ ap (λ (k : ℕ). bare_call env (Some b) t k v) number_is
    ∙ ap (λ (x : Written). bare_call env (Some b) t n x) written_is

-- what a property gives
pub record GivesValue (env : Env) (place : Place) (z : terms.Term) (t : Tables) (v : Ending) (ps below : List Piece) : Type 0 where
  pub given : terms.Term
  pub behind : IsBefore true env place z given
  pub stands : TermStands env t (term.Value v) given ps below

pub gives_value : (env : Env) (place : Place) (z : terms.Term) (r : Routine) (v : Ending) (d m : Drafted) (below : List Piece) → IndexesValue r → CallsRoutine r d m v → RoutineStands env r z d.pieces below → GivesValue env place z m.tables v m.pieces below
gives_value env place z r v d m below i c h =
    let u = h.routine in
    let b = c.stands env z below h in
    let same : routine_term u.base u.space u.number u.written ≡ routine_term b.base b.space b.number b.written = sym u.is ∙ b.is in
    let property : is_property u.written.kind ≡ true = ap (λ (w : Written). is_property w.kind) u.written_is ∙ i.property in
    let get = read_get env.scope u.space u.number u.written u.read property u.reads in
    let none = sym u.parameters_are ∙ ap (λ l. map parameter_view l) i.none in
    record {
      given = bare_call env b.base b.space b.number b.written;
      behind = λ g gs. ap (λ (t : terms.Term). value_before env place (g ∷ gs) t) u.is ∙ property_before env place u.base u.space u.number u.written u.read g gs u.reads get none
          ∙ ap (λ (t : terms.Term). item_of env place t) (same_routine u.base b.base u.space b.space u.number b.number u.written b.written same env);
      stands = b.called;
    }

pub opens_property : (env : Env) (x : Tree) (r : Routine) (v : Ending) (d m e : Drafted) (i : Item) → IndexesValue r → CallsRoutine r d m v → OpensBehind true env x (term.Value v) m e i → OpensTerm env x (term.Routine r) d e i
opens_property env x r v d m e i n c o = record {
  grown = grown_twice d m e c.grown o.grown;
  named = o.named;
  stands = λ tree others is below base at h s.
      let g = gives_value env (place_told tree) (callee env tree (term_of env tree)) r v d m below n c h in o.stands tree others is below base g.given at g.behind g.stands s;
}
