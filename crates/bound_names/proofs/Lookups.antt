-- Properties of a module, by their names.
use Rattle.std.proofs.Common.{◌≡◌, ℕ, suc, ◌+◌, Bool, true, false, ◌&&◌, List, [], ◌∷◌, Option, Some, None, option_map, refl, sym, ap, subst, ◌∙◌, arith, if◌then◌else◌}
use Rattle.std.specs.Prelude.{option_and_then, slice_get}
use Rattle.vba_words.specs.declared.identifier.Identifier.{Identifier}
use Rattle.vba_tree.specs.declared.procedure.ProcedureWords.{ProcedureWords}
use Rattle.vba_tree.specs.Tree.{Parameter, Variable, Constant}
use Rattle.vba_expression.specs.Tree.{Expr}
use Rattle.bound_members.specs.bound_calls.specs.bound_declarations.specs.constant_values.specs.declared_names.specs.binder.specs.Declarations.{Written, What, a_variable, a_constant, an_enum, a_member, a_type, an_event, a_procedure, Entry, FieldWritten}
use Rattle.bound_members.specs.bound_calls.specs.bound_declarations.specs.constant_values.specs.declared_names.specs.binder.specs.Scopes.{Space, Scope, is_named, first_at}
use Rattle.bound_members.specs.bound_calls.specs.bound_declarations.specs.constant_values.specs.declared_names.specs.binder.specs.Signatures.{procedure_of}
use Rattle.bound_members.specs.bound_calls.specs.bound_declarations.specs.constant_values.specs.declared_names.specs.declared.entry.What.{What as EntryWhat}
use Rattle.bound_members.specs.bound_calls.specs.bound_declarations.specs.constant_values.specs.declared_names.specs.declared.entry.What.TheVariants as what
use Rattle.bound_members.specs.bound_calls.specs.bound_declarations.specs.constant_values.specs.declared_names.specs.declared.entry.Written.{Written as EntryWritten}
use Rattle.bound_members.specs.bound_calls.specs.bound_declarations.specs.constant_values.specs.declared_names.specs.View.{what_view}
use Rattle.bound_names.specs.Properties.{wants, first_wanted, property_with, IsEntry, test_of}
use Rattle.bound_members.specs.bound_calls.specs.bound_declarations.specs.constant_values.specs.declared_names.specs.binder.specs.Classes.{reaches}
use Rattle.bound_names.specs.declared.properties.Part.{Part}

abbrev entry_of : Identifier → Bool → What → Entry
entry_of name public what = record { name = name; is_public = public; what = what }

-- tests that agree on each entry find the same one
first_same : (F G : Entry → Bool) → ((e : Entry) → F e ≡ G e) → (n : ℕ) (es : List Entry) → first_at F n es ≡ first_at G n es
first_same F G h n [] = refl
first_same F G h n (e ∷ es) = ap (λ (b : Bool). if b then Some (n, e) else first_at F (suc n) es) (h e) ∙ ap (λ o. if G e then Some (n, e) else o) (first_same F G h (suc n) es)

first_each : (F G : Entry → Bool) → ((x : Identifier) (b : Bool) (v : Variable) → F (entry_of x b (a_variable v)) ≡ G (entry_of x b (a_variable v)))
    → ((x : Identifier) (b : Bool) (c : Constant) → F (entry_of x b (a_constant c)) ≡ G (entry_of x b (a_constant c))) → ((x : Identifier) (b : Bool) → F (entry_of x b an_enum) ≡ G (entry_of x b an_enum))
    → ((x : Identifier) (b : Bool) (v : Option Expr) (n : ℕ) → F (entry_of x b (a_member v n)) ≡ G (entry_of x b (a_member v n))) → ((x : Identifier) (b : Bool) (fs : List FieldWritten) → F (entry_of x b (a_type fs)) ≡ G (entry_of x b (a_type fs)))
    → ((x : Identifier) (b : Bool) (ps : List Parameter) → F (entry_of x b (an_event ps)) ≡ G (entry_of x b (an_event ps))) → ((x : Identifier) (b : Bool) (p : Written) → F (entry_of x b (a_procedure p)) ≡ G (entry_of x b (a_procedure p)))
    → (n : ℕ) (es : List Entry) → first_at F n es ≡ first_at G n es
first_each F G h1 h2 h3 h4 h5 h6 h7 n es = first_same F G (λ e. at e.name e.is_public e.what) n es
  where
    at : (x : Identifier) (b : Bool) (w : What) → F (entry_of x b w) ≡ G (entry_of x b w)
    at x b (a_variable v) = h1 x b v
    at x b (a_constant c) = h2 x b c
    at x b an_enum = h3 x b
    at x b (a_member v n) = h4 x b v n
    at x b (a_type fs) = h5 x b fs
    at x b (an_event ps) = h6 x b ps
    at x b (a_procedure p) = h7 x b p

abbrev pub with_entry : Option (ℕ × Entry) → Option (ℕ × Written)
with_entry o = option_and_then (λ f. option_map (λ p. (f.0, p)) (procedure_of f.1.what)) o

-- as the binder writes it
abbrev passing : (ProcedureWords → Bool) → What → Bool
passing test (a_procedure p) = test p.kind
passing test what = false

pub property_found : (p : Part) (s : Scope) (space : Space) (x : Identifier) → option_and_then (λ f. option_map (λ w. (f.0, w)) (procedure_of f.1.what)) (first_wanted p s space x) ≡ property_with p s space x
property_found p s space x =
    let F : Entry → Bool = λ (e : Entry). is_named x.name e.name && (reaches s space e && wants p e.what) in
    let G : Entry → Bool = λ (e : Entry). is_named x.name e.name && (reaches s space e && passing (test_of p) e.what) in
    ap with_entry (first_each F G (λ y b v. refl) (λ y b c. refl) (λ y b. refl) (λ y b v n. refl) (λ y b fs. refl) (λ y b ps. refl) (λ y b w. refl) 0 space.entries)

-- of the entry that was found
pub property_is : (p : Part) (s : Scope) (space : Space) (x : Identifier) (number : ℕ) (e : Entry) (w : Written) → first_wanted p s space x ≡ Some (number, e) → e.what ≡ a_procedure w → Some (number, w) ≡ property_with p s space x
property_is p s space x number e w h is =
    sym (ap (λ (k : What). option_map (λ (p : Written). (number, p)) (procedure_of k)) is) ∙ sym (ap with_entry h) ∙ property_found p s space x

-- what is no procedure
pub no_procedure : (k : EntryWhat) → ((w : EntryWritten) → (k ≡ what.Procedure w) → ⊥) → procedure_of (what_view k) ≡ None
no_procedure (what.Variable v) n = refl
no_procedure (what.Constant c) n = refl
no_procedure what.Enum n = refl
no_procedure (what.Member value steps) n = refl
no_procedure (what.Type parts) n = refl
no_procedure (what.Event e) n = refl
no_procedure (what.Procedure w) n = absurd (n w refl)

-- none of an entry that is no procedure
pub property_none : (p : Part) (s : Scope) (space : Space) (x : Identifier) (number : ℕ) (e : Entry) → first_wanted p s space x ≡ Some (number, e) → procedure_of e.what ≡ None → None ≡ property_with p s space x
property_none p s space x number e h k =
    sym (ap (λ (o : Option Written). option_map (λ (p : Written). (number, p)) o) k) ∙ sym (ap with_entry h) ∙ property_found p s space x

-- what was found stands at its number
abbrev FoundAt : {A : Type 0} → ℕ → List A → Option (ℕ × A) → Type 0
FoundAt from xs None = Unit {0}
FoundAt from xs (Some f) = (i : ℕ) × ((f.0 ≡ i + from) × (slice_get xs i ≡ Some f.1))

found_at : {A : Type 0} (test : A → Bool) (from : ℕ) (xs : List A) → FoundAt from xs (first_at test from xs)
found_at test from [] = tt
found_at {A} test from (x ∷ xs) = at (test x) (first_at test (suc from) xs) (found_at test (suc from) xs)
  where
    at : (b : Bool) (r : Option (ℕ × A)) → FoundAt (suc from) xs r → FoundAt from (x ∷ xs) (if b then Some (from, x) else r)
    at true r h = (0, (omega arith, refl))
    at false None h = tt
    at false (Some f) h = (suc h.0, (omega (arith, h.1.0), h.1.1))

pub entry_found : (p : Part) (s : Scope) (space : Space) (x : Identifier) (number : ℕ) (e : Entry) (w : Written) → first_wanted p s space x ≡ Some (number, e) → e.what ≡ a_procedure w → IsEntry space number w
entry_found p s space x number e w h k =
    let A : Option (ℕ × Entry) → Type 0 = λ o. FoundAt 0 space.entries o in
    let f = subst A h (found_at (λ (e : Entry). is_named x.name e.name && (reaches s space e && wants p e.what)) 0 space.entries) in
    let same : f.0 ≡ number = omega (arith, f.1.0) in
    record { entry = e; at = subst (λ (n : ℕ). slice_get space.entries n ≡ Some e) same f.1.1; what = k }
