-- Tables that are made one of the other hold the values through one constant more each.
use Rattle.std.proofs.Common.{◌≡◌, ℕ, zero, suc, ◌+◌, ◌-◌, ◌≤◌, List, [], ◌∷◌, map, length, Option, Some, None, refl, sym, ap, ◌∙◌, subst, arith}
use Rattle.std.specs.Prelude.{option_map, option_and_then, slice_get}
use Rattle.std.proofs.lemmas.Option.{slice_get-map}
use Rattle.vba_words.specs.declared.identifier.Identifier.{Identifier}
use Rattle.vba_expression.specs.Tree.{Expr, literal, me, name, with_member, member, index, parenthesised, new, type_of, unary, binary}
use Rattle.declared_names.specs.binder.specs.Declarations.{Entry, Local}
use Rattle.declared_names.specs.binder.specs.Scopes.{Outside, Space, Scope, plainly, Meant, of_procedure, of_module, a_module, the_library, of_host, of_library, declares, behind, Qualifier, qualifier_of}
use Rattle.declared_names.specs.binder.specs.Names.{scope_of}
use Rattle.declared_names.specs.binder.specs.Constants.{Known, entry_by, own_by, meant_by, named_within, value_by, known_value, names_in}
use Rattle.constant_values.specs.Names.{Names, nothing, values, slot_at, entry_at, value_of, names_from, space_by, entries_by, locals_by}
use Rattle.constant_values.specs.Rounds.{AreNumbered, IsPlaced, IsThere, space_round, entries_round, locals_round, longest}
use Rattle.constant_values.proofs.Looked.{declared_there, member_there_in, placed_at}
use Rattle.constant_values.proofs.Same.{SameNames, entry_same, own_same, map_same}

-- ---- one name

slot_there : {A : Type 0} (f : A → Option Known) (xs : List A) (number : ℕ) (x : A) → slice_get xs number ≡ Some x → slot_at number (map f xs) ≡ f x
slot_there f xs number x h = rw (slice_get-map f xs number, h) refl

entry_value_there : (f : Space → List (Option Known)) (spaces : List Space) (m n : ℕ) (space : Space) → slice_get spaces m ≡ Some space
    → entry_at (map f spaces) m n ≡ slot_at n (f space)
entry_value_there f spaces m n space h = rw (slice_get-map f spaces m, h) refl

-- what is known of names through so many constants
abbrev pub through : ℕ → Scope → Names
through k s = values (entries_round k s.outside s.spaces) (locals_round k s)

meant_same : (k : ℕ) (s : Scope) (x : Identifier) (m : Option Meant) → IsThere s m → value_of (through k s) s x m ≡ meant_by (named_within k) s x m
meant_same k s x None h = refl
meant_same k s x (Some (of_procedure number l)) h = slot_there (λ (l : Local). own_by (named_within k) s l.own) s.locals number l h
meant_same k s x (Some (of_module space number e)) h =
    entry_value_there (space_round k s.outside s.spaces) s.spaces space.number number space h.0
    ∙ slot_there (λ (e : Entry). entry_by (named_within k) (scope_of s.outside s.spaces space) e.what) space.entries number e h.1
meant_same k s x (Some (a_module space)) h = refl
meant_same k s x (Some the_library) h = refl
meant_same k s x (Some of_host) h = refl
meant_same k s x (Some of_library) h = refl

names_same : (k : ℕ) (s : Scope) → IsPlaced s → (e : Expr) → names_from (through k s) s e ≡ named_within (suc k) s e
names_same k s placed (literal l) = refl
names_same k s placed (me token) = refl
names_same k s placed (name x) = meant_same k s x (declares plainly s x) (declared_there plainly s x placed)
names_same k s placed (with_member dot x) = refl
names_same k s placed (member base dot x) =
    meant_same k s x (option_and_then (λ (q : Qualifier). behind plainly s q x) (qualifier_of s base)) (member_there_in s base x placed)
names_same k s placed (index base left args right) = refl
names_same k s placed (parenthesised left e right) = refl
names_same k s placed (new word t) = refl
names_same k s placed (type_of word e is_word t) = refl
names_same k s placed (unary o token e) = refl
names_same k s placed (binary l o token r) = refl

pub same_through : (k : ℕ) (s : Scope) → IsPlaced s → SameNames (names_from (through k s)) (named_within (suc k)) s
same_through k s placed = record { same = names_same k s placed }

none_same : (s : Scope) (e : Expr) → names_from nothing s e ≡ named_within zero s e
none_same s (literal l) = refl
none_same s (me token) = refl
none_same s (name x) = refl
none_same s (with_member dot x) = refl
none_same s (member base dot x) = refl
none_same s (index base left args right) = refl
none_same s (parenthesised left e right) = refl
none_same s (new word t) = refl
none_same s (type_of word e is_word t) = refl
none_same s (unary o token e) = refl
none_same s (binary l o token r) = refl

same_none : (s : Scope) → SameNames (names_from nothing) (named_within zero) s
same_none s = record { same = none_same s }

-- ---- rounds of the entries

pub entries_first : (o : Outside) (spaces : List Space) → entries_by nothing o spaces ≡ entries_round zero o spaces
entries_first o spaces =
    map_same (space_by nothing o spaces) (space_round zero o spaces) spaces
    (λ i space h. map_same (λ (e : Entry). entry_by (names_from nothing) (scope_of o spaces space) e.what)
    (λ (e : Entry). entry_by (named_within zero) (scope_of o spaces space) e.what) space.entries
    (λ j e g. entry_same (names_from nothing) (named_within zero) (scope_of o spaces space) (same_none (scope_of o spaces space)) e.what))

home_placed : (o : Outside) (spaces : List Space) (i : ℕ) (space : Space) → AreNumbered spaces → slice_get spaces i ≡ Some space
    → IsPlaced (scope_of o spaces space)
home_placed o spaces i space numbered h = record { numbered = numbered; here = placed_at spaces i space numbered h }

pub entries_next : (k : ℕ) (o : Outside) (spaces : List Space) → AreNumbered spaces
    → entries_by (values (entries_round k o spaces) []) o spaces ≡ entries_round (suc k) o spaces
entries_next k o spaces numbered =
    map_same (space_by (values (entries_round k o spaces) []) o spaces) (space_round (suc k) o spaces) spaces
    (λ i space h. map_same (λ (e : Entry). entry_by (names_from (values (entries_round k o spaces) [])) (scope_of o spaces space) e.what)
    (λ (e : Entry). entry_by (named_within (suc k)) (scope_of o spaces space) e.what) space.entries
    (λ j e g. entry_same (names_from (values (entries_round k o spaces) [])) (named_within (suc k)) (scope_of o spaces space)
    (same_through k (scope_of o spaces space) (home_placed o spaces i space numbered h)) e.what))

-- ---- rounds of the names of a procedure

pub locals_first : (s : Scope) → locals_by nothing s ≡ locals_round zero s
locals_first s =
    map_same (λ (l : Local). own_by (names_from nothing) s l.own) (λ (l : Local). own_by (named_within zero) s l.own) s.locals
    (λ i l h. own_same (names_from nothing) (named_within zero) s (same_none s) l.own)

pub locals_next : (k : ℕ) (s : Scope) → IsPlaced s → locals_by (through k s) s ≡ locals_round (suc k) s
locals_next k s placed =
    map_same (λ (l : Local). own_by (names_from (through k s)) s l.own) (λ (l : Local). own_by (named_within (suc k)) s l.own) s.locals
    (λ i l h. own_same (names_from (through k s)) (named_within (suc k)) s (same_through k s placed) l.own)

-- ---- rest

rested_for : (o : Outside) (spaces : List Space) → AreNumbered spaces → (k d : ℕ) → entries_round (suc k) o spaces ≡ entries_round k o spaces
    → entries_round (d + k) o spaces ≡ entries_round k o spaces
rested_for o spaces numbered k zero h = let e : zero + k ≡ k = omega arith in ap (λ (n : ℕ). entries_round n o spaces) e
rested_for o spaces numbered k (suc d) h =
    let e : suc d + k ≡ suc (d + k) = omega arith in
    ap (λ (n : ℕ). entries_round n o spaces) e
    ∙ (sym (entries_next (d + k) o spaces numbered)
    ∙ (ap (λ (t : List (List (Option Known))). entries_by (values t []) o spaces) (rested_for o spaces numbered k d h)
    ∙ (entries_next k o spaces numbered ∙ h)))

-- where a round changes nothing, none behind it does
pub entries_rest : (o : Outside) (spaces : List Space) → AreNumbered spaces → (k j : ℕ) → entries_round (suc k) o spaces ≡ entries_round k o spaces → k ≤ j
    → entries_round j o spaces ≡ entries_round k o spaces
entries_rest o spaces numbered k j h le =
    let e : j ≡ (j - k) + k = omega arith in
    ap (λ (n : ℕ). entries_round n o spaces) e ∙ rested_for o spaces numbered k (j - k) h
