-- What a name means stands where its numbers say.
use Rattle.std.proofs.Common.{◌≡◌, ℕ, zero, suc, ◌+◌, Bool, true, false, ◌&&◌, not, List, [], ◌∷◌, Option, Some, None, refl, subst, arith}
use Rattle.std.specs.Prelude.{option_map, option_and_then, slice_get, if◌then◌else◌, drop}
use Rattle.vba_words.specs.declared.identifier.Identifier.{Identifier}
use Rattle.vba_expression.specs.Tree.{Expr, literal, me, name, with_member, member, index, parenthesised, new, type_of, unary, binary}
use Rattle.declared_names.specs.binder.specs.Options.{or_else}
use Rattle.declared_names.specs.binder.specs.Sources.{Source}
use Rattle.declared_names.specs.binder.specs.Declarations.{What, a_variable, a_constant, an_enum, a_member, a_type, an_event, a_procedure, Entry, Local}
use Rattle.declared_names.specs.binder.specs.Scopes.{Space, Scope, spaces_from, Use, plainly, called, before_dot, Meant, of_procedure, of_module, a_module, the_library, of_host, of_library, first_at, is_named, is_member, member_among, counts, counts_here, is_seen, seen_from, has_dollar, is_library_word, entry_of, module_named, in_modules, module_before_dot, in_project, in_outside, declares, Qualifier, module_qualifier, enum_qualifier, library_qualifier, behind, as_qualifier, enum_behind, qualifier_of}
use Rattle.constant_values.specs.Rounds.{AreNumbered, IsPlaced, IsThere, IsPlace}

-- ---- lists

-- what was found stands at its number in a list
abbrev FoundIn : {A : Type 0} → ℕ → List A → Option (ℕ × A) → Type 0
FoundIn from xs None = Unit {0}
FoundIn from xs (Some f) = (i : ℕ) × (f.0 ≡ i + from) × (slice_get xs i ≡ Some f.1)

found_later : {A : Type 0} (from : ℕ) (x : A) (xs : List A) (r : Option (ℕ × A)) → FoundIn (suc from) xs r → FoundIn from (x ∷ xs) r
found_later from x xs None h = tt
found_later from x xs (Some f) h = (suc h.0, omega arith, h.2)

first_found : {A : Type 0} (test : A → Bool) (from : ℕ) (xs : List A) → FoundIn from xs (first_at test from xs)
first_found test from [] = tt
first_found {A} test from (x ∷ xs) = at (test x) (first_found test (suc from) xs)
  where
    at : (b : Bool) → FoundIn (suc from) xs (first_at test (suc from) xs) → FoundIn from (x ∷ xs) (if b then Some (from, x) else first_at test (suc from) xs)
    at true h = (0, omega arith, refl)
    at false h = found_later from x xs (first_at test (suc from) xs) h

member_found : (from : ℕ) (es : List Entry) (x : Identifier) → FoundIn from es (member_among from es x)
member_found from [] x = tt
member_found from (e ∷ es) x = at (not (is_member e.what)) (is_named x.name e.name) (member_found (suc from) es x)
  where
    at : (a b : Bool) → FoundIn (suc from) es (member_among (suc from) es x)
        → FoundIn from (e ∷ es) (if a then None else if b then Some (from, e) else member_among (suc from) es x)
    at true b h = tt
    at false true h = (0, omega arith, refl)
    at false false h = found_later from e es (member_among (suc from) es x) h

get_behind : {A : Type 0} (n : ℕ) (xs : List A) (i : ℕ) (x : A) → slice_get (drop n xs) i ≡ Some x → slice_get xs (i + n) ≡ Some x
get_behind zero xs i x h = let e : i ≡ i + zero = omega arith in subst (λ (j : ℕ). slice_get xs j ≡ Some x) e h
get_behind (suc n) [] i x h = absurd cc
get_behind (suc n) (y ∷ xs) i x h =
    let e : suc (i + n) ≡ i + suc n = omega arith in subst (λ (j : ℕ). slice_get (y ∷ xs) j ≡ Some x) e (get_behind n xs i x h)

-- ---- modules by their numbers

pub placed_at : (spaces : List Space) (i : ℕ) (space : Space) → AreNumbered spaces → slice_get spaces i ≡ Some space
    → slice_get spaces space.number ≡ Some space
placed_at spaces i space numbered h =
    let e : space.number ≡ i = numbered i space h in
    let e' : i ≡ space.number = cc in subst (λ (j : ℕ). slice_get spaces j ≡ Some space) e' h

numbered_from : (from : ℕ) (sources : List Source) (i : ℕ) (space : Space) → slice_get (spaces_from from sources) i ≡ Some space → space.number ≡ i + from
numbered_from from [] i space h = absurd cc
numbered_from from (s ∷ ss) zero space h = let e : from ≡ space.number = cc in omega arith
numbered_from from (s ∷ ss) (suc i) space h = let e = numbered_from (suc from) ss i space h in omega arith

pub spaces_from_numbered : (sources : List Source) → AreNumbered (spaces_from 0 sources)
spaces_from_numbered sources i space h = let e = numbered_from 0 sources i space h in omega arith

-- ---- what names mean

local_there : (s : Scope) (r : Option (ℕ × Local)) → FoundIn 0 s.locals r → IsThere s (option_map (λ (f : ℕ × Local). of_procedure f.0 f.1) r)
local_there s None h = tt
local_there s (Some f) h = let e : h.0 ≡ f.0 = omega arith in subst (λ (n : ℕ). slice_get s.locals n ≡ Some f.1) e h.2

entry_there : (s : Scope) (space : Space) → slice_get s.spaces space.number ≡ Some space → (r : Option (ℕ × Entry)) → FoundIn 0 space.entries r
    → IsThere s (option_map (λ (f : ℕ × Entry). of_module space f.0 f.1) r)
entry_there s space placed None h = tt
entry_there s space placed (Some f) h = let e : h.0 ≡ f.0 = omega arith in (placed, subst (λ (n : ℕ). slice_get space.entries n ≡ Some f.1) e h.2)

entry_of_there : (s : Scope) (test : Entry → Bool) (space : Space) (x : Identifier) → slice_get s.spaces space.number ≡ Some space
    → IsThere s (entry_of test space x)
entry_of_there s test space x placed =
    entry_there s space placed (first_at (λ (e : Entry). is_named x.name e.name && test e) 0 space.entries)
    (first_found (λ (e : Entry). is_named x.name e.name && test e) 0 space.entries)

or_there : (s : Scope) (m n : Option Meant) → IsThere s m → IsThere s n → IsThere s (or_else m n)
or_there s None n h k = k
or_there s (Some x) n h k = h

-- each of the modules stands at its number
abbrev ArePlaced : Scope → List Space → Type 0
ArePlaced s spaces = (i : ℕ) (space : Space) → slice_get spaces i ≡ Some space → slice_get s.spaces space.number ≡ Some space

in_modules_there : (s : Scope) (test : Entry → Bool) (spaces : List Space) (x : Identifier) → ArePlaced s spaces → IsThere s (in_modules test spaces x)
in_modules_there s test [] x placed = tt
in_modules_there s test (space ∷ spaces) x placed =
    or_there s (entry_of (λ (e : Entry). is_seen space e && test e) space x) (in_modules test spaces x)
    (entry_of_there s (λ (e : Entry). is_seen space e && test e) space x (placed 0 space refl))
    (in_modules_there s test spaces x (λ i other h. placed (suc i) other h))

module_named_there : (s : Scope) (spaces : List Space) (x : Identifier) → ArePlaced s spaces → IsThere s (module_named spaces x)
module_named_there s [] x placed = tt
module_named_there s (space ∷ spaces) x placed =
    at (is_named space.name.fold x) (module_named_there s spaces x (λ i other h. placed (suc i) other h))
  where
    at : (b : Bool) → IsThere s (module_named spaces x) → IsThere s (if b then Some (a_module space) else module_named spaces x)
    at true h = placed 0 space refl
    at false h = h

before_dot_there : (how : Use) (s : Scope) (x : Identifier) → ArePlaced s s.spaces → IsThere s (module_before_dot how s.spaces x)
before_dot_there plainly s x placed = tt
before_dot_there called s x placed = tt
before_dot_there before_dot s x placed = module_named_there s s.spaces x placed

outside_there : (s : Scope) (a b c : Bool) → IsThere s (if a then Some of_host else if b then Some of_library else if c then Some the_library else None)
outside_there s true b c = tt
outside_there s false true c = tt
outside_there s false false true = tt
outside_there s false false false = tt

pub declared_there : (how : Use) (s : Scope) (x : Identifier) → IsPlaced s → IsThere s (declares how s x)
declared_there how s x placed =
    let all : ArePlaced s s.spaces = (λ i space h. placed_at s.spaces i space placed.numbered h) in
    or_there s _ _ (local_there s (first_at (λ (l : Local). is_named x.name l.name && counts_here how l.own) 0 s.locals)
    (first_found (λ (l : Local). is_named x.name l.name && counts_here how l.own) 0 s.locals))
    (or_there s _ _ (entry_of_there s (λ (e : Entry). counts how e.what) s.here x placed.here)
    (or_there s _ _ (or_there s _ _ (before_dot_there how s x all) (in_modules_there s (λ (e : Entry). counts how e.what) s.spaces x all))
    (outside_there s (s.outside.is_host x.name) (s.outside.is_library x.name (has_dollar x)) (is_library_word how x))))

-- ---- names behind a dot

enum_place : (s : Scope) (space : Space) (number : ℕ) (x : Identifier) (public : Bool) (w : What) → slice_get s.spaces space.number ≡ Some space
    → IsPlace s (as_qualifier (Some (of_module space number (record { name = x; is_public = public; what = w }))))
enum_place s space number x public (a_variable v) h = tt
enum_place s space number x public (a_constant c) h = tt
enum_place s space number x public an_enum h = h
enum_place s space number x public (a_member value steps) h = tt
enum_place s space number x public (a_type fields) h = tt
enum_place s space number x public (an_event ps) h = tt
enum_place s space number x public (a_procedure p) h = tt

pub qualifier_place : (s : Scope) (m : Option Meant) → IsThere s m → IsPlace s (as_qualifier m)
qualifier_place s None h = tt
qualifier_place s (Some (of_procedure number l)) h = tt
qualifier_place s (Some (of_module space number e)) h = enum_place s space number e.name e.is_public e.what h.0
qualifier_place s (Some (a_module space)) h = h
qualifier_place s (Some the_library) h = tt
qualifier_place s (Some of_host) h = tt
qualifier_place s (Some of_library) h = tt

member_there : (s : Scope) (space : Space) (number : ℕ) → slice_get s.spaces space.number ≡ Some space → (r : Option (ℕ × Entry))
    → FoundIn (suc number) (drop (suc number) space.entries) r → IsThere s (option_map (λ (f : ℕ × Entry). of_module space f.0 f.1) r)
member_there s space number placed None h = tt
member_there s space number placed (Some f) h =
    let e : h.0 + suc number ≡ f.0 = omega arith in
    (placed, subst (λ (n : ℕ). slice_get space.entries n ≡ Some f.1) e (get_behind (suc number) space.entries h.0 f.1 h.2))

library_there : (s : Scope) (b : Bool) → IsThere s (if b then Some of_library else None)
library_there s true = tt
library_there s false = tt

pub behind_there : (how : Use) (s : Scope) (q : Qualifier) (x : Identifier) → IsPlace s (Some q) → IsThere s (behind how s q x)
behind_there how s (module_qualifier space) x h = entry_of_there s (λ (e : Entry). seen_from s space e && counts how e.what) space x h
behind_there how s (enum_qualifier space number) x h =
    member_there s space number h (member_among (suc number) (drop (suc number) space.entries) x) (member_found (suc number) (drop (suc number) space.entries) x)
behind_there how s library_qualifier x h = library_there s (s.outside.is_library x.name (has_dollar x))

pub enum_behind_place : (s : Scope) (q : Option Qualifier) (x : Identifier) → IsPlace s q → IsPlace s (enum_behind s q x)
enum_behind_place s None x h = tt
enum_behind_place s (Some (module_qualifier space)) x h =
    qualifier_place s (behind before_dot s (module_qualifier space) x) (behind_there before_dot s (module_qualifier space) x h)
enum_behind_place s (Some (enum_qualifier space number)) x h = tt
enum_behind_place s (Some library_qualifier) x h = tt

pub qualifier_of_place : (s : Scope) (e : Expr) → IsPlaced s → IsPlace s (qualifier_of s e)
qualifier_of_place s (literal l) placed = tt
qualifier_of_place s (me token) placed = tt
qualifier_of_place s (name x) placed = qualifier_place s (declares before_dot s x) (declared_there before_dot s x placed)
qualifier_of_place s (with_member dot x) placed = tt
qualifier_of_place s (member base dot x) placed = enum_behind_place s (qualifier_of s base) x (qualifier_of_place s base placed)
qualifier_of_place s (index base left args right) placed = tt
qualifier_of_place s (parenthesised left e right) placed = tt
qualifier_of_place s (new word t) placed = tt
qualifier_of_place s (type_of word e is_word t) placed = tt
qualifier_of_place s (unary o token e) placed = tt
qualifier_of_place s (binary l o token r) placed = tt

pub behind_qualifier : (s : Scope) (q : Option Qualifier) (x : Identifier) → IsPlace s q
    → IsThere s (option_and_then (λ (q : Qualifier). behind plainly s q x) q)
behind_qualifier s None x h = tt
behind_qualifier s (Some q) x h = behind_there plainly s q x h

pub member_there_in : (s : Scope) (base : Expr) (x : Identifier) → IsPlaced s
    → IsThere s (option_and_then (λ (q : Qualifier). behind plainly s q x) (qualifier_of s base))
member_there_in s base x placed = behind_qualifier s (qualifier_of s base) x (qualifier_of_place s base placed)
