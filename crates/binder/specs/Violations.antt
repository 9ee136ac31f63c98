-- The rules S15 to S22: for each the places where it is broken, and the least of all.
use Rattle.std.specs.Prelude.{◌≡◌, ◌⊎◌, ℕ, zero, suc, ◌==◌, Bool, true, false, ◌&&◌, ◌||◌, not, int_le, List, [], ◌∷◌, ◌++◌, length, map, flat_map, Option, Some, None, is_some, is_none, bytes_eq, if◌then◌else◌}
use Rattle.std.specs.List.{list_any}
use Rattle.vba_base.specs.declared.place.Place.{Place}
use Rattle.vba_base.specs.declared.place.Refusal.{Refusal}
use Rattle.vba_lexer.specs.declared.token.Token.{Token}
use Rattle.vba_lexer.specs.Order.{IsLeast}
use Rattle.vba_values.specs.Types.{Declared}
use Rattle.vba_values.specs.Types as type
use Rattle.vba_words.specs.declared.identifier.Identifier.{Identifier}
use Rattle.vba_expression.specs.declared.tree.TypeName.{TypeName}
use Rattle.vba_expression.specs.declared.tree.TypeQualifier.{TypeQualifier}
use Rattle.vba_expression.specs.Tree.{Expr, literal, me, name, with_member, member, index, parenthesised, new, type_of, unary, binary, Args, no_args, missing, plain}
use Rattle.vba_expression.specs.Tree as expr
use Rattle.vba_lexer.specs.declared.number.Number.{Number}
use Rattle.vba_tree.specs.declared.line.LineLabel.{LineLabel}
use Rattle.vba_tree.specs.declared.line.LineLabel.TheVariants as line_label
use Rattle.vba_tree.specs.declared.simple.LabelName.{LabelName}
use Rattle.vba_tree.specs.declared.simple.LabelName.TheVariants as label_name
use Rattle.vba_tree.specs.declared.procedure.ProcedureWords.{ProcedureWords}
use Rattle.vba_tree.specs.declared.procedure.ProcedureWords.TheVariants as words
use Rattle.vba_tree.specs.Tree.{Variable, NewTypeClause, Parameter, ResultType}
use Rattle.vba_module.specs.Parts.{Part, label}
use Rattle.vba_module.specs.Verdict.{broken}
use Rattle.refusal_order.specs.Least.{least_of}
use Rattle.binder.specs.Sources.{Source, has_choice, is_explicit}
use Rattle.binder.specs.Options.{or_else}
use Rattle.binder.specs.Declarations.{Written, FieldWritten, What, a_variable, a_constant, an_enum, a_member, a_type, an_event, a_procedure, Entry, header_names, Own, a_local, a_local_constant, undeclared, Local}
use Rattle.binder.specs.Said.{Said, type_named, new_named, constant_expression, expression, redimmed, goes_to, raises, entry_said, header_said, said_in_part, said_in_body}
use Rattle.binder.specs.Said as say
use Rattle.binder.specs.Scopes.{Outside, Space, Scope, spaces_from, Use, plainly, called, before_dot, Meant, of_procedure, Qualifier, declares, behind, qualifier_of, is_named, is_same}
use Rattle.binder.specs.Names.{usings, declared_here, scope_of, scope_in}
use Rattle.binder.specs.Types.{type_meant, is_made, is_asked, written_type, class_number, type_number}
use Rattle.binder.specs.Constants.{unless, clause_faults, type_faults, constant_faults, member_faults, default_faults, dims_faults}
use Rattle.binder.specs.Numbering.{standings_in, in_with}

-- ---- the parts of a project in which rules are asked for

-- the procedures of a module
abbrev pub procedures_in : List Entry → List Written
procedures_in [] = []
procedures_in (e ∷ es) = at e.what ++ procedures_in es
  where
    at : What → List Written
    at (a_procedure p) = p ∷ []
    at other = []

-- a rule of entries and one of procedures, asked of a module
abbrev pub in_space : (Scope → Entry → List Place) → (Scope → Written → List Place) → Scope → List Place
in_space of_entry of_body s =
    flat_map (of_entry s) s.here.entries ++ flat_map (λ p. of_body (scope_in s p) p) (procedures_in s.here.entries)

abbrev pub no_entry : Scope → Entry → List Place
no_entry s e = []

-- what a procedure says in its header, and in each part with whether a With block stands round it
abbrev pub in_body : (Bool → Said → List Place) → Written → List Place
in_body test p =
    flat_map (test false) (header_said p)
    ++ flat_map (λ st. flat_map (test (in_with st)) (said_in_part (is_some p.static_word) st.part)) (standings_in p.body)

-- ---- S15: two declarations of one name in one scope, but for the procedures of one property

abbrev pub later : {A : Type 0} → (A → A → Bool) → (A → Place) → (before : List A) → List A → List Place
later clash place_of before [] = []
later clash place_of before (x ∷ xs) =
    (if list_any (clash x) before then place_of x ∷ [] else []) ++ later clash place_of (x ∷ before) xs

abbrev pub same_name : Identifier → Identifier → Bool
same_name x y = bytes_eq x.name y.name

-- two of Get, Let and Set
abbrev pub are_parts : ProcedureWords → ProcedureWords → Bool
are_parts (words.PropertyGet property_word get_word) (words.PropertyLet other let_word) = true
are_parts (words.PropertyGet property_word get_word) (words.PropertySet other set_word) = true
are_parts (words.PropertyLet property_word let_word) (words.PropertyGet other get_word) = true
are_parts (words.PropertyLet property_word let_word) (words.PropertySet other set_word) = true
are_parts (words.PropertySet property_word set_word) (words.PropertyGet other get_word) = true
are_parts (words.PropertySet property_word set_word) (words.PropertyLet other let_word) = true
are_parts one other = false

abbrev pub of_one_property : What → What → Bool
of_one_property (a_procedure p) (a_procedure q) = are_parts p.kind q.kind
of_one_property one other = false

abbrev pub clashes : Entry → Entry → Bool
clashes a b = same_name a.name b.name && not (of_one_property a.what b.what)

abbrev pub place_of_name : Identifier → Place
place_of_name x = x.token.place

-- the fields of a Type, and the parameters of an event, are scopes of their own
abbrev pub twice_inside : Scope → Entry → List Place
twice_inside s e = at e.what
  where
    at : What → List Place
    at (a_type fields) = later (λ (a : FieldWritten) (b : FieldWritten). same_name a.name b.name) (λ f. place_of_name f.name) [] fields
    at (an_event ps) = later (λ (a : Parameter) (b : Parameter). same_name a.name b.name) (λ p. place_of_name p.name) [] ps
    at other = []

abbrev pub twice_in_procedure : Scope → Written → List Place
twice_in_procedure s p =
    later (λ (a : Local) (b : Local). same_name a.name b.name) (λ l. place_of_name l.name) []
    (header_names p ++ declared_here (flat_map usings (said_in_body p)))

abbrev pub twice_declared : Scope → List Place
twice_declared s = later clashes (λ e. place_of_name e.name) [] s.here.entries ++ in_space twice_inside twice_in_procedure s

-- the front of a module
abbrev pub front : Space → Place
front space = record { «module» = suc space.number; line = 1; column = 1 }

-- ---- S16: unknown types

abbrev pub place_of_type : TypeName → Place
place_of_type t = at t.qualifier
  where
    at : Option TypeQualifier → Place
    at None = place_of_name t.name
    at (Some q) = place_of_name q.name

abbrev pub unless_true : Bool → Place → List Place
unless_true true place = []
unless_true false place = place ∷ []

abbrev mutual
  -- what New may not make, and what TypeOf may not ask for
  pub types_in : Scope → Expr → List Place
  types_in s (literal l) = []
  types_in s (me token) = []
  types_in s (name x) = []
  types_in s (with_member dot x) = []
  types_in s (member base dot x) = types_in s base
  types_in s (index base left args right) = types_in s base ++ types_in_args s args
  types_in s (parenthesised left e right) = types_in s e
  types_in s (new new_word t) = unless_true (is_made (type_meant s t)) (place_of_type t)
  types_in s (type_of type_of_word e is_word t) = types_in s e ++ unless_true (is_asked (type_meant s t)) (place_of_type t)
  types_in s (unary operator token e) = types_in s e
  types_in s (binary l operator token r) = types_in s l ++ types_in s r

  pub types_in_args : Scope → Args → List Place
  types_in_args s no_args = []
  types_in_args s (missing before comma) = types_in_args s before
  types_in_args s (plain before comma e) = types_in_args s before ++ types_in s e
  types_in_args s (expr.named before comma x mark e) = types_in_args s before ++ types_in s e

abbrev pub types_said : Scope → Said → List Place
types_said s (type_named t) = unless (type_meant s t) (place_of_type t)
types_said s (new_named t) = unless_true (is_made (type_meant s t)) (place_of_type t)
types_said s (constant_expression e) = types_in s e
types_said s (expression e) = types_in s e
types_said s (say.called e) = types_in s e
types_said s (redimmed e clause) = types_in s e
types_said s other = []

abbrev pub unknown_types : Scope → List Place
unknown_types s =
    in_space (λ s1 e. flat_map (types_said s1) (entry_said e.what)) (λ s1 p. in_body (λ within. types_said s1) p) s

-- ---- S17: unknown names

-- without Option Explicit an undeclared name is a variable, unless it is called or indexed
abbrev pub may_be_undeclared : Scope → Use → Bool
may_be_undeclared s called = false
may_be_undeclared s how = not (has_choice is_explicit s.here.source.parts)

abbrev pub is_declared : Scope → Use → Option Meant → Bool
is_declared s how None = may_be_undeclared s how
is_declared s how (Some (of_procedure number l)) = at l.own
  where
    at : Own → Bool
    at (undeclared static) = may_be_undeclared s how
    at own = true
is_declared s how (Some meant) = true

abbrev pub name_fault : Scope → Use → Identifier → List Place
name_fault s how x = unless_true (is_declared s how (declares how s x)) (place_of_name x)

-- behind a module, an Enum and VBA a name is there or unknown; else what stands before the dot counts
abbrev pub behind_fault : Scope → Option Qualifier → Use → Identifier → (base : List Place) → List Place
behind_fault s None how x base = base
behind_fault s (Some q) how x base = unless (behind how s q x) (place_of_name x)

abbrev mutual
  -- the unknown names of an expression, inside a With block or not
  pub names_unknown : Scope → Bool → Use → Expr → List Place
  names_unknown s within how (literal l) = []
  names_unknown s within how (me token) = unless_true s.here.source.is_class token.place
  names_unknown s within how (name x) = name_fault s how x
  names_unknown s within how (with_member dot x) = unless_true within dot.place
  names_unknown s within how (member base dot x) = behind_fault s (qualifier_of s base) how x (names_unknown s within before_dot base)
  names_unknown s within how (index base left args right) = names_unknown s within called base ++ unknown_in_args s within args
  names_unknown s within how (parenthesised left e right) = names_unknown s within plainly e
  names_unknown s within how (new new_word t) = []
  names_unknown s within how (type_of type_of_word e is_word t) = names_unknown s within plainly e
  names_unknown s within how (unary operator token e) = names_unknown s within plainly e
  names_unknown s within how (binary l operator token r) = names_unknown s within plainly l ++ names_unknown s within plainly r

  pub unknown_in_args : Scope → Bool → Args → List Place
  unknown_in_args s within no_args = []
  unknown_in_args s within (missing before comma) = unknown_in_args s within before
  unknown_in_args s within (plain before comma e) = unknown_in_args s within before ++ names_unknown s within plainly e
  unknown_in_args s within (expr.named before comma x mark e) = unknown_in_args s within before ++ names_unknown s within plainly e

-- an event of the module
abbrev pub is_event : Identifier → Entry → Bool
is_event x e = at e.what
  where
    at : What → Bool
    at (an_event ps) = is_named x.name e.name
    at other = false

abbrev pub names_said : Scope → Bool → Said → List Place
names_said s within (constant_expression e) = names_unknown s within plainly e
names_said s within (expression e) = names_unknown s within plainly e
names_said s within (say.called e) = names_unknown s within called e
names_said s within (redimmed e clause) = names_unknown s within plainly e
names_said s within (raises x) = unless_true (list_any (is_event x) s.here.entries) (place_of_name x)
names_said s within other = []

abbrev pub unknown_names : Scope → List Place
unknown_names s = in_space (λ s1 e. flat_map (names_said s1 false) (entry_said e.what)) (λ s1 p. in_body (names_said s1) p) s

-- ---- S18 and S19: labels

abbrev pub same_number : Number → Number → Bool
same_number a b = int_le a.value b.value && int_le b.value a.value

abbrev pub same_label_name : LabelName → LineLabel → Bool
same_label_name (label_name.Name x) (line_label.Name y colon) = same_name x y
same_label_name (label_name.Number token n) (line_label.Number other m colon) = same_number n m
same_label_name used stands = false

abbrev pub same_label : LineLabel → LineLabel → Bool
same_label (line_label.Name x colon) (line_label.Name y other) = same_name x y
same_label (line_label.Number token n colon) (line_label.Number other m mark) = same_number n m
same_label one other = false

abbrev pub place_of_label : LineLabel → Place
place_of_label (line_label.Name x colon) = place_of_name x
place_of_label (line_label.Number token n colon) = token.place

abbrev pub place_of_target : LabelName → Place
place_of_target (label_name.Name x) = place_of_name x
place_of_target (label_name.Number token n) = token.place

abbrev pub labels_in : List Part → List LineLabel
labels_in [] = []
labels_in (label l ∷ parts) = l ∷ labels_in parts
labels_in (part ∷ parts) = labels_in parts

abbrev pub label_said : List LineLabel → Said → List Place
label_said labels (goes_to l) = unless_true (list_any (same_label_name l) labels) (place_of_target l)
label_said labels other = []

abbrev pub unknown_labels : Scope → List Place
unknown_labels s = flat_map (λ p. flat_map (label_said (labels_in p.body)) (said_in_body p)) (procedures_in s.here.entries)

abbrev pub twice_labelled : Scope → List Place
twice_labelled s = flat_map (λ p. later same_label place_of_label [] (labels_in p.body)) (procedures_in s.here.entries)

-- ---- S20: constant expressions

abbrev pub variable_type_faults : Scope → Option NewTypeClause → List Place
variable_type_faults s None = []
variable_type_faults s (Some c) = type_faults s c.declared_type

abbrev pub variable_faults : Scope → Variable → List Place
variable_faults s v = dims_faults s v.dims ++ variable_type_faults s v.type_clause

abbrev pub field_faults : Scope → FieldWritten → List Place
field_faults s f = dims_faults s f.dims ++ type_faults s f.type_clause.declared_type

abbrev pub parameter_faults : Scope → Parameter → List Place
parameter_faults s p = clause_faults s p.type_clause ++ default_faults s p

abbrev pub entry_faults : Scope → Entry → List Place
entry_faults s e = at e.what
  where
    at : What → List Place
    at (a_variable v) = variable_faults s v
    at (a_constant c) = constant_faults s c
    at an_enum = []
    at (a_member value steps) = member_faults s (place_of_name e.name) value steps
    at (a_type fields) = flat_map (field_faults s) fields
    at (an_event ps) = flat_map (parameter_faults s) ps
    at (a_procedure p) = []

abbrev pub own_faults : Scope → Own → List Place
own_faults s (a_local v static) = variable_faults s v
own_faults s (a_local_constant c) = constant_faults s c
own_faults s own = []

abbrev pub result_faults : Scope → Written → List Place
result_faults s p = at p.result
  where
    at : Option ResultType → List Place
    at None = []
    at (Some r) = type_faults s r.declared_type

abbrev pub procedure_faults : Scope → Written → List Place
procedure_faults s p = flat_map (parameter_faults s) p.parameters ++ (result_faults s p ++ flat_map (λ l. own_faults s l.own) s.locals)

abbrev pub wrong_constants : Scope → List Place
wrong_constants s = in_space entry_faults procedure_faults s

-- ---- S21: Types that hold themselves

abbrev pub inner_type : Declared → Declared
inner_type (type.array_of of) = inner_type of
inner_type of = of

abbrev pub held_in : Scope → List FieldWritten → List ℕ
held_in s [] = []
held_in s (f ∷ fs) = at (written_type (λ e. 0) s f.type_clause.declared_type) ++ held_in s fs
  where
    at : Declared → List ℕ
    at (type.udt number) = number ∷ []
    at other = []

abbrev pub types_of_entries : Scope → List Entry → List (List ℕ)
types_of_entries s [] = []
types_of_entries s (e ∷ es) = at e.what ++ types_of_entries s es
  where
    at : What → List (List ℕ)
    at (a_type fields) = held_in s fields ∷ []
    at other = []

-- of each Type of a project the numbers of the Types of its fields
abbrev pub held_types : Outside → List Space → List Space → List (List ℕ)
held_types o all [] = []
held_types o all (space ∷ spaces) = types_of_entries (scope_of o all space) space.entries ++ held_types o all spaces

abbrev pub held_by : List (List ℕ) → ℕ → List ℕ
held_by [] n = []
held_by (held ∷ types) zero = held
held_by (held ∷ types) (suc n) = held_by types n

-- a Type leads to another through so many fields
abbrev pub leads : ℕ → List (List ℕ) → ℕ → ℕ → Bool
leads zero types from to = false
leads (suc k) types from to = list_any (λ n. n == to || leads k types n to) (held_by types from)

abbrev pub is_type_what : What → Bool
is_type_what (a_type fields) = true
is_type_what what = false

-- the Types among entries, the first of them by this number
abbrev pub recursive_in : List (List ℕ) → ℕ → List Entry → List Place
recursive_in types number [] = []
recursive_in types number (e ∷ es) =
    if is_type_what e.what
    then unless_true (not (leads (length types) types number number)) (place_of_name e.name) ++ recursive_in types (suc number) es
    else recursive_in types number es

abbrev pub recursive_types : Scope → List Place
recursive_types s = recursive_in (held_types s.outside s.spaces s.spaces) (type_number s s.here 0) s.here.entries

-- ---- S22: variables WithEvents

abbrev pub is_event_entry : What → Bool
is_event_entry (an_event ps) = true
is_event_entry what = false

-- a class by its number has an event
abbrev pub class_has_events : List Space → List Space → ℕ → Bool
class_has_events all [] number = false
class_has_events all (space ∷ spaces) number =
    if space.source.is_class && (class_number all space == number) then list_any (λ (e : Entry). is_event_entry e.what) space.entries
    else class_has_events all spaces number

abbrev pub has_events : Scope → Declared → Bool
has_events s (type.class number) = class_has_events s.spaces s.spaces number
has_events s type.worksheet = true
has_events s of = false

abbrev pub source_type : Scope → Option NewTypeClause → Bool
source_type s None = false
source_type s (Some c) = is_none c.new_word && has_events s (written_type (λ e. 0) s c.declared_type)

abbrev pub source_fault : Scope → Variable → List Place
source_fault s v = at v.with_events_word
  where
    at : Option Token → List Place
    at None = []
    at (Some word) = unless_true (is_none v.dims && source_type s v.type_clause) word.place

abbrev pub entry_sources : Scope → Entry → List Place
entry_sources s e = at e.what
  where
    at : What → List Place
    at (a_variable v) = source_fault s v
    at what = []

abbrev pub wrong_sources : Scope → List Place
wrong_sources s = flat_map (entry_sources s) s.here.entries

-- ---- the verdict

-- the modules before one
abbrev pub named_before : List Space → Space → List Space
named_before [] here = []
named_before (s ∷ ss) here = if is_same s here then [] else s ∷ named_before ss here

abbrev pub module_named_twice : Scope → List Place
module_named_twice s = if list_any (λ (o : Space). bytes_eq o.name.fold s.here.name.fold) (named_before s.spaces s.here) then front s.here ∷ [] else []

-- the rules that a module breaks
abbrev pub violations : Scope → List Refusal
violations s =
    broken 15 (module_named_twice s ++ twice_declared s) ++ (broken 16 (unknown_types s) ++ (broken 17 (unknown_names s)
    ++ (broken 18 (unknown_labels s) ++ (broken 19 (twice_labelled s) ++ (broken 20 (wrong_constants s)
    ++ (broken 21 (recursive_types s) ++ broken 22 (wrong_sources s)))))))

-- what each module of a project breaks
abbrev pub project_violations : Outside → List Source → List (List Refusal)
project_violations o sources = let spaces = spaces_from 0 sources in map (λ space. violations (scope_of o spaces space)) spaces

-- the least of the first module that breaks a rule
abbrev pub first_broken : List (List Refusal) → Option Refusal
first_broken [] = None
first_broken (rs ∷ more) = or_else (least_of None rs) (first_broken more)

abbrev pub verdict : Outside → List Source → Option Refusal
verdict o sources = first_broken (project_violations o sources)

-- the least refusal of the first of these lists that has any; none where none has
abbrev pub IsFirstBroken : List (List Refusal) → Option Refusal → Type 0
IsFirstBroken [] answer = answer ≡ None
IsFirstBroken (rs ∷ more) answer = ((rs ≡ []) × IsFirstBroken more answer) ⊎ ((least : Refusal) × IsLeast rs least × (answer ≡ Some least))
