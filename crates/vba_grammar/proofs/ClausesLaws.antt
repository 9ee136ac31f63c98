-- The laws of reading the parts of declarations.
use Rattle.std.proofs.Common.{◌≡◌, Bool, true, false, List, [], ◌∷◌, ◌++◌, Option, Some, None, refl, sym, ap, ◌∙◌, arith, append_assoc}
use Rattle.std.specs.Prelude.{if◌then◌else◌, ◌&&◌, IfSome, codes}
use Rattle.vba_lexer.specs.declared.token.Token.{Token}
use Rattle.vba_words.specs.declared.identifier.Identifier.{Identifier}
use Rattle.vba_words.specs.declared.keyword.Keyword.TheVariants as keyword
use Rattle.vba_words.specs.declared.mark.Mark.TheVariants as mark
use Rattle.vba_words.specs.declared.reading.Reading.{Reading}
use Rattle.vba_words.specs.declared.reading.Reading.TheVariants as reading
use Rattle.vba_words.specs.declared.reading.ReadToken.{ReadToken}
use Rattle.vba_words.specs.Spelling.{read, word, marked, naming}
use Rattle.vba_expression.specs.declared.tree.TypeName.{TypeName}
use Rattle.vba_expression.specs.declared.tree.TypeQualifier.{TypeQualifier}
use Rattle.vba_expression.specs.Spelling.{spell, type_name_tokens}
use Rattle.vba_expression.specs.Fitting.{HasPlainNames}
use Rattle.vba_expression.specs.Reader.{short_type, long_type}
use Rattle.vba_expression.specs.Taking.{Stops}
use Rattle.vba_tree.specs.declared.declaration.Access.TheVariants as access
use Rattle.vba_tree.specs.declared.declaration.AccessWord.{AccessWord}
use Rattle.vba_tree.specs.declared.declaration.Brackets.{Brackets}
use Rattle.vba_tree.specs.Tree.{Listed, DeclaredType, named, fixed_text, NewTypeClause, Dim, upper, Variable, ResultType}
use Rattle.vba_tree.specs.Spelling.{optional, optional_word, place_word, with_commas, spell_access, access_keyword, spell_brackets, spell_type, spell_type_clause, spell_new_type_clause, spell_dim, spell_dims, spell_variable, spell_result_type}
use Rattle.vba_tree.specs.Forms.{Each, FormedType, FormedDim, FormedVariable}
use Rattle.vba_tree.specs.Fitting.{ResultFits}
use Rattle.vba_grammar.specs.Front.{Found, ◌>>=◌, or_else, found_as, is_as, is_new, is_to, is_times, is_left, is_right, is_comma, is_dot, begins, token_at, token_if, name_at, plain_name_at, part_if, before_right, commas_at}
use Rattle.vba_grammar.specs.Clauses.{type_name_at, is_fixed, type_at, type_clause_at, new_type_clause_at, dim_at, dims_at, is_with_events, variable_at, brackets_at, result_type_at, access_of, access_if}
use Rattle.vba_grammar.specs.Laws.{IsComplete}
use Rattle.vba_grammar.proofs.Binding.{Told, Spelled, some_told, weaker_told, then_told, as_told, cond_told, else_told, then_is, as_is, if_not}
use Rattle.vba_grammar.proofs.Fronts.{means_as, means_new, means_to, means_times, means_left, means_right, means_dot, means_reads, token_told, name_told, plain_told, plain_name_is, token_if_told, token_if_is, whole_told, whole_is, part_told, part_is, before_told, before_is, commas_told, commas_is, begins_not, opens_no_right, stops_no_left, stops_no_dot}

-- a type's name
pub type_name_told : (ts : List ReadToken) → Told (λ class rest. (ts ≡ type_name_tokens class ++ rest) × HasPlainNames class) (type_name_at ts)
type_name_told ts =
    then_told (plain_told ts) (λ first rest p.
    else_told
    (then_told (token_told rest means_dot) (λ dot behind q. as_told (long_type first dot) (plain_told behind)
    (λ last rest2 r. (p.0 ∙ ap (λ us. naming first ∷ us) (q ∙ ap (λ us. marked dot mark.Dot ∷ us) r.0), (r.1, p.1)))))
    (some_told (p.0, (p.1, tt))))

no_dot : {A : Type 0} (go : Token → List ReadToken → Found A) (ts : List ReadToken) → begins is_dot ts ≡ false → (token_at is_dot ts >>= go) ≡ None
no_dot go [] h = refl
no_dot go (t ∷ ts) h = ap (λ c. (if c then Some (t.token, ts) else None) >>= go) h

pub type_name_is : (class : TypeName) (rest : List ReadToken) → HasPlainNames class → begins is_dot rest ≡ false
    → type_name_at (type_name_tokens class ++ rest) ≡ Some (class, rest)
type_name_is class rest good h = at class.qualifier class.name good
  where
    at : (qualifier : Option TypeQualifier) (x : Identifier) → HasPlainNames (record { qualifier = qualifier; name = x })
        → type_name_at (type_name_tokens (record { qualifier = qualifier; name = x }) ++ rest) ≡ Some (record { qualifier = qualifier; name = x }, rest)
    at None x good =
        then_is _ (plain_name_is x rest good.0)
        (ap (λ o. or_else o (Some (short_type x, rest))) (no_dot (λ dot behind. found_as (long_type x dot) (plain_name_at behind)) rest h))
    at (Some q) x good =
        then_is _ (plain_name_is q.name (marked q.dot mark.Dot ∷ naming x ∷ rest) good.1)
        (ap (λ o. or_else o (Some (short_type q.name, marked q.dot mark.Dot ∷ naming x ∷ rest)))
        (as_is (long_type q.name q.dot) (plain_name_is x rest good.0)))

-- a type ends before these tokens
abbrev pub TypeEnds : DeclaredType → List ReadToken → Type 0
TypeEnds (named class) rest = (begins is_dot rest ≡ false) × (begins is_times rest ≡ false)
TypeEnds (fixed_text string_word times length) rest = Stops 15 rest

-- where a type was read: a length stops before the rest
abbrev pub LengthEnds : DeclaredType → List ReadToken → Type 0
LengthEnds (named class) rest = Unit {0}
LengthEnds (fixed_text string_word times length) rest = Stops 15 rest

-- a type
pub type_told : (ts : List ReadToken) → Told (λ t rest. (ts ≡ spell_type t ++ rest) × FormedType t × LengthEnds t rest) (type_at ts)
type_told ts =
    cond_told (is_fixed ts) _ _
    (λ e. then_told (token_told ts (means_reads (codes "string"))) (λ string_word rest p.
    then_told (token_told rest means_times) (λ times behind q.
    as_told (fixed_text string_word times) (whole_told behind) (λ length rest2 r.
    (p ∙ ap (λ us. place_word string_word (codes "string") ∷ us) (q ∙ ap (λ us. marked times mark.Times ∷ us) r.same), r.fits, r.stops)))))
    (λ e. as_told named (type_name_told ts) (λ class rest p. (p.0, p.1, tt)))

pub not_fixed : (class : TypeName) (rest : List ReadToken) → begins is_times rest ≡ false → is_fixed (type_name_tokens class ++ rest) ≡ false
not_fixed class rest h = at class.qualifier class.name rest h
  where
    both : (b c : Bool) → c ≡ false → (b && c) ≡ false
    both true c h = h
    both false c h = refl

    at : (qualifier : Option TypeQualifier) (x : Identifier) (rest : List ReadToken) → begins is_times rest ≡ false
        → is_fixed (type_name_tokens (record { qualifier = qualifier; name = x }) ++ rest) ≡ false
    at None x [] h = refl
    at None x (t ∷ ts) h = both _ _ h
    at (Some qualifier) x rest h = both _ _ refl

pub type_is : (t : DeclaredType) (rest : List ReadToken) → FormedType t → TypeEnds t rest → type_at (spell_type t ++ rest) ≡ Some (t, rest)
type_is (named class) rest good h = if_not _ _ (not_fixed class rest h.1) (as_is named (type_name_is class rest good h.0))
type_is (fixed_text string_word times length) rest good h = as_is (fixed_text string_word times) (whole_is length rest good h)

stops_no_times : (ts : List ReadToken) → Stops 15 ts → begins is_times ts ≡ false
stops_no_times [] h = refl
stops_no_times (t ∷ ts) h = at t.token t.reading h
  where
    at : (token : Token) (r : Reading) → Stops 15 (read token r ∷ ts) → is_times r ≡ false
    at token (reading.Mark mark.Times) h = absurd (omega (arith, h))
    at token _ h = refl

pub type_ends : (t : DeclaredType) (rest : List ReadToken) → Stops 15 rest → TypeEnds t rest
type_ends (named class) rest h = (stops_no_dot 15 rest h, stops_no_times rest h)
type_ends (fixed_text string_word times length) rest h = h

-- As, a type
pub type_clause_told : (ts : List ReadToken) → Spelled spell_type_clause (λ c. FormedType c.declared_type) ts (type_clause_at ts)
type_clause_told ts =
    then_told (token_told ts means_as) (λ as_word rest p. as_told _ (type_told rest) (λ t behind q.
    (p ∙ ap (λ us. word as_word keyword.As ∷ us) q.0, q.1)))

pub type_clause_is : IsComplete spell_type_clause (λ c. FormedType c.declared_type) (Stops 15) type_clause_at
type_clause_is clause rest good h = as_is _ (type_is clause.declared_type rest good (type_ends clause.declared_type rest h))

-- As, New where it is written, a type
pub new_type_clause_told : (ts : List ReadToken) → Spelled spell_new_type_clause (λ c. FormedType c.declared_type) ts (new_type_clause_at ts)
new_type_clause_told ts =
    then_told (token_told ts means_as) (λ as_word rest p. as_told _ (type_told (token_if is_new rest).1) (λ t behind q. (
      p ∙ ap (λ us. word as_word keyword.As ∷ us) (
          token_if_told {is_so = is_new} {kept = keyword.New} rest means_new
          ∙ ap (λ us. optional_word keyword.New (token_if is_new rest).0 ++ us) q.0
          ∙ sym (append_assoc (optional_word keyword.New (token_if is_new rest).0) (spell_type t) behind)),
      q.1,
    )))

no_new : (t : DeclaredType) (rest : List ReadToken) → begins is_new (spell_type t ++ rest) ≡ false
no_new (named class) rest = at class.qualifier class.name
  where
    at : (qualifier : Option TypeQualifier) (x : Identifier) → begins is_new (type_name_tokens (record { qualifier = qualifier; name = x }) ++ rest) ≡ false
    at None x = refl
    at (Some qualifier) x = refl
no_new (fixed_text string_word times length) rest = refl

pub new_type_clause_is : IsComplete spell_new_type_clause (λ c. FormedType c.declared_type) (Stops 15) new_type_clause_at
new_type_clause_is clause rest good h =
    let new = token_if_is is_new keyword.New clause.new_word (spell_type clause.declared_type ++ rest) refl (no_new clause.declared_type rest) in
    let make : Option Token × List ReadToken → Found NewTypeClause
    = λ p. found_as (λ t. record { as_word = clause.as_word; new_word = p.0; declared_type = t }) (type_at p.1) in
    ap (λ us. make (token_if is_new us)) (append_assoc (optional_word keyword.New clause.new_word) (spell_type clause.declared_type) rest)
    ∙ ap make new
    ∙ as_is _ (type_is clause.declared_type rest good (type_ends clause.declared_type rest h))

-- the bounds of a dimension
pub dim_told : (ts : List ReadToken) → Spelled spell_dim FormedDim ts (dim_at ts)
dim_told ts =
    then_told (whole_told ts) (λ e rest p. cond_told (begins is_to rest) _ _
    (λ _. then_told (token_told rest means_to) (λ to_word behind q. as_told (Dim.range e to_word) (whole_told behind) (λ high rest2 r. (
      p.same ∙ ap (λ us. spell e ++ us) (q ∙ ap (λ us. word to_word keyword.To ∷ us) r.same)
          ∙ sym (append_assoc (spell e) (word to_word keyword.To ∷ spell high) rest2),
      (p.fits, r.fits),
    ))))
    (λ _. some_told (p.same, p.fits)))

-- a dimension, a test of a Case line: To doesn't go on
abbrev pub RangeEnds : List ReadToken → Type 0
RangeEnds rest = Stops 15 rest × (begins is_to rest ≡ false)

pub dim_is : IsComplete spell_dim FormedDim RangeEnds dim_at
dim_is (upper e) rest good h = then_is _ (whole_is e rest good h.0) (if_not _ _ h.1 refl)
dim_is (Dim.range low to_word high) rest good h =
    ap dim_at (append_assoc (spell low) (word to_word keyword.To ∷ spell high) rest)
    ∙ then_is _ (whole_is low (word to_word keyword.To ∷ (spell high ++ rest)) good.0 tt) (as_is (Dim.range low to_word) (whole_is high rest good.1 h.0))

dim_opens : (d : Dim) (rest : List ReadToken) → begins is_right (spell_dim d ++ rest) ≡ false
dim_opens (upper e) rest = begins_not is_right opens_no_right e rest
dim_opens (Dim.range low to_word high) rest =
    ap (begins is_right) (append_assoc (spell low) (word to_word keyword.To ∷ spell high) rest) ∙ begins_not is_right opens_no_right low _

pub dims_in_told : (ts : List ReadToken) → Spelled (with_commas spell_dim) (Each FormedDim) ts (commas_at dim_at ts)
dims_in_told ts = commas_told spell_dim dim_at dim_told ts

pub dims_in_is : IsComplete (with_commas spell_dim) (Each FormedDim) (λ rest. RangeEnds rest × (begins is_comma rest ≡ false)) (commas_at dim_at)
dims_in_is = commas_is spell_dim dim_at (λ token ts. (tt, refl)) dim_is

-- the bounds of an array
pub dims_told : (ts : List ReadToken) → Spelled spell_dims (λ d. IfSome d.dims (Each FormedDim)) ts (dims_at ts)
dims_told ts =
    then_told (token_told ts means_left) (λ left rest p. then_told (before_told (commas_at dim_at) rest (dims_in_told rest)) (λ dims behind q.
    as_told _ (token_told behind means_right) (λ right rest2 r. (
      p ∙ ap (λ us. marked left mark.LeftParenthesis ∷ us) (
          q.0 ∙ ap (λ us. optional (with_commas spell_dim) dims ++ us) r
          ∙ sym (append_assoc (optional (with_commas spell_dim) dims) (marked right mark.RightParenthesis ∷ []) rest2)),
      q.1,
    ))))

listed_opens : (l : Listed Dim) (rest : List ReadToken) → Each FormedDim l → begins is_right (with_commas spell_dim l ++ rest) ≡ false
listed_opens l rest good = ap (begins is_right) (append_assoc (spell_dim l.first) _ rest) ∙ dim_opens l.first _

pub dims_is : IsComplete spell_dims (λ d. IfSome d.dims (Each FormedDim)) (λ rest. Unit {0}) dims_at
dims_is d rest good h =
    let tail : List ReadToken = marked d.right mark.RightParenthesis ∷ rest in
    ap (λ us. before_right (commas_at dim_at) us >>= λ dims behind.
    found_as (λ right. record { left = d.left; dims = dims; right = right }) (token_at is_right behind))
    (append_assoc (optional (with_commas spell_dim) d.dims) (marked d.right mark.RightParenthesis ∷ []) rest)
    ∙ then_is _ (before_is (with_commas spell_dim) (commas_at dim_at) dims_in_is (λ l us w. listed_opens l us w) d.dims tail good (((tt, refl), refl), refl)) refl

pub means_with_events : (r : Reading) → is_with_events r ≡ true → r ≡ reading.Keyword keyword.WithEvents
means_with_events (reading.Keyword keyword.WithEvents) h = refl
means_with_events _ h = absurd cc

-- a variable
pub variable_told : (ts : List ReadToken) → Spelled spell_variable FormedVariable ts (variable_at ts)
variable_told ts =
    let events = (token_if is_with_events ts).0 in
    then_told (name_told (token_if is_with_events ts).1) (λ x rest p.
    then_told (part_told is_left dims_at rest (dims_told rest)) (λ dims rest2 q.
    as_told _ (part_told is_as new_type_clause_at rest2 (new_type_clause_told rest2)) (λ clause rest3 r. (
      token_if_told {is_so = is_with_events} {kept = keyword.WithEvents} ts means_with_events
          ∙ ap (λ us. optional_word keyword.WithEvents events ++ us)
          (p ∙ ap (λ us. naming x ∷ us) (q.0 ∙ ap (λ us. optional spell_dims dims ++ us) r.0
          ∙ sym (append_assoc (optional spell_dims dims) (optional spell_new_type_clause clause) rest3)))
          ∙ sym (append_assoc (optional_word keyword.WithEvents events) (naming x ∷ (optional spell_dims dims ++ optional spell_new_type_clause clause)) rest3),
      (q.1, r.1),
    ))))

-- a variable ends before these tokens
abbrev pub VariableEnds : List ReadToken → Type 0
VariableEnds rest = Stops 15 rest × (begins is_as rest ≡ false)

no_left : (clause : Option NewTypeClause) (rest : List ReadToken) → Stops 15 rest → begins is_left (optional spell_new_type_clause clause ++ rest) ≡ false
no_left None rest h = stops_no_left 15 rest h
no_left (Some clause) rest h = refl

pub variable_is : IsComplete spell_variable FormedVariable VariableEnds variable_at
variable_is v rest good h =
    let clause = optional spell_new_type_clause v.type_clause in
    let tail : List ReadToken = optional spell_dims v.dims ++ (clause ++ rest) in
    let behind : Option Token × List ReadToken → Found Variable = λ word.
    name_at word.1 >>= λ name rest. part_if is_left dims_at rest >>= λ dims rest2.
    found_as (λ clause. record { with_events_word = word.0; name = name; dims = dims; type_clause = clause })
    (part_if is_as new_type_clause_at rest2) in
    ap (λ us. behind (token_if is_with_events us))
    (append_assoc (optional_word keyword.WithEvents v.with_events_word) (naming v.name ∷ (optional spell_dims v.dims ++ clause)) rest
    ∙ ap (λ us. optional_word keyword.WithEvents v.with_events_word ++ naming v.name ∷ us) (append_assoc (optional spell_dims v.dims) clause rest))
    ∙ ap behind (token_if_is is_with_events keyword.WithEvents v.with_events_word (naming v.name ∷ tail) refl refl)
    ∙ then_is _ (part_is is_left spell_dims dims_at dims_is (λ d us. refl) v.dims (clause ++ rest) good.0 (tt, no_left v.type_clause rest h.0))
    (as_is _ (part_is is_as spell_new_type_clause new_type_clause_at new_type_clause_is (λ c us. refl) v.type_clause rest good.1 h))

pub variables_told : (ts : List ReadToken) → Spelled (with_commas spell_variable) (Each FormedVariable) ts (commas_at variable_at ts)
variables_told ts = commas_told spell_variable variable_at variable_told ts

pub variables_is : IsComplete (with_commas spell_variable) (Each FormedVariable) (λ rest. VariableEnds rest × (begins is_comma rest ≡ false)) (commas_at variable_at)
variables_is = commas_is spell_variable variable_at (λ token ts. (tt, refl)) variable_is

-- `()`
pub brackets_told : (ts : List ReadToken) → Spelled spell_brackets (λ b. Unit {0}) ts (brackets_at ts)
brackets_told ts =
    then_told (token_told ts means_left) (λ left rest p. as_told _ (token_told rest means_right) (λ right behind q.
    (p ∙ ap (λ us. marked left mark.LeftParenthesis ∷ us) q, tt)))

pub brackets_is : IsComplete spell_brackets (λ b. Unit {0}) (λ rest. Unit {0}) brackets_at
brackets_is b rest good h = refl

-- the type of a result: it has the grammar's form, and the brackets behind a length belong to it
abbrev pub GoodResult : ResultType → Type 0
GoodResult r = FormedType r.declared_type × ResultFits r

result_brackets : (t : DeclaredType) (as_word : Token) (ts : List ReadToken) → LengthEnds t ts
    → Told (λ brackets rest. (ts ≡ optional spell_brackets brackets ++ rest) × ResultFits (record { as_word = as_word; declared_type = t; brackets = brackets }))
    (part_if is_left brackets_at ts)
result_brackets (named class) as_word ts h = weaker_told (part_told is_left brackets_at ts (brackets_told ts)) (λ brackets rest p. (p.0, tt))
result_brackets (fixed_text string_word times length) as_word ts h =
    cond_told (begins is_left ts) _ _ (λ e. let no = stops_no_left 15 ts h in absurd cc) (λ e. some_told (refl, refl))

pub result_type_told : (ts : List ReadToken) → Spelled spell_result_type GoodResult ts (result_type_at ts)
result_type_told ts =
    then_told (token_told ts means_as) (λ as_word rest p. then_told (type_told rest) (λ t behind q.
    as_told _ (result_brackets t as_word behind q.2) (λ brackets rest2 r. (
      p ∙ ap (λ us. word as_word keyword.As ∷ us) (q.0 ∙ ap (λ us. spell_type t ++ us) r.0
          ∙ sym (append_assoc (spell_type t) (optional spell_brackets brackets) rest2)),
      (q.1, r.1),
    ))))

result_ends : (t : DeclaredType) (as_word : Token) (brackets : Option Brackets) (rest : List ReadToken)
    → ResultFits (record { as_word = as_word; declared_type = t; brackets = brackets }) → Stops 15 rest → TypeEnds t (optional spell_brackets brackets ++ rest)
result_ends t as_word None rest fits h = type_ends t rest h
result_ends (named class) as_word (Some brackets) rest fits h = (refl, refl)
result_ends (fixed_text string_word times length) as_word (Some brackets) rest fits h = absurd cc

pub result_type_is : IsComplete spell_result_type GoodResult (Stops 15) result_type_at
result_type_is r rest good h =
    ap (λ us. type_at us >>= λ t behind.
    found_as (λ brackets. record { as_word = r.as_word; declared_type = t; brackets = brackets }) (part_if is_left brackets_at behind))
    (append_assoc (spell_type r.declared_type) (optional spell_brackets r.brackets) rest)
    ∙ then_is _ (type_is r.declared_type (optional spell_brackets r.brackets ++ rest) good.0 (result_ends r.declared_type r.as_word r.brackets rest good.1 h))
    (as_is _ (part_is is_left spell_brackets brackets_at brackets_is (λ b us. refl) r.brackets rest (any r.brackets) (tt, stops_no_left 15 rest h)))
  where
    any : (b : Option Brackets) → IfSome b (λ b. Unit {0})
    any None = tt
    any (Some b) = tt

-- a word of access
pub access_word : (token : Token) (r : Reading) (a : AccessWord) → access_of token r ≡ Some a → read token r ≡ word a.token (access_keyword a.access)
access_word token (reading.Keyword keyword.Public) a h = let e : record { access = access.Public; token = token } ≡ a = cc in ap (λ (w : AccessWord). word w.token (access_keyword w.access)) e
access_word token (reading.Keyword keyword.Private) a h = let e : record { access = access.Private; token = token } ≡ a = cc in ap (λ (w : AccessWord). word w.token (access_keyword w.access)) e
access_word token (reading.Keyword keyword.Friend) a h = let e : record { access = access.Friend; token = token } ≡ a = cc in ap (λ (w : AccessWord). word w.token (access_keyword w.access)) e
access_word token (reading.Keyword keyword.Global) a h = let e : record { access = access.Global; token = token } ≡ a = cc in ap (λ (w : AccessWord). word w.token (access_keyword w.access)) e
access_word token _ a h = absurd cc

-- no word of access is at the front
abbrev pub NoAccess : List ReadToken → Type 0
NoAccess [] = Unit {0}
NoAccess (t ∷ ts) = access_of t.token t.reading ≡ None

pub access_if_told : (ts : List ReadToken) → ts ≡ spell_access (access_if ts).0 ++ (access_if ts).1
access_if_told [] = refl
access_if_told (t ∷ ts) = at t.token t.reading
  where
    at : (token : Token) (r : Reading) → read token r ∷ ts ≡ spell_access (access_if (read token r ∷ ts)).0 ++ (access_if (read token r ∷ ts)).1
    at token (reading.Keyword keyword.Public) = refl
    at token (reading.Keyword keyword.Private) = refl
    at token (reading.Keyword keyword.Friend) = refl
    at token (reading.Keyword keyword.Global) = refl
    at token _ = refl
