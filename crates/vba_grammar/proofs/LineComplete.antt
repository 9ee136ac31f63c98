-- A line that fits is read, and a line of the form is not refused.
use Rattle.std.proofs.lemmas.List.{append-nil}
use Rattle.std.proofs.lemmas.Bool.Decides.{Decides-eqb}
use Rattle.std.proofs.Common.{◌≡◌, ◌+◌, true, false, List, [], ◌∷◌, ◌++◌, Option, Some, None, refl, sym, ap, ◌∙◌, append_assoc}
use Rattle.std.specs.Prelude.{◌==◌, IfSome, codes, option_map}
use Rattle.vba_lexer.specs.declared.token.Token.{Token}
use Rattle.vba_words.specs.declared.identifier.Identifier.{Identifier}
use Rattle.vba_words.specs.declared.keyword.Keyword.TheVariants as keyword
use Rattle.vba_words.specs.declared.mark.Mark.TheVariants as mark
use Rattle.vba_words.specs.declared.reading.ReadToken.{ReadToken}
use Rattle.vba_words.specs.Spelling.{word, marked, naming}
use Rattle.vba_expression.specs.declared.tree.LiteralValue.{LiteralValue}
use Rattle.vba_expression.specs.declared.tree.LiteralValue.TheVariants as literal
use Rattle.vba_expression.specs.Spelling.{spell as spell_expression}
use Rattle.vba_tree.specs.declared.declaration.Access.{Access}
use Rattle.vba_tree.specs.declared.declaration.Access.TheVariants as access
use Rattle.vba_tree.specs.declared.declaration.AccessWord.{AccessWord}
use Rattle.vba_tree.specs.declared.procedure.ProcedureWords.{ProcedureWords}
use Rattle.vba_tree.specs.declared.procedure.ProcedureWords.TheVariants as words
use Rattle.vba_tree.specs.declared.procedure.ProcedureKind.{ProcedureKind}
use Rattle.vba_tree.specs.declared.procedure.ProcedureKind.TheVariants as procedure_kind
use Rattle.vba_tree.specs.declared.line.OptionChoice.{OptionChoice}
use Rattle.vba_tree.specs.declared.line.OptionChoice.TheVariants as choice
use Rattle.vba_tree.specs.declared.line.AttributeValue.{AttributeValue}
use Rattle.vba_tree.specs.Tree.{Listed, Dim, upper, Dims, TypeClause, Parameters, ResultType, Line, option_line, attribute_line, enum_header, end_enum, type_header, type_member, end_type, event_line, procedure_header, procedure_end, statement_line}
use Rattle.vba_tree.specs.Spelling.{optional, spell_others, spell_listed, with_commas, spell_dim, spell_dims, spell_type_clause, spell_access, spell_parameters, spell_result_type, kind_token, spell_choice, spell_attribute_value, spell}
use Rattle.vba_tree.specs.Forms.{Each, EachOther, IsOneUnit, AccessIs, before_type, before_event, before_procedure, may_be_attribute, FormedDims, FormedDim, FormedType, FormedParameters, FormedChoice, FormedAttributeValue, FormedLine}
use Rattle.vba_tree.specs.Fitting.{ParametersFit, ResultFits, ChosenLine}
use Rattle.vba_grammar.specs.Front.{found_as, is_as, is_left, is_dot, begins, reads, name_at, part_if, commas_at, whole_line}
use Rattle.vba_grammar.specs.Clauses.{dims_at, type_clause_at, parameters_at, result_type_at}
use Rattle.vba_grammar.specs.Blocks.{is_name}
use Rattle.vba_grammar.specs.Lines.{of_procedure, allowed, header_of, choice_of, attribute_value_at, attribute_of, has_as, member_of_type, statements_line, headed, line_of}
use Rattle.vba_grammar.specs.Laws.{IsComplete, StatementsLaws}
use Rattle.vba_grammar.proofs.Binding.{then_is, if_is, if_not}
use Rattle.vba_grammar.proofs.Fronts.{part_is, listed_is, commas_is}
use Rattle.vba_grammar.proofs.ClausesLaws.{type_clause_is, dims_is, GoodResult, result_type_is}
use Rattle.vba_grammar.proofs.LabelFronts.{and_not}
use Rattle.vba_grammar.proofs.LineFronts.{is_kind_front, no_kind, expression_as}
use Rattle.vba_grammar.proofs.LabelsComplete.{statement_line_is}
use Rattle.vba_grammar.proofs.ParameterLaws.{GoodParameters, ParameterLaws}
use Rattle.vba_grammar.proofs.LineSound.{header_tokens, IsAny}

-- Option
one_unit : (t : Token) → IsOneUnit t → (t.end == t.start + 1) ≡ true
one_unit t h = (Decides-eqb t.end (t.start + 1)).1 h

choice_is : (c : OptionChoice) → FormedChoice c → choice_of (spell_choice c) ≡ Some c
choice_is (choice.Explicit t) f = refl
choice_is (choice.BaseZero w d) f = simp (one_unit d f)
choice_is (choice.BaseOne w d) f = simp (one_unit d f)
choice_is (choice.CompareBinary w t) f = refl
choice_is (choice.CompareText w t) f = refl
choice_is (choice.PrivateModule w t) f = refl

-- Attribute
value_is : (m : Option Token) (t : Token) (v : LiteralValue) (rest : List ReadToken) → may_be_attribute m v ≡ true
    → attribute_value_at (spell_attribute_value (record { minus = m; literal = record { token = t; value = v } }) ++ rest) ≡ Some (record { minus = m; literal = record { token = t; value = v } }, rest)
value_is None t (literal.Number n p) rest h = refl
value_is None t (literal.Text x) rest h = refl
value_is None t literal.True rest h = refl
value_is None t literal.False rest h = refl
value_is None t literal.Nothing rest h = absurd cc
value_is None t literal.Null rest h = absurd cc
value_is None t literal.Empty rest h = absurd cc
value_is (Some m) t (literal.Number n p) rest h = refl
value_is (Some m) t (literal.Text x) rest h = refl
value_is (Some m) t literal.True rest h = absurd cc
value_is (Some m) t literal.False rest h = absurd cc
value_is (Some m) t literal.Nothing rest h = absurd cc
value_is (Some m) t literal.Null rest h = absurd cc
value_is (Some m) t literal.Empty rest h = absurd cc

abbrev Always : List ReadToken → Type 0
Always rest = Unit {0}

attribute_value_is : IsComplete spell_attribute_value FormedAttributeValue Always attribute_value_at
attribute_value_is v rest good h = value_is v.minus v.literal.token v.literal.value rest good

named_is : IsComplete (λ x. naming x ∷ []) IsAny Always name_at
named_is x rest good h = refl

others_any : (others : List (Token × Identifier)) → EachOther IsAny others
others_any [] = tt
others_any (other ∷ others) = (tt, others_any others)

attribute_is : (w : Token) (names : Listed Identifier) (equal : Token) (values : Listed AttributeValue) → Each FormedAttributeValue values
    → attribute_of w (spell_listed (λ x. naming x ∷ []) mark.Dot names ++ marked equal mark.Equal ∷ with_commas spell_attribute_value values) ≡ Some (attribute_line w names equal values)
attribute_is w names equal values f =
    then_is _ (listed_is is_dot mark.Dot (λ x. naming x ∷ []) {Good = IsAny} {Behind = Always} name_at refl (λ token ts. tt) named_is names
    (marked equal mark.Equal ∷ with_commas spell_attribute_value values) (tt, others_any names.others) (tt, refl))
    (ap (λ us. whole_line (found_as (attribute_line w names equal) (commas_at attribute_value_at us))) (sym (append-nil (with_commas spell_attribute_value values)))
    ∙ ap (λ o. whole_line (found_as (attribute_line w names equal) o))
    (commas_is spell_attribute_value {Good = FormedAttributeValue} {Behind = Always} attribute_value_at (λ token ts. tt) attribute_value_is values [] f (tt, refl)))

-- headers of Enum and Type
enum_is : (a : Option AccessWord) (w : Token) (x : Identifier) → AccessIs before_type a
    → line_of (spell_access a ++ word w keyword.Enum ∷ naming x ∷ []) ≡ Some (enum_header (record { access = a; enum_word = w; name = x }))
enum_is None w x f = refl
enum_is (Some a) w x f = by_access a.access f
  where
    by_access : (k : Access) → before_type k ≡ true
        → line_of (spell_access (Some (record { access = k; token = a.token })) ++ word w keyword.Enum ∷ naming x ∷ []) ≡ Some (enum_header (record { access = Some (record { access = k; token = a.token }); enum_word = w; name = x }))
    by_access access.Public h = refl
    by_access access.Private h = refl
    by_access access.Friend h = absurd cc
    by_access access.Global h = absurd cc

type_is : (a : Option AccessWord) (w : Token) (x : Identifier) → AccessIs before_type a
    → line_of (spell_access a ++ word w keyword.Type ∷ naming x ∷ []) ≡ Some (type_header (record { access = a; type_word = w; name = x }))
type_is None w x f = refl
type_is (Some a) w x f = by_access a.access f
  where
    by_access : (k : Access) → before_type k ≡ true
        → line_of (spell_access (Some (record { access = k; token = a.token })) ++ word w keyword.Type ∷ naming x ∷ []) ≡ Some (type_header (record { access = Some (record { access = k; token = a.token }); type_word = w; name = x }))
    by_access access.Public h = refl
    by_access access.Private h = refl
    by_access access.Friend h = absurd cc
    by_access access.Global h = absurd cc

procedure_end_is : (w : Token) (k : ProcedureKind) (t : Token) → line_of (word w keyword.End ∷ kind_token t k ∷ []) ≡ Some (procedure_end (record { end_word = w; kind = k; kind_word = t }))
procedure_end_is w procedure_kind.Sub t = refl
procedure_end_is w procedure_kind.Function t = refl
procedure_end_is w procedure_kind.Property t = refl

-- a member of a Type
dim_as : (d : Dim) (rest : List ReadToken) → has_as (spell_dim d ++ rest) ≡ has_as rest
dim_as (upper e) rest = expression_as e rest
dim_as (Dim.range low w high) rest =
    ap has_as (append_assoc (spell_expression low) (word w keyword.To ∷ spell_expression high) rest)
    ∙ (expression_as low ((word w keyword.To ∷ spell_expression high) ++ rest) ∙ expression_as high rest)

others_as : (others : List (Token × Dim)) (rest : List ReadToken) → has_as (spell_others spell_dim mark.Comma others ++ rest) ≡ has_as rest
others_as [] rest = refl
others_as (other ∷ others) rest =
    ap has_as (append_assoc (spell_dim other.1) (spell_others spell_dim mark.Comma others) rest) ∙ (dim_as other.1 (spell_others spell_dim mark.Comma others ++ rest) ∙ others_as others rest)

listed_as : (o : Option (Listed Dim)) (rest : List ReadToken) → has_as (optional (with_commas spell_dim) o ++ rest) ≡ has_as rest
listed_as None rest = refl
listed_as (Some list) rest =
    ap has_as (append_assoc (spell_dim list.first) (spell_others spell_dim mark.Comma list.others) rest)
    ∙ (dim_as list.first (spell_others spell_dim mark.Comma list.others ++ rest) ∙ others_as list.others rest)

dims_as : (o : Option Dims) (rest : List ReadToken) → has_as (optional spell_dims o ++ rest) ≡ has_as rest
dims_as None rest = refl
dims_as (Some d) rest =
    ap has_as (append_assoc (optional (with_commas spell_dim) d.dims) (marked d.right mark.RightParenthesis ∷ []) rest) ∙ listed_as d.dims (marked d.right mark.RightParenthesis ∷ rest)

dims_name : (o : Option Dims) (c : TypeClause) → begins is_name (optional spell_dims o ++ spell_type_clause c) ≡ false
dims_name None c = refl
dims_name (Some d) c = refl

dims_kind : (o : Option Dims) (c : TypeClause) → is_kind_front (optional spell_dims o ++ spell_type_clause c) ≡ false
dims_kind None c = refl
dims_kind (Some d) c = refl

formed_dims : (o : Option Dims) → FormedDims o → IfSome o (λ d. IfSome d.dims (Each FormedDim))
formed_dims None f = tt
formed_dims (Some d) f = f

member_line : (x : Identifier) (ts : List ReadToken) → begins is_name ts ≡ false → is_kind_front ts ≡ false → has_as ts ≡ true → line_of (naming x ∷ ts) ≡ member_of_type (naming x ∷ ts)
member_line x ts n k h =
    if_not _ _ (and_not (reads (codes "attribute") (naming x).reading) (begins is_name ts) n)
    (ap (λ o. headed None None o (naming x ∷ ts)) (no_kind x ts k) ∙ if_is (member_of_type (naming x ∷ ts)) (statements_line (naming x ∷ ts)) h refl)

member_is : (x : Identifier) (dims : Option Dims) (c : TypeClause) → FormedDims dims → FormedType c.declared_type
    → line_of (spell (type_member x dims c)) ≡ Some (type_member x dims c)
member_is x dims c f g =
    member_line x (optional spell_dims dims ++ spell_type_clause c) (dims_name dims c) (dims_kind dims c) (dims_as dims (spell_type_clause c))
    ∙ then_is _ (part_is is_left spell_dims dims_at dims_is (λ d us. refl) dims (spell_type_clause c) (formed_dims dims f) (tt, refl))
    (ap (λ us. whole_line (found_as (type_member x dims) (type_clause_at us))) (sym (append-nil (spell_type_clause c)))
    ∙ ap (λ o. whole_line (found_as (type_member x dims) o)) (type_clause_is c [] g tt))

-- parameters and results
good_parameters : (o : Option Parameters) → FormedParameters o → ParametersFit o → IfSome o GoodParameters
good_parameters None f p = tt
good_parameters (Some ps) f p = (f, p)

good_result : (o : Option ResultType) → IfSome o (λ r. FormedType r.declared_type) → IfSome o ResultFits → IfSome o GoodResult
good_result None f p = tt
good_result (Some r) f p = (f, p)

parameters_is : ParameterLaws → (o : Option Parameters) (rest : List ReadToken) → FormedParameters o → ParametersFit o → begins is_left rest ≡ false
    → part_if is_left parameters_at (optional spell_parameters o ++ rest) ≡ Some (o, rest)
parameters_is laws o rest f p h = part_is is_left spell_parameters parameters_at laws.complete (λ a us. refl) o rest (good_parameters o f p) (tt, h)

result_is : (o : Option ResultType) → IfSome o (λ r. FormedType r.declared_type) → IfSome o ResultFits → part_if is_as result_type_at (optional spell_result_type o) ≡ Some (o, [])
result_is o f p =
    ap (part_if is_as result_type_at) (sym (append-nil (optional spell_result_type o)))
    ∙ part_is is_as spell_result_type result_type_at result_type_is (λ a us. refl) o [] (good_result o f p) (tt, refl)

pub result_left : (o : Option ResultType) → begins is_left (optional spell_result_type o) ≡ false
result_left None = refl
result_left (Some r) = refl

-- an event
pub event_front : (a : Option AccessWord) (w : Token) (x : Identifier) (us : List ReadToken) → AccessIs before_event a
    → line_of (spell_access a ++ word w keyword.Event ∷ naming x ∷ us) ≡ whole_line (found_as (event_line a w x) (part_if is_left parameters_at us))
event_front None w x us f = refl
event_front (Some a) w x us f = by_access a.access f
  where
    by_access : (k : Access) → before_event k ≡ true
        → line_of (spell_access (Some (record { access = k; token = a.token })) ++ word w keyword.Event ∷ naming x ∷ us)
        ≡ whole_line (found_as (event_line (Some (record { access = k; token = a.token })) w x) (part_if is_left parameters_at us))
    by_access access.Public h = refl
    by_access access.Private h = absurd cc
    by_access access.Friend h = absurd cc
    by_access access.Global h = absurd cc

event_is : ParameterLaws → (a : Option AccessWord) (w : Token) (x : Identifier) (o : Option Parameters) → AccessIs before_event a → FormedParameters o → ParametersFit o
    → line_of (spell (event_line a w x o)) ≡ Some (event_line a w x o)
event_is laws a w x o f g p =
    event_front a w x (optional spell_parameters o) f
    ∙ (ap (λ us. whole_line (found_as (event_line a w x) (part_if is_left parameters_at us))) (sym (append-nil (optional spell_parameters o)))
    ∙ ap (λ m. whole_line (found_as (event_line a w x) m)) (parameters_is laws o [] g p refl))

-- a procedure
pub allowed_is : (a : Option AccessWord) → AccessIs before_procedure a → allowed before_procedure a ≡ true
allowed_is None f = refl
allowed_is (Some a) f = f

procedure_access : (a : Access) (token : Token) (s : Option Token) (kind : ProcedureWords) (x : Identifier) (us : List ReadToken)
    → line_of (header_tokens (Some (record { access = a; token = token })) s (of_procedure kind) (naming x ∷ us)) ≡ header_of (Some (record { access = a; token = token })) s (of_procedure kind) (naming x ∷ us)
procedure_access access.Public token None (words.Sub t) x us = refl
procedure_access access.Public token None (words.Function t) x us = refl
procedure_access access.Public token None (words.PropertyGet t u) x us = refl
procedure_access access.Public token None (words.PropertyLet t u) x us = refl
procedure_access access.Public token None (words.PropertySet t u) x us = refl
procedure_access access.Public token (Some s) (words.Sub t) x us = refl
procedure_access access.Public token (Some s) (words.Function t) x us = refl
procedure_access access.Public token (Some s) (words.PropertyGet t u) x us = refl
procedure_access access.Public token (Some s) (words.PropertyLet t u) x us = refl
procedure_access access.Public token (Some s) (words.PropertySet t u) x us = refl
procedure_access access.Private token None (words.Sub t) x us = refl
procedure_access access.Private token None (words.Function t) x us = refl
procedure_access access.Private token None (words.PropertyGet t u) x us = refl
procedure_access access.Private token None (words.PropertyLet t u) x us = refl
procedure_access access.Private token None (words.PropertySet t u) x us = refl
procedure_access access.Private token (Some s) (words.Sub t) x us = refl
procedure_access access.Private token (Some s) (words.Function t) x us = refl
procedure_access access.Private token (Some s) (words.PropertyGet t u) x us = refl
procedure_access access.Private token (Some s) (words.PropertyLet t u) x us = refl
procedure_access access.Private token (Some s) (words.PropertySet t u) x us = refl
procedure_access access.Friend token None (words.Sub t) x us = refl
procedure_access access.Friend token None (words.Function t) x us = refl
procedure_access access.Friend token None (words.PropertyGet t u) x us = refl
procedure_access access.Friend token None (words.PropertyLet t u) x us = refl
procedure_access access.Friend token None (words.PropertySet t u) x us = refl
procedure_access access.Friend token (Some s) (words.Sub t) x us = refl
procedure_access access.Friend token (Some s) (words.Function t) x us = refl
procedure_access access.Friend token (Some s) (words.PropertyGet t u) x us = refl
procedure_access access.Friend token (Some s) (words.PropertyLet t u) x us = refl
procedure_access access.Friend token (Some s) (words.PropertySet t u) x us = refl
procedure_access access.Global token None (words.Sub t) x us = refl
procedure_access access.Global token None (words.Function t) x us = refl
procedure_access access.Global token None (words.PropertyGet t u) x us = refl
procedure_access access.Global token None (words.PropertyLet t u) x us = refl
procedure_access access.Global token None (words.PropertySet t u) x us = refl
procedure_access access.Global token (Some s) (words.Sub t) x us = refl
procedure_access access.Global token (Some s) (words.Function t) x us = refl
procedure_access access.Global token (Some s) (words.PropertyGet t u) x us = refl
procedure_access access.Global token (Some s) (words.PropertyLet t u) x us = refl
procedure_access access.Global token (Some s) (words.PropertySet t u) x us = refl

pub procedure_front : (a : Option AccessWord) (s : Option Token) (kind : ProcedureWords) (x : Identifier) (us : List ReadToken)
    → line_of (header_tokens a s (of_procedure kind) (naming x ∷ us)) ≡ header_of a s (of_procedure kind) (naming x ∷ us)
procedure_front None None (words.Sub t) x us = refl
procedure_front None None (words.Function t) x us = refl
procedure_front None None (words.PropertyGet t u) x us = refl
procedure_front None None (words.PropertyLet t u) x us = refl
procedure_front None None (words.PropertySet t u) x us = refl
procedure_front None (Some s) (words.Sub t) x us = refl
procedure_front None (Some s) (words.Function t) x us = refl
procedure_front None (Some s) (words.PropertyGet t u) x us = refl
procedure_front None (Some s) (words.PropertyLet t u) x us = refl
procedure_front None (Some s) (words.PropertySet t u) x us = refl
procedure_front (Some a) s kind x us = procedure_access a.access a.token s kind x us

procedure_is : ParameterLaws → (a : Option AccessWord) (s : Option Token) (kind : ProcedureWords) (x : Identifier) (o : Option Parameters) (r : Option ResultType)
    → FormedLine (procedure_header a s kind x o r) → ChosenLine (procedure_header a s kind x o r)
    → line_of (spell (procedure_header a s kind x o r)) ≡ Some (procedure_header a s kind x o r)
procedure_is laws a s kind x o r f c =
    procedure_front a s kind x (optional spell_parameters o ++ optional spell_result_type r)
    ∙ if_is _ None (allowed_is a f.0)
    (then_is _ (parameters_is laws o (optional spell_result_type r) f.1 c.0 (result_left r))
    (ap (λ m. whole_line (found_as (procedure_header a s kind x o) m)) (result_is r f.2 c.1)))

option_is : (w : Token) (c : OptionChoice) → FormedChoice c → line_of (word w keyword.Option ∷ spell_choice c) ≡ Some (option_line (record { option_word = w; choice = c }))
option_is w c f = ap (option_map (λ d. option_line (record { option_word = w; choice = d }))) (choice_is c f)

pub line_complete : StatementsLaws → ParameterLaws → (line : Line) → FormedLine line → ChosenLine line → line_of (spell line) ≡ Some line
line_complete laws parameters (option_line option) f c = option_is option.option_word option.choice f
line_complete laws parameters (attribute_line w names equal values) f c = attribute_is w names equal values f
line_complete laws parameters (enum_header header) f c = enum_is header.access header.enum_word header.name f
line_complete laws parameters (end_enum w t) f c = refl
line_complete laws parameters (type_header header) f c = type_is header.access header.type_word header.name f
line_complete laws parameters (type_member x dims clause) f c = member_is x dims clause f.0 f.1
line_complete laws parameters (end_type w t) f c = refl
line_complete laws parameters (event_line a w x o) f c = event_is parameters a w x o f.0 f.1 c
line_complete laws parameters (procedure_header a s kind x o r) f c = procedure_is parameters a s kind x o r f c
line_complete laws parameters (procedure_end ending) f c = procedure_end_is ending.end_word ending.kind ending.kind_word
line_complete laws parameters (statement_line label ss) f c = statement_line_is laws label ss f c.0 c.1
