-- What modules and procedures declare, in text order.
use Rattle.std.specs.Prelude.{ℕ, suc, Bool, true, false, List, [], ◌∷◌, ◌++◌, map, Option, Some, None}
use Rattle.vba_base.specs.declared.place.Place.{Place}
use Rattle.vba_lexer.specs.declared.token.Token.{Token}
use Rattle.vba_words.specs.declared.identifier.Identifier.{Identifier}
use Rattle.vba_expression.specs.Tree.{Expr, name, no_args}
use Rattle.vba_tree.specs.declared.declaration.Access.{Access}
use Rattle.vba_tree.specs.declared.declaration.Access.TheVariants as access
use Rattle.vba_tree.specs.declared.declaration.AccessWord.{AccessWord}
use Rattle.vba_tree.specs.declared.declaration.VariableWord.{VariableWord}
use Rattle.vba_tree.specs.declared.declaration.VariableWord.TheVariants as variable_word
use Rattle.vba_tree.specs.declared.procedure.ProcedureWords.{ProcedureWords}
use Rattle.vba_tree.specs.declared.procedure.ProcedureWords.TheVariants as words
use Rattle.vba_tree.specs.Tree.{Variable, Constant, Parameter, Dims, TypeClause, ResultType, variables, constants, assignment, call, simple, enum_header, end_enum, type_header, type_member, end_type, event_line, procedure_header, procedure_end}
use Rattle.vba_module.specs.Parts.{Part, statement, whole_line, place_of}
use Rattle.vba_module.specs.Headers.{all_of, parameters_of}
use Rattle.vba_module.specs.Misplaced.{is_public}

-- ---- what a module declares ([MS-VBAL] 5.2)

-- a procedure: its header, the place of that, and the parts up to its end
pub record Written : Type 0 where
  pub place : Place
  pub access : Option AccessWord
  pub static_word : Option Token
  pub kind : ProcedureWords
  pub name : Identifier
  pub parameters : List Parameter
  pub result : Option ResultType
  pub body : List Part

-- a field of a Type
pub record FieldWritten : Type 0 where
  pub name : Identifier
  pub dims : Option Dims
  pub type_clause : TypeClause

-- what an entry is. A member of an Enum is as much more as told than the value of the last member before it, or itself,
-- that has one written, or than 0
pub data What : Type 0 where
  a_variable : Variable → What
  a_constant : Constant → What
  an_enum : What
  a_member : Option Expr → ℕ → What
  a_type : List FieldWritten → What
  an_event : List Parameter → What
  a_procedure : Written → What

pub record Entry : Type 0 where
  pub name : Identifier
  pub is_public : Bool
  pub what : What

-- variables are private where no word says more
abbrev pub is_public_word : VariableWord → Bool
is_public_word variable_word.Public = true
is_public_word variable_word.Global = true
is_public_word word = false

-- and so are constants
abbrev pub is_public_constant : Option AccessWord → Bool
is_public_constant None = false
is_public_constant (Some word) = at word.access
  where
    at : Access → Bool
    at access.Public = true
    at access.Global = true
    at other = false

-- the parts up to the end of a procedure
abbrev pub body_of : List Part → List Part
body_of [] = []
body_of (whole_line (procedure_end end) ∷ parts) = []
body_of (part ∷ parts) = part ∷ body_of parts

-- the fields up to the end of a Type
abbrev pub fields_in : List Part → List FieldWritten
fields_in [] = []
fields_in (whole_line (end_type end_word type_word) ∷ parts) = []
fields_in (whole_line (type_member x dims clause) ∷ parts) = record { name = x; dims = dims; type_clause = clause } ∷ fields_in parts
fields_in (part ∷ parts) = fields_in parts

-- where a part of a module stands; in an Enum, whether that is public, and what its next member is without a value
pub data Inside : Type 0 where
  in_module : Inside
  in_procedure : Inside
  in_enum : Bool → Option Expr → ℕ → Inside

abbrev pub entries_in : Inside → List Part → List Entry
entries_in inside [] = []
entries_in in_procedure (whole_line (procedure_end end) ∷ parts) = entries_in in_module parts
entries_in in_procedure (part ∷ parts) = entries_in in_procedure parts
entries_in (in_enum public value steps) (whole_line (end_enum end_word enum_word) ∷ parts) = entries_in in_module parts
entries_in (in_enum public value steps) (statement (simple (call (name x) no_args)) ∷ parts) =
    record { name = x; is_public = public; what = a_member value steps } ∷ entries_in (in_enum public value (suc steps)) parts
entries_in (in_enum public value steps) (statement (simple (assignment None (name x) equal e)) ∷ parts) =
    record { name = x; is_public = public; what = a_member (Some e) 0 } ∷ entries_in (in_enum public (Some e) 1) parts
entries_in (in_enum public value steps) (part ∷ parts) = entries_in (in_enum public value steps) parts
entries_in in_module (whole_line (enum_header h) ∷ parts) =
    record { name = h.name; is_public = is_public h.access; what = an_enum } ∷ entries_in (in_enum (is_public h.access) None 0) parts
entries_in in_module (whole_line (type_header h) ∷ parts) =
    record { name = h.name; is_public = is_public h.access; what = a_type (fields_in parts) } ∷ entries_in in_module parts
entries_in in_module (whole_line (event_line access_word event_word x ps) ∷ parts) =
    record { name = x; is_public = true; what = an_event (parameters_of ps) } ∷ entries_in in_module parts
entries_in in_module (whole_line (procedure_header access_word static_word kind x ps result) ∷ parts) =
    record {
      name = x;
      is_public = is_public access_word;
      what = a_procedure (record {
        place = place_of (whole_line (procedure_header access_word static_word kind x ps result));
        access = access_word;
        static_word = static_word;
        kind = kind;
        name = x;
        parameters = parameters_of ps;
        result = result;
        body = body_of parts;
      });
    } ∷ entries_in in_procedure parts
entries_in in_module (statement (simple (variables word token vs)) ∷ parts) =
    map (λ v. record { name = v.name; is_public = is_public_word word; what = a_variable v }) (all_of vs) ++ entries_in in_module parts
entries_in in_module (statement (simple (constants access_word const_word cs)) ∷ parts) =
    map (λ c. record { name = c.name; is_public = is_public_constant access_word; what = a_constant c }) (all_of cs) ++ entries_in in_module parts
entries_in in_module (part ∷ parts) = entries_in in_module parts

-- ---- what a procedure declares ([MS-VBAL] 5.4.3)

-- a name of a procedure; variables that are static are kept apart from the others
pub data Own : Type 0 where
  the_result : Written → Own
  a_parameter : Parameter → Own
  a_local : Variable → (static : Bool) → Own
  a_local_constant : Constant → Own
  -- the array that a ReDim declares
  an_array : Option TypeClause → (static : Bool) → Own
  -- a name that is declared nowhere
  undeclared : (static : Bool) → Own

pub record Local : Type 0 where
  pub name : Identifier
  pub own : Own

abbrev pub is_static_word : VariableWord → Bool
is_static_word variable_word.Static = true
is_static_word word = false

-- a Function and a Property Get have a variable of their own name
abbrev pub has_result : ProcedureWords → Bool
has_result (words.Function token) = true
has_result (words.PropertyGet property_word get_word) = true
has_result kind = false

abbrev pub result_names : Written → List Local
result_names p = if_any (has_result p.kind)
  where
    if_any : Bool → List Local
    if_any true = record { name = p.name; own = the_result p } ∷ []
    if_any false = []

-- the result, then the parameters
abbrev pub header_names : Written → List Local
header_names p = result_names p ++ map (λ x. record { name = x.name; own = a_parameter x }) p.parameters

abbrev pub names_of_variables : Bool → List Variable → List Local
names_of_variables static vs = map (λ v. record { name = v.name; own = a_local v static }) vs

abbrev pub names_of_constants : List Constant → List Local
names_of_constants cs = map (λ c. record { name = c.name; own = a_local_constant c }) cs
