-- Worked rows of the rules on signatures. Types are those of suffixes.
use Rattle.std.proofs.Common.{◌≡◌, ℕ, Bool, true, false, List, [], ◌∷◌, Option, Some, None, refl}
use Rattle.std.specs.Prelude.{codes}
use Rattle.vba_base.specs.declared.place.Place.{Place}
use Rattle.vba_base.specs.declared.place.Refusal.{Refusal}
use Rattle.vba_lexer.specs.declared.number.TypeSuffix.{TypeSuffix}
use Rattle.vba_lexer.specs.declared.number.TypeSuffix.TheVariants as suffix
use Rattle.vba_lexer.specs.declared.token.Token.{Token}
use Rattle.vba_lexer.specs.declared.token.TokenKind.TheVariants.{Word}
use Rattle.vba_words.specs.declared.identifier.Identifier.{Identifier}
use Rattle.vba_tree.specs.declared.procedure.Passing.TheVariants.{ByVal, ByRef}
use Rattle.vba_tree.specs.declared.procedure.ProcedureWords.{ProcedureWords}
use Rattle.vba_tree.specs.declared.procedure.ProcedureWords.TheVariants as words
use Rattle.vba_tree.specs.Tree.{named, Parameter}
use Rattle.bound_declarations.specs.constant_values.specs.declared_names.specs.binder.specs.Declarations.{Entry, a_variable, an_event, a_procedure}
use Rattle.bound_declarations.specs.constant_values.specs.declared_names.specs.binder.specs.Names.{scope_of}
use Rattle.bound_declarations.specs.constant_values.specs.declared_names.specs.binder.specs.Scopes.{Outside, Space}
use Rattle.signature_rules.specs.Signatures.{signature_faults}

-- ---- what is written

abbrev place : ℕ → Place
place column = record { «module» = 1; line = 1; column = column }

abbrev token : ℕ → Token
token column = record { kind = Word; start = 0; end = 0; place = place column }

abbrev name : ℕ → List ℕ → Option TypeSuffix → Identifier
name column fold of = record { token = token column; name = fold; suffix = of; is_bracketed = false }

-- a parameter with a suffix
abbrev a : Option TypeSuffix → Parameter
a of = record {
  optional_word = None;
  passing = None;
  param_array_word = None;
  name = name 1 (codes "a") of;
  brackets = None;
  type_clause = None;
  default = None;
}

abbrev long : Parameter
long = a (Some suffix.Long)

abbrev by_value : Parameter → Parameter
by_value p = record p { passing = Some (record { passing = ByVal; token = token 1 }) }

abbrev by_reference : Parameter → Parameter
by_reference p = record p { passing = Some (record { passing = ByRef; token = token 1 }) }

abbrev optional : Parameter → Parameter
optional p = record p { optional_word = Some (token 1) }

abbrev many : Parameter → Parameter
many p = record p { param_array_word = Some (token 1) }

-- a procedure whose name stands at a column
abbrev written : ProcedureWords → List ℕ → ℕ → Option TypeSuffix → List Parameter → Entry
written kind fold column of ps = record {
  name = name column fold of;
  is_public = true;
  what = a_procedure (record {
    place = place 1;
    access = None;
    static_word = None;
    kind = kind;
    name = name column fold of;
    parameters = ps;
    result = None;
    body = [];
  });
}

abbrev get : ℕ → Option TypeSuffix → List Parameter → Entry
get column of ps = written (words.PropertyGet (token 1) (token 1)) (codes "p") column of ps

abbrev let_of : ℕ → List Parameter → Entry
let_of column ps = written (words.PropertyLet (token 1) (token 1)) (codes "p") column None ps

abbrev set_of : ℕ → List Parameter → Entry
set_of column ps = written (words.PropertySet (token 1) (token 1)) (codes "p") column None ps

abbrev sub : List ℕ → ℕ → List Parameter → Entry
sub fold column ps = written (words.Sub (token 1)) fold column None ps

abbrev function : List ℕ → ℕ → List Parameter → Entry
function fold column ps = written (words.Function (token 1)) fold column None ps

-- the variable s WithEvents of a type
abbrev source : List ℕ → Entry
source class = record {
  name = name 1 (codes "s") None;
  is_public = false;
  what = a_variable (record {
    with_events_word = Some (token 1);
    name = name 1 (codes "s") None;
    dims = None;
    type_clause = Some (record {
      as_word = token 1;
      new_word = None;
      declared_type = named (record { qualifier = None; name = name 1 class None });
    });
  });
}

abbrev event : List ℕ → List Parameter → Entry
event fold ps = record { name = name 1 fold None; is_public = true; what = an_event ps }

abbrev space : ℕ → Bool → List ℕ → List Entry → Space
space number is_class fold es = record {
  number = number;
  source = record { is_class = is_class; text = []; parts = [] };
  name = record { spelling = fold; fold = fold };
  entries = es;
}

-- a class with an event e(ByVal a&)
abbrev events : Space
events = space 1 true (codes "c") (event (codes "e") (by_value long ∷ []) ∷ [])

-- what a module breaks beside that class
abbrev module_faults : Outside → List Entry → List Refusal
module_faults o es = signature_faults (scope_of o (space 0 false (codes "m") es ∷ events ∷ []) (space 0 false (codes "m") es))

abbrev class_faults : Outside → List Entry → List Refusal
class_faults o es = signature_faults (scope_of o (space 0 true (codes "m") es ∷ events ∷ []) (space 0 true (codes "m") es))

abbrev differs_at : ℕ → Refusal
differs_at column = record { rule = 31; place = place column }

abbrev wrong_at : ℕ → Refusal
wrong_at column = record { rule = 32; place = place column }

-- ---- S31

value_as_another_type : (o : Outside) → module_faults o (get 2 (Some suffix.Long) [] ∷ let_of 3 (a (Some suffix.Integer) ∷ []) ∷ []) ≡ differs_at 3 ∷ []
value_as_another_type o = refl

value_as_the_same_type : (o : Outside) → module_faults o (get 2 (Some suffix.Long) [] ∷ let_of 3 (by_value long ∷ []) ∷ []) ≡ []
value_as_the_same_type o = refl

parameter_as_another_type : (o : Outside)
    → module_faults o (get 2 (Some suffix.Long) (long ∷ []) ∷ let_of 3 (a None ∷ long ∷ []) ∷ []) ≡ differs_at 3 ∷ []
parameter_as_another_type o = refl

parameter_by_value : (o : Outside)
    → module_faults o (get 2 (Some suffix.Long) (by_value long ∷ []) ∷ let_of 3 (long ∷ long ∷ []) ∷ []) ≡ differs_at 3 ∷ []
parameter_by_value o = refl

parameter_by_reference : (o : Outside)
    → module_faults o (get 2 (Some suffix.Long) (by_reference long ∷ []) ∷ let_of 3 (long ∷ long ∷ []) ∷ []) ≡ []
parameter_by_reference o = refl

parameter_optional : (o : Outside)
    → module_faults o (get 2 (Some suffix.Long) (optional long ∷ []) ∷ let_of 3 (long ∷ long ∷ []) ∷ []) ≡ differs_at 3 ∷ []
parameter_optional o = refl

parameter_too_many : (o : Outside)
    → module_faults o (get 2 (Some suffix.Long) (long ∷ long ∷ []) ∷ let_of 3 (long ∷ long ∷ []) ∷ []) ≡ differs_at 3 ∷ []
parameter_too_many o = refl

parameter_array : (o : Outside)
    → module_faults o (get 2 (Some suffix.Long) (many (a None) ∷ []) ∷ let_of 3 (a None ∷ long ∷ []) ∷ []) ≡ differs_at 3 ∷ []
parameter_array o = refl

third_alone_differs : (o : Outside)
    → module_faults o (get 2 (Some suffix.Long) [] ∷ let_of 3 (long ∷ []) ∷ set_of 4 (a None ∷ []) ∷ []) ≡ differs_at 4 ∷ []
third_alone_differs o = refl

-- ---- S32

handler_with_one_too_many : (o : Outside)
    → class_faults o (source (codes "c") ∷ sub (codes "s_e") 5 (by_value long ∷ long ∷ []) ∷ []) ≡ wrong_at 5 ∷ []
handler_with_one_too_many o = refl

handler_as_its_event : (o : Outside) → class_faults o (source (codes "c") ∷ sub (codes "s_e") 5 (by_value long ∷ []) ∷ []) ≡ []
handler_as_its_event o = refl

handler_of_a_sheet : (o : Outside) → class_faults o (source (codes "worksheet") ∷ sub (codes "s_change") 5 [] ∷ []) ≡ wrong_at 5 ∷ []
handler_of_a_sheet o = refl

initialize_with_a_parameter : (o : Outside) → class_faults o (sub (codes "class_initialize") 5 (optional long ∷ []) ∷ []) ≡ wrong_at 5 ∷ []
initialize_with_a_parameter o = refl

initialize_of_a_module : (o : Outside) → module_faults o (sub (codes "class_initialize") 5 (long ∷ []) ∷ []) ≡ []
initialize_of_a_module o = refl

function_named_so : (o : Outside) → class_faults o (source (codes "c") ∷ function (codes "s_e") 5 [] ∷ []) ≡ []
function_named_so o = refl
