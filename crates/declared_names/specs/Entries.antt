-- Serves the code: what one part of a module declares, and where the next part stands.
use Rattle.std.specs.Prelude.{ℕ, suc, Bool, true, false, List, [], ◌∷◌, map, Option, Some, None, option_map, if◌then◌else◌}
use Rattle.vba_words.specs.declared.identifier.Identifier.{Identifier}
use Rattle.vba_expression.specs.Tree.{Expr, name, no_args}
use Rattle.vba_expression.specs.View.{view as expression_view}
use Rattle.vba_tree.specs.declared.declaration.Access.{Access}
use Rattle.vba_tree.specs.declared.declaration.AccessWord.{AccessWord}
use Rattle.vba_tree.specs.declared.declaration.VariableWord.{VariableWord}
use Rattle.vba_tree.specs.Tree.{Variable, Constant, variables, constants, assignment, call, simple, enum_header, end_enum, type_header, event_line, procedure_header, procedure_end}
use Rattle.vba_module.specs.Parts.{Part, statement, whole_line, place_of}
use Rattle.vba_module.specs.Headers.{all_of, parameters_of}
use Rattle.vba_module.specs.Misplaced.{is_public}
use Rattle.binder.specs.Declarations.{What, a_variable, a_constant, an_enum, a_member, a_type, an_event, a_procedure, Entry, Inside, in_module, in_procedure, in_enum, is_public_word, is_public_constant, body_of, fields_in}
use Rattle.declared_names.specs.declared.inside.Inside.{Inside as InsideHere}
use Rattle.declared_names.specs.declared.inside.Inside.TheVariants as inside
use Rattle.declared_names.specs.declared.member.Member.{Member}
use Rattle.declared_names.specs.declared.entry.Entry.{Entry as EntryHere}
use Rattle.declared_names.specs.View.{entry_view}

abbrev pub optional_entry : Option EntryHere → List Entry
optional_entry None = []
optional_entry (Some e) = entry_view e ∷ []

abbrev pub inside_view : InsideHere → Inside
inside_view inside.Module = in_module
inside_view inside.Procedure = in_procedure
inside_view (inside.Enum public value steps) = in_enum public (option_map (λ e. expression_view e.now) value) steps

-- a member of an Enum, and its value
abbrev pub member_view : Member → Identifier × Option Expr
member_view m = (m.name.now, option_map (λ e. expression_view e.now) m.value)

abbrev pub member_in : Part → Option (Identifier × Option Expr)
member_in (statement (simple (call (name x) no_args))) = Some (x, None)
member_in (statement (simple (assignment None (name x) equal e))) = Some (x, Some e)
member_in part = None

-- what a member is
abbrev pub member_what : Option Expr → ℕ → Option Expr → What
member_what value steps None = a_member value steps
member_what value steps (Some e) = a_member (Some e) 0

abbrev pub member_entries : Bool → Option Expr → ℕ → Option (Identifier × Option Expr) → List Entry
member_entries public value steps None = []
member_entries public value steps (Some m) = record { name = m.0; is_public = public; what = member_what value steps m.1 } ∷ []

abbrev pub variable_entries : VariableWord → List Variable → List Entry
variable_entries word vs = map (λ v. record { name = v.name; is_public = is_public_word word; what = a_variable v }) vs

abbrev pub constant_entries : Option AccessWord → List Constant → List Entry
constant_entries access cs = map (λ c. record { name = c.name; is_public = is_public_constant access; what = a_constant c }) cs

-- outside of procedures and Enums, before other parts
abbrev pub declared_at_top : Part → List Part → List Entry
declared_at_top (whole_line (enum_header h)) behind = record { name = h.name; is_public = is_public h.access; what = an_enum } ∷ []
declared_at_top (whole_line (type_header h)) behind = record { name = h.name; is_public = is_public h.access; what = a_type (fields_in behind) } ∷ []
declared_at_top (whole_line (event_line access_word event_word x ps)) behind = record { name = x; is_public = true; what = an_event (parameters_of ps) } ∷ []
declared_at_top (whole_line (procedure_header access_word static_word kind x ps result)) behind =
    record {
      name = x;
      is_public = is_public access_word;
      what = a_procedure (record {
        place = place_of (whole_line (procedure_header access_word static_word kind x ps result));
        access = access_word;
        static_word = static_word;
        kind = kind;
        name = x;
        parameters = parameters_of ps;
        result = result;
        body = body_of behind;
      });
    } ∷ []
declared_at_top (statement (simple (variables word token vs))) behind = variable_entries word (all_of vs)
declared_at_top (statement (simple (constants access_word const_word cs))) behind = constant_entries access_word (all_of cs)
declared_at_top part behind = []

-- anywhere in a module
abbrev pub declared : Inside → Part → List Part → List Entry
declared in_module part behind = declared_at_top part behind
declared in_procedure part behind = []
declared (in_enum public value steps) part behind = member_entries public value steps (member_in part)

abbrev pub is_procedure_end : Part → Bool
is_procedure_end (whole_line (procedure_end end)) = true
is_procedure_end part = false

abbrev pub is_enum_end : Part → Bool
is_enum_end (whole_line (end_enum end_word enum_word)) = true
is_enum_end part = false

abbrev pub after_in_module : Part → Inside
after_in_module (whole_line (enum_header h)) = in_enum (is_public h.access) None 0
after_in_module (whole_line (procedure_header access_word static_word kind x ps result)) = in_procedure
after_in_module part = in_module

-- behind a member, where one is written
abbrev pub after_member : Bool → Option Expr → ℕ → Option (Identifier × Option Expr) → Inside
after_member public value steps None = in_enum public value steps
after_member public value steps (Some m) = at m.1
  where
    at : Option Expr → Inside
    at None = in_enum public value (suc steps)
    at (Some e) = in_enum public (Some e) 1

-- where the part behind one stands
abbrev pub after : Inside → Part → Inside
after in_module part = after_in_module part
after in_procedure part = if is_procedure_end part then in_module else in_procedure
after (in_enum public value steps) part = if is_enum_end part then in_module else after_member public value steps (member_in part)
