-- One part more of a module.
use Rattle.std.proofs.Common.{◌≡◌, List, [], ◌∷◌, ◌++◌, Some, None, refl}
use Rattle.vba_expression.specs.Tree.{name, no_args}
use Rattle.vba_tree.specs.Tree.{variables, constants, assignment, call, simple, enum_header, end_enum, type_header, event_line, procedure_header, procedure_end}
use Rattle.vba_module.specs.Parts as parts
use Rattle.vba_module.specs.Parts.{statement, whole_line}
use Rattle.binder.specs.Declarations.{Entry, Inside, in_module, in_procedure, in_enum, entries_in}
use Rattle.declared_names.specs.Entries.{after, declared}

pub entries_step : (inside : Inside) (p : parts.Part) (ps : List parts.Part) → entries_in inside (p ∷ ps) ≡ declared inside p ps ++ entries_in (after inside p) ps
entries_step in_procedure (whole_line (procedure_end end)) ps = refl
entries_step in_procedure p ps = refl
entries_step (in_enum public value steps) (whole_line (end_enum end_word enum_word)) ps = refl
entries_step (in_enum public value steps) (statement (simple (call (name x) no_args))) ps = refl
entries_step (in_enum public value steps) (statement (simple (assignment None (name x) equal e))) ps = refl
entries_step (in_enum public value steps) p ps = refl
entries_step in_module (whole_line (enum_header h)) ps = refl
entries_step in_module (whole_line (type_header h)) ps = refl
entries_step in_module (whole_line (event_line access_word event_word x qs)) ps = refl
entries_step in_module (whole_line (procedure_header access_word static_word kind x qs result)) ps = refl
entries_step in_module (statement (simple (variables word token vs))) ps = refl
entries_step in_module (statement (simple (constants access_word const_word cs))) ps = refl
entries_step in_module p ps = refl
