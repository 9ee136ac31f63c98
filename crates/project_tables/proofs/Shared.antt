-- What a project declares, module by module.
use Rattle.std.proofs.Common.{◌≡◌, ℕ, suc, Bool, List, [], ◌∷◌, ◌++◌, map, refl, sym, ap, ◌∙◌, take}
use Rattle.std.proofs.lemmas.List.{append-nil, map-append}
use Rattle.vba_words.specs.declared.identifier.Identifier.{Identifier}
use Rattle.bound_project.specs.Project as bound
use Rattle.bound_project.specs.View.{module_view, procedure_view, class_view, named_view}
use Rattle.bound_project.specs.declared.declarations.Module.{Module}
use Rattle.bound_project.specs.declared.declarations.Procedure.{Procedure}
use Rattle.bound_declarations.specs.constant_values.specs.declared_names.specs.binder.specs.Projects.{numbered, bound_procedure, procedures_of}
use Rattle.bound_declarations.specs.constant_values.specs.declared_names.specs.binder.specs.Declarations.{Written, What, a_variable, a_constant, an_enum, a_member, a_type, an_event, a_procedure, Entry}
use Rattle.bound_declarations.specs.constant_values.specs.declared_names.specs.binder.specs.Names.{scope_in, locals_of}
use Rattle.bound_declarations.specs.constant_values.specs.declared_names.specs.binder.specs.Scopes.{Scope}
use Rattle.bound_declarations.specs.constant_values.specs.declared_names.specs.binder.specs.Storage.{declarations_if, is_static, static_declarations}
use Rattle.project_tables.specs.declared.rows.ProcedureRow.{ProcedureRow}
use Rattle.project_tables.specs.Rows.{row_of, row_view, AreRowsOf}
use Rattle.project_tables.specs.Steps.{statics_in, procedure_of}
use Rattle.bound_project.specs.declared.declarations.Class.{Class}
use Rattle.bound_project.specs.declared.declarations.NamedMember.{NamedMember}
use Rattle.bound_declarations.specs.constant_values.specs.declared_names.specs.View.{entry_view}
use Rattle.bound_declarations.specs.constant_values.specs.declared_names.specs.declared.entry.Entry.{Entry as EntryHere}
use Rattle.bound_declarations.specs.constant_values.specs.declared_names.proofs.Walks.{take_map}

pub modules_push : (xs : List Module) (x : Module) → map module_view (xs ++ x ∷ []) ≡ map module_view xs ++ module_view x ∷ []
modules_push xs x = map-append module_view xs (x ∷ [])

pub procedures_push : (xs : List Procedure) (x : Procedure) → map procedure_view (xs ++ x ∷ []) ≡ map procedure_view xs ++ procedure_view x ∷ []
procedures_push xs x = map-append procedure_view xs (x ∷ [])

-- ---- what modules share

statics_more : (s : Scope) (number : ℕ) (x : Identifier) (public : Bool) (what : What) (es : List Entry)
    → static_declarations s es ≡ statics_in s (map (row_of s) (numbered (suc number) es))
    → static_declarations s (record { name = x; is_public = public; what = what } ∷ es)
    ≡ statics_in s (map (row_of s) (numbered number (record { name = x; is_public = public; what = what } ∷ es)))
statics_more s number x public (a_variable v) es h = h
statics_more s number x public (a_constant c) es h = h
statics_more s number x public an_enum es h = h
statics_more s number x public (a_member value steps) es h = h
statics_more s number x public (a_type fields) es h = h
statics_more s number x public (an_event ps) es h = h
statics_more s number x public (a_procedure p) es h = ap (λ (ds : List bound.Declaration). declarations_if is_static (scope_in s p) (locals_of s p) ++ ds) h

statics_are : (s : Scope) (number : ℕ) (es : List Entry) → static_declarations s es ≡ statics_in s (map (row_of s) (numbered number es))
statics_are s number [] = refl
statics_are s number (e ∷ es) = statics_more s number e.name e.is_public e.what es (statics_are s (suc number) es)

pub shared_is : (s : Scope) (rows : List ProcedureRow) → AreRowsOf s rows → statics_in s (map row_view rows) ≡ static_declarations s s.here.entries
shared_is s rows are = ap (statics_in s) are.rows_are ∙ sym (statics_are s 0 s.here.entries)

-- ---- procedures

all_bound : (s : Scope) (ps : List (ℕ × Written)) → map (procedure_of s) (map (row_of s) ps) ≡ map (bound_procedure s) ps
all_bound s [] = refl
all_bound s (p ∷ ps) = ap (λ xs. bound_procedure s p ∷ xs) (all_bound s ps)

pub module_bound : (s : Scope) (rows : List ProcedureRow) → AreRowsOf s rows → map (procedure_of s) (map row_view rows) ≡ procedures_of s
module_bound s rows are = ap (map (procedure_of s)) are.rows_are ∙ all_bound s (numbered 0 s.here.entries)

-- ---- classes

pub classes_push : (xs : List Class) (x : Class) → map class_view (xs ++ x ∷ []) ≡ map class_view xs ++ class_view x ∷ []
classes_push xs x = map-append class_view xs (x ∷ [])

pub named_push : (xs : List NamedMember) (x : NamedMember) → map named_view (xs ++ x ∷ []) ≡ map named_view xs ++ named_view x ∷ []
named_push xs x = map-append named_view xs (x ∷ [])

-- the first entries of a module
pub take_entries : (n : ℕ) (es : List EntryHere) → map entry_view (take n es) ≡ take n (map entry_view es)
take_entries n es = sym (take_map entry_view n es)

pub none_pushed : (xs : List NamedMember) → map named_view xs ≡ map named_view xs ++ []
none_pushed xs = sym (append-nil (map named_view xs))
