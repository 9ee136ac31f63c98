-- The bound project of modules, or why there is none: a rule that is broken, or a part that the bound project can't say
-- yet.
use Rattle.std.specs.Prelude.{ℕ, Bool, true, false, ◌&&◌, not, List, [], ◌∷◌, Option, Some, None, is_some, option_map, unwrap_or, length}
use Rattle.std.specs.List.{list_all}
use Rattle.vba_base.specs.declared.place.Place.{Place}
use Rattle.vba_base.specs.declared.place.Refusal.{Refusal}
use Rattle.vba_lexer.specs.declared.number.TypeSuffix.{TypeSuffix}
use Rattle.vba_tree.specs.Tree.{DeclaredType, named, fixed_text, TypeClause, NewTypeClause, Variable, Parameter, ResultType, variables, simple, type_member, procedure_header, event_line}
use Rattle.vba_module.specs.Parts.{Part, statement, whole_line, place_of}
use Rattle.vba_module.specs.Headers.{all_of, parameters_of}
use Rattle.bound_project.specs.Statements.{Statement}
use Rattle.bound_project.specs.Project.{Declarations, Body, Project}
use Rattle.bound_project.specs.Project as bound
use Rattle.binder.specs.Sources.{Source}
use Rattle.binder.specs.Options.{or_else, from_two}
use Rattle.binder.specs.Declarations.{Written, is_public_word}
use Rattle.binder.specs.Scopes.{Outside, Space, Scope, spaces_from}
use Rattle.binder.specs.Names.{scope_of, scope_in}
use Rattle.binder.specs.Types.{TypeMeant, known, of_host, type_meant}
use Rattle.binder.specs.Constants.{home}
use Rattle.binder.specs.Numbering.{Standing, standings_in, body_count}
use Rattle.binder.specs.Storage.{first_static}
use Rattle.bound_forms.specs.StatementsBound.{Around, part_statements, all_statements}
use Rattle.binder.specs.Blocks.{blocks_in}
use Rattle.binder.specs.Projects.{numbered, declarations_of, Startup, startup_number, no_space, broken_rule}
use Rattle.vba_lexer.specs.declared.number.TypeSuffix.TheVariants as suffix

-- ---- procedures

abbrev pub around_of : Scope → ℕ × Written → Around
around_of s p = record {
  env = record { scope = scope_in s p.1; first = first_static s p.0; within = None };
  parts = standings_in p.1.body;
  end = body_count p.1.body;
}

abbrev pub body_with : List Standing → List Statement → Body
body_with parts statements = record { statements = statements; blocks = blocks_in parts parts }

abbrev pub bound_body : Scope → ℕ × Written → Option Body
bound_body s p = let a = around_of s p in option_map (body_with a.parts) (all_statements a a.parts)

-- ---- what isn't built: public arrays of a class that are declared As New, and types that the profile hasn't

abbrev pub is_built_meant : Option TypeMeant → Bool
is_built_meant (Some (known of)) = true
is_built_meant (Some of_host) = true
is_built_meant other = false

abbrev pub is_built_written : Scope → DeclaredType → Bool
is_built_written s (named t) = is_built_meant (type_meant s t)
is_built_written s (fixed_text string_word times e) = true

abbrev pub is_built_suffix : Option TypeSuffix → Bool
is_built_suffix (Some suffix.Single) = false
is_built_suffix (Some suffix.Double) = false
is_built_suffix other = true

abbrev pub is_built_clause : Scope → Option TypeSuffix → Option TypeClause → Bool
is_built_clause s x None = is_built_suffix x
is_built_clause s x (Some c) = is_built_suffix x && is_built_written s c.declared_type

abbrev pub is_built_new : Scope → (is_open_array : Bool) → Option TypeSuffix → Option NewTypeClause → Bool
is_built_new s is_open_array x None = is_built_suffix x
is_built_new s is_open_array x (Some c) = is_built_suffix x && (not (is_open_array && is_some c.new_word) && is_built_written s c.declared_type)

-- a variable, which objects show or not
abbrev pub is_built_variable : Scope → (is_open : Bool) → Variable → Bool
is_built_variable s is_open v = is_built_new s (is_open && is_some v.dims) v.name.suffix v.type_clause

abbrev pub is_built_parameter : Scope → Parameter → Bool
is_built_parameter s p = is_built_clause s p.name.suffix p.type_clause

abbrev pub is_built_result : Scope → Option ResultType → Bool
is_built_result s None = true
is_built_result s (Some r) = is_built_written s r.declared_type

-- a declaration; other parts are told by what they are bound to
abbrev pub is_built_part : Scope → Part → Bool
is_built_part s (statement (simple (variables word token vs))) = list_all (is_built_variable s (s.here.source.is_class && is_public_word word)) (all_of vs)
is_built_part s (whole_line (type_member x dims clause)) = is_built_written s clause.declared_type
is_built_part s (whole_line (procedure_header access static_word kind x ps result)) =
    is_built_suffix x.suffix && (is_built_result s result && list_all (is_built_parameter s) (parameters_of ps))
is_built_part s (whole_line (event_line access_word event_word x ps)) = list_all (is_built_parameter s) (parameters_of ps)
is_built_part s part = true

abbrev pub place_unless : Bool → Place → Option Place
place_unless true place = None
place_unless false place = Some place

-- the first part of a body that isn't built
abbrev pub left_in_body : Around → List Standing → Option Place
left_in_body a [] = None
left_in_body a (s ∷ ss) = or_else (place_unless (is_built_part a.env.scope s.part && is_some (part_statements a s)) (place_of s.part)) (left_in_body a ss)

-- the first part of a module, in text order, with its procedures in order
abbrev pub left_in_parts : Scope → List (ℕ × Written) → List Part → Option Place
left_in_parts s ps [] = None
left_in_parts s (p ∷ ps) (whole_line (procedure_header access static_word kind x qs result) ∷ parts) =
    let part = whole_line (procedure_header access static_word kind x qs result) in
    or_else (place_unless (is_built_part s part) (place_of part)) (or_else (left_in_body (around_of s p) (around_of s p).parts) (left_in_parts s ps parts))
left_in_parts s ps (part ∷ parts) = or_else (place_unless (is_built_part s part) (place_of part)) (left_in_parts s ps parts)

abbrev pub left_in_space : Scope → Option Place
left_in_space s = left_in_parts s (numbered 0 s.here.entries) s.here.source.parts

abbrev pub left_in_spaces : Outside → List Space → List Space → Option Place
left_in_spaces o all [] = None
left_in_spaces o all (space ∷ spaces) = or_else (left_in_space (scope_of o all space)) (left_in_spaces o all spaces)

-- where the first part stands that isn't built
abbrev pub not_built : Outside → List Source → Option Place
not_built o sources = let spaces = spaces_from 0 sources in left_in_spaces o spaces spaces

-- ---- projects

abbrev pub bodies_of : Scope → List (ℕ × Written) → Option (List Body) → Option (List Body)
bodies_of s [] others = others
bodies_of s (p ∷ ps) others = from_two (λ b bs. b ∷ bs) (bound_body s p) (bodies_of s ps others)

abbrev pub all_bodies : Scope → List Space → Option (List Body)
all_bodies s [] = Some []
all_bodies s (space ∷ spaces) = bodies_of (home s space) (numbered 0 space.entries) (all_bodies s spaces)

-- a project by its declarations; where the startup isn't there, no procedure has its number
abbrev pub project_with : Declarations → Option ℕ → List Body → Project
project_with d startup bodies = record { declared = d; bodies = bodies; startup = unwrap_or startup (length d.procedures) }

abbrev pub project_of : Outside → List Source → Startup → Option Project
project_of o sources st =
    let spaces = spaces_from 0 sources in
    let s = scope_of o spaces no_space in
    option_map (project_with (declarations_of o s spaces) (startup_number s st spaces)) (all_bodies s spaces)

pub data Answer : Type 0 where
  refused : Refusal → Answer
  not_built_at : Place → Answer
  bound_as : Project → Answer

abbrev pub answer_by : Option Refusal → Option Place → Option Project → Answer
answer_by (Some r) place project = refused r
answer_by None (Some place) project = not_built_at place
answer_by None None (Some project) = bound_as project
answer_by None None None = not_built_at bound.nowhere

-- modules in the order of the project, bound
abbrev pub bind_of : Outside → List Source → Startup → Answer
bind_of o sources st = answer_by (broken_rule o sources st) (not_built o sources) (project_of o sources st)
