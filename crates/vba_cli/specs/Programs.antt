-- Serves the code: what reading files as a program gives.
use Rattle.std.specs.Prelude.{◌≡◌, ℕ, List, [], ◌∷◌, map, Option, Some, None, Result, Ok, Err, Vec}
use Rattle.std.specs.declared.alloc.Global.{Global}
use Rattle.vba_base.specs.declared.fault.OrMemory.{OrMemory}
use Rattle.vba_base.specs.declared.fault.OrMemory.TheVariants.{Fault, NoMemory}
use Rattle.vba_base.specs.declared.place.Place.{Place}
use Rattle.vba_base.specs.declared.place.Refusal.{Refusal}
use Rattle.bound_project.specs.Bodies.{Fits, project_view}
use Rattle.bound_forms.specs.Bind.{Answer, refused, not_built_at, bound_as}
use Rattle.bind_project.specs.declared.bound.Bound.{Bound}
use Rattle.bind_project.specs.declared.bound.Bound.TheVariants as bound
use Rattle.constant_values.specs.declared_names.specs.binder.specs.Scopes.{Space}
use Rattle.constant_values.specs.declared_names.specs.binder.specs.Sources.{Source}
use Rattle.constant_values.specs.declared_names.specs.module_parts.specs.View.{parts_view}
use Rattle.vba_lexer.specs.Lexed.{lines_view}
use Rattle.vba_cli.specs.declared.kept.Kept.{Kept}
use Rattle.vba_cli.specs.declared.modules.ReadModule.{ReadModule}
use Rattle.vba_cli.specs.Program as program
use Rattle.vba_cli.specs.Program.{bound_rule}

-- a project that is bound fits
abbrev pub IsFitted : Bound → Type 0
IsFitted (bound.NotBuilt place) = Unit {0}
IsFitted (bound.Runs pr) = Fits pr

-- the first rule that what was bound breaks
abbrev pub rule_of : Bound → Option Refusal
rule_of (bound.NotBuilt place) = None
rule_of (bound.Runs pr) = bound_rule None (Some (project_view pr))

-- what was bound, unless a rule is broken
abbrev pub unless_refused : Option Refusal → Bound → Result Bound (OrMemory Refusal)
unless_refused None b = Ok b
unless_refused (Some refusal) b = Err (Fault refusal)

-- a rule is broken, whether or not vbarun tells a part that isn't built yet
pub record IsRefused (answer : (told : Option Place) → Answer) (refusal : Refusal) : Type 0 where
  pub told : Option Place
  pub is : answer told ≡ refused refusal

-- reading gives the answer, by the part that it tells not to be built yet
abbrev pub IsProgram : (answer : (told : Option Place) → Answer) → Result Bound (OrMemory Refusal) → Type 0
IsProgram answer (Ok (bound.NotBuilt place)) = answer (Some place) ≡ not_built_at place
IsProgram answer (Ok (bound.Runs pr)) = Fits pr × (answer None ≡ bound_as (project_view pr))
IsProgram answer (Err (Fault refusal)) = IsRefused answer refusal
IsProgram answer (Err NoMemory) = Unit {0}

-- a module behind the rules of tokens and directives
abbrev pub kept_view : Kept → program.Kept
kept_view k = record { is_class = k.is_class; text = k.text; lines = lines_view k.lines.items }

abbrev pub kepts_view : Vec Kept Global → List program.Kept
kepts_view ks = map kept_view ks.items

-- a module behind the rules of lines and modules
abbrev pub module_view : ReadModule → Source
module_view m = record { is_class = m.is_class; text = m.text.now; parts = parts_view m.parts.items }

abbrev pub modules_view : Vec ReadModule Global → List Source
modules_view ms = map module_view ms.items

-- the fold by which the macro to begin with is looked up, where it is in the first module
abbrev pub first_fold : List Space → List ℕ
first_fold [] = []
first_fold (space ∷ spaces) = space.name.fold
