-- What the files of modules are: a project that runs, or why they are none. The rules come in phases: those of tokens and
-- directives for all modules, then those of lines and modules for all, then those of names, then the startup, what the
-- language leaves out, Double results and signatures.
use Rattle.std.specs.Prelude.{ℕ, suc, Bool, List, [], ◌∷◌, codes, Option, Some, None, Result, Ok, Err, nat_lt, if◌then◌else◌}
use Rattle.vba_base.specs.Decode.{decoded}
use Rattle.vba_base.specs.declared.place.Place.{Place}
use Rattle.vba_base.specs.declared.place.Refusal.{Refusal}
use Rattle.vba_lexer.specs.Lexed.{LexedLine, lexed}
use Rattle.cond_compile.specs.Selection.{selected}
use Rattle.vba_module.specs.Parts.{parts_of_lines}
use Rattle.vba_module.specs.Verdict.{trees_of}
use Rattle.module_parser.specs.Parsed.{verdict, read_lexed}
use Rattle.refusal_order.specs.Least.{least_of_both}
use Rattle.bound_project.specs.Project.{Project}
use Rattle.static_rules.specs.Broken.{first_broken}
use Rattle.constant_values.specs.declared_names.specs.binder.specs.Sources.{Source, given_name, name_or}
use Rattle.constant_values.specs.declared_names.specs.binder.specs.Options.{or_else}
use Rattle.constant_values.specs.declared_names.specs.binder.specs.Scopes.{Space, spaces_from}
use Rattle.constant_values.specs.declared_names.specs.binder.specs.Violations as names
use Rattle.constant_values.specs.declared_names.specs.binder.specs.LeftOut.{first_left_out}
use Rattle.bound_forms.specs.Bind.{Answer, refused, answer_by, not_built, project_of}
use Rattle.constant_values.specs.declared_names.specs.binder.specs.Projects.{Startup, startup_fault}
use Rattle.signature_rules.specs.Signatures.{first_signature}
use Rattle.constant_values.specs.declared_names.specs.Outside.{the_outside}
use Rattle.list_file.specs.Lists.{Start}
use Rattle.list_file.specs.Plans.{ModuleFile}

-- ---- one phase for all modules

-- what comes of one thing, and what comes of those behind it; the first refusal counts
abbrev pub before : {X : Type 0} → Result X Refusal → Result (List X) Refusal → Result (List X) Refusal
before (Err refusal) others = Err refusal
before (Ok x) (Err refusal) = Err refusal
before (Ok x) (Ok xs) = Ok (x ∷ xs)

-- what comes of each, by its number from this one on, or the refusal of the first that is refused
abbrev pub each : {X Y : Type 0} → (ℕ → X → Result Y Refusal) → ℕ → List X → Result (List Y) Refusal
each f number [] = Ok []
each f number (x ∷ xs) = before (f number x) (each f (suc number) xs)

-- ---- tokens and directives

-- a module that breaks none of their rules: whether it is a class, its text, and the lines that conditional compilation
-- keeps
pub record Kept : Type 0 where
  pub is_class : Bool
  pub text : List ℕ
  pub lines : List LexedLine

abbrev pub kept_as : (is_class : Bool) → List ℕ → Result (List LexedLine) Refusal → Result Kept Refusal
kept_as is_class text (Err refusal) = Err refusal
kept_as is_class text (Ok lines) = Ok (record { is_class = is_class; text = text; lines = lines })

-- the module with this number, by its file
abbrev pub kept_of : ℕ → ModuleFile → Result Kept Refusal
kept_of number file = kept_as file.is_class (decoded file.bytes) (selected (decoded file.bytes) (lexed number (decoded file.bytes)))

-- ---- lines and modules

abbrev pub unless_broken : Option Refusal → Source → Result Source Refusal
unless_broken None m = Ok m
unless_broken (Some refusal) m = Err refusal

abbrev pub module_of : ℕ → Kept → Result Source Refusal
module_of number k =
    unless_broken (verdict k.is_class (read_lexed k.text k.lines))
    (record { is_class = k.is_class; text = k.text; parts = parts_of_lines (trees_of (read_lexed k.text k.lines)) })

-- ---- names

-- Main of the first module
abbrev pub main_of : List Source → Startup
main_of [] = record { module_fold = []; sub_fold = codes "main" }
main_of (m ∷ ms) = record { module_fold = (name_or 1 (given_name m.parts)).fold; sub_fold = codes "main" }

-- the macro to begin with: the one that a list says, or else Main of the first module
abbrev pub begins_at : Option Start → List Source → Startup
begins_at None ms = main_of ms
begins_at (Some start) ms = record { module_fold = start.in_module; sub_fold = start.procedure }

-- the first of two refusals, of which each may be missing: by module, and in one module by place and rule
abbrev pub first_of_two : Option Refusal → Option Refusal → Option Refusal
first_of_two None r = r
first_of_two (Some l) None = Some l
first_of_two (Some l) (Some r) =
    if nat_lt l.place.«module» r.place.«module» then Some l
    else if nat_lt r.place.«module» l.place.«module» then Some r
    else least_of_both (Some l) (Some r)

-- the first rule of names and types that modules break, or else that the macro to begin with isn't there (S33), which is
-- told at the front of the project and so before all else
abbrev pub named_rule : List Source → Startup → Option Refusal
named_rule ms st = or_else (names.verdict the_outside ms) (startup_fault the_outside (spaces_from 0 ms) st)

-- the first rule that a bound project breaks; where a part isn't built, it isn't asked
abbrev pub bound_rule : (left : Option Place) → Option Project → Option Refusal
bound_rule None (Some pr) = first_broken pr
bound_rule left pr = None

-- what is asked where all these are found: the first of what the language leaves out (S23), of signatures that differ
-- (S31, S32) and of the project that is bound
abbrev pub static_rule : List Space → (broken : Option Refusal) → Option Refusal
static_rule spaces broken = first_of_two (first_of_two (first_left_out the_outside spaces) (first_signature the_outside spaces)) broken

-- modules that break this rule of names, or none: the first rule that they break, the first part that isn't built, or
-- their project
abbrev pub judged_by : (named : Option Refusal) → List Source → (left : Option Place) → Option Project → Answer
judged_by named ms left pr = answer_by (or_else named (static_rule (spaces_from 0 ms) (bound_rule left pr))) left pr

-- a project of these modules, where vbarun tells that a part isn't built yet, or tells none
abbrev pub bound_modules : Option Start → List Source → (told : Option Place) → Answer
bound_modules start ms told =
    let st = begins_at start ms in judged_by (named_rule ms st) ms (or_else told (not_built the_outside ms)) (project_of the_outside ms st)

-- ---- all phases

abbrev pub bound_sources : Option Start → Result (List Source) Refusal → (told : Option Place) → Answer
bound_sources start (Err refusal) told = refused refusal
bound_sources start (Ok ms) told = bound_modules start ms told

abbrev pub bound_kept : Option Start → Result (List Kept) Refusal → (told : Option Place) → Answer
bound_kept start (Err refusal) told = refused refusal
bound_kept start (Ok ks) told = bound_sources start (each module_of 1 ks) told

-- what the files of modules are bound to, in the order of the project, where vbarun tells that a part isn't built yet, or
-- tells none: a project, the place of that part or of the first that has no meaning yet, or the first rule that is broken
unfoldable pub program_of : Option Start → List ModuleFile → (told : Option Place) → Answer
program_of start files = bound_kept start (each kept_of 1 files)
