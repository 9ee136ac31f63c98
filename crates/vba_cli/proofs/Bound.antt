-- Modules that are bound are the program of their files.
use Rattle.std.proofs.Common.{◌≡◌, ℕ, List, [], ◌∷◌, ◌++◌, refl, sym, ap, ◌∙◌, subst}
use Rattle.std.proofs.lemmas.List.{map-append}
use Rattle.std.specs.Prelude.{codes, map, Option, Some, None, Result, Ok, Err}
use Rattle.std.specs.Result.{IsErrAnd}
use Rattle.vba_base.specs.Answer.{Fails}
use Rattle.vba_base.specs.declared.fault.OrMemory.{OrMemory}
use Rattle.vba_base.specs.declared.fault.OrMemory.TheVariants.{Fault, NoMemory}
use Rattle.vba_base.specs.declared.place.Place.{Place}
use Rattle.vba_base.specs.declared.place.Refusal.{Refusal}
use Rattle.bound_project.specs.Project.{Project}
use Rattle.bound_project.specs.declared.project.Project.{Project as Program}
use Rattle.bound_project.specs.Bodies.{Fits, project_view}
use Rattle.constant_values.specs.declared_names.specs.binder.specs.Sources.{Source}
use Rattle.constant_values.specs.declared_names.specs.binder.specs.Scopes.{Space, spaces_from}
use Rattle.constant_values.specs.declared_names.specs.binder.specs.Names.{scope_of}
use Rattle.constant_values.specs.declared_names.specs.binder.specs.Violations.{violations, first_broken}
use Rattle.constant_values.specs.declared_names.specs.binder.specs.Options.{or_else}
use Rattle.bound_forms.specs.Bind.{Answer, refused, answer_by, not_built, project_of}
use Rattle.constant_values.specs.declared_names.specs.binder.specs.Projects.{Startup, startup_fault}
use Rattle.constant_values.specs.declared_names.specs.binder.specs.LeftOut.{first_left_out}
use Rattle.signature_rules.specs.Signatures.{first_signature}
use Rattle.constant_values.specs.Rounds.{AreNumbered}
use Rattle.constant_values.proofs.Looked.{spaces_from_numbered}
use Rattle.constant_values.specs.declared_names.specs.Outside.{the_outside}
use Rattle.bind_project.specs.Bound.{IsBound}
use Rattle.bind_project.specs.declared.bound.Bound.{Bound}
use Rattle.bind_project.specs.declared.bound.Bound.TheVariants as bound
use Rattle.list_file.specs.Lists.{Start}
use Rattle.list_file.specs.Plans.{ModuleFile}
use Rattle.constant_values.specs.declared_names.specs.View.{source_view}
use Rattle.constant_values.specs.declared_names.specs.declared.space.Source as declared_names
use Rattle.vba_cli.specs.Program.{Kept, begins_at, bound_kept, bound_modules, bound_sources, bound_rule, each, first_of_two, judged_by, kept_of, main_of, module_of, named_rule, program_of}
use Rattle.vba_cli.specs.Programs.{IsFitted, IsProgram, IsRefused, rule_of, first_fold, unless_refused}

-- modules are numbered
pub modules_numbered : (ms : List Source) (spaces : List Space) → spaces ≡ spaces_from 0 ms → AreNumbered spaces
modules_numbered ms spaces e = subst (λ ss. AreNumbered ss) (sym e) (spaces_from_numbered ms)

-- what modules break first
abbrev broken_in : List Space → Option Refusal
broken_in spaces = first_broken (map (λ space. violations (scope_of the_outside spaces space)) spaces)

-- the first part that isn't built, told or meant, and the project
abbrev left : List Source → (told : Option Place) → Option Place
left ms told = or_else told (not_built the_outside ms)

abbrev project : Option Start → List Source → Option Project
project start ms = project_of the_outside ms (begins_at start ms)

-- modules by a rule of names, or none
abbrev by_rule : (named : Option Refusal) → Option Start → List Source → (told : Option Place) → Answer
by_rule named start ms told = judged_by named ms (left ms told) (project start ms)

-- that there is a macro to begin with, by modules as they stand
abbrev startup_in : Option Start → List Source → List Space → Option Refusal
startup_in start ms spaces = startup_fault the_outside spaces (begins_at start ms)

-- a rule of names is broken
pub modules_broken : (start : Option Start) (ms : List Source) (spaces : List Space) (r : Refusal) → spaces ≡ spaces_from 0 ms → broken_in spaces ≡ Some r
    → IsRefused (bound_modules start ms) r
modules_broken start ms spaces r e broken = record {
  told = None;
  is = ap (λ v. by_rule (or_else v (startup_in start ms (spaces_from 0 ms))) start ms None) (subst (λ ss. broken_in ss ≡ Some r) e broken);
}

-- the first rule, where none of names is broken
rule_by : (start : Option Start) (ms : List Source) (spaces : List Space) (found : Option Refusal) → spaces ≡ spaces_from 0 ms → broken_in spaces ≡ None → startup_in start ms spaces ≡ found
    → named_rule ms (begins_at start ms) ≡ found
rule_by start ms spaces found e whole there =
    ap (λ v. or_else v (startup_in start ms (spaces_from 0 ms))) (subst (λ ss. broken_in ss ≡ None) e whole) ∙ subst (λ ss. startup_in start ms ss ≡ found) e there

-- the macro to begin with isn't there
pub modules_faulty : (start : Option Start) (ms : List Source) (spaces : List Space) (r : Refusal) → spaces ≡ spaces_from 0 ms → broken_in spaces ≡ None → startup_in start ms spaces ≡ Some r
    → IsRefused (bound_modules start ms) r
modules_faulty start ms spaces r e whole there = record { told = None; is = ap (λ v. by_rule v start ms None) (rule_by start ms spaces (Some r) e whole there) }

-- neither is so
pub modules_named : (start : Option Start) (ms : List Source) (spaces : List Space) (r : Result Bound (OrMemory Refusal)) → spaces ≡ spaces_from 0 ms → broken_in spaces ≡ None
    → startup_in start ms spaces ≡ None → IsProgram (by_rule None start ms) r → IsProgram (bound_modules start ms) r
modules_named start ms spaces r e whole there h = subst (λ v. IsProgram (by_rule v start ms) r) (sym (rule_by start ms spaces None e whole there)) h

-- what is asked beside S24
abbrev fault_in : List Space → Option Refusal
fault_in spaces = first_of_two (first_left_out the_outside spaces) (first_signature the_outside spaces)

-- a project that is bound fits
pub bound_fits : (spaces : List Space) (st : Startup) (b : Bound) → IsBound the_outside spaces st b → IsFitted b
bound_fits spaces st (bound.NotBuilt place) h = tt
bound_fits spaces st (bound.Runs pr) h = h.0

-- a part was told that isn't built, so the project isn't asked
left_told : (fault : Option Refusal) (place : Place) (built : Option Place) (pr : Option Project)
    → IsProgram (λ told. answer_by (first_of_two fault (bound_rule (or_else told built) pr)) (or_else told built) pr) (unless_refused (first_of_two fault None) (bound.NotBuilt place))
left_told None place built pr = refl
left_told (Some refusal) place built pr = record { told = Some place; is = refl }

-- a project was bound, and this is the first rule that it breaks, or none
project_told : (answer : (told : Option Place) → Answer) (first : Option Refusal) (pr : Program) → Fits pr → answer None ≡ answer_by first None (Some (project_view pr))
    → IsProgram answer (unless_refused first (bound.Runs pr))
project_told answer None pr fits is = (fits, is)
project_told answer (Some refusal) pr fits is = record { told = None; is = is }

pub modules_asked : (start : Option Start) (ms : List Source) (spaces : List Space) (fault first : Option Refusal) (b : Bound) → spaces ≡ spaces_from 0 ms → fault ≡ fault_in spaces
    → first ≡ first_of_two fault (rule_of b) → IsBound the_outside spaces (begins_at start ms) b → IsProgram (by_rule None start ms) (unless_refused first b)
modules_asked start ms spaces fault first (bound.NotBuilt place) e faulty is b =
    subst (λ f. IsProgram (by_rule None start ms) (unless_refused f (bound.NotBuilt place))) (sym (is ∙ ap (λ f. first_of_two f None) (faulty ∙ ap fault_in e)))
    (left_told (fault_in (spaces_from 0 ms)) place (not_built the_outside ms) (project start ms))
modules_asked start ms spaces fault first (bound.Runs pr) e faulty is b =
    let runs = subst (λ ss. IsBound the_outside ss (begins_at start ms) (bound.Runs pr)) e b in
    let broken = bound_rule None (Some (project_view pr)) in
    project_told (by_rule None start ms) first pr runs.0
    (ap (λ built. judged_by None ms built (project start ms)) runs.1.none_left
    ∙ ap (λ p. judged_by None ms None p) runs.1.project_is
    ∙ ap (λ f. answer_by f None (Some (project_view pr))) (sym (is ∙ ap (λ f. first_of_two f broken) (faulty ∙ ap fault_in e))))

-- files whose modules break no rule of their own are what these are bound to
pub program_read : (start : Option Start) (files : List ModuleFile) (ks : List Kept) (ms : List Source) (r : Result Bound (OrMemory Refusal))
    → each kept_of 1 files ≡ Ok ks → each module_of 1 ks ≡ Ok ms → IsProgram (bound_modules start ms) r → IsProgram (program_of start files) r
unfolding program_of
program_read start files ks ms r kept read h =
    subst (λ k. IsProgram (bound_kept start k) r) (sym kept) (subst (λ m. IsProgram (bound_sources start m) r) (sym read) h)

fails_as : (answer : (told : Option Place) → Answer) (e : OrMemory Refusal) → ((refusal : Refusal) → e ≡ Fault refusal → answer None ≡ refused refusal) → IsProgram answer (Err e)
fails_as answer NoMemory means = tt
fails_as answer (Fault refusal) means = record { told = None; is = means refusal refl }

fails_by : (answer : (told : Option Place) → Answer) (r : Result Bound (OrMemory Refusal)) (e : OrMemory Refusal) → IsErrAnd r (λ e1. e1 ≡ e)
    → ((refusal : Refusal) → e ≡ Fault refusal → answer None ≡ refused refusal) → IsProgram answer r
fails_by answer (Ok b) e is means = absurd is
fails_by answer (Err e1) e is means = subst (λ x. IsProgram answer (Err x)) (sym is) (fails_as answer e means)

fault_meant : {Y : Type 0} (e : OrMemory Refusal) (whole : Result Y Refusal) (refusal : Refusal) → Fails e whole → e ≡ Fault refusal → whole ≡ Err refusal
fault_meant e whole refusal fails is = subst (λ x. Fails x whole) is fails

-- a rule of tokens and directives is broken
pub program_unkept : (start : Option Start) (files : List ModuleFile) (r : Result Bound (OrMemory Refusal)) (e : OrMemory Refusal)
    → IsErrAnd r (λ e1. e1 ≡ e) → Fails e (each kept_of 1 files) → IsProgram (program_of start files) r
unfolding program_of
program_unkept start files r e is fails =
    fails_by (bound_kept start (each kept_of 1 files)) r e is
    (λ refusal fault. ap (λ ks. bound_kept start ks None) (fault_meant e (each kept_of 1 files) refusal fails fault))

-- a rule of lines and modules is broken
pub program_unread : (start : Option Start) (files : List ModuleFile) (ks : List Kept) (r : Result Bound (OrMemory Refusal)) (e : OrMemory Refusal)
    → IsErrAnd r (λ e1. e1 ≡ e) → each kept_of 1 files ≡ Ok ks → Fails e (each module_of 1 ks) → IsProgram (program_of start files) r
unfolding program_of
program_unread start files ks r e is kept fails =
    subst (λ k. IsProgram (bound_kept start k) r) (sym kept)
    (fails_by (bound_sources start (each module_of 1 ks)) r e is
    (λ refusal fault. ap (λ ms. bound_sources start ms None) (fault_meant e (each module_of 1 ks) refusal fails fault)))

-- the fold by which the macro to begin with is looked up, where a list names none
first_of : (ms : List Source) → first_fold (spaces_from 0 ms) ≡ (main_of ms).module_fold
first_of [] = refl
first_of (m ∷ ms) = refl

pub fold_named : (ms : List Source) (spaces : List Space) → spaces ≡ spaces_from 0 ms → first_fold spaces ≡ (main_of ms).module_fold
fold_named ms spaces e = ap first_fold e ∙ first_of ms

main_named : (ms : List Source) → record { module_fold = (main_of ms).module_fold; sub_fold = codes "main" } ≡ main_of ms
main_named [] = refl
main_named (m ∷ ms) = refl

-- the macro to begin with is Main of the first module
pub main_begins : (ms : List Source) (spaces : List Space) (fold name : List ℕ) → spaces ≡ spaces_from 0 ms → fold ≡ first_fold spaces → name ≡ codes "main"
    → record { module_fold = fold; sub_fold = name } ≡ main_of ms
main_begins ms spaces fold name e is named =
    ap (λ n. record { module_fold = fold; sub_fold = n }) named
    ∙ ap (λ f. record { module_fold = f; sub_fold = codes "main" }) (is ∙ fold_named ms spaces e)
    ∙ main_named ms

-- one module more, as the binder takes it
pub sources_push : (ss : List declared_names.Source) (s : declared_names.Source) → map source_view (ss ++ s ∷ []) ≡ map source_view ss ++ source_view s ∷ []
sources_push ss s = map-append source_view ss (s ∷ [])
