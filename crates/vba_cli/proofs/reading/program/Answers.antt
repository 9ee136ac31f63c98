use Rattle.std.proofs.Common.{map, subst, ◌≡◌}
use Rattle.std.specs.Prelude.{Ok, option_map}
use Rattle.list_file.specs.Sources.{files_view}
use Rattle.list_file.specs.View.{start_view}
use Rattle.vba_base.specs.Answer.{Fails}
use Rattle.vba_cli.specs.Program.{bound_modules, each, module_of}
use Rattle.vba_cli.specs.Programs.{IsProgram, kept_view, module_view}
use Rattle.vba_cli.proofs.Bound.{program_read, program_unkept, program_unread}
use Rattle.vba_cli.proofs.reading.program.Goals as goal

pub returns-in_err-kept : goal.returns-in_err-kept
returns-in_err-kept c =
    program_unkept (option_map (λ s. start_view s.now) c.args.start) (files_view c.args.files.now) c.from_residual.result c.in_err-kept.field-0.0 c.from_residual.ensures.1 c.in_err-kept.ensures

pub returns-in_err-modules : goal.returns-in_err-modules
returns-in_err-modules c =
    let ks = map kept_view c.in_ok-kept.kept.items in
    program_unread (option_map (λ s. start_view s.now) c.args.start) (files_view c.args.files.now) ks c.from_residual-in_err-modules.result c.in_err-modules.field-0.0
    c.from_residual-in_err-modules.ensures.1 c.in_ok-kept.ensures
    (subst (λ kept. Fails c.in_err-modules.field-0.0 (each module_of 1 (map kept_view kept))) c.as_slice.ensures.value c.in_err-modules.ensures)

pub returns : goal.returns
returns c =
    let start = option_map (λ s. start_view s.now) c.args.start in
    let ks = map kept_view c.in_ok-kept.kept.items in
    let ms = map module_view c.in_ok-modules.modules.items in
    program_read start (files_view c.args.files.now) ks ms c.bound.result c.in_ok-kept.ensures
    (subst (λ kept. each module_of 1 (map kept_view kept) ≡ Ok ms) c.as_slice.ensures.value c.in_ok-modules.ensures)
    (subst (λ modules. IsProgram (bound_modules start (map module_view modules)) c.bound.result) c.as_slice-2.ensures.value c.bound.ensures)
