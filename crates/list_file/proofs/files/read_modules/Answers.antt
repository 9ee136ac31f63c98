use Rattle.std.proofs.Common.{ap, sym, subst, ◌∙◌, ◌∷◌, ◌++◌, [], ◌+◌, length}
use Rattle.std.specs.Prelude.{ℕ, Vec}
use Rattle.std.specs.declared.alloc.Global.{Global}
use Rattle.std.proofs.lemmas.List.{map-append}
use Rattle.list_file.specs.declared.files.ReadStop.TheVariants as stops
use Rattle.list_file.specs.Files.{FilesAt, ReadInOrder}
use Rattle.list_file.specs.Sources.{bytes_view, paths_view}
use Rattle.list_file.proofs.FilesRead.{FilesGoOn, one_read, one_stopped, one_wanted, stops_by}
use Rattle.list_file.proofs.ModulesRead.{KindsGoOn, all_listed, one_kind}
use Rattle.list_file.proofs.files.read_modules.Goals as goal

pub returns-in_err-file-clause-read : goal.returns-in_err-file-clause-read
returns-in_err-file-clause-read g c =
    let first : FilesAt = record { told = g.F.Files.told c.args.files.now; counts = g.F.Files.counts c.args.files.now } in
    let before : FilesAt = record { told = g.F.Files.told c.loop-module.files; counts = g.F.Files.counts c.loop-module.files } in
    let after : FilesAt = record { told = g.F.Files.told c.read_file.new.files; counts = g.F.Files.counts c.read_file.new.files } in
    let all = paths_view c.args.modules.now in
    let name = c.as_str.result.now in
    let left = paths_view c.in-Some.rest.now in
    let on : FilesGoOn all (name ∷ left) c.args.taken (bytes_view c.loop-module.read.items) c.loop-module.number c.loop-module.taken first before =
    subst (λ names. FilesGoOn all names c.args.taken (bytes_view c.loop-module.read.items) c.loop-module.number c.loop-module.taken first before)
    (ap paths_view c.in-Some.ensures.cases.0 ∙ ap (λ n. n ∷ left) (sym c.as_str.ensures.value)) c.loop-module.invariant.0 in
    subst (λ r. ReadInOrder all 1 c.args.taken r first after) (sym (stops_by c.from_residual.result c.in_err-file.field-0.0 c.from_residual.ensures.1))
    (one_stopped all left name c.args.taken (bytes_view c.loop-module.read.items) c.loop-module.number c.loop-module.taken first before after on c.in_err-file.field-0.0 c.in_err-file.ensures.read)

pub returns-in_err-push-clause-read : goal.returns-in_err-push-clause-read
returns-in_err-push-clause-read g c =
    let first : FilesAt = record { told = g.F.Files.told c.args.files.now; counts = g.F.Files.counts c.args.files.now } in
    let before : FilesAt = record { told = g.F.Files.told c.loop-module.files; counts = g.F.Files.counts c.loop-module.files } in
    let after : FilesAt = record { told = g.F.Files.told c.read_file.new.files; counts = g.F.Files.counts c.read_file.new.files } in
    let all = paths_view c.args.modules.now in
    let name = c.as_str.result.now in
    let left = paths_view c.in-Some.rest.now in
    let on : FilesGoOn all (name ∷ left) c.args.taken (bytes_view c.loop-module.read.items) c.loop-module.number c.loop-module.taken first before =
    subst (λ names. FilesGoOn all names c.args.taken (bytes_view c.loop-module.read.items) c.loop-module.number c.loop-module.taken first before)
    (ap paths_view c.in-Some.ensures.cases.0 ∙ ap (λ n. n ∷ left) (sym c.as_str.ensures.value)) c.loop-module.invariant.0 in
    subst (λ r. ReadInOrder all 1 c.args.taken r first after) (sym (stops_by c.from_residual-in_err-push.result stops.NoMemory c.from_residual-in_err-push.ensures.1))
    (one_wanted all left name c.args.taken (bytes_view c.loop-module.read.items) c.loop-module.number c.loop-module.taken first before after on c.in_ok-file.file.bytes.items c.in_ok-file.ensures.read)

pub loop-module-preserved : goal.loop-module-preserved
loop-module-preserved g c = (
  let first : FilesAt = record { told = g.F.Files.told c.args.files.now; counts = g.F.Files.counts c.args.files.now } in
      let before : FilesAt = record { told = g.F.Files.told c.loop-module.files; counts = g.F.Files.counts c.loop-module.files } in
      let after : FilesAt = record { told = g.F.Files.told c.read_file.new.files; counts = g.F.Files.counts c.read_file.new.files } in
      let all = paths_view c.args.modules.now in
      let name = c.as_str.result.now in
      let left = paths_view c.in-Some.rest.now in
      let bytes = c.in_ok-file.file.bytes.items in
      let on : FilesGoOn all (name ∷ left) c.args.taken (bytes_view c.loop-module.read.items) c.loop-module.number c.loop-module.taken first before =
      subst (λ names. FilesGoOn all names c.args.taken (bytes_view c.loop-module.read.items) c.loop-module.number c.loop-module.taken first before)
      (ap paths_view c.in-Some.ensures.cases.0 ∙ ap (λ n. n ∷ left) (sym c.as_str.ensures.value)) c.loop-module.invariant.0 in
      subst (λ (n : ℕ). FilesGoOn all left c.args.taken (bytes_view c.push.new.self.items) (c.loop-module.number + 1) (c.loop-module.taken + n) first after) (sym (c.len.ensures ∙ c.in_ok-file.file.bytes.ok.0))
      (subst (λ files. FilesGoOn all left c.args.taken files (c.loop-module.number + 1) (c.loop-module.taken + length bytes) first after)
      (sym (
      ap bytes_view c.in_ok-push.ensures.items
      ∙ map-append (λ f. f.bytes.items) c.loop-module.read.items (c.of_module.result ∷ [])
      ∙ ap (λ (v : Vec ℕ Global). bytes_view c.loop-module.read.items ++ v.items ∷ []) c.of_module.ensures.bytes
      ))
      (one_read all left name c.args.taken (bytes_view c.loop-module.read.items) c.loop-module.number c.loop-module.taken first before after on bytes c.in_ok-file.ensures.within c.in_ok-file.ensures.read)),
  subst (λ files. KindsGoOn c.args.modules.now c.in-Some.rest.now files) (sym c.in_ok-push.ensures.items)
      (one_kind c.args.modules.now c.in-Some.rest.now c.loop-module.read.items c.in-Some.module.now c.of_module.result
      (subst (λ ms. KindsGoOn c.args.modules.now ms c.loop-module.read.items) c.in-Some.ensures.cases.0 c.loop-module.invariant.1) c.of_module.ensures.kind),
)

pub returns-clause-listed : goal.returns-clause-listed
returns-clause-listed g c = all_listed c.args.modules.now c.loop-module.left.now c.loop-module.read.items c.in_default.ensures.cases c.loop-module.invariant.1
