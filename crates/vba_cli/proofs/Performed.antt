-- A command that was performed, from its files to its end.
use Rattle.std.proofs.Common.{◌≡◌, ◌∙◌, ℕ, suc, ◌+◌, true, false, List, [], ◌∷◌, ◌++◌, length, take, refl, sym, ap, subst, arith, inl, inr}
use Rattle.std.specs.Prelude.{Bool, Result, Ok, Err, Option, Some, None, IfSome, if◌then◌else◌}
use Rattle.std.proofs.lemmas.List.{append-nil}
use Rattle.vba_base.specs.Causes.{Adds}
use Rattle.vba_base.proofs.Causes.{adds_none, adds_prefix_none}
use Rattle.vba_base.specs.Decode.{decoded}
use Rattle.vba_base.specs.Map.{FileMap}
use Rattle.vba_base.specs.Outside.{Told}
use Rattle.vba_base.specs.declared.place.Place.{Place}
use Rattle.bound_forms.specs.Bind as bind
use Rattle.command_words.specs.Words.{Command, run, check, code}
use Rattle.list_file.specs.declared.files.ReadStop.{ReadStop}
use Rattle.list_file.specs.declared.files.ReadStop.TheVariants as read
use Rattle.list_file.specs.Files.{FilesAt, FilesTold, IsMeant, ReadInOrder, files_of, followed_by, onto, total}
use Rattle.list_file.specs.declared.list.ModulePath.{ModulePath}
use Rattle.list_file.specs.declared.list.SheetPath.{SheetPath}
use Rattle.list_file.specs.Lists.{ModuleAt, SheetAt, Start}
use Rattle.list_file.specs.Sources.{paths_view, sheets_view}
use Rattle.list_file.specs.Plans.{ModuleFile, Plan, bad_line, module_files, paths_at, plan_of, project_at}
use Rattle.list_file.proofs.FilesRead.{joined, stopped, wanted}
use Rattle.book_files.specs.Book.{ReadsAll, book_of}
use Rattle.vba_cli.specs.declared.status.Status.{Status}
use Rattle.vba_cli.specs.declared.status.Status.TheVariants.{Ended, Faulted, Usage, Refused, Stopped, Going, ReadFault, WriteFault, BadList, TooLong, BadBook, NotBuilt, NoMemory}
use Rattle.vba_cli.specs.Command.{ends_in_bas, path_in}
use Rattle.vba_cli.specs.Named.{Named, named_by, nothing_named}
use Rattle.vba_cli.specs.Program.{program_of}
use Rattle.vba_cli.specs.Answer.{Shown, first_file, named_in, refused, shown_of_command, shown_of_files, shown_of_first, shown_of_plan, shown_of_source, standard_module, unread, what_is_named}
use Rattle.vba_cli.specs.Contract.{IsAlone, IsNamed, World, book_paths, names_of}
use Rattle.vba_cli.specs.Steps.{GoesOn, IsListOf, Meets, Performs, RanSources, ReadsFor, ReadsTo, files_in, with_files}
use Rattle.vba_cli.specs.Told.{named_of}
use Rattle.vba_cli.proofs.Taken.{leaves_before, map_any, map_both, map_told, told_back, writes_as}

-- what is named is what the list names
named_as : (status : Status) (l all : Named) → l ≡ all → IsNamed status l all
named_as Ended l all same = same
named_as (Faulted number place) l all same = same
named_as Usage l all same = same
named_as Going l all same = same
named_as (ReadFault number) l all same = inr same
named_as WriteFault l all same = inr same
named_as (BadList line) l all same = same
named_as (TooLong number) l all same = same
named_as (BadBook sheet fault) l all same = same
named_as (Refused refusal) l all same = same
named_as (Stopped why place) l all same = same
named_as (NotBuilt place) l all same = same
named_as NoMemory l all same = inr same

-- a command of which nothing is named reads one file
names_alone : (command : Command) → names_of (Some command) nothing_named ≡ path_in command ∷ []
names_alone (run path turns trace save) = refl
names_alone (check path) = refl
names_alone (code path) = refl

-- ---- reading behind the sources

module _ (command : Command) (l : Named) (bytes : List ℕ) (xs : List (List ℕ)) (first last mid : FilesAt)
    (sources : ReadInOrder (path_in command ∷ l.modules) 0 0 (Ok (bytes ∷ xs)) first last) where
  then_read : (names : List (List ℕ)) (r : Result (List (List ℕ)) ReadStop) → ReadInOrder names (suc (length l.modules)) (length bytes + total xs) r last mid
      → ReadInOrder ((path_in command ∷ l.modules) ++ names) 0 0 (onto (bytes ∷ xs) r) first mid
  then_read names r more =
      let number : suc (length l.modules) ≡ 0 + length (path_in command ∷ l.modules) = omega arith in
      let taken : length bytes + total xs ≡ 0 + total (bytes ∷ xs) = omega arith in
      joined (path_in command ∷ l.modules) names 0 0 (bytes ∷ xs) r first last mid sources
      (subst (λ k. ReadInOrder names (0 + length (path_in command ∷ l.modules)) k r last mid) taken
      (subst (λ k. ReadInOrder names k (length bytes + total xs) r last mid) number more))

  then_all : (names : List (List ℕ)) → ReadsAll names (suc (length l.modules)) (length bytes + total xs) last mid → ReadsAll ((path_in command ∷ l.modules) ++ names) 0 0 first mid
  then_all names more = record { files = (bytes ∷ xs) ++ more.files; read = then_read names (Ok more.files) more.read }

  then_none : ReadsAll [] (suc (length l.modules)) (length bytes + total xs) last mid → ReadsAll (path_in command ∷ l.modules) 0 0 first mid
  then_none more = subst (λ ns. ReadsAll ns 0 0 first mid) (append-nil (path_in command ∷ l.modules)) (then_all [] more)

  reads_for : (result : Status) → ReadsTo result (book_paths command l.sheets) (suc (length l.modules)) (length bytes + total xs) last mid → ReadsFor (Some command) l result first mid
  reads_for Ended r = then_all (book_paths command l.sheets) r
  reads_for (Faulted number place) r = then_all (book_paths command l.sheets) r
  reads_for Usage r = absurd r
  reads_for (Refused refusal) r = then_none r
  reads_for (Stopped why place) r = then_all (book_paths command l.sheets) r
  reads_for Going r = then_all (book_paths command l.sheets) r
  reads_for (ReadFault n) r = then_read (book_paths command l.sheets) (Err (read.Failed n)) r
  reads_for WriteFault r = then_all (book_paths command l.sheets) r
  reads_for (BadList line) r = absurd r
  reads_for (TooLong n) r = then_read (book_paths command l.sheets) (Err (read.TooLong n)) r
  reads_for (BadBook sheet fault) r = (r.0, r.1, then_all (take sheet (book_paths command l.sheets)) r.2)
  reads_for (NotBuilt place) r = then_none r
  reads_for NoMemory r = then_read (book_paths command l.sheets) (Err read.NoMemory) r

-- ---- performing behind the sources

went : (command : Command) (l : Named) (bytes : List ℕ) (xs : List (List ℕ)) (answer : (left : Option Place) → bind.Answer) (result : Status) (old : World) (first last : FilesAt) (new : World)
    → ReadInOrder (path_in command ∷ l.modules) 0 0 (Ok (bytes ∷ xs)) first last
    → RanSources command l.sheets (suc (length l.modules)) (length bytes + total xs) answer result (with_files old last) new
    → ((left : Option Place) → IfSome first.told
    (λ told. shown_of_command left told.files (Some command) ≡ shown_of_source command l.sheets (book_of told.files (suc (length l.modules)) (length bytes + total xs) l.sheets) (answer left)))
    → IsAlone (Some command) l → IfSome first.told (λ told. l ≡ what_is_named told.files (Some command)) → Performs (Some command) l result (with_files old first) new
went command l bytes xs answer result old first last new sources ran shown alone named =
    let d = ran.does in
    let number = suc (length l.modules) in
    let taken = length bytes + total xs in
    let base = path_in command ∷ l.modules in
    record {
      left = ran.left;
      leaves = leaves_before result (with_files old first) last new sources.write_faults d.leaves;
      meets =
          map_both first.told (λ told is m. subst (λ s. Meets s result old.out new.out) (sym is) m) (shown ran.left)
          (told_back (λ f. Meets (shown_of_source command l.sheets (book_of f number taken l.sheets) (answer ran.left)) result old.out new.out) base 0 0 sources.count (Ok (bytes ∷ xs)) first.told last.told
          sources.told d.meets);
      alone = alone;
      listed = map_told first.told (λ told same. named_as result l (what_is_named told.files (Some command)) same) named;
      mid = d.mid;
      read = reads_for command l bytes xs first last d.mid sources result d.read;
      written =
          writes_as result (λ told. (shown_of_source command l.sheets (book_of told.files number taken l.sheets) (answer ran.left)).saves)
          (λ told. (shown_of_command ran.left told.files (Some command)).saves) last.told first.told d.mid (files_in new)
          (λ saves h.
          map_both first.told (λ told is same. same ∙ sym (ap (λ (s : Shown). s.saves) is)) (shown ran.left)
          (told_back (λ f. saves ≡ (shown_of_source command l.sheets (book_of f number taken l.sheets) (answer ran.left)).saves) base 0 0 sources.count (Ok (bytes ∷ xs)) first.told last.told sources.told h))
          d.written;
      usage = λ none. absurd cc;
    }

-- ---- what is told of the file that a command names

first_is : (bytes : List ℕ) (r : Result (List ℕ) ReadStop) → followed_by r (λ b. Ok []) ≡ Ok (bytes ∷ []) → r ≡ Ok bytes
first_is bytes (Ok other) is = cc
first_is bytes (Err reason) is = cc

first_stops : (reason : ReadStop) (r : Result (List ℕ) ReadStop) → followed_by r (λ b. Ok []) ≡ Err reason → r ≡ Err reason
first_stops reason (Ok other) is = cc
first_stops reason (Err other) is = cc

first_told : (command : Command) (bytes : List ℕ) (count : ℕ) (old new : Option Told) → FilesTold (path_in command ∷ []) 0 0 (Ok (bytes ∷ [])) count old new
    → IfSome old (λ told. first_file told.files command ≡ Ok bytes)
first_told command bytes count None new p = tt
first_told command bytes count (Some told) new p = first_is bytes (first_file told.files command) p.1

-- what a command shows of a file that is one standard module, or a list
shown_alone : (left : Option Place) (command : Command) (files : FileMap) (bytes : List ℕ) → ends_in_bas (path_in command) ≡ true → first_file files command ≡ Ok bytes
    → shown_of_command left files (Some command) ≡ shown_of_source command [] (Ok []) (program_of None (standard_module bytes ∷ []) left)
shown_alone left command files bytes bas is =
    ap (shown_of_first left command files) is
    ∙ ap (λ b. if b then shown_of_source command [] (Ok []) (program_of None (standard_module bytes ∷ []) left) else shown_of_plan left command files (length bytes) (plan_of (decoded bytes))) bas

shown_listed : (left : Option Place) (command : Command) (files : FileMap) (bytes : List ℕ) (plan : Plan) → ends_in_bas (path_in command) ≡ false → plan_of (decoded bytes) ≡ plan
    → first_file files command ≡ Ok bytes → shown_of_command left files (Some command) ≡ shown_of_plan left command files (length bytes) plan
shown_listed left command files bytes plan list planned is =
    ap (shown_of_first left command files) is
    ∙ ap (λ b. if b then shown_of_source command [] (Ok []) (program_of None (standard_module bytes ∷ []) left) else shown_of_plan left command files (length bytes) (plan_of (decoded bytes))) list
    ∙ ap (shown_of_plan left command files (length bytes)) planned

named_alone : (command : Command) (files : FileMap) (bytes : List ℕ) → ends_in_bas (path_in command) ≡ true → first_file files command ≡ Ok bytes
    → nothing_named ≡ what_is_named files (Some command)
named_alone command files bytes bas is =
    sym (ap (named_in command) is ∙ ap (λ b. if b then nothing_named else named_by (plan_of (decoded bytes))) bas)

named_listed : (command : Command) (files : FileMap) (bytes : List ℕ) (plan : Plan) → ends_in_bas (path_in command) ≡ false → plan_of (decoded bytes) ≡ plan
    → first_file files command ≡ Ok bytes → named_by plan ≡ what_is_named files (Some command)
named_listed command files bytes plan list planned is =
    sym (ap (named_in command) is ∙ ap (λ b. if b then nothing_named else named_by (plan_of (decoded bytes))) list ∙ ap named_by planned)

-- ---- lists that name nothing, as the code holds them

named_none : (modules : List ModulePath) (sheets : List SheetPath) → modules ≡ [] → sheets ≡ [] → nothing_named ≡ named_of modules sheets
named_none modules sheets no_modules no_sheets =
    ap (λ ms. record { modules = paths_view ms; sheets = [] }) (sym no_modules) ∙ ap (λ ss. record { modules = paths_view modules; sheets = sheets_view ss }) (sym no_sheets)

pub alone_performs : (command : Option Command) (modules : List ModulePath) (sheets : List SheetPath) (status result : Status) (old new : World) → modules ≡ [] → sheets ≡ [] → result ≡ status
    → Performs command nothing_named status old new → Performs command (named_of modules sheets) result old new
alone_performs command modules sheets status result old new no_modules no_sheets is p =
    subst (λ s. Performs command (named_of modules sheets) s old new) (sym is) (subst (λ l. Performs command l status old new) (named_none modules sheets no_modules no_sheets) p)

pub alone_goes : (command : Command) (bytes : List ℕ) (modules : List ModulePath) (sheets : List SheetPath) (status result : Status) (old new : World) → modules ≡ [] → sheets ≡ [] → result ≡ status
    → GoesOn command bytes nothing_named status old new → GoesOn command bytes (named_of modules sheets) result old new
alone_goes command bytes modules sheets status result old new no_modules no_sheets is goes = λ first p.
    alone_performs (Some command) modules sheets status result (with_files old first) new no_modules no_sheets is (goes first p)

-- ---- one standard module

pub went_alone : (command : Command) (bytes : List ℕ) (taken : ℕ) (result : Status) (old new : World) → ends_in_bas (path_in command) ≡ true → taken ≡ length bytes
    → (f : ModuleFile) → f.is_class ≡ false → f.bytes ≡ bytes → RanSources command [] 1 taken (program_of None (f ∷ [])) result old new → GoesOn command bytes nothing_named result old new
went_alone command bytes taken result old new bas size f kind held ran0 = λ first p.
    let file : f ≡ standard_module bytes = ap (λ k. record { is_class = k; bytes = f.bytes }) kind ∙ ap standard_module held in
    let ran = subst (λ m. RanSources command [] 1 taken (program_of None (m ∷ [])) result old new) file ran0 in
    let told = first_told command bytes p.count first.told old.told p.told in
    let same : taken ≡ length bytes + total [] = omega (arith, size) in
    went command nothing_named bytes [] (program_of None (standard_module bytes ∷ [])) result old first (files_in old) new p
    (subst (λ k. RanSources command [] 1 k (program_of None (standard_module bytes ∷ [])) result old new) same ran)
    (λ left. map_told first.told (λ t is. shown_alone left command t.files bytes bas is) told)
    (λ is. refl)
    (map_told first.told (λ t is. named_alone command t.files bytes bas is) told)

-- ---- the file that a command names can't be read

list_of_one : (command : Command) (reason : ReadStop) (first last : FilesAt) → ReadInOrder (path_in command ∷ []) 0 0 (Err reason) first last
    → ReadInOrder (names_of (Some command) nothing_named) 0 0 (Err reason) first last
list_of_one command reason first last p = subst (λ ns. ReadInOrder ns 0 0 (Err reason) first last) (sym (names_alone command)) p

first_long : (command : Command) (n count : ℕ) (old new : Option Told) → FilesTold (path_in command ∷ []) 0 0 (Err (read.TooLong n)) count old new
    → IfSome old (λ told. first_file told.files command ≡ Err (read.TooLong n))
first_long command n count None new p = tt
first_long command n count (Some told) new p = first_stops (read.TooLong n) (first_file told.files command) p.1

-- a file that is too long shows that alone
meets_long : (shown : Shown) (n : ℕ) (out : Option (List ℕ)) → shown ≡ refused (TooLong n) → Meets shown (TooLong n) out out
meets_long shown n out is = (sym (ap (λ (s : Shown). s.status) is), subst (λ (s : Shown). Adds out out s.out) (sym is) (adds_none out))

long_meets : (command : Command) (n : ℕ) (out : Option (List ℕ)) (told : Option Told) → IfSome told (λ t. first_file t.files command ≡ Err (read.TooLong n))
    → IfSome told (λ t. Meets (shown_of_command None t.files (Some command)) (TooLong n) out out)
long_meets command n out None h = tt
long_meets command n out (Some t) h = meets_long (shown_of_command None t.files (Some command)) n out (ap (shown_of_first None command t.files) h)

long_named : (command : Command) (n : ℕ) (told : Option Told) → IfSome told (λ t. first_file t.files command ≡ Err (read.TooLong n))
    → IfSome told (λ t. nothing_named ≡ what_is_named t.files (Some command))
long_named command n None h = tt
long_named command n (Some t) h = sym (ap (named_in command) h)

pub first_stopped : (command : Command) (reason : ReadStop) (old : World) (first last : FilesAt) → ReadInOrder (path_in command ∷ []) 0 0 (Err reason) first last
    → Performs (Some command) nothing_named (unread reason) (with_files old first) (with_files old last)
first_stopped command (read.Failed n) old first last p = record {
  left = None;
  leaves = record { unspoilt = record { out_faults = refl; write_faults = p.write_faults }; out = refl };
  meets = map_any first.told (λ told. refl);
  alone = λ is. refl;
  listed = map_any first.told (λ told. inl refl);
  mid = last;
  read = list_of_one command (read.Failed n) first last p;
  written = refl;
  usage = λ none. absurd cc;
}
first_stopped command (read.TooLong n) old first last p =
    let told = first_long command n p.count first.told last.told p.told in
    record {
      left = None;
      leaves = record { unspoilt = record { out_faults = refl; write_faults = p.write_faults }; out = refl };
      meets = long_meets command n old.out first.told told;
      alone = λ is. refl;
      listed = long_named command n first.told told;
      mid = last;
      read = list_of_one command (read.TooLong n) first last p;
      written = refl;
      usage = λ none. absurd cc;
    }
first_stopped command read.NoMemory old first last p = record {
  left = None;
  leaves = record { out_faults = refl; write_faults = p.write_faults };
  meets = map_any first.told (λ told. adds_prefix_none old.out (shown_of_command None told.files (Some command)).out);
  alone = λ is. refl;
  listed = map_any first.told (λ told. inl refl);
  mid = last;
  read = list_of_one command read.NoMemory first last p;
  written = inl refl;
  usage = λ none. absurd cc;
}

-- ---- lists

-- a line breaks the list
pub went_bad : (command : Command) (bytes : List ℕ) (line : ℕ) (old : World) → ends_in_bas (path_in command) ≡ false → plan_of (decoded bytes) ≡ bad_line line
    → GoesOn command bytes nothing_named (BadList line) old old
went_bad command bytes line old list planned = λ first p.
    let told = first_told command bytes p.count first.told old.told p.told in
    record {
      left = None;
      leaves = record { unspoilt = record { out_faults = refl; write_faults = p.write_faults }; out = refl };
      meets =
          map_told first.told
          (λ t is. subst (λ s. Meets s (BadList line) old.out old.out) (sym (shown_listed None command t.files bytes (bad_line line) list planned is)) (refl, adds_none old.out)) told;
      alone = λ is. refl;
      listed = map_told first.told (λ t is. named_listed command t.files bytes (bad_line line) list planned is) told;
      mid = files_in old;
      read = subst (λ ns. ReadsAll ns 0 0 first (files_in old)) (sym (names_alone command)) (record { files = bytes ∷ []; read = p });
      written = refl;
      usage = λ none. absurd cc;
    }

-- memory ran out while the list was read
pub went_wanting : (command : Command) (bytes : List ℕ) (old : World) → GoesOn command bytes nothing_named NoMemory old old
went_wanting command bytes old = λ first p. record {
  left = None;
  leaves = record { out_faults = refl; write_faults = p.write_faults };
  meets = map_any first.told (λ told. adds_prefix_none old.out (shown_of_command None told.files (Some command)).out);
  alone = λ is. refl;
  listed = map_any first.told (λ told. inl refl);
  mid = files_in old;
  read = list_of_one command read.NoMemory first (files_in old) (wanted (path_in command ∷ []) 0 0 (bytes ∷ []) first (files_in old) p);
  written = inl refl;
  usage = λ none. absurd cc;
}

module _ (command : Command) (bytes : List ℕ) (taken : ℕ) (modules : List ModuleAt) (sheets : List SheetAt) (start : Start) (is : IsListOf command bytes taken modules sheets start) where
  abbrev paths : List (List ℕ)
  paths = paths_at modules

  abbrev l : Named
  l = record { modules = paths; sheets = sheets }

  not_alone : IsAlone (Some command) l
  not_alone bas = absurd (absurd_of bas is.list)
    where
      absurd_of : {b : Bool} → b ≡ true → b ≡ false → ⊥
      absurd_of is_true is_false = cc

  -- the modules were read behind the list
  modules_read : (r : Result (List (List ℕ)) ReadStop) (first old last : FilesAt) → ReadInOrder (path_in command ∷ []) 0 0 (Ok (bytes ∷ [])) first old
      → ReadInOrder paths 1 taken r old last → ReadInOrder (path_in command ∷ paths) 0 0 (onto (bytes ∷ []) r) first last
  modules_read r first old last p q =
      let size : taken ≡ 0 + total (bytes ∷ []) = let t = is.taken_is in omega (arith, t) in
      joined (path_in command ∷ []) paths 0 0 (bytes ∷ []) r first old last p (subst (λ k. ReadInOrder paths 1 k r old last) size q)

  -- what the modules of the list hold, where it is told
  meant_told : (r : Result (List (List ℕ)) ReadStop) (ca cb : ℕ) (old mid new : Option Told) → FilesTold (path_in command ∷ []) 0 0 (Ok (bytes ∷ [])) ca old mid
      → FilesTold paths 1 taken r cb mid new → IfSome old (λ told. IsMeant r (files_of told.files 1 taken paths))
  meant_told r ca cb None mid new p q = tt
  meant_told r ca cb (Some told) mid new p q = let there = subst (λ m. FilesTold paths 1 taken r cb m new) p.0 q in there.1

  shown_files : (left : Option Place) (told : Told) → first_file told.files command ≡ Ok bytes
      → shown_of_command left told.files (Some command) ≡ shown_of_files left command told.files taken modules sheets start (files_of told.files 1 taken paths)
  shown_files left told there =
      shown_listed left command told.files bytes (project_at modules sheets start) is.list is.planned there
      ∙ ap (λ k. shown_of_files left command told.files k modules sheets start (files_of told.files 1 k paths)) (sym is.taken_is)

  -- the modules were read, and run, checked or listed
  pub list_went_on : (xs : List (List ℕ)) (result : Status) (old : World) (last : FilesAt) (new : World) → length xs ≡ length paths → ReadInOrder paths 1 taken (Ok xs) (files_in old) last
      → RanSources command sheets (length xs + 1) (taken + total xs) (program_of (Some start) (module_files modules xs)) result (with_files old last) new → GoesOn command bytes l result old new
  list_went_on xs result old last new size q ran = λ first p.
      let there = first_told command bytes p.count first.told old.told p.told in
      let meant = meant_told (Ok xs) p.count q.count first.told old.told last.told p.told q.told in
      let number : length xs + 1 ≡ suc (length paths) = omega (arith, size) in
      let size_now : taken + total xs ≡ length bytes + total xs = let t = is.taken_is in omega (arith, t) in
      went command l bytes xs (program_of (Some start) (module_files modules xs)) result old first last new (modules_read (Ok xs) first (files_in old) last p q)
      (subst (λ k. RanSources command sheets (suc (length paths)) k (program_of (Some start) (module_files modules xs)) result (with_files old last) new) size_now
      (subst (λ k. RanSources command sheets k (taken + total xs) (program_of (Some start) (module_files modules xs)) result (with_files old last) new) number ran))
      (λ left.
      map_both first.told
      (λ t held all.
      shown_files left t held
      ∙ ap (shown_of_files left command t.files taken modules sheets start) all
      ∙ ap (λ k. shown_of_source command sheets (book_of t.files (suc k) (taken + total xs) sheets) (program_of (Some start) (module_files modules xs) left)) size
      ∙ ap (λ k. shown_of_source command sheets (book_of t.files (suc (length paths)) k sheets) (program_of (Some start) (module_files modules xs) left)) size_now)
      there meant)
      not_alone
      (map_told first.told (λ t held. named_listed command t.files bytes (project_at modules sheets start) is.list is.planned held) there)

  -- the same, with the modules and the sheets told otherwise
  pub list_went_by : (xs ys : List (List ℕ)) (fs : List ModuleFile) (listed : List SheetAt) (number size : ℕ) (result : Status) (old : World) (last : FilesAt) (new : World) → length xs ≡ length paths
      → ReadInOrder paths 1 taken (Ok xs) (files_in old) last → ys ≡ xs → fs ≡ module_files modules xs → listed ≡ sheets → number ≡ length ys + 1 → size ≡ taken + total ys
      → RanSources command listed number size (program_of (Some start) fs) result (with_files old last) new → GoesOn command bytes l result old new
  list_went_by xs ys fs listed number size result old last new count q same files_are sheets_are number_is size_is ran =
      let number_now : number ≡ length xs + 1 = number_is ∙ ap (λ zs. length zs + 1) same in
      let size_now : size ≡ taken + total xs = size_is ∙ ap (λ zs. taken + total zs) same in
      list_went_on xs result old last new count q
      (subst (λ k. RanSources command sheets (length xs + 1) k (program_of (Some start) (module_files modules xs)) result (with_files old last) new) size_now
      (subst (λ k. RanSources command sheets k size (program_of (Some start) (module_files modules xs)) result (with_files old last) new) number_now
      (subst (λ ss. RanSources command ss number size (program_of (Some start) (module_files modules xs)) result (with_files old last) new) sheets_are
      (subst (λ zs. RanSources command listed number size (program_of (Some start) zs) result (with_files old last) new) files_are ran))))

  -- one of the modules can't be read
  stopped_read : (reason : ReadStop) (first old last : FilesAt) → ReadInOrder (path_in command ∷ []) 0 0 (Ok (bytes ∷ [])) first old → ReadInOrder paths 1 taken (Err reason) old last
      → ReadInOrder (names_of (Some command) l) 0 0 (Err reason) first last
  stopped_read reason first old last p q =
      stopped (path_in command ∷ paths) (book_paths command sheets) 0 0 reason first last (modules_read (Err reason) first old last p q)

  pub list_went_stopped : (reason : ReadStop) (old : World) (last : FilesAt) → ReadInOrder paths 1 taken (Err reason) (files_in old) last → GoesOn command bytes l (unread reason) old (with_files old last)
  list_went_stopped (read.Failed n) old last q = λ first p.
      let there = first_told command bytes p.count first.told old.told p.told in
      record {
        left = None;
        leaves = record { unspoilt = record { out_faults = refl; write_faults = q.write_faults ∙ p.write_faults }; out = refl };
        meets = map_any first.told (λ t. refl);
        alone = not_alone;
        listed = map_told first.told (λ t held. inr (named_listed command t.files bytes (project_at modules sheets start) is.list is.planned held)) there;
        mid = last;
        read = stopped_read (read.Failed n) first (files_in old) last p q;
        written = refl;
        usage = λ none. absurd cc;
      }
  list_went_stopped (read.TooLong n) old last q = λ first p.
      let there = first_told command bytes p.count first.told old.told p.told in
      let meant = meant_told (Err (read.TooLong n)) p.count q.count first.told old.told last.told p.told q.told in
      record {
        left = None;
        leaves = record { unspoilt = record { out_faults = refl; write_faults = q.write_faults ∙ p.write_faults }; out = refl };
        meets =
            map_both first.told
            (λ t held all.
            subst (λ s. Meets s (TooLong n) old.out old.out) (sym (shown_files None t held ∙ ap (shown_of_files None command t.files taken modules sheets start) all)) (refl, adds_none old.out))
            there meant;
        alone = not_alone;
        listed = map_told first.told (λ t held. named_listed command t.files bytes (project_at modules sheets start) is.list is.planned held) there;
        mid = last;
        read = stopped_read (read.TooLong n) first (files_in old) last p q;
        written = refl;
        usage = λ none. absurd cc;
      }
  list_went_stopped read.NoMemory old last q = λ first p.
      let there = first_told command bytes p.count first.told old.told p.told in
      record {
        left = None;
        leaves = record { out_faults = refl; write_faults = q.write_faults ∙ p.write_faults };
        meets = map_any first.told (λ t. adds_prefix_none old.out (shown_of_command None t.files (Some command)).out);
        alone = not_alone;
        listed = map_told first.told (λ t held. inr (named_listed command t.files bytes (project_at modules sheets start) is.list is.planned held)) there;
        mid = last;
        read = stopped_read read.NoMemory first (files_in old) last p q;
        written = inl refl;
        usage = λ none. absurd cc;
      }
