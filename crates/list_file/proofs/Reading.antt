-- Reading the lines of a list file.
use Rattle.std.proofs.Common.{◌≡◌, ◌∙◌, ℕ, suc, ◌+◌, ◌≤◌, Bool, true, false, List, [], ◌∷◌, ◌++◌, length, take, drop, map, refl, ap, sym, subst, append_assoc}
use Rattle.std.proofs.lemmas.List.{append-nil, map-append}
use Rattle.std.specs.Prelude.{bytes_eq, not, ◌||◌, if◌then◌else◌, string_bytes, Result, Ok, Err, Option, Some, None}
use Rattle.std.specs.List.{list_any}
use Rattle.vba_base.specs.Answer.{Fails}
use Rattle.vba_base.specs.Fold.{folded}
use Rattle.vba_base.specs.declared.fault.OrMemory.{OrMemory}
use Rattle.vba_base.specs.declared.fault.OrMemory.TheVariants.{Fault, NoMemory}
use Rattle.vba_lexer.specs.declared.lines.Ending.{Ending}
use Rattle.vba_lexer.specs.Lines.{PhysicalLine, lines_of, is_last}
use Rattle.vba_lexer.specs.FirstLine.{IsFirstLine, end_size, lines_behind}
use Rattle.list_file.specs.declared.list.ModulePath.{ModulePath}
use Rattle.list_file.specs.declared.list.Partial.{Partial}
use Rattle.list_file.specs.declared.list.SheetPath.{SheetPath}
use Rattle.list_file.specs.Lines.{entry_of}
use Rattle.list_file.specs.Lists.{ModuleAt, SheetAt, Listed, HaveNewNames, is_listed, has_module, with_entry, listed_on, listed_from, nothing_listed, whole_list}
use Rattle.list_file.specs.Seen.{HasFolds, count_of, folds_of}
use Rattle.list_file.specs.View.{module_view, partial_view, sheet_view}

-- a name is listed exactly where its fold is among those of the sheets
pub among_folds : (name : List ℕ) (sheets : List SheetAt) → list_any (λ other. bytes_eq (folded name) other) (folds_of sheets) ≡ is_listed name sheets
among_folds name [] = refl
among_folds name (sheet ∷ sheets) = ap (λ (b : Bool). bytes_eq (folded name) (folded sheet.name) || b) (among_folds name sheets)

-- a name whose fold is none of those of the sheets is listed nowhere
pub unlisted : (name : List ℕ) (sheets : List SheetAt) (fold : List ℕ) (folds : List (List ℕ)) → fold ≡ folded name → folds ≡ folds_of sheets
    → list_any (λ other. bytes_eq fold other) folds ≡ false → is_listed name sheets ≡ false
unlisted name sheets fold folds is are none =
    sym (among_folds name sheets)
    ∙ subst (λ f. list_any (λ other. bytes_eq f other) (folds_of sheets) ≡ false) is (subst (λ fs. list_any (λ other. bytes_eq fold other) fs ≡ false) are none)

-- a name that is new behind others that are
pub new_names_more : (before sheets : List SheetAt) (s : SheetAt) → HaveNewNames before sheets → is_listed s.name (before ++ sheets) ≡ false → HaveNewNames before (sheets ++ s ∷ [])
new_names_more before [] s new unlisted = (subst (λ ss. is_listed s.name ss ≡ false) (append-nil before) unlisted, tt)
new_names_more before (first ∷ sheets) s new unlisted =
    (new.0, new_names_more (before ++ first ∷ []) sheets s new.1 (subst (λ ss. is_listed s.name ss ≡ false) (sym (append_assoc before (first ∷ []) sheets)) unlisted))

-- one sheet more, with its fold
pub folds_more : (old new : Partial) (added : SheetPath) (fold : List ℕ) → HasFolds old → fold ≡ folded added.name
    → is_listed added.name (map sheet_view old.sheets.items) ≡ false → new.folds.items ≡ old.folds.items ++ fold ∷ []
    → new.sheets.items ≡ old.sheets.items ++ added ∷ [] → HasFolds new
folds_more old new added fold has is unlisted folds sheets =
    let seen : map sheet_view new.sheets.items ≡ map sheet_view old.sheets.items ++ sheet_view added ∷ [] =
    ap (map sheet_view) sheets ∙ map-append sheet_view old.sheets.items (added ∷ []) in
    let all = map sheet_view old.sheets.items in
    record {
      folds =
          folds
          ∙ ap (λ fs. fs ++ fold ∷ []) has.folds
          ∙ ap (λ f. folds_of all ++ f ∷ []) is
          ∙ sym (map-append (λ (s : SheetAt). folded s.name) all (sheet_view added ∷ []))
          ∙ ap folds_of (sym seen);
      names = subst (λ ss. HaveNewNames [] ss) (sym seen) (new_names_more [] all (sheet_view added) has.names unlisted);
    }

pub has_module_views : (modules : List ModulePath) → list_any (λ (m : ModulePath). not m.is_class) modules ≡ has_module (map module_view modules)
has_module_views [] = refl
has_module_views (m ∷ modules) = ap (λ (b : Bool). not m.is_class || b) (has_module_views modules)

-- a fault of the lines is one of the list
pub fails_whole : (e : OrMemory ℕ) (meant : Result Listed ℕ) → Fails e meant → Fails e (whole_list meant)
fails_whole NoMemory meant fails = fails
fails_whole (Fault number) meant fails = ap whole_list fails

-- the rest of the lines, behind those that were read
pub record LinesGoOn (source rest : List ℕ) (number : ℕ) (partial : Partial) : Type 0 where
  pub folds : HasFolds partial
  pub counted : number + length rest ≤ length source + 1
  pub few : count_of partial + 1 ≤ number
  pub goes_on : listed_from number (partial_view partial) (lines_of rest) ≡ listed_from 1 nothing_listed (lines_of source)

-- one line more was added
pub line_added : (number : ℕ) (l l1 : Listed) (source : List ℕ) (size : ℕ) (ending : Ending) → IsFirstLine source size ending → is_last ending ≡ false
    → with_entry l (entry_of (take size source)) ≡ Some l1
    → listed_from number l (lines_of source) ≡ listed_from (suc number) l1 (lines_of (drop (size + end_size ending) source))
line_added number l l1 source size ending first more added =
    let e : lines_behind ending (drop (size + end_size ending) source) ≡ lines_of (drop (size + end_size ending) source) = rw more in
    ap (listed_from number l) (first.lines ∙ ap (λ (lines : List PhysicalLine). record { text = take size source; ending = ending } ∷ lines) e)
    ∙ ap (λ (o : Option Listed). listed_on number o (λ (l2 : Listed). listed_from (suc number) l2 (lines_of (drop (size + end_size ending) source)))) added

-- the last line was added
pub line_last : (number : ℕ) (l l1 : Listed) (source : List ℕ) (size : ℕ) (ending : Ending) → IsFirstLine source size ending → is_last ending ≡ true
    → with_entry l (entry_of (take size source)) ≡ Some l1 → listed_from number l (lines_of source) ≡ Ok l1
line_last number l l1 source size ending first last added =
    let e : lines_behind ending (drop (size + end_size ending) source) ≡ [] = rw last in
    ap (listed_from number l) (first.lines ∙ ap (λ (lines : List PhysicalLine). record { text = take size source; ending = ending } ∷ lines) e)
    ∙ ap (λ (o : Option Listed). listed_on number o (λ (l2 : Listed). Ok l2)) added

-- a line says nothing that may stand there
pub line_wrong : (number : ℕ) (l : Listed) (source : List ℕ) (size : ℕ) (ending : Ending) → IsFirstLine source size ending
    → with_entry l (entry_of (take size source)) ≡ None → listed_from number l (lines_of source) ≡ Err number
line_wrong number l source size ending first wrong =
    ap (listed_from number l) first.lines
    ∙ ap (λ (o : Option Listed). listed_on number o (λ (l2 : Listed). listed_from (suc number) l2 (lines_behind ending (drop (size + end_size ending) source)))) wrong
