use Rattle.std.proofs.Common.{◌≡◌, List, ap, map, sym, ◌∙◌, ◌++◌, ◌∷◌, []}
use Rattle.std.specs.Prelude.{Bool, None, Some, string_bytes, if◌then◌else◌}
use Rattle.std.proofs.lemmas.List.{map-append}
use Rattle.vba_base.specs.Fold.{folded}
use Rattle.list_file.specs.Lists.{SheetAt}
use Rattle.list_file.specs.View.{sheet_view, module_view, partial_view}
use Rattle.list_file.specs.declared.list.SheetPath.{SheetPath}
use Rattle.list_file.proofs.Reading.{folds_more, unlisted}
use Rattle.list_file.proofs.read.add_sheet.Goals as goal

pub returns-clause-added : goal.returns-clause-added
returns-clause-added c =
    let old = c.args.partial.now in
    let added : SheetAt = record { name = c.args.name; path = string_bytes c.args.path } in
    ap (λ (b : Bool). if b then None else Some (record { modules = map module_view old.modules.items; sheets = map sheet_view old.sheets.items ++ added ∷ []; startup = (partial_view old).startup }))
    (unlisted c.args.name (map sheet_view old.sheets.items) c.in_ok-fold.fold c.as_slice.result.now (c.in_ok-fold.ensures ∙ ap folded c.units.ensures)
    (c.as_slice.ensures.value ∙ c.requires.folds) (sym c.if-is_among.ensures))
    ∙ ap (λ (sheets : List SheetAt). Some (record { modules = map module_view old.modules.items; sheets = sheets; startup = (partial_view old).startup }))
    (sym (map-append sheet_view old.sheets.items _) ∙ ap (map sheet_view) (sym c.in_ok-push-2.ensures.items))

pub returns-clause-folds : goal.returns-clause-folds
returns-clause-folds c =
    let old = c.args.partial.now in
    let added : SheetPath = record { name = c.args.name; path = c.args.path } in
    let fold : c.in_ok-fold.fold ≡ folded c.args.name = c.in_ok-fold.ensures ∙ ap folded c.units.ensures in
    folds_more old _ added c.in_ok-fold.fold c.requires fold
    (unlisted c.args.name (map sheet_view old.sheets.items) c.in_ok-fold.fold c.as_slice.result.now fold
    (c.as_slice.ensures.value ∙ c.requires.folds) (sym c.if-is_among.ensures))
    c.in_ok-push.ensures.items c.in_ok-push-2.ensures.items
