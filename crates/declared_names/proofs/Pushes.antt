-- One entry, name or module more.
use Rattle.std.proofs.Common.{◌≡◌, List, [], ◌∷◌, ◌++◌, map}
use Rattle.std.proofs.lemmas.List.{map-append}
use Rattle.declared_names.specs.View.{entry_view, local_view, space_view}
use Rattle.declared_names.specs.declared.entry.Entry.{Entry}
use Rattle.declared_names.specs.declared.local.Local.{Local}
use Rattle.declared_names.specs.declared.space.Space.{Space}

pub entries_push : (es : List Entry) (e : Entry) → map entry_view (es ++ e ∷ []) ≡ map entry_view es ++ entry_view e ∷ []
entries_push es e = map-append entry_view es (e ∷ [])

pub locals_push : (ls : List Local) (l : Local) → map local_view (ls ++ l ∷ []) ≡ map local_view ls ++ local_view l ∷ []
locals_push ls l = map-append local_view ls (l ∷ [])

pub spaces_push : (ss : List Space) (s : Space) → map space_view (ss ++ s ∷ []) ≡ map space_view ss ++ space_view s ∷ []
spaces_push ss s = map-append space_view ss (s ∷ [])
