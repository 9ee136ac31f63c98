-- One value more.
use Rattle.std.proofs.Common.{◌≡◌, List, [], ◌∷◌, ◌++◌, map, Option}
use Rattle.std.proofs.lemmas.List.{map-append}
use Rattle.std.specs.declared.alloc.Global.{Global}
use Rattle.std.specs.declared.vec.Vec.{Vec}
use Rattle.constant_values.specs.declared.known.Known.{Known}
use Rattle.constant_values.specs.View.{slot_view, slots_view, tables_view}

pub slots_push : (slots : List (Option Known)) (slot : Option Known) → slots_view (slots ++ slot ∷ []) ≡ slots_view slots ++ slot_view slot ∷ []
slots_push slots slot = map-append slot_view slots (slot ∷ [])

pub tables_push : (tables : List (Vec (Option Known) Global)) (slots : Vec (Option Known) Global)
    → tables_view (tables ++ slots ∷ []) ≡ tables_view tables ++ slots_view slots.items ∷ []
tables_push tables slots = map-append (λ (table : Vec (Option Known) Global). slots_view table.items) tables (slots ∷ [])
