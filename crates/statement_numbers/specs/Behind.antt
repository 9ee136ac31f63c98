-- Serves the code: which first arms are awaited behind a part.
use Rattle.std.specs.Prelude.{Bool, List, ◌∷◌}
use Rattle.vba_module.specs.Blocks.{Role, opens, divides, closes, stands}
use Rattle.binder.specs.Numbering.{outer, begun, is_select}

-- by what the part is, and those that are awaited before it
abbrev pub awaited_after : Role → List Bool → List Bool
awaited_after (opens kind) around = is_select kind ∷ around
awaited_after (closes kind) around = outer around
awaited_after (divides kind is_last) around = begun around
awaited_after (stands exits) around = around
