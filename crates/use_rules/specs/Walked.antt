-- Serves the code: the parts of a procedure one after another, with the kinds of the blocks that stand open.
use Rattle.std.specs.Prelude.{Bool, List, [], ◌∷◌, ◌++◌, flat_map}
use Rattle.std.specs.List.{list_any}
use Rattle.vba_base.specs.declared.place.Place.{Place}
use Rattle.vba_module.specs.Blocks.{Kind, with_block, same_kind, Role, opens, divides, closes, stands, role_of}
use Rattle.vba_module.specs.Parts.{Part}
use Rattle.declared_names.specs.binder.specs.Said.{Said, said_in_part}
use Rattle.use_rules.specs.Stacks.{below}

-- the kinds that stand open behind a part, the innermost first
abbrev pub kinds_behind : Role → List Kind → List Kind
kinds_behind (opens kind) kinds = kind ∷ kinds
kinds_behind (closes kind) kinds = below kinds
kinds_behind (divides kind is_last) kinds = kinds
kinds_behind (stands exits) kinds = kinds

-- a With block stands open
abbrev pub is_within : List Kind → Bool
is_within kinds = list_any (same_kind with_block) kinds

-- the places that what each part says has
abbrev pub walked : (Bool → Said → List Place) → Bool → List Kind → List Part → List Place
walked test static kinds [] = []
walked test static kinds (part ∷ parts) =
    flat_map (test (is_within kinds)) (said_in_part static part) ++ walked test static (kinds_behind (role_of part) kinds) parts
