-- Serves the code: what parts are to the brackets of their module.
use Rattle.std.specs.Prelude.{◌≡◌}
use Rattle.vba_module.specs.Blocks as blocks
use Rattle.module_parts.specs.declared.bracket.BlockKind.{BlockKind}
use Rattle.module_parts.specs.declared.bracket.BlockKind.TheVariants as kind
use Rattle.module_parts.specs.declared.bracket.Bracket.{Bracket}
use Rattle.module_parts.specs.declared.bracket.Bracket.TheVariants as bracket

-- the kind that a kind of blocks stands for
abbrev pub kind_view : BlockKind → blocks.Kind
kind_view (kind.Procedure procedure) = blocks.procedure procedure
kind_view kind.Enum = blocks.enum
kind_view kind.Type = blocks.type
kind_view kind.If = blocks.if_block
kind_view kind.Select = blocks.select
kind_view kind.For = blocks.for_loop
kind_view kind.Do = blocks.do_loop
kind_view kind.While = blocks.while_loop
kind_view kind.With = blocks.with_block

-- a bracket is what the role of a part is, whatever Exits stand in it
abbrev pub IsRole : Bracket → blocks.Role → Type 0
IsRole (bracket.Opens opened) role = role ≡ blocks.opens (kind_view opened)
IsRole (bracket.Divides divided is_last) role = role ≡ blocks.divides (kind_view divided) is_last
IsRole (bracket.Closes closed) role = role ≡ blocks.closes (kind_view closed)
IsRole bracket.Stands role = Stands role
  where
    Stands : blocks.Role → Type 0
    Stands (blocks.stands exits) = Unit {0}
    Stands other = ⊥
