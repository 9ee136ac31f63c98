-- Serves the code: the plain data that blocks, parts in their place and what is sought stand for.
use Rattle.std.specs.Prelude.{ℕ, ◌+◌, Bool, List, [], ◌∷◌, map, reverse, drop, slice_index_or, Option, Some, None}
use Rattle.vba_lexer.specs.declared.token.Token.{Token}
use Rattle.vba_lexer.specs.declared.token.TokenKind.TheVariants.{Mark}
use Rattle.vba_tree.specs.Tree.{simple, stop}
use Rattle.vba_module.specs.Blocks as blocks
use Rattle.vba_module.specs.Parts as parts
use Rattle.vba_module.specs.Parts.{statement, nowhere}
use Rattle.module_parts.specs.Brackets.{kind_view}
use Rattle.module_parts.specs.View.{parts_view}
use Rattle.module_parts.specs.declared.bracket.Bracket.{Bracket}
use Rattle.module_parts.specs.declared.bracket.Bracket.TheVariants as bracket
use Rattle.module_parts.specs.declared.part.Part.{Part}
use Rattle.binder.specs.Numbering as numbering
use Rattle.statement_numbers.specs.declared.opened.Opened.{Opened}
use Rattle.statement_numbers.specs.declared.awaited.Awaited.{Awaited}
use Rattle.statement_numbers.specs.declared.sought.Sought.{Sought}
use Rattle.statement_numbers.specs.declared.sought.Sought.TheVariants as sought
use Rattle.statement_numbers.specs.declared.step.Step.{Step}
use Rattle.statement_numbers.specs.declared.step.Step.TheVariants as step
use Rattle.statement_numbers.specs.declared.standing.Standing.{Standing}
use Rattle.statement_numbers.specs.declared.walk.Walk.{Walk}

-- the role that a bracket stands for, with no Exits
abbrev pub role_view : Bracket → blocks.Role
role_view (bracket.Opens kind) = blocks.opens (kind_view kind)
role_view (bracket.Divides kind is_last) = blocks.divides (kind_view kind) is_last
role_view (bracket.Closes kind) = blocks.closes (kind_view kind)
role_view bracket.Stands = blocks.stands []

-- ---- what is sought

-- the innermost one, where it is told, and those outside
abbrev pub inside : Option Bool → List Bool → List Bool
inside None outside = outside
inside (Some innermost) outside = innermost ∷ outside

-- the last one is the innermost
abbrev pub awaits : List Opened → List Bool
awaits opened = reverse (map (λ o. o.awaits) opened)

abbrev pub awaited_view : Awaited → List Bool
awaited_view a = inside a.innermost (awaits a.outside.now)

abbrev pub sought_view : Sought → numbering.Sought
sought_view sought.Here = numbering.here
sought_view (sought.Arm depth) = numbering.an_arm depth
sought_view (sought.BehindBlock depth) = numbering.behind_block depth
sought_view (sought.BehindKind kind depth) = numbering.behind_kind (kind_view kind) depth

abbrev pub step_view : Step → numbering.Step
step_view step.Stops = numbering.stops
step_view (step.GoesOn what awaited) = numbering.goes_on (sought_view what) (awaited_view awaited)

-- ---- where parts stand

-- what stands at a number past the end of a body
abbrev pub no_token : Token
no_token = record { kind = Mark; start = 0; end = 0; place = nowhere }

abbrev pub no_part : parts.Part
no_part = statement (simple (stop no_token))

-- the part of a body at a number
abbrev pub part_at : List Part → ℕ → parts.Part
part_at body at = slice_index_or (parts_view body) at no_part

abbrev pub opened_view : List Part → Opened → numbering.Opened
opened_view body o = record { kind = kind_view o.kind; line = part_at body o.line; header = o.header; first = o.first; awaits = o.awaits }

-- the last one is the innermost
abbrev pub stack_view : List Part → List Opened → List numbering.Opened
stack_view body opened = reverse (map (opened_view body) opened)

abbrev pub standing_view : Standing → numbering.Standing
standing_view s = record {
  part = part_at s.body.now s.at;
  number = s.number;
  around = stack_view s.body.now s.around.now;
  rest = parts_view (drop (s.at + 1) s.body.now);
}

-- the parts that a walk still passes
abbrev pub walk_view : Walk → List numbering.Standing
walk_view w = numbering.standings w.number (stack_view w.body.now w.opened.items) (parts_view (drop w.at w.body.now))
