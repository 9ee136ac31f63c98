use Rattle.std.proofs.Common.{length, sym, ◌∙◌, arith}
use Rattle.vba_parser.specs.Seen.{state_view}
use Rattle.vba_parser.proofs.Turning.{first_turn, next_turn, no_turn}
use Rattle.vba_parser.proofs.lists.read_statements.Goals as goal

pub turns-init : goal.turns-init
turns-init c = first_turn c.args.tokens.now c.new.result.items c.new.ensures.items

pub returns-in_default : goal.returns-in_default
returns-in_default c =
    no_turn _ (length c.args.tokens.now) c.turns.counter (state_view c.turns.state) c.turns.left.now (sym c.is_empty.ensures ∙ c.if-is_empty.false) (omega arith) c.turns.invariant
    (sym (rw c.in_default.is at c.in_ok-behind.ensures))

pub turns-preserved : goal.turns-preserved
turns-preserved c =
    next_turn _ (length c.args.tokens.now) c.turns.counter (state_view c.turns.state) (state_view c.turn.new.state) c.turns.left.now c.in-Some.behind.now
    (sym c.is_empty.ensures ∙ c.if-is_empty.false) (omega arith) c.turns.invariant (sym (rw c.in-Some.is at c.in_ok-behind.ensures))
