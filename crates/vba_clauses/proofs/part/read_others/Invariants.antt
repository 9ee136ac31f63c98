use Rattle.std.proofs.Common.{suc, ◌-◌, length, map}
use Rattle.vba_grammar.specs.Front.{others_at}
use Rattle.vba_clauses.specs.Meets.{meets}
use Rattle.vba_clauses.proofs.Others.{Goes}
use Rattle.vba_clauses.proofs.part.read_others.Given as goal

abbrev pub invariant-others : goal.invariant-others
invariant-others g l =
    Goes (others_at (suc (length l.fn.tokens)) (meets l.mark) g.P.Part.part_at l.fn.tokens) (suc (length l.fn.tokens) - l.counter) (meets l.mark) g.P.Part.part_at
    (map (λ next. (next.mark, g.P.Part.plain_of next.item)) l.others.items) l.left
