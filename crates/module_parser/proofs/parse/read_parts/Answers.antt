use Rattle.std.proofs.Common.{◌≡◌, ◌-◌, ◌∷◌, ◌++◌, length, take, drop, sym, ap, ◌∙◌}
use Rattle.std.specs.Prelude.{flat_map}
use Rattle.std.proofs.lemmas.List.Elements.{All-drop, All-take}
use Rattle.vba_lexer.specs.Inside.{LiesIn}
use Rattle.vba_lexer.specs.Lexed.{lines_view}
use Rattle.vba_words.specs.Readings.{read_line}
use Rattle.refusal_order.specs.Least.{least_of}
use Rattle.vba_module.specs.Parts.{parts_of_lines}
use Rattle.vba_module.specs.Verdict.{trees_of, unread_line}
use Rattle.module_parts.specs.View.{parts_view}
use Rattle.module_parser.specs.Parsed.{read_lexed}
use Rattle.module_parser.proofs.Parses.{first_of, parts_step, unread_step}
use Rattle.module_parser.proofs.parse.read_parts.Goals as goal

-- a line was added, and those behind it are left
pub loop-left-preserved : goal.loop-left-preserved
loop-left-preserved c =
    let left = c.loop-left.left.now in
    let rest = take (length left - 1) (drop 1 left) in
    let tokens = read_line c.args.source.now c.line-item.result.tokens.items in
    let cut : left ≡ c.line-item.result ∷ rest = first_of left c.line-item.result c.in-len1-up.len_at_least c.line-item.is in (
      parts_step tokens (read_lexed c.args.source.now (lines_view rest)) (parts_view c.loop-left.parts.items) (parts_view c.add_line.new.parts.items) _
          c.in_ok-add_line.ensures.parts
          (ap (λ lines. parts_view c.loop-left.parts.items ++ parts_of_lines (trees_of (read_lexed c.args.source.now (lines_view lines)))) (sym cut) ∙ c.loop-left.invariant.0),
      unread_step tokens (read_lexed c.args.source.now (lines_view rest)) c.loop-left.least c.add_line.new.least _
          c.in_ok-add_line.ensures.least
          (ap (λ lines. least_of c.loop-left.least (flat_map unread_line (read_lexed c.args.source.now (lines_view lines)))) (sym cut) ∙ c.loop-left.invariant.1),
      All-take (LiesIn c.args.source.now) _ _ (All-drop (LiesIn c.args.source.now) 1 left c.loop-left.invariant.2),
    )
