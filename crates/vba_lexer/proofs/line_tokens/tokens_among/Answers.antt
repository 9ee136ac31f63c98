use Rattle.std.proofs.Common.{◌≡◌, ◌∙◌, ◌+◌, ◌++◌, ◌∷◌, [], ap, arith, sym, drop, take, subst}
use Rattle.std.proofs.lemmas.List.{take_rest}
use Rattle.vba_lexer.specs.declared.scan.Standing.{Standing}
use Rattle.vba_lexer.specs.declared.token.Token.{Token}
use Rattle.vba_lexer.specs.Characters.{past}
use Rattle.vba_lexer.specs.Lexed.{token_between}
use Rattle.vba_lexer.specs.Scans.{IsNextToken}
use Rattle.vba_lexer.specs.Tokens.{is_first, standing_behind}
use Rattle.vba_lexer.proofs.CharacterLemmas.{room-take}
use Rattle.vba_lexer.proofs.Fronts.{IsToken-size}
use Rattle.vba_lexer.proofs.BracketWords.{stop_at_front, stop_past, run_at}
use Rattle.vba_lexer.proofs.TokenSteps.{GoesOn, goes_on-none, goes_on-gap, goes_on-token}
use Rattle.vba_lexer.proofs.line_tokens.tokens_among.Goals as goal

pub loop-place-init : goal.loop-place-init
loop-place-init c =
    record { goes_on = rw c.new-found.ensures.items (goes_on-none c.args.module_number c.args.first c.args.line.now c.requires); stop = stop_at_front c.args.line.now }

pub loop-place-preserved-then-is_gap : goal.loop-place-preserved-then-is_gap
loop-place-preserved-then-is_gap c =
    record {
      goes_on =
          goes_on-gap c.args.module_number c.args.first c.args.line.now c.loop-place.found.items c.loop-place.standing c.loop-place.cursor c.past-cursor.result
          c.loop-place.place c.loop-place.invariant.goes_on (omega arith) (sym c.is_gap.ensures ∙ c.if-is_gap.true) (rw take_rest at c.past-cursor.ensures);
      stop = stop_past c.args.line.now c.loop-place.place c.loop-place.stop 1 c.loop-place.invariant.stop;
    }

pub lexeme_at-requires-clause-run : goal.lexeme_at-requires-clause-run
lexeme_at-requires-clause-run c =
    rw (take_rest, c.saturating_sub.ensures)
    (run_at c.args.line.now c.loop-place.place c.bracket_stop-stop.result (omega arith) c.bracket_stop-stop.ensures.stop c.bracket_stop-stop.ensures.exact)

pub past-end-requires : goal.past-end-requires
past-end-requires c =
    room-take c.loop-place.cursor c.in-Some.lexeme.size _ (rw take_rest c.loop-place.invariant.goes_on.room)

pub loop-place-smaller : goal.loop-place-smaller
loop-place-smaller c =
    let token : IsNextToken c.loop-place.standing (drop c.loop-place.place c.args.line.now) c.in-Some.lexeme = rw take_rest at c.in-Some.ensures in
    omega (arith, IsToken-size (is_first c.loop-place.standing) (drop c.loop-place.place c.args.line.now) c.in-Some.lexeme.kind c.in-Some.lexeme.size token.token)

pub loop-place-preserved : goal.loop-place-preserved
loop-place-preserved c =
    let token : IsNextToken c.loop-place.standing (drop c.loop-place.place c.args.line.now) c.in-Some.lexeme = rw take_rest at c.in-Some.ensures in
    let goes : c.past-end.result ≡ past c.loop-place.cursor (take c.in-Some.lexeme.size (drop c.loop-place.place c.args.line.now)) =
    rw take_rest at c.past-end.ensures in
    let more : c.push.new.self.items
    ≡ c.loop-place.found.items ++ token_between c.args.module_number c.in-Some.lexeme.kind c.loop-place.cursor c.past-end.result ∷ [] =
    c.in_ok-push.ensures.items ∙ ap (λ (t : Token). c.loop-place.found.items ++ t ∷ []) c.token_from.ensures in
    let stands : c.standing_behind-standing.result ≡ standing_behind (take c.in-Some.lexeme.size (drop c.loop-place.place c.args.line.now)) =
    rw take_rest at c.standing_behind-standing.ensures in
    record {
      goes_on =
          subst (λ (s : Standing). GoesOn c.args.module_number c.args.first c.args.line.now c.push.new.self.items s c.past-end.result (c.loop-place.place + c.in-Some.lexeme.size))
          (sym stands)
          (goes_on-token c.args.module_number c.args.first c.args.line.now c.loop-place.found.items c.push.new.self.items c.loop-place.standing c.loop-place.cursor
          c.past-end.result c.loop-place.place c.in-Some.lexeme.size c.in-Some.lexeme.kind c.loop-place.invariant.goes_on (omega arith)
          (sym c.is_gap.ensures ∙ c.if-is_gap.false) token.no_comment token.token goes more);
      stop = stop_past c.args.line.now c.loop-place.place c.bracket_stop-stop.result c.in-Some.lexeme.size c.bracket_stop-stop.ensures.stop;
    }
