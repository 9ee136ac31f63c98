use Rattle.std.proofs.Common.{◌≡◌, ◌∙◌, sym, arith, true, false, take, subst, Bool}
use Rattle.std.proofs.lemmas.Grind.{common_steps}
use Rattle.std.specs.Prelude.{not, ◌&&◌, codes}
use Rattle.vba_lexer.specs.Kinds.{is_gap}
use Rattle.vba_lexer.specs.Tokens.{IsToken, is_first, opens, is_the_word}
use Rattle.vba_lexer.proofs.TokenSteps.{begins_comment-quote, begins_comment-word, some_there}
use Rattle.vba_lexer.proofs.line_tokens.lexeme_at.Goals as goal

pub returns-then-line : goal.returns-then-line
returns-then-line c =
    begins_comment-quote c.args.standing c.args.line.now (some_there (λ character. not (is_gap character)) c.args.line.now c.requires.begins) c.if-line.true

pub returns-then-is_comment_word : goal.returns-then-is_comment_word
returns-then-is_comment_word c =
    let word : true ≡ (opens c.args.standing && is_the_word (codes "rem") (take c.scan-lexeme.result.size c.args.line.now)) =
    sym c.if-is_comment_word.true ∙ (grind (arith, common_steps, c.is_comment_word.ensures)) in
    let token : IsToken (is_first c.args.standing) c.args.line.now c.scan-lexeme.result.kind c.scan-lexeme.result.size =
    subst (λ (first : Bool). IsToken first c.args.line.now c.scan-lexeme.result.kind c.scan-lexeme.result.size) c.is_first.ensures c.scan-lexeme.ensures in
    begins_comment-word c.args.standing c.args.line.now c.scan-lexeme.result.kind c.scan-lexeme.result.size true
    (some_there (λ character. not (is_gap character)) c.args.line.now c.requires.begins) c.if-line.false token word

pub returns-else-is_comment_word : goal.returns-else-is_comment_word
returns-else-is_comment_word c =
    let word : false ≡ (opens c.args.standing && is_the_word (codes "rem") (take c.scan-lexeme.result.size c.args.line.now)) =
    sym c.if-is_comment_word.false ∙ (grind (arith, common_steps, c.is_comment_word.ensures)) in
    let token : IsToken (is_first c.args.standing) c.args.line.now c.scan-lexeme.result.kind c.scan-lexeme.result.size =
    subst (λ (first : Bool). IsToken first c.args.line.now c.scan-lexeme.result.kind c.scan-lexeme.result.size) c.is_first.ensures c.scan-lexeme.ensures in
    record {
      token = token;
      no_comment =
          begins_comment-word c.args.standing c.args.line.now c.scan-lexeme.result.kind c.scan-lexeme.result.size false
          (some_there (λ character. not (is_gap character)) c.args.line.now c.requires.begins) c.if-line.false token word;
    }
