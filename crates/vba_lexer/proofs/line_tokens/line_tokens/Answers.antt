use Rattle.std.proofs.Common.{◌≡◌, ◌∙◌, ap, arith, subst, sym, List}
use Rattle.std.specs.Prelude.{All}
use Rattle.vba_lexer.specs.Characters.{characters_of}
use Rattle.vba_lexer.specs.Inside.{IsWithin}
use Rattle.vba_lexer.specs.Lexed.{tokens_of}
use Rattle.vba_lexer.specs.declared.token.Token.{Token}
use Rattle.vba_lexer.proofs.Inside.{tokens_of-within}
use Rattle.vba_lexer.proofs.line_tokens.line_tokens.Goals as goal

pub returns-clause-inside : goal.returns-clause-inside
returns-clause-inside c =
    let same : c.in_ok-found.found.items ≡ tokens_of c.args.module_number c.args.first (characters_of c.args.line.now) =
    c.in_ok-found.ensures ∙ ap (tokens_of c.args.module_number c.args.first) (c.as_slice.ensures.value ∙ c.in_ok-characters.ensures.value) in
    λ size below.
    subst (λ (tokens : List Token). All (IsWithin size) tokens) (sym same)
    (tokens_of-within c.args.module_number c.args.first c.args.line.now (λ place. omega (arith, c.type_inv.line place)) size below)
