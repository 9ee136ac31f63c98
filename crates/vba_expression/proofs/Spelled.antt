-- The tokens before the rest are those of what was read.
use Rattle.std.proofs.Common.{◌≡◌, ℕ, ◌+◌, ◌-◌, ◌<◌, List, ◌++◌, [], ◌∷◌, length, take, get_or, take_at, length-append, sym, ap, ◌∙◌, arith}
use Rattle.std.proofs.lemmas.List.{map_more}
use Rattle.vba_lexer.specs.declared.token.Token.{Token}
use Rattle.vba_words.specs.declared.reading.ReadToken.{ReadToken}
use Rattle.vba_expression.specs.Tree.{Expr, Args}
use Rattle.vba_expression.specs.Spelling.{spell, spell_args}
use Rattle.vba_expression.specs.Tokens.{bare, tokens_of, tokens_of_arguments}
use Rattle.vba_expression.specs.Reader.{expression_at, arguments_at}
use Rattle.vba_expression.proofs.Inverses.{takes, args_takes, Found, FoundArgs}

-- the tokens up to the rest are what stands before it
up_to : (ts read rest : List ReadToken) → ts ≡ read ++ rest → take (length ts - length rest) ts ≡ read
up_to ts read rest same =
    let long : length ts ≡ length read + length rest = ap length same ∙ length-append read rest in
    let n : length read ≡ length ts - length rest = omega arith in
    ap (take (length ts - length rest)) same ∙ take_at read rest (length ts - length rest) n

pub expression_before : (limit : ℕ) (ts rest : List ReadToken) (e : Expr) (before : List Token) → 0 < limit
    → Found e rest ≡ expression_at limit ts → before ≡ bare (take (length ts - length rest) ts) → before ≡ tokens_of e
expression_before limit ts rest e before h f b = b ∙ ap bare (up_to ts (spell e) rest (takes limit ts rest e h (sym f)).same)

pub arguments_before : (ts rest : List ReadToken) (xs : Args) (before : List Token) → FoundArgs xs rest ≡ arguments_at ts
    → before ≡ bare (take (length ts - length rest) ts) → before ≡ tokens_of_arguments xs
arguments_before ts rest xs before f b = b ∙ ap bare (up_to ts (spell_args xs) rest (args_takes ts rest xs (sym f)).same)

-- one token more
pub bare_more : (ts : List ReadToken) (i : ℕ) (t d : ReadToken) → i < length ts → t ≡ get_or ts i d
    → bare (take (i + 1) ts) ≡ bare (take i ts) ++ t.token ∷ []
bare_more ts i t d h same = map_more (λ u. u.token) ts i d h ∙ ap (λ u. bare (take i ts) ++ u.token ∷ []) (sym same)
