-- A primary is a place where it begins as one.
use Rattle.std.proofs.Common.{◌≡◌, false, List, ◌∷◌, ◌++◌, refl, sym, ap, ◌∙◌, append_assoc, arith}
use Rattle.vba_lexer.specs.declared.token.Token.{Token}
use Rattle.vba_words.specs.declared.reading.ReadToken.{ReadToken}
use Rattle.vba_words.specs.Spelling.{read}
use Rattle.vba_expression.specs.declared.operator.UnaryOperator.TheVariants as unary_op
use Rattle.vba_expression.specs.declared.tree.LiteralValue.{LiteralValue}
use Rattle.vba_expression.specs.declared.tree.LiteralValue.TheVariants as value
use Rattle.vba_expression.specs.Tree.{Expr, literal, me, name, with_member, member, index, parenthesised, new, type_of, unary, binary}
use Rattle.vba_expression.specs.Spelling.{literal_reading, spell}
use Rattle.vba_expression.specs.Fitting.{level, Fits, is_place}
use Rattle.vba_expression.specs.Reader.{expression_at}
use Rattle.vba_expression.proofs.Inverses.{takes}
use Rattle.vba_expression.proofs.Reducing.{binary_positive}
use Rattle.vba_grammar.specs.Front.{begins}
use Rattle.vba_grammar.proofs.Binding.{found_pair}
use Rattle.vba_clauses.specs.Places.{begins_place}

literal_begins : (t : Token) (v : LiteralValue) (us : List ReadToken) → false ≡ begins begins_place (read t (literal_reading v) ∷ us)
literal_begins t (value.Number number is_plain) us = refl
literal_begins t (value.Text text) us = refl
literal_begins t value.True us = refl
literal_begins t value.False us = refl
literal_begins t value.Nothing us = refl
literal_begins t value.Null us = refl
literal_begins t value.Empty us = refl

primary_begins : (e : Expr) (us : List ReadToken) → level e ≡ 0 → Fits e → is_place e ≡ begins begins_place (spell e ++ us)
primary_begins (literal l) us h w = literal_begins l.token l.value us
primary_begins (me t) us h w = refl
primary_begins (name x) us h w = refl
primary_begins (with_member d x) us h w = refl
primary_begins (member base d x) us h w =
    primary_begins base _ w.0 w.1 ∙ ap (begins begins_place) (sym (append_assoc (spell base) _ us))
primary_begins (index base l xs r) us h w =
    primary_begins base _ w.0 w.1 ∙ ap (begins begins_place) (sym (append_assoc (spell base) _ us))
primary_begins (parenthesised l e r) us h w = refl
primary_begins (new t class) us h w = refl
primary_begins (type_of t e i class) us h w = refl
primary_begins (unary unary_op.Minus t e) us h w = refl
primary_begins (unary unary_op.Not t e) us h w = refl
primary_begins (binary a o t b) us h w = absurd (omega (arith, binary_positive o))

-- so the primary at the front is a place where the tokens begin as one
pub place_begins : (ts rest : List ReadToken) (e : Expr) → found_pair e rest ≡ expression_at 1 ts → is_place e ≡ begins begins_place ts
place_begins ts rest e h =
    let taken = takes 1 ts rest e (omega arith) (sym h) in
    let below = taken.under in
    primary_begins e rest (omega (arith, below)) taken.fits ∙ ap (begins begins_place) (sym taken.same)
