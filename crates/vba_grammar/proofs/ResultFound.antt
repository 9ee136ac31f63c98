-- The type of a result is found, also where brackets stand behind a length.
use Rattle.std.proofs.lemmas.List.{append-nil}
use Rattle.std.proofs.Common.{◌≡◌, ◌<◌, ◌≤◌, List, [], ◌∷◌, ◌++◌, Option, Some, None, refl, sym, ap, ◌∙◌, subst, append_assoc}
use Rattle.std.specs.Prelude.{codes}
use Rattle.vba_lexer.specs.declared.token.Token.{Token}
use Rattle.vba_words.specs.declared.keyword.Keyword.TheVariants as keyword
use Rattle.vba_words.specs.declared.mark.Mark.TheVariants as mark
use Rattle.vba_words.specs.declared.reading.ReadToken.{ReadToken}
use Rattle.vba_words.specs.Spelling.{read, word, marked}
use Rattle.vba_expression.specs.Tree.{Expr, unary, binary, index, no_args}
use Rattle.vba_expression.specs.Spelling.{spell as spell_expression, unary_reading, binary_reading}
use Rattle.vba_expression.specs.Fitting.{level, Fits, binary_level, unary_level}
use Rattle.vba_tree.specs.declared.declaration.Brackets.{Brackets}
use Rattle.vba_tree.specs.Tree.{DeclaredType, named, fixed_text, ResultType}
use Rattle.vba_tree.specs.Spelling.{place_word, spell_result_type}
use Rattle.vba_tree.specs.Forms.{FormedType}
use Rattle.vba_grammar.specs.Clauses.{result_type_at}
use Rattle.vba_grammar.specs.Laws.{IsFoundBefore}
use Rattle.vba_grammar.proofs.ClausesLaws.{result_type_is}

-- `()` behind an expression belongs to its last primary
abbrev called : Expr → Brackets → Expr
called (unary o t e) b = unary o t (called e b)
called (binary a o t c) b = binary a o t (called c b)
called e b = index e b.left no_args b.right

called_level : (e : Expr) (b : Brackets) → level (called e b) ≡ level e
called_level (unary o t e) b = refl
called_level (binary a o t c) b = refl
called_level _ b = refl

called_text : (e : Expr) (b : Brackets) → spell_expression (called e b) ≡ spell_expression e ++ marked b.left mark.LeftParenthesis ∷ marked b.right mark.RightParenthesis ∷ []
called_text (unary o t e) b = ap (λ us. read t (unary_reading o) ∷ us) (called_text e b)
called_text (binary a o t c) b =
    ap (λ us. spell_expression a ++ read t (binary_reading o) ∷ us) (called_text c b)
    ∙ sym (append_assoc (spell_expression a) (read t (binary_reading o) ∷ spell_expression c) (marked b.left mark.LeftParenthesis ∷ marked b.right mark.RightParenthesis ∷ []))
called_text _ b = refl

called_fits : (e : Expr) (b : Brackets) → Fits e → Fits (called e b)
called_fits (unary o t e) b f = (subst (λ n. n ≤ unary_level o) (sym (called_level e b)) f.0, called_fits e b f.1)
called_fits (binary a o t c) b f = (f.0, subst (λ n. n < binary_level o) (sym (called_level c b)) f.1, f.2, called_fits c b f.3)
called_fits e b f = (refl, f, tt, refl)

is_found : (ts us : List ReadToken) (r : ResultType) → ts ≡ us → result_type_at us ≡ Some (r, []) → IsFoundBefore [] (result_type_at ts)
is_found ts us r h k = subst (IsFoundBefore []) (sym (ap result_type_at h ∙ k)) refl

result_by : (w : Token) (t : DeclaredType) (o : Option Brackets) → FormedType t
    → IsFoundBefore [] (result_type_at (spell_result_type (record { as_word = w; declared_type = t; brackets = o }) ++ []))
result_by w (named class) o f =
    let r : ResultType = record { as_word = w; declared_type = named class; brackets = o } in
    is_found (spell_result_type r ++ []) (spell_result_type r ++ []) r refl (result_type_is r [] (f, tt) tt)
result_by w (fixed_text s t e) None f =
    let r : ResultType = record { as_word = w; declared_type = fixed_text s t e; brackets = None } in
    is_found (spell_result_type r ++ []) (spell_result_type r ++ []) r refl (result_type_is r [] (f, refl) tt)
result_by w (fixed_text s t e) (Some b) f =
    let r : ResultType = record { as_word = w; declared_type = fixed_text s t e; brackets = Some b } in
    let q : ResultType = record { as_word = w; declared_type = fixed_text s t (called e b); brackets = None } in
    is_found (spell_result_type r ++ []) (spell_result_type q ++ []) q
    (ap (λ us. (word w keyword.As ∷ place_word s (codes "string") ∷ marked t mark.Times ∷ us) ++ []) (sym (called_text e b) ∙ sym (append-nil (spell_expression (called e b)))))
    (result_type_is q [] (called_fits e b f, refl) tt)

pub result_type_found : (r : ResultType) → FormedType r.declared_type → IsFoundBefore [] (result_type_at (spell_result_type r ++ []))
result_type_found r f = result_by r.as_word r.declared_type r.brackets f
