-- What is read of a line fits, and spells its tokens.
use Rattle.std.proofs.lemmas.List.{append-nil}
use Rattle.std.proofs.lemmas.Bool.{cond_both}
use Rattle.std.proofs.Common.{◌≡◌, ℕ, Bool, true, false, List, [], ◌∷◌, ◌++◌, Option, Some, None, refl, sym, ap, ◌∙◌, subst, append_assoc}
use Rattle.std.specs.Prelude.{◌&&◌, if◌then◌else◌, IfSome, option_map}
use Rattle.vba_lexer.specs.declared.token.Token.{Token}
use Rattle.vba_lexer.specs.declared.number.Number.{Number}
use Rattle.vba_words.specs.declared.mark.Mark.TheVariants as mark
use Rattle.vba_words.specs.declared.reading.Reading.{Reading}
use Rattle.vba_words.specs.declared.reading.Reading.TheVariants as reading
use Rattle.vba_words.specs.declared.reading.ReadToken.{ReadToken}
use Rattle.vba_words.specs.Spelling.{read, naming}
use Rattle.vba_tree.specs.declared.line.LineLabel.{LineLabel}
use Rattle.vba_tree.specs.declared.line.LineLabel.TheVariants as line_label
use Rattle.vba_tree.specs.Tree.{Dims, Stmts, Line, type_member, statement_line}
use Rattle.vba_tree.specs.Spelling.{optional, spell_dims, spell_type_clause, spell_statements, spell_line_label, spell}
use Rattle.vba_tree.specs.Forms.{FormedDims, FormedLabel, FormedStatements}
use Rattle.vba_tree.specs.Fitting.{LabelFits, FitsLine, IsReadAs}
use Rattle.vba_grammar.specs.Front.{Found, ◌>>=◌, or_else, is_left, is_colon, begins, is_nothing, whole_line}
use Rattle.vba_grammar.specs.Clauses.{dims_at}
use Rattle.vba_grammar.specs.Blocks.{is_name}
use Rattle.vba_grammar.specs.Lists.{statements_of}
use Rattle.vba_grammar.specs.Lines.{member_of_type, has_as, label_if, statements_line, other_line}
use Rattle.vba_grammar.specs.Laws.{StatementsLaws}
use Rattle.vba_grammar.proofs.Binding.{Told, as_told}
use Rattle.vba_grammar.proofs.Fronts.{name_told, part_told}
use Rattle.vba_grammar.proofs.ClausesLaws.{type_clause_told, dims_told}
use Rattle.vba_grammar.proofs.LabelFronts.{is_label_front, label_front, colon_front}

-- a line that is read is read as it should be
pub record LineTold (ts : List ReadToken) (o : Option Line) : Type 0 where
  pub at : (line : Line) → o ≡ Some line → IsReadAs ts line

pub none_line : {ts : List ReadToken} → LineTold ts None
none_line = record { at = λ line h. absurd cc }

line_is : (a b : Line) → Some a ≡ Some b → a ≡ b
line_is a b h = cc

pub some_line : {ts : List ReadToken} {line : Line} → IsReadAs ts line → LineTold ts (Some line)
some_line {ts = ts} {line = line} p = record { at = λ b h. subst (IsReadAs ts) (line_is line b h) p }

pub bind_line : {A : Type 0} {P : A → List ReadToken → Type 0} {m : Found A} {go : A → List ReadToken → Option Line} {ts : List ReadToken}
    → Told P m → ((a : A) (rest : List ReadToken) → P a rest → LineTold ts (go a rest)) → LineTold ts (m >>= go)
bind_line {m = None} t more = none_line
bind_line {m = Some found} t more = more found.0 found.1 (t.at found.0 found.1 refl)

pub cond_line : {ts : List ReadToken} (b : Bool) (m n : Option Line) → (b ≡ true → LineTold ts m) → (b ≡ false → LineTold ts n) → LineTold ts (if b then m else n)
cond_line {ts = ts} b m n f g = cond_both b m n (LineTold ts) f g

pub else_line : {ts : List ReadToken} {m n : Option Line} → LineTold ts m → LineTold ts n → LineTold ts (or_else m n)
else_line {m = None} f g = g
else_line {m = Some line} f g = f

whole_rest : (ts rest : List ReadToken) (line : Line) → ts ≡ spell line ++ rest → FitsLine line → LineTold ts (if is_nothing rest then Some line else None)
whole_rest ts [] line h f = some_line (record { same = sym (h ∙ append-nil (spell line)); fits = f })
whole_rest ts (t ∷ rest) line h f = none_line

pub whole_told : {m : Found Line} {ts : List ReadToken} → Told (λ line rest. (ts ≡ spell line ++ rest) × FitsLine line) m → LineTold ts (whole_line m)
whole_told {ts = ts} t = bind_line t (λ line rest p. whole_rest ts rest line p.0 p.1)

-- labels
abbrev pub LabelTold : List ReadToken → Option LineLabel × List ReadToken → Type 0
LabelTold ts p =
    (ts ≡ optional spell_line_label p.0 ++ p.1) × IfSome p.0 FormedLabel
    × ((ss : Stmts) → p.1 ≡ spell_statements ss → FormedStatements ss → LabelFits p.0 ss)

no_label : (ts : List ReadToken) → is_label_front ts ≡ false → LabelTold ts (None, ts)
no_label ts h = (refl, tt, λ ss e f. sym (label_front ss f) ∙ (ap is_label_front (sym e) ∙ h))

number_label : (t : Token) (n : Number) (ts : List ReadToken) → begins is_colon ts ≡ false → LabelTold (read t (reading.Number n true) ∷ ts) (Some (line_label.Number t n None), ts)
number_label t n ts h = (refl, tt, λ ss e f. sym (colon_front ss) ∙ (ap (begins is_colon) (sym e) ∙ h))

label_by_number : (t : Token) (n : Number) (u : Token) (us : List ReadToken) (r : Reading) → LabelTold (read t (reading.Number n true) ∷ read u r ∷ us) (label_if (read t (reading.Number n true) ∷ read u r ∷ us))
label_by_number t n u us (reading.Mark mark.Colon) = (refl, tt, λ ss e f. tt)
label_by_number t n u us _ = number_label t n _ refl

label_by_name : (t : Token) (x : List ℕ) (b : Bool) (u : Token) (us : List ReadToken) (r : Reading) → LabelTold (read t (reading.Name x None b) ∷ read u r ∷ us) (label_if (read t (reading.Name x None b) ∷ read u r ∷ us))
label_by_name t x b u us (reading.Mark mark.Colon) = (refl, refl, λ ss e f. tt)
label_by_name t x b u us _ = no_label _ refl

label_by : (t : Token) (ts : List ReadToken) (r : Reading) → LabelTold (read t r ∷ ts) (label_if (read t r ∷ ts))
label_by t [] (reading.Number n true) = number_label t n [] refl
label_by t (u ∷ us) (reading.Number n true) = label_by_number t n u.token us u.reading
label_by t [] (reading.Name x None b) = no_label _ refl
label_by t (u ∷ us) (reading.Name x None b) = label_by_name t x b u.token us u.reading
label_by t ts (reading.Name x (Some suffix) b) = no_label _ refl
label_by t ts _ = no_label _ refl

pub label_told : (ts : List ReadToken) → LabelTold ts (label_if ts)
label_told [] = no_label [] refl
label_told (t ∷ ts) = label_by t.token ts t.reading

statements_by : StatementsLaws → (ts : List ReadToken) (p : Option LineLabel × List ReadToken) (o : Option Stmts) → statements_of p.1 ≡ o → LabelTold ts p
    → LineTold ts (option_map (statement_line p.0) o)
statements_by laws ts p None h told = none_line
statements_by laws ts p (Some ss) h told =
    let g = laws.sound p.1 ss h in
    some_line (record {
      same = ap (λ us. optional spell_line_label p.0 ++ us) (sym g.0) ∙ sym told.0;
      fits = record { formed = (told.1, g.1); chosen = (told.2 ss g.0 g.1, g.2) };
    })

-- statements behind a label that may be missing
pub statements_told : StatementsLaws → (ts : List ReadToken) → LineTold ts (statements_line ts)
statements_told laws ts = statements_by laws ts (label_if ts) (statements_of (label_if ts).1) refl (label_told ts)

-- a member of a Type
pub member_told : (ts : List ReadToken) → LineTold ts (member_of_type ts)
member_told ts =
    bind_line (name_told ts) (λ x rest p. bind_line (part_told is_left dims_at rest (dims_told rest)) (λ dims rest2 q.
    whole_told (as_told (type_member x dims) (type_clause_told rest2) (λ clause rest3 r. (
      p ∙ ap (λ us. naming x ∷ us) (q.0 ∙ (ap (λ us. optional spell_dims dims ++ us) r.0
          ∙ sym (append_assoc (optional spell_dims dims) (spell_type_clause clause) rest3))),
      record { formed = (formed_dims dims q.1, r.1); chosen = tt },
    )))))
  where
    formed_dims : (dims : Option Dims) → IfSome dims (λ d. FormedDims (Some d)) → FormedDims dims
    formed_dims None f = tt
    formed_dims (Some d) f = f

pub other_told : StatementsLaws → (ts : List ReadToken) → LineTold ts (other_line ts)
other_told laws ts = cond_line (begins is_name ts && has_as ts) (member_of_type ts) (statements_line ts) (λ e. member_told ts) (λ e. statements_told laws ts)
