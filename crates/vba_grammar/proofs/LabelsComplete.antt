-- A line of statements, with a label or without, is read.
use Rattle.std.proofs.Common.{◌≡◌, ℕ, Bool, true, false, List, [], ◌∷◌, ◌++◌, Option, Some, None, refl, sym, ap, ◌∙◌, subst}
use Rattle.std.specs.Prelude.{◌||◌, ◌&&◌, IfSome, codes, option_map}
use Rattle.vba_lexer.specs.declared.token.Token.{Token}
use Rattle.vba_lexer.specs.declared.number.Number.{Number}
use Rattle.vba_lexer.specs.declared.number.TypeSuffix.{TypeSuffix}
use Rattle.vba_words.specs.declared.identifier.Identifier.{Identifier}
use Rattle.vba_words.specs.declared.mark.Mark.TheVariants as mark
use Rattle.vba_words.specs.declared.reading.Reading.{Reading}
use Rattle.vba_words.specs.declared.reading.Reading.TheVariants as reading
use Rattle.vba_words.specs.declared.reading.ReadToken.{ReadToken}
use Rattle.vba_words.specs.Spelling.{read, marked, naming}
use Rattle.vba_expression.specs.Tree.{name, no_args}
use Rattle.vba_tree.specs.declared.line.LineLabel.{LineLabel}
use Rattle.vba_tree.specs.declared.line.LineLabel.TheVariants as line_label
use Rattle.vba_tree.specs.Tree.{call, Stmt, simple, Stmts, nothing, one, gap, more, statement_line}
use Rattle.vba_tree.specs.Spelling.{optional, spell_line_label, spell_statement, spell_statements, spell}
use Rattle.vba_tree.specs.Forms.{FormedLabel, FormedStatements, FormedLine}
use Rattle.vba_tree.specs.Fitting.{is_bare, begins_bare, begins_missing, LabelFits, ChosenStatements}
use Rattle.vba_grammar.specs.Front.{is_colon, begins, reads}
use Rattle.vba_grammar.specs.Lists.{statements_of}
use Rattle.vba_grammar.specs.Lines.{label_if, statements_line, line_of}
use Rattle.vba_grammar.specs.Laws.{StatementsLaws}
use Rattle.vba_grammar.proofs.LabelFronts.{is_label_front, label_front, colon_front, and_not}
use Rattle.vba_grammar.proofs.LineFronts.{name_line, statements_is}

-- no label is read where none could be
no_label_number : (t u : Token) (b : Bool) (x : List ℕ) (us : List ReadToken) (r : Reading) → (false || (true && is_colon r)) ≡ false
    → label_if (read t (reading.Name x None b) ∷ read u r ∷ us) ≡ (None, read t (reading.Name x None b) ∷ read u r ∷ us)
no_label_number t u b x us (reading.Mark mark.Colon) h = absurd cc
no_label_number t u b x us _ h = refl

no_label_by : (t : Token) (ts : List ReadToken) (r : Reading) → is_label_front (read t r ∷ ts) ≡ false → label_if (read t r ∷ ts) ≡ (None, read t r ∷ ts)
no_label_by t ts (reading.Number n true) h = absurd cc
no_label_by t [] (reading.Name x None b) h = refl
no_label_by t (u ∷ us) (reading.Name x None b) h = no_label_number t u.token b x us u.reading h
no_label_by t [] (reading.Name x (Some suffix) b) h = refl
no_label_by t (u ∷ us) (reading.Name x (Some suffix) b) h = by_colon (is_colon u.reading)
  where
    by_colon : (c : Bool) → label_if (read t (reading.Name x (Some suffix) b) ∷ u ∷ us) ≡ (None, read t (reading.Name x (Some suffix) b) ∷ u ∷ us)
    by_colon c = refl
no_label_by t ts _ h = refl

pub no_label : (ts : List ReadToken) → is_label_front ts ≡ false → label_if ts ≡ (None, ts)
no_label [] h = refl
no_label (t ∷ ts) h = no_label_by t.token ts t.reading h

number_by : (t : Token) (n : Number) (u : Token) (us : List ReadToken) (r : Reading) → is_colon r ≡ false
    → label_if (read t (reading.Number n true) ∷ read u r ∷ us) ≡ (Some (line_label.Number t n None), read u r ∷ us)
number_by t n u us (reading.Mark mark.Colon) h = absurd cc
number_by t n u us _ h = refl

number_alone : (t : Token) (n : Number) (ts : List ReadToken) → begins is_colon ts ≡ false
    → label_if (read t (reading.Number n true) ∷ ts) ≡ (Some (line_label.Number t n None), ts)
number_alone t n [] h = refl
number_alone t n (u ∷ us) h = number_by t n u.token us u.reading h

abbrev with_suffix : Identifier → Option TypeSuffix → Identifier
with_suffix x s = record { token = x.token; name = x.name; suffix = s; is_bracketed = x.is_bracketed }

named_label : (x : Identifier) (c : Token) (ts : List ReadToken) → x.suffix ≡ None
    → label_if (naming x ∷ marked c mark.Colon ∷ ts) ≡ (Some (line_label.Name x c), ts)
named_label x c ts h =
    subst (λ s. label_if (naming (with_suffix x s) ∷ marked c mark.Colon ∷ ts) ≡ (Some (line_label.Name (with_suffix x s) c), ts)) (sym h) refl

-- a label that fits is read, where one may stand
pub label_is : (label : Option LineLabel) (ss : Stmts) → IfSome label FormedLabel → FormedStatements ss → LabelFits label ss
    → label_if (optional spell_line_label label ++ spell_statements ss) ≡ (label, spell_statements ss)
label_is None ss g f h = no_label (spell_statements ss) (label_front ss f ∙ h)
label_is (Some (line_label.Name x c)) ss g f h = named_label x c (spell_statements ss) g
label_is (Some (line_label.Number t n (Some c))) ss g f h = refl
label_is (Some (line_label.Number t n None)) ss g f h = number_alone t n (spell_statements ss) (colon_front ss ∙ h)

-- a line of statements is read as such
pub line_is : (label : Option LineLabel) (ss : Stmts) → FormedStatements ss
    → line_of (optional spell_line_label label ++ spell_statements ss) ≡ statements_line (optional spell_line_label label ++ spell_statements ss)
line_is None ss f = statements_is ss f
line_is (Some (line_label.Name x c)) ss f =
    name_line x (marked c mark.Colon ∷ spell_statements ss) (and_not (reads (codes "attribute") (naming x).reading) false refl) refl refl
line_is (Some (line_label.Number t n (Some c))) ss f = refl
line_is (Some (line_label.Number t n None)) ss f = refl

pub statement_line_is : StatementsLaws → (label : Option LineLabel) (ss : Stmts) → FormedLine (statement_line label ss) → LabelFits label ss → ChosenStatements ss
    → line_of (spell (statement_line label ss)) ≡ Some (statement_line label ss)
statement_line_is laws label ss f l c =
    line_is label ss f.1
    ∙ (ap (λ p. option_map (statement_line p.0) (statements_of p.1)) (label_is label ss f.0 f.1 l)
    ∙ ap (option_map (statement_line label)) (laws.complete ss f.1 c))

-- the statements behind the first colon
abbrev tail : Stmts → Stmts
tail (gap nothing c) = nothing
tail (gap (one s) c) = nothing
tail (gap before c) = gap (tail before) c
tail (more nothing c s) = one s
tail (more (one t) c s) = one s
tail (more before c s) = more (tail before) c s
tail _ = nothing

tail_formed : (ss : Stmts) → FormedStatements ss → FormedStatements (tail ss)
tail_formed nothing f = tt
tail_formed (one s) f = tt
tail_formed (gap nothing c) f = tt
tail_formed (gap (one s) c) f = tt
tail_formed (gap (gap ss d) c) f = tail_formed (gap ss d) f
tail_formed (gap (more ss d t) c) f = tail_formed (more ss d t) f
tail_formed (more nothing c s) f = f.1
tail_formed (more (one t) c s) f = f.1
tail_formed (more (gap ss d) c s) f = (tail_formed (gap ss d) f.0, f.1)
tail_formed (more (more ss d t) c s) f = (tail_formed (more ss d t) f.0, f.1)

-- a list that begins with a missing statement and a colon
record Missing (ss : Stmts) : Type 0 where
  colon : Token
  same : spell_statements ss ≡ marked colon mark.Colon ∷ spell_statements (tail ss)

missing_of : (ss : Stmts) → begins_missing ss ≡ true → Missing ss
missing_of nothing h = absurd cc
missing_of (one s) h = absurd cc
missing_of (gap nothing c) h = record { colon = c; same = refl }
missing_of (gap (one s) c) h = absurd cc
missing_of (gap (gap ss d) c) h = let m = missing_of (gap ss d) h in record { colon = m.colon; same = ap (λ us. us ++ marked c mark.Colon ∷ []) m.same }
missing_of (gap (more ss d t) c) h = let m = missing_of (more ss d t) h in record { colon = m.colon; same = ap (λ us. us ++ marked c mark.Colon ∷ []) m.same }
missing_of (more nothing c s) h = record { colon = c; same = refl }
missing_of (more (one t) c s) h = absurd cc
missing_of (more (gap ss d) c s) h = let m = missing_of (gap ss d) h in record { colon = m.colon; same = ap (λ us. us ++ marked c mark.Colon ∷ spell_statement s) m.same }
missing_of (more (more ss d t) c s) h = let m = missing_of (more ss d t) h in record { colon = m.colon; same = ap (λ us. us ++ marked c mark.Colon ∷ spell_statement s) m.same }

-- a list that begins with a bare name and a colon
record Bare (ss : Stmts) : Type 0 where
  name : Identifier
  colon : Token
  plain : name.suffix ≡ None
  same : spell_statements ss ≡ naming name ∷ marked colon mark.Colon ∷ spell_statements (tail ss)

record BareName (s : Stmt) : Type 0 where
  name : Identifier
  plain : name.suffix ≡ None
  same : spell_statement s ≡ naming name ∷ []

bare_name : (s : Stmt) → is_bare s ≡ true → BareName s
bare_name (simple (call (name x) no_args)) h = by_suffix x.suffix h
  where
    by_suffix : (o : Option TypeSuffix) → is_bare (simple (call (name (with_suffix x o)) no_args)) ≡ true → BareName (simple (call (name (with_suffix x o)) no_args))
    by_suffix None h = record { name = with_suffix x None; plain = refl; same = refl }
    by_suffix (Some suffix) h = absurd cc
bare_name _ h = absurd cc

bare_of : (ss : Stmts) → begins_bare ss ≡ true → Bare ss
bare_of nothing h = absurd cc
bare_of (one s) h = absurd cc
bare_of (gap nothing c) h = absurd cc
bare_of (gap (one s) c) h = let b = bare_name s h in record { name = b.name; colon = c; plain = b.plain; same = ap (λ us. us ++ marked c mark.Colon ∷ []) b.same }
bare_of (gap (gap ss d) c) h = let b = bare_of (gap ss d) h in record { name = b.name; colon = b.colon; plain = b.plain; same = ap (λ us. us ++ marked c mark.Colon ∷ []) b.same }
bare_of (gap (more ss d t) c) h = let b = bare_of (more ss d t) h in record { name = b.name; colon = b.colon; plain = b.plain; same = ap (λ us. us ++ marked c mark.Colon ∷ []) b.same }
bare_of (more nothing c s) h = absurd cc
bare_of (more (one t) c s) h = let b = bare_name t h in record { name = b.name; colon = c; plain = b.plain; same = ap (λ us. us ++ marked c mark.Colon ∷ spell_statement s) b.same }
bare_of (more (gap ss d) c s) h = let b = bare_of (gap ss d) h in record { name = b.name; colon = b.colon; plain = b.plain; same = ap (λ us. us ++ marked c mark.Colon ∷ spell_statement s) b.same }
bare_of (more (more ss d t) c s) h = let b = bare_of (more ss d t) h in record { name = b.name; colon = b.colon; plain = b.plain; same = ap (λ us. us ++ marked c mark.Colon ∷ spell_statement s) b.same }

-- what is read as a label leaves statements of the form
record Labelled (ts : List ReadToken) : Type 0 where
  label : Option LineLabel
  statements : Stmts
  formed : FormedStatements statements
  is : label_if ts ≡ (label, spell_statements statements)

labelled_none : (ss : Stmts) → FormedStatements ss → (b : Bool) → begins_bare ss ≡ b → Labelled (spell_statements ss)
labelled_none ss f false h = record { label = None; statements = ss; formed = f; is = no_label (spell_statements ss) (label_front ss f ∙ h) }
labelled_none ss f true h =
    let b = bare_of ss h in
    record {
      label = Some (line_label.Name b.name b.colon);
      statements = tail ss;
      formed = tail_formed ss f;
      is = ap label_if b.same ∙ named_label b.name b.colon (spell_statements (tail ss)) b.plain;
    }

labelled_number : (t : Token) (n : Number) (ss : Stmts) → FormedStatements ss → (b : Bool) → begins_missing ss ≡ b → Labelled (read t (reading.Number n true) ∷ spell_statements ss)
labelled_number t n ss f false h = record { label = Some (line_label.Number t n None); statements = ss; formed = f; is = number_alone t n (spell_statements ss) (colon_front ss ∙ h) }
labelled_number t n ss f true h =
    let m = missing_of ss h in
    record {
      label = Some (line_label.Number t n (Some m.colon));
      statements = tail ss;
      formed = tail_formed ss f;
      is = ap (λ us. label_if (read t (reading.Number n true) ∷ us)) m.same;
    }

labelled : (label : Option LineLabel) (ss : Stmts) → IfSome label FormedLabel → FormedStatements ss → Labelled (optional spell_line_label label ++ spell_statements ss)
labelled None ss g f = labelled_none ss f (begins_bare ss) refl
labelled (Some (line_label.Name x c)) ss g f = record { label = Some (line_label.Name x c); statements = ss; formed = f; is = named_label x c (spell_statements ss) g }
labelled (Some (line_label.Number t n (Some c))) ss g f = record { label = Some (line_label.Number t n (Some c)); statements = ss; formed = f; is = refl }
labelled (Some (line_label.Number t n None)) ss g f = labelled_number t n ss f (begins_missing ss) refl

none_mapped : (label : Option LineLabel) (o : Option Stmts) → option_map (statement_line label) o ≡ None → o ≡ None
none_mapped label None h = refl
none_mapped label (Some ss) h = absurd cc

pub statement_line_found : StatementsLaws → (label : Option LineLabel) (ss : Stmts) → FormedLine (statement_line label ss) → line_of (spell (statement_line label ss)) ≡ None → ⊥
statement_line_found laws label ss f h =
    let l = labelled label ss f.0 f.1 in
    let e = sym (line_is label ss f.1 ∙ ap (λ p. option_map (statement_line p.0) (statements_of p.1)) l.is) ∙ h in
    laws.found l.statements l.formed (none_mapped l.label (statements_of (spell_statements l.statements)) e)
