-- A line of the grammar's form is not refused; so the laws of lines hold.
use Rattle.std.proofs.lemmas.List.{append-nil}
use Rattle.std.proofs.Common.{◌≡◌, false, List, [], ◌++◌, Option, Some, None, refl, sym, ap, ◌∙◌}
use Rattle.std.specs.Prelude.{IfSome}
use Rattle.vba_lexer.specs.declared.token.Token.{Token}
use Rattle.vba_words.specs.declared.identifier.Identifier.{Identifier}
use Rattle.vba_words.specs.declared.reading.ReadToken.{ReadToken}
use Rattle.vba_tree.specs.declared.declaration.AccessWord.{AccessWord}
use Rattle.vba_tree.specs.declared.procedure.ProcedureWords.{ProcedureWords}
use Rattle.vba_tree.specs.Tree.{Parameters, ResultType, Line, option_line, attribute_line, enum_header, end_enum, type_header, type_member, end_type, event_line, procedure_header, procedure_end, statement_line}
use Rattle.vba_tree.specs.Spelling.{optional, spell_parameters, spell_result_type, spell}
use Rattle.vba_tree.specs.Forms.{AccessIs, before_event, FormedParameters, FormedType, FormedLine}
use Rattle.vba_tree.specs.Fitting.{IsReadAs}
use Rattle.vba_grammar.specs.Front.{Found, found_as, is_as, is_left, begins, part_if, whole_line}
use Rattle.vba_grammar.specs.Clauses.{parameters_at, result_type_at}
use Rattle.vba_grammar.specs.Lines.{line_of}
use Rattle.vba_grammar.specs.Laws.{IsFoundBefore, StatementsLaws, LineLaws}
use Rattle.vba_grammar.proofs.Binding.{then_is, as_is, if_is, if_not}
use Rattle.vba_grammar.proofs.LabelsComplete.{statement_line_found}
use Rattle.vba_grammar.proofs.ParameterLaws.{ParameterLaws}
use Rattle.vba_grammar.proofs.LineSound.{line_sound}
use Rattle.vba_grammar.proofs.LineComplete.{result_left, event_front, allowed_is, procedure_front, line_complete}

-- something is found, and this is left
pub record Finds {A : Type 0} (rest : List ReadToken) (m : Found A) : Type 0 where
  pub part : A
  pub is : m ≡ Some (part, rest)

pub finds : {A : Type 0} (rest : List ReadToken) (m : Found A) → IsFoundBefore rest m → Finds rest m
finds rest None h = absurd h
finds rest (Some found) h = record { part = found.0; is = ap (λ us. Some (found.0, us)) h }

parameters_found : ParameterLaws → (o : Option Parameters) (rest : List ReadToken) → FormedParameters o → begins is_left rest ≡ false
    → Finds rest (part_if is_left parameters_at (optional spell_parameters o ++ rest))
parameters_found laws None rest f h = record { part = None; is = if_not _ _ h refl }
parameters_found laws (Some p) rest f h =
    let g = finds rest (parameters_at (spell_parameters p ++ rest)) (laws.found p rest f) in
    record { part = Some g.part; is = as_is Some g.is }

result_found : ParameterLaws → (o : Option ResultType) → IfSome o (λ r. FormedType r.declared_type) → Finds [] (part_if is_as result_type_at (optional spell_result_type o))
result_found laws None f = record { part = None; is = refl }
result_found laws (Some r) f =
    let g = finds [] (result_type_at (spell_result_type r ++ [])) (laws.result_found r f) in
    record { part = Some g.part; is = as_is Some (ap result_type_at (sym (append-nil (spell_result_type r))) ∙ g.is) }

some_found : (o : Option Line) (line : Line) → o ≡ Some line → o ≡ None → ⊥
some_found o line h k = let e = sym h ∙ k in absurd cc

event_found : ParameterLaws → (a : Option AccessWord) (w : Token) (x : Identifier) (o : Option Parameters) → AccessIs before_event a → FormedParameters o
    → line_of (spell (event_line a w x o)) ≡ None → ⊥
event_found laws a w x o f g h =
    let p = parameters_found laws o [] g refl in
    some_found (line_of (spell (event_line a w x o))) (event_line a w x p.part)
    (event_front a w x (optional spell_parameters o) f
    ∙ (ap (λ us. whole_line (found_as (event_line a w x) (part_if is_left parameters_at us))) (sym (append-nil (optional spell_parameters o)))
    ∙ ap (λ m. whole_line (found_as (event_line a w x) m)) p.is)) h

procedure_found : ParameterLaws → (a : Option AccessWord) (s : Option Token) (kind : ProcedureWords) (x : Identifier) (o : Option Parameters) (r : Option ResultType)
    → FormedLine (procedure_header a s kind x o r) → line_of (spell (procedure_header a s kind x o r)) ≡ None → ⊥
procedure_found laws a s kind x o r f h =
    let p = parameters_found laws o (optional spell_result_type r) f.1 (result_left r) in
    let q = result_found laws r f.2 in
    some_found (line_of (spell (procedure_header a s kind x o r))) (procedure_header a s kind x p.part q.part)
    (procedure_front a s kind x (optional spell_parameters o ++ optional spell_result_type r)
    ∙ if_is _ None (allowed_is a f.0) (then_is _ p.is (ap (λ m. whole_line (found_as (procedure_header a s kind x p.part) m)) q.is))) h

line_found : StatementsLaws → ParameterLaws → (line : Line) → FormedLine line → line_of (spell line) ≡ None → ⊥
line_found laws parameters (event_line a w x o) f h = event_found parameters a w x o f.0 f.1 h
line_found laws parameters (procedure_header a s kind x o r) f h = procedure_found parameters a s kind x o r f h
line_found laws parameters (statement_line label ss) f h = statement_line_found laws label ss f h
line_found laws parameters (option_line option) f h = some_found _ _ (line_complete laws parameters (option_line option) f tt) h
line_found laws parameters (attribute_line w names equal values) f h = some_found _ _ (line_complete laws parameters (attribute_line w names equal values) f tt) h
line_found laws parameters (enum_header header) f h = some_found _ _ (line_complete laws parameters (enum_header header) f tt) h
line_found laws parameters (end_enum w t) f h = some_found _ _ (line_complete laws parameters (end_enum w t) f tt) h
line_found laws parameters (type_header header) f h = some_found _ _ (line_complete laws parameters (type_header header) f tt) h
line_found laws parameters (type_member x dims clause) f h = some_found _ _ (line_complete laws parameters (type_member x dims clause) f tt) h
line_found laws parameters (end_type w t) f h = some_found _ _ (line_complete laws parameters (end_type w t) f tt) h
line_found laws parameters (procedure_end ending) f h = some_found _ _ (line_complete laws parameters (procedure_end ending) f tt) h

read_as : StatementsLaws → ParameterLaws → (ts : List ReadToken) (line : Line) → IsReadAs ts line → line_of ts ≡ Some line
read_as laws parameters ts line p = ap line_of (sym p.same) ∙ line_complete laws parameters line p.fits.formed p.fits.chosen

-- the laws of lines, by those of the statements of a line and of parameters
pub line_laws : StatementsLaws → ParameterLaws → LineLaws
line_laws laws parameters = record {
  sound = line_sound laws parameters;
  complete = read_as laws parameters;
  found = line_found laws parameters;
}
