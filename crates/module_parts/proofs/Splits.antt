-- The parts of statements with more behind them.
use Rattle.std.proofs.Common.{◌≡◌, List, [], ◌∷◌, ◌++◌, Option, Some, None, refl, sym, ap, ◌∙◌, append_assoc}
use Rattle.std.proofs.lemmas.List.{append-nil, map-append}
use Rattle.std.specs.Prelude.{Result, Ok, Err, OnOk}
use Rattle.vba_tree.specs.declared.line.LineLabel.{LineLabel}
use Rattle.vba_tree.specs.declared.line.LineTree.{LineTree}
use Rattle.vba_tree.specs.declared.line.LineTree.TheVariants as line
use Rattle.vba_tree.specs.Tree.{Stmt, Stmts}
use Rattle.vba_tree.specs.View.{view, Next, written, missing, put, put_all, statement_in, statement_line_in}
use Rattle.vba_module.specs.Parts as parts
use Rattle.vba_module.specs.Parts.{label_part, statement, statements_in, as_parts}
use Rattle.module_parts.specs.declared.part.Part.{Part}
use Rattle.module_parts.specs.Nexts.{written_in}
use Rattle.module_parts.specs.View.{part_view, parts_view}

pub parts_push : (before : List Part) (part : Part) → parts_view (before ++ part ∷ []) ≡ parts_view before ++ part_view part ∷ []
parts_push before part = map-append part_view before (part ∷ [])

-- a statement behind a colon, and none
pub some_written : (next : Next) (s : Stmt) → Some s ≡ statement_in next → written_in (next ∷ []) ≡ s ∷ []
some_written (written colon t) s h = cc
some_written (missing colon) s h = absurd cc

pub none_written : (next : Next) → None ≡ statement_in next → written_in (next ∷ []) ≡ []
none_written (written colon t) h = absurd cc
none_written (missing colon) h = refl

-- a line that is no statements
pub whole_parts : (tree : LineTree) → statement_line_in tree ≡ None → parts.parts_of (view tree) ≡ parts.whole_line (view tree) ∷ []
whole_parts (line.Statements statements) h = absurd cc
whole_parts (line.Option x) h = refl
whole_parts (line.Attribute x) h = refl
whole_parts (line.EnumHeader x) h = refl
whole_parts (line.EnumEnd x y) h = refl
whole_parts (line.TypeHeader x) h = refl
whole_parts (line.TypeMember x) h = refl
whole_parts (line.TypeEnd x y) h = refl
whole_parts (line.Event x) h = refl
whole_parts (line.ProcedureHeader x) h = refl
whole_parts (line.ProcedureEnd x) h = refl

as_parts_append : (ss us : List Stmt) → as_parts (ss ++ us) ≡ as_parts ss ++ as_parts us
as_parts_append [] us = refl
as_parts_append (s ∷ ss) us = ap (λ parts. statement s ∷ parts) (as_parts_append ss us)

statements_put : (before : Stmts) (nexts : List Next) → statements_in (put_all before nexts) ≡ statements_in before ++ written_in nexts
statements_put before [] = sym (append-nil (statements_in before))
statements_put before (written colon s ∷ nexts) =
    statements_put (put before (written colon s)) nexts ∙ append_assoc (statements_in before) (s ∷ []) (written_in nexts)
statements_put before (missing colon ∷ nexts) = statements_put (put before (missing colon)) nexts

-- the parts of statements are those before, and those behind colons
parts_put : (before : Stmts) (nexts : List Next)
    → as_parts (statements_in (put_all before nexts)) ≡ as_parts (statements_in before) ++ as_parts (written_in nexts)
parts_put before nexts = ap as_parts (statements_put before nexts) ∙ as_parts_append (statements_in before) (written_in nexts)

-- a label, a first statement and those behind colons, one behind another
pub line_pushed : {T E : Type 0} (result : Result T E) (before with_label with_first after : List parts.Part) (label : Option LineLabel) (first : Stmts) (nexts : List Next)
    → with_label ≡ before ++ label_part label
    → with_first ≡ with_label ++ as_parts (statements_in first)
    → OnOk result (after ≡ with_first ++ as_parts (written_in nexts))
    → OnOk result (after ≡ before ++ (label_part label ++ as_parts (statements_in (put_all first nexts))))
line_pushed (Ok value) before with_label with_first after label first nexts labelled begun ended =
    let of_first = as_parts (statements_in first) in
    let of_others = as_parts (written_in nexts) in
    let put = parts_put first nexts in
    let one_by_one = append_assoc (before ++ label_part label) of_first of_others in
    let behind_label = append_assoc before (label_part label) (of_first ++ of_others) in
    rw put (cc)
line_pushed (Err error) before with_label with_first after label first nexts labelled begun ended = ended
