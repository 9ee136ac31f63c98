-- Worked rows: what trees spell is what lines of source are read as, and which trees fit.
use Rattle.std.specs.Prelude.{◌≡◌, ◌≤◌, ℕ, pos, List, [], ◌∷◌, map, refl, codes, true, false, Some, None}
use Rattle.caseless.proofs.Computing.{caseless}
use Rattle.vba_base.specs.Fold.{folded}
use Rattle.vba_lexer.specs.declared.token.Token.{Token}
use Rattle.vba_lexer.specs.declared.token.TokenKind.TheVariants.{Word}
use Rattle.vba_lexer.specs.declared.number.NumberKind.TheVariants.{Integer}
use Rattle.vba_lexer.specs.Lexed.{lexed}
use Rattle.vba_words.specs.declared.identifier.Identifier.{Identifier}
use Rattle.vba_words.specs.declared.reading.Reading.{Reading}
use Rattle.vba_words.specs.Readings.{read_line}
use Rattle.vba_expression.specs.declared.operator.BinaryOperator.TheVariants as op
use Rattle.vba_expression.specs.declared.tree.LiteralValue.TheVariants as value
use Rattle.vba_expression.specs.Tree.{Expr, literal, name, index, parenthesised, binary, no_args, plain}
use Rattle.vba_tree.specs.declared.declaration.Access.TheVariants as access
use Rattle.vba_tree.specs.declared.declaration.VariableWord.TheVariants as variable_word
use Rattle.vba_tree.specs.declared.procedure.Passing.TheVariants as passing
use Rattle.vba_tree.specs.declared.procedure.ProcedureWords.TheVariants as words
use Rattle.vba_tree.specs.declared.simple.ErrorHandling.TheVariants as handling
use Rattle.vba_tree.specs.declared.simple.PrintMark.TheVariants as print_mark
use Rattle.vba_tree.specs.declared.line.OptionChoice.TheVariants as choice
use Rattle.vba_tree.specs.declared.line.LineLabel.TheVariants as line_label
use Rattle.vba_tree.specs.Tree as tree
use Rattle.vba_tree.specs.Spelling.{spell}
use Rattle.vba_tree.specs.Fitting.{Chosen, ends_in_if, list_takes_else, begins_bare, begins_missing}

-- what the tokens of a source are, line by line
readings : List ℕ → List (List Reading)
readings source = map (λ line. map (λ token. token.reading) (read_line source line.tokens)) (lexed 1 source)

-- what the tokens of a tree are
spelled : tree.Line → List (List Reading)
spelled line = map (λ token. token.reading) (spell line) ∷ []

-- a token of one unit
abbrev t : Token
t = record { kind = Word; start = 0; end = 1; place = record { «module» = 1; line = 1; column = 1 } }

abbrev n : List ℕ → Identifier
n fold = record { token = t; name = fold; suffix = None; is_bracketed = false }

abbrev v : List ℕ → Expr
v fold = name (n fold)

abbrev number : ℕ → Expr
number k = literal (record { token = t; value = value.Number (record { kind = Integer; value = pos k }) true })

abbrev alone : {A : Type 0} → A → tree.Listed A
alone item = record { first = item; others = [] }

abbrev both : {A : Type 0} → A → A → tree.Listed A
both item next = record { first = item; others = (t, next) ∷ [] }

abbrev call : List ℕ → tree.Stmt
call fold = tree.simple (tree.call (v fold) no_args)

abbrev line : tree.Stmts → tree.Line
line statements = tree.statement_line None statements

option_row : spelled (tree.option_line (record { option_word = t; choice = choice.BaseOne t t })) ≡ readings (codes "OPTION base 1")
unfolding readings spelled folded caseless
option_row = refl

attribute_row :
    spelled (tree.attribute_line t (both (n (codes "x")) (n (codes "vb_usermemid"))) t
    (alone (record { minus = Some t; literal = record { token = t; value = value.Number (record { kind = Integer; value = pos 4 }) true } })))
    ≡ readings (codes "Attribute x.VB_UserMemId = -4")
unfolding readings spelled folded caseless
attribute_row = refl

variables_row :
    spelled (line (tree.one (tree.simple (tree.variables variable_word.Private t
    (both
    (record {
      with_events_word = Some t;
      name = n (codes "a");
      dims = None;
      type_clause = Some (record { as_word = t; new_word = Some t; declared_type = tree.named (record { qualifier = None; name = n (codes "c") }) });
    })
    (record {
      with_events_word = None;
      name = n (codes "b");
      dims = Some (record { left = t; dims = Some (both (tree.upper (number 3)) (tree.Dim.range (number 1) t (number 2))); right = t });
      type_clause = Some (record { as_word = t; new_word = None; declared_type = tree.fixed_text t t (number 5) });
    }))))))
    ≡ readings (codes "Private WithEvents a As New C, b(3, 1 To 2) As String * 5")
unfolding readings spelled folded caseless
variables_row = refl

property_row :
    spelled (tree.procedure_header (Some (record { access = access.Friend; token = t })) None (words.PropertyGet t t) (n (codes "p"))
    (Some (record {
      left = t;
      right = t;
      parameters = Some (alone (record {
        optional_word = Some t;
        passing = Some (record { passing = passing.ByVal; token = t });
        param_array_word = None;
        name = n (codes "a");
        brackets = None;
        type_clause = None;
        default = Some (record { equal = t; value = number 1 });
      }));
    }))
    (Some (record { as_word = t; declared_type = tree.named (record { qualifier = None; name = n (codes "string") }); brackets = Some (record { left = t; right = t }) })))
    ≡ readings (codes "Friend Property Get P(Optional ByVal a = 1) As String()")
unfolding readings spelled folded caseless
property_row = refl

for_row :
    spelled (tree.statement_line (Some (line_label.Number t (record { kind = Integer; value = pos 10 }) (Some t)))
    (tree.more (tree.one (tree.simple (tree.block_line (tree.for_line t (n (codes "i")) t (number 1) t (number 3) (Some (record { step_word = t; value = number 2 }))))))
    t (tree.simple (tree.block_line (tree.next_line t (Some (n (codes "i"))))))))
    ≡ readings (codes "10: For i = 1 To 3 Step 2: Next i")
unfolding readings spelled folded caseless
for_row = refl

case_row :
    spelled (line (tree.one (tree.simple (tree.block_line (tree.case_line t
    (both (tree.CaseTest.range (number 1) t (number 2)) (tree.comparison t op.LessEqual t (number 4))))))))
    ≡ readings (codes "Case 1 To 2, Is =< 4")
unfolding readings spelled folded caseless
case_row = refl

error_row : spelled (line (tree.one (tree.simple (tree.on_error t t (handling.GoToMinusOne t t t))))) ≡ readings (codes "On Error GoTo -1")
unfolding readings spelled folded caseless
error_row = refl

print_row :
    spelled (line (tree.one (tree.simple (tree.debug_print t t t (Some (v (codes "a")))
    (record { mark = print_mark.Semicolon; mark_token = t; value = None } ∷ record { mark = print_mark.Comma; mark_token = t; value = Some (v (codes "b")) } ∷ [])))))
    ≡ readings (codes "Debug.Print a;, b")
unfolding readings spelled folded caseless
print_row = refl

re_dim_row :
    spelled (line (tree.one (tree.simple (tree.re_dim t (Some t)
    (alone (record { place = index (v (codes "a")) t (plain no_args None (number 1)) t; left = t; dims = alone (tree.Dim.range (number 1) t (number 2)); right = t; type_clause = None }))))))
    ≡ readings (codes "ReDim Preserve a(1)(1 To 2)")
unfolding readings spelled folded caseless
re_dim_row = refl

-- `If a Then If b Then c Else d`: the Else belongs to the If of b
if_row :
    spelled (line (tree.one (tree.if_then t (v (codes "a")) t (tree.one (tree.if_else t (v (codes "b")) t (tree.one (call (codes "c"))) t (tree.one (call (codes "d"))))))))
    ≡ readings (codes "If a Then If b Then c Else d")
unfolding readings spelled folded caseless
if_row = refl

-- the tree with the Else at the If of a doesn't fit
far_else : list_takes_else (tree.one (tree.if_then t (v (codes "b")) t (tree.one (call (codes "c"))))) ≡ true
far_else = refl

-- `If a Then b: : c` with `: c` behind the If doesn't fit
behind_if : ends_in_if (tree.one (tree.if_then t (v (codes "a")) t (tree.one (call (codes "b"))))) ≡ true
behind_if = refl

-- `a: b` without a label, and `10: b` with a colon that isn't its own, don't fit
label_row : begins_bare (tree.more (tree.one (call (codes "a"))) t (call (codes "b"))) ≡ true
label_row = refl

number_row : begins_missing (tree.more tree.nothing t (call (codes "b"))) ≡ true
number_row = refl

-- `F (x) = 1` is no call of F: what is assigned to is longer
abbrev f_of_x : Expr
f_of_x = index (v (codes "f")) t (plain no_args None (v (codes "x"))) t

assigned : Chosen (tree.call (v (codes "f")) (plain no_args None (binary (parenthesised t (v (codes "x")) t) op.Equal t (number 1)))) → 4 ≤ 1
assigned longest = longest (tree.assignment None f_of_x t (number 1)) ((refl, (refl, tt, (tt, tt, tt), refl)), tt) refl
