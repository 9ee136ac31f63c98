-- Serves the code: reading the lines of blocks, behind their first word.
use Rattle.std.specs.Prelude.{Bool, true, false, List, [], ◌∷◌, codes, Option, Some, None, if◌then◌else◌}
use Rattle.vba_lexer.specs.declared.token.Token.{Token}
use Rattle.vba_words.specs.declared.keyword.Keyword.TheVariants as keyword
use Rattle.vba_words.specs.declared.reading.Reading.{Reading}
use Rattle.vba_words.specs.declared.reading.Reading.TheVariants as reading
use Rattle.vba_words.specs.declared.reading.ReadToken.{ReadToken}
use Rattle.vba_expression.specs.declared.operator.BinaryOperator.{BinaryOperator}
use Rattle.vba_expression.specs.declared.part.Part.{Part}
use Rattle.vba_expression.specs.declared.part.Part.TheVariants as part
use Rattle.vba_expression.specs.Parts.{part_of}
use Rattle.vba_expression.specs.Tree.{Expr}
use Rattle.vba_tree.specs.declared.block.LoopWord.{LoopWord}
use Rattle.vba_tree.specs.declared.block.LoopWord.TheVariants as loop_word
use Rattle.vba_tree.specs.Forms.{is_comparison}
use Rattle.vba_tree.specs.Tree.{CaseTest, value, comparison, StepClause, LoopCondition, BlockLine, else_if_line, end_if, case_line, case_else, end_select, for_line, for_each, end_with}
use Rattle.vba_grammar.specs.Front.{Found, ◌>>=◌, found_as, is_to, is_then, is_in, is_equal, is_else, begins, token_at, reads, name_at, whole_at, part_if, commas_at}

-- the comparison that a token is
abbrev pub comparison_of : Part → Option BinaryOperator
comparison_of (part.Operator operator) = if is_comparison operator then Some operator else None
comparison_of _ = None

-- an operator of comparison behind Is, and a value
abbrev pub compared_at : Token → List ReadToken → Found CaseTest
compared_at is_word [] = None
compared_at is_word (t ∷ ts) = at (comparison_of (part_of t))
  where
    at : Option BinaryOperator → Found CaseTest
    at None = None
    at (Some operator) = found_as (comparison is_word operator t.token) (whole_at ts)

-- a value, and To with the high end where it is written
abbrev pub range_at : List ReadToken → Found CaseTest
range_at ts = whole_at ts >>= λ e rest. if begins is_to rest then ranged e rest else Some (value e, rest)
  where
    ranged : Expr → List ReadToken → Found CaseTest
    ranged low ts = token_at is_to ts >>= λ to_word rest. found_as (CaseTest.range low to_word) (whole_at rest)

abbrev pub is_is : Reading → Bool
is_is (reading.Keyword keyword.Is) = true
is_is _ = false

-- a test of a Case line
abbrev pub test_at : List ReadToken → Found CaseTest
test_at ts = if begins is_is ts then (token_at is_is ts >>= compared_at) else range_at ts

-- Step and a value
abbrev pub step_at : List ReadToken → Found StepClause
step_at ts = token_at (reads (codes "step")) ts >>= λ step_word rest. found_as (λ e. record { step_word = step_word; value = e }) (whole_at rest)

abbrev pub is_each : Reading → Bool
is_each (reading.Keyword keyword.Each) = true
is_each _ = false

-- behind For: a counter
abbrev pub for_at : Token → List ReadToken → Found BlockLine
for_at for_word ts =
    name_at ts >>= λ counter rest. token_at is_equal rest >>= λ equal rest2. whole_at rest2 >>= λ start rest3.
    token_at is_to rest3 >>= λ to_word rest4. whole_at rest4 >>= λ limit rest5.
    found_as (for_line for_word counter equal start to_word limit) (part_if (reads (codes "step")) step_at rest5)

-- behind For: Each and an element
abbrev pub for_each_at : Token → List ReadToken → Found BlockLine
for_each_at for_word ts =
    token_at is_each ts >>= λ each_word rest. name_at rest >>= λ element rest2. token_at is_in rest2 >>= λ in_word rest3.
    found_as (for_each for_word each_word element in_word) (whole_at rest3)

-- While or Until
abbrev pub loop_word_of : Reading → Option LoopWord
loop_word_of (reading.Keyword keyword.While) = Some loop_word.While
loop_word_of (reading.Keyword keyword.Until) = Some loop_word.Until
loop_word_of _ = None

-- a condition of a Do or Loop line, where it is written
abbrev pub loop_condition_if : List ReadToken → Found (Option LoopCondition)
loop_condition_if [] = Some (None, [])
loop_condition_if (t ∷ ts) = at (loop_word_of t.reading)
  where
    at : Option LoopWord → Found (Option LoopCondition)
    at None = Some (None, t ∷ ts)
    at (Some word) = found_as (λ e. Some (record { word = word; word_token = t.token; condition = e })) (whole_at ts)

-- the counter behind Next, where it is written
abbrev pub is_name : Reading → Bool
is_name (reading.Name name suffix is_bracketed) = true
is_name _ = false

abbrev pub is_case : Reading → Bool
is_case (reading.Keyword keyword.Case) = true
is_case _ = false

-- behind Case
abbrev pub case_at : Token → List ReadToken → Found BlockLine
case_at case_word ts =
    if begins is_else ts then found_as (case_else case_word) (token_at is_else ts) else found_as (case_line case_word) (commas_at test_at ts)

-- behind ElseIf
abbrev pub else_if_at : Token → List ReadToken → Found BlockLine
else_if_at else_if_word ts = whole_at ts >>= λ e rest. found_as (else_if_line else_if_word e) (token_at is_then rest)

-- the end of a block behind End, by the word that stands there
abbrev pub block_end : Token → Token → Reading → Option BlockLine
block_end end_word token (reading.Keyword keyword.If) = Some (end_if end_word token)
block_end end_word token (reading.Keyword keyword.Select) = Some (end_select end_word token)
block_end end_word token (reading.Keyword keyword.With) = Some (end_with end_word token)
block_end end_word token _ = None
