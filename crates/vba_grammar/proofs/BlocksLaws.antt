-- The laws of reading the lines of blocks, other than the one that begins with If.
use Rattle.std.proofs.Common.{◌≡◌, true, false, List, [], ◌∷◌, ◌++◌, Option, Some, None, refl, sym, ap, ◌∙◌, append_assoc}
use Rattle.std.specs.Prelude.{IfSome, codes}
use Rattle.vba_lexer.specs.declared.token.Token.{Token}
use Rattle.vba_words.specs.declared.identifier.Identifier.{Identifier}
use Rattle.vba_words.specs.declared.keyword.Keyword.TheVariants as keyword
use Rattle.vba_words.specs.declared.mark.Mark.TheVariants as mark
use Rattle.vba_words.specs.declared.reading.Reading.{Reading}
use Rattle.vba_words.specs.declared.reading.Reading.TheVariants as reading
use Rattle.vba_words.specs.declared.reading.ReadToken.{ReadToken}
use Rattle.vba_words.specs.Spelling.{read, word, marked, naming}
use Rattle.vba_expression.specs.declared.operator.BinaryOperator.{BinaryOperator}
use Rattle.vba_expression.specs.declared.operator.BinaryOperator.TheVariants as op
use Rattle.vba_expression.specs.Spelling.{binary_reading, spell}
use Rattle.vba_expression.specs.Fitting.{Fits}
use Rattle.vba_expression.specs.Parts.{reading_part}
use Rattle.vba_expression.specs.Taking.{Stops}
use Rattle.vba_tree.specs.declared.block.LoopWord.{LoopWord}
use Rattle.vba_tree.specs.declared.block.LoopWord.TheVariants as loop_word
use Rattle.vba_tree.specs.Tree.{Listed, CaseTest, value, comparison, StepClause, BlockLine, if_line, else_if_line, else_line, end_if, select_case, case_line, case_else, end_select, for_line, for_each, next_line, do_line, loop_line, while_line, wend, with_line, end_with, Simple, block_line}
use Rattle.vba_tree.specs.Spelling.{optional, place_word, with_commas, spell_test, spell_step, spell_loop_condition, loop_keyword, spell_block_line, spell_simple}
use Rattle.vba_tree.specs.Forms.{is_comparison, FormedTest, FormedCondition, FormedBlockLine}
use Rattle.vba_grammar.specs.Front.{Found, ◌>>=◌, found_as, is_to, is_else, is_comma, begins, token_at, reads, name_at, whole_at, part_if}
use Rattle.vba_grammar.specs.Blocks.{compared_at, range_at, is_is, test_at, step_at, is_each, for_at, for_each_at, loop_condition_if, is_name, is_case, else_if_at}
use Rattle.vba_grammar.specs.Statements.{kept_at, simple_at, as_block}
use Rattle.vba_grammar.specs.Laws.{IsComplete, Ends, is_if_line, FitsSimple}
use Rattle.vba_grammar.proofs.Binding.{Told, Spelled, nothing_told, some_told, weaker_told, then_told, as_told, cond_told, then_is, as_is, if_not, ending_is}
use Rattle.vba_grammar.proofs.Fronts.{means_to, means_then, means_in, means_equal, means_else, means_reads, token_told, name_told, whole_told, whole_is, OpensAt, part_told, part_is, commas_told, commas_is, begins_not, opens_no_else, ends_stop, ends_not}
use Rattle.vba_grammar.proofs.ClausesLaws.{RangeEnds}

means_is : (r : Reading) → is_is r ≡ true → r ≡ reading.Keyword keyword.Is
means_is (reading.Keyword keyword.Is) h = refl
means_is _ h = absurd cc

means_each : (r : Reading) → is_each r ≡ true → r ≡ reading.Keyword keyword.Each
means_each (reading.Keyword keyword.Each) h = refl
means_each _ h = absurd cc

means_case : (r : Reading) → is_case r ≡ true → r ≡ reading.Keyword keyword.Case
means_case (reading.Keyword keyword.Case) h = refl
means_case _ h = absurd cc

opens_no_is : (token : Token) (r : Reading) → OpensAt (reading_part token r) → is_is r ≡ false
opens_no_is token (reading.Keyword keyword.Is) h = absurd h
opens_no_is token _ h = refl

-- a test of a Case line
compared_by : (is_word operator_token : Token) (operator : BinaryOperator) (ts : List ReadToken) → is_comparison operator ≡ true
    → Told (λ test rest. (word is_word keyword.Is ∷ read operator_token (binary_reading operator) ∷ ts ≡ spell_test test ++ rest) × FormedTest test)
    (found_as (comparison is_word operator operator_token) (whole_at ts))
compared_by is_word operator_token operator ts c =
    as_told _ (whole_told ts) (λ e rest p.
    (ap (λ us. word is_word keyword.Is ∷ read operator_token (binary_reading operator) ∷ us) p.same, (c, p.fits)))

compared_told : (is_word : Token) (ts : List ReadToken)
    → Told (λ test rest. (word is_word keyword.Is ∷ ts ≡ spell_test test ++ rest) × FormedTest test) (compared_at is_word ts)
compared_told is_word [] = nothing_told
compared_told is_word (t ∷ ts) = at t.token t.reading
  where
    at : (token : Token) (r : Reading)
        → Told (λ test rest. (word is_word keyword.Is ∷ read token r ∷ ts ≡ spell_test test ++ rest) × FormedTest test) (compared_at is_word (read token r ∷ ts))
    at token (reading.Mark mark.Equal) = compared_by is_word token op.Equal ts refl
    at token (reading.Mark mark.NotEqual) = compared_by is_word token op.NotEqual ts refl
    at token (reading.Mark mark.Less) = compared_by is_word token op.Less ts refl
    at token (reading.Mark mark.Greater) = compared_by is_word token op.Greater ts refl
    at token (reading.Mark mark.LessEqual) = compared_by is_word token op.LessEqual ts refl
    at token (reading.Mark mark.GreaterEqual) = compared_by is_word token op.GreaterEqual ts refl
    at token (reading.Keyword keyword.Mod) = nothing_told
    at token _ = nothing_told

range_told : (ts : List ReadToken) → Spelled spell_test FormedTest ts (range_at ts)
range_told ts =
    then_told (whole_told ts) (λ e rest p. cond_told (begins is_to rest) _ _
    (λ _. then_told (token_told rest means_to) (λ to_word behind q. as_told (CaseTest.range e to_word) (whole_told behind) (λ high rest2 r. (
      p.same ∙ ap (λ us. spell e ++ us) (q ∙ ap (λ us. word to_word keyword.To ∷ us) r.same)
          ∙ sym (append_assoc (spell e) (word to_word keyword.To ∷ spell high) rest2),
      (p.fits, r.fits),
    ))))
    (λ _. some_told (p.same, p.fits)))

pub test_told : (ts : List ReadToken) → Spelled spell_test FormedTest ts (test_at ts)
test_told ts =
    cond_told (begins is_is ts) _ _
    (λ _. then_told (token_told ts means_is) (λ is_word rest p. weaker_told (compared_told is_word rest) (λ test rest2 q. (p ∙ q.0, q.1))))
    (λ _. range_told ts)

compared_is : (is_word operator_token : Token) (operator : BinaryOperator) (ts : List ReadToken) → is_comparison operator ≡ true
    → compared_at is_word (read operator_token (binary_reading operator) ∷ ts) ≡ found_as (comparison is_word operator operator_token) (whole_at ts)
compared_is is_word operator_token op.Equal ts h = refl
compared_is is_word operator_token op.NotEqual ts h = refl
compared_is is_word operator_token op.Less ts h = refl
compared_is is_word operator_token op.Greater ts h = refl
compared_is is_word operator_token op.LessEqual ts h = refl
compared_is is_word operator_token op.GreaterEqual ts h = refl
compared_is is_word operator_token _ ts h = absurd cc

pub test_is : IsComplete spell_test FormedTest RangeEnds test_at
test_is (value e) rest good h =
    if_not _ _ (begins_not is_is opens_no_is e rest) (then_is _ (whole_is e rest good h.0) (if_not _ _ h.1 refl))
test_is (CaseTest.range low to_word high) rest good h =
    ap test_at (append_assoc (spell low) (word to_word keyword.To ∷ spell high) rest)
    ∙ if_not _ _ (begins_not is_is opens_no_is low (word to_word keyword.To ∷ (spell high ++ rest)))
    (then_is _ (whole_is low (word to_word keyword.To ∷ (spell high ++ rest)) good.0 tt) (as_is (CaseTest.range low to_word) (whole_is high rest good.1 h.0)))
test_is (comparison is_word operator operator_token e) rest good h =
    compared_is is_word operator_token operator (spell e ++ rest) good.0 ∙ as_is (comparison is_word operator operator_token) (whole_is e rest good.1 h.0)

test_no_else : (test : CaseTest) (rest : List ReadToken) → begins is_else (spell_test test ++ rest) ≡ false
test_no_else (value e) rest = begins_not is_else opens_no_else e rest
test_no_else (CaseTest.range low to_word high) rest =
    ap (begins is_else) (append_assoc (spell low) (word to_word keyword.To ∷ spell high) rest) ∙ begins_not is_else opens_no_else low _
test_no_else (comparison is_word operator operator_token e) rest = refl

-- Step and a value
pub step_told : (ts : List ReadToken) → Spelled spell_step (λ step. Fits step.value) ts (step_at ts)
step_told ts =
    then_told (token_told ts (means_reads (codes "step"))) (λ step_word rest p. as_told _ (whole_told rest) (λ e behind q.
    (p ∙ ap (λ us. place_word step_word (codes "step") ∷ us) q.same, q.fits)))

pub step_is : IsComplete spell_step (λ step. Fits step.value) (Stops 15) step_at
step_is step rest good h = as_is _ (whole_is step.value rest good h)

-- a condition of a Do or Loop line, where it is written
condition_by : (token : Token) (w : LoopWord) (ts : List ReadToken)
    → Told (λ c rest. (word token (loop_keyword w) ∷ ts ≡ optional spell_loop_condition c ++ rest) × FormedCondition c)
    (found_as (λ e. Some (record { word = w; word_token = token; condition = e })) (whole_at ts))
condition_by token w ts = as_told _ (whole_told ts) (λ e rest p. (ap (λ us. word token (loop_keyword w) ∷ us) p.same, p.fits))

pub loop_condition_told : (ts : List ReadToken) → Spelled (optional spell_loop_condition) FormedCondition ts (loop_condition_if ts)
loop_condition_told [] = some_told (refl, tt)
loop_condition_told (t ∷ ts) = at t.token t.reading
  where
    at : (token : Token) (r : Reading) → Spelled (optional spell_loop_condition) FormedCondition (read token r ∷ ts) (loop_condition_if (read token r ∷ ts))
    at token (reading.Keyword keyword.While) = condition_by token loop_word.While ts
    at token (reading.Keyword keyword.Until) = condition_by token loop_word.Until ts
    at token _ = some_told (refl, tt)

no_condition : (ts : List ReadToken) → Ends ts → loop_condition_if ts ≡ Some (None, ts)
no_condition [] h = refl
no_condition (t ∷ ts) h = at t.token t.reading h
  where
    at : (token : Token) (r : Reading) → Ends (read token r ∷ ts) → loop_condition_if (read token r ∷ ts) ≡ Some (None, read token r ∷ ts)
    at token (reading.Mark mark.Colon) h = refl
    at token (reading.Keyword keyword.Else) h = refl
    at token _ h = absurd cc

pub loop_condition_is : IsComplete (optional spell_loop_condition) FormedCondition Ends loop_condition_if
loop_condition_is None rest good h = no_condition rest h
loop_condition_is (Some c) rest good h = at c.word
  where
    at : (w : LoopWord) → loop_condition_if (word c.word_token (loop_keyword w) ∷ (spell c.condition ++ rest))
        ≡ Some (Some (record { word = w; word_token = c.word_token; condition = c.condition }), rest)
    at loop_word.While = as_is _ (whole_is c.condition rest good (ends_stop 15 rest h))
    at loop_word.Until = as_is _ (whole_is c.condition rest good (ends_stop 15 rest h))

-- what a statement that begins with a kept word is found to be
abbrev pub KeptTold : List ReadToken → Found Simple → Type 0
KeptTold ts found = Spelled spell_simple FitsSimple ts found

-- the same of the line of a block
abbrev pub GoodLine : BlockLine → Type 0
GoodLine line = FormedBlockLine line × (is_if_line (block_line line) ≡ false)

pub fits_line : (line : BlockLine) → GoodLine line → FitsSimple (block_line line)
fits_line line h = record { formed = h.0; chosen = tt; no_if = h.1 }

pub block_told : (ts : List ReadToken) (found : Found BlockLine) → Spelled spell_block_line GoodLine ts found → KeptTold ts (as_block found)
block_told ts found told = as_told block_line told (λ line rest p. (p.0, fits_line line p.1))

pub else_if_told : (token : Token) (ts : List ReadToken) → KeptTold (word token keyword.ElseIf ∷ ts) (kept_at token keyword.ElseIf ts)
else_if_told token ts = block_told _ _
    (then_told (whole_told ts) (λ e rest p. as_told _ (token_told rest means_then) (λ then_word behind q. (
      ap (λ us. word token keyword.ElseIf ∷ us) (p.same ∙ ap (λ us. spell e ++ us) q ∙ sym (append_assoc (spell e) (word then_word keyword.Then ∷ []) behind)),
      (p.fits, refl),
    ))))

pub else_told : (token : Token) (ts : List ReadToken) → KeptTold (word token keyword.Else ∷ ts) (kept_at token keyword.Else ts)
else_told token ts = some_told (refl, fits_line (else_line token) (tt, refl))

pub select_told : (token : Token) (ts : List ReadToken) → KeptTold (word token keyword.Select ∷ ts) (kept_at token keyword.Select ts)
select_told token ts =
    then_told (token_told ts means_case) (λ case_word rest p. as_told _ (whole_told rest) (λ e behind q.
    (ap (λ us. word token keyword.Select ∷ us) (p ∙ ap (λ us. word case_word keyword.Case ∷ us) q.same), fits_line (select_case token case_word e) (q.fits, refl))))

pub case_told : (token : Token) (ts : List ReadToken) → KeptTold (word token keyword.Case ∷ ts) (kept_at token keyword.Case ts)
case_told token ts = block_told _ _ (cond_told (begins is_else ts) _ _
    (λ _. as_told (case_else token) (token_told ts means_else) (λ else_word rest p. (ap (λ us. word token keyword.Case ∷ us) p, (tt, refl))))
    (λ _. as_told (case_line token) (commas_told spell_test test_at test_told ts) (λ tests rest p. (ap (λ us. word token keyword.Case ∷ us) p.0, (p.1, refl)))))

for_each_told : (token : Token) (ts : List ReadToken) → Spelled spell_block_line GoodLine (word token keyword.For ∷ ts) (for_each_at token ts)
for_each_told token ts =
    then_told (token_told ts means_each) (λ each_word rest p. then_told (name_told rest) (λ element rest2 q.
    then_told (token_told rest2 means_in) (λ in_word rest3 r. as_told _ (whole_told rest3) (λ e behind s. (
      ap (λ us. word token keyword.For ∷ us) (p ∙ ap (λ us. word each_word keyword.Each ∷ us) (q ∙ ap (λ us. naming element ∷ us)
          (r ∙ ap (λ us. word in_word keyword.In ∷ us) s.same))),
      (s.fits, refl),
    )))))

for_counter_told : (token : Token) (ts : List ReadToken) → Spelled spell_block_line GoodLine (word token keyword.For ∷ ts) (for_at token ts)
for_counter_told token ts =
    then_told (name_told ts) (λ counter rest p. then_told (token_told rest means_equal) (λ equal rest2 q.
    then_told (whole_told rest2) (λ start rest3 r. then_told (token_told rest3 means_to) (λ to_word rest4 s.
    then_told (whole_told rest4) (λ limit rest5 t. as_told _ (part_told (reads (codes "step")) step_at rest5 (step_told rest5)) (λ step behind u. (
      ap (λ us. word token keyword.For ∷ us) (p ∙ ap (λ us. naming counter ∷ us) (q ∙ ap (λ us. marked equal mark.Equal ∷ us)
          (r.same ∙ ap (λ us. spell start ++ us) (s ∙ ap (λ us. word to_word keyword.To ∷ us)
          (t.same ∙ ap (λ us. spell limit ++ us) u.0 ∙ sym (append_assoc (spell limit) (optional spell_step step) behind)))
          ∙ sym (append_assoc (spell start) (word to_word keyword.To ∷ (spell limit ++ optional spell_step step)) behind)))),
      ((r.fits, t.fits, u.1), refl),
    )))))))

pub for_told : (token : Token) (ts : List ReadToken) → KeptTold (word token keyword.For ∷ ts) (kept_at token keyword.For ts)
for_told token ts = block_told _ _ (cond_told (begins is_each ts) _ _ (λ _. for_each_told token ts) (λ _. for_counter_told token ts))

pub next_told : (token : Token) (ts : List ReadToken) → KeptTold (word token keyword.Next ∷ ts) (kept_at token keyword.Next ts)
next_told token ts =
    as_told _ (part_told is_name {spelled = λ x. naming x ∷ []} {Good = λ x. Unit {0}} name_at ts (weaker_told (name_told ts) (λ x rest p. (p, tt))))
    (λ counter rest p. (ap (λ us. word token keyword.Next ∷ us) p.0, fits_line (next_line token counter) (tt, refl)))

pub do_told : (token : Token) (ts : List ReadToken) → KeptTold (word token keyword.Do ∷ ts) (kept_at token keyword.Do ts)
do_told token ts = as_told _ (loop_condition_told ts) (λ c rest p. (ap (λ us. word token keyword.Do ∷ us) p.0, fits_line (do_line token c) (p.1, refl)))

pub loop_told : (token : Token) (ts : List ReadToken) → KeptTold (word token keyword.Loop ∷ ts) (kept_at token keyword.Loop ts)
loop_told token ts = as_told _ (loop_condition_told ts) (λ c rest p. (ap (λ us. word token keyword.Loop ∷ us) p.0, fits_line (loop_line token c) (p.1, refl)))

pub while_told : (token : Token) (ts : List ReadToken) → KeptTold (word token keyword.While ∷ ts) (kept_at token keyword.While ts)
while_told token ts = as_told _ (whole_told ts) (λ e rest p. (ap (λ us. word token keyword.While ∷ us) p.same, fits_line (while_line token e) (p.fits, refl)))

pub wend_told : (token : Token) (ts : List ReadToken) → KeptTold (word token keyword.Wend ∷ ts) (kept_at token keyword.Wend ts)
wend_told token ts = some_told (refl, fits_line (wend token) (tt, refl))

pub with_told : (token : Token) (ts : List ReadToken) → KeptTold (word token keyword.With ∷ ts) (kept_at token keyword.With ts)
with_told token ts = as_told _ (whole_told ts) (λ e rest p. (ap (λ us. word token keyword.With ∷ us) p.same, fits_line (with_line token e) (p.fits, refl)))

-- End, and what is behind it
pub end_told : (token : Token) (ts : List ReadToken) → KeptTold (word token keyword.End ∷ ts) (kept_at token keyword.End ts)
end_told token [] = some_told (refl, record { formed = tt; chosen = tt; no_if = refl })
end_told token (t ∷ ts) = at t.token t.reading
  where
    at : (next : Token) (r : Reading) → KeptTold (word token keyword.End ∷ read next r ∷ ts) (kept_at token keyword.End (read next r ∷ ts))
    at next (reading.Keyword keyword.If) = some_told (refl, fits_line (end_if token next) (tt, refl))
    at next (reading.Keyword keyword.Select) = some_told (refl, fits_line (end_select token next) (tt, refl))
    at next (reading.Keyword keyword.With) = some_told (refl, fits_line (end_with token next) (tt, refl))
    at next _ = some_told (refl, record { formed = tt; chosen = tt; no_if = refl })

-- what is found of a statement
abbrev pub IsFound : Simple → List ReadToken → Type 0
IsFound s rest = simple_at (spell_simple s ++ rest) ≡ Some (s, rest)

no_name : (rest : List ReadToken) → Ends rest → begins is_name rest ≡ false
no_name rest h = ends_not is_name rest refl refl h

listed_no_else : (l : Listed CaseTest) (rest : List ReadToken) → begins is_else (with_commas spell_test l ++ rest) ≡ false
listed_no_else l rest = ap (begins is_else) (append_assoc (spell_test l.first) _ rest) ∙ test_no_else l.first _

-- the line of a block is found
pub block_line_is : (line : BlockLine) (rest : List ReadToken) → GoodLine line → Ends rest → IsFound (block_line line) rest
block_line_is (if_line if_word condition then_word) rest good h = absurd cc
block_line_is (else_if_line else_if_word e then_word) rest good h = ending_is
    (ap (λ us. as_block (else_if_at else_if_word us)) (append_assoc (spell e) (word then_word keyword.Then ∷ []) rest)
    ∙ as_is block_line (then_is _ (whole_is e (word then_word keyword.Then ∷ rest) good.0 tt) refl)) h
block_line_is (else_line else_word) rest good h = ending_is refl h
block_line_is (end_if end_word if_word) rest good h = ending_is refl h
block_line_is (select_case select_word case_word e) rest good h = ending_is (as_is _ (whole_is e rest good.0 (ends_stop 15 rest h))) h
block_line_is (case_line case_word tests) rest good h = ending_is
    (as_is block_line (if_not _ _ (listed_no_else tests rest)
    (as_is (case_line case_word) (commas_is spell_test test_at (λ token ts. (tt, refl)) test_is tests rest good.0
    ((ends_stop 15 rest h, ends_not is_to rest refl refl h), ends_not is_comma rest refl refl h))))) h
block_line_is (case_else case_word else_word) rest good h = ending_is refl h
block_line_is (end_select end_word select_word) rest good h = ending_is refl h
block_line_is (for_line for_word counter equal start to_word limit step) rest good h = ending_is
    (ap (λ us. as_block (whole_at us >>= λ start rest3.
    token_at is_to rest3 >>= λ to_word rest4. whole_at rest4 >>= λ limit rest5.
    found_as (for_line for_word counter equal start to_word limit) (part_if (reads (codes "step")) step_at rest5)))
    (append_assoc (spell start) (word to_word keyword.To ∷ (spell limit ++ optional spell_step step)) rest
    ∙ ap (λ us. spell start ++ word to_word keyword.To ∷ us) (append_assoc (spell limit) (optional spell_step step) rest))
    ∙ as_is block_line (then_is _ (whole_is start (word to_word keyword.To ∷ (spell limit ++ (optional spell_step step ++ rest))) good.0.0 tt)
    (then_is _ (whole_is limit (optional spell_step step ++ rest) good.0.1 (before_step step rest h))
    (as_is _ (part_is (reads (codes "step")) spell_step step_at step_is (λ s us. refl) step rest good.0.2
    (ends_stop 15 rest h, ends_not (reads (codes "step")) rest refl refl h)))))) h
  where
    before_step : (step : Option StepClause) (rest : List ReadToken) → Ends rest → Stops 15 (optional spell_step step ++ rest)
    before_step None rest h = ends_stop 15 rest h
    before_step (Some step) rest h = tt
block_line_is (for_each for_word each_word element in_word e) rest good h = ending_is
    (as_is block_line (as_is _ (whole_is e rest good.0 (ends_stop 15 rest h)))) h
block_line_is (next_line next_word counter) rest good h = ending_is
    (as_is _ (part_is is_name (λ x. naming x ∷ []) {Good = λ x. Unit {0}} {Behind = λ r. Unit {0}} name_at (λ x r g e. refl) (λ x us. refl) counter rest (any counter) (tt, no_name rest h))) h
  where
    any : (x : Option Identifier) → IfSome x (λ x. Unit {0})
    any None = tt
    any (Some x) = tt
block_line_is (do_line do_word c) rest good h = ending_is (as_is _ (loop_condition_is c rest good.0 h)) h
block_line_is (loop_line loop_word c) rest good h = ending_is (as_is _ (loop_condition_is c rest good.0 h)) h
block_line_is (while_line while_word e) rest good h = ending_is (as_is _ (whole_is e rest good.0 (ends_stop 15 rest h))) h
block_line_is (wend wend_word) rest good h = ending_is refl h
block_line_is (with_line with_word e) rest good h = ending_is (as_is _ (whole_is e rest good.0 (ends_stop 15 rest h))) h
block_line_is (end_with end_word with_word) rest good h = ending_is refl h
