-- The laws of reading a statement that begins with a kept word, from the laws of its parts.
use Rattle.std.proofs.Common.{◌≡◌, ℕ, zero, suc, ◌<◌, ◌≤◌, length, Bool, true, false, List, [], ◌∷◌, ◌++◌, Option, Some, None, refl, sym, ap, ◌∙◌, subst, arith, append_assoc}
use Rattle.std.proofs.lemmas.List.{length-append}
use Rattle.vba_lexer.specs.declared.token.Token.{Token}
use Rattle.vba_words.specs.declared.keyword.Keyword.{Keyword}
use Rattle.vba_words.specs.declared.keyword.Keyword.TheVariants as keyword
use Rattle.vba_words.specs.declared.mark.Mark.TheVariants as mark
use Rattle.vba_words.specs.declared.reading.Reading.{Reading}
use Rattle.vba_words.specs.declared.reading.Reading.TheVariants as reading
use Rattle.vba_words.specs.declared.reading.ReadToken.{ReadToken}
use Rattle.vba_words.specs.Spelling.{word}
use Rattle.vba_tree.specs.declared.declaration.Access.{Access}
use Rattle.vba_tree.specs.declared.declaration.Access.TheVariants as access
use Rattle.vba_tree.specs.declared.declaration.AccessWord.{AccessWord}
use Rattle.vba_tree.specs.declared.declaration.VariableWord.{VariableWord}
use Rattle.vba_tree.specs.declared.declaration.VariableWord.TheVariants as variable_word
use Rattle.vba_tree.specs.Tree.{Listed, Constant, Simple, variables, constants, assignment, set_assignment, call_place, call, re_dim, erase, go_to, go_sub, return_from, exit, end, stop, on_error, resume, raise_event, debug_print, block_line}
use Rattle.vba_tree.specs.Spelling.{variable_keyword, with_commas, spell_others, access_keyword, spell_constant, spell_simple}
use Rattle.vba_tree.specs.Forms.{Each, EachOther, before_const, AccessIs, FormedConstant, Formed}
use Rattle.vba_tree.specs.Fitting.{ConstantFits}
use Rattle.vba_grammar.specs.Front.{Found, ◌>>=◌, found_as, is_comma, begins, with_next, others_at, commas_at}
use Rattle.vba_grammar.specs.Clauses.{constant_at, variable_at, item_ends}
use Rattle.vba_grammar.specs.Statements.{is_const, constants_at, kept_at, simple_at}
use Rattle.vba_grammar.specs.Laws.{Ends, is_if_line, FitsSimple, IsFoundBefore}
use Rattle.vba_grammar.proofs.Binding.{Told, Spelled, nothing_told, weaker_told, then_told, as_told, ending_told, then_is, as_is, ending_is}
use Rattle.vba_grammar.proofs.Fronts.{token_told, commas_told, commas_is, others_end, ends_not, others_both, both_others}
use Rattle.vba_grammar.proofs.BlocksLaws as blocks
use Rattle.vba_grammar.proofs.BlocksLaws.{KeptTold, IsFound}
use Rattle.vba_grammar.proofs.StatementsLaws as statements
use Rattle.vba_grammar.proofs.StatementsLaws.{declares, declared_told}
use Rattle.vba_grammar.proofs.HandlingLaws.{on_error_told, resume_told}
use Rattle.vba_grammar.proofs.HandlingLaws.{on_error_is, on_error_found, resume_is, resume_found}
use Rattle.vba_grammar.proofs.ArraysLaws.{re_dim_told, re_dim_is, item_of_ends}
use Rattle.vba_grammar.proofs.ConstantsLaws.{constant_told, constant_is, constant_found}

means_const : (r : Reading) → is_const r ≡ true → r ≡ reading.Keyword keyword.Const
means_const (reading.Keyword keyword.Const) h = refl
means_const _ h = absurd cc

list_told : (ts : List ReadToken) → Spelled (with_commas spell_constant) (λ l. Each FormedConstant l × Each ConstantFits l) ts (commas_at constant_at ts)
list_told ts = weaker_told (commas_told spell_constant constant_at constant_told ts) (λ l rest p.
    let both = others_both FormedConstant ConstantFits l.others p.1.1 in (p.0, ((p.1.0.0, both.0), (p.1.0.1, both.1))))

constants_told : (a : AccessWord) (ts : List ReadToken) → before_const a.access ≡ true
    → KeptTold (word a.token (access_keyword a.access) ∷ ts) (constants_at (Some a) ts)
constants_told a ts h =
    then_told (token_told ts means_const) (λ const_word rest p. as_told (constants (Some a) const_word) (list_told rest) (λ l behind q. (
      ap (λ us. word a.token (access_keyword a.access) ∷ us) (p ∙ ap (λ us. word const_word keyword.Const ∷ us) q.0),
      record { formed = (h, q.1.0); chosen = q.1.1; no_if = refl },
    )))

const_told : (token : Token) (ts : List ReadToken) → KeptTold (word token keyword.Const ∷ ts) (kept_at token keyword.Const ts)
const_told token ts = as_told (constants None token) (list_told ts) (λ l behind q. (
  ap (λ us. word token keyword.Const ∷ us) q.0,
  record { formed = (tt, q.1.0); chosen = q.1.1; no_if = refl },
))

with_access : (us : List ReadToken) (a : AccessWord) (of_constants : AccessWord → Found Simple) (of_variables : Found Simple) (b : Bool)
    → KeptTold us (of_constants a) → KeptTold us of_variables → KeptTold us (declares of_constants of_variables b (Some a))
with_access us a of_constants of_variables true c v = c
with_access us a of_constants of_variables false c v = v

access_told : (x : Access) (w : VariableWord) (token : Token) (ts : List ReadToken) → before_const x ≡ true → variable_keyword w ≡ access_keyword x
    → KeptTold (word token (access_keyword x) ∷ ts)
    (declares (λ access. constants_at (Some access) ts) (found_as (variables w token) (commas_at variable_at ts)) (begins is_const ts) (Some (record { access = x; token = token })))
access_told x w token ts h e = with_access _ _ _ _ (begins is_const ts) (constants_told (record { access = x; token = token }) ts h) (declared_told (access_keyword x) w token ts e)

-- what is found of a statement that begins with a kept word is spelled there and fits
pub kept_told : (token : Token) (kept : Keyword) (ts : List ReadToken) → KeptTold (word token kept ∷ ts) (kept_at token kept ts)
kept_told token keyword.Const ts = const_told token ts
kept_told token keyword.Let ts = statements.let_told token ts
kept_told token keyword.Set ts = statements.set_told token ts
kept_told token keyword.Call ts = statements.call_told token ts
kept_told token keyword.ReDim ts = re_dim_told token ts
kept_told token keyword.Erase ts = statements.erase_told token ts
kept_told token keyword.GoTo ts = statements.go_to_told token ts
kept_told token keyword.GoSub ts = statements.go_sub_told token ts
kept_told token keyword.Return ts = statements.return_told token ts
kept_told token keyword.Exit ts = statements.exit_told token ts
kept_told token keyword.End ts = blocks.end_told token ts
kept_told token keyword.Stop ts = statements.stop_told token ts
kept_told token keyword.On ts = on_error_told token ts
kept_told token keyword.Resume ts = resume_told token ts
kept_told token keyword.RaiseEvent ts = statements.raise_event_told token ts
kept_told token keyword.ElseIf ts = blocks.else_if_told token ts
kept_told token keyword.Else ts = blocks.else_told token ts
kept_told token keyword.Select ts = blocks.select_told token ts
kept_told token keyword.Case ts = blocks.case_told token ts
kept_told token keyword.For ts = blocks.for_told token ts
kept_told token keyword.Next ts = blocks.next_told token ts
kept_told token keyword.Do ts = blocks.do_told token ts
kept_told token keyword.Loop ts = blocks.loop_told token ts
kept_told token keyword.While ts = blocks.while_told token ts
kept_told token keyword.Wend ts = blocks.wend_told token ts
kept_told token keyword.With ts = blocks.with_told token ts
kept_told token keyword.Dim ts = statements.dim_told token ts
kept_told token keyword.Static ts = statements.static_told token ts
kept_told token keyword.Public ts = access_told access.Public variable_word.Public token ts refl refl
kept_told token keyword.Private ts = access_told access.Private variable_word.Private token ts refl refl
kept_told token keyword.Global ts = access_told access.Global variable_word.Global token ts refl refl
kept_told token _ ts = nothing_told

list_is : (l : Listed Constant) (rest : List ReadToken) → Each FormedConstant l → Each ConstantFits l → Ends rest
    → commas_at constant_at (with_commas spell_constant l ++ rest) ≡ Some (l, rest)
list_is l rest f c h = commas_is spell_constant constant_at (λ token ts. refl) constant_is l rest
    ((f.0, c.0), both_others FormedConstant ConstantFits l.others f.1 c.1) (item_of_ends rest h, ends_not is_comma rest refl refl h)

-- constants are found
pub constants_are : (a : Option AccessWord) (const_word : Token) (l : Listed Constant) (rest : List ReadToken) → AccessIs before_const a → Each FormedConstant l
    → Each ConstantFits l → Ends rest → IsFound (constants a const_word l) rest
constants_are None const_word l rest may f c h = ending_is (as_is (constants None const_word) (list_is l rest f c h)) h
constants_are (Some a) const_word l rest may f c h = at a.access may
  where
    at : (x : Access) → before_const x ≡ true → IsFound (constants (Some (record { access = x; token = a.token })) const_word l) rest
    at access.Public m = ending_is (as_is (constants (Some (record { access = access.Public; token = a.token })) const_word) (list_is l rest f c h)) h
    at access.Private m = ending_is (as_is (constants (Some (record { access = access.Private; token = a.token })) const_word) (list_is l rest f c h)) h
    at access.Global m = ending_is (as_is (constants (Some (record { access = access.Global; token = a.token })) const_word) (list_is l rest f c h)) h
    at access.Friend m = absurd cc

-- statements that begin with a kept word, other than If
abbrev pub is_kept : Simple → Bool
is_kept (assignment None place equal e) = false
is_kept (call called arguments) = false
is_kept (debug_print debug_word dot print_word first others) = false
is_kept _ = true

-- the keyword Me begins a place
abbrev pub is_me : Keyword → Bool
is_me keyword.Me = true
is_me _ = false

-- sound: what is found is spelled there, fits, and ends the statement
pub simple_told : (token : Token) (kept : Keyword) (ts : List ReadToken) → is_me kept ≡ false
    → Told (λ s rest. ((word token kept ∷ ts ≡ spell_simple s ++ rest) × FitsSimple s) × Ends rest) (simple_at (word token kept ∷ ts))
simple_told token keyword.Me ts h = absurd cc
simple_told token keyword.End ts h = ending_told (kept_told token keyword.End ts)
simple_told token _ ts h = ending_told (kept_told token _ ts)

-- complete: a statement that fits is found
pub kept_is : (s : Simple) (rest : List ReadToken) → is_kept s ≡ true → FitsSimple s → Ends rest → IsFound s rest
kept_is (variables w token list) rest k f h = statements.variables_are w token list rest f.formed h
kept_is (constants a const_word list) rest k f h = constants_are a const_word list rest f.formed.0 f.formed.1 f.chosen h
kept_is (assignment None place equal e) rest k f h = absurd cc
kept_is (assignment (Some token) place equal e) rest k f h = statements.let_is token place equal e rest f.formed h
kept_is (set_assignment token place equal e) rest k f h = statements.set_is token place equal e rest f.formed h
kept_is (call_place token place) rest k f h = statements.call_is token place rest f.formed h
kept_is (call called arguments) rest k f h = absurd cc
kept_is (re_dim token preserve arrays) rest k f h = re_dim_is token preserve arrays rest f.formed h
kept_is (erase token places) rest k f h = statements.erase_is token places rest f.formed h
kept_is (go_to token l) rest k f h = statements.go_to_is token l rest f.formed h
kept_is (go_sub token l) rest k f h = statements.go_sub_is token l rest f.formed h
kept_is (return_from token) rest k f h = statements.return_is token rest h
kept_is (exit token kind kind_word) rest k f h = statements.exit_is token kind kind_word rest h
kept_is (end token) rest k f h = statements.end_is token rest h
kept_is (stop token) rest k f h = statements.stop_is token rest h
kept_is (on_error token error_word how) rest k f h = on_error_is token error_word how rest f.formed f.chosen h
kept_is (resume token to) rest k f h = resume_is token to rest f.formed f.chosen h
kept_is (raise_event token event a) rest k f h = statements.raise_event_is token event a rest f.formed h
kept_is (debug_print debug_word dot print_word first others) rest k f h = absurd cc
kept_is (block_line line) rest k f h = blocks.block_line_is line rest (f.formed, f.no_if) h

is_found : {rest : List ReadToken} {m : Found Simple} {s : Simple} → m ≡ Some (s, rest) → IsFoundBefore rest m
is_found {rest = rest} h = subst (IsFoundBefore rest) (sym h) refl

ends_item : (others : List (Token × Constant)) (rest : List ReadToken) → item_ends rest ≡ true → item_ends (spell_others spell_constant mark.Comma others ++ rest) ≡ true
ends_item [] rest h = h
ends_item (other ∷ others) rest h = refl

marks : (others : List (Token × Constant)) (rest : List ReadToken) → length others ≤ length (spell_others spell_constant mark.Comma others ++ rest)
marks [] rest = omega arith
marks (other ∷ others) rest =
    let more = marks others rest in
    let len = ap length (append_assoc (spell_constant other.1) (spell_others spell_constant mark.Comma others) rest) in
    let sum = length-append (spell_constant other.1) (spell_others spell_constant mark.Comma others ++ rest) in
    omega arith

-- constants of the form: some are found that end at the same place
others_found : (n : ℕ) (others : List (Token × Constant)) (rest : List ReadToken) → length others < n → EachOther FormedConstant others → item_ends rest ≡ true
    → begins is_comma rest ≡ false
    → (found : List (Token × Constant)) × (others_at n is_comma constant_at (spell_others spell_constant mark.Comma others ++ rest) ≡ Some (found, rest))
others_found zero others rest l f e h = absurd (omega arith)
others_found (suc n) [] rest l f e h = ([], others_end is_comma constant_at n rest h)
others_found (suc n) (other ∷ others) rest l f e h =
    let more = others_found n others rest (omega arith) f.1 e h in
    let c = constant_found other.1 (spell_others spell_constant mark.Comma others ++ rest) f.0 (ends_item others rest e) in (
      (other.0, c.constant) ∷ more.0,
      ap (λ us. constant_at us >>= λ a r. with_next (other.0, a) (others_at n is_comma constant_at r)) (append_assoc (spell_constant other.1) (spell_others spell_constant mark.Comma others) rest)
          ∙ then_is _ c.found (as_is _ more.1),
    )

list_found : (l : Listed Constant) (rest : List ReadToken) → Each FormedConstant l → item_ends rest ≡ true → begins is_comma rest ≡ false
    → (found : Listed Constant) × (commas_at constant_at (with_commas spell_constant l ++ rest) ≡ Some (found, rest))
list_found l rest f e h =
    let tail = spell_others spell_constant mark.Comma l.others ++ rest in
    let c = constant_found l.first tail f.0 (ends_item l.others rest e) in
    let more = others_found (suc (length tail)) l.others rest (omega (arith, marks l.others rest)) f.1 e h in (
      record { first = c.constant; others = more.0 },
      ap (commas_at constant_at) (append_assoc (spell_constant l.first) (spell_others spell_constant mark.Comma l.others) rest)
          ∙ then_is _ c.found (then_is _ more.1 refl),
    )

pub constants_found : (a : Option AccessWord) (const_word : Token) (l : Listed Constant) (rest : List ReadToken) → AccessIs before_const a → Each FormedConstant l → Ends rest
    → IsFoundBefore rest (simple_at (spell_simple (constants a const_word l) ++ rest))
constants_found None const_word l rest may f h =
    let c = list_found l rest f (item_of_ends rest h) (ends_not is_comma rest refl refl h) in
    is_found (ending_is (as_is (constants None const_word) c.1) h)
constants_found (Some a) const_word l rest may f h = at a.access may
  where
    at : (x : Access) → before_const x ≡ true
        → IsFoundBefore rest (simple_at (spell_simple (constants (Some (record { access = x; token = a.token })) const_word l) ++ rest))
    at access.Public m =
        let c = list_found l rest f (item_of_ends rest h) (ends_not is_comma rest refl refl h) in
        is_found (ending_is (as_is (constants (Some (record { access = access.Public; token = a.token })) const_word) c.1) h)
    at access.Private m =
        let c = list_found l rest f (item_of_ends rest h) (ends_not is_comma rest refl refl h) in
        is_found (ending_is (as_is (constants (Some (record { access = access.Private; token = a.token })) const_word) c.1) h)
    at access.Global m =
        let c = list_found l rest f (item_of_ends rest h) (ends_not is_comma rest refl refl h) in
        is_found (ending_is (as_is (constants (Some (record { access = access.Global; token = a.token })) const_word) c.1) h)
    at access.Friend m = absurd cc

-- found before the same rest: where a statement of the form stands, one is found that ends there
pub kept_found : (s : Simple) (rest : List ReadToken) → is_kept s ≡ true → Formed s → is_if_line s ≡ false → Ends rest
    → IsFoundBefore rest (simple_at (spell_simple s ++ rest))
kept_found (constants a const_word list) rest k f n h = constants_found a const_word list rest f.0 f.1 h
kept_found (on_error token error_word how) rest k f n h = on_error_found token error_word how rest f h
kept_found (resume token to) rest k f n h = resume_found token to rest f h
kept_found (assignment None place equal e) rest k f n h = absurd cc
kept_found (assignment (Some token) place equal e) rest k f n h = is_found (statements.let_is token place equal e rest f h)
kept_found (call called arguments) rest k f n h = absurd cc
kept_found (debug_print debug_word dot print_word first others) rest k f n h = absurd cc
kept_found (variables w token list) rest k f n h = is_found (statements.variables_are w token list rest f h)
kept_found (set_assignment token place equal e) rest k f n h = is_found (statements.set_is token place equal e rest f h)
kept_found (call_place token place) rest k f n h = is_found (statements.call_is token place rest f h)
kept_found (re_dim token preserve arrays) rest k f n h = is_found (re_dim_is token preserve arrays rest f h)
kept_found (erase token places) rest k f n h = is_found (statements.erase_is token places rest f h)
kept_found (go_to token l) rest k f n h = is_found (statements.go_to_is token l rest f h)
kept_found (go_sub token l) rest k f n h = is_found (statements.go_sub_is token l rest f h)
kept_found (return_from token) rest k f n h = is_found (statements.return_is token rest h)
kept_found (exit token kind kind_word) rest k f n h = is_found (statements.exit_is token kind kind_word rest h)
kept_found (end token) rest k f n h = is_found (statements.end_is token rest h)
kept_found (stop token) rest k f n h = is_found (statements.stop_is token rest h)
kept_found (raise_event token event a) rest k f n h = is_found (statements.raise_event_is token event a rest f h)
kept_found (block_line line) rest k f n h = is_found (blocks.block_line_is line rest (f, n) h)
