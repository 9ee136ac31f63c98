-- The laws of reading the statements that begin with a kept word.
use Rattle.std.proofs.Common.{◌≡◌, ◌≤◌, length, Bool, true, false, List, [], ◌∷◌, ◌++◌, Option, Some, None, refl, sym, ap, ◌∙◌, subst, arith, append_assoc}
use Rattle.std.specs.Prelude.{codes}
use Rattle.std.proofs.lemmas.Bool.{cond_both}
use Rattle.vba_lexer.specs.declared.token.Token.{Token}
use Rattle.vba_words.specs.declared.identifier.Identifier.{Identifier}
use Rattle.vba_words.specs.declared.keyword.Keyword.{Keyword}
use Rattle.vba_words.specs.declared.keyword.Keyword.TheVariants as keyword
use Rattle.vba_words.specs.declared.mark.Mark.TheVariants as mark
use Rattle.vba_words.specs.declared.reading.Reading.{Reading}
use Rattle.vba_words.specs.declared.reading.Reading.TheVariants as reading
use Rattle.vba_words.specs.declared.reading.ReadToken.{ReadToken}
use Rattle.vba_words.specs.Spelling.{read, word, marked, naming}
use Rattle.vba_expression.specs.Tree.{Expr}
use Rattle.vba_expression.specs.Spelling.{spell, spell_args}
use Rattle.vba_expression.specs.Reader.{arguments_at, unless_suffixed, with_rest}
use Rattle.vba_expression.specs.Taking.{Stops, Takes, TakesArgs}
use Rattle.vba_expression.proofs.Inverses.{args_again, args_takes, one}
use Rattle.vba_tree.specs.declared.declaration.AccessWord.{AccessWord}
use Rattle.vba_tree.specs.declared.declaration.VariableWord.{VariableWord}
use Rattle.vba_tree.specs.declared.declaration.VariableWord.TheVariants as variable_word
use Rattle.vba_tree.specs.declared.simple.LabelName.{LabelName}
use Rattle.vba_tree.specs.declared.simple.LabelName.TheVariants as label
use Rattle.vba_tree.specs.declared.simple.ExitKind.{ExitKind}
use Rattle.vba_tree.specs.declared.simple.ExitKind.TheVariants as exit_kind
use Rattle.vba_tree.specs.Tree.{Listed, Variable, EventArguments, Simple, variables, assignment, set_assignment, call_place, call, erase, go_to, go_sub, return_from, exit, end, stop, raise_event, debug_print}
use Rattle.vba_tree.specs.Spelling.{with_commas, spell_variable, spell_label_name, exit_token, spell_event_arguments, spell_simple, variable_keyword, optional_word, spell_others}
use Rattle.vba_tree.specs.Forms.{IsPlace, Each, FormedVariable, FormedArguments, FormedLabelName, Formed}
use Rattle.vba_tree.specs.Fitting.{first_part, is_print, Chosen}
use Rattle.vba_grammar.specs.Front.{Found, ◌>>=◌, found_as, is_left, is_right, is_comma, is_as, begins, token_at, reads, place_at, commas_at}
use Rattle.vba_grammar.specs.Clauses.{variable_at, access_of}
use Rattle.vba_grammar.specs.Places.{assigned_at}
use Rattle.vba_grammar.specs.Statements.{label_at, exit_at, event_arguments_at, let_at, set_at, end_at, is_const, constants_at, kept_at}
use Rattle.vba_grammar.specs.Laws.{IsComplete, Ends, is_if_line, FitsSimple}
use Rattle.vba_grammar.proofs.Binding.{Told, Spelled, nothing_told, some_told, weaker_told, then_told, as_told, ending_told, then_is, as_is, ending_is}
use Rattle.vba_grammar.proofs.Fronts.{means_equal, means_left, means_right, means_reads, token_told, name_told, whole_told, whole_is, place_level, place_told, place_is, part_told, part_is, commas_told, commas_is, opens, Opens, ends_stop, ends_not}
use Rattle.vba_grammar.proofs.ClausesLaws.{variables_told, variables_is}
use Rattle.vba_grammar.proofs.BlocksLaws.{KeptTold, IsFound}

-- a statement without choices
plain : (s : Simple) → Formed s → Chosen s → is_if_line s ≡ false → FitsSimple s
plain s f c n = record { formed = f; chosen = c; no_if = n }

-- a label where it is gone to
pub label_told : (ts : List ReadToken) → Told (λ l rest. (ts ≡ spell_label_name l ++ rest) × FormedLabelName l) (label_at ts)
label_told [] = nothing_told
label_told (t ∷ ts) = at t.token t.reading
  where
    at : (token : Token) (r : Reading)
        → Told (λ l rest. (read token r ∷ ts ≡ spell_label_name l ++ rest) × FormedLabelName l) (label_at (read token r ∷ ts))
    at token (reading.Number number true) = some_told (refl, tt)
    at token (reading.Number number false) = nothing_told
    at token (reading.Name x None is_bracketed) = some_told (refl, refl)
    at token (reading.Name x (Some suffix) is_bracketed) = nothing_told
    at token _ = nothing_told

pub label_is : (l : LabelName) (rest : List ReadToken) → FormedLabelName l → label_at (spell_label_name l ++ rest) ≡ Some (l, rest)
label_is (label.Name x) rest f = ap (λ suffix. with_rest rest (unless_suffixed suffix (label.Name x))) f
label_is (label.Number token number) rest f = refl

pub go_to_told : (token : Token) (ts : List ReadToken) → KeptTold (word token keyword.GoTo ∷ ts) (kept_at token keyword.GoTo ts)
go_to_told token ts = as_told (go_to token) (label_told ts) (λ l rest p. (ap (λ us. word token keyword.GoTo ∷ us) p.0, plain (go_to token l) p.1 tt refl))

pub go_sub_told : (token : Token) (ts : List ReadToken) → KeptTold (word token keyword.GoSub ∷ ts) (kept_at token keyword.GoSub ts)
go_sub_told token ts = as_told (go_sub token) (label_told ts) (λ l rest p. (ap (λ us. word token keyword.GoSub ∷ us) p.0, plain (go_sub token l) p.1 tt refl))

pub return_told : (token : Token) (ts : List ReadToken) → KeptTold (word token keyword.Return ∷ ts) (kept_at token keyword.Return ts)
return_told token ts = some_told (refl, plain (return_from token) tt tt refl)

pub stop_told : (token : Token) (ts : List ReadToken) → KeptTold (word token keyword.Stop ∷ ts) (kept_at token keyword.Stop ts)
stop_told token ts = some_told (refl, plain (stop token) tt tt refl)

pub go_to_is : (token : Token) (l : LabelName) (rest : List ReadToken) → FormedLabelName l → Ends rest → IsFound (go_to token l) rest
go_to_is token l rest f h = ending_is (as_is (go_to token) (label_is l rest f)) h

pub go_sub_is : (token : Token) (l : LabelName) (rest : List ReadToken) → FormedLabelName l → Ends rest → IsFound (go_sub token l) rest
go_sub_is token l rest f h = ending_is (as_is (go_sub token) (label_is l rest f)) h

pub return_is : (token : Token) (rest : List ReadToken) → Ends rest → IsFound (return_from token) rest
return_is token rest h = ending_is refl h

pub stop_is : (token : Token) (rest : List ReadToken) → Ends rest → IsFound (stop token) rest
stop_is token rest h = ending_is refl h

pub end_is : (token : Token) (rest : List ReadToken) → Ends rest → IsFound (end token) rest
end_is token rest h = ending_is (nothing rest h) h
  where
    nothing : (rest : List ReadToken) → Ends rest → end_at token rest ≡ Some (end token, rest)
    nothing [] h = refl
    nothing (t ∷ ts) h = at t.token t.reading h
      where
        at : (next : Token) (r : Reading) → Ends (read next r ∷ ts) → end_at token (read next r ∷ ts) ≡ Some (end token, read next r ∷ ts)
        at next (reading.Mark mark.Colon) h = refl
        at next (reading.Keyword keyword.Else) h = refl
        at next _ h = absurd cc

-- Exit, and what is left
abbrev left_at : Token → Token → List ReadToken → Option ExitKind → Found Simple
left_at exit_word token ts None = None
left_at exit_word token ts (Some kind) = Some (exit exit_word kind token, ts)

pub exit_told : (token : Token) (ts : List ReadToken) → KeptTold (word token keyword.Exit ∷ ts) (kept_at token keyword.Exit ts)
exit_told token [] = nothing_told
exit_told token (t ∷ ts) = at t.token t.reading
  where
    good : (kind : ExitKind) (next : Token) → FitsSimple (exit token kind next)
    good kind next = plain (exit token kind next) tt tt refl

    at : (next : Token) (r : Reading) → KeptTold (word token keyword.Exit ∷ read next r ∷ ts) (kept_at token keyword.Exit (read next r ∷ ts))
    at next (reading.Keyword keyword.Sub) = some_told (refl, good exit_kind.Sub next)
    at next (reading.Keyword keyword.Function) = some_told (refl, good exit_kind.Function next)
    at next (reading.Keyword keyword.For) = some_told (refl, good exit_kind.For next)
    at next (reading.Keyword keyword.Do) = some_told (refl, good exit_kind.Do next)
    at next (reading.Name x suffix is_bracketed) =
        cond_both (reads (codes "property") (reading.Name x suffix is_bracketed)) (Some exit_kind.Property) None
        (λ o. KeptTold (word token keyword.Exit ∷ read next (reading.Name x suffix is_bracketed) ∷ ts) (left_at token next ts o))
        (λ e. some_told (ap (λ r. word token keyword.Exit ∷ read next r ∷ ts) (means_reads (codes "property") (reading.Name x suffix is_bracketed) e), good exit_kind.Property next))
        (λ e. nothing_told)
    at next _ = nothing_told

pub exit_is : (token : Token) (kind : ExitKind) (kind_word : Token) (rest : List ReadToken) → Ends rest → IsFound (exit token kind kind_word) rest
exit_is token kind kind_word rest h = ending_is (at kind) h
  where
    at : (kind : ExitKind) → exit_at token (exit_token kind_word kind ∷ rest) ≡ Some (exit token kind kind_word, rest)
    at exit_kind.Sub = refl
    at exit_kind.Function = refl
    at exit_kind.Property = refl
    at exit_kind.For = refl
    at exit_kind.Do = refl

-- RaiseEvent
pub event_arguments_told : (ts : List ReadToken) → Spelled spell_event_arguments (λ a. FormedArguments a.arguments) ts (event_arguments_at ts)
event_arguments_told ts =
    then_told (token_told ts means_left) (λ left rest p. then_told (arguments_told rest) (λ xs rest2 q. as_told _ (token_told rest2 means_right) (λ right behind r. (
      p ∙ ap (λ us. marked left mark.LeftParenthesis ∷ us) (q.same ∙ ap (λ us. spell_args xs ++ us) r ∙ sym (append_assoc (spell_args xs) (marked right mark.RightParenthesis ∷ []) behind)),
      (q.fits, q.written),
    ))))
  where
    arguments_told : (ts : List ReadToken) → Told (λ xs rest. TakesArgs ts xs rest) (arguments_at ts)
    arguments_told ts = record { at = λ xs rest h. args_takes ts rest xs h }

pub event_arguments_is : IsComplete spell_event_arguments (λ a. FormedArguments a.arguments) (λ rest. Unit {0}) event_arguments_at
event_arguments_is a rest good h =
    ap (λ us. arguments_at us >>= λ arguments rest2. found_as (λ right. record { left = a.left; arguments = arguments; right = right }) (token_at is_right rest2))
    (append_assoc (spell_args a.arguments) (marked a.right mark.RightParenthesis ∷ []) rest)
    ∙ then_is _ (args_again (spell_args a.arguments ++ marked a.right mark.RightParenthesis ∷ rest) (marked a.right mark.RightParenthesis ∷ rest) a.arguments
    (record { same = refl; fits = good.0; written = good.1 }) tt) refl

pub raise_event_told : (token : Token) (ts : List ReadToken) → KeptTold (word token keyword.RaiseEvent ∷ ts) (kept_at token keyword.RaiseEvent ts)
raise_event_told token ts =
    then_told (name_told ts) (λ event rest p. as_told (raise_event token event) (part_told is_left event_arguments_at rest (event_arguments_told rest)) (λ a behind q.
    (ap (λ us. word token keyword.RaiseEvent ∷ us) (p ∙ ap (λ us. naming event ∷ us) q.0), plain (raise_event token event a) q.1 tt refl)))

pub raise_event_is : (token : Token) (event : Identifier) (a : Option EventArguments) (rest : List ReadToken) → Formed (raise_event token event a) → Ends rest
    → IsFound (raise_event token event a) rest
raise_event_is token event a rest good h = ending_is
    (as_is (raise_event token event) (part_is is_left spell_event_arguments event_arguments_at event_arguments_is (λ b us. refl) a rest good (tt, ends_not is_left rest refl refl h))) h

-- Set, Call, Erase
pub set_told : (token : Token) (ts : List ReadToken) → KeptTold (word token keyword.Set ∷ ts) (kept_at token keyword.Set ts)
set_told token ts =
    then_told (place_told ts) (λ place rest p. then_told (token_told rest means_equal) (λ equal rest2 q. as_told (set_assignment token place equal) (whole_told rest2) (λ e behind r. (
      ap (λ us. word token keyword.Set ∷ us) (p.same ∙ ap (λ us. spell place ++ us) (q ∙ ap (λ us. marked equal mark.Equal ∷ us) r.same)
          ∙ sym (append_assoc (spell place) (marked equal mark.Equal ∷ spell e) behind)),
      plain (set_assignment token place equal e) (p.place, r.fits) tt refl,
    ))))

pub set_is : (token : Token) (place : Expr) (equal : Token) (e : Expr) (rest : List ReadToken) → Formed (set_assignment token place equal e) → Ends rest
    → IsFound (set_assignment token place equal e) rest
set_is token place equal e rest good h = ending_is
    (ap (set_at token) (append_assoc (spell place) (marked equal mark.Equal ∷ spell e) rest)
    ∙ then_is _ (place_is place (marked equal mark.Equal ∷ (spell e ++ rest)) good.0 (omega arith))
    (as_is (set_assignment token place equal) (whole_is e rest good.1 (ends_stop 15 rest h)))) h

pub call_told : (token : Token) (ts : List ReadToken) → KeptTold (word token keyword.Call ∷ ts) (kept_at token keyword.Call ts)
call_told token ts = as_told (call_place token) (place_told ts) (λ place rest p.
    (ap (λ us. word token keyword.Call ∷ us) p.same, plain (call_place token place) p.place tt refl))

pub call_is : (token : Token) (place : Expr) (rest : List ReadToken) → IsPlace place → Ends rest → IsFound (call_place token place) rest
call_is token place rest good h = ending_is (as_is (call_place token) (place_is place rest good (ends_stop 1 rest h))) h

pub erase_told : (token : Token) (ts : List ReadToken) → KeptTold (word token keyword.Erase ∷ ts) (kept_at token keyword.Erase ts)
erase_told token ts =
    as_told (erase token) (commas_told spell place_at (λ us. weaker_told (place_told us) (λ e rest p. (p.same, p.place))) ts) (λ places rest p.
    (ap (λ us. word token keyword.Erase ∷ us) p.0, plain (erase token places) p.1 tt refl))

pub erase_is : (token : Token) (places : Listed Expr) (rest : List ReadToken) → Each IsPlace places → Ends rest → IsFound (erase token places) rest
erase_is token places rest good h = ending_is
    (as_is (erase token) (commas_is spell {Behind = Stops 1} place_at (λ t us. tt) place_is places rest good (ends_stop 1 rest h, ends_not is_comma rest refl refl h))) h

-- the reading of the first token, and the tokens behind it
abbrev first_reading : List ReadToken → Reading
first_reading [] = reading.Other
first_reading (t ∷ ts) = t.reading

abbrev behind_first : List ReadToken → List ReadToken
behind_first [] = []
behind_first (t ∷ ts) = ts

-- Let: no other statement begins with that word, and its place is read in one way
let_longest : (token : Token) (place : Expr) (equal : Token) (e : Expr) → Formed (assignment (Some token) place equal e) → (y : Simple) → Formed y
    → spell_simple y ≡ word token keyword.Let ∷ (spell place ++ marked equal mark.Equal ∷ spell e) → length (first_part y) ≤ length (spell place)
let_longest token place equal e good (assignment (Some token2) place2 equal2 e2) w same =
    let us = spell place2 ++ marked equal2 mark.Equal ∷ spell e2 in
    let l = place_level place good.0.0 in
    let l2 = place_level place2 w.0.0 in
    let p : Takes 1 us place2 (marked equal2 mark.Equal ∷ spell e2) = record { same = refl; under = omega arith; fits = w.0.1; stops = omega arith } in
    let q : Takes 1 us place (marked equal mark.Equal ∷ spell e) = record { same = ap behind_first same; under = omega arith; fits = good.0.1; stops = omega arith } in
    let len = ap (λ x. length (spell x)) (one 1 us _ _ place2 place p q).0 in
    omega arith
let_longest token place equal e good (assignment None place2 equal2 e2) w same = absurd (subst Opens same (opens place2 _))
let_longest token place equal e good (call called arguments) w same = absurd (subst Opens same (opens called _))
let_longest token place equal e good _ w same = omega arith

let_no_print : (token : Token) (us : List ReadToken) (y : Simple) → is_print y ≡ true → spell_simple y ≡ word token keyword.Let ∷ us → ⊥
let_no_print token us (debug_print debug_word dot print_word first others) p same = let e = ap first_reading same in absurd cc
let_no_print token us _ p same = absurd cc

pub let_fits : (token : Token) (place : Expr) (equal : Token) (e : Expr) → Formed (assignment (Some token) place equal e) → FitsSimple (assignment (Some token) place equal e)
let_fits token place equal e good =
    plain (assignment (Some token) place equal e) good ((λ y w same. let_longest token place equal e good y w same), (λ y p w same. let_no_print token _ y p same)) refl

pub let_told : (token : Token) (ts : List ReadToken) → KeptTold (word token keyword.Let ∷ ts) (kept_at token keyword.Let ts)
let_told token ts =
    then_told (place_told ts) (λ place rest p. weaker_told (ending_told
    (then_told (token_told rest means_equal) (λ equal rest2 q.
    as_told {Q = λ s behind. (word token keyword.Let ∷ ts ≡ spell_simple s ++ behind) × FitsSimple s} (assignment (Some token) place equal) (whole_told rest2) (λ e behind r. (
      ap (λ us. word token keyword.Let ∷ us) (p.same ∙ ap (λ us. spell place ++ us) (q ∙ ap (λ us. marked equal mark.Equal ∷ us) r.same)
          ∙ sym (append_assoc (spell place) (marked equal mark.Equal ∷ spell e) behind)),
      let_fits token place equal e (p.place, r.fits),
    ))))) (λ s behind h. h.0))

pub let_is : (token : Token) (place : Expr) (equal : Token) (e : Expr) (rest : List ReadToken) → Formed (assignment (Some token) place equal e) → Ends rest
    → IsFound (assignment (Some token) place equal e) rest
let_is token place equal e rest good h = ending_is
    (ap (let_at token) (append_assoc (spell place) (marked equal mark.Equal ∷ spell e) rest)
    ∙ then_is (assigned_at (Some token)) (place_is place (marked equal mark.Equal ∷ (spell e ++ rest)) good.0 (omega arith))
    (ending_is (as_is (assignment (Some token) place equal) (whole_is e rest good.1 (ends_stop 15 rest h))) h)) h

-- what a word that may declare variables declares
abbrev pub declares : (AccessWord → Found Simple) → Found Simple → Bool → Option AccessWord → Found Simple
declares of_constants of_variables true (Some access) = of_constants access
declares of_constants of_variables is_constant access = of_variables

no_constants : {A : Type 0} (P : Found Simple → A → Type 0) (a : A) (of_constants : AccessWord → Found Simple) (of_variables : Found Simple) (b : Bool) → P of_variables a
    → P (declares of_constants of_variables b None) a
no_constants P a of_constants of_variables true p = p
no_constants P a of_constants of_variables false p = p

pub declared_told : (kept : Keyword) (w : VariableWord) (token : Token) (ts : List ReadToken) → variable_keyword w ≡ kept
    → KeptTold (word token kept ∷ ts) (found_as (variables w token) (commas_at variable_at ts))
declared_told kept w token ts same =
    as_told (variables w token) (variables_told ts) (λ list rest p. (
      ap (λ k. word token k ∷ ts) (sym same) ∙ ap (λ us. word token (variable_keyword w) ∷ us) p.0,
      plain (variables w token list) p.1 tt refl,
    ))

pub dim_told : (token : Token) (ts : List ReadToken) → KeptTold (word token keyword.Dim ∷ ts) (kept_at token keyword.Dim ts)
dim_told token ts = no_constants (λ found us. KeptTold us found) (word token keyword.Dim ∷ ts) (λ access. constants_at (Some access) ts) _ (begins is_const ts)
    (declared_told keyword.Dim variable_word.Dim token ts refl)

pub static_told : (token : Token) (ts : List ReadToken) → KeptTold (word token keyword.Static ∷ ts) (kept_at token keyword.Static ts)
static_told token ts = no_constants (λ found us. KeptTold us found) (word token keyword.Static ∷ ts) (λ access. constants_at (Some access) ts) _ (begins is_const ts)
    (declared_told keyword.Static variable_word.Static token ts refl)

-- a list of variables doesn't begin with Const
no_const : (list : Listed Variable) (rest : List ReadToken) → begins is_const (with_commas spell_variable list ++ rest) ≡ false
no_const list rest = at list.first.with_events_word _
  where
    at : (o : Option Token) (us : List ReadToken)
        → begins is_const (((optional_word keyword.WithEvents o ++ naming list.first.name ∷ us) ++ spell_others spell_variable mark.Comma list.others) ++ rest) ≡ false
    at None us = refl
    at (Some token) us = refl

no_constant : (of_constants : AccessWord → Found Simple) (of_variables : Found Simple) (b : Bool) (a : Option AccessWord) → b ≡ false
    → declares of_constants of_variables b a ≡ of_variables
no_constant of_constants of_variables true a h = absurd cc
no_constant of_constants of_variables false a h = refl

variables_by : (w : VariableWord) (a : Option AccessWord) (token : Token) (list : Listed Variable) (rest : List ReadToken) → Each FormedVariable list → Ends rest
    → declares (λ access. constants_at (Some access) (with_commas spell_variable list ++ rest)) (found_as (variables w token) (commas_at variable_at (with_commas spell_variable list ++ rest)))
    (begins is_const (with_commas spell_variable list ++ rest)) a ≡ Some (variables w token list, rest)
variables_by w a token list rest good h =
    no_constant _ _ _ a (no_const list rest)
    ∙ as_is (variables w token) (variables_is list rest good ((ends_stop 15 rest h, ends_not is_as rest refl refl h), ends_not is_comma rest refl refl h))

pub variables_are : (w : VariableWord) (token : Token) (list : Listed Variable) (rest : List ReadToken) → Each FormedVariable list → Ends rest
    → IsFound (variables w token list) rest
variables_are variable_word.Dim token list rest good h = ending_is (variables_by variable_word.Dim None token list rest good h) h
variables_are variable_word.Public token list rest good h =
    ending_is (variables_by variable_word.Public (access_of token (reading.Keyword keyword.Public)) token list rest good h) h
variables_are variable_word.Private token list rest good h =
    ending_is (variables_by variable_word.Private (access_of token (reading.Keyword keyword.Private)) token list rest good h) h
variables_are variable_word.Global token list rest good h =
    ending_is (variables_by variable_word.Global (access_of token (reading.Keyword keyword.Global)) token list rest good h) h
variables_are variable_word.Static token list rest good h = ending_is (variables_by variable_word.Static None token list rest good h) h
