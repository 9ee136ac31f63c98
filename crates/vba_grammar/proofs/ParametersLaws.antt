-- The laws of reading parameters.
use Rattle.std.proofs.Common.{◌≡◌, true, false, List, [], ◌∷◌, ◌++◌, Option, Some, None, refl, sym, ap, ◌∙◌, subst, append_assoc}
use Rattle.std.specs.Prelude.{IfSome}
use Rattle.std.proofs.lemmas.List.{append_cancel_right}
use Rattle.vba_lexer.specs.declared.token.Token.{Token}
use Rattle.vba_words.specs.declared.identifier.Identifier.{Identifier}
use Rattle.vba_words.specs.declared.keyword.Keyword.TheVariants as keyword
use Rattle.vba_words.specs.declared.mark.Mark.TheVariants as mark
use Rattle.vba_words.specs.declared.reading.Reading.{Reading}
use Rattle.vba_words.specs.declared.reading.Reading.TheVariants as reading
use Rattle.vba_words.specs.declared.reading.ReadToken.{ReadToken}
use Rattle.vba_words.specs.Spelling.{read, word, marked, naming}
use Rattle.vba_tree.specs.declared.declaration.Brackets.{Brackets}
use Rattle.vba_tree.specs.declared.procedure.Passing.{Passing}
use Rattle.vba_tree.specs.declared.procedure.Passing.TheVariants as passing
use Rattle.vba_tree.specs.declared.procedure.PassingWord.{PassingWord}
use Rattle.vba_tree.specs.Tree.{Listed, TypeClause, DefaultValue, Parameter, Parameters}
use Rattle.vba_tree.specs.Spelling.{optional, optional_word, with_commas, spell_others, spell_brackets, passing_keyword, spell_passing, spell_parameter, spell_parameters}
use Rattle.vba_tree.specs.Forms.{Each, FormedParameter, FormedParameters}
use Rattle.vba_tree.specs.Fitting.{ParameterFits, ParametersFit}
use Rattle.vba_grammar.specs.Front.{Found, ◌>>=◌, found_as, is_left, is_right, is_comma, begins, token_at, token_if, name_at, part_if, before_right, commas_at}
use Rattle.vba_grammar.specs.Clauses.{item_ends, Valued, with_or_without_value, valued_at, is_optional, is_param_array, passing_of, passing_if, brackets_at, parameter_at, parameters_at}
use Rattle.vba_grammar.specs.Laws.{IsSound, IsComplete, IsFoundBefore}
use Rattle.vba_grammar.proofs.Binding.{Told, Spelled, sound_of, some_told, then_told, as_told, then_is, as_is, if_not}
use Rattle.vba_grammar.proofs.Fronts.{means_left, means_right, token_told, name_told, token_if_told, token_if_is, part_told, part_is, before_told, before_is, commas_told, commas_is, others_both, both_others}
use Rattle.vba_grammar.proofs.ClausesLaws.{brackets_told, brackets_is}
use Rattle.vba_grammar.proofs.ValuedLaws.{spell_valued, LongestValued, Any, either_laws, valued_told, valued_found, valued_is, value_no}
use Rattle.vba_grammar.proofs.Founds.{gotten, commas_found}

-- ByVal or ByRef, where one is written
passing_word : (token : Token) (r : Reading) (p : PassingWord) → passing_of token r ≡ Some p → read token r ≡ word p.token (passing_keyword p.passing)
passing_word token (reading.Keyword keyword.ByVal) p h = let e : record { passing = passing.ByVal; token = token } ≡ p = cc in ap (λ (w : PassingWord). word w.token (passing_keyword w.passing)) e
passing_word token (reading.Keyword keyword.ByRef) p h = let e : record { passing = passing.ByRef; token = token } ≡ p = cc in ap (λ (w : PassingWord). word w.token (passing_keyword w.passing)) e
passing_word token _ p h = absurd cc

pub passing_if_told : (ts : List ReadToken) → ts ≡ spell_passing (passing_if ts).0 ++ (passing_if ts).1
passing_if_told [] = refl
passing_if_told (t ∷ ts) = at t.token t.reading
  where
    at : (token : Token) (r : Reading) → read token r ∷ ts ≡ spell_passing (passing_if (read token r ∷ ts)).0 ++ (passing_if (read token r ∷ ts)).1
    at token (reading.Keyword keyword.ByVal) = refl
    at token (reading.Keyword keyword.ByRef) = refl
    at token _ = refl

-- neither is at the front
abbrev NoPassing : List ReadToken → Type 0
NoPassing [] = Unit {0}
NoPassing (t ∷ ts) = passing_of t.token t.reading ≡ None

passing_if_is : (o : Option PassingWord) (rest : List ReadToken) → NoPassing rest → passing_if (spell_passing o ++ rest) ≡ (o, rest)
passing_if_is None [] h = refl
passing_if_is None (t ∷ ts) h = at t.token t.reading h
  where
    at : (token : Token) (r : Reading) → passing_of token r ≡ None → passing_if (read token r ∷ ts) ≡ (None, read token r ∷ ts)
    at token (reading.Keyword keyword.ByVal) h = absurd cc
    at token (reading.Keyword keyword.ByRef) h = absurd cc
    at token _ h = refl
passing_if_is (Some p) rest h = at p.passing
  where
    at : (x : Passing) → passing_if (word p.token (passing_keyword x) ∷ rest) ≡ (Some (record { passing = x; token = p.token }), rest)
    at passing.ByVal = refl
    at passing.ByRef = refl

-- what stands before the type clause of a parameter
record Front : Type 0 where
  optional_word : Option Token
  passing : Option PassingWord
  param_array_word : Option Token
  name : Identifier
  brackets : Option Brackets

abbrev spell_front : Front → List ReadToken
spell_front f =
    optional_word keyword.Optional f.optional_word
    ++ (spell_passing f.passing ++ (optional_word keyword.ParamArray f.param_array_word ++ naming f.name ∷ optional spell_brackets f.brackets))

abbrev front_of : Parameter → Front
front_of p = record { optional_word = p.optional_word; passing = p.passing; param_array_word = p.param_array_word; name = p.name; brackets = p.brackets }

abbrev valued_of : Parameter → Valued
valued_of p = (p.type_clause, p.default)

abbrev behind_front : Front → Valued → Parameter
behind_front f v = record {
  optional_word = f.optional_word;
  passing = f.passing;
  param_array_word = f.param_array_word;
  name = f.name;
  brackets = f.brackets;
  type_clause = v.0;
  default = v.1;
}

abbrev at_name : Option Token → Option PassingWord → Option Token → List ReadToken → Found Front
at_name o p a ts = name_at ts >>= λ x rest. part_if is_left brackets_at rest >>= λ b rest2.
    Some (record { optional_word = o; passing = p; param_array_word = a; name = x; brackets = b }, rest2)

abbrev at_array : Option Token → Option PassingWord → Option Token × List ReadToken → Found Front
at_array o p a = at_name o p a.0 a.1

abbrev at_passing : Option Token → Option PassingWord × List ReadToken → Found Front
at_passing o p = at_array o p.0 (token_if is_param_array p.1)

abbrev at_optional : Option Token × List ReadToken → Found Front
at_optional o = at_passing o.0 (passing_if o.1)

abbrev front_at : List ReadToken → Found Front
front_at ts = at_optional (token_if is_optional ts)

abbrev behind_at : Front → List ReadToken → Found Parameter
behind_at f rest = found_as (behind_front f) (valued_at with_or_without_value rest)

rebound : {A B C D : Type 0} (m : Found A) (n : List ReadToken → Found B) (make : A → B → C) (go : C → List ReadToken → Found D)
    → (m >>= λ a r. n r >>= λ b s. go (make a b) s) ≡ ((m >>= λ a r. n r >>= λ b s. Some (make a b, s)) >>= go)
rebound None n make go = refl
rebound {B = B} {D = D} (Some found) n make go = at (n found.1)
  where
    at : (o : Found B) → (o >>= λ b s. go (make found.0 b) s) ≡ ((o >>= λ b s. Some (make found.0 b, s)) >>= go)
    at None = refl
    at (Some other) = refl

parameter_by : (ts : List ReadToken) → parameter_at ts ≡ (front_at ts >>= behind_at)
parameter_by ts =
    let o = token_if is_optional ts in
    let p = passing_if o.1 in
    let a = token_if is_param_array p.1 in
    rebound (name_at a.1) (part_if is_left brackets_at) (λ x b. record { optional_word = o.0; passing = p.0; param_array_word = a.0; name = x; brackets = b }) behind_at

front_split : (a b c : List ReadToken) (n : ReadToken) (d e : List ReadToken) → (a ++ (b ++ (c ++ n ∷ d))) ++ e ≡ a ++ (b ++ (c ++ n ∷ (d ++ e)))
front_split a b c n d e = simp append_assoc

means_optional : (r : Reading) → is_optional r ≡ true → r ≡ reading.Keyword keyword.Optional
means_optional (reading.Keyword keyword.Optional) h = refl
means_optional _ h = absurd cc

means_param_array : (r : Reading) → is_param_array r ≡ true → r ≡ reading.Keyword keyword.ParamArray
means_param_array (reading.Keyword keyword.ParamArray) h = refl
means_param_array _ h = absurd cc

front_told : (ts : List ReadToken) → Told (λ f rest. ts ≡ spell_front f ++ rest) (front_at ts)
front_told ts =
    let o = token_if is_optional ts in
    let p = passing_if o.1 in
    let a = token_if is_param_array p.1 in
    let before : ts ≡ optional_word keyword.Optional o.0 ++ (spell_passing p.0 ++ (optional_word keyword.ParamArray a.0 ++ a.1)) =
    token_if_told {is_so = is_optional} {kept = keyword.Optional} ts means_optional
    ∙ ap (λ us. optional_word keyword.Optional o.0 ++ us) (passing_if_told o.1
    ∙ ap (λ us. spell_passing p.0 ++ us) (token_if_told {is_so = is_param_array} {kept = keyword.ParamArray} p.1 means_param_array)) in
    then_told (name_told a.1) (λ x rest q. then_told (part_told is_left brackets_at rest (brackets_told rest)) (λ b behind r. some_told (
    before
    ∙ ap (λ us. optional_word keyword.Optional o.0 ++ (spell_passing p.0 ++ (optional_word keyword.ParamArray a.0 ++ us))) (q ∙ ap (λ us. naming x ∷ us) r.0)
    ∙ sym (front_split (optional_word keyword.Optional o.0) (spell_passing p.0) (optional_word keyword.ParamArray a.0) (naming x) (optional spell_brackets b) behind))))

any_brackets : (b : Option Brackets) → IfSome b (λ b. Unit {0})
any_brackets None = tt
any_brackets (Some b) = tt

no_optional : (p : Option PassingWord) (a : Option Token) (x : Identifier) (us : List ReadToken)
    → begins is_optional (spell_passing p ++ (optional_word keyword.ParamArray a ++ naming x ∷ us)) ≡ false
no_optional None None x us = refl
no_optional None (Some token) x us = refl
no_optional (Some p) a x us = at p.passing
  where
    at : (y : Passing) → is_optional (reading.Keyword (passing_keyword y)) ≡ false
    at passing.ByVal = refl
    at passing.ByRef = refl

no_passing : (a : Option Token) (x : Identifier) (us : List ReadToken) → NoPassing (optional_word keyword.ParamArray a ++ naming x ∷ us)
no_passing None x us = refl
no_passing (Some token) x us = refl

front_is : (f : Front) (rest : List ReadToken) → begins is_left rest ≡ false → front_at (spell_front f ++ rest) ≡ Some (f, rest)
front_is f rest h =
    let behind : List ReadToken = optional spell_brackets f.brackets ++ rest in
    let last : List ReadToken = optional_word keyword.ParamArray f.param_array_word ++ naming f.name ∷ behind in
    ap front_at (front_split (optional_word keyword.Optional f.optional_word) (spell_passing f.passing) (optional_word keyword.ParamArray f.param_array_word) (naming f.name) (optional spell_brackets f.brackets) rest)
    ∙ ap at_optional (token_if_is is_optional keyword.Optional f.optional_word (spell_passing f.passing ++ last) refl (no_optional f.passing f.param_array_word f.name behind))
    ∙ ap (at_passing f.optional_word) (passing_if_is f.passing last (no_passing f.param_array_word f.name behind))
    ∙ ap (at_array f.optional_word f.passing) (token_if_is is_param_array keyword.ParamArray f.param_array_word (naming f.name ∷ behind) refl refl)
    ∙ then_is (λ b rest2. Some (record { optional_word = f.optional_word; passing = f.passing; param_array_word = f.param_array_word; name = f.name; brackets = b }, rest2))
    (part_is is_left spell_brackets brackets_at brackets_is (λ b us. refl) f.brackets rest (any_brackets f.brackets) (tt, h)) refl

valued_no_left : (c : Option TypeClause) (d : Option DefaultValue) (rest : List ReadToken) → item_ends rest ≡ true → begins is_left (spell_valued (c, d) ++ rest) ≡ false
valued_no_left None d rest h = value_no is_left refl refl refl refl refl d rest h
valued_no_left (Some clause) d rest h = refl

parameter_split : (p : Parameter) (rest : List ReadToken) → spell_parameter p ++ rest ≡ spell_front (front_of p) ++ (spell_valued (valued_of p) ++ rest)
parameter_split p rest =
    ap (λ us. us ++ rest) (sym (front_split (optional_word keyword.Optional p.optional_word) (spell_passing p.passing) (optional_word keyword.ParamArray p.param_array_word) (naming p.name)
    (optional spell_brackets p.brackets) (spell_valued (valued_of p))))
    ∙ append_assoc (spell_front (front_of p)) (spell_valued (valued_of p)) rest

parameter_front : (p : Parameter) (rest : List ReadToken) → item_ends rest ≡ true → front_at (spell_parameter p ++ rest) ≡ Some (front_of p, spell_valued (valued_of p) ++ rest)
parameter_front p rest h =
    ap front_at (parameter_split p rest) ∙ front_is (front_of p) (spell_valued (valued_of p) ++ rest) (valued_no_left p.type_clause p.default rest h)

fronts_is : (a b : Front × List ReadToken) → Some a ≡ Some b → a ≡ b
fronts_is a b h = cc

-- parameters with the same tokens have the same ones from the type clause on
valued_same : (y p : Parameter) → spell_parameter y ≡ spell_parameter p → spell_valued (valued_of y) ≡ spell_valued (valued_of p)
valued_same y p same =
    let e = fronts_is (front_of y, spell_valued (valued_of y) ++ []) (front_of p, spell_valued (valued_of p) ++ [])
    (sym (parameter_front y [] refl) ∙ ap (λ us. front_at (us ++ [])) same ∙ parameter_front p [] refl) in
    append_cancel_right (spell_valued (valued_of y)) (spell_valued (valued_of p)) [] (ap (λ q. q.1) e)

abbrev pub GoodParameter : Parameter → Type 0
GoodParameter p = FormedParameter p × ParameterFits p

parameter_longest : (p : Parameter) → LongestValued Any (valued_of p) → ParameterFits p
parameter_longest p longest y formed same = longest (valued_of y) tt formed (valued_same y p same)

longest_parameter : (p : Parameter) → ParameterFits p → LongestValued Any (valued_of p)
longest_parameter p fits w may formed same = fits (behind_front (front_of p) w) formed
    (ap (λ us. optional_word keyword.Optional p.optional_word ++ (spell_passing p.passing ++ (optional_word keyword.ParamArray p.param_array_word
    ++ naming p.name ∷ (optional spell_brackets p.brackets ++ us)))) same)

-- a parameter
pub parameter_told : (ts : List ReadToken) → Spelled spell_parameter GoodParameter ts (parameter_at ts)
parameter_told ts =
    subst (λ m. Spelled spell_parameter GoodParameter ts m) (sym (parameter_by ts))
    (then_told (front_told ts) (λ f rest p. as_told (behind_front f) (valued_told Any with_or_without_value either_laws rest) (λ v behind q. (
      p ∙ ap (λ us. spell_front f ++ us) q.0 ∙ sym (parameter_split (behind_front f v) behind),
      (q.1, parameter_longest (behind_front f v) q.2),
    ))))

pub parameter_is : IsComplete spell_parameter GoodParameter (λ rest. item_ends rest ≡ true) parameter_at
parameter_is p rest good h =
    parameter_by (spell_parameter p ++ rest)
    ∙ then_is behind_at (parameter_front p rest h)
    (as_is (behind_front (front_of p)) (valued_is Any with_or_without_value either_laws (valued_of p) rest tt good.0 (longest_parameter p good.1) h))

pub parameter_found : (p : Parameter) (rest : List ReadToken) → FormedParameter p → item_ends rest ≡ true → IsFoundBefore rest (parameter_at (spell_parameter p ++ rest))
parameter_found p rest formed h =
    let q = valued_found Any with_or_without_value either_laws (valued_of p) rest tt formed h in
    subst (IsFoundBefore rest)
    (sym (parameter_by (spell_parameter p ++ rest) ∙ then_is behind_at (parameter_front p rest h) (as_is (behind_front (front_of p)) q.is))) refl

-- a parameter doesn't begin with `)`
parameter_opens : (p : Parameter) (rest : List ReadToken) → begins is_right (spell_parameter p ++ rest) ≡ false
parameter_opens p rest = at p.optional_word p.passing p.param_array_word (optional spell_brackets p.brackets ++ spell_valued (valued_of p))
  where
    at : (o : Option Token) (w : Option PassingWord) (a : Option Token) (us : List ReadToken)
        → begins is_right ((optional_word keyword.Optional o ++ (spell_passing w ++ (optional_word keyword.ParamArray a ++ naming p.name ∷ us))) ++ rest) ≡ false
    at (Some token) w a us = refl
    at None (Some w) a us = refl
    at None None (Some token) us = refl
    at None None None us = refl

listed_opens : (l : Listed Parameter) (rest : List ReadToken) → begins is_right (with_commas spell_parameter l ++ rest) ≡ false
listed_opens l rest =
    ap (begins is_right) (append_assoc (spell_parameter l.first) (spell_others spell_parameter mark.Comma l.others) rest) ∙ parameter_opens l.first _

pub listed_parameters_is : IsComplete (with_commas spell_parameter) (Each GoodParameter) (λ rest. (item_ends rest ≡ true) × (begins is_comma rest ≡ false)) (commas_at parameter_at)
listed_parameters_is = commas_is spell_parameter parameter_at (λ token ts. refl) parameter_is

pub listed_parameters_found : (list : Listed Parameter) (rest : List ReadToken) → Each FormedParameter list → item_ends rest ≡ true → begins is_comma rest ≡ false
    → IsFoundBefore rest (commas_at parameter_at (with_commas spell_parameter list ++ rest))
listed_parameters_found list rest good h k = commas_found spell_parameter parameter_at (λ token ts. refl) parameter_found list rest good h k

-- parameters in brackets: each has the grammar's form, and its type is as long as it can be
abbrev pub GoodParameters : Parameters → Type 0
GoodParameters p = FormedParameters (Some p) × ParametersFit (Some p)

abbrev EachGood : Option (Listed Parameter) → Type 0
EachGood list = IfSome list (Each GoodParameter)

abbrev BothGood : Option (Listed Parameter) → Type 0
BothGood list = IfSome list (Each FormedParameter) × IfSome list (Each ParameterFits)

each_both : (list : Option (Listed Parameter)) → EachGood list → BothGood list
each_both None h = (tt, tt)
each_both (Some list) h = let more = others_both FormedParameter ParameterFits list.others h.1 in ((h.0.0, more.0), (h.0.1, more.1))

both_each : (list : Option (Listed Parameter)) → BothGood list → EachGood list
both_each None h = tt
both_each (Some list) h = ((h.0.0, h.1.0), both_others FormedParameter ParameterFits list.others h.0.1 h.1.1)

abbrev closed_at : Token → Option (Listed Parameter) → List ReadToken → Found Parameters
closed_at left parameters behind = found_as (λ right. record { left = left; parameters = parameters; right = right }) (token_at is_right behind)

pub parameters_told : (ts : List ReadToken) → Spelled spell_parameters GoodParameters ts (parameters_at ts)
parameters_told ts =
    then_told (token_told ts means_left) (λ left rest p. then_told (before_told (commas_at parameter_at) rest (commas_told spell_parameter parameter_at parameter_told rest)) (λ list behind q.
    as_told (λ right. record { left = left; parameters = list; right = right }) (token_told behind means_right) (λ right rest2 r. (
      p ∙ ap (λ us. marked left mark.LeftParenthesis ∷ us) (
          q.0 ∙ ap (λ us. optional (with_commas spell_parameter) list ++ us) r
          ∙ sym (append_assoc (optional (with_commas spell_parameter) list) (marked right mark.RightParenthesis ∷ []) rest2)),
      each_both list q.1,
    ))))

pub parameters_is : IsComplete spell_parameters GoodParameters (λ rest. Unit {0}) parameters_at
parameters_is p rest good h =
    let tail : List ReadToken = marked p.right mark.RightParenthesis ∷ rest in
    ap (λ us. before_right (commas_at parameter_at) us >>= closed_at p.left)
    (append_assoc (optional (with_commas spell_parameter) p.parameters) (marked p.right mark.RightParenthesis ∷ []) rest)
    ∙ then_is (closed_at p.left) (before_is (with_commas spell_parameter) (commas_at parameter_at) listed_parameters_is (λ l us w. listed_opens l us) p.parameters tail
    (both_each p.parameters good) ((refl, refl), refl)) refl

pub parameters_found : (p : Parameters) (rest : List ReadToken) → FormedParameters (Some p) → IsFoundBefore rest (parameters_at (spell_parameters p ++ rest))
parameters_found p rest formed =
    subst (λ us. IsFoundBefore rest (before_right (commas_at parameter_at) us >>= closed_at p.left))
    (sym (append_assoc (optional (with_commas spell_parameter) p.parameters) (marked p.right mark.RightParenthesis ∷ []) rest)) (at p.parameters formed)
  where
    at : (list : Option (Listed Parameter)) → IfSome list (Each FormedParameter)
        → IsFoundBefore rest (before_right (commas_at parameter_at) (optional (with_commas spell_parameter) list ++ marked p.right mark.RightParenthesis ∷ rest) >>= closed_at p.left)
    at None formed = refl
    at (Some list) formed =
        let tail : List ReadToken = marked p.right mark.RightParenthesis ∷ rest in
        let q = gotten (commas_at parameter_at (with_commas spell_parameter list ++ tail)) tail (listed_parameters_found list tail formed refl refl) in
        let opens = listed_opens list tail in
        subst (IsFoundBefore rest)
        (sym (then_is (closed_at p.left) (if_not (Some (None, with_commas spell_parameter list ++ tail)) (found_as Some (commas_at parameter_at (with_commas spell_parameter list ++ tail))) opens (as_is Some q.is)) refl))
        refl

-- the same, as the laws are stated
pub parameters_sound : IsSound spell_parameters GoodParameters parameters_at
parameters_sound = sound_of spell_parameters GoodParameters parameters_at parameters_told
