-- What is read of a line by its first words fits, and spells its tokens.
use Rattle.std.proofs.lemmas.Bool.{cond_both}
use Rattle.std.proofs.Common.{◌≡◌, ℕ, Bool, true, false, List, [], ◌∷◌, ◌++◌, Option, Some, None, refl, sym, ap, ◌∙◌, subst, append_assoc}
use Rattle.std.specs.Prelude.{◌&&◌, if◌then◌else◌, IfSome, codes, option_map}
use Rattle.vba_lexer.specs.declared.token.Token.{Token}
use Rattle.vba_words.specs.declared.identifier.Identifier.{Identifier}
use Rattle.vba_words.specs.declared.keyword.Keyword.TheVariants as keyword
use Rattle.vba_words.specs.declared.mark.Mark.TheVariants as mark
use Rattle.vba_words.specs.declared.reading.Reading.{Reading}
use Rattle.vba_words.specs.declared.reading.Reading.TheVariants as reading
use Rattle.vba_words.specs.declared.reading.ReadToken.{ReadToken}
use Rattle.vba_words.specs.Spelling.{read, word, marked, naming}
use Rattle.vba_tree.specs.declared.declaration.Access.{Access}
use Rattle.vba_tree.specs.declared.declaration.AccessWord.{AccessWord}
use Rattle.vba_tree.specs.declared.line.OptionChoice.{OptionChoice}
use Rattle.vba_tree.specs.Tree.{Parameters, ResultType, Line, option_line}
use Rattle.vba_tree.specs.Spelling.{optional, optional_word, spell_listed, with_commas, digits, spell_access, spell_parameters, spell_result_type, place_word, spell_words, spell_choice, spell_attribute_value}
use Rattle.vba_tree.specs.Forms.{IsOneUnit, AccessIs, before_type, before_event, before_procedure, FormedParameters, FormedType, FormedChoice, FormedAttributeValue}
use Rattle.vba_tree.specs.Fitting.{ParametersFit, ResultFits, IsReadAs}
use Rattle.vba_grammar.specs.Front.{Found, is_as, is_left, is_dot, begins, token_if, reads, name_at}
use Rattle.vba_grammar.specs.Clauses.{parameters_at, result_type_at, access_if}
use Rattle.vba_grammar.specs.Blocks.{is_name}
use Rattle.vba_grammar.specs.Statements.{is_digit}
use Rattle.vba_grammar.specs.Lines.{Header, of_enum, of_type, of_event, of_procedure, kind_at, allowed, is_missing, header_of, end_of, headed, is_static, header_or_other, ended, is_end, is_option, is_private, choice_of, attribute_value_at, attribute_of, line_of}
use Rattle.vba_grammar.proofs.HandlingLaws.{digits_known, one_unit}
use Rattle.vba_grammar.specs.Laws.{StatementsLaws}
use Rattle.vba_grammar.proofs.Binding.{Told, Spelled, told_of, nothing_told, some_told, weaker_told, as_told}
use Rattle.vba_grammar.proofs.Fronts.{means_dot, means_equal, means_reads, token_told, name_told, part_told, token_if_told, listed_told, commas_told}
use Rattle.vba_grammar.proofs.ClausesLaws.{GoodResult, result_type_told, access_if_told}
use Rattle.vba_grammar.proofs.LineHeads.{spell_header, kind_told}
use Rattle.vba_grammar.proofs.LinesSound.{LineTold, none_line, some_line, bind_line, cond_line, else_line, whole_told, statements_told, other_told}
use Rattle.vba_grammar.proofs.ParameterLaws.{GoodParameters, ParameterLaws}

pub and_both : (a b : Bool) → (a && b) ≡ true → (a ≡ true) × (b ≡ true)
and_both true true h = (refl, refl)
and_both true false h = absurd cc
and_both false b h = absurd cc

means_missing : (o : Option Token) → is_missing o ≡ true → o ≡ None
means_missing None h = refl
means_missing (Some t) h = absurd cc

access_allowed : (may_stand : Access → Bool) (a : Option AccessWord) → allowed may_stand a ≡ true → AccessIs may_stand a
access_allowed may_stand None h = tt
access_allowed may_stand (Some w) h = h

parameters_parts : (o : Option Parameters) → IfSome o GoodParameters → FormedParameters o × ParametersFit o
parameters_parts None g = (tt, tt)
parameters_parts (Some p) g = g

result_parts : (o : Option ResultType) → IfSome o GoodResult → IfSome o (λ r. FormedType r.declared_type) × IfSome o ResultFits
result_parts None g = (tt, tt)
result_parts (Some r) g = g

procedure_text : (a s k p r b : List ReadToken) (x : ReadToken) → a ++ (s ++ (k ++ x ∷ (p ++ (r ++ b)))) ≡ (a ++ (s ++ (k ++ x ∷ (p ++ r)))) ++ b
procedure_text a s k p r b x = simp append_assoc

abbrev pub header_tokens : Option AccessWord → Option Token → Header → List ReadToken → List ReadToken
header_tokens access static_word header rest = spell_access access ++ (optional_word keyword.Static static_word ++ (spell_header header ++ rest))

header_told : ParameterLaws → (ts : List ReadToken) (access : Option AccessWord) (static_word : Option Token) (header : Header) (rest : List ReadToken)
    → ts ≡ header_tokens access static_word header rest → LineTold ts (header_of access static_word header rest)
header_told laws ts access static_word (of_enum w) rest h =
    cond_line (allowed before_type access && is_missing static_word) _ None (λ e.
    let parts = and_both (allowed before_type access) (is_missing static_word) e in
    whole_told (as_told _ (name_told rest) (λ x rest2 p. (
      h ∙ (ap (λ s. header_tokens access s (of_enum w) rest) (means_missing static_word parts.1)
          ∙ (ap (λ us. spell_access access ++ word w keyword.Enum ∷ us) p ∙ sym (append_assoc (spell_access access) (word w keyword.Enum ∷ naming x ∷ []) rest2))),
      record { formed = access_allowed before_type access parts.0; chosen = tt },
    ))))
    (λ e. none_line)
header_told laws ts access static_word (of_type w) rest h =
    cond_line (allowed before_type access && is_missing static_word) _ None (λ e.
    let parts = and_both (allowed before_type access) (is_missing static_word) e in
    whole_told (as_told _ (name_told rest) (λ x rest2 p. (
      h ∙ (ap (λ s. header_tokens access s (of_type w) rest) (means_missing static_word parts.1)
          ∙ (ap (λ us. spell_access access ++ word w keyword.Type ∷ us) p ∙ sym (append_assoc (spell_access access) (word w keyword.Type ∷ naming x ∷ []) rest2))),
      record { formed = access_allowed before_type access parts.0; chosen = tt },
    ))))
    (λ e. none_line)
header_told laws ts access static_word (of_event w) rest h =
    cond_line (allowed before_event access && is_missing static_word) _ None (λ e.
    let parts = and_both (allowed before_event access) (is_missing static_word) e in
    bind_line (name_told rest) (λ x rest2 p.
    whole_told (as_told _ (part_told is_left parameters_at rest2 (told_of spell_parameters GoodParameters parameters_at laws.sound rest2)) (λ parameters rest3 q.
    let good = parameters_parts parameters q.1 in (
      h ∙ (ap (λ s. header_tokens access s (of_event w) rest) (means_missing static_word parts.1)
          ∙ (ap (λ us. spell_access access ++ word w keyword.Event ∷ us) (p ∙ ap (λ us. naming x ∷ us) q.0)
          ∙ sym (append_assoc (spell_access access) (word w keyword.Event ∷ naming x ∷ optional spell_parameters parameters) rest3))),
      record { formed = (access_allowed before_event access parts.0, good.0); chosen = good.1 },
    )))))
    (λ e. none_line)
header_told laws ts access static_word (of_procedure kind) rest h =
    cond_line (allowed before_procedure access) _ None (λ e.
    bind_line (name_told rest) (λ x rest2 p.
    bind_line (part_told is_left parameters_at rest2 (told_of spell_parameters GoodParameters parameters_at laws.sound rest2)) (λ parameters rest3 q.
    whole_told (as_told _ (part_told is_as result_type_at rest3 (result_type_told rest3)) (λ result rest4 r.
    let good = parameters_parts parameters q.1 in
    let good_result = result_parts result r.1 in (
      h ∙ (ap (λ us. spell_access access ++ (optional_word keyword.Static static_word ++ (spell_words kind ++ us)))
          (p ∙ ap (λ us. naming x ∷ us) (q.0 ∙ ap (λ us. optional spell_parameters parameters ++ us) r.0))
          ∙ procedure_text (spell_access access) (optional_word keyword.Static static_word) (spell_words kind) (optional spell_parameters parameters) (optional spell_result_type result) rest4 (naming x)),
      record { formed = (access_allowed before_procedure access e, good.0, good_result.0); chosen = (good.1, good_result.1) },
    ))))))
    (λ e. none_line)

means_static : (r : Reading) → is_static r ≡ true → r ≡ reading.Keyword keyword.Static
means_static (reading.Keyword keyword.Static) h = refl
means_static _ h = absurd cc

headed_told : StatementsLaws → ParameterLaws → (ts us : List ReadToken) (access : Option AccessWord) (static_word : Option Token) (found : Found Header)
    → ts ≡ spell_access access ++ (optional_word keyword.Static static_word ++ us) → Told (λ header rest. us ≡ spell_header header ++ rest) found
    → LineTold ts (headed access static_word found ts)
headed_told laws parameters ts us access static_word None h told = other_told laws ts
headed_told laws parameters ts us access static_word (Some p) h told =
    header_told parameters ts access static_word p.0 p.1
    (h ∙ ap (λ vs. spell_access access ++ (optional_word keyword.Static static_word ++ vs)) (told.at p.0 p.1 refl))

header_or_other_told : StatementsLaws → ParameterLaws → (ts : List ReadToken) → LineTold ts (header_or_other ts)
header_or_other_told laws parameters ts =
    let rest : List ReadToken = (access_if ts).1 in
    headed_told laws parameters ts (token_if is_static rest).1 (access_if ts).0 (token_if is_static rest).0 (kind_at (token_if is_static rest).1)
    (access_if_told ts ∙ ap (λ us. spell_access (access_if ts).0 ++ us) (token_if_told {is_so = is_static} {kept = keyword.Static} rest means_static)) (kind_told (token_if is_static rest).1)

end_told : (w : Token) (t : Token) (r : Reading) → LineTold (word w keyword.End ∷ read t r ∷ []) (end_of w t r)
end_told w t (reading.Keyword keyword.Enum) = some_line (record { same = refl; fits = record { formed = tt; chosen = tt } })
end_told w t (reading.Keyword keyword.Type) = some_line (record { same = refl; fits = record { formed = tt; chosen = tt } })
end_told w t (reading.Keyword keyword.Sub) = some_line (record { same = refl; fits = record { formed = tt; chosen = tt } })
end_told w t (reading.Keyword keyword.Function) = some_line (record { same = refl; fits = record { formed = tt; chosen = tt } })
end_told w t (reading.Name x None false) =
    cond_line (reads (codes "property") (reading.Name x None false)) _ None (λ e. some_line (record {
      same = ap (λ r. word w keyword.End ∷ read t r ∷ []) (sym (means_reads (codes "property") (reading.Name x None false) e));
      fits = record { formed = tt; chosen = tt };
    }))
    (λ e. none_line)
end_told w t _ = none_line

ended_told : (w : Token) (ts : List ReadToken) → LineTold (word w keyword.End ∷ ts) (ended w ts)
ended_told w [] = none_line
ended_told w (t ∷ []) = else_line (end_told w t.token t.reading) none_line
ended_told w (t ∷ u ∷ us) = none_line

-- behind Option
record ChoiceTold (ts : List ReadToken) (o : Option OptionChoice) : Type 0 where
  at : (c : OptionChoice) → o ≡ Some c → (ts ≡ spell_choice c) × FormedChoice c

none_choice : {ts : List ReadToken} → ChoiceTold ts None
none_choice = record { at = λ c h. absurd cc }

choice_is : (a b : OptionChoice) → Some a ≡ Some b → a ≡ b
choice_is a b h = cc

some_choice : {ts : List ReadToken} {c : OptionChoice} → ts ≡ spell_choice c → FormedChoice c → ChoiceTold ts (Some c)
some_choice {ts = ts} {c = c} s f = record { at = λ b h. subst (λ d. (ts ≡ spell_choice d) × FormedChoice d) (choice_is c b h) (s, f) }

cond_choice : {ts : List ReadToken} (b : Bool) (m n : Option OptionChoice) → (b ≡ true → ChoiceTold ts m) → (b ≡ false → ChoiceTold ts n) → ChoiceTold ts (if b then m else n)
cond_choice {ts = ts} b m n f g = cond_both b m n (ChoiceTold ts) f g

digit_told : (d : ℕ) (t : ReadToken) → is_digit d t ≡ true → (t ≡ digits t.token d) × IsOneUnit t.token
digit_told d t h = (digits_known d t h, one_unit d t h)

word_told : (fold : List ℕ) (t : ReadToken) → reads fold t.reading ≡ true → t ≡ place_word t.token fold
word_told fold t h = ap (λ r. read t.token r) (means_reads fold t.reading h)

means_private : (r : Reading) → is_private r ≡ true → r ≡ reading.Keyword keyword.Private
means_private (reading.Keyword keyword.Private) h = refl
means_private _ h = absurd cc

two : (a b c d : ReadToken) → a ≡ c → b ≡ d → a ∷ b ∷ [] ≡ c ∷ d ∷ []
two a b c d h k = cc

choice_told : (ts : List ReadToken) → ChoiceTold ts (choice_of ts)
choice_told [] = none_choice
choice_told (a ∷ []) = cond_choice (reads (codes "explicit") a.reading) _ None (λ e. some_choice (ap (λ t. t ∷ []) (word_told (codes "explicit") a e)) tt) (λ e. none_choice)
choice_told (a ∷ b ∷ []) =
    cond_choice (reads (codes "base") a.reading) _ _
    (λ e. cond_choice (is_digit 0 b) _ _
    (λ d. let g = digit_told 0 b d in some_choice (two _ _ _ _ (word_told (codes "base") a e) g.0) g.1)
    (λ n. cond_choice (is_digit 1 b) _ None
    (λ d. let g = digit_told 1 b d in some_choice (two _ _ _ _ (word_told (codes "base") a e) g.0) g.1)
    (λ d. none_choice)))
    (λ n. cond_choice (reads (codes "compare") a.reading) _ _
    (λ e. cond_choice (reads (codes "binary") b.reading) _ _
    (λ d. some_choice (two _ _ _ _ (word_told (codes "compare") a e) (word_told (codes "binary") b d)) tt)
    (λ m. cond_choice (reads (codes "text") b.reading) _ None
    (λ d. some_choice (two _ _ _ _ (word_told (codes "compare") a e) (word_told (codes "text") b d)) tt)
    (λ d. none_choice)))
    (λ m. cond_choice (is_private a.reading && reads (codes "module") b.reading) _ None
    (λ e. let parts = and_both (is_private a.reading) (reads (codes "module") b.reading) e in
    some_choice (two _ _ _ _ (ap (λ r. read a.token r) (means_private a.reading parts.0)) (word_told (codes "module") b parts.1)) tt)
    (λ d. none_choice)))
choice_told (a ∷ b ∷ c ∷ ts) = none_choice

option_told : (t : Token) (ts : List ReadToken) (o : Option OptionChoice) → ChoiceTold ts o
    → LineTold (word t keyword.Option ∷ ts) (option_map (λ c. option_line (record { option_word = t; choice = c })) o)
option_told t ts None told = none_line
option_told t ts (Some c) told =
    let g = told.at c refl in
    some_line (record { same = ap (λ us. word t keyword.Option ∷ us) (sym g.0); fits = record { formed = g.1; chosen = tt } })

-- a value of an attribute
value_minus : (m u : Token) (us : List ReadToken) (r : Reading) → Spelled spell_attribute_value FormedAttributeValue (marked m mark.Minus ∷ read u r ∷ us) (attribute_value_at (marked m mark.Minus ∷ read u r ∷ us))
value_minus m u us (reading.Number n is_plain) = some_told (refl, refl)
value_minus m u us (reading.Text text) = some_told (refl, refl)
value_minus m u us (reading.Keyword keyword.True) = nothing_told
value_minus m u us (reading.Mark mark.Colon) = nothing_told
value_minus m u us _ = nothing_told

value_plain : (u : Token) (us : List ReadToken) (r : Reading) → Spelled spell_attribute_value FormedAttributeValue (read u r ∷ us) (attribute_value_at (read u r ∷ us))
value_plain u us (reading.Number n is_plain) = some_told (refl, refl)
value_plain u us (reading.Text text) = some_told (refl, refl)
value_plain u us (reading.Keyword keyword.True) = some_told (refl, refl)
value_plain u us (reading.Keyword keyword.False) = some_told (refl, refl)
value_plain u [] (reading.Mark mark.Minus) = nothing_told
value_plain u (v ∷ vs) (reading.Mark mark.Minus) = value_minus u v.token vs v.reading
value_plain u us _ = nothing_told

attribute_value_told : (ts : List ReadToken) → Spelled spell_attribute_value FormedAttributeValue ts (attribute_value_at ts)
attribute_value_told [] = nothing_told
attribute_value_told (t ∷ ts) = value_plain t.token ts t.reading

abbrev pub IsAny : Identifier → Type 0
IsAny x = Unit {0}

named_told : (ts : List ReadToken) → Spelled (λ x. naming x ∷ []) IsAny ts (name_at ts)
named_told ts = weaker_told (name_told ts) (λ x rest p. (p, tt))

attribute_told : (w : Token) (ts : List ReadToken) → LineTold (place_word w (codes "attribute") ∷ ts) (attribute_of w ts)
attribute_told w ts =
    bind_line (listed_told {is_between = is_dot} {between = mark.Dot} (λ x. naming x ∷ []) {Good = IsAny} name_at means_dot named_told ts) (λ names rest p.
    bind_line (token_told rest means_equal) (λ equal rest2 q.
    whole_told (as_told _ (commas_told spell_attribute_value {Good = FormedAttributeValue} attribute_value_at attribute_value_told rest2) (λ values rest3 r. (
      ap (λ us. place_word w (codes "attribute") ∷ us)
          (p.0 ∙ (ap (λ us. spell_listed (λ x. naming x ∷ []) mark.Dot names ++ us) (q ∙ ap (λ us. marked equal mark.Equal ∷ us) r.0)
          ∙ sym (append_assoc (spell_listed (λ x. naming x ∷ []) mark.Dot names) (marked equal mark.Equal ∷ with_commas spell_attribute_value values) rest3))),
      record { formed = r.1; chosen = tt },
    )))))

means_option : (r : Reading) → is_option r ≡ true → r ≡ reading.Keyword keyword.Option
means_option (reading.Keyword keyword.Option) h = refl
means_option _ h = absurd cc

means_end : (r : Reading) → is_end r ≡ true → r ≡ reading.Keyword keyword.End
means_end (reading.Keyword keyword.End) h = refl
means_end _ h = absurd cc

line_along : (ts us : List ReadToken) (o : Option Line) → ts ≡ us → LineTold ts o → LineTold us o
line_along ts us o h told = subst (λ vs. LineTold vs o) h told

line_told : StatementsLaws → ParameterLaws → (ts : List ReadToken) → LineTold ts (line_of ts)
line_told laws parameters [] = statements_told laws []
line_told laws parameters (t ∷ ts) =
    cond_line (is_option t.reading) _ _
    (λ e. line_along (word t.token keyword.Option ∷ ts) (t ∷ ts) _ (ap (λ r. read t.token r ∷ ts) (sym (means_option t.reading e))) (option_told t.token ts (choice_of ts) (choice_told ts)))
    (λ n. cond_line (reads (codes "attribute") t.reading && begins is_name ts) _ _
    (λ e. let parts = and_both (reads (codes "attribute") t.reading) (begins is_name ts) e in
    line_along (place_word t.token (codes "attribute") ∷ ts) (t ∷ ts) _ (ap (λ u. u ∷ ts) (sym (word_told (codes "attribute") t parts.0))) (attribute_told t.token ts))
    (λ m. cond_line (is_end t.reading) _ _
    (λ e. else_line (line_along (word t.token keyword.End ∷ ts) (t ∷ ts) _ (ap (λ r. read t.token r ∷ ts) (sym (means_end t.reading e))) (ended_told t.token ts)) (statements_told laws (t ∷ ts)))
    (λ k. header_or_other_told laws parameters (t ∷ ts))))

-- the tree that is found has the line's tokens and fits
pub line_sound : StatementsLaws → ParameterLaws → (ts : List ReadToken) (line : Line) → line_of ts ≡ Some line → IsReadAs ts line
line_sound laws parameters ts line h = (line_told laws parameters ts).at line h
