-- The laws of reading On Error and Resume.
use Rattle.std.proofs.Common.{◌≡◌, ℕ, ◌+◌, Bool, true, false, List, [], ◌∷◌, ◌++◌, Option, Some, None, refl, sym, ap, ◌∙◌, subst}
use Rattle.std.specs.Prelude.{if◌then◌else◌, ◌&&◌, ℤ, pos, negsuc, IfSome, codes}
use Rattle.std.proofs.lemmas.Bool.{cond_both, eqb-true, eq-eqb}
use Rattle.vba_lexer.specs.declared.token.Token.{Token}
use Rattle.vba_lexer.specs.declared.number.Number.{Number}
use Rattle.vba_lexer.specs.declared.number.NumberKind.{NumberKind}
use Rattle.vba_lexer.specs.declared.number.NumberKind.TheVariants.{Integer}
use Rattle.vba_words.specs.declared.keyword.Keyword.TheVariants as keyword
use Rattle.vba_words.specs.declared.mark.Mark.TheVariants as mark
use Rattle.vba_words.specs.declared.reading.Reading.{Reading}
use Rattle.vba_words.specs.declared.reading.Reading.TheVariants as reading
use Rattle.vba_words.specs.declared.reading.ReadToken.{ReadToken}
use Rattle.vba_words.specs.Spelling.{read, word, marked}
use Rattle.vba_tree.specs.declared.simple.LabelName.{LabelName}
use Rattle.vba_tree.specs.declared.simple.LabelName.TheVariants as label
use Rattle.vba_tree.specs.declared.simple.ErrorHandling.{ErrorHandling}
use Rattle.vba_tree.specs.declared.simple.ErrorHandling.TheVariants as handling
use Rattle.vba_tree.specs.declared.simple.ResumeTarget.{ResumeTarget}
use Rattle.vba_tree.specs.declared.simple.ResumeTarget.TheVariants as target
use Rattle.vba_tree.specs.Tree.{Simple, on_error, resume}
use Rattle.vba_tree.specs.Spelling.{place_word, digits, spell_label_name, spell_handling, spell_target, spell_simple}
use Rattle.vba_tree.specs.Forms.{IsOneUnit, FormedLabelName, FormedHandling, FormedTarget}
use Rattle.vba_tree.specs.Fitting.{is_zero, HandlingFits, TargetFits}
use Rattle.vba_grammar.specs.Front.{Found, found_as, begins, ends, ending}
use Rattle.vba_grammar.specs.Statements.{is_digit, is_minus, is_go_to, is_next, is_resume, go_to_at, handling_at, target_at, kept_at, simple_at}
use Rattle.vba_grammar.specs.Laws.{Ends, IsFoundBefore}
use Rattle.vba_grammar.proofs.Binding.{Told, nothing_told, some_told, weaker_told, then_told, as_told, cond_told, as_is, if_is, if_not, ending_is}
use Rattle.vba_grammar.proofs.Fronts.{means_reads, token_told}
use Rattle.vba_grammar.proofs.BlocksLaws.{KeptTold, IsFound}
use Rattle.vba_grammar.proofs.StatementsLaws.{label_told, label_is}

means_minus : (r : Reading) → is_minus r ≡ true → r ≡ reading.Mark mark.Minus
means_minus (reading.Mark mark.Minus) h = refl
means_minus _ h = absurd cc

means_go_to : (r : Reading) → is_go_to r ≡ true → r ≡ reading.Keyword keyword.GoTo
means_go_to (reading.Keyword keyword.GoTo) h = refl
means_go_to _ h = absurd cc

means_next : (r : Reading) → is_next r ≡ true → r ≡ reading.Keyword keyword.Next
means_next (reading.Keyword keyword.Next) h = refl
means_next _ h = absurd cc

means_resume : (r : Reading) → is_resume r ≡ true → r ≡ reading.Keyword keyword.Resume
means_resume (reading.Keyword keyword.Resume) h = refl
means_resume _ h = absurd cc

both_true : (b c : Bool) → (b && c) ≡ true → (b ≡ true) × (c ≡ true)
both_true true true h = (refl, refl)
both_true b c h = absurd cc

-- a digit alone is a whole number of type Integer
pub digits_known : (digit : ℕ) (t : ReadToken) → is_digit digit t ≡ true → t ≡ digits t.token digit
digits_known digit t = at t.token t.reading
  where
    number_at : (token : Token) (k : NumberKind) (v : ℤ) → is_digit digit (read token (reading.Number (record { kind = k; value = v }) true)) ≡ true
        → read token (reading.Number (record { kind = k; value = v }) true) ≡ digits token digit
    number_at token Integer (pos n) h =
        ap (λ m. read token (reading.Number (record { kind = Integer; value = pos m }) true)) (eqb-true n digit (both_true _ _ h).0)
    number_at token Integer (negsuc n) h = absurd cc
    number_at token _ v h = absurd cc

    at : (token : Token) (r : Reading) → is_digit digit (read token r) ≡ true → read token r ≡ digits token digit
    at token (reading.Number number true) h = number_at token number.kind number.value h
    at token (reading.Number number false) h = absurd cc
    at token _ h = absurd cc

pub one_unit : (digit : ℕ) (t : ReadToken) → is_digit digit t ≡ true → IsOneUnit t.token
one_unit digit t = at t.token t.reading
  where
    at : (token : Token) (r : Reading) → is_digit digit (read token r) ≡ true → IsOneUnit token
    at token (reading.Number number true) h = eqb-true token.end (token.start + 1) (both_true _ _ (both_true _ _ h).1).1
    at token (reading.Number number false) h = absurd cc
    at token _ h = absurd cc

-- 0 alone
zero_same : (token : Token) (number : Number) → is_digit 0 (read token (reading.Number number true)) ≡ is_zero (label.Number token number)
zero_same token number = at number.kind number.value
  where
    at : (k : NumberKind) (v : ℤ) → is_digit 0 (read token (reading.Number (record { kind = k; value = v }) true)) ≡ is_zero (label.Number token (record { kind = k; value = v }))
    at k (pos n) = refl
    at k (negsuc n) = refl

label_not_zero : (t : ReadToken) (ts : List ReadToken) (l : LabelName) (rest : List ReadToken) → t ∷ ts ≡ spell_label_name l ++ rest → is_digit 0 t ≡ false
    → is_zero l ≡ false
label_not_zero t ts (label.Name x) rest same h = refl
label_not_zero t ts (label.Number token number) rest same h =
    let e : t ≡ read token (reading.Number number true) = cc in
    sym (zero_same token number) ∙ ap (is_digit 0) (sym e) ∙ h

-- behind On Error GoTo
GoodHandling : ErrorHandling → Type 0
GoodHandling how = FormedHandling how × HandlingFits how

go_to_told : (goto_word : Token) (ts : List ReadToken)
    → Told (λ how rest. (word goto_word keyword.GoTo ∷ ts ≡ spell_handling how ++ rest) × FormedHandling how × HandlingFits how) (go_to_at goto_word ts)
go_to_told goto_word [] = nothing_told
go_to_told goto_word (t ∷ ts) =
    cond_told (is_digit 0 t) _ _
    (λ e. some_told (ap (λ u. word goto_word keyword.GoTo ∷ u ∷ ts) (digits_known 0 t e), one_unit 0 t e, tt))
    (λ e. cond_told (is_minus t.reading) _ _ (λ m. minus ts m)
    (λ m. as_told (handling.GoTo goto_word) (label_told (t ∷ ts)) (λ l rest p. (ap (λ us. word goto_word keyword.GoTo ∷ us) p.0, p.1, label_not_zero t ts l rest p.0 e))))
  where
    minus_one : List ReadToken → Found ErrorHandling
    minus_one [] = None
    minus_one (digit ∷ rest) = if is_digit 1 digit then Some (handling.GoToMinusOne goto_word t.token digit.token, rest) else None

    minus : (us : List ReadToken) → is_minus t.reading ≡ true
        → Told (λ how rest. (word goto_word keyword.GoTo ∷ t ∷ us ≡ spell_handling how ++ rest) × FormedHandling how × HandlingFits how) (minus_one us)
    minus [] m = nothing_told
    minus (digit ∷ us) m = cond_told (is_digit 1 digit) _ _
        (λ e. some_told (
          ap (λ r. word goto_word keyword.GoTo ∷ read t.token r ∷ digit ∷ us) (means_minus t.reading m)
              ∙ ap (λ u. word goto_word keyword.GoTo ∷ marked t.token mark.Minus ∷ u ∷ us) (digits_known 1 digit e),
          one_unit 1 digit e,
          tt,
        ))
        (λ e. nothing_told)

handling_told : (ts : List ReadToken) → Told (λ how rest. (ts ≡ spell_handling how ++ rest) × FormedHandling how × HandlingFits how) (handling_at ts)
handling_told ts = cond_told (begins is_resume ts) _ _
    (λ _. then_told (token_told ts means_resume) (λ resume_word rest p. as_told (handling.ResumeNext resume_word) (token_told rest means_next) (λ next_word behind q.
    (p ∙ ap (λ us. word resume_word keyword.Resume ∷ us) q, tt, tt))))
    (λ _. then_told (token_told ts means_go_to) (λ goto_word rest p. weaker_told (go_to_told goto_word rest) (λ how behind q. (p ∙ q.0, q.1, q.2))))

pub on_error_told : (token : Token) (ts : List ReadToken) → KeptTold (word token keyword.On ∷ ts) (kept_at token keyword.On ts)
on_error_told token ts =
    then_told (token_told ts (means_reads (codes "error"))) (λ error_word rest p. as_told (on_error token error_word) (handling_told rest) (λ how behind q.
    (ap (λ us. word token keyword.On ∷ us) (p ∙ ap (λ us. place_word error_word (codes "error") ∷ us) q.0), record { formed = q.1; chosen = q.2; no_if = refl })))

is_digit_zero : (token : Token) → IsOneUnit token → is_digit 0 (digits token 0) ≡ true
is_digit_zero token h = eq-eqb token.end (token.start + 1) h

is_digit_one : (token : Token) → IsOneUnit token → is_digit 1 (digits token 1) ≡ true
is_digit_one token h = eq-eqb token.end (token.start + 1) h

label_no_digit : (l : LabelName) (rest : List ReadToken) → FormedLabelName l → is_zero l ≡ false → (goto_word : Token)
    → go_to_at goto_word (spell_label_name l ++ rest) ≡ Some (handling.GoTo goto_word l, rest)
label_no_digit (label.Name x) rest f h goto_word = as_is (handling.GoTo goto_word) (label_is (label.Name x) rest f)
label_no_digit (label.Number token number) rest f h goto_word = if_not _ _ (zero_same token number ∙ h) refl

handling_is : (how : ErrorHandling) (rest : List ReadToken) → FormedHandling how → HandlingFits how → handling_at (spell_handling how ++ rest) ≡ Some (how, rest)
handling_is (handling.GoTo goto_word l) rest f h = label_no_digit l rest f h goto_word
handling_is (handling.GoToZero goto_word zero) rest f h = if_is _ _ (is_digit_zero zero f) refl
handling_is (handling.GoToMinusOne goto_word minus digit) rest f h = if_is _ _ (is_digit_one digit f) refl
handling_is (handling.ResumeNext resume_word next_word) rest f h = refl

pub on_error_is : (token error_word : Token) (how : ErrorHandling) (rest : List ReadToken) → FormedHandling how → HandlingFits how → Ends rest
    → IsFound (on_error token error_word how) rest
on_error_is token error_word how rest f c h = ending_is (as_is (on_error token error_word) (handling_is how rest f c)) h

-- Resume
target_told : (ts : List ReadToken) → Told (λ to rest. (ts ≡ spell_target to ++ rest) × FormedTarget to × TargetFits to) (target_at ts)
target_told [] = nothing_told
target_told (t ∷ ts) =
    cond_told (is_next t.reading) _ _ (λ e. some_told (ap (λ r. read t.token r ∷ ts) (means_next t.reading e), tt, tt))
    (λ _. cond_told (is_digit 0 t) _ _ (λ e. some_told (ap (λ u. u ∷ ts) (digits_known 0 t e), one_unit 0 t e, tt))
    (λ e. as_told target.Label (label_told (t ∷ ts)) (λ l rest p. (p.0, p.1, label_not_zero t ts l rest p.0 e))))

pub resume_told : (token : Token) (ts : List ReadToken) → KeptTold (word token keyword.Resume ∷ ts) (kept_at token keyword.Resume ts)
resume_told token ts = cond_told (ends ts) _ _
    (λ e. some_told (refl, record { formed = tt; chosen = tt; no_if = refl }))
    (λ e. as_told (λ t. resume token (Some t)) (target_told ts) (λ to rest p.
    (ap (λ us. word token keyword.Resume ∷ us) p.0, record { formed = p.1; chosen = p.2; no_if = refl })))

target_is : (to : ResumeTarget) (rest : List ReadToken) → FormedTarget to → TargetFits to → target_at (spell_target to ++ rest) ≡ Some (to, rest)
target_is (target.Next token) rest f h = refl
target_is (target.Zero token) rest f h = if_is _ _ (is_digit_zero token f) refl
target_is (target.Label (label.Name x)) rest f h = as_is target.Label (label_is (label.Name x) rest f)
target_is (target.Label (label.Number token number)) rest f h = if_not _ _ (zero_same token number ∙ h) refl

target_goes_on : (to : ResumeTarget) (rest : List ReadToken) → ends (spell_target to ++ rest) ≡ false
target_goes_on (target.Next token) rest = refl
target_goes_on (target.Zero token) rest = refl
target_goes_on (target.Label (label.Name x)) rest = refl
target_goes_on (target.Label (label.Number token number)) rest = refl

pub resume_is : (token : Token) (to : Option ResumeTarget) (rest : List ReadToken) → IfSome to FormedTarget → IfSome to TargetFits → Ends rest
    → IsFound (resume token to) rest
resume_is token None rest f c h = ending_is (if_is _ _ h refl) h
resume_is token (Some to) rest f c h = ending_is (if_not _ _ (target_goes_on to rest) (as_is (λ t. resume token (Some t)) (target_is to rest f c))) h

-- where a statement of the form stands, one that ends there is found, if not this one
go_to_found : (l : LabelName) (rest : List ReadToken) (goto_word : Token) (f : ErrorHandling → Simple) (token : Token) → FormedLabelName l → Ends rest
    → IsFoundBefore rest (ending (found_as f (go_to_at goto_word (spell_label_name l ++ rest))))
go_to_found (label.Name x) rest goto_word f token formed h =
    subst (IsFoundBefore rest) (sym (ending_is (as_is f (as_is (handling.GoTo goto_word) (label_is (label.Name x) rest formed))) h)) refl
go_to_found (label.Number number_token number) rest goto_word f token formed h =
    cond_both (is_digit 0 (read number_token (reading.Number number true))) (Some (handling.GoToZero goto_word number_token, rest))
    (Some (handling.GoTo goto_word (label.Number number_token number), rest)) (λ o. IsFoundBefore rest (ending (found_as f o)))
    (λ e. subst (IsFoundBefore rest) (sym (ending_is {m = Some (f (handling.GoToZero goto_word number_token), rest)} refl h)) refl)
    (λ e. subst (IsFoundBefore rest) (sym (ending_is {m = Some (f (handling.GoTo goto_word (label.Number number_token number)), rest)} refl h)) refl)

is_found : {A : Type 0} {rest : List ReadToken} {m : Found A} {a : A} → m ≡ Some (a, rest) → IsFoundBefore rest m
is_found {rest = rest} h = subst (IsFoundBefore rest) (sym h) refl

pub on_error_found : (token error_word : Token) (how : ErrorHandling) (rest : List ReadToken) → FormedHandling how → Ends rest
    → IsFoundBefore rest (simple_at (spell_simple (on_error token error_word how) ++ rest))
on_error_found token error_word (handling.GoTo goto_word l) rest f h = go_to_found l rest goto_word (on_error token error_word) token f h
on_error_found token error_word (handling.GoToZero goto_word zero) rest f h = is_found (on_error_is token error_word (handling.GoToZero goto_word zero) rest f tt h)
on_error_found token error_word (handling.GoToMinusOne goto_word minus digit) rest f h =
    is_found (on_error_is token error_word (handling.GoToMinusOne goto_word minus digit) rest f tt h)
on_error_found token error_word (handling.ResumeNext resume_word next_word) rest f h =
    is_found (on_error_is token error_word (handling.ResumeNext resume_word next_word) rest f tt h)

pub resume_found : (token : Token) (to : Option ResumeTarget) (rest : List ReadToken) → IfSome to FormedTarget → Ends rest
    → IsFoundBefore rest (simple_at (spell_simple (resume token to) ++ rest))
resume_found token None rest f h = is_found (resume_is token None rest f tt h)
resume_found token (Some (target.Next next)) rest f h = is_found (resume_is token (Some (target.Next next)) rest f tt h)
resume_found token (Some (target.Zero zero)) rest f h = is_found (resume_is token (Some (target.Zero zero)) rest f tt h)
resume_found token (Some (target.Label (label.Name x))) rest f h = is_found (resume_is token (Some (target.Label (label.Name x))) rest f refl h)
resume_found token (Some (target.Label (label.Number number_token number))) rest f h =
    cond_both (is_digit 0 (read number_token (reading.Number number true))) (Some (target.Zero number_token, rest))
    (Some (target.Label (label.Number number_token number), rest)) (λ o. IsFoundBefore rest (ending (found_as (λ t. resume token (Some t)) o)))
    (λ e. is_found (ending_is {m = Some (resume token (Some (target.Zero number_token)), rest)} refl h))
    (λ e. is_found (ending_is {m = Some (resume token (Some (target.Label (label.Number number_token number))), rest)} refl h))
