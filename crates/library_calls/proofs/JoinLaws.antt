-- Elements that have texts, joined.
use Rattle.std.proofs.Common.{◌≡◌, ◌≤◌, length, arith, rules, List, [], ◌∷◌, Result, Ok, Err, IsOk, ℕ, refl, ap}
use Rattle.std.proofs.lemmas.Grind.{common_steps}
use Rattle.vba_base.specs.Answer.{◌>>=◌}
use Rattle.vba_values.specs.declared.fault.Bad.{Bad}
use Rattle.vba_values.specs.Coerce.{text_of}
use Rattle.vba_values.specs.Val.{Vals, text, no_vals, val}
use Rattle.std.specs.Result.{result_unwrap_or}
use Rattle.vba_values.specs.declared.value.Value.{Text, the_lemmas}
use Rattle.vba_values.specs.View.{view}
use Rattle.vba_lib.specs.Arguments.{text_answer}
use Rattle.vba_lib.specs.Arrays.{join_elements, texts_of}
use Rattle.vba_lib.specs.Searching.{joined_by}
use Rattle.library_calls.specs.View.{texts_in}

one_more : (first : Result (List ℕ) Bad) (rest : Result (List (List ℕ)) Bad) (listed : List (List ℕ)) → (IsOk rest → rest ≡ Ok listed)
    → IsOk (first >>= λ units. rest >>= λ texts. Ok (units ∷ texts))
    → (first >>= λ units. rest >>= λ texts. Ok (units ∷ texts)) ≡ Ok (result_unwrap_or first [] ∷ listed)
one_more (Ok units) (Ok texts) listed same ok = ap (λ r. r >>= λ texts. Ok (units ∷ texts)) (same refl)
one_more (Ok units) (Err bad) listed same ok = absurd (cc)
one_more (Err bad) rest listed same ok = absurd (cc)

-- where all have texts, these are the texts
listed : (vs : Vals) → IsOk (texts_of vs) → texts_of vs ≡ Ok (texts_in vs)
listed no_vals ok = refl
listed (val v vs) ok = one_more (text_of v) (texts_of vs) (texts_in vs) (listed vs) ok

pub joined_elements : (separator : List ℕ) (vs : Vals) → IsOk (texts_of vs) → join_elements separator vs ≡ text_answer (joined_by separator (texts_in vs))
joined_elements separator vs ok = ap (λ r. r >>= λ texts. text_answer (joined_by separator texts)) (listed vs ok)

-- a text that isn't too long is answered
pub short_answer : (units : List ℕ) → length units ≤ 16777216 → text_answer units ≡ Ok (text units)
short_answer units short = grind (arith, common_steps)

pub view_text : (units : List ℕ) → text units ≡ view (Text units)
view_text units = search (rules, the_lemmas)
