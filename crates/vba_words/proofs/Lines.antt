-- The tokens of a line, one after another.
use Rattle.std.proofs.Common.{◌≡◌, ℕ, ◌+◌, ◌-◌, ◌<◌, List, [], ◌∷◌, ◌++◌, length, drop, get_or, Option, Some, refl, append_assoc, arith}
use Rattle.std.proofs.lemmas.List.{drop_more, length-append}
use Rattle.std.specs.List.{slice_get}
use Rattle.vba_lexer.specs.declared.token.Token.{Token}
use Rattle.vba_words.specs.declared.context.Context.{Context}
use Rattle.vba_words.specs.declared.reading.ReadToken.{ReadToken}
use Rattle.vba_words.specs.Readings.{read_token, read_behind, context_behind}

-- the last of a list with one more
pub last_pushed : {A : Type 0} (xs : List A) (x : A) → slice_get (xs ++ x ∷ []) (length xs) ≡ Some x
last_pushed [] x = refl
last_pushed (y ∷ xs) x = last_pushed xs x

pub last_of_pushed : {A : Type 0} (xs : List A) (x : A) → slice_get (xs ++ x ∷ []) (length (xs ++ x ∷ []) - 1) ≡ Some x
last_of_pushed xs x =
    let e : length (xs ++ x ∷ []) - 1 ≡ length xs = omega (arith, length-append xs (x ∷ [])) in
    rw e (last_pushed xs x)

-- one more token
pub read_more : (source : List ℕ) (context behind : Context) (found : List ReadToken) (tokens : List Token) (index : ℕ) (before : Option ReadToken) (default : Token) (next : ReadToken)
    → index < length tokens → before ≡ slice_get found (length found - 1) → next ≡ read_token source context before (get_or tokens index default)
    → behind ≡ context_behind context before next.reading
    → (found ++ next ∷ []) ++ read_behind source behind (slice_get (found ++ next ∷ []) (length (found ++ next ∷ []) - 1)) (drop (index + 1) tokens)
    ≡ found ++ read_behind source context (slice_get found (length found - 1)) (drop index tokens)
read_more source context behind found tokens index before default next more last is goes =
    rw (last_of_pushed found next, append_assoc found (next ∷ []) (read_behind source behind (Some next) (drop (index + 1) tokens)), drop_more tokens index default more, ← last, goes, is) refl
