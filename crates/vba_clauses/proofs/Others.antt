-- Parts behind their marks, found turn by turn.
use Rattle.std.proofs.Common.{◌≡◌, ℕ, suc, ◌+◌, ◌-◌, ◌<◌, ◌≤◌, Bool, true, false, List, [], ◌∷◌, ◌++◌, map, Some, None, refl, sym, ap, subst, ◌∙◌, append_assoc, arith}
use Rattle.std.specs.Prelude.{if◌then◌else◌}
use Rattle.std.proofs.lemmas.List.{map-append, append-nil}
use Rattle.vba_lexer.specs.declared.token.Token.{Token}
use Rattle.vba_words.specs.declared.reading.Reading.{Reading}
use Rattle.vba_words.specs.declared.reading.ReadToken.{ReadToken}
use Rattle.vba_grammar.specs.Front.{Found, ◌>>=◌, found_as, with_next, token_at, others_at}

-- the parts that were found stand before those that so many more turns find
pub record Goes {A : Type 0} (wanted : Found (List (Token × A))) (turns : ℕ) (is_between : Reading → Bool) (item : List ReadToken → Found A) (seen : List (Token × A)) (left : List ReadToken) : Type 0 where
  pub same : found_as (λ more. seen ++ more) (others_at turns is_between item left) ≡ wanted

-- what is found, with nothing before it
found_alone : {B : Type 0} (found : Found (List B)) → found_as (λ more. [] ++ more) found ≡ found
found_alone None = refl
found_alone (Some found) = refl

pub begun : {A : Type 0} (n : ℕ) (is_between : Reading → Bool) (item : List ReadToken → Found A) (ts : List ReadToken)
    → Goes (others_at n is_between item ts) (n - 0) is_between item [] ts
begun n is_between item ts =
    let e : n - 0 ≡ n = omega arith in
    record { same = ap (λ turns. found_as (λ more. [] ++ more) (others_at turns is_between item ts)) e ∙ found_alone (others_at n is_between item ts) }

-- what a turn finds, by the mark that it finds
by_mark : {A : Type 0} → ℕ → (Reading → Bool) → (List ReadToken → Found A) → List ReadToken → Found Token → Found (List (Token × A))
by_mark m is_between item ts None = Some ([], ts)
by_mark m is_between item ts (Some mark) = item mark.1 >>= λ next rest. with_next (mark.0, next) (others_at m is_between item rest)

turn : {A : Type 0} (m : ℕ) (is_between : Reading → Bool) (item : List ReadToken → Found A) (ts : List ReadToken)
    → others_at (suc m) is_between item ts ≡ by_mark m is_between item ts (token_at is_between ts)
unfolding by_mark
turn m is_between item [] = refl
turn m is_between item (t ∷ ts) = by_test (is_between t.reading)
  where
    by_test : (is_mark : Bool) → (if is_mark then (item ts >>= λ next rest. with_next (t.token, next) (others_at m is_between item rest)) else Some ([], t ∷ ts))
        ≡ by_mark m is_between item (t ∷ ts) (if is_mark then Some (t.token, ts) else None)
    by_test true = refl
    by_test false = refl

-- before its last turn, so many turns are left
one_less : {A : Type 0} (wanted : Found (List (Token × A))) (n k : ℕ) (is_between : Reading → Bool) (item : List ReadToken → Found A) (seen : List (Token × A)) (left : List ReadToken)
    → k < n → Goes wanted (n - k) is_between item seen left
    → found_as (λ more. seen ++ more) (by_mark (n - (k + 1)) is_between item left (token_at is_between left)) ≡ wanted
one_less wanted n k is_between item seen left below goes =
    let e : suc (n - (k + 1)) ≡ n - k = omega arith in
    ap (found_as (λ more. seen ++ more)) (sym (turn (n - (k + 1)) is_between item left))
    ∙ ap (λ turns. found_as (λ more. seen ++ more) (others_at turns is_between item left)) e
    ∙ goes.same

-- no mark stands there
pub stopped : {A : Type 0} (wanted : Found (List (Token × A))) (n k : ℕ) (is_between : Reading → Bool) (item : List ReadToken → Found A) (seen : List (Token × A)) (left : List ReadToken)
    → k < n → Goes wanted (n - k) is_between item seen left → token_at is_between left ≡ None → Some (seen, left) ≡ wanted
unfolding by_mark
stopped wanted n k is_between item seen left below goes no_mark =
    ap (λ all. Some (all, left)) (sym (append-nil seen))
    ∙ sym (ap (λ mark. found_as (λ more. seen ++ more) (by_mark (n - (k + 1)) is_between item left mark)) no_mark)
    ∙ one_less wanted n k is_between item seen left below goes

-- a part goes wrong
pub failed : {A : Type 0} (wanted : Found (List (Token × A))) (n k : ℕ) (is_between : Reading → Bool) (item : List ReadToken → Found A) (seen : List (Token × A)) (left : List ReadToken) (mark : Token) (ts : List ReadToken)
    → k < n → Goes wanted (n - k) is_between item seen left → token_at is_between left ≡ Some (mark, ts) → item ts ≡ None → None ≡ wanted
unfolding by_mark
failed wanted n k is_between item seen left mark ts below goes there missing =
    sym
    (ap (λ found. found_as (λ more. seen ++ more) (found >>= λ next rest. with_next (mark, next) (others_at (n - (k + 1)) is_between item rest))) missing)
    ∙ sym (ap (λ mark. found_as (λ more. seen ++ more) (by_mark (n - (k + 1)) is_between item left mark)) there)
    ∙ one_less wanted n k is_between item seen left below goes

-- what stands before a part, and the part
joined : {B : Type 0} (seen : List B) (p : B) (found : Found (List B))
    → found_as (λ more. (seen ++ p ∷ []) ++ more) found ≡ found_as (λ more. seen ++ more) (found_as (λ others. p ∷ others) found)
joined seen p None = refl
joined seen p (Some found) = ap (λ all. Some (all, found.1)) (append_assoc seen (p ∷ []) found.0)

one_more : {A : Type 0} (wanted : Found (List (Token × A))) (n k : ℕ) (is_between : Reading → Bool) (item : List ReadToken → Found A) (seen : List (Token × A)) (left : List ReadToken) (mark : Token) (ts rest : List ReadToken) (x : A)
    → k < n → Goes wanted (n - k) is_between item seen left → token_at is_between left ≡ Some (mark, ts) → item ts ≡ Some (x, rest)
    → Goes wanted (n - (k + 1)) is_between item (seen ++ (mark, x) ∷ []) rest
unfolding by_mark
one_more wanted n k is_between item seen left mark ts rest x below goes there found =
    record {
      same =
          joined seen (mark, x) (others_at (n - (k + 1)) is_between item rest)
          ∙ sym
          (ap (λ part. found_as (λ more. seen ++ more) (part >>= λ next rest. with_next (mark, next) (others_at (n - (k + 1)) is_between item rest))) found)
          ∙ sym (ap (λ mark. found_as (λ more. seen ++ more) (by_mark (n - (k + 1)) is_between item left mark)) there)
          ∙ one_less wanted n k is_between item seen left below goes;
    }

-- one more part
pub more : {A B : Type 0} (f : B → Token × A) (wanted : Found (List (Token × A))) (n k : ℕ) (is_between : Reading → Bool) (item : List ReadToken → Found A) (others : List B) (next : B) (left : List ReadToken) (mark : Token) (ts rest : List ReadToken) (x : A)
    → k < n → Goes wanted (n - k) is_between item (map f others) left → token_at is_between left ≡ Some (mark, ts) → item ts ≡ Some (x, rest)
    → f next ≡ (mark, x) → Goes wanted (n - (k + 1)) is_between item (map f (others ++ next ∷ [])) rest
more {A = A} f wanted n k is_between item others next left mark ts rest x below goes there found seen =
    let e : map f (others ++ next ∷ []) ≡ map f others ++ (mark, x) ∷ [] =
    map-append f others (next ∷ []) ∙ ap (λ p. map f others ++ p ∷ []) seen in
    let P = λ (seen : List (Token × A)). Goes wanted (n - (k + 1)) is_between item seen rest in
    subst P (sym e) (one_more wanted n k is_between item (map f others) left mark ts rest x below goes there found)

-- no turn is left
pub spent : {A : Type 0} (wanted : Found (List (Token × A))) (n k : ℕ) (is_between : Reading → Bool) (item : List ReadToken → Found A) (seen : List (Token × A)) (left : List ReadToken)
    → n ≤ k → Goes wanted (n - k) is_between item seen left → None ≡ wanted
spent wanted n k is_between item seen left over goes =
    let e : 0 ≡ n - k = omega arith in
    ap (λ turns. found_as (λ more. seen ++ more) (others_at turns is_between item left)) e ∙ goes.same

-- the last turn finds a part
pub last_turn : {A : Type 0} (wanted : Found (List (Token × A))) (n k : ℕ) (is_between : Reading → Bool) (item : List ReadToken → Found A) (seen : List (Token × A)) (left : List ReadToken) (mark : Token) (ts rest : List ReadToken) (x : A)
    → k < n → n ≤ k + 1 → Goes wanted (n - k) is_between item seen left → token_at is_between left ≡ Some (mark, ts) → item ts ≡ Some (x, rest)
    → None ≡ wanted
last_turn wanted n k is_between item seen left mark ts rest x below over goes there found =
    spent wanted n (k + 1) is_between item (seen ++ (mark, x) ∷ []) rest over
    (one_more wanted n k is_between item seen left mark ts rest x below goes there found)
