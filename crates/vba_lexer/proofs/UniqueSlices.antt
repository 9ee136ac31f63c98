-- The tokens of a line are the only list of slices that the definition allows.
use Rattle.std.proofs.Common.{◌≡◌, ℕ, zero, suc, ◌+◌, ◌-◌, ◌≤◌, Bool, true, false, List, [], ◌∷◌, length, get_or, take, drop, refl, sym, ◌∙◌, ap, subst, arith, length-drop}
use Rattle.std.specs.Prelude.{if◌then◌else◌, ◌==◌, ◌&&◌, ◌||◌, codes}
use Rattle.std.proofs.lemmas.Bool.{and_parts, both_ways, eqb-true, eqb-false}
use Rattle.vba_lexer.specs.declared.scan.Standing.{Standing}
use Rattle.vba_lexer.specs.declared.scan.Standing.TheVariants.{First}
use Rattle.vba_lexer.specs.Kinds.{is_gap}
use Rattle.vba_lexer.specs.Slices.{BeginsComment, with_quote, with_word, AreTokensFrom, at_end, at_comment, behind_gap, with_token, AreTokensOf}
use Rattle.vba_lexer.specs.Tokens.{IsToken, Front, front_of, is_first, opens, is_the_word, front_text, begins_comment, standing_behind, Slice, slices_from, slices_of}
use Rattle.vba_lexer.proofs.Fronts.{IsToken-front_of, IsToken-size}
use Rattle.vba_lexer.proofs.TokenSteps.{slices_from-skip, front_slice, begins_comment-quote, begins_comment-word}

-- a comment begins exactly where one is found
begins_comment-from : (standing : Standing) (character : ℕ) (line : List ℕ) → BeginsComment standing (character ∷ line) → begins_comment standing (character ∷ line) ≡ true
begins_comment-from standing character line (with_quote rest same) =
    begins_comment-quote standing (character ∷ line) (omega arith) (ap (λ (l : List ℕ). get_or l 0 0) same)
begins_comment-from standing character line (with_word kind size opening token word) = at (character == 39) refl
  where
    at : (quote : Bool) → (character == 39) ≡ quote → begins_comment standing (character ∷ line) ≡ true
    at true e = begins_comment-quote standing (character ∷ line) (omega arith) (eqb-true character 39 e)
    at false e =
        let both : true ≡ (opens standing && is_the_word (codes "rem") (take size (character ∷ line))) = sym (rw (opening, word) refl) in
        begins_comment-word standing (character ∷ line) kind size true (omega arith) (eqb-false character 39 e) token both

BeginsComment-from : (standing : Standing) (character : ℕ) (line : List ℕ) → is_gap character ≡ false → begins_comment standing (character ∷ line) ≡ true
    → BeginsComment standing (character ∷ line)
BeginsComment-from standing character line dark comment = at (character == 39) refl comment
  where
    at : (quote : Bool) → (character == 39) ≡ quote → (quote || (opens standing && is_the_word (codes "rem") (front_text standing (character ∷ line)))) ≡ true
        → BeginsComment standing (character ∷ line)
    at true e is = with_quote line (ap (λ (c : ℕ). c ∷ line) (eqb-true character 39 e))
    at false e is =
        let parts = and_parts (opens standing) (is_the_word (codes "rem") (front_text standing (character ∷ line))) is in
        with_word (front_of (is_first standing) (character ∷ line)).kind (front_of (is_first standing) (character ∷ line)).size parts.0
        (IsToken-front_of (is_first standing) character line dark) parts.1

no_comment-from : (standing : Standing) (character : ℕ) (line : List ℕ) → is_gap character ≡ false → (BeginsComment standing (character ∷ line) → ⊥)
    → begins_comment standing (character ∷ line) ≡ false
no_comment-from standing character line dark none = at (begins_comment standing (character ∷ line)) refl
  where
    at : (comment : Bool) → begins_comment standing (character ∷ line) ≡ comment → comment ≡ false
    at true e = absurd (none (BeginsComment-from standing character line dark e))
    at false e = refl

-- the slices behind a token
behind_token : (standing : Standing) (place character : ℕ) (line : List ℕ) (size : ℕ) → 1 ≤ size
    → slices_from standing 0 (place + 1 + (size - 1)) (drop (size - 1) line) ≡ slices_from standing 0 (place + size) (drop size (character ∷ line))
behind_token standing place character line zero some = absurd (omega arith)
behind_token standing place character line (suc size) some =
    let a : suc size - 1 ≡ size = omega arith in
    let b : place + 1 + size ≡ place + suc size = omega arith in
    ap (λ (n : ℕ). slices_from standing 0 (place + 1 + n) (drop n line)) a ∙ ap (λ (n : ℕ). slices_from standing 0 n (drop size line)) b

-- any slices that the definition allows are those that are found
slices_from-only : (standing : Standing) (place : ℕ) (line : List ℕ) (slices : List Slice) → AreTokensFrom standing place line slices
    → slices ≡ slices_from standing 0 place line
slices_from-only _ _ _ _ (at_end standing place) = refl
slices_from-only _ _ _ _ (at_comment standing place character line dark comment) =
    let e : begins_comment standing (character ∷ line) ≡ true = begins_comment-from standing character line comment in
    sym (rw (dark, e) refl)
slices_from-only _ _ _ _ (behind_gap standing place character line slices gap rest) =
    slices_from-only standing (place + 1) line slices rest ∙ sym (rw gap refl)
slices_from-only _ _ _ _ (with_token standing place character line kind size slices dark none token rest) =
    ap (λ (all : List Slice). record { kind = kind; start = place; end = place + size } ∷ all)
    (slices_from-only (standing_behind (take size (character ∷ line))) (place + size) (drop size (character ∷ line)) slices rest
    ∙ sym (behind_token (standing_behind (take size (character ∷ line))) place character line size (IsToken-size (is_first standing) (character ∷ line) kind size token)))
    ∙ sym (front_slice standing place character line kind size dark (no_comment-from standing character line dark none) token)

pub slices_of-only : (line : List ℕ) (slices : List Slice) → AreTokensOf line slices → slices ≡ slices_of line
slices_of-only line slices are = slices_from-only First 0 line slices are

-- those that are found are such
slices_from-are : (most : ℕ) (standing : Standing) (place : ℕ) (line : List ℕ) → length line ≤ most → AreTokensFrom standing place line (slices_from standing 0 place line)
slices_from-are most standing place [] below = at_end standing place
slices_from-are zero standing place (character ∷ line) below = absurd (omega arith)
slices_from-are (suc most) standing place (character ∷ line) below =
    at (is_gap character) (begins_comment standing (character ∷ line)) refl refl
    (λ next place rest short. slices_from-are most next place rest short)
  where
    at : (gap comment : Bool) → is_gap character ≡ gap → begins_comment standing (character ∷ line) ≡ comment
        → ((next : Standing) (place : ℕ) (rest : List ℕ) → length rest ≤ most → AreTokensFrom next place rest (slices_from next 0 place rest))
        → AreTokensFrom standing place (character ∷ line)
        (if gap then slices_from standing 0 (place + 1) line
        else if comment then []
        else
        record {
          kind = (front_of (is_first standing) (character ∷ line)).kind;
          start = place;
          end = place + (front_of (is_first standing) (character ∷ line)).size;
        }
        ∷ slices_from (standing_behind (front_text standing (character ∷ line))) ((front_of (is_first standing) (character ∷ line)).size - 1) (place + 1) line)
    at true comment e f all = behind_gap standing place character line (slices_from standing 0 (place + 1) line) e (all standing (place + 1) line (omega arith))
    at false true e f all = at_comment standing place character line e (BeginsComment-from standing character line e f)
    at false false e f all = with_front (front_of (is_first standing) (character ∷ line)) (IsToken-front_of (is_first standing) character line e)
      where
        no_comment : BeginsComment standing (character ∷ line) → ⊥
        no_comment comment = both_ways _ f (begins_comment-from standing character line comment)

        with_front : (front : Front) → IsToken (is_first standing) (character ∷ line) front.kind front.size
            → AreTokensFrom standing place (character ∷ line)
            (record { kind = front.kind; start = place; end = place + front.size }
            ∷ slices_from (standing_behind (take front.size (character ∷ line))) (front.size - 1) (place + 1) line)
        with_front front token =
            let some : 1 ≤ front.size = IsToken-size (is_first standing) (character ∷ line) front.kind front.size token in
            let within : front.size ≤ suc (length line) = token.within in
            let same : slices_from (standing_behind (take front.size (character ∷ line))) (front.size - 1) (place + 1) line
            ≡ slices_from (standing_behind (take front.size (character ∷ line))) 0 (place + front.size) (drop front.size (character ∷ line)) =
            slices_from-skip (standing_behind (take front.size (character ∷ line))) (front.size - 1) (place + 1) line
            ∙ behind_token (standing_behind (take front.size (character ∷ line))) place character line front.size some in
            let short : length (drop front.size (character ∷ line)) ≤ most = omega (arith, length-drop front.size (character ∷ line)) in
            with_token standing place character line front.kind front.size _ e no_comment token
            (subst (λ (slices : List Slice). AreTokensFrom (standing_behind (take front.size (character ∷ line))) (place + front.size) (drop front.size (character ∷ line)) slices)
            (sym same)
            (all (standing_behind (take front.size (character ∷ line))) (place + front.size) (drop front.size (character ∷ line)) short))

pub slices_of-are : (line : List ℕ) → AreTokensOf line (slices_of line)
slices_of-are line = slices_from-are (length line) First 0 line (omega arith)
