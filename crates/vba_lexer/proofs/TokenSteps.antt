-- The tokens of a line, from a place on.
use Rattle.std.proofs.Common.{◌≡◌, ℕ, zero, suc, ◌+◌, ◌-◌, ◌<◌, ◌≤◌, Bool, true, false, List, [], ◌∷◌, ◌++◌, map, length, get_or, take, drop, refl, sym, ◌∙◌, ap, subst, arith, append_assoc, length-drop}
use Rattle.std.specs.Prelude.{◌≢◌, ◌==◌, ◌&&◌, codes, IsTrue}
use Rattle.std.proofs.lemmas.Bool.{both_ways, eq-eqb, ne_eqb}
use Rattle.std.proofs.lemmas.List.{drop_all, drop_more, drop-drop, append-nil}
use Rattle.std.proofs.Math.Seq.{take-add}
use Rattle.vba_lexer.specs.declared.token.TokenKind.{TokenKind}
use Rattle.vba_lexer.specs.declared.token.Token.{Token}
use Rattle.vba_lexer.specs.declared.cursor.Cursor.{Cursor}
use Rattle.vba_lexer.specs.declared.scan.Standing.{Standing}
use Rattle.vba_lexer.specs.declared.scan.Standing.TheVariants.{First}
use Rattle.vba_lexer.specs.Characters.{past, HasRoom}
use Rattle.vba_lexer.specs.Kinds.{is_gap}
use Rattle.vba_lexer.specs.Tokens.{IsToken, Front, front_of, is_first, opens, is_the_word, begins_comment, standing_behind, Slice, slices_from}
use Rattle.vba_lexer.specs.Scans.{begins_with}
use Rattle.vba_lexer.specs.Lexed.{token_between, token_of, tokens_of}
use Rattle.vba_lexer.proofs.Fronts.{front_of-IsToken, IsToken-size}
use Rattle.vba_lexer.proofs.CharacterLemmas.{past-append, room-drop}

-- characters that belong to the token before are passed over
pub slices_from-skip : (standing : Standing) (skipped place : ℕ) (line : List ℕ)
    → slices_from standing skipped place line ≡ slices_from standing 0 (place + skipped) (drop skipped line)
slices_from-skip standing zero place line = let e : place + 0 ≡ place = omega arith in rw e
slices_from-skip standing (suc skipped) place [] = refl
slices_from-skip standing (suc skipped) place (character ∷ line) =
    let e : place + 1 + skipped ≡ place + suc skipped = omega arith in
    slices_from-skip standing skipped (place + 1) line ∙ ap (λ (m : ℕ). slices_from standing 0 m (drop skipped line)) e

pub front_slice : (standing : Standing) (place character : ℕ) (rest : List ℕ) (kind : TokenKind) (size : ℕ) → is_gap character ≡ false
    → begins_comment standing (character ∷ rest) ≡ false → IsToken (is_first standing) (character ∷ rest) kind size
    → slices_from standing 0 place (character ∷ rest)
    ≡ record { kind = kind; start = place; end = place + size }
    ∷ slices_from (standing_behind (take size (character ∷ rest))) 0 (place + 1 + (size - 1)) (drop (size - 1) rest)
front_slice standing place character rest kind size dark no_comment token =
    let front : front_of (is_first standing) (character ∷ rest) ≡ record { kind = kind; size = size } =
    front_of-IsToken (is_first standing) (character ∷ rest) kind size token in
    rw (dark, no_comment)
    (ap (λ (f : Front). record { kind = f.kind; start = place; end = place + f.size }
    ∷ slices_from (standing_behind (take f.size (character ∷ rest))) (f.size - 1) (place + 1) rest) front
    ∙ ap (λ (slices : List Slice). record { kind = kind; start = place; end = place + size } ∷ slices)
    (slices_from-skip (standing_behind (take size (character ∷ rest))) (size - 1) (place + 1) rest))

-- a token, and those behind it
pub slices_from-token : (standing : Standing) (place : ℕ) (line : List ℕ) (kind : TokenKind) (size : ℕ) → place < length line → is_gap (get_or line place 0) ≡ false
    → begins_comment standing (drop place line) ≡ false → IsToken (is_first standing) (drop place line) kind size
    → slices_from standing 0 place (drop place line)
    ≡ record { kind = kind; start = place; end = place + size }
    ∷ slices_from (standing_behind (take size (drop place line))) 0 (place + size) (drop (place + size) line)
slices_from-token standing place line kind size inside dark no_comment token =
    let front : drop place line ≡ get_or line place 0 ∷ drop (place + 1) line = drop_more line place 0 inside in
    let token' : IsToken (is_first standing) (get_or line place 0 ∷ drop (place + 1) line) kind size =
    subst (λ (rest : List ℕ). IsToken (is_first standing) rest kind size) front token in
    let no_comment' : begins_comment standing (get_or line place 0 ∷ drop (place + 1) line) ≡ false =
    subst (λ (rest : List ℕ). begins_comment standing rest ≡ false) front no_comment in
    let some : 1 ≤ size = IsToken-size (is_first standing) (drop place line) kind size token in
    let e : place + 1 + (size - 1) ≡ place + size = omega arith in
    ap (λ (rest : List ℕ). slices_from standing 0 place rest) front
    ∙ front_slice standing place (get_or line place 0) (drop (place + 1) line) kind size dark no_comment' token'
    ∙ ap (λ (rest : List ℕ). record { kind = kind; start = place; end = place + size }
    ∷ slices_from (standing_behind (take size rest)) 0 (place + 1 + (size - 1)) (drop (size - 1) (drop (place + 1) line))) (sym front)
    ∙ ap (λ (rest : List ℕ). record { kind = kind; start = place; end = place + size }
    ∷ slices_from (standing_behind (take size (drop place line))) 0 (place + 1 + (size - 1)) rest) (drop-drop (size - 1) (place + 1) line)
    ∙ ap (λ (m : ℕ). record { kind = kind; start = place; end = place + size }
    ∷ slices_from (standing_behind (take size (drop place line))) 0 m (drop m line)) e

-- a gap
pub slices_from-gap : (standing : Standing) (place : ℕ) (line : List ℕ) → place < length line → is_gap (get_or line place 0) ≡ true
    → slices_from standing 0 place (drop place line) ≡ slices_from standing 0 (place + 1) (drop (place + 1) line)
slices_from-gap standing place line inside gap =
    ap (λ (rest : List ℕ). slices_from standing 0 place rest) (drop_more line place 0 inside) ∙ (rw gap)

-- a comment
pub slices_from-comment : (standing : Standing) (place : ℕ) (line : List ℕ) → place < length line → is_gap (get_or line place 0) ≡ false
    → begins_comment standing (drop place line) ≡ true → slices_from standing 0 place (drop place line) ≡ []
slices_from-comment standing place line inside dark comment =
    let front : drop place line ≡ get_or line place 0 ∷ drop (place + 1) line = drop_more line place 0 inside in
    let comment' : begins_comment standing (get_or line place 0 ∷ drop (place + 1) line) ≡ true =
    subst (λ (rest : List ℕ). begins_comment standing rest ≡ true) front comment in
    ap (λ (rest : List ℕ). slices_from standing 0 place rest) front ∙ (rw (dark, comment'))

-- the tokens so far and those from a place on are those of the line; the cursor stands at the place
pub record GoesOn (module_number : ℕ) (first : Cursor) (line : List ℕ) (tokens : List Token) (standing : Standing) (cursor : Cursor) (place : ℕ) : Type 0 where
  pub within : place ≤ length line
  pub stands : cursor ≡ past first (take place line)
  pub room : HasRoom cursor (drop place line)
  pub tokens_go_on : tokens ++ map (token_of module_number first line) (slices_from standing 0 place (drop place line)) ≡ tokens_of module_number first line

past-more : (first : Cursor) (line : List ℕ) (place size : ℕ) → past (past first (take place line)) (take size (drop place line)) ≡ past first (take (place + size) line)
past-more first line place size =
    sym (past-append first (take place line) (take size (drop place line))) ∙ ap (past first) (sym (take-add place size line))

pub goes_on-none : (module_number : ℕ) (first : Cursor) (line : List ℕ) → HasRoom first line → GoesOn module_number first line [] First first 0
goes_on-none module_number first line room = record { within = omega arith; stands = refl; room = room; tokens_go_on = refl }

-- past more characters of the line
moved : (first : Cursor) (line : List ℕ) (cursor next : Cursor) (place size : ℕ) → cursor ≡ past first (take place line) → next ≡ past cursor (take size (drop place line))
    → next ≡ past first (take (place + size) line)
moved first line cursor next place size stands goes =
    goes ∙ ap (λ (c : Cursor). past c (take size (drop place line))) stands ∙ past-more first line place size

moved_room : (line : List ℕ) (cursor next : Cursor) (place size : ℕ) → HasRoom cursor (drop place line) → next ≡ past cursor (take size (drop place line))
    → HasRoom next (drop (place + size) line)
moved_room line cursor next place size room goes =
    let r : HasRoom (past cursor (take size (drop place line))) (drop size (drop place line)) = room-drop cursor size (drop place line) room in
    subst (λ (c : Cursor). HasRoom c (drop (place + size) line)) (sym goes)
    (subst (λ (rest : List ℕ). HasRoom (past cursor (take size (drop place line))) rest) (drop-drop size place line) r)

pub goes_on-gap : (module_number : ℕ) (first : Cursor) (line : List ℕ) (tokens : List Token) (standing : Standing) (cursor next : Cursor) (place : ℕ)
    → GoesOn module_number first line tokens standing cursor place → place < length line → is_gap (get_or line place 0) ≡ true
    → next ≡ past cursor (take 1 (drop place line))
    → GoesOn module_number first line tokens standing next (place + 1)
goes_on-gap module_number first line tokens standing cursor next place so_far inside gap goes =
    record {
      within = omega arith;
      stands = moved first line cursor next place 1 so_far.stands goes;
      room = moved_room line cursor next place 1 so_far.room goes;
      tokens_go_on = rw (slices_from-gap standing place line inside gap) at so_far.tokens_go_on;
    }

pub goes_on-comment : (module_number : ℕ) (first : Cursor) (line : List ℕ) (tokens : List Token) (standing : Standing) (cursor : Cursor) (place : ℕ)
    → GoesOn module_number first line tokens standing cursor place → place < length line → is_gap (get_or line place 0) ≡ false
    → begins_comment standing (drop place line) ≡ true → tokens ≡ tokens_of module_number first line
goes_on-comment module_number first line tokens standing cursor place so_far inside dark comment =
    let none : slices_from standing 0 place (drop place line) ≡ [] = slices_from-comment standing place line inside dark comment in
    sym (append-nil tokens) ∙ (rw none at so_far.tokens_go_on)

pub goes_on-end : (module_number : ℕ) (first : Cursor) (line : List ℕ) (tokens : List Token) (standing : Standing) (cursor : Cursor) (place : ℕ)
    → GoesOn module_number first line tokens standing cursor place → length line ≤ place → tokens ≡ tokens_of module_number first line
goes_on-end module_number first line tokens standing cursor place so_far past_end =
    let none : drop place line ≡ [] = drop_all place line past_end in
    sym (append-nil tokens) ∙ (rw none at so_far.tokens_go_on)

pub goes_on-token : (module_number : ℕ) (first : Cursor) (line : List ℕ) (tokens longer : List Token) (standing : Standing) (cursor next : Cursor) (place size : ℕ)
    (kind : TokenKind) → GoesOn module_number first line tokens standing cursor place → place < length line → is_gap (get_or line place 0) ≡ false
    → begins_comment standing (drop place line) ≡ false → IsToken (is_first standing) (drop place line) kind size
    → next ≡ past cursor (take size (drop place line)) → longer ≡ tokens ++ token_between module_number kind cursor next ∷ []
    → GoesOn module_number first line longer (standing_behind (take size (drop place line))) next (place + size)
goes_on-token module_number first line tokens longer standing cursor next place size kind so_far inside dark no_comment token goes more =
    record {
      within = let w : size ≤ length (drop place line) = token.within in omega (arith, length-drop place line);
      stands = stands;
      room = moved_room line cursor next place size so_far.room goes;
      tokens_go_on =
          ap (λ (all : List Token). all ++ map (token_of module_number first line)
          (slices_from (standing_behind (take size (drop place line))) 0 (place + size) (drop (place + size) line))) (more ∙ ap (λ (t : Token). tokens ++ t ∷ []) same)
          ∙ append_assoc tokens (token_of module_number first line (record { kind = kind; start = place; end = place + size }) ∷ [])
          (map (token_of module_number first line)
          (slices_from (standing_behind (take size (drop place line))) 0 (place + size) (drop (place + size) line)))
          ∙ (rw (slices_from-token standing place line kind size inside dark no_comment token) at so_far.tokens_go_on);
    }
  where
    stands : next ≡ past first (take (place + size) line)
    stands = moved first line cursor next place size so_far.stands goes

    same : token_between module_number kind cursor next ≡ token_of module_number first line (record { kind = kind; start = place; end = place + size })
    same = ap (λ (c : Cursor). token_between module_number kind c next) so_far.stands
        ∙ ap (λ (c : Cursor). token_between module_number kind (past first (take place line)) c) stands

-- a comment begins with `'`
pub begins_comment-quote : (standing : Standing) (line : List ℕ) → 0 < length line → get_or line 0 0 ≡ 39 → begins_comment standing line ≡ true
begins_comment-quote standing [] some quote = absurd (omega arith)
begins_comment-quote standing (character ∷ line) some quote =
    let e : (character == 39) ≡ true = eq-eqb character 39 quote in rw e

-- and else with the word Rem where it opens one
pub begins_comment-word : (standing : Standing) (line : List ℕ) (kind : TokenKind) (size : ℕ) (word : Bool) → 0 < length line → get_or line 0 0 ≢ 39
    → IsToken (is_first standing) line kind size → word ≡ (opens standing && is_the_word (codes "rem") (take size line))
    → begins_comment standing line ≡ word
begins_comment-word standing [] kind size word some other token same = absurd (omega arith)
begins_comment-word standing (character ∷ line) kind size word some other token same =
    let e : (character == 39) ≡ false = ne_eqb character 39 other in
    let front : front_of (is_first standing) (character ∷ line) ≡ record { kind = kind; size = size } =
    front_of-IsToken (is_first standing) (character ∷ line) kind size token in
    (rw e) ∙ ap (λ (f : Front). opens standing && is_the_word (codes "rem") (take f.size (character ∷ line))) front ∙ sym same

-- a line that begins with something has a character
pub some_there : (test : ℕ → Bool) (line : List ℕ) → IsTrue (begins_with test line) → 0 < length line
some_there test [] begins = absurd (both_ways _ refl begins)
some_there test (character ∷ line) begins = omega arith
