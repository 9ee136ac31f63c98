-- The array of a ReDim, sought from the last bracket on.
use Rattle.std.proofs.Common.{◌≡◌, ℕ, zero, suc, ◌-◌, ◌<◌, ◌≤◌, Bool, true, false, List, [], ◌∷◌, ◌++◌, length, take, drop, Option, Some, None, refl, sym, ap, ◌∙◌, append_assoc, append-nil, take-append-drop, arith}
use Rattle.std.specs.Prelude.{if◌then◌else◌}
use Rattle.std.proofs.lemmas.List.{drop_all}
use Rattle.vba_lexer.specs.declared.token.Token.{Token}
use Rattle.vba_words.specs.declared.reading.ReadToken.{ReadToken}
use Rattle.vba_expression.specs.Tree.{Expr}
use Rattle.vba_tree.specs.Tree as tree
use Rattle.vba_tree.specs.Tree.{ReDimArray}
use Rattle.vba_grammar.specs.Front.{Found, ◌>>=◌, or_else, is_as, is_left, is_right, token_at, part_if, place_at, commas_at}
use Rattle.vba_grammar.specs.Clauses.{dim_at, type_clause_at, item_ends}
use Rattle.vba_grammar.specs.Statements.{array_here, last_array, array_at}
use Rattle.vba_statements.specs.Arrays.{Bounds, bounds_at, only_place, with_bounds, array_from}

-- the tokens up to an index, and from it on
record Cut (k : ℕ) (ts : List ReadToken) : Type 0 where
  t : ReadToken
  dropped : drop k ts ≡ t ∷ drop (suc k) ts
  taken : take (suc k) ts ≡ take k ts ++ t ∷ []

cut : (k : ℕ) (ts : List ReadToken) → k < length ts → Cut k ts
cut k [] h = absurd (omega arith)
cut zero (t ∷ ts) h = record { t = t; dropped = refl; taken = refl }
cut (suc k) (t ∷ ts) h =
    let c = cut k ts (omega arith) in record { t = c.t; dropped = c.dropped; taken = ap (λ us. t ∷ us) c.taken }

chosen : (b : Bool) (before : List ReadToken) (token : Token) (ts : List ReadToken)
    → (if b then array_here before token ts else None) ≡ ((if b then Some (token, ts) else None) >>= array_here before)
chosen true before token ts = refl
chosen false before token ts = refl

-- no array from the later brackets on: what is found from this token on
one_back : (before : List ReadToken) (t : ReadToken) (ts : List ReadToken) → last_array (before ++ t ∷ []) ts ≡ None
    → last_array before (t ∷ ts) ≡ array_from before (t ∷ ts)
one_back before t ts h =
    ap (λ o. or_else o (if is_left t.reading then array_here before t.token ts else None)) h ∙ chosen (is_left t.reading) before t.token ts

-- what is found from later tokens on is what is found
forward : (before mid ts : List ReadToken) (found : ReDimArray × List ReadToken) → last_array (before ++ mid) ts ≡ Some found
    → last_array before (mid ++ ts) ≡ Some found
forward before [] ts found h = ap (λ us. last_array us ts) (sym (append-nil before)) ∙ h
forward before (m ∷ mid) ts found h =
    let more = forward (before ++ m ∷ []) mid ts found (ap (λ us. last_array us ts) (append_assoc before (m ∷ []) mid) ∙ h) in
    ap (λ o. or_else o (if is_left m.reading then array_here before m.token (mid ++ ts) else None)) more

-- no array is found from this index on
pub record NoneFrom (ts : List ReadToken) (n : ℕ) : Type 0 where
  pub within : n ≤ length ts
  pub none : last_array (take n ts) (drop n ts) ≡ None

pub no_array_behind : (ts : List ReadToken) → NoneFrom ts (length ts)
no_array_behind ts =
    record {
      within = omega arith;
      none = ap (λ us. last_array (take (length ts) ts) us) (drop_all (length ts) ts (omega arith));
    }

-- what is found from the index before on
from_before : (ts : List ReadToken) (k : ℕ) → k < length ts → last_array (take (suc k) ts) (drop (suc k) ts) ≡ None
    → last_array (take k ts) (drop k ts) ≡ array_from (take k ts) (drop k ts)
from_before ts k h none =
    let c = cut k ts h in
    ap (last_array (take k ts)) c.dropped
    ∙ one_back (take k ts) c.t (drop (suc k) ts) (ap (λ us. last_array us (drop (suc k) ts)) (sym c.taken) ∙ none)
    ∙ ap (array_from (take k ts)) (sym c.dropped)

before_is : (ts : List ReadToken) (n : ℕ) → 0 < n → NoneFrom ts n
    → last_array (take (n - 1) ts) (drop (n - 1) ts) ≡ array_from (take (n - 1) ts) (drop (n - 1) ts)
before_is ts n h from =
    let e : suc (n - 1) ≡ n = omega arith in
    let within : n ≤ length ts = from.within in
    from_before ts (n - 1) (omega arith) (ap (λ k. last_array (take k ts) (drop k ts)) e ∙ from.none)

-- no array from the index before on either
pub no_array_back : (ts : List ReadToken) (n : ℕ) → 0 < n → NoneFrom ts n → None ≡ array_from (take (n - 1) ts) (drop (n - 1) ts) → NoneFrom ts (n - 1)
no_array_back ts n h from none =
    let within : n ≤ length ts = from.within in
    record { within = omega arith; none = before_is ts n h from ∙ sym none }

-- an array from the index before on
pub array_found : (ts : List ReadToken) (n : ℕ) (found : ReDimArray × List ReadToken) → 0 < n → NoneFrom ts n
    → Some found ≡ array_from (take (n - 1) ts) (drop (n - 1) ts) → Some found ≡ array_at ts
array_found ts n found h from e =
    let here = before_is ts n h from ∙ sym e in
    sym (ap (last_array []) (sym (take-append-drop (n - 1) ts)) ∙ forward [] (take (n - 1) ts) (drop (n - 1) ts) found here)

-- no array from the front on
pub no_array : (ts : List ReadToken) → NoneFrom ts 0 → None ≡ array_at ts
no_array ts from = sym from.none

abbrev array_of : Token → Expr → tree.Listed tree.Dim → Token → Option tree.TypeClause → tree.ReDimArray
array_of left place dims right clause = record { place = place; left = left; dims = dims; right = right; type_clause = clause }

-- an array by its bounds and its place
module _ (left : Token) (p : Expr) where
  ends_by : (dims : tree.Listed tree.Dim) (right : Token) (clause : Option tree.TypeClause) (rest : List ReadToken) (b : Bool)
      → (if b then Some (array_of left p dims right clause, rest) else None)
      ≡ with_bounds left (if b then Some ((dims, right, clause), rest) else None) (Some p)
  ends_by dims right clause rest true = refl
  ends_by dims right clause rest false = refl

  clause_by : (dims : tree.Listed tree.Dim) (right : Token) (o : Found (Option tree.TypeClause))
      → (o >>= λ clause rest. if item_ends rest then Some (array_of left p dims right clause, rest) else None)
      ≡ with_bounds left (o >>= λ clause rest. if item_ends rest then Some ((dims, right, clause), rest) else None) (Some p)
  clause_by dims right None = refl
  clause_by dims right (Some found) = ends_by dims right found.0 found.1 (item_ends found.1)

  right_by : (dims : tree.Listed tree.Dim) (o : Found Token)
      → (o >>= λ right rest2. part_if is_as type_clause_at rest2 >>= λ clause rest3.
      if item_ends rest3 then Some (array_of left p dims right clause, rest3) else None)
      ≡ with_bounds left (o >>= λ right rest2. part_if is_as type_clause_at rest2 >>= λ clause rest3.
      if item_ends rest3 then Some ((dims, right, clause), rest3) else None) (Some p)
  right_by dims None = refl
  right_by dims (Some found) = clause_by dims found.0 (part_if is_as type_clause_at found.1)

  dims_by : (o : Found (tree.Listed tree.Dim))
      → (o >>= λ dims rest. token_at is_right rest >>= λ right rest2. part_if is_as type_clause_at rest2 >>= λ clause rest3.
      if item_ends rest3 then Some (array_of left p dims right clause, rest3) else None)
      ≡ with_bounds left (o >>= λ dims rest. token_at is_right rest >>= λ right rest2. part_if is_as type_clause_at rest2 >>= λ clause rest3.
      if item_ends rest3 then Some ((dims, right, clause), rest3) else None) (Some p)
  dims_by None = refl
  dims_by (Some found) = right_by found.0 (token_at is_right found.1)

without_place : (left : Token) (o : Found Bounds) → None ≡ with_bounds left o None
without_place left None = refl
without_place left (Some found) = refl

pub by_bounds : (before : List ReadToken) (left : Token) (ts : List ReadToken)
    → array_here before left ts ≡ with_bounds left (bounds_at ts) (only_place (place_at before))
by_bounds before left ts = at (place_at before) refl
  where
    at : (o : Found Expr) → place_at before ≡ o → array_here before left ts ≡ with_bounds left (bounds_at ts) (only_place (place_at before))
    at None h = rw h (without_place left (bounds_at ts))
    at (Some (p, [])) h = rw h (dims_by left p (commas_at dim_at ts))
    at (Some (p, t ∷ rest)) h = rw h (without_place left (bounds_at ts))
