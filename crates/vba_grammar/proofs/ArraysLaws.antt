-- The laws of reading ReDim: the place of an array ends before the last bracket that allows it.
use Rattle.std.proofs.Common.{◌≡◌, ℕ, suc, length, Bool, true, false, List, [], ◌∷◌, ◌++◌, Option, Some, None, refl, sym, ap, ◌∙◌, subst, arith, append_assoc, ◌⊎◌, inl, inr}
use Rattle.std.specs.Prelude.{if◌then◌else◌, codes, ◌||◌}
use Rattle.std.proofs.lemmas.Bool.{cond_both}
use Rattle.std.proofs.lemmas.List.{append-nil}
use Rattle.vba_lexer.specs.declared.token.Token.{Token}
use Rattle.vba_words.specs.declared.keyword.Keyword.TheVariants as keyword
use Rattle.vba_words.specs.declared.mark.Mark.TheVariants as mark
use Rattle.vba_words.specs.declared.reading.Reading.{Reading}
use Rattle.vba_words.specs.declared.reading.Reading.TheVariants as reading
use Rattle.vba_words.specs.declared.reading.ReadToken.{ReadToken}
use Rattle.vba_words.specs.Spelling.{read, word, marked, naming}
use Rattle.vba_expression.specs.Tree.{Expr, me, name, with_member, member, index}
use Rattle.vba_expression.specs.Fitting.{is_place}
use Rattle.vba_expression.specs.Spelling.{spell, spell_args}
use Rattle.vba_expression.specs.Parts.{part_of}
use Rattle.vba_expression.specs.Taking.{Stops}
use Rattle.vba_tree.specs.Tree.{Listed, Dim, upper, TypeClause, ReDimArray, Simple, re_dim}
use Rattle.vba_tree.specs.Spelling.{optional, place_word, with_commas, spell_others, spell_dim, spell_type_clause, spell_array, spell_preserve}
use Rattle.vba_tree.specs.Forms.{IsPlace, Each, FormedArray}
use Rattle.vba_grammar.specs.Front.{Found, ◌>>=◌, or_else, found_as, is_as, is_left, is_right, is_comma, begins, token_at, reads, place_at, part_if, others_at, commas_at}
use Rattle.vba_grammar.specs.Clauses.{dim_at, type_clause_at, item_ends}
use Rattle.vba_grammar.specs.Statements.{array_here, last_array, array_at, re_dim_at, kept_at}
use Rattle.vba_grammar.specs.Laws.{IsComplete, Ends}
use Rattle.vba_grammar.proofs.Binding.{Told, Spelled, nothing_told, some_told, weaker_told, then_told, as_told, cond_told, else_told, then_is, as_is, if_is, ending_is}
use Rattle.vba_grammar.proofs.Fronts.{means_left, means_right, means_reads, token_told, IsAtPlace, place_told, place_is, part_told, part_is, commas_told, commas_is, ends_not}
use Rattle.vba_grammar.proofs.ClausesLaws.{dims_in_told, dims_in_is, type_clause_told, type_clause_is}
use Rattle.vba_grammar.proofs.Scans.{moved, scan, passes, passes_all, begins_pass, opened, Halts, halts, splits}
use Rattle.vba_grammar.proofs.BlocksLaws.{KeptTold, IsFound}

-- the bounds behind a place
abbrev with_bounds : Token → List ReadToken → Expr → Found ReDimArray
with_bounds left ts place =
    commas_at dim_at ts >>= λ dims rest. token_at is_right rest >>= λ right rest2. part_if is_as type_clause_at rest2 >>= λ clause rest3.
    if item_ends rest3 then Some (record { place = place; left = left; dims = dims; right = right; type_clause = clause }, rest3) else None

abbrev placed : (Expr → Found ReDimArray) → Found Expr → Found ReDimArray
placed go None = None
placed go (Some (place, [])) = go place
placed go (Some (place, t ∷ rest)) = None

bounds_told : (left : Token) (ts : List ReadToken) (place : Expr) → IsPlace place
    → Told (λ a rest. (spell place ++ marked left mark.LeftParenthesis ∷ ts ≡ spell_array a ++ rest) × FormedArray a × (item_ends rest ≡ true)) (with_bounds left ts place)
bounds_told left ts place good =
    then_told (dims_in_told ts) (λ dims rest p. then_told (token_told rest means_right) (λ right rest2 q.
    then_told (part_told is_as type_clause_at rest2 (type_clause_told rest2)) (λ clause rest3 r. cond_told (item_ends rest3) _ _
    (λ e. some_told (
      ap (λ us. spell place ++ marked left mark.LeftParenthesis ∷ us)
          (p.0 ∙ ap (λ us. with_commas spell_dim dims ++ us) (q ∙ ap (λ us. marked right mark.RightParenthesis ∷ us) r.0)
          ∙ sym (append_assoc (with_commas spell_dim dims) (marked right mark.RightParenthesis ∷ optional spell_type_clause clause) rest3))
          ∙ sym (append_assoc (spell place) (marked left mark.LeftParenthesis ∷ (with_commas spell_dim dims ++ marked right mark.RightParenthesis ∷ optional spell_type_clause clause)) rest3),
      (good, p.1, r.1),
      e,
    ))
    (λ e. nothing_told))))

here_told : (before : List ReadToken) (left : Token) (ts : List ReadToken) (o : Found Expr) → Told (λ e rest. IsAtPlace before e rest) o
    → Told (λ a rest. (before ++ marked left mark.LeftParenthesis ∷ ts ≡ spell_array a ++ rest) × FormedArray a × (item_ends rest ≡ true))
    (placed (with_bounds left ts) o)
here_told before left ts None t = nothing_told
here_told before left ts (Some (place, [])) t =
    let p = t.at place [] refl in
    weaker_told (bounds_told left ts place p.place) (λ a rest q. (
      ap (λ us. us ++ marked left mark.LeftParenthesis ∷ ts) (p.same ∙ append-nil (spell place)) ∙ q.0,
      q.1,
      q.2,
    ))
here_told before left ts (Some (place, u ∷ us)) t = nothing_told

last_told : (before ts : List ReadToken) → Told (λ a rest. (before ++ ts ≡ spell_array a ++ rest) × FormedArray a × (item_ends rest ≡ true)) (last_array before ts)
last_told before [] = nothing_told
last_told before (t ∷ ts) = else_told
    (weaker_told (last_told (before ++ t ∷ []) ts) (λ a rest p. (sym (append_assoc before (t ∷ []) ts) ∙ p.0, p.1, p.2)))
    (cond_told (is_left t.reading) _ _
    (λ e. weaker_told (here_told before t.token ts (place_at before) (place_told before)) (λ a rest p. (
      ap (λ r. before ++ read t.token r ∷ ts) (means_left t.reading e) ∙ p.0,
      p.1,
      p.2,
    )))
    (λ e. nothing_told))

pub array_told : (ts : List ReadToken) → Spelled spell_array FormedArray ts (array_at ts)
array_told ts = weaker_told (last_told [] ts) (λ a rest p. (p.0, p.1))

arrays_told : (token : Token) (preserve : Option Token) (ts : List ReadToken)
    → KeptTold (word token keyword.ReDim ∷ (spell_preserve preserve ++ ts)) (found_as (re_dim token preserve) (commas_at array_at ts))
arrays_told token preserve ts = as_told (re_dim token preserve) (commas_told spell_array array_at array_told ts) (λ arrays rest p. (
  ap (λ us. word token keyword.ReDim ∷ (spell_preserve preserve ++ us)) p.0
      ∙ ap (λ us. word token keyword.ReDim ∷ us) (sym (append_assoc (spell_preserve preserve) (with_commas spell_array arrays) rest)),
  record { formed = p.1; chosen = tt; no_if = refl },
))

abbrev re_dim_by : Token → List ReadToken → Option Token × List ReadToken → Found Simple
re_dim_by token ts (None, rest) = found_as (re_dim token None) (commas_at array_at rest)
re_dim_by token ts (Some preserve, rest) = or_else (found_as (re_dim token (Some preserve)) (commas_at array_at rest)) (found_as (re_dim token None) (commas_at array_at ts))

pub re_dim_told : (token : Token) (ts : List ReadToken) → KeptTold (word token keyword.ReDim ∷ ts) (kept_at token keyword.ReDim ts)
re_dim_told token [] = arrays_told token None []
re_dim_told token (t ∷ ts) =
    cond_both {A = Option Token × List ReadToken} (reads (codes "preserve") t.reading) (Some t.token, ts) (None, t ∷ ts)
    (λ p. KeptTold (word token keyword.ReDim ∷ t ∷ ts) (re_dim_by token (t ∷ ts) p))
    (λ e. else_told
    (weaker_told (arrays_told token (Some t.token) ts) (λ s rest p. (
      ap (λ r. word token keyword.ReDim ∷ read t.token r ∷ ts) (means_reads (codes "preserve") t.reading e) ∙ p.0,
      p.1,
    )))
    (arrays_told token None (t ∷ ts)))
    (λ e. arrays_told token None (t ∷ ts))

-- no place is spelled so
abbrev pub NoPlace : List ReadToken → Type 0
NoPlace us = (place : Expr) → IsPlace place → us ≡ spell place → ⊥

none_here : (before : List ReadToken) (go : Expr → Found ReDimArray) (o : Found Expr) → NoPlace before → Told (λ e rest. IsAtPlace before e rest) o → placed go o ≡ None
none_here before go None never t = refl
none_here before go (Some (place, [])) never t = let p = t.at place [] refl in absurd (never place p.place (p.same ∙ append-nil (spell place)))
none_here before go (Some (place, u ∷ us)) never t = refl

-- before none of the brackets a place ends
pub no_last : (before ts : List ReadToken)
    → ((xs : List ReadToken) (left : Token) (ys : List ReadToken) → ts ≡ xs ++ marked left mark.LeftParenthesis ∷ ys → NoPlace (before ++ xs)) → last_array before ts ≡ None
no_last before [] never = refl
no_last before (t ∷ ts) never =
    ap (λ o. or_else o (if is_left t.reading then array_here before t.token ts else None))
    (no_last (before ++ t ∷ []) ts (λ xs left ys h place good same.
    never (t ∷ xs) left ys (ap (λ us. t ∷ us) h) place good (sym (append_assoc before (t ∷ []) xs) ∙ same)))
    ∙ cond_both (is_left t.reading) (array_here before t.token ts) None (λ o. o ≡ None)
    (λ e. none_here before (with_bounds t.token ts) (place_at before)
    (λ place good same. never [] t.token ts (ap (λ r. read t.token r ∷ ts) (means_left t.reading e)) place good (append-nil before ∙ same)) (place_told before))
    (λ e. refl)

-- what is found behind more tokens is found
last_on : (xs before ys : List ReadToken) (r : ReDimArray × List ReadToken) → last_array (before ++ xs) ys ≡ Some r → last_array before (xs ++ ys) ≡ Some r
last_on [] before ys r h = ap (λ us. last_array us ys) (sym (append-nil before)) ∙ h
last_on (t ∷ xs) before ys r h =
    ap (λ o. or_else o (if is_left t.reading then array_here before t.token (xs ++ ys) else None))
    (last_on xs (before ++ t ∷ []) ys r (ap (λ us. last_array us ys) (append_assoc before (t ∷ []) xs) ∙ h))

-- bounds are passed
module _ (s : Bool) (n : ℕ) (outside : (token : Token) (ts : List ReadToken) → scan s n (word token keyword.To ∷ ts) ≡ scan s n ts)
    (comma : (token : Token) (ts : List ReadToken) → scan s n (marked token mark.Comma ∷ ts) ≡ scan s n ts) where
  dim_pass : (d : Dim) (ts : List ReadToken) → scan s n (spell_dim d ++ ts) ≡ scan s n ts
  dim_pass (upper e) ts = passes s n e ts
  dim_pass (Dim.range low to_word high) ts =
      ap (scan s n) (append_assoc (spell low) (word to_word keyword.To ∷ spell high) ts)
      ∙ (passes s n low _ ∙ (outside to_word (spell high ++ ts) ∙ passes s n high ts))

  others_pass : (others : List (Token × Dim)) (ts : List ReadToken) → scan s n (spell_others spell_dim mark.Comma others ++ ts) ≡ scan s n ts
  others_pass [] ts = refl
  others_pass (other ∷ others) ts =
      comma other.0 ((spell_dim other.1 ++ spell_others spell_dim mark.Comma others) ++ ts) ∙ (ap (scan s n) (append_assoc (spell_dim other.1) (spell_others spell_dim mark.Comma others) ts)
      ∙ (dim_pass other.1 _ ∙ others_pass others ts))

  dims_pass : (l : Listed Dim) (ts : List ReadToken) → scan s n (with_commas spell_dim l ++ ts) ≡ scan s n ts
  dims_pass l ts = ap (scan s n) (append_assoc (spell_dim l.first) (spell_others spell_dim mark.Comma l.others) ts) ∙ (dim_pass l.first _ ∙ others_pass l.others ts)

-- no place ends within the bounds
no_place_in : (place : Expr) (left : Token) (l : Listed Dim) (xs zs : List ReadToken) → with_commas spell_dim l ≡ xs ++ zs
    → NoPlace (spell place ++ marked left mark.LeftParenthesis ∷ xs)
no_place_in place left l xs zs h place2 good same =
    let whole : scan false 0 (xs ++ zs) ≡ (0, []) =
    ap (scan false 0) (sym h ∙ sym (append-nil (with_commas spell_dim l))) ∙ dims_pass false 0 (λ t us. refl) (λ t us. refl) l [] in
    let part = begins_pass 0 0 xs zs whole in
    let one : scan false 0 (spell place ++ marked left mark.LeftParenthesis ∷ xs) ≡ (suc part.0, []) =
    passes false 0 place (marked left mark.LeftParenthesis ∷ xs) ∙ opened 0 part.0 xs part.1 in
    let two : scan false 0 (spell place ++ marked left mark.LeftParenthesis ∷ xs) ≡ (0, []) = ap (scan false 0) same ∙ passes_all false 0 place2 in
    let e : suc part.0 ≡ 0 = ap (λ p. p.0) (sym one ∙ two) in
    absurd (omega arith)

-- no place goes on behind the bounds
no_place_behind : (place : Expr) (left right : Token) (l : Listed Dim) (t : ReadToken) (ts : List ReadToken) → Halts (t ∷ ts)
    → NoPlace (spell place ++ marked left mark.LeftParenthesis ∷ (with_commas spell_dim l ++ marked right mark.RightParenthesis ∷ t ∷ ts))
no_place_behind place left right l t ts h place2 good same =
    let one = passes true 0 place (marked left mark.LeftParenthesis ∷ (with_commas spell_dim l ++ marked right mark.RightParenthesis ∷ t ∷ ts))
    ∙ dims_pass true 1 (λ t us. refl) (λ t us. refl) l (marked right mark.RightParenthesis ∷ t ∷ ts) ∙ halts (t ∷ ts) h in
    let two = ap (scan true 0) same ∙ passes_all true 0 place2 in
    let e : t ∷ ts ≡ [] = ap (λ p. p.1) (sym one ∙ two) in
    absurd cc

-- a list goes on, or ends
pub item_halts : (ts : List ReadToken) → item_ends ts ≡ true → Halts ts
item_halts [] h = tt
item_halts (t ∷ ts) h = at t.token t.reading h
  where
    at : (token : Token) (r : Reading) → item_ends (read token r ∷ ts) ≡ true → Halts (read token r ∷ ts)
    at token (reading.Mark mark.Colon) h = refl
    at token (reading.Mark mark.Comma) h = refl
    at token (reading.Mark mark.RightParenthesis) h = refl
    at token (reading.Keyword keyword.Else) h = refl
    at token _ h = absurd cc

pub item_stops : (n : ℕ) (ts : List ReadToken) → item_ends ts ≡ true → Stops n ts
item_stops n [] h = tt
item_stops n (t ∷ ts) h = at t.token t.reading h
  where
    at : (token : Token) (r : Reading) → item_ends (read token r ∷ ts) ≡ true → Stops n (read token r ∷ ts)
    at token (reading.Mark mark.Colon) h = tt
    at token (reading.Mark mark.Comma) h = tt
    at token (reading.Mark mark.RightParenthesis) h = tt
    at token (reading.Keyword keyword.Else) h = tt
    at token _ h = absurd cc

pub item_no_as : (ts : List ReadToken) → item_ends ts ≡ true → begins is_as ts ≡ false
item_no_as [] h = refl
item_no_as (t ∷ ts) h = at t.token t.reading h
  where
    at : (token : Token) (r : Reading) → item_ends (read token r ∷ ts) ≡ true → is_as r ≡ false
    at token (reading.Keyword keyword.As) h = absurd cc
    at token _ h = refl

clause_halts : (clause : Option TypeClause) (rest : List ReadToken) → item_ends rest ≡ true → Halts (optional spell_type_clause clause ++ rest)
clause_halts None rest h = item_halts rest h
clause_halts (Some clause) rest h = refl

-- behind the bracket of the bounds no place ends
bounds_last : (place : Expr) (left right : Token) (l : Listed Dim) (behind : List ReadToken) → Halts behind → (xs : List ReadToken) (left2 : Token) (ys : List ReadToken)
    → with_commas spell_dim l ++ marked right mark.RightParenthesis ∷ behind ≡ xs ++ marked left2 mark.LeftParenthesis ∷ ys
    → NoPlace (spell place ++ marked left mark.LeftParenthesis ∷ xs)
bounds_last place left right l behind h xs left2 ys same =
    at (splits (with_commas spell_dim l) (marked right mark.RightParenthesis ∷ behind) xs (marked left2 mark.LeftParenthesis ∷ ys) same)
  where
    after : (behind : List ReadToken) → Halts behind → (zs : List ReadToken) → xs ≡ with_commas spell_dim l ++ zs
        → marked right mark.RightParenthesis ∷ behind ≡ zs ++ marked left2 mark.LeftParenthesis ∷ ys → NoPlace (spell place ++ marked left mark.LeftParenthesis ∷ xs)
    after behind h [] e f =
        let g : marked right mark.RightParenthesis ≡ marked left2 mark.LeftParenthesis = cc in
        let k : reading.Mark mark.RightParenthesis ≡ reading.Mark mark.LeftParenthesis = ap (λ u. u.reading) g in
        absurd cc
    after [] h (z ∷ []) e f = absurd cc
    after [] h (z ∷ z2 ∷ zs) e f = absurd cc
    after (t ∷ ts) h (z ∷ []) e f = let g : t ≡ marked left2 mark.LeftParenthesis = cc in absurd (subst (λ u. Halts (u ∷ ts) → ⊥) (sym g) (λ k. cc) h)
    after (t ∷ ts) h (z ∷ z2 ∷ zs) e f =
        let g : marked right mark.RightParenthesis ≡ z = cc in
        let k : t ≡ z2 = cc in
        subst (λ us. NoPlace (spell place ++ marked left mark.LeftParenthesis ∷ us)) (sym (e ∙ ap (λ u. with_commas spell_dim l ++ u ∷ z2 ∷ zs) (sym g)))
        (no_place_behind place left right l z2 zs (subst (λ u. moved true 0 (part_of u) ≡ None) k h))

    at : ((zs : List ReadToken) × (with_commas spell_dim l ≡ xs ++ zs) × (zs ++ marked right mark.RightParenthesis ∷ behind ≡ marked left2 mark.LeftParenthesis ∷ ys))
        ⊎ ((zs : List ReadToken) × (xs ≡ with_commas spell_dim l ++ zs) × (marked right mark.RightParenthesis ∷ behind ≡ zs ++ marked left2 mark.LeftParenthesis ∷ ys))
        → NoPlace (spell place ++ marked left mark.LeftParenthesis ∷ xs)
    at (inl p) = no_place_in place left l xs p.0 p.1
    at (inr p) = after behind h p.0 p.1 p.2

-- an array is found
pub array_is : IsComplete spell_array FormedArray (λ rest. item_ends rest ≡ true) array_at
array_is a rest good h =
    let clause = optional spell_type_clause a.type_clause in
    let behind : List ReadToken = clause ++ rest in
    let tail : List ReadToken = with_commas spell_dim a.dims ++ marked a.right mark.RightParenthesis ∷ behind in
    let left : ReadToken = marked a.left mark.LeftParenthesis in
    let found : with_bounds a.left tail a.place ≡ Some (a, rest) =
    then_is _ (dims_in_is a.dims (marked a.right mark.RightParenthesis ∷ behind) good.1 ((tt, refl), refl))
    (then_is _ (part_is is_as spell_type_clause type_clause_at type_clause_is (λ c us. refl) a.type_clause rest good.2 (item_stops 15 rest h, item_no_as rest h))
    (if_is _ _ h refl)) in
    let here : array_here (spell a.place) a.left tail ≡ Some (a, rest) =
    ap (placed (with_bounds a.left tail)) (ap place_at (sym (append-nil (spell a.place))) ∙ place_is a.place [] good.0 tt) ∙ found in
    let none : last_array (spell a.place ++ left ∷ []) tail ≡ None =
    no_last (spell a.place ++ left ∷ []) tail (λ xs left2 ys e place ok same.
    bounds_last a.place a.left a.right a.dims behind (clause_halts a.type_clause rest h) xs left2 ys e place ok
    (sym (append_assoc (spell a.place) (left ∷ []) xs) ∙ same)) in
    ap array_at (append_assoc (spell a.place) (left ∷ (with_commas spell_dim a.dims ++ marked a.right mark.RightParenthesis ∷ clause)) rest
    ∙ ap (λ us. spell a.place ++ left ∷ us) (append_assoc (with_commas spell_dim a.dims) (marked a.right mark.RightParenthesis ∷ clause) rest))
    ∙ last_on (spell a.place) [] (left ∷ tail) (a, rest) (ap (λ o. or_else o (array_here (spell a.place) a.left tail)) none ∙ here)

pub item_of_ends : (ts : List ReadToken) → Ends ts → item_ends ts ≡ true
item_of_ends ts h = ap (λ b. b || (begins is_comma ts || begins is_right ts)) h

pub arrays_is : IsComplete (with_commas spell_array) (Each FormedArray) (λ rest. (item_ends rest ≡ true) × (begins is_comma rest ≡ false)) (commas_at array_at)
arrays_is = commas_is spell_array array_at (λ token ts. refl) array_is

-- a dot or a bracket behind a place
abbrev joins : Reading → Bool
joins (reading.Mark mark.Dot) = true
joins (reading.Mark mark.LeftParenthesis) = true
joins _ = false

-- a place doesn't begin so
place_first : (p : Expr) → is_place p ≡ true → (zs : List ReadToken) → begins joins (spell p ++ zs) ≡ false
place_first (me token) h zs = refl
place_first (name x) h zs = refl
place_first (with_member dot x) h zs = refl
place_first (member base dot x) h zs = ap (begins joins) (append_assoc (spell base) (marked dot mark.Dot ∷ naming x ∷ []) zs) ∙ place_first base h _
place_first (index base left xs right) h zs =
    ap (begins joins) (append_assoc (spell base) (marked left mark.LeftParenthesis ∷ (spell_args xs ++ marked right mark.RightParenthesis ∷ [])) zs) ∙ place_first base h _
place_first _ h zs = absurd cc

-- behind a first token that is Preserve, a dot or a bracket
abbrev Joined : List ReadToken → Type 0
Joined [] = Unit {0}
Joined (t ∷ ts) = reads (codes "preserve") t.reading ≡ true → begins joins ts ≡ true

place_joined : (p : Expr) → is_place p ≡ true → (u : ReadToken) (more : List ReadToken) → joins u.reading ≡ true → Joined (spell p ++ u ∷ more)
place_joined (me token) h u more j = λ r. absurd cc
place_joined (name x) h u more j = λ r. j
place_joined (with_member dot x) h u more j = λ r. absurd cc
place_joined (member base dot x) h u more j =
    subst Joined (sym (append_assoc (spell base) (marked dot mark.Dot ∷ naming x ∷ []) (u ∷ more))) (place_joined base h (marked dot mark.Dot) _ refl)
place_joined (index base left xs right) h u more j =
    subst Joined (sym (append_assoc (spell base) (marked left mark.LeftParenthesis ∷ (spell_args xs ++ marked right mark.RightParenthesis ∷ [])) (u ∷ more)))
    (place_joined base h (marked left mark.LeftParenthesis) _ refl)
place_joined _ h u more j = absurd cc

no_array : (ts : List ReadToken) → begins joins ts ≡ true → array_at ts ≡ None
no_array ts h = no_last [] ts (λ xs left ys e place ok same.
    let no = place_first place ok.0 (marked left mark.LeftParenthesis ∷ ys) in
    let f = sym h ∙ ap (begins joins) (e ∙ ap (λ us. us ++ marked left mark.LeftParenthesis ∷ ys) same) ∙ no in
    absurd cc)

-- Preserve that is the name of an array
named_preserve : (token : Token) (us : List ReadToken) (r : Simple × List ReadToken) → Joined us → found_as (re_dim token None) (commas_at array_at us) ≡ Some r
    → re_dim_at token us ≡ Some r
named_preserve token [] r j h = h
named_preserve token (t ∷ ts) r j h =
    cond_both {A = Option Token × List ReadToken} (reads (codes "preserve") t.reading) (Some t.token, ts) (None, t ∷ ts)
    (λ p. re_dim_by token (t ∷ ts) p ≡ Some r)
    (λ e. ap (λ o. or_else (found_as (re_dim token (Some t.token)) (o >>= λ first rest. others_at (suc (length rest)) is_comma array_at rest >>= λ others behind.
    Some (record { first = first; others = others }, behind))) (found_as (re_dim token None) (commas_at array_at (t ∷ ts)))) (no_array ts (j e)) ∙ h)
    (λ e. h)

pub re_dim_is : (token : Token) (preserve : Option Token) (arrays : Listed ReDimArray) (rest : List ReadToken) → Each FormedArray arrays → Ends rest
    → IsFound (re_dim token preserve arrays) rest
re_dim_is token None arrays rest good h =
    let others = spell_others spell_array mark.Comma arrays.others in
    let first = arrays.first in
    let bounds : List ReadToken = marked first.left mark.LeftParenthesis
    ∷ (with_commas spell_dim first.dims ++ marked first.right mark.RightParenthesis ∷ optional spell_type_clause first.type_clause) in
    let same : with_commas spell_array arrays ++ rest ≡ spell first.place ++ (bounds ++ (others ++ rest)) =
    append_assoc (spell_array first) others rest ∙ append_assoc (spell first.place) bounds (others ++ rest) in
    let joined : Joined (with_commas spell_array arrays ++ rest) =
    subst Joined (sym same) (place_joined first.place good.0.0.0 (marked first.left mark.LeftParenthesis) _ refl) in
    ending_is (named_preserve token (with_commas spell_array arrays ++ rest) (re_dim token None arrays, rest) joined
    (as_is (re_dim token None) (arrays_is arrays rest good (item_of_ends rest h, ends_not is_comma rest refl refl h)))) h
re_dim_is token (Some preserve) arrays rest good h = ending_is
    (ap (λ o. or_else (found_as (re_dim token (Some preserve)) o) (found_as (re_dim token None) (commas_at array_at (place_word preserve (codes "preserve") ∷ (with_commas spell_array arrays ++ rest)))))
    (arrays_is arrays rest good (item_of_ends rest h, ends_not is_comma rest refl refl h))) h
