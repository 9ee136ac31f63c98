-- The laws of reading a type clause and a value behind a name: the length behind `String *` is as long as it can be.
use Rattle.std.proofs.Common.{◌≡◌, suc, ◌+◌, ◌≤◌, length, Bool, true, false, List, [], ◌∷◌, ◌++◌, Option, Some, None, refl, sym, ap, ◌∙◌, subst, arith, append_assoc}
use Rattle.std.specs.Prelude.{if◌then◌else◌, ◌&&◌, IfSome, codes}
use Rattle.std.proofs.lemmas.List.{append-nil, length-append, append_cancel_right}
use Rattle.vba_lexer.specs.declared.token.Token.{Token}
use Rattle.vba_words.specs.declared.identifier.Identifier.{Identifier}
use Rattle.vba_words.specs.declared.keyword.Keyword.TheVariants as keyword
use Rattle.vba_words.specs.declared.mark.Mark.TheVariants as mark
use Rattle.vba_words.specs.declared.reading.Reading.{Reading}
use Rattle.vba_words.specs.declared.reading.Reading.TheVariants as reading
use Rattle.vba_words.specs.declared.reading.ReadToken.{ReadToken}
use Rattle.vba_words.specs.Spelling.{read, word, marked}
use Rattle.vba_expression.specs.declared.tree.TypeQualifier.{TypeQualifier}
use Rattle.vba_expression.specs.Tree.{Expr}
use Rattle.vba_expression.specs.Spelling.{spell, type_name_tokens}
use Rattle.vba_expression.specs.Fitting.{Fits}
use Rattle.vba_expression.specs.Taking.{Stops, Takes}
use Rattle.vba_expression.proofs.Inverses.{one_spelled}
use Rattle.vba_tree.specs.Tree.{DeclaredType, named, fixed_text, TypeClause, DefaultValue}
use Rattle.vba_tree.specs.Spelling.{optional, place_word, spell_type, spell_type_clause, spell_default}
use Rattle.vba_tree.specs.Forms.{FormedType, FormedTypeClause}
use Rattle.vba_grammar.specs.Front.{Found, ◌>>=◌, or_else, found_as, is_as, is_equal, is_times, is_dot, begins, whole_at, part_if, is_nothing}
use Rattle.vba_grammar.specs.Clauses.{is_fixed, type_clause_at, only_expression, item_ends, halves, last_halves, Valued, default_at, FixedWords, fixed_words_at, fixed_clause, before_value, without_value, with_or_without_value, valued_at}
use Rattle.vba_grammar.specs.Laws.{IsComplete}
use Rattle.vba_grammar.proofs.Binding.{Told, Spelled, nothing_told, some_told, weaker_told, then_told, as_told, cond_told, then_is, as_is, if_is, if_not}
use Rattle.vba_grammar.proofs.Fronts.{means_as, means_equal, means_times, means_reads, token_told, whole_told, whole_is, part_told, part_none, part_is}
use Rattle.vba_grammar.proofs.ClausesLaws.{type_is, type_clause_told}
use Rattle.vba_grammar.proofs.Scans.{scan, passes, halts}
use Rattle.vba_grammar.proofs.ArraysLaws.{item_halts, item_stops}

-- where an item ends, no such token stands
pub item_no : (is_so : Reading → Bool) → is_so (reading.Mark mark.Colon) ≡ false → is_so (reading.Keyword keyword.Else) ≡ false → is_so (reading.Mark mark.Comma) ≡ false
    → is_so (reading.Mark mark.RightParenthesis) ≡ false → (rest : List ReadToken) → item_ends rest ≡ true → begins is_so rest ≡ false
item_no is_so a b c d [] h = refl
item_no is_so a b c d (t ∷ ts) h = at t.token t.reading h
  where
    at : (token : Token) (r : Reading) → item_ends (read token r ∷ ts) ≡ true → is_so r ≡ false
    at token (reading.Mark mark.Colon) h = a
    at token (reading.Keyword keyword.Else) h = b
    at token (reading.Mark mark.Comma) h = c
    at token (reading.Mark mark.RightParenthesis) h = d
    at token _ h = absurd cc

item_scanned : (rest : List ReadToken) → item_ends rest ≡ true → scan true 0 rest ≡ (0, rest)
item_scanned rest h = halts rest (item_halts rest h)

abbrev pub spell_valued : Valued → List ReadToken
spell_valued v = optional spell_type_clause v.0 ++ optional spell_default v.1

abbrev pub FormedDefault : Option DefaultValue → Type 0
FormedDefault d = IfSome d (λ x. Fits x.value)

abbrev pub FormedValued : Valued → Type 0
FormedValued v = FormedTypeClause v.0 × FormedDefault v.1

abbrev pub clause_tokens : Valued → List ReadToken
clause_tokens v = optional spell_type_clause v.0

-- of all that may stand there with the same tokens, none has a longer type clause
abbrev pub LongestValued : (Valued → Type 0) → Valued → Type 0
LongestValued May v = (w : Valued) → May w → FormedValued w → spell_valued w ≡ spell_valued v → length (clause_tokens w) ≤ length (clause_tokens v)

-- there is a value
abbrev pub IsThere : {A : Type 0} → Option A → Type 0
IsThere None = ⊥
IsThere (Some a) = Unit {0}

abbrev pub HasValue : Valued → Type 0
HasValue v = IsThere v.1

abbrev pub Any : Valued → Type 0
Any v = Unit {0}

-- the type is `String * e`
abbrev pub fixed_type : DeclaredType → Bool
fixed_type (named class) = false
fixed_type (fixed_text string_word times length) = true

abbrev pub has_fixed : Option TypeClause → Bool
has_fixed None = false
has_fixed (Some clause) = fixed_type clause.declared_type

-- As, String and `*` are at the front
abbrev pub fixed_front : List ReadToken → Bool
fixed_front [] = false
fixed_front (t ∷ ts) = is_as t.reading && is_fixed ts

-- a type clause and a value, where no `String * e` stands
abbrev pub plain_at : List ReadToken → Found Valued
plain_at ts = part_if is_as type_clause_at ts >>= λ clause rest. found_as (λ default. (clause, default)) (part_if is_equal default_at rest)

valued_fixed : (fixed : List ReadToken → Found Valued) (ts : List ReadToken) → fixed_front ts ≡ true → valued_at fixed ts ≡ fixed ts
valued_fixed fixed [] h = absurd cc
valued_fixed fixed (t ∷ ts) h = if_is _ _ h refl

valued_plain : (fixed : List ReadToken → Found Valued) (ts : List ReadToken) → fixed_front ts ≡ false → valued_at fixed ts ≡ plain_at ts
valued_plain fixed [] h = refl
valued_plain fixed (t ∷ ts) h = if_not _ _ h refl

both_false : (b c : Bool) → c ≡ false → (b && c) ≡ false
both_false true c h = h
both_false false c h = refl

-- no `*` and no dot goes on with the type's name
name_not_fixed : (qualifier : Option TypeQualifier) (x : Identifier) (rest : List ReadToken) → begins is_times rest ≡ false
    → is_fixed (type_name_tokens (record { qualifier = qualifier; name = x }) ++ rest) ≡ false
name_not_fixed None x [] h = refl
name_not_fixed None x (t ∷ ts) h = both_false _ _ h
name_not_fixed (Some qualifier) x rest h = both_false _ _ refl

pub value_no : (is_so : Reading → Bool) → is_so (reading.Mark mark.Colon) ≡ false → is_so (reading.Keyword keyword.Else) ≡ false → is_so (reading.Mark mark.Comma) ≡ false
    → is_so (reading.Mark mark.RightParenthesis) ≡ false → is_so (reading.Mark mark.Equal) ≡ false → (d : Option DefaultValue) (rest : List ReadToken) → item_ends rest ≡ true
    → begins is_so (optional spell_default d ++ rest) ≡ false
value_no is_so a b c e f None rest h = item_no is_so a b c e rest h
value_no is_so a b c e f (Some d) rest h = f

clause_front : (as_word : Token) (t : DeclaredType) (d : Option DefaultValue) (rest : List ReadToken) → item_ends rest ≡ true
    → fixed_front (spell_valued (Some (record { as_word = as_word; declared_type = t }), d) ++ rest) ≡ fixed_type t
clause_front as_word (named class) d rest h =
    ap is_fixed (append_assoc (type_name_tokens class) (optional spell_default d) rest)
    ∙ name_not_fixed class.qualifier class.name (optional spell_default d ++ rest) (value_no is_times refl refl refl refl refl d rest h)
clause_front as_word (fixed_text string_word times length) d rest h = refl

no_as_front : (ts : List ReadToken) → begins is_as ts ≡ false → fixed_front ts ≡ false
no_as_front [] h = refl
no_as_front (t ∷ ts) h = ap (λ b. b && is_fixed ts) h

pub front_is : (c : Option TypeClause) (d : Option DefaultValue) (rest : List ReadToken) → item_ends rest ≡ true → fixed_front (spell_valued (c, d) ++ rest) ≡ has_fixed c
front_is None d rest h = no_as_front (optional spell_default d ++ rest) (value_no is_as refl refl refl refl refl d rest h)
front_is (Some clause) d rest h = clause_front clause.as_word clause.declared_type d rest h

-- where `String * e` is the type, its words are at the front, whatever follows
front_fixed : (c : Option TypeClause) (d : Option DefaultValue) (rest : List ReadToken) → has_fixed c ≡ true → fixed_front (spell_valued (c, d) ++ rest) ≡ true
front_fixed None d rest h = absurd cc
front_fixed (Some clause) d rest h = at clause.as_word clause.declared_type h
  where
    at : (as_word : Token) (t : DeclaredType) → fixed_type t ≡ true → fixed_front (spell_valued (Some (record { as_word = as_word; declared_type = t }), d) ++ rest) ≡ true
    at as_word (named class) h = absurd cc
    at as_word (fixed_text string_word times length) h = refl

pub default_told : (ts : List ReadToken) → Spelled spell_default (λ d. Fits d.value) ts (default_at ts)
default_told ts = then_told (token_told ts means_equal) (λ equal rest p. as_told _ (whole_told rest) (λ e behind q. (
  p ∙ ap (λ us. marked equal mark.Equal ∷ us) q.same,
  q.fits,
)))

pub default_is : IsComplete spell_default (λ d. Fits d.value) (Stops 15) default_at
default_is d rest good h = as_is _ (whole_is d.value rest good h)

plain_told : (ts : List ReadToken) → Spelled spell_valued FormedValued ts (plain_at ts)
plain_told ts =
    then_told (part_told is_as type_clause_at ts (type_clause_told ts)) (λ clause rest p.
    as_told (λ default. (clause, default)) (part_told is_equal default_at rest (default_told rest)) (λ d behind q. (
      p.0 ∙ ap (λ us. optional spell_type_clause clause ++ us) q.0 ∙ sym (append_assoc (optional spell_type_clause clause) (optional spell_default d) behind),
      (p.1, q.1),
    )))

clause_is : (c : Option TypeClause) (d : Option DefaultValue) (rest : List ReadToken) → has_fixed c ≡ false → FormedTypeClause c → item_ends rest ≡ true
    → part_if is_as type_clause_at (optional spell_type_clause c ++ (optional spell_default d ++ rest)) ≡ Some (c, optional spell_default d ++ rest)
clause_is None d rest bare formed h = part_none is_as type_clause_at (optional spell_default d ++ rest) (value_no is_as refl refl refl refl refl d rest h)
clause_is (Some clause) d rest bare formed h = at clause.as_word clause.declared_type bare formed
  where
    at : (as_word : Token) (t : DeclaredType) → fixed_type t ≡ false → FormedType t
        → part_if is_as type_clause_at (word as_word keyword.As ∷ (spell_type t ++ (optional spell_default d ++ rest)))
        ≡ Some (Some (record { as_word = as_word; declared_type = t }), optional spell_default d ++ rest)
    at as_word (named class) bare formed =
        as_is Some (as_is (λ t. record { as_word = as_word; declared_type = t }) (type_is (named class) (optional spell_default d ++ rest) formed
        (value_no is_dot refl refl refl refl refl d rest h, value_no is_times refl refl refl refl refl d rest h)))
    at as_word (fixed_text string_word times length) bare formed = absurd cc

plain_is : (c : Option TypeClause) (d : Option DefaultValue) (rest : List ReadToken) → has_fixed c ≡ false → FormedTypeClause c → FormedDefault d → item_ends rest ≡ true
    → plain_at (spell_valued (c, d) ++ rest) ≡ Some ((c, d), rest)
plain_is c d rest bare formed good h =
    ap plain_at (append_assoc (optional spell_type_clause c) (optional spell_default d) rest)
    ∙ then_is (λ clause rest. found_as (λ default. (clause, default)) (part_if is_equal default_at rest)) (clause_is c d rest bare formed h)
    (as_is (λ default. (c, default)) (part_is is_equal spell_default default_at default_is (λ d us. refl) d rest good (item_stops 15 rest h, item_no is_equal refl refl refl refl rest h)))

valued_pair : (p q : Valued × List ReadToken) → Some p ≡ Some q → p ≡ q
valued_pair p q h = cc

not_both : {A : Type 0} (b : Bool) → b ≡ true → b ≡ false → A
not_both b t f = absurd cc

-- without `String * e` there's one reading
plain_longest : (May : Valued → Type 0) (c : Option TypeClause) (d : Option DefaultValue) → has_fixed c ≡ false → FormedTypeClause c → FormedDefault d → LongestValued May (c, d)
plain_longest May c d bare clause good w may formed same =
    let front : has_fixed w.0 ≡ has_fixed c =
    sym (front_is w.0 w.1 [] refl) ∙ ap (λ us. fixed_front (us ++ [])) same ∙ front_is c d [] refl in
    let one = plain_is w.0 w.1 [] (front ∙ bare) formed.0 formed.1 refl in
    let two = plain_is c d [] bare clause good refl in
    let e = valued_pair (w, []) ((c, d), []) (sym one ∙ ap (λ us. plain_at (us ++ [])) same ∙ two) in
    let f : length (clause_tokens w) ≡ length (optional spell_type_clause c) = ap (λ p. length (clause_tokens p.0)) e in
    omega arith

false_of : (b : Bool) → (b ≡ true → ⊥) → b ≡ false
false_of true h = absurd (h refl)
false_of false h = refl

plain_valued_told : (May : Valued → Type 0) (ts : List ReadToken) → fixed_front ts ≡ false
    → Told (λ v rest. (ts ≡ spell_valued v ++ rest) × FormedValued v × LongestValued May v) (plain_at ts)
plain_valued_told May ts bare = weaker_told (plain_told ts) (λ v rest p. (
  p.0,
  p.1,
  plain_longest May v.0 v.1 (false_of (has_fixed v.0) (λ yes. not_both (fixed_front ts) (ap fixed_front p.0 ∙ front_fixed v.0 v.1 rest yes) bare)) p.1.0 p.1.1,
))

-- the whole of tokens is an expression
whole_only : (before : List ReadToken) (o : Found Expr) → Told (λ e rest. Takes 15 before e rest) o → (e : Expr)
    → (o >>= λ e rest. if is_nothing rest then Some e else None) ≡ Some e → (before ≡ spell e) × Fits e
whole_only before None t e h = absurd cc
whole_only before (Some (a, [])) t e h =
    let p = t.at a [] refl in
    let f : a ≡ e = cc in
    (p.same ∙ append-nil (spell a) ∙ ap spell f, subst Fits f p.fits)
whole_only before (Some (a, u ∷ us)) t e h = absurd cc

only_told : (before : List ReadToken) (e : Expr) → only_expression before ≡ Some e → (before ≡ spell e) × Fits e
only_told before e h = whole_only before (whole_at before) (whole_told before) e h

only_is : (e : Expr) → Fits e → only_expression (spell e) ≡ Some e
only_is e w = ap only_expression (sym (append-nil (spell e))) ∙ then_is (λ e rest. if is_nothing rest then Some e else None) (whole_is e [] w tt) refl

-- a length, `=` and a value
abbrev pub Halves : Type 0
Halves = Expr × DefaultValue

abbrev with_value : Token → Expr → Expr → List ReadToken → Found Halves
with_value equal length value rest = if item_ends rest then Some ((length, record { equal = equal; value = value }), rest) else None

abbrev with_length : Token → Option Expr → Found Expr → Found Halves
with_length equal None found = None
with_length equal (Some length) found = found >>= with_value equal length

-- they stand there, and the item ends
record HalvesAt (before : List ReadToken) (ts : List ReadToken) (h : Halves) (rest : List ReadToken) : Type 0 where
  front : before ≡ spell h.0
  length_fits : Fits h.0
  behind : ts ≡ spell_default h.1 ++ rest
  value_fits : Fits h.1.value
  over : item_ends rest ≡ true

halves_told : (before : List ReadToken) (equal : Token) (ts : List ReadToken)
    → Told (λ h rest. HalvesAt before (marked equal mark.Equal ∷ ts) h rest) (halves before equal ts)
halves_told before equal ts = at (only_expression before) (only_told before)
  where
    at : (o : Option Expr) → ((e : Expr) → o ≡ Some e → (before ≡ spell e) × Fits e)
        → Told (λ h rest. HalvesAt before (marked equal mark.Equal ∷ ts) h rest) (with_length equal o (whole_at ts))
    at None t = nothing_told
    at (Some length) t =
        let p = t length refl in
        then_told (whole_told ts) (λ value rest q. cond_told (item_ends rest) _ _
        (λ e. some_told (record { front = p.0; length_fits = p.1; behind = ap (λ us. marked equal mark.Equal ∷ us) q.same; value_fits = q.fits; over = e }))
        (λ e. nothing_told))

halves_is : (l : Expr) (d : DefaultValue) (rest : List ReadToken) → Fits l → Fits d.value → item_ends rest ≡ true
    → halves (spell l) d.equal (spell d.value ++ rest) ≡ Some ((l, d), rest)
halves_is l d rest w v h =
    ap (λ o. with_length d.equal o (whole_at (spell d.value ++ rest))) (only_is l w)
    ∙ then_is (with_value d.equal l) (whole_is d.value rest v (item_stops 15 rest h)) (if_is _ _ h refl)

-- the length ends before one of the tokens
record LastAt (before : List ReadToken) (ts : List ReadToken) (h : Halves) (rest : List ReadToken) : Type 0 where
  same : before ++ ts ≡ spell h.0 ++ (spell_default h.1 ++ rest)
  length_fits : Fits h.0
  value_fits : Fits h.1.value
  over : item_ends rest ≡ true
  far : length before ≤ length (spell h.0)

last_told : (before ts : List ReadToken) → Told (λ h rest. LastAt before ts h rest) (last_halves before ts)
last_told before [] = nothing_told
last_told before (t ∷ ts) =
    else_both (last_halves (before ++ t ∷ []) ts) _
    (weaker_told (last_told (before ++ t ∷ []) ts) (λ h rest p. record {
      same = sym (append_assoc before (t ∷ []) ts) ∙ p.same;
      length_fits = p.length_fits;
      value_fits = p.value_fits;
      over = p.over;
      far = omega (arith, p.far, length-append before (t ∷ []));
    }))
    (cond_told (is_equal t.reading) _ _
    (λ e. weaker_told (halves_told before t.token ts) (λ h rest p.
    let len : length before ≡ length (spell h.0) = ap length p.front in
    record {
      same = ap (λ r. before ++ read t.token r ∷ ts) (means_equal t.reading e) ∙ ap (λ us. before ++ us) p.behind ∙ ap (λ us. us ++ (spell_default h.1 ++ rest)) p.front;
      length_fits = p.length_fits;
      value_fits = p.value_fits;
      over = p.over;
      far = omega arith;
    }))
    (λ e. nothing_told))
  where
    else_both : (m n : Found Halves) → Told (λ h rest. LastAt before (t ∷ ts) h rest) m → Told (λ h rest. LastAt before (t ∷ ts) h rest) n
        → Told (λ h rest. LastAt before (t ∷ ts) h rest) (or_else m n)
    else_both None n p q = q
    else_both (Some found) n p q = p

-- the first of two is nothing where both are
none_first : {A : Type 0} (m n : Option A) → or_else m n ≡ None → m ≡ None
none_first None n h = refl
none_first (Some a) n h = absurd cc

none_second : {A : Type 0} (m n : Option A) → or_else m n ≡ None → n ≡ None
none_second None n h = h
none_second (Some a) n h = absurd cc

first_found : {A : Type 0} (m n : Option A) (r : A) → or_else m n ≡ Some r → (m ≡ None → ⊥) → m ≡ Some r
first_found None n r h some = absurd (some refl)
first_found (Some a) n r h some = h

not_none : {A : Type 0} (m : Option A) (r : A) → m ≡ Some r → m ≡ None → ⊥
not_none m r h k = let e = sym h ∙ k in absurd cc

-- where a length and a value stand, something is found
last_found : (xs before : List ReadToken) (equal : Token) (ys : List ReadToken) (r : Halves × List ReadToken) → halves (before ++ xs) equal ys ≡ Some r
    → last_halves before (xs ++ marked equal mark.Equal ∷ ys) ≡ None → ⊥
last_found [] before equal ys r h k =
    not_none (halves before equal ys) r (ap (λ us. halves us equal ys) (sym (append-nil before)) ∙ h)
    (none_second (last_halves (before ++ marked equal mark.Equal ∷ []) ys) (halves before equal ys) k)
last_found (x ∷ xs) before equal ys r h k =
    last_found xs (before ++ x ∷ []) equal ys r (ap (λ us. halves us equal ys) (append_assoc before (x ∷ []) xs) ∙ h)
    (none_first (last_halves (before ++ x ∷ []) (xs ++ marked equal mark.Equal ∷ ys)) _ k)

-- and none stands behind it
last_far : (xs before : List ReadToken) (equal : Token) (ys : List ReadToken) (r : Halves × List ReadToken) (h : Halves) (rest : List ReadToken)
    → halves (before ++ xs) equal ys ≡ Some r → last_halves before (xs ++ marked equal mark.Equal ∷ ys) ≡ Some (h, rest) → length before + length xs ≤ length (spell h.0)
last_far [] before equal ys r h rest here found =
    let p = (last_told before (marked equal mark.Equal ∷ ys)).at h rest found in omega (arith, p.far)
last_far (x ∷ xs) before equal ys r h rest here found =
    let moved = ap (λ us. halves us equal ys) (append_assoc before (x ∷ []) xs) ∙ here in
    let deeper = first_found (last_halves (before ++ x ∷ []) (xs ++ marked equal mark.Equal ∷ ys)) _ (h, rest) found (last_found xs (before ++ x ∷ []) equal ys r moved) in
    let p = last_far xs (before ++ x ∷ []) equal ys r h rest moved deeper in
    omega (arith, p, length-append before (x ∷ []))

pub words_told : (ts : List ReadToken)
    → Told (λ words rest. ts ≡ word words.as_word keyword.As ∷ place_word words.string_word (codes "string") ∷ marked words.times mark.Times ∷ rest) (fixed_words_at ts)
words_told ts =
    then_told (token_told ts means_as) (λ as_word rest p. then_told (token_told rest (means_reads (codes "string"))) (λ string_word behind q.
    as_told (λ times. record { as_word = as_word; string_word = string_word; times = times }) (token_told behind means_times) (λ times rest2 r.
    p ∙ ap (λ us. word as_word keyword.As ∷ us) (q ∙ ap (λ us. place_word string_word (codes "string") ∷ us) r))))

-- what is found there, with `String * e`, and the item ends
pub record ValuedAt (May : Valued → Type 0) (ts : List ReadToken) (v : Valued) (rest : List ReadToken) : Type 0 where
  pub same : ts ≡ spell_valued v ++ rest
  pub formed : FormedValued v
  pub may : May v
  pub longest : LongestValued May v
  pub over : item_ends rest ≡ true
  pub fixed : has_fixed v.0 ≡ true

itself : {A : Type 0} (m : Found A) → Told (λ a rest. m ≡ Some (a, rest)) m
itself m = record { at = λ a rest h. h }

tail_of : (a b c d e f : ReadToken) (xs ys : List ReadToken) → a ∷ b ∷ c ∷ xs ≡ d ∷ e ∷ f ∷ ys → xs ≡ ys
tail_of a b c d e f xs ys h = cc

-- what has the same tokens has such a type too
fixed_same : (c e : Option TypeClause) (d f : Option DefaultValue) → has_fixed e ≡ true → spell_valued (c, d) ≡ spell_valued (e, f) → has_fixed c ≡ true
fixed_same c e d f h same = sym (front_is c d [] refl) ∙ ap (λ us. fixed_front (us ++ [])) same ∙ front_is e f [] refl ∙ h

-- the length before the last `=` that allows it is the longest
halves_longest : (words : FixedWords) (ts : List ReadToken) (h : Halves) (rest : List ReadToken) → last_halves [] ts ≡ Some (h, rest)
    → LongestValued HasValue (Some (fixed_clause words h.0), Some h.1)
halves_longest words ts h rest found w may formed same = by_parts w.0 w.1 may formed same
  where
    p : LastAt [] ts h rest
    p = (last_told [] ts).at h rest found

    by_type : (as_word : Token) (t : DeclaredType) (d : DefaultValue) → FormedType t → Fits d.value → fixed_type t ≡ true
        → spell_valued (Some (record { as_word = as_word; declared_type = t }), Some d) ≡ spell_valued (Some (fixed_clause words h.0), Some h.1)
        → suc (length (spell_type t)) ≤ suc (suc (suc (length (spell h.0))))
    by_type as_word (named class) d wt wd fix same = absurd cc
    by_type as_word (fixed_text string_word times l) d wt wd fix same =
        let tail : spell l ++ spell_default d ≡ spell h.0 ++ spell_default h.1 = tail_of _ _ _ _ _ _ _ _ same in
        let cut : ts ≡ spell l ++ (spell_default d ++ rest) =
        p.same ∙ sym (append_assoc (spell h.0) (spell_default h.1) rest) ∙ ap (λ us. us ++ rest) (sym tail) ∙ append_assoc (spell l) (spell_default d) rest in
        let q = last_far (spell l) [] d.equal (spell d.value ++ rest) ((l, d), rest) h rest (halves_is l d rest wt wd p.over) (ap (last_halves []) (sym cut) ∙ found) in
        omega (arith, q)

    by_parts : (c : Option TypeClause) (d : Option DefaultValue) → HasValue (c, d) → FormedValued (c, d)
        → spell_valued (c, d) ≡ spell_valued (Some (fixed_clause words h.0), Some h.1) → length (optional spell_type_clause c) ≤ suc (suc (suc (length (spell h.0))))
    by_parts c None may formed same = absurd may
    by_parts None (Some d) may formed same = omega arith
    by_parts (Some clause) (Some d) may formed same =
        by_type clause.as_word clause.declared_type d formed.0 formed.1 (fixed_same (Some clause) (Some (fixed_clause words h.0)) (Some d) (Some h.1) refl same) same

pub before_told : (ts : List ReadToken) → Told (λ v rest. ValuedAt HasValue ts v rest) (before_value ts)
before_told ts =
    then_told (words_told ts) (λ words rest p. as_told (λ found. (Some (fixed_clause words found.0), Some found.1)) (itself (last_halves [] rest)) (λ h behind e.
    let q = (last_told [] rest).at h behind e in
    record {
      same = p ∙ ap (λ us. word words.as_word keyword.As ∷ place_word words.string_word (codes "string") ∷ marked words.times mark.Times ∷ us)
          (q.same ∙ sym (append_assoc (spell h.0) (spell_default h.1) behind));
      formed = (q.length_fits, q.value_fits);
      may = tt;
      longest = halves_longest words rest h behind e;
      over = q.over;
      fixed = refl;
    }))

-- without a value the type clause is all there is
alone_longest : (c : Option TypeClause) → LongestValued Any (c, None)
alone_longest c w may formed same =
    let more = length-append (optional spell_type_clause w.0) (optional spell_default w.1) in
    let all = ap length (same ∙ append-nil (optional spell_type_clause c)) in
    omega arith

without_told : (ts : List ReadToken) → Told (λ v rest. ValuedAt Any ts v rest) (without_value ts)
without_told ts =
    then_told (words_told ts) (λ words rest p. then_told (whole_told rest) (λ l behind q. cond_told (item_ends behind) _ _
    (λ e. some_told (record {
      same = p ∙ ap (λ us. word words.as_word keyword.As ∷ place_word words.string_word (codes "string") ∷ marked words.times mark.Times ∷ us)
          (q.same ∙ ap (λ us. us ++ behind) (sym (append-nil (spell l))));
      formed = (q.fits, tt);
      may = tt;
      longest = alone_longest (Some (fixed_clause words l));
      over = e;
      fixed = refl;
    }))
    (λ e. nothing_told)))

without_found : (c : Option TypeClause) (rest : List ReadToken) → has_fixed c ≡ true → FormedTypeClause c → item_ends rest ≡ true
    → without_value (spell_valued (c, None) ++ rest) ≡ None → ⊥
without_found None rest fix formed h k = absurd cc
without_found (Some clause) rest fix formed h k = at clause.as_word clause.declared_type fix formed k
  where
    kept : FixedWords → Expr → List ReadToken → Found Valued
    kept words l behind = if item_ends behind then Some ((Some (fixed_clause words l), None), behind) else None

    at : (as_word : Token) (t : DeclaredType) → fixed_type t ≡ true → FormedType t
        → without_value (spell_valued (Some (record { as_word = as_word; declared_type = t }), None) ++ rest) ≡ None → ⊥
    at as_word (named class) fix formed k = absurd cc
    at as_word (fixed_text string_word times l) fix formed k =
        let words : FixedWords = record { as_word = as_word; string_word = string_word; times = times } in
        not_none (whole_at ((spell l ++ []) ++ rest) >>= kept words) ((Some (fixed_clause words l), None), rest)
        (ap (λ us. whole_at (us ++ rest) >>= kept words) (append-nil (spell l)) ∙ then_is (kept words) (whole_is l rest formed (item_stops 15 rest h)) (if_is _ _ h refl)) k

as_none : {A B : Type 0} (make : A → B) (m : Found A) → found_as make m ≡ None → m ≡ None
as_none make None h = refl
as_none make (Some found) h = absurd cc

before_found : (c : Option TypeClause) (d : DefaultValue) (rest : List ReadToken) → has_fixed c ≡ true → FormedTypeClause c → Fits d.value → item_ends rest ≡ true
    → before_value (spell_valued (c, Some d) ++ rest) ≡ None → ⊥
before_found None d rest fix formed good h k = absurd cc
before_found (Some clause) d rest fix formed good h k = at clause.as_word clause.declared_type fix formed k
  where
    at : (as_word : Token) (t : DeclaredType) → fixed_type t ≡ true → FormedType t
        → before_value (spell_valued (Some (record { as_word = as_word; declared_type = t }), Some d) ++ rest) ≡ None → ⊥
    at as_word (named class) fix formed k = absurd cc
    at as_word (fixed_text string_word times l) fix formed k =
        last_found (spell l) [] d.equal (spell d.value ++ rest) ((l, d), rest) (halves_is l d rest formed good h)
        (ap (last_halves []) (sym (append_assoc (spell l) (spell_default d) rest)) ∙ as_none _ (last_halves [] ((spell l ++ spell_default d) ++ rest)) k)

-- a value that may be missing: without one the length is longest
either_longest : (ts : List ReadToken) → without_value ts ≡ None → (v : Valued) (rest : List ReadToken) → ValuedAt HasValue ts v rest → LongestValued Any v
either_longest ts none v rest p w may formed same = by_value w.1 w.0 formed same
  where
    by_value : (d : Option DefaultValue) (c : Option TypeClause) → FormedValued (c, d) → spell_valued (c, d) ≡ spell_valued v
        → length (optional spell_type_clause c) ≤ length (clause_tokens v)
    by_value None c formed same =
        absurd (without_found c rest (fixed_same c v.0 None v.1 p.fixed same) formed.0 p.over (ap without_value (ap (λ us. us ++ rest) same ∙ sym p.same) ∙ none))
    by_value (Some d) c formed same = p.longest (c, Some d) tt formed same

pub either_told : (ts : List ReadToken) → Told (λ v rest. ValuedAt Any ts v rest) (with_or_without_value ts)
either_told ts = at (without_value ts) (λ e. e) (without_told ts)
  where
    at : (o : Found Valued) → (o ≡ None → without_value ts ≡ None) → Told (λ v rest. ValuedAt Any ts v rest) o → Told (λ v rest. ValuedAt Any ts v rest) (or_else o (before_value ts))
    at None none t = weaker_told (before_told ts) (λ v rest p. record {
      same = p.same;
      formed = p.formed;
      may = tt;
      longest = either_longest ts (none refl) v rest p;
      over = p.over;
      fixed = p.fixed;
    })
    at (Some found) none t = t

either_found : (c : Option TypeClause) (d : Option DefaultValue) (rest : List ReadToken) → has_fixed c ≡ true → FormedValued (c, d) → item_ends rest ≡ true
    → with_or_without_value (spell_valued (c, d) ++ rest) ≡ None → ⊥
either_found c None rest fix formed h k = without_found c rest fix formed.0 h (none_first (without_value (spell_valued (c, None) ++ rest)) _ k)
either_found c (Some d) rest fix formed h k =
    before_found c d rest fix formed.0 formed.1 h (none_second (without_value (spell_valued (c, Some d) ++ rest)) (before_value (spell_valued (c, Some d) ++ rest)) k)

-- two lists cut at the same length
cut_same : (a b c d : List ReadToken) → length a ≡ length c → a ++ b ≡ c ++ d → (a ≡ c) × (b ≡ d)
cut_same [] b [] d l h = (refl, h)
cut_same [] b (y ∷ c) d l h = absurd (omega arith)
cut_same (x ∷ a) b [] d l h = absurd (omega arith)
cut_same (x ∷ a) b (y ∷ c) d l h =
    let e : x ≡ y = cc in
    let f : a ++ b ≡ c ++ d = cc in
    let g = cut_same a b c d (omega arith) f in
    (ap (λ z. z ∷ a) e ∙ ap (λ us. y ∷ us) g.0, g.1)

token_of : (t u : ReadToken) (xs ys : List ReadToken) → t ∷ xs ≡ u ∷ ys → t.token ≡ u.token
token_of t u xs ys h = let e : t ≡ u = cc in ap (λ z. z.token) e

rest_of : (t u : ReadToken) (xs ys : List ReadToken) → t ∷ xs ≡ u ∷ ys → xs ≡ ys
rest_of t u xs ys h = cc

default_one : (d f : Option DefaultValue) → FormedDefault d → FormedDefault f → optional spell_default d ≡ optional spell_default f → d ≡ f
default_one None None w v h = refl
default_one None (Some f) w v h = absurd cc
default_one (Some d) None w v h = absurd cc
default_one (Some d) (Some f) w v h =
    let e = token_of _ _ (spell d.value) (spell f.value) h in
    let g = one_spelled d.value f.value w v (rest_of _ _ (spell d.value) (spell f.value) h) in
    ap (λ x. Some (record { equal = x; value = d.value })) e ∙ ap (λ x. Some (record { equal = f.equal; value = x })) g

-- what is behind As, String and `*`
abbrev behind_words : List ReadToken → List ReadToken
behind_words (a ∷ b ∷ c ∷ ts) = ts
behind_words _ = []

default_scanned : (d : Option DefaultValue) (rest : List ReadToken) → item_ends rest ≡ true → scan true 0 (optional spell_default d ++ rest) ≡ (0, rest)
default_scanned None rest h = item_scanned rest h
default_scanned (Some d) rest h = passes true 0 d.value rest ∙ item_scanned rest h

valued_scanned : (c : Option TypeClause) (d : Option DefaultValue) (rest : List ReadToken) → has_fixed c ≡ true → item_ends rest ≡ true
    → scan true 0 (behind_words (spell_valued (c, d) ++ rest)) ≡ (0, rest)
valued_scanned None d rest fix h = absurd cc
valued_scanned (Some clause) d rest fix h = at clause.as_word clause.declared_type fix
  where
    at : (as_word : Token) (t : DeclaredType) → fixed_type t ≡ true
        → scan true 0 (behind_words (spell_valued (Some (record { as_word = as_word; declared_type = t }), d) ++ rest)) ≡ (0, rest)
    at as_word (named class) fix = absurd cc
    at as_word (fixed_text string_word times l) fix =
        ap (scan true 0) (append_assoc (spell l) (optional spell_default d) rest) ∙ passes true 0 l (optional spell_default d ++ rest) ∙ default_scanned d rest h

-- two that begin at one place end at one place
rest_same : (v w : Valued) (rest behind : List ReadToken) → has_fixed v.0 ≡ true → has_fixed w.0 ≡ true → item_ends rest ≡ true → item_ends behind ≡ true
    → spell_valued v ++ rest ≡ spell_valued w ++ behind → rest ≡ behind
rest_same v w rest behind f g h k same =
    ap (λ p. p.1) (sym (valued_scanned v.0 v.1 rest f h) ∙ ap (λ us. scan true 0 (behind_words us)) same ∙ valued_scanned w.0 w.1 behind g k)

abbrev valued : Option TypeClause → Option DefaultValue → Valued
valued c d = (c, d)

-- and where their type clauses are of one length, they're the same
valued_one : (c e : Option TypeClause) (d f : Option DefaultValue) → has_fixed c ≡ true → has_fixed e ≡ true → FormedValued (c, d) → FormedValued (e, f)
    → spell_valued (c, d) ≡ spell_valued (e, f) → length (optional spell_type_clause c) ≡ length (optional spell_type_clause e) → valued c d ≡ valued e f
valued_one None e d f fix gix w v same len = absurd cc
valued_one (Some c) None d f fix gix w v same len = absurd cc
valued_one (Some c) (Some e) d f fix gix w v same len = at c.as_word c.declared_type e.as_word e.declared_type fix gix w v same len
  where
    at : (a : Token) (t : DeclaredType) (b : Token) (u : DeclaredType) → fixed_type t ≡ true → fixed_type u ≡ true → FormedType t × FormedDefault d → FormedType u × FormedDefault f
        → spell_valued (Some (record { as_word = a; declared_type = t }), d) ≡ spell_valued (Some (record { as_word = b; declared_type = u }), f)
        → suc (length (spell_type t)) ≡ suc (length (spell_type u))
        → valued (Some (record { as_word = a; declared_type = t })) d ≡ valued (Some (record { as_word = b; declared_type = u })) f
    at a (named class) b u fix gix w v same len = absurd cc
    at a (fixed_text s t l) b (named class) fix gix w v same len = absurd cc
    at a (fixed_text s t l) b (fixed_text q u m) fix gix w v same len =
        let xs : List ReadToken = spell l ++ optional spell_default d in
        let ys : List ReadToken = spell m ++ optional spell_default f in
        let one = token_of (word a keyword.As) (word b keyword.As) (place_word s (codes "string") ∷ marked t mark.Times ∷ xs) (place_word q (codes "string") ∷ marked u mark.Times ∷ ys) same in
        let more = rest_of (word a keyword.As) (word b keyword.As) (place_word s (codes "string") ∷ marked t mark.Times ∷ xs) (place_word q (codes "string") ∷ marked u mark.Times ∷ ys) same in
        let two = token_of (place_word s (codes "string")) (place_word q (codes "string")) (marked t mark.Times ∷ xs) (marked u mark.Times ∷ ys) more in
        let most = rest_of (place_word s (codes "string")) (place_word q (codes "string")) (marked t mark.Times ∷ xs) (marked u mark.Times ∷ ys) more in
        let three = token_of (marked t mark.Times) (marked u mark.Times) xs ys most in
        let parts = cut_same (spell l) (optional spell_default d) (spell m) (optional spell_default f) (omega (arith, len)) (rest_of (marked t mark.Times) (marked u mark.Times) xs ys most) in
        let four = one_spelled l m w.0 v.0 parts.0 in
        let five = default_one d f w.1 v.1 parts.1 in
        ap (λ x. valued (Some (record { as_word = x; declared_type = fixed_text s t l })) d) one
        ∙ ap (λ x. valued (Some (record { as_word = b; declared_type = fixed_text x t l })) d) two
        ∙ ap (λ x. valued (Some (record { as_word = b; declared_type = fixed_text q x l })) d) three
        ∙ ap (λ x. valued (Some (record { as_word = b; declared_type = fixed_text q u x })) d) four
        ∙ ap (λ x. valued (Some (record { as_word = b; declared_type = fixed_text q u m })) x) five

-- what a reader of `String * e` keeps
pub record FixedLaws (May : Valued → Type 0) (fixed : List ReadToken → Found Valued) : Type 0 where
  pub told : (ts : List ReadToken) → Told (λ v rest. ValuedAt May ts v rest) (fixed ts)
  pub found : (c : Option TypeClause) (d : Option DefaultValue) (rest : List ReadToken) → has_fixed c ≡ true → May (c, d) → FormedValued (c, d) → item_ends rest ≡ true
      → fixed (spell_valued (c, d) ++ rest) ≡ None → ⊥

pub before_laws : FixedLaws HasValue before_value
before_laws = record { told = before_told; found = some_before }
  where
    some_before : (c : Option TypeClause) (d : Option DefaultValue) (rest : List ReadToken) → has_fixed c ≡ true → HasValue (c, d) → FormedValued (c, d) → item_ends rest ≡ true
        → before_value (spell_valued (c, d) ++ rest) ≡ None → ⊥
    some_before c None rest fix may formed h = absurd may
    some_before c (Some d) rest fix may formed h = before_found c d rest fix formed.0 formed.1 h

pub either_laws : FixedLaws Any with_or_without_value
either_laws = record { told = either_told; found = λ c d rest fix may formed h. either_found c d rest fix formed h }

-- what is found of a type clause and a value: it ends there, and is the one that is the longest
pub record FoundValued (May : Valued → Type 0) (found : Found Valued) (v : Valued) (rest : List ReadToken) : Type 0 where
  pub value : Valued
  pub is : found ≡ Some (value, rest)
  pub may : May value
  pub one : LongestValued May v → v ≡ value

module _ (May : Valued → Type 0) (fixed : List ReadToken → Found Valued) (laws : FixedLaws May fixed) where
  pub valued_told : (ts : List ReadToken) → Told (λ v rest. (ts ≡ spell_valued v ++ rest) × FormedValued v × LongestValued May v) (valued_at fixed ts)
  valued_told ts = by_front (fixed_front ts) refl
    where
      by_front : (b : Bool) → fixed_front ts ≡ b → Told (λ v rest. (ts ≡ spell_valued v ++ rest) × FormedValued v × LongestValued May v) (valued_at fixed ts)
      by_front true e = subst (λ m. Told (λ v rest. (ts ≡ spell_valued v ++ rest) × FormedValued v × LongestValued May v) m) (sym (valued_fixed fixed ts e))
          (weaker_told (laws.told ts) (λ v rest p. (p.same, p.formed, p.longest)))
      by_front false e = subst (λ m. Told (λ v rest. (ts ≡ spell_valued v ++ rest) × FormedValued v × LongestValued May v) m) (sym (valued_plain fixed ts e))
          (plain_valued_told May ts e)

  same_valued : (v w : Valued) (rest behind : List ReadToken) → has_fixed v.0 ≡ true → May v → FormedValued v → item_ends rest ≡ true
      → ValuedAt May (spell_valued v ++ rest) w behind → LongestValued May v → v ≡ w
  same_valued v w rest behind fix may formed h p longest =
      let ends = rest_same v w rest behind fix p.fixed h p.over p.same in
      let same = append_cancel_right (spell_valued v) (spell_valued w) behind (ap (λ us. spell_valued v ++ us) (sym ends) ∙ p.same) in
      let less = longest w p.may p.formed (sym same) in
      let more = p.longest v may formed same in
      valued_one v.0 w.0 v.1 w.1 fix p.fixed formed p.formed same (omega (arith, less, more))

  pub valued_found : (v : Valued) (rest : List ReadToken) → May v → FormedValued v → item_ends rest ≡ true → FoundValued May (valued_at fixed (spell_valued v ++ rest)) v rest
  valued_found v rest may formed h = by_type (has_fixed v.0) refl
    where
      by_found : has_fixed v.0 ≡ true → (o : Found Valued) → fixed (spell_valued v ++ rest) ≡ o → FoundValued May (valued_at fixed (spell_valued v ++ rest)) v rest
      by_found fix None e = absurd (laws.found v.0 v.1 rest fix may formed h e)
      by_found fix (Some found) e =
          let p = (laws.told (spell_valued v ++ rest)).at found.0 found.1 e in
          let ends = rest_same v found.0 rest found.1 fix p.fixed h p.over p.same in
          record {
            value = found.0;
            is = valued_fixed fixed (spell_valued v ++ rest) (front_is v.0 v.1 rest h ∙ fix) ∙ e ∙ ap (λ us. Some (found.0, us)) (sym ends);
            may = p.may;
            one = same_valued v found.0 rest found.1 fix may formed h p;
          }

      by_type : (b : Bool) → has_fixed v.0 ≡ b → FoundValued May (valued_at fixed (spell_valued v ++ rest)) v rest
      by_type true fix = by_found fix (fixed (spell_valued v ++ rest)) refl
      by_type false bare = record {
        value = v;
        is = valued_plain fixed (spell_valued v ++ rest) (front_is v.0 v.1 rest h ∙ bare) ∙ plain_is v.0 v.1 rest bare formed.0 formed.1 h;
        may = may;
        one = λ longest. refl;
      }

  pub valued_is : (v : Valued) (rest : List ReadToken) → May v → FormedValued v → LongestValued May v → item_ends rest ≡ true
      → valued_at fixed (spell_valued v ++ rest) ≡ Some (v, rest)
  valued_is v rest may formed longest h =
      let p = valued_found v rest may formed h in
      p.is ∙ ap (λ w. Some (w, rest)) (sym (p.one longest))
