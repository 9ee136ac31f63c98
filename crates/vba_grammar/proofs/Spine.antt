-- Of two places at the front of the same tokens, one begins the other.
use Rattle.std.proofs.Common.{◌≡◌, ℕ, ◌≤◌, Bool, true, false, List, [], ◌∷◌, ◌++◌, length, Some, refl, sym, ap, ◌∙◌, subst, arith, append_assoc, ◌⊎◌, inl, inr, length-append}
use Rattle.vba_lexer.specs.declared.token.Token.{Token}
use Rattle.vba_words.specs.declared.identifier.Identifier.{Identifier}
use Rattle.vba_words.specs.declared.mark.Mark.TheVariants as mark
use Rattle.vba_words.specs.declared.reading.ReadToken.{ReadToken}
use Rattle.vba_words.specs.Spelling.{marked, naming}
use Rattle.vba_words.specs.Words.{identifier_of}
use Rattle.vba_expression.specs.Tree.{Expr, me, name, with_member, member, index, Args}
use Rattle.vba_expression.specs.Spelling.{spell, spell_args}
use Rattle.vba_expression.specs.Fitting.{is_lone, Fits, FitsArgs, is_place}
use Rattle.vba_expression.specs.Taking.{Stops}
use Rattle.vba_expression.proofs.Inverses.{args_again, args_pair}

-- a dot and a name, and a bracket with its arguments, before tokens
abbrev pub dotted : Token → Identifier → List ReadToken → List ReadToken
dotted d x r = marked d mark.Dot ∷ naming x ∷ r

abbrev pub closing : Token → Args → Token → List ReadToken → List ReadToken
closing l xs c r = marked l mark.LeftParenthesis ∷ (spell_args xs ++ marked c mark.RightParenthesis ∷ r)

pub dotted_split : (f : Expr) (d : Token) (x : Identifier) (r : List ReadToken) → spell (member f d x) ++ r ≡ spell f ++ dotted d x r
dotted_split f d x r = append_assoc (spell f) (dotted d x []) r

pub closing_split : (f : Expr) (l : Token) (xs : Args) (c : Token) (r : List ReadToken) → spell (index f l xs c) ++ r ≡ spell f ++ closing l xs c r
closing_split f l xs c r =
    append_assoc (spell f) (closing l xs c []) r
    ∙ ap (λ z. spell f ++ marked l mark.LeftParenthesis ∷ z) (append_assoc (spell_args xs) (marked c mark.RightParenthesis ∷ []) r)

pub head_is : (t u : ReadToken) (r s : List ReadToken) → t ∷ r ≡ u ∷ s → t ≡ u
head_is t u r s e = cc

pub tail_is : (t u : ReadToken) (r s : List ReadToken) → t ∷ r ≡ u ∷ s → r ≡ s
tail_is t u r s e = cc

pub reading_is : (t u : ReadToken) (r s : List ReadToken) → t ∷ r ≡ u ∷ s → t.reading ≡ u.reading
reading_is t u r s e = ap (λ z. z.reading) (head_is t u r s e)

some_name : (x y : Identifier) → Some x ≡ Some y → x ≡ y
some_name x y e = cc

pub naming_same : (x y : Identifier) → naming x ≡ naming y → x ≡ y
naming_same x y e = some_name x y (ap identifier_of e)

token_same : (t u : ReadToken) → t ≡ u → t.token ≡ u.token
token_same t u e = ap (λ z. z.token) e

pub record Same (q : Expr) (s : List ReadToken) (p : Expr) (r : List ReadToken) : Type 0 where
  pub tree : q ≡ p
  pub rest : s ≡ r

-- q begins p, where s is behind q and r behind p
abbrev pub On : Expr → List ReadToken → Expr → List ReadToken → Type 0
On q s (member p d x) r = Same q s (member p d x) r ⊎ On q s p (dotted d x r)
On q s (index p l xs c) r = Same q s (index p l xs c) r ⊎ On q s p (closing l xs c r)
On q s p r = Same q s p r

pub on_same : (q : Expr) (s : List ReadToken) (p : Expr) (r : List ReadToken) → Same q s p r → On q s p r
on_same q s (member p d x) r h = inl h
on_same q s (index p l xs c) r h = inl h
on_same q s other r h = h

-- what begins a place
abbrev pub is_head : Expr → Bool
is_head (me t) = true
is_head (name x) = true
is_head (with_member d x) = true
is_head other = false

heads_same : (p q : Expr) (r s : List ReadToken) → is_head p ≡ true → is_head q ≡ true → spell p ++ r ≡ spell q ++ s → Same p r q s
heads_same (me t) (me u) r s v w e =
    record { tree = ap me (token_same _ _ (head_is _ _ r s e)); rest = tail_is _ _ r s e }
heads_same (name x) (name y) r s v w e =
    record { tree = ap name (naming_same x y (head_is _ _ r s e)); rest = tail_is _ _ r s e }
heads_same (with_member d x) (with_member g y) r s v w e =
    let t = tail_is _ _ (naming x ∷ r) (naming y ∷ s) e in
    let f : d ≡ g = token_same _ _ (head_is _ _ (naming x ∷ r) (naming y ∷ s) e) in
    record { tree = ap (λ z. with_member z x) f ∙ ap (with_member g) (naming_same x y (head_is _ _ r s t)); rest = tail_is _ _ r s t }
heads_same (me t) (name y) r s v w e = let f = reading_is _ _ r s e in absurd cc
heads_same (me t) (with_member g y) r s v w e = let f = reading_is _ _ r (naming y ∷ s) e in absurd cc
heads_same (name x) (me u) r s v w e = let f = reading_is _ _ r s e in absurd cc
heads_same (name x) (with_member g y) r s v w e = let f = reading_is _ _ r (naming y ∷ s) e in absurd cc
heads_same (with_member d x) (me u) r s v w e = let f = reading_is _ _ (naming x ∷ r) s e in absurd cc
heads_same (with_member d x) (name y) r s v w e = let f = reading_is _ _ (naming x ∷ r) s e in absurd cc
heads_same p q r s v w e = absurd cc

head_begins : (p q : Expr) (r s : List ReadToken) → is_head p ≡ true → is_place q ≡ true → spell p ++ r ≡ spell q ++ s → On p r q s
head_begins p (member q d y) r s v w e =
    inr (head_begins p q r (dotted d y s) v w (e ∙ dotted_split q d y s))
head_begins p (index q l ys c) r s v w e =
    inr (head_begins p q r (closing l ys c s) v w (e ∙ closing_split q l ys c s))
head_begins p (me t) r s v w e = heads_same p (me t) r s v refl e
head_begins p (name y) r s v w e = heads_same p (name y) r s v refl e
head_begins p (with_member d y) r s v w e = heads_same p (with_member d y) r s v refl e
head_begins p other r s v w e = absurd cc

-- what a place p grows to by .x, where p begins q
abbrev GrowsDot : Expr → Token → Identifier → List ReadToken → Expr → List ReadToken → Type 0
GrowsDot p d x r q s = On (member p d x) r q s ⊎ Same p (dotted d x r) q s

dot_dot : (p : Expr) (d : Token) (x : Identifier) (r : List ReadToken) (q : Expr) (g : Token) (y : Identifier) (s : List ReadToken)
    → GrowsDot p d x r q (dotted g y s) → GrowsDot p d x r (member q g y) s
dot_dot p d x r q g y s (inl on) = inl (inr on)
dot_dot p d x r q g y s (inr h) =
    let e : d ≡ g = token_same _ _ (head_is _ _ (naming x ∷ r) (naming y ∷ s) h.rest) in
    let f = tail_is _ _ (naming x ∷ r) (naming y ∷ s) h.rest in
    inl (inl (record {
      tree = ap (λ z. member z d x) h.tree ∙ (ap (λ z. member q z x) e ∙ ap (member q g) (naming_same x y (head_is _ _ r s f)));
      rest = tail_is _ _ r s f;
    }))

dot_index : (p : Expr) (d : Token) (x : Identifier) (r : List ReadToken) (q : Expr) (l : Token) (ys : Args) (c : Token) (s : List ReadToken)
    → GrowsDot p d x r q (closing l ys c s) → GrowsDot p d x r (index q l ys c) s
dot_index p d x r q l ys c s (inl on) = inl (inr on)
dot_index p d x r q l ys c s (inr h) =
    let e = reading_is _ _ (naming x ∷ r) (spell_args ys ++ marked c mark.RightParenthesis ∷ s) h.rest in absurd cc

grow_dot : (p : Expr) (d : Token) (x : Identifier) (r : List ReadToken) (q : Expr) (s : List ReadToken) → On p (dotted d x r) q s → GrowsDot p d x r q s
grow_dot p d x r (member q g y) s (inl h) = inr h
grow_dot p d x r (member q g y) s (inr o) = dot_dot p d x r q g y s (grow_dot p d x r q (dotted g y s) o)
grow_dot p d x r (index q l ys c) s (inl h) = inr h
grow_dot p d x r (index q l ys c) s (inr o) = dot_index p d x r q l ys c s (grow_dot p d x r q (closing l ys c s) o)
grow_dot p d x r other s h = inr h

-- and by a bracket
abbrev GrowsIndex : Expr → Token → Args → Token → List ReadToken → Expr → List ReadToken → Type 0
GrowsIndex p k xs b r q s = On (index p k xs b) r q s ⊎ Same p (closing k xs b r) q s

index_dot : (p : Expr) (k : Token) (xs : Args) (b : Token) (r : List ReadToken) (q : Expr) (g : Token) (y : Identifier) (s : List ReadToken)
    → GrowsIndex p k xs b r q (dotted g y s) → GrowsIndex p k xs b r (member q g y) s
index_dot p k xs b r q g y s (inl on) = inl (inr on)
index_dot p k xs b r q g y s (inr h) =
    let e = reading_is _ _ (spell_args xs ++ marked b mark.RightParenthesis ∷ r) (naming y ∷ s) h.rest in absurd cc

-- arguments that are written in full
abbrev pub Written : Args → Type 0
Written xs = FitsArgs xs × (is_lone xs ≡ false)

-- what stands in a bracket is read in one way
bracket_same : (xs ys : Args) (b c : Token) (r s : List ReadToken) → Written xs → Written ys
    → spell_args xs ++ marked b mark.RightParenthesis ∷ r ≡ spell_args ys ++ marked c mark.RightParenthesis ∷ s
    → (xs ≡ ys) × (marked b mark.RightParenthesis ∷ r ≡ marked c mark.RightParenthesis ∷ s)
bracket_same xs ys b c r s w v e =
    args_pair xs ys (marked b mark.RightParenthesis ∷ r) (marked c mark.RightParenthesis ∷ s)
    (sym (args_again (spell_args xs ++ marked b mark.RightParenthesis ∷ r) (marked b mark.RightParenthesis ∷ r) xs
    (record { same = refl; fits = w.0; written = w.1 }) tt)
    ∙ args_again (spell_args xs ++ marked b mark.RightParenthesis ∷ r) (marked c mark.RightParenthesis ∷ s) ys
    (record { same = e; fits = v.0; written = v.1 }) tt)

index_index : (p : Expr) (k : Token) (xs : Args) (b : Token) (r : List ReadToken) (q : Expr) (l : Token) (ys : Args) (c : Token) (s : List ReadToken)
    → Written xs → Written ys → GrowsIndex p k xs b r q (closing l ys c s) → GrowsIndex p k xs b r (index q l ys c) s
index_index p k xs b r q l ys c s w v (inl on) = inl (inr on)
index_index p k xs b r q l ys c s w v (inr h) =
    let inside_k : List ReadToken = spell_args xs ++ marked b mark.RightParenthesis ∷ r in
    let inside_l : List ReadToken = spell_args ys ++ marked c mark.RightParenthesis ∷ s in
    let e : k ≡ l = token_same _ _ (head_is _ _ inside_k inside_l h.rest) in
    let i = bracket_same xs ys b c r s w v (tail_is _ _ inside_k inside_l h.rest) in
    let f : b ≡ c = token_same _ _ (head_is _ _ r s i.1) in
    inl (inl (record {
      tree = ap (λ z. index z k xs b) h.tree ∙ (ap (λ z. index q z xs b) e ∙ (ap (λ z. index q l z b) i.0 ∙ ap (index q l ys) f));
      rest = tail_is _ _ r s i.1;
    }))

grow_index : (p : Expr) (k : Token) (xs : Args) (b : Token) (r : List ReadToken) (q : Expr) (s : List ReadToken) → Written xs → Fits q
    → On p (closing k xs b r) q s → GrowsIndex p k xs b r q s
grow_index p k xs b r (member q g y) s w v (inl h) = inr h
grow_index p k xs b r (member q g y) s w v (inr o) = index_dot p k xs b r q g y s (grow_index p k xs b r q (dotted g y s) w v.1 o)
grow_index p k xs b r (index q l ys c) s w v (inl h) = inr h
grow_index p k xs b r (index q l ys c) s w v (inr o) =
    index_index p k xs b r q l ys c s w (v.2, v.3) (grow_index p k xs b r q (closing l ys c s) w v.1 o)
grow_index p k xs b r other s w v h = inr h

same_back : (p q : Expr) (r s : List ReadToken) → Same p r q s → On q s p r
same_back p q r s h = on_same q s p r (record { tree = sym h.tree; rest = sym h.rest })

-- one begins the other
abbrev pub Near : Expr → List ReadToken → Expr → List ReadToken → Type 0
Near p r q s = On q s p r ⊎ On p r q s

grown_dot : (p : Expr) (d : Token) (x : Identifier) (q : Expr) (r s : List ReadToken) → GrowsDot p d x r q s → Near (member p d x) r q s
grown_dot p d x q r s (inl on) = inr on
grown_dot p d x q r s (inr h) = inl (inr (same_back p q (dotted d x r) s h))

near_dot : (p : Expr) (d : Token) (x : Identifier) (q : Expr) (r s : List ReadToken) → Near p (dotted d x r) q s → Near (member p d x) r q s
near_dot p d x q r s (inl on) = inl (inr on)
near_dot p d x q r s (inr on) = grown_dot p d x q r s (grow_dot p d x r q s on)

grown_index : (p : Expr) (k : Token) (xs : Args) (b : Token) (q : Expr) (r s : List ReadToken) → GrowsIndex p k xs b r q s → Near (index p k xs b) r q s
grown_index p k xs b q r s (inl on) = inr on
grown_index p k xs b q r s (inr h) = inl (inr (same_back p q (closing k xs b r) s h))

near_index : (p : Expr) (k : Token) (xs : Args) (b : Token) (q : Expr) (r s : List ReadToken) → Written xs → Fits q
    → Near p (closing k xs b r) q s → Near (index p k xs b) r q s
near_index p k xs b q r s w v (inl on) = inl (inr on)
near_index p k xs b q r s w v (inr on) = grown_index p k xs b q r s (grow_index p k xs b r q s w v on)

pub near : (p q : Expr) (r s : List ReadToken) → is_place p ≡ true → is_place q ≡ true → Fits p → Fits q → spell p ++ r ≡ spell q ++ s → Near p r q s
near (member p d x) q r s w v f g e =
    near_dot p d x q r s (near p q (dotted d x r) s w v f.1 g (sym (dotted_split p d x r) ∙ e))
near (index p k xs b) q r s w v f g e =
    near_index p k xs b q r s (f.2, f.3) g (near p q (closing k xs b r) s w v f.1 g (sym (closing_split p k xs b r) ∙ e))
near (me t) q r s w v f g e = inr (head_begins (me t) q r s refl v e)
near (name x) q r s w v f g e = inr (head_begins (name x) q r s refl v e)
near (with_member d x) q r s w v f g e = inr (head_begins (with_member d x) q r s refl v e)
near other q r s w v f g e = absurd cc

-- where nothing can be behind, it is the whole
on_stops : (p : Expr) (r : List ReadToken) (q : Expr) (s : List ReadToken) → Stops 1 r → On p r q s → Same p r q s
on_stops p r (member q d x) s st (inl h) = h
on_stops p r (member q d x) s st (inr o) = absurd (subst (Stops 1) (on_stops p r q (dotted d x s) st o).rest st)
on_stops p r (index q l xs c) s st (inl h) = h
on_stops p r (index q l xs c) s st (inr o) = absurd (subst (Stops 1) (on_stops p r q (closing l xs c s) st o).rest st)
on_stops p r other s st h = h

whole_of : (p q : Expr) (r s : List ReadToken) → Stops 1 r → Near p r q s → On q s p r
whole_of p q r s st (inl on) = on
whole_of p q r s st (inr on) = same_back p q r s (on_stops p r q s st on)

pub begins : (p q : Expr) (r s : List ReadToken) → Stops 1 r → is_place p ≡ true → is_place q ≡ true → Fits p → Fits q → spell p ++ r ≡ spell q ++ s
    → On q s p r
begins p q r s st w v f g e = whole_of p q r s st (near p q r s w v f g e)

-- it is no longer
longer : (a b : List ReadToken) (n : ℕ) → n ≤ length a → n ≤ length (a ++ b)
longer a b n h = omega (arith, length-append a b)

same_length : (q p : Expr) → q ≡ p → length (spell q) ≤ length (spell p)
same_length q p e = let f = ap (λ a. length (spell a)) e in omega arith

pub on_length : (q : Expr) (s : List ReadToken) (p : Expr) (r : List ReadToken) → On q s p r → length (spell q) ≤ length (spell p)
on_length q s (member p d x) r (inl h) = same_length q (member p d x) h.tree
on_length q s (member p d x) r (inr o) = longer (spell p) (dotted d x []) _ (on_length q s p (dotted d x r) o)
on_length q s (index p l xs c) r (inl h) = same_length q (index p l xs c) h.tree
on_length q s (index p l xs c) r (inr o) = longer (spell p) (closing l xs c []) _ (on_length q s p (closing l xs c r) o)
on_length q s other r h = same_length q _ h.tree
