-- Where the last `=` parts a length from a value.
use Rattle.std.proofs.Common.{◌≡◌, ℕ, zero, suc, Bool, true, false, length-append, ◌+◌, ◌-◌, ◌<◌, ◌≤◌, List, [], ◌∷◌, ◌++◌, length, get_or, take, drop, Option, Some, None, refl, sym, ap, ◌∙◌, append_assoc, append-nil, arith}
use Rattle.std.specs.Prelude.{if◌then◌else◌}
use Rattle.std.proofs.lemmas.List.{take_more, drop_more, drop_all, take-append-drop, length-drop}
use Rattle.vba_words.specs.declared.reading.ReadToken.{ReadToken}
use Rattle.vba_expression.specs.Tree.{Expr}
use Rattle.vba_tree.specs.Tree.{DefaultValue}
use Rattle.vba_expression.specs.Spelling.{spell}
use Rattle.vba_expression.specs.Reader.{expression_at}
use Rattle.vba_expression.proofs.Inverses.{takes, longest}
use Rattle.vba_grammar.specs.Front.{Found as Finds, ◌>>=◌, or_else, is_equal, is_nothing, whole_at}
use Rattle.vba_grammar.specs.Clauses.{only_expression, last_halves}
use Rattle.vba_grammar.proofs.Binding.{found_pair}
use Rattle.vba_clauses.specs.Seen.{halves_between}

-- what a later `=` allows goes before what an earlier one does
later : (before a b : List ReadToken) (x : (Expr × DefaultValue) × List ReadToken)
    → last_halves (before ++ a) b ≡ Some x → last_halves before (a ++ b) ≡ Some x
later before [] b x h = ap (λ front. last_halves front b) (sym (append-nil before)) ∙ h
later before (t ∷ a) b x h =
    let e = ap (λ front. last_halves front b) (append_assoc before (t ∷ []) a) ∙ h in
    let rest = later (before ++ t ∷ []) a b x e in
    rw rest refl

-- at a place, with the token there
parted_at : (ts : List ReadToken) (k : ℕ) (other : ReadToken) → k < length ts
    → last_halves (take k ts) (drop k ts)
    ≡ or_else (last_halves (take (k + 1) ts) (drop (k + 1) ts)) (halves_between (take k ts) (drop k ts))
parted_at ts k other h =
    let t = get_or ts k other in
    let front = drop_more ts k other h in
    let back = take_more ts k other h in
    ap (last_halves (take k ts)) front
    ∙ ap (λ before. or_else (last_halves before (drop (k + 1) ts)) (halves_between (take k ts) (t ∷ drop (k + 1) ts))) (sym back)
    ∙ ap (λ behind. or_else (last_halves (take (k + 1) ts) (drop (k + 1) ts)) (halves_between (take k ts) behind)) (sym front)

parted : (ts : List ReadToken) (k : ℕ) → k < length ts
    → last_halves (take k ts) (drop k ts)
    ≡ or_else (last_halves (take (k + 1) ts) (drop (k + 1) ts)) (halves_between (take k ts) (drop k ts))
parted [] k h = absurd (omega arith)
parted (t ∷ ts) k h = parted_at (t ∷ ts) k t h

-- no `=` stands at the end
pub none_at_end : (ts : List ReadToken) (k : ℕ) → length ts ≤ k → last_halves (take k ts) (drop k ts) ≡ None
none_at_end ts k h = ap (last_halves (take k ts)) (drop_all k ts h)

-- what the tokens from a place on allow, by what those behind it allow
before_one : (ts before behind : List ReadToken) (n : ℕ) (found : Option ((Expr × DefaultValue) × List ReadToken)) → 0 < n → n ≤ length ts
    → before ≡ take (n - 1) ts → behind ≡ drop (n - 1) ts
    → last_halves (take n ts) (drop n ts) ≡ None → found ≡ halves_between before behind
    → last_halves (take (n - 1) ts) (drop (n - 1) ts) ≡ found
before_one ts before behind n found some within front back after here =
    let k = n - 1 in
    let e : k + 1 ≡ n = omega arith in
    let below : k < length ts = omega arith in
    parted ts k below
    ∙ ap (λ m. or_else (last_halves (take m ts) (drop m ts)) (halves_between (take k ts) (drop k ts))) e
    ∙ ap (λ behind_it. or_else behind_it (halves_between (take k ts) (drop k ts))) after
    ∙ ap (λ tokens. halves_between tokens (drop k ts)) (sym front)
    ∙ ap (halves_between before) (sym back)
    ∙ sym here

-- none that allows it from a place on
pub none_before : (ts before behind : List ReadToken) (n : ℕ) → 0 < n → n ≤ length ts → before ≡ take (n - 1) ts → behind ≡ drop (n - 1) ts
    → last_halves (take n ts) (drop n ts) ≡ None → None ≡ halves_between before behind
    → last_halves (take (n - 1) ts) (drop (n - 1) ts) ≡ None
none_before ts before behind n some within front back after here =
    before_one ts before behind n None some within front back after here

-- none at all
pub none_at_all : (ts : List ReadToken) (n : ℕ) → n ≡ 0 → last_halves (take n ts) (drop n ts) ≡ None → None ≡ last_halves [] ts
none_at_all ts n e none = sym (ap (λ m. last_halves (take m ts) (drop m ts)) (sym e) ∙ none)

-- the last one that allows it
pub found_there : (ts before behind : List ReadToken) (n : ℕ) (x : (Expr × DefaultValue) × List ReadToken) → 0 < n → n ≤ length ts
    → before ≡ take (n - 1) ts → behind ≡ drop (n - 1) ts
    → last_halves (take n ts) (drop n ts) ≡ None → Some x ≡ halves_between before behind
    → Some x ≡ last_halves [] ts
found_there ts before behind n x some within front back after here =
    let there = before_one ts before behind n (Some x) some within front back after here in
    sym (ap (last_halves []) (sym (take-append-drop (n - 1) ts)) ∙ later [] (take (n - 1) ts) (drop (n - 1) ts) x there)

abbrev nothing_found : Finds (Expr × DefaultValue)
nothing_found = None

-- what is found by both, none where the first is none
only_none : (ts : List ReadToken) (k : ℕ) → only_expression (take k ts) ≡ None → halves_between (take k ts) (drop k ts) ≡ None
only_none ts k h = at (drop k ts)
  where
    chosen : (b : Bool) → (if b then nothing_found else nothing_found) ≡ nothing_found
    chosen true = refl
    chosen false = refl

    at : (us : List ReadToken) → halves_between (take k ts) us ≡ None
    at [] = refl
    at (u ∷ us) = rw h (chosen (is_equal u.reading))

-- the longest expression at the front is no shorter than one that is all before an index
no_longer : (ts rest : List ReadToken) (e : Expr) (k : ℕ) → found_pair e rest ≡ expression_at 15 ts → length ts - k < length rest
    → only_expression (take k ts) ≡ None
no_longer ts rest e k h short = at (whole_at (take k ts)) refl
  where
    whole : (found : Expr × List ReadToken) (b : Bool) → is_nothing found.1 ≡ b → whole_at (take k ts) ≡ Some found
        → (if b then Some found.0 else None) ≡ None
    whole found false n f = refl
    whole (u, []) true n f =
        let taken = takes 15 (take k ts) [] u (omega arith) f in
        let same : ts ≡ spell u ++ drop k ts =
        sym (take-append-drop k ts) ∙ ap (λ us. us ++ drop k ts) (taken.same ∙ append-nil (spell u)) in
        let most = longest 15 ts rest (drop k ts) e u (sym h) taken.fits taken.under same in
        absurd (omega (arith, most, length-drop k ts))
    whole (u, t ∷ us) true n f = absurd cc

    at : (o : Finds Expr) → whole_at (take k ts) ≡ o → (o >>= λ u us. if is_nothing us then Some u else None) ≡ None
    at None f = refl
    at (Some found) f = whole found (is_nothing found.1) refl f

-- none ends behind that
none_from : (ts rest : List ReadToken) (e : Expr) (k : ℕ) → found_pair e rest ≡ expression_at 15 ts → k < length rest → k ≤ length ts
    → last_halves (take (length ts - k) ts) (drop (length ts - k) ts) ≡ None
none_from ts rest e zero h short within = none_at_end ts (length ts - 0) (omega arith)
none_from ts rest e (suc k) h short within =
    let m : ℕ = length ts - suc k in
    let next : m + 1 ≡ length ts - k = omega arith in
    let inside : m < length ts = omega arith in
    let later = none_from ts rest e k h (omega arith) (omega arith) in
    parted ts m inside
    ∙ ap (λ n. or_else (last_halves (take n ts) (drop n ts)) (halves_between (take m ts) (drop m ts))) next
    ∙ ap (λ o. or_else o (halves_between (take m ts) (drop m ts))) later
    ∙ only_none ts m (no_longer ts rest e m h (omega arith))

pub none_behind : (ts behind : List ReadToken) (t : ReadToken) (e : Expr) → found_pair e (t ∷ behind) ≡ expression_at 15 ts
    → last_halves (take (length ts - length behind) ts) (drop (length ts - length behind) ts) ≡ None
none_behind ts behind t e h =
    let taken = takes 15 ts (t ∷ behind) e (omega arith) (sym h) in
    let long : length ts ≡ length (spell e) + length (t ∷ behind) = ap length taken.same ∙ length-append (spell e) (t ∷ behind) in
    none_from ts (t ∷ behind) e (length behind) h (omega arith) (omega arith)
