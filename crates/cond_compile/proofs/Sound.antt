-- What is read is a fitting tree that spells the tokens.
use Rattle.std.proofs.Common.{◌≡◌, ℕ, suc, ◌<◌, ◌≤◌, Bool, true, false, List, [], ◌∷◌, ◌++◌, Option, Some, None, refl, sym, ap, ◌∙◌, subst, arith, append_assoc}
use Rattle.std.specs.Prelude.{nat_lt, if◌then◌else◌}
use Rattle.std.proofs.lemmas.Bool.{ltb-true, ltb-false, cond_both}
use Rattle.std.proofs.lemmas.List.{append-nil}
use Rattle.cond_compile.specs.declared.operator.Operator.{Operator}
use Rattle.cond_compile.specs.declared.operator.Operator.TheVariants as op
use Rattle.cond_compile.specs.declared.operator.Prefix.TheVariants as prefixes
use Rattle.cond_compile.specs.Expressions.{Expression, leaf, prefixed, binary, missing, named, list, name, spelling, operator_level, prefix_level, prefix_piece, dot_piece, level, Fits, Spells}
use Rattle.cond_compile.specs.Pieces as piece
use Rattle.cond_compile.specs.Pieces.{Piece, is_then}
use Rattle.cond_compile.specs.Reader.{Frame, Binary, Prefixed, Paren, Index, TypeTest, Named, Listed, Waiting, WithMember, NewObject, Member, TypeName, State, Want, Name, Have, Wait, room, reduce, opened, tested, operated, closed, want, have, behind_name, wait, next, run, whole, finish, with_rest, trees, Reading, ToEnd, BeforeThen, Other, reading_of, expression_at}
use Rattle.cond_compile.proofs.Complete.{Frames, Pieces, steps, runs, of_operator}

-- what was read so far
abbrev told : Frame Expression → Pieces
told (Binary o a) = spelling a ++ piece.operator o ∷ []
told (Prefixed p) = prefix_piece p ∷ []
told Paren = piece.left ∷ []
told (Index f) = spelling f ++ piece.left ∷ []
told TypeTest = piece.type_of ∷ []
told (Named n) = piece.name n ∷ piece.gets ∷ []
told (Listed xs) = spelling xs ++ piece.comma ∷ []

abbrev frames : Frames → Pieces
frames [] = []
frames (f ∷ fs) = frames fs ++ told f

abbrev told_wait : Waiting Expression → Pieces
told_wait (WithMember apart) = dot_piece apart ∷ []
told_wait NewObject = piece.new_ ∷ []
told_wait (Member e) = spelling e ++ piece.dot ∷ []
told_wait (TypeName e) = piece.type_of ∷ (spelling e ++ piece.operator op.Is ∷ [])

abbrev so_far : State Expression → Pieces
so_far (Want fs) = frames fs
so_far (Name n fs) = frames fs ++ piece.name n ∷ []
so_far (Have e fs) = frames fs ++ spelling e
so_far (Wait w fs) = frames fs ++ told_wait w

abbrev FitsFrame : Frame Expression → Frames → Type 0
FitsFrame (Binary o a) fs = (level a ≤ operator_level o) × Fits a × (operator_level o < room fs)
FitsFrame (Prefixed p) fs = prefix_level p < room fs
FitsFrame Paren fs = Unit {0}
FitsFrame (Index f) fs = (level f ≤ 0) × Fits f
FitsFrame TypeTest fs = Unit {0}
FitsFrame (Named n) fs = 15 < room fs
FitsFrame (Listed xs) fs = Fits xs × (16 < room fs)

abbrev FitsFrames : Frames → Type 0
FitsFrames [] = Unit {0}
FitsFrames (f ∷ fs) = FitsFrame f fs × FitsFrames fs

abbrev FitsWait : Waiting Expression → Type 0
FitsWait (WithMember apart) = Unit {0}
FitsWait NewObject = Unit {0}
FitsWait (Member e) = (level e ≤ 0) × Fits e
FitsWait (TypeName e) = (level e ≤ 0) × Fits e

abbrev FitsState : State Expression → Type 0
FitsState (Want fs) = FitsFrames fs
FitsState (Name n fs) = FitsFrames fs
FitsState (Have e fs) = (level e ≤ 0) × Fits e × FitsFrames fs
FitsState (Wait w fs) = FitsWait w × FitsFrames fs

-- an operand of a level at most, below frames that have room for it
record Reduced (k : ℕ) (ts : Pieces) (p : Expression × Frames) : Type 0 where
  pub same : frames p.1 ++ spelling p.0 ≡ ts
  pub fits : Fits p.0
  pub below : FitsFrames p.1
  pub tight : level p.0 ≤ k
  pub under : level p.0 < room p.1

reduced_if : (k n : ℕ) (ts : Pieces) (x y : Expression × Frames) → (k < n → Reduced k ts x) → (n ≤ k → Reduced k ts y) → Reduced k ts (if nat_lt k n then x else y)
reduced_if k n ts x y h g = cond_both (nat_lt k n) x y (λ p. Reduced k ts p) (λ e. h (ltb-true k n e)) (λ e. g (ltb-false k n e))

with_text : (k : ℕ) (ts us : Pieces) (p : Expression × Frames) → ts ≡ us → Reduced k ts p → Reduced k us p
with_text k ts us p e r = record { same = r.same ∙ e; fits = r.fits; below = r.below; tight = r.tight; under = r.under }

binary_text : (f s e : Pieces) (t : Piece) → f ++ (s ++ t ∷ e) ≡ (f ++ (s ++ t ∷ [])) ++ e
binary_text f s e t = simp append_assoc

two_text : (f e : Pieces) (t u : Piece) → f ++ t ∷ u ∷ e ≡ (f ++ t ∷ u ∷ []) ++ e
two_text f e t u = simp append_assoc

reduced : (k : ℕ) (e : Expression) (fs : Frames) → FitsFrames fs → Fits e → level e < room fs → level e ≤ k → Reduced k (frames fs ++ spelling e) (reduce trees k e fs)
reduced k e [] w v l m = record { same = refl; fits = v; below = w; tight = m; under = l }
reduced k e (Binary o a ∷ fs) w v l m = reduced_if k (operator_level o) _ _ _
    (λ lt. record { same = refl; fits = v; below = w; tight = m; under = l })
    (λ le. with_text k _ _ _ (binary_text (frames fs) (spelling a) (spelling e) (piece.operator o)) (reduced k (binary o a e) fs w.1 (w.0.0, l, w.0.1, v) w.0.2 le))
reduced k e (Prefixed p ∷ fs) w v l m = reduced_if k (suc (prefix_level p)) _ _ _
    (λ lt. record { same = refl; fits = v; below = w; tight = m; under = l })
    (λ le. with_text k _ _ _ (sym (append_assoc (frames fs) (prefix_piece p ∷ []) (spelling e))) (reduced k (prefixed p e) fs w.1 (omega arith, v) w.0 (omega arith)))
reduced k e (Named n ∷ fs) w v l m = reduced_if k 15 _ _ _
    (λ lt. record { same = refl; fits = v; below = w; tight = m; under = l })
    (λ le. with_text k _ _ _ (two_text (frames fs) (spelling e) (piece.name n) piece.gets) (reduced k (named n e) fs w.1 (omega arith, v) w.0 le))
reduced k e (Listed xs ∷ fs) w v l m = reduced_if k 16 _ _ _
    (λ lt. record { same = refl; fits = v; below = w; tight = m; under = l })
    (λ le. with_text k _ _ _ (binary_text (frames fs) (spelling xs) (spelling e) piece.comma) (reduced k (list xs e) fs w.1 (omega arith, w.0.0, v) w.0.1 le))
reduced k e (Paren ∷ fs) w v l m = record { same = refl; fits = v; below = w; tight = m; under = l }
reduced k e (Index f ∷ fs) w v l m = record { same = refl; fits = v; below = w; tight = m; under = l }
reduced k e (TypeTest ∷ fs) w v l m = record { same = refl; fits = v; below = w; tight = m; under = l }

room_above : (fs : Frames) → 0 < room fs
room_above [] = omega arith
room_above (Binary o a ∷ fs) = let ok = of_operator o in omega (arith, ok.above)
room_above (Prefixed p ∷ fs) = omega arith
room_above (Paren ∷ fs) = omega arith
room_above (Index f ∷ fs) = omega arith
room_above (TypeTest ∷ fs) = omega arith
room_above (Named n ∷ fs) = omega arith
room_above (Listed xs ∷ fs) = omega arith

ready : (k : ℕ) (e : Expression) (fs : Frames) → FitsState (Have e fs) → Reduced k (frames fs ++ spelling e) (reduce trees k e fs)
ready k e fs w = reduced k e fs w.2 w.1 (omega (arith, room_above fs, w.0)) (omega (arith, w.0))

-- what a step makes of it
abbrev Told : Pieces → Option (State Expression) → Type 0
Told ts None = Unit {0}
Told ts (Some s) = (so_far s ≡ ts) × FitsState s

told_if : (b : Bool) (ts : Pieces) (o : Option (State Expression)) → (b ≡ true → Told ts o) → Told ts (if b then o else None)
told_if true ts o h = h refl
told_if false ts o h = tt

told_opened : (k : ℕ) (f : Frame Expression) (fs : Frames) (ts : Pieces) → frames fs ++ told f ≡ ts → (k < room fs → FitsFrame f fs) → FitsFrames fs → Told ts (opened k f fs)
told_opened k f fs ts e h w = told_if (nat_lt k (room fs)) ts (Some (Want (f ∷ fs))) (λ b. (e, (h (ltb-true k (room fs) b), w)))

bracket_text : (f e r : Pieces) (t : Piece) → f ++ t ∷ (e ++ r) ≡ ((f ++ t ∷ []) ++ e) ++ r
bracket_text f e r t = simp append_assoc

index_text : (f s e r : Pieces) (t : Piece) → f ++ (s ++ t ∷ (e ++ r)) ≡ ((f ++ (s ++ t ∷ [])) ++ e) ++ r
index_text f s e r t = simp append_assoc

told_closed : (e : Expression) (fs : Frames) (k : ℕ) (ts : Pieces) → Reduced k ts (e, fs) → Told (ts ++ piece.right ∷ []) (closed trees e fs)
told_closed e (Paren ∷ fs) k ts r =
    (bracket_text (frames fs) (spelling e) (piece.right ∷ []) piece.left ∙ ap (λ us. us ++ piece.right ∷ []) r.same, (omega arith, (omega (arith, r.under), r.fits), r.below.1))
told_closed e (Index f ∷ fs) k ts r = (
  index_text (frames fs) (spelling f) (spelling e) (piece.right ∷ []) piece.left ∙ ap (λ us. us ++ piece.right ∷ []) r.same,
  (omega arith, (r.below.0.0, r.below.0.1, r.fits), r.below.1),
)
told_closed e [] k ts r = tt
told_closed e (Binary o a ∷ fs) k ts r = tt
told_closed e (Prefixed p ∷ fs) k ts r = tt
told_closed e (TypeTest ∷ fs) k ts r = tt
told_closed e (Named n ∷ fs) k ts r = tt
told_closed e (Listed xs ∷ fs) k ts r = tt

told_tested : (o : Operator) (e : Expression) (fs : Frames) (k : ℕ) (ts : Pieces) → Reduced k ts (e, TypeTest ∷ fs) → Told (ts ++ piece.operator o ∷ []) (tested o e fs)
told_tested op.Is e fs k ts r = (
  bracket_text (frames fs) (spelling e) (piece.operator op.Is ∷ []) piece.type_of ∙ ap (λ us. us ++ piece.operator op.Is ∷ []) r.same,
  ((omega (arith, r.under), r.fits), r.below.1),
)
told_tested o e fs k ts r = tt

told_binary : (o : Operator) (e : Expression) (fs : Frames) (ts : Pieces) → Reduced (operator_level o) ts (e, fs)
    → Told (ts ++ piece.operator o ∷ []) (opened (operator_level o) (Binary o e) fs)
told_binary o e fs ts r =
    told_opened (operator_level o) (Binary o e) fs (ts ++ piece.operator o ∷ [])
    (sym (append_assoc (frames fs) (spelling e) (piece.operator o ∷ [])) ∙ ap (λ us. us ++ piece.operator o ∷ []) r.same)
    (λ lt. (r.tight, r.fits, lt)) r.below

told_operated : (o : Operator) (e : Expression) (fs : Frames) (ts : Pieces) → Reduced (operator_level o) ts (e, fs)
    → Told (ts ++ piece.operator o ∷ []) (operated o e fs)
told_operated o e (TypeTest ∷ fs) ts r = told_tested o e fs (operator_level o) ts r
told_operated o e [] ts r = told_binary o e [] ts r
told_operated o e (Binary q a ∷ fs) ts r = told_binary o e (Binary q a ∷ fs) ts r
told_operated o e (Prefixed p ∷ fs) ts r = told_binary o e (Prefixed p ∷ fs) ts r
told_operated o e (Paren ∷ fs) ts r = told_binary o e (Paren ∷ fs) ts r
told_operated o e (Index f ∷ fs) ts r = told_binary o e (Index f ∷ fs) ts r
told_operated o e (Named n ∷ fs) ts r = told_binary o e (Named n ∷ fs) ts r
told_operated o e (Listed xs ∷ fs) ts r = told_binary o e (Listed xs ∷ fs) ts r

told_comma : (e : Expression) (fs : Frames) (ts : Pieces) → Reduced 16 ts (e, fs) → Told (ts ++ piece.comma ∷ []) (opened 16 (Listed e) fs)
told_comma e fs ts r =
    told_opened 16 (Listed e) fs (ts ++ piece.comma ∷ [])
    (sym (append_assoc (frames fs) (spelling e) (piece.comma ∷ [])) ∙ ap (λ us. us ++ piece.comma ∷ []) r.same)
    (λ lt. (r.fits, lt)) r.below

-- a missing argument, where there may be one
missing_ready : (fs : Frames) → 15 < room fs → FitsFrames fs → Reduced 16 (frames fs) (reduce trees 16 missing fs)
missing_ready fs lt w = with_text 16 _ _ _ (append-nil (frames fs)) (reduced 16 missing fs w tt lt (omega arith))

told_want : (fs : Frames) (p : Piece) → FitsFrames fs → Told (frames fs ++ p ∷ []) (want trees leaf fs p)
told_want fs (piece.literal value) w = (refl, (omega arith, tt, w))
told_want fs (piece.name n) w = (refl, w)
told_want fs piece.me w = (refl, (omega arith, tt, w))
told_want fs (piece.operator op.Minus) w = told_opened 2 (Prefixed prefixes.Minus) fs _ refl (λ lt. lt) w
told_want fs (piece.operator o) w = tt
told_want fs piece.not_ w = told_opened 9 (Prefixed prefixes.Not) fs _ refl (λ lt. lt) w
told_want fs piece.new_ w = (refl, (tt, w))
told_want fs piece.type_of w = (refl, (tt, w))
told_want fs piece.left w = (refl, (tt, w))
told_want fs piece.right w =
    told_if (nat_lt 15 (room fs)) _ _ (λ b. told_closed (reduce trees 16 missing fs).0 (reduce trees 16 missing fs).1 16 (frames fs) (missing_ready fs (ltb-true 15 (room fs) b) w))
told_want fs piece.comma w =
    told_if (nat_lt 15 (room fs)) _ _ (λ b. told_comma (reduce trees 16 missing fs).0 (reduce trees 16 missing fs).1 (frames fs) (missing_ready fs (ltb-true 15 (room fs) b) w))
told_want fs piece.dot w = (refl, (tt, w))
told_want fs piece.apart_dot w = (refl, (tt, w))
told_want fs piece.gets w = tt
told_want fs piece.then_ w = tt
told_want fs piece.other w = tt

told_have : (e : Expression) (fs : Frames) (p : Piece) → FitsState (Have e fs) → Told ((frames fs ++ spelling e) ++ p ∷ []) (have trees e fs p)
told_have e fs (piece.operator o) w =
    told_operated o (reduce trees (operator_level o) e fs).0 (reduce trees (operator_level o) e fs).1 (frames fs ++ spelling e) (ready (operator_level o) e fs w)
told_have e fs piece.left w = (sym (append_assoc (frames fs) (spelling e) (piece.left ∷ [])), ((w.0, w.1), w.2))
told_have e fs piece.right w = told_closed (reduce trees 16 e fs).0 (reduce trees 16 e fs).1 16 (frames fs ++ spelling e) (ready 16 e fs w)
told_have e fs piece.comma w = told_comma (reduce trees 16 e fs).0 (reduce trees 16 e fs).1 (frames fs ++ spelling e) (ready 16 e fs w)
told_have e fs piece.dot w = (sym (append_assoc (frames fs) (spelling e) (piece.dot ∷ [])), ((w.0, w.1), w.2))
told_have e fs (piece.literal value) w = tt
told_have e fs (piece.name n) w = tt
told_have e fs piece.me w = tt
told_have e fs piece.not_ w = tt
told_have e fs piece.new_ w = tt
told_have e fs piece.type_of w = tt
told_have e fs piece.apart_dot w = tt
told_have e fs piece.gets w = tt
told_have e fs piece.then_ w = tt
told_have e fs piece.other w = tt

told_name : (n : List ℕ) (fs : Frames) (p : Piece) → FitsFrames fs → Told ((frames fs ++ piece.name n ∷ []) ++ p ∷ []) (behind_name trees leaf n fs p)
told_name n fs piece.gets w =
    told_opened 15 (Named n) fs _ (sym (append_assoc (frames fs) (piece.name n ∷ []) (piece.gets ∷ []))) (λ lt. lt) w
told_name n fs p w = told_have (leaf (name n)) fs p (omega arith, tt, w)

told_waited : (w : Waiting Expression) (fs : Frames) (p : Piece) → FitsState (Wait w fs) → Told ((frames fs ++ told_wait w) ++ p ∷ []) (wait trees w fs p)
told_waited (WithMember apart) fs (piece.name n) h = (sym (append_assoc (frames fs) (dot_piece apart ∷ []) (piece.name n ∷ [])), (omega arith, tt, h.1))
told_waited NewObject fs (piece.name n) h = (sym (append_assoc (frames fs) (piece.new_ ∷ []) (piece.name n ∷ [])), (omega arith, tt, h.1))
told_waited (Member e) fs (piece.name n) h = (simp append_assoc, (omega arith, h.0, h.1))
told_waited (TypeName e) fs (piece.name n) h = (simp append_assoc, (omega arith, h.0, h.1))
told_waited w fs p h = tt

told_step : (s : State Expression) (p : Piece) → FitsState s → Told (so_far s ++ p ∷ []) (steps s p)
told_step (Want fs) p w = told_want fs p w
told_step (Name n fs) p w = told_name n fs p w
told_step (Have e fs) p w = told_have e fs p w
told_step (Wait x fs) p w = told_waited x fs p w

-- what a reading leaves
abbrev Ran : Pieces → State Expression × Pieces → Type 0
Ran ts r = (so_far r.0 ++ r.1 ≡ ts) × FitsState r.0

told_go : (s : State Expression) (p : Piece) (ps : Pieces) (o : Option (State Expression)) → FitsState s → Told (so_far s ++ p ∷ []) o
    → ((t : State Expression) → FitsState t → Ran (so_far t ++ ps) (runs t ps)) → Ran (so_far s ++ p ∷ ps) (next o (λ t. run trees leaf t ps) (s, p ∷ ps))
told_go s p ps None w h more = (refl, w)
told_go s p ps (Some t) w h more =
    let r = more t h.1 in (r.0 ∙ (ap (λ us. us ++ ps) h.0 ∙ append_assoc (so_far s) (p ∷ []) ps), r.1)

told_run : (s : State Expression) (ps : Pieces) → FitsState s → Ran (so_far s ++ ps) (runs s ps)
told_run s [] w = (refl, w)
told_run s (p ∷ ps) w = told_go s p ps (steps s p) w (told_step s p w) (λ t u. told_run t ps u)

abbrev IfFound : Pieces → Pieces → Option Expression → Type 0
IfFound ts rest None = Unit {0}
IfFound ts rest (Some e) = Spells ts rest e

found_whole : (ts us rest : Pieces) (e : Expression) (fs : Frames) → us ++ rest ≡ ts → Reduced 14 us (e, fs) → IfFound ts rest (whole e fs)
found_whole ts us rest e [] same r = record { same = sym same ∙ ap (λ xs. xs ++ rest) (sym r.same); fits = r.fits; whole = r.tight }
found_whole ts us rest e (f ∷ fs) same r = tt

found : (ts : Pieces) (s : State Expression) (rest : Pieces) → Ran ts (s, rest) → IfFound ts rest (finish trees leaf s)
found ts (Have e fs) rest r = found_whole ts (frames fs ++ spelling e) rest _ _ r.0 (ready 14 e fs r.1)
found ts (Name n fs) rest r = found_whole ts (frames fs ++ piece.name n ∷ []) rest _ _ r.0 (ready 14 (leaf (name n)) fs (omega arith, tt, r.1))
found ts (Want fs) rest r = tt
found ts (Wait w fs) rest r = tt

-- what a reading is
abbrev IsReading : Pieces → Reading Expression → Type 0
IsReading ts (ToEnd e) = Spells ts [] e
IsReading ts (BeforeThen e) = Spells ts (piece.then_ ∷ []) e
IsReading ts Other = Unit {0}

before_then : (ts : Pieces) (p : Piece) (e : Expression) → Spells ts (p ∷ []) e → IsReading ts (if is_then p then BeforeThen e else Other)
before_then ts piece.then_ e f = f
before_then ts p e f = tt

is_reading : (ts rest : Pieces) (o : Option Expression) → IfFound ts rest o → IsReading ts (reading_of (with_rest rest o))
is_reading ts rest None f = tt
is_reading ts [] (Some e) f = f
is_reading ts (p ∷ []) (Some e) f = before_then ts p e f
is_reading ts (p ∷ q ∷ ps) (Some e) f = tt

sound : (ts : Pieces) → IsReading ts (reading_of (expression_at ts))
sound ts =
    let r = runs (Want []) ts in
    is_reading ts r.1 (finish trees leaf r.0) (found ts r.0 r.1 (told_run (Want []) ts tt))

pub found_to_end : (ts : Pieces) (e : Expression) → reading_of (expression_at ts) ≡ ToEnd e → Spells ts [] e
found_to_end ts e same = subst (IsReading ts) same (sound ts)

pub found_before_then : (ts : Pieces) (e : Expression) → reading_of (expression_at ts) ≡ BeforeThen e → Spells ts (piece.then_ ∷ []) e
found_before_then ts e same = subst (IsReading ts) same (sound ts)
