-- What a reading of one part behind another gives, from what each of them gives.
use Rattle.std.proofs.Common.{◌≡◌, Bool, true, false, List, ◌++◌, Option, Some, None, refl, ap, ◌∙◌, subst}
use Rattle.std.specs.Prelude.{if◌then◌else◌}
use Rattle.std.proofs.lemmas.Bool.{cond_both}
use Rattle.vba_words.specs.declared.reading.ReadToken.{ReadToken}
use Rattle.vba_grammar.specs.Front.{Found, ◌>>=◌, or_else, found_as, ends, ending}
use Rattle.vba_grammar.specs.Laws.{IsSound, Ends}

-- what is found, where something is, is so
pub record Told {A : Type 0} (P : A → List ReadToken → Type 0) (found : Found A) : Type 0 where
  pub at : (a : A) (rest : List ReadToken) → found ≡ Some (a, rest) → P a rest

-- what is found at the front of tokens is spelled there, and is good
abbrev pub Spelled : {A : Type 0} → (A → List ReadToken) → (A → Type 0) → List ReadToken → Found A → Type 0
Spelled {A} spelled Good ts found = Told (λ a rest. (ts ≡ spelled a ++ rest) × Good a) found

pub sound_of : {A : Type 0} (spelled : A → List ReadToken) (Good : A → Type 0) (reader : List ReadToken → Found A)
    → ((ts : List ReadToken) → Spelled spelled Good ts (reader ts)) → IsSound spelled Good reader
sound_of spelled Good reader told ts rest a h = (told ts).at a rest h

pub told_of : {A : Type 0} (spelled : A → List ReadToken) (Good : A → Type 0) (reader : List ReadToken → Found A)
    → IsSound spelled Good reader → (ts : List ReadToken) → Spelled spelled Good ts (reader ts)
told_of spelled Good reader sound ts = record { at = λ a rest h. sound ts rest a h }

pair_is : {A : Type 0} (p q : A × List ReadToken) → Some p ≡ Some q → p ≡ q
pair_is p q h = cc

abbrev pub found_pair : {A : Type 0} → A → List ReadToken → Found A
found_pair a rest = Some (a, rest)

pub same_found : {A : Type 0} (a b : A) (r s : List ReadToken) → found_pair a r ≡ found_pair b s → (a ≡ b) × (r ≡ s)
same_found a b r s h = let e = pair_is (a, r) (b, s) h in (ap (λ p. p.0) e, ap (λ p. p.1) e)

pub nothing_told : {A : Type 0} {P : A → List ReadToken → Type 0} → Told P None
nothing_told = record { at = λ a rest h. absurd cc }

pub some_told : {A : Type 0} {P : A → List ReadToken → Type 0} {a : A} {rest : List ReadToken} → P a rest → Told P (Some (a, rest))
some_told {P = P} {a = a} {rest = rest} p = record { at = λ b r h. let e = pair_is (a, rest) (b, r) h in subst (λ q. P q.0 q.1) e p }

pub weaker_told : {A : Type 0} {P Q : A → List ReadToken → Type 0} {m : Found A}
    → Told P m → ((a : A) (rest : List ReadToken) → P a rest → Q a rest) → Told Q m
weaker_told t more = record { at = λ a rest h. more a rest (t.at a rest h) }

-- a part, and what stands behind it
pub then_told : {A B : Type 0} {P : A → List ReadToken → Type 0} {Q : B → List ReadToken → Type 0} {m : Found A} {go : A → List ReadToken → Found B}
    → Told P m → ((a : A) (rest : List ReadToken) → P a rest → Told Q (go a rest)) → Told Q (m >>= go)
then_told {m = None} t more = nothing_told
then_told {m = Some found} t more = more found.0 found.1 (t.at found.0 found.1 refl)

-- a part as a part of something else
pub as_told : {A B : Type 0} {P : A → List ReadToken → Type 0} {Q : B → List ReadToken → Type 0} (make : A → B) {m : Found A}
    → Told P m → ((a : A) (rest : List ReadToken) → P a rest → Q (make a) rest) → Told Q (found_as make m)
as_told make t more = then_told t (λ a rest p. some_told (more a rest p))

-- one of two
pub cond_told : {A : Type 0} {P : A → List ReadToken → Type 0} (b : Bool) (m n : Found A)
    → (b ≡ true → Told P m) → (b ≡ false → Told P n) → Told P (if b then m else n)
cond_told {P = P} b m n t e = cond_both b m n (Told P) t e

pub else_told : {A : Type 0} {P : A → List ReadToken → Type 0} {m n : Found A} → Told P m → Told P n → Told P (or_else m n)
else_told {m = None} t e = e
else_told {m = Some found} t e = t

-- where a statement ends behind it
pub ending_told : {A : Type 0} {P : A → List ReadToken → Type 0} {m : Found A} → Told P m → Told (λ a rest. P a rest × Ends rest) (ending m)
ending_told t = then_told t (λ a rest p. cond_told (ends rest) _ _ (λ e. some_told (p, e)) (λ e. nothing_told))

-- a part is found, and then what stands behind it
pub then_is : {A B : Type 0} {m : Found A} (go : A → List ReadToken → Option B) {a : A} {rest : List ReadToken} {r : Option B}
    → m ≡ Some (a, rest) → go a rest ≡ r → (m >>= go) ≡ r
then_is go h k = ap (λ o. o >>= go) h ∙ k

pub as_is : {A B : Type 0} (make : A → B) {m : Found A} {a : A} {rest : List ReadToken} → m ≡ Some (a, rest) → found_as make m ≡ Some (make a, rest)
as_is make h = ap (found_as make) h

pub if_is : {A : Type 0} {b : Bool} (x y : A) {z : A} → b ≡ true → x ≡ z → (if b then x else y) ≡ z
if_is x y e h = ap (λ c. if c then x else y) e ∙ h

pub if_not : {A : Type 0} {b : Bool} (x y : A) {z : A} → b ≡ false → y ≡ z → (if b then x else y) ≡ z
if_not x y e h = ap (λ c. if c then x else y) e ∙ h

pub ending_is : {A : Type 0} {m : Found A} {a : A} {rest : List ReadToken} → m ≡ Some (a, rest) → Ends rest → ending m ≡ Some (a, rest)
ending_is h e = then_is _ h (if_is _ _ e refl)
