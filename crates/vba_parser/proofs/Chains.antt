-- Parts one behind another up to the end of a line: all of them, the last missing, or something left over.
use Rattle.std.proofs.Common.{◌≡◌, List, [], ◌∷◌, Some, None, refl, sym, ap, ◌∙◌}
use Rattle.std.specs.Prelude.{option_map}
use Rattle.vba_words.specs.declared.reading.ReadToken.{ReadToken}
use Rattle.vba_grammar.specs.Front.{Found, ◌>>=◌, found_as, whole_line}

-- what stands alone on a line, made into something else
pub whole_as : {A B : Type 0} (make : A → B) (found : Found A) → whole_line (found_as make found) ≡ option_map make (whole_line found)
whole_as make None = refl
whole_as make (Some (part, [])) = refl
whole_as make (Some (part, t ∷ ts)) = refl

-- one part, and the line doesn't end behind a second
pub last_missing : {A B C : Type 0} (first : Found A) (second : List ReadToken → Found B) (make : A → B → C) (a : A) (rest : List ReadToken)
    → first ≡ Some (a, rest) → whole_line (second rest) ≡ None → None ≡ (first >>= λ x ts. whole_line (found_as (make x) (second ts)))
last_missing first second make a rest e f = rw e (sym (whole_as (make a) (second rest) ∙ ap (option_map (make a)) f))

-- one part, and the second to the end of the line
pub last_found : {A B C : Type 0} (first : Found A) (second : List ReadToken → Found B) (make : A → B → C) (a : A) (rest : List ReadToken) (b : B)
    → first ≡ Some (a, rest) → whole_line (second rest) ≡ Some b → Some (make a b) ≡ (first >>= λ x ts. whole_line (found_as (make x) (second ts)))
last_found first second make a rest b e f = rw e (sym (whole_as (make a) (second rest) ∙ ap (option_map (make a)) f))

-- two parts, and the line doesn't end behind a third
pub third_missing : {A B C D : Type 0} (first : Found A) (second : List ReadToken → Found B) (third : List ReadToken → Found C)
    (make : A → B → C → D) (a : A) (rest : List ReadToken) (b : B) (behind : List ReadToken)
    → first ≡ Some (a, rest) → second rest ≡ Some (b, behind) → whole_line (third behind) ≡ None
    → None ≡ (first >>= λ x ts. second ts >>= λ y us. whole_line (found_as (make x y) (third us)))
third_missing first second third make a rest b behind e f g =
    rw (e, f) (sym (whole_as (make a b) (third behind) ∙ ap (option_map (make a b)) g))

-- two parts, and the third to the end of the line
pub third_found : {A B C D : Type 0} (first : Found A) (second : List ReadToken → Found B) (third : List ReadToken → Found C)
    (make : A → B → C → D) (a : A) (rest : List ReadToken) (b : B) (behind : List ReadToken) (c : C)
    → first ≡ Some (a, rest) → second rest ≡ Some (b, behind) → whole_line (third behind) ≡ Some c
    → Some (make a b c) ≡ (first >>= λ x ts. second ts >>= λ y us. whole_line (found_as (make x y) (third us)))
third_found first second third make a rest b behind c e f g =
    rw (e, f) (sym (whole_as (make a b) (third behind) ∙ ap (option_map (make a b)) g))
