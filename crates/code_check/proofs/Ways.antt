-- The ways along instructions.
use Rattle.std.proofs.Common.{◌≡◌, ◌↔◌, ℕ, ◌+◌, ◌<◌, ◌≤◌, Bool, true, false, not, cond, List, [], ◌∷◌, ◌++◌, length, map, take, drop, get_or, Option, Some, None, refl, sym, ap, ◌∙◌}
use Rattle.std.proofs.lemmas.Bool.{false≢true}
use Rattle.std.proofs.lemmas.List.{map-append, take_all, take_more, take-append-drop}
use Rattle.pcode.specs.Instructions.{Instr}
use Rattle.pcode.specs.WellFormed.{Kind, Way, no_way, brings, along, along_rest, along_all, statement_over}
use Rattle.code_check.specs.View.{step_found, step_way, way_of}

along_append : (a b : List Instr) (w : Way) → along_all (a ++ b) w ≡ along_rest (along_all a w) (along_all b)
along_append [] b w = refl
along_append (i ∷ a) b w = rest (λ v. along_append a b v) (along i w) where
  rest : ((v : Way) → along_all (a ++ b) v ≡ along_rest (along_all a v) (along_all b)) → (o : Option Way) → along_rest o (along_all (a ++ b)) ≡ along_rest (along_rest o (along_all a)) (along_all b)
  rest further None = refl
  rest further (Some v) = further v

some_alone : (o : Option Way) → along_rest o (along_all []) ≡ o
some_alone None = refl
some_alone (Some v) = refl

-- along one more instruction
pub along_more : {A : Type 0} (f : A → Instr) (is : List A) (k : ℕ) (d : A) (v : Way) (o : Option Way) → k < length is → along_all (map f (take k is)) no_way ≡ Some v → along (f (get_or is k d)) v ≡ o
    → along_all (map f (take (k + 1) is)) no_way ≡ o
along_more f is k d v o h before here =
    ap (λ l. along_all l no_way) (ap (map f) (take_more is k d h) ∙ map-append f (take k is) (get_or is k d ∷ []))
    ∙ along_append (map f (take k is)) (f (get_or is k d) ∷ []) no_way
    ∙ ap (λ x. along_rest x (along_all (f (get_or is k d) ∷ []))) before ∙ some_alone (along (f (get_or is k d)) v) ∙ here

-- no way leads past an instruction that lacks its operands
pub along_none : {A : Type 0} (f : A → Instr) (is : List A) (k : ℕ) (w : Way) → along_all (map f (take k is)) no_way ≡ None → along_all (map f is) no_way ≡ Some w → ⊥
along_none f is k w none some =
    let split : along_all (map f is) no_way ≡ along_rest (along_all (map f (take k is)) no_way) (along_all (map f (drop k is))) =
    ap (λ l. along_all (map f l) no_way) (sym (take-append-drop k is)) ∙ ap (λ l. along_all l no_way) (map-append f (take k is) (drop k is)) ∙ along_append (map f (take k is)) (map f (drop k is)) no_way in
    let e : None ≡ Some w = sym (split ∙ ap (λ x. along_rest x (along_all (map f (drop k is)))) none) ∙ some in
    cc

-- where the code ends, no statement may be open
pub along_end : {A : Type 0} (f : A → Instr) (is : List A) (k : ℕ) (b : Bool) (ks : List Kind) → length is ≤ k → along_all (map f (take k is)) no_way ≡ Some (way_of b ks)
    → ((not b ≡ true) ↔ (along_all (map f is) no_way ≡ Some no_way))
along_end f is k true ks h all = (
  λ e. absurd (false≢true e),
  λ e. (let x : Some (brings ks) ≡ Some no_way = sym all ∙ ap (λ l. along_all (map f l) no_way) (take_all k is h) ∙ e in cc),
)
along_end f is k false ks h all = (λ e. ap (λ l. along_all (map f l) no_way) (sym (take_all k is h)) ∙ all, λ e. refl)

-- a step by whether the operands were found
pub found_way : (b : Bool) (ks : List Kind) → cond b (Some (brings ks)) None ≡ step_way (step_found b) ks
found_way true ks = refl
found_way false ks = refl

pub over_or_not : (ks : List Kind) (b : Bool) → ((b ≡ true) ↔ (ks ≡ [])) → b ≡ false → statement_over ks ≡ None
over_or_not [] b f e = absurd (false≢true (sym e ∙ f.1 refl))
over_or_not (k ∷ ks) b f e = refl

pub over : (ks : List Kind) → ks ≡ [] → statement_over ks ≡ Some no_way
over ks e = ap statement_over e
