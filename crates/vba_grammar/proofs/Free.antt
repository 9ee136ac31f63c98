-- The laws of reading a statement that begins with no kept word: an assignment without Let, a call, Debug.Print.
use Rattle.std.proofs.Common.{◌≡◌, ◌<◌, Bool, true, false, List, [], ◌∷◌, ◌++◌, length, Some, None, refl, sym, ap, ◌∙◌, subst, arith, append_assoc, ◌⊎◌, inl, inr}
use Rattle.std.specs.Prelude.{if◌then◌else◌, ◌||◌, codes}
use Rattle.std.proofs.lemmas.Bool.{cases_Bool}
use Rattle.std.proofs.lemmas.List.{append-nil, length-append}
use Rattle.vba_words.specs.declared.keyword.Keyword.TheVariants as keyword
use Rattle.vba_words.specs.declared.mark.Mark.TheVariants as mark
use Rattle.vba_words.specs.declared.reading.ReadToken.{ReadToken}
use Rattle.vba_words.specs.Spelling.{word, marked, naming}
use Rattle.vba_expression.specs.declared.part.Part.TheVariants as part
use Rattle.vba_expression.specs.Tree.{Expr, me, name, with_member, member, Args}
use Rattle.vba_expression.specs.Spelling.{spell, spell_args}
use Rattle.vba_expression.specs.Fitting.{is_place}
use Rattle.vba_expression.specs.Parts.{part_of}
use Rattle.vba_expression.proofs.Reducing.{chosen_true, chosen_false}
use Rattle.vba_tree.specs.Tree.{Simple, call, debug_print}
use Rattle.vba_tree.specs.Spelling.{place_word, spell_simple}
use Rattle.vba_tree.specs.Forms.{begins_attribute, begins_print, Formed, is_target}
use Rattle.vba_tree.specs.Fitting.{IsLongest, IsNoPrint, first_part, is_print, Chosen}
use Rattle.vba_grammar.specs.Front.{or_else, ends}
use Rattle.vba_grammar.specs.Laws.{is_if_line, FitsSimple, Ends, IsFoundBefore}
use Rattle.vba_grammar.specs.Places.{assignment_or_call_at}
use Rattle.vba_grammar.specs.Statements.{print_at, free_at}
use Rattle.vba_grammar.proofs.Calm.{cut_same}
use Rattle.vba_grammar.proofs.Spine.{tail_is, reading_is}
use Rattle.vba_grammar.proofs.Graft.{no_dot}
use Rattle.vba_grammar.proofs.PlacesLaws.{is_placed, placed, Read, HeadFirst, head_first, quiet_placed, placed_sound, placed_found, placed_complete}
use Rattle.vba_grammar.proofs.Prints.{print_complete, print_begins, printing, SpellsPrint, PrintGood, print_good, quiet_print}

-- an assignment without Let, a call or Debug.Print
abbrev pub is_free : Simple → Bool
is_free s = is_placed s || is_print s

pub or_is : (a b : Bool) → (a || b) ≡ true → (a ≡ true) ⊎ (b ≡ true)
or_is true b h = inl refl
or_is false b h = inr h

free_placed : (s : Simple) → is_placed s ≡ true → is_free s ≡ true
free_placed s h = ap (λ z. z || is_print s) h

free_print : (s : Simple) → is_print s ≡ true → is_free s ≡ true
free_print (debug_print a b c v items) h = refl
free_print other h = absurd cc

print_not_placed : (s : Simple) → is_print s ≡ true → is_placed s ≡ true → ⊥
print_not_placed (debug_print a b c v items) h k = absurd cc
print_not_placed other h k = absurd cc

-- Debug.Print is read wherever it is written
pub print_read : (s : Simple) (rest : List ReadToken) → is_print s ≡ true → Formed s → ends rest ≡ true
    → free_at (spell_simple s ++ rest) ≡ Some (s, rest)
print_read s rest k w v =
    chosen_true (begins_print (spell_simple s ++ rest)) _ _ (print_begins s rest k)
    ∙ ap (λ o. or_else o (assignment_or_call_at (spell_simple s ++ rest))) (print_complete s rest k w v)

abbrev Found : Simple → List ReadToken → Read
Found s r = Some (s, r)

some_is : (p q : Simple × List ReadToken) → Some p ≡ Some q → p ≡ q
some_is p q h = cc

found_same : (s t : Simple) (r u : List ReadToken) → Found s r ≡ Found t u → s ≡ t
found_same s t r u h = ap (λ p. p.0) (some_is (s, r) (t, u) h)

-- where an assignment or a call is read, no Debug.Print has the same tokens
read_no_print : (s : Simple) (rest : List ReadToken) → is_placed s ≡ true → ends rest ≡ true → free_at (spell_simple s ++ rest) ≡ Some (s, rest) → IsNoPrint s
read_no_print s rest k v h p j w e =
    let f = sym (print_read p rest j w v) ∙ (ap (λ z. free_at (z ++ rest)) e ∙ h) in
    print_not_placed p j (ap is_placed (found_same p s rest rest f) ∙ k)

chosen_as : (s : Simple) → is_placed s ≡ true → IsLongest Formed spell_simple first_part s → IsNoPrint s → Chosen s
chosen_as = placed (λ s. IsLongest Formed spell_simple first_part s → IsNoPrint s → Chosen s) (λ p g e l n. (l, n)) (λ q xs l n. l)

print_chosen : (s : Simple) → is_print s ≡ true → Chosen s
print_chosen (debug_print a b c v items) k = tt
print_chosen other k = absurd cc

print_no_if : (s : Simple) → is_print s ≡ true → is_if_line s ≡ false
print_no_if (debug_print a b c v items) k = refl
print_no_if other k = absurd cc

-- the statement stands at the front and fits, and a statement ends behind it
pub record IsFree (ts : List ReadToken) (s : Simple) (rest : List ReadToken) : Type 0 where
  pub same : ts ≡ spell_simple s ++ rest
  pub fits : FitsSimple s
  pub kind : is_free s ≡ true
  pub over : ends rest ≡ true

from_print : (ts rest : List ReadToken) (s : Simple) → SpellsPrint ts s rest → IsFree ts s rest
from_print ts rest s p = record {
  same = p.same;
  fits = record { formed = p.ok; chosen = print_chosen s p.kind; no_if = print_no_if s p.kind };
  kind = free_print s p.kind;
  over = p.over;
}

from_placed : (ts rest : List ReadToken) (s : Simple) → free_at ts ≡ Some (s, rest) → assignment_or_call_at ts ≡ Some (s, rest) → IsFree ts s rest
from_placed ts rest s h g =
    let p = placed_sound ts rest s g in
    let a = p.0 in
    let n : IsNoPrint s = read_no_print s rest a.kind a.over (ap free_at (sym a.same) ∙ h) in
    record {
      same = a.same;
      fits = record { formed = a.ok; chosen = chosen_as s a.kind p.1 n; no_if = placed (λ z. is_if_line z ≡ false) (λ q m e. refl) (λ q xs. refl) s a.kind };
      kind = free_placed s a.kind;
      over = a.over;
    }

origin : (b : Bool) (a c : Read) (x : Simple × List ReadToken) → (if b then or_else a c else c) ≡ Some x
    → ((b ≡ true) × (a ≡ Some x)) ⊎ (c ≡ Some x)
origin true None c x h = inr h
origin true (Some y) c x h = inl (refl, h)
origin false a c x h = inr h

-- what is read is spelled and fits
pub free_is : (ts rest : List ReadToken) (s : Simple) → free_at ts ≡ Some (s, rest) → IsFree ts s rest
free_is ts rest s h = by_origin (origin (begins_print ts) (print_at ts) (assignment_or_call_at ts) (s, rest) h)
  where
    by_origin : ((begins_print ts ≡ true) × (print_at ts ≡ Some (s, rest))) ⊎ (assignment_or_call_at ts ≡ Some (s, rest)) → IsFree ts s rest
    by_origin (inl p) = from_print ts rest s (subst (PrintGood ts) p.1 (print_good ts p.0))
    by_origin (inr g) = from_placed ts rest s h g

-- no call begins with Debug.Print
print_long : (a us : List ReadToken) → 2 < length a → begins_print (a ++ us) ≡ begins_print a
print_long [] us h = absurd (omega arith)
print_long (x ∷ []) us h = absurd (omega arith)
print_long (x ∷ y ∷ []) us h = absurd (omega arith)
print_long (x ∷ y ∷ z ∷ a) us h = refl

head_length : (ts : List ReadToken) → HeadFirst ts → 0 < length ts
head_length [] h = absurd h
head_length (t ∷ ts) h = omega arith

place_length : (e : Expr) → is_place e ≡ true → 0 < length (spell e)
place_length e h = head_length (spell e) (subst HeadFirst (append-nil (spell e)) (head_first e [] h))

target_print : (q : Expr) (us : List ReadToken) → is_target q ≡ true → ((t : ReadToken) (ts : List ReadToken) → us ≡ t ∷ ts → part_of t ≡ part.Dot → ⊥)
    → begins_print (spell q ++ us) ≡ true → begins_print (spell q) ≡ true
target_print (me x) us k d h = let p = printing (word x keyword.Me ∷ us) h in let f = reading_is _ _ us _ p.same in absurd cc
target_print (with_member g x) us k d h =
    let p = printing (marked g mark.WithDot ∷ naming x ∷ us) h in let f = reading_is _ _ (naming x ∷ us) _ p.same in absurd cc
target_print (name x) us k d h =
    let p = printing (naming x ∷ us) h in
    absurd (d (marked p.dot mark.Dot) (place_word p.print_word (codes "print") ∷ p.rest) (tail_is _ _ us _ p.same) refl)
target_print (member e g x) us k d h =
    sym (print_long (spell (member e g x)) us (omega (arith, place_length e k, length-append (spell e) (marked g mark.Dot ∷ naming x ∷ [])))) ∙ h
target_print other us k d h = absurd cc

call_no_print : (q : Expr) (xs : Args) (rest : List ReadToken) → Formed (call q xs) → ends rest ≡ true → begins_print (spell_simple (call q xs) ++ rest) ≡ true → ⊥
call_no_print q xs rest w v h =
    let f : begins_print (spell q) ≡ true =
    target_print q (spell_args xs ++ rest) w.0 (λ t ts e d. no_dot xs rest ts t w.2 v e d)
    (ap begins_print (sym (append_assoc (spell q) (spell_args xs) rest)) ∙ h) in
    no_or (begins_attribute (spell q)) (begins_print (spell q)) f w.3
  where
    no_or : (a b : Bool) → b ≡ true → (a || b) ≡ false → ⊥
    no_or true b e n = absurd cc
    no_or false b e n = let f = sym e ∙ n in absurd cc

-- an assignment or a call that fits has the tokens of no Debug.Print
fits_no_print : (s : Simple) → is_placed s ≡ true → Formed s → Chosen s → IsNoPrint s
fits_no_print = placed (λ s. Formed s → Chosen s → IsNoPrint s)
    (λ p g e w c. c.1)
    (λ q xs w c p j f e. call_no_print q xs [] w refl (ap (λ z. begins_print (z ++ [])) (sym e) ∙ print_begins p [] j))

fits_longest : (s : Simple) → is_placed s ≡ true → Chosen s → IsLongest Formed spell_simple first_part s
fits_longest = placed (λ s. Chosen s → IsLongest Formed spell_simple first_part s) (λ p g e c. c.0) (λ q xs c. c)

-- where an assignment or a call stands, a Debug.Print that is read ends at the same place
abbrev PrintSame : List ReadToken → Simple → List ReadToken → Read → Type 0
PrintSame ts s rest None = Unit {0}
PrintSame ts s rest (Some pu) = SpellsPrint ts pu.0 pu.1 × (spell_simple pu.0 ≡ spell_simple s) × (pu.1 ≡ rest)

print_same : (s : Simple) (rest : List ReadToken) (o : Read) → is_placed s ≡ true → ends rest ≡ true → PrintGood (spell_simple s ++ rest) o
    → PrintSame (spell_simple s ++ rest) s rest o
print_same s rest None k v g = tt
print_same s rest (Some pu) k v g =
    let c = cut_same (spell_simple s) (spell_simple pu.0) rest pu.1 (quiet_placed s k) (quiet_print pu.0 g.kind) v g.over g.same in
    (g, sym c.0, sym c.1)

placed_read : (s : Simple) (rest : List ReadToken) → is_placed s ≡ true → Formed s → Chosen s → ends rest ≡ true
    → free_at (spell_simple s ++ rest) ≡ Some (s, rest)
placed_read s rest k w c v = by_print (cases_Bool (begins_print ts))
  where
    ts : List ReadToken
    ts = spell_simple s ++ rest

    there : assignment_or_call_at ts ≡ Some (s, rest)
    there = placed_complete s rest k w v (fits_longest s k c)

    by_option : (o : Read) → PrintSame ts s rest o → or_else o (assignment_or_call_at ts) ≡ Some (s, rest)
    by_option None h = there
    by_option (Some pu) h = absurd (fits_no_print s k w c pu.0 h.0.kind h.0.ok h.1)

    by_print : (begins_print ts ≡ true) ⊎ (begins_print ts ≡ false) → free_at ts ≡ Some (s, rest)
    by_print (inl b) =
        chosen_true (begins_print ts) (or_else (print_at ts) (assignment_or_call_at ts)) (assignment_or_call_at ts) b
        ∙ by_option (print_at ts) (print_same s rest (print_at ts) k v (print_good ts b))
    by_print (inr b) = chosen_false (begins_print ts) (or_else (print_at ts) (assignment_or_call_at ts)) (assignment_or_call_at ts) b ∙ there

-- what fits is read
pub free_complete : (s : Simple) (rest : List ReadToken) → is_free s ≡ true → Formed s → Chosen s → Ends rest
    → free_at (spell_simple s ++ rest) ≡ Some (s, rest)
free_complete s rest k w c v = by_kind (or_is (is_placed s) (is_print s) k)
  where
    by_kind : (is_placed s ≡ true) ⊎ (is_print s ≡ true) → free_at (spell_simple s ++ rest) ≡ Some (s, rest)
    by_kind (inl h) = placed_read s rest h w c v
    by_kind (inr h) = print_read s rest h w v

placed_before : (s : Simple) (rest : List ReadToken) → is_placed s ≡ true → Formed s → ends rest ≡ true
    → IsFoundBefore rest (free_at (spell_simple s ++ rest))
placed_before s rest k w v = by_print (cases_Bool (begins_print ts))
  where
    ts : List ReadToken
    ts = spell_simple s ++ rest

    there : IsFoundBefore rest (assignment_or_call_at ts)
    there = placed_found s rest k w v

    by_option : (o : Read) → PrintSame ts s rest o → IsFoundBefore rest (or_else o (assignment_or_call_at ts))
    by_option None h = there
    by_option (Some pu) h = h.2

    by_print : (begins_print ts ≡ true) ⊎ (begins_print ts ≡ false) → IsFoundBefore rest (free_at ts)
    by_print (inl b) =
        subst (IsFoundBefore rest) (sym (chosen_true (begins_print ts) (or_else (print_at ts) (assignment_or_call_at ts)) (assignment_or_call_at ts) b))
        (by_option (print_at ts) (print_same s rest (print_at ts) k v (print_good ts b)))
    by_print (inr b) =
        subst (IsFoundBefore rest) (sym (chosen_false (begins_print ts) (or_else (print_at ts) (assignment_or_call_at ts)) (assignment_or_call_at ts) b)) there

-- where any of these statements stands, one is read that ends at the same place
pub free_found : (s : Simple) (rest : List ReadToken) → is_free s ≡ true → Formed s → Ends rest
    → IsFoundBefore rest (free_at (spell_simple s ++ rest))
free_found s rest k w v = by_kind (or_is (is_placed s) (is_print s) k)
  where
    by_kind : (is_placed s ≡ true) ⊎ (is_print s ≡ true) → IsFoundBefore rest (free_at (spell_simple s ++ rest))
    by_kind (inl h) = placed_before s rest h w v
    by_kind (inr h) = subst (IsFoundBefore rest) (sym (print_read s rest h w v)) refl
