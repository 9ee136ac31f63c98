-- A statement that begins with no kept word, or with Me, is read by what stands at its front; the laws of all statements, by those of kept words.
use Rattle.std.proofs.Common.{◌≡◌, Bool, true, false, List, [], ◌∷◌, ◌++◌, Some, None, refl, sym, ◌∙◌, subst, ◌⊎◌, inl, inr}
use Rattle.std.proofs.lemmas.Bool.{cond_both, cases_Bool}
use Rattle.vba_lexer.specs.declared.token.Token.{Token}
use Rattle.vba_words.specs.declared.keyword.Keyword.{Keyword}
use Rattle.vba_words.specs.declared.keyword.Keyword.TheVariants as keyword
use Rattle.vba_words.specs.declared.reading.Reading.{Reading}
use Rattle.vba_words.specs.declared.reading.Reading.TheVariants as reading
use Rattle.vba_words.specs.declared.reading.ReadToken.{ReadToken}
use Rattle.vba_words.specs.Spelling.{read, word}
use Rattle.vba_expression.specs.Parts.{reading_part}
use Rattle.vba_tree.specs.Tree.{Simple, debug_print}
use Rattle.vba_tree.specs.Spelling.{spell_simple}
use Rattle.vba_tree.specs.Forms.{Formed}
use Rattle.vba_tree.specs.Fitting.{is_print, Chosen}
use Rattle.vba_grammar.specs.Front.{ends, ending}
use Rattle.vba_grammar.specs.Laws.{is_if_line, FitsSimple, Ends, IsFoundBefore, SimpleLaws}
use Rattle.vba_grammar.specs.Statements.{free_at, kept_at, simple_at}
use Rattle.vba_grammar.proofs.PlacesLaws.{Read, is_placed, is_head_part, HeadFirst, placed_first}
use Rattle.vba_grammar.proofs.Free.{is_free, or_is, free_is, free_complete, free_found}

-- a kept word other than Me
abbrev pub is_kept : Reading → Bool
is_kept (reading.Keyword keyword.Me) = false
is_kept (reading.Keyword kept) = true
is_kept other = false

pub unkept_free : (token : Token) (k : Reading) (ts : List ReadToken) → is_kept k ≡ false → simple_at (read token k ∷ ts) ≡ free_at (read token k ∷ ts)
unkept_free token (reading.Keyword keyword.Me) ts h = refl
unkept_free token (reading.Keyword kept) ts h = absurd cc
unkept_free token other ts h = refl

pub kept_read : (token : Token) (kept : Keyword) (ts : List ReadToken) → is_kept (reading.Keyword kept) ≡ true
    → simple_at (word token kept ∷ ts) ≡ ending (kept_at token kept ts)
kept_read token keyword.Me ts h = absurd cc
kept_read token other ts h = refl

head_unkept : (token : Token) (k : Reading) → is_head_part (reading_part token k) ≡ true → is_kept k ≡ false
head_unkept token (reading.Keyword keyword.Me) h = refl
head_unkept token (reading.Keyword kept) h = absurd cc
head_unkept token other h = refl

pub head_free : (ts : List ReadToken) → HeadFirst ts → simple_at ts ≡ free_at ts
head_free [] h = absurd h
head_free (t ∷ ts) h = unkept_free t.token t.reading ts (head_unkept t.token t.reading h)

pub free_first : (s : Simple) (rest : List ReadToken) → is_free s ≡ true → Formed s → HeadFirst (spell_simple s ++ rest)
free_first s rest k w = by_kind (or_is (is_placed s) (is_print s) k)
  where
    print_first : (p : Simple) → is_print p ≡ true → HeadFirst (spell_simple p ++ rest)
    print_first (debug_print a b c v items) j = refl
    print_first other j = absurd cc

    by_kind : (is_placed s ≡ true) ⊎ (is_print s ≡ true) → HeadFirst (spell_simple s ++ rest)
    by_kind (inl h) = placed_first s rest h w
    by_kind (inr h) = print_first s h

-- an assignment without Let, a call and Debug.Print are read as `free_at` does
pub simple_free : (s : Simple) (rest : List ReadToken) → is_free s ≡ true → Formed s → simple_at (spell_simple s ++ rest) ≡ free_at (spell_simple s ++ rest)
simple_free s rest k w = head_free (spell_simple s ++ rest) (free_first s rest k w)

pub simple_free_complete : (s : Simple) (rest : List ReadToken) → is_free s ≡ true → Formed s → Chosen s → Ends rest
    → simple_at (spell_simple s ++ rest) ≡ Some (s, rest)
simple_free_complete s rest k w c v = simple_free s rest k w ∙ free_complete s rest k w c v

pub simple_free_found : (s : Simple) (rest : List ReadToken) → is_free s ≡ true → Formed s → Ends rest
    → IsFoundBefore rest (simple_at (spell_simple s ++ rest))
simple_free_found s rest k w v = subst (IsFoundBefore rest) (sym (simple_free s rest k w)) (free_found s rest k w v)

-- the laws of reading a statement behind a kept word, and that all others begin with one
pub record KeptLaws : Type 0 where
  pub sound : (token : Token) (kept : Keyword) (ts rest : List ReadToken) (s : Simple) → is_kept (reading.Keyword kept) ≡ true
      → ending (kept_at token kept ts) ≡ Some (s, rest) → (word token kept ∷ ts ≡ spell_simple s ++ rest) × FitsSimple s
  pub complete : (s : Simple) (rest : List ReadToken) → is_free s ≡ false → FitsSimple s → Ends rest → simple_at (spell_simple s ++ rest) ≡ Some (s, rest)
  pub found : (s : Simple) (rest : List ReadToken) → is_free s ≡ false → Formed s → is_if_line s ≡ false → Ends rest
      → IsFoundBefore rest (simple_at (spell_simple s ++ rest))

abbrev OverIf : Read → Type 0
OverIf None = Unit {0}
OverIf (Some sr) = Ends sr.1

ending_over : (o : Read) → OverIf (ending o)
ending_over None = tt
ending_over (Some sr) = cond_both (ends sr.1) (Some (sr.0, sr.1)) None OverIf (λ h. h) (λ h. tt)

pub ending_ends : (o : Read) (s : Simple) (rest : List ReadToken) → ending o ≡ Some (s, rest) → Ends rest
ending_ends o s rest h = subst OverIf h (ending_over o)

-- what is read of any statement, by its first token
abbrev Given : List ReadToken → List ReadToken → Simple → Type 0
Given ts rest s = (ts ≡ spell_simple s ++ rest) × FitsSimple s × Ends rest

simple_given : KeptLaws → (ts rest : List ReadToken) (s : Simple) → simple_at ts ≡ Some (s, rest) → Given ts rest s
simple_given laws [] rest s h = absurd cc
simple_given laws (t ∷ ts) rest s h = by_reading t.token t.reading h
  where
    free : (token : Token) (k : Reading) → is_kept k ≡ false → simple_at (read token k ∷ ts) ≡ Some (s, rest) → Given (read token k ∷ ts) rest s
    free token k f h =
        let p = free_is (read token k ∷ ts) rest s (sym (unkept_free token k ts f) ∙ h) in (p.same, p.fits, p.over)

    kept : (token : Token) (k : Keyword) → is_kept (reading.Keyword k) ≡ true → simple_at (word token k ∷ ts) ≡ Some (s, rest) → Given (word token k ∷ ts) rest s
    kept token k f h =
        let e = sym (kept_read token k ts f) ∙ h in
        let p = laws.sound token k ts rest s f e in
        (p.0, p.1, ending_ends (kept_at token k ts) s rest e)

    by_reading : (token : Token) (k : Reading) → simple_at (read token k ∷ ts) ≡ Some (s, rest) → Given (read token k ∷ ts) rest s
    by_reading token (reading.Keyword keyword.Me) h = free token (reading.Keyword keyword.Me) refl h
    by_reading token (reading.Keyword k) h = kept token k refl h
    by_reading token other h = free token other refl h

-- the laws of reading a statement, by those of the statements that begin with a kept word
pub simple_laws : KeptLaws → SimpleLaws
simple_laws laws = record {
  sound = λ ts rest s h. let p = simple_given laws ts rest s h in (p.0, p.1);
  over = λ ts rest s h. (simple_given laws ts rest s h).2;
  complete = λ s rest w v. complete_by s rest (cases_Bool (is_free s)) w v;
  found = λ s rest w n v. found_by s rest (cases_Bool (is_free s)) w n v;
}
  where
    complete_by : (s : Simple) (rest : List ReadToken) → (is_free s ≡ true) ⊎ (is_free s ≡ false) → FitsSimple s → Ends rest
        → simple_at (spell_simple s ++ rest) ≡ Some (s, rest)
    complete_by s rest (inl k) w v = simple_free_complete s rest k w.formed w.chosen v
    complete_by s rest (inr k) w v = laws.complete s rest k w v

    found_by : (s : Simple) (rest : List ReadToken) → (is_free s ≡ true) ⊎ (is_free s ≡ false) → Formed s → is_if_line s ≡ false → Ends rest
        → IsFoundBefore rest (simple_at (spell_simple s ++ rest))
    found_by s rest (inl k) w n v = simple_free_found s rest k w v
    found_by s rest (inr k) w n v = laws.found s rest k w n v
