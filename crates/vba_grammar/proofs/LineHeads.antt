-- What the words of a header are read as.
use Rattle.std.proofs.Common.{◌≡◌, ℕ, Bool, true, false, List, [], ◌∷◌, ◌++◌, Option, Some, None, refl, sym, ap, ◌∙◌, subst}
use Rattle.std.specs.Prelude.{if◌then◌else◌, codes}
use Rattle.std.specs.Str.{bytes_eq}
use Rattle.std.proofs.lemmas.Slice.Eq.{bytes_eq-Decides}
use Rattle.vba_lexer.specs.declared.token.Token.{Token}
use Rattle.vba_words.specs.declared.keyword.Keyword.TheVariants as keyword
use Rattle.vba_words.specs.declared.reading.Reading.{Reading}
use Rattle.vba_words.specs.declared.reading.Reading.TheVariants as reading
use Rattle.vba_words.specs.declared.reading.ReadToken.{ReadToken}
use Rattle.vba_words.specs.Spelling.{read, word}
use Rattle.vba_tree.specs.declared.procedure.ProcedureWords.{ProcedureWords}
use Rattle.vba_tree.specs.declared.procedure.ProcedureWords.TheVariants as words
use Rattle.vba_tree.specs.Spelling.{place_word, spell_words}
use Rattle.vba_grammar.specs.Front.{found_as, begins, reads}
use Rattle.vba_grammar.specs.Blocks.{is_name}
use Rattle.vba_grammar.specs.Lines.{Header, of_enum, of_type, of_event, of_procedure, property_at, kind_at}
use Rattle.vba_grammar.proofs.Binding.{Told, nothing_told, some_told, cond_told, as_told}
use Rattle.vba_grammar.proofs.Fronts.{means_reads}

pub same_both : {A : Type 0} {x : A} (b : Bool) → (if b then x else x) ≡ x
same_both true = refl
same_both false = refl

no_get : (w t : Token) (x : List ℕ) (ts : List ReadToken) → bytes_eq x (codes "get") ≡ false → property_at w (read t (reading.Name x None false) ∷ ts) ≡ None
no_get w t x [] h = refl
no_get w t x (u ∷ ts) h = simp (h, same_both {A = Option (ProcedureWords × List ReadToken)} {x = None} (is_name u.reading))

-- Get, Let or Set behind Property, before a name
pub property_told : (w : Token) (ts : List ReadToken) → Told (λ kind rest. place_word w (codes "property") ∷ ts ≡ spell_words kind ++ rest) (property_at w ts)
property_told w [] = nothing_told
property_told w (t ∷ ts) = by_reading t.token t.reading
  where
    by_get : (u : Token) (x : List ℕ) (b : Bool) → bytes_eq x (codes "get") ≡ b
        → Told (λ kind rest. place_word w (codes "property") ∷ read u (reading.Name x None false) ∷ ts ≡ spell_words kind ++ rest) (property_at w (read u (reading.Name x None false) ∷ ts))
    by_get u x true h =
        subst (λ y. Told (λ kind rest. place_word w (codes "property") ∷ read u (reading.Name y None false) ∷ ts ≡ spell_words kind ++ rest) (property_at w (read u (reading.Name y None false) ∷ ts)))
        (sym ((bytes_eq-Decides x (codes "get")).0 h))
        (cond_told (begins is_name ts) (Some (words.PropertyGet w u, ts)) None (λ e. some_told refl) (λ e. nothing_told))
    by_get u x false h =
        subst (λ o. Told (λ kind rest. place_word w (codes "property") ∷ read u (reading.Name x None false) ∷ ts ≡ spell_words kind ++ rest) o) (sym (no_get w u x ts h)) nothing_told

    by_reading : (u : Token) (r : Reading) → Told (λ kind rest. place_word w (codes "property") ∷ read u r ∷ ts ≡ spell_words kind ++ rest) (property_at w (read u r ∷ ts))
    by_reading u (reading.Keyword keyword.Let) = cond_told (begins is_name ts) (Some (words.PropertyLet w u, ts)) None (λ e. some_told refl) (λ e. nothing_told)
    by_reading u (reading.Keyword keyword.Set) = cond_told (begins is_name ts) (Some (words.PropertySet w u, ts)) None (λ e. some_told refl) (λ e. nothing_told)
    by_reading u (reading.Name x None false) = by_get u x (bytes_eq x (codes "get")) refl
    by_reading u _ = cond_told (begins is_name ts) None None (λ e. nothing_told) (λ e. nothing_told)

-- the words of a header
abbrev pub spell_header : Header → List ReadToken
spell_header (of_enum w) = word w keyword.Enum ∷ []
spell_header (of_type w) = word w keyword.Type ∷ []
spell_header (of_event w) = word w keyword.Event ∷ []
spell_header (of_procedure kind) = spell_words kind

pub kind_told : (ts : List ReadToken) → Told (λ header rest. ts ≡ spell_header header ++ rest) (kind_at ts)
kind_told [] = nothing_told
kind_told (t ∷ ts) = by_reading t.token t.reading
  where
    by_reading : (u : Token) (r : Reading) → Told (λ header rest. read u r ∷ ts ≡ spell_header header ++ rest) (kind_at (read u r ∷ ts))
    by_reading u (reading.Keyword keyword.Enum) = some_told refl
    by_reading u (reading.Keyword keyword.Type) = some_told refl
    by_reading u (reading.Keyword keyword.Event) = some_told refl
    by_reading u (reading.Keyword keyword.Sub) = some_told refl
    by_reading u (reading.Keyword keyword.Function) = some_told refl
    by_reading u (reading.Name x None false) =
        cond_told (reads (codes "property") (reading.Name x None false)) (found_as of_procedure (property_at u ts)) None
        (λ e. as_told of_procedure (property_told u ts) (λ kind rest p. ap (λ r. read u r ∷ ts) (means_reads (codes "property") (reading.Name x None false) e) ∙ p))
        (λ e. nothing_told)
    by_reading u _ = nothing_told
