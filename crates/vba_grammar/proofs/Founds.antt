-- Where of each item something is found, something is found of items with commas between them.
use Rattle.std.proofs.Common.{◌≡◌, ℕ, zero, suc, ◌<◌, ◌≤◌, length, false, List, [], ◌∷◌, ◌++◌, Some, None, refl, sym, ap, ◌∙◌, subst, arith, append_assoc}
use Rattle.std.proofs.lemmas.List.{length-append}
use Rattle.vba_lexer.specs.declared.token.Token.{Token}
use Rattle.vba_words.specs.declared.mark.Mark.TheVariants as mark
use Rattle.vba_words.specs.declared.reading.ReadToken.{ReadToken}
use Rattle.vba_words.specs.Spelling.{marked}
use Rattle.vba_tree.specs.Tree.{Listed}
use Rattle.vba_tree.specs.Spelling.{with_commas, spell_others}
use Rattle.vba_tree.specs.Forms.{Each, EachOther}
use Rattle.vba_grammar.specs.Front.{Found, ◌>>=◌, is_comma, begins, with_next, others_at, listed_at, commas_at}
use Rattle.vba_grammar.specs.Laws.{IsFoundBefore}
use Rattle.vba_grammar.proofs.Binding.{then_is, as_is, if_not}

-- where something is found, what it is
pub record Gotten {A : Type 0} (found : Found A) (rest : List ReadToken) : Type 0 where
  pub part : A
  pub is : found ≡ Some (part, rest)

pub gotten : {A : Type 0} (found : Found A) (rest : List ReadToken) → IsFoundBefore rest found → Gotten found rest
gotten None rest h = absurd h
gotten (Some found) rest h = record { part = found.0; is = ap (λ us. Some (found.0, us)) h }

-- items with commas: where of each something is found, something is found of all
module _ {A : Type 0} (spelled : A → List ReadToken) {Good : A → Type 0} {Behind : List ReadToken → Type 0} (item : List ReadToken → Found A)
    (behind : (token : Token) (ts : List ReadToken) → Behind (marked token mark.Comma ∷ ts))
    (found : (a : A) (rest : List ReadToken) → Good a → Behind rest → IsFoundBefore rest (item (spelled a ++ rest))) where
  before_more : (others : List (Token × A)) (rest : List ReadToken) → Behind rest → Behind (spell_others spelled mark.Comma others ++ rest)
  before_more [] rest b = b
  before_more (other ∷ others) rest b = behind other.0 _

  no_more : (n : ℕ) (rest : List ReadToken) → begins is_comma rest ≡ false → others_at (suc n) is_comma item rest ≡ Some ([], rest)
  no_more n [] h = refl
  no_more n (t ∷ ts) h = if_not _ _ h refl

  others_found : (n : ℕ) (others : List (Token × A)) (rest : List ReadToken) → length others < n → EachOther Good others → Behind rest → begins is_comma rest ≡ false
      → Gotten (others_at n is_comma item (spell_others spelled mark.Comma others ++ rest)) rest
  others_found zero others rest l good b h = absurd (omega arith)
  others_found (suc n) [] rest l good b h = record { part = []; is = no_more n rest h }
  others_found (suc n) (other ∷ others) rest l good b h =
      let us : List ReadToken = spell_others spelled mark.Comma others ++ rest in
      let first = gotten (item (spelled other.1 ++ us)) us (found other.1 us good.0 (before_more others rest b)) in
      let more = others_found n others rest (omega arith) good.1 b h in
      record {
        part = (other.0, first.part) ∷ more.part;
        is = ap (λ ts. item ts >>= λ a r. with_next (other.0, a) (others_at n is_comma item r)) (append_assoc (spelled other.1) (spell_others spelled mark.Comma others) rest)
            ∙ then_is _ first.is (as_is _ more.is);
      }

  marks : (others : List (Token × A)) (rest : List ReadToken) → length others ≤ length (spell_others spelled mark.Comma others ++ rest)
  marks [] rest = omega arith
  marks (other ∷ others) rest =
      let more = marks others rest in
      let len = ap length (append_assoc (spelled other.1) (spell_others spelled mark.Comma others) rest) in
      let sum = length-append (spelled other.1) (spell_others spelled mark.Comma others ++ rest) in
      omega arith

  pub commas_found : (list : Listed A) (rest : List ReadToken) → Each Good list → Behind rest → begins is_comma rest ≡ false
      → IsFoundBefore rest (commas_at item (with_commas spelled list ++ rest))
  commas_found list rest good b h =
      let us : List ReadToken = spell_others spelled mark.Comma list.others ++ rest in
      let first = gotten (item (spelled list.first ++ us)) us (found list.first us good.0 (before_more list.others rest b)) in
      let more = others_found (suc (length us)) list.others rest (omega (arith, marks list.others rest)) good.1 b h in
      subst (IsFoundBefore rest)
      (sym (ap (listed_at is_comma item) (append_assoc (spelled list.first) (spell_others spelled mark.Comma list.others) rest)
      ∙ then_is (λ first rest. others_at (suc (length rest)) is_comma item rest >>= λ others behind. Some (record { first = first; others = others }, behind)) first.is
      (then_is (λ others behind. Some (record { first = first.part; others = others }, behind)) more.is refl))) refl
