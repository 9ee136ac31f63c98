-- What is printed, found item by item.
use Rattle.std.proofs.Common.{◌≡◌, ℕ, zero, suc, ◌+◌, ◌<◌, ◌≤◌, List, [], ◌∷◌, ◌++◌, length, map, Option, Some, None, refl, sym, ap, subst, ◌∙◌, append_assoc, append-nil, arith}
use Rattle.std.proofs.lemmas.List.{map-append, length-append}
use Rattle.vba_words.specs.declared.reading.ReadToken.{ReadToken}
use Rattle.vba_expression.specs.Tree.{Expr}
use Rattle.vba_expression.specs.Spelling.{spell}
use Rattle.vba_lexer.specs.declared.token.Token.{Token}
use Rattle.vba_tree.specs.declared.simple.PrintMark.{PrintMark}
use Rattle.vba_tree.specs.declared.simple.PrintItem as declared
use Rattle.vba_tree.specs.Spelling.{optional}
use Rattle.vba_tree.specs.Tree.{PrintItem}
use Rattle.vba_tree.specs.View.{print_item_view}
use Rattle.vba_grammar.specs.Front.{Found, ◌>>=◌, found_as}
use Rattle.vba_grammar.specs.Statements.{print_mark_of, printed_at, item_by, items_at}
use Rattle.vba_grammar.proofs.Binding.{found_pair}
use Rattle.vba_grammar.proofs.Prints.{printed_good}

abbrev pub item : PrintMark → Token → Option Expr → PrintItem
item mark token value = record { mark = mark; mark_token = token; value = value }

-- the item, and those behind it
abbrev with_value : PrintMark → Token → (List ReadToken → Found (List PrintItem)) → Found (Option Expr) → Found (List PrintItem)
with_value mark token more printed = printed >>= λ value rest. found_as (λ items. item mark token value ∷ items) (more rest)

-- no more tokens stand behind a value than from it on
behind_value : (ts rest : List ReadToken) (value : Option Expr) → printed_at ts ≡ Some (value, rest) → length rest ≤ length ts
behind_value ts rest value h =
    let spelled : ts ≡ optional spell value ++ rest = (rw h at (printed_good ts)).0 in
    let long : length ts ≡ length (optional spell value) + length rest = ap length spelled ∙ length-append (optional spell value) rest in
    omega arith

-- with a turn for each token, one more changes nothing
enough : (m n : ℕ) (ts : List ReadToken) → length ts < m → length ts < n → items_at m ts ≡ items_at n ts
enough zero n ts below above = absurd (omega arith)
enough (suc m) zero ts below above = absurd (omega arith)
enough (suc m) (suc n) [] below above = refl
enough (suc m) (suc n) (t ∷ ts) below above =
    by_mark (print_mark_of t.reading)
    (λ rest h. enough m n rest (omega arith) (omega arith))
  where
    by_value : (mark : PrintMark) (printed : Found (Option Expr)) → printed_at ts ≡ printed
        → ((rest : List ReadToken) → length rest ≤ length ts → items_at m rest ≡ items_at n rest)
        → with_value mark t.token (items_at m) printed ≡ with_value mark t.token (items_at n) printed
    by_value mark None e same = refl
    by_value mark (Some found) e same =
        ap (found_as (λ items. item mark t.token found.0 ∷ items)) (same found.1 (behind_value ts found.1 found.0 e))

    by_mark : (found : Option PrintMark) → ((rest : List ReadToken) → length rest ≤ length ts → items_at m rest ≡ items_at n rest)
        → item_by t ts (items_at m) found ≡ item_by t ts (items_at n) found
    by_mark None same = refl
    by_mark (Some mark) same = by_value mark (printed_at ts) refl same

-- the items that were found stand before those that are left
pub record Goes (wanted : Found (List PrintItem)) (seen : List PrintItem) (left : List ReadToken) : Type 0 where
  pub same : found_as (λ more. seen ++ more) (items_at (suc (length left)) left) ≡ wanted

alone : (found : Found (List PrintItem)) → found_as (λ more. [] ++ more) found ≡ found
alone None = refl
alone (Some found) = refl

pub begun : (ts : List ReadToken) → Goes (items_at (suc (length ts)) ts) [] ts
begun ts = record { same = alone (items_at (suc (length ts)) ts) }

-- what a turn finds, by the mark at the front
at_front : (wanted : Found (List PrintItem)) (seen : List PrintItem) (t : ReadToken) (ts : List ReadToken) (found : Option PrintMark)
    → Goes wanted seen (t ∷ ts) → print_mark_of t.reading ≡ found
    → found_as (λ more. seen ++ more) (item_by t ts (items_at (suc (length ts))) found) ≡ wanted
at_front wanted seen t ts found goes h =
    ap (λ o. found_as (λ more. seen ++ more) (item_by t ts (items_at (suc (length ts))) o)) (sym h) ∙ goes.same

joined : (seen : List PrintItem) (next : PrintItem) (found : Found (List PrintItem))
    → found_as (λ more. (seen ++ next ∷ []) ++ more) found ≡ found_as (λ more. seen ++ more) (found_as (λ others. next ∷ others) found)
joined seen next None = refl
joined seen next (Some found) = ap (λ all. found_pair all found.1) (append_assoc seen (next ∷ []) found.0)

-- one more item
one_more : (wanted : Found (List PrintItem)) (seen : List PrintItem) (t : ReadToken) (ts rest : List ReadToken) (mark : PrintMark) (value : Option Expr)
    → Goes wanted seen (t ∷ ts) → print_mark_of t.reading ≡ Some mark → printed_at ts ≡ Some (value, rest)
    → Goes wanted (seen ++ item mark t.token value ∷ []) rest
one_more wanted seen t ts rest mark value goes is_mark printed =
    let shorter : length rest ≤ length ts = behind_value ts rest value printed in
    record {
      same =
          joined seen (item mark t.token value) (items_at (suc (length rest)) rest)
          ∙ ap (λ o. found_as (λ more. seen ++ more) (found_as (λ others. item mark t.token value ∷ others) o))
          (enough (suc (length rest)) (suc (length ts)) rest (omega arith) (omega arith))
          ∙ ap (λ o. found_as (λ more. seen ++ more) (with_value mark t.token (items_at (suc (length ts))) o)) (sym printed)
          ∙ at_front wanted seen t ts (Some mark) goes is_mark;
    }

pub more : (wanted : Found (List PrintItem)) (items : List declared.PrintItem) (next : declared.PrintItem) (left : List ReadToken) (t : ReadToken) (ts rest : List ReadToken)
    (mark : PrintMark) (value : Option Expr) → Goes wanted (map print_item_view items) left → left ≡ t ∷ ts
    → print_mark_of t.reading ≡ Some mark → printed_at ts ≡ Some (value, rest) → print_item_view next ≡ item mark t.token value
    → Goes wanted (map print_item_view (items ++ next ∷ [])) rest
more wanted items next left t ts rest mark value goes front is_mark printed is =
    let seen : List PrintItem = map print_item_view items in
    let e : map print_item_view (items ++ next ∷ []) ≡ seen ++ item mark t.token value ∷ [] =
    map-append print_item_view items (next ∷ []) ∙ ap (λ p. seen ++ p ∷ []) is in
    let P : List ReadToken → Type 0 = λ us. Goes wanted seen us in
    let Q : List PrintItem → Type 0 = λ all. Goes wanted all rest in
    subst Q (sym e) (one_more wanted seen t ts rest mark value (subst P front goes) is_mark printed)

-- no token is left
pub ended : (wanted : Found (List PrintItem)) (seen : List PrintItem) (left : List ReadToken) → Goes wanted seen left → length left < 1 → found_pair seen left ≡ wanted
ended wanted seen [] goes nothing = ap (λ all. found_pair all []) (sym (append-nil seen)) ∙ goes.same
ended wanted seen (t ∷ ts) goes nothing = absurd (omega arith)

-- no mark stands there
pub stopped : (wanted : Found (List PrintItem)) (seen : List PrintItem) (left : List ReadToken) (t : ReadToken) (ts : List ReadToken)
    → Goes wanted seen left → left ≡ t ∷ ts → print_mark_of t.reading ≡ None → found_pair seen left ≡ wanted
stopped wanted seen left t ts goes front no_mark =
    let P : List ReadToken → Type 0 = λ us. Goes wanted seen us in
    ap (λ us. found_pair seen us) front
    ∙ ap (λ all. found_pair all (t ∷ ts)) (sym (append-nil seen))
    ∙ at_front wanted seen t ts None (subst P front goes) no_mark

-- no value can be read there
pub failed : (wanted : Found (List PrintItem)) (seen : List PrintItem) (left : List ReadToken) (t : ReadToken) (ts : List ReadToken) (mark : PrintMark)
    → Goes wanted seen left → left ≡ t ∷ ts → print_mark_of t.reading ≡ Some mark → printed_at ts ≡ None → None ≡ wanted
failed wanted seen left t ts mark goes front is_mark nothing =
    let P : List ReadToken → Type 0 = λ us. Goes wanted seen us in
    ap (λ o. found_as (λ more. seen ++ more) (with_value mark t.token (items_at (suc (length ts))) o)) (sym nothing)
    ∙ at_front wanted seen t ts (Some mark) (subst P front goes) is_mark

-- fewer tokens are left behind an item
pub fewer : (left : List ReadToken) (t : ReadToken) (ts rest : List ReadToken) (value : Option Expr)
    → left ≡ t ∷ ts → printed_at ts ≡ Some (value, rest) → length rest < length left
fewer left t ts rest value front printed =
    let shorter : length rest ≤ length ts = behind_value ts rest value printed in
    let long : length left ≡ length (t ∷ ts) = ap length front in
    omega arith
