-- The lines of a module one by one, and the least refusal of them all.
use Rattle.std.proofs.Common.{◌≡◌, ◌≤◌, ◌-◌, Bool, List, [], ◌∷◌, ◌++◌, length, take, drop, get_or, Option, Some, None, refl, sym, ap, ◌∙◌, append_assoc, arith}
use Rattle.std.specs.Prelude.{ℕ, flat_map}
use Rattle.std.proofs.lemmas.List.{take_rest}
use Rattle.vba_base.specs.declared.place.Place.{Place}
use Rattle.vba_base.specs.declared.place.Refusal.{Refusal}
use Rattle.vba_lexer.specs.Order.{IsLeastOf}
use Rattle.vba_words.specs.declared.reading.ReadToken.{ReadToken}
use Rattle.refusal_order.specs.Least.{lesser, least_of, least_of_both}
use Rattle.refusal_order.proofs.LeastFound.{least_of_least, least_of_two}
use Rattle.vba_tree.specs.Tree.{Line}
use Rattle.vba_grammar.specs.Lines.{line_of}
use Rattle.vba_module.specs.Outside.{form_of}
use Rattle.vba_module.specs.Parts.{Part, parts_of, parts_of_lines}
use Rattle.vba_module.specs.Tree.{Nodes}
use Rattle.vba_module.specs.Blocks.{block_faults}
use Rattle.vba_module.specs.Misplaced.{all_misplaced, nothing_before}
use Rattle.vba_module.specs.Headers.{header_faults, own_name, type_names, is_named}
use Rattle.vba_module.specs.Verdict.{broken, trees_of, with_tree, unread, unread_line, part_violations, module_violations}
use Rattle.vba_module.proofs.OneBracketing.{one_bracketing}
use Rattle.module_parser.specs.Parsed.{verdict, IsModule}

-- the first of some, and those behind it
pub first_of : {A : Type 0} (xs : List A) (x : A) → 1 ≤ length xs → x ≡ get_or xs 0 x → xs ≡ x ∷ take (length xs - 1) (drop 1 xs)
first_of [] x some first = absurd (omega arith)
first_of (y ∷ ys) x some first = ap (λ z. z ∷ ys) (sym first) ∙ ap (λ zs. x ∷ zs) (sym (take_rest (y ∷ ys) 1))

-- what is behind the last part is nothing
parts_alone : (ps : List Part) → ps ++ parts_of_lines [] ≡ ps
parts_alone [] = refl
parts_alone (p ∷ ps) = ap (λ qs. p ∷ qs) (parts_alone ps)

-- a line that has a tree
pub parts_more : (ts : List ReadToken) (line : Line) (before : List Part) → line_of ts ≡ Some line
    → before ++ parts_of line ≡ before ++ parts_of_lines (trees_of (ts ∷ []))
parts_more ts line before e = ap (λ ps. before ++ ps) (sym (ap (λ tree. parts_of_lines (with_tree tree [])) e ∙ parts_alone (parts_of line)))

-- a line that has none
pub parts_none : (ts : List ReadToken) (before : List Part) → line_of ts ≡ None → before ≡ before ++ parts_of_lines (trees_of (ts ∷ []))
parts_none ts before e = sym (ap (λ tree. before ++ parts_of_lines (with_tree tree [])) e ∙ parts_alone before)

-- the parts of a line before those of others
parts_cons : (tree : Option Line) (trees : List Line) → parts_of_lines (with_tree tree trees) ≡ parts_of_lines (with_tree tree []) ++ parts_of_lines trees
parts_cons None trees = refl
parts_cons (Some line) trees = ap (λ ps. ps ++ parts_of_lines trees) (sym (parts_alone (parts_of line)))

pub parts_step : (ts : List ReadToken) (lines : List (List ReadToken)) (before more all : List Part) → more ≡ before ++ parts_of_lines (trees_of (ts ∷ []))
    → before ++ parts_of_lines (trees_of (ts ∷ lines)) ≡ all → more ++ parts_of_lines (trees_of lines) ≡ all
parts_step ts lines before more all e h =
    ap (λ ps. ps ++ parts_of_lines (trees_of lines)) e
    ∙ append_assoc before (parts_of_lines (trees_of (ts ∷ []))) (parts_of_lines (trees_of lines))
    ∙ sym (ap (λ ps. before ++ ps) (parts_cons (line_of ts) (trees_of lines)))
    ∙ h

-- what a line breaks, by its tree
read_unbroken : (ts : List ReadToken) (line : Line) → line_of ts ≡ Some line → unread_line ts ≡ []
read_unbroken ts line e = rw e refl

unread_broken : (ts : List ReadToken) → line_of ts ≡ None → unread_line ts ≡ unread ts (form_of ts) ∷ []
unread_broken ts e = rw e refl

pub unread_more : (ts : List ReadToken) (line : Line) (found : Option Refusal) → line_of ts ≡ Some line → found ≡ least_of found (unread_line ts)
unread_more ts line found e = sym (ap (least_of found) (read_unbroken ts line e))

pub unread_none : (ts : List ReadToken) (found : Option Refusal) → line_of ts ≡ None
    → Some (lesser found (unread ts (form_of ts))) ≡ least_of found (unread_line ts)
unread_none ts found e = sym (ap (least_of found) (unread_broken ts e))

-- what a line breaks before what others do
least_behind : (found : Option Refusal) (refusals others : List Refusal) → least_of (least_of found refusals) others ≡ least_of found (refusals ++ others)
least_behind found [] others = refl
least_behind found (refusal ∷ refusals) others = least_behind (Some (lesser found refusal)) refusals others

pub unread_step : (ts : List ReadToken) (lines : List (List ReadToken)) (found more all : Option Refusal) → more ≡ least_of found (unread_line ts)
    → least_of found (flat_map unread_line (ts ∷ lines)) ≡ all → least_of more (flat_map unread_line lines) ≡ all
unread_step ts lines found more all e h =
    ap (λ least. least_of least (flat_map unread_line lines)) e ∙ least_behind found (unread_line ts) (flat_map unread_line lines) ∙ h

-- the least of lines without a tree and of what their parts break
pub verdict_both : (is_class : Bool) (lines : List (List ReadToken))
    → verdict is_class lines
    ≡ least_of_both (least_of None (flat_map unread_line lines)) (least_of None (part_violations is_class (parts_of_lines (trees_of lines))))
verdict_both is_class lines = least_of_two None (flat_map unread_line lines) (part_violations is_class (parts_of_lines (trees_of lines)))

pub verdict_least : (is_class : Bool) (lines : List (List ReadToken)) → IsLeastOf (module_violations is_class lines) (verdict is_class lines)
verdict_least is_class lines = least_of_least (module_violations is_class lines)

pub one_tree : (is_class : Bool) (lines : List (List ReadToken)) (nodes others : Nodes) → IsModule is_class lines nodes → IsModule is_class lines others → nodes ≡ others
one_tree is_class lines nodes others a b = one_bracketing nodes others a.bracketed b.bracketed (a.same ∙ sym b.same)

-- what is found, where it isn't missing, is not nothing
never_none : (found : Refusal) (refusals : List Refusal) → least_of (Some found) refusals ≡ None → ⊥
never_none found [] e = absurd cc
never_none found (refusal ∷ refusals) e = never_none (lesser (Some found) refusal) refusals e

none_broken : (refusals : List Refusal) → least_of None refusals ≡ None → refusals ≡ []
none_broken [] e = refl
none_broken (refusal ∷ refusals) e = absurd (never_none refusal refusals e)

none_of_both : (first second : Option Refusal) → least_of_both first second ≡ None → second ≡ None
none_of_both first None e = refl
none_of_both first (Some refusal) e = absurd cc

none_first : (xs ys : List Refusal) → xs ++ ys ≡ [] → xs ≡ []
none_first [] ys e = refl
none_first (x ∷ xs) ys e = absurd cc

no_places : (rule : ℕ) (places : List Place) → broken rule places ≡ [] → places ≡ []
no_places rule [] e = refl
no_places rule (place ∷ places) e = absurd cc

-- where nothing is found, the parts break S11 nowhere
pub no_block_faults : (is_class : Bool) (parts : List Part) (first second least : Option Refusal) → second ≡ least_of None (part_violations is_class parts)
    → least ≡ least_of_both first second → least ≡ None → block_faults [] parts ≡ []
no_block_faults is_class parts first second least there both none =
    let none_second = none_of_both first second (sym both ∙ none) in
    let unbroken = none_broken (part_violations is_class parts) (sym there ∙ none_second) in
    no_places 11 (block_faults [] parts)
    (none_first (broken 11 (block_faults [] parts))
    (broken 12 (all_misplaced is_class nothing_before [] parts)
    ++ broken 14 (flat_map (header_faults (is_named (own_name parts) (type_names parts))) parts)) unbroken)

-- what is found of lines and of their parts is the verdict
pub verdict_found : (is_class : Bool) (lines : List (List ReadToken)) (parts : List Part) (first second least : Option Refusal) → parts ≡ parts_of_lines (trees_of lines)
    → first ≡ least_of None (flat_map unread_line lines) → second ≡ least_of None (part_violations is_class parts) → least ≡ least_of_both first second
    → verdict is_class lines ≡ least
verdict_found is_class lines parts first second least same one two both =
    verdict_both is_class lines
    ∙ ap (λ found. least_of_both found (least_of None (part_violations is_class (parts_of_lines (trees_of lines))))) (sym one)
    ∙ ap (λ ps. least_of_both first (least_of None (part_violations is_class ps))) (sym same)
    ∙ ap (least_of_both first) (sym two)
    ∙ sym both
