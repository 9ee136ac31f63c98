-- What a token does behind an operand that was ended first, and names of arguments.
use Rattle.std.proofs.Common.{◌≡◌, ℕ, ◌+◌, ◌-◌, ◌<◌, List, [], ◌∷◌, ◌++◌, length, take, get_or, true, Option, Some, None, refl, sym, ap, ◌∙◌, arith}
use Rattle.std.specs.Prelude.{not, slice_get}
use Rattle.std.proofs.lemmas.List.{take_more, take_all}
use Rattle.std.proofs.lemmas.Option.{slice_get_within, get_or_from_slice_get, slice_get-get_or}
use Rattle.vba_lexer.specs.declared.token.Token.{Token}
use Rattle.vba_lexer.specs.declared.number.TypeSuffix.{TypeSuffix}
use Rattle.vba_words.specs.declared.identifier.Identifier.{Identifier}
use Rattle.vba_expression.specs.declared.frame.Frame as declared
use Rattle.vba_expression.specs.declared.frame.Stepped.{Stepped}
use Rattle.vba_expression.specs.declared.frame.Stepped.TheVariants.{On, End}
use Rattle.vba_expression.specs.declared.node.ExpressionNode.{ExpressionNode}
use Rattle.vba_expression.specs.declared.node.ExpressionNode.TheVariants as node
use Rattle.vba_expression.specs.declared.tree.TypeQualifier.{TypeQualifier}
use Rattle.vba_expression.specs.Tree.{Expr, name, new, type_of, Args}
use Rattle.vba_expression.specs.Reader.{Head, Frame, argument, named_argument, State, want, have, reduce, loosest, settled, name_in, naming_argument, new_behind_dot, type_of_behind_dot, behind_dot}
use Rattle.vba_expression.specs.Nodes.{Item, last_tree, last_arguments, behind_node, items_of, tree_in, arguments_in, node_name, is_argument}
use Rattle.vba_expression.specs.Fitting.{has_no_arguments}
use Rattle.vba_expression.specs.Seen.{Comes}
use Rattle.vba_expression.proofs.Nodes.{items_push}

pub comes_reduced : (f : Expr → List Frame → Option State) (e e1 : Expr) (fs fs1 : List Frame) (held : List declared.Frame) (items : List Item) (s : Stepped)
    → (e1, fs1) ≡ reduce loosest e fs → settled (have e1 fs1) ≡ settled (have e fs)
    → Comes (f e1 fs1) (have e1 fs1) held items s → Comes (let p = reduce loosest e fs in f p.0 p.1) (have e fs) held items s
comes_reduced f e e1 fs fs1 held items (On mode) h g c = ap (λ p. f p.0 p.1) (sym h) ∙ c
comes_reduced f e e1 fs fs1 held items (End mode) h g c = (ap (λ p. f p.0 p.1) (sym h) ∙ c.0, c.1 ∙ g)

-- only a name is the name of an argument
pub names_nothing : (e : Expr) (fs : List Frame) (t : Token) → None ≡ name_in e → naming_argument e fs t ≡ None
names_nothing (name x) fs t h = let e : None ≡ Some x = h in absurd cc
names_nothing other fs t h = refl

some_is : (x y : Identifier) → Some x ≡ Some y → x ≡ y
some_is x y h = cc

pub names : (e : Expr) (h : Head) (xs : Args) (c : Option Token) (fs : List Frame) (t : Token) (x : Identifier) → Some x ≡ name_in e
    → naming_argument e (argument h xs c ∷ fs) t ≡ Some (want (named_argument h xs c x t ∷ fs))
names (name y) h xs c fs t x e = ap (λ z. Some (want (named_argument h xs c z t ∷ fs))) (sym (some_is x y e))
names other h xs c fs t x e = let n : Some x ≡ None = e in absurd cc

-- what a dot and a name end is no name
dotted_no_name : (e : Expr) (d : Token) (x : Identifier) → name_in (behind_dot e d x) ≡ None
dotted_no_name (new t class) d x = at class.qualifier class.name x.suffix
  where
    at : (q : Option TypeQualifier) (n : Identifier) (s : Option TypeSuffix) → name_in (new_behind_dot t q n d x s) ≡ None
    at None n None = refl
    at None n (Some s) = refl
    at (Some q) n s = refl
dotted_no_name (type_of t e i class) d x = at class.qualifier class.name x.suffix
  where
    at : (q : Option TypeQualifier) (n : Identifier) (s : Option TypeSuffix) → name_in (type_of_behind_dot t e i q n d x s) ≡ None
    at None n None = refl
    at None n (Some s) = refl
    at (Some q) n s = refl
dotted_no_name other d x = refl

pub no_name_behind : (n : ExpressionNode) (items : List Item) → ((x : Identifier) → n ≡ node.Name x → ⊥) → None ≡ name_in (last_tree (behind_node n items))
no_name_behind (node.Name x) items h = absurd (h x refl)
no_name_behind (node.Member d x) items h = sym (dotted_no_name (last_tree items) d x)
no_name_behind other items h = refl

-- what the last node makes
last_node : (ns : List ExpressionNode) (n : ExpressionNode) → Some n ≡ slice_get ns (length ns - 1)
    → items_of ns ≡ behind_node n (items_of (take (length ns - 1) ns))
last_node ns n h =
    let k : ℕ = length ns - 1 in
    let inside : k < length ns = slice_get_within ns k n (sym h) in
    let all : take (k + 1) ns ≡ ns = take_all (k + 1) ns (omega arith) in
    let front : ns ≡ take k ns ++ n ∷ [] =
    sym all ∙ take_more ns k n inside ∙ ap (λ m. take k ns ++ m ∷ []) (get_or_from_slice_get ns k n n (sym h)) in
    ap items_of front ∙ items_push (take k ns) n

node_named : (n : ExpressionNode) (items : List Item) → node_name n ≡ name_in (last_tree (behind_node n items))
node_named (node.Member d x) items = sym (dotted_no_name (last_tree items) d x)
node_named other items = refl

pub last_name : (ns : List ExpressionNode) (n : ExpressionNode) → Some n ≡ slice_get ns (length ns - 1) → node_name n ≡ name_in (tree_in ns)
last_name ns n h = node_named n _ ∙ ap (λ items. name_in (last_tree items)) (sym (last_node ns n h))

node_argument : (n : ExpressionNode) (items : List Item) → not (is_argument n) ≡ has_no_arguments (last_arguments (behind_node n items))
node_argument (node.MissingArgument c) items = refl
node_argument other items = refl

pub last_argument : (ns : List ExpressionNode) (n : ExpressionNode) → Some n ≡ slice_get ns (length ns - 1)
    → not (is_argument n) ≡ has_no_arguments (arguments_in ns)
last_argument ns n h = node_argument n _ ∙ ap (λ items. has_no_arguments (last_arguments items)) (sym (last_node ns n h))

-- without a last node there is none
none_last : (ns : List ExpressionNode) → None ≡ slice_get ns (length ns - 1) → ns ≡ []
none_last [] h = refl
none_last (n ∷ ns) h =
    let k : ℕ = length (n ∷ ns) - 1 in
    let e : None ≡ Some (get_or (n ∷ ns) k n) = h ∙ slice_get-get_or (n ∷ ns) k n (omega arith) in
    absurd cc

pub no_name : (ns : List ExpressionNode) → None ≡ slice_get ns (length ns - 1) → None ≡ name_in (tree_in ns)
no_name ns h = ap (λ ms. name_in (tree_in ms)) (sym (none_last ns h))

pub no_argument : (ns : List ExpressionNode) → None ≡ slice_get ns (length ns - 1) → true ≡ has_no_arguments (arguments_in ns)
no_argument ns h = ap (λ ms. has_no_arguments (arguments_in ms)) (sym (none_last ns h))
