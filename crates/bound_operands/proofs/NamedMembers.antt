-- What an argument with a name does to the stack where a member is called.
use Rattle.std.proofs.Common.{◌≡◌, List, ◌∷◌, sym, subst}
use Rattle.vba_lexer.specs.declared.token.Token.{Token}
use Rattle.vba_words.specs.declared.identifier.Identifier.{Identifier}
use Rattle.std.specs.Prelude.{Option}
use Rattle.vba_expression.specs.declared.node.ExpressionNode.TheVariants as node
use Rattle.vba_expression.specs.Nodes.{behind_node}
use Rattle.bound_project.specs.Drafts.{Drafted}
use Rattle.bound_members.specs.bound_calls.specs.bound_forms.specs.Terms.{Env}
use Rattle.bound_members.specs.bound_calls.specs.declared.term.Item.{Item}
use Rattle.bound_members.specs.bound_calls.specs.declared.term.Item.TheVariants as item
use Rattle.bound_members.specs.bound_calls.specs.declared.term.MemberCall.{MemberCall}
use Rattle.bound_members.specs.bound_calls.specs.declared.term.Tree.{Tree}
use Rattle.bound_members.specs.bound_calls.specs.Standing.{AllNamed}
use Rattle.bound_members.specs.bound_calls.specs.Steps.{Goes}
use Rattle.bound_members.specs.bound_calls.proofs.Growing.{all_named}
use Rattle.bound_members.specs.MemberCalls.{AddsNamed}

pub goes_to_member : (env : Env) (x : Tree) (c z : MemberCall) (xs new : List Item) (name : Identifier) (comma : Option Token) (mark : Token) (d e : Drafted) → new ≡ item.Member z ∷ xs → AllNamed d.tables (item.Tree x ∷ item.Member c ∷ xs)
    → AddsNamed c x name d e z → Goes env d (item.Tree x ∷ item.Member c ∷ xs) e new (behind_node (node.NamedArgument comma name mark))
goes_to_member env x c z xs new name comma mark d e n k a =
    let B : List Item → Type 0 = λ (l : List Item). Goes env d (item.Tree x ∷ item.Member c ∷ xs) e l (behind_node (node.NamedArgument comma name mark)) in
    subst B (sym n) (record {
      grown = a.grown;
      named = (a.named, all_named d.tables e.tables a.grown.tables xs k.1.1);
      stands = λ is base h. a.stands env comma mark xs is base k.1.1 h;
    })
