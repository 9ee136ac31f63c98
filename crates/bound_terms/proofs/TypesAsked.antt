use Rattle.std.proofs.Common.{◌≡◌, Bor, List, ◌∷◌, Option, Some, None, refl, sym, ap, ◌∙◌, ℕ}
use Rattle.vba_lexer.specs.declared.token.Token.{Token}
use Rattle.vba_words.specs.declared.identifier.Identifier.{Identifier}
use Rattle.vba_expression.specs.Tree.{type_of, me, new}
use Rattle.vba_expression.specs.Reader.{short_type}
use Rattle.vba_expression.specs.Nodes.{behind_node}
use Rattle.vba_expression.specs.declared.node.ExpressionNode.TheVariants as node
use Rattle.vba_values.specs.Types.{Declared}
use Rattle.vba_values.specs.Types as type
use Rattle.bound_project.specs.declared.declared_type.DeclaredType.{DeclaredType}
use Rattle.bound_project.specs.declared.declared_type.DeclaredType.TheVariants.{Plain}
use Rattle.bound_project.specs.declared.declared_type.ElementType.TheVariants as element
use Rattle.bound_project.specs.declared.node.NodeKind.TheVariants as kinds
use Rattle.bound_project.specs.declared.declarations.Declarations.{Declarations}
use Rattle.bound_project.specs.View.{declarations_view, declared_view}
use Rattle.bound_project.specs.Expressions.{is_type, new_object, this}
use Rattle.bound_project.specs.Expressions as bound
use Rattle.bound_project.specs.Pieces.{Piece, Tables, expr_of, of_value}
use Rattle.bound_project.specs.Drafts.{Drafted}
use Rattle.declared_names.specs.binder.specs.Types.{meant_type, plain_type}
use Rattle.bound_accesses.specs.bound_names.specs.bound_members.specs.bound_calls.specs.bound_forms.specs.Terms.{Env, a_value}
use Rattle.bound_accesses.specs.bound_names.specs.bound_members.specs.bound_calls.specs.bound_forms.specs.ClassDefaults.{declared_in}
use Rattle.bound_accesses.specs.bound_names.specs.bound_members.specs.bound_calls.specs.bound_forms.specs.Operands.{given_as, place_told}
use Rattle.bound_accesses.specs.bound_names.specs.bound_members.specs.bound_calls.specs.bound_forms.specs.ExpressionsBound.{term_of, typed_term, new_term}
use Rattle.bound_accesses.specs.bound_names.specs.bound_members.specs.bound_calls.specs.declared.term.Tree.{Tree}
use Rattle.bound_accesses.specs.bound_names.specs.bound_members.specs.bound_calls.specs.declared.term.Term.{Term}
use Rattle.bound_accesses.specs.bound_names.specs.bound_members.specs.bound_calls.specs.declared.term.Term.TheVariants as term
use Rattle.bound_accesses.specs.bound_names.specs.bound_members.specs.bound_calls.specs.declared.term.Item.{Item}
use Rattle.bound_accesses.specs.bound_names.specs.bound_members.specs.bound_calls.specs.declared.term.Item.TheVariants as item
use Rattle.bound_accesses.specs.bound_names.specs.bound_members.specs.bound_calls.specs.References.{PushesGiven}
use Rattle.bound_accesses.specs.bound_names.specs.bound_members.specs.bound_calls.specs.Standing.{AllNamed, PushedIs, ValueStands}
use Rattle.bound_accesses.specs.bound_names.specs.bound_members.specs.bound_calls.specs.Steps.{Goes, MakesLeaf}
use Rattle.bound_accesses.specs.bound_names.specs.bound_members.specs.bound_calls.proofs.Steps.{goes_made, goes_leaf}
use Rattle.declared_names.specs.binder.specs.Classes.{made_in, own_class}
use Rattle.bound_accesses.specs.bound_names.specs.bound_members.specs.bound_calls.proofs.Growing.{grown_same}

-- What TypeOf makes of the expression on top; Me and New.

abbrev pub asked : DeclaredType → Term
asked of = term.Value (record { kind = kinds.IsType of; of = Plain element.Boolean })

typed : (t : Tables) (found : Option bound.Expr) (of v : DeclaredType) (u : Declared) (ps below : List Piece) → declared_view of ≡ u → PushedIs v found ps below
    → ValueStands t (record { kind = kinds.IsType of; of = Plain element.Boolean }) (typed_term found u) ps below
typed t found of v u ps below meant h = record {
  made = is_type h.made (declared_view of);
  is = ap (λ (o : Option bound.Expr). typed_term o u) h.is ∙ ap (λ (w : Declared). a_value (is_type h.made w) type.boolean) (sym meant);
  ends = λ n. ap (λ (st : List Piece). of_value (λ (e : bound.Expr). expr_of n (is_type e (declared_view of))) st) h.on_top;
}

pub goes_type_of : (env : Env) (x : Tree) (word is_word : Token) (class : Identifier) (of v : DeclaredType) (xs old after : List Item) (d e : Drafted) → old ≡ item.Tree x ∷ xs
    → after ≡ item.Tree (record { place = word.place; name = None; dotted = None; term = asked of; declared = x.declared }) ∷ xs → AllNamed d.tables old → declared_view of ≡ meant_type (plain_type env.scope class) → PushesGiven x d e v
    → Goes env d old e after (behind_node (node.TypeOf word is_word class))
goes_type_of env x word is_word class of v xs old after d e o n k meant p =
    goes_made env x (record { place = word.place; name = None; dotted = None; term = asked of; declared = x.declared }) xs old after d e (λ tree. type_of word tree is_word (short_type class)) o n p.grown k tt
    (λ tree below h. record {
      term_is = typed e.tables (given_as env (term_of env tree) (place_told tree)) of v (meant_type (plain_type env.scope class)) e.pieces below meant (p.stands env tree below h);
      place_is = refl;
      name_is = refl;
      qualifier_is = refl;
      leaf = tt;
      declared_is = h.declared_is;
    })
    (behind_node (node.TypeOf word is_word class)) (λ tree is. refl)

-- ---- Me and New

abbrev pub owned : DeclaredType → Term
owned of = term.Value (record { kind = kinds.This; of = of })

me_leaf : (env : Env) (d : Drafted) (of : DeclaredType) → declared_view of ≡ own_class env.scope → MakesLeaf env d d (owned of) (a_value this (own_class env.scope))
me_leaf env d of h = record {
  grown = grown_same d;
  pieces = refl;
  named = tt;
  stands = λ ps. record { made = this; is = ap (λ (u : Declared). a_value this u) (sym h); ends = λ n. refl };
}

pub goes_me : (env : Env) (known : Bor Declarations) → declared_in env.scope ≡ declarations_view known.now → (token : Token) (of : DeclaredType) (xs ys after : List Item) (d e : Drafted) → Goes env d xs e ys (λ is. is) → declared_view of ≡ own_class env.scope
    → after ≡ item.Tree (record { place = token.place; name = None; dotted = None; term = owned of; declared = known }) ∷ ys → Goes env d xs e after (behind_node (node.Me token))
goes_me env known told token of xs ys after d e g meant k =
    goes_leaf env xs ys after d e e (record { place = token.place; name = None; dotted = None; term = owned of; declared = known }) (me token) told g (me_leaf env e of meant) refl refl refl k

abbrev pub newly : ℕ → DeclaredType → Term
newly number of = term.Value (record { kind = kinds.NewObject number; of = of })

-- an object of a class, and a Collection
new_is : (of : Declared) (number : ℕ) → made_in of ≡ Some number → new_term of ≡ a_value (new_object number) of
new_is (type.class class) number h = let e : class ≡ number = cc in ap (λ (k : ℕ). a_value (new_object k) (type.class class)) e
new_is type.collection number h = let e : 0 ≡ number = cc in ap (λ (k : ℕ). a_value (new_object k) type.collection) e
new_is of number h = let e : None ≡ Some number = h in absurd cc

new_leaf : (env : Env) (d : Drafted) (number : ℕ) (of : DeclaredType) (u : Declared) → declared_view of ≡ u → made_in (declared_view of) ≡ Some number → MakesLeaf env d d (newly number of) (new_term u)
new_leaf env d number of u h class = record {
  grown = grown_same d;
  pieces = refl;
  named = tt;
  stands = λ ps. record {
    made = new_object number;
    is = ap (λ (w : Declared). new_term w) (sym h) ∙ new_is (declared_view of) number class;
    ends = λ n. refl;
  };
}

pub goes_new : (env : Env) (known : Bor Declarations) → declared_in env.scope ≡ declarations_view known.now → (word : Token) (class : Identifier) (number : ℕ) (of : DeclaredType) (xs ys after : List Item) (d e : Drafted) → Goes env d xs e ys (λ is. is) → declared_view of ≡ meant_type (plain_type env.scope class)
    → made_in (declared_view of) ≡ Some number → after ≡ item.Tree (record { place = word.place; name = None; dotted = None; term = newly number of; declared = known }) ∷ ys → Goes env d xs e after (behind_node (node.New word class))
goes_new env known told word class number of xs ys after d e g meant made k =
    goes_leaf env xs ys after d e e (record { place = word.place; name = None; dotted = None; term = newly number of; declared = known }) (new word (short_type class)) told g (new_leaf env e number of (meant_type (plain_type env.scope class)) meant made) refl
    refl refl k
