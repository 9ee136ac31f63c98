-- Names behind dots.
use Rattle.std.proofs.Common.{◌≡◌, ℕ, Bool, ◌&&◌, List, ◌∷◌, Option, Some, None, refl, sym, ap, subst, ◌∙◌}
use Rattle.std.specs.Prelude.{option_map}
use Rattle.vba_words.specs.declared.identifier.Identifier.{Identifier}
use Rattle.vba_lexer.specs.declared.token.Token.{Token}
use Rattle.vba_expression.specs.Tree.{Expr, literal, me, name, with_member, member, index, parenthesised, new, type_of, unary, binary}
use Rattle.vba_expression.specs.Reader.{name_in, behind_dot}
use Rattle.vba_expression.specs.declared.node.ExpressionNode.TheVariants as node
use Rattle.vba_expression.specs.Nodes.{behind_node}
use Rattle.bound_project.specs.Pieces.{Piece, Tables}
use Rattle.bound_project.specs.Drafts.{Drafted}
use Rattle.binder.specs.Declarations.{What, a_variable, a_constant, an_enum, a_member, a_type, an_event, a_procedure, Entry}
use Rattle.binder.specs.Scopes.{Space, Scope, Qualifier, module_qualifier, enum_qualifier, library_qualifier, of_module, plainly, before_dot, counts, declares, behind, as_qualifier, first_at, is_named, qualifier_of, seen_from, enum_behind}
use Rattle.bound_names.specs.bound_members.specs.bound_calls.specs.bound_forms.specs.Terms.{Env}
use Rattle.bound_names.specs.bound_members.specs.bound_calls.specs.bound_forms.specs.Terms as plain
use Rattle.bound_names.specs.bound_members.specs.bound_calls.specs.bound_forms.specs.Operands.{place_told}
use Rattle.bound_names.specs.bound_members.specs.bound_calls.specs.bound_forms.specs.Members.{member_of}
use Rattle.bound_names.specs.bound_members.specs.bound_calls.specs.bound_forms.specs.ExpressionsBound.{term_of, meant_term, behind_term, from_zero}
use Rattle.bound_names.specs.bound_members.specs.bound_calls.specs.declared.term.Dotted.{Dotted}
use Rattle.bound_names.specs.bound_members.specs.bound_calls.specs.declared.term.Term.{Term}
use Rattle.bound_names.specs.bound_members.specs.bound_calls.specs.declared.term.Tree.{Tree}
use Rattle.bound_names.specs.bound_members.specs.bound_calls.specs.declared.term.Item.{Item}
use Rattle.bound_names.specs.bound_members.specs.bound_calls.specs.declared.term.Item.TheVariants as item
use Rattle.bound_names.specs.bound_members.specs.bound_calls.specs.Standing.{TermStands, TreeStands, QualifierStands, LeafStands, AllNamed}
use Rattle.bound_accesses.specs.Qualified.{IsQualifier, MakesMember, dotted_view, looked_up}
use Rattle.bound_names.specs.bound_members.specs.bound_calls.specs.Steps.{MakesLeaf, Goes}
use Rattle.bound_names.specs.bound_members.specs.bound_calls.proofs.Steps.{goes_made}

-- an expression that is a name
pub named_base : (base : Expr) (x : Identifier) → name_in base ≡ Some x → base ≡ name x
named_base (literal l) x h = let e : None ≡ Some x = h in absurd cc
named_base (me token) x h = let e : None ≡ Some x = h in absurd cc
named_base (name y) x h = let e : Some y ≡ Some x = h in let s : y ≡ x = cc in ap (λ (z : Identifier). name z) s
named_base (with_member dot y) x h = let e : None ≡ Some x = h in absurd cc
named_base (member base dot y) x h = let e : None ≡ Some x = h in absurd cc
named_base (index base left args right) x h = let e : None ≡ Some x = h in absurd cc
named_base (parenthesised left inner right) x h = let e : None ≡ Some x = h in absurd cc
named_base (new word of) x h = let e : None ≡ Some x = h in absurd cc
named_base (type_of word operand is_word of) x h = let e : None ≡ Some x = h in absurd cc
named_base (unary o token operand) x h = let e : None ≡ Some x = h in absurd cc
named_base (binary l o token r) x h = let e : None ≡ Some x = h in absurd cc

-- ---- behind a module, an Enum or VBA

-- where a name behind an expression is looked up
pub looked : (env : Env) (t : Tables) (x : Tree) (base : Expr) (ps below : List Piece) → TreeStands env t x base ps below
    → qualifier_of env.scope base ≡ looked_up env.scope (option_map (λ name. name.now) x.name) (option_map dotted_view x.dotted)
looked env t x base ps below h = at (option_map (λ name. name.now) x.name) x.dotted h.name_is h.qualifier_is
  where
    at : (o : Option Identifier) (y : Option Dotted) → o ≡ name_in base → QualifierStands env o y base ps below → qualifier_of env.scope base ≡ looked_up env.scope o (option_map dotted_view y)
    at (Some n) y known q = ap (λ (z : Expr). qualifier_of env.scope z) (named_base base n (sym known))
    at None (Some y) known q = ap (λ (z : Expr). qualifier_of env.scope z) q.is
    at None None known q = q

-- nothing is pushed for that
alone : (env : Env) (t : Tables) (x : Tree) (base : Expr) (q : Qualifier) (ps below : List Piece) → TreeStands env t x base ps below → IsQualifier env.scope x (Some q) → ps ≡ below
alone env t x base q ps below h k = at (option_map (λ name. name.now) x.name) x.dotted h.leaf h.qualifier_is k
  where
    at : (o : Option Identifier) (y : Option Dotted) → LeafStands o ps below → QualifierStands env o y base ps below → Some q ≡ looked_up env.scope o (option_map dotted_view y) → ps ≡ below
    at (Some n) y leaf s k = leaf
    at None (Some y) leaf s k = s.none_pushed
    at None None leaf s k = let e : Some q ≡ None = k in absurd cc

-- the dot belongs to no class of New or TypeOf
no_class : (env : Env) (base : Expr) (dot : Token) (f : Identifier) (q : Qualifier) → qualifier_of env.scope base ≡ Some q → behind_dot base dot f ≡ member base dot f
no_class env (literal l) dot f q h = refl
no_class env (me token) dot f q h = refl
no_class env (name y) dot f q h = refl
no_class env (with_member dot2 y) dot f q h = refl
no_class env (member base dot2 y) dot f q h = refl
no_class env (index base left args right) dot f q h = refl
no_class env (parenthesised left inner right) dot f q h = refl
no_class env (new word of) dot f q h = let e : None ≡ Some q = h in absurd cc
no_class env (type_of word operand is_word of) dot f q h = let e : None ≡ Some q = h in absurd cc
no_class env (unary o token operand) dot f q h = refl
no_class env (binary l o token r) dot f q h = refl

-- a leaf above these pieces
leaf_above : (env : Env) (d e : Drafted) (x : Term) (y : plain.Term) (below : List Piece) → d.pieces ≡ below → MakesLeaf env d e x y → TermStands env e.tables x y e.pieces below
leaf_above env d e x y below eq m = let A : List Piece → Type 0 = λ (ps : List Piece). TermStands env e.tables x y e.pieces ps in subst A (m.pieces ∙ eq) (m.stands e.pieces)

-- behind an Enum there is none
no_second : (s : Scope) (space : Space) (number : ℕ) (x : Identifier) (public : Bool) (w : What) (f : Identifier)
    → enum_behind s (as_qualifier (Some (of_module space number (record { name = x; is_public = public; what = w })))) f ≡ None
no_second s space number x public (a_variable v) f = refl
no_second s space number x public (a_constant c) f = refl
no_second s space number x public an_enum f = refl
no_second s space number x public (a_member value steps) f = refl
no_second s space number x public (a_type fields) f = refl
no_second s space number x public (an_event ps) f = refl
no_second s space number x public (a_procedure p) f = refl

no_third : (s : Scope) (q : Option Qualifier) (x f : Identifier) → enum_behind s (enum_behind s q x) f ≡ None
no_third s None x f = refl
no_third s (Some library_qualifier) x f = refl
no_third s (Some (enum_qualifier space number)) x f = refl
no_third s (Some (module_qualifier space)) x f = at (first_at (λ (e : Entry). is_named x.name e.name && (seen_from s space e && counts before_dot e.what)) 0 space.entries)
  where
    at : (o : Option (ℕ × Entry)) → enum_behind s (as_qualifier (option_map (λ f. of_module space f.0 f.1) o)) f ≡ None
    at None = refl
    at (Some found) = no_second s space found.0 found.1.name found.1.is_public found.1.what f

abbrev pub made_tree : Tree → Option Dotted → Term → Tree
made_tree x y t = record { place = x.place; name = None; dotted = y; term = t; declared = x.declared }

-- the names that a name behind another expression makes with that
abbrev pub JoinedTo : Tree → Identifier → Option Dotted → Type 0
JoinedTo x f y = option_map dotted_view y ≡ option_map (λ (n : Identifier). (n, f)) (option_map (λ name. name.now) x.name)

joined : (env : Env) (x : Tree) (base : Expr) (dot : Token) (f : Identifier) (q : Qualifier) (y : Option Dotted) (ps below : List Piece) → JoinedTo x f y → option_map (λ name. name.now) x.name ≡ name_in base
    → qualifier_of env.scope base ≡ Some q → Some q ≡ looked_up env.scope (option_map (λ name. name.now) x.name) (option_map dotted_view x.dotted) → ps ≡ below → QualifierStands env None y (member base dot f) ps below
joined env x base dot f q y ps below j known looked_is k same = at y (option_map (λ name. name.now) x.name) (option_map dotted_view x.dotted) j known k
  where
    at : (y : Option Dotted) (o : Option Identifier) (z : Option (Identifier × Identifier)) → option_map dotted_view y ≡ option_map (λ (n : Identifier). (n, f)) o → o ≡ name_in base → Some q ≡ looked_up env.scope o z
        → QualifierStands env None y (member base dot f) ps below
    at (Some y) (Some n) z j known k =
        let e : Some (dotted_view y) ≡ Some (n, f) = j in
        let pair : dotted_view y ≡ (n, f) = cc in
        let first : y.before.now ≡ n = ap (λ (p : Identifier × Identifier). p.0) pair in
        let second : y.name.now ≡ f = ap (λ (p : Identifier × Identifier). p.1) pair in
        let is : base ≡ name n = named_base base n (sym known) in
        record { dot = dot; is = ap (λ (b : Expr). member b dot f) is ∙ ap (λ (m : Identifier). member (name m) dot f) (sym first) ∙ ap (λ (m : Identifier). member (name y.before.now) dot m) (sym second); none_pushed = same }
    at (Some y) None z j known k = let e : Some (dotted_view y) ≡ None = j in absurd cc
    at None (Some n) z j known k = let p : Identifier × Identifier = (n, f) in let e : None ≡ Some p = j in absurd cc
    at None None (Some z) j known k =
        ap (λ (o : Option Qualifier). enum_behind env.scope o f) (looked_is ∙ k) ∙ no_third env.scope (as_qualifier (declares before_dot env.scope z.0)) z.1 f
    at None None None j known k = let e : Some q ≡ None = k in absurd cc

behind_stands : (env : Env) (x : Tree) (f : Identifier) (q : Qualifier) (d e : Drafted) (t : Term) (y : Option Dotted) → MakesLeaf env d e t (from_zero (meant_term env f (behind plainly env.scope q f))) → JoinedTo x f y
    → IsQualifier env.scope x (Some q) → (base : Expr) (dot : Token) (below : List Piece) → TreeStands env d.tables x base d.pieces below → TreeStands env e.tables (made_tree x y t) (behind_dot base dot f) e.pieces below
behind_stands env x f q d e t y m j k base dot below h =
    let is : qualifier_of env.scope base ≡ Some q = looked env d.tables x base d.pieces below h ∙ sym k in
    let same : d.pieces ≡ below = alone env d.tables x base q d.pieces below h k in
    let A : Expr → Type 0 = λ (z : Expr). TreeStands env e.tables (made_tree x y t) z e.pieces below in
    let T : Option Qualifier → Type 0 = λ (o : Option Qualifier). TermStands env e.tables t (behind_term env o f (member_of env (place_told base) dot.place (term_of env base) f)) e.pieces below in
    subst A (sym (no_class env base dot f q is)) (record {
      term_is = subst T (sym is) (leaf_above env d e t (from_zero (meant_term env f (behind plainly env.scope q f))) below same m);
      place_is = h.place_is;
      name_is = refl;
      qualifier_is = joined env x base dot f q y e.pieces below j h.name_is is k (m.pieces ∙ same);
      leaf = tt;
      declared_is = h.declared_is;
    })

pub makes_behind : (env : Env) (x : Tree) (f : Identifier) (q : Qualifier) (d e : Drafted) (t : Term) (y : Option Dotted) → MakesLeaf env d e t (from_zero (meant_term env f (behind plainly env.scope q f))) → JoinedTo x f y
    → (dot : Token) → IsQualifier env.scope x (Some q) → MakesMember env x dot f d e (made_tree x y t)
makes_behind env x f q d e t y m j dot k = record { grown = m.grown; named = m.named; stands = λ base below h. behind_stands env x f q d e t y m j k base dot below h }

-- ---- on the stack

pub goes_member : (env : Env) (x y : Tree) (f : Identifier) (dot : Token) (xs old after : List Item) (d e : Drafted) → old ≡ item.Tree x ∷ xs → after ≡ item.Tree y ∷ xs → AllNamed d.tables old → MakesMember env x dot f d e y
    → Goes env d old e after (behind_node (node.Member dot f))
goes_member env x y f dot xs old after d e o n k m =
    goes_made env x y xs old after d e (λ base. behind_dot base dot f) o n m.grown k m.named (λ base below h. m.stands base below h) (behind_node (node.Member dot f)) (λ tree is. refl)
