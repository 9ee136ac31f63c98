-- Fields of places and values, and names behind dots that begin an expression.
use Rattle.std.specs.Prelude.{◌==◌}
use Rattle.std.proofs.Common.{◌≡◌, ℕ, Bor, Bool, length, true, false, List, [], ◌∷◌, ◌++◌, map, Option, Some, None, is_some, if◌then◌else◌, refl, sym, ap, subst, ◌∙◌, ◌&&◌, not}
use Rattle.vba_base.specs.declared.place.Place.{Place}
use Rattle.vba_lexer.specs.declared.token.Token.{Token}
use Rattle.vba_words.specs.declared.identifier.Identifier.{Identifier}
use Rattle.vba_expression.specs.Tree.{Expr, literal, me, name, with_member, member, index, parenthesised, new, type_of, unary, binary}
use Rattle.vba_expression.specs.Reader.{behind_dot}
use Rattle.vba_expression.specs.declared.node.ExpressionNode.TheVariants as node
use Rattle.vba_expression.specs.Nodes as nodes
use Rattle.vba_expression.specs.Nodes.{behind_node}
use Rattle.vba_values.specs.Types.{Declared}
use Rattle.vba_values.specs.Types as type
use Rattle.bound_project.specs.declared.declared_type.DeclaredType.{DeclaredType}
use Rattle.vba_values.specs.declared.object.HostRef.TheVariants as host
use Rattle.bound_project.specs.declared.declared_type.DeclaredType.TheVariants.{Plain, ArrayOf}
use Rattle.bound_project.specs.declared.declared_type.ElementType.TheVariants as element
use Rattle.bound_project.specs.declared.declarations.Declarations.{Declarations}
use Rattle.bound_project.specs.declared.node.Node.{Node}
use Rattle.bound_project.specs.declared.node.NodeKind.{NodeKind}
use Rattle.bound_project.specs.declared.node.NodeKind.TheVariants as kinds
use Rattle.bound_project.specs.Project.{Declaration, UserType}
use Rattle.bound_project.specs.Project as project
use Rattle.bound_project.specs.View.{declared_view, declarations_view, user_type_view}
use Rattle.bound_project.specs.Expressions.{host_object, load, Lvalue, field, field_value, kept_place}
use Rattle.bound_project.specs.Expressions as bound
use Rattle.bound_project.specs.Pieces.{Piece, Tables, expr_of, put, put_kind}
use Rattle.bound_project.specs.Drafts.{Drafted}
use Rattle.binder.specs.Projects.{declarations_of}
use Rattle.binder.specs.Constants.{home}
use Rattle.binder.specs.Scopes.{Space, Qualifier, qualifier_of, enum_behind}
use Rattle.binder.specs.Storage.{types_from, types_of_space, user_types, has_bounds}
use Rattle.bound_names.specs.bound_members.specs.bound_calls.specs.bound_forms.specs.Terms.{Env, Within, a_place as a_place_term, a_value, expression_of, read_of, routine_term}
use Rattle.bound_names.specs.bound_members.specs.bound_calls.specs.bound_forms.specs.Terms as terms
use Rattle.bound_names.specs.bound_members.specs.bound_calls.specs.bound_forms.specs.ClassDefaults.{declared_in}
use Rattle.bound_names.specs.bound_members.specs.bound_calls.specs.bound_forms.specs.Operands.{alone, given_as, place_told, is_instance_type, is_of_class}
use Rattle.bound_names.specs.bound_members.specs.bound_calls.specs.bound_forms.specs.Members.{behind_alone, err_member, field_named, field_of_place, field_of_value, kept_member, member_of, object_member, sheets_value, unknown_member, with_field, class_member, host_behind}
use Rattle.bound_names.specs.bound_members.specs.bound_calls.specs.bound_forms.specs.ExpressionsBound.{behind_term, term_of, typed_term, new_term}
use Rattle.binder.specs.Types.{meant_type, type_meant}
use Rattle.bound_names.specs.bound_members.specs.bound_calls.specs.bound_declarations.specs.constant_values.specs.declared_names.specs.Outside.{the_outside}
use Rattle.bound_names.specs.bound_members.specs.bound_calls.specs.bound_declarations.specs.constant_values.specs.declared_names.specs.View.{scope_view, space_view, written_view}
use Rattle.bound_names.specs.bound_members.specs.bound_calls.specs.bound_declarations.specs.constant_values.specs.declared_names.specs.declared.scope.Scope.{Scope as ScopeHere}
use Rattle.bound_names.specs.project_tables.specs.Signed.{whole_scope}
use Rattle.bound_accesses.specs.declared.fields.Field.{Field}
use Rattle.bound_names.specs.bound_members.specs.bound_calls.specs.declared.term.Ending.{Ending}
use Rattle.bound_names.specs.bound_members.specs.bound_calls.specs.declared.term.HostMember.{HostMember}
use Rattle.bound_names.specs.bound_members.specs.bound_calls.specs.declared.term.Term.{Term}
use Rattle.bound_names.specs.bound_members.specs.bound_calls.specs.declared.term.Term.TheVariants as term
use Rattle.bound_names.specs.bound_members.specs.bound_calls.specs.declared.term.Tree.{Tree}
use Rattle.bound_names.specs.bound_members.specs.bound_calls.specs.declared.term.Item.{Item}
use Rattle.bound_names.specs.bound_members.specs.bound_calls.specs.declared.term.Item.TheVariants as items
use Rattle.bound_names.specs.bound_members.specs.bound_calls.specs.Calls.{node_of}
use Rattle.bound_accesses.specs.Fields.{FieldFound, FieldIs, FieldOrNone, KeepsField, LacksField, MakesBehind, MakesBehindTerm, MakesField, MakesFieldValue, PlacesField, ValueOrNone, place_found, user_type_in, value_found}
use Rattle.bound_accesses.specs.Items.{FindsBehindPlace, FindsBehindValue, found_term, is_before_dot, may_be_class}
use Rattle.bound_names.specs.ClassMembers.{MakesMemberOf, unknown_term}
use Rattle.bound_accesses.specs.Qualified.{IsQualifier, MakesMember, names_sheets}
use Rattle.bound_names.specs.bound_members.specs.bound_calls.specs.Standing.{TermStands, TreeStands, Stands, Base, ValueEnds}
use Rattle.bound_names.specs.bound_members.specs.bound_calls.specs.Steps.{Goes, MakesLeaf}
use Rattle.bound_names.specs.bound_members.specs.bound_calls.specs.Taking.{StandsAlone, read_kind}
use Rattle.bound_names.specs.bound_members.specs.bound_calls.proofs.Growing.{grown_same, grown_twice, grown_pieces, all_named, stands_grows}
use Rattle.bound_names.specs.bound_members.specs.bound_calls.proofs.Taking.{read_ends}
use Rattle.bound_accesses.proofs.Dotted.{looked, made_tree}
use Rattle.bound_names.proofs.UnknownTerms.{unknown_stands}
use Rattle.bound_accesses.proofs.ItemTerms.{hosted, one_more, place_read, read_stands}
use Rattle.bound_accesses.proofs.Tested.{no_class_made}
use Rattle.vba_values.specs.declared.object.HostRef.{HostRef}
use Rattle.binder.specs.Classes.{class_in, has_class}
use Rattle.binder.specs.Declarations.{Written}
use Rattle.bound_names.specs.bound_members.specs.bound_calls.proofs.LastNodes.{any_node}

-- ---- the fields of user types

same_types : (scope : ScopeHere) (spaces : List Space) → types_from (whole_scope (scope_view scope).spaces) spaces ≡ types_from (scope_view scope) spaces
same_types scope [] = refl
same_types scope (space ∷ spaces) = ap (λ (ts : List UserType). types_of_space (home (scope_view scope) space) space.entries ++ ts) (same_types scope spaces)

-- those that the project declares
pub types_are : (scope : ScopeHere) (declared : Declarations) → declarations_view declared ≡ declarations_of the_outside (whole_scope (scope_view scope).spaces) (scope_view scope).spaces
    → map user_type_view declared.types.items ≡ user_types (scope_view scope)
types_are scope declared is = ap (λ (z : project.Declarations). z.types) is ∙ same_types scope (scope_view scope).spaces

pub user_type_is : (of : DeclaredType) (number : ℕ) → user_type_in of ≡ Some number → declared_view of ≡ type.udt number
user_type_is (Plain (element.UserType place)) number h = let e : place ≡ number = cc in ap (λ (n : ℕ). type.udt n) e
user_type_is of number h = let e : None ≡ Some number = h in absurd cc

-- ---- a field that was found

field_term : (env : Env) (place dot : Place) (at : Lvalue) (number : ℕ) (lends makes : Bool) (f : Identifier) (x : Field) → FieldFound (field_named env number f) x
    → field_of_place env place dot at (type.udt number) lends makes f ≡ a_place_term (field at x.number (declared_view x.of) (not (x.bounds == 0))) (declared_view x.of) x.bounds lends false
field_term env place dot at number lends makes f x k =
    let F : ℕ → Declaration → terms.Term = λ (i : ℕ) (d : Declaration). a_place_term (field at i d.of (has_bounds d)) d.of (length d.bounds) lends false in
    ap (λ (o : Option (ℕ × Declaration)). with_field o F dot (expression_of (read_of makes at) place (type.udt number))) k.is
    ∙ ap (λ (u : Declared). a_place_term (field at x.number u (has_bounds k.declaration)) u (length k.declaration.bounds) lends false) k.of_is
    ∙ ap (λ (n : ℕ). a_place_term (field at x.number (declared_view x.of) (not (n == 0))) (declared_view x.of) n lends false) k.bounds_are

pub makes_field : (env : Env) (of : DeclaredType) (number : ℕ) (lends : Bool) (f : Identifier) (x : Field) → user_type_in of ≡ Some number → FieldFound (field_named env number f) x
    → MakesField env of lends f (term.Place (kinds.Field x.number x.of (not (x.bounds == 0))) x.of x.bounds lends false)
makes_field env of number lends f x is k = record {
  named = λ t. tt;
  stands = λ t place dot at makes below. record {
    at = field at x.number (declared_view x.of) (not (x.bounds == 0));
    is = ap (λ (u : Declared). field_of_place env place dot at u lends makes f) (user_type_is of number is) ∙ field_term env place dot at number lends makes f x k;
    ends = λ n. refl;
  };
}

value_term : (env : Env) (place dot : Place) (made : bound.Node) (number : ℕ) (f : Identifier) (x : Field) → FieldFound (field_named env number f) x
    → field_of_value env place dot made (type.udt number) f ≡ a_value (field_value (expression_of made place (type.udt number)) x.number) (declared_view x.of)
value_term env place dot made number f x k =
    let e = expression_of made place (type.udt number) in
    let F : ℕ → Declaration → terms.Term = λ (i : ℕ) (d : Declaration). a_value (field_value e i) d.of in
    ap (λ (o : Option (ℕ × Declaration)). with_field o F dot e) k.is ∙ ap (λ (u : Declared). a_value (field_value e x.number) u) k.of_is

pub makes_field_value : (env : Env) (of : DeclaredType) (number : ℕ) (f : Identifier) (x : Field) → user_type_in of ≡ Some number → FieldFound (field_named env number f) x
    → MakesFieldValue env of f (term.Value (record { kind = kinds.FieldValue x.number; of = x.of }))
makes_field_value env of number f x is k = record {
  named = λ t. tt;
  stands = λ t place dot made below.
      let A : Declared → Type 0 = λ (u : Declared). field_of_value env place dot made u f ≡ a_value (field_value (expression_of made place u) x.number) (declared_view x.of) in
      record {
        made = field_value (expression_of made place (declared_view of)) x.number;
        is = subst A (sym (user_type_is of number is)) (value_term env place dot made number f x k);
        ends = λ n. refl;
      };
}

-- there is no such field
pub lacks_field : (env : Env) (of : DeclaredType) (number : ℕ) (f : Identifier) → user_type_in of ≡ Some number → field_named env number f ≡ None → LacksField env of f
lacks_field env of number f is none = record {
  place = λ place dot at lends makes.
      let A : Declared → Type 0 = λ (u : Declared). field_of_place env place dot at u lends makes f ≡ unknown_member dot (expression_of (read_of makes at) place u) in
      let F : ℕ → Declaration → terms.Term = λ (i : ℕ) (d : Declaration). a_place_term (field at i d.of (has_bounds d)) d.of (length d.bounds) lends false in
      subst A (sym (user_type_is of number is)) (ap (λ (o : Option (ℕ × Declaration)). with_field o F dot (expression_of (read_of makes at) place (type.udt number))) none);
  value = λ place dot made.
      let A : Declared → Type 0 = λ (u : Declared). field_of_value env place dot made u f ≡ unknown_member dot (expression_of made place u) in
      let e = expression_of made place (type.udt number) in
      let F : ℕ → Declaration → terms.Term = λ (i : ℕ) (d : Declaration). a_value (field_value e i) d.of in
      subst A (sym (user_type_is of number is)) (ap (λ (o : Option (ℕ × Declaration)). with_field o F dot e) none);
}

pub field_or_none : (env : Env) (of : DeclaredType) (number : ℕ) (lends : Bool) (f : Identifier) (found : Option Field) → user_type_in of ≡ Some number → FieldIs (field_named env number f) found → FieldOrNone env of lends f (place_found found lends)
field_or_none env of number lends f None is k = lacks_field env of number f is k
field_or_none env of number lends f (Some x) is k = makes_field env of number lends f x is k

pub value_or_none : (env : Env) (of : DeclaredType) (number : ℕ) (f : Identifier) (found : Option Field) → user_type_in of ≡ Some number → FieldIs (field_named env number f) found → ValueOrNone env of f (value_found found)
value_or_none env of number f None is k = lacks_field env of number f is k
value_or_none env of number f (Some x) is k = makes_field_value env of number f x is k

pub places_found : (env : Env) (place dot : Place) (at : Ending) (lends makes : Bool) (f : Identifier) (d e : Drafted) (y : Term) → MakesField env at.of lends f y → e ≡ one_more d at.kind at.of place
    → PlacesField env place dot at lends makes f d e y
places_found env place dot at lends makes f d e y m eq =
    let P : Drafted → Type 0 = λ (z : Drafted). PlacesField env place dot at lends makes f d z y in
    let e1 = one_more d at.kind at.of place in
    subst P (sym eq) (record {
      grown = grown_pieces d e1.pieces;
      named = m.named d.tables;
      stands = λ x below ends.
          let B : List Piece → Type 0 = λ (ps : List Piece). TermStands env d.tables y (field_of_place env place dot x (declared_view at.of) lends makes f) ps below in
          subst B (sym (ends (node_of at.kind place at.of))) (m.stands d.tables place dot x makes below);
    })

pub places_none : (env : Env) (place dot : Place) (at : Ending) (lends makes : Bool) (f : Identifier) (d b e : Drafted) → LacksField env at.of f → b ≡ one_more d at.kind at.of place → e ≡ one_more b (read_kind makes) at.of place
    → PlacesField env place dot at lends makes f d e (unknown_term dot)
places_none env place dot at lends makes f d b e l one two =
    let b1 = one_more d at.kind at.of place in
    let e1 = place_read d at makes place in
    let both : e ≡ e1 = two ∙ ap (λ (z : Drafted). one_more z (read_kind makes) at.of place) one in
    let P : Drafted → Type 0 = λ (z : Drafted). PlacesField env place dot at lends makes f d z (unknown_term dot) in
    subst P (sym both) (record {
      grown = grown_twice d b1 e1 (grown_pieces d b1.pieces) (grown_pieces b1 e1.pieces);
      named = tt;
      stands = λ x below ends.
          unknown_stands env d.tables dot (expression_of (read_of makes x) place (declared_view at.of)) (field_of_place env place dot x (declared_view at.of) lends makes f) e1.pieces below (l.place place dot x lends makes)
          (read_stands makes place at d x below ends);
    })

-- ---- what With keeps

pub keeps_field : (env : Env) (header : ℕ) (of : DeclaredType) (lends : Bool) (f : Identifier) (place : Place) (d e : Drafted) (x : Term) → env.within ≡ Some (record { header = header; of = declared_view of; lends = lends })
    → PlacesField env place place (record { kind = kinds.KeptPlace header; of = of }) lends false f d e x → KeepsField env place f d e x
keeps_field env header of lends f place d e x is p =
    let A : Option Within → Type 0 = λ (w : Option Within). TermStands env e.tables x (kept_member env place w f) e.pieces d.pieces in
    record { grown = p.grown; named = p.named; stands = subst A (sym is) (p.stands (kept_place header) d.pieces (λ n. refl)) }

-- what is of no Type is looked at as an object
no_type_place : (env : Env) (place dot : Place) (at : Lvalue) (of : DeclaredType) (lends makes : Bool) (f : Identifier) → user_type_in of ≡ None → class_in (declared_view of) ≡ None
    → field_of_place env place dot at (declared_view of) lends makes f ≡ host_behind env place dot (read_of makes at) (declared_view of) f.name
no_type_place env place dot at (Plain element.Boolean) lends makes f h k = refl
no_type_place env place dot at (Plain element.Byte) lends makes f h k = refl
no_type_place env place dot at (Plain element.Integer) lends makes f h k = refl
no_type_place env place dot at (Plain element.Long) lends makes f h k = refl
no_type_place env place dot at (Plain element.LongLong) lends makes f h k = refl
no_type_place env place dot at (Plain element.Currency) lends makes f h k = refl
no_type_place env place dot at (Plain element.Text) lends makes f h k = refl
no_type_place env place dot at (Plain (element.FixedText n)) lends makes f h k = refl
no_type_place env place dot at (Plain element.Object) lends makes f h k = refl
no_type_place env place dot at (Plain (element.Class n)) lends makes f h k = let e : Some n ≡ None = k in absurd cc
no_type_place env place dot at (Plain element.Collection) lends makes f h k = refl
no_type_place env place dot at (Plain element.Worksheet) lends makes f h k = refl
no_type_place env place dot at (Plain element.Range) lends makes f h k = refl
no_type_place env place dot at (Plain element.Variant) lends makes f h k = refl
no_type_place env place dot at (Plain (element.UserType n)) lends makes f h k = let e : Some n ≡ None = h in absurd cc
no_type_place env place dot at (ArrayOf u) lends makes f h k = refl

no_type_value : (env : Env) (place dot : Place) (node : bound.Node) (of : DeclaredType) (f : Identifier) → user_type_in of ≡ None → class_in (declared_view of) ≡ None
    → field_of_value env place dot node (declared_view of) f ≡ host_behind env place dot node (declared_view of) f.name
no_type_value env place dot node (Plain element.Boolean) f h k = refl
no_type_value env place dot node (Plain element.Byte) f h k = refl
no_type_value env place dot node (Plain element.Integer) f h k = refl
no_type_value env place dot node (Plain element.Long) f h k = refl
no_type_value env place dot node (Plain element.LongLong) f h k = refl
no_type_value env place dot node (Plain element.Currency) f h k = refl
no_type_value env place dot node (Plain element.Text) f h k = refl
no_type_value env place dot node (Plain (element.FixedText n)) f h k = refl
no_type_value env place dot node (Plain element.Object) f h k = refl
no_type_value env place dot node (Plain (element.Class n)) f h k = let e : Some n ≡ None = k in absurd cc
no_type_value env place dot node (Plain element.Collection) f h k = refl
no_type_value env place dot node (Plain element.Worksheet) f h k = refl
no_type_value env place dot node (Plain element.Range) f h k = refl
no_type_value env place dot node (Plain element.Variant) f h k = refl
no_type_value env place dot node (Plain (element.UserType n)) f h k = let e : Some n ≡ None = h in absurd cc
no_type_value env place dot node (ArrayOf u) f h k = refl

pub keeps_object : (env : Env) (header : ℕ) (of : DeclaredType) (lends : Bool) (f : Identifier) (place : Place) (d e : Drafted) (found : Option HostMember) → env.within ≡ Some (record { header = header; of = declared_view of; lends = lends })
    → user_type_in of ≡ None → class_in (declared_view of) ≡ None → FindsBehindPlace env place (record { kind = kinds.KeptPlace header; of = of }) false f.name d e found → KeepsField env place f d e (found_term found place)
keeps_object env header of lends f place d e found is none class h =
    let A : Option Within → Type 0 = λ (w : Option Within). TermStands env e.tables (found_term found place) (kept_member env place w f) e.pieces d.pieces in
    let B : terms.Term → Type 0 = λ (w : terms.Term). TermStands env e.tables (found_term found place) w e.pieces d.pieces in
    record {
      grown = h.grown;
      named = h.named place;
      stands = subst A (sym is) (subst B (sym (no_type_place env place place (kept_place header) of lends false f none class)) (h.stands place (kept_place header) d.pieces (λ n. refl)));
    }

abbrev with_tree : Token → Term → Bor Declarations → Tree
with_tree dot t known = record { place = dot.place; name = None; dotted = None; term = t; declared = known }

kept_stands : (env : Env) (xs ys : List Item) (d e g : Drafted) (t : Term) (known : Bor Declarations) (dot : Token) (f : Identifier) → declared_in env.scope ≡ declarations_view known.now → Goes env d xs e ys (λ is. is) → KeepsField env dot.place f e g t → (is : List nodes.Item) (base : Base) → Stands env d.tables xs is d.pieces base
    → Stands env g.tables (items.Tree (with_tree dot t known) ∷ ys) (nodes.tree (with_member dot f) ∷ is) g.pieces base
kept_stands env xs ys d e g t known dot f told s k is base h = (
  e.pieces,
  (
    record { term_is = k.stands; place_is = refl; name_is = refl; qualifier_is = refl; leaf = tt; declared_is = told },
    stands_grows env e.tables g.tables k.grown.tables ys s.named is e.pieces base (s.stands is base h),
  ),
)

pub goes_kept : (env : Env) (xs ys after : List Item) (d e g : Drafted) (t : Term) (known : Bor Declarations) (dot : Token) (f : Identifier) → declared_in env.scope ≡ declarations_view known.now → Goes env d xs e ys (λ is. is) → KeepsField env dot.place f e g t → after ≡ items.Tree (with_tree dot t known) ∷ ys
    → Goes env d xs g after (behind_node (node.WithMember dot f))
goes_kept env xs ys after d e g t known dot f told s k eq =
    let A : List Item → Type 0 = λ (l : List Item). Goes env d xs g l (behind_node (node.WithMember dot f)) in
    subst A (sym eq) (record {
      grown = grown_twice d e g s.grown k.grown;
      named = (k.named, all_named e.tables g.tables k.grown.tables ys s.named);
      stands = λ is base h. kept_stands env xs ys d e g t known dot f told s k is base h;
    })

-- ---- behind a term

pub behind_place : (env : Env) (place dot : Place) (at : Ending) (bounds : ℕ) (lends makes : Bool) (f : Identifier) (d e : Drafted) (y : Term) → PlacesField env place dot at lends makes f d e y
    → MakesBehind env place dot (term.Place at.kind at.of bounds lends makes) f d e y
behind_place env place dot at bounds lends makes f d e y p = record {
  grown = p.grown;
  named = p.named;
  stands = λ z below k. (let A : terms.Term → Type 0 = λ (w : terms.Term). TermStands env e.tables y (behind_alone env place dot w f) e.pieces below in subst A (sym k.is) (p.stands k.at below k.ends));
  there = λ z below k. ap (λ (w : terms.Term). may_be_class w) k.is;
}

-- a value of a user type isn't what TypeOf gives
type_is_none : (made : bound.Node) (of : DeclaredType) → is_some (user_type_in of) ≡ true → may_be_class (a_value made (declared_view of)) ≡ false
type_is_none (bound.is_type e u) (Plain (element.UserType number)) h = refl
type_is_none made (Plain (element.UserType number)) h = refl
type_is_none made of h = let e : false ≡ true = h in absurd cc

pub behind_value : (env : Env) (place dot : Place) (ending : Ending) (f : Identifier) (d e : Drafted) (y : Term) → is_some (user_type_in ending.of) ≡ true → MakesFieldValue env ending.of f y
    → e ≡ one_more d ending.kind ending.of place → MakesBehind env place dot (term.Value ending) f d e y
behind_value env place dot ending f d e y typed m eq =
    let P : Drafted → Type 0 = λ (z : Drafted). MakesBehind env place dot (term.Value ending) f d z y in
    subst P (sym eq) (record {
      grown = grown_pieces d (put d.tables (node_of ending.kind place ending.of) d.pieces);
      named = m.named d.tables;
      stands = λ z below k.
          let A : terms.Term → Type 0 = λ (w : terms.Term). TermStands env d.tables y (behind_alone env place dot w f) (put d.tables (node_of ending.kind place ending.of) d.pieces) below in
          let B : List Piece → Type 0 = λ (ps : List Piece). TermStands env d.tables y (field_of_value env place dot k.made (declared_view ending.of) f) ps below in
          subst A (sym k.is) (subst B (sym (k.ends (node_of ending.kind place ending.of))) (m.stands d.tables place dot k.made below));
      there = λ z below k. ap (λ (w : terms.Term). may_be_class w) k.is ∙ type_is_none k.made ending.of typed;
    })

pub behind_no_value : (env : Env) (place dot : Place) (ending : Ending) (f : Identifier) (d e : Drafted) → is_some (user_type_in ending.of) ≡ true → LacksField env ending.of f → e ≡ one_more d ending.kind ending.of place
    → MakesBehind env place dot (term.Value ending) f d e (unknown_term dot)
behind_no_value env place dot ending f d e typed l eq =
    let P : Drafted → Type 0 = λ (z : Drafted). MakesBehind env place dot (term.Value ending) f d z (unknown_term dot) in
    let e1 = one_more d ending.kind ending.of place in
    subst P (sym eq) (record {
      grown = grown_pieces d e1.pieces;
      named = tt;
      stands = λ z below k.
          unknown_stands env d.tables dot (expression_of k.made place (declared_view ending.of)) (behind_alone env place dot z f) e1.pieces below
          (ap (λ (w : terms.Term). behind_alone env place dot w f) k.is ∙ l.value place dot k.made) (k.ends (node_of ending.kind place ending.of));
      there = λ z below k. ap (λ (w : terms.Term). may_be_class w) k.is ∙ type_is_none k.made ending.of typed;
    })

-- an object at a place, and one that a value gives
pub behind_object_place : (env : Env) (place dot : Place) (at : Ending) (bounds : ℕ) (lends makes : Bool) (f : Identifier) (d e : Drafted) (found : Option HostMember) → user_type_in at.of ≡ None → class_in (declared_view at.of) ≡ None
    → FindsBehindPlace env place at makes f.name d e found → MakesBehind env place dot (term.Place at.kind at.of bounds lends makes) f d e (found_term found dot)
behind_object_place env place dot at bounds lends makes f d e found none class h = record {
  grown = h.grown;
  named = h.named dot;
  stands = λ z below k.
      let A : terms.Term → Type 0 = λ (w : terms.Term). TermStands env e.tables (found_term found dot) w e.pieces below in
      subst A (sym (ap (λ (w : terms.Term). behind_alone env place dot w f) k.is ∙ no_type_place env place dot k.at at.of lends makes f none class)) (h.stands dot k.at below k.ends);
  there = λ z below k. ap (λ (w : terms.Term). may_be_class w) k.is;
}

pub behind_object_value : (env : Env) (place dot : Place) (v : Ending) (f : Identifier) (d e : Drafted) (found : Option HostMember) → user_type_in v.of ≡ None → class_in (declared_view v.of) ≡ None
    → is_before_dot v.kind ≡ true → FindsBehindValue env place v f.name d e found → MakesBehind env place dot (term.Value v) f d e (found_term found dot)
behind_object_value env place dot v f d e found none class before h = record {
  grown = h.grown;
  named = h.named dot;
  stands = λ z below k.
      let A : terms.Term → Type 0 = λ (w : terms.Term). TermStands env e.tables (found_term found dot) w e.pieces below in
      subst A (sym (ap (λ (w : terms.Term). behind_alone env place dot w f) k.is ∙ no_type_value env place dot k.made v.of f none class)) (h.stands dot k.made below k.ends);
  there = λ z below k. ap (λ (w : terms.Term). may_be_class w) k.is ∙ no_class_made d.tables any_node v.kind k.made d.pieces below before (k.ends any_node) (declared_view v.of);
}

-- ---- behind an object of a class

pub class_is : (of : Declared) (class : ℕ) → class_in of ≡ Some class → of ≡ type.class class
class_is (type.class n) class h = let e : n ≡ class = cc in ap (λ (k : ℕ). type.class k) e
class_is of class h = let e : None ≡ Some class = h in absurd cc

pub behind_class_place : (env : Env) (place dot : Place) (at : Ending) (bounds : ℕ) (lends makes : Bool) (class : ℕ) (f : Identifier) (d b c e : Drafted) (read : NodeKind) (y : Term) → class_in (declared_view at.of) ≡ Some class
    → b ≡ record d { pieces = put d.tables (node_of at.kind place at.of) d.pieces } → read ≡ read_kind makes → c ≡ record b { pieces = put b.tables (node_of read place at.of) b.pieces } → MakesMemberOf env dot class f c e y
    → MakesBehind env place dot (term.Place at.kind at.of bounds lends makes) f d e y
behind_class_place env place dot at bounds lends makes class f d b c e read y is one reads two m =
    let b1 : Drafted = record d { pieces = put d.tables (node_of at.kind place at.of) d.pieces } in
    let c1 : Drafted = record b1 { pieces = put b1.tables (node_of (read_kind makes) place at.of) b1.pieces } in
    let all : c ≡ c1 = two ∙ ap (λ (k : NodeKind). record b { pieces = put b.tables (node_of k place at.of) b.pieces }) reads ∙ ap (λ (z : Drafted). record z { pieces = put z.tables (node_of (read_kind makes) place at.of) z.pieces }) one in
    let P : Drafted → Type 0 = λ (z : Drafted). MakesMemberOf env dot class f z e y → MakesBehind env place dot (term.Place at.kind at.of bounds lends makes) f d e y in
    subst P (sym all) (λ g. record {
      grown = grown_twice d c1 e (grown_twice d b1 c1 (grown_pieces d b1.pieces) (grown_pieces b1 c1.pieces)) g.grown;
      named = g.named;
      stands = λ z below k.
          let A : terms.Term → Type 0 = λ (w : terms.Term). TermStands env e.tables y w e.pieces below in
          let made = expression_of (read_of makes k.at) place (declared_view at.of) in
          let member : behind_alone env place dot z f ≡ class_member env dot made class f =
          ap (λ (w : terms.Term). behind_alone env place dot w f) k.is ∙ ap (λ (u : Declared). field_of_place env place dot k.at u lends makes f) (class_is (declared_view at.of) class is)
          ∙ ap (λ (u : Declared). class_member env dot (expression_of (read_of makes k.at) place u) class f) (sym (class_is (declared_view at.of) class is)) in
          subst A (sym member) (g.stands made below (read_ends makes d.tables k.at b1.pieces below (k.ends (node_of at.kind place at.of)) (node_of (read_kind makes) place at.of)));
      there = λ z below k. ap (λ (w : terms.Term). may_be_class w) k.is;
    }) m

-- a member of an object of a class that a With block keeps
pub keeps_member : (env : Env) (header : ℕ) (of : DeclaredType) (lends : Bool) (class : ℕ) (f : Identifier) (place : Place) (d b c e : Drafted) (y : Term) → env.within ≡ Some (record { header = header; of = declared_view of; lends = lends })
    → class_in (declared_view of) ≡ Some class → b ≡ record d { pieces = put d.tables (node_of (kinds.KeptPlace header) place of) d.pieces } → c ≡ record b { pieces = put b.tables (node_of kinds.Load place of) b.pieces }
    → MakesMemberOf env place class f c e y → KeepsField env place f d e y
keeps_member env header of lends class f place d b c e y is known one two m =
    let b1 : Drafted = record d { pieces = put d.tables (node_of (kinds.KeptPlace header) place of) d.pieces } in
    let c1 : Drafted = record b1 { pieces = put b1.tables (node_of kinds.Load place of) b1.pieces } in
    let all : c ≡ c1 = two ∙ ap (λ (z : Drafted). record z { pieces = put z.tables (node_of kinds.Load place of) z.pieces }) one in
    let P : Drafted → Type 0 = λ (z : Drafted). MakesMemberOf env place class f z e y → KeepsField env place f d e y in
    subst P (sym all) (λ g.
    let A : Option Within → Type 0 = λ (w : Option Within). TermStands env e.tables y (kept_member env place w f) e.pieces d.pieces in
    let B : terms.Term → Type 0 = λ (w : terms.Term). TermStands env e.tables y w e.pieces d.pieces in
    let made = expression_of (load (kept_place header)) place (declared_view of) in
    let member : field_of_place env place place (kept_place header) (declared_view of) lends false f ≡ class_member env place made class f =
    ap (λ (u : Declared). field_of_place env place place (kept_place header) u lends false f) (class_is (declared_view of) class known)
    ∙ ap (λ (u : Declared). class_member env place (expression_of (load (kept_place header)) place u) class f) (sym (class_is (declared_view of) class known)) in
    record {
      grown = grown_twice d c1 e (grown_twice d b1 c1 (grown_pieces d b1.pieces) (grown_pieces b1 c1.pieces)) g.grown;
      named = g.named;
      stands = subst A (sym is) (subst B (sym member) (g.stands made d.pieces refl));
    }) m

pub behind_class_value : (env : Env) (place dot : Place) (v : Ending) (class : ℕ) (f : Identifier) (d b e : Drafted) (y : Term) → class_in (declared_view v.of) ≡ Some class → is_before_dot v.kind ≡ true
    → b ≡ record d { pieces = put d.tables (node_of v.kind place v.of) d.pieces } → MakesMemberOf env dot class f b e y → MakesBehind env place dot (term.Value v) f d e y
behind_class_value env place dot v class f d b e y is before one m =
    let n = node_of v.kind place v.of in
    let b1 : Drafted = record d { pieces = put d.tables n d.pieces } in
    let P : Drafted → Type 0 = λ (z : Drafted). MakesMemberOf env dot class f z e y → MakesBehind env place dot (term.Value v) f d e y in
    subst P (sym one) (λ g. record {
      grown = grown_twice d b1 e (grown_pieces d b1.pieces) g.grown;
      named = g.named;
      stands = λ z below k.
          let A : terms.Term → Type 0 = λ (w : terms.Term). TermStands env e.tables y w e.pieces below in
          let made = expression_of k.made place (declared_view v.of) in
          let member : behind_alone env place dot z f ≡ class_member env dot made class f =
          ap (λ (w : terms.Term). behind_alone env place dot w f) k.is ∙ ap (λ (u : Declared). field_of_value env place dot k.made u f) (class_is (declared_view v.of) class is)
          ∙ ap (λ (u : Declared). class_member env dot (expression_of k.made place u) class f) (sym (class_is (declared_view v.of) class is)) in
          subst A (sym member) (g.stands made below (k.ends n));
      there = λ z below k. ap (λ (w : terms.Term). may_be_class w) k.is ∙ no_class_made d.tables n v.kind k.made d.pieces below before (k.ends n) (declared_view v.of);
    }) m

-- the sheets of the workbook
workbook_made : (n : Node) (made : bound.Node) (ps below : List Piece) → expr_of n (host_object host.Workbook) ∷ ps ≡ expr_of n made ∷ below → made ≡ host_object host.Workbook
workbook_made n made ps below h = let e : host_object host.Workbook ≡ made = cc in sym e

workbook_below : (n : Node) (made : bound.Node) (ps below : List Piece) → expr_of n (host_object host.Workbook) ∷ ps ≡ expr_of n made ∷ below → ps ≡ below
workbook_below n made ps below h = cc

sheets_of : (place dot : Place) (of : Declared) (f : Identifier) → names_sheets f ≡ true → object_member place dot (host_object host.Workbook) of f.name ≡ sheets_value
sheets_of place dot of f h = ap (λ (b : Bool). if b then sheets_value else unknown_member dot (expression_of (host_object host.Workbook) place of)) h

none_of : (place dot : Place) (of : Declared) (f : Identifier) → names_sheets f ≡ false → object_member place dot (host_object host.Workbook) of f.name ≡ unknown_member dot (expression_of (host_object host.Workbook) place of)
none_of place dot of f h = ap (λ (b : Bool). if b then sheets_value else unknown_member dot (expression_of (host_object host.Workbook) place of)) h

-- what is always there isn't found late
never : (own has b : Bool) → (own && (has && (b && false))) ≡ false
never true true true = refl
never true true false = refl
never true false b = refl
never false has b = refl

object_hosted : (env : Env) (place dot : Place) (r : HostRef) (of : Declared) (fold : List ℕ) → host_behind env place dot (host_object r) of fold ≡ object_member place dot (host_object r) of fold
object_hosted env place dot r of fold = hosted env place dot (host_object r) of fold (never (not (is_of_class of)) (has_class env.scope.spaces) (is_instance_type (host_object r) of))

-- the last node of a value that is the workbook
book_made : (t : Tables) (v : Ending) (made : bound.Node) (ps below : List Piece) → v.kind ≡ kinds.HostObject host.Workbook → ValueEnds t v.kind made ps below → made ≡ host_object host.Workbook
book_made t v made ps below book ends =
    let K : NodeKind → Type 0 = λ (x : NodeKind). put_kind t any_node x ps ≡ expr_of any_node made ∷ below in workbook_made any_node made ps below (subst K book (ends any_node))

abbrev sheets_term : Term
sheets_term = term.Value (record { kind = kinds.HostObject host.Sheets; of = Plain element.Object })

pub behind_workbook : (env : Env) (place dot : Place) (v : Ending) (f : Identifier) (d : Drafted) (y : Term) → v.kind ≡ kinds.HostObject host.Workbook → user_type_in v.of ≡ None → class_in (declared_view v.of) ≡ None
    → y ≡ sheets_term → names_sheets f ≡ true → MakesBehind env place dot (term.Value v) f d d y
behind_workbook env place dot v f d y book none class is named =
    let P : Term → Type 0 = λ (t : Term). MakesBehind env place dot (term.Value v) f d d t in
    subst P (sym is) (record {
      grown = grown_same d;
      named = tt;
      stands = λ z below k.
          let K : NodeKind → Type 0 = λ (x : NodeKind). put_kind d.tables any_node x d.pieces ≡ expr_of any_node k.made ∷ below in
          let put = subst K book (k.ends any_node) in
          let made = workbook_made any_node k.made d.pieces below put in
          record {
            made = host_object host.Sheets;
            is = ap (λ (w : terms.Term). behind_alone env place dot w f) k.is ∙ no_type_value env place dot k.made v.of f none class ∙ ap (λ (n : bound.Node). host_behind env place dot n (declared_view v.of) f.name) made
                ∙ object_hosted env place dot host.Workbook (declared_view v.of) f.name ∙ sheets_of place dot (declared_view v.of) f named;
            ends = λ n. ap (λ (st : List Piece). expr_of n (host_object host.Sheets) ∷ st) (workbook_below any_node k.made d.pieces below put);
          };
      there = λ z below k.
          ap (λ (w : terms.Term). may_be_class w) k.is ∙ ap (λ (n : bound.Node). may_be_class (a_value n (declared_view v.of))) (book_made d.tables v k.made d.pieces below book k.ends);
    })

pub behind_book : (env : Env) (place dot : Place) (v : Ending) (f : Identifier) (d e : Drafted) → v.kind ≡ kinds.HostObject host.Workbook → user_type_in v.of ≡ None → class_in (declared_view v.of) ≡ None → names_sheets f ≡ false → e ≡ one_more d v.kind v.of place
    → MakesBehind env place dot (term.Value v) f d e (unknown_term dot)
behind_book env place dot v f d e book none class named eq =
    let P : Drafted → Type 0 = λ (z : Drafted). MakesBehind env place dot (term.Value v) f d z (unknown_term dot) in
    let e1 = one_more d v.kind v.of place in
    subst P (sym eq) (record {
      grown = grown_pieces d e1.pieces;
      named = tt;
      stands = λ z below k.
          let made = book_made d.tables v k.made d.pieces below book k.ends in
          let A : bound.Node → Type 0 = λ (n : bound.Node). host_behind env place dot n (declared_view v.of) f.name ≡ unknown_member dot (expression_of n place (declared_view v.of)) in
          unknown_stands env d.tables dot (expression_of k.made place (declared_view v.of)) (behind_alone env place dot z f) e1.pieces below
          (ap (λ (w : terms.Term). behind_alone env place dot w f) k.is ∙ no_type_value env place dot k.made v.of f none class ∙ subst A (sym made) (object_hosted env place dot host.Workbook (declared_view v.of) f.name ∙ none_of place dot (declared_view v.of) f named))
          (k.ends (node_of v.kind place v.of));
      there = λ z below k.
          ap (λ (w : terms.Term). may_be_class w) k.is ∙ ap (λ (n : bound.Node). may_be_class (a_value n (declared_view v.of))) (book_made d.tables v k.made d.pieces below book k.ends);
    })

-- of what isn't Err
is_err : terms.Term → Bool
is_err terms.err_object = true
is_err t = false

routine_other : (base : Option bound.Expr) (space : Space) (number : ℕ) (written : Written) → is_err (routine_term base space number written) ≡ false
unfolding is_err
routine_other None space number written = refl
routine_other (Some b) space number written = refl

other_term : (env : Env) (t : Tables) (x : Term) → ((x ≡ term.Err) → ⊥) → (z : terms.Term) (ps below : List Piece) → TermStands env t x z ps below → is_err z ≡ false
unfolding is_err
other_term env t (term.Place kind of bounds lends makes) n z ps below h = ap is_err h.is
other_term env t (term.Value e) n z ps below h = ap is_err h.is
other_term env t (term.Routine r) n z ps below h = ap is_err h.routine.is ∙ routine_other h.routine.base h.routine.space h.routine.number h.routine.written
other_term env t (term.Property p) n z ps below h = ap is_err h.property.is ∙ routine_other h.property.base (space_view p.space.now) h.property.number (written_view p.written)
other_term env t (term.Function f) n z ps below h = ap is_err h.0.is
other_term env t (term.HostMember m) n z ps below h = ap is_err h.is
other_term env t (term.SheetMember m) n z ps below h = ap is_err h.0
other_term env t term.Err n z ps below h = absurd (n refl)
other_term env t term.ErrRaise n z ps below h = ap is_err h.0
other_term env t term.ErrClear n z ps below h = ap is_err h.0
other_term env t term.ErrorWord n z ps below h = ap is_err h.0
other_term env t term.Nothing n z ps below h = ap is_err h

member_alone : (env : Env) (place dot : Place) (z : terms.Term) (f : Identifier) → is_err z ≡ false → behind_alone env place dot (alone env place z) f ≡ member_of env place dot z f
unfolding is_err
member_alone env place dot terms.err_object f h = let e : true ≡ false = h in absurd cc
member_alone env place dot z f h = refl

-- what New and TypeOf are stands as it is
alone_class : (env : Env) (place : Place) (z : terms.Term) → may_be_class (alone env place z) ≡ false → may_be_class z ≡ false
alone_class env place (terms.a_routine space number written) h = refl
alone_class env place (terms.a_method base space number written) h = refl
alone_class env place (terms.a_host_member e m) h = refl
alone_class env place (terms.a_function g text_form base) h = refl
alone_class env place z h = h

-- what stands without arguments
pub behind_other : (env : Env) (place dot : Place) (x made : Term) (f : Identifier) (d e g : Drafted) (y : Term) → ((x ≡ term.Err) → ⊥) → StandsAlone x place d e made → MakesBehind env place dot made f e g y → MakesBehindTerm env place dot x f d g y
behind_other env place dot x made f d e g y n a m = record {
  grown = grown_twice d e g a.grown m.grown;
  named = m.named;
  stands = λ z below k.
      let A : terms.Term → Type 0 = λ (w : terms.Term). TermStands env g.tables y w g.pieces below in
      subst A (member_alone env place dot z f (other_term env d.tables x n z d.pieces below k)) (m.stands (alone env place z) below (a.stands env z below k));
  there = λ z below k. alone_class env place z (m.there (alone env place z) below (a.stands env z below k));
}

pub behind_err : (env : Env) (place dot : Place) (f : Identifier) (d : Drafted) (y : Term) → MakesLeaf env d d y (err_member dot f.name) → MakesBehindTerm env place dot term.Err f d d y
behind_err env place dot f d y m = record {
  grown = grown_same d;
  named = m.named;
  stands = λ z below k.
      let A : terms.Term → Type 0 = λ (w : terms.Term). TermStands env d.tables y (member_of env place dot w f) d.pieces below in
      let B : List Piece → Type 0 = λ (ps : List Piece). TermStands env d.tables y (err_member dot f.name) d.pieces ps in
      subst A (sym k.0) (subst B k.1 (m.stands d.pieces));
  there = λ z below k. ap (λ (w : terms.Term). may_be_class w) k.0;
}

-- ---- behind an expression

typed_class : (o : Option bound.Expr) (of : Declared) → may_be_class (typed_term o of) ≡ true
typed_class None of = refl
typed_class (Some e) of = refl

new_class : (of : Declared) → may_be_class (new_term of) ≡ true
new_class (type.class number) = refl
new_class type.collection = refl
new_class of = refl

dotted_base : (env : Env) (base : Expr) (dot : Token) (f : Identifier) → may_be_class (term_of env base) ≡ false → behind_dot base dot f ≡ member base dot f
dotted_base env (literal l) dot f h = refl
dotted_base env (me token) dot f h = refl
dotted_base env (name y) dot f h = refl
dotted_base env (with_member first y) dot f h = refl
dotted_base env (member base first y) dot f h = refl
dotted_base env (index base left args right) dot f h = refl
dotted_base env (parenthesised left inner right) dot f h = refl
dotted_base env (new word of) dot f h = let e : true ≡ false = sym (new_class (meant_type (type_meant env.scope of))) ∙ h in absurd cc
dotted_base env (type_of word operand is_word of) dot f h =
    let e : true ≡ false = sym (typed_class (given_as env (term_of env operand) (place_told operand)) (meant_type (type_meant env.scope of))) ∙ h in absurd cc
dotted_base env (unary o token operand) dot f h = refl
dotted_base env (binary l o token r) dot f h = refl

tree_stands : (env : Env) (x : Tree) (dot : Token) (f : Identifier) (d e : Drafted) (y : Term) → MakesBehindTerm env x.place dot.place x.term f d e y → IsQualifier env.scope x None
    → (base : Expr) (below : List Piece) → TreeStands env d.tables x base d.pieces below → TreeStands env e.tables (made_tree x None y) (behind_dot base dot f) e.pieces below
tree_stands env x dot f d e y m k base below h =
    let none : qualifier_of env.scope base ≡ None = looked env d.tables x base d.pieces below h ∙ sym k in
    let dotted_is : term_of env (member base dot f) ≡ member_of env (place_told base) dot.place (term_of env base) f =
    ap (λ (o : Option Qualifier). behind_term env o f (member_of env (place_told base) dot.place (term_of env base) f)) none in
    let P : Place → Type 0 = λ (place : Place). TermStands env e.tables y (member_of env place dot.place (term_of env base) f) e.pieces below in
    let Q : terms.Term → Type 0 = λ (z : terms.Term). TermStands env e.tables y z e.pieces below in
    let A : Expr → Type 0 = λ (z : Expr). TreeStands env e.tables (made_tree x None y) z e.pieces below in
    subst A (sym (dotted_base env base dot f (m.there (term_of env base) below h.term_is))) (record {
      term_is = subst Q (sym dotted_is) (subst P h.place_is (m.stands (term_of env base) below h.term_is));
      place_is = h.place_is;
      name_is = refl;
      qualifier_is = ap (λ (o : Option Qualifier). enum_behind env.scope o f) none;
      leaf = tt;
      declared_is = h.declared_is;
    })

pub makes_member : (env : Env) (x : Tree) (dot : Token) (f : Identifier) (d e : Drafted) (y : Term) → MakesBehindTerm env x.place dot.place x.term f d e y → IsQualifier env.scope x None → MakesMember env x dot f d e (made_tree x None y)
makes_member env x dot f d e y m k = record { grown = m.grown; named = m.named; stands = tree_stands env x dot f d e y m k }
