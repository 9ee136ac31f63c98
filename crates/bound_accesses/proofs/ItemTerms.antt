-- Members of objects, behind a dot and before brackets.
use Rattle.std.proofs.Common.{◌≡◌, ℕ, Bool, true, false, ◌&&◌, not, List, ◌∷◌, Option, Some, None, refl, sym, ap, subst, ◌∙◌}
use Rattle.std.specs.Prelude.{codes, option_map, unwrap_or, if◌then◌else◌, MatchBool}
use Rattle.vba_base.specs.declared.place.Place.{Place}
use Rattle.vba_values.specs.Types.{Declared}
use Rattle.vba_values.specs.Types as type
use Rattle.bound_project.specs.declared.declared_type.DeclaredType.{DeclaredType}
use Rattle.bound_project.specs.declared.node.NodeKind.{NodeKind}
use Rattle.bound_project.specs.View.{declared_view}
use Rattle.bound_project.specs.Expressions.{Lvalue}
use Rattle.bound_project.specs.Expressions as bound
use Rattle.bound_project.specs.Pieces.{Piece, Tables, an_expr, put}
use Rattle.bound_project.specs.Drafts.{Drafted}
use Rattle.bound_names.specs.bound_members.specs.bound_calls.specs.bound_forms.specs.Terms.{Env, a_host_member, a_value, expression_of, no_term, read_of, routine_term}
use Rattle.bound_names.specs.bound_members.specs.bound_calls.specs.bound_forms.specs.Terms as plain
use Rattle.binder.specs.Types.{is_object}
use Rattle.bound_names.specs.bound_members.specs.bound_calls.specs.bound_forms.specs.Operands.{HostKind, host_kind, is_found_late, is_host_type, is_of_class, kind_by_type, may_be_instance}
use Rattle.bound_names.specs.bound_members.specs.bound_calls.specs.bound_forms.specs.Members.{found_member, has_item_member, host_behind, item_of, member_of_kind, member_of_other, object_member, unknown_member}
use Rattle.bound_names.specs.bound_members.specs.bound_calls.specs.declared.term.Ending.{Ending}
use Rattle.bound_names.specs.bound_members.specs.bound_calls.specs.declared.term.HostMember.{HostMember}
use Rattle.bound_names.specs.bound_members.specs.bound_calls.specs.declared.term.Term.{Term}
use Rattle.bound_names.specs.bound_members.specs.bound_calls.specs.declared.term.Term.TheVariants as term
use Rattle.bound_names.specs.bound_members.specs.bound_calls.specs.Calls.{node_of}
use Rattle.bound_names.specs.bound_members.specs.bound_calls.specs.Standing.{Grown, TermNamed, TermStands, PlaceEnds}
use Rattle.bound_names.specs.bound_members.specs.bound_calls.specs.Taking.{PushesSheet, read_kind}
use Rattle.bound_names.specs.bound_members.specs.bound_calls.proofs.Growing.{grown_same, grown_pieces, grown_twice}
use Rattle.bound_names.specs.bound_members.specs.bound_calls.proofs.LastNodes.{any_node}
use Rattle.bound_names.specs.bound_members.specs.bound_calls.proofs.Taking.{named_still, sheet_stands, read_ends}
use Rattle.bound_names.specs.bound_members.specs.bound_calls.proofs.TypedNodes.{typed_made}
use Rattle.bound_names.specs.bound_members.proofs.LateItems.{no_item_late}
use Rattle.bound_names.specs.bound_members.specs.declared.kinds.HostKind as declared
use Rattle.bound_names.specs.bound_members.specs.Kinds.{EndingOfKind, kind_view}
use Rattle.bound_names.specs.bound_members.specs.Members.{Finds, FindsLate}
use Rattle.bound_accesses.specs.Items.{FindsAtPlace, FindsBehindPlace, FindsBehindValue, FindsInValue, FindsLatePlace, FindsLateValue, FindsOfPlace, FindsOfValue, KeepsTerm, LacksMembers, MakesItem, MakesPlaceItem, MakesValueItem, ValueLacks, found_term, is_host_term, is_member}
use Rattle.bound_names.proofs.UnknownTerms.{unknown_stands}
use Rattle.binder.specs.Classes.{has_class}
use Rattle.binder.specs.Declarations.{Written}
use Rattle.binder.specs.Scopes.{Space}
use Rattle.bound_names.specs.bound_members.specs.bound_calls.specs.bound_declarations.specs.constant_values.specs.declared_names.specs.View.{space_view, written_view}
use Rattle.bound_names.specs.bound_members.specs.bound_calls.specs.References.{IsFoundLate}

-- an object of a kind that is known
pub of_kind : (place dot : Place) (node : bound.Node) (of : Declared) (fold : List ℕ) (k : HostKind) → host_kind node of ≡ Some k → object_member place dot node of fold ≡ member_of_kind k dot (expression_of node place of) fold
of_kind place dot node of fold k h =
    ap (λ (o : Option HostKind). unwrap_or (option_map (λ (x : HostKind). member_of_kind x dot (expression_of node place of) fold) o) (member_of_other dot (expression_of node place of))) h

-- of what the run says nothing, and of an object whose members it finds
pub hosted : (env : Env) (place dot : Place) (node : bound.Node) (of : Declared) (fold : List ℕ) → is_found_late env (expression_of node place of) ≡ false → host_behind env place dot node of fold ≡ object_member place dot node of fold
hosted env place dot node of fold h = ap (λ (b : Bool). if b then a_host_member (expression_of node place of) (found_member true fold) else object_member place dot node of fold) h

hosted_late : (env : Env) (place dot : Place) (node : bound.Node) (of : Declared) (fold : List ℕ) → is_found_late env (expression_of node place of) ≡ true
    → host_behind env place dot node of fold ≡ a_host_member (expression_of node place of) (found_member true fold)
hosted_late env place dot node of fold h = ap (λ (b : Bool). if b then a_host_member (expression_of node place of) (found_member true fold) else object_member place dot node of fold) h

-- a member of an object that was pushed
found_stands : (env : Env) (k : declared.HostKind) (fold : List ℕ) (d e : Drafted) (found : Option HostMember) (place dot : Place) (node : bound.Node) (of : Declared) (below : List Piece) → Finds k fold d e found
    → host_kind node of ≡ Some (kind_view k) → d.pieces ≡ an_expr (expression_of node place of) ∷ below → TermStands env e.tables (found_term found dot) (object_member place dot node of fold) e.pieces below
found_stands env k fold d e (Some m) place dot node of below f h p = record {
  object = expression_of node place of;
  is = of_kind place dot node of fold (kind_view k) h ∙ f.is dot (expression_of node place of);
  on_top = f.pieces ∙ p;
}
found_stands env k fold d e None place dot node of below f h p =
    unknown_stands env e.tables dot (expression_of node place of) (object_member place dot node of fold) e.pieces below
    (of_kind place dot node of fold (kind_view k) h ∙ f.is dot (expression_of node place of)) (ap (λ (z : Drafted). z.pieces) f.same ∙ p)

-- one that the run finds
late_stands : (env : Env) (fold : List ℕ) (d e : Drafted) (m : HostMember) (dot : Place) (object : bound.Expr) (below : List Piece) → FindsLate fold d e m → d.pieces ≡ an_expr object ∷ below
    → TermStands env e.tables (found_term (Some m) dot) (a_host_member object (found_member true fold)) e.pieces below
late_stands env fold d e m dot object below f p = record { object = object; is = ap (λ (x : plain.HostMember). a_host_member object x) (sym f.is); on_top = f.pieces ∙ p }

found_grown : (k : declared.HostKind) (fold : List ℕ) (d e : Drafted) (found : Option HostMember) → Finds k fold d e found → Grown d e
found_grown k fold d e (Some m) f = f.grown
found_grown k fold d e None f = let P : Drafted → Type 0 = λ (z : Drafted). Grown d z in subst P (sym f.same) (grown_same d)

found_named : (k : declared.HostKind) (fold : List ℕ) (d e : Drafted) (found : Option HostMember) (dot : Place) → Finds k fold d e found → TermNamed e.tables (found_term found dot)
found_named k fold d e (Some m) dot f = f.named
found_named k fold d e None dot f = tt

-- a node more, and one more behind that
abbrev pub one_more : Drafted → NodeKind → DeclaredType → Place → Drafted
one_more d kind of place = record d { pieces = put d.tables (node_of kind place of) d.pieces }

-- what reads a place is no object that is always there
pub read_kind_of : (makes : Bool) (x : Lvalue) (of : Declared) → host_kind (read_of makes x) of ≡ kind_by_type of
read_kind_of true x of = refl
read_kind_of false x of = refl

-- a place and what reads it are pushed
abbrev pub place_read : Drafted → Ending → (makes : Bool) → Place → Drafted
place_read d at makes place = one_more (one_more d at.kind at.of place) (read_kind makes) at.of place

pub read_stands : (makes : Bool) (place : Place) (at : Ending) (d : Drafted) (x : Lvalue) (below : List Piece) → PlaceEnds d.tables at.kind x d.pieces below
    → (place_read d at makes place).pieces ≡ an_expr (expression_of (read_of makes x) place (declared_view at.of)) ∷ below
read_stands makes place at d x below ends =
    read_ends makes d.tables x (one_more d at.kind at.of place).pieces below (ends (node_of at.kind place at.of)) (node_of (read_kind makes) place at.of)

-- whether the run finds the members of what is read there
pub read_late : (env : Env) (place : Place) (at : Ending) (makes has : Bool) (d : Drafted) (x : Lvalue) (below : List Piece) (late : Bool) → has_class env.scope.spaces ≡ has → IsFoundLate has d.tables (record { kind = read_kind makes; of = at.of }) late
    → PlaceEnds d.tables at.kind x d.pieces below → is_found_late env (expression_of (read_of makes x) place (declared_view at.of)) ≡ late
read_late env place at makes has d x below late known h ends =
    h env (read_of makes x) place (one_more d at.kind at.of place).pieces below known (read_ends makes d.tables x (one_more d at.kind at.of place).pieces below (ends (node_of at.kind place at.of)))

-- a place was pushed and is read
place_twice : (d b c : Drafted) (at : Ending) (makes : Bool) (place : Place) (read : NodeKind) → read ≡ read_kind makes → b ≡ one_more d at.kind at.of place → c ≡ one_more b read at.of place → c ≡ place_read d at makes place
place_twice d b c at makes place read reads one two =
    two ∙ ap (λ (k : NodeKind). one_more b k at.of place) reads ∙ ap (λ (z : Drafted). one_more z (read_kind makes) at.of place) one

pub of_place : (place : Place) (at : Ending) (makes : Bool) (read : NodeKind) (fold : List ℕ) (k : declared.HostKind) (d b c e : Drafted) (found : Option HostMember) → read ≡ read_kind makes
    → kind_by_type (declared_view at.of) ≡ Some (kind_view k) → b ≡ one_more d at.kind at.of place → c ≡ one_more b read at.of place → Finds k fold c e found → FindsOfPlace place at makes fold d e found
of_place place at makes read fold k d b c e found reads h one two f = λ env.
    let b1 = one_more d at.kind at.of place in
    let c1 = place_read d at makes place in
    let P : Drafted → Type 0 = λ (z : Drafted). Finds k fold z e found → FindsAtPlace env (λ (dot : Place) (node : bound.Node). object_member place dot node (declared_view at.of) fold) at makes d e found in
    subst P (sym (place_twice d b c at makes place read reads one two)) (λ g. record {
      grown = grown_twice d c1 e (grown_twice d b1 c1 (grown_pieces d b1.pieces) (grown_pieces b1 c1.pieces)) (found_grown k fold c1 e found g);
      named = λ dot. found_named k fold c1 e found dot g;
      stands = λ dot x below ends.
          found_stands env k fold c1 e found place dot (read_of makes x) (declared_view at.of) below g (read_kind_of makes x (declared_view at.of) ∙ h) (read_stands makes place at d x below ends);
    }) f

pub late_place : (place : Place) (at : Ending) (makes : Bool) (read : NodeKind) (fold : List ℕ) (d b c e : Drafted) (m : HostMember) → read ≡ read_kind makes → b ≡ one_more d at.kind at.of place → c ≡ one_more b read at.of place
    → FindsLate fold c e m → FindsLatePlace place at makes fold d e (Some m)
late_place place at makes read fold d b c e m reads one two f = λ env.
    let b1 = one_more d at.kind at.of place in
    let c1 = place_read d at makes place in
    let P : Drafted → Type 0 = λ (z : Drafted). FindsLate fold z e m → FindsAtPlace env (λ (dot : Place) (node : bound.Node). a_host_member (expression_of node place (declared_view at.of)) (found_member true fold)) at makes d e (Some m) in
    subst P (sym (place_twice d b c at makes place read reads one two)) (λ g. record {
      grown = grown_twice d c1 e (grown_twice d b1 c1 (grown_pieces d b1.pieces) (grown_pieces b1 c1.pieces)) g.grown;
      named = λ dot. g.named;
      stands = λ dot x below ends. late_stands env fold c1 e m dot (expression_of (read_of makes x) place (declared_view at.of)) below g (read_stands makes place at d x below ends);
    }) f

-- what is of no object's type
other_unknown : (place dot : Place) (node : bound.Node) (of : Declared) (fold : List ℕ) → host_kind node of ≡ None → is_object of ≡ false → object_member place dot node of fold ≡ unknown_member dot (expression_of node place of)
other_unknown place dot node of fold h o =
    let e = expression_of node place of in
    ap (λ (z : Option HostKind). unwrap_or (option_map (λ (k : HostKind). member_of_kind k dot e fold) z) (member_of_other dot e)) h ∙ ap (λ (b : Bool). if b then no_term else unknown_member dot e) o

pub of_other_place : (place : Place) (at : Ending) (makes : Bool) (read : NodeKind) (fold : List ℕ) (d b c : Drafted) (found : Option HostMember) → read ≡ read_kind makes → kind_by_type (declared_view at.of) ≡ None → LacksMembers at.of found
    → b ≡ one_more d at.kind at.of place → c ≡ one_more b read at.of place → FindsOfPlace place at makes fold d c found
of_other_place place at makes read fold d b c found reads h lacks one two = λ env.
    let b1 = one_more d at.kind at.of place in
    let c1 = place_read d at makes place in
    let of = declared_view at.of in
    let M : Place → bound.Node → plain.Term = λ (dot : Place) (node : bound.Node). object_member place dot node of fold in
    let P : Drafted → Type 0 = λ (z : Drafted). FindsAtPlace env M at makes d z found in
    let Q : Option HostMember → Type 0 = λ (o : Option HostMember). FindsAtPlace env M at makes d c1 o in
    subst P (sym (place_twice d b c at makes place read reads one two)) (subst Q (sym lacks.none) (record {
      grown = grown_twice d b1 c1 (grown_pieces d b1.pieces) (grown_pieces b1 c1.pieces);
      named = λ dot. tt;
      stands = λ dot x below ends.
          let node = read_of makes x in
          unknown_stands env d.tables dot (expression_of node place of) (object_member place dot node of fold) c1.pieces below
          (other_unknown place dot node of fold (read_kind_of makes x of ∙ h) lacks.no_object) (read_stands makes place at d x below ends);
    }))

-- by the node that reads it, as it is known
pub known_late : (has : Bool) (t : Tables) (makes : Bool) (of : DeclaredType) (read : NodeKind) (late b : Bool) → read ≡ read_kind makes → late ≡ b → IsFoundLate has t (record { kind = read; of = of }) late
    → IsFoundLate has t (record { kind = read_kind makes; of = of }) b
known_late has t makes of read late b reads is h =
    let A : NodeKind → Type 0 = λ (k : NodeKind). IsFoundLate has t (record { kind = k; of = of }) late in
    let B : Bool → Type 0 = λ (l : Bool). IsFoundLate has t (record { kind = read_kind makes; of = of }) l in
    subst B is (subst A reads h)

-- of an object at a place, one of the two
pub early_at_place : (env : Env) (place : Place) (at : Ending) (makes : Bool) (fold : List ℕ) (has : Bool) (d e : Drafted) (found : Option HostMember) → has_class env.scope.spaces ≡ has
    → IsFoundLate has d.tables (record { kind = read_kind makes; of = at.of }) false → FindsOfPlace place at makes fold d e found → FindsBehindPlace env place at makes fold d e found
early_at_place env place at makes fold has d e found known early f = record {
  grown = (f env).grown;
  named = (f env).named;
  stands = λ dot x below ends.
      let of = declared_view at.of in
      let A : plain.Term → Type 0 = λ (w : plain.Term). TermStands env e.tables (found_term found dot) w e.pieces below in
      subst A (sym (hosted env place dot (read_of makes x) of fold (read_late env place at makes has d x below false known early ends))) ((f env).stands dot x below ends);
}

pub late_at_place : (env : Env) (place : Place) (at : Ending) (makes : Bool) (fold : List ℕ) (has : Bool) (d e : Drafted) (found : Option HostMember) → has_class env.scope.spaces ≡ has
    → IsFoundLate has d.tables (record { kind = read_kind makes; of = at.of }) true → FindsLatePlace place at makes fold d e found → FindsBehindPlace env place at makes fold d e found
late_at_place env place at makes fold has d e found known late f = record {
  grown = (f env).grown;
  named = (f env).named;
  stands = λ dot x below ends.
      let of = declared_view at.of in
      let A : plain.Term → Type 0 = λ (w : plain.Term). TermStands env e.tables (found_term found dot) w e.pieces below in
      subst A (sym (hosted_late env place dot (read_of makes x) of fold (read_late env place at makes has d x below true known late ends))) ((f env).stands dot x below ends);
}

-- the object that a value gives
pub of_value : (place : Place) (ending : Ending) (fold : List ℕ) (k : declared.HostKind) (d b e : Drafted) (found : Option HostMember) → EndingOfKind ending k → b ≡ one_more d ending.kind ending.of place → Finds k fold b e found
    → FindsOfValue place ending fold d e found
of_value place ending fold k d b e found h one f = λ env.
    let b1 = one_more d ending.kind ending.of place in
    let P : Drafted → Type 0 = λ (z : Drafted). Finds k fold z e found → FindsInValue env (λ (dot : Place) (node : bound.Node). object_member place dot node (declared_view ending.of) fold) ending d e found in
    subst P (sym one) (λ g. record {
      grown = grown_twice d b1 e (grown_pieces d b1.pieces) (found_grown k fold b1 e found g);
      named = λ dot. found_named k fold b1 e found dot g;
      stands = λ dot made below ends.
          found_stands env k fold b1 e found place dot made (declared_view ending.of) below g (h d.tables made d.pieces below ends) (ends (node_of ending.kind place ending.of));
    }) f

pub late_value : (place : Place) (ending : Ending) (fold : List ℕ) (d b e : Drafted) (m : HostMember) → b ≡ one_more d ending.kind ending.of place → FindsLate fold b e m → FindsLateValue place ending fold d e (Some m)
late_value place ending fold d b e m one f = λ env.
    let b1 = one_more d ending.kind ending.of place in
    let P : Drafted → Type 0 = λ (z : Drafted). FindsLate fold z e m → FindsInValue env (λ (dot : Place) (node : bound.Node). a_host_member (expression_of node place (declared_view ending.of)) (found_member true fold)) ending d e (Some m) in
    subst P (sym one) (λ g. record {
      grown = grown_twice d b1 e (grown_pieces d b1.pieces) g.grown;
      named = λ dot. g.named;
      stands = λ dot made below ends. late_stands env fold b1 e m dot (expression_of made place (declared_view ending.of)) below g (ends (node_of ending.kind place ending.of));
    }) f

-- a value of no object's type
pub of_other_value : (place : Place) (ending : Ending) (fold : List ℕ) (d b : Drafted) (found : Option HostMember) → ValueLacks ending found → b ≡ one_more d ending.kind ending.of place → FindsOfValue place ending fold d b found
of_other_value place ending fold d b found lacks one = λ env.
    let b1 = one_more d ending.kind ending.of place in
    let of = declared_view ending.of in
    let M : Place → bound.Node → plain.Term = λ (dot : Place) (node : bound.Node). object_member place dot node of fold in
    let P : Drafted → Type 0 = λ (z : Drafted). FindsInValue env M ending d z found in
    let Q : Option HostMember → Type 0 = λ (o : Option HostMember). FindsInValue env M ending d b1 o in
    subst P (sym one) (subst Q (sym lacks.lacks.none) (record {
      grown = grown_pieces d b1.pieces;
      named = λ dot. tt;
      stands = λ dot made below ends.
          let no_kind : host_kind made of ≡ None = typed_made d.tables any_node ending.kind made d.pieces below lacks.typed (ends any_node) of ∙ lacks.no_kind in
          unknown_stands env d.tables dot (expression_of made place of) (object_member place dot made of fold) b1.pieces below
          (other_unknown place dot made of fold no_kind lacks.lacks.no_object) (ends (node_of ending.kind place ending.of));
    }))

-- of the object that a value gives, one of the two
pub early_in_value : (env : Env) (place : Place) (v : Ending) (fold : List ℕ) (has : Bool) (d e : Drafted) (found : Option HostMember) → has_class env.scope.spaces ≡ has → IsFoundLate has d.tables v false → FindsOfValue place v fold d e found
    → FindsBehindValue env place v fold d e found
early_in_value env place v fold has d e found known early f = record {
  grown = (f env).grown;
  named = (f env).named;
  stands = λ dot made below ends.
      let A : plain.Term → Type 0 = λ (w : plain.Term). TermStands env e.tables (found_term found dot) w e.pieces below in
      subst A (sym (hosted env place dot made (declared_view v.of) fold (early env made place d.pieces below known ends))) ((f env).stands dot made below ends);
}

pub late_in_value : (env : Env) (place : Place) (v : Ending) (fold : List ℕ) (has : Bool) (d e : Drafted) (found : Option HostMember) → has_class env.scope.spaces ≡ has → IsFoundLate has d.tables v true → FindsLateValue place v fold d e found
    → FindsBehindValue env place v fold d e found
late_in_value env place v fold has d e found known late f = record {
  grown = (f env).grown;
  named = (f env).named;
  stands = λ dot made below ends.
      let A : plain.Term → Type 0 = λ (w : plain.Term). TermStands env e.tables (found_term found dot) w e.pieces below in
      subst A (sym (hosted_late env place dot made (declared_view v.of) fold (late env made place d.pieces below known ends))) ((f env).stands dot made below ends);
}

-- ---- before brackets

-- an object whose members the run doesn't find has a default member Item, and another one hasn't
not_class : (of : Declared) → is_host_type of ≡ true → is_of_class of ≡ false
not_class (type.class n) h = let e : false ≡ true = h in absurd cc
not_class of h = refl

has_item : (b : Bool) → (not false && b) ≡ false → (true && not b) ≡ true
has_item true h = let e : true ≡ false = h in absurd cc
has_item false h = refl

pub has_item_of : (env : Env) (place : Place) (node : bound.Node) (of : Declared) → is_host_type of ≡ true → is_found_late env (expression_of node place of) ≡ false → has_item_member env (expression_of node place of) ≡ true
has_item_of env place node of h early =
    let b = may_be_instance env (expression_of node place of) in
    ap (λ (c : Bool). c && not b) h ∙ has_item b (sym (ap (λ (c : Bool). not c && b) (not_class of h)) ∙ early)

pub item_place : (env : Env) (place : Place) (x : Lvalue) (of : Declared) (bounds : ℕ) (lends makes : Bool) → has_item_member env (expression_of (read_of makes x) place of) ≡ true
    → item_of env place (plain.a_place x of bounds lends makes) ≡ object_member place place (read_of makes x) of (codes "item")
item_place env place x of bounds lends makes h = ap (λ (b : Bool). if b then object_member place place (read_of makes x) of (codes "item") else plain.a_place x of bounds lends makes) h

pub item_value : (env : Env) (place : Place) (node : bound.Node) (of : Declared) → has_item_member env (expression_of node place of) ≡ true → item_of env place (a_value node of) ≡ object_member place place node of (codes "item")
item_value env place node of h = ap (λ (b : Bool). if b then object_member place place node of (codes "item") else a_value node of) h

pub place_item : (env : Env) (has : Bool) (place : Place) (at : Ending) (makes : Bool) (d e : Drafted) (found : Option HostMember) → has_class env.scope.spaces ≡ has → IsFoundLate has d.tables (record { kind = read_kind makes; of = at.of }) false
    → FindsOfPlace place at makes (codes "item") d e found → MakesPlaceItem env place at makes d e (found_term found place)
place_item env has place at makes d e found known early f = λ bounds lends h. record {
  grown = (f env).grown;
  named = (f env).named place;
  stands = λ z below k.
      let of = declared_view at.of in
      let A : plain.Term → Type 0 = λ (w : plain.Term). TermStands env e.tables (found_term found place) w e.pieces below in
      subst A (sym (ap (λ (w : plain.Term). item_of env place w) k.is ∙ item_place env place k.at of bounds lends makes
      (has_item_of env place (read_of makes k.at) of h (read_late env place at makes has d k.at below false known early k.ends)))) ((f env).stands place k.at below k.ends);
}

pub value_item : (env : Env) (has : Bool) (place : Place) (v : Ending) (d e : Drafted) (found : Option HostMember) → has_class env.scope.spaces ≡ has → IsFoundLate has d.tables v false → FindsOfValue place v (codes "item") d e found
    → MakesValueItem env place v d e (found_term found place)
value_item env has place v d e found known early f = λ h. record {
  grown = (f env).grown;
  named = (f env).named place;
  stands = λ z below k.
      let of = declared_view v.of in
      let A : plain.Term → Type 0 = λ (w : plain.Term). TermStands env e.tables (found_term found place) w e.pieces below in
      subst A (sym (ap (λ (w : plain.Term). item_of env place w) k.is ∙ item_value env place k.made of (has_item_of env place k.made of h (early env k.made place d.pieces below known k.ends)))) ((f env).stands place k.made below k.ends);
}

pub member_item : (env : Env) (place : Place) (m : HostMember) (d : Drafted) → TermNamed d.tables (term.HostMember m) → MakesItem env place (term.HostMember m) d d (term.HostMember m)
member_item env place m d n = record {
  grown = grown_same d;
  named = n;
  stands = λ z below k. record { object = k.object; is = ap (λ (w : plain.Term). item_of env place w) k.is; on_top = k.on_top };
}

pub sheet_item : (env : Env) (place : Place) (m : HostMember) (d e : Drafted) → TermNamed d.tables (term.SheetMember m) → PushesSheet d e → MakesItem env place (term.SheetMember m) d e (term.HostMember m)
sheet_item env place m d e n s = record {
  grown = s.grown;
  named = named_still m d e s n;
  stands = λ z below k. (let h = sheet_stands m d e s env z below k in record { object = h.object; is = ap (λ (w : plain.Term). item_of env place w) h.is; on_top = h.on_top });
}

-- what has no default member Item stays as it is
pub kept_place : (env : Env) (place : Place) (x : Lvalue) (of : Declared) (bounds : ℕ) (lends makes : Bool) → has_item_member env (expression_of (read_of makes x) place of) ≡ false
    → item_of env place (plain.a_place x of bounds lends makes) ≡ plain.a_place x of bounds lends makes
kept_place env place x of bounds lends makes h = ap (λ (b : Bool). if b then object_member place place (read_of makes x) of (codes "item") else plain.a_place x of bounds lends makes) h

pub kept_value : (env : Env) (place : Place) (node : bound.Node) (of : Declared) → has_item_member env (expression_of node place of) ≡ false → item_of env place (a_value node of) ≡ a_value node of
kept_value env place node of h = ap (λ (b : Bool). if b then object_member place place node of (codes "item") else a_value node of) h

-- what the run finds
pub late_at : (has : Bool) (t : Tables) (kind read : NodeKind) (of : DeclaredType) (bounds : ℕ) (lends makes b : Bool) → read ≡ read_kind makes → MatchBool b (IsFoundLate has t (record { kind = read; of = of }) true) (Unit {0})
    → MatchBool b (KeepsTerm has t (term.Place kind of bounds lends makes)) (Unit {0})
late_at has t kind read of bounds lends makes false reads h = tt
late_at has t kind read of bounds lends makes true reads h = record {
  other = refl;
  kept = λ env known place z ps below k.
      let N : NodeKind → Type 0 = λ (q : NodeKind). IsFoundLate has t (record { kind = q; of = of }) true in
      let u = declared_view of in
      let qs = put t (node_of kind place of) ps in
      let S : plain.Term → Type 0 = λ (w : plain.Term). item_of env place w ≡ w in
      subst S (sym k.is) (kept_place env place k.at u bounds lends makes
      (no_item_late env place (read_of makes k.at) u (subst N reads h env (read_of makes k.at) place qs below known (read_ends makes t k.at qs below (k.ends (node_of kind place of))))));
}

pub late_of : (has : Bool) (t : Tables) (v : Ending) (b : Bool) → MatchBool b (IsFoundLate has t v true) (Unit {0}) → MatchBool b (KeepsTerm has t (term.Value v)) (Unit {0})
late_of has t v false h = tt
late_of has t v true h = record {
  other = refl;
  kept = λ env known place z ps below k.
      let S : plain.Term → Type 0 = λ (w : plain.Term). item_of env place w ≡ w in
      subst S (sym k.is) (kept_value env place k.made (declared_view v.of) (no_item_late env place k.made (declared_view v.of) (h env k.made place ps below known k.ends)));
}

Same : Env → Place → plain.Term → Type 0
Same env place w = item_of env place w ≡ w

routine_same : (env : Env) (place : Place) (base : Option bound.Expr) (space : Space) (number : ℕ) (written : Written) → Same env place (routine_term base space number written)
unfolding Same
routine_same env place None space number written = refl
routine_same env place (Some b) space number written = refl

-- what is no object's
no_host_item : (env : Env) (place : Place) (node : bound.Node) (of : Declared) → is_host_type of ≡ false → has_item_member env (expression_of node place of) ≡ false
no_host_item env place node of h = ap (λ (c : Bool). c && not (may_be_instance env (expression_of node place of))) h

same_item : (env : Env) (t : Tables) (place : Place) (x : Term) (z : plain.Term) (ps below : List Piece) → is_host_term x ≡ false → TermStands env t x z ps below → item_of env place z ≡ z
unfolding Same
same_item env t place (term.Place kind of bounds lends makes) z ps below h k =
    subst (Same env place) (sym k.is) (kept_place env place k.at (declared_view of) bounds lends makes (no_host_item env place (read_of makes k.at) (declared_view of) h))
same_item env t place (term.Value v) z ps below h k = subst (Same env place) (sym k.is) (kept_value env place k.made (declared_view v.of) (no_host_item env place k.made (declared_view v.of) h))
same_item env t place (term.Routine r) z ps below h k = subst (Same env place) (sym k.routine.is) (routine_same env place k.routine.base k.routine.space k.routine.number k.routine.written)
same_item env t place (term.Property p) z ps below h k = subst (Same env place) (sym k.property.is) (routine_same env place k.property.base (space_view p.space.now) k.property.number (written_view p.written))
same_item env t place (term.Function f) z ps below h k = subst (Same env place) (sym k.0.is) refl
same_item env t place (term.HostMember m) z ps below h k = let e : true ≡ false = h in absurd cc
same_item env t place (term.SheetMember m) z ps below h k = let e : true ≡ false = h in absurd cc
same_item env t place term.Err z ps below h k = subst (Same env place) (sym k.0) refl
same_item env t place term.ErrRaise z ps below h k = subst (Same env place) (sym k.0) refl
same_item env t place term.ErrClear z ps below h k = subst (Same env place) (sym k.0) refl
same_item env t place term.ErrorWord z ps below h k = subst (Same env place) (sym k.0) refl
same_item env t place term.Nothing z ps below h k = subst (Same env place) (sym k) refl

no_member : (x : Term) → is_host_term x ≡ false → is_member x ≡ false
no_member (term.HostMember m) h = let e : true ≡ false = h in absurd cc
no_member (term.SheetMember m) h = let e : true ≡ false = h in absurd cc
no_member x h = refl

pub keeps_plain : (has : Bool) (t : Tables) (x : Term) → is_host_term x ≡ false → KeepsTerm has t x
keeps_plain has t x h = record { other = no_member x h; kept = λ env known place z ps below k. same_item env t place x z ps below h k }

pub takes_early : (has : Bool) (t : Tables) (x : Term) (late : Bool) → is_host_term x ≡ true → MatchBool late (KeepsTerm has t x) (Unit {0}) → MatchBool (not late) (is_host_term x ≡ true) (KeepsTerm has t x)
takes_early has t x true h k = k
takes_early has t x false h k = h

pub other_item : (env : Env) (has : Bool) (place : Place) (x : Term) (d : Drafted) → has_class env.scope.spaces ≡ has → TermNamed d.tables x → KeepsTerm has d.tables x → MakesItem env place x d d x
other_item env has place x d known n h = record {
  grown = grown_same d;
  named = n;
  stands = λ z below k. (let A : plain.Term → Type 0 = λ (w : plain.Term). TermStands env d.tables x w d.pieces below in subst A (sym (h.kept env known place z d.pieces below k)) k);
}
