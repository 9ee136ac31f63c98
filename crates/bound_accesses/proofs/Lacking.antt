-- Objects without a default member with arguments: what brackets behind them make breaks S34.
use Rattle.std.proofs.Common.{◌≡◌, Bool, true, false, ◌&&◌, not, List, Some, refl, sym, ap, subst, ◌∙◌}
use Rattle.std.specs.Prelude.{codes, if◌then◌else◌, MatchBool}
use Rattle.std.proofs.lemmas.Bool.{and_parts}
use Rattle.vba_base.specs.declared.place.Place.{Place}
use Rattle.vba_values.specs.Types.{Declared}
use Rattle.vba_values.specs.Types as type
use Rattle.vba_values.specs.declared.object.HostRef.{HostRef}
use Rattle.vba_values.specs.declared.object.HostRef.TheVariants as host
use Rattle.bound_project.specs.declared.declared_type.DeclaredType.{DeclaredType}
use Rattle.bound_project.specs.declared.declared_type.DeclaredType.TheVariants.{Plain}
use Rattle.bound_project.specs.declared.declared_type.ElementType.TheVariants as element
use Rattle.bound_project.specs.declared.node.NodeKind.{NodeKind}
use Rattle.bound_project.specs.declared.node.NodeKind.TheVariants as kinds
use Rattle.bound_project.specs.View.{declared_view}
use Rattle.bound_project.specs.Expressions as bound
use Rattle.bound_project.specs.Pieces.{Piece, Tables}
use Rattle.bound_names.specs.bound_members.specs.bound_calls.specs.bound_forms.specs.Terms.{Env, expression_of, read_of}
use Rattle.binder.specs.Classes.{has_class}
use Rattle.bound_names.specs.bound_members.specs.bound_calls.specs.bound_forms.specs.Terms as plain
use Rattle.bound_names.specs.bound_members.specs.bound_calls.specs.bound_forms.specs.Operands.{host_kind, is_host_type, is_instance_type, kind_by_type, may_be_instance, sheet}
use Rattle.bound_names.specs.bound_members.specs.bound_calls.specs.bound_forms.specs.Members.{has_item_member, item_of, object_member, unknown_member}
use Rattle.bound_names.specs.bound_members.specs.bound_calls.specs.declared.term.Ending.{Ending}
use Rattle.bound_names.specs.bound_members.specs.bound_calls.specs.declared.term.Term.{Term}
use Rattle.bound_names.specs.bound_members.specs.bound_calls.specs.declared.term.Term.TheVariants as term
use Rattle.bound_names.specs.bound_members.specs.bound_calls.specs.References.{is_typed_kind}
use Rattle.bound_names.specs.bound_members.specs.bound_calls.specs.Standing.{TermStands, ValueEnds, ValueStands}
use Rattle.bound_names.specs.bound_members.specs.bound_calls.proofs.LastNodes.{any_node}
use Rattle.bound_names.specs.bound_members.specs.bound_calls.proofs.TypedNodes.{object_made, typed_made}
use Rattle.bound_accesses.specs.Items.{ItemKept, KeepsItem, KeepsTerm, LacksItem, is_bare, is_host_term, is_member, is_sheet, lacks_item}
use Rattle.bound_accesses.proofs.ItemTerms.{item_place, item_value, of_kind, read_kind_of}

sheet_type : (of : DeclaredType) → is_sheet of ≡ true → declared_view of ≡ type.worksheet
sheet_type (Plain element.Worksheet) h = refl
sheet_type of h = let e : false ≡ true = h in absurd cc

-- neither a sheet nor what is always there is an object of a class
no_and : (b : Bool) → (b && false) ≡ false
no_and true = refl
no_and false = refl

sheet_no : (env : Env) (place : Place) (node : bound.Node) (of : Declared) → of ≡ type.worksheet → may_be_instance env (expression_of node place of) ≡ false
sheet_no env place node of h = subst (λ (u : Declared). may_be_instance env (expression_of node place u) ≡ false) (sym h) (no_and (has_class env.scope.spaces))

always_no : (env : Env) (place : Place) (r : HostRef) (of : Declared) → may_be_instance env (expression_of (bound.host_object r) place of) ≡ false
always_no env place r of = ap (λ (b : Bool). has_class env.scope.spaces && b) (no_and (is_instance_type (bound.host_object r) of)) ∙ no_and (has_class env.scope.spaces)

-- so brackets behind them ask for their Item
asks_item : (env : Env) (place : Place) (node : bound.Node) (of : Declared) → is_host_type of ≡ true → may_be_instance env (expression_of node place of) ≡ false → has_item_member env (expression_of node place of) ≡ true
asks_item env place node of h none = ap (λ (b : Bool). b && not (may_be_instance env (expression_of node place of))) h ∙ ap (λ (b : Bool). true && not b) none

-- a sheet has no Item
sheet_lacks : (place : Place) (node : bound.Node) (of : Declared) → host_kind node of ≡ Some sheet → object_member place place node of (codes "item") ≡ unknown_member place (expression_of node place of)
sheet_lacks place node of h = of_kind place place node of (codes "item") sheet h

-- nor have Application and the workbook
record BareLacks (env : Env) (place : Place) (made : bound.Node) (of : Declared) : Type 0 where
  pub none : may_be_instance env (expression_of made place of) ≡ false
  pub lacks : object_member place place made of (codes "item") ≡ unknown_member place (expression_of made place of)

bare_lacks : (env : Env) (place : Place) (k : NodeKind) (t : Tables) (made : bound.Node) (of : Declared) (ps below : List Piece) → is_bare k ≡ true → ValueEnds t k made ps below → BareLacks env place made of
bare_lacks env place (kinds.HostObject host.Application) t made of ps below h ends =
    let A : bound.Node → Type 0 = λ (n : bound.Node). BareLacks env place n of in
    subst A (sym (object_made any_node made host.Application ps below (ends any_node))) (record { none = always_no env place host.Application of; lacks = refl })
bare_lacks env place (kinds.HostObject host.Workbook) t made of ps below h ends =
    let A : bound.Node → Type 0 = λ (n : bound.Node). BareLacks env place n of in
    subst A (sym (object_made any_node made host.Workbook ps below (ends any_node))) (record { none = always_no env place host.Workbook of; lacks = refl })
bare_lacks env place k t made of ps below h ends = let e : false ≡ true = h in absurd cc

value_lacks : (env : Env) (t : Tables) (place : Place) (v : Ending) (z : plain.Term) (ps below : List Piece) (b : Bool) → is_sheet v.of ≡ b → (if b then is_typed_kind v.kind else is_host_type (declared_view v.of) && is_bare v.kind) ≡ true
    → ValueStands t v z ps below → LacksItem env place z
value_lacks env t place v z ps below true s h k =
    let of = declared_view v.of in
    let is : of ≡ type.worksheet = sheet_type v.of s in
    let kind : host_kind k.made of ≡ Some sheet = typed_made t any_node v.kind k.made ps below h (k.ends any_node) of ∙ ap kind_by_type is in
    record {
      object = expression_of k.made place of;
      is = ap (λ (w : plain.Term). item_of env place w) k.is ∙ item_value env place k.made of (asks_item env place k.made of (ap is_host_type is) (sheet_no env place k.made of is)) ∙ sheet_lacks place k.made of kind;
    }
value_lacks env t place v z ps below false s h k =
    let of = declared_view v.of in
    let both = and_parts (is_host_type of) (is_bare v.kind) h in
    let bare = bare_lacks env place v.kind t k.made of ps below both.1 k.ends in
    record { object = expression_of k.made place of; is = ap (λ (w : plain.Term). item_of env place w) k.is ∙ item_value env place k.made of (asks_item env place k.made of both.0 bare.none) ∙ bare.lacks }

-- what brackets behind it make is told at its first token
pub no_item : (env : Env) (t : Tables) (place : Place) (x : Term) (z : plain.Term) (ps below : List Piece) → lacks_item x ≡ true → TermStands env t x z ps below → LacksItem env place z
no_item env t place (term.Place kind of bounds lends makes) z ps below h k =
    let u = declared_view of in
    let is : u ≡ type.worksheet = sheet_type of h in
    record {
      object = expression_of (read_of makes k.at) place u;
      is = ap (λ (w : plain.Term). item_of env place w) k.is ∙ item_place env place k.at u bounds lends makes (asks_item env place (read_of makes k.at) u (ap is_host_type is) (sheet_no env place (read_of makes k.at) u is))
          ∙ sheet_lacks place (read_of makes k.at) u (read_kind_of makes k.at u ∙ ap kind_by_type is);
    }
no_item env t place (term.Value v) z ps below h k = value_lacks env t place v z ps below (is_sheet v.of) refl h k
no_item env t place x z ps below h k = let e : false ≡ true = h in absurd cc

no_member : (x : Term) → lacks_item x ≡ true → is_member x ≡ false
no_member (term.HostMember m) h = let e : false ≡ true = h in absurd cc
no_member (term.SheetMember m) h = let e : false ≡ true = h in absurd cc
no_member x h = refl

-- brackets behind such an object, and behind what stays as it is
pub lacking_item : (has : Bool) (t : Tables) (x : Term) → lacks_item x ≡ true → KeepsItem has t x
lacking_item has t x l = record {
  other = no_member x l;
  kept = λ env known place z ps below k. (let A : Bool → Type 0 = λ (b : Bool). ItemKept b env place z in subst A (sym l) (no_item env t place x z ps below l k));
}

pub keeps_item : (has : Bool) (t : Tables) (x : Term) (b : Bool) → lacks_item x ≡ false → MatchBool b (is_host_term x ≡ true) (KeepsTerm has t x) → MatchBool b (Unit {0}) (KeepsItem has t x)
keeps_item has t x true l h = tt
keeps_item has t x false l h = record {
  other = h.other;
  kept = λ env known place z ps below k. (let A : Bool → Type 0 = λ (b : Bool). ItemKept b env place z in subst A (sym l) (h.kept env known place z ps below k));
}
