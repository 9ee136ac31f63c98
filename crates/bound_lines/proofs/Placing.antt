-- What With keeps, and what ReDim and Erase name.
use Rattle.std.proofs.Common.{◌≡◌, ℕ, ◌<◌, length, Bool, true, false, not, List, ◌∷◌, Option, Some, None, if◌then◌else◌, refl, sym, ap, subst, ◌∙◌}
use Rattle.std.specs.Prelude.{unwrap_or}
use Rattle.vba_base.specs.declared.place.Place.{Place}
use Rattle.vba_expression.specs.Tree.{Expr}
use Rattle.vba_values.specs.Types.{Declared}
use Rattle.bound_project.specs.declared.declared_type.DeclaredType.{DeclaredType}
use Rattle.bound_project.specs.declared.declared_type.DeclaredType.TheVariants.{Plain}
use Rattle.bound_project.specs.declared.declared_type.ElementType.TheVariants.{Variant}
use Rattle.bound_project.specs.declared.node.NodeKind.{NodeKind}
use Rattle.bound_project.specs.declared.node.NodeKind.TheVariants as node
use Rattle.bound_project.specs.View.{declared_view}
use Rattle.bound_project.specs.Drafts.{Drafted, NodeNamed}
use Rattle.bound_project.specs.Expressions as bound
use Rattle.bound_project.specs.Expressions.{Lvalue, late_field, no_exprs, value_place}
use Rattle.bound_project.specs.Pieces.{Piece, Tables, a_place, name_in, of_value, put}
use Rattle.constant_values.specs.declared_names.specs.binder.specs.Declarations.{Written}
use Rattle.constant_values.specs.declared_names.specs.binder.specs.Scopes.{Space}
use Rattle.bound_terms.specs.bound_accesses.specs.bound_names.specs.bound_members.specs.bound_calls.specs.bound_forms.specs.Terms.{Env, broken_rule, expression_of}
use Rattle.bound_terms.specs.bound_accesses.specs.bound_names.specs.bound_members.specs.bound_calls.specs.bound_forms.specs.Terms as terms
use Rattle.bound_terms.specs.bound_accesses.specs.bound_names.specs.bound_members.specs.bound_calls.specs.bound_forms.specs.Operands.{alone, place_told}
use Rattle.bound_terms.specs.bound_accesses.specs.bound_names.specs.bound_members.specs.bound_calls.specs.bound_forms.specs.ExpressionsBound.{term_of}
use Rattle.bound_terms.specs.bound_accesses.specs.bound_names.specs.bound_members.specs.bound_calls.specs.bound_forms.specs.StatementsBound.{keeps, may_resize, place_in, resized_place}
use Rattle.bound_terms.specs.bound_accesses.specs.bound_names.specs.declared.env.Within.{Within}
use Rattle.bound_terms.specs.bound_accesses.specs.bound_names.specs.bound_members.specs.bound_calls.specs.declared.term.Ending.{Ending}
use Rattle.bound_terms.specs.bound_accesses.specs.bound_names.specs.bound_members.specs.bound_calls.specs.declared.term.HostMember.{HostMember}
use Rattle.bound_terms.specs.bound_accesses.specs.bound_names.specs.bound_members.specs.bound_calls.specs.declared.term.Term.{Term}
use Rattle.bound_terms.specs.bound_accesses.specs.bound_names.specs.bound_members.specs.bound_calls.specs.declared.term.Term.TheVariants as term
use Rattle.bound_terms.specs.bound_accesses.specs.bound_names.specs.bound_members.specs.bound_calls.specs.declared.term.Tree.{Tree}
use Rattle.bound_terms.specs.bound_accesses.specs.bound_names.specs.bound_members.specs.bound_calls.specs.Calls.{node_of}
use Rattle.bound_terms.specs.bound_accesses.specs.bound_names.specs.bound_members.specs.bound_calls.specs.Standing.{HostMemberStands, TermNamed, TermStands, ValueEnds}
use Rattle.bound_terms.specs.bound_accesses.specs.bound_names.specs.bound_members.specs.bound_calls.proofs.Growing.{grown_twice, grown_pieces}
use Rattle.statement_nodes.specs.Pushed.{PlacePushed}
use Rattle.statement_nodes.specs.Resizing.{ArrayTold, is_resized}
use Rattle.statement_nodes.proofs.Resizing.{resized_any}
use Rattle.bound_lines.specs.Kept.{IsNoPlace, Keeps, PushesNone, PushesValuePlace, Resizes, array_ending, is_no_place, late_ending}
use Rattle.bound_terms.specs.bound_accesses.specs.bound_names.specs.bound_members.specs.bound_calls.specs.Steps.{Leaves}
use Rattle.bound_terms.specs.bound_accesses.specs.bound_names.specs.bound_members.specs.bound_calls.specs.Taking.{StandsAlone}
use Rattle.bound_terms.specs.bound_accesses.specs.bound_names.specs.View.{within_view}

-- ---- what With keeps

pub keeps_place : (header : ℕ) (kind : NodeKind) (of : DeclaredType) (bounds : ℕ) (lends makes : Bool) (w : Within) → within_view w ≡ record { header = header; of = declared_view of; lends = lends }
    → Keeps header (term.Place kind of bounds lends makes) w
keeps_place header kind of bounds lends makes w is env d z below h = ap (λ (y : terms.Term). keeps header y) h.is ∙ ap (λ (y : terms.Within). Some y) (sym is)

pub keeps_value : (header : ℕ) (e : Ending) (w : Within) → within_view w ≡ record { header = header; of = declared_view e.of; lends = false } → Keeps header (term.Value e) w
keeps_value header e w is env d z below h = ap (λ (y : terms.Term). keeps header y) h.is ∙ ap (λ (y : terms.Within). Some y) (sym is)

pub kept_is : (env : Env) (tree : Expr) (x : Tree) (made : Term) (header : ℕ) (d e f : Drafted) (w : Within) → Leaves env tree d e x → StandsAlone x.term x.place e f made → Keeps header made w
    → Some (within_view w) ≡ keeps header (alone env (place_told tree) (term_of env tree))
kept_is env tree x made header d e f w l s k =
    sym (k env f (alone env x.place (term_of env tree)) d.pieces (s.stands env (term_of env tree) d.pieces l.stands.term_is))
    ∙ ap (λ (p : Place). keeps header (alone env p (term_of env tree))) l.stands.place_is

-- ---- what ReDim and Erase name

pub late_told : (x : Term) (m : HostMember) → x ≡ term.HostMember m → m.is_late ≡ true → Some (late_ending m) ≡ array_ending x
late_told x m is late = sym (ap (λ (y : Term). array_ending y) is ∙ ap (λ (b : Bool). if b then Some (late_ending m) else None) late)

pub early_told : (x : Term) (m : HostMember) → x ≡ term.HostMember m → m.is_late ≡ false → None ≡ array_ending x
early_told x m is early = sym (ap (λ (y : Term). array_ending y) is ∙ ap (λ (b : Bool). if b then Some (late_ending m) else None) early)

-- a place by its last node and its type, and what resizes it
pub record ArrayThere (t : Tables) (e : Ending) (place : Place) (z : terms.Term) (ps below : List Piece) : Type 0 where
  pub at : Lvalue
  pub is : place_in z ≡ Some at
  pub resized_is : (p : Place) → resized_place p z ≡ at
  pub resizes : (written : Option Declared) → may_resize z written ≡ is_resized (Some e.of) written
  pub on_top : put t (node_of e.kind place e.of) ps ≡ a_place at ∷ below

-- a place is resized itself
late_place : (p : Place) (o : bound.Expr) (name : List ℕ) (late : Bool) → late ≡ true
    → unwrap_or (if late then Some (late_field o name) else None) (value_place (broken_rule 27 p no_exprs)) ≡ late_field o name
late_place p o name late is = rw is

late_there : (t : Tables) (m : HostMember) (late : Bool) (e : Ending) (place : Place) (z : terms.Term) (ps below : List Piece) → m.is_late ≡ late → (if late then Some (late_ending m) else None) ≡ Some e → HostMemberStands t m z ps below
    → ArrayThere t e place z ps below
late_there t m true e place z ps below late is h =
    let same : late_ending m ≡ e = (let k : Some (late_ending m) ≡ Some e = is in cc) in
    let P : Ending → Type 0 = λ (y : Ending). ArrayThere t y place z ps below in
    subst P same (record {
      at = late_field h.object (name_in t m.name);
      is = ap (λ (y : terms.Term). place_in y) h.is ∙ ap (λ (b : Bool). if b then Some (late_field h.object (name_in t m.name)) else None) late;
      resized_is = λ p. ap (λ (y : terms.Term). resized_place p y) h.is ∙ late_place p h.object (name_in t m.name) m.is_late late;
      resizes = λ written. ap (λ (y : terms.Term). may_resize y written) h.is ∙ late;
      on_top = ap (put t (node_of (node.LateField m.name) place (Plain Variant))) h.on_top;
    })
late_there t m false e place z ps below late is h = let k : None ≡ Some e = is in absurd cc

array_there : (env : Env) (t : Tables) (x : Term) (e : Ending) (place : Place) (z : terms.Term) (ps below : List Piece) → array_ending x ≡ Some e → TermStands env t x z ps below → ArrayThere t e place z ps below
array_there env t (term.Place kind of bounds lent makes) e place z ps below is h =
    let here : Ending = record { kind = kind; of = of } in
    let same : here ≡ e = (let k : Some here ≡ Some e = is in cc) in
    let P : Ending → Type 0 = λ (y : Ending). ArrayThere t y place z ps below in
    subst P same (record {
      at = h.at;
      is = ap (λ (y : terms.Term). place_in y) h.is;
      resized_is = λ p. ap (λ (y : terms.Term). resized_place p y) h.is;
      resizes = λ written. ap (λ (y : terms.Term). may_resize y written) h.is ∙ resized_any of written h.at bounds lent makes;
      on_top = h.ends (node_of kind place of);
    })
array_there env t (term.HostMember m) e place z ps below is h = late_there t m m.is_late e place z ps below refl is h
array_there env t x e place z ps below is h = let k : None ≡ Some e = is in absurd cc

-- its last node is in the tables
late_named : (t : Tables) (m : HostMember) (late : Bool) (e : Ending) → (if late then Some (late_ending m) else None) ≡ Some e → m.name < length t.constants → NodeNamed t e.kind
late_named t m true e is named =
    let same : late_ending m ≡ e = (let k : Some (late_ending m) ≡ Some e = is in cc) in
    let P : Ending → Type 0 = λ (y : Ending). NodeNamed t y.kind in
    subst P same named
late_named t m false e is named = let k : None ≡ Some e = is in absurd cc

pub array_named : (t : Tables) (x : Term) (e : Ending) → array_ending x ≡ Some e → TermNamed t x → NodeNamed t e.kind
array_named t (term.Place kind of bounds lent makes) e is named =
    let here : Ending = record { kind = kind; of = of } in
    let same : here ≡ e = (let k : Some here ≡ Some e = is in cc) in
    let P : Ending → Type 0 = λ (y : Ending). NodeNamed t y.kind in
    subst P same named
array_named t (term.HostMember m) e is named = late_named t m m.is_late e is named
array_named t x e is named = let k : None ≡ Some e = is in absurd cc

pub place_bound : (env : Env) (tree : Expr) (x : Tree) (at : Ending) (d e g : Drafted) → Leaves env tree d e x → array_ending x.term ≡ Some at
    → g ≡ record e { pieces = put e.tables (node_of at.kind x.place at.of) e.pieces } → PlacePushed (place_in (term_of env tree)) d g
place_bound env tree x at d e g l is eq =
    let P : Drafted → Type 0 = λ (z : Drafted). PlacePushed (place_in (term_of env tree)) d z in
    let p = array_there env e.tables x.term at x.place (term_of env tree) e.pieces d.pieces is l.stands.term_is in
    subst P (sym eq) (record {
      grown = grown_twice d e (record e { pieces = put e.tables (node_of at.kind x.place at.of) e.pieces }) l.grown (grown_pieces e (put e.tables (node_of at.kind x.place at.of) e.pieces));
      made = p.at;
      is = p.is;
      on_top = p.on_top;
    })

-- ---- what ReDim resizes

pub place_resized : (x : Tree) (at : Ending) (e g : Drafted) → array_ending x.term ≡ Some at
    → g ≡ record e { pieces = put e.tables (node_of at.kind x.place at.of) e.pieces } → Resizes x (Some at.of) e g
place_resized x at e g is eq env tree d l =
    let P : Drafted → Type 0 = λ (z : Drafted). ArrayTold env tree (Some at.of) x.place d z in
    let p = array_there env e.tables x.term at x.place (term_of env tree) e.pieces d.pieces is l.stands.term_is in
    subst P (sym eq) (record {
      grown = grown_twice d e (record e { pieces = put e.tables (node_of at.kind x.place at.of) e.pieces }) l.grown (grown_pieces e (put e.tables (node_of at.kind x.place at.of) e.pieces));
      at = p.at;
      is = p.resized_is (place_told tree);
      resizes = p.resizes;
      place_is = l.stands.place_is;
      on_top = p.on_top;
    })

-- a value as a place
pub value_placed : (ending : Ending) (place : Place) (d e f : Drafted) → e ≡ record d { pieces = put d.tables (node_of ending.kind place ending.of) d.pieces }
    → f ≡ record e { pieces = put e.tables (node_of node.PlaceOf place ending.of) e.pieces } → PushesValuePlace ending place d f
value_placed ending place d e f first second =
    let P : Drafted → Type 0 = λ (z : Drafted). PushesValuePlace ending place d z in
    let ps = put d.tables (node_of ending.kind place ending.of) d.pieces in
    let qs = of_value (λ (x : bound.Expr). a_place (value_place x)) ps in
    let all : f ≡ record d { pieces = qs } = second ∙ ap (λ (z : Drafted). record z { pieces = put z.tables (node_of node.PlaceOf place ending.of) z.pieces }) first in
    subst P (sym all) (record {
      grown = grown_pieces d qs;
      stands = λ made below ends. ap (λ (st : List Piece). of_value (λ (x : bound.Expr). a_place (value_place x)) st) (ends (node_of ending.kind place ending.of));
    })

pub value_resized : (x : Tree) (ending : Ending) (e f : Drafted) → x.term ≡ term.Value ending → PushesValuePlace ending x.place e f → Resizes x None e f
value_resized x ending e f is p env tree d l =
    let T : Term → Type 0 = λ (y : Term). TermStands env e.tables y (term_of env tree) e.pieces d.pieces in
    let h = subst T is l.stands.term_is in
    record {
      grown = grown_twice d e f l.grown p.grown;
      at = value_place (expression_of h.made x.place (declared_view ending.of));
      is = ap (λ (y : terms.Term). resized_place (place_told tree) y) h.is ∙ ap (λ (q : Place). value_place (expression_of h.made q (declared_view ending.of))) (sym l.stands.place_is);
      resizes = λ written. ap (λ (y : terms.Term). may_resize y written) h.is;
      place_is = l.stands.place_is;
      on_top = p.stands h.made d.pieces h.ends;
    }

-- what is neither a place nor a value
pub record NoPlace (z : terms.Term) : Type 0 where
  pub is : (p : Place) → resized_place p z ≡ value_place (broken_rule 27 p no_exprs)
  pub resizes : (written : Option Declared) → may_resize z written ≡ false

routine_no_place : (base : Option bound.Expr) (space : Space) (number : ℕ) (p : Written) → NoPlace (terms.routine_term base space number p)
routine_no_place None space number p = record { is = λ q. refl; resizes = λ written. refl }
routine_no_place (Some b) space number p = record { is = λ q. refl; resizes = λ written. refl }

was_not : (b : Bool) → not b ≡ true → b ≡ false
was_not true h = let k : false ≡ true = h in absurd cc
was_not false h = refl

early_place : (p : Place) (o : bound.Expr) (name : List ℕ) (late : Bool) → late ≡ false
    → unwrap_or (if late then Some (late_field o name) else None) (value_place (broken_rule 27 p no_exprs)) ≡ value_place (broken_rule 27 p no_exprs)
early_place p o name late is = rw is

member_no_place : (o : bound.Expr) (m : terms.HostMember) → not m.late ≡ true → NoPlace (terms.a_host_member o m)
member_no_place o m early = record {
  is = λ p. early_place p o m.name m.late (was_not m.late early);
  resizes = λ written. was_not m.late early;
}

there_is_none : (env : Env) (t : Tables) (x : Term) (z : terms.Term) (ps below : List Piece) → is_no_place x ≡ true → TermStands env t x z ps below → NoPlace z
there_is_none env t (term.Place kind of bounds lends makes) z ps below none h = let k : false ≡ true = none in absurd cc
there_is_none env t (term.Value e) z ps below none h = let k : false ≡ true = none in absurd cc
there_is_none env t (term.Routine r) z ps below none h =
    subst NoPlace (sym h.routine.is) (routine_no_place h.routine.base h.routine.space h.routine.number h.routine.written)
there_is_none env t (term.Property p) z ps below none h =
    subst NoPlace (sym h.property.is) (routine_no_place h.property.base _ h.property.number _)
there_is_none env t (term.Function f) z ps below none h = subst NoPlace (sym h.0.is) (record { is = λ q. refl; resizes = λ written. refl })
there_is_none env t (term.HostMember m) z ps below none h = subst NoPlace (sym h.is) (member_no_place h.object _ none)
there_is_none env t (term.SheetMember m) z ps below none h = subst NoPlace (sym h.0) (member_no_place _ _ none)
there_is_none env t term.Err z ps below none h = subst NoPlace (sym h.0) (record { is = λ q. refl; resizes = λ written. refl })
there_is_none env t term.ErrRaise z ps below none h = subst NoPlace (sym h.0) (record { is = λ q. refl; resizes = λ written. refl })
there_is_none env t term.ErrClear z ps below none h = subst NoPlace (sym h.0) (record { is = λ q. refl; resizes = λ written. refl })
there_is_none env t term.ErrorWord z ps below none h = subst NoPlace (sym h.0) (record { is = λ q. refl; resizes = λ written. refl })
there_is_none env t term.Nothing z ps below none h = let k : false ≡ true = none in absurd cc

pub none_told : (env : Env) (tree : Expr) (x : Tree) (d e : Drafted) → Leaves env tree d e x → is_no_place x.term ≡ true → IsNoPlace env tree x.place
none_told env tree x d e l none =
    let n = there_is_none env e.tables x.term (term_of env tree) e.pieces d.pieces none l.stands.term_is in
    record { place_is = l.stands.place_is; is = n.is (place_told tree); resizes = n.resizes }

-- what stands for it
pub none_pushed : (place : Place) (d e f : Drafted) → e ≡ record d { pieces = put d.tables (node_of (node.Marked (record { rule = 27; place = place }) 0) place (Plain Variant)) d.pieces }
    → f ≡ record e { pieces = put e.tables (node_of node.PlaceOf place (Plain Variant)) e.pieces } → PushesNone place d f
none_pushed place d e f first second =
    let P : Drafted → Type 0 = λ (z : Drafted). PushesNone place d z in
    let qs = a_place (value_place (broken_rule 27 place no_exprs)) ∷ d.pieces in
    let all : f ≡ record d { pieces = qs } = second ∙ ap (λ (z : Drafted). record z { pieces = put z.tables (node_of node.PlaceOf place (Plain Variant)) z.pieces }) first in
    subst P (sym all) (record { grown = grown_pieces d qs; on_top = refl })

pub none_resized : (env : Env) (tree : Expr) (place : Place) (d e : Drafted) → IsNoPlace env tree place → PushesNone place d e → ArrayTold env tree None place d e
none_resized env tree place d e n p = record {
  grown = p.grown;
  at = value_place (broken_rule 27 place no_exprs);
  is = n.is ∙ ap (λ (q : Place). value_place (broken_rule 27 q no_exprs)) (sym n.place_is);
  resizes = n.resizes;
  place_is = n.place_is;
  on_top = p.on_top;
}
