-- What a ReDim resizes, and its bounds.
use Rattle.std.proofs.Common.{◌≡◌, ℕ, zero, suc, Bool, true, false, List, ◌∷◌, refl, ◌∙◌, sym, ap, subst}
use Rattle.std.specs.Prelude.{◌≢◌, Option, Some, None, if◌then◌else◌}
use Rattle.vba_base.specs.declared.place.Place.{Place}
use Rattle.vba_values.specs.Types.{Declared}
use Rattle.bound_project.specs.declared.declared_type.DeclaredType.{DeclaredType}
use Rattle.bound_project.specs.declared.declared_type.DeclaredType.TheVariants.{ArrayOf, Plain}
use Rattle.bound_project.specs.declared.declared_type.ElementType.{ElementType}
use Rattle.bound_project.specs.declared.declared_type.ElementType.TheVariants.{Variant}
use Rattle.bound_project.specs.declared.node.NodeKind.TheVariants as node
use Rattle.bound_project.specs.Expressions as bound
use Rattle.bound_project.specs.Expressions.{Lvalue, Exprs, no_exprs, also}
use Rattle.bound_project.specs.Pieces.{Piece, Tables, an_expr, exprs_off, put}
use Rattle.bound_project.specs.Drafts.{Drafted}
use Rattle.bound_project.specs.View.{declared_view, element_view}
use Rattle.bound_calls.specs.bound_declarations.specs.constant_values.specs.declared_names.specs.binder.specs.Constants.{is_variant}
use Rattle.bound_calls.specs.bound_forms.specs.Terms as terms
use Rattle.bound_calls.specs.bound_forms.specs.StatementsBound.{last_broken, may_resize}
use Rattle.bound_calls.specs.Calls.{node_of}
use Rattle.statement_nodes.specs.Resizing.{MarksBounds, is_resized}

-- ---- what is resized, by its type

pub resizes_array : (of : DeclaredType) (element : ElementType) (written : Option Declared) (found : Bool) → of ≡ ArrayOf element
    → found ≡ is_resized (Some (ArrayOf element)) written → found ≡ is_resized (Some of) written
resizes_array of element written found is found_is = found_is ∙ ap (λ (u : DeclaredType). is_resized (Some u) written) (sym is)

-- what is no array is resized where it is a Variant
plain_resizes : (element : ElementType) (written : Option Declared) → is_variant (element_view element) ≡ is_resized (Some (Plain element)) written
plain_resizes Variant written = refl
plain_resizes element written = refl

pub resizes_plain : (of : DeclaredType) (element : ElementType) (written : Option Declared) (found : Bool) → of ≡ Plain element
    → found ≡ is_variant (declared_view of) → found ≡ is_resized (Some of) written
resizes_plain of element written found is found_is =
    found_is
    ∙ (ap (λ (u : DeclaredType). is_variant (declared_view u)) is
    ∙ (plain_resizes element written ∙ ap (λ (u : DeclaredType). is_resized (Some u) written) (sym is)))

-- whatever place it is
pub resized_any : (of : DeclaredType) (written : Option Declared) (x : Lvalue) (bounds : ℕ) (lends makes : Bool)
    → may_resize (terms.a_place x (declared_view of) bounds lends makes) written ≡ is_resized (Some of) written
resized_any (ArrayOf element) None x bounds lends makes = refl
resized_any (ArrayOf element) (Some w) x bounds lends makes = refl
resized_any (Plain Variant) written x bounds lends makes = refl
resized_any (Plain element) written x bounds lends makes = refl

-- ---- the last bound

-- it stays the last one where others are taken before it
marked_last : (place : Place) (n : ℕ) (st : List Piece) (e : bound.Expr) (es all : Exprs) (below : List Piece) → exprs_off n st (also e es) ≡ Some (all, below)
    → exprs_off n st (last_broken place (also e es)) ≡ Some (last_broken place all, below)
marked_last place zero st e es all below is =
    let both : (also e es, st) ≡ (all, below) = cc in
    ap (λ (found : Exprs × List Piece). Some (last_broken place found.0, found.1)) both
marked_last place (suc n) (an_expr x ∷ st) e es all below is = marked_last place n st x (also e es) all below is
marked_last place (suc n) st e es all below is = absurd cc

bound_marked : (t : Tables) (place : Place) (count : ℕ) (st : List Piece) (es : Exprs) (below : List Piece) → count ≢ 0 → exprs_off count st no_exprs ≡ Some (es, below)
    → exprs_off count (put t (node_of (node.Marked (record { rule = 27; place = place }) 1) place (Plain Variant)) st) no_exprs ≡ Some (last_broken place es, below)
bound_marked t place zero st es below some is = absurd (some refl)
bound_marked t place (suc n) (an_expr e ∷ st) es below some is = marked_last place n st e no_exprs es below is
bound_marked t place (suc n) st es below some is = absurd cc

-- where there are none, none is marked
abbrev found_in : Option (Exprs × List Piece) → Exprs
found_in None = no_exprs
found_in (Some found) = found.0

broken_none : (place : Place) (es : Exprs) → no_exprs ≡ es → es ≡ last_broken place es
broken_none place es h = subst (λ (fs : Exprs). fs ≡ last_broken place fs) h refl

none_there : (place : Place) (fits : Bool) (ps below : List Piece) (es : Exprs) → exprs_off 0 ps no_exprs ≡ Some (es, below) → exprs_off 0 ps no_exprs ≡ Some (if fits then es else last_broken place es, below)
none_there place true ps below es is = is
none_there place false ps below es is = is ∙ ap (λ (fs : Exprs). Some (fs, below)) (broken_none place es (ap found_in is))

pub none_marked : (of : Option DeclaredType) (written : Option Declared) (place : Place) (count : ℕ) (d : Drafted) → count ≡ 0 → MarksBounds of written place count d d
none_marked of written place count d none =
    subst (λ (n : ℕ). MarksBounds of written place n d d) (sym none) (record {
      same = record { statements = refl; bodies = refl };
      stands = λ es below is. none_there place (is_resized of written) d.pieces below es is;
    })

pub resizing_marked : (of : Option DeclaredType) (written : Option Declared) (place : Place) (count : ℕ) (d : Drafted) → is_resized of written ≡ true
    → MarksBounds of written place count d d
resizing_marked of written place count d fits = record {
  same = record { statements = refl; bodies = refl };
  stands = λ es below is. is ∙ ap (λ (b : Bool). Some (if b then es else last_broken place es, below)) (sym fits);
}

pub other_marked : (of : Option DeclaredType) (written : Option Declared) (place : Place) (count : ℕ) (d e : Drafted) → count ≢ 0 → is_resized of written ≡ false
    → e ≡ record d { pieces = put d.tables (node_of (node.Marked (record { rule = 27; place = place }) 1) place (Plain Variant)) d.pieces }
    → MarksBounds of written place count d e
other_marked of written place count d e some fits is =
    let n = node_of (node.Marked (record { rule = 27; place = place }) 1) place (Plain Variant) in
    subst (λ (x : Drafted). MarksBounds of written place count d x) (sym is) (record {
      same = record { statements = refl; bodies = refl };
      stands = λ es below taken.
          bound_marked d.tables place count d.pieces es below some taken ∙ ap (λ (b : Bool). Some (if b then es else last_broken place es, below)) (sym fits);
    })
