-- How terms are taken.
use Rattle.std.proofs.Common.{◌≡◌, ℕ, ◌<◌, length, map, Bool, true, false, List, [], ◌∷◌, Option, Some, None, refl, sym, ap, subst, ◌∙◌, arith, length-append}
use Rattle.std.proofs.Math.Seq.{get_or-append_seam}
use Rattle.std.specs.Prelude.{◌==◌, if◌then◌else◌, option_map, option_and_then}
use Rattle.vba_base.specs.declared.place.Place.{Place}
use Rattle.vba_lib.specs.declared.function.LibraryFunction.{LibraryFunction}
use Rattle.vba_values.specs.Types.{Declared}
use Rattle.vba_values.specs.Types as type
use Rattle.bound_project.specs.declared.declared_type.DeclaredType.{DeclaredType}
use Rattle.bound_project.specs.declared.declared_type.DeclaredType.TheVariants.{Plain}
use Rattle.bound_project.specs.declared.declared_type.ElementType.TheVariants as element
use Rattle.bound_project.specs.declared.node.NodeKind.{NodeKind}
use Rattle.bound_project.specs.declared.node.NodeKind.TheVariants as node
use Rattle.bound_project.specs.declared.node.Node.{Node}
use Rattle.bound_project.specs.declared.node.LateName.{LateName}
use Rattle.bound_project.specs.declared.node.LateUse.{LateUse}
use Rattle.bound_project.specs.declared.node.LateUse.TheVariants.{Reading}
use Rattle.bound_project.specs.View.{declared_view}
use Rattle.bound_project.specs.Project.{nowhere}
use Rattle.bound_project.specs.Expressions.{expr, load, active_sheet, host_member, late_member, marked, no_exprs, none_given, also, load_made, Lvalue}
use Rattle.bound_project.specs.Expressions as bound
use Rattle.bound_project.specs.Pieces.{Piece, Sought, Tables, a_late, a_member, an_expr, exprs_off, late_put, name_in, of_member_found, of_place, of_value, order_in, expr_of, put, put_kind, a_place, sought_in}
use Rattle.bound_project.proofs.Drafts.{order_extends}
use Rattle.bound_project.proofs.Lists.{late_is, member_put}
use Rattle.bound_project.specs.Drafts.{AllBelow, Drafted, NodeNamed, with_order}
use Rattle.bound_declarations.specs.constant_values.specs.declared_names.specs.binder.specs.Types.{is_object}
use Rattle.bound_declarations.specs.constant_values.specs.declared_names.specs.binder.specs.Declarations.{Written}
use Rattle.bound_declarations.specs.constant_values.specs.declared_names.specs.binder.specs.Scopes.{Space}
use Rattle.bound_forms.specs.Terms.{Env, a_host_member, bound_arguments, broken_call, err_object, expression_of, member_read, no_names, no_term, takes, told_type, typed_value, routine_term, read_as, read_of}
use Rattle.bound_forms.specs.Terms as plain
use Rattle.bound_forms.specs.ClassDefaults.{declared_in}
use Rattle.bound_forms.specs.Operands.{alone, bare_call, behind_base, call_value, called_alone, function_takes, function_value, if_there, lacking_call, operand_of, read_alone, reference_of, term_or, typed_reference}
use Rattle.bound_declarations.specs.constant_values.specs.declared_names.specs.binder.specs.Signatures.{call_type, parameters_in, reader}
use Rattle.bound_declarations.specs.constant_values.specs.declared_names.specs.View.{space_view, written_view}
use Rattle.bound_calls.specs.declared.term.Ending.{Ending}
use Rattle.bound_calls.specs.declared.term.HostMember.{HostMember}
use Rattle.bound_calls.specs.declared.term.Term.{Term}
use Rattle.bound_calls.specs.declared.term.Term.TheVariants as term
use Rattle.bound_calls.specs.Standing.{TermStands, EndingStands, EndingNamed, member_is, ValueEnds}
use Rattle.bound_calls.specs.InOrder.{AddsOrder}
use Rattle.bound_calls.specs.Taking.{Loads, LooksUpBare, PushesSheet, ReadsBare, ReadsMember, ReadsValue, StandsAlone, TakesValue, Pushes, sheet_expression, read_kind}
use Rattle.bound_calls.specs.References.{read_operand, read_reference}
use Rattle.bound_calls.proofs.Growing.{grown_same, grown_pieces, grown_twice}

-- a node of a type that it has as an operand too
abbrev pub node_of : NodeKind → Place → DeclaredType → Node
node_of kind place of = record { kind = kind; place = place; of = of; operand = of }

-- a value of a type that is no object's
no_object : (made : bound.Node) (place : Place) (of : DeclaredType) → is_object (declared_view of) ≡ false → typed_value made place (declared_view of) ≡ Some (expr made place (declared_view of) (declared_view of))
no_object made place of h = ap (λ b. if b then None else Some (expression_of made place (declared_view of))) h

an_object : (made : bound.Node) (place : Place) (of : DeclaredType) → is_object (declared_view of) ≡ true → typed_value made place (declared_view of) ≡ None
an_object made place of h = ap (λ b. if b then None else Some (expression_of made place (declared_view of))) h

-- the node that reads a place
pub read_named : (t : Tables) (makes : Bool) → NodeNamed t (read_kind makes)
read_named t true = tt
read_named t false = tt

pub read_ends : (makes : Bool) (t : Tables) (x : Lvalue) (ps below : List Piece) → ps ≡ a_place x ∷ below → ValueEnds t (read_kind makes) (read_of makes x) ps below
read_ends true t x ps below h = λ n. ap (λ st. of_place (λ y. expr_of n (load_made y)) st) h
read_ends false t x ps below h = λ n. ap (λ st. of_place (λ y. expr_of n (load y)) st) h

pub loads_none : (kind : NodeKind) (of : DeclaredType) (makes : Bool) (d : Drafted) → is_object (declared_view of) ≡ true → Loads kind of makes d d None
loads_none kind of makes d h = record { grown = grown_same d; named = tt; stands = λ place x below k. an_object (read_of makes x) place of h }

pub loads_some : (kind : NodeKind) (of : DeclaredType) (makes : Bool) (place : Place) (d e : Drafted) (read : NodeKind) → read ≡ read_kind makes → is_object (declared_view of) ≡ false
    → e ≡ record d { pieces = put d.tables (node_of kind place of) d.pieces } → Loads kind of makes d e (Some (record { kind = read; of = of }))
loads_some kind of makes place d e read reads h eq =
    let P : Drafted → Type 0 = λ x. Loads kind of makes d x (Some (record { kind = read_kind makes; of = of })) in
    let Q : NodeKind → Type 0 = λ k. Loads kind of makes d e (Some (record { kind = k; of = of })) in
    subst Q (sym reads) (subst P (sym eq) (record {
      grown = grown_pieces d (put d.tables (node_of kind place of) d.pieces);
      named = read_named d.tables makes;
      stands = λ p x below k. record {
        made = read_of makes x;
        is = no_object (read_of makes x) p of h;
        ends = read_ends makes d.tables x (put d.tables (node_of kind place of) d.pieces) below (k (node_of kind place of));
      };
    }))

-- ---- values

pub reads_place : (kind : NodeKind) (of : DeclaredType) (bounds : ℕ) (lends makes : Bool) (place : Place) (d e : Drafted) (ending : Option Ending) → Loads kind of makes d e ending
    → ReadsValue (term.Place kind of bounds lends makes) place d e ending
reads_place kind of bounds lends makes place d e ending h = record {
  grown = h.grown;
  named = h.named;
  stands = λ env y below k.
      let P : plain.Term → Type 0 = λ z. EndingStands e.tables ending place (read_as typed_value z place) e.pieces below in
      subst P (sym k.is) (h.stands place k.at below k.ends);
}

abbrev plain_ending : Bool → Ending → Option Ending
plain_ending b e = if b then None else Some e

value_read : (e : Ending) (b : Bool) (place : Place) → is_object (declared_view e.of) ≡ b → (d : Drafted) (env : Env) (y : plain.Term) (below : List Piece) → TermStands env d.tables (term.Value e) y d.pieces below
    → EndingStands d.tables (plain_ending b e) place (read_as typed_value y place) d.pieces below
value_read e true place h d env y below k = ap (λ z. read_as typed_value z place) k.is ∙ an_object k.made place e.of h
value_read e false place h d env y below k = record { made = k.made; is = ap (λ z. read_as typed_value z place) k.is ∙ no_object k.made place e.of h; ends = k.ends }

ending_named : (e : Ending) (b : Bool) (d : Drafted) → NodeNamed d.tables e.kind → EndingNamed d.tables (plain_ending b e)
ending_named e true d h = tt
ending_named e false d h = h

pub reads_value : (e : Ending) (place : Place) (d : Drafted) → NodeNamed d.tables e.kind → ReadsValue (term.Value e) place d d (plain_ending (is_object (declared_view e.of)) e)
reads_value e place d k = record { grown = grown_same d; named = ending_named e (is_object (declared_view e.of)) d k; stands = value_read e (is_object (declared_view e.of)) place refl d }

-- a late-bound member without arguments is looked up
pub looks_up_bare : (name : ℕ) (d e : Drafted) (number : ℕ) (order : List ℕ) → order ≡ [] → name < length d.tables.constants → AddsOrder order d e number
    → LooksUpBare name d e (record { name = name; names = record { before = 0; order = number }; arguments = 0; given = number })
looks_up_bare name d e number order none h o =
    let found : LateName = record { name = name; names = record { before = 0; order = number }; arguments = 0; given = number } in
    let after : Drafted = record d { tables = with_order d.tables order } in
    let P : Drafted → Type 0 = λ x. LooksUpBare name d x found in
    let last : order_in after.tables number ≡ [] = ap (λ (k : ℕ). order_in after.tables k) o.number_is ∙ get_or-append_seam d.tables.orders order [] [] ∙ none in
    let long : number < length after.tables.orders = omega (arith, o.number_is, length-append d.tables.orders (order ∷ [])) in
    let B : List ℕ → Type 0 = λ (is : List ℕ). AllBelow (length d.tables.constants) is in
    let made : LateUse → List ℕ → Sought = λ aim is. record { aim = aim; name = name_in d.tables name; by = record { before = 0; names = map (name_in d.tables) is }; given = [] } in
    subst P (sym o.draft_is) (record {
      grown = record { tables = order_extends d.tables order; statements = refl; bodies = refl };
      pieces = refl;
      named = (h, ((long, subst B (sym last) tt), long));
      sought = λ aim. ap (made aim) last;
      none = refl;
    })

-- a member that is read without arguments, which the run finds or which is one of the host
member_is_read : (b : Bool) (object : bound.Expr) (m : plain.HostMember) → m.late ≡ b → member_read object m ≡ (if b then late_member object m.name no_names none_given else host_member object m.name no_exprs)
member_is_read b object m h = ap (λ (c : Bool). if c then late_member object m.name no_names none_given else host_member object m.name no_exprs) h

pub reads_late : (m : HostMember) (place : Place) (d l e : Drafted) (found : LateName) → m.is_late ≡ true → LooksUpBare m.name d l found
    → e ≡ record l { pieces = put l.tables (node_of (node.LateThere Reading found) place m.of) l.pieces } → ReadsBare m d e (node.LateMember found)
reads_late m place d l e found late h eq =
    let P : Drafted → Type 0 = λ x. ReadsBare m d x (node.LateMember found) in
    let s : Sought = record { aim = Reading; name = name_in d.tables m.name; by = no_names; given = [] } in
    let own = sought_in l.tables Reading found in
    let after : Drafted = record l { pieces = put l.tables (node_of (node.LateThere Reading found) place m.of) l.pieces } in
    subst P (sym eq) (record {
      grown = grown_twice d l after h.grown (grown_pieces l (put l.tables (node_of (node.LateThere Reading found) place m.of) l.pieces));
      named = h.named;
      ends = λ object below k n.
          ap (λ (st : List Piece). late_put n own found.arguments (of_value (λ x. a_late x own) st)) (h.pieces ∙ k) ∙ ap (λ (q : Sought). late_put n q found.arguments (a_late object q ∷ below)) (h.sought Reading)
          ∙ ap (λ (count : ℕ). late_put n s count (a_late object s ∷ below)) h.none ∙ late_is s (λ x given. expr_of n (late_member x s.name s.by given)) 0 object [] below refl refl
          ∙ ap (λ (made : bound.Node). expr_of n made ∷ below) (sym (member_is_read true object (member_is d.tables m) late));
    })

pub reads_early : (m : HostMember) (place : Place) (d e : Drafted) → m.is_late ≡ false → m.name < length d.tables.constants → e ≡ record d { pieces = put d.tables (node_of (node.MemberThere m.name 0) place m.of) d.pieces }
    → ReadsBare m d e (node.HostMember m.name 0)
reads_early m place d e early named eq =
    let P : Drafted → Type 0 = λ x. ReadsBare m d x (node.HostMember m.name 0) in
    let name = name_in d.tables m.name in
    subst P (sym eq) (record {
      grown = grown_pieces d (put d.tables (node_of (node.MemberThere m.name 0) place m.of) d.pieces);
      named = named;
      ends = λ object below k n.
          ap (λ st. of_member_found name (λ x es. expr_of n (host_member x name es)) (exprs_off 0 (of_value (λ x. a_member x name 0) st) no_exprs)) k
          ∙ member_put name (λ x es. expr_of n (host_member x name es)) object [] below
          ∙ ap (λ (made : bound.Node). expr_of n made ∷ below) (sym (member_is_read false object (member_is d.tables m) early));
    })

pub reads_member : (m : HostMember) (d e : Drafted) (kind : NodeKind) → m.least ≡ 0 → ReadsBare m d e kind → ReadsMember m d e (record { kind = kind; of = m.of })
reads_member m d e kind least h = record { grown = h.grown; named = h.named; least_is = least; of_is = refl; ends = h.ends }

pub pushes_sheet : (place : Place) (d e : Drafted) → place ≡ nowhere → e ≡ record d { pieces = put d.tables (node_of node.ActiveSheet place (Plain element.Worksheet)) d.pieces } → PushesSheet d e
pushes_sheet place d e p eq =
    let P : Drafted → Type 0 = λ x. PushesSheet d x in
    subst P (sym eq) (record {
      grown = grown_pieces d (put d.tables (node_of node.ActiveSheet place (Plain element.Worksheet)) d.pieces);
      tables_are = refl;
      on_top = ap (λ q. an_expr (expr active_sheet q type.worksheet type.worksheet) ∷ d.pieces) p;
    })

-- a member of the active sheet, once that is pushed
pub sheet_stands : (m : HostMember) (d e : Drafted) → PushesSheet d e → (env : Env) (y : plain.Term) (below : List Piece) → TermStands env d.tables (term.SheetMember m) y d.pieces below
    → TermStands env e.tables (term.HostMember m) y e.pieces below
sheet_stands m d e s env y below h = record {
  object = sheet_expression;
  is = h.0 ∙ ap (λ (t : Tables). a_host_member sheet_expression (member_is t m)) (sym s.tables_are);
  on_top = s.on_top ∙ ap (λ ps. an_expr sheet_expression ∷ ps) h.1;
}

pub named_still : (m : HostMember) (d e : Drafted) → PushesSheet d e → m.name < length d.tables.constants → m.name < length e.tables.constants
named_still m d e s h = let P : Tables → Type 0 = λ t. m.name < length t.constants in subst P (sym s.tables_are) h

-- what is neither a place nor a value
pub none_of : (x : Term) → Type 0
none_of (term.Place kind of bounds lends makes) = ⊥
none_of (term.Value e) = ⊥
none_of x = Unit {0}

routine_unread : (typed : bound.Node → Place → Declared → Option bound.Expr) (base : Option bound.Expr) (space : Space) (number : ℕ) (written : Written) (place : Place) → read_as typed (routine_term base space number written) place ≡ None
routine_unread typed None space number written place = refl
routine_unread typed (Some b) space number written place = refl

pub not_read : (typed : bound.Node → Place → Declared → Option bound.Expr) (t : Tables) (x : Term) → none_of x → (env : Env) (y : plain.Term) (ps below : List Piece) → TermStands env t x y ps below → (place : Place) → read_as typed y place ≡ None
unfolding none_of
not_read typed t (term.Place kind of bounds lends makes) n env y ps below h place = absurd n
not_read typed t (term.Value e) n env y ps below h place = absurd n
not_read typed t (term.Routine r) n env y ps below h place =
    ap (λ z. read_as typed z place) h.routine.is ∙ routine_unread typed h.routine.base h.routine.space h.routine.number h.routine.written place
not_read typed t (term.HostMember m) n env y ps below h place = ap (λ z. read_as typed z place) h.is
not_read typed t (term.SheetMember m) n env y ps below h place = ap (λ z. read_as typed z place) h.0
not_read typed t (term.Property p) n env y ps below h place =
    ap (λ z. read_as typed z place) h.property.is ∙ routine_unread typed h.property.base (space_view p.space.now) h.property.number (written_view p.written) place
not_read typed t (term.Function f) n env y ps below h place = ap (λ z. read_as typed z place) h.0.is
not_read typed t term.Err n env y ps below h place = ap (λ z. read_as typed z place) h.0
not_read typed t term.ErrRaise n env y ps below h place = ap (λ z. read_as typed z place) h.0
not_read typed t term.ErrClear n env y ps below h place = ap (λ z. read_as typed z place) h.0
not_read typed t term.ErrorWord n env y ps below h place = ap (λ z. read_as typed z place) h.0
not_read typed t term.Nothing n env y ps below h place = ap (λ z. read_as typed z place) h

pub reads_none : (x : Term) (place : Place) (d : Drafted) → none_of x → ReadsValue x place d d None
reads_none x place d n = record { grown = grown_same d; named = tt; stands = λ env y below h. not_read typed_value d.tables x n env y d.pieces below h place }

-- a term is what it is where it stands alone, as a value
pub takes_alone : (x : Term) (place : Place) (d m e : Drafted) (made : Term) (ending : Option Ending) → StandsAlone x place d m made → ReadsValue made place m e ending → TakesValue x place d e ending
takes_alone x place d m e made ending a h = record {
  grown = grown_twice d m e a.grown h.grown;
  named = h.named;
  stands = λ env y below k. h.stands env (alone env place y) below (a.stands env y below k);
}

-- ---- what stands alone is Err only where that stands

abbrev pub is_err : plain.Term → Bool
is_err err_object = true
is_err y = false

or_no_err : (a b : plain.Term) → is_err a ≡ false → is_err b ≡ false → is_err (term_or a b) ≡ false
or_no_err no_term b h k = k
or_no_err err_object b h k = h
or_no_err (plain.a_place x of bounds lends makes) b h k = refl
or_no_err (plain.a_value n of) b h k = refl
or_no_err (plain.a_routine space number w) b h k = refl
or_no_err (plain.a_method base space number w) b h k = refl
or_no_err (plain.a_function f text_form base) b h k = refl
or_no_err (a_host_member x m) b h k = refl
or_no_err plain.err_raise b h k = refl
or_no_err plain.err_clear b h k = refl
or_no_err plain.error_word b h k = refl

call_no_err : (env : Env) (base : Option bound.Expr) (space : Space) (number : ℕ) (w : Written) (args : Option bound.Args) → is_err (call_value env base space number w args) ≡ false
call_no_err env base space number w None = refl
call_no_err env base space number w (Some args) = refl

bare_no_err : (env : Env) (base : Option bound.Expr) (space : Space) (number : ℕ) (w : Written) → is_err (bare_call env base space number w) ≡ false
bare_no_err env base space number w = at (reader env.scope space number w)
  where
    at : (o : Option (ℕ × Written)) → is_err (if_there (option_map (λ f. call_value env base space f.0 f.1 (bound_arguments (λ of t place. None) (parameters_in env.scope space f.1) [])) o)) ≡ false
    at None = refl
    at (Some f) = call_no_err env base space f.0 f.1 (bound_arguments (λ of t place. None) (parameters_in env.scope space f.1) [])

unless_no_err : (b : Bool) (x : bound.Node) (of : Declared) → is_err (if_there (if b then None else Some (plain.a_value x of))) ≡ false
unless_no_err true x of = refl
unless_no_err false x of = refl

lacking_no_err : (env : Env) (place : Place) (base : Option bound.Expr) (space : Space) (number : ℕ) (w : Written) → is_err (lacking_call env place base space number w) ≡ false
lacking_no_err env place base space number w = at (reader env.scope space number w)
  where
    at : (o : Option (ℕ × Written))
        → is_err (if_there (option_and_then (λ f. if takes (parameters_in env.scope space f.1) [] then None else Some (broken_call 25 place (call_type env.scope space f.1) (behind_base base no_exprs))) o)) ≡ false
    at None = refl
    at (Some f) = unless_no_err (takes (parameters_in env.scope space f.1) []) (marked (record { rule = 25; place = place }) (behind_base base no_exprs)) (told_type (call_type env.scope space f.1))

called_no_err : (env : Env) (place : Place) (base : Option bound.Expr) (space : Space) (number : ℕ) (w : Written) → is_err (called_alone env place base space number w) ≡ false
called_no_err env place base space number w =
    or_no_err (bare_call env base space number w) (lacking_call env place base space number w) (bare_no_err env base space number w) (lacking_no_err env place base space number w)

either_no_err : (b : Bool) (x y : bound.Node) (of other : Declared) → is_err (if b then plain.a_value x of else plain.a_value y other) ≡ false
either_no_err true x y of other = refl
either_no_err false x y of other = refl

function_no_err : (env : Env) (place : Place) (f : LibraryFunction) (text_form : Bool) (base : ℕ) (b : Bool) → is_err (function_value env place f text_form base b no_exprs) ≡ false
function_no_err env place f text_form base true = refl
function_no_err env place f text_form base false = refl

pub unless_err : (y : plain.Term) (place : Place) → is_err y ≡ false → read_reference y place ≡ read_as typed_reference y place
unless_err err_object place h = let e : true ≡ false = h in absurd cc
unless_err (plain.a_place x of bounds lends makes) place h = refl
unless_err (plain.a_value n of) place h = refl
unless_err (plain.a_routine space number w) place h = refl
unless_err (plain.a_method base space number w) place h = refl
unless_err (plain.a_function f text_form base) place h = refl
unless_err (a_host_member x m) place h = refl
unless_err plain.err_raise place h = refl
unless_err plain.err_clear place h = refl
unless_err plain.error_word place h = refl
unless_err no_term place h = refl

-- a term as a reference is what it is where it stands alone, as one
pub reference_alone : (env : Env) (y : plain.Term) (place : Place) → reference_of env y place ≡ read_reference (alone env place y) place
reference_alone env err_object place = refl
reference_alone env (plain.a_place x of bounds lends makes) place = refl
reference_alone env (plain.a_value n of) place = refl
reference_alone env (plain.a_routine space number w) place = sym (unless_err (called_alone env place None space number w) place (called_no_err env place None space number w))
reference_alone env (plain.a_method base space number w) place = sym (unless_err (called_alone env place (Some base) space number w) place (called_no_err env place (Some base) space number w))
reference_alone env (plain.a_function f text_form base) place =
    sym (unless_err (function_value env place f text_form base (function_takes f []) no_exprs) place (function_no_err env place f text_form base (function_takes f [])))
reference_alone env (a_host_member x m) place =
    sym (unless_err (read_alone place x m) place (either_no_err (m.least == 0) (member_read x m) (marked (record { rule = 25; place = place }) (also x no_exprs)) m.of (told_type m.of)))
reference_alone env plain.err_raise place = refl
reference_alone env plain.err_clear place = refl
reference_alone env plain.error_word place = refl
reference_alone env no_term place = refl

-- ---- operands

-- but for Err an operand is a value, or what an object gives way to
unfoldable pub not_err : Term → Type 0
not_err term.Err = ⊥
not_err x = Unit {0}

Splits : Env → Place → plain.Term → Type 0
Splits env place z = operand_of env z place ≡ read_operand (declared_in env.scope) (alone env place z) place

split_routine : (env : Env) (base : Option bound.Expr) (space : Space) (number : ℕ) (written : Written) (place : Place) → Splits env place (routine_term base space number written)
unfolding Splits
split_routine env None space number written place = refl
split_routine env (Some b) space number written place = refl

pub operand_split : (env : Env) (t : Tables) (x : Term) → not_err x → (y : plain.Term) (ps below : List Piece) → TermStands env t x y ps below → (place : Place)
    → operand_of env y place ≡ read_operand (declared_in env.scope) (alone env place y) place
unfolding not_err Splits
operand_split env t (term.Place kind of bounds lends makes) n y ps below h place = subst (Splits env place) (sym h.is) refl
operand_split env t (term.Value e) n y ps below h place = subst (Splits env place) (sym h.is) refl
operand_split env t (term.Routine r) n y ps below h place =
    subst (Splits env place) (sym h.routine.is) (split_routine env h.routine.base h.routine.space h.routine.number h.routine.written place)
operand_split env t (term.Property p) n y ps below h place =
    subst (Splits env place) (sym h.property.is) (split_routine env h.property.base (space_view p.space.now) h.property.number (written_view p.written) place)
operand_split env t (term.Function f) n y ps below h place = subst (Splits env place) (sym h.0.is) refl
operand_split env t (term.HostMember m) n y ps below h place = subst (Splits env place) (sym h.is) refl
operand_split env t (term.SheetMember m) n y ps below h place = subst (Splits env place) (sym h.0) refl
operand_split env t term.Err n y ps below h place = absurd n
operand_split env t term.ErrRaise n y ps below h place = subst (Splits env place) (sym h.0) refl
operand_split env t term.ErrClear n y ps below h place = subst (Splits env place) (sym h.0) refl
operand_split env t term.ErrorWord n y ps below h place = subst (Splits env place) (sym h.0) refl
operand_split env t term.Nothing n y ps below h place = subst (Splits env place) (sym h) refl

pub no_err : (x : Term) → ((x ≡ term.Err) → ⊥) → not_err x
unfolding not_err
no_err (term.Place kind of bounds lends makes) n = tt
no_err (term.Value v) n = tt
no_err (term.Routine r) n = tt
no_err (term.Property p) n = tt
no_err (term.Function f) n = tt
no_err (term.HostMember m) n = tt
no_err (term.SheetMember m) n = tt
no_err term.Err n = absurd (n refl)
no_err term.ErrRaise n = tt
no_err term.ErrClear n = tt
no_err term.ErrorWord n = tt
no_err term.Nothing n = tt

-- ---- what is pushed

pub pushes_none : (place : Place) (d : Drafted) → Pushes None place d d None
pushes_none place d = record { grown = grown_same d; stands = λ found below h. h }

pub pushes_some : (ending : Ending) (place : Place) (d e : Drafted) → e ≡ record d { pieces = put d.tables (node_of ending.kind place ending.of) d.pieces } → Pushes (Some ending) place d e (Some ending.of)
pushes_some ending place d e eq =
    let P : Drafted → Type 0 = λ x. Pushes (Some ending) place d x (Some ending.of) in
    subst P (sym eq) (record {
      grown = grown_pieces d (put d.tables (node_of ending.kind place ending.of) d.pieces);
      stands = λ found below h. record { made = expr h.made place (declared_view ending.of) (declared_view ending.of); is = h.is; operand = refl; on_top = h.ends (node_of ending.kind place ending.of) };
    })
