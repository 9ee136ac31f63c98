-- Calls of late-bound members.
use Rattle.std.proofs.lemmas.List.{length-map}
use Rattle.std.proofs.Common.{◌≡◌, ℕ, ◌<◌, ◌+◌, ◌==◌, Bool, true, false, ◌&&◌, ◌||◌, not, List, [], ◌∷◌, ◌++◌, length, Option, Some, None, if◌then◌else◌, refl, sym, ap, subst, ◌∙◌, arith, length-append}
use Rattle.std.specs.Prelude.{option_and_then, option_map, slice_get, unwrap_or}
use Rattle.vba_base.specs.declared.place.Place.{Place}
use Rattle.vba_values.specs.Types as type
use Rattle.bound_project.specs.declared.node.LateName.{LateName}
use Rattle.bound_project.specs.declared.node.LateUse.{LateUse}
use Rattle.bound_project.specs.declared.node.LateUse.TheVariants.{Reading}
use Rattle.bound_project.specs.declared.node.ArgumentNames.{ArgumentNames}
use Rattle.bound_project.specs.declared.node.Node.{Node}
use Rattle.bound_project.specs.declared.node.NodeKind.TheVariants as kinds
use Rattle.bound_project.specs.declared.declared_type.DeclaredType.{DeclaredType}
use Rattle.bound_project.specs.View.{declared_view}
use Rattle.bound_project.specs.Expressions.{expr_given, late_member}
use Rattle.bound_project.specs.Expressions as bound
use Rattle.bound_project.specs.Lists.{above, given_of, given_pieces}
use Rattle.bound_project.specs.Pieces.{GivenArgument, Piece, Tables, a_given, a_late, by_name_in, expr_of, flags, flags_in, late_put, name_in, of_place, of_value, order_in, place_there, put, put_kind, sought_in, value_there, which_there}
use Rattle.bound_project.specs.Drafts.{Drafted, LateNamed, NodeNamed, with_order}
use Rattle.bound_project.proofs.Drafts.{order_extends, names_named}
use Rattle.bound_project.proofs.Lists.{late_is}
use Rattle.bound_calls.specs.bound_forms.specs.Terms.{Env, Given, given_by_name, is_user_type}
use Rattle.bound_calls.specs.bound_forms.specs.Terms as terms
use Rattle.bound_calls.specs.bound_forms.specs.Operands.{argument_of, place_told}
use Rattle.bound_calls.specs.bound_forms.specs.ExpressionsBound.{are_named_right, early_called, givens, late_argument, late_arguments, late_called, member_called, takes_names, term_of}
use Rattle.bound_calls.specs.bound_declarations.specs.constant_values.specs.declared_names.specs.binder.specs.Classes.{has_class}
use Rattle.bound_calls.specs.bound_declarations.specs.constant_values.specs.declared_names.specs.binder.specs.Options.{from_two}
use Rattle.bound_calls.specs.declared.term.Ending.{Ending}
use Rattle.bound_calls.specs.declared.term.Item.TheVariants as item
use Rattle.bound_calls.specs.declared.term.Looked.{Looked}
use Rattle.bound_calls.specs.declared.term.Looked.TheVariants as looked
use Rattle.bound_calls.specs.declared.term.MemberCall.{MemberCall}
use Rattle.bound_calls.specs.declared.term.Term.{Term}
use Rattle.bound_calls.specs.declared.term.Tree.{Tree}
use Rattle.bound_calls.specs.Calls.{lent_in, node_of}
use Rattle.bound_calls.specs.InOrder.{AddsOrder}
use Rattle.bound_calls.specs.Indexing.{AddsMissing}
use Rattle.bound_calls.specs.Standing.{ArgumentsStand, LateStands, LookedNamed, MemberNamed, NamesCame, TermNamed, TermStands, argument_there, member_is, missing_given, missing_value, names_looked, names_told}
use Rattle.bound_calls.proofs.Arguing.{lends_nothing, lent_is, lent_named, nothing_lent}
use Rattle.bound_calls.proofs.Growing.{grown_pieces, grown_twice}
use Rattle.bound_members.specs.Late.{LateCame, LendsLate, LooksUpLate, PushesLate, PushesLateValue, flag_told, lent_late}
use Rattle.bound_members.specs.MemberCalls.{AddsValue, EndsCall, PushesWritten, missing_pushed}
use Rattle.bound_members.specs.Names.{TellsNames}
use Rattle.bound_members.proofs.LateArguments.{all_late, late_is_given, late_is_missing, late_long, late_pushed, marked_is_given, place_is_given, value_is_given, which_are}
use Rattle.bound_members.proofs.MemberSteps.{adds_skipped, adds_value, called_late}
use Rattle.bound_members.proofs.Naming.{came_given, named_right}

-- ---- a late-bound member is looked up

pub looks_up_late : (name arguments number : ℕ) (names : ArgumentNames) (order : List ℕ) (d m e : Drafted) → name < length d.tables.constants → TellsNames d m (Some names) → AddsOrder order m e number
    → LooksUpLate name d e (record { name = name; names = names; arguments = arguments; given = number })
looks_up_late name arguments number names order d m e h told o =
    let found : LateName = record { name = name; names = names; arguments = arguments; given = number } in
    let P : Drafted → Type 0 = λ (x : Drafted). LooksUpLate name d x found in
    let after : Drafted = record m { tables = with_order m.tables order } in
    let grown = order_extends m.tables order in
    subst P (sym o.draft_is) (record {
      grown = grown_twice d m after told.grown (record { tables = grown; statements = refl; bodies = refl });
      pieces = told.pieces;
      named = (omega (arith, h, told.grown.tables.constants_more, grown.constants_more), (names_named m.tables after.tables grown names told.named, omega (arith, o.number_is, length-append m.tables.orders (order ∷ []))));
      by_name = refl;
    })

-- ---- one more argument

-- a place is lent
pub lends_late : (aim : LateUse) (m : LateName) (i : ℕ) (lent : Ending) (place at : Place) (d f e : Drafted) → f ≡ record d { pieces = put d.tables (node_of lent.kind place lent.of) d.pieces }
    → e ≡ record f { pieces = put f.tables (node_of (kinds.LatePlace aim m i) at lent.of) f.pieces } → LendsLate aim m i lent.kind d e
lends_late aim m i lent place at d f e first second =
    let n = node_of lent.kind place lent.of in
    let k = node_of (kinds.LatePlace aim m i) at lent.of in
    let mid : Drafted = record d { pieces = put d.tables n d.pieces } in
    let last : Drafted = record mid { pieces = put d.tables k mid.pieces } in
    let is : e ≡ last = second ∙ ap (λ (x : Drafted). record x { pieces = put x.tables k x.pieces }) first in
    let P : Drafted → Type 0 = λ (x : Drafted). LendsLate aim m i lent.kind d x in
    subst P (sym is) (record {
      grown = grown_twice d mid last (grown_pieces d (put d.tables n d.pieces)) (grown_pieces mid (put d.tables k mid.pieces));
      stands = λ x below ends. ap (λ (st : List Piece). of_place (λ y. a_given (place_there y) (sought_in d.tables aim m) i) st) (ends n);
    })

-- what a late-bound member is looked up by stays named where only a piece more is there
pub still_named : (d f : Drafted) (n : Node) (m : LateName) → f ≡ record d { pieces = put d.tables n d.pieces } → LateNamed d.tables m → LateNamed f.tables m
still_named d f n m is h = let P : Drafted → Type 0 = λ (x : Drafted). LateNamed x.tables m in subst P (sym is) h

pub missing_named : (d f : Drafted) (m : LateName) → f ≡ missing_pushed d → LateNamed d.tables m → LateNamed f.tables m
missing_named d f m is h = let P : Drafted → Type 0 = λ (x : Drafted). LateNamed x.tables m in subst P (sym is) h

lent_or : (v : type.Declared) (lent other : Ending) → (if is_user_type v then None else Some lent) ≡ Some other → (is_user_type v ≡ false) × (lent ≡ other)
lent_or v lent other h = at (is_user_type v) refl
  where
    at : (b : Bool) → is_user_type v ≡ b → (is_user_type v ≡ false) × (lent ≡ other)
    at true is = let e : None ≡ Some other = ap (λ (c : Bool). if c then None else Some lent) (sym is) ∙ h in absurd cc
    at false is = let e : Some lent ≡ Some other = ap (λ (c : Bool). if c then None else Some lent) (sym is) ∙ h in (is, ap (λ (o : Option Ending). unwrap_or o lent) e)

lent_then : (o : Option Ending) (lent : Ending) → option_and_then (λ (l : Ending). if is_user_type (declared_view l.of) then None else Some l) o ≡ Some lent → (o ≡ Some lent) × (is_user_type (declared_view lent.of) ≡ false)
lent_then None lent h = let e : None ≡ Some lent = h in absurd cc
lent_then (Some other) lent h =
    let r = lent_or (declared_view other.of) other lent h in
    let U : Ending → Type 0 = λ (l : Ending). is_user_type (declared_view l.of) ≡ false in
    (ap (λ (l : Ending). Some l) r.1, subst U r.1 r.0)

pub late_lent_named : (t : Tables) (x : Term) (lent : Ending) → lent_late x ≡ Some lent → TermNamed t x → NodeNamed t lent.kind
late_lent_named t x lent h k = lent_named t x lent (lent_then (lent_in x) lent h).0 k

pub pushes_late_place : (aim : LateUse) (m : LateName) (i : ℕ) (y : Tree) (lent : Ending) (d e : Drafted) → lent_late y.term ≡ Some lent → LendsLate aim m i lent.kind d e → PushesLate aim m i y d e
pushes_late_place aim m i y lent d e h l =
    let r = lent_then (lent_in y.term) lent h in
    let at = lent_is y.term lent r.0 in
    record {
      grown = l.grown;
      stands = λ env tree below k.
          let A : Term → Type 0 = λ z. TermStands env d.tables z (term_of env tree) d.pieces below in
          let s = subst A at.1.1 k.term_is in
          record {
            made = place_there s.at;
            is = λ name. late_is_given env tree name (place_there s.at) (λ rest. place_is_given env (term_of env tree) s.at (declared_view lent.of) at.0 at.1.0 (place_told tree) rest s.is r.1);
            there = refl;
            on_top = l.stands s.at below s.ends;
          };
    }

-- and the value of what isn't
pub pushes_late_value : (aim : LateUse) (m : LateName) (i : ℕ) (y : Tree) (place : Place) (of : DeclaredType) (d f e : Drafted) → PushesWritten y d f
    → e ≡ record f { pieces = put f.tables (node_of (kinds.LateValue aim m i) place of) f.pieces } → PushesLateValue aim m i y d e
pushes_late_value aim m i y place of d f e w eq =
    let P : Drafted → Type 0 = λ (x : Drafted). PushesLateValue aim m i y d x in
    let n = node_of (kinds.LateValue aim m i) place of in
    let after : Drafted = record f { pieces = put f.tables n f.pieces } in
    subst P (sym eq) (record {
      grown = grown_twice d f after w.grown (grown_pieces f (put f.tables n f.pieces));
      stands = λ env tree below k.
          let g = w.stands env tree below k in
          record { made = g.made; is = g.is; there = g.there; on_top = ap (λ (st : List Piece). of_value (λ x. a_given (value_there x) (sought_in f.tables aim m) i) st) g.on_top };
    })

late_marked : (env : Env) (t : Tables) (x : Term) (y : terms.Term) (ps below : List Piece) (place : Place) (rest : bound.Given) (o : Option Ending) → lent_in x ≡ o
    → option_and_then (λ (l : Ending). if is_user_type (declared_view l.of) then None else Some l) o ≡ None → TermStands env t x y ps below
    → late_argument env y place rest ≡ option_map (λ (e : bound.Expr). expr_given e rest) (argument_of env type.variant y place)
late_marked env t x y ps below place rest None is h s = value_is_given env y place rest (lends_nothing env t x y ps below (nothing_lent x is) s)
late_marked env t x y ps below place rest (Some lent) is h s =
    let at = lent_is x lent is in
    let A : Term → Type 0 = λ z. TermStands env t z y ps below in
    let k = subst A at.1.1 s in
    marked_is_given env y k.at (declared_view lent.of) at.0 at.1.0 place rest k.is (is_user (is_user_type (declared_view lent.of)) lent h)
  where
    is_user : (b : Bool) (lent : Ending) → (if b then None else Some lent) ≡ None → b ≡ true
    is_user true lent h = refl
    is_user false lent h = let e : Some lent ≡ None = h in absurd cc

pub pushes_late : (aim : LateUse) (m : LateName) (i : ℕ) (y : Tree) (d e : Drafted) → lent_late y.term ≡ None → PushesLateValue aim m i y d e → PushesLate aim m i y d e
pushes_late aim m i y d e h v = record {
  grown = v.grown;
  stands = λ env tree below k.
      let g = v.stands env tree below k in
      record {
        made = value_there g.made;
        is = λ name. late_is_given env tree name (value_there g.made) (λ rest.
            late_marked env d.tables y.term (term_of env tree) d.pieces below (place_told tree) rest (lent_in y.term) refl h k.term_is ∙ ap (λ (o : Option bound.Expr). option_map (λ (x : bound.Expr). expr_given x rest) o) g.is);
        there = g.there;
        on_top = g.on_top;
      };
}

pub as_late : (l : Looked) (aim : LateUse) (found : LateName) (env : Env) (t : Tables) (x : MemberCall) (object : bound.Expr) (gs : List Given) (ps below : List Piece) → l ≡ looked.Late aim found → ArgumentsStand l env t x object gs ps below
    → LateStands env t x aim found object gs ps below
as_late l aim found env t x object gs ps below is h = subst (λ (k : Looked). ArgumentsStand k env t x object gs ps below) is h

from_late : (l : Looked) (aim : LateUse) (found : LateName) (env : Env) (t : Tables) (x : MemberCall) (object : bound.Expr) (gs : List Given) (ps below : List Piece) → l ≡ looked.Late aim found
    → LateStands env t x aim found object gs ps below → ArgumentsStand l env t x object gs ps below
from_late l aim found env t x object gs ps below is h = subst (λ (k : Looked). ArgumentsStand k env t x object gs ps below) (sym is) h

-- what a late-bound member is looked up by is named
pub found_named : (t : Tables) (x : MemberCall) (aim : LateUse) (found : LateName) → x.looked ≡ looked.Late aim found → MemberNamed t x → LateNamed t found
found_named t x aim found is k = subst (λ (l : Looked). LookedNamed t l) is k.1

pub adds_late : (x : MemberCall) (y : Tree) (aim : LateUse) (found : LateName) (count named : ℕ) (d e : Drafted) → count ≡ x.count + 1 → x.looked ≡ looked.Late aim found → MemberNamed d.tables x
    → flag_told (slice_get (order_in d.tables found.given) x.count) ≡ true → PushesLate aim found x.count y d e → AddsValue x y named d e (record x { count = count; named = named })
adds_late x y aim found count named d e c is k told p =
    let named_there = found_named d.tables x aim found is k in
    adds_value x y count x.written named d e p.grown k (λ env a name gs object ps below tree s.
    let g = p.stands env a ps tree in
    let z : MemberCall = record x { count = count; named = named } in
    let flag : argument_there g.made ≡ flag_told (slice_get (order_in e.tables found.given) x.count) =
    g.there ∙ sym told ∙ ap (λ (ks : List ℕ). flag_told (slice_get ks x.count)) (sym (p.grown.tables.order_is found.given named_there.1.1)) in
    from_late x.looked aim found env e.tables z object (gs ++ record { name = name; term = Some (term_of env a); place = place_told a } ∷ []) e.pieces below is
    (late_pushed env e.tables x aim found count x.written named c object gs (record { name = name; term = Some (term_of env a); place = place_told a }) g.made ps e.pieces below
    (as_late x.looked aim found env e.tables x object gs ps below is s) (g.is name) flag g.on_top))

-- and one that isn't written
pub skips_late : (x : MemberCall) (aim : LateUse) (found : LateName) (count : ℕ) (place : Place) (of : DeclaredType) (d f e : Drafted) → count ≡ x.count + 1 → x.looked ≡ looked.Late aim found → MemberNamed d.tables x → x.named ≡ 0
    → flag_told (slice_get (order_in d.tables found.given) x.count) ≡ false → f ≡ missing_pushed d → e ≡ record f { pieces = put f.tables (node_of (kinds.LateValue aim found x.count) place of) f.pieces }
    → AddsMissing (item.Member x) d e (item.Member (record x { count = count }))
skips_late x aim found count place of d f e c is k none told first second =
    let n = node_of (kinds.LateValue aim found x.count) place of in
    let qs = a_given (value_there missing_value) (sought_in d.tables aim found) x.count ∷ d.pieces in
    let same : e ≡ record d { pieces = qs } = second ∙ ap (λ (z : Drafted). record z { pieces = put z.tables n z.pieces }) first in
    let P : Drafted → Type 0 = λ (z : Drafted). AddsMissing (item.Member x) d z (item.Member (record x { count = count })) in
    subst P (sym same) (adds_skipped x count d qs k none (λ env gs object below s.
    from_late x.looked aim found env d.tables (record x { count = count }) object (gs ++ missing_given ∷ []) qs below is
    (late_pushed env d.tables x aim found count x.written x.named c object gs missing_given (value_there missing_value) d.pieces qs below (as_late x.looked aim found env d.tables x object gs d.pieces below is s) (late_is_missing env) (sym told) refl)))

-- ---- arguments end

-- what came is what a late-bound member was looked up by
pub record LateGiven (env : Env) (t : Tables) (x : MemberCall) (found : LateName) (gs : List Given) (made : List GivenArgument) : Type 0 where
  pub by_name : given_by_name gs ≡ Some (by_name_in t found.names)
  pub arguments : late_arguments env gs ≡ Some (given_of made)
  pub written : flags_in t found ≡ which_there (given_of made)
  pub count : found.arguments ≡ length made
  pub long : length gs ≡ x.count

pub late_given : (env : Env) (t : Tables) (x : MemberCall) (aim : LateUse) (found : LateName) (object : bound.Expr) (gs : List Given) (ps below : List Piece) → LateCame t x found → NamesCame (names_told t (Some found.names)) x.named gs
    → (s : LateStands env t x aim found object gs ps below) → LateGiven env t x found gs s.made
late_given env t x aim found object gs ps below came names s =
    let how = by_name_in t found.names in
    let all : x.named ≡ length how.names = came.all ∙ sym (length-map (order_in t found.names.order) (name_in t)) in
    let long : length gs ≡ x.count = omega (arith, s.count_is, late_long env gs s.made s.arguments) in
    let count : found.arguments ≡ length s.made = sym came.arguments ∙ s.count_is in
    record {
      by_name = came_given how.names x.named how.before gs all (long ∙ came.count) names;
      arguments = all_late env gs s.made s.arguments;
      written = ap (λ (n : ℕ). flags n (order_in t found.given)) count ∙ sym s.given_are ∙ sym (which_are s.made);
      count = count;
      long = long;
    }

late_called_is : (env : Env) (object : bound.Expr) (m : terms.HostMember) (by : bound.ByName) (given : bound.Given) (gs : List Given) → given_by_name gs ≡ Some by → late_arguments env gs ≡ Some given
    → late_called env object m gs ≡ Some (late_member object m.name by given)
late_called_is env object m by given gs h k =
    let made : Option bound.ByName → Option bound.Given → Option bound.Node = λ o p. from_two (λ (how : bound.ByName) (args : bound.Given). late_member object m.name how args) o p in
    ap (λ (o : Option bound.ByName). made o (late_arguments env gs)) h ∙ ap (λ (p : Option bound.Given). made (Some by) p) k

late_member_called : (env : Env) (t : Tables) (x : MemberCall) (object : bound.Expr) (gs : List Given) → has_class env.scope.spaces ≡ x.has_class → length gs ≡ x.count → (x.member.is_late || (x.has_class && not (x.count == 0))) ≡ true
    → are_named_right (member_is t x.member) gs ≡ true → member_called env object (member_is t x.member) gs ≡ late_called env object (member_is t x.member) gs
late_member_called env t x object gs known long late right =
    let m = member_is t x.member in
    let called = late_called env object m gs in
    ap (λ (b : Bool). if not b then early_called env object m gs else if are_named_right m gs then called else None) (called_late env t x gs known long ∙ late) ∙ ap (λ (b : Bool). if b then called else None) right

late_ends : (t : Tables) (n : Node) (found : LateName) (object : bound.Expr) (args : List GivenArgument) (ps below : List Piece) → found.arguments ≡ length args → flags_in t found ≡ which_there (given_of args)
    → ps ≡ above (given_pieces (sought_in t Reading found) 0 args) (a_late object (sought_in t Reading found) ∷ below)
    → put_kind t n (kinds.LateMember found) ps ≡ expr_of n (late_member object (name_in t found.name) (by_name_in t found.names) (given_of args)) ∷ below
late_ends t n found object args ps below count written top =
    let s = sought_in t Reading found in
    ap (λ (st : List Piece). late_put n s found.arguments st) top ∙ late_is s (λ x given. expr_of n (late_member x s.name s.by given)) found.arguments object args below count written

pub late_kind_ends : (x : MemberCall) (t : Tables) (found : LateName) → x.looked ≡ looked.Late Reading found → (x.member.is_late || (x.has_class && not (x.count == 0))) ≡ true → LateCame t x found
    → (not (x.named == 0) && not (takes_names (member_is t x.member) (by_name_in t found.names))) ≡ false → EndsCall t x (kinds.LateMember found)
late_kind_ends x t found is late came right = record {
  named = λ named. found_named t x Reading found is named;
  stands = λ env e args ps below s.
      let gs = givens env args in
      let m = member_is t x.member in
      let how = by_name_in t found.names in
      let N : Looked → Type 0 = λ (l : Looked). NamesCame (names_told t (names_looked l)) x.named gs in
      let v = as_late x.looked Reading found env t x s.object gs ps below is s.pushed in
      let names = subst N is s.names in
      let g = late_given env t x Reading found s.object gs ps below came names v in
      let name : name_in t found.name ≡ m.name = ap (name_in t) v.name_is in
      record {
        made = late_member s.object m.name how (given_of v.made);
        is = late_member_called env t x s.object gs s.classes g.long late (named_right m how how.names x.named gs g.by_name names right) ∙ late_called_is env s.object m how (given_of v.made) gs g.by_name g.arguments;
        ends = λ n. late_ends t n found s.object v.made ps below g.count g.written v.on_top ∙ ap (λ (word : List ℕ). expr_of n (late_member s.object word how (given_of v.made)) ∷ below) name;
      };
}
