-- What stands on a stack stands there still when the tables of the draft grow.
use Rattle.std.proofs.Common.{◌≡◌, Bool, false, true, ℕ, ◌<◌, length, map, List, [], ◌∷◌, Option, None, Some, if◌then◌else◌, refl, sym, ap, subst, ◌∙◌, arith}
use Rattle.vba_base.specs.declared.place.Place.{Place}
use Rattle.vba_values.specs.Val.{Val}
use Rattle.vba_expression.specs.Tree.{Expr, Args, no_args, missing, plain, named}
use Rattle.vba_expression.specs.Nodes as nodes
use Rattle.bound_project.specs.declared.node.ArgumentNames.{ArgumentNames}
use Rattle.bound_project.specs.declared.node.LateName.{LateName}
use Rattle.bound_project.specs.declared.node.LateUse.{LateUse}
use Rattle.bound_project.specs.Project.{nowhere}
use Rattle.bound_project.specs.Expressions.{active_sheet, ByName}
use Rattle.bound_project.specs.Expressions as bound
use Rattle.bound_project.specs.Lists.{above, given_pieces}
use Rattle.bound_project.specs.View.{declared_view}
use Rattle.bound_project.specs.Pieces.{Piece, Sought, a_late, a_member, a_named_member, an_expr, Tables, by_name_in, flags, name_in, name_of}
use Rattle.bound_project.specs.Drafts.{Drafted, LateNamed, with_constant}
use Rattle.bound_project.proofs.Drafts.{Extends, by_name_same, constant_extends, late_named, names_named, node_named, put_same, sought_same}
use Rattle.vba_values.specs.Types as type
use Rattle.bound_forms.specs.Terms.{Env, a_host_member, expression_of}
use Rattle.bound_forms.specs.Terms as terms
use Rattle.bound_forms.specs.Operands.{place_told}
use Rattle.bound_forms.specs.ExpressionsBound.{arguments_rule, callee, givens, member_takes, term_of}
use Rattle.bound_calls.specs.declared.term.Term.{Term}
use Rattle.bound_calls.specs.declared.term.Term.TheVariants as term
use Rattle.bound_calls.specs.declared.term.HostMember.{HostMember}
use Rattle.bound_calls.specs.declared.term.Looked.{Looked}
use Rattle.bound_calls.specs.declared.term.Looked.TheVariants as looked
use Rattle.bound_calls.specs.declared.term.MemberCall.{MemberCall}
use Rattle.bound_calls.specs.declared.term.Tree.{Tree}
use Rattle.bound_calls.specs.declared.term.Refuser.{Refuser}
use Rattle.bound_calls.specs.declared.term.Refuser.TheVariants as refuser
use Rattle.bound_calls.specs.declared.term.Untaken.{Untaken}
use Rattle.bound_calls.specs.declared.term.Item.{Item}
use Rattle.bound_calls.specs.declared.term.Item.TheVariants as item
use Rattle.bound_calls.specs.Standing.{ArgumentsStand, LateStands, TakesMember, TermStands, TreeStands, MemberStands, NamesCame, UntakenStands, ValuesStand, looked_for, member_is, names_looked, names_told, refused_rule, Stands, TermNamed, AreNamed, ItemNamed, LookedNamed, MemberNamed, RefuserNamed, AllNamed, Grown, Base}

pub extends_same : (t : Tables) → Extends t t
extends_same t = record {
  constant_is = λ i lt. refl;
  order_is = λ i lt. refl;
  constants_more = omega arith;
  orders_more = omega arith;
}

pub extends_twice : (t u v : Tables) → Extends t u → Extends u v → Extends t v
extends_twice t u v e f = record {
  constant_is = λ i lt. f.constant_is i (omega (arith, e.constants_more)) ∙ e.constant_is i lt;
  order_is = λ i lt. f.order_is i (omega (arith, e.orders_more)) ∙ e.order_is i lt;
  constants_more = omega (arith, e.constants_more, f.constants_more);
  orders_more = omega (arith, e.orders_more, f.orders_more);
}

pub grown_same : (d : Drafted) → Grown d d
grown_same d = record { tables = extends_same d.tables; statements = refl; bodies = refl }

pub grown_twice : (d e f : Drafted) → Grown d e → Grown e f → Grown d f
grown_twice d e f g h = record {
  tables = extends_twice d.tables e.tables f.tables g.tables h.tables;
  statements = h.statements ∙ g.statements;
  bodies = h.bodies ∙ g.bodies;
}

-- only the pieces change
pub grown_pieces : (d : Drafted) (ps : List Piece) → Grown d (record d { pieces = ps })
grown_pieces d ps = record { tables = extends_same d.tables; statements = refl; bodies = refl }

-- one more constant
pub grown_constant : (d : Drafted) (v : Val) → Grown d (record d { tables = with_constant d.tables v })
grown_constant d v = record { tables = constant_extends d.tables v; statements = refl; bodies = refl }

pub term_named : (t u : Tables) → Extends t u → (x : Term) → TermNamed t x → TermNamed u x
term_named t u e (term.Place kind of bounds lends makes) h = node_named t u e kind h
term_named t u e (term.Value ending) h = node_named t u e ending.kind h
term_named t u e (term.HostMember m) h = omega (arith, e.constants_more)
term_named t u e (term.SheetMember m) h = omega (arith, e.constants_more)
term_named t u e x h = tt

are_named : (t u : Tables) → Extends t u → (names : Option ArgumentNames) → AreNamed t names → AreNamed u names
are_named t u e None h = tt
are_named t u e (Some by) h = names_named t u e by h

looked_named : (t u : Tables) → Extends t u → (l : Looked) → LookedNamed t l → LookedNamed u l
looked_named t u e (looked.Early names given) h = are_named t u e names h
looked_named t u e (looked.Late aim found) h = late_named t u e found h

-- names are told of a member that was looked up
pub names_are_named : (t : Tables) (l : Looked) → LookedNamed t l → AreNamed t (names_looked l)
names_are_named t (looked.Early names given) h = h
names_are_named t (looked.Late aim found) h = h.1.0

pub refuser_named : (t u : Tables) → Extends t u → (x : Refuser) → RefuserNamed t x → RefuserNamed u x
refuser_named t u e (refuser.Member m) h = omega (arith, e.constants_more)
refuser_named t u e (refuser.Behind m) h = omega (arith, e.constants_more)
refuser_named t u e x h = tt

pub item_named : (t u : Tables) → Extends t u → (x : Item) → ItemNamed t x → ItemNamed u x
item_named t u e (item.Tree x) h = term_named t u e x.term h
item_named t u e (item.Member x) h = (omega (arith, h.0, e.constants_more), looked_named t u e x.looked h.1)
item_named t u e (item.Untaken x) h = refuser_named t u e x.refuser h
item_named t u e x h = tt

pub all_named : (t u : Tables) → Extends t u → (xs : List Item) → AllNamed t xs → AllNamed u xs
all_named t u e [] h = tt
all_named t u e (x ∷ xs) h = (item_named t u e x h.0, all_named t u e xs h.1)

-- the name of a member stays
name_same : (t u : Tables) → Extends t u → (i : ℕ) → i < length t.constants → name_in u i ≡ name_in t i
name_same t u e i h = ap name_of (e.constant_is i h)

pub member_same : (t u : Tables) → Extends t u → (m : HostMember) → m.name < length t.constants → member_is t m ≡ member_is u m
member_same t u e m h = ap named (sym (name_same t u e m.name h))
  where
    named : List ℕ → terms.HostMember
    named n = record { name = n; of = declared_view m.of; least = m.least; greatest = m.greatest; late = m.is_late }

pub term_grows : (env : Env) (t u : Tables) → Extends t u → (x : Term) → TermNamed t x → (y : terms.Term) (ps below : List Piece) → TermStands env t x y ps below → TermStands env u x y ps below
term_grows env t u e (term.Place kind of bounds lends makes) k y ps below h = record { at = h.at; is = h.is; ends = λ n. put_same t u e n kind k ps ∙ h.ends n }
term_grows env t u e (term.Value ending) k y ps below h = record { made = h.made; is = h.is; ends = λ n. put_same t u e n ending.kind k ps ∙ h.ends n }
term_grows env t u e (term.Routine r) k y ps below h = h
term_grows env t u e (term.Property p) k y ps below h = h
term_grows env t u e (term.Function f) k y ps below h = h
term_grows env t u e (term.HostMember m) k y ps below h =
    record { object = h.object; is = h.is ∙ ap (λ z. a_host_member h.object z) (member_same t u e m k); on_top = h.on_top }
term_grows env t u e (term.SheetMember m) k y ps below h =
    (h.0 ∙ ap (λ z. a_host_member (expression_of active_sheet nowhere type.worksheet) z) (member_same t u e m k), h.1)
term_grows env t u e term.Err k y ps below h = h
term_grows env t u e term.ErrRaise k y ps below h = h
term_grows env t u e term.ErrClear k y ps below h = h
term_grows env t u e term.ErrorWord k y ps below h = h
term_grows env t u e term.Nothing k y ps below h = h

pub tree_grows : (env : Env) (t u : Tables) → Extends t u → (x : Tree) → TermNamed t x.term → (tree : Expr) (ps below : List Piece) → TreeStands env t x tree ps below → TreeStands env u x tree ps below
tree_grows env t u e x k tree ps below h =
    record { term_is = term_grows env t u e x.term k (term_of env tree) ps below h.term_is; place_is = h.place_is; name_is = h.name_is; qualifier_is = h.qualifier_is; leaf = h.leaf; declared_is = h.declared_is }

-- so do the names of its arguments, and the object whose member was looked up
pub told_same : (t u : Tables) → Extends t u → (names : Option ArgumentNames) → AreNamed t names → names_told u names ≡ names_told t names
told_same t u e None h = refl
told_same t u e (Some by) h = ap (λ (how : ByName). how.names) (by_name_same t u e by h)

looked_same : (t u : Tables) → Extends t u → (name : ℕ) (names : Option ArgumentNames) (given : ℕ) (object : bound.Expr) → name < length t.constants → AreNamed t names
    → looked_for u name (looked.Early names given) object ≡ looked_for t name (looked.Early names given) object
looked_same t u e name None given object h k = ap (λ (n : List ℕ). a_member object n given) (name_same t u e name h)
looked_same t u e name (Some by) given object h k =
    ap (λ (n : List ℕ). a_named_member object n (by_name_in u by) given) (name_same t u e name h) ∙ ap (λ (how : ByName). a_named_member object (name_in t name) how given) (by_name_same t u e by k)

values_grow : (env : Env) (t u : Tables) → Extends t u → (x : MemberCall) (names : Option ArgumentNames) (given : ℕ) → x.member.name < length t.constants → AreNamed t names → (object : bound.Expr) (gs : List terms.Given) (ps below : List Piece)
    → ValuesStand env t x names given object gs ps below → ValuesStand env u x names given object gs ps below
values_grow env t u e x names given h k object gs ps below s = record {
  made = s.made;
  values = s.values;
  written_is = s.written_is;
  count_is = s.count_is;
  on_top = s.on_top ∙ ap (λ (p : Piece). above (map an_expr s.made) (p ∷ below)) (sym (looked_same t u e x.member.name names given object h k));
}

late_grows : (env : Env) (t u : Tables) → Extends t u → (x : MemberCall) (aim : LateUse) (found : LateName) → LateNamed t found → (object : bound.Expr) (gs : List terms.Given) (ps below : List Piece)
    → LateStands env t x aim found object gs ps below → LateStands env u x aim found object gs ps below
late_grows env t u e x aim found h object gs ps below s = record {
  made = s.made;
  arguments = s.arguments;
  given_are = s.given_are ∙ ap (λ (ks : List ℕ). flags (length s.made) ks) (sym (e.order_is found.given h.1.1));
  name_is = s.name_is;
  count_is = s.count_is;
  on_top = s.on_top ∙ ap (λ (q : Sought). above (given_pieces q 0 s.made) (a_late object q ∷ below)) (sym (sought_same t u e aim found h));
}

arguments_grow : (l : Looked) (env : Env) (t u : Tables) → Extends t u → (x : MemberCall) → x.member.name < length t.constants → LookedNamed t l → (object : bound.Expr) (gs : List terms.Given) (ps below : List Piece)
    → ArgumentsStand l env t x object gs ps below → ArgumentsStand l env u x object gs ps below
arguments_grow (looked.Early names given) env t u e x h k object gs ps below s = values_grow env t u e x names given h k object gs ps below s
arguments_grow (looked.Late aim found) env t u e x h k object gs ps below s = late_grows env t u e x aim found k object gs ps below s

pub takes_member_as : (of_property : Bool) (env : Env) (place : Place) (x member other : terms.Term) → member ≡ other → TakesMember of_property env place x member → TakesMember of_property env place x other
takes_member_as false env place x member other same h = h ∙ same
takes_member_as true env place x member other same h = λ g gs. h g gs ∙ same

pub member_grows : (env : Env) (t u : Tables) → Extends t u → (x : MemberCall) → MemberNamed t x → (tree : Expr) (args : Args) (ps below : List Piece) → MemberStands env t x tree args ps below → MemberStands env u x tree args ps below
member_grows env t u e x k tree args ps below h =
    let N : List (List ℕ) → Type 0 = λ (names : List (List ℕ)). NamesCame names x.named (givens env args) in
    record {
      object = h.object;
      is = takes_member_as x.of_property env (place_told tree) (callee env tree (term_of env tree)) (a_host_member h.object (member_is t x.member)) (a_host_member h.object (member_is u x.member))
          (ap (λ z. a_host_member h.object z) (member_same t u e x.member k.0)) h.is;
      place_is = h.place_is;
      classes = h.classes;
      names = subst N (sym (told_same t u e (names_looked x.looked) (names_are_named t x.looked k.1))) h.names;
      pushed = arguments_grow x.looked env t u e x k.0 k.1 h.object (givens env args) ps below h.pushed;
    }

-- what doesn't take its arguments
rule_same : (t u : Tables) → Extends t u → (x : Refuser) → RefuserNamed t x → (gs : List terms.Given) → refused_rule u x gs ≡ refused_rule t x gs
rule_same t u e (refuser.Procedure values ps of) h gs = refl
rule_same t u e (refuser.Value of bounds) h gs = refl
rule_same t u e (refuser.Called of) h [] = refl
rule_same t u e (refuser.Called of) h (g ∷ gs) = refl
rule_same t u e (refuser.Member m) h gs = ap (λ (y : terms.HostMember). if member_takes y gs then None else arguments_rule y) (sym (member_same t u e m h))
rule_same t u e (refuser.Behind m) h [] = refl
rule_same t u e (refuser.Behind m) h (g ∷ gs) = ap (λ (y : terms.HostMember). if member_takes y (g ∷ gs) then None else arguments_rule y) (sym (member_same t u e m h))
rule_same t u e refuser.Bare h [] = refl
rule_same t u e refuser.Bare h (g ∷ gs) = refl
rule_same t u e (refuser.Led rule count) h gs = refl

untaken_grows : (env : Env) (t u : Tables) → Extends t u → (x : Untaken) → RefuserNamed t x.refuser → (tree : Expr) (ps below : List Piece) → UntakenStands env t x tree ps below → UntakenStands env u x tree ps below
untaken_grows env t u e x k tree ps below h =
    record { place_is = h.place_is; before = h.before; before_long = h.before_long; wrong = λ gs rule f. h.wrong gs rule (sym (rule_same t u e x.refuser k gs) ∙ f); on_top = h.on_top }

pub stands_grows : (env : Env) (t u : Tables) → Extends t u → (xs : List Item) → AllNamed t xs → (is : List nodes.Item) (ps : List Piece) (base : Base) → Stands env t xs is ps base → Stands env u xs is ps base
stands_grows env t u e [] k is ps base h = h
stands_grows env t u e (item.Tree x ∷ xs) k [] ps base h = absurd h
stands_grows env t u e (item.Tree x ∷ xs) k (nodes.arguments args ∷ is) ps base h = absurd h
stands_grows env t u e (item.Tree x ∷ xs) k (nodes.tree tree ∷ is) ps base h = (
  h.0,
  (
    tree_grows env t u e x k.0 tree ps h.0 h.1.0,
    stands_grows env t u e xs k.1 is h.0 base h.1.1,
  ),
)
stands_grows env t u e (item.Operand x ∷ xs) k [] ps base h = absurd h
stands_grows env t u e (item.Operand x ∷ xs) k (nodes.arguments args ∷ is) ps base h = absurd h
stands_grows env t u e (item.Operand x ∷ xs) k (nodes.tree tree ∷ is) ps base h = (h.0, (h.1.0, stands_grows env t u e xs k.1 is h.0 base h.1.1))
stands_grows env t u e (item.Call x ∷ xs) k [] ps base h = absurd h
stands_grows env t u e (item.Call x ∷ xs) k (nodes.tree tree ∷ is) ps base h = absurd h
stands_grows env t u e (item.Call x ∷ xs) k (nodes.arguments args ∷ []) ps base h = absurd h
stands_grows env t u e (item.Call x ∷ xs) k (nodes.arguments args ∷ nodes.arguments more ∷ is) ps base h = absurd h
stands_grows env t u e (item.Call x ∷ xs) k (nodes.arguments args ∷ nodes.tree tree ∷ is) ps base h = (h.0, (h.1.0, stands_grows env t u e xs k.1 is h.0 base h.1.1))
stands_grows env t u e (item.Listed x ∷ xs) k [] ps base h = absurd h
stands_grows env t u e (item.Listed x ∷ xs) k (nodes.tree tree ∷ is) ps base h = absurd h
stands_grows env t u e (item.Listed x ∷ xs) k (nodes.arguments args ∷ is) ps base h = (h.0, (h.1.0, stands_grows env t u e xs k.1 is h.0 base h.1.1))
stands_grows env t u e (item.Indexed x ∷ xs) k [] ps base h = absurd h
stands_grows env t u e (item.Indexed x ∷ xs) k (nodes.tree tree ∷ is) ps base h = absurd h
stands_grows env t u e (item.Indexed x ∷ xs) k (nodes.arguments args ∷ []) ps base h = absurd h
stands_grows env t u e (item.Indexed x ∷ xs) k (nodes.arguments args ∷ nodes.arguments more ∷ is) ps base h = absurd h
stands_grows env t u e (item.Indexed x ∷ xs) k (nodes.arguments args ∷ nodes.tree tree ∷ is) ps base h = (h.0, (h.1.0, stands_grows env t u e xs k.1 is h.0 base h.1.1))
stands_grows env t u e (item.Function x ∷ xs) k [] ps base h = absurd h
stands_grows env t u e (item.Function x ∷ xs) k (nodes.tree tree ∷ is) ps base h = absurd h
stands_grows env t u e (item.Function x ∷ xs) k (nodes.arguments args ∷ []) ps base h = absurd h
stands_grows env t u e (item.Function x ∷ xs) k (nodes.arguments args ∷ nodes.arguments more ∷ is) ps base h = absurd h
stands_grows env t u e (item.Function x ∷ xs) k (nodes.arguments args ∷ nodes.tree tree ∷ is) ps base h = (h.0, (h.1.0, stands_grows env t u e xs k.1 is h.0 base h.1.1))
stands_grows env t u e (item.Member x ∷ xs) k [] ps base h = absurd h
stands_grows env t u e (item.Member x ∷ xs) k (nodes.tree tree ∷ is) ps base h = absurd h
stands_grows env t u e (item.Member x ∷ xs) k (nodes.arguments args ∷ []) ps base h = absurd h
stands_grows env t u e (item.Member x ∷ xs) k (nodes.arguments args ∷ nodes.arguments more ∷ is) ps base h = absurd h
stands_grows env t u e (item.Member x ∷ xs) k (nodes.arguments args ∷ nodes.tree tree ∷ is) ps base h =
    (h.0, (member_grows env t u e x k.0 tree args ps h.0 h.1.0, stands_grows env t u e xs k.1 is h.0 base h.1.1))
stands_grows env t u e (item.Named x ∷ xs) k [] ps base h = absurd h
stands_grows env t u e (item.Named x ∷ xs) k (nodes.tree tree ∷ is) ps base h = absurd h
stands_grows env t u e (item.Named x ∷ xs) k (nodes.arguments no_args ∷ is) ps base h = absurd h
stands_grows env t u e (item.Named x ∷ xs) k (nodes.arguments (missing before comma) ∷ is) ps base h = absurd h
stands_grows env t u e (item.Named x ∷ xs) k (nodes.arguments (plain before comma tree) ∷ is) ps base h = absurd h
stands_grows env t u e (item.Named x ∷ xs) k (nodes.arguments (named before comma name mark tree) ∷ is) ps base h =
    (h.0, (h.1.0, stands_grows env t u e xs k.1 (nodes.arguments before ∷ is) h.0 base h.1.1))
stands_grows env t u e (item.Gathered ∷ xs) k [] ps base h = absurd h
stands_grows env t u e (item.Gathered ∷ xs) k (nodes.tree tree ∷ is) ps base h = absurd h
stands_grows env t u e (item.Gathered ∷ xs) k (nodes.arguments no_args ∷ is) ps base h = absurd h
stands_grows env t u e (item.Gathered ∷ xs) k (nodes.arguments (missing before comma) ∷ is) ps base h =
    (h.0, (h.1.0, stands_grows env t u e xs k.1 (nodes.arguments before ∷ is) h.0 base h.1.1))
stands_grows env t u e (item.Gathered ∷ xs) k (nodes.arguments (named before comma name mark tree) ∷ is) ps base h = absurd h
stands_grows env t u e (item.Gathered ∷ xs) k (nodes.arguments (plain before comma tree) ∷ is) ps base h =
    (h.0, (h.1.0, stands_grows env t u e xs k.1 (nodes.arguments before ∷ is) h.0 base h.1.1))
stands_grows env t u e (item.Untaken x ∷ xs) k [] ps base h = absurd h
stands_grows env t u e (item.Untaken x ∷ xs) k (nodes.tree tree ∷ is) ps base h = absurd h
stands_grows env t u e (item.Untaken x ∷ xs) k (nodes.arguments (missing before comma) ∷ is) ps base h = absurd h
stands_grows env t u e (item.Untaken x ∷ xs) k (nodes.arguments (plain before comma tree) ∷ is) ps base h = absurd h
stands_grows env t u e (item.Untaken x ∷ xs) k (nodes.arguments (named before comma name mark tree) ∷ is) ps base h = absurd h
stands_grows env t u e (item.Untaken x ∷ xs) k (nodes.arguments no_args ∷ []) ps base h = absurd h
stands_grows env t u e (item.Untaken x ∷ xs) k (nodes.arguments no_args ∷ nodes.arguments more ∷ is) ps base h = absurd h
stands_grows env t u e (item.Untaken x ∷ xs) k (nodes.arguments no_args ∷ nodes.tree tree ∷ is) ps base h =
    (h.0, (untaken_grows env t u e x k.0 tree ps h.0 h.1.0, stands_grows env t u e xs k.1 is h.0 base h.1.1))
stands_grows env t u e (item.Unlisted ∷ xs) k [] ps base h = absurd h
stands_grows env t u e (item.Unlisted ∷ xs) k (nodes.tree tree ∷ is) ps base h = absurd h
stands_grows env t u e (item.Unlisted ∷ xs) k (nodes.arguments (missing before comma) ∷ is) ps base h = absurd h
stands_grows env t u e (item.Unlisted ∷ xs) k (nodes.arguments (plain before comma tree) ∷ is) ps base h = absurd h
stands_grows env t u e (item.Unlisted ∷ xs) k (nodes.arguments (named before comma name mark tree) ∷ is) ps base h = absurd h
stands_grows env t u e (item.Unlisted ∷ xs) k (nodes.arguments no_args ∷ is) ps base h = stands_grows env t u e xs k.1 is ps base h
stands_grows env t u e (item.Shape s ∷ xs) k [] ps base h = absurd h
stands_grows env t u e (item.Shape s ∷ xs) k (nodes.tree tree ∷ is) ps base h = absurd h
stands_grows env t u e (item.Shape s ∷ xs) k (nodes.arguments no_args ∷ is) ps base h = absurd h
stands_grows env t u e (item.Shape s ∷ xs) k (nodes.arguments (missing before comma) ∷ is) ps base h = (h.0, (h.1.0, stands_grows env t u e xs k.1 (nodes.arguments before ∷ is) h.0 base h.1.1))
stands_grows env t u e (item.Shape s ∷ xs) k (nodes.arguments (plain before comma tree) ∷ is) ps base h = (h.0, (h.1.0, stands_grows env t u e xs k.1 (nodes.arguments before ∷ is) h.0 base h.1.1))
stands_grows env t u e (item.Shape s ∷ xs) k (nodes.arguments (named before comma name mark tree) ∷ is) ps base h = (h.0, (h.1.0, stands_grows env t u e xs k.1 (nodes.arguments before ∷ is) h.0 base h.1.1))
