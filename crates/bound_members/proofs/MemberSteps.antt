-- Calls of members.
use Rattle.std.proofs.lemmas.List.{length-map, map-append}
use Rattle.std.proofs.Common.{◌≡◌, ◌≢◌, Bor, ℕ, ◌<◌, ◌+◌, ◌==◌, Bool, true, false, ◌&&◌, ◌||◌, not, List, [], ◌∷◌, ◌++◌, map, length, Option, Some, None, if◌then◌else◌, refl, sym, ap, subst, ◌∙◌, arith, length-append, ne_eqb}
use Rattle.std.specs.Prelude.{option_map, unwrap_or}
use Rattle.vba_base.specs.declared.place.Place.{Place}
use Rattle.vba_values.specs.Types as type
use Rattle.vba_lexer.specs.declared.token.Token.{Token}
use Rattle.vba_expression.specs.Tree.{Expr, no_args, plain}
use Rattle.vba_expression.specs.Tree as tree_of
use Rattle.vba_words.specs.declared.identifier.Identifier.{Identifier}
use Rattle.vba_expression.specs.Nodes as nodes
use Rattle.vba_expression.specs.Nodes.{behind_node}
use Rattle.vba_expression.specs.declared.node.ExpressionNode.TheVariants as node
use Rattle.bound_project.specs.declared.node.NodeKind.{NodeKind}
use Rattle.bound_project.specs.declared.node.NodeKind.TheVariants as kinds
use Rattle.bound_project.specs.declared.node.ArgumentNames.{ArgumentNames}
use Rattle.bound_project.specs.declared.node.LateName.{LateName}
use Rattle.bound_project.specs.declared.node.LateUse.{LateUse}
use Rattle.bound_project.specs.declared.node.Node.{Node}
use Rattle.bound_project.specs.Expressions.{Exprs, no_exprs, given_count, host_member, named_member, ByName}
use Rattle.bound_project.specs.Expressions as bound
use Rattle.bound_project.specs.Lists.{above, exprs_of}
use Rattle.bound_project.proofs.Lists.{above_push, member_put, named_put}
use Rattle.bound_project.specs.Pieces.{Piece, Tables, a_member, a_named_member, an_expr, exprs_off, is_there, by_name_in, name_in, names_in, order_in, of_member_found, of_named_found, expr_of, put, put_kind}
use Rattle.bound_project.specs.Drafts.{Drafted, NamesNamed, NodeNamed}
use Rattle.bound_project.specs.Project.{nowhere}
use Rattle.bound_project.specs.declared.declared_type.DeclaredType.{DeclaredType}
use Rattle.bound_project.specs.declared.declared_type.DeclaredType.TheVariants.{Plain}
use Rattle.bound_project.specs.declared.declared_type.ElementType.TheVariants as element
use Rattle.bound_project.specs.declared.declarations.Declarations.{Declarations}
use Rattle.bound_project.specs.View.{declarations_view, declared_view}
use Rattle.bound_calls.specs.bound_forms.specs.Terms.{Env, Given, a_value, expression_of, given_rule, given_to, no_term, unless_broken}
use Rattle.bound_calls.specs.bound_forms.specs.Terms as terms
use Rattle.bound_calls.specs.bound_forms.specs.ClassDefaults.{declared_in}
use Rattle.bound_calls.specs.bound_forms.specs.Operands.{argument_of, given_as, if_there, term_or, place_told}
use Rattle.bound_calls.specs.bound_forms.specs.Members.{item_of}
use Rattle.bound_calls.specs.bound_forms.specs.ExpressionsBound.{are_named_right, callee, early_called, givens, indexed, is_any, is_called_late, late_called, member_called, named_called, takes_arguments, takes_names, term_of, wrong_term, variant_arguments}
use Rattle.bound_calls.specs.bound_declarations.specs.constant_values.specs.declared_names.specs.binder.specs.Options.{from_two}
use Rattle.bound_calls.specs.declared.term.Ending.{Ending}
use Rattle.bound_calls.specs.declared.term.HostMember.{HostMember}
use Rattle.bound_calls.specs.declared.term.Item.{Item}
use Rattle.bound_calls.specs.declared.term.Item.TheVariants as item
use Rattle.bound_calls.specs.declared.term.Looked.{Looked}
use Rattle.bound_calls.specs.declared.term.Looked.TheVariants as looked
use Rattle.bound_calls.specs.declared.term.MemberCall.{MemberCall}
use Rattle.bound_calls.specs.declared.term.Term.{Term}
use Rattle.bound_calls.specs.declared.term.Term.TheVariants as term
use Rattle.bound_calls.specs.declared.term.Tree.{Tree}
use Rattle.bound_calls.specs.Calls.{node_of, MarksGiven}
use Rattle.bound_calls.specs.Indexing.{AddsArgument, AddsMissing, Closes}
use Rattle.bound_calls.specs.References.{TakesGiven}
use Rattle.bound_calls.specs.Standing.{AllGiven, ArgumentsStand, EndingIs, GivenIs, LookedNamed, MemberStands, NamesCame, Stands, TakesMember, TreeStands, ValuesStand, AllNamed, MemberNamed, Grown, Base, looked_for, member_is, missing_given, missing_value, names_looked, names_told, plain_given}
use Rattle.bound_calls.proofs.Growing.{grown_same, grown_pieces, grown_twice, item_named, member_grows, member_same, names_are_named, stands_grows, told_same}
use Rattle.bound_calls.proofs.Before.{indexed_before}
use Rattle.bound_members.proofs.Listing.{all_written, none_written, one_written}
use Rattle.bound_members.proofs.LateArguments.{late_long}
use Rattle.bound_members.proofs.Naming.{came_given, came_named, given_listed, given_long, given_more, missing_is, named_more, names_are_taken, none_came, none_named, unnamed_more, value_is}
use Rattle.bound_calls.proofs.CallSteps.{tree_ended}
use Rattle.bound_members.specs.MemberCalls.{OpensMember, AddsNamed, AddsValue, ByItsName, EndsCall, EndsMember, LooksUp, NamesFit, PushesWritten, WrittenIs, given_as_named, is_early, is_value_kind, missing_pushed, there_kind}
use Rattle.bound_members.specs.Late.{LooksUpLate}
use Rattle.bound_members.specs.Names.{TellsNames, is_next}
use Rattle.bound_members.proofs.Counting.{counted, there}
use Rattle.bound_calls.specs.bound_declarations.specs.constant_values.specs.declared_names.specs.binder.specs.Classes.{has_class}

-- ---- arguments begin

there_put : (t : Tables) (n : Node) (name : ℕ) (l : Looked) (object : bound.Expr) (below : List Piece) → put_kind t n (there_kind name l) (an_expr object ∷ below) ≡ looked_for t name l object ∷ below
there_put t n name (looked.Early None given) object below = refl
there_put t n name (looked.Early (Some by) given) object below = refl
there_put t n name (looked.Late aim found) object below = refl

there_named : (t : Tables) (name : ℕ) (l : Looked) → name < length t.constants → LookedNamed t l → NodeNamed t (there_kind name l)
there_named t name (looked.Early None given) h k = h
there_named t name (looked.Early (Some by) given) h k = (h, k)
there_named t name (looked.Late aim found) h k = k

-- the node that looks for a member is named, once that was looked up
pub looks_named : (m : HostMember) (l : Looked) (d n : Drafted) → m.name < length d.tables.constants → LooksUp m d n l → NodeNamed n.tables (there_kind m.name l)
looks_named m l d n h k = there_named n.tables m.name l (omega (arith, h, k.grown.tables.constants_more)) k.named

-- a member is looked up as one of the host, or as a late-bound one
pub looks_early : (m : HostMember) (d e : Drafted) (names : Option ArgumentNames) (given : ℕ) → TellsNames d e names → LooksUp m d e (looked.Early names given)
looks_early m d e names given h = record { grown = h.grown; pieces = h.pieces; named = h.named; by_name = tt }

pub looks_late : (m : HostMember) (d e : Drafted) (aim : LateUse) (found : LateName) → LooksUpLate m.name d e found → LooksUp m d e (looked.Late aim found)
looks_late m d e aim found h = record { grown = h.grown; pieces = h.pieces; named = h.named; by_name = h.by_name }

abbrev pub opened_call : Place → HostMember → Looked → (has of_property : Bool) → MemberCall
opened_call place m l has of_property = record { place = place; member = m; looked = l; has_class = has; of_property = of_property; count = 0; written = 0; named = 0 }

none_pushed : (l : Looked) (env : Env) (t : Tables) (x : MemberCall) → x.count ≡ 0 → x.written ≡ 0 → ByItsName x.member l → (object : bound.Expr) (ps below : List Piece) → ps ≡ looked_for t x.member.name l object ∷ below
    → ArgumentsStand l env t x object [] ps below
none_pushed (looked.Early names given) env t x c w named object ps below top =
    record { made = []; values = tt; written_is = λ more. (let e : given_count (exprs_of more) ≡ x.written + given_count (exprs_of more) = omega (arith, w) in e); count_is = c; on_top = top }
none_pushed (looked.Late aim found) env t x c w named object ps below top = record { made = []; arguments = tt; given_are = refl; name_is = named; count_is = c; on_top = top }

opened : (has prop : Bool) (place : Place) (m : HostMember) (l : Looked) (d : Drafted) (env : Env) → has_class env.scope.spaces ≡ has → ByItsName m l → (tree : Expr) (object : bound.Expr) (below : List Piece) → place ≡ place_told tree
    → TakesMember prop env (place_told tree) (callee env tree (term_of env tree)) (terms.a_host_member object (member_is d.tables m)) → d.pieces ≡ an_expr object ∷ below
    → MemberStands env d.tables (opened_call place m l has prop) tree no_args (put d.tables (node_of (there_kind m.name l) place m.of) d.pieces) below
opened has prop place m l d env known named tree object below p k top =
    let n = node_of (there_kind m.name l) place m.of in
    record {
      object = object;
      is = k;
      place_is = p;
      classes = known;
      names = none_came (names_told d.tables (names_looked l));
      pushed = none_pushed l env d.tables (opened_call place m l has prop) refl refl named object (put d.tables n d.pieces) below
          (ap (λ (st : List Piece). put_kind d.tables n (there_kind m.name l) st) top ∙ there_put d.tables n m.name l object below);
    }

pub opens_member : (has prop : Bool) (place : Place) (m : HostMember) (l : Looked) (d n e : Drafted) → m.name < length d.tables.constants → LooksUp m d n l
    → e ≡ record n { pieces = put n.tables (node_of (there_kind m.name l) place m.of) n.pieces } → OpensMember has prop place m d e (opened_call place m l has prop)
opens_member has prop place m l d n e named told eq =
    let c = opened_call place m l has prop in
    let P : Drafted → Type 0 = λ (z : Drafted). OpensMember has prop place m d z c in
    let after : Drafted = record n { pieces = put n.tables (node_of (there_kind m.name l) place m.of) n.pieces } in
    subst P (sym eq) (record {
      grown = grown_twice d n after told.grown (grown_pieces n (put n.tables (node_of (there_kind m.name l) place m.of) n.pieces));
      named = (omega (arith, named, told.grown.tables.constants_more), told.named);
      stands = λ env known tree items is object below base p k top s.
          let A : terms.HostMember → Type 0 = λ (w : terms.HostMember). TakesMember prop env (place_told tree) (callee env tree (term_of env tree)) (terms.a_host_member object w) in
          (below, (opened has prop place m l n env known told.by_name tree object below p (subst A (member_same d.tables n.tables told.grown.tables m named) k) (told.pieces ∙ top), s));
    })

-- ---- one more argument

-- what is given is written, marked or not
given_there : (rule : Option ℕ) (place : Place) (e : bound.Expr) → is_there e ≡ true → is_there (unless_broken rule place e) ≡ true
given_there None place e h = h
given_there (Some rule) place e h = refl

-- the value of an argument, and its mark
written : (env : Env) (tree : Expr) (at : Place) (v : Ending) (after : DeclaredType) (t : Tables) (f e : Drafted) (n : Node) (ps below : List Piece) → n ≡ node_of v.kind at v.of → at ≡ place_told tree → is_value_kind v.kind ≡ true
    → EndingIs t v at (given_as env (term_of env tree) at) ps below → f.pieces ≡ put t n ps → MarksGiven type.variant false at v.of f e after → WrittenIs (argument_of env type.variant (term_of env tree) (place_told tree)) e.pieces below
written env tree at v after t f e n ps below node_is at_is given h pushed marks =
    let y = term_of env tree in
    let made = expression_of h.made at (declared_view v.of) in
    let found = given_as env y (place_told tree) in
    let is : found ≡ Some made = ap (λ (place : Place). given_as env y place) (sym at_is) ∙ h.is in
    let ends : put_kind t (node_of v.kind at v.of) v.kind ps ≡ an_expr made ∷ below = h.ends (node_of v.kind at v.of) in
    let q = marks.stands found below (record { made = made; is = is; operand = refl; on_top = pushed ∙ ap (λ (m : Node). put t m ps) node_is ∙ ends }) in
    let same : given_to type.variant false at made ≡ q.made =
    ap (λ (o : Option bound.Expr). unwrap_or o made) (sym (ap (λ (o : Option bound.Expr). option_map (given_to type.variant false at) o) is) ∙ q.is) in
    let W : bound.Expr → Type 0 = λ (x : bound.Expr). is_there x ≡ true in
    let I : Place → Type 0 = λ (place : Place). option_map (given_to type.variant false place) found ≡ Some q.made in
    record {
      made = q.made;
      is = subst I at_is q.is;
      there = subst W same (given_there (given_rule type.variant false (declared_view v.of)) at made (there t (node_of v.kind at v.of) v.kind h.made ps below given ends));
      on_top = q.on_top;
    }

pub pushes_written : (y : Tree) (v : Ending) (after : DeclaredType) (d m f e : Drafted) → is_value_kind v.kind ≡ true → TakesGiven y.term y.place d m v → f ≡ record m { pieces = put m.tables (node_of v.kind y.place v.of) m.pieces }
    → MarksGiven type.variant false y.place v.of f e after → PushesWritten y d e
pushes_written y v after d m f e given t eq marks =
    let n = node_of v.kind y.place v.of in
    let pushed : Drafted = record m { pieces = put m.tables n m.pieces } in
    let G : Drafted → Type 0 = λ (z : Drafted). Grown z e in
    record {
      grown = grown_twice d m e t.grown (grown_twice m pushed e (grown_pieces m (put m.tables n m.pieces)) (subst G eq marks.grown));
      stands = λ env tree below k.
          written env tree y.place v after m.tables f e n m.pieces below refl k.place_is given (t.stands env (term_of env tree) below k.term_is) (ap (λ (z : Drafted). z.pieces) eq) marks;
    }

-- one more argument, by what was pushed for it
pub adds_value : (x : MemberCall) (y : Tree) (count written named : ℕ) (d e : Drafted) → Grown d e → MemberNamed d.tables x
    → ((env : Env) (a : Expr) (name : Option (List ℕ)) (gs : List Given) (object : bound.Expr) (ps below : List Piece) → TreeStands env d.tables y a d.pieces ps → ArgumentsStand x.looked env e.tables x object gs ps below
    → ArgumentsStand x.looked env e.tables (record x { count = count; written = written; named = named }) object (gs ++ given_as_named env name a ∷ []) e.pieces below)
    → AddsValue x y named d e (record x { count = count; written = written; named = named })
adds_value x y count written named d e g k more = record {
  grown = g;
  is_named = item_named d.tables e.tables g.tables (item.Member x) k;
  stands = λ env a b name args others ps below tree h gs came.
      let s = member_grows env d.tables e.tables g.tables x k b args ps below h in
      let z : MemberCall = record x { count = count; written = written; named = named } in
      let A : List Given → Type 0 = λ (l : List Given). ArgumentsStand x.looked env e.tables z s.object l e.pieces below in
      record {
        object = s.object;
        is = s.is;
        place_is = s.place_is;
        classes = s.classes;
        names = came;
        pushed = subst A (sym gs) (more env a name (givens env args) s.object ps below tree s.pushed);
      };
}

early_pushed : (l : Looked) → is_early l ≡ true → (env : Env) (t : Tables) (x : MemberCall) (count written named : ℕ) → count ≡ x.count + 1 → written ≡ x.written + 1 → (object : bound.Expr) (gs : List Given) (g : Given) (made : bound.Expr)
    → (ps qs below : List Piece) → ArgumentsStand l env t x object gs ps below → GivenIs (argument_of env type.variant) g made → is_there made ≡ true → qs ≡ an_expr made ∷ ps
    → ArgumentsStand l env t (record x { count = count; written = written; named = named }) object (gs ++ g ∷ []) qs below
early_pushed (looked.Late aim found) early env t x count written named c w object gs g made ps qs below s given is top = let e : false ≡ true = early in absurd cc
early_pushed (looked.Early names told) early env t x count written named c w object gs g made ps qs below s given is top =
    let low = looked_for t x.member.name (looked.Early names told) object ∷ below in
    record {
      made = s.made ++ made ∷ [];
      values = given_more (argument_of env type.variant) gs s.made g made s.values given;
      written_is = one_written made s.made x.written written w s.written_is (counted made is);
      count_is = omega (arith, c, s.count_is, length-append s.made (made ∷ []));
      on_top = top ∙ ap (λ (l : List Piece). an_expr made ∷ l) s.on_top ∙ sym (above_push (map an_expr s.made) (an_expr made) low) ∙ ap (λ (l : List Piece). above l low) (sym (map-append an_expr s.made (made ∷ [])));
    }

pub adds_early : (x : MemberCall) (y : Tree) (count written named : ℕ) (d e : Drafted) → count ≡ x.count + 1 → written ≡ x.written + 1 → is_early x.looked ≡ true → MemberNamed d.tables x → PushesWritten y d e
    → AddsValue x y named d e (record x { count = count; written = written; named = named })
adds_early x y count written named d e c w early k t =
    adds_value x y count written named d e t.grown k (λ env a name gs object ps below tree s.
    let g = t.stands env a ps tree in
    early_pushed x.looked early env e.tables x count written named c w object gs (given_as_named env name a) g.made ps e.pieces below s (value_is (argument_of env type.variant) name (term_of env a) (place_told a) g.made g.is) g.there g.on_top)

-- names that were told stay when the tables grow
came_still : (d e : Drafted) (x : MemberCall) (named : ℕ) (gs : List Given) → Grown d e → MemberNamed d.tables x → NamesCame (names_told d.tables (names_looked x.looked)) named gs → NamesCame (names_told e.tables (names_looked x.looked)) named gs
came_still d e x named gs g k n =
    let N : List (List ℕ) → Type 0 = λ (names : List (List ℕ)). NamesCame names named gs in
    subst N (sym (told_same d.tables e.tables g.tables (names_looked x.looked) (names_are_named d.tables x.looked k.1))) n

added : (env : Env) (x z : MemberCall) (y : Tree) (comma : Option Token) (xs : List Item) (d e : Drafted) → MemberNamed d.tables x → x.named ≡ 0 → AddsValue x y 0 d e z → AllNamed d.tables xs → (is : List nodes.Item) (base : Base)
    → Stands env d.tables (item.Tree y ∷ item.Member x ∷ xs) is d.pieces base → Stands env e.tables (item.Member z ∷ xs) (behind_node (node.PlainArgument comma) is) e.pieces base
added env x z y comma xs d e k none v all [] base h = absurd h
added env x z y comma xs d e k none v all (nodes.arguments args ∷ is) base h = absurd h
added env x z y comma xs d e k none v all (nodes.tree a ∷ []) base h = absurd h.1.1
added env x z y comma xs d e k none v all (nodes.tree a ∷ nodes.tree u ∷ is) base h = absurd h.1.1
added env x z y comma xs d e k none v all (nodes.tree a ∷ nodes.arguments args ∷ []) base h = absurd h.1.1
added env x z y comma xs d e k none v all (nodes.tree a ∷ nodes.arguments args ∷ nodes.arguments more ∷ is) base h = absurd h.1.1
added env x z y comma xs d e k none v all (nodes.tree a ∷ nodes.arguments args ∷ nodes.tree b ∷ is) base h =
    let low = h.1.1 in
    let s : MemberStands env d.tables x b args h.0 low.0 = low.1.0 in
    let names = names_told e.tables (names_looked x.looked) in
    let came = unnamed_more names x.named (givens env args) (plain_given env a) none refl (came_still d e x x.named (givens env args) v.grown k s.names) in
    (low.0, (v.stands env a b None args (plain args comma a) h.0 low.0 h.1.0 s refl came, stands_grows env d.tables e.tables v.grown.tables xs all is low.0 base low.1.1))

pub adds_given : (x z : MemberCall) (y : Tree) (d e : Drafted) → MemberNamed d.tables x → x.named ≡ 0 → AddsValue x y 0 d e z → AddsArgument (item.Member x) y d e (item.Member z)
adds_given x z y d e k none v = record { grown = v.grown; named = v.is_named; stands = λ env comma xs is base all h. added env x z y comma xs d e k none v all is base h }

-- one more with the name that is next
named_added : (env : Env) (x z : MemberCall) (y : Tree) (by : ArgumentNames) (name : Identifier) (more : ℕ) (comma : Option Token) (mark : Token) (xs : List Item) (d e : Drafted) → MemberNamed d.tables x → names_looked x.looked ≡ Some by
    → is_next (names_in d.tables by.order) x.named name.name ≡ true → more ≡ x.named + 1 → AddsValue x y more d e z → AllNamed d.tables xs → (is : List nodes.Item) (base : Base)
    → Stands env d.tables (item.Tree y ∷ item.Member x ∷ xs) is d.pieces base → Stands env e.tables (item.Member z ∷ xs) (behind_node (node.NamedArgument comma name mark) is) e.pieces base
named_added env x z y by name more comma mark xs d e k told next m v all [] base h = absurd h
named_added env x z y by name more comma mark xs d e k told next m v all (nodes.arguments args ∷ is) base h = absurd h
named_added env x z y by name more comma mark xs d e k told next m v all (nodes.tree a ∷ []) base h = absurd h.1.1
named_added env x z y by name more comma mark xs d e k told next m v all (nodes.tree a ∷ nodes.tree u ∷ is) base h = absurd h.1.1
named_added env x z y by name more comma mark xs d e k told next m v all (nodes.tree a ∷ nodes.arguments args ∷ []) base h = absurd h.1.1
named_added env x z y by name more comma mark xs d e k told next m v all (nodes.tree a ∷ nodes.arguments args ∷ nodes.arguments others ∷ is) base h = absurd h.1.1
named_added env x z y by name more comma mark xs d e k told next m v all (nodes.tree a ∷ nodes.arguments args ∷ nodes.tree b ∷ is) base h =
    let low = h.1.1 in
    let s : MemberStands env d.tables x b args h.0 low.0 = low.1.0 in
    let there : is_next (names_told d.tables (names_looked x.looked)) x.named name.name ≡ true = ap (λ (o : Option ArgumentNames). is_next (names_told d.tables o) x.named name.name) told ∙ next in
    let gs = givens env args ++ given_as_named env (Some name.name) a ∷ [] in
    let came = came_still d e x more gs v.grown k (named_more (names_told d.tables (names_looked x.looked)) x.named more (givens env args) (given_as_named env (Some name.name) a) name.name m there refl s.names) in
    (low.0, (v.stands env a b (Some name.name) args (tree_of.named args comma name mark a) h.0 low.0 h.1.0 s refl came, stands_grows env d.tables e.tables v.grown.tables xs all is low.0 base low.1.1))

pub adds_named : (x z : MemberCall) (y : Tree) (by : ArgumentNames) (name : Identifier) (more : ℕ) (d e : Drafted) → MemberNamed d.tables x → names_looked x.looked ≡ Some by → is_next (names_in d.tables by.order) x.named name.name ≡ true
    → more ≡ x.named + 1 → AddsValue x y more d e z → AddsNamed x y name d e z
adds_named x z y by name more d e k told next m v =
    record { grown = v.grown; named = v.is_named; stands = λ env comma mark xs is base all h. named_added env x z y by name more comma mark xs d e k told next m v all is base h }

-- ---- one more argument, which isn't written

-- a value that isn't given, by a place
abbrev pub missing_at : Drafted → Place → Drafted
missing_at d place = record d { pieces = put d.tables (node_of kinds.NotGiven place (Plain element.Variant)) d.pieces }

abbrev pub missing_node : Node
missing_node = node_of kinds.NotGiven nowhere (Plain element.Variant)

skipped : (env : Env) (x : MemberCall) (count : ℕ) (comma : Option Token) (xs : List Item) (d : Drafted) (qs : List Piece) → x.named ≡ 0
    → ((gs : List Given) (object : bound.Expr) (below : List Piece) → ArgumentsStand x.looked env d.tables x object gs d.pieces below → ArgumentsStand x.looked env d.tables (record x { count = count }) object (gs ++ missing_given ∷ []) qs below)
    → (is : List nodes.Item) (base : Base) → Stands env d.tables (item.Member x ∷ xs) is d.pieces base → Stands env d.tables (item.Member (record x { count = count }) ∷ xs) (behind_node (node.MissingArgument comma) is) qs base
skipped env x count comma xs d qs none more [] base h = absurd h
skipped env x count comma xs d qs none more (nodes.tree z ∷ is) base h = absurd h
skipped env x count comma xs d qs none more (nodes.arguments args ∷ []) base h = absurd h
skipped env x count comma xs d qs none more (nodes.arguments args ∷ nodes.arguments others ∷ is) base h = absurd h
skipped env x count comma xs d qs none more (nodes.arguments args ∷ nodes.tree b ∷ is) base h =
    let s : MemberStands env d.tables x b args d.pieces h.0 = h.1.0 in
    let names = names_told d.tables (names_looked x.looked) in
    let N : ℕ → Type 0 = λ (k : ℕ). NamesCame names k (givens env args ++ missing_given ∷ []) in (
      h.0,
      (
        record {
          object = s.object;
          is = s.is;
          place_is = s.place_is;
          classes = s.classes;
          names = subst N (sym none) (unnamed_more names x.named (givens env args) missing_given none refl s.names);
          pushed = more (givens env args) s.object h.0 s.pushed;
        },
        h.1.1,
      ),
    )

-- one more, by what was pushed for it
pub adds_skipped : (x : MemberCall) (count : ℕ) (d : Drafted) (qs : List Piece) → MemberNamed d.tables x → x.named ≡ 0
    → ((env : Env) (gs : List Given) (object : bound.Expr) (below : List Piece) → ArgumentsStand x.looked env d.tables x object gs d.pieces below → ArgumentsStand x.looked env d.tables (record x { count = count }) object (gs ++ missing_given ∷ []) qs below)
    → AddsMissing (item.Member x) d (record d { pieces = qs }) (item.Member (record x { count = count }))
adds_skipped x count d qs named none more =
    record { grown = grown_pieces d qs; named = named; stands = λ env comma xs is base k h. skipped env x count comma xs d qs none (λ gs object below s. more env gs object below s) is base h }

early_missing : (l : Looked) → is_early l ≡ true → (env : Env) (t : Tables) (x : MemberCall) (count : ℕ) → count ≡ x.count + 1 → (object : bound.Expr) (gs : List Given) (ps below : List Piece) → ArgumentsStand l env t x object gs ps below
    → ArgumentsStand l env t (record x { count = count }) object (gs ++ missing_given ∷ []) (an_expr missing_value ∷ ps) below
early_missing (looked.Late aim found) early env t x count c object gs ps below s = let e : false ≡ true = early in absurd cc
early_missing (looked.Early names told) early env t x count c object gs ps below s =
    let low = looked_for t x.member.name (looked.Early names told) object ∷ below in
    record {
      made = s.made ++ missing_value ∷ [];
      values = given_more (argument_of env type.variant) gs s.made missing_given missing_value s.values (missing_is (argument_of env type.variant));
      written_is = none_written s.made x.written s.written_is;
      count_is = omega (arith, c, s.count_is, length-append s.made (missing_value ∷ []));
      on_top = ap (λ (l : List Piece). an_expr missing_value ∷ l) s.on_top ∙ sym (above_push (map an_expr s.made) (an_expr missing_value) low)
          ∙ ap (λ (l : List Piece). above l low) (sym (map-append an_expr s.made (missing_value ∷ [])));
    }

pub skips_early : (x : MemberCall) (count : ℕ) (d e : Drafted) → count ≡ x.count + 1 → is_early x.looked ≡ true → MemberNamed d.tables x → x.named ≡ 0 → e ≡ missing_pushed d → AddsMissing (item.Member x) d e (item.Member (record x { count = count }))
skips_early x count d e c early named none eq =
    let P : Drafted → Type 0 = λ (z : Drafted). AddsMissing (item.Member x) d z (item.Member (record x { count = count })) in
    subst P (sym eq) (adds_skipped x count d (an_expr missing_value ∷ d.pieces) named none (λ env gs object below s. early_missing x.looked early env d.tables x count c object gs d.pieces below s))

-- ---- arguments end

member_ends : (t : Tables) (n : Node) (name given count : ℕ) (object : bound.Expr) (es : List bound.Expr) (ps below : List Piece) → count ≡ length es → given ≡ given_count (exprs_of es)
    → ps ≡ above (map an_expr es) (a_member object (name_in t name) given ∷ below) → put_kind t n (kinds.HostMember name count) ps ≡ expr_of n (host_member object (name_in t name) (exprs_of es)) ∷ below
member_ends t n name given count object es ps below c same on_top =
    let make : bound.Expr → Exprs → Piece = λ (x : bound.Expr) (xs : Exprs). expr_of n (host_member x (name_in t name) xs) in
    ap (λ (k : ℕ). of_member_found (name_in t name) make (exprs_off k ps no_exprs)) c ∙ ap (λ (st : List Piece). of_member_found (name_in t name) make (exprs_off (length es) st no_exprs)) on_top
    ∙ ap (λ (k : ℕ). of_member_found (name_in t name) make (exprs_off (length es) (above (map an_expr es) (a_member object (name_in t name) k ∷ below)) no_exprs)) same
    ∙ member_put (name_in t name) make object es below

pub named_ends : (t : Tables) (n : Node) (name given count : ℕ) (by : ArgumentNames) (object : bound.Expr) (es : List bound.Expr) (ps below : List Piece) → count ≡ length es → given ≡ given_count (exprs_of es)
    → ps ≡ above (map an_expr es) (a_named_member object (name_in t name) (by_name_in t by) given ∷ below)
    → put_kind t n (kinds.NamedMember name by count) ps ≡ expr_of n (named_member object (name_in t name) (by_name_in t by) (exprs_of es)) ∷ below
named_ends t n name given count by object es ps below c same on_top =
    let how = by_name_in t by in
    let make : bound.Expr → Exprs → Piece = λ (x : bound.Expr) (xs : Exprs). expr_of n (named_member x (name_in t name) how xs) in
    ap (λ (k : ℕ). of_named_found (name_in t name) how make (exprs_off k ps no_exprs)) c ∙ ap (λ (st : List Piece). of_named_found (name_in t name) how make (exprs_off (length es) st no_exprs)) on_top
    ∙ ap (λ (k : ℕ). of_named_found (name_in t name) how make (exprs_off (length es) (above (map an_expr es) (a_named_member object (name_in t name) how k ∷ below)) no_exprs)) same
    ∙ named_put (name_in t name) how make object es below

-- whether a member is called late, by what came
any_given : (gs : List Given) (n : ℕ) → length gs ≡ n → is_any gs ≡ not (n == 0)
any_given [] n h = ap (λ (k : ℕ). not (k == 0)) h
any_given (g ∷ gs) n h =
    let some : (length (g ∷ gs) == 0) ≡ false = ne_eqb (length (g ∷ gs)) 0 (λ (e : length (g ∷ gs) ≡ 0). omega (arith, e)) in
    ap not (sym some) ∙ ap (λ (k : ℕ). not (k == 0)) h

pub called_late : (env : Env) (t : Tables) (x : MemberCall) (gs : List Given) → has_class env.scope.spaces ≡ x.has_class → length gs ≡ x.count → is_called_late env (member_is t x.member) gs ≡ (x.member.is_late || (x.has_class && not (x.count == 0)))
called_late env t x gs known long = ap (λ (b : Bool). x.member.is_late || (b && is_any gs)) known ∙ ap (λ (b : Bool). x.member.is_late || (x.has_class && b)) (any_given gs x.count long)

called_early : (env : Env) (t : Tables) (x : MemberCall) (object : bound.Expr) (gs : List Given) → has_class env.scope.spaces ≡ x.has_class → length gs ≡ x.count → (x.member.is_late || (x.has_class && not (x.count == 0))) ≡ false
    → member_called env object (member_is t x.member) gs ≡ early_called env object (member_is t x.member) gs
called_early env t x object gs known long early =
    let m = member_is t x.member in
    ap (λ (b : Bool). if not b then early_called env object m gs else if are_named_right m gs then late_called env object m gs else None) (called_late env t x gs known long ∙ early)

-- a member whose arguments have no names
plain_called : (env : Env) (object : bound.Expr) (m : terms.HostMember) (named : ℕ) (gs : List Given) (es : List bound.Expr) → NamesCame [] named gs → AllGiven (argument_of env type.variant) gs es
    → early_called env object m gs ≡ Some (host_member object m.name (exprs_of es))
plain_called env object m named gs es came values =
    let found : Option bound.Node = option_map (λ (xs : Exprs). host_member object m.name xs) (variant_arguments env gs) in
    ap (λ (b : Bool). if b then named_called env object m gs else found) (none_named named gs came)
    ∙ ap (λ (o : Option Exprs). option_map (λ (xs : Exprs). host_member object m.name xs) o) (given_listed (argument_of env type.variant) gs es values)

-- what is no Some is None
pub none_of : (o : Option ArgumentNames) → ((names : ArgumentNames) → (o ≡ Some names) → ⊥) → o ≡ None
none_of None h = refl
none_of (Some names) h = absurd (h names refl)

pub values_of : (l : Looked) (names : Option ArgumentNames) (given : ℕ) (env : Env) (t : Tables) (x : MemberCall) (object : bound.Expr) (gs : List Given) (ps below : List Piece) → l ≡ looked.Early names given → ArgumentsStand l env t x object gs ps below
    → ValuesStand env t x names given object gs ps below
values_of l names given env t x object gs ps below is h = subst (λ (k : Looked). ArgumentsStand k env t x object gs ps below) is h

pub plain_ends : (x : MemberCall) (t : Tables) (given : ℕ) → x.looked ≡ looked.Early None given → x.written ≡ given → (x.member.is_late || (x.has_class && not (x.count == 0))) ≡ false → EndsCall t x (kinds.HostMember x.member.name x.count)
plain_ends x t given is w early = record {
  named = λ named. named.0;
  stands = λ env e args ps below s.
      let gs = givens env args in
      let v = values_of x.looked None given env t x s.object gs ps below is s.pushed in
      let N : Looked → Type 0 = λ (l : Looked). NamesCame (names_told t (names_looked l)) x.named gs in
      let long : length gs ≡ x.count = omega (arith, v.count_is, given_long (argument_of env type.variant) gs v.made v.values) in
      record {
        made = host_member s.object (name_in t x.member.name) (exprs_of v.made);
        is = called_early env t x s.object gs s.classes long early ∙ plain_called env s.object (member_is t x.member) x.named gs v.made (subst N is s.names) v.values;
        ends = λ n. member_ends t n x.member.name given x.count s.object v.made ps below v.count_is (sym w ∙ sym (all_written v.made x.written v.written_is)) v.on_top;
      };
}

-- one whose last arguments have names
pub by_name_called : (env : Env) (object : bound.Expr) (m : terms.HostMember) (by : ByName) (named : ℕ) (gs : List Given) (es : List bound.Expr) → named ≢ 0 → named ≡ length by.names → length gs ≡ by.before + named → takes_names m by ≡ true
    → NamesCame by.names named gs → AllGiven (argument_of env type.variant) gs es → early_called env object m gs ≡ Some (named_member object m.name by (exprs_of es))
by_name_called env object m by named gs es some all count takes came values =
    let made : Option ByName → Option Exprs → Option bound.Node = λ (o : Option ByName) (xs : Option Exprs). from_two (λ (how : ByName) (ys : Exprs). named_member object m.name how ys) o xs in
    let found : Option bound.Node = option_map (λ (xs : Exprs). host_member object m.name xs) (variant_arguments env gs) in
    ap (λ (b : Bool). if b then named_called env object m gs else found) (came_named by.names named gs some all came)
    ∙ ap (λ (o : Option ByName). made o (variant_arguments env gs)) (names_are_taken m by gs (came_given by.names named by.before gs all count came) takes)
    ∙ ap (λ (o : Option Exprs). made (Some by) o) (given_listed (argument_of env type.variant) gs es values)

told_as : (t : Tables) (l : Looked) (by : ArgumentNames) (given : ℕ) → l ≡ looked.Early (Some by) given → LookedNamed t l → NamesNamed t by
told_as t l by given told k = subst (λ (z : Looked). LookedNamed t z) told k

pub by_name_ends : (x : MemberCall) (t : Tables) (by : ArgumentNames) (given : ℕ) → x.looked ≡ looked.Early (Some by) given → x.written ≡ given → (x.member.is_late || (x.has_class && not (x.count == 0))) ≡ false → NamesFit t x by
    → EndsCall t x (kinds.NamedMember x.member.name by x.count)
by_name_ends x t by given told w early fit = record {
  named = λ named. (named.0, told_as t x.looked by given told named.1);
  stands = λ env e args ps below s.
      let gs = givens env args in
      let v = values_of x.looked (Some by) given env t x s.object gs ps below told s.pushed in
      let N : Looked → Type 0 = λ (l : Looked). NamesCame (names_told t (names_looked l)) x.named gs in
      let all : x.named ≡ length (by_name_in t by).names = fit.all ∙ sym (length-map (order_in t by.order) (name_in t)) in
      let long : length gs ≡ x.count = omega (arith, v.count_is, given_long (argument_of env type.variant) gs v.made v.values) in
      let count : length gs ≡ by.before + x.named = long ∙ fit.count in
      record {
        made = named_member s.object (name_in t x.member.name) (by_name_in t by) (exprs_of v.made);
        is = called_early env t x s.object gs s.classes long early ∙ by_name_called env s.object (member_is t x.member) (by_name_in t by) x.named gs v.made fit.some all count fit.takes (subst N told s.names) v.values;
        ends = λ n. named_ends t n x.member.name given x.count by s.object v.made ps below v.count_is (sym w ∙ sym (all_written v.made x.written v.written_is)) v.on_top;
      };
}

-- as many arguments came as were counted
pub arguments_long : (l : Looked) (env : Env) (t : Tables) (x : MemberCall) (object : bound.Expr) (gs : List Given) (ps below : List Piece) → ArgumentsStand l env t x object gs ps below → length gs ≡ x.count
arguments_long (looked.Early names given) env t x object gs ps below v = omega (arith, v.count_is, given_long (argument_of env type.variant) gs v.made v.values)
arguments_long (looked.Late aim found) env t x object gs ps below v = omega (arith, v.count_is, late_long env gs v.made v.arguments)

-- brackets take it of what a property gave only with arguments
taken_before : (prop : Bool) (env : Env) (place : Place) (z y : terms.Term) (gs : List Given) (count : ℕ) → length gs ≡ count → (prop && (count == 0)) ≡ false → TakesMember prop env place z y → indexed env place (item_of env place z) gs ≡ indexed env place y gs
taken_before false env place z y gs count long some h = ap (λ (w : terms.Term). indexed env place w gs) h
taken_before true env place z y [] count long some h = let e : true ≡ false = ap (λ (n : ℕ). n == 0) long ∙ some in absurd cc
taken_before true env place z y (g ∷ gs) count long some h = indexed_before env place z (g ∷ gs) ∙ ap (λ (w : terms.Term). indexed env place w (g ∷ gs)) (h g gs)

pub ends_member : (x : MemberCall) (t : Tables) (kind : NodeKind) → (x.of_property && (x.count == 0)) ≡ false → ((t : Tables) → takes_arguments (member_is t x.member) x.count ≡ true) → EndsCall t x kind
    → EndsMember t x (term.Value (record { kind = kind; of = x.member.of }))
ends_member x t kind some takes ended = record {
  named = ended.named;
  stands = λ env e args ps below s.
      let place = place_told e in
      let gs = givens env args in
      let m = member_is t x.member in
      let c = ended.stands env e args ps below s in
      let long : length gs ≡ x.count = arguments_long x.looked env t x s.object gs ps below s.pushed in
      let found : Option bound.Node → terms.Term = λ (o : Option bound.Node). if_there (option_map (λ (made : bound.Node). a_value made m.of) o) in
      record {
        made = c.made;
        is = taken_before x.of_property env place (callee env e (term_of env e)) (terms.a_host_member s.object m) gs x.count long some s.is
            ∙ ap (λ (z : terms.Term). term_or z (wrong_term env place (terms.a_host_member s.object m) gs))
            (ap (λ (n : ℕ). if takes_arguments m n then found (member_called env s.object m gs) else no_term) long ∙ ap (λ (b : Bool). if b then found (member_called env s.object m gs) else no_term) (takes t) ∙ ap found c.is);
        ends = c.ends;
      };
}

ended_stands : (env : Env) (x : MemberCall) (y : Term) (known : Bor Declarations) → declared_in env.scope ≡ declarations_view known.now → (left right : Token) (xs : List Item) (d : Drafted) → EndsMember d.tables x y → (is : List nodes.Item) (base : Base) → Stands env d.tables (item.Member x ∷ xs) is d.pieces base
    → Stands env d.tables (item.Tree (record { place = x.place; name = None; dotted = None; term = y; declared = known }) ∷ xs) (behind_node (node.Index left right) is) d.pieces base
ended_stands env x y known w left right xs d m [] base h = absurd h
ended_stands env x y known w left right xs d m (nodes.tree v ∷ is) base h = absurd h
ended_stands env x y known w left right xs d m (nodes.arguments args ∷ []) base h = absurd h
ended_stands env x y known w left right xs d m (nodes.arguments args ∷ nodes.arguments more ∷ is) base h = absurd h
ended_stands env x y known w left right xs d m (nodes.arguments args ∷ nodes.tree b ∷ is) base h = (
  h.0,
  (tree_ended env d.tables y x.place known w b args left right d.pieces h.0 h.1.0.place_is (m.stands env b args d.pieces h.0 h.1.0), h.1.1),
)

pub closes_member : (x : MemberCall) (y : Term) (known : Bor Declarations) (d : Drafted) → MemberNamed d.tables x → EndsMember d.tables x y → Closes (declarations_view known.now) (item.Member x) d d (record { place = x.place; name = None; dotted = None; term = y; declared = known })
closes_member x y known d named m = record { grown = grown_same d; named = m.named named; stands = λ env w left right xs is base k h. ended_stands env x y known w left right xs d m is base h }
