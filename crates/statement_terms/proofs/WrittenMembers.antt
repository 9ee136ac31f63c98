-- Members of objects that are assigned to.
use Rattle.std.proofs.Common.{◌≡◌, ◌≢◌, ℕ, ◌+◌, ◌==◌, Bool, true, false, ◌&&◌, ◌||◌, not, is_some, List, [], ◌∷◌, map, length, Option, Some, None, option_map, if◌then◌else◌, refl, sym, ap, subst, ◌∙◌, arith}
use Rattle.std.specs.Prelude.{◌<◌, MatchBool, bytes_eq, codes}
use Rattle.std.specs.List.{list_any}
use Rattle.std.proofs.lemmas.Bool.{eqb-true, ne_eqb}
use Rattle.vba_base.specs.declared.place.Place.{Place}
use Rattle.vba_values.specs.Types as type
use Rattle.vba_lexer.specs.declared.token.Token.{Token}
use Rattle.vba_expression.specs.Tree.{Expr, Args, index}
use Rattle.vba_expression.specs.Nodes as nodes
use Rattle.vba_expression.specs.Nodes.{behind_node, last_tree}
use Rattle.vba_expression.specs.declared.node.ExpressionNode.TheVariants as node
use Rattle.bound_project.specs.declared.node.LateName.{LateName}
use Rattle.bound_project.specs.declared.node.LateUse.{LateUse}
use Rattle.bound_project.specs.declared.node.LateUse.TheVariants.{Assigning, Setting}
use Rattle.bound_project.specs.declared.node.NodeKind.{NodeKind}
use Rattle.bound_project.specs.declared.node.Node.{Node}
use Rattle.bound_project.specs.declared.node.NodeKind.TheVariants as kinds
use Rattle.bound_project.specs.declared.statement.ActionKind.{ActionKind}
use Rattle.bound_project.specs.declared.statement.ActionKind.TheVariants as action
use Rattle.bound_project.specs.Bodies.{action_of, member_found}
use Rattle.bound_project.specs.Expressions.{ByName, Exprs, no_exprs, also, given_count, marked, none_given}
use Rattle.bound_project.specs.Expressions as bound
use Rattle.bound_project.specs.Lists.{above, exprs_of, given_of}
use Rattle.bound_project.proofs.Lists.{exprs_are, is_itself, late_action}
use Rattle.bound_project.specs.Pieces.{Piece, Sought, Tables, a_late, a_member, an_expr, by_name_in, expr_of, exprs_off, name_in, of_found, of_value, put, sought_in}
use Rattle.bound_project.specs.Drafts.{Drafted}
use Rattle.bound_project.specs.Statements.{Action, assign_default, assign_late, assign_member, set_late}
use Rattle.bound_project.specs.View.{declarations_view, declared_view}
use Rattle.bound_members.specs.bound_calls.specs.bound_declarations.specs.constant_values.specs.declared_names.specs.binder.specs.Options.{from_two, or_else}
use Rattle.bound_members.specs.bound_calls.specs.bound_declarations.specs.constant_values.specs.declared_names.specs.binder.specs.Types.{is_object}
use Rattle.bound_members.specs.bound_calls.specs.bound_forms.specs.Terms.{Env, Given, a_host_member, expression_of, given_by_name, has_names, no_names}
use Rattle.bound_members.specs.bound_calls.specs.bound_forms.specs.Terms as plain
use Rattle.bound_members.specs.bound_calls.specs.bound_forms.specs.Operands.{argument_of, is_instance_type, is_item_name, is_of_host, place_told, may_be_instance}
use Rattle.bound_members.specs.bound_calls.specs.bound_forms.specs.Members.{item_of, mark_members}
use Rattle.bound_members.specs.bound_calls.specs.bound_forms.specs.ExpressionsBound.{arguments_rule, callee, givens, is_called_late, late_arguments, member_called, member_takes, takes_arguments, term_of, variant_arguments}
use Rattle.bound_members.specs.bound_calls.specs.bound_forms.specs.Targets.{arguments_written, assigned, assigned_to, broken_target, fits_written, has_written_default, index_assigned, is_given_with, is_indexed_late, is_no_target, is_param_array, is_sub, is_written_member, late_written, member_written, named_written, set_by, takes_value, unwritten_rule, written_rule, wrong_written}
use Rattle.bound_members.specs.bound_calls.specs.declared.term.HostMember.{HostMember}
use Rattle.bound_members.specs.bound_calls.specs.declared.term.MemberCall.{MemberCall}
use Rattle.bound_members.specs.bound_calls.specs.declared.term.Item.TheVariants as item
use Rattle.bound_members.specs.bound_calls.specs.declared.term.Shape.{Shape}
use Rattle.bound_members.specs.bound_calls.specs.declared.term.Term.{Term}
use Rattle.bound_members.specs.bound_calls.specs.declared.term.Term.TheVariants as term
use Rattle.bound_members.specs.bound_calls.specs.declared.term.Tree.{Tree}
use Rattle.bound_members.specs.bound_calls.specs.Calls.{node_of}
use Rattle.bound_members.specs.bound_calls.specs.declared.term.Looked.{Looked}
use Rattle.bound_members.specs.bound_calls.specs.declared.term.Looked.TheVariants as looked
use Rattle.bound_members.specs.bound_calls.specs.Standing.{AllGiven, MemberNamed, MemberStands, NamesCame, Stands, TakesMember, member_is, names_looked, names_told, on_pieces}
use Rattle.bound_members.specs.bound_calls.specs.Shapes.{shape_given, shapes_given}
use Rattle.bound_members.specs.bound_calls.specs.Taking.{LooksUpBare, PushesSheet, broken_ending, sheet_expression}
use Rattle.bound_members.specs.bound_calls.proofs.Growing.{grown_pieces, grown_same, grown_twice}
use Rattle.bound_members.specs.bound_calls.proofs.Taking.{sheet_stands}
use Rattle.bound_members.proofs.Listing.{all_written}
use Rattle.bound_members.proofs.LateSteps.{as_late, found_named, late_given}
use Rattle.bound_members.proofs.MemberSteps.{arguments_long, called_late, values_of}
use Rattle.bound_members.proofs.Naming.{given_listed, given_long, none_named, some_named, zero_named}
use Rattle.bound_members.specs.Late.{LateCame}
use Rattle.bound_members.specs.MemberCalls.{EndsCall}
use Rattle.bound_members.specs.bound_calls.specs.bound_declarations.specs.constant_values.specs.declared_names.specs.binder.specs.Classes.{has_class}
use Rattle.statement_terms.specs.Called.{ActionIs, MayBe, item_before}
use Rattle.statement_terms.proofs.TargetsBefore.{before_member}
use Rattle.bound_project.specs.declared.declared_type.DeclaredType.TheVariants.{Plain}
use Rattle.bound_project.specs.declared.declared_type.ElementType.TheVariants.{Variant}
use Rattle.statement_terms.specs.Late.{IsGivenLate, LooksLate, SetsCall, SetsLate, is_written_late}
use Rattle.statement_terms.specs.Members.{AssignsIn, AssignsTerm, AssignsTree, GivesMember, IsReadNamed, IsWritten, WritesBroken, WritesCall, is_written, taken_rule}
use Rattle.statement_terms.proofs.Assigned.{a_target, bare_assigned, bare_given}

-- ---- which members are written

-- a member of an object of an unknown kind, one that gives an object with a default member, or an item
late_or_default : (late named object written item mark : Bool) → ((late || object) || item) ≡ true → written ≡ true → ((((late || named) || (object && written)) || item) || mark) ≡ true
late_or_default true named object written item mark h k = refl
late_or_default false true object written item mark h k = refl
late_or_default false false true true item mark h k = refl
late_or_default false false true false item mark h k = let e : false ≡ true = k in absurd cc
late_or_default false false false written true mark h k = refl
late_or_default false false false written false mark h k = let e : false ≡ true = h in absurd cc

-- ---- without arguments

bare_written : (env : Env) (place : Place) (object : bound.Expr) (m : plain.HostMember) (value : bound.Expr) (made : Action) → is_written_member m ≡ true → m.least ≡ 0 → arguments_written env place object m [] value ≡ Some made
    → member_written env place object m [] value ≡ Some made
bare_written env place object m value made w least given =
    let done : Option Action = arguments_written env place object m [] value in
    let wrong = wrong_written env place object (written_rule m []) [] value in
    ap (λ (b : Bool). or_else (if b && (m.least == 0) then done else None) wrong) w ∙ ap (λ (n : ℕ). or_else (if n == 0 then done else None) wrong) least ∙ ap (λ (o : Option Action). or_else o wrong) given

right_none : (b : Bool) → (b && false) ≡ false
right_none true = refl
right_none false = refl

-- of a member of the host that is given no object of a class, and of one that the run looks for
early_arguments : (env : Env) (place : Place) (object : bound.Expr) (m : plain.HostMember) (value : bound.Expr) → m.late ≡ false → may_be_instance env value ≡ false → arguments_written env place object m [] value ≡ Some (assign_member object m.name no_exprs value)
early_arguments env place object m value early free =
    let found = late_written env object m [] value in
    let done : Option Action = Some (assign_member object m.name no_exprs value) in
    let other = has_class env.scope.spaces && false in
    ap (λ (b : Bool). if b || (m.late || other) then found else done) free ∙ ap (λ (b : Bool). if b || other then found else done) early ∙ ap (λ (b : Bool). if b then found else done) (right_none (has_class env.scope.spaces))

late_arguments_bare : (env : Env) (place : Place) (object : bound.Expr) (m : plain.HostMember) (value : bound.Expr) → (may_be_instance env value || (m.late || (has_class env.scope.spaces && false))) ≡ true
    → arguments_written env place object m [] value ≡ Some (assign_late object m.name no_names none_given value)
late_arguments_bare env place object m value asked =
    ap (λ (b : Bool). if b then Some (assign_late object m.name no_names none_given value) else Some (assign_member object m.name no_exprs value)) asked

-- which of both is asked for
or_last : (a : Bool) → (a || true) ≡ true
or_last true = refl
or_last false = refl

late_asked : (env : Env) (late : Bool) (may : Option Bool) (value : bound.Expr) (other : Bool) → is_written_late late may ≡ Some true → MayBe env may value → (may_be_instance env value || (late || other)) ≡ true
late_asked env true may value other h k = or_last (may_be_instance env value)
late_asked env false None value other h k = let e : ◌≡◌ {A = Option Bool} None (Some true) = h in absurd cc
late_asked env false (Some true) value other h k = ap (λ (b : Bool). b || other) k
late_asked env false (Some false) value other h k = let e : Some false ≡ Some true = h in absurd cc

early_asked : (env : Env) (late : Bool) (may : Option Bool) (value : bound.Expr) → is_written_late late may ≡ Some false → MayBe env may value → (late ≡ false) × (may_be_instance env value ≡ false)
early_asked env true may value h k = let e : Some true ≡ Some false = h in absurd cc
early_asked env false None value h k = let e : ◌≡◌ {A = Option Bool} None (Some false) = h in absurd cc
early_asked env false (Some true) value h k = let e : Some true ≡ Some false = h in absurd cc
early_asked env false (Some false) value h k = (refl, k)

bare_fits : (t : Tables) (name : ℕ) (object value : bound.Expr) → action_of t (action.AssignMember name 0) (a_member object (name_in t name) 0 ∷ an_expr value ∷ []) ≡ Some (assign_member object (name_in t name) no_exprs value)
bare_fits t name object value =
    let n = name_in t name in
    ap (λ (b : Bool). if b then Some (assign_member object n no_exprs value) else None) (is_itself n no_exprs)

pub member_assigned : (has : Bool) (may : Option Bool) (m : HostMember) (place : Place) (d e : Drafted) → m.name < length d.tables.constants → m.least ≡ 0 → is_written (name_in d.tables m.name) (declared_view m.of) m.greatest ≡ true
    → is_written_late m.is_late may ≡ Some false → e ≡ record d { pieces = put d.tables (node_of (kinds.MemberThere m.name 0) place m.of) d.pieces } → AssignsTerm has may place (term.HostMember m) d e (action.AssignMember m.name 0) true
member_assigned has may m place d e there least written asked eq =
    let P : Drafted → Type 0 = λ (z : Drafted). AssignsTerm has may place (term.HostMember m) d z (action.AssignMember m.name 0) true in
    let t = d.tables in
    let M = member_is t m in
    subst P (sym eq) (record {
      grown = grown_pieces d (put t (node_of (kinds.MemberThere m.name 0) place m.of) d.pieces);
      named = there;
      takes = λ env z ps below h. ap (λ (y : plain.Term). takes_value env y) h.is;
      stands = λ env known z value goes h.
          let free = early_asked env m.is_late may value asked goes in
          let made = assign_member h.object M.name no_exprs value in
          record {
            made = made;
            is = ap (λ (y : plain.Term). assigned env place value [] y) h.is ∙ bare_written env place h.object M value made written least (early_arguments env place h.object M value free.0 free.1);
            fits = ap (λ (ps : List Piece). action_of t (action.AssignMember m.name 0) (of_value (λ x. a_member x (name_in t m.name) 0) ps)) h.on_top ∙ bare_fits t m.name h.object value;
          };
    })

-- one that the run looks for
pub looks_late : (m : HostMember) (aim : LateUse) (place : Place) (found : LateName) (d f e : Drafted) → LooksUpBare m.name d f found → e ≡ record f { pieces = put f.tables (node_of (kinds.LateThere aim found) place m.of) f.pieces } → LooksLate m aim d e found
looks_late m aim place found d f e b eq =
    let P : Drafted → Type 0 = λ (z : Drafted). LooksLate m aim d z found in
    let n = node_of (kinds.LateThere aim found) place m.of in
    subst P (sym eq) (record {
      grown = grown_twice d f (record f { pieces = put f.tables n f.pieces }) b.grown (grown_pieces f (put f.tables n f.pieces));
      named = b.named;
      sought = b.sought aim;
      none = b.none;
      stands = λ object below h. ap (λ (ps : List Piece). of_value (λ x. a_late x (sought_in f.tables aim found)) ps) (b.pieces ∙ h);
    })

pub member_late : (has : Bool) (may : Option Bool) (m : HostMember) (place : Place) (found : LateName) (d e : Drafted) → m.least ≡ 0 → is_written (name_in d.tables m.name) (declared_view m.of) m.greatest ≡ true → is_written_late m.is_late may ≡ Some true
    → LooksLate m Assigning d e found → AssignsTerm has may place (term.HostMember m) d e (action.AssignLate found) true
member_late has may m place found d e least written asked l =
    let M = member_is d.tables m in
    let s = sought_in e.tables Assigning found in
    record {
      grown = l.grown;
      named = l.named;
      takes = λ env z ps below h. ap (λ (y : plain.Term). takes_value env y) h.is;
      stands = λ env known z value goes h.
          let made = assign_late h.object M.name no_names none_given value in
          let ask = late_asked env m.is_late may value (has_class env.scope.spaces && false) asked goes in
          record {
            made = made;
            is = ap (λ (y : plain.Term). assigned env place value [] y) h.is ∙ bare_written env place h.object M value made written least (late_arguments_bare env place h.object M value ask);
            fits = ap (λ (ps : List Piece). action_of e.tables (action.AssignLate found) ps) (l.stands h.object (an_expr value ∷ []) h.on_top)
                ∙ late_action s (λ base given v. assign_late base s.name s.by given v) found.arguments h.object value [] l.none (ap (λ (q : Sought). q.given) l.sought)
                ∙ ap (λ (q : Sought). Some (assign_late h.object q.name q.by none_given value)) l.sought;
          };
    }

-- and one that is set
pub sets_member_late : (m : HostMember) (found : LateName) (d e : Drafted) → m.is_late ≡ true → LooksLate m Setting d e found → SetsLate m d e (action.SetLate found)
sets_member_late m found d e late l =
    let M = member_is d.tables m in
    let s = sought_in e.tables Setting found in
    record {
      grown = l.grown;
      named = l.named;
      stands = λ env place y value h. record {
        made = set_late h.object M.name no_names none_given value;
        is = ap (λ (z : plain.Term). set_by env place [] z value) h.is ∙ ap (λ (b : Bool). if b then Some (set_late h.object M.name no_names none_given value) else None) late;
        fits = ap (λ (ps : List Piece). action_of e.tables (action.SetLate found) ps) (l.stands h.object (an_expr value ∷ []) h.on_top)
            ∙ late_action s (λ base given v. set_late base s.name s.by given v) found.arguments h.object value [] l.none (ap (λ (q : Sought). q.given) l.sought)
            ∙ ap (λ (q : Sought). Some (set_late h.object q.name q.by none_given value)) l.sought;
      };
    }

-- what breaks a rule
pub writes_broken : (rule count all : ℕ) (place : Place) (d e : Drafted) → all ≡ 2 + count → e ≡ record d { pieces = put d.tables (node_of (broken_ending rule place (Plain Variant) all).kind place (broken_ending rule place (Plain Variant) all).of) d.pieces }
    → WritesBroken rule count place d e action.Evaluate
writes_broken rule count all place d e long eq =
    let N : ℕ → Node = λ (k : ℕ). node_of (broken_ending rule place (Plain Variant) k).kind place (broken_ending rule place (Plain Variant) k).of in
    let P : Drafted → Type 0 = λ (z : Drafted). WritesBroken rule count place d z action.Evaluate in
    subst P (sym eq) (record {
      grown = grown_pieces d (put d.tables (N all) d.pieces);
      named = tt;
      does = λ value object es counted on_top.
          let xs : List bound.Expr = value ∷ object ∷ es in
          let same : all ≡ length xs = omega (arith, long, counted) in
          ap (λ (k : ℕ). action_of d.tables action.Evaluate (put d.tables (N k) d.pieces)) same ∙ ap (λ (ps : List Piece). action_of d.tables action.Evaluate (put d.tables (N (length xs)) ps)) on_top
          ∙ ap (λ o. action_of d.tables action.Evaluate (of_found (λ (ys : Exprs). expr_of (N (length xs)) (marked (record { rule = rule; place = place }) ys)) o)) (exprs_are xs []);
    })

-- a member that breaks a rule isn't written
no_written : (written least : Bool) (rule : ℕ) (kept wrong : Option Action) (other : Option ℕ) → (if not least then Some 25 else if written then None else other) ≡ Some rule → or_else (if written && least then kept else None) wrong ≡ wrong
no_written true true rule kept wrong other h = let e : ◌≡◌ {A = Option ℕ} None (Some rule) = h in absurd cc
no_written true false rule kept wrong other h = refl
no_written false least rule kept wrong other h = refl

bare_broken : (env : Env) (place : Place) (object : bound.Expr) (m : plain.HostMember) (rule : ℕ) (value : bound.Expr) → written_rule m [] ≡ Some rule
    → member_written env place object m [] value ≡ Some (broken_target rule place value (also object no_exprs))
bare_broken env place object m rule value h =
    let done = arguments_written env place object m [] value in
    let wrong = wrong_written env place object (written_rule m []) [] value in
    no_written (is_written_member m) (m.least == 0) rule done wrong (unwritten_rule m.of) h ∙ ap (λ (o : Option ℕ). wrong_written env place object o [] value) h

pub member_broken : (has : Bool) (may : Option Bool) (m : HostMember) (rule : ℕ) (place : Place) (d e : Drafted) (kind : ActionKind) → Some rule ≡ written_rule (member_is d.tables m) [] → WritesBroken rule 0 place d e kind
    → AssignsTerm has may place (term.HostMember m) d e kind true
member_broken has may m rule place d e kind broken w = record {
  grown = w.grown;
  named = w.named;
  takes = λ env z ps below h. ap (λ (y : plain.Term). takes_value env y) h.is;
  stands = λ env known z value goes h.
      record {
        made = broken_target rule place value (also h.object no_exprs);
        is = ap (λ (y : plain.Term). assigned env place value [] y) h.is ∙ bare_broken env place h.object (member_is d.tables m) rule value (sym broken);
        fits = w.does value h.object [] refl h.on_top;
      };
}

-- the rule of a member with some arguments
given_rule_is : (m : plain.HostMember) (gs : List Given) → gs ≢ [] → written_rule m gs ≡ (if not (member_takes m gs) then arguments_rule m else taken_rule m)
given_rule_is m [] some = absurd (some refl)
given_rule_is m (g ∷ gs) some = refl

pub rule_taken : (m : plain.HostMember) (gs : List Given) (takes : Bool) (rule : Option ℕ) → gs ≢ [] → takes ≡ member_takes m gs → takes ≡ true → rule ≡ taken_rule m → rule ≡ written_rule m gs
rule_taken m gs takes rule some is true_is h = h ∙ sym (given_rule_is m gs some ∙ ap (λ (b : Bool). if not b then arguments_rule m else taken_rule m) (sym is ∙ true_is))

pub rule_refused : (m : plain.HostMember) (gs : List Given) (takes : Bool) (rule : Option ℕ) → gs ≢ [] → takes ≡ member_takes m gs → takes ≡ false → rule ≡ arguments_rule m → rule ≡ written_rule m gs
rule_refused m gs takes rule some is false_is h = h ∙ sym (given_rule_is m gs some ∙ ap (λ (b : Bool). if not b then arguments_rule m else taken_rule m) (sym is ∙ false_is))

pub some_shapes : (ss : List Shape) → ss ≢ [] → shapes_given ss ≢ []
some_shapes [] some h = some refl
some_shapes (s ∷ ss) some h = let e : shape_given s ∷ shapes_given ss ≡ [] = h in absurd cc

sheet_there : (m : HostMember) (d f : Drafted) → PushesSheet d f → (z : plain.Term) → z ≡ a_host_member sheet_expression (member_is d.tables m) → z ≡ a_host_member sheet_expression (member_is f.tables m)
sheet_there m d f s z h = h ∙ ap (λ (t : Tables). a_host_member sheet_expression (member_is t m)) (sym s.tables_are)

pub sheet_assigned : (has : Bool) (may : Option Bool) (m : HostMember) (place : Place) (d f e : Drafted) (kind : ActionKind) → PushesSheet d f → AssignsTerm has may place (term.HostMember m) f e kind true → AssignsTerm has may place (term.SheetMember m) d e kind true
sheet_assigned has may m place d f e kind s a = record {
  grown = grown_twice d f e s.grown a.grown;
  named = a.named;
  takes = λ env z ps below h. a.takes env z (an_expr sheet_expression ∷ ps) below (record { object = sheet_expression; is = sheet_there m d f s z h.0; on_top = ap (λ (qs : List Piece). an_expr sheet_expression ∷ qs) h.1 });
  stands = λ env known z value goes h. a.stands env known z value goes (sheet_stands m d f s env z (an_expr value ∷ []) h);
}

term_assigned : (has : Bool) (may : Option Bool) (x : Tree) (d e : Drafted) (kind : ActionKind) (given : Bool) → AssignsIn (declarations_view x.declared.now) has may x.place x.term d e kind given → AssignsTree has may x d e kind given
term_assigned has may x d e kind given a = record {
  grown = a.grown;
  named = a.named;
  takes = λ env tree below bare h. bare_given env tree bare ∙ a.takes env (term_of env tree) d.pieces below h.term_is;
  stands = λ env known tree value goes bare target h.
      let B : Place → Type 0 = λ (p : Place). ActionIs kind (assigned env p value [] (term_of env tree)) e.tables e.pieces in
      let m = subst B h.place_is (a.stands env known h.declared_is (term_of env tree) value goes h.term_is) in
      record { made = m.made; is = bare_assigned env tree value bare target ∙ m.is; fits = m.fits };
}

pub tree_assigned : (has : Bool) (may : Option Bool) (x : Tree) (t : Term) (d e : Drafted) (kind k : ActionKind) (given g : Bool) → x.term ≡ t → k ≡ kind → g ≡ given → AssignsIn (declarations_view x.declared.now) has may x.place t d e kind given → AssignsTree has may x d e k g
tree_assigned has may x t d e kind k given g is same flag a =
    let T : Term → Type 0 = λ (y : Term). AssignsIn (declarations_view x.declared.now) has may x.place y d e kind given in
    let K : ActionKind → Type 0 = λ (l : ActionKind). AssignsTree has may x d e l given in
    let G : Bool → Type 0 = λ (b : Bool). AssignsTree has may x d e k b in
    subst G (sym flag) (subst K (sym same) (term_assigned has may x d e kind given (subst T (sym is) a)))

-- ---- with arguments

some_fit : (m : plain.HostMember) (gs : List Given) → length gs ≢ 0 → takes_arguments m (length gs) ≡ true → has_written_default m.of ≡ true → fits_written m gs ≡ true
some_fit m [] some takes k = absurd (some refl)
some_fit m (g ∷ gs) some takes k = ap (λ (b : Bool). b && has_written_default m.of) takes ∙ k

-- a member with arguments is written with what these are
is_arguments : (env : Env) (place : Place) (object : bound.Expr) (m : plain.HostMember) (count : ℕ) (gs : List Given) (value : bound.Expr) → count ≡ length gs → count ≢ 0 → takes_arguments m count ≡ true → has_written_default m.of ≡ true
    → (not (is_some m.greatest) || is_object m.of || is_item_name m.name) ≡ true → (made : Action) → arguments_written env place object m gs value ≡ Some made → member_written env place object m gs value ≡ Some made
is_arguments env place object m count gs value long some takes k late made given =
    let N : ℕ → Type 0 = λ (n : ℕ). n ≢ 0 in
    let T : ℕ → Type 0 = λ (n : ℕ). takes_arguments m n ≡ true in
    let written : is_written_member m ≡ true =
    late_or_default (not (is_some m.greatest)) (bytes_eq m.name (codes "value")) (is_object m.of) (has_written_default m.of) (is_item_name m.name) (list_any (λ (w : plain.HostMember). bytes_eq m.name w.name) mark_members) late k in
    let fits : fits_written m gs ≡ true = some_fit m gs (subst N long some) (subst T long takes) k in
    let done = arguments_written env place object m gs value in
    let wrong = wrong_written env place object (written_rule m gs) gs value in
    ap (λ (b : Bool). or_else (if b && fits_written m gs then done else None) wrong) written ∙ ap (λ (b : Bool). or_else (if b then done else None) wrong) fits ∙ ap (λ (o : Option Action). or_else o wrong) given

-- arguments without names, in a project without a class
call_written : (env : Env) (place : Place) (object : bound.Expr) (m : plain.HostMember) (named : ℕ) (gs : List Given) (es : List bound.Expr) (value : bound.Expr) → NamesCame [] named gs → AllGiven (argument_of env type.variant) gs es
    → (may_be_instance env value || is_called_late env m gs) ≡ false → arguments_written env place object m gs value ≡ Some (assign_member object m.name (exprs_of es) value)
call_written env place object m named gs es value came values early =
    let done : Option Exprs → Option Action = λ (o : Option Exprs). option_map (λ (xs : Exprs). assign_member object m.name xs value) o in
    let found = late_written env object m gs value in
    let other : Option Action = if may_be_instance env value || is_called_late env m gs then found else done (variant_arguments env gs) in
    ap (λ (b : Bool). if b && not m.late then named_written env place object m gs value else other) (none_named named gs came)
    ∙ ap (λ (b : Bool). if b then found else done (variant_arguments env gs)) early ∙ ap done (given_listed (argument_of env type.variant) gs es values)

-- what a member of the host gives, of which the last arguments have names
by_name_written : (env : Env) (place : Place) (object : bound.Expr) (m : plain.HostMember) (gs : List Given) (made : bound.Node) (value : bound.Expr) → bytes_eq m.name (codes "raise") ≡ false → member_called env object m gs ≡ Some made → has_names gs ≡ true
    → m.late ≡ false → may_be_instance env value ≡ false → arguments_written env place object m gs value ≡ Some (assign_default (expression_of made place m.of) value)
by_name_written env place object m gs made value other called names early free =
    let done : Option bound.Node → Option Action = λ (o : Option bound.Node). option_map (λ (node : bound.Node). assign_default (expression_of node place m.of) value) o in
    let plainly : Option Action = if may_be_instance env value || is_called_late env m gs then late_written env object m gs value else option_map (λ (es : Exprs). assign_member object m.name es value) (variant_arguments env gs) in
    let may = may_be_instance env value in
    ap (λ (b : Bool). if b && not m.late then named_written env place object m gs value else plainly) names
    ∙ ap (λ (b : Bool). if not b then named_written env place object m gs value else plainly) early
    ∙ ap (λ (b : Bool). if b || may then None else done (member_called env object m gs)) other ∙ ap (λ (b : Bool). if b then None else done (member_called env object m gs)) free ∙ ap done called

-- a member that the run looks for
found_written : (env : Env) (place : Place) (object : bound.Expr) (m : plain.HostMember) (gs : List Given) (by : ByName) (given : bound.Given) (value : bound.Expr) → (has_names gs && not m.late) ≡ false → is_called_late env m gs ≡ true
    → given_by_name gs ≡ Some by → late_arguments env gs ≡ Some given → arguments_written env place object m gs value ≡ Some (assign_late object m.name by given value)
found_written env place object m gs by given value unnamed asked names arguments =
    let found : Option ByName → Option bound.Given → Option Action = λ o p. from_two (λ (how : ByName) (args : bound.Given). assign_late object m.name how args value) o p in
    let plainly : Option Action = option_map (λ (es : Exprs). assign_member object m.name es value) (variant_arguments env gs) in
    let may = may_be_instance env value in
    let whole = found (given_by_name gs) (late_arguments env gs) in
    let other : Option Action = if may || is_called_late env m gs then whole else plainly in
    ap (λ (b : Bool). if b then named_written env place object m gs value else other) unnamed
    ∙ ap (λ (b : Bool). if may || b then whole else plainly) asked ∙ ap (λ (b : Bool). if b then whole else plainly) (or_last may)
    ∙ ap (λ (o : Option ByName). found o (late_arguments env gs)) names ∙ ap (λ (p : Option bound.Given). found (Some by) p) arguments

-- an argument has no name, or the run finds the member
names_off : (late : Bool) (names : List (List ℕ)) (named : ℕ) (gs : List Given) → NamesCame names named gs → (late || (named == 0)) ≡ true → (has_names gs && not late) ≡ false
names_off true names named gs came h = right_none (has_names gs)
names_off false names named gs came h = ap (λ (b : Bool). b && true) (zero_named names named gs (eqb-true named 0 h) came)

call_fits : (t : Tables) (name given count : ℕ) (object value : bound.Expr) (es : List bound.Expr) (ps : List Piece) → count ≡ length es → given ≡ given_count (exprs_of es)
    → ps ≡ above (map an_expr es) (a_member object (name_in t name) given ∷ an_expr value ∷ []) → action_of t (action.AssignMember name count) ps ≡ Some (assign_member object (name_in t name) (exprs_of es) value)
call_fits t name given count object value es ps c g on_top =
    let n = name_in t name in
    let top : ps ≡ above (map an_expr es) (a_member object n (given_count (exprs_of es)) ∷ an_expr value ∷ []) = on_top ∙ ap (λ (k : ℕ). above (map an_expr es) (a_member object n k ∷ an_expr value ∷ [])) g in
    ap (λ (k : ℕ). member_found n (exprs_off k ps no_exprs)) c ∙ ap (λ (st : List Piece). member_found n (exprs_off (length es) st no_exprs)) top
    ∙ ap (λ o. member_found n o) (exprs_are es (a_member object n (given_count (exprs_of es)) ∷ an_expr value ∷ []))
    ∙ ap (λ (b : Bool). if b then Some (assign_member object n (exprs_of es) value) else None) (is_itself n (exprs_of es))

pub indexed_given : (env : Env) (base : Expr) (left right : Token) (args : Args) (object : bound.Expr) (m : plain.HostMember) → item_before env base ≡ a_host_member object m → is_given_with env (index base left args right) ≡ true
indexed_given env base left right args object m h =
    ap (λ (t : plain.Term). takes_value env t || is_indexed_late env (place_told base) t) (before_member env (place_told base) (givens env args) (callee env base (term_of env base)) object m h)

-- a member is no Sub
pub no_member_sub : (env : Env) (place : Place) (t : plain.Term) (object : bound.Expr) (m : plain.HostMember) → item_of env place t ≡ a_host_member object m → is_sub t ≡ false
no_member_sub env place (plain.a_routine space number p) object m h = let e : plain.a_routine space number p ≡ a_host_member object m = h in absurd cc
no_member_sub env place (plain.a_method base space number p) object m h = let e : plain.a_method base space number p ≡ a_host_member object m = h in absurd cc
no_member_sub env place t object m h = refl

member_target : (env : Env) (base : Expr) (left right : Token) (args : Args) (object : bound.Expr) (m : plain.HostMember) → item_before env base ≡ a_host_member object m → is_no_target env (index base left args right) ≡ false
member_target env base left right args object m h = ap (λ (b : Bool). b || is_param_array env (index base left args right)) (no_member_sub env (place_told base) (callee env base (term_of env base)) object m h)

pub indexed_assigned : (env : Env) (base : Expr) (left right : Token) (args : Args) (object : bound.Expr) (m : plain.HostMember) (value : bound.Expr) → item_before env base ≡ a_host_member object m
    → assigned_to env (index base left args right) value ≡ member_written env (place_told base) object m (givens env args) value
indexed_assigned env base left right args object m value h =
    let p = place_told base in
    a_target env (index base left args right) value (member_target env base left right args object m h)
    ∙ ap (λ (t : plain.Term). if takes_value env t then assigned env p value (givens env args) t else index_assigned env p t (givens env args) value)
    (before_member env p (givens env args) (callee env base (term_of env base)) object m h)

-- in a project without a class nothing is an object of one
no_instance_there : (env : Env) (value : bound.Expr) → has_class env.scope.spaces ≡ false → may_be_instance env value ≡ false
no_instance_there env (bound.expr node place of operand) none = ap (λ (b : Bool). b && (is_instance_type node of && not (is_of_host node))) none

no_class_there : (late has some : Bool) → some ≡ true → (late || (has && some)) ≡ false → has ≡ false
no_class_there true has some h k = let e : true ≡ false = k in absurd cc
no_class_there false has some h k = sym (and_last has) ∙ ap (λ (b : Bool). has && b) (sym h) ∙ k
  where
    and_last : (b : Bool) → (b && true) ≡ b
    and_last true = refl
    and_last false = refl

some_not : (n : ℕ) → n ≢ 0 → not (n == 0) ≡ true
some_not n h = ap not (ne_eqb n 0 h)

-- what is asked of a member with arguments before it is written
pub given_late : (x : MemberCall) → (x.member.is_late || (x.has_class && not (x.count == 0))) ≡ true → MatchBool (x.member.is_late || (x.named == 0)) (IsGivenLate x) (Unit {0})
given_late x called = by (x.member.is_late || (x.named == 0)) refl
  where
    by : (b : Bool) → (x.member.is_late || (x.named == 0)) ≡ b → MatchBool b (IsGivenLate x) (Unit {0})
    by true h = record { called = called; given = h }
    by false h = tt

pub read_named : (t : Tables) (x : MemberCall) (raises : Bool) → x.named ≢ 0 → x.member.is_late ≡ false → raises ≡ bytes_eq (name_in t x.member.name) (codes "raise") → MatchBool (not raises) (IsReadNamed t x) (Unit {0})
read_named t x true some early is = tt
read_named t x false some early is = record { some = some; early = early; gives = sym is }

pub known_none : (o : Option Bool) (may : Bool) → o ≡ Some may → MatchBool (not may) (o ≡ Some false) (Unit {0})
known_none o true is = tt
known_none o false is = is

-- an assignment to a member whose arguments have no names
pub writes_plain : (may : Option Bool) (x : MemberCall) (given : ℕ) (d : Drafted) → MemberNamed d.tables x → x.looked ≡ looked.Early None given → x.written ≡ given → (x.member.is_late || (x.has_class && not (x.count == 0))) ≡ false → IsWritten d.tables x
    → WritesCall may x d d (action.AssignMember x.member.name x.count)
writes_plain may x given d named is all early w = record {
  grown = grown_same d;
  named = named.0;
  stands = λ env base args value goes s.
      let t = d.tables in
      let m = member_is t x.member in
      let gs = givens env args in
      let place = place_told base in
      let v = values_of x.looked None given env t x s.object gs d.pieces (an_expr value ∷ []) is s.pushed in
      let N : Looked → Type 0 = λ (l : Looked). NamesCame (names_told t (names_looked l)) x.named gs in
      let back : length gs ≡ x.count = omega (arith, v.count_is, given_long (argument_of env type.variant) gs v.made v.values) in
      let none : has_class env.scope.spaces ≡ false = s.classes ∙ no_class_there x.member.is_late x.has_class (not (x.count == 0)) (some_not x.count w.some) early in
      let plainly : (may_be_instance env value || is_called_late env m gs) ≡ false = ap (λ (b : Bool). b || is_called_late env m gs) (no_instance_there env value none) ∙ called_late env t x gs s.classes back ∙ early in
      record {
        made = assign_member s.object m.name (exprs_of v.made) value;
        is = is_arguments env place s.object m x.count gs value (sym back) w.some w.takes w.default w.written (assign_member s.object m.name (exprs_of v.made) value)
            (call_written env place s.object m x.named gs v.made value (subst N is s.names) v.values plainly);
        fits = call_fits t x.member.name given x.count s.object value v.made d.pieces v.count_is (sym all ∙ sym (all_written v.made x.written v.written_is)) v.on_top;
      };
}

-- an assignment to a member that the run looks for
pub writes_given : (may : Option Bool) (x : MemberCall) (found : LateName) (d : Drafted) → MemberNamed d.tables x → x.looked ≡ looked.Late Assigning found → IsGivenLate x → LateCame d.tables x found → IsWritten d.tables x
    → WritesCall may x d d (action.AssignLate found)
writes_given may x found d named is late came w = record {
  grown = grown_same d;
  named = found_named d.tables x Assigning found is named;
  stands = λ env base args value goes s.
      let t = d.tables in
      let m = member_is t x.member in
      let gs = givens env args in
      let place = place_told base in
      let how = by_name_in t found.names in
      let q = sought_in t Assigning found in
      let N : Looked → Type 0 = λ (l : Looked). NamesCame (names_told t (names_looked l)) x.named gs in
      let names = subst N is s.names in
      let v = as_late x.looked Assigning found env t x s.object gs d.pieces (an_expr value ∷ []) is s.pushed in
      let g = late_given env t x Assigning found s.object gs d.pieces (an_expr value ∷ []) came names v in
      let name : name_in t found.name ≡ m.name = ap (name_in t) v.name_is in
      let made = assign_late s.object m.name how (given_of v.made) value in
      record {
        made = made;
        is = is_arguments env place s.object m x.count gs value (sym g.long) w.some w.takes w.default w.written made
            (found_written env place s.object m gs how (given_of v.made) value (names_off x.member.is_late how.names x.named gs names late.given) (called_late env t x gs s.classes g.long ∙ late.called) g.by_name g.arguments);
        fits = ap (λ (ps : List Piece). action_of t (action.AssignLate found) ps) v.on_top
            ∙ late_action q (λ b args e. assign_late b q.name q.by args e) found.arguments s.object value v.made g.count g.written ∙ ap (λ (word : List ℕ). Some (assign_late s.object word how (given_of v.made) value)) name;
      };
}

-- Set of one that the run finds
pub sets_call : (x : MemberCall) (found : LateName) (d : Drafted) → MemberNamed d.tables x → x.member.is_late ≡ true → x.looked ≡ looked.Late Setting found → LateCame d.tables x found → SetsCall x d (action.SetLate found)
sets_call x found d named late is came = record {
  named = found_named d.tables x Setting found is named;
  stands = λ env place base args value s.
      let t = d.tables in
      let m = member_is t x.member in
      let gs = givens env args in
      let how = by_name_in t found.names in
      let q = sought_in t Setting found in
      let N : Looked → Type 0 = λ (l : Looked). NamesCame (names_told t (names_looked l)) x.named gs in
      let v = as_late x.looked Setting found env t x s.object gs d.pieces (an_expr value ∷ []) is s.pushed in
      let g = late_given env t x Setting found s.object gs d.pieces (an_expr value ∷ []) came (subst N is s.names) v in
      let name : name_in t found.name ≡ m.name = ap (name_in t) v.name_is in
      let given : Option ByName → Option bound.Given → Option Action = λ o p. from_two (λ (by : ByName) (args : bound.Given). set_late s.object m.name by args value) o p in
      record {
        made = set_late s.object m.name how (given_of v.made) value;
        is = ap (λ (b : Bool). if b then given (given_by_name gs) (late_arguments env gs) else None) late
            ∙ ap (λ (o : Option ByName). given o (late_arguments env gs)) g.by_name ∙ ap (λ (p : Option bound.Given). given (Some how) p) g.arguments;
        fits = ap (λ (ps : List Piece). action_of t (action.SetLate found) ps) v.on_top
            ∙ late_action q (λ b args e. set_late b q.name q.by args e) found.arguments s.object value v.made g.count g.written ∙ ap (λ (word : List ℕ). Some (set_late s.object word how (given_of v.made) value)) name;
      };
}

-- an assignment to what a member gives whose last arguments have names
pub writes_named : (may : Option Bool) (x : MemberCall) (kind : NodeKind) (d e : Drafted) → may ≡ Some false → IsWritten d.tables x → IsReadNamed d.tables x → EndsCall d.tables x kind
    → e ≡ record d { pieces = put d.tables (node_of kind x.place x.member.of) d.pieces } → WritesCall may x d e action.AssignDefault
writes_named may x kind d e known w r ended eq =
    let t = d.tables in
    let n = node_of kind x.place x.member.of in
    let P : Drafted → Type 0 = λ (z : Drafted). WritesCall may x d z action.AssignDefault in
    subst P (sym eq) (record {
      grown = grown_pieces d (put t n d.pieces);
      named = tt;
      stands = λ env base args value goes s.
          let m = member_is t x.member in
          let gs = givens env args in
          let M : Option Bool → Type 0 = λ (o : Option Bool). MayBe env o value in
          let free : may_be_instance env value ≡ false = subst M known goes in
          let long : length gs ≡ x.count = arguments_long x.looked env t x s.object gs d.pieces (an_expr value ∷ []) s.pushed in
          let names = some_named (names_told t (names_looked x.looked)) x.named gs r.some s.names in
          let c = ended.stands env base args d.pieces (an_expr value ∷ []) s in
          let A : Place → Type 0 = λ (place : Place). ActionIs action.AssignDefault (member_written env place s.object m gs value) t (put t n d.pieces) in
          let made = assign_default (expression_of c.made x.place m.of) value in
          subst A s.place_is (record {
            made = made;
            is = is_arguments env x.place s.object m x.count gs value (sym long) w.some w.takes w.default w.written made (by_name_written env x.place s.object m gs c.made value r.gives c.is names r.early free);
            fits = ap (λ (ps : List Piece). action_of t action.AssignDefault ps) (c.ends n);
          });
    })

-- a member with its arguments, at the end of nodes
pub member_there : (env : Env) (t : Tables) (x : MemberCall) (base : Expr) (args : Args) (ps below : List Piece) → x.of_property ≡ false → (s : MemberStands env t x base args ps below) → item_before env base ≡ a_host_member s.object (member_is t x.member)
member_there env t x base args ps below plainly s =
    let M : Bool → Type 0 = λ (b : Bool). TakesMember b env (place_told base) (callee env base (term_of env base)) (a_host_member s.object (member_is t x.member)) in subst M plainly s.is

pub member_given : (env : Env) (may : Option Bool) (x : MemberCall) (kind : ActionKind) (left right : Token) (d e : Drafted) (is : List nodes.Item) (below : List Piece) → x.of_property ≡ false → WritesCall may x d e kind
    → Stands env d.tables (item.Member x ∷ []) is d.pieces (on_pieces below) → GivesMember env may (last_tree (behind_node (node.Index left right) is)) kind e.tables e.pieces below
member_given env may x kind left right d e [] below plainly w h = absurd h
member_given env may x kind left right d e (nodes.tree u ∷ is) below plainly w h = absurd h
member_given env may x kind left right d e (nodes.arguments args ∷ []) below plainly w h = absurd h
member_given env may x kind left right d e (nodes.arguments args ∷ nodes.arguments more ∷ is) below plainly w h = absurd h
member_given env may x kind left right d e (nodes.arguments args ∷ nodes.tree base ∷ is) below plainly w h =
    let s : MemberStands env d.tables x base args d.pieces h.0 = h.1.0 in
    let M = member_is d.tables x.member in
    let S : List Piece → Type 0 = λ (l : List Piece). MemberStands env d.tables x base args d.pieces l in
    record {
      given = indexed_given env base left right args s.object M (member_there env d.tables x base args d.pieces h.0 plainly s);
      does = λ value goes alone.
          let there : MemberStands env d.tables x base args d.pieces (an_expr value ∷ []) = subst S (h.1.1.1 ∙ alone) s in
          let done = w.stands env base args value goes there in
          record { made = done.made; is = indexed_assigned env base left right args there.object M value (member_there env d.tables x base args d.pieces (an_expr value ∷ []) plainly there) ∙ done.is; fits = done.fits };
    }
