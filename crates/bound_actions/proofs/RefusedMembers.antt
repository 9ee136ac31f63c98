-- Members of objects that are written or set with arguments that they don't take.
use Rattle.std.proofs.Common.{◌≡◌, ℕ, zero, suc, ◌+◌, ◌==◌, ◌<◌, Bool, true, false, ◌&&◌, ◌||◌, not, List, [], ◌∷◌, ◌++◌, map, length, Option, Some, None, is_some, option_map, if◌then◌else◌, refl, sym, ap, subst, ◌∙◌, arith}
use Rattle.std.specs.Prelude.{bytes_eq, codes}
use Rattle.std.proofs.lemmas.Bool.{and_parts}
use Rattle.std.proofs.lemmas.List.{length-map}
use Rattle.vba_base.specs.declared.place.Place.{Place}
use Rattle.vba_values.specs.Types as type
use Rattle.vba_expression.specs.Tree.{Expr, index}
use Rattle.vba_expression.specs.Nodes as nodes
use Rattle.vba_expression.specs.Nodes.{behind_node, behind_nodes, last_tree}
use Rattle.vba_expression.specs.declared.node.ExpressionNode.{ExpressionNode}
use Rattle.vba_expression.specs.declared.node.ExpressionNode.TheVariants as node
use Rattle.bound_project.specs.declared.statement.ActionKind.{ActionKind}
use Rattle.bound_project.specs.Drafts.{Drafted}
use Rattle.bound_project.specs.Expressions.{Exprs, also, marked}
use Rattle.bound_project.specs.Expressions as bound
use Rattle.bound_project.specs.Lists.{above, exprs_of}
use Rattle.bound_project.specs.Pieces.{Piece, an_expr}
use Rattle.bound_project.specs.Statements.{Action}
use Rattle.bound_project.specs.View.{declared_view}
use Rattle.vba_values.specs.Types.{Declared}
use Rattle.bound_project.specs.Statements as to
use Rattle.declared_names.specs.binder.specs.Options.{from_two, or_else}
use Rattle.bound_terms.specs.bound_accesses.specs.bound_names.specs.bound_members.specs.bound_calls.specs.bound_forms.specs.Terms.{Env, Given, a_host_member, a_value, has_names}
use Rattle.bound_terms.specs.bound_accesses.specs.bound_names.specs.bound_members.specs.bound_calls.specs.bound_forms.specs.Terms as plain
use Rattle.bound_terms.specs.bound_accesses.specs.bound_names.specs.bound_members.specs.bound_calls.specs.bound_forms.specs.Operands.{argument_of, if_there, may_be_instance, place_told}
use Rattle.bound_terms.specs.bound_accesses.specs.bound_names.specs.bound_members.specs.bound_calls.specs.bound_forms.specs.Members.{item_of}
use Rattle.bound_terms.specs.bound_accesses.specs.bound_names.specs.bound_members.specs.bound_calls.specs.bound_forms.specs.ExpressionsBound.{are_named_right, arguments_rule, callee, early_called, givens, indexed, is_called_late, late_called, member_called, member_takes, named_called, names_taken, takes_arguments, term_of, variant_arguments}
use Rattle.bound_terms.specs.bound_accesses.specs.bound_names.specs.bound_members.specs.bound_calls.specs.bound_forms.specs.Targets.{arguments_written, broken_target, fits_written, has_written_default, is_written_member, late_written, member_written, named_written, target_before, unwritten_rule, written_rule}
use Rattle.bound_terms.specs.bound_accesses.specs.bound_names.specs.bound_members.specs.bound_calls.specs.declared.term.HostMember.{HostMember}
use Rattle.bound_terms.specs.bound_accesses.specs.bound_names.specs.bound_members.specs.bound_calls.specs.declared.term.Refuser.TheVariants as refuser
use Rattle.bound_terms.specs.bound_accesses.specs.bound_names.specs.bound_members.specs.bound_calls.specs.declared.term.Shape.{Shape}
use Rattle.bound_terms.specs.bound_accesses.specs.bound_names.specs.bound_members.specs.bound_calls.specs.declared.term.Term.{Term}
use Rattle.bound_terms.specs.bound_accesses.specs.bound_names.specs.bound_members.specs.bound_calls.specs.declared.term.Term.TheVariants as term
use Rattle.bound_terms.specs.bound_accesses.specs.bound_names.specs.bound_members.specs.bound_calls.specs.Shapes.{AreShaped, shape_given, shapes_given}
use Rattle.bound_terms.specs.bound_accesses.specs.bound_names.specs.bound_members.specs.bound_calls.specs.Standing.{HostMemberStands, TermStands, ValueStands, member_is, refused_rule}
use Rattle.bound_terms.specs.bound_accesses.specs.bound_names.specs.bound_members.specs.bound_calls.specs.Taking.{broken_ending}
use Rattle.bound_terms.specs.bound_accesses.specs.bound_names.specs.bound_members.specs.bound_calls.proofs.Growing.{grown_twice}
use Rattle.bound_terms.specs.bound_accesses.specs.bound_names.specs.bound_members.specs.bound_calls.proofs.Growing as growing
use Rattle.bound_terms.specs.bound_accesses.specs.bound_names.specs.bound_members.specs.bound_calls.proofs.Lacking.{told_view}
use Rattle.bound_terms.specs.bound_accesses.specs.bound_names.specs.bound_members.specs.bound_calls.proofs.Shaping.{member_same, rule_shaped, shapes_long}
use Rattle.bound_terms.specs.bound_accesses.specs.bound_names.specs.bound_members.proofs.Naming.{given_listed, given_long}
use Rattle.bound_terms.specs.bound_accesses.specs.Items.{MakesItem}
use Rattle.bound_terms.specs.bound_operands.proofs.Untaking.{marked_ends}
use Rattle.bound_terms.proofs.Refused.{member_refused}
use Rattle.statement_terms.specs.Called.{args_on, item_before}
use Rattle.statement_terms.specs.Members.{AssignsItem, GivesMember, WritesBroken}
use Rattle.statement_terms.specs.Setting.{SetsTerm}
use Rattle.statement_terms.proofs.NodeTrees.{behind_push}
use Rattle.statement_terms.proofs.WrittenMembers.{indexed_assigned, indexed_given}
use Rattle.bound_actions.specs.Refused.{RefusesSet, RefusesWritten}
use Rattle.bound_actions.specs.Untaken.{ReadsUntaken}

-- ---- the rule

-- arguments of the same shapes break the same rule
rule_same : (m : plain.HostMember) (ss : List Shape) (gs : List Given) → AreShaped ss gs → written_rule m (shapes_given ss) ≡ written_rule m gs
rule_same m [] [] h = refl
rule_same m [] (g ∷ gs) h = absurd h
rule_same m (s ∷ ss) [] h = absurd h
rule_same m (s ∷ ss) (g ∷ gs) h =
    ap (λ (b : Bool). if not b then arguments_rule m else if is_written_member m && has_written_default m.of then None else unwritten_rule m.of) (member_same m (s ∷ ss) (g ∷ gs) h)

-- names that a member which takes as many arguments doesn't take
names_none : (a n : Bool) (names : Option bound.ByName) → a ≡ true → (a && (not n || is_some names)) ≡ false → (n ≡ true) × (names ≡ None)
names_none true true None a h = (refl, refl)
names_none true true (Some by) a h = let e : true ≡ false = h in absurd cc
names_none true false names a h = let e : true ≡ false = h in absurd cc
names_none false n names a h = let e : false ≡ true = a in absurd cc

never_refused : (a n : Bool) → a ≡ true → (a && (not n || true)) ≡ false → ⊥
never_refused true true a h = let e : true ≡ false = h in absurd cc
never_refused true false a h = let e : true ≡ false = h in absurd cc
never_refused false n a h = let e : false ≡ true = a in absurd cc

refused_names : (m : plain.HostMember) (o : Option ℕ) (gs : List Given) → takes_arguments (record m { greatest = o }) (length gs) ≡ true → member_takes (record m { greatest = o }) gs ≡ false
    → (has_names gs ≡ true) × (names_taken (record m { greatest = o }) gs ≡ None)
refused_names m None gs a h = absurd (never_refused (takes_arguments (record m { greatest = None }) (length gs)) (has_names gs) a h)
refused_names m (Some zero) gs a h = absurd (never_refused (takes_arguments (record m { greatest = Some zero }) (length gs)) (has_names gs) a h)
refused_names m (Some (suc k)) gs a h =
    let x : plain.HostMember = record m { greatest = Some (suc k) } in
    names_none (takes_arguments x (length gs)) (has_names gs) (names_taken x gs) a h

either : (b : Bool) (none : Option Action) → (if b then none else none) ≡ none
either true none = refl
either false none = refl

no_node : (b : Bool) (none : Option bound.Node) → (if b then none else none) ≡ none
no_node true none = refl
no_node false none = refl

-- nothing is called by names that aren't taken
called_none : (env : Env) (object : bound.Expr) (m : plain.HostMember) (gs : List Given) → has_names gs ≡ true → names_taken m gs ≡ None → member_called env object m gs ≡ None
called_none env object m gs names none =
    let early = early_called env object m gs in
    let late = late_called env object m gs in
    let plainly : Option bound.Node = option_map (λ es. bound.host_member object m.name es) (variant_arguments env gs) in
    let unnamed : early ≡ None =
    ap (λ (b : Bool). if b then named_called env object m gs else plainly) names ∙ ap (λ (o : Option bound.ByName). from_two (λ by es. bound.named_member object m.name by es) o (variant_arguments env gs)) none in
    let wrong : are_named_right m gs ≡ false = ap (λ (b : Bool). not b || is_some (names_taken m gs)) names ∙ ap (λ (o : Option bound.ByName). is_some o) none in
    ap (λ (o : Option bound.Node). if not (is_called_late env m gs) then o else if are_named_right m gs then late else None) unnamed
    ∙ ap (λ (b : Bool). if not (is_called_late env m gs) then None else if b then late else None) wrong ∙ no_node (not (is_called_late env m gs)) None

-- nothing is written by names that aren't taken
by_none : (env : Env) (place : Place) (object : bound.Expr) (m : plain.HostMember) (gs : List Given) (value : bound.Expr) → has_names gs ≡ true → m.late ≡ false → names_taken m gs ≡ None → arguments_written env place object m gs value ≡ None
by_none env place object m gs value names early none =
    let plainly : Option Action =
    if may_be_instance env value || is_called_late env m gs then late_written env object m gs value else option_map (λ es. to.assign_member object m.name es value) (variant_arguments env gs) in
    let done : Option bound.Node → Option Action = λ o. option_map (λ node. to.assign_default (plain.expression_of node place m.of) value) o in
    let raises = bytes_eq m.name (codes "raise") || may_be_instance env value in
    ap (λ (b : Bool). if b && not m.late then named_written env place object m gs value else plainly) names
    ∙ ap (λ (b : Bool). if not b then named_written env place object m gs value else plainly) early
    ∙ ap (λ (o : Option bound.Node). if raises then None else done o) (called_none env object m gs names none) ∙ either raises None

-- ---- what isn't written

not_kept : (w f : Bool) (kept : Option Action) → (w ≡ true → f ≡ true → kept ≡ None) → (if w && f then kept else None) ≡ None
not_kept true true kept h = h refl refl
not_kept true false kept h = refl
not_kept false f kept h = refl

no_rule : (a : Bool) (one : Option ℕ) (rule : ℕ) → a ≡ true → (if not a then one else None) ≡ Some rule → ⊥
no_rule true one rule a h = let e : ◌≡◌ {A = Option ℕ} None (Some rule) = h in absurd cc
no_rule false one rule a h = let e : false ≡ true = a in absurd cc

-- a member that breaks a rule isn't written, with what these are
unwritten : (env : Env) (place : Place) (object : bound.Expr) (m : plain.HostMember) (gs : List Given) (rule : ℕ) (value : bound.Expr) → m.late ≡ false → written_rule m gs ≡ Some rule → is_written_member m ≡ true → fits_written m gs ≡ true
    → arguments_written env place object m gs value ≡ None
unwritten env place object m [] rule value early h written fits =
    let least : (if not (m.least == 0) then Some 25 else None) ≡ Some rule = ap (λ (b : Bool). if not (m.least == 0) then Some 25 else if b then None else unwritten_rule m.of) (sym written) ∙ h in
    absurd (no_rule (m.least == 0) (Some 25) rule fits least)
unwritten env place object m (g ∷ gs) rule value early h written fits =
    let all = g ∷ gs in
    let f = and_parts (takes_arguments m (length all)) (has_written_default m.of) fits in
    let default : (is_written_member m && has_written_default m.of) ≡ true = ap (λ (b : Bool). b && has_written_default m.of) written ∙ f.1 in
    let broken : (if not (member_takes m all) then arguments_rule m else None) ≡ Some rule =
    ap (λ (b : Bool). if not (member_takes m all) then arguments_rule m else if b then None else unwritten_rule m.of) (sym default) ∙ h in
    at (member_takes m all) refl broken f.0
  where
    at : (b : Bool) → member_takes m (g ∷ gs) ≡ b → (if not (member_takes m (g ∷ gs)) then arguments_rule m else None) ≡ Some rule → takes_arguments m (length (g ∷ gs)) ≡ true → arguments_written env place object m (g ∷ gs) value ≡ None
    at true e broken takes = absurd (no_rule (member_takes m (g ∷ gs)) (arguments_rule m) rule e broken)
    at false e broken takes = let r = refused_names m m.greatest (g ∷ gs) takes e in by_none env place object m (g ∷ gs) value r.0 early r.1

broken_written : (env : Env) (place : Place) (object : bound.Expr) (m : plain.HostMember) (gs : List Given) (rule : ℕ) (es : Exprs) (value : bound.Expr) → m.late ≡ false → written_rule m gs ≡ Some rule → variant_arguments env gs ≡ Some es
    → member_written env place object m gs value ≡ Some (broken_target rule place value (also object es))
broken_written env place object m gs rule es value early h given =
    let wrong : Option ℕ → Option Exprs → Option Action = λ (r : Option ℕ) (o : Option Exprs). from_two (λ n xs. broken_target n place value (also object xs)) r o in
    let kept = not_kept (is_written_member m) (fits_written m gs) (arguments_written env place object m gs value) (unwritten env place object m gs rule value early h) in
    ap (λ (o : Option Action). or_else o (wrong (written_rule m gs) (variant_arguments env gs))) kept ∙ ap (λ (r : Option ℕ). wrong r (variant_arguments env gs)) h ∙ ap (λ (o : Option Exprs). wrong (Some rule) o) given

-- ---- what is made

pub written_refused : (env : Env) (place : Place) (m : HostMember) (rule count : ℕ) (ns : List ExpressionNode) (ss : List Shape) (d f e : Drafted) (kind : ActionKind) → m.name < length d.tables.constants → m.is_late ≡ false → ReadsUntaken env ns d f ss
    → Some rule ≡ written_rule (member_is f.tables m) (shapes_given ss) → count ≡ length ss → WritesBroken rule count place f e kind → RefusesWritten env place m ns d e kind
written_refused env place m rule count ns ss d f e kind there early r breaks counted w = record {
  grown = grown_twice d f e r.grown w.grown;
  named = w.named;
  framed = r.framed;
  does = λ items object value on_top.
      let gs = givens env (args_on items ns) in
      let s = r.stands items in
      let M = member_is d.tables m in
      let same : M ≡ member_is f.tables m = growing.member_same d.tables f.tables r.grown.tables m there in
      let broken : written_rule M gs ≡ Some rule = ap (λ (x : plain.HostMember). written_rule x gs) same ∙ sym (rule_same (member_is f.tables m) ss gs s.shaped) ∙ sym breaks in
      let given : variant_arguments env gs ≡ Some (exprs_of s.made) = given_listed (argument_of env type.variant) gs s.made s.values in
      let long : length s.made ≡ count = omega (arith, counted, length-map ss shape_given, shapes_long ss gs s.shaped, given_long (argument_of env type.variant) gs s.made s.values) in
      record {
        made = broken_target rule place value (also object (exprs_of s.made));
        is = broken_written env place object M gs rule (exprs_of s.made) value early broken given;
        fits = w.does value object s.made long (s.on_top ∙ ap (λ (ps : List Piece). above (map an_expr s.made) ps) on_top);
      };
}

pub set_refused : (env : Env) (word place : Place) (m : HostMember) (rule count values : ℕ) (ns : List ExpressionNode) (ss : List Shape) (d f e : Drafted) (kind : ActionKind) → m.name < length d.tables.constants → ReadsUntaken env ns d f ss
    → Some rule ≡ refused_rule f.tables (refuser.Member m) (shapes_given ss) → count ≡ length ss → values ≡ count + 1 → SetsTerm word place (term.Value (broken_ending rule place m.of values)) f e kind → RefusesSet env word place m ns d e kind
set_refused env word place m rule count values ns ss d f e kind there r breaks counted more k =
    record {
      grown = grown_twice d f e r.grown k.grown;
      named = k.named;
      framed = r.framed;
      does = λ items object value on_top.
          let gs = givens env (args_on items ns) in
          let p = r.stands items in
          let M = member_is d.tables m in
          let N = member_is f.tables m in
          let all : List bound.Expr = object ∷ p.made in
          let same : M ≡ N = growing.member_same d.tables f.tables r.grown.tables m there in
          let broken : refused_rule f.tables (refuser.Member m) gs ≡ Some rule = sym (rule_shaped f.tables (refuser.Member m) ss gs p.shaped) ∙ sym breaks in
          let given : variant_arguments env gs ≡ Some (exprs_of p.made) = given_listed (argument_of env type.variant) gs p.made p.values in
          let long : values ≡ length all = omega (arith, more, counted, length-map ss shape_given, shapes_long ss gs p.shaped, given_long (argument_of env type.variant) gs p.made p.values) in
          let top : f.pieces ≡ above (map an_expr all) (an_expr value ∷ []) = p.on_top ∙ ap (λ (ps : List Piece). above (map an_expr p.made) ps) on_top in
          let is : indexed env place (a_host_member object M) gs ≡ plain.broken_call rule place (declared_view m.of) (exprs_of all) =
          ap (λ (x : plain.HostMember). indexed env place (a_host_member object x) gs) same ∙ member_refused env place object N gs rule broken
          ∙ ap (λ (o : Option Exprs). if_there (option_map (λ es. plain.broken_call rule place (declared_view m.of) (also object es)) o)) given in
          let t : ValueStands f.tables (broken_ending rule place m.of values) (indexed env place (a_host_member object M) gs) f.pieces (an_expr value ∷ []) = record {
            made = marked (record { rule = rule; place = place }) (exprs_of all);
            is = is ∙ ap (λ (u : Declared). a_value (marked (record { rule = rule; place = place }) (exprs_of all)) u) (sym (told_view m.of));
            ends = marked_ends f.tables rule values place m.of all f.pieces (an_expr value ∷ []) long top;
          } in
          k.stands env (indexed env place (a_host_member object M) gs) value t;
    }

-- ---- what is called

pub item_refused : (env : Env) (may : Option Bool) (place : Place) (y : Term) (m : HostMember) (ns : List ExpressionNode) (kind : ActionKind) (d h e : Drafted) → MakesItem env place y d h (term.HostMember m) → RefusesWritten env place m ns h e kind → AssignsItem env may place y ns d e kind
item_refused env may place y m ns kind d h e made r = record {
  grown = grown_twice d h e made.grown r.grown;
  named = r.named;
  stands = λ tree left right below at k.
      let z = callee env tree (term_of env tree) in
      let items = nodes.tree tree ∷ [] in
      let args = args_on items ns in
      let A : Place → Type 0 = λ (p : Place). TermStands env h.tables (term.HostMember m) (item_of env p z) h.pieces below in
      let there : HostMemberStands h.tables m (item_before env tree) h.pieces below = subst A at (made.stands z below k) in
      let M = member_is h.tables m in
      let is : index tree left args right ≡ last_tree (behind_nodes items (ns ++ node.Index left right ∷ [])) =
      sym (ap last_tree (behind_push items ns (node.Index left right)) ∙ ap (λ (l : List nodes.Item). last_tree (behind_node (node.Index left right) l)) (r.framed items)) in
      let P : Expr → Type 0 = λ (t : Expr). GivesMember env may t kind e.tables e.pieces below in
      subst P is (record {
        given = indexed_given env tree left right args there.object M there.is;
        does = λ value goes alone.
            let done = r.does items there.object value (there.on_top ∙ ap (λ (ps : List Piece). an_expr there.object ∷ ps) alone) in
            let at_place : member_written env (place_told tree) there.object M (givens env args) value ≡ member_written env place there.object M (givens env args) value =
            ap (λ (p : Place). member_written env p there.object M (givens env args) value) (sym at) in
            record { made = done.made; is = indexed_assigned env tree left right args there.object M value there.is ∙ at_place ∙ done.is; fits = done.fits };
      });
}
