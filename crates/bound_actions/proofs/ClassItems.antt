-- What arguments behind an object of a class lead to, where it is assigned to or set.
use Rattle.std.proofs.Common.{◌≡◌, ℕ, zero, suc, ◌<◌, ◌==◌, Bool, true, false, ◌&&◌, ◌||◌, List, [], ◌∷◌, ◌++◌, map, length, Option, Some, None, option_map, if◌then◌else◌, refl, sym, ap, subst, ◌∙◌, arith, eq-eqb}
use Rattle.std.specs.Prelude.{option_and_then}
use Rattle.std.proofs.lemmas.List.{length-map}
use Rattle.vba_base.specs.declared.place.Place.{Place}
use Rattle.vba_lexer.specs.declared.token.Token.{Token}
use Rattle.vba_values.specs.Types as type
use Rattle.vba_values.specs.Types.{Declared}
use Rattle.vba_expression.specs.Tree.{Args, Expr, index, no_args}
use Rattle.vba_expression.specs.Nodes as nodes
use Rattle.vba_expression.specs.Nodes.{behind_node, behind_nodes, last_tree, tree_in}
use Rattle.vba_expression.specs.declared.node.ExpressionNode.{ExpressionNode}
use Rattle.vba_expression.specs.declared.node.ExpressionNode.TheVariants as node
use Rattle.bound_project.specs.declared.statement.ActionKind.{ActionKind}
use Rattle.bound_project.specs.Bodies.{action_of}
use Rattle.bound_project.specs.Drafts.{ActionNamed, Drafted}
use Rattle.bound_project.specs.Expressions.{Exprs, Lvalue, also, element_along, late_item, value_place}
use Rattle.bound_project.specs.Expressions as bound
use Rattle.bound_project.specs.Lists.{above, exprs_of}
use Rattle.bound_project.specs.Pieces.{Piece, Tables, a_place, an_expr, put}
use Rattle.bound_project.specs.Project as project
use Rattle.bound_project.specs.Statements.{assign_element, set_element}
use Rattle.bound_project.specs.View.{declared_view}
use Rattle.declared_names.specs.binder.specs.Classes.{has_class}
use Rattle.bound_terms.specs.bound_accesses.specs.bound_names.specs.bound_members.specs.bound_calls.specs.bound_forms.specs.ClassDefaults.{Known, breaks, class_let, class_set, declared_in, known}
use Rattle.bound_terms.specs.bound_accesses.specs.bound_names.specs.bound_members.specs.bound_calls.specs.bound_forms.specs.Terms.{Env, Given, a_value, expression_of, read_of}
use Rattle.bound_terms.specs.bound_accesses.specs.bound_names.specs.bound_members.specs.bound_calls.specs.bound_forms.specs.Terms as plain
use Rattle.bound_terms.specs.bound_accesses.specs.bound_names.specs.bound_members.specs.bound_calls.specs.bound_forms.specs.Operands.{are_places, argument_of, fits_bounds, given_as, place_told}
use Rattle.bound_terms.specs.bound_accesses.specs.bound_names.specs.bound_members.specs.bound_calls.specs.bound_forms.specs.Members.{item_of}
use Rattle.bound_terms.specs.bound_accesses.specs.bound_names.specs.bound_members.specs.bound_calls.specs.bound_forms.specs.ExpressionsBound.{callee, givens, indexed, term_of, variant_arguments}
use Rattle.bound_terms.specs.bound_accesses.specs.bound_names.specs.bound_members.specs.bound_calls.specs.bound_forms.specs.Targets.{assigned, broken_led, broken_target, class_of_term, index_assigned, is_indexed_late, is_param_array, is_sub, led_assigned, led_set, takes_value, target_before}
use Rattle.bound_terms.specs.bound_accesses.specs.bound_names.specs.bound_members.specs.bound_calls.specs.declared.term.Ending.{Ending}
use Rattle.bound_terms.specs.bound_accesses.specs.bound_names.specs.bound_members.specs.bound_calls.specs.declared.term.Indexed.{Indexed}
use Rattle.bound_terms.specs.bound_accesses.specs.bound_names.specs.bound_members.specs.bound_calls.specs.declared.term.Item.TheVariants as item
use Rattle.bound_terms.specs.bound_accesses.specs.bound_names.specs.bound_members.specs.bound_calls.specs.declared.term.Shape.{Shape}
use Rattle.bound_terms.specs.bound_accesses.specs.bound_names.specs.bound_members.specs.bound_calls.specs.declared.term.Target.{Target}
use Rattle.bound_terms.specs.bound_accesses.specs.bound_names.specs.bound_members.specs.bound_calls.specs.declared.term.Target.TheVariants as target
use Rattle.bound_terms.specs.bound_accesses.specs.bound_names.specs.bound_members.specs.bound_calls.specs.declared.term.Term.{Term}
use Rattle.bound_terms.specs.bound_accesses.specs.bound_names.specs.bound_members.specs.bound_calls.specs.declared.term.Term.TheVariants as term
use Rattle.bound_terms.specs.bound_accesses.specs.bound_names.specs.bound_members.specs.bound_calls.specs.declared.term.Tree.{Tree}
use Rattle.bound_terms.specs.bound_accesses.specs.bound_names.specs.bound_members.specs.bound_calls.specs.Calls.{node_of}
use Rattle.bound_terms.specs.bound_accesses.specs.bound_names.specs.bound_members.specs.bound_calls.specs.class_defaults.specs.Items.{ArePlain}
use Rattle.bound_terms.specs.bound_accesses.specs.bound_names.specs.bound_members.specs.bound_calls.specs.Indexing.{OpensTerm}
use Rattle.bound_terms.specs.bound_accesses.specs.bound_names.specs.bound_members.specs.bound_calls.specs.References.{TakesGiven}
use Rattle.bound_terms.specs.bound_accesses.specs.bound_names.specs.bound_members.specs.bound_calls.specs.Shapes.{AreShaped, shape_given, shapes_given}
use Rattle.bound_terms.specs.bound_accesses.specs.bound_names.specs.bound_members.specs.bound_calls.specs.Standing.{Grown, IndexedStands, LedAsPlace, NumbersStand, PlaceLed, Stands, TargetStands, TermStands, on_pieces}
use Rattle.bound_terms.specs.bound_accesses.specs.bound_names.specs.bound_members.specs.bound_calls.proofs.Growing.{grown_pieces, grown_twice}
use Rattle.bound_terms.specs.bound_accesses.specs.bound_names.specs.bound_members.specs.bound_calls.specs.declared.term.Refuser.TheVariants as refuser
use Rattle.bound_project.specs.declared.declared_type.DeclaredType.TheVariants.{ArrayOf}
use Rattle.bound_project.specs.declared.declared_type.ElementType.TheVariants as element
use Rattle.bound_terms.specs.bound_accesses.specs.bound_names.specs.bound_members.specs.bound_calls.proofs.Shaping.{rule_shaped, shapes_long}
use Rattle.bound_terms.specs.bound_accesses.specs.bound_names.specs.bound_members.proofs.Naming.{given_listed, given_long}
use Rattle.bound_terms.specs.bound_accesses.specs.bound_names.specs.Callee.{CalleeIs, NoWriter}
use Rattle.bound_terms.specs.bound_accesses.specs.bound_names.specs.declared.properties.Part.TheVariants as part
use Rattle.bound_terms.specs.bound_accesses.specs.Items.{KeepsItem}
use Rattle.bound_terms.specs.bound_operands.specs.Leading.{PushesLedPlace}
use Rattle.bound_terms.specs.bound_operands.proofs.Elements.{led_are, no_item_host, place_led, same_place}
use Rattle.bound_terms.specs.bound_operands.proofs.ElementEnds.{so_many}
use Rattle.bound_terms.specs.bound_operands.proofs.LedItems.{places_many}
use Rattle.statement_terms.specs.declared.trees.Split.{Split}
use Rattle.statement_terms.specs.Called.{ActionIs, args_on, item_before}
use Rattle.statement_terms.specs.Heights.{AddsOne}
use Rattle.statement_terms.specs.Members.{WritesBroken}
use Rattle.statement_terms.proofs.Assigned.{a_target}
use Rattle.statement_terms.proofs.NodeTrees.{behind_push}
use Rattle.statement_terms.proofs.SetTargets.{set_there_is, split_led}
use Rattle.bound_actions.specs.ClassItems.{BeginsAt, GivesKnown, GivesLed, LeadsOn, LedAt, RefusesLed, element_by, element_done, element_kind, led_count, led_done, led_known, term_class}
use Rattle.bound_actions.specs.LateItems.{ReadsIndexed}
use Rattle.bound_actions.specs.Behind.{AssignsBehind, AssignsWhole, SetsBehind}
use Rattle.bound_actions.specs.LateSets.{SetsIndexed}
use Rattle.bound_actions.specs.declared.property_targets.Before.{Before}
use Rattle.bound_actions.proofs.Behind.{index_target, kept_args, whole_closed}
use Rattle.bound_actions.proofs.LateItems.{some_numbers}
use Rattle.bound_actions.specs.Untaken.{ReadsUntaken}
use Rattle.bound_actions.proofs.Assigned.{item_action, untaken}
use Rattle.bound_actions.proofs.ClassTerms.{class_late, class_stands, index_led, item_class}

-- ---- arguments begin

pub begins_opened : (env : Env) (x : Tree) (y : Term) (d e : Drafted) (i : Indexed) → OpensTerm env x y d e (item.Indexed i) → BeginsAt env x.place y d e i
begins_opened env x y d e i o = record {
  grown = o.grown;
  stands = λ tree below at h.
      let s = o.stands tree [] [] below (on_pieces below) at h (refl, refl) in
      let S : List Piece → Type 0 = λ (ps : List Piece). IndexedStands env i tree no_args e.pieces ps in subst S s.1.1.1 s.1.0;
}

pub begins_led : (env : Env) (all : project.Declarations) → declared_in env.scope ≡ all → (place : Place) (v : Ending) (count : ℕ) (e f : Drafted) (i : Indexed) → PushesLedPlace all count v place e f i → BeginsAt env place (term.Value v) e f i
begins_led env all alike place v count e f i p = record { grown = p.grown; stands = λ tree below at h. p.stands env alike tree below at h }

-- ---- and lead on

place_done : (sets : Bool) (at : Lvalue) (es : Exprs) (u : Declared) (lends makes : Bool) (v : bound.Expr) → element_by sets (plain.a_place (element_along at es) u 0 lends makes) v ≡ Some (element_done sets at es v)
place_done false at es u lends makes v = refl
place_done true at es u lends makes v = refl

value_done : (sets : Bool) (whole : bound.Expr) (es : Exprs) (u : Declared) (v : bound.Expr) → element_by sets (a_value (late_item whole es) u) v ≡ Some (element_done sets (value_place whole) es v)
value_done false whole es u v = refl
value_done true whole es u v = refl

-- the arguments that were read, by what they lead on from
led_by : (env : Env) (more : Indexed) (e : Drafted) (base : Expr) (args : Args) (left right : Token) (below : List Piece) (known_of : ℕ) (t : Target) → more.target ≡ t → led_count t ≡ Some known_of → (more.count ≡ 0 → ⊥) → more.count ≡ known_of
    → Stands env e.tables (item.Indexed more ∷ []) (nodes.arguments args ∷ nodes.tree base ∷ []) e.pieces (on_pieces below) → LedAt env base (index base left args right) left right more.count e.pieces below
led_by env more e base args left right below known_of (target.PlaceLed n) is leads some same h =
    let s : IndexedStands env more base args e.pieces h.0 = h.1.0 in
    let gs = givens env args in
    let es = exprs_of s.made in
    let p = place_told base in
    let z = callee env base (term_of env base) in
    let T : Target → Type 0 = λ (y : Target). TargetStands env y more.of more.bounds more.lends more.makes p z s.between h.0 in
    let N : Target → Type 0 = λ (y : Target). NumbersStand env y gs s.made in
    let q : PlaceLed env n more.of more.lends more.makes p z s.between h.0 = subst T is s.target_is in
    let numbers = subst N is s.numbers in
    let there : Some n ≡ Some known_of = leads in
    let n_is : known_of ≡ n = cc in
    let enough : more.count ≡ n = same ∙ n_is in
    let plainly = so_many env more n gs s.made enough s.count_is numbers in
    let K : ℕ → Type 0 = λ (k : ℕ). ArePlain k gs in
    let along = led_are env gs s.made numbers (some_numbers more.count (length s.made) some s.count_is) in
    let indexed_is : indexed env p (item_of env p z) gs ≡ plain.a_place (element_along q.at es) (declared_view more.of) 0 more.lends more.makes =
    ap (λ (y : plain.Term). indexed env p (item_of env p y) gs) q.is
    ∙ ap (λ (y : plain.Term). indexed env p y gs) (same_place env p q.at q.whole q.bounds more.lends more.makes (no_item_host env (read_of more.makes q.at) p q.whole q.no_host))
    ∙ place_led env p q.at q.whole q.bounds more.lends more.makes gs (declared_view more.of) es (q.leads gs plainly) along in
    record {
      args = args;
      whole_is = refl;
      plain = subst K (sym enough) plainly;
      at = q.at;
      numbers = s.made;
      count_is = s.count_is;
      does = λ sets v. ap (λ (y : plain.Term). element_by sets y v) indexed_is ∙ place_done sets q.at es (declared_view more.of) more.lends more.makes v;
      on_top = s.on_top ∙ ap (λ (ps : List Piece). above (map an_expr s.made) ps) (q.on_top ∙ ap (λ (ps : List Piece). a_place q.at ∷ ps) h.1.1.1);
    }
led_by env more e base args left right below known_of (target.LedAsPlace n) is leads some same h =
    let s : IndexedStands env more base args e.pieces h.0 = h.1.0 in
    let gs = givens env args in
    let es = exprs_of s.made in
    let p = place_told base in
    let z = callee env base (term_of env base) in
    let T : Target → Type 0 = λ (y : Target). TargetStands env y more.of more.bounds more.lends more.makes p z s.between h.0 in
    let N : Target → Type 0 = λ (y : Target). NumbersStand env y gs s.made in
    let q : LedAsPlace env n more.of p z s.between h.0 = subst T is s.target_is in
    let numbers = subst N is s.numbers in
    let there : Some n ≡ Some known_of = leads in
    let n_is : known_of ≡ n = cc in
    let enough : more.count ≡ n = same ∙ n_is in
    let plainly = so_many env more n gs s.made enough s.count_is numbers in
    let K : ℕ → Type 0 = λ (k : ℕ). ArePlain k gs in
    let along = led_are env gs s.made numbers (some_numbers more.count (length s.made) some s.count_is) in
    record {
      args = args;
      whole_is = refl;
      plain = subst K (sym enough) plainly;
      at = value_place q.whole;
      numbers = s.made;
      count_is = s.count_is;
      does = λ sets v. ap (λ (y : plain.Term). element_by sets y v) (q.is gs es plainly along) ∙ value_done sets q.whole es (declared_view more.of) v;
      on_top = s.on_top ∙ ap (λ (ps : List Piece). above (map an_expr s.made) ps) (q.on_top ∙ ap (λ (ps : List Piece). a_place (value_place q.whole) ∷ ps) h.1.1.1);
    }
led_by env more e base args left right below known_of t is leads some same h = let none : ◌≡◌ {A = Option ℕ} None (Some known_of) = leads in absurd cc

led_at : (env : Env) (more : Indexed) (e : Drafted) (base : Expr) (added : nodes.Item) (left right : Token) (below : List Piece) (known_of : ℕ) → led_count more.target ≡ Some known_of → (more.count ≡ 0 → ⊥) → more.count ≡ known_of
    → Stands env e.tables (item.Indexed more ∷ []) (added ∷ nodes.tree base ∷ []) e.pieces (on_pieces below) → LedAt env base (last_tree (behind_node (node.Index left right) (added ∷ nodes.tree base ∷ []))) left right more.count e.pieces below
led_at env more e base (nodes.tree u) left right below known_of leads some same h = absurd h
led_at env more e base (nodes.arguments args) left right below known_of leads some same h = led_by env more e base args left right below known_of more.target refl leads some same h

pub leads_on : (env : Env) (place : Place) (x : Term) (ns : List ExpressionNode) (begun more : Indexed) (d e f : Drafted) (known_of : ℕ) → BeginsAt env place x d e begun → AddsOne ns → ReadsIndexed env begun ns e f more
    → led_count more.target ≡ Some known_of → (more.count ≡ 0 → ⊥) → more.count ≡ known_of → LeadsOn env place x ns d f more.count
leads_on env place x ns begun more d e f known_of b one r leads some same = record {
  grown = grown_twice d e f b.grown r.goes.grown;
  stands = λ base left right below at k.
      let items = nodes.tree base ∷ [] in
      let start = b.stands base below at k in
      let s = r.goes.stands (nodes.arguments no_args ∷ items) (on_pieces below) (below, (start, (refl, refl))) in
      let same_items : behind_nodes (nodes.arguments no_args ∷ items) r.behind ≡ one.added ∷ items = sym (ap (λ (l : List ExpressionNode). behind_nodes items l) r.is) ∙ one.is items in
      let S : List nodes.Item → Type 0 = λ (l : List nodes.Item). Stands env f.tables (item.Indexed more ∷ []) l f.pieces (on_pieces below) in
      let led = led_at env more f base one.added left right below known_of leads some same (subst S same_items s) in
      let whole : last_tree (behind_nodes items (ns ++ node.Index left right ∷ [])) ≡ last_tree (behind_node (node.Index left right) (one.added ∷ items)) =
      ap last_tree (behind_push items ns (node.Index left right)) ∙ ap (λ (l : List nodes.Item). last_tree (behind_node (node.Index left right) l)) (one.is items) in
      let W : Expr → Type 0 = λ (t : Expr). LedAt env base t left right more.count f.pieces below in
      subst W (sym whole) led;
}

-- ---- where it is known what they lead to

element_fits : (sets : Bool) (t : Tables) (at : Lvalue) (value : bound.Expr) (count : ℕ) (es : List bound.Expr) (ps : List Piece) → count ≡ length es → ps ≡ above (map an_expr es) (a_place at ∷ an_expr value ∷ [])
    → action_of t (element_kind sets count) ps ≡ Some (element_done sets at (exprs_of es) value)
element_fits false t at value count es ps counted top = item_action t (λ q xs w. assign_element q xs w) at value count es ps counted top
element_fits true t at value count es ps counted top = item_action t (λ q xs w. set_element q xs w) at value count es ps counted top

element_named : (sets : Bool) (t : Tables) (count : ℕ) → ActionNamed t (element_kind sets count)
element_named false t count = tt
element_named true t count = tt

pub gives_known : (sets : Bool) (env : Env) (place : Place) (x : Term) (ns : List ExpressionNode) (d e : Drafted) (numbers count : ℕ) (kind : ActionKind) → LeadsOn env place x ns d e numbers → numbers ≡ count → kind ≡ element_kind sets numbers
    → GivesKnown sets env place x count ns d e kind
gives_known sets env place x ns d e numbers count kind led same is =
    let G : ActionKind → Type 0 = λ (k : ActionKind). GivesKnown sets env place x count ns d e k in
    subst G (sym is) (record {
      grown = led.grown;
      named = element_named sets e.tables numbers;
      stands = λ base left right below at h.
          let m = led.stands base left right below at h in
          let K : ℕ → Type 0 = λ (k : ℕ). ArePlain k (givens env m.args) in
          record {
            args = m.args;
            whole_is = m.whole_is;
            plain = subst K same m.plain;
            does = λ value alone.
                record {
                  made = element_done sets m.at (exprs_of m.numbers) value;
                  is = m.does sets value;
                  fits = element_fits sets e.tables m.at value numbers m.numbers e.pieces m.count_is (m.on_top ∙ ap (λ (ps : List Piece). above (map an_expr m.numbers) (a_place m.at ∷ ps)) alone);
                };
          };
    })

-- so that is done
done_known : (sets : Bool) (env : Env) (all : project.Declarations) (number : ℕ) (place : Place) (t : plain.Term) (gs : List Given) (v : bound.Expr) (of : Declared) → declared_in env.scope ≡ all → led_known sets all number gs ≡ known of
    → led_done sets env number place t gs v ≡ element_by sets (indexed env place t gs) v
done_known false env all number place t gs v of alike h = ap (λ (k : Known). led_assigned env k place t gs v) (ap (λ (c : project.Declarations). class_let c number gs) alike ∙ h)
done_known true env all number place t gs v of alike h = ap (λ (k : Known). led_set env k place t gs v) (ap (λ (c : project.Declarations). class_set c number gs) alike ∙ h)

pub led_given : (sets : Bool) (env : Env) (all : project.Declarations) → declared_in env.scope ≡ all → (place : Place) (x : Term) (number count : ℕ) (of : Declared) (ns : List ExpressionNode) (d e : Drafted) (kind : ActionKind)
    → ((gs : List Given) → ArePlain count gs → led_known sets all number gs ≡ known of) → GivesKnown sets env place x count ns d e kind → GivesLed sets env place x number ns d e kind
led_given sets env all alike place x number count of ns d e kind leads g = record {
  grown = g.grown;
  named = g.named;
  stands = λ base left right below at h.
      let m = g.stands base left right below at h in
      let gs = givens env m.args in
      record {
        args = m.args;
        whole_is = m.whole_is;
        does = λ value alone.
            let done = m.does value alone in
            record {
              made = done.made;
              is = done_known sets env all number (place_told base) (item_before env base) gs value of alike (leads gs m.plain) ∙ done.is;
              fits = done.fits;
            };
      };
}

-- ---- and where they break a rule

-- arguments that are numbers by their shapes are numbers
shaped_places : (t : Tables) (ss : List Shape) (gs : List Given) → AreShaped ss gs → are_places (shapes_given ss) ≡ true → are_places gs ≡ true
shaped_places t ss gs h p =
    by_test (are_places gs) (fits_bounds 0 gs) (sym (ap (λ (b : Bool). if b && fits_bounds 0 (shapes_given ss) then None else Some 25) p) ∙ rule_shaped t (refuser.Value (ArrayOf element.Boolean) 0) ss gs h)
  where
    by_test : (b c : Bool) → ◌≡◌ {A = Option ℕ} None (if b && c then None else Some 25) → b ≡ true
    by_test true c e = refl
    by_test false c e = absurd cc

pub refuses_led : (env : Env) (place : Place) (x : Term) (rule count long : ℕ) (ns : List ExpressionNode) (ss : List Shape) (v : Ending) (d m n f e : Drafted) (kind : ActionKind) → TakesGiven x place d m v
    → n ≡ record m { pieces = put m.tables (node_of v.kind place v.of) m.pieces } → ReadsUntaken env ns n f ss → long ≡ length ss → are_places (shapes_given ss) ≡ true → long ≡ count → WritesBroken rule long place f e kind
    → RefusesLed env place x rule count ns d e kind
refuses_led env place x rule count long ns ss v d m n f e kind t eq r counted places same w =
    let pushed : Drafted = record m { pieces = put m.tables (node_of v.kind place v.of) m.pieces } in
    let G = grown_pieces m pushed.pieces in
    record {
      grown = grown_twice d n e (grown_twice d m n t.grown (subst (λ (q : Drafted). Grown m q) (sym eq) G)) (grown_twice n f e r.grown w.grown);
      named = w.named;
      framed = r.framed;
      does = λ items y value h.
          let gs = givens env (args_on items ns) in
          let s = r.stands items in
          let g = t.stands env y (an_expr value ∷ []) h in
          let object = expression_of g.made place (declared_view v.of) in
          let there : n.pieces ≡ an_expr object ∷ an_expr value ∷ [] = ap (λ (q : Drafted). q.pieces) eq ∙ g.ends (node_of v.kind place v.of) in
          let many : length gs ≡ count = omega (arith, same, counted, length-map ss shape_given, shapes_long ss gs s.shaped) in
          let written : are_places gs ≡ true = shaped_places m.tables ss gs s.shaped places in
          let made_long : length s.made ≡ long = omega (arith, counted, length-map ss shape_given, shapes_long ss gs s.shaped, given_long (argument_of env type.variant) gs s.made s.values) in
          record {
            plain = places_many count gs (ap (λ (b : Bool). b && (length gs == count)) written ∙ eq-eqb (length gs) count many);
            object = object;
            object_is = g.is;
            made = exprs_of s.made;
            made_is = given_listed (argument_of env type.variant) gs s.made s.values;
            fits = w.does value object s.made made_long (s.on_top ∙ ap (λ (ps : List Piece). above (map an_expr s.made) ps) there);
          };
    }

done_broken : (sets : Bool) (env : Env) (all : project.Declarations) (number rule : ℕ) (place : Place) (t : plain.Term) (gs : List Given) (v object : bound.Expr) (made : Exprs) → declared_in env.scope ≡ all → led_known sets all number gs ≡ breaks rule
    → given_as env t place ≡ Some object → variant_arguments env gs ≡ Some made → led_done sets env number place t gs v ≡ Some (broken_target rule place v (also object made))
done_broken sets env all number rule place t gs v object made alike h given arguments =
    at sets h ∙ ap (λ (o : Option bound.Expr). option_and_then (λ q. broken_led env rule place gs q v) o) given ∙ ap (λ (o : Option Exprs). option_map (λ es. broken_target rule place v (also object es)) o) arguments
  where
    at : (b : Bool) → led_known b all number gs ≡ breaks rule → led_done b env number place t gs v ≡ option_and_then (λ q. broken_led env rule place gs q v) (given_as env t place)
    at false k = ap (λ (q : Known). led_assigned env q place t gs v) (ap (λ (c : project.Declarations). class_let c number gs) alike ∙ k)
    at true k = ap (λ (q : Known). led_set env q place t gs v) (ap (λ (c : project.Declarations). class_set c number gs) alike ∙ k)

pub led_refused : (sets : Bool) (env : Env) (all : project.Declarations) → declared_in env.scope ≡ all → (place : Place) (x : Term) (number count rule : ℕ) (ns : List ExpressionNode) (d e : Drafted) (kind : ActionKind) → term_class x ≡ Some number
    → ((gs : List Given) → ArePlain count gs → led_known sets all number gs ≡ breaks rule) → RefusesLed env place x rule count ns d e kind → GivesLed sets env place x number ns d e kind
led_refused sets env all alike place x number count rule ns d e kind class leads r = record {
  grown = r.grown;
  named = r.named;
  stands = λ base left right below at h.
      let items = nodes.tree base ∷ [] in
      let args = args_on items ns in
      let gs = givens env args in
      let z = callee env base (term_of env base) in
      let p = place_told base in
      let itself : item_before env base ≡ z = item_class env p z number (class_stands env d.tables x z d.pieces below h ∙ class) in
      record {
        args = args;
        whole_is = ap last_tree (behind_push items ns (node.Index left right)) ∙ ap (λ (l : List nodes.Item). last_tree (behind_node (node.Index left right) l)) (r.framed items);
        does = λ value alone.
            let H : List Piece → Type 0 = λ (ps : List Piece). TermStands env d.tables x z d.pieces ps in
            let m = r.does items z value (subst H alone h) in
            let A : Place → Type 0 = λ (q : Place). ActionIs kind (led_done sets env number q (item_before env base) gs value) e.tables e.pieces in
            subst A at (record {
              made = broken_target rule place value (also m.object m.made);
              is = ap (λ (y : plain.Term). led_done sets env number place y gs value) itself ∙ done_broken sets env all number rule place z gs value m.object m.made alike (leads gs m.plain) m.object_is m.made_is;
              fits = m.fits;
            });
      };
}

-- ---- statements

pub assigns_class : (has : Bool) (env : Env) (may : Option Bool) → has_class env.scope.spaces ≡ has → (x : Before) (split : Split) (number : ℕ) (d e : Drafted) (kind : ActionKind) → AddsOne split.arguments.now → NoWriter part.Let env.scope x.term → KeepsItem has d.tables x.term
    → term_class x.term ≡ Some number → GivesLed false env x.tree.place x.term number split.arguments.now d e kind → AssignsBehind env may x split d e kind true
assigns_class has env may known_class x split number d e kind one none kept class led =
    let ns = split.arguments.now in
    record {
      grown = led.grown;
      named = led.named;
      stands = λ base left right below closed b.
          let z = callee env base (term_of env base) in
          let p = place_told base in
          let m = led.stands base left right below b.there.place_is b.called in
          let tree = index base left m.args right in
          let gs = givens env m.args in
          let t = target_before env base gs in
          let u = item_before env base in
          let whole = whole_closed base ns split.closed.now left right closed in
          let same : t ≡ u = kept_args env base ns split.closed.now left right one m.args closed (whole ∙ m.whole_is) b.kept in
          let takes : takes_value env t ≡ false = ap (λ (q : plain.Term). takes_value env q) same ∙ untaken has env known_class d.tables p x.term z d.pieces below kept none b.called in
          let of_class : class_of_term z ≡ Some number = class_stands env d.tables x.term z d.pieces below b.called ∙ class in
          let t_class : class_of_term t ≡ Some number = ap class_of_term (same ∙ item_class env p z number of_class) ∙ of_class in
          let W : Expr → Type 0 = λ (q : Expr). AssignsWhole env may q kind true e.tables e.pieces below in
          subst W (sym (whole ∙ m.whole_is)) (record {
            takes = ap (λ (c : Bool). c || is_indexed_late env p t) takes ∙ class_late env p t number t_class;
            does = λ value goes alone.
                let done = m.does value alone in
                record {
                  made = done.made;
                  is = a_target env tree value (index_target env base left right m.args b.no_sub) ∙ ap (λ (c : Bool). if c then assigned env p value gs t else index_assigned env p t gs value) takes
                      ∙ index_led env p t gs value number t_class ∙ ap (λ (q : plain.Term). led_done false env number p q gs value) same ∙ done.is;
                  fits = done.fits;
                };
          });
    }

pub sets_class : (word : Place) (env : Env) (x : Before) (split : Split) (number : ℕ) (d e : Drafted) (kind : ActionKind) → AddsOne split.arguments.now → term_class x.term ≡ Some number → GivesLed true env x.tree.place x.term number split.arguments.now d e kind
    → SetsBehind env word x split d e kind
sets_class word env x split number d e kind one class led =
    let ns = split.arguments.now in
    record {
      grown = led.grown;
      named = led.named;
      stands = λ base left right below closed b.
          let z = callee env base (term_of env base) in
          let p = place_told base in
          let m = led.stands base left right below b.there.place_is b.called in
          let tree = index base left m.args right in
          let gs = givens env m.args in
          let t = target_before env base gs in
          let whole = whole_closed base ns split.closed.now left right closed in
          let same : t ≡ item_before env base = kept_args env base ns split.closed.now left right one m.args closed (whole ∙ m.whole_is) b.kept in
          let of_class : class_of_term z ≡ Some number = class_stands env d.tables x.term z d.pieces below b.called ∙ class in
          let t_class : class_of_term t ≡ Some number = ap class_of_term (same ∙ item_class env p z number of_class) ∙ of_class in
          let W : Expr → Type 0 = λ (q : Expr). SetsIndexed env word q kind e.tables e.pieces below in
          subst W (sym (whole ∙ m.whole_is)) (λ value alone.
          let done = m.does value alone in
          record {
            made = done.made;
            is = set_there_is word env tree value b.no_sub ∙ split_led word env base left right m.args value number t_class ∙ ap (λ (q : plain.Term). led_done true env number p q gs value) same ∙ done.is;
            fits = done.fits;
          });
    }
