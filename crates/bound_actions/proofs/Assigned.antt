-- What the value of an assignment goes to.
use Rattle.std.proofs.Common.{◌≡◌, ℕ, Bool, true, false, List, [], ◌∷◌, ◌++◌, map, length, Option, Some, None, is_some, option_map, if◌then◌else◌, refl, sym, ap, subst, ◌∙◌}
use Rattle.std.specs.Prelude.{◌||◌, IfSome, option_and_then}
use Rattle.std.proofs.lemmas.List.{map-append}
use Rattle.vba_base.specs.declared.place.Place.{Place}
use Rattle.vba_values.specs.Types.{Declared}
use Rattle.vba_expression.specs.Tree.{Expr, index}
use Rattle.vba_expression.specs.Nodes as nodes
use Rattle.vba_expression.specs.Nodes.{tree_in}
use Rattle.vba_expression.specs.declared.node.ExpressionNode.{ExpressionNode}
use Rattle.vba_values.specs.Types as type
use Rattle.bound_project.specs.declared.declarations.Parameter.{Parameter}
use Rattle.bound_project.specs.declared.statement.ActionKind.{ActionKind}
use Rattle.bound_project.specs.declared.statement.ActionKind.TheVariants as action
use Rattle.bound_project.specs.Bodies.{element_found}
use Rattle.bound_project.specs.Expressions.{Exprs, Lvalue, late_item, no_exprs, value_place}
use Rattle.bound_project.specs.Expressions as bound
use Rattle.bound_project.specs.Project as project
use Rattle.bound_project.specs.Statements.{Action, assign_element}
use Rattle.bound_project.specs.Lists.{above, exprs_of}
use Rattle.bound_project.proofs.Lists.{exprs_are}
use Rattle.bound_project.specs.View.{declared_view, parameter_view}
use Rattle.bound_project.specs.Pieces.{Piece, Tables, a_place, an_expr, exprs_off}
use Rattle.bound_project.specs.Drafts.{Drafted}
use Rattle.declared_names.specs.binder.specs.Classes.{has_class}
use Rattle.declared_names.specs.binder.specs.Declarations.{Written}
use Rattle.declared_names.specs.binder.specs.Options.{or_else}
use Rattle.declared_names.specs.binder.specs.Scopes.{Space}
use Rattle.declared_names.specs.binder.specs.Signatures.{parameters_in, setter, writer}
use Rattle.declared_names.specs.binder.specs.Storage.{procedure_number}
use Rattle.declared_names.specs.binder.specs.Types.{is_object}
use Rattle.bound_terms.specs.bound_accesses.specs.bound_names.specs.bound_members.specs.bound_calls.specs.bound_forms.specs.Terms.{Env, Given, a_value, routine_term, takes}
use Rattle.bound_terms.specs.bound_accesses.specs.bound_names.specs.bound_members.specs.bound_calls.specs.bound_forms.specs.Terms as plain
use Rattle.bound_terms.specs.bound_accesses.specs.bound_names.specs.bound_members.specs.bound_calls.specs.bound_forms.specs.Operands.{argument_of, behind_base, place_told}
use Rattle.bound_terms.specs.bound_accesses.specs.bound_names.specs.bound_members.specs.bound_calls.specs.bound_forms.specs.Members.{item_of}
use Rattle.bound_terms.specs.bound_accesses.specs.bound_names.specs.bound_members.specs.bound_calls.specs.bound_forms.specs.ExpressionsBound.{callee, givens, indexed, term_of}
use Rattle.bound_terms.specs.bound_accesses.specs.bound_names.specs.bound_members.specs.bound_calls.specs.bound_forms.specs.Targets.{assigned, broken_target, class_of_term, given_behind, index_assigned, is_no_target, is_param_array, is_indexed_late, is_sub, property_given, set_by, takes_value, target_before, untaken as not_taken}
use Rattle.declared_names.specs.View.{space_view, written_view}
use Rattle.bound_terms.specs.bound_accesses.specs.bound_names.specs.bound_members.specs.bound_calls.specs.declared.term.Property.{Property}
use Rattle.bound_terms.specs.bound_accesses.specs.bound_names.specs.bound_members.specs.bound_calls.specs.declared.term.Receiver.{Receiver}
use Rattle.bound_terms.specs.bound_accesses.specs.bound_names.specs.bound_members.specs.bound_calls.specs.declared.term.Term.{Term}
use Rattle.bound_terms.specs.bound_accesses.specs.bound_names.specs.bound_members.specs.bound_calls.specs.declared.term.Term.TheVariants as term
use Rattle.bound_terms.specs.bound_accesses.specs.bound_names.specs.bound_members.specs.bound_calls.specs.declared.term.Tree.{Tree}
use Rattle.bound_terms.specs.bound_accesses.specs.bound_names.specs.bound_members.specs.bound_calls.specs.Calls.{PassesRest, PushesReceiver}
use Rattle.bound_terms.specs.bound_accesses.specs.bound_names.specs.bound_members.specs.bound_calls.specs.Standing.{IsReceiver, PropertyStands, ReceiverStands, TermStands, TreeStands}
use Rattle.bound_terms.specs.bound_accesses.specs.bound_names.specs.bound_members.specs.bound_calls.specs.Steps.{Leaves}
use Rattle.bound_terms.specs.bound_accesses.specs.bound_names.specs.bound_members.specs.bound_calls.proofs.Growing.{grown_twice}
use Rattle.bound_terms.specs.bound_accesses.specs.bound_names.specs.bound_members.specs.bound_calls.proofs.Reading.{given_whole, let_whole}
use Rattle.bound_terms.specs.bound_accesses.specs.bound_names.specs.bound_members.specs.bound_calls.proofs.Refusing.{refused}
use Rattle.bound_terms.specs.bound_accesses.specs.bound_names.specs.declared.properties.Part.TheVariants as part
use Rattle.bound_terms.specs.bound_accesses.specs.bound_names.specs.declared.properties.Writer.{Writer}
use Rattle.bound_terms.specs.bound_accesses.specs.bound_names.specs.Callee.{CalleeIs, IsWriter, NoWriter, Unwritten, WriterOf, property_in}
use Rattle.bound_terms.specs.bound_accesses.specs.Items.{ItemKept, KeepsItem, is_member, lacks_item}
use Rattle.bound_terms.specs.bound_accesses.specs.bound_names.specs.bound_members.specs.bound_calls.specs.declared.term.Ending.{Ending}
use Rattle.statement_terms.specs.declared.assigning.PropertyLet.{PropertyLet}
use Rattle.statement_terms.specs.declared.trees.Split.{Split}
use Rattle.statement_terms.specs.Called.{ActionIs, AssignsTo, IsBare, LeavesAlone, Lets, LetsOn, LetsTaken, LetsWith, SplitAt, args_on, is_method, item_before, let_with, property_gets, property_kind}
use Rattle.statement_terms.specs.Heights.{AddsOne}
use Rattle.statement_terms.specs.Members.{AssignsItem}
use Rattle.statement_terms.specs.Targets.{IndexedLate, IsLateValue}
use Rattle.statement_terms.proofs.WrittenTargets.{late_value_indexed}
use Rattle.statement_terms.proofs.Assigned.{a_target, all_is, bare_assigned, bare_given, base_there, index_at, item_itself, let_done, let_made, passes_front, property_named, property_of, split_assigned, split_given}
use Rattle.statement_terms.proofs.Called.{index_is}
use Rattle.statement_terms.proofs.NodeTrees.{continued}
use Rattle.bound_actions.specs.Assigning.{AssignsItemOf, ItemGiven, GivesProperty, part_for}
use Rattle.bound_actions.specs.ClassItems.{term_class}
use Rattle.bound_actions.specs.LateItems.{LeadsFrom}
use Rattle.bound_actions.proofs.ClassTerms.{class_stands, index_plain, kept_class, kept_led}
use Rattle.bound_actions.proofs.Behind.{args_of, index_target, indexed_whole, kept_added, kept_args, tree_behind, whole_added, whole_closed, whole_framed}
use Rattle.bound_actions.specs.Behind.{AssignsBehind, AssignsWhole}
use Rattle.bound_actions.specs.NoTargets.{BreaksProcedure}
use Rattle.bound_actions.specs.declared.property_targets.Before.{Before}

-- ---- properties that are assigned to

-- an object is set to a property
pub set_of : (env : Env) (place : Place) (gs : List Given) (v : bound.Expr) (base : Option bound.Expr) (space : Space) (number : ℕ) (w : Written)
    → set_by env place gs (routine_term base space number w) v ≡ option_and_then (given_behind (λ (of : Declared). true) env base place space gs v) (setter env.scope space w)
set_of env place gs v None space number w = refl
set_of env place gs v (Some b) space number w = refl

-- what a property does that is given a value, by its procedure
gets_is : (sets : Bool) (env : Env) (place : Place) (v : bound.Expr) (gs : List Given) (base : Option bound.Expr) (w : Writer) (number : ℕ) (front : List project.Parameter) (last : project.Parameter) → IsWriter (part_for sets) env.scope w
    → parameters_in env.scope (space_view w.property.space.now) (written_view w.written) ≡ front ++ last ∷ []
    → property_gets sets env place v gs (routine_term base (space_view w.property.space.now) number (written_view w.property.written))
    ≡ let_with env place (sets || is_object last.of) base front (procedure_number env.scope (space_view w.property.space.now) w.number) last.of gs v
gets_is false env place v gs base w number front last is parameters =
    let_whole env place v gs base (space_view w.property.space.now) number (written_view w.property.written) (w.number, written_view w.written) front last is.found parameters
gets_is true env place v gs base w number front last is parameters =
    let space = space_view w.property.space.now in
    let f : ℕ × Written = (w.number, written_view w.written) in
    set_of env place gs v base space number (written_view w.property.written)
    ∙ ap (λ (o : Option (ℕ × Written)). option_and_then (given_behind (λ (of : Declared). true) env base place space gs v) o) is.found
    ∙ given_whole (λ (of : Declared). true) env place v gs base space f front last parameters

let_stands : (sets : Bool) (env : Env) (w : Writer) (p : PropertyLet) (front : List Parameter) (gs : List Given) (kind : ActionKind) (t : Tables) (qs : List Piece) → IsWriter (part_for sets) env.scope w → GivesProperty env sets w p front
    → (y : plain.Term) (place : Place) (value : bound.Expr) (ps below : List Piece) (s : PropertyStands env w.property y ps below)
    → ActionIs kind (let_with env place p.is_itself s.base (map parameter_view front) p.procedure (declared_view p.of) gs value) t qs → ActionIs kind (property_gets sets env place value gs y) t qs
let_stands sets env w p front gs kind t qs is g y place value ps below s m =
    let space = space_view w.property.space.now in
    let fronts = map parameter_view front in
    let all_are : parameters_in env.scope space (written_view w.written) ≡ fronts ++ parameter_view g.last ∷ [] = sym (g.parameters_are s.placed) ∙ map-append parameter_view front (g.last ∷ []) in
    let done = gets_is sets env place value gs s.base w s.number fronts (parameter_view g.last) is all_are in
    let number = procedure_number env.scope space w.number in
    record {
      made = m.made;
      is = ap (λ (z : plain.Term). property_gets sets env place value gs z) s.is ∙ done
          ∙ ap (λ (b : Bool). let_with env place b s.base fronts number (declared_view g.last.of) gs value) (sym g.itself_is)
          ∙ ap (λ (n : ℕ). let_with env place p.is_itself s.base fronts n (declared_view g.last.of) gs value) (sym g.number_is)
          ∙ ap (λ of. let_with env place p.is_itself s.base fronts p.procedure (declared_view of) gs value) (sym g.of_is) ∙ m.is;
      fits = m.fits;
    }

pub lets_bare : (sets : Bool) (env : Env) (w : Writer) (p : PropertyLet) (front : List Parameter) (all : ℕ) (place : Place) (d r e : Drafted) → IsWriter (part_for sets) env.scope w → GivesProperty env sets w p front → all ≡ length front
    → PushesReceiver p.receiver d r → PassesRest front r e → Lets sets env w.property place [] d e (property_kind (is_method p.receiver) p.is_itself p.procedure all p.of)
lets_bare sets env w p front all place d r e is g a pushed h =
    let kind = property_kind (is_method p.receiver) p.is_itself p.procedure all p.of in
    let fronts = map parameter_view front in
    record {
      grown = grown_twice d r e pushed.grown h.grown;
      named = property_named (is_method p.receiver) p.is_itself e.tables p.procedure all p.of;
      stands = λ y value s.
          let below = an_expr value ∷ [] in
          let R : Receiver → Type 0 = λ (q : Receiver). IsReceiver q s.base in
          let S : Receiver → Type 0 = λ (q : Receiver). ReceiverStands q s.base d.pieces below in
          let received : IsReceiver p.receiver s.base = subst R (sym g.receiver_is) s.received in
          let there = pushed.there s.base below received (subst S (sym g.receiver_is) s.pushed) in
          let made = let_made (is_method p.receiver) p.is_itself s.base env fronts [] 0 all p.procedure p.of e.tables e.pieces r.pieces value (passes_front env front r e all h a) (base_there p.receiver s.base received) there in
          let m = let_done p.is_itself s.base env place fronts p.procedure p.of [] value kind e.tables e.pieces made in
          let_stands sets env w p front [] kind e.tables e.pieces is g y place value d.pieces below s m;
    }

-- without the arguments that it needs
none_written : (env : Env) (place : Place) (front : List project.Parameter) (p : PropertyLet) (base : Option bound.Expr) (value : bound.Expr) (kind : ActionKind) (d e : Drafted) → takes front [] ≡ false → BreaksProcedure p.receiver 25 place d e kind
    → IsReceiver p.receiver base → ReceiverStands p.receiver base d.pieces (an_expr value ∷ []) → ActionIs kind (let_with env place p.is_itself base front p.procedure (declared_view p.of) [] value) e.tables e.pieces
none_written env place front p base value kind d e lacks h received there =
    let of = declared_view p.of in
    let broken : Option Exprs → Option Action = λ (o : Option Exprs). option_map (λ (es : Exprs). broken_target 25 place value (behind_base base es)) o in
    record {
      made = broken_target 25 place value (behind_base base no_exprs);
      is = ap (λ (o : Option bound.Args). or_else (option_map (λ (args : bound.Args). property_given p.is_itself base p.procedure args value of) o) (broken (not_taken env front []))) (refused (argument_of env) front [] lacks)
          ∙ ap (λ (b : Bool). broken (if b then None else Some no_exprs)) lacks;
      fits = h.does value base received there;
    }

pub lets_refused : (sets : Bool) (env : Env) (w : Writer) (p : PropertyLet) (front : List Parameter) (place : Place) (d e : Drafted) (kind : ActionKind) → IsWriter (part_for sets) env.scope w → GivesProperty env sets w p front
    → takes (map parameter_view front) [] ≡ false → BreaksProcedure p.receiver 25 place d e kind → Lets sets env w.property place [] d e kind
lets_refused sets env w p front place d e kind is g lacks h = record {
  grown = h.grown;
  named = h.named;
  stands = λ y value s.
      let below = an_expr value ∷ [] in
      let R : Receiver → Type 0 = λ (q : Receiver). IsReceiver q s.base in
      let S : Receiver → Type 0 = λ (q : Receiver). ReceiverStands q s.base d.pieces below in
      let_stands sets env w p front [] kind e.tables e.pieces is g y place value d.pieces below s
      (none_written env place (map parameter_view front) p s.base value kind d e lacks h (subst R (sym g.receiver_is) s.received) (subst S (sym g.receiver_is) s.pushed));
}

-- with arguments that it takes, behind its object
pub lets_taken : (env : Env) (place : Place) (parameters : List project.Parameter) (p : PropertyLet) (ns : List ExpressionNode) (d r e : Drafted) (kind : ActionKind) → PushesReceiver p.receiver d r
    → LetsTaken env parameters (is_method p.receiver) p.is_itself p.procedure p.of ns r e kind → LetsWith env place parameters p ns d e kind
lets_taken env place parameters p ns d r e kind pushed h = record {
  grown = grown_twice d r e pushed.grown h.grown;
  named = h.named;
  framed = h.framed;
  stands = λ items value base received there.
      let made = h.stands items value base (base_there p.receiver base received) (pushed.there base (an_expr value ∷ []) received there) in
      let_done p.is_itself base env place parameters p.procedure p.of (givens env (args_on items ns)) value kind e.tables e.pieces made;
}

pub lets_given : (sets : Bool) (env : Env) (w : Writer) (p : PropertyLet) (front : List Parameter) (place : Place) (ns : List ExpressionNode) (d e : Drafted) (kind : ActionKind) → IsWriter (part_for sets) env.scope w → GivesProperty env sets w p front
    → LetsWith env place (map parameter_view front) p ns d e kind → LetsOn sets env w.property place ns d e kind
lets_given sets env w p front place ns d e kind is g h = record {
  framed = h.framed;
  lets = λ items. record {
    grown = h.grown;
    named = h.named;
    stands = λ y value s.
        let below = an_expr value ∷ [] in
        let R : Receiver → Type 0 = λ (q : Receiver). IsReceiver q s.base in
        let S : Receiver → Type 0 = λ (q : Receiver). ReceiverStands q s.base d.pieces below in
        let m = h.stands items value s.base (subst R (sym g.receiver_is) s.received) (subst S (sym g.receiver_is) s.pushed) in
        let_stands sets env w p front (givens env (args_on items ns)) kind e.tables e.pieces is g y place value d.pieces below s m;
  };
}

-- ---- assignments

pub property_stands : (env : Env) (t : Tables) (x : Term) (p : Property) (y : plain.Term) (ps below : List Piece) → property_in x ≡ Some p → TermStands env t x y ps below → PropertyStands env p y ps below
property_stands env t (term.Routine r) p y ps below e s =
    let q : Property = record { receiver = r.receiver; space = r.space; written = r.written } in
    let k : Some q ≡ Some p = e in
    let same : q ≡ p = cc in
    let P : Property → Type 0 = λ z. PropertyStands env z y ps below in subst P same (property_of env r y ps below s)
property_stands env t (term.Property q) p y ps below e s =
    let k : Some q ≡ Some p = e in
    let same : q ≡ p = cc in
    let P : Property → Type 0 = λ z. PropertyStands env z y ps below in subst P same s.property
property_stands env t x p y ps below e s = let k : None ≡ Some p = e in absurd cc

-- a property takes a value where it has a Let
pub routine_takes : (env : Env) (base : Option bound.Expr) (space : Space) (number : ℕ) (w : Written) → takes_value env (routine_term base space number w) ≡ is_some (writer env.scope space w)
routine_takes env None space number w = refl
routine_takes env (Some b) space number w = refl

pub has_writer : (env : Env) (w : Writer) (y : plain.Term) (ps below : List Piece) → IsWriter part.Let env.scope w → PropertyStands env w.property y ps below → takes_value env y ≡ true
has_writer env w y ps below is s =
    ap (λ z. takes_value env z) s.is ∙ routine_takes env s.base (space_view w.property.space.now) s.number (written_view w.property.written) ∙ ap (λ o. is_some o) is.found

pub assigns_bare : (env : Env) (may : Option Bool) (place : Expr) (x : Tree) (w : Writer) (d f e : Drafted) (kind : ActionKind) → IsBare place → is_no_target env place ≡ false → Leaves env place d f x → WriterOf part.Let env.scope x.term w
    → Lets false env w.property x.place [] f e kind → AssignsTo env may place d e kind true
assigns_bare env may place x w d f e kind bare target l is h =
    let s = property_stands env f.tables x.term w.property (term_of env place) f.pieces d.pieces is.is l.stands.term_is in
    record {
      grown = grown_twice d f e l.grown h.grown;
      named = h.named;
      takes = bare_given env place bare ∙ has_writer env w (term_of env place) f.pieces d.pieces is.writer s;
      stands = λ value goes alone.
          let S : List Piece → Type 0 = λ (ps : List Piece). PropertyStands env w.property (term_of env place) f.pieces ps in
          let A : Place → Type 0 = λ (p : Place). ActionIs kind (assigned env p value [] (term_of env place)) e.tables e.pieces in
          let m = subst A l.stands.place_is (h.stands (term_of env place) value (subst S alone s)) in
          record { made = m.made; is = bare_assigned env place value bare target ∙ m.is; fits = m.fits };
    }

pub assigns_let : (env : Env) (may : Option Bool) (x : Before) (split : Split) (w : Writer) (d e : Drafted) (kind : ActionKind) → WriterOf part.Let env.scope x.term w → LetsOn false env w.property x.tree.place split.arguments.now d e kind
    → AssignsBehind env may x split d e kind true
assigns_let env may x split w d e kind is h =
    let ns = split.arguments.now in
    record {
      grown = (h.lets []).grown;
      named = (h.lets []).named;
      stands = λ base left right below closed b.
          let items = nodes.tree base ∷ [] in
          let args = args_on items ns in
          let gs = givens env args in
          let p = place_told base in
          let z = callee env base (term_of env base) in
          let s = property_stands env d.tables x.term w.property z d.pieces below is.is b.called in
          let same : target_before env base gs ≡ z = b.kept items ∙ item_itself env p z s.base (space_view w.property.space.now) s.number (written_view w.property.written) s.is in
          let taken : takes_value env (target_before env base gs) ≡ true = ap (λ (q : plain.Term). takes_value env q) same ∙ has_writer env w z d.pieces below is.writer s in
          let W : Expr → Type 0 = λ (t : Expr). AssignsWhole env may t kind true e.tables e.pieces below in
          subst W (sym (whole_framed base ns split.closed.now left right closed h.framed)) (record {
            takes = split_given env base left right args taken;
            does = λ value goes alone.
                let S : List Piece → Type 0 = λ (ps : List Piece). PropertyStands env w.property z d.pieces ps in
                let A : Place → Type 0 = λ (q : Place). ActionIs kind (assigned env q value gs z) e.tables e.pieces in
                let done = subst A b.there.place_is ((h.lets items).stands z value (subst S alone s)) in
                record {
                  made = done.made;
                  is = split_assigned env base left right args value (index_target env base left right args b.no_sub) taken ∙ ap (λ (q : plain.Term). assigned env p value gs q) same ∙ done.is;
                  fits = done.fits;
                };
          });
    }

pub assigns_member : (env : Env) (may : Option Bool) (x : Before) (split : Split) (d e : Drafted) (kind : ActionKind) → AssignsItem env may x.tree.place x.term split.arguments.now d e kind → AssignsBehind env may x split d e kind true
assigns_member env may x split d e kind a = record {
  grown = a.grown;
  named = a.named;
  stands = λ base left right below closed b.
      let m = a.stands base left right below b.there.place_is b.called in
      let W : Expr → Type 0 = λ (t : Expr). AssignsWhole env may t kind true e.tables e.pieces below in
      subst W (sym (whole_closed base split.arguments.now split.closed.now left right closed)) (record { takes = m.given; does = m.does });
}

-- what has no Let and is no member takes no value with arguments: a property
property_untaken : (env : Env) (p : Property) (z : plain.Term) (ps below : List Piece) → Unwritten part.Let env.scope (Some p) → PropertyStands env p z ps below → takes_value env z ≡ false
property_untaken env p z ps below n s = ap (λ (y : plain.Term). takes_value env y) s.is ∙ routine_takes env s.base (space_view p.space.now) s.number (written_view p.written) ∙ ap (λ o. is_some o) n

-- and any other term
term_untaken : (env : Env) (t : Tables) (x : Term) (z : plain.Term) (ps below : List Piece) → is_member x ≡ false → NoWriter part.Let env.scope x → TermStands env t x z ps below → takes_value env z ≡ false
term_untaken env t (term.Place kind of bounds lends makes) z ps below i n h = ap (λ (y : plain.Term). takes_value env y) h.is
term_untaken env t (term.Value e) z ps below i n h = ap (λ (y : plain.Term). takes_value env y) h.is
term_untaken env t (term.Routine r) z ps below i n h = property_untaken env (record { receiver = r.receiver; space = r.space; written = r.written }) z ps below n (property_of env r z ps below h)
term_untaken env t (term.Property p) z ps below i n h = property_untaken env p z ps below n h.property
term_untaken env t (term.Function f) z ps below i n h = ap (λ (y : plain.Term). takes_value env y) h.0.is
term_untaken env t (term.HostMember m) z ps below i n h = let e : true ≡ false = i in absurd cc
term_untaken env t (term.SheetMember m) z ps below i n h = let e : true ≡ false = i in absurd cc
term_untaken env t term.Err z ps below i n h = ap (λ (y : plain.Term). takes_value env y) h.0
term_untaken env t term.ErrRaise z ps below i n h = ap (λ (y : plain.Term). takes_value env y) h.0
term_untaken env t term.ErrClear z ps below i n h = ap (λ (y : plain.Term). takes_value env y) h.0
term_untaken env t term.ErrorWord z ps below i n h = ap (λ (y : plain.Term). takes_value env y) h.0
term_untaken env t term.Nothing z ps below i n h = ap (λ (y : plain.Term). takes_value env y) h

-- what brackets take of it takes none either
kept_untaken : (lacks : Bool) (env : Env) (place : Place) (z : plain.Term) → ItemKept lacks env place z → takes_value env z ≡ false → takes_value env (item_of env place z) ≡ false
kept_untaken true env place z m n = ap (λ (y : plain.Term). takes_value env y) m.is
kept_untaken false env place z same n = ap (λ (y : plain.Term). takes_value env y) same ∙ n

pub untaken : (has : Bool) (env : Env) → has_class env.scope.spaces ≡ has → (t : Tables) (place : Place) (x : Term) (z : plain.Term) (ps below : List Piece) → KeepsItem has t x → NoWriter part.Let env.scope x → TermStands env t x z ps below
    → takes_value env (item_of env place z) ≡ false
untaken has env known t place x z ps below k n h = kept_untaken (lacks_item x) env place z (k.kept env known place z ps below h) (term_untaken env t x z ps below k.other n h)

-- whether the value comes as it is: to what an object lacks, or to what the run says
kept_late : (lacks given : Bool) (env : Env) (place : Place) (z : plain.Term) → ItemKept lacks env place z → (lacks ≡ true → given ≡ true) → (lacks ≡ false → is_indexed_late env place z ≡ given) → is_indexed_late env place (item_of env place z) ≡ given
kept_late true given env place z m f g = ap (λ (y : plain.Term). is_indexed_late env place y) m.is ∙ sym (f refl)
kept_late false given env place z same f g = ap (λ (y : plain.Term). is_indexed_late env place y) same ∙ g refl

pub given_lacking : (has : Bool) (t : Tables) (x : Term) → lacks_item x ≡ true → ItemGiven has t x true
given_lacking has t x l = λ env place z ps below known kept h.
    kept_late (lacks_item x) true env place z kept (λ p. refl) (λ q. (let e : true ≡ false = sym l ∙ q in absurd cc))

pub given_kept : (has : Bool) (t : Tables) (x : Term) (given : Option Bool) → lacks_item x ≡ false → IfSome given (λ b. IndexedLate has t x b) → IfSome given (λ b. ItemGiven has t x b)
given_kept has t x None l i = tt
given_kept has t x (Some b) l i = λ env place z ps below known kept h.
    kept_late (lacks_item x) b env place z kept (λ p. (let e : true ≡ false = sym p ∙ l in absurd cc)) (λ q. i env place z ps below known h)

pub given_late : (has : Bool) (t : Tables) (x : Term) (v : Ending) → IsLateValue has t x v → ItemGiven has t x true
given_late has t x v l = λ env place z ps below known kept h.
    kept_late (lacks_item x) true env place z kept (λ p. refl) (λ q. late_value_indexed has t x v l env place z ps below known h)

pub assigns_indexed : (has : Bool) (env : Env) (may : Option Bool) → has_class env.scope.spaces ≡ has → (x : Before) (split : Split) (d e : Drafted) (kind : ActionKind) (given : Bool) → AddsOne split.arguments.now → NoWriter part.Let env.scope x.term
    → KeepsItem has d.tables x.term → term_class x.term ≡ None → AssignsItemOf has env x.tree x.term split.closed.now d e kind given → AssignsBehind env may x split d e kind given
assigns_indexed has env may known x split d e kind given one none item class i =
    let ns = split.arguments.now in
    let h = i.after in
    let more = i.more in
    let a = i.assigns may in
    record {
      grown = grown_twice d h e i.continues.goes.grown a.grown;
      named = a.named;
      stands = λ base left right below closed b.
          let args = args_of ns one in
          let gs = givens env args in
          let p = place_told base in
          let z = callee env base (term_of env base) in
          let tree = index base left args right in
          let whole_is = whole_added base ns split.closed.now left right one closed in
          let S : Expr → Type 0 = λ (t : Expr). TreeStands env h.tables more t h.pieces below in
          let there = subst S whole_is (tree_behind env x.tree split.closed.now d h more i.continues base below b.there) in
          let t = target_before env base gs in
          let same = kept_added env base ns one b.kept in
          let kept = item.kept env known p z d.pieces below b.called in
          let takes : takes_value env t ≡ false = ap (λ (q : plain.Term). takes_value env q) same ∙ untaken has env known d.tables p x.term z d.pieces below item none b.called in
          let late : is_indexed_late env p t ≡ given = ap (λ (q : plain.Term). is_indexed_late env p q) same ∙ i.item env p z d.pieces below known kept b.called in
          let apart : class_of_term t ≡ None = ap class_of_term same ∙ kept_class (lacks_item x.term) env p z kept (class_stands env d.tables x.term z d.pieces below b.called ∙ class) in
          let W : Expr → Type 0 = λ (t : Expr). AssignsWhole env may t kind given e.tables e.pieces below in
          subst W (sym whole_is) (record {
            takes = ap (λ (b : Bool). b || is_indexed_late env p t) takes ∙ late;
            does = λ value goes alone.
                let A : List Piece → Type 0 = λ (ps : List Piece). TermStands env h.tables more.term (term_of env tree) h.pieces ps in
                let B : Place → Type 0 = λ (q : Place). ActionIs kind (assigned env q value [] (term_of env tree)) e.tables e.pieces in
                let m = subst B there.place_is (a.stands env known there.declared_is (term_of env tree) value goes (subst A alone there.term_is)) in
                let indexed_is : indexed env p t gs ≡ term_of env tree = indexed_whole env base left right args same in
                record {
                  made = m.made;
                  is = a_target env tree value (index_target env base left right args b.no_sub) ∙ ap (λ (b : Bool). if b then assigned env p value gs t else index_assigned env p t gs value) takes
                      ∙ index_plain env p t gs value apart ∙ ap (λ (q : plain.Term). assigned env p value [] q) indexed_is ∙ m.is;
                  fits = m.fits;
                };
          });
    }

-- what arguments lead to in a value, as the run says
pub item_action : (t : Tables) (make : Lvalue → Exprs → bound.Expr → Action) (place : Lvalue) (value : bound.Expr) (count : ℕ) (es : List bound.Expr) (ps : List Piece) → count ≡ length es → ps ≡ above (map an_expr es) (a_place place ∷ an_expr value ∷ [])
    → element_found make (exprs_off count ps no_exprs) ≡ Some (make place (exprs_of es) value)
item_action t make place value count es ps counted top =
    ap (λ (n : ℕ). element_found make (exprs_off n ps no_exprs)) counted ∙ ap (λ (st : List Piece). element_found make (exprs_off (length es) st no_exprs)) top
    ∙ ap (λ o. element_found make o) (exprs_are es (a_place place ∷ an_expr value ∷ []))

pub assigns_led : (has : Bool) (env : Env) (may : Option Bool) → has_class env.scope.spaces ≡ has → (x : Before) (split : Split) (v : Ending) (d e : Drafted) (numbers : ℕ) → AddsOne split.arguments.now → NoWriter part.Let env.scope x.term → KeepsItem has d.tables x.term
    → term_class x.term ≡ None → IsLateValue has d.tables x.term v → LeadsFrom env v x.tree.place split.arguments.now d e numbers → AssignsBehind env may x split d e (action.AssignElement numbers) true
assigns_led has env may known x split v d e numbers one none item class late led =
    let ns = split.arguments.now in
    record {
      grown = led.grown;
      named = tt;
      stands = λ base left right below closed b.
          let z = callee env base (term_of env base) in
          let p = place_told base in
          let kept = item.kept env known p z d.pieces below b.called in
          let Y : Term → Type 0 = λ (q : Term). TermStands env d.tables q z d.pieces below in
          let q = subst Y late.is b.called in
          let m = led.stands base left right below b.there.place_is q in
          let tree = index base left m.args right in
          let gs = givens env m.args in
          let t = target_before env base gs in
          let whole = whole_closed base ns split.closed.now left right closed in
          let same : t ≡ item_before env base = kept_args env base ns split.closed.now left right one m.args closed (whole ∙ m.whole_is) b.kept in
          let takes : takes_value env t ≡ false = ap (λ (q : plain.Term). takes_value env q) same ∙ untaken has env known d.tables p x.term z d.pieces below item none b.called in
          let is_late : is_indexed_late env p t ≡ true = ap (λ (q : plain.Term). is_indexed_late env p q) same ∙ given_late has d.tables x.term v late env p z d.pieces below known kept b.called in
          let apart : class_of_term t ≡ None = ap class_of_term same ∙ kept_class (lacks_item x.term) env p z kept (class_stands env d.tables x.term z d.pieces below b.called ∙ class) in
          let indexed_is : indexed env p t gs ≡ a_value (late_item m.value (exprs_of m.numbers)) type.variant = ap (λ (y : plain.Term). indexed env p y gs) same ∙ m.indexed_is in
          let W : Expr → Type 0 = λ (t : Expr). AssignsWhole env may t (action.AssignElement numbers) true e.tables e.pieces below in
          subst W (sym (whole ∙ m.whole_is)) (record {
            takes = ap (λ (b : Bool). b || is_indexed_late env p t) takes ∙ is_late;
            does = λ value goes alone.
                let made = assign_element (value_place m.value) (exprs_of m.numbers) value in
                let C : Term → Type 0 = λ (q : Term). term_class q ≡ None in
                let other = kept_led (lacks_item x.term) env p z q.made (declared_view v.of) kept q.is (subst C late.is class) gs m.value (exprs_of m.numbers) type.variant m.indexed_is in
                record {
                  made = made;
                  is = a_target env tree value (index_target env base left right m.args b.no_sub) ∙ ap (λ (b : Bool). if b then assigned env p value gs t else index_assigned env p t gs value) takes
                      ∙ index_plain env p t gs value apart ∙ ap (λ (q : plain.Term). assigned env p value [] q) indexed_is ∙ ap (λ (b : Bool). if b then None else Some made) other;
                  fits = item_action e.tables (λ q es w. assign_element q es w) (value_place m.value) value numbers m.numbers e.pieces m.count_is (m.on_top ∙ ap (λ (ps : List Piece). above (map an_expr m.numbers) (a_place (value_place m.value) ∷ ps)) alone);
                };
          });
    }
