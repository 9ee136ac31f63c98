-- What stands without arguments, and without those that it needs.
use Rattle.std.proofs.Common.{◌≡◌, ℕ, ℤ, pos, ◌==◌, Bool, true, false, List, [], ◌∷◌, map, Option, Some, None, option_map, if◌then◌else◌, refl, sym, ap, subst, ◌∙◌}
use Rattle.std.specs.List.{list_all}
use Rattle.vba_base.specs.declared.place.Place.{Place}
use Rattle.vba_values.specs.declared.types.Compare.{Compare}
use Rattle.vba_values.specs.Types.{Declared}
use Rattle.vba_values.specs.Types as type
use Rattle.vba_lib.specs.declared.function.LibraryFunction.{LibraryFunction}
use Rattle.vba_lib.specs.Library.{declared_of}
use Rattle.bound_project.specs.declared.declared_type.DeclaredType.{DeclaredType}
use Rattle.bound_project.specs.declared.declared_type.DeclaredType.TheVariants.{Plain}
use Rattle.bound_project.specs.declared.declared_type.ElementType.TheVariants.{Variant}
use Rattle.bound_project.specs.declared.node.NodeKind.TheVariants as node
use Rattle.bound_project.specs.View.{base_view, declared_view, parameter_view}
use Rattle.bound_project.specs.Expressions.{Exprs, also, library, marked, no_exprs}
use Rattle.bound_project.specs.Expressions as bound
use Rattle.bound_project.specs.Pieces.{Piece, Tables, an_expr, expr_of, put, put_kind}
use Rattle.bound_project.specs.Project.{nowhere}
use Rattle.bound_project.specs.Project as project
use Rattle.bound_project.specs.Drafts.{Drafted, NodeNamed}
use Rattle.bound_declarations.specs.constant_values.specs.declared_names.specs.binder.specs.Constants.{compare_in}
use Rattle.bound_declarations.specs.constant_values.specs.declared_names.specs.binder.specs.Declarations.{Written}
use Rattle.bound_declarations.specs.constant_values.specs.declared_names.specs.binder.specs.Scopes.{Space}
use Rattle.bound_declarations.specs.constant_values.specs.declared_names.specs.binder.specs.Signatures.{call_type, parameters_in, reader}
use Rattle.bound_declarations.specs.constant_values.specs.declared_names.specs.binder.specs.Types.{is_object}
use Rattle.bound_declarations.specs.constant_values.specs.declared_names.specs.View.{space_view, written_view}
use Rattle.bound_forms.specs.Terms.{Env, a_host_member, a_value, bound_arguments, broken_call, may_lack, member_read, no_term, routine_term, takes}
use Rattle.bound_forms.specs.Terms as plain
use Rattle.bound_forms.specs.Operands.{alone, bare_call, behind_base, call_value, called_alone, function_takes, function_value, if_there, lacking_call, read_alone, term_or}
use Rattle.bound_forms.specs.ExpressionsBound.{indexed, taken_by_term, wrong_call, wrong_term}
use Rattle.bound_calls.specs.declared.term.Ending.{Ending}
use Rattle.bound_calls.specs.declared.term.Function.{Function}
use Rattle.bound_calls.specs.declared.term.HostMember.{HostMember}
use Rattle.bound_calls.specs.declared.term.Property.{Property}
use Rattle.bound_calls.specs.declared.term.Receiver.{Receiver}
use Rattle.bound_calls.specs.declared.term.Receiver.TheVariants as receiver
use Rattle.bound_calls.specs.declared.term.Routine.{Routine}
use Rattle.bound_calls.specs.declared.term.Term.{Term}
use Rattle.bound_calls.specs.declared.term.Term.TheVariants as term
use Rattle.bound_calls.specs.Standing.{IsReceiver, ReceiverStands, TermNamed, TermStands, ValueStands, base_number, member_is, own_expression}
use Rattle.bound_calls.specs.Taking.{BaseThere, CallsAt, CallsRoutine, FunctionAlone, LacksArguments, MemberAlone, PushesObject, PushesSheet, ReadsMember, SheetAlone, StandsAlone, broken_ending, sheet_expression, told_type, values_of}
use Rattle.bound_calls.proofs.CallSteps.{taken_routine}
use Rattle.bound_calls.proofs.Growing.{grown_pieces, grown_same, grown_twice}
use Rattle.bound_calls.proofs.Reading.{called_as, called_found}
use Rattle.bound_calls.proofs.Refusing.{refused}
use Rattle.bound_calls.proofs.Taking.{node_of}

-- ---- what is marked

told_by : (b : Bool) (of : DeclaredType) → declared_view (if b then Plain Variant else of) ≡ (if b then type.variant else declared_view of)
told_by true of = refl
told_by false of = refl

pub told_view : (of : DeclaredType) → declared_view (told_type of) ≡ plain.told_type (declared_view of)
told_view of = told_by (is_object (declared_view of)) of

-- nothing is marked, or one value
pub broken_none : (t : Tables) (rule : ℕ) (place : Place) (of : DeclaredType) (ps below : List Piece) → ps ≡ below → ValueStands t (broken_ending rule place of 0) (broken_call rule place (declared_view of) no_exprs) ps below
broken_none t rule place of ps below h = record {
  made = marked (record { rule = rule; place = place }) no_exprs;
  is = ap (λ u. a_value (marked (record { rule = rule; place = place }) no_exprs) u) (sym (told_view of));
  ends = λ n. ap (λ (l : List Piece). expr_of n (marked (record { rule = rule; place = place }) no_exprs) ∷ l) h;
}

pub broken_one : (t : Tables) (rule : ℕ) (place : Place) (of : DeclaredType) (e : bound.Expr) (ps below : List Piece) → ps ≡ an_expr e ∷ below
    → ValueStands t (broken_ending rule place of 1) (broken_call rule place (declared_view of) (also e no_exprs)) ps below
broken_one t rule place of e ps below h = record {
  made = marked (record { rule = rule; place = place }) (also e no_exprs);
  is = ap (λ u. a_value (marked (record { rule = rule; place = place }) (also e no_exprs)) u) (sym (told_view of));
  ends = λ n. ap (λ (st : List Piece). put_kind t n (node.Marked (record { rule = rule; place = place }) 1) st) h;
}

-- what a procedure is called of is marked
pub broken_base : (t : Tables) (rule : ℕ) (place : Place) (of : DeclaredType) (r : Receiver) (base : Option bound.Expr) (ps below : List Piece) → IsReceiver r base → BaseThere base ps below
    → ValueStands t (broken_ending rule place of (values_of r)) (broken_call rule place (declared_view of) (behind_base base no_exprs)) ps below
broken_base t rule place of receiver.Module None ps below is h = broken_none t rule place of ps below h
broken_base t rule place of receiver.Module (Some b) ps below is h = absurd is
broken_base t rule place of (receiver.Own own) None ps below is h = absurd is
broken_base t rule place of (receiver.Own own) (Some b) ps below is h = broken_one t rule place of b ps below h
broken_base t rule place of (receiver.Pushed own) None ps below is h = absurd is
broken_base t rule place of (receiver.Pushed own) (Some b) ps below is h = broken_one t rule place of b ps below h

-- ---- what it is called of

module_base_there : (base : Option bound.Expr) (ps below : List Piece) → IsReceiver receiver.Module base → ReceiverStands receiver.Module base ps below → BaseThere base ps below
module_base_there None ps below is h = h
module_base_there (Some b) ps below is h = absurd is

pub module_object : (d : Drafted) → PushesObject receiver.Module d d
module_object d = record { grown = grown_same d; there = λ base below is h. module_base_there base d.pieces below is h }

pushed_base_there : (of : DeclaredType) (base : Option bound.Expr) (ps below : List Piece) → IsReceiver (receiver.Pushed of) base → ReceiverStands (receiver.Pushed of) base ps below → BaseThere base ps below
pushed_base_there of None ps below is h = absurd is
pushed_base_there of (Some b) ps below is h = h

pub pushed_object : (of : DeclaredType) (d : Drafted) → PushesObject (receiver.Pushed of) d d
pushed_object of d = record { grown = grown_same d; there = λ base below is h. pushed_base_there of base d.pieces below is h }

own_base_there : (of : DeclaredType) (base : Option bound.Expr) (ps qs below : List Piece) → qs ≡ an_expr (own_expression of) ∷ ps → IsReceiver (receiver.Own of) base → ReceiverStands (receiver.Own of) base ps below → BaseThere base qs below
own_base_there of None ps qs below on is h = absurd is
own_base_there of (Some b) ps qs below on is h = on ∙ ap (λ st. an_expr (own_expression of) ∷ st) h ∙ ap (λ x. an_expr x ∷ below) (sym is)

pub own_object : (of : DeclaredType) (place : Place) (d e : Drafted) → place ≡ nowhere → e ≡ record d { pieces = put d.tables (node_of node.This place of) d.pieces } → PushesObject (receiver.Own of) d e
own_object of place d e at eq =
    let P : Drafted → Type 0 = λ x. PushesObject (receiver.Own of) d x in
    let after : List Piece = put d.tables (node_of node.This place of) d.pieces in
    let on : after ≡ an_expr (own_expression of) ∷ d.pieces = ap (λ (q : Place). an_expr (bound.expr bound.this q (declared_view of) (declared_view of)) ∷ d.pieces) at in
    subst P (sym eq) (record {
      grown = grown_pieces d after;
      there = λ base below is h. own_base_there of base d.pieces after below on is h;
    })

-- ---- of a standard module

no_base : (base : Option bound.Expr) → IsReceiver receiver.Module base → base ≡ None
no_base None h = refl
no_base (Some b) h = absurd h

pub module_base : (r : Receiver) (base : Option bound.Expr) → r ≡ receiver.Module → IsReceiver r base → base ≡ None
module_base r base is h = no_base base (subst (λ (q : Receiver). IsReceiver q base) is h)

pub module_pushed : (r : Receiver) (base : Option bound.Expr) (ps below : List Piece) → r ≡ receiver.Module → ReceiverStands r base ps below → ps ≡ below
module_pushed r base ps below is h = subst (λ (q : Receiver). ReceiverStands q base ps below) is h

-- ---- a procedure

pub routine_alone : (env : Env) (place : Place) (base : Option bound.Expr) (space : Space) (number : ℕ) (w : Written) → alone env place (routine_term base space number w) ≡ called_alone env place base space number w
routine_alone env place None space number w = refl
routine_alone env place (Some b) space number w = refl

routine_wrong : (env : Env) (place : Place) (base : Option bound.Expr) (space : Space) (number : ℕ) (w : Written) → wrong_term env place (routine_term base space number w) [] ≡ wrong_call env place base space number w []
routine_wrong env place None space number w = refl
routine_wrong env place (Some b) space number w = refl

-- a call without arguments in brackets
taken_bare : (env : Env) (place : Place) (base : Option bound.Expr) (space : Space) (number : ℕ) (w : Written) (read : ℕ × Written) → reader env.scope space number w ≡ Some read
    → taken_by_term env place (routine_term base space number w) [] ≡ bare_call env base space number w
taken_bare env place base space number w read reads =
    let found : Option (ℕ × Written) → plain.Term = λ o. if_there (option_map (λ f. call_value env base space f.0 f.1 (bound_arguments (λ of t at. None) (parameters_in env.scope space f.1) [])) o) in
    let bare : bare_call env base space number w ≡ found (Some read) = ap found reads in
    let taken : taken_by_term env place (routine_term base space number w) [] ≡ called_as env place [] base space read = taken_routine env place base space number w [] ∙ called_found env place [] base space number w read reads in
    taken ∙ sym bare

pub indexed_none : (env : Env) (place : Place) (base : Option bound.Expr) (space : Space) (number : ℕ) (w : Written) (read : ℕ × Written) → reader env.scope space number w ≡ Some read
    → indexed env place (routine_term base space number w) [] ≡ term_or (bare_call env base space number w) (wrong_call env place base space number w [])
indexed_none env place base space number w read reads =
    ap (λ z. term_or z (wrong_term env place (routine_term base space number w) [])) (taken_bare env place base space number w read reads)
    ∙ ap (λ z. term_or (bare_call env base space number w) z) (routine_wrong env place base space number w)

bare_lacks : (env : Env) (base : Option bound.Expr) (space : Space) (number : ℕ) (w : Written) (read : ℕ × Written) → reader env.scope space number w ≡ Some read → takes (parameters_in env.scope space read.1) [] ≡ false
    → bare_call env base space number w ≡ no_term
bare_lacks env base space number w read reads lacks =
    let found : Option (ℕ × Written) → plain.Term = λ o. if_there (option_map (λ f. call_value env base space f.0 f.1 (bound_arguments (λ of t at. None) (parameters_in env.scope space f.1) [])) o) in
    let bare : bare_call env base space number w ≡ found (Some read) = ap found reads in
    bare ∙ ap (λ o. call_value env base space read.0 read.1 o) (refused (λ of t at. None) (parameters_in env.scope space read.1) [] lacks)

lacking_is : (env : Env) (place : Place) (base : Option bound.Expr) (space : Space) (number : ℕ) (w : Written) (read : ℕ × Written) → reader env.scope space number w ≡ Some read → takes (parameters_in env.scope space read.1) [] ≡ false
    → lacking_call env place base space number w ≡ broken_call 25 place (call_type env.scope space read.1) (behind_base base no_exprs)
lacking_is env place base space number w read reads lacks = rw (reads, lacks) refl

wrong_is : (env : Env) (place : Place) (base : Option bound.Expr) (space : Space) (number : ℕ) (w : Written) (read : ℕ × Written) → reader env.scope space number w ≡ Some read → takes (parameters_in env.scope space read.1) [] ≡ false
    → wrong_call env place base space number w [] ≡ broken_call 25 place (call_type env.scope space read.1) (behind_base base no_exprs)
wrong_is env place base space number w read reads lacks = rw (reads, lacks) refl

valued_alone : (env : Env) (place : Place) (base : Option bound.Expr) (space : Space) (number : ℕ) (w : Written) (made : bound.Node) (of : Declared) → bare_call env base space number w ≡ a_value made of
    → alone env place (routine_term base space number w) ≡ a_value made of
valued_alone env place base space number w made of h = routine_alone env place base space number w ∙ ap (λ z. term_or z (lacking_call env place base space number w)) h

-- what a term calls
abbrev called_by : Env → plain.Term → plain.Term
called_by env (plain.a_routine space number w) = bare_call env None space number w
called_by env (plain.a_method base space number w) = bare_call env (Some base) space number w
called_by env t = no_term

by_base : (env : Env) (base : Option bound.Expr) (space : Space) (number : ℕ) (w : Written) → called_by env (routine_term base space number w) ≡ bare_call env base space number w
by_base env None space number w = refl
by_base env (Some b) space number w = refl

same_bare : (env : Env) (base : Option bound.Expr) (space : Space) (number : ℕ) (w : Written) (base' : Option bound.Expr) (space' : Space) (number' : ℕ) (w' : Written)
    → routine_term base space number w ≡ routine_term base' space' number' w' → (z : plain.Term) → bare_call env base space number w ≡ z → bare_call env base' space' number' w' ≡ z
same_bare env base space number w base' space' number' w' same z h =
    sym (by_base env base' space' number' w') ∙ ap (λ t. called_by env t) (sym same) ∙ by_base env base space number w ∙ h

pub calls_taken : (r : Routine) (place : Place) (d e : Drafted) (ending : Ending) → CallsRoutine r d e ending → CallsAt r place d e ending
calls_taken r place d e ending h = record {
  grown = h.grown;
  named = h.named;
  stands = λ env y below k.
      let u = k.routine in
      let b = h.stands env y below k in
      let c = b.called in
      let z = routine_term b.base b.space b.number b.written in
      let of = declared_view ending.of in
      let made : alone env place z ≡ a_value c.made of = valued_alone env place b.base b.space b.number b.written c.made of c.is in
      let other = routine_term u.base u.space u.number u.written in
      let A : plain.Term → Type 0 = λ w. alone env place w ≡ a_value c.made of in
      let all : alone env place y ≡ a_value c.made of = subst A (sym b.is) made in
      let bare : bare_call env u.base u.space u.number u.written ≡ a_value c.made of = same_bare env b.base b.space b.number b.written u.base u.space u.number u.written (sym b.is ∙ u.is) (a_value c.made of) c.is in
      let brackets : indexed env place other [] ≡ a_value c.made of =
      indexed_none env place u.base u.space u.number u.written u.read u.reads ∙ ap (λ w. term_or w (wrong_call env place u.base u.space u.number u.written [])) bare in
      record {
        called = record { made = c.made; is = all; ends = c.ends };
        indexed_is = ap (λ w. indexed env place w []) u.is ∙ brackets ∙ sym all;
      };
}

pub calls_lacking : (r : Routine) (place : Place) (d e : Drafted) (ending : Ending) → list_all may_lack (map parameter_view r.parameters.now) ≡ false → LacksArguments r place d e ending → CallsAt r place d e ending
calls_lacking r place d e ending lacks h =
    let P : Ending → Type 0 = λ v. CallsAt r place d e v in
    subst P (sym h.is) (record {
      grown = h.pushed.grown;
      named = tt;
      stands = λ env y below k.
          let u = k.routine in
          let z = routine_term u.base u.space u.number u.written in
          let none : takes (parameters_in env.scope u.space u.read.1) [] ≡ false = ap (λ (l : List project.Parameter). list_all may_lack l) (sym u.parameters_are) ∙ lacks in
          let told : Declared → plain.Term = λ v. broken_call 25 place v (behind_base u.base no_exprs) in
          let broken = told (declared_view r.of) in
          let bare : bare_call env u.base u.space u.number u.written ≡ no_term = bare_lacks env u.base u.space u.number u.written u.read u.reads none in
          let all : alone env place z ≡ broken =
          routine_alone env place u.base u.space u.number u.written ∙ ap (λ w. term_or w (lacking_call env place u.base u.space u.number u.written)) bare
          ∙ lacking_is env place u.base u.space u.number u.written u.read u.reads none ∙ ap told (sym u.of_is) in
          let brackets : indexed env place z [] ≡ broken =
          indexed_none env place u.base u.space u.number u.written u.read u.reads ∙ ap (λ w. term_or w (wrong_call env place u.base u.space u.number u.written [])) bare
          ∙ wrong_is env place u.base u.space u.number u.written u.read u.reads none ∙ ap told (sym u.of_is) in
          let v = broken_base e.tables 25 place r.of r.receiver u.base e.pieces below u.received (h.pushed.there u.base below u.received k.pushed) in
          record {
            called = record { made = v.made; is = ap (λ w. alone env place w) u.is ∙ all ∙ v.is; ends = v.ends };
            indexed_is = ap (λ w. indexed env place w []) u.is ∙ brackets ∙ sym (ap (λ w. alone env place w) u.is ∙ all);
          };
    })

-- ---- members

pub member_reads : (m : HostMember) (place : Place) (d e : Drafted) (ending : Ending) → ReadsMember m d e ending → MemberAlone m place d e ending
member_reads m place d e ending h = record {
  grown = h.grown;
  named = h.named;
  stands = λ object below k.
      let x = member_is d.tables m in
      let made = member_read object x in
      let broken = broken_call 25 place x.of (also object no_exprs) in
      record {
        made = made;
        is = ap (λ n. if n == 0 then a_value made x.of else broken) h.least_is ∙ ap (λ (of : DeclaredType). a_value made (declared_view of)) (sym h.of_is);
        ends = h.ends object below k;
      };
}

pub member_lacks : (m : HostMember) (place : Place) (d : Drafted) → (m.least == 0) ≡ false → MemberAlone m place d d (broken_ending 25 place m.of 1)
member_lacks m place d h = record {
  grown = grown_same d;
  named = tt;
  stands = λ object below k.
      let x = member_is d.tables m in
      let broken = broken_call 25 place x.of (also object no_exprs) in
      let v = broken_one d.tables 25 place m.of object d.pieces below k in
      record { made = v.made; is = ap (λ b. if b then a_value (member_read object x) x.of else broken) h ∙ v.is; ends = v.ends };
}

pub sheet_reads : (m : HostMember) (place : Place) (d s e : Drafted) (ending : Ending) → PushesSheet d s → MemberAlone m place s e ending → SheetAlone m place d e ending
sheet_reads m place d s e ending p h =
    let A : Tables → Type 0 = λ t. ValueStands e.tables ending (read_alone place sheet_expression (member_is t m)) e.pieces d.pieces in
    record {
      grown = grown_twice d s e p.grown h.grown;
      named = h.named;
      stands = subst A p.tables_are (h.stands sheet_expression d.pieces p.on_top);
    }

-- ---- functions of the library

base_is : (is_one : Bool) → pos (base_number is_one) ≡ base_view is_one
base_is true = refl
base_is false = refl

abbrev function_ending : Function → DeclaredType → Ending
function_ending f of = record { kind = node.Library f.function f.is_text_form 0 f.compare f.is_base_one; of = of }

pub function_taken : (f : Function) (of : DeclaredType) (place : Place) → function_takes f.function [] ≡ true → declared_view of ≡ declared_of f.function f.is_text_form → FunctionAlone f place (function_ending f of)
function_taken f of place takes_none typed = record {
  named = λ t. tt;
  stands = λ env t y ps h.
      let made : Compare → ℤ → bound.Node = λ compare base. library f.function f.is_text_form no_exprs compare base in
      let base = base_number f.is_base_one in
      record {
        made = made f.compare (base_view f.is_base_one);
        is = ap (λ z. alone env place z) h.is
            ∙ ap (λ b. function_value env place f.function f.is_text_form base b no_exprs) takes_none
            ∙ ap (λ u. a_value (made (compare_in env.scope) (pos base)) u) (sym typed)
            ∙ ap (λ c. a_value (made c (pos base)) (declared_view of)) (sym h.compare_is)
            ∙ ap (λ i. a_value (made f.compare i) (declared_view of)) (base_is f.is_base_one);
        ends = λ n. refl;
      };
}

pub function_lacks : (f : Function) (of : DeclaredType) (place : Place) → function_takes f.function [] ≡ false → declared_view of ≡ declared_of f.function f.is_text_form → FunctionAlone f place (broken_ending 25 place of 0)
function_lacks f of place takes_none typed = record {
  named = λ t. tt;
  stands = λ env t y ps h.
      let base = base_number f.is_base_one in
      let v = broken_none t 25 place of ps ps refl in
      record {
        made = v.made;
        is = ap (λ z. alone env place z) h.is
            ∙ ap (λ b. function_value env place f.function f.is_text_form base b no_exprs) takes_none
            ∙ ap (λ u. broken_call 25 place u no_exprs) (sym typed)
            ∙ v.is;
        ends = v.ends;
      };
}

-- ---- terms

pub alone_routine : (r : Routine) (place : Place) (d e : Drafted) (ending : Ending) → CallsAt r place d e ending → StandsAlone (term.Routine r) place d e (term.Value ending)
alone_routine r place d e ending h = record { grown = h.grown; named = h.named; stands = λ env y below k. (h.stands env y below k).called }

pub alone_member : (m : HostMember) (place : Place) (d e : Drafted) (ending : Ending) → MemberAlone m place d e ending → StandsAlone (term.HostMember m) place d e (term.Value ending)
alone_member m place d e ending h = record {
  grown = h.grown;
  named = h.named;
  stands = λ env y below k.
      let A : plain.Term → Type 0 = λ z. ValueStands e.tables ending (alone env place z) e.pieces below in
      subst A (sym k.is) (h.stands k.object below k.on_top);
}

pub alone_sheet : (m : HostMember) (place : Place) (d e : Drafted) (ending : Ending) → SheetAlone m place d e ending → StandsAlone (term.SheetMember m) place d e (term.Value ending)
alone_sheet m place d e ending h = record {
  grown = h.grown;
  named = h.named;
  stands = λ env y below k.
      let A : plain.Term → Type 0 = λ z. ValueStands e.tables ending (alone env place z) e.pieces below in
      let B : List Piece → Type 0 = λ st. ValueStands e.tables ending (read_alone place sheet_expression (member_is d.tables m)) e.pieces st in
      subst A (sym k.0) (subst B k.1 h.stands);
}

pub alone_function : (f : Function) (place : Place) (d : Drafted) (ending : Ending) → FunctionAlone f place ending → StandsAlone (term.Function f) place d d (term.Value ending)
alone_function f place d ending h = record {
  grown = grown_same d;
  named = h.named d.tables;
  stands = λ env y below k.
      let B : List Piece → Type 0 = λ st. ValueStands d.tables ending (alone env place y) d.pieces st in
      subst B k.1 (h.stands env d.tables y d.pieces k.0);
}

-- a property without a Get is nothing
unread_bare : (env : Env) (base : Option bound.Expr) (space : Space) (number : ℕ) (w : Written) → reader env.scope space number w ≡ None → bare_call env base space number w ≡ no_term
unread_bare env base space number w unread =
    let found : Option (ℕ × Written) → plain.Term = λ o. if_there (option_map (λ f. call_value env base space f.0 f.1 (bound_arguments (λ of t at. None) (parameters_in env.scope space f.1) [])) o) in
    ap found unread

unread_lacks : (env : Env) (place : Place) (base : Option bound.Expr) (space : Space) (number : ℕ) (w : Written) → reader env.scope space number w ≡ None → lacking_call env place base space number w ≡ no_term
unread_lacks env place base space number w unread = rw unread refl

pub alone_property : (p : Property) (place : Place) (d : Drafted) → StandsAlone (term.Property p) place d d term.Nothing
alone_property p place d = record {
  grown = grown_same d;
  named = tt;
  stands = λ env y below k.
      let u = k.property in
      let space = space_view p.space.now in
      let w = written_view p.written in
      ap (λ z. alone env place z) u.is ∙ routine_alone env place u.base space u.number w
      ∙ ap (λ z. term_or z (lacking_call env place u.base space u.number w)) (unread_bare env u.base space u.number w k.unread) ∙ unread_lacks env place u.base space u.number w k.unread;
}

-- another term is as it is
pub as_it_is : (x : Term) → Type 0
as_it_is (term.Routine r) = ⊥
as_it_is (term.HostMember m) = ⊥
as_it_is (term.SheetMember m) = ⊥
as_it_is (term.Function f) = ⊥
as_it_is (term.Property p) = ⊥
as_it_is x = Unit {0}

same_alone : (env : Env) (place : Place) (t : Tables) (x : Term) (y : plain.Term) (ps below : List Piece) → as_it_is x → TermStands env t x y ps below → alone env place y ≡ y
unfolding as_it_is
same_alone env place t (term.Routine r) y ps below n h = absurd n
same_alone env place t (term.HostMember m) y ps below n h = absurd n
same_alone env place t (term.SheetMember m) y ps below n h = absurd n
same_alone env place t (term.Function f) y ps below n h = absurd n
same_alone env place t (term.Property p) y ps below n h = absurd n
same_alone env place t (term.Place kind of bounds lends makes) y ps below n h = ap (λ z. alone env place z) h.is ∙ sym h.is
same_alone env place t (term.Value e) y ps below n h = ap (λ z. alone env place z) h.is ∙ sym h.is
same_alone env place t term.Err y ps below n h = ap (λ z. alone env place z) h.0 ∙ sym h.0
same_alone env place t term.ErrRaise y ps below n h = ap (λ z. alone env place z) h.0 ∙ sym h.0
same_alone env place t term.ErrClear y ps below n h = ap (λ z. alone env place z) h.0 ∙ sym h.0
same_alone env place t term.ErrorWord y ps below n h = ap (λ z. alone env place z) h.0 ∙ sym h.0
same_alone env place t term.Nothing y ps below n h = ap (λ z. alone env place z) h ∙ sym h

pub alone_same : (x : Term) (place : Place) (d : Drafted) → as_it_is x → TermNamed d.tables x → StandsAlone x place d d x
alone_same x place d n k = record {
  grown = grown_same d;
  named = k;
  stands = λ env y below h.
      let A : plain.Term → Type 0 = λ z. TermStands env d.tables x z d.pieces below in
      subst A (sym (same_alone env place d.tables x y d.pieces below n h)) h;
}
