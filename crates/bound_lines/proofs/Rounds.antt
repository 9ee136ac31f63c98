-- The With blocks round a part.
use Rattle.std.proofs.Common.{◌≡◌, ◌≤◌, ℕ, ◌-◌, Bool, true, false, length, List, [], ◌∷◌, take, drop, get_or, refl, ◌∙◌, sym, ap, subst, arith}
use Rattle.std.proofs.lemmas.List.{take_rest}
use Rattle.std.specs.Prelude.{map, Option, Some, None}
use mathlib.Core.List.{reverse_aux}
use Rattle.vba_base.specs.declared.place.Place.{Place}
use Rattle.vba_expression.specs.Tree.{Expr}
use Rattle.bound_project.specs.Expressions.{no_exprs}
use Rattle.constant_values.specs.declared_names.specs.module_parts.specs.View.{parts_view}
use Rattle.constant_values.specs.declared_names.specs.module_parts.specs.declared.part.Part.{Part}
use Rattle.constant_values.specs.declared_names.specs.Range.{range_items}
use Rattle.bound_terms.specs.bound_accesses.specs.bound_names.specs.bound_members.specs.bound_calls.specs.bound_forms.specs.Bind.{around_of}
use Rattle.constant_values.specs.declared_names.specs.binder.specs.Declarations.{Written}
use Rattle.constant_values.specs.declared_names.specs.binder.specs.Scopes.{Scope}
use Rattle.constant_values.specs.declared_names.specs.binder.specs.Numbering as numbering
use Rattle.constant_values.specs.declared_names.specs.binder.specs.Numbering.{standings_in, body_count}
use Rattle.bound_terms.specs.bound_accesses.specs.bound_names.specs.bound_members.specs.bound_calls.specs.bound_forms.specs.Terms.{Within, Env, Term, a_function, a_method, a_routine}
use Rattle.bound_terms.specs.bound_accesses.specs.bound_names.specs.bound_members.specs.bound_calls.specs.bound_forms.specs.Operands.{alone, function_takes, function_value, place_told}
use Rattle.bound_terms.specs.bound_accesses.specs.bound_names.specs.bound_members.specs.bound_calls.specs.bound_forms.specs.ExpressionsBound.{term_of}
use Rattle.bound_terms.specs.bound_accesses.specs.bound_names.specs.bound_members.specs.bound_calls.specs.bound_forms.specs.StatementsBound.{keeps, with_object, with_or, within}
use Rattle.statement_nodes.specs.statement_numbers.specs.declared.opened.Opened.{Opened}
use Rattle.statement_nodes.specs.statement_numbers.specs.View.{part_at, opened_view, stack_view}
use Rattle.bound_terms.specs.bound_accesses.specs.bound_names.specs.declared.env.Env.{Env as EnvHere}
use Rattle.bound_terms.specs.bound_accesses.specs.bound_names.specs.View.{EnvStands, env_view}
use Rattle.bound_lines.specs.declared.around.Around.{Around}
use Rattle.bound_lines.specs.Round.{around_view, within_blocks, Inside}

-- ---- With blocks

-- what holds of both holds of any
for_any : (P : Bool → Type 0) → P true → P false → (b : Bool) → P b
for_any P yes_so no_so true = yes_so
for_any P yes_so no_so false = no_so

-- what stands without arguments stands in no With block
alone_same : (env : Env) (w : Option Within) (place : Place) (t : Term) → alone (record env { within = w }) place t ≡ alone env place t
alone_same env w place (a_routine space number p) = refl
alone_same env w place (a_method base space number p) = refl
alone_same env w place (a_function f text_form base) =
    let P : Bool → Type 0 = λ (takes : Bool).
    function_value (record env { within = w }) place f text_form base takes no_exprs ≡ function_value env place f text_form base takes no_exprs in
    for_any P refl refl (function_takes f [])
alone_same env w place t = refl

-- what a block keeps depends on the one round it alone
entered : (o : Option Expr) (env : Env) (w outside : Option Within) (n : ℕ) → with_or o (record env { within = w }) n outside ≡ with_or o env n outside
entered None env w outside n = refl
entered (Some e) env w outside n = ap (keeps n) (alone_same env w (place_told e) (term_of (record env { within = outside }) e))

-- a block that is no With changes nothing
pub no_with : (o : Option Expr) (env : Env) (n : ℕ) → None ≡ o → env ≡ record env { within = with_or o env n env.within }
no_with None env n is = refl
no_with (Some e) env n is = cc

-- in a With block stands what it keeps
pub with_kept : (o : Option Expr) (env inner : Env) (n : ℕ) (e : Expr) (w : Option Within) → Some e ≡ o → w ≡ keeps n (alone env (place_told e) (term_of env e))
    → inner ≡ record env { within = w } → inner ≡ record env { within = with_or o env n env.within }
with_kept None env inner n e w is kept inside = cc
with_kept (Some x) env inner n e w is kept inside =
    let same : e ≡ x = cc in
    inside ∙ ap (λ (v : Option Within). record env { within = v }) (kept ∙ ap (λ (y : Expr). keeps n (alone env (place_told y) (term_of env y))) same)

within_onto : (env : Env) (body : List Part) (around : List numbering.Opened) (os : List Opened)
    → within_blocks env body (within env around) os ≡ within env (reverse_aux (map (opened_view body) os) around)
within_onto env body around [] = refl
within_onto env body around (o ∷ os) = within_onto env body (opened_view body o ∷ around) os

-- outside of all blocks
pub inside_begins : (a : Around) (body : List Part) (all : List Opened) (env : EnvHere) → EnvStands env → env_view env ≡ (around_view a).env → Inside a body all env all
inside_begins a body all env stands is = record {
  stands = stands;
  same = ap (λ (e : Env). record e { within = None }) is;
  within_is = ap (λ (e : Env). within_blocks (around_view a).env body e.within all) is ∙ within_onto (around_view a).env body [] all;
}

-- inside one more block
pub inside_goes_on : (a : Around) (body : List Part) (all : List Opened) (env inner : EnvHere) (o : Opened) (left : List Opened)
    → EnvStands inner
    → env_view inner ≡ record (env_view env) { within = with_or (with_object (part_at body o.line)) (env_view env) o.header (env_view env).within }
    → Inside a body all env (o ∷ left) → Inside a body all inner left
inside_goes_on a body all env inner o left stands is i =
    let here = (around_view a).env in
    let object = with_object (part_at body o.line) in
    let outside = (env_view env).within in
    let env_is : env_view env ≡ record here { within = outside } = ap (λ (e : Env). record e { within = outside }) i.same in
    let now : (env_view inner).within ≡ with_or object here o.header outside =
    ap (λ (e : Env). e.within) is ∙ (ap (λ (e : Env). with_or object e o.header outside) env_is ∙ entered object here outside outside o.header) in
    record {
      stands = stands;
      same = ap (λ (e : Env). record e { within = None }) is ∙ i.same;
      within_is = ap (λ w. within_blocks here body w left) now ∙ i.within_is;
    }

-- the first of some, and those behind it
first_of : {A : Type 0} (xs : List A) (x : A) → 1 ≤ length xs → x ≡ get_or xs 0 x → xs ≡ x ∷ take (length xs - 1) (drop 1 xs)
first_of [] x some first = absurd (omega arith)
first_of (y ∷ ys) x some first = ap (λ z. z ∷ ys) (sym first) ∙ ap (λ zs. x ∷ zs) (sym (take_rest (y ∷ ys) 1))

pub inside_next : (a : Around) (body : List Part) (all : List Opened) (env inner : EnvHere) (left : List Opened) (o : Opened)
    → 1 ≤ length left → o ≡ get_or left 0 o → EnvStands inner
    → env_view inner ≡ record (env_view env) { within = with_or (with_object (part_at body o.line)) (env_view env) o.header (env_view env).within }
    → Inside a body all env left → Inside a body all inner (take (length left - 1) (drop 1 left))
inside_next a body all env inner left o some first stands is i =
    inside_goes_on a body all env inner o (take (length left - 1) (drop 1 left)) stands is
    (subst (λ (os : List Opened). Inside a body all env os) (first_of left o some first) i)

-- inside all blocks round a part
pub stands_there : (a : Around) (body : List Part) (all : List Opened) (env : EnvHere) → Inside a body all env []
    → env_view env ≡ record (env_view env) { within = within (record (env_view env) { within = None }) (stack_view body all) }
stands_there a body all env i =
    ap (λ (w : Option Within). record (env_view env) { within = w })
    (i.within_is ∙ ap (λ (e : Env). within e (stack_view body all)) (sym i.same))

-- the procedure round it is the same
pub around_stays : (a : Around) (body : List Part) (all : List Opened) (env : EnvHere) → Inside a body all env [] → around_view (record a { env = env }) ≡ around_view a
around_stays a body all env i = ap (λ (e : Env). record (around_view a) { env = e }) i.same

-- the procedure of a row, outside of all With blocks
pub around_is : (a : Around) (s : Scope) (p : ℕ × Written) → env_view a.env ≡ (around_of s p).env → standings_in (parts_view (range_items a.body)) ≡ standings_in p.1.body
    → a.end ≡ body_count p.1.body → around_view a ≡ around_of s p
around_is a s p envs parts ends =
    ap (λ (e : Env). record (around_view a) { env = record e { within = None } }) envs
    ∙ (ap (λ (ss : List numbering.Standing). record (around_view a) { env = (around_of s p).env; parts = ss }) parts
    ∙ ap (λ (n : ℕ). record (around_of s p) { end = n }) ends)
