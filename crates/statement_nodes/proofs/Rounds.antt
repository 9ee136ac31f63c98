-- The For Each round a part.
use Rattle.std.proofs.Common.{◌≡◌, ℕ, ◌-◌, length, Bool, true, false, List, [], ◌∷◌, ◌++◌, refl, ◌∙◌, sym, ap, arith}
use Rattle.std.specs.Prelude.{Option, Some, None, if◌then◌else◌}
use Rattle.vba_lexer.specs.declared.token.Token.{Token}
use Rattle.vba_expression.specs.Tree.{Expr}
use Rattle.vba_module.specs.Parts as plain
use Rattle.vba_module.specs.Parts.{statement}
use Rattle.vba_module.specs.Blocks.{for_loop, same_kind}
use Rattle.vba_tree.specs.Tree as tree
use Rattle.bound_calls.specs.bound_declarations.specs.constant_values.specs.declared_names.specs.module_parts.specs.Brackets.{kind_view}
use Rattle.bound_calls.specs.bound_declarations.specs.constant_values.specs.declared_names.specs.module_parts.specs.declared.part.Part.{Part}
use Rattle.bound_calls.specs.bound_declarations.specs.constant_values.specs.declared_names.specs.binder.specs.Numbering as numbering
use Rattle.bound_calls.specs.bound_forms.specs.StatementsBound as bound
use Rattle.bound_calls.specs.bound_forms.specs.StatementsBound.{with_object, for_each_header}
use Rattle.statement_numbers.specs.declared.opened.Opened.{Opened}
use Rattle.statement_numbers.specs.View.{part_at, opened_view, stack_view}
use Rattle.statement_numbers.proofs.Stacks.{stack-push}
use Rattle.statement_nodes.specs.Loops.{each_at}

-- ---- a Case stands in the scope of its Select Case

pub no_object : (p : plain.Part) (select_word case_word : Token) (e : Expr) → bound.line_of p ≡ Some (tree.select_case select_word case_word e) → with_object p ≡ None
no_object (statement (tree.simple (tree.block_line (tree.with_line with_word x)))) select_word case_word e is = cc
no_object p select_word case_word e is = refl

-- ---- For Each

-- the nearest For, by its line
each_by_line : (o : numbering.Opened) (os : List numbering.Opened) (p : plain.Part) → o.line ≡ p
    → for_each_header (o ∷ os) ≡ (if same_kind for_loop o.kind then each_at o.line o.header else for_each_header os)
each_by_line o os (statement (tree.simple (tree.block_line (tree.for_each for_word each_word x in_word group)))) is = rw is
each_by_line o os p is = rw is

pub each_there : (body : List Part) (whole all outer : List Opened) (o : Opened) (found : Option ℕ) → for_each_header (stack_view body all) ≡ for_each_header (stack_view body whole)
    → all ≡ outer ++ o ∷ [] → same_kind for_loop (kind_view o.kind) ≡ true → found ≡ each_at (part_at body o.line) o.header → found ≡ for_each_header (stack_view body whole)
each_there body whole all outer o found so_far is same found_is =
    sym (ap (λ os. for_each_header (stack_view body os)) is
    ∙ (ap for_each_header (stack-push body outer o)
    ∙ (each_by_line (opened_view body o) (stack_view body outer) (part_at body o.line) refl
    ∙ (ap (λ (b : Bool). if b then each_at (part_at body o.line) o.header else for_each_header (stack_view body outer)) same ∙ sym found_is))))
    ∙ so_far

pub each_farther : (body : List Part) (whole all outer : List Opened) (o : Opened) → for_each_header (stack_view body all) ≡ for_each_header (stack_view body whole)
    → all ≡ outer ++ o ∷ [] → same_kind for_loop (kind_view o.kind) ≡ false → for_each_header (stack_view body outer) ≡ for_each_header (stack_view body whole)
each_farther body whole all outer o so_far is other =
    sym (ap (λ os. for_each_header (stack_view body os)) is
    ∙ (ap for_each_header (stack-push body outer o)
    ∙ (each_by_line (opened_view body o) (stack_view body outer) (part_at body o.line) refl
    ∙ ap (λ (b : Bool). if b then each_at (part_at body o.line) o.header else for_each_header (stack_view body outer)) other)))
    ∙ so_far

-- no For stands open
pub each_nowhere : (body : List Part) (whole all : List Opened) → for_each_header (stack_view body all) ≡ for_each_header (stack_view body whole) → length all ≡ 0
    → None ≡ for_each_header (stack_view body whole)
each_nowhere body whole [] so_far is = so_far
each_nowhere body whole (o ∷ os) so_far is = absurd (omega arith)
