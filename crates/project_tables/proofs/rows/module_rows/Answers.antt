use Rattle.std.proofs.Common.{◌≡◌, ℕ, ◌+◌, List, [], ◌++◌, map, sym, ap, ◌∙◌, drop, length, append-nil, arith}
use Rattle.std.proofs.lemmas.List.{drop_all}
use Rattle.bound_declarations.specs.constant_values.specs.declared_names.specs.binder.specs.Projects.{numbered}
use Rattle.bound_declarations.specs.constant_values.specs.declared_names.specs.binder.specs.Storage.{shared_before}
use Rattle.bound_declarations.specs.constant_values.specs.declared_names.specs.View.{entry_view, scope_view}
use Rattle.bound_declarations.specs.constant_values.specs.declared_names.specs.declared.entry.Entry.{Entry as EntryHere}
use Rattle.project_tables.specs.Rows.{Row, row_view}
use Rattle.project_tables.specs.Steps.{own_variables, rows_from}
use Rattle.project_tables.proofs.Steps.{module_rows_are}
use Rattle.project_tables.proofs.rows.module_rows.Goals as goal

pub returns : goal.returns
returns c =
    let s = scope_view c.args.scope in
    let entries : List EntryHere = c.args.scope.here.now.entries.items in
    let now : List Row = map row_view c.loop-number.rows.items in
    let first : c.in_ok-first.first ≡ shared_before s s.spaces s.here + own_variables s.here =
    c.in_ok-first.ensures
    ∙ (ap (λ (n : ℕ). n + c.in_ok-variable_count.field-0) c.requires.before
    ∙ ap (λ (n : ℕ). shared_before s s.spaces s.here + n) c.in_ok-variable_count.ensures) in
    let none : drop c.loop-number.number entries ≡ [] = drop_all c.loop-number.number entries (omega (arith, c.loop-number-test.false, ap length c.deref-entry-items.ensures.value)) in
    let all : now ≡ rows_from s c.in_ok-first.first (numbered 0 s.here.entries) =
    sym (append-nil now)
    ∙ (ap (λ (es : List EntryHere). now ++ rows_from s c.loop-number.first (numbered c.loop-number.number (map entry_view es))) (sym none)
    ∙ c.loop-number.invariant.rows) in
    module_rows_are s c.loop-number.rows.items c.in_ok-first.first first all c.loop-number.invariant.values
