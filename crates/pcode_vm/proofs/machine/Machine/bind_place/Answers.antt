use Rattle.std.proofs.Common.{ℕ, List, refl, subst}
use Rattle.std.specs.Prelude.{Bool, IfOk, ◌+◌}
use Rattle.vba_values.specs.Val.{Val}
use Rattle.vba_values.specs.View.{view}
use Rattle.bound_project.specs.Expressions.{ByName}
use Rattle.bound_project.specs.Pieces.{by_name_in, flags_in, name_in}
use Rattle.run_memory.specs.View.{path_view}
use Rattle.pcode.specs.View.{code_view, tables_of, use_view}
use Rattle.pcode_vm.specs.Does.{Does}
use Rattle.pcode_vm.specs.Late.{binds_path}
use Rattle.pcode_vm.specs.View.{backs_view, operands_view, state_view}
use Rattle.pcode_vm.proofs.Carried.{from_other}
use Rattle.pcode_vm.proofs.Coming.{sought_same}
use Rattle.pcode_vm.proofs.machine.Machine.bind_place.Goals as goal

pub returns : goal.returns
returns c =
    let old = c.args.self.now in
    let new = record old { operands = c.pop_path.new.self } in
    let code = code_view c.args.code.now in
    let t = tables_of c.args.code.now in
    let member = c.args.member in
    let Q = λ (base : Val) (name : List ℕ) (by : ByName) (gs : List Bool). IfOk c.bind_path.result (λ step. Does c.args.turns
    (binds_path code (use_view c.args.aim) name by gs c.args.argument base (path_view c.in-Some.path) (c.args.pc + 1)
    (operands_view new.operands) (backs_view old.backs) (state_view old)) new c.bind_path.new.self step) in
    from_other c.args.turns _ _ old new c.bind_path.new.self c.bind_path.result (c.in-Some.ensures _) refl
    (subst (λ (base : Val). Q base (name_in t member.name) (by_name_in t member.names) (flags_in t member)) c.in_ok-base.ensures
    (sought_same (Q (view c.in_ok-base.base)) _ _ _ _ _ _ c.sought_in.ensures.name c.sought_in.ensures.names c.sought_in.ensures.given c.bind_path.ensures))
