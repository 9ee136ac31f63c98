use Rattle.std.proofs.Common.{ℕ, List, subst}
use Rattle.std.specs.Prelude.{Vec}
use Rattle.std.specs.declared.alloc.Global.{Global}
use Rattle.bound_project.specs.declared.project.Body.{Body}
use Rattle.codegen.specs.Emission.{lists_of}
use Rattle.codegen.specs.Parts.{IsMade}
use Rattle.codegen.proofs.Compiled.{compiled}
use Rattle.codegen.proofs.assemble.compile.Goals as goal

pub returns : goal.returns
returns c =
    let pr = c.args.project in
    let parts = c.in_ok-parts.parts in
    let made : List (Vec ℕ Global) → List Body → Type 0 =
    λ orders bodies. IsMade c.in_ok-added.added orders bodies parts.instrs.items parts.starts.items (lists_of parts.nexts.items) (lists_of parts.entries.items) in
    compiled pr c.add_constants.new.constants parts.instrs parts.starts parts.nexts parts.entries c.in_ok-added.added c.requires c.in_ok-added.ensures
    (subst (λ orders. made orders pr.bodies.items) c.deref.ensures.value (subst (λ bodies. made c.deref.result.now bodies) c.deref-2.ensures.value c.in_ok-parts.ensures))
