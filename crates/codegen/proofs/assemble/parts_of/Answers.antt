use Rattle.std.proofs.Common.{List, ◌∷◌, map, ap, ◌∙◌}
use Rattle.std.specs.Prelude.{Vec, slice_index, ℕ}
use Rattle.std.specs.declared.alloc.Global.{Global}
use Rattle.pcode.specs.declared.instr.Instr.TheVariants.{Leave}
use Rattle.codegen.specs.Emission.{lists_of, bodies_instrs}
use Rattle.codegen.proofs.Loops.{starts_same, put_after}
use Rattle.codegen.proofs.assemble.parts_of.Goals as goal

pub returns : goal.returns
returns c =
    let added = c.args.added in
    let orders = lists_of c.args.orders.now in
    let table = ap (λ (t : List (Vec ℕ Global)). bodies_instrs added orders (lists_of t) 0 c.args.bodies.now) c.deref-2.ensures.value in
    record {
      entries_are = c.in_ok-entries.ensures;
      instrs_are = put_after _ _ _ _ _ c.new-instrs.ensures.items c.in_ok-put.ensures c.in_ok-emit_bodies.ensures ∙ ap (λ l. Leave ∷ l) table;
      starts_are = c.in_ok-starts.ensures ∙ ap (λ (t : List (Vec ℕ Global)). map (λ (v : Vec ℕ Global). slice_index v.items 0) t) c.deref.ensures.value ∙ starts_same c.in_ok-entries.entries.items;
      nexts_are = c.in_ok-nexts.ensures;
    }
