use Rattle.std.proofs.Common.{◌≡◌, ◌++◌, drop, map}
use Rattle.vba_module.specs.Headers.{all_of}
use Rattle.vba_tree.specs.Tree.{Parameter}
use Rattle.vba_tree.specs.View.{listed_view, parameter_view}
use Rattle.said_parts.specs.View.{behind}
use Rattle.name_rules.proofs.names_of.push_listed.Given as goal

abbrev pub invariant-loop-next : goal.invariant-loop-next
invariant-loop-next l =
    map (λ x. x.now) l.names.items ++ map (λ (p : Parameter). p.name) (behind parameter_view (drop l.next-index l.next-items))
    ≡ map (λ x. x.now) l.fn.names.items ++ map (λ (p : Parameter). p.name) (all_of (listed_view parameter_view l.list))
