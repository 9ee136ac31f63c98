use Rattle.std.proofs.Common.{Bool, ◌&&◌, not, true, false, sym, subst}
use Rattle.bound_project.specs.DraftView.{draft_view}
use Rattle.bound_calls.specs.References.{IsInstance, is_of_host_kind}
use Rattle.bound_calls.proofs.LastNodes.{is_instance_just, no_class_instance}
use Rattle.bound_calls.proofs.references.instance_of.Goals as goal

pub returns-then-not-has_class : goal.returns-then-not-has_class
returns-then-not-has_class c =
    let t = (draft_view c.args.draft.now).tables in
    let P : Bool → Type 0 = λ has. IsInstance has t c.args.ending false in
    subst P (sym c.if-not-has_class.true) (no_class_instance t c.args.ending)

pub returns-then-may : goal.returns-then-may
returns-then-may c =
    let t = (draft_view c.args.draft.now).tables in
    let e = c.args.ending in
    let P : Bool → Type 0 = λ has. IsInstance has t e (not c.is_of_host.result) in
    let H : Bool → Type 0 = λ hosts. IsInstance true t e (not hosts) in
    let M : Bool → Type 0 = λ may. IsInstance true t e (may && not (is_of_host_kind t e.kind)) in
    subst P (sym c.if-not-has_class.false) (subst H (sym c.is_of_host.ensures) (subst M c.if-may.true (is_instance_just t e c.in_ok-may.may (sym c.in_ok-may.ensures))))

pub returns-else-may : goal.returns-else-may
returns-else-may c =
    let t = (draft_view c.args.draft.now).tables in
    let e = c.args.ending in
    let P : Bool → Type 0 = λ has. IsInstance has t e c.in_ok-may.may in
    let N : Bool → Type 0 = λ may. IsInstance true t e may in
    let M : Bool → Type 0 = λ may. IsInstance true t e (may && not (is_of_host_kind t e.kind)) in
    subst P (sym c.if-not-has_class.false) (subst N (sym c.if-may.false) (subst M c.if-may.false (is_instance_just t e c.in_ok-may.may (sym c.in_ok-may.ensures))))
