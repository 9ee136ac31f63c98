-- New objects of classes.
use Rattle.std.proofs.Common.{◌≡◌, ℕ, zero, suc, List, [], map, refl, ap, ◌∙◌}
use Rattle.std.specs.Prelude.{Bool, false, Option, None, ◌==◌}
use Rattle.std.proofs.Math.Dec.{eqb-suc-zero}
use Rattle.vba_values.specs.Val.{Val}
use Rattle.bound_project.specs.declared.declarations.Declarations.{Declarations as RustDeclarations}
use Rattle.bound_project.specs.View.{declarations_view}
use Rattle.bound_project.specs.Project.{class_at, first_values}
use Rattle.vba_meaning.specs.Memory.{Object}
use Rattle.vba_meaning.specs.Objects.{new_instance}

by_class : (d : RustDeclarations) (c : ℕ) (told : Bool) (fs : List Val) (ks : List (Option (List ℕ))) → told ≡ (c == 0) → fs ≡ first_values (declarations_view d) (class_at (declarations_view d) c).fields → ks ≡ []
    → let b : Object = record { class = c; told = told; fields = fs; keys = ks; set_numbers = map (λ i. (i, None)) (class_at (declarations_view d) c).with_events } in b ≡ new_instance (declarations_view d) c
by_class d zero told fs ks e f g = rw (e, f, g) refl
by_class d (suc c) told fs ks e f g = let h : told ≡ false = e ∙ eqb-suc-zero c in rw (h, f, g) refl

-- a new object of a class, by its fields and its set numbers; it has no keys
pub new_by : (d : RustDeclarations) (c : ℕ) (told : Bool) (fs : List Val) (ks : List (Option (List ℕ))) (ns : List (ℕ × Option ℕ)) → told ≡ (c == 0)
    → fs ≡ first_values (declarations_view d) (class_at (declarations_view d) c).fields → ks ≡ [] → ns ≡ map (λ (i : ℕ). (i, None)) (class_at (declarations_view d) c).with_events
    → let b : Object = record { class = c; told = told; fields = fs; keys = ks; set_numbers = ns } in b ≡ new_instance (declarations_view d) c
new_by d c told fs ks ns e f g h =
    ap (λ (es : List (ℕ × Option ℕ)). let b : Object = record { class = c; told = told; fields = fs; keys = ks; set_numbers = es } in b) h ∙ by_class d c told fs ks e f g
