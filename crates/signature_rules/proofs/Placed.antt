-- Modules and entries that a walk meets, at their places.
use Rattle.std.proofs.Common.{◌≡◌, ℕ, zero, suc, ◌+◌, ◌<◌, List, [], ◌∷◌, length, drop, get_or, map, Option, Some, sym, ap, ◌∙◌, arith}
use Rattle.std.specs.Prelude.{flat_map, slice_get}
use Rattle.std.proofs.lemmas.List.{drop_more}
use Rattle.vba_base.specs.declared.place.Place.{Place}
use Rattle.vba_base.specs.declared.place.Refusal.{Refusal}
use Rattle.bound_declarations.specs.constant_values.specs.declared_names.specs.binder.specs.Names.{scope_of}
use Rattle.bound_declarations.specs.constant_values.specs.Rounds.{AreNumbered, IsPlaced}
use Rattle.bound_declarations.specs.constant_values.proofs.Looked.{placed_at}
use Rattle.bound_declarations.specs.constant_values.specs.declared_names.specs.Outside.{the_outside}
use Rattle.bound_declarations.specs.constant_values.specs.declared_names.specs.View.{space_view}
use Rattle.bound_declarations.specs.constant_values.specs.declared_names.specs.declared.space.Space.{Space}
use Rattle.use_rules.specs.Found.{noted}
use Rattle.use_rules.proofs.Noted.{noted_append}

get_mapped : {X Y : Type 0} (view : X → Y) (all : List X) (index : ℕ) (x : X) → index < length all → x ≡ get_or all index x → slice_get (map view all) index ≡ Some (view x)
get_mapped view [] index x more here = absurd (omega arith)
get_mapped view (y ∷ all) zero x more here = ap (λ z. Some (view z)) (sym here)
get_mapped view (y ∷ all) (suc index) x more here = get_mapped view all index x (omega arith) here

-- the scope of a module of a project
pub module_placed : (spaces : List Space) (index : ℕ) (space : Space) → AreNumbered (map space_view spaces) → index < length spaces → space ≡ get_or spaces index space
    → IsPlaced (scope_of the_outside (map space_view spaces) (space_view space))
module_placed spaces index space numbered more here = record {
  numbered = numbered;
  here = placed_at (map space_view spaces) index (space_view space) numbered (get_mapped space_view spaces index space more here);
}

-- one item more
pub item_noted : {X B : Type 0} (rule : ℕ) (test : B → List Place) (view : X → B) (now next found : Option Refusal) (all : List X) (index : ℕ) (x : X)
    → index < length all → x ≡ get_or all index x
    → next ≡ noted rule now (test (view x))
    → noted rule now (flat_map test (map view (drop index all))) ≡ found
    → noted rule next (flat_map test (map view (drop (index + 1) all))) ≡ found
item_noted rule test view now next found all index x more here is before =
    let others = flat_map test (map view (drop (index + 1) all)) in
    let front : drop index all ≡ x ∷ drop (index + 1) all = drop_more all index x more ∙ ap (λ y. y ∷ drop (index + 1) all) (sym here) in
    ap (λ f. noted rule f others) is
    ∙ sym (noted_append rule now (test (view x)) others)
    ∙ ap (λ xs. noted rule now (flat_map test (map view xs))) (sym front)
    ∙ before
