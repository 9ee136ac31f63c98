-- What does a use, for each of them.
use Rattle.std.proofs.Common.{◌≡◌, ℕ, Bool, true, false, List, [], refl, sym, ap, ◌∙◌}
use Rattle.std.specs.Prelude.{◌&&◌, Option, Some, None, nat_lt, not}
use Rattle.vba_values.specs.Val.{Val, empty}
use Rattle.bound_project.specs.Expressions.{ByName}
use Rattle.bound_project.specs.Project.{Declarations, Parameter, is_property, is_variable}
use Rattle.vba_meaning.specs.Paths.{Path}
use Rattle.vba_meaning.specs.Memory.{Memory, Slot}
use Rattle.vba_meaning.specs.Effects.{Fine, slot_values}
use Rattle.bound_project.specs.Parameters.{has_parameters, parameters_of, without_last}
use Rattle.vba_meaning.specs.Defaults.{gives, index_along, most_passed, read_variable, then_call, variable_of}
use Rattle.vba_meaning.specs.LateBound.{Use, reading, assigning, setting, Way, by_variable, by_call, by_setter, assigned_way, call_way, get_alone, get_for_object, indexes, set_by, way_of, what_is_indexed}
use Rattle.run_late.specs.Parts.{called_at, is_read}

pub variable_any : (d : Declarations) (aim : Use) (k : ℕ) (v : Val) (i : ℕ) (makes : Option ℕ) (m : Memory) → way_of d aim k v (is_variable i makes) m ≡ Some (by_variable (variable_of d v i makes m))
variable_any d reading k v i makes m = refl
variable_any d assigning k v i makes m = refl
variable_any d setting k v i makes m = refl

-- ---- what arguments index

pub called_any : (d : Declarations) (aim : Use) (v : Val) (p : ℕ) (property : Bool) (m : Memory) → what_is_indexed d aim v (by_call p property) m ≡ Fine (then_call p v [] []) m
called_any d reading v p property m = refl
called_any d assigning v p property m = refl
called_any d setting v p property m = refl

pub setter_any : (d : Declarations) (aim : Use) (v : Val) (p : ℕ) (m : Memory) → what_is_indexed d aim v (by_setter p) m ≡ Fine (gives empty) m
setter_any d reading v p m = refl
setter_any d assigning v p m = refl
setter_any d setting v p m = refl

pub variable_read : (d : Declarations) (aim : Use) (v : Val) (q : Path) (m : Memory) → is_read aim ≡ true → what_is_indexed d aim v (by_variable q) m ≡ read_variable d q m
variable_read d reading v q m h = refl
variable_read d assigning v q m h = let f : false ≡ true = h in absurd cc
variable_read d setting v q m h = let f : false ≡ true = h in absurd cc

pub variable_left : (d : Declarations) (aim : Use) (v : Val) (q : Path) (m : Memory) → is_read aim ≡ false → what_is_indexed d aim v (by_variable q) m ≡ Fine (gives empty) m
variable_left d reading v q m h = let f : true ≡ false = h in absurd cc
variable_left d assigning v q m h = refl
variable_left d setting v q m h = refl

-- ---- a call, by whether the arguments index what there is

pub call_index : (d : Declarations) (by : ByName) (gs : List Bool) (base begun : Val) (xs : List Slot) (w : Way) (m : Memory) → indexes d by gs w ≡ true
    → call_way d by gs base begun xs w m ≡ index_along d most_passed (slot_values xs) begun m
call_index d by gs base begun xs w m h = rw h refl

pub call_itself : (d : Declarations) (by : ByName) (gs : List Bool) (base begun : Val) (xs : List Slot) (w : Way) (m : Memory) → indexes d by gs w ≡ false
    → call_way d by gs base begun xs w m ≡ called_at d by base xs w m
call_itself d by gs base begun xs (by_variable q) m h = rw h refl
call_itself d by gs base begun xs (by_call p property) m h = rw h refl
call_itself d by gs base begun xs (by_setter p) m h = rw h refl

-- ---- properties, by whether there are arguments that their procedure can't take

-- the same of the parameters that a procedure has
pub taken_none : (b c : Bool) (k : ℕ) (qs ps : List Parameter) → b ≡ (nat_lt 0 k && not (has_parameters qs)) → qs ≡ ps → b ≡ c → (nat_lt 0 k && not (has_parameters ps)) ≡ c
taken_none b c k qs ps e f g = ap (λ (l : List Parameter). nat_lt 0 k && not (has_parameters l)) (sym f) ∙ sym e ∙ g

pub alone_for_object : (d : Declarations) (k p : ℕ) → (nat_lt 0 k && not (has_parameters (parameters_of d p))) ≡ true → get_alone d k (Some p) ≡ get_for_object d (Some p)
alone_for_object d k p h = rw h refl

pub let_lacks : (d : Declarations) (k : ℕ) (v : Val) (reads lets sets : Option ℕ) (m : Memory) → ((p : ℕ) → (lets ≡ Some p) → ⊥) → assigned_way d k v (is_property reads lets sets) m ≡ get_for_object d reads
let_lacks d k v reads None sets m h = refl
let_lacks d k v reads (Some p) sets m h = absurd (h p refl)

pub let_left : (d : Declarations) (k : ℕ) (v : Val) (reads sets : Option ℕ) (p : ℕ) (m : Memory) → (nat_lt 0 k && not (has_parameters (without_last (parameters_of d p)))) ≡ true
    → assigned_way d k v (is_property reads (Some p) sets) m ≡ get_for_object d reads
let_left d k v reads sets p m h = rw h refl

pub set_lacks : (d : Declarations) (k : ℕ) (reads sets : Option ℕ) → ((p : ℕ) → (sets ≡ Some p) → ⊥) → set_by d k reads sets ≡ get_alone d k reads
set_lacks d k reads None h = refl
set_lacks d k reads (Some p) h = absurd (h p refl)

pub set_left : (d : Declarations) (k : ℕ) (reads : Option ℕ) (p : ℕ) → (nat_lt 0 k && not (has_parameters (without_last (parameters_of d p)))) ≡ true → set_by d k reads (Some p) ≡ get_alone d k reads
set_left d k reads p h = rw h refl
