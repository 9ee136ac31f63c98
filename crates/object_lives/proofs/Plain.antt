-- The constants of a well-formed code refer to nothing.
use Rattle.std.proofs.Common.{◌≡◌, ℕ, zero, suc, ◌<◌, ◌≤◌, Bool, true, false, List, [], ◌∷◌, length, drop, Option, Some, None, refl, sym, ◌∙◌, arith}
use Rattle.std.specs.Prelude.{nat_lt, slice_get, slice_index, slice_index_or, unwrap_or, if◌then◌else◌}
use Rattle.std.proofs.lemmas.Bool.{ltb-true, ltb-false}
use Rattle.vba_values.specs.declared.object.ObjRef.TheVariants.{Nothing, Heap, Host}
use Rattle.vba_values.specs.Val.{Val, empty, null, missing, boolean, whole, currency, text, object, array, udt}
use Rattle.bound_project.specs.Project.{Declarations, Procedure, Parameter, no_procedure}
use Rattle.bound_project.specs.Whole.{All, IfThere, IsConstant}
use Rattle.vba_meaning.specs.Effects.{packed, slot_left_out}
use Rattle.bound_project.specs.Parameters.{parameters_of}
use Rattle.pcode.specs.Instructions.{Push, Leave, Code, list_or}
use Rattle.pcode.specs.WellFormed.{first_address, WellFormed}
use Rattle.object_lives.specs.Lives.{HasPlainDefaults}
use Rattle.object_lives.proofs.Values.{none_in, Refers}
use Rattle.object_lives.proofs.Held.{bare_from, SlotIn}
use Rattle.object_lives.proofs.Uses.{Bare}

-- a constant refers to nothing
pub constant_in : {xs : List ℕ} (v : Val) → IsConstant v → Refers xs v
constant_in {xs = xs} empty h = none_in xs
constant_in {xs = xs} null h = none_in xs
constant_in {xs = xs} missing h = none_in xs
constant_in {xs = xs} (boolean b) h = none_in xs
constant_in {xs = xs} (whole k z) h = none_in xs
constant_in {xs = xs} (currency count) h = none_in xs
constant_in {xs = xs} (text units) h = none_in xs
constant_in {xs = xs} (object Nothing) h = none_in xs
constant_in (object (Heap id)) h = absurd h
constant_in (object (Host x)) h = absurd h
constant_in (array bounds of items) h = absurd h
constant_in (udt number fields) h = absurd h

-- ---- each address behind the first is of some procedure

abbrev StandsIn : List (List ℕ) → (end pc procedure : ℕ) → Type 0
StandsIn entries end pc p = (0 < length (list_or (slice_get entries p))) × (slice_index (list_or (slice_get entries p)) 0 ≤ pc) × (pc < first_address (drop (suc p) entries) end)

of_some : (entries : List (List ℕ)) (end pc : ℕ) → first_address entries end ≤ pc → pc < end → (p : ℕ) × StandsIn entries end pc p
of_some [] end pc le lt = absurd (omega (arith, le, lt))
of_some ([] ∷ t) end pc le lt = let more = of_some t end pc le lt in (suc more.0, more.1)
of_some ((a ∷ es) ∷ t) end pc le lt = by_test (nat_lt pc (first_address t end)) refl (λ h. of_some t end pc h lt) where
  by_test : (b : Bool) → nat_lt pc (first_address t end) ≡ b → (first_address t end ≤ pc → (p : ℕ) × StandsIn t end pc p) → (p : ℕ) × StandsIn ((a ∷ es) ∷ t) end pc p
  by_test true e more = (0, (omega arith, le, ltb-true pc (first_address t end) e))
  by_test false e more = let h = more (ltb-false pc (first_address t end) e) in (suc h.0, h.1)

within_length : {A : Type 0} (xs : List A) (i : ℕ) (x : A) → slice_get xs i ≡ Some x → i < length xs
within_length [] i x e = absurd cc
within_length (y ∷ xs) zero x e = omega arith
within_length (y ∷ xs) (suc i) x e = omega (arith, within_length xs i x e)

pub plain_code : (code : Code) → WellFormed code → (pc : ℕ) (v : Val) → slice_get code.instrs pc ≡ Some (Push v) → Refers [] v
plain_code code w zero v e = absurd (let x : Some Leave ≡ Some (Push v) = sym w.leave ∙ e in cc)
plain_code code w (suc pc) v e =
    let is = of_some code.entries (length code.instrs) (suc pc) (omega (arith, w.first)) (within_length code.instrs (suc pc) (Push v) e) in
    constant_in v (w.sound is.0 (suc pc) (Push v) is.1 e)

-- procedures end at the first address alone
pub leave_first : (code : Code) → WellFormed code → (pc : ℕ) → slice_get code.instrs pc ≡ Some Leave → pc ≡ 0
leave_first code w zero e = refl
leave_first code w (suc pc) e =
    let is = of_some code.entries (length code.instrs) (suc pc) (omega (arith, w.first)) (within_length code.instrs (suc pc) Leave e) in
    absurd (w.sound is.0 (suc pc) Leave is.1 e)

-- ---- what parameters have to which nothing is given

default_in : (q : Parameter) → IfThere IsConstant q.default → SlotIn (bare_from 0) (slot_left_out q)
default_in q h = by_parts q.many q.default h where
  by_parts : (many : Bool) (default : Option Val) → IfThere IsConstant default → Refers [] (if many then packed [] else unwrap_or default missing)
  by_parts true default k = none_in []
  by_parts false None k = none_in []
  by_parts false (Some v) k = constant_in v k

defaults_in : (qs : List Parameter) → All (λ q. IfThere IsConstant q.default) qs → Bare qs
defaults_in [] h = tt
defaults_in (q ∷ qs) h = (default_in q h.0, defaults_in qs h.1)

parameters_in : (ps : List Procedure) (p : ℕ) → All (λ x. All (λ q. IfThere IsConstant q.default) x.parameters) ps → Bare (slice_index_or ps p no_procedure).parameters
parameters_in [] zero h = tt
parameters_in [] (suc p) h = tt
parameters_in (x ∷ ps) zero h = defaults_in x.parameters h.0
parameters_in (x ∷ ps) (suc p) h = parameters_in ps p h.1

pub plain_defaults : (d : Declarations) → HasPlainDefaults d → (p : ℕ) → Bare (parameters_of d p)
plain_defaults d h p = parameters_in d.procedures p h
