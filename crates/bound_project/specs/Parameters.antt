-- Parameters of procedures: to which of them something must be given, and the one that takes the value of a Property Let
-- or Set.
use Rattle.std.specs.Prelude.{ℕ, ◌&&◌, ◌||◌, List, [], ◌∷◌, Bool, true, false, not, is_none}
use Rattle.vba_values.specs.Types.{Declared}
use Rattle.vba_values.specs.Types as type
use Rattle.bound_project.specs.Project.{Declarations, Parameter, procedure_at}

-- the parameters of a procedure, by its number
abbrev pub parameters_of : Declarations → (procedure : ℕ) → List Parameter
parameters_of d p = (procedure_at d p).parameters

-- whether there are parameters
abbrev pub has_parameters : List Parameter → Bool
has_parameters [] = false
has_parameters (q ∷ qs) = true

-- whether something must be given to a parameter, and to one of these
abbrev pub must_be_given : Parameter → Bool
must_be_given q = not q.many && is_none q.default

abbrev pub any_must : List Parameter → Bool
any_must [] = false
any_must (q ∷ qs) = must_be_given q || any_must qs

-- all but the last one, which takes the value of a Property Let or Set
abbrev pub without_last : {A : Type 0} → List A → List A
without_last [] = []
without_last (x ∷ []) = []
without_last (x ∷ y ∷ ys) = x ∷ without_last (y ∷ ys)

-- the declared type of the value that a Property Let is given
abbrev pub last_type : List Parameter → Declared
last_type [] = type.variant
last_type (q ∷ []) = q.of
last_type (q ∷ r ∷ rs) = last_type (r ∷ rs)
