-- What is done in one go with objects and references to them.
use Rattle.std.specs.Prelude.{ℕ, zero, suc, [], ◌∷◌, ◌++◌, length, map, Bool, true, false, Option, Some, None}
use Rattle.vba_values.specs.declared.object.ObjRef.TheVariants.{Nothing, Heap}
use Rattle.vba_values.specs.Types.{Declared}
use Rattle.vba_values.specs.Val.{Val, empty, boolean, object}
use Rattle.vba_values.specs.Objects.{compared_by_is}
use Rattle.bound_project.specs.Project.{Declarations, class_at, first_values}
use Rattle.vba_meaning.specs.Paths.{in_fields, Path}
use Rattle.vba_meaning.specs.Memory.{Memory, Object, top, value_at}
use Rattle.vba_meaning.specs.References.{hold}
use Rattle.vba_meaning.specs.Effects.{Init, Effect, Fine, Bad-at, Tell, on_fine, done, answered, takes_object, set_object, stored}

-- Is: 424 where one of both is no object ([MS-VBAL] 5.6.9.7)
abbrev pub compared : Val → Val → Memory → Effect Val
compared v w m = on_fine (answered (compared_by_is v w) m) (λ b m1. Fine (boolean b) m1)

-- TypeOf: whether Set would let a variable of the type have the object ([MS-VBAL] 5.6.7)
abbrev pub typed_as : Declared → Val → Memory → Effect Val
typed_as of (object Nothing) m = Bad-at 91 m
typed_as of (object o) m = Fine (boolean (takes_object of o m)) m
typed_as of v m = Bad-at 424 m

-- Set: the test of Set by the declared type at the place, and the object is stored ([MS-VBAL] 5.4.3.9)
abbrev pub set_at : Path → Val → Memory → Effect (Unit {0})
set_at p v m = on_fine (set_object p.of v m) (λ w m1. stored p w m1)

-- ---- objects of classes

-- a new object of a class: its variables have their first values, and none has a source of events
abbrev pub new_instance : Declarations → (class : ℕ) → Object
new_instance d c = record { class = c; told = is_collection c; fields = first_values d (class_at d c).fields; keys = []; set_numbers = map (λ i. (i, None)) (class_at d c).with_events }
  where
    is_collection : ℕ → Bool
    is_collection zero = true
    is_collection (suc i) = false

-- the object of a class is told; a Collection isn't
abbrev pub told_made : (class number : ℕ) → Effect Val → Effect Val
told_made zero n e = e
told_made (suc c) n e = Tell (Init (suc c) n ∷ []) e

-- an object takes the next number, and the statement holds it ([MS-VBAL] 5.6.9.5)
abbrev pub made : Declarations → (class : ℕ) → Memory → Effect Val
made d c m = told_made c (length m.objects) (Fine (object (Heap (record { 0 = length m.objects })))
    (hold (object (Heap (record { 0 = length m.objects }))) (record m { objects = m.objects ++ Some (new_instance d c) ∷ [] })))

-- the object whose procedure runs, which the statement holds
abbrev pub own_object : Memory → Effect Val
own_object m = Fine (top m).me (hold (top m).me m)

-- an object of which a procedure is called
abbrev pub object_there : Val → Memory → Effect Val
object_there (object Nothing) m = Bad-at 91 m
object_there (object o) m = Fine (object o) m
object_there v m = Bad-at 424 m

-- the place of a variable of an object
abbrev pub field_in : (field : ℕ) → Declared → (bounded : Bool) → Val → Memory → Effect Path
field_in i of bounded (object Nothing) m = Bad-at 91 m
field_in i of bounded (object (Heap id)) m = Fine (record { root = in_fields id.0 i; steps = []; of = of; bounded = bounded; makes = None }) m
field_in i of bounded (object o) m = Bad-at 438 m
field_in i of bounded v m = Bad-at 424 m

-- ---- variables declared As New ([MS-VBAL] 2.5.1)

-- what a read makes first: a new object where there is Nothing, and else Empty
abbrev pub made_for : Declarations → Path → Memory → Effect Val
made_for d q m = at q.makes (value_at m q)
  where
    at : Option ℕ → Option Val → Effect Val
    at (Some c) (Some (object Nothing)) = made d c m
    at makes v = Fine empty m

-- the Class_Initialize of what was made
abbrev pub initialize_of : Declarations → Path → Val → Option ℕ
initialize_of d q empty = None
initialize_of d q v = at q.makes
  where
    at : Option ℕ → Option ℕ
    at None = None
    at (Some c) = (class_at d c).initialize

-- what was made is stored
abbrev pub stored_made : Path → Val → Memory → Effect (Unit {0})
stored_made q empty m = done m
stored_made q v m = stored q v m

-- a place declared As New
abbrev pub made_at : (class : ℕ) → Path → Path
made_at c q = record q { makes = Some c }
