-- References to objects: whether two are to the same object, and which ones a value has.
use Rattle.std.specs.Prelude.{Bool, true, false, ◌&&◌, nat_eq, List, [], ◌∷◌, ◌++◌, Result, Ok, Err}
use Rattle.vba_values.specs.declared.fault.Bad.{Bad}
use Rattle.vba_values.specs.declared.fault.Bad.TheVariants.{Raise}
use Rattle.vba_values.specs.declared.object.HostRef.{HostRef}
use Rattle.vba_values.specs.declared.object.HostRef.TheVariants.{Application, Workbook, Sheets, ErrObject, Sheet, Area, RowsOf, ColumnsOf}
use Rattle.vba_values.specs.declared.object.ObjRef.{ObjRef}
use Rattle.vba_values.specs.declared.object.ObjRef.TheVariants.{Nothing, Heap, Host}
use Rattle.vba_values.specs.Val.{Val, Vals, object, array, udt, no_vals, val}

-- whether two references to the host name the same
abbrev pub same_host : HostRef → HostRef → Bool
same_host Application Application = true
same_host Workbook Workbook = true
same_host Sheets Sheets = true
same_host ErrObject ErrObject = true
same_host (Sheet sheet) (Sheet sheet') = nat_eq sheet sheet'
same_host (Area sheet top left rows columns) (Area sheet' top' left' rows' columns') =
    nat_eq sheet sheet' && (nat_eq top top' && (nat_eq left left' && (nat_eq rows rows' && nat_eq columns columns')))
same_host (RowsOf count) (RowsOf count') = nat_eq count count'
same_host (ColumnsOf count) (ColumnsOf count') = nat_eq count count'
same_host _ _ = false

-- whether two references are the same
abbrev pub same_object : ObjRef → ObjRef → Bool
same_object Nothing Nothing = true
same_object (Heap id) (Heap id') = nat_eq id.0 id'.0
same_object (Host host) (Host host') = same_host host host'
same_object _ _ = false

-- Object required
abbrev pub object_required : Bad
object_required = Raise 424

-- Is: whether two references are to the same object; Nothing is the same as Nothing
abbrev pub compared_by_is : Val → Val → Result Bool Bad
compared_by_is (object left) (object right) = Ok (same_object left right)
compared_by_is left right = Err object_required

abbrev mutual
  -- the references that a value has, in the order of its places
  pub references_of : Val → List ObjRef
  references_of (object reference) = reference ∷ []
  references_of (array bounds element items) = references_in items
  references_of (udt place fields) = references_in fields
  references_of value = []

  pub references_in : Vals → List ObjRef
  references_in no_vals = []
  references_in (val v vs) = references_of v ++ references_in vs
