-- Two references compare as equal exactly where they are the same.
use Rattle.std.proofs.Common.{◌≡◌, refl}
use Rattle.vba_values.specs.declared.object.HostRef.{HostRef}
use Rattle.vba_values.specs.declared.object.HostRef.TheVariants.{Application, Workbook, Sheets, ErrObject, Sheet, Area, RowsOf, ColumnsOf}
use Rattle.vba_values.specs.declared.object.ObjRef.{ObjRef}
use Rattle.vba_values.specs.declared.object.ObjRef.TheVariants.{Nothing, Heap, Host}
use Rattle.vba_values.specs.contracts.object.ObjRefPartialEq.TheImpl as object_eq
use Rattle.vba_values.specs.contracts.object.HostRefPartialEq.TheImpl as host_eq
use Rattle.vba_values.specs.Objects.{same_host, same_object}

host_equal : (a b : HostRef) → host_eq.ghosts.eq a b ≡ same_host a b
host_equal Application Application = refl
host_equal Workbook Workbook = refl
host_equal Sheets Sheets = refl
host_equal ErrObject ErrObject = refl
host_equal (Sheet a) (Sheet b) = refl
host_equal (Area sheet top left rows columns) (Area sheet' top' left' rows' columns') = refl
host_equal (RowsOf a) (RowsOf b) = refl
host_equal (ColumnsOf a) (ColumnsOf b) = refl
host_equal _ _ = refl

pub object_equal : (a b : ObjRef) → object_eq.ghosts.eq a b ≡ same_object a b
object_equal Nothing Nothing = refl
object_equal (Heap a) (Heap b) = refl
object_equal (Host a) (Host b) = host_equal a b
object_equal _ _ = refl
