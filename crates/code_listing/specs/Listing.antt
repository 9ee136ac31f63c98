-- The listing of a code.
use Rattle.std.specs.Prelude.{ℕ, ◌+◌, List, [], ◌∷◌, ◌++◌, length, codes, if◌then◌else◌}
use Rattle.std.specs.Int.RustNames.{unsigned_abs}
use Rattle.std.specs.Fmt.{decimal}
use Rattle.pcode.specs.Instructions.{Instr, Code}
use Rattle.pcode.specs.Instructions as instr
use Rattle.code_listing.specs.Numbers.{bit_of, compare_number, function_number, handler_number, host_detail, host_number, member_number, operator_number, policy_number, storage_number, type_detail, type_number, value_number, value_size, variable_number}

-- an instruction as a line tells it: the number of its kind, and two numbers, which are 0 where it has none
pub record Line : Type 0 where
  pub op : ℕ
  pub first : ℕ
  pub second : ℕ

abbrev pub listed_as : (op first second : ℕ) → Line
listed_as op first second = record { op = op; first = first; second = second }

-- numbers of kinds are never given anew; a new kind has the next one
abbrev pub listed : Instr → Line
listed (instr.Begin i) = listed_as 0 i 0
listed (instr.Push v) = listed_as 1 (value_number v) (value_size v)
listed (instr.PushHost reference) = listed_as 2 (host_number reference) (host_detail reference)
listed (instr.LoadErr member) = listed_as 3 (member_number member) 0
listed (instr.PathOf x) = listed_as 4 (variable_number x.storage) (storage_number x.storage)
listed instr.ReadThrough = listed_as 5 0 0
listed (instr.ElementOf k) = listed_as 6 k 0
listed (instr.ElementIn k) = listed_as 7 k 0
listed (instr.FieldOf i of bounded) = listed_as 8 i (bit_of bounded)
listed (instr.Dot i) = listed_as 9 i 0
listed (instr.Index k) = listed_as 10 k 0
listed (instr.PartOf i) = listed_as 11 i 0
listed (instr.Operate o compare l r) = listed_as 12 (operator_number o) (compare_number compare)
listed (instr.OperateAlone o of) = listed_as 13 (operator_number o) 0
listed instr.Plain = listed_as 14 0 0
listed instr.PlainIfAny = listed_as 15 0 0
listed instr.FirstSheet = listed_as 16 0 0
listed (instr.MemberThere name given) = listed_as 17 (length name) given
listed (instr.MemberOf name k) = listed_as 18 (length name) k
listed instr.Same = listed_as 19 0 0
listed (instr.IsType of) = listed_as 20 (type_number of) (type_detail of)
listed (instr.Library f text_form compare base k) = listed_as 21 (function_number f) k
listed (instr.BoundAt upper z) = listed_as 22 (bit_of upper) (unsigned_abs z)
listed (instr.Fit of) = listed_as 23 (type_number of) (type_detail of)
listed (instr.FitObject of) = listed_as 24 (type_number of) (type_detail of)
listed instr.Drop = listed_as 25 0 0
listed instr.Lend = listed_as 26 0 0
listed (instr.Pack k) = listed_as 27 k 0
listed (instr.Reorder order k) = listed_as 28 (length order) k
listed (instr.Lift k) = listed_as 29 k 0
listed (instr.Call p k) = listed_as 30 p k
listed instr.Store = listed_as 31 0 0
listed instr.SetAt = listed_as 32 0 0
listed instr.StoreDefault = listed_as 33 0 0
listed (instr.StoreMember name k) = listed_as 34 (length name) k
listed instr.ShowText = listed_as 35 0 0
listed (instr.Show ends k) = listed_as 36 k (bit_of ends)
listed (instr.Throw k) = listed_as 37 k 0
listed (instr.LoopOff i) = listed_as 38 i 0
listed (instr.LoopOn x i compare last step) = listed_as 39 (variable_number x.storage) i
listed (instr.NextRound x i) = listed_as 40 (variable_number x.storage) i
listed (instr.EachOff i) = listed_as 41 i 0
listed (instr.EachOn i) = listed_as 42 i 0
listed (instr.NextItem x i) = listed_as 43 (variable_number x.storage) i
listed (instr.Keep i) = listed_as 44 i 0
listed (instr.Selected i) = listed_as 45 i 0
listed (instr.IfFits o compare of wanted to) = listed_as 46 (operator_number o) to
listed (instr.IfBetween compare of low high to) = listed_as 47 (compare_number compare) to
listed (instr.Redim preserve of k) = listed_as 48 k (bit_of preserve)
listed instr.EraseAt = listed_as 49 0 0
listed (instr.KeepPath i) = listed_as 50 i 0
listed (instr.DropKept i) = listed_as 51 i 0
listed (instr.PutReturn i) = listed_as 52 i 0
listed (instr.TakeReturn p) = listed_as 53 p 0
listed (instr.SetPolicy policy) = listed_as 54 (policy_number policy) (handler_number policy)
listed instr.HandlerOff = listed_as 55 0 0
listed instr.ErrOff = listed_as 56 0 0
listed (instr.Again p) = listed_as 57 p 0
listed (instr.Behind p) = listed_as 58 p 0
listed (instr.Resumes p to) = listed_as 59 p to
listed (instr.Finish to) = listed_as 60 to 0
listed (instr.Branch sense to other) = listed_as 61 (if sense then to else other) (if sense then other else to)
listed instr.Halt = listed_as 62 0 0
listed instr.StopHere = listed_as 63 0 0
listed instr.Leave = listed_as 64 0 0
listed (instr.StoreItem k) = listed_as 65 k 0
listed instr.SetMember = listed_as 66 0 0
listed (instr.NamedThere name by given) = listed_as 67 (length name) given
listed (instr.NamedOf name by k) = listed_as 68 (length name) k
listed instr.PushThis = listed_as 69 0 0
listed (instr.New class) = listed_as 70 class 0
listed instr.ObjectThere = listed_as 71 0 0
listed (instr.FieldIn i of bounded) = listed_as 72 i (bit_of bounded)
listed (instr.CallOf p k) = listed_as 73 p k
listed (instr.AsNew class) = listed_as 74 class 0
listed instr.MakeThere = listed_as 75 0 0
listed instr.StoreMade = listed_as 76 0 0
listed (instr.FindLate aim name by given) = listed_as 77 (length name) (length given)
listed (instr.BindValue aim name by given i) = listed_as 78 (length name) i
listed (instr.BindPlace aim name by given i) = listed_as 79 (length name) i
listed (instr.CallLate name by given) = listed_as 80 (length name) (length given)
listed (instr.LetLate name by given) = listed_as 81 (length name) (length given)
listed (instr.SetLate name by given) = listed_as 82 (length name) (length given)
listed (instr.ItemAlong k) = listed_as 83 k 0
listed instr.WriteThrough = listed_as 84 0 0
listed (instr.LetElement k) = listed_as 85 k 0
listed (instr.RaiseEvent event k) = listed_as 86 event k
listed (instr.ElementAlong k) = listed_as 87 k 0
listed (instr.SetElement k) = listed_as 88 k 0
listed (instr.LateField name) = listed_as 89 (length name) 0
listed instr.Enumerate = listed_as 90 0 0
listed instr.PlaceOf = listed_as 91 0 0

-- two numbers in decimal, with a blank between them
abbrev pub both : (left right : ℕ) → List ℕ
both left right = decimal left ++ codes " " ++ decimal right

-- a line: the address, the kind and the two numbers
abbrev pub line_of : (address : ℕ) → Line → List ℕ
line_of address l = both address l.op ++ codes " " ++ both l.first l.second ++ codes "\n"

-- a line for each instruction, with addresses from this one on
abbrev pub lines_from : (address : ℕ) → List Instr → List ℕ
lines_from address [] = []
lines_from address (i ∷ is) = line_of address (listed i) ++ lines_from (address + 1) is

-- the listing of a code: its instructions in order, with addresses from 0; each procedure stands behind the one before it
abbrev pub listing_of : Code → List ℕ
listing_of code = lines_from 0 code.instrs
