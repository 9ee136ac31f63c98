-- Serves the code: what it is that a code is well-formed. Each instruction finds its operands, on every way to it the
-- same ones; jumps lead to statements of their procedure, or to its end; and each number names what is there.
use Rattle.std.specs.Prelude.{◌≡◌, ℕ, zero, suc, ◌<◌, ◌≤◌, List, [], ◌∷◌, length, drop, Option, Some, None, slice_get, slice_index, slice_index_or}
use Rattle.error_frames.specs.declared.frame.Policy.{Policy}
use Rattle.error_frames.specs.declared.frame.Policy.TheVariants as policy
use Rattle.bound_project.specs.Whole.{All, IfThere, IsConstant, HasType, HasVariable, HasProcedure, WholeClass}
use Rattle.pcode.specs.Instructions.{Instr, Begin, Push, PushHost, LoadErr, PathOf, ReadThrough, ElementOf, ElementIn, FieldOf, Dot, Index, PartOf, Operate, OperateAlone, Plain, PlainIfAny, Enumerate, FirstSheet, MemberThere, MemberOf, NamedThere, NamedOf, PushThis, New, ObjectThere, FieldIn, AsNew, MakeThere, StoreMade, FindLate, BindValue, BindPlace, CallLate, LetLate, SetLate, ItemAlong, WriteThrough, LetElement, SetElement, ElementAlong, LateField, PlaceOf, Same, IsType, Library, BoundAt, Fit, FitObject, Drop, Lend, Pack, Reorder, Lift, Call, CallOf, Store, SetAt, StoreDefault, StoreMember, StoreItem, SetMember, RaiseEvent, ShowText, Show, Throw, LoopOff, LoopOn, NextRound, EachOff, EachOn, NextItem, Keep, Selected, IfFits, IfBetween, Redim, EraseAt, KeepPath, DropKept, PutReturn, TakeReturn, SetPolicy, Again, Behind, Resumes, Finish, Branch, Halt, Leave, Code, list_or, entry_of, next_statement}

-- ---- operands

-- what an operand is: a value, or where one is
pub data Kind : Type 0 where
  a_value : Kind
  a_path : Kind

-- what a way brings to an address: the operands on the stack, the last one first; or no way leads there from above
pub data Way : Type 0 where
  no_way : Way
  brings : List Kind → Way

-- a value, a path, and so many operands of any kind are taken off; None where they aren't there
abbrev pub value_off : List Kind → (List Kind → Option Way) → Option Way
value_off (a_value ∷ ks) go = go ks
value_off ks go = None

abbrev pub path_off : List Kind → (List Kind → Option Way) → Option Way
path_off (a_path ∷ ks) go = go ks
path_off ks go = None

abbrev pub taken_off : ℕ → List Kind → List Kind → (List Kind → List Kind → Option Way) → Option Way
taken_off zero ks xs go = go xs ks
taken_off (suc n) [] xs go = None
taken_off (suc n) (k ∷ ks) xs go = taken_off n ks (k ∷ xs) go

abbrev pub brings_value : List Kind → Option Way
brings_value ks = Some (brings (a_value ∷ ks))

abbrev pub brings_path : List Kind → Option Way
brings_path ks = Some (brings (a_path ∷ ks))

-- nothing is left on the stack where a statement ends
abbrev pub statement_over : List Kind → Option Way
statement_over [] = Some no_way
statement_over (k ∷ ks) = None

abbrev pub kinds_pushed : List Kind → List Kind → List Kind
kinds_pushed [] ks = ks
kinds_pushed (x ∷ xs) ks = kinds_pushed xs (x ∷ ks)

-- an argument that isn't given is a value
abbrev pub kinds_reordered : List ℕ → List Kind → List Kind
kinds_reordered [] xs = []
kinds_reordered (i ∷ is) xs = slice_index_or xs i a_value ∷ kinds_reordered is xs

-- what an instruction makes of the operands
abbrev pub behind : Instr → List Kind → Option Way
behind (Push v) ks = brings_value ks
behind (PushHost reference) ks = brings_value ks
behind (LoadErr member) ks = brings_value ks
behind (PathOf x) ks = brings_path ks
behind ReadThrough ks = path_off ks brings_value
behind (ElementOf n) ks = path_off ks (λ js. taken_off n js [] (λ xs is. brings_path is))
behind (ElementIn n) ks = taken_off n ks [] (λ xs js. path_off js brings_path)
behind (FieldOf i of bounded) ks = path_off ks brings_path
behind (Dot i) ks = brings_path ks
behind (Index n) ks = taken_off n ks [] (λ xs js. value_off js brings_value)
behind (PartOf i) ks = value_off ks brings_value
behind (Operate o compare l r) ks = value_off ks (λ js. value_off js brings_value)
behind (OperateAlone o of) ks = value_off ks brings_value
behind Plain ks = value_off ks brings_value
behind PlainIfAny ks = value_off ks brings_value
behind Enumerate ks = value_off ks brings_value
behind Same ks = value_off ks (λ js. value_off js brings_value)
behind PushThis ks = brings_value ks
behind (New c) ks = brings_value (a_value ∷ ks)
behind ObjectThere ks = value_off ks brings_value
behind (FieldIn i of bounded) ks = value_off ks brings_path
behind (AsNew c) ks = path_off ks brings_path
behind MakeThere ks = path_off ks (λ js. Some (brings (a_value ∷ a_value ∷ a_path ∷ js)))
behind StoreMade ks = value_off ks (λ js. path_off js brings_path)
behind (FindLate aim name by gs) ks = value_off ks (λ js. brings_value (a_value ∷ js))
behind (BindValue aim name by gs i) ks = value_off ks brings_value
behind (BindPlace aim name by gs i) ks = path_off ks brings_path
behind (CallLate name by gs) ks = taken_off (length gs) ks [] (λ xs js. value_off js (λ is. value_off is brings_value))
behind (LetLate name by gs) ks = taken_off (length gs) ks [] (λ xs js. value_off js (λ is. value_off is (λ hs. value_off hs brings_value)))
behind (SetLate name by gs) ks = taken_off (length gs) ks [] (λ xs js. value_off js (λ is. value_off is (λ hs. value_off hs brings_value)))
behind (ItemAlong n) ks = taken_off n ks [] (λ xs js. value_off js brings_value)
behind WriteThrough ks = value_off ks (λ js. value_off js brings_value)
behind (LetElement n) ks = taken_off n ks [] (λ xs js. path_off js (λ is. value_off is brings_value))
behind (SetElement n) ks = taken_off n ks [] (λ xs js. path_off js (λ is. value_off is brings_value))
behind (ElementAlong n) ks = taken_off n ks [] (λ xs js. path_off js brings_path)
behind (LateField name) ks = value_off ks brings_path
behind PlaceOf ks = value_off ks brings_path
behind (IsType of) ks = value_off ks brings_value
behind FirstSheet ks = brings_value ks
behind (MemberThere name n) ks = value_off ks (λ js. brings_value (a_value ∷ js))
behind (MemberOf name n) ks = taken_off n ks [] (λ xs js. value_off js (λ is. value_off is brings_value))
behind (NamedThere name by n) ks = value_off ks (λ js. brings_value (a_value ∷ js))
behind (NamedOf name by n) ks = taken_off n ks [] (λ xs js. value_off js (λ is. value_off is brings_value))
behind (StoreMember name n) ks = taken_off n ks [] (λ xs js. value_off js (λ is. value_off is (λ hs. value_off hs (λ gs. Some (brings gs)))))
behind (Library f text_form compare base n) ks = taken_off n ks [] (λ xs js. brings_value js)
behind (BoundAt upper z) ks = path_off ks brings_value
behind (Fit of) ks = value_off ks brings_value
behind (FitObject of) ks = value_off ks brings_value
behind Drop ks = value_off ks (λ js. Some (brings js))
behind Lend ks = path_off ks brings_path
behind (Pack n) ks = taken_off n ks [] (λ xs js. brings_value js)
behind (Reorder order n) ks = taken_off n ks [] (λ xs js. Some (brings (kinds_pushed (kinds_reordered order xs) js)))
behind (Lift n) ks = taken_off n ks [] (λ xs js. value_off js (λ is. brings_value (kinds_pushed xs is)))
behind (Call p n) ks = taken_off n ks [] (λ xs js. brings_value js)
behind (CallOf p n) ks = taken_off n ks [] (λ xs js. value_off js brings_value)
behind Store ks = path_off ks (λ js. value_off js (λ is. Some (brings is)))
behind SetAt ks = path_off ks (λ js. value_off js (λ is. Some (brings is)))
behind StoreDefault ks = value_off ks (λ js. value_off js (λ is. Some (brings is)))
behind (StoreItem n) ks = taken_off n ks [] (λ xs js. value_off js (λ is. value_off is (λ hs. Some (brings hs))))
behind SetMember ks = value_off ks (λ js. value_off js (λ is. Some (brings is)))
behind (RaiseEvent e n) ks = taken_off n ks [] (λ xs js. Some (brings js))
behind ShowText ks = value_off ks brings_value
behind (Show ends n) ks = taken_off n ks [] (λ xs js. Some (brings js))
behind (Throw n) ks = taken_off n ks [] (λ xs js. statement_over js)
behind (LoopOn x i compare t u) ks = value_off ks (λ js. value_off js (λ is. value_off is brings_value))
behind (NextRound x i) ks = brings_value ks
behind (EachOn i) ks = value_off ks (λ js. Some (brings js))
behind (NextItem x i) ks = brings_value ks
behind (Keep i) ks = value_off ks (λ js. Some (brings js))
behind (Selected i) ks = brings_value ks
behind (IfFits o compare of t to) ks = value_off ks (λ js. value_off js (λ is. Some (brings is)))
behind (IfBetween compare of t u to) ks = value_off ks (λ js. value_off js (λ is. value_off is (λ hs. Some (brings hs))))
behind (Redim preserve of n) ks = taken_off n ks [] (λ xs js. path_off js (λ is. Some (brings is)))
behind EraseAt ks = path_off ks (λ js. Some (brings js))
behind (KeepPath i) ks = path_off ks (λ js. Some (brings js))
behind (TakeReturn p) ks = statement_over ks
behind (Again p) ks = statement_over ks
behind (Behind p) ks = statement_over ks
behind (Resumes p to) ks = statement_over ks
behind (Finish to) ks = statement_over ks
behind (Branch sense to other) ks = value_off ks statement_over
behind Halt ks = statement_over ks
behind other ks = Some (brings ks)

-- no way leads from above to where a statement begins or a procedure ends, and some way to every other instruction
abbrev pub along : Instr → Way → Option Way
along (Begin i) no_way = Some (brings [])
along Leave no_way = Some no_way
along (Begin i) (brings ks) = None
along Leave (brings ks) = None
along i no_way = None
along i (brings ks) = behind i ks

abbrev pub along_rest : Option Way → (Way → Option Way) → Option Way
along_rest None go = None
along_rest (Some w) go = go w

-- the same along instructions
abbrev pub along_all : List Instr → Way → Option Way
along_all [] w = Some w
along_all (i ∷ is) w = along_rest (along i w) (along_all is)

-- ---- numbers

-- how many statements a procedure has
abbrev pub statement_count : Code → (procedure : ℕ) → ℕ
statement_count code p = length (list_or (slice_get code.entries p))

-- the number of a statement; and one at which a procedure can go on, which may be that of its end
abbrev pub IsStatement : Code → (procedure statement : ℕ) → Type 0
IsStatement code p i = i < statement_count code p

abbrev pub IsTarget : Code → (procedure statement : ℕ) → Type 0
IsTarget code p i = i ≤ statement_count code p

-- the address of a statement of a procedure, or that of its end
abbrev pub Leads : Code → (procedure to : ℕ) → Type 0
Leads code p to = (i : ℕ) × IsTarget code p i × (to ≡ entry_of code p i)

abbrev pub HasPolicy : Code → (procedure : ℕ) → Policy → Type 0
HasPolicy code p (policy.Handler i) = IsTarget code p i.0
HasPolicy code p other = Unit {0}

-- the numbers of an instruction of a procedure name what is there
abbrev pub Sound : Code → (procedure : ℕ) → Instr → Type 0
Sound code p (Begin i) = IsStatement code p i
Sound code p (Push v) = IsConstant v
Sound code p (PathOf x) = HasVariable code.declared p x
Sound code p (FieldOf i of bounded) = HasType code.declared of
Sound code p (Dot i) = IsStatement code p i
Sound code p (IsType of) = HasType code.declared of
Sound code p (Fit of) = HasType code.declared of
Sound code p (FitObject of) = HasType code.declared of
Sound code p (Reorder order n) = All (λ i. i < n) order
Sound code p (Call q n) = HasProcedure code.declared q n
Sound code p (CallOf q n) = HasProcedure code.declared q n
Sound code p (FieldIn i of bounded) = HasType code.declared of
Sound code p (LoopOff i) = IsStatement code p i
Sound code p (LoopOn x i compare t u) = HasVariable code.declared p x × IsStatement code p i
Sound code p (NextRound x i) = HasVariable code.declared p x × IsStatement code p i
Sound code p (EachOff i) = IsStatement code p i
Sound code p (EachOn i) = IsStatement code p i
Sound code p (NextItem x i) = HasVariable code.declared p x × IsStatement code p i
Sound code p (Keep i) = IsStatement code p i
Sound code p (Selected i) = IsStatement code p i
Sound code p (IfFits o compare of t to) = Leads code p to
Sound code p (IfBetween compare of t u to) = Leads code p to
Sound code p (Redim preserve of n) = IfThere (HasType code.declared) of
Sound code p (KeepPath i) = IsStatement code p i
Sound code p (DropKept i) = IsStatement code p i
Sound code p (PutReturn i) = IsTarget code p i
Sound code p (TakeReturn q) = q ≡ p
Sound code p (SetPolicy b) = HasPolicy code p b
Sound code p (Again q) = q ≡ p
Sound code p (Behind q) = q ≡ p
Sound code p (Resumes q to) = (q ≡ p) × IsTarget code p to
Sound code p (Finish to) = Leads code p to
Sound code p (Branch sense to other) = Leads code p to × Leads code p other
Sound code p Leave = ⊥
Sound code p other = Unit {0}

-- where the instructions of procedures begin: where the first statement of the first one that has statements does, or
-- at the end of the code
abbrev pub first_address : (entries : List (List ℕ)) → (end : ℕ) → ℕ
first_address [] end = end
first_address ([] ∷ t) end = first_address t end
first_address ((address ∷ es) ∷ t) end = address

-- an address is of a procedure: the first statement begins there or before it, and that of the next procedure that has
-- statements behind it; a procedure without statements has no address
abbrev pub IsOf : Code → (procedure address : ℕ) → Type 0
IsOf code p pc = IsStatement code p 0 × (entry_of code p 0 ≤ pc) × (pc < first_address (drop (suc p) code.entries) (length code.instrs))

-- a statement begins at an address of its procedure
abbrev pub BeginsAt : Code → (procedure statement address : ℕ) → Type 0
BeginsAt code p i pc = (slice_get code.instrs pc ≡ Some (Begin i)) × IsOf code p pc

-- a code is well-formed: Leave, at which each procedure ends, then the instructions of one procedure behind the other,
-- which find their operands and whose numbers name what is there; its tables tell where statements begin
pub record WellFormed (code : Code) : Type 0 where
  pub leave : slice_get code.instrs 0 ≡ Some Leave
  pub first : first_address code.entries (length code.instrs) ≡ 1
  pub operands : along_all code.instrs no_way ≡ Some no_way
  pub sound : (p pc : ℕ) (i : Instr) → IsOf code p pc → slice_get code.instrs pc ≡ Some i → Sound code p i
  pub entries : (p i : ℕ) → IsStatement code p i → BeginsAt code p i (entry_of code p i)
  pub starts : (p : ℕ) → slice_index code.starts p ≡ entry_of code p 0
  pub nexts : (p i : ℕ) → IsStatement code p i → IsTarget code p (next_statement code p i)
  pub counted : (length code.starts ≡ length code.declared.procedures) × (length code.entries ≡ length code.declared.procedures)
  pub ends : All (WholeClass code.declared) code.declared.classes
  pub begin : code.startup < length code.declared.procedures
