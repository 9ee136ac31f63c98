-- Which operands stay as long as their frame: a path to a variable of the procedure does, and one into it.
use Rattle.std.proofs.Common.{◌≡◌, ℕ, zero, suc, ◌+◌, List, [], ◌∷◌, length, Bool, true, false, Option, Some, None, ap, subst, arith}
use Rattle.std.specs.Prelude.{slice_get}
use Rattle.vba_meaning.specs.Memory.{rest}
use Rattle.pcode.specs.Instructions.{Instr, AsNew, BindPlace, BindValue, BoundAt, Call, CallLate, CallOf, Dot, Drop, ElementAlong, ElementIn, ElementOf, Enumerate, FieldIn, FieldOf, FindLate, FirstSheet, Fit, FitObject, Index, IsType, ItemAlong, LateField, Lend, LetElement, LetLate, Library, Lift, LoadErr, MakeThere, MemberOf, MemberThere, NamedOf, NamedThere, New, ObjectThere, Operate, OperateAlone, Pack, PartOf, PathOf, PlaceOf, Plain, PlainIfAny, Push, PushHost, PushThis, ReadThrough, Reorder, Same, SetElement, SetLate, StoreMade, WriteThrough}

-- of the operand on top, and of those below so many
abbrev pub flag : List Bool → Bool
flag [] = false
flag (b ∷ fl) = b

abbrev pub rests : ℕ → List Bool → List Bool
rests zero fl = fl
rests (suc n) fl = rests n (rest fl)

-- so many operands more, which don't
abbrev pub pads : ℕ → List Bool → List Bool
pads zero fl = fl
pads (suc n) fl = pads n (false ∷ fl)

-- the operand below so many goes on to one on top
abbrev pub onto : ℕ → List Bool → List Bool
onto n fl = flag (rests n fl) ∷ rest (rests n fl)

-- behind an instruction
abbrev pub passed : Instr → List Bool → List Bool
passed (Push v) fl = false ∷ fl
passed (PushHost reference) fl = false ∷ fl
passed (LoadErr member) fl = false ∷ fl
passed (PathOf x) fl = true ∷ fl
passed ReadThrough fl = false ∷ rest fl
passed (ElementOf n) fl = flag fl ∷ rests n (rest fl)
passed (ElementIn n) fl = onto n fl
passed (FieldOf i of bounded) fl = flag fl ∷ rest fl
passed (Dot i) fl = true ∷ fl
passed (Index n) fl = false ∷ rest (rests n fl)
passed (PartOf i) fl = false ∷ rest fl
passed (Operate o compare l r) fl = false ∷ rest (rest fl)
passed (OperateAlone o of) fl = false ∷ rest fl
passed Plain fl = false ∷ rest fl
passed PlainIfAny fl = false ∷ rest fl
passed Enumerate fl = false ∷ rest fl
passed FirstSheet fl = false ∷ fl
passed (MemberThere name n) fl = false ∷ false ∷ rest fl
passed (MemberOf name n) fl = false ∷ rest (rest (rests n fl))
passed (NamedThere name by n) fl = false ∷ false ∷ rest fl
passed (NamedOf name by n) fl = false ∷ rest (rest (rests n fl))
passed PushThis fl = false ∷ fl
passed (New c) fl = false ∷ false ∷ fl
passed ObjectThere fl = false ∷ rest fl
passed (FieldIn i of bounded) fl = false ∷ rest fl
passed (AsNew c) fl = flag fl ∷ rest fl
passed MakeThere fl = false ∷ false ∷ flag fl ∷ rest fl
passed StoreMade fl = onto 1 fl
passed (FindLate aim name by gs) fl = false ∷ false ∷ rest fl
passed (BindValue aim name by gs i) fl = false ∷ rest fl
passed (BindPlace aim name by gs i) fl = false ∷ rest fl
passed (CallLate name by gs) fl = false ∷ rest (rest (rests (length gs) fl))
passed (LetLate name by gs) fl = false ∷ rest (rest (rest (rests (length gs) fl)))
passed (SetLate name by gs) fl = false ∷ rest (rest (rest (rests (length gs) fl)))
passed (ItemAlong n) fl = false ∷ rest (rests n fl)
passed WriteThrough fl = false ∷ rest (rest fl)
passed (LetElement n) fl = false ∷ rest (rest (rests n fl))
passed (SetElement n) fl = false ∷ rest (rest (rests n fl))
passed (ElementAlong n) fl = onto n fl
passed (LateField name) fl = false ∷ rest fl
passed PlaceOf fl = false ∷ rest fl
passed Same fl = false ∷ rest (rest fl)
passed (IsType of) fl = false ∷ rest fl
passed (Library f text_form compare base n) fl = false ∷ rests n fl
passed (BoundAt upper z) fl = false ∷ rest fl
passed (Fit of) fl = false ∷ rest fl
passed (FitObject of) fl = false ∷ rest fl
passed Drop fl = rest fl
passed Lend fl = false ∷ rest fl
passed (Pack n) fl = false ∷ rests n fl
passed (Reorder order n) fl = pads (length order) (rests n fl)
passed (Lift n) fl = false ∷ pads n (rest (rests n fl))
passed (Call p n) fl = false ∷ rests n fl
passed (CallOf p n) fl = false ∷ rest (rests n fl)
passed i fl = []

-- at an address
abbrev pub firm_at : List Instr → List Bool → ℕ → List Bool
firm_at is fl zero = fl
firm_at [] fl (suc pc) = []
firm_at (i ∷ is) fl (suc pc) = firm_at is (passed i fl) pc

some_instr : (i j : Instr) → Some i ≡ Some j → (i ≡ j)
some_instr i j e = ap (λ o. instr_or o) e where
  instr_or : Option Instr → Instr
  instr_or None = i
  instr_or (Some k) = k

firm_suc : (is : List Instr) (fl : List Bool) (pc : ℕ) (i : Instr) → slice_get is pc ≡ Some i → firm_at is fl (suc pc) ≡ passed i (firm_at is fl pc)
firm_suc [] fl pc i e = absurd cc
firm_suc (j ∷ is) fl zero i e = ap (λ k. passed k fl) (some_instr j i e)
firm_suc (j ∷ is) fl (suc pc) i e = firm_suc is (passed j fl) pc i e

pub firm_next : (is : List Instr) (fl : List Bool) (pc : ℕ) (i : Instr) → slice_get is pc ≡ Some i → firm_at is fl (pc + 1) ≡ passed i (firm_at is fl pc)
firm_next is fl pc i e = let k : suc pc ≡ pc + 1 = omega arith in subst (λ n. firm_at is fl n ≡ passed i (firm_at is fl pc)) k (firm_suc is fl pc i e)
