-- Worked rows: the verdicts of S15 to S23 and S33, each with its place.
use Rattle.std.specs.Prelude.{◌≡◌, true, false, [], ◌∷◌, refl, codes}
use Rattle.std.specs.Fmt.{digits}
use Rattle.caseless.proofs.Computing.{caseless}
use Rattle.vba_base.specs.Fold.{folded}
use Rattle.vba_values.specs.Arithmetic.{division}
use Rattle.binder.proofs.Reading.{judged, broken}

-- a module that breaks no rule
fine : judged ((false, codes "Option Explicit\nDim a As Long\nSub Main()\nDim b As Long\na = b\nEnd Sub") ∷ []) ≡ []
unfolding judged folded caseless digits division
fine = refl

-- S15: a name of a module
name_twice : judged ((false, codes "Dim a As Long\nSub A()\nEnd Sub") ∷ []) ≡ (15, 1, 2, 5) ∷ []
unfolding judged folded caseless digits division
name_twice = refl

-- S15: a local with the name of its Function; the parts of a property are one
result_twice : judged ((false, codes "Property Get p()\nEnd Property\nProperty Let p(x)\nEnd Property\nFunction f()\nDim F\nEnd Function") ∷ []) ≡ (15, 1, 6, 5) ∷ []
unfolding judged folded caseless digits division
result_twice = refl

-- S15: members of two Enums of a module
member_twice : judged ((false, codes "Enum E\na\nEnd Enum\nEnum F\nA\nEnd Enum") ∷ []) ≡ (15, 1, 5, 1) ∷ []
unfolding judged folded caseless digits division
member_twice = refl

-- S15: two modules of one name
modules_twice : judged ((false, codes "Attribute VB_Name = \"M\"") ∷ (false, codes "\n\nAttribute VB_Name = \"m\"") ∷ []) ≡ (15, 2, 1, 1) ∷ []
unfolding judged folded caseless digits division
modules_twice = refl

-- two public names of two modules are none
public_twice : judged ((false, codes "Public a As Long") ∷ (false, codes "Public a As Long") ∷ []) ≡ []
unfolding judged folded caseless digits division
public_twice = refl

-- S16: behind As, at the qualifier
type_unknown : judged ((false, codes "Dim a As Long, b As VBA.Collection") ∷ []) ≡ (16, 1, 1, 21) ∷ []
unfolding judged folded caseless digits division
type_unknown = refl

-- S16: behind New
new_unknown : judged ((false, codes "Sub Main()\nDim x As Object\nSet x = New Worksheet\nEnd Sub") ∷ []) ≡ (16, 1, 3, 13) ∷ []
unfolding judged folded caseless digits division
new_unknown = refl

-- S17: under Option Explicit
name_unknown : judged ((false, codes "Option Explicit\nSub Main()\nx = 1\nEnd Sub") ∷ []) ≡ (17, 1, 3, 1) ∷ []
unfolding judged folded caseless digits division
name_unknown = refl

-- S17: without Option Explicit an undeclared name that is indexed
called_unknown : judged ((false, codes "Sub Main()\nx = Array(1)\nDebug.Print x(0)\nEnd Sub") ∷ []) ≡ (17, 1, 3, 13) ∷ []
unfolding judged folded caseless digits division
called_unknown = refl

-- a ReDim declares its array
redim_declares : judged ((false, codes "Option Explicit\nSub Main()\nReDim x(3)\nx(1) = 2\nEnd Sub") ∷ []) ≡ []
unfolding judged folded caseless digits division
redim_declares = refl

-- S17: a private name of another module
private_unknown : judged ((false, codes "Sub Main()\nx = M.b\nEnd Sub") ∷ (false, codes "Attribute VB_Name = \"M\"\nPrivate b As Long") ∷ []) ≡ (17, 1, 2, 7) ∷ []
unfolding judged folded caseless digits division
private_unknown = refl

-- S17: a dot outside of With, and Me outside of a class
with_unknown : judged ((false, codes "Sub Main()\nWith a\n.x = 1\nEnd With\n.y = Me\nEnd Sub") ∷ []) ≡ (17, 1, 5, 1) ∷ []
unfolding judged folded caseless digits division
with_unknown = refl

-- S18: a label of another procedure
label_unknown : judged ((false, codes "Sub A()\nl: GoTo l\nEnd Sub\nSub B()\nOn Error GoTo l\nEnd Sub") ∷ []) ≡ (18, 1, 5, 15) ∷ []
unfolding judged folded caseless digits division
label_unknown = refl

-- S19: labels match by value
label_twice : judged ((false, codes "Sub A()\n10 x = 1\nl:\n010 y = 1\nEnd Sub") ∷ []) ≡ (19, 1, 4, 1) ∷ []
unfolding judged folded caseless digits division
label_twice = refl

-- S20: constants of a cycle
constant_loop : judged ((false, codes "Const a = b + 1\nConst b = a") ∷ []) ≡ (20, 1, 1, 11) ∷ []
unfolding judged folded caseless digits division
constant_loop = refl

-- S20: the operators of values
constant_overflow : judged ((false, codes "Const a = 32767 + 1") ∷ []) ≡ (20, 1, 1, 11) ∷ []
unfolding judged folded caseless digits division
constant_overflow = refl

-- constants of Enums, modules and the library
constant_fine : judged ((false, codes "Enum E\na\nb = 5\nc\nEnd Enum\nConst d = E.c * vbLong\nDim x(a To d) As String * d") ∷ []) ≡ []
unfolding judged folded caseless digits division
constant_fine = refl

-- S20: a high bound below its low bound
bounds_wrong : judged ((false, codes "Dim a(3 To 2)") ∷ []) ≡ (20, 1, 1, 12) ∷ []
unfolding judged folded caseless digits division
bounds_wrong = refl

-- S20: too many elements
bounds_many : judged ((false, codes "Dim a(1 To 1024, 1024)") ∷ []) ≡ (20, 1, 1, 7) ∷ []
unfolding judged folded caseless digits division
bounds_many = refl

-- S20: a member whose turn passes the greatest Long
member_wrong : judged ((false, codes "Enum E\na = 2147483647\nb\nc\nEnd Enum") ∷ []) ≡ (20, 1, 3, 1) ∷ []
unfolding judged folded caseless digits division
member_wrong = refl

-- S20: a length, and a default
length_wrong : judged ((false, codes "Dim a As String * 0\nSub A(Optional ByVal x As Byte = 256)\nEnd Sub") ∷ []) ≡ (20, 1, 1, 19) ∷ []
unfolding judged folded caseless digits division
length_wrong = refl

-- S21: a Type that holds itself through another one and an array
type_recursive : judged ((false, codes "Type T\na() As U\nEnd Type\nType U\nb As T\nEnd Type") ∷ []) ≡ (21, 1, 1, 6) ∷ []
unfolding judged folded caseless digits division
type_recursive = refl

-- S22: a class without events
source_wrong : judged ((true, codes "Attribute VB_Name = \"C\"\nPrivate WithEvents c As D") ∷ (true, codes "Attribute VB_Name = \"D\"") ∷ []) ≡ (22, 1, 2, 9) ∷ []
unfolding judged folded caseless digits division
source_wrong = refl

-- a class with an event
source_fine : judged ((true, codes "Attribute VB_Name = \"C\"\nPrivate WithEvents x As D") ∷ (true, codes "Attribute VB_Name = \"D\"\nEvent E()") ∷ []) ≡ []
unfolding judged folded caseless digits division
source_fine = refl

-- S33: Main isn't there, or wants an argument; a rule of names is told before it
no_startup : broken (codes "\nSub Other()\nEnd Sub") ≡ (33, 1, 1, 1) ∷ []
unfolding broken folded caseless digits division
no_startup = refl

wanting_startup : broken (codes "Sub Main(x, Optional y)\nEnd Sub") ≡ (33, 1, 1, 1) ∷ []
unfolding broken folded caseless digits division
wanting_startup = refl

names_first : broken (codes "Sub Other()\nGoTo a\nEnd Sub") ≡ (18, 1, 2, 6) ∷ []
unfolding broken folded caseless digits division
names_first = refl

optional_startup : broken (codes "Private Sub Main(Optional x, ParamArray y())\nEnd Sub") ≡ []
unfolding broken folded caseless digits division
optional_startup = refl

-- S23: a type, a suffix, a name of VBA that the library leaves out, also behind VBA and in an argument
type_left_out : broken (codes "Sub Main()\nDim a As Long, d As Double\nEnd Sub") ≡ (23, 1, 2, 21) ∷ []
unfolding broken folded caseless digits division
type_left_out = refl

suffix_left_out : broken (codes "Sub Main(Optional x#)\nEnd Sub") ≡ (23, 1, 1, 19) ∷ []
unfolding broken folded caseless digits division
suffix_left_out = refl

name_left_out : broken (codes "Sub Main()\nx = Left(Rnd, 1)\nEnd Sub") ≡ (23, 1, 2, 10) ∷ []
unfolding broken folded caseless digits division
name_left_out = refl

qualified_left_out : broken (codes "Sub Main()\nx = VBA.Rnd(1)\nEnd Sub") ≡ (23, 1, 2, 9) ∷ []
unfolding broken folded caseless digits division
qualified_left_out = refl

-- a name of the project's own is none; a rule of names is told before
own_name : broken (codes "Function Rnd()\nEnd Function\nSub Main()\nx = Rnd\nEnd Sub") ≡ []
unfolding broken folded caseless digits division
own_name = refl

names_before : broken (codes "Sub Main()\nDim d As Double\nGoTo a\nEnd Sub") ≡ (18, 1, 3, 6) ∷ []
unfolding broken folded caseless digits division
names_before = refl
