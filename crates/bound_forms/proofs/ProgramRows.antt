-- Worked rows: what projects are bound to, by what they then tell.
use Rattle.std.specs.Prelude.{◌≡◌, pos, true, false, [], ◌∷◌, refl, codes}
use Rattle.std.specs.Fmt.{digits}
use Rattle.caseless.proofs.Computing.{caseless}
use Rattle.vba_base.specs.Fold.{folded}
use Rattle.vba_values.specs.Arithmetic.{division}
use Rattle.vba_values.specs.Operators.{join}
use Rattle.vba_meaning.specs.Effects.{Printed, Raised}
use Rattle.bound_forms.proofs.Reading.{ran, ends}

-- an expression of literals
sum : ran (codes "Sub Main()\nDebug.Print 2 + 3\nEnd Sub") ≡ ends (Printed (codes " 5 ") true ∷ [])
unfolding ran folded caseless digits division join
sum = refl

-- a header that fails goes on with its block
header_failed : ran (codes "Sub Main()\nOn Error Resume Next\nIf 1 \\ 0 = 1 Then\nDebug.Print \"in\"\nEnd If\nDebug.Print Err.Number\nEnd Sub") ≡ ends (Raised (pos 11) ∷ Printed (codes "in") true ∷ Printed (codes " 11 ") true ∷ [])
unfolding ran folded caseless digits division join
header_failed = refl

-- Resume begins the statement again; a label is what runs behind it
again : ran (codes "Sub Main()\nDim d As Long\nOn Error GoTo H\nDebug.Print 10 \\ d\nExit Sub\nH: d = 5: Resume\nEnd Sub") ≡ ends (Raised (pos 11) ∷ Printed (codes " 2 ") true ∷ [])
unfolding ran folded caseless digits division join
again = refl

-- a variable is lent, a parenthesised one is copied; inside a Function its name is its result
by_reference : ran (codes "Dim g As Long\nSub Main()\ng = 1\nDebug.Print F(g, (g))\nDebug.Print g\nEnd Sub\nFunction F(a As Long, b As Long) As Long\na = a + 1\nb = b + 10\nF = a * b\nEnd Function") ≡ ends (Printed (codes " 22 ") true ∷ Printed (codes " 2 ") true ∷ [])
unfolding ran folded caseless digits division join
by_reference = refl

-- Select Case
chosen : ran (codes "Sub Main()\nSelect Case 7\nCase 1 To 3, Is > 8\nDebug.Print 1\nCase 5, 7\nDebug.Print 2\nCase Else\nDebug.Print 3\nEnd Select\nEnd Sub") ≡ ends (Printed (codes " 2 ") true ∷ [])
unfolding ran folded caseless digits division join
chosen = refl

-- statements before the first Case run into it
before_case : ran (codes "Sub Main()\nSelect Case 2\nDebug.Print 0\nCase 1\nDebug.Print 1\nCase Else\nDebug.Print 2\nEnd Select\nGoTo x\nSelect Case 1\nx: Debug.Print 3\nCase Empty\nDebug.Print 4\nEnd Select\nEnd Sub") ≡ ends (Printed (codes " 2 ") true ∷ Printed (codes " 3 ") true ∷ Printed (codes " 4 ") true ∷ [])
unfolding ran folded caseless digits division join
before_case = refl

-- GoSub and a numeric label
subs : ran (codes "Sub Main()\nGoSub 010\nDebug.Print 2\nEnd\n10 Debug.Print 1\nReturn\nEnd Sub") ≡ ends (Printed (codes " 1 ") true ∷ Printed (codes " 2 ") true ∷ [])
unfolding ran folded caseless digits division join
subs = refl

-- For with and without Step, Exit For, and Do in all forms
loops : ran (codes "Sub Main()\nDim i As Long, j\nFor i = 1 To 9 Step 4\nFor j = 1 To 3\nIf j = 2 Then Exit For\nDebug.Print i; j;\nNext\nNext i\nDebug.Print\nDo While i > 12\ni = i - 1\nLoop\nDo\ni = i - 1: If i < 8 Then Exit Do\nLoop Until i < 5\nWhile i < 9\ni = i + 1\nWend\nDebug.Print i\nEnd Sub") ≡ ends (Printed (codes " 1  1 ") false ∷ Printed (codes " 5  1 ") false ∷ Printed (codes " 9  1 ") false ∷ Printed (codes "") true ∷ Printed (codes " 9 ") true ∷ [])
unfolding ran folded caseless digits division join
loops = refl

-- For Each over an array, with Exit For; the base of the module
each : ran (codes "Option Base 1\nSub Main()\nDim a(2) As Long, v, n\na(1) = 5: a(2) = 6\nFor Each v In a\nn = n + v\nNext\nFor Each v In a\nExit For\nNext v\nDebug.Print n; v\nEnd Sub") ≡ ends (Printed (codes " 11  5 ") true ∷ [])
unfolding ran folded caseless digits division join
each = refl

-- With over an element of a Type, and over a value
with_block : ran (codes "Private Type P\nX As Long\nEnd Type\nSub Main()\nDim a() As P\nReDim a(1)\nWith a(1)\n.X = 3\nInc .X\nEnd With\nDebug.Print a(1).X\nWith F\nInc .X\nDebug.Print .X\nEnd With\nEnd Sub\nSub Inc(n As Long)\nn = n + 1\nEnd Sub\nFunction F() As P\nF.X = 7\nEnd Function") ≡ ends (Printed (codes " 4 ") true ∷ Printed (codes " 7 ") true ∷ [])
unfolding ran folded caseless digits division join
with_block = refl

-- named and optional arguments, and a ParamArray
named : ran (codes "Sub Main()\nT c:=3, a:=1\nT 1, , 5\nU 1, 2, 3\nU 4\nEnd Sub\nSub T(a, Optional ByVal b As Long = 2 * 4, Optional c)\nDebug.Print a; b; c\nEnd Sub\nSub U(a, ParamArray r())\nDebug.Print a; V(r)\nEnd Sub\nFunction V(x())\nDim e\nFor Each e In x\nV = V + e\nNext\nEnd Function") ≡ ends (Printed (codes " 1  8  3 ") true ∷ Printed (codes " 1  8  5 ") true ∷ Printed (codes " 1  5 ") true ∷ Printed (codes " 4 ") true ∷ [])
unfolding ran folded caseless digits division join
named = refl

-- a property of a module, with and without arguments
property : ran (codes "Dim s As Long\nSub Main()\np = 3\nq(2) = 5\nDebug.Print p; q(1); Module1.p\nEnd Sub\nProperty Get p() As Long\np = s\nEnd Property\nProperty Let p(ByVal x As Long)\ns = s + x\nEnd Property\nProperty Get q(i) As Long\nq = s * i\nEnd Property\nProperty Let q(i, x As Long)\ns = s + x * i\nEnd Property") ≡ ends (Printed (codes " 13  13  13 ") true ∷ [])
unfolding ran folded caseless digits division join
property = refl

-- statics stand behind the variables of the module
statics : ran (codes "Dim a As Long\nSub Main()\nC\nD\na = 5\nC\nD\nDebug.Print a\nEnd Sub\nSub C()\nStatic n As Integer, m\nn = n + 1\nm = m + n\nDebug.Print n; m\nEnd Sub\nStatic Sub D()\nx = x + 1\nDebug.Print x\nEnd Sub") ≡ ends (Printed (codes " 1  1 ") true ∷ Printed (codes " 1 ") true ∷ Printed (codes " 2  3 ") true ∷ Printed (codes " 2 ") true ∷ Printed (codes " 5 ") true ∷ [])
unfolding ran folded caseless digits division join
statics = refl

-- undeclared names are Variants, also arrays by ReDim
undeclared : ran (codes "Sub Main()\nx = 32767\nx = x + 1\nDebug.Print x\nReDim r(1) As Byte\nr(1) = 7\nDebug.Print r(1); y\nEnd Sub") ≡ ends (Printed (codes " 32768 ") true ∷ Printed (codes " 7 ") true ∷ [])
unfolding ran folded caseless digits division join
undeclared = refl

-- constants by their values
constants : ran (codes "Enum E\nz\na = 4\nb\nEnd Enum\nConst c = E.b * 2\nSub Main()\nConst s As String * 3 = \"x\"\nDim t(a To c) As String * c\nDebug.Print c; s; \"|\"; b; z\nt(5) = \"y\"\nDebug.Print t(5); \"|\"; vbLong\nEnd Sub") ≡ ends (Printed (codes " 10 x  | 5  0 ") true ∷ Printed (codes "y         | 3 ") true ∷ [])
unfolding ran folded caseless digits division join
constants = refl

-- a single-line If in another one
single_line : ran (codes "Sub Main()\nDim i\nFor i = 0 To 2\nIf i = 0 Then Debug.Print \"a\": If i Then Debug.Print \"b\" Else Debug.Print \"c\": Debug.Print \"d\"\nIf i < 2 Then If i = 0 Then Debug.Print 0 Else Debug.Print 1\nNext\nEnd Sub") ≡ ends (Printed (codes "a") true ∷ Printed (codes "c") true ∷ Printed (codes "d") true ∷ Printed (codes " 0 ") true ∷ Printed (codes " 1 ") true ∷ [])
unfolding ran folded caseless digits division join
single_line = refl

-- arms without statements, and one that ends another one
empty_arms : ran (codes "Sub Main()\nDim i As Long\nFor i = 1 To 3\nIf i = 1 Then\nElseIf i = 2 Then\nIf True Then\nDebug.Print 2\nEnd If\nElse\nDebug.Print 3\nEnd If\nNext\nEnd Sub") ≡ ends (Printed (codes " 2 ") true ∷ Printed (codes " 3 ") true ∷ [])
unfolding ran folded caseless digits division join
empty_arms = refl

-- Err.Raise, Error and what Err tells
raised : ran (codes "Sub Main()\nOn Error Resume Next\nErr.Raise 1000, Description:=\"so\"\nDebug.Print Err.Number; Err.Source; Err.Description\nError 13\nDebug.Print Err.Description\nErr.Clear\nDebug.Print Err\nEnd Sub") ≡ ends (Raised (pos 1000) ∷ Printed (codes " 1000 Module1so") true ∷ Raised (pos 13) ∷ Printed (codes "Type mismatch") true ∷ Printed (codes " 0 ") true ∷ [])
unfolding ran folded caseless digits division join
raised = refl

-- a separator at the end leaves the line open
open_line : ran (codes "Sub Main()\nDebug.Print \"ab\", 1; Null\nDebug.Print 1;\nDebug.Print\nEnd Sub") ≡ ends (Printed (codes "ab             1 Null") true ∷ Printed (codes " 1 ") false ∷ Printed (codes "") true ∷ [])
unfolding ran folded caseless digits division join
open_line = refl

-- a Type in a Type, whole and by fields
nested_types : ran (codes "Private Type A\nn(1) As Integer\nEnd Type\nPrivate Type B\nx As A\ns As String * 2\nEnd Type\nSub Main()\nDim u As B, w As B\nu.x.n(1) = 3: u.s = \"abc\"\nw = u\nu.x.n(1) = 4\nDebug.Print w.x.n(1); w.s; u.x.n(1)\nEnd Sub") ≡ ends (Printed (codes " 3 ab 4 ") true ∷ [])
unfolding ran folded caseless digits division join
nested_types = refl

-- ReDim Preserve and Erase
resized : ran (codes "Sub Main()\nDim a() As Long\nReDim a(1 To 2)\na(2) = 7\nReDim Preserve a(1 To 3)\nDebug.Print a(2); a(3)\nErase a\nOn Error GoTo h\na(1) = 1\nExit Sub\nh:\nDebug.Print Err.Number\nEnd Sub") ≡ ends (Printed (codes " 7  0 ") true ∷ Raised (pos 9) ∷ Printed (codes " 9 ") true ∷ [])
unfolding ran folded caseless digits division join
resized = refl

-- a Function that calls itself
recursion : ran (codes "Sub Main()\nDebug.Print Fact(5)\nEnd Sub\nFunction Fact(ByVal n As Long) As Long\nIf n < 2 Then Fact = 1 Else Fact = n * Fact(n - 1)\nEnd Function") ≡ ends (Printed (codes " 120 ") true ∷ [])
unfolding ran folded caseless digits division join
recursion = refl

-- a loop whose header failed
loop_failed : ran (codes "Sub Main()\nDim i As Long\nOn Error Resume Next\nFor i = 1 To 1 \\ 0\nDebug.Print 8\nNext i\nDebug.Print Err.Number\nEnd Sub") ≡ ends (Raised (pos 11) ∷ Printed (codes " 8 ") true ∷ Raised (pos 92) ∷ Printed (codes " 92 ") true ∷ [])
unfolding ran folded caseless digits division join
loop_failed = refl

-- an element of the array that a Function gives, read and written
element_of_call : ran (codes "Sub Main()\nArr()(1) = 5\nDebug.Print Arr()(1)\nEnd Sub\nFunction Arr() As Long()\nReDim a(1) As Long\na(1) = 3\nArr = a\nEnd Function") ≡ ends (Printed (codes " 3 ") true ∷ [])
unfolding ran folded caseless digits division join
element_of_call = refl
