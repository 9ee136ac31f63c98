-- Worked rows: lines of source that have a tree, whose tokens are the line's, and lines that have none.
use Rattle.std.specs.Prelude.{◌≡◌, ℕ, List, [], ◌∷◌, map, refl, codes, Option, Some, None, option_map}
use Rattle.caseless.proofs.Computing.{caseless}
use Rattle.vba_base.specs.Fold.{folded}
use Rattle.vba_lexer.specs.Lexed.{lexed}
use Rattle.vba_words.specs.declared.reading.ReadToken.{ReadToken}
use Rattle.vba_words.specs.Readings.{read_line}
use Rattle.vba_tree.specs.Spelling.{spell}
use Rattle.vba_grammar.specs.Lines.{line_of}

-- the tokens of the lines of a source
tokens : List ℕ → List (List ReadToken)
tokens source = map (λ line. read_line source line.tokens) (lexed 1 source)

-- the tokens of the tree of each line
read_back : List ℕ → List (Option (List ReadToken))
read_back source = map (λ ts. option_map spell (line_of ts)) (tokens source)

is_whole : List ℕ → List (Option (List ReadToken))
is_whole source = map Some (tokens source)

no_tree : List ℕ → List (Option (List ReadToken))
no_tree source = None ∷ []

good_0 : read_back (codes "Option Base 1") ≡ is_whole (codes "Option Base 1")
unfolding read_back is_whole tokens folded caseless
good_0 = refl

good_1 : read_back (codes "option private module") ≡ is_whole (codes "option private module")
unfolding read_back is_whole tokens folded caseless
good_1 = refl

good_2 : read_back (codes "Attribute VB_Name = \"x\"") ≡ is_whole (codes "Attribute VB_Name = \"x\"")
unfolding read_back is_whole tokens folded caseless
good_2 = refl

good_3 : read_back (codes "Attribute x.VB_UserMemId = -4, True") ≡ is_whole (codes "Attribute x.VB_UserMemId = -4, True")
unfolding read_back is_whole tokens folded caseless
good_3 = refl

good_4 : read_back (codes "Private Enum E") ≡ is_whole (codes "Private Enum E")
unfolding read_back is_whole tokens folded caseless
good_4 = refl

good_5 : read_back (codes "End Enum") ≡ is_whole (codes "End Enum")
unfolding read_back is_whole tokens folded caseless
good_5 = refl

good_6 : read_back (codes "Type T") ≡ is_whole (codes "Type T")
unfolding read_back is_whole tokens folded caseless
good_6 = refl

good_7 : read_back (codes "End Type") ≡ is_whole (codes "End Type")
unfolding read_back is_whole tokens folded caseless
good_7 = refl

good_8 : read_back (codes "a(1 To 2, 3) As String * 5") ≡ is_whole (codes "a(1 To 2, 3) As String * 5")
unfolding read_back is_whole tokens folded caseless
good_8 = refl

good_9 : read_back (codes "Public Event Changed(ByVal a As Long)") ≡ is_whole (codes "Public Event Changed(ByVal a As Long)")
unfolding read_back is_whole tokens folded caseless
good_9 = refl

good_10 : read_back (codes "Friend Static Property Get P(Optional ByVal a = 1, ParamArray b()) As String()") ≡ is_whole (codes "Friend Static Property Get P(Optional ByVal a = 1, ParamArray b()) As String()")
unfolding read_back is_whole tokens folded caseless
good_10 = refl

good_11 : read_back (codes "Sub Main()") ≡ is_whole (codes "Sub Main()")
unfolding read_back is_whole tokens folded caseless
good_11 = refl

good_12 : read_back (codes "Function F() As Object") ≡ is_whole (codes "Function F() As Object")
unfolding read_back is_whole tokens folded caseless
good_12 = refl

good_13 : read_back (codes "Property Let P(x)") ≡ is_whole (codes "Property Let P(x)")
unfolding read_back is_whole tokens folded caseless
good_13 = refl

good_14 : read_back (codes "End Property") ≡ is_whole (codes "End Property")
unfolding read_back is_whole tokens folded caseless
good_14 = refl

good_15 : read_back (codes "End Sub") ≡ is_whole (codes "End Sub")
unfolding read_back is_whole tokens folded caseless
good_15 = refl

good_16 : read_back (codes "") ≡ is_whole (codes "")
unfolding read_back is_whole tokens folded caseless
good_16 = refl

good_17 : read_back (codes "10") ≡ is_whole (codes "10")
unfolding read_back is_whole tokens folded caseless
good_17 = refl

good_18 : read_back (codes "10: x = 1") ≡ is_whole (codes "10: x = 1")
unfolding read_back is_whole tokens folded caseless
good_18 = refl

good_19 : read_back (codes "lab: : y = 2: Debug.Print") ≡ is_whole (codes "lab: : y = 2: Debug.Print")
unfolding read_back is_whole tokens folded caseless
good_19 = refl

good_20 : read_back (codes "Dim WithEvents a As New C, b() As M.C, c") ≡ is_whole (codes "Dim WithEvents a As New C, b() As M.C, c")
unfolding read_back is_whole tokens folded caseless
good_20 = refl

good_21 : read_back (codes "Public Const a As String * 5 = 1, b = 2") ≡ is_whole (codes "Public Const a As String * 5 = 1, b = 2")
unfolding read_back is_whole tokens folded caseless
good_21 = refl

good_22 : read_back (codes "Const a As String * 1 = 2 = 3") ≡ is_whole (codes "Const a As String * 1 = 2 = 3")
unfolding read_back is_whole tokens folded caseless
good_22 = refl

good_23 : read_back (codes "Let a.b(1).c = 3") ≡ is_whole (codes "Let a.b(1).c = 3")
unfolding read_back is_whole tokens folded caseless
good_23 = refl

good_24 : read_back (codes "Set a = New C") ≡ is_whole (codes "Set a = New C")
unfolding read_back is_whole tokens folded caseless
good_24 = refl

good_25 : read_back (codes "Call f(1)") ≡ is_whole (codes "Call f(1)")
unfolding read_back is_whole tokens folded caseless
good_25 = refl

good_26 : read_back (codes "f (x) = 1") ≡ is_whole (codes "f (x) = 1")
unfolding read_back is_whole tokens folded caseless
good_26 = refl

good_27 : read_back (codes "F (x).G - 1") ≡ is_whole (codes "F (x).G - 1")
unfolding read_back is_whole tokens folded caseless
good_27 = refl

good_28 : read_back (codes "F (x).G + 1") ≡ is_whole (codes "F (x).G + 1")
unfolding read_back is_whole tokens folded caseless
good_28 = refl

good_29 : read_back (codes "a.b 1, , c:=2") ≡ is_whole (codes "a.b 1, , c:=2")
unfolding read_back is_whole tokens folded caseless
good_29 = refl

good_30 : read_back (codes "f (x)") ≡ is_whole (codes "f (x)")
unfolding read_back is_whole tokens folded caseless
good_30 = refl

good_31 : read_back (codes "f (1), 2") ≡ is_whole (codes "f (1), 2")
unfolding read_back is_whole tokens folded caseless
good_31 = refl

good_32 : read_back (codes "ReDim Preserve a(1)(1 To 2) As Long, b(3)") ≡ is_whole (codes "ReDim Preserve a(1)(1 To 2) As Long, b(3)")
unfolding read_back is_whole tokens folded caseless
good_32 = refl

good_33 : read_back (codes "ReDim Preserve(5)") ≡ is_whole (codes "ReDim Preserve(5)")
unfolding read_back is_whole tokens folded caseless
good_33 = refl

good_34 : read_back (codes "Erase a, b.c") ≡ is_whole (codes "Erase a, b.c")
unfolding read_back is_whole tokens folded caseless
good_34 = refl

good_35 : read_back (codes "GoTo 10") ≡ is_whole (codes "GoTo 10")
unfolding read_back is_whole tokens folded caseless
good_35 = refl

good_36 : read_back (codes "GoSub lab") ≡ is_whole (codes "GoSub lab")
unfolding read_back is_whole tokens folded caseless
good_36 = refl

good_37 : read_back (codes "Return") ≡ is_whole (codes "Return")
unfolding read_back is_whole tokens folded caseless
good_37 = refl

good_38 : read_back (codes "Exit Property") ≡ is_whole (codes "Exit Property")
unfolding read_back is_whole tokens folded caseless
good_38 = refl

good_39 : read_back (codes "End") ≡ is_whole (codes "End")
unfolding read_back is_whole tokens folded caseless
good_39 = refl

good_40 : read_back (codes "On Error GoTo 0") ≡ is_whole (codes "On Error GoTo 0")
unfolding read_back is_whole tokens folded caseless
good_40 = refl

good_41 : read_back (codes "On Error GoTo -1") ≡ is_whole (codes "On Error GoTo -1")
unfolding read_back is_whole tokens folded caseless
good_41 = refl

good_42 : read_back (codes "On Error Resume Next") ≡ is_whole (codes "On Error Resume Next")
unfolding read_back is_whole tokens folded caseless
good_42 = refl

good_43 : read_back (codes "On Error GoTo lab") ≡ is_whole (codes "On Error GoTo lab")
unfolding read_back is_whole tokens folded caseless
good_43 = refl

good_44 : read_back (codes "Resume") ≡ is_whole (codes "Resume")
unfolding read_back is_whole tokens folded caseless
good_44 = refl

good_45 : read_back (codes "Resume 0") ≡ is_whole (codes "Resume 0")
unfolding read_back is_whole tokens folded caseless
good_45 = refl

good_46 : read_back (codes "Resume Next") ≡ is_whole (codes "Resume Next")
unfolding read_back is_whole tokens folded caseless
good_46 = refl

good_47 : read_back (codes "Resume lab") ≡ is_whole (codes "Resume lab")
unfolding read_back is_whole tokens folded caseless
good_47 = refl

good_48 : read_back (codes "RaiseEvent e(1, 2)") ≡ is_whole (codes "RaiseEvent e(1, 2)")
unfolding read_back is_whole tokens folded caseless
good_48 = refl

good_49 : read_back (codes "RaiseEvent e") ≡ is_whole (codes "RaiseEvent e")
unfolding read_back is_whole tokens folded caseless
good_49 = refl

good_50 : read_back (codes "Debug.Print -2 + 3 * 2; 7 \\ 2 Mod 2; Not 1 = 2") ≡ is_whole (codes "Debug.Print -2 + 3 * 2; 7 \\ 2 Mod 2; Not 1 = 2")
unfolding read_back is_whole tokens folded caseless
good_50 = refl

good_51 : read_back (codes "Debug.Print ; a, , b;") ≡ is_whole (codes "Debug.Print ; a, , b;")
unfolding read_back is_whole tokens folded caseless
good_51 = refl

good_52 : read_back (codes "Debug.Print = 5") ≡ is_whole (codes "Debug.Print = 5")
unfolding read_back is_whole tokens folded caseless
good_52 = refl

good_53 : read_back (codes "If a Then") ≡ is_whole (codes "If a Then")
unfolding read_back is_whole tokens folded caseless
good_53 = refl

good_54 : read_back (codes "If a Then x = 1") ≡ is_whole (codes "If a Then x = 1")
unfolding read_back is_whole tokens folded caseless
good_54 = refl

good_55 : read_back (codes "If a Then x = 1: : y = 2 Else z") ≡ is_whole (codes "If a Then x = 1: : y = 2 Else z")
unfolding read_back is_whole tokens folded caseless
good_55 = refl

good_56 : read_back (codes "If a Then If b Then c Else d") ≡ is_whole (codes "If a Then If b Then c Else d")
unfolding read_back is_whole tokens folded caseless
good_56 = refl

good_57 : read_back (codes "If a Then x = 1: Else y = 2") ≡ is_whole (codes "If a Then x = 1: Else y = 2")
unfolding read_back is_whole tokens folded caseless
good_57 = refl

good_58 : read_back (codes "If a Then x = 1: Else: y = 2") ≡ is_whole (codes "If a Then x = 1: Else: y = 2")
unfolding read_back is_whole tokens folded caseless
good_58 = refl

good_59 : read_back (codes "If a Then Else") ≡ is_whole (codes "If a Then Else")
unfolding read_back is_whole tokens folded caseless
good_59 = refl

good_60 : read_back (codes "If b Then If a Then Else x = 1") ≡ is_whole (codes "If b Then If a Then Else x = 1")
unfolding read_back is_whole tokens folded caseless
good_60 = refl

good_61 : read_back (codes "If b Then If a Then Else: x = 1") ≡ is_whole (codes "If b Then If a Then Else: x = 1")
unfolding read_back is_whole tokens folded caseless
good_61 = refl

good_62 : read_back (codes "If a Then : x = 1") ≡ is_whole (codes "If a Then : x = 1")
unfolding read_back is_whole tokens folded caseless
good_62 = refl

good_63 : read_back (codes "If a Then x Else Else") ≡ is_whole (codes "If a Then x Else Else")
unfolding read_back is_whole tokens folded caseless
good_63 = refl

good_64 : read_back (codes "ElseIf a Then") ≡ is_whole (codes "ElseIf a Then")
unfolding read_back is_whole tokens folded caseless
good_64 = refl

good_65 : read_back (codes "Else") ≡ is_whole (codes "Else")
unfolding read_back is_whole tokens folded caseless
good_65 = refl

good_66 : read_back (codes "End If") ≡ is_whole (codes "End If")
unfolding read_back is_whole tokens folded caseless
good_66 = refl

good_67 : read_back (codes "Select Case a") ≡ is_whole (codes "Select Case a")
unfolding read_back is_whole tokens folded caseless
good_67 = refl

good_68 : read_back (codes "Case 1, 2 To 3, Is > 4") ≡ is_whole (codes "Case 1, 2 To 3, Is > 4")
unfolding read_back is_whole tokens folded caseless
good_68 = refl

good_69 : read_back (codes "Case Else") ≡ is_whole (codes "Case Else")
unfolding read_back is_whole tokens folded caseless
good_69 = refl

good_70 : read_back (codes "End Select") ≡ is_whole (codes "End Select")
unfolding read_back is_whole tokens folded caseless
good_70 = refl

good_71 : read_back (codes "For i = 1 To 3 Step 2: Next i") ≡ is_whole (codes "For i = 1 To 3 Step 2: Next i")
unfolding read_back is_whole tokens folded caseless
good_71 = refl

good_72 : read_back (codes "For Each x In y") ≡ is_whole (codes "For Each x In y")
unfolding read_back is_whole tokens folded caseless
good_72 = refl

good_73 : read_back (codes "Next") ≡ is_whole (codes "Next")
unfolding read_back is_whole tokens folded caseless
good_73 = refl

good_74 : read_back (codes "Do While a") ≡ is_whole (codes "Do While a")
unfolding read_back is_whole tokens folded caseless
good_74 = refl

good_75 : read_back (codes "Loop Until b") ≡ is_whole (codes "Loop Until b")
unfolding read_back is_whole tokens folded caseless
good_75 = refl

good_76 : read_back (codes "Do") ≡ is_whole (codes "Do")
unfolding read_back is_whole tokens folded caseless
good_76 = refl

good_77 : read_back (codes "While a") ≡ is_whole (codes "While a")
unfolding read_back is_whole tokens folded caseless
good_77 = refl

good_78 : read_back (codes "Wend") ≡ is_whole (codes "Wend")
unfolding read_back is_whole tokens folded caseless
good_78 = refl

good_79 : read_back (codes "With .a.b") ≡ is_whole (codes "With .a.b")
unfolding read_back is_whole tokens folded caseless
good_79 = refl

good_80 : read_back (codes "End With") ≡ is_whole (codes "End With")
unfolding read_back is_whole tokens folded caseless
good_80 = refl

good_81 : read_back (codes ".x = .y") ≡ is_whole (codes ".x = .y")
unfolding read_back is_whole tokens folded caseless
good_81 = refl

good_82 : read_back (codes "Me.x = 5") ≡ is_whole (codes "Me.x = 5")
unfolding read_back is_whole tokens folded caseless
good_82 = refl

good_83 : read_back (codes "a.b.c") ≡ is_whole (codes "a.b.c")
unfolding read_back is_whole tokens folded caseless
good_83 = refl

good_84 : read_back (codes "Attribute = 5") ≡ is_whole (codes "Attribute = 5")
unfolding read_back is_whole tokens folded caseless
good_84 = refl

good_85 : read_back (codes "Property = 5") ≡ is_whole (codes "Property = 5")
unfolding read_back is_whole tokens folded caseless
good_85 = refl

good_86 : read_back (codes "x = a = b") ≡ is_whole (codes "x = a = b")
unfolding read_back is_whole tokens folded caseless
good_86 = refl

good_87 : read_back (codes "Get 1") ≡ is_whole (codes "Get 1")
unfolding read_back is_whole tokens folded caseless
good_87 = refl

bad_0 : read_back (codes "f (x, y)") ≡ no_tree (codes "f (x, y)")
unfolding read_back no_tree tokens folded caseless
bad_0 = refl

bad_1 : read_back (codes "x = a = Not b") ≡ no_tree (codes "x = a = Not b")
unfolding read_back no_tree tokens folded caseless
bad_1 = refl

bad_2 : read_back (codes "f x y") ≡ no_tree (codes "f x y")
unfolding read_back no_tree tokens folded caseless
bad_2 = refl

bad_3 : read_back (codes "Attribute") ≡ no_tree (codes "Attribute")
unfolding read_back no_tree tokens folded caseless
bad_3 = refl

bad_4 : read_back (codes "If a Then x = 1: Else: y = 2 Else") ≡ no_tree (codes "If a Then x = 1: Else: y = 2 Else")
unfolding read_back no_tree tokens folded caseless
bad_4 = refl

bad_5 : read_back (codes "Private Enum") ≡ no_tree (codes "Private Enum")
unfolding read_back no_tree tokens folded caseless
bad_5 = refl

bad_6 : read_back (codes "Static Enum e") ≡ no_tree (codes "Static Enum e")
unfolding read_back no_tree tokens folded caseless
bad_6 = refl

bad_7 : read_back (codes "Debug.Print 1 2") ≡ no_tree (codes "Debug.Print 1 2")
unfolding read_back no_tree tokens folded caseless
bad_7 = refl

bad_8 : read_back (codes "a =") ≡ no_tree (codes "a =")
unfolding read_back no_tree tokens folded caseless
bad_8 = refl

bad_10 : read_back (codes "For i = 1") ≡ no_tree (codes "For i = 1")
unfolding read_back no_tree tokens folded caseless
bad_10 = refl

bad_11 : read_back (codes "Sub f(): End Sub") ≡ no_tree (codes "Sub f(): End Sub")
unfolding read_back no_tree tokens folded caseless
bad_11 = refl

bad_12 : read_back (codes "Dim") ≡ no_tree (codes "Dim")
unfolding read_back no_tree tokens folded caseless
bad_12 = refl

bad_13 : read_back (codes "Else x") ≡ no_tree (codes "Else x")
unfolding read_back no_tree tokens folded caseless
bad_13 = refl

bad_14 : read_back (codes "x = 1 Else") ≡ no_tree (codes "x = 1 Else")
unfolding read_back no_tree tokens folded caseless
bad_14 = refl

bad_15 : read_back (codes "10 Rem x") ≡ no_tree (codes "10 Rem x")
unfolding read_back no_tree tokens folded caseless
bad_15 = refl

bad_16 : read_back (codes "On Error Foo") ≡ no_tree (codes "On Error Foo")
unfolding read_back no_tree tokens folded caseless
bad_16 = refl

bad_17 : read_back (codes "Const a") ≡ no_tree (codes "Const a")
unfolding read_back no_tree tokens folded caseless
bad_17 = refl

bad_18 : read_back (codes "Option Foo") ≡ no_tree (codes "Option Foo")
unfolding read_back no_tree tokens folded caseless
bad_18 = refl

bad_19 : read_back (codes "Foo.Value + 1") ≡ no_tree (codes "Foo.Value + 1")
unfolding read_back no_tree tokens folded caseless
bad_19 = refl

-- no suffix stands on a label where it is gone to, and none on a type
bad_20 : read_back (codes "GoTo a$") ≡ no_tree (codes "GoTo a$")
unfolding read_back no_tree tokens folded caseless
bad_20 = refl

bad_21 : read_back (codes "Dim x As Long&") ≡ no_tree (codes "Dim x As Long&")
unfolding read_back no_tree tokens folded caseless
bad_21 = refl

bad_22 : read_back (codes "Dim x As New C%") ≡ no_tree (codes "Dim x As New C%")
unfolding read_back no_tree tokens folded caseless
bad_22 = refl

bad_23 : read_back (codes "x = TypeOf y Is C@") ≡ no_tree (codes "x = TypeOf y Is C@")
unfolding read_back no_tree tokens folded caseless
bad_23 = refl

-- a dot behind a word of the grammar begins a place of a With block
good_words_0 : read_back (codes "For i = 1 To 2 Step.c") ≡ is_whole (codes "For i = 1 To 2 Step.c")
unfolding read_back is_whole tokens folded caseless
good_words_0 = refl

good_words_1 : read_back (codes "ReDim Preserve.x(1), Preserve.y(2)") ≡ is_whole (codes "ReDim Preserve.x(1), Preserve.y(2)")
unfolding read_back is_whole tokens folded caseless
good_words_1 = refl

good_words_2 : read_back (codes "Foo Step.c") ≡ is_whole (codes "Foo Step.c")
unfolding read_back is_whole tokens folded caseless
good_words_2 = refl

good_words_3 : read_back (codes "If Not.y Then.x = 1") ≡ is_whole (codes "If Not.y Then.x = 1")
unfolding read_back is_whole tokens folded caseless
good_words_3 = refl

-- behind a dot every word is a name
bad_words : read_back (codes "x.Else Print 1") ≡ no_tree (codes "x.Else Print 1")
unfolding read_back no_tree tokens folded caseless
bad_words = refl
