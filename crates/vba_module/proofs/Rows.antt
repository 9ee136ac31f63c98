-- Worked rows: the rules that modules break, with the places.
use Rattle.std.specs.Prelude.{◌≡◌, ℕ, Bool, true, false, List, [], ◌∷◌, map, refl, codes}
use Rattle.caseless.proofs.Computing.{caseless}
use Rattle.vba_base.specs.Fold.{folded}
use Rattle.vba_lexer.specs.Lexed.{lexed}
use Rattle.vba_words.specs.Readings.{read_line}
use Rattle.vba_module.specs.Verdict.{module_violations}

-- rule, line and column of what a source breaks, in a class or not
told : Bool → List ℕ → List (ℕ × ℕ × ℕ)
told is_class source =
    map (λ r. (r.rule, r.place.line, r.place.column))
    (module_violations is_class (map (λ line. read_line source line.tokens) (lexed 1 source)))

row_0 : told false (codes "Sub Main()\nIf a Then\nx = 1\nEnd If\nEnd Sub") ≡ []
unfolding told folded caseless
row_0 = refl

row_1 : told false (codes "Sub Main()\nIf a Then\nEnd Sub") ≡ (11, 2, 1) ∷ []
unfolding told folded caseless
row_1 = refl

row_2 : told false (codes "Sub Main()\nFor i = 1 To 2\nIf a Then\nNext\nEnd If\nEnd Sub") ≡ (11, 3, 1) ∷ (11, 5, 1) ∷ []
unfolding told folded caseless
row_2 = refl

row_3 : told false (codes "Sub Main()\nIf a Then\nElse\nElseIf b Then\nEnd If\nEnd Sub") ≡ (11, 4, 1) ∷ []
unfolding told folded caseless
row_3 = refl

row_4 : told false (codes "Sub Main()\nIf a Then Exit For\nExit Function\nEnd Sub") ≡ (11, 2, 11) ∷ (11, 3, 1) ∷ []
unfolding told folded caseless
row_4 = refl

row_5 : told false (codes "Sub Main()\nFor i = 1 To 2: If a Then Exit For: x = 1\nNext i\nEnd Sub") ≡ []
unfolding told folded caseless
row_5 = refl

row_6 : told false (codes "Sub Main()\nIf a Then For i = 1 To 2: Next\nEnd Sub") ≡ (12, 2, 11) ∷ (12, 2, 27) ∷ []
unfolding told folded caseless
row_6 = refl

row_7 : told false (codes "x = 1\nOption Explicit\nSub A()\nEnd Sub\nDim y") ≡ (12, 1, 1) ∷ (12, 2, 1) ∷ (12, 5, 1) ∷ []
unfolding told folded caseless
row_7 = refl

row_8 : told false (codes "Option Base 0\nOption Base 1\nPrivate WithEvents c As D\nEvent E()") ≡ (12, 2, 1) ∷ (12, 3, 9) ∷ (12, 4, 1) ∷ []
unfolding told folded caseless
row_8 = refl

row_9 : told true (codes "Enum E\nA\nB = 2\nx.y = 1\nEnd Enum\nPublic Type T\nn As Long\nA = 1\nEnd Type\nz As Long") ≡ (12, 4, 1) ∷ (12, 6, 1) ∷ (12, 8, 1) ∷ (12, 10, 1) ∷ []
unfolding told folded caseless
row_9 = refl

row_10 : told false (codes "Sub Main()\nPublic x\nStatic y\nConst z = 1\nPrivate Const w = 1\nlab: GoTo lab\nEnd Sub\nlab2:") ≡ (12, 2, 1) ∷ (12, 5, 1) ∷ (12, 8, 1) ∷ []
unfolding told folded caseless
row_10 = refl

row_11 : told false (codes "Private Declare Sub f Lib \"a\" ()\nx = a Like b\nx = = 1\nOn a GoTo b\nOn Error Foo\nx = a!b") ≡ (13, 1, 9) ∷ (13, 2, 7) ∷ (10, 3, 1) ∷ (13, 4, 1) ∷ (10, 5, 1) ∷ (13, 6, 6) ∷ []
unfolding told folded caseless
row_11 = refl

row_12 : told false (codes "Sub a(Optional b, c, ParamArray d(), ByVal e())\nEnd Sub\nProperty Let p()\nEnd Property\nProperty Let q(Optional a, b)\nEnd Property\nSub r(x = 1)\nEnd Sub") ≡ (14, 1, 19) ∷ (14, 1, 22) ∷ (14, 1, 38) ∷ (14, 1, 38) ∷ (14, 3, 1) ∷ (14, 7, 11) ∷ []
unfolding told folded caseless
row_12 = refl

row_13 : told false (codes "Sub a()\nEnd Function\nEnd Sub\nSub b()") ≡ (11, 2, 1) ∷ (11, 4, 1) ∷ []
unfolding told folded caseless
row_13 = refl

row_14 : told false (codes "Property Let p(Optional a, b, c)\nEnd Property") ≡ (14, 1, 28) ∷ []
unfolding told folded caseless
row_14 = refl

row_15 : told false (codes "Type T\nn As Long\nEnd Type\nSub a(ByVal x As T, ByVal y As U, ByRef z As t, ByVal v As m.T)\nEnd Sub") ≡ (14, 4, 7) ∷ []
unfolding told folded caseless
row_15 = refl

-- On without an expression behind it is no form
row_on : told false (codes "Sub Main()\nOn\nOn = 1\nOn Resume Next\nOn a GoTo b\nEnd Sub") ≡ (10, 2, 1) ∷ (10, 3, 1) ∷ (10, 4, 1) ∷ (13, 5, 1) ∷ []
unfolding told folded caseless
row_on = refl

-- a member of an Enum has no suffix
row_enum : told false (codes "Enum E\nA%\nB$ = 2\nC\nEnd Enum") ≡ (12, 2, 1) ∷ (12, 3, 1) ∷ []
unfolding told folded caseless
row_enum = refl

-- a Type of the module is its own behind the module's name too
row_own : told false (codes "Attribute VB_Name = \"M\"\nType T\nx As Long\nEnd Type\nSub A(ByVal p As m.T)\nEnd Sub\nSub B(ByVal p As N.T)\nEnd Sub") ≡ (14, 5, 7) ∷ []
unfolding told folded caseless
row_own = refl
