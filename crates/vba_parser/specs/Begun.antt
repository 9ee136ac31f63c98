-- Serves the code: each list of a single-line If begins with a statement.
use Rattle.std.specs.Prelude.{◌≡◌, Bool, true, false, List, [], ◌∷◌}
use Rattle.vba_tree.specs.Forms.{begins}
use Rattle.vba_tree.specs.Tree.{if_then, if_else, Stmts}
use Rattle.vba_grammar.specs.Lists.{Where, at_line, in_list, behind, put, Frame, then_frame, else_frame, State, need, got}

-- the statements that stand there begin with one: none is missing before the first colon
abbrev pub is_begun : Where → Bool
is_begun at_line = false
is_begun in_list = true
is_begun (behind before colon) = begins before

-- what stands in each If that is open begins with a statement; the innermost is begun or isn't
abbrev pub AreBegun : Bool → List Frame → Type 0
AreBegun begun [] = Unit {0}
AreBegun begun (then_frame place if_word condition then_word ∷ frames) = (begun ≡ true) × AreBegun (is_begun place) frames
AreBegun begun (else_frame place if_word condition then_word then_list else_word ∷ frames) = (begun ≡ true) × AreBegun (is_begun place) frames

abbrev pub IsBegun : State → Type 0
IsBegun (need place frames) = AreBegun (is_begun place) frames
IsBegun (got ss frames) = AreBegun (begins ss) frames

-- the statements round an If that ends with these
abbrev pub ended : Frame → Stmts → Stmts
ended (then_frame place if_word condition then_word) ss = put place (if_then if_word condition then_word ss)
ended (else_frame place if_word condition then_word then_list else_word) ss = put place (if_else if_word condition then_word then_list else_word ss)
