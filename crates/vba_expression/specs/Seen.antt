-- Serves the code: the reader's states as contracts see them: frames, and the items of the nodes written so far, which
-- are the operands and arguments that wait in frames.
use Rattle.std.specs.Prelude.{◌≡◌, Bool, true, false, List, [], ◌∷◌, reverse, Option, Some, None}
use Rattle.vba_lexer.specs.declared.token.Token.{Token}
use Rattle.vba_words.specs.declared.identifier.Identifier.{Identifier}
use Rattle.vba_expression.specs.declared.frame.Head.{Head}
use Rattle.vba_expression.specs.declared.frame.Head.TheVariants as heads
use Rattle.vba_expression.specs.declared.frame.Frame.{Frame}
use Rattle.vba_expression.specs.declared.frame.Frame.TheVariants as frames
use Rattle.vba_expression.specs.declared.frame.Mode.{Mode}
use Rattle.vba_expression.specs.declared.frame.Mode.TheVariants as modes
use Rattle.vba_expression.specs.declared.frame.Stepped.{Stepped}
use Rattle.vba_expression.specs.declared.frame.Stepped.TheVariants.{On, End}
use Rattle.vba_expression.specs.declared.part.Part.{Part}
use Rattle.vba_expression.specs.Tree.{unary, binary}
use Rattle.vba_expression.specs.Nodes.{Item, tree, last_tree, last_arguments, rest}
use Rattle.vba_expression.specs.Reader as reader

-- what arguments belong to, below them
abbrev pub head_of : Head → List Item → reader.Head
head_of heads.Call items = reader.call
head_of (heads.Behind left) items = reader.behind (last_tree items) left

abbrev pub below_head : Head → List Item → List Item
below_head heads.Call items = items
below_head (heads.Behind left) items = rest items

-- frames with what waits in them, the last one first
abbrev pub waiting_on : List Frame → List Item → List reader.Frame
waiting_on [] items = []
waiting_on (frames.Whole limit ∷ fs) items = reader.whole limit ∷ waiting_on fs items
waiting_on (frames.RightOperand operator token ∷ fs) items =
    reader.right_operand (last_tree items) operator token ∷ waiting_on fs (rest items)
waiting_on (frames.UnaryOperand operator token ∷ fs) items = reader.unary_operand operator token ∷ waiting_on fs items
waiting_on (frames.Inner left ∷ fs) items = reader.inner left ∷ waiting_on fs items
waiting_on (frames.TypeOfOperand word ∷ fs) items = reader.type_of_operand word ∷ waiting_on fs items
waiting_on (frames.Argument head comma ∷ fs) items =
    reader.argument (head_of head (rest items)) (last_arguments items) comma ∷ waiting_on fs (below_head head (rest items))
waiting_on (frames.NamedArgument head comma name colon_equal ∷ fs) items =
    reader.named_argument (head_of head (rest items)) (last_arguments items) comma name colon_equal
    ∷ waiting_on fs (below_head head (rest items))

-- the last frame is on top
abbrev pub waiting : List Frame → List Item → List reader.Frame
waiting held items = waiting_on (reverse held) items

-- an operation that waits in a frame, behind its last operand
abbrev pub behind_operation : Frame → List Item → List Item
behind_operation (frames.RightOperand operator token) items =
    tree (binary (last_tree (rest items)) operator token (last_tree items)) ∷ rest (rest items)
behind_operation (frames.UnaryOperand operator token) items = tree (unary operator token (last_tree items)) ∷ rest items
behind_operation other items = items

-- the items without the last one, where that is this name
abbrev pub without_name : Option Identifier → List Item → List Item
without_name None items = items
without_name (Some name) items = rest items

-- what is found, where a test holds
abbrev pub found_if : {A : Type 0} → Bool → A → Option A
found_if true found = Some found
found_if false found = None

abbrev pub state : Mode → List Frame → List Item → reader.State
state modes.Want held items = reader.want (waiting held items)
state modes.Have held items = reader.have (last_tree items) (waiting held (rest items))
state (modes.Dotted dot) held items = reader.dotted (last_tree items) dot (waiting held (rest items))
state (modes.WithDotted dot) held items = reader.with_dotted dot (waiting held items)
state (modes.NewWanted word) held items = reader.new_wanted word (waiting held items)
state (modes.ClassWanted word is_word) held items =
    reader.class_wanted word (last_tree items) is_word (waiting held (rest items))

-- the reader went on to the next state, or, where there is none, kept what the old one comes to
abbrev pub Comes : Option reader.State → reader.State → List Frame → List Item → Stepped → Type 0
Comes meant old held items (On mode) = meant ≡ Some (state mode held items)
Comes meant old held items (End mode) = (meant ≡ None) × (reader.settled (state mode held items) ≡ reader.settled old)

-- what a token did
abbrev pub Does : reader.State → Token → Part → List Frame → List Item → Stepped → Type 0
Does old token p held items stepped = Comes (reader.after old token p) old held items stepped
