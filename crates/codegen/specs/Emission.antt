-- Serves the code: the instructions of nodes and of statements, as they stand in memory.
use Rattle.std.specs.Prelude.{ℕ, suc, ◌+◌, true, false, if◌then◌else◌, nat_lt, List, [], ◌∷◌, ◌++◌, length, map, slice_index, slice_index_or, slice_get, Vec}
use Rattle.std.specs.declared.alloc.Global.{Global}
use Rattle.vba_values.specs.declared.types.Compare.TheVariants.{Binary as by_units}
use Rattle.vba_lib.specs.declared.function.LibraryFunction.TheVariants as function
use Rattle.error_frames.specs.declared.frame.Policy.{Policy}
use Rattle.error_frames.specs.declared.frame.Policy.TheVariants.{Default, Handler, ResumeNext}
use Rattle.bound_project.specs.declared.declared_type.ElementType.TheVariants.{Variant}
use Rattle.bound_project.specs.declared.declared_type.DeclaredType.{DeclaredType}
use Rattle.bound_project.specs.declared.declared_type.DeclaredType.TheVariants.{Plain}
use Rattle.bound_project.specs.declared.node.NodeKind.{NodeKind}
use Rattle.bound_project.specs.declared.node.NodeKind.TheVariants as node
use Rattle.bound_project.specs.declared.node.Node.{Node}
use Rattle.bound_project.specs.declared.statement.Handling.{Handling}
use Rattle.bound_project.specs.declared.statement.Handling.TheVariants.{PassedOn, Skipped, HandledAt}
use Rattle.bound_project.specs.declared.statement.ActionKind.{ActionKind}
use Rattle.bound_project.specs.declared.statement.ActionKind.TheVariants as kind
use Rattle.bound_project.specs.declared.statement.StatementNode.{StatementNode}
use Rattle.bound_project.specs.declared.project.Body.{Body}
use Rattle.bound_project.specs.Bodies.{part}
use Rattle.pcode.specs.declared.instr.Instr.{Instr}
use Rattle.pcode.specs.declared.instr.Instr.TheVariants as instr
use Rattle.pcode.specs.Instructions.{list_or}
use Rattle.codegen.specs.declared.node.Around.{Around}
use Rattle.codegen.specs.declared.node.Added.{Added}

-- lists in memory
abbrev pub lists_of : List (Vec ℕ Global) → List (List ℕ)
lists_of vs = map (λ v. v.items) vs

-- ---- nodes

-- past the last constant of the project stands the one for nothing
abbrev pub constant_number : Added → ℕ → ℕ
constant_number added i = if nat_lt i added.empty then i else added.empty

-- the length of an order of arguments
abbrev pub order_length : List (List ℕ) → ℕ → ℕ
order_length orders i = length (slice_index_or orders i [])

-- a value that stands alone: a constant, an object of the host, or what Err tells
abbrev pub value_instrs : Added → NodeKind → List Instr
value_instrs added node.NotGiven = instr.Push added.missing ∷ []
value_instrs added node.Zone = instr.Push added.empty ∷ []
value_instrs added (node.Constant i) = instr.Push (constant_number added i) ∷ []
value_instrs added (node.ByDefault i) = instr.Push (constant_number added i) ∷ []
value_instrs added (node.HostObject reference) = instr.PushHost reference ∷ []
value_instrs added node.ActiveSheet = instr.FirstSheet ∷ []
value_instrs added node.This = instr.PushThis ∷ []
value_instrs added (node.NewObject c) = instr.New c ∷ instr.Drop ∷ []
value_instrs added (node.ErrValue member) = instr.LoadErr member ∷ []
value_instrs added k = []

-- a place, or what is read of a place or of the parts of a value
abbrev pub place_instrs : NodeKind → List Instr
place_instrs (node.Variable x) = instr.PathOf x ∷ []
place_instrs (node.Item x count) = instr.PathOf x ∷ instr.ElementOf count ∷ []
place_instrs (node.Element count) = instr.ElementIn count ∷ []
place_instrs (node.Field i of bounded) = instr.FieldOf i of bounded ∷ []
place_instrs (node.KeptPlace header) = instr.Dot header ∷ []
place_instrs (node.ObjectField i of bounded) = instr.FieldIn i of bounded ∷ []
place_instrs (node.NewVariable x c) = instr.PathOf x ∷ instr.AsNew c ∷ []
place_instrs (node.AsNew c) = instr.AsNew c ∷ []
place_instrs (node.ElementAlong count) = instr.ElementAlong count ∷ []
place_instrs (node.LateField i) = instr.LateField i ∷ []
place_instrs node.PlaceOf = instr.PlaceOf ∷ []
place_instrs node.Load = instr.ReadThrough ∷ []
place_instrs node.LoadMade = instr.MakeThere ∷ instr.Drop ∷ instr.StoreMade ∷ instr.ReadThrough ∷ []
place_instrs (node.ElementValue count) = instr.Index count ∷ []
place_instrs (node.FieldValue i) = instr.PartOf i ∷ []
place_instrs (node.BoundOf upper z) = instr.BoundAt upper z ∷ []
place_instrs k = []

-- an operator, a function of the library, or what an object gives way to
abbrev pub operator_instrs : NodeKind → List Instr
operator_instrs (node.Unary o of) = instr.OperateAlone o of ∷ []
operator_instrs (node.Binary o compare left right) = instr.Operate o compare left right ∷ []
operator_instrs (node.Marked broken count) = instr.Library function.Array false by_units false count ∷ []
operator_instrs (node.Library f text_form count compare one) = instr.Library f text_form compare one count ∷ []
operator_instrs node.DefaultOf = instr.Plain ∷ []
operator_instrs node.DefaultIfAny = instr.PlainIfAny ∷ []
operator_instrs node.Enumerated = instr.Enumerate ∷ []
operator_instrs (node.ItemAlong count) = instr.ItemAlong count ∷ []
operator_instrs node.Same = instr.Same ∷ []
operator_instrs (node.IsType of) = instr.IsType of ∷ []
operator_instrs k = []

-- a call, a member of an object, or an argument
abbrev pub call_instrs : Added → List (List ℕ) → NodeKind → List Instr
call_instrs added orders (node.Call p count) = instr.Call p count ∷ []
call_instrs added orders (node.CallInOrder p count order) = instr.Reorder order count ∷ instr.Call p (order_length orders order) ∷ []
call_instrs added orders node.ObjectThere = instr.ObjectThere ∷ []
call_instrs added orders (node.Method p count) = instr.CallOf p count ∷ []
call_instrs added orders (node.MethodInOrder p count order) = instr.Reorder order count ∷ instr.CallOf p (order_length orders order) ∷ []
call_instrs added orders (node.MemberThere i given) = instr.MemberThere (constant_number added i) given ∷ []
call_instrs added orders (node.HostMember i count) = instr.MemberOf (constant_number added i) count ∷ []
call_instrs added orders (node.NamedThere i by given) = instr.NamedThere (constant_number added i) by given ∷ []
call_instrs added orders (node.NamedMember i by count) = instr.NamedOf (constant_number added i) by count ∷ []
call_instrs added orders (node.LateThere aim m) = instr.FindLate aim m ∷ []
call_instrs added orders (node.LateValue aim m i) = instr.BindValue aim m i ∷ []
call_instrs added orders (node.LatePlace aim m i) = instr.BindPlace aim m i ∷ []
call_instrs added orders (node.LateMember m) = instr.CallLate m ∷ []
call_instrs added orders node.ByPlace = instr.Lend ∷ []
call_instrs added orders (node.ByCopy of) = instr.Fit of ∷ []
call_instrs added orders (node.ByList count) = instr.Pack count ∷ []
call_instrs added orders k = []

-- an item of Debug.Print, a test of a Case, an array of a ReDim or of an Erase
abbrev pub part_instrs : Around → NodeKind → List Instr
part_instrs around node.Shown = instr.ShowText ∷ []
part_instrs around node.TestBegins = instr.Selected around.header ∷ instr.Plain ∷ []
part_instrs around (node.TestIs o of) = instr.IfFits o around.compare around.of of around.to ∷ []
part_instrs around (node.TestRange low high high_at) = instr.IfBetween around.compare around.of low high around.to ∷ []
part_instrs around (node.Resize count of) = instr.Redim around.preserve of count ∷ []
part_instrs around node.Erased = instr.EraseAt ∷ []
part_instrs around k = []

-- of a node: all of these but one are empty
abbrev pub node_instrs : Added → List (List ℕ) → Around → NodeKind → List Instr
node_instrs added orders around k =
    value_instrs added k ++ (place_instrs k ++ (operator_instrs k ++ (call_instrs added orders k ++ part_instrs around k)))

abbrev pub nodes_instrs : Added → List (List ℕ) → Around → List Node → List Instr
nodes_instrs added orders around [] = []
nodes_instrs added orders around (n ∷ ns) = node_instrs added orders around n.kind ++ nodes_instrs added orders around ns

-- ---- statements

-- the address of each statement of a procedure, 0 past the last one
abbrev pub Row : Type 0
Row = List ℕ

abbrev pub around_of : Row → ActionKind → Around
around_of row (kind.Case tests header of compare first other) = record { header = header; of = of; compare = compare; to = slice_index row first; preserve = false }
around_of row (kind.ReDim preserve arrays) = record { header = 0; of = Plain Variant; compare = by_units; to = 0; preserve = preserve }
around_of row k = record { header = 0; of = Plain Variant; compare = by_units; to = 0; preserve = false }

-- before its nodes
abbrev pub before_instrs : ℕ → ActionKind → List Instr
before_instrs i (kind.For x compare last step last_at step_at first behind) = instr.LoopOff i ∷ []
before_instrs i (kind.ForEach x first behind) = instr.EachOff i ∷ []
before_instrs i k = []

abbrev pub policy_in : Handling → Policy
policy_in PassedOn = Default
policy_in Skipped = ResumeNext
policy_in (HandledAt to) = Handler (record { 0 = to })

-- the call of a property whose arguments stand on the stack above the value
abbrev pub property_instrs : (procedure arguments : ℕ) → DeclaredType → List Instr
property_instrs q count of = instr.Lift count ∷ instr.Plain ∷ instr.Fit of ∷ instr.Call q (suc count) ∷ instr.Drop ∷ []

-- the same of a property that is given the object itself
abbrev pub object_property_instrs : (procedure arguments : ℕ) → DeclaredType → List Instr
object_property_instrs q count of = instr.Lift count ∷ instr.FitObject of ∷ instr.Call q (suc count) ∷ instr.Drop ∷ []

-- the same of a property of the object below the arguments
abbrev pub method_instrs : (procedure arguments : ℕ) → DeclaredType → List Instr
method_instrs q count of = instr.Lift (suc count) ∷ instr.Plain ∷ instr.Fit of ∷ instr.CallOf q (suc count) ∷ instr.Drop ∷ []

abbrev pub object_method_instrs : (procedure arguments : ℕ) → DeclaredType → List Instr
object_method_instrs q count of = instr.Lift (suc count) ∷ instr.FitObject of ∷ instr.CallOf q (suc count) ∷ instr.Drop ∷ []

-- an assignment, or Set
abbrev pub assignment_instrs : Added → ActionKind → List Instr
assignment_instrs added kind.Assign = instr.Store ∷ []
assignment_instrs added (kind.AssignItem count) = instr.StoreItem count ∷ []
assignment_instrs added kind.Set = instr.SetAt ∷ []
assignment_instrs added kind.AssignDefault = instr.StoreDefault ∷ []
assignment_instrs added (kind.AssignMember n count) = instr.StoreMember (constant_number added n) count ∷ []
assignment_instrs added kind.SetMember = instr.SetMember ∷ []
assignment_instrs added k = []

-- an assignment that gives a value of its own, as that of a procedure that it ends in: nothing uses it
abbrev pub assignment_along_instrs : ActionKind → List Instr
assignment_along_instrs kind.AssignThrough = instr.WriteThrough ∷ instr.Drop ∷ []
assignment_along_instrs (kind.AssignElement count) = instr.LetElement count ∷ instr.Drop ∷ []
assignment_along_instrs (kind.SetElement count) = instr.SetElement count ∷ instr.Drop ∷ []
assignment_along_instrs (kind.AssignLate m) = instr.LetLate m ∷ instr.Drop ∷ []
assignment_along_instrs (kind.SetLate m) = instr.SetLate m ∷ instr.Drop ∷ []
assignment_along_instrs k = []

-- an assignment to a property
abbrev pub property_assignment_instrs : List (List ℕ) → ActionKind → List Instr
property_assignment_instrs orders (kind.LetProperty q count of) = property_instrs q count of
property_assignment_instrs orders (kind.LetPropertyInOrder q count order of) = instr.Reorder order count ∷ property_instrs q (order_length orders order) of
property_assignment_instrs orders (kind.SetProperty q count of) = object_property_instrs q count of
property_assignment_instrs orders (kind.SetPropertyInOrder q count order of) = instr.Reorder order count ∷ object_property_instrs q (order_length orders order) of
property_assignment_instrs orders k = []

abbrev pub method_assignment_instrs : List (List ℕ) → ActionKind → List Instr
method_assignment_instrs orders (kind.LetMethod q count of) = method_instrs q count of
method_assignment_instrs orders (kind.LetMethodInOrder q count order of) = instr.Reorder order count ∷ method_instrs q (order_length orders order) of
method_assignment_instrs orders (kind.SetMethod q count of) = object_method_instrs q count of
method_assignment_instrs orders (kind.SetMethodInOrder q count order of) = instr.Reorder order count ∷ object_method_instrs q (order_length orders order) of
method_assignment_instrs orders k = []

-- RaiseEvent
abbrev pub event_instrs : List (List ℕ) → ActionKind → List Instr
event_instrs orders (kind.RaiseEvent event count) = instr.RaiseEvent event count ∷ []
event_instrs orders (kind.RaiseEventInOrder event count order) = instr.Reorder order count ∷ instr.RaiseEvent event (order_length orders order) ∷ []
event_instrs orders k = []

-- the first or the last line of a loop
abbrev pub loop_instrs : (statement : ℕ) → ActionKind → List Instr
loop_instrs i (kind.For x compare last step last_at step_at first behind) = instr.LoopOn x i compare last step ∷ []
loop_instrs i (kind.Next x header first) = instr.NextRound x header ∷ []
loop_instrs i (kind.ForEach x first behind) = instr.EachOn i ∷ instr.NextItem x i ∷ []
loop_instrs i (kind.NextEach x header first) = instr.NextItem x header ∷ []
loop_instrs i k = []

-- what a block keeps, what handles errors, and what stands alone
abbrev pub control_instrs : (statement next : ℕ) → ActionKind → List Instr
control_instrs i next kind.Evaluate = instr.Drop ∷ []
control_instrs i next (kind.Print count ends) = instr.Show ends count ∷ []
control_instrs i next (kind.RaiseInOrder count order) = instr.Reorder order count ∷ []
control_instrs i next (kind.Select first) = instr.Keep i ∷ []
control_instrs i next kind.WithValue = instr.Keep i ∷ []
control_instrs i next kind.WithPlace = instr.KeepPath i ∷ []
control_instrs i next (kind.EndWith header) = instr.DropKept header ∷ []
control_instrs i next (kind.ExitEach header to) = instr.DropKept header ∷ []
control_instrs i next (kind.GoSub to) = instr.PutReturn next ∷ []
control_instrs i next (kind.ExitTo end) = instr.ErrOff ∷ []
control_instrs i next kind.ClearErr = instr.ErrOff ∷ []
control_instrs i next (kind.OnError handling) = instr.SetPolicy (policy_in handling) ∷ []
control_instrs i next kind.EndHandler = instr.HandlerOff ∷ []
control_instrs i next kind.Stop = instr.StopHere ∷ []
control_instrs i next k = []

-- what is done behind its nodes: all of these but one are empty
abbrev pub work_instrs : Added → List (List ℕ) → (statement next : ℕ) → ActionKind → List Instr
work_instrs added orders i next k =
    assignment_instrs added k ++ (assignment_along_instrs k ++ (property_assignment_instrs orders k ++ (method_assignment_instrs orders k ++ (event_instrs orders k ++ (loop_instrs i k ++ control_instrs i next k)))))

-- where it goes on
abbrev pub end_instr : List (List ℕ) → Row → (procedure next : ℕ) → ActionKind → Instr
end_instr orders row p next (kind.Raise count) = instr.Throw count
end_instr orders row p next (kind.RaiseInOrder count order) = instr.Throw (order_length orders order)
end_instr orders row p next (kind.Test sense to other) = instr.Branch sense (slice_index row to) (slice_index row other)
end_instr orders row p next (kind.GoTo to) = instr.Finish (slice_index row to)
end_instr orders row p next (kind.For x compare last step last_at step_at first behind) = instr.Branch true (slice_index row first) (slice_index row behind)
end_instr orders row p next (kind.Next x header first) = instr.Branch true (slice_index row first) (slice_index row next)
end_instr orders row p next (kind.ForEach x first behind) = instr.Branch true (slice_index row first) (slice_index row behind)
end_instr orders row p next (kind.NextEach x header first) = instr.Branch true (slice_index row first) (slice_index row next)
end_instr orders row p next (kind.ExitEach header to) = instr.Finish (slice_index row to)
end_instr orders row p next (kind.Select first) = instr.Finish (slice_index row first)
end_instr orders row p next (kind.Case tests header of compare first other) = instr.Finish (slice_index row other)
end_instr orders row p next (kind.GoSub to) = instr.Finish (slice_index row to)
end_instr orders row p next kind.Return = instr.TakeReturn p
end_instr orders row p next (kind.ExitTo end) = instr.Finish (slice_index row end)
end_instr orders row p next kind.ResumeAgain = instr.Again p
end_instr orders row p next kind.ResumeNext = instr.Behind p
end_instr orders row p next (kind.ResumeAt to) = instr.Resumes p to
end_instr orders row p next kind.End = instr.Halt
end_instr orders row p next k = instr.Finish (slice_index row next)

-- what stays the same for all statements of a project, and of a procedure
abbrev pub action_instrs : Added → List (List ℕ) → Row → (procedure statement next : ℕ) → ActionKind → List Node → List Instr
action_instrs added orders row p i next k ns =
    before_instrs i k ++ (nodes_instrs added orders (around_of row k) ns ++ (work_instrs added orders i next k ++ end_instr orders row p next k ∷ []))

abbrev pub statement_instrs : Added → List (List ℕ) → Row → (procedure : ℕ) → List Node → (statement : ℕ) → StatementNode → List Instr
statement_instrs added orders row p ns i s = instr.Begin i ∷ action_instrs added orders row p i s.next s.action (part ns s.first_node s.nodes)

abbrev pub body_instrs : Added → List (List ℕ) → Row → (procedure : ℕ) → List Node → (statement : ℕ) → List StatementNode → List Instr
body_instrs added orders row p ns i [] = []
body_instrs added orders row p ns i (s ∷ ss) = statement_instrs added orders row p ns i s ++ body_instrs added orders row p ns (suc i) ss

-- ---- bodies and their addresses

-- the addresses of a procedure
abbrev pub row_in : List (List ℕ) → ℕ → Row
row_in table p = list_or (slice_get table p)

abbrev pub bodies_instrs : Added → List (List ℕ) → List (List ℕ) → ℕ → List Body → List Instr
bodies_instrs added orders table p [] = []
bodies_instrs added orders table p (b ∷ bs) =
    body_instrs added orders (row_in table p) p b.nodes.items 0 b.statements.items ++ bodies_instrs added orders table (suc p) bs

-- addresses stand in no instruction's length
abbrev pub statement_size : Added → List (List ℕ) → List Node → StatementNode → ℕ
statement_size added orders ns s = length (statement_instrs added orders [] 0 ns 0 s)

abbrev pub body_size : Added → List (List ℕ) → List Node → List StatementNode → ℕ
body_size added orders ns [] = 0
body_size added orders ns (s ∷ ss) = statement_size added orders ns s + body_size added orders ns ss

-- the addresses of a procedure whose first one is given
abbrev pub row_of : Added → List (List ℕ) → ℕ → List Node → List StatementNode → Row
row_of added orders base ns [] = []
row_of added orders base ns (s ∷ ss) = base ∷ row_of added orders (base + statement_size added orders ns s) ns ss

abbrev pub table_of : Added → List (List ℕ) → ℕ → List Body → List (List ℕ)
table_of added orders base [] = []
table_of added orders base (b ∷ bs) =
    row_of added orders base b.nodes.items b.statements.items ∷ table_of added orders (base + body_size added orders b.nodes.items b.statements.items) bs
