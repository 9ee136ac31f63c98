-- Serves the code: the same refusals as they are found going over the nodes of the statements in order.
use Rattle.std.specs.Prelude.{List, [], ◌∷◌, ◌++◌}
use Rattle.vba_base.specs.declared.place.Place.{Place}
use Rattle.vba_base.specs.declared.place.Refusal.{Refusal}
use Rattle.vba_values.specs.declared.types.OpKind.TheVariants as op
use Rattle.vba_values.specs.Types.{Declared}
use Rattle.vba_values.specs.Types as type
use Rattle.bound_project.specs.declared.declared_type.DeclaredType.{DeclaredType}
use Rattle.bound_project.specs.declared.declared_type.DeclaredType.TheVariants.{Plain}
use Rattle.bound_project.specs.declared.declared_type.ElementType.TheVariants.{Variant}
use Rattle.bound_project.specs.declared.node.NodeKind.{NodeKind}
use Rattle.bound_project.specs.declared.node.NodeKind.TheVariants as node
use Rattle.bound_project.specs.declared.node.Node.{Node}
use Rattle.bound_project.specs.declared.statement.ActionKind.{ActionKind}
use Rattle.bound_project.specs.declared.statement.ActionKind.TheVariants as kind
use Rattle.bound_project.specs.declared.statement.StatementNode.{StatementNode}
use Rattle.bound_project.specs.declared.project.Body.{Body}
use Rattle.bound_project.specs.Bodies.{part}
use Rattle.bound_project.specs.View.{declared_view}
use Rattle.static_rules.specs.Broken.{double_at, loop_broken}

-- operators know as little of an array as of a Variant
abbrev pub operator_type : Declared → Declared
operator_type (type.array_of of) = type.variant
operator_type of = of

-- the type of the value of a Select Case, for the nodes of its Case
abbrev pub selected_type : ActionKind → DeclaredType
selected_type (kind.Case tests header of compare first other) = of
selected_type k = Plain Variant

-- what a node adds
abbrev pub kind_places : (selected : DeclaredType) → Place → NodeKind → List Refusal
kind_places selected at (node.Unary o of) = double_at at o (declared_view of) (declared_view of)
kind_places selected at (node.Binary o compare left right) = double_at at o (declared_view left) (declared_view right)
kind_places selected at (node.TestIs o of) = double_at at o (declared_view selected) (declared_view of)
kind_places selected at (node.TestRange low high high_at) =
    double_at at op.Ge (declared_view selected) (declared_view low) ++ double_at high_at op.Le (declared_view selected) (declared_view high)
kind_places selected at (node.Marked broken count) = broken ∷ []
kind_places selected at k = []

abbrev pub nodes_places : (selected : DeclaredType) → List Node → List Refusal
nodes_places selected [] = []
nodes_places selected (n ∷ ns) = kind_places selected n.place n.kind ++ nodes_places selected ns

-- what a statement adds behind its nodes
abbrev pub loop_places : ActionKind → List Refusal
loop_places (kind.For x compare last step last_at step_at first behind) = loop_broken (declared_view x.of) (declared_view last) (declared_view step) last_at step_at
loop_places k = []

abbrev pub statement_places : List Node → StatementNode → List Refusal
statement_places ns s = nodes_places (selected_type s.action) (part ns s.first_node s.nodes) ++ loop_places s.action

abbrev pub statements_places : List Node → List StatementNode → List Refusal
statements_places ns [] = []
statements_places ns (s ∷ ss) = statement_places ns s ++ statements_places ns ss

abbrev pub bodies_places : List Body → List Refusal
bodies_places [] = []
bodies_places (b ∷ bs) = statements_places b.nodes.items b.statements.items ++ bodies_places bs
