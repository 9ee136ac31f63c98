-- Worked rows of events.
use Rattle.std.specs.Prelude.{◌≡◌, ℕ, ◌-◌, ◌^◌, pos, List, [], ◌∷◌, codes, Bool, true, false, refl, Option, Some, None}
use Rattle.std.specs.Fmt.{digits}
use Rattle.vba_values.specs.declared.fault.OutKind.TheVariants.{Links}
use Rattle.vba_values.specs.declared.object.ObjRef.TheVariants.{Heap}
use Rattle.vba_values.specs.Types.{Declared}
use Rattle.vba_values.specs.Types as type
use Rattle.vba_values.specs.Val.{object}
use Rattle.bound_project.specs.Expressions.{shared, own, Variable, Expr, call, new_object, method, same, Lvalue, variable, item, object_field, Args, no_args, by_copy, by_place}
use Rattle.bound_project.specs.Statements.{Action, set, assign, evaluate, raise_event, test, skipped, on_error, clear_err, Statement}
use Rattle.bound_project.specs.Project.{Project, Procedure, Parameter, Class, no_name}
use Rattle.vba_meaning.specs.Memory.{Ended, Memory, outside}
use Rattle.vba_meaning.specs.Effects.{Event, Raised, Init, Term, Out, set_number_drawn}
use Rattle.vba_meaning.proofs.Programs.{meaning, e, n, words, plus, long, err, v, show, do_call, declare, sub, flat, program, told, line, of_type, one as at_one, redim_to, shared_longs}
use Rattle.vba_meaning.proofs.ObjectRows.{nothing}

-- ---- two classes: the first raises Ping in its procedure Fire, 1; the second has a WithEvents variable s, a Peer of its
-- own class and a Tag, and handles Ping in procedure 2

abbrev source : Declared
source = type.class 1

abbrev sink : Declared
sink = type.class 2

abbrev source_class : List Parameter → Class
source_class parameters = record {
  name = no_name;
  fields = [];
  initialize = None;
  terminate = None;
  members = [];
  default = None;
  enumerator = None;
  events = record { name = no_name; parameters = parameters } ∷ [];
  with_events = [];
  handlers = [];
}

abbrev sink_class : (terminate : Option ℕ) → Class
sink_class terminate = record {
  name = no_name;
  fields = declare source ∷ declare sink ∷ declare type.text ∷ [];
  initialize = None;
  terminate = terminate;
  members = [];
  default = None;
  enumerator = None;
  events = [];
  with_events = 0 ∷ [];
  handlers = record { field = 0; event = 0; procedure = 2 } ∷ [];
}

abbrev taking : List Parameter → List Declared → Procedure
taking parameters locals = record (sub locals) { parameters = parameters }

abbrev parameter : Declared → (by_reference : Bool) → Parameter
parameter of by_reference = record { name = no_name; of = of; by_reference = by_reference; default = None; many = false }

-- what the macro, Fire and the handler do, and further procedures
abbrev classes_of : List Parameter → Option ℕ → Project → Project
classes_of parameters terminate pr = record pr { declared = record pr.declared { classes = source_class parameters ∷ sink_class terminate ∷ [] } }

abbrev raised_by : List Parameter → Option ℕ → (globals : List Declared) → (main fire handle : List Action) → List (Procedure × List Statement) → Project
raised_by parameters terminate globals main fire handle more = classes_of parameters terminate (program globals (
    (sub (source ∷ sink ∷ sink ∷ []), flat 0 main) ∷ (sub (type.long ∷ []), flat 0 fire) ∷ (taking parameters [], flat 0 handle) ∷ more))

-- variables of the macro, and those of what they have
abbrev q : Variable
q = of_type 1 source

abbrev a : Variable
a = of_type 2 sink

abbrev b : Variable
b = of_type 3 sink

abbrev source_in : Variable → Lvalue
source_in x = object_field (v x) 0 source false

abbrev peer_in : Variable → Lvalue
peer_in x = object_field (v x) 1 sink false

abbrev tag_in : Variable → Lvalue
tag_in x = object_field (v x) 2 type.text false

-- those of the object that handles
abbrev its_source : Variable
its_source = record { storage = own 0; of = source; bounded = false }

abbrev its_peer : Variable
its_peer = record { storage = own 1; of = sink; bounded = false }

abbrev its_tag : Variable
its_tag = record { storage = own 2; of = type.text; bounded = false }

-- module variables
abbrev kept : Variable
kept = record { storage = shared 0; of = sink; bounded = false }

abbrev shared_source : Variable
shared_source = record { storage = shared 0; of = source; bounded = false }

abbrev new : ℕ → Expr
new c = e (type.class c) (new_object c)

abbrev fire : Action
fire = evaluate (e type.variant (method (v q) 1 no_args))

-- Set q = New Src: Set a = New Snk: Set b = New Snk ¶ a.Tag = "a": b.Tag = "b"
abbrev begun : List Action → List Action
begun actions =
    set (variable q) (new 1) ∷ set (variable a) (new 2) ∷ set (variable b) (new 2) ∷ assign (tag_in a) (words (codes "a")) ∷ assign (tag_in b) (words (codes "b")) ∷ actions

-- both are connected
abbrev both : List Action → List Action
both actions = begun (set (source_in a) (v q) ∷ set (source_in b) (v q) ∷ actions)

abbrev ping : Action
ping = raise_event 0 no_args

abbrev tells_tag : Action
tells_tag = show (v its_tag)

abbrev inits : List Event → List Event
inits events = Init 1 1 ∷ Init 2 2 ∷ Init 2 3 ∷ events

abbrev ends : List Event
ends = Term 2 2 ∷ Term 2 3 ∷ Term 1 1 ∷ []

abbrev said : List ℕ → Event
said units = line units

-- ---- the order of the handlers

-- Set b.s = q: Set a.s = q ¶ q.Fire
in_order_of_set : told (meaning (raised_by [] None [] (begun (set (source_in b) (v q) ∷ set (source_in a) (v q) ∷ fire ∷ [])) (ping ∷ []) (tells_tag ∷ []) []) 50) ≡ (Ended, inits (said (codes "b") ∷ said (codes "a") ∷ ends))
in_order_of_set = refl

-- Set a.Peer = b ¶ Set a.s = q: Set b.s = q ¶ q.Fire, where the handler does Debug.Print Tag ¶ If Not Peer Is Nothing
-- Then Set Peer.s = Nothing: a variable that was set before it was reached is passed over
abbrev peer_is_there : Action
peer_is_there = test false (e type.boolean (same (v its_peer) nothing)) 2 3

let_go_before : told (meaning (raised_by [] None [] (begun (set (peer_in a) (v b) ∷ set (source_in a) (v q) ∷ set (source_in b) (v q) ∷ fire ∷ [])) (ping ∷ []) (tells_tag ∷ peer_is_there ∷ set (source_in its_peer) nothing ∷ []) []) 50) ≡
    (Ended, inits (said (codes "a") ∷ Term 2 2 ∷ Term 1 1 ∷ Term 2 3 ∷ []))
let_go_before = refl

-- the same with Set Peer.s = s, q.Fire twice, and once more without a Peer: set again to the same source it waits for the
-- next raise
set_again : told (meaning (raised_by [] None [] (begun (set (peer_in a) (v b) ∷ set (source_in a) (v q) ∷ set (source_in b) (v q) ∷ fire ∷ fire ∷ set (peer_in a) nothing ∷ fire ∷ []))
    (ping ∷ []) (tells_tag ∷ peer_is_there ∷ set (source_in its_peer) (v its_source) ∷ []) []) 80) ≡ (Ended, inits (said (codes "a") ∷ said (codes "a") ∷ said (codes "a") ∷ said (codes "b") ∷ ends))
set_again = refl

-- Set a.s = Nothing: it is connected no longer
let_go_for_good : told (meaning (raised_by [] None [] (both (set (source_in a) nothing ∷ fire ∷ [])) (ping ∷ []) (tells_tag ∷ []) []) 50) ≡ (Ended, inits (said (codes "b") ∷ ends))
let_go_for_good = refl

-- the last reference to b goes in the handler of a: it ends, and isn't called
ended_before : told (meaning (raised_by [] None (sink ∷ []) (
    set (variable q) (new 1) ∷ set (variable a) (new 2) ∷ set (variable kept) (new 2) ∷ assign (tag_in a) (words (codes "a")) ∷ set (source_in a) (v q) ∷ set (source_in kept) (v q) ∷ fire ∷ [])
    (ping ∷ []) (tells_tag ∷ set (variable kept) nothing ∷ []) []) 50) ≡ (Ended, inits (said (codes "a") ∷ Term 2 3 ∷ Term 2 2 ∷ Term 1 1 ∷ []))
ended_before = refl

-- Class_Terminate does s.Fire: an object that ends still handles
abbrev last_words : Procedure × List Statement
last_words = (sub [], flat 0 (evaluate (e type.variant (method (v its_source) 1 no_args)) ∷ []))

while_it_ends : told (meaning (raised_by [] (Some 3) [] (
    set (variable q) (new 1) ∷ set (variable a) (new 2) ∷ assign (tag_in a) (words (codes "a")) ∷ set (source_in a) (v q) ∷ set (variable a) nothing ∷ fire ∷ [])
    (ping ∷ []) (tells_tag ∷ []) (last_words ∷ [])) 50) ≡ (Ended, Init 1 1 ∷ Init 2 2 ∷ Term 2 2 ∷ said (codes "a") ∷ Term 1 1 ∷ [])
while_it_ends = refl

-- a variable that is written through a ByRef parameter is connected: Sub Take(ByRef x As Src) does Set x = M.q
abbrev by_parameter : List (Procedure × List Statement)
by_parameter =
    (sub [], flat 0 (do_call 4 (by_place (variable its_source) no_args) ∷ [])) ∷ (taking (parameter source true ∷ []) [], flat 0 (set (variable (of_type 1 source)) (v shared_source) ∷ [])) ∷ []

set_by_reference : told (meaning (raised_by [] None (source ∷ []) (
    set (variable shared_source) (new 1) ∷ set (variable q) (v shared_source) ∷ set (variable a) (new 2) ∷ assign (tag_in a) (words (codes "a")) ∷
    evaluate (e type.variant (method (v a) 3 no_args)) ∷ fire ∷ []) (ping ∷ []) (tells_tag ∷ []) by_parameter) 50) ≡ (Ended, Init 1 1 ∷ Init 2 2 ∷ said (codes "a") ∷ Term 2 2 ∷ Term 1 1 ∷ [])
set_by_reference = refl

-- ---- arguments

-- n = 5 ¶ RaiseEvent Ping(n) ¶ Debug.Print n, where the handler does n = n + 1: the handlers share the variable
abbrev adds_one : Action
adds_one = assign (variable (long 1)) (plus (v (long 1)) (n 1))

shared_by_handlers : told (meaning (raised_by (parameter type.long true ∷ []) None [] (both (fire ∷ []))
    (assign (variable (long 1)) (n 5) ∷ raise_event 0 (by_place (variable (long 1)) no_args) ∷ show (v (long 1)) ∷ []) (adds_one ∷ []) []) 50) ≡ (Ended, inits (said (codes " 7 ") ∷ ends))
unfolding digits
shared_by_handlers = refl

-- RaiseEvent Ping(F()): the argument is evaluated once, and each handler gets a copy of its own
abbrev told_once : Procedure × List Statement
told_once = (sub [], flat 0 (show (words (codes "f")) ∷ []))

abbrev by_value : Args
by_value = by_copy (e type.variant (call 3 no_args)) type.long no_args

copied : told (meaning (raised_by (parameter type.long false ∷ []) None [] (both (fire ∷ [])) (raise_event 0 by_value ∷ []) (adds_one ∷ show (v (long 1)) ∷ []) (told_once ∷ [])) 50) ≡
    (Ended, inits (said (codes "f") ∷ said (codes " 1 ") ∷ said (codes " 1 ") ∷ ends))
unfolding digits
copied = refl

-- also where no handler is called
evaluated_for_none : told (meaning (raised_by (parameter type.long false ∷ []) None [] (begun (fire ∷ [])) (raise_event 0 by_value ∷ []) [] (told_once ∷ [])) 50) ≡
    (Ended, inits (said (codes "f") ∷ Term 1 1 ∷ Term 2 2 ∷ Term 2 3 ∷ []))
evaluated_for_none = refl

-- On Error Resume Next ¶ ReDim m(3) ¶ RaiseEvent Ping(m(1)) ¶ ReDim m(9) ¶ Debug.Print Err.Number: while the raise isn't
-- over m can't be replaced, in no handler; and then it can
abbrev lends_element : List Action
lends_element = on_error skipped ∷ redim_to (shared_longs 0) 3 ∷ raise_event 0 (by_place (item (shared_longs 0) (at_one 1)) no_args) ∷ redim_to (shared_longs 0) 9 ∷ show err ∷ []

locked : told (meaning (raised_by (parameter type.long true ∷ []) None (type.array_of type.long ∷ []) (both (fire ∷ [])) lends_element (on_error skipped ∷ redim_to (shared_longs 0) 9 ∷ show err ∷ clear_err ∷ []) []) 80) ≡
    (Ended, inits (Raised (pos 10) ∷ said (codes " 10 ") ∷ Raised (pos 10) ∷ said (codes " 10 ") ∷ said (codes " 0 ") ∷ ends))
unfolding digits
locked = refl

-- ---- errors

-- an error that leaves a handler is raised at the statement that raised the event, and no further handler is called; what
-- was lent is free again
left_by_an_error : told (meaning (raised_by (parameter type.long true ∷ []) None (type.array_of type.long ∷ []) (both (fire ∷ [])) lends_element (redim_to (shared_longs 0) 9 ∷ []) []) 80) ≡
    (Ended, inits (Raised (pos 10) ∷ said (codes " 10 ") ∷ ends))
unfolding digits
left_by_an_error = refl

-- where no set number is left the run stops
no_number_left : (m : Memory) → set_number_drawn 1 0 (object (Heap (record { 0 = 2 }))) (record m { next_set = 2 ^ 64 - 1 }) ≡ Out (outside Links) (record m { next_set = 2 ^ 64 - 1 })
no_number_left m = refl
