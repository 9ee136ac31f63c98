-- Uses of members that are found in the run.
use Rattle.std.proofs.Common.{ℕ, Bool, List, Option, Some, None}
use Rattle.std.specs.Prelude.{◌||◌, not, if◌then◌else◌}
use Rattle.vba_values.specs.declared.object.ObjRef.TheVariants.{Nothing, Heap}
use Rattle.vba_values.specs.Val.{Val, missing, object}
use Rattle.bound_project.specs.Expressions.{ByName}
use Rattle.bound_project.specs.Project.{Declarations, Parameter, Member, is_variable, is_procedure, is_property}
use Rattle.vba_meaning.specs.Paths.{Path}
use Rattle.vba_meaning.specs.Memory.{Slot, Memory}
use Rattle.vba_meaning.specs.Effects.{Effect, on_fine, slot_values}
use Rattle.vba_meaning.specs.Objects.{set_at}
use Rattle.vba_meaning.specs.Collections.{CollectionMember, is_item, found_or}
use Rattle.vba_meaning.specs.Host.{as_given, member_there, member_assigned}
use Rattle.vba_meaning.specs.ByName.{named_there}
use Rattle.bound_project.specs.Parameters.{parameters_of, without_last, last_type}
use Rattle.vba_meaning.specs.Defaults.{by_let, in_member, let_item, set_item, Next, over_with, is_instance, class_of_value, nothing_more, put, let_at, let_along, set_along, most_passed}
use Rattle.vba_meaning.specs.LateBound.{Use, reading, assigning, setting, Way, by_variable, by_call, by_setter, how_many, all_taken, given_twice, any_lacks, arguments_fit, arranged, member_named, variable_named, public_variable, way_by_name, taken_by_way, has_names, indexes, what_is_indexed, way_there, host_there, late_there, argument_tasks, value_bound, place_copied, call_way, late_called, host_arguments, let_element, let_indexed, let_plain, let_way, item_let, host_let, late_let, element_set, set_way, late_set}
use Rattle.memory_changes.proofs.Rows.{Still, still, still_bad, still_if, Rows, fine, bad, of_still, then_same, both}
use Rattle.memory_changes.proofs.Values.{set_object_still, set_at_rows}
use Rattle.memory_changes.proofs.Items.{found_or_still, collection_member_still, item_found_rows}
use Rattle.memory_changes.proofs.Hosts.{named_there_still, member_not_set_still, member_there_rows, member_assigned_rows}
use Rattle.memory_changes.proofs.Uses.{over_rows, nothing_rows, read_variable_rows, index_along_rows, in_place_rows, put_rows, written_on, let_at_rows, let_along_rows, set_along_rows, tasks_rows, use_then_rows}

fit_still : (ps : List Parameter) (by : ByName) (gs : List Bool) (m : Memory) → Still m (arguments_fit ps by gs m)
fit_still ps by gs m = still_if (not (all_taken ps by 0 gs) || given_twice ps by gs by.names) (still_bad 450 m) (still_if (any_lacks by gs 0 ps) (still_bad 449 m) still)

variable_named_still : (d : Declarations) (v : Val) (x : Option Member) (m : Memory) → Still m (variable_named d v x m)
variable_named_still d v None m = still_bad 438 m
variable_named_still d v (Some (is_variable i makes)) m = still
variable_named_still d v (Some (is_procedure p)) m = still_bad 438 m
variable_named_still d v (Some (is_property reads lets sets)) m = still_bad 438 m

pub public_variable_still : (d : Declarations) (name : List ℕ) (v : Val) (m : Memory) → Still m (public_variable d name v m)
public_variable_still d name (object Nothing) m = still_bad 91 m
public_variable_still d name (object o) m = variable_named_still d (object o) (if is_instance (object o) m then member_named (class_of_value d (object o) m).members name else None) m
public_variable_still d name v m = still_bad 424 m

module _ (d : Declarations) where
  -- what is found by a name, and then
  found_rows : (aim : Use) (name : List ℕ) (gs : List Bool) (v : Val) (f : Way → Memory → Effect Next) (m : Memory) → ((w : Way) → Rows d m (f w m)) → Rows d m (on_fine (found_or 438 (way_by_name d aim name gs v m) m) f)
  found_rows aim name gs v f m k = then_same d f (found_or_still 438 (way_by_name d aim name gs v m) m) k

  -- ---- a use begins

  what_is_indexed_rows : (aim : Use) (v : Val) (w : Way) (m : Memory) → Rows d m (what_is_indexed d aim v w m)
  what_is_indexed_rows reading v (by_variable q) m = read_variable_rows d q m
  what_is_indexed_rows assigning v (by_variable q) m = fine d
  what_is_indexed_rows setting v (by_variable q) m = fine d
  what_is_indexed_rows reading v (by_call p property) m = fine d
  what_is_indexed_rows assigning v (by_call p property) m = fine d
  what_is_indexed_rows setting v (by_call p property) m = fine d
  what_is_indexed_rows reading v (by_setter p) m = fine d
  what_is_indexed_rows assigning v (by_setter p) m = fine d
  what_is_indexed_rows setting v (by_setter p) m = fine d

  way_there_rows : (aim : Use) (by : ByName) (gs : List Bool) (v : Val) (w : Way) (m : Memory) → Rows d m (way_there d aim by gs v w m)
  way_there_rows aim by gs v w m = both d (indexes d by gs w) (what_is_indexed_rows aim v w m) (then_same d _ (fit_still (taken_by_way d w) by gs m) (λ u. fine d))

  by_names_rows : (name : List ℕ) (by : ByName) (gs : List Bool) (v : Val) (m : Memory)
      → Rows d m (if has_names by then over_with (named_there name by (how_many gs) v m) else over_with (member_there d name (how_many gs) v m))
  by_names_rows name by gs v m = both d (has_names by) (over_rows d (of_still d (named_there_still name by (how_many gs) v m))) (over_rows d (member_there_rows d name (how_many gs) v m))

  host_there_rows : (aim : Use) (name : List ℕ) (by : ByName) (gs : List Bool) (v : Val) (m : Memory) → Rows d m (host_there d aim name by gs v m)
  host_there_rows setting name by gs v m = nothing_rows d (of_still d (member_not_set_still v m))
  host_there_rows reading name by gs v m = by_names_rows name by gs v m
  host_there_rows assigning name by gs v m = by_names_rows name by gs v m

  pub late_there_rows : (aim : Use) (name : List ℕ) (by : ByName) (gs : List Bool) (v : Val) (m : Memory) → Rows d m (late_there d aim name by gs v m)
  late_there_rows aim name by gs v m = both d (is_instance v m) (found_rows aim name gs v _ m (λ w. way_there_rows aim by gs v w m)) (host_there_rows aim name by gs v m)

  -- ---- arguments

  pub value_bound_rows : (aim : Use) (name : List ℕ) (by : ByName) (gs : List Bool) (i : ℕ) (base v : Val) (m : Memory) → Rows d m (value_bound d aim name by gs i base v m)
  value_bound_rows aim name by gs i base missing m = fine d
  value_bound_rows aim name by gs i base v m = tasks_rows d (argument_tasks d aim name by gs i base m) v m

  pub place_copied_rows : (aim : Use) (name : List ℕ) (by : ByName) (gs : List Bool) (i : ℕ) (base : Val) (q : Path) (m : Memory) → Rows d m (place_copied d aim name by gs i base q m)
  place_copied_rows aim name by gs i base q m = use_then_rows d (argument_tasks d aim name by gs i base m) (read_variable_rows d q m)

  -- ---- a member is read or called

  call_way_rows : (by : ByName) (gs : List Bool) (base begun : Val) (xs : List Slot) (w : Way) (m : Memory) → Rows d m (call_way d by gs base begun xs w m)
  call_way_rows by gs base begun xs (by_variable q) m = both d (indexes d by gs (by_variable q)) (index_along_rows d most_passed (slot_values xs) begun m) (read_variable_rows d q m)
  call_way_rows by gs base begun xs (by_call p property) m = both d (indexes d by gs (by_call p property)) (index_along_rows d most_passed (slot_values xs) begun m) (fine d)
  call_way_rows by gs base begun xs (by_setter p) m = both d (indexes d by gs (by_setter p)) (index_along_rows d most_passed (slot_values xs) begun m) (bad d 438 m)

  pub late_called_rows : (name : List ℕ) (by : ByName) (gs : List Bool) (base begun : Val) (xs : List Slot) (m : Memory) → Rows d m (late_called d name by gs base begun xs m)
  late_called_rows name by gs base begun xs m = found_rows reading name gs base _ m (λ w. call_way_rows by gs base begun xs w m)

  -- ---- a member is assigned to

  pub let_element_rows : (q : Path) (vs : List Val) (v : Val) (m : Memory) → Rows d m (let_element d q vs v m)
  let_element_rows q vs v m =
      in_place_rows d q vs (λ p m1. let_at d p v m1) (let_item most_passed vs v) (λ w m1. let_along d most_passed vs v w m1) m (λ p m1. let_at_rows d p v m1) (λ w m1. let_along_rows d most_passed vs v w m1)

  let_indexed_rows : (begun : Val) (vs : List Val) (v : Val) (w : Way) (m : Memory) → Rows d m (let_indexed d begun vs v w m)
  let_indexed_rows begun vs v (by_variable q) m = let_element_rows q vs v m
  let_indexed_rows begun vs v (by_call p property) m = let_along_rows d most_passed vs v begun m
  let_indexed_rows begun vs v (by_setter p) m = let_along_rows d most_passed vs v begun m

  let_plain_rows : (by : ByName) (base : Val) (xs : List Slot) (v : Val) (w : Way) (m : Memory) → Rows d m (let_plain d by base xs v w m)
  let_plain_rows by base xs v (by_variable q) m = let_at_rows d q v m
  let_plain_rows by base xs v (by_call p property) m = fine d
  let_plain_rows by base xs v (by_setter p) m = put_rows d (by_let p base (arranged (without_last (parameters_of d p)) by xs)) v m

  let_way_rows : (by : ByName) (gs : List Bool) (base begun : Val) (xs : List Slot) (v : Val) (w : Way) (m : Memory) → Rows d m (let_way d by gs base begun xs v w m)
  let_way_rows by gs base begun xs v w m = both d (indexes d by gs w) (let_indexed_rows begun (slot_values xs) v w m) (let_plain_rows by base xs v w m)

  item_let_rows : (o : ℕ) (how : CollectionMember) (vs : List Val) (v : Val) (m : Memory) → Rows d m (item_let d o how vs v m)
  item_let_rows o is_item vs v m = written_on d v (over_rows d (item_found_rows d o vs m))
  item_let_rows o member vs v m = bad d 438 m

  other_let : (name : List ℕ) (vs : List Val) (base begun v : Val) (m : Memory) → Rows d m (if is_instance v m then put d (in_member name vs base begun) v m else nothing_more (member_assigned d name vs base begun v m))
  other_let name vs base begun v m = both d (is_instance v m) (put_rows d (in_member name vs base begun) v m) (nothing_rows d (member_assigned_rows d name vs base begun v m))

  host_let_rows : (name : List ℕ) (vs : List Val) (base begun v : Val) (m : Memory) → Rows d m (host_let d name vs base begun v m)
  host_let_rows name vs (object (Heap id)) begun v m = then_same d _ (collection_member_still id.0 name m) (λ how. item_let_rows id.0 how (as_given vs) v m)
  host_let_rows name vs base begun v m = other_let name vs base begun v m

  pub late_let_rows : (name : List ℕ) (by : ByName) (gs : List Bool) (base begun : Val) (xs : List Slot) (v : Val) (m : Memory) → Rows d m (late_let d name by gs base begun xs v m)
  late_let_rows name by gs base begun xs v m =
      both d (is_instance base m) (found_rows assigning name gs base _ m (λ w. let_way_rows by gs base begun xs v w m)) (host_let_rows name (host_arguments base name by xs) base begun v m)

  -- ---- a member is set

  pub element_set_rows : (q : Path) (vs : List Val) (v : Val) (m : Memory) → Rows d m (element_set d q vs v m)
  element_set_rows q vs v m =
      in_place_rows d q vs (λ p m1. nothing_more (set_at p v m1)) (set_item most_passed vs v) (λ w m1. set_along d most_passed vs v w m1) m (λ p m1. nothing_rows d (set_at_rows d p v m1)) (λ w m1. set_along_rows d most_passed vs v w m1)

  set_way_rows : (by : ByName) (gs : List Bool) (base begun : Val) (xs : List Slot) (v : Val) (w : Way) (m : Memory) → Rows d m (set_way d by gs base begun xs v w m)
  set_way_rows by gs base begun xs v (by_variable q) m = both d (indexes d by gs (by_variable q)) (element_set_rows q (slot_values xs) v m) (nothing_rows d (set_at_rows d q v m))
  set_way_rows by gs base begun xs v (by_setter p) m = then_same d _ (set_object_still (last_type (parameters_of d p)) v m) (λ w. fine d)
  set_way_rows by gs base begun xs v (by_call p property) m = both d (indexes d by gs (by_call p property)) (set_along_rows d most_passed (slot_values xs) v begun m) (bad d 438 m)

  pub late_set_rows : (name : List ℕ) (by : ByName) (gs : List Bool) (base begun : Val) (xs : List Slot) (v : Val) (m : Memory) → Rows d m (late_set d name by gs base begun xs v m)
  late_set_rows name by gs base begun xs v m =
      both d (is_instance base m) (found_rows setting name gs base _ m (λ w. set_way_rows by gs base begun xs v w m)) (nothing_rows d (of_still d (member_not_set_still base m)))
