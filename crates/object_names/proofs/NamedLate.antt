-- Uses of members that are found in the run, under other names.
use Rattle.std.proofs.Common.{◌≡◌, ℕ, zero, suc, Bool, true, false, List, [], ◌∷◌, ◌++◌, map, Option, Some, None, refl, sym, ap, ◌∙◌, subst}
use Rattle.std.specs.Prelude.{◌||◌, ◌&&◌, not, nat_lt, if◌then◌else◌, nat_eq, option_map, slice_index_or, take, drop, unwrap_or}
use Rattle.std.proofs.lemmas.List.{map-append}
use Rattle.vba_values.specs.declared.object.ObjRef.TheVariants.{Nothing, Heap, Host}
use Rattle.vba_values.specs.Coerce.{is_same_type}
use Rattle.vba_values.specs.Val.{Val, empty, missing, object}
use Rattle.bound_project.specs.Expressions.{ByName}
use Rattle.bound_project.specs.Project.{Declarations, Parameter, Member, is_variable, is_procedure, is_property, procedure_at}
use Rattle.vba_meaning.specs.Paths.{Root, in_frame, in_project, in_fields, in_block, in_object, in_item, Path}
use Rattle.vba_meaning.specs.Memory.{Slot, value, path, Memory}
use Rattle.vba_meaning.specs.Effects.{Effect, Fine, on_fine, slot_values, packed, slot_left_out}
use Rattle.vba_meaning.specs.Objects.{set_at}
use Rattle.vba_meaning.specs.Collections.{CollectionMember, is_item, found_or}
use Rattle.vba_meaning.specs.Host.{as_given, member_there, member_assigned}
use Rattle.vba_meaning.specs.ByName.{named_there, names_of_member, parameters_given, value_given, values_given, in_parameter_order}
use Rattle.bound_project.specs.Parameters.{parameters_of, without_last, last_type, has_parameters}
use Rattle.vba_meaning.specs.Defaults.{by_let, in_member, Task, as_operand, fit_to, give_way, write, let_item, set_item, Next, gives, then_call, over_with, is_instance, is_variable_place, class_of_value, variable_of, can_be_object, is_sub_kind, index_along, tasks_next, use_then, nothing_more, put, let_at, let_along, set_along, most_passed}
use Rattle.vba_meaning.specs.LateBound.{Use, reading, assigning, setting, Way, by_variable, by_call, by_setter, how_many, parameter_of, all_taken, given_twice, any_lacks, arguments_fit, argument_of, slot_or_left, slot_of, arranged_from, arranged, member_named, get_for_object, assigned_way, get_alone, set_by, way_of, found_way, way_by_name, taken_by_way, has_names, indexes, what_is_indexed, way_there, member_there_of, host_there, late_there, parameter_by_way, parameter_for, tasks_for, keeps_object, argument_tasks, value_bound, takes_place, lends_place, place_copied, call_way, late_called, host_arguments, let_element, let_indexed, let_plain, let_way, item_let, host_let, late_let, element_set, set_way, late_set}
use Rattle.object_names.specs.Names.{value_named, values_named, root_named, path_named, slot_named, slots_named, tasks_named, next_named}
use Rattle.object_names.specs.Renamed.{Same}
use Rattle.object_names.proofs.Named.{plainly, Names, fine, bad, then_named, both, both_by}
use Rattle.object_names.proofs.NamedVariables.{set_object_names, set_at_names}
use Rattle.object_names.proofs.NamedItems.{nth_map, collection_member_names, item_found_names}
use Rattle.object_names.proofs.NamedObjects.{named_there_names, member_there_names, member_not_set_names, member_assigned_names, given_named}
use Rattle.object_names.proofs.NamedUses.{Plain, plain_last, over_names, nothing_names, instance_same, class_value_same, variable_same, read_variable_names, index_along_names, slot_values_named, packed_named, in_place_names, put_names, written_on, let_at_names, let_along_names, set_along_names, tasks_names, use_then_names}

module _ (r : ℕ → ℕ) where
  abbrev nv : Val → Val
  nv v = value_named r v

  abbrev np : Path → Path
  np p = path_named r p

  abbrev nn : Next → Next
  nn x = next_named r x

  -- ---- arguments

  fit_names : {m n : Memory} (ps : List Parameter) (by : ByName) (gs : List Bool) → Same r m n → Names r plainly (arguments_fit ps by gs m) (arguments_fit ps by gs n)
  fit_names ps by gs k = both r (not (all_taken ps by 0 gs) || given_twice ps by gs by.names) (bad r 450 k) (both r (any_lacks by gs 0 ps) (bad r 449 k) (fine r refl k))

  left_slot : (q : Parameter) (x : Slot) → slot_named r (slot_left_out q) ≡ slot_left_out q → slot_or_left q (slot_named r x) ≡ slot_named r (slot_or_left q x)
  left_slot q (value missing) h = sym h
  left_slot q (value (object o)) h = refl
  left_slot q (value v) h = refl
  left_slot q (path p) h = refl

  slot_of_named : (q : Parameter) (xs : List Slot) (o : Option ℕ) → slot_named r (slot_left_out q) ≡ slot_left_out q → slot_of q (slots_named r xs) o ≡ slot_named r (slot_of q xs o)
  slot_of_named q xs None h = sym h
  slot_of_named q xs (Some i) h = ap (slot_or_left q) (nth_map (slot_named r) xs i (value missing)) ∙ left_slot q (slice_index_or xs i (value missing)) h

  take_map : {A B : Type 0} (f : A → B) (i : ℕ) (xs : List A) → take i (map f xs) ≡ map f (take i xs)
  take_map f zero [] = refl
  take_map f zero (x ∷ xs) = refl
  take_map f (suc i) [] = refl
  take_map f (suc i) (x ∷ xs) = ap (λ ys. f x ∷ ys) (take_map f i xs)

  drop_map : {A B : Type 0} (f : A → B) (i : ℕ) (xs : List A) → drop i (map f xs) ≡ map f (drop i xs)
  drop_map f zero [] = refl
  drop_map f zero (x ∷ xs) = refl
  drop_map f (suc i) [] = refl
  drop_map f (suc i) (x ∷ xs) = drop_map f i xs

  arranged_from_named : (by : ByName) (j : ℕ) (ps : List Parameter) (xs : List Slot) → Plain r ps → arranged_from by j ps (slots_named r xs) ≡ slots_named r (arranged_from by j ps xs)
  arranged_from_named by j [] xs h = refl
  arranged_from_named by j (q ∷ ps) xs h = ap (λ y. y ∷ arranged_from by (suc j) ps (slots_named r xs)) (by_many q.many)
      ∙ ap (λ ys. slot_named r (if q.many then value (packed (drop j (take by.before xs))) else slot_of q xs (argument_of by j q)) ∷ ys) (arranged_from_named by (suc j) ps xs h.1)
    where
      by_many : (b : Bool) → (if b then value (packed (drop j (take by.before (slots_named r xs)))) else slot_of q (slots_named r xs) (argument_of by j q)) ≡ slot_named r (if b then value (packed (drop j (take by.before xs))) else slot_of q xs (argument_of by j q))
      by_many true =
          ap (λ v. value v) (ap packed (ap (drop j) (take_map (slot_named r) by.before xs) ∙ drop_map (slot_named r) j (take by.before xs)) ∙ packed_named r (drop j (take by.before xs)))
      by_many false = slot_of_named q xs (argument_of by j q) h.0

  pub arranged_named : (ps : List Parameter) (by : ByName) (xs : List Slot) → Plain r ps → arranged ps by (slots_named r xs) ≡ slots_named r (arranged ps by xs)
  arranged_named ps by xs h = arranged_from_named by 0 ps xs h

  -- ---- the member of a class

  abbrev pub way_named : Way → Way
  way_named (by_variable q) = by_variable (np q)
  way_named (by_call p property) = by_call p property
  way_named (by_setter p) = by_setter p

  abbrev nw : Option Way → Option Way
  nw x = option_map way_named x

  call_only : (d : Declarations) (o : Option ℕ) → nw (get_for_object d o) ≡ get_for_object d o
  call_only d None = refl
  call_only d (Some p) = by_test (can_be_object (procedure_at d p).result.of) where
    by_test : (b : Bool) → nw (if b then Some (by_call p true) else None) ≡ (if b then Some (by_call p true) else None)
    by_test true = refl
    by_test false = refl

  alone_only : (d : Declarations) (j : ℕ) (o : Option ℕ) → nw (get_alone d j o) ≡ get_alone d j o
  alone_only d j None = refl
  alone_only d j (Some p) = by_test (nat_lt 0 j && not (has_parameters (parameters_of d p))) where
    by_test : (b : Bool) → nw (if b then get_for_object d (Some p) else None) ≡ (if b then get_for_object d (Some p) else None)
    by_test true = call_only d (Some p)
    by_test false = refl

  set_only : (d : Declarations) (j : ℕ) (reads sets : Option ℕ) → nw (set_by d j reads sets) ≡ set_by d j reads sets
  set_only d j reads None = alone_only d j reads
  set_only d j reads (Some p) = by_test (nat_lt 0 j && not (has_parameters (without_last (parameters_of d p)))) where
    by_test : (b : Bool) → nw (if b then get_alone d j reads else Some (by_setter p)) ≡ (if b then get_alone d j reads else Some (by_setter p))
    by_test true = alone_only d j reads
    by_test false = refl

  variable_way : {m n : Memory} (d : Declarations) (v : Val) (i : ℕ) (makes : Option ℕ) → Same r m n → Some (by_variable (variable_of d (nv v) i makes n)) ≡ nw (Some (by_variable (variable_of d v i makes m)))
  variable_way d v i makes k = ap (λ q. Some (by_variable q)) (variable_same r d v i makes k)

  assigned_same : {m n : Memory} (d : Declarations) (j : ℕ) (v : Val) (x : Member) → Same r m n → assigned_way d j (nv v) x n ≡ nw (assigned_way d j v x m)
  assigned_same d j v (is_variable i makes) k = variable_way d v i makes k
  assigned_same d j v (is_procedure p) k = by_test (is_sub_kind (procedure_at d p).kind) where
    by_test : (b : Bool) → (if b then None else Some (by_call p false)) ≡ nw (if b then None else Some (by_call p false))
    by_test true = refl
    by_test false = refl
  assigned_same d j v (is_property reads (Some p) sets) k = by_test (nat_lt 0 j && not (has_parameters (without_last (parameters_of d p)))) where
    by_test : (b : Bool) → (if b then get_for_object d reads else Some (by_setter p)) ≡ nw (if b then get_for_object d reads else Some (by_setter p))
    by_test true = sym (call_only d reads)
    by_test false = refl
  assigned_same d j v (is_property reads None sets) k = sym (call_only d reads)

  way_same : {m n : Memory} (d : Declarations) (aim : Use) (j : ℕ) (v : Val) (x : Member) → Same r m n → way_of d aim j (nv v) x n ≡ nw (way_of d aim j v x m)
  way_same d reading j v (is_variable i makes) k = variable_way d v i makes k
  way_same d reading j v (is_procedure p) k = refl
  way_same d reading j v (is_property (Some p) lets sets) k = refl
  way_same d reading j v (is_property None lets sets) k = refl
  way_same d assigning j v x k = assigned_same d j v x k
  way_same d setting j v (is_variable i makes) k = variable_way d v i makes k
  way_same d setting j v (is_procedure p) k = refl
  way_same d setting j v (is_property reads lets sets) k = sym (set_only d j reads sets)

  found_way_same : {m n : Memory} (d : Declarations) (aim : Use) (j : ℕ) (v : Val) (x : Option Member) → Same r m n → found_way d aim j (nv v) x n ≡ nw (found_way d aim j v x m)
  found_way_same d aim j v None k = refl
  found_way_same d aim j v (Some x) k = way_same d aim j v x k

  pub by_name_same : {m n : Memory} (d : Declarations) (aim : Use) (name : List ℕ) (gs : List Bool) (v : Val) → Same r m n → way_by_name d aim name gs (nv v) n ≡ nw (way_by_name d aim name gs v m)
  by_name_same {m = m} {n = n} d aim name gs v k =
      ap (λ c. found_way d aim (how_many gs) (nv v) (member_named c.members name) n) (class_value_same r d v k) ∙ found_way_same d aim (how_many gs) v (member_named (class_of_value d v m).members name) k

  indexes_blind : (d : Declarations) (by : ByName) (gs : List Bool) (w : Way) → indexes d by gs (way_named w) ≡ indexes d by gs w
  indexes_blind d by gs (by_variable q) = refl
  indexes_blind d by gs (by_call p property) = refl
  indexes_blind d by gs (by_setter p) = refl

  taken_blind : (d : Declarations) (w : Way) → taken_by_way d (way_named w) ≡ taken_by_way d w
  taken_blind d (by_variable q) = refl
  taken_blind d (by_call p property) = refl
  taken_blind d (by_setter p) = refl

  parameter_blind : (d : Declarations) (by : ByName) (gs : List Bool) (i : ℕ) (x : Option Way) → parameter_by_way d by gs i (nw x) ≡ parameter_by_way d by gs i x
  parameter_blind d by gs i None = refl
  parameter_blind d by gs i (Some w) =
      ap (λ b. if b then None else parameter_of (taken_by_way d (way_named w)) by i) (indexes_blind d by gs w) ∙ ap (λ ps. if indexes d by gs w then None else parameter_of ps by i) (taken_blind d w)

  parameter_same : {m n : Memory} (d : Declarations) (aim : Use) (name : List ℕ) (by : ByName) (gs : List Bool) (i : ℕ) (base : Val) → Same r m n → parameter_for d aim name by gs i (nv base) n ≡ parameter_for d aim name by gs i base m
  parameter_same {m = m} d aim name by gs i base k = ap (parameter_by_way d by gs i) (by_name_same d aim name gs base k) ∙ parameter_blind d by gs i (way_by_name d aim name gs base m)

  tasks_plain : (x : Option Parameter) → tasks_named r (tasks_for x) ≡ tasks_for x
  tasks_plain None = refl
  tasks_plain (Some q) = by_tests q.many (can_be_object q.of) where
    by_tests : (b c : Bool) → tasks_named r (if b then [] else if c then fit_to q.of ∷ [] else as_operand ∷ fit_to q.of ∷ []) ≡ (if b then [] else if c then fit_to q.of ∷ [] else as_operand ∷ fit_to q.of ∷ [])
    by_tests true c = refl
    by_tests false true = refl
    by_tests false false = refl

  arguments_same : {m n : Memory} (d : Declarations) (aim : Use) (name : List ℕ) (by : ByName) (gs : List Bool) (i : ℕ) (base : Val) → Same r m n → argument_tasks d aim name by gs i (nv base) n ≡ tasks_named r (argument_tasks d aim name by gs i base m)
  arguments_same {m = m} {n = n} d aim name by gs i base k =
      ap (λ b. if b then tasks_for (parameter_for d aim name by gs i (nv base) n) else if keeps_object name by i then [] else give_way ∷ []) (instance_same r base k)
      ∙ ap (λ x. if is_instance base m then tasks_for x else if keeps_object name by i then [] else give_way ∷ []) (parameter_same d aim name by gs i base k)
      ∙ by_tests (is_instance base m) (keeps_object name by i)
    where
      by_tests : (b c : Bool) → (if b then tasks_for (parameter_for d aim name by gs i base m) else if c then [] else give_way ∷ []) ≡ tasks_named r (if b then tasks_for (parameter_for d aim name by gs i base m) else if c then [] else give_way ∷ [])
      by_tests true c = sym (tasks_plain (parameter_for d aim name by gs i base m))
      by_tests false true = refl
      by_tests false false = refl

  -- a place is lent
  root_blind : (p : Root) → is_variable_place (root_named r p) ≡ is_variable_place p
  root_blind (in_frame j x) = refl
  root_blind (in_project x) = refl
  root_blind (in_fields o i) = refl
  root_blind (in_block j i) = refl
  root_blind (in_object o) = refl
  root_blind (in_item v) = refl

  takes_blind : (x : Option Parameter) (q : Path) → takes_place x (np q) ≡ takes_place x q
  takes_blind None q = refl
  takes_blind (Some p) q = ap (λ b. p.by_reference && not p.many && is_same_type p.of q.of && b) (root_blind q.root)

  pub lends_same : {m n : Memory} (d : Declarations) (aim : Use) (name : List ℕ) (by : ByName) (gs : List Bool) (i : ℕ) (base : Val) (q : Path) → Same r m n → lends_place d aim name by gs i (nv base) (np q) n ≡ lends_place d aim name by gs i base q m
  lends_same {m = m} {n = n} d aim name by gs i base q k =
      ap (λ b. b && takes_place (parameter_for d aim name by gs i (nv base) n) (np q)) (instance_same r base k)
      ∙ ap (λ x. is_instance base m && takes_place x (np q)) (parameter_same d aim name by gs i base k) ∙ ap (λ b. is_instance base m && b) (takes_blind (parameter_for d aim name by gs i base m) q)

  -- ---- arguments of members of the host

  names_blind : (base : Val) (name : List ℕ) → names_of_member (nv base) name ≡ names_of_member base name
  names_blind (object Nothing) name = refl
  names_blind (object (Heap id)) name = refl
  names_blind (object (Host h)) name = refl
  names_blind base name = refl

  value_given_named : (p : ℕ) (qs : List ℕ) (vs : List Val) → value_given p qs (values_named r vs) ≡ nv (value_given p qs vs)
  value_given_named p [] vs = refl
  value_given_named p (q ∷ qs) [] = refl
  value_given_named p (q ∷ qs) (v ∷ vs) = by_test (nat_eq q p) (value_given_named p qs vs) where
    by_test : (b : Bool) → value_given p qs (values_named r vs) ≡ nv (value_given p qs vs) → (if b then nv v else value_given p qs (values_named r vs)) ≡ nv (if b then v else value_given p qs vs)
    by_test true h = refl
    by_test false h = h

  values_given_named : (p : ℕ) (xs : List (List ℕ)) (qs : List ℕ) (vs : List Val) → values_given p xs qs (values_named r vs) ≡ values_named r (values_given p xs qs vs)
  values_given_named p [] qs vs = refl
  values_given_named p (x ∷ xs) qs vs = ap (λ v. v ∷ values_given (suc p) xs qs (values_named r vs)) (value_given_named p qs vs) ∙ ap (λ ws. nv (value_given p qs vs) ∷ ws) (values_given_named (suc p) xs qs vs)

  pub in_order_named : (base : Val) (name : List ℕ) (by : ByName) (vs : List Val) → in_parameter_order (nv base) name by (values_named r vs) ≡ values_named r (in_parameter_order base name by vs)
  in_order_named base name by vs =
      let xs = names_of_member base name in
      let qs = unwrap_or (parameters_given xs by.before by.names) [] in
      ap (λ ys. take by.before (values_named r vs) ++ values_given by.before (drop by.before ys) (unwrap_or (parameters_given ys by.before by.names) []) (drop by.before (values_named r vs))) (names_blind base name)
      ∙ ap (λ ws. ws ++ values_given by.before (drop by.before xs) qs (drop by.before (values_named r vs))) (take_map nv by.before vs)
      ∙ ap (λ ws. values_named r (take by.before vs) ++ ws) (ap (values_given by.before (drop by.before xs) qs) (drop_map nv by.before vs) ∙ values_given_named by.before (drop by.before xs) qs (drop by.before vs))
      ∙ sym (map-append nv (take by.before vs) (values_given by.before (drop by.before xs) qs (drop by.before vs)))

  pub host_arguments_named : (base : Val) (name : List ℕ) (by : ByName) (xs : List Slot) → host_arguments (nv base) name by (slots_named r xs) ≡ values_named r (host_arguments base name by xs)
  host_arguments_named base name by xs = by_test (has_names by) where
    by_test : (b : Bool) → (if b then in_parameter_order (nv base) name by (slot_values (slots_named r xs)) else slot_values (slots_named r xs)) ≡ values_named r (if b then in_parameter_order base name by (slot_values xs) else slot_values xs)
    by_test true = ap (λ vs. in_parameter_order (nv base) name by vs) (slot_values_named r xs) ∙ in_order_named base name by (slot_values xs)
    by_test false = slot_values_named r xs

  module _ (d : Declarations) (plainness : (p : ℕ) → Plain r (parameters_of d p)) where
    -- ---- a use begins

    what_names : {m n : Memory} (aim : Use) (v : Val) (w : Way) → Same r m n → Names r nn (what_is_indexed d aim v w m) (what_is_indexed d aim (nv v) (way_named w) n)
    what_names reading v (by_variable q) k = read_variable_names r d plainness q k
    what_names assigning v (by_variable q) k = fine r {v = gives empty} refl k
    what_names setting v (by_variable q) k = fine r {v = gives empty} refl k
    what_names reading v (by_call p property) k = fine r {v = then_call p v [] []} refl k
    what_names assigning v (by_call p property) k = fine r {v = then_call p v [] []} refl k
    what_names setting v (by_call p property) k = fine r {v = then_call p v [] []} refl k
    what_names reading v (by_setter p) k = fine r {v = gives empty} refl k
    what_names assigning v (by_setter p) k = fine r {v = gives empty} refl k
    what_names setting v (by_setter p) k = fine r {v = gives empty} refl k

    fit_to_names : {m n : Memory} (ps qs : List Parameter) (by : ByName) (gs : List Bool) → qs ≡ ps → Same r m n
        → Names r nn (on_fine (arguments_fit ps by gs m) (λ u m1. Fine (gives empty) m1)) (on_fine (arguments_fit qs by gs n) (λ u m1. Fine (gives empty) m1))
    fit_to_names {m = m} {n = n} ps qs by gs e k =
        subst (λ xs. Names r nn (on_fine (arguments_fit ps by gs m) (λ u m1. Fine (gives empty) m1)) (on_fine (arguments_fit xs by gs n) (λ u m1. Fine (gives empty) m1))) (sym e)
        (then_named r {x = λ u m1. Fine (gives empty) m1} (λ u m1. Fine (gives empty) m1) (fit_names ps by gs k) (λ u m1 n1 k1. fine r {v = gives empty} refl k1))

    way_there_names : {m n : Memory} (aim : Use) (by : ByName) (gs : List Bool) (v : Val) (w : Way) → Same r m n → Names r nn (way_there d aim by gs v w m) (way_there d aim by gs (nv v) (way_named w) n)
    way_there_names aim by gs v w k =
        both_by r (indexes d by gs w) _ (indexes_blind d by gs w) (what_names aim v w k) (fit_to_names (taken_by_way d w) (taken_by_way d (way_named w)) by gs (taken_blind d w) k)

    -- the way that a name finds
    way_or_names : {m n : Memory} (x y : Option Way) → y ≡ nw x → Same r m n → Names r way_named (found_or 438 x m) (found_or 438 y n)
    way_or_names {m = m} {n = n} x y e k = subst (λ z. Names r way_named (found_or 438 x m) (found_or 438 z n)) (sym e) (by_way x) where
      by_way : (z : Option Way) → Names r way_named (found_or 438 z m) (found_or 438 (nw z) n)
      by_way None = bad r 438 k
      by_way (Some w) = fine r refl k

    found_names : {m n : Memory} (aim : Use) (name : List ℕ) (gs : List Bool) (v : Val) → Same r m n
        → Names r way_named (found_or 438 (way_by_name d aim name gs v m) m) (found_or 438 (way_by_name d aim name gs (nv v) n) n)
    found_names {m = m} {n = n} aim name gs v k = way_or_names (way_by_name d aim name gs v m) (way_by_name d aim name gs (nv v) n) (by_name_same d aim name gs v k) k

    member_of_names : {m n : Memory} (aim : Use) (name : List ℕ) (by : ByName) (gs : List Bool) (v : Val) → Same r m n → Names r nn (member_there_of d aim name by gs v m) (member_there_of d aim name by gs (nv v) n)
    member_of_names aim name by gs v k = then_named r _ (found_names aim name gs v k) (λ w m1 n1 k1. way_there_names aim by gs v w k1)

    host_read_names : {m n : Memory} (name : List ℕ) (by : ByName) (gs : List Bool) (v : Val) → Same r m n
        → Names r nn (if has_names by then over_with (named_there name by (how_many gs) v m) else over_with (member_there d name (how_many gs) v m))
        (if has_names by then over_with (named_there name by (how_many gs) (nv v) n) else over_with (member_there d name (how_many gs) (nv v) n))
    host_read_names name by gs v k = both r (has_names by) (over_names r (named_there_names r name by (how_many gs) v k)) (over_names r (member_there_names r d name (how_many gs) v k))

    host_there_names : {m n : Memory} (aim : Use) (name : List ℕ) (by : ByName) (gs : List Bool) (v : Val) → Same r m n → Names r nn (host_there d aim name by gs v m) (host_there d aim name by gs (nv v) n)
    host_there_names reading name by gs v k = host_read_names name by gs v k
    host_there_names assigning name by gs v k = host_read_names name by gs v k
    host_there_names setting name by gs v k = nothing_names r (member_not_set_names r v k)

    pub late_there_names : {m n : Memory} (aim : Use) (name : List ℕ) (by : ByName) (gs : List Bool) (v : Val) → Same r m n → Names r nn (late_there d aim name by gs v m) (late_there d aim name by gs (nv v) n)
    late_there_names {m = m} aim name by gs v k = both_by r (is_instance v m) _ (instance_same r v k) (member_of_names aim name by gs v k) (host_there_names aim name by gs v k)

    -- ---- arguments as their parameters take them

    tasks_to : {m n : Memory} (ts us : List Task) (v : Val) → us ≡ tasks_named r ts → Same r m n → Names r nn (tasks_next d ts v m) (tasks_next d us (nv v) n)
    tasks_to {m = m} {n = n} ts us v e k = subst (λ xs. Names r nn (tasks_next d ts v m) (tasks_next d xs (nv v) n)) (sym e) (tasks_names r d plainness ts v k)

    bound_names : {m n : Memory} (aim : Use) (name : List ℕ) (by : ByName) (gs : List Bool) (i : ℕ) (base v : Val) → Same r m n
        → Names r nn (tasks_next d (argument_tasks d aim name by gs i base m) v m) (tasks_next d (argument_tasks d aim name by gs i (nv base) n) (nv v) n)
    bound_names {m = m} {n = n} aim name by gs i base v k =
        tasks_to (argument_tasks d aim name by gs i base m) (argument_tasks d aim name by gs i (nv base) n) v (arguments_same d aim name by gs i base k) k

    pub value_bound_names : {m n : Memory} (aim : Use) (name : List ℕ) (by : ByName) (gs : List Bool) (i : ℕ) (base v : Val) → Same r m n → Names r nn (value_bound d aim name by gs i base v m) (value_bound d aim name by gs i (nv base) (nv v) n)
    value_bound_names aim name by gs i base missing k = fine r {v = gives missing} refl k
    value_bound_names aim name by gs i base (object o) k = bound_names aim name by gs i base (object o) k
    value_bound_names aim name by gs i base v k = bound_names aim name by gs i base v k

    use_to : (ts us : List Task) {e g : Effect Next} → us ≡ tasks_named r ts → Names r nn e g → Names r nn (use_then d ts e) (use_then d us g)
    use_to ts us {e = e} {g = g} h a = subst (λ xs. Names r nn (use_then d ts e) (use_then d xs g)) (sym h) (use_then_names r d plainness ts a)

    pub place_copied_names : {m n : Memory} (aim : Use) (name : List ℕ) (by : ByName) (gs : List Bool) (i : ℕ) (base : Val) (q : Path) → Same r m n → Names r nn (place_copied d aim name by gs i base q m) (place_copied d aim name by gs i (nv base) (np q) n)
    place_copied_names {m = m} {n = n} aim name by gs i base q k =
        use_to (argument_tasks d aim name by gs i base m) (argument_tasks d aim name by gs i (nv base) n) (arguments_same d aim name by gs i base k) (read_variable_names r d plainness q k)

    -- ---- a member is read or called

    arranged_call : {m n : Memory} (p : ℕ) (base : Val) (qs : List Parameter) (by : ByName) (xs : List Slot) (ts : List Task) → Plain r qs → Same r m n
        → Names r nn (Fine (then_call p base (arranged qs by xs) ts) m) (Fine (then_call p (nv base) (arranged qs by (slots_named r xs)) (tasks_named r ts)) n)
    arranged_call p base qs by xs ts h k = fine r (ap (λ ys. then_call p (nv base) ys (tasks_named r ts)) (arranged_named qs by xs h)) k

    index_slots : {m n : Memory} (xs : List Slot) (v : Val) → Same r m n → Names r nn (index_along d most_passed (slot_values xs) v m) (index_along d most_passed (slot_values (slots_named r xs)) (nv v) n)
    index_slots {m = m} {n = n} xs v k =
        subst (λ vs. Names r nn (index_along d most_passed (slot_values xs) v m) (index_along d most_passed vs (nv v) n)) (sym (slot_values_named r xs)) (index_along_names r d plainness most_passed (slot_values xs) v k)

    call_way_names : {m n : Memory} (by : ByName) (gs : List Bool) (base begun : Val) (xs : List Slot) (w : Way) → Same r m n → Names r nn (call_way d by gs base begun xs w m) (call_way d by gs (nv base) (nv begun) (slots_named r xs) (way_named w) n)
    call_way_names by gs base begun xs (by_variable q) k = both r (indexes d by gs (by_variable q)) (index_slots xs begun k) (read_variable_names r d plainness q k)
    call_way_names by gs base begun xs (by_call p property) k = both r (indexes d by gs (by_call p property)) (index_slots xs begun k) (arranged_call p base (parameters_of d p) by xs [] (plainness p) k)
    call_way_names by gs base begun xs (by_setter p) k = both r (indexes d by gs (by_setter p)) (index_slots xs begun k) (bad r 438 k)

    pub late_called_names : {m n : Memory} (name : List ℕ) (by : ByName) (gs : List Bool) (base begun : Val) (xs : List Slot) → Same r m n
        → Names r nn (late_called d name by gs base begun xs m) (late_called d name by gs (nv base) (nv begun) (slots_named r xs) n)
    late_called_names name by gs base begun xs k = then_named r _ (found_names reading name gs base k) (λ w m1 n1 k1. call_way_names by gs base begun xs w k1)

    -- ---- a member is assigned to

    pub let_element_names : {m n : Memory} (q : Path) (vs : List Val) (v : Val) → Same r m n → Names r nn (let_element d q vs v m) (let_element d (np q) (values_named r vs) (nv v) n)
    let_element_names q vs v k =
        in_place_names r d plainness q vs (λ p m1. let_at d p v m1) (λ p m1. let_at d p (nv v) m1) (let_item most_passed vs v) (λ w m1. let_along d most_passed vs v w m1) (λ w m1. let_along d most_passed (values_named r vs) (nv v) w m1)
        (λ p a b s. let_at_names r d plainness p v s) (λ w a b s. let_along_names r d plainness most_passed vs v w s) k

    let_indexed_names : {m n : Memory} (begun : Val) (vs : List Val) (v : Val) (w : Way) → Same r m n → Names r nn (let_indexed d begun vs v w m) (let_indexed d (nv begun) (values_named r vs) (nv v) (way_named w) n)
    let_indexed_names begun vs v (by_variable q) k = let_element_names q vs v k
    let_indexed_names begun vs v (by_call p property) k = let_along_names r d plainness most_passed vs v begun k
    let_indexed_names begun vs v (by_setter p) k = let_along_names r d plainness most_passed vs v begun k

    let_slots : {m n : Memory} (begun : Val) (xs : List Slot) (v : Val) (w : Way) → Same r m n → Names r nn (let_indexed d begun (slot_values xs) v w m) (let_indexed d (nv begun) (slot_values (slots_named r xs)) (nv v) (way_named w) n)
    let_slots {m = m} {n = n} begun xs v w k =
        subst (λ vs. Names r nn (let_indexed d begun (slot_values xs) v w m) (let_indexed d (nv begun) vs (nv v) (way_named w) n)) (sym (slot_values_named r xs)) (let_indexed_names begun (slot_values xs) v w k)

    put_arranged : {m n : Memory} (p : ℕ) (base : Val) (qs : List Parameter) (by : ByName) (xs : List Slot) (v : Val) → Plain r qs → Same r m n
        → Names r nn (put d (by_let p base (arranged qs by xs)) v m) (put d (by_let p (nv base) (arranged qs by (slots_named r xs))) (nv v) n)
    put_arranged {m = m} {n = n} p base qs by xs v h k =
        subst (λ ys. Names r nn (put d (by_let p base (arranged qs by xs)) v m) (put d (by_let p (nv base) ys) (nv v) n)) (sym (arranged_named qs by xs h)) (put_names r d plainness (by_let p base (arranged qs by xs)) v k)

    let_plain_names : {m n : Memory} (by : ByName) (base : Val) (xs : List Slot) (v : Val) (w : Way) → Same r m n → Names r nn (let_plain d by base xs v w m) (let_plain d by (nv base) (slots_named r xs) (nv v) (way_named w) n)
    let_plain_names by base xs v (by_variable q) k = let_at_names r d plainness q v k
    let_plain_names by base xs v (by_call p property) k = arranged_call p base (parameters_of d p) by xs (write most_passed v ∷ []) (plainness p) k
    let_plain_names by base xs v (by_setter p) k = put_arranged p base (without_last (parameters_of d p)) by xs v (plain_last r (parameters_of d p) (plainness p)) k

    let_way_names : {m n : Memory} (by : ByName) (gs : List Bool) (base begun : Val) (xs : List Slot) (v : Val) (w : Way) → Same r m n → Names r nn (let_way d by gs base begun xs v w m) (let_way d by gs (nv base) (nv begun) (slots_named r xs) (nv v) (way_named w) n)
    let_way_names by gs base begun xs v w k = both_by r (indexes d by gs w) _ (indexes_blind d by gs w) (let_slots begun xs v w k) (let_plain_names by base xs v w k)

    item_let_names : {m n : Memory} (o : ℕ) (x : CollectionMember) (vs : List Val) (v : Val) → Same r m n → Names r nn (item_let d o x vs v m) (item_let d (r o) x (values_named r vs) (nv v) n)
    item_let_names o is_item vs v k = written_on r d plainness v (over_names r (item_found_names r o vs k))
    item_let_names o x vs v k = bad r 438 k

    item_to : {m n : Memory} (o : ℕ) (x : CollectionMember) (vs : List Val) (v : Val) → Same r m n → Names r nn (item_let d o x (as_given vs) v m) (item_let d (r o) x (as_given (values_named r vs)) (nv v) n)
    item_to {m = m} {n = n} o x vs v k = subst (λ ws. Names r nn (item_let d o x (as_given vs) v m) (item_let d (r o) x ws (nv v) n)) (sym (given_named r vs)) (item_let_names o x (as_given vs) v k)

    host_value_names : {m n : Memory} (name : List ℕ) (vs : List Val) (base begun v : Val) → Same r m n
        → Names r nn (if is_instance v m then put d (in_member name vs base begun) v m else nothing_more (member_assigned d name vs base begun v m))
        (if is_instance (nv v) n then put d (in_member name (values_named r vs) (nv base) (nv begun)) (nv v) n else nothing_more (member_assigned d name (values_named r vs) (nv base) (nv begun) (nv v) n))
    host_value_names {m = m} name vs base begun v k =
        both_by r (is_instance v m) _ (instance_same r v k) (put_names r d plainness (in_member name vs base begun) v k) (nothing_names r (member_assigned_names r d name vs base begun v k))

    host_let_names : {m n : Memory} (name : List ℕ) (vs : List Val) (base begun v : Val) → Same r m n → Names r nn (host_let d name vs base begun v m) (host_let d name (values_named r vs) (nv base) (nv begun) (nv v) n)
    host_let_names name vs (object (Heap id)) begun v k = then_named r _ (collection_member_names r id.0 name k) (λ x m1 n1 k1. item_to id.0 x vs v k1)
    host_let_names name vs (object Nothing) begun v k = host_value_names name vs (object Nothing) begun v k
    host_let_names name vs (object (Host h)) begun v k = host_value_names name vs (object (Host h)) begun v k
    host_let_names name vs base begun v k = host_value_names name vs base begun v k

    host_slots : {m n : Memory} (name : List ℕ) (by : ByName) (base begun : Val) (xs : List Slot) (v : Val) → Same r m n
        → Names r nn (host_let d name (host_arguments base name by xs) base begun v m) (host_let d name (host_arguments (nv base) name by (slots_named r xs)) (nv base) (nv begun) (nv v) n)
    host_slots {m = m} {n = n} name by base begun xs v k =
        subst (λ vs. Names r nn (host_let d name (host_arguments base name by xs) base begun v m) (host_let d name vs (nv base) (nv begun) (nv v) n)) (sym (host_arguments_named base name by xs))
        (host_let_names name (host_arguments base name by xs) base begun v k)

    pub late_let_names : {m n : Memory} (name : List ℕ) (by : ByName) (gs : List Bool) (base begun : Val) (xs : List Slot) (v : Val) → Same r m n
        → Names r nn (late_let d name by gs base begun xs v m) (late_let d name by gs (nv base) (nv begun) (slots_named r xs) (nv v) n)
    late_let_names {m = m} name by gs base begun xs v k =
        both_by r (is_instance base m) _ (instance_same r base k) (then_named r _ (found_names assigning name gs base k) (λ w m1 n1 k1. let_way_names by gs base begun xs v w k1)) (host_slots name by base begun xs v k)

    -- ---- a member is set

    pub element_set_names : {m n : Memory} (q : Path) (vs : List Val) (v : Val) → Same r m n → Names r nn (element_set d q vs v m) (element_set d (np q) (values_named r vs) (nv v) n)
    element_set_names q vs v k =
        in_place_names r d plainness q vs (λ p m1. nothing_more (set_at p v m1)) (λ p m1. nothing_more (set_at p (nv v) m1)) (set_item most_passed vs v) (λ w m1. set_along d most_passed vs v w m1) (λ w m1. set_along d most_passed (values_named r vs) (nv v) w m1)
        (λ p a b s. nothing_names r (set_at_names r p v s)) (λ w a b s. set_along_names r d plainness most_passed vs v w s) k

    set_slots : {m n : Memory} (q : Path) (xs : List Slot) (v : Val) → Same r m n → Names r nn (element_set d q (slot_values xs) v m) (element_set d (np q) (slot_values (slots_named r xs)) (nv v) n)
    set_slots {m = m} {n = n} q xs v k =
        subst (λ vs. Names r nn (element_set d q (slot_values xs) v m) (element_set d (np q) vs (nv v) n)) (sym (slot_values_named r xs)) (element_set_names q (slot_values xs) v k)

    set_along_slots : {m n : Memory} (xs : List Slot) (v w : Val) → Same r m n → Names r nn (set_along d most_passed (slot_values xs) v w m) (set_along d most_passed (slot_values (slots_named r xs)) (nv v) (nv w) n)
    set_along_slots {m = m} {n = n} xs v w k =
        subst (λ vs. Names r nn (set_along d most_passed (slot_values xs) v w m) (set_along d most_passed vs (nv v) (nv w) n)) (sym (slot_values_named r xs)) (set_along_names r d plainness most_passed (slot_values xs) v w k)

    setter_named : (p : ℕ) (base : Val) (qs : List Parameter) (by : ByName) (xs : List Slot) (w : Val) → Plain r qs
        → then_call p (nv base) (arranged qs by (slots_named r xs) ++ value (nv w) ∷ []) [] ≡ nn (then_call p base (arranged qs by xs ++ value w ∷ []) [])
    setter_named p base qs by xs w h =
        ap (λ ys. then_call p (nv base) (ys ++ value (nv w) ∷ []) []) (arranged_named qs by xs h) ∙ ap (λ ys. then_call p (nv base) ys []) (sym (map-append (λ x. slot_named r x) (arranged qs by xs) (value w ∷ [])))

    set_way_names : {m n : Memory} (by : ByName) (gs : List Bool) (base begun : Val) (xs : List Slot) (v : Val) (w : Way) → Same r m n → Names r nn (set_way d by gs base begun xs v w m) (set_way d by gs (nv base) (nv begun) (slots_named r xs) (nv v) (way_named w) n)
    set_way_names by gs base begun xs v (by_variable q) k = both r (indexes d by gs (by_variable q)) (set_slots q xs v k) (nothing_names r (set_at_names r q v k))
    set_way_names by gs base begun xs v (by_setter p) k =
        then_named r _ (set_object_names r (last_type (parameters_of d p)) v k) (λ w m1 n1 k1. fine r (setter_named p base (without_last (parameters_of d p)) by xs w (plain_last r (parameters_of d p) (plainness p))) k1)
    set_way_names by gs base begun xs v (by_call p property) k = both r (indexes d by gs (by_call p property)) (set_along_slots xs v begun k) (bad r 438 k)

    pub late_set_names : {m n : Memory} (name : List ℕ) (by : ByName) (gs : List Bool) (base begun : Val) (xs : List Slot) (v : Val) → Same r m n
        → Names r nn (late_set d name by gs base begun xs v m) (late_set d name by gs (nv base) (nv begun) (slots_named r xs) (nv v) n)
    late_set_names {m = m} name by gs base begun xs v k =
        both_by r (is_instance base m) _ (instance_same r base k) (then_named r _ (found_names setting name gs base k) (λ w m1 n1 k1. set_way_names by gs base begun xs v w k1)) (nothing_names r (member_not_set_names r base k))
