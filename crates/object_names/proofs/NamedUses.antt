-- Uses of objects along default members under other names.
use Rattle.std.proofs.Common.{◌≡◌, ℕ, zero, suc, List, [], ◌∷◌, length, map, Option, Some, None, pos, refl, sym, ap, ◌∙◌, subst}
use Rattle.std.specs.Prelude.{◌&&◌, ◌||◌, not, ◌-ℤ◌, if◌then◌else◌, option_map}
use Rattle.std.proofs.lemmas.List.{map-append, length-map}
use Rattle.vba_values.specs.declared.object.ObjRef.TheVariants.{Nothing, Heap, Host}
use Rattle.vba_values.specs.Types.{Declared}
use Rattle.vba_values.specs.Types as type
use Rattle.vba_values.specs.Val.{Val, missing, empty, object, array, udt, vals_of}
use Rattle.bound_project.specs.Project.{Declarations, Parameter, Member, is_variable, is_procedure, is_property, procedure_at}
use Rattle.vba_meaning.specs.Paths.{Root, in_frame, in_project, in_fields, in_block, in_object, in_item, Path}
use Rattle.vba_meaning.specs.Memory.{Slot, value, path, Memory, value_at}
use Rattle.vba_meaning.specs.Effects.{Effect, Fine, Bad-at, on_fine, done, set_object, slot_value, slot_values, packed, slot_left_out}
use Rattle.vba_meaning.specs.Objects.{initialize_of, set_at}
use Rattle.vba_meaning.specs.Collections.{is_given}
use Rattle.vba_meaning.specs.Host.{is_counted, item_by}
use Rattle.bound_project.specs.Parameters.{parameters_of, must_be_given, any_must, without_last, last_type, has_parameters}
use Rattle.vba_meaning.specs.Defaults.{Spot, in_variable, by_let, in_range, in_member, Task, as_operand, no_object, give_way, walked, fit_to, index_by, write, let_item, set_item, put_in, read_made, Next, gives, then_call, over_with, goes_by, after_use, is_instance, class_of_value, variable_of, is_object_type, can_be_object, is_sub_kind, has_default_alone, read_by, read_made_by, read_variable, read_member, read_default, no_object_here, counted_operand, counted_if_any, operand_of, given_to, any_given, too_many, too_few, slot_given, slots_in, slots_from, index_default, index_member, index_once, index_along, is_variable_place, is_array, has_array, element_by, item_along, in_place, leads_on, takes_itself, nothing_more, put_value, put, takes_value, write_host, write_variable, write_default, write_member, write_once, write_along, let_at, reader_of, let_called_with, let_by_reader, let_setter, let_default, let_member, let_item_of, let_once, let_along, set_called_with, set_by_reader, setter_of, set_default, set_by_member, element_of, set_item_of, set_once, set_along, has_items, collection_here, enumerator_of, most_passed, task_next, followed, tasks_next, use_then}
use Rattle.object_names.specs.Names.{value_named, values_named, root_named, path_named, slot_named, slots_named, spot_named, task_named, tasks_named, next_named}
use Rattle.object_names.specs.Renamed.{Same}
use Rattle.object_names.proofs.NamedValues.{vals_of_named}
use Rattle.object_names.proofs.NamedMemory.{instance_named, class_value_named, variable_named}
use Rattle.object_names.proofs.Named.{plainly, Names, fine, bad, then_named, both, both_by}
use Rattle.object_names.proofs.NamedVariables.{value_at_same, collection_same, set_object_names, fitted_names, plain_names, read_path_names, assigned_names, set_at_names}
use Rattle.object_names.proofs.NamedArrays.{element_at_names}
use Rattle.object_names.proofs.NamedHosts.{plains_names, item_names}
use Rattle.object_names.proofs.NamedMembers.{written_default_names}
use Rattle.object_names.proofs.NamedObjects.{made_for_names, stored_made_names, member_assigned_names}

module _ (r : ℕ → ℕ) where
  abbrev nv : Val → Val
  nv v = value_named r v

  abbrev np : Path → Path
  np p = path_named r p

  abbrev nn : Next → Next
  nn x = next_named r x

  -- what parameters have to which nothing is given is the same under all names
  abbrev pub Plain : List Parameter → Type 0
  Plain [] = Unit {0}
  Plain (q ∷ qs) = (slot_named r (slot_left_out q) ≡ slot_left_out q) × Plain qs

  pub left_named : (qs : List Parameter) → Plain qs → slots_named r (map slot_left_out qs) ≡ map slot_left_out qs
  left_named [] h = refl
  left_named (q ∷ qs) h = ap (λ x. x ∷ slots_named r (map slot_left_out qs)) h.0 ∙ ap (λ xs. slot_left_out q ∷ xs) (left_named qs h.1)

  pub plain_last : (qs : List Parameter) → Plain qs → Plain (without_last qs)
  plain_last [] h = tt
  plain_last (q ∷ []) h = tt
  plain_last (q ∷ p ∷ qs) h = (h.0, plain_last (p ∷ qs) h.1)

  -- ---- one after another

  pub over_names : {e g : Effect Val} → Names r nv e g → Names r nn (over_with e) (over_with g)
  over_names a = then_named r _ a (λ v m n k. fine r refl k)

  pub nothing_names : {e g : Effect (Unit {0})} → Names r plainly e g → Names r nn (nothing_more e) (nothing_more g)
  nothing_names a = then_named r {x = λ u m. Fine (gives empty) m} (λ u m. Fine (gives empty) m) a (λ u m n k. fine r {v = gives empty} refl k)

  goes_names : {m n : Memory} (t : Task) (f g : Val → Memory → Effect Next) (x : Next) → Same r m n → ((v : Val) → Names r nn (f v m) (g (nv v) n)) → Names r nn (goes_by t f x m) (goes_by (task_named r t) g (nn x) n)
  goes_names t f g (gives v) k h = h v
  goes_names t f g (then_call p self xs ts) k h = fine r (ap (λ us. then_call p (nv self) (slots_named r xs) us) (sym (map-append (λ u. task_named r u) ts (t ∷ [])))) k

  pub after_names : {e c : Effect Next} (t : Task) {f : Val → Memory → Effect Next} (g : Val → Memory → Effect Next) → Names r nn e c → ((v : Val) (m n : Memory) → Same r m n → Names r nn (f v m) (g (nv v) n))
      → Names r nn (after_use e t f) (after_use c (task_named r t) g)
  after_names t {f = f} g a h = then_named r _ a (λ x m n k. goes_names t f g x k (λ v. h v m n k))

  -- ---- objects

  pub instance_same : {m n : Memory} (v : Val) → Same r m n → is_instance (nv v) n ≡ is_instance v m
  instance_same {m = m} v k = ap (λ x. is_instance (nv v) x) k.is ∙ instance_named r m k.objects k.fit.matches v

  pub class_value_same : {m n : Memory} (d : Declarations) (v : Val) → Same r m n → class_of_value d (nv v) n ≡ class_of_value d v m
  class_value_same {m = m} d v k = ap (λ x. class_of_value d (nv v) x) k.is ∙ class_value_named r m k.objects k.fit.matches d v

  pub variable_same : {m n : Memory} (d : Declarations) (v : Val) (i : ℕ) (makes : Option ℕ) → Same r m n → variable_of d (nv v) i makes n ≡ np (variable_of d v i makes m)
  variable_same {m = m} d v i makes k = ap (λ x. variable_of d (nv v) i makes x) k.is ∙ variable_named r m k.objects k.fit.matches d v i makes

  counted_blind : (v : Val) → is_counted (nv v) ≡ is_counted v
  counted_blind (object Nothing) = refl
  counted_blind (object (Heap id)) = refl
  counted_blind (object (Host h)) = refl
  counted_blind v = refl

  initialize_blind : (d : Declarations) (q : Path) (v : Val) → initialize_of d (np q) (nv v) ≡ initialize_of d q v
  initialize_blind d q empty = refl
  initialize_blind d q (object o) = refl
  initialize_blind d q v = refl

  slot_value_named : (x : Slot) → slot_value (slot_named r x) ≡ nv (slot_value x)
  slot_value_named (value v) = refl
  slot_value_named (path p) = refl

  pub slot_values_named : (xs : List Slot) → slot_values (slots_named r xs) ≡ values_named r (slot_values xs)
  slot_values_named [] = refl
  slot_values_named (x ∷ xs) = ap (λ v. v ∷ slot_values (slots_named r xs)) (slot_value_named x) ∙ ap (λ vs. nv (slot_value x) ∷ vs) (slot_values_named xs)

  pub packed_named : (xs : List Slot) → packed (slots_named r xs) ≡ nv (packed xs)
  packed_named xs =
      ap (λ j. array (record { low = pos 0; high = pos j -ℤ pos 1 } ∷ []) type.variant (vals_of (slot_values (slots_named r xs)))) (length-map xs (slot_named r))
      ∙ ap (λ vs. array (record { low = pos 0; high = pos (length xs) -ℤ pos 1 } ∷ []) type.variant vs) (ap (λ vs. vals_of vs) (slot_values_named xs) ∙ vals_of_named r (slot_values xs))

  module _ (d : Declarations) (plainness : (p : ℕ) → Plain (parameters_of d p)) where
    -- ---- a member is read

    call_left : {m n : Memory} (p : ℕ) (self : Val) (qs : List Parameter) → Plain qs → Same r m n → Names r nn (Fine (then_call p self (map slot_left_out qs) []) m) (Fine (then_call p (nv self) (map slot_left_out qs) []) n)
    call_left p self qs h k = fine r (ap (λ xs. then_call p (nv self) xs []) (sym (left_named qs h))) k

    read_by_names : {m n : Memory} (p : ℕ) (self : Val) → Same r m n → Names r nn (read_by d p self m) (read_by d p (nv self) n)
    read_by_names p self k = both r (any_must (parameters_of d p)) (bad r 449 k) (call_left p self (parameters_of d p) (plainness p) k)

    read_made_names : {m n : Memory} (q : Path) (v : Val) (o : Option ℕ) → Same r m n → Names r nn (read_made_by q v o m) (read_made_by (np q) (nv v) o n)
    read_made_names q v None k = then_named r _ (stored_made_names r q v k) (λ u m1 n1 k1. over_names (read_path_names r q k1))
    read_made_names q v (Some p) k = fine r refl k

    read_made_to : {m n : Memory} (q : Path) (v : Val) (o p : Option ℕ) → p ≡ o → Same r m n → Names r nn (read_made_by q v o m) (read_made_by (np q) (nv v) p n)
    read_made_to {m = m} {n = n} q v o p e k = subst (λ x. Names r nn (read_made_by q v o m) (read_made_by (np q) (nv v) x n)) (sym e) (read_made_names q v o k)

    pub read_variable_names : {m n : Memory} (q : Path) → Same r m n → Names r nn (read_variable d q m) (read_variable d (np q) n)
    read_variable_names q k = then_named r _ (made_for_names r d q k) (λ v m1 n1 k1. read_made_to q v (initialize_of d q v) (initialize_of d (np q) (nv v)) (initialize_blind d q v) k1)

    read_to : {m n : Memory} (q p : Path) → p ≡ np q → Same r m n → Names r nn (read_variable d q m) (read_variable d p n)
    read_to {m = m} {n = n} q p e k = subst (λ x. Names r nn (read_variable d q m) (read_variable d x n)) (sym e) (read_variable_names q k)

    pub read_member_names : {m n : Memory} (v : Val) (x : Member) → Same r m n → Names r nn (read_member d v x m) (read_member d (nv v) x n)
    read_member_names {m = m} {n = n} v (is_variable i makes) k = read_to (variable_of d v i makes m) (variable_of d (nv v) i makes n) (variable_same d v i makes k) k
    read_member_names v (is_procedure p) k = read_by_names p v k
    read_member_names v (is_property (Some p) lets sets) k = read_by_names p v k
    read_member_names v (is_property None lets sets) k = bad r 438 k

    read_default_names : {m n : Memory} (v : Val) (x : Option Member) → Same r m n → Names r nn (read_default d v x m) (read_default d (nv v) x n)
    read_default_names v None k = bad r 438 k
    read_default_names v (Some x) k = read_member_names v x k

    read_default_to : {m n : Memory} (v : Val) (x y : Option Member) → y ≡ x → Same r m n → Names r nn (read_default d v x m) (read_default d (nv v) y n)
    read_default_to {m = m} {n = n} v x y e k = subst (λ z. Names r nn (read_default d v x m) (read_default d (nv v) z n)) (sym e) (read_default_names v x k)

    default_same : {m n : Memory} (v : Val) → Same r m n → (class_of_value d (nv v) n).default ≡ (class_of_value d v m).default
    default_same v k = ap (λ c. c.default) (class_value_same d v k)

    -- ---- operands

    no_object_names : {m n : Memory} (v : Val) → Same r m n → Names r nn (no_object_here v m) (no_object_here (nv v) n)
    no_object_names (object o) k = bad r 438 k
    no_object_names v k = fine r refl k

    pub counted_operand_names : {m n : Memory} (v : Val) → Same r m n → Names r nn (counted_operand d v m) (counted_operand d (nv v) n)
    counted_operand_names {m = m} {n = n} v k =
        both_by r (is_instance v m) _ (instance_same v k) (after_names no_object _ (read_default_to v (class_of_value d v m).default (class_of_value d (nv v) n).default (default_same v k) k) (λ w m1 n1 k1. no_object_names w k1)) (bad r 449 k)

    pub counted_if_any_names : {m n : Memory} (v : Val) → Same r m n → Names r nn (counted_if_any d v m) (counted_if_any d (nv v) n)
    counted_if_any_names {m = m} {n = n} v k =
        both_by r (is_instance v m && has_default_alone d (class_of_value d v m).default) _
        (ap (λ b. b && has_default_alone d (class_of_value d (nv v) n).default) (instance_same v k) ∙ ap (λ x. is_instance v m && has_default_alone d x) (default_same v k))
        (read_default_to v (class_of_value d v m).default (class_of_value d (nv v) n).default (default_same v k) k) (fine r refl k)

    operand_names : {m n : Memory} (v : Val) → Same r m n → Names r nn (operand_of d v m) (operand_of d (nv v) n)
    operand_names v k = both_by r (is_counted v) _ (counted_blind v) (counted_operand_names v k) (over_names (plain_names r v k))

    -- ---- arguments that index

    given_to_names : {m n : Memory} (of : Declared) (v : Val) → Same r m n → Names r nv (given_to of v m) (given_to of (nv v) n)
    given_to_names of v k = both r (can_be_object of) (fitted_names r of v k) (then_named r _ (plain_names r v k) (λ w m1 n1 k1. fitted_names r of w k1))

    given_blind : (v : Val) → is_given (nv v) ≡ is_given v
    given_blind (object o) = refl
    given_blind v = refl

    any_blind : (vs : List Val) → any_given (values_named r vs) ≡ any_given vs
    any_blind [] = refl
    any_blind (v ∷ vs) = ap (λ b. b || any_given (values_named r vs)) (given_blind v) ∙ ap (λ b. is_given v || b) (any_blind vs)

    many_blind : (qs : List Parameter) (vs : List Val) → too_many qs (values_named r vs) ≡ too_many qs vs
    many_blind [] vs = any_blind vs
    many_blind (q ∷ qs) [] = refl
    many_blind (q ∷ qs) (v ∷ vs) = ap (λ b. not q.many && b) (many_blind qs vs)

    few_blind : (qs : List Parameter) (vs : List Val) → too_few qs (values_named r vs) ≡ too_few qs vs
    few_blind [] vs = refl
    few_blind (q ∷ qs) [] = refl
    few_blind (q ∷ qs) (v ∷ vs) = ap (λ b. (must_be_given q && not b) || too_few qs (values_named r vs)) (given_blind v) ∙ ap (λ b. (must_be_given q && not (is_given v)) || b) (few_blind qs vs)

    slot_by : {m n : Memory} (q : Parameter) (v : Val) → Same r m n → Names r (slot_named r) (on_fine (given_to q.of v m) (λ w m1. Fine (value w) m1)) (on_fine (given_to q.of (nv v) n) (λ w m1. Fine (value w) m1))
    slot_by q v k = then_named r _ (given_to_names q.of v k) (λ w m1 n1 k1. fine r refl k1)

    slot_given_names : {m n : Memory} (q : Parameter) (v : Val) → slot_named r (slot_left_out q) ≡ slot_left_out q → Same r m n → Names r (slot_named r) (slot_given q v m) (slot_given q (nv v) n)
    slot_given_names q missing h k = fine r (sym h) k
    slot_given_names q (object o) h k = slot_by q (object o) k
    slot_given_names q v h k = slot_by q v k

    map_values : (vs : List Val) → map value (values_named r vs) ≡ slots_named r (map value vs)
    map_values [] = refl
    map_values (v ∷ vs) = ap (λ xs. value (nv v) ∷ xs) (map_values vs)

    slots_in_names : {m n : Memory} (qs : List Parameter) (vs : List Val) → Plain qs → Same r m n → Names r (slots_named r) (slots_in qs vs m) (slots_in qs (values_named r vs) n)
    slots_in_names [] vs h k = fine r refl k
    slots_in_names (q ∷ qs) [] h k = then_named r _ (slots_in_names qs [] h.1 k) (λ xs m1 n1 k1. fine r (ap (λ x. x ∷ slots_named r xs) (sym h.0)) k1)
    slots_in_names (q ∷ qs) (v ∷ vs) h k =
        both r q.many (fine r (ap (λ w. value w ∷ []) (ap packed (map_values (v ∷ vs)) ∙ packed_named (map value (v ∷ vs)))) k)
        (then_named r _ (slot_given_names q v h.0 k) (λ x m1 n1 k1. then_named r _ (slots_in_names qs vs h.1 k1) (λ xs m2 n2 k2. fine r refl k2)))

    pub slots_names : {m n : Memory} (qs : List Parameter) (vs : List Val) → Plain qs → Same r m n → Names r (slots_named r) (slots_from qs vs m) (slots_from qs (values_named r vs) n)
    slots_names qs vs h k = both_by r (too_many qs vs) _ (many_blind qs vs) (bad r 450 k) (both_by r (too_few qs vs) _ (few_blind qs vs) (bad r 449 k) (slots_in_names qs vs h k))

    -- of what passes a default member
    abbrev Passes : Memory → Memory → (Member → Memory → Effect Next) → (Member → Memory → Effect Next) → Type 0
    Passes m n f g = (x : Member) → Names r nn (f x m) (g x n)

    taken_or_passed : {m n : Memory} (p : ℕ) (w : Val) (vs : List Val) (x : Member) (f g : Member → Memory → Effect Next) → Same r m n → Passes m n f g
        → Names r nn (if has_parameters (parameters_of d p) then on_fine (slots_from (parameters_of d p) vs m) (λ xs m1. Fine (then_call p w xs []) m1) else f x m)
        (if has_parameters (parameters_of d p) then on_fine (slots_from (parameters_of d p) (values_named r vs) n) (λ xs m1. Fine (then_call p (nv w) xs []) m1) else g x n)
    taken_or_passed p w vs x f g k h = both r (has_parameters (parameters_of d p)) (then_named r _ (slots_names (parameters_of d p) vs (plainness p) k) (λ xs m1 n1 k1. fine r refl k1)) (h x)

    index_default_names : {m n : Memory} (w : Val) (vs : List Val) (x : Member) (f g : Member → Memory → Effect Next) → Same r m n → Passes m n f g → Names r nn (index_default d w vs x f m) (index_default d (nv w) (values_named r vs) x g n)
    index_default_names w vs (is_variable i makes) f g k h = h (is_variable i makes)
    index_default_names w vs (is_procedure p) f g k h = taken_or_passed p w vs (is_procedure p) f g k h
    index_default_names w vs (is_property (Some p) lets sets) f g k h = taken_or_passed p w vs (is_property (Some p) lets sets) f g k h
    index_default_names w vs (is_property None lets sets) f g k h = h (is_property None lets sets)

    index_member_names : {m n : Memory} (w : Val) (vs : List Val) (x y : Option Member) (f g : Member → Memory → Effect Next) → y ≡ x → Same r m n → Passes m n f g → Names r nn (index_member d w vs x f m) (index_member d (nv w) (values_named r vs) y g n)
    index_member_names {m = m} {n = n} w vs x y f g e k h = subst (λ z. Names r nn (index_member d w vs x f m) (index_member d (nv w) (values_named r vs) z g n)) (sym e) (by_member x) where
      by_member : (z : Option Member) → Names r nn (index_member d w vs z f m) (index_member d (nv w) (values_named r vs) z g n)
      by_member None = bad r 438 k
      by_member (Some z) = index_default_names w vs z f g k h

    index_once_names : {m n : Memory} (w : Val) (vs : List Val) (f g : Member → Memory → Effect Next) → Same r m n → Passes m n f g → Names r nn (index_once d w vs f m) (index_once d (nv w) (values_named r vs) g n)
    index_once_names {m = m} {n = n} w vs f g k h =
        both_by r (is_instance w m) _ (instance_same w k) (index_member_names w vs (class_of_value d w m).default (class_of_value d (nv w) n).default f g (default_same w k) k h) (over_names (item_names r w vs k))

    pub index_along_names : {m n : Memory} (j : ℕ) (vs : List Val) (w : Val) → Same r m n → Names r nn (index_along d j vs w m) (index_along d j (values_named r vs) (nv w) n)
    index_along_names zero vs w k = index_once_names w vs (λ x m1. Bad-at 450 m1) (λ x m1. Bad-at 450 m1) k (λ x. bad r 450 k)
    index_along_names (suc j) vs w k =
        index_once_names w vs (λ x m1. after_use (read_member d w x m1) (index_by j vs) (λ u m2. index_along d j vs u m2))
        (λ x m1. after_use (read_member d (nv w) x m1) (index_by j (values_named r vs)) (λ u m2. index_along d j (values_named r vs) u m2)) k
        (λ x. after_names (index_by j vs) _ (read_member_names w x k) (λ u m2 n2 k2. index_along_names j vs u k2))

    -- ---- arguments behind a place

    pub item_along_names : {m n : Memory} (q : Path) (vs : List Val) → Same r m n → Names r nn (item_along d q vs m) (item_along d (np q) (values_named r vs) n)
    item_along_names q vs k = after_names (index_by most_passed vs) _ (read_variable_names q k) (λ w m1 n1 k1. index_along_names most_passed vs w k1)

    place_blind : (p : Root) → is_variable_place (root_named r p) ≡ is_variable_place p
    place_blind (in_frame j x) = refl
    place_blind (in_project x) = refl
    place_blind (in_fields o i) = refl
    place_blind (in_block j i) = refl
    place_blind (in_object o) = refl
    place_blind (in_item v) = refl

    array_blind : (x : Option Val) → is_array (option_map (λ v. value_named r v) x) ≡ is_array x
    array_blind None = refl
    array_blind (Some (object o)) = refl
    array_blind (Some (array bounds of items)) = refl
    array_blind (Some (udt number fields)) = refl
    array_blind (Some v) = refl

    pub has_array_same : {m n : Memory} (q : Path) → Same r m n → has_array (np q) n ≡ has_array q m
    has_array_same {m = m} {n = n} q k =
        ap (λ b. b && is_array (value_at n (np q))) (place_blind q.root) ∙ ap (λ b. is_variable_place q.root && b) (ap (λ x. is_array x) (value_at_same r q k) ∙ array_blind (value_at m q))

    pub element_by_names : {m n : Memory} (q : Path) (vs : List Val) → Same r m n → Names r np (element_by q vs m) (element_by (np q) (values_named r vs) n)
    element_by_names q vs k = then_named r _ (plains_names r vs k) (λ ws m1 n1 k1. element_at_names r q ws k1)

    pub in_place_names : {m n : Memory} (q : Path) (vs : List Val) (store other : Path → Memory → Effect Next) (t : Task) (f g : Val → Memory → Effect Next) → ((p : Path) (a b : Memory) → Same r a b → Names r nn (store p a) (other (np p) b))
        → ((v : Val) (a b : Memory) → Same r a b → Names r nn (f v a) (g (nv v) b)) → Same r m n → Names r nn (in_place d q vs store t f m) (in_place d (np q) (values_named r vs) other (task_named r t) g n)
    in_place_names {m = m} q vs store other t f g h j k = both_by r (has_array q m) _ (has_array_same q k) (then_named r _ (element_by_names q vs k) (λ p m1 n1 k1. h p m1 n1 k1)) (after_names t g (read_variable_names q k) j)

    pub in_place_to : {m n : Memory} (q p : Path) (vs : List Val) (store other : Path → Memory → Effect Next) (t : Task) (f g : Val → Memory → Effect Next) → p ≡ np q → ((p : Path) (a b : Memory) → Same r a b → Names r nn (store p a) (other (np p) b))
        → ((v : Val) (a b : Memory) → Same r a b → Names r nn (f v a) (g (nv v) b)) → Same r m n → Names r nn (in_place d q vs store t f m) (in_place d p (values_named r vs) other (task_named r t) g n)
    in_place_to {m = m} {n = n} q p vs store other t f g e h j k =
        subst (λ x. Names r nn (in_place d q vs store t f m) (in_place d x (values_named r vs) other (task_named r t) g n)) (sym e) (in_place_names q vs store other t f g h j k)

    leads_on_names : {m n : Memory} (self : Val) (vs : List Val) (store other : Path → Memory → Effect Next) (t : Task) (f g : Val → Memory → Effect Next) (x : Member) → ((p : Path) (a b : Memory) → Same r a b → Names r nn (store p a) (other (np p) b))
        → ((v : Val) (a b : Memory) → Same r a b → Names r nn (f v a) (g (nv v) b)) → Same r m n → Names r nn (leads_on d self vs store t f x m) (leads_on d (nv self) (values_named r vs) other (task_named r t) g x n)
    leads_on_names {m = m} {n = n} self vs store other t f g (is_variable i makes) h j k =
        in_place_to (variable_of d self i makes m) (variable_of d (nv self) i makes n) vs store other t f g (variable_same d self i makes k) h j k
    leads_on_names self vs store other t f g (is_procedure p) h j k = after_names t g (read_member_names self (is_procedure p) k) j
    leads_on_names self vs store other t f g (is_property reads lets sets) h j k = after_names t g (read_member_names self (is_property reads lets sets) k) j

    -- ---- a value is put where it goes

    pub put_value_names : {m n : Memory} (spot : Spot) (v : Val) → Same r m n → Names r nn (put_value d spot v m) (put_value d (spot_named r spot) (nv v) n)
    put_value_names (in_variable q) v k = nothing_names (assigned_names r q v k)
    put_value_names (by_let p self xs) v k =
        then_named r _ (fitted_names r (last_type (parameters_of d p)) v k) (λ w m1 n1 k1. fine r (ap (λ ys. then_call p (nv self) ys []) (sym (map-append (λ x. slot_named r x) xs (value w ∷ [])))) k1)
    put_value_names (in_range w) v k = nothing_names (written_default_names r w v k)
    put_value_names (in_member name vs base begun) v k = nothing_names (member_assigned_names r d name vs base begun v k)

    itself_blind : (spot : Spot) → takes_itself d (spot_named r spot) ≡ takes_itself d spot
    itself_blind (in_variable q) = refl
    itself_blind (by_let p self xs) = refl
    itself_blind (in_range w) = refl
    itself_blind (in_member name vs base begun) = refl

    pub put_names : {m n : Memory} (spot : Spot) (v : Val) → Same r m n → Names r nn (put d spot v m) (put d (spot_named r spot) (nv v) n)
    put_names spot v k = both_by r (takes_itself d spot) _ (itself_blind spot) (put_value_names spot v k) (after_names (put_in spot) _ (operand_names v k) (λ w m1 n1 k1. put_value_names spot w k1))

    put_to : {m n : Memory} (spot other : Spot) (v : Val) → other ≡ spot_named r spot → Same r m n → Names r nn (put d spot v m) (put d other (nv v) n)
    put_to {m = m} {n = n} spot other v e k = subst (λ x. Names r nn (put d spot v m) (put d x (nv v) n)) (sym e) (put_names spot v k)

    -- ---- a default member is written

    takes_blind : (v : Val) → takes_value (nv v) ≡ takes_value v
    takes_blind (object Nothing) = refl
    takes_blind (object (Heap id)) = refl
    takes_blind (object (Host h)) = refl
    takes_blind v = refl

    write_host_names : {m n : Memory} (v w : Val) → Same r m n → Names r nn (write_host d v w m) (write_host d (nv v) (nv w) n)
    write_host_names v w k = both_by r (takes_value w) _ (takes_blind w) (put_names (in_range w) v k) (nothing_names (written_default_names r w v k))

    write_variable_names : {m n : Memory} (v : Val) (q p : Path) (x : Member) (f g : Member → Memory → Effect Next) → p ≡ np q → Same r m n → Passes m n f g → Names r nn (write_variable d v q x f m) (write_variable d (nv v) p x g n)
    write_variable_names {m = m} {n = n} v q p x f g e k h =
        subst (λ z. Names r nn (write_variable d v q x f m) (write_variable d (nv v) z x g n)) (sym e) (both r (is_object_type q.of) (h x) (put_names (in_variable q) v k))

    left_spot : (p : ℕ) (w : Val) (qs : List Parameter) → Plain qs → by_let p (nv w) (map slot_left_out qs) ≡ spot_named r (by_let p w (map slot_left_out qs))
    left_spot p w qs h = ap (λ xs. by_let p (nv w) xs) (sym (left_named qs h))

    write_default_names : {m n : Memory} (v w : Val) (x : Member) (f g : Member → Memory → Effect Next) → Same r m n → Passes m n f g → Names r nn (write_default d v w x f m) (write_default d (nv v) (nv w) x g n)
    write_default_names {m = m} {n = n} v w (is_variable i makes) f g k h = write_variable_names v (variable_of d w i makes m) (variable_of d (nv w) i makes n) (is_variable i makes) f g (variable_same d w i makes k) k h
    write_default_names v w (is_procedure p) f g k h = both r (is_sub_kind (procedure_at d p).kind) (bad r 438 k) (h (is_procedure p))
    write_default_names v w (is_property reads (Some p) sets) f g k h =
        both r (any_must (without_last (parameters_of d p))) (bad r 449 k)
        (put_to (by_let p w (map slot_left_out (without_last (parameters_of d p)))) (by_let p (nv w) (map slot_left_out (without_last (parameters_of d p)))) v
        (left_spot p w (without_last (parameters_of d p)) (plain_last (parameters_of d p) (plainness p))) k)
    write_default_names v w (is_property reads None sets) f g k h = h (is_property reads None sets)

    write_member_names : {m n : Memory} (v w : Val) (x y : Option Member) (f g : Member → Memory → Effect Next) → y ≡ x → Same r m n → Passes m n f g → Names r nn (write_member d v w x f m) (write_member d (nv v) (nv w) y g n)
    write_member_names {m = m} {n = n} v w x y f g e k h = subst (λ z. Names r nn (write_member d v w x f m) (write_member d (nv v) (nv w) z g n)) (sym e) (by_member x) where
      by_member : (z : Option Member) → Names r nn (write_member d v w z f m) (write_member d (nv v) (nv w) z g n)
      by_member None = bad r 438 k
      by_member (Some z) = write_default_names v w z f g k h

    write_once_names : {m n : Memory} (v w : Val) (f g : Member → Memory → Effect Next) → Same r m n → Passes m n f g → Names r nn (write_once d v w f m) (write_once d (nv v) (nv w) g n)
    write_once_names {m = m} {n = n} v w f g k h =
        both_by r (is_instance w m) _ (instance_same w k) (write_member_names v w (class_of_value d w m).default (class_of_value d (nv w) n).default f g (default_same w k) k h) (write_host_names v w k)

    pub write_along_names : {m n : Memory} (j : ℕ) (v w : Val) → Same r m n → Names r nn (write_along d j v w m) (write_along d j (nv v) (nv w) n)
    write_along_names zero v w k = write_once_names v w (λ x m1. Bad-at 450 m1) (λ x m1. Bad-at 450 m1) k (λ x. bad r 450 k)
    write_along_names (suc j) v w k =
        write_once_names v w (λ x m1. after_use (read_member d w x m1) (write j v) (λ u m2. write_along d j v u m2))
        (λ x m1. after_use (read_member d (nv w) x m1) (write j (nv v)) (λ u m2. write_along d j (nv v) u m2)) k
        (λ x. after_names (write j v) _ (read_member_names w x k) (λ u m2 n2 k2. write_along_names j v u k2))

    pub written_on : (v : Val) {e g : Effect Next} → Names r nn e g → Names r nn (after_use e (write most_passed v) (λ w m1. write_along d most_passed v w m1)) (after_use g (write most_passed (nv v)) (λ w m1. write_along d most_passed (nv v) w m1))
    written_on v a = after_names (write most_passed v) _ a (λ w m1 n1 k1. write_along_names most_passed v w k1)

    -- ---- what arguments lead to takes a value

    pub let_at_names : {m n : Memory} (q : Path) (v : Val) → Same r m n → Names r nn (let_at d q v m) (let_at d (np q) (nv v) n)
    let_at_names q v k = both r (is_object_type q.of) (written_on v (read_variable_names q k)) (put_names (in_variable q) v k)

    let_called_names : {m n : Memory} (v : Val) (vs : List Val) (self : Val) (p : ℕ) → Same r m n → Names r nn (let_called_with d v vs self p m) (let_called_with d (nv v) (values_named r vs) (nv self) p n)
    let_called_names v vs self p k = then_named r _ (slots_names (parameters_of d p) vs (plainness p) k) (λ xs m1 n1 k1. fine r refl k1)

    let_by_reader_names : {m n : Memory} (v : Val) (vs : List Val) (self : Val) (x : Member) (o : Option ℕ) (f g : Member → Memory → Effect Next) → Same r m n → Passes m n f g
        → Names r nn (let_by_reader d v vs self x o f m) (let_by_reader d (nv v) (values_named r vs) (nv self) x o g n)
    let_by_reader_names v vs self x None f g k h = h x
    let_by_reader_names v vs self x (Some p) f g k h = both r (has_parameters (parameters_of d p)) (let_called_names v vs self p k) (h x)

    let_default_names : {m n : Memory} (v : Val) (vs : List Val) (self : Val) (x : Member) (o : Option ℕ) (f g : Member → Memory → Effect Next) → Same r m n → Passes m n f g
        → Names r nn (let_default d v vs self x o f m) (let_default d (nv v) (values_named r vs) (nv self) x o g n)
    let_default_names v vs self x None f g k h = let_by_reader_names v vs self x (reader_of x) f g k h
    let_default_names v vs self x (Some p) f g k h =
        both r (has_parameters (without_last (parameters_of d p)))
        (then_named r _ (slots_names (without_last (parameters_of d p)) vs (plain_last (parameters_of d p) (plainness p)) k) (λ xs m1 n1 k1. put_names (by_let p self xs) v k1))
        (let_by_reader_names v vs self x (reader_of x) f g k h)

    let_member_names : {m n : Memory} (v : Val) (vs : List Val) (self : Val) (x y : Option Member) (f g : Member → Memory → Effect Next) → y ≡ x → Same r m n → Passes m n f g
        → Names r nn (let_member d v vs self x f m) (let_member d (nv v) (values_named r vs) (nv self) y g n)
    let_member_names {m = m} {n = n} v vs self x y f g e k h = subst (λ z. Names r nn (let_member d v vs self x f m) (let_member d (nv v) (values_named r vs) (nv self) z g n)) (sym e) (by_member x) where
      by_member : (z : Option Member) → Names r nn (let_member d v vs self z f m) (let_member d (nv v) (values_named r vs) (nv self) z g n)
      by_member None = bad r 438 k
      by_member (Some z) = let_default_names v vs self z (let_setter z) f g k h

    let_of_value : {m n : Memory} (v : Val) (vs : List Val) (w : Val) → Same r m n
        → Names r nn (on_fine (item_by w vs m) (λ u m1. operand_of d v m1)) (on_fine (item_by (nv w) (values_named r vs) n) (λ u m1. operand_of d (nv v) m1))
    let_of_value v vs w k = then_named r {x = λ u m1. operand_of d v m1} (λ u m1. operand_of d (nv v) m1) (item_names r w vs k) (λ u m1 n1 k1. operand_names v k1)

    let_item_names : {m n : Memory} (v : Val) (vs : List Val) (w : Val) → Same r m n → Names r nn (let_item_of d v vs w m) (let_item_of d (nv v) (values_named r vs) (nv w) n)
    let_item_names v vs (object o) k = written_on v (over_names (item_names r (object o) vs k))
    let_item_names v vs (array bounds of items) k = let_of_value v vs (array bounds of items) k
    let_item_names v vs (udt number fields) k = let_of_value v vs (udt number fields) k
    let_item_names v vs w k = let_of_value v vs w k

    let_once_names : {m n : Memory} (v : Val) (vs : List Val) (w : Val) (f g : Member → Memory → Effect Next) → Same r m n → Passes m n f g → Names r nn (let_once d v vs w f m) (let_once d (nv v) (values_named r vs) (nv w) g n)
    let_once_names {m = m} {n = n} v vs w f g k h =
        both_by r (is_instance w m) _ (instance_same w k) (let_member_names v vs w (class_of_value d w m).default (class_of_value d (nv w) n).default f g (default_same w k) k h) (let_item_names v vs w k)

    pub let_along_names : {m n : Memory} (j : ℕ) (vs : List Val) (v w : Val) → Same r m n → Names r nn (let_along d j vs v w m) (let_along d j (values_named r vs) (nv v) (nv w) n)
    let_along_names zero vs v w k = let_once_names v vs w (λ x m1. Bad-at 450 m1) (λ x m1. Bad-at 450 m1) k (λ x. bad r 450 k)
    let_along_names (suc j) vs v w k =
        let_once_names v vs w (λ x m1. leads_on d w vs (λ p m2. let_at d p v m2) (let_item j vs v) (λ u m2. let_along d j vs v u m2) x m1)
        (λ x m1. leads_on d (nv w) (values_named r vs) (λ p m2. let_at d p (nv v) m2) (let_item j (values_named r vs) (nv v)) (λ u m2. let_along d j (values_named r vs) (nv v) u m2) x m1) k
        (λ x. leads_on_names w vs (λ p m2. let_at d p v m2) (λ p m2. let_at d p (nv v) m2) (let_item j vs v) (λ u m2. let_along d j vs v u m2) (λ u m2. let_along d j (values_named r vs) (nv v) u m2) x
        (λ p a b s. let_at_names p v s) (λ u a b s. let_along_names j vs v u s) k)

    -- ---- what arguments lead to is set

    set_by_reader_names : {m n : Memory} (x : Member) (o : Option ℕ) (f g : Member → Memory → Effect Next) → Same r m n → Passes m n f g → Names r nn (set_by_reader d x o f m) (set_by_reader d x o g n)
    set_by_reader_names x None f g k h = h x
    set_by_reader_names x (Some p) f g k h = both r (has_parameters (parameters_of d p)) (bad r 438 k) (h x)

    set_called_names : {m n : Memory} (v : Val) (vs : List Val) (self : Val) (p : ℕ) → Same r m n → Names r nn (set_called_with d v vs self p m) (set_called_with d (nv v) (values_named r vs) (nv self) p n)
    set_called_names v vs self p k =
        then_named r _ (slots_names (without_last (parameters_of d p)) vs (plain_last (parameters_of d p) (plainness p)) k) (λ xs m1 n1 k1.
        then_named r _ (set_object_names r (last_type (parameters_of d p)) v k1) (λ w m2 n2 k2. fine r (ap (λ ys. then_call p (nv self) ys []) (sym (map-append (λ x. slot_named r x) xs (value w ∷ [])))) k2))

    set_default_names : {m n : Memory} (v : Val) (vs : List Val) (self : Val) (x : Member) (o : Option ℕ) (f g : Member → Memory → Effect Next) → Same r m n → Passes m n f g
        → Names r nn (set_default d v vs self x o f m) (set_default d (nv v) (values_named r vs) (nv self) x o g n)
    set_default_names v vs self x None f g k h = set_by_reader_names x (reader_of x) f g k h
    set_default_names v vs self x (Some p) f g k h =
        both r (has_parameters (without_last (parameters_of d p))) (set_called_names v vs self p k) (set_by_reader_names x (reader_of x) f g k h)

    set_member_names : {m n : Memory} (v : Val) (vs : List Val) (self : Val) (x y : Option Member) (f g : Member → Memory → Effect Next) → y ≡ x → Same r m n → Passes m n f g
        → Names r nn (set_by_member d v vs self x f m) (set_by_member d (nv v) (values_named r vs) (nv self) y g n)
    set_member_names {m = m} {n = n} v vs self x y f g e k h = subst (λ z. Names r nn (set_by_member d v vs self x f m) (set_by_member d (nv v) (values_named r vs) (nv self) z g n)) (sym e) (by_member x) where
      by_member : (z : Option Member) → Names r nn (set_by_member d v vs self z f m) (set_by_member d (nv v) (values_named r vs) (nv self) z g n)
      by_member None = bad r 438 k
      by_member (Some z) = set_default_names v vs self z (setter_of z) f g k h

    element_blind : (w : Val) → element_of (nv w) ≡ element_of w
    element_blind (object o) = refl
    element_blind (array bounds of items) = refl
    element_blind (udt number fields) = refl
    element_blind w = refl

    set_object_to : {m n : Memory} (of other : Declared) (v : Val) → other ≡ of → Same r m n → Names r nv (set_object of v m) (set_object other (nv v) n)
    set_object_to {m = m} {n = n} of other v e k = subst (λ x. Names r nv (set_object of v m) (set_object x (nv v) n)) (sym e) (set_object_names r of v k)

    set_of_value : {m n : Memory} (v : Val) (vs : List Val) (w : Val) → Same r m n
        → Names r nn (nothing_more (on_fine (item_by w vs m) (λ u m1. on_fine (set_object (element_of w) v m1) (λ x m2. done m2))))
        (nothing_more (on_fine (item_by (nv w) (values_named r vs) n) (λ u m1. on_fine (set_object (element_of (nv w)) (nv v) m1) (λ x m2. done m2))))
    set_of_value v vs w k =
        nothing_names (then_named r {f = nv} {x = λ u m1. on_fine (set_object (element_of w) v m1) (λ x m2. done m2)} (λ u m1. on_fine (set_object (element_of (nv w)) (nv v) m1) (λ x m2. done m2)) (item_names r w vs k) (λ u m1 n1 k1.
        then_named r {x = λ x m2. done m2} (λ x m2. done m2) (set_object_to (element_of w) (element_of (nv w)) v (element_blind w) k1) (λ x m2 n2 k2. fine r refl k2)))

    set_item_names : {m n : Memory} (v : Val) (vs : List Val) (w : Val) → Same r m n → Names r nn (set_item_of v vs w m) (set_item_of (nv v) (values_named r vs) (nv w) n)
    set_item_names v vs (object o) k =
        then_named r {x = λ w m1. on_fine (set_object type.variant v m1) (λ x m2. Bad-at 438 m2)} (λ w m1. on_fine (set_object type.variant (nv v) m1) (λ x m2. Bad-at 438 m2)) (item_names r (object o) vs k) (λ w m1 n1 k1.
        then_named r {x = λ x m2. Bad-at 438 m2} (λ x m2. Bad-at 438 m2) (set_object_names r type.variant v k1) (λ x m2 n2 k2. bad r 438 k2))
    set_item_names v vs (array bounds of items) k = set_of_value v vs (array bounds of items) k
    set_item_names v vs (udt number fields) k = set_of_value v vs (udt number fields) k
    set_item_names v vs w k = set_of_value v vs w k

    set_once_names : {m n : Memory} (v : Val) (vs : List Val) (w : Val) (f g : Member → Memory → Effect Next) → Same r m n → Passes m n f g → Names r nn (set_once d v vs w f m) (set_once d (nv v) (values_named r vs) (nv w) g n)
    set_once_names {m = m} {n = n} v vs w f g k h =
        both_by r (is_instance w m) _ (instance_same w k) (set_member_names v vs w (class_of_value d w m).default (class_of_value d (nv w) n).default f g (default_same w k) k h) (set_item_names v vs w k)

    pub set_along_names : {m n : Memory} (j : ℕ) (vs : List Val) (v w : Val) → Same r m n → Names r nn (set_along d j vs v w m) (set_along d j (values_named r vs) (nv v) (nv w) n)
    set_along_names zero vs v w k = set_once_names v vs w (λ x m1. Bad-at 450 m1) (λ x m1. Bad-at 450 m1) k (λ x. bad r 450 k)
    set_along_names (suc j) vs v w k =
        set_once_names v vs w (λ x m1. leads_on d w vs (λ p m2. nothing_more (set_at p v m2)) (set_item j vs v) (λ u m2. set_along d j vs v u m2) x m1)
        (λ x m1. leads_on d (nv w) (values_named r vs) (λ p m2. nothing_more (set_at p (nv v) m2)) (set_item j (values_named r vs) (nv v)) (λ u m2. set_along d j (values_named r vs) (nv v) u m2) x m1) k
        (λ x. leads_on_names w vs (λ p m2. nothing_more (set_at p v m2)) (λ p m2. nothing_more (set_at p (nv v) m2)) (set_item j vs v) (λ u m2. set_along d j vs v u m2) (λ u m2. set_along d j (values_named r vs) (nv v) u m2) x
        (λ p a b s. nothing_names (set_at_names r p v s)) (λ u a b s. set_along_names j vs v u s) k)

    -- ---- For Each over an object of a class

    items_blind : {m n : Memory} (v : Val) → Same r m n → has_items (nv v) n ≡ has_items v m
    items_blind (object o) k = collection_same r o k
    items_blind v k = refl

    collection_names : {m n : Memory} (v : Val) → Same r m n → Names r nn (collection_here v m) (collection_here (nv v) n)
    collection_names {m = m} v k = both_by r (has_items v m) _ (items_blind v k) (fine r refl k) (bad r 438 k)

    enumerator_same : {m n : Memory} (v : Val) → Same r m n → (class_of_value d (nv v) n).enumerator ≡ (class_of_value d v m).enumerator
    enumerator_same v k = ap (λ c. c.enumerator) (class_value_same d v k)

    pub enumerator_names : {m n : Memory} (v : Val) → Same r m n → Names r nn (enumerator_of d v m) (enumerator_of d (nv v) n)
    enumerator_names {m = m} {n = n} v k =
        both_by r (is_instance v m) _ (instance_same v k) (after_names walked _ (read_default_to v (class_of_value d v m).enumerator (class_of_value d (nv v) n).enumerator (enumerator_same v k) k) (λ w m1 n1 k1. collection_names w k1)) (fine r refl k)

    -- ---- tasks

    task_names : {m n : Memory} (t : Task) (v : Val) → Same r m n → Names r nn (task_next d t v m) (task_next d (task_named r t) (nv v) n)
    task_names as_operand v k = operand_names v k
    task_names no_object v k = no_object_names v k
    task_names {m = m} give_way v k = both_by r (is_instance v m) _ (instance_same v k) (operand_names v k) (fine r refl k)
    task_names walked v k = collection_names v k
    task_names (fit_to of) v k = over_names (fitted_names r of v k)
    task_names (index_by j vs) v k = index_along_names j vs v k
    task_names (write j w) v k = write_along_names j w v k
    task_names (let_item j vs w) v k = let_along_names j vs w v k
    task_names (set_item j vs w) v k = set_along_names j vs w v k
    task_names (put_in spot) v k = put_value_names spot v k
    task_names (read_made q w) v k = read_made_names q w None k

    followed_names : {m n : Memory} (ts : List Task) (f g : Val → Memory → Effect Next) (x : Next) → Same r m n → ((v : Val) → Names r nn (f v m) (g (nv v) n)) → Names r nn (followed ts f x m) (followed (tasks_named r ts) g (nn x) n)
    followed_names ts f g (gives v) k h = h v
    followed_names ts f g (then_call p self xs more) k h = fine r (ap (λ us. then_call p (nv self) (slots_named r xs) us) (sym (map-append (λ u. task_named r u) more ts))) k

    pub tasks_names : {m n : Memory} (ts : List Task) (v : Val) → Same r m n → Names r nn (tasks_next d ts v m) (tasks_next d (tasks_named r ts) (nv v) n)
    tasks_names [] v k = fine r refl k
    tasks_names (t ∷ ts) v k =
        then_named r _ (task_names t v k) (λ x m1 n1 k1. followed_names ts (λ w m2. tasks_next d ts w m2) (λ w m2. tasks_next d (tasks_named r ts) w m2) x k1 (λ w. tasks_names ts w k1))

    pub use_then_names : (ts : List Task) {e g : Effect Next} → Names r nn e g → Names r nn (use_then d ts e) (use_then d (tasks_named r ts) g)
    use_then_names ts a = then_named r _ a (λ x m1 n1 k1. followed_names ts (λ w m2. tasks_next d ts w m2) (λ w m2. tasks_next d (tasks_named r ts) w m2) x k1 (λ w. tasks_names ts w k1))
