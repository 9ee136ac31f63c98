-- Uses of objects along default members.
use Rattle.std.proofs.Common.{ℕ, zero, suc, List, [], ◌∷◌, map, Option, Some, None}
use Rattle.std.specs.Prelude.{◌&&◌, if◌then◌else◌}
use Rattle.vba_values.specs.Types.{Declared}
use Rattle.vba_values.specs.Types as type
use Rattle.vba_values.specs.Val.{Val, missing, object}
use Rattle.bound_project.specs.Project.{Declarations, Parameter, Member, is_variable, is_procedure, is_property, procedure_at}
use Rattle.vba_meaning.specs.Paths.{Path}
use Rattle.vba_meaning.specs.Memory.{Memory}
use Rattle.vba_meaning.specs.Effects.{Effect, Fine, Bad-at, on_fine, done, set_object, slot_left_out}
use Rattle.vba_meaning.specs.Objects.{initialize_of, set_at}
use Rattle.vba_meaning.specs.Host.{is_counted, item_by}
use Rattle.bound_project.specs.Parameters.{parameters_of, any_must, without_last, last_type, has_parameters}
use Rattle.vba_meaning.specs.Defaults.{Spot, in_variable, by_let, in_range, in_member, Task, as_operand, no_object, give_way, walked, fit_to, index_by, write, let_item, set_item, put_in, read_made, Next, gives, then_call, over_with, goes_by, after_use, is_instance, class_of_value, variable_of, is_object_type, can_be_object, is_sub_kind, has_default_alone, read_by, read_made_by, read_variable, read_member, read_default, no_object_here, counted_operand, counted_if_any, operand_of, given_to, too_many, too_few, slot_given, slots_in, slots_from, index_default, index_member, index_once, index_along, has_array, element_by, item_along, in_place, leads_on, takes_itself, nothing_more, put_value, put, takes_value, write_host, write_default, write_member, write_once, write_along, let_at, reader_of, let_by_reader, let_setter, let_default, let_member, let_item_of, let_once, let_along, set_called_with, set_by_reader, setter_of, set_default, set_by_member, element_of, set_item_of, set_once, set_along, has_items, collection_here, enumerator_of, most_passed, task_next, followed, tasks_next, use_then}
use Rattle.memory_changes.proofs.Rows.{Still, still, still_bad, still_then, still_if, Rows, fine, bad, then_rows, of_still, then_same, both}
use Rattle.memory_changes.proofs.Values.{set_object_still, fitted_still, plain_still, read_path_rows, made_for_rows, stored_made_rows, assigned_rows, set_at_rows}
use Rattle.memory_changes.proofs.Arrays.{element_at_still}
use Rattle.memory_changes.proofs.Hosts.{plains_still, item_rows, written_default_rows, member_assigned_rows}

-- ---- effects that leave the memory as it was

no_object_still : (v : Val) (m : Memory) → Still m (no_object_here v m)
no_object_still (object o) m = still_bad 438 m
no_object_still v m = still

given_to_still : (of : Declared) (v : Val) (m : Memory) → Still m (given_to of v m)
given_to_still of v m = still_if (can_be_object of) (fitted_still of v m) (still_then _ (plain_still v m) (λ w. fitted_still of w m))

slot_given_still : (q : Parameter) (v : Val) (m : Memory) → Still m (slot_given q v m)
slot_given_still q missing m = still
slot_given_still q v m = still_then _ (given_to_still q.of v m) (λ w. still)

slots_in_still : (qs : List Parameter) (vs : List Val) (m : Memory) → Still m (slots_in qs vs m)
slots_in_still [] vs m = still
slots_in_still (q ∷ qs) [] m = still_then _ (slots_in_still qs [] m) (λ xs. still)
slots_in_still (q ∷ qs) (v ∷ vs) m = still_if q.many still (still_then _ (slot_given_still q v m) (λ x. still_then _ (slots_in_still qs vs m) (λ xs. still)))

pub slots_still : (qs : List Parameter) (vs : List Val) (m : Memory) → Still m (slots_from qs vs m)
slots_still qs vs m = still_if (too_many qs vs) (still_bad 450 m) (still_if (too_few qs vs) (still_bad 449 m) (slots_in_still qs vs m))

pub element_by_still : (q : Path) (vs : List Val) (m : Memory) → Still m (element_by q vs m)
element_by_still q vs m = still_then _ (plains_still vs m) (λ ws. element_at_still q ws m)

collection_here_still : (v : Val) (m : Memory) → Still m (collection_here v m)
collection_here_still v m = still_if (has_items v m) still (still_bad 438 m)

module _ (d : Declarations) where
  -- ---- one after another

  pub over_rows : {m : Memory} {e : Effect Val} → Rows d m e → Rows d m (over_with e)
  over_rows a = then_rows d a (λ v m1. fine d)

  pub nothing_rows : {m : Memory} {e : Effect (Unit {0})} → Rows d m e → Rows d m (nothing_more e)
  nothing_rows a = then_rows d a (λ u m1. fine d)

  goes_rows : (t : Task) (f : Val → Memory → Effect Next) (n : Next) (m : Memory) → ((v : Val) → Rows d m (f v m)) → Rows d m (goes_by t f n m)
  goes_rows t f (gives v) m k = k v
  goes_rows t f (then_call p self xs ts) m k = fine d

  pub after_rows : {m : Memory} {e : Effect Next} (t : Task) {f : Val → Memory → Effect Next} → Rows d m e → ((v : Val) (m1 : Memory) → Rows d m1 (f v m1)) → Rows d m (after_use e t f)
  after_rows t {f = f} a k = then_rows d a (λ n m1. goes_rows t f n m1 (λ v. k v m1))

  -- ---- a member is read

  read_by_rows : (p : ℕ) (self : Val) (m : Memory) → Rows d m (read_by d p self m)
  read_by_rows p self m = both d (any_must (parameters_of d p)) (bad d 449 m) (fine d)

  read_made_rows : (q : Path) (v : Val) (o : Option ℕ) (m : Memory) → Rows d m (read_made_by q v o m)
  read_made_rows q v None m = then_rows d (stored_made_rows d q v m) (λ u m1. over_rows (read_path_rows d q m1))
  read_made_rows q v (Some p) m = fine d

  pub read_variable_rows : (q : Path) (m : Memory) → Rows d m (read_variable d q m)
  read_variable_rows q m = then_rows d (made_for_rows d q m) (λ v m1. read_made_rows q v (initialize_of d q v) m1)

  read_member_rows : (v : Val) (x : Member) (m : Memory) → Rows d m (read_member d v x m)
  read_member_rows v (is_variable i makes) m = read_variable_rows (variable_of d v i makes m) m
  read_member_rows v (is_procedure p) m = read_by_rows p v m
  read_member_rows v (is_property (Some p) lets sets) m = read_by_rows p v m
  read_member_rows v (is_property None lets sets) m = bad d 438 m

  read_default_rows : (v : Val) (x : Option Member) (m : Memory) → Rows d m (read_default d v x m)
  read_default_rows v None m = bad d 438 m
  read_default_rows v (Some x) m = read_member_rows v x m

  -- ---- operands

  pub counted_operand_rows : (v : Val) (m : Memory) → Rows d m (counted_operand d v m)
  counted_operand_rows v m = both d (is_instance v m) (after_rows no_object (read_default_rows v (class_of_value d v m).default m) (λ w m1. of_still d (no_object_still w m1))) (bad d 449 m)

  pub counted_if_any_rows : (v : Val) (m : Memory) → Rows d m (counted_if_any d v m)
  counted_if_any_rows v m = both d (is_instance v m && has_default_alone d (class_of_value d v m).default) (read_default_rows v (class_of_value d v m).default m) (fine d)

  operand_rows : (v : Val) (m : Memory) → Rows d m (operand_of d v m)
  operand_rows v m = both d (is_counted v) (counted_operand_rows v m) (over_rows (of_still d (plain_still v m)))

  -- ---- arguments that index

  -- of what passes a default member
  abbrev Passes : Memory → (Member → Memory → Effect Next) → Type 0
  Passes m f = (x : Member) → Rows d m (f x m)

  taken_or_passed : (p : ℕ) (w : Val) (vs : List Val) (x : Member) (f : Member → Memory → Effect Next) (m : Memory) → Passes m f
      → Rows d m (if has_parameters (parameters_of d p) then on_fine (slots_from (parameters_of d p) vs m) (λ xs m1. Fine (then_call p w xs []) m1) else f x m)
  taken_or_passed p w vs x f m k = both d (has_parameters (parameters_of d p)) (then_same d _ (slots_still (parameters_of d p) vs m) (λ xs. fine d)) (k x)

  index_default_rows : (w : Val) (vs : List Val) (x : Member) (f : Member → Memory → Effect Next) (m : Memory) → Passes m f → Rows d m (index_default d w vs x f m)
  index_default_rows w vs (is_variable i makes) f m k = k (is_variable i makes)
  index_default_rows w vs (is_procedure p) f m k = taken_or_passed p w vs (is_procedure p) f m k
  index_default_rows w vs (is_property (Some p) lets sets) f m k = taken_or_passed p w vs (is_property (Some p) lets sets) f m k
  index_default_rows w vs (is_property None lets sets) f m k = k (is_property None lets sets)

  index_member_rows : (w : Val) (vs : List Val) (x : Option Member) (f : Member → Memory → Effect Next) (m : Memory) → Passes m f → Rows d m (index_member d w vs x f m)
  index_member_rows w vs None f m k = bad d 438 m
  index_member_rows w vs (Some x) f m k = index_default_rows w vs x f m k

  index_once_rows : (w : Val) (vs : List Val) (f : Member → Memory → Effect Next) (m : Memory) → Passes m f → Rows d m (index_once d w vs f m)
  index_once_rows w vs f m k = both d (is_instance w m) (index_member_rows w vs (class_of_value d w m).default f m k) (over_rows (item_rows d w vs m))

  pub index_along_rows : (k : ℕ) (vs : List Val) (w : Val) (m : Memory) → Rows d m (index_along d k vs w m)
  index_along_rows zero vs w m = index_once_rows w vs (λ x m1. Bad-at 450 m1) m (λ x. bad d 450 m)
  index_along_rows (suc k) vs w m =
      index_once_rows w vs (λ x m1. after_use (read_member d w x m1) (index_by k vs) (λ u m2. index_along d k vs u m2)) m
      (λ x. after_rows (index_by k vs) (read_member_rows w x m) (λ u m2. index_along_rows k vs u m2))

  -- ---- arguments behind a place

  pub item_along_rows : (q : Path) (vs : List Val) (m : Memory) → Rows d m (item_along d q vs m)
  item_along_rows q vs m = after_rows (index_by most_passed vs) (read_variable_rows q m) (λ w m1. index_along_rows most_passed vs w m1)

  pub in_place_rows : (q : Path) (vs : List Val) (store : Path → Memory → Effect Next) (t : Task) (go : Val → Memory → Effect Next) (m : Memory) → ((p : Path) (m1 : Memory) → Rows d m1 (store p m1))
      → ((v : Val) (m1 : Memory) → Rows d m1 (go v m1)) → Rows d m (in_place d q vs store t go m)
  in_place_rows q vs store t go m h k = both d (has_array q m) (then_same d _ (element_by_still q vs m) (λ p. h p m)) (after_rows t (read_variable_rows q m) k)

  leads_on_rows : (self : Val) (vs : List Val) (store : Path → Memory → Effect Next) (t : Task) (go : Val → Memory → Effect Next) (x : Member) (m : Memory) → ((p : Path) (m1 : Memory) → Rows d m1 (store p m1))
      → ((v : Val) (m1 : Memory) → Rows d m1 (go v m1)) → Rows d m (leads_on d self vs store t go x m)
  leads_on_rows self vs store t go (is_variable i makes) m h k = in_place_rows (variable_of d self i makes m) vs store t go m h k
  leads_on_rows self vs store t go (is_procedure p) m h k = after_rows t (read_member_rows self (is_procedure p) m) k
  leads_on_rows self vs store t go (is_property reads lets sets) m h k = after_rows t (read_member_rows self (is_property reads lets sets) m) k

  -- ---- a value is put where it goes

  put_value_rows : (spot : Spot) (v : Val) (m : Memory) → Rows d m (put_value d spot v m)
  put_value_rows (in_variable q) v m = nothing_rows (assigned_rows d q v m)
  put_value_rows (by_let p self xs) v m = then_same d _ (fitted_still (last_type (parameters_of d p)) v m) (λ w. fine d)
  put_value_rows (in_range w) v m = nothing_rows (written_default_rows d w v m)
  put_value_rows (in_member name vs base begun) v m = nothing_rows (member_assigned_rows d name vs base begun v m)

  pub put_rows : (spot : Spot) (v : Val) (m : Memory) → Rows d m (put d spot v m)
  put_rows spot v m = both d (takes_itself d spot) (put_value_rows spot v m) (after_rows (put_in spot) (operand_rows v m) (λ w m1. put_value_rows spot w m1))

  -- ---- a default member is written

  write_host_rows : (v w : Val) (m : Memory) → Rows d m (write_host d v w m)
  write_host_rows v w m = both d (takes_value w) (put_rows (in_range w) v m) (nothing_rows (written_default_rows d w v m))

  write_default_rows : (v w : Val) (x : Member) (f : Member → Memory → Effect Next) (m : Memory) → Passes m f → Rows d m (write_default d v w x f m)
  write_default_rows v w (is_variable i makes) f m k = both d (is_object_type (variable_of d w i makes m).of) (k (is_variable i makes)) (put_rows (in_variable (variable_of d w i makes m)) v m)
  write_default_rows v w (is_procedure p) f m k = both d (is_sub_kind (procedure_at d p).kind) (bad d 438 m) (k (is_procedure p))
  write_default_rows v w (is_property reads (Some p) sets) f m k =
      both d (any_must (without_last (parameters_of d p))) (bad d 449 m) (put_rows (by_let p w (map slot_left_out (without_last (parameters_of d p)))) v m)
  write_default_rows v w (is_property reads None sets) f m k = k (is_property reads None sets)

  write_member_rows : (v w : Val) (x : Option Member) (f : Member → Memory → Effect Next) (m : Memory) → Passes m f → Rows d m (write_member d v w x f m)
  write_member_rows v w None f m k = bad d 438 m
  write_member_rows v w (Some x) f m k = write_default_rows v w x f m k

  write_once_rows : (v w : Val) (f : Member → Memory → Effect Next) (m : Memory) → Passes m f → Rows d m (write_once d v w f m)
  write_once_rows v w f m k = both d (is_instance w m) (write_member_rows v w (class_of_value d w m).default f m k) (write_host_rows v w m)

  pub write_along_rows : (k : ℕ) (v w : Val) (m : Memory) → Rows d m (write_along d k v w m)
  write_along_rows zero v w m = write_once_rows v w (λ x m1. Bad-at 450 m1) m (λ x. bad d 450 m)
  write_along_rows (suc k) v w m =
      write_once_rows v w (λ x m1. after_use (read_member d w x m1) (write k v) (λ u m2. write_along d k v u m2)) m
      (λ x. after_rows (write k v) (read_member_rows w x m) (λ u m2. write_along_rows k v u m2))

  pub written_on : (v : Val) {m : Memory} {e : Effect Next} → Rows d m e → Rows d m (after_use e (write most_passed v) (λ w m1. write_along d most_passed v w m1))
  written_on v a = after_rows (write most_passed v) a (λ w m1. write_along_rows most_passed v w m1)

  -- ---- what arguments lead to takes a value

  pub let_at_rows : (q : Path) (v : Val) (m : Memory) → Rows d m (let_at d q v m)
  let_at_rows q v m = both d (is_object_type q.of) (written_on v (read_variable_rows q m)) (put_rows (in_variable q) v m)

  let_by_reader_rows : (v : Val) (vs : List Val) (self : Val) (x : Member) (o : Option ℕ) (f : Member → Memory → Effect Next) (m : Memory) → Passes m f → Rows d m (let_by_reader d v vs self x o f m)
  let_by_reader_rows v vs self x None f m k = k x
  let_by_reader_rows v vs self x (Some p) f m k = both d (has_parameters (parameters_of d p)) (then_same d _ (slots_still (parameters_of d p) vs m) (λ xs. fine d)) (k x)

  let_default_rows : (v : Val) (vs : List Val) (self : Val) (x : Member) (o : Option ℕ) (f : Member → Memory → Effect Next) (m : Memory) → Passes m f → Rows d m (let_default d v vs self x o f m)
  let_default_rows v vs self x None f m k = let_by_reader_rows v vs self x (reader_of x) f m k
  let_default_rows v vs self x (Some p) f m k =
      both d (has_parameters (without_last (parameters_of d p))) (then_same d _ (slots_still (without_last (parameters_of d p)) vs m) (λ xs. put_rows (by_let p self xs) v m))
      (let_by_reader_rows v vs self x (reader_of x) f m k)

  let_member_rows : (v : Val) (vs : List Val) (self : Val) (x : Option Member) (f : Member → Memory → Effect Next) (m : Memory) → Passes m f → Rows d m (let_member d v vs self x f m)
  let_member_rows v vs self None f m k = bad d 438 m
  let_member_rows v vs self (Some x) f m k = let_default_rows v vs self x (let_setter x) f m k

  let_of_value : (v : Val) (vs : List Val) (w : Val) (m : Memory) → Rows d m (on_fine (item_by w vs m) (λ u m1. operand_of d v m1))
  let_of_value v vs w m = then_rows d (item_rows d w vs m) (λ u m1. operand_rows v m1)

  let_item_rows : (v : Val) (vs : List Val) (w : Val) (m : Memory) → Rows d m (let_item_of d v vs w m)
  let_item_rows v vs (object o) m = written_on v (over_rows (item_rows d (object o) vs m))
  let_item_rows v vs w m = let_of_value v vs w m

  let_once_rows : (v : Val) (vs : List Val) (w : Val) (f : Member → Memory → Effect Next) (m : Memory) → Passes m f → Rows d m (let_once d v vs w f m)
  let_once_rows v vs w f m k = both d (is_instance w m) (let_member_rows v vs w (class_of_value d w m).default f m k) (let_item_rows v vs w m)

  pub let_along_rows : (k : ℕ) (vs : List Val) (v w : Val) (m : Memory) → Rows d m (let_along d k vs v w m)
  let_along_rows zero vs v w m = let_once_rows v vs w (λ x m1. Bad-at 450 m1) m (λ x. bad d 450 m)
  let_along_rows (suc k) vs v w m =
      let_once_rows v vs w (λ x m1. leads_on d w vs (λ p m2. let_at d p v m2) (let_item k vs v) (λ u m2. let_along d k vs v u m2) x m1) m
      (λ x. leads_on_rows w vs (λ p m2. let_at d p v m2) (let_item k vs v) (λ u m2. let_along d k vs v u m2) x m (λ p m2. let_at_rows p v m2) (λ u m2. let_along_rows k vs v u m2))

  -- ---- what arguments lead to is set

  set_by_reader_rows : (x : Member) (o : Option ℕ) (f : Member → Memory → Effect Next) (m : Memory) → Passes m f → Rows d m (set_by_reader d x o f m)
  set_by_reader_rows x None f m k = k x
  set_by_reader_rows x (Some p) f m k = both d (has_parameters (parameters_of d p)) (bad d 438 m) (k x)

  set_called_rows : (v : Val) (vs : List Val) (self : Val) (p : ℕ) (m : Memory) → Rows d m (set_called_with d v vs self p m)
  set_called_rows v vs self p m =
      then_same d _ (slots_still (without_last (parameters_of d p)) vs m) (λ xs. then_same d _ (set_object_still (last_type (parameters_of d p)) v m) (λ w. fine d))

  set_default_rows : (v : Val) (vs : List Val) (self : Val) (x : Member) (o : Option ℕ) (f : Member → Memory → Effect Next) (m : Memory) → Passes m f → Rows d m (set_default d v vs self x o f m)
  set_default_rows v vs self x None f m k = set_by_reader_rows x (reader_of x) f m k
  set_default_rows v vs self x (Some p) f m k =
      both d (has_parameters (without_last (parameters_of d p))) (set_called_rows v vs self p m) (set_by_reader_rows x (reader_of x) f m k)

  set_member_rows : (v : Val) (vs : List Val) (self : Val) (x : Option Member) (f : Member → Memory → Effect Next) (m : Memory) → Passes m f → Rows d m (set_by_member d v vs self x f m)
  set_member_rows v vs self None f m k = bad d 438 m
  set_member_rows v vs self (Some x) f m k = set_default_rows v vs self x (setter_of x) f m k

  set_of_value : (v : Val) (vs : List Val) (w : Val) (m : Memory) → Rows d m (nothing_more (on_fine (item_by w vs m) (λ u m1. on_fine (set_object (element_of w) v m1) (λ x m2. done m2))))
  set_of_value v vs w m = nothing_rows (then_rows d (item_rows d w vs m) (λ u m1. then_same d _ (set_object_still (element_of w) v m1) (λ x. fine d)))

  set_item_rows : (v : Val) (vs : List Val) (w : Val) (m : Memory) → Rows d m (set_item_of v vs w m)
  set_item_rows v vs (object o) m = then_rows d (item_rows d (object o) vs m) (λ w m1. then_same d _ (set_object_still type.variant v m1) (λ x. bad d 438 m1))
  set_item_rows v vs w m = set_of_value v vs w m

  set_once_rows : (v : Val) (vs : List Val) (w : Val) (f : Member → Memory → Effect Next) (m : Memory) → Passes m f → Rows d m (set_once d v vs w f m)
  set_once_rows v vs w f m k = both d (is_instance w m) (set_member_rows v vs w (class_of_value d w m).default f m k) (set_item_rows v vs w m)

  pub set_along_rows : (k : ℕ) (vs : List Val) (v w : Val) (m : Memory) → Rows d m (set_along d k vs v w m)
  set_along_rows zero vs v w m = set_once_rows v vs w (λ x m1. Bad-at 450 m1) m (λ x. bad d 450 m)
  set_along_rows (suc k) vs v w m =
      set_once_rows v vs w (λ x m1. leads_on d w vs (λ p m2. nothing_more (set_at p v m2)) (set_item k vs v) (λ u m2. set_along d k vs v u m2) x m1) m
      (λ x. leads_on_rows w vs (λ p m2. nothing_more (set_at p v m2)) (set_item k vs v) (λ u m2. set_along d k vs v u m2) x m (λ p m2. nothing_rows (set_at_rows d p v m2)) (λ u m2. set_along_rows k vs v u m2))

  -- ---- For Each over an object of a class

  pub enumerator_rows : (v : Val) (m : Memory) → Rows d m (enumerator_of d v m)
  enumerator_rows v m = both d (is_instance v m) (after_rows walked (read_default_rows v (class_of_value d v m).enumerator m) (λ w m1. of_still d (collection_here_still w m1))) (fine d)

  -- ---- tasks

  task_rows : (t : Task) (v : Val) (m : Memory) → Rows d m (task_next d t v m)
  task_rows as_operand v m = operand_rows v m
  task_rows no_object v m = of_still d (no_object_still v m)
  task_rows give_way v m = both d (is_instance v m) (operand_rows v m) (fine d)
  task_rows walked v m = of_still d (collection_here_still v m)
  task_rows (fit_to of) v m = over_rows (of_still d (fitted_still of v m))
  task_rows (index_by k vs) v m = index_along_rows k vs v m
  task_rows (write k w) v m = write_along_rows k w v m
  task_rows (let_item k vs w) v m = let_along_rows k vs w v m
  task_rows (set_item k vs w) v m = set_along_rows k vs w v m
  task_rows (put_in spot) v m = put_value_rows spot v m
  task_rows (read_made q w) v m = read_made_rows q w None m

  followed_rows : (ts : List Task) (f : Val → Memory → Effect Next) (n : Next) (m : Memory) → ((v : Val) → Rows d m (f v m)) → Rows d m (followed ts f n m)
  followed_rows ts f (gives v) m k = k v
  followed_rows ts f (then_call p self xs more) m k = fine d

  pub tasks_rows : (ts : List Task) (v : Val) (m : Memory) → Rows d m (tasks_next d ts v m)
  tasks_rows [] v m = fine d
  tasks_rows (t ∷ ts) v m = then_rows d (task_rows t v m) (λ n m1. followed_rows ts (λ w m2. tasks_next d ts w m2) n m1 (λ w. tasks_rows ts w m1))

  pub use_then_rows : (ts : List Task) {m : Memory} {e : Effect Next} → Rows d m e → Rows d m (use_then d ts e)
  use_then_rows ts a = then_rows d a (λ n m1. followed_rows ts (λ w m2. tasks_next d ts w m2) n m1 (λ w. tasks_rows ts w m1))
