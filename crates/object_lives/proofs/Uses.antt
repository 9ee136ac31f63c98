-- Uses of objects along default members.
use Rattle.std.proofs.Common.{ℕ, zero, suc, List, [], ◌∷◌, map, Option, Some, None}
use Rattle.std.specs.Prelude.{◌&&◌, if◌then◌else◌}
use Rattle.vba_values.specs.Types.{Declared}
use Rattle.vba_values.specs.Types as type
use Rattle.vba_values.specs.Val.{Val, missing, object}
use Rattle.bound_project.specs.Project.{Declarations, Parameter, Member, is_variable, is_procedure, is_property, procedure_at}
use Rattle.vba_meaning.specs.Paths.{Path}
use Rattle.vba_meaning.specs.Memory.{value, Memory, top, value_at}
use Rattle.vba_meaning.specs.Effects.{Effect, Fine, Bad-at, on_fine, done, set_object, slot_left_out}
use Rattle.vba_meaning.specs.Objects.{initialize_of, set_at}
use Rattle.vba_meaning.specs.Host.{is_counted, item_by}
use Rattle.bound_project.specs.Parameters.{parameters_of, any_must, without_last, last_type, has_parameters}
use Rattle.vba_meaning.specs.Defaults.{Spot, in_variable, by_let, in_range, in_member, Task, as_operand, no_object, give_way, walked, fit_to, index_by, write, let_item, set_item, put_in, read_made, Next, gives, then_call, over_with, goes_by, after_use, is_instance, class_of_value, variable_of, is_object_type, can_be_object, is_sub_kind, has_default_alone, read_by, read_made_by, read_variable, read_member, read_default, no_object_here, counted_operand, counted_if_any, has_items, collection_here, enumerator_of, operand_of, given_to, slots_from, slot_given, slots_in, too_many, too_few, index_default, index_member, index_once, index_along, has_array, element_by, item_along, in_place, leads_on, takes_itself, nothing_more, put_value, put, let_at, takes_value, write_host, write_default, write_member, write_once, write_along, reader_of, let_by_reader, let_setter, let_default, let_member, let_item_of, let_once, let_along, set_called_with, set_by_reader, setter_of, set_default, set_by_member, element_of, set_item_of, set_once, set_along, most_passed, task_next, followed, tasks_next, use_then}
use Rattle.object_lives.proofs.Values.{none_in, in_then}
use Rattle.object_lives.proofs.Held.{World, Reach, bare_from, SlotIn, Slots, TaskIn, packed_in, slots_append, slots_of_values, tasks_append, task_more}
use Rattle.object_lives.proofs.Near.{Near, reach, given_root, wider, Ready}
use Rattle.object_lives.proofs.Chains.{Any, Given, GivenAll, GivenPath, LeadsOn, GivenSlot, GivenSlots, GivenSpot, GivenTasks, GivenNext, still, still_all, still_path, still_slot, still_slots, still_spot, still_tasks, Safe, fine, bad, then_next, then_safe, both}
use Rattle.object_lives.proofs.Variables.{plain_safe, fitted_safe, set_object_safe, read_path_safe, made_for_safe, stored_made_safe, assigned_safe, set_at_safe}
use Rattle.object_lives.proofs.Arrays.{element_in_safe}
use Rattle.object_lives.proofs.Hosts.{item_safe, plains_safe, written_default_safe, member_assigned_safe}

-- ---- what parameters have to which nothing is given

-- it refers to nothing
abbrev pub Bare : List Parameter → Type 0
Bare [] = Unit {0}
Bare (q ∷ qs) = SlotIn (bare_from 0) (slot_left_out q) × Bare qs

pub left_slots : (hs : Reach) (qs : List Parameter) → Bare qs → Slots hs (map slot_left_out qs)
left_slots hs [] h = tt
left_slots hs (q ∷ qs) h = (in_then h.0 (none_in hs.held), left_slots hs qs h.1)

pub bare_but_last : (qs : List Parameter) → Bare qs → Bare (without_last qs)
bare_but_last [] h = tt
bare_but_last (q ∷ []) h = tt
bare_but_last (q ∷ r ∷ qs) h = (h.0, bare_but_last (r ∷ qs) h.1)

module _ (Sure : World) where
  abbrev pub Uses : Memory → Effect Next → Type 0
  Uses m e = Safe Sure (GivenNext Sure.asks) m e

  -- ---- one after another

  pub over_safe : {m : Memory} {e : Effect Val} → Safe Sure Given m e → Uses m (over_with e)
  over_safe a = then_next a (λ v m1 n q. fine q)

  pub nothing_safe : {m : Memory} {e : Effect (Unit {0})} → Safe Sure Any m e → Uses m (nothing_more e)
  nothing_safe a = then_next a (λ v m1 n q. fine (λ s. none_in (top m1).held))

  goes_safe : (t : Task) (f : Val → Memory → Effect Next) (n : Next) (m : Memory) → (Sure.sure → TaskIn (reach Sure.asks m) t) → (Sure.sure → GivenNext Sure.asks m n) → ((v : Val) → (Sure.sure → Given m v) → Uses m (f v m)) → Uses m (goes_by t f n m)
  goes_safe t f (gives v) m h g k = k v g
  goes_safe t f (then_call p self xs ts) m h g k = fine (λ s. ((g s).0, (g s).1, tasks_append (reach Sure.asks m) ts (t ∷ []) (g s).2 (h s, tt)))

  pub after_safe : {m : Memory} {e : Effect Next} (t : Task) {f : Val → Memory → Effect Next} → (Sure.sure → Ready Sure.asks m) → Uses m e → (Sure.sure → TaskIn (reach Sure.asks m) t)
      → ((v : Val) (m1 : Memory) → (Sure.sure → Ready Sure.asks m1) → (Sure.sure → Near Sure.asks m m1) → (Sure.sure → Given m1 v) → Uses m1 (f v m1)) → Uses m (after_use e t f)
  after_safe t {f = f} r a h k = then_safe r a (λ n m1 r1 n1 q1. goes_safe t f n m1 (λ s. task_more (wider (n1 s)) t (h s)) q1 (λ v g. k v m1 r1 n1 g))

  module _ (d : Declarations) (bare : Sure.sure → (p : ℕ) → Bare (parameters_of d p)) where
    -- ---- a member is read

    read_by_safe : (p : ℕ) (self : Val) (m : Memory) → (Sure.sure → Given m self) → Uses m (read_by d p self m)
    read_by_safe p self m h = both (any_must (parameters_of d p)) (bad 449 m) (fine (λ s. (h s, left_slots (reach Sure.asks m) (parameters_of d p) (bare s p), tt)))

    read_made_safe : (q : Path) (v : Val) (o : Option ℕ) (m : Memory) → (Sure.sure → Ready Sure.asks m) → (Sure.sure → GivenPath Sure.asks m q) → (Sure.sure → Given m v) → Uses m (read_made_by q v o m)
    read_made_safe q v None m r g h = then_safe r (stored_made_safe Sure q v m r g h) (λ u m1 r1 n1 q1. over_safe (read_path_safe Sure q m1 r1 (still_path n1 q g)))
    read_made_safe q v (Some p) m r g h = fine (λ s. (h s, tt, ((g s, h s), tt)))

    pub read_variable_safe : (q : Path) (m : Memory) → (Sure.sure → Ready Sure.asks m) → (Sure.sure → GivenPath Sure.asks m q) → Uses m (read_variable d q m)
    read_variable_safe q m r g = then_safe r (made_for_safe Sure d q m) (λ v m1 r1 n1 q1. read_made_safe q v (initialize_of d q v) m1 r1 (still_path n1 q g) q1)

    pub read_member_safe : (v : Val) (x : Member) (m : Memory) → (Sure.sure → Ready Sure.asks m) → (Sure.sure → Given m v) → Uses m (read_member d v x m)
    read_member_safe v (is_variable i makes) m r h = read_variable_safe (variable_of d v i makes m) m r (λ s. given_root Sure.asks m v (h s))
    read_member_safe v (is_procedure p) m r h = read_by_safe p v m h
    read_member_safe v (is_property (Some p) lets sets) m r h = read_by_safe p v m h
    read_member_safe v (is_property None lets sets) m r h = bad 438 m

    read_default_safe : (v : Val) (x : Option Member) (m : Memory) → (Sure.sure → Ready Sure.asks m) → (Sure.sure → Given m v) → Uses m (read_default d v x m)
    read_default_safe v None m r h = bad 438 m
    read_default_safe v (Some x) m r h = read_member_safe v x m r h

    -- ---- operands

    no_object_safe : (v : Val) (m : Memory) → (Sure.sure → Given m v) → Uses m (no_object_here v m)
    no_object_safe (object o) m h = bad 438 m
    no_object_safe v m h = fine h

    pub counted_operand_safe : (v : Val) (m : Memory) → (Sure.sure → Ready Sure.asks m) → (Sure.sure → Given m v) → Uses m (counted_operand d v m)
    counted_operand_safe v m r h =
        both (is_instance v m) (after_safe no_object r (read_default_safe v (class_of_value d v m).default m r h) (λ s. tt) (λ w m1 r1 n1 q1. no_object_safe w m1 q1)) (bad 449 m)

    pub counted_if_any_safe : (v : Val) (m : Memory) → (Sure.sure → Ready Sure.asks m) → (Sure.sure → Given m v) → Uses m (counted_if_any d v m)
    counted_if_any_safe v m r h =
        both (is_instance v m && has_default_alone d (class_of_value d v m).default) (read_default_safe v (class_of_value d v m).default m r h) (fine h)

    operand_safe : (v : Val) (m : Memory) → (Sure.sure → Ready Sure.asks m) → (Sure.sure → Given m v) → Uses m (operand_of d v m)
    operand_safe v m r h = both (is_counted v) (counted_operand_safe v m r h) (over_safe (plain_safe Sure v m h))

    -- ---- arguments that index

    given_to_safe : (of : Declared) (v : Val) (m : Memory) → (Sure.sure → Given m v) → Safe Sure Given m (given_to of v m)
    given_to_safe of v m h = both (can_be_object of) (fitted_safe Sure of v m h) (then_next (plain_safe Sure v m h) (λ w m1 n1 q1. fitted_safe Sure of w m1 q1))

    slot_safe : (q : Parameter) (v : Val) (m : Memory) → (Sure.sure → SlotIn (bare_from 0) (slot_left_out q)) → (Sure.sure → Given m v) → Safe Sure (GivenSlot Sure.asks) m (slot_given q v m)
    slot_safe q missing m b h = fine (λ s. in_then (b s) (none_in (top m).held))
    slot_safe q v m b h = then_next (given_to_safe q.of v m h) (λ w m1 n1 q1. fine q1)

    -- a ParamArray has all further ones
    slots_in_safe : (qs : List Parameter) (vs : List Val) (m : Memory) → (Sure.sure → Bare qs) → (Sure.sure → GivenAll m vs) → Safe Sure (GivenSlots Sure.asks) m (slots_in qs vs m)
    slots_in_safe [] vs m b h = fine (λ s. tt)
    slots_in_safe (q ∷ qs) [] m b h =
        then_next (slots_in_safe qs [] m (λ s. (b s).1) (λ s. tt)) (λ xs m1 n1 q1. fine (λ s. (in_then (b s).0 (none_in (top m1).held), q1 s)))
    slots_in_safe (q ∷ qs) (v ∷ vs) m b h =
        both q.many (fine (λ s. (packed_in (reach Sure.asks m) (map value (v ∷ vs)) (slots_of_values (reach Sure.asks m) (v ∷ vs) (h s)), tt)))
        (then_next (slot_safe q v m (λ s. (b s).0) (λ s. (h s).0)) (λ x m1 n1 q1.
        then_next (slots_in_safe qs vs m1 (λ s. (b s).1) (still_all n1 vs (λ s. (h s).1))) (λ xs m2 n2 q2. fine (λ s. (still_slot n2 x q1 s, q2 s)))))

    pub slots_safe : (qs : List Parameter) (vs : List Val) (m : Memory) → (Sure.sure → Bare qs) → (Sure.sure → GivenAll m vs) → Safe Sure (GivenSlots Sure.asks) m (slots_from qs vs m)
    slots_safe qs vs m b h = both (too_many qs vs) (bad 450 m) (both (too_few qs vs) (bad 449 m) (slots_in_safe qs vs m b h))

    -- of what passes a default member
    abbrev Passes : Memory → (Member → Memory → Effect Next) → Type 0
    Passes m f = (x : Member) → Uses m (f x m)

    taken_or_passed : (p : ℕ) (w : Val) (vs : List Val) (x : Member) (f : Member → Memory → Effect Next) (m : Memory) → (Sure.sure → Given m w) → (Sure.sure → GivenAll m vs) → Passes m f
        → Uses m (if has_parameters (parameters_of d p) then on_fine (slots_from (parameters_of d p) vs m) (λ xs m1. Fine (then_call p w xs []) m1) else f x m)
    taken_or_passed p w vs x f m h g k =
        both (has_parameters (parameters_of d p)) (then_next (slots_safe (parameters_of d p) vs m (λ s. bare s p) g) (λ xs m1 n1 q1. fine (λ s. (still n1 w h s, q1 s, tt)))) (k x)

    index_default_safe : (w : Val) (vs : List Val) (x : Member) (f : Member → Memory → Effect Next) (m : Memory) → (Sure.sure → Given m w) → (Sure.sure → GivenAll m vs) → Passes m f → Uses m (index_default d w vs x f m)
    index_default_safe w vs (is_variable i makes) f m h g k = k (is_variable i makes)
    index_default_safe w vs (is_procedure p) f m h g k = taken_or_passed p w vs (is_procedure p) f m h g k
    index_default_safe w vs (is_property (Some p) lets sets) f m h g k = taken_or_passed p w vs (is_property (Some p) lets sets) f m h g k
    index_default_safe w vs (is_property None lets sets) f m h g k = k (is_property None lets sets)

    index_member_safe : (w : Val) (vs : List Val) (x : Option Member) (f : Member → Memory → Effect Next) (m : Memory) → (Sure.sure → Given m w) → (Sure.sure → GivenAll m vs) → Passes m f → Uses m (index_member d w vs x f m)
    index_member_safe w vs None f m h g k = bad 438 m
    index_member_safe w vs (Some x) f m h g k = index_default_safe w vs x f m h g k

    index_once_safe : (w : Val) (vs : List Val) (f : Member → Memory → Effect Next) (m : Memory) → (Sure.sure → Ready Sure.asks m) → (Sure.sure → Given m w) → (Sure.sure → GivenAll m vs) → Passes m f → Uses m (index_once d w vs f m)
    index_once_safe w vs f m r h g k = both (is_instance w m) (index_member_safe w vs (class_of_value d w m).default f m h g k) (over_safe (item_safe Sure w vs m r h))

    pub index_along_safe : (k : ℕ) (vs : List Val) (w : Val) (m : Memory) → (Sure.sure → Ready Sure.asks m) → (Sure.sure → Given m w) → (Sure.sure → GivenAll m vs) → Uses m (index_along d k vs w m)
    index_along_safe zero vs w m r h g = index_once_safe w vs (λ x m1. Bad-at 450 m1) m r h g (λ x. bad 450 m)
    index_along_safe (suc k) vs w m r h g =
        index_once_safe w vs (λ x m1. after_use (read_member d w x m1) (index_by k vs) (λ u m2. index_along d k vs u m2)) m r h g (λ x. after_safe (index_by k vs) r (read_member_safe w x m r h) g (λ u m2 r2 n2 q2. index_along_safe k vs u m2 r2 q2 (still_all n2 vs g)))

    -- ---- arguments behind a place

    pub element_by_safe : (q : Path) (vs : List Val) (m : Memory) → (Sure.sure → GivenPath Sure.asks m q) → Safe Sure (LeadsOn Sure.asks q) m (element_by q vs m)
    element_by_safe q vs m g = then_next (plains_safe Sure vs m) (λ ws m1 n1 q1. element_in_safe Sure q (value_at m1 q) ws m1 (still_path n1 q g))

    pub item_along_safe : (q : Path) (vs : List Val) (m : Memory) → (Sure.sure → Ready Sure.asks m) → (Sure.sure → GivenPath Sure.asks m q) → (Sure.sure → GivenAll m vs) → Uses m (item_along d q vs m)
    item_along_safe q vs m r g h =
        after_safe (index_by most_passed vs) r (read_variable_safe q m r g) h (λ w m1 r1 n1 q1. index_along_safe most_passed vs w m1 r1 q1 (still_all n1 vs h))

    -- of what is done to a place, and with a value, in a later memory
    abbrev pub Stores : Memory → (Path → Memory → Effect Next) → Type 0
    Stores m f = (p : Path) (m1 : Memory) → (Sure.sure → Ready Sure.asks m1) → (Sure.sure → Near Sure.asks m m1) → (Sure.sure → GivenPath Sure.asks m1 p) → Uses m1 (f p m1)

    abbrev pub GoesOn : Memory → (Val → Memory → Effect Next) → Type 0
    GoesOn m f = (v : Val) (m1 : Memory) → (Sure.sure → Ready Sure.asks m1) → (Sure.sure → Near Sure.asks m m1) → (Sure.sure → Given m1 v) → Uses m1 (f v m1)

    pub in_place_safe : (q : Path) (vs : List Val) (t : Task) {f : Path → Memory → Effect Next} {f1 : Val → Memory → Effect Next} (m : Memory) → (Sure.sure → Ready Sure.asks m) → (Sure.sure → GivenPath Sure.asks m q) → (Sure.sure → TaskIn (reach Sure.asks m) t) → Stores m f → GoesOn m f1
        → Uses m (in_place d q vs f t f1 m)
    in_place_safe q vs t m r g i k k1 = both (has_array q m) (then_safe r (element_by_safe q vs m g) (λ p m1 r1 n1 q1. k p m1 r1 n1 (λ s. (q1 s).0))) (after_safe t r (read_variable_safe q m r g) i k1)

    leads_safe : (self : Val) (vs : List Val) (t : Task) {f : Path → Memory → Effect Next} {f1 : Val → Memory → Effect Next} (x : Member) (m : Memory) → (Sure.sure → Ready Sure.asks m) → (Sure.sure → Given m self) → (Sure.sure → TaskIn (reach Sure.asks m) t) → Stores m f → GoesOn m f1
        → Uses m (leads_on d self vs f t f1 x m)
    leads_safe self vs t (is_variable i makes) m r h g k k1 = in_place_safe (variable_of d self i makes m) vs t m r (λ s. given_root Sure.asks m self (h s)) g k k1
    leads_safe self vs t (is_procedure p) m r h g k k1 = after_safe t r (read_member_safe self (is_procedure p) m r h) g k1
    leads_safe self vs t (is_property reads lets sets) m r h g k k1 = after_safe t r (read_member_safe self (is_property reads lets sets) m r h) g k1

    -- ---- a value is put where it goes

    put_value_safe : (spot : Spot) (v : Val) (m : Memory) → (Sure.sure → Ready Sure.asks m) → (Sure.sure → Given m v) → (Sure.sure → GivenSpot Sure.asks m spot) → Uses m (put_value d spot v m)
    put_value_safe (in_variable q) v m r h g = nothing_safe (assigned_safe Sure q v m r g h)
    put_value_safe (by_let p self xs) v m r h g =
        then_next (fitted_safe Sure (last_type (parameters_of d p)) v m h) (λ w m1 n1 q1.
        fine (λ s. (still n1 self (λ t. (g t).0) s, slots_append (reach Sure.asks m1) xs (value w ∷ []) (still_slots n1 xs (λ t. (g t).1) s) (q1 s, tt), tt)))
    put_value_safe (in_range w) v m r h g = nothing_safe (written_default_safe Sure w v m)
    put_value_safe (in_member name vs base begun) v m r h g = nothing_safe (member_assigned_safe Sure d name vs base begun v m r (λ s. (g s).2))

    pub put_safe : (spot : Spot) (v : Val) (m : Memory) → (Sure.sure → Ready Sure.asks m) → (Sure.sure → Given m v) → (Sure.sure → GivenSpot Sure.asks m spot) → Uses m (put d spot v m)
    put_safe spot v m r h g =
        both (takes_itself d spot) (put_value_safe spot v m r h g)
        (after_safe (put_in spot) r (operand_safe v m r h) g (λ w m1 r1 n1 q1. put_value_safe spot w m1 r1 q1 (still_spot n1 spot g)))

    -- ---- a default member is written

    write_host_safe : (v w : Val) (m : Memory) → (Sure.sure → Ready Sure.asks m) → (Sure.sure → Given m v) → (Sure.sure → Given m w) → Uses m (write_host d v w m)
    write_host_safe v w m r h g = both (takes_value w) (put_safe (in_range w) v m r h g) (nothing_safe (written_default_safe Sure w v m))

    write_default_safe : (v w : Val) (x : Member) (f : Member → Memory → Effect Next) (m : Memory) → (Sure.sure → Ready Sure.asks m) → (Sure.sure → Given m v) → (Sure.sure → Given m w) → Passes m f → Uses m (write_default d v w x f m)
    write_default_safe v w (is_variable i makes) f m r h g k =
        both (is_object_type (variable_of d w i makes m).of) (k (is_variable i makes)) (put_safe (in_variable (variable_of d w i makes m)) v m r h (λ s. given_root Sure.asks m w (g s)))
    write_default_safe v w (is_procedure p) f m r h g k = both (is_sub_kind (procedure_at d p).kind) (bad 438 m) (k (is_procedure p))
    write_default_safe v w (is_property reads (Some p) sets) f m r h g k =
        both (any_must (without_last (parameters_of d p))) (bad 449 m)
        (put_safe (by_let p w (map slot_left_out (without_last (parameters_of d p)))) v m r h (λ s. (g s, left_slots (reach Sure.asks m) (without_last (parameters_of d p)) (bare_but_last (parameters_of d p) (bare s p)))))
    write_default_safe v w (is_property reads None sets) f m r h g k = k (is_property reads None sets)

    write_member_safe : (v w : Val) (x : Option Member) (f : Member → Memory → Effect Next) (m : Memory) → (Sure.sure → Ready Sure.asks m) → (Sure.sure → Given m v) → (Sure.sure → Given m w) → Passes m f → Uses m (write_member d v w x f m)
    write_member_safe v w None f m r h g k = bad 438 m
    write_member_safe v w (Some x) f m r h g k = write_default_safe v w x f m r h g k

    write_once_safe : (v w : Val) (f : Member → Memory → Effect Next) (m : Memory) → (Sure.sure → Ready Sure.asks m) → (Sure.sure → Given m v) → (Sure.sure → Given m w) → Passes m f → Uses m (write_once d v w f m)
    write_once_safe v w f m r h g k = both (is_instance w m) (write_member_safe v w (class_of_value d w m).default f m r h g k) (write_host_safe v w m r h g)

    pub write_along_safe : (k : ℕ) (v w : Val) (m : Memory) → (Sure.sure → Ready Sure.asks m) → (Sure.sure → Given m v) → (Sure.sure → Given m w) → Uses m (write_along d k v w m)
    write_along_safe zero v w m r h g = write_once_safe v w (λ x m1. Bad-at 450 m1) m r h g (λ x. bad 450 m)
    write_along_safe (suc k) v w m r h g =
        write_once_safe v w (λ x m1. after_use (read_member d w x m1) (write k v) (λ u m2. write_along d k v u m2)) m r h g (λ x. after_safe (write k v) r (read_member_safe w x m r g) h (λ u m2 r2 n2 q2. write_along_safe k v u m2 r2 (still n2 v h) q2))

    -- ---- what arguments lead to takes a value

    pub written_safe : (v : Val) {m : Memory} {e : Effect Next} → (Sure.sure → Ready Sure.asks m) → (Sure.sure → Given m v) → Uses m e → Uses m (after_use e (write most_passed v) (λ w m1. write_along d most_passed v w m1))
    written_safe v r h a = after_safe (write most_passed v) r a h (λ w m1 r1 n1 q1. write_along_safe most_passed v w m1 r1 (still n1 v h) q1)

    pub let_at_safe : (q : Path) (v : Val) (m : Memory) → (Sure.sure → Ready Sure.asks m) → (Sure.sure → GivenPath Sure.asks m q) → (Sure.sure → Given m v) → Uses m (let_at d q v m)
    let_at_safe q v m r g h = both (is_object_type q.of) (written_safe v r h (read_variable_safe q m r g)) (put_safe (in_variable q) v m r h g)

    let_by_reader_safe : (v : Val) (vs : List Val) (self : Val) (x : Member) (o : Option ℕ) (f : Member → Memory → Effect Next) (m : Memory) → (Sure.sure → Given m v) → (Sure.sure → GivenAll m vs) → (Sure.sure → Given m self) → Passes m f
        → Uses m (let_by_reader d v vs self x o f m)
    let_by_reader_safe v vs self x None f m h g i k = k x
    let_by_reader_safe v vs self x (Some p) f m h g i k =
        both (has_parameters (parameters_of d p))
        (then_next (slots_safe (parameters_of d p) vs m (λ s. bare s p) g) (λ xs m1 n1 q1. fine (λ s. (still n1 self i s, q1 s, (still n1 v h s, tt))))) (k x)

    let_default_safe : (v : Val) (vs : List Val) (self : Val) (x : Member) (o : Option ℕ) (f : Member → Memory → Effect Next) (m : Memory) → (Sure.sure → Ready Sure.asks m) → (Sure.sure → Given m v) → (Sure.sure → GivenAll m vs) → (Sure.sure → Given m self) → Passes m f
        → Uses m (let_default d v vs self x o f m)
    let_default_safe v vs self x None f m r h g i k = let_by_reader_safe v vs self x (reader_of x) f m h g i k
    let_default_safe v vs self x (Some p) f m r h g i k =
        both (has_parameters (without_last (parameters_of d p)))
        (then_safe r (slots_safe (without_last (parameters_of d p)) vs m (λ s. bare_but_last (parameters_of d p) (bare s p)) g) (λ xs m1 r1 n1 q1.
        put_safe (by_let p self xs) v m1 r1 (still n1 v h) (λ s. (still n1 self i s, q1 s))))
        (let_by_reader_safe v vs self x (reader_of x) f m h g i k)

    let_member_safe : (v : Val) (vs : List Val) (self : Val) (x : Option Member) (f : Member → Memory → Effect Next) (m : Memory) → (Sure.sure → Ready Sure.asks m) → (Sure.sure → Given m v) → (Sure.sure → GivenAll m vs) → (Sure.sure → Given m self) → Passes m f
        → Uses m (let_member d v vs self x f m)
    let_member_safe v vs self None f m r h g i k = bad 438 m
    let_member_safe v vs self (Some x) f m r h g i k = let_default_safe v vs self x (let_setter x) f m r h g i k

    other_item : (v : Val) (vs : List Val) (w : Val) (m : Memory) → (Sure.sure → Ready Sure.asks m) → (Sure.sure → Given m v) → (Sure.sure → Given m w) → Uses m (on_fine (item_by w vs m) (λ u m1. operand_of d v m1))
    other_item v vs w m r h i = then_safe r (item_safe Sure w vs m r i) (λ u m1 r1 n1 q1. operand_safe v m1 r1 (still n1 v h))

    let_item_safe : (v : Val) (vs : List Val) (w : Val) (m : Memory) → (Sure.sure → Ready Sure.asks m) → (Sure.sure → Given m v) → (Sure.sure → Given m w) → Uses m (let_item_of d v vs w m)
    let_item_safe v vs (object o) m r h i =
        after_safe (write most_passed v) r (over_safe (item_safe Sure (object o) vs m r i)) h (λ w m1 r1 n1 q1. write_along_safe most_passed v w m1 r1 (still n1 v h) q1)
    let_item_safe v vs w m r h i = other_item v vs w m r h i

    let_once_safe : (v : Val) (vs : List Val) (w : Val) (f : Member → Memory → Effect Next) (m : Memory) → (Sure.sure → Ready Sure.asks m) → (Sure.sure → Given m v) → (Sure.sure → GivenAll m vs) → (Sure.sure → Given m w) → Passes m f → Uses m (let_once d v vs w f m)
    let_once_safe v vs w f m r h g i k = both (is_instance w m) (let_member_safe v vs w (class_of_value d w m).default f m r h g i k) (let_item_safe v vs w m r h i)

    pub let_along_safe : (k : ℕ) (vs : List Val) (v w : Val) (m : Memory) → (Sure.sure → Ready Sure.asks m) → (Sure.sure → Given m v) → (Sure.sure → GivenAll m vs) → (Sure.sure → Given m w) → Uses m (let_along d k vs v w m)
    let_along_safe zero vs v w m r h g i = let_once_safe v vs w (λ x m1. Bad-at 450 m1) m r h g i (λ x. bad 450 m)
    let_along_safe (suc k) vs v w m r h g i =
        let_once_safe v vs w (λ x m1. leads_on d w vs (λ p m2. let_at d p v m2) (let_item k vs v) (λ u m2. let_along d k vs v u m2) x m1) m r h g i (λ x.
        leads_safe w vs (let_item k vs v) x m r i (λ s. (g s, h s)) (λ p m2 r2 n2 q2. let_at_safe p v m2 r2 q2 (still n2 v h)) (λ u m2 r2 n2 q2. let_along_safe k vs v u m2 r2 (still n2 v h) (still_all n2 vs g) q2))

    -- ---- what arguments lead to is set

    set_called_safe : (v : Val) (vs : List Val) (self : Val) (p : ℕ) (m : Memory) → (Sure.sure → Given m v) → (Sure.sure → GivenAll m vs) → (Sure.sure → Given m self) → Uses m (set_called_with d v vs self p m)
    set_called_safe v vs self p m h g i =
        then_next (slots_safe (without_last (parameters_of d p)) vs m (λ s. bare_but_last (parameters_of d p) (bare s p)) g) (λ xs m1 n1 q1.
        then_next (set_object_safe Sure (last_type (parameters_of d p)) v m1 (still n1 v h)) (λ w m2 n2 q2.
        fine (λ s. (still n2 self (still n1 self i) s, slots_append (reach Sure.asks m2) xs (value w ∷ []) (still_slots n2 xs q1 s) (q2 s, tt), tt))))

    set_by_reader_safe : (x : Member) (o : Option ℕ) (f : Member → Memory → Effect Next) (m : Memory) → Passes m f → Uses m (set_by_reader d x o f m)
    set_by_reader_safe x None f m k = k x
    set_by_reader_safe x (Some p) f m k = both (has_parameters (parameters_of d p)) (bad 438 m) (k x)

    set_default_safe : (v : Val) (vs : List Val) (self : Val) (x : Member) (o : Option ℕ) (f : Member → Memory → Effect Next) (m : Memory) → (Sure.sure → Given m v) → (Sure.sure → GivenAll m vs) → (Sure.sure → Given m self) → Passes m f
        → Uses m (set_default d v vs self x o f m)
    set_default_safe v vs self x None f m h g i k = set_by_reader_safe x (reader_of x) f m k
    set_default_safe v vs self x (Some p) f m h g i k =
        both (has_parameters (without_last (parameters_of d p))) (set_called_safe v vs self p m h g i) (set_by_reader_safe x (reader_of x) f m k)

    set_by_member_safe : (v : Val) (vs : List Val) (self : Val) (x : Option Member) (f : Member → Memory → Effect Next) (m : Memory) → (Sure.sure → Given m v) → (Sure.sure → GivenAll m vs) → (Sure.sure → Given m self) → Passes m f
        → Uses m (set_by_member d v vs self x f m)
    set_by_member_safe v vs self None f m h g i k = bad 438 m
    set_by_member_safe v vs self (Some x) f m h g i k = set_default_safe v vs self x (setter_of x) f m h g i k

    other_set : (v : Val) (vs : List Val) (w : Val) (m : Memory) → (Sure.sure → Ready Sure.asks m) → (Sure.sure → Given m v) → (Sure.sure → Given m w)
        → Uses m (nothing_more (on_fine (item_by w vs m) (λ u m1. on_fine (set_object (element_of w) v m1) (λ x m2. done m2))))
    other_set v vs w m r h i =
        nothing_safe {e = on_fine (item_by w vs m) (λ u m1. on_fine (set_object (element_of w) v m1) (λ x m2. done m2))}
        (then_next (item_safe Sure w vs m r i) (λ u m1 n1 q1. then_next (set_object_safe Sure (element_of w) v m1 (still n1 v h)) (λ x m2 n2 q2. fine (λ s. tt))))

    set_item_safe : (v : Val) (vs : List Val) (w : Val) (m : Memory) → (Sure.sure → Ready Sure.asks m) → (Sure.sure → Given m v) → (Sure.sure → Given m w) → Uses m (set_item_of v vs w m)
    set_item_safe v vs (object o) m r h i =
        then_next (item_safe Sure (object o) vs m r i) (λ w m1 n1 q1. then_next (set_object_safe Sure type.variant v m1 (still n1 v h)) (λ x m2 n2 q2. bad 438 m2))
    set_item_safe v vs w m r h i = other_set v vs w m r h i

    set_once_safe : (v : Val) (vs : List Val) (w : Val) (f : Member → Memory → Effect Next) (m : Memory) → (Sure.sure → Ready Sure.asks m) → (Sure.sure → Given m v) → (Sure.sure → GivenAll m vs) → (Sure.sure → Given m w) → Passes m f → Uses m (set_once d v vs w f m)
    set_once_safe v vs w f m r h g i k = both (is_instance w m) (set_by_member_safe v vs w (class_of_value d w m).default f m h g i k) (set_item_safe v vs w m r h i)

    pub set_along_safe : (k : ℕ) (vs : List Val) (v w : Val) (m : Memory) → (Sure.sure → Ready Sure.asks m) → (Sure.sure → Given m v) → (Sure.sure → GivenAll m vs) → (Sure.sure → Given m w) → Uses m (set_along d k vs v w m)
    set_along_safe zero vs v w m r h g i = set_once_safe v vs w (λ x m1. Bad-at 450 m1) m r h g i (λ x. bad 450 m)
    set_along_safe (suc k) vs v w m r h g i =
        set_once_safe v vs w (λ x m1. leads_on d w vs (λ p m2. nothing_more (set_at p v m2)) (set_item k vs v) (λ u m2. set_along d k vs v u m2) x m1) m r h g i (λ x.
        leads_safe w vs (set_item k vs v) x m r i (λ s. (g s, h s)) (λ p m2 r2 n2 q2. nothing_safe (set_at_safe Sure p v m2 r2 q2 (still n2 v h))) (λ u m2 r2 n2 q2. set_along_safe k vs v u m2 r2 (still n2 v h) (still_all n2 vs g) q2))

    -- ---- For Each over an object of a class

    collection_safe : (v : Val) (m : Memory) → (Sure.sure → Given m v) → Uses m (collection_here v m)
    collection_safe v m h = both (has_items v m) (fine h) (bad 438 m)

    pub enumerator_safe : (v : Val) (m : Memory) → (Sure.sure → Ready Sure.asks m) → (Sure.sure → Given m v) → Uses m (enumerator_of d v m)
    enumerator_safe v m r h =
        both (is_instance v m) (after_safe walked r (read_default_safe v (class_of_value d v m).enumerator m r h) (λ s. tt) (λ w m1 r1 n1 q1. collection_safe w m1 q1)) (fine h)

    -- ---- tasks

    task_safe : (t : Task) (v : Val) (m : Memory) → (Sure.sure → Ready Sure.asks m) → (Sure.sure → TaskIn (reach Sure.asks m) t) → (Sure.sure → Given m v) → Uses m (task_next d t v m)
    task_safe as_operand v m r g h = operand_safe v m r h
    task_safe no_object v m r g h = no_object_safe v m h
    task_safe give_way v m r g h = both (is_instance v m) (operand_safe v m r h) (fine h)
    task_safe walked v m r g h = collection_safe v m h
    task_safe (fit_to of) v m r g h = over_safe (fitted_safe Sure of v m h)
    task_safe (index_by k vs) v m r g h = index_along_safe k vs v m r h g
    task_safe (write k w) v m r g h = write_along_safe k w v m r g h
    task_safe (let_item k vs w) v m r g h = let_along_safe k vs w v m r (λ s. (g s).1) (λ s. (g s).0) h
    task_safe (set_item k vs w) v m r g h = set_along_safe k vs w v m r (λ s. (g s).1) (λ s. (g s).0) h
    task_safe (put_in spot) v m r g h = put_value_safe spot v m r h g
    task_safe (read_made q w) v m r g h = read_made_safe q w None m r (λ s. (g s).0) (λ s. (g s).1)

    followed_safe : (ts : List Task) (f : Val → Memory → Effect Next) (n : Next) (m : Memory) → (Sure.sure → GivenTasks Sure.asks m ts) → (Sure.sure → GivenNext Sure.asks m n) → ((v : Val) → (Sure.sure → Given m v) → Uses m (f v m)) → Uses m (followed ts f n m)
    followed_safe ts f (gives v) m h g k = k v g
    followed_safe ts f (then_call p self xs more) m h g k = fine (λ s. ((g s).0, (g s).1, tasks_append (reach Sure.asks m) more ts (g s).2 (h s)))

    pub tasks_safe : (ts : List Task) (v : Val) (m : Memory) → (Sure.sure → Ready Sure.asks m) → (Sure.sure → GivenTasks Sure.asks m ts) → (Sure.sure → Given m v) → Uses m (tasks_next d ts v m)
    tasks_safe [] v m r g h = fine h
    tasks_safe (t ∷ ts) v m r g h =
        then_safe r (task_safe t v m r (λ s. (g s).0) h) (λ n m1 r1 n1 q1.
        (let g1 : Sure.sure → GivenTasks Sure.asks m1 ts = still_tasks n1 ts (λ s. (g s).1) in followed_safe ts (λ w m2. tasks_next d ts w m2) n m1 g1 q1 (λ w q. tasks_safe ts w m1 r1 g1 q)))

    pub use_then_safe : (ts : List Task) {m : Memory} {e : Effect Next} → (Sure.sure → Ready Sure.asks m) → (Sure.sure → GivenTasks Sure.asks m ts) → Uses m e → Uses m (use_then d ts e)
    use_then_safe ts r g a =
        then_safe r a (λ n m1 r1 n1 q1. (let g1 : Sure.sure → GivenTasks Sure.asks m1 ts = still_tasks n1 ts g in followed_safe ts (λ w m2. tasks_next d ts w m2) n m1 g1 q1 (λ w q. tasks_safe ts w m1 r1 g1 q)))
