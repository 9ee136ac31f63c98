-- What operands refer to is held by the statement that evaluates them.
use Rattle.std.proofs.Common.{◌≡◌, ℕ, zero, suc, ◌<◌, ◌≤◌, Bool, true, false, refl, List, [], ◌∷◌, ◌++◌, map, arith}
use Rattle.std.specs.Prelude.{slice_index_or, take, drop}
use Rattle.vba_values.specs.Val.{Val, missing}
use Rattle.vba_meaning.specs.Paths.{Root, in_frame, in_project, in_fields, in_block, in_object, in_item, Path}
use Rattle.vba_meaning.specs.Memory.{Slot, value, path, rest}
use Rattle.vba_meaning.specs.References.{objects_in, objects_in_values, objects_of_reference, times}
use Rattle.vba_meaning.specs.Effects.{slot_value, slot_values, packed, reordered}
use Rattle.vba_meaning.specs.Defaults.{Spot, in_variable, by_let, in_range, in_member, Task, as_operand, no_object, give_way, walked, fit_to, index_by, write, let_item, set_item, put_in, read_made, Next, gives, then_call}
use Rattle.object_lives.proofs.Firmness.{flag}
use Rattle.object_lives.proofs.Values.{In, none_in, in_then, in_both, Refers, vals_in}

-- what is known of a run: what is taken for sure of its code, whether paths are asked to lead to variables of objects that
-- are there, and for each address which operands stay as long as their frame
pub record World : Type 1 where
  pub sure : Type 0
  pub asks : Bool
  pub firm : ℕ → List Bool

abbrev pub Asked : Bool → Type 0 → Type 0
Asked true X = X
Asked false X = Unit {0}

pub asked : {X : Type 0} (b : Bool) → X → Asked b X
asked true x = x
asked false x = tt

pub asked_more : {X Y : Type 0} (b c : Bool) → c ≡ b → (X → Y) → Asked b X → Asked c Y
asked_more true true e f h = f h
asked_more b false e f h = tt
asked_more false true e f h = absurd cc

-- what a frame refers to and leads to: the objects that it holds, and frames from one on, by their numbers
pub record Reach : Type 0 where
  -- whether paths are asked to lead to the roots alone
  pub asks : Bool
  pub held : List ℕ
  -- the objects to whose variables paths may lead
  pub roots : List ℕ
  pub floor : ℕ

-- what refers to no object itself
abbrev pub under : Bool → List ℕ → ℕ → Reach
under b os l = record { asks = b; held = []; roots = os; floor = l }

abbrev pub bare_from : ℕ → Reach
bare_from l = under false [] l

-- more is held
pub record Wider (hs ks : Reach) : Type 0 where
  pub asks : ks.asks ≡ hs.asks
  pub held : In hs.held ks.held
  pub roots : In hs.roots ks.roots
  pub floor : ks.floor ≤ hs.floor

pub bare_wider : (os : List ℕ) (ks : Reach) → In os ks.roots → Wider (under ks.asks os ks.floor) ks
bare_wider os ks i = record { asks = refl; held = none_in ks.held; roots = i; floor = omega arith }

-- ---- values, places, arguments

abbrev pub Values : List ℕ → List Val → Type 0
Values hs [] = Unit {0}
Values hs (v ∷ vs) = Refers hs v × Values hs vs

-- a path refers to the item of a Collection that it begins with; no other object that an index gave is counted. An object
-- to whose variable it leads is one of the roots
abbrev pub RootIn : Reach → Root → Type 0
RootIn hs (in_frame k x) = hs.floor ≤ k
RootIn hs (in_block k i) = hs.floor ≤ k
RootIn hs (in_object o) = objects_of_reference o ≡ []
RootIn hs (in_item v) = Refers hs.held v
RootIn hs (in_fields o i) = Asked hs.asks (0 < times o hs.roots)
RootIn hs root = Unit {0}

abbrev pub PathIn : Reach → Path → Type 0
PathIn hs q = RootIn hs q.root

abbrev pub Paths : Reach → List Path → Type 0
Paths hs [] = Unit {0}
Paths hs (q ∷ qs) = PathIn hs q × Paths hs qs

-- a path leads to variables of these objects alone, whatever else it refers to
abbrev pub StaysIn : Reach → Root → Type 0
StaysIn hs (in_fields o i) = Asked hs.asks (0 < times o hs.roots)
StaysIn hs root = Unit {0}

pub stays_in : (hs : Reach) (r : Root) → RootIn hs r → StaysIn hs r
stays_in hs (in_fields o i) h = h
stays_in hs (in_frame k x) h = tt
stays_in hs (in_project x) h = tt
stays_in hs (in_block k i) h = tt
stays_in hs (in_object o) h = tt
stays_in hs (in_item v) h = tt

-- of operands this is known where they are told to stay
abbrev pub FirmBy : Bool → Reach → Slot → Type 0
FirmBy true hs (path q) = StaysIn hs q.root
FirmBy b hs x = Unit {0}

abbrev pub Firm : Reach → List Bool → List Slot → Type 0
Firm hs fl [] = Unit {0}
Firm hs fl (x ∷ st) = FirmBy (flag fl) hs x × Firm hs (rest fl) st

abbrev pub SlotIn : Reach → Slot → Type 0
SlotIn hs (value v) = Refers hs.held v
SlotIn hs (path q) = PathIn hs q

abbrev pub Slots : Reach → List Slot → Type 0
Slots hs [] = Unit {0}
Slots hs (x ∷ xs) = SlotIn hs x × Slots hs xs

-- ---- what is still to be done

abbrev pub SpotIn : Reach → Spot → Type 0
SpotIn hs (in_variable q) = PathIn hs q
SpotIn hs (by_let p self xs) = Refers hs.held self × Slots hs xs
SpotIn hs (in_range w) = Refers hs.held w
SpotIn hs (in_member name vs base begun) = Values hs.held vs × Refers hs.held base × Refers hs.held begun

abbrev pub TaskIn : Reach → Task → Type 0
TaskIn hs (index_by k vs) = Values hs.held vs
TaskIn hs (write k v) = Refers hs.held v
TaskIn hs (let_item k vs v) = Values hs.held vs × Refers hs.held v
TaskIn hs (set_item k vs v) = Values hs.held vs × Refers hs.held v
TaskIn hs (put_in spot) = SpotIn hs spot
TaskIn hs (read_made q v) = PathIn hs q × Refers hs.held v
TaskIn hs task = Unit {0}

abbrev pub Tasks : Reach → List Task → Type 0
Tasks hs [] = Unit {0}
Tasks hs (t ∷ ts) = TaskIn hs t × Tasks hs ts

abbrev pub NextIn : Reach → Next → Type 0
NextIn hs (gives v) = Refers hs.held v
NextIn hs (then_call p self xs ts) = Refers hs.held self × Slots hs xs × Tasks hs ts

-- ---- where more is held

pub values_more : {hs ks : List ℕ} → In hs ks → (vs : List Val) → Values hs vs → Values ks vs
values_more i [] h = tt
values_more i (v ∷ vs) h = (in_then h.0 i, values_more i vs h.1)

module _ {hs ks : Reach} (i : Wider hs ks) where
  pub root_more : (r : Root) → RootIn hs r → RootIn ks r
  root_more (in_frame k x) h = omega (arith, i.floor, h)
  root_more (in_block k j) h = omega (arith, i.floor, h)
  root_more (in_object o) h = h
  root_more (in_item v) h = in_then h i.held
  root_more (in_project x) h = tt
  root_more (in_fields o f) h = asked_more hs.asks ks.asks i.asks (λ k. i.roots.at o k) h

  pub paths_more : (qs : List Path) → Paths hs qs → Paths ks qs
  paths_more [] h = tt
  paths_more (q ∷ qs) h = (root_more q.root h.0, paths_more qs h.1)

  pub slot_more : (x : Slot) → SlotIn hs x → SlotIn ks x
  slot_more (value v) h = in_then h i.held
  slot_more (path q) h = root_more q.root h

  pub slots_more : (xs : List Slot) → Slots hs xs → Slots ks xs
  slots_more [] h = tt
  slots_more (x ∷ xs) h = (slot_more x h.0, slots_more xs h.1)

  pub spot_more : (s : Spot) → SpotIn hs s → SpotIn ks s
  spot_more (in_variable q) h = root_more q.root h
  spot_more (by_let p self xs) h = (in_then h.0 i.held, slots_more xs h.1)
  spot_more (in_range w) h = in_then h i.held
  spot_more (in_member name vs base begun) h = (values_more i.held vs h.0, in_then h.1 i.held, in_then h.2 i.held)

  pub task_more : (t : Task) → TaskIn hs t → TaskIn ks t
  task_more (index_by k vs) h = values_more i.held vs h
  task_more (write k v) h = in_then h i.held
  task_more (let_item k vs v) h = (values_more i.held vs h.0, in_then h.1 i.held)
  task_more (set_item k vs v) h = (values_more i.held vs h.0, in_then h.1 i.held)
  task_more (put_in spot) h = spot_more spot h
  task_more (read_made q v) h = (root_more q.root h.0, in_then h.1 i.held)
  task_more as_operand h = tt
  task_more no_object h = tt
  task_more give_way h = tt
  task_more walked h = tt
  task_more (fit_to of) h = tt

  pub tasks_more : (ts : List Task) → Tasks hs ts → Tasks ks ts
  tasks_more [] h = tt
  tasks_more (t ∷ ts) h = (task_more t h.0, tasks_more ts h.1)

  pub next_more : (n : Next) → NextIn hs n → NextIn ks n
  next_more (gives v) h = in_then h i.held
  next_more (then_call p self xs ts) h = (in_then h.0 i.held, slots_more xs h.1, tasks_more ts h.2)

-- ---- lists of them

pub values_in : (hs : List ℕ) (vs : List Val) → Values hs vs → In (objects_in_values vs) hs
values_in hs [] h = none_in hs
values_in hs (v ∷ vs) h = in_both (objects_in v) (objects_in_values vs) h.0 (values_in hs vs h.1)

pub value_of_slot : (hs : Reach) (x : Slot) → SlotIn hs x → Refers hs.held (slot_value x)
value_of_slot hs (value v) h = h
value_of_slot hs (path q) h = none_in hs.held

pub values_of_slots : (hs : Reach) (xs : List Slot) → Slots hs xs → Values hs.held (slot_values xs)
values_of_slots hs [] h = tt
values_of_slots hs (x ∷ xs) h = (value_of_slot hs x h.0, values_of_slots hs xs h.1)

pub slots_append : (hs : Reach) (xs ys : List Slot) → Slots hs xs → Slots hs ys → Slots hs (xs ++ ys)
slots_append hs [] ys h k = k
slots_append hs (x ∷ xs) ys h k = (h.0, slots_append hs xs ys h.1 k)

pub tasks_append : (hs : Reach) (xs ys : List Task) → Tasks hs xs → Tasks hs ys → Tasks hs (xs ++ ys)
tasks_append hs [] ys h k = k
tasks_append hs (x ∷ xs) ys h k = (h.0, tasks_append hs xs ys h.1 k)

pub values_append : (hs : List ℕ) (xs ys : List Val) → Values hs xs → Values hs ys → Values hs (xs ++ ys)
values_append hs [] ys h k = k
values_append hs (x ∷ xs) ys h k = (h.0, values_append hs xs ys h.1 k)

pub nth_value : (hs : List ℕ) (vs : List Val) (i : ℕ) (d : Val) → Values hs vs → Refers hs d → Refers hs (slice_index_or vs i d)
nth_value hs [] zero d h k = k
nth_value hs [] (suc i) d h k = k
nth_value hs (v ∷ vs) zero d h k = h.0
nth_value hs (v ∷ vs) (suc i) d h k = nth_value hs vs i d h.1 k

pub nth_slot : (hs : Reach) (xs : List Slot) (i : ℕ) (d : Slot) → Slots hs xs → SlotIn hs d → SlotIn hs (slice_index_or xs i d)
nth_slot hs [] zero d h k = k
nth_slot hs [] (suc i) d h k = k
nth_slot hs (x ∷ xs) zero d h k = h.0
nth_slot hs (x ∷ xs) (suc i) d h k = nth_slot hs xs i d h.1 k

pub packed_in : (hs : Reach) (xs : List Slot) → Slots hs xs → Refers hs.held (packed xs)
packed_in hs xs h = vals_in (slot_values xs) (values_in hs.held (slot_values xs) (values_of_slots hs xs h))

pub slots_of_values : (hs : Reach) (vs : List Val) → Values hs.held vs → Slots hs (map value vs)
slots_of_values hs [] h = tt
slots_of_values hs (v ∷ vs) h = (h.0, slots_of_values hs vs h.1)

pub reordered_in : (hs : Reach) (order : List ℕ) (xs : List Slot) → Slots hs xs → Slots hs (reordered order xs)
reordered_in hs [] xs h = tt
reordered_in hs (i ∷ order) xs h = (nth_slot hs xs i (value missing) h (none_in hs.held), reordered_in hs order xs h)

pub slots_taken : (hs : Reach) (n : ℕ) (xs : List Slot) → Slots hs xs → Slots hs (take n xs)
slots_taken hs zero [] h = tt
slots_taken hs zero (x ∷ xs) h = tt
slots_taken hs (suc n) [] h = tt
slots_taken hs (suc n) (x ∷ xs) h = (h.0, slots_taken hs n xs h.1)

pub slots_dropped : (hs : Reach) (n : ℕ) (xs : List Slot) → Slots hs xs → Slots hs (drop n xs)
slots_dropped hs zero [] h = tt
slots_dropped hs zero (x ∷ xs) h = h
slots_dropped hs (suc n) [] h = tt
slots_dropped hs (suc n) (x ∷ xs) h = slots_dropped hs n xs h.1

pub values_taken : (hs : List ℕ) (n : ℕ) (vs : List Val) → Values hs vs → Values hs (take n vs)
values_taken hs zero [] h = tt
values_taken hs zero (v ∷ vs) h = tt
values_taken hs (suc n) [] h = tt
values_taken hs (suc n) (v ∷ vs) h = (h.0, values_taken hs n vs h.1)

pub values_dropped : (hs : List ℕ) (n : ℕ) (vs : List Val) → Values hs vs → Values hs (drop n vs)
values_dropped hs zero [] h = tt
values_dropped hs zero (v ∷ vs) h = h
values_dropped hs (suc n) [] h = tt
values_dropped hs (suc n) (v ∷ vs) h = values_dropped hs n vs h.1
