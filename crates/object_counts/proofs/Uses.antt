-- What uses of objects raise along default members.
use Rattle.std.proofs.Common.{ℕ, zero, suc, List, [], ◌∷◌, ◌++◌, map, Option, Some, None}
use Rattle.std.specs.Prelude.{◌&&◌, if◌then◌else◌}
use Rattle.vba_values.specs.Types.{Declared}
use Rattle.vba_values.specs.Types as type
use Rattle.vba_values.specs.Val.{Val, empty, missing, object}
use Rattle.bound_project.specs.Project.{Declarations, Parameter, Member, is_variable, is_procedure, is_property, procedure_at}
use Rattle.vba_meaning.specs.Paths.{Path}
use Rattle.vba_meaning.specs.Memory.{Memory, value_at}
use Rattle.vba_meaning.specs.Effects.{Effect, Fine, on_fine, done, set_object, slot_left_out}
use Rattle.vba_meaning.specs.Objects.{initialize_of}
use Rattle.vba_meaning.specs.Host.{is_counted, item_by}
use Rattle.bound_project.specs.Parameters.{parameters_of, any_must, without_last, last_type, has_parameters}
use Rattle.vba_meaning.specs.Defaults.{Spot, in_variable, by_let, in_range, in_member, Task, as_operand, no_object, give_way, walked, fit_to, index_by, write, let_item, set_item, put_in, read_made, Next, gives, then_call, over_with, goes_by, after_use, is_instance, class_of_value, variable_of, is_object_type, can_be_object, is_sub_kind, has_default_alone, read_by, read_made_by, read_variable, read_member, read_default, no_object_here, counted_operand, counted_if_any, has_items, collection_here, enumerator_of, operand_of, given_to, slots_from, slot_given, slots_in, too_many, too_few, index_default, index_member, index_once, index_along, has_array, element_by, item_along, in_place, leads_on, takes_itself, nothing_more, put_value, put, let_at, takes_value, write_host, write_default, write_member, write_once, write_along, reader_of, let_by_reader, let_setter, let_default, let_member, let_item_of, let_once, let_along, set_called_with, set_by_reader, setter_of, set_default, set_by_member, element_of, set_item_of, set_once, set_along, most_passed, task_next, followed, tasks_next, use_then}
use Rattle.object_counts.specs.Gains.{given_gains, gains_behind}
use Rattle.object_counts.specs.UseGains.{goes_gains, after_gains, read_made_gains, read_variable_gains, read_member_gains, read_default_gains, counted_operand_gains, counted_if_any_gains, enumerator_gains, operand_gains, index_default_gains, index_member_gains, index_once_gains, index_along_gains, item_along_gains, in_place_gains, leads_gains, put_value_gains, put_gains, write_host_gains, write_default_gains, write_member_gains, write_once_gains, write_along_gains, written_gains, let_at_gains, let_by_reader_gains, let_default_gains, let_member_gains, let_item_gains, let_once_gains, let_along_gains, set_by_reader_gains, set_default_gains, set_by_member_gains, set_once_gains, set_along_gains, task_gains, tasks_gains}
use Rattle.object_counts.proofs.Looks.{same}
use Rattle.object_counts.proofs.Chains.{Law, fine, bad, then_law, then_still, after_still, either, both}
use Rattle.object_counts.proofs.Variables.{plain_law, fitted_law, set_object_law, read_path_law, made_for_law, stored_made_law, assigned_law, set_at_law}
use Rattle.object_counts.proofs.Loops.{element_in_law}
use Rattle.object_counts.proofs.Hosts.{item_law, plains_law, written_default_law, member_assigned_law}

-- ---- one after another

pub over_law : {m : Memory} {gs : List ℕ} {e : Effect Val} → Law m gs e → Law m gs (over_with e)
over_law a = then_still a (λ v m1. fine (gives v) (same m1))

pub nothing_law : {m : Memory} {gs : List ℕ} {e : Effect (Unit {0})} → Law m gs e → Law m gs (nothing_more e)
nothing_law a = then_still a (λ u m1. fine (gives empty) (same m1))

goes_law : (t : Task) {h : Val → Memory → List ℕ} {f : Val → Memory → Effect Next} → ((v : Val) (m : Memory) → Law m (h v m) (f v m)) → (n : Next) (m : Memory) → Law m (goes_gains h n m) (goes_by t f n m)
goes_law t k (gives v) m = k v m
goes_law t k (then_call p self xs ts) m = fine _ (same m)

pub after_law : {m : Memory} {gs : List ℕ} {e : Effect Next} (t : Task) {h : Val → Memory → List ℕ} {f : Val → Memory → Effect Next} → Law m gs e → ((v : Val) (m1 : Memory) → Law m1 (h v m1) (f v m1))
    → Law m (after_gains gs e h) (after_use e t f)
after_law t a k = then_law a (goes_law t k)

goes_still : (t : Task) {f : Val → Memory → Effect Next} → ((v : Val) (m : Memory) → Law m [] (f v m)) → (n : Next) (m : Memory) → Law m [] (goes_by t f n m)
goes_still t k (gives v) m = k v m
goes_still t k (then_call p self xs ts) m = fine _ (same m)

-- ---- a member is read

read_by_law : (d : Declarations) (p : ℕ) (self : Val) (m : Memory) → Law m [] (read_by d p self m)
read_by_law d p self m = both (any_must (parameters_of d p)) (bad 449 (same m)) (fine _ (same m))

read_made_law : (q : Path) (v : Val) (o : Option ℕ) (m : Memory) → Law m (read_made_gains q v o m) (read_made_by q v o m)
read_made_law q v None m = then_law (stored_made_law q v m) (λ u m1. over_law (read_path_law q m1))
read_made_law q v (Some p) m = fine _ (same m)

pub read_variable_law : (d : Declarations) (q : Path) (m : Memory) → Law m (read_variable_gains d q m) (read_variable d q m)
read_variable_law d q m = then_law (made_for_law d q m) (λ v m1. read_made_law q v (initialize_of d q v) m1)

read_member_law : (d : Declarations) (v : Val) (x : Member) (m : Memory) → Law m (read_member_gains d v x m) (read_member d v x m)
read_member_law d v (is_variable i makes) m = read_variable_law d (variable_of d v i makes m) m
read_member_law d v (is_procedure p) m = read_by_law d p v m
read_member_law d v (is_property (Some p) lets sets) m = read_by_law d p v m
read_member_law d v (is_property None lets sets) m = bad 438 (same m)

read_default_law : (d : Declarations) (v : Val) (x : Option Member) (m : Memory) → Law m (read_default_gains d v x m) (read_default d v x m)
read_default_law d v None m = bad 438 (same m)
read_default_law d v (Some x) m = read_member_law d v x m

-- ---- operands

no_object_law : (v : Val) (m : Memory) → Law m [] (no_object_here v m)
no_object_law (object o) m = bad 438 (same m)
no_object_law v m = fine _ (same m)

default_value_law : (d : Declarations) (v : Val) (x : Option Member) (m : Memory) → Law m (read_default_gains d v x m) (after_use (read_default d v x m) no_object no_object_here)
default_value_law d v x m = then_still (read_default_law d v x m) (goes_still no_object no_object_law)

pub counted_operand_law : (d : Declarations) (v : Val) (m : Memory) → Law m (counted_operand_gains d v m) (counted_operand d v m)
counted_operand_law d v m = either (is_instance v m) (default_value_law d v (class_of_value d v m).default m) (bad 449 (same m))

pub counted_if_any_law : (d : Declarations) (v : Val) (m : Memory) → Law m (counted_if_any_gains d v m) (counted_if_any d v m)
counted_if_any_law d v m =
    either (is_instance v m && has_default_alone d (class_of_value d v m).default) (read_default_law d v (class_of_value d v m).default m) (fine _ (same m))

operand_law : (d : Declarations) (v : Val) (m : Memory) → Law m (operand_gains d v m) (operand_of d v m)
operand_law d v m = either (is_counted v) (counted_operand_law d v m) (over_law (plain_law v m))

-- ---- arguments that index

given_to_law : (of : Declared) (v : Val) (m : Memory) → Law m [] (given_to of v m)
given_to_law of v m = both (can_be_object of) (fitted_law of v m) (then_still (plain_law v m) (λ w m1. fitted_law of w m1))

slot_law : (q : Parameter) (v : Val) (m : Memory) → Law m [] (slot_given q v m)
slot_law q missing m = fine _ (same m)
slot_law q v m = then_still (given_to_law q.of v m) (λ w m1. fine _ (same m1))

slots_in_law : (qs : List Parameter) (vs : List Val) (m : Memory) → Law m [] (slots_in qs vs m)
slots_in_law [] vs m = fine [] (same m)
slots_in_law (q ∷ qs) [] m = then_still (slots_in_law qs [] m) (λ xs m1. fine _ (same m1))
slots_in_law (q ∷ qs) (v ∷ vs) m = both q.many (fine _ (same m)) (then_still (slot_law q v m) (λ x m1. then_still (slots_in_law qs vs m1) (λ xs m2. fine _ (same m2))))

slots_law : (qs : List Parameter) (vs : List Val) (m : Memory) → Law m [] (slots_from qs vs m)
slots_law qs vs m = both (too_many qs vs) (bad 450 (same m)) (both (too_few qs vs) (bad 449 (same m)) (slots_in_law qs vs m))

-- of what passes a default member
abbrev Passes : (Member → Memory → List ℕ) → (Member → Memory → Effect Next) → Type 0
Passes h f = (x : Member) (m : Memory) → Law m (h x m) (f x m)

taken_or_passed : (d : Declarations) (p : ℕ) (w : Val) (vs : List Val) (x : Member) {h : Member → Memory → List ℕ} {f : Member → Memory → Effect Next} → Passes h f → (m : Memory)
    → Law m (if has_parameters (parameters_of d p) then [] else h x m) (if has_parameters (parameters_of d p) then on_fine (slots_from (parameters_of d p) vs m) (λ xs m1. Fine (then_call p w xs []) m1) else f x m)
taken_or_passed d p w vs x k m = either (has_parameters (parameters_of d p)) (then_still (slots_law (parameters_of d p) vs m) (λ xs m1. fine _ (same m1))) (k x m)

index_default_law : (d : Declarations) (w : Val) (vs : List Val) (x : Member) {h : Member → Memory → List ℕ} {f : Member → Memory → Effect Next} → Passes h f → (m : Memory)
    → Law m (index_default_gains d x h m) (index_default d w vs x f m)
index_default_law d w vs (is_variable i makes) k m = k (is_variable i makes) m
index_default_law d w vs (is_procedure p) k m = taken_or_passed d p w vs (is_procedure p) k m
index_default_law d w vs (is_property (Some p) lets sets) k m = taken_or_passed d p w vs (is_property (Some p) lets sets) k m
index_default_law d w vs (is_property None lets sets) k m = k (is_property None lets sets) m

index_member_law : (d : Declarations) (w : Val) (vs : List Val) (x : Option Member) {h : Member → Memory → List ℕ} {f : Member → Memory → Effect Next} → Passes h f → (m : Memory)
    → Law m (index_member_gains d x h m) (index_member d w vs x f m)
index_member_law d w vs None k m = bad 438 (same m)
index_member_law d w vs (Some x) k m = index_default_law d w vs x k m

index_once_law : (d : Declarations) (w : Val) (vs : List Val) {h : Member → Memory → List ℕ} {f : Member → Memory → Effect Next} → Passes h f → (m : Memory)
    → Law m (index_once_gains d w vs h m) (index_once d w vs f m)
index_once_law d w vs k m = either (is_instance w m) (index_member_law d w vs (class_of_value d w m).default k m) (over_law (item_law w vs m))

pub index_along_law : (d : Declarations) (k : ℕ) (vs : List Val) (w : Val) (m : Memory) → Law m (index_along_gains d k vs w m) (index_along d k vs w m)
index_along_law d zero vs w m = index_once_law d w vs (λ x m1. bad 450 (same m1)) m
index_along_law d (suc k) vs w m = index_once_law d w vs (λ x m1. after_law (index_by k vs) (read_member_law d w x m1) (λ u m2. index_along_law d k vs u m2)) m

-- ---- arguments behind a place

pub element_by_law : (q : Path) (vs : List Val) (m : Memory) → Law m [] (element_by q vs m)
element_by_law q vs m = then_still (plains_law vs m) (λ ws m1. element_in_law q (value_at m1 q) ws m1)

pub item_along_law : (d : Declarations) (q : Path) (vs : List Val) (m : Memory) → Law m (item_along_gains d q vs m) (item_along d q vs m)
item_along_law d q vs m = after_law (index_by most_passed vs) (read_variable_law d q m) (λ w m1. index_along_law d most_passed vs w m1)

pub in_place_law : (d : Declarations) (q : Path) (vs : List Val) (t : Task) {h : Path → Memory → List ℕ} {f : Path → Memory → Effect Next} {h1 : Val → Memory → List ℕ} {f1 : Val → Memory → Effect Next}
    → ((p : Path) (m : Memory) → Law m (h p m) (f p m)) → ((v : Val) (m : Memory) → Law m (h1 v m) (f1 v m)) → (m : Memory) → Law m (in_place_gains d q vs h h1 m) (in_place d q vs f t f1 m)
in_place_law d q vs t k k1 m = either (has_array q m) (after_still (element_by_law q vs m) k) (after_law t (read_variable_law d q m) k1)

leads_law : (d : Declarations) (self : Val) (vs : List Val) (t : Task) {h : Path → Memory → List ℕ} {f : Path → Memory → Effect Next} {h1 : Val → Memory → List ℕ} {f1 : Val → Memory → Effect Next}
    → ((p : Path) (m : Memory) → Law m (h p m) (f p m)) → ((v : Val) (m : Memory) → Law m (h1 v m) (f1 v m)) → (x : Member) (m : Memory)
    → Law m (leads_gains d self vs h h1 x m) (leads_on d self vs f t f1 x m)
leads_law d self vs t k k1 (is_variable i makes) m = in_place_law d (variable_of d self i makes m) vs t k k1 m
leads_law d self vs t k k1 (is_procedure p) m = after_law t (read_member_law d self (is_procedure p) m) k1
leads_law d self vs t k k1 (is_property reads lets sets) m = after_law t (read_member_law d self (is_property reads lets sets) m) k1

-- ---- a value is put where it goes

put_value_law : (d : Declarations) (spot : Spot) (v : Val) (m : Memory) → Law m (put_value_gains spot v m) (put_value d spot v m)
put_value_law d (in_variable q) v m = nothing_law (assigned_law q v m)
put_value_law d (by_let p self xs) v m = then_still (fitted_law (last_type (parameters_of d p)) v m) (λ w m1. fine _ (same m1))
put_value_law d (in_range w) v m = nothing_law (written_default_law w v m)
put_value_law d (in_member name vs base begun) v m = nothing_law (member_assigned_law d name vs base begun v m)

pub put_law : (d : Declarations) (spot : Spot) (v : Val) (m : Memory) → Law m (put_gains d spot v m) (put d spot v m)
put_law d spot v m = either (takes_itself d spot) (put_value_law d spot v m) (after_law (put_in spot) (operand_law d v m) (λ w m1. put_value_law d spot w m1))

-- ---- a default member is written

write_host_law : (d : Declarations) (v w : Val) (m : Memory) → Law m (write_host_gains d v w m) (write_host d v w m)
write_host_law d v w m = either (takes_value w) (put_law d (in_range w) v m) (nothing_law (written_default_law w v m))

write_default_law : (d : Declarations) (v w : Val) (x : Member) {h : Member → Memory → List ℕ} {f : Member → Memory → Effect Next} → Passes h f → (m : Memory)
    → Law m (write_default_gains d v w x h m) (write_default d v w x f m)
write_default_law d v w (is_variable i makes) k m =
    either (is_object_type (variable_of d w i makes m).of) (k (is_variable i makes) m) (put_law d (in_variable (variable_of d w i makes m)) v m)
write_default_law d v w (is_procedure p) k m = either (is_sub_kind (procedure_at d p).kind) (bad 438 (same m)) (k (is_procedure p) m)
write_default_law d v w (is_property reads (Some p) sets) k m =
    either (any_must (without_last (parameters_of d p))) (bad 449 (same m)) (put_law d (by_let p w (map slot_left_out (without_last (parameters_of d p)))) v m)
write_default_law d v w (is_property reads None sets) k m = k (is_property reads None sets) m

write_member_law : (d : Declarations) (v w : Val) (x : Option Member) {h : Member → Memory → List ℕ} {f : Member → Memory → Effect Next} → Passes h f → (m : Memory)
    → Law m (write_member_gains d v w x h m) (write_member d v w x f m)
write_member_law d v w None k m = bad 438 (same m)
write_member_law d v w (Some x) k m = write_default_law d v w x k m

write_once_law : (d : Declarations) (v w : Val) {h : Member → Memory → List ℕ} {f : Member → Memory → Effect Next} → Passes h f → (m : Memory)
    → Law m (write_once_gains d v w h m) (write_once d v w f m)
write_once_law d v w k m = either (is_instance w m) (write_member_law d v w (class_of_value d w m).default k m) (write_host_law d v w m)

pub write_along_law : (d : Declarations) (k : ℕ) (v w : Val) (m : Memory) → Law m (write_along_gains d k v w m) (write_along d k v w m)
write_along_law d zero v w m = write_once_law d v w (λ x m1. bad 450 (same m1)) m
write_along_law d (suc k) v w m = write_once_law d v w (λ x m1. after_law (write k v) (read_member_law d w x m1) (λ u m2. write_along_law d k v u m2)) m

-- ---- what arguments lead to takes a value

pub written_law : (d : Declarations) (v : Val) {m : Memory} {gs : List ℕ} {e : Effect Next} → Law m gs e → Law m (written_gains d v gs e) (after_use e (write most_passed v) (λ w m1. write_along d most_passed v w m1))
written_law d v a = after_law (write most_passed v) a (λ w m1. write_along_law d most_passed v w m1)

pub let_at_law : (d : Declarations) (q : Path) (v : Val) (m : Memory) → Law m (let_at_gains d q v m) (let_at d q v m)
let_at_law d q v m = either (is_object_type q.of) (written_law d v (read_variable_law d q m)) (put_law d (in_variable q) v m)

let_by_reader_law : (d : Declarations) (v : Val) (vs : List Val) (self : Val) (x : Member) (o : Option ℕ) {h : Member → Memory → List ℕ} {f : Member → Memory → Effect Next} → Passes h f → (m : Memory)
    → Law m (let_by_reader_gains d x o h m) (let_by_reader d v vs self x o f m)
let_by_reader_law d v vs self x None k m = k x m
let_by_reader_law d v vs self x (Some p) k m = either (has_parameters (parameters_of d p)) (then_still (slots_law (parameters_of d p) vs m) (λ xs m1. fine _ (same m1))) (k x m)

let_default_law : (d : Declarations) (v : Val) (vs : List Val) (self : Val) (x : Member) (o : Option ℕ) {h : Member → Memory → List ℕ} {f : Member → Memory → Effect Next} → Passes h f → (m : Memory)
    → Law m (let_default_gains d v vs self x o h m) (let_default d v vs self x o f m)
let_default_law d v vs self x None k m = let_by_reader_law d v vs self x (reader_of x) k m
let_default_law d v vs self x (Some p) k m =
    either (has_parameters (without_last (parameters_of d p))) (after_still (slots_law (without_last (parameters_of d p)) vs m) (λ xs m1. put_law d (by_let p self xs) v m1))
    (let_by_reader_law d v vs self x (reader_of x) k m)

let_member_law : (d : Declarations) (v : Val) (vs : List Val) (self : Val) (x : Option Member) {h : Member → Memory → List ℕ} {f : Member → Memory → Effect Next} → Passes h f → (m : Memory)
    → Law m (let_member_gains d v vs self x h m) (let_member d v vs self x f m)
let_member_law d v vs self None k m = bad 438 (same m)
let_member_law d v vs self (Some x) k m = let_default_law d v vs self x (let_setter x) k m

other_item : (d : Declarations) (v : Val) (vs : List Val) (w : Val) (m : Memory)
    → Law m (given_gains (item_by w vs m) ++ gains_behind (item_by w vs m) (λ u m1. operand_gains d v m1)) (on_fine (item_by w vs m) (λ u m1. operand_of d v m1))
other_item d v vs w m = then_law (item_law w vs m) (λ u m1. operand_law d v m1)

let_item_law : (d : Declarations) (v : Val) (vs : List Val) (w : Val) (m : Memory) → Law m (let_item_gains d v vs w m) (let_item_of d v vs w m)
let_item_law d v vs (object o) m = after_law (write most_passed v) (over_law (item_law (object o) vs m)) (λ w m1. write_along_law d most_passed v w m1)
let_item_law d v vs w m = other_item d v vs w m

let_once_law : (d : Declarations) (v : Val) (vs : List Val) (w : Val) {h : Member → Memory → List ℕ} {f : Member → Memory → Effect Next} → Passes h f → (m : Memory)
    → Law m (let_once_gains d v vs w h m) (let_once d v vs w f m)
let_once_law d v vs w k m = either (is_instance w m) (let_member_law d v vs w (class_of_value d w m).default k m) (let_item_law d v vs w m)

pub let_along_law : (d : Declarations) (k : ℕ) (vs : List Val) (v w : Val) (m : Memory) → Law m (let_along_gains d k vs v w m) (let_along d k vs v w m)
let_along_law d zero vs v w m = let_once_law d v vs w (λ x m1. bad 450 (same m1)) m
let_along_law d (suc k) vs v w m =
    let_once_law d v vs w (λ x m1. leads_law d w vs (let_item k vs v) (λ p m2. let_at_law d p v m2) (λ u m2. let_along_law d k vs v u m2) x m1) m

-- ---- what arguments lead to is set

set_called_law : (d : Declarations) (v : Val) (vs : List Val) (self : Val) (p : ℕ) (m : Memory) → Law m [] (set_called_with d v vs self p m)
set_called_law d v vs self p m =
    then_still (slots_law (without_last (parameters_of d p)) vs m) (λ xs m1. then_still (set_object_law (last_type (parameters_of d p)) v m1) (λ w m2. fine _ (same m2)))

set_by_reader_law : (d : Declarations) (x : Member) (o : Option ℕ) {h : Member → Memory → List ℕ} {f : Member → Memory → Effect Next} → Passes h f → (m : Memory)
    → Law m (set_by_reader_gains d x o h m) (set_by_reader d x o f m)
set_by_reader_law d x None k m = k x m
set_by_reader_law d x (Some p) k m = either (has_parameters (parameters_of d p)) (bad 438 (same m)) (k x m)

set_default_law : (d : Declarations) (v : Val) (vs : List Val) (self : Val) (x : Member) (o : Option ℕ) {h : Member → Memory → List ℕ} {f : Member → Memory → Effect Next} → Passes h f → (m : Memory)
    → Law m (set_default_gains d x o h m) (set_default d v vs self x o f m)
set_default_law d v vs self x None k m = set_by_reader_law d x (reader_of x) k m
set_default_law d v vs self x (Some p) k m = either (has_parameters (without_last (parameters_of d p))) (set_called_law d v vs self p m) (set_by_reader_law d x (reader_of x) k m)

set_by_member_law : (d : Declarations) (v : Val) (vs : List Val) (self : Val) (x : Option Member) {h : Member → Memory → List ℕ} {f : Member → Memory → Effect Next} → Passes h f → (m : Memory)
    → Law m (set_by_member_gains d x h m) (set_by_member d v vs self x f m)
set_by_member_law d v vs self None k m = bad 438 (same m)
set_by_member_law d v vs self (Some x) k m = set_default_law d v vs self x (setter_of x) k m

other_set : (v : Val) (vs : List Val) (w : Val) (m : Memory) → Law m (given_gains (item_by w vs m)) (nothing_more (on_fine (item_by w vs m) (λ u m1. on_fine (set_object (element_of w) v m1) (λ x m2. done m2))))
other_set v vs w m = nothing_law (then_still (item_law w vs m) (λ u m1. then_still (set_object_law (element_of w) v m1) (λ x m2. fine tt (same m2))))

set_item_law : (v : Val) (vs : List Val) (w : Val) (m : Memory) → Law m (given_gains (item_by w vs m)) (set_item_of v vs w m)
set_item_law v vs (object o) m = then_still (item_law (object o) vs m) (λ w m1. then_still (set_object_law type.variant v m1) (λ x m2. bad 438 (same m2)))
set_item_law v vs w m = other_set v vs w m

set_once_law : (d : Declarations) (v : Val) (vs : List Val) (w : Val) {h : Member → Memory → List ℕ} {f : Member → Memory → Effect Next} → Passes h f → (m : Memory)
    → Law m (set_once_gains d vs w h m) (set_once d v vs w f m)
set_once_law d v vs w k m = either (is_instance w m) (set_by_member_law d v vs w (class_of_value d w m).default k m) (set_item_law v vs w m)

pub set_along_law : (d : Declarations) (k : ℕ) (vs : List Val) (v w : Val) (m : Memory) → Law m (set_along_gains d k vs v w m) (set_along d k vs v w m)
set_along_law d zero vs v w m = set_once_law d v vs w (λ x m1. bad 450 (same m1)) m
set_along_law d (suc k) vs v w m =
    set_once_law d v vs w (λ x m1. leads_law d w vs (set_item k vs v) (λ p m2. nothing_law (set_at_law p v m2)) (λ u m2. set_along_law d k vs v u m2) x m1) m

-- ---- For Each over an object of a class

collection_law : (v : Val) (m : Memory) → Law m [] (collection_here v m)
collection_law v m = both (has_items v m) (fine _ (same m)) (bad 438 (same m))

walked_law : (d : Declarations) (v : Val) (x : Option Member) (m : Memory) → Law m (read_default_gains d v x m) (after_use (read_default d v x m) walked collection_here)
walked_law d v x m = then_still (read_default_law d v x m) (goes_still walked collection_law)

pub enumerator_law : (d : Declarations) (v : Val) (m : Memory) → Law m (enumerator_gains d v m) (enumerator_of d v m)
enumerator_law d v m = either (is_instance v m) (walked_law d v (class_of_value d v m).enumerator m) (fine _ (same m))

-- ---- tasks

task_law : (d : Declarations) (t : Task) (v : Val) (m : Memory) → Law m (task_gains d t v m) (task_next d t v m)
task_law d as_operand v m = operand_law d v m
task_law d no_object v m = no_object_law v m
task_law d give_way v m = either (is_instance v m) (operand_law d v m) (fine _ (same m))
task_law d walked v m = collection_law v m
task_law d (fit_to of) v m = over_law (fitted_law of v m)
task_law d (index_by k vs) v m = index_along_law d k vs v m
task_law d (write k w) v m = write_along_law d k w v m
task_law d (let_item k vs w) v m = let_along_law d k vs w v m
task_law d (set_item k vs w) v m = set_along_law d k vs w v m
task_law d (put_in spot) v m = put_value_law d spot v m
task_law d (read_made q w) v m = read_made_law q w None m

followed_law : (ts : List Task) {h : Val → Memory → List ℕ} {f : Val → Memory → Effect Next} → ((v : Val) (m : Memory) → Law m (h v m) (f v m)) → (n : Next) (m : Memory) → Law m (goes_gains h n m) (followed ts f n m)
followed_law ts k (gives v) m = k v m
followed_law ts k (then_call p self xs more) m = fine _ (same m)

pub tasks_law : (d : Declarations) (ts : List Task) (v : Val) (m : Memory) → Law m (tasks_gains d ts v m) (tasks_next d ts v m)
tasks_law d [] v m = fine _ (same m)
tasks_law d (t ∷ ts) v m = then_law (task_law d t v m) (followed_law ts (λ w m1. tasks_law d ts w m1))

pub use_then_law : (d : Declarations) (ts : List Task) {m : Memory} {gs : List ℕ} {e : Effect Next} → Law m gs e → Law m (after_gains gs e (λ w m1. tasks_gains d ts w m1)) (use_then d ts e)
use_then_law d ts a = then_law a (followed_law ts (λ w m1. tasks_law d ts w m1))
