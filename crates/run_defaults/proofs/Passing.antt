-- Uses of objects by the parts of their definitions.
use Rattle.std.proofs.Common.{◌≡◌, ℕ, zero, suc, List, true, false, refl, ap, sym, ◌∙◌}
use Rattle.std.specs.Prelude.{Bool, ◌&&◌, if◌then◌else◌, Option, Some, None}
use Rattle.vba_values.specs.declared.object.ObjRef.{ObjRef}
use Rattle.vba_values.specs.Val.{Val, object}
use Rattle.bound_project.specs.Project.{Declarations, Member, Parameter, class_at}
use Rattle.vba_meaning.specs.Paths.{Path}
use Rattle.vba_meaning.specs.Memory.{Memory}
use Rattle.vba_meaning.specs.Effects.{Effect, Fine, Bad-at, class_of, on_fine}
use Rattle.vba_meaning.specs.Host.{item_by}
use Rattle.bound_project.specs.Parameters.{parameters_of, without_last, has_parameters}
use Rattle.vba_meaning.specs.Defaults.{Next, gives, by_let, in_variable, slots_from, is_object_type, put, write_variable, no_object, no_object_here, walked, collection_here, over_with, after_use, is_instance, class_of_value, read_member, read_default, counted_operand, counted_if_any, enumerator_of, reads_alone, has_default_alone, index_member, write_host, write_member, let_member, let_item_of, let_setter, set_by_member, set_item_of, setter_of, reader_of, index_default, index_along, index_once, write_along, write_once, let_by_reader, let_called_with, let_default, let_along, let_once, set_by_reader, set_called_with, set_default, set_along, set_once}
use Rattle.run_defaults.specs.Parts.{called_with, index_pass, let_pass, let_put, reader_taking, set_pass, setter_taking, taking, write_pass}

-- ---- along default members

pub index_is : (d : Declarations) (n : ℕ) (vs : List Val) (w : Val) (m : Memory) → index_along d n vs w m ≡ index_once d w vs (λ x m1. index_pass d n vs w x m1) m
index_is d zero vs w m = refl
index_is d (suc n) vs w m = refl

pub write_is : (d : Declarations) (n : ℕ) (v w : Val) (m : Memory) → write_along d n v w m ≡ write_once d v w (λ x m1. write_pass d n v w x m1) m
write_is d zero v w m = refl
write_is d (suc n) v w m = refl

pub let_is : (d : Declarations) (n : ℕ) (vs : List Val) (v w : Val) (m : Memory) → let_along d n vs v w m ≡ let_once d v vs w (λ x m1. let_pass d n vs v w x m1) m
let_is d zero vs v w m = refl
let_is d (suc n) vs v w m = refl

pub set_is : (d : Declarations) (n : ℕ) (vs : List Val) (v w : Val) (m : Memory) → set_along d n vs v w m ≡ set_once d v vs w (λ x m1. set_pass d n vs v w x m1) m
set_is d zero vs v w m = refl
set_is d (suc n) vs v w m = refl

-- ---- by what takes the arguments

abbrev pub on_taken : {A : Type 0} → Option ℕ → (ℕ → A) → A → A
on_taken None f e = e
on_taken (Some p) f e = f p

index_has : (d : Declarations) (w : Val) (vs : List Val) (x : Member) (pass : Member → Memory → Effect Next) (m : Memory) (p : ℕ) (b : Bool)
    → reader_of x ≡ Some p → has_parameters (parameters_of d p) ≡ b → index_default d w vs x pass m ≡ on_taken (reader_taking d x) (λ q. called_with d vs w q m) (pass x m)
index_has d w vs x pass m p true e f = rw (e, f) refl
index_has d w vs x pass m p false e f = rw (e, f) refl

index_read : (d : Declarations) (w : Val) (vs : List Val) (x : Member) (pass : Member → Memory → Effect Next) (m : Memory) (p : Option ℕ)
    → reader_of x ≡ p → index_default d w vs x pass m ≡ on_taken (reader_taking d x) (λ q. called_with d vs w q m) (pass x m)
index_read d w vs x pass m None e = rw e refl
index_read d w vs x pass m (Some p) e = index_has d w vs x pass m p (has_parameters (parameters_of d p)) e refl

pub index_taken : (d : Declarations) (w : Val) (vs : List Val) (x : Member) (pass : Member → Memory → Effect Next) (m : Memory)
    → index_default d w vs x pass m ≡ on_taken (reader_taking d x) (λ q. called_with d vs w q m) (pass x m)
index_taken d w vs x pass m = index_read d w vs x pass m (reader_of x) refl

let_reads_by : (d : Declarations) (v : Val) (vs : List Val) (self : Val) (x : Member) (pass : Member → Memory → Effect Next) (m : Memory) (p : ℕ) (b : Bool)
    → has_parameters (parameters_of d p) ≡ b
    → let_by_reader d v vs self x (Some p) pass m ≡ on_taken (taking (λ q. has_parameters (parameters_of d q)) (Some p)) (λ q. let_called_with d v vs self q m) (pass x m)
let_reads_by d v vs self x pass m p true f = rw f refl
let_reads_by d v vs self x pass m p false f = rw f refl

pub let_reads : (d : Declarations) (v : Val) (vs : List Val) (self : Val) (x : Member) (pass : Member → Memory → Effect Next) (m : Memory) (p : Option ℕ)
    → let_by_reader d v vs self x p pass m ≡ on_taken (taking (λ q. has_parameters (parameters_of d q)) p) (λ q. let_called_with d v vs self q m) (pass x m)
let_reads d v vs self x pass m None = refl
let_reads d v vs self x pass m (Some p) = let_reads_by d v vs self x pass m p (has_parameters (parameters_of d p)) refl

let_sets_by : (d : Declarations) (v : Val) (vs : List Val) (self : Val) (x : Member) (pass : Member → Memory → Effect Next) (m : Memory) (p : ℕ) (b : Bool)
    → has_parameters (without_last (parameters_of d p)) ≡ b
    → let_default d v vs self x (Some p) pass m ≡ on_taken (setter_taking d (Some p)) (λ q. let_put d v vs self q m) (let_by_reader d v vs self x (reader_of x) pass m)
let_sets_by d v vs self x pass m p true f = rw f refl
let_sets_by d v vs self x pass m p false f = rw f refl

pub let_sets : (d : Declarations) (v : Val) (vs : List Val) (self : Val) (x : Member) (pass : Member → Memory → Effect Next) (m : Memory) (p : Option ℕ)
    → let_default d v vs self x p pass m ≡ on_taken (setter_taking d p) (λ q. let_put d v vs self q m) (let_by_reader d v vs self x (reader_of x) pass m)
let_sets d v vs self x pass m None = refl
let_sets d v vs self x pass m (Some p) = let_sets_by d v vs self x pass m p (has_parameters (without_last (parameters_of d p))) refl

set_reads_by : (d : Declarations) (x : Member) (pass : Member → Memory → Effect Next) (m : Memory) (p : ℕ) (b : Bool) → has_parameters (parameters_of d p) ≡ b
    → set_by_reader d x (Some p) pass m ≡ on_taken (taking (λ q. has_parameters (parameters_of d q)) (Some p)) (λ q. Bad-at 438 m) (pass x m)
set_reads_by d x pass m p true f = rw f refl
set_reads_by d x pass m p false f = rw f refl

pub set_reads : (d : Declarations) (x : Member) (pass : Member → Memory → Effect Next) (m : Memory) (p : Option ℕ)
    → set_by_reader d x p pass m ≡ on_taken (taking (λ q. has_parameters (parameters_of d q)) p) (λ q. Bad-at 438 m) (pass x m)
set_reads d x pass m None = refl
set_reads d x pass m (Some p) = set_reads_by d x pass m p (has_parameters (parameters_of d p)) refl

set_sets_by : (d : Declarations) (v : Val) (vs : List Val) (self : Val) (x : Member) (pass : Member → Memory → Effect Next) (m : Memory) (p : ℕ) (b : Bool)
    → has_parameters (without_last (parameters_of d p)) ≡ b
    → set_default d v vs self x (Some p) pass m ≡ on_taken (setter_taking d (Some p)) (λ q. set_called_with d v vs self q m) (set_by_reader d x (reader_of x) pass m)
set_sets_by d v vs self x pass m p true f = rw f refl
set_sets_by d v vs self x pass m p false f = rw f refl

pub set_sets : (d : Declarations) (v : Val) (vs : List Val) (self : Val) (x : Member) (pass : Member → Memory → Effect Next) (m : Memory) (p : Option ℕ)
    → set_default d v vs self x p pass m ≡ on_taken (setter_taking d p) (λ q. set_called_with d v vs self q m) (set_by_reader d x (reader_of x) pass m)
set_sets d v vs self x pass m None = refl
set_sets d v vs self x pass m (Some p) = set_sets_by d v vs self x pass m p (has_parameters (without_last (parameters_of d p))) refl

-- ---- operands

pub counted_object : (d : Declarations) (w : Val) (me : ObjRef) (m : Memory) → w ≡ object me → true ≡ is_instance w m
    → counted_operand d w m ≡ after_use (read_default d (object me) (class_of_value d (object me) m).default m) no_object no_object_here
counted_object d w me m e f = rw (← f, e) refl

pub counted_other : (d : Declarations) (w : Val) (m : Memory) → false ≡ is_instance w m → counted_operand d w m ≡ Bad-at 449 m
counted_other d w m f = rw (← f) refl

pub enumerated_object : (d : Declarations) (w : Val) (me : ObjRef) (m : Memory) → w ≡ object me → true ≡ is_instance w m
    → enumerator_of d w m ≡ after_use (read_default d (object me) (class_of_value d (object me) m).enumerator m) walked collection_here
enumerated_object d w me m e f = rw (← f, e) refl

pub enumerated_other : (d : Declarations) (w : Val) (m : Memory) → false ≡ is_instance w m → enumerator_of d w m ≡ Fine (gives w) m
enumerated_other d w m f = rw (← f) refl

neither : (b : Bool) (x y : Effect Next) → (if b && false then x else y) ≡ y
neither true x y = refl
neither false x y = refl

any_at : (d : Declarations) (me : ObjRef) (x : Member) (m : Memory) → true ≡ is_instance (object me) m → Some x ≡ (class_at d (class_of me m)).default
    → true ≡ reads_alone d x → counted_if_any d (object me) m ≡ read_member d (object me) x m
any_at d me x m f g h = rw (← f, ← g, ← h) refl

pub any_object : (d : Declarations) (w : Val) (me : ObjRef) (x : Member) (m : Memory) → w ≡ object me → true ≡ is_instance w m
    → Some x ≡ (class_at d (class_of me m)).default → true ≡ reads_alone d x → counted_if_any d w m ≡ read_member d (object me) x m
any_object d w me x m e f g h = rw e (any_at d me x m (rw e at f) g h)

none_at : (d : Declarations) (me : ObjRef) (m : Memory) → None ≡ (class_at d (class_of me m)).default → counted_if_any d (object me) m ≡ Fine (gives (object me)) m
none_at d me m g = rw (← g) (neither (is_instance (object me) m) _ _)

pub any_none : (d : Declarations) (w : Val) (me : ObjRef) (m : Memory) → w ≡ object me → None ≡ (class_at d (class_of me m)).default → counted_if_any d w m ≡ Fine (gives w) m
any_none d w me m e g = rw e (none_at d me m g)

not_at : (d : Declarations) (me : ObjRef) (x : Member) (m : Memory) → Some x ≡ (class_at d (class_of me m)).default → false ≡ reads_alone d x
    → counted_if_any d (object me) m ≡ Fine (gives (object me)) m
not_at d me x m g h = rw (← g, ← h) (neither (is_instance (object me) m) _ _)

pub any_not : (d : Declarations) (w : Val) (me : ObjRef) (x : Member) (m : Memory) → w ≡ object me → Some x ≡ (class_at d (class_of me m)).default
    → false ≡ reads_alone d x → counted_if_any d w m ≡ Fine (gives w) m
any_not d w me x m e g h = rw e (not_at d me x m g h)

pub any_other : (d : Declarations) (w : Val) (m : Memory) → false ≡ is_instance w m → counted_if_any d w m ≡ Fine (gives w) m
any_other d w m f = rw (← f) refl

-- ---- objects of classes, and all other values

pub index_object : (d : Declarations) (n : ℕ) (vs : List Val) (w : Val) (me : ObjRef) (m : Memory) → w ≡ object me → true ≡ is_instance w m
    → index_along d n vs w m ≡ index_member d (object me) vs (class_of_value d (object me) m).default (λ x m1. index_pass d n vs (object me) x m1) m
index_object d n vs w me m e f = rw (index_is d n vs w m, ← f, e) refl

pub index_other : (d : Declarations) (n : ℕ) (vs : List Val) (w : Val) (m : Memory) → false ≡ is_instance w m → index_along d n vs w m ≡ over_with (item_by w vs m)
index_other d n vs w m f = rw (index_is d n vs w m, ← f) refl

pub write_object : (d : Declarations) (n : ℕ) (v w : Val) (me : ObjRef) (m : Memory) → w ≡ object me → true ≡ is_instance w m
    → write_along d n v w m ≡ write_member d v (object me) (class_of_value d (object me) m).default (λ x m1. write_pass d n v (object me) x m1) m
write_object d n v w me m e f = rw (write_is d n v w m, ← f, e) refl

pub write_other : (d : Declarations) (n : ℕ) (v w : Val) (m : Memory) → false ≡ is_instance w m → write_along d n v w m ≡ write_host d v w m
write_other d n v w m f = rw (write_is d n v w m, ← f) refl

pub let_object : (d : Declarations) (n : ℕ) (vs : List Val) (v w : Val) (me : ObjRef) (m : Memory) → w ≡ object me → true ≡ is_instance w m
    → let_along d n vs v w m ≡ let_member d v vs (object me) (class_of_value d (object me) m).default (λ x m1. let_pass d n vs v (object me) x m1) m
let_object d n vs v w me m e f = rw (let_is d n vs v w m, ← f, e) refl

pub let_other : (d : Declarations) (n : ℕ) (vs : List Val) (v w : Val) (m : Memory) → false ≡ is_instance w m → let_along d n vs v w m ≡ let_item_of d v vs w m
let_other d n vs v w m f = rw (let_is d n vs v w m, ← f) refl

pub set_of_object : (d : Declarations) (n : ℕ) (vs : List Val) (v w : Val) (me : ObjRef) (m : Memory) → w ≡ object me → true ≡ is_instance w m
    → set_along d n vs v w m ≡ set_by_member d v vs (object me) (class_of_value d (object me) m).default (λ x m1. set_pass d n vs v (object me) x m1) m
set_of_object d n vs v w me m e f = rw (set_is d n vs v w m, ← f, e) refl

pub set_other : (d : Declarations) (n : ℕ) (vs : List Val) (v w : Val) (m : Memory) → false ≡ is_instance w m → set_along d n vs v w m ≡ set_item_of v vs w m
set_other d n vs v w m f = rw (set_is d n vs v w m, ← f) refl

-- ---- a default member takes the arguments, or passes them on

pub index_takes : (d : Declarations) (w : Val) (vs : List Val) (x : Member) (pass : Member → Memory → Effect Next) (m : Memory) (p : ℕ) (o : Option Member)
    → Some x ≡ o → Some p ≡ reader_taking d x → index_member d w vs o pass m ≡ called_with d vs w p m
index_takes d w vs x pass m p o e f = rw (← e, index_taken d w vs x pass m, ← f) refl

pub index_passes : (d : Declarations) (w : Val) (vs : List Val) (x : Member) (pass : Member → Memory → Effect Next) (m : Memory) (o : Option Member)
    → Some x ≡ o → None ≡ reader_taking d x → index_member d w vs o pass m ≡ pass x m
index_passes d w vs x pass m o e f = rw (← e, index_taken d w vs x pass m, ← f) refl

pub let_puts : (d : Declarations) (v : Val) (vs : List Val) (w : Val) (x : Member) (pass : Member → Memory → Effect Next) (m : Memory) (p : ℕ) (o : Option Member)
    → Some x ≡ o → Some p ≡ setter_taking d (let_setter x) → let_member d v vs w o pass m ≡ let_put d v vs w p m
let_puts d v vs w x pass m p o e f = rw (← e, let_sets d v vs w x pass m (let_setter x), ← f) refl

pub let_calls : (d : Declarations) (v : Val) (vs : List Val) (w : Val) (x : Member) (pass : Member → Memory → Effect Next) (m : Memory) (p : ℕ) (o : Option Member)
    → Some x ≡ o → None ≡ setter_taking d (let_setter x) → Some p ≡ reader_taking d x → let_member d v vs w o pass m ≡ let_called_with d v vs w p m
let_calls d v vs w x pass m p o e f g = rw (← e, let_sets d v vs w x pass m (let_setter x), ← f, let_reads d v vs w x pass m (reader_of x), ← g) refl

pub let_passes : (d : Declarations) (v : Val) (vs : List Val) (w : Val) (x : Member) (pass : Member → Memory → Effect Next) (m : Memory) (o : Option Member)
    → Some x ≡ o → None ≡ setter_taking d (let_setter x) → None ≡ reader_taking d x → let_member d v vs w o pass m ≡ pass x m
let_passes d v vs w x pass m o e f g = rw (← e, let_sets d v vs w x pass m (let_setter x), ← f, let_reads d v vs w x pass m (reader_of x), ← g) refl

pub set_calls : (d : Declarations) (v : Val) (vs : List Val) (w : Val) (x : Member) (pass : Member → Memory → Effect Next) (m : Memory) (p : ℕ) (o : Option Member)
    → Some x ≡ o → Some p ≡ setter_taking d (setter_of x) → set_by_member d v vs w o pass m ≡ set_called_with d v vs w p m
set_calls d v vs w x pass m p o e f = rw (← e, set_sets d v vs w x pass m (setter_of x), ← f) refl

pub set_cannot : (d : Declarations) (v : Val) (vs : List Val) (w : Val) (x : Member) (pass : Member → Memory → Effect Next) (m : Memory) (p : ℕ) (o : Option Member)
    → Some x ≡ o → None ≡ setter_taking d (setter_of x) → Some p ≡ reader_taking d x → set_by_member d v vs w o pass m ≡ Bad-at 438 m
set_cannot d v vs w x pass m p o e f g = rw (← e, set_sets d v vs w x pass m (setter_of x), ← f, set_reads d x pass m (reader_of x), ← g) refl

pub set_passes : (d : Declarations) (v : Val) (vs : List Val) (w : Val) (x : Member) (pass : Member → Memory → Effect Next) (m : Memory) (o : Option Member)
    → Some x ≡ o → None ≡ setter_taking d (setter_of x) → None ≡ reader_taking d x → set_by_member d v vs w o pass m ≡ pass x m
set_passes d v vs w x pass m o e f g = rw (← e, set_sets d v vs w x pass m (setter_of x), ← f, set_reads d x pass m (reader_of x), ← g) refl

-- ---- a variable is written

pub variable_passes : (d : Declarations) (v : Val) (place q : Path) (x : Member) (pass : Member → Memory → Effect Next) (m : Memory) → place ≡ q
    → true ≡ is_object_type place.of → write_variable d v q x pass m ≡ pass x m
variable_passes d v place q x pass m e f = rw (← e, ← f) refl

pub variable_takes : (d : Declarations) (v : Val) (place q : Path) (x : Member) (pass : Member → Memory → Effect Next) (m : Memory) → place ≡ q
    → false ≡ is_object_type place.of → write_variable d v q x pass m ≡ put d (in_variable place) v m
variable_takes d v place q x pass m e f = rw (← e, ← f) refl

-- ---- a Property Let that takes arguments

pub put_with : (d : Declarations) (v : Val) (vs : List Val) (self : Val) (p : ℕ) (m : Memory) (qs : List Parameter) → qs ≡ without_last (parameters_of d p)
    → let_put d v vs self p m ≡ on_fine (slots_from qs vs m) (λ xs m1. put d (by_let p self xs) v m1)
put_with d v vs self p m qs e = rw e refl

-- ---- what reads a default member takes the arguments, or passes them on

pub let_read_by : (d : Declarations) (v : Val) (vs : List Val) (w : Val) (x : Member) (pass : Member → Memory → Effect Next) (m : Memory) (p : ℕ)
    → Some p ≡ reader_taking d x → let_by_reader d v vs w x (reader_of x) pass m ≡ let_called_with d v vs w p m
let_read_by d v vs w x pass m p f = let_reads d v vs w x pass m (reader_of x) ∙ ap (λ o. on_taken o (λ q. let_called_with d v vs w q m) (pass x m)) (sym f)

pub let_read_by_none : (d : Declarations) (v : Val) (vs : List Val) (w : Val) (x : Member) (pass : Member → Memory → Effect Next) (m : Memory)
    → None ≡ reader_taking d x → let_by_reader d v vs w x (reader_of x) pass m ≡ pass x m
let_read_by_none d v vs w x pass m f = let_reads d v vs w x pass m (reader_of x) ∙ ap (λ o. on_taken o (λ q. let_called_with d v vs w q m) (pass x m)) (sym f)

pub let_set_none : (d : Declarations) (v : Val) (vs : List Val) (w : Val) (x : Member) (pass : Member → Memory → Effect Next) (m : Memory)
    → None ≡ setter_taking d (let_setter x) → let_default d v vs w x (let_setter x) pass m ≡ let_by_reader d v vs w x (reader_of x) pass m
let_set_none d v vs w x pass m f =
    let_sets d v vs w x pass m (let_setter x) ∙ ap (λ o. on_taken o (λ q. let_put d v vs w q m) (let_by_reader d v vs w x (reader_of x) pass m)) (sym f)

pub set_read_by : (d : Declarations) (x : Member) (pass : Member → Memory → Effect Next) (m : Memory) (p : ℕ)
    → Some p ≡ reader_taking d x → set_by_reader d x (reader_of x) pass m ≡ Bad-at 438 m
set_read_by d x pass m p f = set_reads d x pass m (reader_of x) ∙ ap (λ o. on_taken {A = Effect Next} o (λ q. Bad-at 438 m) (pass x m)) (sym f)

pub set_read_by_none : (d : Declarations) (x : Member) (pass : Member → Memory → Effect Next) (m : Memory)
    → None ≡ reader_taking d x → set_by_reader d x (reader_of x) pass m ≡ pass x m
set_read_by_none d x pass m f = set_reads d x pass m (reader_of x) ∙ ap (λ o. on_taken {A = Effect Next} o (λ q. Bad-at 438 m) (pass x m)) (sym f)

pub set_set_none : (d : Declarations) (v : Val) (vs : List Val) (w : Val) (x : Member) (pass : Member → Memory → Effect Next) (m : Memory)
    → None ≡ setter_taking d (setter_of x) → set_default d v vs w x (setter_of x) pass m ≡ set_by_reader d x (reader_of x) pass m
set_set_none d v vs w x pass m f =
    set_sets d v vs w x pass m (setter_of x) ∙ ap (λ o. on_taken o (λ q. set_called_with d v vs w q m) (set_by_reader d x (reader_of x) pass m)) (sym f)
