-- New objects that are told, and what a read of a place makes first.
use Rattle.std.proofs.Common.{◌≡◌, ℕ, zero, suc, List, ◌++◌, refl, sym}
use Rattle.std.specs.Prelude.{Option, Some, None}
use Rattle.vba_values.specs.declared.object.ObjRef.{ObjRef}
use Rattle.vba_values.specs.declared.object.ObjRef.TheVariants.{Nothing, Heap, Host}
use Rattle.vba_values.specs.Val.{Val, empty}
use Rattle.bound_project.specs.Project.{Declarations}
use Rattle.vba_meaning.specs.Paths.{Path}
use Rattle.vba_meaning.specs.Memory.{Memory, value_at}
use Rattle.vba_meaning.specs.Effects.{Event, Effect, Fine, on_fine}
use Rattle.vba_meaning.specs.Objects.{initialize_of, made, told_made}
use Rattle.vba_meaning.specs.Defaults.{Next, read_made_by, read_variable}
use Rattle.run_memory.specs.Looks.{object_here}
use Rattle.run_objects.specs.Made.{makes_there}
use Rattle.run_objects.proofs.Making.{made_for_is, made_or}
use Rattle.run_host.specs.Tells.{TellsThen}
use Rattle.run_defaults.specs.Parts.{made_events, read_new}

pub made_tells : (old new : List Event) (c n : ℕ) (e : Effect Val) (v : Val) (m : Memory) → e ≡ told_made c n (Fine v m) → new ≡ old ++ made_events c n
    → TellsThen old new e (Fine v m)
made_tells old new zero n e v m is told = record { told = rw is told; behind = rw is refl }
made_tells old new (suc c) n e v m is told = record { told = rw is told; behind = rw is refl }

-- ---- what a read makes first

makes_some : (makes : Option ℕ) (o : Option ObjRef) (c : ℕ) → makes_there makes o ≡ Some c → makes ≡ Some c
makes_some None o c h = absurd cc
makes_some (Some k) None c h = absurd cc
makes_some (Some k) (Some Nothing) c h = h
makes_some (Some k) (Some (Heap id)) c h = absurd cc
makes_some (Some k) (Some (Host r)) c h = absurd cc

-- what its Class_Initialize is goes by the place
read_made_new : (d : Declarations) (q : Path) (c : ℕ) (m : Memory) → q.makes ≡ Some c
    → on_fine (made d c m) (λ v m1. read_made_by q v (initialize_of d q v) m1) ≡ read_new d q c m
read_made_new d q zero m e = rw e refl
read_made_new d q (suc c) m e = rw e refl

pub read_none : (d : Declarations) (q : Path) (m : Memory) → None ≡ makes_there q.makes (object_here (value_at m q)) → read_variable d q m ≡ read_made_by q empty None m
read_none d q m e = rw (made_for_is d q m) (rw (← e) refl)

pub read_none_by : (d : Declarations) (q : Path) (v : Val) (m : Memory) → None ≡ makes_there q.makes (object_here (value_at m q)) → v ≡ empty → read_variable d q m ≡ read_made_by q v None m
read_none_by d q v m e f = rw f (read_none d q m e)

pub read_some : (d : Declarations) (q : Path) (c : ℕ) (m : Memory) → Some c ≡ makes_there q.makes (object_here (value_at m q)) → read_variable d q m ≡ read_new d q c m
read_some d q c m e =
    rw (made_for_is d q m) (rw (← e) (read_made_new d q c m (makes_some q.makes (object_here (value_at m q)) c (sym e))))
