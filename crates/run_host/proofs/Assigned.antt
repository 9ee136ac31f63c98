-- Members that are assigned to, by how they are.
use Rattle.std.proofs.Common.{◌≡◌, List, [], ◌∷◌, length, refl}
use Rattle.vba_values.specs.declared.object.HostRef.{HostRef}
use Rattle.vba_values.specs.declared.object.HostRef.TheVariants as host
use Rattle.vba_values.specs.Val.{Val}
use Rattle.sheet_host.specs.declared.members.HostMember.{HostMember}
use Rattle.sheet_host.specs.declared.members.HostMember.TheVariants.{Read, Write, Call}
use Rattle.bound_project.specs.Project.{Declarations}
use Rattle.vba_meaning.specs.Memory.{Memory}
use Rattle.vba_meaning.specs.Effects.{Effect, Bad-at, on_fine}
use Rattle.vba_meaning.specs.Host.{are_places, area_written, assigned_through, mark_set, member_by, member_set}
use Rattle.run_host.specs.declared.assigning.Writes.{Writes}
use Rattle.run_host.specs.declared.assigning.Writes.TheVariants as writes
use Rattle.run_host.specs.Members.{way_of}

-- what is done in each way
abbrev pub set_by : Writes → Declarations → HostRef → HostMember → List Val → (begun : Val) → Val → Memory → Effect (Unit {0})
set_by writes.Nothing d r how vs begun v m = Bad-at 438 m
set_by (writes.Mark n) d r how vs begun v m = mark_set n v m
set_by (writes.Cells a) d r how vs begun v m = area_written a v m
set_by writes.Through d r how vs begun v m = on_fine (member_by d r how vs begun m) (λ w m1. assigned_through (are_places r how (length vs)) w v m1)

pub set_ways : (d : Declarations) (r : HostRef) (how : HostMember) (vs : List Val) (begun v : Val) (m : Memory)
    → member_set d r how vs begun v m ≡ set_by (way_of r how vs) d r how vs begun v m
set_ways d r (Call n) vs begun v m = refl
set_ways d host.Application (Write n) [] begun v m = refl
set_ways d host.Application (Write n) (x ∷ vs) begun v m = refl
set_ways d host.Application (Read n) vs begun v m = refl
set_ways d (host.Area s t l b c) (Write n) [] begun v m = refl
set_ways d (host.Area s t l b c) (Write n) (x ∷ vs) begun v m = refl
set_ways d (host.Area s t l b c) (Read n) vs begun v m = refl
set_ways d host.Workbook (Write n) [] begun v m = refl
set_ways d host.Workbook (Write n) (x ∷ vs) begun v m = refl
set_ways d host.Workbook (Read n) vs begun v m = refl
set_ways d host.Sheets (Write n) [] begun v m = refl
set_ways d host.Sheets (Write n) (x ∷ vs) begun v m = refl
set_ways d host.Sheets (Read n) vs begun v m = refl
set_ways d host.ErrObject (Write n) [] begun v m = refl
set_ways d host.ErrObject (Write n) (x ∷ vs) begun v m = refl
set_ways d host.ErrObject (Read n) vs begun v m = refl
set_ways d (host.Sheet s) (Write n) [] begun v m = refl
set_ways d (host.Sheet s) (Write n) (x ∷ vs) begun v m = refl
set_ways d (host.Sheet s) (Read n) vs begun v m = refl
set_ways d (host.RowsOf k) (Write n) [] begun v m = refl
set_ways d (host.RowsOf k) (Write n) (x ∷ vs) begun v m = refl
set_ways d (host.RowsOf k) (Read n) vs begun v m = refl
set_ways d (host.ColumnsOf k) (Write n) [] begun v m = refl
set_ways d (host.ColumnsOf k) (Write n) (x ∷ vs) begun v m = refl
set_ways d (host.ColumnsOf k) (Read n) vs begun v m = refl
