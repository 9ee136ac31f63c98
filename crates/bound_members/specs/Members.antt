-- Serves the code: members of objects, as the binder says them.
use Rattle.std.specs.Prelude.{◌≡◌, ℕ, ◌<◌, length, Bool, true, false, List, [], Option, Some, None}
use Rattle.vba_base.specs.declared.place.Place.{Place}
use Rattle.bound_project.specs.Expressions as bound
use Rattle.bound_project.specs.Drafts.{Drafted}
use Rattle.bound_project.specs.View.{element_view}
use Rattle.bound_calls.specs.bound_forms.specs.Terms.{a_host_member}
use Rattle.bound_calls.specs.bound_forms.specs.Terms as terms
use Rattle.bound_calls.specs.bound_forms.specs.Members as members_bound
use Rattle.bound_calls.specs.bound_forms.specs.Operands.{HostKind, application, workbook, sheets, sheet, area, collection, any_object}
use Rattle.bound_calls.specs.bound_forms.specs.Members.{mark_members, sheets_members, sheet_members, area_members, collection_members, member_of_kind, unknown_member}
use Rattle.bound_calls.specs.declared.term.HostMember.{HostMember}
use Rattle.bound_calls.specs.Standing.{Grown, member_is}
use Rattle.bound_members.specs.declared.kinds.HostKind as declared
use Rattle.bound_members.specs.declared.members.Known.{Known}
use Rattle.bound_members.specs.Kinds.{kind_view}

-- a member by a name and what is known of it
abbrev pub found_member : List ℕ → Known → terms.HostMember
found_member fold k = record { name = fold; of = element_view k.of; least = k.least; greatest = k.greatest; late = false }

abbrev pub entry_member : List ℕ × Known → terms.HostMember
entry_member m = found_member m.0 m.1

-- the members that are listed of a kind
abbrev pub listed : HostKind → List terms.HostMember
listed application = mark_members
listed workbook = []
listed sheets = sheets_members
listed sheet = sheet_members
listed area = area_members
listed collection = collection_members
listed any_object = []

-- the workbook, whose sheets are found in another way
abbrev pub is_workbook : HostKind → Bool
is_workbook workbook = true
is_workbook kind = false

-- a member was found; its name is one more constant, and nothing is pushed
pub record FindsMember (k : declared.HostKind) (fold : List ℕ) (d e : Drafted) (m : HostMember) : Type 0 where
  pub grown : Grown d e
  pub pieces : e.pieces ≡ d.pieces
  pub named : m.name < length e.tables.constants
  pub is : (dot : Place) (object : bound.Expr) → member_of_kind (kind_view k) dot object fold ≡ a_host_member object (member_is e.tables m)

-- a member that the run finds among those of classes too; its name is one more constant, and nothing is pushed
pub record FindsLate (fold : List ℕ) (d e : Drafted) (m : HostMember) : Type 0 where
  pub grown : Grown d e
  pub pieces : e.pieces ≡ d.pieces
  pub named : m.name < length e.tables.constants
  pub is : member_is e.tables m ≡ members_bound.found_member true fold

-- there is none, and nothing changes
pub record FindsNone (k : declared.HostKind) (fold : List ℕ) (d e : Drafted) : Type 0 where
  pub same : e ≡ d
  pub is : (dot : Place) (object : bound.Expr) → member_of_kind (kind_view k) dot object fold ≡ unknown_member dot object

abbrev pub Finds : declared.HostKind → List ℕ → Drafted → Drafted → Option HostMember → Type 0
Finds k fold d e None = FindsNone k fold d e
Finds k fold d e (Some m) = FindsMember k fold d e m
