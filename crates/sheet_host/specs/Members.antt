-- The members of host objects.
use Rattle.std.specs.Prelude.{◌≡◌, ℕ, List, [], ◌∷◌, map, codes, bytes_eq, Result, Ok, Err, if◌then◌else◌}
use Rattle.vba_base.specs.Fold.{folded}
use Rattle.vba_values.specs.declared.fault.Bad.{Bad}
use Rattle.vba_values.specs.declared.fault.Bad.TheVariants.{Raise}
use Rattle.vba_values.specs.declared.object.HostRef.{HostRef}
use Rattle.vba_values.specs.declared.object.HostRef.TheVariants as host
use Rattle.sheet_host.specs.declared.members.HostMember.{HostMember}
use Rattle.sheet_host.specs.declared.members.HostMember.TheVariants.{Read, Write, Call}

-- a member: its name, and how it is used, with its number in its object
pub record Member : Type 0 where
  pub name : List ℕ
  pub how : HostMember

abbrev pub member : List ℕ → HostMember → Member
member name how = record { name = name; how = how }

-- the table of members
abbrev pub members_of : HostRef → List Member
members_of host.Application =
    member (codes "EnableEvents") (Write 0)
    ∷ member (codes "ScreenUpdating") (Write 1)
    ∷ member (codes "DisplayAlerts") (Write 2)
    ∷ []
members_of host.Workbook =
    member (codes "Worksheets") (Read 0)
    ∷ member (codes "Sheets") (Read 1)
    ∷ []
members_of host.Sheets =
    member (codes "Count") (Read 0)
    ∷ member (codes "Item") (Read 1)
    ∷ []
members_of host.ErrObject =
    member (codes "Number") (Read 0)
    ∷ member (codes "Source") (Read 1)
    ∷ member (codes "Description") (Read 2)
    ∷ member (codes "Clear") (Call 3)
    ∷ member (codes "Raise") (Call 4)
    ∷ []
members_of (host.Sheet number) =
    member (codes "Name") (Read 0)
    ∷ member (codes "Index") (Read 1)
    ∷ member (codes "Cells") (Read 2)
    ∷ member (codes "Range") (Read 3)
    ∷ member (codes "UsedRange") (Read 4)
    ∷ []
members_of (host.Area sheet top left rows columns) =
    member (codes "Value") (Write 0)
    ∷ member (codes "Address") (Read 1)
    ∷ member (codes "Row") (Read 2)
    ∷ member (codes "Column") (Read 3)
    ∷ member (codes "Count") (Read 4)
    ∷ member (codes "Rows") (Read 5)
    ∷ member (codes "Columns") (Read 6)
    ∷ member (codes "Cells") (Read 7)
    ∷ member (codes "Item") (Read 8)
    ∷ member (codes "Offset") (Read 9)
    ∷ member (codes "Resize") (Read 10)
    ∷ member (codes "ClearContents") (Call 11)
    ∷ member (codes "Worksheet") (Read 12)
    ∷ member (codes "Parent") (Read 13)
    ∷ []
members_of (host.RowsOf count) = member (codes "Count") (Read 0) ∷ []
members_of (host.ColumnsOf count) = member (codes "Count") (Read 0) ∷ []

-- Object doesn't support this property or method
abbrev pub no_such_member : Bad
no_such_member = Raise 438

-- a member under its folded name
abbrev pub Entry : Type 0
Entry = List ℕ × HostMember

abbrev pub entry_of : Member → Entry
entry_of m = (folded m.name, m.how)

-- how the first entry with this folded name is used
abbrev pub first_named : List ℕ → List Entry → Result HostMember Bad
first_named name [] = Err no_such_member
first_named name (entry ∷ entries) = if bytes_eq name entry.0 then Ok entry.1 else first_named name entries

-- how the member with a folded name is used; 438 where the object has none
abbrev pub member_of : HostRef → List ℕ → Result HostMember Bad
member_of object name = first_named name (map entry_of (members_of object))

-- the number of a member
abbrev pub number_of : HostMember → ℕ
number_of (Read n) = n
number_of (Write n) = n
number_of (Call n) = n

-- no number stands twice
abbrev pub IsAbsent : ℕ → List Member → Type 0
IsAbsent n [] = Unit {0}
IsAbsent n (m ∷ members) = ¬ (n ≡ number_of m.how) × IsAbsent n members

abbrev pub HaveOwnNumbers : List Member → Type 0
HaveOwnNumbers [] = Unit {0}
HaveOwnNumbers (m ∷ members) = IsAbsent (number_of m.how) members × HaveOwnNumbers members
