use Rattle.std.proofs.Common.{refl, inl, inr}
use Rattle.caseless.proofs.Computing.{caseless}
use Rattle.vba_base.specs.Fold.{folded}
use Rattle.sheet_host.proofs.members.members_of.Goals as goal

pub returns-in-Application : goal.returns-in-Application
unfolding folded caseless
returns-in-Application c = rw c.in-Application.is refl

pub returns-in-Workbook : goal.returns-in-Workbook
unfolding folded caseless
returns-in-Workbook c = rw c.in-Workbook.is refl

pub returns-in-Sheets : goal.returns-in-Sheets
unfolding folded caseless
returns-in-Sheets c = rw c.in-Sheets.is refl

pub returns-in-ErrObject : goal.returns-in-ErrObject
unfolding folded caseless
returns-in-ErrObject c = rw c.in-ErrObject.is refl

pub returns-in-Sheet : goal.returns-in-Sheet
unfolding folded caseless
returns-in-Sheet c = rw c.in-Sheet.is refl

pub returns-in-Area : goal.returns-in-Area
unfolding folded caseless
returns-in-Area c = rw c.in-Area.is refl

pub returns-in-RowsOf : goal.returns-in-RowsOf
unfolding folded caseless
returns-in-RowsOf c = elim c.in-RowsOf.is [ inl is ↦ rw is.1 refl | inr is ↦ rw is.1 refl ]
