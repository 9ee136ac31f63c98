-- The definitions on worked rows.
use Rattle.std.specs.Prelude.{◌≡◌, [], ◌∷◌, ◌++◌, codes, true, Err}
use Rattle.std.proofs.Common.{refl}
use Rattle.caseless.proofs.Computing.{caseless}
use Rattle.vba_base.specs.Fold.{folded}
use Rattle.vba_base.specs.Text.{encoded}
use Rattle.list_file.specs.Lines.{entry_of, says_nothing, a_module, a_sheet, no_entry}
use Rattle.list_file.specs.Lists.{list_of}
use Rattle.list_file.specs.Plans.{plan_of, bad_line}

-- a comment, blanks, a path with what no path needs, a name up to the first `;`
row_comment : entry_of (codes "# a list") ≡ says_nothing
row_comment = refl

row_blank : entry_of (codes " ") ≡ no_entry
row_blank = refl

row_class : entry_of (codes "Class=c.cls") ≡ a_module true (encoded (codes "c.cls"))
row_class = refl

row_case : entry_of (codes "module=a.bas") ≡ no_entry
row_case = refl

row_blank_before : entry_of (codes " Module=a.bas") ≡ no_entry
row_blank_before = refl

row_sheet : entry_of (codes "Sheet=A;b;c") ≡ a_sheet (codes "A") (encoded (codes "b;c"))
row_sheet = refl

row_no_path : entry_of (codes "Module=") ≡ no_entry
row_no_path = refl

-- a list without a startup, and one that is empty
row_no_startup : list_of (codes "Module=m") ≡ Err 0
row_no_startup = refl

row_empty : list_of [] ≡ Err 0
row_empty = refl

-- lines end at CR LF as at LF
row_third_line : plan_of (codes "Module=m" ++ 13 ∷ 10 ∷ 10 ∷ codes "Modul=n") ≡ bad_line 3
row_third_line = refl

-- names of sheets match without regard to case
row_repeated_sheet : list_of (codes "Sheet=A;p" ++ 10 ∷ codes "Sheet=a;q") ≡ Err 2
unfolding folded caseless
row_repeated_sheet = refl
