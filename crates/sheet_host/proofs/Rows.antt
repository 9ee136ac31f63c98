-- The definitions, checked on addresses that are written out.
use Rattle.std.specs.Prelude.{◌≡◌, ℕ, pos, negsuc, codes, Ok, Err, refl}
use Rattle.std.specs.Fmt.{digits}
use Rattle.sheet_host.specs.declared.area.Area.{Area}
use Rattle.sheet_host.specs.declared.area.SheetId.{SheetId}
use Rattle.sheet_host.specs.Area.{host_error, offset_of, resized}
use Rattle.sheet_host.specs.Address.{address_of}
use Rattle.sheet_host.specs.AddressText.{area_of_text}

abbrev sheet : SheetId
sheet = record { 0 = 1 }

abbrev area : ℕ → ℕ → ℕ → ℕ → Area
area top left rows columns = record { sheet = sheet; top = top; left = left; rows = rows; columns = columns }

small_letter : area_of_text sheet (codes "a1") ≡ Ok (area 1 1 1 1)
small_letter = refl

last_cell : area_of_text sheet (codes "$XFD$1048576") ≡ Ok (area 1048576 16384 1 1)
last_cell = refl

-- corners are put in order
turned : area_of_text sheet (codes "b2:A1") ≡ Ok (area 1 1 2 2)
turned = refl

zeros_first : area_of_text sheet (codes "A01") ≡ Ok (area 1 1 1 1)
zeros_first = refl

column_outside : area_of_text sheet (codes "XFE1") ≡ Err host_error
column_outside = refl

row_outside : area_of_text sheet (codes "A1048577") ≡ Err host_error
row_outside = refl

row_zero : area_of_text sheet (codes "A0") ≡ Err host_error
row_zero = refl

three_cells : area_of_text sheet (codes "A1:B2:C3") ≡ Err host_error
three_cells = refl

no_last : area_of_text sheet (codes "A1:") ≡ Err host_error
no_last = refl

one_cell_text : address_of (area 1048576 16384 1 1) ≡ codes "$XFD$1048576"
unfolding digits
one_cell_text = refl

area_text : address_of (area 10 26 2 2) ≡ codes "$Z$10:$AA$11"
unfolding digits
area_text = refl

two_letters : address_of (area 1 702 1 2) ≡ codes "$ZZ$1:$AAA$1"
unfolding digits
two_letters = refl

down : offset_of (area 2 2 3 3) (pos 1) (negsuc 0) ≡ Ok (area 3 1 3 3)
down = refl

up_too_far : offset_of (area 2 2 3 3) (negsuc 1) (pos 0) ≡ Err host_error
up_too_far = refl

no_row : resized (area 2 2 3 3) (pos 0) (pos 1) ≡ Err host_error
no_row = refl
