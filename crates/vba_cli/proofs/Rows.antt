-- The definitions on worked rows.
use Rattle.std.specs.Prelude.{◌≡◌, ℕ, List, [], ◌∷◌, codes, true, false}
use Rattle.std.proofs.Common.{refl}
use Rattle.vba_cli.specs.declared.status.Status.TheVariants as status
use Rattle.vba_cli.specs.Command.{ends_in_bas}
use Rattle.vba_cli.specs.Messages.{path_at, sheet_name, status_text}
use Rattle.vba_cli.specs.Named.{Named}

-- one standard module, and lists
row_module : ends_in_bas (codes "dir/M.BaS") ≡ true
row_module = refl

row_list : ends_in_bas (codes "m.bas.txt") ≡ false
row_list = refl

paths : List (List ℕ)
paths = codes "a.bas" ∷ codes "b.bas" ∷ []

-- the file that a command names, a module of its list, and one standard module, whose place has the number 1
row_named : path_at (codes "p.txt") paths 0 ≡ codes "p.txt"
row_named = refl

row_second : path_at (codes "p.txt") paths 2 ≡ codes "b.bas"
unfolding paths
row_second = refl

row_alone : path_at (codes "m.bas") [] 1 ≡ codes "m.bas"
row_alone = refl

-- the text names the file that can't be read
named : Named
named = record { modules = paths; sheets = record { name = codes "S"; path = codes "s.csv" } ∷ [] }

row_unread : status_text (codes "p.txt") named 0 (status.ReadFault 1) ≡ codes "vbarun: cannot read a.bas"
unfolding paths named
row_unread = refl

row_sheet : status_text (codes "p.txt") named 0 (status.TooLong 3) ≡ codes "vbarun: too long: s.csv"
unfolding paths named
row_sheet = refl

row_book : sheet_name named.sheets 1 ≡ codes "S"
unfolding paths named
row_book = refl
