-- Worked rows.
use Rattle.std.specs.Prelude.{◌≡◌, true, false, [], ◌∷◌, refl, codes, Some, None}
use Rattle.clap.proofs.OnLiterals.{clap_on_literals}
use Rattle.command_words.specs.Words.{run, check, code, command_of, found_rows}

pub plain : command_of (codes "run" ∷ codes "m.bas" ∷ []) ≡ Some (run (codes "m.bas") 10000000 false None)
unfolding found_rows clap_on_literals
plain = refl

pub turns_before : command_of (codes "run" ∷ codes "--turns" ∷ codes "5" ∷ codes "m.bas" ∷ []) ≡ Some (run (codes "m.bas") 5 false None)
unfolding found_rows clap_on_literals
turns_before = refl

pub turns_behind : command_of (codes "run" ∷ codes "m.bas" ∷ codes "--turns=5" ∷ []) ≡ Some (run (codes "m.bas") 5 false None)
unfolding found_rows clap_on_literals
turns_behind = refl

pub turns_with_zeros : command_of (codes "run" ∷ codes "--turns" ∷ codes "007" ∷ codes "m.bas" ∷ []) ≡ Some (run (codes "m.bas") 7 false None)
unfolding found_rows clap_on_literals
turns_with_zeros = refl

pub turns_twice : command_of (codes "run" ∷ codes "--turns" ∷ codes "9" ∷ codes "--turns" ∷ codes "9" ∷ codes "m.bas" ∷ []) ≡ None
unfolding found_rows clap_on_literals
turns_twice = refl

pub dashes : command_of (codes "run" ∷ codes "--" ∷ codes "m.bas" ∷ []) ≡ Some (run (codes "m.bas") 10000000 false None)
unfolding found_rows clap_on_literals
dashes = refl

pub behind_dashes : command_of (codes "run" ∷ codes "--" ∷ codes "--x.bas" ∷ []) ≡ Some (run (codes "--x.bas") 10000000 false None)
unfolding found_rows clap_on_literals
behind_dashes = refl

pub no_list : command_of (codes "run" ∷ []) ≡ None
unfolding found_rows clap_on_literals
no_list = refl

pub two_lists : command_of (codes "run" ∷ codes "a" ∷ codes "b" ∷ []) ≡ None
unfolding found_rows clap_on_literals
two_lists = refl

pub unknown_option : command_of (codes "run" ∷ codes "-x" ∷ codes "m.bas" ∷ []) ≡ None
unfolding found_rows clap_on_literals
unknown_option = refl

pub turns_takes_the_list : command_of (codes "run" ∷ codes "--turns" ∷ codes "m.bas" ∷ []) ≡ None
unfolding found_rows clap_on_literals
turns_takes_the_list = refl

pub most : command_of (codes "run" ∷ codes "--turns" ∷ codes "1000000000000" ∷ codes "m.bas" ∷ []) ≡ Some (run (codes "m.bas") 1000000000000 false None)
unfolding found_rows clap_on_literals
most = refl

pub too_many : command_of (codes "run" ∷ codes "--turns" ∷ codes "1000000000001" ∷ codes "m.bas" ∷ []) ≡ None
unfolding found_rows clap_on_literals
too_many = refl

pub too_long : command_of (codes "run" ∷ codes "--turns" ∷ codes "00000000000001" ∷ codes "m.bas" ∷ []) ≡ None
unfolding found_rows clap_on_literals
too_long = refl

pub no_turns : command_of (codes "run" ∷ codes "--turns" ∷ codes "0" ∷ codes "m.bas" ∷ []) ≡ Some (run (codes "m.bas") 0 false None)
unfolding found_rows clap_on_literals
no_turns = refl

pub empty_turns : command_of (codes "run" ∷ codes "--turns=" ∷ codes "m.bas" ∷ []) ≡ None
unfolding found_rows clap_on_literals
empty_turns = refl

pub plus : command_of (codes "run" ∷ codes "--turns" ∷ codes "+5" ∷ codes "m.bas" ∷ []) ≡ None
unfolding found_rows clap_on_literals
plus = refl

pub traced : command_of (codes "run" ∷ codes "--trace" ∷ codes "m.bas" ∷ []) ≡ Some (run (codes "m.bas") 10000000 true None)
unfolding found_rows clap_on_literals
traced = refl

pub trace_behind : command_of (codes "run" ∷ codes "m.bas" ∷ codes "--turns" ∷ codes "5" ∷ codes "--trace" ∷ []) ≡ Some (run (codes "m.bas") 5 true None)
unfolding found_rows clap_on_literals
trace_behind = refl

pub trace_with_value : command_of (codes "run" ∷ codes "--trace=1" ∷ codes "m.bas" ∷ []) ≡ None
unfolding found_rows clap_on_literals
trace_with_value = refl

pub trace_empty : command_of (codes "run" ∷ codes "--trace=" ∷ codes "m.bas" ∷ []) ≡ None
unfolding found_rows clap_on_literals
trace_empty = refl

pub trace_twice : command_of (codes "run" ∷ codes "--trace" ∷ codes "--trace" ∷ codes "m.bas" ∷ []) ≡ None
unfolding found_rows clap_on_literals
trace_twice = refl

pub checked : command_of (codes "check" ∷ codes "m.bas" ∷ []) ≡ Some (check (codes "m.bas"))
unfolding found_rows clap_on_literals
checked = refl

pub check_turns : command_of (codes "check" ∷ codes "--turns" ∷ codes "5" ∷ codes "m.bas" ∷ []) ≡ None
unfolding found_rows clap_on_literals
check_turns = refl

pub check_trace : command_of (codes "check" ∷ codes "--trace" ∷ codes "m.bas" ∷ []) ≡ None
unfolding found_rows clap_on_literals
check_trace = refl

pub dash : command_of (codes "check" ∷ codes "-" ∷ []) ≡ Some (check (codes "-"))
unfolding found_rows clap_on_literals
dash = refl

pub empty_list : command_of (codes "run" ∷ [] ∷ []) ≡ Some (run [] 10000000 false None)
unfolding found_rows clap_on_literals
empty_list = refl

pub help_word : command_of (codes "help" ∷ []) ≡ None
unfolding found_rows clap_on_literals
help_word = refl

pub help_flag : command_of (codes "run" ∷ codes "--help" ∷ []) ≡ None
unfolding found_rows clap_on_literals
help_flag = refl

pub other_case : command_of (codes "Run" ∷ codes "m.bas" ∷ []) ≡ None
unfolding found_rows clap_on_literals
other_case = refl

pub list_of_list : command_of (codes "run" ∷ codes "--" ∷ codes "--" ∷ []) ≡ Some (run (codes "--") 10000000 false None)
unfolding found_rows clap_on_literals
list_of_list = refl

pub nothing_behind_dashes : command_of (codes "run" ∷ codes "--" ∷ []) ≡ None
unfolding found_rows clap_on_literals
nothing_behind_dashes = refl

pub options_behind_dashes : command_of (codes "run" ∷ codes "m.bas" ∷ codes "--" ∷ codes "--trace" ∷ []) ≡ None
unfolding found_rows clap_on_literals
options_behind_dashes = refl

pub dashes_as_turns : command_of (codes "run" ∷ codes "--turns" ∷ codes "--" ∷ codes "m.bas" ∷ []) ≡ None
unfolding found_rows clap_on_literals
dashes_as_turns = refl

pub option_as_turns : command_of (codes "run" ∷ codes "--turns" ∷ codes "--trace" ∷ codes "m.bas" ∷ []) ≡ None
unfolding found_rows clap_on_literals
option_as_turns = refl

pub shorter_option : command_of (codes "run" ∷ codes "--turn" ∷ codes "5" ∷ codes "m.bas" ∷ []) ≡ None
unfolding found_rows clap_on_literals
shorter_option = refl

pub version_flag : command_of (codes "run" ∷ codes "--version" ∷ codes "m.bas" ∷ []) ≡ None
unfolding found_rows clap_on_literals
version_flag = refl

pub short_help : command_of (codes "check" ∷ codes "-h" ∷ []) ≡ None
unfolding found_rows clap_on_literals
short_help = refl

pub list_named_help : command_of (codes "run" ∷ codes "help" ∷ []) ≡ Some (run (codes "help") 10000000 false None)
unfolding found_rows clap_on_literals
list_named_help = refl

pub no_words : command_of [] ≡ None
unfolding found_rows clap_on_literals
no_words = refl

pub saved : command_of (codes "run" ∷ codes "--save" ∷ codes ".out" ∷ codes "p.txt" ∷ []) ≡ Some (run (codes "p.txt") 10000000 false (Some (codes ".out")))
unfolding found_rows clap_on_literals
saved = refl

pub save_behind : command_of (codes "run" ∷ codes "p.txt" ∷ codes "--save=.out" ∷ codes "--trace" ∷ codes "--turns" ∷ codes "5" ∷ []) ≡ Some (run (codes "p.txt") 5 true (Some (codes ".out")))
unfolding found_rows clap_on_literals
save_behind = refl

pub save_nothing_behind_mark : command_of (codes "run" ∷ codes "--save=" ∷ codes "p.txt" ∷ []) ≡ Some (run (codes "p.txt") 10000000 false (Some []))
unfolding found_rows clap_on_literals
save_nothing_behind_mark = refl

pub save_empty : command_of (codes "run" ∷ codes "--save" ∷ [] ∷ codes "p.txt" ∷ []) ≡ Some (run (codes "p.txt") 10000000 false (Some []))
unfolding found_rows clap_on_literals
save_empty = refl

pub save_mark : command_of (codes "run" ∷ codes "--save==x" ∷ codes "p.txt" ∷ []) ≡ Some (run (codes "p.txt") 10000000 false (Some (codes "=x")))
unfolding found_rows clap_on_literals
save_mark = refl

pub save_dash : command_of (codes "run" ∷ codes "--save" ∷ codes "-" ∷ codes "p.txt" ∷ []) ≡ Some (run (codes "p.txt") 10000000 false (Some (codes "-")))
unfolding found_rows clap_on_literals
save_dash = refl

pub save_option : command_of (codes "run" ∷ codes "--save" ∷ codes "-x" ∷ codes "p.txt" ∷ []) ≡ None
unfolding found_rows clap_on_literals
save_option = refl

pub save_option_behind_mark : command_of (codes "run" ∷ codes "--save=-x" ∷ codes "p.txt" ∷ []) ≡ Some (run (codes "p.txt") 10000000 false (Some (codes "-x")))
unfolding found_rows clap_on_literals
save_option_behind_mark = refl

pub save_dashes : command_of (codes "run" ∷ codes "--save" ∷ codes "--" ∷ codes "p.txt" ∷ []) ≡ None
unfolding found_rows clap_on_literals
save_dashes = refl

pub save_takes_the_list : command_of (codes "run" ∷ codes "--save" ∷ codes "p.txt" ∷ []) ≡ None
unfolding found_rows clap_on_literals
save_takes_the_list = refl

pub save_twice : command_of (codes "run" ∷ codes "--save" ∷ codes ".a" ∷ codes "--save" ∷ codes ".a" ∷ codes "p.txt" ∷ []) ≡ None
unfolding found_rows clap_on_literals
save_twice = refl

pub save_both_ways : command_of (codes "run" ∷ codes "--save=.a" ∷ codes "--save" ∷ codes ".b" ∷ codes "p.txt" ∷ []) ≡ None
unfolding found_rows clap_on_literals
save_both_ways = refl

pub save_at_the_end : command_of (codes "run" ∷ codes "p.txt" ∷ codes "--save" ∷ []) ≡ None
unfolding found_rows clap_on_literals
save_at_the_end = refl

pub save_behind_dashes : command_of (codes "run" ∷ codes "--save" ∷ codes ".o" ∷ codes "--" ∷ codes "--save" ∷ []) ≡ Some (run (codes "--save") 10000000 false (Some (codes ".o")))
unfolding found_rows clap_on_literals
save_behind_dashes = refl

pub shorter_save : command_of (codes "run" ∷ codes "--sav" ∷ codes ".o" ∷ codes "p.txt" ∷ []) ≡ None
unfolding found_rows clap_on_literals
shorter_save = refl

pub check_save : command_of (codes "check" ∷ codes "--save" ∷ codes ".o" ∷ codes "p.txt" ∷ []) ≡ None
unfolding found_rows clap_on_literals
check_save = refl

pub listed : command_of (codes "code" ∷ codes "m.bas" ∷ []) ≡ Some (code (codes "m.bas"))
unfolding found_rows clap_on_literals
listed = refl

pub code_alone : command_of (codes "code" ∷ []) ≡ None
unfolding found_rows clap_on_literals
code_alone = refl

pub code_two : command_of (codes "code" ∷ codes "a" ∷ codes "b" ∷ []) ≡ None
unfolding found_rows clap_on_literals
code_two = refl

pub code_save : command_of (codes "code" ∷ codes "--save" ∷ codes ".o" ∷ codes "p.txt" ∷ []) ≡ None
unfolding found_rows clap_on_literals
code_save = refl

pub code_turns : command_of (codes "code" ∷ codes "--turns" ∷ codes "5" ∷ codes "p.txt" ∷ []) ≡ None
unfolding found_rows clap_on_literals
code_turns = refl

pub code_trace : command_of (codes "code" ∷ codes "--trace" ∷ codes "p.txt" ∷ []) ≡ None
unfolding found_rows clap_on_literals
code_trace = refl

pub code_dashes : command_of (codes "code" ∷ codes "--" ∷ codes "--x" ∷ []) ≡ Some (code (codes "--x"))
unfolding found_rows clap_on_literals
code_dashes = refl

pub code_dash : command_of (codes "code" ∷ codes "-" ∷ []) ≡ Some (code (codes "-"))
unfolding found_rows clap_on_literals
code_dash = refl

pub code_help : command_of (codes "code" ∷ codes "--help" ∷ []) ≡ None
unfolding found_rows clap_on_literals
code_help = refl

pub gen_named : command_of (codes "gen" ∷ codes "5" ∷ []) ≡ None
unfolding found_rows clap_on_literals
gen_named = refl
