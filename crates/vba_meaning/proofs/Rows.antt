-- Worked rows: what small programs tell.
use Rattle.std.specs.Prelude.{◌≡◌, pos, [], ◌∷◌, codes, true, false, refl, Some, None}
use Rattle.std.specs.Fmt.{digits}
use Rattle.vba_values.specs.Arithmetic.{division}
use Rattle.vba_values.specs.declared.types.OpKind.TheVariants as op
use Rattle.vba_values.specs.declared.types.Compare.TheVariants.{Binary}
use Rattle.vba_values.specs.declared.types.WholeKind.TheVariants as kind
use Rattle.vba_values.specs.declared.fault.OutKind.TheVariants.{DoubleResult}
use Rattle.vba_values.specs.Types.{Declared}
use Rattle.vba_values.specs.Types as type
use Rattle.vba_values.specs.Val.{null, whole, missing}
use Rattle.bound_project.specs.Expressions.{constant, call, err_value, err_source, err_description, variable, no_args, by_place, by_copy, by_default, no_prints, shown, zone}
use Rattle.bound_project.specs.Statements.{no_tests, test_is, test_range, skipped, handled_at, evaluate, print, raise, test, go_to, for_to, next, select, case_of, go_sub, return_sub, exit_to, on_error, resume_again, stop, end_run}
use Rattle.bound_project.specs.Project.{Project, no_name, nowhere}
use Rattle.vba_meaning.specs.Memory.{Ended, Stopped, Going, stop_said, outside}
use Rattle.vba_meaning.specs.Effects.{Raised}
use Rattle.vba_meaning.proofs.Programs.{meaning, e, n, words, two, plus, half, long, byte, any, global, v, err, show, becomes, declare, sub, flat, jumping, program, main, told, line, fault}

-- Debug.Print 2 + 3: entering is the first turn, printing the second
abbrev sum : Project
sum = main [] (flat 0 (show (plus (n 2) (n 3)) ∷ []))

pub sum_is : told (meaning sum 2) ≡ (Ended, line (codes " 5 ") ∷ [])
unfolding digits
sum_is = refl

pub sum_is_going : told (meaning sum 1) ≡ (Going, [])
sum_is_going = refl

-- Sub Main(Optional x As Long = 4) ¶ Debug.Print x
abbrev left_out : Project
left_out = program [] ((record (sub []) { parameters = record { name = no_name; of = type.long; by_reference = true; default = Some (whole kind.Long (pos 4)); many = false } ∷ [] }, flat 0 (show (v (long 1)) ∷ [])) ∷ [])

pub left_out_is : told (meaning left_out 2) ≡ (Ended, line (codes " 4 ") ∷ [])
unfolding digits
left_out_is = refl

-- Debug.Print 200 * 200
pub overflow_is : told (meaning (main [] (flat 0 (show (two op.Mul type.integer (n 200) (n 200)) ∷ []))) 50) ≡ (fault 6 0 0, Raised (pos 6) ∷ [])
overflow_is = refl

-- v = 32767 ¶ v = v + 1 ¶ Debug.Print v ¶ v = 2147483647 ¶ v = v + 1
abbrev widened : Project
widened = main (type.variant ∷ []) (flat 0 (
    becomes (any 1) (n 32767) ∷ becomes (any 1) (two op.Add type.variant (v (any 1)) (n 1)) ∷ show (v (any 1)) ∷
    becomes (any 1) (e type.long (constant (whole kind.Long (pos 2147483647)))) ∷ becomes (any 1) (two op.Add type.variant (v (any 1)) (n 1)) ∷ []))

pub widened_is : told (meaning widened 50) ≡ (Stopped (outside DoubleResult) 0 (Some 4), line (codes " 32768 ") ∷ [])
unfolding digits
widened_is = refl

-- Dim b As Byte ¶ For b = 254 To 255 ¶ Debug.Print b ¶ Next b
abbrev bytes : Project
bytes = main (type.byte ∷ []) (
    jumping 1 (for_to (byte 1) Binary (n 254) (n 255) (n 1) nowhere None 1 3) ∷ jumping 2 (show (v (byte 1))) ∷ jumping 3 (next (byte 1) 0 1) ∷ [])

pub bytes_is : told (meaning bytes 50) ≡ (fault 6 0 2, line (codes " 254 ") ∷ line (codes " 255 ") ∷ Raised (pos 6) ∷ [])
unfolding digits
bytes_is = refl

-- On Error Resume Next ¶ If 1 \ 0 = 1 Then ¶ Debug.Print "in" ¶ End If ¶ Debug.Print Err.Number
abbrev header_failed : Project
header_failed = main [] (
    jumping 1 (on_error skipped) ∷ jumping 2 (test true (two op.Eq type.boolean half (n 1)) 2 3) ∷ jumping 3 (show (words (codes "in"))) ∷ jumping 4 (show err) ∷ [])

pub header_failed_is : told (meaning header_failed 50) ≡ (Ended, Raised (pos 11) ∷ line (codes "in") ∷ line (codes " 11 ") ∷ [])
unfolding division digits
header_failed_is = refl

-- Do ¶ Loop
pub endless_is : told (meaning (main [] (jumping 1 (go_to 1) ∷ jumping 2 (go_to 0) ∷ [])) 5) ≡ (Going, [])
endless_is = refl

-- Debug.Print "ab", 1; Null
pub zones_are : told (meaning (main [] (flat 0 (print (shown (words (codes "ab")) (zone (shown (n 1) (shown (e type.variant (constant null)) no_prints)))) true ∷ []))) 50)
    ≡ (Ended, line (codes "ab             1 Null") ∷ [])
unfolding digits
zones_are = refl

-- Dim d As Long ¶ On Error GoTo H ¶ Debug.Print 10 \ d ¶ Exit Sub ¶ H: d = 5: Resume
abbrev again : Project
again = main (type.long ∷ []) (flat 0 (
    on_error (handled_at 3) ∷ show (two op.IntDiv type.long (n 10) (v (long 1))) ∷ exit_to 5 ∷ becomes (long 1) (n 5) ∷ resume_again ∷ []))

pub again_is : told (meaning again 50) ≡ (Ended, Raised (pos 11) ∷ line (codes " 2 ") ∷ [])
unfolding division digits
again_is = refl

-- a ByRef argument is written, a copy isn't; a result is handed on: g = 1 ¶ Debug.Print F(g, (g)) ¶ Debug.Print g
-- Function F(a, b): a = a + 1 ¶ b = b + 10 ¶ F = a * b
abbrev by_ref : Project
by_ref = program (type.long ∷ []) (
    (sub [], flat 0 (becomes (global 0) (n 1) ∷ show (e type.long (call 1 (by_place (variable (global 0)) (by_copy (v (global 0)) type.long no_args)))) ∷ show (v (global 0)) ∷ [])) ∷ (
      record (sub []) { result = declare type.long },
      flat 0 (
          becomes (long 1) (plus (v (long 1)) (n 1)) ∷ becomes (long 2) (plus (v (long 2)) (n 10)) ∷ becomes (long 0) (two op.Mul type.long (v (long 1)) (v (long 2))) ∷ []),
    ) ∷ [])

pub by_ref_is : told (meaning by_ref 50) ≡ (Ended, line (codes " 22 ") ∷ line (codes " 2 ") ∷ [])
unfolding digits
by_ref_is = refl

-- an error leaves its procedure, and Err tells where it was raised: On Error Resume Next ¶ Work ¶ Debug.Print
-- Err.Number; Err.Source; Err.Description
abbrev passed : Project
passed = program [] ((
  sub [],
  flat 0 (on_error skipped ∷ evaluate (e type.variant (call 1 no_args)) ∷
      print (shown err (shown (e type.text (err_value err_source)) (shown (e type.text (err_value err_description)) no_prints))) true ∷ []),
) ∷
    (sub [], flat 0 (raise (by_copy (n 13) type.long (by_default missing (by_copy (words (codes "so")) type.text no_args))) ∷ show (n 1) ∷ [])) ∷ [])

pub passed_is : told (meaning passed 50) ≡ (Ended, Raised (pos 13) ∷ line (codes " 13 Mso") ∷ [])
unfolding digits
passed_is = refl

-- Select Case 7 ¶ Case 1 To 3, Is > 8 ¶ Debug.Print 1 ¶ Case 5, 7 ¶ Debug.Print 2 ¶ Case Else ¶ Debug.Print 3 ¶ End
-- Select
abbrev chosen : Project
chosen = main [] (
    jumping 6 (select (n 7) 1) ∷
    jumping 2 (case_of (test_range (n 1) (n 3) nowhere nowhere (test_is op.Gt nowhere (n 8) no_tests)) 0 type.integer Binary 2 3) ∷ jumping 6 (show (n 1)) ∷
    jumping 4 (case_of (test_is op.Eq nowhere (n 5) (test_is op.Eq nowhere (n 7) no_tests)) 0 type.integer Binary 4 5) ∷ jumping 6 (show (n 2)) ∷
    jumping 6 (show (n 3)) ∷ [])

pub chosen_is : told (meaning chosen 50) ≡ (Ended, line (codes " 2 ") ∷ [])
unfolding digits
chosen_is = refl

-- GoSub S ¶ Debug.Print 2 ¶ End ¶ S: Debug.Print 1 ¶ Return; and a Return alone
pub subs_are : told (meaning (main [] (flat 0 (go_sub 3 ∷ show (n 2) ∷ end_run ∷ show (n 1) ∷ return_sub ∷ []))) 50) ≡ (Ended, line (codes " 1 ") ∷ line (codes " 2 ") ∷ [])
unfolding digits
subs_are = refl

pub return_alone_is : told (meaning (main [] (flat 0 (return_sub ∷ []))) 50) ≡ (fault 3 0 0, Raised (pos 3) ∷ [])
return_alone_is = refl

-- Stop
pub stop_is : told (meaning (main [] (flat 0 (stop ∷ []))) 50) ≡ (Stopped stop_said 0 (Some 0), [])
stop_is = refl

-- On Error Resume Next ¶ For i = 1 To 1 \ 0 ¶ Debug.Print 8 ¶ Next i ¶ Debug.Print Err.Number: the loop wasn't begun
abbrev loop_failed : Project
loop_failed = main (type.long ∷ []) (
    jumping 1 (on_error skipped) ∷ jumping 2 (for_to (long 1) Binary (n 1) half (n 1) nowhere None 2 4) ∷ jumping 3 (show (n 8)) ∷ jumping 4 (next (long 1) 1 2) ∷ jumping 5 (show err) ∷ [])

pub loop_failed_is : told (meaning loop_failed 50) ≡ (Ended, Raised (pos 11) ∷ line (codes " 8 ") ∷ Raised (pos 92) ∷ line (codes " 92 ") ∷ [])
unfolding division digits
loop_failed_is = refl
