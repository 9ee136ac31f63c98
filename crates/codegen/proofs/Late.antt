-- The code of late-bound members and of their arguments.
use Rattle.std.proofs.Common.{◌≡◌, Bool, true, false, cond, ℕ, zero, suc, List, [], ◌∷◌, ◌++◌, Option, Some, None, refl, sym, ap, subst, ◌∙◌, append_assoc}
use Rattle.std.specs.Prelude.{◌==◌, ◌&&◌, bytes_eq}
use Rattle.std.proofs.lemmas.Bool.{and_parts, eqb-true}
use Rattle.std.proofs.lemmas.Slice.Eq.{bytes_eq-Decides}
use Rattle.bound_project.specs.declared.node.LateUse.{LateUse}
use Rattle.bound_project.specs.declared.node.LateUse.TheVariants.{Reading, Assigning, Setting}
use Rattle.bound_project.specs.Expressions.{Expr, ByName, Given, none_given}
use Rattle.bound_project.specs.Pieces.{GivenArgument, place_there, value_there, Sought, Piece, a_late, a_given, same_by_name, same_use, same_flags, same_sought, which_there, is_late, of_late, of_late_found, misfit, with_given, given_off}
use Rattle.pcode.specs.Instructions.{Instr, BindValue, BindPlace}
use Rattle.pcode.specs.Code.{expr_code, place_code, given_code}
use Rattle.pcode.specs.View.{use_view}
use Rattle.codegen.specs.declared.node.Around.{Around}
use Rattle.codegen.proofs.Pieces.{find_code, bound_code, piece_code, codes, AllThere, Emits, one, append_none, by_name_same}

-- ---- what is looked up by the same is the same

use_same : (a b : LateUse) → same_use a b ≡ true → a ≡ b
use_same Reading Reading h = refl
use_same Reading Assigning h = let e : false ≡ true = h in absurd cc
use_same Reading Setting h = let e : false ≡ true = h in absurd cc
use_same Assigning Reading h = let e : false ≡ true = h in absurd cc
use_same Assigning Assigning h = refl
use_same Assigning Setting h = let e : false ≡ true = h in absurd cc
use_same Setting Reading h = let e : false ≡ true = h in absurd cc
use_same Setting Assigning h = let e : false ≡ true = h in absurd cc
use_same Setting Setting h = refl

pub flags_same : (xs ys : List Bool) → same_flags xs ys ≡ true → xs ≡ ys
flags_same [] [] h = refl
flags_same [] (y ∷ ys) h = let e : false ≡ true = h in absurd cc
flags_same (true ∷ xs) [] h = let e : false ≡ true = h in absurd cc
flags_same (false ∷ xs) [] h = let e : false ≡ true = h in absurd cc
flags_same (true ∷ xs) (true ∷ ys) h = ap (λ r. true ∷ r) (flags_same xs ys h)
flags_same (true ∷ xs) (false ∷ ys) h = let e : false ≡ true = h in absurd cc
flags_same (false ∷ xs) (true ∷ ys) h = let e : false ≡ true = h in absurd cc
flags_same (false ∷ xs) (false ∷ ys) h = ap (λ r. false ∷ r) (flags_same xs ys h)

pub sought_same : (s other : Sought) → same_sought s other ≡ true → s ≡ other
sought_same s other h =
    let aims = and_parts (same_use s.aim other.aim) (bytes_eq s.name other.name && (same_by_name s.by other.by && same_flags s.given other.given)) h in
    let name = and_parts (bytes_eq s.name other.name) (same_by_name s.by other.by && same_flags s.given other.given) aims.1 in
    let by = and_parts (same_by_name s.by other.by) (same_flags s.given other.given) name.1 in
    let made : LateUse → List ℕ → ByName → List Bool → Sought = λ aim units how given. record { aim = aim; name = units; by = how; given = given } in
    ap (λ aim. made aim s.name s.by s.given) (use_same s.aim other.aim aims.0) ∙ ap (λ units. made other.aim units s.by s.given) ((bytes_eq-Decides s.name other.name).0 name.0)
    ∙ ap (λ how. made other.aim other.name how s.given) (by_name_same s.by other.by by.0) ∙ ap (made other.aim other.name other.by) (flags_same s.given other.given by.1)

-- ---- arguments off the stack

-- the code of arguments from this number on
abbrev pub given_list : Sought → Given → ℕ → List Instr
given_list s given i = given_code given (use_view s.aim) s.name s.by s.given i

abbrev pub GivenOff : Around → Sought → ℕ → List Piece → Given → Option (Given × List Piece) → Type 0
GivenOff around s n st acc None = Unit {0}
GivenOff around s n st acc (Some (given, rest)) = (codes around rest ++ given_list s given 0 ≡ codes around st ++ given_list s acc n) × (AllThere rest → AllThere st)

with_code : (a : GivenArgument) (s : Sought) (acc : Given) (n : ℕ) → given_list s (with_given a acc) n ≡ bound_code a s n ++ given_list s acc (suc n)
with_code (place_there x) s acc n = sym (append_assoc (place_code x) (BindPlace (use_view s.aim) s.name s.by s.given n ∷ []) (given_list s acc (suc n)))
with_code (value_there e) s acc n = sym (append_assoc (expr_code e) (BindValue (use_view s.aim) s.name s.by s.given n ∷ []) (given_list s acc (suc n)))

given_more : (around : Around) (s : Sought) (n : ℕ) (a : GivenArgument) (st : List Piece) (acc : Given) (o : Option (Given × List Piece))
    → GivenOff around s n st (with_given a acc) o → GivenOff around s (suc n) (a_given a s n ∷ st) acc o
given_more around s n a st acc None h = tt
given_more around s n a st acc (Some (given, rest)) h = (h.0 ∙ one (codes around st) (bound_code a s n) (given_list s acc (suc n)) _ (with_code a s acc n), λ there. (tt, h.1 there))

given_if : (around : Around) (s other : Sought) (n i : ℕ) (a : GivenArgument) (st : List Piece) (acc : Given) (o : Option (Given × List Piece)) → GivenOff around s n st (with_given a acc) o
    → (b : Bool) → (same_sought s other && (i == n)) ≡ b → GivenOff around s (suc n) (a_given a other i ∷ st) acc (cond b o None)
given_if around s other n i a st acc o h true k =
    let both = and_parts (same_sought s other) (i == n) k in
    subst (λ x. GivenOff around s (suc n) (a_given a x i ∷ st) acc o) (sought_same s other both.0)
    (subst (λ j. GivenOff around s (suc n) (a_given a s j ∷ st) acc o) (sym (eqb-true i n both.1)) (given_more around s n a st acc o h))
given_if around s other n i a st acc o h false k = tt

pub given_are : (around : Around) (s : Sought) (n : ℕ) (st : List Piece) (acc : Given) → GivenOff around s n st acc (given_off s n st acc)
given_are around s zero st acc = (refl, λ there. there)
given_are around s (suc n) (a_given a other i ∷ st) acc =
    given_if around s other n i a st acc (given_off s n st (with_given a acc)) (given_are around s n st (with_given a acc)) (same_sought s other && (i == n)) refl
given_are around s (suc n) st acc = tt

-- ---- what is made of them

-- the member that was looked up is the one that is meant, and its arguments are those that are given
pub late_parts : (s other : Sought) (given : Given) → is_late s other given ≡ true → (s ≡ other) × (s.given ≡ which_there given)
late_parts s other given h =
    let both = and_parts (same_sought s other) (same_flags s.given (which_there given)) h in
    (sought_same s other both.0, flags_same s.given (which_there given) both.1)

late_if : (around : Around) (s other : Sought) (make : Expr → Given → Piece) (given : Given) (e : Expr) (is : List Instr)
    → (s.given ≡ which_there given → piece_code around (make e given) ≡ expr_code e ++ (find_code s ++ is))
    → (st : List Piece) (b : Bool) → is_late s other given ≡ b → Emits around (cond b (make e given ∷ st) misfit) (a_late e other ∷ st) is
late_if around s other make given e is h st true k there =
    let parts = late_parts s other given k in
    let parted : expr_code e ++ (find_code s ++ is) ≡ (expr_code e ++ find_code s) ++ is = sym (append_assoc (expr_code e) (find_code s) is) in (
      one (codes around st) (expr_code e ++ find_code s) is _ (h parts.1 ∙ parted) ∙ ap (λ x. (codes around st ++ (expr_code e ++ find_code x)) ++ is) parts.0,
      (tt, there.1),
    )
late_if around s other make given e is h st false k there = absurd there.0

late_emits : (around : Around) (s : Sought) (make : Expr → Given → Piece) (given : Given) (is : List Instr)
    → ((e : Expr) → s.given ≡ which_there given → piece_code around (make e given) ≡ expr_code e ++ (find_code s ++ is)) → (st : List Piece) → Emits around (of_late s make given st) st is
late_emits around s make given is h (a_late e other ∷ st) there = late_if around s other make given e is (h e) st (is_late s other given) refl there
late_emits around s make given is h st there = absurd there.0

late_off : (around : Around) (s : Sought) (n : ℕ) (st : List Piece) (make : Expr → Given → Piece) (is : List Instr)
    → ((e : Expr) (given : Given) → s.given ≡ which_there given → piece_code around (make e given) ≡ expr_code e ++ (find_code s ++ (given_list s given 0 ++ is)))
    → (o : Option (Given × List Piece)) → GivenOff around s n st none_given o → Emits around (of_late_found s make o) st is
late_off around s n st make is h None off there = absurd there.0
late_off around s n st make is h (Some (given, rest)) off there =
    let r = late_emits around s make given (given_list s given 0 ++ is) (λ e. h e given) rest there in
    (r.0 ∙ sym (append_assoc (codes around rest) (given_list s given 0) is) ∙ ap (λ c. c ++ is) (off.0 ∙ append_none (codes around st)), off.1 r.1)

pub late_found_emits : (around : Around) (s : Sought) (n : ℕ) (st : List Piece) (make : Expr → Given → Piece) (is : List Instr)
    → ((e : Expr) (given : Given) → s.given ≡ which_there given → piece_code around (make e given) ≡ expr_code e ++ (find_code s ++ (given_list s given 0 ++ is)))
    → Emits around (of_late_found s make (given_off s n st none_given)) st is
late_found_emits around s n st make is h = late_off around s n st make is h (given_off s n st none_given) (given_are around s n st none_given)
