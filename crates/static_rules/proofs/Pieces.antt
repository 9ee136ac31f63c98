-- The places in pieces, and that nothing is lost where no piece is.
use Rattle.std.proofs.Common.{◌≡◌, Bool, true, false, cond, ℕ, zero, suc, List, [], ◌∷◌, ◌++◌, Option, Some, None, refl, sym, ap, ◌∙◌, append_assoc}
use Rattle.std.specs.Prelude.{◌==◌, ◌&&◌}
use Rattle.std.proofs.lemmas.List.{append-nil}
use Rattle.vba_base.specs.declared.place.Refusal.{Refusal}
use Rattle.vba_values.specs.Types.{Declared}
use Rattle.bound_project.specs.Expressions.{Expr, Exprs, no_exprs, also, ByName, Lvalue, Args, no_args, Given, none_given, operand_type}
use Rattle.bound_project.specs.Pieces.{Argument, place_lent, value_copied, default_taken, values_listed, GivenArgument, place_there, value_there, Sought, Piece, nothing, an_expr, a_place, an_argument, a_member, an_object, a_named_member, a_late, a_given, a_value_shown, a_zone, a_test_begun, a_test_is, a_test_range, a_resize, an_erased, of_value, of_place, of_both, of_test, of_range, of_found, of_place_found, of_value_found, is_member, misfit, of_member, of_member_found, of_object, of_object_found, is_named_member, of_named, of_named_found, same_sought, is_late, of_late, of_late_found, exprs_off, arguments_off, with_argument, given_off, with_given}
use Rattle.static_rules.specs.Broken.{double_at, broken, place_broken, args_broken, given_broken, list_broken, range_broken}

abbrev pub argument_broken : Argument → List Refusal
argument_broken (place_lent x) = place_broken x
argument_broken (value_copied e of) = broken e
argument_broken (default_taken v) = []
argument_broken (values_listed es) = list_broken es

abbrev pub given_one : GivenArgument → List Refusal
given_one (place_there x) = place_broken x
given_one (value_there e) = broken e

-- of a piece, where the value of a Select Case has this type
abbrev pub piece_broken : (selected : Declared) → Piece → List Refusal
piece_broken selected nothing = []
piece_broken selected (an_expr e) = broken e
piece_broken selected (a_place x) = place_broken x
piece_broken selected (an_argument a) = argument_broken a
piece_broken selected (a_member e name given) = broken e
piece_broken selected (a_named_member e name by given) = broken e
piece_broken selected (a_late e s) = broken e
piece_broken selected (a_given a s i) = given_one a
piece_broken selected (an_object e) = broken e
piece_broken selected (a_value_shown e) = broken e
piece_broken selected a_zone = []
piece_broken selected a_test_begun = []
piece_broken selected (a_test_is o at e) = broken e ++ double_at at o selected (operand_type e)
piece_broken selected (a_test_range a b a_at b_at) = broken a ++ (broken b ++ range_broken selected a b a_at b_at)
piece_broken selected (a_resize x es of) = place_broken x ++ list_broken es
piece_broken selected (an_erased x) = place_broken x

-- of a stack, the lowest first
abbrev pub found_in : (selected : Declared) → List Piece → List Refusal
found_in selected [] = []
found_in selected (p ∷ st) = found_in selected st ++ piece_broken selected p

-- no piece of it is a misfit
abbrev pub IsThere : Piece → Type 0
IsThere nothing = ⊥
IsThere p = Unit {0}

abbrev pub AllThere : List Piece → Type 0
AllThere [] = Unit {0}
AllThere (p ∷ st) = IsThere p × AllThere st

-- the pieces of a new stack that fit have the places of those of an old one, and these behind
abbrev pub Adds : (selected : Declared) → (new old : List Piece) → List Refusal → Type 0
Adds selected new old more = AllThere new → (found_in selected new ≡ found_in selected old ++ more) × AllThere old

-- ---- lists

-- one piece before, and two
pub one : (c a more d : List Refusal) → d ≡ a ++ more → c ++ d ≡ (c ++ a) ++ more
one c a more d h = ap (λ x. c ++ x) h ∙ sym (append_assoc c a more)

pub two : (c a b more d : List Refusal) → d ≡ a ++ (b ++ more) → c ++ d ≡ ((c ++ a) ++ b) ++ more
two c a b more d h = one c a (b ++ more) d h ∙ sym (append_assoc (c ++ a) b more)

-- the same where nothing is added
pub same_one : (c a d : List Refusal) → d ≡ a → c ++ d ≡ (c ++ a) ++ []
same_one c a d h = ap (λ x. c ++ x) h ∙ sym (append-nil (c ++ a))

pub same_two : (c a b d : List Refusal) → d ≡ a ++ b → c ++ d ≡ ((c ++ a) ++ b) ++ []
same_two c a b d h = ap (λ x. c ++ x) h ∙ sym (append_assoc c a b) ∙ sym (append-nil ((c ++ a) ++ b))

-- ---- what is made of pieces

pub value_adds : (selected : Declared) (make : Expr → Piece) (more : List Refusal) → ((e : Expr) → piece_broken selected (make e) ≡ broken e ++ more) → (st : List Piece) → Adds selected (of_value make st) st more
value_adds selected make more h (an_expr e ∷ st) there = (one (found_in selected st) (broken e) more _ (h e), (tt, there.1))
value_adds selected make more h st there = absurd there.0

pub value_keeps : (selected : Declared) (make : Expr → Piece) → ((e : Expr) → piece_broken selected (make e) ≡ broken e) → (st : List Piece) → Adds selected (of_value make st) st []
value_keeps selected make h st = value_adds selected make [] (λ e. h e ∙ sym (append-nil (broken e))) st

place_adds : (selected : Declared) (make : Lvalue → Piece) (more : List Refusal) → ((x : Lvalue) → piece_broken selected (make x) ≡ place_broken x ++ more) → (st : List Piece) → Adds selected (of_place make st) st more
place_adds selected make more h (a_place x ∷ st) there = (one (found_in selected st) (place_broken x) more _ (h x), (tt, there.1))
place_adds selected make more h st there = absurd there.0

pub place_keeps : (selected : Declared) (make : Lvalue → Piece) → ((x : Lvalue) → piece_broken selected (make x) ≡ place_broken x) → (st : List Piece) → Adds selected (of_place make st) st []
place_keeps selected make h st = place_adds selected make [] (λ x. h x ∙ sym (append-nil (place_broken x))) st

pub both_add : (selected : Declared) (make : Expr → Expr → Piece) (more : List Refusal) → ((a b : Expr) → piece_broken selected (make a b) ≡ broken a ++ (broken b ++ more))
    → (st : List Piece) → Adds selected (of_both make st) st more
both_add selected make more h (an_expr b ∷ an_expr a ∷ st) there = (two (found_in selected st) (broken a) (broken b) more _ (h a b), (tt, (tt, there.1)))
both_add selected make more h st there = absurd there.0

pub both_keep : (selected : Declared) (make : Expr → Expr → Piece) → ((a b : Expr) → piece_broken selected (make a b) ≡ broken a ++ broken b) → (st : List Piece) → Adds selected (of_both make st) st []
both_keep selected make h st = both_add selected make [] (λ a b. h a b ∙ ap (λ c. broken a ++ c) (sym (append-nil (broken b)))) st

pub test_adds : (selected : Declared) (make : Expr → Piece) (more : List Refusal) → ((e : Expr) → piece_broken selected (make e) ≡ broken e ++ more) → (st : List Piece) → Adds selected (of_test make st) st more
test_adds selected make more h (an_expr e ∷ a_test_begun ∷ st) there =
    (one (found_in selected st) (broken e) more _ (h e) ∙ ap (λ c. (c ++ broken e) ++ more) (sym (append-nil (found_in selected st))), (tt, (tt, there.1)))
test_adds selected make more h st there = absurd there.0

pub range_adds : (selected : Declared) (make : Expr → Expr → Piece) (more : List Refusal) → ((a b : Expr) → piece_broken selected (make a b) ≡ broken a ++ (broken b ++ more))
    → (st : List Piece) → Adds selected (of_range make st) st more
range_adds selected make more h (an_expr b ∷ an_expr a ∷ a_test_begun ∷ st) there =
    (two (found_in selected st) (broken a) (broken b) more _ (h a b) ∙ ap (λ c. ((c ++ broken a) ++ broken b) ++ more) (sym (append-nil (found_in selected st))), (tt, (tt, (tt, there.1))))
range_adds selected make more h st there = absurd there.0

-- ---- values and arguments off the stack

-- what was found has the places of what was there
abbrev pub ExprsOff : (selected : Declared) → List Piece → Exprs → Option (Exprs × List Piece) → Type 0
ExprsOff selected st acc None = Unit {0}
ExprsOff selected st acc (Some (es, rest)) = (found_in selected rest ++ list_broken es ≡ found_in selected st ++ list_broken acc) × (AllThere rest → AllThere st)

exprs_more : (selected : Declared) (e : Expr) (st : List Piece) (acc : Exprs) (o : Option (Exprs × List Piece)) → ExprsOff selected st (also e acc) o → ExprsOff selected (an_expr e ∷ st) acc o
exprs_more selected e st acc None h = tt
exprs_more selected e st acc (Some (es, rest)) h = (h.0 ∙ sym (append_assoc (found_in selected st) (broken e) (list_broken acc)), λ there. (tt, h.1 there))

pub exprs_are : (selected : Declared) (n : ℕ) (st : List Piece) (acc : Exprs) → ExprsOff selected st acc (exprs_off n st acc)
exprs_are selected zero st acc = (refl, λ there. there)
exprs_are selected (suc n) (an_expr e ∷ st) acc = exprs_more selected e st acc (exprs_off n st (also e acc)) (exprs_are selected n st (also e acc))
exprs_are selected (suc n) st acc = tt

abbrev pub ArgsOff : (selected : Declared) → List Piece → Args → Option (Args × List Piece) → Type 0
ArgsOff selected st acc None = Unit {0}
ArgsOff selected st acc (Some (args, rest)) = (found_in selected rest ++ args_broken args ≡ found_in selected st ++ args_broken acc) × (AllThere rest → AllThere st)

with_broken : (a : Argument) (acc : Args) → args_broken (with_argument a acc) ≡ argument_broken a ++ args_broken acc
with_broken (place_lent x) acc = refl
with_broken (value_copied e of) acc = refl
with_broken (default_taken v) acc = refl
with_broken (values_listed es) acc = refl

args_more : (selected : Declared) (a : Argument) (st : List Piece) (acc : Args) (o : Option (Args × List Piece)) → ArgsOff selected st (with_argument a acc) o → ArgsOff selected (an_argument a ∷ st) acc o
args_more selected a st acc None h = tt
args_more selected a st acc (Some (args, rest)) h = (h.0 ∙ one (found_in selected st) (argument_broken a) (args_broken acc) _ (with_broken a acc), λ there. (tt, h.1 there))

pub args_are : (selected : Declared) (n : ℕ) (st : List Piece) (acc : Args) → ArgsOff selected st acc (arguments_off n st acc)
args_are selected zero st acc = (refl, λ there. there)
args_are selected (suc n) (an_argument a ∷ st) acc = args_more selected a st acc (arguments_off n st (with_argument a acc)) (args_are selected n st (with_argument a acc))
args_are selected (suc n) st acc = tt

-- ---- what is made of them

found_adds : (selected : Declared) (st : List Piece) (make : Exprs → Piece) (more : List Refusal) → ((es : Exprs) → piece_broken selected (make es) ≡ list_broken es ++ more)
    → (o : Option (Exprs × List Piece)) → ExprsOff selected st no_exprs o → Adds selected (of_found make o) st more
found_adds selected st make more h None off there = absurd there.0
found_adds selected st make more h (Some (es, rest)) off there =
    (one (found_in selected rest) (list_broken es) more _ (h es) ∙ ap (λ c. c ++ more) (off.0 ∙ append-nil (found_in selected st)), off.1 there.1)

pub list_adds : (selected : Declared) (n : ℕ) (st : List Piece) (make : Exprs → Piece) (more : List Refusal) → ((es : Exprs) → piece_broken selected (make es) ≡ list_broken es ++ more)
    → Adds selected (of_found make (exprs_off n st no_exprs)) st more
list_adds selected n st make more h = found_adds selected st make more h (exprs_off n st no_exprs) (exprs_are selected n st no_exprs)

pub list_kept : (selected : Declared) (n : ℕ) (st : List Piece) (make : Exprs → Piece) → ((es : Exprs) → piece_broken selected (make es) ≡ list_broken es)
    → Adds selected (of_found make (exprs_off n st no_exprs)) st []
list_kept selected n st make h = list_adds selected n st make [] (λ es. h es ∙ sym (append-nil (list_broken es)))

args_off : (selected : Declared) (st : List Piece) (make : Args → Piece) → ((args : Args) → piece_broken selected (make args) ≡ args_broken args)
    → (o : Option (Args × List Piece)) → ArgsOff selected st no_args o → Adds selected (of_found make o) st []
args_off selected st make h None off there = absurd there.0
args_off selected st make h (Some (args, rest)) off there = (ap (λ c. found_in selected rest ++ c) (h args) ∙ off.0, off.1 there.1)

pub args_kept : (selected : Declared) (n : ℕ) (st : List Piece) (make : Args → Piece) → ((args : Args) → piece_broken selected (make args) ≡ args_broken args)
    → Adds selected (of_found make (arguments_off n st no_args)) st []
args_kept selected n st make h = args_off selected st make h (arguments_off n st no_args) (args_are selected n st no_args)

place_off : (selected : Declared) (st : List Piece) (make : Lvalue → Exprs → Piece) → ((x : Lvalue) (es : Exprs) → piece_broken selected (make x es) ≡ place_broken x ++ list_broken es)
    → (o : Option (Exprs × List Piece)) → ExprsOff selected st no_exprs o → Adds selected (of_place_found make o) st []
place_off selected st make h None off there = absurd there.0
place_off selected st make h (Some (es, rest)) off there =
    let r = place_adds selected (λ x. make x es) (list_broken es) (λ x. h x es) rest there in
    (r.0 ∙ off.0, off.1 r.1)

pub place_and_list : (selected : Declared) (n : ℕ) (st : List Piece) (make : Lvalue → Exprs → Piece) → ((x : Lvalue) (es : Exprs) → piece_broken selected (make x es) ≡ place_broken x ++ list_broken es)
    → Adds selected (of_place_found make (exprs_off n st no_exprs)) st []
place_and_list selected n st make h = place_off selected st make h (exprs_off n st no_exprs) (exprs_are selected n st no_exprs)

value_off : (selected : Declared) (st : List Piece) (make : Expr → Exprs → Piece) → ((x : Expr) (es : Exprs) → piece_broken selected (make x es) ≡ broken x ++ list_broken es)
    → (o : Option (Exprs × List Piece)) → ExprsOff selected st no_exprs o → Adds selected (of_value_found make o) st []
value_off selected st make h None off there = absurd there.0
value_off selected st make h (Some (es, rest)) off there =
    let r = value_adds selected (λ x. make x es) (list_broken es) (λ x. h x es) rest there in
    (r.0 ∙ off.0, off.1 r.1)

pub value_and_list : (selected : Declared) (n : ℕ) (st : List Piece) (make : Expr → Exprs → Piece) → ((x : Expr) (es : Exprs) → piece_broken selected (make x es) ≡ broken x ++ list_broken es)
    → Adds selected (of_value_found make (exprs_off n st no_exprs)) st []
value_and_list selected n st make h = value_off selected st make h (exprs_off n st no_exprs) (exprs_are selected n st no_exprs)

-- ---- members of objects of the host

member_if : (selected : Declared) (make : Expr → Exprs → Piece) (es : Exprs) (e : Expr) (name : List ℕ) (given : ℕ) → piece_broken selected (make e es) ≡ broken e ++ list_broken es
    → (st : List Piece) (b : Bool) → Adds selected (cond b (make e es ∷ st) misfit) (a_member e name given ∷ st) (list_broken es)
member_if selected make es e name given h st true there = (one (found_in selected st) (broken e) (list_broken es) _ h, (tt, there.1))
member_if selected make es e name given h st false there = absurd there.0

member_adds : (selected : Declared) (name : List ℕ) (make : Expr → Exprs → Piece) (es : Exprs) → ((e : Expr) → piece_broken selected (make e es) ≡ broken e ++ list_broken es)
    → (st : List Piece) → Adds selected (of_member name make es st) st (list_broken es)
member_adds selected name make es h (a_member e other given ∷ st) there = member_if selected make es e other given (h e) st (is_member name other given es) there
member_adds selected name make es h st there = absurd there.0

member_off : (selected : Declared) (st : List Piece) (name : List ℕ) (make : Expr → Exprs → Piece) → ((e : Expr) (es : Exprs) → piece_broken selected (make e es) ≡ broken e ++ list_broken es)
    → (o : Option (Exprs × List Piece)) → ExprsOff selected st no_exprs o → Adds selected (of_member_found name make o) st []
member_off selected st name make h None off there = absurd there.0
member_off selected st name make h (Some (es, rest)) off there =
    let r = member_adds selected name make es (λ e. h e es) rest there in
    (r.0 ∙ off.0, off.1 r.1)

pub member_kept : (selected : Declared) (n : ℕ) (st : List Piece) (name : List ℕ) (make : Expr → Exprs → Piece) → ((e : Expr) (es : Exprs) → piece_broken selected (make e es) ≡ broken e ++ list_broken es)
    → Adds selected (of_member_found name make (exprs_off n st no_exprs)) st []
member_kept selected n st name make h = member_off selected st name make h (exprs_off n st no_exprs) (exprs_are selected n st no_exprs)

-- ---- the same where arguments have names

named_if : (selected : Declared) (make : Expr → Exprs → Piece) (es : Exprs) (e : Expr) (name : List ℕ) (by : ByName) (given : ℕ) → piece_broken selected (make e es) ≡ broken e ++ list_broken es
    → (st : List Piece) (b : Bool) → Adds selected (cond b (make e es ∷ st) misfit) (a_named_member e name by given ∷ st) (list_broken es)
named_if selected make es e name by given h st true there = (one (found_in selected st) (broken e) (list_broken es) _ h, (tt, there.1))
named_if selected make es e name by given h st false there = absurd there.0

named_adds : (selected : Declared) (name : List ℕ) (by : ByName) (make : Expr → Exprs → Piece) (es : Exprs) → ((e : Expr) → piece_broken selected (make e es) ≡ broken e ++ list_broken es)
    → (st : List Piece) → Adds selected (of_named name by make es st) st (list_broken es)
named_adds selected name by make es h (a_named_member e other how given ∷ st) there = named_if selected make es e other how given (h e) st (is_named_member name other by how given es) there
named_adds selected name by make es h st there = absurd there.0

named_off : (selected : Declared) (st : List Piece) (name : List ℕ) (by : ByName) (make : Expr → Exprs → Piece) → ((e : Expr) (es : Exprs) → piece_broken selected (make e es) ≡ broken e ++ list_broken es)
    → (o : Option (Exprs × List Piece)) → ExprsOff selected st no_exprs o → Adds selected (of_named_found name by make o) st []
named_off selected st name by make h None off there = absurd there.0
named_off selected st name by make h (Some (es, rest)) off there =
    let r = named_adds selected name by make es (λ e. h e es) rest there in
    (r.0 ∙ off.0, off.1 r.1)

pub named_kept : (selected : Declared) (n : ℕ) (st : List Piece) (name : List ℕ) (by : ByName) (make : Expr → Exprs → Piece) → ((e : Expr) (es : Exprs) → piece_broken selected (make e es) ≡ broken e ++ list_broken es)
    → Adds selected (of_named_found name by make (exprs_off n st no_exprs)) st []
named_kept selected n st name by make h = named_off selected st name by make h (exprs_off n st no_exprs) (exprs_are selected n st no_exprs)

-- ---- procedures of objects

object_adds : (selected : Declared) (make : Expr → Args → Piece) (args : Args) → ((e : Expr) → piece_broken selected (make e args) ≡ broken e ++ args_broken args)
    → (st : List Piece) → Adds selected (of_object make args st) st (args_broken args)
object_adds selected make args h (an_object e ∷ st) there = (one (found_in selected st) (broken e) (args_broken args) _ (h e), (tt, there.1))
object_adds selected make args h st there = absurd there.0

object_off : (selected : Declared) (st : List Piece) (make : Expr → Args → Piece) → ((e : Expr) (args : Args) → piece_broken selected (make e args) ≡ broken e ++ args_broken args)
    → (o : Option (Args × List Piece)) → ArgsOff selected st no_args o → Adds selected (of_object_found make o) st []
object_off selected st make h None off there = absurd there.0
object_off selected st make h (Some (args, rest)) off there =
    let r = object_adds selected make args (λ e. h e args) rest there in
    (r.0 ∙ off.0, off.1 r.1)

pub object_kept : (selected : Declared) (n : ℕ) (st : List Piece) (make : Expr → Args → Piece) → ((e : Expr) (args : Args) → piece_broken selected (make e args) ≡ broken e ++ args_broken args)
    → Adds selected (of_object_found make (arguments_off n st no_args)) st []
object_kept selected n st make h = object_off selected st make h (arguments_off n st no_args) (args_are selected n st no_args)

-- ---- late-bound members

abbrev pub GivenOff : (selected : Declared) → List Piece → Given → Option (Given × List Piece) → Type 0
GivenOff selected st acc None = Unit {0}
GivenOff selected st acc (Some (given, rest)) = (found_in selected rest ++ given_broken given ≡ found_in selected st ++ given_broken acc) × (AllThere rest → AllThere st)

with_one : (a : GivenArgument) (acc : Given) → given_broken (with_given a acc) ≡ given_one a ++ given_broken acc
with_one (place_there x) acc = refl
with_one (value_there e) acc = refl

given_more : (selected : Declared) (a : GivenArgument) (other : Sought) (i : ℕ) (st : List Piece) (acc : Given) (o : Option (Given × List Piece))
    → GivenOff selected st (with_given a acc) o → GivenOff selected (a_given a other i ∷ st) acc o
given_more selected a other i st acc None h = tt
given_more selected a other i st acc (Some (given, rest)) h = (h.0 ∙ one (found_in selected st) (given_one a) (given_broken acc) _ (with_one a acc), λ there. (tt, h.1 there))

given_if : (selected : Declared) (a : GivenArgument) (other : Sought) (i : ℕ) (st : List Piece) (acc : Given) (o : Option (Given × List Piece)) → GivenOff selected st (with_given a acc) o
    → (b : Bool) → GivenOff selected (a_given a other i ∷ st) acc (cond b o None)
given_if selected a other i st acc o h true = given_more selected a other i st acc o h
given_if selected a other i st acc o h false = tt

pub given_are : (selected : Declared) (s : Sought) (n : ℕ) (st : List Piece) (acc : Given) → GivenOff selected st acc (given_off s n st acc)
given_are selected s zero st acc = (refl, λ there. there)
given_are selected s (suc n) (a_given a other i ∷ st) acc =
    given_if selected a other i st acc (given_off s n st (with_given a acc)) (given_are selected s n st (with_given a acc)) (same_sought s other && (i == n))
given_are selected s (suc n) st acc = tt

late_if : (selected : Declared) (make : Expr → Given → Piece) (given : Given) (e : Expr) (other : Sought) → piece_broken selected (make e given) ≡ broken e ++ given_broken given
    → (st : List Piece) (b : Bool) → Adds selected (cond b (make e given ∷ st) misfit) (a_late e other ∷ st) (given_broken given)
late_if selected make given e other h st true there = (one (found_in selected st) (broken e) (given_broken given) _ h, (tt, there.1))
late_if selected make given e other h st false there = absurd there.0

late_adds : (selected : Declared) (s : Sought) (make : Expr → Given → Piece) (given : Given) → ((e : Expr) → piece_broken selected (make e given) ≡ broken e ++ given_broken given)
    → (st : List Piece) → Adds selected (of_late s make given st) st (given_broken given)
late_adds selected s make given h (a_late e other ∷ st) there = late_if selected make given e other (h e) st (is_late s other given) there
late_adds selected s make given h st there = absurd there.0

late_off : (selected : Declared) (st : List Piece) (s : Sought) (make : Expr → Given → Piece) → ((e : Expr) (given : Given) → piece_broken selected (make e given) ≡ broken e ++ given_broken given)
    → (o : Option (Given × List Piece)) → GivenOff selected st none_given o → Adds selected (of_late_found s make o) st []
late_off selected st s make h None off there = absurd there.0
late_off selected st s make h (Some (given, rest)) off there =
    let r = late_adds selected s make given (λ e. h e given) rest there in
    (r.0 ∙ off.0, off.1 r.1)

pub late_kept : (selected : Declared) (n : ℕ) (st : List Piece) (s : Sought) (make : Expr → Given → Piece) → ((e : Expr) (given : Given) → piece_broken selected (make e given) ≡ broken e ++ given_broken given)
    → Adds selected (of_late_found s make (given_off s n st none_given)) st []
late_kept selected n st s make h = late_off selected st s make h (given_off s n st none_given) (given_are selected s n st none_given)
