-- Operands that are taken off the stack, and that arguments are as many as are counted.
use Rattle.std.proofs.Common.{◌≡◌, ℕ, suc, ◌+◌, Bool, List, [], ◌∷◌, ◌++◌, length, refl, sym, ap, ◌∙◌, arith}
use Rattle.std.proofs.lemmas.List.{append-nil}
use Rattle.vba_values.specs.Val.{Val, empty}
use Rattle.bound_project.specs.Expressions.{ByName, Args, no_args, by_place, by_copy, by_default, by_list, in_order, Given, none_given, place_given, expr_given, Exprs, no_exprs, also, Prints, no_prints, shown, zone}
use Rattle.bound_project.specs.Project.{Project}
use Rattle.vba_meaning.specs.Memory.{Slot, value, path}
use Rattle.vba_meaning.specs.Effects.{fitted, lent, packed, reordered, show_value}
use Rattle.vba_meaning.specs.LateBound.{Use, which_given, value_bound}
use Rattle.vba_meaning.specs.Meaning.{State, Res, Got, Failed, Over, Told, Turn, ◌>>=◌, perform, Callee, eval, eval_place, evals, eval_list, eval_prints, used, place_bound, eval_given}
use Rattle.pcode.specs.Machine.{Move, take_args, pushed}
use Rattle.pcode.specs.Code.{count, list_count, prints_count}
use Rattle.simulation.proofs.Moves.{Each}

-- ---- operands that are taken off the stack

pub reordered_length : (order : List ℕ) (xs : List Slot) → length (reordered order xs) ≡ length order
reordered_length [] xs = refl
reordered_length (i ∷ order) xs = ap suc (reordered_length order xs)

args_taken : (xs : List Slot) (m : ℕ) (st ys : List Slot) (go : List Slot → List Slot → Move) → take_args (length xs + m) (pushed xs st) ys go ≡ take_args m st (xs ++ ys) go
args_taken [] m st ys go = let e : 0 + m ≡ m = omega arith in ap (λ k. take_args k st ys go) e
args_taken (x ∷ xs) m st ys go =
    let e : length (x ∷ xs) + m ≡ length xs + suc m = omega arith in
    ap (λ k. take_args k (pushed xs (x ∷ st)) ys go) e ∙ args_taken xs (suc m) (x ∷ st) ys go

pub all_taken : (xs st : List Slot) (go : List Slot → List Slot → Move) → take_args (length xs) (pushed xs st) [] go ≡ go xs st
all_taken xs st go =
    let e : length xs ≡ length xs + 0 = omega arith in
    let nil : xs ++ [] ≡ xs = simp append-nil in
    ap (λ k. take_args k (pushed xs st) [] go) e ∙ args_taken xs 0 st [] go ∙ ap (λ ys. go ys st) nil

-- so many, where there are as many
pub counted_taken : (xs st : List Slot) (k : ℕ) (go : List Slot → List Slot → Move) → length xs ≡ k → take_args k (pushed xs st) [] go ≡ go xs st
counted_taken xs st k go len = ap (λ j. take_args j (pushed xs st) [] go) (sym len) ∙ all_taken xs st go

-- with one more operand above them
pub one_more_taken : (xs st : List Slot) (y : Slot) (go : List Slot → List Slot → Move) → take_args (suc (length xs)) (y ∷ pushed xs st) [] go ≡ go (xs ++ y ∷ []) st
one_more_taken xs st y go =
    let e : length xs ≡ length xs + 0 = omega arith in
    ap (λ k. take_args k (pushed xs st) (y ∷ []) go) e ∙ args_taken xs 0 st (y ∷ []) go

-- arguments are as many slots as are counted
abbrev pub Counts : ℕ → Res (List Slot) → Type 0
Counts k r = Each (λ (xs : List Slot). length xs ≡ k) r

skips : {A : Type 0} (k : ℕ) (r : Res A) (f : A → State → Res (List Slot)) → ((v : A) (s : State) → Counts k (f v s)) → Counts k (r >>= f)
skips k (Got v s) f h = h v s
skips k (Failed e s) f h = tt
skips k (Over x s) f h = tt
skips k (Told es r) f h = skips k r f h
skips k (Turn s r) f h = skips k r f h

with_one : (x : Slot) (k : ℕ) (r : Res (List Slot)) → Counts k r → Counts (suc k) (r >>= λ xs s. Got (x ∷ xs) s)
with_one x k (Got xs s) h = ap suc h
with_one x k (Failed e s) h = tt
with_one x k (Over y s) h = tt
with_one x k (Told es r) h = with_one x k r h
with_one x k (Turn s r) h = with_one x k r h

in_place : (order : List ℕ) (r : Res (List Slot)) → Counts (length order) (r >>= λ xs s. Got (reordered order xs) s)
in_place order (Got xs s) = reordered_length order xs
in_place order (Failed e s) = tt
in_place order (Over y s) = tt
in_place order (Told es r) = in_place order r
in_place order (Turn s r) = in_place order r

pub evals_count : (args : Args) (callee : Callee) (pr : Project) (s : State) → Counts (count args) (evals args callee pr s)
evals_count no_args callee pr s = refl
evals_count (by_place x args) callee pr s =
    let k = suc (count args) in
    skips k (eval_place x callee pr s) (λ p s1. perform (lent p) s1 >>= λ u s2. evals args callee pr s2 >>= λ xs s3. Got (path p ∷ xs) s3) (λ p s1.
    skips k (perform (lent p) s1) (λ u s2. evals args callee pr s2 >>= λ xs s3. Got (path p ∷ xs) s3) (λ u s2.
    with_one (path p) (count args) (evals args callee pr s2) (evals_count args callee pr s2)))
evals_count (by_copy e of args) callee pr s =
    let k = suc (count args) in
    skips k (eval e callee pr s) (λ v s1. perform (fitted of v) s1 >>= λ w s2. evals args callee pr s2 >>= λ xs s3. Got (value w ∷ xs) s3) (λ v s1.
    skips k (perform (fitted of v) s1) (λ w s2. evals args callee pr s2 >>= λ xs s3. Got (value w ∷ xs) s3) (λ w s2.
    with_one (value w) (count args) (evals args callee pr s2) (evals_count args callee pr s2)))
evals_count (by_default v args) callee pr s = with_one (value v) (count args) (evals args callee pr s) (evals_count args callee pr s)
evals_count (by_list es args) callee pr s =
    skips (suc (count args)) (eval_list es callee pr s) (λ ys s1. evals args callee pr s1 >>= λ xs s2. Got (value (packed ys) ∷ xs) s2) (λ ys s1.
    with_one (value (packed ys)) (count args) (evals args callee pr s1) (evals_count args callee pr s1))
evals_count (in_order order args) callee pr s = in_place order (evals args callee pr s)

pub list_counts : (es : Exprs) (callee : Callee) (pr : Project) (s : State) → Counts (list_count es) (eval_list es callee pr s)
list_counts no_exprs callee pr s = refl
list_counts (also e es) callee pr s =
    skips (suc (list_count es)) (eval e callee pr s) (λ v s1. eval_list es callee pr s1 >>= λ xs s2. Got (value v ∷ xs) s2) (λ v s1.
    with_one (value v) (list_count es) (eval_list es callee pr s1) (list_counts es callee pr s1))

pub prints_counts : (ps : Prints) (callee : Callee) (pr : Project) (s : State) → Counts (prints_count ps) (eval_prints ps callee pr s)
prints_counts no_prints callee pr s = refl
prints_counts (shown e ps) callee pr s =
    let k = suc (prints_count ps) in
    skips k (eval e callee pr s) (λ v s1. perform (show_value v) s1 >>= λ w s2. eval_prints ps callee pr s2 >>= λ xs s3. Got (value w ∷ xs) s3) (λ v s1.
    skips k (perform (show_value v) s1) (λ w s2. eval_prints ps callee pr s2 >>= λ xs s3. Got (value w ∷ xs) s3) (λ w s2.
    with_one (value w) (prints_count ps) (eval_prints ps callee pr s2) (prints_counts ps callee pr s2)))
prints_counts (zone ps) callee pr s = with_one (value empty) (prints_count ps) (eval_prints ps callee pr s) (prints_counts ps callee pr s)

pub given_counts : (given : Given) (aim : Use) (name : List ℕ) (by : ByName) (gs : List Bool) (i : ℕ) (base : Val) (callee : Callee) (pr : Project) (s : State)
    → Counts (length (which_given given)) (eval_given given aim name by gs i base callee pr s)
given_counts none_given aim name by gs i base callee pr s = refl
given_counts (place_given x given) aim name by gs i base callee pr s =
    let k = suc (length (which_given given)) in
    skips k (eval_place x callee pr s) (λ q s1. place_bound callee pr aim name by gs i base q s1 >>= λ p s2. eval_given given aim name by gs (suc i) base callee pr s2 >>= λ xs s3. Got (path p ∷ xs) s3) (λ q s1.
    skips k (place_bound callee pr aim name by gs i base q s1) (λ p s2. eval_given given aim name by gs (suc i) base callee pr s2 >>= λ xs s3. Got (path p ∷ xs) s3) (λ p s2.
    with_one (path p) (length (which_given given)) (eval_given given aim name by gs (suc i) base callee pr s2) (given_counts given aim name by gs (suc i) base callee pr s2)))
given_counts (expr_given e given) aim name by gs i base callee pr s =
    let k = suc (length (which_given given)) in
    skips k (eval e callee pr s) (λ v s1. used callee pr (value_bound pr.declared aim name by gs i base v) s1 >>= λ w s2. eval_given given aim name by gs (suc i) base callee pr s2 >>= λ xs s3. Got (value w ∷ xs) s3) (λ v s1.
    skips k (used callee pr (value_bound pr.declared aim name by gs i base v) s1) (λ w s2. eval_given given aim name by gs (suc i) base callee pr s2 >>= λ xs s3. Got (value w ∷ xs) s3) (λ w s2.
    with_one (value w) (length (which_given given)) (eval_given given aim name by gs (suc i) base callee pr s2) (given_counts given aim name by gs (suc i) base callee pr s2)))
