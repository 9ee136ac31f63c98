-- Of arguments that parameters don't take no call is bound.
use Rattle.std.proofs.Common.{◌≡◌, ◌≢◌, ℕ, suc, ◌==◌, ◌<◌, ◌≤◌, Bool, true, false, ◌||◌, ◌&&◌, not, List, [], ◌∷◌, ◌++◌, Option, Some, None, is_some, option_map, if◌then◌else◌, refl, sym, ap, subst, ◌∙◌, arith, append-nil, append_assoc, eq-eqb, ne_eqb, false-eqb}
use Rattle.std.specs.Prelude.{bytes_eq, option_and_then}
use Rattle.std.specs.List.{list_all}
use Rattle.vba_base.specs.declared.place.Place.{Place}
use Rattle.vba_values.specs.Types.{Declared}
use Rattle.vba_values.specs.Types as type
use Rattle.vba_values.specs.Val.{Val}
use Rattle.bound_project.specs.Expressions.{Args}
use Rattle.bound_project.specs.Expressions as bound
use Rattle.bound_project.specs.Project.{Parameter}
use Rattle.bound_forms.specs.Terms.{Term, Given, Item, taken_by, not_given_to, parameter_named, cons_if, named_item, by_names, by_position, left_over, built, are_apart, has_names, listed_values, bound_arguments, may_lack, all_but, takes_named, takes}
use Rattle.bound_calls.specs.InOrder.{is_there, all_apart, others}
use Rattle.bound_calls.proofs.InOrder.{numbers_in, apart_is, none_for, left_by, left_over_is}

-- ---- truths

or_false : (b : Bool) → (b || false) ≡ b
or_false true = refl
or_false false = refl

or_same : (a b c : Bool) → (a || (b || c)) ≡ ((a || b) || c)
or_same true b c = refl
or_same false b c = refl

both_first : (a b : Bool) → (a && b) ≡ true → a ≡ true
both_first true b h = refl
both_first false b h = h

both_second : (a b : Bool) → (a && b) ≡ true → b ≡ true
both_second true b h = h
both_second false b h = let e : false ≡ true = h in absurd cc

neither_first : (a b : Bool) → (a || b) ≡ false → a ≡ false
neither_first true b h = h
neither_first false b h = refl

neither_second : (a b : Bool) → (a || b) ≡ false → b ≡ false
neither_second true b h = let e : true ≡ false = h in absurd cc
neither_second false b h = h

is_no : (b : Bool) → not b ≡ true → b ≡ false
is_no true h = let e : false ≡ true = h in absurd cc
is_no false h = refl

-- ---- numbers that are there

there_more : (n : ℕ) (ks : List ℕ) (k : ℕ) → is_there n (ks ++ k ∷ []) ≡ (is_there n ks || (k == n))
there_more n [] k = or_false (k == n)
there_more n (j ∷ ks) k = ap (λ b. (j == n) || b) (there_more n ks k) ∙ or_same (j == n) (is_there n ks) (k == n)

there_other : (n : ℕ) (ks : List ℕ) (k : ℕ) → k ≢ n → is_there n (ks ++ k ∷ []) ≡ is_there n ks
there_other n ks k ne = there_more n ks k ∙ ap (λ b. is_there n ks || b) (ne_eqb k n ne) ∙ or_false (is_there n ks)

others_beyond : {A : Type 0} (m : ℕ) (ps : List A) (ks : List ℕ) (k : ℕ) → k < m → others m ps (ks ++ k ∷ []) ≡ others m ps ks
others_beyond m [] ks k lt = refl
others_beyond m (p ∷ ps) ks k lt =
    ap (λ b. if b then others (suc m) ps (ks ++ k ∷ []) else p ∷ others (suc m) ps (ks ++ k ∷ [])) (there_other m ks k (λ (e : k ≡ m). omega (arith, e, lt)))
    ∙ ap (λ l. if is_there m ks then l else p ∷ l) (others_beyond (suc m) ps ks k (omega (arith, lt)))

left_beyond : (m : ℕ) (ps : List Parameter) (k : ℕ) (ks : List ℕ) → k < m → left_by m ps (k ∷ ks) ≡ left_by m ps ks
left_beyond m [] k ks lt = refl
left_beyond m (p ∷ ps) k ks lt =
    ap (λ b. if b || is_there m ks then left_by (suc m) ps (k ∷ ks) else none_for m p ∷ left_by (suc m) ps (k ∷ ks)) (ne_eqb k m (λ (e : k ≡ m). omega (arith, e, lt)))
    ∙ ap (λ l. if is_there m ks then l else none_for m p ∷ l) (left_beyond (suc m) ps k ks (omega (arith, lt)))

others_all : {A : Type 0} (n : ℕ) (ps : List A) → others n ps [] ≡ ps
others_all n [] = refl
others_all n (p ∷ ps) = ap (λ l. p ∷ l) (others_all (suc n) ps)

-- ---- the parameter with a name

abbrev first_or : ℕ → Option (ℕ × Parameter) → ℕ
first_or n None = n
first_or n (Some f) = f.0

named_at_least : (n : ℕ) (ps : List Parameter) (fold : List ℕ) (k : ℕ) (p : Parameter) → parameter_named n ps fold ≡ Some (k, p) → n ≤ k
named_at_least n [] fold k p f = let e : ◌≡◌ {A = Option (ℕ × Parameter)} None (Some (k, p)) = f in absurd cc
named_at_least n (q ∷ ps) fold k p f = at (λ h. named_at_least (suc n) ps fold k p h) (not q.many && bytes_eq q.name.fold fold) f
  where
    at : (parameter_named (suc n) ps fold ≡ Some (k, p) → suc n ≤ k) → (b : Bool) → (if b then Some (n, q) else parameter_named (suc n) ps fold) ≡ Some (k, p) → n ≤ k
    at behind true h = let e : n ≡ k = ap (λ o. first_or n o) h in omega (arith, e)
    at behind false h = let e : suc n ≤ k = behind h in omega (arith, e)

-- all but that one
but_first : (n : ℕ) (q : Parameter) (ps : List Parameter) (fold : List ℕ) (ks : List ℕ) → (not q.many && bytes_eq q.name.fold fold) ≡ true → is_there n ks ≡ false
    → all_but (others n (q ∷ ps) ks) fold ≡ Some (others n (q ∷ ps) (ks ++ n ∷ []))
but_first n q ps fold ks same absent =
    let there : is_there n (ks ++ n ∷ []) ≡ true = there_more n ks n ∙ ap (λ b. b || (n == n)) absent ∙ eq-eqb n n refl in
    let left : all_but (others n (q ∷ ps) ks) fold ≡ Some (others (suc n) ps ks) = rw (absent, same) refl in
    let right : others n (q ∷ ps) (ks ++ n ∷ []) ≡ others (suc n) ps (ks ++ n ∷ []) = ap (λ b. if b then others (suc n) ps (ks ++ n ∷ []) else q ∷ others (suc n) ps (ks ++ n ∷ [])) there in
    left ∙ ap (λ l. Some l) (sym (right ∙ others_beyond (suc n) ps ks n (omega arith)))

but_behind : (q : Parameter) (os ns : List Parameter) (fold : List ℕ) (b : Bool) → (not q.many && bytes_eq q.name.fold fold) ≡ false → all_but os fold ≡ Some ns
    → all_but (if b then os else q ∷ os) fold ≡ Some (if b then ns else q ∷ ns)
but_behind q os ns fold true other h = h
but_behind q os ns fold false other h = rw (other, h) refl

all_but_is : (n : ℕ) (ps : List Parameter) (fold : List ℕ) (ks : List ℕ) (k : ℕ) (p : Parameter) → parameter_named n ps fold ≡ Some (k, p) → is_there k ks ≡ false → all_but (others n ps ks) fold ≡ Some (others n ps (ks ++ k ∷ []))
all_but_is n [] fold ks k p f absent = let e : ◌≡◌ {A = Option (ℕ × Parameter)} None (Some (k, p)) = f in absurd cc
all_but_is n (q ∷ ps) fold ks k p f absent = at (λ h. all_but_is (suc n) ps fold ks k p h absent) (not q.many && bytes_eq q.name.fold fold) refl
  where
    found : (b : Bool) → (not q.many && bytes_eq q.name.fold fold) ≡ b → (if b then Some (n, q) else parameter_named (suc n) ps fold) ≡ Some (k, p)
    found b e = ap (λ c. if c then Some (n, q) else parameter_named (suc n) ps fold) (sym e) ∙ f

    at : (parameter_named (suc n) ps fold ≡ Some (k, p) → all_but (others (suc n) ps ks) fold ≡ Some (others (suc n) ps (ks ++ k ∷ []))) → (b : Bool) → (not q.many && bytes_eq q.name.fold fold) ≡ b
        → all_but (others n (q ∷ ps) ks) fold ≡ Some (others n (q ∷ ps) (ks ++ k ∷ []))
    at further true e =
        let same : n ≡ k = ap (λ o. first_or n o) (found true e) in
        let here : all_but (others n (q ∷ ps) ks) fold ≡ Some (others n (q ∷ ps) (ks ++ n ∷ [])) = but_first n q ps fold ks e (ap (λ m. is_there m ks) same ∙ absent) in
        here ∙ ap (λ m. Some (others n (q ∷ ps) (ks ++ m ∷ []))) same
    at further false e =
        let le : suc n ≤ k = named_at_least (suc n) ps fold k p (found false e) in
        let behind = further (found false e) in
        let both = but_behind q (others (suc n) ps ks) (others (suc n) ps (ks ++ k ∷ [])) fold (is_there n ks) e behind in
        both ∙ ap (λ b. Some (if b then others (suc n) ps (ks ++ k ∷ []) else q ∷ others (suc n) ps (ks ++ k ∷ []))) (sym (there_other n ks k (λ (same : k ≡ n). omega (arith, le, same))))

-- ---- arguments with names

-- none of the numbers is there
abbrev Free : (ks ms : List ℕ) → Type 0
Free ks [] = Unit {0}
Free ks (m ∷ ms) = (is_there m ks ≡ false) × Free ks ms

free_none : (ms : List ℕ) → Free [] ms
free_none [] = tt
free_none (m ∷ ms) = (refl, free_none ms)

free_more : (ks ms : List ℕ) (k : ℕ) → Free ks ms → is_there k ms ≡ false → Free (ks ++ k ∷ []) ms
free_more ks [] k h absent = tt
free_more ks (m ∷ ms) k h absent =
    let ne : m ≢ k = false-eqb m k (sym (neither_first (m == k) (is_there k ms) absent)) in
    (there_other m ks k (λ (e : k ≡ m). ne (sym e)) ∙ h.0, free_more ks ms k h.1 (neither_second (m == k) (is_there k ms) absent))

record Parts (i : Option Item) (is : Option (List Item)) (all : List Item) : Type 0 where
  pub first : Item
  pub behind : List Item
  pub first_is : i ≡ Some first
  pub behind_is : is ≡ Some behind
  pub all_is : all ≡ first ∷ behind

abbrev items_or : Option (List Item) → List Item
items_or None = []
items_or (Some is) = is

parts_of : (i : Option Item) (is : Option (List Item)) (all : List Item) → cons_if i is ≡ Some all → Parts i is all
parts_of None is all h = let e : ◌≡◌ {A = Option (List Item)} None (Some all) = h in absurd cc
parts_of (Some x) None all h = let e : ◌≡◌ {A = Option (List Item)} None (Some all) = h in absurd cc
parts_of (Some x) (Some xs) all h = record { first = x; behind = xs; first_is = refl; behind_is = refl; all_is = sym (ap (λ o. items_or o) h) }

record Named (value : Declared → Term → Place → Option bound.Expr) (n : ℕ) (ps : List Parameter) (g : Given) (x : Item) : Type 0 where
  pub fold : List ℕ
  pub parameter : Parameter
  pub has_name : g.name ≡ Some fold
  pub found : parameter_named n ps fold ≡ Some (x.parameter, parameter)

abbrev number_or : ℕ → Option Item → ℕ
number_or n None = n
number_or n (Some i) = i.parameter

named_of : (value : Declared → Term → Place → Option bound.Expr) (n : ℕ) (ps : List Parameter) (g : Given) (x : Item) → option_and_then (λ fold. named_item value g (parameter_named n ps fold)) g.name ≡ Some x → Named value n ps g x
named_of value n ps g x h = at g.name refl h
  where
    inner : (fold : List ℕ) (found : Option (ℕ × Parameter)) → g.name ≡ Some fold → parameter_named n ps fold ≡ found → named_item value g found ≡ Some x → Named value n ps g x
    inner fold None e f k = let absent : ◌≡◌ {A = Option Item} None (Some x) = k in absurd cc
    inner fold (Some r) e f k =
        let same : r.0 ≡ x.parameter = ap (λ o. number_or x.parameter o) k in
        record { fold = fold; parameter = r.1; has_name = e; found = f ∙ ap (λ m. Some (m, r.1)) same }

    at : (name : Option (List ℕ)) → g.name ≡ name → option_and_then (λ fold. named_item value g (parameter_named n ps fold)) name ≡ Some x → Named value n ps g x
    at None e k = let absent : ◌≡◌ {A = Option Item} None (Some x) = k in absurd cc
    at (Some fold) e k = inner fold (parameter_named n ps fold) e refl k

takes_names : (value : Declared → Term → Place → Option bound.Expr) (n : ℕ) (ps : List Parameter) (gs : List Given) (is : List Item) (ks : List ℕ) → by_names value n ps gs ≡ Some is → Free ks (numbers_in is)
    → all_apart (numbers_in is) ≡ true → takes_named (Some (others n ps ks)) gs ≡ list_all may_lack (others n ps (ks ++ numbers_in is))
takes_names value n ps [] is ks h free apart =
    let none : [] ≡ is = ap (λ o. items_or o) h in
    ap (λ l. list_all may_lack (others n ps l)) (sym (append-nil ks)) ∙ ap (λ l. list_all may_lack (others n ps (ks ++ numbers_in l))) none
takes_names value n ps (g ∷ gs) is ks h free apart =
    let p = parts_of (option_and_then (λ fold. named_item value g (parameter_named n ps fold)) g.name) (by_names value n ps gs) is h in
    let m = named_of value n ps g p.first p.first_is in
    let k = p.first.parameter in
    let ms = numbers_in p.behind in
    let numbers : numbers_in is ≡ k ∷ ms = ap (λ l. numbers_in l) p.all_is in
    let free' : Free ks (k ∷ ms) = subst (λ l. Free ks l) numbers free in
    let apart' : all_apart (k ∷ ms) ≡ true = ap (λ l. all_apart l) (sym numbers) ∙ apart in
    let absent : is_there k ms ≡ false = is_no (is_there k ms) (both_first (not (is_there k ms)) (all_apart ms) apart') in
    let left : option_and_then (all_but (others n ps ks)) g.name ≡ Some (others n ps (ks ++ k ∷ [])) =
    ap (λ o. option_and_then (all_but (others n ps ks)) o) m.has_name ∙ all_but_is n ps m.fold ks k m.parameter m.found free'.0 in
    ap (λ o. takes_named o gs) left
    ∙ takes_names value n ps gs p.behind (ks ++ k ∷ []) p.behind_is (free_more ks ms k free'.1 absent) (both_second (not (is_there k ms)) (all_apart ms) apart')
    ∙ ap (λ l. list_all may_lack (others n ps l)) (append_assoc ks (k ∷ []) ms)
    ∙ ap (λ l. list_all may_lack (others n ps (ks ++ l))) (sym numbers)

-- ---- what is built

record Behind (add : Args → Option Args) (rest : Option Args) (all : Args) : Type 0 where
  pub args : Args
  pub rest_is : rest ≡ Some args
  pub adds : add args ≡ Some all

behind_of : (add : Args → Option Args) (rest : Option Args) (all : Args) → option_and_then add rest ≡ Some all → Behind add rest all
behind_of add None all h = let e : ◌≡◌ {A = Option Args} None (Some all) = h in absurd cc
behind_of add (Some args) all h = record { args = args; rest_is = refl; adds = h }

record Built (made : List Item) : Type 0 where
  pub args : Args
  pub is : built made ≡ Some args

built_behind : (is ls : List Item) (all : Args) → built (is ++ ls) ≡ Some all → Built ls
built_behind [] ls all h = record { args = all; is = h }
built_behind (i ∷ is) ls all h = let b = behind_of i.add (built (is ++ ls)) all h in built_behind is ls b.args b.rest_is

lacks_none : (p : Parameter) (rest all : Args) → not_given_to p rest ≡ Some all → may_lack p ≡ true
lacks_none p rest all h = at p.many p.default h
  where
    at : (many : Bool) (default : Option Val) → (if many then Some (bound.by_list bound.no_exprs rest) else option_map (λ v. bound.by_default v rest) default) ≡ Some all → (many || is_some default) ≡ true
    at true default k = refl
    at false None k = let e : ◌≡◌ {A = Option Args} None (Some all) = k in absurd cc
    at false (Some v) k = refl

lack_first : (n : ℕ) (p : Parameter) (os : List Parameter) (is : List Item) (b : Bool) → ((all : Args) → built is ≡ Some all → list_all may_lack os ≡ true) → (all : Args) → built (if b then is else none_for n p ∷ is) ≡ Some all
    → list_all may_lack (if b then os else p ∷ os) ≡ true
lack_first n p os is true f all h = f all h
lack_first n p os is false f all h =
    let b = behind_of (not_given_to p) (built is) all h in
    ap (λ c. c && list_all may_lack os) (lacks_none p b.args all b.adds) ∙ f b.args b.rest_is

left_lack : (n : ℕ) (ps : List Parameter) (ks : List ℕ) (all : Args) → built (left_by n ps ks) ≡ Some all → list_all may_lack (others n ps ks) ≡ true
left_lack n [] ks all h = refl
left_lack n (p ∷ ps) ks all h = lack_first n p (others (suc n) ps ks) (left_by (suc n) ps ks) (is_there n ks) (λ xs k. left_lack (suc n) ps ks xs k) all h

over_lack : (n : ℕ) (ps : List Parameter) (is : List Item) (all : Args) → built (is ++ left_over n ps is) ≡ Some all → list_all may_lack (others n ps (numbers_in is)) ≡ true
over_lack n ps is all h =
    let b = built_behind is (left_over n ps is) all h in
    left_lack n ps (numbers_in is) b.args (ap (λ l. built l) (sym (left_over_is n ps is)) ∙ b.is)

-- ---- arguments from the left

taken_needs : (value : Declared → Term → Place → Option bound.Expr) (p : Parameter) (g : Given) (rest all : Args) → taken_by value p g rest ≡ Some all → (is_some g.term || may_lack p) ≡ true
taken_needs value p g rest all h = at g.term refl
  where
    at : (t : Option Term) → g.term ≡ t → (is_some t || may_lack p) ≡ true
    at (Some t) e = refl
    at None e = lacks_none p rest all (subst (λ (o : Option Term). taken_by value p (record { name = g.name; term = o; place = g.place }) rest ≡ Some all) e h)

abbrev Further : (value : Declared → Term → Place → Option bound.Expr) → ℕ → List Parameter → List Given → Type 0
Further value n ps gs = (js : List Item) (args : Args) → by_position value n ps gs ≡ Some js → are_apart js ≡ true → built (js ++ left_over n ps js) ≡ Some args → takes ps gs ≡ true

abbrev item_or : Item → Option Item → Item
item_or i None = i
item_or i (Some j) = j

pub taken : (value : Declared → Term → Place → Option bound.Expr) (n : ℕ) (ps : List Parameter) (gs : List Given) (is : List Item) (all : Args) → by_position value n ps gs ≡ Some is → are_apart is ≡ true
    → built (is ++ left_over n ps is) ≡ Some all → takes ps gs ≡ true
taken value n ps [] is all h apart b =
    let none : [] ≡ is = ap (λ o. items_or o) h in
    let lacks : list_all may_lack (others n ps (numbers_in [])) ≡ true = subst (λ l. list_all may_lack (others n ps (numbers_in l)) ≡ true) (sym none) (over_lack n ps is all b) in
    ap (λ l. list_all may_lack l) (sym (others_all n ps)) ∙ lacks
taken value n [] (g ∷ gs) is all h apart b = let e : ◌≡◌ {A = Option (List Item)} None (Some is) = h in absurd cc
taken value n (p ∷ ps) (g ∷ gs) is all h apart b =
    at (λ js args k a m. taken value (suc n) ps gs js args k a m) (is_some g.name) (p.many) (has_names (g ∷ gs)) refl h
  where
    item : Item
    item = record { parameter = n; add = taken_by value p g }

    with_names : by_names value n (p ∷ ps) (g ∷ gs) ≡ Some is → takes_named (Some (p ∷ ps)) (g ∷ gs) ≡ true
    with_names k =
        ap (λ l. takes_named (Some l) (g ∷ gs)) (sym (others_all n (p ∷ ps))) ∙ takes_names value n (p ∷ ps) (g ∷ gs) is [] k (free_none (numbers_in is)) (sym (apart_is is) ∙ apart)
        ∙ over_lack n (p ∷ ps) is all b

    one_more : Further value (suc n) ps gs → cons_if (Some item) (by_position value (suc n) ps gs) ≡ Some is → ((is_some g.term || may_lack p) && takes ps gs) ≡ true
    one_more further k =
        let r = parts_of (Some item) (by_position value (suc n) ps gs) is k in
        let first : item ≡ r.first = ap (λ o. item_or item o) r.first_is in
        let is_is : is ≡ item ∷ r.behind = r.all_is ∙ ap (λ i. i ∷ r.behind) (sym first) in
        let ms = numbers_in r.behind in
        let over : left_over n (p ∷ ps) is ≡ left_over (suc n) ps r.behind =
        left_over_is n (p ∷ ps) is ∙ ap (λ l. left_by n (p ∷ ps) (numbers_in l)) is_is ∙ ap (λ c. if c || is_there n ms then left_by (suc n) ps (n ∷ ms) else none_for n p ∷ left_by (suc n) ps (n ∷ ms)) (eq-eqb n n refl)
        ∙ left_beyond (suc n) ps n ms (omega arith) ∙ sym (left_over_is (suc n) ps r.behind) in
        let all_is : built ((item ∷ r.behind) ++ left_over (suc n) ps r.behind) ≡ Some all = ap (λ l. built (l ++ left_over (suc n) ps r.behind)) (sym is_is) ∙ ap (λ l. built (is ++ l)) (sym over) ∙ b in
        let s = behind_of (taken_by value p g) (built (r.behind ++ left_over (suc n) ps r.behind)) all all_is in
        let apart' : are_apart (item ∷ r.behind) ≡ true = ap (λ l. are_apart l) (sym is_is) ∙ apart in
        let apart_behind : all_apart (n ∷ ms) ≡ true = sym (apart_is (item ∷ r.behind)) ∙ apart' in
        let behind_apart : are_apart r.behind ≡ true = apart_is r.behind ∙ both_second (not (is_there n ms)) (all_apart ms) apart_behind in
        ap (λ c. c && takes ps gs) (taken_needs value p g s.args all s.adds) ∙ further r.behind s.args r.behind_is behind_apart s.rest_is

    at : Further value (suc n) ps gs → (named many names : Bool) → names ≡ has_names (g ∷ gs) → (if named then by_names value n (p ∷ ps) (g ∷ gs) else if many then (if names then None else option_map (λ es. record { parameter = n; add = λ rest. Some (bound.by_list es rest) } ∷ []) (listed_values (value type.variant) (g ∷ gs))) else cons_if (Some item) (by_position value (suc n) ps gs)) ≡ Some is
        → (if named then takes_named (Some (p ∷ ps)) (g ∷ gs) else if many then not names else (is_some g.term || may_lack p) && takes ps gs) ≡ true
    at further true many names e k = with_names k
    at further false true true e k = let absent : ◌≡◌ {A = Option (List Item)} None (Some is) = k in absurd cc
    at further false true false e k = refl
    at further false false names e k = one_more further k

pub refused : (value : Declared → Term → Place → Option bound.Expr) (ps : List Parameter) (gs : List Given) → takes ps gs ≡ false → bound_arguments value ps gs ≡ None
refused value ps gs absent = at (by_position value 0 ps gs) refl
  where
    at : (o : Option (List Item)) → by_position value 0 ps gs ≡ o → bound_arguments value ps gs ≡ None
    at None e = rw e refl
    at (Some is) e = inner (are_apart is) (built (is ++ left_over 0 ps is)) refl refl
      where
        inner : (apart : Bool) (all : Option Args) → are_apart is ≡ apart → built (is ++ left_over 0 ps is) ≡ all → bound_arguments value ps gs ≡ None
        inner false all f k = rw (e, f) refl
        inner true None f k = rw (e, f, k) refl
        inner true (Some args) f k = let yes : takes ps gs ≡ true = taken value 0 ps gs is args e f k in let contrary : false ≡ true = sym absent ∙ yes in absurd cc
