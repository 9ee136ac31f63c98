-- Values under other names: the tables of values give of them what they give of the values, under these names.
use Rattle.std.proofs.Common.{◌≡◌, ℕ, zero, suc, Bool, true, false, List, [], ◌∷◌, ◌++◌, map, Result, Ok, Err, ℤ, refl, sym, ap, ◌∙◌, arith}
use Rattle.std.specs.Prelude.{◌==◌, ◌*◌, ◌||◌, if◌then◌else◌, option_map}
use Rattle.std.specs.List.{range_with_len}
use Rattle.std.proofs.lemmas.Bool.{eqb-true, eq-eqb}
use Rattle.vba_base.specs.Answer.{◌>>=◌}
use Rattle.vba_values.specs.declared.fault.Bad.{Bad}
use Rattle.vba_values.specs.declared.object.ObjRef.{ObjRef}
use Rattle.vba_values.specs.declared.object.ObjRef.TheVariants.{Nothing, Heap, Host}
use Rattle.vba_values.specs.declared.types.OpKind.{OpKind}
use Rattle.vba_values.specs.declared.types.OpKind.TheVariants as op
use Rattle.vba_values.specs.declared.types.Compare.{Compare}
use Rattle.vba_values.specs.declared.types.WholeKind.{WholeKind}
use Rattle.vba_values.specs.declared.value.Bound.{Bound}
use Rattle.vba_values.specs.Types.{Declared}
use Rattle.vba_values.specs.Types as type
use Rattle.vba_values.specs.Errors.{type_mismatch}
use Rattle.vba_values.specs.Val.{Val, Vals, object, array, udt, no_vals, val, vals_of}
use Rattle.vba_values.specs.Coerce.{coerce_of, to_boolean, to_whole, text_of, is_same_type}
use Rattle.vba_values.specs.Operands.{is_no_operand, is_null}
use Rattle.vba_values.specs.Arithmetic.{division, double_result}
use Rattle.vba_values.specs.Operators.{join, binary_of, unary_of}
use Rattle.vba_values.specs.Objects.{same_object, compared_by_is}
use Rattle.arrays_udt.specs.declared.paths.PathStep.{PathStep}
use Rattle.arrays_udt.specs.declared.paths.PathStep.TheVariants.{Field, Element}
use Rattle.arrays_udt.specs.Paths.{path_value, inner_value, with_path, with_inner}
use Rattle.arrays_udt.specs.Shapes.{elements, is_place, layout, place_at}
use Rattle.arrays_udt.specs.Resize.{item_at, kept, resized, can_resize}
use Rattle.sheet_host.specs.Area.{host_error}
use Rattle.sheet_host.specs.Gathered.{gathered}
use Rattle.sheet_host.specs.Writing.{cell_at, is_large_enough, given, cells_of, place_in}
use Rattle.vba_meaning.specs.References.{objects_in, objects_in_vals, objects_in_values}
use Rattle.object_lives.proofs.Values.{In, own_time, OkIn, coerced_in, operated_in, operated_alone_in}
use Rattle.object_counts.proofs.Indexed.{times-append}
use Rattle.std.proofs.lemmas.List.{map-append}
use Rattle.object_names.specs.Names.{reference_named, value_named, items_named, values_named}

-- ---- lists and tests

pub if_true : {X : Type 0} (b : Bool) (x y : X) → b ≡ true → (if b then x else y) ≡ x
if_true true x y e = refl
if_true false x y e = absurd cc

pub bind_same : {A B E : Type 0} (x x' : Result A E) (f g : A → Result B E) → x' ≡ x → ((a : A) → g a ≡ f a) → (x' >>= g) ≡ (x >>= f)
bind_same (Ok a) x' f g e h = ap (λ y. y >>= g) e ∙ h a
bind_same (Err b) x' f g e h = ap (λ y. y >>= g) e

first_nil : (xs ys : List ℕ) → xs ++ ys ≡ [] → xs ≡ []
first_nil [] ys e = refl
first_nil (x ∷ xs) ys e = absurd cc

second_nil : (xs ys : List ℕ) → xs ++ ys ≡ [] → ys ≡ []
second_nil [] ys e = e
second_nil (x ∷ xs) ys e = absurd cc

pub nil_of : (xs : List ℕ) → In xs [] → xs ≡ []
nil_of [] h = refl
nil_of (x ∷ xs) h = absurd (omega (arith, h.at x (omega (arith, times-append x (x ∷ []) xs, own_time x))))

-- a value whose parts no operator takes
operand_cases : {X : Type 0} (r : ℕ → ℕ) (v : Val) → (value_named r v ≡ v → X) → (is_no_operand v ≡ true → is_no_operand (value_named r v) ≡ true → X) → X
operand_cases r (object o) k n = n refl refl
operand_cases r (array bounds of items) k n = n refl refl
operand_cases r (udt number fields) k n = n refl refl
operand_cases r v k n = k refl

either_true : (a b : Bool) → b ≡ true → (a || b) ≡ true
either_true true b e = refl
either_true false b e = e

first_either : (a b : Bool) → a ≡ true → (a || b) ≡ true
first_either true b e = refl
first_either false b e = absurd cc

none_divided : (o : OpKind) (l r : Val) → (is_no_operand l || is_no_operand r) ≡ true → division o l r ≡ Err type_mismatch
unfolding division
none_divided o l r e = if_true (is_no_operand l || is_no_operand r) (Err type_mismatch) _ e

none_joined : (l r : Val) → (is_no_operand l || is_no_operand r) ≡ true → join l r ≡ Err type_mismatch
unfolding join
none_joined l r e = if_true (is_no_operand l || is_no_operand r) (Err type_mismatch) _ e

-- what an operator answers of such a value
none_of : OpKind → Result Val Bad
none_of op.Divide = Err double_result
none_of op.Power = Err double_result
none_of o = Err type_mismatch

none_binary : (o : OpKind) (l : Val) (ld : Declared) (r : Val) (rd : Declared) (compare : Compare) → (is_no_operand l || is_no_operand r) ≡ true → binary_of o l ld r rd compare ≡ none_of o
unfolding none_of
none_binary op.Divide l ld r rd compare e = refl
none_binary op.Power l ld r rd compare e = refl
none_binary op.Add l ld r rd compare e = if_true (is_no_operand l || is_no_operand r) (Err type_mismatch) _ e
none_binary op.Sub l ld r rd compare e = if_true (is_no_operand l || is_no_operand r) (Err type_mismatch) _ e
none_binary op.Mul l ld r rd compare e = if_true (is_no_operand l || is_no_operand r) (Err type_mismatch) _ e
none_binary op.IntDiv l ld r rd compare e = none_divided op.IntDiv l r e
none_binary op.Mod l ld r rd compare e = none_divided op.Mod l r e
none_binary op.Join l ld r rd compare e = none_joined l r e
none_binary op.And l ld r rd compare e = if_true (is_no_operand l || is_no_operand r) (Err type_mismatch) _ e
none_binary op.Or l ld r rd compare e = if_true (is_no_operand l || is_no_operand r) (Err type_mismatch) _ e
none_binary op.Xor l ld r rd compare e = if_true (is_no_operand l || is_no_operand r) (Err type_mismatch) _ e
none_binary op.Eqv l ld r rd compare e = if_true (is_no_operand l || is_no_operand r) (Err type_mismatch) _ e
none_binary op.Imp l ld r rd compare e = if_true (is_no_operand l || is_no_operand r) (Err type_mismatch) _ e
none_binary o l ld r rd compare e = if_true (is_no_operand l || is_no_operand r) (Err type_mismatch) _ e

module _ (r : ℕ → ℕ) where
  -- ---- a value that refers to nothing is the same under all names

  mutual
    pub free_named : (v : Val) → objects_in v ≡ [] → value_named r v ≡ v
    free_named (object Nothing) e = refl
    free_named (object (Heap id)) e = absurd cc
    free_named (object (Host h)) e = refl
    free_named (array bounds of items) e = ap (λ vs. array bounds of vs) (items_free items e)
    free_named (udt number fields) e = ap (λ vs. udt number vs) (items_free fields e)
    free_named v e = refl

    pub items_free : (vs : Vals) → objects_in_vals vs ≡ [] → items_named r vs ≡ vs
    items_free no_vals e = refl
    items_free (val v vs) e =
        ap (λ w. val w (items_named r vs)) (free_named v (first_nil (objects_in v) (objects_in_vals vs) e)) ∙ ap (λ ws. val v ws) (items_free vs (second_nil (objects_in v) (objects_in_vals vs) e))

  abbrev pub answer_named : Result Val Bad → Result Val Bad
  answer_named (Ok v) = Ok (value_named r v)
  answer_named (Err bad) = Err bad

  pub free_answer : (x : Result Val Bad) → OkIn [] x → answer_named x ≡ x
  free_answer (Ok v) h = ap (λ w. Ok w) (free_named v (nil_of (objects_in v) h))
  free_answer (Err bad) h = refl

  -- one that depends on what no name changes
  pub free_same : (x x' : Result Val Bad) → x' ≡ x → OkIn [] x → x' ≡ answer_named x
  free_same x x' e h = e ∙ sym (free_answer x h)

  pub if_answer : (b : Bool) (x y : Result Val Bad) → (if b then answer_named x else answer_named y) ≡ answer_named (if b then x else y)
  if_answer true x y = refl
  if_answer false x y = refl

  -- ---- coercion and operators

  pub coerce_named : (v : Val) (of : Declared) → coerce_of (value_named r v) of ≡ answer_named (coerce_of v of)
  coerce_named (object o) type.boolean = refl
  coerce_named (object o) of = refl
  coerce_named (array bounds of items) (type.array_of t) = if_answer (is_same_type of t) (Ok (array bounds of items)) (Err type_mismatch)
  coerce_named (array bounds of items) t = refl
  coerce_named (udt number fields) (type.udt place) = if_answer (number == place) (Ok (udt number fields)) (Err type_mismatch)
  coerce_named (udt number fields) t = refl
  coerce_named v of = sym (free_answer (coerce_of v of) (coerced_in v of))

  pub text_blind : (v : Val) → text_of (value_named r v) ≡ text_of v
  text_blind (object o) = refl
  text_blind v = refl

  pub whole_blind : (k : WholeKind) (v : Val) → to_whole k (value_named r v) ≡ to_whole k v
  whole_blind k (object o) = refl
  whole_blind k v = refl

  pub null_blind : (v : Val) → is_null (value_named r v) ≡ is_null v
  null_blind (object o) = refl
  null_blind v = refl

  pub boolean_blind : (v : Val) → to_boolean (value_named r v) ≡ to_boolean v
  boolean_blind (object o) = refl
  boolean_blind v = refl

  binary_blind : (o : OpKind) (a : Val) (ad : Declared) (b : Val) (bd : Declared) (compare : Compare) → binary_of o (value_named r a) ad (value_named r b) bd compare ≡ binary_of o a ad b bd compare
  binary_blind o a ad b bd compare =
      operand_cases r a
      (λ e. operand_cases r b (λ f. ap (λ v. binary_of o v ad (value_named r b) bd compare) e ∙ ap (λ w. binary_of o a ad w bd compare) f)
      (λ n m. none_binary o (value_named r a) ad (value_named r b) bd compare (either_true (is_no_operand (value_named r a)) (is_no_operand (value_named r b)) m)
      ∙ sym (none_binary o a ad b bd compare (either_true (is_no_operand a) (is_no_operand b) n))))
      (λ n m. none_binary o (value_named r a) ad (value_named r b) bd compare (first_either (is_no_operand (value_named r a)) (is_no_operand (value_named r b)) m)
      ∙ sym (none_binary o a ad b bd compare (first_either (is_no_operand a) (is_no_operand b) n)))

  pub binary_named : (o : OpKind) (a : Val) (ad : Declared) (b : Val) (bd : Declared) (compare : Compare) → binary_of o (value_named r a) ad (value_named r b) bd compare ≡ answer_named (binary_of o a ad b bd compare)
  binary_named o a ad b bd compare = free_same (binary_of o a ad b bd compare) _ (binary_blind o a ad b bd compare) (operated_in [] o a ad b bd compare)

  unary_blind : (o : OpKind) (v : Val) (of : Declared) → unary_of o (value_named r v) of ≡ unary_of o v of
  unary_blind op.Not (object x) of = refl
  unary_blind op.Not (array bounds t items) of = refl
  unary_blind op.Not (udt number fields) of = refl
  unary_blind op.Not v of = refl
  unary_blind o (object x) of = refl
  unary_blind o (array bounds t items) of = refl
  unary_blind o (udt number fields) of = refl
  unary_blind o v of = refl

  pub unary_named : (o : OpKind) (v : Val) (of : Declared) → unary_of o (value_named r v) of ≡ answer_named (unary_of o v of)
  unary_named o v of = free_same (unary_of o v of) _ (unary_blind o v of) (operated_alone_in [] o v of)

  -- ---- parts of values

  mutual
    pub path_value_named : (v : Val) (steps : List PathStep) → path_value (value_named r v) steps ≡ option_map (λ w. value_named r w) (path_value v steps)
    path_value_named v [] = refl
    path_value_named (array bounds of items) (Element k ∷ steps) = inner_value_named items k steps
    path_value_named (array bounds of items) (Field k ∷ steps) = refl
    path_value_named (udt number fields) (Field i ∷ steps) = inner_value_named fields i steps
    path_value_named (udt number fields) (Element i ∷ steps) = refl
    path_value_named (object o) (s ∷ steps) = refl
    path_value_named v (s ∷ steps) = refl

    inner_value_named : (vs : Vals) (k : ℕ) (steps : List PathStep) → inner_value (items_named r vs) k steps ≡ option_map (λ w. value_named r w) (inner_value vs k steps)
    inner_value_named no_vals k steps = refl
    inner_value_named (val v vs) zero steps = path_value_named v steps
    inner_value_named (val v vs) (suc k) steps = inner_value_named vs k steps

  mutual
    pub with_path_named : (v : Val) (steps : List PathStep) (w : Val) → with_path (value_named r v) steps (value_named r w) ≡ value_named r (with_path v steps w)
    with_path_named v [] w = refl
    with_path_named (array bounds of items) (Element k ∷ steps) w = ap (λ vs. array bounds of vs) (with_inner_named items k steps w)
    with_path_named (array bounds of items) (Field k ∷ steps) w = refl
    with_path_named (udt number fields) (Field i ∷ steps) w = ap (λ vs. udt number vs) (with_inner_named fields i steps w)
    with_path_named (udt number fields) (Element i ∷ steps) w = refl
    with_path_named (object o) (s ∷ steps) w = refl
    with_path_named v (s ∷ steps) w = refl

    with_inner_named : (vs : Vals) (k : ℕ) (steps : List PathStep) (w : Val) → with_inner (items_named r vs) k steps (value_named r w) ≡ items_named r (with_inner vs k steps w)
    with_inner_named no_vals k steps w = refl
    with_inner_named (val v vs) zero steps w = ap (λ u. val u (items_named r vs)) (with_path_named v steps w)
    with_inner_named (val v vs) (suc k) steps w = ap (λ us. val (value_named r v) us) (with_inner_named vs k steps w)

  pub item_at_named : (vs : Vals) (k : ℕ) → item_at (items_named r vs) k ≡ value_named r (item_at vs k)
  item_at_named no_vals k = refl
  item_at_named (val v vs) zero = refl
  item_at_named (val v vs) (suc k) = item_at_named vs k

  pub vals_of_named : (vs : List Val) → vals_of (values_named r vs) ≡ items_named r (vals_of vs)
  vals_of_named [] = refl
  vals_of_named (v ∷ vs) = ap (λ ws. val (value_named r v) ws) (vals_of_named vs)

  -- ---- arrays that are resized

  kept_item_named : (bounds : List Bound) (items : Vals) (item : Val) (place : List ℤ) → value_named r item ≡ item → kept bounds (items_named r items) item place ≡ value_named r (kept bounds items item place)
  kept_item_named bounds items item place e = by_test (is_place bounds place) where
    by_test : (b : Bool) → (if b then item_at (items_named r items) (layout bounds place) else item) ≡ value_named r (if b then item_at items (layout bounds place) else item)
    by_test true = item_at_named items (layout bounds place)
    by_test false = sym e

  pub resized_named : (shape : List Bound) (item old : Val) → value_named r item ≡ item → resized shape item (value_named r old) ≡ value_named r (resized shape item old)
  resized_named shape item (array bounds of items) e = ap (λ vs. array shape of vs) (all_kept (range_with_len 0 (elements shape))) where
    all_kept : (ks : List ℕ) → vals_of (map (λ k. kept bounds (items_named r items) item (place_at shape k)) ks) ≡ items_named r (vals_of (map (λ k. kept bounds items item (place_at shape k)) ks))
    all_kept [] = refl
    all_kept (k ∷ ks) =
        ap (λ v. val v (vals_of (map (λ i. kept bounds (items_named r items) item (place_at shape i)) ks))) (kept_item_named bounds items item (place_at shape k) e)
        ∙ ap (λ vs. val (value_named r (kept bounds items item (place_at shape k))) vs) (all_kept ks)
  resized_named shape item (object o) e = refl
  resized_named shape item (udt number fields) e = refl
  resized_named shape item v e = refl

  pub can_resize_blind : (shape : List Bound) (v : Val) → can_resize shape (value_named r v) ≡ can_resize shape v
  can_resize_blind shape (array bounds of items) = refl
  can_resize_blind shape (object o) = refl
  can_resize_blind shape v = refl

  -- ---- references

  mutual
    pub objects_named : (v : Val) → objects_in (value_named r v) ≡ map r (objects_in v)
    objects_named (object Nothing) = refl
    objects_named (object (Heap id)) = refl
    objects_named (object (Host h)) = refl
    objects_named (array bounds of items) = objects_items_named items
    objects_named (udt number fields) = objects_items_named fields
    objects_named v = refl

    objects_items_named : (vs : Vals) → objects_in_vals (items_named r vs) ≡ map r (objects_in_vals vs)
    objects_items_named no_vals = refl
    objects_items_named (val v vs) =
        ap (λ os. os ++ objects_in_vals (items_named r vs)) (objects_named v) ∙ ap (λ os. map r (objects_in v) ++ os) (objects_items_named vs) ∙ sym (map-append r (objects_in v) (objects_in_vals vs))

  pub objects_values_named : (vs : List Val) → objects_in_values (values_named r vs) ≡ map r (objects_in_values vs)
  objects_values_named [] = refl
  objects_values_named (v ∷ vs) =
      ap (λ os. os ++ objects_in_values (values_named r vs)) (objects_named v) ∙ ap (λ os. map r (objects_in v) ++ os) (objects_values_named vs) ∙ sym (map-append r (objects_in v) (objects_in_values vs))

  -- ---- cells that a value writes

  cell_at_blind : (vs : Vals) (k : ℕ) → cell_at (items_named r vs) k ≡ cell_at vs k
  cell_at_blind no_vals k = refl
  cell_at_blind (val (object o) vs) zero = refl
  cell_at_blind (val v vs) zero = refl
  cell_at_blind (val v vs) (suc k) = cell_at_blind vs k

  gathered_same : {A E : Type 0} (f g : ℕ → Result A E) → ((k : ℕ) → g k ≡ f k) → (n : ℕ) → gathered g n ≡ gathered f n
  gathered_same f g h zero = refl
  gathered_same f g h (suc n) = bind_same (gathered f n) (gathered g n) _ _ (gathered_same f g h n) (λ before. bind_same (f n) (g n) _ _ (h n) (λ last. refl))

  pub cells_blind : (v : Val) (rows columns : ℕ) → cells_of (value_named r v) rows columns ≡ cells_of v rows columns
  cells_blind (array bounds of items) rows columns =
      ap (λ x. if is_large_enough bounds rows columns then x else Err host_error) (gathered_same (given bounds items columns) (given bounds (items_named r items) columns) (λ i. cell_at_blind items (place_in bounds _ _)) (rows * columns))
  cells_blind (object o) rows columns = refl
  cells_blind v rows columns = refl

  -- ---- names that tell objects apart

  module _ (once : (a b : ℕ) → r a ≡ r b → a ≡ b) where
    pub equal_named : (a b : ℕ) → (r a == r b) ≡ (a == b)
    equal_named a b = by_test (a == b) refl where
      by_test : (t : Bool) → (a == b) ≡ t → (r a == r b) ≡ t
      by_test true e = eq-eqb (r a) (r b) (ap r (eqb-true a b e))
      by_test false e = by_other (r a == r b) refl where
        by_other : (t : Bool) → (r a == r b) ≡ t → t ≡ false
        by_other true f = absurd (let no : true ≡ false = sym (eq-eqb a b (once a b (eqb-true (r a) (r b) f))) ∙ e in cc)
        by_other false f = refl

    pub same_object_named : (a b : ObjRef) → same_object (reference_named r a) (reference_named r b) ≡ same_object a b
    same_object_named (Heap a) (Heap b) = equal_named a.0 b.0
    same_object_named (Heap a) Nothing = refl
    same_object_named (Heap a) (Host h) = refl
    same_object_named Nothing (Heap b) = refl
    same_object_named Nothing Nothing = refl
    same_object_named Nothing (Host h) = refl
    same_object_named (Host g) (Heap b) = refl
    same_object_named (Host g) Nothing = refl
    same_object_named (Host g) (Host h) = refl

    pub compared_blind : (v w : Val) → compared_by_is (value_named r v) (value_named r w) ≡ compared_by_is v w
    compared_blind (object a) (object b) = ap (λ t. Ok t) (same_object_named a b)
    compared_blind (object a) w = refl
    compared_blind (array bounds of items) w = refl
    compared_blind (udt number fields) w = refl
    compared_blind v w = refl
