-- What functions of the library answer under other names.
use Rattle.std.proofs.Common.{◌≡◌, ℕ, suc, Bool, true, false, List, [], ◌∷◌, length, Result, Ok, Err, ℤ, pos, negsuc, refl, sym, ap, ◌∙◌}
use Rattle.std.specs.Prelude.{◌&&◌, ◌||◌, not, nat_lt, ◌+ℤ◌, ◌-ℤ◌, if◌then◌else◌}
use Rattle.std.specs.List.{list_any}
use Rattle.arrays_udt.specs.Errors.{too_many_elements}
use Rattle.currency.specs.NumberText.{blank}
use Rattle.vba_base.specs.Answer.{◌>>=◌}
use Rattle.vba_values.specs.declared.fault.Bad.{Bad}
use Rattle.vba_values.specs.declared.object.ObjRef.TheVariants.{Nothing, Heap, Host}
use Rattle.vba_values.specs.declared.types.Compare.{Compare}
use Rattle.vba_values.specs.declared.types.Compare.TheVariants.{Binary}
use Rattle.vba_values.specs.declared.types.WholeKind.TheVariants as kind
use Rattle.vba_values.specs.declared.value.Bound.{Bound}
use Rattle.vba_values.specs.Types.{Declared}
use Rattle.vba_values.specs.Types as type
use Rattle.vba_values.specs.Val.{Val, Vals, boolean, whole, text, object, array, udt, no_vals, val, vals_of}
use Rattle.vba_values.specs.Coerce.{to_boolean, text_of, to_whole}
use Rattle.vba_values.specs.Operands.{is_null}
use Rattle.vba_lib.specs.declared.function.LibraryFunction.{LibraryFunction}
use Rattle.vba_lib.specs.declared.function.LibraryFunction.TheVariants as function
use Rattle.vba_lib.specs.Arguments.{long_of}
use Rattle.vba_lib.specs.Arrays.{bounds_of, bound_of, u_bound, l_bound, array_from, texts_of, join_by}
use Rattle.vba_lib.specs.Characters.{unit_of, repeated_unit}
use Rattle.vba_lib.specs.Searching.{in_str_from, replace, str_comp_by}
use Rattle.vba_lib.specs.Texts.{mid_of_length}
use Rattle.vba_lib.specs.Library.{takes_null, of_null, kept, chosen_of, of_one, of_two, of_three, of_four, of_arguments, is_array_function, library_of}
use Rattle.object_lives.proofs.Values.{free_in}
use Rattle.object_lives.proofs.LibraryValues.{one_in, two_free, mid_free, in_str_free, replace_free, str_comp_free, four_free, null_free}
use Rattle.object_names.specs.Names.{value_named, items_named, values_named}
use Rattle.object_names.proofs.NamedValues.{bind_same, answer_named, free_answer, free_same, if_answer, text_blind, whole_blind, boolean_blind, null_blind, vals_of_named}

module _ (r : ℕ → ℕ) where
  long_blind : (v : Val) → long_of (value_named r v) ≡ long_of v
  long_blind v = bind_same (to_whole kind.Long v) (to_whole kind.Long (value_named r v)) _ _ (whole_blind r kind.Long v) (λ w. refl)

  bounds_blind : (v : Val) → bounds_of (value_named r v) ≡ bounds_of v
  bounds_blind (array bounds of items) = refl
  bounds_blind (object o) = refl
  bounds_blind v = refl

  bound_blind : (v : Val) (z : ℤ) → bound_of (value_named r v) z ≡ bound_of v z
  bound_blind v z = bind_same (bounds_of v) (bounds_of (value_named r v)) _ _ (bounds_blind v) (λ bounds. refl)

  upper_blind : (v : Val) (z : ℤ) → u_bound (value_named r v) z ≡ u_bound v z
  upper_blind v z = bind_same (bound_of v z) (bound_of (value_named r v) z) _ _ (bound_blind v z) (λ b. refl)

  lower_blind : (v : Val) (z : ℤ) → l_bound (value_named r v) z ≡ l_bound v z
  lower_blind v z = bind_same (bound_of v z) (bound_of (value_named r v) z) _ _ (bound_blind v z) (λ b. refl)

  texts_blind : (vs : Vals) → texts_of (items_named r vs) ≡ texts_of vs
  texts_blind no_vals = refl
  texts_blind (val v vs) = bind_same (text_of v) (text_of (value_named r v)) _ _ (text_blind r v) (λ units. bind_same (texts_of vs) (texts_of (items_named r vs)) _ _ (texts_blind vs) (λ texts. refl))

  elements_blind : (by : List ℕ) (bounds : List Bound) (of : Declared) (items : Vals) → join_by by (array bounds of (items_named r items)) ≡ join_by by (array bounds of items)
  elements_blind by [] of items = refl
  elements_blind by (b ∷ []) of items = bind_same (texts_of items) (texts_of (items_named r items)) _ _ (texts_blind items) (λ texts. refl)
  elements_blind by (b ∷ c ∷ bounds) of items = refl

  join_blind : (by : List ℕ) (v : Val) → join_by by (value_named r v) ≡ join_by by v
  join_blind by (array bounds of items) = elements_blind by bounds of items
  join_blind by (object o) = refl
  join_blind by v = refl

  unit_blind : (v : Val) → unit_of (value_named r v) ≡ unit_of v
  unit_blind (object o) = refl
  unit_blind (array bounds of items) = refl
  unit_blind (udt number fields) = refl
  unit_blind v = refl

  repeated_blind : (z : ℤ) (v : Val) → repeated_unit z (value_named r v) ≡ repeated_unit z v
  repeated_blind (pos n) v = bind_same (unit_of v) (unit_of (value_named r v)) _ _ (unit_blind v) (λ unit. refl)
  repeated_blind (negsuc n) v = refl

  -- ---- by the number of arguments

  one_named : (f : LibraryFunction) (v : Val) → of_one f (value_named r v) ≡ answer_named r (of_one f v)
  one_named function.Join (array bounds of items) = free_same r (join_by (blank ∷ []) (array bounds of items)) _ (elements_blind (blank ∷ []) bounds of items) (free_in [] (join_by (blank ∷ []) (array bounds of items)) (two_free function.Join Binary (array bounds of items) (text (blank ∷ []))))
  one_named function.UBound (array bounds of items) = free_same r (u_bound (array bounds of items) (pos 1)) _ refl (free_in [] (u_bound (array bounds of items) (pos 1)) (two_free function.UBound Binary (array bounds of items) (whole kind.Long (pos 1))))
  one_named function.LBound (array bounds of items) = free_same r (l_bound (array bounds of items) (pos 1)) _ refl (free_in [] (l_bound (array bounds of items) (pos 1)) (two_free function.LBound Binary (array bounds of items) (whole kind.Long (pos 1))))
  one_named f (array bounds of items) = refl
  one_named function.Len (object (Heap id)) = refl
  one_named f (object (Heap id)) = refl
  one_named function.Len (object Nothing) = refl
  one_named f (object Nothing) = refl
  one_named function.Len (object (Host h)) = refl
  one_named f (object (Host h)) = refl
  one_named function.Len (udt number fields) = refl
  one_named f (udt number fields) = refl
  one_named f v = sym (free_answer r (of_one f v) (one_in f v))

  text_then : {B : Type 0} {f g : List ℕ → Result B Bad} (v : Val) → ((t : List ℕ) → g t ≡ f t) → (text_of (value_named r v) >>= g) ≡ (text_of v >>= f)
  text_then v h = bind_same (text_of v) (text_of (value_named r v)) _ _ (text_blind r v) h

  long_then : {B : Type 0} {f g : ℤ → Result B Bad} (v : Val) → ((z : ℤ) → g z ≡ f z) → (long_of (value_named r v) >>= g) ≡ (long_of v >>= f)
  long_then v h = bind_same (long_of v) (long_of (value_named r v)) _ _ (long_blind v) h

  two_blind : (f : LibraryFunction) (compare : Compare) (v w : Val) → of_two f compare (value_named r v) (value_named r w) ≡ of_two f compare v w
  two_blind function.Left compare v w = text_then v (λ t. long_then w (λ z. refl))
  two_blind function.Right compare v w = text_then v (λ t. long_then w (λ z. refl))
  two_blind function.Mid compare v w = text_then v (λ t. long_then w (λ z. refl))
  two_blind function.InStr compare v w = text_then v (λ t. text_then w (λ u. refl))
  two_blind function.String compare v w = long_then v (λ z. repeated_blind z w)
  two_blind function.Split compare v w = text_then v (λ t. text_then w (λ u. refl))
  two_blind function.Join compare v w = text_then w (λ u. join_blind u v)
  two_blind function.UBound compare v w = long_then w (λ z. upper_blind v z)
  two_blind function.LBound compare v w = long_then w (λ z. lower_blind v z)
  two_blind function.StrComp compare v w = text_then v (λ t. text_then w (λ u. refl))
  two_blind f compare v w = refl

  pub two_named : (f : LibraryFunction) (compare : Compare) (v w : Val) → of_two f compare (value_named r v) (value_named r w) ≡ answer_named r (of_two f compare v w)
  two_named f compare v w = free_same r (of_two f compare v w) _ (two_blind f compare v w) (free_in [] (of_two f compare v w) (two_free f compare v w))

  kept_named : (v : Val) → kept (value_named r v) ≡ answer_named r (kept v)
  kept_named (text units) = if_answer r (nat_lt 16777216 (length units)) (Err _) (Ok (text units))
  kept_named (object o) = refl
  kept_named (array bounds of items) = refl
  kept_named (udt number fields) = refl
  kept_named v = refl

  chosen_named : (test v w : Val) → kept (chosen_of test (value_named r v) (value_named r w)) ≡ answer_named r (kept (chosen_of test v w))
  chosen_named (boolean true) v w = kept_named v
  chosen_named (boolean false) v w = kept_named w
  chosen_named test v w = kept_named w

  chosen_behind : (x : Result Val Bad) (v w : Val) → (x >>= λ t. kept (chosen_of t (value_named r v) (value_named r w))) ≡ answer_named r (x >>= λ t. kept (chosen_of t v w))
  chosen_behind (Ok t) v w = chosen_named t v w
  chosen_behind (Err bad) v w = refl

  three_named : (f : LibraryFunction) (compare : Compare) (v w x : Val) → of_three f compare (value_named r v) (value_named r w) (value_named r x) ≡ answer_named r (of_three f compare v w x)
  three_named function.Mid compare v w x =
      free_same r (mid_of_length v w x) _ (text_then v (λ t. long_then w (λ z. long_then x (λ n. refl)))) (free_in [] (mid_of_length v w x) (mid_free v w x))
  three_named function.InStr compare v w x =
      free_same r (in_str_from compare v w x) _ (long_then v (λ z. text_then w (λ t. text_then x (λ u. refl)))) (free_in [] (in_str_from compare v w x) (in_str_free compare v w x))
  three_named function.Replace compare v w x = free_same r (replace v w x) _ (text_then v (λ t. text_then w (λ u. text_then x (λ new. refl)))) (free_in [] (replace v w x) (replace_free v w x))
  three_named function.StrComp compare v w x =
      free_same r (str_comp_by compare v w x) _ (text_then v (λ t. text_then w (λ u. long_then x (λ n. refl)))) (free_in [] (str_comp_by compare v w x) (str_comp_free compare v w x))
  three_named function.IIf compare v w x =
      bind_same (to_boolean v) (to_boolean (value_named r v)) (λ t. kept (chosen_of t (value_named r w) (value_named r x))) _ (boolean_blind r v) (λ t. refl) ∙ chosen_behind (to_boolean v) w x
  three_named f compare v w x = refl

  four_blind : (f : LibraryFunction) (compare : Compare) (v w x y : Val) → of_four f compare (value_named r v) (value_named r w) (value_named r x) (value_named r y) ≡ of_four f compare v w x y
  four_blind function.InStr compare v w x y = long_then v (λ z. text_then w (λ t. text_then x (λ u. long_then y (λ n. refl))))
  four_blind f compare v w x y = refl

  arguments_named : (f : LibraryFunction) (compare : Compare) (vs : List Val) → of_arguments f compare (values_named r vs) ≡ answer_named r (of_arguments f compare vs)
  arguments_named f compare [] = refl
  arguments_named f compare (v ∷ []) = one_named f v
  arguments_named f compare (v ∷ w ∷ []) = two_named f compare v w
  arguments_named f compare (v ∷ w ∷ x ∷ []) = three_named f compare v w x
  arguments_named f compare (v ∷ w ∷ x ∷ y ∷ []) =
      free_same r (of_four f compare v w x y) _ (four_blind f compare v w x y) (free_in [] (of_four f compare v w x y) (four_free f compare v w x y))
  arguments_named f compare (v ∷ w ∷ x ∷ y ∷ z ∷ vs) = refl

  length_named : (vs : List Val) → length (values_named r vs) ≡ length vs
  length_named [] = refl
  length_named (v ∷ vs) = ap suc (length_named vs)

  array_named : (base : ℤ) (of : Declared) (vs : List Val) → array_from base of (values_named r vs) ≡ answer_named r (array_from base of vs)
  array_named base of vs =
      ap (λ n. made n (vals_of (values_named r vs))) (length_named vs) ∙ ap (λ items. made (length vs) items) (vals_of_named r vs)
      ∙ if_answer r (nat_lt 1048576 (length vs)) (Err too_many_elements) (Ok (array (record { low = base; high = base +ℤ pos (length vs) -ℤ pos 1 } ∷ []) of (vals_of vs)))
    where
      made : ℕ → Vals → Result Val Bad
      made n items = if nat_lt 1048576 n then Err too_many_elements else Ok (array (record { low = base; high = base +ℤ pos n -ℤ pos 1 } ∷ []) of items)

  any_null : (vs : List Val) → list_any is_null (values_named r vs) ≡ list_any is_null vs
  any_null [] = refl
  any_null (v ∷ vs) = ap (λ b. b || list_any is_null (values_named r vs)) (null_blind r v) ∙ ap (λ b. is_null v || b) (any_null vs)

  pub library_named : (f : LibraryFunction) (text_form : Bool) (vs : List Val) (compare : Compare) (base : ℤ) → library_of f text_form (values_named r vs) compare base ≡ answer_named r (library_of f text_form vs compare base)
  library_named f text_form vs compare base =
      ap (λ b. asked (not (takes_null f) && b) (values_named r vs)) (any_null vs) ∙ by_null (not (takes_null f) && list_any is_null vs)
    where
      asked : Bool → List Val → Result Val Bad
      asked b ws = if b then of_null f text_form else if is_array_function f then array_from base type.variant ws else of_arguments f compare ws

      by_kind : (b : Bool) → (if b then array_from base type.variant (values_named r vs) else of_arguments f compare (values_named r vs)) ≡ answer_named r (if b then array_from base type.variant vs else of_arguments f compare vs)
      by_kind true = array_named base type.variant vs
      by_kind false = arguments_named f compare vs

      by_null : (b : Bool) → asked b (values_named r vs) ≡ answer_named r (asked b vs)
      by_null true = sym (free_answer r (of_null f text_form) (free_in [] (of_null f text_form) (null_free f text_form)))
      by_null false = by_kind (is_array_function f)
