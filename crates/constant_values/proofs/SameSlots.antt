-- What the tests find the same is the same.
use Rattle.std.proofs.Common.{◌≡◌, ℕ, Bool, true, false, ◌&&◌, List, [], ◌∷◌, Option, Some, None, refl, ap, ◌∙◌}
use Rattle.std.specs.Cmp.{booleans_Decides}
use Rattle.std.proofs.lemmas.Bool.{and_parts}
use Rattle.std.proofs.lemmas.Bool.Decides.{Decides-eqb, Decides-int_eq}
use Rattle.std.proofs.lemmas.Slice.Eq.{bytes_eq-Decides}
use Rattle.vba_values.specs.declared.object.ObjRef.{ObjRef}
use Rattle.vba_values.specs.declared.object.ObjRef.TheVariants.{Nothing, Heap, Host}
use Rattle.vba_values.specs.declared.types.WholeKind.{WholeKind}
use Rattle.vba_values.specs.declared.types.WholeKind.TheVariants as kind
use Rattle.vba_values.specs.Types.{Declared}
use Rattle.vba_values.specs.Types as type
use Rattle.vba_values.specs.Val.{Val, empty, null, missing, boolean, whole, currency, text, object, array, udt}
use Rattle.declared_names.specs.binder.specs.Constants.{Known}
use Rattle.constant_values.specs.Slots.{is_nothing, is_same_of, is_same_value, is_same_slot, are_same_slots, are_same_tables}

same_of : (a b : Declared) → is_same_of a b ≡ true → a ≡ b
same_of type.boolean type.boolean h = refl
same_of type.boolean other h = absurd cc
same_of type.byte type.byte h = refl
same_of type.byte other h = absurd cc
same_of type.integer type.integer h = refl
same_of type.integer other h = absurd cc
same_of type.long type.long h = refl
same_of type.long other h = absurd cc
same_of type.long_long type.long_long h = refl
same_of type.long_long other h = absurd cc
same_of type.currency type.currency h = refl
same_of type.currency other h = absurd cc
same_of type.text type.text h = refl
same_of type.text other h = absurd cc
same_of (type.fixed_text m) (type.fixed_text n) h = ap type.fixed_text ((Decides-eqb m n).0 h)
same_of (type.fixed_text m) other h = absurd cc
same_of type.object type.object h = refl
same_of type.object other h = absurd cc
same_of (type.class m) (type.class n) h = ap type.class ((Decides-eqb m n).0 h)
same_of (type.class m) other h = absurd cc
same_of type.collection type.collection h = refl
same_of type.collection other h = absurd cc
same_of type.worksheet type.worksheet h = refl
same_of type.worksheet other h = absurd cc
same_of type.range type.range h = refl
same_of type.range other h = absurd cc
same_of type.variant type.variant h = refl
same_of type.variant other h = absurd cc
same_of (type.udt m) (type.udt n) h = ap type.udt ((Decides-eqb m n).0 h)
same_of (type.udt m) other h = absurd cc
same_of (type.array_of one) other h = absurd cc

same_nothing : (a b : ObjRef) → (is_nothing a && is_nothing b) ≡ true → object a ≡ object b
same_nothing Nothing Nothing h = refl
same_nothing Nothing (Heap b) h = absurd cc
same_nothing Nothing (Host b) h = absurd cc
same_nothing (Heap a) b h = absurd cc
same_nothing (Host a) b h = absurd cc

same_value : (a b : Val) → is_same_value a b ≡ true → a ≡ b
same_value empty empty h = refl
same_value empty other h = absurd cc
same_value null null h = refl
same_value null other h = absurd cc
same_value missing other h = absurd cc
same_value (boolean a) (boolean b) h = ap boolean ((booleans_Decides a b).0 h)
same_value (boolean a) other h = absurd cc
same_value (whole kind.Byte a) (whole kind.Byte b) h = ap (whole kind.Byte) ((Decides-int_eq a b).0 h)
same_value (whole kind.Byte a) (whole kind.Integer b) h = absurd cc
same_value (whole kind.Byte a) (whole kind.Long b) h = absurd cc
same_value (whole kind.Byte a) (whole kind.LongLong b) h = absurd cc
same_value (whole kind.Byte a) empty h = absurd cc
same_value (whole kind.Byte a) null h = absurd cc
same_value (whole kind.Byte a) missing h = absurd cc
same_value (whole kind.Byte a) (boolean b) h = absurd cc
same_value (whole kind.Byte a) (currency b) h = absurd cc
same_value (whole kind.Byte a) (text b) h = absurd cc
same_value (whole kind.Byte a) (object b) h = absurd cc
same_value (whole kind.Byte a) (array b t vs) h = absurd cc
same_value (whole kind.Byte a) (udt b vs) h = absurd cc
same_value (whole kind.Integer a) (whole kind.Byte b) h = absurd cc
same_value (whole kind.Integer a) (whole kind.Integer b) h = ap (whole kind.Integer) ((Decides-int_eq a b).0 h)
same_value (whole kind.Integer a) (whole kind.Long b) h = absurd cc
same_value (whole kind.Integer a) (whole kind.LongLong b) h = absurd cc
same_value (whole kind.Integer a) empty h = absurd cc
same_value (whole kind.Integer a) null h = absurd cc
same_value (whole kind.Integer a) missing h = absurd cc
same_value (whole kind.Integer a) (boolean b) h = absurd cc
same_value (whole kind.Integer a) (currency b) h = absurd cc
same_value (whole kind.Integer a) (text b) h = absurd cc
same_value (whole kind.Integer a) (object b) h = absurd cc
same_value (whole kind.Integer a) (array b t vs) h = absurd cc
same_value (whole kind.Integer a) (udt b vs) h = absurd cc
same_value (whole kind.Long a) (whole kind.Byte b) h = absurd cc
same_value (whole kind.Long a) (whole kind.Integer b) h = absurd cc
same_value (whole kind.Long a) (whole kind.Long b) h = ap (whole kind.Long) ((Decides-int_eq a b).0 h)
same_value (whole kind.Long a) (whole kind.LongLong b) h = absurd cc
same_value (whole kind.Long a) empty h = absurd cc
same_value (whole kind.Long a) null h = absurd cc
same_value (whole kind.Long a) missing h = absurd cc
same_value (whole kind.Long a) (boolean b) h = absurd cc
same_value (whole kind.Long a) (currency b) h = absurd cc
same_value (whole kind.Long a) (text b) h = absurd cc
same_value (whole kind.Long a) (object b) h = absurd cc
same_value (whole kind.Long a) (array b t vs) h = absurd cc
same_value (whole kind.Long a) (udt b vs) h = absurd cc
same_value (whole kind.LongLong a) (whole kind.Byte b) h = absurd cc
same_value (whole kind.LongLong a) (whole kind.Integer b) h = absurd cc
same_value (whole kind.LongLong a) (whole kind.Long b) h = absurd cc
same_value (whole kind.LongLong a) (whole kind.LongLong b) h = ap (whole kind.LongLong) ((Decides-int_eq a b).0 h)
same_value (whole kind.LongLong a) empty h = absurd cc
same_value (whole kind.LongLong a) null h = absurd cc
same_value (whole kind.LongLong a) missing h = absurd cc
same_value (whole kind.LongLong a) (boolean b) h = absurd cc
same_value (whole kind.LongLong a) (currency b) h = absurd cc
same_value (whole kind.LongLong a) (text b) h = absurd cc
same_value (whole kind.LongLong a) (object b) h = absurd cc
same_value (whole kind.LongLong a) (array b t vs) h = absurd cc
same_value (whole kind.LongLong a) (udt b vs) h = absurd cc
same_value (currency a) (currency b) h = ap currency ((Decides-int_eq a b).0 h)
same_value (currency a) other h = absurd cc
same_value (text a) (text b) h = ap text ((bytes_eq-Decides a b).0 h)
same_value (text a) other h = absurd cc
same_value (object a) (object b) h = same_nothing a b h
same_value (object a) other h = absurd cc
same_value (array b t vs) other h = absurd cc
same_value (udt n vs) other h = absurd cc

same_slot : (a b : Option Known) → is_same_slot a b ≡ true → a ≡ b
same_slot None None h = refl
same_slot None (Some b) h = absurd cc
same_slot (Some a) None h = absurd cc
same_slot (Some a) (Some b) h =
    let both = and_parts (is_same_value a.value b.value) (is_same_of a.of b.of) h in
    let v : a.value ≡ b.value = same_value a.value b.value both.0 in
    let o : a.of ≡ b.of = same_of a.of b.of both.1 in
    ap (λ (x : Val). Some (record a { value = x })) v ∙ ap (λ (t : Declared). Some (record b { of = t })) o

-- the same values of names
pub same_slots : (xs ys : List (Option Known)) → are_same_slots xs ys ≡ true → xs ≡ ys
same_slots [] [] h = refl
same_slots [] (b ∷ ys) h = absurd cc
same_slots (a ∷ xs) [] h = absurd cc
same_slots (a ∷ xs) (b ∷ ys) h =
    let both = and_parts (is_same_slot a b) (are_same_slots xs ys) h in
    ap (λ (x : Option Known). x ∷ xs) (same_slot a b both.0) ∙ ap (λ (t : List (Option Known)). b ∷ t) (same_slots xs ys both.1)

-- the same values of all modules
pub same_tables : (xs ys : List (List (Option Known))) → are_same_tables xs ys ≡ true → xs ≡ ys
same_tables [] [] h = refl
same_tables [] (b ∷ ys) h = absurd cc
same_tables (a ∷ xs) [] h = absurd cc
same_tables (a ∷ xs) (b ∷ ys) h =
    let both = and_parts (are_same_slots a b) (are_same_tables xs ys) h in
    ap (λ (x : List (Option Known)). x ∷ xs) (same_slots a b both.0) ∙ ap (λ (t : List (List (Option Known))). b ∷ t) (same_tables xs ys both.1)
