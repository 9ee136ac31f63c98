-- A type with a number differs from each type of another form.
use Rattle.std.proofs.Common.{◌≡◌, ℕ, false, refl, rules}
use Rattle.std.specs.declared.alloc.Global.{Global}
use Rattle.std.specs.declared.boxed.Box.{Box}
use Rattle.vba_values.specs.declared.types.VType.{VType, the_lemmas}
use Rattle.vba_values.specs.declared.types.VType.TheVariants.{FixedText, Class, Udt, ArrayOf, ArrayOf'}
use Rattle.vba_values.specs.Coerce.{is_same_type}
use Rattle.vba_values.specs.Types.{declared}

fixed_text_is_no_array : (size : ℕ) (element : Box VType Global) → false ≡ is_same_type (declared (FixedText size)) (declared (ArrayOf element))
fixed_text_is_no_array size element = search (rules, the_lemmas)

pub fixed_text_differs : (size : ℕ) (right : VType) → ((n : ℕ) → right ≡ FixedText n → ⊥) → false ≡ is_same_type (declared (FixedText size)) (declared right)
fixed_text_differs size (FixedText n) other = absurd (other n refl)
fixed_text_differs size (ArrayOf' held element) other = fixed_text_is_no_array size record { ptr = held.ptr; alloc = held.alloc; value = element }
fixed_text_differs size right other = search (rules, the_lemmas)

class_is_no_array : (number : ℕ) (element : Box VType Global) → false ≡ is_same_type (declared (Class number)) (declared (ArrayOf element))
class_is_no_array number element = search (rules, the_lemmas)

pub class_differs : (number : ℕ) (right : VType) → ((n : ℕ) → right ≡ Class n → ⊥) → false ≡ is_same_type (declared (Class number)) (declared right)
class_differs number (Class n) other = absurd (other n refl)
class_differs number (ArrayOf' held element) other = class_is_no_array number record { ptr = held.ptr; alloc = held.alloc; value = element }
class_differs number right other = search (rules, the_lemmas)

udt_is_no_array : (place : ℕ) (element : Box VType Global) → false ≡ is_same_type (declared (Udt place)) (declared (ArrayOf element))
udt_is_no_array place element = search (rules, the_lemmas)

pub udt_differs : (place : ℕ) (right : VType) → ((n : ℕ) → right ≡ Udt n → ⊥) → false ≡ is_same_type (declared (Udt place)) (declared right)
udt_differs place (Udt n) other = absurd (other n refl)
udt_differs place (ArrayOf' held element) other = udt_is_no_array place record { ptr = held.ptr; alloc = held.alloc; value = element }
udt_differs place right other = search (rules, the_lemmas)
