-- Answers that may be missing.
use Rattle.std.specs.Prelude.{Option, Some, None}

-- the first that is there
abbrev pub or_else : {A : Type 0} → Option A → Option A → Option A
or_else None other = other
or_else (Some x) other = Some x

-- what two or three answers give where each is there
abbrev pub from_two : {A B C : Type 0} → (A → B → C) → Option A → Option B → Option C
from_two f (Some a) (Some b) = Some (f a b)
from_two f a b = None

abbrev pub from_three : {A B C D : Type 0} → (A → B → C → D) → Option A → Option B → Option C → Option D
from_three f (Some a) (Some b) (Some c) = Some (f a b c)
from_three f a b c = None
