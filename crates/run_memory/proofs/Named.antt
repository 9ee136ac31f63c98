-- TypeName: the names that the project tells.
use Rattle.std.proofs.Common.{◌≡◌, ℕ, List, [], ◌∷◌, length, refl, ap}
use Rattle.std.specs.Prelude.{Option, Some, None, Ok}
use Rattle.vba_values.specs.Val.{Val, text}
use Rattle.vba_lib.specs.declared.function.LibraryFunction.{LibraryFunction}
use Rattle.vba_lib.specs.declared.function.LibraryFunction.TheVariants as function
use Rattle.bound_project.specs.Project.{Declarations}
use Rattle.vba_meaning.specs.Memory.{Memory}
use Rattle.run_memory.specs.Named.{Named, Told}

-- all others are the library's
pub other_function : (d : Declarations) (f : LibraryFunction) (vs : List Val) (m : Memory) → (f ≡ function.TypeName → ⊥) → Told d f vs m None
other_function d function.Len vs m h = λ t c b. refl
other_function d function.Left vs m h = λ t c b. refl
other_function d function.Right vs m h = λ t c b. refl
other_function d function.Mid vs m h = λ t c b. refl
other_function d function.InStr vs m h = λ t c b. refl
other_function d function.UCase vs m h = λ t c b. refl
other_function d function.LCase vs m h = λ t c b. refl
other_function d function.Trim vs m h = λ t c b. refl
other_function d function.LTrim vs m h = λ t c b. refl
other_function d function.RTrim vs m h = λ t c b. refl
other_function d function.Space vs m h = λ t c b. refl
other_function d function.String vs m h = λ t c b. refl
other_function d function.ChrW vs m h = λ t c b. refl
other_function d function.AscW vs m h = λ t c b. refl
other_function d function.Chr vs m h = λ t c b. refl
other_function d function.Asc vs m h = λ t c b. refl
other_function d function.Replace vs m h = λ t c b. refl
other_function d function.Split vs m h = λ t c b. refl
other_function d function.Join vs m h = λ t c b. refl
other_function d function.UBound vs m h = λ t c b. refl
other_function d function.LBound vs m h = λ t c b. refl
other_function d function.IsEmpty vs m h = λ t c b. refl
other_function d function.IsNull vs m h = λ t c b. refl
other_function d function.IsObject vs m h = λ t c b. refl
other_function d function.IsArray vs m h = λ t c b. refl
other_function d function.IsMissing vs m h = λ t c b. refl
other_function d function.TypeName vs m h = absurd (h refl)
other_function d function.VarType vs m h = λ t c b. refl
other_function d function.Abs vs m h = λ t c b. refl
other_function d function.Int vs m h = λ t c b. refl
other_function d function.Fix vs m h = λ t c b. refl
other_function d function.Sgn vs m h = λ t c b. refl
other_function d function.Hex vs m h = λ t c b. refl
other_function d function.Oct vs m h = λ t c b. refl
other_function d function.StrComp vs m h = λ t c b. refl
other_function d function.StrReverse vs m h = λ t c b. refl
other_function d function.Array vs m h = λ t c b. refl
other_function d function.IIf vs m h = λ t c b. refl
other_function d function.CByte vs m h = λ t c b. refl
other_function d function.CInt vs m h = λ t c b. refl
other_function d function.CLng vs m h = λ t c b. refl
other_function d function.CLngLng vs m h = λ t c b. refl
other_function d function.CCur vs m h = λ t c b. refl
other_function d function.CBool vs m h = λ t c b. refl
other_function d function.CStr vs m h = λ t c b. refl
other_function d function.CVar vs m h = λ t c b. refl

-- so is TypeName of no value or of many
pub not_one : (d : Declarations) (vs : List Val) (m : Memory) → (length vs ≡ 1 → ⊥) → Told d function.TypeName vs m None
not_one d [] m h = λ t c b. refl
not_one d (v ∷ []) m h = absurd (h refl)
not_one d (v ∷ w ∷ vs) m h = λ t c b. refl

-- of one value
pub one_named : (d : Declarations) (v : Val) (m : Memory) (o : Option (List ℕ)) → Named d v m o → Told d function.TypeName (v ∷ []) m o
one_named d v m None h = λ t c b. ap (λ n. Ok (text n)) h
one_named d v m (Some name) h = λ t c b. ap (λ n. Ok (text n)) h
