-- What clap's definition finds, and the values that its getters give of it.
use Rattle.std.proofs.Common.{◌≡◌, ℕ, List, [], ◌∷◌, Option, Some, None, true, false, inl, inr, refl, length, ap, ◌∙◌, arith}
use Rattle.std.proofs.lemmas.Bool.{and_parts, ne_eqb}
use Rattle.clap.specs.Faults.{fault_of, is_free_app, is_simple_and_free}
use Rattle.clap.specs.Kinds.{HasKind, Kinds}
use Rattle.clap.specs.Matches.{first_value, found_of}
use Rattle.clap.specs.Simple.{App, HasMatchesOf, built, is_simple}
use Rattle.clap.specs.Values.{kind_of}
use Rattle.clap.specs.Walk.{Text, first_of, is_empty, rows_of}
use Rattle.clap.specs.declared.error.Error.{Error}
use Rattle.clap.specs.declared.error.kind.ErrorKind.TheVariants.{OutOfMemory}
use Rattle.clap.specs.declared.parser.matches.ArgMatches.{ArgMatches}
use Rattle.clap.specs.declared.parser.matches.Found.{Found}
use Rattle.clap.proofs.WalkLemmas.{first_value-rows}
use Rattle.clap.proofs.OnLiterals.{clap_on_literals}
use Rattle.command_words.specs.Words.{check_app, code_app, found_rows, run_app}

-- a value by the rows
pub value_of_row : (found : Found) (id : List ℕ) (value : Option (List ℕ)) → value ≡ first_value found id → value ≡ first_of id (rows_of found)
value_of_row found id value given = given ∙ first_value-rows found id

-- where clap finds no fault, it finds the matches
pub found_matches : (app : App) (words : List Text) (found : ArgMatches) → is_simple_and_free app ≡ true → fault_of app words ≡ []
    → HasMatchesOf app words found → Some (rows_of (found_of found)) ≡ found_rows app words
unfolding found_rows
found_matches app words found simple none given =
    let parts = and_parts (is_simple app) (is_free_app (built app)) simple in
    rw (none, (given parts.0).0) refl

-- a kind that is no want of memory is a fault
some_kind : (kinds : Kinds) (error : Error) → (kind_of error ≡ OutOfMemory → ⊥) → HasKind kinds error → is_empty kinds ≡ false
some_kind [] error other given = elim given [ inl memory ↦ absurd (other memory) | inr nothing ↦ absurd nothing ]
some_kind (kind ∷ kinds) error other given = ne_eqb (length (kind ∷ kinds)) 0 (λ same. omega (arith, same))

pub found_none : (app : App) (words : List Text) (error : Error) → (kind_of error ≡ OutOfMemory → ⊥) → HasKind (fault_of app words) error
    → None ≡ found_rows app words
unfolding found_rows
found_none app words error other given = rw (some_kind (fault_of app words) error other given) refl

-- the definitions are of clap's simple commands
run_simple : is_simple_and_free run_app ≡ true
unfolding clap_on_literals
run_simple = refl

check_simple : is_simple_and_free check_app ≡ true
unfolding clap_on_literals
check_simple = refl

code_simple : is_simple_and_free code_app ≡ true
unfolding clap_on_literals
code_simple = refl

pub run_is_simple : (app : App) → app ≡ run_app → is_simple_and_free app ≡ true
run_is_simple app same = ap is_simple_and_free same ∙ run_simple

pub check_is_simple : (app : App) → app ≡ check_app → is_simple_and_free app ≡ true
check_is_simple app same = ap is_simple_and_free same ∙ check_simple

pub code_is_simple : (app : App) → app ≡ code_app → is_simple_and_free app ≡ true
code_is_simple app same = ap is_simple_and_free same ∙ code_simple
