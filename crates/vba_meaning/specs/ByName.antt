-- Members of the host and of Collections whose arguments are named ([MS-VBAL] 5.6.13.1).
use Rattle.std.specs.Prelude.{ℕ, zero, suc, nat_lt, Bool, false, ◌==◌, ◌&&◌, ◌||◌, List, [], ◌∷◌, ◌++◌, codes, if◌then◌else◌, bytes_eq, Option, Some, None, Result, Ok, Err, slice_index_or, take, drop, unwrap_or, option_map}
use Rattle.std.specs.List.{list_any}
use Rattle.vba_values.specs.declared.fault.Bad.{Bad}
use Rattle.vba_values.specs.declared.object.HostRef.{HostRef}
use Rattle.vba_values.specs.declared.object.HostRef.TheVariants as host
use Rattle.vba_values.specs.declared.object.ObjRef.TheVariants.{Nothing, Heap, Host}
use Rattle.vba_values.specs.Val.{Val, empty, missing, object}
use Rattle.sheet_host.specs.declared.members.HostMember.{HostMember}
use Rattle.sheet_host.specs.Members.{member_of, number_of}
use Rattle.bound_project.specs.Expressions.{ByName}
use Rattle.vba_meaning.specs.Memory.{Memory}
use Rattle.vba_meaning.specs.Effects.{Effect, Fine, Bad-at, on_fine, answered}
use Rattle.vba_meaning.specs.Collections.{member_by_name, takes_in_collection, names_in_collection, collection_member}
use Rattle.vba_meaning.specs.Host.{takes, fits_in}

-- the names of a member's parameters, by the member's number; a member that has such must be given the first
abbrev pub parameter_names : HostRef → (number : ℕ) → List (List ℕ)
parameter_names host.ErrObject n = slice_index_or ([] ∷ [] ∷ [] ∷ [] ∷ (codes "number" ∷ codes "source" ∷ codes "description" ∷ []) ∷ []) n []
parameter_names host.Sheets n = slice_index_or ([] ∷ (codes "index" ∷ []) ∷ []) n []
parameter_names (host.Sheet s) n = slice_index_or ([] ∷ [] ∷ (codes "r" ∷ codes "c" ∷ []) ∷ (codes "address" ∷ []) ∷ []) n []
-- Cells, Item, Offset and Resize of a range
parameter_names (host.Area s t l r c) n = if nat_lt 6 n && nat_lt n 11 then codes "r" ∷ codes "c" ∷ [] else []
parameter_names reference n = []

-- the number of the parameter with a name, counted from one on
abbrev pub parameter_named : ℕ → List (List ℕ) → (name : List ℕ) → Option ℕ
parameter_named p [] name = None
parameter_named p (x ∷ xs) name = if bytes_eq x name then Some p else parameter_named (suc p) xs name

-- the numbers of the parameters to which arguments are given by name: none where a name is unknown, or where something
-- is given to a parameter twice
abbrev pub given_once : (before : ℕ) → Option ℕ → Option (List ℕ) → Option (List ℕ)
given_once before (Some p) (Some ps) = if nat_lt p before || list_any (λ q. p == q) ps then None else Some (p ∷ ps)
given_once before p ps = None

abbrev pub parameters_given : (parameters : List (List ℕ)) → (before : ℕ) → (names : List (List ℕ)) → Option (List ℕ)
parameters_given xs before [] = Some []
parameters_given xs before (name ∷ names) = given_once before (parameter_named 0 xs name) (parameters_given xs before names)

-- whether a parameter, by its number, is given an argument by one of these names
abbrev pub is_parameter : (number : ℕ) → Option ℕ → Bool
is_parameter number None = false
is_parameter number (Some p) = number == p

abbrev pub any_given : (parameters : List (List ℕ)) → (number : ℕ) → (names : List (List ℕ)) → Bool
any_given xs number [] = false
any_given xs number (name ∷ names) = is_parameter number (parameter_named 0 xs name) || any_given xs number names

-- a use begins: 450 where the names don't fit, and then 449 where an argument is lacking that the member must have
abbrev pub first_given : (before : ℕ) → List ℕ → Memory → Effect Val
first_given zero ps m = if list_any (λ p. p == 0) ps then Fine empty m else Bad-at 449 m
first_given (suc before) ps m = Fine empty m

abbrev pub named_begun : (parameters : List (List ℕ)) → (takes : List ℕ) → ByName → (given : ℕ) → Memory → Effect Val
named_begun xs takes by k m = at (parameters_given xs by.before by.names)
  where
    at : Option (List ℕ) → Effect Val
    at None = Bad-at 450 m
    at (Some ps) = on_fine (fits_in takes k m) (λ u m1. first_given by.before ps m1)

abbrev pub named_there : (name : List ℕ) → ByName → (given : ℕ) → Val → Memory → Effect Val
named_there name by k (object Nothing) m = Bad-at 91 m
named_there name by k (object (Heap id)) m = on_fine (collection_member id.0 name m) (λ how m1. named_begun (names_in_collection how) (takes_in_collection how) by k m1)
named_there name by k (object (Host r)) m =
    on_fine (answered (member_of r name) m) (λ how m1. named_begun (parameter_names r (number_of how)) (takes r (number_of how)) by k m1)
named_there name by k v m = Bad-at 424 m

-- what a parameter is given, of the arguments that have names: Missing where there is none
abbrev pub value_given : (parameter : ℕ) → List ℕ → List Val → Val
value_given p (q ∷ qs) (v ∷ vs) = if q == p then v else value_given p qs vs
value_given p qs vs = missing

abbrev pub values_given : (first : ℕ) → (parameters : List (List ℕ)) → List ℕ → List Val → List Val
values_given p [] qs vs = []
values_given p (x ∷ xs) qs vs = value_given p qs vs ∷ values_given (suc p) xs qs vs

-- the names of the parameters of a member that there is
abbrev pub names_of_host : HostRef → Result HostMember Bad → List (List ℕ)
names_of_host r (Err bad) = []
names_of_host r (Ok how) = parameter_names r (number_of how)

abbrev pub names_of_member : (base : Val) → (name : List ℕ) → List (List ℕ)
names_of_member (object (Host r)) name = names_of_host r (member_of r name)
names_of_member (object (Heap id)) name = unwrap_or (option_map names_in_collection (member_by_name name)) []
names_of_member base name = []

-- the arguments in the order of the parameters
abbrev pub in_parameter_order : (base : Val) → (name : List ℕ) → ByName → List Val → List Val
in_parameter_order base name by vs =
    let xs = names_of_member base name in
    take by.before vs ++ values_given by.before (drop by.before xs) (unwrap_or (parameters_given xs by.before by.names) []) (drop by.before vs)
