-- Worked rows of reference counts.
use Rattle.std.specs.Prelude.{◌≡◌, ℕ, zero, suc, List, [], ◌∷◌, codes, None, refl}
use Rattle.vba_values.specs.declared.object.ObjRef.TheVariants.{Nothing}
use Rattle.vba_values.specs.Types.{Declared}
use Rattle.vba_values.specs.Types as type
use Rattle.vba_values.specs.Val.{object}
use Rattle.bound_project.specs.Expressions.{Variable, Expr, constant, new_object, host_member, variable, also, no_exprs}
use Rattle.bound_project.specs.Statements.{Action, set, evaluate}
use Rattle.bound_project.specs.Project.{Project, no_name}
use Rattle.vba_meaning.proofs.Programs.{e, n, v, sub, flat, program, of_type}
use Rattle.pcode.specs.Layout.{code_of}
use Rattle.object_counts.specs.Counts.{count_of}
use Rattle.object_counts.specs.Counting.{Outcome, Running, Finished, Jammed, run_counted}

abbrev a_class : Declared
a_class = type.class 1

abbrev x : ℕ → Variable
x i = of_type i a_class

abbrev nothing : Expr
nothing = e type.object (constant (object Nothing))

-- Set a = New C ¶ Set b = a ¶ Set a = Nothing ¶ Set b = Nothing
abbrev stored_twice : Project
stored_twice =
    let pr : Project = program [] ((sub (a_class ∷ a_class ∷ []), flat 0 (set (variable (x 1)) (e a_class (new_object 1)) ∷ set (variable (x 2)) (v (x 1)) ∷ set (variable (x 1)) nothing ∷ set (variable (x 2)) nothing ∷ [])) ∷ []) in
    record pr { declared = record pr.declared { classes = record { name = no_name; fields = []; initialize = None; terminate = None; members = []; default = None; enumerator = None; events = []; with_events = []; handlers = [] } ∷ [] } }

abbrev counts_in : Outcome → List ℕ
counts_in (Running counts c) = counts
counts_in (Finished counts e s es) = counts
counts_in Jammed = []

abbrev counts_of : Project → (steps : ℕ) → List ℕ
counts_of pr k = counts_in (run_counted (code_of pr) [] 50 k)

abbrev counts_after : (steps : ℕ) → List ℕ
counts_after k = counts_of stored_twice k

-- the count of the object, from a number of steps on, after so many more
abbrev counted_from : (steps more : ℕ) → List ℕ
counted_from k zero = []
counted_from k (suc n) = count_of (counts_after k) 1 ∷ counted_from (suc k) n

-- New is held and then stored; b = a holds what it reads, and stores it; at each statement's end what it held is let go
pub each_step : counted_from 0 31 ≡
    0 ∷ 0 ∷ 1 ∷ 1 ∷ 1 ∷ 2 ∷ 2 ∷ 1 ∷ 1 ∷ 1 ∷ 1 ∷ 2 ∷ 2 ∷ 3 ∷ 3 ∷ 2 ∷ 2 ∷ 2 ∷ 2 ∷ 2 ∷ 2 ∷ 2 ∷ 1 ∷ 1 ∷ 1 ∷ 1 ∷ 1 ∷ 1 ∷ 1 ∷ 0 ∷ 0 ∷ []
each_step = refl

-- at the end of each statement
pub each_statement : count_of (counts_after 8) 1 ∷ count_of (counts_after 16) 1 ∷ count_of (counts_after 23) 1 ∷ count_of (counts_after 30) 1 ∷ [] ≡ 1 ∷ 2 ∷ 1 ∷ 0 ∷ []
each_statement = refl

-- Set x = New Collection ¶ x.Add New C ¶ x.Remove 1
abbrev any : Variable
any = of_type 1 type.variant

abbrev used : List ℕ → Expr → Action
used name a = evaluate (e type.variant (host_member (v any) name (also a no_exprs)))

abbrev collected : Project
collected =
    let pr : Project = program [] ((sub (type.variant ∷ []), flat 0 (set (variable any) (e type.collection (new_object 0)) ∷ used (codes "add") (e a_class (new_object 1)) ∷ used (codes "remove") (n 1) ∷ [])) ∷ []) in
    record pr { declared = record pr.declared { classes = record { name = no_name; fields = []; initialize = None; terminate = None; members = []; default = None; enumerator = None; events = []; with_events = []; handlers = [] } ∷ [] } }

-- the counts of the Collection and of its item
abbrev both_after : (steps : ℕ) → List ℕ
both_after k = count_of (counts_of collected k) 1 ∷ count_of (counts_of collected k) 2 ∷ []

-- at the end of each statement; and Remove lets the item go inside its statement, which still holds the Collection
pub each_collected : both_after 8 ∷ both_after 21 ∷ both_after 27 ∷ both_after 28 ∷ both_after 33 ∷ [] ≡ (1 ∷ 0 ∷ []) ∷ (1 ∷ 1 ∷ []) ∷ (2 ∷ 1 ∷ []) ∷ (2 ∷ 0 ∷ []) ∷ (1 ∷ 0 ∷ []) ∷ []
each_collected = refl
