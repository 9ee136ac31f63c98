-- The names of a procedure, also those that are declared nowhere: these are Variants of the procedure
-- ([MS-VBAL] 5.6.10).
use Rattle.std.specs.Prelude.{Bool, true, false, ◌||◌, List, [], ◌∷◌, ◌++◌, flat_map, Option, is_some, if◌then◌else◌}
use Rattle.std.specs.List.{list_any}
use Rattle.vba_words.specs.declared.identifier.Identifier.{Identifier}
use Rattle.vba_expression.specs.Tree.{Expr, literal, me, name, with_member, member, index, parenthesised, new, type_of, unary, binary, Args, no_args, missing, plain}
use Rattle.vba_expression.specs.Tree as expr
use Rattle.vba_tree.specs.Tree.{TypeClause}
use Rattle.binder.specs.Declarations.{Written, header_names, an_array, undeclared, Local}
use Rattle.binder.specs.Said.{Said, declares, expression, redimmed, said_in_body}
use Rattle.binder.specs.Said as say
use Rattle.binder.specs.Scopes.{Outside, Space, Scope, Use, plainly, before_dot, is_named}
use Rattle.binder.specs.Scopes as scope

abbrev mutual
  -- the names that an expression uses in another way than by a call or an index, in text order
  pub names_used : Use → Expr → List (Use × Identifier)
  names_used how (literal l) = []
  names_used how (me token) = []
  names_used how (name x) = (how, x) ∷ []
  names_used how (with_member dot x) = []
  names_used how (member base dot x) = names_used before_dot base
  names_used how (index (name f) left args right) = names_in_args args
  names_used how (index base left args right) = names_used plainly base ++ names_in_args args
  names_used how (parenthesised left e right) = names_used plainly e
  names_used how (new new_word t) = []
  names_used how (type_of type_of_word e is_word t) = names_used plainly e
  names_used how (unary operator token e) = names_used plainly e
  names_used how (binary l operator token r) = names_used plainly l ++ names_used plainly r

  pub names_in_args : Args → List (Use × Identifier)
  names_in_args no_args = []
  names_in_args (missing before comma) = names_in_args before
  names_in_args (plain before comma e) = names_in_args before ++ names_used plainly e
  names_in_args (expr.named before comma x mark e) = names_in_args before ++ names_used plainly e

abbrev pub names_called : Expr → List (Use × Identifier)
names_called (name x) = []
names_called e = names_used plainly e

-- the names that are declared by their use, where they are declared nowhere else; a ReDim says what they are
pub data Using : Type 0 where
  by_declaration : Local → Using
  by_redim : Identifier → Option TypeClause → Using
  by_use : Use → Identifier → Using

abbrev pub uses_of : List (Use × Identifier) → List Using
uses_of [] = []
uses_of (x ∷ xs) = by_use x.0 x.1 ∷ uses_of xs

abbrev pub redim_uses : Expr → Option TypeClause → List Using
redim_uses (name x) clause = by_redim x clause ∷ []
redim_uses e clause = uses_of (names_used plainly e)

abbrev pub usings : Said → List Using
usings (declares l) = by_declaration l ∷ []
usings (expression e) = uses_of (names_used plainly e)
usings (say.called e) = uses_of (names_called e)
usings (redimmed e clause) = redim_uses e clause
usings other = []

-- the names of a list of declarations
abbrev pub has_name : List Local → Identifier → Bool
has_name ls x = list_any (λ (l : Local). is_named x.name l.name) ls

abbrev pub declared_here : List Using → List Local
declared_here [] = []
declared_here (by_declaration l ∷ us) = l ∷ declared_here us
declared_here (u ∷ us) = declared_here us

abbrev pub has_redim : List Using → Identifier → Bool
has_redim [] x = false
has_redim (by_redim y clause ∷ us) x = if is_named x.name y then true else has_redim us x
has_redim (u ∷ us) x = has_redim us x

-- the names of a body in text order, those before them told: each undeclared one at its first use, or at its first ReDim
abbrev pub arranged : Bool → (known : Use → Identifier → Bool) → List Using → (before : List Local) → List Using → List Local
arranged static known all before [] = []
arranged static known all before (by_declaration l ∷ us) = l ∷ arranged static known all (l ∷ before) us
arranged static known all before (by_redim x clause ∷ us) =
    if known plainly x || has_name before x then arranged static known all before us
    else let l : Local = record { name = x; own = an_array clause static } in l ∷ arranged static known all (l ∷ before) us
arranged static known all before (by_use how x ∷ us) =
    if known how x || (has_name before x || has_redim all x) then arranged static known all before us
    else let l : Local = record { name = x; own = undeclared static } in l ∷ arranged static known all (l ∷ before) us

-- the scope of a module's own declarations
abbrev pub scope_of : Outside → List Space → Space → Scope
scope_of o spaces here = record { outside = o; spaces = spaces; here = here; locals = [] }

-- all names of a procedure of a module: its result, its parameters, its own variables and constants
abbrev pub locals_of : Scope → Written → List Local
locals_of s p =
    let us = flat_map usings (said_in_body p) in
    let s1 : Scope = record s { locals = header_names p ++ declared_here us } in
    header_names p ++ arranged (is_some p.static_word) (λ how x. is_some (scope.declares how s1 x)) us [] us

abbrev pub scope_in : Scope → Written → Scope
scope_in s p = record s { locals = locals_of s p }
