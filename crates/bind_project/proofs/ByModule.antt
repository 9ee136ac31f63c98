-- Modules are bound procedure by procedure.
use Rattle.std.proofs.Common.{◌≡◌, ℕ, Bool, true, false, List, [], ◌∷◌, ◌++◌, append_assoc, refl, ◌∙◌, sym, ap, subst}
use Rattle.std.specs.Prelude.{Option, Some, None, option_map}
use Rattle.std.proofs.lemmas.List.{append-nil}
use Rattle.vba_module.specs.Parts.{Part, label, statement, whole_line, place_of}
use Rattle.vba_tree.specs.Tree.{procedure_header}
use Rattle.bound_project.specs.Project.{Body}
use Rattle.bound_project.specs.Drafts.{Drafted}
use Rattle.binder.specs.Options.{from_two, or_else}
use Rattle.binder.specs.Declarations.{Written}
use Rattle.binder.specs.Scopes.{Outside, Space, Scope}
use Rattle.binder.specs.Blocks.{blocks_in}
use Rattle.binder.specs.Names.{scope_of}
use Rattle.binder.specs.Constants.{home}
use Rattle.bound_names.specs.bound_members.specs.bound_calls.specs.bound_forms.specs.Bind.{around_of, body_with, bodies_of, all_bodies, is_built_part, place_unless, left_in_body, left_in_parts, left_in_space, left_in_spaces}
use Rattle.binder.specs.Projects.{numbered, no_space}
use Rattle.statement_nodes.specs.Walks.{BodyAdded}
use Rattle.bind_project.specs.Modules.{is_header, with_bodies, IsFront, ProcedureAdded, PartsWalked, PartsAdded, SpaceAdded, SpacesWalked, SpacesAdded}

joined : (x y z : List Body) → (x ++ y) ++ z ≡ x ++ (y ++ z)
joined x y z = rw append_assoc

with_none : (x : Option (List Body)) → with_bodies [] x ≡ x
with_none None = refl
with_none (Some x) = refl

with_more : (xs ys : List Body) (o : Option (List Body)) → with_bodies xs (with_bodies ys o) ≡ with_bodies (xs ++ ys) o
with_more xs ys None = refl
with_more xs ys (Some zs) = ap Some (sym (joined xs ys zs))

one_body : (b : Body) (o : Option (List Body)) → from_two (λ x xs. x ∷ xs) (Some b) o ≡ with_bodies (b ∷ []) o
one_body b None = refl
one_body b (Some xs) = refl

-- a body that was bound is ended
pub procedure_ends : (s : Scope) (p : ℕ × Written) (d e f : Drafted) → IsFront d → BodyAdded (around_of s p) (around_of s p).parts d e
    → f ≡ record e { statements = []; bodies = e.bodies ++ record { statements = e.statements; blocks = blocks_in (around_of s p).parts (around_of s p).parts } ∷ [] }
    → ProcedureAdded s p d f
procedure_ends s p d e f front b is =
    let parts = (around_of s p).parts in
    let added = b.added in
    let statements : e.statements ≡ added.made = added.statements ∙ ap (λ xs. xs ++ added.made) front.statements in
    record {
      none_left = b.none_left;
      made = body_with parts e.statements;
      is = ap (option_map (body_with parts)) added.is ∙ ap (λ xs. Some (body_with parts xs)) (sym statements);
      bodies = ap (λ (x : Drafted). x.bodies) is ∙ ap (λ bs. bs ++ body_with parts e.statements ∷ []) added.bodies;
      front = record { statements = ap (λ (x : Drafted). x.statements) is; pieces = ap (λ (x : Drafted). x.pieces) is ∙ added.pieces };
    }

pub parts_begin : (s : Scope) (ps : List (ℕ × Written)) (parts : List Part) (d : Drafted) → IsFront d → PartsWalked s ps parts d ps parts d
parts_begin s ps parts d front = record {
  left_is = refl;
  made = [];
  made_is = λ others. sym (with_none (bodies_of s ps others));
  bodies = sym (append-nil d.bodies);
  front = front;
}

pub parts_end : (s : Scope) (all : List (ℕ × Written)) (parts : List Part) (d e : Drafted) → PartsWalked s all parts d [] [] e → PartsAdded s all parts d e
parts_end s all parts d e w = record { none_left = w.left_is; made = w.made; made_is = w.made_is; bodies = w.bodies; front = w.front }

-- behind the header of a procedure that was bound
pub header_goes_on : (s : Scope) (all : List (ℕ × Written)) (parts : List Part) (d : Drafted) (p : ℕ × Written) (ps : List (ℕ × Written)) (part : Part) (left : List Part) (e f : Drafted)
    → PartsWalked s all parts d (p ∷ ps) (part ∷ left) e → left_in_parts s (p ∷ ps) (part ∷ left) ≡ left_in_parts s ps left → ProcedureAdded s p e f
    → PartsWalked s all parts d ps left f
header_goes_on s all parts d p ps part left e f w next added = record {
  left_is = w.left_is ∙ next;
  made = w.made ++ added.made ∷ [];
  made_is = λ others.
      w.made_is others
      ∙ (ap (λ o. with_bodies w.made (from_two (λ x xs. x ∷ xs) o (bodies_of s ps others))) added.is
      ∙ (ap (with_bodies w.made) (one_body added.made (bodies_of s ps others)) ∙ with_more w.made (added.made ∷ []) (bodies_of s ps others)));
  bodies = added.bodies ∙ (ap (λ bs. bs ++ added.made ∷ []) w.bodies ∙ joined d.bodies w.made (added.made ∷ []));
  front = added.front;
}

-- behind another part
pub part_goes_on : (s : Scope) (all : List (ℕ × Written)) (parts : List Part) (d : Drafted) (ps : List (ℕ × Written)) (part : Part) (left : List Part) (e : Drafted)
    → PartsWalked s all parts d ps (part ∷ left) e → left_in_parts s ps (part ∷ left) ≡ left_in_parts s ps left → PartsWalked s all parts d ps left e
part_goes_on s all parts d ps part left e w next = record { left_is = w.left_is ∙ next; made = w.made; made_is = w.made_is; bodies = w.bodies; front = w.front }

pub spaces_begin : (o : Outside) (s : Scope) (spaces : List Space) (d : Drafted) → IsFront d → SpacesWalked o s spaces d spaces d
spaces_begin o s spaces d front = record {
  left_is = refl;
  made = [];
  made_is = sym (with_none (all_bodies s spaces));
  bodies = sym (append-nil d.bodies);
  front = front;
}

-- behind a module that was bound
pub space_goes_on : (o : Outside) (s : Scope) (spaces : List Space) (d : Drafted) (space : Space) (now : List Space) (e f : Drafted)
    → SpacesWalked o s spaces d (space ∷ now) e → left_in_spaces o spaces (space ∷ now) ≡ left_in_spaces o spaces now
    → PartsAdded (home s space) (numbered 0 space.entries) space.source.parts e f → SpacesWalked o s spaces d now f
space_goes_on o s spaces d space now e f w next added = record {
  left_is = w.left_is ∙ next;
  made = w.made ++ added.made;
  made_is = w.made_is ∙ (ap (with_bodies w.made) (added.made_is (all_bodies s now)) ∙ with_more w.made added.made (all_bodies s now));
  bodies = added.bodies ∙ (ap (λ bs. bs ++ added.made) w.bodies ∙ joined d.bodies w.made added.made);
  front = added.front;
}

-- behind the last one
pub spaces_end : (o : Outside) (spaces : List Space) (d e : Drafted) → SpacesWalked o (scope_of o spaces no_space) spaces d [] e → SpacesAdded o spaces d e
spaces_end o spaces d e w = record {
  none_left = w.left_is;
  made = w.made;
  is = w.made_is ∙ ap Some (append-nil w.made);
  bodies = w.bodies;
}

-- a module that was bound is passed
pub left_behind_space : (o : Outside) (all : List Space) (space : Space) (now : List Space) → left_in_space (scope_of o all space) ≡ None
    → left_in_spaces o all (space ∷ now) ≡ left_in_spaces o all now
left_behind_space o all space now h = rw h

-- so is a part that begins no procedure
pub part_left : (s : Scope) (ps : List (ℕ × Written)) (part : Part) (left : List Part) → is_header part ≡ false → is_built_part s part ≡ true
    → left_in_parts s ps (part ∷ left) ≡ left_in_parts s ps left
part_left s [] part left other built = ap (λ (b : Bool). or_else (place_unless b (place_of part)) (left_in_parts s [] left)) built
part_left s (p ∷ ps) (label l) left other built = refl
part_left s (p ∷ ps) (statement x) left other built = ap (λ (b : Bool). or_else (place_unless b (place_of (statement x))) (left_in_parts s (p ∷ ps) left)) built
part_left s (p ∷ ps) (whole_line (procedure_header access static_word kind x qs result)) left other built = absurd cc
part_left s (p ∷ ps) (whole_line line) left other built = ap (λ (b : Bool). or_else (place_unless b (place_of (whole_line line))) (left_in_parts s (p ∷ ps) left)) built

-- and one that does, with its procedure
pub header_left : (s : Scope) (p : ℕ × Written) (ps : List (ℕ × Written)) (part : Part) (left : List Part) → is_header part ≡ true → is_built_part s part ≡ true
    → left_in_body (around_of s p) (around_of s p).parts ≡ None → left_in_parts s (p ∷ ps) (part ∷ left) ≡ left_in_parts s ps left
header_left s p ps (whole_line (procedure_header access static_word kind x qs result)) left same built none = rw (built, none)
header_left s p ps part left same built none = absurd cc

-- ---- as the code goes on

pub part_walked : (s : Scope) (all : List (ℕ × Written)) (parts : List Part) (d : Drafted) (ps : List (ℕ × Written)) (part : Part) (left : List Part) (e : Drafted)
    → is_header part ≡ false → is_built_part s part ≡ true → PartsWalked s all parts d ps (part ∷ left) e → PartsWalked s all parts d ps left e
part_walked s all parts d ps part left e other built w = part_goes_on s all parts d ps part left e w (part_left s ps part left other built)

pub header_walked : (s : Scope) (all : List (ℕ × Written)) (parts : List Part) (d : Drafted) (p : ℕ × Written) (ps : List (ℕ × Written)) (part : Part) (left : List Part) (e f : Drafted)
    → is_header part ≡ true → is_built_part s part ≡ true → ProcedureAdded s p e f → PartsWalked s all parts d (p ∷ ps) (part ∷ left) e → PartsWalked s all parts d ps left f
header_walked s all parts d p ps part left e f same built added w =
    header_goes_on s all parts d p ps part left e f w (header_left s p ps part left same built added.none_left) added

-- a module whose parts were bound
pub space_added : (s : Scope) (rows : List (ℕ × Written)) (parts : List Part) (d e : Drafted) → rows ≡ numbered 0 s.here.entries → parts ≡ s.here.source.parts → PartsAdded s rows parts d e → SpaceAdded s d e
space_added s rows parts d e is same added =
    let there : PartsAdded s (numbered 0 s.here.entries) s.here.source.parts d e =
    subst (λ (qs : List Part). PartsAdded s (numbered 0 s.here.entries) qs d e) same (subst (λ (ps : List (ℕ × Written)). PartsAdded s ps parts d e) is added) in
    record { none_left = there.none_left; added = there }

pub space_walked : (o : Outside) (spaces : List Space) (d : Drafted) (space : Space) (now : List Space) (e f : Drafted)
    → SpacesWalked o (scope_of o spaces no_space) spaces d (space ∷ now) e → SpaceAdded (scope_of o spaces space) e f → SpacesWalked o (scope_of o spaces no_space) spaces d now f
space_walked o spaces d space now e f w added =
    space_goes_on o (scope_of o spaces no_space) spaces d space now e f w (left_behind_space o spaces space now added.none_left) added.added
