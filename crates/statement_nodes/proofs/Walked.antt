-- A body is bound part by part.
use Rattle.std.proofs.Common.{◌≡◌, ◌+◌, true, List, [], ◌∷◌, ◌++◌, append_assoc, refl, ◌∙◌, sym, ap}
use Rattle.std.specs.Prelude.{Option, Some, None}
use Rattle.std.proofs.lemmas.List.{append-nil}
use Rattle.vba_module.specs.Parts.{Part, label, statement, whole_line}
use Rattle.vba_tree.specs.Tree.{simple, if_then, if_else}
use Rattle.bound_project.specs.Statements.{Statement}
use Rattle.bound_project.specs.Drafts.{Drafted}
use Rattle.bound_calls.specs.bound_declarations.specs.constant_values.specs.declared_names.specs.binder.specs.Numbering.{Standing, standings_in}
use Rattle.bound_calls.specs.bound_forms.specs.StatementsBound.{Around, both, part_statements, all_statements}
use Rattle.bound_calls.specs.bound_declarations.specs.constant_values.specs.declared_names.specs.binder.specs.Blocks.{next_number}
use Rattle.bound_calls.specs.bound_forms.specs.Bind.{is_built_part, left_in_body}
use Rattle.statement_nodes.specs.Walks.{Added, PartAdded, BodyAdded, Walked, statements_of}

joined : (x y z : List Statement) → (x ++ y) ++ z ≡ x ++ (y ++ z)
joined x y z = rw append_assoc

pub both_empty : (xs : Option (List Statement)) → both (Some []) xs ≡ xs
both_empty None = refl
both_empty (Some xs) = refl

pub both_assoc : (x y z : Option (List Statement)) → both x (both y z) ≡ both (both x y) z
both_assoc None y z = refl
both_assoc (Some x) None z = refl
both_assoc (Some x) (Some y) None = refl
both_assoc (Some x) (Some y) (Some z) = ap Some (sym (joined x y z))

both_nothing : (x : List Statement) → both (Some x) (Some []) ≡ Some x
both_nothing x = ap Some (append-nil x)

-- at the front of a body
pub walk_begins : (a : Around) (parts : List Part) (d : Drafted) → d.pieces ≡ [] → Walked a (standings_in parts) d (standings_in parts) d
walk_begins a parts d empty = record {
  left = refl;
  made = [];
  made_is = sym (both_empty (all_statements a (standings_in parts)));
  statements = sym (append-nil d.statements);
  bodies = refl;
  pieces = empty;
}

left_behind : (a : Around) (s : Standing) (rest : List Standing) (xs : List Statement) → is_built_part a.env.scope s.part ≡ true → part_statements a s ≡ Some xs
    → left_in_body a (s ∷ rest) ≡ left_in_body a rest
left_behind a s rest xs runs is = rw (runs, is)

-- behind a part that was bound
pub walk_goes_on : (a : Around) (all : List Standing) (d : Drafted) (s : Standing) (rest : List Standing) (e f : Drafted)
    → Walked a all d (s ∷ rest) e → PartAdded a s e f → Walked a all d rest f
walk_goes_on a all d s rest e f w p =
    record {
      left = w.left ∙ left_behind a s rest p.added.made p.built p.added.is;
      made = w.made ++ p.added.made;
      made_is = w.made_is ∙ (ap (λ x. both (Some w.made) (both x (all_statements a rest))) p.added.is ∙ both_assoc (Some w.made) (Some p.added.made) (all_statements a rest));
      statements = p.added.statements ∙ (ap (λ xs. xs ++ p.added.made) w.statements ∙ joined d.statements w.made p.added.made);
      bodies = p.added.bodies ∙ w.bodies;
      pieces = p.added.pieces;
    }

-- at the end of a body
pub walk_ends : (a : Around) (all : List Standing) (d e : Drafted) → Walked a all d [] e → BodyAdded a all d e
walk_ends a all d e w = record {
  none_left = w.left;
  added = record {
    made = w.made;
    is = w.made_is ∙ both_nothing w.made;
    statements = w.statements;
    bodies = w.bodies;
    pieces = w.pieces;
  };
}

-- the statements of a part, by the part
pub part_by_itself : (a : Around) (s : Standing) → part_statements a s ≡ statements_of a s (next_number s) s.part
part_by_itself a s = by_part a s s.part refl
  where
    by_part : (a : Around) (s : Standing) (p : Part) → s.part ≡ p → part_statements a s ≡ statements_of a s (next_number s) p
    by_part a s (label l) h = rw h
    by_part a s (statement (simple x)) h = rw h
    by_part a s (statement (if_then if_word e then_word ss)) h = rw h
    by_part a s (statement (if_else if_word e then_word ss else_word es)) h = rw h
    by_part a s (whole_line line) h = rw h

-- statements are added one after another
pub both_added : (f g : Option (List Statement)) (d e h : Drafted) → Added f d e → Added g e h → Added (both f g) d h
both_added f g d e h x y = record {
  made = x.made ++ y.made;
  is = ap (λ o. both o g) x.is ∙ ap (both (Some x.made)) y.is;
  statements = y.statements ∙ (ap (λ xs. xs ++ y.made) x.statements ∙ joined d.statements x.made y.made);
  bodies = y.bodies ∙ x.bodies;
  pieces = y.pieces;
}

-- no statement is added
pub none_added : (d : Drafted) → d.pieces ≡ [] → Added (Some []) d d
none_added d empty = record { made = []; is = refl; statements = sym (append-nil d.statements); bodies = refl; pieces = empty }
