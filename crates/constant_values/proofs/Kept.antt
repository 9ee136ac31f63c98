-- What is kept of rounds.
use Rattle.std.proofs.Common.{◌≡◌, ℕ, zero, suc, ◌+◌, ◌-◌, ◌≤◌, ◌<◌, Bool, true, false, List, [], ◌∷◌, ◌++◌, map, length, Option, Some, None, refl, sym, ap, subst, ◌∙◌, arith, rules, length-append}
use Rattle.std.proofs.lemmas.List.{length-map, map-append}
use Rattle.std.specs.declared.alloc.Global.{Global}
use Rattle.std.specs.declared.vec.Vec.{Vec}
use Rattle.declared_names.specs.binder.specs.Scopes.{Space, Scope}
use Rattle.declared_names.specs.binder.specs.Constants.{Known, all_entries}
use Rattle.declared_names.specs.Outside.{the_outside}
use Rattle.declared_names.specs.View.{local_view, scope_view}
use Rattle.declared_names.specs.declared.scope.Scope.{Scope as RustScope}
use Rattle.constant_values.specs.declared.known.Known.{Known as Slot}
use Rattle.constant_values.specs.declared.project.ProjectValues.{ProjectValues}
use Rattle.constant_values.specs.declared.own.OwnValues.{OwnValues}
use Rattle.constant_values.specs.declared.own.Constants.{Constants}
use Rattle.constant_values.specs.Names.{nothing, values, entries_by, locals_by}
use Rattle.constant_values.specs.Rounds.{AreNumbered, IsPlaced, entries_round, locals_round, longest, rounds_from}
use Rattle.constant_values.specs.Slots.{are_same_tables, are_same_slots}
use Rattle.constant_values.specs.Tables.{rounds_view, AreRounds, AreProjectValues, tables_of, own_tables, AreThrough, AreOwnValues, AreConstants, passed, repeated_locals}
use Rattle.constant_values.specs.View.{tables_view, slots_view}
use Rattle.constant_values.proofs.Rounded.{entries_first, entries_next, locals_first, locals_next}
use Rattle.constant_values.proofs.Settled.{rounds_more, passed_rounds, repeated_rounds, repeated_rest, later_rounds}
use Rattle.constant_values.proofs.SameSlots.{same_slots, same_tables}

-- the first round
pub rounds_first : (spaces : List Space) (earlier : List (Vec (Vec (Option Slot) Global) Global)) (last : List (Vec (Option Slot) Global)) → earlier ≡ []
    → tables_view last ≡ entries_by nothing the_outside spaces → AreRounds earlier last spaces
rounds_first spaces earlier last e h =
    subst (λ (t : List (Vec (Vec (Option Slot) Global) Global)). AreRounds t last spaces) (sym e)
    (record { earlier_rounds = refl; last_round = h ∙ entries_first the_outside spaces })

-- one round more
rounds_more_by : (spaces : List Space) (earlier : List (Vec (Vec (Option Slot) Global) Global)) (last : Vec (Vec (Option Slot) Global) Global)
    (next : List (Vec (Option Slot) Global)) → AreNumbered spaces → AreRounds earlier last.items spaces
    → tables_view next ≡ entries_by (values (tables_view last.items) []) the_outside spaces → AreRounds (earlier ++ last ∷ []) next spaces
rounds_more_by spaces earlier last next numbered h e =
    let n : length (earlier ++ last ∷ []) ≡ suc (length earlier) = length-append earlier (last ∷ []) ∙ (omega arith) in
    let z : length earlier + zero ≡ length earlier = omega arith in
    record {
      earlier_rounds =
          map-append (λ (t : Vec (Vec (Option Slot) Global) Global). tables_view t.items) earlier (last ∷ [])
          ∙ (ap (λ (t : List (List (List (Option Known)))). t ++ tables_view last.items ∷ []) h.earlier_rounds
          ∙ (ap (λ (t : List (List (Option Known))). rounds_from (length earlier) zero the_outside spaces ++ t ∷ [])
          (h.last_round ∙ ap (λ (k : ℕ). entries_round k the_outside spaces) (sym z))
          ∙ (sym (rounds_more (length earlier) zero the_outside spaces) ∙ ap (λ (k : ℕ). rounds_from k zero the_outside spaces) (sym n))));
      last_round =
          e ∙ (ap (λ (t : List (List (Option Known))). entries_by (values t []) the_outside spaces) h.last_round
          ∙ (entries_next (length earlier) the_outside spaces numbered ∙ ap (λ (k : ℕ). entries_round k the_outside spaces) (sym n)));
    }

pub rounds_next : (spaces : List Space) (earlier now : List (Vec (Vec (Option Slot) Global) Global)) (last : Vec (Vec (Option Slot) Global) Global)
    (next : List (Vec (Option Slot) Global)) → AreNumbered spaces → AreRounds earlier last.items spaces
    → tables_view next ≡ entries_by (values (tables_view last.items) []) the_outside spaces → now ≡ earlier ++ last ∷ [] → AreRounds now next spaces
rounds_next spaces earlier now last next numbered h e is =
    subst (λ (t : List (Vec (Vec (Option Slot) Global) Global)). AreRounds t next spaces) (sym is) (rounds_more_by spaces earlier last next numbered h e)

-- how many rounds are left
pub none_kept : (earlier : List (Vec (Vec (Option Slot) Global) Global)) (most : ℕ) → earlier ≡ [] → length earlier + most ≡ most
none_kept earlier most e = let n : length earlier ≡ 0 = ap length e in omega arith

pub one_kept : (earlier now : List (Vec (Vec (Option Slot) Global) Global)) (last : Vec (Vec (Option Slot) Global) Global) (left less most : ℕ)
    → now ≡ earlier ++ last ∷ [] → length earlier + left ≡ most → 0 < left → less ≡ left - 1 → length now + less ≡ most
one_kept earlier now last left less most e h some f =
    let n : length now ≡ length earlier + 1 = ap length e ∙ length-append earlier (last ∷ []) in omega arith

pub few_kept : (earlier : List (Vec (Vec (Option Slot) Global) Global)) (left most all : ℕ) → length earlier + left ≡ most → most ≡ all → length earlier ≤ all
few_kept earlier left most all h e = omega arith

not_both : {A : Type 0} (b : Bool) → b ≡ true → b ≡ false → A
not_both true e f = absurd cc
not_both false e f = absurd cc

-- a round that changes nothing is the last
pub rounds_rest : (spaces : List Space) (v : ProjectValues) (next : List (Vec (Option Slot) Global)) → AreNumbered spaces
    → AreRounds v.earlier.items v.last.items spaces → tables_view next ≡ entries_by (values (tables_view v.last.items) []) the_outside spaces
    → are_same_tables (tables_view next) (tables_view v.last.items) ≡ true → length v.earlier.items ≤ all_entries spaces → v.is_settled ≡ true
    → AreProjectValues v spaces
rounds_rest spaces v next numbered h e same few is = record {
  few = few;
  rounds = h;
  settled = λ (g : v.is_settled ≡ true). later_rounds the_outside spaces numbered (length v.earlier.items) (tables_view v.last.items) h.last_round
      (sym e ∙ same_tables (tables_view next) (tables_view v.last.items) same);
  all = λ (f : v.is_settled ≡ false). not_both v.is_settled is f;
}

-- as many rounds as entries
pub rounds_all : (spaces : List Space) (v : ProjectValues) → AreRounds v.earlier.items v.last.items spaces
    → length v.earlier.items ≡ all_entries spaces → v.is_settled ≡ false → AreProjectValues v spaces
rounds_all spaces v h n is = record {
  few = omega arith;
  rounds = h;
  settled = λ (e : v.is_settled ≡ true). not_both v.is_settled e is;
  all = λ (g : v.is_settled ≡ false). n;
}

-- the last table of a project is the one through as many constants as it has entries
last_at : (b : Bool) (v : ProjectValues) (spaces : List Space) → v.is_settled ≡ b → AreProjectValues v spaces
    → tables_view v.last.items ≡ entries_round (all_entries spaces) the_outside spaces
last_at true v spaces e h = h.settled e (all_entries spaces) h.few
last_at false v spaces e h = h.rounds.last_round ∙ ap (λ (k : ℕ). entries_round k the_outside spaces) (h.all e)

last_all : (v : ProjectValues) (spaces : List Space) → AreProjectValues v spaces → tables_view v.last.items ≡ entries_round (all_entries spaces) the_outside spaces
last_all v spaces h = last_at v.is_settled v spaces refl h

tables_owned : (v : ProjectValues) (own : Option (Vec (Vec (Option Slot) Global) Global)) (s : Scope) → AreProjectValues v s.spaces
    → tables_of v own ≡ own_tables own s
tables_owned v None s h = last_all v s.spaces h
tables_owned v (Some tables) s h = refl

-- rounds of the names of a procedure
pub repeated_one : (n : ℕ) (s : Scope) (entries : List (List (Option Known))) (slots : List (Option Known)) → 0 < n
    → repeated_locals n s entries slots ≡ repeated_locals (n - 1) s entries (locals_by (values entries slots) s)
repeated_one zero s entries slots h = absurd (omega arith)
repeated_one (suc n) s entries slots h =
    let e : n ≡ suc n - 1 = omega arith in ap (λ (k : ℕ). repeated_locals k s entries (locals_by (values entries slots) s)) e

pub repeated_same : (n : ℕ) (s : Scope) (entries : List (List (Option Known))) (slots next : List (Option Known)) → next ≡ locals_by (values entries slots) s
    → are_same_slots next slots ≡ true → repeated_locals n s entries slots ≡ slots
repeated_same n s entries slots next e same = repeated_rest n s entries slots (sym e ∙ same_slots next slots same)

-- the values behind the rounds before the last one
pub passed_all : (x : RustScope) (v : ProjectValues) (first : List (Option Known)) → IsPlaced (scope_view x) → AreProjectValues v (scope_view x).spaces
    → first ≡ locals_by nothing (scope_view x)
    → passed (scope_view x) first (rounds_view v.earlier.items) ≡ locals_round (length v.earlier.items) (scope_view x)
passed_all x v first placed h is_first =
    let z : length v.earlier.items + zero ≡ length v.earlier.items = omega arith in
    ap (λ (t : List (Option Known)). passed (scope_view x) t (rounds_view v.earlier.items)) (is_first ∙ locals_first (scope_view x))
    ∙ (ap (passed (scope_view x) (locals_round zero (scope_view x))) h.rounds.earlier_rounds
    ∙ (passed_rounds (scope_view x) placed (length v.earlier.items) zero ∙ ap (λ (k : ℕ). locals_round k (scope_view x)) z))

-- where the values of a project have come to rest
pub settled_own : (x : RustScope) (project : ProjectValues) (v : OwnValues) (more : ℕ) (behind : List (Option Known)) → IsPlaced (scope_view x)
    → AreProjectValues project (scope_view x).spaces → project.is_settled ≡ true → more + length project.earlier.items ≡ longest (scope_view x)
    → behind ≡ locals_round (length project.earlier.items) (scope_view x)
    → slots_view v.slots.items ≡ repeated_locals more (scope_view x) (tables_view project.last.items) behind → v.entries ≡ None
    → AreOwnValues v (scope_view x)
settled_own x project v more behind placed h settled sum is_behind e none =
    let le : length project.earlier.items ≤ length project.earlier.items = omega arith in
    let up : length project.earlier.items ≤ longest (scope_view x) = omega arith in
    record {
      through = record {
        own =
            e ∙ (ap (repeated_locals more (scope_view x) (tables_view project.last.items)) is_behind
            ∙ (repeated_rounds (scope_view x) placed (length project.earlier.items) (tables_view project.last.items) (h.settled settled) more
            (length project.earlier.items) le
            ∙ ap (λ (k : ℕ). locals_round k (scope_view x)) sum));
        entries =
            ap (λ (t : Option (Vec (Vec (Option Slot) Global) Global)). own_tables t (scope_view x)) none
            ∙ (sym (last_all project (scope_view x).spaces h) ∙ h.settled settled (longest (scope_view x)) up);
      };
    }

-- where they have not: first those of the project, and then one constant more each time
through_first : (x : RustScope) (project : ProjectValues) (v : OwnValues) (k : ℕ) → AreProjectValues project (scope_view x).spaces
    → project.is_settled ≡ false → slots_view v.slots.items ≡ locals_round (length project.earlier.items) (scope_view x) → v.entries ≡ None
    → k ≡ all_entries (scope_view x).spaces → AreThrough k v (scope_view x)
through_first x project v k h unsettled e none is = record {
  own = e ∙ ap (λ (k : ℕ). locals_round k (scope_view x)) (h.all unsettled ∙ sym is);
  entries =
      ap (λ (t : Option (Vec (Vec (Option Slot) Global) Global)). own_tables t (scope_view x)) none
      ∙ ap (λ (k : ℕ). entries_round k the_outside (scope_view x).spaces) (sym is);
}

through_next : (x : RustScope) (project : ProjectValues) (own next : OwnValues) (k j : ℕ) → IsPlaced (scope_view x)
    → AreProjectValues project (scope_view x).spaces → AreThrough k own (scope_view x)
    → slots_view next.slots.items ≡ locals_by (values (tables_of project own.entries) (slots_view own.slots.items)) (scope_view x)
    → own_tables next.entries (scope_view x) ≡ entries_by (values (tables_of project own.entries) []) the_outside (scope_view x).spaces
    → j ≡ suc k → AreThrough j next (scope_view x)
through_next x project own next k j placed h before e f is =
    let t : tables_of project own.entries ≡ entries_round k the_outside (scope_view x).spaces =
    tables_owned project own.entries (scope_view x) h ∙ before.entries in
    record {
      own =
          e ∙ (ap (λ (t : List (List (Option Known))). locals_by (values t (slots_view own.slots.items)) (scope_view x)) t
          ∙ (ap (λ (slots : List (Option Known)). locals_by (values (entries_round k the_outside (scope_view x).spaces) slots) (scope_view x)) before.own
          ∙ (locals_next k (scope_view x) placed ∙ ap (λ (k : ℕ). locals_round k (scope_view x)) (sym is))));
      entries =
          f ∙ (ap (λ (t : List (List (Option Known))). entries_by (values t []) the_outside (scope_view x).spaces) t
          ∙ (entries_next k the_outside (scope_view x).spaces placed.numbered
          ∙ ap (λ (k : ℕ). entries_round k the_outside (scope_view x).spaces) (sym is)));
    }

through_all : (v : OwnValues) (s : Scope) (k : ℕ) → AreThrough k v s → k ≡ longest s → AreOwnValues v s
through_all v s k h is = record {
  through = record {
    own = h.own ∙ ap (λ (k : ℕ). locals_round k s) is;
    entries = h.entries ∙ ap (λ (k : ℕ). entries_round k the_outside s.spaces) is;
  };
}

-- the same, counted by the rounds that are left
longest_names : (x : RustScope) (names : ℕ) → names ≡ length x.locals.now → longest (scope_view x) ≡ all_entries (scope_view x).spaces + names
longest_names x names h = ap (λ (n : ℕ). all_entries (scope_view x).spaces + n) (length-map x.locals.now local_view ∙ sym h)

pub left_fit : (x : RustScope) (names : ℕ) → names ≡ length x.locals.now → names ≤ longest (scope_view x)
left_fit x names h = let e : longest (scope_view x) ≡ all_entries (scope_view x).spaces + names = longest_names x names h in omega arith

pub left_first : (x : RustScope) (project : ProjectValues) (v : OwnValues) (names : ℕ) → AreProjectValues project (scope_view x).spaces
    → project.is_settled ≡ false → slots_view v.slots.items ≡ locals_round (length project.earlier.items) (scope_view x) → v.entries ≡ None
    → names ≡ length x.locals.now → AreThrough (longest (scope_view x) - names) v (scope_view x)
left_first x project v names h unsettled e none is =
    let f : longest (scope_view x) ≡ all_entries (scope_view x).spaces + names = longest_names x names is in
    through_first x project v (longest (scope_view x) - names) h unsettled e none (omega arith)

pub left_next : (x : RustScope) (project : ProjectValues) (own next : OwnValues) (left less : ℕ) → IsPlaced (scope_view x)
    → AreProjectValues project (scope_view x).spaces → AreThrough (longest (scope_view x) - left) own (scope_view x) → left ≤ longest (scope_view x) → 0 < left
    → slots_view next.slots.items ≡ locals_by (values (tables_of project own.entries) (slots_view own.slots.items)) (scope_view x)
    → own_tables next.entries (scope_view x) ≡ entries_by (values (tables_of project own.entries) []) the_outside (scope_view x).spaces
    → less ≡ left - 1 → AreThrough (longest (scope_view x) - less) next (scope_view x)
left_next x project own next left less placed h before fit some e f is =
    through_next x project own next (longest (scope_view x) - left) (longest (scope_view x) - less) placed h before e f (omega arith)

pub left_none : (v : OwnValues) (s : Scope) (left : ℕ) → AreThrough (longest s - left) v s → left ≤ 0 → AreOwnValues v s
left_none v s left h none = through_all v s (longest s - left) h (omega arith)

-- a scope with its values
pub constants_settled : (c : Constants) (project : ProjectValues) (own : OwnValues) → IsPlaced (scope_view c.scope)
    → AreProjectValues project (scope_view c.scope).spaces → AreOwnValues own (scope_view c.scope) → tables_view c.entries.now ≡ tables_of project own.entries
    → c.own.now ≡ own.slots.items → AreConstants c
constants_settled c project own placed h o e f = record {
  placed = placed;
  entries = e ∙ (tables_owned project own.entries (scope_view c.scope) h ∙ o.through.entries);
  own = ap slots_view f ∙ o.through.own;
}
