-- Objects that are made, members of host objects and stores at places that numbers lead to, under other names.
use Rattle.std.proofs.Common.{◌≡◌, ℕ, zero, suc, Bool, List, [], ◌∷◌, ◌++◌, length, Option, Some, None, pos, refl, sym, ap, ◌∙◌, subst}
use Rattle.std.specs.Prelude.{◌==◌, ◌*◌, option_map, slice_index_or}
use Rattle.std.specs.List.{list_any}
use Rattle.std.proofs.lemmas.List.{length-map}
use Rattle.vba_values.specs.declared.object.HostRef.{HostRef}
use Rattle.vba_values.specs.declared.object.HostRef.TheVariants as host
use Rattle.vba_values.specs.declared.object.ObjRef.TheVariants.{Nothing, Heap, Host}
use Rattle.vba_values.specs.declared.types.WholeKind.TheVariants as kind
use Rattle.vba_values.specs.Types.{Declared}
use Rattle.vba_values.specs.Types as type
use Rattle.vba_values.specs.Val.{Val, empty, missing, boolean, text, object, array, udt}
use Rattle.vba_values.specs.Whole.{ranged}
use Rattle.sheet_host.specs.declared.area.Area.{Area}
use Rattle.sheet_host.specs.declared.members.HostMember.{HostMember}
use Rattle.sheet_host.specs.declared.members.HostMember.TheVariants.{Write, Call}
use Rattle.sheet_host.specs.Area.{offset_of, resized}
use Rattle.sheet_host.specs.Books.{sheet_at, content_at}
use Rattle.sheet_host.specs.Members.{member_of, number_of}
use Rattle.sheet_host.specs.Reading.{area_value}
use Rattle.sheet_host.specs.Sheets.{used_area}
use Rattle.bound_project.specs.Expressions.{ByName, err_number, err_source, err_description}
use Rattle.bound_project.specs.Project.{Declarations, class_at, first_value, first_values, types_of, field_of, Declaration}
use Rattle.vba_meaning.specs.Paths.{Root, in_frame, in_project, in_fields, in_block, in_object, in_item, Step, Path}
use Rattle.vba_meaning.specs.Memory.{Error, no_error, Slot, value, path, Object, Memory, top, value_at}
use Rattle.vba_meaning.specs.Effects.{Init, Effect, Fine, Bad-at, on_fine, done, plain, is_true, range_value, area_in, err_of, assigned, raised_by, raised_number, given_text, slot_value}
use Rattle.vba_meaning.specs.Events.{noted}
use Rattle.vba_meaning.specs.Objects.{new_instance, made, own_object, made_for, stored_made}
use Rattle.vba_meaning.specs.Collections.{CollectionMember, is_item, takes_in_collection, names_in_collection, collection_used}
use Rattle.vba_meaning.specs.Host.{long_value, whole_sheet, member_value, takes, are_places, item_by, member_begun, member_there, as_given, member_by, member_called, object_member, number_given, text_given, error_given, path_to, place_at, item_written, assigned_at, item_assigned, with_mark, mark_set, assigned_through, member_set, through_item, member_assigned, member_not_set}
use Rattle.vba_meaning.specs.ByName.{parameter_names, parameters_given, first_given, named_begun, named_there}
use Rattle.object_lives.proofs.Values.{area_value_in, ranged_in, field_initial_free}
use Rattle.object_names.specs.Names.{value_named, values_named, path_named, slot_named, slots_named, object_named, under}
use Rattle.object_names.specs.Renamed.{Fit, Same}
use Rattle.object_names.proofs.NamedValues.{free_answer, free_named}
use Rattle.object_names.proofs.Matched.{matches_more, keyed_more, next_name}
use Rattle.object_names.proofs.NamedMemory.{same_by}
use Rattle.object_names.proofs.Named.{plainly, Names, fine, bad, telling, then_named, then_by, both, both_by, answered_named, answered_same}
use Rattle.object_names.proofs.NamedVariables.{book_same, coerced_names, plain_names, value_at_same, assigned_names, stored_names}
use Rattle.object_names.proofs.NamedEffects.{top_same, hold_to, err_same}
use Rattle.object_names.proofs.NamedArrays.{element_at_names}
use Rattle.object_names.proofs.NamedItems.{pair_named, nth_map, collection_member_names, item_found_names, collection_used_names}
use Rattle.object_names.proofs.NamedHosts.{sheet_found_names, cells_found_names, cell_found_names, range_found_names, area_by_names, fits_in_names, can_index_names, item_names, item_of_object_names, number_given_names, text_given_names}
use Rattle.object_names.proofs.NamedMembers.{noted_same, area_written_names, cleared_names, written_default_names}

module _ (r : ℕ → ℕ) where
  abbrev nv : Val → Val
  nv v = value_named r v

  abbrev np : Path → Path
  np p = path_named r p

  -- ---- objects that are made

  pub first_plain : (d : Declarations) (xs : List Declaration) → values_named r (first_values d xs) ≡ first_values d xs
  first_plain d [] = refl
  first_plain d (x ∷ xs) = ap (λ w. w ∷ values_named r (first_values d xs)) (free_named r (first_value d x) (field_initial_free (types_of d) (field_of x))) ∙ ap (λ ws. first_value d x ∷ ws) (first_plain d xs)

  new_plain : (d : Declarations) (c : ℕ) → object_named r (new_instance d c) ≡ new_instance d c
  new_plain d c = ap (λ vs. record (new_instance d c) { fields = vs }) (first_plain d (class_at d c).fields)

  more_here : (d : Declarations) (c : ℕ) (m : Memory) (cs : List (Option Object)) → Fit r m cs → Same r (record m { objects = m.objects ++ Some (new_instance d c) ∷ [] }) (record (under r m cs) { objects = cs ++ Some (new_instance d c) ∷ [] })
  more_here d c m cs k = record {
    objects = cs ++ Some (object_named r (new_instance d c)) ∷ [];
    is = ap (λ b. record (under r m cs) { objects = cs ++ Some b ∷ [] }) (sym (new_plain d c));
    fit = record { matches = matches_more r (new_instance d c) k.matches; keyed = keyed_more d c k.keyed };
  }

  more_same : {m n : Memory} (d : Declarations) (c : ℕ) → Same r m n → Same r (record m { objects = m.objects ++ Some (new_instance d c) ∷ [] }) (record n { objects = n.objects ++ Some (new_instance d c) ∷ [] })
  more_same {m = m} d c k = subst (λ y. Same r (record m { objects = m.objects ++ Some (new_instance d c) ∷ [] }) (record y { objects = y.objects ++ Some (new_instance d c) ∷ [] })) (sym k.is) (more_here d c m k.objects k.fit)

  number_same : {m n : Memory} → Same r m n → length n.objects ≡ r (length m.objects)
  number_same k = ap (λ x. length x.objects) k.is ∙ sym (next_name r k.fit.matches)

  reference_to : {m n : Memory} → Same r m n → object (Heap (record { 0 = length n.objects })) ≡ nv (object (Heap (record { 0 = length m.objects })))
  reference_to k = ap (λ j. object (Heap (record { 0 = j }))) (number_same k)

  pub made_names : {m n : Memory} (d : Declarations) (c : ℕ) → Same r m n → Names r nv (made d c m) (made d c n)
  made_names {m = m} {n = n} d zero k = fine r (reference_to k) (hold_to r (object (Heap (record { 0 = length m.objects }))) (object (Heap (record { 0 = length n.objects }))) (reference_to k) (more_same d zero k))
  made_names {m = m} {n = n} d (suc c) k =
      telling r (ap (λ j. Init (suc c) j ∷ []) (number_same k))
      (fine r (reference_to k) (hold_to r (object (Heap (record { 0 = length m.objects }))) (object (Heap (record { 0 = length n.objects }))) (reference_to k) (more_same d (suc c) k)))

  pub own_object_names : {m n : Memory} → Same r m n → Names r nv (own_object m) (own_object n)
  own_object_names {m = m} {n = n} k = let me : (top n).me ≡ nv (top m).me = ap (λ f. f.me) (top_same r k) in fine r me (hold_to r (top m).me (top n).me me k)

  made_by : {m n : Memory} (d : Declarations) (root : Root) (steps : List Step) (of : Declared) (bounded : Bool) (makes : Option ℕ) (x : Option Val)
      → let q : Path = record { root = root; steps = steps; of = of; bounded = bounded; makes = makes } in value_at m q ≡ x → Same r m n → Names r nv (made_for d q m) (made_for d (np q) n)
  made_by d root steps of bounded (Some c) (Some (object Nothing)) e k = rw e (rw (value_at_same r (record { root = root; steps = steps; of = of; bounded = bounded; makes = Some c }) k ∙ ap (option_map (λ v. value_named r v)) e) (made_names d c k))
  made_by d root steps of bounded (Some c) (Some (object (Heap id))) e k = rw e (rw (value_at_same r (record { root = root; steps = steps; of = of; bounded = bounded; makes = Some c }) k ∙ ap (option_map (λ v. value_named r v)) e) (fine r refl k))
  made_by d root steps of bounded (Some c) x e k = rw e (rw (value_at_same r (record { root = root; steps = steps; of = of; bounded = bounded; makes = Some c }) k ∙ ap (option_map (λ v. value_named r v)) e) (fine r refl k))
  made_by d root steps of bounded None x e k = fine r refl k

  pub made_for_names : {m n : Memory} (d : Declarations) (q : Path) → Same r m n → Names r nv (made_for d q m) (made_for d (np q) n)
  made_for_names {m = m} d q k = made_by d q.root q.steps q.of q.bounded q.makes (value_at m q) refl k

  pub stored_made_names : {m n : Memory} (q : Path) (v : Val) → Same r m n → Names r plainly (stored_made q v m) (stored_made (np q) (nv v) n)
  stored_made_names q empty k = fine r refl k
  stored_made_names q (object o) k = stored_names r q (object o) k
  stored_made_names q (array bounds of items) k = stored_names r q (array bounds of items) k
  stored_made_names q (udt number fields) k = stored_names r q (udt number fields) k
  stored_made_names q v k = stored_names r q v k

  -- ---- errors that are raised

  raised_blind : (v : Val) → raised_number (nv v) ≡ raised_number v
  raised_blind (object o) = refl
  raised_blind v = refl

  text_blind : (v : Val) → given_text (nv v) ≡ given_text v
  text_blind (object o) = refl
  text_blind v = refl

  slot_value_named : (x : Slot) → slot_value (slot_named r x) ≡ nv (slot_value x)
  slot_value_named (value v) = refl
  slot_value_named (path p) = refl

  nth_slot : (xs : List Slot) (i : ℕ) → slot_value (slice_index_or (slots_named r xs) i (value missing)) ≡ nv (slot_value (slice_index_or xs i (value missing)))
  nth_slot xs i = ap (λ x. slot_value x) (nth_map (λ x. slot_named r x) xs i (value missing)) ∙ slot_value_named (slice_index_or xs i (value missing))

  pub raised_same : {m n : Memory} (xs : List Slot) → Same r m n → raised_by (slots_named r xs) n ≡ raised_by xs m
  raised_same {m = m} {n = n} xs k =
      ap {B = Error} (λ z. record { number = z; source = given_text (slot_value (slice_index_or (slots_named r xs) 1 (value missing))); description = given_text (slot_value (slice_index_or (slots_named r xs) 2 (value missing))); procedure = (top n).procedure; statement = (top n).statement })
      (ap raised_number (nth_slot xs 0) ∙ raised_blind (slot_value (slice_index_or xs 0 (value missing))))
      ∙ ap {B = Error} (λ z. record { number = raised_number (slot_value (slice_index_or xs 0 (value missing))); source = z; description = given_text (slot_value (slice_index_or (slots_named r xs) 2 (value missing))); procedure = (top n).procedure; statement = (top n).statement })
      (ap given_text (nth_slot xs 1) ∙ text_blind (slot_value (slice_index_or xs 1 (value missing))))
      ∙ ap {B = Error} (λ z. record { number = raised_number (slot_value (slice_index_or xs 0 (value missing))); source = given_text (slot_value (slice_index_or xs 1 (value missing))); description = z; procedure = (top n).procedure; statement = (top n).statement })
      (ap given_text (nth_slot xs 2) ∙ text_blind (slot_value (slice_index_or xs 2 (value missing))))
      ∙ ap {B = Error} (λ f. record { number = raised_number (slot_value (slice_index_or xs 0 (value missing))); source = given_text (slot_value (slice_index_or xs 1 (value missing))); description = given_text (slot_value (slice_index_or xs 2 (value missing))); procedure = f.procedure; statement = f.statement })
      (top_same r k)

  argument : (vs : List Val) (i : ℕ) → slice_index_or (values_named r vs) i missing ≡ nv (slice_index_or vs i missing)
  argument vs i = nth_map nv vs i missing

  pub error_given_names : {m n : Memory} (vs : List Val) → Same r m n → Names r plainly (error_given vs m) (error_given (values_named r vs) n)
  error_given_names {m = m} {n = n} vs k =
      then_named r _ (subst (λ v. Names r nv (number_given (slice_index_or vs 0 missing) m) (number_given v n)) (sym (argument vs 0)) (number_given_names r (slice_index_or vs 0 missing) k)) (λ a m1 n1 k1.
      then_named r _ (subst (λ v. Names r nv (text_given (slice_index_or vs 1 missing) m1) (text_given v n1)) (sym (argument vs 1)) (text_given_names r (slice_index_or vs 1 missing) k1)) (λ b m2 n2 k2.
      then_named r _ (subst (λ v. Names r nv (text_given (slice_index_or vs 2 missing) m2) (text_given v n2)) (sym (argument vs 2)) (text_given_names r (slice_index_or vs 2 missing) k2)) (λ c m3 n3 k3.
      fine r (raised_same (value a ∷ value b ∷ value c ∷ []) k3) k3)))

  -- ---- places

  pub path_to_named : (v : Val) → path_to (nv v) ≡ np (path_to v)
  path_to_named (object Nothing) = refl
  path_to_named (object (Heap id)) = refl
  path_to_named (object (Host h)) = refl
  path_to_named (array bounds of items) = refl
  path_to_named (udt number fields) = refl
  path_to_named v = refl

  place_by : {m n : Memory} (p : Path) (vs : List Val) (x : Option Val) → value_at m p ≡ x → Same r m n → Names r np (place_at p vs m) (place_at (np p) (values_named r vs) n)
  place_by p vs (Some (object o)) e k =
      rw e (rw (value_at_same r p k ∙ ap (option_map (λ v. value_named r v)) e) (then_named r _ (item_of_object_names r o vs k) (λ w m1 n1 k1. fine r (path_to_named w) k1)))
  place_by p vs x e k = rw e (rw (value_at_same r p k ∙ ap (option_map (λ v. value_named r v)) e) (element_at_names r p vs k))

  pub place_at_names : {m n : Memory} (p : Path) (vs : List Val) → Same r m n → Names r np (place_at p vs m) (place_at (np p) (values_named r vs) n)
  place_at_names {m = m} p vs k = place_by p vs (value_at m p) refl k

  -- ---- members of host objects

  abbrev AllNames : Memory → Memory → List (Effect Val) → List (Effect Val) → Type 0
  AllNames m n [] [] = Unit {0}
  AllNames m n (e ∷ es) (g ∷ gs) = Names r nv e g × AllNames m n es gs
  AllNames m n es gs = ⊥

  record Members (m n : Memory) (es gs : List (Effect Val)) : Type 0 where
    laws : AllNames m n es gs

  no_more : {m n : Memory} → Members m n [] []
  no_more = record { laws = tt }

  and_then : {m n : Memory} {e g : Effect Val} {es gs : List (Effect Val)} → Names r nv e g → Members m n es gs → Members m n (e ∷ es) (g ∷ gs)
  and_then a more = record { laws = (a, more.laws) }

  nth_names : (m n : Memory) (i : ℕ) (es gs : List (Effect Val)) → Same r m n → AllNames m n es gs → Names r nv (slice_index_or es i (Bad-at 438 m)) (slice_index_or gs i (Bad-at 438 n))
  nth_names m n zero [] [] k h = bad r 438 k
  nth_names m n (suc i) [] [] k h = bad r 438 k
  nth_names m n i [] (g ∷ gs) k h = absurd h
  nth_names m n i (e ∷ es) [] k h = absurd h
  nth_names m n zero (e ∷ es) (g ∷ gs) k h = h.0
  nth_names m n (suc i) (e ∷ es) (g ∷ gs) k h = nth_names m n i es gs k h.1

  by_number : {m n : Memory} {es gs : List (Effect Val)} (i : ℕ) → Same r m n → Members m n es gs → Names r nv (slice_index_or es i (Bad-at 438 m)) (slice_index_or gs i (Bad-at 438 n))
  by_number {m = m} {n = n} {es = es} {gs = gs} i k all = nth_names m n i es gs k all.laws

  empty_behind : {A : Type 0} {f : A → A} {e g : Effect A} → Names r f e g → Names r nv (on_fine e (λ u m1. Fine empty m1)) (on_fine g (λ u m1. Fine empty m1))
  empty_behind a = then_named r {x = λ u m1. Fine empty m1} (λ u m1. Fine empty m1) a (λ u m1 n1 k1. fine r {v = empty} refl k1)

  book_text : {m n : Memory} (s : ℕ) → Same r m n → text (sheet_at n.book (record { 0 = s })).name ≡ text (sheet_at m.book (record { 0 = s })).name
  book_text s k = ap (λ b. text (sheet_at b (record { 0 = s })).name) (book_same r k)

  member_value_names : {m n : Memory} (d : Declarations) (x : HostRef) (i : ℕ) (vs : List Val) → Same r m n → Names r nv (member_value d x i vs m) (member_value d x i (values_named r vs) n)
  member_value_names d host.Application i vs k =
      by_number i k (and_then (fine r (ap (λ x. boolean x.events_on) k.is) k) (and_then (fine r (ap (λ x. boolean x.updates_screen) k.is) k) (and_then (fine r (ap (λ x. boolean x.shows_alerts) k.is) k) no_more)))
  member_value_names d host.Workbook i vs k = fine r refl k
  member_value_names d host.Sheets i vs k = by_number i k (and_then (fine r (ap (λ b. long_value (length b)) (book_same r k)) k) (and_then (sheet_found_names r vs k) no_more))
  member_value_names d host.ErrObject i vs k =
      by_number i k (and_then (fine r (ap (λ x. err_of d err_number x.err) k.is) k) (and_then (fine r (ap (λ x. err_of d err_source x.err) k.is) k) (and_then (fine r (ap (λ x. err_of d err_description x.err) k.is) k)
      (and_then (fine r {v = empty} refl (err_same r no_error k)) no_more))))
  member_value_names d (host.Sheet s) i vs k =
      by_number i k (and_then (fine r (book_text s k) k) (and_then (fine r refl k) (and_then (cells_found_names r (whole_sheet s) vs k) (and_then (range_found_names r s vs k)
      (and_then (fine r (ap (λ b. range_value (used_area (record { 0 = s }) (content_at b (record { 0 = s })))) (book_same r k)) k) no_more)))))
  member_value_names {m = m} {n = n} d (host.Area s t l rows c) i vs k =
      let a : Area = area_in s t l rows c in
      by_number i k (and_then (answered_named r (area_value m.book a) (area_value n.book a) (ap (λ b. area_value b a) (book_same r k) ∙ sym (free_answer r (area_value m.book a) (area_value_in [] m.book a))) k)
      (and_then (fine r refl k) (and_then (fine r refl k) (and_then (fine r refl k)
      (and_then (answered_named r (ranged kind.Long (pos (rows * c))) (ranged kind.Long (pos (rows * c))) (sym (free_answer r (ranged kind.Long (pos (rows * c))) (ranged_in [] kind.Long (pos (rows * c))))) k)
      (and_then (fine r refl k) (and_then (fine r refl k)
      (and_then (cells_found_names r a vs k) (and_then (cell_found_names r a vs k) (and_then (area_by_names r (offset_of a) vs k) (and_then (area_by_names r (resized a) vs k)
      (and_then (then_named r {x = λ u m1. Fine empty (noted a m1)} (λ u m1. Fine empty (noted a m1)) (cleared_names r a (rows * c) k) (λ u m1 n1 k1. fine r refl (noted_same r a k1)))
      (and_then (fine r refl k) (and_then (fine r refl k) no_more))))))))))))))
  member_value_names d (host.RowsOf count) i vs k = fine r refl k
  member_value_names d (host.ColumnsOf count) i vs k = fine r refl k

  member_begun_names : {m n : Memory} (d : Declarations) (x : HostRef) (how : HostMember) (j : ℕ) → Same r m n → Names r nv (member_begun d x how j m) (member_begun d x how j n)
  member_begun_names d x how j k =
      both r (are_places x how j) (then_named r _ (member_value_names d x (number_of how) [] k) (λ v m1 n1 k1. can_index_names r v j k1)) (empty_behind (fits_in_names r (takes x (number_of how)) j k))

  pub member_there_names : {m n : Memory} (d : Declarations) (name : List ℕ) (j : ℕ) (v : Val) → Same r m n → Names r nv (member_there d name j v m) (member_there d name j (nv v) n)
  member_there_names d name j (object Nothing) k = bad r 91 k
  member_there_names d name j (object (Heap id)) k = then_named r _ (collection_member_names r id.0 name k) (λ how m1 n1 k1. empty_behind (fits_in_names r (takes_in_collection how) j k1))
  member_there_names d name j (object (Host x)) k = then_named r _ (answered_same r (member_of x name) (member_of x name) refl k) (λ how m1 n1 k1. member_begun_names d x how j k1)
  member_there_names d name j v k = bad r 424 k

  first_given_names : {m n : Memory} (before : ℕ) (ps : List ℕ) → Same r m n → Names r nv (first_given before ps m) (first_given before ps n)
  first_given_names zero ps k = both r (list_any (λ p. p == 0) ps) (fine r {v = empty} refl k) (bad r 449 k)
  first_given_names (suc before) ps k = fine r refl k

  begun_by : {m n : Memory} (xs : List (List ℕ)) (ns : List ℕ) (by : ByName) (j : ℕ) (x : Option (List ℕ)) → parameters_given xs by.before by.names ≡ x → Same r m n → Names r nv (named_begun xs ns by j m) (named_begun xs ns by j n)
  begun_by xs ns by j None e k = rw e (bad r 450 k)
  begun_by xs ns by j (Some ps) e k = rw e (then_named r _ (fits_in_names r ns j k) (λ u m1 n1 k1. first_given_names by.before ps k1))

  named_begun_names : {m n : Memory} (xs : List (List ℕ)) (ns : List ℕ) (by : ByName) (j : ℕ) → Same r m n → Names r nv (named_begun xs ns by j m) (named_begun xs ns by j n)
  named_begun_names xs ns by j k = begun_by xs ns by j (parameters_given xs by.before by.names) refl k

  pub named_there_names : {m n : Memory} (name : List ℕ) (by : ByName) (j : ℕ) (v : Val) → Same r m n → Names r nv (named_there name by j v m) (named_there name by j (nv v) n)
  named_there_names name by j (object Nothing) k = bad r 91 k
  named_there_names name by j (object (Heap id)) k = then_named r _ (collection_member_names r id.0 name k) (λ how m1 n1 k1. named_begun_names (names_in_collection how) (takes_in_collection how) by j k1)
  named_there_names name by j (object (Host x)) k = then_named r _ (answered_same r (member_of x name) (member_of x name) refl k) (λ how m1 n1 k1. named_begun_names (parameter_names x (number_of how)) (takes x (number_of how)) by j k1)
  named_there_names name by j v k = bad r 424 k

  -- arguments that are given
  given_by : (v : Val) (vs ws : List Val) → as_given vs ≡ ws → as_given (values_named r vs) ≡ values_named r ws → as_given (values_named r (v ∷ vs)) ≡ values_named r (as_given (v ∷ vs))
  given_by missing vs [] e f = rw e (rw f refl)
  given_by missing vs (w ∷ ws) e f = rw e (rw f refl)
  given_by (object o) vs ws e f = rw e (rw f refl)
  given_by v vs ws e f = rw e (rw f refl)

  pub given_named : (vs : List Val) → as_given (values_named r vs) ≡ values_named r (as_given vs)
  given_named [] = refl
  given_named (v ∷ vs) = given_by v vs (as_given vs) refl (given_named vs)

  member_by_names : {m n : Memory} (d : Declarations) (x : HostRef) (how : HostMember) (vs : List Val) (begun : Val) → Same r m n → Names r nv (member_by d x how vs begun m) (member_by d x how (values_named r vs) (nv begun) n)
  member_by_names d x how vs begun k =
      both_by r (are_places x how (length vs)) _ (ap (λ j. are_places x how j) (length-map vs nv)) (item_names r begun vs k) (member_value_names d x (number_of how) vs k)

  by_given : {m n : Memory} (d : Declarations) (x : HostRef) (how : HostMember) (vs : List Val) (begun : Val) → Same r m n → Names r nv (member_by d x how (as_given vs) begun m) (member_by d x how (as_given (values_named r vs)) (nv begun) n)
  by_given {m = m} {n = n} d x how vs begun k = subst (λ ws. Names r nv (member_by d x how (as_given vs) begun m) (member_by d x how ws (nv begun) n)) (sym (given_named vs)) (member_by_names d x how (as_given vs) begun k)

  pub member_called_names : {m n : Memory} (d : Declarations) (name : List ℕ) (vs : List Val) (base begun : Val) → Same r m n → Names r nv (member_called d name vs base begun m) (member_called d name (values_named r vs) (nv base) (nv begun) n)
  member_called_names d name vs (object (Host x)) begun k = then_named r _ (answered_same r (member_of x name) (member_of x name) refl k) (λ how m1 n1 k1. by_given d x how vs begun k1)
  member_called_names d name vs (object Nothing) begun k = bad r 424 k
  member_called_names d name vs (object (Heap id)) begun k = bad r 424 k
  member_called_names d name vs v begun k = bad r 424 k

  pub object_member_names : {m n : Memory} (name : List ℕ) (vs : List Val) (base : Val) → Same r m n → Names r (pair_named r) (object_member name vs base m) (object_member name (values_named r vs) (nv base) n)
  object_member_names name vs (object (Heap id)) k =
      then_named r _ (collection_member_names r id.0 name k) (λ how m1 n1 k1.
      subst (λ ws. Names r (pair_named r) (collection_used id.0 how (as_given vs) m1) (collection_used (r id.0) how ws n1)) (sym (given_named vs)) (collection_used_names r id.0 how (as_given vs) k1))
  object_member_names name vs (object Nothing) k = bad r 424 k
  object_member_names name vs (object (Host x)) k = bad r 424 k
  object_member_names name vs v k = bad r 424 k

  -- ---- places that are assigned to

  assigned_here : {m n : Memory} (p : Path) (v : Val) → Same r m n → Names r plainly (on_fine (plain v m) (λ w m1. assigned p w m1)) (on_fine (plain (nv v) n) (λ w m1. assigned (np p) w m1))
  assigned_here p v k = then_named r _ (plain_names r v k) (λ w m1 n1 k1. assigned_names r p w k1)

  item_written_names : {m n : Memory} (w : Val) (steps : List Step) (v : Val) → Same r m n → Names r plainly (item_written w steps v m) (item_written (nv w) steps (nv v) n)
  item_written_names w [] v k = written_default_names r w v k
  item_written_names w (t ∷ steps) v k = then_named r {x = λ x m1. done m1} (λ x m1. done m1) (plain_names r v k) (λ x m1 n1 k1. fine r refl k1)

  assigned_from : {m n : Memory} (root : Root) (steps : List Step) (of : Declared) (bounded : Bool) (makes : Option ℕ) (v : Val)
      → let p : Path = record { root = root; steps = steps; of = of; bounded = bounded; makes = makes } in Same r m n → Names r plainly (assigned_at p v m) (assigned_at (np p) (nv v) n)
  assigned_from (in_object o) steps of bounded makes v k = written_default_names r (object o) v k
  assigned_from (in_item w) steps of bounded makes v k = item_written_names w steps v k
  assigned_from (in_frame j x) steps of bounded makes v k = assigned_here (record { root = in_frame j x; steps = steps; of = of; bounded = bounded; makes = makes }) v k
  assigned_from (in_project x) steps of bounded makes v k = assigned_here (record { root = in_project x; steps = steps; of = of; bounded = bounded; makes = makes }) v k
  assigned_from (in_fields o i) steps of bounded makes v k = assigned_here (record { root = in_fields o i; steps = steps; of = of; bounded = bounded; makes = makes }) v k
  assigned_from (in_block j i) steps of bounded makes v k = assigned_here (record { root = in_block j i; steps = steps; of = of; bounded = bounded; makes = makes }) v k

  pub assigned_at_names : {m n : Memory} (p : Path) (v : Val) → Same r m n → Names r plainly (assigned_at p v m) (assigned_at (np p) (nv v) n)
  assigned_at_names p v k = assigned_from p.root p.steps p.of p.bounded p.makes v k

  item_given : {m n : Memory} (base : Val) (vs : List Val) (v : Val) → Same r m n
      → Names r plainly (on_fine (item_by base vs m) (λ w m1. on_fine (plain v m1) (λ x m2. done m2))) (on_fine (item_by (nv base) (values_named r vs) n) (λ w m1. on_fine (plain (nv v) m1) (λ x m2. done m2)))
  item_given base vs v k = then_named r _ (item_names r base vs k) (λ w m1 n1 k1. then_named r {x = λ x m2. done m2} (λ x m2. done m2) (plain_names r v k1) (λ x m2 n2 k2. fine r refl k2))

  pub item_assigned_names : {m n : Memory} (base : Val) (vs : List Val) (v : Val) → Same r m n → Names r plainly (item_assigned base vs v m) (item_assigned (nv base) (values_named r vs) (nv v) n)
  item_assigned_names (object o) vs v k = then_named r _ (item_of_object_names r o vs k) (λ w m1 n1 k1. written_default_names r w v k1)
  item_assigned_names (array bounds of items) vs v k = item_given (array bounds of items) vs v k
  item_assigned_names (udt number fields) vs v k = item_given (udt number fields) vs v k
  item_assigned_names base vs v k = item_given base vs v k

  -- ---- members that are assigned to

  marked : {m n : Memory} (i : ℕ) (b : Bool) → Same r m n → Same r (with_mark i b m) (with_mark i b n)
  marked zero b k = same_by r (with_mark zero b) (with_mark zero b) (λ cs. refl) refl refl k
  marked (suc zero) b k = same_by r (with_mark 1 b) (with_mark 1 b) (λ cs. refl) refl refl k
  marked (suc (suc i)) b k = same_by r (with_mark (suc (suc i)) b) (with_mark (suc (suc i)) b) (λ cs. refl) refl refl k

  true_blind : (v : Val) → is_true (nv v) ≡ is_true v
  true_blind (object o) = refl
  true_blind v = refl

  mark_names : {m n : Memory} (i : ℕ) (v : Val) → Same r m n → Names r plainly (mark_set i v m) (mark_set i (nv v) n)
  mark_names i v k =
      then_named r _ (plain_names r v k) (λ w m1 n1 k1. then_by r (coerced_names r type.boolean w k1) (λ b c m2 n2 e k2.
      fine r refl (subst (λ t. Same r (with_mark i (is_true b) m2) (with_mark i t n2)) (sym (ap (λ u. is_true u) e ∙ true_blind b)) (marked i (is_true b) k2))))

  through_names : {m n : Memory} (places : Bool) (w v : Val) → Same r m n → Names r plainly (assigned_through places w v m) (assigned_through places (nv w) (nv v) n)
  through_names places (object o) v k = written_default_names r (object o) v k
  through_names places w v k = both r places (fine r refl k) (bad r 438 k)

  through_to : {m n : Memory} (a b : Bool) (w v : Val) → b ≡ a → Same r m n → Names r plainly (assigned_through a w v m) (assigned_through b (nv w) (nv v) n)
  through_to {m = m} {n = n} a b w v e k = subst (λ t. Names r plainly (assigned_through a w v m) (assigned_through t (nv w) (nv v) n)) (sym e) (through_names a w v k)

  set_through : {m n : Memory} (d : Declarations) (x : HostRef) (how : HostMember) (vs : List Val) (begun v : Val) → Same r m n
      → Names r plainly (on_fine (member_by d x how vs begun m) (λ w m1. assigned_through (are_places x how (length vs)) w v m1))
      (on_fine (member_by d x how (values_named r vs) (nv begun) n) (λ w m1. assigned_through (are_places x how (length (values_named r vs))) w (nv v) m1))
  set_through d x how vs begun v k =
      then_named r _ (member_by_names d x how vs begun k) (λ w m1 n1 k1. through_to (are_places x how (length vs)) (are_places x how (length (values_named r vs))) w v (ap (λ j. are_places x how j) (length-map vs nv)) k1)

  member_set_names : {m n : Memory} (d : Declarations) (x : HostRef) (how : HostMember) (vs : List Val) (begun v : Val) → Same r m n → Names r plainly (member_set d x how vs begun v m) (member_set d x how (values_named r vs) (nv begun) (nv v) n)
  member_set_names d x (Call i) vs begun v k = bad r 438 k
  member_set_names d host.Application (Write i) [] begun v k = mark_names i v k
  member_set_names d (host.Area s t l rows c) (Write i) [] begun v k = area_written_names r (area_in s t l rows c) v k
  member_set_names d x how [] begun v k = set_through d x how [] begun v k
  member_set_names d host.Application (Write i) (w ∷ vs) begun v k = set_through d host.Application (Write i) (w ∷ vs) begun v k
  member_set_names d (host.Area s t l rows c) (Write i) (w ∷ vs) begun v k = set_through d (host.Area s t l rows c) (Write i) (w ∷ vs) begun v k
  member_set_names d x how (w ∷ vs) begun v k = set_through d x how (w ∷ vs) begun v k

  through_item_names : {m n : Memory} (o : ℕ) (how : CollectionMember) (vs : List Val) (v : Val) → Same r m n → Names r plainly (through_item o how vs v m) (through_item (r o) how (values_named r vs) (nv v) n)
  through_item_names o is_item vs v k = then_named r _ (item_found_names r o vs k) (λ w m1 n1 k1. written_default_names r w v k1)
  through_item_names o member vs v k = bad r 438 k

  pub member_assigned_names : {m n : Memory} (d : Declarations) (name : List ℕ) (vs : List Val) (base begun v : Val) → Same r m n
      → Names r plainly (member_assigned d name vs base begun v m) (member_assigned d name (values_named r vs) (nv base) (nv begun) (nv v) n)
  member_assigned_names d name vs (object (Heap id)) begun v k =
      then_named r _ (collection_member_names r id.0 name k) (λ how m1 n1 k1.
      subst (λ ws. Names r plainly (through_item id.0 how (as_given vs) v m1) (through_item (r id.0) how ws (nv v) n1)) (sym (given_named vs)) (through_item_names id.0 how (as_given vs) v k1))
  member_assigned_names d name vs (object (Host x)) begun v k =
      then_named r _ (answered_same r (member_of x name) (member_of x name) refl k) (λ how m1 n1 k1.
      subst (λ ws. Names r plainly (member_set d x how (as_given vs) begun v m1) (member_set d x how ws (nv begun) (nv v) n1)) (sym (given_named vs)) (member_set_names d x how (as_given vs) begun v k1))
  member_assigned_names d name vs (object Nothing) begun v k = bad r 424 k
  member_assigned_names d name vs base begun v k = bad r 424 k

  pub member_not_set_names : {m n : Memory} (base : Val) → Same r m n → Names r plainly (member_not_set base m) (member_not_set (nv base) n)
  member_not_set_names (object Nothing) k = bad r 91 k
  member_not_set_names (object (Heap id)) k = bad r 438 k
  member_not_set_names (object (Host h)) k = bad r 438 k
  member_not_set_names base k = bad r 424 k
