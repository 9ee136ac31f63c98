-- Keys are the same exactly where they compare as equal.
use Rattle.std.proofs.Common.{◌≡◌, ℕ, Bool, true, false, refl, sym, ap, ◌∙◌, arith}
use Rattle.std.specs.Prelude.{◌&&◌, nat_eq, nat_lt, cond, ◌==◌}
use Rattle.std.specs.BTreeMap.{is_at}
use Rattle.std.specs.Ordering.{is_eq, ordering_then, nat_cmp}
use Rattle.std.specs.Cmp.{IsTotalOrder, then_total, on_total, nat_cmp_total}
use Rattle.std.specs.declared.cmp.Ordering.{Ordering}
use Rattle.std.specs.declared.cmp.Ordering.TheVariants.{Less, Equal, Greater}
use Rattle.std.proofs.lemmas.Bool.{ltb-true, eqb-true, eq-eqb, ne_eqb}
use mathlib.Core.Bool.{true≢false}
use Rattle.vba_values.specs.declared.object.HostRef.{HostRef}
use Rattle.vba_values.specs.declared.object.HostRef.TheVariants.{Application, Workbook, Sheets, ErrObject, Sheet, Area, RowsOf, ColumnsOf}
use Rattle.vba_values.specs.declared.object.ObjRef.{ObjRef}
use Rattle.vba_values.specs.declared.object.ObjRef.TheVariants.{Nothing, Heap, Host}
use Rattle.vba_values.specs.contracts.object.ObjRefOrd.TheImpl as object
use Rattle.vba_values.specs.contracts.object.HostRefOrd.TheImpl as host
use Rattle.vba_values.specs.contracts.object.ObjIdOrd.TheImpl as id
use Rattle.vba_events.specs.declared.linked.Linked.{Linked}
use Rattle.vba_events.specs.Links.{same_link}
use Rattle.vba_values.specs.Objects.{same_host, same_object}
use Rattle.vba_events.specs.Kept.{SourceKey, SinkKey, same_source_key, same_sink_key}

both : (a b : Bool) → (a && b) ≡ true → (a ≡ true) × (b ≡ true)
both true b h = (refl, h)
both false b h = absurd (true≢false (sym h))

itself : (n : ℕ) → nat_eq n n ≡ true
itself n = eq-eqb n n refl

pub same_host_itself : (h : HostRef) → same_host h h ≡ true
same_host_itself Application = refl
same_host_itself Workbook = refl
same_host_itself Sheets = refl
same_host_itself ErrObject = refl
same_host_itself (Sheet sheet) = itself sheet
same_host_itself (Area sheet top left rows columns) =
    ap (λ b. b && (nat_eq top top && (nat_eq left left && (nat_eq rows rows && nat_eq columns columns)))) (itself sheet)
    ∙ ap (λ b. b && (nat_eq left left && (nat_eq rows rows && nat_eq columns columns))) (itself top)
    ∙ ap (λ b. b && (nat_eq rows rows && nat_eq columns columns)) (itself left)
    ∙ ap (λ b. b && nat_eq columns columns) (itself rows) ∙ itself columns
same_host_itself (RowsOf count) = itself count
same_host_itself (ColumnsOf count) = itself count

pub same_object_itself : (o : ObjRef) → same_object o o ≡ true
same_object_itself Nothing = refl
same_object_itself (Heap id) = itself id.0
same_object_itself (Host host) = same_host_itself host

eq_nat : (a b : ℕ) → is_eq (nat_cmp a b) ≡ nat_eq a b
eq_nat a b = by_less (nat_lt a b) refl where
  by_equal : (t : Bool) → is_eq (cond t Equal Greater) ≡ t
  by_equal true = refl
  by_equal false = refl

  by_less : (t : Bool) → nat_lt a b ≡ t → is_eq (cond t Less (cond (a == b) Equal Greater)) ≡ nat_eq a b
  by_less true e = sym (ne_eqb a b (λ same. absurd (omega (arith, ltb-true a b e, same))))
  by_less false e = by_equal (a == b)

eq_then : (o p : Ordering) → is_eq (ordering_then o p) ≡ (is_eq o && is_eq p)
eq_then Less p = refl
eq_then Equal p = refl
eq_then Greater p = refl

eq_more : (a b : ℕ) (o : Ordering) (t : Bool) → is_eq o ≡ t → is_eq (ordering_then (nat_cmp a b) o) ≡ (nat_eq a b && t)
eq_more a b o t is = eq_then (nat_cmp a b) o ∙ ap (λ s. s && is_eq o) (eq_nat a b) ∙ ap (λ s. nat_eq a b && s) is

host_tied : (a b : HostRef) → is_eq (host.ghosts.cmp a b) ≡ same_host a b
host_tied Application Application = refl
host_tied Workbook Workbook = refl
host_tied Sheets Sheets = refl
host_tied ErrObject ErrObject = refl
host_tied (Sheet a) (Sheet b) = eq_nat a b
host_tied (Area sheet top left rows columns) (Area sheet' top' left' rows' columns') =
    eq_more sheet sheet' _ _ (eq_more top top' _ _ (eq_more left left' _ _ (eq_more rows rows' _ _ (eq_nat columns columns'))))
host_tied (RowsOf a) (RowsOf b) = eq_nat a b
host_tied (ColumnsOf a) (ColumnsOf b) = eq_nat a b
host_tied _ _ = refl

pub object_tied : (a b : ObjRef) → is_eq (object.ghosts.cmp a b) ≡ same_object a b
object_tied Nothing Nothing = refl
object_tied (Heap a) (Heap b) = eq_nat a.0 b.0
object_tied (Host a) (Host b) = host_tied a b
object_tied _ _ = refl

same_host_true : (a b : HostRef) → same_host a b ≡ true → a ≡ b
same_host_true Application Application h = refl
same_host_true Workbook Workbook h = refl
same_host_true Sheets Sheets h = refl
same_host_true ErrObject ErrObject h = refl
same_host_true (Sheet a) (Sheet b) h = ap (λ n. Sheet n) (eqb-true a b h)
same_host_true (Area sheet top left rows columns) (Area sheet' top' left' rows' columns') h =
    let h0 = both (nat_eq sheet sheet') _ h in
    let h1 = both (nat_eq top top') _ h0.1 in
    let h2 = both (nat_eq left left') _ h1.1 in
    let h3 = both (nat_eq rows rows') _ h2.1 in
    ap (λ n. Area n top left rows columns) (eqb-true sheet sheet' h0.0)
    ∙ ap (λ n. Area sheet' n left rows columns) (eqb-true top top' h1.0)
    ∙ ap (λ n. Area sheet' top' n rows columns) (eqb-true left left' h2.0)
    ∙ ap (λ n. Area sheet' top' left' n columns) (eqb-true rows rows' h3.0)
    ∙ ap (λ n. Area sheet' top' left' rows' n) (eqb-true columns columns' h3.1)
same_host_true (RowsOf a) (RowsOf b) h = ap (λ n. RowsOf n) (eqb-true a b h)
same_host_true (ColumnsOf a) (ColumnsOf b) h = ap (λ n. ColumnsOf n) (eqb-true a b h)
same_host_true _ _ h = absurd (true≢false (sym h))

pub same_object_true : (a b : ObjRef) → same_object a b ≡ true → a ≡ b
same_object_true Nothing Nothing h = refl
same_object_true (Heap a) (Heap b) h = ap (λ n. Heap (record { 0 = n })) (eqb-true a.0 b.0 h)
same_object_true (Host a) (Host b) h = ap (λ n. Host n) (same_host_true a b h)
same_object_true _ _ h = absurd (true≢false (sym h))

-- how the keys compare
abbrev pub source_cmp : SourceKey → SourceKey → Ordering
source_cmp a b = ordering_then (object.ghosts.cmp a.0 b.0) (nat_cmp a.1 b.1)

abbrev pub sink_cmp : SinkKey → SinkKey → Ordering
sink_cmp a b = ordering_then (id.ghosts.cmp a.0 b.0) (nat_cmp a.1 b.1)

pub source_tied : (a b : SourceKey) → is_at (source_cmp a) b ≡ same_source_key a b
source_tied a b = eq_then (object.ghosts.cmp a.0 b.0) (nat_cmp a.1 b.1) ∙ ap (λ t. t && is_eq (nat_cmp a.1 b.1)) (object_tied a.0 b.0) ∙ ap (λ t. same_object a.0 b.0 && t) (eq_nat a.1 b.1)

pub sink_tied : (a b : SinkKey) → is_at (sink_cmp a) b ≡ same_sink_key a b
sink_tied a b = eq_more a.0.0 b.0.0 (nat_cmp a.1 b.1) (nat_eq a.1 b.1) (eq_nat a.1 b.1)

pub sink_total : IsTotalOrder sink_cmp
sink_total = then_total (on_total (λ k. k.0.0) nat_cmp_total) (on_total (λ k. k.1) nat_cmp_total)

pub source_itself : (k : SourceKey) → same_source_key k k ≡ true
source_itself k = ap (λ t. t && nat_eq k.1 k.1) (same_object_itself k.0) ∙ itself k.1

pub sink_itself : (k : SinkKey) → same_sink_key k k ≡ true
sink_itself k = ap (λ t. t && nat_eq k.1 k.1) (itself k.0.0) ∙ itself k.1

pub source_true : (a b : SourceKey) → same_source_key a b ≡ true → a ≡ b
source_true a b h =
    let h0 = both (same_object a.0 b.0) _ h in
    ap (λ o. let k : SourceKey = (o, a.1) in k) (same_object_true a.0 b.0 h0.0) ∙ ap (λ n. let k : SourceKey = (b.0, n) in k) (eqb-true a.1 b.1 h0.1)

pub sink_true : (a b : SinkKey) → same_sink_key a b ≡ true → a ≡ b
sink_true a b h =
    let h0 = both (nat_eq a.0.0 b.0.0) _ h in
    ap (λ n. let k : SinkKey = (record { 0 = n }, a.1) in k) (eqb-true a.0.0 b.0.0 h0.0) ∙ ap (λ n. let k : SinkKey = (b.0, n) in k) (eqb-true a.1 b.1 h0.1)

-- keys that are the same find the same
pub source_alike : (k x y : SourceKey) → same_source_key k x ≡ true → same_source_key k y ≡ same_source_key x y
source_alike k x y h = ap (λ z. same_source_key z y) (source_true k x h)

pub sink_alike : (k x y : SinkKey) → same_sink_key k x ≡ true → same_sink_key k y ≡ same_sink_key x y
sink_alike k x y h = ap (λ z. same_sink_key z y) (sink_true k x h)

-- links are the same exactly where they are equal
pub same_link_true : (a b : Linked) → same_link a b ≡ true → a ≡ b
same_link_true a b h =
    let h0 = both (same_object a.source b.source) _ h in
    let h1 = both (same_sink_key (a.sink, a.field) (b.sink, b.field)) _ h0.1 in
    let key = sink_true (a.sink, a.field) (b.sink, b.field) h1.0 in
    ap (λ o. let l : Linked = record a { source = o } in l) (same_object_true a.source b.source h0.0)
    ∙ ap (λ k. let l : Linked = record { source = b.source; sink = k.0; field = k.1; number = a.number } in l) key
    ∙ ap (λ n. let l : Linked = record b { number = n } in l) (eqb-true a.number b.number h1.1)

pub same_link_itself : (a : Linked) → same_link a a ≡ true
same_link_itself a =
    ap (λ t. t && (same_sink_key (a.sink, a.field) (a.sink, a.field) && nat_eq a.number a.number)) (same_object_itself a.source)
    ∙ ap (λ t. t && nat_eq a.number a.number) (sink_itself (a.sink, a.field)) ∙ itself a.number
