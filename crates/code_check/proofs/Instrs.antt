-- The instruction at an address.
use Rattle.std.proofs.Common.{◌≡◌, ◌↔◌, ℕ, ◌+◌, ◌<◌, ◌≤◌, Bool, true, eqb, Some, inl, inr, refl, sym, ap, ◌∙◌, subst, arith}
use Rattle.std.specs.Prelude.{slice_get}
use Rattle.std.proofs.lemmas.Bool.{cases_eq, cases_lt, eq-eqb, eqb-true}
use Rattle.std.proofs.lemmas.List.{get_or_past}
use Rattle.std.proofs.lemmas.Option.{same_Some}
use Rattle.bound_project.specs.Pieces.{Tables}
use Rattle.pcode.specs.declared.instr.Instr.{Instr}
use Rattle.pcode.specs.declared.instr.Instr.TheVariants as instr
use Rattle.pcode.specs.Instructions as plain
use Rattle.pcode.specs.Instructions.{Code, list_or, entry_of}
use Rattle.pcode.specs.View.{instr_view}
use Rattle.pcode.specs.WellFormed.{statement_count, Leads, Sound}
use Rattle.code_check.specs.Questions.{TablesBegin, SoundAt}

-- only Begin is seen as Begin, and only Leave as Leave
not_begin : (t : Tables) (i : Instr) (k : ℕ) → ((n : ℕ) → i ≡ instr.Begin n → ⊥) → instr_view t i ≡ plain.Begin k → ⊥
not_begin t (instr.Begin n) k h e = h n refl
not_begin t i k h e = cc

not_leave : (t : Tables) (i : Instr) → (i ≡ instr.Leave → ⊥) → instr_view t i ≡ plain.Leave → ⊥
not_leave t instr.Leave h e = h refl
not_leave t i h e = cc

pub no_begin : (code : Code) (pc : ℕ) (t : Tables) (i : Instr) (k : ℕ) → Some (instr_view t i) ≡ slice_get code.instrs pc → ((n : ℕ) → i ≡ instr.Begin n → ⊥) → slice_get code.instrs pc ≡ Some (plain.Begin k) → ⊥
no_begin code pc t i k s h e = not_begin t i k h (same_Some (instr_view t i) (plain.Begin k) (s ∙ e))

pub no_leave : (code : Code) (pc : ℕ) (t : Tables) (i : Instr) → Some (instr_view t i) ≡ slice_get code.instrs pc → (i ≡ instr.Leave → ⊥) → slice_get code.instrs pc ≡ Some plain.Leave → ⊥
no_leave code pc t i s h e = not_leave t i h (same_Some (instr_view t i) plain.Leave (s ∙ e))

-- the number of the statement that begins at an address
pub begins_are : (code : Code) (pc own i : ℕ) → Some (plain.Begin own) ≡ slice_get code.instrs pc → ((own ≡ i) ↔ (slice_get code.instrs pc ≡ Some (plain.Begin i)))
begins_are code pc own i s = (λ e. sym s ∙ ap (λ n. Some (plain.Begin n)) e, λ e. (let j : plain.Begin own ≡ plain.Begin i = same_Some (plain.Begin own) (plain.Begin i) (s ∙ e) in cc))

pub sound_here : (code : Code) (p pc : ℕ) (i : plain.Instr) (b : Bool) → Some i ≡ slice_get code.instrs pc → ((b ≡ true) ↔ Sound code p i) → ((b ≡ true) ↔ SoundAt code p pc)
sound_here code p pc i b s f = (λ t j e. subst (Sound code p) (same_Some i j (s ∙ e)) (f.0 t), λ h. f.1 (h i (sym s)))

-- the numbers of one more instruction are sound
pub sounds_more : (code : Code) (p first k : ℕ) → ((pc : ℕ) → first ≤ pc → pc < k → SoundAt code p pc) → SoundAt code p k → (pc : ℕ) → first ≤ pc → pc < k + 1 → SoundAt code p pc
sounds_more code p first k before here = λ pc low high. (elim (cases_eq pc k) [ inl e ↦ subst (SoundAt code p) (sym e) here | inr ne ↦ before pc low (omega (arith, ne)) ])

-- ---- where jumps lead

entry_past : (code : Code) (p i : ℕ) → statement_count code p ≤ i → entry_of code p i ≡ 0
entry_past code p i h = get_or_past (list_or (slice_get code.entries p)) i 0 h

pub leads_to_end : (code : Code) (p to : ℕ) → to ≡ 0 → Leads code p to
leads_to_end code p to e = let n : statement_count code p ≤ statement_count code p = omega arith in (statement_count code p, n, e ∙ sym (entry_past code p (statement_count code p) n))

-- an address other than 0 to which a jump leads is that of a statement
lead_begins : (code : Code) (p to : ℕ) → TablesBegin code → 0 < to → Leads code p to → (i : ℕ) × (to ≡ entry_of code p i) × (slice_get code.instrs to ≡ Some (plain.Begin i))
lead_begins code p to begin h l =
    elim (cases_lt l.0 (statement_count code p)) [
      | inl lt ↦ (l.0, l.2, ap (slice_get code.instrs) l.2 ∙ (begin p l.0 lt).0)
      | inr le ↦ absurd (omega (arith, l.2, entry_past code p l.0 le))
    ]

pub leads_nowhere : (code : Code) (p to : ℕ) → TablesBegin code → 0 < to → ((k : ℕ) → slice_get code.instrs to ≡ Some (plain.Begin k) → ⊥) → Leads code p to → ⊥
leads_nowhere code p to begin h none l = let r = lead_begins code p to begin h l in none r.0 r.2

pub leads_if : (code : Code) (p to k : ℕ) → TablesBegin code → 0 < to → Some (plain.Begin k) ≡ slice_get code.instrs to → ((entry_of code p k ≡ to) ↔ Leads code p to)
leads_if code p to k begin h s = (
  λ e. elim (cases_lt k (statement_count code p)) [
    | inl lt ↦ (k, omega arith, sym e)
    | inr le ↦ absurd (omega (arith, e, entry_past code p k le))
  ],
  λ l. (
      let r = lead_begins code p to begin h l in
      let same : k ≡ r.0 = (begins_are code to k r.0 s).1 r.2 in
      ap (entry_of code p) same ∙ sym r.1),
)

-- the same as a test, with the address of that statement
pub leads_by : (code : Code) (p to k address : ℕ) → TablesBegin code → 0 < to → slice_get code.instrs to ≡ Some (plain.Begin k) → address ≡ entry_of code p k → ((eqb address to ≡ true) ↔ Leads code p to)
leads_by code p to k address begin h s e =
    let f = leads_if code p to k begin h (sym s) in
    (λ t. f.0 (sym e ∙ eqb-true address to t), λ l. eq-eqb address to (e ∙ f.1 l))
