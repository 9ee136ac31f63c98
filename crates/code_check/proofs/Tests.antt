-- What tests tell.
use Rattle.std.proofs.Common.{◌≡◌, ◌↔◌, Bool, true, false, refl, sym, ◌∙◌}
use Rattle.std.proofs.lemmas.Bool.{false≢true}

pub refused : {P : Type 0} → (P → ⊥) → ((false ≡ true) ↔ P)
refused h = (λ e. absurd (false≢true e), λ p. absurd (h p))

pub granted : {P : Type 0} → P → ((true ≡ true) ↔ P)
granted p = (λ e. p, λ q. refl)

-- two tests, one behind the other
pub both_hold : {a b : Bool} {P Q : Type 0} → ((a ≡ true) ↔ P) → a ≡ true → ((b ≡ true) ↔ Q) → ((b ≡ true) ↔ (P × Q))
both_hold f e g = (λ t. (f.0 e, g.0 t), λ h. g.1 h.1)

pub one_fails : {a : Bool} {P Q : Type 0} → ((a ≡ true) ↔ P) → a ≡ false → ((a ≡ true) ↔ (P × Q))
one_fails f e = (λ t. absurd (false≢true (sym e ∙ t)), λ h. absurd (false≢true (sym e ∙ f.1 h.0)))
