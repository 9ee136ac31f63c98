-- Currency as a text.
use Rattle.std.specs.Prelude.{ℕ, suc, zero, ◌+◌, ◌/◌, ◌%◌, ◌^◌, ◌==◌, if◌then◌else◌, ℤ, pos, negsuc, List, [], ◌∷◌, ◌++◌}
use Rattle.std.specs.Fmt.{decimal}
use Rattle.currency.specs.NumberText.{minus, point}

-- so many decimals of the part / 10 ^ places that is below one, up to the last that isn't 0
abbrev pub decimals : ℕ → ℕ → List ℕ
decimals zero part = []
decimals (suc places) part = if part == 0 then [] else (48 + part / 10 ^ places) ∷ decimals places (part % 10 ^ places)

-- a point only where decimals follow it
abbrev pub printed_fraction : ℕ → List ℕ
printed_fraction part = if part == 0 then [] else point ∷ decimals 4 part

-- so many ten-thousandths without a sign
abbrev pub printed_size : ℕ → List ℕ
printed_size count = decimal (count / 10000) ++ printed_fraction (count % 10000)

-- a minus before negative amounts alone
unfoldable pub printed : ℤ → List ℕ
printed (pos count) = printed_size count
printed (negsuc count) = minus ∷ printed_size (suc count)
