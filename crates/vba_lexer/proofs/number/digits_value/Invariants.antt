use Rattle.std.proofs.Common.{◌≡◌, ◌≤◌, min, drop}
use Rattle.vba_lexer.specs.Numbers.{value_from, digits_value}
use Rattle.vba_lexer.proofs.number.digits_value.Given as goal

-- the value so far, and what the digits from here on make of it
abbrev pub invariant-loop-digit : goal.invariant-loop-digit
invariant-loop-digit l =
    record {
      cut : l.value ≤ 0x1_0000_0000_0000_0000;
      goes_on : min (value_from l.base l.value (drop l.digit-index l.digits)) 0x1_0000_0000_0000_0000
          ≡ min (digits_value l.base l.digits) 0x1_0000_0000_0000_0000;
    }
