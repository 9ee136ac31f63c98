-- The messages of errors.
use Rattle.std.specs.Prelude.{ℤ, pos, negsuc, ◌==◌, List, ℕ, codes, if◌then◌else◌}

-- the message of an error's number
abbrev pub message_of : ℤ → List ℕ
message_of (pos n) =
    if n == 3 then codes "Return without GoSub"
    else if n == 5 then codes "Invalid procedure call or argument"
    else if n == 6 then codes "Overflow"
    else if n == 9 then codes "Subscript out of range"
    else if n == 10 then codes "This array is fixed or temporarily locked"
    else if n == 11 then codes "Division by zero"
    else if n == 13 then codes "Type mismatch"
    else if n == 20 then codes "Resume without error"
    else if n == 28 then codes "Out of stack space"
    else if n == 91 then codes "Object variable or With block variable not set"
    else if n == 92 then codes "For loop not initialized"
    else if n == 94 then codes "Invalid use of Null"
    else if n == 424 then codes "Object required"
    else if n == 438 then codes "Object doesn't support this property or method"
    else if n == 449 then codes "Argument not optional"
    else if n == 450 then codes "Wrong number of arguments or invalid property assignment"
    else if n == 457 then codes "This key is already associated with an element of this collection"
    else codes "Application-defined or object-defined error"
message_of (negsuc n) = codes "Application-defined or object-defined error"
