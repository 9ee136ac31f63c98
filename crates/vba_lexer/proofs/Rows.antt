-- Worked rows.
use Rattle.std.specs.Prelude.{◌≡◌, pos, negsuc, [], ◌∷◌, ◌++◌, refl, codes, Ok, Err}
use Rattle.vba_lexer.specs.declared.token.TokenKind.TheVariants.{Word, Whole, Fixed, Text, DateMark, Mark, BadMark}
use Rattle.vba_lexer.specs.declared.lines.Ending.TheVariants as endings
use Rattle.vba_lexer.specs.declared.number.NumberKind.TheVariants.{Integer, Long, LongLong, Currency}
use Rattle.vba_lexer.specs.declared.number.NumberFault.TheVariants.{OutOfRange, Double}
use Rattle.vba_lexer.specs.Continuations.{logical_lines}
use Rattle.vba_lexer.specs.Lines.{lines_of}
use Rattle.vba_lexer.specs.Numbers.{number_of}
use Rattle.vba_lexer.specs.Tokens.{slices_of}

pub words_and_marks : slices_of (codes " a.b 2+30&")
    ≡ record { kind = Word; start = 1; end = 2 } ∷ record { kind = Mark; start = 2; end = 3 } ∷ record { kind = Word; start = 3; end = 4 }
    ∷ record { kind = Whole; start = 5; end = 6 } ∷ record { kind = Mark; start = 6; end = 7 } ∷ record { kind = Whole; start = 7; end = 10 } ∷ []
words_and_marks = refl

-- a doubled quote stays inside; a quote that is not closed is a bad mark
pub texts : slices_of (codes "\"a\"\"b\" \"c")
    ≡ record { kind = Text; start = 0; end = 6 } ∷ record { kind = BadMark; start = 7; end = 8 } ∷ record { kind = Word; start = 8; end = 9 } ∷ []
texts = refl

-- & before an operand is a mark, and a suffix elsewhere
pub suffixes : slices_of (codes "a&b c& <=:=")
    ≡ record { kind = Word; start = 0; end = 1 } ∷ record { kind = Mark; start = 1; end = 2 } ∷ record { kind = Word; start = 2; end = 3 }
    ∷ record { kind = Word; start = 4; end = 6 } ∷ record { kind = Mark; start = 7; end = 9 } ∷ record { kind = Mark; start = 9; end = 11 } ∷ []
suffixes = refl

-- numbers with a point and an exponent, in hexadecimal and octal digits, and a name in brackets
pub numbers : slices_of (codes "1.5@ .5 1E-2 &HFF &17 [a b]")
    ≡ record { kind = Fixed; start = 0; end = 4 } ∷ record { kind = Fixed; start = 5; end = 7 } ∷ record { kind = Fixed; start = 8; end = 12 }
    ∷ record { kind = Whole; start = 13; end = 17 } ∷ record { kind = Whole; start = 18; end = 21 } ∷ record { kind = Word; start = 22; end = 27 } ∷ []
numbers = refl

-- a date, which is none at the front of its line
pub dates : slices_of (codes "#a# #1 2#") ≡ record { kind = Mark; start = 0; end = 1 } ∷ record { kind = Word; start = 1; end = 3 } ∷ record { kind = DateMark; start = 4; end = 9 } ∷ []
dates = refl

-- comments: Rem first on its line or behind a colon, and `'`
pub comments : slices_of (codes "Rem a") ≡ []
comments = refl

pub comments_behind : slices_of (codes "a: rem b") ≡ record { kind = Word; start = 0; end = 1 } ∷ record { kind = Mark; start = 1; end = 2 } ∷ []
comments_behind = refl

pub no_comments : slices_of (codes "a rem 'b") ≡ record { kind = Word; start = 0; end = 1 } ∷ record { kind = Word; start = 2; end = 5 } ∷ []
no_comments = refl

pub line_ends : lines_of (codes "a" ++ 13 ∷ 10 ∷ 13 ∷ 98 ∷ 10 ∷ 0x2028 ∷ [])
    ≡ record { text = 97 ∷ []; ending = endings.ReturnFeed } ∷ record { text = []; ending = endings.Return } ∷ record { text = 98 ∷ []; ending = endings.Feed }
    ∷ record { text = []; ending = endings.LineSeparator } ∷ record { text = []; ending = endings.FileEnd } ∷ []
line_ends = refl

-- a continued line: a blank for the `_`, and LF for the line end
pub continued : logical_lines (codes "a _" ++ 13 ∷ 10 ∷ codes "b")
    ≡ record { first = record { units = 0; line = 1; column = 1 }; text = codes "a  " ++ 32 ∷ 10 ∷ codes "b" } ∷ []
continued = refl

-- no white space before the `_`, and a `_` at the end of the source
pub not_continued : logical_lines (codes "a_" ++ 10 ∷ codes "b _")
    ≡ record { first = record { units = 0; line = 1; column = 1 }; text = codes "a_" } ∷ record { first = record { units = 3; line = 2; column = 1 }; text = codes "b _" } ∷ []
not_continued = refl

pub decimal_integer : number_of (codes "32767") ≡ Ok (record { kind = Integer; value = pos 32767 })
decimal_integer = refl

pub decimal_long : number_of (codes "32768") ≡ Ok (record { kind = Long; value = pos 32768 })
decimal_long = refl

pub decimal_double : number_of (codes "2147483648") ≡ Err Double
decimal_double = refl

pub decimal_out_of_range : number_of (codes "32768%") ≡ Err OutOfRange
decimal_out_of_range = refl

pub hexadecimal_negative : number_of (codes "&H8000") ≡ Ok (record { kind = Integer; value = negsuc 32767 })
hexadecimal_negative = refl

pub hexadecimal_long : number_of (codes "&HFFFF&") ≡ Ok (record { kind = Long; value = pos 65535 })
hexadecimal_long = refl

pub hexadecimal_long_negative : number_of (codes "&HFFFFFFFF") ≡ Ok (record { kind = Long; value = negsuc 0 })
hexadecimal_long_negative = refl

pub hexadecimal_zeros : number_of (codes "&H00000000000000001^") ≡ Ok (record { kind = LongLong; value = pos 1 })
hexadecimal_zeros = refl

pub octal : number_of (codes "&17") ≡ Ok (record { kind = Integer; value = pos 15 })
octal = refl

-- half to even at the fifth place
pub currency_even : number_of (codes "0.00025@") ≡ Ok (record { kind = Currency; value = pos 2 })
currency_even = refl

pub currency_odd : number_of (codes ".00035@") ≡ Ok (record { kind = Currency; value = pos 4 })
currency_odd = refl

pub currency_limit : number_of (codes "922337203685477.58075@") ≡ Err OutOfRange
currency_limit = refl

pub currency_exponent : number_of (codes "1E5@") ≡ Err OutOfRange
currency_exponent = refl

pub fixed_double : number_of (codes "1.5") ≡ Err Double
fixed_double = refl
