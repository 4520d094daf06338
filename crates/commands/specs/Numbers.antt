-- Words that are numbers, and words that are bytes in hexadecimal.
--   digits   decimal digits (bytes 48 to 57), or hexadecimal digits of either case (also 65 to 70 and 97 to 102)
--   number   decimal digits up to 4294967295; leading zeros change nothing
--   hex      an even count of hexadecimal digits, two to a byte, the higher first
-- Assumes nothing.
use Rattle.std.specs.Prelude.{ℕ, ◌+◌, ◌-◌, ◌*◌, ◌/◌, ◌%◌, Bool, cond, ◌&&◌, List, [], ◌∷◌, length, map, slice_index, Some, None, Err, Option, Result, ◌==◌, nat_le}
use Rattle.std.specs.Char.{is_ascii_digit, is_ascii_hexdigit}
use Rattle.std.specs.List.{list_all}
use Rattle.std.specs.Option.{ok_or}
use Rattle.std.specs.Simd.{first_chunks}
use Rattle.commands.specs.declared.command.Unreadable.{Unreadable}

-- Every byte is a decimal digit.
abbrev pub is_decimal : List ℕ → Bool
is_decimal w = list_all is_ascii_digit w

-- The number that digits spell, after those that spell n.
unfoldable pub spells : ℕ → List ℕ → ℕ
spells n [] = n
spells n (b ∷ bs) = spells (n * 10 + (b - 48)) bs

-- A number that the calls take: one of 32 bits.
abbrev pub small : ℕ → Option ℕ
small n = cond (nat_le n 4294967295) (Some n) None

-- The number that a word is.
abbrev pub number : List ℕ → Result ℕ Unreadable
number w = cond (is_decimal w) (ok_or (small (spells 0 w)) Unreadable.TooLarge) (Err Unreadable.NoNumber)

-- A row of bytes in hexadecimal.
abbrev pub is_hex : List ℕ → Bool
is_hex w = length w % 2 == 0 && list_all is_ascii_hexdigit w

-- From lo to hi.
abbrev pub among : ℕ → ℕ → ℕ → Bool
among lo hi b = nat_le lo b && nat_le b hi

-- What a hexadecimal digit counts; 0 for any other byte.
abbrev pub nibble : ℕ → ℕ
nibble b = cond (among 48 57 b) (b - 48) (cond (among 65 70 b) (b - 55) (cond (among 97 102 b) (b - 87) 0))

-- The bytes that pairs of digits stand for, one after another; a last digit alone stands for none.
abbrev pub decoded : List ℕ → List ℕ
decoded w = map (λ p. 16 * nibble (slice_index p 0) + nibble (slice_index p 1)) (first_chunks 2 (length w / 2) w)
