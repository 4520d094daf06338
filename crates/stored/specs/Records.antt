-- The records of a stored sheet.
--   record   eight bytes; the record of index i begins at byte 8 * i of the file
--   head     the record of index 0: 1, the first index of the chain, the drive's number, the mode, and four bytes 0
--   item     what any other record tells: a line with its two ends, or a rule
--   next     byte 1 of a record: the index of the record that follows in the chain, 0 for none
-- A number of two bytes has its low byte first. Assumes nothing.
use Rattle.std.specs.Prelude.{ℕ, ◌+◌, ◌*◌, ◌/◌, ◌%◌, Bool, cond, ◌&&◌, List, [], ◌∷◌, length, take, drop, Some, None, Option, ◌==◌, nat_le, slice_index}
use Rattle.law.specs.declared.calls.Call.{Call}
use Rattle.law.specs.declared.calls.Rule.{Rule}
use Rattle.stored.specs.declared.item.Item.{Item}

-- How many records a file has, the head among them.
abbrev pub records : List ℕ → ℕ
records bytes = length bytes / 8

-- The record of index i.
abbrev pub record_at : List ℕ → ℕ → List ℕ
record_at bytes i = take 8 (drop (8 * i) bytes)

-- Byte k of a record.
abbrev pub byte : List ℕ → ℕ → ℕ
byte r k = slice_index r k

-- The number of two bytes, low byte first.
abbrev pub number : ℕ → ℕ → ℕ
number low high = low + 256 * high

-- The two bytes of a number.
abbrev pub low : ℕ → ℕ
low n = n % 256

abbrev pub high : ℕ → ℕ
high n = n / 256 % 256

-- The record holds a head for this drive and mode.
abbrev pub is_head : ℕ → ℕ → List ℕ → Bool
is_head drive mode r =
    (byte r 0 == 1) && (byte r 2 == drive && (byte r 3 == mode
    && (byte r 4 == 0 && (byte r 5 == 0 && (byte r 6 == 0 && byte r 7 == 0)))))

-- The rule of these numbers.
abbrev pub ruling : ℕ → ℕ → ℕ → ℕ → Rule
ruling kind a b c = record { kind = kind; a = a; b = b; c = c }

-- What a record tells: none where its kind is not 1 to 5, or an unused byte is not 0.
abbrev pub read : List ℕ → Option Item
read r =
    cond (byte r 0 == 1)
    (cond (byte r 6 == 0 && byte r 7 == 0) (Some (Item.Line (number (byte r 2) (byte r 3)) (number (byte r 4) (byte r 5)))) None)
    (cond (nat_le 2 (byte r 0) && nat_le (byte r 0) 5)
    (cond (byte r 5 == 0 && (byte r 6 == 0 && byte r 7 == 0)) (Some (Item.Rule (ruling (byte r 0) (byte r 2) (byte r 3) (byte r 4)))) None)
    None)

-- The call that an item makes.
abbrev pub call_of : Item → Call
call_of (Item.Line lo hi) = Call.Line lo hi
call_of (Item.Rule r) = Call.Rule r

-- The head of a chain that begins with the record of index first.
abbrev pub head : (drive mode first : ℕ) → List ℕ
head drive mode first = 1 ∷ first ∷ drive ∷ mode ∷ 0 ∷ 0 ∷ 0 ∷ 0 ∷ []

-- The record of an item, with the index of the next. (Of a number too great for its byte or bytes the rest is written; a sheet
-- that calls led to has none.)
abbrev pub write : Item → ℕ → List ℕ
write (Item.Line lo hi) next = 1 ∷ low next ∷ low lo ∷ high lo ∷ low hi ∷ high hi ∷ 0 ∷ 0 ∷ []
write (Item.Rule r) next = low r.kind ∷ low next ∷ low r.a ∷ low r.b ∷ low r.c ∷ 0 ∷ 0 ∷ 0 ∷ []
