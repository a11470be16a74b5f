-- Integer types, the values of a type, and the words that stand for them.
use Rattle.std.specs.Prelude.{ℕ, ◌-◌, ◌^◌, ◌<◌, IsTrue, ◌==◌, nat_lt, Bool, true, false, not, ◌&&◌, ◌||◌, if◌then◌else◌, ℤ, pos, neg_ℤ, ◌-ℤ◌}
use Rattle.std.specs.Int.{int_rem_euclid}
use Rattle.std.specs.Int.RustNames.{int_le, unsigned_abs}

-- a width in bits, and whether there is no sign
pub record Ty : Type 0 where
  pub width : ℕ
  pub unsigned : Bool

-- the eleven types: one bit without a sign, and five widths with and without
abbrev pub is_type : ℕ → Bool → Bool
is_type width unsigned = (width == 8 || width == 16 || width == 32 || width == 64 || width == 128) || (width == 1 && unsigned)

abbrev pub IsType : Ty → Type 0
IsType t = IsTrue (is_type t.width t.unsigned)

-- the two are one type
abbrev pub same_type : Ty → Ty → Bool
same_type a b = (a.width == b.width) && (if a.unsigned then b.unsigned else not b.unsigned)

-- their names in C
abbrev pub bool_type : Ty
bool_type = record { width = 1; unsigned = true }

abbrev pub signed_char_type : Ty
signed_char_type = record { width = 8; unsigned = false }

abbrev pub unsigned_char_type : Ty
unsigned_char_type = record { width = 8; unsigned = true }

abbrev pub short_type : Ty
short_type = record { width = 16; unsigned = false }

abbrev pub unsigned_short_type : Ty
unsigned_short_type = record { width = 16; unsigned = true }

abbrev pub int_type : Ty
int_type = record { width = 32; unsigned = false }

abbrev pub unsigned_int_type : Ty
unsigned_int_type = record { width = 32; unsigned = true }

abbrev pub long_type : Ty
long_type = record { width = 64; unsigned = false }

abbrev pub unsigned_long_type : Ty
unsigned_long_type = record { width = 64; unsigned = true }

abbrev pub int128_type : Ty
int128_type = record { width = 128; unsigned = false }

abbrev pub unsigned_int128_type : Ty
unsigned_int128_type = record { width = 128; unsigned = true }

-- the least and the greatest value of a type
abbrev pub least : Ty → ℤ
least t = if t.unsigned then pos 0 else neg_ℤ (pos (2 ^ (t.width - 1)))

abbrev pub greatest : Ty → ℤ
greatest t = if t.unsigned then pos (2 ^ t.width - 1) else pos (2 ^ (t.width - 1) - 1)

-- a whole number is a value of the type
abbrev pub in_range : Ty → ℤ → Bool
in_range t z = int_le (least t) z && int_le z (greatest t)

-- the value that a word stands for: itself, or less 2 to the width from the middle on where there
-- is a sign
abbrev pub value_of : Ty → ℕ → ℤ
value_of t n = if t.unsigned || nat_lt n (2 ^ (t.width - 1)) then pos n else (pos n -ℤ pos (2 ^ t.width))

-- the word of a whole number: the number modulo 2 to the width
abbrev pub word_of : Ty → ℤ → ℕ
word_of t z = unsigned_abs (int_rem_euclid z (pos (2 ^ t.width)))

-- a word with its type
pub record Word : Type 0 where
  pub bits : ℕ
  pub ty : Ty

-- a number below 2 to the width of one of the eleven types
abbrev pub IsWord : Word → Type 0
IsWord w = (w.bits < 2 ^ w.ty.width) × IsType w.ty

abbrev pub value : Word → ℤ
value w = value_of w.ty w.bits

abbrev pub word : Ty → ℤ → Word
word t z = record { bits = word_of t z; ty = t }
