-- The type and the word of a constant, by how it is written.
use Rattle.std.specs.Prelude.{ℕ, Bool, Option, Some, None, List, if◌then◌else◌, ℤ, pos, neg_ℤ}
use Rattle.pm_wide.specs.Types.{Ty, Word, in_range, word, int_type, unsigned_int_type, long_type, unsigned_long_type}
use Rattle.lexing.specs.Numbers.{number_after, leading_digits}
use Rattle.gim_text.specs.declared.tree.LiteralText.{LiteralText}
use Rattle.gim_text.specs.declared.tree.LiteralType.{LiteralType}
use Rattle.gim_text.specs.declared.tree.LiteralType.TheVariants.{Plain, Unsigned, Long, UnsignedLong, Written}
use Rattle.pm_places.specs.Spans.{text_of}

-- a number with its sign
abbrev pub signed : Bool → ℕ → ℤ
signed negative n = if negative then neg_ℤ (pos n) else pos n

-- the type of a constant of this number
abbrev pub literal_type : LiteralType → ℤ → Ty
literal_type Plain z = if in_range int_type z then int_type else long_type
literal_type Unsigned z = if in_range unsigned_int_type z then unsigned_int_type else unsigned_long_type
literal_type Long z = long_type
literal_type UnsignedLong z = unsigned_long_type
literal_type (Written t) z = t

-- the word of a number at a type, where it is a value of that type
abbrev pub word_in : Ty → ℤ → Option Word
word_in t z = if in_range t z then Some (word t z) else None

abbrev pub word_by : LiteralType → ℤ → Option Word
word_by ty z = word_in (literal_type ty z) z

-- the word of a constant; none where its type doesn't hold the number
unfoldable pub literal_word : List ℕ → LiteralText → Option Word
literal_word source literal = word_by literal.ty (signed literal.negative (number_after 0 (leading_digits (text_of source literal.number))))
