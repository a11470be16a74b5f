-- Which tokens spell a type.
use Rattle.std.specs.Prelude.{◌≡◌, ℕ, suc, List, [], ◌∷◌, map, Contains, Option, Some}
use Rattle.pm_wide.specs.Types.{Ty, bool_type, signed_char_type, unsigned_char_type, short_type, unsigned_short_type, int_type, unsigned_int_type, long_type, unsigned_long_type, int128_type, unsigned_int128_type}
use Rattle.gim_text.specs.Meanings.{type_word}
use Rattle.gim_text.specs.declared.token.Token.{Token}
use Rattle.gim_text.specs.declared.token.Token.TheVariants as tokens
use Rattle.gim_text.specs.declared.token.TypeWord.{TypeWord}
use Rattle.gim_text.specs.declared.token.TypeWord.TheVariants.{Signed, Unsigned, Char, Short, Int, Long, Int128, BoolWord}

-- The ways to write a type, as the C standard lists its type specifiers, and beside them `__int128`. Plain `char` is
-- `signed char`, and `long long` is `long`.
abbrev pub forms : List (Ty × List TypeWord)
forms =
    (bool_type, BoolWord ∷ [])
    ∷ (signed_char_type, Char ∷ [])
    ∷ (signed_char_type, Signed ∷ Char ∷ [])
    ∷ (unsigned_char_type, Unsigned ∷ Char ∷ [])
    ∷ (short_type, Short ∷ [])
    ∷ (short_type, Signed ∷ Short ∷ [])
    ∷ (short_type, Short ∷ Int ∷ [])
    ∷ (short_type, Signed ∷ Short ∷ Int ∷ [])
    ∷ (unsigned_short_type, Unsigned ∷ Short ∷ [])
    ∷ (unsigned_short_type, Unsigned ∷ Short ∷ Int ∷ [])
    ∷ (int_type, Int ∷ [])
    ∷ (int_type, Signed ∷ [])
    ∷ (int_type, Signed ∷ Int ∷ [])
    ∷ (unsigned_int_type, Unsigned ∷ [])
    ∷ (unsigned_int_type, Unsigned ∷ Int ∷ [])
    ∷ (long_type, Long ∷ [])
    ∷ (long_type, Signed ∷ Long ∷ [])
    ∷ (long_type, Long ∷ Int ∷ [])
    ∷ (long_type, Signed ∷ Long ∷ Int ∷ [])
    ∷ (long_type, Long ∷ Long ∷ [])
    ∷ (long_type, Signed ∷ Long ∷ Long ∷ [])
    ∷ (long_type, Long ∷ Long ∷ Int ∷ [])
    ∷ (long_type, Signed ∷ Long ∷ Long ∷ Int ∷ [])
    ∷ (unsigned_long_type, Unsigned ∷ Long ∷ [])
    ∷ (unsigned_long_type, Unsigned ∷ Long ∷ Int ∷ [])
    ∷ (unsigned_long_type, Unsigned ∷ Long ∷ Long ∷ [])
    ∷ (unsigned_long_type, Unsigned ∷ Long ∷ Long ∷ Int ∷ [])
    ∷ (int128_type, Int128 ∷ [])
    ∷ (int128_type, Signed ∷ Int128 ∷ [])
    ∷ (unsigned_int128_type, Unsigned ∷ Int128 ∷ [])
    ∷ []

-- how often each word stands in a list
pub record Counts : Type 0 where
  pub signed : ℕ
  pub unsigned : ℕ
  pub char : ℕ
  pub short : ℕ
  pub int : ℕ
  pub long : ℕ
  pub int128 : ℕ
  pub boolean : ℕ

abbrev pub one_more : TypeWord → Counts → Counts
one_more Signed c = record c { signed = suc c.signed }
one_more Unsigned c = record c { unsigned = suc c.unsigned }
one_more Char c = record c { char = suc c.char }
one_more Short c = record c { short = suc c.short }
one_more Int c = record c { int = suc c.int }
one_more Long c = record c { long = suc c.long }
one_more Int128 c = record c { int128 = suc c.int128 }
one_more BoolWord c = record c { boolean = suc c.boolean }

abbrev pub count_on : List TypeWord → Counts → Counts
count_on [] c = c
count_on (word ∷ written) c = count_on written (one_more word c)

abbrev pub counts : List TypeWord → Counts
counts written = count_on written (record { signed = 0; unsigned = 0; char = 0; short = 0; int = 0; long = 0; int128 = 0; boolean = 0 })

-- the words as they stand in an option
abbrev pub some_word : TypeWord → Option TypeWord
some_word word = Some word

-- type := the words of one of its forms, in any order
pub record SpellsType (t : Ty) (input : List Token) : Type 0 where
  pub written : List TypeWord
  pub is_written : map type_word input ≡ map some_word written
  pub form : List TypeWord
  pub is_form : Contains forms (t, form)
  pub in_any_order : counts written ≡ counts form

-- what can go on a type: a word of a type
abbrev pub GoesOnType : Token → Type 0
GoesOnType (tokens.TypeWord word at) = Unit {0}
GoesOnType token = ⊥
