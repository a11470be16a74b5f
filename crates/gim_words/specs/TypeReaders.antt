-- The reader of a type on lists of tokens: a machine that goes by what the words so far say. It stands between code and
-- grammar: the contracts above rest on the grammar and the faults alone.
use Rattle.std.specs.Prelude.{List, Option, Some, None}
use Rattle.grammar.specs.Reading.{Answer, driven_at}
use Rattle.pm_wide.specs.Types.{Ty, bool_type, signed_char_type, unsigned_char_type, short_type, unsigned_short_type, int_type, unsigned_int_type, long_type, unsigned_long_type, int128_type, unsigned_int128_type}
use Rattle.gim_text.specs.declared.token.Token.{Token}
use Rattle.gim_text.specs.declared.token.Token.TheVariants as tokens
use Rattle.gim_text.specs.declared.token.TypeWord.{TypeWord}
use Rattle.gim_text.specs.declared.token.TypeWord.TheVariants.{Signed, Unsigned, Char, Short, Int, Long, Int128, BoolWord}
use Rattle.gim_words.specs.declared.type_words.SignWords.{SignWords}
use Rattle.gim_words.specs.declared.type_words.SignWords.TheVariants.{NoSign, SaysSigned, SaysUnsigned}
use Rattle.gim_words.specs.declared.type_words.SizeWords.{SizeWords}
use Rattle.gim_words.specs.declared.type_words.SizeWords.TheVariants.{NoSize, SaysChar, SaysShort, SaysShortInt, SaysInt, SaysLong, SaysLongInt, SaysLongLong, SaysLongLongInt, SaysInt128}
use Rattle.gim_words.specs.declared.type_words.TypeWords.{TypeWords}
use Rattle.gim_words.specs.declared.type_words.TypeWords.TheVariants.{SaysBool, SaysInteger}

abbrev pub size_after : SizeWords → TypeWord → Option SizeWords
size_after NoSize Char = Some SaysChar
size_after NoSize Short = Some SaysShort
size_after NoSize Int = Some SaysInt
size_after NoSize Long = Some SaysLong
size_after NoSize Int128 = Some SaysInt128
size_after SaysShort Int = Some SaysShortInt
size_after SaysInt Short = Some SaysShortInt
size_after SaysInt Long = Some SaysLongInt
size_after SaysLong Int = Some SaysLongInt
size_after SaysLong Long = Some SaysLongLong
size_after SaysLongInt Long = Some SaysLongLongInt
size_after SaysLongLong Int = Some SaysLongLongInt
size_after size word = None

abbrev pub with_size : SignWords → Option SizeWords → Option TypeWords
with_size sign None = None
with_size sign (Some size) = Some (SaysInteger sign size)

-- what a further word makes of the words so far, where it may follow
abbrev pub words_after : TypeWords → TypeWord → Option TypeWords
words_after SaysBool word = None
words_after (SaysInteger NoSign size) Signed = Some (SaysInteger SaysSigned size)
words_after (SaysInteger NoSign size) Unsigned = Some (SaysInteger SaysUnsigned size)
words_after (SaysInteger NoSign NoSize) BoolWord = Some SaysBool
words_after (SaysInteger sign size) word = with_size sign (size_after size word)

abbrev pub type_words_after : TypeWords → Token → Option TypeWords
type_words_after words (tokens.TypeWord word at) = words_after words word
type_words_after words token = None

abbrev pub signed_type_of : SizeWords → Ty
signed_type_of NoSize = int_type
signed_type_of SaysInt = int_type
signed_type_of SaysChar = signed_char_type
signed_type_of SaysShort = short_type
signed_type_of SaysShortInt = short_type
signed_type_of SaysInt128 = int128_type
signed_type_of size = long_type

abbrev pub unsigned_type_of : SizeWords → Ty
unsigned_type_of NoSize = unsigned_int_type
unsigned_type_of SaysInt = unsigned_int_type
unsigned_type_of SaysChar = unsigned_char_type
unsigned_type_of SaysShort = unsigned_short_type
unsigned_type_of SaysShortInt = unsigned_short_type
unsigned_type_of SaysInt128 = unsigned_int128_type
unsigned_type_of size = unsigned_long_type

-- the type that the words so far make up
abbrev pub type_of : TypeWords → Option Ty
type_of SaysBool = Some bool_type
type_of (SaysInteger NoSign NoSize) = None
type_of (SaysInteger SaysUnsigned size) = Some (unsigned_type_of size)
type_of (SaysInteger sign size) = Some (signed_type_of size)

-- a type of as many words as can, or a fault of this kind where the words make up none
abbrev pub type_at : List Token → Answer Token (Unit {0}) Ty
type_at tokens = driven_at type_words_after type_of tt (SaysInteger NoSign NoSize) tokens
