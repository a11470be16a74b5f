-- Types are read exactly.
use Rattle.std.proofs.Common.{◌≡◌, List, [], ◌∷◌, None, Some, refl, sym, subst}
use Rattle.grammar.specs.Spelling.{Begins, Driven}
use Rattle.grammar.specs.Exact.{IsExact}
use Rattle.grammar.proofs.Parts.{in_words}
use Rattle.grammar.proofs.Machine.{driven}
use Rattle.grammar.proofs.EveryInput.{Reads}
use Rattle.pm_wide.specs.Types.{Ty, bool_type, int_type}
use Rattle.gim_text.specs.declared.token.Token.{Token}
use Rattle.gim_text.specs.declared.token.Token.TheVariants as tokens
use Rattle.gim_text.specs.declared.token.TypeWord.TheVariants.{Int}
use Rattle.gim_words.proofs.TypeWordsInOrder.{type_of_machine, machine_of_type}
use Rattle.gim_words.specs.declared.type_words.SignWords.TheVariants.{NoSign, SaysUnsigned}
use Rattle.gim_words.specs.declared.type_words.SizeWords.TheVariants.{NoSize, SaysInt}
use Rattle.gim_words.specs.declared.type_words.TypeWords.{TypeWords}
use Rattle.gim_words.specs.declared.type_words.TypeWords.TheVariants.{SaysBool, SaysInteger}
use Rattle.gim_words.specs.Types.{SpellsType, GoesOnType}
use Rattle.gim_words.specs.TypeReaders.{type_words_after, signed_type_of, unsigned_type_of, type_of, type_at}

only_words : (words : TypeWords) (t : Token) (longer : TypeWords) → type_words_after words t ≡ Some longer → GoesOnType t
only_words words (tokens.TypeWord word at) longer e = tt
only_words words t longer e = absurd (cc)

-- `int`
pub int_token : Token
int_token = tokens.TypeWord Int (record { from = 0; to = 0 })

-- the words so far, and none or one more, make up a type
completed : (words : TypeWords) → Begins (Driven type_words_after type_of words) []
unfolding int_token
completed SaysBool = record { value = bool_type; after = []; spelled = (SaysBool, refl, refl) }
completed (SaysInteger NoSign NoSize) = record { value = int_type; after = int_token ∷ []; spelled = (SaysInteger NoSign SaysInt, (SaysInteger NoSign SaysInt, refl, refl), refl) }
completed (SaysInteger SaysUnsigned size) = record { value = unsigned_type_of size; after = []; spelled = (SaysInteger SaysUnsigned size, refl, refl) }
completed (SaysInteger sign size) = record { value = signed_type_of size; after = []; spelled = (SaysInteger sign size, refl, refl) }

pub some_type : Begins SpellsType []
some_type =
    let found = completed (SaysInteger NoSign NoSize) in
    record { value = found.value; after = found.after; spelled = type_of_machine found.value found.after found.spelled }

pub type_exact : (input : List Token) → IsExact SpellsType GoesOnType input (type_at input)
type_exact input =
    in_words (Driven type_words_after type_of (SaysInteger NoSign NoSize)) SpellsType GoesOnType input (type_at input) type_of_machine machine_of_type
    (driven type_words_after type_of tt GoesOnType only_words completed (SaysInteger NoSign NoSize) input)

pub type_reads : Reads SpellsType GoesOnType type_at
type_reads = record { some = some_type; exact = λ input. type_exact input }

-- a type has a word
pub type_not_empty : (t : Ty) → SpellsType t [] → ⊥
type_not_empty t spelled = no_word (machine_of_type t [] spelled)
  where
    no_word : Driven type_words_after type_of (SaysInteger NoSign NoSize) t [] → ⊥
    no_word (end, same, is) =
        let none : None ≡ Some t = subst (λ s. type_of s ≡ Some t) (sym same) is in
        cc

-- and begins with one
pub type_begins : (t : Ty) (first : Token) (w : List Token) → SpellsType t (first ∷ w) → GoesOnType first
type_begins t first w spelled =
    let led = (machine_of_type t (first ∷ w) spelled).1 in
    only_words (SaysInteger NoSign NoSize) first led.0 led.1
