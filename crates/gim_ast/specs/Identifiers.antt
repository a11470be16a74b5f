-- Identifiers of GIMPLE text: which byte lists they are, which are reserved, and which are anonymous names.
use Rattle.std.specs.Prelude.{ℕ, ◌==◌, Bool, false, not, ◌&&◌, ◌||◌, List, [], ◌∷◌, codes}
use Rattle.std.specs.List.{list_any}
use Rattle.std.specs.Cmp.Lexicographic.{pointwise}
use Rattle.std.specs.Fmt.{decimal}
use Rattle.lexing.specs.Numbers.{is_number_text}
use Rattle.lexing.specs.Words.{is_word_text}

-- the words of types and of the grammar
abbrev pub reserved_words : List (List ℕ)
reserved_words = codes "signed" ∷ codes "unsigned" ∷ codes "char" ∷ codes "short" ∷ codes "int" ∷ codes "long" ∷ codes "__int128" ∷ codes "_Bool"
    ∷ codes "__GIMPLE" ∷ codes "void" ∷ codes "__BB" ∷ codes "__PHI" ∷ codes "goto" ∷ codes "if" ∷ codes "else" ∷ codes "return"
    ∷ codes "__MIN" ∷ codes "__MAX" ∷ codes "__ABS" ∷ codes "__ABSU" ∷ codes "_Literal" ∷ codes "D" ∷ []

-- `__BB` and a number in one identifier
abbrev pub is_block_word : List ℕ → Bool
is_block_word (a ∷ b ∷ c ∷ d ∷ bs) = (a == 95) && (b == 95) && (c == 66) && (d == 66) && is_number_text bs
is_block_word _ = false

abbrev pub is_reserved : List ℕ → Bool
is_reserved bs = list_any (λ word. pointwise ◌==◌ word bs) reserved_words || is_block_word bs

-- what may name a function, a parameter or a local
abbrev pub is_identifier : List ℕ → Bool
is_identifier bs = is_word_text bs && not (is_reserved bs)

-- `_` and a number: a name without a base
abbrev pub is_anonymous : List ℕ → Bool
is_anonymous (b ∷ bs) = (b == 95) && is_number_text bs
is_anonymous [] = false

-- the anonymous name of a version
abbrev pub anonymous : ℕ → List ℕ
anonymous version = 95 ∷ decimal version
