-- Single tokens are read exactly.
use Rattle.std.proofs.Common.{◌≡◌, List, [], ◌∷◌, Some, None, true, refl, if◌then◌else◌, ap}
use Rattle.grammar.specs.Spelling.{Begins, Meant}
use Rattle.grammar.specs.Exact.{IsExact}
use Rattle.grammar.proofs.Parts.{meant}
use Rattle.pm_places.specs.declared.span.Span.{Span}
use Rattle.gim_text.specs.declared.token.Token.{Token}
use Rattle.gim_text.specs.declared.token.Token.TheVariants as tokens
use Rattle.gim_text.specs.declared.token.Keyword.{Keyword}
use Rattle.gim_text.specs.declared.token.Keyword.TheVariants as keywords
use Rattle.gim_text.specs.declared.token.Mark.{Mark}
use Rattle.gim_text.specs.declared.token.Mark.TheVariants as marks
use Rattle.gim_text.specs.declared.token.NumberKind.TheVariants.{Plain}
use Rattle.gim_text.specs.Meanings.{same_mark, same_keyword, mark, keyword, identifier, block_word}
use Rattle.gim_words.specs.Tokens.{plain_number, GoesOnNothing}
use Rattle.gim_words.specs.TokenReaders.{mark_at, keyword_at, name_at, block_word_at, plain_number_at, is_comma}
use Rattle.grammar.proofs.EveryInput.{Reads, one_token}

pub somewhere : Span
somewhere = record { from = 0; to = 0 }

each_mark : (m : Mark) → same_mark m m ≡ true
each_mark marks.Open = refl
each_mark m = refl

each_keyword : (k : Keyword) → same_keyword k k ≡ true
each_keyword keywords.Gimple = refl
each_keyword k = refl

pub some_mark : (m : Mark) → Begins (Meant (mark m)) []
some_mark m = record {
  value = somewhere;
  after = tokens.Mark m somewhere ∷ [];
  spelled = (tokens.Mark m somewhere, ap (λ same. if same then Some somewhere else None) (each_mark m), refl);
}

pub some_keyword : (k : Keyword) → Begins (Meant (keyword k)) []
some_keyword k = record {
  value = somewhere;
  after = tokens.Keyword k somewhere ∷ [];
  spelled = (tokens.Keyword k somewhere, ap (λ same. if same then Some somewhere else None) (each_keyword k), refl);
}

pub some_name : Begins (Meant identifier) []
some_name = record { value = somewhere; after = tokens.Identifier somewhere ∷ []; spelled = (tokens.Identifier somewhere, refl, refl) }

pub some_block_word : Begins (Meant block_word) []
some_block_word = record { value = somewhere; after = tokens.BlockWord somewhere ∷ []; spelled = (tokens.BlockWord somewhere, refl, refl) }

pub some_plain_number : Begins (Meant plain_number) []
some_plain_number = record { value = somewhere; after = tokens.Number Plain somewhere ∷ []; spelled = (tokens.Number Plain somewhere, refl, refl) }

pub mark_exact : (m : Mark) (input : List Token) → IsExact (Meant (mark m)) GoesOnNothing input (mark_at m input)
mark_exact m input = meant (mark m) tt GoesOnNothing (some_mark m) input

pub keyword_exact : (k : Keyword) (input : List Token) → IsExact (Meant (keyword k)) GoesOnNothing input (keyword_at k input)
keyword_exact k input = meant (keyword k) tt GoesOnNothing (some_keyword k) input

pub name_exact : (input : List Token) → IsExact (Meant identifier) GoesOnNothing input (name_at input)
name_exact input = meant identifier tt GoesOnNothing some_name input

pub block_word_exact : (input : List Token) → IsExact (Meant block_word) GoesOnNothing input (block_word_at input)
block_word_exact input = meant block_word tt GoesOnNothing some_block_word input

pub plain_number_exact : (input : List Token) → IsExact (Meant plain_number) GoesOnNothing input (plain_number_at input)
plain_number_exact input = meant plain_number tt GoesOnNothing some_plain_number input

-- Each mark.
pub mark_reads : (m : Mark) (more : Token → Type 0) → Reads (Meant (mark m)) more (mark_at m)
mark_reads m more = one_token (mark m) tt more (some_mark m)

-- A name.
pub name_reads : (more : Token → Type 0) → Reads (Meant identifier) more name_at
name_reads more = one_token identifier tt more some_name

pub comma_is : (t : Token) (at : Span) → mark marks.Comma t ≡ Some at → is_comma t ≡ true
comma_is (tokens.Mark marks.Comma p) at e = refl
comma_is t at e = absurd (cc)
