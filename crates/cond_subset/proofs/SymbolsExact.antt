-- Marks, words and identifiers stand somewhere.
use Rattle.std.proofs.Common.{◌≡◌, [], ◌∷◌, Some, None, true, refl, ap, if◌then◌else◌}
use Rattle.grammar.specs.Spelling.{Begins, Meant}
use Rattle.pm_places.specs.declared.span.Span.{Span}
use Rattle.pd_text.specs.declared.symbol.Symbol.TheVariants as symbols
use Rattle.pd_text.specs.declared.symbol.Mark.{Mark}
use Rattle.pd_text.specs.declared.symbol.Mark.TheVariants as marks
use Rattle.pd_text.specs.declared.symbol.Word.{Word}
use Rattle.pd_text.specs.declared.symbol.Word.TheVariants as words
use Rattle.pd_text.specs.Meanings.{same_mark, same_word, mark, word, identifier}

pub somewhere : Span
somewhere = record { from = 0; to = 0 }

each_mark : (m : Mark) → same_mark m m ≡ true
each_mark marks.Open = refl
each_mark m = refl

pub some_mark : (m : Mark) → Begins (Meant (mark m)) []
some_mark m = record {
  value = somewhere;
  after = symbols.Mark m somewhere ∷ [];
  spelled = (symbols.Mark m somewhere, ap (λ same. if same then Some somewhere else None) (each_mark m), refl);
}

pub some_identifier : Begins (Meant identifier) []
some_identifier = record { value = somewhere; after = symbols.Identifier somewhere ∷ []; spelled = (symbols.Identifier somewhere, refl, refl) }

each_word : (k : Word) → same_word k k ≡ true
each_word words.Simplify = refl
each_word k = refl

pub some_word : (k : Word) → Begins (Meant (word k)) []
some_word k = record {
  value = somewhere;
  after = symbols.Word k somewhere ∷ [];
  spelled = (symbols.Word k somewhere, ap (λ same. if same then Some somewhere else None) (each_word k), refl);
}
