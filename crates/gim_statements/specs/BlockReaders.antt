-- Readers of ends and blocks on lists of tokens, between code and grammar: the contracts above rest on the grammar and the
-- faults alone.
use Rattle.std.specs.Prelude.{Bool, true, false, List, [], ◌∷◌, Option, Some, None, Ok}
use Rattle.grammar.specs.Reading.{Answer, ◌>>=◌, meant_at, more_at}
use Rattle.pm_places.specs.declared.span.Span.{Span}
use Rattle.gim_text.specs.declared.token.Token.{Token}
use Rattle.gim_text.specs.declared.token.Token.TheVariants as tokens
use Rattle.gim_text.specs.declared.token.Keyword.TheVariants as keywords
use Rattle.gim_text.specs.declared.token.Mark.TheVariants as marks
use Rattle.gim_text.specs.declared.tree.ItemText.{ItemText}
use Rattle.gim_text.specs.declared.tree.EndText.{EndText}
use Rattle.gim_text.specs.declared.tree.EndText.TheVariants as ends
use Rattle.gim_text.specs.declared.tree.BlockText.{BlockText}
use Rattle.gim_words.specs.TokenReaders.{mark_at, keyword_at, block_word_at, plain_number_at, closing_at}
use Rattle.gim_statements.specs.Words.{comparison_code}
use Rattle.gim_statements.specs.OperandReaders.{operand_at}
use Rattle.gim_statements.specs.ItemReaders.{item_at}

-- what stands after the block that a jump names: the place of its `;`
abbrev pub jump_end_at : List Token → Answer Token (Unit {0}) Span
jump_end_at (tokens.Mark marks.Open at ∷ rest) = closing_at rest >>= λ right. mark_at marks.Semicolon right.1
jump_end_at input = mark_at marks.Semicolon input

-- the block that a jump names
abbrev pub jump_at : List Token → Answer Token (Unit {0}) Span
jump_at input = do
  goto ← keyword_at keywords.Goto input
  target ← block_word_at goto.1
  semicolon ← jump_end_at target.1
  Ok (target.0, semicolon.1)

-- what stands after `if`
abbrev pub if_at : List Token → Answer Token (Unit {0}) EndText
if_at input = do
  left ← mark_at marks.Open input
  a ← operand_at left.1
  op ← meant_at comparison_code tt a.1
  b ← operand_at op.1
  right ← mark_at marks.Close b.1
  target ← jump_at right.1
  else_word ← keyword_at keywords.Else target.1
  other ← jump_at else_word.1
  Ok (ends.If op.0 a.0 b.0 target.0 other.0, other.1)

-- what stands after `return`
abbrev pub return_at : List Token → Answer Token (Unit {0}) EndText
return_at input = do
  a ← operand_at input
  semicolon ← mark_at marks.Semicolon a.1
  Ok (ends.Return a.0, semicolon.1)

-- what ends a block, if anything does
abbrev pub end_at : List Token → Answer Token (Unit {0}) (Option EndText)
end_at (tokens.Keyword keywords.Goto at ∷ rest) = jump_at (tokens.Keyword keywords.Goto at ∷ rest) >>= λ target. Ok (Some (ends.Goto target.0), target.1)
end_at (tokens.Keyword keywords.If at ∷ rest) = if_at rest >>= λ end. Ok (Some end.0, end.1)
end_at (tokens.Keyword keywords.Return at ∷ rest) = return_at rest >>= λ end. Ok (Some end.0, end.1)
end_at input = Ok (None, input)

-- what stands after the number of a block: the place of the `)`
abbrev pub note_at : List Token → Answer Token (Unit {0}) Span
note_at (tokens.Mark marks.Comma at ∷ rest) = closing_at rest
note_at input = mark_at marks.Close input

-- a name begins an item
abbrev pub begins_item : Token → Bool
begins_item (tokens.Identifier name) = true
begins_item (tokens.Ssa name) = true
begins_item token = false

abbrev pub items_at : List Token → Answer Token (Unit {0}) (List ItemText)
items_at input = more_at begins_item item_at [] input

abbrev pub block_at : List Token → Answer Token (Unit {0}) BlockText
block_at input = do
  head ← keyword_at keywords.Block input
  left ← mark_at marks.Open head.1
  number ← plain_number_at left.1
  right ← note_at number.1
  colon ← mark_at marks.Colon right.1
  items ← items_at colon.1
  end ← end_at items.1
  Ok (record { head = head.0; number = number.0; items = items.0; end = end.0 }, end.1)
