-- The blocks of a function and the jumps between them. Blocks are told apart by the digits of their numbers.
use Rattle.std.specs.Prelude.{ℕ, Bool, List, map, filter}
use Rattle.std.specs.List.{list_any}
use Rattle.gim_ast.specs.WellFormed.{same_text}
use Rattle.pm_places.specs.declared.span.Span.{Span}
use Rattle.gim_text.specs.Occurrences.{targets_in_end}
use Rattle.gim_text.specs.declared.tree.BlockText.{BlockText}
use Rattle.gim_text.specs.Texts.{block_digits}
use Rattle.pm_places.specs.Spans.{text_of}

-- the text is one of these
abbrev pub is_among : List (List ℕ) → List ℕ → Bool
is_among texts text = list_any (same_text text) texts

-- the number of a block
abbrev pub number_of : List ℕ → BlockText → List ℕ
number_of source block = text_of source block.number

-- the number of the block that a `__BBn` names
abbrev pub named_at : List ℕ → Span → List ℕ
named_at source at = block_digits (text_of source at)

-- the `__BBn` of the jumps of a block
abbrev pub jumps_of : BlockText → List Span
jumps_of block = targets_in_end block.end

-- the block jumps to the block of this number
abbrev pub jumps_to : List ℕ → List ℕ → BlockText → Bool
jumps_to source number block = list_any (λ at. same_text number (named_at source at)) (jumps_of block)

abbrev pub numbers_of : List ℕ → List BlockText → List (List ℕ)
numbers_of source blocks = map (number_of source) blocks

-- the numbers of the blocks that jump to the block of this number, by their places
abbrev pub predecessors : List ℕ → List BlockText → List ℕ → List Span
predecessors source blocks number = map (λ (block : BlockText). block.number) (filter (jumps_to source number) blocks)
