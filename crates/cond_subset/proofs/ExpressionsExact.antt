-- Expressions are read exactly, at every input.
use Rattle.std.proofs.Common.{ℕ, suc, ◌≤◌, ◌<◌, List, length, arith}
use Rattle.grammar.specs.Spelling.{Then}
use Rattle.grammar.specs.Exact.{IsExact}
use Rattle.grammar.proofs.Parts as parts
use Rattle.grammar.proofs.Sequence as sequences
use Rattle.grammar.proofs.Recursion.{by_length}
use Rattle.pd_text.specs.declared.symbol.Symbol.{Symbol}
use Rattle.cond_subset.specs.Grammar.{Within}
use Rattle.cond_subset.specs.Readers.{Inner, operand_at, links_at, within_at, readers}
use Rattle.cond_subset.specs.GoesOn.{GoesOn}
use Rattle.cond_subset.proofs.LinksExact.{Continued, continued_far, some_continued, links_exact}
use Rattle.cond_subset.proofs.Grouping.{grouped, of_grouped}
use Rattle.cond_subset.proofs.OperandsExact.{operand_exact}

-- The readers of all ranks answer exactly.
abbrev AreExact : Inner → List Symbol → Type 0
AreExact inner input = (r : ℕ) → IsExact (Within r) (GoesOn r) input (inner r input)

deeper_exact : (inner : Inner) (input : List Symbol) → ((r : ℕ) (rest : List Symbol) → length rest < length input → IsExact (Within r) (GoesOn r) rest (inner r rest)) → (r : ℕ)
    → IsExact (Within r) (GoesOn r) input (within_at inner r input)
deeper_exact inner input good r =
    let first = operand_exact inner (length input) good input (omega arith) in
    parts.in_words (Then (Within 0) (Continued r)) (Within r) (GoesOn r) input (within_at inner r input) (grouped r) (of_grouped r)
    (sequences.then (Within 0) (Continued r) (GoesOn 0) (GoesOn r) (continued_far r) (λ a u spelled. some_continued r a) input (operand_at inner input) (λ a. links_at inner r a.0 a.1) first
    (λ a rest e.
    let le : length rest ≤ length input = parts.no_longer (Within 0) (GoesOn 0) input (operand_at inner input) first a rest e in
    links_exact inner (length input) good r a rest le))

pub expression_exact : (n : ℕ) (input : List Symbol) → length input < n → AreExact (readers n) input
expression_exact = by_length readers AreExact deeper
  where
    deeper : (n : ℕ) (input : List Symbol) → ((rest : List Symbol) → length rest < length input → AreExact (readers n) rest) → AreExact (readers (suc n)) input
    deeper n input good r = deeper_exact (readers n) input (λ k rest shorter. good rest shorter k) r
