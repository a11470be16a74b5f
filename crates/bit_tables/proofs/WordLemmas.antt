-- Operations that the class doesn't have.
use Rattle.std.proofs.Common.{◌≡◌, ℕ, ◌≤◌, refl, arith, List, [], ◌∷◌, length}
use Rattle.pm_ops.specs.declared.code.Code.{Code}
use Rattle.pm_wide.specs.Types.{Ty}
use Rattle.pm_term.specs.TermTrees.{trees_of}
use Rattle.pm_term.specs.declared.term.Term.{Term}
use Rattle.bit_tables.specs.WrappedWords.{wrapped_operation, wrapped_words}

-- no operation of the class has three operands or more
pub no_word : (words : ℕ → Ty → ℕ) (p : ℕ) (code : Code) (ts : List Term) → 3 ≤ length ts → 0 ≡ wrapped_operation p code (wrapped_words words p (trees_of ts))
no_word words p code [] h = refl
no_word words p code (a ∷ []) h = absurd (omega arith)
no_word words p code (a ∷ b ∷ []) h = absurd (omega arith)
no_word words p code (a ∷ b ∷ c ∷ ts) h = refl
