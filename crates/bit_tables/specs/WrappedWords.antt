-- The word of a term where its arithmetic wraps, signed or not.
use Rattle.std.specs.Prelude.{ℕ, ◌-◌, ◌^◌, List, [], ◌∷◌, pos, ◌+ℤ◌, ◌-ℤ◌, ◌*ℤ◌, bit_and, bit_or, bit_xor}
use Rattle.pm_ops.specs.declared.code.Code.{Code}
use Rattle.pm_ops.specs.declared.code.Code.TheVariants.{Convert, Plus, Minus, Mult, Negate, BitAnd, BitIor, BitXor, BitNot}
use Rattle.pm_wide.specs.Residues.{residue}
use Rattle.pm_wide.specs.Types.{Ty}
use Rattle.pm_term.specs.Trees.{Tree, name, constant, node, Trees, nil, cons}

-- operations on the words of operands of that width
abbrev pub wrapped_unary : ℕ → Code → ℕ → ℕ
wrapped_unary width Convert a = a
wrapped_unary width Negate a = residue width (pos 0 -ℤ pos a)
wrapped_unary width BitNot a = 2 ^ width - 1 - a
wrapped_unary width _ a = 0

abbrev pub wrapped_binary : ℕ → Code → ℕ → ℕ → ℕ
wrapped_binary width Plus a b = residue width (pos a +ℤ pos b)
wrapped_binary width Minus a b = residue width (pos a -ℤ pos b)
wrapped_binary width Mult a b = residue width (pos a *ℤ pos b)
wrapped_binary width BitAnd a b = bit_and a b
wrapped_binary width BitIor a b = bit_or a b
wrapped_binary width BitXor a b = bit_xor a b
wrapped_binary width _ a b = 0

abbrev pub wrapped_operation : ℕ → Code → List ℕ → ℕ
wrapped_operation width code (a ∷ []) = wrapped_unary width code a
wrapped_operation width code (a ∷ b ∷ []) = wrapped_binary width code a b
wrapped_operation width code _ = 0

abbrev mutual
  -- the word of a term whose parts all have that width, where `words` gives the words of names
  pub wrapped_word : (ℕ → Ty → ℕ) → ℕ → Tree → ℕ
  wrapped_word words width (name version ty) = words version ty
  wrapped_word words width (constant word) = word.bits
  wrapped_word words width (node code ty args) = wrapped_operation width code (wrapped_words words width args)

  pub wrapped_words : (ℕ → Ty → ℕ) → ℕ → Trees → List ℕ
  wrapped_words words width nil = []
  wrapped_words words width (cons t ts) = wrapped_word words width t ∷ wrapped_words words width ts
