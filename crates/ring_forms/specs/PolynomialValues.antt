-- The value of a polynomial over atoms, where names have words.
use Rattle.std.specs.Prelude.{ℕ, zero, suc, List, [], ◌∷◌, ℤ, pos, ◌+ℤ◌, ◌*ℤ◌, Option, Some, None}
use Rattle.pm_wide.specs.Types.{Ty, Word, value}
use Rattle.pm_term.specs.Terms.{term_value}
use Rattle.pm_term.specs.Trees.{Tree}
use Rattle.ring_forms.specs.declared.poly.Atom.{Atom}
use Rattle.ring_forms.specs.declared.poly.Monomial.{Monomial}

-- the value of a word, or 0 where there is none
abbrev pub value_or_zero : Option Word → ℤ
value_or_zero None = pos 0
value_or_zero (Some w) = value w

-- the value of an atom
abbrev pub node_value : (ℕ → Ty → Word) → Tree → ℤ
node_value words t = value_or_zero (term_value words t)

abbrev pub raised : ℤ → ℕ → ℤ
raised z zero = pos 1
raised z (suc n) = z *ℤ raised z n

-- the product of the atoms' values, each as often as its power says
abbrev pub factors_value : (ℕ → Ty → Word) → List (Atom × ℕ) → ℤ
factors_value words [] = pos 1
factors_value words (f ∷ fs) = raised (node_value words f.0.node) f.1 *ℤ factors_value words fs

abbrev pub terms_value : (ℕ → Ty → Word) → List (Monomial × ℤ) → ℤ
terms_value words [] = pos 0
terms_value words (t ∷ ts) = t.1 *ℤ factors_value words t.0.factors +ℤ terms_value words ts
