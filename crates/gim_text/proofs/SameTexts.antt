-- Texts of the same bytes.
use Rattle.std.proofs.Common.{◌≡◌, ℕ, true, List, refl}
use Rattle.std.specs.Cmp.Lexicographic.{nat_list_eq_equiv, bytes_decides}
use Rattle.gim_ast.specs.WellFormed.{same_text}

pub same_text_symm : (a b : List ℕ) → same_text a b ≡ same_text b a
same_text_symm a b = nat_list_eq_equiv.symm a b

pub same_text_itself : (a : List ℕ) → same_text a a ≡ true
same_text_itself a = (bytes_decides a a).1 refl

pub same_text_is : (a b : List ℕ) → same_text a b ≡ true → a ≡ b
same_text_is a b h = (bytes_decides a b).0 h
