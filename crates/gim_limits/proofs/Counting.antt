-- Counting what stands at places.
use Rattle.std.proofs.Common.{◌≡◌, ℕ, suc, ◌+◌, Bool, true, false, cond, List, ◌∷◌, add-one, refl, sym, ap, ◌∙◌}
use Rattle.std.specs.Prelude.{not, ◌&&◌, ◌||◌, ◌==◌}
use Rattle.std.proofs.lemmas.Bool.{eqb-true, false_from_ne_true}
use Rattle.gim_ast.specs.WellFormed.{same_text}
use Rattle.gim_shape.specs.Blocks.{is_among}
use Rattle.gim_limits.specs.Limits.{different}
use Rattle.gim_limits.specs.Seen.{Takes}
use Rattle.gim_text.proofs.SameTexts.{same_text_symm}

pub not_full : (among full : Bool) → full ≡ false → false ≡ (not among && full)
not_full true full e = refl
not_full false full e = sym e

-- the last of three tests, where the others fail
pub last_of_three : {F : Type 0} (a b c answer : Bool) → a ≡ false → b ≡ false → Takes c F answer → Takes (a || (b || c)) F answer
last_of_three false false c answer e f takes = takes
last_of_three true b c answer e f takes = absurd cc
last_of_three false true c answer e f takes = absurd cc

either_way : (a b c d : Bool) → a ≡ b → c ≡ d → cond a true c ≡ (b || d)
either_way true true c d e f = refl
either_way false false c d e f = f
either_way true false c d e f = absurd cc
either_way false true c d e f = absurd cc

pub among_latest : (texts : List (List ℕ)) (text q : List ℕ) (old new : Bool) → new ≡ cond (same_text text q) true old
    → old ≡ is_among texts q
    → new ≡ is_among (text ∷ texts) q
among_latest texts text q old new adds has =
    adds ∙ either_way (same_text text q) (same_text q text) old (is_among texts q) (same_text_symm text q) has

pub one_more : (texts : List (List ℕ)) (text : List ℕ) (count : ℕ) → count ≡ different texts
    → is_among texts text ≡ false → count + 1 ≡ different (text ∷ texts)
one_more texts text count counted new = rw (new, add-one) (ap suc counted)

pub other_count : (count n limit : ℕ) → count ≡ n → (count ≡ limit → ⊥) → (n == limit) ≡ false
other_count count n limit counted other = false_from_ne_true (n == limit) (λ e. other (counted ∙ eqb-true n limit e))
