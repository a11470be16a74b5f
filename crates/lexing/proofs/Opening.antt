-- What a text is that begins with given bytes.
use Rattle.std.proofs.Common.{◌≡◌, ℕ, ◌≤◌, true, List, [], ◌∷◌, length, arith}
use Rattle.std.specs.Prelude.{◌==◌}
use Rattle.std.proofs.lemmas.Bool.{and_parts, false≢true, eqb-true}
use Rattle.lexing.specs.Separators.{opens}

pub opens_long : (text word : List ℕ) → opens text word ≡ true → length word ≤ length text
opens_long text [] h = omega arith
opens_long [] (w ∷ word) h = absurd (false≢true h)
opens_long (b ∷ text) (w ∷ word) h = omega (arith, opens_long text word (and_parts (w == b) (opens text word) h).1)

pub opens_first : (b w : ℕ) (text word : List ℕ) → opens (b ∷ text) (w ∷ word) ≡ true → w ≡ b
opens_first b w text word h = eqb-true w b (and_parts (w == b) (opens text word) h).0
