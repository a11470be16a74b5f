-- What stands at the places of a function that were gone through.
use Rattle.std.specs.Prelude.{◌≡◌, ℕ, Bool, false, List}
use Rattle.gim_limits.specs.declared.seen.Seen.{Seen}
use Rattle.gim_limits.specs.Limits.{different}
use Rattle.gim_shape.specs.Tables.{HasTexts}

-- names of these versions stand there, and so many blocks
pub record IsSeen (versions : List (List ℕ)) (blocks : ℕ) (seen : Seen) : Type 0 where
  pub known : HasTexts seen.versions versions
  pub names_counted : seen.names ≡ different versions
  pub blocks_counted : seen.blocks ≡ blocks

-- the answer is the expected one, and where it is no, the fact holds
abbrev pub Takes : Bool → Type 0 → Bool → Type 0
Takes expected fact answer = (answer ≡ expected) × (answer ≡ false → fact)
