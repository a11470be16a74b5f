-- What a search along jumps has found, and how a step changes it. This is the code's concern alone.
use Rattle.std.specs.HashSet.{HashSet, contains_by}
use Rattle.std.specs.Prelude.{◌≡◌, ℕ, ◌==◌, ◌+◌, ◌*◌, ◌≤◌, Bool, not, ◌&&◌, IsTrue, ◌⊎◌, List, [], ◌∷◌, length, is_some, if◌then◌else◌}
use Rattle.gim_ast.specs.declared.function.Block.{Block}
use Rattle.gim_ast.specs.Functions.{first_where}
use Rattle.gim_ast.specs.WellFormed.{is_among}
use Rattle.cfg_tidy.specs.declared.reaching.Reach.{Reach}
use Rattle.cfg_tidy.specs.Reached.{IsReached}

abbrev pub block_is : ℕ → Block → Bool
block_is n block = block.number == n

-- there is a block of the number
abbrev pub is_there : List Block → ℕ → Bool
is_there blocks n = is_some (first_where (block_is n) blocks)

-- the number of the entry, if there is a block
abbrev pub entry_numbers : List Block → List ℕ
entry_numbers [] = []
entry_numbers (block ∷ blocks) = block.number ∷ []

-- the number is not found, and there is a block of it
abbrev pub is_new : List Block → Reach → ℕ → Bool
is_new blocks s n = not (is_among n s.found) && is_there blocks n

-- the block isn't found yet
abbrev pub is_unfound : List ℕ → Block → Bool
is_unfound found block = not (is_among block.number found)

-- how many blocks aren't
abbrev pub count_unfound : List ℕ → List Block → ℕ
count_unfound found [] = 0
count_unfound found (block ∷ blocks) = (if is_unfound found block then 1 else 0) + count_unfound found blocks

-- the set has these numbers and no others
abbrev pub HasNumbers : {S : Type 0} → HashSet ℕ S → List ℕ → Type 0
HasNumbers set numbers = (q : ℕ) → contains_by (λ k. q == k) set ≡ is_among q numbers

-- how much is to be done at most: each block that isn't found may be found and then looked on from
abbrev pub remaining : List Block → Reach → ℕ
remaining blocks s = 2 * count_unfound s.found blocks + length s.waiting

-- the search has found those of these numbers that blocks have, and no other; those that are new wait
pub record Adds (blocks : List Block) (numbers : List ℕ) (old new : Reach) : Type 0 where
  pub keeps : (q : ℕ) → IsTrue (is_among q old.found) → IsTrue (is_among q new.found)
  pub adds : (q : ℕ) → IsTrue (is_among q numbers) → IsTrue (is_there blocks q) → IsTrue (is_among q new.found)
  pub only : (q : ℕ) → IsTrue (is_among q new.found) → IsTrue (is_among q old.found) ⊎ IsTrue (is_among q numbers)
  pub waits : (q : ℕ) → IsTrue (is_among q new.found) → IsTrue (is_among q old.found) ⊎ IsTrue (is_among q new.waiting)
  pub only_waits : (q : ℕ) → IsTrue (is_among q new.waiting) → IsTrue (is_among q old.waiting) ⊎ IsTrue (is_among q new.found)
  pub still_waits : (q : ℕ) → IsTrue (is_among q old.waiting) → IsTrue (is_among q new.waiting)
  pub costs : remaining blocks new ≤ remaining blocks old
  pub indexed : HasNumbers new.set new.found

-- the numbers of blocks that are reached are found, and no other
pub record TellsReached (blocks : List Block) (s : Reach) : Type 0 where
  pub sound : (q : ℕ) → IsTrue (is_among q s.found) → IsReached blocks q
  pub complete : (q : ℕ) → IsReached blocks q → IsTrue (is_there blocks q) → IsTrue (is_among q s.found)
  pub indexed : HasNumbers s.set s.found
