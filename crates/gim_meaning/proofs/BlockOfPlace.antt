-- The block at a place is that of its number, and a change at the place is one of that block.
use Rattle.std.proofs.Common.{◌≡◌, ℕ, zero, suc, Bool, true, false, cond, eqb, not, Some, List, []}
use Rattle.std.proofs.Common.{◌∷◌, ◌++◌, map, length, insert, slice_get, refl, sym, ap, subst, ◌∙◌}
use Rattle.std.proofs.Common.{arith}
use Rattle.std.specs.List.{list_any}
use Rattle.std.proofs.lemmas.Bool.{and_parts, not-true, or_parts, or_left, or_right, both_ways}
use Rattle.std.proofs.lemmas.Bool.{eq-eqb, eqb-true}
use Rattle.std.proofs.lemmas.Bool.Decides.{nat_tests}
use Rattle.std.proofs.lemmas.Option.{same_Some, none-some}
use Rattle.gim_ast.specs.declared.function.Function.{Function}
use Rattle.gim_ast.specs.declared.function.Block.{Block}
use Rattle.gim_ast.specs.Functions.{first_where, block_of}
use Rattle.gim_ast.specs.WellFormed.{IsWellFormed, all_distinct}
use Rattle.gim_changes.specs.Insertion.{changed_at}

-- ---- the block of a place

pub inserted : {X : Type 0} (front rest : List X) (x : X) →
    insert (front ++ rest) (length front) x ≡ front ++ x ∷ rest
inserted [] rest x = refl
inserted (y ∷ front) rest x = ap (λ ys. y ∷ ys) (inserted front rest x)

module _ (change : Block → Block) (n : ℕ) where
  abbrev pub changed_in : Block → Block
  changed_in block = cond (eqb block.number n) (change block) block

  -- no block of the number is there
  none_changed : (blocks : List Block) → list_any (eqb n)
      (map (λ (block : Block). block.number) blocks) ≡ false → map changed_in blocks ≡ blocks
  none_changed [] none = refl
  none_changed (block ∷ blocks) none =
      let parts = or_parts (eqb n block.number)
      (list_any (eqb n) (map (λ (b : Block). b.number) blocks)) none in
      let other : eqb block.number n ≡ false = grind (arith, nat_tests) in
      ap (λ b. cond b (change block) block ∷ map changed_in blocks) other
      ∙ ap (λ bs. block ∷ bs) (none_changed blocks parts.1)

number_at : (blocks : List Block) (place : ℕ) (block : Block) →
    slice_get blocks place ≡ Some block → list_any (eqb block.number)
    (map (λ (b : Block). b.number) blocks) ≡ true
number_at [] place block is = absurd (none-some block is)
number_at (b ∷ blocks) zero block is =
    or_left (eqb block.number b.number) (list_any (eqb block.number)
    (map (λ (c : Block). c.number) blocks))
    (eq-eqb block.number b.number (sym (ap (λ (c : Block). c.number) (same_Some b block is))))
number_at (b ∷ blocks) (suc place) block is =
    or_right (eqb block.number b.number)
    (list_any (eqb block.number) (map (λ (c : Block). c.number) blocks))
    (number_at blocks place block is)

pub AreApart : List Block → Type 0
AreApart blocks = all_distinct eqb (map (λ (b : Block). b.number) blocks) ≡ true

-- the head has another number than a block behind it
head_differs : (b : Block) (blocks : List Block) (place : ℕ) (block : Block) →
    list_any (eqb b.number) (map (λ (c : Block). c.number) blocks) ≡ false →
    slice_get blocks place ≡ Some block → eqb b.number block.number ≡ false
head_differs b blocks place block none is = by (eqb b.number block.number) refl
  where
    by : (t : Bool) → eqb b.number block.number ≡ t → t ≡ false
    by true same =
        absurd (both_ways (list_any (eqb b.number) (map (λ (c : Block). c.number) blocks)) none
        (subst (λ m. list_any (eqb m) (map (λ (c : Block). c.number) blocks) ≡ true)
        (sym (eqb-true b.number block.number same)) (number_at blocks place block is)))
    by false other = refl

-- what stands at a place is found by its number
pub found_at : (blocks : List Block) (place : ℕ) (block : Block) → AreApart blocks →
    slice_get blocks place ≡ Some block →
    first_where (λ (b : Block). eqb b.number block.number) blocks ≡ Some block
unfolding AreApart
found_at [] place block apart is = absurd (none-some block is)
found_at (b ∷ blocks) zero block apart is =
    let same = same_Some b block is in
    ap (λ t. cond t (Some b) (first_where (λ (c : Block). eqb c.number block.number) blocks))
    (eq-eqb b.number block.number (ap (λ (c : Block). c.number) same)) ∙ ap Some same
found_at (b ∷ blocks) (suc place) block apart is =
    let parts = and_parts (not (list_any (eqb b.number) (map (λ (c : Block). c.number) blocks)))
    (all_distinct eqb (map (λ (c : Block). c.number) blocks)) apart in
    ap (λ t. cond t (Some b) (first_where (λ (c : Block). eqb c.number block.number) blocks))
    (head_differs b blocks place block (not-true _ parts.0) is)
    ∙ found_at blocks place block parts.1 is

-- a change at a place is one of the block of its number
pub changed_by_number : (change : Block → Block) (blocks : List Block) (place : ℕ) (block : Block) →
    AreApart blocks → slice_get blocks place ≡ Some block →
    changed_at place change blocks ≡ map (changed_in change block.number) blocks
unfolding AreApart
changed_by_number change [] place block apart is = refl
changed_by_number change (b ∷ blocks) zero block apart is =
    let same = same_Some b block is in
    let parts = and_parts (not (list_any (eqb b.number) (map (λ (c : Block). c.number) blocks)))
    (all_distinct eqb (map (λ (c : Block). c.number) blocks)) apart in
    let number : b.number ≡ block.number = ap (λ (c : Block). c.number) same in
    let none = subst (λ m. list_any (eqb m) (map (λ (c : Block). c.number) blocks) ≡ false) number
    (not-true _ parts.0) in
    sym (ap (λ t. cond t (change b) b ∷ map (changed_in change block.number) blocks)
    (eq-eqb b.number block.number number)
    ∙ ap (λ bs. change b ∷ bs) (none_changed change block.number blocks none))
changed_by_number change (b ∷ blocks) (suc place) block apart is =
    let parts = and_parts (not (list_any (eqb b.number) (map (λ (c : Block). c.number) blocks)))
    (all_distinct eqb (map (λ (c : Block). c.number) blocks)) apart in
    ap (λ bs. b ∷ bs) (changed_by_number change blocks place block parts.1 is)
    ∙ sym (ap (λ t. cond t (change b) b ∷ map (changed_in change block.number) blocks)
    (head_differs b blocks place block (not-true _ parts.0) is))

pub blocks_apart : (f : Function) → IsWellFormed f → AreApart f.blocks
unfolding AreApart
blocks_apart f well = (and_parts _ _ (and_parts _ _ (and_parts _ _ well.blocks).0).0).1

-- the block at a place is that of its number
pub block_at : (f : Function) → IsWellFormed f → (place : ℕ) (home : Block) →
    slice_get f.blocks place ≡ Some home → block_of f home.number ≡ Some home
unfolding block_of
block_at f well place home at = found_at f.blocks place home (blocks_apart f well) at
