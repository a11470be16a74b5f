-- Phis of distinct names, and what a phi reads from a block that jumps to its own.
use Rattle.std.proofs.Common.{◌≡◌, ◌≢◌, ℕ, ◌+◌, Bool, true, false, cond, eqb, Option, Some}
use Rattle.std.proofs.Common.{List, [], ◌∷◌, ◌++◌, ◌||◌, map, refl, sym, ap, subst}
use Rattle.std.specs.List.{list_any, list_all, AllByRecursion}
use Rattle.std.proofs.lemmas.Bool.{and_parts, not-true, or_parts, or_left, or_right}
use Rattle.std.proofs.lemmas.Bool.{both_ways, eq-eqb, eqb-true}
use Rattle.pm_wide.specs.declared.operand.Operand.{Operand}
use Rattle.pm_wide.specs.declared.operand.Operand.TheVariants.{Name, Const}
use Rattle.gim_ast.specs.declared.function.Function.{Function}
use Rattle.gim_ast.specs.declared.function.Block.{Block}
use Rattle.gim_ast.specs.declared.function.Phi.{Phi}
use Rattle.gim_ast.specs.Functions.{first_where, is_name, phi_name, block_of}
use Rattle.gim_ast.specs.Functions.{targets_of}
use Rattle.gim_ast.specs.WellFormed.{IsWellFormed, is_among, phi_blocks, phi_holds}
use Rattle.gim_ast.specs.WellFormed.{predecessors}
use Rattle.gim_ast.specs.Readable.{IsReadable}
use Rattle.gim_ast.specs.Readable.{Use, uses_at, uses_in_phi, uses_in_phis}
use Rattle.gim_ast.specs.Readable.{IsReadableUse}
use Rattle.gim_ast.specs.Runs.{Env, word_of_operand}
use Rattle.gim_ast.proofs.ReadableLemmas.{all_left, all_right}
use Rattle.gim_meaning.proofs.ListSearch.{all_of_found, all_in_middle, parts_of_found}
use Rattle.gim_meaning.proofs.ListSearch.{each_passes}
use Rattle.gim_meaning.proofs.RightSides.{Has, HasNot, AreDistinct}
use Rattle.gim_meaning.proofs.SubstitutionRuns.{each_of}

-- ---- phis of distinct names

pub has_phi : (front : List Phi) (phi : Phi) (rest : List Phi) →
    Has phi.name (map phi_name (front ++ phi ∷ rest))
has_phi [] phi rest =
    or_left (eqb phi.name phi.name) (list_any (eqb phi.name) (map phi_name rest))
    (eq-eqb phi.name phi.name refl)
has_phi (other ∷ front) phi rest =
    or_right (eqb phi.name other.name)
    (list_any (eqb phi.name) (map phi_name (front ++ phi ∷ rest))) (has_phi front phi rest)

pub none_named : (y : ℕ) (phis : List Phi) → HasNot y (map phi_name phis) →
    AllByRecursion (λ (phi : Phi). phi.name ≢ y) phis
none_named y [] h = tt
none_named y (phi ∷ phis) h =
    let parts = or_parts (eqb y phi.name) (list_any (eqb y) (map phi_name phis)) h in (
      λ same. both_ways (eqb y phi.name) parts.0
          (eq-eqb y phi.name (sym same)),
      none_named y phis parts.1,
    )

pub only_phi : (front : List Phi) (phi : Phi) (rest : List Phi) →
    AreDistinct (map phi_name (front ++ phi ∷ rest)) →
    AllByRecursion (λ (other : Phi). other.name ≡ phi.name → other ≡ phi) (front ++ phi ∷ rest)
only_phi [] phi rest h =
    let none = not-true (list_any (eqb phi.name) (map phi_name rest)) ((and_parts _ _ h).0) in (
      λ same. refl,
      each_of (λ (other : Phi). other.name ≢ phi.name)
          (λ (other : Phi). other.name ≡ phi.name → other ≡ phi)
          (λ other apart same. absurd (apart same)) rest (none_named phi.name rest none),
    )
only_phi (first ∷ front) phi rest h =
    let parts = and_parts _ _ h in
    let there = map phi_name (front ++ phi ∷ rest) in
    let none = not-true (list_any (eqb first.name) there) parts.0 in (
      λ same. absurd (both_ways _ none
          (subst (λ z. Has z (map phi_name (front ++ phi ∷ rest))) (sym same)
          (has_phi front phi rest))),
      only_phi front phi rest parts.1,
    )

-- the uses of a phi in the middle
pub uses_of_phi : (P : Use → Type 0) (n k : ℕ) (front : List Phi) (phi : Phi) (rest : List Phi) →
    AllByRecursion P (uses_in_phis n k (front ++ phi ∷ rest)) →
    (j : ℕ) × AllByRecursion P (uses_in_phi n j phi)
uses_of_phi P n k [] phi rest all =
    (k, all_left P (uses_in_phi n k phi) (uses_in_phis n (k + 1) rest) all)
uses_of_phi P n k (first ∷ front) phi rest all =
    uses_of_phi P n (k + 1) front phi rest
    (all_right P (uses_in_phi n k first) (uses_in_phis n (k + 1) (front ++ phi ∷ rest)) all)

-- ---- arguments

pub named_word : (x : ℕ) (e : Env) (a : Operand) → is_name x a ≡ true → word_of_operand e a ≡ e x
named_word x e (Name y t) h = ap e (eqb-true y x h)
named_word x e (Const w) h = absurd (both_ways false refl h)

pub named_readable : (f : Function) (x n k at : ℕ) (a : Operand) → is_name x a ≡ true →
    AllByRecursion (IsReadableUse f) (uses_at n k at [] (a ∷ [])) → IsReadable f x at []
named_readable f x n k at (Name y t) h uses =
    subst (λ z. IsReadable f z at []) (eqb-true y x h) uses.0
named_readable f x n k at (Const w) h uses = absurd (both_ways false refl h)

pub first_named : (n : ℕ) (args : List (ℕ × Operand)) →
    is_among n (map (λ (arg : ℕ × Operand). arg.0) args) ≡ true →
    (arg : ℕ × Operand) × (first_where (λ (a : ℕ × Operand). eqb a.0 n) args ≡ Some arg)
first_named n [] h = absurd (both_ways false refl h)
first_named n (arg ∷ args) h = by (eqb arg.0 n) h (first_named n args)
  where
    Found : Option (ℕ × Operand) → Type 0
    Found o = (a : ℕ × Operand) × (o ≡ Some a)

    by : (b : Bool) → (b || is_among n (map (λ (a : ℕ × Operand). a.0) args)) ≡ true →
        (is_among n (map (λ (a : ℕ × Operand). a.0) args) ≡ true →
        Found (first_where (λ (a : ℕ × Operand). eqb a.0 n) args)) →
        Found (cond b (Some arg) (first_where (λ (a : ℕ × Operand). eqb a.0 n) args))
    by true e more = (arg, refl)
    by false e more = more e

-- a phi of a well-formed function has an argument for each block that jumps to it
pub has_argument : (f : Function) → IsWellFormed f → (block : Block) →
    block_of f block.number ≡ Some block → (front : List Phi) (phi : Phi) (rest : List Phi) →
    block.phis ≡ front ++ phi ∷ rest →
    (before : Block) → block_of f before.number ≡ Some before →
    is_among block.number (targets_of before.end) ≡ true →
    (arg : ℕ × Operand) ×
    (first_where (λ (a : ℕ × Operand). eqb a.0 before.number) phi.args ≡ Some arg)
unfolding block_of
has_argument f well block found front phi rest split before before_found jumps =
    let n = block.number in
    let all = all_of_found (λ (b : Block). eqb b.number n)
    (λ (b : Block). list_all (phi_holds f b.number) b.phis) f.blocks block found
    ((and_parts _ _ well.blocks).1) in
    let holds = all_in_middle (phi_holds f n) front phi rest
    (subst (λ ps. list_all (phi_holds f n) ps ≡ true) split all) in
    let covered = (and_parts _ _ (and_parts _ _ holds).0).1 in
    let ways : Block → List ℕ =
    λ b. cond (list_any (λ to. eqb to n) (targets_of b.end)) (b.number ∷ []) [] in
    let own = parts_of_found (λ (b : Block). eqb b.number before.number)
    (λ m. is_among m (phi_blocks phi) ≡ true) ways f.blocks before before_found
    (each_passes (λ m. is_among m (phi_blocks phi)) (predecessors f n) covered) in
    first_named before.number phi.args
    (subst (λ b. AllByRecursion (λ m. is_among m (phi_blocks phi) ≡ true)
    (cond b (before.number ∷ []) [])) jumps own).0
