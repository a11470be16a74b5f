-- The numbers of blocks and versions are small, so that tests on them are the same tests on their decimals.
use Rattle.std.proofs.Common.{◌≡◌, ℕ, ◌<◌, Bool, true, false, cond, List, [], ◌∷◌, ◌++◌}
use Rattle.std.proofs.Common.{map, lit≤, refl, sym, ap, subst, ◌∙◌, arith, inl, inr}
use Rattle.std.specs.Prelude.{◌==◌, nat_lt}
use Rattle.std.specs.List.{AllZip, list_any, list_all, flat_map}
use Rattle.std.specs.Option.{unwrap_or}
use Rattle.std.specs.Fmt.{decimal}
use Rattle.std.proofs.lemmas.Bool.{eqb-true, eq-eqb, ltb-true}
use Rattle.std.proofs.lemmas.Fmt.{decimal_injective}
use Rattle.std.proofs.lemmas.Simd.{map-map}
use Rattle.gim_ast.specs.declared.function.Function.{Function}
use Rattle.gim_ast.specs.declared.function.Block.{Block}
use Rattle.gim_ast.specs.declared.function.Phi.{Phi}
use Rattle.gim_ast.specs.Functions.{targets_of}
use Rattle.gim_ast.specs.WellFormed as ast
use Rattle.gim_ast.specs.WellFormed.{IsWellFormed, same_text, all_distinct, numbers_of, phi_blocks}
use Rattle.lexing.proofs.NumberLemmas.{number_below-decimal}
use Rattle.gim_shape.specs.Blocks as shape
use Rattle.gim_typing.specs.Declarations.{number_of}
use Rattle.gim_text.proofs.SameTexts.{same_text_symm, same_text_itself, same_text_is}
use Rattle.gim_text.proofs.Membership.{Has, all_has, any_has, has_map, has_flat, from_flat, has_either}
use Rattle.gim_round_trip.specs.ReadBack.{IsWithinLimits}
use Rattle.gim_round_trip.proofs.tree.FunctionParts.{jumps_of}
use Rattle.gim_round_trip.proofs.tree.PairedLists.{same_images}
use Rattle.gim_round_trip.proofs.tree.WellFormedParts.{of_blocks, phi_rules}
use Rattle.gim_text.specs.declared.limits.TheConstants.{NUMBER_LIMIT}

-- numbers up to the greatest version or block number
abbrev pub AreSmallNumbers : List ℕ → Type 0
AreSmallNumbers ns = (n : ℕ) → Has ns n → n < NUMBER_LIMIT

pub number_of_decimal : (n : ℕ) → n < NUMBER_LIMIT → number_of (decimal n) ≡ n
number_of_decimal n small = ap (λ o. unwrap_or o 0) (number_below-decimal NUMBER_LIMIT n (lit≤ tt) small)

-- small numbers of one decimal are one
pub small_decimal : (a b : ℕ) → a < NUMBER_LIMIT → b < NUMBER_LIMIT → decimal a ≡ decimal b → a ≡ b
small_decimal a b small_a small_b = decimal_injective a b (omega (arith, small_a)) (omega (arith, small_b))

both_ways : (a b : Bool) → (a ≡ true → b ≡ true) → (b ≡ true → a ≡ true) → a ≡ b
both_ways true b h k = sym (h refl)
both_ways false true h k = k refl
both_ways false false h k = refl

same_small : (a b : ℕ) → a < NUMBER_LIMIT → b < NUMBER_LIMIT → same_text (decimal a) (decimal b) ≡ (a == b)
same_small a b small_a small_b = both_ways (same_text (decimal a) (decimal b)) (a == b)
    (λ h. eq-eqb a b (small_decimal a b small_a small_b (same_text_is (decimal a) (decimal b) h)))
    (λ h. ap (λ n. same_text (decimal a) (decimal n)) (sym (eqb-true a b h)) ∙ same_text_itself (decimal a))

turned_small : (a b : ℕ) → a < NUMBER_LIMIT → b < NUMBER_LIMIT → same_text (decimal a) (decimal b) ≡ (b == a)
turned_small a b small_a small_b = same_text_symm (decimal a) (decimal b) ∙ same_small b a small_b small_a

any_decimal : (same : ℕ → Bool) (n : ℕ) (ns : List ℕ) → ((m : ℕ) → Has ns m → same_text (decimal n) (decimal m) ≡ same m)
    → list_any (same_text (decimal n)) (map decimal ns) ≡ list_any same ns
any_decimal same n [] each = refl
any_decimal same n (m ∷ ns) each = rw (each m (inl refl), any_decimal same n ns (λ k there. each k (inr there))) refl

pub among_decimals : (ns : List ℕ) (n : ℕ) → AreSmallNumbers ns → n < NUMBER_LIMIT
    → shape.is_among (map decimal ns) (decimal n) ≡ ast.is_among n ns
among_decimals ns n small one = any_decimal (λ m. m == n) n ns (λ m there. turned_small n m one (small m there))

pub distinct_decimals : (ns : List ℕ) → AreSmallNumbers ns → all_distinct same_text (map decimal ns) ≡ all_distinct ◌==◌ ns
distinct_decimals [] small = refl
distinct_decimals (n ∷ ns) small =
    rw (
      any_decimal (λ m. n == m) n ns (λ m there. same_small n m (small n (inl refl)) (small m (inr there))),
      distinct_decimals ns (λ m there. small m (inr there)),
    ) refl

pub all_among_decimals : (wanted ns : List ℕ) → AreSmallNumbers wanted → AreSmallNumbers ns
    → list_all (shape.is_among (map decimal wanted)) (map decimal ns) ≡ list_all (λ n. ast.is_among n wanted) ns
all_among_decimals wanted [] small_wanted small = refl
all_among_decimals wanted (n ∷ ns) small_wanted small =
    rw (
      among_decimals wanted n small_wanted (small n (inl refl)),
      all_among_decimals wanted ns small_wanted (λ m there. small m (inr there)),
    ) refl

-- texts that are the decimals of the numbers of their partners
pub images_are_decimals : {X Y : Type 0} (R : X → Y → Type 0) (g : X → List ℕ) (h : Y → ℕ) → ((x : X) (y : Y) → R x y → g x ≡ decimal (h y))
    → (xs : List X) (ys : List Y) → AllZip R xs ys → map g xs ≡ map decimal (map h ys)
images_are_decimals R g h same xs ys zip = same_images R g (λ y. decimal (h y)) xs ys same zip ∙ sym (map-map decimal h ys)

-- ---- the numbers of blocks

among_small : (ns : List ℕ) → AreSmallNumbers ns → (n : ℕ) → ast.is_among n ns ≡ true → n < NUMBER_LIMIT
among_small ns small n among = let m = any_has (λ m. m == n) ns among in subst (λ k. k < NUMBER_LIMIT) (eqb-true m.0 n m.2) (small m.0 m.1)

module _ (f : Function) (limits : IsWithinLimits f) where
  pub numbers_small : AreSmallNumbers (numbers_of f)
  numbers_small n there = ltb-true n NUMBER_LIMIT (all_has (λ m. nat_lt m NUMBER_LIMIT) (numbers_of f) limits.numbers n there)

  pub number_small : (block : Block) → Has f.blocks block → block.number < NUMBER_LIMIT
  number_small block there = numbers_small block.number (has_map (λ (b : Block). b.number) f.blocks block there)

  pub predecessors_small : (n : ℕ) → AreSmallNumbers (ast.predecessors f n)
  predecessors_small n m there =
      let from = from_flat (λ (b : Block). cond (list_any (λ to. to == n) (targets_of b.end)) (b.number ∷ []) []) f.blocks m there in
      by (list_any (λ to. to == n) (targets_of from.0.end)) from.0.number from.2 (number_small from.0 from.1) where
        by : (b : Bool) (k : ℕ) → Has (cond b (k ∷ []) []) m → k < NUMBER_LIMIT → m < NUMBER_LIMIT
        by true k (inl e) small = subst (λ j. j < NUMBER_LIMIT) e small
        by true k (inr h) small = absurd h
        by false k h small = absurd h

  module _ (well : IsWellFormed f) where
    pub targets_small : (block : Block) → Has f.blocks block → AreSmallNumbers (targets_of block.end)
    targets_small block there n leads =
        among_small (numbers_of f) numbers_small n
        (all_has (λ m. ast.is_among m (numbers_of f)) _ (of_blocks f well).targets n
        (has_flat (λ (b : Block). targets_of b.end) f.blocks block n there leads))

    pub phi_blocks_small : (block : Block) → Has f.blocks block → (phi : Phi) → Has block.phis phi → AreSmallNumbers (phi_blocks phi)
    phi_blocks_small block there phi here n named =
        among_small (ast.predecessors f block.number) (predecessors_small block.number) n
        (all_has (λ m. ast.is_among m (ast.predecessors f block.number)) (phi_blocks phi)
        (phi_rules f block there well phi here).only n named)

    pub jumps_small : AreSmallNumbers (jumps_of f)
    jumps_small n there =
        let block = from_flat (λ (b : Block). flat_map phi_blocks b.phis ++ targets_of b.end) f.blocks n there in
        elim (has_either (flat_map phi_blocks block.0.phis) (targets_of block.0.end) n block.2) [
          | inl h ↦ let phi = from_flat phi_blocks block.0.phis n h in phi_blocks_small block.0 block.1 phi.0 phi.1 n phi.2
          | inr h ↦ targets_small block.0 block.1 n h
        ]
