-- Each change makes a function smaller, so that tidying ends.
use Rattle.std.proofs.Common.{◌≡◌, ℕ, suc, ◌+◌, ◌<◌, ◌≤◌, Bool, true, false, cond, not, Option, Some, None, List, [], ◌∷◌, ◌++◌, map, length, eqb, refl, sym, ap, ◌∙◌, subst, arith}
use Rattle.std.specs.Prelude.{filter}
use Rattle.std.specs.Option.{option_map, option_map_or}
use Rattle.std.proofs.lemmas.Bool.{eq-eqb}
use Rattle.std.proofs.lemmas.Option.{same_Some, none-some}
use Rattle.std.proofs.lemmas.List.{length-map}
use Rattle.pm_wide.specs.declared.operand.Operand.{Operand}
use Rattle.gim_ast.specs.declared.function.Function.{Function}
use Rattle.gim_ast.specs.declared.function.Block.{Block}
use Rattle.gim_ast.specs.declared.function.Phi.{Phi}
use Rattle.gim_ast.specs.declared.function.End.{End}
use Rattle.gim_ast.specs.declared.function.End.TheVariants.{Goto, If, Return}
use Rattle.gim_changes.specs.Removal.{phi_stays, without, without_in_block}
use Rattle.gim_changes.specs.Substitution.{put_in_all, put_in_block, put_in_phi, put_in_end}
use Rattle.cfg_tidy.specs.declared.change.Change.{Change}
use Rattle.cfg_tidy.specs.Branches.{first_some, known_target, first_branch, is_lost, without_arg, branched_in_block, branched}
use Rattle.cfg_tidy.specs.Removal.{block_stays, without_args, dropped}
use Rattle.cfg_tidy.specs.Phis.{only_operand, copy_of, first_copy}
use Rattle.cfg_tidy.specs.Tidying.{Makes, branch, drop, phi}

abbrev pub size_of_end : End → ℕ
size_of_end (Goto to) = 0
size_of_end (If code left right yes_to no_to) = 1
size_of_end (Return a) = 0

abbrev pub size_of_block : Block → ℕ
size_of_block block = suc (length block.phis + size_of_end block.end)

-- how many blocks, phis and conditions there are
abbrev pub size_of : List Block → ℕ
size_of [] = 0
size_of (block ∷ blocks) = size_of_block block + size_of blocks

-- ---- a branch

known_is_if : (end : End) (to : ℕ) → known_target end ≡ Some to → size_of_end end ≡ 1
known_is_if (Goto n) to is = absurd (none-some to is)
known_is_if (If code left right yes_to no_to) to is = refl
known_is_if (Return a) to is = absurd (none-some to is)

as_many_phis : (b : Bool) (n : ℕ) (phis : List Phi) → length (cond b (map (without_arg n) phis) phis) ≡ length phis
as_many_phis true n phis = length-map phis (without_arg n)
as_many_phis false n phis = refl

end_at_most : (b : Bool) (to : ℕ) (end : End) → size_of_end (cond b (Goto to) end) ≤ size_of_end end
end_at_most true to end = omega arith
end_at_most false to end = omega arith

branched_at_most : (n : ℕ) (end : End) (to : ℕ) (block : Block) → size_of_block (branched_in_block n end to block) ≤ size_of_block block
branched_at_most n end to block =
    omega (arith, as_many_phis (is_lost end to block.number) n block.phis, end_at_most (eqb block.number n) to block.end)

all_branched_at_most : (n : ℕ) (end : End) (to : ℕ) (blocks : List Block) → size_of (map (branched_in_block n end to) blocks) ≤ size_of blocks
all_branched_at_most n end to [] = omega arith
all_branched_at_most n end to (block ∷ blocks) = omega (arith, branched_at_most n end to block, all_branched_at_most n end to blocks)

branched_below : (n : ℕ) (end : End) (to t : ℕ) (block : Block) → block.number ≡ n → known_target block.end ≡ Some t →
    size_of_block (branched_in_block n end to block) < size_of_block block
branched_below n end to t block same known =
    let ended : size_of_end (cond (eqb block.number n) (Goto to) block.end) ≡ 0 = ap (λ b. size_of_end (cond b (Goto to) block.end)) (eq-eqb block.number n same) in
    omega (arith, as_many_phis (is_lost end to block.number) n block.phis, ended, known_is_if block.end t known)

all_branched_below : (n : ℕ) (end : End) (to : ℕ) (blocks : List Block) → first_branch blocks ≡ Some (n, end, to) →
    size_of (map (branched_in_block n end to) blocks) < size_of blocks
all_branched_below n end to [] is = absurd (none-some (n, end, to) is)
all_branched_below n end to (block ∷ blocks) is = by (known_target block.end) refl is (all_branched_below n end to blocks)
  where
    by : (o : Option ℕ) → known_target block.end ≡ o →
        option_map_or Some (option_map (λ to. (block.number, block.end, to)) o) (first_branch blocks) ≡ Some (n, end, to) →
        (first_branch blocks ≡ Some (n, end, to) → size_of (map (branched_in_block n end to) blocks) < size_of blocks) →
        size_of (map (branched_in_block n end to) (block ∷ blocks)) < size_of (block ∷ blocks)
    by None known is rest = omega (arith, branched_at_most n end to block, rest is)
    by (Some t) known is rest =
        let number : block.number ≡ n = ap (λ (p : ℕ × End × ℕ). p.0) (same_Some (block.number, block.end, t) (n, end, to) is) in
        omega (arith, branched_below n end to t block number known, all_branched_at_most n end to blocks)

-- ---- a block that goes

without_at_most : (n : ℕ) (blocks : List Block) → size_of (map (without_args n) (filter (block_stays n) blocks)) ≤ size_of blocks
without_at_most n [] = omega arith
without_at_most n (block ∷ blocks) = by (eqb block.number n) (without_at_most n blocks)
  where
    by : (b : Bool) → size_of (map (without_args n) (filter (block_stays n) blocks)) ≤ size_of blocks →
        size_of (map (without_args n) (cond (not b) (block ∷ filter (block_stays n) blocks) (filter (block_stays n) blocks))) ≤ size_of (block ∷ blocks)
    by true rest = omega (arith, rest)
    by false rest = omega (arith, rest, length-map block.phis (without_arg n))

without_below : (n : ℕ) (before : List Block) (block : Block) (after : List Block) → block.number ≡ n →
    size_of (map (without_args n) (filter (block_stays n) (before ++ block ∷ after))) < size_of (before ++ block ∷ after)
without_below n [] block after same = rw (eq-eqb block.number n same) (omega (arith, without_at_most n after))
without_below n (head ∷ before) block after same = by (eqb head.number n) (without_below n before block after same)
  where
    rest : List Block
    rest = before ++ block ∷ after

    by : (b : Bool) → size_of (map (without_args n) (filter (block_stays n) rest)) < size_of rest →
        size_of (map (without_args n) (cond (not b) (head ∷ filter (block_stays n) rest) (filter (block_stays n) rest))) < size_of (head ∷ rest)
    by true less = omega (arith, less)
    by false less = omega (arith, less, length-map head.phis (without_arg n))

-- ---- a phi that goes

module _ (x : ℕ) (by_operand : Operand) where
  abbrev kept : List Phi → List Phi
  kept phis = filter (phi_stays x) (map (put_in_phi x by_operand) phis)

  kept_at_most : (phis : List Phi) → length (kept phis) ≤ length phis
  kept_at_most [] = omega arith
  kept_at_most (p ∷ phis) = by (eqb p.name x) (kept_at_most phis)
    where
      by : (b : Bool) → length (kept phis) ≤ length phis → length (cond (not b) (put_in_phi x by_operand p ∷ kept phis) (kept phis)) ≤ suc (length phis)
      by true rest = omega (arith, rest)
      by false rest = omega (arith, rest)

  kept_below : (phis : List Phi) → first_some copy_of phis ≡ Some (x, by_operand) → length (kept phis) < length phis
  kept_below [] is = absurd (none-some (x, by_operand) is)
  kept_below (p ∷ phis) is = by (only_operand p) is (kept_below phis) (kept_at_most phis)
    where
      goes : p.name ≡ x → length (kept phis) ≤ length phis → length (kept (p ∷ phis)) < suc (length phis)
      goes same most = rw (eq-eqb p.name x same) (omega (arith, most))

      stays : (b : Bool) → length (kept phis) < length phis → length (cond (not b) (put_in_phi x by_operand p ∷ kept phis) (kept phis)) < suc (length phis)
      stays true rest = omega (arith, rest)
      stays false rest = omega (arith, rest)

      by : (o : Option Operand) → option_map_or Some (option_map (λ a. (p.name, a)) o) (first_some copy_of phis) ≡ Some (x, by_operand) →
          (first_some copy_of phis ≡ Some (x, by_operand) → length (kept phis) < length phis) → length (kept phis) ≤ length phis →
          length (kept (p ∷ phis)) < suc (length phis)
      by None is rest most = stays (eqb p.name x) (rest is)
      by (Some a) is rest most = goes (ap (λ (c : ℕ × Operand). c.0) (same_Some (p.name, a) (x, by_operand) is)) most

  end_stays : (end : End) → size_of_end (put_in_end x by_operand end) ≡ size_of_end end
  end_stays (Goto to) = refl
  end_stays (If code left right yes_to no_to) = refl
  end_stays (Return a) = refl

  abbrev replaced_in : Block → Block
  replaced_in block = without_in_block x (put_in_block x by_operand block)

  abbrev all_replaced : List Block → List Block
  all_replaced blocks = map (without_in_block x) (map (put_in_block x by_operand) blocks)

  replaced_at_most : (blocks : List Block) → size_of (all_replaced blocks) ≤ size_of blocks
  replaced_at_most [] = omega arith
  replaced_at_most (block ∷ blocks) = omega (arith, kept_at_most block.phis, end_stays block.end, replaced_at_most blocks)

  all_replaced_below : (blocks : List Block) → first_copy blocks ≡ Some (x, by_operand) → size_of (all_replaced blocks) < size_of blocks
  all_replaced_below [] is = absurd (none-some (x, by_operand) is)
  all_replaced_below (block ∷ blocks) is = by (first_some copy_of block.phis) refl is (all_replaced_below blocks)
    where
      by : (o : Option (ℕ × Operand)) → first_some copy_of block.phis ≡ o → option_map_or Some o (first_copy blocks) ≡ Some (x, by_operand) →
          (first_copy blocks ≡ Some (x, by_operand) → size_of (all_replaced blocks) < size_of blocks) →
          size_of (all_replaced (block ∷ blocks)) < size_of (block ∷ blocks)
      by None here is rest = omega (arith, kept_at_most block.phis, end_stays block.end, rest is)
      by (Some c) here is rest = omega (arith, kept_below block.phis (here ∙ is), end_stays block.end, replaced_at_most blocks)

-- ---- any change

pub smaller : (f g : Function) (made : Change) → Makes f made g → size_of g.blocks < size_of f.blocks
unfolding branched dropped without put_in_all
smaller f _ _ (branch n to end is) = all_branched_below n end to f.blocks is
smaller f _ _ (drop n no_branch first) =
    subst (λ bs. size_of (map (without_args n) (filter (block_stays n) bs)) < size_of bs) (sym first.in_order)
    (without_below n first.before first.block first.after first.number)
smaller f _ _ (phi x by no_branch reached is) = all_replaced_below x by f.blocks is
