-- A list of changes that takes no phi out leaves every run as it is.
use Rattle.std.proofs.Common.{◌≡◌, ℕ, Bool, true, false, cond, not, Option, Some, None, List, [], ◌∷◌, map, eqb, refl, sym, ap, subst, ◌∙◌, Result, Ok, Err}
use Rattle.std.specs.Prelude.{filter, IfOk}
use Rattle.std.specs.Option.{option_map}
use Rattle.std.proofs.lemmas.Bool.{and_parts, both_ways, ne_eqb}
use Rattle.std.proofs.lemmas.Option.{same_Some, none-some}
use Rattle.gim_ast.specs.declared.function.Function.{Function}
use Rattle.gim_ast.specs.declared.function.Block.{Block}
use Rattle.gim_ast.specs.declared.function.Phi.{Phi}
use Rattle.gim_ast.specs.declared.function.End.{End}
use Rattle.gim_ast.specs.Functions.{block_of}
use Rattle.gim_ast.specs.Runs.{entry_of}
use Rattle.gim_ast.specs.WellFormed.{is_empty, entry_has_no_phi, IsWellFormed}
use Rattle.gim_changes.specs.Trimming.{trimmed}
use Rattle.gim_changes.proofs.Members.{IsMember, member_mapped, member_filtered, mapped_member}
use Rattle.gim_changes.proofs.DistinctNumbers.{AreDistinct, distinct_from, not_later}
use Rattle.cfg_tidy.specs.declared.change.Change.{Change}
use Rattle.cfg_tidy.specs.declared.change.Tidied.{Tidied}
use Rattle.cfg_tidy.specs.Branches.{known_target, branch_of, first_branch, is_lost, without_arg, branched_in_block, branched}
use Rattle.cfg_tidy.specs.Reached.{IsReached}
use Rattle.cfg_tidy.specs.Removal.{block_stays, without_args, dropped}
use Rattle.cfg_tidy.specs.SameRuns.{RunAlike, take_no_phi}
use Rattle.cfg_tidy.specs.Tidying.{branch, drop, phi, Becomes, same, then_on, IsTidied}
use Rattle.cfg_tidy.proofs.BranchRuns.{branch_runs_alike}
use Rattle.cfg_tidy.proofs.DroppedRuns.{dropping_runs_alike, entry_reached}
use Rattle.cfg_tidy.proofs.FirstCopy.{first_some_gives}
use Rattle.cfg_tidy.proofs.ReachedPaths.{member_is_found}
use Rattle.cfg_tidy.proofs.SoundFunctions.{numbers, IsInOrder}
use Rattle.cfg_tidy.proofs.TrimmedRuns.{trimming_runs_alike}

still_empty : (b : Bool) (n : ℕ) (phis : List Phi) → is_empty phis ≡ true → is_empty (cond b (map (without_arg n) phis) phis) ≡ true
still_empty true n [] h = refl
still_empty true n (p ∷ phis) h = absurd (both_ways false refl h)
still_empty false n phis h = h

-- ---- a branch

module _ (n to : ℕ) (end : End) where
  abbrev change : Block → Block
  change = branched_in_block n end to

  numbers_stay : (blocks : List Block) → numbers (map change blocks) ≡ numbers blocks
  numbers_stay [] = refl
  numbers_stay (block ∷ blocks) = ap (λ ns. block.number ∷ ns) (numbers_stay blocks)

  entry_stays : (blocks : List Block) → entry_has_no_phi blocks ≡ true → entry_has_no_phi (map change blocks) ≡ true
  entry_stays [] h = h
  entry_stays (block ∷ blocks) h = still_empty (is_lost end to block.number) n block.phis h

  pub branch_in_order : (blocks : List Block) → IsInOrder blocks → IsInOrder (map change blocks)
  branch_in_order blocks order = record { entry = entry_stays blocks order.entry; apart = subst AreDistinct (sym (numbers_stay blocks)) order.apart }

pub first_branch_runs_alike : (f : Function) (n to : ℕ) (end : End) → IsInOrder f.blocks → first_branch f.blocks ≡ Some (n, end, to) → RunAlike f (branched n end to f)
unfolding block_of
first_branch_runs_alike f n to end order is =
    let at = first_some_gives branch_of f.blocks (n, end, to) is in
    told at.0 at.1 (known_target at.0.end) refl at.2
  where
    told : (block : Block) → IsMember block f.blocks → (o : Option ℕ) → known_target block.end ≡ o →
        option_map {U = ℕ × End × ℕ} (λ t. (block.number, block.end, t)) o ≡ Some (n, end, to) → RunAlike f (branched n end to f)
    told block one None known e = absurd (none-some (n, end, to) e)
    told block one (Some t) known e =
        let same = same_Some (block.number, block.end, t) (n, end, to) e in
        subst (λ (p : ℕ × End × ℕ). RunAlike f (branched p.0 p.1 p.2 f)) same
        (branch_runs_alike f block t (member_is_found f.blocks order.apart block one) known order.entry)

-- ---- a block that goes

module _ (n : ℕ) where
  abbrev left : List Block → List Block
  left blocks = map (without_args n) (filter (block_stays n) blocks)

  number_before : (blocks : List Block) (m : ℕ) → IsMember m (numbers (left blocks)) → IsMember m (numbers blocks)
  number_before blocks m one =
      let c = member_mapped (λ (b : Block). b.number) m (left blocks) one in
      let b = member_mapped (without_args n) c.0 (filter (block_stays n) blocks) c.1 in
      let old = member_filtered (block_stays n) b.0 blocks b.1 in
      subst (λ k. IsMember k (numbers blocks)) (ap (λ (d : Block). d.number) b.2 ∙ c.2) (mapped_member (λ (d : Block). d.number) b.0 blocks old.0)

  left_apart : (blocks : List Block) → AreDistinct (numbers blocks) → AreDistinct (numbers (left blocks))
  left_apart [] h = refl
  left_apart (block ∷ blocks) h = by (eqb block.number n) (left_apart blocks (and_parts _ _ h).1)
    where
      by : (b : Bool) → AreDistinct (numbers (left blocks)) →
          AreDistinct (numbers (map (without_args n) (cond (not b) (block ∷ filter (block_stays n) blocks) (filter (block_stays n) blocks))))
      by true rest = rest
      by false rest = distinct_from block.number (numbers (left blocks)) (λ again. not_later block.number (numbers blocks) h (number_before blocks block.number again)) rest

  left_entry : (blocks : List Block) → (entry_of blocks ≡ n → ⊥) → entry_has_no_phi blocks ≡ true → entry_has_no_phi (left blocks) ≡ true
  left_entry [] other h = h
  left_entry (block ∷ blocks) other h = rw (ne_eqb block.number n other) (still_empty true n block.phis h)

  drop_in_order : (blocks : List Block) → (IsReached blocks n → ⊥) → IsInOrder blocks → IsInOrder (left blocks)
  drop_in_order blocks unreached order = record {
    entry = left_entry blocks (λ same. unreached (subst (IsReached blocks) same (entry_reached blocks order.entry))) order.entry;
    apart = left_apart blocks order.apart;
  }

-- ---- any changes but those of phis

pub alike_through : (f g h : Function) → RunAlike f g → RunAlike g h → RunAlike f h
alike_through f g h first second args fuel = second args fuel ∙ first args fuel

changes_run_alike : (f g : Function) (changes : List Change) → Becomes f changes g → IsInOrder f.blocks → take_no_phi changes ≡ true → RunAlike f g
unfolding branched dropped
changes_run_alike _ _ _ (same f) order none = λ args fuel. refl
changes_run_alike _ _ _ (then_on f _ h _ changes (branch n to end is) more) order none =
    alike_through f (branched n end to f) h (first_branch_runs_alike f n to end order is)
    (changes_run_alike (branched n end to f) h changes more (branch_in_order n to end f.blocks order) none)
changes_run_alike _ _ _ (then_on f _ h _ changes (drop n no_branch first) more) order none =
    let unreached = subst (λ m. IsReached f.blocks m → ⊥) first.number first.unreached in
    alike_through f (dropped n f) h (dropping_runs_alike f n unreached order.entry)
    (changes_run_alike (dropped n f) h changes more (drop_in_order n f.blocks unreached order) none)
changes_run_alike _ _ _ (then_on f _ h _ changes (phi x by no_branch reached is) more) order none = absurd (both_ways false refl none)

pub tidied_runs_alike : (f g : Function) (changes : List Change) → IsWellFormed f → IsTidied f changes g → take_no_phi changes ≡ true → RunAlike f g
tidied_runs_alike f g changes well tidied none =
    let rules = and_parts _ _ (and_parts _ _ (and_parts _ _ well.blocks).0).0 in
    subst (RunAlike f) (sym tidied.trimmed)
    (alike_through f tidied.last (trimmed tidied.last)
    (changes_run_alike f tidied.last changes tidied.becomes (record { entry = rules.0; apart = rules.1 }) none) (trimming_runs_alike tidied.last))

pub runs_alike_if_ok : {E : Type 0} (f : Function) (result : Result Tidied E) → IfOk result (λ (t : Tidied). IsTidied f t.changes t.function) →
    IfOk result (λ (t : Tidied). IsWellFormed f → take_no_phi t.changes ≡ true → RunAlike f t.function)
runs_alike_if_ok f (Ok t) tidied = λ well none. tidied_runs_alike f t.function t.changes well tidied none
runs_alike_if_ok f (Err e) tidied = tt
