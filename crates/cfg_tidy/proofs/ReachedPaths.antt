-- A path leads to the head of each block that is reached, and on through it.
use Rattle.std.proofs.Common.{◌≡◌, ℕ, true, false, cond, Option, Some, None, List, [], ◌∷◌, ◌++◌, map, eqb, refl, sym, ap, subst, ◌∙◌, ⊎_elim}
use Rattle.std.specs.Option.{option_map_or}
use Rattle.std.proofs.lemmas.Bool.{and_parts, both_ways, eq-eqb, ne_eqb}
use Rattle.std.proofs.lemmas.Option.{same_Some}
use Rattle.std.proofs.lemmas.List.{append-nil}
use Rattle.gim_ast.specs.declared.function.Function.{Function}
use Rattle.gim_ast.specs.declared.function.Block.{Block}
use Rattle.gim_ast.specs.Functions.{first_where, block_of, assigned_in, targets_of}
use Rattle.gim_ast.specs.WellFormed.{is_among}
use Rattle.gim_ast.specs.Paths.{stretch_of, flow_of, Path, enter, item, jump}
use Rattle.gim_changes.proofs.Members.{IsMember, mapped_member}
use Rattle.gim_changes.proofs.DistinctNumbers.{AreDistinct, not_later}
use Rattle.gim_meaning.proofs.AlongRuns.{stretch_found}
use Rattle.gim_meaning.proofs.Reached.{number_of_found, found_by_number}
use Rattle.cfg_tidy.specs.Reached as reached

-- what stands in a list of distinct keys is the first of its key
pub key_is_found : {X : Type 0} (key : X → ℕ) (xs : List X) → AreDistinct (map key xs) → (x : X) → IsMember x xs →
    first_where (λ (z : X). eqb (key z) (key x)) xs ≡ Some x
key_is_found key [] once x one = absurd one
key_is_found {X} key (y ∷ xs) once x one = ⊎_elim
    (λ (here : y ≡ x). subst (λ (z : X). cond (eqb (key y) (key z)) (Some y) (first_where (λ (w : X). eqb (key w) (key z)) xs) ≡ Some z) here
    (ap (λ t. cond t (Some y) (first_where (λ (w : X). eqb (key w) (key y)) xs)) (eq-eqb (key y) (key y) refl)))
    (λ later. ap (λ t. cond t (Some y) (first_where (λ (w : X). eqb (key w) (key x)) xs))
    (ne_eqb (key y) (key x) (λ same. not_later (key y) (map key xs) once (subst (λ m. IsMember m (map key xs)) (sym same) (mapped_member key x xs later))))
    ∙ key_is_found key xs (and_parts _ _ once).1 x later)
    one

-- a block of distinct numbers is the one of its number
pub member_is_found : (blocks : List Block) → AreDistinct (map (λ (b : Block). b.number) blocks) → (b : Block) → IsMember b blocks →
    first_where (λ (c : Block). eqb c.number b.number) blocks ≡ Some b
member_is_found = key_is_found (λ (b : Block). b.number)

-- the block that leads on
pub leads_from : (blocks : List Block) (m n : ℕ) → is_among n (reached.leads_to blocks m) ≡ true →
    (c : Block) × (first_where (λ (block : Block). eqb block.number m) blocks ≡ Some c) × (is_among n (targets_of c.end) ≡ true)
leads_from blocks m n leads = by (first_where (λ (block : Block). eqb block.number m) blocks) refl leads
  where
    by : (o : Option Block) → first_where (λ (block : Block). eqb block.number m) blocks ≡ o →
        is_among n (option_map_or (λ (block : Block). targets_of block.end) o []) ≡ true →
        (c : Block) × (first_where (λ (block : Block). eqb block.number m) blocks ≡ Some c) × (is_among n (targets_of c.end) ≡ true)
    by None none h = absurd (both_ways false refl h)
    by (Some c) is h = (c, is, h)

module _ (f : Function) where
  -- a path to a point goes on to a later one of its block
  pub goes_through : (n : ℕ) (front left past : List ℕ) → Path (flow_of f) n (front ++ left) past → (more : List ℕ) × Path (flow_of f) n left more
  goes_through n [] left past path = (past, path)
  goes_through n (x ∷ front) left past path = goes_through n front left (x ∷ past) (item n x (front ++ left) past path)

  entry_path : (blocks : List Block) (first : Block) (rest : List Block) → blocks ≡ first ∷ rest → (b : Block) →
      first_where (λ (c : Block). eqb c.number first.number) blocks ≡ Some b → Path (map stretch_of blocks) first.number (assigned_in b) []
  entry_path blocks first rest is b found =
      let head : first_where (λ (c : Block). eqb c.number first.number) (first ∷ rest) ≡ Some first =
      ap (λ t. cond t (Some first) (first_where (λ (c : Block). eqb c.number first.number) rest)) (eq-eqb first.number first.number refl) in
      let same : first ≡ b = same_Some first b (sym head ∙ subst (λ bs. first_where (λ (c : Block). eqb c.number first.number) bs ≡ Some b) is found) in
      subst (λ (c : Block). Path (map stretch_of blocks) first.number (assigned_in c) []) same
      (subst (λ bs. Path (map stretch_of bs) first.number (assigned_in first) []) (sym is) (enter (stretch_of first) refl))

  pub head_path : (n : ℕ) → reached.IsReached f.blocks n → (b : Block) → block_of f n ≡ Some b → (past : List ℕ) × Path (flow_of f) n (assigned_in b) past
  unfolding block_of
  head_path _ (reached.entry first rest is) b found = ([], entry_path f.blocks first rest is b found)
  head_path _ (reached.jump m n leads before) b found =
      let from = leads_from f.blocks m n leads in
      let came = head_path m before from.0 from.1 in
      let to_end = goes_through m (assigned_in from.0) [] came.0 (subst (λ l. Path (flow_of f) m l came.0) (sym (append-nil (assigned_in from.0))) came.1) in
      let number = number_of_found f m from.0 from.1 in
      let target = number_of_found f n b found in (
        to_end.0,
        subst (λ k. Path (flow_of f) k (assigned_in b) to_end.0) target
            (jump (stretch_of from.0) (stretch_of b) to_end.0 (stretch_found f from.0.number from.0 (found_by_number f m from.0 from.1))
            (subst (λ k. is_among k (targets_of from.0.end) ≡ true) (sym target) from.2) (stretch_found f b.number b (found_by_number f n b found))
            (subst (λ k. Path (flow_of f) k [] to_end.0) (sym number) to_end.1)),
      )
