-- Where a path came from: by a jump into the block of its point, or from the entry.
use Rattle.std.proofs.Common.{◌≡◌, ℕ, true, false, eqb, Option, Some, None}
use Rattle.std.proofs.Common.{List, [], ◌∷◌, ◌++◌, ◌⊎◌, map, refl, sym, ap, subst, ◌∙◌}
use Rattle.std.proofs.Common.{⊎_elim}
use Rattle.std.proofs.Common.{◌≤◌, length, inl, inr, arith}
use Rattle.std.specs.Prelude.{option_map}
use Rattle.std.specs.List.{list_any}
use Rattle.std.proofs.lemmas.Bool.{or_cases}
use Rattle.std.proofs.lemmas.Bool.{both_ways, eqb-true}
use Rattle.std.proofs.lemmas.Option.{same_Some, none-some}
use Rattle.gim_ast.specs.declared.function.Function.{Function}
use Rattle.gim_ast.specs.declared.function.Block.{Block}
use Rattle.gim_ast.specs.Functions.{first_where, block_of}
use Rattle.gim_ast.specs.Functions.{targets_of}
use Rattle.gim_ast.specs.WellFormed.{is_among}
use Rattle.gim_ast.specs.Paths.{Stretch, stretch_of, flow_of, stretch_at, Path, enter, item, jump}
use Rattle.gim_ast.specs.Paths as paths
use Rattle.gim_ast.specs.Runs.{entry_of}
use Rattle.gim_meaning.proofs.ListSearch.{first_of_changed}
use Rattle.gim_meaning.proofs.RightSides.{Has}

-- ---- where a path came from

pub record CameBy (f : Function) (n : ℕ) (past : List ℕ) : Type 0 where
  pub before : Block
  pub found : block_of f before.number ≡ Some before
  pub jumps : is_among n (targets_of before.end) ≡ true
  pub earlier : List ℕ
  pub path : Path (flow_of f) before.number [] earlier
  pub shorter : length earlier ≤ length past

block_of_stretch : (f : Function) (s : Stretch) → stretch_at (flow_of f) s.number ≡ Some s →
    (b : Block) × (block_of f s.number ≡ Some b) × (stretch_of b ≡ s)
unfolding block_of
block_of_stretch f s is =
    by (first_where (λ (b : Block). eqb b.number s.number) f.blocks) refl
    (sym (first_of_changed (λ (b : Block). eqb b.number s.number)
    (λ (t : Stretch). eqb t.number s.number) stretch_of (λ b. refl) f.blocks) ∙ is)
  where
    by : (o : Option Block) → first_where (λ (b : Block). eqb b.number s.number) f.blocks ≡ o →
        option_map stretch_of o ≡ Some s →
        (b : Block) × (first_where (λ (c : Block). eqb c.number s.number) f.blocks ≡ Some b) ×
        (stretch_of b ≡ s)
    by None found e = absurd (none-some s e)
    by (Some b) found e = (b, found, same_Some (stretch_of b) s e)

entry_number : (blocks : List Block) (s : Stretch) →
    paths.entry_of (map stretch_of blocks) ≡ Some s → s.number ≡ entry_of blocks
entry_number [] s is = absurd (none-some s is)
entry_number (b ∷ blocks) s is = ap (λ (t : Stretch). t.number)
    (sym (same_Some (stretch_of b) s is))

-- the block of a point is the entry, or a path came into it by a jump
pub came_by : (f : Function) (n : ℕ) (left past : List ℕ) → Path (flow_of f) n left past →
    (n ≡ entry_of f.blocks) ⊎ CameBy f n past
came_by f _ _ _ (enter entry is) = inl (entry_number f.blocks entry is)
came_by f _ _ _ (jump from to past at leads target path) =
    let home = block_of_stretch f from at in
    let number : from.number ≡ home.0.number = ap (λ (s : Stretch). s.number) (sym home.2) in
    inr (record {
      before = home.0;
      found = subst (λ m. block_of f m ≡ Some home.0) number home.1;
      jumps = subst (λ (s : Stretch). is_among to.number s.targets ≡ true) (sym home.2) leads;
      earlier = past;
      path = subst (λ m. Path (flow_of f) m [] past) number path;
      shorter = omega arith;
    })
came_by f _ _ _ (item n x left past path) = ⊎_elim
    (λ at_entry. inl at_entry)
    (λ came. inr (record {
      before = came.before;
      found = came.found;
      jumps = came.jumps;
      earlier = came.earlier;
      path = came.path;
      shorter = omega (arith, came.shorter);
    }))
    (came_by f n (x ∷ left) past path)

pub has_splits : (y : ℕ) (xs : List ℕ) → Has y xs →
    (front : List ℕ) × (rest : List ℕ) × (xs ≡ front ++ y ∷ rest)
has_splits y [] h = absurd (both_ways false refl h)
has_splits y (x ∷ xs) h = ⊎_elim
    (λ here. let same : x ≡ y = sym (eqb-true y x here) in ([], xs, ap (λ z. z ∷ xs) same))
    (λ later. let parts = has_splits y xs later in
    (x ∷ parts.0, parts.1, ap (λ ys. x ∷ ys) parts.2))
    (or_cases (eqb y x) (list_any (eqb y) xs) h)
