-- A name that is the only argument of a phi, but for the phi's own, comes before it.
use Rattle.std.proofs.Common.{◌≡◌, ℕ, zero, suc, ◌<◌, ◌≤◌, Bool, true, false, cond, ◌||◌, Some, List, [], ◌∷◌, length, map, eqb, refl, sym, ap, ◌∙◌, subst, inl, inr, ⊎_elim, arith}
use Rattle.std.specs.Bool.{IsTrue}
use Rattle.std.specs.List.{list_all, list_any}
use Rattle.std.proofs.lemmas.Bool.{and_parts, or_cases, both_ways}
use Rattle.std.proofs.lemmas.Option.{same_Some, none-some}
use Rattle.pm_wide.specs.declared.operand.Operand.{Operand}
use Rattle.gim_ast.specs.declared.function.Function.{Function}
use Rattle.gim_ast.specs.declared.function.Block.{Block}
use Rattle.gim_ast.specs.declared.function.Phi.{Phi}
use Rattle.gim_ast.specs.Functions.{is_name, assigned, assigned_in, phi_name, stmt_name, targets_of}
use Rattle.gim_ast.specs.WellFormed.{is_among, is_assigned, entry_has_no_phi, predecessors, phi_blocks, phi_holds}
use Rattle.gim_ast.specs.Paths.{Stretch, stretch_of, flow_of, entry_of, stretch_at, Path, enter, item, jump}
use Rattle.gim_ast.specs.Readable.{read_for, is_initial, Supports, operand, further, IsReadable, IsValid}
use Rattle.gim_changes.specs.Trimming.{stands_in}
use Rattle.gim_changes.specs.Validity.{IsAssignedAfter, ComesBefore}
use Rattle.gim_changes.proofs.Members.{IsMember, all_members, member_left, member_splits, mapped_member, member_mapped, part_member}
use Rattle.gim_changes.proofs.DistinctNumbers.{AreDistinct, not_later}
use Rattle.gim_changes.proofs.ChangedBlocks.{none_of_empty}
use Rattle.gim_changes.proofs.Points.{path_point, one_point}
use Rattle.gim_changes.proofs.AssignedBefore.{assigned_where_fresh, support_assigned, no_circle}
use Rattle.gim_changes.proofs.NamesRead.{by_phi}
use Rattle.gim_changes.proofs.GoodOperands.{name_among}
use Rattle.gim_changes.proofs.RulesOfNames.{IsOrdered, ordered, among_member, member_among, point_of_block}
use Rattle.gim_changes.proofs.AlwaysAssigned.{flow_once, plain_where_assigned, initial_reads_nothing, reads_assigned, uses_assigned}
use Rattle.gim_changes.proofs.ComesBefore.{readable_where_assigned}

-- how a path came into the block of its point
data CameIn (flow : List Stretch) (initial : ℕ → Bool) (n : ℕ) (past : List ℕ) : Type 0 where
  at_entry : (entry : Stretch) → entry_of flow ≡ Some entry → entry.number ≡ n → CameIn flow initial n past
  by_jump : (from : Stretch) (before : List ℕ) → stretch_at flow from.number ≡ Some from → IsTrue (is_among n from.targets) → Path flow from.number [] before →
      length before ≤ length past → ((z : ℕ) → IsAssignedAfter initial z before → IsAssignedAfter initial z past) → CameIn flow initial n past

passed_more : (flow : List Stretch) (initial : ℕ → Bool) (n z : ℕ) (past : List ℕ) → CameIn flow initial n past → CameIn flow initial n (z ∷ past)
passed_more flow initial n z past (at_entry entry first number) = at_entry entry first number
passed_more flow initial n z past (by_jump from before found leads path shorter more) =
    by_jump from before found leads path (omega (arith, shorter)) (λ w assigned. inr (more w assigned))

came_in : (flow : List Stretch) (initial : ℕ → Bool) (n : ℕ) (left past : List ℕ) → Path flow n left past → CameIn flow initial n past
came_in flow initial _ _ _ (enter entry first) = at_entry entry first refl
came_in flow initial _ _ _ (jump from to past found leads target path) = by_jump from past found leads path (omega arith) (λ z assigned. assigned)
came_in flow initial _ _ _ (item n z left past path) = passed_more flow initial n z past (came_in flow initial n (z ∷ left) past path)

-- what is assigned before each assignment of x that lies on the path is assigned where x is
since_earlier : (flow : List Stretch) (initial : ℕ → Bool) (x y bound : ℕ) → (IsTrue (initial x) → ⊥) →
    ((n : ℕ) (left past : List ℕ) → length past < bound → Path flow n (x ∷ left) past → IsAssignedAfter initial y past) →
    (n : ℕ) (left past : List ℕ) → length past ≤ bound → Path flow n left past → IsAssignedAfter initial x past → IsAssignedAfter initial y past
since_earlier flow initial x y bound plain before _ _ _ within (enter entry first) assigned = absurd (plain assigned)
since_earlier flow initial x y bound plain before _ _ _ within (jump from to past found leads target path) assigned =
    since_earlier flow initial x y bound plain before from.number [] past within path assigned
since_earlier flow initial x y bound plain before _ _ _ within (item n z left past path) assigned = ⊎_elim
    (λ (now : z ≡ x). inr (before n left past (omega (arith, within)) (subst (λ w. Path flow n (w ∷ left) past) now path)))
    (λ earlier. inr (since_earlier flow initial x y bound plain before n (z ∷ left) past (omega (arith, within)) path earlier))
    assigned

-- a stretch that is found is that of a block
block_of_stretch : (blocks : List Block) (n : ℕ) (s : Stretch) → stretch_at (map stretch_of blocks) n ≡ Some s → (b : Block) × IsMember b blocks × (stretch_of b ≡ s)
block_of_stretch [] n s is = absurd (none-some s is)
block_of_stretch (c ∷ blocks) n s is = by (eqb c.number n) (block_of_stretch blocks n s) is
  where
    by : (t : Bool) → (stretch_at (map stretch_of blocks) n ≡ Some s → (b : Block) × IsMember b blocks × (stretch_of b ≡ s)) →
        cond t (Some (stretch_of c)) (stretch_at (map stretch_of blocks) n) ≡ Some s → (b : Block) × IsMember b (c ∷ blocks) × (stretch_of b ≡ s)
    by true rest found = (c, inl refl, same_Some (stretch_of c) s found)
    by false rest found = let r = rest found in (r.0, inr r.1, r.2)

-- the entry is the only block of its number
no_phi_at_entry : (blocks : List Block) → AreDistinct (map (λ (b : Block). b.number) blocks) → entry_has_no_phi blocks ≡ true → (entry : Stretch) → entry_of (map stretch_of blocks) ≡ Some entry →
    (b : Block) → IsMember b blocks → entry.number ≡ b.number → (phi : Phi) → IsMember phi b.phis → ⊥
no_phi_at_entry [] once none entry first b one number phi mine = one
no_phi_at_entry (c ∷ blocks) once none entry first b one number phi mine = ⊎_elim
    (λ here. none_of_empty c.phis none phi (subst (λ (d : Block). IsMember phi d.phis) (sym here) mine))
    (λ later. not_later c.number (map (λ (d : Block). d.number) blocks) once
    (subst (λ m. IsMember m (map (λ (d : Block). d.number) blocks)) (sym (ap (λ (s : Stretch). s.number) (same_Some (stretch_of c) entry first) ∙ number))
    (mapped_member (λ (d : Block). d.number) b blocks later)))
    one

module _ (f : Function) (valid : IsValid f) where
  -- where a name is assigned on some path, no name that is readable there has it in its support
  pub reached_apart : (x y n : ℕ) (left past : List ℕ) → Path (flow_of f) n (x ∷ left) past → ((m : ℕ) (rest : List ℕ) → IsReadable f y m (x ∷ rest)) → Supports (read_for f) y x → ⊥
  reached_apart x y n left past path readable supports =
      let order = ordered f valid.well_formed in
      let nothing = initial_reads_nothing f order in
      let reads = reads_assigned f order (uses_assigned f valid) in
      no_circle (flow_of f) (is_initial f) (read_for f) (flow_once f order) reads (plain_where_assigned f order) nothing y x
      (λ initial. nothing y (first_read y x supports).0 initial (first_read y x supports).1)
      (support_assigned (flow_of f) (is_initial f) (read_for f) (flow_once f order) reads (plain_where_assigned f order) nothing y x supports)
      n left (λ other to_point. assigned_where_fresh (is_initial f) (read_for f) y other ((readable n left).fresh other to_point)) (suc (length past)) past (omega arith) path
    where
      first_read : (w z : ℕ) → Supports (read_for f) w z → (u : ℕ) × IsTrue (is_among u (read_for f w))
      first_read w z (operand _ _ reads_it) = (z, reads_it)
      first_read w z (further _ u _ reads_it rest) = (u, reads_it)

  module _ (b : Block) (one : IsMember b f.blocks) (phi : Phi) (mine : IsMember phi b.phis) (y : ℕ)
      (all : list_all (λ (arg : ℕ × Operand). is_name y arg.1 || is_name phi.name arg.1) phi.args ≡ true) where
    phi_assigned : is_assigned f phi.name ≡ true
    unfolding assigned
    phi_assigned = member_among phi.name (assigned f) (part_member assigned_in phi.name b f.blocks one
        (member_left phi.name (map phi_name b.phis) (map stmt_name b.stmts) (mapped_member phi_name phi b.phis mine)))

    number_is : (n : ℕ) (left past : List ℕ) → Path (flow_of f) n (phi.name ∷ left) past → b.number ≡ n
    number_is n left past path =
        let order = ordered f valid.well_formed in
        let place = member_splits phi.name (assigned_in b) (member_left phi.name (map phi_name b.phis) (map stmt_name b.stmts) (mapped_member phi_name phi b.phis mine)) in
        (one_point (flow_of f) (flow_once f order) phi.name b.number n place.1 left (point_of_block f order.numbers b one place.0 (phi.name ∷ place.1) place.2)
        (path_point (flow_of f) n (phi.name ∷ left) past path)).0

    -- an argument comes from each block that jumps here
    argument_from : (from : Stretch) → stretch_at (flow_of f) from.number ≡ Some from → IsTrue (is_among b.number from.targets) → (a : Operand) × IsMember (from.number, a) phi.args
    argument_from from found leads =
        let home = block_of_stretch f.blocks from.number from found in
        let holds = all_members (phi_holds f b.number) b.phis (all_members (λ (c : Block). list_all (phi_holds f c.number) c.phis) f.blocks (and_parts _ _ valid.well_formed.blocks).1 b one) phi mine in
        let jumps : list_any (λ to. eqb to b.number) (targets_of home.0.end) ≡ true = subst (λ (s : Stretch). IsTrue (is_among b.number s.targets)) (sym home.2) leads in
        let among : IsMember home.0.number (predecessors f b.number) =
        part_member (λ (c : Block). cond (list_any (λ to. eqb to b.number) (targets_of c.end)) (c.number ∷ []) []) home.0.number home.0 f.blocks home.1
        (subst (λ t. IsMember home.0.number (cond t (home.0.number ∷ []) [])) (sym jumps) (inl refl)) in
        let listed = among_member home.0.number (phi_blocks phi) (all_members (λ m. is_among m (phi_blocks phi)) (predecessors f b.number) (and_parts _ _ (and_parts _ _ holds).0).1 home.0.number among) in
        let arg = member_mapped (λ (p : ℕ × Operand). p.0) home.0.number phi.args listed in
        let number : arg.0.0 ≡ from.number = arg.2 ∙ ap (λ (s : Stretch). s.number) home.2 in
        (arg.0.1, subst (λ m. IsMember (m, arg.0.1) phi.args) number arg.1)

    before_phi : (long n : ℕ) (left past : List ℕ) → length past < long → Path (flow_of f) n (phi.name ∷ left) past → IsAssignedAfter (is_initial f) y past
    before_phi zero n left past within path = absurd (omega arith)
    before_phi (suc long) n left past within path =
        by_way (λ m rest other shorter to_phi. before_phi long m rest other shorter to_phi) (came_in (flow_of f) (is_initial f) n (phi.name ∷ left) past path)
      where
        order : IsOrdered f
        order = ordered f valid.well_formed

        by_way : ((m : ℕ) (rest other : List ℕ) → length other < long → Path (flow_of f) m (phi.name ∷ rest) other → IsAssignedAfter (is_initial f) y other) →
            CameIn (flow_of f) (is_initial f) n past → IsAssignedAfter (is_initial f) y past
        by_way earlier (at_entry entry first number) =
            absurd (no_phi_at_entry f.blocks order.numbers (and_parts _ _ (and_parts _ _ (and_parts _ _ valid.well_formed.blocks).0).0).0 entry first b one (number ∙ sym (number_is n left past path)) phi mine)
        by_way earlier (by_jump from before found leads to_jump shorter more) =
            let arg = argument_from from found (subst (λ m. IsTrue (is_among m from.targets)) (sym (number_is n left past path)) leads) in
            ⊎_elim
            (λ its. more y (uses_assigned f valid y from.number [] (b, one, by_phi phi arg.0 mine arg.1 (name_among y arg.0 (arg.0 ∷ []) (inl refl) its) refl) before to_jump))
            (λ own. more y (since_earlier (flow_of f) (is_initial f) phi.name y (length before)
            (λ initial. both_ways (is_assigned f phi.name) (order.unassigned phi.name initial) phi_assigned)
            (λ m rest other less to_phi. earlier m rest other (omega (arith, less, shorter, within)) to_phi) from.number [] before (omega arith) to_jump
            (uses_assigned f valid phi.name from.number [] (b, one, by_phi phi arg.0 mine arg.1 (name_among phi.name arg.0 (arg.0 ∷ []) (inl refl) own) refl) before to_jump)))
            (or_cases (is_name y arg.0) (is_name phi.name arg.0) (all_members (λ (p : ℕ × Operand). is_name y p.1 || is_name phi.name p.1) phi.args all (from.number, arg.0) arg.1))

    pub argument_comes_before : stands_in f y ≡ true → (y ≡ phi.name → ⊥) → (Supports (read_for f) y phi.name → ⊥) → ComesBefore f y phi.name
    argument_comes_before stands other apart = record {
      stands = stands;
      other = other;
      apart = apart;
      readable = λ n left. readable_where_assigned f valid y n (phi.name ∷ left) (λ past path. before_phi (suc (length past)) n left past (omega arith) path);
    }
