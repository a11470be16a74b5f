-- What items keep along a path holds along a run: each spot that a run reaches is reached by a
-- path.
use Rattle.std.proofs.Common.{◌≡◌, ℕ, Bool, true, false, cond, eqb, Some, List, [], ◌∷◌, ◌++◌, ◌⊎◌}
use Rattle.std.proofs.Common.{◌||◌, map, refl, sym, ap, subst, ◌∙◌, inl, inr}
use Rattle.std.specs.Bool.{IsTrue}
use Rattle.std.specs.Prelude.{option_map, ◌==◌}
use Rattle.std.proofs.lemmas.Bool.{and_parts, or_left, or_right, eq-eqb}
use Rattle.std.proofs.lemmas.Option.{same_Some, none-some}
use Rattle.pm_wide.specs.Types.{Word}
use Rattle.gim_ast.specs.declared.function.Function.{Function}
use Rattle.gim_ast.specs.declared.function.Block.{Block}
use Rattle.gim_ast.specs.declared.function.Phi.{Phi}
use Rattle.gim_ast.specs.declared.function.Stmt.{Stmt}
use Rattle.gim_ast.specs.declared.function.End.{End}
use Rattle.gim_ast.specs.declared.function.End.TheVariants.{Goto, If, Return}
use Rattle.gim_ast.specs.Functions.{phi_name, stmt_name, block_of, targets_of}
use Rattle.gim_ast.specs.Functions.{first_where}
use Rattle.gim_ast.specs.WellFormed.{IsWellFormed, is_among, is_empty, entry_has_no_phi}
use Rattle.gim_ast.specs.Paths.{Stretch, stretch_of, flow_of, stretch_at, Path, enter, item, jump}
use Rattle.gim_ast.specs.Paths as paths
use Rattle.gim_ast.specs.Runs.{Env, assign, rhs_value, name_type, after_phis, start_env, To}
use Rattle.gim_ast.specs.Runs.{lead_of, holds, Place, start_of, entry_of}
use Rattle.gim_meaning.specs.ReachedPoints.{Spot, Between, Inside, Reaches}
use Rattle.gim_meaning.specs.ReachedPoints as points
use Rattle.gim_meaning.proofs.ListSearch.{first_of_changed}
use Rattle.gim_meaning.proofs.Reached.{lies, found_by_number, number_of_found}

-- ---- the flow of a function and its blocks

pub stretch_found : (f : Function) (n : ℕ) (block : Block) → block_of f n ≡ Some block →
    stretch_at (flow_of f) n ≡ Some (stretch_of block)
unfolding block_of
stretch_found f n block is =
    first_of_changed (λ (b : Block). b.number == n) (λ (s : Stretch). s.number == n) stretch_of
    (λ b. refl) f.blocks ∙ ap (option_map stretch_of) is

pub lead_is_target : (e : Env) (end : End) (n : ℕ) → lead_of e end ≡ To n →
    IsTrue (is_among n (targets_of end))
lead_is_target e (Goto to) n is = let same : to ≡ n =
    cc in or_left (eqb to n) false (eq-eqb to n same)
lead_is_target e (If code left right yes_to no_to) n is = by (holds e code left right) is
  where
    by : (b : Bool) → To (cond b yes_to no_to) ≡ To n →
        (eqb yes_to n || (eqb no_to n || false)) ≡ true
    by true e =
        let same : yes_to ≡ n = cc in
        or_left (eqb yes_to n) (eqb no_to n || false) (eq-eqb yes_to n same)
    by false e =
        let same : no_to ≡ n = cc in
        or_right (eqb yes_to n) (eqb no_to n || false)
        (or_left (eqb no_to n) false (eq-eqb no_to n same))
lead_is_target e (Return a) n is = cc

first_block : (f : Function) (block : Block) → block_of f (entry_of f.blocks) ≡ Some block →
    paths.entry_of (flow_of f) ≡ Some (stretch_of block)
unfolding block_of
first_block f block is = by f.blocks is
  where
    by : (blocks : List Block) →
        first_where (λ (b : Block). b.number == entry_of blocks) blocks ≡ Some block →
        paths.entry_of (map stretch_of blocks) ≡ Some (stretch_of block)
    by [] e = absurd (none-some block e)
    by (b ∷ blocks) e =
        let p = λ (c : Block). c.number == b.number in
        let first = ap (λ t. cond t (Some b) (first_where p blocks))
        (eq-eqb b.number b.number refl) in
        ap (λ c. Some (stretch_of c)) (same_Some b block (sym first ∙ e))

no_phi : (phis : List Phi) → is_empty phis ≡ true → phis ≡ []
no_phi [] h = refl
no_phi (phi ∷ phis) h = cc

entry_phis : (blocks : List Block) → entry_has_no_phi blocks ≡ true → (block : Block) →
    first_where (λ (b : Block). eqb b.number (entry_of blocks)) blocks ≡ Some block →
    block.phis ≡ []
entry_phis [] h block is = absurd (none-some block is)
entry_phis (b ∷ blocks) h block is =
    let p = λ (c : Block). eqb c.number b.number in
    let first = ap (λ t. cond t (Some b) (first_where p blocks)) (eq-eqb b.number b.number refl) in
    sym (ap (λ (c : Block). c.phis) (same_Some b block (sym first ∙ is))) ∙ no_phi b.phis h

pub start_has_no_phi : (f : Function) (args : List Word) → IsWellFormed f → (block : Block) →
    block_of f (start_of f args).to ≡ Some block → block.phis ≡ []
unfolding block_of start_of
start_has_no_phi f args well block is =
    entry_phis f.blocks ((and_parts _ _ (and_parts _ _ (and_parts _ _ well.blocks).0).0).0) block is

-- ---- past several names

-- the names that a path assigned, after it assigned these too
abbrev pub passed : List ℕ → List ℕ → List ℕ
passed [] past = past
passed (x ∷ xs) past = passed xs (x ∷ past)

path_passed : (flow : List Stretch) (n : ℕ) (xs left past : List ℕ) →
    Path flow n (xs ++ left) past →
    Path flow n left (passed xs past)
path_passed flow n [] left past path = path
path_passed flow n (x ∷ xs) left past path =
    path_passed flow n xs left (x ∷ past) (item n x (xs ++ left) past path)

-- ---- along a run

module _ (f : Function) (args : List Word) (V : List ℕ → Env → Type 0) where
  -- a path leads to the point, and what it keeps holds
  pub record Known (n : ℕ) (left : List ℕ) (e : Env) : Type 0 where
    pub past : List ℕ
    pub path : Path (flow_of f) n left past
    pub keeps : V past e

  -- a run has left a block for the place
  record HasLeft (place : Place) : Type 0 where
    before : Block
    number : before.number ≡ place.from
    reached : Reaches f args (Inside before [] place.env)
    leads : lead_of place.env before.end ≡ To place.to
    known : Known before.number [] place.env

  KnownThere : Spot → Type 0
  KnownThere (Between place) = (place ≡ start_of f args) ⊎ HasLeft place
  KnownThere (Inside block stmts e) = Known block.number (map stmt_name stmts) e

  -- the phis of a block keep it, and so does a statement
  abbrev pub AtPhis : Type 0
  AtPhis = (before block : Block) (e : Env) (n : ℕ) (past : List ℕ) →
      Reaches f args (Inside before [] e) →
      lead_of e before.end ≡ To n → block_of f n ≡ Some block →
      Path (flow_of f) before.number [] past → V past e →
      V (passed (map phi_name block.phis) past) (after_phis f before.number block.phis e)

  abbrev pub AtStmt : Type 0
  AtStmt = (block : Block) (stmt : Stmt) (stmts : List Stmt) (e : Env) (w : Word) (past : List ℕ) →
      Reaches f args (Inside block (stmt ∷ stmts) e) →
      rhs_value (name_type f stmt.name) e stmt.rhs ≡ Some w →
      V past e → V (stmt.name ∷ past) (assign stmt.name w e)

  module _ (well : IsWellFormed f) (at_start : V [] (start_env f args)) (at_phis : AtPhis)
      (at_stmt : AtStmt) where
    start_known : (block : Block) → block_of f (start_of f args).to ≡ Some block → block.phis ≡ [] →
        Known block.number (map stmt_name block.stmts) (start_of f args).env
    unfolding start_of
    start_known block is none = record {
      past = [];
      path = subst (λ ps. Path (flow_of f) block.number
          (map phi_name ps ++ map stmt_name block.stmts) []) none
          (enter (stretch_of block) (first_block f block is));
      keeps = at_start;
    }

    entered : (place : Place) (block : Block) → block_of f place.to ≡ Some block →
        (place ≡ start_of f args) ⊎ HasLeft place →
        Known block.number (map stmt_name block.stmts)
        (after_phis f place.from block.phis place.env)
    entered place block is (inl begun) =
        let there = subst (λ (p : Place). block_of f p.to ≡ Some block) begun is in
        let none = start_has_no_phi f args well block there in
        subst (λ ps. Known block.number (map stmt_name block.stmts)
        (after_phis f place.from ps place.env)) (sym none)
        (subst (λ (p : Place). Known block.number (map stmt_name block.stmts) p.env) (sym begun)
        (start_known block there none))
    entered place block is (inr left) =
        let number = number_of_found f place.to block is in
        let before = left.before in
        let path = jump (stretch_of before) (stretch_of block) left.known.past
        (stretch_found f before.number before (lies left.reached).found)
        (subst (λ m. IsTrue (is_among m (targets_of before.end))) (sym number)
        (lead_is_target place.env before.end place.to left.leads))
        (stretch_found f block.number block (found_by_number f place.to block is))
        left.known.path in
        subst (λ m. Known block.number (map stmt_name block.stmts)
        (after_phis f m block.phis place.env)) left.number (record {
          past = passed (map phi_name block.phis) left.known.past;
          path = path_passed (flow_of f) block.number (map phi_name block.phis)
              (map stmt_name block.stmts) left.known.past path;
          keeps = at_phis before block place.env place.to left.known.past left.reached left.leads is
              left.known.path left.known.keeps;
        })

    known_there : (spot : Spot) → Reaches f args spot → KnownThere spot
    unfolding KnownThere
    known_there _ points.start = inl refl
    known_there _ (points.enter place block is before) =
        entered place block is (known_there (Between place) before)
    known_there _ (points.pass block stmt stmts e w value before) =
        let known = known_there (Inside block (stmt ∷ stmts) e) before in
        record {
          past = stmt.name ∷ known.past;
          path = item block.number stmt.name (map stmt_name stmts) known.past known.path;
          keeps = at_stmt block stmt stmts e w known.past before value known.keeps;
        }
    known_there _ (points.leave block e n leads before) = inr (record {
      before = block;
      number = refl;
      reached = before;
      leads = leads;
      known = known_there (Inside block [] e) before;
    })

    -- where a run comes inside of a block
    pub known_inside : (block : Block) (stmts : List Stmt) (e : Env) →
        Reaches f args (Inside block stmts e) → Known block.number (map stmt_name stmts) e
    unfolding KnownThere
    known_inside block stmts e reached = known_there (Inside block stmts e) reached
