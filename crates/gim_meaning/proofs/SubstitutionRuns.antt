-- An operand put for a name keeps every defined run where it has the name's word at each use.
use Rattle.std.proofs.Common.{◌≡◌, ℕ, ◌+◌, Bool, true, false, cond, eqb, Option, Some, List, []}
use Rattle.std.proofs.Common.{◌∷◌, ◌++◌, ◌⊎◌, map, length, refl, sym, ap, subst, ◌∙◌, inl, inr}
use Rattle.std.specs.Prelude.{⊤}
use Rattle.std.specs.Option.{option_map_or}
use Rattle.std.specs.List.{flat_map, AllByRecursion}
use Rattle.std.proofs.lemmas.Bool.{eqb-true}
use Rattle.pm_wide.specs.Types.{Ty, Word, bool_type}
use Rattle.pm_wide.specs.Operations.{operation_value}
use Rattle.pm_wide.specs.declared.operand.Operand.{Operand}
use Rattle.pm_wide.specs.declared.operand.Operand.TheVariants.{Name, Const}
use Rattle.gim_ast.specs.declared.function.Function.{Function}
use Rattle.gim_ast.specs.declared.function.Block.{Block}
use Rattle.gim_ast.specs.declared.function.Phi.{Phi}
use Rattle.gim_ast.specs.declared.function.Stmt.{Stmt}
use Rattle.gim_ast.specs.declared.function.Rhs.{Rhs}
use Rattle.gim_ast.specs.declared.function.Rhs.TheVariants.{Copy, Op}
use Rattle.gim_ast.specs.declared.function.End.{End}
use Rattle.gim_ast.specs.declared.function.End.TheVariants.{Goto, If, Return}
use Rattle.gim_ast.specs.Functions.{first_where, stmt_name, operands_of_rhs, operands_of_stmt}
use Rattle.gim_ast.specs.Functions.{operands_of_end, row_of, block_of}
use Rattle.gim_ast.specs.WellFormed.{IsWellFormed}
use Rattle.gim_ast.specs.Readable.{Use, names_among, uses_at, uses_in_phi, uses_in_phis}
use Rattle.gim_ast.specs.Readable.{uses_in_stmts, uses_in_block, uses_in}
use Rattle.gim_ast.specs.Runs.{Env, assign, assign_each, start_env, word_of_operand, zero_of}
use Rattle.gim_ast.specs.Runs.{name_type, phi_word, after_phis, rhs_value, pass_stmts, lead_of, To}
use Rattle.gim_ast.specs.Runs.{Out, Place, start_of, run_of}
use Rattle.gim_run.specs.Blocks.{phi_pair}
use Rattle.gim_changes.specs.Substitution.{put, put_in_rhs, put_in_end, put_in_arg, put_in_phi}
use Rattle.gim_changes.specs.Substitution.{put_in_stmt, put_in_block, put_in_all}
use Rattle.gim_ast.proofs.ReadableLemmas.{all_left, all_right}
use Rattle.gim_meaning.specs.ReachedPoints.{Spot, Between, Inside, Reaches, start, enter, pass}
use Rattle.gim_meaning.specs.ReachedPoints.{leave}
use Rattle.gim_meaning.specs.KeptRuns.{AreArgumentWords, KeepsDefinedRuns}
use Rattle.gim_meaning.specs.SameReading.{ReadsAlike}
use Rattle.gim_meaning.proofs.AlongRuns.{start_has_no_phi}
use Rattle.gim_meaning.proofs.Agreement.{AgreeOn, agree_assigned, agree_assigned_each}
use Rattle.gim_meaning.proofs.ListSearch.{parts_of_found}
use Rattle.gim_meaning.proofs.ExactRuns.{SticksAlike, run_as_before, stuck_alike, sticks_at}
use Rattle.gim_meaning.proofs.Lockstep.{GoesAlike, StepsAlike, passes_alike, passes_stmt}
use Rattle.gim_meaning.proofs.OperandsStand.{Any, TypedAlike}
use Rattle.gim_meaning.proofs.Reached.{lies}

-- ---- from where a run is on its way

CameFrom : Function → List Word → Spot → Type 0
CameFrom f args (Between place) = (place ≡ start_of f args) ⊎
    ((block : Block) × (block.number ≡ place.from) × Reaches f args (Inside block [] place.env))
CameFrom f args (Inside block stmts env) = ⊤

came_from : (f : Function) (args : List Word) (spot : Spot) → Reaches f args spot →
    CameFrom f args spot
unfolding CameFrom
came_from f args _ start = inl refl
came_from f args _ (enter place block is before) = tt
came_from f args _ (pass block stmt stmts env w is before) = tt
came_from f args _ (leave block env n is before) = inr (block, refl, before)

-- ---- what is read

module _ (x : ℕ) (by : Operand) (e d : Env) (agree : AgreeOn Any e d) where
  -- where x is among operands, `by` has its word
  abbrev AlikeAmong : List Operand → Type 0
  AlikeAmong operands = AllByRecursion (λ y. y ≡ x → word_of_operand e by ≡ e x)
      (names_among operands)

  same_read : (a : Operand) → word_of_operand d a ≡ word_of_operand e a
  same_read (Name y t) = agree y tt
  same_read (Const w) = refl

  put_word : (a : Operand) → AlikeAmong (a ∷ []) →
      word_of_operand d (put x by a) ≡ word_of_operand e a
  put_word (Name y t) alike = choose (eqb y x) refl
    where
      choose : (b : Bool) → eqb y x ≡ b → word_of_operand d (cond b by (Name y t)) ≡ e y
      choose true is = let same = eqb-true y x is in same_read by ∙ alike.0 same ∙ ap e (sym same)
      choose false is = agree y tt
  put_word (Const w) alike = refl

  first_alike : (a : Operand) (operands : List Operand) → AlikeAmong (a ∷ operands) →
      AlikeAmong (a ∷ [])
  first_alike (Name y t) operands alike = (alike.0, tt)
  first_alike (Const w) operands alike = tt

  rest_alike : (a : Operand) (operands : List Operand) → AlikeAmong (a ∷ operands) →
      AlikeAmong operands
  rest_alike (Name y t) operands alike = alike.1
  rest_alike (Const w) operands alike = alike

  put_words : (operands : List Operand) → AlikeAmong operands →
      map (word_of_operand d) (map (put x by) operands) ≡ map (word_of_operand e) operands
  put_words [] alike = refl
  put_words (a ∷ operands) alike =
      ap (λ w. w ∷ map (word_of_operand d) (map (put x by) operands))
      (put_word a (first_alike a operands alike))
      ∙ ap (λ ws. word_of_operand e a ∷ ws) (put_words operands (rest_alike a operands alike))

  put_value : (t : Ty) (rhs : Rhs) → AlikeAmong (operands_of_rhs rhs) →
      rhs_value t d (put_in_rhs x by rhs) ≡ rhs_value t e rhs
  put_value t (Copy a) alike = ap Some (put_word a alike)
  put_value t (Op code operands) alike = ap (operation_value code t) (put_words operands alike)

  put_lead : (end : End) → AlikeAmong (operands_of_end end) →
      lead_of d (put_in_end x by end) ≡ lead_of e end
  put_lead (Goto to) alike = refl
  put_lead (If code left right yes_to no_to) alike =
      ap (λ ws. To (cond (option_map_or (λ (w : Word). eqb w.bits 1)
      (operation_value code bool_type ws) false) yes_to no_to))
      (put_words (left ∷ right ∷ []) alike)
  put_lead (Return a) alike = ap Out (put_word a alike)

  -- an argument of the block that was left
  put_arg : (from : ℕ) (zero : Word) (args : List (ℕ × Operand)) →
      AllByRecursion (λ (arg : ℕ × Operand). arg.0 ≡ from → AlikeAmong (arg.1 ∷ [])) args →
      option_map_or (λ (arg : ℕ × Operand). word_of_operand d arg.1)
      (first_where (λ (arg : ℕ × Operand). eqb arg.0 from) (map (put_in_arg x by) args)) zero
      ≡ option_map_or (λ (arg : ℕ × Operand). word_of_operand e arg.1)
      (first_where (λ (arg : ℕ × Operand). eqb arg.0 from) args) zero
  put_arg from zero [] alike = refl
  put_arg from zero (arg ∷ args) alike =
      choose (eqb arg.0 from) refl (put_arg from zero args alike.1)
    where
      found : List (ℕ × Operand) → Option (ℕ × Operand)
      found rest = first_where (λ (a : ℕ × Operand). eqb a.0 from) rest

      choose : (b : Bool) → eqb arg.0 from ≡ b →
          option_map_or (λ (a : ℕ × Operand). word_of_operand d a.1)
          (found (map (put_in_arg x by) args)) zero ≡ option_map_or
          (λ (a : ℕ × Operand). word_of_operand e a.1) (found args) zero →
          option_map_or (λ (a : ℕ × Operand). word_of_operand d a.1)
          (cond b (Some (put_in_arg x by arg)) (found (map (put_in_arg x by) args))) zero
          ≡ option_map_or (λ (a : ℕ × Operand). word_of_operand e a.1)
          (cond b (Some arg) (found args)) zero
      choose true is rest = put_word arg.1 (alike.0 (eqb-true arg.0 from is))
      choose false is rest = rest

-- ---- uses of a block

module _ (P : Use → Type 0) where
  -- what holds of the uses at one point
  pub names_at : {Q : ℕ → Type 0} (n k at : ℕ) (left : List ℕ) →
      ((y : ℕ) → P (record { block = n; item = k; name = y; at = at; left = left }) → Q y) →
      (operands : List Operand) → AllByRecursion P (uses_at n k at left operands) →
      AllByRecursion Q (names_among operands)
  names_at n k at left tells [] all = tt
  names_at n k at left tells (Name y t ∷ operands) all =
      (tells y all.0, names_at n k at left tells operands all.1)
  names_at n k at left tells (Const w ∷ operands) all = names_at n k at left tells operands all

  -- those of a statement in the middle
  pub uses_of_stmt : (n k : ℕ) (front : List Stmt) (stmt : Stmt) (stmts : List Stmt) →
      AllByRecursion P (uses_in_stmts n k (front ++ stmt ∷ stmts)) →
      (j : ℕ) × AllByRecursion P (uses_at n j n (map stmt_name (stmt ∷ stmts))
      (operands_of_stmt stmt))
  uses_of_stmt n k [] stmt stmts all = (
    k,
    all_left P
        (uses_at n k n (map stmt_name (stmt ∷ stmts)) (operands_of_stmt stmt))
        (uses_in_stmts n (k + 1) stmts) all,
  )
  uses_of_stmt n k (s ∷ front) stmt stmts all =
      uses_of_stmt n (k + 1) front stmt stmts
      (all_right P (uses_at n k n (map stmt_name (s ∷ front ++ stmt ∷ stmts)) (operands_of_stmt s))
      (uses_in_stmts n (k + 1) (front ++ stmt ∷ stmts)) all)

  -- those of arguments
  pub uses_of_args : (n k : ℕ) (args : List (ℕ × Operand)) →
      AllByRecursion P (flat_map (λ (arg : ℕ × Operand). uses_at n k arg.0 [] (arg.1 ∷ [])) args) →
      AllByRecursion (λ (arg : ℕ × Operand). AllByRecursion P (uses_at n k arg.0 [] (arg.1 ∷ [])))
      args
  uses_of_args n k [] all = tt
  uses_of_args n k (arg ∷ args) all =
      let uses : ℕ × Operand → List Use = λ a. uses_at n k a.0 [] (a.1 ∷ []) in (
        all_left P (uses arg) (flat_map uses args) all,
        uses_of_args n k args
            (all_right P (uses arg) (flat_map uses args) all),
      )

  pub uses_of_block : (block : Block) → AllByRecursion P (uses_in_block block) →
      AllByRecursion P (uses_in_phis block.number 1 block.phis) × AllByRecursion P
      (uses_in_stmts block.number (1 + length block.phis) block.stmts) ×
      AllByRecursion P (uses_at block.number
      (1 + length block.phis + length block.stmts) block.number [] (operands_of_end block.end))
  uses_of_block block all =
      let n = block.number in
      let phis = uses_in_phis n 1 block.phis in
      let stmts = uses_in_stmts n (1 + length block.phis) block.stmts in
      let ends = uses_at n (1 + length block.phis + length block.stmts) n []
      (operands_of_end block.end) in
      let front = all_left P (phis ++ stmts) ends all in (
        all_left P phis stmts front,
        all_right P phis stmts front,
        all_right P
            (phis ++ stmts) ends all,
      )

pub each_of : {X : Type 0} (P Q : X → Type 0) → ((a : X) → P a → Q a) → (xs : List X) →
    AllByRecursion P xs → AllByRecursion Q xs
each_of P Q tells [] all = tt
each_of P Q tells (a ∷ xs) all = (tells a all.0, each_of P Q tells xs all.1)

-- ---- the law

-- at a use of x, whenever the run on these arguments comes there, the operand has the word of x
abbrev pub ReadsAlikeOn : Function → ℕ → Operand → List Word → Use → Type 0
ReadsAlikeOn f x by args place = place.name ≡ x → (block : Block) (stmts : List Stmt) (env : Env) →
    Reaches f args (Inside block stmts env) → block.number ≡ place.at →
    map stmt_name stmts ≡ place.left → word_of_operand env by ≡ env x

module _ (f : Function) (well : IsWellFormed f) (x : ℕ) (by : Operand) where
  put_typed : (y : ℕ) → TypedAlike f (put_in_all x by f) y
  unfolding name_type row_of put_in_all
  put_typed y = refl

  put_starts : (args : List Word) → start_env (put_in_all x by f) args ≡ start_env f args
  unfolding start_env row_of put_in_all
  put_starts args = refl

  module _ (args : List Word) (alike : AllByRecursion (ReadsAlikeOn f x by args) (uses_in f)) where
    abbrev Alike : Use → Type 0
    Alike = ReadsAlikeOn f x by args

    alike_in : (n : ℕ) (block : Block) → block_of f n ≡ Some block →
        AllByRecursion Alike (uses_in_block block)
    unfolding block_of
    alike_in n block found = parts_of_found (λ (b : Block). eqb b.number n)
        Alike uses_in_block f.blocks block found alike

    -- at a point where the run comes
    alike_there : (block : Block) (stmts : List Stmt) (e : Env) →
        Reaches f args (Inside block stmts e) → (n k at : ℕ) → block.number ≡ at → (y : ℕ) →
        Alike (record {
          block = n;
          item = k;
          name = y;
          at = at;
          left =
              map stmt_name stmts;
        }) → y ≡ x → word_of_operand e by ≡ e x
    alike_there block stmts e reached n k at number y reads same =
        reads same block stmts e reached number refl

    put_same : (block : Block) (stmt : Stmt) (stmts : List Stmt) (e d : Env) →
        Reaches f args (Inside block (stmt ∷ stmts) e) → AgreeOn Any e d →
        rhs_value (name_type (put_in_all x by f) stmt.name) d (put_in_rhs x by stmt.rhs)
        ≡ rhs_value (name_type f stmt.name) e stmt.rhs
    put_same block stmt stmts e d reached agree =
        let there = lies reached in
        let n = block.number in
        let uses = (uses_of_block Alike block (alike_in n block there.found)).1 in
        let own = uses_of_stmt Alike n (1 + length block.phis) there.front stmt stmts
        (subst (λ ss. AllByRecursion Alike (uses_in_stmts n (1 + length block.phis) ss)) there.is
        uses) in
        let among = names_at Alike n own.0 n (map stmt_name (stmt ∷ stmts))
        (alike_there block (stmt ∷ stmts) e reached n own.0 n refl)
        (operands_of_stmt stmt) own.1 in
        ap (λ t. rhs_value t d (put_in_rhs x by stmt.rhs)) (put_typed stmt.name)
        ∙ put_value x by e d agree (name_type f stmt.name) stmt.rhs among

    put_steps : (block : Block) →
        StepsAlike f (put_in_all x by f) Any args block (map (put_in_stmt x by))
    put_steps block stmt stmts e d w reached agree value = (
      assign stmt.name w d,
      passes_stmt (put_in_all x by f) (put_in_stmt x by stmt) (map (put_in_stmt x by) stmts) d w
          (put_same block stmt stmts e d reached agree ∙ value),
      agree_assigned Any e d stmt.name w agree,
    )

    put_sticks : (block : Block) →
        SticksAlike f (put_in_all x by f) Any args block (map (put_in_stmt x by))
    put_sticks block stmt stmts e d reached agree none =
        sticks_at (put_in_all x by f) (put_in_stmt x by stmt) (map (put_in_stmt x by) stmts) d
        (put_same block stmt stmts e d reached agree ∙ none)

    put_ends : (block : Block) (e d : Env) → Reaches f args (Inside block [] e) → AgreeOn Any e d →
        lead_of d (put_in_end x by block.end) ≡ lead_of e block.end
    put_ends block e d reached agree =
        let n = block.number in
        let k = 1 + length block.phis + length block.stmts in
        let uses = (uses_of_block Alike block (alike_in n block (lies reached).found)).2 in
        put_lead x by e d agree block.end
        (names_at Alike n k n [] (alike_there block [] e reached n k n refl)
        (operands_of_end block.end) uses)

    put_pairs : (before : Block) (e d : Env) → Reaches f args (Inside before [] e) →
        AgreeOn Any e d → (n k : ℕ) (phis : List Phi) →
        AllByRecursion Alike (uses_in_phis n k phis) →
        map (phi_pair (put_in_all x by f) before.number d) (map (put_in_phi x by) phis) ≡ map
        (phi_pair f before.number e) phis
    put_pairs before e d reached agree n k [] all = refl
    put_pairs before e d reached agree n k (phi ∷ phis) all =
        let from = before.number in
        let here = uses_of_args Alike n k phi.args
        (all_left Alike (uses_in_phi n k phi) (uses_in_phis n (k + 1) phis) all)
        in
        let rest = put_pairs before e d reached agree n (k + 1) phis
        (all_right Alike (uses_in_phi n k phi) (uses_in_phis n (k + 1) phis) all)
        in
        let among = each_of (λ (arg : ℕ × Operand). AllByRecursion Alike
        (uses_at n k arg.0 [] (arg.1 ∷ [])))
        (λ (arg : ℕ × Operand). arg.0 ≡ from → AlikeAmong x by e d agree (arg.1 ∷ []))
        (λ arg uses same. names_at Alike n k arg.0 []
        (alike_there before [] e reached n k arg.0 (sym same)) (arg.1 ∷ []) uses) phi.args here
        in
        let word : phi_word (put_in_all x by f) from d
        (put_in_phi x by phi) ≡ phi_word f from e phi =
        ap (λ t. option_map_or (λ (arg : ℕ × Operand). word_of_operand d arg.1)
        (first_where (λ (arg : ℕ × Operand). eqb arg.0 from) (map (put_in_arg x by) phi.args))
        (zero_of t)) (put_typed phi.name)
        ∙ put_arg x by e d agree from (zero_of (name_type f phi.name)) phi.args among in
        ap (λ (w : Word). (phi.name, w) ∷ map (phi_pair (put_in_all x by f) from d)
        (map (put_in_phi x by) phis)) word ∙ ap (λ pairs. phi_pair f from e phi ∷ pairs) rest

    put_phis : (place : Place) (block : Block) (d : Env) → Reaches f args (Between place) →
        block_of f place.to ≡ Some block → AgreeOn Any place.env d →
        AgreeOn Any (after_phis f place.from block.phis place.env)
        (after_phis (put_in_all x by f) place.from (map (put_in_phi x by) block.phis) d)
    unfolding CameFrom
    put_phis place block d reached found agree = go (came_from f args (Between place) reached)
      where
        go : CameFrom f args (Between place) →
            AgreeOn Any (after_phis f place.from block.phis place.env)
            (after_phis (put_in_all x by f) place.from (map (put_in_phi x by) block.phis) d)
        go (inl at_start) =
            let none : block.phis ≡ [] =
            start_has_no_phi f args well block
            (subst (λ (p : Place). block_of f p.to ≡ Some block) at_start found) in
            subst (λ ps. AgreeOn Any (after_phis f place.from ps place.env)
            (after_phis (put_in_all x by f) place.from (map (put_in_phi x by) ps) d))
            (sym none) agree
        go (inr came) =
            let uses = (uses_of_block Alike block (alike_in place.to block found)).0
            in
            let pairs = put_pairs came.0 place.env d came.2 agree block.number 1 block.phis uses in
            let old = λ (from : ℕ). map (phi_pair f from place.env) block.phis in
            let new = λ (from : ℕ). map (phi_pair (put_in_all x by f) from d)
            (map (put_in_phi x by) block.phis) in
            subst (λ n. AgreeOn Any (assign_each (old n) place.env) (assign_each (new n) d)) came.1
            (subst (λ ps. AgreeOn Any (assign_each (old came.0.number) place.env)
            (assign_each ps d)) (sym pairs)
            (agree_assigned_each Any (old came.0.number) place.env d agree))

    goes_with_put : GoesAlike f (put_in_all x by f) (put_in_block x by) Any args
    goes_with_put = record {
      begins = λ y stands. ap (λ (env : Env). env y) (put_starts args);
      phis = put_phis;
      stmts = λ block e after d reached is agree.
          passes_alike f (put_in_all x by f) Any args block (map (put_in_stmt x by))
          (put_steps block) (λ e d reached agree. (d, refl, agree)) block.stmts e after d reached
          is agree;
      ends = put_ends;
    }

    -- on these arguments each run is as before
    pub put_runs_alike : (fuel : ℕ) → run_of (put_in_all x by f) args fuel ≡ run_of f args fuel
    unfolding put_in_all
    put_runs_alike = run_as_before f (put_in_all x by f) (put_in_block x by) (λ block. refl) refl
        Any args goes_with_put
        (λ block e d y reached is agree.
        stuck_alike f (put_in_all x by f) Any args block (map (put_in_stmt x by))
        (put_steps block) (put_sticks block) y block.stmts e d reached is agree)

  pub substitution_keeps_runs : AllByRecursion (ReadsAlike f x by) (uses_in f) →
      KeepsDefinedRuns f (put_in_all x by f)
  unfolding put_in_all
  substitution_keeps_runs alike = record {
    params = refl;
    runs = λ args words fuel defined.
        put_runs_alike args (each_of (ReadsAlike f x by) (ReadsAlikeOn f x by args)
        (λ place reads name. reads name args words) (uses_in f) alike) fuel;
  }
