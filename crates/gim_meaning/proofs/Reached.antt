-- Where a run comes it stands in a block of the function, before its last statements.
use Rattle.std.proofs.Common.{◌≡◌, ℕ, Option, Some, None, List, [], ◌∷◌, ◌++◌, refl, sym, subst}
use Rattle.std.proofs.Common.{◌∙◌, append_assoc}
use Rattle.std.specs.Prelude.{⊤}
use Rattle.std.specs.Option.{option_map_or}
use Rattle.std.specs.Prelude.{◌==◌}
use Rattle.std.proofs.lemmas.Bool.{eqb-true}
use Rattle.pm_wide.specs.Types.{Word}
use Rattle.gim_ast.specs.declared.function.Function.{Function}
use Rattle.gim_ast.specs.declared.function.Block.{Block}
use Rattle.gim_ast.specs.declared.function.Stmt.{Stmt}
use Rattle.gim_ast.specs.Functions.{block_of}
use Rattle.gim_ast.specs.Runs.{Env, assign, rhs_value, name_type, pass_stmts, On, Stuck}
use Rattle.gim_meaning.specs.ReachedPoints.{Spot, Between, Inside, Reaches, start, enter, pass}
use Rattle.gim_meaning.specs.ReachedPoints.{leave, Lies}
use Rattle.gim_meaning.proofs.ListSearch.{found_passes}

pub number_of_found : (f : Function) (n : ℕ) (block : Block) → block_of f n ≡ Some block →
    block.number ≡ n
unfolding block_of
number_of_found f n block is = eqb-true block.number n
    (found_passes (λ (b : Block). b.number == n) f.blocks block is)

pub found_by_number : (f : Function) (n : ℕ) (block : Block) → block_of f n ≡ Some block →
    block_of f block.number ≡ Some block
found_by_number f n block is = subst (λ m. block_of f m ≡ Some block)
    (sym (number_of_found f n block is)) is

abbrev LiesThere : Function → Spot → Type 0
LiesThere f (Between place) = ⊤
LiesThere f (Inside block stmts env) = Lies f block stmts

lies_there : (f : Function) (args : List Word) (spot : Spot) → Reaches f args spot →
    LiesThere f spot
lies_there f args _ start = tt
lies_there f args _ (enter place block is before) =
    record { found = found_by_number f place.to block is; front = []; is = refl }
lies_there f args _ (pass block stmt stmts env w is before) =
    let there = lies_there f args (Inside block (stmt ∷ stmts) env) before in
    record {
      found = there.found;
      front = there.front ++ stmt ∷ [];
      is = there.is ∙ sym (append_assoc there.front (stmt ∷ []) stmts);
    }
lies_there f args _ (leave block env n is before) = tt

pub lies : {f : Function} {args : List Word} {block : Block} {stmts : List Stmt} {env : Env} →
    Reaches f args (Inside block stmts env) → Lies f block stmts
lies {f} {args} {block} {stmts} {env} reached = lies_there f args (Inside block stmts env) reached

-- what passes statements passes the first one, which has a value
pub passed_first : (f : Function) (stmt : Stmt) (stmts : List Stmt) (env after : Env) →
    pass_stmts f (stmt ∷ stmts) env ≡ On after →
    (w : Word) × (rhs_value (name_type f stmt.name) env stmt.rhs ≡ Some w) ×
    (pass_stmts f stmts (assign stmt.name w env) ≡ On after)
passed_first f stmt stmts env after is = by (rhs_value (name_type f stmt.name) env stmt.rhs) refl is
  where
    by : (found : Option Word) → rhs_value (name_type f stmt.name) env stmt.rhs ≡ found →
        option_map_or (λ w. pass_stmts f stmts (assign stmt.name w env)) found
        (Stuck stmt.name) ≡ On after →
        (w : Word) × (rhs_value (name_type f stmt.name) env stmt.rhs ≡ Some w) ×
        (pass_stmts f stmts (assign stmt.name w env) ≡ On after)
    by None value e = cc
    by (Some w) value e = (w, value, e)

-- a run that passes statements comes to the end of the block
pub reaches_end : (f : Function) (args : List Word) (block : Block) (stmts : List Stmt)
    (env after : Env) →
    Reaches f args (Inside block stmts env) → pass_stmts f stmts env ≡ On after →
    Reaches f args (Inside block [] after)
reaches_end f args block [] env after reached is = let same : env ≡ after = cc in
    subst (λ e. Reaches f args (Inside block [] e)) same reached
reaches_end f args block (stmt ∷ stmts) env after reached is =
    let passed = passed_first f stmt stmts env after is in
    reaches_end f args block stmts (assign stmt.name passed.0 env) after
    (pass block stmt stmts env passed.0 passed.1 reached) passed.2
