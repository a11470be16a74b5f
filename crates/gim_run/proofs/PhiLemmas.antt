-- What phis read fits their names.
use Rattle.std.proofs.Common.{◌≡◌, ℕ, ◌<◌, Bool, true, false, cond, ◌==◌, nat_lt, ◌&&◌, List, [], ◌∷◌, length, map, Option, Some, None, refl, subst, ◌∙◌, arith}
use Rattle.std.specs.Prelude.{slice_get}
use Rattle.std.specs.Option.{option_map_or}
use Rattle.std.specs.List.{list_all}
use Rattle.pm_wide.specs.Types.{Ty, Word, bool_type, same_type}
use Rattle.pm_wide.specs.declared.operand.Operand.{Operand}
use Rattle.pm_wide.proofs.Results.{same_type_is}
use Rattle.gim_ast.specs.declared.function.Function.{Function}
use Rattle.gim_ast.specs.declared.function.Block.{Block}
use Rattle.gim_ast.specs.declared.function.Phi.{Phi}
use Rattle.gim_ast.specs.declared.function.NameRow.{NameRow}
use Rattle.gim_ast.specs.Functions.{first_where, row_of, operands_of_phi}
use Rattle.gim_ast.specs.WellFormed.{operand_holds, phi_fits, type_of}
use Rattle.gim_ast.specs.Runs.{zero_of, word_of_operand, name_type}
use Rattle.gim_run.specs.Slots.{place_of, env_of, AreSlots, stmt_holds}
use Rattle.gim_run.specs.Blocks.{phi_holds, block_holds, phi_pair, pair_fits}
use Rattle.gim_run.proofs.SlotLemmas.{and_first, and_second, in_list, row_at, type_at_operand}

pub pair_within : (f : Function) (pair : ℕ × Word) → pair_fits f pair ≡ true → place_of f.names pair.0 < length f.names
pair_within f pair h = let first : nat_lt (place_of f.names pair.0) (length f.names) ≡ true = and_first (nat_lt (place_of f.names pair.0) (length f.names)) (same_type pair.1.ty (name_type f pair.0)) h in grind arith

pub pair_typed : (f : Function) (pair : ℕ × Word) → pair_fits f pair ≡ true → pair.1.ty ≡ name_type f pair.0
pair_typed f pair h = same_type_is pair.1.ty (name_type f pair.0) (and_second (nat_lt (place_of f.names pair.0) (length f.names)) (same_type pair.1.ty (name_type f pair.0)) h)

same_type_refl : (t : Ty) → same_type t t ≡ true
same_type_refl t = grind arith

pair_fit : (f : Function) (pair : ℕ × Word) → place_of f.names pair.0 < length f.names → pair.1.ty ≡ name_type f pair.0 → pair_fits f pair ≡ true
pair_fit f pair within is =
    let low : nat_lt (place_of f.names pair.0) (length f.names) ≡ true = grind arith in
    let same : same_type pair.1.ty (name_type f pair.0) ≡ true = subst (λ t. same_type pair.1.ty t ≡ true) is (same_type_refl pair.1.ty) in
    grind arith

phi_within : (f : Function) (phi : Phi) → phi_fits f phi ≡ true → place_of f.names phi.name < length f.names
unfolding row_of
phi_within f phi h = known (first_where (λ (row : NameRow). row.version == phi.name) f.names) (row_at f.names phi.name) h
  where
    known : (found : Option NameRow) → slice_get f.names (place_of f.names phi.name) ≡ found → option_map_or (λ (row : NameRow). list_all (λ (arg : ℕ × Operand). same_type (type_of arg.1) row.ty) phi.args) found false ≡ true → place_of f.names phi.name < length f.names
    known None is e = cc
    known (Some row) is e = in_list f.names (place_of f.names phi.name) row is

phi_args : (f : Function) (phi : Phi) → phi_fits f phi ≡ true → list_all (λ (arg : ℕ × Operand). same_type (type_of arg.1) (name_type f phi.name)) phi.args ≡ true
unfolding name_type
phi_args f phi h = known (row_of f phi.name) h
  where
    known : (found : Option NameRow) → option_map_or (λ (row : NameRow). list_all (λ (arg : ℕ × Operand). same_type (type_of arg.1) row.ty) phi.args) found false ≡ true → list_all (λ (arg : ℕ × Operand). same_type (type_of arg.1) (option_map_or (λ (row : NameRow). row.ty) found bool_type)) phi.args ≡ true
    known None e = cc
    known (Some row) e = e

-- what is read of arguments of one type has that type
args_type : (f : Function) (words : List Word) (from : ℕ) (t : Ty) (args : List (ℕ × Operand)) → AreSlots f words → list_all (λ (arg : ℕ × Operand). same_type (type_of arg.1) t) args ≡ true → list_all (operand_holds f) (map (λ (arg : ℕ × Operand). arg.1) args) ≡ true → (option_map_or (λ (arg : ℕ × Operand). word_of_operand (env_of f.names words) arg.1) (first_where (λ (arg : ℕ × Operand). arg.0 == from) args) (zero_of t)).ty ≡ t
args_type f words from t [] h fits known = refl
args_type f words from t (arg ∷ args) h fits known =
    choose (arg.0 == from)
    (type_at_operand f words arg.1 h (and_first (operand_holds f arg.1) (list_all (operand_holds f) (map (λ (a : ℕ × Operand). a.1) args)) known)
    ∙ same_type_is (type_of arg.1) t (and_first (same_type (type_of arg.1) t) (list_all (λ (a : ℕ × Operand). same_type (type_of a.1) t) args) fits))
    (args_type f words from t args h (and_second (same_type (type_of arg.1) t) (list_all (λ (a : ℕ × Operand). same_type (type_of a.1) t) args) fits)
    (and_second (operand_holds f arg.1) (list_all (operand_holds f) (map (λ (a : ℕ × Operand). a.1) args)) known))
  where
    choose : (b : Bool) → (word_of_operand (env_of f.names words) arg.1).ty ≡ t → (option_map_or (λ (a : ℕ × Operand). word_of_operand (env_of f.names words) a.1) (first_where (λ (a : ℕ × Operand). a.0 == from) args) (zero_of t)).ty ≡ t → (option_map_or (λ (a : ℕ × Operand). word_of_operand (env_of f.names words) a.1) (cond b (Some arg) (first_where (λ (a : ℕ × Operand). a.0 == from) args)) (zero_of t)).ty ≡ t
    choose true first rest = first
    choose false first rest = rest

pub phis_fit : (f : Function) (words : List Word) (from : ℕ) (phis : List Phi) → AreSlots f words → list_all (phi_holds f) phis ≡ true → list_all (pair_fits f) (map (phi_pair f from (env_of f.names words)) phis) ≡ true
phis_fit f words from [] h hold = refl
phis_fit f words from (phi ∷ phis) h hold =
    let here : phi_holds f phi ≡ true = and_first (phi_holds f phi) (list_all (phi_holds f) phis) hold in
    let fits : phi_fits f phi ≡ true = and_first (phi_fits f phi) (list_all (operand_holds f) (operands_of_phi phi)) here in
    let known : list_all (operand_holds f) (operands_of_phi phi) ≡ true = and_second (phi_fits f phi) (list_all (operand_holds f) (operands_of_phi phi)) here in
    let first : pair_fits f (phi_pair f from (env_of f.names words) phi) ≡ true =
    pair_fit f (phi_pair f from (env_of f.names words) phi) (phi_within f phi fits) (args_type f words from (name_type f phi.name) phi.args h (phi_args f phi fits) known) in
    let rest : list_all (pair_fits f) (map (phi_pair f from (env_of f.names words)) phis) ≡ true = phis_fit f words from phis h (and_second (phi_holds f phi) (list_all (phi_holds f) phis) hold) in
    both (pair_fits f (phi_pair f from (env_of f.names words) phi)) (list_all (pair_fits f) (map (phi_pair f from (env_of f.names words)) phis)) first rest
  where
    both : (a b : Bool) → a ≡ true → b ≡ true → (a && b) ≡ true
    both true b p q = q
    both false b p q = p

pub block_phis : (f : Function) (block : Block) → block_holds f block ≡ true → list_all (phi_holds f) block.phis ≡ true
block_phis f block h = grind arith

pub block_stmts : (f : Function) (block : Block) → block_holds f block ≡ true → list_all (stmt_holds f) block.stmts ≡ true
block_stmts f block h = grind arith
