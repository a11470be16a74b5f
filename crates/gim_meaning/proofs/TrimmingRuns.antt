-- Trimming keeps every defined run: each name that stands keeps its row.
use Rattle.std.proofs.Common.{◌≡◌, ℕ, Bool, true, false, cond, eqb, Option, Some, List, [], ◌∷◌}
use Rattle.std.proofs.Common.{map, refl, sym, ap, subst, map-id}
use Rattle.std.specs.Prelude.{filter}
use Rattle.std.specs.Option.{option_map_or}
use Rattle.std.specs.List.{list_any, AllByRecursion}
use Rattle.std.proofs.lemmas.Bool.{or_left, or_right, eq-eqb, eqb-true}
use Rattle.pm_wide.specs.Types.{Word, bool_type}
use Rattle.gim_ast.specs.declared.function.Function.{Function}
use Rattle.gim_ast.specs.declared.function.Block.{Block}
use Rattle.gim_ast.specs.declared.function.Phi.{Phi}
use Rattle.gim_ast.specs.declared.function.Stmt.{Stmt}
use Rattle.gim_ast.specs.declared.function.NameRow.{NameRow}
use Rattle.gim_ast.specs.Functions.{first_where, phi_name, stmt_name, assigned_in, assigned}
use Rattle.gim_ast.specs.Functions.{is_used, operands_of, block_of, row_of}
use Rattle.gim_ast.specs.Runs.{start_env, start_word, name_type, zero_of}
use Rattle.gim_changes.specs.Trimming.{stands_in, is_empty_text, row_stays, trimmed, tidied}
use Rattle.gim_changes.specs.Removal.{pruned}
use Rattle.gim_meaning.specs.KeptRuns.{KeepsDefinedRuns}
use Rattle.gim_meaning.proofs.Agreement.{AllStand, same_lead}
use Rattle.gim_meaning.proofs.KeptInARow.{keeps_through}
use Rattle.gim_meaning.proofs.Lockstep.{GoesAlike, alike_keeps_runs}
use Rattle.gim_meaning.proofs.OperandsStand.{used_stand, weaker_stand, phis_stand, end_stands}
use Rattle.gim_meaning.proofs.OperandsStand.{TypedAlike, PhiTyped, same_phis}
use Rattle.gim_meaning.specs.ReachedPoints.{Lies}
use Rattle.gim_meaning.proofs.Reached.{lies}
use Rattle.gim_meaning.proofs.RemovalRuns.{pruning_keeps_runs}
use Rattle.gim_meaning.proofs.RightSides.{Has, in_front, in_back, has_stmt, is_assigned_in}
use Rattle.gim_meaning.proofs.UnchangedItems.{same_rest}

module _ (f : Function) where
  abbrev pub StandsIn : ℕ → Type 0
  StandsIn y = stands_in f y ≡ true

  pub operands_stand : AllStand StandsIn (operands_of f)
  operands_stand =
      weaker_stand (λ y. is_used f y ≡ true) StandsIn
      (λ y used. or_right (list_any (λ z. eqb z y) (assigned f)) (is_used f y) used)
      (operands_of f)
      (used_stand (operands_of f) (operands_of f) (λ y used. used))

  same_first : (y : ℕ) → StandsIn y → (rows : List NameRow) →
      first_where (λ (row : NameRow). eqb row.version y) (filter (row_stays f) rows) ≡ first_where
      (λ (row : NameRow). eqb row.version y) rows
  same_first y stands [] = refl
  same_first y stands (row ∷ rows) =
      by (eqb row.version y) (row_stays f row) refl
      (λ is. or_left (stands_in f row.version) (is_empty_text row.base)
      (subst (λ v. stands_in f v ≡ true) (sym (eqb-true row.version y is)) stands))
      (same_first y stands rows)
    where
      first : List NameRow → Option NameRow
      first rs = first_where (λ (r : NameRow). eqb r.version y) rs

      by : (b c : Bool) → eqb row.version y ≡ b → (eqb row.version y ≡ true → c ≡ true) →
          first (filter (row_stays f) rows) ≡ first rows →
          first (cond c (row ∷ filter (row_stays f) rows) (filter (row_stays f) rows)) ≡ cond b
          (Some row) (first rows)
      by true true is stays rest = rw is refl
      by true false is stays rest = let kept : false ≡ true = stays is in cc
      by false true is stays rest = rw is rest
      by false false is stays rest = rest

  same_row : (y : ℕ) → StandsIn y → row_of (trimmed f) y ≡ row_of f y
  unfolding row_of trimmed
  same_row y stands = same_first y stands f.names

  same_type_of_name : (y : ℕ) → StandsIn y → TypedAlike f (trimmed f) y
  unfolding name_type
  same_type_of_name y stands = ap (λ found. option_map_or
      (λ (row : NameRow). row.ty) found bool_type) (same_row y stands)

  starts_trimmed : (args : List Word) (y : ℕ) → StandsIn y →
      start_env (trimmed f) args y ≡ start_env f args y
  unfolding start_env trimmed
  starts_trimmed args y stands = ap (λ found. option_map_or (start_word f args) found
      (zero_of bool_type)) (same_row y stands)

  assigned_stands : (n : ℕ) (block : Block) → block_of f n ≡ Some block → (y : ℕ) →
      Has y (assigned_in block) → StandsIn y
  assigned_stands n block found y has = or_left (list_any (λ z. eqb z y) (assigned f)) (is_used f y)
      (is_assigned_in f n block y found has)

  pub stmt_typed : (block : Block) (stmt : Stmt) (stmts : List Stmt) → Lies f block (stmt ∷ stmts) →
      TypedAlike f (trimmed f) stmt.name
  stmt_typed block stmt stmts there =
      let has : Has stmt.name (map stmt_name block.stmts) =
      subst (λ ss. Has stmt.name (map stmt_name ss)) (sym there.is)
      (has_stmt there.front stmt stmts) in
      same_type_of_name stmt.name (assigned_stands block.number block there.found stmt.name
      (in_back stmt.name (map phi_name block.phis) (map stmt_name block.stmts) has))

  phis_typed : (n : ℕ) (block : Block) → block_of f n ≡ Some block →
      AllByRecursion (PhiTyped f (trimmed f)) block.phis
  phis_typed n block found = each block.phis
      (λ y has. assigned_stands n block found y
      (in_front y (map phi_name block.phis) (map stmt_name block.stmts) has))
    where
      each : (phis : List Phi) → ((y : ℕ) → Has y (map phi_name phis) → StandsIn y) →
          AllByRecursion (PhiTyped f (trimmed f)) phis
      each [] within = tt
      each (phi ∷ phis) within = (
        same_type_of_name phi.name (within phi.name
            (or_left (eqb phi.name phi.name) (list_any (eqb phi.name) (map phi_name phis))
            (eq-eqb phi.name phi.name refl))),
        each phis (λ y has. within y (or_right (eqb y phi.name)
            (list_any (eqb y) (map phi_name phis)) has)),
      )

  pub goes_trimmed : (args : List Word) → GoesAlike f (trimmed f) (λ block. block) StandsIn args
  goes_trimmed args = record {
    begins = starts_trimmed args;
    phis = λ place block d reached found agree.
        same_phis f (trimmed f) StandsIn place.from block.phis place.env d agree
        (phis_typed place.to block found)
        (phis_stand f StandsIn operands_stand place.to block found);
    stmts = λ block e after d reached is agree. same_rest f
        (trimmed f) StandsIn operands_stand stmt_typed args block block.stmts e after d reached is
        agree;
    ends = λ block e d reached agree. same_lead StandsIn e d agree block.end
        (end_stands f StandsIn operands_stand block.number block (lies reached).found);
  }

  pub trimming_keeps_runs : KeepsDefinedRuns f (trimmed f)
  unfolding trimmed
  trimming_keeps_runs = alike_keeps_runs f (trimmed f) (λ block. block) (λ block. refl)
      (sym (map-id f.blocks)) StandsIn refl (λ args words. goes_trimmed args)

pub tidying_keeps_runs : (f : Function) → KeepsDefinedRuns f (tidied f)
tidying_keeps_runs f = keeps_through f (pruned f) (tidied f) (pruning_keeps_runs f)
    (trimming_keeps_runs (pruned f))
