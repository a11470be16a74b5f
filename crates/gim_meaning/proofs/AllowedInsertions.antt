-- A statement that may be inserted, so that the function stays valid, is new; and its operands may
-- be read at its place.
use Rattle.std.proofs.Common.{◌≡◌, ℕ, true, eqb, Option, Some, None, List, []}
use Rattle.std.proofs.Common.{◌∷◌, ◌++◌, map, length, take, drop, refl, sym, ap, subst, ◌∙◌, arith}
use Rattle.std.proofs.Common.{length-take-le, take-append-drop, append-nil}
use Rattle.std.specs.Prelude.{nat_lt}
use Rattle.std.specs.List.{AllByRecursion}
use Rattle.std.proofs.lemmas.Bool.{eqb-true}
use Rattle.std.proofs.lemmas.Bool.Decides.{nat_tests}
use Rattle.pm_wide.specs.Types.{bool_type}
use Rattle.pm_wide.specs.declared.operand.Operand.{Operand}
use Rattle.pm_wide.specs.declared.operand.Operand.TheVariants.{Name, Const}
use Rattle.pm_ops.specs.declared.code.Code.{Code}
use Rattle.pm_term.specs.Trees.{Tree}
use Rattle.gim_ast.specs.declared.function.Function.{Function}
use Rattle.gim_ast.specs.declared.function.Decl.{Decl}
use Rattle.gim_ast.specs.declared.function.Stmt.{Stmt}
use Rattle.gim_ast.specs.declared.function.NameRow.{NameRow}
use Rattle.gim_ast.specs.declared.function.Rhs.TheVariants.{Op}
use Rattle.gim_ast.specs.declared.function.End.TheVariants.{If}
use Rattle.gim_ast.specs.Functions.{first_where, row_of, stmt_name, operands_of_rhs}
use Rattle.gim_ast.specs.Readable.{IsValid}
use Rattle.gim_ast.specs.Runs.{name_type}
use Rattle.gim_ast.specs.WellFormed.{IsWellFormed}
use Rattle.gim_changes.specs.Insertion.{with_stmt, MayBeInserted}
use Rattle.gim_changes.specs.Validity.{IsReadableOperand}
use Rattle.gim_meaning.specs.KeptRuns.{KeepsDefinedRuns}
use Rattle.gim_meaning.specs.SameReading.{HasValueThere, AlwaysHasValueThere}
use Rattle.gim_meaning.specs.Unfolding.{UnfoldsRight, MayRead, IsDefinedWith}
use Rattle.gim_meaning.proofs.NewRows.{IsNewStmt}
use Rattle.gim_meaning.proofs.InsertionRuns.{insertion_keeps_runs}
use Rattle.gim_meaning.proofs.ListSearch.{found_passes, all_of_found}
use Rattle.gim_meaning.proofs.PossibleWords.{always_defined_keeps_runs}
use Rattle.gim_meaning.proofs.UnfoldedTerms.{defined_insertion_keeps_runs}
use Rattle.gim_meaning.proofs.UnfoldedTerms.{defined_insertion_at_end_keeps_runs}

module _ (f : Function) (place before : ℕ) (stmt : Stmt) (decl : Decl)
    (allowed : MayBeInserted f place before stmt decl) where
  no_row : row_of f stmt.name ≡ None
  unfolding row_of
  no_row = by (first_where (λ (row : NameRow). eqb row.version stmt.name) f.names) refl
    where
      by : (found : Option NameRow) → first_where
          (λ (row : NameRow). eqb row.version stmt.name) f.names ≡ found → found ≡ None
      by None is = refl
      by (Some row) is =
          let same : row.version ≡ stmt.name =
          eqb-true row.version stmt.name
          (found_passes (λ (r : NameRow). eqb r.version stmt.name) f.names row is) in
          let below : nat_lt row.version stmt.name ≡ true =
          all_of_found (λ (r : NameRow). eqb r.version stmt.name)
          (λ (r : NameRow). nat_lt r.version stmt.name) f.names row is allowed.new in
          absurd (grind (arith, nat_tests))

  pub new_stmt : IsNewStmt f stmt
  new_stmt = record { new = no_row; reads = allowed.holds }

  may_read : (n : ℕ) (left : List ℕ) (operands : List Operand) →
      AllByRecursion (IsReadableOperand f n left) operands →
      AllByRecursion (MayRead f n left) operands
  may_read n left [] all = tt
  may_read n left (Name y t ∷ operands) all = (all.0.1, may_read n left operands all.1)
  may_read n left (Const w ∷ operands) all = (tt, may_read n left operands all.1)

  split : allowed.home.stmts ≡ take before allowed.home.stmts ++ drop before allowed.home.stmts
  split = sym (take-append-drop before allowed.home.stmts)

  at_place : KeepsDefinedRuns f (with_stmt place
      (length (take before allowed.home.stmts)) stmt decl f) →
      KeepsDefinedRuns f (with_stmt place before stmt decl f)
  at_place kept = subst (λ n. KeepsDefinedRuns f (with_stmt place n stmt decl f))
      (length-take-le before allowed.home.stmts allowed.within) kept

  pub allowed_keeps_runs : IsWellFormed f → HasValueThere f allowed.home
      (drop before allowed.home.stmts) decl.ty stmt.rhs →
      KeepsDefinedRuns f (with_stmt place before stmt decl f)
  allowed_keeps_runs well value =
      at_place (insertion_keeps_runs f well place allowed.home allowed.at
      (take before allowed.home.stmts)
      (drop before allowed.home.stmts) split stmt decl new_stmt value)

  pub always_defined_keeps : IsWellFormed f →
      AlwaysHasValueThere f allowed.home (drop before allowed.home.stmts) decl.ty stmt.rhs →
      KeepsDefinedRuns f (with_stmt place before stmt decl f)
  always_defined_keeps well always =
      at_place (always_defined_keeps_runs f place allowed.home (take before allowed.home.stmts)
      (drop before allowed.home.stmts) stmt decl well allowed.at split new_stmt
      (λ there. always))

  pub defined_before_stmt : (next : Stmt) (rest : List Stmt) (old part : Tree) → IsValid f →
      drop before allowed.home.stmts ≡ next ∷ rest →
      UnfoldsRight f (name_type f next.name) next.rhs old → UnfoldsRight f decl.ty stmt.rhs part →
      IsDefinedWith old part → KeepsDefinedRuns f (with_stmt place before stmt decl f)
  defined_before_stmt next rest old part valid is old_is part_is defined =
      at_place (defined_insertion_keeps_runs f place allowed.home
      (take before allowed.home.stmts) next rest stmt decl old part valid allowed.at
      (split ∙ ap (λ ss. take before allowed.home.stmts ++ ss) is) new_stmt
      (subst (λ ss. AllByRecursion (MayRead f allowed.home.number (map stmt_name ss))
      (operands_of_rhs stmt.rhs)) is
      (may_read allowed.home.number (map stmt_name (drop before allowed.home.stmts))
      (operands_of_rhs stmt.rhs) allowed.readable)) old_is part_is defined)

  pub defined_before_end : (code : Code) (a b : Operand) (yes_to no_to : ℕ) (old part : Tree) →
      IsValid f → drop before allowed.home.stmts ≡ [] →
      allowed.home.end ≡ If code a b yes_to no_to →
      UnfoldsRight f bool_type (Op code (a ∷ b ∷ [])) old → UnfoldsRight f decl.ty stmt.rhs part →
      IsDefinedWith old part → KeepsDefinedRuns f (with_stmt place before stmt decl f)
  defined_before_end code a b yes_to no_to old part valid is end old_is part_is defined =
      at_place (subst (λ ss. KeepsDefinedRuns f (with_stmt place (length ss) stmt decl f))
      all_of_them
      (defined_insertion_at_end_keeps_runs f place allowed.home code a b yes_to no_to stmt decl old
      part valid allowed.at end new_stmt
      (subst (λ ss. AllByRecursion (MayRead f allowed.home.number (map stmt_name ss))
      (operands_of_rhs stmt.rhs)) is
      (may_read allowed.home.number (map stmt_name (drop before allowed.home.stmts))
      (operands_of_rhs stmt.rhs) allowed.readable)) old_is part_is defined))
    where
      all_of_them : allowed.home.stmts ≡ take before allowed.home.stmts
      all_of_them = split ∙ ap (λ ss. take before allowed.home.stmts ++ ss) is
          ∙ append-nil (take before allowed.home.stmts)
