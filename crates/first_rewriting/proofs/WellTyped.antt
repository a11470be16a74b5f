-- A well-formed function is well typed, by the types that its `names` tell.
use Rattle.std.proofs.Common.{◌≡◌, ◌==◌, ℕ, Bool, true, false, List, [], ◌∷◌, ◌++◌, map, Some, None, refl, sym, ◌∙◌, arith, eq-eqb}
use Rattle.std.specs.Prelude.{◌&&◌, nat_lt}
use Rattle.std.specs.List.{flat_map, list_all}
use Rattle.std.specs.Option.{option_map_or}
use Rattle.std.proofs.lemmas.List.Folds.{list_all-append, list_all-map}
use Rattle.std.proofs.lemmas.Bool.Decides.{nat_tests}
use Rattle.pm_ops.specs.Codes.{is_comparison_code}
use Rattle.pm_ops.specs.declared.code.Code.{Code}
use Rattle.pm_ops.specs.declared.code.Code.TheVariants.{Convert, Plus, Minus, Mult, TruncDiv, TruncMod, Negate, Abs}
use Rattle.pm_ops.specs.declared.code.Code.TheVariants.{Absu, BitAnd, BitIor, BitXor, BitNot, Lshift, Rshift, Min, Max}
use Rattle.pm_ops.specs.declared.code.Code.TheVariants.{Eq, Ne, Lt, Le, Gt, Ge, Cond}
use Rattle.pm_wide.specs.Types.{Ty, same_type, bool_type}
use Rattle.pm_wide.specs.Typing.{well_typed_operation}
use Rattle.pm_wide.specs.declared.operand.Operand.{Operand}
use Rattle.pm_wide.specs.declared.operand.Operand.TheVariants.{Name, Const}
use Rattle.gim_ast.specs.declared.function.Function.{Function}
use Rattle.gim_ast.specs.declared.function.Block.{Block}
use Rattle.gim_ast.specs.declared.function.Phi.{Phi}
use Rattle.gim_ast.specs.declared.function.Stmt.{Stmt}
use Rattle.gim_ast.specs.declared.function.NameRow.{NameRow}
use Rattle.gim_ast.specs.declared.function.End.{End}
use Rattle.gim_ast.specs.declared.function.End.TheVariants.{Goto, If, Return}
use Rattle.gim_ast.specs.Functions.{row_of, first_where, operands_of, operands_of_block, operands_of_phi, operands_of_stmt, operands_of_end}
use Rattle.gim_ast.specs.WellFormed.{IsWellFormed, rises, operand_holds, names_hold, phi_fits}
use Rattle.gim_ast.specs.WellFormed.{stmt_fits, end_fits, block_fits, type_of, rhs_fits}
use Rattle.first_rewriting.specs.Typed.{operand_agrees, phi_agrees, stmt_agrees, end_agrees, block_agrees, IsTyped}
use Rattle.first_rewriting.proofs.Typings.{and_left, and_right, and_both, same_type_is, same_type_refl}

-- ---- tests of lists

all_both : {X : Type 0} (p q r : X → Bool) → ((x : X) → p x ≡ true → q x ≡ true → r x ≡ true) → (xs : List X)
    → list_all p xs ≡ true → list_all q xs ≡ true → list_all r xs ≡ true
all_both p q r both [] ps qs = refl
all_both p q r both (x ∷ xs) ps qs =
    and_both (r x) (list_all r xs) (both x (and_left (p x) (list_all p xs) ps) (and_left (q x) (list_all q xs) qs))
    (all_both p q r both xs (and_right (p x) (list_all p xs) ps) (and_right (q x) (list_all q xs) qs))

all_so : {X : Type 0} (p r : X → Bool) → ((x : X) → p x ≡ true → r x ≡ true) → (xs : List X) → list_all p xs ≡ true → list_all r xs ≡ true
all_so p r so xs ps = all_both p p r (λ x h _. so x h) xs ps ps

all_parts : {X Y : Type 0} (p : Y → Bool) (g : X → List Y) (xs : List X) → list_all p (flat_map g xs) ≡ true
    → list_all (λ x. list_all p (g x)) xs ≡ true
all_parts p g [] h = refl
all_parts p g (x ∷ xs) h =
    let split : (list_all p (g x) && list_all p (flat_map g xs)) ≡ true = sym (list_all-append p (g x) (flat_map g xs)) ∙ h in
    and_both (list_all p (g x)) (list_all (λ x. list_all p (g x)) xs) (and_left (list_all p (g x)) (list_all p (flat_map g xs)) split)
    (all_parts p g xs (and_right (list_all p (g x)) (list_all p (flat_map g xs)) split))

first_of_five : (a b c d e : Bool) → (a && b && c && d && e) ≡ true → a ≡ true
first_of_five a b c d e h = and_left a b (and_left (a && b) c (and_left (a && b && c) d (and_left (a && b && c && d) e h)))

-- ---- the type that `names` tell of a name

abbrev row_with : ℕ → NameRow → Bool
row_with x row = row.version == x

abbrev told_in : List NameRow → ℕ → Ty
told_in rows x = option_map_or (λ (row : NameRow). row.ty) (first_where (row_with x) rows) bool_type

other_first : (first row : NameRow) (rows : List NameRow) → nat_lt first.version row.version ≡ true
    → told_in (first ∷ rows) row.version ≡ told_in rows row.version
other_first first row rows below =
    let apart : (first.version == row.version) ≡ false = grind (arith, nat_tests) in
    rw apart refl

rows_agree : (rows : List NameRow) → rises (map (λ (row : NameRow). row.version) rows) ≡ true
    → list_all (λ (row : NameRow). same_type row.ty (told_in rows row.version)) rows ≡ true
rows_agree [] h = refl
rows_agree (first ∷ rows) h =
    let below : list_all (λ (row : NameRow). nat_lt first.version row.version) rows ≡ true =
    sym (list_all-map (nat_lt first.version) (λ (row : NameRow). row.version) rows)
    ∙ and_left (list_all (nat_lt first.version) (map (λ (row : NameRow). row.version) rows))
    (rises (map (λ (row : NameRow). row.version) rows)) h in
    let rest =
    rows_agree rows (and_right (list_all (nat_lt first.version) (map (λ (row : NameRow). row.version) rows))
    (rises (map (λ (row : NameRow). row.version) rows)) h) in
    let here : (first.version == first.version) ≡ true = eq-eqb first.version first.version refl in
    let head : same_type first.ty (told_in (first ∷ rows) first.version) ≡ true = rw here (same_type_refl first.ty) in
    and_both (same_type first.ty (told_in (first ∷ rows) first.version))
    (list_all (λ (row : NameRow). same_type row.ty (told_in (first ∷ rows) row.version)) rows) head
    (all_both (λ (row : NameRow). nat_lt first.version row.version)
    (λ (row : NameRow). same_type row.ty (told_in rows row.version))
    (λ (row : NameRow). same_type row.ty (told_in (first ∷ rows) row.version))
    (λ row lower agrees. rw (other_first first row rows lower) agrees) rows below rest)

module _ (f : Function) where
  abbrev told : ℕ → Ty
  told x = option_map_or (λ (row : NameRow). row.ty) (row_of f x) bool_type

  turned : (a b : Ty) → same_type a b ≡ true → same_type b a ≡ true
  turned a b h = let same : a ≡ b = same_type_is a b h in rw same (same_type_refl b)

  operand_typed : (a : Operand) → operand_holds f a ≡ true → operand_agrees told a ≡ true
  operand_typed (Const w) h = refl
  operand_typed (Name x t) h =
      (elim (row_of f x) as (λ o. option_map_or (λ (row : NameRow). same_type row.ty t) o false ≡ true
      → same_type t (option_map_or (λ (row : NameRow). row.ty) o bool_type) ≡ true) [
        | None ↦ λ none. cc
        | Some row ↦ λ some. turned row.ty t some
      ]) h

  operands_typed : (operands : List Operand) → list_all (operand_holds f) operands ≡ true → list_all (operand_agrees told) operands ≡ true
  operands_typed = all_so (operand_holds f) (operand_agrees told) operand_typed

  stmt_typed : (stmt : Stmt) → list_all (operand_holds f) (operands_of_stmt stmt) ≡ true → stmt_fits f stmt ≡ true
      → stmt_agrees told stmt ≡ true
  stmt_typed stmt operands fits =
      and_both (list_all (operand_agrees told) (operands_of_stmt stmt)) (rhs_fits (told stmt.name) stmt.rhs)
      (operands_typed (operands_of_stmt stmt) operands)
      ((elim (row_of f stmt.name) as (λ o. option_map_or (λ (row : NameRow). rhs_fits row.ty stmt.rhs) o false ≡ true
      → rhs_fits (option_map_or (λ (row : NameRow). row.ty) o bool_type) stmt.rhs ≡ true) [
        | None ↦ λ none. cc
        | Some row ↦ λ some. some
      ]) fits)

  phi_typed : (phi : Phi) → list_all (operand_holds f) (operands_of_phi phi) ≡ true → phi_agrees told phi ≡ true
  phi_typed phi operands =
      sym (list_all-map (operand_agrees told) (λ (arg : ℕ × Operand). arg.1) phi.args) ∙ operands_typed (operands_of_phi phi) operands

  compares : (code : Code) (a b : Ty) → is_comparison_code code ≡ true → same_type a b ≡ true
      → well_typed_operation code bool_type (a ∷ b ∷ []) ≡ true
  unfolding well_typed_operation
  compares Convert a b compared same = cc
  compares Plus a b compared same = cc
  compares Minus a b compared same = cc
  compares Mult a b compared same = cc
  compares TruncDiv a b compared same = cc
  compares TruncMod a b compared same = cc
  compares Negate a b compared same = cc
  compares Abs a b compared same = cc
  compares Absu a b compared same = cc
  compares BitAnd a b compared same = cc
  compares BitIor a b compared same = cc
  compares BitXor a b compared same = cc
  compares BitNot a b compared same = cc
  compares Lshift a b compared same = cc
  compares Rshift a b compared same = cc
  compares Min a b compared same = cc
  compares Max a b compared same = cc
  compares Eq a b compared same = and_both (same_type a b) (same_type bool_type bool_type) same (same_type_refl bool_type)
  compares Ne a b compared same = and_both (same_type a b) (same_type bool_type bool_type) same (same_type_refl bool_type)
  compares Lt a b compared same = and_both (same_type a b) (same_type bool_type bool_type) same (same_type_refl bool_type)
  compares Le a b compared same = and_both (same_type a b) (same_type bool_type bool_type) same (same_type_refl bool_type)
  compares Gt a b compared same = and_both (same_type a b) (same_type bool_type bool_type) same (same_type_refl bool_type)
  compares Ge a b compared same = and_both (same_type a b) (same_type bool_type bool_type) same (same_type_refl bool_type)
  compares Cond a b compared same = cc

  end_typed : (end : End) → list_all (operand_holds f) (operands_of_end end) ≡ true → end_fits f end ≡ true → end_agrees told end ≡ true
  end_typed (Goto to) operands fits = refl
  end_typed (Return a) operands fits = and_both (operand_agrees told a && true) true (operands_typed (a ∷ []) operands) refl
  end_typed (If code left right yes_to no_to) operands fits =
      and_both (list_all (operand_agrees told) (left ∷ right ∷ []))
      (well_typed_operation code bool_type (type_of left ∷ type_of right ∷ []))
      (operands_typed (left ∷ right ∷ []) operands)
      (compares code (type_of left) (type_of right)
      (and_left (is_comparison_code code) (same_type (type_of left) (type_of right)) fits)
      (and_right (is_comparison_code code) (same_type (type_of left) (type_of right)) fits))

  block_typed : (block : Block) → list_all (operand_holds f) (operands_of_block block) ≡ true
      → block_fits f block ≡ true → block_agrees told block ≡ true
  block_typed block operands fits =
      let holds = operand_holds f in
      let phis = flat_map operands_of_phi block.phis in
      let stmts = flat_map operands_of_stmt block.stmts in
      let ends = operands_of_end block.end in
      let outer : (list_all holds (phis ++ stmts) && list_all holds ends) ≡ true =
      sym (list_all-append holds (phis ++ stmts) ends) ∙ operands in
      let inner : (list_all holds phis && list_all holds stmts) ≡ true =
      sym (list_all-append holds phis stmts) ∙ and_left (list_all holds (phis ++ stmts)) (list_all holds ends) outer in
      let in_phis = all_parts holds operands_of_phi block.phis (and_left (list_all holds phis) (list_all holds stmts) inner) in
      let in_stmts = all_parts holds operands_of_stmt block.stmts (and_right (list_all holds phis) (list_all holds stmts) inner) in
      let in_end = and_right (list_all holds (phis ++ stmts)) (list_all holds ends) outer in
      let front = and_left (list_all (phi_fits f) block.phis && list_all (stmt_fits f) block.stmts) (end_fits f block.end) fits in
      let stmts_fit = and_right (list_all (phi_fits f) block.phis) (list_all (stmt_fits f) block.stmts) front in
      let end_fit = and_right (list_all (phi_fits f) block.phis && list_all (stmt_fits f) block.stmts) (end_fits f block.end) fits in
      and_both (list_all (phi_agrees told) block.phis && list_all (stmt_agrees told) block.stmts) (end_agrees told block.end)
      (and_both (list_all (phi_agrees told) block.phis) (list_all (stmt_agrees told) block.stmts)
      (all_so (λ (phi : Phi). list_all holds (operands_of_phi phi)) (phi_agrees told) phi_typed block.phis in_phis)
      (all_both (λ (stmt : Stmt). list_all holds (operands_of_stmt stmt)) (stmt_fits f) (stmt_agrees told) stmt_typed
      block.stmts in_stmts stmts_fit))
      (end_typed block.end in_end end_fit)

  pub well_typed : IsWellFormed f → IsTyped f
  unfolding operands_of row_of
  well_typed h =
      let operands = and_left (list_all (operand_holds f) (operands_of f)) (list_all (block_fits f) f.blocks) h.operands in
      let fits = and_right (list_all (operand_holds f) (operands_of f)) (list_all (block_fits f) f.blocks) h.operands in
      record {
        ty = told;
        names = rows_agree f.names (versions_rise h.names);
        blocks = all_both (λ (block : Block). list_all (operand_holds f) (operands_of_block block)) (block_fits f)
            (block_agrees told) block_typed f.blocks (all_parts (operand_holds f) operands_of_block f.blocks operands)
            fits;
      } where
        versions_rise : names_hold f ≡ true → rises (map (λ (row : NameRow). row.version) f.names) ≡ true
        versions_rise all = first_of_five (rises (map (λ (row : NameRow). row.version) f.names)) _ _ _ _ all
