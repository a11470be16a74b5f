-- What is typed stays typed: by each kind of step, and by removal.
use Rattle.std.proofs.Common.{◌≡◌, ◌==◌, ℕ, zero, suc, Bool, true, false, cond, List, [], ◌∷◌, map}
use Rattle.std.proofs.Common.{Some, None, refl, ap, sym, ◌∙◌, subst, length, eq-eqb, eqb-true}
use Rattle.std.specs.Prelude.{◌&&◌, ◌||◌, not, filter, if◌then◌else◌}
use Rattle.std.specs.List.{list_all}
use Rattle.std.specs.Option.{option_map_or}
use Rattle.pm_ops.specs.declared.code.Code.{Code}
use Rattle.pm_wide.specs.Types.{Ty, same_type, bool_type}
use Rattle.pm_wide.specs.Typing.{well_typed_operation}
use Rattle.pm_wide.specs.declared.operand.Operand.{Operand}
use Rattle.pm_wide.specs.declared.operand.Operand.TheVariants.{Name, Const}
use Rattle.gim_ast.specs.declared.function.Function.{Function}
use Rattle.gim_ast.specs.declared.function.Block.{Block}
use Rattle.gim_ast.specs.declared.function.Phi.{Phi}
use Rattle.gim_ast.specs.declared.function.Stmt.{Stmt}
use Rattle.gim_ast.specs.declared.function.NameRow.{NameRow}
use Rattle.gim_ast.specs.declared.function.Rhs.{Rhs}
use Rattle.gim_ast.specs.declared.function.Rhs.TheVariants.{Copy, Op}
use Rattle.gim_ast.specs.declared.function.End.{End}
use Rattle.gim_ast.specs.declared.function.End.TheVariants.{Goto, If, Return}
use Rattle.gim_ast.specs.Functions.{is_name, operands_of_rhs, assigned}
use Rattle.gim_changes.specs.Substitution.{put, put_in_rhs, put_in_end, put_in_phi, put_in_stmt, put_in_block}
use Rattle.gim_changes.specs.Substitution.{put_in_all, with_rhs_in_stmt, with_rhs_in_block, with_rhs}
use Rattle.gim_changes.specs.Substitution.{with_condition_in_end, with_condition_in_block, with_condition}
use Rattle.gim_changes.specs.Removal.{without_in_block, without, last_unused, pruned_by, pruned}
use Rattle.gim_changes.specs.Trimming.{trimmed, tidied, stands_in, is_empty_text}
use Rattle.gim_ast.specs.WellFormed.{type_of, rhs_fits}
use Rattle.first_rewriting.specs.Typed.{operand_agrees, phi_agrees, stmt_agrees, end_agrees, block_agrees, row_agrees}

-- ---- tests

pub and_left : (a b : Bool) → (a && b) ≡ true → a ≡ true
and_left true b h = refl
and_left false b h = h

pub and_right : (a b : Bool) → (a && b) ≡ true → b ≡ true
and_right true b h = h
and_right false b h = cc

pub and_both : (a b : Bool) → a ≡ true → b ≡ true → (a && b) ≡ true
and_both a b left right = rw (left, right) refl

module _ {X Y : Type 0} where
  pub all_mapped : (p : X → Bool) (q : Y → Bool) (f : X → Y) → ((x : X) → p x ≡ true → q (f x) ≡ true) → (xs : List X)
      → list_all p xs ≡ true → list_all q (map f xs) ≡ true
  all_mapped p q f kept [] all = refl
  all_mapped p q f kept (x ∷ xs) all =
      and_both (q (f x)) (list_all q (map f xs)) (kept x (and_left (p x) (list_all p xs) all))
      (all_mapped p q f kept xs (and_right (p x) (list_all p xs) all))

pub all_filtered : {X : Type 0} (p q : X → Bool) (xs : List X) → list_all p xs ≡ true → list_all p (filter q xs) ≡ true
all_filtered p q [] all = refl
all_filtered p q (x ∷ xs) all =
    let rest = all_filtered p q xs (and_right (p x) (list_all p xs) all) in
    elim (q x) as (λ b. list_all p (cond b (x ∷ filter q xs) (filter q xs))
    ≡ true) [
      | true ↦ and_both (p x) (list_all p (filter q xs)) (and_left (p x) (list_all p xs) all) rest
      | false ↦ rest
    ]

same_sign : (a b : Bool) → (if a then b else not b) ≡ true → a ≡ b
same_sign true true h = refl
same_sign false false h = refl
same_sign true false h = sym h
same_sign false true h = h

pub same_type_is : (a b : Ty) → same_type a b ≡ true → a ≡ b
same_type_is a b h =
    let width : a.width ≡ b.width =
    eqb-true a.width b.width (and_left (a.width == b.width) (if a.unsigned then b.unsigned else not b.unsigned) h) in
    let sign : a.unsigned ≡ b.unsigned =
    same_sign a.unsigned b.unsigned (and_right (a.width == b.width) (if a.unsigned then b.unsigned else not b.unsigned)
    h) in
    ap (λ w. record { width = w; unsigned = a.unsigned }) width ∙ ap (λ u. record { width = b.width; unsigned = u }) sign

same_sign_refl : (a : Bool) → (if a then a else not a) ≡ true
same_sign_refl true = refl
same_sign_refl false = refl

pub same_type_refl : (a : Ty) → same_type a a ≡ true
same_type_refl a =
    and_both (a.width == a.width) (if a.unsigned then a.unsigned else not a.unsigned) (eq-eqb a.width a.width refl)
    (same_sign_refl a.unsigned)

module _ (ty : ℕ → Ty) where
  -- from a block to one whose parts agree where its own do
  block_kept : (from to : Block) → block_agrees ty from ≡ true
      → (list_all (phi_agrees ty) from.phis ≡ true → list_all (phi_agrees ty) to.phis ≡ true)
      → (list_all (stmt_agrees ty) from.stmts ≡ true → list_all (stmt_agrees ty) to.stmts ≡ true)
      → (end_agrees ty from.end ≡ true → end_agrees ty to.end ≡ true) → block_agrees ty to ≡ true
  block_kept from to h phis stmts end =
      let both = and_left (list_all (phi_agrees ty) from.phis && list_all (stmt_agrees ty) from.stmts) (end_agrees ty from.end) h in
      and_both (list_all (phi_agrees ty) to.phis && list_all (stmt_agrees ty) to.stmts) (end_agrees ty to.end)
      (and_both (list_all (phi_agrees ty) to.phis) (list_all (stmt_agrees ty) to.stmts)
      (phis (and_left (list_all (phi_agrees ty) from.phis) (list_all (stmt_agrees ty) from.stmts) both))
      (stmts (and_right (list_all (phi_agrees ty) from.phis) (list_all (stmt_agrees ty) from.stmts) both)))
      (end (and_right (list_all (phi_agrees ty) from.phis && list_all (stmt_agrees ty) from.stmts) (end_agrees ty from.end) h))

  -- a right side of that type, each of whose operands agrees
  abbrev pub rhs_agrees : Ty → Rhs → Bool
  rhs_agrees t rhs = list_all (operand_agrees ty) (operands_of_rhs rhs) && rhs_fits t rhs

  -- ---- an operand put for a name of its type

  module _ (x : ℕ) (by : Operand) (agrees : operand_agrees ty by ≡ true) (typed : type_of by ≡ ty x) where
    put_agrees : (a : Operand) → operand_agrees ty a ≡ true → operand_agrees ty (put x by a) ≡ true
    put_agrees a h = elim (is_name x a) as (λ b. operand_agrees ty (cond b by a) ≡ true) [ true ↦ agrees | false ↦ h ]

    put_type : (a : Operand) → operand_agrees ty a ≡ true → type_of (put x by a) ≡ type_of a
    put_type (Const w) h = refl
    put_type (Name y t) h =
        let has : t ≡ ty y = same_type_is t (ty y) h in
        (elim (y == x) as (λ b. (b ≡ true → y ≡ x) → type_of (cond b by (Name y t)) ≡ t) [
          | true ↦ λ same. typed ∙ (sym (ap ty (same refl)) ∙ sym has)
          | false ↦ λ _. refl
        ]) (eqb-true y x)

    put_types : (operands : List Operand) → list_all (operand_agrees ty) operands ≡ true
        → map type_of (map (put x by) operands) ≡ map type_of operands
    put_types [] all = refl
    put_types (a ∷ operands) all =
        let first = put_type a (and_left (operand_agrees ty a) (list_all (operand_agrees ty) operands) all) in
        let rest = put_types operands (and_right (operand_agrees ty a) (list_all (operand_agrees ty) operands) all) in
        ap (λ t. t ∷ map type_of (map (put x by) operands)) first ∙ ap (λ ts. type_of a ∷ ts) rest

    put_rhs : (t : Ty) (rhs : Rhs) → rhs_agrees t rhs ≡ true → rhs_agrees t (put_in_rhs x by rhs) ≡ true
    put_rhs t (Copy a) h =
        let all = and_left (operand_agrees ty a && true) (same_type (type_of a) t) h in
        let a_agrees = and_left (operand_agrees ty a) true all in
        and_both (operand_agrees ty (put x by a) && true) (same_type (type_of (put x by a)) t)
        (and_both (operand_agrees ty (put x by a)) true (put_agrees a a_agrees) refl)
        (rw (put_type a a_agrees) (and_right (operand_agrees ty a && true) (same_type (type_of a) t) h))
    put_rhs t (Op code operands) h =
        let all = and_left (list_all (operand_agrees ty) operands) (well_typed_operation code t (map type_of operands)) h in
        and_both (list_all (operand_agrees ty) (map (put x by) operands))
        (well_typed_operation code t (map type_of (map (put x by) operands)))
        (all_mapped (operand_agrees ty) (operand_agrees ty) (put x by) put_agrees operands all)
        (rw (put_types operands all) (and_right (list_all (operand_agrees ty) operands)
        (well_typed_operation code t (map type_of operands)) h))

    put_end : (end : End) → end_agrees ty end ≡ true → end_agrees ty (put_in_end x by end) ≡ true
    put_end (Goto to) h = refl
    put_end (Return a) h =
        and_both (operand_agrees ty (put x by a) && true) true
        (and_both (operand_agrees ty (put x by a)) true
        (put_agrees a (and_left (operand_agrees ty a) true (and_left (operand_agrees ty a && true) true h))) refl) refl
    put_end (If code left right yes_to no_to) h = put_rhs bool_type (Op code (left ∷ right ∷ [])) h

    put_block : (block : Block) → block_agrees ty block ≡ true → block_agrees ty (put_in_block x by block) ≡ true
    put_block block h = block_kept block (put_in_block x by block) h
        (λ phis. all_mapped (phi_agrees ty) (phi_agrees ty) (put_in_phi x by)
        (λ phi. all_mapped (λ (arg : ℕ × Operand). operand_agrees ty arg.1)
        (λ (arg : ℕ × Operand). operand_agrees ty arg.1) (λ (arg : ℕ × Operand). (arg.0, put x by arg.1))
        (λ arg. put_agrees arg.1) phi.args) block.phis phis)
        (λ stmts. all_mapped (stmt_agrees ty) (stmt_agrees ty) (put_in_stmt x by)
        (λ stmt. put_rhs (ty stmt.name) stmt.rhs) block.stmts stmts)
        (put_end block.end)

  -- ---- another right side or condition that agrees

  stmt_with_rhs : (x : ℕ) (rhs : Rhs) → rhs_agrees (ty x) rhs ≡ true → (stmt : Stmt) → stmt_agrees ty stmt ≡ true
      → stmt_agrees ty (with_rhs_in_stmt x rhs stmt) ≡ true
  stmt_with_rhs x rhs agrees stmt h =
      (elim (stmt.name == x) as (λ b. (b ≡ true → stmt.name ≡ x) → stmt_agrees ty (cond b (record stmt { rhs = rhs }) stmt) ≡ true) [
        | true ↦ λ same. let P : ℕ → Type 0 = λ y. rhs_agrees (ty y) rhs ≡ true in subst P (sym (same refl)) agrees
        | false ↦ λ _. h
      ]) (eqb-true stmt.name x)

  block_with_rhs : (x : ℕ) (rhs : Rhs) → rhs_agrees (ty x) rhs ≡ true → (block : Block) → block_agrees ty block ≡ true
      → block_agrees ty (with_rhs_in_block x rhs block) ≡ true
  block_with_rhs x rhs agrees block h =
      block_kept block (with_rhs_in_block x rhs block) h (λ phis. phis)
      (all_mapped (stmt_agrees ty) (stmt_agrees ty) (with_rhs_in_stmt x rhs) (stmt_with_rhs x rhs agrees) block.stmts)
      (λ end. end)

  end_with_condition : (code : Code) (a b : Operand) → rhs_agrees bool_type (Op code (a ∷ b ∷ [])) ≡ true → (end : End)
      → end_agrees ty end ≡ true → end_agrees ty (with_condition_in_end code a b end) ≡ true
  end_with_condition code a b agrees (Goto to) h = h
  end_with_condition code a b agrees (Return c) h = h
  end_with_condition code a b agrees (If old left right yes_to no_to) h = agrees

  block_with_condition : (n : ℕ) (code : Code) (a b : Operand) → rhs_agrees bool_type (Op code (a ∷ b ∷ [])) ≡ true
      → (block : Block) → block_agrees ty block ≡ true
      → block_agrees ty (with_condition_in_block n code a b block) ≡ true
  block_with_condition n code a b agrees block h =
      elim (block.number == n) as (λ b'. block_agrees ty
      (cond b' (record block { end = with_condition_in_end code a b block.end }) block) ≡ true) [
        | true ↦ block_kept block (record block { end = with_condition_in_end code a b block.end }) h (λ phis. phis)
            (λ stmts. stmts) (end_with_condition code a b agrees block.end)
        | false ↦ h
      ]

  block_without : (x : ℕ) (block : Block) → block_agrees ty block ≡ true → block_agrees ty (without_in_block x block) ≡ true
  block_without x block h =
      block_kept block (without_in_block x block) h
      (all_filtered (phi_agrees ty) (λ (phi : Phi). not (phi.name == x)) block.phis)
      (all_filtered (stmt_agrees ty) (λ (stmt : Stmt). not (stmt.name == x)) block.stmts) (λ end. end)

  -- ---- whole functions

  pub record Agrees (f : Function) : Type 0 where
    pub names : list_all (row_agrees ty) f.names ≡ true
    pub blocks : list_all (block_agrees ty) f.blocks ≡ true

  pub put_kept : (x : ℕ) (by : Operand) → operand_agrees ty by ≡ true → type_of by ≡ ty x → (f : Function) → Agrees f
      → Agrees (put_in_all x by f)
  unfolding put_in_all
  put_kept x by agrees typed f h =
      record {
        names = h.names;
        blocks = all_mapped (block_agrees ty) (block_agrees ty) (put_in_block x by)
            (put_block x by agrees typed) f.blocks h.blocks;
      }

  pub rhs_kept : (x : ℕ) (rhs : Rhs) → rhs_agrees (ty x) rhs ≡ true → (f : Function) → Agrees f → Agrees (with_rhs x rhs f)
  unfolding with_rhs
  rhs_kept x rhs agrees f h =
      record {
        names = h.names;
        blocks = all_mapped (block_agrees ty) (block_agrees ty) (with_rhs_in_block x rhs)
            (block_with_rhs x rhs agrees) f.blocks h.blocks;
      }

  pub condition_kept : (n : ℕ) (code : Code) (a b : Operand) → rhs_agrees bool_type (Op code (a ∷ b ∷ [])) ≡ true
      → (f : Function) → Agrees f → Agrees (with_condition n code a b f)
  unfolding with_condition
  condition_kept n code a b agrees f h =
      record {
        names = h.names;
        blocks = all_mapped (block_agrees ty) (block_agrees ty)
            (with_condition_in_block n code a b) (block_with_condition n code a b agrees) f.blocks h.blocks;
      }

  without_kept : (x : ℕ) (f : Function) → Agrees f → Agrees (without x f)
  unfolding without
  without_kept x f h =
      record {
        names = h.names;
        blocks = all_mapped (block_agrees ty) (block_agrees ty) (without_in_block x)
            (block_without x) f.blocks h.blocks;
      }

  pruned_by_kept : (n : ℕ) (f : Function) → Agrees f → Agrees (pruned_by n f)
  pruned_by_kept zero f h = h
  pruned_by_kept (suc n) f h =
      elim (last_unused f) as (λ o. Agrees (option_map_or (λ x. pruned_by n (without x f)) o f)) [
        | None ↦ h
        | Some x ↦
            pruned_by_kept n (without x f) (without_kept x f h)
      ]

  pruned_kept : (f : Function) → Agrees f → Agrees (pruned f)
  unfolding pruned
  pruned_kept f h = pruned_by_kept (length (assigned f)) f h

  trimmed_kept : (f : Function) → Agrees f → Agrees (trimmed f)
  unfolding trimmed
  trimmed_kept f h =
      record {
        names = all_filtered (row_agrees ty)
            (λ (row : NameRow). stands_in f row.version || is_empty_text row.base) f.names h.names;
        blocks = h.blocks;
      }

  pub tidied_kept : (f : Function) → Agrees f → Agrees (tidied f)
  tidied_kept f h = trimmed_kept (pruned f) (pruned_kept f h)
