-- A step keeps a function well typed: what a choice gives has the type of its subject.
use Rattle.std.proofs.Common.{◌≡◌, ◌==◌, ℕ, suc, Bool, true, false, List, [], ◌∷◌, ◌++◌, map}
use Rattle.std.proofs.Common.{Option, Some, None, inl, inr, refl, ap, sym, ◌∙◌, subst, eqb-true}
use Rattle.std.specs.Prelude.{◌&&◌, ◌||◌, ◌⊎◌, not, if◌then◌else◌}
use Rattle.std.specs.List.{flat_map, list_all}
use Rattle.std.specs.Option.{option_map, option_and_then}
use Rattle.pm_ops.specs.Codes.{is_commutative_code, is_comparison_code, swapped_code, same_code}
use Rattle.pm_ops.specs.declared.code.Code.{Code}
use Rattle.pm_ops.specs.declared.code.Code.TheVariants.{Ne}
use Rattle.pm_wide.specs.Types.{Ty, Word, same_type, bool_type}
use Rattle.pm_wide.specs.Typing.{well_typed_operation}
use Rattle.pm_wide.specs.Operations.{operation_value}
use Rattle.pm_wide.specs.declared.operand.Operand.{Operand}
use Rattle.pm_wide.specs.declared.operand.Operand.TheVariants.{Name, Const}
use Rattle.gim_ast.specs.declared.function.Function.{Function}
use Rattle.gim_ast.specs.declared.function.Block.{Block}
use Rattle.gim_ast.specs.declared.function.Stmt.{Stmt}
use Rattle.gim_ast.specs.declared.function.NameRow.{NameRow}
use Rattle.gim_ast.specs.declared.function.Rhs.{Rhs}
use Rattle.gim_ast.specs.declared.function.Rhs.TheVariants.{Copy, Op}
use Rattle.gim_ast.specs.declared.function.End.{End}
use Rattle.gim_ast.specs.declared.function.End.TheVariants.{Goto, If, Return}
use Rattle.gim_ast.specs.Functions.{row_of, first_where, same_operand}
use Rattle.first_patterns.specs.Subjects.{Site, AtStmt, AtCond, Subject, view_of, type_at}
use Rattle.first_patterns.specs.Subjects.{subject_of_stmt, subjects_of_end, subjects_of_block}
use Rattle.first_patterns.specs.Subjects.{subjects}
use Rattle.first_rewriting.specs.Rewriting.{Result, AsOperand, AsExchanged, Choice, IsCopy, IsSwap, IsFold, IsRow}
use Rattle.first_rewriting.specs.Rewriting.{or_else, first_some, swap_operands, fold_at, words_of, first_kind}
use Rattle.first_rewriting.specs.Rewriting.{choice_at, is_condition, gives_same_condition, bool_zero, changed}
use Rattle.first_rewriting.specs.Rewriting.{first_choice}
use Rattle.gim_changes.specs.Trimming.{tidied}
use Rattle.gim_ast.specs.WellFormed.{type_of}
use Rattle.first_patterns.specs.declared.row.Row.{Row}
use Rattle.first_patterns.specs.declared.row.Side.{Side}
use Rattle.first_patterns.specs.declared.row.Side.TheVariants.{Left, Right}
use Rattle.first_patterns.specs.Matching.{side_of, result_on, result_of, found_from, row_at}
use Rattle.first_rewriting.specs.Typed.{operand_agrees, phi_agrees, stmt_agrees, end_agrees}
use Rattle.first_rewriting.specs.Typed.{block_agrees, row_agrees, keeps_type, is_shift_code, is_left}
use Rattle.first_rewriting.specs.Choices.{kind_at, row_kind, tried, Folds, EachFolds}
use Rattle.first_rewriting.proofs.Typings.{and_left, and_right, and_both, same_type_is, same_type_refl}
use Rattle.first_rewriting.proofs.Typings.{rhs_agrees, Agrees, put_kept, rhs_kept, condition_kept, tidied_kept}
use Rattle.pm_ops.proofs.SameCodes.{same_code_is}
use Rattle.first_rewriting.proofs.ValueTypes.{exchanged_fits, word_type, value_type, side_type, row_type}

pub some_is : {X : Type 0} (x y : X) → Some x ≡ Some y → x ≡ y
some_is x y is = cc

either_some : {X : Type 0} (o p : Option X) (c : X) → or_else o p ≡ Some c → (o ≡ Some c) ⊎ (p ≡ Some c)
either_some None p c is = inr is
either_some (Some x) p c is = inl is

words_types : (operands : List Operand) (words : List Word) → words_of operands ≡ Some words → map type_of operands ≡ map word_type words
words_types [] words is =
    let same : [] ≡ words = cc in
    ap (map word_type) same
words_types (Name x t ∷ operands) words is = cc
words_types (Const w ∷ operands) words is =
    (elim (words_of operands) as (λ o. ((ws : List Word) → o ≡ Some ws → map type_of operands ≡ map word_type ws)
    → option_map (λ ws. w ∷ ws) o ≡ Some words → w.ty ∷ map type_of operands ≡ map word_type words) [
      | None ↦ λ rest h. cc
      | Some ws ↦ λ rest h.
          let same : w ∷ ws ≡ words = cc in
          ap (λ ts. w.ty ∷ ts) (rest ws refl) ∙ ap (map word_type) same
    ]) (words_types operands) is

module _ (ty : ℕ → Ty) where
  -- what comes in the place of a right side of that type agrees
  abbrev pub ResultAgrees : Ty → Result → Type 0
  ResultAgrees t (AsOperand a) = (operand_agrees ty a ≡ true) × (type_of a ≡ t)
  ResultAgrees t (AsExchanged code a b) = rhs_agrees ty t (Op code (a ∷ b ∷ [])) ≡ true

  given : (t : Ty) (r s : Result) → r ≡ s → ResultAgrees t r → ResultAgrees t s
  given t r s same = subst (ResultAgrees t) same

  copy_agrees : (t : Ty) (a : Operand) → rhs_agrees ty t (Copy a) ≡ true → ResultAgrees t (AsOperand a)
  copy_agrees t a h = (
    and_left (operand_agrees ty a) true (and_left (operand_agrees ty a && true) (same_type (type_of a) t) h),
    same_type_is (type_of a) t (and_right (operand_agrees ty a && true) (same_type (type_of a) t) h),
  )

  exchanged_agrees : (t : Ty) (code : Code) (a b : Operand)
      → (is_commutative_code code || is_comparison_code code) ≡ true → rhs_agrees ty t (Op code (a ∷ b ∷ [])) ≡ true
      → rhs_agrees ty t (Op (swapped_code code) (b ∷ a ∷ [])) ≡ true
  unfolding well_typed_operation
  exchanged_agrees t code a b may h =
      let both =
      and_left (operand_agrees ty a && (operand_agrees ty b && true))
      (well_typed_operation code t (type_of a ∷ type_of b ∷ [])) h in
      let a_agrees = and_left (operand_agrees ty a) (operand_agrees ty b && true) both in
      let b_agrees = and_left (operand_agrees ty b) true (and_right (operand_agrees ty a) (operand_agrees ty b && true) both) in
      and_both (operand_agrees ty b && (operand_agrees ty a && true))
      (well_typed_operation (swapped_code code) t (type_of b ∷ type_of a ∷ []))
      (and_both (operand_agrees ty b) (operand_agrees ty a && true) b_agrees (and_both (operand_agrees ty a) true a_agrees refl))
      (exchanged_fits code t (type_of a) (type_of b) may
      (and_right (operand_agrees ty a && (operand_agrees ty b && true))
      (well_typed_operation code t (type_of a ∷ type_of b ∷ [])) h))

  swap_agrees : (t : Ty) (code : Code) (operands : List Operand) (c : Choice)
      → rhs_agrees ty t (Op code operands) ≡ true → swap_operands code operands ≡ Some c → ResultAgrees t c.result
  swap_agrees t code [] c h is = cc
  swap_agrees t code (Name x u ∷ rest) c h is = cc
  swap_agrees t code (Const w ∷ []) c h is = cc
  swap_agrees t code (Const w ∷ Const v ∷ rest) c h is = cc
  swap_agrees t code (Const w ∷ Name x u ∷ a ∷ rest) c h is = cc
  swap_agrees t code (Const w ∷ Name x u ∷ []) c h is =
      (elim (is_commutative_code code || is_comparison_code code) as
      (λ b. (is_commutative_code code || is_comparison_code code) ≡ b
      → (if b then Some (record {
        what = IsSwap;
        result = AsExchanged (swapped_code code) (Name x u) (Const w);
      }) else None) ≡ Some c → ResultAgrees t c.result) [
        | true ↦ λ may some.
            let same : record { what = IsSwap; result = AsExchanged (swapped_code code) (Name x u) (Const w) } ≡ c = cc in
            given t (AsExchanged (swapped_code code) (Name x u) (Const w)) c.result (ap (λ (d : Choice). d.result) same)
            (exchanged_agrees t code (Const w) (Name x u) may h)
        | false ↦ λ may none. cc
      ]) refl is

  value_agrees : (t : Ty) (code : Code) (operands : List Operand) (w : Word)
      → well_typed_operation code t (map type_of operands) ≡ true
      → option_and_then (operation_value code t) (words_of operands) ≡ Some w → w.ty ≡ t
  value_agrees t code operands w fits is =
      (elim (words_of operands) as (λ o. ((ws : List Word) → o ≡ Some ws → map type_of operands ≡ map word_type ws)
      → option_and_then (operation_value code t) o ≡ Some w → w.ty ≡ t) [
        | None ↦ λ types h. cc
        | Some ws ↦ λ types h. value_type code t ws w (subst (λ ts. well_typed_operation code t ts ≡ true) (types ws refl) fits) h
      ]) (words_types operands) is

  fold_agrees : (t : Ty) (tyopt : Option Ty) → ((u : Ty) → tyopt ≡ Some u → u ≡ t)
      → (code : Code) (operands : List Operand) (c : Choice) → rhs_agrees ty t (Op code operands) ≡ true
      → fold_at tyopt (Op code operands) ≡ Some c → ResultAgrees t c.result
  fold_agrees t None known code operands c h is = cc
  fold_agrees t (Some u) known code operands c h is =
      let fits = and_right (list_all (operand_agrees ty) operands) (well_typed_operation code t (map type_of operands)) h in
      let same : u ≡ t = known u refl in
      (elim (option_and_then (operation_value code u) (words_of operands)) as
      (λ o. ((w : Word) → o ≡ Some w → w.ty ≡ t)
      → option_map (λ w. record { what = IsFold; result = AsOperand (Const w) }) o ≡ Some c → ResultAgrees t c.result) [
        | None ↦ λ types none. cc
        | Some w ↦ λ types some.
            let is_c : record { what = IsFold; result = AsOperand (Const w) } ≡ c = cc in
            given t (AsOperand (Const w)) c.result (ap (λ (d : Choice). d.result) is_c) (refl, types w refl)
      ]) (λ w h. value_agrees t code operands w fits
      (subst (λ v. option_and_then (operation_value code v) (words_of operands) ≡ Some w) same h)) is

  -- a row's result at an operation that agrees
  side_agrees : (side : Side) (a b : Operand) → operand_agrees ty a ≡ true → operand_agrees ty b ≡ true
      → operand_agrees ty (side_of side a b) ≡ true
  side_agrees Left a b a_agrees b_agrees = a_agrees
  side_agrees Right a b a_agrees b_agrees = b_agrees

  side_has_type : (side : Side) (a b : Operand) → type_of (side_of side a b) ≡ side_type side (type_of a) (type_of b)
  side_has_type Left a b = refl
  side_has_type Right a b = refl

  pair_agrees : (t : Ty) (row : Row) (code : Code) (a b r : Operand) → keeps_type row ≡ true
      → same_code row.code code ≡ true → rhs_agrees ty t (Op code (a ∷ b ∷ [])) ≡ true
      → result_on row (a ∷ b ∷ []) ≡ Some r → ResultAgrees t (AsOperand r)
  unfolding well_typed_operation
  pair_agrees t row code a b r keeps one h is =
      let both =
      and_left (operand_agrees ty a && (operand_agrees ty b && true))
      (well_typed_operation code t (type_of a ∷ type_of b ∷ [])) h in
      let a_agrees = and_left (operand_agrees ty a) (operand_agrees ty b && true) both in
      let b_agrees = and_left (operand_agrees ty b) true (and_right (operand_agrees ty a) (operand_agrees ty b && true) both) in
      let fits =
      and_right (operand_agrees ty a && (operand_agrees ty b && true))
      (well_typed_operation code t (type_of a ∷ type_of b ∷ [])) h in
      let keeps_here =
      subst (λ d. (not (is_comparison_code d) && (not (is_shift_code d) || is_left row.result)) ≡ true)
      (same_code_is row.code code one) keeps in
      let typed = side_has_type row.result a b ∙ row_type code row.result t (type_of a) (type_of b) keeps_here fits in
      (elim (not row.same || same_operand a b) as
      (λ d. (if d then Some (side_of row.result a b) else None) ≡ Some r → ResultAgrees t (AsOperand r)) [
        | true ↦ λ some.
            let same : side_of row.result a b ≡ r = cc in
            given t (AsOperand (side_of row.result a b)) (AsOperand r) (ap AsOperand same)
            (side_agrees row.result a b a_agrees b_agrees, typed)
        | false ↦ λ none. cc
      ]) is

  on_agrees : (t : Ty) (row : Row) (code : Code) (operands : List Operand) (r : Operand) → keeps_type row ≡ true
      → same_code row.code code ≡ true → rhs_agrees ty t (Op code operands) ≡ true → result_on row operands ≡ Some r
      → ResultAgrees t (AsOperand r)
  on_agrees t row code [] r keeps one h is = cc
  on_agrees t row code (a ∷ []) r keeps one h is = cc
  on_agrees t row code (a ∷ b ∷ []) r keeps one h is = pair_agrees t row code a b r keeps one h is
  on_agrees t row code (a ∷ b ∷ c ∷ rest) r keeps one h is = cc

  result_agrees : (t : Ty) (row : Row) (code : Code) (operands : List Operand) (r : Operand) → keeps_type row ≡ true
      → rhs_agrees ty t (Op code operands) ≡ true → result_of row (Op code operands) ≡ Some r
      → ResultAgrees t (AsOperand r)
  result_agrees t row code operands r keeps h is =
      (elim (same_code row.code code) as (λ d. same_code row.code code ≡ d
      → (if d then result_on row operands else None) ≡ Some r → ResultAgrees t (AsOperand r)) [
        | true ↦ λ one some. on_agrees t row code operands r keeps one h some
        | false ↦ λ one none. cc
      ]) refl is

  rows_agree : (t : Ty) (rows : List Row) (n : ℕ) (code : Code) (operands : List Operand) (m : ℕ) (r : Operand)
      → list_all keeps_type rows ≡ true → rhs_agrees ty t (Op code operands) ≡ true
      → found_from n rows (Op code operands) ≡ Some (m, r) → ResultAgrees t (AsOperand r)
  rows_agree t [] n code operands m r keep h is = cc
  rows_agree t (row ∷ rows) n code operands m r keep h is =
      let here = result_agrees t row code operands in
      (elim (result_of row (Op code operands)) as (λ o. result_of row (Op code operands) ≡ o → ResultAgrees t (AsOperand r)) [
        | None ↦ λ none.
            let skip : found_from n (row ∷ rows) (Op code operands) ≡ found_from (suc n) rows (Op code operands) = rw none refl in
            rows_agree t rows (suc n) code operands m r (and_right (keeps_type row) (list_all keeps_type rows) keep) h (sym skip ∙ is)
        | Some a ↦ λ some.
            let stop : found_from n (row ∷ rows) (Op code operands) ≡ Some (suc n, a) = rw some refl in
            let both : Some (suc n, a) ≡ Some (m, r) = sym stop ∙ is in
            let same : a ≡ r = ap (λ (p : ℕ × Operand). p.1) (some_is (suc n, a) (m, r) both) in
            given t (AsOperand a) (AsOperand r) (ap AsOperand same)
            (here a (and_left (keeps_type row) (list_all keeps_type rows) keep) h some)
      ]) refl

  row_kind_agrees : (t : Ty) (rows : List Row) (code : Code) (operands : List Operand) (c : Choice)
      → list_all keeps_type rows ≡ true → rhs_agrees ty t (Op code operands) ≡ true
      → row_kind rows (Op code operands) ≡ Some c → ResultAgrees t c.result
  row_kind_agrees t rows code operands c keep h is =
      (elim (found_from 0 rows (Op code operands)) as
      (λ o. ((m : ℕ) (r : Operand) → o ≡ Some (m, r) → ResultAgrees t (AsOperand r))
      → option_map (λ (found : ℕ × Operand). record { what = IsRow found.0; result = AsOperand found.1 }) o ≡ Some c
      → ResultAgrees t c.result) [
        | None ↦ λ rows_do none. cc
        | Some found ↦ λ rows_do some.
            let is_c : record { what = IsRow found.0; result = AsOperand found.1 } ≡ c = cc in
            given t (AsOperand found.1) c.result (ap (λ (d : Choice). d.result) is_c) (rows_do found.0 found.1 refl)
      ]) (λ m r h'. rows_agree t rows 0 code operands m r keep h h') is

  kind_agrees : (t : Ty) (tyopt : Option Ty) → ((u : Ty) → tyopt ≡ Some u → u ≡ t) → (rows : List Row)
      → list_all keeps_type rows ≡ true → (rhs : Rhs) (c : Choice) → rhs_agrees ty t rhs ≡ true
      → kind_at rows tyopt rhs ≡ Some c → ResultAgrees t c.result
  kind_agrees t tyopt known rows keep (Copy a) c h is =
      let is_c : record { what = IsCopy; result = AsOperand a } ≡ c = cc in
      given t (AsOperand a) c.result (ap (λ (d : Choice). d.result) is_c) (copy_agrees t a h)
  kind_agrees t tyopt known rows keep (Op code operands) c h is =
      elim (either_some (swap_operands code operands)
      (or_else (fold_at tyopt (Op code operands)) (row_kind rows (Op code operands))) c is) [
        | inl swap ↦ swap_agrees t code operands c h swap
        | inr later ↦ elim (either_some (fold_at tyopt (Op code operands)) (row_kind rows (Op code operands)) c later) [
          | inl fold ↦ fold_agrees t tyopt known code operands c h fold
          | inr row ↦ row_kind_agrees t rows code operands c keep h row
        ]
      ]

  -- ---- subjects

  -- the type of what stands at a place
  abbrev pub site_type : Site → Ty
  site_type (AtStmt x) = ty x
  site_type (AtCond n) = bool_type

  first_row_type : (x : ℕ) (rows : List NameRow) (u : Ty) → list_all (row_agrees ty) rows ≡ true
      → option_map (λ (row : NameRow). row.ty) (first_where (λ (row : NameRow). row.version == x) rows) ≡ Some u
      → u ≡ ty x
  first_row_type x [] u all is = cc
  first_row_type x (row ∷ rows) u all is =
      let here = same_type_is row.ty (ty row.version) (and_left (row_agrees ty row) (list_all (row_agrees ty) rows) all) in
      (elim (row.version == x) as (λ b. (b ≡ true → row.version ≡ x)
      → option_map (λ (row : NameRow). row.ty)
      (if b then Some row else first_where (λ (row : NameRow). row.version == x) rows) ≡ Some u → u ≡ ty x) [
        | true ↦ λ same some.
            let u_is : row.ty ≡ u = cc in
            sym u_is ∙ (here ∙ ap ty (same refl))
        | false ↦ λ same later. first_row_type x rows u (and_right (row_agrees ty row) (list_all (row_agrees ty) rows) all) later
      ]) (eqb-true row.version x) is

  type_known : (f : Function) → Agrees ty f → (site : Site) (u : Ty) → type_at (view_of f) site ≡ Some u → u ≡ site_type site
  unfolding row_of
  type_known f h (AtStmt x) u is = first_row_type x f.names u h.names is
  type_known f h (AtCond n) u is = cc

  abbrev EachAgrees : List Subject → Type 0
  EachAgrees [] = Unit {0}
  EachAgrees (s ∷ ss) = (rhs_agrees ty (site_type s.site) s.rhs ≡ true) × EachAgrees ss

  joined : (xs ys : List Subject) → EachAgrees xs → EachAgrees ys → EachAgrees (xs ++ ys)
  joined [] ys left right = right
  joined (x ∷ xs) ys left right = (left.0, joined xs ys left.1 right)

  stmts_agree : (stmts : List Stmt) → list_all (stmt_agrees ty) stmts ≡ true → EachAgrees (map subject_of_stmt stmts)
  stmts_agree [] h = tt
  stmts_agree (stmt ∷ stmts) h = (
    and_left (stmt_agrees ty stmt) (list_all (stmt_agrees ty) stmts) h,
    stmts_agree stmts (and_right (stmt_agrees ty stmt) (list_all (stmt_agrees ty) stmts) h),
  )

  end_subject_agrees : (n : ℕ) (end : End) → end_agrees ty end ≡ true → EachAgrees (subjects_of_end n end)
  end_subject_agrees n (Goto to) h = tt
  end_subject_agrees n (Return a) h = tt
  end_subject_agrees n (If code left right yes_to no_to) h = (h, tt)

  blocks_agree : (blocks : List Block) → list_all (block_agrees ty) blocks ≡ true → EachAgrees (flat_map subjects_of_block blocks)
  blocks_agree [] h = tt
  blocks_agree (block ∷ blocks) h =
      let here = and_left (block_agrees ty block) (list_all (block_agrees ty) blocks) h in
      let phis_stmts =
      and_left (list_all (phi_agrees ty) block.phis && list_all (stmt_agrees ty) block.stmts) (end_agrees ty block.end)
      here in
      let stmts = and_right (list_all (phi_agrees ty) block.phis) (list_all (stmt_agrees ty) block.stmts) phis_stmts in
      let end = and_right (list_all (phi_agrees ty) block.phis && list_all (stmt_agrees ty) block.stmts) (end_agrees ty block.end) here in
      joined (subjects_of_block block) (flat_map subjects_of_block blocks)
      (joined (map subject_of_stmt block.stmts) (subjects_of_end block.number block.end) (stmts_agree block.stmts stmts)
      (end_subject_agrees block.number block.end end))
      (blocks_agree blocks (and_right (block_agrees ty block) (list_all (block_agrees ty) blocks) h))

  subjects_agree : (f : Function) → Agrees ty f → EachAgrees (subjects f)
  unfolding subjects
  subjects_agree f h = blocks_agree f.blocks h.blocks

  -- the operation table speaks of a right side that agrees
  rhs_folds : (t : Ty) (tyopt : Option Ty) → ((u : Ty) → tyopt ≡ Some u → u ≡ t) → (rhs : Rhs)
      → rhs_agrees ty t rhs ≡ true → Folds tyopt rhs
  rhs_folds t tyopt known (Copy a) h = tt
  rhs_folds t tyopt known (Op code operands) h = λ u is.
      subst (λ v. well_typed_operation code v (map type_of operands) ≡ true) (sym (known u is))
      (and_right (list_all (operand_agrees ty) operands) (well_typed_operation code t (map type_of operands)) h)

  each_folds : (f : Function) → Agrees ty f → (ss : List Subject) → EachAgrees ss → EachFolds f ss
  each_folds f h [] each = tt
  each_folds f h (s ∷ ss) each = (
    rhs_folds (site_type s.site) (type_at (view_of f) s.site) (type_known f h s.site) s.rhs each.0,
    each_folds f h ss each.1,
  )

  pub function_folds : (f : Function) → Agrees ty f → EachFolds f (subjects f)
  function_folds f h = each_folds f h (subjects f) (subjects_agree f h)

  -- ---- a choice, and its step

  from_kind : (b : Choice → Bool) (o : Option Choice) (c : Choice)
      → option_and_then (λ d. if b d then None else Some d) o ≡ Some c → o ≡ Some c
  from_kind b None c is = is
  from_kind b (Some d) c is =
      (elim (b d) as (λ v. (if v then None else Some d) ≡ Some c → Some d ≡ Some c) [ true ↦ λ h. cc | false ↦ λ h. h ])
      is

  choice_agrees : (rows : List Row) → list_all keeps_type rows ≡ true → (f : Function) → Agrees ty f
      → (s : Subject) (c : Choice) → rhs_agrees ty (site_type s.site) s.rhs ≡ true
      → choice_at (row_at rows) (view_of f) s ≡ Some c → ResultAgrees (site_type s.site) c.result
  choice_agrees rows keep f h s c agrees is =
      kind_agrees (site_type s.site) (type_at (view_of f) s.site) (type_known f h s.site) rows keep s.rhs c agrees
      (from_kind (λ d. is_condition s.site && gives_same_condition d.result s.rhs) (first_kind (row_at rows) (view_of f) s) c is)

  found_agrees : (rows : List Row) → list_all keeps_type rows ≡ true → (f : Function) → Agrees ty f
      → (ss : List Subject) → EachAgrees ss → (s : Subject) (c : Choice) → first_some (tried rows f) ss ≡ Some (s, c)
      → ResultAgrees (site_type s.site) c.result
  found_agrees rows keep f h [] each s c is = cc
  found_agrees rows keep f h (x ∷ xs) each s c is =
      (elim (choice_at (row_at rows) (view_of f) x) as
      (λ o. ((d : Choice) → o ≡ Some d → ResultAgrees (site_type x.site) d.result)
      → or_else (option_map (λ d. (x, d)) o) (first_some (tried rows f) xs) ≡ Some (s, c)
      → ResultAgrees (site_type s.site) c.result) [
        | None ↦ λ here later. found_agrees rows keep f h xs each.1 s c later
        | Some d ↦ λ here some.
            subst (λ (p : Subject × Choice). ResultAgrees (site_type p.0.site) p.1.result) (some_is (x, d) (s, c) some) (here d refl)
      ]) (λ d e. choice_agrees rows keep f h x d each.0 e) is

  changed_agrees : (site : Site) (r : Result) (f : Function) → Agrees ty f → ResultAgrees (site_type site) r → Agrees ty (changed site r f)
  unfolding well_typed_operation
  changed_agrees (AtStmt x) (AsOperand a) f h agrees = put_kept ty x a agrees.0 agrees.1 f h
  changed_agrees (AtStmt x) (AsExchanged code a b) f h agrees = rhs_kept ty x (Op code (a ∷ b ∷ [])) agrees f h
  changed_agrees (AtCond n) (AsExchanged code a b) f h agrees = condition_kept ty n code a b agrees f h
  changed_agrees (AtCond n) (AsOperand a) f h agrees =
      condition_kept ty n Ne a bool_zero
      (and_both (operand_agrees ty a && (true && true)) (same_type (type_of a) bool_type && same_type bool_type bool_type)
      (and_both (operand_agrees ty a) (true && true) agrees.0 refl)
      (and_both (same_type (type_of a) bool_type) (same_type bool_type bool_type)
      (subst (λ t. same_type t bool_type ≡ true) (sym agrees.1) (same_type_refl bool_type)) (same_type_refl bool_type)))
      f h

  pub stepped_agrees : (rows : List Row) → list_all keeps_type rows ≡ true → (f : Function) → Agrees ty f
      → (s : Subject) (c : Choice) → first_choice (row_at rows) f ≡ Some (s, c)
      → Agrees ty (tidied (changed s.site c.result f))
  unfolding first_choice
  stepped_agrees rows keep f h s c is =
      tidied_kept ty (changed s.site c.result f)
      (changed_agrees s.site c.result f h (found_agrees rows keep f h (subjects f) (subjects_agree f h) s c is))
