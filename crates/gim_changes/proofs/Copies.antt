-- The operand of a copy has its type and comes before it.
use Rattle.std.proofs.Common.{◌≡◌, ℕ, true, false, Some, None, Option, option_map, [], eqb, refl, sym, subst, inl}
use Rattle.std.specs.Option.{option_map_or}
use Rattle.std.proofs.lemmas.Bool.{and_parts, or_left, eqb-true, eq-eqb}
use Rattle.std.proofs.lemmas.Option.{same_Some, none-some}
use Rattle.pm_wide.specs.Types.{same_type}
use Rattle.pm_wide.specs.declared.operand.Operand.{Operand}
use Rattle.pm_wide.specs.declared.operand.Operand.TheVariants.{Name, Const}
use Rattle.pm_wide.proofs.Results.{same_type_is}
use Rattle.gim_ast.specs.declared.function.Function.{Function}
use Rattle.gim_ast.specs.declared.function.Stmt.{Stmt}
use Rattle.gim_ast.specs.declared.function.NameRow.{NameRow}
use Rattle.gim_ast.specs.declared.function.Rhs.{Rhs}
use Rattle.gim_ast.specs.declared.function.Rhs.TheVariants.{Copy}
use Rattle.gim_ast.specs.Functions.{first_where, stmts_of, right_of, row_of, operands_of_stmt, operands_of_rhs}
use Rattle.gim_ast.specs.WellFormed.{is_among, type_of, rhs_fits, stmt_fits}
use Rattle.gim_ast.specs.Readable.{names_among, read_for, operand, IsValid}
use Rattle.gim_changes.specs.Substitution.{put_in_all}
use Rattle.gim_changes.specs.Trimming.{tidied}
use Rattle.gim_changes.specs.Validity.{OperandComesBefore}
use Rattle.gim_changes.proofs.Members.{IsMember, all_members, member_middle, part_member}
use Rattle.gim_changes.proofs.NamesUsed.{operand_of_stmts}
use Rattle.gim_changes.proofs.RulesOfNames.{first_passes, StandsAt, stmt_stands, stmt_assigns, assigned_is}
use Rattle.gim_changes.proofs.ComesBefore.{support_comes_before}
use Rattle.gim_changes.proofs.ChangedBlocks.{block_holds}
use Rattle.gim_changes.proofs.GrownRules.{same_type_itself}
use Rattle.gim_changes.proofs.ValidSubstitution.{valid_with_put}
use Rattle.gim_changes.proofs.ValidWithout.{tidied_valid}

-- the statement of a right side
stmt_of_right : (f : Function) (x : ℕ) (rhs : Rhs) → right_of f x ≡ Some rhs → (stmt : Stmt) × StandsAt f x stmt × (stmt.rhs ≡ rhs)
unfolding right_of
stmt_of_right f x rhs is = by (first_where (λ (s : Stmt). eqb s.name x) (stmts_of f)) refl is
  where
    by : (o : Option Stmt) → first_where (λ (s : Stmt). eqb s.name x) (stmts_of f) ≡ o → option_map (λ (s : Stmt). s.rhs) o ≡ Some rhs → (stmt : Stmt) × StandsAt f x stmt × (stmt.rhs ≡ rhs)
    by None found e = absurd (none-some rhs e)
    by (Some stmt) found e =
        let passes = first_passes (λ (s : Stmt). eqb s.name x) (stmts_of f) stmt found in
        (stmt, subst (λ z. StandsAt f z stmt) (eqb-true stmt.name x passes.1) (stmt_stands f stmt passes.0), same_Some stmt.rhs rhs e)

turned : (f : Function) (o : Option NameRow) (a : Operand) → option_map_or (λ (row : NameRow). same_type (type_of a) row.ty) o false ≡ true →
    option_map_or (λ (row : NameRow). same_type row.ty (type_of a)) o false ≡ true
turned f None a h = h
turned f (Some row) a h = subst (λ t. same_type row.ty t ≡ true) (sym (same_type_is (type_of a) row.ty h)) (same_type_itself row.ty)

comes_before : (f : Function) (x : ℕ) (a : Operand) → IsValid f → right_of f x ≡ Some (Copy a) → OperandComesBefore f a x
unfolding read_for
comes_before f x (Name y t) valid is =
    support_comes_before f valid x y (operand x y (subst (λ o. is_among y (option_map_or (λ (rhs : Rhs). names_among (operands_of_rhs rhs)) o []) ≡ true) (sym is) (or_left (eqb y y) false (eq-eqb y y refl))))
comes_before f x (Const w) valid is = tt

pub copy_can_go : (f : Function) (x : ℕ) (a : Operand) → IsValid f → right_of f x ≡ Some (Copy a) → IsValid (tidied (put_in_all x a f))
copy_can_go f x a valid is =
    let found = stmt_of_right f x (Copy a) is in
    let at = found.1 in
    let holds = block_holds f valid.well_formed.operands at.home at.one in
    let among : IsMember found.0 at.home.stmts = subst (IsMember found.0) (sym at.is) (member_middle found.0 at.front at.rest) in
    let mine : IsMember a (operands_of_stmt found.0) = subst (λ (rhs : Rhs). IsMember a (operands_of_rhs rhs)) (sym found.2) (inl refl) in
    let fits = all_members (stmt_fits f) at.home.stmts (and_parts _ _ (and_parts _ _ holds.fits).0).1 found.0 among in
    let type : option_map_or (λ (row : NameRow). same_type (type_of a) row.ty) (row_of f x) false ≡ true =
    subst (λ z. option_map_or (λ (row : NameRow). same_type (type_of a) row.ty) (row_of f z) false ≡ true) at.name
    (subst (λ (rhs : Rhs). option_map_or (λ (row : NameRow). rhs_fits row.ty rhs) (row_of f found.0.name) false ≡ true) found.2 fits) in
    tidied_valid (put_in_all x a f) (valid_with_put x a f valid (assigned_is f x (stmt_assigns f x found.0 at))
    (holds.each a (operand_of_stmts at.home a (part_member operands_of_stmt a found.0 at.home.stmts among mine))) (turned f (row_of f x) a type) (comes_before f x a valid is))
