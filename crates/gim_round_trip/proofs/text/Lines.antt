-- The printed lines of phis and statements are read as these.
use Rattle.std.proofs.Common.{◌≡◌, ℕ, ◌<◌, ◌^◌, true, false, List, [], ◌∷◌, ◌++◌, codes, refl, sym, subst, arith}
use Rattle.std.specs.Fmt.{decimal}
use Rattle.std.specs.List.{AllZip}
use Rattle.std.proofs.lemmas.Bool.{and_parts, false≢true}
use Rattle.std.proofs.lemmas.List.{append_assoc}
use Rattle.pm_wide.specs.Types.{Ty}
use Rattle.pm_wide.specs.declared.operand.Operand.{Operand}
use Rattle.gim_ast.specs.declared.function.Function.{Function}
use Rattle.gim_ast.specs.declared.function.Block.{Block}
use Rattle.gim_ast.specs.declared.function.Phi.{Phi}
use Rattle.gim_ast.specs.declared.function.Stmt.{Stmt}
use Rattle.gim_ast.specs.declared.function.Decl.{Decl}
use Rattle.gim_ast.specs.declared.function.NameRow.{NameRow}
use Rattle.gim_printer.specs.Printing.{line, listed, assigned_text, type_of_name, operand_text}
use Rattle.gim_printer.specs.Printing.{rhs_text, phi_argument_text, phi_line, stmt_line}
use Rattle.gim_ast.specs.WellFormed.{IsWellFormed, is_type_of, is_empty, operand_holds, rhs_fits, base_holds, declares_as}
use Rattle.gim_ast.specs.Identifiers.{anonymous}
use Rattle.gim_text.specs.declared.limits.TheConstants.{NUMBER_LIMIT}
use Rattle.gim_text.specs.declared.token.Keyword.TheVariants as keywords
use Rattle.gim_text.specs.declared.token.Mark.TheVariants as marks
use Rattle.gim_text.specs.declared.tree.ArgText.{ArgText}
use Rattle.gim_text.specs.declared.tree.ItemText.{ItemText}
use Rattle.gim_text.specs.declared.tree.ItemText.TheVariants as items
use Rattle.gim_text.proofs.Membership.{Has, has_left, has_right, has_map, all_has}
use Rattle.gim_statements.specs.Grammar.{SpellsArg, SpellsArgs, SpellsItem}
use Rattle.gim_round_trip.specs.ReadBack.{IsWithinLimits}
use Rattle.gim_round_trip.proofs.tree.Rows.{name_facts, HasBase, bare, of_param, of_local, base_of_row, declared_as}
use Rattle.gim_round_trip.proofs.tree.SmallNumbers.{phi_blocks_small}
use Rattle.gim_round_trip.proofs.tree.WellFormedParts.{phi_operand, stmt_operand, each_operand_holds, phi_row, phi_rules, stmt_row}
use Rattle.gim_round_trip.proofs.text.Prints.{word_end, any_end, Prints, joined, seen, blanks_before, blanks_after}
use Rattle.gim_round_trip.proofs.text.Tokens.{block_word_prints, a_mark_prints, a_keyword_prints}
use Rattle.gim_round_trip.proofs.text.Operands.{assigned_prints, operand_prints}
use Rattle.gim_round_trip.proofs.text.Sequences.{lead, trail, told, comma_list, quiet_assign, quiet_semicolon}
use Rattle.gim_round_trip.proofs.text.RightSides.{right_prints}
use Rattle.gim_round_trip.proofs.tree.Writes.{WritesArg, WritesPhi, WritesStmt}

-- ---- what is known of the parts of a block

pub decl_type : (f : Function) (decl : Decl) → IsWellFormed f → Has (f.params ++ f.decls) decl → is_type_of decl.ty ≡ true
decl_type f decl well there = all_has (λ (d : Decl). is_type_of d.ty) (f.params ++ f.decls) (and_parts _ _ well.types).1 decl there

-- what is declared has one of the eleven types
declared_type : (f : Function) (ident : List ℕ) (t : Ty) (decls : List Decl) → IsWellFormed f
    → ((decl : Decl) → Has decls decl → Has (f.params ++ f.decls) decl) → declares_as ident t decls ≡ true
    → is_type_of t ≡ true
declared_type f ident t decls well within h = let decl = declared_as ident t decls h in
    subst (λ u. is_type_of u ≡ true) decl.3 (decl_type f decl.0 well (within decl.0 decl.1))

row_type : (f : Function) (row : NameRow) → IsWellFormed f → base_holds f row ≡ true → is_type_of row.ty ≡ true
row_type f row well holds = by (base_of_row f row holds) where
  by : HasBase f row → is_type_of row.ty ≡ true
  by (bare is plain declared) = declared_type f (anonymous row.version) row.ty f.decls well (has_right f.params f.decls) declared
  by (of_param b base is declared) = declared_type f (b ∷ base) row.ty f.params well (has_left f.params f.decls) declared
  by (of_local b base is plain declared) = declared_type f (b ∷ base) row.ty f.decls well (has_right f.params f.decls) declared

-- ---- phis

arg_whole : (number operand : List ℕ) → (codes "__BB" ++ number) ++ (codes ": " ++ operand) ≡ codes "__BB" ++ number
    ++ codes ": " ++ operand
arg_whole number operand = simp append_assoc

arg_prints : (source : List ℕ) (f : Function) (arg : ℕ × Operand) → IsWellFormed f → IsWithinLimits f
    → arg.0 < NUMBER_LIMIT → operand_holds f arg.1 ≡ true
    → Prints source word_end SpellsArg (λ (tree : ArgText). WritesArg source f tree arg) (phi_argument_text f arg)
arg_prints source f arg well limits small holds =
    let number : arg.0 < 2 ^ 64 = omega (arith, small) in
    let operand =
    lead (a_mark_prints source marks.Colon refl) (λ rest. tt)
    (blanks_before (codes " ") refl (operand_prints source f arg.1 well limits holds)) in
    let whole = joined (block_word_prints source arg.0 number) (λ rest. refl) operand in
    told (arg_whole (decimal arg.0) (operand_text f arg.1))
    (seen whole (λ x. record { from = x.0; operand = x.1 }) (λ x w is h. h) (λ x is. is))

args_print : (source : List ℕ) (f : Function) (args : List (ℕ × Operand)) → is_empty args ≡ false
    → ((arg : ℕ × Operand) → Has args arg → Prints source word_end SpellsArg
    (λ (tree : ArgText). WritesArg source f tree arg) (phi_argument_text f arg))
    → Prints source word_end SpellsArgs (λ (trees : List ArgText). AllZip (WritesArg source f) trees args)
    (listed (phi_argument_text f) args)
args_print source f [] some each = absurd (false≢true (sym some))
args_print source f (arg ∷ args) some each =
    seen (comma_list source SpellsArg (WritesArg source f) (phi_argument_text f) arg args each)
    (λ trees. trees.0 ∷ trees.1) (λ trees w is h. h) (λ trees is. is)

phi_whole : (name args : List ℕ) → (codes "  " ++ (name ++ (codes " = __PHI (" ++ (args ++ codes ");")))) ++ 10 ∷ []
    ≡ line (codes "  " ++ name ++ codes " = __PHI (" ++ args ++ codes ");")
phi_whole name args = simp append_assoc

pub phi_prints : (source : List ℕ) (f : Function) (block : Block) (phi : Phi) → IsWellFormed f → IsWithinLimits f
    → Has f.blocks block → Has block.phis phi
    → Prints source any_end SpellsItem (λ (tree : ItemText). WritesPhi source f tree phi) (phi_line f phi)
unfolding phi_line
phi_prints source f block phi well limits there here =
    let row = phi_row f block there well phi here in
    let each = λ (arg : ℕ × Operand) (stands : Has phi.args arg).
    arg_prints source f arg well limits (phi_blocks_small f limits well block there phi here arg.0
    (has_map (λ (a : ℕ × Operand). a.0) phi.args arg stands))
    (each_operand_holds f well arg.1 (phi_operand f block there phi here arg stands)) in
    let args = args_print source f phi.args (phi_rules f block there well phi here).some each in
    let ended = trail args (λ rest. refl) (lead (a_mark_prints source marks.Close refl) (λ rest. tt) (quiet_semicolon source)) in
    let opened =
    lead (a_keyword_prints source keywords.Phi) (λ rest. refl)
    (blanks_before (codes " ") refl (lead (a_mark_prints source marks.Open refl) (λ rest. tt) ended)) in
    let assigned = lead (blanks_before (codes " ") refl (quiet_assign source)) (λ rest. refl) (blanks_before (codes " ") refl opened) in
    let whole = joined (assigned_prints source f phi.name row.0 well limits row.1) (λ rest. refl) assigned in
    let item = seen whole (λ x. items.Phi x.0 x.1) (λ x w is h. h) (λ x is. is) in
    told (phi_whole (assigned_text f phi.name) (listed (phi_argument_text f) phi.args))
    (blanks_after (10 ∷ []) refl (λ rest. refl) (blanks_before (codes "  ") refl item))

-- ---- statements

stmt_whole : (name right : List ℕ) → (codes "  " ++ (name ++ (codes " = " ++ (right ++ codes ";")))) ++ 10 ∷ []
    ≡ line (codes "  " ++ name ++ codes " = " ++ right ++ codes ";")
stmt_whole name right = simp append_assoc

pub stmt_prints : (source : List ℕ) (f : Function) (block : Block) (stmt : Stmt) → IsWellFormed f → IsWithinLimits f
    → Has f.blocks block → Has block.stmts stmt
    → Prints source any_end SpellsItem (λ (tree : ItemText). WritesStmt source f tree stmt) (stmt_line f stmt)
unfolding stmt_line
stmt_prints source f block stmt well limits there here =
    let row = stmt_row f block there well stmt here in
    let facts = name_facts f stmt.name row.0 well limits row.1 in
    let t = type_of_name f stmt.name in
    let is : is_type_of t ≡ true = subst (λ u. is_type_of u ≡ true) (sym facts.type) (row_type f row.0 well facts.base) in
    let right_fits : rhs_fits t stmt.rhs ≡ true = subst (λ u. rhs_fits u stmt.rhs ≡ true) (sym facts.type) row.2 in
    let right =
    right_prints source f t stmt.rhs well limits is
    (λ a stands. each_operand_holds f well a (stmt_operand f block there stmt here a stands)) right_fits in
    let assigned =
    lead (blanks_before (codes " ") refl (quiet_assign source)) (λ rest. refl)
    (blanks_before (codes " ") refl (trail right (λ rest. refl) (quiet_semicolon source))) in
    let whole = joined (assigned_prints source f stmt.name row.0 well limits row.1) (λ rest. refl) assigned in
    let item = seen whole (λ x. items.Stmt x.0 x.1) (λ x w is h. h) (λ x is. is) in
    told (stmt_whole (assigned_text f stmt.name) (rhs_text f t stmt.rhs))
    (blanks_after (10 ∷ []) refl (λ rest. refl) (blanks_before (codes "  ") refl item))
