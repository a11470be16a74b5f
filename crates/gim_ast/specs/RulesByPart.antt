-- The rules of a function as the code tests them, part by part, without the lists that are made of them. This is the code's
-- concern alone: contracts rest on `WellFormed`, and proofs show that both tests are one.
use Rattle.std.specs.Prelude.{ℕ, ◌+◌, ◌-◌, ◌^◌, ◌==◌, nat_lt, min, Bool, true, false, not, ◌&&◌, ◌||◌, List, [], ◌∷◌, length, if◌then◌else◌}
use Rattle.std.specs.List.{list_any, list_all}
use Rattle.pm_wide.specs.Types.{Ty, same_type}
use Rattle.pm_wide.specs.declared.operand.Operand.{Operand}
use Rattle.gim_ast.specs.declared.function.Function.{Function}
use Rattle.gim_ast.specs.declared.function.Block.{Block}
use Rattle.gim_ast.specs.declared.function.Phi.{Phi}
use Rattle.gim_ast.specs.declared.function.Stmt.{Stmt}
use Rattle.gim_ast.specs.declared.function.Decl.{Decl}
use Rattle.gim_ast.specs.declared.function.NameRow.{NameRow}
use Rattle.gim_ast.specs.declared.function.End.{End}
use Rattle.gim_ast.specs.declared.function.End.TheVariants.{Goto, If, Return}
use Rattle.gim_ast.specs.Functions.{is_name, operands_of_rhs, operands_of_end}
use Rattle.gim_ast.specs.Identifiers.{is_identifier, is_anonymous, anonymous}
use Rattle.gim_ast.specs.WellFormed.{same_text, is_type_of, is_empty, declares_as, base_holds, operand_holds, block_fits, type_of, entry_has_no_phi}

-- ---- declarations

abbrev pub has_identifier : Decl → Bool
has_identifier decl = is_identifier decl.ident

abbrev pub has_anonymous : Decl → Bool
has_anonymous decl = is_anonymous decl.ident

abbrev pub has_ident : List ℕ → Decl → Bool
has_ident ident decl = same_text ident decl.ident

-- none has the identifier of a later one, nor one of those told
abbrev pub distinct_idents : List Decl → List Decl → Bool
distinct_idents [] after = true
distinct_idents (decl ∷ decls) after = not (list_any (has_ident decl.ident) decls) && not (list_any (has_ident decl.ident) after) && distinct_idents decls after

abbrev pub declarations_by_part : Function → Bool
declarations_by_part f = is_identifier f.name && list_all has_identifier f.params && list_all has_identifier f.decls
    && distinct_idents f.params f.decls && distinct_idents f.decls [] && not (list_any has_anonymous f.params)

abbrev pub has_type : Decl → Bool
has_type decl = is_type_of decl.ty

abbrev pub types_by_part : Function → Bool
types_by_part f = is_type_of f.result && list_all has_type f.params && list_all has_type f.decls

-- ---- uses and assignments of a name

abbrev pub arg_is : ℕ → ℕ × Operand → Bool
arg_is x arg = is_name x arg.1

abbrev pub uses_in_phi : ℕ → Phi → Bool
uses_in_phi x phi = list_any (arg_is x) phi.args

abbrev pub uses_in_stmt : ℕ → Stmt → Bool
uses_in_stmt x stmt = list_any (is_name x) (operands_of_rhs stmt.rhs)

abbrev pub uses_in_block : ℕ → Block → Bool
uses_in_block x block = (list_any (uses_in_phi x) block.phis || list_any (uses_in_stmt x) block.stmts) || list_any (is_name x) (operands_of_end block.end)

abbrev pub phi_assigns : ℕ → Phi → Bool
phi_assigns x phi = phi.name == x

abbrev pub stmt_assigns : ℕ → Stmt → Bool
stmt_assigns x stmt = stmt.name == x

abbrev pub block_assigns : ℕ → Block → Bool
block_assigns x block = list_any (phi_assigns x) block.phis || list_any (stmt_assigns x) block.stmts

-- no statement assigns the name of a later one, nor one that the blocks behind assign
abbrev pub distinct_stmts : List Stmt → List Block → Bool
distinct_stmts [] after = true
distinct_stmts (stmt ∷ stmts) after = not (list_any (stmt_assigns stmt.name) stmts) && not (list_any (block_assigns stmt.name) after) && distinct_stmts stmts after

-- none of these assigns the name
abbrev pub is_new : ℕ → List Phi → List Stmt → List Block → Bool
is_new x phis stmts after = not (list_any (phi_assigns x) phis) && not (list_any (stmt_assigns x) stmts) && not (list_any (block_assigns x) after)

abbrev pub distinct_phis : List Phi → List Stmt → List Block → Bool
distinct_phis [] stmts after = true
distinct_phis (phi ∷ phis) stmts after = is_new phi.name phis stmts after && distinct_phis phis stmts after

abbrev pub is_apart : Block → List Block → Bool
is_apart block after = distinct_phis block.phis block.stmts after && distinct_stmts block.stmts after

abbrev pub distinct_names : List Block → Bool
distinct_names [] = true
distinct_names (block ∷ blocks) = is_apart block blocks && distinct_names blocks

-- ---- rows of names

abbrev pub is_later : ℕ → NameRow → Bool
is_later version row = nat_lt version row.version

abbrev pub rows_rise : List NameRow → Bool
rows_rise [] = true
rows_rise (row ∷ rows) = list_all (is_later row.version) rows && rows_rise rows

abbrev pub is_initial_of : List ℕ → NameRow → Bool
is_initial_of base row = row.initial && same_text base row.base

-- no later row is a default definition of the same parameter
abbrev pub is_last_initial : NameRow → List NameRow → Bool
is_last_initial row rows = if row.initial then not (list_any (is_initial_of row.base) rows) else true

abbrev pub distinct_initials : List NameRow → Bool
distinct_initials [] = true
distinct_initials (row ∷ rows) = is_last_initial row rows && distinct_initials rows

-- the base of the row is a local with its type
abbrev pub local_base_holds : Function → NameRow → Bool
local_base_holds f row = not row.initial && declares_as row.base row.ty f.decls

-- an anonymous name that no block uses
abbrev pub is_idle : List Block → NameRow → Bool
is_idle blocks row = same_text row.base [] && not (list_any (uses_in_block row.version) blocks)

-- the rule on uses and assignments of a row's name
abbrev pub row_stands_in : List Block → NameRow → Bool
row_stands_in blocks row = if row.initial then (not (list_any (block_assigns row.version) blocks) && list_any (uses_in_block row.version) blocks)
    else (list_any (block_assigns row.version) blocks || is_idle blocks row)

abbrev pub row_holds : Function → NameRow → Bool
row_holds f row = base_holds f row && row_stands_in f.blocks row

abbrev pub is_row_of : List ℕ → NameRow → Bool
is_row_of ident row = same_text row.base [] && same_text (anonymous row.version) ident

abbrev pub local_holds : List NameRow → Decl → Bool
local_holds rows decl = not (is_anonymous decl.ident) || list_any (is_row_of decl.ident) rows

abbrev pub names_by_part : Function → Bool
names_by_part f = rows_rise f.names && list_all (row_holds f) f.names && distinct_initials f.names && list_all (local_holds f.names) f.decls && distinct_names f.blocks

-- ---- blocks, jumps and phis

abbrev pub has_number : ℕ → Block → Bool
has_number n block = block.number == n

abbrev pub distinct_numbers : List Block → Bool
distinct_numbers [] = true
distinct_numbers (block ∷ blocks) = not (list_any (has_number block.number) blocks) && distinct_numbers blocks

-- the jumps of the end lead to blocks of the list
abbrev pub stays_in : List Block → End → Bool
stays_in blocks (Goto to) = list_any (has_number to) blocks
stays_in blocks (If code left right yes_to no_to) = list_any (has_number yes_to) blocks && list_any (has_number no_to) blocks
stays_in blocks (Return a) = true

abbrev pub jumps_stay_in : List Block → Block → Bool
jumps_stay_in blocks block = stays_in blocks block.end

abbrev pub leads_to : ℕ → End → Bool
leads_to n (Goto to) = to == n
leads_to n (If code left right yes_to no_to) = (yes_to == n) || (no_to == n)
leads_to n (Return a) = false

-- the block of number m jumps to block n
abbrev pub is_way : ℕ → ℕ → Block → Bool
is_way m n block = leads_to n block.end && (block.number == m)

abbrev pub comes_from : ℕ → ℕ × Operand → Bool
comes_from m arg = arg.0 == m

abbrev pub distinct_args : List (ℕ × Operand) → Bool
distinct_args [] = true
distinct_args (arg ∷ args) = not (list_any (comes_from arg.0) args) && distinct_args args

abbrev pub arg_has_way : List Block → ℕ → ℕ × Operand → Bool
arg_has_way blocks n arg = list_any (is_way arg.0 n) blocks

abbrev pub way_has_arg : List (ℕ × Operand) → ℕ → Block → Bool
way_has_arg args n block = if leads_to n block.end then list_any (comes_from block.number) args else true

abbrev pub phi_by_part : List Block → ℕ → Phi → Bool
phi_by_part blocks n phi = distinct_args phi.args && list_all (arg_has_way blocks n) phi.args && list_all (way_has_arg phi.args n) blocks && not (is_empty phi.args)

abbrev pub phis_by_part : List Block → Block → Bool
phis_by_part blocks block = list_all (phi_by_part blocks block.number) block.phis

abbrev pub blocks_by_part : Function → Bool
blocks_by_part f = entry_has_no_phi f.blocks && distinct_numbers f.blocks && list_all (jumps_stay_in f.blocks) f.blocks && list_all (phis_by_part f.blocks) f.blocks

-- ---- operands

abbrev pub arg_holds : Function → ℕ × Operand → Bool
arg_holds f arg = operand_holds f arg.1

abbrev pub phi_operands_hold : Function → Phi → Bool
phi_operands_hold f phi = list_all (arg_holds f) phi.args

abbrev pub stmt_operands_hold : Function → Stmt → Bool
stmt_operands_hold f stmt = list_all (operand_holds f) (operands_of_rhs stmt.rhs)

abbrev pub block_operands_hold : Function → Block → Bool
block_operands_hold f block = list_all (phi_operands_hold f) block.phis && list_all (stmt_operands_hold f) block.stmts && list_all (operand_holds f) (operands_of_end block.end)

abbrev pub arg_fits : Ty → ℕ × Operand → Bool
arg_fits t arg = same_type (type_of arg.1) t

abbrev pub row_is : ℕ → NameRow → Bool
row_is x row = row.version == x

abbrev pub operands_by_part : Function → Bool
operands_by_part f = list_all (block_operands_hold f) f.blocks && list_all (block_fits f) f.blocks

-- ---- bounds: operand places are counted up to the greatest number of the machine

abbrev pub capped_sum : ℕ → ℕ → ℕ
capped_sum n m = min (n + m) (2 ^ 64 - 1)

abbrev pub count_in_phis : ℕ → List Phi → ℕ
count_in_phis n [] = n
count_in_phis n (phi ∷ phis) = count_in_phis (capped_sum n (length phi.args)) phis

abbrev pub count_in_stmts : ℕ → List Stmt → ℕ
count_in_stmts n [] = n
count_in_stmts n (stmt ∷ stmts) = count_in_stmts (capped_sum n (length (operands_of_rhs stmt.rhs))) stmts

abbrev pub count_in_block : ℕ → Block → ℕ
count_in_block n block = capped_sum (count_in_stmts (count_in_phis n block.phis) block.stmts) (length (operands_of_end block.end))

abbrev pub count_in_blocks : ℕ → List Block → ℕ
count_in_blocks n [] = n
count_in_blocks n (block ∷ blocks) = count_in_blocks (count_in_block n block) blocks

abbrev pub bounds_by_part : Function → Bool
bounds_by_part f = nat_lt (length f.blocks) (2 ^ 31) && nat_lt (length f.names) (2 ^ 31) && nat_lt (count_in_blocks 0 f.blocks) (2 ^ 31)

-- ---- the whole

abbrev pub well_formed_by_part : Function → Bool
well_formed_by_part f = declarations_by_part f && types_by_part f && names_by_part f && blocks_by_part f && operands_by_part f && bounds_by_part f
