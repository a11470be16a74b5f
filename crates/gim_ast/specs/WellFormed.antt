-- The rules that each function of a GIMPLE file keeps, but for readability and limits: one test for each rule.
use Rattle.std.specs.Prelude.{ℕ, ◌^◌, ◌==◌, nat_lt, Bool, true, false, not, ◌&&◌, ◌||◌, IsTrue, List, [], ◌∷◌, ◌++◌, map, length, if◌then◌else◌}
use Rattle.std.specs.List.{flat_map, list_any, list_all}
use Rattle.std.specs.Option.{option_map_or}
use Rattle.std.specs.Cmp.Lexicographic.{pointwise}
use Rattle.pm_ops.specs.Codes.{is_comparison_code}
use Rattle.pm_wide.specs.Types.{Ty, Word, is_type, same_type}
use Rattle.pm_wide.specs.Typing.{well_typed_operation}
use Rattle.pm_wide.specs.declared.operand.Operand.{Operand}
use Rattle.pm_wide.specs.declared.operand.Operand.TheVariants.{Name, Const}
use Rattle.gim_ast.specs.declared.function.Function.{Function}
use Rattle.gim_ast.specs.declared.function.Block.{Block}
use Rattle.gim_ast.specs.declared.function.Phi.{Phi}
use Rattle.gim_ast.specs.declared.function.Stmt.{Stmt}
use Rattle.gim_ast.specs.declared.function.Decl.{Decl}
use Rattle.gim_ast.specs.declared.function.NameRow.{NameRow}
use Rattle.gim_ast.specs.declared.function.Rhs.{Rhs}
use Rattle.gim_ast.specs.declared.function.Rhs.TheVariants.{Copy, Op}
use Rattle.gim_ast.specs.declared.function.End.{End}
use Rattle.gim_ast.specs.declared.function.End.TheVariants.{Goto, If, Return}
use Rattle.gim_ast.specs.Functions.{operands_of, assigned, targets_of, row_of, is_used}
use Rattle.gim_ast.specs.Identifiers.{is_identifier, is_anonymous, anonymous}

-- ---- general tests

abbrev pub same_text : List ℕ → List ℕ → Bool
same_text = pointwise ◌==◌

-- none of the list stands in it again
abbrev pub all_distinct : {X : Type 0} → (X → X → Bool) → List X → Bool
all_distinct same [] = true
all_distinct same (x ∷ xs) = not (list_any (same x) xs) && all_distinct same xs

-- each number is below the next
abbrev pub rises : List ℕ → Bool
rises [] = true
rises (x ∷ xs) = list_all (nat_lt x) xs && rises xs

-- ---- declarations

abbrev pub ident_of : Decl → List ℕ
ident_of decl = decl.ident

abbrev pub declares : List ℕ → List Decl → Bool
declares ident decls = list_any (λ (decl : Decl). same_text decl.ident ident) decls

-- the identifier is declared in the list, with that type
abbrev pub declares_as : List ℕ → Ty → List Decl → Bool
declares_as ident t decls = list_any (λ (decl : Decl). same_text decl.ident ident && same_type decl.ty t) decls

-- the function, the parameters and the locals have identifiers, those of parameters and locals are distinct, and no parameter is an anonymous name
abbrev pub declarations_hold : Function → Bool
declarations_hold f = is_identifier f.name
    && list_all is_identifier (map ident_of (f.params ++ f.decls))
    && all_distinct same_text (map ident_of (f.params ++ f.decls))
    && not (list_any is_anonymous (map ident_of f.params))

-- every type that is written is one of the eleven
abbrev pub is_type_of : Ty → Bool
is_type_of t = is_type t.width t.unsigned

abbrev pub types_hold : Function → Bool
types_hold f = is_type_of f.result && list_all (λ (decl : Decl). is_type_of decl.ty) (f.params ++ f.decls)

-- ---- names

-- a row's base: an anonymous name is declared whole as a local; another base is a local or a parameter, and that of a default
-- definition a parameter. The declaration gives the type
abbrev pub base_holds : Function → NameRow → Bool
base_holds f row = if same_text row.base [] then (not row.initial && declares_as (anonymous row.version) row.ty f.decls)
    else (declares_as row.base row.ty f.params || (not row.initial && declares_as row.base row.ty f.decls))

abbrev pub is_assigned : Function → ℕ → Bool
is_assigned f x = list_any (λ y. y == x) (assigned f)

-- a default definition isn't assigned and is used; an anonymous name is used only where it is assigned; any other name is assigned
abbrev pub row_stands : Function → NameRow → Bool
row_stands f row = if row.initial then (not (is_assigned f row.version) && is_used f row.version)
    else (is_assigned f row.version || (same_text row.base [] && not (is_used f row.version)))

abbrev pub initial_bases : List NameRow → List (List ℕ)
initial_bases rows = flat_map (λ (row : NameRow). if row.initial then row.base ∷ [] else []) rows

-- the rows of names rise by version, so that no version has two
abbrev pub names_rise : Function → Bool
names_rise f = rises (map (λ (row : NameRow). row.version) f.names)

-- `names` rises by version, each row holds, no parameter has two default definitions, each anonymous local has its row, and no name is assigned twice
abbrev pub names_hold : Function → Bool
names_hold f = names_rise f
    && list_all (λ (row : NameRow). base_holds f row && row_stands f row) f.names
    && all_distinct same_text (initial_bases f.names)
    && list_all (λ (decl : Decl). not (is_anonymous decl.ident) || list_any (λ (row : NameRow). same_text row.base [] && same_text (anonymous row.version) decl.ident) f.names) f.decls
    && all_distinct ◌==◌ (assigned f)

-- ---- blocks, jumps and phis

abbrev pub is_empty : {X : Type 0} → List X → Bool
is_empty [] = true
is_empty (x ∷ xs) = false

abbrev pub numbers_of : Function → List ℕ
numbers_of f = map (λ (block : Block). block.number) f.blocks

-- the numbers of the blocks that jump to a block, each once
abbrev pub predecessors : Function → ℕ → List ℕ
predecessors f n = flat_map (λ (block : Block). if list_any (λ to. to == n) (targets_of block.end) then block.number ∷ [] else []) f.blocks

abbrev pub is_among : ℕ → List ℕ → Bool
is_among n ns = list_any (λ m. m == n) ns

abbrev pub phi_blocks : Phi → List ℕ
phi_blocks phi = map (λ (arg : ℕ × Operand). arg.0) phi.args

-- one argument for each block that jumps here, and no other
abbrev pub phi_holds : Function → ℕ → Phi → Bool
phi_holds f n phi = all_distinct ◌==◌ (phi_blocks phi)
    && list_all (λ m. is_among m (predecessors f n)) (phi_blocks phi)
    && list_all (λ m. is_among m (phi_blocks phi)) (predecessors f n)
    && not (is_empty phi.args)

abbrev pub entry_has_no_phi : List Block → Bool
entry_has_no_phi [] = false
entry_has_no_phi (block ∷ blocks) = is_empty block.phis

-- there is a block, numbers are distinct, jumps lead to blocks, the entry has no phi, and each phi holds
abbrev pub blocks_hold : Function → Bool
blocks_hold f = entry_has_no_phi f.blocks
    && all_distinct ◌==◌ (numbers_of f)
    && list_all (λ n. is_among n (numbers_of f)) (flat_map (λ (block : Block). targets_of block.end) f.blocks)
    && list_all (λ (block : Block). list_all (phi_holds f block.number) block.phis) f.blocks

-- ---- types of operands and right sides

abbrev pub type_of : Operand → Ty
type_of (Name x t) = t
type_of (Const w) = w.ty

-- a constant is a word of its type
abbrev pub is_word : Word → Bool
is_word w = is_type_of w.ty && nat_lt w.bits (2 ^ w.ty.width)

-- a name has the type of its row
abbrev pub operand_holds : Function → Operand → Bool
operand_holds f (Name x t) = option_map_or (λ (row : NameRow). same_type row.ty t) (row_of f x) false
operand_holds f (Const w) = is_word w

abbrev pub rhs_fits : Ty → Rhs → Bool
rhs_fits t (Copy a) = same_type (type_of a) t
rhs_fits t (Op code operands) = well_typed_operation code t (map type_of operands)

abbrev pub stmt_fits : Function → Stmt → Bool
stmt_fits f stmt = option_map_or (λ (row : NameRow). rhs_fits row.ty stmt.rhs) (row_of f stmt.name) false

abbrev pub phi_fits : Function → Phi → Bool
phi_fits f phi = option_map_or (λ (row : NameRow). list_all (λ (arg : ℕ × Operand). same_type (type_of arg.1) row.ty) phi.args) (row_of f phi.name) false

abbrev pub end_fits : Function → End → Bool
end_fits f (Goto to) = true
end_fits f (If code left right yes_to no_to) = is_comparison_code code && same_type (type_of left) (type_of right)
end_fits f (Return a) = same_type (type_of a) f.result

abbrev pub block_fits : Function → Block → Bool
block_fits f block = list_all (phi_fits f) block.phis && list_all (stmt_fits f) block.stmts && end_fits f block.end

-- each operand holds, and each phi, statement and end is well typed
abbrev pub operands_hold : Function → Bool
operands_hold f = list_all (operand_holds f) (operands_of f) && list_all (block_fits f) f.blocks

-- ---- bounds of the machine

-- fewer than 2 ^ 31 blocks, names and operand places
abbrev pub bounds_hold : Function → Bool
bounds_hold f = nat_lt (length f.blocks) (2 ^ 31) && nat_lt (length f.names) (2 ^ 31) && nat_lt (length (operands_of f)) (2 ^ 31)

-- ---- the whole

pub record IsWellFormed (f : Function) : Type 0 where
  pub declarations : IsTrue (declarations_hold f)
  pub types : IsTrue (types_hold f)
  pub names : IsTrue (names_hold f)
  pub blocks : IsTrue (blocks_hold f)
  pub operands : IsTrue (operands_hold f)
  pub bounds : IsTrue (bounds_hold f)

-- the same as one test
abbrev pub is_well_formed : Function → Bool
is_well_formed f = declarations_hold f && types_hold f && names_hold f && blocks_hold f && operands_hold f && bounds_hold f
