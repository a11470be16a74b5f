-- The tree of a printed function writes that function, part by part.
use Rattle.std.specs.Prelude.{◌≡◌, ℕ, true, false, Option, Some, List, [], ◌∷◌, ◌++◌}
use Rattle.std.specs.List.{AllZip, AllByRecursion}
use Rattle.std.specs.Fmt.{decimal}
use Rattle.pm_ops.specs.declared.code.Code.TheVariants as codes
use Rattle.pm_wide.specs.Types.{Ty}
use Rattle.pm_wide.specs.declared.operand.Operand.{Operand}
use Rattle.pm_wide.specs.declared.operand.Operand.TheVariants as operands
use Rattle.gim_ast.specs.declared.function.Function.{Function}
use Rattle.gim_ast.specs.declared.function.Block.{Block}
use Rattle.gim_ast.specs.declared.function.Phi.{Phi}
use Rattle.gim_ast.specs.declared.function.Stmt.{Stmt}
use Rattle.gim_ast.specs.declared.function.Decl.{Decl}
use Rattle.gim_ast.specs.declared.function.Rhs.{Rhs}
use Rattle.gim_ast.specs.declared.function.Rhs.TheVariants as sides
use Rattle.gim_ast.specs.declared.function.End.{End}
use Rattle.gim_ast.specs.declared.function.End.TheVariants as ends
use Rattle.gim_printer.specs.Printing.{assigned_text, type_of_name}
use Rattle.gim_ast.specs.Readable.{is_initial}
use Rattle.gim_ast.specs.WellFormed.{IsWellFormed}
use Rattle.pm_places.specs.declared.span.Span.{Span}
use Rattle.gim_text.specs.declared.tree.FunctionText.{FunctionText}
use Rattle.gim_text.specs.declared.tree.DeclText.{DeclText}
use Rattle.gim_text.specs.declared.tree.BlockText.{BlockText}
use Rattle.gim_text.specs.declared.tree.ItemText.{ItemText}
use Rattle.gim_text.specs.declared.tree.ItemText.TheVariants as items
use Rattle.gim_text.specs.declared.tree.ArgText.{ArgText}
use Rattle.gim_text.specs.declared.tree.RightForm.{RightForm}
use Rattle.gim_text.specs.declared.tree.RightForm.TheVariants.{Copy, Unary, Cast, Binary, Choice}
use Rattle.gim_text.specs.declared.tree.OperandText.{OperandText}
use Rattle.gim_text.specs.declared.tree.OperandText.TheVariants.{Name, Default, Literal}
use Rattle.gim_text.specs.declared.tree.EndText.{EndText}
use Rattle.gim_text.specs.declared.tree.EndText.TheVariants.{Goto, If, Return}
use Rattle.gim_text.specs.Literals.{literal_word}
use Rattle.gim_text.specs.Texts.{block_digits}
use Rattle.pm_places.specs.Spans.{text_of}
use Rattle.gim_round_trip.specs.ReadBack.{IsWithinLimits}

-- a name as it stands where it is assigned, and as a default definition before its mark; a constant by its word
abbrev pub WritesOperand : List ℕ → Function → OperandText → Operand → Type 0
WritesOperand source f (Name at) (operands.Name x t) = (text_of source at ≡ assigned_text f x) × (is_initial f x ≡ false)
WritesOperand source f (Default at) (operands.Name x t) = (text_of source at ≡ assigned_text f x) × (is_initial f x ≡ true)
WritesOperand source f (Literal literal) (operands.Const w) = literal_word source literal ≡ Some w
WritesOperand source f a b = ⊥

-- a right side that is assigned to a name of type t
abbrev pub WritesForm : List ℕ → Function → Ty → RightForm → Rhs → Type 0
WritesForm source f t (Copy a) (sides.Copy b) = WritesOperand source f a b
WritesForm source f t (Unary code a) (sides.Op op (x ∷ [])) = (code ≡ op) × WritesOperand source f a x
WritesForm source f t (Cast to a) (sides.Op op (x ∷ [])) = (op ≡ codes.Convert) × (to ≡ t) × WritesOperand source f a x
WritesForm source f t (Binary code a b) (sides.Op op (x ∷ y ∷ [])) = (code ≡ op) × WritesOperand source f a x × WritesOperand source f b y
WritesForm source f t (Choice a b c) (sides.Op op (x ∷ y ∷ z ∷ [])) =
    (op ≡ codes.Cond) × WritesOperand source f a x × WritesOperand source f b y × WritesOperand source f c z
WritesForm source f t form rhs = ⊥

-- a `__BBn` names the block of this number
abbrev pub NamesBlock : List ℕ → Span → ℕ → Type 0
NamesBlock source at number = block_digits (text_of source at) ≡ decimal number

abbrev pub WritesArg : List ℕ → Function → ArgText → ℕ × Operand → Type 0
WritesArg source f arg x = NamesBlock source arg.from x.0 × WritesOperand source f arg.operand x.1

abbrev pub WritesPhi : List ℕ → Function → ItemText → Phi → Type 0
WritesPhi source f (items.Phi name args) phi = (text_of source name ≡ assigned_text f phi.name) × AllZip (WritesArg source f) args phi.args
WritesPhi source f (items.Stmt name right) phi = ⊥

abbrev pub WritesStmt : List ℕ → Function → ItemText → Stmt → Type 0
WritesStmt source f (items.Phi name args) stmt = ⊥
WritesStmt source f (items.Stmt name right) stmt = (text_of source name ≡ assigned_text f stmt.name) × WritesForm source f
    (type_of_name f stmt.name) right.form stmt.rhs

abbrev pub WritesEnd : List ℕ → Function → Option EndText → End → Type 0
WritesEnd source f (Some (Goto to)) (ends.Goto number) = NamesBlock source to number
WritesEnd source f (Some (If code a b yes_to no_to)) (ends.If op x y when_true when_false) =
    (code ≡ op) × WritesOperand source f a x × WritesOperand source f b y × NamesBlock source yes_to when_true
    × NamesBlock source no_to when_false
WritesEnd source f (Some (Return a)) (ends.Return x) = WritesOperand source f a x
WritesEnd source f end other = ⊥

-- the phis, and after them the statements
pub record WritesBlock (source : List ℕ) (f : Function) (tree : BlockText) (block : Block) : Type 0 where
  pub number : text_of source tree.number ≡ decimal block.number
  pub phi_items : List ItemText
  pub stmt_items : List ItemText
  pub in_order : tree.items ≡ phi_items ++ stmt_items
  pub phis : AllZip (WritesPhi source f) phi_items block.phis
  pub stmts : AllZip (WritesStmt source f) stmt_items block.stmts
  pub end : WritesEnd source f tree.end block.end

abbrev pub WritesDecl : List ℕ → DeclText → Decl → Type 0
WritesDecl source tree decl = (text_of source tree.ident ≡ decl.ident) × (tree.ty ≡ decl.ty)

pub record Writes (source : List ℕ) (tree : FunctionText) (f : Function) : Type 0 where
  pub name : text_of source tree.name ≡ f.name
  pub result : tree.result ≡ f.result
  pub params : AllZip (WritesDecl source) tree.params f.params
  pub decls : AllZip (WritesDecl source) tree.decls f.decls
  pub blocks : AllZip (WritesBlock source f) tree.blocks f.blocks

-- a tree, and the well-formed function within the limits that it writes
pub record WritesWell (source : List ℕ) (tree : FunctionText) (f : Function) : Type 0 where
  pub writes : Writes source tree f
  pub well : IsWellFormed f
  pub within : IsWithinLimits f

pub all_write_well : (source : List ℕ) (trees : List FunctionText) (fs : List Function) → AllZip (Writes source) trees fs
    → AllByRecursion IsWellFormed fs → AllByRecursion IsWithinLimits fs → AllZip (WritesWell source) trees fs
all_write_well source [] [] written well limits = tt
all_write_well source [] (f ∷ fs) written well limits = absurd written
all_write_well source (tree ∷ trees) [] written well limits = absurd written
all_write_well source (tree ∷ trees) (f ∷ fs) written well limits =
    (record { writes = written.0; well = well.0; within = limits.0 }, all_write_well source trees fs written.1 well.1 limits.1)
