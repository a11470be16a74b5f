-- What the parts of a tree stand for: phis, statements, ends and blocks.
use Rattle.std.specs.Prelude.{ℕ, Option, Some, None, List, [], ◌∷◌, map}
use Rattle.std.specs.List.{flat_map}
use Rattle.pm_wide.specs.declared.operand.Operand.{Operand}
use Rattle.gim_ast.specs.declared.function.Block.{Block}
use Rattle.gim_ast.specs.declared.function.Decl.{Decl}
use Rattle.gim_ast.specs.declared.function.Phi.{Phi}
use Rattle.gim_ast.specs.declared.function.Stmt.{Stmt}
use Rattle.gim_ast.specs.declared.function.End.{End}
use Rattle.gim_ast.specs.declared.function.End.TheVariants as ends
use Rattle.pm_places.specs.declared.span.Span.{Span}
use Rattle.gim_text.specs.declared.tree.ArgText.{ArgText}
use Rattle.gim_text.specs.declared.tree.BlockText.{BlockText}
use Rattle.gim_text.specs.declared.tree.DeclText.{DeclText}
use Rattle.gim_text.specs.declared.tree.EndText.{EndText}
use Rattle.gim_text.specs.declared.tree.EndText.TheVariants.{Goto, If, Return}
use Rattle.gim_text.specs.declared.tree.ItemText.{ItemText}
use Rattle.gim_text.specs.declared.tree.ItemText.TheVariants as items
use Rattle.gim_text.specs.Texts.{block_digits}
use Rattle.pm_places.specs.Spans.{text_of}
use Rattle.gim_typing.specs.Declarations.{Declarations, version_of_name, number_of}
use Rattle.gim_typing.specs.Operands.{operand_of, rhs_of}

-- the number of the block that a `__BBn` names
abbrev pub block_number : List ℕ → Span → ℕ
block_number source at = number_of (block_digits (text_of source at))

abbrev pub arg_of : Declarations → ArgText → ℕ × Operand
arg_of known arg = (block_number known.source arg.from, operand_of known arg.operand)

-- the phi of an item, if it is one
abbrev pub phi_of : Declarations → ItemText → List Phi
phi_of known (items.Phi name args) = record { name = version_of_name known.source name; args = map (arg_of known) args } ∷ []
phi_of known (items.Stmt name right) = []

-- the statement of an item, if it is one
abbrev pub stmt_of : Declarations → ItemText → List Stmt
stmt_of known (items.Phi name args) = []
stmt_of known (items.Stmt name right) = record { name = version_of_name known.source name; rhs = rhs_of known right.form } ∷ []

-- A block without an end is taken to jump to block 0; the rules on shape let none pass.
abbrev pub end_of : Declarations → Option EndText → End
end_of known None = ends.Goto 0
end_of known (Some (Goto to)) = ends.Goto (block_number known.source to)
end_of known (Some (If code left right yes_to no_to)) =
    ends.If code (operand_of known left) (operand_of known right) (block_number known.source yes_to) (block_number known.source no_to)
end_of known (Some (Return a)) = ends.Return (operand_of known a)

abbrev pub block_of : Declarations → BlockText → Block
block_of known block = record {
  number = number_of (text_of known.source block.number);
  phis = flat_map (phi_of known) block.items;
  stmts = flat_map (stmt_of known) block.items;
  end = end_of known block.end;
}

abbrev pub decl_of : List ℕ → DeclText → Decl
decl_of source decl = record { ident = text_of source decl.ident; ty = decl.ty }
