-- What occurs in a part of a tree occurs in the tree.
use Rattle.std.proofs.Common.{◌≡◌, Some, List, ◌∷◌, ◌++◌, map, refl, ap, subst, inl, inr}
use Rattle.std.specs.List.{flat_map}
use Rattle.pm_places.specs.declared.span.Span.{Span}
use Rattle.gim_text.specs.declared.tree.ArgText.{ArgText}
use Rattle.gim_text.specs.declared.tree.BlockText.{BlockText}
use Rattle.gim_text.specs.declared.tree.DeclText.{DeclText}
use Rattle.gim_text.specs.declared.tree.FunctionText.{FunctionText}
use Rattle.gim_text.specs.declared.tree.ItemText.{ItemText}
use Rattle.gim_text.specs.declared.tree.ItemText.TheVariants as items
use Rattle.gim_text.specs.declared.tree.OperandText.{OperandText}
use Rattle.gim_text.specs.declared.tree.OperandText.TheVariants as operands
use Rattle.gim_text.specs.declared.occurrence.Occurrence.{Occurrence}
use Rattle.gim_text.specs.declared.occurrence.Occurrence.TheVariants.{Parameter, Local, Block, Jump, Assigned, Used, Default, Constant}
use Rattle.gim_text.specs.Occurrences.{occurrence_of_parameter, occurrence_of_local, occurrence_of_operand}
use Rattle.gim_text.specs.Occurrences.{occurrences_of_argument, occurrences_of_item, operands_in_end}
use Rattle.gim_text.specs.Occurrences.{targets_in_end, occurrences_of_end, occurrences_of_block, occurrences_of}
use Rattle.gim_text.specs.Occurrences.{operand_at}
use Rattle.gim_making.specs.Written.{operands_in}
use Rattle.gim_text.proofs.Membership.{Has, has_left, has_right, has_map, has_flat, from_said}

pub in_tree : (tree : FunctionText) (block : BlockText) (o : Occurrence) → Has tree.blocks block
    → Has (occurrences_of_block block) o → Has (occurrences_of tree) o
in_tree tree block o there h =
    has_right (map occurrence_of_parameter tree.params ++ map occurrence_of_local tree.decls)
    (flat_map occurrences_of_block tree.blocks) o (has_flat occurrences_of_block tree.blocks block o there h)

pub number_occurs : (tree : FunctionText) (block : BlockText) → Has tree.blocks block → Has (occurrences_of tree) (Block block.number)
number_occurs tree block there = in_tree tree block (Block block.number) there (inl refl)

pub in_item : (tree : FunctionText) (block : BlockText) (item : ItemText) (o : Occurrence) → Has tree.blocks block
    → Has block.items item → Has (occurrences_of_item item) o → Has (occurrences_of tree) o
in_item tree block item o there in_block h =
    in_tree tree block o there (has_left (Block block.number ∷ flat_map occurrences_of_item block.items)
    (occurrences_of_end block.end) o (inr (has_flat occurrences_of_item block.items item o in_block h)))

pub target_occurs : (tree : FunctionText) (block : BlockText) (at : Span) → Has tree.blocks block
    → Has (targets_in_end block.end) at → Has (occurrences_of tree) (Jump at)
target_occurs tree block at there h =
    in_tree tree block (Jump at) there (has_right (Block block.number ∷ flat_map occurrences_of_item block.items)
    (occurrences_of_end block.end) (Jump at)
    (has_right (map occurrence_of_operand (operands_in_end block.end)) (map Jump (targets_in_end block.end)) (Jump at)
    (has_map Jump (targets_in_end block.end) at h)))

pub argument_occurs : (tree : FunctionText) (block : BlockText) (name : Span) (args : List ArgText) (arg : ArgText)
    → Has tree.blocks block → Has block.items (items.Phi name args) → Has args arg
    → Has (occurrences_of tree) (Jump arg.from)
argument_occurs tree block name args arg there in_block h =
    in_item tree block (items.Phi name args) (Jump arg.from) there in_block
    (inr (has_flat occurrences_of_argument args arg (Jump arg.from) h (inl refl)))

pub local_occurs : (tree : FunctionText) (decl : DeclText) → Has tree.decls decl → Has (occurrences_of tree) (Local decl.ident)
local_occurs tree decl there =
    has_left (map occurrence_of_parameter tree.params ++ map occurrence_of_local tree.decls)
    (flat_map occurrences_of_block tree.blocks) (Local decl.ident)
    (has_right (map occurrence_of_parameter tree.params) (map occurrence_of_local tree.decls) (Local decl.ident)
    (has_map occurrence_of_local tree.decls decl there))

some_is : (x y : OperandText) → Some x ≡ Some y → x ≡ y
some_is x y e = cc

operand_is : (o : Occurrence) (a : OperandText) → operand_at o ≡ Some a → o ≡ occurrence_of_operand a
operand_is (Used at) a e = ap occurrence_of_operand (some_is (operands.Name at) a e)
operand_is (Default at) a e = ap occurrence_of_operand (some_is (operands.Default at) a e)
operand_is (Constant literal) a e = ap occurrence_of_operand (some_is (operands.Literal literal) a e)
operand_is (Parameter at) a e = absurd cc
operand_is (Local at) a e = absurd cc
operand_is (Block at) a e = absurd cc
operand_is (Jump at) a e = absurd cc
operand_is (Assigned at) a e = absurd cc

pub operand_occurs : (tree : FunctionText) (a : OperandText) → Has (operands_in tree) a
    → Has (occurrences_of tree) (occurrence_of_operand a)
operand_occurs tree a there = let r = from_said operand_at (occurrences_of tree) a there in
    subst (Has (occurrences_of tree)) (operand_is r.0 a r.2) r.1
