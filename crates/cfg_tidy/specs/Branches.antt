-- Branches: an `if` whose way is known becomes a jump.
use Rattle.std.specs.Prelude.{ℕ, ◌==◌, Bool, not, ◌&&◌, if◌then◌else◌, false, Option, Some, None, List, [], ◌∷◌, filter, map}
use Rattle.std.specs.Option.{option_map, option_map_or}
use Rattle.pm_ops.specs.declared.code.Code.{Code}
use Rattle.pm_wide.specs.Types.{Word, bool_type}
use Rattle.pm_wide.specs.Typing.{well_typed_operation}
use Rattle.pm_wide.specs.Operations.{operation_value}
use Rattle.pm_wide.specs.declared.operand.Operand.{Operand}
use Rattle.pm_wide.specs.declared.operand.Operand.TheVariants.{Name, Const}
use Rattle.gim_ast.specs.declared.function.Function.{Function}
use Rattle.gim_ast.specs.declared.function.Block.{Block}
use Rattle.gim_ast.specs.declared.function.Phi.{Phi}
use Rattle.gim_ast.specs.declared.function.End.{End}
use Rattle.gim_ast.specs.declared.function.End.TheVariants.{Goto, If, Return}
use Rattle.gim_ast.specs.Functions.{targets_of}
use Rattle.gim_ast.specs.WellFormed.{is_among}

-- what the first element of a list gives that gives something
abbrev pub first_some : {X Y : Type 0} → (X → Option Y) → List X → Option Y
first_some f [] = None
first_some f (x ∷ xs) = option_map_or Some (f x) (first_some f xs)

-- ---- which way is known

-- a comparison of words holds. In a well-formed function each is well typed
abbrev pub holds_of : Code → Word → Word → Bool
holds_of code v w = option_map_or (λ (r : Word). r.bits == 1) (operation_value code bool_type (v ∷ w ∷ [])) false

unfoldable pub compared : Code → Word → Word → Option Bool
compared code v w = if well_typed_operation code bool_type (v.ty ∷ w.ty ∷ []) then Some (holds_of code v w) else None

-- whether a comparison of two constants holds
abbrev pub decided : Code → Operand → Operand → Option Bool
decided code (Const v) (Const w) = compared code v w
decided code (Const v) (Name y u) = None
decided code (Name x t) b = None

-- where an `if` always leads: on two constants, or with two equal targets
abbrev pub known_target : End → Option ℕ
known_target (Goto to) = None
known_target (If code left right yes_to no_to) =
    if yes_to == no_to then Some yes_to else option_map (λ b. if b then yes_to else no_to) (decided code left right)
known_target (Return a) = None

-- the first block in program order that ends in such an `if`: its number, its end, and where that leads
abbrev pub branch_of : Block → Option (ℕ × End × ℕ)
branch_of block = option_map (λ to. (block.number, block.end, to)) (known_target block.end)

abbrev pub first_branch : List Block → Option (ℕ × End × ℕ)
first_branch = first_some branch_of

-- ---- what the function is then

-- the argument is for another block
abbrev pub arg_stays : ℕ → ℕ × Operand → Bool
arg_stays n arg = not (arg.0 == n)

-- the phi without its argument for a block
abbrev pub without_arg : ℕ → Phi → Phi
without_arg n phi = record phi { args = filter (arg_stays n) phi.args }

-- the end led to that block, and doesn't any more where it leads to one target alone
abbrev pub is_lost : End → ℕ → ℕ → Bool
is_lost end to m = is_among m (targets_of end) && not (m == to)

-- block n, which had that end, jumps to one target alone. The block that it doesn't jump to any more has no argument for it
abbrev pub branched_in_block : ℕ → End → ℕ → Block → Block
branched_in_block n end to block = record block {
  phis = if is_lost end to block.number then map (without_arg n) block.phis else block.phis;
  end = if block.number == n then Goto to else block.end;
}

unfoldable pub branched : ℕ → End → ℕ → Function → Function
branched n end to f = record f { blocks = map (branched_in_block n end to) f.blocks }
