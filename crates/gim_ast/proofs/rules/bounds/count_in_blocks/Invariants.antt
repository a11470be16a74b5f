use Rattle.std.proofs.Common.{◌≡◌, drop}
use Rattle.gim_ast.specs.RulesByPart.{count_in_blocks}
use Rattle.gim_ast.proofs.rules.bounds.count_in_blocks.Given as goal

abbrev pub invariant-loop-block : goal.invariant-loop-block
invariant-loop-block l = count_in_blocks l.total (drop l.block-index l.blocks) ≡ count_in_blocks l.count l.blocks
