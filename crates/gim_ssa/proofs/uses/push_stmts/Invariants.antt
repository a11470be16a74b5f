use Rattle.std.proofs.Common.{◌≡◌, ◌+◌, ◌++◌, map, drop}
use Rattle.gim_ast.specs.Readable.{uses_in_stmts}
use Rattle.gim_ssa.specs.Uses.{seen}
use Rattle.gim_ssa.proofs.uses.push_stmts.Given as goal

abbrev pub invariant-loop-before : goal.invariant-loop-before
invariant-loop-before l = record {
  counted : l.item ≡ l.fn.item + l.before;
  uses : l.uses.items ++ map seen (uses_in_stmts l.block l.item (drop l.before l.stmts)) ≡ l.fn.uses.items ++ map seen (uses_in_stmts l.block l.fn.item l.stmts);
}
