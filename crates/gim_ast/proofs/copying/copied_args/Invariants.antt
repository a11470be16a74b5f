use Rattle.std.proofs.Common.{◌≡◌, take}
use Rattle.gim_ast.proofs.copying.copied_args.Given as goal

abbrev pub invariant-loop-arg : goal.invariant-loop-arg
invariant-loop-arg l = l.copied ≡ take l.arg-index l.args
