use Rattle.std.proofs.Common.{◌≡◌, take, map}
use Rattle.gim_making.specs.Trees.{arg_of}
use Rattle.gim_making.proofs.making.args.Given as goal

abbrev pub invariant-loop-arg : goal.invariant-loop-arg
invariant-loop-arg l = l.list ≡ map (arg_of l.scope) (take l.arg-index l.args)
