use Rattle.std.proofs.Common.{◌≡◌, drop}
use Rattle.gim_ast.specs.Runs.{argument_of}
use Rattle.gim_run.proofs.start.argument.Given as goal

-- what is left finds what the whole does
abbrev pub invariant-loop-at : goal.invariant-loop-at
invariant-loop-at l = argument_of l.ident (drop l.at l.params) (drop l.at l.args) ≡ argument_of l.ident l.params l.args
