use Rattle.std.proofs.Common.{◌≡◌, ◌++◌, drop}
use Rattle.std.specs.Prelude.{option_map}
use Rattle.match_top.specs.Run.{arguments_of}
use Rattle.match_top.proofs.commands.run.arguments.Given as goal

-- the words so far stand before those of what is left
abbrev pub invariant-loop-at : goal.invariant-loop-at
invariant-loop-at l = arguments_of l.params l.values ≡ option_map (λ rest. l.args.items ++ rest) (arguments_of (drop l.at l.params) (drop l.at l.values))
