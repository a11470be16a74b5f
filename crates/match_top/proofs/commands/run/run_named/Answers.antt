use Rattle.match_top.proofs.RunLemmas.{found_valid}
use Rattle.match_top.proofs.commands.run.run_named.Goals as goal

pub outcome-requires-clause-valid : goal.outcome-requires-clause-valid
outcome-requires-clause-valid c = found_valid c.as_str-name.result.now c.args.functions.now c.in-Some.function.now c.in-Some.ensures c.requires
