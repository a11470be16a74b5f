use Rattle.gim_reader.proofs.Stages.{trees_only, trees_refused}
use Rattle.gim_reader.proofs.from_tokens.Goals as goal

pub returns-clause-only : goal.returns-clause-only
returns-clause-only c =
    trees_only c.args.source.now c.args.tokens.now c.in_ok-trees.trees c.as_slice.result.now c.functions.result
    c.as_slice.ensures c.in_ok-trees.ensures.only c.functions.ensures.judged c.functions.ensures.stand

pub returns-clause-refused : goal.returns-clause-refused
returns-clause-refused c =
    trees_refused c.args.source.now c.args.tokens.now c.in_ok-trees.trees c.as_slice.result.now c.functions.result
    c.as_slice.ensures c.in_ok-trees.ensures.found c.functions.ensures.judged
