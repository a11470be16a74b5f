-- A file is refused for its first fault, or its first use that isn't readable.
use Rattle.match_top.proofs.FunctionLemmas.{refused_invalid, refused_fault}
use Rattle.match_top.proofs.functions.judged.Goals as goal

pub returns-in-Err-all_valid-clause-judges : goal.returns-in-Err-all_valid-clause-judges
returns-in-Err-all_valid-clause-judges c =
    refused_invalid c.args.source.now c.in-Ok.functions.items c.as_slice.result.now _ c.in-Ok.ensures.found c.as_slice.ensures.value c.in-Err-all_valid.ensures.invalid

pub returns-in-Err-clause-judges : goal.returns-in-Err-clause-judges
returns-in-Err-clause-judges c =
    refused_fault c.args.source.now c.in-Err.fault c.at_fault.result c.in-Err.ensures.refused c.at_fault.ensures
