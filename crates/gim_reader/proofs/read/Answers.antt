use Rattle.std.proofs.Common.{arith}
use Rattle.gim_reader.proofs.Stages.{well_formed, from_refused}
use Rattle.gim_reader.proofs.WithinSource.{refused_within}
use Rattle.gim_reader.proofs.read.Goals as goal

pub returns-clause-refused : goal.returns-clause-refused
returns-clause-refused c =
    from_refused c.args.source.now c.in_ok-tokens.tokens.items c.as_slice.result.now c.from_tokens.result
    (omega (arith, c.if-source-gt-FILE_LIMIT.false)) c.in_ok-tokens.ensures.found c.as_slice.ensures.value
    c.from_tokens.ensures.refused

pub returns-clause-well_formed : goal.returns-clause-well_formed
returns-clause-well_formed c =
    well_formed c.args.source.now c.in_ok-tokens.tokens.items c.as_slice.result.now c.from_tokens.result
    (omega (arith, c.if-source-gt-FILE_LIMIT.false)) c.in_ok-tokens.ensures.found c.as_slice.ensures.value
    c.from_tokens.ensures.found

pub returns-clause-within : goal.returns-clause-within
returns-clause-within c = refused_within c.args.source.now c.from_tokens.result (returns-clause-refused c)
