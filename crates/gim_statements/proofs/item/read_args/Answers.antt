-- What the search leaves of the contract of `read_args`.
use Rattle.std.proofs.Common.{Ok, ◌++◌, [], ◌∷◌, sym, ◌∙◌}
use Rattle.grammar.specs.declared.stop.Stop.TheVariants as variants
use Rattle.grammar.proofs.Loops.{stops_whole}
use Rattle.grammar.proofs.ItemLoops.{stops, ends}
use Rattle.gim_words.specs.TokenReaders.{is_comma}
use Rattle.gim_statements.specs.ItemReaders.{further_arg_at, args_at}
use Rattle.gim_statements.proofs.item.read_args.Goals as goal

pub returns-clause-reads : goal.returns-clause-reads
returns-clause-reads c =
    ends is_comma further_arg_at (args_at c.args.tokens.now) c.loop-rest.args c.loop-rest.rest.now c.loop-rest.invariant.0
    (sym c.begins_further.ensures ∙ c.loop-rest-test.false)

pub returns-in-Err-read_further-clause-reads : goal.returns-in-Err-read_further-clause-reads
returns-in-Err-read_further-clause-reads c =
    let args = c.loop-rest.args in
    let rest = c.loop-rest.rest.now in
    let stop = variants.Fault c.in-Err-read_further.fault in
    rw c.into-in-Err-read_further.ensures
    (stops is_comma further_arg_at (args_at c.args.tokens.now) args rest c.loop-rest.invariant.0 (sym c.begins_further.ensures ∙ c.loop-rest-test.true)
    stop (stops_whole stop (further_arg_at rest) (λ x. Ok (args ++ x.0 ∷ [], x.1)) c.in-Err-read_further.ensures.reads))
