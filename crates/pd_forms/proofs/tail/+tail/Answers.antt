-- What the search leaves of the contracts of the readers of tails.
use Rattle.std.proofs.Common.{subst, sym, arith}
use Rattle.grammar.specs.Gives.{GivesInMemory}
use Rattle.pd_forms.specs.Tails.{tail_of}
use Rattle.pd_forms.specs.TailReaders.{tails_at}
use Rattle.pd_forms.proofs.Depths.{one_deeper}
use Rattle.pd_forms.proofs.tail.+tail.Goals as goal

pub read_within-returns-clause-reads : goal.read_within-returns-clause-reads
read_within-returns-clause-reads t c =
    subst (λ answer. GivesInMemory (λ x. (tail_of x.0, x.1.now)) c.read_any.result answer)
    (sym (one_deeper (λ k. tails_at k c.args.symbols.now) c.args.room (omega (arith, c.requires.roomy)))) c.read_any.ensures.reads
