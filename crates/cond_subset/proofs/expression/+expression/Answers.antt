-- What the search leaves of the contracts of the readers of expressions.
use Rattle.std.proofs.Common.{subst, sym, arith}
use Rattle.grammar.specs.Gives.{GivesInMemory}
use Rattle.cond_subset.specs.Trees.{expr_of}
use Rattle.cond_subset.proofs.Depths.{one_deeper}
use Rattle.cond_subset.proofs.expression.+expression.Goals as goal

pub read_within-returns-clause-reads : goal.read_within-returns-clause-reads
read_within-returns-clause-reads t c =
    subst (λ answer. GivesInMemory (λ x. (expr_of x.0, x.1.now)) c.read_ranked.result answer)
    (sym (one_deeper c.args.room c.args.rank c.args.symbols.now (omega (arith, c.requires.roomy)))) c.read_ranked.ensures.reads
