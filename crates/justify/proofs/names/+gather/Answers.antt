use Rattle.std.proofs.Common.{◌≡◌, ◌<◌, ◌+◌, arith, sym, subst, length, drop}
use Rattle.pm_term.specs.TermTrees.{trees_of}
use Rattle.pm_term.specs.Trees.{names_of}
use Rattle.bit_tables.specs.Spots.{with_names}
use Rattle.bit_tables.proofs.NameLemmas.{walked}
use Rattle.justify.proofs.names.+gather.Goals as goal

pub gather_all-loop-term-preserved : goal.gather_all-loop-term-preserved
gather_all-loop-term-preserved t c =
    let inside : c.loop-term.term-index < length c.args.terms.now = omega arith in
    let e = walked c.loop-term.names c.args.names.now c.args.terms.now c.term-item.result c.loop-term.term-index inside c.term-item.is c.loop-term.invariant in
    subst (λ known. with_names known (names_of (trees_of (drop (c.loop-term.term-index + 1) c.args.terms.now))) ≡ with_names c.args.names.now (names_of (trees_of c.args.terms.now))) (sym c.in_ok-gather.ensures) e
