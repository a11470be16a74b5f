use Rattle.std.proofs.Common.{◌≡◌, ◌<◌, ◌+◌, arith, sym, ap, subst, length, drop}
use Rattle.pm_term.specs.TermTrees.{tree_of, trees_of}
use Rattle.pm_term.specs.Trees.{names_in, names_of}
use Rattle.bit_tables.specs.Spots.{with_names}
use Rattle.bit_tables.proofs.NameLemmas.{walked, with_names_longer}
use Rattle.bit_tables.proofs.names.+gather.Goals as goal

pub gather_all-returns-then-not-gather : goal.gather_all-returns-then-not-gather
gather_all-returns-then-not-gather t c =
    let inside : c.loop-term.term-index < length c.args.terms.now = omega arith in
    let e = walked c.loop-term.names.items c.args.names.now.items c.args.terms.now c.term-item.result c.loop-term.term-index inside c.term-item.is c.loop-term.invariant in
    let many = c.if-not-gather.ensures in
    let more = with_names_longer (with_names c.loop-term.names.items (names_in (tree_of c.term-item.result))) (names_of (trees_of (drop (c.loop-term.term-index + 1) c.args.terms.now))) in
    omega (arith, many, more, ap length e)

pub gather_all-loop-term-preserved : goal.gather_all-loop-term-preserved
gather_all-loop-term-preserved t c =
    let inside : c.loop-term.term-index < length c.args.terms.now = omega arith in
    let e = walked c.loop-term.names.items c.args.names.now.items c.args.terms.now c.term-item.result c.loop-term.term-index inside c.term-item.is c.loop-term.invariant in
    subst (λ known. with_names known (names_of (trees_of (drop (c.loop-term.term-index + 1) c.args.terms.now))) ≡ with_names c.args.names.now.items (names_of (trees_of c.args.terms.now))) (sym c.if-not-gather.ensures) e
