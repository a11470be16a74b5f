use Rattle.std.proofs.Common.{◌-◌, length, sym, arith}
use Rattle.first_patterns.specs.Reading.{rows_of}
use Rattle.std.proofs.lemmas.Bool.{eqb-true}
use Rattle.first_patterns.proofs.Loop.{begins, goes_on, no_row, is_done, too_many, shorter, at_most}
use Rattle.first_patterns.proofs.reading.all_rows.Goals as goal

pub loop-init : goal.loop-init
loop-init c =
    let source = c.args.source.now in
    record {
      read = rw (c.new-rows.ensures, c.after_gap-rest.ensures) (begins source);
      within = rw c.after_gap-rest.ensures (at_most source);
    }

pub returns-then-is_empty : goal.returns-then-is_empty
returns-then-is_empty c =
    let source = c.args.source.now in
    let rest = c.loop.rest.now in
    is_done c.loop.rows (65536 - c.loop.counter) (length source) rest (rows_of source) (eqb-true _ _ (sym c.if-is_empty.ensures)) c.loop.invariant.read

pub returns-in_default : goal.returns-in_default
returns-in_default c =
    let source = c.args.source.now in
    let rest = c.loop.rest.now in
    no_row c.loop.rows 65536 c.loop.counter (length source) rest (rows_of source) c.loop-test.true (sym c.if-is_empty.ensures) c.in_default.ensures c.loop.invariant.read

pub loop-preserved : goal.loop-preserved
loop-preserved c =
    let source = c.args.source.now in
    let rest = c.loop.rest.now in
    record {
      read = rw (c.in_ok-push.ensures.ok, c.after_gap-rest-in-loop.ensures) (goes_on c.loop.rows 65536 c.loop.counter (length source) rest c.in-Some.row c.in-Some.behind.now (rows_of source) c.loop-test.true (sym c.if-is_empty.ensures) c.in-Some.ensures c.loop.invariant.read);
      within = rw c.after_gap-rest-in-loop.ensures (omega (arith, c.loop.invariant.within, shorter (length source - length rest) rest (c.in-Some.row, c.in-Some.behind.now) c.in-Some.ensures));
    }

pub returns-then-is_empty-2 : goal.returns-then-is_empty-2
returns-then-is_empty-2 c =
    let source = c.args.source.now in
    let rest = c.loop.rest.now in
    is_done c.loop.rows (65536 - c.loop.counter) (length source) rest (rows_of source) (eqb-true _ _ (sym c.if-is_empty-2.ensures)) c.loop.invariant.read

pub returns-else-is_empty-2 : goal.returns-else-is_empty-2
returns-else-is_empty-2 c =
    let source = c.args.source.now in
    too_many c.loop.rows 65536 c.loop.counter (length source) c.loop.rest.now (rows_of source) c.loop-test.false (sym c.if-is_empty-2.ensures) c.loop.invariant.read
