use Rattle.std.proofs.Common.{take, sym, subst, arith}
use Rattle.value_numbers.specs.Candidates.{IsLeastAmong}
use Rattle.value_numbers.proofs.SpotLists.{take_one_more}
use Rattle.value_numbers.proofs.TakenNames.{spot_read, as_many}
use Rattle.value_numbers.proofs.merges.least.Goals as goal

pub lesser-requires-clause-there : goal.lesser-requires-clause-there
lesser-requires-clause-there c =
    let one = spot_read c.args.function.now c.args.places.now c.requires.places.0 c.requires.places.1 c.loop-other.other-index _ (omega arith) in
    (one.0, one.1)

pub loop-other-preserved : goal.loop-other-preserved
loop-other-preserved c = record {
  reading = c.in_ok-found.ensures.reading;
  least = λ spot spots here are.
      let f = c.args.function.now in
      let one = spot_read f c.args.places.now spots are c.loop-other.other-index _ (omega arith) in
      subst (λ l. IsLeastAmong f spot l c.in_ok-found.found) (sym (take_one_more spots c.loop-other.other-index one.0 one.2))
      (c.in_ok-found.ensures.lesser spot one.0 (take c.loop-other.other-index spots) here one.1 (c.loop-other.invariant.least spot spots here are));
}

pub returns-clause-least : goal.returns-clause-least
returns-clause-least c = λ spot spots here are.
    let f = c.args.function.now in
    subst (λ l. IsLeastAmong f spot l c.loop-other.found) (as_many f c.args.places.now spots are c.loop-other.other-index (omega arith))
    (c.loop-other.invariant.least spot spots here are)
