use Rattle.std.proofs.Common.{◌≡◌, ◌<◌, length, ap, sym, ◌∙◌, subst, arith}
use Rattle.gim_ssa.specs.Search.{Adds, AreWithin}
use Rattle.gim_ssa.specs.Reach.{next_to}
use Rattle.gim_ssa.proofs.ReachLemmas.{next_read, found_within, reaching_begins, reaching_goes_on, reaching_ends}
use Rattle.gim_ssa.proofs.reached.reach.Goals as goal

pub add_all-requires : goal.add_all-requires
add_all-requires c =
    let row : next_to c.args.nexts.now c.args.first ≡ c.as_slice.result.now =
    next_read c.args.nexts.now c.args.first c.index-nexts-first.result c.requires.within c.index-nexts-first.is ∙ sym c.as_slice.ensures in
    subst (AreWithin (length c.args.search.now.found)) row (λ q h. let below = c.requires.table c.args.first q h in omega (arith, below, c.requires.blank.size))

pub loop-place-init : goal.loop-place-init
loop-place-init c =
    let row : next_to c.args.nexts.now c.args.first ≡ c.as_slice.result.now =
    next_read c.args.nexts.now c.args.first c.index-nexts-first.result c.requires.within c.index-nexts-first.is ∙ sym c.as_slice.ensures in
    reaching_begins c.args.nexts.now c.args.first c.args.search.now c.add_all.new.self c.requires.blank
    (subst (λ l. Adds l c.args.search.now c.add_all.new.self) (sym row) c.in_ok-add_all.ensures)

pub add_all-requires-in-Some : goal.add_all-requires-in-Some
add_all-requires-in-Some c =
    let s = c.loop-place.invariant.searching in
    let waited = found_within c.loop-place.search c.in-Some.place (s.found_first c.in-Some.place c.in-Some.ensures.waited) in
    let inside : c.in-Some.place < length c.args.nexts.now = omega (arith, waited, c.loop-place.invariant.size) in
    let row : next_to c.args.nexts.now c.in-Some.place ≡ c.as_slice-in-Some.result.now =
    next_read c.args.nexts.now c.in-Some.place c.index-nexts-place.result inside c.index-nexts-place.is ∙ sym c.as_slice-in-Some.ensures in
    let same = ap length c.in-Some.ensures.found in
    subst (AreWithin (length c.take.new.self.found)) row (λ q h. let below = c.requires.table c.in-Some.place q h in
    omega (arith, below, same, c.loop-place.invariant.size))

pub loop-place-preserved : goal.loop-place-preserved
loop-place-preserved c =
    let s = c.loop-place.invariant.searching in
    let waited = found_within c.loop-place.search c.in-Some.place (s.found_first c.in-Some.place c.in-Some.ensures.waited) in
    let inside : c.in-Some.place < length c.args.nexts.now = omega (arith, waited, c.loop-place.invariant.size) in
    let row : next_to c.args.nexts.now c.in-Some.place ≡ c.as_slice-in-Some.result.now =
    next_read c.args.nexts.now c.in-Some.place c.index-nexts-place.result inside c.index-nexts-place.is ∙ sym c.as_slice-in-Some.ensures in
    reaching_goes_on c.args.nexts.now c.args.first c.loop-place.search c.take.new.self c.add_all-in-Some.new.self c.in-Some.place
    c.loop-place.invariant c.in-Some.ensures (subst (λ l. Adds l c.take.new.self c.add_all-in-Some.new.self) (sym row) c.in_ok-add_all-2.ensures)

pub returns : goal.returns
returns c = record { reached = reaching_ends c.args.nexts.now c.args.first c.loop-place.search c.take.new.self c.loop-place.invariant c.in_default.ensures }
