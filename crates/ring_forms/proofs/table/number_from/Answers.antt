use Rattle.std.proofs.Common.{◌≡◌, ◌<◌, length, arith}
use Rattle.ring_forms.proofs.AtomLemmas.{found_here, found_later}
use Rattle.ring_forms.proofs.DigestLemmas.{found_nowhere}
use Rattle.ring_forms.proofs.table.number_from.Goals as goal

pub returns-then-is_same-clause-value : goal.returns-then-is_same-clause-value
returns-then-is_same-clause-value c =
    let inside : c.loop-i.i < length c.args.atoms.now = omega arith in
    found_here c.args.atoms.now c.args.atom.now c.index-atoms-i.result c.loop-i.i _ inside c.index-atoms-i.is (c.is_same.ensures.0 c.if-is_same.true) c.loop-i.invariant

pub loop-i-preserved : goal.loop-i-preserved
loop-i-preserved c =
    let inside : c.loop-i.i < length c.args.atoms.now = omega arith in
    let other : c.index-atoms-i.result ≡ c.args.atom.now → ⊥ = λ e. (let h = c.is_same.ensures.1 e in let g = c.if-is_same.false in cc) in
    found_later c.args.atoms.now c.args.atom.now c.index-atoms-i.result c.loop-i.i _ inside c.index-atoms-i.is other c.loop-i.invariant

pub returns-clause-value : goal.returns-clause-value
returns-clause-value c = found_nowhere c.args.atoms.now c.args.atom.now c.loop-i.i (omega arith) c.loop-i.invariant
