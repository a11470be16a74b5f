use Rattle.std.proofs.Common.{◌≡◌, ◌<◌, ◌+◌, length, arith, get_or, drop, subst, sym}
use Rattle.ring_forms.specs.Forms.{with_atom, joined_atoms}
use Rattle.ring_forms.specs.Places.{atom_place}
use Rattle.ring_forms.proofs.FormLemmas.{with_atom_at, joined_step}
use Rattle.ring_forms.proofs.arithmetic.joined.Goals as goal

pub loop-atom-preserved : goal.loop-atom-preserved
loop-atom-preserved c =
    let i = c.loop-atom.atom-index in
    let inside : c.loop-atom.atom-index < length c.args.first.now = omega arith in
    let place : c.place_of_atom-place.result ≡ atom_place (get_or c.args.first.now c.loop-atom.atom-index 0) c.loop-atom.atoms = cc (c.place_of_atom-place.ensures.value, c.as_slice.ensures) in
    let moved = with_atom_at (get_or c.args.first.now c.loop-atom.atom-index 0) c.loop-atom.atoms in
    let is : c.insert.new.self ≡ with_atom (get_or c.args.first.now c.loop-atom.atom-index 0) c.loop-atom.atoms = cc (c.in_ok-insert.ensures.ok, place, moved) in
    subst (λ bs. joined_atoms (drop (c.loop-atom.atom-index + 1) c.args.first.now) bs ≡ joined_atoms c.args.first.now c.args.second.now) (sym is)
    (joined_step c.args.first.now c.loop-atom.atoms (joined_atoms c.args.first.now c.args.second.now) c.loop-atom.atom-index inside c.loop-atom.invariant)
