use Rattle.std.proofs.Common.{◌≡◌, insert, ap, ◌∙◌}
use Rattle.ring_forms.specs.Polynomials.{stopped_rank, ranked_place}
use Rattle.ring_forms.proofs.RankOrder.{ranked_in_at}
use Rattle.ring_forms.proofs.poly.put_in.Goals as goal

pub returns : goal.returns
returns c =
    let place : c.in_ok-place.place ≡ ranked_place (stopped_rank c.args.part.atoms) c.args.made.now = cc (c.in_ok-place.ensures.value, c.as_slice-3.ensures, c.as_slice-2.ensures, c.in_ok-rank.ensures, c.as_slice.ensures) in
    c.in_ok-insert.ensures.ok ∙ ap (λ k. insert c.args.made.now k c.args.part) place ∙ ranked_in_at c.args.part c.args.made.now
