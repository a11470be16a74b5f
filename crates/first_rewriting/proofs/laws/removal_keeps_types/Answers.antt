use Rattle.first_rewriting.proofs.Typings.{tidied_kept}
use Rattle.first_rewriting.proofs.laws.removal_keeps_types.Goals as goal

pub returns : goal.returns
returns c = λ f h.
    let kept = tidied_kept h.ty f (record { names = h.names; blocks = h.blocks }) in
    record { ty = h.ty; names = kept.names; blocks = kept.blocks }
