use Rattle.first_rewriting.proofs.Keeping.{stepped_agrees}
use Rattle.first_rewriting.proofs.laws.steps_keep_types.Goals as goal

pub returns : goal.returns
returns c = λ rows f found keep h is.
    let kept = stepped_agrees h.ty rows keep f (record { names = h.names; blocks = h.blocks }) found.0 found.1 is in
    record { ty = h.ty; names = kept.names; blocks = kept.blocks }
