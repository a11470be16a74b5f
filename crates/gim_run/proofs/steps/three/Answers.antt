use Rattle.std.proofs.Common.{[], ◌∷◌}
use Rattle.gim_run.proofs.SlotLemmas.{words_typed, three_typed}
use Rattle.gim_run.proofs.steps.three.Goals as goal

pub op_value-requires : goal.op_value-requires
op_value-requires c =
    three_typed c.args.code c.args.ty _ _ _ c.word-a.result c.word-b.result c.word-c.result c.word-a.ensures c.word-b.ensures c.word-c.ensures
    (words_typed c.args.function.now c.args.slots.now c.args.code c.args.ty (c.args.a ∷ c.args.b ∷ c.args.c ∷ []) c.requires.slots c.requires.known c.requires.typed)
