use Rattle.std.proofs.Common.{[], ◌∷◌, sym, subst}
use Rattle.std.specs.Prelude.{IsTrue}
use Rattle.pm_wide.specs.Typing.{well_typed_operation}
use Rattle.gim_run.proofs.SlotLemmas.{words_typed}
use Rattle.gim_run.proofs.steps.one.Goals as goal

pub op_value-requires : goal.op_value-requires
op_value-requires c =
    subst (λ w. IsTrue (well_typed_operation c.args.code c.args.ty (w.ty ∷ []))) (sym c.word.ensures)
    (words_typed c.args.function.now c.args.slots.now c.args.code c.args.ty (c.args.a ∷ []) c.requires.slots c.requires.known c.requires.typed)
