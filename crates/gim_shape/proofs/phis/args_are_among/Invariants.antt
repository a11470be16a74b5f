use Rattle.std.proofs.Common.{◌≡◌, drop}
use Rattle.std.specs.List.{list_all}
use Rattle.gim_shape.specs.Tables.{has_text}
use Rattle.gim_shape.specs.Phis.{named_by_args}
use Rattle.gim_shape.proofs.phis.args_are_among.Given as goal

abbrev pub invariant-loop-arg : goal.invariant-loop-arg
invariant-loop-arg l =
    list_all (has_text l.set) (named_by_args l.source (drop l.arg-index l.args))
    ≡ list_all (has_text l.set) (named_by_args l.source l.args)
