use Rattle.std.proofs.Common.{◌≡◌, ◌++◌, drop}
use Rattle.std.specs.List.{filter_map}
use Rattle.pred_inline.specs.Arguments.{renamed_param}
use Rattle.pred_inline.proofs.arguments.renamed_params.Given as goal

abbrev pub invariant-loop-name : goal.invariant-loop-name
invariant-loop-name l =
    l.made ++ filter_map (renamed_param l.params l.args) (drop l.name-index l.params)
    ≡ filter_map (renamed_param l.params l.args) l.params
