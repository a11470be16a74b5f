use Rattle.std.proofs.Common.{◌^◌, ◌%◌, ◌∙◌}
use Rattle.justify.proofs.Comparisons.{tells_is}
use Rattle.justify.proofs.order.tells.Goals as goal

pub returns : goal.returns
returns c =
    tells_is c.args.code c.requires c.boolean.result c.args.number c.reduce-zero.result c.args.word (record {})
    (c.reduce-zero.ensures ∙ (λ i. record { bits = 0 % 2 ^ (c.ty.ensures.value i).width; ty = c.ty.ensures.value i })) c.op_value.result c.op_value.ensures.value c.gives.result c.gives.ensures
