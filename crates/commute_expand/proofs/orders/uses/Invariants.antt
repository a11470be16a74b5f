use Rattle.std.proofs.Common.{◌≡◌, map, take}
use Rattle.pd_ast.specs.declared.pattern.Pat.TheVariants as pat
use Rattle.commute_expand.proofs.orders.uses.Given as goal

abbrev pub invariant-loop-args : goal.invariant-loop-args
invariant-loop-args l = l.made ≡ map (λ args. pat.Call l.name args l.cap) (take l.args-index l.lists)
