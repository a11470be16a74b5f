use Rattle.std.proofs.Common.{◌≡◌, take}
use Rattle.pd_substitution.specs.Operators.{operators_of_decls}
use Rattle.pd_substitution.proofs.operators.operators_of_decls.Given as goal

abbrev pub invariant-loop-decl : goal.invariant-loop-decl
invariant-loop-decl l = l.made ≡ operators_of_decls (take l.decl-index l.decls)
