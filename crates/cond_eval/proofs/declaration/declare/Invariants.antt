use Rattle.std.proofs.Common.{◌≡◌, drop}
use Rattle.cond_eval.specs.Declarations.{locals_after}
use Rattle.cond_eval.specs.Environments.{AreValues}
use Rattle.cond_eval.proofs.declaration.declare.Given as goal

abbrev pub invariant-loop-decl : goal.invariant-loop-decl
invariant-loop-decl l =
    (locals_after (drop l.decl-index l.decls) l.env ≡ locals_after l.decls l.fn.env)
    × AreValues l.env.locals
