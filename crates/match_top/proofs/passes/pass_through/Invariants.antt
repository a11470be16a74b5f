use Rattle.std.proofs.Common.{take}
use Rattle.std.specs.Prelude.{All, IsTrue}
use Rattle.gim_ast.specs.declared.function.Function.{Function}
use Rattle.gim_ast.specs.WellFormed.{names_rise}
use Rattle.match_top.specs.Passes.{AllBecome}
use Rattle.match_top.proofs.passes.pass_through.Given as goal

-- the functions so far became these, with these lines
abbrev pub invariant-loop-function : goal.invariant-loop-function
invariant-loop-function l = record {
  passed : AllBecome l.pass (take l.function-index l.functions) l.changed l.report;
  rise : All (λ (f : Function). IsTrue (names_rise f)) l.changed;
}
