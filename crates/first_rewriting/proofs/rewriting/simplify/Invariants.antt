use Rattle.std.proofs.Common.{◌-◌}
use Rattle.first_rewriting.specs.Rewriting.{rewriting_of}
use Rattle.first_patterns.specs.Matching.{row_at}
use Rattle.first_rewriting.specs.Typed.{IsTyped}
use Rattle.first_rewriting.proofs.Stepping.{Leads}
use Rattle.first_rewriting.proofs.rewriting.simplify.Given as goal

abbrev pub invariant-loop : goal.invariant-loop
invariant-loop l = record {
  leads : Leads l.rows l.firings (l.budget - l.counter) l.function (rewriting_of (row_at l.rows) l.budget l.fn.function);
  typed : IsTyped l.function;
}
