use Rattle.std.proofs.Common.{◌≡◌, ◌≤◌, drop}
use Rattle.lexing.specs.Numbers.{capped}
use Rattle.first_gimple.proofs.numbers.capped.Given as goal

abbrev pub invariant-loop-digit : goal.invariant-loop-digit
invariant-loop-digit l = (capped l.limit l.value (drop l.digit-index l.digits) ≡ capped l.limit 0 l.digits) × (l.value ≤ l.limit)
