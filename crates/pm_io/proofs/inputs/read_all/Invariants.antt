use Rattle.std.proofs.Common.{◌≡◌, ◌≤◌, ◌-◌, ◌++◌, length, true, Some, [], ◌∷◌}
use Rattle.std.specs.Prelude.{IfSome}
use Rattle.pm_io.specs.Taking.{followed_by}
use Rattle.pm_io.proofs.inputs.read_all.Given as goal

-- the file is what was read and what is left
abbrev pub invariant-loop-bytes : goal.invariant-loop-bytes
invariant-loop-bytes g l = record {
  begun : (g.I.Inputs.state l.inputs).begun ≡ true;
  asked : (g.I.Inputs.state l.inputs).asked ≡ followed_by (g.I.Inputs.state l.fn.inputs).asked (l.name ∷ []);
  holds : (g.I.Inputs.state l.inputs).holds ≡ (g.I.Inputs.state l.fn.inputs).holds;
  later : (g.I.Inputs.state l.fn.inputs).faults ≤ (g.I.Inputs.state l.inputs).faults;
  file : IfSome (g.I.Inputs.state l.inputs).holds (λ held. held l.name ≡ Some (l.bytes.items ++ (g.I.Inputs.state l.inputs).left));
  within : length l.bytes.items ≤ l.limit;
}

abbrev pub decreases-loop-bytes : goal.decreases-loop-bytes
decreases-loop-bytes g l = l.limit - length l.bytes.items
