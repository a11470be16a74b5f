use Rattle.std.proofs.Common.{◌≡◌, ◌≤◌, ◌-◌, length, take, []}
use Rattle.pm_io.specs.Taking.{followed_by}
use Rattle.pm_io.proofs.sinks.write_all.Given as goal

-- the bytes before `start` were taken
abbrev pub invariant-loop-start : goal.invariant-loop-start
invariant-loop-start g l = record {
  within : l.start ≤ length l.bytes;
  taken : (g.S.Sink.state l.sink).taken ≡ followed_by (g.S.Sink.state l.initial.sink).taken (take l.start l.bytes);
  later : (g.S.Sink.state l.initial.sink).faults ≤ (g.S.Sink.state l.sink).faults;
  room : (g.S.Sink.state l.sink).room ≡ (g.S.Sink.state l.initial.sink).room;
  untouched : l.bytes ≡ [] → l.sink ≡ l.initial.sink;
}

abbrev pub decreases-loop-start : goal.decreases-loop-start
decreases-loop-start g l = length l.bytes - l.start
