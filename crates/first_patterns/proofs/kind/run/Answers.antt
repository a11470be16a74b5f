use Rattle.std.proofs.Common.{arith}
use Rattle.std.proofs.lemmas.List.Sums.{prefix_len-le-length}
use Rattle.first_patterns.specs.Reading.{of_kind}
use Rattle.first_patterns.proofs.kind.run.Goals as goal

pub split_at-requires : goal.split_at-requires
split_at-requires c = omega (arith, prefix_len-le-length (of_kind c.args.kind) c.args.bytes.now)
