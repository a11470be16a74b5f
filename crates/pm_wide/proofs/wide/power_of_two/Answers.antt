use Rattle.std.proofs.Common.{◌≡◌, ◌^◌, ◌*◌, arith}
use Rattle.std.proofs.Math.Nat.{mod-eq_of_lt}
use Rattle.std.proofs.Math.Pow.{pow-lt}
use Rattle.pm_wide.proofs.wide.power_of_two.Goals as goal

pub returns : goal.returns
returns c =
    let one : 1 * 2 ^ c.args.width ≡ 2 ^ c.args.width = omega arith in
    rw one (mod-eq_of_lt (pow-lt c.requires))
