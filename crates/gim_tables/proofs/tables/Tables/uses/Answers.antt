use Rattle.std.proofs.Common.{◌≡◌, subst}
use Rattle.gim_ast.specs.Functions.{uses_of}
use Rattle.gim_tables.proofs.Counting.{count_is_uses_in}
use Rattle.gim_tables.proofs.tables.Tables.uses.Goals as goal

pub returns : goal.returns
returns c = subst (λ g. c.count_of.result ≡ uses_of g c.args.version) c.self.view_is
    (count_is_uses_in c.self.inside.uses c.self.inside.function.now c.args.version c.count_of.result
    c.self.invariant.0 c.self.invariant.3 c.count_of.ensures.told c.count_of.ensures.fits)
