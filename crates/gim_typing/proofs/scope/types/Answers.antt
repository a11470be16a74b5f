use Rattle.std.proofs.Common.{arith}
use Rattle.std.specs.HashMap as hash
use Rattle.std.specs.Str.{bytes_eq}
use Rattle.std.proofs.lemmas.Map.Text.{hash_map_updates_str}
use Rattle.gim_typing.proofs.DeclaredTypes.{declared_step}
use Rattle.gim_typing.proofs.scope.types.Goals as goal

pub loop-at-preserved : goal.loop-at-preserved
loop-at-preserved c = (
  omega arith,
  λ q. declared_step c.args.source.now q c.text.result.now c.args.decls.now c.loop-at.at c.index-decls-at.result
      (hash.get_by (λ k. bytes_eq q k.now) c.loop-at.types) (hash.get_by (λ k. bytes_eq q k.now) c.insert.new.self)
      c.loop-at-test.true c.loop-at.invariant.0 c.index-decls-at.is c.text.ensures
      (hash_map_updates_str c.text.result.now c.loop-at.types c.insert.new.self _ c.in-Ok.ensures.updates q) (c.loop-at.invariant.1 q),
)
