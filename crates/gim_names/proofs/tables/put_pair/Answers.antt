use Rattle.std.specs.HashMap.{get_by}
use Rattle.std.specs.Map.{lookup}
use Rattle.std.specs.Str.{bytes_eq}
use Rattle.gim_ast.specs.WellFormed.{same_text}
use Rattle.gim_names.proofs.TextTables.{pair_step}
use Rattle.gim_names.proofs.tables.put_pair.Goals as goal

pub returns-in_ok-insert : goal.returns-in_ok-insert
returns-in_ok-insert c =
    λ pairs h q. rw c.in-Some.is (pair_step c.in-Some.key.now q c.in-Some.value
    (get_by (λ k. bytes_eq q k.now) c.args.map.now) (get_by (λ k. bytes_eq q k.now) c.insert.new.self)
    (lookup (same_text q) pairs) (c.in_ok-insert.ensures.updates.0 (record { ref_ptr = (0, 0); now = q })) (h q))
