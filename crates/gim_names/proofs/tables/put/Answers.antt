use Rattle.std.specs.HashSet.{contains_by}
use Rattle.std.specs.Str.{bytes_eq}
use Rattle.gim_names.proofs.TextTables.{put_step}
use Rattle.gim_names.proofs.tables.put.Goals as goal

pub returns-in_ok-insert : goal.returns-in_ok-insert
returns-in_ok-insert c =
    λ texts h q. rw c.in-Some.is (put_step c.in-Some.text.now q (contains_by (λ k. bytes_eq q k.now) c.args.set.now)
    (contains_by (λ k. bytes_eq q k.now) c.insert.new.self) texts
    (c.in_ok-insert.ensures.updates.0 (record { ref_ptr = (0, 0); now = q })) (h q))
