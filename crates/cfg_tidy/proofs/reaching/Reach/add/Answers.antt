use Rattle.std.proofs.Common.{ℕ, eqb, sym, ◌∙◌}
use Rattle.std.specs.HashSet.{contains_by}
use Rattle.cfg_tidy.proofs.FoundBlocks.{adds_old, adds_new, indexed_more}
use Rattle.cfg_tidy.proofs.reaching.Reach.add.Goals as goal

pub returns-in_ok-push-2 : goal.returns-in_ok-push-2
returns-in_ok-push-2 c =
    adds_new c.args.blocks.now c.args.number c.args.self.now (record { found = c.push.new.self; set = c.insert.new.self; waiting = c.push-then-is_new.new.self })
    (sym c.is_new.ensures ∙ c.if-is_new.true) c.in_ok-push.ensures.ok c.in_ok-push-2.ensures.ok
    (indexed_more c.args.number c.args.self.now.found c.push.new.self (λ (q : ℕ). contains_by (λ (k : ℕ). eqb q k) c.args.self.now.set) (λ (q : ℕ). contains_by (λ (k : ℕ). eqb q k) c.insert.new.self)
    c.in_ok-insert.ensures.updates.0 c.requires c.in_ok-push.ensures.ok)

pub returns-else-is_new : goal.returns-else-is_new
returns-else-is_new c = adds_old c.args.blocks.now c.args.number c.args.self.now (sym c.is_new.ensures ∙ c.if-is_new.false) c.requires
