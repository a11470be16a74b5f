use Rattle.std.proofs.Common.{◌≡◌, false, ◌∙◌, sym}
use Rattle.std.specs.Prelude.{◌==◌}
use Rattle.gim_shape.specs.Blocks.{is_among}
use Rattle.gim_shape.specs.Tables.{has_text}
use Rattle.gim_limits.specs.Limits.{different}
use Rattle.gim_shape.proofs.DistinctTexts.{not_true}
use Rattle.gim_limits.proofs.Counting.{not_full, among_latest, one_more, other_count}
use Rattle.gim_limits.proofs.seen.Seen.take_version.Goals as goal
use Rattle.gim_text.specs.declared.limits.TheConstants.{NAME_LIMIT}

pub returns : goal.returns
returns c = λ versions blocks seen.
    let version = c.args.version.now in
    let set = c.args.self.now.versions in
    let new : is_among versions version ≡ false =
    sym (seen.known version) ∙ not_true (has_text set version)
    (sym c.in_ok-insert.ensures.added ∙ c.if-not-branch.false) in (
      not_full (is_among versions version) (different versions == NAME_LIMIT)
          (other_count c.args.self.now.names (different versions) NAME_LIMIT seen.names_counted c.if-self-eq-NAME_LIMIT.false),
      λ same. record {
        known = λ q. among_latest versions version q (has_text set q) _
            (c.in_ok-insert.ensures.updates.0 (record { ref_ptr = (0, 0); now = q })) (seen.known q);
        names_counted = one_more versions version c.args.self.now.names seen.names_counted new;
        blocks_counted = seen.blocks_counted;
      },
    )
