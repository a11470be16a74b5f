use Rattle.std.proofs.Common.{◌∙◌, length, sym}
use Rattle.std.specs.List.{filter_map, cons_option}
use Rattle.gim_text.specs.Occurrences.{block_at}
use Rattle.gim_limits.specs.Limits.{digits_at, is_any_above, is_name_too_many, is_block_too_many, version_at, versions_of}
use Rattle.gim_limits.proofs.Counting.{last_of_three}
use Rattle.gim_limits.proofs.seen.Seen.take.Goals as goal

pub returns : goal.returns
returns c = λ before seen.
    let source = c.args.source.now in
    let o = c.args.occurrence.now in
    let versions = versions_of source before in
    let blocks = filter_map block_at before in
    let name = rw (c.version_at.ensures) at (c.in_ok-take_name.ensures versions (length blocks) seen) in
    let block =
    rw (c.block_at.ensures) at (c.take_block.ensures (cons_option (version_at source o) versions) blocks
    (name.1 c.if-branch.false)) in
    last_of_three (is_any_above (digits_at source o)) (is_name_too_many versions (version_at source o))
    (is_block_too_many (length blocks) (block_at o)) c.take_block.result
    (sym c.is_number_above.ensures ∙ c.if-is_number_above.false) (sym name.0 ∙ c.if-branch.false) block
