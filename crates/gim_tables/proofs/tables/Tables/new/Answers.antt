use Rattle.std.proofs.Common.{ap, ◌∙◌}
use Rattle.std.specs.List.{flat_map}
use Rattle.gim_ast.specs.Functions.{right_of, row_of}
use Rattle.gim_terms.specs.Lookups.{stmts_in}
use Rattle.gim_tables.specs.Told.{right_among, type_among}
use Rattle.gim_tables.proofs.tables.Tables.new.Goals as goal

pub invariant_of-result : goal.invariant_of-result
unfolding right_of row_of
invariant_of-result c = (
  c.requires,
  λ q. c.in_ok-rights.ensures q ∙ ap (λ bs. right_among q (flat_map stmts_in bs)) c.as_slice.ensures,
  λ q. c.in_ok-types.ensures q ∙ ap (λ rows. type_among q rows) c.as_slice-2.ensures,
  c.in_ok-uses.ensures,
)
