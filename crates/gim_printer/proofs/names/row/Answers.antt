use Rattle.std.proofs.Common.{rules}
use Rattle.std.proofs.lemmas.List.Sorted.{answers_always}
use Rattle.gim_ast.specs.declared.function.NameRow.{NameRow}
use Rattle.gim_printer.proofs.RowSearch.{row_found, row_missing}
use Rattle.gim_printer.proofs.names.row.Goals as goal

pub returns-in-Ok : goal.returns-in-Ok
returns-in-Ok c =
    let facts = c.binary_search_by_key.ensures in
    let by_version = facts.position (λ (row : NameRow). row.version) (answers_always _ _ _ (λ f a r g called. search rules)) in
    row_found _ _ _ _ _ _ c.as_slice-rows.ensures c.requires facts.bound by_version c.in-Ok.is c.index-rows-at.is

pub returns-in-Err : goal.returns-in-Err
returns-in-Err c =
    let by_version = c.binary_search_by_key.ensures.position (λ (row : NameRow). row.version) (answers_always _ _ _ (λ f a r g called. search rules)) in
    row_missing _ _ _ _ _ c.as_slice-rows.ensures c.requires by_version c.in-Err.is
