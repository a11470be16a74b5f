use Rattle.std.proofs.Common.{◌≡◌, ◌<◌, [], filter, length, sym, ap, ap₂, subst, ◌∙◌, arith}
use Rattle.std.proofs.lemmas.Option.{get_or_from_slice_get}
use Rattle.std.proofs.lemmas.Result.{IfOk-weaker}
use Rattle.gim_ast.specs.declared.function.Stmt.{Stmt}
use Rattle.value_numbers.specs.Spots.{spots_of, ArePlaces}
use Rattle.value_numbers.specs.Tables.{bucket_number, is_in_bucket}
use Rattle.value_numbers.proofs.TakenNames.{least_of_bucket}
use Rattle.value_numbers.proofs.merges.least_alike.Goals as goal

pub least-requires-clause-places : goal.least-requires-clause-places
least-requires-clause-places c =
    let f = c.args.function.now in
    let table = c.args.table.now in
    let b = c.bucket_of-bucket.result in
    let spots = filter (is_in_bucket (length table) b) (spots_of f) in
    let below : b < length table = omega arith in
    (spots, subst (λ l. ArePlaces f l spots) (get_or_from_slice_get table b _ [] c.at.ensures.item ∙ sym c.as_slice.ensures) (c.requires.table b below))

pub returns-clause-least : goal.returns-clause-least
returns-clause-least c = IfOk-weaker c.least.result _ _ (λ found told spot here.
    let f = c.args.function.now in
    let table = c.args.table.now in
    let b = c.bucket_of-bucket.result in
    let spots = filter (is_in_bucket (length table) b) (spots_of f) in
    let below : b < length table = omega arith in
    let are = subst (λ l. ArePlaces f l spots) (get_or_from_slice_get table b _ [] c.at.ensures.item ∙ sym c.as_slice.ensures) (c.requires.table b below) in
    let is = sym (c.bucket_of-bucket.ensures.is ∙ ap₂ bucket_number c.len.ensures (ap (λ (s : Stmt). s.rhs) (c.stmt_at.ensures spot here))) in
    least_of_bucket f spot (length table) b is found (told spot spots here are)) c.least.ensures.least
