use Rattle.std.proofs.Common.{◌∙◌, sym, ap, get_or, false}
use Rattle.std.specs.Option.{option_or}
use Rattle.gim_making.specs.declared.places.NamePlace.{NamePlace}
use Rattle.gim_making.specs.Names.{first_of, rows_of_place}
use Rattle.gim_making.proofs.RowTables.{first_of_more}
use Rattle.gim_making.proofs.rows.gather.Goals as goal

pub loop-place-preserved : goal.loop-place-preserved
loop-place-preserved c = λ v.
    let none : NamePlace = record { at = record { from = 0; to = 0 }; initial = false } in
    let row = rows_of_place c.args.scope.now (get_or c.args.places.now c.loop-place.place-index none) in
    c.in_ok-put_row.ensures v ∙ ap (λ o. option_or o (first_of v row)) (c.loop-place.invariant v)
    ∙ sym (first_of_more (rows_of_place c.args.scope.now) v c.args.places.now c.loop-place.place-index none c.loop-place-test.true)
