use Rattle.std.proofs.Common.{◌≡◌, sym, subst}
use Rattle.std.specs.BTreeMap as tree
use Rattle.std.specs.List.{flat_map}
use Rattle.std.proofs.lemmas.Result.{IfOk-weaker}
use Rattle.gim_making.specs.Names.{AreNames, rows_of_place}
use Rattle.gim_making.proofs.RowTables.{are_names}
use Rattle.gim_making.proofs.rows.names.Goals as goal

pub returns : goal.returns
returns c =
    let rows = flat_map (rows_of_place c.args.scope.now) c.args.places.now in
    let table = c.in_ok-rows.rows in
    IfOk-weaker c.in_order.result (λ names. names ≡ tree.values table) (AreNames rows)
    (λ names is. subst (AreNames rows) (sym is) (are_names rows table c.in_order.ensures.ordered c.in_ok-rows.ensures))
    c.in_order.ensures.list
