-- What an owner ends as, where a `&mut` to what it holds is returned.
use Rattle.std.specs.Prelude.{ℕ, List, slice_set}
use Rattle.std.specs.Borrow.{Lends, Fml, RattleType, MutBor}
use Rattle.pm_items.specs.contracts.items.Items.{the_row as items_row}
use Rattle.pm_items.specs.contracts.boxed.Boxed.{the_row as boxed_row}

-- once the borrow r ends, the list has at this place the last value written through r
abbrev pub LendsItem : (T : RattleType) → MutBor (List T.Denot) → ℕ → MutBor T.Denot → Fml
LendsItem T items at r = Lends (items_row T) T items r (slice_set items.now at)

-- once the borrow r ends, the box holds the last value written through r
abbrev pub LendsBoxed : (T : RattleType) → MutBor T.Denot → MutBor T.Denot → Fml
LendsBoxed T boxed r = Lends (boxed_row T) T boxed r (λ w. w)
