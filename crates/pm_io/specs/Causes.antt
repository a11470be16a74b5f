-- A device counts its faults. The count goes up to 2 ^ 64 - 1, where it stands still, and it never falls.
use Rattle.std.specs.Prelude.{ℕ, ◌+◌, ◌-◌, ◌^◌, ◌≤◌, min, Result, Ok, Err, OnErr}

-- one more fault than before, where the count doesn't stand at its end
abbrev pub one_more : ℕ → ℕ
one_more count = min (count + 1) (2 ^ 64 - 1)

-- the count rose, or it stands at its end
abbrev pub Rose : ℕ → ℕ → Type 0
Rose before now = one_more before ≤ now

-- the count never falls, and an error comes only where it rose
pub record HasCause {T E : Type 0} (before now : ℕ) (result : Result T E) : Type 0 where
  pub later : before ≤ now
  pub rose : OnErr result (Rose before now)

-- the count after a call of a device that counts its errors alone
abbrev pub count_after : {T E : Type 0} → ℕ → Result T E → ℕ
count_after before (Ok _) = before
count_after before (Err _) = one_more before
