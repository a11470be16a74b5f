-- The methods that tell that a term may stand for another, and which of them is answered.
use Rattle.std.specs.Prelude.{◌≡◌, ◌≤◌, ◌⊎◌, Option, Some, None}
use Rattle.pm_term.specs.Trees.{Tree, type_of, operations}
use Rattle.bit_tables.specs.TableEqual.{AreTableEqual}
use Rattle.ring_forms.specs.RingForms.{AreRingEqual}
use Rattle.justify.specs.DefinedByRule.{IsDefined}
use Rattle.justify.specs.Enumeration.{AreEnumerated}
use Rattle.justify.specs.Order.{AreRelatedByOrder}
use Rattle.justify.specs.declared.method.Method.{Method}
use Rattle.justify.specs.Order.{AreRelatedByOrder}
use Rattle.justify.specs.declared.method.Method.TheVariants.{Ring, Table, Order, Enumerate}

-- two terms of one type with at most 4,096 operations each
abbrev pub AreWithinLimits : Tree → Tree → Type 0
AreWithinLimits left right = (type_of left ≡ type_of right) × (operations left ≤ 4096) × (operations right ≤ 4096)

-- each operation of the right side is defined by rule, and the sides have one ring form
abbrev pub AreEqualAsSums : Tree → Tree → Type 0
AreEqualAsSums left right = IsDefined left right × AreRingEqual left right

-- or they are sums of bitwise terms that agree under all words
abbrev pub AreEqualAsBits : Tree → Tree → Type 0
AreEqualAsBits left right = IsDefined left right × AreTableEqual left right

-- or they are related by order
abbrev pub AreEqualByOrder : Tree → Tree → Type 0
AreEqualByOrder left right = IsDefined left right × AreRelatedByOrder left right

-- the first method that holds, or none
abbrev pub IsMethod : Tree → Tree → Option Method → Type 0
IsMethod left right (Some Ring) = AreWithinLimits left right × AreEqualAsSums left right
IsMethod left right (Some Table) = AreWithinLimits left right × (¬ AreEqualAsSums left right) × AreEqualAsBits left right
IsMethod left right (Some Order) =
    AreWithinLimits left right × (¬ AreEqualAsSums left right) × (¬ AreEqualAsBits left right) × AreEqualByOrder left right
IsMethod left right (Some Enumerate) =
    AreWithinLimits left right × (¬ AreEqualAsSums left right) × (¬ AreEqualAsBits left right) × (¬ AreEqualByOrder left right)
    × AreEnumerated left right
IsMethod left right None =
    ¬ (AreWithinLimits left right × (AreEqualAsSums left right ⊎ AreEqualAsBits left right ⊎ AreEqualByOrder left right ⊎ AreEnumerated left right))
