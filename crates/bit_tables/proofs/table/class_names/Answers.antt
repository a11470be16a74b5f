use Rattle.std.proofs.Common.{ℕ, subst}
use Rattle.pm_wide.specs.Types.{Ty}
use Rattle.arrayvec.specs.ArrayVec.{ArrayVec}
use Rattle.bit_tables.specs.TableClass.{IsBuilt}
use Rattle.bit_tables.proofs.TableTheorem.{classed_of}
use Rattle.bit_tables.proofs.table.class_names.Goals as goal

pub returns-then-is_built-2 : goal.returns-then-is_built-2
returns-then-is_built-2 c =
    classed_of (λ (v : ArrayVec (ℕ × Ty)). v.items) _ _ c.args.left.now c.args.right.now c.ty-ty.result c.ty.result c.bits-width.result c.names_of.result
    c.term-then-is_built-2.ensures.value c.term-then-is_built-2-2.ensures.value c.ty-ty.ensures c.ty.ensures
    (c.is_one_type.ensures.0 c.if-is_one_type.true) c.bits-width.ensures.value
    (subst (IsBuilt c.bits-width.result) c.term.ensures.value (c.is_built.ensures.0 c.if-is_built.true))
    (subst (IsBuilt c.bits-width.result) c.term-then-is_built.ensures.value (c.is_built-then-is_built.ensures.0 c.if-is_built-2.true)) c.names_of.ensures
