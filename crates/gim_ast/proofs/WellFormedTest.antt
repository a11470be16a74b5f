-- The whole test, part by part, and what it says.
use Rattle.std.proofs.Common.{◌≡◌, Bool, true, false, refl}
use Rattle.std.specs.Prelude.{◌&&◌, IsTrue, ◌↔◌}
use Rattle.gim_ast.specs.declared.function.Function.{Function}
use Rattle.gim_ast.specs.WellFormed.{declarations_hold, types_hold, names_hold, blocks_hold, operands_hold, bounds_hold, IsWellFormed, is_well_formed}
use Rattle.gim_ast.specs.RulesByPart.{declarations_by_part, types_by_part, names_by_part, blocks_by_part, operands_by_part, bounds_by_part, well_formed_by_part}
use Rattle.gim_ast.proofs.DeclarationParts.{declared_parts, typed_parts}
use Rattle.gim_ast.proofs.NameParts.{named_parts}
use Rattle.gim_ast.proofs.BlockParts.{block_parts}
use Rattle.gim_ast.proofs.OperandParts.{operand_parts}
use Rattle.gim_ast.proofs.BoundParts.{bound_parts}

six : (a b c d e g u v w x y z : Bool) → a ≡ u → b ≡ v → c ≡ w → d ≡ x → e ≡ y → g ≡ z → (a && b && c && d && e && g) ≡ (u && v && w && x && y && z)
six a b c d e g u v w x y z h i j k l m = rw (h, i, j, k, l, m) refl

pub whole_parts : (f : Function) → is_well_formed f ≡ well_formed_by_part f
whole_parts f =
    six (declarations_hold f) (types_hold f) (names_hold f) (blocks_hold f) (operands_hold f) (bounds_hold f)
    (declarations_by_part f) (types_by_part f) (names_by_part f) (blocks_by_part f) (operands_by_part f) (bounds_by_part f)
    (declared_parts f) (typed_parts f) (named_parts f) (block_parts f) (operand_parts f) (bound_parts f)

left : (a b : Bool) → IsTrue (a && b) → IsTrue a
left true b h = refl
left false b h = h

right : (a b : Bool) → IsTrue (a && b) → IsTrue b
right true b h = h
right false b h = cc

both : (a b : Bool) → IsTrue a → IsTrue b → IsTrue (a && b)
both true b h k = k
both false b h k = h

rules_of : (f : Function) → IsTrue (is_well_formed f) → IsWellFormed f
rules_of f h =
    let a = declarations_hold f in
    let b = types_hold f in
    let c = names_hold f in
    let d = blocks_hold f in
    let e = operands_hold f in
    let g = bounds_hold f in
    let five = left (a && b && c && d && e) g h in
    let four = left (a && b && c && d) e five in
    let three = left (a && b && c) d four in
    let two = left (a && b) c three in
    record {
      declarations = left a b two;
      types = right a b two;
      names = right (a && b) c three;
      blocks = right (a && b && c) d four;
      operands = right (a && b && c && d) e five;
      bounds = right (a && b && c && d && e) g h;
    }

test_of : (f : Function) → IsWellFormed f → IsTrue (is_well_formed f)
test_of f w =
    let a = declarations_hold f in
    let b = types_hold f in
    let c = names_hold f in
    let d = blocks_hold f in
    let e = operands_hold f in
    let g = bounds_hold f in
    let two = both a b w.declarations w.types in
    let three = both (a && b) c two w.names in
    let four = both (a && b && c) d three w.blocks in
    let five = both (a && b && c && d) e four w.operands in
    both (a && b && c && d && e) g five w.bounds

pub test_is_rules : (f : Function) → IsTrue (is_well_formed f) ↔ IsWellFormed f
test_is_rules f = (rules_of f, test_of f)
