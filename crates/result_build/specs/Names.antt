-- What the names of a result stand for.
use Rattle.std.specs.Prelude.{ℕ, suc, Option, Some, None, List, [], ◌∷◌, codes, if◌then◌else◌}
use Rattle.std.specs.Option.{option_map}
use Rattle.std.specs.Str.{bytes_eq}
use Rattle.pm_ops.specs.Names.{Name}
use Rattle.pm_wide.specs.declared.operand.Operand.{Operand}
use Rattle.pm_wide.specs.Types.{Ty}
use Rattle.pattern_rows.specs.declared.caps.Caps.{Caps}
use Rattle.pattern_rows.specs.Found.{held}
use Rattle.cond_eval.specs.declared.environment.CEnv.{CEnv}
use Rattle.cond_eval.specs.declared.value.CValue.{CValue}
use Rattle.cond_eval.specs.declared.value.CValue.TheVariants.{TypeRef, Oper}
use Rattle.cond_eval.specs.Environments.{named}

-- the operand of a capture: the environment has the captures in the order of their slots, here from a
-- slot on
abbrev pub captured_from : Caps → ℕ → List (Name × Operand) → Name → Option Operand
captured_from caps slot [] name = None
captured_from caps slot (pair ∷ pairs) name =
    if bytes_eq pair.0 name then held caps slot else captured_from caps (suc slot) pairs name

abbrev pub captured : Caps → List (Name × Operand) → Name → Option Operand
captured caps captures name = captured_from caps 0 captures name

-- the type, and the operand, that a value is
abbrev pub type_in_value : Option CValue → Option Ty
type_in_value (Some (TypeRef ty)) = Some ty
type_in_value _ = None

abbrev pub operand_in_value : Option CValue → Option Operand
operand_in_value (Some (Oper operand)) = Some operand
operand_in_value _ = None

-- the type of a name after `:`: `type`, or a local that is a type
abbrev pub named_type : CEnv → Name → Option Ty
named_type env name =
    if bytes_eq name (codes "type") then Some env.ty else type_in_value (named env.locals name)

-- the type after `:`, where one is written; none where its name is no type
abbrev pub written_type : CEnv → Option Name → Option (Option Ty)
written_type env None = Some None
written_type env (Some name) = option_map (λ ty. Some ty) (named_type env name)
