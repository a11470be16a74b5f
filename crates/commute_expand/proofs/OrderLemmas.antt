-- The orders of one operation.
use Rattle.std.proofs.Common.{◌≡◌, ◌≢◌, ℕ, ◌+◌, ◌*◌, ◌^◌, List, [], ◌∷◌, length, map, Option, refl, arith}
use Rattle.std.proofs.lemmas.List.{length-append, length-map}
use Rattle.pd_ast.specs.declared.pattern.Cap.{Cap}
use Rattle.pd_ast.specs.declared.pattern.Commute.{Commute}
use Rattle.pd_ast.specs.declared.pattern.Commute.TheVariants.{No, Checked, Forced}
use Rattle.pd_ast.specs.declared.pattern.Flags.{Flags}
use Rattle.pd_ast.specs.declared.pattern.OpRef.{OpRef}
use Rattle.pd_ast.specs.declared.pattern.Pat.{Pat}
use Rattle.commute_expand.specs.Groups.{operation}
use Rattle.commute_expand.specs.Marks.{mark_count}
use Rattle.commute_expand.specs.Orders.{exchanged, exchanged_op, on_each, orders_on, exchanged_orders, swapped_op, unmarked}

-- other than two operands have no other order
pub exchanged_others : (args : List Pat) → length args ≢ 2 → exchanged args ≡ args
exchanged_others [] h = refl
exchanged_others (a ∷ []) h = refl
exchanged_others (a ∷ b ∷ []) h = absurd (h (omega arith))
exchanged_others (a ∷ b ∷ c ∷ args) h = refl

-- without a mark an operation is the only one
by_commute : (commute : Commute) (single : _) (optional : _) (op : OpRef) (cap : Option Cap) (at len : ℕ) (args : List Pat) → mark_count commute ≡ 0 → orders_on op (record { commute = commute; single = single; optional = optional }) cap at len (args ∷ []) ≡ operation op (record { commute = commute; single = single; optional = optional }) cap args at len ∷ []
by_commute No single optional op cap at len args h = refl
by_commute Checked single optional op cap at len args h = absurd (omega arith)
by_commute Forced single optional op cap at len args h = absurd (omega arith)

pub orders_on_alone : (op : OpRef) (flags : Flags) (cap : Option Cap) (at len : ℕ) (args : List Pat) → mark_count flags.commute ≡ 0 → orders_on op flags cap at len (args ∷ []) ≡ operation op flags cap args at len ∷ []
orders_on_alone op flags cap at len args h = by_commute flags.commute flags.single flags.optional op cap at len args h

length-on_each : (op : OpRef) (flags : Flags) (cap : Option Cap) (at len : ℕ) (lists : List (List Pat)) → length (on_each op flags cap at len lists) ≡ length lists
length-on_each op flags cap at len lists = length-map lists (λ args. operation op (unmarked flags) cap args at len)

length-exchanged_orders : (commute : Commute) (op : OpRef) (flags : Flags) (cap : Option Cap) (at len : ℕ) (lists : List (List Pat)) → length lists + length (exchanged_orders (exchanged_op commute op) flags cap at len lists) ≡ 2 ^ mark_count commute * length lists
length-exchanged_orders No op flags cap at len lists = omega arith
length-exchanged_orders Checked op flags cap at len lists =
    let both = length-on_each (swapped_op op) flags cap at len (map exchanged lists) in
    let each = length-map lists exchanged in
    omega arith
length-exchanged_orders Forced op flags cap at len lists =
    let both = length-on_each op flags cap at len (map exchanged lists) in
    let each = length-map lists exchanged in
    omega arith

-- a mark doubles the orders
pub length-orders_on : (op : OpRef) (flags : Flags) (cap : Option Cap) (at len : ℕ) (lists : List (List Pat)) → length (orders_on op flags cap at len lists) ≡ 2 ^ mark_count flags.commute * length lists
length-orders_on op flags cap at len lists =
    let all = length-append (on_each op flags cap at len lists) (exchanged_orders (exchanged_op flags.commute op) flags cap at len lists) in
    let written = length-on_each op flags cap at len lists in
    let both = length-exchanged_orders flags.commute op flags cap at len lists in
    omega arith
