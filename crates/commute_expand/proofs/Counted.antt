-- Each mark doubles the orders of a pattern.
use Rattle.std.proofs.Common.{◌≡◌, ℕ, ◌*◌, ◌^◌, ◌<◌, ◌≤◌, true, false, nat_lt, List, [], ◌∷◌, length, map, refl, sym, ap, ◌∙◌, subst, arith}
use Rattle.std.proofs.lemmas.List.{length-map}
use Rattle.std.proofs.lemmas.Nat.{pow-add}
use Rattle.std.proofs.Math.Pow.{pow_mono, pow-lt}
use Rattle.std.proofs.lemmas.Bool.Decides.{nat_tests}
use Rattle.pd_ast.specs.declared.pattern.Pat.{Pat, Pat-F, ind-Pat, map-Pat, roll-Pat}
use Rattle.pd_ast.specs.declared.pattern.Pat.TheOpen as layer
use Rattle.pd_ast.specs.declared.pattern.Pat.TheVariants as pat
use Rattle.pd_ast.specs.declared.pattern.PatNode.{PatNode, PatNode-F, map-PatNode, roll-PatNode}
use Rattle.commute_expand.specs.Choices.{choices}
use Rattle.commute_expand.specs.Marks.{marks, node_marks, mark_count, total}
use Rattle.commute_expand.specs.Orders.{orders, node_orders}
use Rattle.commute_expand.proofs.ChoiceLemmas.{lengths_product, length-choices}
use Rattle.commute_expand.proofs.OrderLemmas.{length-orders_on}
use Rattle.commute_expand.proofs.Alone.{marks_of, orders_of, node_marks_of, node_orders_of}

abbrev IsCounted : Pat → Type 0
IsCounted p = length (orders p) ≡ 2 ^ marks p

abbrev NodeIsCounted : PatNode → Type 0
NodeIsCounted n = length (node_orders n) ≡ 2 ^ node_marks n

abbrev Such : Type 0
Such = (p : Pat) × IsCounted p

abbrev NodeSuch : Type 0
NodeSuch = (n : PatNode) × NodeIsCounted n

abbrev plain : List Such → List Pat
plain es = map (λ e. e.0) es

product_is : (es : List Such) → lengths_product (map orders (plain es)) ≡ 2 ^ total (map marks (plain es))
product_is [] = refl
product_is (e ∷ es) =
    (λ i. e.1 i * product_is es i) ∙ sym (pow-add 2 (marks e.0) (total (map marks (plain es))))

choices_counted : (es : List Such) → length (choices (map orders (plain es))) ≡ 2 ^ total (map marks (plain es))
choices_counted es = length-choices (map orders (plain es)) ∙ product_is es

abbrev unwrap : Pat-F Such NodeSuch → Pat-F Pat PatNode
unwrap y = map-Pat Such NodeSuch Pat PatNode (λ e. e.0) (λ e. e.0) y

abbrev node_unwrap : PatNode-F Such NodeSuch → PatNode-F Pat PatNode
node_unwrap y = map-PatNode Such NodeSuch Pat PatNode (λ e. e.0) (λ e. e.0) y

layer_counted : (y : Pat-F Such NodeSuch) → IsCounted (roll-Pat (unwrap y))
layer_counted (layer.Hole cap) =
    ap length (orders_of (layer.Hole cap)) ∙ sym (ap (λ n. 2 ^ n) (marks_of (layer.Hole cap)))
layer_counted (layer.Test pred cap) =
    ap length (orders_of (layer.Test pred cap)) ∙ sym (ap (λ n. 2 ^ n) (marks_of (layer.Test pred cap)))
layer_counted (layer.Call name es cap) =
    ap length (orders_of (layer.Call name (plain es) cap))
    ∙ length-map (choices (map orders (plain es))) (λ chosen. pat.Call name chosen cap)
    ∙ choices_counted es
    ∙ sym (ap (λ n. 2 ^ n) (marks_of (layer.Call name (plain es) cap)))
layer_counted (layer.Node e) =
    ap length (orders_of (layer.Node e.0)) ∙ e.1 ∙ sym (ap (λ n. 2 ^ n) (marks_of (layer.Node e.0)))

node_counted : (y : PatNode-F Such NodeSuch) → NodeIsCounted (roll-PatNode (node_unwrap y))
node_counted y =
    let x = node_unwrap y in
    let count = mark_count y.flags.commute in
    let behind = total (map marks (plain y.args)) in
    ap length (node_orders_of x)
    ∙ length-orders_on y.op y.flags y.cap y.at y.len (choices (map orders (plain y.args)))
    ∙ ap (λ n. 2 ^ count * n) (choices_counted y.args)
    ∙ sym (pow-add 2 count behind)
    ∙ sym (ap (λ n. 2 ^ n) (node_marks_of x))

pub counted : (p : Pat) → length (orders p) ≡ 2 ^ marks p
counted =
    ind-Pat IsCounted NodeIsCounted
    (λ x y is. subst (λ z. IsCounted (roll-Pat z)) is (layer_counted y))
    (λ x y is. subst (λ z. NodeIsCounted (roll-PatNode z)) is (node_counted y))

at_most : (n m : ℕ) → n ≤ m → nat_lt m n ≡ false
at_most n m h = grind (arith, nat_tests)

above : (n m : ℕ) → m < n → nat_lt m n ≡ true
above n m h = grind (arith, nat_tests)

-- sixteen marks make 65,536 orders, and one more makes more
pub few : (p : Pat) → marks p ≤ 16 → nat_lt 65536 (length (orders p)) ≡ false
few p h =
    let bound : 2 ^ marks p ≤ 2 ^ 16 = pow_mono h in
    ap (nat_lt 65536) (counted p) ∙ at_most (2 ^ marks p) 65536 bound

pub many : (p : Pat) → 16 < marks p → nat_lt 65536 (length (orders p)) ≡ true
many p h =
    let bound : 2 ^ 16 < 2 ^ marks p = pow-lt h in
    ap (nat_lt 65536) (counted p) ∙ above (2 ^ marks p) 65536 bound
