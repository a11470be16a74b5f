-- A pattern without marks is its only order.
use Rattle.std.proofs.Common.{◌≡◌, ℕ, ◌+◌, List, [], ◌∷◌, map, refl, sym, ap, ◌∙◌, subst, arith}
use Rattle.pd_ast.specs.declared.pattern.Pat.{Pat, Pat-F, fold-roll-Pat, ind-Pat, map-Pat, roll-Pat}
use Rattle.pd_ast.specs.declared.pattern.Pat.TheOpen as layer
use Rattle.pd_ast.specs.declared.pattern.Pat.TheVariants as pat
use Rattle.pd_ast.specs.declared.pattern.PatNode.{PatNode, PatNode-F, fold-roll-PatNode, map-PatNode, roll-PatNode}
use Rattle.commute_expand.specs.Choices.{choices}
use Rattle.commute_expand.specs.Marks.{marks, node_marks, marks_in_layer, marks_in_node, mark_count, total}
use Rattle.commute_expand.specs.Orders.{orders, node_orders, orders_of_layer, orders_of_node, orders_on}
use Rattle.commute_expand.proofs.ChoiceLemmas.{only_choice}
use Rattle.commute_expand.proofs.OrderLemmas.{orders_on_alone}

abbrev IsAlone : Pat → Type 0
IsAlone p = marks p ≡ 0 → orders p ≡ p ∷ []

abbrev NodeIsAlone : PatNode → Type 0
NodeIsAlone n = node_marks n ≡ 0 → node_orders n ≡ pat.Node n ∷ []

abbrev Such : Type 0
Such = (p : Pat) × IsAlone p

abbrev NodeSuch : Type 0
NodeSuch = (n : PatNode) × NodeIsAlone n

abbrev plain : List Such → List Pat
plain es = map (λ e. e.0) es

each_alone : (es : List Such) → total (map marks (plain es)) ≡ 0 → map orders (plain es) ≡ map (λ a. a ∷ []) (plain es)
each_alone [] h = refl
each_alone (e ∷ es) h =
    let here : marks e.0 ≡ 0 = omega arith in
    let behind : total (map marks (plain es)) ≡ 0 = omega arith in
    λ i. e.1 here i ∷ each_alone es behind i

only : (es : List Such) → total (map marks (plain es)) ≡ 0 → choices (map orders (plain es)) ≡ plain es ∷ []
only es h = ap choices (each_alone es h) ∙ only_choice (plain es)

pub marks_of : (x : Pat-F Pat PatNode) → marks (roll-Pat x) ≡ marks_in_layer (map-Pat Pat PatNode ℕ ℕ marks node_marks x)
marks_of = fold-roll-Pat ℕ ℕ marks_in_layer marks_in_node

pub orders_of : (x : Pat-F Pat PatNode) → orders (roll-Pat x) ≡ orders_of_layer (map-Pat Pat PatNode (List Pat) (List Pat) orders node_orders x)
orders_of = fold-roll-Pat (List Pat) (List Pat) orders_of_layer orders_of_node

pub node_marks_of : (x : PatNode-F Pat PatNode) → node_marks (roll-PatNode x) ≡ mark_count x.flags.commute + total (map marks x.args)
node_marks_of = fold-roll-PatNode ℕ ℕ marks_in_layer marks_in_node

pub node_orders_of : (x : PatNode-F Pat PatNode) → node_orders (roll-PatNode x) ≡ orders_on x.op x.flags x.cap x.at x.len (choices (map orders x.args))
node_orders_of = fold-roll-PatNode (List Pat) (List Pat) orders_of_layer orders_of_node

abbrev unwrap : Pat-F Such NodeSuch → Pat-F Pat PatNode
unwrap y = map-Pat Such NodeSuch Pat PatNode (λ e. e.0) (λ e. e.0) y

abbrev node_unwrap : PatNode-F Such NodeSuch → PatNode-F Pat PatNode
node_unwrap y = map-PatNode Such NodeSuch Pat PatNode (λ e. e.0) (λ e. e.0) y

layer_alone : (y : Pat-F Such NodeSuch) → IsAlone (roll-Pat (unwrap y))
layer_alone (layer.Hole cap) h = orders_of (layer.Hole cap) ∙ ap (λ p. p ∷ []) (sym (pat.rolls-Hole cap))
layer_alone (layer.Test pred cap) h = orders_of (layer.Test pred cap) ∙ ap (λ p. p ∷ []) (sym (pat.rolls-Test pred cap))
layer_alone (layer.Call name es cap) h =
    orders_of (layer.Call name (plain es) cap)
    ∙ ap (map (λ chosen. pat.Call name chosen cap)) (only es (sym (marks_of (layer.Call name (plain es) cap)) ∙ h))
    ∙ ap (λ p. p ∷ []) (sym (pat.rolls-Call name (plain es) cap))
layer_alone (layer.Node e) h =
    orders_of (layer.Node e.0)
    ∙ e.1 (sym (marks_of (layer.Node e.0)) ∙ h)
    ∙ ap (λ p. p ∷ []) (sym (pat.rolls-Node e.0))

node_alone : (y : PatNode-F Such NodeSuch) → NodeIsAlone (roll-PatNode (node_unwrap y))
node_alone y h =
    let x = node_unwrap y in
    let count : mark_count y.flags.commute + total (map marks (plain y.args)) ≡ 0 = sym (node_marks_of x) ∙ h in
    let here : mark_count y.flags.commute ≡ 0 = omega arith in
    let behind : total (map marks (plain y.args)) ≡ 0 = omega arith in
    node_orders_of x
    ∙ ap (orders_on y.op y.flags y.cap y.at y.len) (only y.args behind)
    ∙ orders_on_alone y.op y.flags y.cap y.at y.len (plain y.args) here

pub alone : (p : Pat) → marks p ≡ 0 → orders p ≡ p ∷ []
alone =
    ind-Pat IsAlone NodeIsAlone
    (λ x y is. subst (λ z. IsAlone (roll-Pat z)) is (layer_alone y))
    (λ x y is. subst (λ z. NodeIsAlone (roll-PatNode z)) is (node_alone y))
