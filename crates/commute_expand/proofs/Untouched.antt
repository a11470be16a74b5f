-- A pattern without operations of a group is left as it is.
use Rattle.std.proofs.Common.{◌≡◌, ℕ, Bool, true, false, ◌||◌, List, [], ◌∷◌, map, Option, refl, sym, ap, ◌∙◌, subst}
use Rattle.pd_ast.specs.declared.pattern.Cap.{Cap}
use Rattle.pd_ast.specs.declared.pattern.Flags.{Flags}
use Rattle.pd_ast.specs.declared.pattern.OpRef.{OpRef}
use Rattle.pd_ast.specs.declared.pattern.Pat.{Pat, Pat-F, fold-roll-Pat, ind-Pat, map-Pat, roll-Pat}
use Rattle.pd_ast.specs.declared.pattern.Pat.TheOpen as layer
use Rattle.pd_ast.specs.declared.pattern.Pat.TheVariants as pat
use Rattle.pd_ast.specs.declared.pattern.PatNode.{PatNode, PatNode-F, fold-roll-PatNode, map-PatNode, roll-PatNode}
use Rattle.commute_expand.specs.Groups.{has_group, node_has_group, in_layer, in_node, is_of_group, some_true, settled, settled_node, settled_layer, settled_node_layer, settled_parts, operation}

abbrev IsLeft : ℕ → Bool → Pat → Type 0
IsLeft group present p = has_group group p ≡ false → settled group present p ≡ p

abbrev NodeIsLeft : ℕ → Bool → PatNode → Type 0
NodeIsLeft group present n = node_has_group group n ≡ false → settled_node group present n ≡ pat.Node n

abbrev Such : ℕ → Bool → Type 0
Such group present = (p : Pat) × IsLeft group present p

abbrev NodeSuch : ℕ → Bool → Type 0
NodeSuch group present = (n : PatNode) × NodeIsLeft group present n

abbrev plain : (group : ℕ) (present : Bool) → List (Such group present) → List Pat
plain group present es = map (λ e. e.0) es

neither : (a b : Bool) → a || b ≡ false → (a ≡ false) × (b ≡ false)
neither true b h = (h, absurd (cc))
neither false b h = (refl, h)

each_left : (group : ℕ) (present : Bool) (es : List (Such group present)) → some_true (map (has_group group) (plain group present es)) ≡ false → map (settled group present) (plain group present es) ≡ plain group present es
each_left group present [] h = refl
each_left group present (e ∷ es) h =
    let both = neither (has_group group e.0) (some_true (map (has_group group) (plain group present es))) h in
    λ i. e.1 both.0 i ∷ each_left group present es both.1 i

settled_parts_left : (group : ℕ) (present : Bool) (op : OpRef) (flags : Flags) (cap : Option Cap) (args : List Pat) (at len : ℕ) → is_of_group group flags.optional ≡ false → settled_parts group present op flags cap args at len ≡ operation op flags cap args at len
settled_parts_left group present op flags cap args at len h = rw h

abbrev unwrap : (group : ℕ) (present : Bool) → Pat-F (Such group present) (NodeSuch group present) → Pat-F Pat PatNode
unwrap group present y = map-Pat (Such group present) (NodeSuch group present) Pat PatNode (λ e. e.0) (λ e. e.0) y

abbrev node_unwrap : (group : ℕ) (present : Bool) → PatNode-F (Such group present) (NodeSuch group present) → PatNode-F Pat PatNode
node_unwrap group present y = map-PatNode (Such group present) (NodeSuch group present) Pat PatNode (λ e. e.0) (λ e. e.0) y

found_in : (group : ℕ) (x : Pat-F Pat PatNode) → has_group group (roll-Pat x) ≡ in_layer (map-Pat Pat PatNode Bool Bool (has_group group) (node_has_group group) x)
found_in group = fold-roll-Pat Bool Bool in_layer (in_node group)

node_found_in : (group : ℕ) (x : PatNode-F Pat PatNode) → node_has_group group (roll-PatNode x) ≡ (is_of_group group x.flags.optional || some_true (map (has_group group) x.args))
node_found_in group = fold-roll-PatNode Bool Bool in_layer (in_node group)

settled_of : (group : ℕ) (present : Bool) (x : Pat-F Pat PatNode) → settled group present (roll-Pat x) ≡ settled_layer (map-Pat Pat PatNode Pat Pat (settled group present) (settled_node group present) x)
settled_of group present = fold-roll-Pat Pat Pat settled_layer (settled_node_layer group present)

node_settled_of : (group : ℕ) (present : Bool) (x : PatNode-F Pat PatNode) → settled_node group present (roll-PatNode x) ≡ settled_parts group present x.op x.flags x.cap (map (settled group present) x.args) x.at x.len
node_settled_of group present = fold-roll-PatNode Pat Pat settled_layer (settled_node_layer group present)

layer_left : (group : ℕ) (present : Bool) (y : Pat-F (Such group present) (NodeSuch group present)) → IsLeft group present (roll-Pat (unwrap group present y))
layer_left group present (layer.Hole cap) h = settled_of group present (layer.Hole cap) ∙ sym (pat.rolls-Hole cap)
layer_left group present (layer.Test pred cap) h = settled_of group present (layer.Test pred cap) ∙ sym (pat.rolls-Test pred cap)
layer_left group present (layer.Call name es cap) h =
    let x = layer.Call name (plain group present es) cap in
    settled_of group present x
    ∙ ap (λ args. pat.Call name args cap) (each_left group present es (sym (found_in group x) ∙ h))
    ∙ sym (pat.rolls-Call name (plain group present es) cap)
layer_left group present (layer.Node e) h =
    settled_of group present (layer.Node e.0)
    ∙ e.1 (sym (found_in group (layer.Node e.0)) ∙ h)
    ∙ sym (pat.rolls-Node e.0)

node_left : (group : ℕ) (present : Bool) (y : PatNode-F (Such group present) (NodeSuch group present)) → NodeIsLeft group present (roll-PatNode (node_unwrap group present y))
node_left group present y h =
    let x = node_unwrap group present y in
    let both = neither (is_of_group group y.flags.optional) (some_true (map (has_group group) (plain group present y.args))) (sym (node_found_in group x) ∙ h) in
    node_settled_of group present x
    ∙ ap (λ args. settled_parts group present y.op y.flags y.cap args y.at y.len) (each_left group present y.args both.1)
    ∙ settled_parts_left group present y.op y.flags y.cap (plain group present y.args) y.at y.len both.0

pub untouched : (group : ℕ) (present : Bool) (p : Pat) → has_group group p ≡ false → settled group present p ≡ p
untouched group present =
    ind-Pat (IsLeft group present) (NodeIsLeft group present)
    (λ x y is. subst (λ z. IsLeft group present (roll-Pat z)) is (layer_left group present y))
    (λ x y is. subst (λ z. NodeIsLeft group present (roll-PatNode z)) is (node_left group present y))
