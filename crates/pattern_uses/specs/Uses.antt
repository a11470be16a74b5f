-- The uses of predicates of a pattern, in preorder, taken out of it: each leaves its label behind,
-- with its capture and without its arguments.
use Rattle.std.specs.Prelude.{ℕ, ◌+◌, Bool, if◌then◌else◌, List, [], ◌∷◌, ◌++◌, length, drop, Option, Some, None, decimal}
use Rattle.std.specs.Str.{bytes_eq}
use Rattle.pm_ops.specs.Names.{Name}
use Rattle.pd_ast.specs.declared.pattern.Cap.{Cap}
use Rattle.pd_ast.specs.declared.pattern.Pat.{Pat, Pat-F, fold-Pat}
use Rattle.pd_ast.specs.declared.pattern.Pat.TheOpen as layer
use Rattle.pd_ast.specs.declared.pattern.Pat.TheVariants as pat
use Rattle.pd_ast.specs.declared.pattern.PatNode.{PatNode, PatNode-F, fold-PatNode, roll-PatNode}
use Rattle.pattern_uses.specs.Captures.{joined}
use Rattle.pattern_uses.specs.declared.taking.Cut.{Cut}
use Rattle.pattern_uses.specs.declared.taking.CutAll.{CutAll}
use Rattle.pattern_uses.specs.declared.taking.CutNode.{CutNode}

-- the predicates that a pattern uses, in preorder
abbrev pub used_in_layer : Pat-F (List Name) (List Name) → List Name
used_in_layer (layer.Hole cap) = []
used_in_layer (layer.Test pred cap) = []
used_in_layer (layer.Call name args cap) = name ∷ joined args
used_in_layer (layer.Node names) = names

abbrev pub used_in_node : PatNode-F (List Name) (List Name) → List Name
used_in_node node = joined node.args

abbrev pub used_predicates : Pat → List Name
used_predicates = fold-Pat (List Name) (List Name) used_in_layer used_in_node

abbrev pub used_by_node : PatNode → List Name
used_by_node = fold-PatNode (List Name) (List Name) used_in_layer used_in_node

-- the uses are counted from 1, and labelled by their numbers
abbrev pub label : ℕ → Name
label i = decimal (i + 1)

abbrev pub labels_from : ℕ → List Name → List Name
labels_from i [] = []
labels_from i (name ∷ names) = label i ∷ labels_from (i + 1) names

abbrev pub labels : List Name → List Name
labels names = labels_from 0 names

abbrev pub first_label : List Name → Name
first_label [] = []
first_label (own ∷ rest) = own

-- A pattern with labels, and the arguments of its uses in preorder, in which there are labels too. Of
-- parts one after the other, behind a part with n uses the first n labels are taken.
abbrev pub all_taken : List (List Name → Cut) → List Name → CutAll
all_taken [] names = record { patterns = []; uses = [] }
all_taken (take_out ∷ rest) names =
    let one = take_out names in
    let others = all_taken rest (drop (length one.uses) names) in
    record { patterns = one.pattern ∷ others.patterns; uses = one.uses ++ others.uses }

abbrev pub taken_call : CutAll → Name → Option Cap → Cut
taken_call inner own cap =
    record { pattern = pat.Call own [] cap; uses = inner.patterns ∷ inner.uses }

abbrev pub taken_layer : Pat-F (List Name → Cut) (List Name → CutNode) → List Name → Cut
taken_layer (layer.Hole cap) names = record { pattern = pat.Hole cap; uses = [] }
taken_layer (layer.Test pred cap) names = record { pattern = pat.Test pred cap; uses = [] }
taken_layer (layer.Call name args cap) names =
    taken_call (all_taken args (drop 1 names)) (first_label names) cap
taken_layer (layer.Node node) names =
    let one = node names in record { pattern = pat.Node one.node; uses = one.uses }

abbrev pub taken_node_layer : PatNode-F (List Name → Cut) (List Name → CutNode) → List Name → CutNode
taken_node_layer node names =
    let inner = all_taken node.args names in
    record {
      node = roll-PatNode (record {
        op = node.op;
        flags = node.flags;
        cap = node.cap;
        args = inner.patterns;
        at = node.at;
        len = node.len;
      });
      uses = inner.uses;
    }

abbrev pub taken : Pat → List Name → Cut
taken = fold-Pat (List Name → Cut) (List Name → CutNode) taken_layer taken_node_layer

abbrev pub taken_from_node : PatNode → List Name → CutNode
taken_from_node = fold-PatNode (List Name → Cut) (List Name → CutNode) taken_layer taken_node_layer

-- the capture at a label
abbrev pub first_of : {A : Type 0} → List (Option A) → Option A
first_of [] = None
first_of (None ∷ rest) = first_of rest
first_of (Some x ∷ rest) = Some x

abbrev pub cap_in_layer : Name → Pat-F (Option Cap) (Option Cap) → Option Cap
cap_in_layer own (layer.Hole cap) = None
cap_in_layer own (layer.Test pred cap) = None
cap_in_layer own (layer.Call name args cap) = if bytes_eq name own then cap else first_of args
cap_in_layer own (layer.Node cap) = cap

abbrev pub cap_in_node : PatNode-F (Option Cap) (Option Cap) → Option Cap
cap_in_node node = first_of node.args

abbrev pub cap_at : Name → Pat → Option Cap
cap_at own = fold-Pat (Option Cap) (Option Cap) (cap_in_layer own) cap_in_node

abbrev pub cap_at_in_node : Name → PatNode → Option Cap
cap_at_in_node own = fold-PatNode (Option Cap) (Option Cap) (cap_in_layer own) cap_in_node

-- this pattern in the place of a label
abbrev pub put_layer : Name → Pat → Pat-F Pat PatNode → Pat
put_layer own inner (layer.Hole cap) = pat.Hole cap
put_layer own inner (layer.Test pred cap) = pat.Test pred cap
put_layer own inner (layer.Call name args cap) =
    if bytes_eq name own then inner else pat.Call name args cap
put_layer own inner (layer.Node node) = pat.Node node

abbrev pub put_node_layer : PatNode-F Pat PatNode → PatNode
put_node_layer node =
    roll-PatNode (record {
      op = node.op;
      flags = node.flags;
      cap = node.cap;
      args = node.args;
      at = node.at;
      len = node.len;
    })

abbrev pub put_at : Name → Pat → Pat → Pat
put_at own inner = fold-Pat Pat PatNode (put_layer own inner) put_node_layer

abbrev pub put_at_in_node : Name → Pat → PatNode → PatNode
put_at_in_node own inner = fold-PatNode Pat PatNode (put_layer own inner) put_node_layer
