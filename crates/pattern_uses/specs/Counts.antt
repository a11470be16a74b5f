-- How many captures and operations a pattern has.
use Rattle.std.specs.Prelude.{ℕ, ◌+◌, if◌then◌else◌, List, [], ◌∷◌}
use Rattle.std.specs.List.{list_any}
use Rattle.std.specs.Str.{bytes_eq}
use Rattle.pm_ops.specs.Names.{Name}
use Rattle.pd_ast.specs.declared.pattern.Pat.{Pat, Pat-F, fold-Pat}
use Rattle.pd_ast.specs.declared.pattern.Pat.TheOpen as layer
use Rattle.pd_ast.specs.declared.pattern.PatNode.{PatNode, PatNode-F, fold-PatNode}
use Rattle.pattern_uses.specs.Captures.{capture_names}

-- how many different names there are, each counted where it stands last
abbrev pub distinct : List Name → ℕ
distinct [] = 0
distinct (name ∷ names) = (if list_any (bytes_eq name) names then 0 else 1) + distinct names

abbrev pub capture_count : Pat → ℕ
capture_count pattern = distinct (capture_names pattern)

-- the operations of a pattern
abbrev pub total : List ℕ → ℕ
total [] = 0
total (n ∷ ns) = n + total ns

abbrev pub operations_in_layer : Pat-F ℕ ℕ → ℕ
operations_in_layer (layer.Hole cap) = 0
operations_in_layer (layer.Test pred cap) = 0
operations_in_layer (layer.Call name args cap) = total args
operations_in_layer (layer.Node count) = count

abbrev pub operations_in_node : PatNode-F ℕ ℕ → ℕ
operations_in_node node = 1 + total node.args

abbrev pub operations : Pat → ℕ
operations = fold-Pat ℕ ℕ operations_in_layer operations_in_node

abbrev pub node_operations : PatNode → ℕ
node_operations = fold-PatNode ℕ ℕ operations_in_layer operations_in_node
