-- What the end of a case names: captures, and by `t` or `type` the operand that the case is asked about.
use Rattle.std.specs.Prelude.{List, [], ◌∷◌, ◌++◌, Option, Some, None, Bool, true, false}
use Rattle.std.specs.List.{filter_map, flat_map, list_any}
use Rattle.pm_ops.specs.Names.{Name}
use Rattle.pd_ast.specs.declared.c_text.CDecl.{CDecl}
use Rattle.pd_ast.specs.declared.c_text.CExpr.{CExpr, CExpr-F, fold-CExpr}
use Rattle.pd_ast.specs.declared.c_text.CNode.{CNode, CNode-F, fold-CNode}
use Rattle.pd_ast.specs.declared.c_text.CNode.TheOpen as c
use Rattle.pd_ast.specs.declared.result.Tail.{Tail, Tail-F, fold-Tail}
use Rattle.pd_ast.specs.declared.result.Tail.TheOpen as tail
use Rattle.pattern_uses.specs.Captures.{joined}
use Rattle.pattern_uses.specs.declared.mention.Mention.{Mention}
use Rattle.pattern_uses.specs.declared.mention.Mention.TheVariants as of

-- in C text, in order
abbrev pub in_c : CNode-F (List Mention) (List Mention) → List Mention
in_c (c.Number n) = []
in_c (c.Truth b) = []
in_c (c.Sign unsigned) = []
in_c (c.OfCode code) = []
in_c (c.Choice name) = []
in_c (c.Local name) = []
in_c (c.Capture name) = of.Capture name ∷ []
in_c c.Subject = of.Subject ∷ []
in_c c.SubjectType = of.Subject ∷ []
in_c (c.Unary name x) = x
in_c (c.Binary name x y) = x ++ y
in_c (c.Choose x y z) = x ++ y ++ z
in_c (c.CodeTest x equal constant) = x
in_c (c.Call name args) = joined args

abbrev pub in_expr : CExpr-F (List Mention) (List Mention) → List Mention
in_expr layer = layer.node

abbrev pub mentions_of_expr : CExpr → List Mention
mentions_of_expr = fold-CExpr (List Mention) (List Mention) in_c in_expr

abbrev pub mentions_of_c_node : CNode → List Mention
mentions_of_c_node = fold-CNode (List Mention) (List Mention) in_c in_expr

abbrev pub mentions_of_value : Option CExpr → List Mention
mentions_of_value None = []
mentions_of_value (Some expr) = mentions_of_expr expr

abbrev pub mentions_of_decl : CDecl → List Mention
mentions_of_decl decl = mentions_of_value decl.value

-- in the end of a case
abbrev pub in_tail : Tail-F (List Mention) → List Mention
in_tail tail.Done = []
in_tail (tail.If when rest) = mentions_of_expr when ++ rest
in_tail (tail.With decls rest) = flat_map mentions_of_decl decls ++ rest

abbrev pub mentions_of_tail : Tail → List Mention
mentions_of_tail = fold-Tail (List Mention) in_tail

abbrev pub is_subject : Mention → Bool
is_subject (of.Capture name) = false
is_subject of.Subject = true

-- the end of a case asks about `t` or `type`
abbrev pub asks_subject : Tail → Bool
asks_subject rest = list_any is_subject (mentions_of_tail rest)

abbrev pub mentioned : Mention → Option Name
mentioned (of.Capture name) = Some name
mentioned of.Subject = None

-- the captures in the end of a case
abbrev pub captures_of_tail : Tail → List Name
captures_of_tail rest = filter_map mentioned (mentions_of_tail rest)
