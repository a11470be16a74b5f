-- The function that a tree stands for.
use Rattle.std.specs.Prelude.{◌≡◌, ℕ, List, map}
use Rattle.gim_ast.specs.declared.function.Function.{Function}
use Rattle.gim_ast.specs.declared.function.NameRow.{NameRow}
use Rattle.gim_text.specs.declared.tree.FunctionText.{FunctionText}
use Rattle.pm_places.specs.Spans.{text_of}
use Rattle.gim_typing.specs.Declarations.{declarations_of}
use Rattle.gim_making.specs.Trees.{block_of, decl_of}
use Rattle.gim_making.specs.Names.{AreNames, named_rows}

-- what is written, with these names
unfoldable pub made : List ℕ → FunctionText → List NameRow → Function
made source tree names = record {
  name = text_of source tree.name;
  result = tree.result;
  params = map (decl_of source) tree.params;
  decls = map (decl_of source) tree.decls;
  names = names;
  blocks = map (block_of (declarations_of source tree)) tree.blocks;
}

-- the function is what is written, and its names are those that stand in the text
pub record StandsFor (source : List ℕ) (tree : FunctionText) (f : Function) : Type 0 where
  pub whole : f ≡ made source tree f.names
  pub names : AreNames (named_rows source tree) f.names
