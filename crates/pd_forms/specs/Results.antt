-- Results as plain trees.
use Rattle.std.specs.Prelude.{List, [], ◌∷◌, map}
use Rattle.pm_places.specs.declared.span.Span.{Span}
use Rattle.cond_subset.specs.Trees.{Expr, expr_of}
use Rattle.cond_subset.specs.Declarations.{Decl, decl_of}
use Rattle.pd_forms.specs.declared.tree.HeadText.{HeadText}
use Rattle.pd_forms.specs.declared.tree.LeafText.{LeafText, LeafText-F, fold-LeafText}
use Rattle.pd_forms.specs.declared.tree.LeafText.TheOpen as leaf_texts
use Rattle.pd_forms.specs.declared.tree.ResultText.{ResultText, ResultText-F, fold-ResultText}
use Rattle.pd_forms.specs.declared.tree.ResultText.TheOpen as result_texts

mutual
  pub data Leaf : Type 0 where
    capture : Span → Leaf
    brace : Span → Expr → Leaf
    operation : Span → HeadText → Leaves → Leaf

  pub data Leaves : Type 0 where
    nil : Leaves
    cons : Leaf → Leaves → Leaves

abbrev pub leaves : List Leaf → Leaves
leaves [] = nil
leaves (l ∷ ls) = cons l (leaves ls)

-- one layer, with plain trees in place of the parts
abbrev pub leaf_step : LeafText-F Leaf → Leaf
leaf_step (leaf_texts.Capture at) = capture at
leaf_step (leaf_texts.Brace at e) = brace at (expr_of e)
leaf_step (leaf_texts.Operation at head ls) = operation at head (leaves ls)

abbrev pub leaf_of : LeafText → Leaf
leaf_of = fold-LeafText Leaf leaf_step

mutual
  pub data Result : Type 0 where
    leaf : Leaf → Result
    when : Expr → Result → Result
    choose : Expr → Result → Result → Result
    switch : Results → Result
    bound : List Decl → Result → Result

  pub data Results : Type 0 where
    none : Results
    more : Result → Results → Results

abbrev pub results : List Result → Results
results [] = none
results (r ∷ rs) = more r (results rs)

abbrev pub result_step : ResultText-F Result → Result
result_step (result_texts.Leaf l) = leaf (leaf_of l)
result_step (result_texts.If c a) = when (expr_of c) a
result_step (result_texts.IfElse c a b) = choose (expr_of c) a b
result_step (result_texts.Switch rs) = switch (results rs)
result_step (result_texts.With ds a) = bound (map decl_of ds) a

abbrev pub result_of : ResultText → Result
result_of = fold-ResultText Result result_step
