-- Changes one after another keep what each of them keeps.
use Rattle.std.proofs.Common.{◌≡◌, List, map, refl, sym, ap, ◌∙◌}
use Rattle.pm_wide.specs.Types.{Word}
use Rattle.gim_ast.specs.declared.function.Function.{Function}
use Rattle.gim_ast.specs.declared.function.Decl.{Decl}
use Rattle.gim_meaning.specs.KeptRuns.{AreArgumentWords, KeepsDefinedRuns}

pub keeps_itself : (f : Function) → KeepsDefinedRuns f f
keeps_itself f = record { params = refl; runs = λ args words fuel defined. refl }

pub same_arguments : (f g : Function) (args : List Word) → g.params ≡ f.params →
    AreArgumentWords f args → AreArgumentWords g args
same_arguments f g args params words = record {
  types = words.types ∙ ap (map (λ (decl : Decl). decl.ty)) (sym params);
  words = words.words;
}

pub keeps_through : (f g h : Function) → KeepsDefinedRuns f g → KeepsDefinedRuns g h →
    KeepsDefinedRuns f h
keeps_through f g h first second = record {
  params = second.params ∙ first.params;
  runs = λ args words fuel defined.
      let before = first.runs args words fuel defined in
      second.runs args (same_arguments f g args first.params words) fuel
      (λ x undefined. defined x (sym before ∙ undefined)) ∙ before;
}
