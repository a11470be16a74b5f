-- What a function may be run on.
use Rattle.std.specs.Prelude.{◌≡◌, List, map}
use Rattle.pm_wide.specs.Types.{Word}
use Rattle.gim_ast.specs.declared.function.Function.{Function}
use Rattle.gim_ast.specs.declared.function.Decl.{Decl}
use Rattle.gim_run.specs.Slots.{types_of_words}

-- one word for each parameter, of its type
abbrev pub AreArguments : Function → List Word → Type 0
AreArguments f args = types_of_words args ≡ map (λ (decl : Decl). decl.ty) f.params
