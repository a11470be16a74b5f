-- The functions of a file in which every rule is kept are well formed.
use Rattle.std.proofs.Common.{◌≡◌, ℕ, None, List, [], ◌∷◌, refl, sym, subst, inl, inr}
use Rattle.std.specs.List.{AllByRecursion, AllZip}
use Rattle.gim_ast.specs.declared.function.Function.{Function}
use Rattle.gim_ast.specs.WellFormed.{IsWellFormed}
use Rattle.gim_text.specs.declared.tree.FunctionText.{FunctionText}
use Rattle.pm_places.specs.FirstFaults.{first_fault}
use Rattle.gim_names.proofs.NamesKept.{each_keeps}
use Rattle.gim_shape.specs.HasShape.{BlockHolds, HasShape}
use Rattle.gim_shape.proofs.ShapeKept.{shape_kept}
use Rattle.gim_limits.specs.KeepsLimits.{KeepsLimits}
use Rattle.gim_limits.proofs.LimitsKept.{limits_kept}
use Rattle.gim_making.specs.SoundFiles.{IsSound}
use Rattle.gim_making.specs.Standing.{StandsFor, made}
use Rattle.gim_typing.specs.Types.{places_of_function, types_fault}
use Rattle.gim_making.specs.Written.{IsWritten}
use Rattle.gim_text.proofs.Membership.{Has, each_has, has_contains}
use Rattle.gim_making.proofs.MadeOperands.{ArePhisFirst}
use Rattle.gim_making.proofs.SmallNumbers.{are_small}
use Rattle.gim_making.proofs.DeclarationsHold.{declarations, types}
use Rattle.gim_making.proofs.NamesHold.{names}
use Rattle.gim_making.proofs.BlocksHold.{blocks}
use Rattle.gim_making.proofs.OperandsHold.{each_fits, operands}
use Rattle.gim_making.proofs.BoundsHold.{bounds}

types_fit : (source : List ℕ) (trees : List FunctionText) → types_fault source trees ≡ None → (tree : FunctionText)
    → Has trees tree → first_fault (places_of_function source tree) ≡ None
unfolding types_fault
types_fit source trees e tree there = each_fits source trees e tree there

one : (source : List ℕ) (trees : List FunctionText) → IsSound source trees → (tree : FunctionText) → Has trees tree
    → (f : Function) → StandsFor source tree f → IsWellFormed f
one source trees sound tree there f stands =
    let written = each_has (IsWritten source) trees sound.written tree there in
    let kept = each_keeps source trees sound.names tree (has_contains trees tree there) in
    let shaped = each_has (HasShape source) trees (shape_kept source trees sound.shape) tree there in
    let limits = each_has (KeepsLimits source) trees (limits_kept source trees sound.limits) tree there in
    let fits = types_fit source trees sound.types tree there in
    let small = are_small source tree limits in
    let first : ArePhisFirst tree =
    λ block in_tree. (each_has (BlockHolds source tree.blocks) tree.blocks shaped.blocks block in_tree).order in
    let whole : IsWellFormed (made source tree f.names) = record {
      declarations = declarations source tree f.names written kept;
      types = types source tree f.names written;
      names = names source tree f.names kept small first stands.names;
      blocks = blocks source tree f.names written kept limits shaped;
      operands = operands source tree f.names written kept small first stands.names fits;
      bounds = bounds source tree f.names written kept small first limits stands.names;
    } in
    subst IsWellFormed (sym stands.whole) whole

each : (source : List ℕ) (trees : List FunctionText) → IsSound source trees → (some : List FunctionText)
    → ((tree : FunctionText) → Has some tree → Has trees tree) → (fs : List Function)
    → AllZip (StandsFor source) some fs → AllByRecursion IsWellFormed fs
each source trees sound [] among [] h = tt
each source trees sound [] among (f ∷ fs) h = absurd h
each source trees sound (tree ∷ some) among [] h = absurd h
each source trees sound (tree ∷ some) among (f ∷ fs) h = (
  one source trees sound tree (among tree (inl refl)) f h.0,
  each source trees sound some (λ t there. among t (inr there)) fs h.1,
)

pub sound_files : (source : List ℕ) (trees : List FunctionText) (functions : List Function) → IsSound source trees
    → AllZip (StandsFor source) trees functions → AllByRecursion IsWellFormed functions
sound_files source trees functions sound stand = each source trees sound trees (λ tree there. there) functions stand
