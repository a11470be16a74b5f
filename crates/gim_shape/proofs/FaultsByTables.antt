-- The places of a function, by its tables.
use Rattle.std.proofs.Common.{◌≡◌, ℕ, Bool, true, false, List, ◌∷◌, ◌++◌, Result, sym, ap, subst, ◌∙◌}
use Rattle.std.specs.List.{flat_map}
use Rattle.pm_places.specs.declared.span.Span.{Span}
use Rattle.gim_text.specs.declared.fault.GimpleFault.{GimpleFault}
use Rattle.gim_text.specs.declared.tree.BlockText.{BlockText}
use Rattle.gim_text.specs.Faults.{Judges}
use Rattle.pm_places.specs.FirstFaults.{first_fault}
use Rattle.gim_shape.specs.Blocks.{is_among, numbers_of, predecessors}
use Rattle.gim_shape.specs.Shape.{block_faults, body_faults}

pub body_by_tables : {X : Type 0} (source : List ℕ) (close : Span) (blocks : List BlockText) (entry : BlockText) (rest : List BlockText)
    (is_there : List ℕ → Bool) (jump_here : List ℕ → List Span) (r : Result X GimpleFault)
    → blocks ≡ entry ∷ rest → is_there ≡ is_among (numbers_of source blocks) → jump_here ≡ predecessors source blocks
    → Judges (first_fault (block_faults source is_there jump_here false entry
    ++ flat_map (block_faults source is_there jump_here true) rest)) r
    → Judges (first_fault (body_faults source close blocks)) r
body_by_tables source close blocks entry rest is_there jump_here r parts there here judged =
    let known =
    subst (λ (f : List ℕ → Bool). Judges (first_fault
    (block_faults source f jump_here false entry ++ flat_map (block_faults source f jump_here true) rest)) r)
    (there ∙ ap (λ bs. is_among (numbers_of source bs)) parts) judged in
    let same =
    subst (λ (g : List ℕ → List Span). Judges
    (first_fault (block_faults source (is_among (numbers_of source (entry ∷ rest))) g false entry
    ++ flat_map (block_faults source (is_among (numbers_of source (entry ∷ rest))) g true) rest)) r)
    (here ∙ ap (predecessors source) parts) known in
    subst (λ bs. Judges (first_fault (body_faults source close bs)) r) (sym parts) same
