use Rattle.std.proofs.Common.{◌∙◌, List, ℕ, option_map, sym, ap}
use Rattle.std.specs.Prelude.{not}
use Rattle.std.specs.Borrow.{Bor}
use Rattle.gim_names.proofs.TextTables.{other_some, other_none}
use Rattle.gim_names.proofs.tables.has_other.Goals as goal
use Rattle.gim_text.proofs.SameTexts.{same_text_symm}

pub returns-in-Some : goal.returns-in-Some
returns-in-Some c = λ pairs h one.
    let found = c.in-Some.found.now.now in
    c.ne.ensures ∙ ap not (same_text_symm found c.args.value.now)
    ∙ sym (other_some c.args.key.now c.args.value.now found pairs one
    (sym (h c.args.key.now) ∙ ap (option_map (λ (v : Bor (List ℕ)). v.now)) (sym c.in-Some.ensures.value)))

pub returns-in-None : goal.returns-in-None
returns-in-None c =
    λ pairs h one. sym (other_none c.args.key.now c.args.value.now pairs
    (sym (h c.args.key.now) ∙ ap (option_map (λ (v : Bor (List ℕ)). v.now)) (sym c.in-None.ensures.value)))
