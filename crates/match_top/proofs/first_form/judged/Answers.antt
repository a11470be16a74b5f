-- A refused file has no function.
use Rattle.std.proofs.Common.{List, ℕ, refl, inl, inr, ⊎_elim}
use Rattle.gim_ast.specs.declared.function.Function.{Function}
use Rattle.first_gimple.specs.Meaning.{IsFirstForm}
use Rattle.match_top.specs.Needs.{not_yet_text}
use Rattle.match_top.specs.declared.needs.Kind.TheVariants.{FirstForm}
use Rattle.match_top.proofs.FirstFormLemmas.{refused_is_none}
use Rattle.match_top.proofs.first_form.judged.Goals as goal

pub returns-in-Err-NotFirst-clause-judges : goal.returns-in-Err-NotFirst-clause-judges
returns-in-Err-NotFirst-clause-judges c =
    let none : (f : Function) → IsFirstForm c.args.source.now f → ⊥ = refused_is_none _ _ c.in-Err-NotFirst.field-0-is c.in-Err-NotFirst.ensures.only in
    ⊎_elim (λ e. inl (record { text = not_yet_text FirstForm; refused = (none, refl); answered = e })) (λ e. inr e) c.faulty.ensures
