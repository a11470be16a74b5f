use Rattle.std.proofs.Common.{sym, ap, subst, ◌∙◌}
use Rattle.gim_ast.specs.declared.function.Function.{Function}
use Rattle.cfg_tidy.specs.declared.change.Change.TheVariants as change
use Rattle.cfg_tidy.specs.Phis.{first_copy}
use Rattle.cfg_tidy.specs.Tidying.{AllReached, Makes, phi}
use Rattle.cfg_tidy.proofs.ReachedAfter.{all_reached_after_phi}
use Rattle.cfg_tidy.proofs.tidying.take_phi.Goals as goal

pub returns-in-Some : goal.returns-in-Some
returns-in-Some c =
    let f : Function = c.args.function.now in (
      subst (λ (g : Function). Makes f (change.Phi c.in-Some.name) g) (sym c.replace.ensures)
          (phi c.in-Some.name c.in-Some.by c.requires.branches c.requires.reached (sym (c.first_copy.ensures ∙ ap first_copy c.as_slice.ensures) ∙ c.in-Some.is)),
      subst (λ (g : Function). AllReached g.blocks g.blocks) (sym c.replace.ensures) (all_reached_after_phi c.in-Some.name c.in-Some.by f c.requires.reached),
    )
