-- What the search leaves of the contract of `check_depth`.
use Rattle.std.proofs.Common.{◌≡◌, None, sym, ◌∙◌, arith}
use Rattle.pd_text.specs.declared.symbol.Symbol.TheVariants as symbols
use Rattle.pd_text.specs.declared.symbol.Word.TheVariants as words
use Rattle.pd_forms.specs.Depth.{fault_at}
use Rattle.pd_forms.proofs.DepthSteps.{none_is, next_level, next_fits, next_sound}
use Rattle.pd_forms.proofs.depth.check_depth.Goals as goal

pub loop-at-preserved : goal.loop-at-preserved
loop-at-preserved c =
    let d = symbols.Word words.Simplify (record { from = 0; to = 0 }) in
    let file = c.args.symbols.now in
    let at = c.loop-at.at in
    let none : fault_at file at ≡ None = sym c.fault_at.ensures ∙ none_is c.fault_at.result c.in_default.not-Some in
    let (is, fits, sound) = c.loop-at.invariant in (
      next_level d file at (omega (arith, c.loop-at-test.true)) c.loop-at.level c.open_after-level.result is c.open_after-level.ensures,
      next_fits d file at (omega (arith, c.loop-at-test.true)) c.loop-at.level c.open_after-level.result fits is c.open_after-level.ensures none,
      next_sound d file at (omega (arith, c.loop-at-test.true)) sound none,
    )
