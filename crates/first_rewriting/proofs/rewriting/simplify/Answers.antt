use Rattle.std.proofs.Common.{◌≡◌, ◌-◌, ◌+◌, suc, ap, sym, ◌∙◌, subst, arith}
use Rattle.first_rewriting.specs.Rewriting.{rewriting_of}
use Rattle.first_patterns.specs.Matching.{row_at}
use Rattle.first_rewriting.specs.Choices.{found_of}
use Rattle.first_rewriting.specs.Views.{firing_told}
use Rattle.first_rewriting.proofs.Choosing.{none_found, some_found}
use Rattle.first_rewriting.proofs.Stepping.{Leads, leads_begin, leads_on, leads_to_end}
use Rattle.first_rewriting.proofs.Stepping.{leads_to_budget, typed_begin, typed_on, typed_folds}
use Rattle.first_rewriting.proofs.Stepping.{kept_some}
use Rattle.first_rewriting.proofs.rewriting.simplify.Goals as goal

pub loop-init : goal.loop-init
loop-init c = record {
  leads = leads_begin c.args.rows.now c.new-firings.result _ c.args.budget c.args.function c.tidy.new.function
      c.new-firings.ensures (omega arith) c.tidy.ensures;
  typed = typed_begin c.args.function c.tidy.new.function c.tidy.ensures c.requires.typed;
}

pub next-requires-clause-typed : goal.next-requires-clause-typed
next-requires-clause-typed c = typed_folds c.loop.function c.loop.invariant.typed

pub returns-in_default : goal.returns-in_default
returns-in_default c =
    leads_to_end c.args.rows.now c.loop.firings (c.args.budget - c.loop.counter) c.loop.function _
    (none_found found_of _ _ c.in_default.is c.next.ensures) c.loop.invariant.leads

pub loop-preserved : goal.loop-preserved
loop-preserved c =
    let rows = c.args.rows.now in
    let f = c.loop.function in
    let g = c.carry_out.new.function in
    let placed = found_of c.in-Some.found in
    let there = some_found found_of _ _ _ c.in-Some.is c.next.ensures in
    let more : c.args.budget - c.loop.counter ≡ suc (c.args.budget - (c.loop.counter + 1)) = omega arith in
    let on =
    leads_on rows c.loop.firings c.in_ok-firing_at.field-0 (c.args.budget - c.loop.counter)
    (c.args.budget - (c.loop.counter + 1)) f g placed _ more there (ap firing_told c.in_ok-firing_at.ensures)
    c.carry_out.ensures c.loop.invariant.leads in
    record {
      leads = subst (λ firings. Leads rows firings (c.args.budget - (c.loop.counter + 1)) g
          (rewriting_of (row_at rows) c.args.budget c.args.function)) (sym c.in_ok-push.ensures.ok) on;
      typed = typed_on rows f g placed c.requires.keep there c.carry_out.ensures c.loop.invariant.typed;
    }

pub next-requires-2-clause-typed : goal.next-requires-2-clause-typed
next-requires-2-clause-typed c = typed_folds c.loop.function c.loop.invariant.typed

pub returns : goal.returns
returns c =
    leads_to_budget c.args.rows.now c.loop.firings (c.args.budget - c.loop.counter) c.loop.function
    c.is_some-exhausted.result _ (omega arith)
    (c.is_some-exhausted.ensures ∙ kept_some found_of c.next-2.result _ c.next-2.ensures) c.loop.invariant.leads
