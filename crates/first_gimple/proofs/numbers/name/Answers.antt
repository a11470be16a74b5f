use Rattle.std.proofs.Common.{◌∙◌, sym, ap}
use Rattle.lexing.specs.Numbers.{number_below}
use Rattle.first_gimple.specs.declared.numbers.TheConstants.{VERSIONS}
use Rattle.first_gimple.proofs.Names.{no_name_whole, no_name_other, no_name_number, name_found}
use Rattle.first_gimple.proofs.numbers.name.Goals as goal
use Rattle.first_gimple.proofs.numbers.name.Goals.{then-at-eq0-via-then-at-eq0, then-at-eq0-via-else-at-eq0+then-token-at-ne95}

pub returns-then-at-eq0 : goal.returns-then-at-eq0
returns-then-at-eq0 c =
    let token = c.args.token.now in
    let at = c.last_digits-at.result in
    let e = c.last_digits-at.ensures in
    elim c.then-at-eq0.branch [
      | then-at-eq0-via-then-at-eq0 w ↦ sym (no_name_whole VERSIONS token at w.if-at-eq0.true e.digits)
      | then-at-eq0-via-else-at-eq0+then-token-at-ne95 w ↦ sym (no_name_other VERSIONS token at w.if-at-eq0.false e.within e.first e.digits w.if-token-at-ne95.true)
    ]

pub returns-in_err-version : goal.returns-in_err-version
returns-in_err-version c =
    let e = c.last_digits-at.ensures in
    rw c.from_residual.ensures (sym (no_name_number VERSIONS c.args.token.now c.last_digits-at.result c.if-at-eq0.false e.within e.first e.digits c.if-token-at-ne95.false (ap (number_below VERSIONS) (sym c.split_at.ensures.back) ∙ sym c.number_below.ensures ∙ c.in_err-version.was)))

pub returns : goal.returns
returns c =
    let e = c.last_digits-at.ensures in
    sym (name_found VERSIONS c.args.token.now c.last_digits-at.result c.in_ok-version.version c.if-at-eq0.false e.within e.digits c.if-token-at-ne95.false (ap (number_below VERSIONS) (sym c.split_at.ensures.back) ∙ sym c.number_below.ensures ∙ c.in_ok-version.was))
