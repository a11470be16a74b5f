use Rattle.std.proofs.Common.{◌∙◌, sym, ap}
use Rattle.lexing.specs.Numbers.{is_number_text}
use Rattle.gim_text.proofs.NameLemmas.{no_name_whole, no_name_other, no_name_number, name_found}
use Rattle.gim_text.proofs.texts.name_parts.Goals as goal
use Rattle.gim_text.proofs.texts.name_parts.Goals.{then-at-eq0-via-then-at-eq0, then-at-eq0-via-else-at-eq0+then-text-at-ne95}

pub returns-then-at-eq0 : goal.returns-then-at-eq0
returns-then-at-eq0 c =
    let text = c.args.text.now in
    let at = c.last_digits-at.result in
    let e = c.last_digits-at.ensures in
    elim c.then-at-eq0.branch [
      | then-at-eq0-via-then-at-eq0 w ↦ sym (no_name_whole text at w.if-at-eq0.true e.digits)
      | then-at-eq0-via-else-at-eq0+then-text-at-ne95 w ↦ sym
          (no_name_other text at w.if-at-eq0.false e.within e.first e.digits w.if-text-at-ne95.true)
    ]

pub returns-then-not-is_number_text : goal.returns-then-not-is_number_text
returns-then-not-is_number_text c =
    let e = c.last_digits-at.ensures in
    sym (no_name_number c.args.text.now c.last_digits-at.result c.if-at-eq0.false e.within e.first e.digits
    (ap is_number_text (sym c.split_at.ensures.back) ∙ sym c.is_number_text.ensures
    ∙ search c.if-not-is_number_text.true))

pub returns : goal.returns
returns c =
    let e = c.last_digits-at.ensures in
    rw c.split_at.ensures.back (sym (name_found c.args.text.now c.last_digits-at.result c.if-at-eq0.false e.within
    c.if-text-at-ne95.false (ap is_number_text (sym c.split_at.ensures.back) ∙ sym c.is_number_text.ensures
    ∙ search c.if-not-is_number_text.false)))
