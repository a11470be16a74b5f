use Rattle.std.proofs.Common.{◌≡◌, true, ◌∙◌}
use Rattle.pm_wide.proofs.Residues.{added}
use Rattle.ring_forms.specs.Places.{form_place, form_has}
use Rattle.ring_forms.proofs.FormLemmas.{gone_part, changed_part}
use Rattle.ring_forms.proofs.form.add_part.Goals as goal

pub returns-then-coefficient-eq0 : goal.returns-then-coefficient-eq0
returns-then-coefficient-eq0 c =
    let place : c.place_of-place.result ≡ form_place c.args.part.atoms c.args.form.now = cc (c.place_of-place.ensures.value, c.as_slice.ensures, c.as_slice-2.ensures) in
    let has : form_has c.args.part.atoms c.args.form.now c.place_of-place.result ≡ true = cc (c.stands_at.ensures.value, c.as_slice-3.ensures, c.as_slice-4.ensures, c.if-not-stands_at.false) in
    c.remove-gone.ensures.rest
    ∙ gone_part c.args.ty.width c.args.part c.at.result.now c.args.form.now c.place_of-place.result c.reduced-coefficient.result place has c.at.ensures.item
    (c.reduced-coefficient.ensures.value ∙ added c.args.ty.width c.at.result.now.coefficient c.args.part.coefficient c.reduced-coefficient.ensures.width) c.if-coefficient-eq0.true

pub returns-else-coefficient-eq0 : goal.returns-else-coefficient-eq0
returns-else-coefficient-eq0 c =
    let place : c.place_of-place.result ≡ form_place c.args.part.atoms c.args.form.now = cc (c.place_of-place.ensures.value, c.as_slice.ensures, c.as_slice-2.ensures) in
    let has : form_has c.args.part.atoms c.args.form.now c.place_of-place.result ≡ true = cc (c.stands_at.ensures.value, c.as_slice-3.ensures, c.as_slice-4.ensures, c.if-not-stands_at.false) in
    c.set.ensures
    ∙ changed_part c.args.ty.width c.args.part c.at.result.now c.args.form.now c.place_of-place.result c.reduced-coefficient.result place has c.at.ensures.item
    (c.reduced-coefficient.ensures.value ∙ added c.args.ty.width c.at.result.now.coefficient c.args.part.coefficient c.reduced-coefficient.ensures.width) c.if-coefficient-eq0.false
