-- What the search leaves of the contracts of the functions on forms.
use Rattle.std.proofs.Common.{map, ap, ◌∙◌}
use Rattle.pd_files.specs.Forms.{form_of, forms}
use Rattle.pd_names.specs.Forms.{known_after_all}
use Rattle.pd_names.proofs.Choices.{left_again}
use Rattle.pd_names.proofs.forms.+forms.Goals as goal

pub check_for-returns-clause-after : goal.check_for-returns-clause-after
check_for-returns-clause-after t c =
    let source = c.args.source.now in
    let known = c.args.known.now in
    let lists = c.args.lists.now in
    let body = forms (map form_of c.args.body.now) in
    left_again source known c.check_forms.new.known lists body c.len-outside.result c.truncate.new.self
    (c.in_ok-check_forms.ensures.after ∙ ap (λ k. known_after_all source k body) c.in_ok-check_lists.ensures.after) c.len-outside.ensures c.truncate.ensures
