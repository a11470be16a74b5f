-- What the loop over forms keeps.
use Rattle.std.proofs.Common.{◌≡◌, map, drop}
use Rattle.pd_files.specs.Forms.{form_of, forms}
use Rattle.pd_names.specs.Forms.{forms_fault, known_after_all}
use Rattle.pd_names.proofs.forms.+forms.Given as goal

abbrev pub invariant-check_forms-loop-form : goal.invariant-check_forms-loop-form
invariant-check_forms-loop-form l =
    (forms_fault l.source l.initial.known (forms (map form_of l.all)) ≡ forms_fault l.source l.known (forms (map form_of (drop l.form-index l.all))))
    × (known_after_all l.source l.initial.known (forms (map form_of l.all)) ≡ known_after_all l.source l.known (forms (map form_of (drop l.form-index l.all))))
