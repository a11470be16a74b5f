use Rattle.std.proofs.lemmas.Result.{err_from_is_err_and}
use Rattle.first_gimple.proofs.Judging.{form_found, form_only, unread, refused_by}
use Rattle.first_gimple.proofs.OneKind.{all_uniform}
use Rattle.first_gimple.proofs.read.Goals as goal

pub returns-in_err-draft-clause-only : goal.returns-in_err-draft-clause-only
returns-in_err-draft-clause-only c = λ f form.
    let p = err_from_is_err_and c.from_residual.result c.from_residual.ensures.1 in
    rw (p.1, p.2) (unread c.args.source.now c.in_err-draft.field-0.0 c.in_err-draft.ensures f form)

pub returns-in_err-draft-clause-refused : goal.returns-in_err-draft-clause-refused
returns-in_err-draft-clause-refused c =
    refused_by c.args.source.now c.from_residual.result (λ f form.
    let p = err_from_is_err_and c.from_residual.result c.from_residual.ensures.1 in
    rw (p.1, p.2) (unread c.args.source.now c.in_err-draft.field-0.0 c.in_err-draft.ensures f form))

pub returns-clause-found : goal.returns-clause-found
returns-clause-found c = form_found c.args.source.now c.in_ok-draft.draft c.judged.result c.in_ok-draft.ensures c.judged.ensures

pub returns-clause-uniform : goal.returns-clause-uniform
returns-clause-uniform c = all_uniform c.args.source.now c.judged.result (form_found c.args.source.now c.in_ok-draft.draft c.judged.result c.in_ok-draft.ensures c.judged.ensures)

pub returns-clause-only : goal.returns-clause-only
returns-clause-only c = form_only c.args.source.now c.in_ok-draft.draft c.judged.result c.in_ok-draft.ensures c.judged.ensures

pub returns-clause-refused : goal.returns-clause-refused
returns-clause-refused c =
    refused_by c.args.source.now c.judged.result (form_only c.args.source.now c.in_ok-draft.draft c.judged.result c.in_ok-draft.ensures c.judged.ensures)
