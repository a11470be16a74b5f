-- What the search leaves of the contract of `read_forms`.
use Rattle.std.proofs.Common.{◌≡◌, [], ◌∷◌, ◌++◌, map, Ok, ap, sym, ◌∙◌, arith}
use Rattle.std.proofs.lemmas.List.{map-append}
use Rattle.grammar.specs.Reading.{and_item}
use Rattle.std.proofs.lemmas.Result.{err_from_is_err_and}
use Rattle.grammar.proofs.Loops.{stops_whole}
use Rattle.grammar.proofs.ItemLoops.{goes_on, stops, ends}
use Rattle.pd_files.specs.Forms.{form_of}
use Rattle.pd_files.specs.FormReaders.{any_symbol, top_at, file_at}
use Rattle.pd_files.proofs.file.read_forms.Goals as goal

pub loop-alloc-preserved : goal.loop-alloc-preserved
loop-alloc-preserved c =
    let before = map form_of c.loop-alloc.forms in
    let after = c.in_ok-form.after.now in
    let pushed : c.push.new.self ≡ c.loop-alloc.forms ++ c.in_ok-form.form ∷ [] = c.in_ok-push.ensures.ok in
    let now : map form_of c.push.new.self ≡ before ++ form_of c.in_ok-form.form ∷ [] =
    ap (map form_of) pushed ∙ map-append form_of c.loop-alloc.forms (c.in_ok-form.form ∷ []) in
    let item : and_item before (top_at c.loop-alloc.rest.now) ≡ Ok (map form_of c.push.new.self, after) =
    ap (and_item before) c.in_ok-form.ensures.reads ∙ ap (λ l. Ok (l, after)) (sym now) in (
      goes_on any_symbol top_at (file_at c.args.symbols.now) before c.loop-alloc.rest.now c.loop-alloc.invariant.0
          (sym c.begins_top.ensures ∙ c.loop-alloc-test.true) (map form_of c.push.new.self) after item c.in_ok-form.ensures.shorter,
      omega (arith, c.loop-alloc.invariant.1, c.in_ok-form.ensures.shorter),
    )

pub returns-clause-reads : goal.returns-clause-reads
returns-clause-reads c =
    ends any_symbol top_at (file_at c.args.symbols.now) (map form_of c.loop-alloc.forms) c.loop-alloc.rest.now c.loop-alloc.invariant.0
    (sym c.begins_top.ensures ∙ c.loop-alloc-test.false)

pub returns-in_err-form-clause-reads : goal.returns-in_err-form-clause-reads
returns-in_err-form-clause-reads c =
    let before = map form_of c.loop-alloc.forms in
    let rest = c.loop-alloc.rest.now in
    let stop = c.in_err-form.field-0.0 in
    let p = err_from_is_err_and c.from_residual.result c.from_residual.ensures.1 in
    rw (p.1, p.2)
    (stops any_symbol top_at (file_at c.args.symbols.now) before rest c.loop-alloc.invariant.0 (sym c.begins_top.ensures ∙ c.loop-alloc-test.true) stop
    (stops_whole stop (top_at rest) (λ x. Ok (before ++ x.0 ∷ [], x.1)) c.in_err-form.ensures.reads))
