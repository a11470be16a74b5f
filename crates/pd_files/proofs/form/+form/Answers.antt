-- What the search leaves of the contracts of the readers of forms.
use Rattle.std.proofs.Common.{◌≡◌, [], ◌∷◌, ◌++◌, map, Ok, ap, subst, sym, ◌∙◌, arith}
use Rattle.std.proofs.lemmas.List.{map-append}
use Rattle.grammar.specs.Reading.{and_item, more_at}
use Rattle.grammar.specs.Gives.{GivesInMemory}
use Rattle.grammar.proofs.ItemLoops.{goes_on}
use Rattle.pd_files.specs.Forms.{form_of}
use Rattle.pd_files.specs.FormReaders.{begins_form, forms_at}
use Rattle.pd_forms.proofs.Depths.{one_deeper}
use Rattle.pd_files.proofs.form.+form.Goals as goal

pub read_within-returns-clause-reads : goal.read_within-returns-clause-reads
read_within-returns-clause-reads t c =
    subst (λ answer. GivesInMemory (λ x. (form_of x.0, x.1.now)) c.read_any.result answer)
    (sym (one_deeper (λ k. forms_at k c.args.symbols.now) c.args.room (omega (arith, c.requires.roomy)))) c.read_any.ensures.reads

pub read_further-loop-alloc-preserved : goal.read_further-loop-alloc-preserved
read_further-loop-alloc-preserved t c =
    let inner = forms_at c.args.room in
    let before = map form_of c.loop-alloc.forms in
    let after = c.in_ok-form.after.now in
    let pushed : c.push.new.self ≡ c.loop-alloc.forms ++ c.in_ok-form.form ∷ [] = c.in_ok-push.ensures.ok in
    let now : map form_of c.push.new.self ≡ before ++ form_of c.in_ok-form.form ∷ [] =
    ap (map form_of) pushed ∙ map-append form_of c.loop-alloc.forms (c.in_ok-form.form ∷ []) in
    let item : and_item before (inner c.loop-alloc.rest.now) ≡ Ok (map form_of c.push.new.self, after) =
    ap (and_item before) c.in_ok-form.ensures.reads ∙ ap (λ l. Ok (l, after)) (sym now) in (
      goes_on begins_form inner (more_at begins_form inner (map form_of c.args.first) c.args.symbols.now) before c.loop-alloc.rest.now c.loop-alloc.invariant.0
          (sym c.begins_form.ensures ∙ c.loop-alloc-test.true) (map form_of c.push.new.self) after item c.in_ok-form.ensures.shorter,
      omega (arith, c.loop-alloc.invariant.1, c.in_ok-form.ensures.shorter),
    )
