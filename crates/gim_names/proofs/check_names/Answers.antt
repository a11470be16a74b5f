use Rattle.std.proofs.Common.{◌≡◌, ℕ, ◌+◌, ◌∙◌, true, false, List, [], ◌∷◌, Some, drop, map, ap, sym, subst}
use Rattle.std.specs.List.{list_any}
use Rattle.std.specs.Str.{bytes_eq}
use Rattle.std.specs.HashSet.{contains_by}
use Rattle.std.proofs.lemmas.Bool.{not-true, not-false}
use Rattle.gim_ast.specs.WellFormed.{same_text}
use Rattle.gim_names.specs.NamesFault.{occurrences_fault, function_text, names_fault}
use Rattle.gim_text.proofs.FrontsAndRests.{drop_step}
use Rattle.gim_text.specs.Occurrences.{occurrences_of}
use Rattle.gim_names.specs.Tables.{HasTexts}
use Rattle.gim_names.proofs.Judging.{is_fault, is_fault_of, judges_err, names_begin, functions_second, functions_fault, functions_more}
use Rattle.gim_names.proofs.TextTables.{put_step, none_has}
use Rattle.gim_names.proofs.check_names.Goals as goal

pub loop-function-init : goal.loop-function-init
loop-function-init c =
    record {
      before = [];
      knows = none_has c.new-known.result c.new-known.ensures.empty;
      same = names_begin c.args.source.now c.args.functions.now;
    }

pub returns-then-not-branch : goal.returns-then-not-branch
returns-then-not-branch c =
    let judged = c.loop-function.invariant in
    let source = c.args.source.now in
    let all = c.args.functions.now in
    let at = c.loop-function.function-index in
    let f = c.function-item.result in
    let text = c.text.result.now in
    let known : contains_by (λ k. bytes_eq text k.now) c.loop-function.known ≡ true =
    not-false (contains_by (λ k. bytes_eq text k.now) c.loop-function.known)
    (sym c.in_ok-insert.ensures.added ∙ c.if-not-branch.true) in
    let again =
    subst (λ (x : List ℕ). list_any (same_text x) (map (function_text source) judged.before) ≡ true) c.text.ensures
    (sym (judged.knows text) ∙ known) in
    is_fault c.at.result.kind c.at.result (names_fault source all)
    (functions_second source all (drop at all) c.loop-function.known f (drop (at + 1) all) judged
    (drop_step all at f c.loop-function-test.true c.function-item.is) again ∙ ap Some (sym c.at.ensures))

pub returns-in_err-check_function : goal.returns-in_err-check_function
returns-in_err-check_function c =
    let judged = c.loop-function.invariant in
    let source = c.args.source.now in
    let all = c.args.functions.now in
    let at = c.loop-function.function-index in
    let f = c.function-item.result in
    let text = c.text.result.now in
    let fault = c.in_err-check_function.field-0.0 in
    let known : contains_by (λ k. bytes_eq text k.now) c.loop-function.known ≡ false =
    not-true (contains_by (λ k. bytes_eq text k.now) c.loop-function.known)
    (sym c.in_ok-insert.ensures.added ∙ c.if-not-branch.false) in
    let again =
    subst (λ (x : List ℕ). list_any (same_text x) (map (function_text source) judged.before) ≡ false) c.text.ensures
    (sym (judged.knows text) ∙ known) in
    judges_err c.from_residual-in_err-check_function.result fault (names_fault source all) c.from_residual-in_err-check_function.ensures.1
    (is_fault_of fault.kind fault (occurrences_fault source (occurrences_of f)) (names_fault source all)
    (λ e. functions_fault source all (drop at all) c.loop-function.known f (drop (at + 1) all) judged
    (drop_step all at f c.loop-function-test.true c.function-item.is) fault again e) c.in_err-check_function.ensures)

pub loop-function-preserved : goal.loop-function-preserved
loop-function-preserved c =
    let judged = c.loop-function.invariant in
    let source = c.args.source.now in
    let all = c.args.functions.now in
    let at = c.loop-function.function-index in
    let f = c.function-item.result in
    let text = c.text.result.now in
    let names = map (function_text source) judged.before in
    let known : contains_by (λ k. bytes_eq text k.now) c.loop-function.known ≡ false =
    not-true (contains_by (λ k. bytes_eq text k.now) c.loop-function.known)
    (sym c.in_ok-insert.ensures.added ∙ c.if-not-branch.false) in
    let again = subst (λ (x : List ℕ). list_any (same_text x) names ≡ false) c.text.ensures (sym (judged.knows text) ∙ known) in
    let knows : HasTexts c.insert.new.self (text ∷ names) =
    λ q. put_step text q (contains_by (λ k. bytes_eq q k.now) c.loop-function.known)
    (contains_by (λ k. bytes_eq q k.now) c.insert.new.self) names
    (c.in_ok-insert.ensures.updates.0 (record { ref_ptr = (0, 0); now = q })) (judged.knows q) in
    functions_more source all (drop at all) c.loop-function.known f (drop (at + 1) all) judged
    (drop_step all at f c.loop-function-test.true c.function-item.is) c.insert.new.self again
    c.in_ok-check_function.ensures
    (subst (λ (x : List ℕ). HasTexts c.insert.new.self (x ∷ names)) c.text.ensures knows)
