-- A draft is judged by its rules, and a text by its draft.
use Rattle.std.proofs.Common.{◌≡◌, ℕ, ◌<◌, ◌≤◌, true, false, List, [], length, Some, None, Result, Ok, Err, refl, sym, ap, subst, ◌∙◌, arith, MatchResult}
use Rattle.std.specs.Prelude.{IfOk, ◌&&◌, ◌==◌}
use Rattle.std.specs.List.{list_any, list_all}
use Rattle.std.proofs.lemmas.Bool.{and_parts, and_from, false≢true}
use Rattle.gim_ast.specs.declared.function.Function.{Function}
use Rattle.gim_ast.specs.declared.function.NameRow.{NameRow}
use Rattle.gim_ast.specs.Identifiers.{is_identifier}
use Rattle.gim_ast.specs.WellFormed.{same_text, all_distinct, initial_bases}
use Rattle.first_gimple.specs.declared.fault.FirstFault.{FirstFault}
use Rattle.first_gimple.specs.declared.fault.FirstFault.TheVariants.{NotFirst, Memory}
use Rattle.first_gimple.specs.declared.draft.Draft.{Draft}
use Rattle.first_gimple.specs.Pieces.{tokens_of}
use Rattle.first_gimple.specs.Reading.{Fails, draft_at}
use Rattle.first_gimple.specs.Rules.{is_param, KeepsRules}
use Rattle.first_gimple.specs.Meaning.{AreNames, DefaultsHold, StandsFor, IsFirstForm, named_rows, made}
use Rattle.first_gimple.specs.Tests.{Finds, is_in_order, defaults_hold}
use Rattle.first_gimple.proofs.Cutting.{tokens_spelled, tokens_only, few_tokens}
use Rattle.first_gimple.proofs.Sequence.{InOrder, order_is, order_from}
use Rattle.first_gimple.proofs.Tables.{names_are_one}
use Rattle.first_gimple.proofs.Whole.{draft_is, draft_here}

-- ---- a draft

pub rules_from : (draft : Draft) → (is_identifier draft.name && list_all is_param draft.params) ≡ true → all_distinct same_text draft.params ≡ true → all_distinct ◌==◌ draft.locals ≡ true
    → is_in_order draft.locals [] draft.lines draft.end ≡ true → KeepsRules draft
rules_from draft identifiers params locals ordered =
    let i = and_parts (is_identifier draft.name) (list_all is_param draft.params) identifiers in
    let o = order_is draft.locals [] draft.lines draft.end ordered in
    record { name = i.0; params = i.1; distinct_params = params; locals = locals; lines = o.each; end = o.last }

pub out_of_order : (draft : Draft) (f : Function) → is_in_order draft.locals [] draft.lines draft.end ≡ false → KeepsRules draft × StandsFor draft f → ⊥
out_of_order draft f h k =
    let o : InOrder draft.locals [] draft.lines draft.end = record { each = k.0.lines; last = k.0.end } in
    false≢true (sym h ∙ order_from draft.locals [] draft.lines draft.end o)

pub stands_from : (draft : Draft) (names : List NameRow) → AreNames (named_rows draft) names → length names ≤ 20000 → defaults_hold draft.params names ≡ true → StandsFor draft (made draft names)
unfolding made
stands_from draft names are few defaults =
    let d = and_parts (list_all (λ base. list_any (same_text base) draft.params) (initial_bases names)) (all_distinct same_text (initial_bases names)) defaults in
    record { whole = refl; names = are; defaults = record { of_params = d.0; distinct = d.1 }; few = few }

pub too_many : (draft : Draft) (names : List NameRow) (f : Function) → AreNames (named_rows draft) names → 20000 < length names → KeepsRules draft × StandsFor draft f → ⊥
too_many draft names f are many k =
    let few : length names ≤ 20000 = subst (λ ns. length ns ≤ 20000) (names_are_one (named_rows draft) f.names names k.1.names are) k.1.few in
    absurd (omega arith)

pub no_defaults : (draft : Draft) (names : List NameRow) (f : Function) → AreNames (named_rows draft) names → defaults_hold draft.params names ≡ false → KeepsRules draft × StandsFor draft f → ⊥
no_defaults draft names f are h k =
    let d : DefaultsHold draft.params names = subst (DefaultsHold draft.params) (names_are_one (named_rows draft) f.names names k.1.names are) k.1.defaults in
    false≢true (sym h ∙ and_from (list_all (λ base. list_any (same_text base) draft.params) (initial_bases names)) (all_distinct same_text (initial_bases names)) d.of_params d.distinct)

-- ---- a text

-- the draft of a text of the first form is the one that is read
draft_of_form : (bytes : List ℕ) (f : Function) (form : IsFirstForm bytes f) → draft_at (length bytes) (tokens_of bytes) ≡ Some form.draft
draft_of_form bytes f form =
    let cut = tokens_only form.tokens bytes form.spells_tokens in
    let short = few_tokens bytes in
    let within : length form.tokens ≤ length bytes = subst (λ ts. length ts ≤ length bytes) cut short in
    ap (draft_at (length bytes)) cut ∙ draft_here (length bytes) form.tokens form.draft within form.spells_draft

one_function : (draft : Draft) (f g : Function) → StandsFor draft f → StandsFor draft g → f ≡ g
one_function draft f g p q = p.whole ∙ ap (made draft) (names_are_one (named_rows draft) f.names g.names p.names q.names) ∙ sym q.whole

some_draft : (x y : Draft) → Some x ≡ Some y → x ≡ y
some_draft x y e = cc

same_draft : (bytes : List ℕ) (draft : Draft) (f : Function) → draft_at (length bytes) (tokens_of bytes) ≡ Some draft → IsFirstForm bytes f → KeepsRules draft × StandsFor draft f
same_draft bytes draft f read form =
    subst (λ d. KeepsRules d × StandsFor d f) (some_draft form.draft draft (sym (draft_of_form bytes f form) ∙ read)) (form.rules, form.stands)

pub form_found : (bytes : List ℕ) (draft : Draft) (r : Result Function FirstFault) → draft_at (length bytes) (tokens_of bytes) ≡ Some draft → Finds (λ f. KeepsRules draft × StandsFor draft f) r → IfOk r (IsFirstForm bytes)
form_found bytes draft (Ok f) read found = record {
  draft = draft;
  tokens = tokens_of bytes;
  spells_tokens = tokens_spelled bytes;
  spells_draft = draft_is (length bytes) (tokens_of bytes) draft read;
  rules = found.0;
  stands = found.1;
}
form_found bytes draft (Err fault) read found = tt

pub form_only : (bytes : List ℕ) (draft : Draft) (r : Result Function FirstFault) → draft_at (length bytes) (tokens_of bytes) ≡ Some draft → Finds (λ f. KeepsRules draft × StandsFor draft f) r
    → (f : Function) → IsFirstForm bytes f → MatchResult r (λ g. g ≡ f) (λ fault. fault ≡ Memory)
form_only bytes draft (Ok g) read found f form = one_function draft g f found.1 (same_draft bytes draft f read form).1
form_only bytes draft (Err NotFirst) read found f form = absurd (found f (same_draft bytes draft f read form))
form_only bytes draft (Err Memory) read found f form = refl

pub unread : (bytes : List ℕ) (fault : FirstFault) → Fails fault (draft_at (length bytes) (tokens_of bytes)) → (f : Function) → IsFirstForm bytes f → fault ≡ Memory
unread bytes NotFirst none f form = absurd (different form.draft (sym none ∙ draft_of_form bytes f form)) where
  different : (d : Draft) → None ≡ Some d → ⊥
  different d e = cc
unread bytes Memory none f form = refl

-- a text stands for one function at most
pub one_for_text : (bytes : List ℕ) (f g : Function) → IsFirstForm bytes f → IsFirstForm bytes g → f ≡ g
one_for_text bytes f g p q = one_function p.draft f g p.stands (same_draft bytes p.draft g (draft_of_form bytes f p) q).1

-- what is refused stands for nothing
pub refused_by : (bytes : List ℕ) (r : Result Function FirstFault) → ((f : Function) → IsFirstForm bytes f → MatchResult r (λ g. g ≡ f) (λ fault. fault ≡ Memory))
    → r ≡ Err NotFirst → (f : Function) → IsFirstForm bytes f → ⊥
refused_by bytes (Ok g) only e f form = absurd cc
refused_by bytes (Err NotFirst) only e f form = let fault : NotFirst ≡ Memory = only f form in absurd cc
refused_by bytes (Err Memory) only e f form = absurd cc
