-- What the occurrences of a function declare is what it declares.
use Rattle.std.proofs.Common.{◌≡◌, ℕ, List, [], ◌++◌, refl, ◌∙◌}
use Rattle.std.proofs.lemmas.List.{append-nil}
use Rattle.gim_text.specs.declared.tree.FunctionText.{FunctionText}
use Rattle.gim_text.proofs.OccurrenceLemmas.{each_says, none_says, said_at_heads}
use Rattle.gim_names.specs.OccurrenceTexts.{param_text, local_text, declared_text, block_number}
use Rattle.gim_names.specs.KeepsNames.{ident_text, params_of, locals_of, number_text, OccurrencesDeclare}

pub declares : (source : List ℕ) (f : FunctionText) → OccurrencesDeclare source f
declares source f = record {
  params = said_at_heads (param_text source)
      (record {
        jump = λ at. refl;
        assigned = λ at. refl;
        used = λ at. refl;
        initial = λ at. refl;
        constant = λ literal. refl;
      }) f
      ∙ three (each_says (ident_text source) f.params) (none_says f.decls) (none_says f.blocks)
      ∙ append-nil (params_of source f ++ []) ∙ append-nil (params_of source f);
  locals = said_at_heads (local_text source)
      (record {
        jump = λ at. refl;
        assigned = λ at. refl;
        used = λ at. refl;
        initial = λ at. refl;
        constant = λ literal. refl;
      }) f
      ∙ three (none_says f.params) (each_says (ident_text source) f.decls) (none_says f.blocks) ∙ append-nil (locals_of source f);
  declared = said_at_heads (declared_text source)
      (record {
        jump = λ at. refl;
        assigned = λ at. refl;
        used = λ at. refl;
        initial = λ at. refl;
        constant = λ literal. refl;
      }) f
      ∙ three (each_says (ident_text source) f.params) (each_says (ident_text source) f.decls) (none_says f.blocks)
      ∙ append-nil (params_of source f ++ locals_of source f);
  blocks = said_at_heads (block_number source)
      (record {
        jump = λ at. refl;
        assigned = λ at. refl;
        used = λ at. refl;
        initial = λ at. refl;
        constant = λ literal. refl;
      }) f
      ∙ three (none_says f.params) (none_says f.decls) (each_says (number_text source) f.blocks);
} where
  three : {us vs ws xs ys zs : List (List ℕ)} → us ≡ xs → vs ≡ ys → ws ≡ zs → (us ++ vs) ++ ws ≡ (xs ++ ys) ++ zs
  three p q r = cc
