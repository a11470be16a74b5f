-- What the lists of a `for` make known is let go at its end, and forms leave the rest of it as it was.
use Rattle.std.proofs.Common.{◌≡◌, ℕ, List, [], ◌∷◌, ◌++◌, take, length, refl, sym, ap, ◌∙◌}
use Rattle.std.proofs.lemmas.List.{append_assoc, append-nil}
use Rattle.pd_files.specs.declared.tree.ListText.{ListText}
use Rattle.pd_files.specs.Forms as file_forms
use Rattle.pd_files.specs.Forms.{Form, Forms}
use Rattle.pd_pattern_names.specs.declared.known.Chosen.{Chosen}
use Rattle.pd_pattern_names.specs.declared.known.Known.{Known}
use Rattle.pd_names.specs.Lists.{under, with_choice, chosen_of}
use Rattle.pd_names.specs.Forms.{leaving, known_after, known_after_all}

-- the choices under the lists of a `for` are those before and more
pub choices_under : (source : List ℕ) (known : Known) (lists : List ListText) → (more : List Chosen) × ((under source known lists).choices ≡ known.choices ++ more)
choices_under source known [] = ([], sym (append-nil known.choices))
choices_under source known (list ∷ lists) =
    let one = chosen_of source known.lists list in
    let (more, e) = choices_under source (with_choice known one) lists in
    (one ∷ more, e ∙ append_assoc known.choices (one ∷ []) more)

mutual
  pub choices_after : (source : List ℕ) (known : Known) (f : Form) → (known_after source known f).choices ≡ known.choices
  choices_after source known (file_forms.simplify at p r) = refl
  choices_after source known (file_forms.case at head p t) = refl
  choices_after source known (file_forms.choices at lists body) = refl
  choices_after source known (file_forms.conditional c body) = choices_after_all source known body
  choices_after source known (file_forms.operators list) = refl
  choices_after source known (file_forms.predicates names) = refl

  pub choices_after_all : (source : List ℕ) (known : Known) (fs : Forms) → (known_after_all source known fs).choices ≡ known.choices
  choices_after_all source known file_forms.none = refl
  choices_after_all source known (file_forms.more f fs) = choices_after_all source (known_after source known f) fs ∙ choices_after source known f

take_front : {A : Type 0} (xs ys : List A) → take (length xs) (xs ++ ys) ≡ xs
take_front [] ys = refl
take_front (x ∷ xs) ys = ap (λ l. x ∷ l) (take_front xs ys)

-- cut to as many as there were before, they are those before
pub let_go : (source : List ℕ) (known : Known) (lists : List ListText) (body : Forms)
    → take (length known.choices) (known_after_all source (under source known lists) body).choices ≡ known.choices
let_go source known lists body =
    let (more, e) = choices_under source known lists in
    ap (take (length known.choices)) (choices_after_all source (under source known lists) body ∙ e) ∙ take_front known.choices more

abbrev pub cut_to : Known → List Chosen → Known
cut_to inside choices = record { lists = inside.lists; choices = choices; cases = inside.cases; used = inside.used }

-- what is known after the forms of a `for`, cut so
pub left_again : (source : List ℕ) (known inside : Known) (lists : List ListText) (body : Forms) (n : ℕ) (cut : List Chosen)
    → inside ≡ known_after_all source (under source known lists) body → n ≡ length known.choices → cut ≡ take n inside.choices
    → cut_to inside cut ≡ leaving known (known_after_all source (under source known lists) body)
left_again source known inside lists body n cut after so_many is =
    ap (cut_to inside)
    (is ∙ ap (λ m. take m inside.choices) so_many ∙ ap (λ (k : Known). take (length known.choices) k.choices) after ∙ let_go source known lists body)
    ∙ ap (leaving known) after
