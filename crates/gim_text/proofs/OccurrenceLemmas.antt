-- What filters find among what occurs in a function.
use Rattle.std.proofs.Common.{◌≡◌, List, [], ◌∷◌, ◌++◌, map, Option, Some, None, refl, ap, ◌∙◌}
use Rattle.std.proofs.lemmas.List.{append-nil}
use Rattle.std.proofs.lemmas.List.Elements.{filter_map-append}
use Rattle.std.specs.List.{flat_map, filter_map, cons_option}
use Rattle.pm_places.specs.declared.span.Span.{Span}
use Rattle.gim_text.specs.declared.tree.FunctionText.{FunctionText}
use Rattle.gim_text.specs.declared.tree.DeclText.{DeclText}
use Rattle.gim_text.specs.declared.tree.BlockText.{BlockText}
use Rattle.gim_text.specs.declared.tree.ItemText.{ItemText}
use Rattle.gim_text.specs.declared.tree.ItemText.TheVariants.{Phi, Stmt}
use Rattle.gim_text.specs.declared.tree.ArgText.{ArgText}
use Rattle.gim_text.specs.declared.tree.LiteralText.{LiteralText}
use Rattle.gim_text.specs.declared.tree.OperandText.{OperandText}
use Rattle.gim_text.specs.declared.tree.OperandText.TheVariants as operands
use Rattle.gim_text.specs.declared.tree.EndText.{EndText}
use Rattle.gim_text.specs.declared.occurrence.Occurrence.{Occurrence}
use Rattle.gim_text.specs.declared.occurrence.Occurrence.TheVariants.{Parameter, Local, Block, Jump, Assigned, Used, Default, Constant}
use Rattle.gim_text.specs.Occurrences.{occurrence_of_parameter, occurrence_of_local, occurrence_of_operand}
use Rattle.gim_text.specs.Occurrences.{occurrences_of_argument, operands_in_right, operands_in_end, targets_in_end}
use Rattle.gim_text.specs.Occurrences.{occurrences_of_item, occurrences_of_end}
use Rattle.gim_text.specs.Occurrences.{occurrences_of_block, occurrences_of, operand_at}

-- ---- filters of lists

pub filter_of_map : {M N X : Type 0} (says : N → Option X) (of : M → N) (xs : List M)
    → filter_map says (map of xs) ≡ filter_map (λ x. says (of x)) xs
filter_of_map says of [] = refl
filter_of_map says of (x ∷ xs) = ap (λ rest. cons_option (says (of x)) rest) (filter_of_map says of xs)

pub filter_of_flat : {M N X : Type 0} (says : N → Option X) (part : M → List N) (xs : List M)
    → filter_map says (flat_map part xs) ≡ flat_map (λ x. filter_map says (part x)) xs
filter_of_flat says part [] = refl
filter_of_flat says part (x ∷ xs) =
    filter_map-append says (part x) (flat_map part xs)
    ∙ ap (λ rest. filter_map says (part x) ++ rest) (filter_of_flat says part xs)

-- something that each says, or that none says
pub each_says : {M X : Type 0} (text : M → X) (xs : List M) → filter_map (λ x. Some (text x)) xs ≡ map text xs
each_says text [] = refl
each_says text (x ∷ xs) = ap (λ rest. text x ∷ rest) (each_says text xs)

pub none_says : {M X : Type 0} (xs : List M) → filter_map {X = M} {Y = X} (λ x. None) xs ≡ []
none_says [] = refl
none_says (x ∷ xs) = none_says xs

pub none_of_map : {M N X : Type 0} (says : N → Option X) (of : M → N) → ((x : M) → says (of x) ≡ None) → (xs : List M)
    → filter_map says (map of xs) ≡ []
none_of_map says of none_says_it [] = refl
none_of_map says of none_says_it (x ∷ xs) = rw (none_says_it x, none_of_map says of none_says_it xs) refl

-- ---- operands

operand_back : (a : OperandText) → operand_at (occurrence_of_operand a) ≡ Some a
operand_back (operands.Name at) = refl
operand_back (operands.Default at) = refl
operand_back (operands.Literal literal) = refl

pub operands_back : (xs : List OperandText) → filter_map operand_at (map occurrence_of_operand xs) ≡ xs
operands_back [] = refl
operands_back (a ∷ xs) =
    ap (λ o. cons_option o (filter_map operand_at (map occurrence_of_operand xs))) (operand_back a)
    ∙ ap (λ rest. a ∷ rest) (operands_back xs)

abbrev pub operand_in : ArgText → OperandText
operand_in arg = arg.operand

pub operands_in_args : (args : List ArgText) → filter_map operand_at (flat_map occurrences_of_argument args) ≡ map operand_in args
operands_in_args [] = refl
operands_in_args (arg ∷ args) =
    ap (λ o. cons_option o (filter_map operand_at (flat_map occurrences_of_argument args))) (operand_back arg.operand)
    ∙ ap (λ rest. arg.operand ∷ rest) (operands_in_args args)

pub operands_at_end : (end : Option EndText) → filter_map operand_at (occurrences_of_end end) ≡ operands_in_end end
operands_at_end end =
    filter_map-append operand_at (map occurrence_of_operand (operands_in_end end)) (map Jump (targets_in_end end))
    ∙ ap (λ xs. xs ++ filter_map operand_at (map Jump (targets_in_end end))) (operands_back (operands_in_end end))
    ∙ ap (λ xs. operands_in_end end ++ xs) (none_of_map operand_at Jump (λ at. refl) (targets_in_end end))
    ∙ append-nil (operands_in_end end)

-- ---- what parameters and locals don't say

pub said_in_blocks : {X : Type 0} (says : Occurrence → Option X) → ((at : Span) → says (Parameter at) ≡ None)
    → ((at : Span) → says (Local at) ≡ None) → (f : FunctionText)
    → filter_map says (occurrences_of f) ≡ flat_map (λ block. filter_map says (occurrences_of_block block)) f.blocks
said_in_blocks says parameter local f =
    let front : filter_map says (map occurrence_of_parameter f.params ++ map occurrence_of_local f.decls) ≡ [] =
    filter_map-append says (map occurrence_of_parameter f.params) (map occurrence_of_local f.decls)
    ∙ ap (λ xs. xs ++ filter_map says (map occurrence_of_local f.decls))
    (none_of_map says occurrence_of_parameter (λ decl. parameter decl.ident) f.params)
    ∙ none_of_map says occurrence_of_local (λ decl. local decl.ident) f.decls in
    filter_map-append says (map occurrence_of_parameter f.params ++ map occurrence_of_local f.decls)
    (flat_map occurrences_of_block f.blocks)
    ∙ ap (λ xs. xs ++ filter_map says (flat_map occurrences_of_block f.blocks)) front ∙ filter_of_flat says occurrences_of_block f.blocks

-- ---- what operands and jumps don't say

pub record IsSilent {X : Type 0} (says : Occurrence → Option X) : Type 0 where
  pub jump : (at : Span) → says (Jump at) ≡ None
  pub used : (at : Span) → says (Used at) ≡ None
  pub initial : (at : Span) → says (Default at) ≡ None
  pub constant : (literal : LiteralText) → says (Constant literal) ≡ None

module _ {X : Type 0} (says : Occurrence → Option X) (h : IsSilent says) where
  no_operand : (a : OperandText) → says (occurrence_of_operand a) ≡ None
  no_operand (operands.Name at) = h.used at
  no_operand (operands.Default at) = h.initial at
  no_operand (operands.Literal literal) = h.constant literal

  pub no_operands : (xs : List OperandText) → filter_map says (map occurrence_of_operand xs) ≡ []
  no_operands xs = none_of_map says occurrence_of_operand no_operand xs

  pub no_args : (args : List ArgText) → filter_map says (flat_map occurrences_of_argument args) ≡ []
  no_args [] = refl
  no_args (arg ∷ args) = rw (h.jump arg.from, no_operand arg.operand, no_args args) refl

  pub no_end : (end : Option EndText) → filter_map says (occurrences_of_end end) ≡ []
  no_end end =
      filter_map-append says (map occurrence_of_operand (operands_in_end end)) (map Jump (targets_in_end end))
      ∙ ap (λ xs. xs ++ filter_map says (map Jump (targets_in_end end))) (no_operands (operands_in_end end))
      ∙ none_of_map says Jump h.jump (targets_in_end end)

-- ---- what only parameters, locals and blocks say

pub record IsOfHeads {X : Type 0} (says : Occurrence → Option X) : Type 0 where
  pub jump : (at : Span) → says (Jump at) ≡ None
  pub assigned : (at : Span) → says (Assigned at) ≡ None
  pub used : (at : Span) → says (Used at) ≡ None
  pub initial : (at : Span) → says (Default at) ≡ None
  pub constant : (literal : LiteralText) → says (Constant literal) ≡ None

module _ {X : Type 0} (says : Occurrence → Option X) (h : IsOfHeads says) where
  silent : IsSilent says
  silent = record { jump = h.jump; used = h.used; initial = h.initial; constant = h.constant }

  no_item : (item : ItemText) → filter_map says (occurrences_of_item item) ≡ []
  no_item (Phi name args) = rw (h.assigned name) (no_args says silent args)
  no_item (Stmt name right) = rw (h.assigned name) (no_operands says silent (operands_in_right right.form))

  no_items : (items : List ItemText) → filter_map says (flat_map occurrences_of_item items) ≡ []
  no_items [] = refl
  no_items (item ∷ items) =
      filter_map-append says (occurrences_of_item item) (flat_map occurrences_of_item items)
      ∙ ap (λ xs. xs ++ filter_map says (flat_map occurrences_of_item items)) (no_item item) ∙ no_items items

  -- of a block, only its number
  of_block : (block : BlockText) → filter_map says (occurrences_of_block block) ≡ cons_option (says (Block block.number)) []
  of_block block = ap (cons_option (says (Block block.number)))
      (filter_map-append says (flat_map occurrences_of_item block.items) (occurrences_of_end block.end)
      ∙ ap (λ xs. xs ++ filter_map says (occurrences_of_end block.end)) (no_items block.items)
      ∙ no_end says silent block.end)

  one_first : (o : Option X) (xs : List X) → cons_option o [] ++ xs ≡ cons_option o xs
  one_first None xs = refl
  one_first (Some x) xs = refl

  of_blocks : (blocks : List BlockText) → filter_map says (flat_map occurrences_of_block blocks)
      ≡ filter_map (λ (block : BlockText). says (Block block.number)) blocks
  of_blocks [] = refl
  of_blocks (block ∷ blocks) =
      filter_map-append says (occurrences_of_block block) (flat_map occurrences_of_block blocks)
      ∙ ap (λ xs. xs ++ filter_map says (flat_map occurrences_of_block blocks)) (of_block block)
      ∙ ap (λ xs. cons_option (says (Block block.number)) [] ++ xs) (of_blocks blocks)
      ∙ one_first (says (Block block.number)) (filter_map (λ (b : BlockText). says (Block b.number)) blocks)

  pub said_at_heads : (f : FunctionText) → filter_map says (occurrences_of f)
      ≡ (filter_map (λ (decl : DeclText). says (Parameter decl.ident)) f.params
      ++ filter_map (λ (decl : DeclText). says (Local decl.ident)) f.decls)
      ++ filter_map (λ (block : BlockText). says (Block block.number)) f.blocks
  said_at_heads f =
      filter_map-append says (map occurrence_of_parameter f.params ++ map occurrence_of_local f.decls)
      (flat_map occurrences_of_block f.blocks)
      ∙ ap (λ xs. xs ++ filter_map says (flat_map occurrences_of_block f.blocks))
      (filter_map-append says (map occurrence_of_parameter f.params) (map occurrence_of_local f.decls)
      ∙ ap (λ xs. xs ++ filter_map says (map occurrence_of_local f.decls)) (filter_of_map says occurrence_of_parameter f.params)
      ∙ ap (λ xs. filter_map (λ (decl : DeclText). says (Parameter decl.ident)) f.params ++ xs)
      (filter_of_map says occurrence_of_local f.decls))
      ∙ ap (λ xs. (filter_map (λ (decl : DeclText). says (Parameter decl.ident)) f.params
      ++ filter_map (λ (decl : DeclText). says (Local decl.ident)) f.decls) ++ xs) (of_blocks f.blocks)
