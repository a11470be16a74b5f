-- The printed ends of blocks are read as these.
use Rattle.std.proofs.Common.{◌≡◌, ℕ, ◌<◌, ◌^◌, true, Option, Some, List, [], ◌∷◌, ◌++◌, codes, inl, inr, refl, arith}
use Rattle.std.proofs.lemmas.Bool.{and_parts}
use Rattle.std.proofs.lemmas.List.{append_assoc}
use Rattle.pm_ops.specs.declared.code.Code.{Code}
use Rattle.pm_ops.specs.Codes.{is_comparison_code}
use Rattle.pm_wide.specs.declared.operand.Operand.{Operand}
use Rattle.gim_ast.specs.declared.function.Function.{Function}
use Rattle.gim_ast.specs.declared.function.End.{End}
use Rattle.gim_ast.specs.declared.function.End.TheVariants as ends
use Rattle.gim_ast.specs.Functions.{operands_of_end, targets_of}
use Rattle.gim_printer.specs.Printing.{line, jump_text, condition_line, operand_text, sign_text, end_lines}
use Rattle.gim_ast.specs.WellFormed.{IsWellFormed, end_fits}
use Rattle.pm_places.specs.declared.span.Span.{Span}
use Rattle.gim_text.specs.declared.limits.TheConstants.{NUMBER_LIMIT}
use Rattle.gim_text.specs.declared.token.Keyword.TheVariants as keywords
use Rattle.gim_text.specs.declared.token.Mark.TheVariants as marks
use Rattle.gim_text.specs.declared.tree.EndText.{EndText}
use Rattle.gim_text.specs.declared.tree.EndText.TheVariants.{Goto, If, Return}
use Rattle.gim_text.proofs.Membership.{Has}
use Rattle.gim_statements.specs.Grammar.{SpellsJump, SpellsJumpEnd, SpellsEndIfAny}
use Rattle.gim_round_trip.specs.ReadBack.{IsWithinLimits}
use Rattle.gim_round_trip.proofs.text.Prints.{any_end, blank_end, Prints, joined, seen, blanks_before, blanks_after}
use Rattle.gim_round_trip.proofs.text.OperationSigns.{comparison_prints}
use Rattle.gim_round_trip.proofs.text.Tokens.{block_word_prints, a_mark_prints, a_keyword_prints}
use Rattle.gim_round_trip.proofs.text.Operands.{operand_prints}
use Rattle.gim_round_trip.proofs.text.Sequences.{Quiet, lead, trail, told, quiet_semicolon}
use Rattle.gim_round_trip.proofs.text.RightSides.{OperandsHold, IsRead}
use Rattle.gim_round_trip.proofs.tree.Writes.{NamesBlock, WritesEnd}

-- `goto __BBn;`
jump_prints : (source : List ℕ) (n : ℕ) → n < NUMBER_LIMIT
    → Prints source blank_end SpellsJump (λ (at : Span). NamesBlock source at n) (jump_text n)
jump_prints source n small =
    let number : n < 2 ^ 64 = omega (arith, small) in
    let ended : Quiet source blank_end SpellsJumpEnd (codes ";") =
    seen (quiet_semicolon source) (λ u. u) (λ u w is h. inl h) (λ u is. is) in
    lead (a_keyword_prints source keywords.Goto) (λ rest. refl)
    (blanks_before (codes " ") refl (trail (block_word_prints source n number) (λ rest. refl) ended))

goto_prints : (source : List ℕ) (f : Function) (to : ℕ) → to < NUMBER_LIMIT
    → Prints source any_end SpellsEndIfAny (λ (tree : Option EndText). WritesEnd source f tree (ends.Goto to))
    (line (codes "  " ++ jump_text to))
goto_prints source f to small =
    let jump = blanks_after (10 ∷ []) refl (λ rest. refl) (blanks_before (codes "  ") refl (jump_prints source to small)) in
    seen jump (λ at. Some (Goto at)) (λ at w is h. h) (λ at is. is)

return_prints : (source : List ℕ) (f : Function) (a : Operand) → IsRead source f a
    → Prints source any_end SpellsEndIfAny (λ (tree : Option EndText). WritesEnd source f tree (ends.Return a))
    (line (codes "  return " ++ operand_text f a ++ codes ";"))
return_prints source f a one =
    let whole =
    lead (a_keyword_prints source keywords.Return) (λ rest. refl)
    (blanks_before (codes " ") refl (trail one (λ rest. refl) (quiet_semicolon source))) in
    let written = blanks_after (10 ∷ []) refl (λ rest. refl) (blanks_before (codes "  ") refl whole) in
    seen written (λ tree. Some (Return tree)) (λ tree w is h. h) (λ tree is. is)

if_whole : (a sign b first other : List ℕ)
    → codes "  if (" ++ (a ++ ((codes " " ++ sign ++ codes " ")
    ++ (b ++ (codes ")" ++ ((10 ∷ codes "    ")
    ++ (first ++ ((10 ∷ codes "  else") ++ ((10 ∷ codes "    ") ++ (other ++ 10 ∷ [])))))))))
    ≡ line (codes "  if (" ++ (a ++ codes " " ++ sign ++ codes " " ++ b) ++ codes ")") ++ line (codes "    " ++ first)
    ++ line (codes "  else") ++ line (codes "    " ++ other)
if_whole a sign b first other = simp append_assoc

if_prints : (source : List ℕ) (f : Function) (op : Code) (a b : Operand) (to other : ℕ) → is_comparison_code op ≡ true
    → IsRead source f a → IsRead source f b → to < NUMBER_LIMIT → other < NUMBER_LIMIT
    → Prints source any_end SpellsEndIfAny (λ (tree : Option EndText). WritesEnd source f tree (ends.If op a b to other))
    (condition_line f op a b ++ line (codes "    " ++ jump_text to) ++ line (codes "  else") ++ line (codes "    " ++ jump_text other))
if_prints source f op a b to other compares one two small other_small =
    let last = blanks_after (10 ∷ []) refl (λ rest. refl) (blanks_before (10 ∷ codes "    ") refl (jump_prints source other other_small)) in
    let else_jump = blanks_before (10 ∷ codes "  ") refl (lead (a_keyword_prints source keywords.Else) (λ rest. refl) last) in
    let jumps = joined (blanks_before (10 ∷ codes "    ") refl (jump_prints source to small)) (λ rest. refl) else_jump in
    let second = joined two (λ rest. refl) (lead (a_mark_prints source marks.Close refl) (λ rest. tt) jumps) in
    let first = joined one (λ rest. refl) (lead (comparison_prints source op compares) (λ rest. tt) second) in
    let opened =
    lead (a_keyword_prints source keywords.If) (λ rest. refl)
    (blanks_before (codes " ") refl (lead (a_mark_prints source marks.Open refl) (λ rest. tt) first)) in
    let whole =
    told (if_whole (operand_text f a) (sign_text op) (operand_text f b) (jump_text to) (jump_text other))
    (blanks_before (codes "  ") refl opened) in
    seen whole (λ x. Some (If op x.0 x.1.0 x.1.1.0 x.1.1.1)) (λ x w is h. h) (λ x is. (refl, is.0, is.1.0, is.1.1.0, is.1.1.1))

pub end_prints : (source : List ℕ) (f : Function) (end : End) → IsWellFormed f → IsWithinLimits f
    → OperandsHold f (operands_of_end end) → ((n : ℕ) → Has (targets_of end) n → n < NUMBER_LIMIT)
    → end_fits f end ≡ true → Prints source any_end SpellsEndIfAny
    (λ (tree : Option EndText). WritesEnd source f tree end) (end_lines f end)
unfolding end_lines
end_prints source f (ends.Goto to) well limits hold small fits = goto_prints source f to (small to (inl refl))
end_prints source f (ends.If op a b to other) well limits hold small fits =
    let one = operand_prints source f a well limits (hold a (inl refl)) in
    let two = operand_prints source f b well limits (hold b (inr (inl refl))) in
    if_prints source f op a b to other (and_parts _ _ fits).0 one two (small to (inl refl)) (small other (inr (inl refl)))
end_prints source f (ends.Return a) well limits hold small fits =
    return_prints source f a (operand_prints source f a well limits (hold a (inl refl)))
