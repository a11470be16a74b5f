-- The printed blocks are read as these.
use Rattle.std.proofs.Common.{◌≡◌, ℕ, ◌<◌, ◌^◌, Option, List, [], ◌∷◌, ◌++◌, codes, inl, refl, sym, ap, ◌∙◌, subst, arith}
use Rattle.std.specs.Fmt.{decimal}
use Rattle.std.specs.List.{flat_map, AllZip}
use Rattle.std.proofs.lemmas.List.{append_assoc}
use Rattle.grammar.specs.Spelling.{Many}
use Rattle.gim_ast.specs.declared.function.Function.{Function}
use Rattle.gim_ast.specs.declared.function.Block.{Block}
use Rattle.gim_printer.specs.Printing.{line, phi_line, stmt_line, end_lines, block_text}
use Rattle.gim_ast.specs.WellFormed.{IsWellFormed}
use Rattle.gim_text.specs.declared.token.Token.{Token}
use Rattle.gim_text.specs.declared.token.Keyword.TheVariants as keywords
use Rattle.gim_text.specs.declared.token.Mark.TheVariants as marks
use Rattle.gim_text.specs.declared.tree.ItemText.{ItemText}
use Rattle.gim_text.specs.declared.tree.EndText.{EndText}
use Rattle.gim_text.specs.declared.tree.BlockText.{BlockText}
use Rattle.gim_text.proofs.Membership.{Has}
use Rattle.gim_statements.specs.Grammar.{◌▸◌, SpellsItem, SpellsEndIfAny, SpellsNote, SpellsBlock}
use Rattle.gim_round_trip.specs.ReadBack.{IsWithinLimits}
use Rattle.gim_round_trip.proofs.tree.SmallNumbers.{number_small, targets_small}
use Rattle.gim_round_trip.proofs.tree.WellFormedParts.{end_operand, each_operand_holds, end_fits_here}
use Rattle.gim_round_trip.proofs.text.Prints.{any_end, Prints, joined, seen, blanks_before}
use Rattle.gim_round_trip.proofs.text.Tokens.{keyword_prints, number_prints, a_mark_prints}
use Rattle.gim_round_trip.proofs.text.Sequences.{Quiet, lead, told, many}
use Rattle.gim_round_trip.proofs.text.Lines.{phi_prints, stmt_prints}
use Rattle.gim_round_trip.proofs.text.Ends.{end_prints}
use Rattle.gim_round_trip.proofs.tree.Writes.{WritesPhi, WritesStmt, WritesEnd, WritesBlock}

-- ---- items

-- items behind others are items
many_further : {A : Type 0} (N : A → List Token → Type 0) (xs ys : List A) (u v : List Token) → Many N xs u
    → Many N ys v → Many N (xs ++ ys) (u ++ v)
many_further N [] ys u v none others = subst (λ w. Many N ys (w ++ v)) (sym none) others
many_further N (x ∷ xs) ys u v (first, rest, one, further, e) others =
    (first, rest ++ v, one, many_further N xs ys rest v further others, ap (λ w. w ++ v) e ∙ append_assoc first rest v)

-- what stands between items and a part
items_then : (Q : List Token → Type 0) (phis stmts : List ItemText) (w : List Token)
    → (Many SpellsItem phis ▸ Many SpellsItem stmts ▸ Q) w → (Many SpellsItem (phis ++ stmts) ▸ Q) w
items_then Q phis stmts w (u, v, first, (r, s, second, last, inner), e) =
    (u ++ r, s, many_further SpellsItem phis stmts u r first second, last, e ∙ ap (λ x. u ++ x) inner ∙ sym (append_assoc u r s))

-- the items are those of the phis, and after them those of the statements
abbrev WritesLines : List ℕ → Function → Block → List ItemText × Option EndText → Type 0
WritesLines source f block x = (phi_items : List ItemText) × (stmt_items : List ItemText) × (x.0 ≡ phi_items ++ stmt_items)
    × AllZip (WritesPhi source f) phi_items block.phis × AllZip (WritesStmt source f) stmt_items block.stmts
    × WritesEnd source f x.1 block.end

lines_print : (source : List ℕ) (f : Function) (block : Block) → IsWellFormed f → IsWithinLimits f → Has f.blocks block
    → Prints source any_end (λ (x : List ItemText × Option EndText). Many SpellsItem x.0 ▸ SpellsEndIfAny x.1) (WritesLines source f block)
    (flat_map (phi_line f) block.phis ++ (flat_map (stmt_line f) block.stmts ++ end_lines f block.end))
lines_print source f block well limits there =
    let phis =
    many source any_end SpellsItem (WritesPhi source f) (phi_line f) block.phis
    (λ phi here. phi_prints source f block phi well limits there here) (λ phi rest ends. tt) in
    let stmts =
    many source any_end SpellsItem (WritesStmt source f) (stmt_line f) block.stmts
    (λ stmt here. stmt_prints source f block stmt well limits there here) (λ stmt rest ends. tt) in
    let end =
    end_prints source f block.end well limits
    (λ a stands. each_operand_holds f well a (end_operand f block there a stands))
    (targets_small f limits well block there) (end_fits_here f block there well) in
    seen (joined phis (λ rest. tt) (joined stmts (λ rest. tt) end)) (λ x. (x.0 ++ x.1.0, x.1.1))
    (λ x w is h. items_then (SpellsEndIfAny x.1.1) x.0 x.1.0 w h)
    (λ x is. (x.0, x.1.0, refl, is.0, is.1.0, is.1.1))

-- ---- blocks

block_whole : (number phis stmts end : List ℕ)
    → (10 ∷ codes "  ") ++ (codes "__BB" ++ (codes "(" ++ (number ++ (codes ")" ++ (codes ":" ++ (10 ∷ [] ++ (phis ++ (stmts ++ end))))))))
    ≡ line [] ++ line (codes "  __BB(" ++ number ++ codes "):") ++ phis ++ stmts ++ end
block_whole number phis stmts end = simp append_assoc

pub block_prints : (source : List ℕ) (f : Function) (block : Block) → IsWellFormed f → IsWithinLimits f → Has f.blocks block
    → Prints source any_end SpellsBlock (λ (tree : BlockText). WritesBlock source f tree block) (block_text f block)
unfolding block_text
block_prints source f block well limits there =
    let small = number_small f limits block there in
    let number : block.number < 2 ^ 64 = omega (arith, small) in
    let lines = blanks_before (10 ∷ []) refl (lines_print source f block well limits there) in
    let note : Quiet source any_end SpellsNote (codes ")") =
    seen (a_mark_prints source marks.Close refl) (λ u. u) (λ u w is h. inl h) (λ u is. is) in
    let noted = lead note (λ rest. tt) (lead (a_mark_prints source marks.Colon refl) (λ rest. tt) lines) in
    let opened =
    lead (a_mark_prints source marks.Open refl) (λ rest. tt)
    (joined (number_prints source block.number number) (λ rest. refl) noted) in
    let head = joined (keyword_prints source keywords.Block) (λ rest. refl) opened in
    let whole =
    told (block_whole (decimal block.number) (flat_map (phi_line f) block.phis) (flat_map (stmt_line f) block.stmts)
    (end_lines f block.end)) (blanks_before (10 ∷ codes "  ") refl head) in
    seen whole (λ x. record { head = x.0; number = x.1.0; items = x.1.1.0; end = x.1.1.1 }) (λ x w is h. h)
    (λ x is. let lines = is.1.1 in record {
      number = is.1.0;
      phi_items = lines.0;
      stmt_items = lines.1;
      in_order = lines.2;
      phis = lines.3;
      stmts = lines.4;
      end = lines.5;
    })
