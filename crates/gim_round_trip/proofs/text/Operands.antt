-- The printed texts of types, names and operands are read as these.
use Rattle.std.proofs.Common.{◌≡◌, ℕ, Bool, true, false, cond, Some, List, [], ◌++◌, codes, refl, sym, subst}
use Rattle.std.proofs.lemmas.List.{append-nil}
use Rattle.pm_ops.specs.declared.code.Code.TheVariants as operations
use Rattle.pm_wide.specs.Types.{Ty}
use Rattle.pm_wide.specs.declared.operand.Operand.{Operand}
use Rattle.pm_wide.specs.declared.operand.Operand.TheVariants as operands
use Rattle.gim_ast.specs.declared.function.Function.{Function}
use Rattle.gim_ast.specs.declared.function.NameRow.{NameRow}
use Rattle.gim_ast.specs.declared.function.Decl.{Decl}
use Rattle.gim_ast.specs.Functions.{row_of}
use Rattle.gim_ast.specs.Identifiers.{is_identifier}
use Rattle.gim_printer.specs.Printing.{type_text, assigned_text, used_text, operand_text, negated_text, declared_text}
use Rattle.gim_ast.specs.Readable.{is_initial}
use Rattle.gim_ast.specs.WellFormed.{IsWellFormed, is_type_of, operand_holds}
use Rattle.gim_text.specs.declared.token.Keyword.TheVariants as keywords
use Rattle.gim_text.specs.declared.token.Mark.TheVariants as marks
use Rattle.pm_places.specs.declared.span.Span.{Span}
use Rattle.gim_text.specs.declared.token.Token.{Token}
use Rattle.gim_text.specs.declared.tree.OperandText.{OperandText}
use Rattle.gim_text.specs.declared.tree.OperandText.TheVariants as trees
use Rattle.gim_text.specs.declared.tree.DeclText.{DeclText}
use Rattle.gim_text.specs.Meanings.{identifier}
use Rattle.pm_places.specs.Spans.{text_of}
use Rattle.grammar.specs.Spelling.{Meant}
use Rattle.gim_words.specs.Types.{SpellsType}
use Rattle.gim_statements.specs.Grammar.{SpellsOperand, MayStandUnder}
use Rattle.gim_syntax.specs.Grammar.{SpellsTyped}
use Rattle.gim_round_trip.specs.ReadBack.{IsWithinLimits}
use Rattle.gim_round_trip.proofs.text.Prints.{Prints, any_end, word_end, joined, seen, sooner, blanks_after}
use Rattle.gim_round_trip.proofs.tree.Writes.{WritesOperand, WritesDecl}
use Rattle.gim_round_trip.proofs.tree.WellFormedParts.{operand_row}
use Rattle.gim_round_trip.proofs.text.Tokens.{identifier_prints, a_keyword_prints, a_mark_prints}
use Rattle.gim_round_trip.proofs.text.TypeTexts.{type_text_prints}
use Rattle.gim_round_trip.proofs.tree.Identifiers.{name_is_identifier}
use Rattle.gim_round_trip.proofs.text.Constants.{constant_prints, literal_prints}

pub type_prints : (source : List ℕ) (t : Ty) → is_type_of t ≡ true
    → Prints source word_end (λ (u : Unit {0}). SpellsType t) (λ u. Unit {0}) (type_text t)
type_prints source t h = type_text_prints source t h

-- `TYPE ident`
pub declared_prints : (source : List ℕ) (decl : Decl) → is_type_of decl.ty ≡ true → is_identifier decl.ident ≡ true
    → Prints source word_end SpellsTyped (λ (tree : DeclText). WritesDecl source tree decl) (declared_text decl)
declared_prints source decl types ident =
    seen (joined (blanks_after {last = any_end} (codes " ") refl (λ rest. refl) (type_prints source decl.ty types))
    (λ rest. tt) (identifier_prints source decl.ident ident))
    (λ x. record { ty = decl.ty; ident = x.1 }) (λ x w is spelled. spelled) (λ x is. (is.1, refl))

-- a name where it is assigned
pub assigned_prints : (source : List ℕ) (f : Function) (x : ℕ) (row : NameRow) → IsWellFormed f → IsWithinLimits f → row_of f x ≡ Some row
    → Prints source word_end (λ (at : Span). Meant identifier at) (λ at. text_of source at ≡ assigned_text f x) (assigned_text f x)
assigned_prints source f x row well limits found =
    identifier_prints source (assigned_text f x) (name_is_identifier f x row well limits found)

-- a name where it is used, also under a unary minus
used_prints : (source : List ℕ) (f : Function) (x : ℕ) (t : Ty) → IsWellFormed f → IsWithinLimits f
    → operand_holds f (operands.Name x t) ≡ true
    → Prints source word_end (λ (tree : OperandText) (w : List Token). MayStandUnder operations.Negate tree
    × SpellsOperand tree w) (λ tree. WritesOperand source f tree (operands.Name x t)) (used_text f x)
used_prints source f x t well limits holds = by (is_initial f x) refl where
  name : Prints source word_end (λ (at : Span). Meant identifier at) (λ at. text_of source at ≡ assigned_text f x) (assigned_text f x)
  name = let found = operand_row f x t holds in assigned_prints source f x found.0 well limits found.1

  by : (initial : Bool) → is_initial f x ≡ initial
      → Prints source word_end (λ (tree : OperandText) (w : List Token). MayStandUnder operations.Negate tree
      × SpellsOperand tree w) (λ tree. WritesOperand source f tree (operands.Name x t))
      (assigned_text f x ++ cond initial (codes "(D)") [])
  by false is =
      subst (Prints source word_end (λ (tree : OperandText) (w : List Token). MayStandUnder operations.Negate tree
      × SpellsOperand tree w) (λ tree. WritesOperand source f tree (operands.Name x t)))
      (sym (append-nil (assigned_text f x))) (seen name (λ at. trees.Name at) (λ at w text spelled. (tt, spelled)) (λ at text. (text, is)))
  by true is =
      let closed = joined (a_keyword_prints source keywords.Default) (λ rest. refl) (a_mark_prints source marks.Close refl) in
      let default = joined (a_mark_prints source marks.Open refl) (λ rest. tt) closed in
      sooner (seen (joined name (λ rest. refl) default) (λ x. trees.Default x.0) (λ x w text spelled. (tt, spelled))
      (λ x text. (text.0, is)))

pub operand_prints : (source : List ℕ) (f : Function) (a : Operand) → IsWellFormed f → IsWithinLimits f → operand_holds f a ≡ true
    → Prints source word_end SpellsOperand (λ (tree : OperandText). WritesOperand source f tree a) (operand_text f a)
unfolding operand_text
operand_prints source f (operands.Name x t) well limits holds =
    seen (used_prints source f x t well limits holds) (λ tree. tree) (λ tree w is spelled. spelled.1) (λ tree is. is)
operand_prints source f (operands.Const w) well limits holds = constant_prints source f w holds

-- an operand under a unary minus
pub negated_prints : (source : List ℕ) (f : Function) (a : Operand) → IsWellFormed f → IsWithinLimits f → operand_holds f a ≡ true
    → Prints source word_end (λ (tree : OperandText) (w : List Token). MayStandUnder operations.Negate tree
    × SpellsOperand tree w) (λ tree. WritesOperand source f tree a) (negated_text f a)
unfolding negated_text
negated_prints source f (operands.Name x t) well limits holds = used_prints source f x t well limits holds
negated_prints source f (operands.Const w) well limits holds = literal_prints source f w holds
