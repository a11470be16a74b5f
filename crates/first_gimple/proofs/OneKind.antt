-- What is read is of the one kind.
use Rattle.std.proofs.Common.{◌≡◌, ℕ, Bool, true, List, [], ◌∷◌, map, Some, Result, Ok, Err, refl, sym, ap, subst, codes, inl, inr}
use Rattle.std.specs.Prelude.{IfOk, ◌&&◌}
use Rattle.std.specs.List.{list_all}
use Rattle.std.proofs.lemmas.Bool.{and_from}
use Rattle.pm_ops.specs.declared.code.Code.{Code}
use Rattle.pm_ops.specs.declared.code.Code.TheVariants.{Convert, Plus, Minus, Mult, TruncDiv, TruncMod, Negate, Abs, Absu, BitAnd, BitIor, BitXor, BitNot, Lshift, Rshift, Min, Max, Eq, Ne, Lt, Le, Gt, Ge, Cond}
use Rattle.pm_wide.specs.Types.{same_type, unsigned_int_type}
use Rattle.gim_ast.specs.declared.function.Function.{Function}
use Rattle.gim_ast.specs.declared.function.Stmt.{Stmt}
use Rattle.gim_ast.specs.declared.function.NameRow.{NameRow}
use Rattle.first_gimple.specs.declared.fault.FirstFault.{FirstFault}
use Rattle.first_gimple.specs.declared.draft.Draft.{Draft}
use Rattle.first_gimple.specs.declared.draft.Line.{Line}
use Rattle.first_gimple.specs.declared.draft.Taken.{Taken}
use Rattle.first_gimple.specs.declared.draft.Taken.TheVariants.{Local, Initial, Literal}
use Rattle.first_gimple.specs.Tokens.{Token}
use Rattle.first_gimple.specs.Spelling.{operator_of, SpellsLine, SpellsItems}
use Rattle.first_gimple.specs.Meaning.{Has, operand_of, stmt_of, made, IsFirstForm}
use Rattle.first_gimple.specs.Uniform.{is_first_code, is_plain_operand, is_plain_rhs, IsUniform}
use Rattle.first_gimple.proofs.Tables.{plain_rows}

all_have : {X : Type 0} (test : X → Bool) (xs : List X) → ((x : X) → Has xs x → test x ≡ true) → list_all test xs ≡ true
all_have test [] h = refl
all_have test (x ∷ xs) h = and_from (test x) (list_all test xs) (h x (inl refl)) (all_have test xs (λ y has. h y (inr has)))

first_code : (code : Code) (token : Token) → operator_of code ≡ Some token → is_first_code code ≡ true
first_code Convert token e = absurd cc
first_code Plus token e = refl
first_code Minus token e = refl
first_code Mult token e = refl
first_code TruncDiv token e = absurd cc
first_code TruncMod token e = absurd cc
first_code Negate token e = absurd cc
first_code Abs token e = absurd cc
first_code Absu token e = absurd cc
first_code BitAnd token e = refl
first_code BitIor token e = refl
first_code BitXor token e = refl
first_code BitNot token e = absurd cc
first_code Lshift token e = absurd cc
first_code Rshift token e = absurd cc
first_code Min token e = absurd cc
first_code Max token e = absurd cc
first_code Eq token e = absurd cc
first_code Ne token e = absurd cc
first_code Lt token e = absurd cc
first_code Le token e = absurd cc
first_code Gt token e = absurd cc
first_code Ge token e = absurd cc
first_code Cond token e = absurd cc

plain_operand : (taken : Taken) → is_plain_operand (operand_of taken) ≡ true
plain_operand (Local v) = refl
plain_operand (Initial base v) = refl
plain_operand (Literal n) = refl

plain_stmts : (lines : List Line) (tokens rest : List Token) → SpellsItems SpellsLine lines tokens rest → list_all (λ (stmt : Stmt). is_plain_rhs stmt.rhs) (map stmt_of lines) ≡ true
plain_stmts [] tokens rest s = refl
plain_stmts (line ∷ lines) tokens rest s =
    and_from (is_plain_rhs (stmt_of line).rhs) (list_all (λ (stmt : Stmt). is_plain_rhs stmt.rhs) (map stmt_of lines))
    (and_from (is_first_code line.code && is_plain_operand (operand_of line.left)) (is_plain_operand (operand_of line.right))
    (and_from (is_first_code line.code) (is_plain_operand (operand_of line.left)) (first_code line.code s.1.operator s.1.code) (plain_operand line.left)) (plain_operand line.right))
    (plain_stmts lines s.0 rest s.2)

uniform_made : (draft : Draft) (names : List NameRow) → list_all (λ (stmt : Stmt). is_plain_rhs stmt.rhs) (map stmt_of draft.lines) ≡ true
    → list_all (λ (row : NameRow). same_type row.ty unsigned_int_type) names ≡ true → IsUniform (made draft names)
unfolding made
uniform_made draft names stmts rows = record {
  result = refl;
  names = rows;
  blocks = and_from (list_all (λ (stmt : Stmt). is_plain_rhs stmt.rhs) (map stmt_of draft.lines)) (is_plain_operand (operand_of draft.end)) stmts (plain_operand draft.end);
}

pub uniform : (bytes : List ℕ) (f : Function) → IsFirstForm bytes f → IsUniform f
uniform bytes f form =
    let stmts = plain_stmts form.draft.lines form.spells_draft.lines (codes "return" ∷ form.spells_draft.end) form.spells_draft.spells_lines in
    let rows = all_have (λ (row : NameRow). same_type row.ty unsigned_int_type) f.names (λ row has. ap (λ t. same_type t unsigned_int_type) (plain_rows form.draft row (form.stands.names.none_else row has))) in
    subst IsUniform (sym form.stands.whole) (uniform_made form.draft f.names stmts rows)

pub all_uniform : (bytes : List ℕ) (r : Result Function FirstFault) → IfOk r (IsFirstForm bytes) → IfOk r IsUniform
all_uniform bytes (Ok f) form = uniform bytes f form
all_uniform bytes (Err fault) form = tt
