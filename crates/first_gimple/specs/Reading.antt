-- How a text of tokens is read, line by line: each reader answers what it read and the tokens behind it, or nothing.
use Rattle.std.specs.Prelude.{◌≡◌, ℕ, zero, suc, ◌-◌, ◌^◌, Option, Some, None, option_map, Result, Ok, Err, List, [], ◌∷◌, length, take, slice_index, codes, if◌then◌else◌}
use Rattle.std.specs.Str.{bytes_eq}
use Rattle.pm_ops.specs.declared.code.Code.{Code}
use Rattle.pm_ops.specs.declared.code.Code.TheVariants.{Plus, Minus, Mult, BitAnd, BitIor, BitXor}
use Rattle.gim_ast.specs.Numbers.{name_below}
use Rattle.lexing.specs.Numbers.{number_below}
use Rattle.first_gimple.specs.declared.fault.FirstFault.{FirstFault}
use Rattle.first_gimple.specs.declared.fault.FirstFault.TheVariants.{NotFirst, Memory}
use Rattle.first_gimple.specs.declared.draft.Draft.{Draft}
use Rattle.first_gimple.specs.declared.draft.Line.{Line}
use Rattle.first_gimple.specs.declared.draft.Taken.{Taken}
use Rattle.first_gimple.specs.declared.draft.Taken.TheVariants.{Local, Initial, Literal}
use Rattle.first_gimple.specs.Tokens.{Token}
use Rattle.first_gimple.specs.Spelling.{versions, is_suffix}

-- ---- what a function answers, seen by view, is what a reader gives, unless memory runs out

abbrev pub Fails : {Y : Type 0} → FirstFault → Option Y → Type 0
Fails NotFirst read = read ≡ None
Fails Memory read = Unit {0}

abbrev pub Gives : {X Y : Type 0} → (X → Y) → Result X FirstFault → Option Y → Type 0
Gives view (Ok x) read = read ≡ Some (view x)
Gives view (Err fault) read = Fails fault read

-- one reader, and then another
unfoldable pub then_read : {X Y : Type 0} → Option X → (X → Option Y) → Option Y
then_read None next = None
then_read (Some x) next = next x

-- the first answer, or else the second
unfoldable pub or_read : {X : Type 0} → Option X → Option X → Option X
or_read None other = other
or_read (Some x) other = Some x

-- ---- tokens

-- this token
unfoldable pub fixed : Token → List Token → Option (List Token)
fixed word [] = None
fixed word (token ∷ tokens) = if bytes_eq token word then Some tokens else None

-- any token
unfoldable pub token_at : List Token → Option (Token × List Token)
token_at [] = None
token_at (token ∷ tokens) = Some (token, tokens)

-- the value of a number with its suffix
unfoldable pub literal_of : Token → Option ℕ
literal_of token = if is_suffix (slice_index token (length token - 1)) then number_below (2 ^ 32) (take (length token - 1) token) else None

abbrev pub local_from : Option (List ℕ × ℕ) → Option ℕ
local_from None = None
local_from (Some ([], version)) = Some version
local_from (Some (b ∷ base, version)) = None

-- the version of a name without a base
unfoldable pub local_of : Token → Option ℕ
local_of token = local_from (name_below versions token)

abbrev pub code_of : Token → Option Code
code_of token =
    if bytes_eq token (codes "+") then Some Plus
    else (if bytes_eq token (codes "-") then Some Minus
    else (if bytes_eq token (codes "*") then Some Mult
    else (if bytes_eq token (codes "&") then Some BitAnd
    else (if bytes_eq token (codes "|") then Some BitIor
    else (if bytes_eq token (codes "^") then Some BitXor else None)))))

-- the first token, by what it means
unfoldable pub meant_at : {X : Type 0} → (Token → Option X) → List Token → Option (X × List Token)
meant_at meaning tokens = then_read (token_at tokens) (λ t. option_map (λ x. (x, t.1)) (meaning t.0))

-- ---- lines

unfoldable pub type_at : List Token → Option (List Token)
type_at tokens = then_read (fixed (codes "unsigned") tokens) (λ rest. fixed (codes "int") rest)

-- `(D)`
unfoldable pub mark_at : List Token → Option (List Token)
mark_at tokens = then_read (fixed (codes "(") tokens) (λ rest. then_read (fixed (codes "D") rest) (λ rest. fixed (codes ")") rest))

abbrev pub taken_from : Option ℕ → Option (List ℕ × ℕ) → List Token → Option (Taken × List Token)
taken_from (Some n) name tokens = Some (Literal n, tokens)
taken_from None None tokens = None
taken_from None (Some ([], version)) tokens = Some (Local version, tokens)
taken_from None (Some (b ∷ base, version)) tokens = then_read (mark_at tokens) (λ rest. Some (Initial (b ∷ base) version, rest))

unfoldable pub taken_at : List Token → Option (Taken × List Token)
taken_at tokens = then_read (token_at tokens) (λ t. taken_from (literal_of t.0) (name_below versions t.0) t.1)

unfoldable pub line_at : List Token → Option (Line × List Token)
line_at tokens =
    then_read (meant_at local_of tokens) (λ name.
    then_read (fixed (codes "=") name.1) (λ rest.
    then_read (taken_at rest) (λ left.
    then_read (meant_at code_of left.1) (λ code.
    then_read (taken_at code.1) (λ right.
    then_read (fixed (codes ";") right.1) (λ rest.
    Some (record { name = name.0; code = code.0; left = left.0; right = right.0 }, rest)))))))

-- one item more before the others
abbrev pub with_first : {X : Type 0} → X → List X × List Token → List X × List Token
with_first x others = (x ∷ others.0, others.1)

abbrev pub ended : {X : Type 0} → List Token → Option (List X × List Token)
ended rest = Some ([], rest)

-- items, as many as are told at most, and the token that ends them
unfoldable pub items_at : {X : Type 0} → Token → (List Token → Option (X × List Token)) → ℕ → List Token → Option (List X × List Token)
items_at end item zero tokens = None
items_at end item (suc n) tokens = or_read (then_read (fixed end tokens) ended)
    (then_read (item tokens) (λ first. then_read (items_at end item n first.1) (λ others. Some (with_first first.0 others))))

-- statements and `return`
abbrev pub lines_at : ℕ → List Token → Option (List Line × List Token)
lines_at = items_at (codes "return") line_at

-- `unsigned int _3;`
unfoldable pub local_at : List Token → Option (ℕ × List Token)
local_at tokens =
    then_read (type_at tokens) (λ rest.
    then_read (meant_at local_of rest) (λ name.
    then_read (fixed (codes ";") name.1) (λ rest. Some (name.0, rest))))

-- declarations and `__BB`
abbrev pub locals_at : ℕ → List Token → Option (List ℕ × List Token)
locals_at = items_at (codes "__BB") local_at

-- `unsigned int x`
unfoldable pub param_at : List Token → Option (Token × List Token)
param_at tokens = then_read (type_at tokens) (λ rest. token_at rest)

unfoldable pub further_param_at : List Token → Option (Token × List Token)
further_param_at tokens = then_read (fixed (codes ",") tokens) (λ rest. param_at rest)

-- a parameter, further ones and `)`
abbrev pub params_behind : Token → ℕ → List Token → Option (List Token × List Token)
params_behind first n tokens = then_read (items_at (codes ")") further_param_at n tokens) (λ others. Some (with_first first others))

abbrev pub params_or_void : ℕ → List Token → Option (List Token) → Option (List Token × List Token)
params_or_void n tokens (Some rest) = then_read (fixed (codes ")") rest) ended
params_or_void n tokens None = then_read (param_at tokens) (λ first. params_behind first.0 n first.1)

-- a list of parameters, an empty one or `void`, and `)`
unfoldable pub params_at : ℕ → List Token → Option (List Token × List Token)
params_at n tokens = or_read (then_read (fixed (codes ")") tokens) ended) (params_or_void n tokens (fixed (codes "void") tokens))

-- `unsigned int __GIMPLE (ssa)`
unfoldable pub head_at : List Token → Option (List Token)
head_at tokens =
    then_read (type_at tokens) (λ rest.
    then_read (fixed (codes "__GIMPLE") rest) (λ rest.
    then_read (fixed (codes "(") rest) (λ rest.
    then_read (fixed (codes "ssa") rest) (λ rest.
    fixed (codes ")") rest))))

-- behind `__BB`: the block's number
unfoldable pub number_at : List Token → Option (ℕ × List Token)
number_at tokens =
    then_read (fixed (codes "(") tokens) (λ rest.
    then_read (meant_at (number_below versions) rest) (λ number.
    then_read (fixed (codes ")") number.1) (λ rest.
    then_read (fixed (codes ":") rest) (λ rest. Some (number.0, rest)))))

abbrev pub nothing_behind : Taken → List Token → Option Taken
nothing_behind taken [] = Some taken
nothing_behind taken (token ∷ tokens) = None

-- behind `return`: what is returned, and nothing else
unfoldable pub end_at : List Token → Option Taken
end_at tokens =
    then_read (taken_at tokens) (λ taken.
    then_read (fixed (codes ";") taken.1) (λ rest.
    then_read (fixed (codes "}") rest) (λ rest. nothing_behind taken.0 rest)))

-- the function's name and its parameters, and `{`
unfoldable pub signature_at : ℕ → List Token → Option ((Token × List Token) × List Token)
signature_at n tokens =
    then_read (head_at tokens) (λ rest.
    then_read (token_at rest) (λ name.
    then_read (fixed (codes "(") name.1) (λ rest.
    then_read (params_at n rest) (λ params.
    then_read (fixed (codes "{") params.1) (λ rest. Some ((name.0, params.0), rest))))))

unfoldable pub draft_at : ℕ → List Token → Option Draft
draft_at n tokens =
    then_read (signature_at n tokens) (λ signature.
    then_read (locals_at n signature.1) (λ locals.
    then_read (number_at locals.1) (λ number.
    then_read (lines_at n number.1) (λ lines.
    then_read (end_at lines.1) (λ end.
    Some (record { name = signature.0.0; params = signature.0.1; locals = locals.0; number = number.0; lines = lines.0; end = end }))))))
