-- Readers of functions and files on lists of tokens, between code and grammar: the contracts of `parse` and `read_syntax`
-- and all above rest on the grammar and the faults alone.
use Rattle.std.specs.Prelude.{ℕ, zero, suc, List, [], ◌∷◌, Bool, true, false, Ok, Err}
use Rattle.grammar.specs.Reading.{Answer, ◌>>=◌, and_item, more_at}
use Rattle.pm_places.specs.declared.span.Span.{Span}
use Rattle.gim_text.specs.declared.token.Token.{Token}
use Rattle.gim_text.specs.declared.token.Token.TheVariants as tokens
use Rattle.gim_text.specs.declared.token.Mark.TheVariants as marks
use Rattle.gim_text.specs.declared.token.Keyword.TheVariants as keywords
use Rattle.gim_text.specs.declared.tree.DeclText.{DeclText}
use Rattle.gim_text.specs.declared.tree.BlockText.{BlockText}
use Rattle.gim_text.specs.declared.tree.FunctionText.{FunctionText}
use Rattle.gim_syntax.specs.declared.function.Head.{Head}
use Rattle.gim_syntax.specs.declared.function.Body.{Body}
use Rattle.gim_words.specs.TokenReaders.{mark_at, keyword_at, name_at, closing_at, is_comma}
use Rattle.gim_words.specs.TypeReaders.{type_at}
use Rattle.gim_statements.specs.BlockReaders.{block_at}

-- the option list, from behind its `(` on

abbrev pub ssa_within : ℕ → List Token → Answer Token (Unit {0}) Span
ssa_within depth [] = Err (tt, [])
ssa_within depth (tokens.Mark marks.Open at ∷ rest) = ssa_within (suc depth) rest
ssa_within zero (tokens.Mark marks.Close at ∷ rest) = Err (tt, tokens.Mark marks.Close at ∷ rest)
ssa_within (suc depth) (tokens.Mark marks.Close at ∷ rest) = ssa_within depth rest
ssa_within zero (tokens.Ssa at ∷ rest) = Ok (at, rest)
ssa_within depth (t ∷ rest) = ssa_within depth rest

abbrev pub ssa_at : List Token → Answer Token (Unit {0}) Span
ssa_at input = ssa_within zero input

abbrev pub options_at : List Token → Answer Token (Unit {0}) Span
options_at input = ssa_at input >>= λ ssa. closing_at ssa.1

-- parameters and locals

abbrev pub typed_at : List Token → Answer Token (Unit {0}) DeclText
typed_at input = do
  ty ← type_at input
  ident ← name_at ty.1
  Ok (record { ty = ty.0; ident = ident.0 }, ident.1)

abbrev pub decl_at : List Token → Answer Token (Unit {0}) DeclText
decl_at input = do
  decl ← typed_at input
  semicolon ← mark_at marks.Semicolon decl.1
  Ok (decl.0, semicolon.1)

abbrev pub begins_type : Token → Bool
begins_type (tokens.TypeWord word at) = true
begins_type token = false

abbrev pub decls_at : List Token → Answer Token (Unit {0}) (List DeclText)
decls_at input = more_at begins_type decl_at [] input

abbrev pub further_at : List Token → Answer Token (Unit {0}) DeclText
further_at input = mark_at marks.Comma input >>= λ comma. typed_at comma.1

abbrev pub param_list_at : List Token → Answer Token (Unit {0}) (List DeclText)
param_list_at input = and_item [] (typed_at input) >>= λ first. more_at is_comma further_at first.0 first.1

abbrev pub params_at : List Token → Answer Token (Unit {0}) (List DeclText)
params_at (tokens.Keyword keywords.Void at ∷ rest) = Ok ([], rest)
params_at (tokens.TypeWord word at ∷ rest) = param_list_at (tokens.TypeWord word at ∷ rest)
params_at input = Ok ([], input)

-- a function

abbrev pub head_at : List Token → Answer Token (Unit {0}) Head
head_at input = do
  result ← type_at input
  gimple ← keyword_at keywords.Gimple result.1
  open_options ← mark_at marks.Open gimple.1
  options ← options_at open_options.1
  name ← name_at options.1
  Ok (record { result = result.0; name = name.0 }, name.1)

abbrev pub params_between_at : List Token → Answer Token (Unit {0}) (List DeclText)
params_between_at input = do
  open_params ← mark_at marks.Open input
  params ← params_at open_params.1
  close_params ← mark_at marks.Close params.1
  Ok (params.0, close_params.1)

abbrev pub begins_block : Token → Bool
begins_block (tokens.Keyword keywords.Block at) = true
begins_block token = false

abbrev pub blocks_at : List Token → Answer Token (Unit {0}) (List BlockText)
blocks_at input = more_at begins_block block_at [] input

abbrev pub body_at : List Token → Answer Token (Unit {0}) Body
body_at input = do
  open_body ← mark_at marks.OpenBrace input
  decls ← decls_at open_body.1
  blocks ← blocks_at decls.1
  close ← mark_at marks.CloseBrace blocks.1
  Ok (record { decls = decls.0; blocks = blocks.0; close = close.0 }, close.1)

abbrev pub function_of : Head → List DeclText → Body → FunctionText
function_of head params body = record { result = head.result; name = head.name; params = params; decls = body.decls; blocks = body.blocks; close = body.close }

abbrev pub function_at : List Token → Answer Token (Unit {0}) FunctionText
function_at input = do
  head ← head_at input
  params ← params_between_at head.1
  body ← body_at params.1
  Ok (function_of head.0 params.0 body.0, body.1)

abbrev pub any_token : Token → Bool
any_token token = true

-- a file

abbrev pub file_at : List Token → Answer Token (Unit {0}) (List FunctionText)
file_at input = more_at any_token function_at [] input
