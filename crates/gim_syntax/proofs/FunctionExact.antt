-- A function is read exactly: its head, its parameters and its body.
use Rattle.std.proofs.Common.{◌≡◌, List, [], ◌∷◌, ◌++◌, true, Some, Ok, refl, sym, ap, subst, ◌∙◌, append_assoc}
use Rattle.std.proofs.lemmas.List.{append-nil}
use Rattle.grammar.specs.Spelling.{Spelling, Meant, Then, Mapped, Many}
use Rattle.grammar.specs.Reading.{◌>>=◌}
use Rattle.grammar.proofs.Sequence.{Never}
use Rattle.pm_wide.specs.Types.{Ty}
use Rattle.gim_text.specs.Meanings.{mark, keyword, identifier}
use Rattle.pm_places.specs.declared.span.Span.{Span}
use Rattle.gim_text.specs.declared.token.Token.{Token}
use Rattle.gim_text.specs.declared.token.Token.TheVariants as tokens
use Rattle.gim_text.specs.declared.token.Mark.TheVariants as marks
use Rattle.gim_text.specs.declared.token.Keyword.TheVariants as keywords
use Rattle.gim_text.specs.declared.tree.DeclText.{DeclText}
use Rattle.gim_text.specs.declared.tree.BlockText.{BlockText}
use Rattle.gim_text.specs.declared.tree.FunctionText.{FunctionText}
use Rattle.gim_words.specs.TokenReaders.{mark_at, keyword_at, name_at}
use Rattle.grammar.proofs.EveryInput.{Reads, seen_by, after_free, after_token, in_words, apart_before}
use Rattle.gim_words.proofs.TokensExact.{some_mark, some_keyword, mark_reads, name_reads}
use Rattle.gim_words.specs.Types.{SpellsType, GoesOnType}
use Rattle.gim_words.specs.TypeReaders.{type_at}
use Rattle.gim_words.proofs.TypesExact.{type_not_empty, type_reads}
use Rattle.gim_statements.specs.Grammar.{SpellsBlock, GoesOnBlock}
use Rattle.gim_statements.specs.BlockReaders.{block_at}
use Rattle.gim_statements.proofs.BlocksExact.{block_reads}
use Rattle.gim_syntax.specs.declared.function.Head.{Head}
use Rattle.gim_syntax.specs.declared.function.Body.{Body}
use Rattle.gim_syntax.specs.Grammar.{SpellsDecl, SpellsParams, SpellsHead, SpellsParamsBetween, SpellsBody, SpellsFunction}
use Rattle.gim_syntax.specs.Readers.{options_at, params_at, head_at, params_between_at, decls_at, begins_block, blocks_at, body_at, function_of, function_at}
use Rattle.grammar.proofs.Items.{items_read, first_of_items}
use Rattle.grammar.proofs.Starts.{takes_token, begins_with}
use Rattle.gim_syntax.proofs.OptionsExact.{Options, options_reads}
use Rattle.gim_syntax.proofs.DeclarationsExact.{GoesOnParams, params_reads, decls_reads}

-- type '__GIMPLE' '(' options ')' ident

head_of : Ty → Span → Head
head_of result name = record { result = result; name = name }

abbrev AfterOptions : Ty → Spelling Token Head
AfterOptions result = Mapped (head_of result) (Meant identifier)

abbrev AfterGimple : Ty → Spelling Token Head
AfterGimple result = Then (Meant (mark marks.Open)) (λ open_options. Then Options (λ close. AfterOptions result))

abbrev AfterResult : Ty → Spelling Token Head
AfterResult result = Then (Meant (keyword keywords.Gimple)) (λ gimple. AfterGimple result)

abbrev HeadParts : Spelling Token Head
HeadParts = Then SpellsType AfterResult

gimple_then : (result : Ty) → Reads (AfterGimple result) Never (λ input. mark_at marks.Open input >>= λ open_options. options_at open_options.1 >>= λ options. name_at options.1 >>= λ name. Ok (head_of result name.0, name.1))
gimple_then result =
    after_token (mark marks.Open) tt (some_mark marks.Open) (λ open_options. Then Options (λ close. AfterOptions result)) Never
    (λ open_options. options_at open_options.1 >>= λ options. name_at options.1 >>= λ name. Ok (head_of result name.0, name.1))
    (λ open_options. after_free Options (λ close. AfterOptions result) Never options_at (λ options. name_at options.1 >>= λ name. Ok (head_of result name.0, name.1)) options_reads
    (λ close. seen_by (head_of result) (Meant identifier) Never name_at (name_reads Never)))

no_type_gimple : (t : Token) (at : Span) → keyword keywords.Gimple t ≡ Some at → ¬ GoesOnType t
no_type_gimple (tokens.TypeWord word place) at e = absurd (cc)
no_type_gimple t at e = λ impossible. impossible

head_reads : Reads HeadParts Never head_at
unfolding head_of
head_reads =
    apart_before SpellsType AfterResult GoesOnType Never (λ result head m. not_empty result head m) (λ result head t v m. apart result head t v m)
    type_at
    (λ result. keyword_at keywords.Gimple result.1 >>= λ gimple. mark_at marks.Open gimple.1 >>= λ open_options. options_at open_options.1 >>= λ options. name_at options.1 >>= λ name. Ok (head_of result.0 name.0, name.1))
    type_reads
    (λ result. after_token (keyword keywords.Gimple) tt (some_keyword keywords.Gimple) (λ gimple. AfterGimple result) Never
    (λ gimple. mark_at marks.Open gimple.1 >>= λ open_options. options_at open_options.1 >>= λ options. name_at options.1 >>= λ name. Ok (head_of result name.0, name.1)) (λ gimple. gimple_then result))
  where
    not_empty : (result : Ty) (head : Head) → AfterResult result head [] → ⊥
    not_empty result head (at, u, v, meant, m, cut) = takes_token (keyword keywords.Gimple) at u v meant cut

    apart : (result : Ty) (head : Head) (t : Token) (w : List Token) → AfterResult result head (t ∷ w) → ¬ GoesOnType t
    apart result head t w (at, u, v, meant, m, cut) = no_type_gimple t at (begins_with (keyword keywords.Gimple) at t w u v meant cut)

head_of_parts : (head : Head) (w : List Token) → HeadParts head w → SpellsHead head.result head.name w
unfolding head_of
head_of_parts head w (result, a, b, spelled, (gimple, c, d, is_gimple, (open_options, e, f, is_open, (close, g, h, (options, k, holds, is_close, closed), (name, is_name, same), cut_4), cut_3), cut_2), cut_1) =
    subst (λ x. SpellsHead x.result x.name w) same (
      a,
      b,
      spelled,
      (
        c,
        d,
        (gimple, is_gimple),
        (
          e,
          f,
          (open_options, is_open),
          (options, k ++ h, holds, (k, h, (close, is_close), is_name, refl), cut_4 ∙ ap (λ l. l ++ h) closed ∙ append_assoc options k h),
          cut_3,
        ),
        cut_2,
      ),
      cut_1,
    )

head_in_parts : (head : Head) (w : List Token) → SpellsHead head.result head.name w → HeadParts head w
unfolding head_of
head_in_parts head w (a, b, spelled, (c, d, (gimple, is_gimple), (e, f, (open_options, is_open), (options, r, holds, (k, h, (close, is_close), is_name, cut_5), cut_4), cut_3), cut_2), cut_1) = (
  head.result,
  a,
  b,
  spelled,
  (
    gimple,
    c,
    d,
    is_gimple,
    (
      open_options,
      e,
      f,
      is_open,
      (close, options ++ k, h, (options, k, holds, is_close, refl), (head.name, is_name, refl), cut_4 ∙ ap (λ l. options ++ l) cut_5 ∙ sym (append_assoc options k h)),
      cut_3,
    ),
    cut_2,
  ),
  cut_1,
)

-- '(' params ')'

constantly : List DeclText → Span → List DeclText
constantly params at = params

abbrev AfterParams : List DeclText → Spelling Token (List DeclText)
AfterParams params = Mapped (constantly params) (Meant (mark marks.Close))

abbrev ParamsParts : Spelling Token (List DeclText)
ParamsParts = Then (Meant (mark marks.Open)) (λ open_params. Then SpellsParams AfterParams)

no_params_close : (t : Token) (at : Span) → mark marks.Close t ≡ Some at → ¬ GoesOnParams t
no_params_close (tokens.Mark marks.Comma place) at e = absurd (cc)
no_params_close (tokens.Keyword keywords.Void place) at e = absurd (cc)
no_params_close (tokens.TypeWord word place) at e = absurd (cc)
no_params_close t at e = λ impossible. impossible

params_between_reads : Reads ParamsParts Never params_between_at
unfolding constantly
params_between_reads =
    after_token (mark marks.Open) tt (some_mark marks.Open) (λ open_params. Then SpellsParams AfterParams) Never
    (λ open_params. params_at open_params.1 >>= λ params. mark_at marks.Close params.1 >>= λ close_params. Ok (params.0, close_params.1))
    (λ open_params. apart_before SpellsParams AfterParams GoesOnParams Never (λ params all m. not_empty params all m) (λ params all t v m. apart params all t v m)
    params_at (λ params. mark_at marks.Close params.1 >>= λ close_params. Ok (params.0, close_params.1)) params_reads
    (λ params. seen_by (constantly params) (Meant (mark marks.Close)) Never (mark_at marks.Close) (mark_reads marks.Close Never)))
  where
    not_empty : (params all : List DeclText) → AfterParams params all [] → ⊥
    not_empty params all (at, (t, is, one), same) = cc

    apart : (params all : List DeclText) (t : Token) (v : List Token) → AfterParams params all (t ∷ v) → ¬ GoesOnParams t
    apart params all t v (at, (s, is, one), same) = let first : s ≡ t = cc in subst (λ h. ¬ GoesOnParams h) first (no_params_close s at is)

params_of_parts : (params : List DeclText) (w : List Token) → ParamsParts params w → SpellsParamsBetween params w
unfolding constantly
params_of_parts params w (open_params, a, b, is_open, (all, c, d, spelled, (close, is_close, same), cut_2), cut_1) =
    subst (λ ps. SpellsParamsBetween ps w) same (a, b, (open_params, is_open), (c, d, spelled, (close, is_close), cut_2), cut_1)

params_in_parts : (params : List DeclText) (w : List Token) → SpellsParamsBetween params w → ParamsParts params w
unfolding constantly
params_in_parts params w (a, b, (open_params, is_open), (c, d, spelled, (close, is_close), cut_2), cut_1) =
    (open_params, a, b, is_open, (params, c, d, spelled, (close, is_close, refl), cut_2), cut_1)

-- '{' decl* block* '}'

body_of : List DeclText → List BlockText → Span → Body
body_of decls blocks close = record { decls = decls; blocks = blocks; close = close }

abbrev AfterBlocks : List DeclText → List BlockText → Spelling Token Body
AfterBlocks decls blocks = Mapped (body_of decls blocks) (Meant (mark marks.CloseBrace))

abbrev AfterDecls : List DeclText → Spelling Token Body
AfterDecls decls = Then (Many SpellsBlock) (AfterBlocks decls)

abbrev BodyParts : Spelling Token Body
BodyParts = Then (Meant (mark marks.OpenBrace)) (λ open_body. Then (Many SpellsDecl) AfterDecls)

-- what can go on blocks: what goes on the last one, and a further one
abbrev GoesOnBlocks : Token → Type 0
GoesOnBlocks (tokens.Keyword keywords.Block at) = Unit {0}
GoesOnBlocks token = GoesOnBlock token

block_word_begins : (t : Token) (at : Span) → keyword keywords.Block t ≡ Some at → begins_block t ≡ true
block_word_begins (tokens.Keyword keywords.Block place) at e = refl
block_word_begins t at e = absurd (cc)

block_first : (block : BlockText) (t : Token) (w : List Token) → SpellsBlock block (t ∷ w) → begins_block t ≡ true
block_first block t w (u, v, head, others, cut) = block_word_begins t block.head (begins_with (keyword keywords.Block) block.head t w u v head cut)

block_not_empty : (block : BlockText) → SpellsBlock block [] → ⊥
block_not_empty block (u, v, head, others, cut) = takes_token (keyword keywords.Block) block.head u v head cut

block_apart : (t : Token) → begins_block t ≡ true → ¬ GoesOnBlock t
block_apart (tokens.Keyword keywords.Block at) e = λ impossible. impossible
block_apart t e = absurd (cc)

block_goes_on : (t : Token) → begins_block t ≡ true → GoesOnBlocks t
block_goes_on (tokens.Keyword keywords.Block at) e = tt
block_goes_on t e = absurd (cc)

within_blocks : (t : Token) → GoesOnBlock t → GoesOnBlocks t
within_blocks (tokens.Keyword keywords.Block at) e = tt
within_blocks t e = e

blocks_reads : Reads (Many SpellsBlock) GoesOnBlocks blocks_at
blocks_reads = items_read SpellsBlock begins_block block_at GoesOnBlock GoesOnBlocks block_reads block_not_empty block_first block_apart within_blocks block_goes_on

no_type_begins : (t : Token) → begins_block t ≡ true → ¬ GoesOnType t
no_type_begins (tokens.TypeWord word at) e = absurd (cc)
no_type_begins t e = λ impossible. impossible

no_type_brace : (t : Token) (at : Span) → mark marks.CloseBrace t ≡ Some at → ¬ GoesOnType t
no_type_brace (tokens.TypeWord word place) at e = absurd (cc)
no_type_brace t at e = λ impossible. impossible

close_brace_is : (t : Token) (at : Span) → mark marks.CloseBrace t ≡ Some at → t ≡ tokens.Mark marks.CloseBrace at
close_brace_is (tokens.Mark marks.CloseBrace place) at e = cc
close_brace_is t at e = absurd (cc)

decls_then : (decls : List DeclText) → Reads (AfterDecls decls) Never (λ input. blocks_at input >>= λ blocks. mark_at marks.CloseBrace blocks.1 >>= λ close. Ok (body_of decls blocks.0 close.0, close.1))
decls_then decls =
    apart_before (Many SpellsBlock) (AfterBlocks decls) GoesOnBlocks Never (λ blocks body m. not_empty blocks body m) (λ blocks body t v m. apart blocks body t v m)
    blocks_at (λ blocks. mark_at marks.CloseBrace blocks.1 >>= λ close. Ok (body_of decls blocks.0 close.0, close.1)) blocks_reads
    (λ blocks. seen_by (body_of decls blocks) (Meant (mark marks.CloseBrace)) Never (mark_at marks.CloseBrace) (mark_reads marks.CloseBrace Never))
  where
    not_empty : (blocks : List BlockText) (body : Body) → AfterBlocks decls blocks body [] → ⊥
    not_empty blocks body (at, (t, is, one), same) = cc

    apart : (blocks : List BlockText) (body : Body) (t : Token) (v : List Token) → AfterBlocks decls blocks body (t ∷ v) → ¬ GoesOnBlocks t
    apart blocks body t v (at, (s, is, one), same) =
        let first : tokens.Mark marks.CloseBrace at ≡ t = sym (close_brace_is s at is) ∙ cc in
        subst (λ h. ¬ GoesOnBlocks h) first (λ impossible. impossible)

body_reads : Reads BodyParts Never body_at
unfolding body_of
body_reads =
    after_token (mark marks.OpenBrace) tt (some_mark marks.OpenBrace) (λ open_body. Then (Many SpellsDecl) AfterDecls) Never
    (λ open_body. decls_at open_body.1 >>= λ decls. blocks_at decls.1 >>= λ blocks. mark_at marks.CloseBrace blocks.1 >>= λ close. Ok (body_of decls.0 blocks.0 close.0, close.1))
    (λ open_body. apart_before (Many SpellsDecl) AfterDecls GoesOnType Never (λ decls body m. not_empty decls body m) (λ decls body t v m. apart decls body t v m)
    decls_at (λ decls. blocks_at decls.1 >>= λ blocks. mark_at marks.CloseBrace blocks.1 >>= λ close. Ok (body_of decls.0 blocks.0 close.0, close.1)) decls_reads decls_then)
  where
    not_empty : (decls : List DeclText) (body : Body) → AfterDecls decls body [] → ⊥
    not_empty decls body (blocks, u, v, many, (at, (s, is, one), same), cut) = in_blocks u cut
      where
        in_blocks : (u : List Token) → [] ≡ u ++ v → ⊥
        in_blocks [] cut = cc
        in_blocks (h ∷ u) cut = cc

    apart : (decls : List DeclText) (body : Body) (t : Token) (w : List Token) → AfterDecls decls body (t ∷ w) → ¬ GoesOnType t
    apart decls body t w (blocks, u, v, many, (at, meant, same), cut) = in_blocks u many cut
      where
        in_blocks : (u : List Token) → Many SpellsBlock blocks u → t ∷ w ≡ u ++ v → ¬ GoesOnType t
        in_blocks [] many cut = no_type_brace t at (begins_with (mark marks.CloseBrace) at t w v [] meant (cut ∙ sym (append-nil v)))
        in_blocks (h ∷ u) many cut =
            let first : h ≡ t = cc in
            subst (λ k. ¬ GoesOnType k) first
            (no_type_begins h (first_of_items SpellsBlock begins_block block_at GoesOnBlock GoesOnBlocks block_reads block_not_empty block_first block_apart within_blocks block_goes_on blocks h u many))

abbrev SpellsBodyText : Body → List Token → Type 0
SpellsBodyText body = SpellsBody body.decls body.blocks body.close

body_of_parts : (body : Body) (w : List Token) → BodyParts body w → SpellsBodyText body w
unfolding body_of
body_of_parts body w (open_body, a, b, is_open, (decls, c, d, decls_spelled, (blocks, e, f, blocks_spelled, (close, is_close, same), cut_3), cut_2), cut_1) =
    subst (λ x. SpellsBodyText x w) same (a, b, (open_body, is_open), (c, d, decls_spelled, (e, f, blocks_spelled, is_close, cut_3), cut_2), cut_1)

body_in_parts : (body : Body) (w : List Token) → SpellsBodyText body w → BodyParts body w
unfolding body_of
body_in_parts body w (a, b, (open_body, is_open), (c, d, decls_spelled, (e, f, blocks_spelled, is_close, cut_3), cut_2), cut_1) =
    (open_body, a, b, is_open, (body.decls, c, d, decls_spelled, (body.blocks, e, f, blocks_spelled, (body.close, is_close, refl), cut_3), cut_2), cut_1)

-- the whole

abbrev FunctionParts : Spelling Token FunctionText
FunctionParts = Then HeadParts (λ head. Then ParamsParts (λ params. Mapped (function_of head params) BodyParts))

parts_read : Reads FunctionParts Never function_at
parts_read =
    after_free HeadParts (λ head. Then ParamsParts (λ params. Mapped (function_of head params) BodyParts)) Never
    head_at (λ head. params_between_at head.1 >>= λ params. body_at params.1 >>= λ body. Ok (function_of head.0 params.0 body.0, body.1)) head_reads
    (λ head. after_free ParamsParts (λ params. Mapped (function_of head params) BodyParts) Never
    params_between_at (λ params. body_at params.1 >>= λ body. Ok (function_of head params.0 body.0, body.1)) params_between_reads
    (λ params. seen_by (function_of head params) BodyParts Never body_at body_reads))

function_of_parts : (function : FunctionText) (w : List Token) → FunctionParts function w → SpellsFunction function w
function_of_parts function w (head, a, b, of_head, (params, c, d, of_params, (body, of_body, same), cut_2), cut_1) =
    subst (λ x. SpellsFunction x w) same (a, b, head_of_parts head a of_head, (c, d, params_of_parts params c of_params, body_of_parts body d of_body, cut_2), cut_1)

function_in_parts : (function : FunctionText) (w : List Token) → SpellsFunction function w → FunctionParts function w
unfolding head_of body_of
function_in_parts function w (a, b, of_head, (c, d, of_params, of_body, cut_2), cut_1) = (
  head_of function.result function.name,
  a,
  b,
  head_in_parts (head_of function.result function.name) a of_head,
  (
    function.params,
    c,
    d,
    params_in_parts function.params c of_params,
    (body_of function.decls function.blocks function.close, body_in_parts (body_of function.decls function.blocks function.close) d of_body, refl),
    cut_2,
  ),
  cut_1,
)

pub function_reads : Reads SpellsFunction Never function_at
function_reads = in_words FunctionParts SpellsFunction Never function_at function_of_parts function_in_parts parts_read

-- a function takes a token
pub function_not_empty : (function : FunctionText) → SpellsFunction function [] → ⊥
function_not_empty function (a, b, (c, d, spelled, others, cut_2), further, cut_1) = in_type c spelled (no_front a cut_1 ∙ cut_2)
  where
    no_front : (a : List Token) → [] ≡ a ++ b → [] ≡ a
    no_front [] cut = refl
    no_front (h ∷ a) cut = absurd (cc)

    in_type : (c : List Token) → SpellsType function.result c → [] ≡ c ++ d → ⊥
    in_type [] spelled cut = type_not_empty function.result spelled
    in_type (h ∷ c) spelled cut = cc
