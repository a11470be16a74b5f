-- The fault of a file has its place in the file.
use Rattle.std.proofs.Common.{◌≡◌, ◌⊎◌, ℕ, zero, suc, ◌+◌, ◌≤◌, Bool, true, false, ◌&&◌, Option, Some, None, option_map}
use Rattle.std.proofs.Common.{List, [], ◌∷◌, ◌++◌, map, length, Result, Ok, Err, IfErr, refl, sym, ap, subst, arith}
use Rattle.std.proofs.Common.{inl, inr}
use Rattle.std.specs.Prelude.{if◌then◌else◌, nat_le}
use Rattle.std.specs.List.{flat_map, list_all, list_any, AllByRecursion}
use Rattle.std.proofs.lemmas.Bool.{and_parts, leb-true}
use Rattle.pm_wide.specs.Types.{Ty}
use Rattle.gim_ast.specs.WellFormed.{same_text}
use Rattle.gim_ast.proofs.ReadableLemmas.{all_left, all_right}
use Rattle.gim_text.specs.declared.fault.GimpleFault.{GimpleFault}
use Rattle.gim_text.specs.declared.fault.GimpleKind.{GimpleKind}
use Rattle.gim_text.specs.declared.fault.GimpleKind.TheVariants as kinds
use Rattle.gim_text.specs.declared.token.Keyword.TheVariants as keywords
use Rattle.gim_text.specs.declared.token.Mark.TheVariants as marks
use Rattle.pm_places.specs.declared.span.Span.{Span}
use Rattle.gim_text.specs.declared.token.Token.{Token}
use Rattle.gim_text.specs.declared.token.Token.TheVariants as tokens
use Rattle.gim_text.specs.declared.tree.BlockText.{BlockText}
use Rattle.gim_text.specs.declared.tree.EndText.{EndText}
use Rattle.gim_text.specs.declared.tree.EndText.TheVariants.{Goto, If, Return}
use Rattle.gim_text.specs.declared.tree.FunctionText.{FunctionText}
use Rattle.gim_text.specs.declared.tree.ItemText.{ItemText}
use Rattle.gim_text.specs.declared.tree.ItemText.TheVariants.{Phi, Stmt}
use Rattle.gim_text.specs.declared.tree.OperandText.{OperandText}
use Rattle.gim_text.specs.declared.tree.OperandText.TheVariants as operands
use Rattle.gim_text.specs.declared.occurrence.Occurrence.{Occurrence}
use Rattle.gim_text.specs.declared.occurrence.Occurrence.TheVariants.{Parameter, Local, Block, Jump, Assigned, Used, Default, Constant}
use Rattle.gim_text.specs.Faults.{fault_at}
use Rattle.pm_places.specs.FirstFaults.{first_fault, or_fault, first_by}
use Rattle.gim_text.specs.Meanings.{identifier, span_of}
use Rattle.gim_text.specs.Occurrences.{place_of, occurrence_of_operand, occurrences_of_item}
use Rattle.gim_text.specs.Occurrences.{occurrences_of_end, occurrences_of}
use Rattle.gim_lexer.proofs.NumberTexts.{tokens_mean}
use Rattle.gim_lexer.proofs.Cutting.{tokens_stand}
use Rattle.gim_syntax.specs.SyntaxFaults.{last_two_after, last_two, last_after, outside_after}
use Rattle.gim_syntax.specs.SyntaxFaults.{outside_parentheses, depth_after, called, any_word, gimple_of, is_open}
use Rattle.gim_syntax.specs.SyntaxFaults.{closed_options, is_in_block, or_place, unsupported, named_fault}
use Rattle.gim_syntax.specs.SyntaxFaults.{syntax_fault}
use Rattle.gim_names.specs.NamesFault.{kind_of_occurrence, occurrence_fault, occurrences_fault}
use Rattle.gim_names.specs.NamesFault.{second_function, function_fault, names_fault, function_text}
use Rattle.gim_shape.specs.Blocks.{is_among, number_of, named_at, jumps_of, numbers_of, predecessors}
use Rattle.gim_limits.specs.Limits.{is_too_large, large_faults, function_limit_faults, limits_fault}
use Rattle.gim_shape.specs.Phis.{args_fit, item_faults}
use Rattle.gim_shape.specs.Shape.{end_fault, jump_fault, faults_among, body_faults, function_faults, shape_fault}
use Rattle.gim_typing.specs.Declarations.{Declarations, declarations_of, type_of_name}
use Rattle.gim_typing.specs.Types.{start_of, place_of_arg, places_of_item, places_of_end, places_of_block, places_of_function, types_fault}
use Rattle.gim_text.proofs.Membership.{Has, has_left, has_right, all_has, each_has}
use Rattle.gim_making.proofs.Occurring.{in_tree, target_occurs, argument_occurs}
use Rattle.gim_reader.specs.Files.{rules_fault, of_syntax, of_rules, IsFileFault, of_size}
use Rattle.gim_reader.specs.Files.{of_lexing, of_tokens, IsRefusal, by_memory, by_fault}
use Rattle.gim_reader.proofs.Stages.{known_trees}
use Rattle.gim_reader.proofs.WrittenTrees.{stands_in, occurrence_stands, item_stands, block_stands, IsPlaced, AllSure, all_sure, IsKnown}

-- ---- faults in a source of this length

abbrev FaultIn : ℕ → Option GimpleFault → Type 0
FaultIn n None = Unit {0}
FaultIn n (Some fault) = fault.at + fault.len ≤ n

at_place : (n : ℕ) (kind : GimpleKind) (at : Span) → stands_in n at ≡ true → FaultIn n (Some (fault_at kind at))
at_place n kind at h =
    let p = and_parts (nat_le at.from at.to) (nat_le at.to n) h in
    let order = leb-true at.from at.to p.0 in
    let bound = leb-true at.to n p.1 in
    omega (arith, order, bound)

where_broken : (n : ℕ) (broken : Bool) (kind : GimpleKind) (at : Span) → stands_in n at ≡ true
    → FaultIn n (if broken then Some (fault_at kind at) else None)
where_broken n true kind at h = at_place n kind at h
where_broken n false kind at h = tt

unless_kept : (n : ℕ) (kept : Bool) (kind : GimpleKind) (at : Span) → stands_in n at ≡ true
    → FaultIn n (if kept then None else Some (fault_at kind at))
unless_kept n true kind at h = tt
unless_kept n false kind at h = at_place n kind at h

either_in : (n : ℕ) (a b : Option GimpleFault) → FaultIn n a → FaultIn n b → FaultIn n (or_fault a b)
either_in n None b x y = y
either_in n (Some fault) b x y = x

first_in : (n : ℕ) (os : List (Option GimpleFault)) → AllByRecursion (FaultIn n) os → FaultIn n (first_fault os)
first_in n [] all = tt
first_in n (None ∷ os) all = first_in n os all.1
first_in n (Some fault ∷ os) all = all.0

by_first : {X : Type 0} (n : ℕ) (judge : List X → X → Option GimpleFault) (before xs : List X)
    → ((known : List X) (x : X) → Has xs x → FaultIn n (judge known x)) → FaultIn n (first_by judge before xs)
by_first n judge before [] each = tt
by_first n judge before (x ∷ xs) each =
    either_in n (judge before x) (first_by judge (x ∷ before) xs) (each before x (inl refl))
    (by_first n judge (x ∷ before) xs (λ known y there. each known y (inr there)))

all_both : {X : Type 0} (P : X → Type 0) (xs ys : List X) → AllByRecursion P xs → AllByRecursion P ys → AllByRecursion P (xs ++ ys)
all_both P [] ys a b = b
all_both P (x ∷ xs) ys a b = (a.0, all_both P xs ys a.1 b)

all_map : {X Y : Type 0} (P : Y → Type 0) (f : X → Y) (xs : List X) → ((x : X) → Has xs x → P (f x)) → AllByRecursion P (map f xs)
all_map P f [] each = tt
all_map P f (x ∷ xs) each = (each x (inl refl), all_map P f xs (λ y there. each y (inr there)))

all_flat : {X Y : Type 0} (P : Y → Type 0) (f : X → List Y) (xs : List X)
    → ((x : X) → Has xs x → AllByRecursion P (f x)) → AllByRecursion P (flat_map f xs)
all_flat P f [] each = tt
all_flat P f (x ∷ xs) each = all_both P (f x) (flat_map f xs) (each x (inl refl)) (all_flat P f xs (λ y there. each y (inr there)))

-- ---- what occurs

at_occurrence : (n : ℕ) (o : Occurrence) → occurrence_stands n o ≡ true → stands_in n (place_of o) ≡ true
at_occurrence n (Parameter at) h = h
at_occurrence n (Local at) h = h
at_occurrence n (Block at) h = h
at_occurrence n (Jump at) h = h
at_occurrence n (Assigned at) h = h
at_occurrence n (Used at) h = h
at_occurrence n (Default at) h = h
at_occurrence n (Constant literal) h = (and_parts (stands_in n literal.start) (stands_in n literal.number) h).1

at_operand : (n : ℕ) (a : OperandText) → occurrence_stands n (occurrence_of_operand a) ≡ true → stands_in n (start_of a) ≡ true
at_operand n (operands.Name at) h = h
at_operand n (operands.Default at) h = h
at_operand n (operands.Literal literal) h = (and_parts (stands_in n literal.start) (stands_in n literal.number) h).0

module _ (source : List ℕ) (n : ℕ) (tree : FunctionText) (placed : IsPlaced n tree) where
  occurs_in : (o : Occurrence) → Has (occurrences_of tree) o → occurrence_stands n o ≡ true
  occurs_in = all_has (occurrence_stands n) (occurrences_of tree) placed.occurrences

  block_parts : (block : BlockText) → Has tree.blocks block → (stands_in n block.head ≡ true)
      × (list_all (item_stands n) block.items ≡ true)
  block_parts block there =
      and_parts (stands_in n block.head) (list_all (item_stands n) block.items)
      (all_has (block_stands n) tree.blocks placed.blocks block there)

  -- ---- names

  kind_in : (kind : Option GimpleKind) (at : Span) → stands_in n at ≡ true → FaultIn n (option_map (λ (k : GimpleKind). fault_at k at) kind)
  kind_in None at h = tt
  kind_in (Some kind) at h = at_place n kind at h

  function_names_in : (before : List FunctionText) → FaultIn n (function_fault source before tree)
  function_names_in before =
      let all = occurrences_of tree in
      either_in n (second_function source before tree) (occurrences_fault source all)
      (where_broken n (list_any (same_text (function_text source tree)) (map (function_text source) before))
      kinds.Redefined tree.name placed.name)
      (by_first n (occurrence_fault source all) [] all
      (λ known o there. kind_in (kind_of_occurrence source all known o) (place_of o)
      (at_occurrence n o (occurs_in o there))))

  -- ---- shape

  end_in : (head : Span) (end : Option EndText) → stands_in n head ≡ true → FaultIn n (end_fault head end)
  end_in head None h = at_place n kinds.NoReturn head h
  end_in head (Some end) h = tt

  items_in : (from : List Span) (may : Bool) (list : List ItemText)
      → ((o : Occurrence) → Has (flat_map occurrences_of_item list) o → occurrence_stands n o ≡ true)
      → AllByRecursion (FaultIn n) (item_faults source from may list)
  items_in from may [] known = tt
  items_in from may (Phi name args ∷ list) known = (
    unless_kept n (may && args_fit source from args) kinds.BadPhi name (known (Assigned name) (inl refl)),
    items_in from may list (λ o there. known o
        (has_right (occurrences_of_item (Phi name args)) (flat_map occurrences_of_item list) o there)),
  )
  items_in from may (Stmt name right ∷ list) known = (
    tt,
    items_in from false list (λ o there. known o
        (has_right (occurrences_of_item (Stmt name right)) (flat_map occurrences_of_item list) o there)),
  )

  block_shape_in : (may : Bool) (block : BlockText) → Has tree.blocks block
      → AllByRecursion (FaultIn n) (faults_among source tree.blocks may block)
  block_shape_in may block there =
      let from = predecessors source tree.blocks (number_of source block) in
      let there_is = is_among (numbers_of source tree.blocks) in (
        end_in block.head block.end (block_parts block there).0,
        all_both (FaultIn n) (item_faults source from may block.items) (map (jump_fault source there_is) (jumps_of block))
            (items_in from may block.items
            (λ o h. occurs_in o (in_tree tree block o there
            (has_left (Block block.number ∷ flat_map occurrences_of_item block.items) (occurrences_of_end block.end) o
            (inr h)))))
            (all_map (FaultIn n) (jump_fault source there_is) (jumps_of block) (λ at h.
            unless_kept n (there_is (named_at source at))
            kinds.MissingBlock at (occurs_in (Jump at) (target_occurs tree block at there h)))),
      )

  function_shape_in : AllByRecursion (FaultIn n) (function_faults source tree)
  function_shape_in = by tree.blocks refl where
    by : (blocks : List BlockText) → tree.blocks ≡ blocks → AllByRecursion (FaultIn n) (body_faults source tree.close blocks)
    by [] e = (at_place n kinds.MissingBlock tree.close placed.close, tt)
    by (entry ∷ rest) e =
        let among = λ (may : Bool) (block : BlockText) (h : Has (entry ∷ rest) block).
        subst (λ bs. AllByRecursion (FaultIn n) (faults_among source bs may block)) e
        (block_shape_in may block (subst (λ bs. Has bs block) (sym e) h)) in
        all_both (FaultIn n) (faults_among source (entry ∷ rest) false entry)
        (flat_map (faults_among source (entry ∷ rest) true) rest) (among false entry (inl refl))
        (all_flat (FaultIn n) (faults_among source (entry ∷ rest) true) rest (λ block h. among true block (inr h)))

  -- ---- types

  item_types_in : (known : Declarations) (block : BlockText) (item : ItemText) → Has tree.blocks block
      → Has block.items item → AllByRecursion (FaultIn n) (places_of_item known item)
  item_types_in known block (Phi name args) there in_block =
      all_map (FaultIn n) (place_of_arg known (type_of_name known name)) args (λ arg h.
      unless_kept n _ kinds.TypeMismatch arg.from (occurs_in (Jump arg.from) (argument_occurs tree block name args arg there in_block h)))
  item_types_in known block (Stmt name right) there in_block = (
    unless_kept n _ kinds.TypeMismatch right.start
        (all_has (item_stands n) block.items (block_parts block there).1 (Stmt name right) in_block),
    tt,
  )

  end_types_in : (known : Declarations) (result : Ty) (end : Option EndText)
      → ((o : Occurrence) → Has (occurrences_of_end end) o → occurrence_stands n o ≡ true)
      → AllByRecursion (FaultIn n) (places_of_end known result end)
  end_types_in known result None stands = tt
  end_types_in known result (Some (Goto to)) stands = tt
  end_types_in known result (Some (If code a b yes_to no_to)) stands = (
    unless_kept n _ kinds.TypeMismatch (start_of a) (at_operand n a (stands (occurrence_of_operand a) (inl refl))),
    tt,
  )
  end_types_in known result (Some (Return a)) stands = (
    unless_kept n _ kinds.TypeMismatch (start_of a) (at_operand n a (stands (occurrence_of_operand a) (inl refl))),
    tt,
  )

  function_types_in : AllByRecursion (FaultIn n) (places_of_function source tree)
  function_types_in =
      let known = declarations_of source tree in
      all_flat (FaultIn n) (places_of_block known tree.result) tree.blocks (λ block there.
      all_both (FaultIn n) (flat_map (places_of_item known) block.items) (places_of_end known tree.result block.end)
      (all_flat (FaultIn n) (places_of_item known) block.items (λ item in_block. item_types_in known block item there in_block))
      (end_types_in known tree.result block.end
      (λ o h. occurs_in o (in_tree tree block o there
      (has_right (Block block.number ∷ flat_map occurrences_of_item block.items) (occurrences_of_end block.end) o h)))))

  -- ---- limits

  large_in : (before os : List Occurrence) → ((o : Occurrence) → Has os o → occurrence_stands n o ≡ true)
      → AllByRecursion (FaultIn n) (large_faults source before os)
  large_in before [] known = tt
  large_in before (o ∷ os) known = (
    where_broken n (is_too_large source before o) kinds.TooLarge (place_of o)
        (at_occurrence n o (known o (inl refl))),
    large_in (o ∷ before) os (λ x there. known x (inr there)),
  )

  function_limits_in : AllByRecursion (FaultIn n) (function_limit_faults source tree)
  function_limits_in = large_in [] (occurrences_of tree) occurs_in

-- ---- all rules

names_in : (source : List ℕ) (n : ℕ) (trees : List FunctionText)
    → ((tree : FunctionText) → Has trees tree → IsPlaced n tree) → FaultIn n (names_fault source trees)
unfolding names_fault
names_in source n trees placed =
    by_first n (function_fault source) [] trees
    (λ before tree there. function_names_in source n tree (placed tree there) before)

shape_in : (source : List ℕ) (n : ℕ) (trees : List FunctionText)
    → ((tree : FunctionText) → Has trees tree → IsPlaced n tree) → FaultIn n (shape_fault source trees)
unfolding shape_fault
shape_in source n trees placed =
    first_in n (flat_map (function_faults source) trees)
    (all_flat (FaultIn n) (function_faults source) trees
    (λ tree there. function_shape_in source n tree (placed tree there)))

types_in : (source : List ℕ) (n : ℕ) (trees : List FunctionText)
    → ((tree : FunctionText) → Has trees tree → IsPlaced n tree) → FaultIn n (types_fault source trees)
unfolding types_fault
types_in source n trees placed =
    first_in n (flat_map (places_of_function source) trees)
    (all_flat (FaultIn n) (places_of_function source) trees
    (λ tree there. function_types_in source n tree (placed tree there)))

limits_in : (source : List ℕ) (n : ℕ) (trees : List FunctionText)
    → ((tree : FunctionText) → Has trees tree → IsPlaced n tree) → FaultIn n (limits_fault source trees)
unfolding limits_fault
limits_in source n trees placed =
    first_in n (flat_map (function_limit_faults source) trees)
    (all_flat (FaultIn n) (function_limit_faults source) trees
    (λ tree there. function_limits_in source n tree (placed tree there)))

rules_in : (source : List ℕ) (n : ℕ) (trees : List FunctionText)
    → ((tree : FunctionText) → Has trees tree → IsPlaced n tree) → FaultIn n (rules_fault source trees)
unfolding rules_fault
rules_in source n trees placed =
    let names = names_fault source trees in
    let shape = shape_fault source trees in
    let types = types_fault source trees in
    let limits = limits_fault source trees in
    either_in n names (or_fault shape (or_fault types limits)) (names_in source n trees placed)
    (either_in n shape (or_fault types limits) (shape_in source n trees placed)
    (either_in n types limits (types_in source n trees placed) (limits_in source n trees placed)))

-- ---- syntax

abbrev SpanIn : ℕ → Option Span → Type 0
SpanIn n None = Unit {0}
SpanIn n (Some at) = stands_in n at ≡ true

abbrev IsIn : ℕ → Token → Type 0
IsIn n t = stands_in n (span_of t) ≡ true

abbrev TokenIn : ℕ → Option Token → Type 0
TokenIn n None = Unit {0}
TokenIn n (Some t) = IsIn n t

or_in : (n : ℕ) (a b : Option Span) → SpanIn n a → SpanIn n b → SpanIn n (or_place a b)
or_in n None b x y = y
or_in n (Some at) b x y = x

where_span : (n : ℕ) (test : Bool) (o : Option Span) → SpanIn n o → SpanIn n (if test then o else None)
where_span n true o h = h
where_span n false o h = tt

identifier_in : (n : ℕ) (t : Token) → IsIn n t → SpanIn n (identifier t)
identifier_in n (tokens.Identifier at) h = h
identifier_in n (tokens.Ssa at) h = h
identifier_in n t h = tt

called_in : (n : ℕ) (a b : Option Token) → TokenIn n a → SpanIn n (called a b)
called_in n (Some name) (Some (tokens.Mark marks.Open at)) h = identifier_in n name h
called_in n a b h = tt

word_in : (n : ℕ) (t : Token) → IsIn n t → SpanIn n (any_word t)
word_in n (tokens.TypeWord word at) h = h
word_in n (tokens.Keyword word at) h = h
word_in n (tokens.BlockWord at) h = h
word_in n (tokens.Ssa at) h = h
word_in n (tokens.Identifier at) h = h
word_in n t h = tt

gimple_in : (n : ℕ) (o : Option Token) → TokenIn n o → SpanIn n (gimple_of o)
gimple_in n (Some (tokens.Keyword keywords.Gimple at)) h = h
gimple_in n o h = tt

two_in : (n : ℕ) (before last : Option Token) (front : List Token) → TokenIn n before → TokenIn n last → AllByRecursion (IsIn n) front
    → TokenIn n (last_two_after before last front).0 × TokenIn n (last_two_after before last front).1
two_in n before last [] a b h = (a, b)
two_in n before last (t ∷ front) a b h = two_in n last (Some t) front b h.0 h.1

last_in : (n : ℕ) (last : Option Token) (front : List Token) → TokenIn n last → AllByRecursion (IsIn n) front
    → TokenIn n (last_after last front)
last_in n last [] a h = a
last_in n last (t ∷ front) a h = last_in n (Some t) front h.0 h.1

outside_in : (n depth : ℕ) (front : List Token) → AllByRecursion (IsIn n) front → AllByRecursion (IsIn n) (outside_after depth front)
outside_in n depth [] h = tt
outside_in n depth (tokens.Mark marks.Open at ∷ front) h = outside_in n (suc depth) front h.1
outside_in n depth (tokens.Mark marks.Close at ∷ front) h = outside_in n _ front h.1
outside_in n zero (t ∷ front) h = (h.0, outside_in n zero front h.1)
outside_in n (suc depth) (t ∷ front) h = outside_in n (suc depth) front h.1

options_in : (n : ℕ) (front : List Token) (t : Token) → AllByRecursion (IsIn n) front → SpanIn n (closed_options front t)
options_in n front (tokens.Mark marks.Close at) h =
    where_span n (is_open (depth_after 0 front)) (gimple_of (last_after None (outside_parentheses front)))
    (gimple_in n (last_after None (outside_parentheses front))
    (last_in n None (outside_parentheses front) tt (outside_in n zero front h)))
options_in n front t h = tt

unsupported_in : (n : ℕ) (front : List Token) (t : Token) → AllByRecursion (IsIn n) front → IsIn n t → SpanIn n (unsupported front t)
unsupported_in n front t h here =
    let two = last_two front in
    let both = two_in n None None front tt tt h in
    or_in n (called two.1 (Some t)) _ (called_in n two.1 (Some t) both.1)
    (or_in n (if is_in_block front then called two.0 two.1 else None) _
    (where_span n (is_in_block front) (called two.0 two.1) (called_in n two.0 two.1 both.0))
    (or_in n (any_word t) (closed_options front t) (word_in n t here) (options_in n front t h)))

named_in : (n : ℕ) (t : Token) (o : Option Span) → IsIn n t → SpanIn n o → FaultIn n (Some (named_fault t o))
named_in n t None here h = at_place n kinds.Syntax (span_of t) here
named_in n t (Some at) here h = at_place n kinds.Unsupported at h

syntax_in : (n : ℕ) (front rest : List Token) → AllByRecursion (IsIn n) front → AllByRecursion (IsIn n) rest
    → FaultIn n (Some (syntax_fault n front rest))
syntax_in n front [] h k = omega arith
syntax_in n front (t ∷ rest) h k = named_in n t (unsupported front t) k.0 (unsupported_in n front t h k.0)

-- ---- files

stand : (source : List ℕ) (list : List Token) → AllSure source list → AllByRecursion (IsIn (length source)) list
stand source [] sure = tt
stand source (t ∷ list) sure = (sure.0.placed, stand source list sure.1)

pub within : (source : List ℕ) (fault : GimpleFault) → IsFileFault source fault → fault.at + fault.len ≤ length source
within source fault (of_size long is) = subst (λ (f : GimpleFault). f.at + f.len ≤ length source) (sym is) (omega arith)
within source fault (of_lexing limited lexing is) = let len : fault.len ≡ 0 = ap (λ (f : GimpleFault). f.len) is in
    omega (arith, lexing.within, len)
within source fault (of_tokens limited list are (of_syntax h)) =
    let n = length source in
    let all =
    subst (AllByRecursion (IsIn n)) h.first.cut
    (stand source list (all_sure source list (tokens_mean source list are) (tokens_stand source list are))) in
    subst (λ (f : GimpleFault). f.at + f.len ≤ n) (sym h.is)
    (syntax_in n h.first.front h.rest (all_left (IsIn n) h.first.front h.rest all)
    (all_right (IsIn n) h.first.front h.rest all))
within source fault (of_tokens limited list are (of_rules trees spelled broken)) =
    let n = length source in
    let known = known_trees source list trees limited are spelled in
    subst (FaultIn n) broken (rules_in source n trees (λ tree there. (each_has (IsKnown source) trees known tree there).placed))

pub refused_within : {X : Type 0} (source : List ℕ) (result : Result X GimpleFault) → IfErr result (IsRefusal source)
    → IfErr result (λ fault. (fault.kind ≡ kinds.Memory) ⊎ (fault.at + fault.len ≤ length source))
refused_within source (Ok x) refused = tt
refused_within source (Err fault) refused = by refused where
  by : IsRefusal source fault → (fault.kind ≡ kinds.Memory) ⊎ (fault.at + fault.len ≤ length source)
  by (by_memory e) = inl e
  by (by_fault h) = inr (within source fault h)
