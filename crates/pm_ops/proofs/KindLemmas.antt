-- No two kinds of fault have one word.
use Rattle.std.proofs.Common.{◌≡◌, List, [], ◌∷◌, Option, Some, refl, find}
use Rattle.std.specs.Str.{bytes_eq}
use Rattle.pm_ops.proofs.FindLemmas.{names_differ}
use Rattle.pm_ops.specs.declared.fault.PatternKind.{PatternKind}
use Rattle.pm_ops.specs.declared.fault.PatternKind.TheVariants.{Memory, TooLong, BadByte, OpenComment, OpenString, LongNumber, Directive, TooDeep, Syntax, CSyntax, UnknownOperator, UnknownPredicate, UnboundCapture, BadArity, BadFlag, BadArgument, DuplicateName, LateCase, TooManyTokens, TooManyCaptures, TooManyNodes, CName, TypeUnknown, CType, EmptyList, ListLengths, NotCommutative, TooManyRows}
use Rattle.pm_ops.specs.Names.{Name}
use Rattle.pm_ops.specs.Faults.{kind_name}

abbrev all_kinds : List PatternKind
all_kinds = Memory ∷ TooLong ∷ BadByte ∷ OpenComment ∷ OpenString ∷ LongNumber ∷ Directive ∷ TooDeep ∷ Syntax ∷ CSyntax ∷ UnknownOperator ∷ UnknownPredicate ∷ UnboundCapture ∷ BadArity ∷ BadFlag ∷ BadArgument ∷ DuplicateName ∷ LateCase ∷ TooManyTokens ∷ TooManyCaptures ∷ TooManyNodes ∷ CName ∷ TypeUnknown ∷ CType ∷ EmptyList ∷ ListLengths ∷ NotCommutative ∷ TooManyRows ∷ []

unfoldable kind_named : Name → Option PatternKind
kind_named name = find (λ kind. bytes_eq (kind_name kind) name) all_kinds

kind_named-kind_name : (kind : PatternKind) → kind_named (kind_name kind) ≡ Some kind
unfolding kind_named
kind_named-kind_name Memory = refl
kind_named-kind_name TooLong = refl
kind_named-kind_name BadByte = refl
kind_named-kind_name OpenComment = refl
kind_named-kind_name OpenString = refl
kind_named-kind_name LongNumber = refl
kind_named-kind_name Directive = refl
kind_named-kind_name TooDeep = refl
kind_named-kind_name Syntax = refl
kind_named-kind_name CSyntax = refl
kind_named-kind_name UnknownOperator = refl
kind_named-kind_name UnknownPredicate = refl
kind_named-kind_name UnboundCapture = refl
kind_named-kind_name BadArity = refl
kind_named-kind_name BadFlag = refl
kind_named-kind_name BadArgument = refl
kind_named-kind_name DuplicateName = refl
kind_named-kind_name LateCase = refl
kind_named-kind_name TooManyTokens = refl
kind_named-kind_name TooManyCaptures = refl
kind_named-kind_name TooManyNodes = refl
kind_named-kind_name CName = refl
kind_named-kind_name TypeUnknown = refl
kind_named-kind_name CType = refl
kind_named-kind_name EmptyList = refl
kind_named-kind_name ListLengths = refl
kind_named-kind_name NotCommutative = refl
kind_named-kind_name TooManyRows = refl

pub kind_names_differ : (a b : PatternKind) → kind_name a ≡ kind_name b → a ≡ b
kind_names_differ = names_differ kind_named kind_name kind_named-kind_name
