-- Faults of pattern files, and the words that name their kinds in a report line.
use Rattle.std.specs.Prelude.{codes}
use Rattle.pm_ops.specs.Names.{Name}
use Rattle.pm_ops.specs.declared.fault.PatternFault.{PatternFault}
use Rattle.pm_ops.specs.declared.fault.PatternKind.{PatternKind}
use Rattle.pm_ops.specs.declared.fault.PatternKind.TheVariants.{Memory, TooLong, BadByte, OpenComment, OpenString, LongNumber, Directive, TooDeep, Syntax, CSyntax, UnknownOperator, UnknownPredicate, UnboundCapture, BadArity, BadFlag, BadArgument, DuplicateName, LateCase, TooManyTokens, TooManyCaptures, TooManyNodes, CName, TypeUnknown, CType, EmptyList, ListLengths, NotCommutative, TooManyRows}

-- want of memory has no place
abbrev pub memory_fault : PatternFault
memory_fault = record { kind = Memory; at = 0; len = 0 }

-- the word for the kind
abbrev pub kind_name : PatternKind → Name
kind_name Memory = codes "Memory"
kind_name TooLong = codes "TooLong"
kind_name BadByte = codes "BadByte"
kind_name OpenComment = codes "OpenComment"
kind_name OpenString = codes "OpenString"
kind_name LongNumber = codes "LongNumber"
kind_name Directive = codes "Directive"
kind_name TooDeep = codes "TooDeep"
kind_name Syntax = codes "Syntax"
kind_name CSyntax = codes "CSyntax"
kind_name UnknownOperator = codes "UnknownOperator"
kind_name UnknownPredicate = codes "UnknownPredicate"
kind_name UnboundCapture = codes "UnboundCapture"
kind_name BadArity = codes "BadArity"
kind_name BadFlag = codes "BadFlag"
kind_name BadArgument = codes "BadArgument"
kind_name DuplicateName = codes "DuplicateName"
kind_name LateCase = codes "LateCase"
kind_name TooManyTokens = codes "TooManyTokens"
kind_name TooManyCaptures = codes "TooManyCaptures"
kind_name TooManyNodes = codes "TooManyNodes"
kind_name CName = codes "CName"
kind_name TypeUnknown = codes "TypeUnknown"
kind_name CType = codes "CType"
kind_name EmptyList = codes "EmptyList"
kind_name ListLengths = codes "ListLengths"
kind_name NotCommutative = codes "NotCommutative"
kind_name TooManyRows = codes "TooManyRows"
