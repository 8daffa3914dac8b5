-- A reference as a row of one word, if it is one.
use Rattle.std.specs.Prelude.{Some, None, Option}
use Rattle.line.specs.declared.rows.MemberRow.{MemberRow}
use Rattle.line.specs.declared.rows.ReadsRow.{ReadsRow}
use Rattle.tables.specs.declared.reference.Reference.{Reference}
use Rattle.tables.specs.declared.reference.Reference.TheVariants.{Reads, Member}

abbrev pub as_reads : Reference → Option ReadsRow
as_reads (Reads r) = Some r
as_reads (Member m) = None

abbrev pub as_member : Reference → Option MemberRow
as_member (Reads r) = None
as_member (Member m) = Some m
