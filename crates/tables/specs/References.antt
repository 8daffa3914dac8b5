-- The references of statements, and those of one word, which are numbered among themselves.
use Rattle.std.specs.Prelude.{List, [], ◌∷◌}
use Rattle.line.specs.declared.rows.MemberRow.{MemberRow}
use Rattle.line.specs.declared.rows.ReadsRow.{ReadsRow}
use Rattle.tables.specs.declared.reference.Reference.{Reference}
use Rattle.tables.specs.declared.reference.Reference.TheVariants.{Reads, Member}

abbrev pub reads_in : List Reference → List ReadsRow
reads_in [] = []
reads_in (Reads r ∷ rs) = r ∷ reads_in rs
reads_in (Member m ∷ rs) = reads_in rs

abbrev pub members_in : List Reference → List MemberRow
members_in [] = []
members_in (Reads r ∷ rs) = members_in rs
members_in (Member m ∷ rs) = m ∷ members_in rs
