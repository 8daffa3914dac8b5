-- What becomes of a line of text that is put into a draft.
use Rattle.std.specs.Prelude.{ℕ, List, Some, None, Option, Ok, Err, Result}
use Rattle.parts.specs.declared.faults.LineFault.{LineFault}
use Rattle.line.specs.declared.rows.Row.{Row as AnyRow}
use Rattle.line.specs.declared.rows.Row.TheVariants as row
use Rattle.line.specs.Lines.{row_of}
use Rattle.tables.specs.declared.faults.BookFault.{BookFault}
use Rattle.tables.specs.declared.faults.BookFault.TheVariants.{Row}
use Rattle.tables.specs.declared.faults.RowFault.{RowFault}
use Rattle.tables.specs.declared.faults.RowFault.TheVariants.{Line}
use Rattle.tables.specs.declared.limits.Limits.{Limits}
use Rattle.tables.specs.Graph.{Graph}
use Rattle.tables.specs.Load.{admitted, loaded}

-- a loading row that was taken, or its refusal
abbrev pub taken : Result (Unit {0}) RowFault → Result (Option AnyRow) RowFault
taken (Ok u) = Ok None
taken (Err e) = Err e

-- a draft takes the loading rows, and hands any other row back
abbrev pub row_outcome : Limits → Graph → Result AnyRow LineFault → Result (Option AnyRow) RowFault
row_outcome l g (Err e) = Err (Line e)
row_outcome l g (Ok (row.Load r)) = taken (admitted l g r)
row_outcome l g (Ok (row.Mark r)) = Ok (Some (row.Mark r))
row_outcome l g (Ok (row.Host r)) = Ok (Some (row.Host r))
row_outcome l g (Ok (row.Ask r)) = Ok (Some (row.Ask r))

-- a row's refusal as the book's
abbrev pub in_book : Result (Option AnyRow) RowFault → Result (Option AnyRow) BookFault
in_book (Ok t) = Ok t
in_book (Err e) = Err (Row e)

abbrev pub line_outcome : Limits → Graph → List ℕ → Result (Option AnyRow) BookFault
line_outcome l g line = in_book (row_outcome l g (row_of line))

abbrev pub graph_after : Limits → Graph → Result AnyRow LineFault → Graph
graph_after l g (Err e) = g
graph_after l g (Ok (row.Load r)) = loaded l g r
graph_after l g (Ok (row.Mark r)) = g
graph_after l g (Ok (row.Host r)) = g
graph_after l g (Ok (row.Ask r)) = g

-- the graph after a line
abbrev pub line_after : Limits → Graph → List ℕ → Graph
line_after l g line = graph_after l g (row_of line)
