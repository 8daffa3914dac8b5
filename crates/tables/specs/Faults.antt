-- What each refusal tells, layer by layer.
use Rattle.std.specs.Prelude.{None}
use Rattle.parts.specs.declared.faults.Told.{Told}
use Rattle.parts.specs.declared.faults.Layer.TheVariants as layer
use Rattle.parts.specs.Faults.{line_told}
use Rattle.tables.specs.declared.faults.RowFault.{RowFault}
use Rattle.tables.specs.declared.faults.RowFault.TheVariants.{Line, Full, Twice}
use Rattle.tables.specs.declared.faults.BookFault.{BookFault}
use Rattle.tables.specs.declared.faults.BookFault.TheVariants.{Row}

abbrev pub row_told : RowFault → Told
row_told (Line e) = line_told e
row_told Full = record { number = 4; layer = layer.Row; field = None }
row_told Twice = record { number = 5; layer = layer.Row; field = None }

abbrev pub book_told : BookFault → Told
book_told (Row e) = row_told e
