-- How many rows of each kind a graph has.
use Rattle.std.specs.Prelude.{ℕ, length, Some, None, Option}
use Rattle.line.specs.declared.kinds.LoadKind.{LoadKind}
use Rattle.line.specs.declared.kinds.LoadKind.TheVariants.{Mode, Module, Symbol, Record, Statement, Uses, Reads, Member, Import, Export, Constant}
use Rattle.line.specs.declared.rows.ModeRow.{ModeRow}
use Rattle.tables.specs.Graph.{Graph}
use Rattle.tables.specs.References.{reads_in, members_in}

abbrev pub mode_count : Option ModeRow → ℕ
mode_count None = 0
mode_count (Some m) = 1

abbrev pub count_of : Graph → LoadKind → ℕ
count_of g Mode = mode_count g.mode
count_of g Module = length g.modules
count_of g Symbol = length g.symbols
count_of g Record = length g.records
count_of g Statement = length g.statements
count_of g Uses = length g.uses
count_of g Reads = length (reads_in g.references)
count_of g Member = length (members_in g.references)
count_of g Import = length g.imports
count_of g Export = length g.exports
count_of g Constant = length g.constants
