-- Which rows a draft takes: first the limit of the row's table, then the rows of which there can be one.
use Rattle.std.specs.Prelude.{Bool, cond, ◌&&◌, is_ok, Some, None, Ok, Err, Option, Result, ◌==◌}
use Rattle.line.specs.declared.rows.ConstantRow.{ConstantRow}
use Rattle.line.specs.declared.rows.ExportRow.{ExportRow}
use Rattle.line.specs.declared.rows.ImportRow.{ImportRow}
use Rattle.line.specs.declared.rows.LoadRow.{LoadRow}
use Rattle.line.specs.declared.rows.LoadRow.TheVariants.{Mode, Module, Symbol, Record, Statement, Uses, Reads, Member, Import, Export, Constant}
use Rattle.line.specs.declared.rows.ModeRow.{ModeRow}
use Rattle.tables.specs.declared.faults.RowFault.{RowFault}
use Rattle.tables.specs.declared.faults.RowFault.TheVariants.{Full}
use Rattle.tables.specs.declared.limits.Limits.{Limits}
use Rattle.tables.specs.Graph.{Graph, added}
use Rattle.tables.specs.References.{reads_in, members_in}
use Rattle.tables.specs.Room.{fits, fits_once}

-- two imports of one module's local
abbrev pub same_import : ImportRow → ImportRow → Bool
same_import a b = a.«module» == b.«module» && a.local == b.local

-- two exports of one name of a module, whatever their classes
abbrev pub same_export : ExportRow → ExportRow → Bool
same_export a b = a.«module» == b.«module» && a.name == b.name

-- two constants of one symbol
abbrev pub same_constant : ConstantRow → ConstantRow → Bool
same_constant a b = a.symbol == b.symbol

-- there is one mode at most
abbrev pub mode_fits : Option ModeRow → Result (Unit {0}) RowFault
mode_fits None = Ok tt
mode_fits (Some m) = Err Full

-- whether a row is taken, or why it is refused
abbrev pub admitted : Limits → Graph → LoadRow → Result (Unit {0}) RowFault
admitted l g (Mode r) = mode_fits g.mode
admitted l g (Module r) = fits g.modules l.modules
admitted l g (Symbol r) = fits g.symbols l.symbols
admitted l g (Record r) = fits g.records l.records
admitted l g (Statement r) = fits g.statements l.statements
admitted l g (Uses r) = fits g.uses l.uses
admitted l g (Reads r) = fits (reads_in g.references) l.reads
admitted l g (Member r) = fits (members_in g.references) l.members
admitted l g (Import r) = fits_once (same_import r) g.imports l.imports
admitted l g (Export r) = fits_once (same_export r) g.exports l.exports
admitted l g (Constant r) = fits_once (same_constant r) g.constants l.constants

-- the graph after a row was loaded or refused
abbrev pub loaded : Limits → Graph → LoadRow → Graph
loaded l g r = cond (is_ok (admitted l g r)) (added g r) g
