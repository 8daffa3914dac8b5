-- How a draft holds a graph, and its limits.
use Rattle.tables.specs.declared.draft.Draft.{Draft}
use Rattle.tables.specs.declared.limits.Limits.{Limits}
use Rattle.tables.specs.Flags.{statements_of, statement_limit}
use Rattle.tables.specs.Graph.{Graph, graph_of}
use Rattle.tables.specs.Quotas.{references_of}
use Rattle.tables.specs.Room.{rows_of, limit_of}

abbrev pub graph : Draft → Graph
graph d = graph_of d.mode (rows_of d.modules) (rows_of d.symbols) (rows_of d.records) (statements_of d.statements) (rows_of d.uses) (references_of d.references) (rows_of d.imports) (rows_of d.exports) (rows_of d.constants)

abbrev pub limits_of : Draft → Limits
limits_of d = record {
  modules = limit_of d.modules;
  symbols = limit_of d.symbols;
  records = limit_of d.records;
  statements = statement_limit d.statements;
  uses = limit_of d.uses;
  reads = d.references.reads.limit;
  members = d.references.members.limit;
  imports = limit_of d.imports;
  exports = limit_of d.exports;
  constants = limit_of d.constants;
  carriers = d.carriers;
  binds = d.binds;
  names = d.names;
}
