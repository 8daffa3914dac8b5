-- The graph that the rows hold.
use Rattle.tables.specs.Graph.{Graph}
use Rattle.tables.specs.View as tables
use Rattle.rows.specs.declared.rows.Rows.{Rows}

abbrev pub graph : Rows → Graph
graph r = tables.graph r.draft
