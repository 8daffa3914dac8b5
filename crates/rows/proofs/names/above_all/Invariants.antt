use Rattle.std.proofs.Common.{◌≡◌, max, drop}
use Rattle.std.specs.List.{flat_map}
use Rattle.rows.specs.Names.{one_above}
use Rattle.rows.proofs.names.above_all.Given as goal

abbrev pub invariant-loop-row : goal.invariant-loop-row
invariant-loop-row g l = max l.most (one_above (flat_map g.T.Named.names (drop l.row-index l.rows))) ≡ one_above (flat_map g.T.Named.names l.rows)
