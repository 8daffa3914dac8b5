use Rattle.std.proofs.Common.{◌≡◌, ◌+◌, max, drop, ap, ◌∙◌}
use Rattle.std.specs.List.{flat_map}
use Rattle.rows.specs.Names.{one_above}
use Rattle.rows.proofs.Above.{row_more}
use Rattle.rows.proofs.names.above_all.Goals as goal

pub loop-row-preserved : goal.loop-row-preserved
loop-row-preserved g c =
    let rest = one_above (flat_map g.T.Named.names (drop (c.loop-row.row-index + 1) c.args.rows.now)) in
    let most : c.max-most.result ≡ max c.loop-row.most (one_above (g.T.Named.names c.row-item.result)) = c.max-most.ensures ∙ ap (max c.loop-row.most) c.above.ensures in
    ap (λ m. max m rest) most ∙ row_more g.T.Named.names c.args.rows.now c.loop-row.row-index c.loop-row.most c.loop-row.invariant c.row-item.result c.loop-row-test.true c.row-item.is
