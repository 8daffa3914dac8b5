use Rattle.std.proofs.Common.{sym, ◌∙◌, arith}
use Rattle.groups.proofs.Numbers.{next_fits}
use Rattle.groups.proofs.fills.Groups+u16.add.Goals as goal

pub push_reserved-requires : goal.push_reserved-requires
push_reserved-requires g c =
    let fits = next_fits g.T.OwnedBy.owner c.args.owner c.loop-k.k c.args.rows.now c.index-rows-k.result _ _ c.loop-k-test.true c.index-rows-k.is (sym c.owner.ensures ∙ c.if-owner.true) c.loop-k.invariant.0 in
    omega (arith, fits, c.loop-k.invariant.1, c.requires.items, c.loop-k.self.items.ok.0, c.args.self.now.items.ok.0)
