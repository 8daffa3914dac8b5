use Rattle.std.proofs.Common.{◌≡◌, ◌+◌, ◌∷◌, ◌++◌, [], length, vec_items, vec_len, ap, ◌∙◌, arith}
use Rattle.groups.specs.Owned.{numbers_of}
use Rattle.groups.proofs.Numbers.{owners_fit}
use Rattle.groups.proofs.Spans.{grown, group_is, items_long, starts_long}
use Rattle.groups.proofs.fills.Groups+u16.fill.Goals as goal

pub add-requires-clause-items : goal.add-requires-clause-items
add-requires-clause-items g c =
    let f = numbers_of g.T.OwnedBy.owner c.args.rows.now in
    omega (
      arith,
      items_long f c.loop-owner.owner c.loop-owner.self c.loop-owner.invariant.0,
      owners_fit g.T.OwnedBy.owner c.args.rows.now (c.loop-owner.owner + 1),
      c.loop-owner.invariant.1,
      c.capacity.ensures,
      c.if-rows-capacity.false,
      c.loop-owner.self.items.ok.0,
    )

pub add-requires-clause-starts : goal.add-requires-clause-starts
add-requires-clause-starts g c =
    let f = numbers_of g.T.OwnedBy.owner c.args.rows.now in
    omega (
      arith,
      starts_long f c.loop-owner.owner c.loop-owner.self c.loop-owner.invariant.0,
      c.loop-owner.invariant.2,
      c.capacity-else-rows-capacity.ensures,
      c.if-groups-capacity.false,
      c.loop-owner-test.true,
      c.loop-owner.self.starts.ok.0,
    )

pub loop-owner-preserved : goal.loop-owner-preserved
loop-owner-preserved g c =
    let f = numbers_of g.T.OwnedBy.owner c.args.rows.now in
    let long : vec_len c.add.new.self.items ≡ length (vec_items c.add.new.self.items) = omega (arith, c.add.new.self.items.ok.0) in (
      grown f c.loop-owner.owner c.loop-owner.self c.add.new.self c.loop-owner.invariant.0 c.add.ensures.items (c.add.ensures.starts ∙ ap (λ n. vec_items c.loop-owner.self.starts ++ n ∷ []) long),
      c.add.ensures.room.0 ∙ c.loop-owner.invariant.1,
      c.add.ensures.room.1 ∙ c.loop-owner.invariant.2,
    )

pub returns-clause-groups : goal.returns-clause-groups
returns-clause-groups g c ok i lt =
    group_is (numbers_of g.T.OwnedBy.owner c.args.rows.now) c.loop-owner.owner c.loop-owner.self c.loop-owner.invariant.0 i (omega (arith, c.loop-owner-test.false, c.from-groups.ensures))
