use Rattle.std.proofs.Common.{◌≡◌, vec_capacity}
use Rattle.groups.specs.Groups.{Holds}
use Rattle.groups.specs.Owned.{numbers_of}
use Rattle.groups.proofs.fills.Groups+u16.fill.Given as goal

abbrev pub invariant-loop-owner : goal.invariant-loop-owner
invariant-loop-owner g l =
    Holds (numbers_of g.T.OwnedBy.owner l.rows) l.owner l.self
    × (vec_capacity l.self.items ≡ vec_capacity l.fn.self.items)
    × (vec_capacity l.self.starts ≡ vec_capacity l.fn.self.starts)
