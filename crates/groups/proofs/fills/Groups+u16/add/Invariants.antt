use Rattle.std.proofs.Common.{◌≡◌, ◌++◌, drop, vec_capacity, vec_items}
use Rattle.groups.specs.Owned.{numbers_from, numbers_of}
use Rattle.groups.proofs.fills.Groups+u16.add.Given as goal

-- what is added already, and what is still to come, is all that there is to add
abbrev pub invariant-loop-k : goal.invariant-loop-k
invariant-loop-k g l =
    (vec_items l.self.items ++ numbers_from g.T.OwnedBy.owner l.owner l.k (drop l.k l.rows) ≡ vec_items l.fn.self.items ++ numbers_of g.T.OwnedBy.owner l.rows l.owner)
    × (vec_capacity l.self.items ≡ vec_capacity l.fn.self.items)
    × (l.self.starts ≡ l.fn.self.starts)
