use Rattle.std.proofs.Common.{◌≡◌, ◌≤◌, drop}
use Rattle.values.proofs.Numbers.{read_on}
use Rattle.values.proofs.scalars.digits.Given as goal

abbrev pub invariant-loop-d : goal.invariant-loop-d
invariant-loop-d l = (l.n ≤ 65535) × (read_on l.n (drop l.d-index l.part) ≡ read_on 0 l.part)
