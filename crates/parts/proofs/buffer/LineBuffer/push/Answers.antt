use Rattle.std.proofs.Common.{arith, rules}
use Rattle.parts.proofs.Keeping.{kept_more, kept_full, kept_on}
use Rattle.parts.proofs.buffer.LineBuffer.push.Goals as goal

pub returns-then-self-lt128 : goal.returns-then-self-lt128
returns-then-self-lt128 c =
    let s = c.self.inside in
    let more = rw c.self.view_is at (kept_more s.kept s.len c.args.b (search rules) c.if-self-lt128.true) in
    record { value = more; goes = λ text ne h. kept_on text c.args.self.now _ c.args.b ne more h }

pub returns-else-self-lt128 : goal.returns-else-self-lt128
returns-else-self-lt128 c =
    let s = c.self.inside in
    let full = rw c.self.view_is at (kept_full s.kept s.len c.args.b (search rules) (omega (arith, c.self.invariant))) in
    record { value = full; goes = λ text ne h. kept_on text c.args.self.now _ c.args.b ne full h }
