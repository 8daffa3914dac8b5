use Rattle.std.proofs.Common.{[], take, sym, ap}
use Rattle.parts.proofs.Keeping.{open_fed}
use Rattle.parts.proofs.buffer.LineBuffer.clear.Goals as goal

pub returns-clause-goes : goal.returns-clause-goes
returns-clause-goes c text = sym (ap (take 128) (open_fed [] text))
