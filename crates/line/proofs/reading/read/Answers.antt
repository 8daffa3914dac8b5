use Rattle.std.proofs.Common.{◌≡◌, sym, ◌∙◌, rules}
use Rattle.line.specs.Lines.{row_of}
use Rattle.line.proofs.Cuts.{kept_reads}
use Rattle.line.proofs.reading.read.Goals as goal

pub returns-in_err-line : goal.returns-in_err-line
returns-in_err-line c =
    let value : c.from_residual.result ≡ row_of c.args.bytes.now = search rules in
    record { value = value; cut = value ∙ sym (kept_reads c.args.bytes.now) }

pub returns : goal.returns
returns c =
    let value : c.row.result ≡ row_of c.args.bytes.now = search rules in
    record { value = value; cut = value ∙ sym (kept_reads c.args.bytes.now) }
