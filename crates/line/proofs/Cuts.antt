-- A line is read by its first 128 bytes.
use Rattle.std.proofs.Common.{◌≡◌, ℕ, ◌<◌, cond, List, length, take, Err, sym, ap, ◌∙◌, ⊎_elim, arith}
use borrow.Author.Tests.{lt-leb}
use Rattle.std.proofs.lemmas.List.{take_all, length-take}
use Rattle.std.proofs.lemmas.Bool.{cases_lt}
use Rattle.parts.specs.declared.faults.LineFault.TheVariants.{Form}
use Rattle.parts.specs.Parts.{front, after, fields}
use Rattle.line.specs.Lines.{row_of, read_split, of_kind, kind_of}

-- a line that is too long is refused
too_long : (line : List ℕ) → 127 < length line → row_of line ≡ Err Form
too_long line h = ap (λ b. read_split (cond b (of_kind (kind_of (front line) (fields (after line))) (fields (after line))) (Err Form))) (lt-leb (length line) 127 h)

-- what is kept of a line is read as the line
pub kept_reads : (line : List ℕ) → row_of (take 128 line) ≡ row_of line
kept_reads line = ⊎_elim
    (λ h. too_long (take 128 line) (omega (arith, length-take 128 line)) ∙ sym (too_long line (omega arith)))
    (λ h. ap row_of (take_all 128 line h))
    (cases_lt 128 (length line))
