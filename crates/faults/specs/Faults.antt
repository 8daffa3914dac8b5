-- What a refusal tells that can be about a row of a draft, and the text that is printed of it.
use Rattle.std.specs.Prelude.{◌≡◌, ℕ, List, ◌++◌, None, codes, decimal}
use Rattle.line.specs.Shape.{load_word}
use Rattle.parts.specs.Faults as parts
use Rattle.parts.specs.declared.faults.Told as parts_told
use Rattle.parts.specs.declared.faults.FaultLine as parts_fault
use Rattle.faults.specs.declared.printed.FaultLine.{FaultLine}
use Rattle.faults.specs.declared.told.RowName.{RowName}
use Rattle.faults.specs.declared.told.Told.{Told}

-- what a refusal tells that is about no row
abbrev pub about_no_row : parts_told.Told → Told
about_no_row t = record { number = t.number; layer = t.layer; row = None; field = t.field }

-- a row as its word, a colon and its number
abbrev pub row_text : RowName → List ℕ
row_text r = load_word r.table ++ (codes ":" ++ decimal r.number)

-- the line that a fault prints: fault,LINE,LAYER,NUMBER,ROW,FIELD
abbrev pub fault_text : FaultLine → List ℕ
fault_text f = codes "fault," ++ (decimal f.line ++ (codes "," ++ (parts.layer_word f.told.layer ++ (codes "," ++ (decimal f.told.number ++ (codes "," ++ (parts.made_or row_text parts.dash f.told.row ++ (codes "," ++ parts.or_dash f.told.field))))))))

-- a fault that is about no row, and the same fault where rows can be told: it tells the same, and prints the same
pub record SaysTheSame (f : parts_fault.FaultLine) (g : FaultLine) : Type 0 where
  pub told : g ≡ record { line = f.line; told = about_no_row f.told }
  pub text : fault_text g ≡ parts.fault_text f
