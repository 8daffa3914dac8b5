-- What each refusal of a line tells: its number, its layer, and the field that it is about.
use Rattle.std.specs.Prelude.{ℕ, List, ◌++◌, Some, None, codes, decimal, Option}
use Rattle.parts.specs.declared.faults.FaultLine.{FaultLine}
use Rattle.parts.specs.declared.faults.Layer.{Layer}
use Rattle.parts.specs.declared.faults.LineFault.{LineFault}
use Rattle.parts.specs.declared.faults.LineFault.TheVariants.{Form, Value}
use Rattle.parts.specs.declared.faults.Layer.TheVariants as layer
use Rattle.parts.specs.declared.faults.Told.{Told}

abbrev pub line_told : LineFault → Told
line_told Form = record { number = 1; layer = layer.Line; field = None }
line_told (Value n) = record { number = 2; layer = layer.Line; field = Some n }

abbrev pub layer_word : Layer → List ℕ
layer_word layer.Line = codes "line"
layer_word layer.Row = codes "row"
layer_word layer.Link = codes "link"
layer_word layer.Ask = codes "ask"

-- what stands for a part of which nothing is told
abbrev pub dash : List ℕ
dash = codes "-"

-- what is made of a value, or something else where there is none
abbrev pub made_or : {T U : Type 0} → (T → U) → U → Option T → U
made_or make other None = other
made_or make other (Some x) = make x

-- a number, or `-` where there is none
abbrev pub or_dash : Option ℕ → List ℕ
or_dash = made_or decimal dash

-- the line that a fault prints: fault,LINE,LAYER,NUMBER,ROW,FIELD
abbrev pub fault_text : FaultLine → List ℕ
fault_text f = codes "fault," ++ (decimal f.line ++ (codes "," ++ (layer_word f.told.layer ++ (codes "," ++ (decimal f.told.number ++ (codes ",-," ++ or_dash f.told.field))))))
