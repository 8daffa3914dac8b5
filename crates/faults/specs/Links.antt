-- What the refusal of a link tells.
use Rattle.std.specs.Prelude.{Some, None}
use Rattle.faults.specs.declared.links.LinkFault.{LinkFault}
use Rattle.faults.specs.declared.links.LinkFault.TheVariants.{Bad, Memory}
use Rattle.faults.specs.declared.told.Told.{Told}
use Rattle.parts.specs.declared.faults.Layer.TheVariants as layer

-- a link that is refused for a bad field tells it and its row
abbrev pub link_told : LinkFault → Told
link_told (Bad b) = record { number = 6; layer = layer.Link; row = Some b.row; field = Some b.field }
link_told Memory = record { number = 7; layer = layer.Link; row = None; field = None }
