-- How many references of each kind there are and can be, and whether one more is taken.
use Rattle.std.specs.Prelude.{ℕ, ◌+◌, cond, List, is_ok, vec_items, Result}
use Rattle.tables.specs.declared.faults.RowFault.{RowFault}
use Rattle.tables.specs.declared.quota.Quota.{Quota}
use Rattle.tables.specs.declared.reference.Reference.{Reference}
use Rattle.tables.specs.declared.reference.Reference.TheVariants.{Reads, Member}
use Rattle.tables.specs.declared.references.References.{References}
use Rattle.tables.specs.References.{reads_in, members_in}
use Rattle.tables.specs.Room.{fits}

abbrev pub taken_of : Quota → ℕ
taken_of q = q.taken

abbrev pub quota_limit : Quota → ℕ
quota_limit q = q.limit

-- a count after one more was taken, or refused
abbrev pub next : ℕ → Result (Unit {0}) RowFault → ℕ
next n result = cond (is_ok result) (n + 1) n

abbrev pub references_of : References → List Reference
references_of t = vec_items t.rows

abbrev pub reference_limits : References → ℕ × ℕ
reference_limits t = (t.reads.limit, t.members.limit)

-- one reference more, below the limit of its kind
abbrev pub fits_reference : References → Reference → Result (Unit {0}) RowFault
fits_reference t (Reads r) = fits (reads_in (references_of t)) t.reads.limit
fits_reference t (Member m) = fits (members_in (references_of t)) t.members.limit
