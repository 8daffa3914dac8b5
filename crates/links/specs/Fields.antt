-- Whether a field is bad, and which field of a row is the first that is.
use Rattle.std.specs.Prelude.{ℕ, Bool, true, false, not, List, length, Some, None, Option, ◌==◌, nat_le, slice_get, find}
use Rattle.std.specs.Option.{option_map}
use Rattle.line.specs.declared.rows.RecordRow.{RecordRow}

-- a number that names none of these rows
abbrev pub missing : {T : Type 0} → List T → ℕ → Bool
missing rows i = nat_le (length rows) i

-- a name that is not below the limit of names
abbrev pub too_high : ℕ → ℕ → Bool
too_high names name = nat_le names name

-- a field that can be `-`, and is bad only where it is not
abbrev pub given : (ℕ → Bool) → Option ℕ → Bool
given bad None = false
given bad (Some n) = bad n

-- a field that can be `-`, which is bad as well
abbrev pub required : (ℕ → Bool) → Option ℕ → Bool
required bad None = true
required bad (Some n) = bad n

abbrev pub of_other : ℕ → Option RecordRow → Bool
of_other m None = true
of_other m (Some r) = not (r.«module» == m)

-- a record that is missing, or belongs to another module than this
abbrev pub foreign : List RecordRow → ℕ → ℕ → Bool
foreign records r m = of_other m (slice_get records r)

-- the number of the first bad field, where each is told with whether it is bad
abbrev pub first_field : List (ℕ × Bool) → Option ℕ
first_field fields = option_map (λ f. f.0) (find (λ f. f.1) fields)
