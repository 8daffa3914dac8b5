-- A table with a limit: what it holds, and whether it takes one row more.
use Rattle.std.specs.Prelude.{◌≡◌, ℕ, Bool, false, cond, List, [], ◌∷◌, ◌++◌, length, is_ok, Ok, Err, vec_items, vec_capacity, Result, nat_lt}
use Rattle.std.specs.List.{list_any}
use Rattle.tables.specs.declared.faults.RowFault.{RowFault}
use Rattle.tables.specs.declared.faults.RowFault.TheVariants.{Full, Twice}
use Rattle.tables.specs.declared.table.Table.{Table}

abbrev pub rows_of : {T : Type 0} → Table T → List T
rows_of t = vec_items t.rows

abbrev pub limit_of : {T : Type 0} → Table T → ℕ
limit_of t = vec_capacity t.rows

-- one more, below the limit
abbrev pub below : ℕ → ℕ → Result (Unit {0}) RowFault
below n limit = cond (nat_lt n limit) (Ok tt) (Err Full)

-- one row more, below the limit
abbrev pub fits : {T : Type 0} → List T → ℕ → Result (Unit {0}) RowFault
fits rows limit = below (length rows) limit

-- one row more, below the limit, and where no row is the same
abbrev pub fits_once : {T : Type 0} → (T → Bool) → List T → ℕ → Result (Unit {0}) RowFault
fits_once same rows limit = cond (nat_lt (length rows) limit) (cond (list_any same rows) (Err Twice) (Ok tt)) (Err Full)

-- the rows after one was taken at the end, or refused
abbrev pub appended : {T : Type 0} → List T → T → Result (Unit {0}) RowFault → List T
appended rows row result = cond (is_ok result) (rows ++ row ∷ []) rows

-- what a call does that takes something or refuses it: its result, what is seen after it, and that the limits stay.
-- A refusal changes nothing.
pub record Takes {S V L R E : Type 0} (view : S → V) (limit : S → L) (old new : S) (result wanted : Result R E) (seen : V) : Type 0 where
  pub value : result ≡ wanted
  pub after : view new ≡ seen
  pub limits : limit new ≡ limit old
  pub refused : is_ok result ≡ false → new ≡ old
