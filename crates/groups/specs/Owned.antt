-- The rows of each owner, by their numbers.
use Rattle.std.specs.Prelude.{ℕ, ◌+◌, Bool, cond, ◌&&◌, List, [], ◌∷◌, ◌==◌, nat_le}

-- the numbers, counted from k, of the rows of one owner
abbrev pub numbers_from : {T : Type 0} → (T → ℕ) → ℕ → ℕ → List T → List ℕ
numbers_from owner i k [] = []
numbers_from owner i k (x ∷ xs) = cond (owner x == i) (k ∷ numbers_from owner i (k + 1) xs) (numbers_from owner i (k + 1) xs)

-- the numbers of the rows of one owner, in the order of the rows
abbrev pub numbers_of : {T : Type 0} → (T → ℕ) → List T → ℕ → List ℕ
numbers_of owner rows i = numbers_from owner i 0 rows

-- whether there is memory for so many rows of so many owners, and a number of sixteen bits for each row
abbrev pub enough : ℕ → ℕ → ℕ → ℕ → Bool
enough rows owners items starts = nat_le rows 65536 && (nat_le rows items && nat_le (owners + 1) starts)
