-- The parts of a line between its commas.
use Rattle.std.specs.Prelude.{ℕ, cond, List, [], ◌∷◌, ◌++◌, Some, None, Option, ◌==◌, ◌≢◌}
use Rattle.std.specs.List.{slice_split}
use Rattle.std.specs.Borrow.{Bor}

-- the bytes before the first comma
abbrev pub front : List ℕ → List ℕ
front [] = []
front (b ∷ bs) = cond (b == 44) [] (b ∷ front bs)

-- the bytes after the first comma, where there is one
abbrev pub after : List ℕ → Option (List ℕ)
after [] = None
after (b ∷ bs) = cond (b == 44) (Some bs) (after bs)

-- the parts between the commas: one more than there are commas
abbrev pub parts : List ℕ → List (List ℕ)
parts bs = slice_split (λ b. b == 44) bs

-- the parts of what is left of a line, none where nothing is left
abbrev pub fields : Option (List ℕ) → List (List ℕ)
fields None = []
fields (Some bs) = parts bs

-- what an optional slice shows
abbrev pub seen : Option (Bor (List ℕ)) → Option (List ℕ)
seen None = None
seen (Some s) = Some s.now

-- a part and, after a comma, what is left
abbrev pub joined : List ℕ → Option (List ℕ) → List ℕ
joined p None = p
joined p (Some bs) = p ++ 44 ∷ bs

abbrev pub NoComma : List ℕ → Type 0
NoComma [] = Unit {0}
NoComma (b ∷ bs) = (b ≢ 44) × NoComma bs
