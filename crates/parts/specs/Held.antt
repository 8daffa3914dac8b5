-- What a line buffer keeps of a text that is read byte by byte.
use Rattle.std.specs.Prelude.{◌≡◌, ℕ, cond, List, [], ◌∷◌, ◌++◌, take, ◌==◌}

-- the line that a text ends in, after the bytes of it that came before: a line feed begins a new one
abbrev pub open_line : List ℕ → List ℕ → List ℕ
open_line before [] = before
open_line before (b ∷ bs) = cond (b == 10) (open_line [] bs) (open_line (before ++ b ∷ []) bs)

-- the bytes that a buffer keeps are the first 128 of the line that the text ends in
abbrev pub Keeps : List ℕ → List ℕ → Type 0
Keeps text kept = kept ≡ take 128 (open_line [] text)
