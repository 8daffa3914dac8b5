-- What groups hold.
use Rattle.std.specs.Prelude.{◌≡◌, ℕ, ◌+◌, cond, ◌&&◌, List, [], map, length, vec_items, nat_le, slice_index, slice_range}
use Rattle.std.specs.List.{range_with_len, flat_map}
use Rattle.groups.specs.declared.groups.Groups.{Groups}

-- the items between two places; none where these are no places of the list
abbrev pub span : {T : Type 0} → List T → ℕ → ℕ → List T
span items a b = cond (nat_le a b && nat_le b (length items)) (slice_range items a b) []

-- the items of a group
abbrev pub group : {T : Type 0} → Groups T → ℕ → List T
group g i = span (vec_items g.items) (slice_index (vec_items g.starts) i) (slice_index (vec_items g.starts) (i + 1))

-- how many items the first n groups have
abbrev pub items_before : {T : Type 0} → (ℕ → List T) → ℕ → ℕ
items_before f n = length (flat_map f (range_with_len 0 n))

-- the first n groups are those that f gives, and there is no other
pub record Holds {T : Type 0} (f : ℕ → List T) (n : ℕ) (g : Groups T) : Type 0 where
  pub items : vec_items g.items ≡ flat_map f (range_with_len 0 n)
  pub starts : vec_items g.starts ≡ map (items_before f) (range_with_len 0 (n + 1))
