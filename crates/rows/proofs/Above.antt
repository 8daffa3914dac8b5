-- One more than the highest of some numbers.
use Rattle.std.proofs.Common.{◌≡◌, ℕ, ◌+◌, ◌<◌, ◌≤◌, max, List, [], ◌∷◌, ◌++◌, All, length, get_or, drop, sym, ap, ◌∙◌, arith}
use Rattle.std.specs.List.{flat_map}
use Rattle.std.proofs.lemmas.List.{drop_more, drop_all}
use Rattle.std.proofs.lemmas.List.Elements.{All-nil, All-cons, All-head, All-tail}
use Rattle.tables.specs.Graph.{Graph}
use Rattle.rows.specs.Names.{reference_names, import_names, export_names, one_above, count_names, LeastAbove}

pub above_append : (xs ys : List ℕ) → one_above (xs ++ ys) ≡ max (one_above xs) (one_above ys)
above_append [] ys = omega arith
above_append (x ∷ xs) ys = omega (arith, above_append xs ys)

-- a row more of those that are gone through
module _ {T : Type 0} (names : T → List ℕ) (rows : List T) (i most : ℕ) (so : max most (one_above (flat_map names (drop i rows))) ≡ one_above (flat_map names rows)) where
  pub row_more : (x : T) → i < length rows → x ≡ get_or rows i x → max (max most (one_above (names x))) (one_above (flat_map names (drop (i + 1) rows))) ≡ one_above (flat_map names rows)
  row_more x lt is =
      let here : one_above (flat_map names (drop i rows)) ≡ max (one_above (names x)) (one_above (flat_map names (drop (i + 1) rows))) =
      ap (λ l. one_above (flat_map names l)) (drop_more rows i x lt ∙ ap (λ y. y ∷ drop (i + 1) rows) (sym is)) ∙ above_append (names x) (flat_map names (drop (i + 1) rows)) in
      omega (arith, here, so)

  pub row_last : length rows ≤ i → most ≡ one_above (flat_map names rows)
  row_last le =
      let none : one_above (flat_map names (drop i rows)) ≡ 0 = ap (λ l. one_above (flat_map names l)) (drop_all i rows le) in
      omega (arith, none, so)

all_below : (ns : List ℕ) (b : ℕ) → one_above ns ≤ b → All (λ n. n < b) ns
all_below [] b le = All-nil (λ n. n < b)
all_below (n ∷ ns) b le = All-cons (λ n. n < b) n ns (omega arith) (all_below ns b (omega arith))

least : (ns : List ℕ) (b : ℕ) → All (λ n. n < b) ns → one_above ns ≤ b
least [] b all = omega arith
least (n ∷ ns) b all = omega (arith, All-head (λ n. n < b) n ns all, least ns b (All-tail (λ n. n < b) n ns all))

pub least_above : (ns : List ℕ) (b : ℕ) → b ≡ one_above ns → LeastAbove ns b
least_above ns b e = record { above = all_below ns b (omega (arith, e)); least = λ c all. omega (arith, e, least ns c all) }

-- the names of a graph, counted table by table
pub counted : (g : Graph) (rs is es : ℕ) (first all : ℕ) → rs ≡ one_above (flat_map reference_names g.references) → is ≡ one_above (flat_map import_names g.imports) → es ≡ one_above (flat_map export_names g.exports)
    → first ≡ max rs is → all ≡ max first es → all ≡ count_names g
counted g rs is es first all r i e f a =
    let rest = flat_map import_names g.imports ++ flat_map export_names g.exports in
    omega (arith, r, i, e, f, a, above_append (flat_map reference_names g.references) rest, above_append (flat_map import_names g.imports) (flat_map export_names g.exports))
