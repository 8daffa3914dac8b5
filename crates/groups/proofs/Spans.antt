-- The items of one group, among those of all.
use Rattle.std.proofs.Common.{◌≡◌, ℕ, zero, suc, ◌+◌, ◌-◌, ◌<◌, ◌&&◌, leb, List, [], ◌∷◌, ◌++◌, map, length, get_or, take, drop, vec_items, sym, refl, ap, ◌∙◌, append_assoc, append-nil, arith}
use Rattle.std.specs.List.{range_with_len, flat_map}
use Rattle.std.proofs.lemmas.List.FromFn.{get_or-map-range_with_len, length-map-range_with_len, map-range_with_len_more}
use Rattle.std.proofs.lemmas.List.{length-append, drop_at, take_at}
use Rattle.std.proofs.lemmas.Bool.{le-leb, and_from, cond-true}
use Rattle.groups.specs.declared.groups.Groups.{Groups}
use Rattle.groups.specs.Groups.{span, group, items_before, Holds}

counting_split : (a p q : ℕ) → range_with_len a (p + q) ≡ range_with_len a p ++ range_with_len (a + p) q
counting_split a zero q =
    let none : 0 + q ≡ q = omega arith in
    let here : a ≡ a + 0 = omega arith in
    ap (range_with_len a) none ∙ ap (λ i. range_with_len i q) here
counting_split a (suc p) q =
    let more : suc p + q ≡ suc (p + q) = omega arith in
    let further : a + 1 + p ≡ a + suc p = omega arith in
    ap (range_with_len a) more ∙ ap (λ l. a ∷ l) (counting_split (a + 1) p q ∙ ap (λ i. range_with_len (a + 1) p ++ range_with_len i q) further)

joined_append : {X A : Type 0} (f : X → List A) (xs ys : List X) → flat_map f (xs ++ ys) ≡ flat_map f xs ++ flat_map f ys
joined_append f [] ys = refl
joined_append f (x ∷ xs) ys = ap (λ l. f x ++ l) (joined_append f xs ys) ∙ sym (append_assoc (f x) (flat_map f xs) (flat_map f ys))

-- the first n groups and one more
pub one_more : {A : Type 0} (f : ℕ → List A) (n : ℕ) → flat_map f (range_with_len 0 (n + 1)) ≡ flat_map f (range_with_len 0 n) ++ f n
one_more f n =
    ap (flat_map f) (counting_split 0 n 1) ∙ joined_append f (range_with_len 0 n) (range_with_len (0 + n) 1)
    ∙ ap (λ l. flat_map f (range_with_len 0 n) ++ l) (append-nil (f (0 + n)) ∙ ap f (omega arith))

-- a group more at the end
pub grown : {T : Type 0} (f : ℕ → List T) (n : ℕ) (g h : Groups T) → Holds f n g → vec_items h.items ≡ vec_items g.items ++ f n → vec_items h.starts ≡ vec_items g.starts ++ length (vec_items h.items) ∷ [] → Holds f (n + 1) h
grown f n g h holds items starts =
    let all : vec_items h.items ≡ flat_map f (range_with_len 0 (n + 1)) = items ∙ ap (λ l. l ++ f n) holds.items ∙ sym (one_more f n) in
    record {
      items = all;
      starts = starts ∙ ap (λ l. l ++ length (vec_items h.items) ∷ []) holds.starts
          ∙ ap (λ k. map (items_before f) (range_with_len 0 (n + 1)) ++ k ∷ []) (ap length all)
          ∙ sym (map-range_with_len_more (items_before f) 0 (n + 1) (n + 1) (omega arith));
    }

-- a part between two lists
middle : {T : Type 0} (p s r : List T) (a b : ℕ) → a ≡ length p → b ≡ length p + length s → span (p ++ (s ++ r)) a b ≡ s
middle p s r a b ea eb =
    let long = length-append p (s ++ r) in
    let longer = length-append s r in
    cond-true (leb a b && leb b (length (p ++ (s ++ r)))) (take (b - a) (drop a (p ++ (s ++ r)))) []
    (and_from (leb a b) (leb b (length (p ++ (s ++ r)))) (le-leb a b (omega arith)) (le-leb b (length (p ++ (s ++ r))) (omega arith)))
    ∙ ap (take (b - a)) (drop_at p (s ++ r) a (sym ea))
    ∙ take_at s r (b - a) (omega arith)

-- each group is what was put into it
pub group_is : {T : Type 0} (f : ℕ → List T) (n : ℕ) (g : Groups T) → Holds f n g → (i : ℕ) → i < n → group g i ≡ f i
group_is f n g holds i lt =
    let q = n - i - 1 in
    let parts : n ≡ (i + 1) + q = omega arith in
    let p = flat_map f (range_with_len 0 i) in
    let r = flat_map f (range_with_len (0 + (i + 1)) q) in
    let whole : vec_items g.items ≡ p ++ (f i ++ r) =
    holds.items ∙ ap (λ m. flat_map f (range_with_len 0 m)) parts ∙ ap (flat_map f) (counting_split 0 (i + 1) q) ∙ joined_append f (range_with_len 0 (i + 1)) (range_with_len (0 + (i + 1)) q)
    ∙ ap (λ l. l ++ r) (one_more f i) ∙ append_assoc p (f i) r in
    let start : (j : ℕ) → j < n + 1 → get_or (vec_items g.starts) j 0 ≡ items_before f j = λ j within. ap (λ l. get_or l j 0) holds.starts ∙ get_or-map-range_with_len (items_before f) 0 (n + 1) j j 0 within (omega arith) in
    let upto : items_before f (i + 1) ≡ length p + length (f i) = ap length (one_more f i) ∙ length-append p (f i) in
    ap (λ l. span l (get_or (vec_items g.starts) i 0) (get_or (vec_items g.starts) (i + 1) 0)) whole
    ∙ middle p (f i) r (get_or (vec_items g.starts) i 0) (get_or (vec_items g.starts) (i + 1) 0) (start i (omega arith)) (start (i + 1) (omega arith) ∙ upto)

-- how many items and starts there are
pub items_long : {T : Type 0} (f : ℕ → List T) (n : ℕ) (g : Groups T) → Holds f n g → length (vec_items g.items) + length (f n) ≡ length (flat_map f (range_with_len 0 (n + 1)))
items_long f n g holds =
    ap (λ l. length l + length (f n)) holds.items ∙ sym (length-append (flat_map f (range_with_len 0 n)) (f n)) ∙ ap length (sym (one_more f n))

pub starts_long : {T : Type 0} (f : ℕ → List T) (n : ℕ) (g : Groups T) → Holds f n g → length (vec_items g.starts) ≡ n + 1
starts_long f n g holds = ap length holds.starts ∙ length-map-range_with_len (items_before f) 0 (n + 1)
