-- What `find_map` answers over a chain of iterators, where its closure computes a function of the item.
use Rattle.std.proofs.Common.{◌≡◌, ℕ, zero, suc, List, [], ◌∷◌, map, refl, sym, ap, subst, ◌∙◌, ◌+◌, ◌<◌, true, true≢false}
use denote.Param.Members.{Mut}
use Rattle.std.specs.Prelude.{Some, None, Option, slice_get, IfSome, is_some}
use Rattle.std.specs.Fn.{Called}
use Rattle.std.specs.Iterator.{AlwaysYields, Yields, FindsMapped, DrainsIf}
use Rattle.std.specs.Iterator.Runs.{SomeRun, AllItemsGive, IsFirstToGive, YieldsRun}
use Rattle.std.specs.List.{FoldsTo}
use Rattle.std.specs.Option.{MatchOption, option_or}
use Rattle.std.proofs.lemmas.Iterator.{YieldsList, items_from_drains}
use Rattle.links.specs.Bad.{find_map}

module _ {A B C F : Type 0} {v : A → B} {g : Mut F (A × Unit {0}) (Option C)} (h : B → Option C) (f : F)
    (told : (x : A) (r : Option C) (q : F) → Called g f (x, tt) r q → (q ≡ f) × (r ≡ h (v x))) where
  -- where it answered nothing at each item, it finds nothing
  nothing : (xs : List A) → ((k : ℕ) → IfSome (slice_get xs k) (λ x. Called g f (x, tt) None f)) → None ≡ find_map h (map v xs)
  nothing [] a = refl
  nothing (x ∷ xs) a = nothing xs (λ k. a (suc k)) ∙ ap (λ o. option_or o (find_map h (map v xs))) (told x None f (a zero)).1

  -- where it answered nothing at some items and then y, it finds y
  found : {S : Type 0} (steps : S → Option A → S → Type 0) (y : C) (xs : List A) (all : List B) (s t u : S) (j : F) (o : Option A) → AlwaysYields steps v s all → Yields steps s xs t
      → FoldsTo (λ p x q. Called g p (x, tt) None q) f xs j → steps t o u → MatchOption o (Some y ≡ None) (λ x. (q : F) × Called g j (x, tt) (Some y) q) → Some y ≡ find_map h all
  found steps y [] all s t u j None e p c n m = absurd (true≢false (ap is_some m))
  found steps y [] [] s t u j (Some x) e p c n m = absurd (e x u (subst (λ k. steps k (Some x) u) (sym p) n))
  found steps y [] (z ∷ zs) s t u j (Some x) e p c n m =
      let here : v x ≡ z = (e.1 x u (subst (λ k. steps k (Some x) u) (sym p) n)).0 in
      ap (λ o. option_or o (find_map h zs)) ((told x (Some y) m.0 (subst (λ k. Called g k (x, tt) (Some y) m.0) (sym c) m.1)).1 ∙ ap h here)
  found steps y (x ∷ xs) [] s t u j o e p c n m = absurd (e x p.0 p.1)
  found steps y (x ∷ xs) (z ∷ zs) s t u j o e p c n m =
      let here = e.1 x p.0 p.1 in
      let kept = told x None c.0 c.1 in
      found steps y xs zs p.0 t u j o here.1 p.2 (subst (λ k. FoldsTo (λ p x q. Called g p (x, tt) None q) k xs j) kept.0 c.2) n m
      ∙ ap (λ o. option_or o (find_map h zs)) (kept.1 ∙ ap h here.0)

-- from the clauses `ran` and `runs` of `find_map`, and what the chain gives
pub find_map_from_yields_List : {S A B C F : Type 0} {steps : S → Option A → S → Type 0} {v : A → B} {g : Mut F (A × Unit {0}) (Option C)} {s : S} {all : List B} (h : B → Option C) (u : S) (f : F) (r : Option C)
    → FindsMapped steps g s f r u
    → SomeRun steps s (λ p. MatchOption r ((p.whole ≡ true) × AllItemsGive p g f None) (λ y. (i : ℕ) × (i < p.len) × (p.len ≡ i + 1) × IsFirstToGive p g f (Some y) None i))
    → YieldsList steps v s all → ((x : A) (o : Option C) (q : F) → Called g f (x, tt) o q → (q ≡ f) × (o ≡ h (v x))) → r ≡ find_map h all
unfolding YieldsRun
find_map_from_yields_List {steps = steps} {s = s} {all = all} h u f (Some y) d p e told = found h f told steps y d.0 all s d.3.0 u d.2 d.1 e.runs d.3.1 d.4 d.3.2 d.5
find_map_from_yields_List {steps = steps} {g = g} h u f None d p e told =
    let run = p.0 in
    let still = subst (λ k. DrainsIf steps (run.whole ≡ true) k run.items) p.1 run.gave.0 in
    nothing h f told run.items (λ k. subst (λ o. IfSome o (λ x. Called g f (x, tt) None f)) (run.gave.1 k) (p.2.1 (λ a r q c. (told a.0 r q c).0) k))
    ∙ ap (find_map h) (items_from_drains run.items (still.0, still.1, λ _. still.2 p.2.0) e)
