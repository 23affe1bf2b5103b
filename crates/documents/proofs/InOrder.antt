-- Elements put in order ascend, and are the same.
use Rattle.std.proofs.Common.{◌≡◌, Bool, true, false, ◌&&◌, T, List, [], ◌∷◌, map, is_some, refl, sym, ap, ◌∙◌, arith}
use Rattle.std.specs.List.{All, AllPairs, Contains, list_any}
use Rattle.std.specs.declared.cmp.Ordering.{Ordering}
use Rattle.std.specs.declared.cmp.Ordering.TheVariants.{Less, Equal, Greater}
use Rattle.std.specs.Ordering.{eq_by_cmp, is_lt}
use Rattle.std.specs.Cmp.{IsTotalOrder, eq_by_cmp_equiv}
use Rattle.std.specs.FinSet.{IsAntisymmetric}
use Rattle.std.specs.FinMap as finite
use Rattle.std.specs.FinMap.Entries.{is_sorted, below_all, is_some-find}
use Rattle.std.proofs.lemmas.List.Elements.{All-nil, All-cons}
use Rattle.std.proofs.lemmas.List.Kept.{AllPairs-cons}
use Rattle.std.proofs.lemmas.Map.Views.{Contains-from_any, list_any-from_Contains, tells_apart}
use Rattle.point_codec.specs.Order.{in_order}
use Rattle.point_codec.proofs.Ordered.{marked, unmarked}

first : (a b : Bool) → T (a && b) → T a
first true b h = tt
first false b h = absurd h

second : (a b : Bool) → T (a && b) → T b
second true b h = h
second false b h = absurd h

less : (r : Ordering) → T (is_lt r) → r ≡ Less
less Less h = refl
less Equal h = absurd h
less Greater h = absurd h

module _ {K : Type 0} (R : K → K → Ordering) (o : IsTotalOrder R) (exact : IsAntisymmetric R) where
  all_below : (k : K) (es : List (K × Unit {0})) → T (below_all R k es) → All (λ b. R k b ≡ Less) (map (λ e. e.0) es)
  all_below k [] h = All-nil (λ (b : K). R k b ≡ Less)
  all_below k (e ∷ es) h = All-cons (λ (b : K). R k b ≡ Less) e.0 (map (λ f. f.0) es) (less (R k e.0) (first _ _ h)) (all_below k es (second _ _ h))

  sorted_pairs : (es : List (K × Unit {0})) → T (is_sorted R es) → AllPairs (λ a b. R a b ≡ Less) (map (λ e. e.0) es)
  sorted_pairs [] h = λ i j d k l. absurd (omega arith)
  sorted_pairs (e ∷ es) h = AllPairs-cons (λ (a b : K). R a b ≡ Less) e.0 (map (λ f. f.0) es) (all_below e.0 es (first _ _ h)) (sorted_pairs es (second _ _ h))

  pub in_order_ascends : (ps : List K) → AllPairs (λ a b. R a b ≡ Less) (in_order R ps)
  in_order_ascends ps = let m = finite.from_entries {R = R} (marked ps) in sorted_pairs (finite.entries m) (finite.entries_sorted m)

  any_in_order : (q : K) (ps : List K) → list_any (eq_by_cmp R q) (in_order R ps) ≡ list_any (eq_by_cmp R q) ps
  any_in_order q ps =
      let m = finite.from_entries {R = R} (marked ps) in
      sym (finite.contains_key-keys m q)
      ∙ ap is_some (finite.get-from_entries o (marked ps) q)
      ∙ is_some-find R q (marked ps)
      ∙ ap (list_any (eq_by_cmp R q)) (unmarked ps)

  pub in_order_has : (ps : List K) (x : K) → Contains ps x → Contains (in_order R ps) x
  in_order_has ps x h = Contains-from_any (tells_apart exact) x (in_order R ps) (any_in_order x ps ∙ list_any-from_Contains (eq_by_cmp_equiv o) x ps h)

  pub in_order_of : (ps : List K) (x : K) → Contains (in_order R ps) x → Contains ps x
  in_order_of ps x h = Contains-from_any (tells_apart exact) x ps (sym (any_in_order x ps) ∙ list_any-from_Contains (eq_by_cmp_equiv o) x (in_order R ps) h)
