-- The hits of a list of entries, one more entry at a time, and those of a cell that lies in the shape.
use Rattle.std.proofs.Common.{◌≡◌, ℕ, ◌+◌, ◌<◌, Bool, true, false, ◌&&◌, cond, List, [], ◌∷◌, ◌++◌}
use Rattle.std.proofs.Common.{length, map, take, drop, filter, get_or, ℤ, refl, sym, ap, subst, ◌∙◌}
use Rattle.std.proofs.lemmas.List.{map-append, append_assoc, append-nil, take_at, drop_at}
use Rattle.std.proofs.lemmas.List.Elements.{filter-append, filter_more, All-head, All-tail}
use Rattle.std.proofs.lemmas.Option.{slice_get-get_or}
use Rattle.std.specs.Prelude.{IsSomeAnd}
use Rattle.std.specs.List.{All, slice_get}
use Rattle.point_codec.specs.Points.{Item, Region, in_box}
use Rattle.live_bits.specs.LiveSet.{LiveSet, is_live}
use Rattle.cell_relate.specs.Relations.{AllAnswer}
use Rattle.bkd_reader.specs.Hits.{is_hit, hits_in, Begins}

pub no_item : Item
no_item = record { doc = 0; at = [] }

-- what is read of an item of the list
pub read_item : (P : Item → Type 0) (xs : List Item) (i : ℕ) → i < length xs → IsSomeAnd (slice_get xs i) P → P (get_or xs i no_item)
read_item P xs i h p = subst (λ o. IsSomeAnd o P) (slice_get-get_or xs i no_item h) p

-- the list's next entry is a hit or none
pub hit_more : (has : List ℤ → Bool) (live : LiveSet) (xs : List Item) (i doc : ℕ) → i < length xs → doc ≡ (get_or xs i no_item).doc
    → is_live live doc ≡ true → has (get_or xs i no_item).at ≡ true → hits_in has live (take (i + 1) xs) ≡ hits_in has live (take i xs) ++ doc ∷ []
unfolding hits_in
hit_more has live xs i doc h d alive in_shape =
    let x = get_or xs i no_item in
    let hit : is_hit has live x ≡ true = ap (λ n. is_live live n && has x.at) (sym d) ∙ ap (λ b. b && has x.at) alive ∙ in_shape in
    ap (map (λ y. y.doc)) (filter_more (is_hit has live) xs i no_item h ∙ ap (λ b. filter (is_hit has live) (take i xs) ++ cond b (x ∷ []) []) hit)
    ∙ map-append (λ y. y.doc) (filter (is_hit has live) (take i xs)) (x ∷ [])
    ∙ ap (λ n. map (λ y. y.doc) (filter (is_hit has live) (take i xs)) ++ n ∷ []) (sym d)

miss_more : (has : List ℤ → Bool) (live : LiveSet) (xs : List Item) (i : ℕ) → i < length xs
    → is_hit has live (get_or xs i no_item) ≡ false → hits_in has live (take (i + 1) xs) ≡ hits_in has live (take i xs)
unfolding hits_in
miss_more has live xs i h miss =
    let x = get_or xs i no_item in
    ap (map (λ y. y.doc))
    (filter_more (is_hit has live) xs i no_item h ∙ ap (λ b. filter (is_hit has live) (take i xs) ++ cond b (x ∷ []) []) miss
    ∙ append-nil (filter (is_hit has live) (take i xs)))

pub dead_more : (has : List ℤ → Bool) (live : LiveSet) (xs : List Item) (i doc : ℕ) → i < length xs → doc ≡ (get_or xs i no_item).doc
    → is_live live doc ≡ false → hits_in has live (take (i + 1) xs) ≡ hits_in has live (take i xs)
dead_more has live xs i doc h d dead =
    let x = get_or xs i no_item in
    miss_more has live xs i h (ap (λ n. is_live live n && has x.at) (sym d) ∙ ap (λ b. b && has x.at) dead)

pub outside_more : (has : List ℤ → Bool) (live : LiveSet) (xs : List Item) (i : ℕ) → i < length xs
    → has (get_or xs i no_item).at ≡ false → hits_in has live (take (i + 1) xs) ≡ hits_in has live (take i xs)
outside_more has live xs i h out = miss_more has live xs i h (and_false (is_live live (get_or xs i no_item).doc) (has (get_or xs i no_item).at) out)
  where
    and_false : (a b : Bool) → b ≡ false → (a && b) ≡ false
    and_false true b e = e
    and_false false b e = refl

-- the live ones are the hits of a shape that has all points of a cell in which the entries lie
pub all_hit : (has : List ℤ → Bool) (live : LiveSet) (cell : Region) (xs : List Item) → AllAnswer has true cell → All (λ x. in_box cell x.at ≡ true) xs
    → hits_in (λ _. true) live xs ≡ hits_in has live xs
unfolding hits_in
all_hit has live cell [] all inside = refl
all_hit has live cell (x ∷ xs) all inside =
    let here : has x.at ≡ true = all x.at (All-head (λ y. in_box cell y.at ≡ true) x xs inside) in
    let rest : map (λ y. y.doc) (filter (is_hit (λ _. true) live) xs) ≡ map (λ y. y.doc) (filter (is_hit has live) xs)
    = all_hit has live cell xs all (All-tail (λ y. in_box cell y.at ≡ true) x xs inside) in
    one (is_live live x.doc) (has x.at) x.doc (filter (is_hit (λ _. true) live) xs) (filter (is_hit has live) xs) here rest
  where
    one : (a b : Bool) (n : ℕ) (ys zs : List Item) → b ≡ true → map (λ y. y.doc) ys ≡ map (λ y. y.doc) zs
        → map (λ y. y.doc) (cond (a && true) (x ∷ ys) ys) ≡ map (λ y. y.doc) (cond (a && b) (x ∷ zs) zs)
    one a true n ys zs e rest = both a
      where
        both : (c : Bool) → map (λ y. y.doc) (cond (c && true) (x ∷ ys) ys) ≡ map (λ y. y.doc) (cond (c && true) (x ∷ zs) zs)
        both true = ap (λ ns. x.doc ∷ ns) rest
        both false = rest
    one a false n ys zs e rest = cc

-- the hits of two lists one behind the other
pub hits_join : (has : List ℤ → Bool) (live : LiveSet) (xs ys : List Item) → hits_in has live (xs ++ ys) ≡ hits_in has live xs ++ hits_in has live ys
unfolding hits_in
hits_join has live xs ys =
    ap (map (λ y. y.doc)) (filter-append (is_hit has live) xs ys)
    ∙ map-append (λ y. y.doc) (filter (is_hit has live) xs) (filter (is_hit has live) ys)

-- what begins with what begins with a list begins with it
pub begins_on : (a b c : List ℕ) → Begins a b → Begins b c → Begins a c
begins_on a b c p q = (p.0 ++ q.0, q.1 ∙ ap (λ z. z ++ q.0) p.1 ∙ append_assoc a p.0 q.0)

-- the live ones among the numbers of entries are the hits of a shape that has all points
pub live_numbers : (live : LiveSet) (xs : List Item) → filter (is_live live) (map (λ x. x.doc) xs) ≡ hits_in (λ _. true) live xs
unfolding hits_in
live_numbers live [] = refl
live_numbers live (x ∷ xs) = one (is_live live x.doc) (live_numbers live xs)
  where
    one : (b : Bool) → filter (is_live live) (map (λ y. y.doc) xs) ≡ map (λ y. y.doc) (filter (is_hit (λ _. true) live) xs)
        → cond b (x.doc ∷ filter (is_live live) (map (λ y. y.doc) xs)) (filter (is_live live) (map (λ y. y.doc) xs))
        ≡ map (λ y. y.doc) (cond (b && true) (x ∷ filter (is_hit (λ _. true) live) xs) (filter (is_hit (λ _. true) live) xs))
    one true rest = ap (λ ns. x.doc ∷ ns) rest
    one false rest = rest

-- of numbers that were appended the live ones stay
pub appended_live : (live : LiveSet) (old mid new : List ℕ) (n : ℕ) (xs : List Item) → n ≡ length old → mid ≡ old ++ map (λ x. x.doc) xs
    → new ≡ take n mid ++ filter (is_live live) (drop n mid) → new ≡ old ++ hits_in (λ _. true) live xs
appended_live live old mid new n xs long grew kept =
    kept
    ∙ ap (λ t. take n t ++ filter (is_live live) (drop n t)) grew
    ∙ (λ i. take_at old (map (λ x. x.doc) xs) n (sym long) i ++ filter (is_live live) (drop_at old (map (λ x. x.doc) xs) n (sym long) i))
    ∙ ap (λ t. old ++ t) (live_numbers live xs)
