-- The live entries of segments.
use Rattle.std.proofs.Common.{◌≡◌, ℕ, ◌+◌, ◌<◌, ◌≤◌, ◌^◌, Bool, true, false, not, ◌||◌, ◌&&◌, eqb, cond}
use Rattle.std.proofs.Common.{List, [], ◌∷◌, ◌++◌, length, take, refl, sym, ap, subst, ◌∙◌, arith, Some}
use Rattle.std.specs.List.{All, Contains, filter, list_any, slice_get, sum_by}
use Rattle.std.proofs.lemmas.Bool.{eqb-true}
use Rattle.std.proofs.lemmas.List.{take_more, append-nil}
use Rattle.std.proofs.lemmas.List.Concat.{flat_map-append}
use Rattle.std.proofs.lemmas.List.Elements.{All-append, All-cons, All-contains, All-head, All-map}
use Rattle.std.proofs.lemmas.List.Elements.{All-nil, All-tail, All-weaker, Contains-get_or, filter-append}
use Rattle.std.proofs.lemmas.List.Folds.{list_any-append, list_any_at}
use Rattle.std.proofs.lemmas.List.Sums.{sum_by-append}
use Rattle.std.proofs.lemmas.Option.{get_or_from_slice_get, slice_get_within}
use Rattle.outer_io.specs.Files.{Files, bytes_of}
use Rattle.outer_io.specs.declared.file_name.FileName.TheVariants.{Segment}
use Rattle.point_codec.specs.Points.{Item}
use Rattle.live_bits.specs.LiveSet.{LiveSet, IsLiveSet, is_live, live_set_without}
use Rattle.live_bits.proofs.LiveNumbers.{is_live-without, none_live}
use Rattle.documents.specs.Entries.{SameTotals, entries_but, has_entry, is_among}
use Rattle.documents.proofs.Lists.{cons_head, cons_tail, filter_alike, filter_twice, in_filter}
use Rattle.documents.proofs.Kept.{among_to}
use Rattle.segment_file.specs.Heads.{Head}
use Rattle.segment_file.specs.Segments.{IsSegment}
use Rattle.nearest_query.specs.Segments.{live_in, AreSegments}
use Rattle.segment_view.specs.LiveSegments.{LiveSegment, live_segment, Contents, IsRead, AreRead, IsPlaced, heads_of, lives_of}
use Rattle.segment_view.specs.LiveSegments.{ids_of, live_in_parts, parts_among, parts_but, has_live, cleared_parts}

abbrev pub live_of : Contents → LiveSegment → List Item
live_of c p = filter (λ x. is_live p.live x.doc) (c p.head.id)

-- ---- one place of a list

pub part_in : (parts : List LiveSegment) (i : ℕ) (p : LiveSegment) → slice_get parts i ≡ Some p → Contains parts p
part_in parts i p is = subst (Contains parts) (get_or_from_slice_get parts i p p is) (Contains-get_or parts i p (slice_get_within parts i p is))

pub parts_more : (parts : List LiveSegment) (i : ℕ) (p : LiveSegment) → slice_get parts i ≡ Some p → take (i + 1) parts ≡ take i parts ++ p ∷ []
parts_more parts i p is =
    take_more parts i p (slice_get_within parts i p is)
    ∙ ap (λ q. take i parts ++ q ∷ []) (get_or_from_slice_get parts i p p is)

-- ---- the entries of several segments

pub live-append : (c : Contents) (xs ys : List LiveSegment) → live_in_parts c (xs ++ ys) ≡ live_in_parts c xs ++ live_in_parts c ys
live-append c xs ys = flat_map-append (live_of c) xs ys

pub live_one : (c : Contents) (p : LiveSegment) → live_in_parts c (p ∷ []) ≡ live_of c p
live_one c p = append-nil (live_of c p)

pub live_listed : (c : Contents) (parts : List LiveSegment) → live_in c (heads_of parts) (lives_of parts) ≡ live_in_parts c parts
live_listed c [] = refl
live_listed c (p ∷ ps) = ap (λ ys. live_of c p ++ ys) (live_listed c ps)

pub live_alike : (c d : Contents) (parts : List LiveSegment) → ((id : ℕ) → Contains (ids_of parts) id → d id ≡ c id)
    → live_in_parts d parts ≡ live_in_parts c parts
live_alike c d [] same = refl
live_alike c d (p ∷ ps) same =
    ap (λ xs. filter (λ (x : Item). is_live p.live x.doc) xs ++ live_in_parts d ps) (same p.head.id (cons_head p.head.id (ids_of ps)))
    ∙ ap (λ ys. live_of c p ++ ys) (live_alike c d ps (λ id h. same id (cons_tail p.head.id (ids_of ps) id h)))

-- ---- a number taken out

one_cleared : (s : LiveSet) (number : ℕ) (xs : List Item)
    → filter (λ (x : Item). is_live (live_set_without number s) x.doc) xs ≡ entries_but number (filter (λ (x : Item). is_live s x.doc) xs)
one_cleared s number xs =
    filter_alike (λ (x : Item). is_live (live_set_without number s) x.doc) (λ (x : Item). is_live s x.doc && not (eqb x.doc number)) xs
    (λ x h. is_live-without s number x.doc)
    ∙ sym (filter_twice (λ (x : Item). not (eqb x.doc number)) (λ (x : Item). is_live s x.doc) xs)

pub live_cleared : (c : Contents) (number : ℕ) (parts : List LiveSegment)
    → live_in_parts c (cleared_parts number parts) ≡ entries_but number (live_in_parts c parts)
live_cleared c number [] = refl
live_cleared c number (p ∷ ps) =
    ap (λ ys. ys ++ live_in_parts c (cleared_parts number ps)) (one_cleared p.live number (c p.head.id))
    ∙ ap (λ ys. entries_but number (live_of c p) ++ ys) (live_cleared c number ps)
    ∙ sym (filter-append (λ (x : Item). not (eqb x.doc number)) (live_of c p) (live_in_parts c ps))

pub ids_cleared : (number : ℕ) (parts : List LiveSegment) → ids_of (cleared_parts number parts) ≡ ids_of parts
ids_cleared number [] = refl
ids_cleared number (p ∷ ps) = ap (λ ns. p.head.id ∷ ns) (ids_cleared number ps)

pub heads_cleared : (number : ℕ) (parts : List LiveSegment) → heads_of (cleared_parts number parts) ≡ heads_of parts
heads_cleared number [] = refl
heads_cleared number (p ∷ ps) = ap (λ hs. p.head ∷ hs) (heads_cleared number ps)

or_and : (a b c : Bool) → ((a && c) || (b && c)) ≡ ((a || b) && c)
or_and true true true = refl
or_and true true false = refl
or_and true false true = refl
or_and true false false = refl
or_and false b c = refl

pub any_cleared : (number m : ℕ) (parts : List LiveSegment) → has_live m (cleared_parts number parts) ≡ (has_live m parts && not (eqb m number))
any_cleared number m [] = refl
any_cleared number m (p ∷ ps) =
    ap (λ b. b || has_live m (cleared_parts number ps)) (is_live-without p.live number m)
    ∙ ap (λ b. (is_live p.live m && not (eqb m number)) || b) (any_cleared number m ps)
    ∙ or_and (is_live p.live m) (has_live m ps) (not (eqb m number))

-- ---- by totals

pub placed_totals : (c : Contents) (p : LiveSegment) (old new : List LiveSegment) → IsPlaced p old new
    → SameTotals (live_in_parts c old ++ live_in_parts c (p ∷ [])) (live_in_parts c new)
placed_totals c p old new put = λ f.
    let whole = ap (λ (ps : List LiveSegment). sum_by f (live_in_parts c ps)) put.after ∙ ap (sum_by f) (live-append c put.front (p ∷ put.back))
    ∙ sum_by-append f (live_in_parts c put.front) (live_in_parts c (p ∷ put.back)) in
    let rest = sum_by-append f (live_of c p) (live_in_parts c put.back) in
    let others = ap (λ (ps : List LiveSegment). sum_by f (live_in_parts c ps)) put.before ∙ ap (sum_by f) (live-append c put.front put.back)
    ∙ sum_by-append f (live_in_parts c put.front) (live_in_parts c put.back) in
    let both = sum_by-append f (live_in_parts c old) (live_in_parts c (p ∷ [])) in
    let one = ap (sum_by f) (live_one c p) in
    omega (arith, whole, rest, others, both, one)

parted_sums : (c : Contents) (ids : List ℕ) (f : Item → ℕ) (parts : List LiveSegment)
    → sum_by f (live_in_parts c (parts_among ids parts)) + sum_by f (live_in_parts c (parts_but ids parts)) ≡ sum_by f (live_in_parts c parts)
parted_sums c ids f [] = refl
parted_sums c ids f (p ∷ ps) =
    by (is_among ids p.head.id) (parted_sums c ids f ps)
  where
    by : (b : Bool) → sum_by f (live_in_parts c (parts_among ids ps)) + sum_by f (live_in_parts c (parts_but ids ps)) ≡ sum_by f (live_in_parts c ps)
        → sum_by f (live_in_parts c (cond b (p ∷ parts_among ids ps) (parts_among ids ps)))
        + sum_by f (live_in_parts c (cond (not b) (p ∷ parts_but ids ps) (parts_but ids ps))) ≡ sum_by f (live_in_parts c (p ∷ ps))
    by true rest =
        let here = sum_by-append f (live_of c p) (live_in_parts c (parts_among ids ps)) in
        let all = sum_by-append f (live_of c p) (live_in_parts c ps) in
        omega (arith, rest, here, all)
    by false rest =
        let here = sum_by-append f (live_of c p) (live_in_parts c (parts_but ids ps)) in
        let all = sum_by-append f (live_of c p) (live_in_parts c ps) in
        omega (arith, rest, here, all)

pub parted_totals : (c : Contents) (ids : List ℕ) (parts : List LiveSegment)
    → SameTotals (live_in_parts c (parts_among ids parts) ++ live_in_parts c (parts_but ids parts)) (live_in_parts c parts)
parted_totals c ids parts = λ f.
    let whole = parted_sums c ids f parts in
    let both = sum_by-append f (live_in_parts c (parts_among ids parts)) (live_in_parts c (parts_but ids parts)) in
    omega (arith, whole, both)

-- ---- segments that are read

pub read_segments : (D : ℕ) (files : Files) (c : Contents) (parts : List LiveSegment) → AreRead D files c parts → AreSegments D files c (heads_of parts)
read_segments D files c parts all =
    All-map (λ (h : Head). IsSegment D (bytes_of (files (Segment h.id))) h (c h.id)) (λ (p : LiveSegment). p.head) parts
    (All-weaker (IsRead D files c) (λ (p : LiveSegment). IsSegment D (bytes_of (files (Segment p.head.id))) p.head (c p.head.id)) (λ p r. r.held) parts all)

pub read_cleared : (D : ℕ) (files : Files) (c : Contents) (number : ℕ) (parts : List LiveSegment) → AreRead D files c parts
    → AreRead D files c (cleared_parts number parts)
read_cleared D files c number parts all =
    All-map (IsRead D files c) (λ (p : LiveSegment). live_segment p.head (live_set_without number p.live)) parts
    (All-weaker (IsRead D files c) (λ (p : LiveSegment). IsRead D files c (live_segment p.head (live_set_without number p.live)))
    (λ p r. record {
      held = r.held;
      found = λ m live. r.found m (first (is_live p.live m) (not (eqb m number)) (sym (is_live-without p.live number m) ∙ live));
    }) parts all)
  where
    first : (a b : Bool) → (a && b) ≡ true → a ≡ true
    first true b e = refl
    first false b e = e

pub read_alike : (D : ℕ) (old new : Files) (c d : Contents) (parts : List LiveSegment)
    → ((id : ℕ) → Contains (ids_of parts) id → new (Segment id) ≡ old (Segment id))
    → ((id : ℕ) → Contains (ids_of parts) id → d id ≡ c id) → AreRead D old c parts → AreRead D new d parts
read_alike D old new c d [] files same all = All-nil (IsRead D new d)
read_alike D old new c d (p ∷ ps) files same all =
    let r = All-head (IsRead D old c) p ps all in
    let file = files p.head.id (cons_head p.head.id (ids_of ps)) in
    let entries = same p.head.id (cons_head p.head.id (ids_of ps)) in
    All-cons (IsRead D new d) p ps
    (record {
      held = subst (λ (xs : List Item). IsSegment D (bytes_of (new (Segment p.head.id))) p.head xs) (sym entries)
          (subst (λ b. IsSegment D (bytes_of b) p.head (c p.head.id)) (sym file) r.held);
      found = λ m live. ap (has_entry m) entries ∙ r.found m live;
    })
    (read_alike D old new c d ps (λ id h. files id (cons_tail p.head.id (ids_of ps) id h)) (λ id h. same id (cons_tail p.head.id (ids_of ps) id h))
    (All-tail (IsRead D old c) p ps all))

pub read_placed : (D : ℕ) (files : Files) (c : Contents) (p : LiveSegment) (old new : List LiveSegment) → IsPlaced p old new → IsRead D files c p
    → AreRead D files c old
    → AreRead D files c new
read_placed D files c p old new put r all =
    let whole : AreRead D files c (put.front ++ put.back) = subst (AreRead D files c) put.before all in
    subst (AreRead D files c) (sym put.after)
    (All-append (IsRead D files c) put.front (p ∷ put.back)
    (front_read put.front put.back whole)
    (All-cons (IsRead D files c) p put.back r (back_read put.front put.back whole)))
  where
    front_read : (xs ys : List LiveSegment) → AreRead D files c (xs ++ ys) → AreRead D files c xs
    front_read [] ys h = All-nil (IsRead D files c)
    front_read (x ∷ xs) ys h =
        All-cons (IsRead D files c) x xs (All-head (IsRead D files c) x (xs ++ ys) h) (front_read xs ys (All-tail (IsRead D files c) x (xs ++ ys) h))

    back_read : (xs ys : List LiveSegment) → AreRead D files c (xs ++ ys) → AreRead D files c ys
    back_read [] ys h = h
    back_read (x ∷ xs) ys h = back_read xs ys (All-tail (IsRead D files c) x (xs ++ ys) h)

-- ---- which numbers are live

none_dead : (keeps : ℕ → Bool) (number : ℕ) (xs : List Item) → keeps number ≡ false → has_entry number (filter (λ (x : Item). keeps x.doc) xs) ≡ false
none_dead keeps number [] dead = refl
none_dead keeps number (x ∷ xs) dead = by (none_dead keeps number xs dead) (keeps x.doc) refl
  where
    other : keeps x.doc ≡ true → (b : Bool) → eqb x.doc number ≡ b → b ≡ false
    other live true e = sym live ∙ ap keeps (eqb-true x.doc number e) ∙ dead
    other live false e = refl

    by : has_entry number (filter (λ (y : Item). keeps y.doc) xs) ≡ false
        → (b : Bool) → keeps x.doc ≡ b → has_entry number (cond b (x ∷ filter (λ (y : Item). keeps y.doc) xs) (filter (λ (y : Item). keeps y.doc) xs)) ≡ false
    by rest true e = ap (λ b. b || has_entry number (filter (λ (y : Item). keeps y.doc) xs)) (other e (eqb x.doc number) refl) ∙ rest
    by rest false e = rest

all_live : (keeps : ℕ → Bool) (number : ℕ) (xs : List Item) → keeps number ≡ true
    → has_entry number (filter (λ (x : Item). keeps x.doc) xs) ≡ has_entry number xs
all_live keeps number [] live = refl
all_live keeps number (x ∷ xs) live = by (all_live keeps number xs live) (keeps x.doc) refl
  where
    other : keeps x.doc ≡ false → (b : Bool) → eqb x.doc number ≡ b → b ≡ false
    other dead true e = sym live ∙ ap keeps (sym (eqb-true x.doc number e)) ∙ dead
    other dead false e = refl

    by : has_entry number (filter (λ (y : Item). keeps y.doc) xs) ≡ has_entry number xs
        → (b : Bool) → keeps x.doc ≡ b
        → has_entry number (cond b (x ∷ filter (λ (y : Item). keeps y.doc) xs) (filter (λ (y : Item). keeps y.doc) xs)) ≡ has_entry number (x ∷ xs)
    by rest true e = ap (λ b. eqb x.doc number || b) rest
    by rest false e = rest ∙ ap (λ b. b || has_entry number xs) (sym (other e (eqb x.doc number) refl))

pub live_numbers : (D : ℕ) (files : Files) (c : Contents) (number : ℕ) (parts : List LiveSegment) → AreRead D files c parts
    → has_live number parts ≡ has_entry number (live_in_parts c parts)
live_numbers D files c number [] all = refl
live_numbers D files c number (p ∷ ps) all =
    ap (λ b. b || has_live number ps) (one (is_live p.live number) refl)
    ∙ ap (λ b. has_entry number (live_of c p) || b) (live_numbers D files c number ps (All-tail (IsRead D files c) p ps all))
    ∙ sym (list_any-append (λ (x : Item). eqb x.doc number) (live_of c p) (live_in_parts c ps))
  where
    one : (b : Bool) → is_live p.live number ≡ b → b ≡ has_entry number (live_of c p)
    one true e = sym (all_live (is_live p.live) number (c p.head.id) e ∙ (All-head (IsRead D files c) p ps all).found number e)
    one false e = sym (none_dead (is_live p.live) number (c p.head.id) e)

-- ---- entries that are read

pub live_below : (s : LiveSet) (number : ℕ) → IsLiveSet s → is_live s number ≡ true → number < 2 ^ 24
unfolding is_live
live_below s number set live =
    let within = All-contains (λ n. (s.base ≤ n) × (n < s.base + s.span)) s.live number set.within (among_to s.live number live) in
    omega (arith, within.1, set.limit)

-- where nothing is live there is nothing
none_kept : (xs : List Item) → filter (λ (x : Item). false) xs ≡ []
none_kept [] = refl
none_kept (x ∷ xs) = none_kept xs

pub nothing_live : (c : Contents) (p : LiveSegment) → length p.live.live ≡ 0 → live_in_parts c (p ∷ []) ≡ []
nothing_live c p none = live_one c p ∙ ap (λ (f : ℕ → Bool). filter (λ (x : Item). f x.doc) (c p.head.id)) ((none_live p.live).0 none) ∙ none_kept (c p.head.id)

-- a number that is live in a segment is so in those among which it is
pub live_in_one : (ids : List ℕ) (p : LiveSegment) (number : ℕ) → is_among ids p.head.id ≡ true → is_live p.live number ≡ true
    → has_live number (parts_among ids (p ∷ [])) ≡ true
live_in_one ids p number e live = ap (λ b. has_live number (cond b (p ∷ []) [])) e ∙ ap (λ b. b || false) live

any_in : (test : LiveSegment → Bool) (parts : List LiveSegment) (p : LiveSegment) → Contains parts p → test p ≡ true → list_any test parts ≡ true
any_in test parts p (k, h, e) t = list_any_at test parts k p h (ap test e ∙ t)

pub live_widens : (ids : List ℕ) (parts : List LiveSegment) (p : LiveSegment) (number : ℕ) → Contains parts p
    → has_live number (parts_among ids (p ∷ [])) ≡ true
    → has_live number (parts_among ids parts) ≡ true
live_widens ids parts p number there h = by (is_among ids p.head.id) refl h
  where
    by : (b : Bool) → is_among ids p.head.id ≡ b → has_live number (cond b (p ∷ []) []) ≡ true → has_live number (parts_among ids parts) ≡ true
    by true e k =
        any_in (λ (q : LiveSegment). is_live q.live number) (parts_among ids parts) p (in_filter (λ (q : LiveSegment). is_among ids q.head.id) parts p there e)
        (or_false (is_live p.live number) k)
      where
        or_false : (b : Bool) → (b || false) ≡ true → b ≡ true
        or_false true e = refl
        or_false false e = e
    by false e k = cc

pub all_widen : (ids : List ℕ) (parts : List LiveSegment) (p : LiveSegment) (xs more : List Item) → Contains parts p
    → All (λ (x : Item). has_live x.doc (parts_among ids parts) ≡ true) xs
    → All (λ (x : Item). has_live x.doc (parts_among ids (p ∷ [])) ≡ true) more → All (λ (x : Item). has_live x.doc (parts_among ids parts) ≡ true) (xs ++ more)
all_widen ids parts p xs more there all new =
    All-append (λ (x : Item). has_live x.doc (parts_among ids parts) ≡ true) xs more all
    (All-weaker (λ (x : Item). has_live x.doc (parts_among ids (p ∷ [])) ≡ true) (λ (x : Item). has_live x.doc (parts_among ids parts) ≡ true)
    (λ x h. live_widens ids parts p x.doc there h) more new)
