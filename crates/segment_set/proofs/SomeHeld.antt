-- The live entries that the files of some segments hold.
use Rattle.std.proofs.Common.{◌≡◌, ℕ, ◌+◌, Bool, true, false, not, cond, eqb, List, [], ◌∷◌, ◌++◌, length, refl, sym, ap, subst, ◌∙◌, inl, inr, ⊎_elim}
use Rattle.std.proofs.Common.{arith}
use Rattle.std.specs.List.{Contains, filter, sum_by}
use Rattle.std.proofs.lemmas.List.Elements.{filter-append}
use Rattle.std.proofs.lemmas.List.Sums.{sum_by-append, sum_by-cons}
use Rattle.outer_io.specs.declared.file_name.FileName.TheVariants.{Segment}
use Rattle.outer_io.specs.Files.{Files, bytes_of}
use Rattle.point_codec.specs.Points.{Item}
use Rattle.live_bits.specs.LiveSet.{is_live, live_set_without}
use Rattle.documents.specs.Entries.{entries_but, is_among}
use Rattle.documents.proofs.Lists.{cons_head, cons_tail}
use Rattle.segment_file.specs.Segments.{IsSegment}
use Rattle.segment_view.specs.LiveSegments.{IsPlaced, LiveSegment, cleared_parts, live_segment, parts_among, parts_but}
use Rattle.segment_view.specs.Held.{AreHeld}
use Rattle.segment_view.proofs.Living.{live_cleared, live_one}
use Rattle.segment_build.specs.NewSegments.{NewSegmentData}
use Rattle.index_opening.specs.Evidence.{AreOfSome, IsHeldOrNone}
use Rattle.segment_set.specs.Losing.{HoldsNoMore}
use Rattle.segment_set.specs.Merges.{part_at}

pub sum_one : (xs : List Item) → sum_by (λ _. 1) xs ≡ length xs
sum_one [] = refl
sum_one (x ∷ xs) = omega (arith, sum_by-cons (λ (_ : Item). 1) x xs, sum_one xs)

-- ---- entries of some segments

-- none of any
pub some_none : (D : ℕ) (files : Files) (parts : List LiveSegment) → AreOfSome D files parts []
some_none D files [] = refl
some_none D files (p ∷ ps) = record { front_items = []; back_items = []; front_holds = inl refl; back_holds = some_none D files ps; joined = refl }

-- all that are held
pub some_held : (D : ℕ) (files : Files) (parts : List LiveSegment) (items : List Item) → AreHeld D files parts items → AreOfSome D files parts items
some_held D files [] items h = h
some_held D files (p ∷ ps) items h = record {
  front_items = h.front_items;
  back_items = h.back_items;
  front_holds = ⊎_elim (λ dead. inl dead.1) inr h.front_holds;
  back_holds = some_held D files ps h.back_items h.back_holds;
  joined = h.joined;
}

-- in files where those of the segments are the same
one_alike : (D : ℕ) (f g : Files) (p : LiveSegment) (items : List Item) → g (Segment p.head.id) ≡ f (Segment p.head.id) → IsHeldOrNone D g p items
    → IsHeldOrNone D f p items
one_alike D f g p items same (inl none) = inl none
one_alike D f g p items same (inr (entries, held, is)) = inr (entries, subst (λ b. IsSegment D (bytes_of b) p.head entries) same held, is)

pub some_alike : (D : ℕ) (f g : Files) (parts : List LiveSegment) (items : List Item)
    → ((p : LiveSegment) → Contains parts p → g (Segment p.head.id) ≡ f (Segment p.head.id)) → AreOfSome D g parts items → AreOfSome D f parts items
some_alike D f g [] items same h = h
some_alike D f g (p ∷ ps) items same h = record {
  front_items = h.front_items;
  back_items = h.back_items;
  front_holds = one_alike D f g p h.front_items (same p (cons_head p ps)) h.front_holds;
  back_holds = some_alike D f g ps h.back_items (λ q there. same q (cons_tail p ps q there)) h.back_holds;
  joined = h.joined;
}

-- of segments of some ids, and of the others
pub record AreJoined (D : ℕ) (files : Files) (parts : List LiveSegment) (xs ys : List Item) : Type 0 where
  pub items : List Item
  pub held : AreOfSome D files parts items
  pub totals : (f : Item → ℕ) → sum_by f items ≡ sum_by f xs + sum_by f ys

pub some_joined : (D : ℕ) (files : Files) (ids : List ℕ) (parts : List LiveSegment) (xs ys : List Item) → AreOfSome D files (parts_among ids parts) xs
    → AreOfSome D files (parts_but ids parts) ys → AreJoined D files parts xs ys
some_joined D files ids [] xs ys these others =
    record { items = []; held = refl; totals = λ f. let a = ap (sum_by f) these in let b = ap (sum_by f) others in omega (arith, a, b) }
some_joined D files ids (p ∷ ps) xs ys these others = by (is_among ids p.head.id) (some_joined D files ids ps) these others
  where
    by : (b : Bool)
        → ((us vs : List Item) → AreOfSome D files (parts_among ids ps) us → AreOfSome D files (parts_but ids ps) vs → AreJoined D files ps us vs)
        → AreOfSome D files (cond b (p ∷ parts_among ids ps) (parts_among ids ps)) xs
        → AreOfSome D files (cond (not b) (p ∷ parts_but ids ps) (parts_but ids ps)) ys
        → AreJoined D files (p ∷ ps) xs ys
    by true rest h k =
        let r = rest h.back_items ys h.back_holds k in
        record {
          items = h.front_items ++ r.items;
          held = record { front_items = h.front_items; back_items = r.items; front_holds = h.front_holds; back_holds = r.held; joined = refl };
          totals = λ f. omega (
            arith,
            sum_by-append f h.front_items r.items,
            r.totals f,
            ap (sum_by f) h.joined ∙ sum_by-append f h.front_items h.back_items,
          );
        }
    by false rest h k =
        let r = rest xs k.back_items h k.back_holds in
        record {
          items = k.front_items ++ r.items;
          held = record { front_items = k.front_items; back_items = r.items; front_holds = k.front_holds; back_holds = r.held; joined = refl };
          totals = λ f. omega (
            arith,
            sum_by-append f k.front_items r.items,
            r.totals f,
            ap (sum_by f) k.joined ∙ sum_by-append f k.front_items k.back_items,
          );
        }

pub some_among : (D : ℕ) (files : Files) (ids : List ℕ) (parts : List LiveSegment) (items : List Item) → AreOfSome D files (parts_among ids parts) items
    → AreJoined D files parts items []
some_among D files ids parts items these = some_joined D files ids parts items [] these (some_none D files (parts_but ids parts))

-- of segments to which one came
pub record AreParted (D : ℕ) (files : Files) (p : LiveSegment) (old : List LiveSegment) (items : List Item) : Type 0 where
  pub mine : List Item
  pub others : List Item
  pub mine_held : IsHeldOrNone D files p mine
  pub others_held : AreOfSome D files old others
  pub totals : (f : Item → ℕ) → sum_by f items ≡ sum_by f mine + sum_by f others

parted_at : (D : ℕ) (files : Files) (p : LiveSegment) (front back : List LiveSegment) (items : List Item) → AreOfSome D files (front ++ p ∷ back) items
    → AreParted D files p (front ++ back) items
parted_at D files p [] back items h = record {
  mine = h.front_items;
  others = h.back_items;
  mine_held = h.front_holds;
  others_held = h.back_holds;
  totals = λ f. ap (sum_by f) h.joined ∙ sum_by-append f h.front_items h.back_items;
}
parted_at D files p (q ∷ qs) back items h =
    let r = parted_at D files p qs back h.back_items h.back_holds in
    record {
      mine = r.mine;
      others = h.front_items ++ r.others;
      mine_held = r.mine_held;
      others_held = record { front_items = h.front_items; back_items = r.others; front_holds = h.front_holds; back_holds = r.others_held; joined = refl };
      totals = λ f. omega (
        arith,
        ap (sum_by f) h.joined ∙ sum_by-append f h.front_items h.back_items,
        r.totals f,
        sum_by-append f h.front_items r.others,
      );
    }

pub some_placed : (D : ℕ) (files : Files) (p : LiveSegment) (old new : List LiveSegment) (items : List Item) → IsPlaced p old new → AreOfSome D files new items
    → AreParted D files p old items
some_placed D files p old new items put h =
    subst (λ (ps : List LiveSegment). AreParted D files p ps items) (sym put.before)
    (parted_at D files p put.front put.back items (subst (λ (ps : List LiveSegment). AreOfSome D files ps items) put.after h))

-- ---- without a number

-- the live entries of a segment without it
pub entries_cleared : (number : ℕ) (p : LiveSegment) (xs : List Item)
    → filter (λ (x : Item). is_live (live_set_without number p.live) x.doc) xs ≡ entries_but number (filter (λ (x : Item). is_live p.live x.doc) xs)
entries_cleared number p xs =
    sym (live_one (λ id. xs) (live_segment p.head (live_set_without number p.live)))
    ∙ live_cleared (λ id. xs) number (p ∷ [])
    ∙ ap (entries_but number) (live_one (λ id. xs) p)

but_joined : (number : ℕ) (xs ys : List Item) → entries_but number (xs ++ ys) ≡ entries_but number xs ++ entries_but number ys
but_joined number xs ys = filter-append (λ (x : Item). not (eqb x.doc number)) xs ys

pub some_cleared : (D : ℕ) (files : Files) (number : ℕ) (parts : List LiveSegment) (items : List Item) → AreOfSome D files parts items
    → AreOfSome D files (cleared_parts number parts) (entries_but number items)
some_cleared D files number [] items h = ap (entries_but number) h
some_cleared D files number (p ∷ ps) items h = record {
  front_items = entries_but number h.front_items;
  back_items = entries_but number h.back_items;
  front_holds = ⊎_elim
      (λ none. inl (ap (entries_but number) none))
      (λ (entries, held, is). inr (entries, held, ap (entries_but number) is ∙ sym (entries_cleared number p entries))) h.front_holds;
  back_holds = some_cleared D files number ps h.back_items h.back_holds;
  joined = ap (entries_but number) h.joined ∙ but_joined number h.front_items h.back_items;
}

pub cleared_from : (D : ℕ) (files : Files) (number : ℕ) (parts : List LiveSegment) (items : List Item) → AreOfSome D files (cleared_parts number parts) items
    → (was : List Item) × AreOfSome D files parts was × (items ≡ entries_but number was)
cleared_from D files number [] items h = ([], refl, h)
cleared_from D files number (p ∷ ps) items h = by h.front_holds (cleared_from D files number ps h.back_items h.back_holds)
  where
    by : IsHeldOrNone D files (live_segment p.head (live_set_without number p.live)) h.front_items
        → (was : List Item) × AreOfSome D files ps was × (h.back_items ≡ entries_but number was)
        → (was : List Item) × AreOfSome D files (p ∷ ps) was × (items ≡ entries_but number was)
    by (inl none) (rest, held, is) = (
      rest,
      record { front_items = []; back_items = rest; front_holds = inl refl; back_holds = held; joined = refl },
      h.joined ∙ ap (λ (xs : List Item). xs ++ h.back_items) none ∙ is,
    )
    by (inr (entries, mine, same)) (rest, held, is) =
        let live = filter (λ (x : Item). is_live p.live x.doc) entries in (
          live ++ rest,
          record { front_items = live; back_items = rest; front_holds = inr (entries, mine, refl); back_holds = held; joined = refl },
          h.joined
              ∙ ap (λ (xs : List Item). xs ++ h.back_items) (same ∙ entries_cleared number p entries)
              ∙ ap (λ (xs : List Item). entries_but number live ++ xs) is
              ∙ sym (but_joined number live rest),
        )

sum_kept : (keep : Item → Bool) (f : Item → ℕ) (xs : List Item) → sum_by f (filter keep xs) ≡ sum_by (λ x. cond (keep x) (f x) 0) xs
sum_kept keep f [] = refl
sum_kept keep f (x ∷ xs) = sym (sum_by-cons (λ y. cond (keep y) (f y) 0) x xs ∙ by (keep x) (sum_kept keep f xs))
  where
    by : (b : Bool) → sum_by f (filter keep xs) ≡ sum_by (λ y. cond (keep y) (f y) 0) xs
        → cond b (f x) 0 + sum_by (λ y. cond (keep y) (f y) 0) xs ≡ sum_by f (cond b (x ∷ filter keep xs) (filter keep xs))
    by true rest = omega (arith, rest, sum_by-cons f x (filter keep xs))
    by false rest = omega (arith, rest)

-- what was built holds no more without it
pub no_more_cleared : (D : ℕ) (files : Files) (number : ℕ) (inputs : List LiveSegment) (n : NewSegmentData) → HoldsNoMore D files inputs n
    → HoldsNoMore D files (cleared_parts number inputs) (record n { live = live_set_without number n.live })
no_more_cleared D files number inputs n h = record {
  entries = h.entries;
  has = record { built = h.has.built; counted = h.has.counted; fits = h.has.fits };
  items = entries_but number h.items;
  held = some_cleared D files number inputs h.items h.held;
  fewer = λ f. omega (
    arith,
    ap (sum_by f) (entries_cleared number (part_at 0 n) h.entries)
        ∙ sum_kept (λ x. not (eqb x.doc number)) f (filter (λ (x : Item). is_live n.live x.doc) h.entries),
    sum_kept (λ x. not (eqb x.doc number)) f h.items,
    h.fewer (λ x. cond (not (eqb x.doc number)) (f x) 0),
  );
}

pub no_more_alike : (D : ℕ) (f g : Files) (inputs : List LiveSegment) (n : NewSegmentData)
    → ((p : LiveSegment) → Contains inputs p → g (Segment p.head.id) ≡ f (Segment p.head.id)) → HoldsNoMore D f inputs n → HoldsNoMore D g inputs n
no_more_alike D f g inputs n same h = record {
  entries = h.entries;
  has = h.has;
  items = h.items;
  held = some_alike D g f inputs h.items (λ p there. sym (same p there)) h.held;
  fewer = h.fewer;
}
