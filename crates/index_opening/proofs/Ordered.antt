-- The segments of a list, opened one after another.
use Rattle.std.proofs.Common.{◌≡◌, ℕ, zero, suc, ◌+◌, ◌≤◌, ◌<◌, false, List, [], ◌∷◌, ◌++◌, length, map, take, drop, get_or, refl, sym, ap, subst, ◌∙◌, arith}
use Rattle.std.specs.List.{All, AllPairs, AllZip, Contains}
use Rattle.std.specs.List.Sorted.{IsStrictlyIncreasing}
use Rattle.std.proofs.lemmas.Bool.{false_from_ne_true}
use Rattle.std.proofs.lemmas.List.{append-nil, take_more}
use Rattle.std.proofs.lemmas.List.Elements.{All-contains, All-cons, All-contains_itself, All-head, All-nil, All-tail}
use Rattle.std.proofs.lemmas.List.Kept.{AllPairs-from_increasing}
use Rattle.outer_io.specs.Files.{Files}
use Rattle.live_bits.specs.LiveSet.{LiveSet}
use Rattle.documents.specs.Entries.{is_among}
use Rattle.documents.proofs.Kept.{among_to}
use Rattle.documents.proofs.Lists.{cons_head, cons_tail, in_map, of_map, pairs_head, pairs_tail}
use Rattle.page_cache.specs.declared.faults.PageFault.{PageFault}
use Rattle.page_cache.specs.Evidence.{FaultShows}
use Rattle.commit_list.specs.declared.listed.Listed.{Listed}
use Rattle.commit_list.specs.Commits.{CommitData}
use Rattle.segment_file.specs.Heads.{Head}
use Rattle.stored_index.specs.Opening.{listed_pages, segments_pages}
use Rattle.stored_index.specs.Segments.{SegmentData}
use Rattle.stored_index.specs.Stored.{HasHead, HasLive, HaveHeads, HaveLive, HoldAll, HoldsFiles}
use Rattle.stored_index.proofs.Pairwise.{held_of}
use Rattle.segment_view.specs.LiveSegments.{IsPlaced, LiveSegment, ids_of}
use Rattle.index_opening.specs.Opened.{IsOpened}

-- ---- the segments in the order of the list

pub zip_pushed : {A B : Type 0} (R : A → B → Type 0) (xs : List A) (ys : List B) (x : A) (y : B) → AllZip R xs ys → R x y
    → AllZip R (xs ++ x ∷ []) (ys ++ y ∷ [])
zip_pushed R [] [] x y all r = (r, tt)
zip_pushed R [] (b ∷ ys) x y all r = absurd all
zip_pushed R (a ∷ xs) [] x y all r = absurd all
zip_pushed R (a ∷ xs) (b ∷ ys) x y all r = (all.0, zip_pushed R xs ys x y all.1 r)

pub zip_right : {A B : Type 0} (R : A → B → Type 0) (Q : A → Type 0) (P : B → Type 0) (xs : List A) (ys : List B) → ((x : A) (y : B) → Q x → R x y → P y)
    → All Q xs → AllZip R xs ys → All P ys
zip_right R Q P [] [] more all p = All-nil P
zip_right R Q P [] (y ∷ ys) more all p = absurd p
zip_right R Q P (x ∷ xs) [] more all p = absurd p
zip_right R Q P (x ∷ xs) (y ∷ ys) more all p = All-cons P y ys (more x y (All-head Q x xs all) p.0) (zip_right R Q P xs ys more (All-tail Q x xs all) p.1)

before : (xs : List Listed) (i : ℕ) (d : Listed) → AllPairs (λ (m n : ℕ). m < n) (map (λ (s : Listed). s.segment) xs) → i < length xs
    → All (λ (k : Listed). k.segment < (get_or xs i d).segment) (take i xs)
before [] i d up lt = absurd (omega (arith, lt))
before (x ∷ xs) zero d up lt = All-nil (λ (k : Listed). k.segment < x.segment)
before (x ∷ xs) (suc i) d up lt =
    let less : i < length xs = omega (arith, lt) in
    All-cons (λ (k : Listed). k.segment < (get_or xs i d).segment) x (take i xs)
    (pairs_head (λ (m n : ℕ). m < n) x.segment (map (λ (s : Listed). s.segment) xs) up (get_or xs i d).segment
    (in_map (λ (s : Listed). s.segment) xs (get_or xs i d) (All-contains_itself xs i d less)))
    (before xs i d (pairs_tail (λ (m n : ℕ). m < n) x.segment (map (λ (s : Listed). s.segment) xs) up) less)

-- those that are opened come before the next one
pub opened_before : (told : Type 0) (files : Files) (c : CommitData) (i : ℕ) (d s : Listed) (parts : List LiveSegment)
    → IsStrictlyIncreasing (map (λ (s : Listed). s.segment) c.listed) → i < length c.listed → get_or c.listed i d ≡ s
    → AllZip (IsOpened told files c) (take i c.listed) parts → All (λ (q : LiveSegment). q.head.id < s.segment) parts
opened_before told files c i d s parts up lt at all =
    zip_right (IsOpened told files c) (λ (k : Listed). k.segment < s.segment) (λ (q : LiveSegment). q.head.id < s.segment) (take i c.listed) parts
    (λ k q less one. subst (λ n. n < s.segment) (sym one.listed.id) less)
    (subst (λ (t : Listed). All (λ (k : Listed). k.segment < t.segment) (take i c.listed)) at (before c.listed i d
    (AllPairs-from_increasing (map (λ (s : Listed). s.segment) c.listed) up) lt)) all

pub not_among : (parts : List LiveSegment) (id : ℕ) → All (λ (q : LiveSegment). q.head.id < id) parts → is_among (ids_of parts) id ≡ false
not_among parts id less = false_from_ne_true (is_among (ids_of parts) id)
    (λ among.
    let found = of_map (λ (q : LiveSegment). q.head.id) parts id (among_to (ids_of parts) id among) in
    omega (arith, found.2, All-contains (λ (q : LiveSegment). q.head.id < id) parts found.0 less found.1))

-- a segment of the greatest id is put behind the others
pub placed_last : (p : LiveSegment) (old new : List LiveSegment) → IsPlaced p old new → IsStrictlyIncreasing (ids_of new)
    → All (λ (q : LiveSegment). q.head.id < p.head.id) old
    → new ≡ old ++ p ∷ []
placed_last p old new put up less = by put.back refl
  where
    up_after : AllPairs (λ (m n : ℕ). m < n) (ids_of (put.front ++ p ∷ put.back))
    up_after = AllPairs-from_increasing (ids_of (put.front ++ p ∷ put.back)) (subst (λ (ps : List LiveSegment). IsStrictlyIncreasing (ids_of ps)) put.after up)

    by : (back : List LiveSegment) → put.back ≡ back → new ≡ old ++ p ∷ []
    by [] is = put.after ∙ ap (λ (ps : List LiveSegment). put.front ++ p ∷ ps) is
        ∙ ap (λ (ps : List LiveSegment). ps ++ p ∷ []) (sym (append-nil put.front) ∙ ap (λ (ps : List LiveSegment). put.front ++ ps) (sym is) ∙ sym put.before)
    by (b ∷ bs) is =
        let there : Contains old b =
        subst (λ (ps : List LiveSegment). Contains ps b) (sym put.before)
        (subst (λ (ps : List LiveSegment). Contains (put.front ++ ps) b) (sym is) (in_back put.front b bs)) in
        let low = All-contains (λ (q : LiveSegment). q.head.id < p.head.id) old b less there in
        let high = after put.front p b bs (subst (λ (ps : List LiveSegment). AllPairs (λ (m n : ℕ). m < n) (ids_of (put.front ++ p ∷ ps))) is up_after) in
        absurd (omega (arith, low, high))
      where
        in_back : (front : List LiveSegment) (q : LiveSegment) (qs : List LiveSegment) → Contains (front ++ q ∷ qs) q
        in_back [] q qs = cons_head q qs
        in_back (f ∷ fs) q qs = cons_tail f (fs ++ q ∷ qs) q (in_back fs q qs)

        after : (front : List LiveSegment) (p q : LiveSegment) (qs : List LiveSegment) → AllPairs (λ (m n : ℕ). m < n) (ids_of (front ++ p ∷ q ∷ qs))
            → p.head.id < q.head.id
        after [] p q qs pairs = pairs_head (λ (m n : ℕ). m < n) p.head.id (ids_of (q ∷ qs)) pairs q.head.id (cons_head q.head.id (ids_of qs))
        after (f ∷ fs) p q qs pairs = after fs p q qs (pairs_tail (λ (m n : ℕ). m < n) f.head.id (ids_of (fs ++ p ∷ q ∷ qs)) pairs)

pub opened_more : (told : Type 0) (files : Files) (c : CommitData) (i : ℕ) (d s : Listed) (p : LiveSegment) (old new : List LiveSegment)
    → IsStrictlyIncreasing (map (λ (s : Listed). s.segment) c.listed) → i < length c.listed → get_or c.listed i d ≡ s
    → AllZip (IsOpened told files c) (take i c.listed) old → IsOpened told files c s p → IsPlaced p old new → IsStrictlyIncreasing (ids_of new)
    → AllZip (IsOpened told files c) (take (i + 1) c.listed) new
opened_more told files c i d s p old new up lt at all one put ascend =
    subst (λ (ss : List Listed). AllZip (IsOpened told files c) ss new) (sym (take_more c.listed i d lt ∙ ap (λ (k : Listed). take i c.listed ++ k ∷ []) at))
    (subst (AllZip (IsOpened told files c) (take i c.listed ++ s ∷ []))
    (sym (placed_last p old new put ascend
    (subst (λ n. All (λ (q : LiveSegment). q.head.id < n) old) (sym one.listed.id) (opened_before told files c i d s old up lt at all))))
    (zip_pushed (IsOpened told files c) (take i c.listed) old s p all one))

-- ---- the pages that are read

-- what is read of the segments from one on, and of those after it
pub pages_at : (R : Listed → Head → Type 0) (files : Files) (xs : List Listed) (hs : List Head) (i : ℕ) (d : Listed) → AllZip R xs hs → i < length xs
    → (h : Head) × R (get_or xs i d) h
    × (segments_pages files (drop i xs) (drop i hs) ≡ listed_pages files (get_or xs i d) h + segments_pages files (drop (suc i) xs) (drop (suc i) hs))
pages_at R files [] hs i d all lt = absurd (omega (arith, lt))
pages_at R files (x ∷ xs) [] i d all lt = absurd all
pages_at R files (x ∷ xs) (h ∷ hs) zero d all lt = (h, all.0, refl)
pages_at R files (x ∷ xs) (h ∷ hs) (suc i) d all lt = pages_at R files xs hs i d all.1 (omega (arith, lt))

pub record IsNextRead (files : Files) (c : CommitData) (i : ℕ) (s : Listed) (heads : List Head) : Type 0 where
  pub head : Head
  pub live : LiveSet
  pub has_head : HasHead c.dims files s head
  pub has_live : HasLive files s live
  pub pages : segments_pages files (drop i c.listed) (drop i heads)
      ≡ listed_pages files s head + segments_pages files (drop (i + 1) c.listed) (drop (i + 1) heads)

pub next_read : (files : Files) (c : CommitData) (i : ℕ) (d s : Listed) (heads : List Head) (sets : List LiveSet) → i < length c.listed
    → get_or c.listed i d ≡ s → HaveHeads files c heads → HaveLive files c sets
    → IsNextRead files c i s heads
next_read files c i d s heads sets lt at have lives =
    let here = pages_at (HasHead c.dims files) files c.listed heads i d have lt in
    let live = held_of (HasLive files) c.listed sets lives (get_or c.listed i d) (All-contains_itself c.listed i d lt) in
    record {
      head = here.0;
      live = live.0;
      has_head = subst (λ (k : Listed). HasHead c.dims files k here.0) at here.1;
      has_live = subst (λ (k : Listed). HasLive files k live.0) at live.1;
      pages =
          let next : suc i ≡ i + 1 = omega arith in
          subst (λ n.
          segments_pages files (drop i c.listed) (drop i heads) ≡ listed_pages files s here.0 + segments_pages files (drop n c.listed) (drop n heads)) next
          (subst (λ (k : Listed). segments_pages files (drop i c.listed) (drop i heads)
          ≡ listed_pages files k here.0 + segments_pages files (drop (suc i) c.listed) (drop (suc i) heads)) at here.2);
    }

pub reads_on : (files mid : Files) (c : CommitData) (i : ℕ) (d s : Listed) (heads : List Head) (sets : List LiveSet) (from now : ℕ) → mid ≡ files
    → i < length c.listed → get_or c.listed i d ≡ s → HaveHeads files c heads → HaveLive files c sets
    → ((head : Head) (live : LiveSet) → HasHead c.dims mid s head → HasLive mid s live → now ≤ from + listed_pages mid s head)
    → now + segments_pages files (drop (i + 1) c.listed) (drop (i + 1) heads) ≤ from + segments_pages files (drop i c.listed) (drop i heads)
reads_on files mid c i d s heads sets from now same lt at have lives most =
    let next = next_read files c i d s heads sets lt at have lives in
    let here : now ≤ from + listed_pages files s next.head =
    subst (λ (f : Files). now ≤ from + listed_pages f s next.head) same
    (most next.head next.live (subst (λ (f : Files). HasHead c.dims f s next.head) (sym same) next.has_head)
    (subst (λ (f : Files). HasLive f s next.live) (sym same) next.has_live)) in
    omega (arith, here, next.pages)

-- ---- one segment more, as the loop over the list has it

pub opened_from : (told : Type 0) (mid files : Files) (c : CommitData) (s : Listed) (p : LiveSegment) → (told → mid ≡ files) → IsOpened told mid c s p
    → IsOpened told files c s p
opened_from told mid files c s p same one = record {
  listed = one.listed;
  head = λ t. subst (λ (f : Files). HasHead c.dims f s p.head) (same t) (one.head t);
  live = λ t. subst (λ (f : Files). HasLive f s p.live) (same t) (one.live t);
}

pub opened_next : (told : Type 0) (mid files : Files) (c : CommitData) (xs : List Listed) (i : ℕ) (d : Listed) (p : LiveSegment) (old new : List LiveSegment)
    → xs ≡ c.listed
    → (told → mid ≡ files)
    → IsStrictlyIncreasing (map (λ (s : Listed). s.segment) c.listed) → i < length xs → AllZip (IsOpened told files c) (take i c.listed) old
    → IsOpened told mid c (get_or xs i d) p
    → IsPlaced p old new → IsStrictlyIncreasing (ids_of new) → AllZip (IsOpened told files c) (take (i + 1) c.listed) new
opened_next told mid files c xs i d p old new is same up lt all one put ascend =
    opened_more told files c i d (get_or xs i d) p old new up (subst (λ (ys : List Listed). i < length ys) is lt)
    (ap (λ (ys : List Listed). get_or ys i d) (sym is)) all
    (opened_from told mid files c (get_or xs i d) p same one) put ascend

pub fresh_next : (told : Type 0) (files : Files) (c : CommitData) (xs : List Listed) (i : ℕ) (d : Listed) (parts : List LiveSegment) (id : ℕ) → xs ≡ c.listed
    → IsStrictlyIncreasing (map (λ (s : Listed). s.segment) c.listed) → i < length xs → AllZip (IsOpened told files c) (take i c.listed) parts
    → id ≡ (get_or xs i d).segment → is_among (ids_of parts) id ≡ false
fresh_next told files c xs i d parts id is up lt all same =
    not_among parts id (subst (λ n. All (λ (q : LiveSegment). q.head.id < n) parts) (sym same)
    (opened_before told files c i d (get_or xs i d) parts up (subst (λ (ys : List Listed). i < length ys) is lt)
    (ap (λ (ys : List Listed). get_or ys i d) (sym is)) all))

pub reads_next : (files mid : Files) (c : CommitData) (xs : List Listed) (i : ℕ) (d : Listed) (heads : List Head) (sets : List LiveSet) (from now : ℕ)
    → xs ≡ c.listed → mid ≡ files → i < length xs
    → HaveHeads files c heads → HaveLive files c sets
    → ((head : Head) (live : LiveSet) → HasHead c.dims mid (get_or xs i d) head → HasLive mid (get_or xs i d) live
    → now ≤ from + listed_pages mid (get_or xs i d) head)
    → now + segments_pages files (drop (i + 1) c.listed) (drop (i + 1) heads) ≤ from + segments_pages files (drop i c.listed) (drop i heads)
reads_next files mid c xs i d heads sets from now is same lt have lives most =
    reads_on files mid c i d (get_or xs i d) heads sets from now same (subst (λ (ys : List Listed). i < length ys) is lt)
    (ap (λ (ys : List Listed). get_or ys i d) (sym is)) have lives most

pub whole_next : (files mid : Files) (c : CommitData) (xs : List Listed) (i : ℕ) (d : Listed) (held : List SegmentData) → xs ≡ c.listed → mid ≡ files
    → i < length xs → HoldAll files c held → (f : PageFault)
    → ((e : SegmentData) → HoldsFiles mid c (get_or xs i d) e → FaultShows (λ _. ⊥) f) → FaultShows (λ _. ⊥) f
whole_next files mid c xs i d held is same lt all f whole =
    let at = held_of (HoldsFiles files c) c.listed held all (get_or xs i d)
    (subst (λ (ys : List Listed). Contains ys (get_or xs i d)) is (All-contains_itself xs i d lt)) in
    whole at.0 (subst (λ (g : Files). HoldsFiles g c (get_or xs i d) at.0) (sym same) at.1)
