-- Where live entries come from, through calls on the set.
use Rattle.std.proofs.Common.{◌≡◌, ℕ, ◌+◌, ◌≤◌, Bool, not, eqb, List, [], length, Option, None, Some, ℤ, refl, sym, ap, subst, ◌∙◌, inl, inr, arith}
use Rattle.std.proofs.Math.Logic.{∥∥₁_elim, ∥∥₁_map, ∥∥₁_prop}
use Rattle.std.proofs.lemmas.Grind.{merely}
use Rattle.std.specs.List.{Contains, filter}
use Rattle.std.proofs.lemmas.List.{length-append, length-map}
use Rattle.std.proofs.lemmas.List.Elements.{All-contains}
use Rattle.std.proofs.lemmas.List.Sums.{count_by-le-length, length-filter}
use Rattle.outer_io.specs.declared.file_name.FileName.TheVariants.{Segment}
use Rattle.outer_io.specs.Files.{Files, bytes_of}
use Rattle.point_codec.specs.Points.{Item}
use Rattle.live_bits.specs.LiveSet.{is_live}
use Rattle.documents.specs.Entries.{entries_but, entries_of, entry_of, is_among}
use Rattle.documents.proofs.Lists.{of_filter}
use Rattle.page_cache.specs.declared.cache.PageCache.{PageCache}
use Rattle.segment_view.specs.LiveSegments.{LiveSegment, parts_among, parts_but}
use Rattle.segment_build.specs.NewSegments.{NewSegmentData, HasEntries}
use Rattle.file_names.specs.Names.{NameList}
use Rattle.index_opening.specs.Evidence.{AreOfSome, IsHeldOrNone}
use Rattle.segment_set.specs.Sets.{BegunMerge, IsNamed, IsWellTo, SetData, set_but, set_with}
use Rattle.segment_set.specs.Kept.{StaysButCache}
use Rattle.segment_set.specs.Losing.{HoldsNoMore, KeepsCounts}
use Rattle.segment_set.specs.Merges.{Replaces, Swaps, part_at}
use Rattle.segment_set.proofs.Moved.{Moves, moved}
use Rattle.segment_set.proofs.OneList.{entries_once}
use Rattle.segment_set.proofs.SomeHeld.{cleared_from, some_alike, some_joined, some_none, some_placed, sum_one}

-- ---- calls on the set

-- segments, buffer and points given are as before, and so are the files of the segments
pub counts_same : (D : ℕ) (f g : Files) (s t : SetData) → t.parts ≡ s.parts → t.buffer ≡ s.buffer → t.points_given ≡ s.points_given
    → ((p : LiveSegment) → Contains s.parts p → g (Segment p.head.id) ≡ f (Segment p.head.id)) → KeepsCounts D f g s t
counts_same D f g s t parts buffer given same = record {
  come = λ items held. merely (
    items,
    some_alike D f g s.parts items same (subst (λ (ps : List LiveSegment). AreOfSome D g ps items) parts held),
    omega (arith, ap length buffer, given),
  );
}

pub counts_none : (D : ℕ) (files : Files) (s : SetData) → KeepsCounts D files files s s
counts_none D files s = counts_same D files files s s refl refl refl (λ p there. refl)

pub counts_then : (D : ℕ) (f g h : Files) (a b c : SetData) → KeepsCounts D f g a b → KeepsCounts D g h b c → KeepsCounts D f h a c
counts_then D f g h a b c first second = record {
  come = λ items held. ∥∥₁_elim (second.come items held) ∥∥₁_prop
      (λ (mid, of_mid, few). ∥∥₁_map (first.come mid of_mid) (λ (was, of_was, fewer). (was, of_was, omega (arith, few, fewer))));
}

-- where only kept pages went or came, and no file changed
pub counts_read : (D : ℕ) (f g : Files) (s t : SetData) → StaysButCache s t → g ≡ f → KeepsCounts D f g s t
counts_read D f g s t rest same = counts_same D f g s t (ap (λ (u : SetData). u.parts) rest.is) (ap (λ (u : SetData). u.buffer) rest.is)
    (ap (λ (u : SetData). u.points_given) rest.is) (λ p there. ap (λ (h : Files). h (Segment p.head.id)) same)

pub counts_cached : (D : ℕ) (files : Files) (s t : SetData) → StaysButCache s t → KeepsCounts D files files s t
counts_cached D files s t rest = counts_read D files files s t rest refl

-- with a document more
counts_with : (D : ℕ) (files : Files) (points : List (List ℤ)) (s : SetData) → KeepsCounts D files files s (set_with points s)
counts_with D files points s = record {
  come = λ items held.
      let mine = entries_of (record { number = s.next; points = points }) in
      merely (items, held, omega (arith, length-append s.buffer mine, length-map points (entry_of s.next)));
}

pub counts_added : {D : ℕ} {f g : Files} {s t : SetData} (points : List (List ℤ)) → KeepsCounts D f g s t → KeepsCounts D f g s (set_with points t)
counts_added {D} {f} {g} {s} {t} points counts = counts_then D f g g s t (set_with points t) counts (counts_with D g points t)

but_few : (number : ℕ) (xs : List Item) → length (entries_but number xs) ≤ length xs
but_few number xs =
    let keep : Item → Bool = λ x. not (eqb x.doc number) in
    omega (arith, length-filter keep xs, count_by-le-length keep xs)

pub counts_but : (D : ℕ) (files : Files) (number : ℕ) (s : SetData) → KeepsCounts D files files s (set_but number s)
counts_but D files number s = record {
  come = λ items held.
      let (was, of_was, is) = cleared_from D files number s.parts items held in
      let less : length (set_but number s).buffer ≤ length s.buffer = but_few number s.buffer in
      merely (was, of_was, omega (arith, ap length is, but_few number was, less));
}

pub counts_deleted : (D : ℕ) (files : Files) (number : ℕ) (s t : SetData) → t ≡ set_but number s → KeepsCounts D files files s t
counts_deleted D files number s t is = subst (KeepsCounts D files files s) (sym is) (counts_but D files number s)

-- ---- what was built takes the place of segments

-- with what is left of the buffer it holds no more than these entries of the inputs, and the buffer
pub record FitsIn (D : ℕ) (files : Files) (inputs : List LiveSegment) (left buffer : List Item) (n : NewSegmentData) : Type 0 where
  pub entries : List Item
  pub has : HasEntries D entries n
  pub items : List Item
  pub held : AreOfSome D files inputs items
  pub few : length (filter (λ x. is_live n.live x.doc) entries) + length left ≤ length items + length buffer

pub fits_inputs : (D : ℕ) (files : Files) (inputs : List LiveSegment) (buffer : List Item) (n : NewSegmentData) → HoldsNoMore D files inputs n
    → FitsIn D files inputs buffer buffer n
fits_inputs D files inputs buffer n h = record {
  entries = h.entries;
  has = h.has;
  items = h.items;
  held = h.held;
  few = omega (arith, h.fewer (λ _. 1), sum_one (filter (λ (x : Item). is_live n.live x.doc) h.entries), sum_one h.items);
}

module _ (D : ℕ) (told : Type 0) (files new_files : Files) (s : SetData) (names : NameList) (ids : List ℕ) (parts : List LiveSegment) (left : List Item)
    (m : Moves D told files new_files s names ids parts left) (is_told : told) {most : ℕ} (well : IsWellTo most D s) where
  others_before : (items : List Item) → AreOfSome D new_files (parts_but ids s.parts) items → AreOfSome D files (parts_but ids s.parts) items
  others_before items held = some_alike D files new_files (parts_but ids s.parts) items
      (λ p there. m.kept.files is_told (Segment p.head.id) (All-contains (IsNamed s.names) s.parts p well.named
      (of_filter (λ (q : LiveSegment). not (is_among ids q.head.id)) s.parts p there).0)) held

  mine_few : (n : NewSegmentData) (put : Swaps D told s.names names new_files ids n s.parts parts) (entries mine : List Item) → HasEntries D entries n
      → IsHeldOrNone D new_files (part_at put.id n) mine → length mine ≤ length (filter (λ (x : Item). is_live n.live x.doc) entries)
  mine_few n put entries mine has (inl none) = omega (arith, ap length none)
  mine_few n put entries mine has (inr (others, held, is)) =
      let same : others ≡ entries =
      entries_once D (bytes_of (new_files (Segment put.id))) (part_at put.id n).head others entries held (put.written is_told entries has) in
      omega (arith, ap length (is ∙ ap (filter (λ (x : Item). is_live n.live x.doc)) same))

  pub counts_moved : (begun : Option BegunMerge) (cache : PageCache) → (m.built ≡ None → length left ≤ length s.buffer)
      → ((n : NewSegmentData) → m.built ≡ Some n → ∥ FitsIn D files (parts_among ids s.parts) left s.buffer n ∥₁)
      → KeepsCounts D files new_files s (moved s names parts left begun cache)
  counts_moved begun cache none some = record { come = λ items held. by items held m.built refl m.replaces }
    where
      by : (items : List Item) → AreOfSome D new_files parts items → (built : Option NewSegmentData) → m.built ≡ built
          → Replaces D told s.names names new_files ids built s.parts parts
          → ∥ ((was : List Item) × AreOfSome D files s.parts was
          × (length items + length left + s.points_given ≤ length was + length s.buffer + s.points_given)) ∥₁
      by items held None is r =
          let stays = others_before items (subst (λ (ps : List LiveSegment). AreOfSome D new_files ps items) r held) in
          let all = some_joined D files ids s.parts [] items (some_none D files (parts_among ids s.parts)) stays in
          merely (all.items, all.held, omega (arith, all.totals (λ _. 1), sum_one all.items, sum_one items, none is))
      by items held (Some n) is r = ∥∥₁_map (some n is) (λ fits.
          let parted = some_placed D new_files (part_at r.id n) (parts_but ids s.parts) parts items r.placed held in
          let all = some_joined D files ids s.parts fits.items parted.others fits.held (others_before parted.others parted.others_held) in (
            all.items,
            all.held,
            omega (
              arith,
              all.totals (λ _. 1),
              sum_one all.items,
              sum_one fits.items,
              sum_one parted.others,
              sum_one parted.mine,
              sum_one items,
              parted.totals (λ _. 1),
              mine_few n r fits.entries parted.mine fits.has parted.mine_held,
              fits.few,
            ),
          ))
