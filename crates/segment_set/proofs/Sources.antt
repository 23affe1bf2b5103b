-- What a merge reads, and a merge that is begun.
use Rattle.std.proofs.Common.{◌≡◌, ℕ, ◌≤◌, ◌<◌, true, List, ◌++◌, length, map, take, get_or, ltb, Option, None, Some, refl, sym, ap, ◌∙◌, arith}
use Rattle.std.specs.List.{All, filter}
use Rattle.std.proofs.lemmas.Bool.{ltb-true}
use Rattle.std.proofs.lemmas.List.{length-append, length-map, length-take}
use Rattle.std.proofs.lemmas.List.Elements.{All-map, All-take, All-weaker, Contains-get_or, filter_passes}
use Rattle.std.proofs.lemmas.List.Sums.{sum_by-append}
use Rattle.outer_io.specs.declared.file_name.FileName.TheVariants.{Segment}
use Rattle.outer_io.specs.Files.{Files}
use Rattle.point_codec.specs.Points.{Item}
use Rattle.documents.specs.Entries.{MakeDocs, SameTotals, is_among}
use Rattle.documents.proofs.Kept.{among_from}
use Rattle.page_cache.specs.declared.cache.PageCache.{PageCache}
use Rattle.page_cache.specs.Cache.{Agrees, KeepsFile}
use Rattle.index_model.specs.State.{Index}
use Rattle.segment_view.specs.LiveSegments.{LiveSegment, Contents, ids_of, live_in_parts, parts_among, parts_but}
use Rattle.segment_view.proofs.Living.{parted_totals}
use Rattle.segment_build.specs.NewSegments.{NewSegmentData}
use Rattle.file_names.specs.Names.{is_named}
use Rattle.segment_set.specs.Sets.{BegunMerge, SetData, IsWell}
use Rattle.segment_set.specs.Seen.{MergesInto, Sees, entries_seen}
use Rattle.segment_set.specs.Merged.{each_once, chosen_ids}
use Rattle.segment_set.specs.Merges.{IsGathered, MakesLive}
use Rattle.segment_set.proofs.Standing.{totals_length}
use Rattle.segment_set.proofs.Fresh.{some_docs}
use Rattle.segment_set.proofs.Moved.{moved}
use Rattle.segment_view.specs.Unhidden.{HidesNoneOf}

-- ---- what is read

among_totals : (c : Contents) (ids : List ℕ) (parts : List LiveSegment) (buffer : List Item)
    → SameTotals (live_in_parts c parts ++ buffer) (live_in_parts c (parts_among ids parts) ++ (live_in_parts c (parts_but ids parts) ++ buffer))
among_totals c ids parts buffer f =
    omega (
      arith,
      parted_totals c ids parts f,
      sum_by-append f (live_in_parts c parts) buffer,
      sum_by-append f (live_in_parts c (parts_among ids parts)) (live_in_parts c (parts_but ids parts)),
      sum_by-append f (live_in_parts c (parts_but ids parts)) buffer,
      sum_by-append f (live_in_parts c (parts_among ids parts)) (live_in_parts c (parts_but ids parts) ++ buffer),
    )

-- the live entries of some segments are those of documents
pub merge_docs : (D : ℕ) (files : Files) (s : SetData) (i : Index) (h : Sees D files s i) (ids : List ℕ)
    → MakeDocs s.next (live_in_parts h.contents (parts_among ids s.parts))
merge_docs D files s i h ids =
    some_docs s.next (entries_seen h.contents s.parts s.buffer) (live_in_parts h.contents (parts_among ids s.parts))
    (live_in_parts h.contents (parts_but ids s.parts) ++ s.buffer) i.docs h.docs
    (among_totals h.contents ids s.parts s.buffer)

-- and no more than the points given
pub merge_few : (D : ℕ) (files : Files) (s : SetData) (i : Index) (h : Sees D files s i) (ids : List ℕ)
    → length (live_in_parts h.contents (parts_among ids s.parts)) ≤ s.points_given
merge_few D files s i h ids =
    let some = live_in_parts h.contents (parts_among ids s.parts) in
    let rest = live_in_parts h.contents (parts_but ids s.parts) ++ s.buffer in
    omega (
      arith,
      h.few,
      totals_length (entries_seen h.contents s.parts s.buffer) (some ++ rest) (among_totals h.contents ids s.parts s.buffer),
      length-append some rest,
    )

-- ---- the inputs of a merge that is begun

pub places_within : (which : List ℕ) (count : ℕ) → All (λ i. i < count) (take 64 (filter (λ i. ltb i count) (each_once which)))
places_within which count =
    All-take (λ i. i < count) 64 (filter (λ i. ltb i count) (each_once which))
    (All-weaker (λ i. ltb i count ≡ true) (λ i. i < count) (λ i h. ltb-true i count h) (filter (λ i. ltb i count) (each_once which))
    (filter_passes (λ i. ltb i count) (each_once which)))

pub chosen_there : (which ids : List ℕ) → All (λ id. is_among ids id ≡ true) (chosen_ids which ids)
chosen_there which ids =
    All-map (λ id. is_among ids id ≡ true) (λ i. get_or ids i 0) (take 64 (filter (λ i. ltb i (length ids)) (each_once which)))
    (All-weaker (λ i. i < length ids) (λ i. is_among ids (get_or ids i 0) ≡ true) (λ i lt. among_from ids (get_or ids i 0) (Contains-get_or ids i 0 lt))
    (take 64 (filter (λ i. ltb i (length ids)) (each_once which))) (places_within which (length ids)))

pub chosen_few : (which ids : List ℕ) → length (chosen_ids which ids) ≤ 64
chosen_few which ids =
    let places = take 64 (filter (λ i. ltb i (length ids)) (each_once which)) in
    omega (arith, length-map places (λ i. get_or ids i 0), length-take 64 (filter (λ i. ltb i (length ids)) (each_once which)))

-- ---- a merge that is begun

pub begun_well : (D : ℕ) {s : SetData} (well : IsWell D s) (b : BegunMerge) (cache : PageCache) → All (λ id. is_among (ids_of s.parts) id ≡ true) b.inputs
    → length b.inputs ≤ 64
    → ((n : NewSegmentData) → b.built ≡ Some n → IsGathered D s.leaf_size (parts_among b.inputs s.parts) n)
    → ((id : ℕ) → KeepsFile cache id → is_named s.names.names (Segment id) ≡ true) → All (HidesNoneOf D cache) s.parts
    → IsWell D (moved s s.names s.parts s.buffer (Some b) cache)
begun_well D {s} well b cache inputs few gathered cached unhidden = record {
  some_dims = well.some_dims;
  few_dims = well.few_dims;
  least_leaf = well.least_leaf;
  greatest_leaf = well.greatest_leaf;
  numbered = well.numbered;
  most_given = well.most_given;
  spread = well.spread;
  room = well.room;
  ordered = well.ordered;
  once = well.once;
  sixteen = well.sixteen;
  few = well.few;
  leaf_size = well.leaf_size;
  live_fits = well.live_fits;
  named = well.named;
  kept = well.kept;
  own = well.own;
  few_snapshots = well.few_snapshots;
  rooms = well.rooms;
  inputs = inputs;
  few_inputs = few;
  built = λ n is. let of = gathered n is in record { leaf_size = of.made.leaf_size; has = of.made.has; fits = of.made.fits; within = of.within };
  cached = cached;
  unhidden = unhidden;
}

-- what was built of the inputs' live entries merges them
pub gathered_merges : (D : ℕ) (c : Contents) (inputs : List LiveSegment) (o : Option NewSegmentData) → MakesLive D (live_in_parts c inputs) o
    → MergesInto D c inputs o
gathered_merges D c inputs None h = h
gathered_merges D c inputs (Some n) h = record { items = h.items; has = h.has; found = h.found; same = h.same }

pub begun_seen : (D : ℕ) (files : Files) (s : SetData) (i : Index) (h : Sees D files s i) (b : BegunMerge) (cache : PageCache)
    → MergesInto D h.contents (parts_among b.inputs s.parts) b.built → Agrees files cache
    → Sees D files (moved s s.names s.parts s.buffer (Some b) cache) (record i { begun = true })
begun_seen D files s i h b cache merges agrees = record {
  contents = h.contents;
  stands = record { now = h.stands.now; kept = h.stands.kept; begun = merges; agrees = agrees };
  dims = h.dims;
  leaf_size = h.leaf_size;
  next = h.next;
  points_given = h.points_given;
  begun = refl;
  docs = h.docs;
  few = h.few;
  snapshots = h.snapshots;
}

-- the ids at the first places are the inputs
pub chosen_is : (which places inputs : List ℕ) (parts : List LiveSegment) → places ≡ take 64 (filter (λ i. ltb i (length parts)) (each_once which))
    → inputs ≡ map (λ i. get_or (ids_of parts) i 0) places
    → inputs ≡ chosen_ids which (ids_of parts)
chosen_is which places inputs parts are at =
    at
    ∙ ap (map (λ i. get_or (ids_of parts) i 0)) are
    ∙ ap (λ n. map (λ i. get_or (ids_of parts) i 0) (take 64 (filter (λ i. ltb i n) (each_once which))))
    (sym (length-map parts (λ (p : LiveSegment). p.head.id)))
