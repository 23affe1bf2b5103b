-- A set stands over files, and is seen as an index, as long as what it has of them stays.
use Rattle.std.proofs.Common.{◌≡◌, ℕ, ◌+◌, ◌≤◌, Bool, true, eqb, cond, List, [], ◌∷◌, ◌++◌, length}
use Rattle.std.proofs.Common.{Option, Some, None, is_some, refl, sym, ap, subst, ◌∙◌, arith}
use Rattle.std.specs.List.{All, AllZip, Contains, filter, sum_by}
use Rattle.std.proofs.lemmas.List.Elements.{All-contains, All-filter, All-head, All-tail}
use Rattle.std.proofs.lemmas.List.Sums.{sum_by-cons}
use Rattle.outer_io.specs.declared.file_name.FileName.TheVariants.{Segment}
use Rattle.outer_io.specs.Files.{Files}
use Rattle.point_codec.specs.Points.{Item}
use Rattle.live_bits.specs.LiveSet.{is_live}
use Rattle.documents.specs.Entries.{AreDocs, SameTotals, is_among}
use Rattle.documents.proofs.Kept.{later, reordered}
use Rattle.documents.proofs.Lists.{of_map}
use Rattle.documents.proofs.Totals.{permuted}
use Rattle.page_cache.specs.Cache.{Agrees}
use Rattle.page_cache.proofs.Agreement.{agrees_other}
use Rattle.index_model.specs.State.{Index, Snapshot}
use Rattle.segment_view.specs.LiveSegments.{LiveSegment, Contents, AreRead, ids_of, live_in_parts, parts_among}
use Rattle.segment_view.proofs.Living.{live_alike, read_alike}
use Rattle.segment_build.specs.NewSegments.{NewSegmentData}
use Rattle.file_names.specs.Names.{NameList, is_named}
use Rattle.segment_set.specs.Sets.{BegunMerge, IsNamed, IsWell, IsWellTo, NamedView, SetData}
use Rattle.segment_set.specs.Seen.{BegunStands, MergesInto, Sees, ShowsSnapshot, StandsOver, entries_seen}
use Rattle.segment_set.specs.Kept.{KeepsNamed}

-- ---- totals

pub totals_none : (xs : List Item) → SameTotals xs xs
totals_none xs f = refl

pub totals_then : (xs ys zs : List Item) → SameTotals xs ys → SameTotals ys zs → SameTotals xs zs
totals_then xs ys zs first second f = second f ∙ first f

pub totals_length : (xs ys : List Item) → SameTotals xs ys → length ys ≡ length xs
totals_length xs ys same = sym (counts ys) ∙ same (λ _. 1) ∙ counts xs
  where
    counts : (zs : List Item) → sum_by (λ _. 1) zs ≡ length zs
    counts [] = refl
    counts (z ∷ zs) = omega (arith, sum_by-cons (λ (_ : Item). 1) z zs, counts zs)

-- ---- the files of the segments

-- the list has the names of the segments' files
pub ids_named : (names : NameList) (parts : List LiveSegment) → All (IsNamed names) parts → (id : ℕ) → Contains (ids_of parts) id
    → is_named names.names (Segment id) ≡ true
ids_named names parts all id there =
    let r = of_map (λ (p : LiveSegment). p.head.id) parts id there in
    subst (λ n. is_named names.names (Segment n) ≡ true) r.2 (All-contains (IsNamed names) parts r.0 all r.1)

-- what is said of segments holds of files and entries too that are the same for each name of the list
pub record IsAlike (names : NameList) (old new : Files) (c d : Contents) : Type 0 where
  pub files : (id : ℕ) → is_named names.names (Segment id) ≡ true → new (Segment id) ≡ old (Segment id)
  pub entries : (id : ℕ) → is_named names.names (Segment id) ≡ true → d id ≡ c id

pub alike_kept : (told : Type 0) (names more : NameList) (old new : Files) (c : Contents) → told → KeepsNamed told names more old new
    → IsAlike names old new c c
alike_kept told names more old new c t keeps = record { files = λ id named. keeps.files t (Segment id) named; entries = λ id named. refl }

-- the entries of one more segment, of another id
abbrev pub with_entries : Contents → ℕ → List Item → Contents
with_entries c id items = λ n. cond (eqb n id) items (c n)

pub alike_read : (D : ℕ) (names : NameList) (old new : Files) (c d : Contents) (parts : List LiveSegment) → IsAlike names old new c d
    → All (IsNamed names) parts
    → AreRead D old c parts → AreRead D new d parts
alike_read D names old new c d parts same named read =
    read_alike D old new c d parts (λ id there. same.files id (ids_named names parts named id there))
    (λ id there. same.entries id (ids_named names parts named id there)) read

pub alike_live : (names : NameList) (old new : Files) (c d : Contents) (parts : List LiveSegment) → IsAlike names old new c d → All (IsNamed names) parts
    → live_in_parts d parts ≡ live_in_parts c parts
alike_live names old new c d parts same named = live_alike c d parts (λ id there. same.entries id (ids_named names parts named id there))

pub named_among : (names : NameList) (keep : LiveSegment → Bool) (parts : List LiveSegment) → All (IsNamed names) parts
    → All (IsNamed names) (filter keep parts)
named_among names keep parts all = All-filter keep (IsNamed names) parts all

-- ---- snapshots

pub alike_kept_views : (D : ℕ) (names : NameList) (old new : Files) (c d : Contents) (views : List NamedView) → IsAlike names old new c d
    → All (λ v. All (IsNamed names) v.parts) views → All (λ v. AreRead D old c v.parts) views → All (λ v. AreRead D new d v.parts) views
alike_kept_views D names old new c d views same named read k w lt = alike_read D names old new c d _ same (named k w lt) (read k w lt)

pub alike_shown : (names : NameList) (old new : Files) (c d : Contents) (next : ℕ) (views : List NamedView) (ts : List Snapshot) → IsAlike names old new c d
    → All (λ v. All (IsNamed names) v.parts) views → AllZip (ShowsSnapshot c next) views ts → AllZip (ShowsSnapshot d next) views ts
alike_shown names old new c d next [] [] same named shown = tt
alike_shown names old new c d next [] (t ∷ ts) same named shown = absurd shown
alike_shown names old new c d next (v ∷ vs) [] same named shown = absurd shown
alike_shown names old new c d next (v ∷ vs) (t ∷ ts) same named shown = (
  record {
    name = shown.0.name;
    docs = subst (λ (xs : List Item). AreDocs next (xs ++ v.buffer) t.docs)
        (sym (alike_live names old new c d v.parts same (All-head (λ w. All (IsNamed names) w.parts) v vs named))) shown.0.docs;
  },
  alike_shown names old new c d next vs ts same (All-tail (λ w. All (IsNamed names) w.parts) v vs named) shown.1,
)

-- how many numbers beyond the documents' are given doesn't matter
pub shown_later : (c : Contents) (m n : ℕ) (views : List NamedView) (ts : List Snapshot) → m ≤ n → AllZip (ShowsSnapshot c m) views ts
    → AllZip (ShowsSnapshot c n) views ts
shown_later c m n [] [] le shown = tt
shown_later c m n [] (t ∷ ts) le shown = absurd shown
shown_later c m n (v ∷ vs) [] le shown = absurd shown
shown_later c m n (v ∷ vs) (t ∷ ts) le shown =
    (record { name = shown.0.name; docs = later m n (entries_seen c v.parts v.buffer) t.docs shown.0.docs le }, shown_later c m n vs ts le shown.1)

-- ---- the set stands

pub alike_merges : (D : ℕ) (names : NameList) (old new : Files) (c d : Contents) (inputs : List LiveSegment) (n : Option NewSegmentData)
    → IsAlike names old new c d
    → All (IsNamed names) inputs
    → MergesInto D c inputs n → MergesInto D d inputs n
alike_merges D names old new c d inputs None same named none = alike_live names old new c d inputs same named ∙ none
alike_merges D names old new c d inputs (Some n) same named is = record {
  items = is.items;
  has = is.has;
  found = is.found;
  same = subst (λ (xs : List Item). SameTotals xs (filter (λ (x : Item). is_live n.live x.doc) is.items)) (sym (alike_live names old new c d inputs same named))
      is.same;
}

pub alike_begun : (D : ℕ) (names : NameList) (old new : Files) (c d : Contents) (parts : List LiveSegment) (begun : Option BegunMerge)
    → IsAlike names old new c d
    → All (IsNamed names) parts
    → BegunStands D c parts begun → BegunStands D d parts begun
alike_begun D names old new c d parts None same named stands = tt
alike_begun D names old new c d parts (Some b) same named stands =
    alike_merges D names old new c d (parts_among b.inputs parts) b.built same
    (named_among names (λ (p : LiveSegment). is_among b.inputs p.head.id) parts named)
    stands

-- over other files, which have the same for each named segment
pub stands_alike : (D : ℕ) (old new : Files) (c d : Contents) (s : SetData) → IsWell D s → IsAlike s.names old new c d → StandsOver D old c s
    → StandsOver D new d s
stands_alike D old new c d s well same stands = record {
  now = alike_read D s.names old new c d s.parts same well.named stands.now;
  kept = alike_kept_views D s.names old new c d s.snapshots same well.kept stands.kept;
  begun = alike_begun D s.names old new c d s.parts s.begun same well.named stands.begun;
  agrees = agrees_other old new s.cache (λ id kept. same.files id (well.cached id kept)) stands.agrees;
}

-- another set of the same segments
pub stands_like : (D : ℕ) (files : Files) (c : Contents) (s t : SetData) → t.parts ≡ s.parts → t.snapshots ≡ s.snapshots → t.begun ≡ s.begun
    → Agrees files t.cache
    → StandsOver D files c s → StandsOver D files c t
stands_like D files c s t parts snapshots begun agrees stands = record {
  now = subst (AreRead D files c) (sym parts) stands.now;
  kept = subst (λ (vs : List NamedView). All (λ v. AreRead D files c v.parts) vs) (sym snapshots) stands.kept;
  begun = subst (λ (ps : List LiveSegment). BegunStands D c ps t.begun) (sym parts) (subst (BegunStands D c s.parts) (sym begun) stands.begun);
  agrees = agrees;
}

-- ---- the set is seen

-- over other files, which have the same for each named segment
pub sees_alike : (D : ℕ) (old new : Files) (s : SetData) (i : Index) → IsWell D s → (told : Type 0) → told → (more : NameList)
    → KeepsNamed told s.names more old new → Sees D old s i → Sees D new s i
sees_alike D old new s i well told t more keeps seen = record {
  contents = seen.contents;
  stands = stands_alike D old new seen.contents seen.contents s well (alike_kept told s.names more old new seen.contents t keeps) seen.stands;
  dims = seen.dims;
  leaf_size = seen.leaf_size;
  next = seen.next;
  points_given = seen.points_given;
  begun = seen.begun;
  docs = seen.docs;
  few = seen.few;
  snapshots = seen.snapshots;
}

-- the numbers of two sets are the same, and so are their snapshots
pub record IsLike (s t : SetData) : Type 0 where
  pub leaf_size : t.leaf_size ≡ s.leaf_size
  pub next : t.next ≡ s.next
  pub points_given : t.points_given ≡ s.points_given
  pub snapshots : t.snapshots ≡ s.snapshots

-- another set over other files, with the same entries in whatever order
pub sees_moved : {most : ℕ} (D : ℕ) (old new : Files) (s t : SetData) (i : Index) (d : Contents) (seen : Sees D old s i) → IsWellTo most D s
    → IsAlike s.names old new seen.contents d
    → StandsOver D new d t → IsLike s t → SameTotals (entries_seen seen.contents s.parts s.buffer) (entries_seen d t.parts t.buffer)
    → Sees D new t (record i { begun = is_some t.begun })
sees_moved D old new s t i d seen well same stands like totals = record {
  contents = d;
  stands = stands;
  dims = seen.dims;
  leaf_size = seen.leaf_size ∙ sym like.leaf_size;
  next = seen.next ∙ sym like.next;
  points_given = seen.points_given ∙ sym like.points_given;
  begun = refl;
  docs = subst (λ n. AreDocs n (entries_seen d t.parts t.buffer) i.docs) (sym like.next)
      (reordered s.next (entries_seen seen.contents s.parts s.buffer) (entries_seen d t.parts t.buffer) i.docs seen.docs
      (permuted (entries_seen seen.contents s.parts s.buffer) (entries_seen d t.parts t.buffer) totals));
  few = let long = totals_length (entries_seen seen.contents s.parts s.buffer) (entries_seen d t.parts t.buffer) totals in
      let few = seen.few in
      let points_given = like.points_given in
      omega arith;
  snapshots = subst (λ n. AllZip (ShowsSnapshot d n) t.snapshots i.snapshots) (sym like.next)
      (subst (λ (vs : List NamedView). AllZip (ShowsSnapshot d s.next) vs i.snapshots) (sym like.snapshots)
      (alike_shown s.names old new seen.contents d s.next s.snapshots i.snapshots same well.kept seen.snapshots));
}

-- and with the same flag
pub sees_same : (D : ℕ) (files : Files) (s : SetData) (i : Index) (b : Bool) → b ≡ i.begun → Sees D files s (record i { begun = b }) → Sees D files s i
sees_same D files s i b same seen = subst (λ v. Sees D files s (record i { begun = v })) same seen

pub sees_like : (D : ℕ) (files : Files) (s t : SetData) (i : Index) → IsLike s t → t.parts ≡ s.parts → t.buffer ≡ s.buffer → t.begun ≡ s.begun
    → Agrees files t.cache → Sees D files s i → Sees D files t i
sees_like D files s t i like parts buffer begun agrees seen = record {
  contents = seen.contents;
  stands = stands_like D files seen.contents s t parts like.snapshots begun agrees seen.stands;
  dims = seen.dims;
  leaf_size = seen.leaf_size ∙ sym like.leaf_size;
  next = seen.next ∙ sym like.next;
  points_given = seen.points_given ∙ sym like.points_given;
  begun = seen.begun ∙ sym (ap is_some begun);
  docs = subst (λ n. AreDocs n (entries_seen seen.contents t.parts t.buffer) i.docs) (sym like.next)
      (subst (λ (xs : List Item). AreDocs s.next xs i.docs) (sym entries) seen.docs);
  few = let few = seen.few in let long = ap length entries in let points_given = like.points_given in omega arith;
  snapshots = subst (λ n. AllZip (ShowsSnapshot seen.contents n) t.snapshots i.snapshots) (sym like.next)
      (subst (λ (vs : List NamedView). AllZip (ShowsSnapshot seen.contents s.next) vs i.snapshots) (sym like.snapshots) seen.snapshots);
}
  where
    entries : entries_seen seen.contents t.parts t.buffer ≡ entries_seen seen.contents s.parts s.buffer
    entries = ap (λ (ps : List LiveSegment). entries_seen seen.contents ps t.buffer) parts ∙ ap (entries_seen seen.contents s.parts) buffer
