-- What the files of the listed segments hold, where all are opened and their leaves are read.
use Rattle.std.proofs.Common.{◌≡◌, ℕ, List, [], ◌∷◌, length, length-append, refl, sym, ap, subst, ◌∙◌, arith}
use Rattle.std.specs.List.{AllZip}
use Rattle.std.proofs.lemmas.List.Sums.{sum_by-cons}
use Rattle.outer_io.specs.declared.file_name.FileName.TheVariants.{Live, Segment}
use Rattle.outer_io.specs.Files.{Files, bytes_of}
use Rattle.live_bits.specs.LiveSet.{LiveSet}
use Rattle.documents.specs.Entries.{has_entry}
use Rattle.commit_list.specs.declared.listed.Listed.{Listed}
use Rattle.commit_list.specs.Commits.{CommitData}
use Rattle.segment_file.specs.Segments.{IsSegment}
use Rattle.segment_file.specs.LiveFiles.{IsLiveFile}
use Rattle.stored_index.specs.Segments.{SegmentData, all_live_entries, live_entries, live_sets}
use Rattle.stored_index.specs.Stored.{HoldsFiles}
use Rattle.segment_view.specs.LiveSegments.{LiveSegment, lives_of, live_segment}
use Rattle.index_opening.specs.Opened.{IsOpened}
use Rattle.folder_check.specs.declared.findings.Finding.{Finding}
use Rattle.folder_check.specs.Found.{AreTallied, HasAll, IsFinding, IsFoundOf, all_entries}
use Rattle.folder_check.proofs.Entries.{all_pass, live_number}

-- what the files of a listed segment hold, whether or not each live number has an entry
pub record HoldsBut (files : Files) (c : CommitData) (s : Listed) (d : SegmentData) : Type 0 where
  pub segment : IsSegment c.dims (bytes_of (files (Segment s.segment))) d.head d.entries
  pub live : IsLiveFile s.segment s.generation (bytes_of (files (Live s.segment s.generation))) d.live
  pub id : d.head.id ≡ s.segment
  pub leaf_size : d.head.leaf_size ≡ c.leaf_size
  pub count : d.head.entries ≡ s.entries
  pub live_count : length d.live.live ≡ s.live

-- this was found of them
abbrev pub IsFoundIn : SegmentData → Finding → Type 0
IsFoundIn d f = IsFoundOf (live_segment d.head d.live) d.entries f

abbrev pub gathered : (D : ℕ) (files : Files) (parts : List LiveSegment) (findings : List Finding) → AllZip (IsFinding D files) parts findings
    → List SegmentData
gathered D files [] [] all = []
gathered D files [] (f ∷ fs) all = []
gathered D files (p ∷ ps) [] all = []
gathered D files (p ∷ ps) (f ∷ fs) all = record { head = p.head; entries = all.0.items; live = p.live } ∷ gathered D files ps fs all.1

pub gathered_lives : (D : ℕ) (files : Files) (parts : List LiveSegment) (findings : List Finding) (all : AllZip (IsFinding D files) parts findings)
    → live_sets (gathered D files parts findings all) ≡ lives_of parts
gathered_lives D files [] [] all = refl
gathered_lives D files [] (f ∷ fs) all = absurd all
gathered_lives D files (p ∷ ps) [] all = absurd all
gathered_lives D files (p ∷ ps) (f ∷ fs) all = ap (λ (ss : List LiveSet). p.live ∷ ss) (gathered_lives D files ps fs all.1)

pub gathered_found : (D : ℕ) (files : Files) (parts : List LiveSegment) (findings : List Finding) (all : AllZip (IsFinding D files) parts findings)
    → AllZip IsFoundIn (gathered D files parts findings all) findings
gathered_found D files [] [] all = tt
gathered_found D files [] (f ∷ fs) all = absurd all
gathered_found D files (p ∷ ps) [] all = absurd all
gathered_found D files (p ∷ ps) (f ∷ fs) all = (all.0.of, gathered_found D files ps fs all.1)

pub gathered_holds : (T : Type 0) (D : ℕ) (files : Files) (c : CommitData) (listed : List Listed) (parts : List LiveSegment) (findings : List Finding)
    (all : AllZip (IsFinding D files) parts findings) → T → c.dims ≡ D
    → AllZip (IsOpened T files c) listed parts → AllZip (HoldsBut files c) listed (gathered D files parts findings all)
gathered_holds T D files c [] [] [] all t dims opened = tt
gathered_holds T D files c [] [] (f ∷ fs) all t dims opened = absurd all
gathered_holds T D files c [] (p ∷ ps) fs all t dims opened = absurd opened
gathered_holds T D files c (s ∷ ss) [] fs all t dims opened = absurd opened
gathered_holds T D files c (s ∷ ss) (p ∷ ps) [] all t dims opened = absurd all
gathered_holds T D files c (s ∷ ss) (p ∷ ps) (f ∷ fs) all t dims opened = (one, gathered_holds T D files c ss ps fs all.1 t dims opened.1)
  where
    one : HoldsBut files c s (record { head = p.head; entries = all.0.items; live = p.live })
    one = record {
      segment = subst (λ id. IsSegment c.dims (bytes_of (files (Segment id))) p.head all.0.items) opened.0.listed.id
          (subst (λ n. IsSegment n (bytes_of (files (Segment p.head.id))) p.head all.0.items) (sym dims) all.0.held);
      live = opened.0.live t;
      id = opened.0.listed.id;
      leaf_size = opened.0.listed.leaf_size;
      count = opened.0.listed.entries;
      live_count = opened.0.listed.live;
    }

-- ---- where each live number has an entry

one_held : (files : Files) (c : CommitData) (s : Listed) (d : SegmentData) (f : Finding) → HoldsBut files c s d → IsFoundIn d f → HasAll s f
    → HoldsFiles files c s d
one_held files c s d f h found all = record {
  segment = h.segment;
  live = h.live;
  id = h.id;
  leaf_size = h.leaf_size;
  count = h.count;
  live_count = h.live_count;
  found = λ number live.
      all_pass (λ n. has_entry n d.entries) d.live.live (sym found.found ∙ sym all ∙ sym h.live_count) number (live_number d.live number live);
}

pub all_held : (files : Files) (c : CommitData) (listed : List Listed) (held : List SegmentData) (findings : List Finding)
    → AllZip (HoldsBut files c) listed held → AllZip IsFoundIn held findings
    → AllZip HasAll listed findings → AllZip (HoldsFiles files c) listed held
all_held files c [] [] fs h found all = tt
all_held files c [] (d ∷ ds) fs h found all = absurd h
all_held files c (s ∷ ss) [] fs h found all = absurd h
all_held files c (s ∷ ss) (d ∷ ds) [] h found all = absurd found
all_held files c (s ∷ ss) (d ∷ ds) (f ∷ fs) h found all = (one_held files c s d f h.0 found.0 all.0, all_held files c ss ds fs h.1 found.1 all.1)

-- and this was found of their live entries
abbrev pub IsTalliedIn : SegmentData → Finding → Type 0
IsTalliedIn d f = AreTallied (live_entries d) f

pub all_tallied : (files : Files) (c : CommitData) (listed : List Listed) (held : List SegmentData) (findings : List Finding)
    → AllZip (HoldsBut files c) listed held → AllZip IsFoundIn held findings
    → AllZip HasAll listed findings → AllZip IsTalliedIn held findings
all_tallied files c [] [] [] h found all = tt
all_tallied files c [] [] (f ∷ fs) h found all = absurd found
all_tallied files c [] (d ∷ ds) fs h found all = absurd h
all_tallied files c (s ∷ ss) [] fs h found all = absurd h
all_tallied files c (s ∷ ss) (d ∷ ds) [] h found all = absurd found
all_tallied files c (s ∷ ss) (d ∷ ds) (f ∷ fs) h found all =
    (found.0.tallied (sym all.0 ∙ sym h.0.live_count), all_tallied files c ss ds fs h.1 found.1 all.1)

-- ---- how many live entries there are

pub entries_found : (held : List SegmentData) (findings : List Finding) → AllZip IsTalliedIn held findings
    → all_entries findings ≡ length (all_live_entries held)
entries_found [] [] all = refl
entries_found [] (f ∷ fs) all = absurd all
entries_found (d ∷ ds) [] all = absurd all
entries_found (d ∷ ds) (f ∷ fs) all =
    omega (arith, sum_by-cons (λ (g : Finding). g.entries) f fs, all.0.entries, entries_found ds fs all.1, length-append (live_entries d) (all_live_entries ds))
