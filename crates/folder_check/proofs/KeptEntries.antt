-- The live entries that are kept of all segments are those of the documents.
use Rattle.std.proofs.Common.{◌≡◌, ℕ, ◌+◌, ◌-◌, List, [], ◌∷◌, ◌++◌, length, map, take, drop, sym, ap, subst, ◌∙◌, inl, inr, Result, Ok, Err, Some}
use Rattle.std.proofs.Common.{arith}
use Rattle.std.specs.Prelude.{IfNone, IfSome, OnOk}
use Rattle.std.specs.List.{AllZip, count_by, filter, slice_get}
use Rattle.std.proofs.lemmas.List.{append_assoc, drop-map, length-drop, length-map, take_all}
use Rattle.std.proofs.Math.Seq.{drop-append_seam}
use Rattle.outer_io.specs.declared.file_name.FileName.TheVariants.{Segment}
use Rattle.outer_io.specs.Files.{Files, bytes_of}
use Rattle.point_codec.specs.Points.{Item}
use Rattle.point_codec.specs.Seen.{items_of}
use Rattle.point_codec.specs.declared.entries.Entry.{Entry}
use Rattle.leaf_codec.specs.LeafOrder.{NoneTwice}
use Rattle.live_bits.specs.LiveSet.{LiveSet, is_live}
use Rattle.documents.specs.Documents.{Document}
use Rattle.documents.specs.Entries.{AreDocs, has_entry}
use Rattle.page_cache.specs.declared.faults.PageFault.{PageFault}
use Rattle.commit_list.specs.declared.listed.Listed.{Listed}
use Rattle.commit_list.specs.Commits.{CommitData}
use Rattle.segment_file.specs.Heads.{Head}
use Rattle.segment_file.specs.Segments.{IsSegment}
use Rattle.stored_index.specs.Segments.{SegmentData, all_live_entries, live_entries}
use Rattle.stored_index.specs.Stored.{HoldsFiles, HoldsIndex}
use Rattle.stored_index.proofs.Parts.{EntriesOnce}
use Rattle.segment_view.specs.LiveSegments.{LiveSegment, live_segment}
use Rattle.segment_view.specs.Held.{AreHeld, IsHeld}
use Rattle.segment_view.proofs.Holding.{held_one, held-append}
use Rattle.segment_view.proofs.Living.{live_one, nothing_live, parts_more}
use Rattle.document_checks.specs.Crowded.{AreFew, IsLeastCrowded}
use Rattle.index_opening.specs.Opened.{IsOpened}
use Rattle.index_opening.proofs.Listed.{as_part, opened_heads, opened_lives, parts_held}
use Rattle.folder_check.specs.declared.findings.Finding.{Finding}
use Rattle.folder_check.specs.Found.{IsFinding}
use Rattle.folder_check.proofs.Found.{found_of}

-- what stands behind the entries that were there before
pub items_behind : {D : ℕ} (old new : List (Entry D)) (more : List Item) → items_of new ≡ items_of old ++ more → items_of (drop (length old) new) ≡ more
items_behind old new more is =
    sym (drop-map (λ (e : Entry _). record { doc = e.doc; at = e.point.c }) (length old) new)
    ∙ ap (drop (length old)) is
    ∙ ap (λ n. drop n (items_of old ++ more)) (sym (length-map old (λ (e : Entry _). record { doc = e.doc; at = e.point.c })))
    ∙ drop-append_seam (items_of old) more

-- what is found of those that were put behind
pub found_behind : (D : ℕ) (files : Files) (head : Head) (live : LiveSet) (items : List Item) (old new slice : List (Entry D)) (from : ℕ) (f : Finding)
    → IsSegment D (bytes_of (files (Segment head.id))) head items → items_of new ≡ items_of old ++ filter (λ x. is_live live x.doc) items
    → slice ≡ new → from ≡ length old
    → f.found ≡ count_by (λ number. has_entry number (items_of (take (length slice - from) (drop from slice)))) live.live
    → IfNone f.crowded (NoneTwice (items_of (take (length slice - from) (drop from slice))) × AreFew (items_of (take (length slice - from) (drop from slice))))
    → IfSome f.crowded (λ number. IsLeastCrowded number (items_of (take (length slice - from) (drop from slice))))
    → f.entries ≡ length (take (length slice - from) (drop from slice))
    → IsFinding D files (live_segment head live) f
found_behind D files head live items old new slice from f held read same long found none some count =
    found_of D files head live items part f held behind found none some count
  where
    part : List (Entry D)
    part = take (length slice - from) (drop from slice)

    whole : part ≡ drop (length old) new
    whole =
        take_all (length slice - from) (drop from slice) (omega (arith, length-drop from slice))
        ∙ ap (λ (n : ℕ). drop n slice) long
        ∙ ap (λ (es : List (Entry D)). drop (length old) es) same

    behind : items_of part ≡ filter (λ x. is_live live x.doc) items
    behind = ap (λ (es : List (Entry D)). items_of es) whole ∙ items_behind old new (filter (λ x. is_live live x.doc) items) read

-- one segment more, as the loop over them has it
pub held_pushed : (D : ℕ) (files mid : Files) (parts : List LiveSegment) (i : ℕ) (p : LiveSegment) (was old new : List Item) → slice_get parts i ≡ Some p
    → mid ≡ files
    → (xs : List Item) × (old ≡ was ++ xs) × AreHeld D files (take i parts) xs
    → (ys : List Item) × (new ≡ old ++ ys) × IsHeld D mid p ys
    → (zs : List Item) × (new ≡ was ++ zs) × AreHeld D files (take (i + 1) parts) zs
held_pushed D files mid parts i p was old new at same (xs, before, held) (ys, after, one) = (
  xs ++ ys,
  after ∙ ap (λ (zs : List Item). zs ++ ys) before ∙ append_assoc was xs ys,
  subst (λ (ps : List LiveSegment). AreHeld D files ps (xs ++ ys)) (sym (parts_more parts i p at))
      (held-append D files (take i parts) (p ∷ []) xs ys held (held_one D files p ys (subst (λ (f : Files). IsHeld D f p ys) same one))),
)

module _ (once : EntriesOnce) (D : ℕ) (files : Files) (c : CommitData) (dims : c.dims ≡ D) where
  same_one : (s : Listed) (d : SegmentData) (items : List Item) → HoldsFiles files c s d → IsHeld D files (as_part d) items → items ≡ live_entries d
  same_one s d items h (inl (none, empty)) =
      empty ∙ sym (nothing_live (λ _. d.entries) (as_part d) (ap length none)) ∙ live_one (λ _. d.entries) (as_part d)
  same_one s d items h (inr (entries, held, is)) =
      is
      ∙ ap (filter (λ (x : Item). is_live d.live x.doc))
      (once D (bytes_of (files (Segment d.head.id))) d.head entries d.entries held
      (subst (λ n. IsSegment n (bytes_of (files (Segment d.head.id))) d.head d.entries) dims
      (subst (λ id. IsSegment c.dims (bytes_of (files (Segment id))) d.head d.entries) (sym h.id) h.segment)))

  same_all : (ss : List Listed) (ds : List SegmentData) (items : List Item) → AllZip (HoldsFiles files c) ss ds → AreHeld D files (map as_part ds) items
      → items ≡ all_live_entries ds
  same_all [] [] items all held = held
  same_all [] (d ∷ ds) items all held = absurd all
  same_all (s ∷ ss) [] items all held = absurd all
  same_all (s ∷ ss) (d ∷ ds) items all held =
      held.joined
      ∙ ap (λ (xs : List Item). xs ++ held.back_items) (same_one s d held.front_items all.0 held.front_holds)
      ∙ ap (λ (xs : List Item). live_entries d ++ xs) (same_all ss ds held.back_items all.1 held.back_holds)

  pub kept_docs : (T : Type 0) (docs : List Document) (parts : List LiveSegment) (items : List Item) → T → AllZip (IsOpened T files c) c.listed parts
      → HoldsIndex files c docs → AreHeld D files parts items → AreDocs c.next items docs
  kept_docs T docs parts items t opened holds held =
      let are : parts ≡ map as_part holds.parts =
      parts_held files c parts holds.parts (opened_heads T files c parts t opened) (opened_lives T files c parts t opened) holds.segments in
      subst (λ (xs : List Item). AreDocs c.next xs docs)
      (sym (same_all c.listed holds.parts items holds.segments (subst (λ (ps : List LiveSegment). AreHeld D files ps items) are held))) holds.are_docs

pub on_kept : {X : Type 0} (once : EntriesOnce) (T : Type 0) (D : ℕ) (files mid : Files) (c : CommitData) (parts : List LiveSegment) (old new : List (Entry D))
    (r : Result X PageFault) → T → mid ≡ files → c.dims ≡ D → AllZip (IsOpened T files c) c.listed parts → old ≡ []
    → (more : List Item) × (items_of new ≡ items_of old ++ more) × AreHeld D mid parts more
    → OnOk r ((docs : List Document) × HoldsIndex files c docs)
    → OnOk r ((docs : List Document) × HoldsIndex files c docs × AreDocs c.next (items_of new) docs)
on_kept once T D files mid c parts old new (Err e) t same dims opened none kept holds = tt
on_kept once T D files mid c parts old new (Ok x) t same dims opened none (more, is, held) (docs, holds) = (
  docs,
  holds,
  subst (λ (xs : List Item). AreDocs c.next xs docs) (sym (is ∙ ap (λ (es : List (Entry D)). items_of es ++ more) none))
      (kept_docs once D files c dims T docs parts more t opened holds (subst (λ (f : Files). AreHeld D f parts more) same held)),
)
