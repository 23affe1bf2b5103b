-- The segments of an index that files hold, as queries have them, and what they hold then.
use Rattle.std.proofs.Common.{◌≡◌, ℕ, true, IsTrue, List, get_or, map, refl, sym, ap, subst, ◌∙◌, All}
use Rattle.std.specs.List.{AllZip, Contains}
use Rattle.std.proofs.lemmas.List.Elements.{All-contains_itself, All-map}
use Rattle.outer_io.specs.declared.file_name.FileName.TheVariants.{Segment}
use Rattle.outer_io.specs.Files.{Files, bytes_of}
use Rattle.point_codec.specs.Points.{Item}
use Rattle.documents.specs.Documents.{Document}
use Rattle.documents.specs.Entries.{AreDocs, has_entry}
use Rattle.commit_list.specs.declared.listed.Listed.{Listed}
use Rattle.commit_list.specs.Commits.{CommitData}
use Rattle.segment_file.specs.Segments.{IsSegment}
use Rattle.stored_index.specs.Segments.{SegmentData, entries_at}
use Rattle.stored_index.specs.Stored.{HoldsFiles, HoldsIndex}
use Rattle.stored_index.proofs.Pairwise.{partner_of}
use Rattle.stored_index.proofs.Parts.{contents}
use Rattle.segment_view.specs.LiveSegments.{AreRead, Contents, IsRead, LiveSegment, live_in_parts}
use Rattle.index_opening.specs.Opened.{IsOpened}
use Rattle.index_opening.proofs.Listed.{as_part, opened_heads, opened_lives, parts_held, entries_map}
use Rattle.batch_run.specs.Held.{HoldsDocs}

module _ (D : ℕ) (files : Files) (c : CommitData) (docs : List Document) (dims : c.dims ≡ D) (h : HoldsIndex files c docs) where
  abbrev held_contents : Contents
  held_contents = entries_at h.parts

  by_id : All (λ (d : SegmentData). held_contents d.head.id ≡ d.entries) h.parts
  by_id = contents files c h.parts h.commit.spells.commit.segments.rising h.segments

  one : (d : SegmentData) → (l : Listed) × Contains c.listed l × HoldsFiles files c l d → held_contents d.head.id ≡ d.entries
      → IsRead D files held_contents (as_part d)
  one d (l, there, held) entries_are = record {
    held = subst (λ (xs : List Item). IsSegment D (bytes_of (files (Segment d.head.id))) d.head xs) (sym entries_are)
        (subst (λ n. IsSegment n (bytes_of (files (Segment d.head.id))) d.head d.entries) dims
        (subst (λ n. IsSegment c.dims (bytes_of (files (Segment n))) d.head d.entries) (sym held.id) held.segment));
    found = λ number live. ap (λ (xs : List Item). has_entry number xs) entries_are ∙ held.found number live;
  }

  held_read : AreRead D files held_contents (map as_part h.parts)
  held_read = All-map (IsRead D files held_contents) as_part h.parts
      (λ k d lt. one (get_or h.parts k d)
      (partner_of (HoldsFiles files c) c.listed h.parts h.segments (get_or h.parts k d) (All-contains_itself h.parts k d lt))
      (by_id k d lt))

  held_docs : AreDocs c.next (live_in_parts held_contents (map as_part h.parts)) docs
  held_docs = subst (λ (xs : List Item). AreDocs c.next xs docs) (sym (entries_map held_contents h.parts by_id)) h.are_docs

-- segments that were opened hold, with files that are the same still, the documents of the index
pub opened_hold : (D : ℕ) (start mid now : Files) (c : CommitData) (parts : List LiveSegment) (docs : List Document) → c.dims ≡ D → mid ≡ start → now ≡ mid
    → AllZip (IsOpened (IsTrue true) mid c) c.listed parts → HoldsIndex start c docs → HoldsDocs D now parts docs
opened_hold D start mid now c parts docs dims first second opened h =
    subst (λ (f : Files). HoldsDocs D f parts docs) (sym second) (record {
      contents = held_contents D mid c docs dims here;
      read = subst (AreRead D mid (held_contents D mid c docs dims here)) (sym same) (held_read D mid c docs dims here);
      next = c.next;
      are_docs = subst (λ (ps : List LiveSegment). AreDocs c.next (live_in_parts (held_contents D mid c docs dims here) ps) docs) (sym same)
          (held_docs D mid c docs dims here);
    })
  where
    here : HoldsIndex mid c docs
    here = subst (λ (f : Files). HoldsIndex f c docs) (sym first) h

    same : parts ≡ map as_part here.parts
    same = parts_held mid c parts here.parts (opened_heads (IsTrue true) mid c parts refl opened)
        (opened_lives (IsTrue true) mid c parts refl opened) here.segments
