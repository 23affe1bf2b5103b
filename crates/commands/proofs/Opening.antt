-- What can be opened of a folder, by what was read of it.
use Rattle.std.proofs.Common.{◌≡◌, ℕ, List, map, None, Some, sym, subst, inl, inr}
use Rattle.std.proofs.Math.Logic.{∥∥₁_map}
use Rattle.std.proofs.lemmas.Grind.{merely}
use Rattle.std.proofs.lemmas.List.Elements.{All-contains}
use Rattle.std.specs.List.{All, Contains}
use Rattle.outer_io.specs.declared.file_name.FileName.TheVariants.{Commit, Segment}
use Rattle.outer_io.specs.Files.{Files, bytes_of}
use Rattle.live_bits.specs.LiveSet.{LiveSet}
use Rattle.documents.specs.Documents.{Document}
use Rattle.documents.proofs.Lists.{in_map, of_map}
use Rattle.commit_list.specs.declared.listed.Listed.{Listed}
use Rattle.commit_list.specs.Commits.{CommitData}
use Rattle.commit_list.specs.CommitFiles.{IsCommitFile}
use Rattle.segment_file.specs.Heads.{Head}
use Rattle.segment_file.specs.Segments.{IsHeadOf}
use Rattle.index_model.specs.State.{State}
use Rattle.stored_index.specs.Stored.{HasHead, HasLive, HaveHeads, HaveLive, HoldsIndex, IsStored}
use Rattle.stored_index.specs.Segments.{live_sets}
use Rattle.stored_index.proofs.Pairwise.{held_of}
use Rattle.stored_index.proofs.Parts.{head_in, held_heads, held_sets}
use Rattle.segment_view.specs.LiveSegments.{LiveSegment, ids_of}
use Rattle.index_opening.specs.Evidence.{IsHeadIn}
use Rattle.commands.specs.Opens.{Opens, OpensListed, OpensOrStays, Reads}

-- the segments that the commit lists have these heads and these live bits
pub opens_all : (files : Files) (c : CommitData) (heads : List Head) (sets : List LiveSet) → IsCommitFile (bytes_of (files Commit)) c → HaveHeads files c heads
    → HaveLive files c sets → Opens files
opens_all files c heads sets says have live = inr (record {
  commit = c;
  says = says;
  each = λ s there. record {
    head = merely (held_of (HasHead c.dims files) c.listed heads have s there);
    live = held_of (HasLive files) c.listed sets live s there;
  };
})

-- a folder that holds an index, or stores a state
pub opens_held : (files : Files) (c : CommitData) (docs : List Document) → HoldsIndex files c docs → Opens files
opens_held files c docs h =
    opens_all files c (map head_in h.parts) (live_sets h.parts) h.commit (held_heads files c h.parts h.segments) (held_sets files c h.parts h.segments)

pub opens_stored : (files : Files) (state : State) → IsStored files state → Opens files
opens_stored files None none = inl none
opens_stored files (Some i) held = opens_held files held.commit i.docs held.holds

-- those of which each part has the head that its file has, and each line of the commit a part
pub opens_parts : (files : Files) (c : CommitData) (parts : List LiveSegment) → IsCommitFile (bytes_of (files Commit)) c
    → ids_of parts ≡ map (λ (l : Listed). l.segment) c.listed → All (λ (p : LiveSegment). ∥ IsHeadIn files c.dims p.head ∥₁) parts
    → ((l : Listed) (p : LiveSegment) → Contains c.listed l → Contains parts p → l.segment ≡ p.head.id → (live : LiveSet) × HasLive files l live) → Opens files
opens_parts files c parts says ids heads lives = inr (record { commit = c; says = says; each = each })
  where
    each : (s : Listed) → Contains c.listed s → OpensListed files c s
    each s there =
        let part = of_map (λ (p : LiveSegment). p.head.id) parts s.segment
        (subst (λ (ns : List ℕ). Contains ns s.segment) (sym ids) (in_map (λ (l : Listed). l.segment) c.listed s there)) in
        record {
          head = ∥∥₁_map (All-contains (λ (p : LiveSegment). ∥ IsHeadIn files c.dims p.head ∥₁) parts part.0 heads part.1)
              (λ h. (part.0.head, record { id = part.2; is = subst (λ (n : ℕ). IsHeadOf c.dims (bytes_of (files (Segment n))) part.0.head) part.2 h }));
          live = lives s part.0 there part.1 (sym part.2);
        }

-- ---- before and after

-- the commit was read, so it is not damaged
pub reads_some : {P : Type 0} (files : Files) (c : CommitData) → IsCommitFile (bytes_of (files Commit)) c → (Reads files → ⊥) → P
reads_some files c says bad = absurd (bad (inr (c, says)))

pub reads_none : {P : Type 0} (files : Files) → files Commit ≡ None → (Reads files → ⊥) → P
reads_none files none bad = absurd (bad (inl none))

-- nothing was done, and nothing is answered
pub stays_same : (answers : Type 0) (files : Files) → (answers → ⊥) → OpensOrStays answers files files
stays_same answers files never = record { opens = λ a. absurd (never a); stays = λ bad i. files }

-- what answers less opens as much
pub opens_less : (a b : Type 0) (old new : Files) → (b → a) → OpensOrStays a old new → OpensOrStays b old new
opens_less a b old new less h = record { opens = λ x. h.opens (less x); stays = h.stays }
