-- What the last commit's live files cover: it stays so through calls, and as many live numbers are the same ones.
use Rattle.std.proofs.Common.{◌≡◌, ℕ, true, List, length, Option, sym, ap, subst, ◌∙◌, ◌⊎◌, inl, inr, ⊎_elim}
use Rattle.std.specs.List.{AllZip, Contains}
use Rattle.std.proofs.lemmas.Bool.{both_ways}
use Rattle.std.proofs.lemmas.List.Elements.{All-contains_itself}
use Rattle.outer_io.specs.declared.file_name.FileName.TheVariants.{Live, Segment}
use Rattle.outer_io.specs.Files.{Files, bytes_of}
use Rattle.live_bits.specs.LiveSet.{IsLiveSet, LiveSet}
use Rattle.commit_list.specs.declared.listed.Listed.{Listed}
use Rattle.segment_file.specs.Heads.{Head}
use Rattle.segment_file.specs.LiveFiles.{IsLiveFile}
use Rattle.segment_file.proofs.LiveReads.{set_is}
use Rattle.segment_view.specs.LiveSegments.{LiveSegment}
use Rattle.file_names.specs.Names.{NameList, is_named}
use Rattle.segment_set.specs.Sets.{SetData}
use Rattle.segment_set.specs.Kept.{Follows, IsSubset, KeepsNamed}
use Rattle.segment_set.specs.Saved.{AreCovering, CoversPart, HasNoLine, IsAnew, IsLineOf, IsSaved}
use Rattle.segment_set.proofs.Carried.{within_then}
use Rattle.segment_set.proofs.Numbers.{same_live}
use Rattle.segment_set.proofs.SavedSegments.{zip_beside}

-- ---- a live file

pub live_file_set : (segment generation : ℕ) (bytes : List ℕ) (live : LiveSet) → IsLiveFile segment generation bytes live → IsLiveSet live
unfolding IsLiveFile
live_file_set segment generation bytes live file = set_is segment generation live file.body file.set

-- ---- through calls on the set

pub part_after : (f g : Files) (l : Listed) (p q : LiveSegment) → g (Live l.segment l.generation) ≡ f (Live l.segment l.generation) → p.head ≡ q.head
    → IsSubset p.live q.live → CoversPart f l q → CoversPart g l p
part_after f g l p q same head within covers = record {
  entries = covers.entries ∙ ap (λ (h : Head). h.entries) (sym head);
  live = covers.live;
  file = subst (λ (b : Option (List ℕ)). IsLiveFile l.segment l.generation (bytes_of b) covers.live) (sym same) covers.file;
  count = covers.count;
  covers = within_then p.live q.live covers.live within covers.covers;
}

pub covering_after : (told : Type 0) (f g : Files) (last : List Listed) (s t : SetData) → told → KeepsNamed told s.names t.names f g
    → Follows s.names s.parts t.parts → AreCovering f last s → AreCovering g last t
covering_after told f g last s t is_told keeps follows covering = record {
  named = λ l inside.
      let names = covering.named l inside in (keeps.more (Segment l.segment) names.0, keeps.more (Live l.segment l.generation) names.1);
  covers = λ l p inside there same. ⊎_elim
      (λ fresh. absurd (both_ways (is_named s.names.names (Segment p.head.id)) fresh
      (subst (λ n. is_named s.names.names (Segment n) ≡ true) same (covering.named l inside).0)))
      (λ (q, here, head, within). part_after f g l p q (keeps.files is_told (Live l.segment l.generation) (covering.named l inside).1) head within
      (covering.covers l q inside here (same ∙ ap (λ (h : Head). h.id) head)))
      (follows.each p there);
}

-- ---- what is listed

-- it is listed with the part's entries and live numbers, and its file of live bits holds just these
pub record IsListedAs (files : Files) (l : Listed) (p : LiveSegment) : Type 0 where
  pub segment : l.segment ≡ p.head.id
  pub entries : l.entries ≡ p.head.entries
  pub count : l.live ≡ length p.live.live
  pub file : IsLiveFile l.segment l.generation (bytes_of (files (Live l.segment l.generation))) p.live

-- the file that a line names which covers as many live numbers as there are holds just these
file_kept : (files : Files) (l : Listed) (p : LiveSegment) → IsLiveSet p.live → l.live ≡ length p.live.live → CoversPart files l p
    → IsLiveFile l.segment l.generation (bytes_of (files (Live l.segment l.generation))) p.live
file_kept files l p set count covers =
    subst (IsLiveFile l.segment l.generation (bytes_of (files (Live l.segment l.generation)))) (sym same) covers.file
  where
    same : p.live ≡ covers.live
    same = same_live p.live covers.live set (live_file_set l.segment l.generation _ covers.live covers.file) covers.covers (sym count ∙ sym covers.count)

file_saved : (told : Type 0) (last : List Listed) (s : SetData) (after : NameList) (f g : Files) (l : Listed) (p : LiveSegment) → told
    → KeepsNamed told s.names after f g → AreCovering f last s → Contains s.parts p → IsSaved told last s.names after g l p
    → IsLiveFile l.segment l.generation (bytes_of (g (Live l.segment l.generation))) p.live
file_saved told last s after f g l p is_told keeps covering there saved = by saved.how
  where
    by : (Contains last l × IsLineOf s.names l p) ⊎ (HasNoLine s.names last p × IsAnew told s.names g l p.live)
        → IsLiveFile l.segment l.generation (bytes_of (g (Live l.segment l.generation))) p.live
    by (inl h) = subst (λ (b : Option (List ℕ)). IsLiveFile l.segment l.generation (bytes_of b) p.live)
        (sym (keeps.files is_told (Live l.segment l.generation) h.1.named))
        (file_kept f l p saved.set saved.line.live (covering.covers l p h.0 there saved.line.segment))
    by (inr h) = h.1.written is_told

pub all_listed : (told : Type 0) (last : List Listed) (s : SetData) (after : NameList) (f g : Files) (listed : List Listed) → told
    → KeepsNamed told s.names after f g → AreCovering f last s → AllZip (IsSaved told last s.names after g) listed s.parts
    → AllZip (IsListedAs g) listed s.parts
all_listed told last s after f g listed is_told keeps covering all =
    zip_beside (IsSaved told last s.names after g) (IsListedAs g) (Contains s.parts) listed s.parts
    (λ l p saved there. record {
      segment = saved.line.segment;
      entries = saved.line.entries;
      count = saved.line.live;
      file = file_saved told last s after f g l p is_told keeps covering there saved;
    })
    (All-contains_itself s.parts) all
