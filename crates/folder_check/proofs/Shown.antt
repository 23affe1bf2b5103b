-- What a damage that was found shows.
use Rattle.std.proofs.Common.{◌≢◌, ℕ, List, Result, refl, sym, subst, ◌∙◌, Option, inl, arith}
use Rattle.std.specs.Prelude.{IfSome}
use Rattle.std.specs.List.{AllZip}
use Rattle.std.proofs.lemmas.Grind.{merely}
use Rattle.outer_io.specs.declared.file_name.FileName.TheVariants.{Commit, Live, Segment}
use Rattle.outer_io.specs.Files.{Files, bytes_of}
use Rattle.page_cache.specs.declared.faults.Damage.{Damage}
use Rattle.page_cache.specs.declared.faults.PageFault.{PageFault}
use Rattle.page_cache.specs.Evidence.{IsShown, OnDamage}
use Rattle.page_cache.proofs.Damages.{on_damage_weaker}
use Rattle.commit_list.specs.declared.listed.Listed.{Listed}
use Rattle.commit_list.specs.Commits.{CommitData}
use Rattle.segment_file.specs.Heads.{Head, HasRanges}
use Rattle.segment_file.specs.Segments.{IsSegment}
use Rattle.stored_index.specs.Segments.{SegmentData, live_entries}
use Rattle.stored_index.proofs.Pairwise.{partner_of}
use Rattle.segment_view.specs.LiveSegments.{live_segment}
use Rattle.document_checks.specs.Crowded.{IsLeastCrowded}
use Rattle.index_opening.specs.Evidence.{HasNoBody, HoldsEntries, InSegment, IsEvident, IsHeadIn, IsTrueOf, IsOfEntries, LacksLeaf}
use Rattle.index_opening.specs.Evidence.{InCommit, InLive, IsFilePair, IsFound, NamesLooked}
use Rattle.folder_check.specs.declared.findings.Finding.{Finding}
use Rattle.folder_check.specs.Found.{TooMany, Crowding, HasAll, IsMoreThanGiven, IsCrowding, IsLacking, IsWrong, Lacking}
use Rattle.folder_check.proofs.Gathered.{HoldsBut, IsFoundIn, IsTalliedIn, all_held, all_tallied, entries_found}
use Rattle.folder_check.proofs.Judged.{AreGathered, entries_fit}
use Rattle.folder_check.proofs.Pairs.{get_in, zip_at, zip_over}

wrong_shows : (P : ℕ → Head → Type 0) (listed : List Listed) (points_given : ℕ) (findings : List Finding) (d : Damage) → IsWrong listed points_given findings d
    → IsShown (LacksLeaf P) HasNoBody d
wrong_shows P listed points_given findings d (Lacking l) = subst (IsShown (LacksLeaf P) HasNoBody) (sym l.tells) l.apart
wrong_shows P listed points_given findings d (Crowding all (number, tells, least)) = subst (IsShown (LacksLeaf P) HasNoBody) (sym tells) tt
wrong_shows P listed points_given findings d (TooMany all none b) =
    subst (IsShown (LacksLeaf P) HasNoBody) (sym b.tells) (let more = b.more in let apart : points_given ≢ b.found = omega arith in apart)

module _ (files : Files) (c : CommitData) (held : List SegmentData) (findings : List Finding) (g : AreGathered files c held findings) where
  lacking_pair : (d : Damage) (l : IsLacking c.listed findings d)
      → IsFilePair files (Live l.segment.segment l.segment.generation) l.segment.live l.finding.found
  lacking_pair d l =
      let at = zip_at (λ s f. (e : SegmentData) × HoldsBut files c s e × IsFoundIn e f) c.listed findings l.place l.segment l.finding
      (zip_over (HoldsBut files c) IsFoundIn c.listed held findings g.but g.found) l.listed_there l.found_there in
      let by : HoldsEntries files c l.segment at.0 = record { id = at.1.id; segment = at.1.segment; live = at.1.live } in
      InLive c g.says l.segment (get_in c.listed l.place l.segment l.listed_there) at.0 by refl (sym at.1.live_count) at.2.found

  tallied : AllZip HasAll c.listed findings → AllZip IsTalliedIn held findings
  tallied all = all_tallied files c c.listed held findings g.but g.found all

  crowding_carried : AllZip HasAll c.listed findings → (d : Damage) → IsCrowding findings d → IsTrueOf (λ file. ⊥) (IsOfEntries files) files d
  crowding_carried all d (number, tells, least) =
      let at = partner_of IsTalliedIn held findings (tallied all) least.finding least.there in
      let e : SegmentData = at.0 in
      let part = partner_of (HoldsBut files c) c.listed held g.but e at.1 in
      let s : Listed = part.0 in
      let crowded : IsLeastCrowded number (live_entries e) = subst (λ (o : Option ℕ). IfSome o (λ n. IsLeastCrowded n (live_entries e))) least.is at.2.some in
      subst (IsTrueOf (λ file. ⊥) (IsOfEntries files) files) (sym tells)
      (InSegment c g.says s part.1 (live_segment e.head e.live) part.2.id part.2.live (record {
        items = e.entries;
        held = subst (λ id. IsSegment c.dims (bytes_of (files (Segment id))) e.head e.entries) (sym part.2.id) part.2.segment;
        crowded = crowded.crowded;
      }))

  given_pair : AllZip HasAll c.listed findings → (d : Damage) (b : IsMoreThanGiven c.points_given findings d) → IsFilePair files Commit c.points_given b.found
  given_pair all d b =
      InCommit c g.says held (all_held files c c.listed held findings g.but g.found all) refl refl
      (b.is (entries_fit files c held findings g all) ∙ entries_found held findings (tallied all))

  wrong_carried : (d : Damage) → IsWrong c.listed c.points_given findings d → IsTrueOf (λ file. ⊥) (IsOfEntries files) files d
  wrong_carried d (Lacking l) = subst (IsTrueOf (λ file. ⊥) (IsOfEntries files) files) (sym l.tells) (inl (lacking_pair d l))
  wrong_carried d (Crowding all crowd) = crowding_carried all d crowd
  wrong_carried d (TooMany all none b) = subst (IsTrueOf (λ file. ⊥) (IsOfEntries files) files) (sym b.tells) (inl (given_pair all d b))

  wrong_named : (d : Damage) → IsWrong c.listed c.points_given findings d → NamesLooked files d
  wrong_named d (Lacking l) = subst (NamesLooked files) (sym l.tells) (lacking_pair d l)
  wrong_named d (Crowding all (number, tells, least)) = subst (NamesLooked files) (sym tells) tt
  wrong_named d (TooMany all none b) = subst (NamesLooked files) (sym b.tells) (given_pair all d b)

wrong_evident : (T : Type 0) (files : Files) (c : CommitData) (findings : List Finding) (d : Damage)
    → (T → (held : List SegmentData) × AreGathered files c held findings) → IsWrong c.listed c.points_given findings d → IsEvident T files d
wrong_evident T files c findings d know wrong = record {
  shows = merely (wrong_shows HasRanges c.listed c.points_given findings d wrong);
  of_files = λ t. let (held, g) = know t in record {
    shows = merely (wrong_shows (IsHeadIn files) c.listed c.points_given findings d wrong);
    carries = merely (wrong_carried files c held findings g d wrong);
  };
}

pub on_wrong_evident : {X : Type 0} (T : Type 0) (files : Files) (c : CommitData) (findings : List Finding) (r : Result X PageFault)
    → (T → (held : List SegmentData) × AreGathered files c held findings)
    → OnDamage r (IsWrong c.listed c.points_given findings) → OnDamage r (IsEvident T files)
on_wrong_evident T files c findings r know =
    on_damage_weaker r (IsWrong c.listed c.points_given findings) (IsEvident T files) (λ d h. wrong_evident T files c findings d know h)

pub on_wrong_found : {X : Type 0} (files : Files) (c : CommitData) (findings : List Finding) (r : Result X PageFault)
    → (held : List SegmentData) × AreGathered files c held findings
    → OnDamage r (IsWrong c.listed c.points_given findings) → OnDamage r (IsFound files)
on_wrong_found files c findings r (held, g) =
    on_damage_weaker r (IsWrong c.listed c.points_given findings) (IsFound files) (λ d wrong. merely (wrong_named files c held findings g d wrong))
