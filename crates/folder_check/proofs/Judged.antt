-- What was found shows that the files hold an index, or that no state is stored.
use Rattle.std.proofs.Common.{◌≡◌, ℕ, ◌≤◌, ◌<◌, ◌^◌, ◌⊎◌, List, [], ◌∷◌, length, sym, subst, ◌∙◌, inl, inr, arith, None, Option}
use Rattle.std.specs.Prelude.{IfNone, IfSome}
use Rattle.std.specs.List.{All, AllZip, Contains}
use Rattle.std.proofs.lemmas.Bool.{cases_lt}
use Rattle.std.proofs.lemmas.List.Elements.{All-contains, All-contains_itself, All-weaker}
use Rattle.std.proofs.lemmas.List.Sums.{count_by-le-length, length-filter, sum_by-le}
use Rattle.outer_io.specs.declared.file_name.FileName.TheVariants.{Commit, Segment}
use Rattle.outer_io.specs.Files.{Files, bytes_of}
use Rattle.point_codec.specs.Points.{Item}
use Rattle.leaf_codec.specs.LeafOrder.{NoneTwice}
use Rattle.live_bits.specs.LiveSet.{LiveSet, is_live}
use Rattle.documents.specs.Documents.{Document}
use Rattle.documents.specs.Entries.{MakeDocs, has_entry}
use Rattle.documents.proofs.Lists.{cons_cases, cons_head, cons_tail, in_map, nil_none, of_filter}
use Rattle.page_cache.specs.declared.faults.Damage.{Damage}
use Rattle.commit_list.specs.declared.listed.Listed.{Listed}
use Rattle.commit_list.specs.Commits.{CommitData, IsCommit, IsListed}
use Rattle.commit_list.specs.CommitFiles.{IsCommitFile}
use Rattle.segment_file.proofs.Counted.{segment_counted}
use Rattle.stored_index.specs.Segments.{SegmentData, live_entries, live_sets, places}
use Rattle.stored_index.specs.Stored.{HoldsIndex, IsUndefined}
use Rattle.stored_index.proofs.BySegment.{docs_of_each, each_of_docs}
use Rattle.stored_index.proofs.Damaged.{no_documents, no_entry}
use Rattle.stored_index.proofs.Pairwise.{partner_of}
use Rattle.stored_index.proofs.Parts.{EntriesOnce}
use Rattle.stored_index.proofs.Places.{some_place}
use Rattle.segment_view.specs.LiveSegments.{LiveSegment, lives_of}
use Rattle.document_checks.specs.Placed.{IsPlacedOnce}
use Rattle.document_checks.specs.Crowded.{AreFew, IsLeastCrowded}
use Rattle.document_checks.proofs.Once.{never_crowded, pairs_from}
use Rattle.index_opening.specs.Opened.{IsOpened}
use Rattle.folder_check.specs.declared.findings.Finding.{Finding}
use Rattle.folder_check.specs.Found.{AreFine, IsFinding, TooMany, Crowding, HasAll, IsMoreThanGiven, IsCrowding, IsLacking, IsWrong, Lacking, all_entries}
use Rattle.folder_check.proofs.Entries.{number_live, one_fails}
use Rattle.folder_check.proofs.Gathered.{HoldsBut, IsFoundIn, IsTalliedIn, all_held, all_tallied, entries_found, gathered, gathered_found}
use Rattle.folder_check.proofs.Gathered.{gathered_holds, gathered_lives}
use Rattle.folder_check.proofs.Pairs.{get_in, zip_at, zip_long, zip_over}

-- all that is known of what the files of a commit's segments hold before what was found is looked through
pub record AreGathered (files : Files) (c : CommitData) (held : List SegmentData) (findings : List Finding) : Type 0 where
  pub says : IsCommitFile (bytes_of (files Commit)) c
  pub but : AllZip (HoldsBut files c) c.listed held
  pub found : AllZip IsFoundIn held findings
  pub alone : (number : ℕ) → places number (live_sets held) ≤ 1
  pub below : (number : ℕ) → c.next ≤ number → places number (live_sets held) ≡ 0

commit_of : (c : CommitData) {bytes : List ℕ} → IsCommitFile bytes c → IsCommit c
commit_of c says = says.spells.commit

-- what was found of a segment
finding_at : (held : List SegmentData) (findings : List Finding) → AllZip IsTalliedIn held findings → (d : SegmentData) → Contains held d
    → (f : Finding) × Contains findings f × IsTalliedIn d f
finding_at [] fs all d h = nil_none d _ h
finding_at (e ∷ es) [] all d h = absurd all
finding_at (e ∷ es) (f ∷ fs) all d h = elim (cons_cases e es d h) [
  | inl here ↦ (f, cons_head f fs, subst (λ (x : SegmentData). IsTalliedIn x f) here all.0)
  | inr later ↦ let rest = finding_at es fs all.1 d later in (rest.0, cons_tail f fs rest.0 rest.1, rest.2)
]

-- each finding is that of a segment
segment_at : (held : List SegmentData) (findings : List Finding) → AllZip IsTalliedIn held findings → (f : Finding) → Contains findings f
    → (d : SegmentData) × Contains held d × IsTalliedIn d f
segment_at held findings all f h = partner_of IsTalliedIn held findings all f h

module _ (files : Files) (c : CommitData) (held : List SegmentData) (findings : List Finding) (g : AreGathered files c held findings) where
  -- ---- nothing is wrong

  live_below : (d : SegmentData) → Contains held d → (x : Item) → Contains (live_entries d) x → x.doc < c.next
  live_below d there x h = by (cases_lt x.doc c.next)
    where
      by : (x.doc < c.next) ⊎ (c.next ≤ x.doc) → x.doc < c.next
      by (inl lt) = lt
      by (inr le) =
          let live = (of_filter (λ (y : Item). is_live d.live y.doc) d.entries x h).1 in
          absurd (omega (arith, g.below x.doc le, some_place x.doc (live_sets held) d.live (in_map (λ (e : SegmentData). e.live) held d there) live))

  tallied : AllZip HasAll c.listed findings → AllZip IsTalliedIn held findings
  tallied all = all_tallied files c c.listed held findings g.but g.found all

  makes : AllZip HasAll c.listed findings → All (λ f. f.crowded ≡ None) findings → (d : SegmentData) → Contains held d → MakeDocs c.next (live_entries d)
  makes all none d there =
      let f = finding_at held findings (tallied all) d there in
      let few : NoneTwice (live_entries d) × AreFew (live_entries d) =
      subst (λ (o : Option ℕ). IfNone o (NoneTwice (live_entries d) × AreFew (live_entries d)))
      (All-contains (λ (h : Finding). h.crowded ≡ None) findings f.0 none f.1) f.2.none in
      record {
        below =
            All-weaker (Contains (live_entries d)) (λ (x : Item). x.doc < c.next) (live_below d there) (live_entries d) (All-contains_itself (live_entries d));
        few = few.1;
        once = pairs_from (live_entries d) few.0;
      }

  pub fine_holds : AreFine c.listed c.points_given findings → (docs : List Document) × HoldsIndex files c docs
  fine_holds fine =
      let made = docs_of_each c.next held g.alone
      (All-weaker (Contains held) (λ (d : SegmentData). MakeDocs c.next (live_entries d)) (makes fine.all fine.none) held (All-contains_itself held)) in (
        made.0,
        record {
          commit = g.says;
          parts = held;
          segments = all_held files c c.listed held findings g.but g.found fine.all;
          alone = g.alone;
          are_docs = made.1;
          few = subst (λ n. n ≤ c.points_given) (entries_found held findings (tallied fine.all)) fine.few;
        },
      )

  -- ---- how many entries there may be

  live_short : (s : Listed) (d : SegmentData) → HoldsBut files c s d → s.entries ≤ 16777216 → length (live_entries d) ≤ 16777216
  live_short s d h most =
      let long = segment_counted c.dims (bytes_of (files (Segment s.segment))) d.head d.entries h.segment in
      omega (
        arith,
        long,
        h.count,
        most,
        length-filter (λ (x : Item). is_live d.live x.doc) d.entries,
        count_by-le-length (λ (x : Item). is_live d.live x.doc) d.entries,
      )

  finding_short : AllZip HasAll c.listed findings → (f : Finding) → Contains findings f → f.entries ≤ 16777216
  finding_short all f h =
      let at = segment_at held findings (tallied all) f h in
      let part = partner_of (HoldsBut files c) c.listed held g.but at.0 at.1 in
      let listed = All-contains (IsListed c.next_segment) c.listed part.0 (commit_of c g.says).segments.each part.1 in
      omega (arith, at.2.entries, live_short part.0 at.0 part.2 listed.most)

  pub entries_fit : AllZip HasAll c.listed findings → all_entries findings < 2 ^ 64
  entries_fit all =
      let sum = sum_by-le (λ (f : Finding). f.entries) 16777216 findings
      (All-weaker (Contains findings) (λ (f : Finding). f.entries ≤ 16777216) (finding_short all) findings (All-contains_itself findings)) in
      let long = zip_long IsFoundIn held findings g.found in
      let listed = zip_long (HoldsBut files c) c.listed held g.but in
      let few = (commit_of c g.says).ranges.few in
      omega (arith, sum, long, listed, few)

  -- ---- something is

  module _ (once : EntriesOnce) where
    lacking_undefined : (d : Damage) → IsLacking c.listed findings d → IsUndefined files
    lacking_undefined d l =
        let at = zip_at (λ s f. (e : SegmentData) × HoldsBut files c s e × IsFoundIn e f) c.listed findings l.place l.segment l.finding
        (zip_over (HoldsBut files c) IsFoundIn c.listed held findings g.but g.found) l.listed_there l.found_there in
        let e : SegmentData = at.0 in
        let bare = one_fails (λ n. has_entry n e.entries) e.live.live (λ all. l.apart (sym at.1.live_count ∙ sym all ∙ sym at.2.found)) in
        no_entry once files c l.segment e.head e.entries e.live bare.0 g.says (get_in c.listed l.place l.segment l.listed_there) at.1.id at.1.segment at.1.live
        (number_live e.live bare.0 bare.1) bare.2

    -- a segment in which a number is crowded has no documents
    crowding_undefined : AllZip HasAll c.listed findings → (d : Damage) → IsCrowding findings d → IsUndefined files
    crowding_undefined all d (number, tells, least) =
        let at = segment_at held findings (tallied all) least.finding least.there in
        let e : SegmentData = at.0 in
        let crowded : IsLeastCrowded number (live_entries e) = subst (λ (o : Option ℕ). IfSome o (λ n. IsLeastCrowded n (live_entries e))) least.is at.2.some in
        no_documents once files c held g.says (all_held files c c.listed held findings g.but g.found all)
        (λ docs are few. never_crowded c.next number (live_entries e) crowded.crowded
        (All-contains (λ (d : SegmentData). MakeDocs c.next (live_entries d)) held e (each_of_docs c.next held docs are) at.1))

    too_many_undefined : AllZip HasAll c.listed findings → (d : Damage) → IsMoreThanGiven c.points_given findings d → IsUndefined files
    too_many_undefined all d b =
        no_documents once files c held g.says (all_held files c c.listed held findings g.but g.found all)
        (λ docs are few. omega (arith, few, b.more, b.is (entries_fit all), entries_found held findings (tallied all)))

    pub wrong_undefined : (d : Damage) → IsWrong c.listed c.points_given findings d → IsUndefined files
    wrong_undefined d (Lacking l) = lacking_undefined d l
    wrong_undefined d (Crowding all crowd) = crowding_undefined all d crowd
    wrong_undefined d (TooMany all none b) = too_many_undefined all d b

-- it is known where all segments are opened and their leaves are read
pub gather_all : (T : Type 0) (D : ℕ) (files : Files) (c : CommitData) (parts : List LiveSegment) (findings : List Finding) → T → c.dims ≡ D
    → IsCommitFile (bytes_of (files Commit)) c
    → AllZip (IsOpened T files c) c.listed parts → ((number : ℕ) → IsPlacedOnce c.next (lives_of parts) number)
    → (all : AllZip (IsFinding D files) parts findings)
    → AreGathered files c (gathered D files parts findings all) findings
gather_all T D files c parts findings t dims says opened placed all = record {
  says = says;
  but = gathered_holds T D files c c.listed parts findings all t dims opened;
  found = gathered_found D files parts findings all;
  alone = λ number. subst (λ (ss : List LiveSet). places number ss ≤ 1) (sym lives) (placed number).0;
  below = λ number le. subst (λ (ss : List LiveSet). places number ss ≡ 0) (sym lives) ((placed number).1 le);
}
  where
    lives : live_sets (gathered D files parts findings all) ≡ lives_of parts
    lives = gathered_lives D files parts findings all
