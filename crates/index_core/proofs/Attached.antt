-- A set that is attached anew loses none of those that are committed, and finds what the commit keeps.
use Rattle.std.proofs.Common.{◌≡◌, ℕ, true, cond, List, [], ◌∷◌, map, sym, ap, subst, inl, inr}
use Rattle.std.specs.List.{AllZip, Contains}
use Rattle.outer_io.specs.declared.file_name.FileName.TheVariants.{Commit, Live, Segment}
use Rattle.outer_io.specs.Files.{Files, bytes_of}
use Rattle.live_bits.specs.LiveSet.{LiveSet, is_live}
use Rattle.documents.specs.Entries.{has_entry}
use Rattle.documents.proofs.Lists.{cons_cases, cons_head, cons_tail, nil_none}
use Rattle.commit_list.specs.declared.listed.Listed.{Listed}
use Rattle.commit_list.specs.Commits.{CommitData}
use Rattle.commit_list.specs.CommitFiles.{IsCommitFile}
use Rattle.commit_list.proofs.CommitPages.{one_file}
use Rattle.segment_file.specs.Segments.{IsSegment}
use Rattle.segment_file.proofs.LiveLemmas.{one_live_set}
use Rattle.stored_index.specs.Stored.{HasLive, HaveLive}
use Rattle.stored_index.proofs.Pairwise.{partner_of}
use Rattle.segment_view.specs.LiveSegments.{LiveSegment, ids_of, lives_of}
use Rattle.segment_set.specs.Sets.{SetData, is_live_in}
use Rattle.segment_set.specs.Kept.{IsAsCommitted}
use Rattle.segment_set.specs.Losing.{HasNoEntry}
use Rattle.segment_set.proofs.Needed.{found_any}
use Rattle.index_core.specs.KeptLive.{FindsKept, IsKeptLive, IsKeptWithout}
use Rattle.index_core.proofs.Guarding.{cons_first, cons_rest}

-- ---- the lines of a commit and the segments that it lists

-- the line is of the segment, and its file of live bits holds just what is live in this
abbrev IsLineLive : Files → Listed → LiveSegment → Type 0
IsLineLive files l p = (l.segment ≡ p.head.id) × HasLive files l p.live

lines_live : (files : Files) (listed : List Listed) (parts : List LiveSegment) → ids_of parts ≡ map (λ l. l.segment) listed
    → AllZip (HasLive files) listed (lives_of parts) → AllZip (IsLineLive files) listed parts
lines_live files [] [] ids lives = tt
lines_live files [] (p ∷ ps) ids lives = absurd lives
lines_live files (l ∷ ls) [] ids lives = absurd lives
lines_live files (l ∷ ls) (p ∷ ps) ids lives = ((sym (cons_first ids), lives.0), lines_live files ls ps (cons_rest ids) lives.1)

-- each line has its segment
part_of : (files : Files) (listed : List Listed) (parts : List LiveSegment) → AllZip (IsLineLive files) listed parts → (l : Listed) → Contains listed l
    → (p : LiveSegment) × Contains parts p × IsLineLive files l p
part_of files [] parts all l h = nil_none l _ h
part_of files (k ∷ ks) [] all l h = absurd all
part_of files (k ∷ ks) (p ∷ ps) all l h = elim (cons_cases k ks l h) [
  | inl here ↦ (p, cons_head p ps, subst (λ (z : Listed). IsLineLive files z p) here all.0)
  | inr later ↦ let found = part_of files ks ps all.1 l later in (found.0, cons_tail p ps found.0 found.1, found.2)
]

-- ---- what the commit keeps

-- the commit lists the segments of the set, by whose files of live bits they are live
pub finds_kept : (D : ℕ) (files : Files) (t : SetData) (c : CommitData) → c.dims ≡ D → IsCommitFile (bytes_of (files Commit)) c → IsAsCommitted t c
    → HaveLive files c (lives_of t.parts) → FindsKept D files t
finds_kept D files t c dims says same lives = record { live = here; lost = lost }
  where
    all : AllZip (IsLineLive files) c.listed t.parts
    all = lines_live files c.listed t.parts same.ids lives

    here : (number : ℕ) → IsKeptLive files number → is_live_in t number ≡ true
    here number h =
        let one : h.commit ≡ c = one_file (bytes_of (files Commit)) h.commit c h.says says in
        let found = part_of files c.listed t.parts all h.listed (subst (λ (d : CommitData). Contains d.listed h.listed) one h.there) in
        let set : h.live ≡ found.0.live =
        one_live_set h.listed.segment h.listed.generation (bytes_of (files (Live h.listed.segment h.listed.generation))) h.live found.0.live h.file
        found.2.1 in
        ap (λ b. cond b true (has_entry number t.buffer))
        (found_any (λ (p : LiveSegment). is_live p.live number) t.parts found.0 found.1 (subst (λ (s : LiveSet). is_live s number ≡ true) set h.is))

    lost : (number : ℕ) → HasNoEntry D files t.parts number → IsKeptWithout files number
    lost number h =
        let line = partner_of (IsLineLive files) c.listed t.parts all h.part h.there in
        record {
          kept = record {
            commit = c;
            says = says;
            listed = line.0;
            there = line.1;
            live = h.part.live;
            file = line.2.1;
            is = h.live;
          };
          head = h.part.head;
          id = sym line.2.0;
          items = h.items;
          held = subst (λ n. IsSegment n (bytes_of (files (Segment h.part.head.id))) h.part.head h.items) (sym dims) h.held;
          none = h.none;
        }
