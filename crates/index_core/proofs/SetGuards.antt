-- The set of a commit that the Commit file says guards it.
use Rattle.std.proofs.Common.{◌≡◌, ◌↔◌, ℕ, true, false, List, [], ◌∷◌, All, length, map, Option, Some, Result, Ok, Err, IfOk, refl, sym, ap, subst, ◌∙◌}
use Rattle.std.proofs.Common.{inr, arith}
use Rattle.std.specs.List.{AllZip}
use Rattle.std.proofs.lemmas.Bool.{both_ways}
use Rattle.std.proofs.lemmas.List.Elements.{All-head}
use Rattle.outer_io.specs.declared.file_name.FileName.{FileName}
use Rattle.outer_io.specs.declared.file_name.FileName.TheVariants.{Commit, Segment}
use Rattle.outer_io.specs.Files.{Files, bytes_of}
use Rattle.commit_list.specs.declared.listed.Listed.{Listed}
use Rattle.commit_list.specs.Commits.{CommitData}
use Rattle.commit_list.specs.CommitFiles.{IsCommitFile}
use Rattle.stored_index.specs.Kept.{ListsFile}
use Rattle.stored_index.specs.Stored.{HasLive, HaveLive}
use Rattle.segment_view.specs.LiveSegments.{LiveSegment, lives_of}
use Rattle.file_names.specs.Names.{NameList, is_named}
use Rattle.file_names.proofs.Listed.{is_named-none}
use Rattle.segment_set.specs.Sets.{IsNamed, SetData}
use Rattle.segment_set.specs.Kept.{IsAtRest}
use Rattle.index_core.specs.Sessions.{Guards, IsLast, SessionData}
use Rattle.segment_set.proofs.Covered.{IsListedAs}
use Rattle.index_core.proofs.Guarding.{cons_first, cons_rest, covers_all}

-- ---- a set anew

-- the set of a commit that the file says guards it
pub guards_attached : (D : ℕ) (files : Files) (s : SessionData) (c : CommitData) → s.commit ≡ Some c → c.dims ≡ D → IsCommitFile (bytes_of (files Commit)) c
    → IsAtRest s.set c
    → ((m : FileName) → (is_named s.set.names.names m ≡ true) ↔ ListsFile c m) → HaveLive files c (lives_of s.set.parts) → Guards D files s
guards_attached D files s c is dims says rest names lives = record {
  set = inr (record {
    commit = c;
    says = says;
    dims = dims;
    leaf_size = sym rest.leaf_size;
    next = omega (arith, rest.as_committed.next);
    points_given = omega (arith, rest.as_committed.points_given);
    named = λ m lists. (names m).1 lists;
  });
  last = λ done. subst (IsLast files s.set) (sym is) (record {
    says = says;
    covers = covers_all files c s.set.parts says
        (listed_as files c.listed s.set.parts rest.as_committed.ids rest.entries rest.as_committed.counts lives);
  });
}
  where
    listed_as : (files : Files) (listed : List Listed) (parts : List LiveSegment)
        → map (λ (p : LiveSegment). p.head.id) parts ≡ map (λ (l : Listed). l.segment) listed
        → map (λ (p : LiveSegment). p.head.entries) parts ≡ map (λ (l : Listed). l.entries) listed
        → map (λ (p : LiveSegment). length p.live.live) parts ≡ map (λ (l : Listed). l.live) listed
        → AllZip (HasLive files) listed (lives_of parts) → AllZip (IsListedAs files) listed parts
    listed_as files [] [] ids entries counts lives = tt
    listed_as files [] (p ∷ ps) ids entries counts lives = absurd lives
    listed_as files (l ∷ ls) [] ids entries counts lives = absurd lives
    listed_as files (l ∷ ls) (p ∷ ps) ids entries counts lives = (
      record {
        segment = sym (cons_first ids);
        entries = sym (cons_first entries);
        count = sym (cons_first counts);
        file = lives.0;
      },
      listed_as files ls ps (cons_rest ids) (cons_rest entries) (cons_rest counts) lives.1,
    )

-- the Commit file says the last commit of the session that the code opened
pub says_last : (D : ℕ) (files : Files) (s u : SessionData) {c : CommitData} → u ≡ s → u.commit ≡ Some c → s.refused ≡ false → Guards D files s
    → IsCommitFile (bytes_of (files Commit)) c
says_last D files s u {c = c} same is done guards =
    (subst (λ (o : Option CommitData). IsLast files s.set o) (ap (λ (v : SessionData). v.commit) (sym same) ∙ is) (guards.last done)).says

pub guards_anew : {E : Type 0} (D : ℕ) (files : Files) (s u : SessionData) (c : CommitData) (r : Result SetData E) → u ≡ s → u.commit ≡ Some c → c.dims ≡ D
    → IsCommitFile (bytes_of (files Commit)) c
    → IfOk r (λ t. IsAtRest t c) → IfOk r (λ t. (m : FileName) → (is_named t.names.names m ≡ true) ↔ ListsFile c m)
    → IfOk r (λ t. HaveLive files c (lives_of t.parts))
    → IfOk r (λ t. Guards D files (record s { set = t }))
guards_anew D files s u c (Ok t) same is dims says rest names lives =
    guards_attached D files (record s { set = t }) c (ap (λ (v : SessionData). v.commit) (sym same) ∙ is) dims says rest names lives
guards_anew D files s u c (Err e) same is dims says rest names lives = tt

-- ---- a new set

-- segments whose files are all in an empty list of names are none
pub bare_parts : (names : NameList) (parts : List LiveSegment) → names ≡ record { names = []; next_segment = 0 } → All (IsNamed names) parts → parts ≡ []
bare_parts names [] is all = refl
bare_parts names (p ∷ ps) is all =
    absurd (both_ways (is_named [] (Segment p.head.id)) (is_named-none (Segment p.head.id))
    (subst (λ (n : NameList). IsNamed n p) is (All-head (IsNamed names) p ps all)))
