-- What is stored by a commit that was written.
use Rattle.std.proofs.Common.{◌≡◌, ℕ, List, [], Option, Some, refl, sym, ap, subst, ◌∙◌, ◌⊎◌, inl, inr, ⊎_elim}
use Rattle.std.specs.List.{All}
use Rattle.std.proofs.lemmas.List.Elements.{All-weaker}
use Rattle.outer_io.specs.declared.file_name.FileName.{FileName}
use Rattle.outer_io.specs.declared.file_name.FileName.TheVariants.{Commit, CommitNew, Segment}
use Rattle.outer_io.specs.Files.{Files, bytes_of, SameButTwo}
use Rattle.page_cache.proofs.Agreement.{agrees_other}
use Rattle.commit_list.specs.Commits.{CommitData}
use Rattle.commit_list.specs.CommitFiles.{IsCommitFile}
use Rattle.segment_file.specs.Segments.{IsHeadOf}
use Rattle.stored_index.specs.Stored.{IsStored}
use Rattle.stored_index.specs.Kept.{ListsFile, SameKept}
use Rattle.stored_index.proofs.KeptFiles.{kept_but_commits}
use Rattle.index_model.specs.State.{Index, at_rest}
use Rattle.segment_view.specs.LiveSegments.{LiveSegment}
use Rattle.segment_set.specs.Sets.{IsWell, NamedView, SetData}
use Rattle.segment_set.specs.Seen.{Sees}
use Rattle.segment_set.specs.Faithful.{HasFileHead, IsFaithful}
use Rattle.segment_set.proofs.BegunKept.{begun_alike}
use Rattle.segment_set.proofs.Standing.{stands_alike}
use Rattle.index_core.specs.Sessions.{SessionData}
use Rattle.index_core.proofs.Guarding.{listed_still}

-- ---- a commit that was written

-- what a save promises of the files in which the commit that it answers is put
abbrev pub Promises : Files → CommitData → Index → Type 0
Promises f c i =
    (files : Files) → IsCommitFile (bytes_of (files Commit)) c → ((m : FileName) → ListsFile c m → files m ≡ f m) → IsStored files (Some (at_rest i))

-- it comes true with the Commit file
pub written_is_stored : (f g : Files) (c : CommitData) (i : Index) → Promises f c i → SameButTwo CommitNew Commit f g → IsCommitFile (bytes_of (g Commit)) c
    → IsStored g (Some (at_rest i))
written_is_stored f g c i promise others says = promise g says (λ m lists. listed_still f g c m others lists)

-- the set is seen as before, since no segment's file was changed
pub written_is_seen : (D : ℕ) (f g : Files) (s : SetData) (i : Index) → IsWell D s → SameButTwo CommitNew Commit f g → Sees D f s i → Sees D g s i
written_is_seen D f g s i well others seen = record {
  contents = seen.contents;
  stands = stands_alike D f g seen.contents seen.contents s well
      (record { files = λ id named. others (Segment id) (λ e. cc) (λ e. cc); entries = λ id named. refl }) seen.stands;
  dims = seen.dims;
  leaf_size = seen.leaf_size;
  next = seen.next;
  points_given = seen.points_given;
  begun = seen.begun;
  docs = seen.docs;
  few = seen.few;
  snapshots = seen.snapshots;
}

-- nor does what the set keeps of the files change, since it keeps pages and heads of segments' files alone
heads_written : (D : ℕ) (f g : Files) (parts : List LiveSegment) → SameButTwo CommitNew Commit f g → All (HasFileHead D f) parts → All (HasFileHead D g) parts
heads_written D f g parts others heads = All-weaker (HasFileHead D f) (HasFileHead D g)
    (λ p has. subst (λ (b : Option (List ℕ)). ∥ IsHeadOf D (bytes_of b) p.head ∥₁) (sym (others (Segment p.head.id) (λ e. cc) (λ e. cc))) has) parts heads

pub faithful_written : (D : ℕ) (f g : Files) (s : SetData) → SameButTwo CommitNew Commit f g → IsFaithful D f s → IsFaithful D g s
faithful_written D f g s others faithful = record {
  pages = agrees_other f g s.cache (λ id kept. others (Segment id) (λ e. cc) (λ e. cc)) faithful.pages;
  heads = heads_written D f g s.parts others faithful.heads;
  kept = All-weaker (λ (v : NamedView). All (HasFileHead D f) v.parts) (λ (v : NamedView). All (HasFileHead D g) v.parts)
      (λ v has. heads_written D f g v.parts others has) s.snapshots faithful.kept;
  begun = begun_alike D f g s s refl (λ b was. refl) (λ p there. others (Segment p.head.id) (λ e. cc) (λ e. cc)) faithful.begun;
}

-- of the session that the code opened
pub faithful_done : (D : ℕ) (f g : Files) (s u : SessionData) → u ≡ s → SameButTwo CommitNew Commit f g → IsFaithful D f s.set → IsFaithful D g u.set
faithful_done D f g s u same others faithful = faithful_written D f g u.set others (subst (λ (v : SessionData). IsFaithful D f v.set) (sym same) faithful)

pub seen_done : (D : ℕ) (f g : Files) (s u : SessionData) (i : Index) → u ≡ s → IsWell D u.set → SameButTwo CommitNew Commit f g → Sees D f s.set i
    → Sees D g u.set i
seen_done D f g s u i same well others seen = written_is_seen D f g u.set i well others (subst (λ (v : SessionData). Sees D f v.set i) (sym same) seen)

pub stores_done : (f g : Files) (s u : SessionData) (c : CommitData) (i : Index) → u ≡ s → s.set.buffer ≡ [] → Promises f c i → SameButTwo CommitNew Commit f g
    → IsCommitFile (bytes_of (g Commit)) c
    → IsStored g (Some (at_rest i)) × (u.set.buffer ≡ [])
stores_done f g s u c i same empty promise others says = (written_is_stored f g c i promise others says, ap (λ (v : SessionData). v.set.buffer) same ∙ empty)

pub stores_undone : (f g : Files) (c : CommitData) (i : Index) → Promises f c i → SameButTwo CommitNew Commit f g
    → (g Commit ≡ f Commit) ⊎ IsCommitFile (bytes_of (g Commit)) c
    → SameKept f g ⊎ IsStored g (Some (at_rest i))
stores_undone f g c i promise others which = ⊎_elim
    (λ stays. inl (kept_but_commits f g others stays))
    (λ says. inr (written_is_stored f g c i promise others says))
    which
