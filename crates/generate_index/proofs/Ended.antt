-- How generating ends, by what its calls answered.
use Rattle.std.proofs.Common.{◌≡◌, ◌+◌, ◌++◌, ℕ, Bool, false, true, List, [], length, Some, None}
use Rattle.std.proofs.Common.{Result, Ok, Err, refl, sym, ap, subst, ◌∙◌, inl, inr, ⊎_elim, arith}
use Rattle.std.specs.Prelude.{codes, decimal}
use Rattle.std.specs.List.{Contains}
use Rattle.outer_io.specs.declared.file_name.FileName.TheVariants.{Commit}
use Rattle.outer_io.specs.Files.{Files, bytes_of}
use Rattle.page_cache.specs.declared.faults.PageFault.{PageFault}
use Rattle.page_cache.specs.declared.faults.PageFault.TheVariants as page
use Rattle.page_cache.specs.Causes.{HasPageCause}
use Rattle.page_cache.specs.Evidence.{FaultShows, NotDamaged, OnDamage}
use Rattle.commit_list.specs.Commits.{CommitData}
use Rattle.commit_list.specs.CommitFiles.{IsCommitDamage, IsCommitDamageOf, IsCommitFile}
use Rattle.commit_list.proofs.CommitPages.{file_there}
use Rattle.documents.proofs.Lists.{nil_none}
use Rattle.documents.specs.Documents.{Document}
use Rattle.script_lang.specs.Replies.{text_line}
use Rattle.index_model.specs.State.{State, new_index}
use Rattle.index_model.specs.Script.{Answer}
use Rattle.stored_index.specs.Stored.{IsStored}
use Rattle.stored_index.proofs.KeptFiles.{stored_still}
use Rattle.segment_view.specs.LiveSegments.{LiveSegment}
use Rattle.segment_set.specs.Seen.{Sees}
use Rattle.index_opening.specs.Evidence.{IsEvident}
use Rattle.index_opening.proofs.Evident.{on_commit_evident, on_evident_files, on_evident_less}
use Rattle.index_core.specs.Sessions.{Guards, SessionData}
use Rattle.index_core.specs.Whole.{DoesWhole, HasNewCanonical, SessionMoment}
use Rattle.index_core.proofs.Bringing.{brings_then}
use Rattle.index_core.proofs.Listed.{new_canonical}
use Rattle.index_core.proofs.Wholes.{CommitSays, does_fault}
use Rattle.drawn_points.specs.Draws.{points}
use Rattle.drawn_points.specs.Generated.{box_hits, docs_of, documents, generate_answer, kept_docs, made_state, near_sum, summary}
use Rattle.generate_index.specs.Generates.{IsDrawn, Makes, drawn_index, made_docs}

-- a session that was created over a folder without an index
pub record IsCreated (seed : ℕ) (a : SessionMoment) : Type 0 where
  pub none : a.files Commit ≡ None
  pub guards : Guards 2 a.files a.session
  pub made : IsDrawn seed 0 0 a
  pub bare : a.session.set.parts ≡ []

pub created : (seed leaf_size : ℕ) (files : Files) (s : SessionData) (faults : ℕ) → leaf_size ≡ 333 → kept_docs 0 (documents seed 0) ≡ documents seed 0
    → documents seed 0 ≡ []
    → files Commit ≡ None → Sees 2 files s.set (new_index 2 leaf_size)
    → Guards 2 files s → s.set.parts ≡ [] → IsCreated seed (record { files = files; session = s; faults = faults })
created seed leaf_size files s faults is all empty none seen guards bare = record {
  none = none;
  guards = guards;
  made = subst (Sees 2 files s.set)
      (ap (new_index 2) is ∙ ap (λ (docs : List Document). record (new_index 2 333) { next = 0; points_given = 0; docs = docs }) (sym (all ∙ empty))) seen;
  bare = bare;
}

other : (T : Type 0) (f : PageFault) → NotDamaged {T = T} (Err f) → NotDamaged {T = Bool} (Err f)
other T page.Failed whole = tt
other T page.Memory whole = tt
other T (page.Damaged d) whole = whole

-- before the commit nothing is stored yet
still_none : {T : Type 0} (told : Type 0) (seed n : ℕ) (a b : SessionMoment) (r : Result T PageFault) → Makes told (IsDrawn seed 0 0) (IsDrawn seed n n) a b r
    → told
    → IsCreated seed a → IsStored b.files None
still_none told seed n a b r makes t new = stored_still a.files b.files None (makes.kept t new.guards) new.none

-- a fault while it was filled
pub ends_early : {T : Type 0} (told : Type 0) (seed n : ℕ) (a b : SessionMoment) (answer : Answer) (before after : List ℕ) (fault : PageFault)
    (r : Result Bool PageFault) → r ≡ Err fault
    → Makes {T = T} told (IsDrawn seed 0 0) (IsDrawn seed n n) a b (Err fault) → told → IsCreated seed a → DoesWhole b.files None answer before after r
ends_early {T = T} told seed n a b answer before after fault r is makes t new = subst (DoesWhole b.files None answer before after) (sym is)
    (does_fault b.files None answer before after fault (other T fault (makes.whole t new.made)) (inl (still_none told seed n a b (Err fault) makes t new)))

-- want of memory after that
pub ends_unsaid : {T : Type 0} (told : Type 0) (seed n : ℕ) (a b : SessionMoment) (x : T) (answer : Answer) (before after : List ℕ) (r : Result Bool PageFault)
    → r ≡ Err page.Memory
    → Makes told (IsDrawn seed 0 0) (IsDrawn seed n n) a b (Ok x) → told → IsCreated seed a → DoesWhole b.files None answer before after r
ends_unsaid told seed n a b x answer before after r is makes t new =
    subst (DoesWhole b.files None answer before after) (sym is)
    (does_fault b.files None answer before after page.Memory tt (inl (still_none told seed n a b (Ok x) makes t new)))

-- want of memory where the state is stored
pub ends_untold : (files : Files) (state : State) (answer : Answer) (before after : List ℕ) (r : Result Bool PageFault) → r ≡ Err page.Memory
    → IsStored files state → DoesWhole files state answer before after r
ends_untold files state answer before after r is h =
    subst (DoesWhole files state answer before after) (sym is) (does_fault files state answer before after page.Memory tt (inl h))

-- memory was wanting before the index was created
pub ends_uncreated : (files : Files) (answer : Answer) (before after : List ℕ) (r : Result Bool PageFault) → r ≡ Err page.Memory → files Commit ≡ None
    → DoesWhole files None answer before after r
ends_uncreated files answer before after r is none =
    subst (DoesWhole files None answer before after) (sym is) (does_fault files None answer before after page.Memory tt (inl none))

-- a fault of the commit: nothing is stored, or all
pub ends_uncommitted : {T U : Type 0} (told : Type 0) (seed n : ℕ) (a b c : SessionMoment) (x : U) (before after : List ℕ) (fault : PageFault)
    (r : Result Bool PageFault) → r ≡ Err fault → made_state seed n ≡ Some (drawn_index seed n n)
    → Makes told (IsDrawn seed 0 0) (IsDrawn seed n n) a b (Ok x) → CommitSays {T = T} 2 told b c (Err fault) → told → IsCreated seed a
    → DoesWhole c.files None (generate_answer None n seed) before after r
unfolding generate_answer
ends_uncommitted {T = T} told seed n a b c x before after fault r is law makes commits t new =
    let at = makes.made t new.made in
    subst (DoesWhole c.files None (generate_answer None n seed) before after) (sym is)
    (does_fault c.files None (generate_answer None n seed) before after fault (other T fault (commits.faults.whole t (drawn_index seed n n) at))
    (⊎_elim
    (λ same. inl (stored_still b.files c.files None same (still_none told seed n a b (Ok x) makes t new)))
    (λ there. inr (subst (IsStored c.files) (sym law) there))
    (commits.durable.stored t (drawn_index seed n n) at (makes.guards t new.guards))))

-- all is said, and stored
pub ends_made : {T U : Type 0} (told : Type 0) (seed n : ℕ) (a b c : SessionMoment) (x : U) (y : T) (docs live hits near : ℕ) (before after : List ℕ)
    → made_state seed n ≡ Some (drawn_index seed n n)
    → after ≡ before
    ++ (text_line (codes "docs " ++ decimal docs ++ codes " live " ++ decimal live) ++ text_line (codes "box hits " ++ decimal hits)
    ++ text_line (codes "nearest sum " ++ decimal near))
    → (docs ≡ n) × (live ≡ length (made_docs seed n)) × (hits ≡ box_hits (made_docs seed n) (points seed n 64))
    × (near ≡ near_sum (made_docs seed n) (points seed (n + 64) 16))
    → Makes told (IsDrawn seed 0 0) (IsDrawn seed n n) a b (Ok x) → CommitSays 2 told b c (Ok y) → told → IsCreated seed a
    → DoesWhole c.files None (generate_answer None n seed) before after (Ok false)
unfolding generate_answer
ends_made told seed n a b c x y docs live hits near before after law grew (d, l, h, m) makes commits t new = (
  grew
      ∙ (λ j. before
      ++ (text_line (codes "docs " ++ decimal (d j) ++ codes " live " ++ decimal (l j)) ++ text_line (codes "box hits " ++ decimal (h j))
      ++ text_line (codes "nearest sum " ++ decimal (m j))))
      ∙ ap (λ (o : State). before ++ summary seed n (docs_of o)) (sym law),
  refl,
  subst (IsStored c.files) (sym law) (commits.durable.stored t (drawn_index seed n n) (makes.made t new.made) (makes.guards t new.guards)).0,
)

-- each segment that the new commit lists is canonical
pub made_canon : {T U : Type 0} (told : Type 0) (seed n : ℕ) (a b c : SessionMoment) (x : U) (y : T)
    → Makes told (IsDrawn seed 0 0) (IsDrawn seed n n) a b (Ok x)
    → CommitSays 2 told b c (Ok y) → told → IsCreated seed a → HasNewCanonical a.files c.files
made_canon told seed n a b c x y makes commits t new =
    let at = makes.made t new.made in
    let guards = makes.guards t new.guards in
    new_canonical 2 a.files c.files a.session.set c.session (drawn_index seed n n)
    (λ p there apart. nil_none p ⊥ (subst (λ (ps : List LiveSegment). Contains ps p) new.bare there))
    (brings_then 2 a.files b.files c.files a.session.set.parts b.session.set.parts c.session.set.parts (makes.canon t) (commits.canon t))
    (commits.seen t (drawn_index seed n n) at) (commits.stays.guards t guards) (commits.durable.kept t guards)
    commits.done.unchanged

-- where neither call failed, no fault was counted
pub cause_done : {T U : Type 0} (f0 f1 f2 : ℕ) (x : T) (y : U) (is_refused : Bool) → HasPageCause f0 f1 (Ok x) → HasPageCause f1 f2 (Ok y)
    → HasPageCause f0 f2 (Ok is_refused)
cause_done f0 f1 f2 x y is_refused first second =
    let late = first.later in
    let more = second.later in
    record { later = omega (arith, late, more); on_ok = second.on_ok ∙ first.on_ok; failed = λ e. absurd cc }

-- ---- an index is there

pub ends_there : (files : Files) (state : State) (n seed : ℕ) (before after : List ℕ) → (files Commit ≡ None → ⊥) → IsStored files state
    → after ≡ before ++ text_line (codes "index exists") → DoesWhole files state (generate_answer state n seed) before after (Ok true)
unfolding generate_answer
ends_there files None n seed before after there h grew = absurd (there h)
ends_there files (Some i) n seed before after there h grew = (grew, refl, h)

pub commit_there : (files : Files) (c : CommitData) → IsCommitFile (bytes_of (files Commit)) c → files Commit ≡ None → ⊥
commit_there files c says none = let there = (file_there (files Commit) c says).0 in cc

-- without a Commit file no index is
pub none_there : (files : Files) (state : State) → files Commit ≡ None → IsStored files state → state ≡ None
none_there files None none h = refl
none_there files (Some i) none h = absurd (commit_there files h.commit h.holds.commit none)

-- the commit was not read
pub ends_unread : (T : Type 0) (old new : Files) (state : State) (answer : Answer) (before after : List ℕ) (fault : PageFault) (r : Result Bool PageFault)
    → r ≡ Err fault → NotDamaged {T = T} (Err fault) → new ≡ old
    → IsStored old state → DoesWhole new state answer before after r
ends_unread T old new state answer before after fault r is whole same h =
    subst (DoesWhole new state answer before after) (sym is)
    (does_fault new state answer before after fault (other T fault whole) (inl (subst (λ (f : Files). IsStored f state) (sym same) h)))

-- where no file changed nothing is listed anew
pub none_anew : (old new : Files) → new ≡ old → HasNewCanonical old new
none_anew old new same c says l inside apart head has =
    absurd (apart c (subst (λ (f : Files). IsCommitFile (bytes_of (f Commit)) c) same says) (l, inside, refl))

-- ---- what a damage shows

-- want of memory is none
pub memory_evident : (told : Type 0) (files : Files) (r : Result Bool PageFault) → r ≡ Err page.Memory → OnDamage r (IsEvident told files)
memory_evident told files r is = subst (λ (q : Result Bool PageFault). OnDamage q (IsEvident told files)) (sym is) tt

-- a fault of a call whose session is trusted, where no Commit file was at first
pub fault_evident : (told none trusts : Type 0) (files : Files) (fault : PageFault) (r : Result Bool PageFault) → r ≡ Err fault → (told → none → trusts)
    → FaultShows (IsEvident (told × trusts) files) fault
    → OnDamage r (IsEvident (told × none) files)
fault_evident told none trusts files fault r is trusted evident = subst (λ (q : Result Bool PageFault). OnDamage q (IsEvident (told × none) files)) (sym is)
    (on_evident_less {X = Bool} (told × trusts) (told × none) files (Err fault) (λ h. (h.0, trusted h.0 h.1)) evident)

-- the commit was not read, and no file changed
pub unread_evident : (told : Type 0) (old new : Files) (fault : PageFault) → (told → new ≡ old) → (told → FaultShows (IsCommitDamageOf old) fault)
    → FaultShows IsCommitDamage fault → FaultShows (IsEvident told new) fault
unread_evident told old new fault same damage shown =
    on_evident_files {X = Bool} told told old new (Err fault) (λ t. t) same (on_commit_evident {X = Bool} told old (Err fault) damage shown)
