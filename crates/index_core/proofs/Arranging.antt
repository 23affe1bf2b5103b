-- What is left of a set by calls that may arrange its segments anew.
use Rattle.std.proofs.lemmas.Bool.{both_ways}
use Rattle.script_lang.specs.Requests.{Request}
use Rattle.script_lang.specs.Requests as asks
use Rattle.std.proofs.Common.{◌≡◌, ◌≤◌, ◌+◌, ℕ, Bool, true, false, length, [], Option, Result, Ok, Err, OnOk, OnErr, inl, refl, sym, ap, subst, ◌∙◌}
use Rattle.outer_io.specs.Files.{Files}
use Rattle.commit_list.specs.Commits.{CommitData}
use Rattle.page_cache.specs.declared.faults.PageFault.{PageFault}
use Rattle.index_model.specs.declared.session.Applied.{Applied}
use Rattle.index_model.specs.declared.session.Applied.TheVariants as applied
use Rattle.segment_set.specs.declared.faults.AddFault.{AddFault}
use Rattle.segment_set.specs.declared.faults.AddFault.TheVariants as add
use Rattle.segment_set.specs.declared.faults.BeginFault.{BeginFault}
use Rattle.segment_set.specs.declared.faults.BeginFault.TheVariants as begin
use Rattle.segment_set.specs.declared.faults.EndFault.{EndFault}
use Rattle.segment_set.specs.declared.faults.EndFault.TheVariants as end
use Rattle.segment_set.specs.declared.faults.SnapFault.{SnapFault}
use Rattle.segment_set.specs.declared.faults.SnapFault.TheVariants as snap
use Rattle.segment_set.specs.Sets.{SetData}
use Rattle.segment_set.specs.Kept.{IsAsBefore, StaysButCache, StaysButFiles}
use Rattle.segment_set.specs.Saved.{StaysButSaved}
use Rattle.segment_set.specs.Settles.{Flushes, IsLeft, Settles, SetMoment, moment}
use Rattle.index_core.specs.Sessions.{Guards, IsStill, SessionData}
use Rattle.index_core.specs.Effects.{KeepsStill, OnDone, OnRefused}
use Rattle.index_core.specs.Costs.{ReadsAtMost}
use Rattle.index_core.specs.Light.{IsBarred, StaysLight, is_light, points_in}
use Rattle.index_core.specs.Calls.{Spares}
use Rattle.index_core.specs.Lasting.{Lasts, TakesOut}
use Rattle.segment_set.specs.Faithful.{IsFaithful}
use Rattle.index_core.specs.Arranged.{FaultLeaves, IsArranged}
use Rattle.index_core.proofs.Lightly.{refused_any}
use Rattle.index_core.specs.Replies.{add_answer, begin_answer, end_answer, snap_answer}

-- ---- the set

-- no step was taken
none_yet : (D : ℕ) (told : Type 0) (m : SetMoment) → Flushes D told m m
none_yet D told m = record { mid = m; settles = record { spots = []; merges = refl }; writes = inl refl }

-- but for names, saved commit and kept pages it is this set
abbrev pub IsLike : SetData → SetData → Type 0
IsLike s t = t ≡ record s { names = t.names; saved = t.saved; cache = t.cache }

like_before : (s t : SetData) → IsAsBefore s t → IsLike s t
like_before s t same =
    same.is ∙ (λ i. record s { names = t.names; saved = sym (ap (λ (u : SetData). u.saved) same.is) i; cache = t.cache })

like_cache : (s t : SetData) → StaysButCache s t → IsLike s t
like_cache s t same = same.is ∙ (λ i. record s {
  names = sym (ap (λ (u : SetData). u.names) same.is) i;
  saved = sym (ap (λ (u : SetData). u.saved) same.is) i;
  cache = t.cache;
})

like_same : (s t : SetData) → t ≡ s → IsLike s t
like_same s t same = same ∙ (λ i. record s {
  names = sym (ap (λ (u : SetData). u.names) same) i;
  saved = sym (ap (λ (u : SetData). u.saved) same) i;
  cache = sym (ap (λ (u : SetData). u.cache) same) i;
})

like_saved : (s t : SetData) → StaysButSaved s t → IsLike s t
like_saved s t h = λ i. record {
  leaf_size = h.leaf_size i;
  next = h.next i;
  points_given = h.points_given i;
  names = t.names;
  parts = h.parts i;
  buffer = h.buffer i;
  snapshots = h.snapshots i;
  begun = h.begun i;
  cache = t.cache;
  saved = t.saved;
}

like_files : (s t : SetData) → StaysButFiles s t → IsLike s t
like_files s t same =
    same.is ∙ (λ i. record s { names = t.names; saved = sym (ap (λ (u : SetData). u.saved) same.is) i; cache = t.cache })

like_then : (s t u : SetData) → IsLike s t → IsLike t u → IsLike s u
like_then s t u is then = then ∙ ap (λ (v : SetData). record v { names = u.names; saved = u.saved; cache = u.cache }) is

-- ---- the set after a call

pub arranged_like : (D : ℕ) (told : Type 0) (files : Files) (s t : SetData) → IsLike s t → IsArranged D told files s t
arranged_like D told files s t is = record { at = moment files s; flushes = none_yet D told (moment files s); is = is }

pub arranged_same : (D : ℕ) (told : Type 0) (files : Files) (s t : SetData) → t ≡ s → IsArranged D told files s t
arranged_same D told files s t same = arranged_like D told files s t (like_same s t same)

pub arranged_before : (D : ℕ) (told : Type 0) (files : Files) (s t : SetData) → IsAsBefore s t → IsArranged D told files s t
arranged_before D told files s t same = arranged_like D told files s t (like_before s t same)

pub arranged_cache : (D : ℕ) (told : Type 0) (files : Files) (s t : SetData) → StaysButCache s t → IsArranged D told files s t
arranged_cache D told files s t same = arranged_like D told files s t (like_cache s t same)

-- some merges of the policy were done
pub arranged_settled : (D : ℕ) (told : Type 0) (files : Files) (s t : SetData) → IsLeft (Settles D told (moment files s)) t → IsArranged D told files s t
arranged_settled D told files s t left =
    record { at = left.0; flushes = record { mid = left.0; settles = left.1; writes = inl refl }; is = like_before left.0.set t left.2 }

-- and a flush
pub arranged_left : (D : ℕ) (told : Type 0) (files : Files) (s t : SetData) → IsLeft (Flushes D told (moment files s)) t → IsArranged D told files s t
arranged_left D told files s t left = record { at = left.0; flushes = left.1; is = like_before left.0.set t left.2 }

pub arranged_flushed : (D : ℕ) (told : Type 0) (files new_files : Files) (s t : SetData) → Flushes D told (moment files s) (moment new_files t)
    → IsArranged D told files s t
arranged_flushed D told files new_files s t flushed = record { at = moment new_files t; flushes = flushed; is = refl }

-- and the set was saved
pub arranged_saved : (D : ℕ) (told : Type 0) (files : Files) (s t : SetData) (P : SetMoment → Type 0)
    → ((m : SetMoment) × Flushes D told (moment files s) m × StaysButSaved m.set t × P m) → IsArranged D told files s t
arranged_saved D told files s t P saved = record { at = saved.0; flushes = saved.1; is = like_saved saved.0.set t saved.2 }

-- and then nothing but names, saved commit and kept pages changed
pub arranged_then : (D : ℕ) (told : Type 0) (files : Files) (s t u : SetData) → IsArranged D told files s t → IsLike t u → IsArranged D told files s u
arranged_then D told files s t u arranged is =
    record { at = arranged.at; flushes = arranged.flushes; is = like_then arranged.at.set t u arranged.is is }

pub arranged_on : (D : ℕ) (told : Type 0) (files : Files) (s t u : SetData) → u ≡ t → IsArranged D told files s t → IsArranged D told files s u
arranged_on D told files s t u same arranged = arranged_then D told files s t u arranged (like_same t u same)

-- the session that the code opened is the one that contracts see
pub arranged_seen : (D : ℕ) (told : Type 0) (files : Files) (s u : SessionData) (t : SetData) → u ≡ s → IsArranged D told files u.set t
    → IsArranged D told files s.set t
arranged_seen D told files s u t same = subst (λ (v : SessionData). IsArranged D told files v.set t) same

-- it was saved, and the commit written
pub arranged_written : (D : ℕ) (told : Type 0) (files : Files) (s u : SessionData) (t w : SetData) (P : SetMoment → Type 0) → u ≡ s → w ≡ t
    → ((m : SetMoment) × Flushes D told (moment files u.set) m × StaysButSaved m.set t × P m) → IsArranged D told files s.set w
arranged_written D told files s u t w P opened same saved =
    arranged_seen D told files s u w opened (arranged_on D told files u.set t w same (arranged_saved D told files u.set t P saved))

-- and what nobody needs swept away
pub arranged_swept : (D : ℕ) (told : Type 0) (files : Files) (s u : SessionData) (t w v : SetData) (P : SetMoment → Type 0) → u ≡ s → w ≡ t
    → StaysButFiles w v → ((m : SetMoment) × Flushes D told (moment files u.set) m × StaysButSaved m.set t × P m) → IsArranged D told files s.set v
arranged_swept D told files s u t w v P opened same swept saved =
    arranged_then D told files s.set w v (arranged_written D told files s u t w P opened same saved) (like_files w v swept)

-- ---- what is answered

pub on_err_any : {T E : Type 0} (P : Type 0) (r : Result T E) → P → OnErr r P
on_err_any P (Ok x) p = tt
on_err_any P (Err e) p = p

-- where nothing but kept pages changed it is so after a fault too
pub still_left : {T : Type 0} (D : ℕ) (told : Type 0) (old new : Files) (s t : SessionData) (r : Result T PageFault) → IsStill told old new s t
    → OnErr r (IsArranged D told old s.set t.set)
still_left D told old new s t r still = on_err_any (IsArranged D told old s.set t.set) r (arranged_cache D told old s.set t.set still.set)

pub add_left : (P Q : Type 0) (r : Result ℕ AddFault) → (P → Q) → OnErr r P → OnErr (add_answer r) Q
add_left P Q (Ok n) h p = tt
add_left P Q (Err add.Full) h p = tt
add_left P Q (Err add.Failed) h p = h p
add_left P Q (Err (add.Damaged d)) h p = h p
add_left P Q (Err add.Memory) h p = h p

pub begin_left : {T : Type 0} (P Q : Type 0) (r : Result T BeginFault) → (P → Q) → OnErr r P → OnErr (begin_answer r) Q
begin_left P Q (Ok x) h p = tt
begin_left P Q (Err begin.Begun) h p = tt
begin_left P Q (Err begin.Failed) h p = h p
begin_left P Q (Err (begin.Damaged d)) h p = h p
begin_left P Q (Err begin.Memory) h p = h p

pub end_left : {T : Type 0} (P Q : Type 0) (r : Result T EndFault) → (P → Q) → OnErr r P → OnErr (end_answer r) Q
end_left P Q (Ok x) h p = tt
end_left P Q (Err end.NotBegun) h p = tt
end_left P Q (Err end.Failed) h p = h p
end_left P Q (Err (end.Damaged d)) h p = h p
end_left P Q (Err end.Memory) h p = h p

pub snap_left : {T : Type 0} (P Q : Type 0) (r : Result T SnapFault) → (P → Q) → OnErr r P → OnErr (snap_answer r) Q
snap_left P Q (Ok x) h p = tt
snap_left P Q (Err snap.Taken) h p = tt
snap_left P Q (Err snap.TooMany) h p = tt
snap_left P Q (Err snap.Memory) h p = h p

-- what is done
pub add_done : (P : Type 0) (r : Result ℕ AddFault) → OnOk r P → OnDone (add_answer r) P
add_done P (Ok n) p = p
add_done P (Err add.Full) p = tt
add_done P (Err add.Failed) p = tt
add_done P (Err (add.Damaged d)) p = tt
add_done P (Err add.Memory) p = tt

pub snap_done : {T : Type 0} (P : Type 0) (r : Result T SnapFault) → OnOk r P → OnDone (snap_answer r) P
snap_done P (Ok x) p = p
snap_done P (Err snap.Taken) p = tt
snap_done P (Err snap.TooMany) p = tt
snap_done P (Err snap.Memory) p = tt

pub done_any : (P : Type 0) (r : Result Applied PageFault) → P → OnDone r P
done_any P (Ok applied.Done) p = p
done_any P (Ok (applied.Refused why)) p = tt
done_any P (Err fault) p = tt

-- a fault leaves nothing done
pub undone_any : (P : Type 0) (r : Result Applied PageFault) (fault : PageFault) → r ≡ Err fault → OnDone r P
undone_any P r fault is = subst (λ q. OnDone q P) (sym is) tt

-- ---- requests

-- a request that is not light, and that the set never refuses of itself
pub spares_heavy : (D : ℕ) (told : Type 0) (r : Request) (old new : Files) (s t : SessionData) (before now : ℕ) (result : Result Applied PageFault)
    → is_light r ≡ false → (IsBarred r s.set → ⊥) → ReadsAtMost D told r old s before now → OnRefused result (now ≡ before)
    → KeepsStill told r old new s t result → OnErr result (FaultLeaves D told r old new s.set t.set)
    → (told → IsFaithful D old s.set → (r ≡ asks.Reopen → Guards D old s) → Lasts D (TakesOut r) old new s.set t.set)
    → Spares D told r old new s t before now result
spares_heavy D told r old new s t before now result heavy bars reads unread still left lasts = record {
  reads = reads;
  unread = unread;
  still = still;
  light = λ light room. absurd (both_ways (is_light r) heavy light);
  barred = λ bad. absurd (bars bad);
  left = left;
  lasts = lasts;
}

-- one that neither reads nor writes
pub spares_quiet : (D : ℕ) (told : Type 0) (r : Request) (files : Files) (s t : SessionData) (before : ℕ) (result : Result Applied PageFault)
    → ReadsAtMost D told r files s before before → (IsBarred r s.set → ⊥) → KeepsStill told r files files s t result
    → (is_light r ≡ true → length s.set.buffer + points_in r ≤ 16384 → StaysLight told (points_in r) files files s t)
    → OnErr result (FaultLeaves D told r files files s.set t.set)
    → (told → IsFaithful D files s.set → (r ≡ asks.Reopen → Guards D files s) → Lasts D (TakesOut r) files files s.set t.set)
    → Spares D told r files files s t before before result
spares_quiet D told r files s t before result reads bars still light left lasts = record {
  reads = reads;
  unread = refused_any (before ≡ before) result refl;
  still = still;
  light = light;
  barred = λ bad. absurd (bars bad);
  left = left;
  lasts = lasts;
}

-- the session with this set
abbrev pub with_set : Option CommitData → Bool → SetData → SessionData
with_set commit refused s = record { set = s; commit = commit; refused = refused }
