-- Documents are added without a text for each.
use Rattle.std.proofs.Common.{◌≡◌, ◌<◌, ◌+◌, ℕ, List, [], ◌∷◌, ◌++◌, length, map}
use Rattle.std.proofs.Common.{Result, Ok, Err, OnOk, refl, sym, ap, subst, ◌∙◌, arith, ℤ}
use Rattle.std.specs.declared.cmp.Ordering.{Ordering}
use Rattle.std.specs.Ordering.{int_cmp}
use Rattle.std.specs.Cmp.{IsTotalOrder}
use Rattle.std.specs.Cmp.Lexicographic.{lists_total, slice_cmp}
use Rattle.std.specs.FinMap.{empty, entries, entries-insert, len-empty, len-entries}
use Rattle.std.specs.FinMap.Entries.{put}
use Rattle.std.proofs.lemmas.Cmp.{int_cmp_total}
use Rattle.std.proofs.lemmas.List.Sums.{fold-append}
use Rattle.std.proofs.lemmas.List.{length-append, length-map}
use Rattle.outer_io.specs.Files.{Files}
use Rattle.page_cache.specs.declared.faults.Damage.{Damage}
use Rattle.page_cache.specs.declared.faults.PageFault.{PageFault}
use Rattle.page_cache.specs.declared.faults.PageFault.TheVariants as page
use Rattle.page_cache.specs.Causes.{HasPageCause}
use Rattle.page_cache.specs.Evidence.{NotDamaged, OnDamage}
use Rattle.point_codec.specs.Order.{in_order}
use Rattle.point_codec.specs.Points.{ordered_points}
use Rattle.point_codec.specs.declared.entries.Entry.{Entry}
use Rattle.index_model.specs.State.{Index}
use Rattle.stored_index.proofs.KeptFiles.{kept_after, kept_itself}
use Rattle.segment_set.specs.Sets.{IsWell, SetData}
use Rattle.segment_set.specs.Seen.{Sees}
use Rattle.segment_set.specs.Kept.{AreCanonical, Follows, KeepsNamed}
use Rattle.segment_set.specs.Damages.{IsEvidentIn}
use Rattle.segment_set.specs.Losing.{KeepsCounts}
use Rattle.segment_set.specs.Faithful.{IsFaithful}
use Rattle.index_opening.proofs.Evident.{on_evident_less}
use Rattle.segment_set.specs.Faults.{HasCauseOf, OnAddDamage}
use Rattle.segment_set.specs.declared.faults.AddFault.{AddFault}
use Rattle.segment_set.specs.declared.faults.AddFault.TheVariants as add
use Rattle.index_core.specs.Lasting.{Lasts}
use Rattle.index_core.specs.Sessions.{SessionData, Trusts}
use Rattle.segment_set.specs.AtOnce.{points_in}
use Rattle.index_core.specs.Whole.{Adds, SessionMoment, add_result, with_point, with_points}
use Rattle.index_core.proofs.Answering.{no_cause}
use Rattle.index_core.proofs.FaultCauses.{fault_to, memory_cause}
use Rattle.index_core.proofs.Bringing.{brings_same, brings_then, brings_written}
use Rattle.index_core.proofs.Carrying.{carries_then, carries_written, stays_itself}
use Rattle.index_core.proofs.Guarding.{Grows, guards_after, kept_after_calls}
use Rattle.index_core.proofs.Lasting.{NoneGoes, lasts_itself}
use Rattle.index_core.proofs.LosingNone.{lasts_then}
use Rattle.index_core.proofs.Tracing.{traced_by, traced_shows}
use Rattle.segment_set.proofs.Rearranged.{empty_list}
use Rattle.segment_set.proofs.Saving.{cause_after}
use Rattle.std.proofs.lemmas.Result.{on_ok_weaker}

-- where no points are added, the moment stays
pub adds_none : {T : Type 0} (D : ℕ) (told : Type 0) (at : SessionMoment) (x : T) → Adds D told [] at at (Ok x)
adds_none D told at x = record {
  seen = λ t i seen. seen;
  points_given = omega arith;
  stays = stays_itself D told at.files at.session;
  kept = λ t guards. kept_itself at.files;
  lasts = λ t faithful. lasts_itself D NoneGoes at.files at.session.set;
  canon = λ t. brings_same D at.files at.files at.session.set.parts at.session.set.parts refl refl;
  faults = record { cause = no_cause at.faults x; whole = λ t i seen. tt; evident = tt };
}

pub adds_empty : {T : Type 0} (D : ℕ) (told : Type 0) (entries : List (Entry D)) (at : SessionMoment) (x : T) → length entries < 1
    → Adds D told (points_in entries) at at (Ok x)
adds_empty D told [] at x none = adds_none D told at x
adds_empty D told (p ∷ ps) at x none = absurd (omega arith)

-- for want of memory nothing is
pub adds_no_memory : {T : Type 0} (D : ℕ) (told : Type 0) (points : List (List ℤ)) (at : SessionMoment) → Adds {T = T} D told points at at (Err page.Memory)
adds_no_memory D told points at = record {
  seen = λ t i seen. tt;
  points_given = tt;
  stays = stays_itself D told at.files at.session;
  kept = λ t guards. kept_itself at.files;
  lasts = λ t faithful. lasts_itself D NoneGoes at.files at.session.set;
  canon = λ t. brings_same D at.files at.files at.session.set.parts at.session.set.parts refl refl;
  faults = record { cause = memory_cause at.faults at.faults (omega arith); whole = λ t i seen. tt; evident = tt };
}

-- some points are added, and then more
pub adds_then : {T U : Type 0} (D : ℕ) (told : Type 0) (xs ys : List (List ℤ)) (a b c : SessionMoment) (x : U) (r : Result T PageFault)
    → Adds D told xs a b (Ok x) → Adds D told ys b c r → Adds D told (xs ++ ys) a c r
adds_then D told xs ys a b c x r first second = record {
  seen = λ t i seen.
      on_ok_weaker r (subst (Sees D c.files c.session.set) (sym (fold-append with_point i xs ys))) (second.seen t (with_points i xs) (first.seen t i seen));
  points_given = on_ok_weaker r (λ more. let long = length-append xs ys in let some = first.points_given in omega arith) second.points_given;
  stays = record {
    guards = λ t guards. second.stays.guards t (first.stays.guards t guards);
    faithful = λ t faithful. second.stays.faithful t (first.stays.faithful t faithful);
    traced = λ t trusts. second.stays.traced t (trusts_then t trusts);
    carries = λ t. carries_then a.files b.files c.files a.session.set b.session.set c.session.set (first.stays.carries t) (second.stays.carries t);
  };
  kept = λ t guards. kept_after a.files b.files c.files (first.kept t guards) (second.kept t (first.stays.guards t guards));
  lasts = λ t faithful. lasts_then D NoneGoes a.files b.files a.session.set b.session.set (first.lasts t faithful) NoneGoes NoneGoes c.files c.session.set
      (λ number goes. goes) (λ number goes. goes) (second.lasts t (first.stays.faithful t faithful));
  canon = λ t. brings_then D a.files b.files c.files a.session.set.parts b.session.set.parts c.session.set.parts (first.canon t) (second.canon t);
  faults = record {
    cause = cause_after a.faults b.faults c.faults r first.faults.cause.on_ok second.faults.cause;
    whole = λ t i seen. second.faults.whole t (with_points i xs) (first.seen t i seen);
    evident = on_evident_less (told × Trusts D b.files b.session) (told × Trusts D a.files a.session) c.files r (λ (t, trusts). (t, trusts_then t trusts))
        second.faults.evident;
  };
}
  where
    trusts_then : told → Trusts D a.files a.session → Trusts D b.files b.session
    trusts_then t trusts =
        record { guards = first.stays.guards t trusts.guards; faithful = first.stays.faithful t trusts.faithful; traced = first.stays.traced t trusts }

-- after a fault it says the same of all that were to come
pub adds_stopped : {T U : Type 0} (D : ℕ) (told : Type 0) (xs ys : List (List ℤ)) (a b : SessionMoment) (fault : PageFault) (r : Result U PageFault)
    → r ≡ Err fault → Adds {T = T} D told xs a b (Err fault) → Adds D told ys a b r
adds_stopped {T = T} {U = U} D told xs ys a b fault r is adds = subst (Adds D told ys a b) (sym is) (record {
  seen = λ t i seen. tt;
  points_given = tt;
  stays = adds.stays;
  kept = adds.kept;
  lasts = adds.lasts;
  canon = adds.canon;
  faults = record {
    cause = fault_to a.faults b.faults fault adds.faults.cause;
    whole = λ t i seen. to_other fault (adds.faults.whole t i seen);
    evident = adds.faults.evident;
  };
})
  where
    to_other : (f : PageFault) → NotDamaged {T = T} (Err f) → NotDamaged {T = U} (Err f)
    to_other page.Failed whole = tt
    to_other (page.Damaged d) whole = whole
    to_other page.Memory whole = tt

-- ---- one document

-- a damage is evident of a merge of segments of the set
abbrev pub IsMergeOf : (D : ℕ) (told : Type 0) → (old new : SessionMoment) → Damage → Type 0
IsMergeOf D told old new = IsEvidentIn D old.files old.session.set.parts (length old.session.set.buffer) old.session.set.points_given
    (told × IsFaithful D old.files old.session.set) new.files

-- what a call of the set says that adds documents, in a session whose other parts stay
pub record IsAdded {T : Type 0} (D : ℕ) (told : Type 0) (points : List (List ℤ)) (old new : SessionMoment) (r : Result T PageFault) : Type 0 where
  pub commit : new.session.commit ≡ old.session.commit
  pub refused : new.session.refused ≡ old.session.refused
  pub grows : Grows old.session.set new.session.set
  pub keeps : KeepsNamed told old.session.set.names new.session.set.names old.files new.files
  pub follows : Follows old.session.set.names old.session.set.parts new.session.set.parts
  pub well : IsWell D old.session.set
  pub snapshots : new.session.set.snapshots ≡ old.session.set.snapshots
  pub second : told → AreCanonical D new.files old.session.set.names new.session.set.parts
  pub lasts : told → IsFaithful D old.files old.session.set → Lasts D NoneGoes old.files new.files old.session.set new.session.set
  pub seen : told → (i : Index) → Sees D old.files old.session.set i → OnOk r (Sees D new.files new.session.set (with_points i points))
  pub points_given : OnOk r (new.session.set.points_given ≡ old.session.set.points_given + length points)
  pub cause : HasPageCause old.faults new.faults r
  pub whole : told → (i : Index) → Sees D old.files old.session.set i → NotDamaged r
  pub faithful : told → IsFaithful D old.files old.session.set → IsFaithful D new.files new.session.set
  pub counts : told → IsFaithful D old.files old.session.set → KeepsCounts D old.files new.files old.session.set new.session.set
  pub evident : OnDamage r (IsMergeOf D told old new)

-- and one that adds one
pub record IsPut (D : ℕ) (told : Type 0) (point : List ℤ) (old new : SessionMoment) (r : Result ℕ AddFault) : Type 0 where
  pub commit : new.session.commit ≡ old.session.commit
  pub refused : new.session.refused ≡ old.session.refused
  pub grows : Grows old.session.set new.session.set
  pub keeps : KeepsNamed told old.session.set.names new.session.set.names old.files new.files
  pub follows : Follows old.session.set.names old.session.set.parts new.session.set.parts
  pub well : IsWell D old.session.set
  pub snapshots : new.session.set.snapshots ≡ old.session.set.snapshots
  pub second : told → AreCanonical D new.files old.session.set.names new.session.set.parts
  pub lasts : told → IsFaithful D old.files old.session.set → Lasts D NoneGoes old.files new.files old.session.set new.session.set
  pub seen : told → (i : Index) → Sees D old.files old.session.set i → OnOk r (Sees D new.files new.session.set (with_point i point))
  pub points_given : OnOk r (new.session.set.points_given ≡ old.session.set.points_given + 1)
  pub cause : HasCauseOf add.Failed old.faults new.faults r
  pub whole : told → (i : Index) → Sees D old.files old.session.set i → OnAddDamage r (λ _. ⊥)
  pub faithful : told → IsFaithful D old.files old.session.set → IsFaithful D new.files new.session.set
  pub counts : told → IsFaithful D old.files old.session.set → KeepsCounts D old.files new.files old.session.set new.session.set
  pub evident : OnAddDamage r (IsMergeOf D told old new)

put_cause : (before now : ℕ) (r : Result ℕ AddFault) → HasCauseOf add.Failed before now r → HasPageCause before now (add_result r)
put_cause before now (Ok n) cause = record { later = cause.later; on_ok = cause.on_ok; failed = λ e. absurd cc }
put_cause before now (Err add.Full) cause = memory_cause before now cause.later
put_cause before now (Err add.Failed) cause = record { later = cause.later; on_ok = tt; failed = λ e. cause.failed refl }
put_cause before now (Err (add.Damaged d)) cause = record { later = cause.later; on_ok = tt; failed = λ e. absurd cc }
put_cause before now (Err add.Memory) cause = memory_cause before now cause.later

put_shows : (P : Damage → Type 0) (r : Result ℕ AddFault) → OnAddDamage r P → OnDamage (add_result r) P
put_shows P (Ok n) p = tt
put_shows P (Err add.Full) p = tt
put_shows P (Err add.Failed) p = tt
put_shows P (Err (add.Damaged d)) p = p
put_shows P (Err add.Memory) p = tt

put_ok : (P : Type 0) (r : Result ℕ AddFault) → OnOk r P → OnOk (add_result r) P
put_ok P (Ok n) p = p
put_ok P (Err add.Full) p = tt
put_ok P (Err add.Failed) p = tt
put_ok P (Err (add.Damaged d)) p = tt
put_ok P (Err add.Memory) p = tt

pub adds_put : {T : Type 0} (D : ℕ) (told : Type 0) (points : List (List ℤ)) (old new : SessionMoment) (r : Result T PageFault)
    → IsAdded D told points old new r → Adds D told points old new r
adds_put D told points old new r put = record {
  seen = put.seen;
  points_given = put.points_given;
  stays = record {
    guards = λ t guards. guards_after D told old.files new.files old.session new.session t put.commit put.refused put.keeps put.follows put.grows guards;
    faithful = put.faithful;
    traced = λ t trusts. traced_by D told old.files new.files old.session new.session.set t put.keeps put.follows (put.second t) put.grows.points_given
        (put.counts t) trusts;
    carries = λ t. carries_written D told old.files new.files old.session old.session new.session.set refl t put.keeps put.follows (put.second t) put.well
        put.snapshots;
  };
  kept = λ t guards. kept_after_calls D told old.files new.files old.session.set new.session.set.names t put.keeps guards.set;
  lasts = put.lasts;
  canon = λ t. brings_written D told old.files new.files old.session.set.names new.session.set.names old.session.set.parts new.session.set.parts t put.keeps
      put.follows (put.second t);
  faults = record {
    cause = put.cause;
    whole = put.whole;
    evident = traced_shows D told old.files new.files old.session new.session.set.names r put.keeps put.well.named put.evident;
  };
}

pub adds_one : (D : ℕ) (told : Type 0) (point : List ℤ) (old new : SessionMoment) (r : Result ℕ AddFault) → IsPut D told point old new r
    → Adds D told (point ∷ []) old new (add_result r)
adds_one D told point old new r put = adds_put D told (point ∷ []) old new (add_result r) (record {
  commit = put.commit;
  refused = put.refused;
  grows = put.grows;
  keeps = put.keeps;
  follows = put.follows;
  well = put.well;
  snapshots = put.snapshots;
  second = put.second;
  lasts = put.lasts;
  seen = λ t i seen. put_ok (Sees D new.files new.session.set (with_point i point)) r (put.seen t i seen);
  points_given = put_ok (new.session.set.points_given ≡ old.session.set.points_given + 1) r put.points_given;
  cause = put_cause old.faults new.faults r put.cause;
  whole = λ t i seen. put_shows (λ _. ⊥) r (put.whole t i seen);
  faithful = put.faithful;
  counts = put.counts;
  evident = put_shows (IsMergeOf D told old new) r put.evident;
})

one_in_order : {K : Type 0} (R : K → K → Ordering) (o : IsTotalOrder R) (x : K) → in_order R (x ∷ []) ≡ x ∷ []
one_in_order {K = K} R o x =
    ap (map (λ (e : K × Unit {0}). e.0))
    (entries-insert o empty x tt
    ∙ ap (put R x tt) (empty_list (entries (empty {X = Unit {0}} {R = R})) (sym (len-entries (empty {X = Unit {0}} {R = R})) ∙ len-empty R (Unit {0}))))

pub one_ordered : (point : List ℤ) → ordered_points (point ∷ []) ≡ point ∷ []
one_ordered point = one_in_order (slice_cmp int_cmp) (lists_total int_cmp_total) point

-- what the set's call says of the points that it got, where these are the one
pub put_seen : (D : ℕ) (told : Type 0) (point : List ℤ) (points : List (List ℤ)) (f g : Files) (s t : SetData) (r : Result ℕ AddFault) → points ≡ point ∷ []
    → (told → (i : Index) → Sees D f s i
    → OnOk r (Sees D g t
    (record i { next = i.next + 1; points_given = i.points_given + length points; docs = i.docs ++ record { number = i.next; points = points } ∷ [] })))
    → told → (i : Index) → Sees D f s i → OnOk r (Sees D g t (with_point i point))
put_seen D told point points f g s t r is seen = subst
    (λ (ps : List (List ℤ)). told → (i : Index) → Sees D f s i
    → OnOk r (Sees D g t
    (record i { next = i.next + 1; points_given = i.points_given + length ps; docs = i.docs ++ record { number = i.next; points = ps } ∷ [] })))
    is seen

pub put_given : (P : Type 0) (point : List ℤ) (points : List (List ℤ)) (before now : ℕ) (r : Result ℕ AddFault) → points ≡ point ∷ []
    → OnOk r (P × (now ≡ before + length points)) → OnOk r (now ≡ before + 1)
put_given P point points before now r is points_given =
    on_ok_weaker r (λ (both : P × (now ≡ before + length points)). both.1 ∙ ap (λ (ps : List (List ℤ)). before + length ps) is) points_given

-- as many points are given as there are entries
pub put_length : {D : ℕ} (entries : List (Entry D)) (P : Type 0) (before now : ℕ) {T E : Type 0} (r : Result T E)
    → OnOk r (P × (now ≡ before + length entries)) → OnOk r (now ≡ before + length (points_in entries))
put_length {D} entries P before now r gives = on_ok_weaker r (λ (both : P × (now ≡ before + length entries)).
    both.1 ∙ ap (λ n. before + n) (sym (length-map entries (λ (e : Entry D). e.point.c)))) gives

-- ---- of the session that the code opened

pub adds_seen : {T : Type 0} (D : ℕ) (told : Type 0) (points : List (List ℤ)) (files : Files) (s u : SessionData) (faults : ℕ) (new : SessionMoment)
    (r : Result T PageFault) → u ≡ s
    → Adds D told points (record { files = files; session = u; faults = faults }) new r
    → Adds D told points (record { files = files; session = s; faults = faults }) new r
adds_seen D told points files s u faults new r same adds =
    subst (λ (v : SessionData). Adds D told points (record { files = files; session = v; faults = faults }) new r) same adds

pub adds_memory_as : {T : Type 0} (D : ℕ) (told : Type 0) (points : List (List ℤ)) (at : SessionMoment) (r : Result T PageFault) → r ≡ Err page.Memory
    → Adds D told points at at r
adds_memory_as D told points at r is = subst (Adds D told points at at) (sym is) (adds_no_memory D told points at)

pub adds_as : {T : Type 0} (D : ℕ) (told : Type 0) (points : List (List ℤ)) (old new : SessionMoment) (r q : Result T PageFault) → q ≡ r
    → Adds D told points old new r
    → Adds D told points old new q
adds_as D told points old new r q is adds = subst (Adds D told points old new) (sym is) adds
