-- What commands on snapshots do to the index as it is seen.
use Rattle.std.proofs.Common.{◌≡◌, ◌↔◌, ◌≤◌, ℕ, Bool, true, false, not, cond, nat_le, List, [], ◌∷◌, ◌++◌, length}
use Rattle.std.proofs.Common.{filter, Some, Result, Ok, Err, OnOk, OnErr, IsErrOf, refl, sym, ap, subst, ◌∙◌, arith}
use Rattle.std.specs.Str.{bytes_eq}
use Rattle.std.proofs.lemmas.Bool.Decides.{nat_tests}
use Rattle.std.proofs.Math.Seq.{take-append_seam}
use Rattle.outer_io.specs.Files.{Files}
use Rattle.script_lang.specs.Requests as asks
use Rattle.script_lang.specs.Replies.{ok_text}
use Rattle.script_lang.specs.declared.faults.Refusal.TheVariants as why
use Rattle.index_model.specs.State.{Index, Snapshot}
use Rattle.index_model.specs.Step.{Done, Refused, step_on}
use Rattle.index_model.specs.declared.session.Applied.TheVariants as applied
use Rattle.segment_set.specs.declared.faults.SnapFault.{SnapFault}
use Rattle.segment_set.specs.declared.faults.SnapFault.TheVariants as snap
use Rattle.segment_set.specs.Sets.{SetData, has_name}
use Rattle.segment_set.specs.Seen.{Sees}
use Rattle.index_core.specs.Steps.{DoesOver}
use Rattle.index_core.specs.Replies.{snap_answer, text_after}
use Rattle.index_core.proofs.Answering.{does_as, does_done, does_fault}
use Rattle.index_core.proofs.Changing.{name_seen, snapshots_long}

-- ---- snapshots

abbrev with_snapshot : List ℕ → Index → Index
with_snapshot name i = record i { snapshots = i.snapshots ++ record { name = name; docs = i.docs } ∷ [] }

le_true : (m n : ℕ) → m ≤ n → nat_le m n ≡ true
le_true m n h = grind (arith, nat_tests)

le_from : (m n : ℕ) → nat_le m n ≡ true → m ≤ n
le_from m n e = grind (arith, nat_tests)

le_false : (m n : ℕ) → (m ≤ n → ⊥) → nat_le m n ≡ false
le_false m n h = by (nat_le m n) refl
  where
    by : (b : Bool) → nat_le m n ≡ b → b ≡ false
    by true e = absurd (h (le_from m n e))
    by false e = refl

ok_err : {T E : Type 0} (x : T) (e : E) → Ok x ≡ Err e → ⊥
ok_err x e same = cc

snapped_is : (D : ℕ) (files : Files) (s : SetData) (i : Index) (name : List ℕ) (a b : Bool) → Sees D files s i → has_name name s.snapshots ≡ a
    → nat_le 16 (length s.snapshots) ≡ b
    → step_on i (asks.Snapshot name) ≡ cond a (Refused why.NameTaken) (cond b (Refused why.TooManySnapshots) (Done (Some (with_snapshot name i)) ok_text))
unfolding step_on
snapped_is D files s i name a b seen taken many =
    ap (λ t. cond t (Refused why.NameTaken) (cond (nat_le 16 (length i.snapshots)) (Refused why.TooManySnapshots) (Done (Some (with_snapshot name i)) ok_text)))
    (name_seen D files s i name seen ∙ taken)
    ∙ ap (λ t. cond a (Refused why.NameTaken) (cond t (Refused why.TooManySnapshots) (Done (Some (with_snapshot name i)) ok_text)))
    (ap (nat_le 16) (snapshots_long seen.contents s.next s.snapshots i.snapshots seen.snapshots) ∙ many)

pub does_snapshot : {T : Type 0} (D : ℕ) (files : Files) (s t : SetData) (i : Index) (name : List ℕ) (r : Result T SnapFault) (before after : List ℕ)
    → Sees D files s i
    → OnOk r (Sees D files t (with_snapshot name i)) → OnErr r (t ≡ s) → (IsErrOf r snap.Taken ↔ (has_name name s.snapshots ≡ true))
    → (IsErrOf r snap.TooMany ↔ ((has_name name s.snapshots ≡ false) × (16 ≤ length s.snapshots)))
    → after ≡ text_after (snap_answer r) (length before) (before ++ ok_text)
    → DoesOver D files (step_on i (asks.Snapshot name)) i t before after (snap_answer r)
does_snapshot D files s t i name (Ok x) before after seen done same taken many grew = by (has_name name s.snapshots) refl
  where
    by : (a : Bool) → has_name name s.snapshots ≡ a → DoesOver D files (step_on i (asks.Snapshot name)) i t before after (Ok applied.Done)
    by true e = absurd (ok_err x snap.Taken (taken.1 e))
    by false e = does_as D files (step_on i (asks.Snapshot name)) (Done (Some (with_snapshot name i)) ok_text) i t before after (Ok applied.Done)
        (snapped_is D files s i name false false seen e (le_false 16 (length s.snapshots) (λ le. ok_err x snap.TooMany (many.1 (e, le)))))
        (does_done D files i (with_snapshot name i) t ok_text before after done grew)
does_snapshot D files s t i name (Err snap.Taken) before after seen done same taken many grew =
    does_as D files (step_on i (asks.Snapshot name)) (Refused why.NameTaken) i t before after (Ok (applied.Refused why.NameTaken))
    (snapped_is D files s i name true (nat_le 16 (length s.snapshots)) seen (taken.0 refl) refl)
    (refl, subst (λ (u : SetData). Sees D files u i) (sym same) seen, grew ∙ take-append_seam before ok_text)
does_snapshot D files s t i name (Err snap.TooMany) before after seen done same taken many grew =
    does_as D files (step_on i (asks.Snapshot name)) (Refused why.TooManySnapshots) i t before after (Ok (applied.Refused why.TooManySnapshots))
    (snapped_is D files s i name false true seen (many.0 refl).0 (le_true 16 (length s.snapshots) (many.0 refl).1))
    (refl, subst (λ (u : SetData). Sees D files u i) (sym same) seen, grew ∙ take-append_seam before ok_text)
does_snapshot D files s t i name (Err snap.Memory) before after seen done same taken many grew =
    does_fault D files (step_on i (asks.Snapshot name)) i t before after _ (subst (λ (u : SetData). Sees D files u i) (sym same) seen)

pub does_release : (D : ℕ) (files : Files) (s t : SetData) (i : Index) (name : List ℕ) (before after : List ℕ) → Sees D files s i
    → has_name name s.snapshots ≡ true
    → Sees D files t (record i { snapshots = filter (λ (u : Snapshot). not (bytes_eq u.name name)) i.snapshots }) → after ≡ before ++ ok_text
    → DoesOver D files (step_on i (asks.Release name)) i t before after (Ok applied.Done)
unfolding step_on
does_release D files s t i name before after seen has left grew =
    does_as D files (step_on i (asks.Release name))
    (Done (Some (record i { snapshots = filter (λ (u : Snapshot). not (bytes_eq u.name name)) i.snapshots })) ok_text) i t before after (Ok applied.Done)
    (ap (λ b. cond b (Done (Some (record i { snapshots = filter (λ (u : Snapshot). not (bytes_eq u.name name)) i.snapshots })) ok_text)
    (Refused why.UnknownSnapshot)) (name_seen D files s i name seen ∙ has))
    (does_done D files i _ t ok_text before after left grew)

pub does_unnamed : (D : ℕ) (files : Files) (s : SetData) (i : Index) (name : List ℕ) (text : List ℕ) → Sees D files s i → has_name name s.snapshots ≡ false
    → DoesOver D files (step_on i (asks.Release name)) i s text text (Ok (applied.Refused why.UnknownSnapshot))
unfolding step_on
does_unnamed D files s i name text seen none =
    does_as D files (step_on i (asks.Release name)) (Refused why.UnknownSnapshot) i s text text (Ok (applied.Refused why.UnknownSnapshot))
    (ap (λ b. cond b (Done (Some (record i { snapshots = filter (λ (u : Snapshot). not (bytes_eq u.name name)) i.snapshots })) ok_text)
    (Refused why.UnknownSnapshot)) (name_seen D files s i name seen ∙ none))
    (refl, seen, refl)
