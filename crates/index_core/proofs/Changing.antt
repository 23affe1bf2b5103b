-- What commands do to the index as it is seen, by what the calls on the set did.
use Rattle.std.proofs.Common.{◌≡◌, ◌↔◌, ◌<◌, ◌+◌, ◌^◌, ℕ, ℤ, Bool, true, false, not, ◌||◌, cond, nat_eq, nat_lt, List, [], ◌∷◌, ◌++◌, length}
use Rattle.std.proofs.Common.{filter, Option, None, Some, is_some, Result, Ok, Err, OnOk, OnErr, IsErrOf, refl, sym, ap, subst, ◌∙◌, arith}
use Rattle.std.specs.List.{AllZip}
use Rattle.std.specs.Option.{option_map}
use Rattle.std.specs.Str.{bytes_eq}
use Rattle.std.proofs.lemmas.Bool.{both_ways, lt-ltb}
use Rattle.outer_io.specs.Files.{Files}
use Rattle.point_codec.specs.Points.{in_box}
use Rattle.documents.specs.Documents.{Document, docs_without, hits, is_live, passes, docs_failing}
use Rattle.documents.specs.Entries.{is_among}
use Rattle.documents.proofs.Kept.{among_hits}
use Rattle.documents.proofs.Lists.{filter_alike}
use Rattle.script_lang.specs.Requests as asks
use Rattle.script_lang.specs.Replies.{deleted_text, doc_text, ok_text}
use Rattle.script_lang.specs.declared.faults.Refusal.TheVariants as why
use Rattle.index_model.specs.State.{Index, Snapshot, snapshot_of, viewed_docs}
use Rattle.index_model.specs.Step.{Done, Refused, query_outcome, step_on}
use Rattle.index_model.specs.declared.session.Applied.TheVariants as applied
use Rattle.segment_view.specs.LiveSegments.{Contents}
use Rattle.segment_set.specs.declared.faults.AddFault.{AddFault}
use Rattle.segment_set.specs.declared.faults.AddFault.TheVariants as add
use Rattle.segment_set.specs.declared.faults.BeginFault.{BeginFault}
use Rattle.segment_set.specs.declared.faults.BeginFault.TheVariants as begin
use Rattle.segment_set.specs.declared.faults.EndFault.{EndFault}
use Rattle.segment_set.specs.declared.faults.EndFault.TheVariants as end
use Rattle.segment_set.specs.Sets.{HasView, NamedView, SetData, has_name}
use Rattle.segment_set.specs.Seen.{Sees, ShowsSnapshot}
use Rattle.index_core.specs.Steps.{DoesOver}
use Rattle.index_core.specs.Replies.{add_answer, begin_answer, end_answer}
use Rattle.index_core.proofs.Answering.{does_as, does_done}
use Rattle.segment_set.proofs.Changed.{index_with}

-- ---- a document is added

pub not_full : (r : Result ℕ AddFault) (points_given : ℕ) → nat_lt (2 ^ 24) points_given ≡ false → (IsErrOf r add.Full ↔ (2 ^ 24 < points_given))
    → IsErrOf r add.Full → ⊥
not_full r points_given fits full e = both_ways (nat_lt (2 ^ 24) points_given) fits (lt-ltb (2 ^ 24) points_given (full.0 e))

pub does_add : (D : ℕ) (old new : Files) (s t : SetData) (i : Index) (points : List (List ℤ)) (r : Result ℕ AddFault) (before after : List ℕ) → Sees D old s i
    → nat_lt (2 ^ 24) (s.points_given + length points) ≡ false → (IsErrOf r add.Full → ⊥) → OnOk r (Sees D new t (index_with points i))
    → OnErr r (Sees D new t i)
    → after ≡ before ++ doc_text s.next
    → DoesOver D new (step_on i (asks.Add points)) i t before after (add_answer r)
unfolding step_on
does_add D old new s t i points r before after seen fits full done refused grew =
    does_as D new (step_on i (asks.Add points)) (Done (Some (index_with points i)) (doc_text i.next)) i t before after (add_answer r)
    (ap (λ b. cond b (Refused why.Full) (Done (Some (index_with points i)) (doc_text i.next)))
    (ap (λ n. nat_lt (2 ^ 24) (n + length points)) seen.points_given ∙ fits))
    (by r full done refused)
  where
    by : (r : Result ℕ AddFault) → (IsErrOf r add.Full → ⊥) → OnOk r (Sees D new t (index_with points i)) → OnErr r (Sees D new t i)
        → DoesOver D new (Done (Some (index_with points i)) (doc_text i.next)) i t before after (add_answer r)
    by (Ok n) full done refused =
        does_done D new i (index_with points i) t (doc_text i.next) before after done (grew ∙ ap (λ n. before ++ doc_text n) (sym seen.next))
    by (Err add.Full) full done refused = absurd (full refl)
    by (Err add.Failed) full done refused = refused
    by (Err (add.Damaged d)) full done refused = refused
    by (Err add.Memory) full done refused = refused

pub does_full : (D : ℕ) (files : Files) (s : SetData) (i : Index) (points : List (List ℤ)) (text : List ℕ) → Sees D files s i
    → nat_lt (2 ^ 24) (s.points_given + length points) ≡ true
    → DoesOver D files (step_on i (asks.Add points)) i s text text (Ok (applied.Refused why.Full))
unfolding step_on
does_full D files s i points text seen full =
    does_as D files (step_on i (asks.Add points)) (Refused why.Full) i s text text (Ok (applied.Refused why.Full))
    (ap (λ b. cond b (Refused why.Full) (Done (Some (index_with points i)) (doc_text i.next)))
    (ap (λ n. nat_lt (2 ^ 24) (n + length points)) seen.points_given ∙ full))
    (refl, seen, refl)

-- ---- documents are deleted

pub deleted_none : (number : ℕ) (docs : List Document) → is_live number docs ≡ false → docs_without number docs ≡ docs
deleted_none number [] none = refl
deleted_none number (d ∷ ds) none = by (nat_eq d.number number) (deleted_none number ds) none
  where
    by : (b : Bool) → (is_live number ds ≡ false → docs_without number ds ≡ ds) → (b || is_live number ds) ≡ false
        → cond (not b) (d ∷ docs_without number ds) (docs_without number ds) ≡ d ∷ ds
    by true rest e = absurd cc
    by false rest e = ap (λ (xs : List Document). d ∷ xs) (rest e)

pub does_delete : (D : ℕ) (files : Files) (t : SetData) (i : Index) (number : ℕ) (live : Bool) (before after : List ℕ) → live ≡ is_live number i.docs
    → Sees D files t (record i { docs = docs_without number i.docs })
    → after ≡ before ++ deleted_text (cond live 1 0) → DoesOver D files (step_on i (asks.Delete number)) i t before after (Ok applied.Done)
unfolding step_on
does_delete D files t i number live before after same seen grew =
    does_done D files i (record i { docs = docs_without number i.docs }) t (deleted_text (cond (is_live number i.docs) 1 0)) before after seen
    (grew ∙ ap (λ b. before ++ deleted_text (cond b 1 0)) same)

-- where none has the number the set is seen as before
pub seen_deleted : (D : ℕ) (files : Files) (t : SetData) (i : Index) (number : ℕ) → is_live number i.docs ≡ false
    → Sees D files t (record i { docs = docs_without number i.docs }) → Sees D files t i
seen_deleted D files t i number none seen = subst (λ (ds : List Document). Sees D files t (record i { docs = ds })) (deleted_none number i.docs none) seen

pub does_delete_box : (D : ℕ) (old new : Files) (s t : SetData) (i : Index) (lo hi : List ℤ) (found : List ℕ) (before after : List ℕ) → Sees D old s i
    → found ≡ hits (in_box (record { lo = lo; hi = hi })) i.docs
    → Sees D new t (record i { docs = filter (λ (d : Document). not (is_among found d.number)) i.docs })
    → after ≡ before ++ deleted_text (length found) → DoesOver D new (step_on i (asks.DeleteBox lo hi)) i t before after (Ok applied.Done)
unfolding step_on
does_delete_box D old new s t i lo hi found before after seen is left grew =
    does_done D new i (record i { docs = docs_failing test i.docs }) t (deleted_text (length (hits test i.docs))) before after
    (subst (λ (ds : List Document). Sees D new t (record i { docs = ds })) same left)
    (grew ∙ ap (λ (ns : List ℕ). before ++ deleted_text (length ns)) is)
  where
    test : List ℤ → Bool
    test = in_box (record { lo = lo; hi = hi })

    same : filter (λ (d : Document). not (is_among found d.number)) i.docs ≡ docs_failing test i.docs
    same = ap (λ (ns : List ℕ). filter (λ (d : Document). not (is_among ns d.number)) i.docs) is
        ∙ filter_alike (λ (d : Document). not (is_among (hits test i.docs) d.number)) (λ d. not (passes test d)) i.docs
        (λ d h. ap not (among_hits test i.docs seen.docs.ascend d h))

-- ---- views

-- a snapshot has the name in the set just where one has it in the index
names_seen : (c : Contents) (next : ℕ) (name : List ℕ) (views : List NamedView) (ts : List Snapshot) → AllZip (ShowsSnapshot c next) views ts
    → has_name name views ≡ is_some (snapshot_of name ts)
names_seen c next name [] [] shown = refl
names_seen c next name [] (t ∷ ts) shown = absurd shown
names_seen c next name (v ∷ vs) [] shown = absurd shown
names_seen c next name (v ∷ vs) (t ∷ ts) shown =
    by (bytes_eq v.name name) (bytes_eq t.name name) (ap (λ n. bytes_eq n name) shown.0.name) (names_seen c next name vs ts shown.1)
  where
    by : (a b : Bool) → a ≡ b → has_name name vs ≡ is_some (snapshot_of name ts) → (a || has_name name vs) ≡ is_some (cond b (Some t) (snapshot_of name ts))
    by true true e rest = refl
    by true false e rest = absurd cc
    by false true e rest = absurd cc
    by false false e rest = rest

pub name_seen : (D : ℕ) (files : Files) (s : SetData) (i : Index) (name : List ℕ) → Sees D files s i
    → is_some (snapshot_of name i.snapshots) ≡ has_name name s.snapshots
name_seen D files s i name seen = sym (names_seen seen.contents s.next name s.snapshots i.snapshots seen.snapshots)

pub snapshots_long : (c : Contents) (next : ℕ) (views : List NamedView) (ts : List Snapshot) → AllZip (ShowsSnapshot c next) views ts → length ts ≡ length views
snapshots_long c next [] [] shown = refl
snapshots_long c next [] (t ∷ ts) shown = absurd shown
snapshots_long c next (v ∷ vs) [] shown = absurd shown
snapshots_long c next (v ∷ vs) (t ∷ ts) shown = omega (arith, snapshots_long c next vs ts shown.1)

-- the documents of a view
pub view_docs : (D : ℕ) (files : Files) (s : SetData) (i : Index) (view : Option (List ℕ)) → Sees D files s i → HasView view s
    → (docs : List Document) × (viewed_docs view i ≡ Some docs)
view_docs D files s i None seen has = (i.docs, refl)
view_docs D files s i (Some name) seen has = by (snapshot_of name i.snapshots) (name_seen D files s i name seen ∙ has)
  where
    by : (o : Option Snapshot) → is_some o ≡ true → (docs : List Document) × (option_map (λ (t : Snapshot). t.docs) o ≡ Some docs)
    by None e = absurd cc
    by (Some t) e = (t.docs, refl)

pub no_docs : (D : ℕ) (files : Files) (s : SetData) (i : Index) (view : Option (List ℕ)) → Sees D files s i → (HasView view s → ⊥) → viewed_docs view i ≡ None
no_docs D files s i None seen none = absurd (none tt)
no_docs D files s i (Some name) seen none = by (snapshot_of name i.snapshots) (λ e. none (sym (name_seen D files s i name seen) ∙ e))
  where
    by : (o : Option Snapshot) → (is_some o ≡ true → ⊥) → option_map (λ (t : Snapshot). t.docs) o ≡ None
    by None e = refl
    by (Some t) e = absurd (e refl)

pub does_answered : (D : ℕ) (files : Files) (t : SetData) (i : Index) (view : Option (List ℕ)) (docs : List Document) (text : List Document → List ℕ)
    (before after : List ℕ) → viewed_docs view i ≡ Some docs
    → Sees D files t i → after ≡ before ++ text docs → DoesOver D files (query_outcome i (viewed_docs view i) text) i t before after (Ok applied.Done)
does_answered D files t i view docs text before after is seen grew =
    does_as D files (query_outcome i (viewed_docs view i) text) (Done (Some i) (text docs)) i t before after (Ok applied.Done)
    (ap (λ (o : Option (List Document)). query_outcome i o text) is)
    (does_done D files i i t (text docs) before after seen grew)

pub does_unknown : (D : ℕ) (files : Files) (s : SetData) (i : Index) (view : Option (List ℕ)) (out : List Document → List ℕ) (text : List ℕ) → Sees D files s i
    → (HasView view s → ⊥)
    → DoesOver D files (query_outcome i (viewed_docs view i) out) i s text text (Ok (applied.Refused why.UnknownSnapshot))
does_unknown D files s i view out text seen none =
    does_as D files (query_outcome i (viewed_docs view i) out) (Refused why.UnknownSnapshot) i s text text (Ok (applied.Refused why.UnknownSnapshot))
    (ap (λ (o : Option (List Document)). query_outcome i o out) (no_docs D files s i view seen none)) (refl, seen, refl)

-- ---- merges

pub does_begin : {T : Type 0} (D : ℕ) (old new : Files) (s t : SetData) (i : Index) (which : List ℕ) (r : Result T BeginFault) (before after : List ℕ)
    → Sees D old s i → is_some s.begun ≡ false
    → (IsErrOf r begin.Begun → ⊥) → OnOk r (Sees D new t (record i { begun = true })) → OnErr r (Sees D new t i) → after ≡ before ++ ok_text
    → DoesOver D new (step_on i (asks.MergeBegin which)) i t before after (begin_answer r)
unfolding step_on
does_begin {T = T} D old new s t i which r before after seen none apart done refused grew =
    does_as D new (step_on i (asks.MergeBegin which)) (Done (Some (record i { begun = true })) ok_text) i t before after (begin_answer r)
    (ap (λ b. cond b (Refused why.Begun) (Done (Some (record i { begun = true })) ok_text)) (seen.begun ∙ none))
    (by r apart done refused)
  where
    by : (r : Result T BeginFault) → (IsErrOf r begin.Begun → ⊥) → OnOk r (Sees D new t (record i { begun = true })) → OnErr r (Sees D new t i)
        → DoesOver D new (Done (Some (record i { begun = true })) ok_text) i t before after (begin_answer r)
    by (Ok n) apart done refused = does_done D new i (record i { begun = true }) t ok_text before after done grew
    by (Err begin.Begun) apart done refused = absurd (apart refl)
    by (Err begin.Failed) apart done refused = refused
    by (Err (begin.Damaged d)) apart done refused = refused
    by (Err begin.Memory) apart done refused = refused

pub does_begun : (D : ℕ) (files : Files) (s : SetData) (i : Index) (which : List ℕ) (text : List ℕ) → Sees D files s i → is_some s.begun ≡ true
    → DoesOver D files (step_on i (asks.MergeBegin which)) i s text text (Ok (applied.Refused why.Begun))
unfolding step_on
does_begun D files s i which text seen some =
    does_as D files (step_on i (asks.MergeBegin which)) (Refused why.Begun) i s text text (Ok (applied.Refused why.Begun))
    (ap (λ b. cond b (Refused why.Begun) (Done (Some (record i { begun = true })) ok_text)) (seen.begun ∙ some)) (refl, seen, refl)

pub does_end : {T : Type 0} (D : ℕ) (old new : Files) (s t : SetData) (i : Index) (r : Result T EndFault) (before after : List ℕ) → Sees D old s i
    → is_some s.begun ≡ true
    → (IsErrOf r end.NotBegun → ⊥) → OnOk r (Sees D new t (record i { begun = false })) → OnErr r (Sees D new t i) → after ≡ before ++ ok_text
    → DoesOver D new (step_on i asks.MergeEnd) i t before after (end_answer r)
unfolding step_on
does_end {T = T} D old new s t i r before after seen some apart done refused grew =
    does_as D new (step_on i asks.MergeEnd) (Done (Some (record i { begun = false })) ok_text) i t before after (end_answer r)
    (ap (λ b. cond b (Done (Some (record i { begun = false })) ok_text) (Refused why.NotBegun)) (seen.begun ∙ some))
    (by r apart done refused)
  where
    by : (r : Result T EndFault) → (IsErrOf r end.NotBegun → ⊥) → OnOk r (Sees D new t (record i { begun = false })) → OnErr r (Sees D new t i)
        → DoesOver D new (Done (Some (record i { begun = false })) ok_text) i t before after (end_answer r)
    by (Ok n) apart done refused = does_done D new i (record i { begun = false }) t ok_text before after done grew
    by (Err end.NotBegun) apart done refused = absurd (apart refl)
    by (Err end.Failed) apart done refused = refused
    by (Err (end.Damaged d)) apart done refused = refused
    by (Err end.Memory) apart done refused = refused

pub does_not_begun : (D : ℕ) (files : Files) (s : SetData) (i : Index) (text : List ℕ) → Sees D files s i → is_some s.begun ≡ false
    → DoesOver D files (step_on i asks.MergeEnd) i s text text (Ok (applied.Refused why.NotBegun))
unfolding step_on
does_not_begun D files s i text seen none =
    does_as D files (step_on i asks.MergeEnd) (Refused why.NotBegun) i s text text (Ok (applied.Refused why.NotBegun))
    (ap (λ b. cond b (Done (Some (record i { begun = false })) ok_text) (Refused why.NotBegun)) (seen.begun ∙ none)) (refl, seen, refl)
