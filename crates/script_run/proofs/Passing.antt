-- What one line does on its way, by what the session did with its request.
use Rattle.std.proofs.Common.{◌≡◌, ◌≤◌, ◌+◌, ◌<◌, ◌^◌, ℕ, Bool, true, false, cond, List, [], ◌∷◌, length, Option, None}
use Rattle.std.proofs.Common.{Some, Result, Ok, Err, OnOk, refl, sym, ap, subst, ◌∙◌, inl, inr, ⊎_elim, arith, ℤ}
use Rattle.std.specs.Prelude.{is_ok}
use Rattle.std.specs.List.{All, AllZip}
use Rattle.std.specs.Option.{option_map}
use Rattle.std.specs.Str.{bytes_eq}
use Rattle.std.proofs.lemmas.List.Elements.{All-head, All-tail}
use Rattle.outer_io.specs.Files.{Files}
use Rattle.page_cache.specs.declared.faults.PageFault.{PageFault}
use Rattle.point_codec.specs.Points.{Item, Region, in_box}
use Rattle.cell_relate.specs.Boxes as boxes
use Rattle.documents.specs.Documents.{Document}
use Rattle.documents.specs.Entries.{AreDocs}
use Rattle.documents.specs.Nearest.{nearest}
use Rattle.documents.specs.NearestEntries.{ComesBefore, IsNearest, nears_of}
use Rattle.documents.proofs.Lists.{nil_none, pairs_none}
use Rattle.nearest_query.specs.Segments.{AreNearLeaves, bound_of}
use Rattle.segment_file.specs.Heads.{Head}
use Rattle.script_lang.specs.Requests.{Request, Viewed}
use Rattle.script_lang.specs.Requests as asks
use Rattle.script_lang.specs.declared.faults.Refusal.{Refusal}
use Rattle.point_codec.specs.declared.entries.Near.{Near}
use Rattle.index_model.specs.State.{Index, Snapshot, snapshot_of, viewed_docs, given_of}
use Rattle.ring_parity.specs.Rings.{all_edges}
use Rattle.polygon_query.specs.Shape as polygons
use Rattle.index_model.specs.Step.{in_plane_polygon, step_on}
use Rattle.index_model.specs.Script.{Answer, answer_to}
use Rattle.index_model.specs.declared.session.Applied.{Applied}
use Rattle.index_model.specs.declared.session.Applied.TheVariants as applied
use Rattle.segment_view.specs.Costs.{AreTouched}
use Rattle.segment_view.specs.LiveSegments.{Contents, LiveSegment, heads_of}
use Rattle.segment_set.specs.Sets.{NamedView, SetData, buffer_in, parts_in, view_of, viewed_parts}
use Rattle.segment_set.specs.Seen.{Sees, ShowsSnapshot, entries_seen}
use Rattle.index_core.specs.Costs.{ReadsNear, ReadsTouched}
use Rattle.index_core.specs.Light.{LooksAt, is_light}
use Rattle.index_core.specs.Sessions.{IsUnchanged, SessionData}
use Rattle.index_core.proofs.Bringing.{brings_same}
use Rattle.explain_queries.specs.Explained.{reach}
use Rattle.explain_queries.proofs.Explaining.{reach_is}
use Rattle.explain_queries.proofs.There.{are_nearest, there, there_found}
use Rattle.index_core.proofs.Undone.{begins_none}
use Rattle.script_run.specs.Costs.{TouchesOn, TouchesHeard, TouchesView, is_query}
use Rattle.script_run.specs.Leads.{HasRoom, Passes, LineMoment, StaysFew}
use Rattle.script_run.proofs.Asking.{Asks, IsRefusal, asked, begin_refused, full_of, full_or_given, light_gives, read_state, refusal_state, unread_state}
use Rattle.script_run.specs.Languages.{LineRequest, answer, line_request}
use Rattle.script_run.specs.declared.language.Language.{Language}
use Rattle.range_docs.specs.declared.faults.RangeFault.{RangeFault}
use Rattle.script_run.proofs.RequestsDone.{no, IsApplied, not_done, a_refusal, refused_still, looks_still}
use Rattle.script_run.proofs.RequestsDone.{buffer_still, levels_after, still_files, still_session}
use Rattle.index_core.proofs.Committing.{on_ok_any}

-- ---- what a query looks at

-- a view and a snapshot of one name, or neither
abbrev Shows : Contents → (next : ℕ) → List Head → Option NamedView → Option Snapshot → Type 0
Shows c next heads None None = Unit {0}
Shows c next heads (Some v) (Some t) = ShowsSnapshot c next v t × (heads_of v.parts ≡ heads)
Shows c next heads None (Some t) = ⊥
Shows c next heads (Some v) None = ⊥

found_shows : (c : Contents) (next : ℕ) (heads : List Head) (name : List ℕ) (views : List NamedView) (ts : List Snapshot)
    → AllZip (ShowsSnapshot c next) views ts → All (λ (v : NamedView). heads_of v.parts ≡ heads) views
    → Shows c next heads (view_of name views) (snapshot_of name ts)
found_shows c next heads name [] [] shown all = tt
found_shows c next heads name [] (t ∷ ts) shown all = absurd shown
found_shows c next heads name (v ∷ vs) [] shown all = absurd shown
found_shows c next heads name (v ∷ vs) (t ∷ ts) shown all =
    by (bytes_eq v.name name) (bytes_eq t.name name) (ap (λ n. bytes_eq n name) shown.0.name)
    (found_shows c next heads name vs ts shown.1 (All-tail (λ (w : NamedView). heads_of w.parts ≡ heads) v vs all))
  where
    by : (a b : Bool) → a ≡ b → Shows c next heads (view_of name vs) (snapshot_of name ts)
        → Shows c next heads (cond a (Some v) (view_of name vs)) (cond b (Some t) (snapshot_of name ts))
    by true true e rest = (shown.0, All-head (λ (w : NamedView). heads_of w.parts ≡ heads) v vs all)
    by false false e rest = rest
    by true false e rest = absurd cc
    by false true e rest = absurd cc

module _ (D : ℕ) (files : Files) (s : SetData) (i : Index) (seen : Sees D files s i) (heads : List Head) (looks : LooksAt heads s) (before now : ℕ) where
  -- no more is read than it touches
  module _ (has : List ℤ → Bool) (crosses : Region → Bool) (n : ℕ) where
    touched_by : (v : Option NamedView) (t : Option Snapshot) → Shows seen.contents s.next heads v t → ReadsTouched D has crosses (parts_in v) before now
        → TouchesView (option_map (λ (u : Snapshot). u.docs) t) (λ docs m. AreTouched i.dims has crosses heads m) n → now ≤ before + n
    touched_by None None shows reads is = let none = reads 0 refl in omega (arith, none)
    touched_by (Some v) (Some t) shows reads is =
        reads n (subst (λ (hs : List Head). AreTouched D has crosses hs n) (sym shows.1) (subst (λ d. AreTouched d has crosses heads n) seen.dims is))
    touched_by None (Some t) shows reads is = absurd shows
    touched_by (Some v) None shows reads is = absurd shows

    touched_reads : (view : Viewed) → ReadsTouched D has crosses (viewed_parts view s) before now
        → TouchesView (viewed_docs view i) (λ docs m. AreTouched i.dims has crosses heads m) n → now ≤ before + n
    touched_reads None reads is =
        reads n (subst (λ (hs : List Head). AreTouched D has crosses hs n) (sym looks.now) (subst (λ d. AreTouched d has crosses heads n) seen.dims is))
    touched_reads (Some name) reads is =
        touched_by (view_of name s.snapshots) (snapshot_of name i.snapshots)
        (found_shows seen.contents s.next heads name s.snapshots i.snapshots seen.snapshots looks.snapshots) reads is

  module _ (k : ℕ) (at : List ℤ) (n : ℕ) where
    abbrev ReadsNearest : List LiveSegment → List Item → Type 0
    ReadsNearest parts buffer =
        (found : List Near) → IsNearest k (nears_of at (entries_seen seen.contents parts buffer)) found
        → (leaves : ℕ) → AreNearLeaves D at (bound_of k found) (heads_of parts) leaves → now ≤ before + leaves

    near_some : (parts : List LiveSegment) (buffer : List Item) (docs : List Document) → AreDocs s.next (entries_seen seen.contents parts buffer) docs
        → heads_of parts ≡ heads → ReadsNearest parts buffer
        → AreNearLeaves i.dims at (reach k (nearest k at docs)) heads n → now ≤ before + n
    near_some parts buffer docs are same reads is =
        let xs = entries_seen seen.contents parts buffer in
        let found = there s.next k xs docs at are in
        let bound : reach k (nearest k at docs) ≡ bound_of k found = ap (reach k) (sym (there_found s.next k xs docs at are)) ∙ reach_is k found in
        reads found (are_nearest s.next k xs docs at are) n
        (subst (λ (hs : List Head). AreNearLeaves D at (bound_of k found) hs n) (sym same)
        (subst (λ (o : Option ℕ). AreNearLeaves D at o heads n) bound (subst (λ d. AreNearLeaves d at (reach k (nearest k at docs)) heads n) seen.dims is)))

    none_nearest : IsNearest k [] []
    none_nearest = record {
      rises = pairs_none ComesBefore;
      among = λ a h. nil_none a _ h;
      least = λ a x h m same. nil_none a _ h;
      few = omega arith;
      left_out = λ x m. nil_none x _ m;
    }

    near_by : (v : Option NamedView) (t : Option Snapshot) → Shows seen.contents s.next heads v t → ReadsNearest (parts_in v) (buffer_in v)
        → TouchesView (option_map (λ (u : Snapshot). u.docs) t) (λ docs m. AreNearLeaves i.dims at (reach k (nearest k at docs)) heads m) n → now ≤ before + n
    near_by None None shows reads is = let none = reads [] none_nearest 0 refl in omega (arith, none)
    near_by (Some v) (Some t) shows reads is = near_some v.parts v.buffer t.docs shows.0.docs shows.1 reads is
    near_by None (Some t) shows reads is = absurd shows
    near_by (Some v) None shows reads is = absurd shows

    near_reads : (view : Viewed) → ReadsNear D files view k at s before now
        → TouchesView (viewed_docs view i) (λ docs m. AreNearLeaves i.dims at (reach k (nearest k at docs)) heads m) n → now ≤ before + n
    near_reads None reads is = near_some s.parts s.buffer i.docs seen.docs looks.now (reads seen.contents seen.stands) is
    near_reads (Some name) reads is =
        near_by (view_of name s.snapshots) (snapshot_of name i.snapshots)
        (found_shows seen.contents s.next heads name s.snapshots i.snapshots seen.snapshots looks.snapshots)
        (reads seen.contents seen.stands) is

-- ---- reads

module _ (D : ℕ) (told : Type 0) (is_told : told) (i : Index) (old new : LineMoment) (before after : List ℕ) (seen : Sees D old.files old.session.set i)
    (rested : i.begun ≡ false)
    (heads : List Head) (looks : LooksAt heads old.session.set) where
  full_reads : (points : List (List ℤ)) (result : Result Applied PageFault) → IsRefusal (step_on i (asks.Add points))
      → IsApplied D told i (asks.Add points) old new before after result → new.reads ≡ old.reads
  full_reads points (Ok applied.Done) h a = absurd (not_done D new.files i new.session.set before after (step_on i (asks.Add points)) h a.does)
  full_reads points (Ok (applied.Refused why)) h a = a.unread
  full_reads points (Err fault) h a = no (a.barred (subst (λ n. 2 ^ 24 < n + length points) seen.points_given (full_of i points h)))

  -- a light request, or one that is refused, reads no more than it touches
  reads_few : (line : ℕ) (r : Request) (result : Result Applied PageFault) → Asks is_light i r
      → HasRoom old.session.set i (answer_to line (Some i) (step_on i r)).state → IsApplied D told i r old new before after result
      → (n : ℕ) → TouchesOn i heads r n → new.reads ≤ old.reads + n
  unfolding step_on
  reads_few line (asks.Add points) result ask room a n is =
      ⊎_elim
      (λ h. let same = full_reads points result h a in omega (arith, same))
      (λ gives. let same = a.reads (omega (arith, room, gives)) in omega (arith, same))
      (full_or_given line i points)
  reads_few line (asks.InBox view lo hi) result ask room a n is =
      touched_reads D old.files old.session.set i seen heads looks old.reads new.reads (in_box (record { lo = lo; hi = hi }))
      (boxes.crosses (record { lo = lo; hi = hi })) n view a.reads is
  reads_few line (asks.InPolygon view rings) result ask room a n is =
      touched_reads D old.files old.session.set i seen heads looks old.reads new.reads (polygons.has D (all_edges rings)) (polygons.crosses D (all_edges rings))
      n view a.reads
      (subst (λ (d : ℕ). TouchesView (viewed_docs view i)
      (λ docs m. AreTouched i.dims (in_plane_polygon d rings) (polygons.crosses d (all_edges rings)) heads m) n) seen.dims is)
  reads_few line (asks.Nearest view k at) result ask room a n is =
      near_reads D old.files old.session.set i seen heads looks old.reads new.reads k at n view (a.reads is_told) is
  reads_few line (asks.DeleteBox lo hi) result (inl h) room a n is = absurd h
  reads_few line (asks.DeleteBox lo hi) result (inr e) room a n is = no e
  reads_few line asks.Flush result (inl h) room a n is = absurd h
  reads_few line asks.Flush result (inr e) room a n is = no e
  reads_few line asks.Merge result (inl h) room a n is = absurd h
  reads_few line asks.Merge result (inr e) room a n is = no e
  reads_few line (asks.MergeBegin positions) result (inl h) room a n is = absurd (begin_refused i.begun _ rested h)
  reads_few line (asks.MergeBegin positions) result (inr e) room a n is = no e
  reads_few line asks.Commit result (inl h) room a n is = absurd h
  reads_few line asks.Commit result (inr e) room a n is = no e
  reads_few line asks.Reopen result (inl h) room a n is = absurd h
  reads_few line asks.Reopen result (inr e) room a n is = no e
  reads_few line r result ask room a n is = let same : new.reads ≡ old.reads = a.reads in omega (arith, same)

  -- and leaves the segments, and the buffer but for what it adds
  done_few : (line : ℕ) (r : Request) → is_light r ≡ true → HasRoom old.session.set i (answer_to line (Some i) (step_on i r)).state
      → IsApplied D told i r old new before after (Ok applied.Done)
      → StaysFew heads i (answer_to line (Some i) (step_on i r)).state old.session.set new.session.set
  done_few line r light room a =
      let gives = light_gives line i r light (λ h. not_done D new.files i new.session.set before after (step_on i r) h a.does) in
      let stays = a.light light (omega (arith, room, gives)) in
      record { looks = stays.heads heads looks; waits = omega (arith, gives, stays.waits) }

  refused_few : (line : ℕ) (r : Request) (why : Refusal) → IsApplied D told i r old new before after (Ok (applied.Refused why))
      → StaysFew heads i (answer_to line (Some i) (step_on i r)).state old.session.set new.session.set
  refused_few line r why a =
      let h = a_refusal D new.files i new.session.set before after (step_on i r) why a.does in
      let still = refused_still told i r old.files new.files old.session new.session why h a.still in
      let same : given_of (answer_to line (Some i) (step_on i r)).state ≡ i.points_given = ap given_of (refusal_state line (Some i) (step_on i r) h) in
      record {
        looks = looks_still heads old.session.set new.session.set still.set looks;
        waits = omega (arith, same, buffer_still old.session.set new.session.set still.set);
      }

  stays_few : (line : ℕ) (r : Request) (result : Result Applied PageFault) → Asks is_light i r
      → HasRoom old.session.set i (answer_to line (Some i) (step_on i r)).state → IsApplied D told i r old new before after result
      → OnOk result (StaysFew heads i (answer_to line (Some i) (step_on i r)).state old.session.set new.session.set)
  stays_few line r (Err fault) ask room a = tt
  stays_few line r (Ok (applied.Refused why)) ask room a = refused_few line r why a
  stays_few line r (Ok applied.Done) (inr light) room a = done_few line r light room a
  stays_few line r (Ok applied.Done) (inl h) room a = absurd (not_done D new.files i new.session.set before after (step_on i r) h a.does)

-- ---- a line

unchanged_room : (s : SessionData) → IsUnchanged s → length s.set.buffer ≤ 16384
unchanged_room s u = let none : length s.set.buffer ≡ 0 = ap (λ (xs : List Item). length xs) u.same.empty in omega (arith, none)

-- a line that was read, and whose request the session did
pub passes_applied : (lang : Language) → (D : ℕ) (told : Type 0) → told
    → (line : ℕ) (i : Index) (bytes : List ℕ) (r : Request) (old new : LineMoment) (before after : List ℕ) (result : Result Applied PageFault)
    → Sees D old.files old.session.set i
    → line_request lang (Some D) bytes ≡ Ok r → IsApplied D told i r old new before after result → Passes lang D line i bytes old new result
passes_applied lang D told is_told line i bytes r old new before after result seen says a = record {
  canon = a.canon;
  levels = λ rested. levels_after D told i r old new before after result a (begins_none D old.files old.session.set i seen rested);
  still = λ rested u ask.
      still_files D told is_told i old new before after rested (begins_none D old.files old.session.set i seen rested) seen.points_given r result
      (asked lang is_query line i bytes r is ask) (unchanged_room old.session u) a;
  idle = λ rested u ask. still_session D told is_told i old new before after rested
      (begins_none D old.files old.session.set i seen rested) seen.points_given r result (asked lang is_query line i bytes r is ask) u a;
  reads = λ heads looks rested ask room n touches.
      reads_few D told is_told i old new before after seen rested heads looks line r result (asked lang is_light line i bytes r is ask)
      (subst (λ (w : Answer). HasRoom old.session.set i w.state) answers room) a n (subst (λ (x : LineRequest). TouchesHeard (Some i) heads x n) is touches);
  looks = λ heads looks rested ask room. subst (λ (w : Answer). OnOk result (StaysFew heads i w.state old.session.set new.session.set)) (sym answers)
      (stays_few D told is_told i old new before after seen rested heads looks line r result (asked lang is_light line i bytes r is ask)
      (subst (λ (w : Answer). HasRoom old.session.set i w.state) answers room) a);
}
  where
    is : line_request lang (Some i.dims) bytes ≡ Ok r
    is = ap (λ d. line_request lang (Some d) bytes) seen.dims ∙ says

    answers : answer lang line (Some i) bytes ≡ answer_to line (Some i) (step_on i r)
    answers = read_state lang line i bytes r is

-- the same of another result, which is fine only where the first is
fine_as : {S T E F : Type 0} (P : Type 0) (r : Result S E) (q : Result T F) → (is_ok q ≡ true → is_ok r ≡ true) → OnOk r P → OnOk q P
fine_as P r (Err e) fine h = tt
fine_as P (Ok x) (Ok y) fine h = h
fine_as P (Err e) (Ok y) fine h = no (fine refl)

pub passes_to : {S T E F : Type 0} (lang : Language) → (D line : ℕ) (i : Index) (bytes : List ℕ) (old new : LineMoment) (r : Result S E) (q : Result T F)
    → (is_ok q ≡ true → is_ok r ≡ true) → Passes lang D line i bytes old new r → Passes lang D line i bytes old new q
passes_to lang D line i bytes old new r q fine p = record {
  canon = p.canon;
  levels = λ rested. fine_as _ r q fine (p.levels rested);
  still = p.still;
  idle = λ rested u ask. fine_as _ r q fine (p.idle rested u ask);
  reads = p.reads;
  looks = λ heads looks rested ask room. fine_as _ r q fine (p.looks heads looks rested ask room);
}

-- a line that can't be read is refused, and nothing is done
pub passes_unread : {T E : Type 0} (lang : Language) → (D line : ℕ) (i : Index) (bytes : List ℕ) (f : RangeFault) (old : LineMoment) (r : Result T E)
    → i.dims ≡ D
    → line_request lang (Some D) bytes ≡ Err f → Passes lang D line i bytes old old r
passes_unread lang D line i bytes f old r dims fails = record {
  canon = brings_same D old.files old.files old.session.set.parts old.session.set.parts refl refl;
  levels = λ rested. on_ok_any r (inl refl);
  still = λ rested u ask. refl;
  idle = λ rested u ask. on_ok_any r u;
  reads = λ heads looks rested ask room n touches. omega arith;
  looks = λ heads looks rested ask room.
      on_ok_any r (record {
        looks = looks;
        waits = let same = ap given_of (unread_state lang line i bytes f (ap (λ d. line_request lang (Some d) bytes) dims ∙ fails)) in omega (arith, same);
      });
}

-- memory was wanting before anything was done
pub passes_none : {T E : Type 0} (lang : Language) → (D line : ℕ) (i : Index) (bytes : List ℕ) (old : LineMoment) (e : E)
    → Passes {T = T} lang D line i bytes old old (Err e)
passes_none lang D line i bytes old e = record {
  canon = brings_same D old.files old.files old.session.set.parts old.session.set.parts refl refl;
  levels = λ rested. tt;
  still = λ rested u ask. refl;
  idle = λ rested u ask. tt;
  reads = λ heads looks rested ask room n touches. omega arith;
  looks = λ heads looks rested ask room. tt;
}
