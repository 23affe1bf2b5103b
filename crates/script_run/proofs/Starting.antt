-- What a run does on its way from the opening on.
use Rattle.std.proofs.Common.{◌≡◌, ◌≤◌, ◌+◌, ℕ, Bool, false, List, [], ◌∷◌, ◌++◌, length, map, None, Some}
use Rattle.std.proofs.Common.{Result, Ok, Err, IfOk, OnOk, refl, sym, ap, subst, ◌∙◌, ◌⊎◌, inl, inr, arith}
use Rattle.std.specs.List.{All, AllZip, Contains}
use Rattle.std.proofs.lemmas.List.Elements.{All-nil}
use Rattle.outer_io.specs.declared.file_name.FileName.TheVariants.{Commit}
use Rattle.outer_io.specs.Files.{Files, bytes_of}
use Rattle.page_cache.specs.declared.faults.PageFault.{PageFault}
use Rattle.documents.proofs.Lists.{nil_none}
use Rattle.live_bits.specs.LiveSet.{LiveSet}
use Rattle.commit_list.specs.declared.listed.Listed.{Listed}
use Rattle.commit_list.specs.Commits.{CommitData}
use Rattle.commit_list.specs.CommitFiles.{IsCommitFile}
use Rattle.commit_list.proofs.CommitPages.{one_file}
use Rattle.segment_file.specs.Heads.{Head}
use Rattle.script_lang.specs.Requests.{Request}
use Rattle.index_model.specs.State.{Index, Snapshot, State, new_index, given_of}
use Rattle.stored_index.specs.Stored.{HasHead, HaveHeads, HaveLive}
use Rattle.stored_index.specs.Opening.{segments_pages}
use Rattle.stored_index.proofs.Parts.{heads_once}
use Rattle.segment_view.specs.LiveSegments.{Contents, LiveSegment, heads_of, live_in_parts}
use Rattle.segment_set.specs.Sets.{NamedView, SetData}
use Rattle.segment_set.specs.Seen.{Sees, ShowsSnapshot}
use Rattle.index_core.specs.Light.{KeepsLevels, LooksAt, is_light}
use Rattle.index_core.specs.Closed.{IsIdle, NamesOnlyListed}
use Rattle.index_core.specs.Sessions.{Guards, IsLast, IsUnchanged, SessionData}
use Rattle.index_core.specs.Whole.{HasNewCanonical}
use Rattle.index_core.proofs.Listed.{attached_listed}
use Rattle.explain_queries.specs.Explained.{IsScope, Scope}
use Rattle.script_run.specs.Costs.{AllAsk, AreLight, TouchesLines, begins_no_merge, is_query}
use Rattle.script_run.specs.Leads.{AllListed, Leads, LeadsAll, LeadsFrom, Opens, LineMoment}
use Rattle.run_status.specs.Ends.{IsAnswer}
use Rattle.script_run.specs.Origins.{IsFrom}
use Rattle.run_status.specs.Stops.{status_of}
use Rattle.run_status.specs.declared.stop.Stop.{Stop}
use Rattle.run_status.specs.declared.stop.Stop.TheVariants as stop
use Rattle.script_run.specs.declared.origin.Origin.{Origin}
use Rattle.script_run.specs.declared.origin.Origin.TheVariants as origin
use Rattle.script_run.proofs.Asking.{query_stays}
use Rattle.script_run.proofs.AskingLines.{all_first, all_rest, state_rest, touches_parts}
use Rattle.script_run.proofs.Leading.{levels_still}
use Rattle.explain_queries.proofs.Scoped.{heads_zip, none_scope, scope_holds}
use Rattle.script_run.specs.Languages.{answer, meaning}
use Rattle.script_run.specs.Script.{state_after}
use Rattle.script_run.specs.declared.language.Language.{Language}
use Rattle.index_core.proofs.Committing.{on_ok_any}

-- ---- nothing was done

-- no segment is listed anew where the files are the same
pub canonical_still : (old new : Files) → new ≡ old → HasNewCanonical old new
canonical_still old new same c says l inside apart head has =
    absurd (apart c (subst (λ (f : Files). IsCommitFile (bytes_of (f Commit)) c) same says) (l, inside, refl))

-- ---- a session that is opened

none_shown : (c : Contents) (next : ℕ) (views : List NamedView) (ts : List Snapshot) → ts ≡ [] → AllZip (ShowsSnapshot c next) views ts → views ≡ []
none_shown c next [] ts none shown = refl
none_shown c next (v ∷ vs) ts none shown = absurd (subst (AllZip (ShowsSnapshot c next) (v ∷ vs)) none shown)

looks_now : (D : ℕ) (files : Files) (s : SetData) (i : Index) (heads : List Head) → Sees D files s i → i.snapshots ≡ [] → heads_of s.parts ≡ heads
    → LooksAt heads s
looks_now D files s i heads seen none now = record {
  now = now;
  snapshots = subst (All (λ (v : NamedView). heads_of v.parts ≡ heads)) (sym (none_shown seen.contents s.next s.snapshots i.snapshots none seen.snapshots))
      (All-nil (λ (v : NamedView). heads_of v.parts ≡ heads));
}

no_length : {X : Type 0} (xs : List X) → length xs ≤ 0 → xs ≡ []
no_length [] h = refl
no_length (x ∷ xs) h = absurd (omega (arith, h))

-- a new session opens as a new index, without a read
pub opens_new : (D dims leaf_size : ℕ) (files : Files) (reads : ℕ) (s : SessionData) (i : Index) (stored : State) → dims ≡ D
    → ((f : Files) → Sees D f s.set (new_index D leaf_size)) → s.set.parts ≡ []
    → IsFrom files (origin.New dims leaf_size) i stored → Opens (origin.New dims leaf_size) i stored files reads reads (Ok s)
opens_new D dims leaf_size files reads s i stored d seen bare from = record {
  rested = ap (λ (j : Index). j.begun) from.1;
  fresh = record { empty = no_entries (seen files); listed = λ p there apart. none_there p (subst (λ (ps : List LiveSegment). Contains ps p) bare there) };
  idle = λ is. let e : None ≡ Some i = sym from.2 ∙ is in absurd cc;
  looks = λ scope is. looks_now D files s.set (new_index D leaf_size) scope.heads (seen files) refl
      (ap heads_of bare ∙ ap (λ (q : Scope). q.heads) (sym (none_scope files scope from.0 is)));
  reads = λ scope is. omega arith;
}
  where
    none_there : (p : LiveSegment) → Contains {X = LiveSegment} [] p → ⊥
    none_there p there = nil_none p ⊥ there

    back_none : {X : Type 0} (xs ys : List X) → xs ++ ys ≡ [] → ys ≡ []
    back_none [] ys e = e
    back_none (x ∷ xs) ys e = absurd cc

    no_entries : Sees D files s.set (new_index D leaf_size) → s.set.buffer ≡ []
    no_entries sees = back_none (live_in_parts sees.contents s.set.parts) s.set.buffer
        (no_length _ (let few = sees.few in let points_given = sees.points_given in omega (arith, few, points_given)))

module _ (D : ℕ) (old new : Files) (before now : ℕ) (commit : CommitData) (i : Index) (stored : State) (dims : commit.dims ≡ D) (same : new ≡ old)
    (from : IsFrom old (origin.Stored commit) i stored)
    (reads : (heads : List Head) (sets : List LiveSet) → HaveHeads old commit heads → HaveLive old commit sets
    → now ≤ before + segments_pages old commit.listed heads) where
  few_reads : (s : Scope) → IsScope old s → now ≤ before + segments_pages old commit.listed s.heads
  few_reads s is = let holds = scope_holds old commit s from.0 is in reads s.heads holds.sets holds.heads holds.live

  rested_snapshots : i.snapshots ≡ []
  rested_snapshots = ap (λ (j : Index). j.snapshots) from.1.is

  rested_begun : i.begun ≡ false
  rested_begun = ap (λ (j : Index). j.begun) from.1.is

  own_heads : (s : SessionData) (sees : Sees D old s.set i) → Guards D old s → IsUnchanged s → (scope : Scope) → IsScope old scope
      → heads_of s.set.parts ≡ scope.heads
  own_heads s sees guards u scope is =
      let last = subst (IsLast old s.set) u.is (guards.last u.done) in
      let one = one_file (bytes_of (old Commit)) u.commit commit last.says from.0 in
      let ids = subst (λ (c : CommitData). map (λ (p : LiveSegment). p.head.id) s.set.parts ≡ map (λ (l : Listed). l.segment) c.listed) one u.same.ids in
      heads_once old commit (heads_of s.set.parts) scope.heads
      (subst (λ n. AllZip (HasHead n old) commit.listed (heads_of s.set.parts)) (sym dims)
      (heads_zip D old sees.contents commit.listed s.set.parts sees.stands.now ids)) (scope_holds old commit scope from.0 is).heads

  -- one that was attached, or wasn't
  pub opens_stored : (result : Result SessionData PageFault) → IfOk result (λ s. Sees D old s.set i) → IfOk result (Guards D old) → IfOk result IsUnchanged
      → IfOk result NamesOnlyListed
      → Opens (origin.Stored commit) i stored old before now result
  opens_stored (Err fault) seen guards unchanged listed = record { rested = rested_begun; fresh = tt; idle = λ is. tt; looks = λ s is. tt; reads = few_reads }
  opens_stored (Ok s) seen guards unchanged listed = record {
    rested = rested_begun;
    fresh = record { empty = unchanged.same.empty; listed = attached_listed D old s guards unchanged };
    idle = λ is. record { unchanged = unchanged; listed = listed };
    looks = λ scope is. looks_now D old s.set i scope.heads seen rested_snapshots (own_heads s seen guards unchanged scope is);
    reads = few_reads;
  }

-- one that found no memory
pub opens_none : (dims leaf_size : ℕ) (files : Files) (reads : ℕ) (i : Index) (stored : State) (fault : PageFault)
    → IsFrom files (origin.New dims leaf_size) i stored → Opens (origin.New dims leaf_size) i stored files reads reads (Err fault)
opens_none dims leaf_size files reads i stored fault from =
    record { rested = ap (λ (j : Index). j.begun) from.1; fresh = tt; idle = λ is. tt; looks = λ s is. tt; reads = λ s is. omega arith }

module _ {T : Type 0} {E : Type 0} (lang : Language) (o : Origin) (i : Index) (stored : State) (line : ℕ) (lines : List (List ℕ)) (old middle : Files)
    (before between : ℕ) (same : middle ≡ old) where
  pub open_fails : (fault : PageFault) → Opens o i stored old before between (Err fault) → (result : Result T E) (e : E) → result ≡ Err e
      → LeadsFrom lang o i stored line lines old middle before between result
  open_fails fault opens result e is = subst (LeadsFrom lang o i stored line lines old middle before between) (sym is) (record {
    canon = tt;
    levels = λ asks. tt;
    still = λ there asks. same;
    reads = λ s scope which n touches. let few = opens.reads s scope in omega (arith, few);
  })

  -- and the lines are done in it
  pub open_leads : (s : SessionData) (new : LineMoment) (result : Result T E) → Opens o i stored old before between (Ok s)
      → Leads lang line i lines (record { files = middle; session = s; reads = between }) new result
      → LeadsFrom lang o i stored line lines old new.files before new.reads result
  open_leads s new result opens leads = record {
    canon = subst (λ (f : Files). OnOk result (HasNewCanonical f new.files)) same
        (leads.canon (subst (λ (f : Files). AllListed f s.set) (sym same) opens.fresh.listed));
    levels = λ asks. subst (λ (f : Files). OnOk result (KeepsLevels f new.files)) same (leads.levels opens.rested asks);
    still = λ there asks. leads.still opens.rested (opens.idle there) asks ∙ same;
    reads = λ scope is which n touches.
        let few = opens.reads scope is in
        let more = leads.reads scope.heads (opens.looks scope is) opens.fresh.empty opens.rested (by_which scope which) n touches in
        omega (arith, few, more);
  }
    where
      by_which : (scope : Scope) → ((stored ≡ Some i) × AllAsk lang is_query line (Some i) lines) ⊎ AreLight lang scope.heads line (Some i) lines
          → (IsIdle s × AllAsk lang is_query line (Some i) lines) ⊎ AreLight lang scope.heads line (Some i) lines
      by_which scope (inl (there, asks)) = inl (opens.idle there, asks)
      by_which scope (inr light) = inr light

-- ---- lines where no index is there

-- the lines that are left ask what all do
pub record Nears (lang : Language) (lines : List (List ℕ)) (line : ℕ) (rest : List (List ℕ)) : Type 0 where
  pub asks : (test : Request → Bool) → AllAsk lang test 1 None lines → AllAsk lang test line None rest
  pub after : state_after (meaning lang) line None rest ≡ state_after (meaning lang) 1 None lines
  pub touches : (heads : List Head) (n : ℕ) → TouchesLines lang heads 1 None lines n → TouchesLines lang heads line None rest n

pub nears_first : (lang : Language) → (lines : List (List ℕ)) → Nears lang lines 1 lines
nears_first lang lines = record { asks = λ test h. h; after = refl; touches = λ heads n h. h }

touches_none : (lang : Language) → (heads : List Head) (line : ℕ) (rest : List (List ℕ)) (n m k : ℕ) → m ≡ 0 → n ≡ m + k
    → TouchesLines lang heads line None rest k → TouchesLines lang heads line None rest n
touches_none lang heads line rest n m k none sum h = subst (TouchesLines lang heads line None rest) (let same : k ≡ n = omega (arith, none, sum) in same) h

module _ (lang : Language) (lines : List (List ℕ)) (line : ℕ) (rest : List (List ℕ)) (near : Nears lang lines line rest) (x : List ℕ) (more : List (List ℕ))
    (is : rest ≡ x ∷ more) where
  -- still no index is there, and the lines left ask what all do
  pub nears_on : (answer lang line None x).state ≡ None → Nears lang lines (line + 1) more
  nears_on none = record {
    asks = λ test h. all_rest lang line None None rest x more is none test (near.asks test h);
    after = state_rest lang line None None rest x more is none ∙ near.after;
    touches = λ heads n h.
        let parts = touches_parts lang line None None rest x more is none heads n (near.touches heads n h) in
        touches_none lang heads (line + 1) more n parts.0 parts.1 parts.2 parts.4 parts.3;
  }

  module _ {T E : Type 0} (dims leaf_size : ℕ) (made : (answer lang line None x).state ≡ Some (new_index dims leaf_size)) (old new : Files) (before now : ℕ)
      (none : old Commit ≡ None) (result : Result T E)
      (leads : LeadsFrom lang (origin.New dims leaf_size) (new_index dims leaf_size) None (line + 1) more old new before now result) where
    no_queries : AllAsk lang is_query 1 None lines → ⊥
    no_queries asks =
        let stays =
        query_stays lang line None x (all_first lang line None (Some (new_index dims leaf_size)) rest x more is made is_query (near.asks is_query asks)) in
        let e : Some (new_index dims leaf_size) ≡ None = sym made ∙ stays in absurd cc

    light_rest : (heads : List Head) → AreLight lang heads 1 None lines → AreLight lang heads (line + 1) (Some (new_index dims leaf_size)) more
    light_rest heads l = record {
      asks = all_rest lang line None (Some (new_index dims leaf_size)) rest x more is made is_light (near.asks is_light l.asks);
      points =
          subst (λ (s : State). given_of s ≤ 0 + 16384) (sym (state_rest lang line None (Some (new_index dims leaf_size)) rest x more is made ∙ near.after))
          l.points;
      room = l.room;
    }

    made_reads : (s : Scope) → IsScope old s → AllAsk lang is_query 1 None lines ⊎ AreLight lang s.heads 1 None lines → (n : ℕ)
        → TouchesLines lang s.heads 1 None lines n → now ≤ before + n
    made_reads s scope (inl asks) n touches = absurd (no_queries asks)
    made_reads s scope (inr light) n touches =
        let parts = touches_parts lang line None (Some (new_index dims leaf_size)) rest x more is made s.heads n (near.touches s.heads n touches) in
        let few = leads.reads s scope (inr (light_rest s.heads light)) parts.1 parts.3 in
        omega (arith, few, parts.4)

    -- a line makes an index, and the rest is done on it
    pub made_leads : LeadsAll lang None lines old new before now result
    made_leads = record {
      canon = leads.canon;
      levels = λ asks.
          leads.levels (all_rest lang line None (Some (new_index dims leaf_size)) rest x more is made begins_no_merge (near.asks begins_no_merge asks));
      still = λ asks. absurd (no_queries asks);
      reads = λ s scope pages opening which n touches.
          let is_none = ap (λ (q : Scope). q.state) (none_scope old s none scope) in
          let few = made_reads s scope (subst (λ (o : State). AllAsk lang is_query 1 o lines ⊎ AreLight lang s.heads 1 o lines) is_none which) n
          (subst (λ (o : State). TouchesLines lang s.heads 1 o lines n) is_none touches) in
          omega (arith, few);
    }

-- a call before left the folder alone
pub leads_same : {T E : Type 0} (lang : Language)
    → (state : State) (lines : List (List ℕ)) (old middle new : Files) (before between now : ℕ) (result : Result T E) → middle ≡ old → between ≡ before
    → LeadsAll lang state lines middle new between now result → LeadsAll lang state lines old new before now result
leads_same lang state lines old middle new before between now result same unread leads =
    subst (λ (f : Files). LeadsAll lang state lines f new before now result) same
    (subst (λ (n : ℕ). LeadsAll lang state lines middle new n now result) unread leads)

-- nothing was done with the folder
pub leads_none : {T E : Type 0} (lang : Language) → (state : State) (lines : List (List ℕ)) (old new : Files) (before now : ℕ) (result : Result T E) → new ≡ old
    → now ≡ before → LeadsAll lang state lines old new before now result
leads_none lang state lines old new before now result same unread = record {
  canon = on_ok_any result (canonical_still old new same);
  levels = λ asks. on_ok_any result (levels_still old new same);
  still = λ asks. same;
  reads = λ s scope pages opening which n touches. omega (arith, unread);
}

-- ---- the status

-- what holds where the lines are all answered, by the status
pub when_answered : {P : Type 0} (done : Result ℕ Stop) → IsAnswer (status_of done) → OnOk done P → P
when_answered (Ok count) a p = p
when_answered (Err stop.SinkFault) a p = absurd a
when_answered (Err stop.FolderFault) a p = absurd a
when_answered (Err stop.Memory) a p = absurd a
when_answered (Err (stop.Damaged damage)) a p = absurd a
