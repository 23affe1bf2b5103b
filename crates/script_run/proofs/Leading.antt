-- What lines do on their way, one after the other, and with the commit at their end.
use Rattle.std.proofs.Common.{◌≡◌, ◌≤◌, ◌<◌, ◌+◌, ◌&&◌, ℕ, Bool, true, false, not, cond, List, [], ◌∷◌, length, Option}
use Rattle.std.proofs.Common.{None, Some, Result, Ok, Err, OnOk, refl, sym, ap, subst, ◌∙◌, ◌⊎◌, inl, inr, arith}
use Rattle.std.specs.List.{count_by, zip}
use Rattle.std.proofs.lemmas.List.Sums.{sum_by-cons}
use Rattle.outer_io.specs.declared.file_name.FileName.TheVariants.{Commit}
use Rattle.outer_io.specs.Files.{Files, bytes_of}
use Rattle.merge_policy.specs.Choice.{free_count, is_of_level}
use Rattle.commit_list.specs.CommitFiles.{IsCommitFile}
use Rattle.segment_file.specs.Heads.{Head}
use Rattle.index_model.specs.State.{Index, State, at_rest, given_of}
use Rattle.segment_view.specs.LiveSegments.{LiveSegment, heads_of}
use Rattle.segment_set.specs.Sets.{BegunMerge, IsSettled, SetData, pins_of, sizes_of}
use Rattle.segment_set.specs.Seen.{Sees}
use Rattle.index_core.specs.Effects.{BringsCanonical}
use Rattle.index_core.specs.Light.{KeepsLevels, LooksAt, is_light}
use Rattle.index_core.specs.Closed.{IsSessionClosed, IsIdle}
use Rattle.index_core.specs.Sessions.{Guards, IsUnchanged}
use Rattle.index_core.specs.Whole.{HasNewCanonical}
use Rattle.index_core.proofs.Bringing.{brings_same, brings_then}
use Rattle.index_core.proofs.Listed.{new_canonical}
use Rattle.script_run.specs.Costs.{AllAsk, AreLight, HasRoomInLevels, TouchesLines, begins_no_merge, is_query}
use Rattle.script_run.specs.Leads.{AllListed, Closes, HasRoom, Leads, Passes, LineMoment}
use Rattle.script_run.proofs.Asking.{Rested, light_begins, line_rests}
use Rattle.script_run.proofs.AskingLines.{all_first, all_rest, all_weaker}
use Rattle.script_run.proofs.Asking.{lines_give, query_light}
use Rattle.script_run.proofs.AskingLines.{queries_stay, state_rest, touches_parts}
use Rattle.index_core.proofs.Undone.{begins_none}
use Rattle.script_run.specs.Languages.{answer, meaning}
use Rattle.script_run.specs.Script.{state_after}
use Rattle.script_run.specs.declared.language.Language.{Language}

-- ---- levels

pub levels_still : (old new : Files) → new ≡ old → KeepsLevels old new
levels_still old new same = inl (ap (λ (f : Files). f Commit) same)

pub levels_then : (f g h : Files) → KeepsLevels f g → KeepsLevels g h → KeepsLevels f h
levels_then f g h (inl one) (inl two) = inl (two ∙ one)
levels_then f g h (inr (c, says, few)) (inl two) = inr (c, subst (λ (b : Option (List ℕ)). IsCommitFile (bytes_of b) c) (sym two) says, few)
levels_then f g h first (inr few) = inr few

-- where no merge is begun, the free segments of a level are all of it
free_of : (level : ℕ) (parts : List LiveSegment)
    → free_count level (sizes_of parts) (pins_of None parts) ≡ count_by (λ (h : Head). is_of_level level h.entries) (heads_of parts)
unfolding free_count
free_of level [] = refl
free_of level (p ∷ ps) =
    sum_by-cons (λ (s : ℕ × Bool). cond (is_of_level level s.0 && not s.1) 1 0) (p.head.entries, false) (zip (sizes_of ps) (pins_of None ps))
    ∙ (λ i. one (is_of_level level p.head.entries) i + free_of level ps i)
    ∙ sym (sum_by-cons (λ (h : Head). cond (is_of_level level h.entries) 1 0) p.head (heads_of ps))
  where
    one : (b : Bool) → ◌≡◌ {A = ℕ} (cond (b && not false) 1 0) (cond b 1 0)
    one true = refl
    one false = refl

settled_by : (s : SetData) (begun : Option BegunMerge) (heads : List Head) → begun ≡ None → heads_of s.parts ≡ heads → HasRoomInLevels heads → (level : ℕ)
    → free_count level (sizes_of s.parts) (pins_of begun s.parts) < 10
settled_by s begun heads none same room level =
    let free : free_count level (sizes_of s.parts) (pins_of begun s.parts) ≡ count_by (λ (h : Head). is_of_level level h.entries) heads
    = ap (λ b. free_count level (sizes_of s.parts) (pins_of b s.parts)) none ∙ free_of level s.parts
    ∙ ap (count_by (λ (h : Head). is_of_level level h.entries)) same in
    let few = room level in
    omega (arith, free, few)

pub settled : (s : SetData) (heads : List Head) → s.begun ≡ None → LooksAt heads s → HasRoomInLevels heads → IsSettled s
settled s heads none looks room = settled_by s s.begun heads none looks.now room

-- ---- the commit at the end

-- what closing a session says
pub record Ends {T E : Type 0} (D : ℕ) (told : Type 0) (old new : LineMoment) (result : Result T E) : Type 0 where
  pub is_told : told
  pub closed : OnOk result (IsSessionClosed D told old.files new.files old.session new.session)
  pub guards : Guards D old.files old.session
  pub canon : BringsCanonical D old.files new.files old.session.set.parts new.session.set.parts
  pub idle : IsIdle old.session → new.files ≡ old.files
  pub reads : IsUnchanged old.session ⊎ IsSettled old.session.set → new.reads ≡ old.reads
  pub few : old.session.set.begun ≡ None → OnOk result (KeepsLevels old.files new.files)

closes_canon : {T E told : Type 0} (D : ℕ) (i : Index) (old new : LineMoment) (r : Result T E) → Sees D old.files old.session.set i → Ends D told old new r
    → (first : Files) (s : SetData) → AllListed first s
    → BringsCanonical D first old.files s.parts old.session.set.parts → OnOk r (HasNewCanonical first new.files)
closes_canon D i old new (Err e) seen c first s listed brings = tt
closes_canon D i old new (Ok x) seen c first s listed brings =
    new_canonical D first new.files s new.session (at_rest i) listed
    (brings_then D first old.files new.files s.parts old.session.set.parts new.session.set.parts brings c.canon)
    (c.closed.seen c.is_told i seen) (c.closed.guards c.is_told c.guards) (c.closed.says c.is_told c.guards) c.closed.unchanged

pub closes_by : {T E told : Type 0} (D : ℕ) (i : Index) (old new : LineMoment) (r : Result T E) → Sees D old.files old.session.set i → Ends D told old new r
    → Closes D i old new r
closes_by D i old new r seen c = record {
  canon = λ first s listed brings. closes_canon D i old new r seen c first s listed brings;
  levels = λ rested. c.few (begins_none D old.files old.session.set i seen rested);
  still = c.idle;
  reads = c.reads;
}

-- where the end failed, the session is closed with that fault
pub closes_fails : {T E told : Type 0} (D : ℕ) (i : Index) (old new : LineMoment) (r : Result T E) (e : E) → r ≡ Err e → Sees D old.files old.session.set i
    → Ends {T = T} D told old new (Err e) → Closes D i old new r
closes_fails {T} D i old new r e is seen c = subst (Closes D i old new) (sym is) (closes_by {T = T} D i old new (Err e) seen c)

-- ---- the lines so far

-- light lines: those that are left are, and what they touch still fits
pub record LedLight (lang : Language) (heads : List Head) (i0 : Index) (line : ℕ) (i : Index) (rest : List (List ℕ)) (now : LineMoment)
    (before all : ℕ) : Type 0 where
  pub rested : i.begun ≡ false
  pub asks : AllAsk lang is_light line (Some i) rest
  pub points : given_of (state_after (meaning lang) line (Some i) rest) ≤ i0.points_given + 16384
  pub looks : LooksAt heads now.session.set
  pub waits : length now.session.set.buffer + i0.points_given ≤ i.points_given
  pub left : ℕ
  pub touches : TouchesLines lang heads line (Some i) rest left
  pub fits : now.reads + left ≤ before + all

pub record Led (lang : Language) (D line0 : ℕ) (i0 : Index) (lines : List (List ℕ)) (start : LineMoment) (line : ℕ) (i : Index) (rest : List (List ℕ))
    (now : LineMoment) : Type 0 where
  pub canon : BringsCanonical D start.files now.files start.session.set.parts now.session.set.parts
  pub levels : i0.begun ≡ false → AllAsk lang begins_no_merge line0 (Some i0) lines
      → (i.begun ≡ false) × AllAsk lang begins_no_merge line (Some i) rest × KeepsLevels start.files now.files
  pub still : i0.begun ≡ false → IsIdle start.session → AllAsk lang is_query line0 (Some i0) lines
      → (i.begun ≡ false) × AllAsk lang is_query line (Some i) rest × (now.files ≡ start.files) × IsIdle now.session
  pub light : (heads : List Head) → LooksAt heads start.session.set → start.session.set.buffer ≡ [] → i0.begun ≡ false
      → AllAsk lang is_light line0 (Some i0) lines
      → given_of (state_after (meaning lang) line0 (Some i0) lines) ≤ i0.points_given + 16384 → (n : ℕ) → TouchesLines lang heads line0 (Some i0) lines n
      → LedLight lang heads i0 line i rest now start.reads n

pub led_first : (lang : Language) → (D line : ℕ) (i : Index) (lines : List (List ℕ)) (s : LineMoment) → Led lang D line i lines s line i lines s
led_first lang D line i lines s = record {
  canon = brings_same D s.files s.files s.session.set.parts s.session.set.parts refl refl;
  levels = λ rested asks. (rested, asks, inl refl);
  still = λ rested u asks. (rested, asks, refl, u);
  light = λ heads looks empty rested asks points n touches. record {
    rested = rested;
    asks = asks;
    points = points;
    looks = looks;
    waits = let none = ap length empty in omega (arith, none);
    left = n;
    touches = touches;
    fits = omega arith;
  };
}

rests_on : (state : State) (j : Index) → state ≡ Some j → Rested state → j.begun ≡ false
rests_on state j is h = subst Rested is h

module _ (lang : Language) (D line0 : ℕ) (i0 : Index) (lines : List (List ℕ)) (start : LineMoment) (line : ℕ) (i : Index) (rest : List (List ℕ))
    (now : LineMoment)
    (led : Led lang D line0 i0 lines start line i rest now)
    (x : List ℕ) (more : List (List ℕ)) (is : rest ≡ x ∷ more) (new : LineMoment) where
  -- the next of light lines has room
  room_here : (heads : List Head) (before all : ℕ) → LedLight lang heads i0 line i rest now before all
      → HasRoom now.session.set i (answer lang line (Some i) x).state
  room_here heads before all l =
      let grows = lines_give lang (line + 1) (answer lang line (Some i) x).state more in
      let same = state_rest lang line (Some i) (answer lang line (Some i) x).state rest x more is refl in
      let most : given_of (state_after (meaning lang) (line + 1) (answer lang line (Some i) x).state more) ≤ i0.points_given + 16384 =
      subst (λ (s : State). given_of s ≤ i0.points_given + 16384) (sym same) l.points in
      omega (arith, grows, most, l.waits)

  module _ {T E : Type 0} (y : T) (p : Passes {T = T} {E = E} lang D line i x now new (Ok y)) (j : Index)
      (leads : (answer lang line (Some i) x).state ≡ Some j) where
    light_on : (heads : List Head) (before all : ℕ) → LedLight lang heads i0 line i rest now before all
        → LedLight lang heads i0 (line + 1) j more new before all
    light_on heads before all l =
        let ask = all_first lang line (Some i) (Some j) rest x more is leads is_light l.asks in
        let room = room_here heads before all l in
        let few = p.looks heads l.looks l.rested ask room in
        let parts = touches_parts lang line (Some i) (Some j) rest x more is leads heads l.left l.touches in
        let reads = p.reads heads l.looks l.rested ask room parts.0 parts.2 in
        let points_given : given_of (answer lang line (Some i) x).state ≡ j.points_given = ap given_of leads in
        record {
          rested = rests_on (answer lang line (Some i) x).state j leads
              (line_rests lang line i x
              (all_first lang line (Some i) (Some j) rest x more is leads begins_no_merge
              (all_weaker lang is_light begins_no_merge light_begins line (Some i) rest l.asks)) l.rested);
          asks = all_rest lang line (Some i) (Some j) rest x more is leads is_light l.asks;
          points = subst (λ (s : State). given_of s ≤ i0.points_given + 16384) (sym (state_rest lang line (Some i) (Some j) rest x more is leads)) l.points;
          looks = few.looks;
          waits = omega (arith, few.waits, points_given, l.waits);
          left = parts.1;
          touches = parts.3;
          fits = omega (arith, reads, parts.4, l.fits);
        }

    -- one more line is done
    pub led_on : Led lang D line0 i0 lines start (line + 1) j more new
    led_on = record {
      canon = brings_then D start.files now.files new.files start.session.set.parts now.session.set.parts new.session.set.parts led.canon p.canon;
      levels = λ rested asks.
          let l = led.levels rested asks in (
            rests_on (answer lang line (Some i) x).state j leads
                (line_rests lang line i x (all_first lang line (Some i) (Some j) rest x more is leads begins_no_merge l.1) l.0),
            all_rest lang line (Some i) (Some j) rest x more is leads begins_no_merge l.1,
            levels_then start.files now.files new.files l.2 (p.levels l.0),
          );
      still = λ rested u asks.
          let l = led.still rested u asks in
          let ask = all_first lang line (Some i) (Some j) rest x more is leads is_query l.1 in (
            rests_on (answer lang line (Some i) x).state j leads
                (line_rests lang line i x
                (all_first lang line (Some i) (Some j) rest x more is leads begins_no_merge
                (all_weaker lang is_query begins_no_merge (λ r e. light_begins r (query_light r e)) line (Some i) rest l.1)) l.0),
            all_rest lang line (Some i) (Some j) rest x more is leads is_query l.1,
            p.still l.0 l.3.unchanged ask ∙ l.2,
            p.idle l.0 l.3 ask,
          );
      light = λ heads looks empty rested asks points n touches. light_on heads start.reads n (led.light heads looks empty rested asks points n touches);
    }

  -- lines that are all queries are light lines too
  either_light : (heads : List Head) → (IsIdle start.session × AllAsk lang is_query line0 (Some i0) lines) ⊎ AreLight lang heads line0 (Some i0) lines
      → AllAsk lang is_light line0 (Some i0) lines × (given_of (state_after (meaning lang) line0 (Some i0) lines) ≤ i0.points_given + 16384)
  either_light heads (inr l) = (l.asks, l.points)
  either_light heads (inl (u, asks)) =
      let same = ap given_of (queries_stay lang line0 (Some i0) lines asks) in
      (all_weaker lang is_query is_light query_light line0 (Some i0) lines asks, omega (arith, same))

  -- the run stops at the next line
  pub led_stops : {S T E F : Type 0} (e : E) (d : F) → Passes {T = S} lang D line i x now new (Err e) → Leads {T = T} lang line0 i0 lines start new (Err d)
  led_stops e d p = record {
    canon = λ listed. tt;
    levels = λ rested asks. tt;
    still = λ rested u asks. let l = led.still rested u asks in p.still l.0 l.3.unchanged
        (all_first lang line (Some i) (answer lang line (Some i) x).state rest x more is refl is_query l.1) ∙ l.2;
    reads = λ heads looks empty rested which n touches.
        let light = either_light heads which in
        let l = led.light heads looks empty rested light.0 light.1 n touches in
        let parts = touches_parts lang line (Some i) (answer lang line (Some i) x).state rest x more is refl heads l.left l.touches in
        let reads = p.reads heads l.looks l.rested (all_first lang line (Some i) (answer lang line (Some i) x).state rest x more is refl is_light l.asks)
        (room_here heads start.reads n l) parts.0 parts.2 in
        omega (arith, reads, parts.4, l.fits);
  }

-- no line is left, and what they left is committed
pub led_ends : {T E : Type 0} (lang : Language)
    → (D line0 : ℕ) (i0 : Index) (lines : List (List ℕ)) (start : LineMoment) (line : ℕ) (i : Index) (rest : List (List ℕ)) (now : LineMoment)
    → Led lang D line0 i0 lines start line i rest now
    → Sees D now.files now.session.set i → (new : LineMoment) (r : Result T E) → Closes D i now new r → Leads lang line0 i0 lines start new r
led_ends lang D line0 i0 lines start line i rest now led seen new r c = record {
  canon = λ listed. c.canon start.files start.session.set listed led.canon;
  levels = λ rested asks. let l = led.levels rested asks in then_levels r l.2 (c.levels l.0);
  still = λ rested u asks. let l = led.still rested u asks in c.still l.3 ∙ l.2;
  reads = λ heads looks empty rested which n touches. by_which heads looks empty rested n touches which;
}
  where
    then_levels : {T E : Type 0} (r : Result T E) → KeepsLevels start.files now.files → OnOk r (KeepsLevels now.files new.files)
        → OnOk r (KeepsLevels start.files new.files)
    then_levels (Ok x) first second = levels_then start.files now.files new.files first second
    then_levels (Err e) first second = tt

    by_which : (heads : List Head) → LooksAt heads start.session.set → start.session.set.buffer ≡ [] → i0.begun ≡ false → (n : ℕ)
        → TouchesLines lang heads line0 (Some i0) lines n
        → (IsIdle start.session × AllAsk lang is_query line0 (Some i0) lines) ⊎ AreLight lang heads line0 (Some i0) lines → new.reads ≤ start.reads + n
    by_which heads looks empty rested n touches (inl (u, asks)) =
        let points_given = ap given_of (queries_stay lang line0 (Some i0) lines asks) in
        let l =
        led.light heads looks empty rested (all_weaker lang is_query is_light query_light line0 (Some i0) lines asks) (omega (arith, points_given)) n touches in
        let same = c.reads (inl (led.still rested u asks).3.unchanged) in
        omega (arith, same, l.fits)
    by_which heads looks empty rested n touches (inr light) =
        let l = led.light heads looks empty rested light.asks light.points n touches in
        let same = c.reads (inr (settled now.session.set heads (begins_none D now.files now.session.set i seen l.rested) l.looks light.room)) in
        omega (arith, same, l.fits)

-- no other line has come
pub led_breaks : {T E : Type 0} (lang : Language)
    → (D line0 : ℕ) (i0 : Index) (lines : List (List ℕ)) (start : LineMoment) (line : ℕ) (i : Index) (rest : List (List ℕ)) (now : LineMoment)
    → Led lang D line0 i0 lines start line i rest now
    → (e : E) → Leads {T = T} lang line0 i0 lines start now (Err e)
led_breaks lang D line0 i0 lines start line i rest now led e = record {
  canon = λ listed. tt;
  levels = λ rested asks. tt;
  still = λ rested u asks. (led.still rested u asks).2;
  reads = λ heads looks empty rested which n touches. by_which heads looks empty rested n touches which;
}
  where
    by_which : (heads : List Head) → LooksAt heads start.session.set → start.session.set.buffer ≡ [] → i0.begun ≡ false → (n : ℕ)
        → TouchesLines lang heads line0 (Some i0) lines n
        → (IsIdle start.session × AllAsk lang is_query line0 (Some i0) lines) ⊎ AreLight lang heads line0 (Some i0) lines → now.reads ≤ start.reads + n
    by_which heads looks empty rested n touches (inl (u, asks)) =
        let points_given = ap given_of (queries_stay lang line0 (Some i0) lines asks) in
        let l =
        led.light heads looks empty rested (all_weaker lang is_query is_light query_light line0 (Some i0) lines asks) (omega (arith, points_given)) n touches in
        omega (arith, l.fits)
    by_which heads looks empty rested n touches (inr light) =
        let l = led.light heads looks empty rested light.asks light.points n touches in
        omega (arith, l.fits)
