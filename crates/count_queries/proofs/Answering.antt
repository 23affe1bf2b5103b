-- What is told of a line, by what counting answered.
use Rattle.std.proofs.Common.{◌≡◌, ◌≤◌, ◌+◌, ◌++◌, ℕ, Bool, true, false, cond, List, Some, None, Result, Ok, Err, OnErr, IfOk, IsErrOf, refl, sym, ap}
use Rattle.std.proofs.Common.{subst, ◌∙◌, inl, inr, arith}
use Rattle.std.specs.Option.{option_map}
use Rattle.std.proofs.lemmas.Grind.{merely}
use Rattle.std.proofs.lemmas.List.Elements.{All-contains, All-weaker}
use Rattle.outer_io.specs.Files.{Files}
use Rattle.outer_io.specs.declared.file_name.FileName.TheVariants.{Segment}
use Rattle.point_codec.specs.Points.{Region}
use Rattle.cell_relate.specs.Boxes.{crosses}
use Rattle.page_cache.specs.declared.cache.PageCache.{PageCache}
use Rattle.page_cache.specs.declared.faults.PageFault.{PageFault}
use Rattle.page_cache.specs.declared.faults.PageFault.TheVariants as page
use Rattle.page_cache.specs.Cache.{Agrees}
use Rattle.page_cache.specs.Causes.{HasPageCause}
use Rattle.page_cache.specs.Evidence.{NotDamaged, OnDamage}
use Rattle.segment_file.specs.Damages.{IsLeafDamageOf}
use Rattle.index_model.specs.State.{Index, State}
use Rattle.segment_view.specs.LiveSegments.{LiveSegment}
use Rattle.segment_view.specs.Held.{HasOwnHead}
use Rattle.segment_view.specs.Damages.{IsPartDamage}
use Rattle.index_opening.specs.Evidence.{IsEvident, IsHeadIn, IsOfListed, IsOfEntries}
use Rattle.index_opening.proofs.LeafEvident.{on_part_evident}
use Rattle.script_lang.specs.Replies.{line_fault_text, refusal_text}
use Rattle.script_lang.specs.declared.faults.LineFault.{LineFault}
use Rattle.point_counts.specs.Grids.{Judges, Plan}
use Rattle.point_counts.specs.Costs.{OpensLeaves, is_parted}
use Rattle.point_counts.specs.declared.plan.GridFault.{GridFault}
use Rattle.point_counts.specs.declared.plan.GridFault.TheVariants.{BadGrid, TooMany}
use Rattle.run_status.specs.Told.{IsTold, Told, refusal}
use Rattle.run_status.proofs.Ending.{page_memory, page_none}
use Rattle.count_queries.specs.Asks.{Ask, Grid, CountReading, Says, Fails, read_counts}
use Rattle.count_queries.specs.Texts.{grid_fault_text}
use Rattle.count_queries.specs.Counted.{Scope, TellsBuckets, TellsCount, TellsIn, TellsOn, TellsPoints, TellsReading, bare}
use Rattle.count_queries.specs.Counts.{CountsLine, AreTrue, InScope, IsCounting, CountMoment}

-- ---- without a count

-- this is told, whatever the index is
pub answers_text : (D : ℕ) (told : Type 0) (parts : List LiveSegment) (tells : Scope → Told → Type 0) (old new : CountMoment) (t : Told) (is_refused : Bool)
    → new.files ≡ old.files → new.cache ≡ old.cache → new.reads ≡ old.reads
    → new.faults ≡ old.faults → new.text ≡ old.text ++ t.text → t.refused ≡ cond is_refused 1 0 → ((s : Scope) → IsCounting D old.files parts s → tells s t)
    → CountsLine D told parts tells old new (Ok is_refused)
answers_text D told parts tells old new t is_refused files cache reads faults text refused tells_so = record {
  does = λ so agrees s e. record { told = t; tells = tells_so s e; text = text; refused = refused };
  files = λ so. files;
  agrees = λ so agrees. subst (Agrees old.files) (sym cache) agrees;
  reads = λ s e u h. omega (arith, reads);
  cause = subst (λ n. HasPageCause old.faults n (Ok is_refused)) (sym faults) (page_none old.faults is_refused);
  whole = λ so agrees s e. tt;
  evident = tt;
}

-- for want of memory nothing is told
pub answers_no_memory : (D : ℕ) (told : Type 0) (parts : List LiveSegment) (tells : Scope → Told → Type 0) (old new : CountMoment) (r : Result Bool PageFault)
    → r ≡ Err page.Memory → new.files ≡ old.files → new.cache ≡ old.cache
    → new.reads ≡ old.reads → new.faults ≡ old.faults → CountsLine D told parts tells old new r
answers_no_memory D told parts tells old new r is files cache reads faults = subst (CountsLine D told parts tells old new) (sym is) (record {
  does = λ so agrees s e. tt;
  files = λ so. files;
  agrees = λ so agrees. subst (Agrees old.files) (sym cache) agrees;
  reads = λ s e u h. omega (arith, reads);
  cause = subst (λ n. HasPageCause {T = Bool} old.faults n (Err page.Memory)) (sym faults) (page_memory old.faults);
  whole = λ so agrees s e. tt;
  evident = tt;
})

-- a line is refused, or memory was wanting
pub answers_refused : (D : ℕ) (told : Type 0) (parts : List LiveSegment) (tells : Scope → Told → Type 0) (old new : CountMoment) (text : List ℕ)
    (r : Result Bool PageFault)
    → new.files ≡ old.files → new.cache ≡ old.cache
    → new.reads ≡ old.reads → new.faults ≡ old.faults → IfOk r (λ refused. (refused ≡ true) × (new.text ≡ old.text ++ text)) → OnErr r (IsErrOf r page.Memory)
    → ((s : Scope) → IsCounting D old.files parts s → tells s (refusal text)) → CountsLine D told parts tells old new r
answers_refused D told parts tells old new text (Ok refused) files cache reads faults ok memory so =
    answers_text D told parts tells old new (refusal text) refused files cache reads faults ok.1 (ap (λ b. cond b 1 0) (sym ok.0)) so
answers_refused D told parts tells old new text (Err page.Memory) files cache reads faults ok memory so =
    answers_no_memory D told parts tells old new (Err page.Memory) refl files cache reads faults
answers_refused D told parts tells old new text (Err page.Failed) files cache reads faults ok memory so =
    let e : IsErrOf {T = Bool} (Err page.Failed) page.Memory = memory in absurd cc
answers_refused D told parts tells old new text (Err (page.Damaged d)) files cache reads faults ok memory so =
    let e : IsErrOf {T = Bool} (Err (page.Damaged d)) page.Memory = memory in absurd cc

-- what is told is as the line's own definition says
pub answers_as : (D : ℕ) (told : Type 0) (parts : List LiveSegment) (tells others : Scope → Told → Type 0) (old new : CountMoment) (r : Result Bool PageFault)
    → ((s : Scope) (t : Told) → IsCounting D old.files parts s → tells s t → others s t)
    → ((s : Scope) (t : Told) → IsCounting D old.files parts s → others s t → tells s t) → CountsLine D told parts tells old new r
    → CountsLine D told parts others old new r
answers_as D told parts tells others old new r to from answers = record {
  does = λ so agrees s e. map_ok r (λ b h. record { told = h.told; tells = to s h.told e h.tells; text = h.text; refused = h.refused })
      (answers.does so agrees s e);
  files = answers.files;
  agrees = answers.agrees;
  reads = λ s e t h. answers.reads s e t (from s t e h);
  cause = answers.cause;
  whole = answers.whole;
  evident = answers.evident;
}
  where
    map_ok : {P Q : Bool → Type 0} (q : Result Bool PageFault) → ((b : Bool) → P b → Q b) → IfOk q P → IfOk q Q
    map_ok (Ok b) h p = h b p
    map_ok (Err e) h p = tt

-- ---- with one

-- what a call that counts leaves
pub record Reads {T : Type 0} (D : ℕ) (told : Type 0) (parts : List LiveSegment) (tells : Scope → Told → Type 0) (old new : CountMoment)
    (result : Result T PageFault) : Type
    0 where
  pub files : told → new.files ≡ old.files
  pub agrees : told → Agrees old.files old.cache → Agrees old.files new.cache
  pub reads : (s : Scope) → IsCounting D old.files parts s → (t : Told) → tells s t → new.reads ≤ old.reads + t.touched
  pub cause : HasPageCause old.faults new.faults result
  pub whole : told → Agrees old.files old.cache → (s : Scope) → IsCounting D old.files parts s → NotDamaged result
  pub evident : OnDamage result (IsEvident (told × AreTrue D old.files parts old.cache) old.files)

module _ {T : Type 0} (D : ℕ) (told : Type 0) (parts : List LiveSegment) (tells : Scope → Told → Type 0) (old new : CountMoment) where
  -- the count failed, and so does its line
  pub answers_fault : (fault : PageFault) (r : Result Bool PageFault) → r ≡ Err fault → Reads {T = T} D told parts tells old new (Err fault)
      → CountsLine D told parts tells old new r
  answers_fault fault r is h = subst (CountsLine D told parts tells old new) (sym is) (record {
    does = λ so agrees s e. tt;
    files = h.files;
    agrees = h.agrees;
    reads = h.reads;
    cause = record {
      later = h.cause.later;
      on_ok = tt;
      failed = λ e. let same : fault ≡ page.Failed = cc in h.cause.failed
          (ap (λ (f : PageFault). Err f) same);
    };
    whole = λ so agrees s e. other fault (h.whole so agrees s e);
    evident = h.evident;
  })
    where
      other : (f : PageFault) → NotDamaged {T = T} (Err f) → NotDamaged {T = Bool} (Err f)
      other page.Failed whole = tt
      other page.Memory whole = tt
      other (page.Damaged d) whole = whole

  -- it is done, and want of memory came after it
  pub answers_unsaid : (x : T) (r : Result Bool PageFault) → r ≡ Err page.Memory → Reads {T = T} D told parts tells old new (Ok x)
      → CountsLine D told parts tells old new r
  answers_unsaid x r is h = subst (CountsLine D told parts tells old new) (sym is) (record {
    does = λ so agrees s e. tt;
    files = h.files;
    agrees = h.agrees;
    reads = h.reads;
    cause = record { later = h.cause.later; on_ok = tt; failed = λ e. absurd cc };
    whole = λ so agrees s e. tt;
    evident = tt;
  })

  -- the count was told, and its line is answered
  pub answers_done : (x : T) → Reads {T = T} D told parts tells old new (Ok x)
      → (told → Agrees old.files old.cache → (s : Scope) → IsCounting D old.files parts s → IsTold (tells s) old.text new.text false)
      → CountsLine D told parts tells old new (Ok false)
  answers_done x h does = record {
    does = does;
    files = h.files;
    agrees = h.agrees;
    reads = h.reads;
    cause = record { later = h.cause.later; on_ok = h.cause.on_ok; failed = λ e. absurd cc };
    whole = λ so agrees s e. tt;
    evident = tt;
  }

-- the damage that a call shows
pub reads_evident : {T : Type 0} (D : ℕ) (told : Type 0) (files : Files) (parts : List LiveSegment) (cache : PageCache) (r : Result T PageFault)
    → (told → Agrees files cache → OnDamage r (IsLeafDamageOf files)) → OnDamage r (IsPartDamage D parts)
    → OnDamage r (IsEvident (told × AreTrue D files parts cache) files)
reads_evident D told files parts cache r damage shown =
    on_part_evident (λ file. ⊥) (IsOfEntries files) (told × AreTrue D files parts cache) D files parts r
    (λ t. All-weaker (HasOwnHead D files) (λ (p : LiveSegment). ∥ IsHeadIn files D p.head ∥₁) (λ p h. merely h) parts t.1.1)
    (λ t p there. inl (inr (All-contains (λ (q : LiveSegment). IsOfListed files (Segment q.head.id)) parts p t.1.2 there)))
    (λ t. damage t.0 t.1.0) shown

-- ---- a line

some_inj : {X : Type 0} (x y : X) → Some x ≡ Some y → x ≡ y
some_inj x y e = cc

module _ (D : ℕ) (files : Files) (parts : List LiveSegment) (s : Scope) (number : ℕ) (bytes : List ℕ) (e : IsCounting D files parts s) where
  dims_are : option_map (λ (i : Index). i.dims) s.state ≡ Some D
  dims_are = ap (λ (o : State). option_map (λ (i : Index). i.dims) o) e.state ∙ ap (λ (n : ℕ). Some n) e.dims

  reads_as : (reading : CountReading) → read_counts (Some D) bytes ≡ reading → read_counts (option_map (λ (i : Index). i.dims) s.state) bytes ≡ reading
  reads_as reading is = ap (λ o. read_counts o bytes) dims_are ∙ is

  pub line_to : (ask : Ask) (t : Told) → read_counts (Some D) bytes ≡ Says ask → InScope s (λ i u. TellsOn i s.parts number ask u) t
      → TellsCount s number bytes t
  line_to ask t reads (i, is, h) =
      subst (λ (r : CountReading). TellsReading s number r t) (sym (reads_as (Says ask) reads))
      (subst (λ (o : State). TellsIn o s.parts number ask t) (sym is) h)

  pub line_from : (ask : Ask) (t : Told) → read_counts (Some D) bytes ≡ Says ask → TellsCount s number bytes t
      → InScope s (λ i u. TellsOn i s.parts number ask u) t
  line_from ask t reads h = (
    e.index,
    e.state,
    subst (λ (o : State). TellsIn o s.parts number ask t) e.state
        (subst (λ (r : CountReading). TellsReading s number r t) (reads_as (Says ask) reads) h),
  )

  pub line_unread : (f : LineFault) → read_counts (Some D) bytes ≡ Fails f → TellsCount s number bytes (refusal (line_fault_text number f))
  line_unread f reads = subst (λ (r : CountReading). TellsReading s number r (refusal (line_fault_text number f))) (sym (reads_as (Fails f) reads)) refl

  -- a grid that is none
  pub line_ungrid : (plan : Plan) (f : GridFault) → read_counts (Some D) bytes ≡ Says (Grid plan) → Judges D plan (Err f)
      → TellsCount s number bytes (refusal (refusal_text number (grid_fault_text f)))
  line_ungrid plan f reads judged =
      line_to (Grid plan) (refusal (refusal_text number (grid_fault_text f))) reads
      (e.index, e.state, inl (f, subst (λ n. Judges n plan (Err f)) (sym e.dims) judged, refl))

  -- one grid isn't both planned and at fault
  judged_once : (n : ℕ) (plan : Plan) (f : GridFault) → Judges n plan (Ok plan) → Judges n plan (Err f) → ⊥
  judged_once n plan BadGrid ok bad = bad ok.1.0
  judged_once n plan (TooMany buckets) ok bad = let most = ok.1.1 in let is = bad.1 in let more = bad.2 in omega (arith, most, is, more)

  pub grid_to : (plan : Plan) (t : Told) → read_counts (Some D) bytes ≡ Says (Grid plan) → Judges D plan (Ok plan)
      → InScope s (λ i u. TellsBuckets i s.parts plan u) t → TellsCount s number bytes t
  grid_to plan t reads judged (i, is, h) =
      let same : e.index ≡ i = some_inj e.index i (sym e.state ∙ is) in
      line_to (Grid plan) t reads (i, is, inr (subst (λ n. Judges n plan (Ok plan)) (sym e.dims ∙ ap (λ (j : Index). j.dims) same) judged, h))

  pub grid_from : (plan : Plan) (t : Told) → read_counts (Some D) bytes ≡ Says (Grid plan) → Judges D plan (Ok plan) → TellsCount s number bytes t
      → InScope s (λ i u. TellsBuckets i s.parts plan u) t
  grid_from plan t reads judged h = by (line_from (Grid plan) t reads h)
    where
      by : InScope s (λ i u. TellsOn i s.parts number (Grid plan) u) t → InScope s (λ i u. TellsBuckets i s.parts plan u) t
      by (i, is, inr (ok, tells)) = (i, is, tells)
      by (i, is, inl (f, bad, none)) =
          let same : e.index ≡ i = some_inj e.index i (sym e.state ∙ is) in
          absurd (judged_once i.dims plan f (subst (λ n. Judges n plan (Ok plan)) (sym e.dims ∙ ap (λ (j : Index). j.dims) same) judged) bad)

-- where no index is there
pub bare_told : (number : ℕ) (bytes : List ℕ) (reading : CountReading) (before after : List ℕ) (t : Told) (is_refused : Bool) → read_counts None bytes ≡ reading
    → TellsReading bare number reading t → after ≡ before ++ t.text
    → t.refused ≡ cond is_refused 1 0 → IsTold (TellsCount bare number bytes) before after is_refused
bare_told number bytes reading before after t is_refused reads tells text refused = record {
  told = t;
  tells = subst (λ (r : CountReading). TellsReading bare number r t) (sym reads) tells;
  text = text;
  refused = refused;
}

-- the leaves that are told of a line are those of the call
module _ (D : ℕ) (files : Files) (parts : List LiveSegment) (s : Scope) (t : Told) (e : IsCounting D files parts s) where
  opened_as : (i : Index) (bounds : Region) (test : Region → Bool) → s.state ≡ Some i → OpensLeaves i.dims bounds test s.parts t.touched
      → OpensLeaves D bounds test parts t.touched
  opened_as i bounds test is opened =
      let same : i ≡ e.index = some_inj i e.index (sym is ∙ e.state) in
      subst (λ n. OpensLeaves n bounds test parts t.touched) (ap (λ (j : Index). j.dims) same ∙ e.dims)
      (subst (λ (ps : List LiveSegment). OpensLeaves i.dims bounds test ps t.touched) e.parts_are opened)

  pub points_touch : (bounds : Region) → InScope s (λ i u. TellsPoints i s.parts bounds u) t → OpensLeaves D bounds (crosses bounds) parts t.touched
  points_touch bounds (i, is, h) = opened_as i bounds (crosses bounds) is h.touches

  pub buckets_touch : (plan : Plan) → InScope s (λ i u. TellsBuckets i s.parts plan u) t → OpensLeaves D plan.bounds (is_parted plan) parts t.touched
  buckets_touch plan (i, is, h) = opened_as i plan.bounds (is_parted plan) is h.touches
