-- What is told of a line, by what the calls on the set answered.
use Rattle.std.proofs.Common.{◌≡◌, ◌≤◌, ◌+◌, ◌++◌, ℕ, Bool, true, false, cond, nat_lt, List, [], ◌∷◌}
use Rattle.std.proofs.Common.{length, Some, None, Result, Ok, Err, OnErr, IfOk, IsErrOf, ◌≢◌, inl, inr, refl, sym, ap, subst, ◌∙◌, arith}
use Rattle.std.proofs.lemmas.Grind.{merely}
use Rattle.std.specs.List.{Contains, last_or}
use Rattle.outer_io.specs.Files.{Files}
use Rattle.outer_io.specs.declared.file_name.FileName.TheVariants.{Segment}
use Rattle.page_cache.specs.declared.faults.PageFault.{PageFault}
use Rattle.page_cache.specs.declared.faults.PageFault.TheVariants as page
use Rattle.page_cache.specs.Causes.{HasPageCause}
use Rattle.page_cache.proofs.Causes.{memory_cause}
use Rattle.page_cache.specs.Evidence.{NotDamaged, OnDamage}
use Rattle.documents.specs.Nearest.{found_of}
use Rattle.nearest_query.specs.Segments.{bound_of, last_of}
use Rattle.std.proofs.lemmas.List.{length-map}
use Rattle.point_codec.specs.declared.entries.Near.{Near}
use Rattle.segment_view.specs.LiveSegments.{LiveSegment, heads_of}
use Rattle.index_model.specs.State.{Index, State}
use Rattle.std.specs.Option.{option_map}
use Rattle.script_lang.specs.Reading.{Reading, Says, Fails, read}
use Rattle.script_lang.specs.Seen.{IsReadAs}
use Rattle.script_lang.specs.declared.faults.LineFault.{LineFault}
use Rattle.script_lang.specs.declared.faults.LineFault.TheVariants as fault
use Rattle.script_lang.specs.Requests.{Request}
use Rattle.script_lang.specs.Replies.{line_fault_text}
use Rattle.segment_set.specs.Sets.{SetData}
use Rattle.segment_set.specs.Seen.{Sees}
use Rattle.segment_set.specs.Kept.{StaysButCache}
use Rattle.index_opening.specs.Evidence.{IsEvident, IsEvidentOf, IsOfListed, IsOfPart, IsOfEntries}
use Rattle.index_opening.proofs.Evident.{on_evident_named}
use Rattle.segment_set.specs.Faithful.{IsFaithful}
use Rattle.explain_queries.specs.Explained.{Scope, Tells, TellsIn, TellsLine, TellsOn, TellsReading, reach}
use Rattle.explain_queries.specs.Explains.{Explains, IsExplaining, ExplainMoment, KnowsFiles}
use Rattle.run_status.specs.Told.{Told, refusal, IsTold}

pub some_inj : {X : Type 0} (x y : X) → Some x ≡ Some y → x ≡ y
some_inj x y e = cc

abbrev pub Telling : Type 1
Telling = Scope → Told → Type 0

-- ---- without a call on the set

no_cause : {T : Type 0} (faults : ℕ) (x : T) → HasPageCause faults faults (Ok x)
no_cause faults x = record { later = omega arith; on_ok = refl; failed = λ e. absurd cc }

-- a set that stays knows the files that stay
knows_still : (D : ℕ) (old new : ExplainMoment) → new.set ≡ old.set → new.files ≡ old.files → KnowsFiles D old.files old.set → KnowsFiles D new.files new.set
knows_still D old new set files h = subst (λ (u : SetData). KnowsFiles D new.files u) (sym set) (subst (λ (f : Files). KnowsFiles D f old.set) (sym files) h)

-- this is told, whatever the index is
pub explains_text : (D : ℕ) (told : Type 0) (tells : Telling) (old new : ExplainMoment) (t : Told) (is_refused : Bool) → new.set ≡ old.set
    → new.files ≡ old.files
    → new.reads ≡ old.reads → new.faults ≡ old.faults
    → new.text ≡ old.text ++ t.text → t.refused ≡ cond is_refused 1 0 → ((s : Scope) → IsExplaining D old.files old.set s → tells s t)
    → Explains D told tells old new (Ok is_refused)
explains_text D told tells old new t is_refused set files reads faults text refused tells_so = record {
  does = λ told_so s e. record { told = t; tells = tells_so s e; text = text; refused = refused };
  stays = λ told_so s e. subst (λ (u : SetData). IsExplaining D new.files u s) (sym set) (subst (λ (f : Files). IsExplaining D f old.set s) (sym files) e);
  files = λ told_so. files;
  reads = λ told_so s e u h. omega (arith, reads);
  cause = subst (λ n. HasPageCause old.faults n (Ok is_refused)) (sym faults) (no_cause old.faults is_refused);
  whole = λ told_so s e. tt;
  knows = λ told_so. knows_still D old new set files;
  evident = tt;
}

-- for want of memory nothing is told
pub explains_no_memory : (D : ℕ) (told : Type 0) (tells : Telling) (old new : ExplainMoment) (r : Result Bool PageFault) → r ≡ Err page.Memory
    → new.set ≡ old.set
    → new.files ≡ old.files → new.reads ≡ old.reads
    → new.faults ≡ old.faults → Explains D told tells old new r
explains_no_memory D told tells old new r is set files reads faults = subst (Explains D told tells old new) (sym is) (record {
  does = λ told_so s e. tt;
  stays = λ told_so s e. subst (λ (u : SetData). IsExplaining D new.files u s) (sym set) (subst (λ (f : Files). IsExplaining D f old.set s) (sym files) e);
  files = λ told_so. files;
  reads = λ told_so s e u h. omega (arith, reads);
  cause = memory_cause old.faults new.faults (omega (arith, faults));
  whole = λ told_so s e. tt;
  knows = λ told_so. knows_still D old new set files;
  evident = tt;
})

-- what is told is as the line's own definition says
pub explains_as : (D : ℕ) (told : Type 0) (tells others : Telling) (old new : ExplainMoment) (r : Result Bool PageFault)
    → ((s : Scope) (t : Told) → IsExplaining D old.files old.set s → tells s t → others s t)
    → ((s : Scope) (t : Told) → IsExplaining D old.files old.set s → others s t → tells s t) → Explains D told tells old new r
    → Explains D told others old new r
explains_as D told tells others old new r to from explains = record {
  does = λ told_so s e.
      if_ok_map r (λ b h. record { told = h.told; tells = to s h.told e h.tells; text = h.text; refused = h.refused }) (explains.does told_so s e);
  stays = explains.stays;
  files = explains.files;
  reads = λ told_so s e t h. explains.reads told_so s e t (from s t e h);
  cause = explains.cause;
  whole = explains.whole;
  knows = explains.knows;
  evident = explains.evident;
}
  where
    if_ok_map : {P Q : Bool → Type 0} (q : Result Bool PageFault) → ((b : Bool) → P b → Q b) → IfOk q P → IfOk q Q
    if_ok_map (Ok b) h p = h b p
    if_ok_map (Err e) h p = tt

-- ---- with one

-- what a call that looks at the set leaves
pub record Looks {T : Type 0} (D : ℕ) (told : Type 0) (old new : ExplainMoment) (tells : Telling) (result : Result T PageFault) : Type 0 where
  pub seen : told → (i : Index) → Sees D old.files old.set i → Sees D new.files new.set i
  pub rest : StaysButCache old.set new.set
  pub files : told → new.files ≡ old.files
  pub reads : told → (s : Scope) → IsExplaining D old.files old.set s → (t : Told) → tells s t → new.reads ≤ old.reads + t.touched
  pub cause : HasPageCause old.faults new.faults result
  pub whole : told → (i : Index) → Sees D old.files old.set i → NotDamaged result
  pub faithful : told → IsFaithful D old.files old.set → IsFaithful D new.files new.set
  pub evident : OnDamage result (IsEvidentOf old.set.parts (told × IsFaithful D old.files old.set) new.files)

looks_stays : {T : Type 0} (D : ℕ) (told : Type 0) (old new : ExplainMoment) (tells : Telling) (r : Result T PageFault) → Looks D told old new tells r → told
    → (s : Scope) → IsExplaining D old.files old.set s → IsExplaining D new.files new.set s
looks_stays D told old new tells r looks t s e = record {
  index = e.index;
  state = e.state;
  seen = looks.seen t e.index e.seen;
  heads = ap (λ (u : SetData). heads_of u.parts) looks.rest.is ∙ e.heads;
}

looks_knows : {T : Type 0} (D : ℕ) (told : Type 0) (old new : ExplainMoment) (tells : Telling) (r : Result T PageFault) → Looks D told old new tells r → told
    → KnowsFiles D old.files old.set → KnowsFiles D new.files new.set
looks_knows D told old new tells r looks t knows = record {
  faithful = looks.faithful t knows.faithful;
  listed = λ p there. subst (λ (f : Files). IsOfListed f (Segment p.head.id)) (sym (looks.files t))
      (knows.listed p (subst (λ (ps : List LiveSegment). Contains ps p) (ap (λ (u : SetData). u.parts) looks.rest.is) there));
}

looks_shows : {T : Type 0} (D : ℕ) (told : Type 0) (old new : ExplainMoment) (tells : Telling) (r : Result T PageFault) → Looks D told old new tells r
    → OnDamage r (IsEvident (told × KnowsFiles D old.files old.set) new.files)
looks_shows D told old new tells r looks = on_evident_named (IsOfPart old.set.parts) (λ _. ⊥) (IsOfEntries new.files) (told × IsFaithful D old.files old.set)
    (told × KnowsFiles D old.files old.set) new.files r (λ (t, knows). (t, knows.faithful))
    (λ (t, knows) file (p, there, is). merely (inl (inr (subst (IsOfListed new.files) (sym is)
    (subst (λ (f : Files). IsOfListed f (Segment p.head.id)) (sym (looks.files t)) (knows.listed p there))))))
    looks.evident

-- the look at the line failed, and so does its explanation
pub explains_fault : {T : Type 0} (D : ℕ) (told : Type 0) (tells : Telling) (old new : ExplainMoment) (fault : PageFault) (r : Result Bool PageFault)
    → r ≡ Err fault
    → Looks {T = T} D told old new tells (Err fault) → Explains D told tells old new r
explains_fault {T = T} D told tells old new fault r is looks = subst (Explains D told tells old new) (sym is) (record {
  does = λ t s e. tt;
  stays = looks_stays D told old new tells (Err fault) looks;
  files = looks.files;
  reads = looks.reads;
  cause = record {
    later = looks.cause.later;
    on_ok = tt;
    failed = λ e. let same : fault ≡ page.Failed = cc in looks.cause.failed (ap (λ (f : PageFault). Err f) same);
  };
  whole = λ t s e. other fault (looks.whole t e.index e.seen);
  knows = looks_knows D told old new tells (Err fault) looks;
  evident = looks_shows D told old new tells (Err fault) looks;
})
  where
    other : (f : PageFault) → NotDamaged {T = T} (Err f) → NotDamaged {T = Bool} (Err f)
    other page.Failed whole = tt
    other page.Memory whole = tt
    other (page.Damaged d) whole = whole

-- it is done, and want of memory came after it
pub explains_unsaid : {T : Type 0} (D : ℕ) (told : Type 0) (tells : Telling) (old new : ExplainMoment) (x : T) (r : Result Bool PageFault) → r ≡ Err page.Memory
    → Looks D told old new tells (Ok x) → Explains D told tells old new r
explains_unsaid D told tells old new x r is looks = subst (Explains D told tells old new) (sym is) (record {
  does = λ t s e. tt;
  stays = looks_stays D told old new tells (Ok x) looks;
  files = looks.files;
  reads = looks.reads;
  cause = memory_cause old.faults new.faults looks.cause.later;
  whole = λ t s e. tt;
  knows = looks_knows D told old new tells (Ok x) looks;
  evident = tt;
})

-- it is done, and told
pub explains_done : {T : Type 0} (D : ℕ) (told : Type 0) (tells : Telling) (old new : ExplainMoment) (x : T) → Looks D told old new tells (Ok x)
    → (told → (s : Scope) → IsExplaining D old.files old.set s → IsTold (tells s) old.text new.text false) → Explains D told tells old new (Ok false)
explains_done D told tells old new x looks tells_so = record {
  does = tells_so;
  stays = looks_stays D told old new tells (Ok x) looks;
  files = looks.files;
  reads = looks.reads;
  cause = record { later = looks.cause.later; on_ok = looks.cause.on_ok; failed = λ e. absurd cc };
  whole = λ t s e. tt;
  knows = looks_knows D told old new tells (Ok x) looks;
  evident = tt;
}

-- ---- a line of the script

-- what is told of a request is told of the index that is looked at
pub tells_to : (s : Scope) (i : Index) (line : ℕ) (request : Request) (t : Told) → s.state ≡ Some i → TellsOn i s.heads line request t → Tells s line request t
tells_to s i line request t is tells = subst (λ (o : State). TellsIn o s.heads line request t) (sym is) tells

pub tells_from : (s : Scope) (i : Index) (line : ℕ) (request : Request) (t : Told) → s.state ≡ Some i → Tells s line request t
    → TellsOn i s.heads line request t
tells_from s i line request t is tells = subst (λ (o : State). TellsIn o s.heads line request t) is tells

-- a line that is refused, or not for want of memory
pub explains_refused : (D : ℕ) (told : Type 0) (tells : Telling) (old new : ExplainMoment) (text : List ℕ) (r : Result Bool PageFault) → new.set ≡ old.set
    → new.files ≡ old.files → new.reads ≡ old.reads → new.faults ≡ old.faults
    → IfOk r (λ b. (b ≡ true) × (new.text ≡ old.text ++ text)) → OnErr r (IsErrOf r page.Memory)
    → ((s : Scope) → IsExplaining D old.files old.set s → tells s (refusal text)) → Explains D told tells old new r
explains_refused D told tells old new text (Ok b) set files reads faults ok memory tells_so =
    subst (λ (q : Bool). Explains D told tells old new (Ok q)) (sym ok.0)
    (explains_text D told tells old new (refusal text) true set files reads faults ok.1 refl tells_so)
explains_refused D told tells old new text (Err page.Memory) set files reads faults ok memory tells_so =
    explains_no_memory D told tells old new (Err page.Memory) refl set files reads faults
explains_refused D told tells old new text (Err page.Failed) set files reads faults ok memory tells_so =
    let e : IsErrOf {T = Bool} (Err page.Failed) page.Memory = memory in absurd cc
explains_refused D told tells old new text (Err (page.Damaged d)) set files reads faults ok memory tells_so =
    let e : IsErrOf {T = Bool} (Err (page.Damaged d)) page.Memory = memory in absurd cc

-- ---- a line that was read

read_is : (D : ℕ) (files : Files) (set : SetData) (s : Scope) (bytes : List ℕ) (reading : Reading) → IsExplaining D files set s → read (Some D) bytes ≡ reading
    → read (option_map (λ (i : Index). i.dims) s.state) bytes ≡ reading
read_is D files set s bytes reading e says =
    ap (λ (o : State). read (option_map (λ (i : Index). i.dims) o) bytes) e.state ∙ ap (λ n. read (Some n) bytes) e.seen.dims ∙ says

pub line_to : (D : ℕ) (files : Files) (set : SetData) (s : Scope) (line : ℕ) (bytes : List ℕ) (request : Request) (t : Told) → IsExplaining D files set s
    → read (Some D) bytes ≡ Says request
    → Tells s line request t → TellsLine s line bytes t
line_to D files set s line bytes request t e says tells =
    subst (λ (r : Reading). TellsReading s line r t) (sym (read_is D files set s bytes (Says request) e says)) tells

pub line_from : (D : ℕ) (files : Files) (set : SetData) (s : Scope) (line : ℕ) (bytes : List ℕ) (request : Request) (t : Told) → IsExplaining D files set s
    → read (Some D) bytes ≡ Says request
    → TellsLine s line bytes t → Tells s line request t
line_from D files set s line bytes request t e says tells =
    subst (λ (r : Reading). TellsReading s line r t) (read_is D files set s bytes (Says request) e says) tells

pub line_unread : (D : ℕ) (files : Files) (set : SetData) (s : Scope) (line : ℕ) (bytes : List ℕ) (f : LineFault) → IsExplaining D files set s
    → read (Some D) bytes ≡ Fails f
    → TellsLine s line bytes (refusal (line_fault_text line f))
line_unread D files set s line bytes f e fails =
    subst (λ (r : Reading). TellsReading s line r (refusal (line_fault_text line f))) (sym (read_is D files set s bytes (Fails f) e fails)) refl

-- what was read of a line that is refused, but for want of memory
pub fault_read : {C : Type 0} (request : C → Request) (f : LineFault) (reading : Reading) → f ≢ fault.Memory → IsReadAs request (Err f) reading
    → reading ≡ Fails f
fault_read request fault.Memory reading other agrees = absurd (other refl)
fault_read request fault.TooLong reading other agrees = agrees
fault_read request fault.NotUtf8 reading other agrees = agrees
fault_read request fault.NoIndex reading other agrees = agrees
fault_read request fault.Unknown reading other agrees = agrees
fault_read request fault.BadName reading other agrees = agrees
fault_read request fault.NotTwo reading other agrees = agrees
fault_read request fault.Words reading other agrees = agrees
fault_read request (fault.Number word) reading other agrees = agrees
fault_read request fault.Dims reading other agrees = agrees
fault_read request fault.LeafSize reading other agrees = agrees
fault_read request fault.BadK reading other agrees = agrees
fault_read request (fault.Geo g) reading other agrees = agrees

-- ---- the nearest

-- how far a query goes, by what is found or by its distances and numbers
pub reach_is : (k : ℕ) (found : List Near) → reach k (found_of found) ≡ bound_of k found
reach_is k found = by (nat_lt (length (found_of found)) k) (nat_lt (length found) k) (ap (λ n. nat_lt n k) (length-map found (λ (n : Near). (n.dist2, n.doc))))
  where
    last_is : (ns : List Near) → option_map (λ (f : ℕ × ℕ). f.0) (last_or None (found_of ns)) ≡ last_of ns
    last_is [] = refl
    last_is (n ∷ []) = refl
    last_is (n ∷ (m ∷ ns)) = last_is (m ∷ ns)

    by : (a b : Bool) → a ≡ b → cond a None (option_map (λ (f : ℕ × ℕ). f.0) (last_or None (found_of found))) ≡ cond b None (last_of found)
    by true true e = refl
    by false false e = last_is found
    by true false e = absurd cc
    by false true e = absurd cc
