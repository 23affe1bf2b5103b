-- A session that makes the index, call after call.
use Rattle.std.proofs.Common.{◌≡◌, ◌+◌, ℕ, zero, suc, add-one, List, [], ◌∷◌, ◌++◌, Result, Ok, Err, refl, sym, ap, subst, ◌∙◌, ℤ, arith}
use Rattle.std.proofs.lemmas.List.FromFn.{map-range_with_len_more}
use Rattle.std.proofs.lemmas.List.Sums.{fold-append}
use Rattle.outer_io.specs.Files.{Files}
use Rattle.page_cache.specs.declared.faults.PageFault.{PageFault}
use Rattle.page_cache.specs.declared.faults.PageFault.TheVariants as page
use Rattle.page_cache.specs.Causes.{HasPageCause}
use Rattle.page_cache.specs.Evidence.{NotDamaged, OnDamage}
use Rattle.documents.specs.Documents.{Document}
use Rattle.index_model.specs.State.{Index, new_index}
use Rattle.stored_index.specs.Kept.{SameKept}
use Rattle.stored_index.proofs.KeptFiles.{kept_after, kept_itself}
use Rattle.segment_set.specs.Sets.{SetData}
use Rattle.segment_set.specs.Kept.{StaysButCache}
use Rattle.segment_set.specs.Seen.{Sees}
use Rattle.index_opening.specs.Evidence.{IsEvidentOf}
use Rattle.segment_set.specs.Faithful.{IsFaithful}
use Rattle.index_opening.proofs.Evident.{on_evident_less}
use Rattle.index_core.specs.Sessions.{Guards, IsSetTraced, SessionData, Trusts}
use Rattle.index_core.specs.Effects.{BringsCanonical}
use Rattle.index_core.specs.Whole.{Adds, SessionMoment, with_point, with_points}
use Rattle.index_core.proofs.Answering.{no_cause}
use Rattle.index_core.proofs.FaultCauses.{fault_to}
use Rattle.index_core.proofs.Bringing.{brings_same, brings_then}
use Rattle.index_core.proofs.Tracing.{parts_shows, traced_read}
use Rattle.drawn_points.specs.Draws.{point, points}
use Rattle.drawn_points.specs.Generated.{document, documents, kept_docs}
use Rattle.generate_index.specs.Generates.{IsDrawn, Makes, drawn_index}
use Rattle.index_core.proofs.Committing.{on_ok_any}
use Rattle.segment_set.proofs.Saving.{cause_after}
use Rattle.std.proofs.lemmas.Result.{on_ok_weaker}

abbrev pub At : Type 1
At = SessionMoment → Type 0

-- where nothing is done, the moment stays
pub makes_none : {T : Type 0} (told : Type 0) (Before : At) (at : SessionMoment) (x : T) → Makes told Before Before at at (Ok x)
makes_none told Before at x = record {
  made = λ t before. before;
  guards = λ t guards. guards;
  kept = λ t guards. kept_itself at.files;
  canon = λ t. brings_same 2 at.files at.files at.session.set.parts at.session.set.parts refl refl;
  cause = no_cause at.faults x;
  whole = λ t before. tt;
  faithful = λ t faithful. faithful;
  traced = λ t trusts. trusts.traced;
  evident = tt;
}

-- what is trusted before is so after it
pub makes_trusts : {T : Type 0} (told : Type 0) (Before After : At) (a b : SessionMoment) (r : Result T PageFault) → Makes told Before After a b r → told
    → Trusts 2 a.files a.session → Trusts 2 b.files b.session
makes_trusts told Before After a b r makes t trusts =
    record { guards = makes.guards t trusts.guards; faithful = makes.faithful t trusts.faithful; traced = makes.traced t trusts }

-- a new session
pub created_trusts : (files : Files) (s : SessionData) → Guards 2 files s → IsFaithful 2 files s.set → IsSetTraced 2 files s.set → Trusts 2 files s
created_trusts files s guards faithful traced = record { guards = guards; faithful = faithful; traced = traced }

-- some of it is made, and then the rest
pub makes_then : {T U : Type 0} (told : Type 0) (Before Between After : At) (a b c : SessionMoment) (x : U) (r : Result T PageFault)
    → Makes told Before Between a b (Ok x) → Makes told Between After b c r → Makes told Before After a c r
makes_then told Before Between After a b c x r first second = record {
  made = λ t before. second.made t (first.made t before);
  guards = λ t guards. second.guards t (first.guards t guards);
  kept = λ t guards. kept_after a.files b.files c.files (first.kept t guards) (second.kept t (first.guards t guards));
  canon = λ t. brings_then 2 a.files b.files c.files a.session.set.parts b.session.set.parts c.session.set.parts (first.canon t) (second.canon t);
  cause = cause_after a.faults b.faults c.faults r first.cause.on_ok second.cause;
  whole = λ t before. second.whole t (first.made t before);
  faithful = λ t faithful. second.faithful t (first.faithful t faithful);
  traced = λ t trusts. second.traced t (makes_trusts told Before Between a b (Ok x) first t trusts);
  evident = on_evident_less (told × Trusts 2 b.files b.session) (told × Trusts 2 a.files a.session) c.files r
      (λ h. (h.0, makes_trusts told Before Between a b (Ok x) first h.0 h.1)) second.evident;
}

-- after a fault it says the same of all that was to come
pub makes_stopped : {T U : Type 0} (told : Type 0) (Before After Later : At) (a b : SessionMoment) (fault : PageFault) (r : Result U PageFault) → r ≡ Err fault
    → Makes {T = T} told Before After a b (Err fault)
    → Makes told Before Later a b r
makes_stopped {T = T} {U = U} told Before After Later a b fault r is makes = subst (Makes told Before Later a b) (sym is) (record {
  made = λ t before. tt;
  guards = makes.guards;
  kept = makes.kept;
  canon = makes.canon;
  cause = fault_to a.faults b.faults fault makes.cause;
  whole = λ t before. to_other fault (makes.whole t before);
  faithful = makes.faithful;
  traced = makes.traced;
  evident = makes.evident;
})
  where
    to_other : (f : PageFault) → NotDamaged {T = T} (Err f) → NotDamaged {T = U} (Err f)
    to_other page.Failed whole = tt
    to_other (page.Damaged d) whole = whole
    to_other page.Memory whole = tt

-- the drawn documents are those of the points, one after the other
documents_drawn : (seed : ℕ) → ((n : ℕ) → kept_docs 0 (documents seed n) ≡ documents seed n)
    → ((n : ℕ) → documents seed (n + 1) ≡ documents seed n ++ document seed n ∷ []) → (n : ℕ)
    → with_points (drawn_index seed 0 0) (points seed 0 n) ≡ drawn_index seed n 0
documents_drawn seed all more zero = refl
documents_drawn seed all more (suc n) =
    ap (with_points (drawn_index seed 0 0)) (ap (points seed 0) (sym (add-one n)) ∙ map-range_with_len_more (point seed) 0 n n (omega arith))
    ∙ fold-append with_point (drawn_index seed 0 0) (points seed 0 n) (point seed n ∷ [])
    ∙ ap (λ i. with_point i (point seed n)) (documents_drawn seed all more n)
    ∙ ap (λ (docs : List Document). record (new_index 2 333) { next = n + 1; points_given = n + 1; docs = docs }) grown
    ∙ ap (λ m. drawn_index seed m 0) (add-one n)
  where
    grown : kept_docs 0 (documents seed n) ++ document seed n ∷ [] ≡ kept_docs 0 (documents seed (n + 1))
    grown = ap (λ docs. docs ++ document seed n ∷ []) (all n) ∙ sym (more n) ∙ sym (all (n + 1))

-- drawn documents were added to none
pub makes_adds : {T : Type 0} (told : Type 0) (seed n : ℕ) (ps : List (List ℤ)) (a b : SessionMoment) (r : Result T PageFault)
    → ((n : ℕ) → kept_docs 0 (documents seed n) ≡ documents seed n)
    → ((n : ℕ) → documents seed (n + 1) ≡ documents seed n ++ document seed n ∷ []) → ps ≡ points seed 0 n → Adds 2 told ps a b r
    → Makes told (IsDrawn seed 0 0) (IsDrawn seed n 0) a b r
makes_adds told seed n ps a b r all more drawn adds = record {
  made = λ t before. on_ok_weaker r
      (subst (Sees 2 b.files b.session.set) (ap (with_points (drawn_index seed 0 0)) drawn ∙ documents_drawn seed all more n))
      (adds.seen t (drawn_index seed 0 0) before);
  guards = adds.stays.guards;
  kept = adds.kept;
  canon = adds.canon;
  cause = adds.faults.cause;
  whole = λ t before. adds.faults.whole t (drawn_index seed 0 0) before;
  faithful = adds.stays.faithful;
  traced = adds.stays.traced;
  evident = adds.faults.evident;
}

-- a call that only reads
pub makes_reads : {T : Type 0} (told : Type 0) (i : Index) (a b : SessionMoment) (r : Result T PageFault)
    → (told → Sees 2 a.files a.session.set i → Sees 2 b.files b.session.set i)
    → (told → Guards 2 a.files a.session → Guards 2 b.files b.session) → (told → b.files ≡ a.files) → StaysButCache a.session.set b.session.set
    → HasPageCause a.faults b.faults r
    → (told → Sees 2 a.files a.session.set i → NotDamaged r) → (told → IsFaithful 2 a.files a.session.set → IsFaithful 2 b.files b.session.set)
    → OnDamage r (IsEvidentOf a.session.set.parts (told × IsFaithful 2 a.files a.session.set) b.files)
    → Makes told (λ (at : SessionMoment). Sees 2 at.files at.session.set i) (λ (at : SessionMoment). Sees 2 at.files at.session.set i) a b r
makes_reads told i a b r seen guards files rest cause whole faithful evident = record {
  made = λ t before. on_ok_any r (seen t before);
  guards = guards;
  kept = λ t g. subst (λ (f : Files). SameKept a.files f) (sym (files t)) (kept_itself a.files);
  canon = λ t. brings_same 2 a.files b.files a.session.set.parts b.session.set.parts (files t) (ap (λ (u : SetData). u.parts) rest.is);
  cause = cause;
  whole = whole;
  faithful = faithful;
  traced = λ t trusts. traced_read 2 a.files b.files a.session.set b.session.set rest (files t) trusts.traced;
  evident = parts_shows 2 told a.files b.files a.session r files evident;
}

-- documents were taken out, without a call on the folder
pub makes_deletes : {T : Type 0} (told : Type 0) (seed n : ℕ) (files : Files) (faults : ℕ) (s t : SessionData) (x : T)
    → ((files : Files) (faults seed : ℕ) → IsDrawn seed n 0 (record { files = files; session = s; faults = faults })
    → IsDrawn seed n n (record { files = files; session = t; faults = faults }))
    → ((files : Files) → Guards 2 files s → Guards 2 files t) → ((files : Files) → IsFaithful 2 files s.set → IsFaithful 2 files t.set)
    → ((files : Files) → IsSetTraced 2 files s.set → IsSetTraced 2 files t.set)
    → ((files : Files) → BringsCanonical 2 files files s.set.parts t.set.parts)
    → Makes told (IsDrawn seed n 0) (IsDrawn seed n n) (record { files = files; session = s; faults = faults })
    (record { files = files; session = t; faults = faults }) (Ok x)
makes_deletes told seed n files faults s t x made guards faithful traced canon = record {
  made = λ h before. made files faults seed before;
  guards = λ h. guards files;
  kept = λ h g. kept_itself files;
  canon = λ h. canon files;
  cause = no_cause faults x;
  whole = λ h before. tt;
  faithful = λ h. faithful files;
  traced = λ h trusts. traced files trusts.traced;
  evident = tt;
}

-- the value that is handed on is another one
pub makes_ok : {T U : Type 0} (told : Type 0) (Before After : At) (a b : SessionMoment) (x : T) (y : U) → Makes told Before After a b (Ok x)
    → Makes told Before After a b (Ok y)
makes_ok told Before After a b x y makes = record {
  made = makes.made;
  guards = makes.guards;
  kept = makes.kept;
  canon = makes.canon;
  cause = record { later = makes.cause.later; on_ok = makes.cause.on_ok; failed = λ e. absurd cc };
  whole = λ t before. tt;
  faithful = makes.faithful;
  traced = makes.traced;
  evident = tt;
}

-- by another name of the seed
pub makes_by : {T : Type 0} (told : Type 0) (x seed n : ℕ) (a b : SessionMoment) (r : Result T PageFault) → x ≡ seed
    → Makes told (IsDrawn x 0 0) (IsDrawn x n 0) a b r
    → Makes told (IsDrawn seed 0 0) (IsDrawn seed n 0) a b r
makes_by told x seed n a b r same makes = subst (λ k. Makes told (IsDrawn k 0 0) (IsDrawn k n 0) a b r) same makes
