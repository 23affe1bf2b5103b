-- Calls that only read, one after another.
use Rattle.std.proofs.Common.{◌≡◌, ℕ, Bool, true, false, cond, List, [], ◌∷◌, refl, sym, ap, subst, ◌∙◌, ◌⊎◌, inl, inr, ⊎_elim, Result}
use Rattle.std.specs.Prelude.{IsTrue}
use Rattle.std.specs.List.{Contains}
use Rattle.outer_io.specs.Files.{Files}
use Rattle.page_cache.specs.declared.cache.PageCache.{PageCache}
use Rattle.page_cache.specs.declared.faults.PageFault.{PageFault}
use Rattle.page_cache.specs.Cache.{KeepsFile, MarksGo, Agrees}
use Rattle.page_cache.specs.Causes.{HasPageCause}
use Rattle.page_cache.specs.Evidence.{OnDamage}
use Rattle.page_cache.specs.Reading.{ReadsCached, ReadsMarking}
use Rattle.segment_file.specs.Heads.{Head}
use Rattle.documents.specs.Entries.{is_among}
use Rattle.documents.proofs.Lists.{cons_cases, cons_head, in_filter, in_map, nil_none, of_filter}
use Rattle.nearest_query.specs.Segments.{HasId}
use Rattle.nearest_query.proofs.Parts.{on_damage}
use Rattle.segment_view.specs.LiveSegments.{LiveSegment, heads_of, ids_of, parts_among}
use Rattle.segment_view.specs.Calm.{IsCalm}
use Rattle.segment_view.specs.Damages.{IsPartDamage}
use Rattle.segment_view.proofs.Beside.{ids_heads}

pub calm_none : (told : Bool) (files : Files) (cache : PageCache) (ids : List ℕ) → IsCalm told files files cache cache ids
calm_none told files cache ids = record { files = λ _. refl; agrees = λ _ h. h; others = λ id h. inl h }

pub calm_then : (told : Bool) (old mid new : Files) (before between after : PageCache) (ids : List ℕ) → IsCalm told old mid before between ids
    → IsCalm told mid new between after ids
    → IsCalm told old new before after ids
calm_then told old mid new before between after ids a b = record {
  files = λ t. b.files t ∙ a.files t;
  agrees = λ t h. subst (λ f. Agrees f after) (a.files t) (b.agrees t (subst (λ f. Agrees f between) (sym (a.files t)) (a.agrees t h)));
  others = λ id h. ⊎_elim (λ k. a.others id k) (λ k. inr k) (b.others id h);
}

pub calm_more : (told : Bool) (old new : Files) (before after : PageCache) (ids more : List ℕ) → ((id : ℕ) → Contains ids id → Contains more id)
    → IsCalm told old new before after ids
    → IsCalm told old new before after more
calm_more told old new before after ids more f a =
    record { files = a.files; agrees = a.agrees; others = λ id h. ⊎_elim (λ k. inl k) (λ k. inr (f id k)) (a.others id h) }

-- a calm call, said as the floors below say it
pub cached_calm : {T : Type 0} (told : Bool) (old new : Files) (before after : PageCache) (ids : List ℕ) (m n : ℕ) (r : Result T PageFault)
    → IsCalm told old new before after ids → MarksGo before after → HasPageCause m n r
    → ReadsCached told (Contains ids) old new before after m n r
cached_calm told old new before after ids m n r calm marks cause =
    record { files = calm.files; others = calm.others; agrees = calm.agrees; cause = cause; marks = marks }

pub calm_cached : {T : Type 0} (told : Bool) (old new : Files) (before after : PageCache) (ids : List ℕ) (m n : ℕ) (r : Result T PageFault)
    → ReadsCached told (Contains ids) old new before after m n r → IsCalm told old new before after ids
calm_cached told old new before after ids m n r reads = record { files = reads.files; agrees = reads.agrees; others = reads.others }

pub calm_marking : {T : Type 0} (told : Bool) (old new : Files) (before after : PageCache) (ids : List ℕ) (m n : ℕ) (r : Result T PageFault)
    → ReadsMarking told (Contains ids) old new before after m n r → IsCalm told old new before after ids
calm_marking told old new before after ids m n r reads = record { files = reads.files; agrees = reads.agrees; others = reads.others }

-- the cache agrees with the files that a calm call left
pub agrees_after : (told : Bool) (old new : Files) (before after : PageCache) (ids : List ℕ) → IsCalm told old new before after ids → IsTrue told
    → Agrees old before → Agrees new after
agrees_after told old new before after ids a t h = subst (λ f. Agrees f after) (sym (a.files t)) (a.agrees t h)

-- ---- a segment of a list

pub id_in : (parts : List LiveSegment) (p : LiveSegment) → Contains parts p → (id : ℕ) → Contains (p.head.id ∷ []) id → Contains (ids_of parts) id
id_in parts p there id h = ⊎_elim
    (λ e. subst (Contains (ids_of parts)) e (in_map (λ (q : LiveSegment). q.head.id) parts p there))
    (λ k. nil_none id (Contains (ids_of parts) id) k)
    (cons_cases p.head.id [] id h)

-- the segment's id, where it is among some, is among those of the list
pub among_in : (ids : List ℕ) (parts : List LiveSegment) (p : LiveSegment) → Contains parts p → (id : ℕ) → Contains (ids_of (parts_among ids (p ∷ []))) id
    → Contains (ids_of (parts_among ids parts)) id
among_in ids parts p there id h = by (is_among ids p.head.id) refl h
  where
    by : (b : Bool) → is_among ids p.head.id ≡ b → Contains (ids_of (cond b (p ∷ []) [])) id → Contains (ids_of (parts_among ids parts)) id
    by true e k = id_in (parts_among ids parts) p (in_filter (λ (q : LiveSegment). is_among ids q.head.id) parts p there e) id k
    by false e k = nil_none id (Contains (ids_of (parts_among ids parts)) id) k

-- told by ids, as the nearest query tells it by heads
pub id_of : (parts : List LiveSegment) (id : ℕ) → HasId (heads_of parts) id → Contains (ids_of parts) id
id_of parts id h =
    subst (Contains (ids_of parts)) h.2
    (subst (λ (ns : List ℕ). Contains ns h.0.id) (sym (ids_heads parts)) (in_map (λ (x : Head). x.id) (heads_of parts) h.0 h.1))

-- ---- one segment, whose id is among some

pub among_one : (ids : List ℕ) (p : LiveSegment) → is_among ids p.head.id ≡ true → parts_among ids (p ∷ []) ≡ p ∷ []
among_one ids p e = ap (λ b. cond b (p ∷ []) []) e

-- what a walk over its file keeps to
pub calm_alone : (told : Bool) (old new : Files) (before after : PageCache) (id : ℕ) → (IsTrue told → new ≡ old)
    → (IsTrue told → Agrees old before → Agrees old after)
    → ((i : ℕ) → KeepsFile after i → KeepsFile before i ⊎ (i ≡ id)) → IsCalm told old new before after (id ∷ [])
calm_alone told old new before after id files agrees others = record {
  files = files;
  agrees = agrees;
  others = λ i h. ⊎_elim (λ k. inl k) (λ k. inr (subst (Contains (id ∷ [])) (sym k) (cons_head id []))) (others i h);
}

-- ---- damages

-- a damage of a segment, where its id is among some, is one of those of the list
pub part_among : {T : Type 0} (D : ℕ) (ids : List ℕ) (parts : List LiveSegment) (p : LiveSegment) → Contains parts p → (r : Result T PageFault)
    → OnDamage r (IsPartDamage D (parts_among ids (p ∷ []))) → OnDamage r (IsPartDamage D (parts_among ids parts))
part_among D ids parts p there r =
    on_damage (IsPartDamage D (parts_among ids (p ∷ []))) (IsPartDamage D (parts_among ids parts)) r (λ d h. (h.0, here h.0 h.1, h.2))
  where
    here : (q : LiveSegment) → Contains (parts_among ids (p ∷ [])) q → Contains (parts_among ids parts) q
    here q is =
        let of = of_filter (λ (x : LiveSegment). is_among ids x.head.id) (p ∷ []) q is in
        in_filter (λ (x : LiveSegment). is_among ids x.head.id) parts q
        (⊎_elim (λ e. subst (Contains parts) e there) (λ k. nil_none q (Contains parts q) k) (cons_cases p [] q of.0)) of.1
