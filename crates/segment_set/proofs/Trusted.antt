-- What a set keeps of its files after calls that merge and add, and what is evident of a set.
use Rattle.std.proofs.Common.{◌≡◌, ℕ, Bool, IsTrue, List, length, Option, None, Result, ℤ, refl, sym, subst, inr, arith}
use Rattle.std.proofs.lemmas.Grind.{merely}
use Rattle.std.proofs.lemmas.List.Elements.{All-contains}
use Rattle.outer_io.specs.declared.file_name.FileName.TheVariants.{Segment}
use Rattle.std.specs.List.{All, Contains}
use Rattle.outer_io.specs.Files.{Files}
use Rattle.page_cache.specs.declared.cache.PageCache.{PageCache}
use Rattle.page_cache.specs.declared.faults.PageFault.{PageFault}
use Rattle.page_cache.specs.Evidence.{OnDamage}
use Rattle.segment_view.specs.Calm.{IsCalm}
use Rattle.segment_set.specs.Sets.{AreAlone, BegunMerge, IsNamed, IsSpread, IsWell, SetData, set_with}
use Rattle.segment_set.specs.Merged.{Rearranges}
use Rattle.segment_set.specs.Kept.{AreCanonical, Follows, KeepsNamed}
use Rattle.index_opening.specs.Evidence.{IsOfPart}
use Rattle.segment_view.specs.LiveSegments.{LiveSegment}
use Rattle.segment_set.specs.Damages.{IsEvidentIn, IsOfParts}
use Rattle.segment_set.specs.Losing.{KeepsBegun, KeepsCounts}
use Rattle.segment_set.specs.Faithful.{HasFileHead, IsFaithful}
use Rattle.segment_set.proofs.BegunKept.{begun_none}
use Rattle.segment_set.proofs.Crowds.{crowded_before}
use Rattle.segment_set.proofs.WholeFiles.{needed_before}
use Rattle.index_opening.proofs.Evident.{on_evident_by}
use Rattle.segment_set.proofs.Evident.{more_waits, parts_before}
use Rattle.segment_set.proofs.Faithful.{faithful_named, faithful_parts}

-- the files are told, and what the set keeps of them is theirs
abbrev pub IsTrusted : (told : Bool) (D : ℕ) → Files → SetData → Type 0
IsTrusted told D files s = IsTrue told × IsFaithful D files s

-- ---- what stays theirs

-- what was built took the place of segments, or a refusal left them, and the cache stays
pub faithful_replaced : (D : ℕ) (told : Type 0) (f g : Files) (s t : SetData) → IsWell D s → KeepsNamed told s.names t.names f g
    → Follows s.names s.parts t.parts → (told → AreCanonical D g s.names t.parts)
    → t.begun ≡ None → t.snapshots ≡ s.snapshots → t.cache ≡ s.cache → told → IsFaithful D f s → IsFaithful D g t
faithful_replaced D told f g s t well kept follows canon ended snapshots cache is_told faithful =
    let others = faithful_named D f g s (record t { parts = s.parts }) well (kept.files is_told) refl (inr ended) snapshots cache faithful in
    record {
      pages = others.pages;
      heads = faithful_parts D f g s.names s.parts t.parts well.named (kept.files is_told) follows (canon is_told) faithful.heads;
      kept = others.kept;
      begun = begun_none D g t ended;
    }

-- a call that looks at segments, and may begin a merge. `s` is the set as its fields have it, `t` as the caller sees it
pub faithful_looked : (D : ℕ) (told : Bool) (f g : Files) (s t : SetData) (ids : List ℕ) (begun : Option BegunMerge) (cache : PageCache) → s ≡ t
    → IsCalm told f g s.cache cache ids → (IsTrue told → All (HasFileHead D f) s.parts → KeepsBegun D f (record s { begun = begun })) → IsTrue told
    → IsFaithful D f t → IsFaithful D g (record s { begun = begun; cache = cache })
faithful_looked D told f g s t ids begun cache same calm keeps is_told faithful =
    let was = subst (IsFaithful D f) (sym same) faithful in
    subst (λ (h : Files). IsFaithful D h (record s { begun = begun; cache = cache })) (sym (calm.files is_told))
    (record { pages = calm.agrees is_told was.pages; heads = was.heads; kept = was.kept; begun = keeps is_told was.heads })

-- a set is as faithful to its files after a document was added
pub faithful_with : (D : ℕ) (files : Files) (points : List (List ℤ)) (s : SetData) → IsFaithful D files s → IsFaithful D files (set_with points s)
faithful_with D files points s faithful = record { pages = faithful.pages; heads = faithful.heads; kept = faithful.kept; begun = faithful.begun }

-- ---- what a damage shows

-- what is evident of the segments of now is so of the set
pub on_evident_set : {X : Type 0} (D : ℕ) (told : Bool) (f g : Files) (s t : SetData) (r : Result X PageFault) → s ≡ t → IsSpread s.next s.parts s.buffer
    → OnDamage r (IsEvidentIn D f s.parts 0 s.points_given (IsTrue told × All (HasFileHead D f) s.parts × AreAlone s.parts) g)
    → OnDamage r (IsEvidentIn D f t.parts (length t.buffer) t.points_given (IsTrusted told D f t) g)
on_evident_set D told f g s t r same spread evident =
    subst (λ (u : SetData). OnDamage r (IsEvidentIn D f u.parts (length u.buffer) u.points_given (IsTrusted told D f u) g)) same
    (on_evident_by (IsOfPart s.parts) (IsOfPart s.parts) (IsOfParts D f g s.parts 0 s.points_given) (IsOfParts D f g s.parts (length s.buffer) s.points_given)
    (IsTrue told × All (HasFileHead D f) s.parts × AreAlone s.parts) (IsTrusted told D f s) g r
    (λ trusted. (trusted.0, trusted.1.heads, λ number. omega (arith, spread.alone number)))
    (λ trusted file of. merely (inr (inr of)))
    (λ trusted d shown. merely (more_waits D f g s.parts (length s.buffer) s.points_given d shown))
    evident)

-- and of a set before, from which what is kept stays theirs
pub on_evident_before : {X : Type 0} (D : ℕ) (told : Bool) (f g h : Files) (s t u : SetData) (r : Result X PageFault) → All (IsNamed t.names) t.parts
    → Rearranges D (IsTrue told) f g s t → (IsTrue told → IsFaithful D f s → KeepsCounts D f g s t)
    → KeepsNamed (IsTrue told) t.names u.names g h → (IsTrue told → IsFaithful D f s → IsFaithful D g t)
    → OnDamage r (IsEvidentIn D g t.parts (length t.buffer) t.points_given (IsTrusted told D g t) h)
    → OnDamage r (IsEvidentIn D f s.parts (length s.buffer) s.points_given (IsTrusted told D f s) h)
on_evident_before D told f g h s t u r named moves counts kept stays =
    on_evident_by (IsOfPart t.parts) (IsOfPart s.parts) (IsOfParts D g h t.parts (length t.buffer) t.points_given)
    (IsOfParts D f h s.parts (length s.buffer) s.points_given) (IsTrusted told D g t) (IsTrusted told D f s) h r
    (λ trusted. (trusted.0, stays trusted.0 trusted.1))
    (λ trusted file of. needed_before D g h s.names s.parts t.parts file moves.follows (moves.canon trusted.0) (same trusted.0) of)
    (λ trusted d shown. parts_before D f g h s t moves.stays.points_given (counts trusted.0 trusted.1)
    (λ number crowd. crowded_before D g h s.names s.parts t.parts number moves.follows (moves.canon trusted.0) (same trusted.0) crowd) d shown)
  where
    same : IsTrue told → (p : LiveSegment) → Contains t.parts p → h (Segment p.head.id) ≡ g (Segment p.head.id)
    same is_told p there = kept.files is_told (Segment p.head.id) (All-contains (IsNamed t.names) t.parts p named there)
