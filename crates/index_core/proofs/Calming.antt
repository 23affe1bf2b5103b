-- Calls on a session that only read, or give no name.
use Rattle.std.proofs.Common.{◌≡◌, ℕ}
use Rattle.std.proofs.Common.{Result, refl, sym, ap, subst}
use Rattle.outer_io.specs.Files.{Files}
use Rattle.page_cache.specs.declared.faults.PageFault.{PageFault}
use Rattle.page_cache.specs.Evidence.{OnDamage}
use Rattle.segment_set.specs.Sets.{SetData}
use Rattle.segment_set.specs.Kept.{Follows, StaysButCache}
use Rattle.index_opening.specs.Evidence.{IsEvidentOf}
use Rattle.segment_set.specs.Faithful.{IsFaithful}
use Rattle.segment_set.proofs.Carried.{follows_same, keeps_calm}
use Rattle.index_core.specs.Sessions.{Guards, SessionData}
use Rattle.index_core.proofs.Guarding.{Grows, grows_like, guards_after}

pub guards_cache : (D : ℕ) (told : Type 0) (f g : Files) (s u : SessionData) (t : SetData) → u ≡ s → told → StaysButCache u.set t → (told → g ≡ f)
    → Guards D f s
    → Guards D g (record { set = t; commit = u.commit; refused = u.refused })
guards_cache D told f g s u t is h stays same guards = guards_after D told f g u (record { set = t; commit = u.commit; refused = u.refused }) h refl refl
    (keeps_calm told u.set.names t.names f g (ap (λ (v : SetData). v.names) stays.is) same)
    (follows_same u.set.names u.set.parts t.parts (ap (λ (v : SetData). v.parts) stays.is))
    (grows_like u.set t (record u.set { cache = t.cache }) stays.is refl refl refl) (subst (Guards D f) (sym is) guards)

pub faithful_seen : (D : ℕ) (f g : Files) (s u : SessionData) (t : SetData) → u ≡ s → (IsFaithful D f u.set → IsFaithful D g t) → IsFaithful D f s.set
    → IsFaithful D g t
faithful_seen D f g s u t is faithful was = faithful (subst (λ (v : SessionData). IsFaithful D f v.set) (sym is) was)

pub evident_seen : {T : Type 0} (D : ℕ) (told : Type 0) (f g : Files) (s u : SessionData) (r : Result T PageFault) → u ≡ s
    → OnDamage r (IsEvidentOf u.set.parts (told × IsFaithful D f u.set) g)
    → OnDamage r (IsEvidentOf s.set.parts (told × IsFaithful D f s.set) g)
evident_seen D told f g s u r is evident = subst (λ (v : SessionData). OnDamage r (IsEvidentOf v.set.parts (told × IsFaithful D f v.set) g)) is evident

-- ---- a call that gives no name

pub guards_same : (D : ℕ) (files : Files) (s u : SessionData) (t : SetData) → u ≡ s → t.names ≡ u.set.names → Grows u.set t
    → Follows u.set.names u.set.parts t.parts → Guards D files s
    → Guards D files (record { set = t; commit = u.commit; refused = u.refused })
guards_same D files s u t is names grows follows guards =
    guards_after D (Unit {0}) files files u (record { set = t; commit = u.commit; refused = u.refused }) tt refl refl
    (keeps_calm (Unit {0}) u.set.names t.names files files names (λ told. refl)) follows grows (subst (Guards D files) (sym is) guards)
