-- What is known of files that stay, and what a damage shows of them.
use Rattle.std.proofs.Common.{◌≡◌, ℕ, List, Option, None, Some, sym, subst}
use Rattle.outer_io.specs.Files.{Files}
use Rattle.page_cache.specs.declared.cache.PageCache.{PageCache}
use Rattle.page_cache.specs.declared.faults.PageFault.{PageFault}
use Rattle.page_cache.specs.Cache.{Agrees}
use Rattle.page_cache.specs.Evidence.{FaultShows}
use Rattle.page_cache.proofs.Damages.{fault_weaker}
use Rattle.index_model.specs.State.{State}
use Rattle.stored_index.specs.Stored.{IsStored, IsUndefined}
use Rattle.segment_view.specs.LiveSegments.{LiveSegment}
use Rattle.count_queries.specs.Counted.{Scope}
use Rattle.count_queries.specs.Counts.{AreTrue, CountFits, IsCounting}

pub agrees_at : (old new : Files) (cache : PageCache) → new ≡ old → Agrees old cache → Agrees new cache
agrees_at old new cache same = subst (λ (f : Files). Agrees f cache) (sym same)

pub counting_at : (D : ℕ) (old new : Files) (parts : List LiveSegment) (s : Scope) → new ≡ old → IsCounting D old parts s → IsCounting D new parts s
counting_at D old new parts s same = subst (λ (f : Files). IsCounting D f parts s) (sym same)

pub true_at : (D : ℕ) (old new : Files) (parts : List LiveSegment) (before after : PageCache) → new ≡ old → (Agrees old before → Agrees new after)
    → AreTrue D old parts before → AreTrue D new parts after
true_at D old new parts before after same agrees h =
    let still = subst (λ (f : Files). AreTrue D f parts before) (sym same) h in (agrees h.0, still.1, still.2)

-- what is held fits files that stay
pub fits_stay : (D : ℕ) (old new : Files) (parts : List LiveSegment) (before after : PageCache) → new ≡ old → (Agrees old before → Agrees old after)
    → (s : Option Scope) → CountFits D old parts before s → CountFits D new parts after s
fits_stay D old new parts before after same agrees None h = true_at D old new parts before after same (λ a. agrees_at old new after same (agrees a)) h
fits_stay D old new parts before after same agrees (Some s) h = (agrees_at old new after same (agrees h.0), counting_at D old new parts s same h.1)

-- what shows that no state is stored is no damage of files that store one
pub never_stored : (files : Files) (state : State) (fault : PageFault) → IsStored files state → FaultShows (λ _. IsUndefined files) fault
    → FaultShows (λ _. ⊥) fault
never_stored files state fault stored = fault_weaker fault (λ _. IsUndefined files) (λ _. ⊥) (λ d none. none state stored)
