-- Calls that read nothing, one after another.
use Rattle.std.proofs.Common.{◌≡◌, ℕ, Result, Ok, Err, sym, subst, ◌∙◌}
use Rattle.page_cache.specs.declared.cache.PageCache.{PageCache}
use Rattle.page_cache.specs.declared.faults.PageFault.{PageFault}
use Rattle.page_cache.specs.Cache.{KeepsPages}
use Rattle.page_cache.specs.Reading.{ReadsNothing}

-- a call that failed, and counted no read, reads nothing
pub reads_failed : {T : Type 0} (before now : ℕ) (old new : PageCache) (r : Result T PageFault) (fault : PageFault) → r ≡ Err fault → now ≡ before
    → ReadsNothing before now old new r
reads_failed before now old new r fault is same = subst (ReadsNothing before now old new) (sym is) (record { reads = same; kept = tt })

pub reads_then : {T : Type 0} (a b d : ℕ) (x y z : PageCache) (r : Result T PageFault) → b ≡ a → KeepsPages x y → ReadsNothing b d y z r
    → ReadsNothing a d x z r
reads_then a b d x y z (Ok v) same stays rest = record { reads = rest.reads ∙ same; kept = λ i n k. rest.kept i n (stays i n k) }
reads_then a b d x y z (Err e) same stays rest = record { reads = rest.reads ∙ same; kept = tt }
