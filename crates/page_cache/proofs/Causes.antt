-- What a fault says of the faults of the folder that it was met on.
use Rattle.std.proofs.Common.{◌≡◌, ◌≤◌, ℕ, Ok, Err, refl, arith}
use Rattle.outer_io.specs.declared.faults.WriteFault.{WriteFault}
use Rattle.outer_io.specs.declared.faults.WriteFault.TheVariants as write
use Rattle.outer_io.specs.Faults.{HasWriteCause}
use Rattle.page_cache.specs.declared.faults.PageFault.TheVariants as page
use Rattle.page_cache.specs.Causes.{HasPageCause, page_fault}

-- a call that is done
pub done_cause : {T : Type 0} (before now : ℕ) (x : T) → now ≡ before → HasPageCause before now (Ok x)
done_cause before now x same = record { later = omega (arith, same); on_ok = same; failed = λ e. absurd cc }

-- want of memory is answered without a fault of the folder
pub memory_cause : {T : Type 0} (before now : ℕ) → before ≤ now → HasPageCause {T = T} before now (Err page.Memory)
memory_cause before now later = record { later = later; on_ok = tt; failed = λ e. absurd cc }

-- a fault of a write, where a call may meet damage too
pub wrote_cause : {T U : Type 0} (before now : ℕ) (e : WriteFault) → HasWriteCause {T = T} before now (Err e)
    → HasPageCause {T = U} before now (Err (page_fault e))
wrote_cause before now write.Failed h = record { later = h.later; on_ok = tt; failed = λ is. h.failed refl }
wrote_cause before now write.Memory h = memory_cause before now h.later
