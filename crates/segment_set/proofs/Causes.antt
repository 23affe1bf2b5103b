-- What the fault of a write says where a call may meet damage too.
use Rattle.std.proofs.Common.{◌≡◌, ℕ, Err, arith}
use Rattle.page_cache.specs.declared.faults.PageFault.TheVariants as page
use Rattle.page_cache.specs.Causes.{HasPageCause}
pub use Rattle.page_cache.proofs.Causes.{wrote_cause}

pub memory_cause : {U : Type 0} (before now : ℕ) → now ≡ before → HasPageCause {T = U} before now (Err page.Memory)
memory_cause before now same = record { later = omega (arith, same); on_ok = tt; failed = λ is. cc }
