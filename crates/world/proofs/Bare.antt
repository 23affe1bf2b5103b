-- What is answered to a line where no index is there.
use Rattle.std.proofs.Common.{ℕ, Bool, List, Ok, Err, refl, sym, subst, arith}
use Rattle.outer_io.specs.Files.{Files}
use Rattle.page_cache.specs.declared.faults.PageFault.TheVariants as page
use Rattle.run_status.specs.Told.{IsTold, Told}
use Rattle.run_status.proofs.Ending.{page_memory, page_none}
use Rattle.world.specs.Runs.{Answered, IsBare, LineMoment}

module _ {It Scope : Type 0} (told : Type 0) (bare : Scope) (tells : Scope → Told → Type 0) (it : It) (files : Files) (reads faults : ℕ)
    (before after : List ℕ) where
  abbrev at : List ℕ → LineMoment It
  at text = record { it = it; files = files; reads = reads; faults = faults; text = text }

  -- it was told, or refused
  pub bare_answers : (is_refused : Bool) → IsTold (tells bare) before after is_refused
      → Answered told (λ it files o. IsBare bare o) tells (at before) (at after) (Ok is_refused)
  bare_answers is_refused h = record {
    does = λ k s e. subst (λ (q : Scope). IsTold (tells q) before after is_refused) (sym e) h;
    stays = λ k o e. e;
    files = λ k. refl;
    reads = λ k s e t h. omega arith;
    cause = page_none faults is_refused;
    whole = λ k s e. tt;
    evident = tt;
  }

  -- memory was wanting
  pub bare_no_memory : Answered told (λ it files o. IsBare bare o) tells (at before) (at after) (Err page.Memory)
  bare_no_memory = record {
    does = λ k s e. tt;
    stays = λ k o e. e;
    files = λ k. refl;
    reads = λ k s e t h. omega arith;
    cause = page_memory faults;
    whole = λ k s e. tt;
    evident = tt;
  }
