-- The file that was read is the source's bytes.
use Rattle.std.proofs.Common.{inl, refl, sym, subst, ◌∙◌, ◌≤◌, ◌^◌, ℕ, List, length}
use Rattle.index_core.proofs.Brought.{commit_itself}
use Rattle.index_core.proofs.LosingNone.{keeps_same}
use Rattle.stored_index.proofs.KeptFiles.{kept_itself}
use Rattle.commands.proofs.Opening.{stays_same}
use Rattle.run_status.specs.Ends.{DoesNothing}
use Rattle.bkd_top.proofs.loads.run_load.Goals as goal

pub returns-in-Ok-clause-never_usage : goal.returns-in-Ok-clause-never_usage
returns-in-Ok-clause-never_usage g c = λ e. c.load_file.ensures.done (subst DoesNothing (sym e) tt)

pub returns-in-Ok-clause-ends : goal.returns-in-Ok-clause-ends
returns-in-Ok-clause-ends g c = λ source told state h. rw (c.as_slice.ensures.value ∙ c.in-Ok.ensures.whole source) at (c.load_file.ensures.ends told state h)

pub returns-in-Ok-clause-untouched : goal.returns-in-Ok-clause-untouched
returns-in-Ok-clause-untouched g c = λ d. absurd (c.load_file.ensures.done d)

pub returns-in-Err-Failed-clause-ends : goal.returns-in-Err-Failed-clause-ends
returns-in-Err-Failed-clause-ends g c = λ source told state h. record { text = λ sink. refl; stored = h }

pub returns-in-Err-TooLarge-clause-ends : goal.returns-in-Err-TooLarge-clause-ends
returns-in-Err-TooLarge-clause-ends g c = λ source told state h. record { text = λ sink. refl; stored = h }

pub returns-in-Err-Memory-clause-ends : goal.returns-in-Err-Memory-clause-ends
returns-in-Err-Memory-clause-ends g c = λ source told state h. record { text = λ sink. refl; stored = inl h }

pub returns-in-Ok-clause-input : goal.returns-in-Ok-clause-input
returns-in-Ok-clause-input g c = λ told. record {
  too_large = λ e. absurd (c.load_file.ensures.done (subst DoesNothing (sym e) tt));
  fits = λ _. subst (λ (xs : List ℕ). length xs ≤ 2 ^ 29) (c.in-Ok.ensures.whole told) (subst (λ (n : ℕ). n ≤ 2 ^ 29) c.in-Ok.file.ok.0 c.in-Ok.ensures.fits);
  whole = λ _. c.in-Ok.ensures.end told;
}

pub returns-in-Ok-clause-causes : goal.returns-in-Ok-clause-causes
returns-in-Ok-clause-causes g c = record {
  source = λ e. absurd (c.load_file.ensures.done (subst DoesNothing (sym e) tt));
  folder = c.load_file.ensures.folder_fault;
  sink = c.load_file.ensures.sink_fault;
}

pub returns-in-Err-Failed-clause-whole : goal.returns-in-Err-Failed-clause-whole
returns-in-Err-Failed-clause-whole g c = λ told.
    record { unchanged = λ count e. refl; levels = λ state h a. absurd a; undone = kept_itself _; lasts = keeps_same _ _ _ (kept_itself _) }

pub returns-in-Err-TooLarge-clause-whole : goal.returns-in-Err-TooLarge-clause-whole
returns-in-Err-TooLarge-clause-whole g c = λ told.
    record { unchanged = λ count e. refl; levels = λ state h a. absurd a; undone = tt; lasts = keeps_same _ _ _ (kept_itself _) }

pub returns-in-Err-Memory-clause-whole : goal.returns-in-Err-Memory-clause-whole
returns-in-Err-Memory-clause-whole g c = λ told.
    record { unchanged = λ count e. refl; levels = λ state h a. absurd a; undone = inl (kept_itself _); lasts = keeps_same _ _ _ (kept_itself _) }

pub returns-in-Ok-clause-lasting : goal.returns-in-Ok-clause-lasting
returns-in-Ok-clause-lasting g c = c.load_file.ensures.lasting

pub returns-in-Err-Failed-clause-lasting : goal.returns-in-Err-Failed-clause-lasting
returns-in-Err-Failed-clause-lasting g c = λ told. commit_itself _

pub returns-in-Err-TooLarge-clause-lasting : goal.returns-in-Err-TooLarge-clause-lasting
returns-in-Err-TooLarge-clause-lasting g c = λ told. commit_itself _

pub returns-in-Err-Memory-clause-lasting : goal.returns-in-Err-Memory-clause-lasting
returns-in-Err-Memory-clause-lasting g c = λ told. commit_itself _

pub returns-in-Ok-clause-opened : goal.returns-in-Ok-clause-opened
returns-in-Ok-clause-opened g c = c.load_file.ensures.opened

pub returns-in-Err-Failed-clause-opened : goal.returns-in-Err-Failed-clause-opened
returns-in-Err-Failed-clause-opened g c = λ told. stays_same _ _ (λ a. a)

pub returns-in-Err-TooLarge-clause-opened : goal.returns-in-Err-TooLarge-clause-opened
returns-in-Err-TooLarge-clause-opened g c = λ told. stays_same _ _ (λ a. a)

pub returns-in-Err-Memory-clause-opened : goal.returns-in-Err-Memory-clause-opened
returns-in-Err-Memory-clause-opened g c = λ told. stays_same _ _ (λ a. a)
