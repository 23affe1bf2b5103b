-- The file that was read is the source's bytes, and its lines end as one record says.
use Rattle.std.proofs.Common.{◌∙◌, ◌≤◌, ◌^◌, ℕ, List, length, inl, inr, refl, sym, subst}
use Rattle.stored_index.proofs.KeptFiles.{kept_itself}
use Rattle.run_status.specs.Ends.{DoesNothing}
use Rattle.batch_queries.proofs.MergeCalls.{all_evident, status_is}
use Rattle.batch_queries.proofs.merge_batch.run_merging_batch.Goals as goal

pub returns-in-Ok-clause-never_usage : goal.returns-in-Ok-clause-never_usage
returns-in-Ok-clause-never_usage g c = λ e.
    (status_is _ _ _ _ _ _ c.merge_stored.result _ c.status_of.ensures c.merge_stored.ensures.merges).done (subst DoesNothing (sym e) tt)

pub returns-in-Ok-clause-ends : goal.returns-in-Ok-clause-ends
returns-in-Ok-clause-ends g c = λ source told state h.
    rw (c.as_slice.ensures.value ∙ c.in-Ok.ensures.whole source) at
    ((status_is _ _ _ _ _ _ c.merge_stored.result _ c.status_of.ensures c.merge_stored.ensures.merges).ends told tt state h)

pub returns-in-Ok-clause-leaves : goal.returns-in-Ok-clause-leaves
returns-in-Ok-clause-leaves g c = λ told. (status_is _ _ _ _ _ _ c.merge_stored.result _ c.status_of.ensures c.merge_stored.ensures.merges).leaves told tt

pub returns-in-Ok-clause-stored : goal.returns-in-Ok-clause-stored
returns-in-Ok-clause-stored g c = λ told. (status_is _ _ _ _ _ _ c.merge_stored.result _ c.status_of.ensures c.merge_stored.ensures.merges).stored told tt

pub returns-in-Ok-clause-untouched : goal.returns-in-Ok-clause-untouched
returns-in-Ok-clause-untouched g c = λ d. absurd ((status_is _ _ _ _ _ _ c.merge_stored.result _ c.status_of.ensures c.merge_stored.ensures.merges).done d)

pub returns-in-Ok-clause-whole : goal.returns-in-Ok-clause-whole
returns-in-Ok-clause-whole g c = λ told state h.
    (status_is _ _ _ _ _ _ c.merge_stored.result _ c.status_of.ensures c.merge_stored.ensures.merges).whole told tt state h

pub returns-in-Ok-clause-evident : goal.returns-in-Ok-clause-evident
returns-in-Ok-clause-evident g c = all_evident _ _ _ (status_is _ _ _ _ _ _ c.merge_stored.result _ c.status_of.ensures c.merge_stored.ensures.merges).evident

pub returns-in-Ok-clause-input : goal.returns-in-Ok-clause-input
returns-in-Ok-clause-input g c = λ told. record {
  too_large = λ e.
      absurd ((status_is _ _ _ _ _ _ c.merge_stored.result _ c.status_of.ensures c.merge_stored.ensures.merges).done (subst DoesNothing (sym e) tt));
  fits = λ _. subst (λ (xs : List ℕ). length xs ≤ 2 ^ 29) (c.in-Ok.ensures.whole told) (subst (λ (n : ℕ). n ≤ 2 ^ 29) c.in-Ok.lines.ok.0 c.in-Ok.ensures.fits);
  whole = λ _. c.in-Ok.ensures.end told;
}

pub returns-in-Ok-clause-causes : goal.returns-in-Ok-clause-causes
returns-in-Ok-clause-causes g c =
    let merges = status_is _ _ _ _ _ _ c.merge_stored.result _ c.status_of.ensures c.merge_stored.ensures.merges in
    record { source = λ e. absurd (merges.done (subst DoesNothing (sym e) tt)); folder = merges.folder; sink = merges.sink }

pub returns-in-Err-Failed-clause-leaves : goal.returns-in-Err-Failed-clause-leaves
returns-in-Err-Failed-clause-leaves g c = λ told.
    record { stored = λ state h. h; kept = kept_itself _; lasting = inl (kept_itself _); merged = λ a. absurd a; levels = λ a. absurd a; canon = λ a. absurd a }

pub returns-in-Err-TooLarge-clause-leaves : goal.returns-in-Err-TooLarge-clause-leaves
returns-in-Err-TooLarge-clause-leaves g c = λ told.
    record { stored = λ state h. h; kept = kept_itself _; lasting = inl (kept_itself _); merged = λ a. absurd a; levels = λ a. absurd a; canon = λ a. absurd a }

pub returns-in-Err-Memory-clause-leaves : goal.returns-in-Err-Memory-clause-leaves
returns-in-Err-Memory-clause-leaves g c = λ told.
    record {
      stored = λ state h. h;
      kept = inl (kept_itself _);
      lasting = inl (kept_itself _);
      merged = λ a. absurd a;
      levels = λ a. absurd a;
      canon = λ a. absurd a;
    }

pub returns-in-Err-Memory-clause-ends : goal.returns-in-Err-Memory-clause-ends
returns-in-Err-Memory-clause-ends g c = λ source told state h. inl (λ out. refl)

pub returns-in-Err-Failed-clause-stored : goal.returns-in-Err-Failed-clause-stored
returns-in-Err-Failed-clause-stored g c = λ told. record { unwritten = inr refl; answered = λ tells. absurd (tells tt) }

pub returns-in-Err-TooLarge-clause-stored : goal.returns-in-Err-TooLarge-clause-stored
returns-in-Err-TooLarge-clause-stored g c = λ told. record { unwritten = inr refl; answered = λ tells. absurd (tells tt) }

pub returns-in-Err-Memory-clause-stored : goal.returns-in-Err-Memory-clause-stored
returns-in-Err-Memory-clause-stored g c = λ told. record { unwritten = inr refl; answered = λ tells. absurd (tells tt) }

pub returns-in-Ok-clause-stays : goal.returns-in-Ok-clause-stays
returns-in-Ok-clause-stays g c = c.merge_stored.ensures.stays
