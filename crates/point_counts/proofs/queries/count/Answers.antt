use Rattle.std.proofs.Common.{◌≡◌, ◌<◌, ◌++◌, ◌∙◌, ℕ, zero, suc, [], ◌∷◌, get_or, refl, arith}
use Rattle.point_codec.specs.Points.{Region}
use Rattle.point_codec.specs.Seen.{items_of}
use Rattle.segment_view.specs.LiveSegments.{live_in_parts}
use Rattle.point_counts.specs.Tables.{all_at}
use Rattle.point_counts.proofs.Counts.{no_counts, counted, at_one_place, most_counted}
use Rattle.point_counts.proofs.queries.count.Goals as goal

one_nought : (k : ℕ) → k < 1 → ◌≡◌ {A = ℕ} (get_or (0 ∷ []) k 0) 0
one_nought zero lt = refl
one_nought (suc k) lt = absurd (omega (arith, lt))

pub returns-clause-exact : goal.returns-clause-exact
returns-clause-exact g c = λ told agrees es read.
    let box : Region = record { lo = c.args.lo.now.c; hi = c.args.hi.now.c } in
    let entries = live_in_parts es c.args.segments.now ++ items_of c.args.buffer.now in
    let counts = counted (all_at box (λ p. 0) entries) (0 ∷ []) c.count_all.new.table (no_counts (0 ∷ []) one_nought)
    (c.in_ok-count_all.ensures.counts told agrees es read) in
    most_counted box (λ p. 0) entries c.count_all.new.table 0 (omega (arith, c.count_all.auto.table))
    (c.in_ok-count_all.ensures.few told es read) counts ∙ at_one_place box entries
