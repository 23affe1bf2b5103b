use Rattle.std.proofs.Common.{◌≡◌, ◌+◌}
use Rattle.nearest_query.specs.Search.{World, HasRoots, one_within, sum_of_dead}
use Rattle.nearest_query.proofs.survey.survey_dead.Given as goal

abbrev pub invariant-loop-i : goal.invariant-loop-i
invariant-loop-i g l = (w : World) → HasRoots g.row.D w → w.heads ≡ l.heads → w.lives ≡ l.lives → w.at ≡ l.at.c
    → l.near ≡ l.taken + sum_of_dead w (one_within w l.bound) l.i
