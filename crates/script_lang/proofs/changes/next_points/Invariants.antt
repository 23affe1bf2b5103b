use Rattle.std.proofs.Common.{◌≤◌, ◌-◌, vec_len}
use Rattle.script_lang.specs.Parts.{IsRestOf, ReadsPoints}
use Rattle.script_lang.proofs.changes.next_points.Given as goal

abbrev pub invariant-document : goal.invariant-document
invariant-document g l = record {
  reads : ReadsPoints g.row.D l.points.items l.fn.words l.words;
  few : vec_len l.points ≤ 16;
  rest : IsRestOf l.words l.fn.words;
}

abbrev pub decreases-document : goal.decreases-document
decreases-document g l = 16 - vec_len l.points
