use Rattle.std.proofs.Common.{◌≡◌, ◌++◌}
use Rattle.export_points.specs.Exported.{columns_text}
use Rattle.export_points.proofs.texts.put_columns.Given as goal

abbrev pub invariant-loop-i : goal.invariant-loop-i
invariant-loop-i l = l.text.items ≡ l.initial.text.items ++ columns_text l.letter l.i
