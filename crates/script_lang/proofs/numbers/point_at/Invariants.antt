use Rattle.std.proofs.Common.{◌≡◌, take, length}
use Rattle.number_text.specs.Number.{coordinate}
use Rattle.script_lang.specs.Parts.{IsRestOf, Writes}
use Rattle.script_lang.proofs.numbers.point_at.Given as goal

abbrev pub invariant-loop-i : goal.invariant-loop-i
invariant-loop-i g l = (length l.c ≡ g.row.D) × Writes coordinate (take l.i l.c) l.fn.words l.words × IsRestOf l.words l.fn.words
