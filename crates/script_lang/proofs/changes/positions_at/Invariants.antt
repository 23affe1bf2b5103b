use Rattle.std.proofs.Common.{◌≡◌, length}
use Rattle.number_text.specs.Number.{number}
use Rattle.script_lang.specs.Parts.{words_left, Writes}
use Rattle.script_lang.proofs.changes.positions_at.Given as goal

abbrev pub invariant-loop-word : goal.invariant-loop-word
invariant-loop-word l = Writes number l.positions.items l.fn.words l.words × (l.place ≡ l.words.place)

abbrev pub decreases-loop-word : goal.decreases-loop-word
decreases-loop-word l = length (words_left l.words)
