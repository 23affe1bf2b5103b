use Rattle.std.proofs.Common.{◌≡◌, ◌+◌, length}
use Rattle.script_lang.specs.Parts.{words_left}
use Rattle.script_lang.proofs.words.Words.count.Given as goal

abbrev pub invariant-loop-rest : goal.invariant-loop-rest
invariant-loop-rest l = l.count + length (words_left l.rest) ≡ length (words_left l.self)

abbrev pub decreases-loop-rest : goal.decreases-loop-rest
decreases-loop-rest l = length (words_left l.rest)
