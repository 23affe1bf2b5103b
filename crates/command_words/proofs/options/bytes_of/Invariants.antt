use Rattle.std.proofs.Common.{◌≡◌, map, take}
use Rattle.command_words.proofs.options.bytes_of.Given as goal

abbrev pub invariant-loop-part : goal.invariant-loop-part
invariant-loop-part l = l.texts.items ≡ take l.part-index (map (λ part. part.now) l.parts)
