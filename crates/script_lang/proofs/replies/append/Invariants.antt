use Rattle.std.proofs.Common.{◌≡◌, ◌++◌, take, length}
use Rattle.std.specs.List.{flat_map}
use Rattle.script_lang.proofs.replies.append.Given as goal

abbrev pub invariant-loop-piece : goal.invariant-loop-piece
invariant-loop-piece l = (l.out.items ≡ l.fn.out.items ++ flat_map (λ p. p.now) (take l.piece-index l.pieces)) × (l.before ≡ length l.fn.out.items)
