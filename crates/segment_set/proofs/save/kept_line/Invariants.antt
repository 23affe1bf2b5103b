use Rattle.std.proofs.Common.{take}
use Rattle.std.specs.List.{All}
use Rattle.commit_list.specs.declared.listed.Listed.{Listed}
use Rattle.segment_view.specs.LiveSegments.{live_segment}
use Rattle.segment_set.specs.Saved.{IsLineOf}
use Rattle.segment_set.proofs.save.kept_line.Given as goal

abbrev pub invariant-loop-line : goal.invariant-loop-line
invariant-loop-line g l = All (λ (m : Listed). IsLineOf l.names m (live_segment l.head l.live) → ⊥) (take l.line-index l.last)
