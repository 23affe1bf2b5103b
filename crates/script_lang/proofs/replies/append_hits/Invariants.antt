use Rattle.std.proofs.Common.{◌≡◌, ◌≤◌, ◌++◌, take, length}
use Rattle.std.specs.Prelude.{codes, decimal}
use Rattle.std.specs.List.{flat_map}
use Rattle.script_lang.specs.Replies.{text_line}
use Rattle.script_lang.proofs.replies.append_hits.Given as goal

abbrev pub invariant-loop-rest : goal.invariant-loop-rest
invariant-loop-rest l = record {
  long : length l.block ≡ 1024;
  grown : length l.fn.out.items ≤ length l.out.items;
  begins : take (length l.fn.out.items) l.out.items ≡ l.fn.out.items;
  items : l.out.items ++ flat_map (λ doc. text_line (decimal doc)) l.rest
      ≡ (l.fn.out.items ++ text_line (codes "hits " ++ decimal (length l.docs))) ++ flat_map (λ doc. text_line (decimal doc)) l.docs;
}

abbrev pub decreases-loop-rest : goal.decreases-loop-rest
decreases-loop-rest l = length l.rest
