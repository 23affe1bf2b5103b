use Rattle.std.proofs.Common.{◌≡◌, ◌*◌, ◌≤◌, drop, length}
use Rattle.std.specs.Prelude.{decimal}
use Rattle.std.specs.List.{flat_map}
use Rattle.script_lang.specs.Replies.{text_line}
use Rattle.script_lang.proofs.replies.put_lines.Given as goal

abbrev pub invariant-loop-i : goal.invariant-loop-i
invariant-loop-i l = record {
  room : 11 * l.i ≤ l.at;
  within : l.at ≤ length l.block;
  lines : drop l.at l.block ≡ flat_map (λ doc. text_line (decimal doc)) (drop l.i l.docs);
}
