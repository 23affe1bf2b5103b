use Rattle.std.proofs.Common.{◌≡◌, ◌++◌, take, length}
use Rattle.std.specs.Prelude.{codes, decimal}
use Rattle.std.specs.List.{flat_map}
use Rattle.script_lang.specs.Replies.{text_line, found_text, found_of}
use Rattle.script_lang.proofs.replies.append_near.Given as goal

abbrev pub invariant-loop-found : goal.invariant-loop-found
invariant-loop-found l =
    l.out.items ≡ (l.fn.out.items ++ text_line (codes "near " ++ decimal (length l.near)))
    ++ flat_map found_text (take l.found-index (found_of l.near))
