use Rattle.std.proofs.Common.{arith}
use Rattle.std.proofs.lemmas.Bool.Decides.{nat_tests}
use Rattle.script_lang.proofs.Boundaries.{boundary_behind, boundary_before}
use Rattle.script_lang.proofs.WordsOf.{none_taken, word_taken}
use Rattle.script_lang.proofs.words.first_word.Goals as goal

pub split_at-requires : goal.split_at-requires
split_at-requires c = boundary_behind c.args.text.now c.blanks.result c.utf8.text c.blanks.ensures.value

pub returns-then-is_empty : goal.returns-then-is_empty
returns-then-is_empty c = none_taken _ _ _ c.blanks.ensures.value c.split_at.ensures.back (grind (arith, nat_tests))

pub split_at-requires-2 : goal.split_at-requires-2
split_at-requires-2 c = boundary_before _ _ c.word_len.ensures.value c.word_len.ensures.bound

pub returns : goal.returns
returns c =
    word_taken _ _ _ _ _ _ c.blanks.ensures.value c.split_at.ensures.back (grind (arith, nat_tests))
    c.word_len.ensures.value c.split_at-2.ensures.front c.split_at-2.ensures.back
