use Rattle.std.proofs.Common.{◌∙◌, ap, sym}
use Rattle.leaf_codec.specs.Words.{number_of}
use Rattle.leaf_codec.proofs.Bytes.{number_of_four}
use Rattle.leaf_codec.proofs.words.word.Goals as goal
use Rattle.byte_cursor.proofs.Lists.{four_at}

pub returns : goal.returns
returns c = c.from_be_bytes.ensures ∙ sym (number_of_four _ _ _ _) ∙ ap number_of (sym (four_at c.args.bytes.now c.args.at c.requires))
