use Rattle.std.proofs.Common.{Some, None}
use Rattle.std.proofs.lemmas.Bool.Decides.{Decides-eqb}
use Rattle.std.proofs.lemmas.Slice.Eq.{strip_prefix_is}
use Rattle.byte_cursor.specs.Cursor.{cursor_rest}
use Rattle.byte_cursor.proofs.cursor.Cursor.take_exact.Goals as goal

pub returns-in-Some-clause-taken : goal.returns-in-Some-clause-taken
returns-in-Some-clause-taken c = strip_prefix_is Decides-eqb (cursor_rest c.args.self.now) c.args.want.now (Some c.in-Some.rest) c.in-Some.ensures.cases

pub returns-in-None-clause-other : goal.returns-in-None-clause-other
returns-in-None-clause-other c = strip_prefix_is Decides-eqb (cursor_rest c.args.self.now) c.args.want.now None c.in-None.ensures.cases
