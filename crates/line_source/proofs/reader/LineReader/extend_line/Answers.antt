use Rattle.std.proofs.Common.{refl}
use Rattle.line_source.proofs.Cuts.{took_all, took_whole}
use Rattle.line_source.proofs.reader.LineReader.extend_line.Goals as goal

pub returns-then-count-held-clause-takes : goal.returns-then-count-held-clause-takes
returns-then-count-held-clause-takes c = λ seen are.
    took_whole c.args.self.now _ seen c.append.new.line.items c.args.line.now.items c.as_slice.result.now c.line_len-count.result c.as_slice.ensures.value
    c.line_len-count.ensures.value c.in_ok-append.ensures.appended are refl refl refl c.if-count-held.true refl

pub returns-else-count-held-clause-takes : goal.returns-else-count-held-clause-takes
returns-else-count-held-clause-takes c = λ seen are.
    took_all c.args.self.now _ seen c.append.new.line.items c.args.line.now.items c.as_slice.result.now c.line_len-count.result c.as_slice.ensures.value
    c.line_len-count.ensures.value c.in_ok-append.ensures.appended are refl refl refl c.if-count-held.false c.line_len-count.ensures.bound refl
