use Rattle.std.proofs.Common.{◌≡◌, arith, ◌∙◌}
use Rattle.std.proofs.lemmas.Result.{IfOk-weaker}
use Rattle.leaf_codec.specs.Entries.{docs_of}
use Rattle.leaf_codec.proofs.Items.{docs_all}
use Rattle.segment_build.proofs.Numbers.{numbers_more, numbers_small, numbers_live}
use Rattle.segment_build.proofs.build.numbers_of.Goals as goal

pub loop-entry-preserved : goal.loop-entry-preserved
loop-entry-preserved g c =
    numbers_more c.args.entries.now c.loop-entry.entry-index c.entry-item.result c.loop-entry.numbers.items c.push.new.self.items (omega arith) c.entry-item.is
    c.loop-entry.invariant c.in_ok-push.ensures.items

pub of_docs-requires : goal.of_docs-requires
of_docs-requires g c =
    let all : c.as_slice.result.now ≡ docs_of c.args.entries.now =
    c.as_slice.ensures.value ∙ c.loop-entry.invariant ∙ docs_all c.args.entries.now c.loop-entry.entry-index (omega arith) in
    numbers_small c.args.entries.now c.as_slice.result.now c.requires all

pub returns-clause-live : goal.returns-clause-live
returns-clause-live g c =
    let all : c.as_slice.result.now ≡ docs_of c.args.entries.now =
    c.as_slice.ensures.value ∙ c.loop-entry.invariant ∙ docs_all c.args.entries.now c.loop-entry.entry-index (omega arith) in
    IfOk-weaker c.of_docs.result _ _ (λ live made. numbers_live c.args.entries.now c.as_slice.result.now live all made) c.of_docs.ensures.live
