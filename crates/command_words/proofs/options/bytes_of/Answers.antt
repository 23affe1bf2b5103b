use Rattle.std.proofs.Common.{rules, ◌≡◌, ◌∙◌, ◌++◌, ◌∷◌, [], ap, sym, arith, get_or, take}
use Rattle.command_words.proofs.Names.{texts, texts_more}
use Rattle.command_words.proofs.options.bytes_of.Goals as goal

pub loop-part-preserved : goal.loop-part-preserved
loop-part-preserved c =
    let more = texts_more c.args.parts.now c.loop-part.part-index (record { ref_ptr = (0, 0); now = [] }) (omega arith) in
    let same : c.new.result ≡ (get_or c.args.parts.now c.loop-part.part-index (record { ref_ptr = (0, 0); now = [] })).now = search rules in
    c.in_ok-push.ensures.items
    ∙ (ap (λ xs. xs ++ c.new.result ∷ []) c.loop-part.invariant
    ∙ (ap (λ x. take c.loop-part.part-index (texts c.args.parts.now) ++ x ∷ []) same ∙ sym more))
