use Rattle.std.proofs.Common.{◌≡◌, ◌+◌, [], ◌∷◌, ◌++◌, ℕ, take, set, sym, ap, ◌∙◌, arith}
use Rattle.std.proofs.lemmas.List.{take_all, take_more_set}
use Rattle.leaf_codec.specs.Raw.{raw_docs}
use Rattle.leaf_codec.specs.Views.{raw_numbers_of}
use Rattle.leaf_codec.proofs.Lists.{grows}
use Rattle.leaf_codec.proofs.NumbersOut.{docs_none, docs_more}
use Rattle.leaf_codec.proofs.numbers_out.put_all.Goals as goal

pub loop-i-init : goal.loop-i-init
loop-i-init c =
    let z : c.args.at + 0 ≡ c.args.at = omega arith in
    docs_none (take c.args.at c.args.out.now) _ (raw_numbers_of c.args.numbers) (ap (λ (n : ℕ). take n c.args.out.now) z)

pub loop-i-preserved : goal.loop-i-preserved
loop-i-preserved c =
    let r = raw_numbers_of c.args.numbers in
    let l = c.loop-i in
    let at : ℕ = c.args.at + l.i in
    let next : c.args.at + (l.i + 1) ≡ at + 1 = omega arith in
    ap (λ (n : ℕ). take n (set l.out at c.number.result)) next
    ∙ grows _ (take at l.out) (take c.args.at c.args.out.now) (raw_docs l.i r) (c.number.result ∷ []) (raw_docs (l.i + 1) r)
    (take_more_set l.out at c.number.result (omega (arith, c.requires.room, c.loop-i-test.true)))
    l.invariant
    (ap (λ (n : ℕ). raw_docs l.i r ++ n ∷ []) c.number.ensures.value ∙ sym (docs_more l.i r))

pub returns : goal.returns
returns c =
    let l = c.loop-i in
    let end : l.i ≡ c.args.numbers.count = omega (arith, c.loop-i-test.false, l.auto.i-end) in
    sym (take_all (c.args.at + l.i) l.out (omega (arith, end, c.requires.room)))
    ∙ l.invariant
    ∙ ap (λ (n : ℕ). take c.args.at c.args.out.now ++ raw_docs n (raw_numbers_of c.args.numbers)) end
