use Rattle.std.proofs.Common.{◌≡◌, ◌<◌, ◌+◌, ◌-◌, ◌^◌, ap, sym, subst, ◌∙◌, arith, inl, inr}
use Rattle.std.proofs.lemmas.Bool.{cases_eq}
use Rattle.leaf_codec.specs.Raw.{offset_at}
use Rattle.leaf_codec.specs.Views.{raw_numbers_of, raw_keys_of}
use Rattle.leaf_codec.proofs.OrderedKeys.{less_word, word_of}
use Rattle.leaf_codec.proofs.in_order.climb.Goals as goal

pub loop-i-preserved : goal.loop-i-preserved
loop-i-preserved g c =
    let n = raw_numbers_of c.args.numbers.now in
    let r = raw_keys_of c.args.parts.now in
    let l = c.loop-i in
    let back : l.i ≡ l.i + 1 - 1 = omega arith in
    record {
      last = c.place-next.ensures.value ∙ ap (λ k. word_of g.row.D n r c.args.d k) back;
      up = λ k from lt. elim (cases_eq (k + 1) l.i) [
        | inl same ↦
            let last : l.i - 1 ≡ k = omega arith in
            let before : l.last ≡ word_of g.row.D n r c.args.d k = l.invariant.last ∙ ap (λ m. word_of g.row.D n r c.args.d m) last in
            let here : c.place-next.result ≡ word_of g.row.D n r c.args.d (k + 1) =
            c.place-next.ensures.value ∙ ap (λ m. word_of g.row.D n r c.args.d m) (sym same) in
            let small = subst (λ m. n.least + offset_at n m < 2 ^ 32) (sym same) c.place-next.ensures.small in
            less_word g.row.D c.args.d k (k + 1) n r c.requires.dimension small (omega (arith, before, here, c.if-next-last.false))
        | inr apart ↦ l.invariant.up k from (omega arith)
      ];
    }
