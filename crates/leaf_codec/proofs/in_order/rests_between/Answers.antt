use Rattle.std.proofs.Common.{refl, sym, arith, true≢false}
use Rattle.leaf_codec.proofs.OrderedKeys.{rest_rank, rests_all, rests_each}
use Rattle.leaf_codec.proofs.in_order.rests_between.Goals as goal

pub returns-then-high-base : goal.returns-then-high-base
returns-then-high-base g c = (
  λ no. absurd (true≢false (sym no)),
  λ all.
      let first = rest_rank c.args.parts.now c.args.slots.now 0 c.args.e c.requires.parts c.requires.slots (omega (arith, c.requires.some)) c.requires.dimension
      c.requires.other in
      absurd (omega (arith, c.if-high-base.true, (all 0 (omega (arith, c.requires.some))).1, first.1)),
)

pub words_between-requires : goal.words_between-requires
words_between-requires g c =
    record {
      within = λ i lt.
          (rest_rank c.args.parts.now c.args.slots.now i c.args.e c.requires.parts c.requires.slots lt c.requires.dimension c.requires.other).0;
    }

pub returns : goal.returns
returns g c =
    let p = c.args.parts.now in
    let s = c.args.slots.now in (
      λ yes. rests_all p s c.args.e c.args.low c.args.high _ _ c.requires.parts c.requires.slots c.requires.dimension c.requires.other
          (omega (arith, c.if-high-base.false)) c.saturating_sub.ensures refl (c.words_between.ensures.0 yes),
      λ all. c.words_between.ensures.1
          (rests_each p s c.args.e c.args.low c.args.high _ _ c.requires.parts c.requires.slots c.requires.dimension c.requires.other c.saturating_sub.ensures
          refl all),
    )
