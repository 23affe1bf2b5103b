-- The lists agree as far as the loop has come.
use Rattle.std.proofs.Common.{◌∙◌, ◌<◌, length, take, sym, ap, subst, arith}
use Rattle.std.specs.List.{All}
use Rattle.std.proofs.lemmas.List.{take_more}
use Rattle.std.proofs.lemmas.List.Elements.{All-push}
use Rattle.live_bits.specs.LiveSet.{IsLiveSet, LiveSet}
use Rattle.commit_list.specs.declared.listed.Listed.{Listed}
use Rattle.segment_file.specs.Heads.{Head}
use Rattle.segment_set.proofs.Listed.{same_at, same_more}
use Rattle.segment_set.proofs.set.are_listed.Goals as goal
use Rattle.segment_set.proofs.set.are_listed.Goals.{then-id-one-via-then-id-one, then-id-one-via-else-id-one+then-live_count-one}

abbrev none : Listed
none = record { segment = 0; generation = 0; entries = 0; live = 0 }

pub returns-then-id-one-clause-same : goal.returns-then-id-one-clause-same
returns-then-id-one-clause-same g c = (
  λ e. absurd cc,
  λ both.
      let in_listed = c.loop-i-test.true in
      let in_heads : c.loop-i.i < length c.args.heads.now = omega (arith, c.if-heads-listed.false, in_listed) in
      let in_lives : c.loop-i.i < length c.args.lives.now = omega (arith, c.requires, in_heads) in
      absurd (elim c.then-id-one.branch [
        | then-id-one-via-then-id-one w ↦
            w.if-id-one.true
            (c.id.ensures ∙ ap (λ (h : Head). h.id) c.index-heads-i.is
            ∙ same_at (λ (h : Head). h.id) (λ (s : Listed). s.segment) c.args.heads.now c.args.listed.now c.loop-i.i c.index-heads-i.result none in_heads
            in_listed both.0)
        | then-id-one-via-else-id-one+then-live_count-one w ↦
            w.if-live_count-one.true
            (w.live_count.ensures.value ∙ ap (λ (s : LiveSet). length s.live) w.index-lives-i.is
            ∙ same_at (λ (s : LiveSet). length s.live) (λ (s : Listed). s.live) c.args.lives.now c.args.listed.now c.loop-i.i w.index-lives-i.result none
            in_lives in_listed both.1)
      ]),
)

pub loop-i-preserved : goal.loop-i-preserved
loop-i-preserved g c =
    let in_listed = c.loop-i-test.true in
    let in_heads : c.loop-i.i < length c.args.heads.now = omega (arith, c.if-heads-listed.false, in_listed) in
    let in_lives : c.loop-i.i < length c.args.lives.now = omega (arith, c.requires, in_heads) in
    record {
      ids = same_more (λ (h : Head). h.id) (λ (s : Listed). s.segment) c.args.heads.now c.args.listed.now c.loop-i.i c.index-heads-i.result none in_heads
          in_listed c.loop-i.invariant.ids
          (ap (λ (h : Head). h.id) (sym c.index-heads-i.is) ∙ sym c.id.ensures ∙ c.if-id-one.false);
      counts = same_more (λ (s : LiveSet). length s.live) (λ (s : Listed). s.live) c.args.lives.now c.args.listed.now c.loop-i.i c.index-lives-i.result none
          in_lives in_listed c.loop-i.invariant.counts
          (ap (λ (s : LiveSet). length s.live) (sym c.index-lives-i.is) ∙ sym c.live_count.ensures.value ∙ c.if-live_count-one.false);
      sets = subst (All IsLiveSet) (sym (take_more c.args.lives.now c.loop-i.i c.index-lives-i.result in_lives))
          (All-push IsLiveSet (take c.loop-i.i c.args.lives.now) _ c.loop-i.invariant.sets (subst IsLiveSet c.index-lives-i.is c.live_count.ensures.set));
    }
