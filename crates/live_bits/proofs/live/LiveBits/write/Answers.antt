use Rattle.std.proofs.Common.{ap, subst, ◌∙◌, List, ℕ, IfOk}
use Rattle.live_bits.specs.LiveSet.{LiveSet}
use Rattle.live_bits.specs.LiveBody.{IsLiveBody, live_set}
use Rattle.live_bits.proofs.live.LiveBits.write.Goals as goal

pub returns : goal.returns
returns c =
    let b = c.self.inside in
    subst (λ (s : LiveSet). IfOk c.spell.result (IsLiveBody c.args.segment c.args.generation s))
    (ap (λ (bits : List ℕ). live_set b.base b.span bits) c.as_slice.ensures.value ∙ c.self.view_is) c.spell.ensures
