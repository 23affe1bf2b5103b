use Rattle.std.proofs.Common.{◌≤◌, length, subst}
use Rattle.std.specs.Prelude.{◌↔◌, IsTrue}
use Rattle.std.specs.List.{All}
use Rattle.segment_view.specs.LiveSegments.{parts_among}
use Rattle.segment_set.specs.Sets.{SetData}
use Rattle.segment_set.specs.Merged.{IsWhole}
use Rattle.segment_set.proofs.set.SegmentSet.is_settled.Goals as goal

pub returns : goal.returns
returns g c =
    subst (λ (s : SetData). IsTrue c.is_settled.result ↔ ((length c.args.ids.now ≤ 1) × All IsWhole (parts_among c.args.ids.now s.parts))) c.self.view_is
    c.is_settled.ensures
