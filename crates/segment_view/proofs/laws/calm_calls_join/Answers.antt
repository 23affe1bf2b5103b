use Rattle.segment_view.proofs.Reading.{calm_none, calm_then, calm_more}
use Rattle.segment_view.proofs.laws.calm_calls_join.Goals as goal

pub returns : goal.returns
returns c = record { none = calm_none; after = calm_then; more = calm_more }
