use Rattle.std.proofs.Common.{not}
use Rattle.std.proofs.lemmas.List.Elements.{All-filter}
use Rattle.documents.specs.Entries.{is_among}
use Rattle.segment_view.specs.LiveSegments.{IsRead}
use Rattle.segment_view.proofs.Living.{read_alike, live_alike, read_cleared, read_placed}
use Rattle.segment_view.proofs.laws.segments_stay_read.Goals as goal

pub returns : goal.returns
returns c = record {
  alike = read_alike;
  entries = live_alike;
  cleared = read_cleared;
  placed = read_placed;
  among = λ D files es ids parts all. All-filter (λ p. is_among ids p.head.id) (IsRead D files es) parts all;
  others = λ D files es ids parts all. All-filter (λ p. not (is_among ids p.head.id)) (IsRead D files es) parts all;
}
