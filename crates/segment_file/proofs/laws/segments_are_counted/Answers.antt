use Rattle.segment_file.proofs.Counted.{segment_counted, segment_ranges}
use Rattle.segment_file.proofs.laws.segments_are_counted.Goals as goal

pub returns-clause-entries : goal.returns-clause-entries
returns-clause-entries c = segment_counted

pub returns-clause-ranges : goal.returns-clause-ranges
returns-clause-ranges c = segment_ranges
