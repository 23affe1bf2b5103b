use Rattle.live_bits.proofs.LiveNumbers.{is_live-without, length-without, without-dead, IsLiveSet-without}
use Rattle.live_bits.proofs.laws.clearing_takes_one_out.Goals as goal

pub returns-clause-others : goal.returns-clause-others
returns-clause-others c = is_live-without

pub returns-clause-count : goal.returns-clause-count
returns-clause-count c = length-without

pub returns-clause-dead : goal.returns-clause-dead
returns-clause-dead c = without-dead

pub returns-clause-set : goal.returns-clause-set
returns-clause-set c = IsLiveSet-without
