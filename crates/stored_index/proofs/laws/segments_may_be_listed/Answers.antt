use Rattle.stored_index.proofs.Listing.{live_fit, may_be_listed}
use Rattle.stored_index.proofs.laws.segments_may_be_listed.Goals as goal

pub returns-clause-listed : goal.returns-clause-listed
returns-clause-listed c = may_be_listed

pub returns-clause-live : goal.returns-clause-live
returns-clause-live c = live_fit
