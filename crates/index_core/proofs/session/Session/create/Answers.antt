-- A new session guards files without a Commit file, and has no segment.
use Rattle.std.proofs.Common.{inl}
use Rattle.segment_set.proofs.Sizes.{set_fits}
use Rattle.index_core.proofs.Carrying.{bare_listed}
use Rattle.index_core.proofs.SetGuards.{bare_parts}
use Rattle.index_core.proofs.TracedCommits.{traced_bare}
use Rattle.index_core.proofs.session.Session.create.Goals as goal

pub returns-clause-guards : goal.returns-clause-guards
returns-clause-guards g c files none = record { set = inl none; last = λ done. none }

pub new-requires : goal.new-requires
new-requires g c = (set_fits g.row.D c.requires.dims.1, (c.requires.dims, (c.requires.least_leaf, c.requires.greatest_leaf)))

pub leaf_size-leaf_size-requires : goal.leaf_size-leaf_size-requires
leaf_size-leaf_size-requires g c = set_fits g.row.D c.requires.dims.1

pub returns-clause-bare : goal.returns-clause-bare
returns-clause-bare g c = bare_parts _ _ c.in_ok-set.ensures.names c.leaf_size-leaf_size.ensures.well.named

pub returns-clause-own : goal.returns-clause-own
returns-clause-own g c files =
    bare_listed files c.in_ok-set.set c.in_ok-set.ensures.names c.leaf_size-leaf_size.ensures.well.named c.leaf_size-leaf_size.ensures.well.kept

pub returns-clause-traced : goal.returns-clause-traced
returns-clause-traced g c files =
    traced_bare _ files c.in_ok-set.set _ (returns-clause-bare g c) (c.in_ok-set.ensures.seen files)

pub returns-clause-faithful : goal.returns-clause-faithful
returns-clause-faithful g c = c.in_ok-set.ensures.faithful
