-- Each command does what it asks.
use Rattle.index_model.proofs.session.ListSession.apply.Goals as goal
use Rattle.index_model.specs.Step.{step_on}

pub returns-in-DeleteBox : goal.returns-in-DeleteBox
returns-in-DeleteBox g c = rw c.in-DeleteBox.is c.delete_in.ensures

pub returns-in-Flush : goal.returns-in-Flush
unfolding step_on
returns-in-Flush g c = rw c.in-Flush.is (c.done_ok.ensures _)

pub returns-in-Merge : goal.returns-in-Merge
unfolding step_on
returns-in-Merge g c = rw c.in-Merge.is (c.done_ok-in-Merge.ensures _)

pub returns-in-MergeBegin : goal.returns-in-MergeBegin
returns-in-MergeBegin g c = rw c.in-MergeBegin.is (c.merge_begin.ensures _)

pub returns-in-Commit : goal.returns-in-Commit
unfolding step_on
returns-in-Commit g c = rw c.in-Commit.is (c.done_ok-in-Commit.ensures _)
