use Rattle.std.proofs.Common.{◌≡◌, ℕ, None, inl, inr}
use Rattle.outer_io.specs.declared.file_name.FileName.{FileName}
use Rattle.outer_io.specs.declared.file_name.FileName.TheVariants.{Commit}
use Rattle.outer_io.specs.Files.{Files, bytes_of}
use Rattle.commit_list.specs.Commits.{CommitData}
use Rattle.commit_list.specs.CommitFiles.{IsCommitFile}
use Rattle.commit_list.proofs.CommitPages.{file_there}
use Rattle.page_cache.specs.declared.faults.Damage.TheVariants.{Unequal}
use Rattle.index_opening.specs.Evidence.{InCommit, InHead, InList, InLive, IsOfEntries, IsOfListed, IsTrueOf}
use Rattle.index_opening.proofs.laws.unequal_needs_a_commit.Goals as goal

says_some : (files : Files) (c : CommitData) → files Commit ≡ None → IsCommitFile (bytes_of (files Commit)) c → ⊥
says_some files c none says = let there = (file_there (files Commit) c says).0 in cc

no_pair : (before files : Files) → files Commit ≡ None → (file : FileName) (said found : ℕ)
    → IsTrueOf (IsOfListed before) (IsOfEntries files) files (Unequal file said found) → ⊥
no_pair before files none file said found (inl (InHead c says s there is pair)) = says_some files c none says
no_pair before files none file said found (inl (InList c says s there pair)) = says_some files c none says
no_pair before files none file said found (inl (InLive c says s there d held is a b)) = says_some files c none says
no_pair before files none file said found (inl (InCommit c says parts held is a b)) = says_some files c none says
no_pair before files none file said found (inr (is, e)) = says_some files e.commit none e.says

pub returns : goal.returns
returns c = no_pair
