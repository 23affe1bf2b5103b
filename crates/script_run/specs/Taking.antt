-- Which documents lines take out.
use Rattle.std.specs.Prelude.{ℕ, List, Contains, Some, Ok, Err}
use Rattle.outer_io.specs.declared.file_name.FileName.TheVariants.{Commit}
use Rattle.outer_io.specs.Files.{Files, bytes_of}
use Rattle.commit_list.specs.Commits.{CommitData}
use Rattle.commit_list.specs.CommitFiles.{IsCommitFile}
use Rattle.index_core.specs.Lasting.{TakesOut}
use Rattle.script_run.specs.Languages.{LineRequest, line_request}
use Rattle.script_run.specs.declared.language.Language.{Language}

-- what was read takes the number out
abbrev pub TakesOutBy : LineRequest → ℕ → Type 0
TakesOutBy (Ok request) number = TakesOut request number
TakesOutBy (Err fault) number = ⊥

-- one of the lines does, as an index of so many dimensions reads them
pub record IsTakenOut (lang : Language) (dims : ℕ) (lines : List (List ℕ)) (number : ℕ) : Type 0 where
  pub line : List ℕ
  pub there : Contains lines line
  pub takes : TakesOutBy (line_request lang (Some dims) line) number

-- as that of the folder's commit reads them
pub record IsTakenOutOf (lang : Language) (files : Files) (lines : List (List ℕ)) (number : ℕ) : Type 0 where
  pub commit : CommitData
  pub says : IsCommitFile (bytes_of (files Commit)) commit
  pub taken : IsTakenOut lang commit.dims lines number
