-- Which documents a resident copy is one of.
use Rattle.std.specs.Prelude.{ℕ, ◌≡◌, List, length, map}
use Rattle.outer_io.specs.Files.{Files}
use Rattle.outer_io.specs.MemFolder.{folder_files}
use Rattle.documents.specs.Documents.{Document}
use Rattle.commit_list.specs.Commits.{CommitData}
use Rattle.stored_index.specs.Stored.{HoldsIndex}
use Rattle.batch_run.specs.Copies.{IsCommitIn}
use Rattle.batch_run.specs.Held.{HoldsDocs}
use Rattle.batch_run.specs.Queries.{reply_of}
use Rattle.batch_run.specs.declared.queries.Query.{Query}
use Rattle.batch_run.specs.declared.queries.Reply.{Reply}
use Rattle.batch_run.specs.declared.resident.Resident.{Resident}

-- the resident copy is one of these documents
abbrev pub IsCopyOf : {D : ℕ} → List Document → Resident D → Type 0
IsCopyOf {D} docs r = HoldsDocs D (folder_files r.files) r.segments docs

-- the files hold the index of a commit, where they say that commit, and the copy is one of its documents
pub record IsCopyIn {D : ℕ} (files : Files) (c : CommitData) (r : Resident D) : Type 0 where
  pub stored : IsCommitIn files c → (docs : List Document) × HoldsIndex files c docs
  pub held : (docs : List Document) → HoldsIndex files c docs → IsCopyOf docs r

-- a reply to each query, in their order: what is asked of the documents that the copy holds
pub record AreReplies {D : ℕ} (r : Resident D) (queries : List (Query D)) (replies : List Reply) : Type 0 where
  pub each : length replies ≡ length queries
  pub said : (docs : List Document) → IsCopyOf docs r → replies ≡ map (reply_of D docs) queries
