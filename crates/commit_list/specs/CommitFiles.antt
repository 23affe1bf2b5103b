-- The file of a commit, over the bytes of that one file, and what a damage of it shows.
use Rattle.std.specs.Prelude.{◌≡◌, ℕ, List, ◌++◌}
use Rattle.outer_io.specs.declared.file_name.FileName.TheVariants.{Commit}
use Rattle.outer_io.specs.Files.{Files}
use Rattle.page_cache.specs.declared.faults.Damage.{Damage}
use Rattle.page_cache.specs.declared.faults.Damage.TheVariants.{Page, Body, Missing, Size}
use Rattle.page_cache.specs.Bodies.{padded_body, pages_for, IsBodyFile}
use Rattle.page_cache.specs.Evidence.{IsFileDamage, IsFileDamageOf, IsSizeOf, ArePayloadsOf}
use Rattle.commit_list.specs.Commits.{CommitData}
use Rattle.commit_list.specs.Layout.{commit_body, BeginsBody, SpellsCommit}

-- a Commit file of these bytes says this commit: it is one body, and this the commit's, in one of the layouts
pub record IsCommitFile (bytes : List ℕ) (c : CommitData) : Type 0 where
  pub body : List ℕ
  pub file : IsBodyFile Commit bytes body
  pub spells : SpellsCommit body c

-- it says it in the layout that is written
pub record IsWrittenCommit (bytes : List ℕ) (c : CommitData) : Type 0 where
  pub file : IsBodyFile Commit bytes (commit_body c)
  pub spells : SpellsCommit (commit_body c) c

-- the payloads, one after another, are the body of this commit and zeros
pub record SpellsFilled (payloads : List ℕ) (c : CommitData) : Type 0 where
  pub body : List ℕ
  pub same : payloads ≡ padded_body body
  pub spells : SpellsCommit body c

-- the payloads are the body of no commit
abbrev pub HasNoFilled : List ℕ → Type 0
HasNoFilled payloads = (c : CommitData) → SpellsFilled payloads c → ⊥

-- no body of a commit begins with these payloads
abbrev pub IsNoCommitBody : List ℕ → Type 0
IsNoCommitBody payloads = (c : CommitData) (body rest : List ℕ) → SpellsCommit body c
    → payloads ++ rest ≡ padded_body body
    → ⊥

-- the first page of a Commit file asks for the pages of the body that it begins
pub record AsksCommit (payload : List ℕ) (pages : ℕ) : Type 0 where
  pub len : ℕ
  pub begins : BeginsBody payload len
  pub pages_are : pages ≡ pages_for len

-- what a damage of the Commit file carries shows it
abbrev pub IsCommitDamage : Damage → Type 0
IsCommitDamage (Page file number bytes) = IsFileDamage Commit (Page file number bytes)
IsCommitDamage (Missing file) = IsFileDamage Commit (Missing file)
IsCommitDamage (Size file size needed) = IsFileDamage Commit (Size file size needed)
IsCommitDamage (Body file bytes) = (file ≡ Commit) × IsNoCommitBody bytes
IsCommitDamage _ = ⊥

-- and it is true of the files; a Commit that isn't there is no damage
abbrev pub IsCommitDamageOf : Files → Damage → Type 0
IsCommitDamageOf files (Page file number bytes) = IsFileDamageOf files (Page file number bytes)
IsCommitDamageOf files (Size file size needed) = IsSizeOf AsksCommit files file size needed
IsCommitDamageOf files (Body file bytes) = ArePayloadsOf files file bytes
IsCommitDamageOf files _ = ⊥
