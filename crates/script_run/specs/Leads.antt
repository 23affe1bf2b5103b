-- What lines do on their way besides their answers: to the files, to the segments and the buffer of a session, and how
-- much they read.
use Rattle.std.specs.Prelude.{ℕ, ◌+◌, ◌≡◌, ◌≤◌, ◌⊎◌, false, List, [], length, Contains, Some, Result, OnOk, IfOk}
use Rattle.outer_io.specs.Files.{Files}
use Rattle.page_cache.specs.declared.faults.PageFault.{PageFault}
use Rattle.segment_file.specs.Heads.{Head}
use Rattle.index_model.specs.State.{Index, State, given_of}
use Rattle.stored_index.specs.Opening.{segments_pages}
use Rattle.segment_view.specs.LiveSegments.{LiveSegment}
use Rattle.segment_set.specs.Sets.{IsSettled, SetData}
use Rattle.index_core.specs.Effects.{BringsCanonical}
use Rattle.index_core.specs.Light.{KeepsLevels, LooksAt, is_light}
use Rattle.index_core.specs.Closed.{IsIdle}
use Rattle.index_core.specs.Sessions.{IsUnchanged, SessionData}
use Rattle.index_core.specs.Whole.{HasNewCanonical, IsNewSegment}
use Rattle.explain_queries.specs.Explained.{Scope, IsScope}
use Rattle.script_run.specs.Costs.{AllAsk, AreLight, AsksOnly, RunReadsFew, TouchesLine, TouchesLines, begins_no_merge}
use Rattle.script_run.specs.Costs.{is_query}
use Rattle.script_run.specs.Languages.{answer}
use Rattle.script_run.specs.declared.language.Language.{Language}
use Rattle.script_run.specs.declared.origin.Origin.{Origin}
use Rattle.script_run.specs.declared.origin.Origin.TheVariants as origin

-- a session between two lines: with the files of its folder, and the folder's reads
pub record LineMoment : Type 0 where
  pub files : Files
  pub session : SessionData
  pub reads : ℕ

-- ---- one line

-- what waits in the buffer and what a line adds, which leaves this state, have room in it
abbrev pub HasRoom : SetData → Index → State → Type 0
HasRoom s i after = length s.buffer + given_of after ≤ i.points_given + 16384

-- the same segments are looked at, and no more waits than was given since
pub record StaysFew (heads : List Head) (i : Index) (after : State) (s t : SetData) : Type 0 where
  pub looks : LooksAt heads t
  pub waits : length t.buffer + i.points_given ≤ length s.buffer + given_of after

-- From the one spot to the other a line is done, refused or left. Each segment that it writes is canonical. Where no
-- merge is begun: a commit that is done lists few segments of each level; a query, or a line that is refused, changes
-- no file; and one that needs no segment to be written reads the leaves that it touches.
pub record Passes {T E : Type 0} (lang : Language) (D line : ℕ) (i : Index) (bytes : List ℕ) (old new : LineMoment)
    (result : Result T E) : Type 0 where
  pub canon : BringsCanonical D old.files new.files old.session.set.parts new.session.set.parts
  pub levels : i.begun ≡ false → OnOk result (KeepsLevels old.files new.files)
  pub still : i.begun ≡ false → IsUnchanged old.session → AsksOnly lang is_query line (Some i) bytes
      → new.files ≡ old.files
  pub idle : i.begun ≡ false → IsIdle old.session → AsksOnly lang is_query line (Some i) bytes
      → OnOk result (IsIdle new.session)
  pub reads : (heads : List Head) → LooksAt heads old.session.set → i.begun ≡ false
      → AsksOnly lang is_light line (Some i) bytes
      → HasRoom old.session.set i (answer lang line (Some i) bytes).state → (n : ℕ)
      → TouchesLine lang heads (Some i) bytes n → new.reads ≤ old.reads + n
  pub looks : (heads : List Head) → LooksAt heads old.session.set → i.begun ≡ false
      → AsksOnly lang is_light line (Some i) bytes
      → HasRoom old.session.set i (answer lang line (Some i) bytes).state
      → OnOk result (StaysFew heads i (answer lang line (Some i) bytes).state old.session.set new.session.set)

-- ---- lines, and the commit at their end

-- each of the segments is listed by the commit of the files
abbrev pub AllListed : Files → SetData → Type 0
AllListed files s = (p : LiveSegment) → Contains s.parts p → IsNewSegment files p.head.id → ⊥

-- what lines left is committed, and no file is left that the commit doesn't list, or that fails
pub record Closes {T E : Type 0} (D : ℕ) (i : Index) (old new : LineMoment) (result : Result T E) : Type 0 where
  pub canon : (first : Files) (s : SetData) → AllListed first s
      → BringsCanonical D first old.files s.parts old.session.set.parts → OnOk result (HasNewCanonical first new.files)
  pub levels : i.begun ≡ false → OnOk result (KeepsLevels old.files new.files)
  pub still : IsIdle old.session → new.files ≡ old.files
  pub reads : IsUnchanged old.session ⊎ IsSettled old.session.set → new.reads ≡ old.reads

-- lines are done in a session and what they leave is committed, or it stops
pub record Leads {T E : Type 0} (lang : Language) (line : ℕ) (i : Index) (lines : List (List ℕ)) (old new : LineMoment)
    (result : Result T E) : Type 0 where
  pub canon : AllListed old.files old.session.set → OnOk result (HasNewCanonical old.files new.files)
  pub levels : i.begun ≡ false → AllAsk lang begins_no_merge line (Some i) lines
      → OnOk result (KeepsLevels old.files new.files)
  pub still : i.begun ≡ false → IsIdle old.session → AllAsk lang is_query line (Some i) lines → new.files ≡ old.files
  pub reads : (heads : List Head) → LooksAt heads old.session.set → old.session.set.buffer ≡ [] → i.begun ≡ false
      → (IsIdle old.session × AllAsk lang is_query line (Some i) lines) ⊎ AreLight lang heads line (Some i) lines
      → (n : ℕ) → TouchesLines lang heads line (Some i) lines n → new.reads ≤ old.reads + n

-- ---- with the opening

-- opening the segments that the index comes from reads so many pages
abbrev pub origin_pages : Files → Origin → List Head → ℕ
origin_pages files (origin.New dims leaf_size) heads = 0
origin_pages files (origin.Stored commit) heads = segments_pages files commit.listed heads

-- nothing waits, and each segment is listed
pub record IsFresh (files : Files) (s : SessionData) : Type 0 where
  pub empty : s.set.buffer ≡ []
  pub listed : AllListed files s.set

-- a session is opened on the index that comes from there, or that fails
pub record Opens (o : Origin) (i : Index) (stored : State) (files : Files) (before now : ℕ)
    (result : Result SessionData PageFault) : Type 0 where
  pub rested : i.begun ≡ false
  pub fresh : IfOk result (IsFresh files)
  pub idle : stored ≡ Some i → IfOk result IsIdle
  pub looks : (s : Scope) → IsScope files s → IfOk result (λ t. LooksAt s.heads t.set)
  pub reads : (s : Scope) → IsScope files s → now ≤ before + origin_pages files o s.heads

-- lines are done on the index that comes from there
pub record LeadsFrom {T E : Type 0} (lang : Language) (o : Origin) (i : Index) (stored : State) (line : ℕ)
    (lines : List (List ℕ)) (old new : Files) (before now : ℕ) (result : Result T E) : Type 0 where
  pub canon : OnOk result (HasNewCanonical old new)
  pub levels : AllAsk lang begins_no_merge line (Some i) lines → OnOk result (KeepsLevels old new)
  pub still : stored ≡ Some i → AllAsk lang is_query line (Some i) lines → new ≡ old
  pub reads : (s : Scope) → IsScope old s → ((stored ≡ Some i) × AllAsk lang is_query line (Some i) lines)
      ⊎ AreLight lang s.heads line (Some i) lines
      → (n : ℕ) → TouchesLines lang s.heads line (Some i) lines n → now ≤ before + origin_pages old o s.heads + n

-- the lines of a script are done on a folder that stores this state
pub record LeadsAll {T E : Type 0} (lang : Language) (state : State) (lines : List (List ℕ)) (old new : Files)
    (before now : ℕ) (result : Result T E) : Type 0 where
  pub canon : OnOk result (HasNewCanonical old new)
  pub levels : AllAsk lang begins_no_merge 1 state lines → OnOk result (KeepsLevels old new)
  pub still : AllAsk lang is_query 1 state lines → new ≡ old
  pub reads : RunReadsFew lang old lines before now
