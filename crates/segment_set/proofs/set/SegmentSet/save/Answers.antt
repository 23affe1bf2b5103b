use Rattle.std.proofs.Common.{◌≡◌, ◌≤◌, ◌∙◌, ℕ, List, Option, Some, sym, subst}
use Rattle.std.specs.Prelude.{All, IsTrue}
use Rattle.std.specs.List.{AllZip}
use Rattle.std.proofs.lemmas.Result.{on_err_weaker}
use Rattle.outer_io.specs.declared.file_name.FileName.{FileName}
use Rattle.outer_io.specs.declared.file_name.FileName.TheVariants.{Commit, Live}
use Rattle.outer_io.specs.Files.{Files, bytes_of}
use Rattle.commit_list.specs.declared.listed.Listed.{Listed}
use Rattle.commit_list.specs.Commits.{CommitData}
use Rattle.commit_list.specs.CommitFiles.{IsCommitFile}
use Rattle.segment_file.specs.LiveFiles.{IsLiveFile}
use Rattle.merge_policy.specs.Choice.{free_count}
use Rattle.stored_index.specs.Kept.{ListsFile}
use Rattle.stored_index.specs.Stored.{IsStored}
use Rattle.index_model.specs.State.{at_rest}
use Rattle.segment_view.specs.LiveSegments.{LiveSegment}
use Rattle.segment_set.specs.Sets.{BegunMerge, pins_of, sizes_of}
use Rattle.segment_set.specs.Kept.{Follows, IsCommitOf}
use Rattle.segment_set.specs.Saved.{AreCovering, IsLastOrFresh, IsLastOrNext, IsSaved, KeepsLine, StaysButSaved}
use Rattle.segment_set.proofs.Carried.{keeps_then, stays_then}
use Rattle.segment_set.proofs.Counts.{counts_same, counts_then}
use Rattle.segment_set.proofs.Faithful.{part_files}
use Rattle.segment_set.proofs.Lossless.{lossless_same}
use Rattle.segment_set.proofs.Covered.{IsListedAs, all_listed, covering_after}
use Rattle.segment_set.proofs.Saving.{all_fresh, all_kept, all_next, all_written, canon_saved, cause_after, if_ok_both}
use Rattle.segment_set.proofs.Saving.{no_damage, ok_always, sees_saved, stays_saved, well_saved}
use Rattle.segment_set.proofs.SavedCommit.{saved_is_stored}
use Rattle.segment_set.proofs.Refused.{at_error, never_ok, never_value, same_cause, same_damage}
use Rattle.segment_set.proofs.Settled.{left_settled}
use Rattle.segment_set.specs.Settles.{Flushes, SetMoment, moment}
use Rattle.segment_set.proofs.Shows.{shows_none, shows_on}
use Rattle.segment_set.proofs.Chosen.{if_ok}
use Rattle.segment_set.proofs.set.SegmentSet.save.Goals as goal

pub returns-clause-seen : goal.returns-clause-seen
returns-clause-seen g c = λ told i seen.
    let m = c.list_segments.ensures in
    sees_saved g.row.D (IsTrue g.F.Pages.told) (g.F.Pages.files c.flush.new.folder) (g.F.Pages.files c.list_segments.new.folder) c.flush.new.self
    c.list_segments.new.self i told m.well m.kept m.rest (c.in_ok-flush.ensures.moves.seen told i seen)

pub returns-clause-emptied : goal.returns-clause-emptied
returns-clause-emptied g c = ok_always c.list_segments.result _ (c.list_segments.ensures.rest.buffer ∙ c.in_ok-flush.ensures.emptied)

pub returns-clause-levels : goal.returns-clause-levels
returns-clause-levels g c =
    let s = c.flush.new.self in
    let t = c.list_segments.new.self in
    let rest = c.list_segments.ensures.rest in
    ok_always c.list_segments.result ((level : ℕ) → free_count level (sizes_of t.parts) (pins_of t.begun t.parts) ≤ 10) (λ level.
    subst (λ (ps : List LiveSegment). free_count level (sizes_of ps) (pins_of t.begun ps) ≤ 10) (sym rest.parts)
    (subst (λ (b : Option BegunMerge). free_count level (sizes_of s.parts) (pins_of b s.parts) ≤ 10) (sym rest.begun) (c.in_ok-flush.ensures.levels level)))

pub returns-clause-stays : goal.returns-clause-stays
returns-clause-stays g c =
    stays_then c.args.self.now c.flush.new.self c.list_segments.new.self c.in_ok-flush.ensures.moves.stays
    (stays_saved c.flush.new.self c.list_segments.new.self c.list_segments.ensures.rest)

pub returns-clause-begun : goal.returns-clause-begun
returns-clause-begun g c = c.list_segments.ensures.rest.begun ∙ c.in_ok-flush.ensures.moves.begun

pub returns-clause-cause : goal.returns-clause-cause
returns-clause-cause g c =
    cause_after (g.F.Pages.faults c.args.folder.now) (g.F.Pages.faults c.flush.new.folder) (g.F.Pages.faults c.list_segments.new.folder) c.list_segments.result
    c.in_ok-flush.ensures.cause.on_ok c.list_segments.ensures.cause

pub returns-in_err-flush-clause-rested : goal.returns-in_err-flush-clause-rested
returns-in_err-flush-clause-rested g c = λ settled. c.in_err-flush.ensures.rested settled

pub returns-clause-rested : goal.returns-clause-rested
returns-clause-rested g c = λ settled. c.list_segments.ensures.reads ∙ c.in_ok-flush.ensures.rested settled

pub returns-in_err-flush-clause-seen : goal.returns-in_err-flush-clause-seen
returns-in_err-flush-clause-seen g c = c.in_err-flush.ensures.moves.seen

pub returns-in_err-flush-clause-emptied : goal.returns-in_err-flush-clause-emptied
returns-in_err-flush-clause-emptied g c = never_ok _ c.from_residual.result c.from_residual.ensures.1 _

pub returns-in_err-flush-clause-levels : goal.returns-in_err-flush-clause-levels
returns-in_err-flush-clause-levels g c = never_ok _ c.from_residual.result c.from_residual.ensures.1 _

pub returns-in_err-flush-clause-stays : goal.returns-in_err-flush-clause-stays
returns-in_err-flush-clause-stays g c = c.in_err-flush.ensures.moves.stays

pub returns-in_err-flush-clause-begun : goal.returns-in_err-flush-clause-begun
returns-in_err-flush-clause-begun g c = c.in_err-flush.ensures.moves.begun

pub returns-in_err-flush-clause-cause : goal.returns-in_err-flush-clause-cause
returns-in_err-flush-clause-cause g c =
    same_cause (g.F.Pages.faults c.args.folder.now) (g.F.Pages.faults c.flush.new.folder) c.in_err-flush.field-0.0 c.from_residual.result
    c.from_residual.ensures.1 c.in_err-flush.ensures.cause

pub returns-in_err-flush-clause-rewrites : goal.returns-in_err-flush-clause-rewrites
returns-in_err-flush-clause-rewrites g c = record {
  kept = c.in_err-flush.ensures.moves.kept;
  follows = c.in_err-flush.ensures.moves.follows;
  canon = c.in_err-flush.ensures.moves.canon;
  faithful = λ told keeps. c.in_err-flush.ensures.faithful told keeps;
  loses = λ told well keeps. c.in_err-flush.ensures.moves.loses told well keeps.heads;
  counts = λ told well keeps. c.in_err-flush.ensures.moves.counts told well keeps.heads;
}

pub returns-in_err-flush-clause-damaged : goal.returns-in_err-flush-clause-damaged
returns-in_err-flush-clause-damaged g c =
    shows_on g.row.D (IsTrue g.F.Pages.told) (g.F.Pages.files c.args.folder.now) (g.F.Pages.files c.flush.new.folder) c.args.self.now _
    _ _ c.in_err-flush.ensures.damaged
    (λ P. same_damage P c.in_err-flush.field-0.0 c.from_residual.result c.from_residual.ensures.1)

pub returns-in_err-flush-clause-saves : goal.returns-in_err-flush-clause-saves
returns-in_err-flush-clause-saves g c = record {
  saved = never_value _ c.from_residual.result c.from_residual.ensures.1 _;
  commit = never_value _ c.from_residual.result c.from_residual.ensures.1 _;
  fresh = never_value _ c.from_residual.result c.from_residual.ensures.1 _;
  kept = never_value _ c.from_residual.result c.from_residual.ensures.1 _;
  live = λ told covering. never_value _ c.from_residual.result c.from_residual.ensures.1 _;
  stored = λ told covering i seen. never_value _ c.from_residual.result c.from_residual.ensures.1 _;
}

pub returns-clause-saves : goal.returns-clause-saves
returns-clause-saves g c =
    let last = c.args.last.now in
    let s = c.flush.new.self in
    let t = c.list_segments.new.self in
    let m = c.list_segments.ensures in
    let old = g.F.Pages.files c.args.folder.now in
    let mid = g.F.Pages.files c.flush.new.folder in
    let now = g.F.Pages.files c.list_segments.new.folder in
    let more = c.in_ok-flush.ensures.moves.kept.more in
    let covers : IsTrue g.F.Pages.told → AreCovering old last c.args.self.now → AreCovering mid last s =
    λ told covering. covering_after (IsTrue g.F.Pages.told) old mid last c.args.self.now s told c.in_ok-flush.ensures.moves.kept
    c.in_ok-flush.ensures.moves.follows covering in
    record {
      saved = m.saved;
      commit = m.commit;
      fresh = if_ok c.list_segments.result (λ (k : CommitData). AllZip (IsSaved (IsTrue g.F.Pages.told) last s.names t.names now) k.listed s.parts)
          (λ (k : CommitData). All (IsLastOrFresh c.args.self.now.names last) k.listed)
          (λ k all. all_fresh (IsTrue g.F.Pages.told) last s.names t.names now k.listed s.parts all c.args.self.now.names more) m.listed;
      kept = if_ok c.list_segments.result (λ (k : CommitData). AllZip (IsSaved (IsTrue g.F.Pages.told) last s.names t.names now) k.listed s.parts)
          (λ (k : CommitData). All (KeepsLine c.args.self.now.names last) k.listed)
          (λ k all. all_kept (IsTrue g.F.Pages.told) last s.names t.names now k.listed s.parts all c.args.self.now.names more) m.listed;
      live = λ told covering.
          if_ok c.list_segments.result (λ (k : CommitData). AllZip (IsSaved (IsTrue g.F.Pages.told) last s.names t.names now) k.listed s.parts)
          (λ (k : CommitData).
          AllZip (λ (l : Listed) (p : LiveSegment). IsLiveFile l.segment l.generation (bytes_of (now (Live l.segment l.generation))) p.live)
          k.listed t.parts)
          (λ k all. all_written now k.listed s.parts t.parts m.rest.parts
          (all_listed (IsTrue g.F.Pages.told) last s t.names mid now k.listed told m.kept (covers told covering) all)) m.listed;
      stored = λ told covering i seen.
          let there = sees_saved g.row.D (IsTrue g.F.Pages.told) mid now s t i told m.well m.kept m.rest (c.in_ok-flush.ensures.moves.seen told i seen) in
          if_ok_both c.list_segments.result (λ (k : CommitData). IsCommitOf g.row.D t k)
          (λ (k : CommitData). AllZip (IsSaved (IsTrue g.F.Pages.told) last s.names t.names now) k.listed s.parts)
          (λ (k : CommitData). (files : Files) → IsCommitFile (bytes_of (files Commit)) k → ((n : FileName) → ListsFile k n → files n ≡ now n)
          → IsStored files (Some (at_rest i)))
          (λ k commit all. saved_is_stored g.row.D now t k i
          (well_saved g.row.D (IsTrue g.F.Pages.told) mid now s t m.well m.kept m.rest) (m.rest.buffer ∙ c.in_ok-flush.ensures.emptied) commit
          (subst (AllZip (IsListedAs now) k.listed) (sym m.rest.parts)
          (all_listed (IsTrue g.F.Pages.told) last s t.names mid now k.listed told m.kept (covers told covering) all)) there) m.commit m.listed;
    }

pub returns-clause-rewrites : goal.returns-clause-rewrites
returns-clause-rewrites g c = record {
  kept = keeps_then (IsTrue g.F.Pages.told) c.args.self.now.names c.flush.new.self.names c.list_segments.new.self.names (g.F.Pages.files c.args.folder.now)
      (g.F.Pages.files c.flush.new.folder) (g.F.Pages.files c.list_segments.new.folder) c.in_ok-flush.ensures.moves.kept c.list_segments.ensures.kept;
  follows = subst (Follows c.args.self.now.names c.args.self.now.parts) (sym c.list_segments.ensures.rest.parts) c.in_ok-flush.ensures.moves.follows;
  canon = λ told. canon_saved g.row.D (IsTrue g.F.Pages.told) c.args.self.now.names (g.F.Pages.files c.flush.new.folder)
      (g.F.Pages.files c.list_segments.new.folder) c.flush.new.self c.list_segments.new.self told c.list_segments.ensures.well c.list_segments.ensures.kept
      c.in_ok-flush.ensures.moves.kept.more c.list_segments.ensures.rest (c.in_ok-flush.ensures.moves.canon told);
  faithful = λ told keeps. c.list_segments.ensures.faithful told (c.in_ok-flush.ensures.faithful told keeps);
  loses = λ told well keeps. lossless_same g.row.D (g.F.Pages.files c.args.folder.now) c.args.self.now c.flush.new.self c.list_segments.new.self
      c.list_segments.ensures.rest.parts c.list_segments.ensures.rest.buffer (c.in_ok-flush.ensures.moves.loses told well keeps.heads);
  counts = λ told well keeps. let rest = c.list_segments.ensures.rest in
      counts_then _ _ (g.F.Pages.files c.flush.new.folder) _ c.args.self.now c.flush.new.self c.list_segments.new.self
      (c.in_ok-flush.ensures.moves.counts told well keeps.heads)
      (counts_same _ (g.F.Pages.files c.flush.new.folder) _ c.flush.new.self c.list_segments.new.self rest.parts rest.buffer rest.points_given
      (part_files g.row.D c.flush.new.self c.list_segments.ensures.well (c.list_segments.ensures.kept.files told)));
}

pub returns-clause-damaged : goal.returns-clause-damaged
returns-clause-damaged g c =
    shows_none g.row.D (IsTrue g.F.Pages.told) (g.F.Pages.files c.args.folder.now) (g.F.Pages.files c.list_segments.new.folder) c.args.self.now _
    _ (λ P. no_damage c.list_segments.result P c.list_segments.ensures.whole)

pub returns-in_err-flush-clause-flushed : goal.returns-in_err-flush-clause-flushed
returns-in_err-flush-clause-flushed g c = never_value _ c.from_residual.result c.from_residual.ensures.1 _

pub returns-in_err-flush-clause-left : goal.returns-in_err-flush-clause-left
returns-in_err-flush-clause-left g c =
    at_error _ c.from_residual.result c.from_residual.ensures.1
    _ (left_settled g.row.D (IsTrue g.F.Pages.told) (moment (g.F.Pages.files c.args.folder.now) c.args.self.now) c.flush.new.self c.in_err-flush.ensures.left)

pub returns-clause-flushed : goal.returns-clause-flushed
returns-clause-flushed g c =
    let last = c.args.last.now in
    let s = c.flush.new.self in
    let t = c.list_segments.new.self in
    let files = g.F.Pages.files c.list_segments.new.folder in
    if_ok c.list_segments.result (λ (k : CommitData). AllZip (IsSaved (IsTrue g.F.Pages.told) last s.names t.names files) k.listed s.parts)
    (λ (k : CommitData). (u : SetMoment) × Flushes g.row.D (IsTrue g.F.Pages.told) (moment (g.F.Pages.files c.args.folder.now) c.args.self.now) u
    × StaysButSaved u.set t × All (IsLastOrNext u.set.names last) k.listed)
    (λ k all. (
      moment (g.F.Pages.files c.flush.new.folder) s,
      c.in_ok-flush.ensures.flushed,
      c.list_segments.ensures.rest,
      all_next (IsTrue g.F.Pages.told) last s.names t.names files k.listed s.parts all,
    )) c.list_segments.ensures.listed

pub returns-clause-left : goal.returns-clause-left
returns-clause-left g c =
    on_err_weaker c.list_segments.result (λ same. ((moment (g.F.Pages.files c.flush.new.folder) c.flush.new.self), c.in_ok-flush.ensures.flushed, same))
    c.list_segments.ensures.refused
