-- Each command is handed to the call that does it.
use Rattle.std.proofs.Common.{refl, sym, ap, subst, inl, inr, ⊎_elim}
use Rattle.std.proofs.lemmas.List.{append-nil}
use Rattle.cell_relate.specs.Boxes.{CountedBox, crosses}
use Rattle.point_codec.specs.Points.{in_box}
use Rattle.documents.specs.Documents.{hits}
use Rattle.script_lang.specs.Replies.{hits_text}
use Rattle.script_lang.specs.Seen.{view_name}
use Rattle.index_model.specs.State.{viewed_docs}
use Rattle.index_model.specs.Step.{query_outcome, step_on}
use Rattle.segment_set.proofs.Sizes.{point_fits}
use Rattle.index_core.proofs.Answering.{applies_as, applies_refused, applies_still, applies_told, begins_itself, no_cause}
use Rattle.index_core.proofs.Leaving.{leaves_any}
use Rattle.index_core.proofs.Sizes.{box_fits, session_fits}
use Rattle.segment_set.specs.Sets.{viewed_parts}
use Rattle.index_core.specs.Costs.{ReadsTouched}
use Rattle.index_core.specs.Sessions.{SessionData}
use Rattle.index_core.proofs.Keeping.{err_each, still_same, still_told}
use Rattle.index_core.proofs.Arranging.{arranged_before, arranged_cache, arranged_same, done_any, on_err_any, spares_heavy, spares_quiet, still_left}
use Rattle.index_core.proofs.Lightly.{light_same, light_still, light_told}
use Rattle.index_core.proofs.Lasting.{begun_lasts, lasts_itself, lasts_still, views_last}
use Rattle.index_core.proofs.session.Session.step.Goals as goal

pub returns-in-Delete-clause-applies : goal.returns-in-Delete-clause-applies
returns-in-Delete-clause-applies g c = rw c.in-Delete.is (applies_told _ _ _ _ _ _ (c.delete.ensures.applies _ _))

pub returns-in-DeleteBox-clause-applies : goal.returns-in-DeleteBox-clause-applies
returns-in-DeleteBox-clause-applies g c = rw c.in-DeleteBox.is c.delete_box.ensures.applies

pub returns-in-InBox-clause-applies : goal.returns-in-InBox-clause-applies
unfolding step_on
returns-in-InBox-clause-applies g c = rw c.in-InBox.is (applies_as _ _ _ _ _ _ _ _
    (λ i seen. ap (λ (s : CountedBox). query_outcome i (viewed_docs (view_name c.in-InBox.view) i) (λ docs. hits_text (hits (in_box s.bounds) docs)))
    (sym c.new.ensures)) c.find.ensures.applies)

pub returns-in-Snapshot-clause-applies : goal.returns-in-Snapshot-clause-applies
returns-in-Snapshot-clause-applies g c = rw c.in-Snapshot.is (applies_told _ _ _ _ _ _ (c.snapshot.ensures.applies _ _))

pub returns-in-Release-clause-applies : goal.returns-in-Release-clause-applies
returns-in-Release-clause-applies g c = rw c.in-Release.is (applies_told _ _ _ _ _ _ (c.release.ensures.applies _ _))

pub delete_box-requires : goal.delete_box-requires
delete_box-requires g c = (session_fits g.row.D c.in-DeleteBox.lo.high, point_fits g.row.D c.in-DeleteBox.lo.high)

pub find-requires-room-S-Shape : goal.find-requires-room-S-Shape
find-requires-room-S-Shape g c κs within = box_fits g.row.D c.in-InBox.lo.high

pub find-requires : goal.find-requires
find-requires g c = session_fits g.row.D c.in-InBox.lo.high

pub returns-in-Blank-clause-applies : goal.returns-in-Blank-clause-applies
unfolding step_on
returns-in-Blank-clause-applies g c =
    rw c.in-Blank.is (applies_still _ _ _ _ _ _ _ _ _ (λ i seen. ((i, refl, seen), sym (append-nil c.args.out.now.items))) (begins_itself _) (no_cause _ _) tt)

pub returns-in-Create-clause-applies : goal.returns-in-Create-clause-applies
unfolding step_on
returns-in-Create-clause-applies g c = rw c.in-Create.is (applies_refused _ _ _ _ _ _ _ _ (λ i seen. (refl, seen, refl)))

pub returns-in-InBox-clause-leaves : goal.returns-in-InBox-clause-leaves
returns-in-InBox-clause-leaves g c = rw c.in-InBox.is (leaves_any c.find.result)

pub returns-in-Add-clause-applies : goal.returns-in-Add-clause-applies
returns-in-Add-clause-applies g c = rw c.in-Add.is c.add.ensures.applies

pub returns-in-Polygon-clause-applies : goal.returns-in-Polygon-clause-applies
returns-in-Polygon-clause-applies g c = rw c.in-Polygon.is c.find_in.ensures.applies

pub returns-in-Nearest-clause-applies : goal.returns-in-Nearest-clause-applies
returns-in-Nearest-clause-applies g c = rw c.in-Nearest.is c.nearest.ensures.applies

pub returns-in-Flush-clause-applies : goal.returns-in-Flush-clause-applies
returns-in-Flush-clause-applies g c = rw c.in-Flush.is c.flush.ensures.applies

pub returns-in-Merge-clause-applies : goal.returns-in-Merge-clause-applies
returns-in-Merge-clause-applies g c = rw c.in-Merge.is c.merge.ensures.applies

pub returns-in-MergeEnd-clause-applies : goal.returns-in-MergeEnd-clause-applies
returns-in-MergeEnd-clause-applies g c = rw c.in-MergeEnd.is c.merge_end.ensures.applies

pub returns-in-Commit-clause-applies : goal.returns-in-Commit-clause-applies
returns-in-Commit-clause-applies g c = rw c.in-Commit.is c.commit_line.ensures.applies

pub returns-in-Reopen-clause-applies : goal.returns-in-Reopen-clause-applies
returns-in-Reopen-clause-applies g c = rw c.in-Reopen.is c.reopen.ensures.applies

pub returns-in-MergeBegin-clause-applies : goal.returns-in-MergeBegin-clause-applies
returns-in-MergeBegin-clause-applies g c = rw (c.in-MergeBegin.is, ← c.as_slice.ensures) c.merge_begin.ensures.applies

pub returns-in-Add-clause-damage : goal.returns-in-Add-clause-damage
returns-in-Add-clause-damage g c = rw c.in-Add.is c.add.ensures.damage

pub returns-in-Delete-clause-damage : goal.returns-in-Delete-clause-damage
returns-in-Delete-clause-damage g c = rw c.in-Delete.is c.delete.ensures.damage

pub returns-in-DeleteBox-clause-damage : goal.returns-in-DeleteBox-clause-damage
returns-in-DeleteBox-clause-damage g c = rw c.in-DeleteBox.is c.delete_box.ensures.damage

pub returns-in-Polygon-clause-damage : goal.returns-in-Polygon-clause-damage
returns-in-Polygon-clause-damage g c = rw c.in-Polygon.is c.find_in.ensures.damage

pub returns-in-Nearest-clause-damage : goal.returns-in-Nearest-clause-damage
returns-in-Nearest-clause-damage g c = rw c.in-Nearest.is c.nearest.ensures.damage

pub returns-in-Flush-clause-damage : goal.returns-in-Flush-clause-damage
returns-in-Flush-clause-damage g c = rw c.in-Flush.is c.flush.ensures.damage

pub returns-in-Merge-clause-damage : goal.returns-in-Merge-clause-damage
returns-in-Merge-clause-damage g c = rw c.in-Merge.is c.merge.ensures.damage

pub returns-in-MergeEnd-clause-damage : goal.returns-in-MergeEnd-clause-damage
returns-in-MergeEnd-clause-damage g c = rw c.in-MergeEnd.is c.merge_end.ensures.damage

pub returns-in-Snapshot-clause-damage : goal.returns-in-Snapshot-clause-damage
returns-in-Snapshot-clause-damage g c = rw c.in-Snapshot.is c.snapshot.ensures.damage

pub returns-in-Release-clause-damage : goal.returns-in-Release-clause-damage
returns-in-Release-clause-damage g c = rw c.in-Release.is c.release.ensures.damage

pub returns-in-Commit-clause-damage : goal.returns-in-Commit-clause-damage
returns-in-Commit-clause-damage g c = rw c.in-Commit.is c.commit_line.ensures.damage

pub returns-in-Reopen-clause-damage : goal.returns-in-Reopen-clause-damage
returns-in-Reopen-clause-damage g c = rw c.in-Reopen.is c.reopen.ensures.damage

pub returns-in-MergeBegin-clause-damage : goal.returns-in-MergeBegin-clause-damage
returns-in-MergeBegin-clause-damage g c = rw c.in-MergeBegin.is c.merge_begin.ensures.damage

pub returns-in-InBox-clause-damage : goal.returns-in-InBox-clause-damage
returns-in-InBox-clause-damage g c = rw c.in-InBox.is c.find.ensures.damage

pub returns-in-Blank-clause-damage : goal.returns-in-Blank-clause-damage
returns-in-Blank-clause-damage g c = rw c.in-Blank.is tt

pub returns-in-Create-clause-damage : goal.returns-in-Create-clause-damage
returns-in-Create-clause-damage g c = rw c.in-Create.is tt

pub returns-in-Commit-clause-leaves : goal.returns-in-Commit-clause-leaves
returns-in-Commit-clause-leaves g c = rw c.in-Commit.is (done_any _ c.commit_line.result c.commit_line.ensures.arranged)

pub returns-in-Reopen-clause-leaves : goal.returns-in-Reopen-clause-leaves
returns-in-Reopen-clause-leaves g c = rw c.in-Reopen.is (leaves_any c.reopen.result)

pub returns-in-Add-clause-leaves : goal.returns-in-Add-clause-leaves
returns-in-Add-clause-leaves g c = rw c.in-Add.is c.add.ensures.leaves

pub returns-in-Delete-clause-leaves : goal.returns-in-Delete-clause-leaves
returns-in-Delete-clause-leaves g c = rw c.in-Delete.is c.delete.ensures.leaves

pub returns-in-DeleteBox-clause-leaves : goal.returns-in-DeleteBox-clause-leaves
returns-in-DeleteBox-clause-leaves g c = rw c.in-DeleteBox.is (leaves_any c.delete_box.result)

pub returns-in-Polygon-clause-leaves : goal.returns-in-Polygon-clause-leaves
returns-in-Polygon-clause-leaves g c = rw c.in-Polygon.is (leaves_any c.find_in.result)

pub returns-in-Nearest-clause-leaves : goal.returns-in-Nearest-clause-leaves
returns-in-Nearest-clause-leaves g c = rw c.in-Nearest.is (leaves_any c.nearest.result)

pub returns-in-Snapshot-clause-leaves : goal.returns-in-Snapshot-clause-leaves
returns-in-Snapshot-clause-leaves g c = rw c.in-Snapshot.is c.snapshot.ensures.leaves

pub returns-in-Release-clause-leaves : goal.returns-in-Release-clause-leaves
returns-in-Release-clause-leaves g c = rw c.in-Release.is c.release.ensures.leaves

pub returns-in-Add-clause-spares : goal.returns-in-Add-clause-spares
returns-in-Add-clause-spares g c = rw c.in-Add.is (record {
  reads = c.add.ensures.reads;
  unread = c.add.ensures.unread;
  still = c.add.ensures.still;
  light = λ light. c.add.ensures.light;
  barred = c.add.ensures.barred;
  left = c.add.ensures.left;
  lasts = λ told faithful guards. c.add.ensures.lasts told faithful;
})

pub returns-in-DeleteBox-clause-spares : goal.returns-in-DeleteBox-clause-spares
returns-in-DeleteBox-clause-spares g c = rw c.in-DeleteBox.is (spares_heavy _ _ _ _ _ _ _ _ _ c.delete_box.result refl (λ bad. bad) c.delete_box.ensures.reads
    c.delete_box.ensures.unread tt
    (err_each (arranged_cache _ _ _ _ _) c.delete_box.result c.delete_box.ensures.left) (λ told faithful guards. c.delete_box.ensures.lasts told faithful))

pub returns-in-Polygon-clause-spares : goal.returns-in-Polygon-clause-spares
returns-in-Polygon-clause-spares g c = rw c.in-Polygon.is (record {
  reads = c.find_in.ensures.reads;
  unread = c.find_in.ensures.unread;
  still = c.find_in.ensures.still;
  light = λ light room. light_still _ _ _ _ _ _ c.find_in.ensures.still;
  barred = λ bad. absurd bad;
  left = still_left _ _ _ _ _ _ c.find_in.result c.find_in.ensures.still;
  lasts = λ told faithful guards. lasts_still _ _ _ _ _ _ c.find_in.ensures.still told;
})

pub returns-in-Nearest-clause-spares : goal.returns-in-Nearest-clause-spares
returns-in-Nearest-clause-spares g c = rw c.in-Nearest.is (record {
  reads = c.nearest.ensures.reads;
  unread = c.nearest.ensures.unread;
  still = c.nearest.ensures.still;
  light = λ light room. light_still _ _ _ _ _ _ c.nearest.ensures.still;
  barred = λ bad. absurd bad;
  left = still_left _ _ _ _ _ _ c.nearest.result c.nearest.ensures.still;
  lasts = λ told faithful guards. lasts_still _ _ _ _ _ _ c.nearest.ensures.still told;
})

pub returns-in-MergeEnd-clause-spares : goal.returns-in-MergeEnd-clause-spares
returns-in-MergeEnd-clause-spares g c = rw c.in-MergeEnd.is (record {
  reads = c.merge_end.ensures.reads;
  unread = c.merge_end.ensures.unread;
  still = c.merge_end.ensures.still;
  light = λ light room. absurd cc;
  barred = c.merge_end.ensures.barred;
  left = err_each (arranged_before _ _ _ _ _) c.merge_end.result c.merge_end.ensures.left;
  lasts = λ told faithful guards. c.merge_end.ensures.lasts told faithful;
})

pub returns-in-Commit-clause-spares : goal.returns-in-Commit-clause-spares
returns-in-Commit-clause-spares g c = rw c.in-Commit.is (spares_heavy _ _ _ _ _ _ _ _ _ c.commit_line.result refl (λ bad. bad) c.commit_line.ensures.reads
    c.commit_line.ensures.unread tt
    (on_err_any _ c.commit_line.result c.commit_line.ensures.arranged) (λ told faithful guards. c.commit_line.ensures.lasts told faithful))

pub returns-in-InBox-clause-spares : goal.returns-in-InBox-clause-spares
returns-in-InBox-clause-spares g c = rw c.in-InBox.is (record {
  reads = subst
      (λ (s : CountedBox). ReadsTouched g.row.D (in_box s.bounds) (crosses s.bounds) (viewed_parts (view_name c.in-InBox.view) c.args.self.now.set)
      (g.F.Pages.reads c.args.folder.now) (g.F.Pages.reads c.find.new.folder)) c.new.ensures c.find.ensures.reads;
  unread = c.find.ensures.unread;
  still = c.find.ensures.still;
  light = λ light room. light_still _ _ _ _ _ _ c.find.ensures.still;
  barred = λ bad. absurd bad;
  left = still_left _ _ _ _ _ _ c.find.result c.find.ensures.still;
  lasts = λ told faithful guards. lasts_still _ _ _ _ _ _ c.find.ensures.still told;
})

pub returns-in-Blank-clause-spares : goal.returns-in-Blank-clause-spares
returns-in-Blank-clause-spares g c = rw c.in-Blank.is
    (spares_quiet _ _ _ _ _ _ _ _ refl (λ bad. bad) (still_same _ _ _) (λ light room. light_same _ _ _ _) tt (λ told faithful guards. lasts_itself _ _ _ _))

pub returns-in-Create-clause-spares : goal.returns-in-Create-clause-spares
returns-in-Create-clause-spares g c = rw c.in-Create.is
    (spares_quiet _ _ _ _ _ _ _ _ refl (λ bad. bad) (still_same _ _ _) (λ light room. light_same _ _ _ _) tt (λ told faithful guards. lasts_itself _ _ _ _))

pub returns-in-Delete-clause-spares : goal.returns-in-Delete-clause-spares
returns-in-Delete-clause-spares g c = rw c.in-Delete.is (spares_quiet _ _ _ _ _ _ _ c.delete.result refl (λ bad. bad) tt
    (λ light room. light_told _ _ _ _ _ (c.delete.ensures.light _))
    (err_each (⊎_elim (λ same. inl (arranged_same _ _ _ _ _ (ap (λ (u : SessionData). u.set) same))) (λ gone. inr gone)) c.delete.result
    c.delete.ensures.left)
    (λ told faithful guards. c.delete.ensures.lasts _))

pub returns-in-Snapshot-clause-spares : goal.returns-in-Snapshot-clause-spares
returns-in-Snapshot-clause-spares g c = rw c.in-Snapshot.is (spares_quiet _ _ _ _ _ _ _ c.snapshot.result refl (λ bad. bad)
    (still_told _ _ _ _ _ (c.snapshot.ensures.still _)) (λ light room. light_told _ _ _ _ _ (c.snapshot.ensures.light _))
    (err_each (λ same. arranged_same _ _ _ _ _ (ap (λ (u : SessionData). u.set) same)) c.snapshot.result c.snapshot.ensures.left)
    (λ told faithful guards. views_last _ _ _ _ c.snapshot.result _ c.snapshot.ensures.leaves (c.snapshot.ensures.still _) c.snapshot.ensures.left))

pub returns-in-Release-clause-spares : goal.returns-in-Release-clause-spares
returns-in-Release-clause-spares g c = rw c.in-Release.is (spares_quiet _ _ _ _ _ _ _ c.release.result refl (λ bad. bad)
    (still_told _ _ _ _ _ (c.release.ensures.still _)) (λ light room. light_told _ _ _ _ _ (c.release.ensures.light _))
    (err_each (λ same. arranged_same _ _ _ _ _ (ap (λ (u : SessionData). u.set) same)) c.release.result c.release.ensures.left)
    (λ told faithful guards. views_last _ _ _ _ c.release.result _ c.release.ensures.leaves (c.release.ensures.still _) c.release.ensures.left))

pub returns-in-Flush-clause-spares : goal.returns-in-Flush-clause-spares
returns-in-Flush-clause-spares g c = rw c.in-Flush.is (spares_heavy _ _ _ _ _ _ _ _ _ c.flush.result refl (λ bad. bad) c.flush.ensures.reads
    c.flush.ensures.unread tt
    c.flush.ensures.left (λ told faithful guards. c.flush.ensures.lasts told faithful))

pub returns-in-Merge-clause-spares : goal.returns-in-Merge-clause-spares
returns-in-Merge-clause-spares g c = rw c.in-Merge.is (spares_heavy _ _ _ _ _ _ _ _ _ c.merge.result refl (λ bad. bad) tt
    c.merge.ensures.unread tt
    c.merge.ensures.left (λ told faithful guards. c.merge.ensures.lasts told faithful))

pub returns-in-MergeBegin-clause-spares : goal.returns-in-MergeBegin-clause-spares
returns-in-MergeBegin-clause-spares g c = rw c.in-MergeBegin.is (spares_heavy _ _ _ _ _ _ _ _ _ c.merge_begin.result refl (λ bad. bad) tt
    c.merge_begin.ensures.unread c.merge_begin.ensures.still
    (err_each (arranged_cache _ _ _ _ _) c.merge_begin.result c.merge_begin.ensures.left)
    (λ told faithful guards. begun_lasts _ _ _ _ _ _ _ c.merge_begin.result c.merge_begin.ensures.leaves c.merge_begin.ensures.still c.merge_begin.ensures.left
    c.merge_begin.ensures.files told))

pub returns-in-Reopen-clause-spares : goal.returns-in-Reopen-clause-spares
returns-in-Reopen-clause-spares g c = rw c.in-Reopen.is (spares_heavy _ _ _ _ _ _ _ _ _ c.reopen.result refl (λ bad. bad) tt
    c.reopen.ensures.unread tt
    c.reopen.ensures.left (λ told faithful guards. c.reopen.ensures.lasts told faithful (guards refl)))
