-- Each command ends as its own definition says.
use Rattle.std.proofs.Common.{IsTrue, refl, sym, ap, subst, inl, inr}
use Rattle.command_words.specs.Commands.{Task, task_of}
use Rattle.bkd_top.specs.Commands.{is_session, reads_input, reads_whole}
use Rattle.run_status.specs.Ends.{DoesNothing}
use Rattle.bkd_top.proofs.Commanding.{batch_ends, called, check_ends, count_ends, explain_ends, generate_ends, is_so, left_by, load_ends, ranges_ends, run_ends}
use Rattle.bkd_top.proofs.Commanding.{export_ends, info_ends, merging_ends, session_asked, taken_by}
use Rattle.bkd_top.proofs.Opened.{batch_opens, check_opens, export_opens, info_opens, opened_by}
use Rattle.index_core.proofs.Brought.{commit_equal}
use Rattle.script_run.proofs.Starting.{canonical_still}
use Rattle.script_run.proofs.Shown.{status_since}
use Rattle.bkd_top.proofs.program.run_command.Goals as goal

pub returns-in-Generate : goal.returns-in-Generate
returns-in-Generate g c =
    let is = ap task_of c.in-Generate.is in let e = c.run_generate.ensures in let input = g.S.Source.left c.args.input.now in
    let old = g.F.Pages.files c.args.folder.now in let new = g.F.Pages.files c.run_generate.new.folder in
    let before = g.K.Sink.written c.args.out.now in let after = g.K.Sink.written c.run_generate.new.out in
    record {
      never_usage = λ u. absurd (e.done (subst DoesNothing (sym u) tt));
      ends = λ told state h source. generate_ends (IsTrue g.K.Sink.told) c.args.words
          (record { state = state; files = old; input = input; written = before }) new after c.run_generate.result _ _ _ is (e.ends told state h input);
      input = λ told. taken_by c.args.words _ input input c.run_generate.result is tt;
      unread = λ quiet. refl;
      large = λ w. absurd (e.done (subst DoesNothing (sym w) tt));
      untouched = λ other d. absurd (e.done d);
      canon = e.canon;
      leaves = λ told. left_by c.args.words _
          (called g.S.Source.told g.K.Sink.told input old new before after (g.F.Pages.reads c.args.folder.now) (g.F.Pages.reads c.run_generate.new.folder))
          c.run_generate.result is (e.whole told);
      opened = λ told. opened_by c.args.words _ old new c.run_generate.result is (e.opened told);
      lasting = e.lasting;
      damage = e.damage;
      causes = record { source = λ w. absurd (e.done (subst DoesNothing (sym w) tt)); folder = e.folder_fault; sink = e.sink_fault };
    }

pub returns-in-Run : goal.returns-in-Run
returns-in-Run g c =
    let is = ap task_of c.in-Run.is in let reads = ap (λ (a : Task). reads_input a) is in let e = c.run_script.ensures in
    let input = g.S.Source.left c.args.input.now in let old = g.F.Pages.files c.args.folder.now in let new = g.F.Pages.files c.run_script.new.folder in
    let before = g.K.Sink.written c.args.out.now in let after = g.K.Sink.written c.run_script.new.out in
    record {
      never_usage = e.never_usage;
      ends = λ told state h source. run_ends (IsTrue g.K.Sink.told) c.args.words
          (record { state = state; files = old; input = input; written = before }) new after c.run_script.result _ _ is (e.ends (source reads) told state h);
      input = λ told. taken_by c.args.words _ input (g.S.Source.left c.run_script.new.input) c.run_script.result is (e.input told);
      unread = is_so (λ a. reads_input a) c.args.words _ is refl;
      large = λ w. ap (λ (a : Task). reads_whole a) is;
      untouched = λ other. e.untouched;
      canon = e.canon;
      leaves = λ told. left_by c.args.words _
          (called g.S.Source.told g.K.Sink.told input old new before after (g.F.Pages.reads c.args.folder.now) (g.F.Pages.reads c.run_script.new.folder))
          c.run_script.result is (λ source. e.costs source told);
      opened = λ told. opened_by c.args.words _ old new c.run_script.result is (e.opened told);
      lasting = λ told. e.lasting told;
      damage = e.damage;
      causes = e.causes;
    }

pub returns-in-Load : goal.returns-in-Load
returns-in-Load g c =
    let is = ap task_of c.in-Load.is in let reads = ap (λ (a : Task). reads_input a) is in let e = c.run_load.ensures in
    let input = g.S.Source.left c.args.input.now in let old = g.F.Pages.files c.args.folder.now in let new = g.F.Pages.files c.run_load.new.folder in
    let before = g.K.Sink.written c.args.out.now in let after = g.K.Sink.written c.run_load.new.out in
    record {
      never_usage = e.never_usage;
      ends = λ told state h source. load_ends (IsTrue g.K.Sink.told) c.args.words
          (record { state = state; files = old; input = input; written = before }) new after c.run_load.result _ _ is
          (rw c.as_slice.ensures.value at (e.ends (source reads) told state h));
      input = λ told. taken_by c.args.words _ input (g.S.Source.left c.run_load.new.input) c.run_load.result is (e.input told);
      unread = is_so (λ a. reads_input a) c.args.words _ is refl;
      large = λ w. ap (λ (a : Task). reads_whole a) is;
      untouched = λ other. e.untouched;
      canon = e.canon;
      leaves = λ told. left_by c.args.words _
          (called g.S.Source.told g.K.Sink.told input old new before after (g.F.Pages.reads c.args.folder.now) (g.F.Pages.reads c.run_load.new.folder))
          c.run_load.result is (e.whole told);
      opened = λ told. opened_by c.args.words _ old new c.run_load.result is (e.opened told);
      lasting = λ told. e.lasting told;
      damage = e.damage;
      causes = e.causes;
    }

pub returns-in-Explain : goal.returns-in-Explain
returns-in-Explain g c =
    let is = ap task_of c.in-Explain.is in let reads = ap (λ (a : Task). reads_input a) is in let e = c.run_explain.ensures.looked in
    let input = g.S.Source.left c.args.input.now in let old = g.F.Pages.files c.args.folder.now in let new = g.F.Pages.files c.run_explain.new.folder in
    let before = g.K.Sink.written c.args.out.now in let after = g.K.Sink.written c.run_explain.new.out in
    record {
      never_usage = e.never_usage;
      ends = λ told state h source. explain_ends (IsTrue g.K.Sink.told) c.args.words
          (record { state = state; files = old; input = input; written = before }) new after c.run_explain.result _ is (e.ends (source reads) told);
      input = λ told. taken_by c.args.words _ input (g.S.Source.left c.run_explain.new.input) c.run_explain.result is (e.input told);
      unread = is_so (λ a. reads_input a) c.args.words _ is refl;
      large = λ w. ap (λ (a : Task). reads_whole a) is;
      untouched = λ other. c.run_explain.ensures.untouched;
      canon = λ told state h a. canonical_still _ _ (e.files told);
      leaves = λ told. left_by c.args.words _
          (called g.S.Source.told g.K.Sink.told input old new before after (g.F.Pages.reads c.args.folder.now) (g.F.Pages.reads c.run_explain.new.folder))
          c.run_explain.result is (record { files = e.files told; reads = λ source. e.reads source told });
      opened = λ told. opened_by c.args.words _ old new c.run_explain.result is (record { opens = e.opened told; stays = λ bad. e.files told });
      lasting = λ told. commit_equal old new (e.files told);
      damage = record { never = e.whole; evident = status_since _ _ _ _ e.evident };
      causes = e.causes;
    }

pub returns-in-Session : goal.returns-in-Session
returns-in-Session g c =
    let is = ap task_of c.in-Session.is in let reads = ap (λ (a : Task). reads_input a) is in let e = c.run_session.ensures in
    let input = g.S.Source.left c.args.input.now in let old = g.F.Pages.files c.args.folder.now in let new = g.F.Pages.files c.run_session.new.folder in
    let before = g.K.Sink.written c.args.out.now in let after = g.K.Sink.written c.run_session.new.out in
    record {
      never_usage = λ u. e.never (inl u);
      ends = λ told state h source. session_asked (IsTrue g.K.Sink.told) c.args.words
          (record { state = state; files = old; input = input; written = before }) new after c.run_session.result _ _ is (e.ends (source reads) told state h);
      input = λ told. taken_by c.args.words _ input (g.S.Source.left c.run_session.new.input) c.run_session.result is (e.lines told);
      unread = is_so (λ a. reads_input a) c.args.words _ is refl;
      large = λ w. absurd (e.never (inr w));
      untouched = is_so is_session c.args.words _ is refl;
      canon = e.canon;
      leaves = λ told. left_by c.args.words _
          (called g.S.Source.told g.K.Sink.told input old new before after (g.F.Pages.reads c.args.folder.now) (g.F.Pages.reads c.run_session.new.folder))
          c.run_session.result is (λ source. e.costs source told);
      opened = λ told. opened_by c.args.words _ old new c.run_session.result is (e.opened told);
      lasting = λ told. e.lasting told;
      damage = e.damage;
      causes = e.causes;
    }

pub returns-in-Check : goal.returns-in-Check
returns-in-Check g c =
    let is = ap task_of c.in-Check.is in let e = c.run_check.ensures in let input = g.S.Source.left c.args.input.now in
    let old = g.F.Pages.files c.args.folder.now in let new = g.F.Pages.files c.run_check.new.folder in
    let before = g.K.Sink.written c.args.out.now in let after = g.K.Sink.written c.run_check.new.out in
    record {
      never_usage = λ u. e.done (subst DoesNothing (sym u) tt);
      ends = λ told state h source. check_ends (IsTrue g.K.Sink.told) c.args.words
          (record { state = state; files = old; input = input; written = before }) new after c.run_check.result is
          ((e.checks told).files, (e.checks told).ends);
      input = λ told. taken_by c.args.words _ input input c.run_check.result is tt;
      unread = λ quiet. refl;
      large = λ w. absurd (e.done (subst DoesNothing (sym w) tt));
      untouched = λ other d. absurd (e.done d);
      canon = λ told state h a. canonical_still _ _ (e.checks told).files;
      leaves = λ told. left_by c.args.words _
          (called g.S.Source.told g.K.Sink.told input old new before after (g.F.Pages.reads c.args.folder.now) (g.F.Pages.reads c.run_check.new.folder))
          c.run_check.result is (e.checks told);
      opened = λ told. opened_by c.args.words _ old new c.run_check.result is
          (check_opens (IsTrue g.K.Sink.told) old new before after c.run_check.result (e.checks told).files (e.checks told).ends);
      lasting = λ told. commit_equal old new (e.checks told).files;
      damage = e.damage;
      causes = record { source = λ w. absurd (e.done (subst DoesNothing (sym w) tt)); folder = e.folder_fault; sink = e.sink_fault };
    }

pub returns-in-Export : goal.returns-in-Export
returns-in-Export g c =
    let is = ap task_of c.in-Export.is in let e = c.run_export.ensures in let input = g.S.Source.left c.args.input.now in
    let old = g.F.Pages.files c.args.folder.now in let new = g.F.Pages.files c.run_export.new.folder in
    let before = g.K.Sink.written c.args.out.now in let after = g.K.Sink.written c.run_export.new.out in
    record {
      never_usage = λ u. e.done (subst DoesNothing (sym u) tt);
      ends = λ told state h source. export_ends (IsTrue g.K.Sink.told) c.args.words
          (record { state = state; files = old; input = input; written = before }) new after c.run_export.result _ is
          ((e.exports told).files, (e.exports told).ends);
      input = λ told. taken_by c.args.words _ input input c.run_export.result is tt;
      unread = λ quiet. refl;
      large = λ w. absurd (e.done (subst DoesNothing (sym w) tt));
      untouched = λ other d. absurd (e.done d);
      canon = λ told state h a. canonical_still _ _ (e.exports told).files;
      leaves = λ told. left_by c.args.words _
          (called g.S.Source.told g.K.Sink.told input old new before after (g.F.Pages.reads c.args.folder.now) (g.F.Pages.reads c.run_export.new.folder))
          c.run_export.result is (e.exports told);
      opened = λ told. opened_by c.args.words _ old new c.run_export.result is
          (export_opens (IsTrue g.K.Sink.told) _ old new before after c.run_export.result (e.exports told).files (e.exports told).ends);
      lasting = λ told. commit_equal old new (e.exports told).files;
      damage = record { never = e.whole; evident = status_since _ _ _ _ e.evident };
      causes = record { source = λ w. absurd (e.done (subst DoesNothing (sym w) tt)); folder = e.folder_fault; sink = e.sink_fault };
    }

pub returns-in-Info : goal.returns-in-Info
returns-in-Info g c =
    let is = ap task_of c.in-Info.is in let e = c.run_info.ensures in let input = g.S.Source.left c.args.input.now in
    let old = g.F.Pages.files c.args.folder.now in let new = g.F.Pages.files c.run_info.new.folder in
    let before = g.K.Sink.written c.args.out.now in let after = g.K.Sink.written c.run_info.new.out in
    record {
      never_usage = λ u. e.done (subst DoesNothing (sym u) tt);
      ends = λ told state h source. info_ends (IsTrue g.K.Sink.told) c.args.words
          (record { state = state; files = old; input = input; written = before }) new after c.run_info.result is
          ((e.informs told).files, (e.informs told).ends);
      input = λ told. taken_by c.args.words _ input input c.run_info.result is tt;
      unread = λ quiet. refl;
      large = λ w. absurd (e.done (subst DoesNothing (sym w) tt));
      untouched = λ other d. absurd (e.done d);
      canon = λ told state h a. canonical_still _ _ (e.informs told).files;
      leaves = λ told. left_by c.args.words _
          (called g.S.Source.told g.K.Sink.told input old new before after (g.F.Pages.reads c.args.folder.now) (g.F.Pages.reads c.run_info.new.folder))
          c.run_info.result is (e.informs told);
      opened = λ told. opened_by c.args.words _ old new c.run_info.result is
          (info_opens (IsTrue g.K.Sink.told) old new before after c.run_info.result (e.informs told).files (e.informs told).ends);
      lasting = λ told. commit_equal old new (e.informs told).files;
      damage = e.damage;
      causes = record { source = λ w. absurd (e.done (subst DoesNothing (sym w) tt)); folder = e.folder_fault; sink = e.sink_fault };
    }

pub returns-in-Count : goal.returns-in-Count
returns-in-Count g c =
    let is = ap task_of c.in-Count.is in let reads = ap (λ (a : Task). reads_input a) is in let e = c.run_count.ensures.looked in
    let input = g.S.Source.left c.args.input.now in let old = g.F.Pages.files c.args.folder.now in let new = g.F.Pages.files c.run_count.new.folder in
    let before = g.K.Sink.written c.args.out.now in let after = g.K.Sink.written c.run_count.new.out in
    record {
      never_usage = e.never_usage;
      ends = λ told state h source. count_ends (IsTrue g.K.Sink.told) c.args.words
          (record { state = state; files = old; input = input; written = before }) new after c.run_count.result _ is (e.ends (source reads) told);
      input = λ told. taken_by c.args.words _ input (g.S.Source.left c.run_count.new.input) c.run_count.result is (e.input told);
      unread = is_so (λ a. reads_input a) c.args.words _ is refl;
      large = λ w. ap (λ (a : Task). reads_whole a) is;
      untouched = λ other. c.run_count.ensures.untouched;
      canon = λ told state h a. canonical_still _ _ (e.files told);
      leaves = λ told. left_by c.args.words _
          (called g.S.Source.told g.K.Sink.told input old new before after (g.F.Pages.reads c.args.folder.now) (g.F.Pages.reads c.run_count.new.folder))
          c.run_count.result is (record { files = e.files told; reads = λ source. e.reads source told });
      opened = λ told. opened_by c.args.words _ old new c.run_count.result is (record { opens = e.opened told; stays = λ bad. e.files told });
      lasting = λ told. commit_equal old new (e.files told);
      damage = record { never = e.whole; evident = status_since _ _ _ _ e.evident };
      causes = e.causes;
    }

pub returns-in-Ranges : goal.returns-in-Ranges
returns-in-Ranges g c =
    let is = ap task_of c.in-Ranges.is in let reads = ap (λ (a : Task). reads_input a) is in let e = c.run_ranges.ensures in
    let input = g.S.Source.left c.args.input.now in let old = g.F.Pages.files c.args.folder.now in let new = g.F.Pages.files c.run_ranges.new.folder in
    let before = g.K.Sink.written c.args.out.now in let after = g.K.Sink.written c.run_ranges.new.out in
    record {
      never_usage = e.never_usage;
      ends = λ told state h source. ranges_ends (IsTrue g.K.Sink.told) c.args.words
          (record { state = state; files = old; input = input; written = before }) new after c.run_ranges.result _ _ is
          (e.ends (source reads) told state h, e.ranges (source reads) told state h);
      input = λ told. taken_by c.args.words _ input (g.S.Source.left c.run_ranges.new.input) c.run_ranges.result is (e.input told);
      unread = is_so (λ a. reads_input a) c.args.words _ is refl;
      large = λ w. ap (λ (a : Task). reads_whole a) is;
      untouched = λ other. e.untouched;
      canon = e.canon;
      leaves = λ told. left_by c.args.words _
          (called g.S.Source.told g.K.Sink.told input old new before after (g.F.Pages.reads c.args.folder.now) (g.F.Pages.reads c.run_ranges.new.folder))
          c.run_ranges.result is (λ source. e.costs source told);
      opened = λ told. opened_by c.args.words _ old new c.run_ranges.result is (e.opened told);
      lasting = λ told. e.lasting told;
      damage = e.damage;
      causes = e.causes;
    }

pub returns-in-Batch : goal.returns-in-Batch
returns-in-Batch g c =
    let is = ap task_of c.in-Batch.is in let reads = ap (λ (a : Task). reads_input a) is in let e = c.run_batch.ensures in
    let input = g.S.Source.left c.args.input.now in let old = g.F.Pages.files c.args.folder.now in let new = g.F.Pages.files c.run_batch.new.folder in
    let before = g.K.Sink.written c.args.out.now in let after = g.K.Sink.written c.run_batch.new.out in
    record {
      never_usage = e.never_usage;
      ends = λ told state h source. batch_ends (IsTrue g.K.Sink.told) c.args.words
          (record { state = state; files = old; input = input; written = before }) new after c.run_batch.result _ is (e.ends (source reads) told state h);
      input = λ told. taken_by c.args.words _ input (g.S.Source.left c.run_batch.new.input) c.run_batch.result is (e.input told);
      unread = is_so (λ a. reads_input a) c.args.words _ is refl;
      large = λ w. ap (λ (a : Task). reads_whole a) is;
      untouched = λ other. e.untouched;
      canon = λ told state h a. canonical_still _ _ (e.files told);
      leaves = λ told. left_by c.args.words _
          (called g.S.Source.told g.K.Sink.told input old new before after (g.F.Pages.reads c.args.folder.now) (g.F.Pages.reads c.run_batch.new.folder))
          c.run_batch.result is
          (record { files = e.files told; reads = e.reads told; stored = e.stored told; unwritten = λ none. ap g.K.Sink.written (e.unwritten none) });
      opened = λ told. opened_by c.args.words _ old new c.run_batch.result is (batch_opens old new c.run_batch.result (e.stored told) (λ bad. e.files told));
      lasting = λ told. commit_equal old new (e.files told);
      damage = record { never = e.whole; evident = status_since _ _ _ _ e.evident };
      causes = e.causes;
    }

pub returns-in-MergingBatch : goal.returns-in-MergingBatch
returns-in-MergingBatch g c =
    let is = ap task_of c.in-MergingBatch.is in let reads = ap (λ (a : Task). reads_input a) is in let e = c.run_merging_batch.ensures in
    let input = g.S.Source.left c.args.input.now in let old = g.F.Pages.files c.args.folder.now in let new = g.F.Pages.files c.run_merging_batch.new.folder in
    let before = g.K.Sink.written c.args.out.now in let after = g.K.Sink.written c.run_merging_batch.new.out in
    record {
      never_usage = e.never_usage;
      ends = λ told state h source. merging_ends (IsTrue g.K.Sink.told) c.args.words
          (record { state = state; files = old; input = input; written = before }) new after
          c.run_merging_batch.result _ is (e.ends (source reads) told state h);
      input = λ told. taken_by c.args.words _ input (g.S.Source.left c.run_merging_batch.new.input) c.run_merging_batch.result is (e.input told);
      unread = is_so (λ a. reads_input a) c.args.words _ is refl;
      large = λ w. ap (λ (a : Task). reads_whole a) is;
      untouched = λ other. e.untouched;
      canon = λ told state h a. (e.leaves told).canon a;
      leaves = λ told. left_by c.args.words _
          (called g.S.Source.told g.K.Sink.told input old new before after (g.F.Pages.reads c.args.folder.now) (g.F.Pages.reads c.run_merging_batch.new.folder))
          c.run_merging_batch.result is (record { leaves = e.leaves told; stored = e.stored told });
      opened = λ told. opened_by c.args.words _ old new c.run_merging_batch.result is
          (batch_opens old new c.run_merging_batch.result (e.stored told).answered (e.stays told));
      lasting = λ told. (e.leaves told).lasting;
      damage = record { never = e.whole; evident = status_since _ _ _ _ e.evident };
      causes = e.causes;
    }
