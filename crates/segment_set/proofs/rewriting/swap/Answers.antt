use Rattle.std.proofs.Common.{◌≡◌, IsTrue, refl, sym, ap, subst, ◌∙◌, rules}
use Rattle.std.proofs.lemmas.Result.{err_from_is_err_and}
use Rattle.outer_io.specs.Files.{bytes_of}
use Rattle.outer_io.specs.declared.file_name.FileName.TheVariants.{Segment}
use Rattle.live_bits.specs.LiveSet.{LiveSet}
use Rattle.documents.specs.Entries.{is_among}
use Rattle.segment_file.specs.Heads.{Head}
use Rattle.segment_file.specs.Segments.{IsSegment}
use Rattle.segment_view.specs.LiveSegments.{LiveSegment, live_segment, ids_of, parts_but, IsPlaced}
use Rattle.file_names.specs.Names.{NameList}
use Rattle.segment_set.specs.Kept.{KeepsNamed}
use Rattle.segment_set.specs.Merges.{part_at}
use Rattle.segment_set.proofs.Carried.{keeps_none, keeps_written}
use Rattle.segment_set.proofs.Replaced.{but_placed}
use Rattle.segment_set.proofs.Grown.{fresh_apart}
use Rattle.segment_set.proofs.Weller.{free_id}
use Rattle.segment_set.proofs.Causes.{wrote_cause, memory_cause}
use Rattle.segment_set.proofs.rewriting.swap.Goals as goal

same_part : {h k : Head} {s t : LiveSet} → h ≡ k → s ≡ t → live_segment h s ≡ live_segment k t
same_part e f = λ i. record { head = e i; live = f i }

pub returns-in_err-id-clause-kept : goal.returns-in_err-id-clause-kept
returns-in_err-id-clause-kept g c =
    let files = g.F.Pages.files c.args.folder.now in
    subst (λ (names : NameList). KeepsNamed (IsTrue g.F.Pages.told) c.args.names.now names files files) (sym c.in_err-id.ensures.refused)
    (keeps_none (IsTrue g.F.Pages.told) c.args.names.now files)

pub returns-in_err-id-clause-cause : goal.returns-in_err-id-clause-cause
returns-in_err-id-clause-cause g c =
    let p = err_from_is_err_and c.from_residual-in_err-id.result c.from_residual-in_err-id.ensures.1 in
    rw (p.1, p.2) (memory_cause (g.F.Pages.faults c.args.folder.now) (g.F.Pages.faults c.args.folder.now) refl)

pub returns-in_err-head-clause-kept : goal.returns-in_err-head-clause-kept
returns-in_err-head-clause-kept g c =
    keeps_written _ _ _ _ _ (Segment c.in_ok-id.id) (c.in_ok-id.ensures.next, c.in_ok-id.ensures.named) c.in_ok-id.ensures.named c.in_ok-id.ensures.fresh
    (λ e. cc) c.in_err-head.ensures.others

pub returns-in_err-head-clause-cause : goal.returns-in_err-head-clause-cause
returns-in_err-head-clause-cause g c =
    let p = err_from_is_err_and c.from_residual-in_err-head.result c.from_residual-in_err-head.ensures.1 in
    rw (p.1, p.2) (wrote_cause (g.F.Pages.faults c.args.folder.now) (g.F.Pages.faults c.write.new.folder) c.in_err-head.field-0.0 c.in_err-head.ensures.cause)

pub insert-requires : goal.insert-requires
insert-requires g c =
    let id_is : c.in_ok-head.head.id ≡ c.in_ok-id.id = ap (λ (h : Head). h.id) c.in_ok-head.ensures.head in (
      search rules,
      (
        search rules,
        ap (is_among (ids_of c.args.segments.now)) id_is
            ∙ fresh_apart c.args.names.now c.args.segments.now c.in_ok-id.id c.requires.named c.in_ok-id.ensures.fresh,
      ),
    )

pub returns-in_err-insert-clause-kept : goal.returns-in_err-insert-clause-kept
returns-in_err-insert-clause-kept g c =
    keeps_written _ _ _ _ _ (Segment c.in_ok-id.id) (c.in_ok-id.ensures.next, c.in_ok-id.ensures.named) c.in_ok-id.ensures.named c.in_ok-id.ensures.fresh
    (λ e. cc) c.in_ok-head.ensures.others

pub returns-clause-put : goal.returns-clause-put
returns-clause-put g c = record {
  id = c.in_ok-id.id;
  fresh = c.in_ok-id.ensures.fresh;
  named = c.in_ok-id.ensures.joins;
  next = (c.in_ok-id.ensures.next, c.in_ok-id.ensures.named);
  placed = subst (IsPlaced (part_at c.in_ok-id.id c.args.new.now) (parts_but c.args.ids.now c.args.segments.now)) (sym c.remove.ensures.rest)
      (but_placed c.args.ids.now (part_at c.in_ok-id.id c.args.new.now) c.args.segments.now c.insert.new.self
      (subst (λ (p : LiveSegment). IsPlaced p c.args.segments.now c.insert.new.self)
      (same_part c.in_ok-head.ensures.head (c.in_ok-live.ensures ∙ c.live.ensures))
      c.in_ok-insert.ensures.placed)
      (free_id g.row.D (IsTrue g.F.Pages.told) c.args.names.now c.args.names.now (g.F.Pages.files c.args.folder.now) c.args.ids.now c.args.segments.now
      c.args.segments.now c.args.ids.now c.in_ok-id.id c.in_ok-id.ensures.fresh
      c.requires.among));
  written = λ told items has.
      subst (λ (h : Head). IsSegment g.row.D (bytes_of (g.F.Pages.files c.write.new.folder (Segment c.in_ok-id.id))) h items) c.in_ok-head.ensures.head
      (c.in_ok-head.ensures.written told items has);
}

pub returns-clause-kept : goal.returns-clause-kept
returns-clause-kept g c =
    keeps_written _ _ _ _ _ (Segment c.in_ok-id.id) (c.in_ok-id.ensures.next, c.in_ok-id.ensures.named) c.in_ok-id.ensures.named c.in_ok-id.ensures.fresh
    (λ e. cc) c.in_ok-head.ensures.others
