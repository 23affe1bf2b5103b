use Rattle.std.proofs.Common.{◌++◌, ℕ, List, ap, sym, ◌∙◌, rules}
use Rattle.std.proofs.lemmas.Result.{err_from_is_err_and}
use Rattle.point_codec.specs.Seen.{items_of}
use Rattle.page_cache.proofs.Unread.{reads_failed}
use Rattle.documents.specs.Entries.{numbers_found}
use Rattle.documents.proofs.HitNumbers.{found_append}
use Rattle.segment_view.specs.LiveSegments.{live_in_parts}
use Rattle.segment_view.proofs.Hits.{ordered_found}
use Rattle.segment_view.proofs.Reading.{cached_calm}
use Rattle.segment_view.proofs.visiting.visit.Goals as goal

pub returns-clause-found : goal.returns-clause-found
returns-clause-found g c = λ told agrees es read.
    let has = g.S.Shape.has c.args.shape.now in
    let segments = live_in_parts es c.args.segments.now in
    let buffer = items_of c.args.buffer.now in
    let first = c.in_ok-cost.ensures.found told agrees es read ∙ ap (λ (ns : List ℕ). ns ++ numbers_found has segments) c.new-hits.ensures.items in
    let hits = c.in_ok-visit_buffer.ensures.found
    ∙ ap (λ (ns : List ℕ). ns ++ numbers_found (g.S.Shape.has c.visit_segments.new.shape) buffer) first
    ∙ ap (λ k. numbers_found has segments ++ numbers_found k buffer) c.in_ok-cost.ensures.has
    ∙ sym (found_append has segments buffer) in
    ordered_found has (segments ++ buffer) c.visit_buffer.new.hits.items c.in_ok-docs.docs.items hits c.in_ok-docs.ensures.rises
    c.in_ok-docs.ensures.each

pub returns-in_err-cost-clause-reads : goal.returns-in_err-cost-clause-reads
returns-in_err-cost-clause-reads g c = record {
  most = c.visit_segments.ensures.reads;
  none = λ all.
      let p = err_from_is_err_and c.from_residual.result c.from_residual.ensures.1 in
      reads_failed _ _ _ _ _ _ p.1 (c.visit_segments.ensures.kept all).reads;
}

pub returns-in_err-visit_buffer-clause-reads : goal.returns-in_err-visit_buffer-clause-reads
returns-in_err-visit_buffer-clause-reads g c = record {
  most = c.visit_segments.ensures.reads;
  none = λ all.
      let p = err_from_is_err_and c.from_residual-in_err-visit_buffer.result c.from_residual-in_err-visit_buffer.ensures.1 in
      reads_failed _ _ _ _ _ _ p.1 (c.visit_segments.ensures.kept all).reads;
}

pub returns-in_err-docs-clause-reads : goal.returns-in_err-docs-clause-reads
returns-in_err-docs-clause-reads g c = record {
  most = c.visit_segments.ensures.reads;
  none = λ all.
      let p = err_from_is_err_and c.from_residual-in_err-docs.result c.from_residual-in_err-docs.ensures.1 in
      reads_failed _ _ _ _ _ _ p.1 (c.visit_segments.ensures.kept all).reads;
}

pub returns-clause-reads : goal.returns-clause-reads
returns-clause-reads g c = record {
  most = c.visit_segments.ensures.reads;
  none = λ all. let both = c.in_ok-cost.ensures.kept all in record { reads = both.reads; kept = both.kept };
}

pub returns-in_err-cost-clause-reading : goal.returns-in_err-cost-clause-reading
returns-in_err-cost-clause-reading g c = cached_calm _ _ _ _ _ _ _ _ _ c.visit_segments.ensures.calm c.visit_segments.ensures.marks (search rules)

pub returns-in_err-visit_buffer-clause-reading : goal.returns-in_err-visit_buffer-clause-reading
returns-in_err-visit_buffer-clause-reading g c = cached_calm _ _ _ _ _ _ _ _ _ c.visit_segments.ensures.calm c.visit_segments.ensures.marks (search rules)

pub returns-in_err-docs-clause-reading : goal.returns-in_err-docs-clause-reading
returns-in_err-docs-clause-reading g c = cached_calm _ _ _ _ _ _ _ _ _ c.visit_segments.ensures.calm c.visit_segments.ensures.marks (search rules)

pub returns-clause-reading : goal.returns-clause-reading
returns-clause-reading g c = cached_calm _ _ _ _ _ _ _ _ _ c.visit_segments.ensures.calm c.visit_segments.ensures.marks (search rules)
