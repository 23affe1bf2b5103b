use Rattle.std.proofs.Common.{◌≡◌, ◌≤◌, ◌<◌, ◌^◌, IsTrue, List, length, lit<, ap, sym, subst, ◌∙◌}
use Rattle.std.specs.List.{All}
use Rattle.point_codec.specs.Points.{Item}
use Rattle.point_codec.specs.Seen.{items_of}
use Rattle.leaf_codec.specs.LeafOrder.{NoneTwice}
use Rattle.document_checks.specs.Crowded.{AreFew}
use Rattle.segment_set.specs.Merges.{IsBufferWritten}
use Rattle.segment_set.proofs.Fresh.{items_length}
use Rattle.segment_set.proofs.Held.{few_entries}
use Rattle.segment_set.proofs.writing.write_buffer.Given as given
use Rattle.segment_set.proofs.writing.write_buffer.Goals as goal
use Rattle.segment_set.proofs.writing.write_buffer.Goals.{After-as_mut_slice}
use Rattle.point_codec.proofs.Sizes.{entry_fits}

-- the copy has what waits
same : (g : given.Over) (c : After-as_mut_slice g) → items_of c.as_mut_slice.result.now ≡ c.args.buffer.now.items
same g c = ap items_of (c.as_mut_slice.ensures.value ∙ c.in_ok-copy.ensures.items) ∙ c.as_slice.ensures ∙ c.settle.ensures.items

pub write_entries-requires-after_bounds : goal.write_entries-requires-after_bounds
write_entries-requires-after_bounds g c κs = λ _.
    let long : length c.as_mut_slice.result.now ≡ length c.args.buffer.now.items = sym (items_length c.as_mut_slice.result.now) ∙ ap length (same g c) in (
      lit< tt,
      (
        entry_fits g.row.D c.requires.dims,
        (
          lit< tt,
          (
            c.requires.dims,
            (
              c.requires.named,
              (
                subst (λ n. 1 ≤ n) (sym long) c.requires.some,
                (
                  few_entries (length c.as_mut_slice.result.now) (subst (λ n. n ≤ 16384) (sym long) c.requires.few),
                  (
                    subst (All (λ (x : Item). x.doc < 2 ^ 24)) (sym (same g c)) c.requires.numbers,
                    (subst NoneTwice (sym (same g c)) c.requires.once, subst AreFew (sym (same g c)) c.requires.sixteen),
                  ),
                ),
              ),
            ),
          ),
        ),
      ),
    )

pub returns-clause-written : goal.returns-clause-written
returns-clause-written g c =
    subst (λ (es : List Item). IsBufferWritten g.row.D (IsTrue g.F.Pages.told) c.args.plan.now.leaf_size c.args.names.now c.write_entries.new.names
    (g.F.Pages.files c.write_entries.new.folder) es c.args.segments.now c.write_entries.new.segments)
    (ap items_of (c.as_mut_slice.ensures.value ∙ c.in_ok-copy.ensures.items) ∙ c.as_slice.ensures ∙ c.settle.ensures.items)
    c.in_ok-write_entries.ensures.written
