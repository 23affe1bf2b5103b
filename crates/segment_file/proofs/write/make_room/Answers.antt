use Rattle.std.proofs.Common.{◌<◌, ◌+◌, ◌++◌, ℕ, List, length, ap, sym, arith, ◌∙◌}
use Rattle.page_cache.specs.Bodies.{padded_body}
use Rattle.segment_file.specs.Pieced.{open_page, laid_pages}
use Rattle.segment_file.proofs.Laid.{lay_next}
use Rattle.segment_file.proofs.write.make_room.Goals as goal

pub returns-clause-put : goal.returns-clause-put
returns-clause-put g c = λ told payloads leaves h.
    let page : List ℕ = open_page c.args.pieces.now in
    let over : 4064 < length page + length c.args.leaf.now = (let len = c.open_len.ensures.len in omega arith) in (
      payloads ++ padded_body page,
      c.in_ok-end_page.ensures.put told payloads h,
      lay_next payloads page c.args.leaf.now leaves over
          ∙ ap (λ (l : List ℕ). payloads ++ padded_body page ++ laid_pages (l ++ c.args.leaf.now) leaves) (sym c.in_ok-end_page.ensures.ended),
    )
