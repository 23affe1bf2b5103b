use Rattle.std.proofs.Common.{◌≡◌, ◌++◌, ℕ, List, length, take, ap, sym, ◌∙◌, rules, arith, take_all}
use Rattle.std.specs.Prelude.{if◌then◌else◌}
use Rattle.outer_io.specs.declared.file_name.FileName.TheVariants.{Segment}
use Rattle.page_cache.specs.Bodies.{pages_for}
use Rattle.segment_file.specs.Pieced.{piece_id, piece_pages, so_far, open_page}
use Rattle.segment_file.proofs.Paged.{all_whole, behind, more_pages}
use Rattle.segment_file.proofs.pieces.Pieces.put.Goals as goal

pub returns-clause-put : goal.returns-clause-put
unfolding piece_id piece_pages so_far open_page
returns-clause-put c = λ held payloads h.
    let a = c.in_ok-put_pages.ensures.ok in
    let self = c.args.self.now in
    let now : List ℕ = c.put_pages.new.out.items in
    let whole : List ℕ = take self.whole self.out.items in
    let pages : c.pages_for.result ≡ pages_for (length c.args.body.now) = c.pages_for.ensures in
    let len : c.len-self.result ≡ length now = search rules in
    let all : take c.len-self.result now ≡ whole ++ a.bytes =
    take_all c.len-self.result now (omega (arith, len)) ∙ a.grew
    ∙ ap (λ (l : List ℕ). l ++ a.bytes) (sym (all_whole self.whole self.out.items c.requires.ended)) in
    let grown = more_pages (Segment self.id) self.pages payloads (if self.started then held ++ whole else whole) c.args.body.now a.bytes h a.pages in
    rw (pages, behind self.started held whole (take c.len-self.result now) a.bytes all) grown
