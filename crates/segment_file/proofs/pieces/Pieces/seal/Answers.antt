use Rattle.std.proofs.Common.{◌≡◌, ◌≤◌, ◌<◌, ◌+◌, ◌++◌, ℕ, List, length, take, drop, vec_len, sym, ◌∙◌, rules, arith, take_all, subst, length-drop}
use Rattle.std.specs.Prelude.{if◌then◌else◌}
use Rattle.outer_io.specs.declared.file_name.FileName.TheVariants.{Segment}
use Rattle.page_cache.specs.Bodies.{padded_body, AppendsPage}
use Rattle.segment_file.specs.Pieced.{piece_id, piece_pages, so_far, open_page, IsPaged}
use Rattle.segment_file.proofs.Paged.{behind, more_pages, one_page, fills_one}
use Rattle.segment_file.proofs.pieces.Pieces.seal.Goals as goal

pub returns-clause-put : goal.returns-clause-put
unfolding piece_id piece_pages so_far open_page
returns-clause-put c = λ held payloads h.
    let self = c.args.self.now in
    let now : List ℕ = c.seal_from.new.out.items in
    let whole : List ℕ = take self.whole self.out.items in
    let part : List ℕ = drop self.whole self.out.items in
    let len : vec_len self.out ≡ length self.out.items = search rules in
    let long = length-drop self.whole self.out.items in
    let some : 0 < length part = omega (arith, len, long, c.if-open-eq0.false) in
    let fits : length part ≤ 4064 = omega (arith, len, long, self.short) in
    let page : AppendsPage (Segment self.id) self.pages part whole now = rw c.reserve.ensures.items at c.seal_from.ensures.page in
    let a = one_page (Segment self.id) self.pages part whole now some fits page in
    let end : vec_len c.seal_from.new.out ≡ length now = search rules in
    let all : take (self.whole + 4096) now ≡ whole ++ a.bytes = take_all (self.whole + 4096) now (omega (arith, end, c.seal_from.ensures.len)) ∙ a.grew in
    let grown = more_pages (Segment self.id) self.pages payloads (if self.started then held ++ whole else whole) part a.bytes h a.pages in
    subst (λ (bytes : List ℕ). IsPaged (Segment self.id) (self.pages + 1) (payloads ++ padded_body part) bytes)
    (sym (behind self.started held whole (take (self.whole + 4096) now) a.bytes all))
    (subst (λ (k : ℕ). IsPaged (Segment self.id) (self.pages + k) (payloads ++ padded_body part) ((if self.started then held ++ whole else whole) ++ a.bytes))
    (sym (fills_one part some fits)) grown)
