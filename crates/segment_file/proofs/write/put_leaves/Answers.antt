use Rattle.std.proofs.Common.{◌≡◌, ◌+◌, ◌++◌, ℕ, List, [], drop, get_or, ap, sym, subst, arith, ◌∙◌}
use Rattle.segment_file.specs.Pieced.{open_page, laid_pages}
use Rattle.segment_file.proofs.Subtrees.{OnOk-weaker}
use Rattle.segment_file.proofs.Laid.{laid_more, laid_all}
use Rattle.segment_file.proofs.write.put_leaves.Goals as goal

pub loop-leaf-preserved : goal.loop-leaf-preserved
loop-leaf-preserved g c =
    let i = c.loop-leaf.invariant in
    let same : c.as_slice-in-loop-leaf.result.now ≡ c.as_slice.result.now = c.as_slice-in-loop-leaf.ensures ∙ sym c.as_slice.ensures in
    let new_page : open_page c.add.new.self ≡ open_page c.make_room.new.pieces ++ c.as_slice.result.now =
    c.in_ok-add.ensures.added ∙ ap (λ (l : List ℕ). open_page c.make_room.new.pieces ++ l) same in
    let item : c.as_slice.result.now ≡ get_or c.args.leaves.now c.loop-leaf.leaf-index c.as_slice.result.now =
    subst (λ (l : List ℕ). l ≡ get_or c.args.leaves.now c.loop-leaf.leaf-index l) (sym c.as_slice.ensures) c.leaf-item.is in
    record {
      id = c.add.ensures.id ∙ c.make_room.ensures.id ∙ i.id;
      pages = (let p = c.in_ok-make_room.ensures.pages in let q = i.pages in let r = c.add.ensures.pages in omega arith);
      put = λ told payloads h.
          let now = i.put told payloads h in
          let step = c.in_ok-make_room.ensures.put told now.0 (drop (c.loop-leaf.leaf-index + 1) c.args.leaves.now) (rw i.id now.1) in (
            step.0,
            rw (c.add.ensures.pages, c.add.ensures.same, ← i.id) step.1,
            laid_more (payloads ++ laid_pages [] c.args.leaves.now) now.0 step.0 (open_page c.loop-leaf.pieces) (open_page c.add.new.self) c.as_slice.result.now
                c.args.leaves.now c.loop-leaf.leaf-index c.loop-leaf-test.true item now.2
                (step.2 ∙ ap (λ (l : List ℕ). step.0 ++ laid_pages l (drop (c.loop-leaf.leaf-index + 1) c.args.leaves.now)) (sym new_page)),
          );
      others = λ told other ne. c.make_room.ensures.others told other (rw i.id ne) ∙ i.others told other ne;
      reads = c.make_room.ensures.reads ∙ i.reads;
      faults = c.in_ok-make_room.ensures.cause.on_ok ∙ i.faults;
    }

pub returns-clause-put : goal.returns-clause-put
returns-clause-put g c = λ told.
    let i = c.loop-leaf.invariant in
    OnOk-weaker c.end_page.result _ _
    (λ f payloads h.
    let now = i.put told payloads h in
    let paged = f now.0 (rw i.id now.1) in
    let all =
    laid_all (payloads ++ laid_pages [] c.args.leaves.now) now.0 (open_page c.loop-leaf.pieces) c.args.leaves.now c.loop-leaf.leaf-index (omega arith) now.2 in
    rw (← i.id, all) paged)
    (c.end_page.ensures.put told)
