use Rattle.std.proofs.Common.{◌≡◌, ◌++◌, ℕ, List, [], length, ap, arith, ◌∙◌}
use Rattle.outer_io.specs.Files.{bytes_of}
use Rattle.outer_io.specs.declared.file_name.FileName.TheVariants.{Segment}
use Rattle.page_cache.specs.Bodies.{padded_body}
use Rattle.segment_file.specs.FieldsSeen.{fields_said}
use Rattle.segment_file.specs.Pieced.{piece_id, piece_pages, so_far, IsPaged}
use Rattle.segment_file.proofs.FieldBytes.{fields_length}
use Rattle.segment_file.proofs.Paged.{no_pages}
use Rattle.segment_file.proofs.write.put_segment.Goals as goal

pub push-requires-clause-short : goal.push-requires-clause-short
push-requires-clause-short g c =
    let long : length c.as_slice.result.now ≡ 28 =
    ap (λ (l : List ℕ). length l) (c.as_slice.ensures.value ∙ c.in_ok-first.ensures) ∙ fields_length (fields_said c.args.fields) in
    omega arith

pub push-requires-clause-room : goal.push-requires-clause-room
push-requires-clause-room g c =
    let long : length c.as_slice.result.now ≡ 28 =
    ap (λ (l : List ℕ). length l) (c.as_slice.ensures.value ∙ c.in_ok-first.ensures) ∙ fields_length (fields_said c.args.fields) in
    let none = c.in_ok-pieces.ensures.pages in
    omega arith

pub push-requires-2-clause-room : goal.push-requires-2-clause-room
push-requires-2-clause-room g c =
    let long : length c.as_slice.result.now ≡ 28 =
    ap (λ (l : List ℕ). length l) (c.as_slice.ensures.value ∙ c.in_ok-first.ensures) ∙ fields_length (fields_said c.args.fields) in
    let none = c.in_ok-pieces.ensures.pages in
    let one = c.in_ok-push.ensures.pages in
    let short = c.requires.short in
    omega arith

pub put_leaves-requires-clause-room : goal.put_leaves-requires-clause-room
put_leaves-requires-clause-room g c =
    let long : length c.as_slice.result.now ≡ 28 =
    ap (λ (l : List ℕ). length l) (c.as_slice.ensures.value ∙ c.in_ok-first.ensures) ∙ fields_length (fields_said c.args.fields) in
    let none = c.in_ok-pieces.ensures.pages in
    let one = c.in_ok-push.ensures.pages in
    let two = c.in_ok-push-2.ensures.pages in
    let short = c.requires.short in
    let few = c.requires.few in
    omega arith

pub returns-clause-written : goal.returns-clause-written
returns-clause-written g c = λ told.
    let id = c.in_ok-pieces.ensures.id in
    let p0 : IsPaged (Segment (piece_id c.in_ok-pieces.pieces)) (piece_pages c.in_ok-pieces.pieces) []
    (so_far (bytes_of (g.F.Pages.files c.args.folder.now (Segment (piece_id c.in_ok-pieces.pieces)))) c.in_ok-pieces.pieces) =
    rw (c.in_ok-pieces.ensures.pages, c.in_ok-pieces.ensures.empty (bytes_of (g.F.Pages.files c.args.folder.now (Segment (piece_id c.in_ok-pieces.pieces)))))
    (no_pages (Segment (piece_id c.in_ok-pieces.pieces))) in
    let front = padded_body c.as_slice.result.now in
    let index = padded_body c.args.index.now in
    let p1 = c.in_ok-push.ensures.put told [] p0 in
    let q1 : IsPaged (Segment (piece_id c.push.new.self)) (piece_pages c.push.new.self) ([] ++ front)
    (so_far (bytes_of (g.F.Pages.files c.push.new.folder (Segment (piece_id c.push.new.self)))) c.push.new.self) = rw c.push.ensures.id p1 in
    let p2 = c.in_ok-push-2.ensures.put told ([] ++ front) q1 in
    let q2 : IsPaged (Segment (piece_id c.push-2.new.self)) (piece_pages c.push-2.new.self) ([] ++ front ++ index)
    (so_far (bytes_of (g.F.Pages.files c.push-2.new.folder (Segment (piece_id c.push-2.new.self)))) c.push-2.new.self) = rw c.push-2.ensures.id p2 in
    let p3 = c.in_ok-put_leaves.ensures.put told ([] ++ front ++ index) q2 in
    let id2 : piece_id c.push-2.new.self ≡ c.args.id = c.push-2.ensures.id ∙ c.push.ensures.id ∙ id in
    let id3 : piece_id c.put_leaves.new.pieces ≡ c.args.id = c.put_leaves.ensures.id ∙ id2 in
    let file = rw id3 at (c.in_ok-hand_over.ensures.file told) in
    let all = rw id2 at p3 in
    let fields = c.as_slice.ensures.value ∙ c.in_ok-first.ensures in
    (piece_pages c.put_leaves.new.pieces, rw (file, ← fields) all)
