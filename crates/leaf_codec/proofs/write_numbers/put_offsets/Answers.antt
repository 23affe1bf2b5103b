use Rattle.std.proofs.Common.{◌≡◌, ◌+◌, ◌-◌, ℕ, List, [], ◌∷◌, ◌++◌, take, drop, sym, ap, ◌∙◌, arith, append-nil, take_all, length-drop}
use Rattle.std.specs.List.{flat_map}
use Rattle.std.specs.Int.{w32, to_be_bytes}
use Rattle.std.proofs.lemmas.List.Concat.{flat_map-append}
use Rattle.leaf_codec.specs.Entries.{docs_of}
use Rattle.leaf_codec.specs.Spelling.{low_bytes}
use Rattle.leaf_codec.proofs.Items.{docs_more, docs_all}
use Rattle.leaf_codec.proofs.Lists.{grows}
use Rattle.leaf_codec.proofs.write_numbers.put_offsets.Goals as goal

-- the last bytes, as a slice to the end has them
to_end : (w n : ℕ) → take (4 - (4 - w)) (drop (4 - w) (to_be_bytes w32 n)) ≡ low_bytes w n
to_end w n = take_all (4 - (4 - w)) (drop (4 - w) (to_be_bytes w32 n)) (omega (arith, length-drop (4 - w) (to_be_bytes w32 n)))

pub loop-entry-preserved : goal.loop-entry-preserved
loop-entry-preserved g c =
    let docs = docs_of c.args.entries.now in
    let i = c.loop-entry.entry-index in
    let n = c.entry-item.result.doc in
    let spell = λ (m : ℕ). low_bytes c.args.width (m - c.args.least) in
    grows c.put_slice.new.out.items c.loop-entry.out.items c.args.out.now.items (flat_map spell (take i docs)) (spell n) (flat_map spell (take (i + 1) docs))
    (c.in_ok-put_slice.ensures.ok
    ∙ ap (λ (bs : List ℕ). c.loop-entry.out.items ++ take (4 - (4 - c.args.width)) (drop (4 - c.args.width) bs)) c.to_be_bytes-bytes.ensures
    ∙ ap (λ (t : List ℕ). c.loop-entry.out.items ++ t) (to_end c.args.width (n - c.args.least)))
    c.loop-entry.invariant
    (sym (ap (flat_map spell) (docs_more c.args.entries.now i c.entry-item.result c.loop-entry-test.true c.entry-item.is)
    ∙ flat_map-append spell (take i docs) (n ∷ [])
    ∙ ap (λ (t : List ℕ). flat_map spell (take i docs) ++ t) (append-nil (spell n))))

pub returns : goal.returns
returns g c =
    let spell = λ (m : ℕ). low_bytes c.args.width (m - c.args.least) in
    c.loop-entry.invariant
    ∙ ap (λ (ns : List ℕ). c.args.out.now.items ++ flat_map spell ns) (docs_all c.args.entries.now c.loop-entry.entry-index c.loop-entry-test.false)
