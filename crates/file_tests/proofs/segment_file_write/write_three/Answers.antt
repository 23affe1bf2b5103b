use Rattle.std.proofs.Common.{rules, ◌≡◌, [], ◌∷◌, map}
use Rattle.std.proofs.lemmas.Grind.{merely}
use Rattle.point_codec.specs.Seen.{region_of}
use Rattle.codec_tests.proofs.SmallTrees.{three}
use Rattle.file_tests.proofs.ThreeLeaves.{wide, narrow, parts_of_three, can_write_three}
use Rattle.file_tests.proofs.segment_file_write.write_three.Goals as goal

pub pack-requires : goal.pack-requires
pack-requires c =
    let cells = c.line-wide.result ∷ c.line-narrow.result ∷ c.line-narrow.result ∷ [] in
    let seen : map region_of cells ≡ wide ∷ narrow ∷ narrow ∷ [] = (λ i. c.line-wide.ensures i ∷ c.line-narrow.ensures i ∷ c.line-narrow.ensures i ∷ []) in
    (search rules, (search rules, record { tree = three; are = parts_of_three (region_of c.line-wide.result) cells c.line-wide.ensures seen }))

pub write_segment-requires : goal.write_segment-requires
write_segment-requires c =
    let cells = c.line-wide.result ∷ c.line-narrow.result ∷ c.line-narrow.result ∷ [] in
    let seen : map region_of cells ≡ wide ∷ narrow ∷ narrow ∷ [] = (λ i. c.line-wide.ensures i ∷ c.line-narrow.ensures i ∷ c.line-narrow.ensures i ∷ []) in
    let (form, leaves, has) = c.in_ok-index.ensures.packed three (parts_of_three (region_of c.line-wide.result) cells c.line-wide.ensures seen) in
    let (xs, first) = c.in_ok-leaf.ensures.spells in
    let (ys, second) = c.in_ok-leaf-2.ensures.spells in
    let (zs, third) = c.in_ok-leaf-3.ensures.spells in (
      search rules,
      (
        search rules,
        merely (can_write_three c.in_ok-index.index (region_of c.line-wide.result) (region_of c.line-narrow.result) c.in_ok-leaf.field-0 c.in_ok-leaf-2.field-0
            c.in_ok-leaf-3.field-0
            xs ys zs leaves has c.line-wide.ensures c.line-narrow.ensures c.in_ok-leaf.ensures.long c.in_ok-leaf-2.ensures.long c.in_ok-leaf-3.ensures.long
            first second third),
      ),
    )
