use Rattle.std.proofs.Common.{rules, [], ◌∷◌, sym, subst, pos}
use Rattle.point_codec.specs.Points.{Region}
use Rattle.inner_pack.specs.Parts.{AreParts}
use Rattle.codec_tests.proofs.SmallTrees.{four_parts}
use Rattle.codec_tests.proofs.inner_pack_packed.pages_end.Goals as goal

pub pack-requires : goal.pack-requires
pack-requires g c =
    let cells = c.line.result ∷ c.line-2.result ∷ c.line-3.result ∷ c.line-4.result ∷ [] in (
      search rules,
      (
        search rules,
        subst (λ (r : Region). AreParts 1 r ((0, pos 0) ∷ (0, pos 0) ∷ (0, pos 0) ∷ []) (4064 ∷ 1 ∷ 4063 ∷ 2 ∷ []) cells) (sym c.line-5.ensures)
            (four_parts cells (λ i. c.line.ensures i ∷ c.line-2.ensures i ∷ c.line-3.ensures i ∷ c.line-4.ensures i ∷ [])),
      ),
    )
