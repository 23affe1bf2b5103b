use Rattle.std.proofs.Common.{◌≡◌, ◌<◌, ◌≤◌, ◌+◌, ◌*◌, ℕ, cond, ltb, sym, ap, ◌∙◌, arith, get_or, eqb, refl}
use Rattle.std.specs.List.{range_with_len, list_any}
use Rattle.leaf_codec.specs.Dimensions.{count_values}
use Rattle.leaf_codec.proofs.SpreadLemmas.{spread_other, place_within}
use Rattle.leaf_codec.proofs.Written.{flag_is}
use Rattle.leaf_codec.proofs.view.is_wide.Goals as goal

wanted : {m n a b : ℕ} → m ≡ n → a ≡ b → m ≤ a → n ≤ b
wanted {m} {n} {a} {b} same is le = omega (arith, same, is, le)

pub returns-then-d-parts : goal.returns-then-d-parts
returns-then-d-parts g c n = (λ _ apart moves. absurd (apart c.if-d-parts.true), λ _. refl)

pub returns-then-parts-d-ge4 : goal.returns-then-parts-d-ge4
returns-then-parts-d-ge4 g c n = (λ _ apart moves. absurd (omega (arith, moves, c.if-parts-d-ge4.true)), λ _. refl)

pub takes_values-requires : goal.takes_values-requires
takes_values-requires g c = record {
  within = λ i here.
      omega (
        arith,
        place_within g.row.D c.args.parts.now i c.args.d c.requires.parts here c.requires.within (omega (arith, c.if-parts-d-ge4.false)) c.if-d-parts.false,
        c.requires.place,
      );
  some = omega (arith, c.requires.some);
}

pub returns : goal.returns
returns g c n =
    let p = c.args.parts.now in
    let d = c.args.d in
    let moves : get_or p.lengths.now d 0 < 4 = omega (arith, c.if-parts-d-ge4.false) in
    let flag : c.from.result ≡ cond {A = ℕ} (ltb d p.sorted) 1 0 = c.from.ensures ∙ flag_is (ltb d p.sorted) in
    let need : c.args.least + c.from.result ≡ c.args.least + cond {A = ℕ} (ltb d p.sorted) 1 0 = ap (λ m. c.args.least + m) flag in
    let same = ap (λ m. count_values (λ b. list_any (λ i. eqb (get_or p.words.now (m + i * p.stride) 0) b) (range_with_len 0 p.count))) c.requires.place
    ∙ spread_other g.row.D d n p c.requires.parts c.requires.within moves c.if-d-parts.false in (
      λ yes apart _. wanted need same (c.takes_values.ensures.0 yes),
      λ wide. c.takes_values.ensures.1 (wanted (sym need) (sym same) (wide c.if-d-parts.false moves)),
    )
