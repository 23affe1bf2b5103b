use Rattle.std.proofs.Common.{◌≡◌, ◌<◌, ◌-◌, ◌%◌, ℕ, List, length, take, drop, refl, sym, subst, arith, length-drop, true≢false}
use Rattle.std.proofs.lemmas.List.{take_all}
use Rattle.std.proofs.lemmas.List.Elements.{All-drop, All-get_or}
use Rattle.leaf_codec.specs.Words.{AreBytes}
use Rattle.leaf_codec.proofs.SpelledPieces.{IsCut, cut_step, cut_short}
use Rattle.leaf_codec.proofs.read_sorted.are_cut.Goals as goal

-- what holds of the pieces behind the first one holds of the slice of them
behind : (P : List ℕ → Type 0) (spelled : List ℕ) (n : ℕ) → n ≡ length spelled → P (drop 2 spelled) → P (take (n - 2) (drop 2 spelled))
behind P spelled n is h = subst P (sym (take_all (n - 2) (drop 2 spelled) (omega (arith, is, length-drop 2 spelled)))) h

pub returns-then-not-whole-other : goal.returns-then-not-whole-other
returns-then-not-whole-other c =
    let h = c.loop-rest.invariant in
    let step = cut_step c.loop-rest.rest.now _ c.loop-rest-test.true
    (All-get_or (λ (b : ℕ). b < 256) c.loop-rest.rest.now 1 0 (omega (arith, c.loop-rest-test.true)) h.bytes) c.if-not-whole-other.true in (
      λ no. absurd (true≢false (sym no)),
      λ all. absurd (step.wrong refl (h.onward all)),
    )

pub loop-rest-preserved : goal.loop-rest-preserved
loop-rest-preserved c =
    let h = c.loop-rest.invariant in
    let rest = c.loop-rest.rest.now in
    let spelled = c.args.spelled.now in
    let step = cut_step rest _ c.loop-rest-test.true (All-get_or (λ (b : ℕ). b < 256) c.loop-rest.rest.now 1 0 (omega (arith, c.loop-rest-test.true)) h.bytes)
    c.if-not-whole-other.false in
    behind (λ (bs : List ℕ). record { even : length bs % 2 ≡ 0; bytes : AreBytes bs; onward : IsCut spelled → IsCut bs; back : IsCut bs → IsCut spelled }) rest
    _ refl (record {
      even = omega (arith, h.even, c.loop-rest-test.true, length-drop 2 rest);
      bytes = All-drop (λ (b : ℕ). b < 256) 2 rest h.bytes;
      onward = λ all. step.onward refl (h.onward all);
      back = λ cut. h.back (step.back refl cut);
    })

pub returns : goal.returns
returns c =
    let h = c.loop-rest.invariant in
    (λ _. h.back (cut_short c.loop-rest.rest.now (omega (arith, c.loop-rest-test.false)) h.even h.bytes), λ _. refl)
