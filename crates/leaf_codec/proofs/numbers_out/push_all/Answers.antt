use Rattle.std.proofs.Common.{◌≡◌, ◌-◌, ◌+◌, ◌++◌, ℕ, List, length, take, replicate, vec_len, sym, ap, ◌∙◌, arith}
use Rattle.std.proofs.lemmas.List.{take_all, take_at, with_items_is}
use Rattle.leaf_codec.specs.Raw.{raw_docs}
use Rattle.leaf_codec.specs.Views.{raw_numbers_of}
use Rattle.leaf_codec.proofs.numbers_out.push_all.Goals as goal

pub returns-clause-ok : goal.returns-clause-ok
returns-clause-ok c =
    let old : List ℕ = c.args.out.now.items in
    let before : ℕ = c.len-before.result in
    let count : ℕ = c.args.numbers.now.count in
    let long : before ≡ length old = c.len-before.ensures ∙ c.args.out.now.ok.0 in
    let more : List ℕ = replicate (before + count - vec_len c.args.out.now) 0 in
    let grown : c.resize.new.self.items ≡ take (before + count) old ++ more = c.in_ok-resize.ensures.items in
    let same : take before c.as_mut_slice.result.now ≡ old =
    ap (take before) (c.as_mut_slice.ensures.value ∙ grown ∙ ap (λ (xs : List ℕ). xs ++ more) (take_all (before + count) old (omega (arith, long))))
    ∙ take_at old more before (sym long) in
    with_items_is c.resize.new.self c.put_all.new.out (c.put_all.auto.out ∙ c.as_mut_slice.ensures.len)
    ∙ c.put_all.ensures
    ∙ ap (λ (xs : List ℕ). xs ++ raw_docs count (raw_numbers_of c.args.numbers.now)) same
