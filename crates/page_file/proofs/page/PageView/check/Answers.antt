use Rattle.std.proofs.Common.{◌≡◌, ap, sym, ◌∙◌, arith, length, take, drop, List, ℕ}
use Rattle.std.proofs.lemmas.Slice.Eq.{bytes_eq-Decides}
use Rattle.page_file.specs.Page.{page_digest}
use Rattle.page_file.proofs.page.PageView.check.Goals as goal

pub invariant_of-result : goal.invariant_of-result
invariant_of-result c =
    let same : c.split_at.result.1.now ≡ c.as_slice-2.result.now = (bytes_eq-Decides _ _).0 (sym c.if-eq.ensures) in
    let whole : length c.as_slice.result.now ≡ 4096 =
    omega (arith, ap length same, ap length c.as_slice-2.ensures, c.digest_of-digest.ensures.len, c.split_at.ensures.back_len) in
    record {
      valid = record {
        len = sym (ap length c.as_slice.ensures) ∙ whole;
        digest = sym (ap (λ (x : List ℕ). drop 4064 x) c.as_slice.ensures) ∙ sym c.split_at.ensures.back ∙ same ∙ c.as_slice-2.ensures
            ∙ c.digest_of-digest.ensures.value
            ∙ ap (λ (x : List ℕ). page_digest c.args.kind c.args.file c.args.number x)
            (c.split_at.ensures.front ∙ ap (λ (x : List ℕ). take 4064 x) c.as_slice.ensures);
      };
    }
