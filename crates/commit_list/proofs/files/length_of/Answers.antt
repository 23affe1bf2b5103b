use Rattle.std.proofs.Common.{refl, sym, ap, subst, ◌∙◌, List, ℕ, length}
use Rattle.commit_list.specs.Layout.{BeginsBody}
use Rattle.commit_list.proofs.CommitPages.{begins_none, first_of, first_payloads}
use Rattle.commit_list.proofs.files.length_of.Goals as goal

pub returns-in_ok-bytes-in-None-clause-shown : goal.returns-in_ok-bytes-in-None-clause-shown
returns-in_ok-bytes-in-None-clause-shown c =
    let same = c.in_ok-bytes-in-None.ensures.items in
    rw c.no_commit.ensures (
      refl,
      begins_none c.in_ok-bytes-in-None.bytes.items (ap length same ∙ c.payload-in-None.ensures.len)
          (λ n b. c.in-None.ensures.none n (subst (λ (xs : List ℕ). BeginsBody xs n) (same ∙ c.payload-in-None.ensures.bytes ∙ sym c.payload.ensures.bytes) b)),
    )

pub returns-in_ok-bytes-in-None-clause-damage : goal.returns-in_ok-bytes-in-None-clause-damage
returns-in_ok-bytes-in-None-clause-damage c = λ files first.
    rw c.no_commit.ensures
    (first_payloads files _ _ c.in_ok-bytes-in-None.bytes.items (first_of files c.args.first.now c.requires first)
    (c.in_ok-bytes-in-None.ensures.items ∙ c.payload-in-None.ensures.bytes))

pub returns-in_ok-bytes-in-None-clause-whole : goal.returns-in_ok-bytes-in-None-clause-whole
returns-in_ok-bytes-in-None-clause-whole c = λ n b. absurd (c.in-None.ensures.none n (subst (λ (xs : List ℕ). BeginsBody xs n) (sym c.payload.ensures.bytes) b))
