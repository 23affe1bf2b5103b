use Rattle.std.proofs.Common.{◌≡◌, ℕ, List, Option, length, take, replicate, subst, sym, refl, MatchOption, IfOk}
use Rattle.std.proofs.lemmas.Result.{IfOk-weaker}
use Rattle.commit_list.specs.Commits.{CommitData}
use Rattle.commit_list.specs.Layout.{SpellsCommit, HasNoCommit}
use Rattle.commit_list.specs.CommitFiles.{SpellsFilled, HasNoFilled}
use Rattle.commit_list.proofs.CommitPages.{filled_rest, filled_answer}
use Rattle.commit_list.proofs.files.decode_filled.Goals as goal

pub returns-then-not-is_zero : goal.returns-then-not-is_zero
returns-then-not-is_zero c = λ d h.
    let zeros = filled_rest c.args.payloads.now c.args.len d c.requires.begins h in
    let is = c.if-not-is_zero.ensures.1 (subst (λ (xs : List ℕ). xs ≡ replicate (length xs) 0) (sym c.split_at.ensures.back) zeros) in
    absurd (cc)

pub returns : goal.returns
returns c =
    let payloads = c.args.payloads.now in
    let n = c.args.len in
    let zeros = subst (λ (xs : List ℕ). xs ≡ replicate (length xs) 0) c.split_at.ensures.back (c.if-not-is_zero.ensures.0 refl) in
    IfOk-weaker c.decode.result (λ (found : Option CommitData). MatchOption found (HasNoCommit (take n payloads)) (SpellsCommit (take n payloads)))
    (λ (found : Option CommitData). MatchOption found (HasNoFilled payloads) (SpellsFilled payloads))
    (λ found. filled_answer payloads n found c.requires.begins c.requires.long zeros)
    (subst (λ (xs : List ℕ). IfOk c.decode.result (λ (found : Option CommitData). MatchOption found (HasNoCommit xs) (SpellsCommit xs)))
    c.split_at.ensures.front c.decode.ensures)
