use Rattle.std.proofs.Common.{ℕ, List, ◌≡◌, ◌++◌, take, drop, filter, All, true, ap, sym, subst, ◌∙◌, arith}
use Rattle.std.proofs.Common.{take-append-drop}
use Rattle.std.proofs.lemmas.List.{with_items_is}
use Rattle.std.proofs.lemmas.Slice.{between_to_end}
use Rattle.live_bits.specs.LiveSet.{is_live}
use Rattle.live_bits.proofs.KeptLive.{filter_all}
use Rattle.live_bits.proofs.live.LiveBits.keep_live.Goals as goal

pub returns-then-has_all : goal.returns-then-has_all
returns-then-has_all c =
    let p = is_live c.args.self.now in
    let xs = c.args.numbers.now.items in
    let all : All (λ (n : ℕ). p n ≡ true) (drop c.args.from xs) =
    subst (All (λ (n : ℕ). p n ≡ true))
    (between_to_end c.as_slice.result.now c.args.from _ (omega arith) ∙ ap (drop c.args.from) c.as_slice.ensures.value)
    (c.has_all.ensures c.if-has_all.true) in
    sym (take-append-drop c.args.from xs) ∙ ap (λ (t : List ℕ). take c.args.from xs ++ t) (sym (filter_all p (drop c.args.from xs) all))

pub returns : goal.returns
returns c =
    let whole = with_items_is c.args.numbers.now c.move_live-end.new.numbers (c.move_live-end.auto.numbers ∙ c.as_mut_slice.ensures.len) in
    c.truncate.ensures.items
    ∙ ap (take c.move_live-end.result) whole
    ∙ c.move_live-end.ensures
    ∙ ap (λ (t : List ℕ). take c.args.from t ++ filter (is_live c.args.self.now) (drop c.args.from t)) c.as_mut_slice.ensures.value
