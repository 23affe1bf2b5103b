use Rattle.std.proofs.Common.{sym, ap, refl, ◌≡◌, ◌∙◌, ◌-◌, ◌*◌, ◌++◌, List, ℕ, length, take, drop, replicate}
use Rattle.page_cache.specs.Bodies.{pages_for, padded_body}
use Rattle.segment_file.proofs.Lists.{are_filled, front_of_filled, back_of_filled, filled_from}
use Rattle.segment_file.proofs.live.set_of.Goals as goal

pub no_body-requires : goal.no_body-requires
no_body-requires c = λ s body rest h e.
    let items = c.args.payloads.items in
    let long : length items ≡ 4064 * pages_for c.args.len =
    ap (λ (l : List ℕ). length l) (sym c.as_slice.ensures.value) ∙ c.as_slice.ensures.len ∙ c.requires.long in
    let whole : items ++ rest ≡ padded_body body = ap (λ (l : List ℕ). l ++ rest) (sym c.as_slice-then-not-is_blank.ensures.value) ∙ e in
    let same = c.requires.said s body rest (replicate (4064 * pages_for (length body) - length body) 0) h whole in
    let are = are_filled items body rest c.args.len long same whole in
    let back : drop c.args.len items ≡ replicate (length (drop c.args.len items)) 0 = back_of_filled items body c.args.len same are in
    let blank = c.is_blank.ensures.1 (rw (c.split_at.ensures.back, c.as_slice.ensures.value) back) in
    let not_blank = c.if-not-is_blank.true in
    cc

pub returns-in-Ok-clause-set : goal.returns-in-Ok-clause-set
returns-in-Ok-clause-set c =
    let items = c.args.payloads.items in
    let long : length items ≡ 4064 * pages_for c.args.len =
    ap (λ (l : List ℕ). length l) (sym c.as_slice.ensures.value) ∙ c.as_slice.ensures.len ∙ c.requires.long in
    let blank = c.if-not-is_blank.ensures.0 refl in
    let back : drop c.args.len items ≡ replicate (length (drop c.args.len items)) 0 = rw (c.split_at.ensures.back, c.as_slice.ensures.value) at blank in
    let body : c.new.result ≡ take c.args.len items =
    c.new.ensures ∙ c.in_ok-from_slice.ensures.items ∙ c.split_at.ensures.front ∙ ap (λ (l : List ℕ). take c.args.len l) c.as_slice.ensures.value in
    record {
      body = take c.args.len items;
      set = rw (← body) c.in-Ok.ensures.ok;
      payloads_are = filled_from items c.args.len long back;
    }

pub no_body-requires-in-Err-NotBits : goal.no_body-requires-in-Err-NotBits
no_body-requires-in-Err-NotBits c = λ s body rest h e.
    let items = c.args.payloads.items in
    let long : length items ≡ 4064 * pages_for c.args.len =
    ap (λ (l : List ℕ). length l) (sym c.as_slice.ensures.value) ∙ c.as_slice.ensures.len ∙ c.requires.long in
    let whole : items ++ rest ≡ padded_body body = ap (λ (l : List ℕ). l ++ rest) (sym c.as_slice-in-Err-NotBits.ensures.value) ∙ e in
    let same = c.requires.said s body rest (replicate (4064 * pages_for (length body) - length body) 0) h whole in
    let are = are_filled items body rest c.args.len long same whole in
    let body_is : c.new.result ≡ take c.args.len items =
    c.new.ensures ∙ c.in_ok-from_slice.ensures.items ∙ c.split_at.ensures.front ∙ ap (λ (l : List ℕ). take c.args.len l) c.as_slice.ensures.value in
    let front : c.new.result ≡ body = body_is ∙ front_of_filled items body c.args.len same are in
    let none = rw c.in-Err-NotBits.field-0-is at c.in-Err-NotBits.ensures.err in
    none.1 s (rw front h)
