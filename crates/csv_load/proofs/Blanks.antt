-- Where the blanks of a field end.
use Rattle.std.proofs.Common.{◌≡◌, ℕ, ◌-◌, ◌<◌, ◌≤◌, true, false, List, length, get_or, take, drop, sym, ap, ◌∙◌, arith}
use Rattle.std.proofs.lemmas.List.{take_rest}
use Rattle.std.proofs.lemmas.List.Sums.{prefix_len_is, suffix_len_is}
use Rattle.csv_load.specs.Loading.{is_blank, up_to_last, from_first}

pub from_first-at : (field : List ℕ) (n : ℕ) → n ≤ length field → ((k : ℕ) → k < n → is_blank (get_or field k 0) ≡ true)
    → (n < length field → is_blank (get_or field n 0) ≡ false) → take (length field - n) (drop n field) ≡ from_first field
from_first-at field n h before stops = take_rest field n ∙ ap (λ k. drop k field) (sym (prefix_len_is is_blank field n 0 h before stops))

pub up_to_last-at : (field : List ℕ) (n : ℕ) → n ≤ length field → ((k : ℕ) → n ≤ k → k < length field → is_blank (get_or field k 0) ≡ true)
    → (0 < n → is_blank (get_or field (n - 1) 0) ≡ false) → take n field ≡ up_to_last field
up_to_last-at field n h behind stops =
    let blanks = suffix_len_is is_blank field n 0 h behind stops in
    ap (λ k. take k field) (omega (arith, blanks))
