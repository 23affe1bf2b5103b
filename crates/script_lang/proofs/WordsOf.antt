-- The words of a text, taken off one by one.
use Rattle.std.proofs.Common.{◌≡◌, ℕ, ◌+◌, ◌<◌, ◌≤◌, Bool, true, false, List, [], ◌∷◌, length, take}
use Rattle.std.proofs.Common.{drop, arith, refl, ap, sym, subst, ◌∙◌, add-one, length-take-le}
use Rattle.std.specs.Prelude.{nat_lt, filter, ◌==◌}
use Rattle.std.specs.List.{position_or_len, prefix_len, slice_split, before_first, after_first}
use Rattle.std.proofs.lemmas.List.Splits.{slice_split-cons_yes, slice_split_first, length-slice_split}
use Rattle.std.proofs.lemmas.List.Sums.{prefix_len-le-length, passes_at_first, length-filter, count_by-le-length}
use Rattle.std.proofs.lemmas.Bool.{eq-eqb, ne_eqb}
use Rattle.std.proofs.lemmas.Bool.Decides.{nat_tests}
use Rattle.std.proofs.lemmas.Grind.{common_steps}
use Rattle.std.proofs.Math.Nat.{add_comm}
use Rattle.std.proofs.Math.Seq.{drop-cons, take-length}
use Rattle.std.proofs.lemmas.List.{drop_all}
use Rattle.script_lang.proofs.Pieces.{one_piece, empty}
use Rattle.script_lang.specs.Lines.{words_of, from_word, after_word, is_blank}

-- a blank at the front makes no word
words-blank : (b : ℕ) (bs : List ℕ) → is_blank b ≡ true → words_of (b ∷ bs) ≡ words_of bs
unfolding words_of
words-blank b bs e = rw (slice_split-cons_yes is_blank b bs e) refl

prefix-yes : (b : ℕ) (bs : List ℕ) → is_blank b ≡ true → from_word (b ∷ bs) ≡ from_word bs
prefix-yes b bs e = rw (e, add_comm 1 (prefix_len is_blank bs), add-one) refl

prefix-no : (b : ℕ) (bs : List ℕ) → is_blank b ≡ false → from_word (b ∷ bs) ≡ b ∷ bs
prefix-no b bs e = rw e refl

-- nor do those before the first word
words_from : (text : List ℕ) → words_of (from_word text) ≡ words_of text
words_from [] = refl
words_from (b ∷ bs) =
    elim (is_blank b) as (λ t. is_blank b ≡ t → words_of (from_word (b ∷ bs)) ≡ words_of (b ∷ bs)) [
      | true ↦ λ e. rw (prefix-yes b bs e, words-blank b bs e) (words_from bs)
      | false ↦ λ e. rw (prefix-no b bs e) refl
    ] refl

pub words_none : (text : List ℕ) → from_word text ≡ [] → words_of text ≡ []
unfolding words_of
words_none text e = sym (words_from text) ∙ ap words_of e

-- a piece that is not empty is a word
kept : (piece : List ℕ) (others : List (List ℕ)) → 0 < length piece
    → filter (λ p. nat_lt 0 (length p)) (piece ∷ others) ≡ piece ∷ filter (λ p. nat_lt 0 (length p)) others
kept piece others some = grind (arith, common_steps)

-- behind the word comes the blank that ends it
behind-blank : (w : List ℕ) → position_or_len is_blank w < length w
    → words_of (drop (position_or_len is_blank w) w) ≡ words_of (after_first is_blank w)
behind-blank w more =
    rw (drop-cons w (position_or_len is_blank w) 0 more)
    (words-blank _ _ (passes_at_first is_blank w 0 more) ∙ ap (λ n. words_of (drop n w)) (sym (add-one (position_or_len is_blank w))))

words-two : (w : List ℕ) → 0 < position_or_len is_blank w → position_or_len is_blank w < length w
    → words_of w ≡ take (position_or_len is_blank w) w ∷ words_of (after_first is_blank w)
unfolding words_of
words-two w some more =
    rw (slice_split_first is_blank w 0 more)
    (kept (before_first is_blank w) (slice_split is_blank (after_first is_blank w)) (omega (arith, length-take-le (position_or_len is_blank w) w)))

words-one : (w : List ℕ) → 0 < length w → position_or_len is_blank w ≡ length w → words_of w ≡ w ∷ []
unfolding words_of
words-one w some all = rw (one_piece is_blank w all) (kept w [] some)

-- the first word of a text that begins with one ends before a blank, or is all there is
first_at : (w : List ℕ) → 0 < position_or_len is_blank w
    → words_of w ≡ take (position_or_len is_blank w) w ∷ words_of (drop (position_or_len is_blank w) w)
unfolding words_of
first_at w some =
    elim (nat_lt (position_or_len is_blank w) (length w)) as (λ t. nat_lt (position_or_len is_blank w) (length w) ≡ t
    → words_of w ≡ take (position_or_len is_blank w) w ∷ words_of (drop (position_or_len is_blank w) w)) [
      | true ↦ λ t. let more : position_or_len is_blank w < length w = grind (arith, nat_tests) in
          words-two w some more ∙ ap (λ ws. take (position_or_len is_blank w) w ∷ ws) (sym (behind-blank w more))
      | false ↦ λ t.
          let bound : position_or_len is_blank w ≤ length w = prefix_len-le-length _ w in
          let all : position_or_len is_blank w ≡ length w = grind (arith, nat_tests) in
          rw (all, take-length w, drop_all (length w) w (omega arith)) (words-one w (omega arith) all)
    ] refl

-- what is left behind the blanks begins with a word
pub begins : (text : List ℕ) → 0 < length (from_word text) → 0 < position_or_len is_blank (from_word text)
begins [] some = absurd (omega arith)
begins (b ∷ bs) some =
    elim (is_blank b) as (λ t. is_blank b ≡ t → 0 < position_or_len is_blank (from_word (b ∷ bs))) [
      | true ↦ λ t. rw (prefix-yes b bs t) (begins bs (rw (prefix-yes b bs t) at some))
      | false ↦ λ t. rw (prefix-no b bs t, t) (omega arith)
    ] refl

-- the first word of a text
pub words_first : (text : List ℕ) → 0 < length (from_word text)
    → words_of text ≡ take (position_or_len is_blank (from_word text)) (from_word text)
    ∷ words_of (drop (position_or_len is_blank (from_word text)) (from_word text))
words_first text some = sym (words_from text) ∙ first_at (from_word text) (begins text some)

-- a word is taken off a text: w is the text from its first word on
pub word_taken : (text w front back : List ℕ) (n m : ℕ) → n ≡ prefix_len is_blank text → w ≡ drop n text → 0 < length w
    → m ≡ position_or_len is_blank w → front ≡ take m w → back ≡ drop m w → (words_of text ≡ front ∷ words_of back) × (back ≡ after_word text)
unfolding after_word
word_taken text w front back n m n-is w-is some m-is front-is back-is =
    let from : w ≡ from_word text = w-is ∙ ap (λ k. drop k text) n-is in
    let some' : 0 < length (from_word text) = rw (← from) some in
    rw (front-is, back-is, m-is, from) (words_first text some', refl)

-- none is left in a text of blanks
pub none_taken : (text w : List ℕ) (n : ℕ) → n ≡ prefix_len is_blank text → w ≡ drop n text → length w ≡ 0 → words_of text ≡ []
none_taken text w n n-is w-is none =
    let from : w ≡ from_word text = w-is ∙ ap (λ k. drop k text) n-is in
    words_none text (empty (from_word text) (rw (← from) (omega arith)))

both_some : (v : List ℕ) (ws : List (List ℕ)) → 0 < length v → 0 < length ws → (length v == 0) ≡ (length ws == 0)
both_some v ws more most = ne_eqb (length v) 0 (λ e. omega arith) ∙ sym (ne_eqb (length ws) 0 (λ e. omega arith))

both_none : (v : List ℕ) (ws : List (List ℕ)) → length v ≡ 0 → length ws ≡ 0 → (length v == 0) ≡ (length ws == 0)
both_none v ws none lacks = eq-eqb (length v) 0 none ∙ sym (eq-eqb (length ws) 0 lacks)

-- no byte is left behind the blanks at the front exactly where no word is
pub empty_from : (text w : List ℕ) (n : ℕ) → n ≡ prefix_len is_blank text → w ≡ drop n text → (length w == 0) ≡ (length (words_of text) == 0)
empty_from text w n n-is w-is = by w (w-is ∙ ap (λ k. drop k text) n-is)
  where
    by : (v : List ℕ) → v ≡ from_word text → (length v == 0) ≡ (length (words_of text) == 0)
    by [] from = both_none [] (words_of text) refl (ap length (words_none text (sym from)))
    by (b ∷ bs) from =
        let some : 0 < length (b ∷ bs) = omega arith in
        both_some (b ∷ bs) (words_of text) some (omega (arith, ap length (words_first text (subst (λ (v : List ℕ). 0 < length v) from some))))

-- a text has no more words than bytes, but for one
pub words_fit : (text : List ℕ) → length (words_of text) ≤ length text + 1
unfolding words_of
words_fit text =
    let is_word : List ℕ → Bool = λ piece. nat_lt 0 (length piece) in
    omega (
      arith,
      length-filter is_word (slice_split is_blank text),
      count_by-le-length is_word (slice_split is_blank text),
      length-slice_split is_blank text,
      count_by-le-length is_blank text,
    )
