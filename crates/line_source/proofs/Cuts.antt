-- Where lines are cut, and what a reader has read of one.
use Rattle.std.proofs.Common.{◌≡◌, ◌≤◌, ◌<◌, ◌+◌, ◌-◌, ℕ, Bool, true, false, not, cond, List, [], ◌∷◌, ◌++◌, length, take}
use Rattle.std.proofs.Common.{drop, min, Result, Ok, Err, OnOk, if◌then◌else◌, refl, subst, sym, ap, ◌∙◌, ◌⊎◌, inl, inr}
use Rattle.std.proofs.Common.{append_assoc, append-nil, length-append, add-zero, get_or, drop-cons, add-one, eqb, arith}
use Rattle.std.specs.Prelude.{◌==◌, is_ok}
use Rattle.std.specs.List.{position_or_len, prefix_len}
use Rattle.std.proofs.Math.Seq.{drop-append-add, drop-length, take-append-add, take-append_seam, take-length}
use Rattle.std.proofs.lemmas.Bool.{eq-eqb}
use Rattle.std.proofs.lemmas.Bool.Decides.{nat_tests}
use Rattle.std.proofs.lemmas.List.{drop-drop, drop-take, length-drop, length-take-le, take-append-drop, take-append-le, take-take, take_all}
use Rattle.std.proofs.lemmas.List.Folds.{length-prefix_len, prefix_len-append}
use Rattle.std.proofs.lemmas.List.Sums.{prefix_len_stops}
use Rattle.script_lang.specs.Lines.{lines_of}
use Rattle.script_lang.proofs.LinesOf.{line_ended, last_taken}
use Rattle.line_source.specs.Reader.{Gives, GivesLine, HoldsBytes, KnowsEnd, TakesPart, kept_bytes, lines_left, waiting}
use Rattle.line_source.specs.declared.reader.LineReader.{LineReader}

-- no byte of it is 10
abbrev pub IsPlain : List ℕ → Type 0
IsPlain xs = position_or_len (λ b. b == 10) xs ≡ length xs

-- the place of the first byte 10 behind a text that has none
plain_then : (xs ys : List ℕ) → IsPlain xs → position_or_len (λ b. b == 10) (xs ++ ys) ≡ length xs + position_or_len (λ b. b == 10) ys
plain_then xs ys h =
    prefix_len-append (λ b. not (b == 10)) xs ys
    ∙ ap (λ t. cond t (length xs + position_or_len (λ b. b == 10) ys) (position_or_len (λ b. b == 10) xs))
    (eq-eqb (position_or_len (λ b. b == 10) xs) (length xs) h)

pub plain_append : (xs ys : List ℕ) → IsPlain xs → IsPlain ys → IsPlain (xs ++ ys)
plain_append xs ys h k = plain_then xs ys h ∙ ap (λ n. length xs + n) k ∙ sym (length-append xs ys)

-- a line ends at a byte 10
pub line_cut : (xs ys : List ℕ) → IsPlain xs → lines_of (xs ++ 10 ∷ ys) ≡ xs ∷ lines_of ys
line_cut xs ys h =
    let at : position_or_len (λ b. b == 10) (xs ++ 10 ∷ ys) ≡ length xs = plain_then xs (10 ∷ ys) h ∙ add-zero (length xs) in
    let long : length (xs ++ 10 ∷ ys) ≡ length xs + length (10 ∷ ys) = length-append xs (10 ∷ ys) in
    let some : position_or_len (λ b. b == 10) (xs ++ 10 ∷ ys) < length (xs ++ 10 ∷ ys) = omega (arith, at, long) in
    line_ended (xs ++ 10 ∷ ys) some
    ∙ ap (λ n. take n (xs ++ 10 ∷ ys) ∷ lines_of (drop (n + 1) (xs ++ 10 ∷ ys))) at
    ∙ (λ i. take-append_seam xs (10 ∷ ys) i ∷ lines_of (drop-append-add xs (10 ∷ ys) 1 i))

-- a text without a byte 10 is one line, at the end
pub line_last : (xs : List ℕ) → IsPlain xs → 0 < length xs → lines_of xs ≡ xs ∷ lines_of []
line_last xs h some = last_taken xs xs [] (length xs) some (sym h) (sym (take-length xs)) (sym (drop-length xs)) (omega arith)

pub short_or_long : (n m : ℕ) → (n ≤ m) ⊎ (m ≤ n)
short_or_long n m = grind arith

-- keeping less of a line first keeps the same
pub kept_twice : (xs ys : List ℕ) → kept_bytes (kept_bytes xs ++ ys) ≡ kept_bytes (xs ++ ys)
kept_twice xs ys = elim (short_or_long (length xs) 4194306) as (λ _. kept_bytes (kept_bytes xs ++ ys) ≡ kept_bytes (xs ++ ys)) [
  | inl short ↦ ap (λ zs. kept_bytes (zs ++ ys)) (take_all 4194306 xs short)
  | inr long ↦
      let all : length (kept_bytes xs) ≡ 4194306 = length-take-le 4194306 xs long in
      take-append-le 4194306 (kept_bytes xs) ys (omega (arith, all)) ∙ take-take 4194306 4194306 xs (omega arith) ∙ sym (take-append-le 4194306 xs ys long)
]

-- what was kept of a line and as much of a part as there is room for is what is kept of both
pub kept_more : (xs ys : List ℕ) (n m : ℕ) → m ≡ length xs → m ≤ 4194306 → n ≡ min (length ys) (4194306 - m) → xs ++ take n ys ≡ kept_bytes (xs ++ ys)
kept_more xs ys n m is few n-is = elim (short_or_long (length ys) (4194306 - m)) as (λ _. xs ++ take n ys ≡ kept_bytes (xs ++ ys)) [
  | inl short ↦
      let all : n ≡ length ys = omega (arith, n-is, short) in
      let long = length-append xs ys in
      ap (λ k. xs ++ take k ys) all ∙ ap (λ zs. xs ++ zs) (take-length ys) ∙ sym (take_all 4194306 (xs ++ ys) (omega (arith, long, short, is, few)))
  | inr long ↦
      let all : 4194306 ≡ length xs + n = omega (arith, n-is, long, is, few) in
      sym (ap (λ k. take k (xs ++ ys)) all ∙ take-append-add xs ys n)
]

pub then_ok : {T E : Type 0} (r : Result T E) (a b c d : List ℕ) → a ≡ (if is_ok r then b else d) → b ≡ c → OnOk r (a ≡ c)
then_ok (Ok x) a b c d h e = h ∙ e
then_ok (Err x) a b c d h e = tt

-- ---- what waits

-- what waits behind so many bytes
pub wait_on : (items : List ℕ) (at end n : ℕ) → at + n ≤ end → take (end - (at + n)) (drop (at + n) items) ≡ drop n (take (end - at) (drop at items))
wait_on items at end n h =
    let sum : n + (end - (at + n)) ≡ end - at = omega (arith, h) in
    ap (λ xs. take (end - (at + n)) xs) (sym (drop-drop n at items)) ∙ sym (drop-take n (end - (at + n)) (drop at items))
    ∙ ap (λ m. drop n (take m (drop at items))) sum

-- nothing waits at the end
pub wait_none : (items : List ℕ) (at : ℕ) → take (at - at) (drop at items) ≡ []
wait_none items at = let none : at - at ≡ 0 = omega arith in ap (λ n. take n (drop at items)) none

pub wait_length : (items : List ℕ) (at end : ℕ) → at ≤ end → end ≤ length items → length (take (end - at) (drop at items)) ≡ end - at
wait_length items at end h k = let left = length-drop at items in length-take-le (end - at) (drop at items) (omega (arith, left, h, k))

-- what passes up to a place has no other
prefix_all : (p : ℕ → Bool) (xs : List ℕ) (n : ℕ) → n ≡ prefix_len p xs → prefix_len p (take n xs) ≡ length (take n xs)
prefix_all p xs n is = ap (λ m. prefix_len p (take m xs)) is ∙ all_passes p xs ∙ sym (ap (λ m. length (take m xs)) is)
  where
    by_test : (b : Bool) (a m n r : ℕ) → eqb a m ≡ b → r ≡ cond b (m + n) a → m ≡ r → a ≡ m
    by_test true a m n r test is same = grind (arith, nat_tests)
    by_test false a m n r test is same = sym is ∙ sym same

    all_passes : (p : ℕ → Bool) (xs : List ℕ) → prefix_len p (take (prefix_len p xs) xs) ≡ length (take (prefix_len p xs) xs)
    all_passes p xs =
        by_test (eqb (prefix_len p (take (prefix_len p xs) xs)) (length (take (prefix_len p xs) xs))) _ _ (prefix_len p (drop (prefix_len p xs) xs))
        (prefix_len p xs) refl
        (sym (ap (prefix_len p) (take-append-drop (prefix_len p xs) xs)) ∙ prefix_len-append p (take (prefix_len p xs) xs) (drop (prefix_len p xs) xs))
        (length-prefix_len p xs)

plain_front : (xs : List ℕ) (n : ℕ) → n ≡ position_or_len (λ b. b == 10) xs → IsPlain (take n xs)
plain_front xs n is = prefix_all (λ b. not (b == 10)) xs n is

drop_next : (xs : List ℕ) (n : ℕ) → n < length xs → drop n xs ≡ get_or xs n 0 ∷ drop (n + 1) xs
drop_next xs n there = rw (add-one n) (drop-cons xs n 0 there)

is_ten : (b : ℕ) → not (b == 10) ≡ false → b ≡ 10
is_ten b h = grind (arith, nat_tests)

seam : (xs : List ℕ) (n : ℕ) → n ≡ position_or_len (λ b. b == 10) xs → n < length xs → xs ≡ take n xs ++ 10 ∷ drop (n + 1) xs
seam xs n is there =
    let stops : not (get_or xs n 0 == 10) ≡ false =
    ap (λ m. not (get_or xs m 0 == 10)) is ∙ prefix_len_stops (λ b. not (b == 10)) xs 0 (omega (arith, is, there)) in
    sym (take-append-drop n xs) ∙ ap (λ ys. take n xs ++ ys) (drop_next xs n there ∙ ap (λ b. b ∷ drop (n + 1) xs) (is_ten (get_or xs n 0) stops))

module _ (old new : LineReader) (seen bytes : List ℕ) (n : ℕ) (at : n ≡ position_or_len (λ b. b == 10) (waiting old))
    (are : bytes ≡ kept_bytes (seen ++ take n (waiting old))) (ended : new.has_ended ≡ old.has_ended) where
  pub takes_whole : n < length (waiting old) → waiting new ≡ drop (n + 1) (waiting old) → TakesPart old new seen bytes true
  takes_whole there rest = record {
    part = take n (waiting old);
    plain = plain_front (waiting old) n at;
    bytes_are = are;
    waited = seam (waiting old) n at there ∙ ap (λ b. take n (waiting old) ++ 10 ∷ b) (sym rest);
    none = λ e. absurd cc;
    ended = ended;
  }

  pub takes_all : length (waiting old) ≡ n → waiting new ≡ [] → TakesPart old new seen bytes false
  takes_all all none = record {
    part = take n (waiting old);
    plain = plain_front (waiting old) n at;
    bytes_are = are;
    waited = sym (ap (λ m. take m (waiting old)) (sym all) ∙ take-length (waiting old));
    none = λ e. none;
    ended = ended;
  }

-- where the reader holds some bytes, some wait
pub waits_some : (r : LineReader) → r.at < r.end → 0 < length (waiting r)
waits_some r some =
    let long = wait_length r.piece.items r.at r.end (omega (arith, some)) (omega (arith, r.within, r.piece.ok.0)) in
    omega (arith, long, some)

module _ (old new : LineReader) (seen bytes line items : List ℕ) (n : ℕ) (same : items ≡ old.piece.items)
    (at : n ≡ position_or_len (λ b. b == 10) (take (old.end - old.at) (drop old.at items)))
    (got : bytes ≡ kept_bytes (line ++ take n (take (old.end - old.at) (drop old.at items)))) (are : line ≡ kept_bytes seen)
    (piece : new.piece ≡ old.piece) (end : new.end ≡ old.end) (ended : new.has_ended ≡ old.has_ended) where
  at_here : n ≡ position_or_len (λ b. b == 10) (waiting old)
  at_here = at ∙ ap (λ xs. position_or_len (λ b. b == 10) (take (old.end - old.at) (drop old.at xs))) same

  got_here : bytes ≡ kept_bytes (seen ++ take n (waiting old))
  got_here = got ∙ (λ i. kept_bytes (are i ++ take n (take (old.end - old.at) (drop old.at (same i))))) ∙ kept_twice seen (take n (waiting old))

  pub took_whole : n < length (take (old.end - old.at) (drop old.at items)) → new.at ≡ old.at + (n + 1) → TakesPart old new seen bytes true
  took_whole there on =
      let long = wait_length old.piece.items old.at old.end old.begun (omega (arith, old.within, old.piece.ok.0)) in
      let few : n < length (waiting old) = subst (λ xs. n < length (take (old.end - old.at) (drop old.at xs))) same there in
      let rest : waiting new ≡ drop (n + 1) (waiting old)
      = (λ i. take (end i - on i) (drop (on i) (piece i).items)) ∙ wait_on old.piece.items old.at old.end (n + 1) (omega (arith, few, long, old.begun)) in
      takes_whole old new seen bytes n at_here got_here ended few rest

  pub took_all : length (take (old.end - old.at) (drop old.at items)) ≤ n → n ≤ length (take (old.end - old.at) (drop old.at items)) → new.at ≡ old.end
      → TakesPart old new seen bytes false
  took_all most few on =
      let all : length (waiting old) ≡ n = ap (λ xs. length (take (old.end - old.at) (drop old.at xs))) (sym same) ∙ omega (arith, most, few) in
      let rest : waiting new ≡ [] = (λ i. take (end i - on i) (drop (on i) (piece i).items)) ∙ wait_none old.piece.items old.end in
      takes_all old new seen bytes n at_here got_here ended all rest

-- ---- the steps of reading a line

-- of the first of the lines that a reader had, this was seen
pub record IsReading (told : Type 0) (old : LineReader) (before : List ℕ) (r : LineReader) (left bytes : List ℕ) (is_begun : Bool) : Type 0 where
  pub seen : List ℕ
  pub plain : IsPlain seen
  pub bytes_are : bytes ≡ kept_bytes seen
  pub begun : is_begun ≡ true → 0 < length seen
  pub unbegun : is_begun ≡ false → seen ≡ []
  pub whole : told → KnowsEnd old before → lines_left old before ≡ lines_of (seen ++ (waiting r ++ left))
  pub ended : told → KnowsEnd old before → KnowsEnd r left

module _ (told : Type 0) (old : LineReader) (before : List ℕ) (r s : LineReader) (left now bytes : List ℕ) (is_begun : Bool)
    (so_far : IsReading told old before r left bytes is_begun) where
  -- where more is held, the lines left are those of what was seen, what waits and what is left
  held_on : (is_more : Bool) → (told → KnowsEnd r left → HoldsBytes s (waiting r ++ left) now is_more) → told → KnowsEnd old before
      → lines_left old before ≡ lines_of (so_far.seen ++ (waiting s ++ now))
  held_on is_more h t knows = so_far.whole t knows ∙ ap (λ b. lines_of (so_far.seen ++ b)) (h t (so_far.ended t knows)).whole

  module _ (u : LineReader) (after : List ℕ) (h : told → KnowsEnd r left → HoldsBytes s (waiting r ++ left) now true) where
    -- a part of it is taken that doesn't end the line
    pub reading_on : TakesPart s u so_far.seen after false → 0 < length (waiting s) → IsReading told old before u now after true
    reading_on taken some = record {
      seen = so_far.seen ++ taken.part;
      plain = plain_append so_far.seen taken.part so_far.plain taken.plain;
      bytes_are = taken.bytes_are;
      begun = λ e. let same = ap length taken.waited in omega (arith, same, some, length-append so_far.seen taken.part);
      unbegun = λ e. absurd cc;
      whole = λ t knows. held_on true h t knows ∙ ap lines_of
          (ap (λ b. so_far.seen ++ (b ++ now)) taken.waited ∙ sym (append_assoc so_far.seen taken.part now)
          ∙ ap (λ b. (so_far.seen ++ taken.part) ++ (b ++ now)) (sym (taken.none refl)));
      ended = λ t knows e. (h t (so_far.ended t knows)).ended (sym taken.ended ∙ e);
    }

    -- or the part ends the line, and it is given
    pub reading_ends : TakesPart s u so_far.seen after true → GivesLine told old before u now after
    reading_ends taken = record {
      line = so_far.seen ++ taken.part;
      bytes_are = taken.bytes_are;
      first = λ t knows. held_on true h t knows
          ∙ ap lines_of
          (ap (λ b. so_far.seen ++ (b ++ now)) taken.waited ∙ ap (λ b. so_far.seen ++ b) (append_assoc taken.part (10 ∷ waiting u) now)
          ∙ sym (append_assoc so_far.seen taken.part (10 ∷ (waiting u ++ now))))
          ∙ line_cut (so_far.seen ++ taken.part) (waiting u ++ now) (plain_append so_far.seen taken.part so_far.plain taken.plain);
      ended = λ t knows e. (h t (so_far.ended t knows)).ended (sym taken.ended ∙ e);
    }

  module _ (h : told → KnowsEnd r left → HoldsBytes s (waiting r ++ left) now false) where
    all_seen : told → KnowsEnd old before → lines_left old before ≡ lines_of so_far.seen
    all_seen t knows =
        let none = (h t (so_far.ended t knows)).none refl in
        held_on false h t knows ∙ ap (λ b. lines_of (so_far.seen ++ b)) (λ i. none.0 i ++ none.1 i) ∙ ap lines_of (append-nil so_far.seen)

    by_begun : (b : Bool) → is_begun ≡ b → Gives told old before s now bytes (Ok b)
    unfolding lines_of
    by_begun true is = record {
      line = so_far.seen;
      bytes_are = so_far.bytes_are;
      first = λ t knows. all_seen t knows ∙ line_last so_far.seen so_far.plain (so_far.begun is)
          ∙ ap (λ b. so_far.seen ∷ lines_of b) (let none = (h t (so_far.ended t knows)).none refl in λ i. sym none.0 i ++ sym none.1 i);
      ended = λ t knows. (h t (so_far.ended t knows)).ended;
    }
    by_begun false is = λ t knows. (all_seen t knows ∙ ap lines_of (so_far.unbegun is), ((h t (so_far.ended t knows)).none refl).1)

    -- nothing is left of the source, and the line begun is the last
    pub reading_last : Gives told old before s now bytes (Ok is_begun)
    reading_last = by_begun is_begun refl
