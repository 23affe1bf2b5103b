-- The values of words, read one by one.
use Rattle.std.proofs.Common.{◌≡◌, ℕ, ◌+◌, ◌*◌, ◌<◌, ◌≤◌, List, [], ◌∷◌, ◌++◌, length, Option, Result, Ok, Err, arith}
use Rattle.std.proofs.Common.{refl, ap, sym, ◌∙◌, append_assoc, length-append, ℤ, take, drop, take_all, add-one}
use Rattle.std.proofs.Math.ListN.{set}
use Rattle.std.proofs.Math.Seq.{take-suc-set, take-append_seam, drop-append_seam}
use Rattle.std.proofs.lemmas.List.{append-nil}
use Rattle.std.proofs.lemmas.Bool.Decides.{nat_tests}
use Rattle.number_text.specs.Number.{coordinate}
use Rattle.script_lang.specs.Reading.{value_of, values_of, onto_values, box_of}
use Rattle.script_lang.specs.Parts.{words_left, before, Takes, Writes, IsRestOf}
use Rattle.script_lang.specs.declared.faults.LineFault.{LineFault}
use Rattle.script_lang.specs.declared.faults.LineFault.TheVariants as fault
use Rattle.script_lang.specs.declared.words.Words.{Words}

-- ---- the words that are left

-- what is left of what is left
pub rest_both : {a b c : Words} → IsRestOf b a → IsRestOf c b → IsRestOf c a
rest_both r s = record { place = omega (arith, r.place, s.place); count = s.count ∙ r.count }

-- so many words are counted from a place on as are left there
pub counted : (place n : ℕ) (a b : Words) → place ≡ a.place → place + n ≡ b.place + length (words_left b) → IsRestOf b a → n ≡ length (words_left a)
counted place n a b at count rest = omega (arith, at, count, rest.count)

-- ---- their values

before-before : {X : Type 0} (xs ys : List X) (others : Result (List X) LineFault) → before xs (before ys others) ≡ before (xs ++ ys) others
before-before xs ys (Ok zs) = ap Ok (sym (append_assoc xs ys zs))
before-before xs ys (Err f) = refl

before-one : {X : Type 0} (x : X) (others : Result (List X) LineFault) → onto_values (Ok x) others ≡ before (x ∷ []) others
before-one x (Ok xs) = refl
before-one x (Err f) = refl

-- what is read, and then what is read behind it
pub writes_both : {X : Type 0} {value : List ℕ → Option X} {xs ys : List X} {a b c : Words}
    → Writes value xs a b → Writes value ys b c → Writes value (xs ++ ys) a c
writes_both {xs = xs} {ys = ys} w v = record {
  values = w.values ∙ ap (λ r. before xs r) v.values ∙ before-before xs ys _;
  count = omega (arith, w.count, v.count, length-append xs ys);
}

-- one word that is read writes one value
pub writes_one : {X : Type 0} (value : List ℕ → Option X) (word : List ℕ) (x : X) (a b : Words)
    → Takes word a b → Ok x ≡ value_of value a.place word → Writes value (x ∷ []) a b
writes_one value word x a b t is = record {
  values = rw (t.words, ← is, ← t.place) (before-one x _);
  count = omega (arith, ap length t.words);
}

-- a fault behind what is read is the fault of all
pub fails_later : {X : Type 0} {value : List ℕ → Option X} {xs : List X} {a b : Words} (f : LineFault)
    → Writes value xs a b → values_of value b.place (words_left b) ≡ Err f → values_of value a.place (words_left a) ≡ Err f
fails_later {xs = xs} f w e = w.values ∙ ap (λ r. before xs r) e

-- a word's fault is the fault of all from it on
pub fails_here : {X : Type 0} (value : List ℕ → Option X) (word : List ℕ) (f : LineFault) (a b : Words)
    → Takes word a b → Err f ≡ value_of value a.place word → values_of value a.place (words_left a) ≡ Err f
fails_here value word f a b t is = rw (t.words, ← is) refl

-- one more coordinate, in its place
pub writes_more : (value : List ℕ → Option ℤ) (c : List ℤ) (i : ℕ) (x y : ℤ) (word : List ℕ) (a b d : Words) → i < length c → y ≡ x
    → Writes value (take i c) a b → Takes word b d → Ok x ≡ value_of value b.place word
    → Writes value (take (i + 1) (set c i y)) a d
writes_more value c i x y word a b d inside same before taken is =
    rw (same, add-one, take-suc-set c i x inside) (writes_both before (writes_one value word x b d taken is))

pub writes_whole : (value : List ℕ → Option ℤ) (c : List ℤ) (i : ℕ) (a b : Words) → length c ≤ i → Writes value (take i c) a b → Writes value c a b
writes_whole value c i a b all w = rw (take_all i c all) at w

-- the ends of a box: with another number of words there is none
pub box_words : (dims place : ℕ) (words : List (List ℕ)) → (length words ≡ 2 * dims → ⊥) → box_of dims place words ≡ Err fault.Words
unfolding box_of
box_words dims place words other = grind (arith, nat_tests)

pub box_fault : (dims place : ℕ) (words : List (List ℕ)) (f : LineFault) → length words ≡ 2 * dims → values_of coordinate place words ≡ Err f
    → box_of dims place words ≡ Err f
unfolding box_of
box_fault dims place words f two e = rw e (grind (arith, nat_tests))

none_read : {X : Type 0} (value : List ℕ → Option X) (place : ℕ) (words : List (List ℕ)) → length words < 1 → values_of value place words ≡ Ok []
none_read value place [] none = refl
none_read value place (w ∷ ws) none = absurd (omega arith)

-- the values of all words that are left
pub all_values : {X : Type 0} (value : List ℕ → Option X) (xs : List X) (a b : Words) → Writes value xs a b → length (words_left b) < 1
    → values_of value a.place (words_left a) ≡ Ok xs
all_values value xs a b w none = w.values ∙ ap (λ r. before xs r) (none_read value b.place (words_left b) none) ∙ ap Ok (append-nil xs)

pub box_whole : (dims : ℕ) (lo hi : List ℤ) (a b d : Words) → length (words_left a) ≡ 2 * dims → length lo ≡ dims → length hi ≡ dims
    → Writes coordinate lo a b → Writes coordinate hi b d → box_of dims a.place (words_left a) ≡ Ok (lo, hi)
unfolding box_of
box_whole dims lo hi a b d two long high w v =
    let all : values_of coordinate a.place (words_left a) ≡ Ok (lo ++ hi) = all_values coordinate (lo ++ hi) a d (writes_both w v) (omega arith) in
    let front : take dims (lo ++ hi) ≡ lo = rw (← long) (take-append_seam lo hi) in
    let back : drop dims (lo ++ hi) ≡ hi = rw (← long) (drop-append_seam lo hi) in
    rw all (grind (arith, nat_tests, front, back))
