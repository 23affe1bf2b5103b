-- A loop over what `each_ok` goes over: what is done so far, before what is left.
use Rattle.std.proofs.Common.{◌≡◌, ℕ, suc, true, ◌+◌, ◌<◌, ◌≤◌, List, [], ◌∷◌, ◌++◌, length, get_or, set}
use Rattle.std.proofs.Common.{take, drop, Result, Ok, Err, refl, sym, ap, ◌∙◌, append_assoc, add-one, arith}
use Rattle.std.specs.Prelude.{◌==◌}
use Rattle.std.proofs.lemmas.Bool.Decides.{nat_tests}
use Rattle.std.proofs.lemmas.List.{append-nil, take_all, at_drop_more, at_drop_all}
use Rattle.std.proofs.Math.Seq.{take-suc-set}
use Rattle.csv_load.specs.Loading.{each_ok, and_then, point_of, value_of}
use Rattle.csv_load.specs.declared.CsvFault.{CsvFault}

-- values before those of a result
abbrev pub before : {Y : Type 0} → List Y → Result (List Y) CsvFault → Result (List Y) CsvFault
before done (Ok ys) = Ok (done ++ ys)
before done (Err e) = Err e

pub before-nil : {Y : Type 0} (r : Result (List Y) CsvFault) → before [] r ≡ r
before-nil (Ok ys) = refl
before-nil (Err e) = refl

before-cons : {Y : Type 0} (done : List Y) (y : Y) (r : Result (List Y) CsvFault) → before done (and_then r (λ ys. Ok (y ∷ ys))) ≡ before (done ++ y ∷ []) r
before-cons done y (Ok ys) = rw (append_assoc done (y ∷ []) ys) refl
before-cons done y (Err e) = refl

pub each-yes : {X Y : Type 0} (f : ℕ → X → Result Y CsvFault) (n m : ℕ) (x : X) (xs : List X) (done : List Y) (y : Y) → n + 1 ≡ m → f n x ≡ Ok y
    → before done (each_ok f n (x ∷ xs)) ≡ before (done ++ y ∷ []) (each_ok f m xs)
unfolding each_ok
each-yes f n m x xs done y e ok = let s : suc n ≡ m = omega arith in rw (ok, s) (before-cons done y (each_ok f m xs))

pub each-fault : {X Y : Type 0} (f : ℕ → X → Result Y CsvFault) (n : ℕ) (x : X) (xs : List X) (done : List Y) (e : CsvFault) → f n x ≡ Err e
    → before done (each_ok f n (x ∷ xs)) ≡ Err e
unfolding each_ok
each-fault f n x xs done e err = rw err refl

pub each-end : {X Y : Type 0} (f : ℕ → X → Result Y CsvFault) (n : ℕ) (done : List Y) → before done (each_ok f n []) ≡ Ok done
unfolding each_ok
each-end f n done = rw (append-nil done) refl

-- the same for a loop that writes what it finds into the places of a list ys, in turn
module _ {X Y : Type 0} (f : ℕ → X → Result Y CsvFault) (xs : List X) (i : ℕ) (x : X) (ys : List Y) (all : Result (List Y) CsvFault) where
  pub write-yes : (y : Y) → i < length xs → i < length ys → x ≡ get_or xs i x → f i x ≡ Ok y → before (take i ys) (each_ok f i (drop i xs)) ≡ all
      → before (take (i + 1) (set ys i y)) (each_ok f (i + 1) (drop (i + 1) xs)) ≡ all
  write-yes y h w at ok inv =
      let here : each_ok f i (drop i xs) ≡ each_ok f i (x ∷ drop (i + 1) xs) =
      at_drop_more (each_ok f i) xs i x h ∙ ap (λ z. each_ok f i (z ∷ drop (i + 1) xs)) (sym at) in
      let done : take (i + 1) (set ys i y) ≡ take i ys ++ y ∷ [] = rw add-one (take-suc-set ys i y w) in
      rw done (sym (each-yes f i (i + 1) x (drop (i + 1) xs) (take i ys) y refl ok) ∙ ap (before (take i ys)) (sym here) ∙ inv)

  pub write-fault : (e : CsvFault) → i < length xs → x ≡ get_or xs i x → f i x ≡ Err e → before (take i ys) (each_ok f i (drop i xs)) ≡ all → all ≡ Err e
  write-fault e h at err inv =
      let here : each_ok f i (drop i xs) ≡ each_ok f i (x ∷ drop (i + 1) xs) =
      at_drop_more (each_ok f i) xs i x h ∙ ap (λ z. each_ok f i (z ∷ drop (i + 1) xs)) (sym at) in
      sym inv ∙ ap (before (take i ys)) here ∙ each-fault f i x (drop (i + 1) xs) (take i ys) e err

pub write-end : {X Y : Type 0} (f : ℕ → X → Result Y CsvFault) (xs : List X) (i : ℕ) (ys : List Y) (all : Result (List Y) CsvFault) → length xs ≤ i
    → length ys ≤ i
    → before (take i ys) (each_ok f i (drop i xs)) ≡ all → all ≡ Ok ys
write-end f xs i ys all h w inv =
    sym inv ∙ ap (before (take i ys)) (at_drop_all (each_ok f i) xs i h) ∙ each-end f i (take i ys) ∙ ap Ok (take_all i ys w)

-- a record as wide as the header
pub point_of-wide : (width : ℕ) (columns : List ℕ) (row : ℕ) (fields : List (List ℕ)) → length fields ≡ width
    → point_of width columns row fields ≡ each_ok (value_of fields row) 0 columns
point_of-wide width columns row fields e = let test : (length fields == width) ≡ true = grind (arith, nat_tests) in rw test refl
