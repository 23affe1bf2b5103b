-- What a load makes of an index, in the definition's own steps.
use Rattle.std.proofs.Common.{◌≡◌, ◌≤◌, ◌+◌, ◌^◌, ◌==◌, ℕ, true, false, not, cond, nat_lt, List}
use Rattle.std.proofs.Common.{[], ◌∷◌, length, fold, Some, None, Ok, Err, refl, ap, ◌∙◌, arith, ℤ}
use Rattle.std.proofs.lemmas.Bool.Decides.{nat_tests}
use Rattle.index_model.specs.State.{Index, State, at_rest, given_of}
use Rattle.index_model.specs.Script.{Answer}
use Rattle.index_model.specs.Step.{Done, Refused, step_on, left_by}
use Rattle.script_lang.specs.Replies.{doc_text}
use Rattle.script_lang.specs.declared.faults.Refusal.TheVariants as why
use Rattle.index_core.specs.Whole.{with_point, with_points}
use Rattle.csv_load.specs.Loading.{points_of, records_of}
use Rattle.csv_load.specs.declared.CsvFault.{CsvFault}
use Rattle.load_points.specs.Loaded.{points_answer, dims_text, full_text, load_answer, loaded_by}
use Rattle.load_points.specs.Loaded.{loaded_text, columns_answer, next_of, opened_state, refusal, with_document, with_documents}

some_inj : {X : Type 0} (x y : X) → Some x ≡ Some y → x ≡ y
some_inj x y e = cc

fits_false : (m n : ℕ) → n ≤ m → nat_lt m n ≡ false
fits_false m n h = grind (arith, nat_tests)

full_true : (m n : ℕ) → m + 1 ≤ n → nat_lt m n ≡ true
full_true m n h = grind (arith, nat_tests)

-- ---- one document and then more

one_more : (i : Index) (point : List ℤ) → i.points_given + 1 ≤ 2 ^ 24 → with_document (Some i) point ≡ Some (with_point i point)
unfolding step_on
one_more i point fits =
    ap (λ b. left_by (Some i) (cond b (Refused why.Full) (Done (Some (with_point i point)) (doc_text i.next)))) (fits_false (2 ^ 24) (i.points_given + 1) fits)

all_more : (i : Index) (points : List (List ℤ)) → i.points_given + length points ≤ 2 ^ 24 → fold with_document (Some i) points ≡ Some (with_points i points)
all_more i [] fits = refl
all_more i (p ∷ ps) fits =
    ap (λ (s : State). fold with_document s ps) (one_more i p (omega (arith, fits))) ∙ all_more (with_point i p) ps (omega (arith, fits))

-- a session's end leaves the documents that came
rest_with : (i : Index) (points : List (List ℤ)) → at_rest (with_points i points) ≡ with_points (at_rest i) points
rest_with i [] = refl
rest_with i (p ∷ ps) = rest_with (with_point i p) ps

-- ---- the index that is there, or a new one

given_opened : (D : ℕ) (stored : State) (i : Index) → opened_state D stored ≡ Some i → given_of stored ≡ i.points_given
given_opened D None i e = ap (λ (j : Index). j.points_given) (some_inj _ _ e)
given_opened D (Some j) i e = ap (λ (k : Index). k.points_given) (some_inj _ _ e)

next_opened : (D : ℕ) (stored : State) (i : Index) → opened_state D stored ≡ Some i → next_of stored ≡ i.next
next_opened D None i e = ap (λ (j : Index). j.next) (some_inj _ _ e)
next_opened D (Some j) i e = ap (λ (k : Index). k.next) (some_inj _ _ e)

same_dims : (m n : ℕ) → m ≡ n → not (m == n) ≡ false
same_dims m n e = grind (arith, nat_tests)

-- where it has as many dimensions as there are columns
pub matched_is : (D : ℕ) (stored : State) (i : Index) (points : List (List ℤ)) → opened_state D stored ≡ Some i → i.dims ≡ D
    → columns_answer D stored points ≡ points_answer D stored points
matched_is D None i points e dims = refl
matched_is D (Some j) i points e dims =
    ap (λ b. cond b (refusal (Some j) (dims_text j.dims)) (points_answer D (Some j) points))
    (same_dims j.dims D (ap (λ (k : Index). k.dims) (some_inj _ _ e) ∙ dims))

-- and where it has others
pub matched_not : (D : ℕ) (i : Index) (points : List (List ℤ)) → (D ≡ i.dims → ⊥) → columns_answer D (Some i) points ≡ refusal (Some i) (dims_text i.dims)
matched_not D i points other = ap (λ b. cond b (refusal (Some i) (dims_text i.dims)) (points_answer D (Some i) points)) (other_dims i.dims D other)
  where
    other_dims : (m n : ℕ) → (n ≡ m → ⊥) → not (m == n) ≡ true
    other_dims m n h = grind (arith, nat_tests)

-- where not all points fit, the answer is that it is full
pub full_is : (D : ℕ) (stored : State) (i : Index) (points : List (List ℤ)) → opened_state D stored ≡ Some i → 2 ^ 24 + 1 ≤ i.points_given + length points
    → points_answer D stored points ≡ refusal stored full_text
full_is D stored i points e many =
    ap (λ b. cond b (refusal stored full_text)
    (record { state = with_documents D stored points; text = loaded_text (length points) (next_of stored + length points); refused = 0 }))
    (ap (λ n. nat_lt (2 ^ 24) (n + length points)) (given_opened D stored i e) ∙ full_true (2 ^ 24) (i.points_given + length points) many)

-- where all points fit, the answer says how many there are
abbrev pub done_answer : Index → List (List ℤ) → Answer
done_answer i points = record { state = Some (with_points i points); text = loaded_text (length points) (i.next + length points); refused = 0 }

pub added_is : (D : ℕ) (stored : State) (i : Index) (points : List (List ℤ)) → opened_state D stored ≡ Some i → i.points_given + length points ≤ 2 ^ 24
    → points_answer D stored points ≡ done_answer i points
added_is D stored i points e fits =
    ap (λ b. cond b (refusal stored full_text)
    (record { state = with_documents D stored points; text = loaded_text (length points) (next_of stored + length points); refused = 0 }))
    (ap (λ n. nat_lt (2 ^ 24) (n + length points)) (given_opened D stored i e) ∙ fits_false (2 ^ 24) (i.points_given + length points) fits)
    ∙ (λ j. record {
      state = (ap (λ (s : State). fold with_document s points) e ∙ all_more i points fits) j;
      text = loaded_text (length points) (next_opened D stored i e j + length points);
      refused = 0;
    })

-- the documents are at rest with the index
pub rest_done : (i : Index) (points : List (List ℤ)) → at_rest i ≡ i → at_rest (with_points i points) ≡ with_points i points
rest_done i points rests = rest_with i points ∙ ap (λ (j : Index). with_points j points) rests

-- ---- what the file gives

pub loaded_points : (D : ℕ) (stored : State) (input : List ℕ) (names : List (List ℕ)) (points : List (List ℤ)) → length names ≡ D
    → points_of names (records_of input) ≡ Ok points
    → load_answer stored input names ≡ columns_answer D stored points
unfolding load_answer
loaded_points D stored input names points named gives = ap (loaded_by names stored) gives ∙ ap (λ n. columns_answer n stored points) named

pub loaded_fault : (stored : State) (input : List ℕ) (names : List (List ℕ)) (fault : CsvFault) → points_of names (records_of input) ≡ Err fault
    → load_answer stored input names ≡ loaded_by names stored (Err fault)
unfolding load_answer
loaded_fault stored input names fault fails = ap (loaded_by names stored) fails
